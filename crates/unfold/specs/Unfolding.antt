-- `main` with each call replaced by one `let` per argument around the function's body.
use Rattle.std.specs.Prelude.{ℕ, suc, ◌+◌, if◌then◌else◌, List, [], ◌∷◌, ◌++◌, Option, Some, None, bytes_eq, option_map, slice_get}
use Rattle.fc_values.specs.declared.builtins.Builtin.{Builtin}
use Rattle.fc_values.specs.Types.{IntType, BoolType, ValueType, TypeLocal, TypeField, Input, input_type}
use Rattle.fc_values.specs.Values.{IntValue, BoolValue}
use Rattle.fc_values.specs.BuiltinTypes.{inner}
use Rattle.fc_syntax.specs.Terms.{SourceTerm, IntTerm, TruthTerm, VarTerm, UidTerm, NbrLinkTerm, SenseTerm, ApplyTerm, NbrTerm, RepTerm, ShareTerm, IfTerm, LetTerm, CallTerm, SourceTerms, NoTerms, MoreTerms, Parameter, Declaration, LanguageIs, CeilingIs, InputIs, MetricIs, DefIs, MainIs}
use Rattle.fc_types.specs.Before.{Function, nothing_declared, with_declarations}
use Rattle.fc_types.specs.Faults.{shared_type}
use Rattle.fc_types.specs.Judging.{JudgedType, TypeFound, FaultFound, judge_builtin}
use Rattle.fc_nodes.specs.Terms.{Literal, Variable, Sense, Uid, NbrLink, Evolution, ByRep, ByShare, Term, Terms, Plain, Apply, Nbr, Evolve, If, Let, NoMore, More, term_type, size}
use Rattle.fc_nodes.specs.Typing.{types_of}

-- a name in scope: the place of the node that binds it, and its type
pub record Binder : Type 0 where
  pub name : List ℕ
  pub place : ℕ
  pub type : ValueType

-- the names in scope, the nearest first
abbrev pub NamesInScope : Type 0
NamesInScope = List Binder

abbrev pub binder_of : List ℕ → NamesInScope → Option Binder
binder_of x [] = None
binder_of x (b ∷ scope) = if bytes_eq x b.name then Some b else binder_of x scope

-- a function, and what its body is at a place, in the scope of its parameters
pub record Meaning : Type 0 where
  pub name : List ℕ
  pub params : List Parameter
  pub body : NamesInScope → ℕ → Term

abbrev pub meaning_of : List ℕ → List Meaning → Option Meaning
meaning_of x [] = None
meaning_of x (m ∷ ms) = if bytes_eq x m.name then Some m else meaning_of x ms

-- what stands for an expression that has no type; no typed program has one
abbrev pub untyped : Term
untyped = Plain (TypeLocal IntType) NbrLink

abbrev pub variable_term : Option Binder → Term
variable_term None = untyped
variable_term (Some b) = Plain b.type (Variable b.place)

-- an input by its number, in declared order
abbrev pub numbered_term : ℕ → Option Input → Term
numbered_term n None = untyped
numbered_term n (Some i) = Plain (TypeLocal (input_type i.type)) (Sense n)

abbrev pub input_number : List ℕ → List Input → Option ℕ
input_number x [] = None
input_number x (i ∷ is) = if bytes_eq x i.name then Some 0 else option_map suc (input_number x is)

abbrev pub sense_by : List Input → Option ℕ → Term
sense_by is None = untyped
sense_by is (Some n) = numbered_term n (slice_get is n)

-- the type that a builtin gives
abbrev pub type_given : JudgedType → ValueType
type_given (TypeFound t) = t
type_given (FaultFound k) = TypeLocal IntType

abbrev pub apply_term : Builtin → Terms → Term
apply_term b xs = Apply (type_given (judge_builtin b (types_of xs))) b xs

abbrev pub nbr_term : Term → Term
nbr_term a = Nbr (TypeField (inner (term_type a))) a

-- the type of the variable, from that of the first expression
abbrev pub variable_type : Evolution → ValueType → ValueType
variable_type ByRep t = t
variable_type ByShare t = shared_type t

abbrev pub with_binder : List ℕ → ℕ → ValueType → NamesInScope → NamesInScope
with_binder x p t scope = record { name = x; place = p; type = t } ∷ scope

-- Nodes at a place from what their kids are. The first kid stands behind the node, and each further one behind the last
-- node of the one before.
abbrev pub evolve_term : Evolution → List ℕ → NamesInScope → ℕ → Term → (NamesInScope → ℕ → Term) → Term
evolve_term v x scope p a body =
    Evolve (term_type a) v a (body (with_binder x p (variable_type v (term_type a)) scope) (suc p + size a))

abbrev pub branches : ℕ → Term → Term → (ℕ → Term) → Term
branches p c a other = If (term_type a) c a (other (suc p + size c + size a))

abbrev pub if_term : ℕ → Term → (ℕ → Term) → (ℕ → Term) → Term
if_term p c then_by else_by = branches p c (then_by (suc p + size c)) else_by

abbrev pub let_around : Term → Term → Term
let_around a b = Let (term_type b) a b

abbrev pub let_term : List ℕ → NamesInScope → ℕ → Term → (NamesInScope → ℕ → Term) → Term
let_term x scope p a body = let_around a (body (with_binder x p (term_type a) scope) (suc p + size a))

-- an argument of a call: a `let` that binds the next parameter
abbrev pub with_argument : List Parameter → ℕ → ValueType → NamesInScope → NamesInScope
with_argument [] p t given = given
with_argument (x ∷ params) p t given = given ++ record { name = x.name; place = p; type = t } ∷ []

abbrev pub behind_first : List Parameter → List Parameter
behind_first [] = []
behind_first (x ∷ params) = params

abbrev pub argument_term : List Parameter → NamesInScope → ℕ → Term → (NamesInScope → ℕ → Term) → Term
argument_term params given p a next = let_around a (next (with_argument params p (term_type a) given) (suc p + size a))

abbrev pub params_of : Option Meaning → List Parameter
params_of None = []
params_of (Some m) = m.params

abbrev pub body_of : Option Meaning → NamesInScope → ℕ → Term
body_of None given p = untyped
body_of (Some m) given p = m.body given p

abbrev pub more_terms : ℕ → Term → (ℕ → Terms) → Terms
more_terms p a next = More a (next (p + size a))

-- An expression that stands at a place, in a scope, with the inputs of the program and what the functions before are.
-- An argument of a call is read in the scope of the call, and the body in that of the parameters alone.
abbrev mutual
  pub unfolded : List Input → List Meaning → NamesInScope → ℕ → SourceTerm → Term
  unfolded is ms scope p (IntTerm n) = Plain (TypeLocal IntType) (Literal (IntValue n))
  unfolded is ms scope p (TruthTerm b) = Plain (TypeLocal BoolType) (Literal (BoolValue b))
  unfolded is ms scope p (VarTerm x) = variable_term (binder_of x scope)
  unfolded is ms scope p UidTerm = Plain (TypeLocal IntType) Uid
  unfolded is ms scope p NbrLinkTerm = Plain (TypeField IntType) NbrLink
  unfolded is ms scope p (SenseTerm x) = sense_by is (input_number x is)
  unfolded is ms scope p (ApplyTerm b es) = apply_term b (unfolded_all is ms scope (suc p) es)
  unfolded is ms scope p (NbrTerm e) = nbr_term (unfolded is ms scope (suc p) e)
  unfolded is ms scope p (RepTerm e x b) =
      evolve_term ByRep x scope p (unfolded is ms scope (suc p) e) (λ inner q. unfolded is ms inner q b)
  unfolded is ms scope p (ShareTerm e x b) =
      evolve_term ByShare x scope p (unfolded is ms scope (suc p) e) (λ inner q. unfolded is ms inner q b)
  unfolded is ms scope p (IfTerm c a b) =
      if_term p (unfolded is ms scope (suc p) c) (λ q. unfolded is ms scope q a) (λ q. unfolded is ms scope q b)
  unfolded is ms scope p (LetTerm x a b) =
      let_term x scope p (unfolded is ms scope (suc p) a) (λ inner q. unfolded is ms inner q b)
  unfolded is ms scope p (CallTerm f es) =
      unfolded_call is ms scope (params_of (meaning_of f ms)) [] p (body_of (meaning_of f ms)) es

  pub unfolded_call : List Input → List Meaning → NamesInScope → List Parameter → NamesInScope → ℕ
      → (NamesInScope → ℕ → Term)
      → SourceTerms → Term
  unfolded_call is ms scope params given p body NoTerms = body given p
  unfolded_call is ms scope params given p body (MoreTerms e es) =
      argument_term params given p (unfolded is ms scope (suc p) e)
      (λ more q. unfolded_call is ms scope (behind_first params) more q body es)

  pub unfolded_all : List Input → List Meaning → NamesInScope → ℕ → SourceTerms → Terms
  unfolded_all is ms scope p NoTerms = NoMore
  unfolded_all is ms scope p (MoreTerms e es) =
      more_terms p (unfolded is ms scope p e) (λ q. unfolded_all is ms scope q es)

-- what functions are, each with those before it
abbrev pub meaning : List Input → List Meaning → Function → Meaning
meaning is ms f = record { name = f.name; params = f.params; body = λ given p. unfolded is ms given p f.body }

abbrev pub meanings : List Input → List Meaning → List Function → List Meaning
meanings is ms [] = ms
meanings is ms (f ∷ fs) = meanings is (ms ++ meaning is ms f ∷ []) fs

-- the expression of `main`
abbrev pub main_expression : List Declaration → SourceTerm
main_expression [] = UidTerm
main_expression (MainIs e ∷ ds) = e
main_expression (LanguageIs n ∷ ds) = main_expression ds
main_expression (CeilingIs n ∷ ds) = main_expression ds
main_expression (InputIs x t ∷ ds) = main_expression ds
main_expression (MetricIs least greatest ∷ ds) = main_expression ds
main_expression (DefIs f params result body ∷ ds) = main_expression ds

-- `main`, unfolded
abbrev pub main_term : List Declaration → Term
main_term ds =
    unfolded (with_declarations nothing_declared ds).inputs
    (meanings (with_declarations nothing_declared ds).inputs [] (with_declarations nothing_declared ds).functions) [] 0
    (main_expression ds)
