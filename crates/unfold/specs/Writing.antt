-- What the code that writes nodes works with.
use Rattle.std.specs.Prelude.{ℕ, List, [], ◌∷◌, ◌++◌, map, take, drop, length, ◌+◌, ◌<◌, ◌≤◌, Option, Some, None, ◌≡◌}
use Rattle.std.specs.Borrow.{Bor}
use Rattle.fc_values.specs.declared.types.InputTy.{InputTy}
use Rattle.fc_values.specs.declared.types.Name.{Name}
use Rattle.fc_values.specs.declared.types.Ty.{Ty}
use Rattle.fc_values.specs.Types.{ValueType, TypeLocal, input_type, type_of}
use Rattle.fc_syntax.specs.declared.tree.Expr.{Expr}
use Rattle.fc_syntax.specs.Terms.{SourceTerm, SourceTerms, CallTerm, NoTerms, Parameter, parameter_of, term_of}
use Rattle.fc_types.specs.Before.{Earlier, Function}
use Rattle.fc_types.specs.Views.{known_of}
use Rattle.fc_nodes.specs.declared.nodes.Node.{Node}
use Rattle.fc_nodes.specs.Terms.{Variable, Sense, Term, Terms, Plain, view_of, term_type}
use Rattle.unfold.specs.declared.faults.UnfoldFault.{UnfoldFault}
use Rattle.unfold.specs.declared.faults.UnfoldFault.TheVariants as fault
use Rattle.unfold.specs.declared.scopes.Argument.{Argument}
use Rattle.unfold.specs.declared.scopes.Scope.{Scope as AScope}
use Rattle.unfold.specs.declared.scopes.Scope.TheVariants as scope
use Rattle.unfold.specs.declared.scopes.Surroundings.{Surroundings as LentSurroundings}
use Rattle.fc_values.specs.declared.limits.TheConstants.{MOST_NODES}
use Rattle.unfold.specs.Counting.{count, count_all, count_arguments, size_of}
use Rattle.unfold.specs.Found.{FirstAt, NoneAmong}
use Rattle.unfold.specs.Nodes.{listed}
use Rattle.unfold.specs.Unfolding.{NamesInScope, with_binder, Meaning, meaning_of, meanings, params_of, body_of, untyped, unfolded, unfolded_call, unfolded_all}
use Rattle.unfold.specs.Views.{counted}

-- an argument: the place of the `let` that binds it, and its type
abbrev pub argument_of : Argument → ℕ × ValueType
argument_of a = (a.place, type_of a.ty)

-- parameters with their arguments
abbrev pub arguments : List (ℕ × ValueType) → List Parameter → NamesInScope
arguments [] params = []
arguments (a ∷ given) [] = []
arguments (a ∷ given) (x ∷ params) = record { name = x.name; place = a.0; type = a.1 } ∷ arguments given params

abbrev pub scope_of : AScope → NamesInScope
scope_of (scope.Arguments params given) = arguments (map argument_of given.now) (map parameter_of params.now)
scope_of (scope.Bind' x n t p rest) = with_binder x.now.text.items n (type_of t.now) (scope_of rest)

-- the term of a name that was looked for in a scope, and of an input
abbrev pub found_term : Option (ℕ × Bor Ty) → Term
found_term None = untyped
found_term (Some r) = Plain (type_of r.1.now) (Variable r.0)

abbrev pub input_term : Option (ℕ × InputTy) → Term
input_term None = untyped
input_term (Some r) = Plain (TypeLocal (input_type r.1)) (Sense r.0)

-- what the first so many functions are
abbrev pub first_meanings : Earlier → ℕ → List Meaning
first_meanings B n = meanings B.inputs [] (take n B.functions)

-- an expression that sees the first so many functions
abbrev pub unfolded_in : Earlier → ℕ → NamesInScope → ℕ → SourceTerm → Term
unfolded_in B n scope p e = unfolded B.inputs (first_meanings B n) scope p e

abbrev pub all_unfolded_in : Earlier → ℕ → NamesInScope → ℕ → SourceTerms → Terms
all_unfolded_in B n scope p es = unfolded_all B.inputs (first_meanings B n) scope p es

-- what is left of a call, behind the arguments that are given
abbrev pub call_by : List Meaning → Earlier → NamesInScope → List Parameter → (NamesInScope → ℕ → Term)
    → List (ℕ × ValueType) → ℕ
    → SourceTerms → Term
call_by ms B scope params body given p es =
    unfolded_call B.inputs ms scope (drop (length given) params) (arguments given params) p body es

abbrev pub call_in : Earlier → ℕ → NamesInScope → List ℕ → List (ℕ × ValueType) → ℕ → SourceTerms → Term
call_in B n scope f given p es =
    call_by (first_meanings B n) B scope (params_of (meaning_of f (first_meanings B n)))
    (body_of (meaning_of f (first_meanings B n))) given p es

-- what an expression is read in: what the program declares, how many of its functions are seen, and the names in scope
pub record Surroundings : Type 0 where
  pub known : Earlier
  pub visible : ℕ
  pub scope : NamesInScope

abbrev pub surroundings_of : LentSurroundings → Surroundings
surroundings_of s = record { known = known_of s.known.now; visible = s.visible; scope = scope_of s.scope.now }

-- how many nodes an expression has, and expressions in a row, and a call
abbrev pub nodes_in : Surroundings → SourceTerm → ℕ
nodes_in s e = count (counted s.known s.visible) e

abbrev pub all_nodes_in : Surroundings → SourceTerms → ℕ
all_nodes_in s es = count_all (counted s.known s.visible) es

abbrev pub call_nodes_in : Surroundings → List ℕ → SourceTerms → ℕ
call_nodes_in s f es = count_arguments (counted s.known s.visible) es + size_of f (counted s.known s.visible)

-- what they are at a place
abbrev pub unfolded_by : Surroundings → ℕ → SourceTerm → Term
unfolded_by s p e = unfolded_in s.known s.visible s.scope p e

abbrev pub all_unfolded_by : Surroundings → ℕ → SourceTerms → Terms
all_unfolded_by s p es = all_unfolded_in s.known s.visible s.scope p es

abbrev pub call_within : Surroundings → List ℕ → List (ℕ × ValueType) → ℕ → SourceTerms → Term
call_within s f given p es = call_in s.known s.visible s.scope f given p es

-- so many more nodes are within the limit
abbrev pub HasRoom : List Node → ℕ → Type 0
HasRoom before n = length before + n ≤ MOST_NODES

-- there are so many more nodes
abbrev pub IsLonger : List Node → List Node → ℕ → Type 0
IsLonger before after n = length after ≡ length before + n

-- the nodes of a term are put behind others, and this is its type
pub record IsWritten (before after : List Node) (t : Ty) (u : Term) : Type 0 where
  pub nodes : map view_of after ≡ map view_of before ++ listed (length before) u
  pub type : type_of t ≡ term_type u

-- the body of a function is a call of another one, without arguments
abbrev pub IsBareCall : Earlier → ℕ → List ℕ → Option (ℕ × Bor Name) → Type 0
IsBareCall B visible x None = Unit {0}
IsBareCall B visible x (Some r) =
    (f : Function) × FirstAt x B.functions r.0 f × (r.0 < visible) × (f.body ≡ CallTerm r.1.now.text.items NoTerms)

-- two calls without arguments come to the same nodes
pub record SameCall (B : Earlier) (n : ℕ) (f : List ℕ) (m : ℕ) (g : List ℕ) : Type 0 where
  pub term : (scope : NamesInScope) (p : ℕ) → unfolded_in B n scope p (CallTerm f NoTerms)
      ≡ unfolded_in B m scope p (CallTerm g NoTerms)
  pub size : size_of f (counted B n) ≡ size_of g (counted B m)

-- a call without arguments comes to the body of this function
pub record ComesTo (B : Earlier) (n : ℕ) (f : List ℕ) (j : ℕ) (body : SourceTerm) : Type 0 where
  pub seen : ℕ
  pub last : List ℕ
  pub function : Function
  pub same : SameCall B n f seen last
  pub fewer : seen ≤ n
  pub first : FirstAt last B.functions j function
  pub earlier : j < seen
  pub body_is : function.body ≡ body

-- such a body, with how many functions it sees; or the call comes to one of a function that isn't there
abbrev pub IsLastBody : Earlier → ℕ → List ℕ → Option (ℕ × Bor Expr) → Type 0
IsLastBody B n f None = (m : ℕ) × (g : List ℕ) × SameCall B n f m g × NoneAmong g B.functions m
IsLastBody B n f (Some r) = ComesTo B n f r.0 (term_of r.1.now)

-- what is said of the size of a program that is too large
abbrev pub IfTooLarge : UnfoldFault → (ℕ → Type 0) → Type 0
IfTooLarge (fault.TooLarge n) P = P n
IfTooLarge fault.Memory P = Unit {0}
