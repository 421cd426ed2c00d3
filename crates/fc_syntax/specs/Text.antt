-- The canonical text of a program.
use Rattle.std.specs.Prelude.{ℕ, ◌+◌, nat_lt, ◌==◌, Bool, true, false, if◌then◌else◌, List, [], ◌∷◌, ◌++◌, map}
use Rattle.std.specs.Prelude.{flat_map, codes, decimal}
use Rattle.fc_values.specs.declared.builtins.Builtin.{Builtin}
use Rattle.fc_values.specs.declared.builtins.Builtin.TheVariants as b
use Rattle.fc_values.specs.declared.types.InputTy.{InputTy}
use Rattle.fc_values.specs.declared.types.InputTy.TheVariants as input
use Rattle.fc_values.specs.Types.{LocalType, IntType, BoolType, PairType, ValueType, TypeLocal, TypeField}
use Rattle.fc_syntax.specs.Terms.{SourceTerm, IntTerm, TruthTerm, VarTerm, UidTerm, NbrLinkTerm, SenseTerm, ApplyTerm}
use Rattle.fc_syntax.specs.Terms.{NbrTerm, RepTerm, ShareTerm, IfTerm, LetTerm, CallTerm, SourceTerms, NoTerms, MoreTerms}
use Rattle.fc_syntax.specs.Terms.{Parameter, Declaration, LanguageIs, CeilingIs, InputIs, MetricIs, DefIs, MainIs}

-- the strength of a builtin's form
abbrev pub builtin_strength : Builtin → ℕ
builtin_strength b.Or = 1
builtin_strength b.And = 2
builtin_strength b.Less = 3
builtin_strength b.Equal = 3
builtin_strength b.Add = 4
builtin_strength b.Sub = 4
builtin_strength b.Mul = 5
builtin_strength b.Not = 6
builtin_strength _ = 7

-- the mark or word of a builtin; that of a pair is empty
abbrev pub builtin_word : Builtin → List ℕ
builtin_word b.Add = codes "+"
builtin_word b.Sub = codes "-"
builtin_word b.Mul = codes "*"
builtin_word b.Min = codes "min"
builtin_word b.Max = codes "max"
builtin_word b.Less = codes "<"
builtin_word b.Equal = codes "="
builtin_word b.And = codes "and"
builtin_word b.Or = codes "or"
builtin_word b.Not = codes "not"
builtin_word b.Mux = codes "mux"
builtin_word b.Pair = []
builtin_word b.Fst = codes "fst"
builtin_word b.Snd = codes "snd"
builtin_word b.MinHoodLoc = codes "minHoodLoc"
builtin_word b.MaxHoodLoc = codes "maxHoodLoc"
builtin_word b.SumHood = codes "sumHood"
builtin_word b.AnyHood = codes "anyHood"
builtin_word b.AllHood = codes "allHood"
builtin_word b.Rise = codes "rise"

-- the strength of an expression's form
abbrev pub strength : SourceTerm → ℕ
strength (LetTerm x a b) = 0
strength (ApplyTerm b es) = builtin_strength b
strength _ = 7

-- an expression as it is written: its strength, and its text without brackets round it
pub record Written : Type 0 where
  pub strength : ℕ
  pub text : List ℕ

-- an operand at its place: in round brackets exactly where its strength is below the one that the place asks
abbrev pub operand_text : ℕ → Written → List ℕ
operand_text asks w = if nat_lt w.strength asks then codes "(" ++ w.text ++ codes ")" else w.text

-- what a left operand's place asks, by the operator's strength: that strength, and at a comparison 4
abbrev pub left_asks : ℕ → ℕ
left_asks own = if own == 3 then 4 else own

-- texts, each behind a comma and a space
abbrev pub behind_commas : List (List ℕ) → List ℕ
behind_commas = flat_map (λ text. codes ", " ++ text)

-- texts with a comma and a space between them
abbrev pub with_commas : List (List ℕ) → List ℕ
with_commas [] = []
with_commas (text ∷ texts) = text ++ behind_commas texts

-- a word and its arguments in brackets
abbrev pub call_text : List ℕ → List Written → List ℕ
call_text word args = word ++ codes "(" ++ with_commas (map (λ w. w.text) args) ++ codes ")"

-- an operator between its operands
abbrev pub between_text : Builtin → Written → Written → List ℕ
between_text b left right =
    operand_text (left_asks (builtin_strength b)) left ++ codes " " ++ builtin_word b ++ codes " "
    ++ operand_text (builtin_strength b + 1) right

-- A builtin and its arguments. An operator that has another number of operands than the grammar gives it, which no
-- program of the grammar holds, is written as `min` is.
abbrev pub apply_text : Builtin → List Written → List ℕ
apply_text b [] = call_text (builtin_word b) []
apply_text b (x ∷ []) =
    if builtin_strength b == 6 then builtin_word b ++ codes " " ++ operand_text 6 x
    else call_text (builtin_word b) (x ∷ [])
apply_text b (x ∷ y ∷ []) =
    if nat_lt (builtin_strength b) 6 then between_text b x y else call_text (builtin_word b) (x ∷ y ∷ [])
apply_text b (x ∷ y ∷ z ∷ rest) = call_text (builtin_word b) (x ∷ y ∷ z ∷ rest)

abbrev pub truth_text : Bool → List ℕ
truth_text true = codes "true"
truth_text false = codes "false"

-- the text of an expression without brackets round it, as where its place asks 0
abbrev mutual
  pub text : SourceTerm → List ℕ
  text (IntTerm n) = decimal n
  text (TruthTerm b) = truth_text b
  text (VarTerm x) = x
  text UidTerm = codes "uid"
  text NbrLinkTerm = codes "nbrLink"
  text (SenseTerm x) = codes "sense " ++ x
  text (ApplyTerm b es) = apply_text b (all_written es)
  text (NbrTerm e) = codes "nbr{" ++ text e ++ codes "}"
  text (RepTerm e x b) = codes "rep(" ++ text e ++ codes "){(" ++ x ++ codes ") => " ++ text b ++ codes "}"
  text (ShareTerm e x b) = codes "share(" ++ text e ++ codes "){(" ++ x ++ codes ") => " ++ text b ++ codes "}"
  text (IfTerm c a b) = codes "if (" ++ text c ++ codes ") {" ++ text a ++ codes "} {" ++ text b ++ codes "}"
  text (LetTerm x a b) = codes "let " ++ x ++ codes " = " ++ text a ++ codes " in " ++ text b
  text (CallTerm f es) = call_text f (all_written es)

  pub all_written : SourceTerms → List Written
  all_written NoTerms = []
  all_written (MoreTerms e es) = record { strength = strength e; text = text e } ∷ all_written es

-- an expression as it is written
abbrev pub written : SourceTerm → Written
written e = record { strength = strength e; text = text e }

abbrev pub local_type_text : LocalType → List ℕ
local_type_text IntType = codes "int"
local_type_text BoolType = codes "bool"
local_type_text (PairType s t) = codes "(" ++ local_type_text s ++ codes ", " ++ local_type_text t ++ codes ")"

abbrev pub type_text : ValueType → List ℕ
type_text (TypeLocal t) = local_type_text t
type_text (TypeField t) = codes "field " ++ local_type_text t

abbrev pub input_type_text : InputTy → List ℕ
input_type_text input.Truth = codes "bool"
input_type_text (input.Whole least greatest) = codes "int " ++ decimal least ++ codes ".." ++ decimal greatest

abbrev pub parameter_text : Parameter → List ℕ
parameter_text p = p.name ++ codes ": " ++ type_text p.type

-- a declaration, without its `;`
abbrev pub declaration_text : Declaration → List ℕ
declaration_text (LanguageIs n) = codes "language " ++ decimal n
declaration_text (CeilingIs n) = codes "ceiling " ++ decimal n
declaration_text (InputIs x t) = codes "input " ++ x ++ codes ": " ++ input_type_text t
declaration_text (MetricIs least greatest) = codes "metric " ++ decimal least ++ codes ".." ++ decimal greatest
declaration_text (DefIs f params result body) =
    codes "def " ++ f ++ codes "(" ++ with_commas (map parameter_text params) ++ codes "): " ++ type_text result
    ++ codes " = " ++ text body
declaration_text (MainIs e) = codes "main = " ++ text e

-- the canonical text: each declaration on a line that ends with `;` and a line feed
abbrev pub program_text : List Declaration → List ℕ
program_text = flat_map (λ d. declaration_text d ++ 59 ∷ 10 ∷ [])
