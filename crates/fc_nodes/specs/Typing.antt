-- The typing rules of terms.
use Rattle.std.specs.Prelude.{ℕ, suc, ◌≡◌, ◌≤◌, ◌+◌, List, [], ◌∷◌, Option, Some, None, nat_eq, if◌then◌else◌, slice_get, option_map}
use Rattle.fc_values.specs.Types.{LocalType, IntType, BoolType, ValueType, TypeLocal, TypeField, Declarations, Input, input_type}
use Rattle.fc_values.specs.Values.{LocalValue, IntValue, BoolValue, PairValue}
use Rattle.fc_values.specs.BuiltinTypes.{HasRule}
use Rattle.fc_nodes.specs.Terms.{Leaf, Literal, Variable, Sense, Uid, NbrLink, Evolution, ByRep, ByShare, Term, Terms, Plain, Apply, Nbr, Evolve, If, Let, NoMore, More, term_type, size}

-- the binders in scope, by their places, with the types of their variables; the nearest counts
abbrev pub Scope : Type 0
Scope = List (ℕ × ValueType)

abbrev pub type_at : ℕ → Scope → Option ValueType
type_at n [] = None
type_at n (b ∷ bs) = if nat_eq b.0 n then Some b.1 else type_at n bs

-- the type of a declared input
abbrev pub sense_type : Declarations → ℕ → Option LocalType
sense_type D i = option_map (λ (x : Input). input_type x.type) (slice_get D.inputs i)

abbrev pub IsLiteral : ℕ → ValueType → LocalValue → Type 0
IsLiteral ceiling t (IntValue n) = (t ≡ TypeLocal IntType) × (n ≤ ceiling)
IsLiteral ceiling t (BoolValue b) = t ≡ TypeLocal BoolType
IsLiteral ceiling t (PairValue a b) = ⊥

abbrev pub LeafHasType : Declarations → Scope → ValueType → Leaf → Type 0
LeafHasType D scope t (Literal v) = IsLiteral D.ceiling t v
LeafHasType D scope t (Variable n) = type_at n scope ≡ Some t
LeafHasType D scope t (Sense i) = (s : LocalType) × (sense_type D i ≡ Some s) × (t ≡ TypeLocal s)
LeafHasType D scope t Uid = t ≡ TypeLocal IntType
LeafHasType D scope t NbrLink = t ≡ TypeField IntType

-- what the variable of a `rep`, and of a `share`, is
abbrev pub evolving_type : Evolution → LocalType → ValueType
evolving_type ByRep s = TypeLocal s
evolving_type ByShare s = TypeField s

-- the types of terms in a row
abbrev pub types_of : Terms → List ValueType
types_of NoMore = []
types_of (More x xs) = term_type x ∷ types_of xs

-- a term that stands at a place has the types that it names
abbrev mutual
  pub HasType : Declarations → Scope → ℕ → Term → Type 0
  HasType D scope p (Plain t l) = LeafHasType D scope t l
  HasType D scope p (Apply t o xs) = HasRule o (types_of xs) t × HaveTypes D scope (suc p) xs
  HasType D scope p (Nbr t a) =
      (s : LocalType) × (t ≡ TypeField s) × (term_type a ≡ TypeLocal s) × HasType D scope (suc p) a
  HasType D scope p (Evolve t e a b) =
      (s : LocalType) × (t ≡ TypeLocal s) × (term_type a ≡ TypeLocal s) × (term_type b ≡ TypeLocal s)
      × HasType D scope (suc p) a × HasType D ((p, evolving_type e s) ∷ scope) (suc p + size a) b
  HasType D scope p (If t c a b) = (s : LocalType) × (t ≡ TypeLocal s) × (term_type c ≡ TypeLocal BoolType)
      × (term_type a ≡ TypeLocal s) × (term_type b ≡ TypeLocal s)
      × HasType D scope (suc p) c × HasType D scope (suc p + size c) a × HasType D scope (suc p + size c + size a) b
  HasType D scope p (Let t a b) =
      (t ≡ term_type b) × HasType D scope (suc p) a × HasType D ((p, term_type a) ∷ scope) (suc p + size a) b

  pub HaveTypes : Declarations → Scope → ℕ → Terms → Type 0
  HaveTypes D scope p NoMore = Unit {0}
  HaveTypes D scope p (More x xs) = HasType D scope p x × HaveTypes D scope (p + size x) xs
