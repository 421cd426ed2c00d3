-- Two values of an expression of a body that differ only by what is heard of the body's variable.
use Rattle.std.specs.Prelude.{ℕ, suc, true, false, ◌≡◌, ◌+◌, List, [], ◌∷◌, Some}
use Rattle.fc_values.specs.declared.builtins.Builtin.{Builtin}
use Rattle.fc_values.specs.Types.{LocalType, ValueType, TypeField}
use Rattle.fc_values.specs.BuiltinTypes.{HasRule}
use Rattle.fc_values.specs.Values.{LocalValue}
use Rattle.fc_values.specs.Fields.{Entries, AnyValue, ValueLocal, ValueField, FitsOver}
use Rattle.fc_values.specs.Builtins.{builtin_value}
use Rattle.fc_nodes.specs.Typing.{types_of}
use Rattle.fc_nodes.specs.Terms.{Evolution, Term, Terms, Plain, Apply, Nbr, Evolve, If, Let, NoMore, More, term_type, size}
use Rattle.interval_facts.specs.Ranges.{RangeValue, LiesIn}
use Rattle.fc_nodes.specs.Variables.{occurs, occurs_in, is_variable, is_heard}

-- two fields over the same devices, entry by entry
abbrev pub Pairs : (ℕ → LocalValue → LocalValue → Type 0) → Entries → Entries → Type 0
Pairs P [] [] = Unit {0}
Pairs P [] (f ∷ fs) = ⊥
Pairs P (e ∷ es) [] = ⊥
Pairs P (e ∷ es) (f ∷ fs) = (e.0 ≡ f.0) × P e.0 e.1 f.1 × Pairs P es fs

abbrev pub FieldPair : (ℕ → LocalValue → LocalValue → Type 0) → AnyValue → AnyValue → Type 0
FieldPair P (ValueField es) (ValueField fs) = Pairs P es fs
FieldPair P (ValueField es) (ValueLocal w) = ⊥
FieldPair P (ValueLocal v) w = ⊥

-- The values v and w that the term at place p has at device d, over the devices ds. A part without the variable x has
-- one value, of which Part holds. What is heard of x is a pair of values of which Near holds. Builtins join these.
mutual
  pub data Beside (m d : ℕ) (ds : List ℕ) (e : Evolution) (x : ℕ) (Near : AnyValue → AnyValue → Type 0)
      (Part : ℕ → Term → AnyValue → Type 0)
      : ℕ → Term → AnyValue → AnyValue → Type 0 where
    apart : {v w : AnyValue} (p : ℕ) (h : Term) → occurs x h ≡ false → v ≡ w → Part p h w
        → Beside m d ds e x Near Part p h v w
    heard : {v w : AnyValue} (p : ℕ) (h : Term) → is_heard e x h ≡ true → Near v w
        → FitsOver m ds (term_type h) v → FitsOver m ds (term_type h) w
        → Beside m d ds e x Near Part p h v w
    joined : {v w : AnyValue} (p : ℕ) (t : ValueType) (o : Builtin) (xs : Terms) (vs ws : List AnyValue)
        → HasRule o (types_of xs) t
        → occurs_in x xs ≡ true → BesideAll m d ds e x Near Part (suc p) xs vs ws
        → builtin_value o m d vs ≡ Some v → builtin_value o m d ws ≡ Some w
        → Beside m d ds e x Near Part p (Apply t o xs) v w

  pub data BesideAll (m d : ℕ) (ds : List ℕ) (e : Evolution) (x : ℕ) (Near : AnyValue → AnyValue → Type 0)
      (Part : ℕ → Term → AnyValue → Type 0)
      : ℕ → Terms → List AnyValue → List AnyValue → Type 0 where
    no_more : (p : ℕ) → BesideAll m d ds e x Near Part p NoMore [] []
    one_more : (p : ℕ) (t : Term) (ts : Terms) (v w : AnyValue) (vs ws : List AnyValue)
        → Beside m d ds e x Near Part p t v w
        → BesideAll m d ds e x Near Part (p + size t) ts vs ws
        → BesideAll m d ds e x Near Part p (More t ts) (v ∷ vs) (w ∷ ws)

-- each occurrence of the variable is in what is heard of it, under builtins alone
abbrev mutual
  pub Shallow : Evolution → ℕ → LocalType → Term → Type 0
  Shallow e x s (Apply t o xs) = HasRule o (types_of xs) t × AllShallow e x s xs
  Shallow e x s (Plain t l) = (is_variable x l ≡ true → (is_heard e x (Plain t l) ≡ true) × (t ≡ TypeField s))
  Shallow e x s (Nbr t a) = (occurs x a ≡ true → (is_heard e x (Nbr t a) ≡ true) × (t ≡ TypeField s))
  Shallow e x s (Evolve t f a u) = occurs x (Evolve t f a u) ≡ false
  Shallow e x s (If t c u w) = occurs x (If t c u w) ≡ false
  Shallow e x s (Let t a u) = occurs x (Let t a u) ≡ false

  pub AllShallow : Evolution → ℕ → LocalType → Terms → Type 0
  AllShallow e x s NoMore = Unit {0}
  AllShallow e x s (More t ts) = Shallow e x s t × AllShallow e x s ts

-- what is heard of the variable over its devices: the values a on one side, and b on the other
abbrev pub Hears : (ℕ → LocalValue) → (ℕ → LocalValue) → AnyValue → AnyValue → Type 0
Hears a b = FieldPair (λ n v w. (v ≡ a n) × (w ≡ b n))

-- a part fits its type, and lies in its range
abbrev pub IsPart : ℕ → List ℕ → (ℕ → RangeValue) → ℕ → Term → AnyValue → Type 0
IsPart m ds rs p h w = FitsOver m ds (term_type h) w × LiesIn (rs p) w
