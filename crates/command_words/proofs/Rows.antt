-- The rows of what `clap` has found, looked up by their ids.
use Rattle.std.proofs.Common.{ℕ, ◌≡◌, Bool, true, false, true≢false, ◌||◌, if◌then◌else◌, is_some}
use Rattle.std.proofs.Common.{List, [], ◌∷◌, ◌++◌, append-nil, refl, sym, ap, ap₂, ◌∙◌, Option, Some, None}
use Rattle.std.specs.Prelude.{find, fold}
use Rattle.std.specs.Option.{option_or}
use Rattle.std.specs.Str.{bytes_eq}
use Rattle.std.proofs.lemmas.Slice.Eq.{bytes_eq-Decides}
use Rattle.clap.specs.Walk.{Row, Rule, at_row, default_rows, has_row, more_values, reading_by, with_default}
use Rattle.clap.specs.Walk.{with_values, without}
use Rattle.clap.specs.declared.builder.value_parser.Reading.{Reading}
use Rattle.clap.specs.declared.parser.matches.ValueSource.{ValueSource}
use Rattle.clap.specs.declared.parser.matches.ValueSource.TheVariants.{DefaultValue}

-- the first row of an id
abbrev pub found_row : List ℕ → List Row → Option Row
found_row id rows = find (λ (r : Row). bytes_eq r.id id) rows

-- the row of some values
abbrev pub row_with : List ℕ → Reading → ValueSource → List (List ℕ) → Row
row_with id how source values = record {
  id = id;
  values = values;
  count = None;
  source = Some source;
  reading = how;
}

same_id : (a b : List ℕ) → bytes_eq a b ≡ true → a ≡ b
same_id a b e = (bytes_eq-Decides a b).0 e

pub or_none : {A : Type 0} (o : Option A) → option_or o None ≡ o
or_none None = refl
or_none (Some x) = refl

or_or : {A : Type 0} (o p q : Option A) → option_or (option_or o p) q ≡ option_or o (option_or p q)
or_or None p q = refl
or_or (Some x) p q = refl

-- none of the rows is the first
none_first : (hit : Bool) (r : Row) (rest : Option Row) → (if hit then Some r else rest) ≡ None
    → (hit ≡ false) × (rest ≡ None)
none_first true r rest e = absurd cc
none_first false r rest e = (refl, e)

-- an id that no row has
pub no_row : (id : List ℕ) (rows : List Row) → found_row id rows ≡ None → has_row id rows ≡ false
no_row id [] e = refl
no_row id (r ∷ rows) e =
    let parts = none_first (bytes_eq r.id id) r (found_row id rows) e in
    ap₂ (λ a b. a || b) parts.0 (no_row id rows parts.1)

at_none : (id : List ℕ) (change : Row → List Row) (missing rows : List Row) → found_row id rows ≡ None
    → at_row id change missing rows ≡ rows ++ missing
at_none id change missing [] e = refl
at_none id change missing (r ∷ rows) e =
    let parts = none_first (bytes_eq r.id id) r (found_row id rows) e in
    ap (λ b. if b then change r ++ rows else r ∷ at_row id change missing rows) parts.0
    ∙ ap (λ rs. r ∷ rs) (at_none id change missing rows parts.1)

-- a row of a new id at the end
found_more : (rows : List Row) (r : Row) (id : List ℕ) → found_row r.id rows ≡ None
    → found_row id (rows ++ r ∷ []) ≡ (if bytes_eq r.id id then Some r else found_row id rows)
found_more [] r id e = refl
found_more (x ∷ rows) r id e =
    let parts = none_first (bytes_eq x.id r.id) x (found_row r.id rows) e in
    ap (λ o. if bytes_eq x.id id then Some x else o) (found_more rows r id parts.1)
    ∙ swapped (bytes_eq x.id id) (bytes_eq r.id id) refl refl parts.0
  where
    swapped : (a b : Bool) → bytes_eq x.id id ≡ a → bytes_eq r.id id ≡ b → bytes_eq x.id r.id ≡ false
        → (if a then Some x else (if b then Some r else found_row id rows))
        ≡ (if b then Some r else (if a then Some x else found_row id rows))
    swapped true true p q n =
        let same = same_id x.id id p ∙ sym (same_id r.id id q) in
        absurd (true≢false (sym ((bytes_eq-Decides x.id r.id).1 same) ∙ n))
    swapped true false p q n = refl
    swapped false b p q n = refl

-- a first use of an id
pub found_used : (id : List ℕ) (how : Reading) (source : ValueSource) (values : List (List ℕ)) (rows : List Row)
    (other : List ℕ) → found_row id rows ≡ None
    → found_row other (with_values id how source values (without id rows))
    ≡ (if bytes_eq id other then Some (row_with id how source values) else found_row other rows)
found_used id how source values rows other e =
    let kept : without id rows ≡ rows = at_none id (λ _. []) [] rows e ∙ append-nil rows in
    ap (λ rs. found_row other (with_values id how source values rs)) kept
    ∙ ap (found_row other) (at_none id (more_values source values) (row_with id how source values ∷ []) rows e)
    ∙ found_more rows (row_with id how source values) other e

-- ---- defaults
abbrev default_with : List ℕ → Reading → List (List ℕ) → Option Row
default_with id how [] = None
default_with id how (v ∷ vs) = Some (row_with id how DefaultValue (v ∷ vs))

-- the row of an argument that was not used
abbrev pub default_row : Rule → Option Row
default_row a = default_with a.id (reading_by a) a.defaults

-- the same of the first argument with this id that has defaults
abbrev pub default_in : List ℕ → List Rule → Option Row
default_in id [] = None
default_in id (a ∷ rules) = option_or (if bytes_eq a.id id then default_row a else None) (default_in id rules)

some_row : (id : List ℕ) (rows : List Row) → has_row id rows ≡ is_some (found_row id rows)
some_row id [] = refl
some_row id (r ∷ rows) =
    ap (λ b. bytes_eq r.id id || b) (some_row id rows) ∙ go (bytes_eq r.id id)
  where
    go : (b : Bool) → (b || is_some (found_row id rows)) ≡ is_some (if b then Some r else found_row id rows)
    go true = refl
    go false = refl

module _ (rows : List Row) (a : Rule) (id : List ℕ) where
  some_used : (o : Option Row) (b : Bool) → found_row a.id rows ≡ o → is_some o ≡ true → bytes_eq a.id id ≡ b
      → found_row id rows ≡ option_or (found_row id rows) (if b then default_row a else None)
  some_used None b e s p = absurd cc
  some_used (Some r) false e s p = sym (or_none (found_row id rows))
  some_used (Some r) true e s p =
      let is : found_row id rows ≡ Some r = ap (λ i. found_row i rows) (sym (same_id a.id id p)) ∙ e in
      is ∙ ap (λ o. option_or o (default_row a)) (sym is)

  none_used : (values : List (List ℕ)) (b : Bool) → found_row a.id rows ≡ None → bytes_eq a.id id ≡ b
      → found_row id (default_rows a.id (reading_by a) values rows)
      ≡ option_or (found_row id rows) (if b then default_with a.id (reading_by a) values else None)
  none_used [] true e p = sym (or_none (found_row id rows))
  none_used [] false e p = sym (or_none (found_row id rows))
  none_used (v ∷ vs) b e p =
      ap (found_row id) (at_none a.id (more_values DefaultValue (v ∷ vs))
      (row_with a.id (reading_by a) DefaultValue (v ∷ vs) ∷ []) rows e)
      ∙ found_more rows (row_with a.id (reading_by a) DefaultValue (v ∷ vs)) id e
      ∙ ap (λ c. if c then Some (row_with a.id (reading_by a) DefaultValue (v ∷ vs)) else found_row id rows) p
      ∙ by_test b p
    where
      by_test : (c : Bool) → bytes_eq a.id id ≡ c
          → (if c then Some (row_with a.id (reading_by a) DefaultValue (v ∷ vs)) else found_row id rows)
          ≡ option_or (found_row id rows) (if c then Some (row_with a.id (reading_by a) DefaultValue (v ∷ vs)) else None)
      by_test true q =
          ap (λ o. option_or o (Some (row_with a.id (reading_by a) DefaultValue (v ∷ vs))))
          (sym e ∙ ap (λ i. found_row i rows) (same_id a.id id q))
      by_test false q = sym (or_none (found_row id rows))

  found_default : found_row id (with_default rows a)
      ≡ option_or (found_row id rows) (if bytes_eq a.id id then default_row a else None)
  found_default =
      ap (λ b. found_row id (if b then rows else default_rows a.id (reading_by a) a.defaults rows)) (some_row a.id rows)
      ∙ go (found_row a.id rows) refl
    where
      go : (o : Option Row) → found_row a.id rows ≡ o
          → found_row id (if is_some o then rows else default_rows a.id (reading_by a) a.defaults rows)
          ≡ option_or (found_row id rows) (if bytes_eq a.id id then default_row a else None)
      go None e = none_used a.defaults (bytes_eq a.id id) e refl
      go (Some r) e = some_used (Some r) (bytes_eq a.id id) e refl refl

-- all the defaults
pub found_defaults : (rules : List Rule) (rows : List Row) (id : List ℕ)
    → found_row id (fold with_default rows rules) ≡ option_or (found_row id rows) (default_in id rules)
found_defaults [] rows id = sym (or_none (found_row id rows))
found_defaults (a ∷ rules) rows id =
    found_defaults rules (with_default rows a) id
    ∙ ap (λ o. option_or o (default_in id rules)) (found_default rows a id)
    ∙ or_or (found_row id rows) (if bytes_eq a.id id then default_row a else None) (default_in id rules)
