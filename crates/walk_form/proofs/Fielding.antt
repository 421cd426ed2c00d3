-- Crates above cite this module: the one field of a term of the walk form, and its integers.
use Rattle.std.proofs.Common.{◌≡◌, inl, inr, ℕ, suc, ◌≤◌, ◌+◌, List, [], ◌∷◌, map, refl, sym, ◌∙◌, ap, ap₂, subst, arith, Bool, true, false, ◌||◌, Some, None, nat_eq}
use Rattle.std.specs.Prelude.{if◌then◌else◌}
use Rattle.std.specs.List.{Contains}
use Rattle.std.proofs.lemmas.Bool.{eqb-true, eq-eqb}
use Rattle.fc_values.specs.Types.{LocalType, IntType, TypeLocal}
use Rattle.fc_values.specs.Values.{LocalValue, IntValue, BoolValue, PairValue}
use Rattle.fc_values.specs.Fields.{Entries, AnyValue, ValueLocal, ValueField, FitsOver, is_in}
use Rattle.fc_nodes.specs.Terms.{ByRep, Term, Evolve, term_type, size}
use Rattle.fc_nodes.specs.Typing.{Scope, HasType}
use Rattle.fc_nodes.specs.Variables.{occurs}
use Rattle.fc_nodes.specs.Program.{Program, Unfolding, unfolding_of, IsProgram}
use Rattle.topology.specs.Networks.{Network, IsNetwork, Lives, lives, numbers}
use Rattle.interval_facts.specs.Ranges.{IntRange, Bounds, full, LiesIn, range_of, node_ranges}
use Rattle.interval_facts.specs.Solutions.{Devices, ValueMap, ValueMaps, bind, around, local_map, no_binders, Solves}
use Rattle.interval_facts.specs.Claims.{InRanges}
use Rattle.interval_facts.specs.Scopes.{BoundsHold}
use Rattle.interval_facts.proofs.Claims.{fits_of, in_ranges}
use Rattle.interval_facts.proofs.Tables.{Shows}
use Rattle.rise.proofs.WithoutRise.{solves_agree}
use Rattle.converge_laws.specs.Fragment.{Analysis, IsFor}
use Rattle.converge_laws.specs.Laws.{SolutionsAreOne}
use Rattle.converge_laws.specs.Stabilising.{HasOneSolution}
use Rattle.converge_laws.proofs.Agreement.{AgreeFor}
use Rattle.converge_laws.proofs.Existing.{solves_vars}
use Rattle.stable_field.proofs.OneField.{same_entries}
use Rattle.stable_field.specs.Stable.{IsStableField}
use Rattle.walks.proofs.Settling.{contains_first, contains_here, contains_later}
use Rattle.walk_form.specs.Alone.{alone_term}
use Rattle.walk_form.specs.Fields.{SolvesAt, HasOneField, as_integer, IsFieldAt, integer_in, integers_in}
use Rattle.walk_form.proofs.Laying.{filled}
use Rattle.walk_form.proofs.Judging.{body_shows}
use Rattle.walk_form.proofs.Parts.{Part}
use Rattle.walk_form.proofs.Under.{shows_under, solves_under, typed_under}

-- ---- a variable that doesn't occur

pub free_agree : (D : Devices) (t : Term) (x : ℕ) (G : ValueMap) (V : ValueMaps) → occurs x t ≡ false → AgreeFor D t (bind x G V) V
free_agree D t x G V free q o d i = by_test (nat_eq x q) refl
  where
    by_test : (c : Bool) → nat_eq x q ≡ c → (if c then G else V q) d ≡ V q d
    by_test true k = let z : x ≡ q = eqb-true x q k in let n : occurs q t ≡ false = subst (λ y. occurs y t ≡ false) z free in absurd cc
    by_test false k = refl

-- ---- integers

abbrev pub local_in : AnyValue → LocalValue
local_in (ValueLocal v) = v
local_in (ValueField es) = IntValue 0

integer_back : (m : ℕ) (ds : List ℕ) (v : AnyValue) → FitsOver m ds (TypeLocal IntType) v → (v ≡ ValueLocal (local_in v)) × (local_in v ≡ IntValue (integer_in (local_in v))) × (integer_in (local_in v) ≤ m)
integer_back m ds (ValueLocal (IntValue n)) h = (refl, refl, h)
integer_back m ds (ValueLocal (BoolValue b)) h = absurd h
integer_back m ds (ValueLocal (PairValue a b)) h = absurd h
integer_back m ds (ValueField es) h = absurd h

-- a field of integers
pub record Integers (N : Network) (f : ℕ → LocalValue) : Type 0 where
  pub is : (d : ℕ) → Lives N d → f d ≡ IntValue (integer_in (f d))
  pub most : (d : ℕ) → Lives N d → integer_in (f d) ≤ N.declared.ceiling

pub solved_integers : (N : Network) (p : ℕ) (t : Term) (f : ℕ → LocalValue) → term_type t ≡ TypeLocal IntType → SolvesAt N p t f → Integers N f
solved_integers N p t f ty s =
    let fit = fits_of N t p (lives N) no_binders (local_map f) s in
    let at : (d : ℕ) → Lives N d → FitsOver N.declared.ceiling (around N (lives N) d) (TypeLocal IntType) (ValueLocal (f d)) =
    λ d i. subst (λ u. FitsOver N.declared.ceiling (around N (lives N) d) u (ValueLocal (f d))) ty (fit d i) in
    record {
      is = λ d i. (integer_back N.declared.ceiling (around N (lives N) d) (ValueLocal (f d)) (at d i)).1;
      most = λ d i. (integer_back N.declared.ceiling (around N (lives N) d) (ValueLocal (f d)) (at d i)).2;
    }

-- ---- exactly one field

module _ (one_law : SolutionsAreOne) (P : Program) (N : Network) (is : IsProgram P) (net : IsNetwork N) (same : N.declared ≡ P.declared)
    (A : Analysis) (for : IsFor A N) (ranges : A.ranges ≡ range_of (unfolding_of P)) where
  abbrev M : ℕ
  M = N.declared.ceiling

  abbrev U : Unfolding
  U = unfolding_of P

  abbrev scope : Scope
  scope = (0, TypeLocal IntType) ∷ []

  abbrev bounds : Bounds
  bounds = (0, full M IntType) ∷ []

  holds : BoundsHold (lives N) bounds no_binders
  holds n r e d i = by_test (nat_eq 0 n) e
    where
      by_test : (c : Bool) → (if c then Some (full M IntType) else None) ≡ Some r → LiesIn r (ValueLocal (IntValue 0))
      by_test true e = let z : IntRange 0 M ≡ r = cc in subst (λ y. LiesIn y (ValueLocal (IntValue 0))) z (omega arith, omega arith)
      by_test false e = absurd cc

  body_typed : (a b : Term) → U.main ≡ Evolve (TypeLocal IntType) ByRep a b → HasType N.declared scope (suc 0 + size a) b
  body_typed a b e = subst (λ D. HasType D scope (suc 0 + size a) b) (sym same) (under_binder (subst (HasType P.declared [] 0) e is.typed))
    where
      local_same : (s t : LocalType) → TypeLocal s ≡ TypeLocal t → s ≡ t
      local_same s t e = cc

      under_binder : HasType P.declared [] 0 (Evolve (TypeLocal IntType) ByRep a b) → HasType P.declared scope (suc 0 + size a) b
      under_binder k = subst (λ r. HasType P.declared ((0, TypeLocal r) ∷ []) (suc 0 + size a) b) (sym (local_same IntType k.0 k.1)) k.5

  module _ (q : ℕ) (t : Term) (part : Part P A M q t) where
    -- each solution lies in its ranges
    pub lies : (F : ValueMap) (s : Solves N q t (lives N) no_binders F) → InRanges A.ranges N q t (lives N) no_binders F s
    lies F s =
        let metric = is.lawful.metric.0 in
        let shows = shows_under P.declared ((0, full P.declared.ceiling IntType) ∷ []) (range_of U) (suc 0 + size part.start) part.body q t part.stands (body_shows U part.start part.body part.main) in
        subst (λ R. InRanges R N q t (lives N) no_binders F s) (sym ranges)
        (in_ranges N net (subst (λ D. D.least ≤ D.greatest) (sym same) metric) (range_of U) t q scope bounds (lives N) no_binders F (λ d i. i)
        (typed_under N.declared scope (suc 0 + size part.start) part.body q t part.stands (body_typed part.start part.body part.main)) (refl, tt, tt) holds s
        (subst (λ D. Shows (range_of U) q (node_ranges D ((0, full D.ceiling IntType) ∷ []) q t)) (sym same) shows))

    module _ (type : term_type t ≡ TypeLocal IntType) where
      -- a solution of the program rests on one
      some_field : HasOneSolution U N → (f : ℕ → LocalValue) × SolvesAt N q t f
      some_field one =
          let s : Solves N 0 (Evolve (TypeLocal IntType) ByRep part.start part.body) (lives N) no_binders (local_map one.field) =
          subst (λ u. Solves N 0 u (lives N) no_binders (local_map one.field)) part.main one.solves in
          let r = solves_under N (suc 0 + size part.start) part.body q t (lives N) (bind 0 (local_map s.1) no_binders) part.stands (local_map s.1) s.2 in
          let moved = solves_vars N net t q (lives N) (bind 0 (local_map s.1) no_binders) no_binders r.map (free_agree (lives N) t 0 (local_map s.1) no_binders part.free) r.solves in
          let fit = fits_of N t q (lives N) no_binders r.map moved in (
            (λ d. local_in (r.map d)),
            solves_agree N t q (lives N) no_binders r.map (local_map (λ d. local_in (r.map d)))
                (λ d i. (integer_back M (around N (lives N) d) (r.map d) (subst (λ u. FitsOver M (around N (lives N) d) u (r.map d)) type (fit d i))).0) moved,
          )

      only_one : (F G : ℕ → LocalValue) → SolvesAt N q t F → SolvesAt N q t G → (d : ℕ) → Lives N d → F d ≡ G d
      only_one F G s r d i = locals (F d) (G d) (one_law A N net for t q (lives N) no_binders (local_map F) (local_map G) part.fragment s r (lies (local_map G) r) d i)
        where
          locals : (v w : LocalValue) → ValueLocal v ≡ ValueLocal w → v ≡ w
          locals v w e = cc

      pub one_field : HasOneSolution U N → HasOneField N q t
      one_field one = let f = some_field one in record { field = f.0; solves = f.1; only = λ G s d i. only_one G f.0 s f.1 d i }

      -- a solution that the program rests on is this field
      pub rests_on : (one : HasOneField N q t) (f : ℕ → LocalValue) (G : ValueMap) → Solves N q t (lives N) (bind 0 (local_map f) no_binders) G → (d : ℕ) → Lives N d → G d ≡ ValueLocal (one.field d)
      rests_on one f G s d i =
          let moved = solves_vars N net t q (lives N) (bind 0 (local_map f) no_binders) no_binders G (free_agree (lives N) t 0 (local_map f) no_binders part.free) s in
          let fit = fits_of N t q (lives N) no_binders G moved in
          let local : (e : ℕ) → Lives N e → G e ≡ ValueLocal (local_in (G e)) =
          λ e j. (integer_back M (around N (lives N) e) (G e) (subst (λ u. FitsOver M (around N (lives N) e) u (G e)) type (fit e j))).0 in
          let alone = solves_agree N t q (lives N) no_binders G (local_map (λ e. local_in (G e))) local moved in
          local d i ∙ ap ValueLocal (one.only (λ e. local_in (G e)) alone d i)

-- ---- the integers of a field

here : (n : ℕ) (ns : List ℕ) → is_in n (n ∷ ns) ≡ true
here n ns = ap (λ b. b || is_in n ns) (eq-eqb n n refl)

further : (n d : ℕ) (ns : List ℕ) → is_in d ns ≡ true → is_in d (n ∷ ns) ≡ true
further n d ns e = by_test (nat_eq d n)
  where
    by_test : (b : Bool) → (b || is_in d ns) ≡ true
    by_test true = refl
    by_test false = e

abbrev pub entries : (ℕ → LocalValue) → List ℕ → Entries
entries f ns = map {B = ℕ × LocalValue} (λ d. (d, f d)) ns

are_integers : (f : ℕ → LocalValue) (ns : List ℕ) → ((d : ℕ) → is_in d ns ≡ true → f d ≡ IntValue (integer_in (f d))) → map as_integer (integers_in (entries f ns)) ≡ entries f ns
are_integers f [] h = refl
are_integers f (n ∷ ns) h = ap₂ {A = LocalValue} {B = Entries} (λ v es. (n, v) ∷ es) (sym (h n (here n ns))) (are_integers f ns (λ d k. h d (further n d ns k)))

pub field_at : (N : Network) (q : ℕ) (t : Term) (one : HasOneField N q t) → term_type t ≡ TypeLocal IntType → IsFieldAt N q t (integers_in (entries one.field (numbers N.devices)))
field_at N q t one type = record { one = one; values = are_integers one.field (numbers N.devices) (λ d i. (solved_integers N q t one.field type one.solves).is d i) }

-- the stabilised field of the term alone
pub alone_field : (N : Network) (q : ℕ) (t : Term) (W : Unfolding) (es : Entries) → 4 ≤ q → IsNetwork N → W.main ≡ alone_term q t → occurs 0 t ≡ false → term_type t ≡ TypeLocal IntType
    → (one : HasOneField N q t) → IsStableField W N es → IsFieldAt N q t (integers_in es)
alone_field N q t W es low net main free type one stable =
    let s : Solves N 0 (alone_term q t) (lives N) no_binders (local_map stable.one.field) =
    subst (λ u. Solves N 0 u (lives N) no_binders (local_map stable.one.field)) main stable.one.solves in
    let there : Solves N q t (lives N) (bind 0 (local_map s.1) no_binders) (local_map s.1) =
    subst (λ n. Solves N n t (lives N) (bind 0 (local_map s.1) no_binders) (local_map s.1)) (filled q low) s.2 in
    let alone : SolvesAt N q t s.1 =
    solves_vars N net t q (lives N) (bind 0 (local_map s.1) no_binders) no_binders (local_map s.1) (free_agree (lives N) t 0 (local_map s.1) no_binders free) there in
    let alike : (d : ℕ) → is_in d (numbers N.devices) ≡ true → stable.one.field d ≡ one.field d = λ d i. locals _ _ (s.3 d i) ∙ one.only s.1 alone d i in
    let is : es ≡ entries one.field (numbers N.devices) = stable.values ∙ same_entries stable.one.field one.field (numbers N.devices) alike in
    subst (λ fs. IsFieldAt N q t (integers_in fs)) (sym is) (field_at N q t one type)
  where
    locals : (v w : LocalValue) → ValueLocal v ≡ ValueLocal w → v ≡ w
    locals v w e = cc

-- ---- its members

pub heads : {A : Type 0} (x y : A) (xs ys : List A) → x ∷ xs ≡ y ∷ ys → (x ≡ y) × (xs ≡ ys)
heads x y xs ys e = (cc, cc)

-- pairs that are those of a field
module _ (f : ℕ → LocalValue) where
  pub firsts_are : (xs : List (ℕ × ℕ)) (ns : List ℕ) → map as_integer xs ≡ entries f ns → map (λ (d : ℕ × ℕ). d.0) xs ≡ ns
  firsts_are [] [] e = refl
  firsts_are [] (n ∷ ns) e = absurd cc
  firsts_are (x ∷ xs) [] e = absurd cc
  firsts_are (x ∷ xs) (n ∷ ns) e =
      let k = heads (as_integer x) (n, f n) (map as_integer xs) (entries f ns) e in
      let a : x.0 ≡ n = ap (λ (z : ℕ × LocalValue). z.0) k.0 in
      let b : map as_integer xs ≡ entries f ns = k.1 in
      ap₂ {A = ℕ} {B = List ℕ} (λ y ys. y ∷ ys) a (firsts_are xs ns b)

  pub member_is : (xs : List (ℕ × ℕ)) (ns : List ℕ) → map as_integer xs ≡ entries f ns → (d n : ℕ) → Contains xs (d, n) → (is_in d ns ≡ true) × (f d ≡ IntValue n)
  member_is [] ns e d n h = let l = h.1 in absurd (omega (arith, l))
  member_is (x ∷ xs) [] e d n h = absurd cc
  member_is (x ∷ xs) (m ∷ ns) e d n h =
      let k = heads (as_integer x) (m, f m) (map as_integer xs) (entries f ns) e in
      let a : x.0 ≡ m = ap (λ (z : ℕ × LocalValue). z.0) k.0 in
      let v : IntValue x.1 ≡ f m = ap (λ (z : ℕ × LocalValue). z.1) k.0 in
      let b : map as_integer xs ≡ entries f ns = k.1 in
      elim (contains_first x xs (d, n) h) [
        | inl g ↦
            let c : x.0 ≡ d = ap (λ (z : ℕ × ℕ). z.0) g in
            let k : x.1 ≡ n = ap (λ (z : ℕ × ℕ). z.1) g in
            let y : m ≡ d = sym a ∙ c in
            (subst (λ z. is_in z (m ∷ ns) ≡ true) y (here m ns), ap f (sym y) ∙ sym v ∙ ap IntValue k)
        | inr g ↦ let r = member_is xs ns b d n g in (further m d ns r.0, r.1)
      ]

  pub has_member : (xs : List (ℕ × ℕ)) (ns : List ℕ) → map as_integer xs ≡ entries f ns → (d : ℕ) → is_in d ns ≡ true → (n : ℕ) × Contains xs (d, n) × (f d ≡ IntValue n)
  has_member [] [] e d i = absurd cc
  has_member [] (n ∷ ns) e d i = absurd cc
  has_member (x ∷ xs) [] e d i = absurd cc
  has_member (x ∷ xs) (m ∷ ns) e d i =
      let k = heads (as_integer x) (m, f m) (map as_integer xs) (entries f ns) e in
      let a : x.0 ≡ m = ap (λ (z : ℕ × LocalValue). z.0) k.0 in
      let v : IntValue x.1 ≡ f m = ap (λ (z : ℕ × LocalValue). z.1) k.0 in
      let b : map as_integer xs ≡ entries f ns = k.1 in
      by_test a v (nat_eq d m) refl i (has_member xs ns b d)
    where
      by_test : x.0 ≡ m → IntValue x.1 ≡ f m → (c : Bool) → nat_eq d m ≡ c → (c || is_in d ns) ≡ true
          → (is_in d ns ≡ true → (n : ℕ) × Contains xs (d, n) × (f d ≡ IntValue n)) → (n : ℕ) × Contains (x ∷ xs) (d, n) × (f d ≡ IntValue n)
      by_test a v true k j rest =
          let z : d ≡ m = eqb-true d m k in
          (x.1, subst (λ y. Contains (x ∷ xs) (y, x.1)) (a ∙ sym z) (contains_here x xs), ap f z ∙ sym v)
      by_test a v false k j rest = let r = rest j in (r.0, contains_later x xs (d, r.0) r.1, r.2)
