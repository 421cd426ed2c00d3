-- A scene and lines none of which is refused have an envelope.
use Rattle.std.proofs.Common.{◌≡◌, ℕ, ◌<◌, ◌≤◌, Bool, true, false, cond, not, ◌&&◌, ◌||◌, nat_eq, nat_le, nat_lt, List, [], ◌∷◌}
use Rattle.std.proofs.Common.{refl, sym, ◌∙◌, ap, arith, Option, Some, None, if◌then◌else◌}
use Rattle.std.specs.Prelude.{option_map, is_some}
use Rattle.std.specs.Option.{option_or}
use Rattle.std.specs.Ordering.{nat_cmp, ordering_then}
use Rattle.std.specs.declared.cmp.Ordering.TheVariants.{Less, Equal, Greater}
use Rattle.std.specs.List.Sorted.{IsStrictlySortedBy}
use Rattle.std.specs.List.{AllByRecursion}
use Rattle.std.specs.Map.{lookup, keys_of}
use Rattle.std.specs.BTreeMap.{is_at}
use Rattle.std.proofs.lemmas.Bool.{lt-ltb, ltb-true}
use Rattle.fc_values.specs.Fields.{Rises, is_in}
use Rattle.fc_values.proofs.Rising.{AllAbove, all_above, rises_tail}
use Rattle.topology.specs.Networks.{Network, IsNetwork}
use Rattle.topology.specs.Changes.{are_linked}
use Rattle.value_bounds.proofs.Values.{itself, nat_same}
use Rattle.envelopes.specs.Code.{envelope_of}
use Rattle.changes.specs.declared.types.Range.{Range}
use Rattle.changes.specs.Changes.{ChangeValue}
use Rattle.changes.specs.Hand.{said, some_line, unlinks_pair, devices_at_hand}
use Rattle.changes.specs.Faults.{NoneRefused}
use Rattle.changes.proofs.AtHand.{in_devices, devices_rise}
use Rattle.change_bounds.specs.declared.pairs.PairBound.{PairBound}
use Rattle.change_bounds.specs.Bounds.{stays, bounds_of_device, weights_of_pair}
use Rattle.change_bounds.specs.Tables.{by_pair, pair_of, pair_said}
use Rattle.change_bounds.proofs.Keys.{same_number}
use Rattle.change_envelopes.specs.Laws.{SomeEnvelope}
use Rattle.change_envelopes.specs.Written.{devices_by, links_by}
use Rattle.change_envelopes.proofs.PairTable.{Entry, found_at}
use Rattle.change_envelopes.proofs.PairsSaid.{some_weights, lines_fit, pair_fits}
use Rattle.change_envelopes.proofs.DevicesWritten.{found}
use Rattle.change_envelopes.proofs.Assembled.{AreSaid, assembled_lists}

-- ---- the order of numbers and pairs

less : (a b : ℕ) → a < b → nat_cmp a b ≡ Less
less a b h = ap (λ t. cond t Less (cond (nat_eq a b) Equal Greater)) (lt-ltb a b h)

same : (a : ℕ) → nat_cmp a a ≡ Equal
same a = by_test (nat_lt a a) refl
  where
    by_test : (t : Bool) → nat_lt a a ≡ t → cond t Less (cond (nat_eq a a) Equal Greater) ≡ Equal
    by_test true e = absurd (omega (arith, ltb-true a a e))
    by_test false e = ap (λ t. cond t Equal Greater) (itself a)

less_first : (a b : ℕ) (k : ℕ × ℕ) → a < k.0 → by_pair (a, b) k ≡ Less
less_first a b k h = ap (λ o. ordering_then o (nat_cmp b k.1)) (less a k.0 h)

less_second : (a b c : ℕ) → b < c → by_pair (a, b) (a, c) ≡ Less
less_second a b c h = ap (λ o. ordering_then o (nat_cmp b c)) (same a) ∙ less b c h

-- ---- a table of numbers

module _ (s : ℕ → Bool) where
  abbrev told : List ℕ → List (ℕ × Bool)
  told [] = []
  told (d ∷ ds) = (d, s d) ∷ told ds

  all_less : (d : ℕ) (es : List ℕ) → AllAbove d es → AllByRecursion (λ e. nat_cmp d e ≡ Less) (keys_of (told es))
  all_less d [] h = tt
  all_less d (e ∷ es) h = (less d e h.0, all_less d es h.1)

  told_sorted : (ds : List ℕ) → Rises ds → IsStrictlySortedBy nat_cmp (keys_of (told ds))
  unfolding IsStrictlySortedBy
  told_sorted [] r = tt
  told_sorted (d ∷ ds) r = (all_less d ds (all_above d ds r), told_sorted ds (rises_tail d ds r))

  told_found : (d : ℕ) (ds : List ℕ) → lookup (is_at (nat_cmp d)) (told ds) ≡ (if is_in d ds then Some (s d) else None)
  told_found d [] = refl
  told_found d (e ∷ es) =
      ap (λ t. cond t (Some (s e)) (lookup (is_at (nat_cmp d)) (told es))) (found d e) ∙ by_test (nat_eq d e) refl (told_found d es)
    where
      by_test : (t : Bool) → nat_eq d e ≡ t → lookup (is_at (nat_cmp d)) (told es) ≡ (if is_in d es then Some (s d) else None)
          → cond t (Some (s e)) (lookup (is_at (nat_cmp d)) (told es)) ≡ (if t || is_in d es then Some (s d) else None)
      by_test true q h = ap (λ k. Some (s k)) (sym (nat_same d e q))
      by_test false q h = h

-- ---- a table of pairs

-- an entry, if there is a value
abbrev with_entry : ℕ × ℕ → Option PairBound → List Entry → List Entry
with_entry k None es = es
with_entry k (Some p) es = (k, p) ∷ es

module _ (f : ℕ → ℕ → Option PairBound) where
  -- those of one number with some, before others, and those of some with some
  abbrev row : ℕ → List ℕ → List Entry → List Entry
  row a [] es = es
  row a (b ∷ bs) es = with_entry (a, b) (f a b) (row a bs es)

  abbrev rows : List ℕ → List ℕ → List Entry
  rows [] bs = []
  rows (a ∷ xs) bs = row a bs (rows xs bs)

  -- ---- they rise

  abbrev FirstAbove : ℕ → List Entry → Type 0
  FirstAbove c es = AllByRecursion (λ k. c < k.0) (keys_of es)

  row_above : (c a : ℕ) (bs : List ℕ) (es : List Entry) → c < a → FirstAbove c es → FirstAbove c (row a bs es)
  row_above c a [] es l h = h
  row_above c a (b ∷ bs) es l h = by_value (f a b) (row_above c a bs es l h)
    where
      by_value : (o : Option PairBound) → FirstAbove c (row a bs es) → FirstAbove c (with_entry (a, b) o (row a bs es))
      by_value None g = g
      by_value (Some p) g = (l, g)

  rows_above : (c : ℕ) (xs bs : List ℕ) → AllAbove c xs → FirstAbove c (rows xs bs)
  rows_above c [] bs h = tt
  rows_above c (a ∷ xs) bs h = row_above c a bs (rows xs bs) h.0 (rows_above c xs bs h.1)

  row_behind : (a b : ℕ) (cs : List ℕ) (es : List Entry) → AllAbove b cs → FirstAbove a es
      → AllByRecursion (λ k. by_pair (a, b) k ≡ Less) (keys_of (row a cs es))
  row_behind a b [] es h g = behind es g
    where
      behind : (es : List Entry) → FirstAbove a es → AllByRecursion (λ k. by_pair (a, b) k ≡ Less) (keys_of es)
      behind [] g = tt
      behind (e ∷ es) g = (less_first a b e.0 g.0, behind es g.1)
  row_behind a b (c ∷ cs) es h g = by_value (f a c) (row_behind a b cs es h.1 g)
    where
      by_value : (o : Option PairBound) → AllByRecursion (λ k. by_pair (a, b) k ≡ Less) (keys_of (row a cs es))
          → AllByRecursion (λ k. by_pair (a, b) k ≡ Less) (keys_of (with_entry (a, c) o (row a cs es)))
      by_value None r = r
      by_value (Some p) r = (less_second a b c h.0, r)

  row_sorted : (a : ℕ) (bs : List ℕ) (es : List Entry) → Rises bs → FirstAbove a es → IsStrictlySortedBy by_pair (keys_of es)
      → IsStrictlySortedBy by_pair (keys_of (row a bs es))
  unfolding IsStrictlySortedBy
  row_sorted a [] es r h g = g
  row_sorted a (b ∷ bs) es r h g =
      by_value (f a b) (row_behind a b bs es (all_above b bs r) h) (row_sorted a bs es (rises_tail b bs r) h g)
    where
      by_value : (o : Option PairBound) → AllByRecursion (λ k. by_pair (a, b) k ≡ Less) (keys_of (row a bs es))
          → IsStrictlySortedBy by_pair (keys_of (row a bs es)) → IsStrictlySortedBy by_pair (keys_of (with_entry (a, b) o (row a bs es)))
      by_value None l k = k
      by_value (Some p) l k = (l, k)

  rows_sorted : (xs bs : List ℕ) → Rises xs → Rises bs → IsStrictlySortedBy by_pair (keys_of (rows xs bs))
  unfolding IsStrictlySortedBy
  rows_sorted [] bs r q = tt
  rows_sorted (a ∷ xs) bs r q =
      row_sorted a bs (rows xs bs) q (rows_above a xs bs (all_above a xs r)) (rows_sorted xs bs (rises_tail a xs r) q)

  -- ---- what is found

  module _ (x y : ℕ) where
    abbrev look : List Entry → Option PairBound
    look es = lookup (is_at (by_pair (x, y))) es

    look_with : (a b : ℕ) (o : Option PairBound) (es : List Entry)
        → look (with_entry (a, b) o es) ≡ (if nat_eq a x && nat_eq b y then option_or o (look es) else look es)
    look_with a b None es = by_test (nat_eq a x && nat_eq b y)
      where
        by_test : (t : Bool) → look es ≡ (if t then look es else look es)
        by_test true = refl
        by_test false = refl
    look_with a b (Some p) es = ap (λ t. cond t (Some p) (look es)) (found_at x y (a, b))

    row_found : (a : ℕ) (bs : List ℕ) (es : List Entry)
        → look (row a bs es) ≡ option_or (if is_in y bs && nat_eq x a then f x y else None) (look es)
    row_found a [] es = refl
    row_found a (b ∷ bs) es =
        look_with a b (f a b) (row a bs es)
        ∙ ap (λ t. if t && nat_eq b y then option_or (f a b) (look (row a bs es)) else look (row a bs es)) (same_number a x)
        ∙ ap (λ t. if nat_eq x a && t then option_or (f a b) (look (row a bs es)) else look (row a bs es)) (same_number b y)
        ∙ by_tests (nat_eq x a) refl (nat_eq y b) refl (is_in y bs) (look (row a bs es)) (row_found a bs es)
      where
        twice : (i : Bool) (o p : Option PairBound) → option_or o (option_or (if i && true then o else None) p) ≡ option_or o p
        twice i (Some v) p = refl
        twice true None p = refl
        twice false None p = refl

        off : (i : Bool) (o p : Option PairBound) → option_or (if i && false then o else None) p ≡ p
        off true o p = refl
        off false o p = refl

        by_tests : (s : Bool) → nat_eq x a ≡ s → (t : Bool) → nat_eq y b ≡ t → (i : Bool) (l : Option PairBound)
            → l ≡ option_or (if i && s then f x y else None) (look es)
            → (if s && t then option_or (f a b) l else l) ≡ option_or (if (t || i) && s then f x y else None) (look es)
        by_tests true p true q i l h =
            ap (option_or (f a b)) h
            ∙ ap (λ o. option_or o (option_or (if i && true then f x y else None) (look es))) here
            ∙ twice i (f x y) (look es)
          where
            here : f a b ≡ f x y
            here = ap (λ k. f k b) (sym (nat_same x a p)) ∙ ap (f x) (sym (nat_same y b q))
        by_tests true p false q i l h = h
        by_tests false p true q i l h = h ∙ off i (f x y) (look es)
        by_tests false p false q i l h = h

    rows_found : (xs bs : List ℕ) → look (rows xs bs) ≡ (if is_in x xs && is_in y bs then f x y else None)
    rows_found [] bs = refl
    rows_found (a ∷ xs) bs =
        row_found a bs (rows xs bs)
        ∙ ap (option_or (if is_in y bs && nat_eq x a then f x y else None)) (rows_found xs bs)
        ∙ by_tests (nat_eq x a) (is_in x xs) (is_in y bs) (f x y)
      where
        by_tests : (p q r : Bool) (o : Option PairBound)
            → option_or (if r && p then o else None) (if q && r then o else None) ≡ (if (p || q) && r then o else None)
        by_tests true q true (Some v) = refl
        by_tests true true true None = refl
        by_tests true false true None = refl
        by_tests true true false o = refl
        by_tests true false false o = refl
        by_tests false q true o = refl
        by_tests false q false o = refl

-- ---- what is said

module _ (n : Network) (net : IsNetwork n) (ls : List (ℕ × Option ChangeValue)) (ok : NoneRefused n ls) where
  abbrev cs : List ChangeValue
  cs = said ls

  abbrev ds : List ℕ
  ds = devices_at_hand n cs

  -- a pair of which something is said has weights
  has_weights : (x y : ℕ) (p : PairBound) → pair_said n cs x y ≡ Some p → is_some (weights_of_pair n cs x y) ≡ true
  has_weights x y p h = by_tests (nat_le x y) (are_linked n x y && not (some_line (unlinks_pair x y) cs)) (weights_of_pair n cs x y) h
    where
      by_tests : (t u : Bool) (o : Option Range) → (if t then option_map (λ r. pair_of r u) o else None) ≡ Some p → is_some o ≡ true
      by_tests true u None g = absurd cc
      by_tests true u (Some r) g = refl
      by_tests false u o g = absurd cc

  -- so both of its devices are at hand
  both_in : (x y : ℕ) → (if is_in x ds && is_in y ds then pair_said n cs x y else None) ≡ pair_said n cs x y
  both_in x y = by_said (pair_said n cs x y) refl
    where
      by_said : (o : Option PairBound) → pair_said n cs x y ≡ o → (if is_in x ds && is_in y ds then o else None) ≡ o
      by_said None e = by_test (is_in x ds && is_in y ds)
        where
          nothing : Option PairBound
          nothing = None

          by_test : (t : Bool) → (if t then nothing else nothing) ≡ nothing
          by_test true = refl
          by_test false = refl
      by_said (Some p) e =
          let fits = pair_fits n net cs (lines_fit n ls ok) x y (sym (some_weights n cs x y) ∙ has_weights x y p e) in
          let i : is_in x ds ≡ true = in_devices n cs x ∙ fits.first in
          let j : is_in y ds ≡ true = in_devices n cs y ∙ fits.second in
          ap (λ t. if t && is_in y ds then Some p else None) i ∙ ap (λ t. if t then Some p else None) j

  all_said : n.declared.least ≤ n.declared.greatest
      → AreSaid n ls (bounds_of_device n cs) (told (stays n cs) ds) (stays n cs) (rows (pair_said n cs) ds ds)
  all_said metric = record {
    network = net;
    metric = metric;
    accepted = ok;
    sorted = told_sorted (stays n cs) ds rise;
    present = λ d. told_found (stays n cs) d ds ∙ ap (λ t. if t then Some (stays n cs d) else None) (in_devices n cs d);
    rows = λ d. refl;
    tables = record {
      sorted = rows_sorted (pair_said n cs) ds ds rise rise;
      pairs = λ x y. rows_found (pair_said n cs) x y ds ds ∙ both_in x y;
      devices = λ d. refl;
    };
  }
    where
      rise : Rises ds
      rise = devices_rise n net cs

pub some_envelope : SomeEnvelope
some_envelope n ls net ok metric = (
  envelope_of n.declared (devices_by (bounds_of_device n (said ls)) (told (stays n (said ls)) (devices_at_hand n (said ls))))
      (links_by (stays n (said ls)) (rows (pair_said n (said ls)) (devices_at_hand n (said ls)) (devices_at_hand n (said ls)))),
  assembled_lists n ls _ _ _ _ (all_said n net ls ok metric),
)
