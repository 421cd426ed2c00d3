-- The links that are written out of tables of what is said are those of the envelope.
use Rattle.std.proofs.Common.{ℕ, ◌≡◌, ◌≤◌, Bool, true, false, cond, ◌&&◌, ◌||◌, not, min, max, nat_eq, nat_le, List, [], ◌∷◌, map, length, refl, sym, ap, subst, ◌∙◌, arith, inl, inr, Some, None, if◌then◌else◌}
use Rattle.std.specs.Prelude.{◌⊎◌, Option, option_map, is_some}
use Rattle.std.proofs.lemmas.Bool.{leb-true, le-leb, eq-eqb, ne_eqb}
use Rattle.std.proofs.lemmas.List.{length-map}
use Rattle.std.specs.declared.cmp.Ordering.TheVariants.{Less}
use Rattle.std.specs.List.Sorted.{IsStrictlySortedBy}
use Rattle.std.specs.List.{AllByRecursion}
use Rattle.std.specs.Map.{lookup, keys_of}
use Rattle.std.specs.BTreeMap.{is_at}
use Rattle.fc_values.specs.Fields.{is_in}
use Rattle.fc_values.proofs.Rising.{min_or, strictly}
use Rattle.topology.specs.Networks.{Network, IsNetwork, LinkFits, LinksFit, near_in}
use Rattle.topology.specs.Nearby.{neighbour_numbers}
use Rattle.topology.specs.Changes.{are_linked, has_pair}
use Rattle.topology.proofs.Neighbours.{near_rises, near_linked}
use Rattle.envelopes.specs.Envelopes.{MaybeLink, least_edge, maybe_near, near_ids}
use Rattle.envelopes.specs.Edits.{sure_link}
use Rattle.changes.specs.declared.types.Range.{Range}
use Rattle.changes.specs.declared.types.TheConstants.{MOST_PAIRS}
use Rattle.changes.specs.Changes.{range, ChangeValue}
use Rattle.changes.specs.Hand.{said, unlinks_pair, some_line, at_hand, pair_at_hand, partners}
use Rattle.changes.specs.Faults.{NoneRefused}
use Rattle.changes.proofs.AtHand.{in_partners, partners_rise, same_members}
use Rattle.changes.proofs.Few.{lines_are_few}
use Rattle.change_bounds.specs.Bounds.{stays, stays_linked, weights_of_pair}
use Rattle.change_bounds.specs.Tables.{by_pair, pair_of, pair_said}
use Rattle.change_bounds.specs.declared.pairs.PairBound.{PairBound}
use Rattle.change_envelopes.specs.Envelopes.{weights_in}
use Rattle.change_envelopes.specs.Written.{link_by, links_by}
use Rattle.change_envelopes.proofs.PairTable.{Entry, IsLess, by_first, by_second, is_less, found_at, is_sure, weights_found, sure_found, before_all}
use Rattle.change_envelopes.proofs.PairsSaid.{weights_turned, unlinks_turned, linked_turned, some_weights, lines_fit, LinesFit, pair_fits, weights_in_metric}

-- a table of pairs, and which devices are always there
pub record AreTables (n : Network) (cs : List ChangeValue) (es : List Entry) (s : ℕ → Bool) : Type 0 where
  pub sorted : IsStrictlySortedBy by_pair (keys_of es)
  pub pairs : (x y : ℕ) → lookup (is_at (by_pair (x, y))) es ≡ pair_said n cs x y
  pub devices : (d : ℕ) → s d ≡ stays n cs d

weights_said : (n : Network) (cs : List ChangeValue) (x y : ℕ) → nat_le x y ≡ true → option_map (λ (p : PairBound). p.weights) (pair_said n cs x y) ≡ weights_of_pair n cs x y
weights_said n cs x y h = by_test (nat_le x y) h
  where
    by_range : (o : Option Range) (t : Bool) → option_map (λ (p : PairBound). p.weights) (option_map (λ r. pair_of r t) o) ≡ o
    by_range None t = refl
    by_range (Some r) t = refl

    by_test : (t : Bool) → t ≡ true → option_map (λ (p : PairBound). p.weights) (if t then option_map (λ r. pair_of r (are_linked n x y && not (some_line (unlinks_pair x y) cs))) (weights_of_pair n cs x y) else None) ≡ weights_of_pair n cs x y
    by_test true e = by_range (weights_of_pair n cs x y) (are_linked n x y && not (some_line (unlinks_pair x y) cs))
    by_test false e = absurd cc

lesser_first : (a b : ℕ) → nat_le (min a b) (max a b) ≡ true
lesser_first a b = le-leb (min a b) (max a b) (omega arith)

module _ (n : Network) (cs : List ChangeValue) (es : List Entry) (s : ℕ → Bool) (t : AreTables n cs es s) where
  pub links_found : (a b : ℕ) → weights_in (min a b) (max a b) (links_by s es) ≡ weights_of_pair n cs a b
  links_found a b =
      weights_found s (min a b) (max a b) es
      ∙ ap (option_map (λ (p : PairBound). p.weights)) (t.pairs (min a b) (max a b))
      ∙ weights_said n cs (min a b) (max a b) (lesser_first a b)
      ∙ weights_turned (min a b) (max a b) a b (omega arith) (omega arith) n cs

  -- what is sure of a pair that is said
  sure_said : (x y : ℕ) → nat_le x y ≡ true → is_sure s x y (pair_said n cs x y) ≡ stays_linked n cs x y
  sure_said x y h = by_test (nat_le x y) h
    where
      off : (p : Bool) → p ≡ false → (q : Bool) → false ≡ (p && not q && stays n cs x && stays n cs y)
      off true e q = absurd cc
      off false e q = refl

      none : is_some (weights_of_pair n cs x y) ≡ false → are_linked n x y ≡ false
      none e = by_or (are_linked n x y) _ (sym (some_weights n cs x y) ∙ e)
        where
          by_or : (p q : Bool) → (p || q) ≡ false → p ≡ false
          by_or true q e = e
          by_or false q e = refl

      by_range : (o : Option Range) → weights_of_pair n cs x y ≡ o
          → is_sure s x y (option_map (λ r. pair_of r (are_linked n x y && not (some_line (unlinks_pair x y) cs))) o) ≡ stays_linked n cs x y
      by_range None e = off (are_linked n x y) (none (ap is_some e)) (some_line (unlinks_pair x y) cs)
      by_range (Some r) e =
          ap (λ u. are_linked n x y && not (some_line (unlinks_pair x y) cs) && u && s y) (t.devices x)
          ∙ ap (λ u. are_linked n x y && not (some_line (unlinks_pair x y) cs) && stays n cs x && u) (t.devices y)

      by_test : (b : Bool) → b ≡ true → is_sure s x y (if b then option_map (λ r. pair_of r (are_linked n x y && not (some_line (unlinks_pair x y) cs))) (weights_of_pair n cs x y) else None) ≡ stays_linked n cs x y
      by_test true e = by_range (weights_of_pair n cs x y) refl
      by_test false e = absurd cc

  stays_turned : (a b : ℕ) → stays_linked n cs (min a b) (max a b) ≡ stays_linked n cs a b
  stays_turned a b =
      ap (λ u. u && not (some_line (unlinks_pair (min a b) (max a b)) cs) && stays n cs (min a b) && stays n cs (max a b)) (linked_turned (min a b) (max a b) a b (omega arith) (omega arith) n)
      ∙ ap (λ u. are_linked n a b && not u && stays n cs (min a b) && stays n cs (max a b)) (unlinks_turned (min a b) (max a b) a b (omega arith) (omega arith) cs)
      ∙ by_order (min_or a b)
    where
      swap : (p q r v : Bool) → (p && q && r && v) ≡ (p && q && v && r)
      swap true true true true = refl
      swap true true true false = refl
      swap true true false true = refl
      swap true true false false = refl
      swap true false r v = refl
      swap false q r v = refl

      by_order : ((min a b ≡ a) × (max a b ≡ b)) ⊎ ((min a b ≡ b) × (max a b ≡ a))
          → (are_linked n a b && not (some_line (unlinks_pair a b) cs) && stays n cs (min a b) && stays n cs (max a b)) ≡ stays_linked n cs a b
      by_order (inl o) = ap (λ d. are_linked n a b && not (some_line (unlinks_pair a b) cs) && stays n cs d && stays n cs (max a b)) o.0 ∙ ap (λ d. are_linked n a b && not (some_line (unlinks_pair a b) cs) && stays n cs a && stays n cs d) o.1
      by_order (inr o) =
          ap (λ d. are_linked n a b && not (some_line (unlinks_pair a b) cs) && stays n cs d && stays n cs (max a b)) o.0 ∙ ap (λ d. are_linked n a b && not (some_line (unlinks_pair a b) cs) && stays n cs b && stays n cs d) o.1
          ∙ swap (are_linked n a b) (not (some_line (unlinks_pair a b) cs)) (stays n cs b) (stays n cs a)

  pub sure_links_found : (a b : ℕ) → sure_link (min a b) (max a b) (links_by s es) ≡ stays_linked n cs a b
  sure_links_found a b =
      sure_found s (min a b) (max a b) es t.sorted
      ∙ ap (is_sure s (min a b) (max a b)) (t.pairs (min a b) (max a b))
      ∙ sure_said (min a b) (max a b) (lesser_first a b)
      ∙ stays_turned a b

some_same : {A : Type 0} {x y : A} → Some x ≡ Some y → x ≡ y
some_same e = cc

-- ---- each entry of a table is found

abbrev OwnIn : (whole es : List Entry) → Type 0
OwnIn whole [] = Unit {0}
OwnIn whole (e ∷ es) = (lookup (is_at (by_pair e.0)) whole ≡ Some e.1) × OwnIn whole es

itself : (k : ℕ × ℕ) → is_at (by_pair k) k ≡ true
itself k = found_at k.0 k.1 k ∙ ap (λ t. t && nat_eq k.1 k.1) (eq-eqb k.0 k.0 refl) ∙ eq-eqb k.1 k.1 refl

pub own_in : (es : List Entry) → IsStrictlySortedBy by_pair (keys_of es) → OwnIn es es
unfolding IsStrictlySortedBy
own_in [] h = tt
own_in (e ∷ es) h = (ap (λ t. cond t (Some e.1) (lookup (is_at (by_pair e.0)) es)) (itself e.0), behind es h.0 (own_in es h.1))
  where
    passed : (f : Entry) → by_pair e.0 f.0 ≡ Less → is_at (by_pair f.0) e.0 ≡ false
    passed f l = found_at f.0.0 f.0.1 e.0 ∙ apart (is_less e.0 f.0 l)
      where
        apart : IsLess e.0 f.0 → (nat_eq e.0.0 f.0.0 && nat_eq e.0.1 f.0.1) ≡ false
        apart (by_first o) = ap (λ t. t && nat_eq e.0.1 f.0.1) (ne_eqb e.0.0 f.0.0 (λ q. absurd (omega (arith, o, q))))
        apart (by_second q o) = ap (λ t. t && nat_eq e.0.1 f.0.1) (eq-eqb e.0.0 f.0.0 q) ∙ ne_eqb e.0.1 f.0.1 (λ w. absurd (omega (arith, o, w)))

    behind : (fs : List Entry) → AllByRecursion (λ y. by_pair e.0 y ≡ Less) (keys_of fs) → OwnIn es fs → OwnIn (e ∷ es) fs
    behind [] a o = tt
    behind (f ∷ fs) a o = (ap (λ t. cond t (Some e.1) (lookup (is_at (by_pair f.0)) es)) (passed f a.0) ∙ o.0, behind fs a.1 o.1)

-- ---- they fit

module _ (n : Network) (net : IsNetwork n) (metric : n.declared.least ≤ n.declared.greatest) (ls : List (ℕ × Option ChangeValue)) (ok : NoneRefused n ls)
    (es : List Entry) (s : ℕ → Bool) (t : AreTables n (said ls) es s) (ds : List ℕ) (there : (d : ℕ) → is_in d ds ≡ at_hand n (said ls) d) where
  fit : LinesFit n (said ls) (said ls)
  fit = lines_fit n ls ok

  entry_fits : (e : Entry) → pair_said n (said ls) e.0.0 e.0.1 ≡ Some e.1 → LinkFits n.declared ds (least_edge (link_by s e))
  entry_fits e h = by_order (nat_le e.0.0 e.0.1) refl (weights_of_pair n (said ls) e.0.0 e.0.1) refl h
    where
      by_order : (b : Bool) → nat_le e.0.0 e.0.1 ≡ b → (o : Option Range) → weights_of_pair n (said ls) e.0.0 e.0.1 ≡ o
          → (if b then option_map (λ r. pair_of r (are_linked n e.0.0 e.0.1 && not (some_line (unlinks_pair e.0.0 e.0.1) (said ls)))) o else None) ≡ Some e.1 → LinkFits n.declared ds (least_edge (link_by s e))
      by_order false g o k q = absurd cc
      by_order true g None k q = absurd cc
      by_order true g (Some r) k q =
          let hand : pair_at_hand n (said ls) e.0.0 e.0.1 ≡ true = sym (some_weights n (said ls) e.0.0 e.0.1) ∙ ap is_some k in
          let p = pair_fits n net (said ls) fit e.0.0 e.0.1 hand in
          let m = weights_in_metric n net metric (said ls) fit e.0.0 e.0.1 r k in
          let w : r ≡ e.1.weights = own q in
          let le = leb-true e.0.0 e.0.1 g in
          let above : n.declared.least ≤ e.1.weights.least = subst (λ (x : Range). n.declared.least ≤ x.least) w m.above in
          let below : e.1.weights.least ≤ n.declared.greatest = subst (λ (x : Range). x.least ≤ n.declared.greatest) w m.below in
          record {
            order = strictly e.0.0 e.0.1 le p.two;
            from = there e.0.0 ∙ p.first;
            to = there e.0.1 ∙ p.second;
            above = above;
            below = below;
          }
        where
          own : Some (pair_of r (are_linked n e.0.0 e.0.1 && not (some_line (unlinks_pair e.0.0 e.0.1) (said ls)))) ≡ Some e.1 → r ≡ e.1.weights
          own q = some_same (ap (option_map (λ (p : PairBound). p.weights)) q)

  entries_fit : (fs : List Entry) → IsStrictlySortedBy by_pair (keys_of fs) → OwnIn es fs → LinksFit n.declared ds (map least_edge (links_by s fs))
  unfolding IsStrictlySortedBy
  entries_fit [] h o = tt
  entries_fit (f ∷ fs) h o = (entry_fits f (sym (t.pairs f.0.0 f.0.1) ∙ o.0), before_all s f fs h.0, entries_fit fs h.1 o.1)

  pub links_fit : LinksFit n.declared ds (map least_edge (links_by s es))
  links_fit = entries_fit es t.sorted (own_in es t.sorted)

  -- ---- no device is in too many

  same_near : (d : ℕ) (ms : List MaybeLink) → neighbour_numbers (near_in d (map least_edge ms)) ≡ near_ids (maybe_near d ms)
  same_near d [] = refl
  same_near d (m ∷ ms) = by_tests (nat_eq m.a d) (nat_eq m.b d) (same_near d ms)
    where
      by_tests : (p q : Bool) → neighbour_numbers (near_in d (map least_edge ms)) ≡ near_ids (maybe_near d ms)
          → neighbour_numbers (if p then (m.b, m.least) ∷ near_in d (map least_edge ms) else (if q then (m.a, m.least) ∷ near_in d (map least_edge ms) else near_in d (map least_edge ms)))
          ≡ near_ids (if p then (m.b, m) ∷ maybe_near d ms else (if q then (m.a, m) ∷ maybe_near d ms else maybe_near d ms))
      by_tests true q h = ap (λ ns. m.b ∷ ns) h
      by_tests false true h = ap (λ ns. m.a ∷ ns) h
      by_tests false false h = h

  has_weights : (a b : ℕ) (ms : List MaybeLink) → has_pair a b (map least_edge ms) ≡ is_some (weights_in a b ms)
  has_weights a b [] = refl
  has_weights a b (m ∷ ms) = by_test (nat_eq m.a a && nat_eq m.b b) (has_weights a b ms)
    where
      by_test : (p : Bool) → has_pair a b (map least_edge ms) ≡ is_some (weights_in a b ms)
          → (p || has_pair a b (map least_edge ms)) ≡ is_some (if p then Some (range m.least m.greatest) else weights_in a b ms)
      by_test true h = refl
      by_test false h = h

  near_are : (d : ℕ) → neighbour_numbers (near_in d (map least_edge (links_by s es))) ≡ partners n (said ls) d
  near_are d = same_members _ _ (near_rises n.declared ds d (map least_edge (links_by s es)) links_fit) (partners_rise n net (said ls) d)
      (λ e. near_linked n.declared ds d e (map least_edge (links_by s es)) links_fit
      ∙ has_weights (min d e) (max d e) (links_by s es)
      ∙ ap is_some (links_found n (said ls) es s t d e)
      ∙ some_weights n (said ls) d e
      ∙ sym (in_partners n net (said ls) d e))

  pub crowds : (d : ℕ) → length (maybe_near d (links_by s es)) ≤ MOST_PAIRS
  crowds d =
      let few = (lines_are_few n net ls ok).pairs d in
      let same : length (near_ids (maybe_near d (links_by s es))) ≡ length (partners n (said ls) d) = ap length (sym (same_near d (links_by s es)) ∙ near_are d) in
      let long = length-map (maybe_near d (links_by s es)) (λ (x : ℕ × MaybeLink). x.0) in
      omega (arith, few, same, long)
