-- The kept slots of an export, with the places of their nodes, are what its tree keeps at its places.
use Rattle.std.proofs.Common.{◌≡◌, ℕ, zero, suc, ◌+◌, ◌<◌, List, [], ◌∷◌, ◌++◌, length, refl, sym, ◌∙◌, ap, arith, Bool, true, false, Some, map, drop, get_or, drop-cons, append_assoc, append-nil}
use Rattle.std.specs.Prelude.{is_some, if◌then◌else◌}
use Rattle.std.proofs.lemmas.List.{length-append, drop_all}
use Rattle.fc_values.specs.Types.{ValueType}
use Rattle.fc_values.specs.Values.{LocalValue, IntValue, BoolValue, PairValue, local_of}
use Rattle.fc_values.specs.Exports.{SlotValue, FlatExport, slots_of, slot_at}
use Rattle.fc_values.specs.declared.exports.Slot.{Slot}
use Rattle.fc_values.specs.Trees.{Tree, Keep, Done, Then}
use Rattle.fc_nodes.specs.declared.nodes.Node.{Node}
use Rattle.fc_nodes.specs.Terms.{Term, Terms, Plain, Apply, Nbr, Evolve, If, Let, NoMore, More, size, sizes, Sort, Has, view_of, view_keeps, kept, kept_all, kept_type, term_at, HasNode, Laid, AllLaid, WellFormed}
use Rattle.fc_nodes.specs.Program.{Unfolding}
use Rattle.fc_nodes.specs.Flat.{by_truth, IfTruth, KeepsTruth, FitsTree, FitTrees, tree_at, trees_at, Clear, Marked, AllMarked, tree_export, IsExport}
use Rattle.fc_nodes.proofs.Kept.{kept_long}
use Rattle.value_trees.specs.SlotFits.{truth_in}
use Rattle.value_trees.proofs.Forms.{have_long}
use Rattle.net_json.specs.Placing.{more_if, kept_places, all_kept_places, node_places, placed_slots}
use Rattle.net_json.specs.TableTexts.{placed, placed_all}

-- ---- the places of nodes

-- those of the nodes from a place on
from : List Node → ℕ → List ℕ
from ns p = node_places (drop p ns) p

from_at : (ns : List Node) (p q : ℕ) (s : Sort) (t : ValueType) (ks : List ℕ) → HasNode ns p s t ks → node_places (drop p ns) q ≡ more_if (is_some (kept_type s t)) q (node_places (drop (suc p) ns) (suc q))
from_at [] p q s t ks h = absurd cc
from_at (n ∷ ns) zero q s t ks h = let e : view_of n ≡ Has s t ks = cc in ap (λ v. more_if (is_some (view_keeps v)) q (node_places ns (suc q))) e
from_at (n ∷ ns) (suc p) q s t ks h = from_at ns p q s t ks h

module _ (ns : List Node) where
  step : (p : ℕ) (s : Sort) (t : ValueType) (ks : List ℕ) → HasNode ns p s t ks → from ns p ≡ more_if (is_some (kept_type s t)) p (from ns (suc p))
  unfolding from
  step p s t ks h = from_at ns p p s t ks h

  both : (xs ys : List ℕ) (p q r : ℕ) → from ns p ≡ xs ++ from ns q → from ns q ≡ ys ++ from ns r → from ns p ≡ xs ++ ys ++ from ns r
  both xs ys p q r e f = e ∙ ap (λ zs. xs ++ zs) f ∙ sym (append_assoc xs ys (from ns r))

  at : (xs : List ℕ) (p q r : ℕ) → q ≡ r → from ns p ≡ xs ++ from ns q → from ns p ≡ xs ++ from ns r
  at xs p q r e f = f ∙ ap (λ k. xs ++ from ns k) e

  mutual
    from_term : (t : Term) (p : ℕ) → Laid ns p t → from ns p ≡ kept_places t p ++ from ns (p + size t)
    from_term (Plain t v) p l = step p _ _ _ l ∙ ap (from ns) (omega arith)
    from_term (Apply t o xs) p l = step p _ _ _ l.0 ∙ at (all_kept_places xs (suc p)) (suc p) (suc p + sizes xs) (p + suc (sizes xs)) (omega arith) (from_terms xs (suc p) l.1)
    from_term (Nbr t a) p l = step p _ _ _ l.0 ∙ ap (λ xs. p ∷ xs) (at (kept_places a (suc p)) (suc p) (suc p + size a) (p + suc (size a)) (omega arith) (from_term a (suc p) l.1))
    from_term (Evolve t v a b) p l =
        let two = both (kept_places a (suc p)) (kept_places b (suc p + size a)) (suc p) (suc p + size a) (suc p + size a + size b) (from_term a (suc p) l.1) (from_term b (suc p + size a) l.2) in
        step p _ _ _ l.0 ∙ ap (λ xs. p ∷ xs) (at (kept_places a (suc p) ++ kept_places b (suc p + size a)) (suc p) (suc p + size a + size b) (p + suc (size a + size b)) (omega arith) two)
    from_term (If t c a b) p l =
        let two = both (kept_places c (suc p)) (kept_places a (suc p + size c)) (suc p) (suc p + size c) (suc p + size c + size a) (from_term c (suc p) l.1) (from_term a (suc p + size c) l.2) in
        let three = both (kept_places c (suc p) ++ kept_places a (suc p + size c)) (kept_places b (suc p + size c + size a)) (suc p) (suc p + size c + size a) (suc p + size c + size a + size b) two (from_term b (suc p + size c + size a) l.3) in
        step p _ _ _ l.0 ∙ ap (λ xs. p ∷ xs) (at (kept_places c (suc p) ++ kept_places a (suc p + size c) ++ kept_places b (suc p + size c + size a)) (suc p) (suc p + size c + size a + size b) (p + suc (size c + size a + size b)) (omega arith) three)
    from_term (Let t a b) p l =
        let two = both (kept_places a (suc p)) (kept_places b (suc p + size a)) (suc p) (suc p + size a) (suc p + size a + size b) (from_term a (suc p) l.1) (from_term b (suc p + size a) l.2) in
        step p _ _ _ l.0 ∙ at (kept_places a (suc p) ++ kept_places b (suc p + size a)) (suc p) (suc p + size a + size b) (p + suc (size a + size b)) (omega arith) two

    from_terms : (xs : Terms) (p : ℕ) → AllLaid ns p xs → from ns p ≡ all_kept_places xs p ++ from ns (p + sizes xs)
    from_terms NoMore p l = ap (from ns) (omega arith)
    from_terms (More x xs) p l =
        let two = both (kept_places x p) (all_kept_places xs (p + size x)) p (p + size x) (p + size x + sizes xs) (from_term x p l.0) (from_terms xs (p + size x) l.1) in
        at (kept_places x p ++ all_kept_places xs (p + size x)) p (p + size x + sizes xs) (p + (size x + sizes xs)) (omega arith) two

-- the places of a program's nodes are those of its term
pub places_whole : (ns : List Node) → WellFormed ns → node_places ns 0 ≡ kept_places (term_at ns 0) 0
unfolding from
places_whole ns w =
    let e = w.whole in
    let n = 0 + size (term_at ns 0) in
    let past : from ns n ≡ [] = ap (λ (ms : List Node). node_places ms n) (drop_all n ns (omega (arith, e))) in
    from_term ns (term_at ns 0) 0 w.laid ∙ ap (λ xs. kept_places (term_at ns 0) 0 ++ xs) past ∙ append-nil (kept_places (term_at ns 0) 0)

-- one place further
pub places_step : (ns : List Node) (p q : ℕ) (s : Sort) (t : ValueType) (ks : List ℕ) → HasNode ns p s t ks → q ≡ suc p → node_places (drop p ns) p ≡ more_if (is_some (kept_type s t)) p (node_places (drop q ns) q)
places_step ns p q s t ks h e = from_at ns p p s t ks h ∙ ap (λ (r : ℕ). more_if (is_some (kept_type s t)) p (node_places (drop r ns) r)) (sym e)

-- as many as the slots of the term
mutual
  pub places_long : (t : Term) (p : ℕ) → length (kept_places t p) ≡ kept t
  places_long (Plain t v) p = refl
  places_long (Apply t o xs) p = all_places_long xs (suc p)
  places_long (Nbr t a) p = ap suc (places_long a (suc p))
  places_long (Evolve t v a b) p =
      let e = length-append (kept_places a (suc p)) (kept_places b (suc p + size a)) in
      let f = places_long a (suc p) in let g = places_long b (suc p + size a) in ap suc (omega (arith, e, f, g))
  places_long (If t c a b) p =
      let d = length-append (kept_places c (suc p) ++ kept_places a (suc p + size c)) (kept_places b (suc p + size c + size a)) in
      let e = length-append (kept_places c (suc p)) (kept_places a (suc p + size c)) in
      let f = places_long c (suc p) in let g = places_long a (suc p + size c) in let h = places_long b (suc p + size c + size a) in ap suc (omega (arith, d, e, f, g, h))
  places_long (Let t a b) p =
      let e = length-append (kept_places a (suc p)) (kept_places b (suc p + size a)) in
      let f = places_long a (suc p) in let g = places_long b (suc p + size a) in omega (arith, e, f, g)

  all_places_long : (xs : Terms) (p : ℕ) → length (all_kept_places xs p) ≡ kept_all xs
  all_places_long NoMore p = refl
  all_places_long (More x xs) p =
      let e = length-append (kept_places x p) (all_kept_places xs (p + size x)) in
      let f = places_long x p in let g = all_places_long xs (p + size x) in omega (arith, e, f, g)

-- ---- the slots from k on, with places
abbrev placed_from : List ℕ → ℕ → List SlotValue → List (ℕ × LocalValue)
placed_from [] k xs = []
placed_from (p ∷ ps) k xs = more_if (slot_at k xs).0 (p, (slot_at k xs).1) (placed_from ps (suc k) xs)

more_append : {A : Type 0} (b : Bool) (x : A) (xs ys zs : List A) → xs ≡ ys ++ zs → more_if b x xs ≡ more_if b x ys ++ zs
more_append true x xs ys zs e = ap (λ us. x ∷ us) e
more_append false x xs ys zs e = e

module _ (xs : List SlotValue) where
  placed_both : (ps qs : List ℕ) (k j : ℕ) → j ≡ k + length ps → placed_from (ps ++ qs) k xs ≡ placed_from ps k xs ++ placed_from qs j xs
  placed_both [] qs k j e = let e' : j ≡ k = omega arith in rw e' refl
  placed_both (p ∷ ps) qs k j e = more_append (slot_at k xs).0 (p, (slot_at k xs).1) _ _ _ (placed_both ps qs (suc k) j (omega arith))

  placed_two : (a b : Term) (p q k : ℕ) → placed_from (kept_places a p ++ kept_places b q) k xs ≡ placed_from (kept_places a p) k xs ++ placed_from (kept_places b q) (k + kept a) xs
  placed_two a b p q k = let l = places_long a p in placed_both (kept_places a p) (kept_places b q) k (k + kept a) (omega (arith, l))

  placed_clear : (ps : List ℕ) (k n : ℕ) → n ≡ length ps → Clear k n xs → placed_from ps k xs ≡ []
  placed_clear [] k n e c = refl
  placed_clear (p ∷ ps) k n e c =
      let here : (slot_at k xs).0 ≡ false = c.clear k (omega arith) (omega arith) in
      let rest = placed_clear ps (suc k) (length ps) refl (record { clear = λ j l u. c.clear j (omega arith) (omega arith) }) in
      rw here rest

-- an `if` that keeps a truth value
cond_fits : (v : LocalValue) (C A B : Tree → Type 0) (tx tb : Tree) → KeepsTruth C A B (Keep (Some v) (Then tx (Then tb Done))) → C tx
cond_fits (IntValue n) C A B tx tb h = absurd h
cond_fits (BoolValue true) C A B tx tb h = h.0
cond_fits (BoolValue false) C A B tx tb h = h.0
cond_fits (PairValue x y) C A B tx tb h = absurd h

arm : (v : LocalValue) (C A B : Tree → Type 0) (tx ta tb : Tree) (MA CB CA MB : Type 0) (first second : Tree → List (ℕ × LocalValue)) (r : List (ℕ × LocalValue)) → KeepsTruth C A B (Keep (Some v) (Then tx (Then (by_truth v ta tb) Done))) → IfTruth v (MA × CB) (CA × MB)
    → (A ta → MA → CB → first ta ≡ r) → (B tb → CA → MB → second tb ≡ r) → (if truth_in v then first (by_truth v ta tb) else second (by_truth v ta tb)) ≡ r
arm (IntValue n) C A B tx ta tb MA CB CA MB first second r h m f g = absurd h
arm (BoolValue true) C A B tx ta tb MA CB CA MB first second r h m f g = f h.1.0 m.0 m.1
arm (BoolValue false) C A B tx ta tb MA CB CA MB first second r h m f g = g h.1.0 m.0 m.1
arm (PairValue x y) C A B tx ta tb MA CB CA MB first second r h m f g = absurd h

module _ (c : ℕ) (xs : List SlotValue) where
  mutual
    term_placed : (t : Term) (p k : ℕ) → FitsTree c t (tree_at t k xs) → Marked t k xs → placed t p (tree_at t k xs) ≡ placed_from (kept_places t p) k xs
    term_placed (Plain t l) p k h m = refl
    term_placed (Apply t o ts) p k h m = terms_placed ts (suc p) k h m
    term_placed (Nbr t a) p k h m =
        let here = m.0 in
        let ih = term_placed a (suc p) (suc k) h.1.0 m.1 in
        rw (here, ih) refl
    term_placed (Evolve t e a b) p k h m =
        let here = m.0 in
        let ih = term_placed a (suc p) (suc k) h.1.0 m.1 in
        let ih' = term_placed b (suc p + size a) (suc k + kept a) h.1.1.0 m.2 in
        let two = placed_two xs a b (suc p) (suc p + size a) (suc k) in
        rw (here, ih, ih', two) refl
    term_placed (If t x a b) p k h m =
        let here = m.0 in
        let v = (slot_at k xs).1 in
        let tx = tree_at x (suc k) xs in
        let ta = tree_at a (suc k + kept x) xs in
        let tb = tree_at b (suc k + kept x + kept a) xs in
        let px = kept_places x (suc p) in
        let pa = kept_places a (suc p + size x) in
        let pb = kept_places b (suc p + size x + size a) in
        let lx = places_long x (suc p) in
        let la = places_long a (suc p + size x) in
        let lb = places_long b (suc p + size x + size a) in
        let lxa = length-append px pa in
        let ih = term_placed x (suc p) (suc k) (cond_fits v (FitsTree c x) (FitsTree c a) (FitsTree c b) tx (by_truth v ta tb) h) m.1 in
        let three = placed_both xs (px ++ pa) pb (suc k) (suc k + kept x + kept a) (omega (arith, lx, la, lxa)) in
        let two = placed_both xs px pa (suc k) (suc k + kept x) (omega (arith, lx)) in
        let branch = arm v (FitsTree c x) (FitsTree c a) (FitsTree c b) tx ta tb
        (Marked a (suc k + kept x) xs) (Clear (suc k + kept x + kept a) (kept b) xs) (Clear (suc k + kept x) (kept a) xs) (Marked b (suc k + kept x + kept a) xs)
        (placed a (suc p + size x)) (placed b (suc p + size x + size a))
        (placed_from pa (suc k + kept x) xs ++ placed_from pb (suc k + kept x + kept a) xs) h m.2
        (λ f l r. term_placed a (suc p + size x) (suc k + kept x) f l ∙ sym (append-nil (placed_from pa (suc k + kept x) xs)) ∙ ap (λ us. placed_from pa (suc k + kept x) xs ++ us) (sym (placed_clear xs pb (suc k + kept x + kept a) (kept b) (sym lb) r)))
        (λ f l r. term_placed b (suc p + size x + size a) (suc k + kept x + kept a) f r ∙ ap (λ us. us ++ placed_from pb (suc k + kept x + kept a) xs) (sym (placed_clear xs pa (suc k + kept x) (kept a) (sym la) l))) in
        let whole : placed_from (px ++ pa ++ pb) (suc k) xs ≡ placed_from px (suc k) xs ++ (placed_from pa (suc k + kept x) xs ++ placed_from pb (suc k + kept x + kept a) xs)
        = three ∙ ap (λ us. us ++ placed_from pb (suc k + kept x + kept a) xs) two ∙ append_assoc (placed_from px (suc k) xs) (placed_from pa (suc k + kept x) xs) (placed_from pb (suc k + kept x + kept a) xs) in
        rw here (ap (λ us. (p, v) ∷ us) (ap (λ us. us ++ (if truth_in v then placed a (suc p + size x) (by_truth v ta tb) else placed b (suc p + size x + size a) (by_truth v ta tb))) ih ∙ ap (λ us. placed_from px (suc k) xs ++ us) branch ∙ sym whole))
    term_placed (Let t a b) p k h m =
        let ih = term_placed a (suc p) k h.0 m.0 in
        let ih' = term_placed b (suc p + size a) (k + kept a) h.1.0 m.1 in
        let two = placed_two xs a b (suc p) (suc p + size a) k in
        rw (ih, ih', two) refl

    terms_placed : (ts : Terms) (p k : ℕ) → FitTrees c ts (trees_at ts k xs) → AllMarked ts k xs → placed_all ts p (trees_at ts k xs) ≡ placed_from (all_kept_places ts p) k xs
    terms_placed NoMore p k h m = refl
    terms_placed (More t ts) p k h m =
        let ih = term_placed t p k h.0 m.0 in
        let ih' = terms_placed ts (p + size t) (k + kept t) h.1 m.1 in
        let l = places_long t p in
        let two = placed_both xs (kept_places t p) (all_kept_places ts (p + size t)) k (k + kept t) (omega (arith, l)) in
        rw (ih, ih', two) refl

placed_shift : (x : SlotValue) (xs : List SlotValue) (ps : List ℕ) (k : ℕ) → placed_from ps (suc k) (x ∷ xs) ≡ placed_from ps k xs
unfolding slot_at
placed_shift x xs [] k = refl
placed_shift x xs (p ∷ ps) k = let ih = placed_shift x xs ps (suc k) in ap (λ us. more_if (slot_at k xs).0 (p, (slot_at k xs).1) us) ih

slots_placed : (ps : List ℕ) (xs : List SlotValue) → length ps ≡ length xs → placed_from ps 0 xs ≡ placed_slots ps xs
unfolding slot_at
slots_placed [] xs e = refl
slots_placed (p ∷ ps) [] e = absurd (omega arith)
slots_placed (p ∷ ps) (x ∷ xs) e = ap (λ us. more_if x.0 (p, x.1) us) (placed_shift x xs ps 0 ∙ slots_placed ps xs (omega arith))

-- of an export of a program
module _ (U : Unfolding) (x : FlatExport) (h : IsExport U x) where
  pub as_many : length (kept_places U.main 0) ≡ length x.slots
  as_many = let l = have_long _ x.slots h.shaped in let k = kept_long U.main in let e = places_long U.main 0 in omega (arith, l, k, e)

  pub export_placed : placed_slots (kept_places U.main 0) x.slots ≡ placed U.main 0 (tree_export U x).tree
  export_placed =
      let t = h.typed in
      sym (slots_placed (kept_places U.main 0) x.slots as_many) ∙ sym (term_placed U.declared.ceiling x.slots U.main 0 0 t.tree h.marked)

-- ---- one slot further

pub slot_step : (ps : List ℕ) (ss : List Slot) (i j : ℕ) (s : Slot) → i < length ps → i < length ss → s ≡ get_or ss i s → j ≡ suc i
    → placed_slots (drop i ps) (slots_of (drop i ss)) ≡ more_if s.kept (get_or ps i 0, local_of s.value) (placed_slots (drop j ps) (slots_of (drop j ss)))
slot_step ps ss i j s l m f g =
    ap (λ (qs : List ℕ). placed_slots qs (slots_of (drop i ss))) (drop-cons ps i 0 l)
    ∙ ap (λ (ts : List Slot). placed_slots (get_or ps i 0 ∷ drop (suc i) ps) (slots_of ts)) (drop-cons ss i s m)
    ∙ ap (λ (t : Slot). more_if t.kept (get_or ps i 0, local_of t.value) (placed_slots (drop (suc i) ps) (slots_of (drop (suc i) ss)))) (sym f)
    ∙ ap (λ (n : ℕ). more_if s.kept (get_or ps i 0, local_of s.value) (placed_slots (drop n ps) (slots_of (drop n ss)))) (sym g)

pub more_behind : {A : Type 0} (b : Bool) (x : A) (xs ys : List A) → (xs ++ more_if b x []) ++ ys ≡ xs ++ more_if b x ys
more_behind true x xs ys = append_assoc xs (x ∷ []) ys
more_behind false x xs ys = ap (λ us. us ++ ys) (append-nil xs)

pub more_data : {A B : Type 0} (f : A → B) (b : Bool) (x : A) (xs : List A) → map f (more_if b x xs) ≡ more_if b (f x) (map f xs)
more_data f true x xs = refl
more_data f false x xs = refl
