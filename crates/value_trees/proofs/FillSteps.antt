-- The steps of filling slots with the values of a list.
use Rattle.std.proofs.Common.{◌≡◌, ℕ, suc, ◌<◌, ◌+◌, List, [], ◌∷◌, ◌++◌, length, refl, sym, ◌∙◌, ap, map, subst, arith, Bool, true, false, not, ◌&&◌, Option, Some, None, get_or, drop, append-nil}
use Rattle.std.proofs.Math.ListN.{get_or-append}
use Rattle.std.proofs.Math.Seq.{get_or-append_seam, drop-cons}
use Rattle.std.proofs.lemmas.List.{length-append, length-map, map-append}
use Rattle.std.specs.Prelude.{if◌then◌else◌}
use Rattle.fc_values.specs.Types.{LocalType, ValueType, BoolType}
use Rattle.fc_values.specs.Values.{LocalValue}
use Rattle.fc_values.specs.BuiltinTypes.{inner}
use Rattle.fc_values.specs.declared.exports.Slot.{Slot}
use Rattle.fc_values.specs.Exports.{SlotValue, FlatExport, slot_of, slots_of, slot_at}
use Rattle.fc_nodes.specs.declared.nodes.Node.{Node}
use Rattle.fc_nodes.specs.Terms.{Term, Terms, Plain, Apply, Nbr, Evolve, If, Let, NoMore, More, size, kept, kept_all, Sort, term_at, terms_by, HasNode, AllLaid, places, kept_type, is_branching}
use Rattle.fc_nodes.specs.Flat.{tree_export, IsExport}
use Rattle.fc_nodes.specs.Program.{Unfolding}
use Rattle.fc_nodes.proofs.Places.{AllAbove}
use Rattle.fc_nodes.proofs.Kids.{kids_of, kids_are, laid_term, own_type, branches, own_is, branches_is, three}
use Rattle.value_trees.specs.SlotFits.{ValueFits, SlotFits, SlotsFit, AllSlotsFit, OwnSlotFits, after_own, truth_in}
use Rattle.value_trees.specs.Walks.{FitsMain}
use Rattle.fc_nodes.specs.Places.{StandsAt, StandAfter}
use Rattle.value_trees.specs.KeptLists.{if_kept, kept_only, kept_values}
use Rattle.value_trees.proofs.WalkSteps.{kids_walked, term_is, if_walked}
use Rattle.value_trees.specs.KeptReads.{misfit_of}
use Rattle.value_trees.specs.KeptItems.{KeptItem, Taken, Took, Misfit, MayStand, take_main, misfit_by, misfit_among, plain_item, values}
use Rattle.value_trees.specs.Leavings.{Leaving, Leaves, Misses, leaving, and_leaving, leaves_by, leaves_by_all}
use Rattle.value_trees.specs.declared.reading.KeptFault.{KeptFault}
use Rattle.value_trees.specs.declared.reading.KeptFault.TheVariants as fault
use Rattle.value_trees.specs.Filling.{left_at, left_after, own_at, Extends, Fills, FaultIn, IsHead, IsFirst, IsFault, IsItemFault, IsRead, IsReadOff, NoExportKeeps}
use Rattle.value_trees.specs.Snaps.{tree_of}
use Rattle.fc_values.specs.declared.exports.Export.{Export}
use Rattle.fc_values.specs.Trees.{Tree, TreeExport}
use Rattle.value_trees.proofs.SlotTrees.{fit_export}
use Rattle.value_trees.proofs.KeptSlots.{kept_of_slots}
use Rattle.value_trees.proofs.ReadBack.{kept_lists_fit}
use Rattle.value_trees.proofs.Takes.{and_same, node_takes, more_leaves, if_misses, if_leaves, value_taken, value_misfits, head_taken}
use Rattle.value_trees.proofs.TookTrees.{whole_took}
use Rattle.value_trees.proofs.PlainLists.{plain_misfit, plain_values}
use Rattle.value_trees.proofs.ReadTrees.{one_export}

-- slots behind others
pub extends_self : (xs : List SlotValue) → Extends xs xs
extends_self xs = record { long = omega arith; same = λ k h. refl }

pub extends_both : (xs ys zs : List SlotValue) → Extends xs ys → Extends ys zs → Extends xs zs
extends_both xs ys zs h h' =
    let l = h.long in
    let l' = h'.long in
    record { long = omega (arith, l, l'); same = λ k b. h'.same k (omega (arith, b, l)) ∙ h.same k b }

pub extends_one : (xs : List SlotValue) (x : SlotValue) → Extends xs (xs ++ x ∷ [])
unfolding slot_at
extends_one xs x = record { long = omega (arith, length-append xs (x ∷ [])); same = λ k h. get_or-append xs (x ∷ []) _ k h }

pub last_slot : (xs : List SlotValue) (x : SlotValue) → slot_at (length xs) (xs ++ x ∷ []) ≡ x
unfolding slot_at
last_slot xs x = get_or-append_seam xs x [] _

pub kept_one : (xs : List SlotValue) (b : Bool) (v : LocalValue) (us : List LocalValue) → kept_only (xs ++ (b, v) ∷ []) ++ us ≡ kept_only xs ++ if_kept b v us
kept_one [] true v us = refl
kept_one [] false v us = refl
kept_one (x ∷ xs) b v us = behind x.0 x.1 (kept_only (xs ++ (b, v) ∷ [])) us (kept_only xs) (if_kept b v us) (kept_one xs b v us)
  where
    behind : (c : Bool) (w : LocalValue) (vs us ws rs : List LocalValue) → vs ++ us ≡ ws ++ rs → if_kept c w vs ++ us ≡ if_kept c w ws ++ rs
    behind true w vs us ws rs e = ap (λ (ys : List LocalValue). w ∷ ys) e
    behind false w vs us ws rs e = e

-- a fact on slots stays when slots are added behind
module _ (c : ℕ) (xs ys : List SlotValue) (e : Extends xs ys) where
  pub slot_stays : (g : Bool) (s : LocalType) (k : ℕ) → SlotFits g c s k xs → SlotFits g c s k ys
  slot_stays g s k h =
      let l = e.long in
      let w = h.within in
      let same = e.same k w in
      record {
        within = omega (arith, l, w);
        kept = ap (λ (x : SlotValue). x.0) same ∙ h.kept;
        value = subst (λ (x : SlotValue). ValueFits g c s x.1) (sym same) h.value;
      }

  mutual
    pub fits_stay : (g : Bool) (t : Term) (k : ℕ) → SlotsFit g c t k xs → SlotsFit g c t k ys
    fits_stay g (Plain t l) k h = tt
    fits_stay g (Apply t o ts) k h = all_stay g ts k h
    fits_stay g (Nbr t a) k h = (slot_stays g (inner t) k h.0, (fits_stay g a (suc k) h.1.0, tt))
    fits_stay g (Evolve t v a b) k h = (slot_stays g (inner t) k h.0, (fits_stay g a (suc k) h.1.0, (fits_stay g b (suc k + kept a) h.1.1.0, tt)))
    fits_stay g (If t x a b) k h =
        let o = h.0 in
        let same = e.same k o.within in (
          slot_stays g BoolType k h.0,
          (
            fits_stay g x (suc k) h.1.0,
            (
              subst (λ (s : SlotValue). SlotsFit (g && truth_in s.1) c a (suc k + kept x) ys) (sym same) (fits_stay (g && truth_in (slot_at k xs).1) a (suc k + kept x) h.1.1.0),
              subst (λ (s : SlotValue). SlotsFit (g && not (truth_in s.1)) c b (suc k + kept x + kept a) ys) (sym same) (fits_stay (g && not (truth_in (slot_at k xs).1)) b (suc k + kept x + kept a) h.1.1.1),
            ),
          ),
        )
    fits_stay g (Let t a b) k h = (fits_stay g a k h.0, (fits_stay g b (k + kept a) h.1.0, tt))

    pub all_stay : (g : Bool) (ts : Terms) (k : ℕ) → AllSlotsFit g c ts k xs → AllSlotsFit g c ts k ys
    all_stay g NoMore k h = tt
    all_stay g (More t ts) k h = (fits_stay g t k h.0, all_stay g ts (k + kept t) h.1)

  pub own_stays : (g : Bool) (o : Option LocalType) (k : ℕ) → OwnSlotFits g c o k xs → OwnSlotFits g c o k ys
  own_stays g None k h = tt
  own_stays g (Some s) k h = slot_stays g s k h

-- what is left
pub and_rest : (l : Leaving) → and_leaving l (λ us. Leaves us) ≡ l
and_rest (Leaves us) = refl
and_rest (Misses p) = refl

pub and_rest_is : (l : Leaving) (us : List KeptItem) (f : List KeptItem → Leaving) → l ≡ Leaves us → and_leaving l f ≡ f us
and_rest_is (Leaves vs) us f e = let s : vs ≡ us = cc in ap f s
and_rest_is (Misses p) us f e = absurd cc

pub and_off_is : (l : Leaving) (p : ℕ) (f : List KeptItem → Leaving) → l ≡ Misses p → and_leaving l f ≡ Misses p
and_off_is (Leaves vs) p f e = absurd cc
and_off_is (Misses q) p f e = e

-- the kids so far: those that are left, with the values that are left, make all of them
pub record KidsSoFar (ns : List Node) (p : ℕ) (g : Bool) (c : ℕ) (all ks : List ℕ) (vs us : List KeptItem) (xs ys : List SlotValue) : Type 0 where
  pub stand : StandAfter ns p ks
  pub left : left_after g c (term_at ns) all vs ≡ left_after g c (term_at ns) ks us
  pub extends : Extends xs ys
  pub fits : (zs : List SlotValue) → Extends ys zs → AllSlotsFit g c (terms_by (term_at ns) ks) (length ys) zs → AllSlotsFit g c (terms_by (term_at ns) all) (length xs) zs
  pub long : length ys + kept_all (terms_by (term_at ns) ks) ≡ length xs + kept_all (terms_by (term_at ns) all)
  pub same : kept_only ys ++ values us ≡ kept_only xs ++ values vs

module _ (ns : List Node) (p : ℕ) (g : Bool) (c : ℕ) where
  pub kids_first : (ks : List ℕ) (vs : List KeptItem) (xs : List SlotValue) → StandAfter ns p ks → KidsSoFar ns p g c ks ks vs vs xs xs
  kids_first ks vs xs h = record { stand = h; left = refl; extends = extends_self xs; fits = λ zs e f. f; long = refl; same = refl }

  module _ (all : List ℕ) (k : ℕ) (ks : List ℕ) (vs us : List KeptItem) (xs ys : List SlotValue) (h : KidsSoFar ns p g c all (k ∷ ks) vs us xs ys) where
    pub kids_next : (ws : List KeptItem) (zs : List SlotValue) → Fills (SlotsFit g c (term_at ns k) (length ys)) (length ys + kept (term_at ns k)) (left_at g c k (term_at ns k) us) us ws ys zs → KidsSoFar ns p g c all ks vs ws xs zs
    kids_next ws zs f =
        let l = h.long in
        let m = f.long in
        let s = h.stand in
        record {
          stand = s.2;
          left = h.left ∙ and_rest_is (left_at g c k (term_at ns k) us) ws (λ rs. left_after g c (term_at ns) ks rs) f.left;
          extends = extends_both xs ys zs h.extends f.extends;
          fits = λ rs e q. h.fits rs (extends_both ys zs rs f.extends e) (fits_stay c zs rs e g (term_at ns k) (length ys) f.fits, subst (λ j. AllSlotsFit g c (terms_by (term_at ns) ks) j rs) m q);
          long = omega (arith, l, m);
          same = f.same ∙ h.same;
        }

    pub kids_off : (q : ℕ) → left_at g c k (term_at ns k) us ≡ Misses q → left_after g c (term_at ns) all vs ≡ Misses q
    kids_off q e = h.left ∙ and_off_is (left_at g c k (term_at ns k) us) q (λ rs. left_after g c (term_at ns) ks rs) e

  pub kids_at : (all : List ℕ) (i : ℕ) (vs us ws : List KeptItem) (xs ys zs : List SlotValue) → i < length all → KidsSoFar ns p g c all (drop i all) vs us xs ys
      → Fills (SlotsFit g c (term_at ns (get_or all i 0)) (length ys)) (length ys + kept (term_at ns (get_or all i 0))) (left_at g c (get_or all i 0) (term_at ns (get_or all i 0)) us) us ws ys zs → KidsSoFar ns p g c all (drop (i + 1) all) vs ws xs zs
  kids_at all i vs us ws xs ys zs b h f =
      let e : suc i ≡ i + 1 = omega arith in
      let h' = subst (λ (js : List ℕ). KidsSoFar ns p g c all js vs us xs ys) (drop-cons all i 0 b) h in
      subst (λ (j : ℕ). KidsSoFar ns p g c all (drop j all) vs ws xs zs) e (kids_next all (get_or all i 0) (drop (suc i) all) vs us xs ys h' ws zs f)

  pub kids_done : (all : List ℕ) (vs us : List KeptItem) (xs ys : List SlotValue) → KidsSoFar ns p g c all [] vs us xs ys
      → Fills (AllSlotsFit g c (terms_by (term_at ns) all) (length xs)) (length xs + kept_all (terms_by (term_at ns) all)) (left_after g c (term_at ns) all vs) vs us xs ys
  kids_done all vs us xs ys h =
      let l = h.long in
      record { left = h.left; extends = h.extends; fits = h.fits ys (extends_self ys) tt; long = omega (arith, l); same = h.same }

-- a fault of a part is one of the whole
pub fault_up : (l l' : Leaving) → ((q : ℕ) → l ≡ Misses q → l' ≡ Misses q) → (e : KeptFault) → FaultIn l e → FaultIn l' e
fault_up l l' f (fault.At p) h = f p h
fault_up l l' f fault.Memory h = tt

none_read : (c : ℕ) (go : ℕ → Term) (ks : List ℕ) (vs : List KeptItem) → left_after false c go ks vs ≡ Leaves vs
none_read c go [] vs = refl
none_read c go (k ∷ ks) vs = none_read c go ks vs

none_own : (c : ℕ) (o : Option LocalType) (p : ℕ) (vs : List KeptItem) → own_at false c o p vs ≡ Leaves vs
none_own c None p vs = refl
none_own c (Some s) p vs = refl

module _ (ns : List Node) (ab : AllAbove ns) (c : ℕ) where
  all_read : (xs : Terms) (q : ℕ) (vs : List KeptItem) → AllLaid ns q xs → left_after true c (term_at ns) (places q xs) vs ≡ leaves_by_all c q xs vs
  all_read NoMore q vs l = refl
  all_read (More x xs) q vs l =
      let e = laid_term ns ab x q l.0 in
      ap (λ (u : Term). and_leaving (leaves_by c q u vs) (λ us. left_after true c (term_at ns) (places (q + size x) xs) us)) e
      ∙ and_same (leaves_by c q x vs) (λ us. left_after true c (term_at ns) (places (q + size x) xs) us) (λ us. leaves_by_all c (q + size x) xs us) (λ us. all_read xs (q + size x) us l.1)
      ∙ sym (more_leaves c q x xs vs)

-- a node that is no `if`
module _ (ns : List Node) (ab : AllAbove ns) (p : ℕ) (st : StandsAt ns p) (s : Sort) (t : ValueType) (ks : List ℕ) (h : HasNode ns p s t ks) (g : Bool) (c : ℕ) (plain : is_branching s ≡ false) where
  node_left : (b : Bool) (vs : List KeptItem) → left_at b c p (term_at ns p) vs ≡ and_leaving (own_at b c (kept_type s t) p vs) (λ us. left_after b c (term_at ns) ks us)
  node_left true vs =
      let u = term_at ns p in
      let i = kids_are ns ab p s t ks h st.laid in
      let own : own_type u ≡ kept_type s t = sym (own_is ns s t ks u p h st.laid) in
      let b : branches u ≡ false = sym (branches_is ns s t ks u p h st.laid) ∙ plain in
      node_takes c p u vs b
      ∙ ap (λ (o : Option LocalType). and_leaving (own_at true c o p vs) (λ us. leaves_by_all c (suc p) (kids_of u) us)) own
      ∙ and_same (own_at true c (kept_type s t) p vs) (λ us. leaves_by_all c (suc p) (kids_of u) us) (λ us. left_after true c (term_at ns) ks us)
      (λ us. sym (all_read ns ab c (kids_of u) (suc p) us i.laid) ∙ ap (λ (js : List ℕ). left_after true c (term_at ns) js us) (sym i.stand_at))
  node_left false vs = sym (ap (λ (l : Leaving). and_leaving l (λ us. left_after false c (term_at ns) ks us)) (none_own c (kept_type s t) p vs) ∙ none_read c (term_at ns) ks vs)

  module _ (vs : List KeptItem) where
    pub own_off : (q : ℕ) → own_at g c (kept_type s t) p vs ≡ Misses q → left_at g c p (term_at ns p) vs ≡ Misses q
    own_off q e = node_left g vs ∙ and_off_is (own_at g c (kept_type s t) p vs) q (λ us. left_after g c (term_at ns) ks us) e

    module _ (us : List KeptItem) (xs ys : List SlotValue) (o : Fills (OwnSlotFits g c (kept_type s t) (length xs)) (after_own (kept_type s t) (length xs)) (own_at g c (kept_type s t) p vs) vs us xs ys) where
      after_left : left_at g c p (term_at ns p) vs ≡ left_after g c (term_at ns) ks us
      after_left = node_left g vs ∙ and_rest_is (own_at g c (kept_type s t) p vs) us (λ us. left_after g c (term_at ns) ks us) o.left

      pub kids_of_off : (q : ℕ) → left_after g c (term_at ns) ks us ≡ Misses q → left_at g c p (term_at ns p) vs ≡ Misses q
      kids_of_off q e = after_left ∙ e

      pub node_filled : (ws : List KeptItem) (zs : List SlotValue) → Fills (AllSlotsFit g c (terms_by (term_at ns) ks) (length ys)) (length ys + kept_all (terms_by (term_at ns) ks)) (left_after g c (term_at ns) ks us) us ws ys zs
          → Fills (SlotsFit g c (term_at ns p) (length xs)) (length xs + kept (term_at ns p)) (left_at g c p (term_at ns p) vs) vs ws xs zs
      node_filled ws zs f =
          let w = kids_walked ns ab p st s t ks h g c (length xs) zs plain (length ys) (own_stays c ys zs f.extends g (kept_type s t) (length xs) o.fits) o.long (Some (length zs)) (f.fits, f.long) in
          record { left = after_left ∙ f.left; extends = extends_both xs ys zs o.extends f.extends; fits = w.0; long = w.1; same = f.same ∙ o.same }

-- an `if`
pub if_off : (g : Bool) (c p : ℕ) (t : ValueType) (x a b : Term) (vs : List KeptItem) (q : ℕ) → own_at g c (Some BoolType) p vs ≡ Misses q → left_at g c p (If t x a b) vs ≡ Misses q
if_off true c p t x a b vs q e = if_misses c p t x a b vs q e
if_off false c p t x a b vs q e = absurd cc

if_true : (c p : ℕ) (t : ValueType) (x a b : Term) (item : KeptItem) (us : List KeptItem) (truth : Bool) → truth ≡ truth_in item.value → own_at true c (Some BoolType) p (item ∷ us) ≡ Leaves us
    → leaves_by c p (If t x a b) (item ∷ us) ≡ and_leaving (leaves_by c (suc p) x us) (λ ws. and_leaving (left_at truth c (suc p + size x) a ws) (λ rs. left_at (not truth) c (suc p + size x + size a) b rs))
if_true c p t x a b item us truth f e =
    if_leaves c p t x a b (item ∷ us) us item.value (head_taken c BoolType p item us us e)
    ∙ and_same (leaves_by c (suc p) x us) (λ ws. if truth_in item.value then leaves_by c (suc p + size x) a ws else leaves_by c (suc p + size x + size a) b ws)
    (λ ws. and_leaving (left_at truth c (suc p + size x) a ws) (λ rs. left_at (not truth) c (suc p + size x + size a) b rs)) (λ ws. arm (truth_in item.value) truth f ws)
  where
    arm : (d e : Bool) → e ≡ d → (ws : List KeptItem) → (if d then leaves_by c (suc p + size x) a ws else leaves_by c (suc p + size x + size a) b ws)
        ≡ and_leaving (left_at e c (suc p + size x) a ws) (λ rs. left_at (not e) c (suc p + size x + size a) b rs)
    arm true true h ws = sym (and_rest (leaves_by c (suc p + size x) a ws))
    arm true false h ws = absurd cc
    arm false true h ws = absurd cc
    arm false false h ws = refl

pub if_left : (g : Bool) (c p : ℕ) (t : ValueType) (x a b : Term) (v : LocalValue) (vs us : List KeptItem) (truth : Bool) → truth ≡ truth_in v → IsFirst g v vs us → own_at g c (Some BoolType) p vs ≡ Leaves us
    → left_at g c p (If t x a b) vs ≡ and_leaving (left_at g c (suc p) x us) (λ ws. and_leaving (left_at (g && truth) c (suc p + size x) a ws) (λ rs. left_at (g && not truth) c (suc p + size x + size a) b rs))
if_left true c p t x a b v vs us truth f i e =
    let same = i.is in
    let e' : own_at true c (Some BoolType) p (i.item ∷ us) ≡ Leaves us = subst (λ (ys : List KeptItem). own_at true c (Some BoolType) p ys ≡ Leaves us) same e in
    ap (leaves_by c p (If t x a b)) same ∙ if_true c p t x a b i.item us truth (f ∙ ap truth_in (sym i.value)) e'
if_left false c p t x a b v vs us truth f i e = e

module _ (ns : List Node) (ab : AllAbove ns) (p : ℕ) (st : StandsAt ns p) (s : Sort) (t : ValueType) (ks : List ℕ) (h : HasNode ns p s t ks) (branching : is_branching s ≡ true) (g : Bool) (c : ℕ) (q0 q1 q2 : ℕ) (f0 : q0 ≡ get_or ks 0 0) (f1 : q1 ≡ get_or ks 1 0) (f2 : q2 ≡ get_or ks 2 0) (vs : List KeptItem) (xs : List SlotValue) where
  whole_is : term_at ns p ≡ If t (term_at ns q0) (term_at ns q1) (term_at ns q2)
  whole_is = term_is ns ab p st s t ks h branching g c (length xs) xs q0 q1 q2 f0 f1 f2

  kids_stand_at : (q0 ≡ suc p) × (q1 ≡ suc p + size (term_at ns q0)) × (q2 ≡ suc p + size (term_at ns q0) + size (term_at ns q1))
  kids_stand_at =
      let th = three ns ab p st s t ks h branching in
      let i0 = th.first_is in
      let i1 = th.second_is in
      let i2 = th.third_is in
      let z0 : size (term_at ns q0) ≡ size (term_at ns (get_or ks 0 0)) = ap (λ (q : ℕ). size (term_at ns q)) f0 in
      let z1 : size (term_at ns q1) ≡ size (term_at ns (get_or ks 1 0)) = ap (λ (q : ℕ). size (term_at ns q)) f1 in
      (omega (arith, i0, f0), omega (arith, i1, f1, z0), omega (arith, i2, f2, z0, z1))

  pub if_own_off : (q : ℕ) → own_at g c (Some BoolType) p vs ≡ Misses q → left_at g c p (term_at ns p) vs ≡ Misses q
  if_own_off q e = ap (λ (u : Term). left_at g c p u vs) whole_is ∙ if_off g c p t (term_at ns q0) (term_at ns q1) (term_at ns q2) vs q e

  module _ (us : List KeptItem) (y0 : List SlotValue) (o : Fills (SlotFits g c BoolType (length xs)) (length xs + 1) (own_at g c (Some BoolType) p vs) vs us xs y0) (first : IsFirst g (slot_at (length xs) y0).1 vs us) (truth : Bool) (et : truth ≡ truth_in (slot_at (length xs) y0).1) (g1 : Bool) (eg1 : g1 ≡ (g && truth)) (g2 : Bool) (eg2 : g2 ≡ (g && not truth)) where
    third_left : List KeptItem → Leaving
    third_left rs = left_at g2 c q2 (term_at ns q2) rs

    second_left : List KeptItem → Leaving
    second_left ws = and_leaving (left_at g1 c q1 (term_at ns q1) ws) (λ rs. left_at g2 c q2 (term_at ns q2) rs)

    whole_left_is : left_at g c p (term_at ns p) vs ≡ and_leaving (left_at g c q0 (term_at ns q0) us) (λ ws. and_leaving (left_at g1 c q1 (term_at ns q1) ws) (λ rs. left_at g2 c q2 (term_at ns q2) rs))
    whole_left_is =
        let i = kids_stand_at in
        let i0 = i.0 in
        let i1 = i.1 in
        let i2 = i.2 in
        ap (λ (u : Term). left_at g c p u vs) whole_is
        ∙ if_left g c p t (term_at ns q0) (term_at ns q1) (term_at ns q2) (slot_at (length xs) y0).1 vs us truth et first o.left
        ∙ ap (λ (j : ℕ). and_leaving (left_at g c j (term_at ns q0) us) (λ ws. and_leaving (left_at (g && truth) c (suc p + size (term_at ns q0)) (term_at ns q1) ws) (λ rs. left_at (g && not truth) c (suc p + size (term_at ns q0) + size (term_at ns q1)) (term_at ns q2) rs))) (sym i0)
        ∙ ap (λ (j : ℕ). and_leaving (left_at g c q0 (term_at ns q0) us) (λ ws. and_leaving (left_at (g && truth) c j (term_at ns q1) ws) (λ rs. left_at (g && not truth) c (suc p + size (term_at ns q0) + size (term_at ns q1)) (term_at ns q2) rs))) (sym i1)
        ∙ ap (λ (j : ℕ). and_leaving (left_at g c q0 (term_at ns q0) us) (λ ws. and_leaving (left_at (g && truth) c q1 (term_at ns q1) ws) (λ rs. left_at (g && not truth) c j (term_at ns q2) rs))) (sym i2)
        ∙ ap (λ (d : Bool). and_leaving (left_at g c q0 (term_at ns q0) us) (λ ws. and_leaving (left_at d c q1 (term_at ns q1) ws) (λ rs. left_at (g && not truth) c q2 (term_at ns q2) rs))) (sym eg1)
        ∙ ap (λ (d : Bool). and_leaving (left_at g c q0 (term_at ns q0) us) (λ ws. and_leaving (left_at g1 c q1 (term_at ns q1) ws) (λ rs. left_at d c q2 (term_at ns q2) rs))) (sym eg2)

    pub if_first_off : (q : ℕ) → left_at g c q0 (term_at ns q0) us ≡ Misses q → left_at g c p (term_at ns p) vs ≡ Misses q
    if_first_off q e = whole_left_is ∙ and_off_is (left_at g c q0 (term_at ns q0) us) q (λ ws. and_leaving (left_at g1 c q1 (term_at ns q1) ws) (λ rs. left_at g2 c q2 (term_at ns q2) rs)) e

    module _ (ws : List KeptItem) (y1 : List SlotValue) (a : Fills (SlotsFit g c (term_at ns q0) (length y0)) (length y0 + kept (term_at ns q0)) (left_at g c q0 (term_at ns q0) us) us ws y0 y1) where
      after_first : left_at g c p (term_at ns p) vs ≡ and_leaving (left_at g1 c q1 (term_at ns q1) ws) (λ rs. left_at g2 c q2 (term_at ns q2) rs)
      after_first = whole_left_is ∙ and_rest_is (left_at g c q0 (term_at ns q0) us) ws (λ ws. and_leaving (left_at g1 c q1 (term_at ns q1) ws) (λ rs. left_at g2 c q2 (term_at ns q2) rs)) a.left

      pub if_second_off : (q : ℕ) → left_at g1 c q1 (term_at ns q1) ws ≡ Misses q → left_at g c p (term_at ns p) vs ≡ Misses q
      if_second_off q e = after_first ∙ and_off_is (left_at g1 c q1 (term_at ns q1) ws) q (λ rs. left_at g2 c q2 (term_at ns q2) rs) e

      module _ (rs : List KeptItem) (y2 : List SlotValue) (b : Fills (SlotsFit g1 c (term_at ns q1) (length y1)) (length y1 + kept (term_at ns q1)) (left_at g1 c q1 (term_at ns q1) ws) ws rs y1 y2) where
        after_second : left_at g c p (term_at ns p) vs ≡ left_at g2 c q2 (term_at ns q2) rs
        after_second = after_first ∙ and_rest_is (left_at g1 c q1 (term_at ns q1) ws) rs (λ rs. left_at g2 c q2 (term_at ns q2) rs) b.left

        pub if_third_off : (q : ℕ) → left_at g2 c q2 (term_at ns q2) rs ≡ Misses q → left_at g c p (term_at ns p) vs ≡ Misses q
        if_third_off q e = after_second ∙ e

        pub if_filled : (ss : List KeptItem) (zs : List SlotValue) → Fills (SlotsFit g2 c (term_at ns q2) (length y2)) (length y2 + kept (term_at ns q2)) (left_at g2 c q2 (term_at ns q2) rs) rs ss y2 zs
            → Fills (SlotsFit g c (term_at ns p) (length xs)) (length xs + kept (term_at ns p)) (left_at g c p (term_at ns p) vs) vs ss xs zs
        if_filled ss zs d =
            let x2 = d.extends in
            let x1 = extends_both y1 y2 zs b.extends x2 in
            let x0 = extends_both y0 y1 zs a.extends x1 in
            let own = o.fits in
            let l0 : length y0 ≡ length xs + 1 = o.long in
            let l1 = a.long in
            let same = x0.same (length xs) own.within in
            let et' : truth ≡ truth_in (slot_at (length xs) zs).1 = et ∙ ap (λ (z : SlotValue). truth_in z.1) (sym same) in
            let w = if_walked ns ab p st s t ks h branching g c (length xs) zs q0 q1 q2 f0 f1 f2 truth et' (length y1) (omega (arith, l0, l1)) g1 eg1 (length y2) b.long g2 eg2
            (slot_stays c y0 zs x0 g BoolType (length xs) own)
            (subst (λ (j : ℕ). SlotsFit g c (term_at ns q0) j zs) l0 (fits_stay c y1 zs x1 g (term_at ns q0) (length y0) a.fits))
            (fits_stay c y2 zs x2 g1 (term_at ns q1) (length y1) b.fits)
            d.fits (length zs) d.long in
            record { left = after_second ∙ d.left; extends = extends_both xs y0 zs o.extends x0; fits = w.0; long = w.1; same = d.same ∙ b.same ∙ a.same ∙ o.same }

-- one slot more
pub slot_added : (g : Bool) (c : ℕ) (s : LocalType) (l : Leaving) (v : LocalValue) (vs us : List KeptItem) (xs ys : List SlotValue) → ys ≡ xs ++ (g, v) ∷ [] → ValueFits g c s v → l ≡ Leaves us → if_kept g v (values us) ≡ values vs
    → Fills (SlotFits g c s (length xs)) (length xs + 1) l vs us xs ys
slot_added g c s l v vs us xs ys e h r k =
    let n = length-append xs ((g, v) ∷ []) in
    let m : length ys ≡ length (xs ++ (g, v) ∷ []) = ap (length {A = SlotValue}) e in
    let last : slot_at (length xs) ys ≡ (g, v) = ap (slot_at (length xs)) e ∙ last_slot xs (g, v) in
    record {
      left = r;
      extends = subst (λ (zs : List SlotValue). Extends xs zs) (sym e) (extends_one xs (g, v));
      fits = record { within = omega (arith, n, m); kept = ap (λ (x : SlotValue). x.0) last; value = subst (λ (x : SlotValue). ValueFits g c s x.1) (sym last) h };
      long = omega (arith, n, m);
      same = ap (λ (zs : List SlotValue). kept_only zs ++ values us) e ∙ kept_one xs g v (values us) ∙ ap (λ (ws : List LocalValue). kept_only xs ++ ws) k;
    }

-- the truth of an `if`, in the slot that was added
pub truth_here : (truth : Bool) (at : ℕ) (xs ys zs : List Slot) → truth ≡ truth_in (slot_at at (slots_of zs)).1 → at ≡ length xs → zs ≡ ys → truth ≡ truth_in (slot_at (length (slots_of xs)) (slots_of ys)).1
truth_here truth at xs ys zs e f g =
    let n : at ≡ length (slots_of xs) = omega (arith, f, length-map xs slot_of) in
    e ∙ ap (λ (k : ℕ). truth_in (slot_at k (slots_of zs)).1) n ∙ ap (λ (ss : List Slot). truth_in (slot_at (length (slots_of xs)) (slots_of ss)).1) g

-- the first item, where it may stand or not
pub own_fits : (c : ℕ) (s : LocalType) (p : ℕ) (x : KeptItem) (vs : List KeptItem) → MayStand p c s x → own_at true c (Some s) p (x ∷ vs) ≡ Leaves vs
own_fits c s p x vs h = ap leaving (value_taken c s p x vs h.0 h.1)

pub own_misfits : (c : ℕ) (s : LocalType) (p : ℕ) (x : KeptItem) (vs : List KeptItem) → (MayStand p c s x → ⊥) → own_at true c (Some s) p (x ∷ vs) ≡ Misses p
own_misfits c s p x vs h = ap leaving (value_misfits c s p x vs (λ n f. h (n, f)))

-- a slot that is pushed
pub pushed : (xs ys : List Slot) (x : Slot) → ys ≡ xs ++ x ∷ [] → slots_of ys ≡ slots_of xs ++ slot_of x ∷ []
pushed xs ys x e = ap slots_of e ∙ map-append slot_of xs (x ∷ [])

pub first_added : (v : LocalValue) (x : KeptItem) (us : List KeptItem) (xs ys : List SlotValue) → ys ≡ xs ++ (true, v) ∷ [] → x.value ≡ v → IsHead (slot_at (length xs) ys).1 (x ∷ us) us
first_added v x us xs ys e f =
    let last : slot_at (length xs) ys ≡ (true, v) = ap (slot_at (length xs)) e ∙ last_slot xs (true, v) in
    record { item = x; value = f ∙ ap (λ (y : SlotValue). y.1) (sym last); is = refl }

pub none_of : (vs : List KeptItem) → length vs ≡ 0 → vs ≡ []
none_of [] e = refl
none_of (v ∷ vs) e = absurd (omega arith)

-- ---- whole lists

module _ (U : Unfolding) (vs : List KeptItem) where
  pub whole_fault : (e : KeptFault) → FaultIn (leaves_by U.declared.ceiling 0 U.main vs) e → IsItemFault U vs e
  whole_fault (fault.At p) h = by_taken (take_main U vs) h
    where
      by_taken : (t : Taken Tree) → leaving t ≡ Misses p → misfit_by (size U.main) t ≡ Some p
      by_taken (Took tree xs) h = absurd cc
      by_taken (Misfit q) h = let n : q ≡ p = cc in ap (λ (k : ℕ). Some k) n
  whole_fault fault.Memory h = tt

  pub surplus_fault : (us : List KeptItem) (n : ℕ) → leaves_by U.declared.ceiling 0 U.main vs ≡ Leaves us → 0 < length us → n ≡ size U.main → misfit_among U vs ≡ Some n
  surplus_fault us n h l e = by_taken (take_main U vs) us h l
    where
      by_taken : (t : Taken Tree) (us : List KeptItem) → leaving t ≡ Leaves us → 0 < length us → misfit_by (size U.main) t ≡ Some n
      by_taken (Took tree []) [] h l = absurd (omega (arith, l))
      by_taken (Took tree []) (u ∷ us) h l = absurd cc
      by_taken (Took tree (x ∷ xs)) us h l = ap (λ (k : ℕ). Some k) (sym e)
      by_taken (Misfit q) us h l = absurd cc

  pub whole_filled : (x : FlatExport) (us : List KeptItem) (xs : List SlotValue) → xs ≡ [] → us ≡ [] → FitsMain U x.value
      → Fills (SlotsFit true U.declared.ceiling U.main (length xs)) (length xs + kept U.main) (leaves_by U.declared.ceiling 0 U.main vs) vs us xs x.slots → IsExport U x × (kept_values (tree_export U x) ≡ values vs)
  whole_filled x [] [] e e' v f =
      let l = f.long in
      let i = fit_export U x v f.fits (omega (arith, l)) in
      (i, kept_of_slots U x i ∙ sym (append-nil (kept_only x.slots)) ∙ f.same)
  whole_filled x (u ∷ us) xs e e' v f = absurd cc
  whole_filled x [] (y ∷ ys) e e' v f = absurd cc

  -- the items give the tree that the export stands for
  pub whole_tree : (x : FlatExport) → IsExport U x → FitsMain U (tree_export U x).value → kept_values (tree_export U x) ≡ values vs → leaves_by U.declared.ceiling 0 U.main vs ≡ Leaves [] → take_main U vs ≡ Took (tree_export U x).tree []
  whole_tree x i main e h = by_taken (take_main U vs) refl h
    where
      by_taken : (t : Taken Tree) → take_main U vs ≡ t → leaving t ≡ Leaves [] → take_main U vs ≡ Took (tree_export U x).tree []
      by_taken (Took tree []) f h =
          let w = whole_took U (tree_export U x).value vs tree main f in
          let same = one_export U (record { value = (tree_export U x).value; tree = tree }) (tree_export U x) w.0 i.typed refl (w.1 ∙ sym e) in
          f ∙ ap (λ (d : TreeExport). Took d.tree []) same
      by_taken (Took tree (y ∷ ys)) f h = absurd cc
      by_taken (Misfit q) f h = absurd cc

-- ---- values alone

module _ (U : Unfolding) (vs : List LocalValue) where
  no_export : (p : ℕ) → misfit_of U vs ≡ Some p → NoExportKeeps U vs
  no_export p h = λ e w k. let n : misfit_of U vs ≡ None = sym (ap (misfit_of U) k) ∙ kept_lists_fit U e w in absurd cc

  pub plain_fault : (e : KeptFault) → IsItemFault U (map plain_item vs) e → IsFault U vs e
  plain_fault (fault.At p) h = let m : misfit_of U vs ≡ Some p = sym (plain_misfit U vs) ∙ h in (m, no_export p m)
  plain_fault fault.Memory h = tt

  pub plain_read : (v : LocalValue) (e : Export) → FitsMain U v → IsReadOff U v (map plain_item vs) e → IsRead U v vs e
  plain_read v e main r =
      let w = whole_took U v (map plain_item vs) (tree_of U e).tree main r.tree in
      let list : kept_values (tree_of U e) ≡ vs = w.1 ∙ plain_values vs in
      let export = r.export in
      record { export = export; value = r.value; list = list; only = λ x h f k. one_export U x (tree_of U e) h export.typed (f ∙ sym r.value) (k ∙ sym list) }
