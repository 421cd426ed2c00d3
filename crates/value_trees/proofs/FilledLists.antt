-- A list without a misfit fills the slots of an export.
use Rattle.std.proofs.Common.{◌≡◌, ℕ, suc, ◌+◌, List, [], ◌∷◌, ◌++◌, length, refl, sym, ◌∙◌, ap, map, subst, arith, Bool, true, false, not, ◌&&◌, Some, None}
use Rattle.std.specs.Prelude.{if◌then◌else◌}
use Rattle.fc_values.specs.Types.{LocalType, IntType, BoolType, PairType, ValueType}
use Rattle.fc_values.specs.Values.{LocalValue, IntValue, BoolValue, PairValue, form_of}
use Rattle.fc_values.specs.BuiltinTypes.{inner}
use Rattle.fc_values.specs.Exports.{SlotValue, FlatExport, slot_at}
use Rattle.fc_nodes.specs.Terms.{Term, Terms, Plain, Apply, Nbr, Evolve, If, Let, NoMore, More, size, kept, kept_all, term_type}
use Rattle.value_trees.specs.SlotFits.{SlotFits, SlotsFit, AllSlotsFit, truth_in}
use Rattle.value_trees.specs.KeptLists.{kept_only}
use Rattle.value_trees.specs.KeptReads.{has_type}
use Rattle.value_trees.specs.KeptItems.{KeptItem, names_place, Taken, Took, Misfit, take_main, misfit_by, plain_item, values}
use Rattle.value_trees.specs.Leavings.{Leaving, Leaves, Misses, leaving, and_leaving, leaves_by_all}
use Rattle.value_trees.specs.KeptExports.{Keeps, ListsHaveExports}
use Rattle.value_trees.specs.Filling.{left_at, own_at, Fills, IsHead, IsFirst}
use Rattle.fc_values.specs.Trees.{Tree}
use Rattle.value_trees.proofs.FillSteps.{extends_self, extends_both, last_slot, slot_stays, fits_stay, if_off, if_left, slot_added, whole_filled}
use Rattle.value_trees.proofs.Takes.{apply_leaves, more_leaves, nbr_leaves, evolve_leaves, let_leaves, head_taken}
use Rattle.value_trees.proofs.TookTrees.{value_took}
use Rattle.value_trees.proofs.PlainLists.{plain_misfit, plain_values}
use Rattle.value_trees.proofs.ReadBack.{had_type}

-- a value of each form
abbrev blank : LocalType → LocalValue
blank IntType = IntValue 0
blank BoolType = BoolValue false
blank (PairType s t) = PairValue (blank s) (blank t)

blank_form : (s : LocalType) → form_of (blank s) ≡ s
blank_form IntType = refl
blank_form BoolType = refl
blank_form (PairType s t) = ap (λ u. PairType u (form_of (blank t))) (blank_form s) ∙ ap (PairType s) (blank_form t)

rest_is : (vs us : List KeptItem) → Leaves vs ≡ Leaves us → vs ≡ us
rest_is vs us h = cc

-- the slot of a node's own value
record Own (g : Bool) (c : ℕ) (s : LocalType) (p : ℕ) (vs us : List KeptItem) (xs : List SlotValue) : Type 0 where
  value : LocalValue
  slots : List SlotValue
  is : slots ≡ xs ++ (g, value) ∷ []
  first : IsFirst g value vs us
  fills : Fills (SlotFits g c s (length xs)) (length xs + 1) (own_at g c (Some s) p vs) vs us xs slots

own_filled : (g : Bool) (c : ℕ) (s : LocalType) (p : ℕ) (vs us : List KeptItem) (xs : List SlotValue) → own_at g c (Some s) p vs ≡ Leaves us → Own g c s p vs us xs
own_filled false c s p vs us xs h = record {
  value = blank s;
  slots = xs ++ (false, blank s) ∷ [];
  is = refl;
  first = tt;
  fills = slot_added false c s (Leaves vs) (blank s) vs us xs (xs ++ (false, blank s) ∷ []) refl (blank_form s) h (ap values (sym (rest_is vs us h)));
}
own_filled true c s p [] us xs h = absurd cc
own_filled true c s p (v ∷ vs) us xs h =
    let w = value_took c s p (v ∷ vs) us v.value (head_taken c s p v vs us h) in
    record {
      value = v.value;
      slots = xs ++ (true, v.value) ∷ [];
      is = refl;
      first = by_test (names_place p v.place && has_type c s v.value) h;
      fills = slot_added true c s (own_at true c (Some s) p (v ∷ vs)) v.value (v ∷ vs) us xs (xs ++ (true, v.value) ∷ []) refl w.0 h (sym w.1);
    }
  where
    by_test : (b : Bool) → leaving (if b then Took v.value vs else Misfit p) ≡ Leaves us → IsHead v.value (v ∷ vs) us
    by_test false k = absurd cc
    by_test true k = record { item = v; value = refl; is = ap (λ (ws : List KeptItem). v ∷ ws) (rest_is vs us k) }

-- what is left after a part and what follows it
record Both (l : Leaving) (f : List KeptItem → Leaving) (us : List KeptItem) : Type 0 where
  rest : List KeptItem
  first : l ≡ Leaves rest
  second : f rest ≡ Leaves us

split : (l : Leaving) (f : List KeptItem → Leaving) (us : List KeptItem) → and_leaving l f ≡ Leaves us → Both l f us
split (Leaves ws) f us h = record { rest = ws; first = refl; second = h }
split (Misses p) f us h = absurd cc

abbrev all_at : Bool → ℕ → ℕ → Terms → List KeptItem → Leaving
all_at true c p ts vs = leaves_by_all c p ts vs
all_at false c p ts vs = Leaves vs

-- the slots of a term behind others
record Filled (F : List SlotValue → Type 0) (n : ℕ) (l : Leaving) (vs us : List KeptItem) (xs : List SlotValue) : Type 0 where
  slots : List SlotValue
  fills : Fills F n l vs us xs slots

none_taken : (F : List SlotValue → Type 0) (n : ℕ) (l : Leaving) (vs us : List KeptItem) (xs : List SlotValue) → F xs → length xs ≡ n → l ≡ Leaves vs → l ≡ Leaves us → Filled F n l vs us xs
none_taken F n l vs us xs f long r h = record {
  slots = xs;
  fills = record { left = h; extends = extends_self xs; fits = f; long = long; same = ap (λ (ws : List KeptItem). kept_only xs ++ values ws) (rest_is us vs (sym h ∙ r)) };
}

module _ (c : ℕ) where
  plain_left : (g : Bool) (p : ℕ) (t : ValueType) (l : _) (vs : List KeptItem) → left_at g c p (Plain t l) vs ≡ Leaves vs
  plain_left true p t l vs = refl
  plain_left false p t l vs = refl

  no_more_left : (g : Bool) (p : ℕ) (vs : List KeptItem) → all_at g c p NoMore vs ≡ Leaves vs
  no_more_left true p vs = refl
  no_more_left false p vs = refl

  more_left : (g : Bool) (p : ℕ) (t : Term) (ts : Terms) (vs : List KeptItem) → all_at g c p (More t ts) vs ≡ and_leaving (left_at g c p t vs) (λ us. all_at g c (p + size t) ts us)
  more_left true p t ts vs = more_leaves c p t ts vs
  more_left false p t ts vs = refl

  apply_left : (g : Bool) (p : ℕ) (t : ValueType) (o : _) (ts : Terms) (vs : List KeptItem) → left_at g c p (Apply t o ts) vs ≡ all_at g c (suc p) ts vs
  apply_left true p t o ts vs = apply_leaves c p t o ts vs
  apply_left false p t o ts vs = refl

  nbr_left : (g : Bool) (p : ℕ) (t : ValueType) (a : Term) (vs : List KeptItem) → left_at g c p (Nbr t a) vs ≡ and_leaving (own_at g c (Some (inner t)) p vs) (λ us. left_at g c (suc p) a us)
  nbr_left true p t a vs = nbr_leaves c p t a vs
  nbr_left false p t a vs = refl

  evolve_left : (g : Bool) (p : ℕ) (t : ValueType) (e : _) (a b : Term) (vs : List KeptItem)
      → left_at g c p (Evolve t e a b) vs ≡ and_leaving (own_at g c (Some (inner t)) p vs) (λ us. and_leaving (left_at g c (suc p) a us) (λ ws. left_at g c (suc p + size a) b ws))
  evolve_left true p t e a b vs = evolve_leaves c p t e a b vs
  evolve_left false p t e a b vs = refl

  let_left : (g : Bool) (p : ℕ) (t : ValueType) (a b : Term) (vs : List KeptItem) → left_at g c p (Let t a b) vs ≡ and_leaving (left_at g c (suc p) a vs) (λ ws. left_at g c (suc p + size a) b ws)
  let_left true p t a b vs = let_leaves c p t a b vs
  let_left false p t a b vs = refl

  -- the own value of an `if` whose list has no misfit
  record Truth (g : Bool) (p : ℕ) (vs : List KeptItem) : Type 0 where
    rest : List KeptItem
    is : own_at g c (Some BoolType) p vs ≡ Leaves rest

  if_own : (g : Bool) (p : ℕ) (t : ValueType) (x a b : Term) (vs us : List KeptItem) → left_at g c p (If t x a b) vs ≡ Leaves us → Truth g p vs
  if_own g p t x a b vs us h = by_left (own_at g c (Some BoolType) p vs) refl
    where
      by_left : (l : Leaving) → own_at g c (Some BoolType) p vs ≡ l → Truth g p vs
      by_left (Leaves ws) e = record { rest = ws; is = e }
      by_left (Misses q) e = let off : Misses q ≡ Leaves us = sym (if_off g c p t x a b vs q e) ∙ h in absurd cc

  mutual
    filled : (t : Term) (g : Bool) (p : ℕ) (vs us : List KeptItem) (xs : List SlotValue) → left_at g c p t vs ≡ Leaves us
        → Filled (SlotsFit g c t (length xs)) (length xs + kept t) (left_at g c p t vs) vs us xs
    filled (Plain t l) g p vs us xs h = none_taken _ _ _ vs us xs tt (omega arith) (plain_left g p t l vs) h
    filled (Apply t o ts) g p vs us xs h =
        let f = all_filled ts g (suc p) vs us xs (sym (apply_left g p t o ts vs) ∙ h) in
        record { slots = f.slots; fills = record { left = h; extends = f.fills.extends; fits = f.fills.fits; long = f.fills.long; same = f.fills.same } }
    filled (Nbr t a) g p vs us xs h =
        let s = split (own_at g c (Some (inner t)) p vs) (λ ws. left_at g c (suc p) a ws) us (sym (nbr_left g p t a vs) ∙ h) in
        let o = own_filled g c (inner t) p vs s.rest xs s.first in
        let f = filled a g (suc p) s.rest us o.slots s.second in
        let m = o.fills.long in
        let n = f.fills.long in
        record {
          slots = f.slots;
          fills = record {
            left = h;
            extends = extends_both xs o.slots f.slots o.fills.extends f.fills.extends;
            fits = (slot_stays c o.slots f.slots f.fills.extends g (inner t) (length xs) o.fills.fits, (subst (λ k. SlotsFit g c a k f.slots) (omega (arith, m)) f.fills.fits, tt));
            long = omega (arith, m, n);
            same = f.fills.same ∙ o.fills.same;
          };
        }
    filled (Evolve t e a b) g p vs us xs h =
        let s = split (own_at g c (Some (inner t)) p vs) (λ ws. and_leaving (left_at g c (suc p) a ws) (λ rs. left_at g c (suc p + size a) b rs)) us (sym (evolve_left g p t e a b vs) ∙ h) in
        let q = split (left_at g c (suc p) a s.rest) (λ rs. left_at g c (suc p + size a) b rs) us s.second in
        let o = own_filled g c (inner t) p vs s.rest xs s.first in
        let f = filled a g (suc p) s.rest q.rest o.slots q.first in
        let d = filled b g (suc p + size a) q.rest us f.slots q.second in
        let l = o.fills.long in
        let m = f.fills.long in
        let n = d.fills.long in
        let far = extends_both o.slots f.slots d.slots f.fills.extends d.fills.extends in
        record {
          slots = d.slots;
          fills = record {
            left = h;
            extends = extends_both xs o.slots d.slots o.fills.extends far;
            fits = (
              slot_stays c o.slots d.slots far g (inner t) (length xs) o.fills.fits,
              (
                subst (λ k. SlotsFit g c a k d.slots) (omega (arith, l)) (fits_stay c f.slots d.slots d.fills.extends g a (length o.slots) f.fills.fits),
                (subst (λ k. SlotsFit g c b k d.slots) (omega (arith, l, m)) d.fills.fits, tt),
              ),
            );
            long = omega (arith, l, m, n);
            same = d.fills.same ∙ f.fills.same ∙ o.fills.same;
          };
        }
    filled (If t x a b) g p vs us xs h =
        let w = if_own g p t x a b vs us h in
        let o = own_filled g c BoolType p vs w.rest xs w.is in
        let g1 = g && truth_in o.value in
        let g2 = g && not (truth_in o.value) in
        let whole = sym (if_left g c p t x a b o.value vs w.rest (truth_in o.value) refl o.first w.is) ∙ h in
        let s = split (left_at g c (suc p) x w.rest) (λ ws. and_leaving (left_at g1 c (suc p + size x) a ws) (λ rs. left_at g2 c (suc p + size x + size a) b rs)) us whole in
        let q = split (left_at g1 c (suc p + size x) a s.rest) (λ rs. left_at g2 c (suc p + size x + size a) b rs) us s.second in
        let f = filled x g (suc p) w.rest s.rest o.slots s.first in
        let d = filled a g1 (suc p + size x) s.rest q.rest f.slots q.first in
        let z = filled b g2 (suc p + size x + size a) q.rest us d.slots q.second in
        let l = o.fills.long in
        let m = f.fills.long in
        let n = d.fills.long in
        let r = z.fills.long in
        let late = extends_both f.slots d.slots z.slots d.fills.extends z.fills.extends in
        let far = extends_both o.slots f.slots z.slots f.fills.extends late in
        let here : slot_at (length xs) o.slots ≡ (g, o.value) = ap (slot_at (length xs)) o.is ∙ last_slot xs (g, o.value) in
        let there : slot_at (length xs) z.slots ≡ (g, o.value) = far.same (length xs) o.fills.fits.within ∙ here in
        record {
          slots = z.slots;
          fills = record {
            left = h;
            extends = extends_both xs o.slots z.slots o.fills.extends far;
            fits = (
              slot_stays c o.slots z.slots far g BoolType (length xs) o.fills.fits,
              (
                subst (λ k. SlotsFit g c x k z.slots) (omega (arith, l)) (fits_stay c f.slots z.slots late g x (length o.slots) f.fills.fits),
                (
                  subst (λ (v : SlotValue). SlotsFit (g && truth_in v.1) c a (suc (length xs) + kept x) z.slots) (sym there)
                      (subst (λ k. SlotsFit g1 c a k z.slots) (omega (arith, l, m)) (fits_stay c d.slots z.slots z.fills.extends g1 a (length f.slots) d.fills.fits)),
                  subst (λ (v : SlotValue). SlotsFit (g && not (truth_in v.1)) c b (suc (length xs) + kept x + kept a) z.slots) (sym there)
                      (subst (λ k. SlotsFit g2 c b k z.slots) (omega (arith, l, m, n)) z.fills.fits),
                ),
              ),
            );
            long = omega (arith, l, m, n, r);
            same = z.fills.same ∙ d.fills.same ∙ f.fills.same ∙ o.fills.same;
          };
        }
    filled (Let t a b) g p vs us xs h =
        let s = split (left_at g c (suc p) a vs) (λ ws. left_at g c (suc p + size a) b ws) us (sym (let_left g p t a b vs) ∙ h) in
        let f = filled a g (suc p) vs s.rest xs s.first in
        let d = filled b g (suc p + size a) s.rest us f.slots s.second in
        let m = f.fills.long in
        let n = d.fills.long in
        record {
          slots = d.slots;
          fills = record {
            left = h;
            extends = extends_both xs f.slots d.slots f.fills.extends d.fills.extends;
            fits = (fits_stay c f.slots d.slots d.fills.extends g a (length xs) f.fills.fits, (subst (λ k. SlotsFit g c b k d.slots) m d.fills.fits, tt));
            long = omega (arith, m, n);
            same = d.fills.same ∙ f.fills.same;
          };
        }

    all_filled : (ts : Terms) (g : Bool) (p : ℕ) (vs us : List KeptItem) (xs : List SlotValue) → all_at g c p ts vs ≡ Leaves us
        → Filled (AllSlotsFit g c ts (length xs)) (length xs + kept_all ts) (all_at g c p ts vs) vs us xs
    all_filled NoMore g p vs us xs h = none_taken _ _ _ vs us xs tt (omega arith) (no_more_left g p vs) h
    all_filled (More t ts) g p vs us xs h =
        let s = split (left_at g c p t vs) (λ ws. all_at g c (p + size t) ts ws) us (sym (more_left g p t ts vs) ∙ h) in
        let f = filled t g p vs s.rest xs s.first in
        let d = all_filled ts g (p + size t) s.rest us f.slots s.second in
        let m = f.fills.long in
        let n = d.fills.long in
        record {
          slots = d.slots;
          fills = record {
            left = h;
            extends = extends_both xs f.slots d.slots f.fills.extends d.fills.extends;
            fits = (fits_stay c f.slots d.slots d.fills.extends g t (length xs) f.fills.fits, subst (λ k. AllSlotsFit g c ts k d.slots) m d.fills.fits);
            long = omega (arith, m, n);
            same = d.fills.same ∙ f.fills.same;
          };
        }

pub lists_have_exports : ListsHaveExports
lists_have_exports U v vs h m = by_taken (take_main U items) refl (plain_misfit U vs ∙ m)
  where
    items : List KeptItem
    items = map plain_item vs

    by_taken : (t : Taken Tree) → take_main U items ≡ t → misfit_by (size U.main) t ≡ None → (x : FlatExport) × Keeps U v vs x
    by_taken (Took tree (w ∷ ws)) e k = absurd cc
    by_taken (Misfit p) e k = absurd cc
    by_taken (Took tree []) e k =
        let f = filled U.declared.ceiling U.main true 0 items [] [] (ap leaving e) in
        let x : FlatExport = record { value = v; slots = f.slots } in
        let r = whole_filled U items x [] [] refl refl (had_type U.declared.ceiling (inner (term_type U.main)) v h) f.fills in
        (x, record { export = r.0; value = refl; list = r.1 ∙ plain_values vs })
