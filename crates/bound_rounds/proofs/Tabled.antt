-- Crates above cite this module: the table for which bounds in code stand.
use Rattle.std.proofs.Common.{◌≡◌, ℕ, List, [], ◌∷◌, length, map, refl, sym, ◌∙◌, ap, subst, arith, true, false, nat_eq}
use Rattle.std.proofs.lemmas.Bool.{eq-eqb, ne_eqb}
use Rattle.std.proofs.lemmas.List.{length-map}
use Rattle.fc_values.specs.Fields.{is_in, Rises}
use Rattle.fc_values.proofs.Rising.{rises_apart, rises_tail}
use Rattle.fc_nodes.specs.Program.{Unfolding}
use Rattle.bound_firing.specs.declared.firing.ExportBound.{ExportBound as FlatBound}
use Rattle.bound_firing.specs.ExportReferences.{export_bound_in}
use Rattle.envelopes.specs.Envelopes.{Envelope, ids, MayLive, IsEnvelope}
use Rattle.bound_rounds.specs.Rounds.{BoundTable}
use Rattle.bound_rounds.specs.Tables.{Stand, FitTable, table_by, slot_counts}
use Rattle.bound_rounds.proofs.Closeness.{or_second, stands_at}
use Rattle.bound_rounds.proofs.Standing.{map_at, many_numbers}

-- tables for which the same bounds stand are the same at the devices of the envelope
pub stand_live : (U : Unfolding) (E : Envelope) (s t : BoundTable) (xs : List FlatBound) → Stand U E s xs
    → Stand U E t xs → (d : ℕ) → MayLive E d → s d ≡ t d
stand_live U E s t xs h g d l =
    let p = stands_at E d l in
    let m = many_numbers E in
    subst (λ x. s x ≡ t x) p.is_there
    (map_at s t (ids E.devices) (ids E.devices) (sym h ∙ g) p.place 0 0 (omega (arith, p.within, m)))

-- and bounds stand for each table that is the same there
pub stand_as : (U : Unfolding) (E : Envelope) (s t : BoundTable) (xs : List FlatBound)
    → ((d : ℕ) → MayLive E d → s d ≡ t d) → Stand U E s xs → Stand U E t xs
stand_as U E s t xs h n = n ∙ live_map (ids E.devices) h
  where
    live_map : (ds : List ℕ) → ((d : ℕ) → is_in d ds ≡ true → s d ≡ t d) → map s ds ≡ map t ds
    live_map [] h = refl
    live_map (d ∷ ds) h =
        let own = eq-eqb d d refl in
        let there : is_in d (d ∷ ds) ≡ true = rw own refl in
        let e = h d there in
        let r = live_map ds (λ x i. h x (or_second (nat_eq x d) (is_in x ds) i)) in
        rw (e, r) refl

-- bounds of the devices of an envelope stand for a table
pub by_stands : (U : Unfolding) (E : Envelope) → IsEnvelope E → (xs : List FlatBound) → length xs ≡ length E.devices
    → Stand U E (table_by U (ids E.devices) xs) xs
by_stands U E envelope xs l =
    let m = many_numbers E in by_list (ids E.devices) xs envelope.rising (omega (arith, l, m))
  where
    later : (i : ℕ) (x : FlatBound) (is : List ℕ) (xs : List FlatBound) → (ds : List ℕ)
        → ((d : ℕ) → is_in d ds ≡ true → nat_eq d i ≡ false)
        → map (table_by U (i ∷ is) (x ∷ xs)) ds ≡ map (table_by U is xs) ds
    later i x is xs [] h = refl
    later i x is xs (d ∷ ds) h =
        let own = eq-eqb d d refl in
        let there : is_in d (d ∷ ds) ≡ true = rw own refl in
        let e = h d there in
        let r = later i x is xs ds (λ y k. h y (or_second (nat_eq y d) (is_in y ds) k)) in
        rw (e, r) refl

    by_list : (is : List ℕ) (xs : List FlatBound) → Rises is → length xs ≡ length is
        → map (export_bound_in U) xs ≡ map (table_by U is xs) is
    by_list [] [] r e = refl
    by_list [] (x ∷ xs) r e = absurd (omega (arith, e))
    by_list (i ∷ is) [] r e = absurd (omega (arith, e))
    by_list (i ∷ is) (x ∷ xs) r e =
        let t = eq-eqb i i refl in
        let rest = by_list is xs (rises_tail i is r) (omega (arith, e)) in
        let same = later i x is xs is (λ d k. apart_of i is r d k) in
        rw t (ap (λ ys. export_bound_in U x ∷ ys) (rest ∙ sym same))
      where
        apart_of : (i : ℕ) (is : List ℕ) → Rises (i ∷ is) → (d : ℕ) → is_in d is ≡ true → nat_eq d i ≡ false
        apart_of i is r d k = ne_eqb d i (λ e.
            let away : is_in i is ≡ false = rises_apart i is r in
            let q : is_in i is ≡ true = ap (λ y. is_in y is) (sym e) ∙ k in
            absurd cc)

-- drafts with as many slots as the bounds of a table
pub fit_drafts : (U : Unfolding) (E : Envelope) (xs ys : List FlatBound) → slot_counts ys ≡ slot_counts xs
    → FitTable U E xs → FitTable U E ys
fit_drafts U E xs ys e f =
    let slots = λ (x : FlatBound). length x.slots.items in
    let long : length ys ≡ length xs = sym (length-map ys slots) ∙ ap length e ∙ length-map xs slots in
    record {
      many = long ∙ f.many;
      slots = λ k d b. map_at slots slots ys xs e k d d (omega (arith, b, long)) ∙ f.slots k d (omega (arith, b, long));
    }
