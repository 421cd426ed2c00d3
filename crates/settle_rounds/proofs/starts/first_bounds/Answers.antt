use Rattle.std.proofs.Common.{ℕ, zero, suc, ◌≡◌, ◌<◌, ◌≤◌, ◌+◌, ◌∙◌, List, [], ◌∷◌, ◌++◌, length, map, get_or, refl}
use Rattle.std.proofs.Common.{sym, ap, subst, arith, inl, inr}
use Rattle.std.proofs.lemmas.Bool.{cases_eq, ne_eqb}
use Rattle.std.proofs.lemmas.List.{length-map, length_push}
use Rattle.std.proofs.lemmas.List.Elements.{All-push}
use Rattle.fc_nodes.specs.Terms.{kept}
use Rattle.fc_nodes.specs.Program.{unfolding_of}
use Rattle.firing_core.specs.CoreViews.{core_of, program_of}
use Rattle.bound_firing.specs.declared.firing.ExportBound.{ExportBound as FlatBound}
use Rattle.bound_firing.specs.ExportReferences.{export_bound_in}
use Rattle.envelopes.specs.declared.types.DeviceBound.{DeviceBound}
use Rattle.envelopes.specs.Envelopes.{Envelope, ids}
use Rattle.envelopes.specs.Code.{maybe_device_of}
use Rattle.bound_rounds.specs.Tables.{HaveSlots, device_at, table_by}
use Rattle.bound_rounds.proofs.Closeness.{stands_at}
use Rattle.bound_rounds.proofs.Marks.{at_one_place}
use Rattle.bound_rounds.proofs.Standing.{stand_at}
use Rattle.bound_rounds.proofs.Tabled.{by_stands}
use Rattle.settle_rounds.specs.Within.{FirstWithin}
use Rattle.settle_rounds.proofs.States.{first_before}
use Rattle.settle_rounds.proofs.starts.first_bounds.Goals as goal

-- a place of the loop is one of the envelope
within : (E : Envelope) (k : ℕ) (ds : List DeviceBound) → map maybe_device_of ds ≡ E.devices → k < length ds
    → k < length E.devices
within E k ds e h = let l = length-map ds maybe_device_of in omega (arith, h, l, ap length e)

pub first_bound-requires : goal.first_bound-requires
first_bound-requires c = within c.args.envelope.now c.loop-place.place c.devices-count.result.now
    c.devices-count.ensures.value c.loop-place-test.true

push_before : (xs : List FlatBound) (b x : FlatBound) (i : ℕ) → i < length xs
    → get_or (xs ++ b ∷ []) i x ≡ get_or xs i x
push_before [] b x i h = absurd (omega (arith, h))
push_before (y ∷ ys) b x zero h = refl
push_before (y ∷ ys) b x (suc i) h = push_before ys b x i (omega (arith, h))

push_here : (xs : List FlatBound) (b x : FlatBound) (i : ℕ) → i ≡ length xs → get_or (xs ++ b ∷ []) i x ≡ b
push_here [] b x zero h = refl
push_here [] b x (suc i) h = absurd (omega (arith, h))
push_here (y ∷ ys) b x zero h = absurd (omega (arith, h))
push_here (y ∷ ys) b x (suc i) h = push_here ys b x i (omega (arith, h))

pub loop-place-preserved : goal.loop-place-preserved
loop-place-preserved c =
    let old = c.args.core.now in
    let now = c.loop-place.core in
    let U = program_of old in
    let E = c.args.envelope.now in
    let N = old.net in
    let k = c.loop-place.place in
    let inv = c.loop-place.invariant in
    let f = c.in_ok-first_bound.ensures in
    let b = c.in_ok-first_bound.field-0 in
    let bs = c.loop-place.bounds.items in
    let h : k < length E.devices =
    within E k c.devices-count.result.now c.devices-count.ensures.value c.loop-place-test.true in
    let items : c.push.new.self.items ≡ bs ++ b ∷ [] = c.in_ok-push.ensures.items in
    let slots = f.slots ∙ ap (λ P. kept (unfolding_of P).main) inv.same.program in
    let here = first_before E old now (device_at E k) b inv.same inv.exports (inv.ahead k (omega arith) h) f.bound in
    record {
      same = record { program = f.same.same.program ∙ inv.same.program; net = f.same.same.net ∙ inv.same.net };
      exports = f.same.exports ∙ inv.exports;
      ahead = λ i l m. f.same.flying (device_at E i) (ne_eqb (device_at E i) (device_at E k) (λ e.
          let q = at_one_place E c.devices-count.ensures.envelope i k m h e in absurd (omega (arith, l, q))))
          ∙ inv.ahead i (omega (arith, l)) m;
      many = ap length items ∙ length_push bs b ∙ ap (λ n. n + 1) inv.many;
      slots = subst (HaveSlots (kept U.main)) (sym items)
          (All-push (λ (x : FlatBound). length x.slots.items ≡ kept U.main) bs b inv.slots slots);
      first = λ i x l. elim (cases_eq i k) [
        | inl q ↦
            let read = ap (λ xs. get_or xs i x) items ∙ push_here bs b x i (q ∙ sym inv.many) in
            subst (λ y. FirstWithin U E N (core_of old) (device_at E i) (export_bound_in U y)) (sym read)
            (subst (λ d. FirstWithin U E N (core_of old) d (export_bound_in U b)) (ap (device_at E) (sym q)) here)
        | inr q ↦
            let before : i < k = omega (arith, l, q) in
            let read = ap (λ xs. get_or xs i x) items ∙ push_before bs b x i (omega (arith, before, inv.many)) in
            subst (λ y. FirstWithin U E N (core_of old) (device_at E i) (export_bound_in U y)) (sym read)
            (inv.first i x before)
      ];
    }

some_bound : (xs : List FlatBound) (n : ℕ) → length xs ≡ n → (i : ℕ) → i < n → FlatBound
some_bound [] n e i h = absurd (omega (arith, e, h))
some_bound (x ∷ xs) n e i h = x

pub returns-clause-first : goal.returns-clause-first
returns-clause-first c =
    let old = c.args.core.now in
    let U = program_of old in
    let E = c.args.envelope.now in
    let N = old.net in
    let inv = c.loop-place.invariant in
    let bs = c.loop-place.bounds.items in
    let l = length-map c.devices-count.result.now maybe_device_of in
    let last : length c.devices-count.result.now ≤ c.loop-place.place = c.loop-place-test.false in
    let many : length bs ≡ length E.devices =
    omega (arith, inv.many, last, c.loop-place.auto.place-end, l, ap length c.devices-count.ensures.value) in
    let table = table_by U (ids E.devices) bs in
    let stands = by_stands U E c.devices-count.ensures.envelope bs many in
    record {
      fits = record { many = many; slots = inv.slots };
      table = table;
      first = λ d v.
          let p = stands_at E d v in
          let x = some_bound bs (length E.devices) many p.place p.within in
          subst (λ e. FirstWithin U E N (core_of old) e (table e)) p.is_there
          (subst (FirstWithin U E N (core_of old) (device_at E p.place))
          (stand_at U E table bs stands p.place x p.within)
          (inv.first p.place x (omega (arith, p.within, many, inv.many))));
      stands = stands;
    }
