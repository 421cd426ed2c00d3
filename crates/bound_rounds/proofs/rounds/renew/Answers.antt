use Rattle.std.proofs.Common.{◌≡◌, ◌∙◌, length, refl, sym, ap, arith, Bool, true, false, not}
use Rattle.std.proofs.lemmas.List.{get_or_read}
use Rattle.std.proofs.lemmas.List.Elements.{All-get_or}
use Rattle.fc_nodes.specs.Terms.{kept}
use Rattle.fc_nodes.specs.Program.{unfolding_of}
use Rattle.bound_firing.specs.declared.firing.ExportBound.{ExportBound}
use Rattle.bound_firing.specs.ExportReferences.{export_bound_in}
use Rattle.export_bounds.specs.Exports.{either_export}
use Rattle.bound_rounds.specs.Tables.{device_at}
use Rattle.bound_rounds.proofs.Standing.{stand_at}
use Rattle.bound_rounds.proofs.rounds.renew.Goals.{in-Firing, in-Growing+in_ok-widen_bound-in-Growing}
use Rattle.bound_rounds.proofs.rounds.renew.Goals as goal

pub returns-clause-next : goal.returns-clause-next
returns-clause-next c table s =
    let U = unfolding_of c.args.program.now in
    let E = c.args.envelope.now in
    let d = device_at E c.args.place in
    elim c.match-kind.branch [
      | in-Firing w ↦ rw (w.draft-is, w.in-Firing.is) (c.in_ok-fire.ensures.fired table s)
      | in-Growing+in_ok-widen_bound-in-Growing w ↦
          let had = ap (export_bound_in U) c.index-bounds-place.is
          ∙ stand_at U E table c.args.bounds.now s c.args.place c.index-bounds-place.result c.requires.within in
          rw (w.draft-is, w.in-Growing.is) (w.in_ok-widen_bound-in-Growing.ensures.bound
          ∙ ap (λ b. either_export U b (export_bound_in U c.fire.new.draft)) had
          ∙ ap (either_export U (table d)) (c.in_ok-fire.ensures.fired table s))
    ]

not_false : (b : Bool) → not b ≡ false → b ≡ true
not_false true e = refl
not_false false e = absurd cc

not_true : (b : Bool) → not b ≡ true → b ≡ false
not_true false e = refl
not_true true e = absurd cc

pub returns-clause-same : goal.returns-clause-same
returns-clause-same c e =
    let U = unfolding_of c.args.program.now in
    sym (c.same_export_bound.ensures.same (not_false c.same_export_bound.result e) U)
    ∙ ap (export_bound_in U) (get_or_read c.args.bounds.now c.args.place c.index-bounds-place.result
    (omega (arith, c.requires.within, c.requires.bounds.many)) c.index-bounds-place.is c.match-kind.draft)

pub returns-clause-other : goal.returns-clause-other
returns-clause-other c e q =
    let U = unfolding_of c.args.program.now in
    let had = get_or_read c.args.bounds.now c.args.place c.index-bounds-place.result
    (omega (arith, c.requires.within, c.requires.bounds.many)) c.index-bounds-place.is c.match-kind.draft in
    let long : length c.index-bounds-place.result.slots.items ≡ kept U.main =
    ap (λ (b : ExportBound). length b.slots.items) c.index-bounds-place.is
    ∙ All-get_or (λ (b : ExportBound). length b.slots.items ≡ kept U.main) c.args.bounds.now c.args.place
    c.index-bounds-place.result (omega (arith, c.requires.within, c.requires.bounds.many)) c.requires.bounds.slots in
    let long' : length c.match-kind.draft.slots.items ≡ kept U.main = elim c.match-kind.branch [
      | in-Firing w ↦ rw w.draft-is (c.in_ok-fire.ensures.slots ∙ c.requires.draft)
      | in-Growing+in_ok-widen_bound-in-Growing w ↦
          rw w.draft-is (w.in_ok-widen_bound-in-Growing.ensures.slots ∙ c.in_ok-fire.ensures.slots ∙ c.requires.draft)
    ] in
    let t : c.same_export_bound.result ≡ true =
    c.same_export_bound.ensures.other U long long' (ap (export_bound_in U) had ∙ sym q) in
    let f = not_true c.same_export_bound.result e in
    absurd cc
