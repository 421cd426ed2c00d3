use Rattle.std.proofs.Common.{ℕ, ◌<◌, ◌≤◌, ◌∙◌, length, ap, arith, add-one}
use Rattle.envelopes.specs.Envelopes.{MaybeLink, maybe_near}
use Rattle.bound_rounds.specs.Tables.{device_at}
use Rattle.bound_rounds.proofs.Marks.{mark_kept, marked_first, marked_next, marked_all, neighbour_lives}
use Rattle.bound_rounds.proofs.Places.{many_near, near_read}
use Rattle.bound_rounds.proofs.rounds.mark_near.Goals as goal

pub place-requires : goal.place-requires
place-requires c =
    neighbour_lives c.args.envelope.now c.neighbours_at-neighbour-items.ensures.envelope
    (device_at c.args.envelope.now c.args.place) c.neighbours_at-neighbour-items.result.now
    c.neighbours_at-neighbour-items.ensures.value c.loop-neighbour.neighbour-index c.loop-neighbour-test.true

pub loop-neighbour-init : goal.loop-neighbour-init
loop-neighbour-init c = record {
  marked = marked_first c.args.envelope.now c.args.due.now c.args.place;
  kept = λ i q. mark_kept c.args.due.now c.args.place i q;
}

pub loop-neighbour-preserved : goal.loop-neighbour-preserved
loop-neighbour-preserved c =
    let E = c.args.envelope.now in
    let d = device_at E c.args.place in
    let ns = c.neighbours_at-neighbour-items.result.now in
    let k = c.loop-neighbour.neighbour-index in
    let v = c.neighbours_at-neighbour-items.ensures.value in
    let h : k < length ns = c.loop-neighbour-test.true in
    let n = near_read ns (maybe_near d E.links) v k h in
    let at = c.place.ensures.there ∙ ap (λ (m : ℕ × MaybeLink). m.0) n in
    record {
      marked = rw add-one (marked_next E c.neighbours_at-neighbour-items.ensures.envelope c.loop-neighbour.due
          c.args.place k c.place.result (omega (arith, h, many_near ns (maybe_near d E.links) v)) c.place.ensures.within
          at c.loop-neighbour.invariant.marked);
      kept = λ i q. c.loop-neighbour.invariant.kept i (mark_kept c.loop-neighbour.due c.place.result i q);
    }

pub returns-clause-marked : goal.returns-clause-marked
returns-clause-marked c =
    let E = c.args.envelope.now in
    let d = device_at E c.args.place in
    let ns = c.neighbours_at-neighbour-items.result.now in
    let h : length ns ≤ c.loop-neighbour.neighbour-index = c.loop-neighbour-test.false in
    marked_all E c.neighbours_at-neighbour-items.ensures.envelope c.loop-neighbour.due c.args.place
    c.loop-neighbour.neighbour-index c.requires.within
    (omega (arith, h, many_near ns (maybe_near d E.links) c.neighbours_at-neighbour-items.ensures.value))
    c.loop-neighbour.invariant.marked
