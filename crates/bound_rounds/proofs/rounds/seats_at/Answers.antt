use Rattle.std.proofs.Common.{ℕ, ◌≡◌, ◌<◌, ◌≤◌, ◌∙◌, ◌&&◌, List, length, get_or, refl, sym, ap, subst, arith, add-one}
use Rattle.bound_firing.specs.declared.seats.NearSeat.{NearSeat}
use Rattle.envelopes.specs.Envelopes.{MaybeLink, maybe_near}
use Rattle.bound_rounds.proofs.Marks.{neighbour_lives}
use Rattle.bound_rounds.proofs.Places.{no_bound, no_near, many_near, near_read}
use Rattle.bound_rounds.proofs.Standing.{NearSeen, IsSeatOf, none_seen, seen_next, see_table}
use Rattle.bound_rounds.specs.Tables.{device_at}
use Rattle.bound_rounds.proofs.rounds.seats_at.Goals.{then-link, else-link}
use Rattle.bound_rounds.proofs.rounds.seats_at.Goals as goal

pub place-requires : goal.place-requires
place-requires c =
    neighbour_lives c.args.envelope.now c.neighbours_at-neighbours.ensures.envelope
    (device_at c.args.envelope.now c.args.place) c.neighbours_at-neighbours.result.now
    c.neighbours_at-neighbours.ensures.value c.loop-neighbour.neighbour-index c.loop-neighbour-test.true

pub loop-neighbour-init : goal.loop-neighbour-init
loop-neighbour-init c =
    subst (NearSeen c.args.envelope.now c.args.bounds.now (device_at c.args.envelope.now c.args.place) 0)
    (sym c.in_ok-near.ensures.items)
    (none_seen c.args.envelope.now c.args.bounds.now (device_at c.args.envelope.now c.args.place))

pub loop-neighbour-preserved : goal.loop-neighbour-preserved
loop-neighbour-preserved c =
    let E = c.args.envelope.now in
    let d = device_at E c.args.place in
    let ns = c.neighbours_at-neighbours.result.now in
    let k = c.loop-neighbour.neighbour-index in
    let v = c.neighbours_at-neighbours.ensures.value in
    let h : k < length ns = c.loop-neighbour-test.true in
    let n = near_read ns (maybe_near d E.links) v k h in
    let here = get_or ns k no_bound in
    let s : NearSeat = record {
      device = here.0;
      least = here.1.least;
      greatest = here.1.greatest;
      sure = c.if-link.push;
      slots = c.deref.result;
    } in
    let first = ap (λ (m : ℕ × MaybeLink). m.0) n in
    let both : c.if-link.push ≡ (here.1.sure && c.index-bounds-place.result.sure) = elim c.if-link.branch [
      | then-link w ↦ let t = w.if-link.true in rw t w.push-is
      | else-link w ↦ let f = w.if-link.false in rw f (w.push-is ∙ f)
    ] in
    let o : IsSeatOf (get_or (maybe_near d E.links) k no_near) c.index-bounds-place.result s = record {
      device = first;
      least = ap (λ (m : ℕ × MaybeLink). m.1.least) n;
      greatest = ap (λ (m : ℕ × MaybeLink). m.1.greatest) n;
      sure = both ∙ ap (λ (m : ℕ × MaybeLink). m.1.sure && c.index-bounds-place.result.sure) n;
      slots = c.deref.ensures.value;
    } in
    rw add-one (subst (NearSeen E c.args.bounds.now d _) (sym {A = List NearSeat} c.in_ok-push.ensures.items)
    (seen_next E c.args.bounds.now c.requires.many d k c.place.result c.loop-neighbour.near.items s
    c.index-bounds-place.result (omega (arith, h, many_near ns (maybe_near d E.links) v)) c.place.ensures.within
    c.index-bounds-place.is (c.place.ensures.there ∙ first) o c.loop-neighbour.invariant))

pub returns : goal.returns
returns c =
    let E = c.args.envelope.now in
    let d = device_at E c.args.place in
    let ns = c.neighbours_at-neighbours.result.now in
    let h : length ns ≤ c.loop-neighbour.neighbour-index = c.loop-neighbour-test.false in
    see_table E c.args.bounds.now c.requires.many c.args.place c.loop-neighbour.neighbour-index
    c.index-bounds-place-2.result
    (record { sure = c.index-bounds-place-2.result.sure; slots = c.deref-2.result }) c.loop-neighbour.near
    c.requires.within c.index-bounds-place-2.is refl c.deref-2.ensures.value
    (omega (arith, h, many_near ns (maybe_near d E.links) c.neighbours_at-neighbours.ensures.value)) c.loop-neighbour.invariant
