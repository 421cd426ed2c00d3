use Rattle.std.proofs.Common.{ℕ, List, drop, length, subst, sym, ◌∙◌, ◌≤◌}
use Rattle.fc_nodes.specs.Program.{unfolding_of}
use Rattle.firing_core.specs.declared.entries.Entry.{Entry}
use Rattle.firing_core.specs.Entries.{edit_of, entries_of}
use Rattle.firing_core.specs.CoreViews.{core_of}
use Rattle.firing_core.specs.Books.{in_flight, ends_of}
use Rattle.topology.specs.Networks.{numbers}
use Rattle.worker_pool.specs.Pacing.{IsOrdered}
use Rattle.worker_pool.specs.Rounding.{IsGreatest, Completes}
use Rattle.worker_pool.specs.Working.{AreRooms}
use Rattle.worker_pool.proofs.Keeping.{rooms_over, rooms_of_same}
use Rattle.worker_pool.proofs.Mixed.{front_mixed, ordered_mixed, one_mixed, mixed_edit, ok_each}
use Rattle.worker_pool.proofs.Refusing.{fault_of_net}
use Rattle.worker_pool.proofs.Stretching.{ran_ends, ran_net}
use Rattle.worker_pool.proofs.mixes.run_mixed.Goals as goal

-- the flights that are ended leave the network
pub mix_together-requires-clause-allowed : goal.mix_together-requires-clause-allowed
mix_together-requires-clause-allowed g c κs within =
    let old = c.args.book in
    let mid = c.settle.new.self in
    let ds = in_flight (core_of old.core) in
    fault_of_net (core_of mid.core) (core_of old.core) (edit_of c.args.edit) c.requires.mixed
    (ran_net old mid (entries_of (ends_of ds)) (ran_ends old mid ds c.in_ok-settle.ensures.ok)) ∙ c.requires.allowed

pub complete-requires-clause-front : goal.complete-requires-clause-front
complete-requires-clause-front g c =
    subst (λ (l : List Entry). length l ≤ length c.in_ok-book.book.log) (sym c.log-front.ensures.value)
    (front_mixed c.settle.new.self c.in_ok-book.book (edit_of c.args.edit) c.in_ok-book.ensures.mixed)

pub complete-requires-clause-ordered : goal.complete-requires-clause-ordered
complete-requires-clause-ordered g c =
    subst (λ (l : List Entry). IsOrdered (numbers c.in_ok-book.book.core.net.devices) (drop (length l) (entries_of c.in_ok-book.book.log))) (sym c.log-front.ensures.value)
    (ordered_mixed c.settle.new.self c.in_ok-book.book (edit_of c.args.edit) c.in_ok-book.ensures.mixed)

pub returns : goal.returns
returns g c =
    let greatest = subst (λ (l : List Entry). IsGreatest c.in_ok-book.book.core.net (drop (length l) (entries_of c.in_ok-book.book.log)) c.in_ok-complete.field-0) c.log-front.ensures.value c.in_ok-complete.ensures.greatest in
    let one = one_mixed c.settle.new.self c.in_ok-book.book (edit_of c.args.edit) c.in_ok-complete.field-0 c.in_ok-book.ensures.mixed greatest in
    let done = subst (λ (z : List Entry × ℕ). Completes (length z.0) z.1 c.in_ok-book.book c.complete.new.book) (λ i. (c.log-front.ensures.value i, one i)) c.in_ok-complete.ensures.ok in
    record {
      mixed = ok_each c.run_in.result
          (λ b r. mixed_edit c.args.book c.settle.new.self c.in_ok-book.book c.complete.new.book b (in_flight (core_of c.args.book.core)) (edit_of c.args.edit) c.args.rounds c.in_ok-settle.ensures.ok c.in_ok-book.ensures.mixed done r)
          c.run_in.ensures.ran;
    }

pub mix_together-requires-clause-rooms : goal.mix_together-requires-clause-rooms
mix_together-requires-clause-rooms g c κs within =
    let U = unfolding_of c.settle.new.self.program in
    subst (AreRooms U) {y = c.deref_mut.result.now} (sym c.deref_mut.ensures.value) (c.in_ok-rooms.ensures.rooms U)

pub run_in-requires-clause-rooms : goal.run_in-requires-clause-rooms
run_in-requires-clause-rooms g c κs within =
    let before = c.settle.new.self.program in
    let after = c.complete.new.book.program in
    let rooms = c.in_ok-rooms.rooms in
    let kept = rooms_over (unfolding_of before) rooms.len c.mix_together.new.rooms rooms.items c.mix_together.ensures.rooms (c.in_ok-rooms.ensures.rooms (unfolding_of before)) in
    rooms_of_same before after c.deref_mut-2.result.now (sym (c.in_ok-complete.ensures.ok.ran.program ∙ c.in_ok-book.ensures.mixed.program))
    (subst (AreRooms (unfolding_of before)) {y = c.deref_mut-2.result.now} (sym c.deref_mut-2.ensures.value) kept)
