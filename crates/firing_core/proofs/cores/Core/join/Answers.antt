use Rattle.std.proofs.Common.{◌≡◌, ◌∙◌, sym, subst, ap, None, arith}
use Rattle.std.specs.List.{insert}
use Rattle.topology.specs.Networks.{net_device_of, numbers}
use Rattle.topology.specs.Changes.{joined, join_fault}
use Rattle.topology.proofs.Lemmas.{can_join, joined_network}
use Rattle.firing_core.specs.Entries.{JoinEdit}
use Rattle.firing_core.specs.Cores.{Edits}
use Rattle.firing_core.specs.CoreViews.{CoreValue, IsCore, core_of, program_of}
use Rattle.firing_core.specs.contracts.cores.Core.{the_view}
use Rattle.firing_core.proofs.Views.{many_flights, many_numbers}
use Rattle.firing_core.proofs.CoreEdits.{joined_core, joined_kept, rebuilt_core, with_joined}
use Rattle.firing_core.proofs.cores.Core.join.Goals as goal
use Rattle.firing_core.proofs.cores.Core.join.Goals.{After-open_slot-in-Ok-join}

pub open_slot-requires-in-Ok-join-clause-place : goal.open_slot-requires-in-Ok-join-clause-place
open_slot-requires-in-Ok-join-clause-place c =
    let v = the_view c.self.inside in
    let m = many_flights (program_of (the_view c.self.inside)) (numbers v.net.devices) v.flying c.self.invariant.flying in
    omega (arith, m, many_numbers v.net.devices, c.room-place.ensures.within, c.reserve-else-is_err.ensures.len, c.self.inside.flying.ok.0)

module _ (c : After-open_slot-in-Ok-join) where
  none : join_fault (the_view c.self.inside).net (net_device_of c.args.device.now) ≡ None
  none = subst (λ y. join_fault (the_view c.self.inside).net y ≡ None) c.in-Ok.ensures c.in-Ok-join.ensures.accepted

  rebuilt : the_view (record { program = c.self.inside.program; net = c.join.new.self; exports = c.open_slot.new.slots; flying = c.open_slot-in-Ok-join.new.slots; scratch = c.self.inside.scratch })
      ≡ with_joined (the_view c.self.inside) (net_device_of c.args.device.now) c.room-place.result
  rebuilt =
      rebuilt_core (the_view c.self.inside).program _ _ _ _ _ _
      (c.in-Ok-join.ensures.ok ∙ ap (joined (the_view c.self.inside).net) c.in-Ok.ensures)
      (c.open_slot.ensures ∙ ap (λ xs. insert xs c.room-place.result None) c.reserve.ensures.items)
      (c.open_slot-in-Ok-join.ensures ∙ ap (λ xs. insert xs c.room-place.result None) c.reserve-else-is_err.ensures.items)

pub invariant_of-self-in-Ok-join : goal.invariant_of-self-in-Ok-join
invariant_of-self-in-Ok-join c =
    let v = the_view c.self.inside in
    let x = net_device_of c.args.device.now in
    subst IsCore (sym (rebuilt c))
    (joined_kept (the_view c.self.inside) c.self.invariant (net_device_of c.args.device.now) c.room-place.result c.room-place.ensures.value (can_join v.net x (none c)).new (joined_network v.net x c.self.invariant.net c.requires (none c)))

pub returns-in-Ok-join-clause-ok : goal.returns-in-Ok-join-clause-ok
returns-in-Ok-join-clause-ok c =
    let v = the_view c.self.inside in
    let x = net_device_of c.args.device.now in
    subst (λ (w : CoreValue). Edits (program_of c.args.self.now) (core_of c.args.self.now) (JoinEdit (net_device_of c.args.device.now)) (core_of w)) (sym (rebuilt c))
    (subst (λ (w : CoreValue). Edits (program_of w) (core_of w) (JoinEdit (net_device_of c.args.device.now)) (core_of (with_joined (the_view c.self.inside) (net_device_of c.args.device.now) c.room-place.result))) c.self.view_is
    (record {
      fits = c.requires;
      allowed = none c;
      after = joined_core (the_view c.self.inside) c.self.invariant (net_device_of c.args.device.now) c.room-place.result c.room-place.ensures.value (can_join v.net x (none c)).new;
    }))
