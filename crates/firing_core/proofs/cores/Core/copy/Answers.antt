use Rattle.std.proofs.Common.{◌≡◌, ◌∙◌, sym, ap, subst, map}
use Rattle.std.specs.Prelude.{option_map}
use Rattle.fc_values.specs.Exports.{export_of}
use Rattle.fc_nodes.specs.Program.{Program, unfolding_of}
use Rattle.value_trees.specs.Snaps.{snap_copy}
use Rattle.firing_core.specs.CoreViews.{AllSnaps, IsCore, core_of, program_of}
use Rattle.firing_core.specs.contracts.cores.Core.{the_view}
use Rattle.firing_core.proofs.CoreCopies.{snaps_of, copied_kept, copied_core}
use Rattle.firing_core.proofs.cores.Core.copy.Goals as goal

pub copy_flights-requires : goal.copy_flights-requires
copy_flights-requires c =
    subst (λ (r : Program). AllSnaps (unfolding_of r) c.deref-3.result.now) (sym c.deref-2.ensures)
    (subst (AllSnaps (program_of (the_view c.self.inside))) (sym c.deref-3.ensures.value) (snaps_of (program_of (the_view c.self.inside)) _ _ c.self.invariant.flying))

module _ (c : goal.In_ok-flying) where
  exports : map (option_map export_of) c.in_ok-exports.exports.items ≡ map (option_map export_of) (the_view c.self.inside).exports
  exports = c.in_ok-exports.ensures ∙ ap (map (option_map export_of)) c.deref.ensures.value

  flights : map (option_map (snap_copy (program_of (the_view c.self.inside)))) c.in_ok-flying.flying.items ≡ map (option_map (snap_copy (program_of (the_view c.self.inside)))) (the_view c.self.inside).flying
  flights =
      subst (λ (r : Program). map (option_map (snap_copy (unfolding_of r))) c.in_ok-flying.flying.items ≡ map (option_map (snap_copy (unfolding_of r))) c.deref-3.result.now) c.deref-2.ensures c.in_ok-flying.ensures.same
      ∙ ap (map (option_map (snap_copy (program_of (the_view c.self.inside))))) c.deref-3.ensures.value

  snaps : AllSnaps (program_of (the_view c.self.inside)) c.in_ok-flying.flying.items
  snaps = subst (λ (r : Program). AllSnaps (unfolding_of r) c.in_ok-flying.flying.items) c.deref-2.ensures c.in_ok-flying.ensures.snaps

  kept : IsCore (record { program = c.in_ok-program.program.value; net = c.in_ok-net.net; exports = c.in_ok-exports.exports.items; flying = c.in_ok-flying.flying.items })
  kept = copied_kept (the_view c.self.inside) c.self.invariant c.in_ok-exports.exports.items c.in_ok-flying.flying.items exports flights snaps c.in_ok-program.program.value c.in_ok-net.net c.in_ok-program.ensures.cases c.in_ok-net.ensures

pub invariant_of-result : goal.invariant_of-result
invariant_of-result c = kept c

pub returns-clause-core : goal.returns-clause-core
returns-clause-core c =
    copied_core (the_view c.self.inside) c.self.invariant c.in_ok-exports.exports.items c.in_ok-flying.flying.items (exports c) (flights c) (snaps c) c.in_ok-program.program.value c.in_ok-net.net c.in_ok-program.ensures.cases c.in_ok-net.ensures
    ∙ ap core_of c.self.view_is

pub returns-clause-kept : goal.returns-clause-kept
returns-clause-kept c = kept c
