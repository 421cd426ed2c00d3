use Rattle.std.proofs.Common.{get_or, sym, ap, subst, arith}
use Rattle.fc_nodes.specs.Flat.{IsExport}
use Rattle.fc_values.specs.declared.exports.Export.{Export}
use Rattle.fc_values.specs.Trees.{NearCopy}
use Rattle.fc_values.specs.Exports.{export_of}
use Rattle.value_trees.specs.Snaps.{tree_of}
use Rattle.firing_core.specs.CoreViews.{core_of, program_of}
use Rattle.firing_core.proofs.NearSteps.{near_more, near_less, exports_more, longer}
use Rattle.firing_core.proofs.cores.Core.hear.Goals as goal
use Rattle.firing_core.proofs.cores.Core.hear.Goals.{in-Some+in_ok-export, in_default}

pub loop-neighbour-preserved : goal.loop-neighbour-preserved
loop-neighbour-preserved c = elim c.match-published.branch [
  | in-Some+in_ok-export w ↦
      let i = c.loop-neighbour.invariant in
      record {
        copies = rw w.near-is (near_more (program_of c.args.self.now) (core_of c.args.self.now).exports c.neighbours-neighbour-items.result.now c.loop-neighbour.neighbour-index _ c.loop-neighbour-test.true
            c.loop-neighbour.near.items w.push_reserved.new.self.items _ _ (tree_of (program_of c.args.self.now) w.in-Some.export.now) w.push_reserved.ensures.items
            (ap (λ (e : Export). let k : NearCopy = record { device = (get_or c.neighbours-neighbour-items.result.now c.loop-neighbour.neighbour-index (0, 0)).0; weight = (get_or c.neighbours-neighbour-items.result.now c.loop-neighbour.neighbour-index (0, 0)).1; export = tree_of (program_of c.args.self.now) e } in k) w.in_ok-export.ensures)
            (sym w.in-Some.ensures.value) i.copies);
        exports = rw w.near-is (rw w.push_reserved.ensures.items (exports_more (program_of c.args.self.now) c.loop-neighbour.near.items _ i.exports (subst (λ e. IsExport (program_of c.args.self.now) (export_of e)) (sym w.in_ok-export.ensures) w.in-Some.ensures.export)));
        few = rw w.near-is (rw w.push_reserved.ensures.items (longer c.loop-neighbour.near.items _ c.loop-neighbour.neighbour-index i.few));
        room = rw w.near-is (omega (arith, w.push_reserved.ensures.capacity, i.room));
      }
  | in_default w ↦ record {
    copies = rw w.near-is (near_less (program_of c.args.self.now) (core_of c.args.self.now).exports c.neighbours-neighbour-items.result.now c.loop-neighbour.neighbour-index _ c.loop-neighbour-test.true
        c.loop-neighbour.near.items _ (sym w.in_default.ensures.value) c.loop-neighbour.invariant.copies);
    exports = rw w.near-is c.loop-neighbour.invariant.exports;
    few = rw w.near-is (omega (arith, c.loop-neighbour.invariant.few));
    room = rw w.near-is c.loop-neighbour.invariant.room;
  }
]
