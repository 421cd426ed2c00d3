use Rattle.fc_nodes.specs.Program.{unfolding_of}
use Rattle.value_trees.specs.Snaps.{tree_of}
use Rattle.settle_rounds.proofs.starts.landing.Goals as goal

pub returns-clause-bound : goal.returns-clause-bound
returns-clause-bound c =
    let U = unfolding_of c.args.program.now in
    let f = c.in_ok-export.ensures in record {
      export = tree_of U c.in_ok-export.export;
      evaluates = f.evaluates;
      is = c.in_ok-bound.ensures.bound U f.export;
    }

pub returns-clause-slots : goal.returns-clause-slots
returns-clause-slots c = c.in_ok-bound.ensures.slots (unfolding_of c.args.program.now) c.in_ok-export.ensures.export
