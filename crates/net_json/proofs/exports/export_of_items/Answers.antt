use Rattle.std.proofs.Common.{map, subst}
use Rattle.fc_values.specs.Values.{local_of}
use Rattle.fc_nodes.specs.Program.{unfolding_of}
use Rattle.value_trees.specs.KeptItems.{kept_of}
use Rattle.value_trees.specs.Filling.{IsReadOff}
use Rattle.net_json.specs.PlaceCode.{path_of}
use Rattle.net_json.proofs.WholeExports.{read_accepted}
use Rattle.net_json.proofs.exports.export_of_items.Goals as goal

pub returns-in-Ok-clause-ok : goal.returns-in-Ok-clause-ok
returns-in-Ok-clause-ok c =
    let U = unfolding_of c.args.program.now in
    read_accepted U (path_of c.args.here.now) (local_of c.args.value) (map kept_of c.args.items.items) c.in-Ok.export
    (subst (λ xs. IsReadOff U (local_of c.args.value) (map kept_of xs) c.in-Ok.export) c.deref.ensures.value c.in-Ok.ensures)
