use Rattle.std.proofs.Common.{ap, ◌∙◌, map, subst}
use Rattle.std.proofs.lemmas.Result.{err_from_is_err_and}
use Rattle.fc_values.specs.Values.{local_of}
use Rattle.fc_nodes.specs.Program.{unfolding_of}
use Rattle.value_trees.specs.KeptItems.{kept_of}
use Rattle.value_trees.specs.Filling.{IsItemFault, IsReadOff}
use Rattle.value_trees.proofs.FillSteps.{plain_fault, plain_read}
use Rattle.value_trees.proofs.reading.from_kept.Goals as goal

pub returns-in_err-export : goal.returns-in_err-export
returns-in_err-export c =
    let p = err_from_is_err_and c.from_residual-in_err-export.result c.from_residual-in_err-export.ensures.1 in
    let U = unfolding_of c.args.program.now in
    let vs = map local_of c.args.list.items in
    rw (p.1, p.2) (plain_fault U vs c.in_err-export.field-0.0 (subst (λ xs. IsItemFault U xs c.in_err-export.field-0.0) (ap (map kept_of) c.deref.ensures.value ∙ c.in_ok-items.ensures) c.in_err-export.ensures))

pub returns : goal.returns
returns c =
    let U = unfolding_of c.args.program.now in
    let vs = map local_of c.args.list.items in
    plain_read U vs (local_of c.args.value) c.in_ok-export.export c.requires (subst (λ xs. IsReadOff U (local_of c.args.value) xs c.in_ok-export.export) (ap (map kept_of) c.deref.ensures.value ∙ c.in_ok-items.ensures) c.in_ok-export.ensures)
