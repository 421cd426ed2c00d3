use Rattle.std.proofs.Common.{◌≡◌, ◌<◌, length, ap, ◌∙◌, map, refl, arith}
use Rattle.std.proofs.lemmas.Result.{err_from_is_err_and}
use Rattle.std.proofs.lemmas.Bool.Decides.{nat_tests}
use Rattle.std.proofs.lemmas.List.{length-map}
use Rattle.fc_values.specs.Exports.{slots_of, export_of}
use Rattle.fc_nodes.specs.Program.{unfolding_of}
use Rattle.value_trees.specs.KeptItems.{kept_of}
use Rattle.value_trees.specs.Leavings.{Leaves}
use Rattle.value_trees.proofs.FillSteps.{whole_fault, surplus_fault, whole_filled, whole_tree, none_of}
use Rattle.value_trees.proofs.reading.from_items.Goals as goal

pub returns-in_err-rest : goal.returns-in_err-rest
returns-in_err-rest c =
    let p = err_from_is_err_and c.from_residual.result c.from_residual.ensures.1 in
    rw (p.1, p.2) (whole_fault (unfolding_of c.args.program.now) (map kept_of c.args.items.now) c.in_err-rest.field-0.0 c.in_err-rest.ensures)

pub returns-then-not-is_empty : goal.returns-then-not-is_empty
returns-then-not-is_empty c =
    let f = c.in_ok-rest.ensures in
    let test = c.is_empty.ensures in
    let none = c.if-not-is_empty.true in
    let some : 0 < length c.in_ok-rest.rest.now = grind (arith, nat_tests) in
    let program = c.size-size.ensures.program in
    let size = c.size-size.ensures.value in
    surplus_fault (unfolding_of c.args.program.now) (map kept_of c.args.items.now) (map kept_of c.in_ok-rest.rest.now) c.size-size.result f.left (omega (arith, some, length-map c.in_ok-rest.rest.now kept_of)) (size ∙ program.formed.whole)

pub returns : goal.returns
returns c =
    let f = c.in_ok-rest.ensures in
    let test = c.is_empty.ensures in
    let none = c.if-not-is_empty.false in
    let all : length c.in_ok-rest.rest.now ≡ 0 = grind (arith, nat_tests) in
    let left = none_of (map kept_of c.in_ok-rest.rest.now) (omega (arith, all, length-map c.in_ok-rest.rest.now kept_of)) in
    let U = unfolding_of c.args.program.now in
    let xs = map kept_of c.args.items.now in
    let x = export_of (record { value = c.args.value; slots = record { list = c.fill.new.slots } }) in
    let read = whole_filled U xs x (map kept_of c.in_ok-rest.rest.now) (slots_of c.new-slots.result.items) (ap slots_of c.new-slots.ensures.items) left c.requires f in
    record { export = read.0; value = refl; tree = whole_tree U xs x read.0 c.requires read.1 (f.left ∙ ap (λ us. Leaves us) left) }
