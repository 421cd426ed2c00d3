use Rattle.std.proofs.Common.{ap}
use Rattle.fc_values.specs.Types.{local_type_of, Declarations}
use Rattle.fc_values.specs.Values.{local_of}
use Rattle.scenarios.proofs.Reading.{value_of_main, no_fault}
use Rattle.scenarios.proofs.tables.draw_export.Goals as goal

pub from_kept-requires : goal.from_kept-requires
from_kept-requires c =
    value_of_main c.args.program.now c.declared.ensures.program _ _ _ c.node.ensures.node c.declared.result.now.ceiling (ap (λ (d : Declarations). d.ceiling) c.declared.ensures.value)
    (local_type_of c.inner.result.now) c.inner.ensures c.args.words.now c.draw_value.new.words (local_of c.in_ok-value.value) c.in_ok-value.ensures

pub unreachable-requires : goal.unreachable-requires
unreachable-requires c =
    no_fault c.args.program.now c.declared.ensures.program _ _ _ c.node.ensures.node c.declared.result.now.ceiling (ap (λ (d : Declarations). d.ceiling) c.declared.ensures.value)
    (local_type_of c.inner.result.now) c.inner.ensures c.args.words.now c.draw_value.new.words (local_of c.in_ok-value.value) c.in_ok-value.ensures
    c.new-list.result.items c.draw_kept.new.list.items c.new-list.ensures.items c.draw_kept.new.words c.in_ok-draw_kept.ensures
    c.in-Err-At.field-0-0 c.in-Err-At.field-0 c.in-Err-At.field-0-is c.in-Err-At.ensures
