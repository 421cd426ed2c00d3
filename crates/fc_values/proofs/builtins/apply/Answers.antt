use Rattle.std.proofs.Common.{◌∙◌, ap, sym, option_map}
use Rattle.fc_values.specs.Fields.{ValueLocal, values_of}
use Rattle.fc_values.proofs.ByPosition.{none_has, none_have_position, none_value}
use Rattle.fc_values.proofs.builtins.apply.Goals as goal

pub apply_at-requires-clause-have : goal.apply_at-requires-clause-have
apply_at-requires-clause-have c = none_have_position (values_of c.args.args.now) c.in-None.ensures

pub apply_at-requires-clause-has_value : goal.apply_at-requires-clause-has_value
apply_at-requires-clause-has_value c =
    none_has c.args.builtin c.args.ceiling c.args.device (values_of c.args.args.now) (sym c.is_hood.ensures ∙ c.if-is_hood.false) c.in-None.ensures c.requires

pub returns-in_ok-apply_at-in-None : goal.returns-in_ok-apply_at-in-None
returns-in_ok-apply_at-in-None c =
    none_value c.args.builtin c.args.ceiling c.args.device (values_of c.args.args.now) (sym c.is_hood.ensures ∙ c.if-is_hood.false) c.in-None.ensures
    ∙ ap (option_map ValueLocal) c.in_ok-apply_at-in-None.ensures
