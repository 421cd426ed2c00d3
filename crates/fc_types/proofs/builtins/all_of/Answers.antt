use Rattle.std.proofs.Common.{map, rules}
use Rattle.fc_values.specs.Types.{local_type_of, type_of}
use Rattle.fc_values.specs.BuiltinTypes.{has_field}
use Rattle.fc_types.proofs.Arities.{all_given, not_counted}
use Rattle.fc_types.proofs.builtins.all_of.Goals as goal

pub returns-then-args-count : goal.returns-then-args-count
returns-then-args-count c =
    not_counted (local_type_of c.args.each.now) c.args.count (local_type_of c.args.ty) (has_field (map type_of c.args.args.now)) c.args.args.now c.if-args-count.true

pub returns-then-each_is : goal.returns-then-each_is
returns-then-each_is c =
    rw c.lift.ensures (all_given (local_type_of c.args.each.now) c.args.count (local_type_of c.args.ty) (has_field (map type_of c.args.args.now)) c.args.args.now c.if-args-count.false (search rules))
