use Rattle.std.proofs.Common.{◌<◌, length, refl, arith}
use Rattle.fc_values.specs.declared.builtins.Builtin.TheVariants as op
use Rattle.fc_values.specs.Types.{IntType, BoolType, local_type_of, type_of}
use Rattle.device_eval.specs.Kids.{kid_types}
use Rattle.device_eval.proofs.HoodSteps.{hood_types, field_room, two_room}
use Rattle.device_eval.proofs.HoodSteps.{sum_applied, any_applied, all_applied, least_applied, greatest_applied}
use Rattle.device_eval.proofs.OperatorSteps.{is_plain, operator_takes, operator_rows, operator_long, operator_applied}
use Rattle.device_eval.proofs.builtins.apply_builtin.Goals as goal

pub sum_hood-requires-clause-within : goal.sum_hood-requires-clause-within
sum_hood-requires-clause-within c =
    let ts = kid_types c.args.program.now.nodes c.args.node.now.kids.items in
    let t = type_of c.args.node.now.ty in
    let types = hood_types c.args.builtin op.SumHood ts t refl c.in-SumHood.is c.requires.rule in
    let room = field_room IntType ts t _ c.args.devices c.args.at _ types c.requires.length in
    omega (arith, room)

pub any_hood-requires-clause-within : goal.any_hood-requires-clause-within
any_hood-requires-clause-within c =
    let ts = kid_types c.args.program.now.nodes c.args.node.now.kids.items in
    let t = type_of c.args.node.now.ty in
    let types = hood_types c.args.builtin op.AnyHood ts t refl c.in-AnyHood.is c.requires.rule in
    let room = field_room BoolType ts t _ c.args.devices c.args.at _ types c.requires.length in
    omega (arith, room)

pub all_hood-requires-clause-within : goal.all_hood-requires-clause-within
all_hood-requires-clause-within c =
    let ts = kid_types c.args.program.now.nodes c.args.node.now.kids.items in
    let t = type_of c.args.node.now.ty in
    let types = hood_types c.args.builtin op.AllHood ts t refl c.in-AllHood.is c.requires.rule in
    let room = field_room BoolType ts t _ c.args.devices c.args.at _ types c.requires.length in
    omega (arith, room)

pub least_hood-requires-clause-within : goal.least_hood-requires-clause-within
least_hood-requires-clause-within c =
    let ts = kid_types c.args.program.now.nodes c.args.node.now.kids.items in
    let t = type_of c.args.node.now.ty in
    let types = hood_types c.args.builtin op.MinHoodLoc ts t refl c.in-MinHoodLoc.is c.requires.rule in
    two_room ts t _ c.args.devices c.args.at _ types c.inner-ty.ensures c.requires.length

pub greatest_hood-requires-clause-within : goal.greatest_hood-requires-clause-within
greatest_hood-requires-clause-within c =
    let ts = kid_types c.args.program.now.nodes c.args.node.now.kids.items in
    let t = type_of c.args.node.now.ty in
    let types = hood_types c.args.builtin op.MaxHoodLoc ts t refl c.in-MaxHoodLoc.is c.requires.rule in
    two_room ts t _ c.args.devices c.args.at _ types c.inner-ty.ensures c.requires.length

pub returns-in-SumHood : goal.returns-in-SumHood
returns-in-SumHood c =
    let ts = kid_types c.args.program.now.nodes c.args.node.now.kids.items in
    let sum = rw c.ceiling_of.ensures at c.sum_hood.ensures.sum in
    sum_applied _ c.args.devices c.args.own c.args.at _ _ c.requires.own (record { same = c.sum_hood.ensures.before })
    c.args.builtin ts (type_of c.args.node.now.ty) c.requires.rule c.in-SumHood.is c.sum_hood.ensures.long sum

pub returns-in-AnyHood : goal.returns-in-AnyHood
returns-in-AnyHood c =
    let ts = kid_types c.args.program.now.nodes c.args.node.now.kids.items in
    any_applied _ c.args.devices c.args.own c.args.at _ _ c.requires.own (record { same = c.any_hood.ensures.before })
    c.args.builtin ts (type_of c.args.node.now.ty) c.requires.rule c.in-AnyHood.is c.any_hood.ensures.long
    c.any_hood.ensures.any

pub returns-in-AllHood : goal.returns-in-AllHood
returns-in-AllHood c =
    let ts = kid_types c.args.program.now.nodes c.args.node.now.kids.items in
    all_applied _ c.args.devices c.args.own c.args.at _ _ c.requires.own (record { same = c.all_hood.ensures.before })
    c.args.builtin ts (type_of c.args.node.now.ty) c.requires.rule c.in-AllHood.is c.all_hood.ensures.long
    c.all_hood.ensures.all

pub returns-in-MinHoodLoc : goal.returns-in-MinHoodLoc
returns-in-MinHoodLoc c =
    let ts = kid_types c.args.program.now.nodes c.args.node.now.kids.items in
    let t = type_of c.args.node.now.ty in
    least_applied _ c.args.devices c.args.own c.args.at _ _ c.requires.own
    (record { same = c.least_hood.ensures.before }) c.args.builtin ts t c.requires.rule _ c.inner-ty.ensures
    c.least_hood.ensures.long c.in-MinHoodLoc.is c.least_hood.ensures.least

pub returns-in-MaxHoodLoc : goal.returns-in-MaxHoodLoc
returns-in-MaxHoodLoc c =
    let ts = kid_types c.args.program.now.nodes c.args.node.now.kids.items in
    let t = type_of c.args.node.now.ty in
    greatest_applied _ c.args.devices c.args.own c.args.at _ _ c.requires.own
    (record { same = c.greatest_hood.ensures.before }) c.args.builtin ts t c.requires.rule _ c.inner-ty.ensures
    c.greatest_hood.ensures.long c.in-MaxHoodLoc.is c.greatest_hood.ensures.greatest

pub operate-requires-clause-types : goal.operate-requires-clause-types
operate-requires-clause-types c =
    let d = c.in_default in
    let ts = kid_types c.args.program.now.nodes c.args.node.now.kids.items in
    let plain = is_plain c.args.builtin d.not-SumHood d.not-AnyHood d.not-AllHood d.not-MinHoodLoc d.not-MaxHoodLoc in
    rw c.deref.ensures.value (operator_takes c.args.builtin ts (type_of c.args.node.now.ty) c.requires.rule plain
    c.args.devices c.rows_of-rows.result c.rows_of-rows.ensures (local_type_of c.inner-ty.result.now)
    c.inner-ty.ensures)

pub operate-requires-clause-kids : goal.operate-requires-clause-kids
operate-requires-clause-kids c = rw c.deref.ensures.value c.requires.kids

pub operate-requires-clause-some : goal.operate-requires-clause-some
operate-requires-clause-some c =
    let d = c.in_default in
    let ts = kid_types c.args.program.now.nodes c.args.node.now.kids.items in
    let plain = is_plain c.args.builtin d.not-SumHood d.not-AnyHood d.not-AllHood d.not-MinHoodLoc d.not-MaxHoodLoc in
    let some : 0 < c.args.devices = omega (arith, c.requires.own) in
    operator_rows c.args.builtin ts (type_of c.args.node.now.ty) c.requires.rule plain c.args.devices
    c.rows_of-rows.result c.rows_of-rows.ensures some

pub operate-requires-clause-length : goal.operate-requires-clause-length
operate-requires-clause-length c =
    let d = c.in_default in
    let ts = kid_types c.args.program.now.nodes c.args.node.now.kids.items in
    let plain = is_plain c.args.builtin d.not-SumHood d.not-AnyHood d.not-AllHood d.not-MinHoodLoc d.not-MaxHoodLoc in
    rw c.deref.ensures.value (operator_long c.args.builtin ts (type_of c.args.node.now.ty) c.requires.rule plain
    c.args.devices c.rows_of-rows.result c.rows_of-rows.ensures (length c.args.words.now.items) c.args.at
    c.requires.length)

pub returns-in_default : goal.returns-in_default
returns-in_default c =
    let d = c.in_default in
    let ts = kid_types c.args.program.now.nodes c.args.node.now.kids.items in
    let plain = is_plain c.args.builtin d.not-SumHood d.not-AnyHood d.not-AllHood d.not-MinHoodLoc d.not-MaxHoodLoc in
    let values = rw c.deref.ensures.value at c.operate.ensures.values in
    operator_applied c.args.builtin ts (type_of c.args.node.now.ty) c.requires.rule plain c.args.devices
    c.rows_of-rows.result c.rows_of-rows.ensures c.args.program.now.declared.ceiling c.args.own c.args.at
    c.args.words.now.items c.operate.new.words.items (local_type_of c.inner-ty.result.now) c.inner-ty.ensures values
    (record { same = c.operate.ensures.before }) c.operate.ensures.length
