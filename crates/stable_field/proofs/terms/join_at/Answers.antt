use Rattle.std.proofs.Common.{rules, ◌≡◌, arith, length}
use Rattle.fc_values.specs.Types.{type_of as value_type_of}
use Rattle.stable_field.proofs.Joined.{apply_node, first_stands, second_stands, is_join, of_two}
use Rattle.stable_field.proofs.terms.join_at.Goals as goal

pub is_local-requires : goal.is_local-requires
is_local-requires c =
    let n = c.node-node.result.now in
    let l : length n.kids.items ≡ 2 = let a = c.len.ensures in let b = c.if-len-ne2.false in omega (arith, a, b) in
    first_stands c.args.program.now c.node-node.ensures.program c.args.place c.requires c.in-Apply.builtin (value_type_of n.ty) n.kids.items (apply_node c.args.program.now.nodes c.args.place n c.in-Apply.builtin c.in-Apply.is c.node-node.ensures.node)
    c.index-first.result.now c.index-second.result.now (of_two n.kids.items c.index-first.result.now c.index-second.result.now l c.index-first.ensures c.index-second.ensures)

pub is_local-requires-then-is_local : goal.is_local-requires-then-is_local
is_local-requires-then-is_local c =
    let n = c.node-node.result.now in
    let l : length n.kids.items ≡ 2 = let a = c.len.ensures in let b = c.if-len-ne2.false in omega (arith, a, b) in
    second_stands c.args.program.now c.node-node.ensures.program c.args.place c.requires c.in-Apply.builtin (value_type_of n.ty) n.kids.items (apply_node c.args.program.now.nodes c.args.place n c.in-Apply.builtin c.in-Apply.is c.node-node.ensures.node)
    c.index-first.result.now c.index-second.result.now (of_two n.kids.items c.index-first.result.now c.index-second.result.now l c.index-first.ensures c.index-second.ensures)

pub returns-then-is_local-2 : goal.returns-then-is_local-2
returns-then-is_local-2 c =
    let n = c.node-node.result.now in
    let l : length n.kids.items ≡ 2 = let a = c.len.ensures in let b = c.if-len-ne2.false in omega (arith, a, b) in
    let f = c.if-is_local.ensures (search rules) in
    let g = c.if-is_local-2.ensures (search rules) in
    is_join c.args.program.now c.node-node.ensures.program c.args.place c.requires c.in-Apply.builtin (value_type_of n.ty) n.kids.items (apply_node c.args.program.now.nodes c.args.place n c.in-Apply.builtin c.in-Apply.is c.node-node.ensures.node)
    c.index-first.result.now c.index-second.result.now (of_two n.kids.items c.index-first.result.now c.index-second.result.now l c.index-first.ensures c.index-second.ensures) f.0 f.1 g.0 g.1
