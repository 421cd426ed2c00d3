use Rattle.std.proofs.Common.{arith, add-one}
use Rattle.fc_nodes.proofs.Blanks.{few_blanks, long_more, each_more, forms_more, layout_is}
use Rattle.fc_nodes.proofs.layouts.Layout.of.Goals as goal

pub add-requires : goal.add-requires
add-requires c =
    let i = c.loop-place.invariant in
    let f = few_blanks c.args.nodes.now c.loop-place.place c.loop-place.numbers.items c.loop-place.blanks.items i.long i.each i.forms in
    let s = c.requires.short in
    omega (arith, f, s)

pub loop-place-preserved : goal.loop-place-preserved
loop-place-preserved c =
    let i = c.loop-place.invariant in
    let ns = c.args.nodes.now in
    record {
      long = long_more ns c.loop-place.place c.loop-place.numbers.items c.loop-place.blanks.items i.long i.each i.forms c.node_at.result.now c.node_at.ensures _ (add-one c.loop-place.place) c.add.new.numbers.items c.in_ok-add.ensures.numbers;
      each = each_more ns c.loop-place.place c.loop-place.numbers.items c.loop-place.blanks.items i.long i.each i.forms c.node_at.result.now c.node_at.ensures _ (add-one c.loop-place.place) c.add.new.numbers.items c.in_ok-add.ensures.numbers;
      forms = forms_more ns c.loop-place.place c.loop-place.numbers.items c.loop-place.blanks.items i.long i.each i.forms c.node_at.result.now c.node_at.ensures _ (add-one c.loop-place.place) c.add.new.blanks.items c.in_ok-add.ensures.blanks;
    }

pub invariant_of-result : goal.invariant_of-result
invariant_of-result c =
    let i = c.loop-place.invariant in
    let f = few_blanks c.args.nodes.now c.loop-place.place c.loop-place.numbers.items c.loop-place.blanks.items i.long i.each i.forms in
    let s = c.requires.short in
    omega (arith, f, s)

pub returns : goal.returns
returns c =
    let i = c.loop-place.invariant in
    layout_is c.args.nodes.now c.loop-place.place c.loop-place.numbers.items c.loop-place.blanks.items i.long i.each i.forms (omega arith) c.requires.formed
