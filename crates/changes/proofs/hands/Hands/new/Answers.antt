use Rattle.std.proofs.Common.{◌≡◌, ◌+◌, ◌-◌, List, map, drop, sym, subst, arith}
use Rattle.std.proofs.lemmas.List.{length-drop}
use Rattle.std.proofs.Math.Seq.{drop-length}
use Rattle.changes.specs.declared.types.ChangeLine.{ChangeLine}
use Rattle.changes.specs.Changes.{ChangeValue}
use Rattle.changes.specs.Code.{line_in}
use Rattle.changes.specs.Hand.{said}
use Rattle.changes.specs.Kept.{IsHandOf}
use Rattle.changes.proofs.Lines.{said_from, said_few}
use Rattle.changes.proofs.hands.Hands.new.Goals as goal

pub loop-at-init : goal.loop-at-init
loop-at-init c = record {
  within = omega arith;
  hand = subst (λ (ls : List ChangeLine). IsHandOf c.args.network.now (said (map line_in ls)) c.new-all.result) (sym (drop-length c.args.lines.now)) (c.new-all.ensures c.args.network.now);
}

pub add_line-requires : goal.add_line-requires
add_line-requires c =
    let at = c.loop-at.at in
    let ls = c.args.lines.now in
    let test = c.loop-at-test.true in
    let same : (at - 1) + 1 ≡ at = omega arith in
    let within = c.loop-at.invariant.within in
    let few = said_few (drop ((at - 1) + 1) ls) in
    let all = length-drop ((at - 1) + 1) ls in
    (omega arith, (omega arith, subst (λ i. IsHandOf c.args.network.now (said (map line_in (drop i ls))) c.loop-at.all) (sym same) c.loop-at.invariant.hand))

pub loop-at-preserved : goal.loop-at-preserved
loop-at-preserved c =
    let within = c.loop-at.invariant.within in
    let test = c.loop-at-test.true in
    record {
      within = omega arith;
      hand = subst (λ (cs : List ChangeValue). IsHandOf c.args.network.now cs c.add_line.new.self)
          (sym (said_from c.args.lines.now (c.loop-at.at - 1) ((c.loop-at.at - 1) + 1) (omega arith) (omega arith))) c.in_ok-add_line.ensures;
    }

pub returns : goal.returns
returns c =
    let test = c.loop-at-test.false in
    let none : c.loop-at.at ≡ 0 = omega arith in
    record {
      all = subst (λ i. IsHandOf c.args.network.now (said (map line_in (drop i c.args.lines.now))) c.loop-at.all) none c.loop-at.invariant.hand;
      before = c.new.ensures c.args.network.now;
    }
