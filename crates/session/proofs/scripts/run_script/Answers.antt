use Rattle.std.proofs.Common.{◌≡◌, ◌∙◌, [], length, map, sym, ap, subst, arith}
use Rattle.std.specs.Vec.Iter.{into_iter_items}
use Rattle.edit_commands.specs.Scripts.{numbered}
use Rattle.session.specs.Sessions.{HasRun}
use Rattle.session.proofs.Folding.{upto_none, may_do, one_done, all_done, good_at}
use Rattle.session.proofs.Pokes.{nothing_left}
use Rattle.session.proofs.scripts.run_script.Goals as goal

pub start-requires-clause-analysed : goal.start-requires-clause-analysed
start-requires-clause-analysed g c = c.in_ok-analysis.ensures ∙ c.deref.ensures ∙ sym c.in_ok-clone.ensures.cases

pub loop-line-init : goal.loop-line-init
loop-line-init g c =
    let all : into_iter_items c.into_iter-line-iterator.result ≡ c.args.lines.items = c.into_iter-line-iterator.ensures.into_iter_gives.0 in
    record {
      upto = upto_none c.args.program.value c.args.core c.args.lines.items _ c.in_ok-session.session all
          (subst (λ P. HasRun P c.args.core [] c.in_ok-session.session) c.in_ok-clone.ensures.cases c.in_ok-session.ensures) c.requires.judged;
      long = omega (arith, c.into_iter-line-iterator.ensures.into_iter_gives.1, ap length all, c.args.lines.ok.0);
    }

pub command-requires-clause-analysed : goal.command-requires-clause-analysed
command-requires-clause-analysed g c κs within =
    c.in_ok-analysis.ensures ∙ c.deref.ensures ∙ sym c.loop-line.invariant.upto.run.program

pub command-requires-clause-allowed : goal.command-requires-clause-allowed
command-requires-clause-allowed g c κs within =
    may_do c.args.program.value c.args.core (map numbered c.args.lines.items) c.loop-line.session _ _ c.in-Some.line
    c.in-Some.ensures.steps.0 c.loop-line.invariant.upto

pub loop-line-preserved : goal.loop-line-preserved
loop-line-preserved g c =
    let steps = c.in-Some.ensures.steps.0 in
    let was = c.loop-line.invariant.long in
    let gone = c.in-Some.ensures.steps.1 in
    let short = ap length steps in
    record {
      upto = one_done c.args.program.value c.args.core (map numbered c.args.lines.items) c.loop-line.session _ _ c.in-Some.line
          steps c.loop-line.invariant.upto c.steps_keep_good.ensures.plain c.runs_cut.ensures.cut
          (good_at c.args.program.value c.core-in-loop-line.result.now c.loop-line.session c.net-net.ensures.good c.core-in-loop-line.ensures.value c.core-in-loop-line.ensures.book.held
          c.loop-line.invariant.upto.run.program)
          c.in_ok-session-2.session c.in_ok-session-2.ensures;
      long = omega arith;
    }

pub returns : goal.returns
returns g c =
    all_done c.args.program.value c.args.core (map numbered c.args.lines.items) c.loop-line.session (into_iter_items c.loop-line.line-iterator)
    (nothing_left _ (sym c.loop-line.invariant.long ∙ c.in-None.ensures.steps.0)) c.loop-line.invariant.upto
