use Rattle.std.proofs.Common.{◌∙◌, sym, subst, refl, arith}
use Rattle.std.proofs.lemmas.Result.{err_from_is_err_and}
use Rattle.fc_nodes.specs.Program.{Program, unfolding_of}
use Rattle.firing_core.specs.Entries.{entry_of}
use Rattle.firing_core.specs.Replays.{EntryFits}
use Rattle.firing_core.proofs.Replaying.{fits_at, replayed_more, replay_fails, replay_stuck, replays, replayed_book, start_good}
use Rattle.firing_core.proofs.books.replay.Goals as goal

pub loop-index-init : goal.loop-index-init
loop-index-init c = record { read = record { program = sym c.requires.program; runs = refl } }

pub apply-requires : goal.apply-requires
apply-requires c =
    let r = c.loop-index.invariant.read in
    subst (λ (p : Program). EntryFits (unfolding_of p) (entry_of c.index.result.now)) (sym r.program)
    (fits_at (unfolding_of c.args.program.now.value) c.args.log.items c.loop-index.index c.index.result.now c.requires.fits (omega (arith, c.args.log.ok.0)) c.index.ensures)

pub returns-in_err-apply-clause-refused : goal.returns-in_err-apply-clause-refused
returns-in_err-apply-clause-refused c =
    let p = err_from_is_err_and c.from_residual.result c.from_residual.ensures.1 in
    rw (p.1, p.2) (replay_fails c.index.result.now (omega (arith, c.args.log.ok.0)) c.index.ensures c.loop-index.invariant.read c.in_err-apply.field-0.0 c.in_err-apply.ensures.refused)

pub returns-in_err-apply-clause-stuck : goal.returns-in_err-apply-clause-stuck
returns-in_err-apply-clause-stuck c =
    let p = err_from_is_err_and c.from_residual.result c.from_residual.ensures.1 in
    let good = start_good c.args.program.now.value c.args.start c.in-Ok-copy.start (c.in-Ok-copy.ensures.program ∙ sym c.requires.program) c.in-Ok-copy.ensures.kept c.in-Ok-copy.ensures.core in
    rw (p.1, p.2) (replay_stuck c.index.result.now (omega (arith, c.args.log.ok.0)) c.index.ensures c.loop-index.invariant.read good c.in_err-apply.field-0.0 c.in_err-apply.ensures.refused)

pub loop-index-preserved : goal.loop-index-preserved
loop-index-preserved c = record {
  read = replayed_more c.index.result.now (omega (arith, c.args.log.ok.0)) c.index.ensures c.loop-index.invariant.read _ c.apply.new.self (omega arith) c.in_ok-apply.ensures.program c.in_ok-apply.ensures.ok;
}

pub invariant_of-result : goal.invariant_of-result
invariant_of-result c =
    replayed_book (omega (arith, c.args.log.ok.0)) c.loop-index.invariant.read c.in-Ok.program.value c.in-Ok-copy.start _ c.in-Ok.ensures.cases (c.in-Ok-copy.ensures.program ∙ sym c.requires.program) c.in-Ok-copy.ensures.kept
    c.in-Ok-copy.ensures.core

pub returns-clause-core : goal.returns-clause-core
returns-clause-core c =
    let good = start_good c.args.program.now.value c.args.start c.in-Ok-copy.start (c.in-Ok-copy.ensures.program ∙ sym c.requires.program) c.in-Ok-copy.ensures.kept c.in-Ok-copy.ensures.core in
    replays (omega (arith, c.args.log.ok.0)) c.loop-index.invariant.read good
