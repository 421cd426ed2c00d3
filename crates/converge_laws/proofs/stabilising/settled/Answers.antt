use Rattle.std.proofs.Common.{subst, ◌∙◌}
use Rattle.fc_nodes.specs.Program.{IsProgram}
use Rattle.converge_laws.proofs.Verdict.{yes_settles}
use Rattle.firing_core.specs.CoreViews.{core_of}
use Rattle.firing_core.specs.Entries.{entries_of}
use Rattle.converge_laws.proofs.stabilising.settled.Goals as goal

pub returns : goal.returns
returns c = λ k h rounds.
    yes_settles c.patterns_have_shapes.ensures c.steps_keep_good.ensures.step c.steps_keep_good.ensures.run c.faultless_steps.ensures.copy c.runs_cut.ensures.cut c.runs_cut.ensures.edit c.args.book.now.program
    (core_of c.args.book.now.start) (core_of c.args.book.now.core) (entries_of c.args.book.now.log) k (subst IsProgram (c.deref.ensures ∙ c.program.ensures.value) c.declared.ensures.program) c.program.ensures.book.good c.program.ensures.book.runs h rounds
