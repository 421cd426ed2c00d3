use Rattle.std.proofs.Common.{subst}
use Rattle.fc_nodes.specs.Terms.{term_at}
use Rattle.fc_nodes.proofs.Kept.{kept_none}
use Rattle.stable_field.specs.Outside.{SameOutside}
use Rattle.stable_field.proofs.outside.slots_outside.Goals as goal

pub returns : goal.returns
returns c = λ xs ys h.
    subst (λ k. SameOutside (term_at c.args.program.now.nodes 0) k xs ys) (kept_none c.args.program.now.nodes) (c.in_ok-add_term.ensures xs ys h).1
