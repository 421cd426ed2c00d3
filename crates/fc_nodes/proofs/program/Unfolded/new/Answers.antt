use Rattle.std.proofs.Common.{subst}
use Rattle.fc_nodes.proofs.Counted.{all_uses}
use Rattle.fc_nodes.specs.Layouts.{IsLayout}
use Rattle.fc_nodes.specs.Occurrences.{AreEnds, AreUsesBefore, lists_of}
use Rattle.std.proofs.Common.{List, length}
use Rattle.fc_nodes.specs.declared.nodes.Node.{Node}
use Rattle.fc_nodes.proofs.program.Unfolded.new.Goals as goal

pub invariant_of-result : goal.invariant_of-result
invariant_of-result c =
    let uses = subst (λ (ns : List Node). AreUsesBefore ns (length ns) (lists_of c.in_ok-uses.uses.items)) c.as_slice-3.ensures.value c.in_ok-uses.ensures in (
      c.requires,
      subst (λ ns. IsLayout ns c.in_ok-layout.layout) c.as_slice.ensures.value c.in_ok-layout.ensures,
      subst (λ ns. AreEnds ns c.in_ok-ends.ends.items) c.as_slice-2.ensures.value c.in_ok-ends.ensures,
      all_uses _ c.requires (lists_of c.in_ok-uses.uses.items) uses,
    )
