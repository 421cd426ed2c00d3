use Rattle.std.proofs.Common.{◌∙◌, ap, sym}
use Rattle.fc_values.specs.BuiltinTypes.{inner}
use Rattle.device_eval.proofs.MaySteps.{node_type}
use Rattle.device_eval.proofs.builtins.kid_type.Goals as goal

pub returns : goal.returns
returns c =
    c.inner.ensures ∙ sym (ap inner (node_type _ c.node.ensures.program.formed c.node.ensures.node))
