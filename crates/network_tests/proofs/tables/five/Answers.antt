-- One node is the program.
use Rattle.std.proofs.Common.{refl, arith}
use Rattle.fc_values.specs.Types.{declarations_of}
use Rattle.network_tests.proofs.Five.{put_alone}
use Rattle.network_tests.proofs.tables.five.Goals as goal

pub new-requires-2 : goal.new-requires-2
new-requires-2 c =
    put_alone (declarations_of c.declared.result) 5 c.new-nodes.result.items c.push.new.self.items _ c.declared.ensures
    (omega arith) c.new-nodes.ensures.items c.in_ok-push.ensures.items c.new.ensures.items refl
