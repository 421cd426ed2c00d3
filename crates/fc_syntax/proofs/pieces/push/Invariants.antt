use Rattle.std.proofs.Common.{◌≡◌, ◌+◌, ◌++◌, take}
use Rattle.fc_syntax.specs.Pieces.{pieces_text, pieces_weight, stack_text}
use Rattle.fc_syntax.proofs.pieces.push.Given as goal

abbrev pub invariant-loop-at : goal.invariant-loop-at
invariant-loop-at l =
    (pieces_text (take l.at l.pieces) ++ stack_text l.stack.items ≡ pieces_text l.pieces ++ stack_text l.initial.stack.items)
    × (pieces_weight (take l.at l.pieces) + pieces_weight l.stack.items ≡ pieces_weight l.pieces + pieces_weight l.initial.stack.items)
