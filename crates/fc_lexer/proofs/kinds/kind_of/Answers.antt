use Rattle.std.proofs.Common.{◌∙◌, sym}
use Rattle.fc_lexer.proofs.Digits.{all_digits}
use Rattle.fc_lexer.proofs.kinds.kind_of.Goals as goal

pub number-requires : goal.number-requires
number-requires c = all_digits c.args.piece.now c.in-len1-up.len_at_least (sym c.class_of.ensures ∙ c.in-Digit.is) c.requires
