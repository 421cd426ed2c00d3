use Rattle.std.proofs.Common.{subst}
use Rattle.fc_lexer.proofs.Letters.{IfNamed, name_piece, named_piece}
use Rattle.fc_lexer.proofs.laws.names_are_read.Goals as goal

pub returns-clause-read : goal.returns-clause-read
returns-clause-read c = name_piece

pub returns-clause-only : goal.returns-clause-only
returns-clause-only c piece name p k = subst (IfNamed piece) k (named_piece piece p)
