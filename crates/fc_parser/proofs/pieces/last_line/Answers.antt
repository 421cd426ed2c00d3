use Rattle.fc_parser.proofs.Turns.{last_is}
use Rattle.fc_parser.proofs.pieces.last_line.Goals as goal

pub returns-in-len1-up : goal.returns-in-len1-up
returns-in-len1-up c = last_is c.args.piece.now c.args.line c.last-item.result c.in-len1-up.len_at_least c.last-item.is
