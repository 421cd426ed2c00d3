use Rattle.std.proofs.Common.{rules, ◌≡◌, ◌+◌, min, length}
use Rattle.std.specs.List.{prefix_len}
use Rattle.fc_parser.specs.Places.{goes_on}
use Rattle.fc_parser.proofs.Cuts.{first_cut}
use Rattle.fc_parser.proofs.pieces.first_piece.Goals as goal

pub returns-clause-cut : goal.returns-clause-cut
returns-clause-cut c =
    let size : c.min.result ≡ min (prefix_len goes_on c.args.tokens.now + 1) (length c.args.tokens.now) = rw (← c.before_semi.ensures.size) (search rules) in
    rw (c.split_at.ensures.front, c.split_at.ensures.back) (first_cut c.args.tokens.now c.min.result c.requires size)
