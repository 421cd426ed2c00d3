-- A program has at most as many declarations as tokens.
use Rattle.std.proofs.Common.{◌≡◌, ◌≤◌, List, length, arith}
use Rattle.fc_lexer.specs.Kinds.{TokenView}
use Rattle.fc_syntax.specs.Terms.{Declaration}
use Rattle.fc_parser.specs.Programs.{Place, pieces, Follow, ended, then, Derives}
use Rattle.fc_parser.proofs.PieceCounts.{few_pieces}

as_many : (place : Place) (ps : List (List TokenView)) (ds : List Declaration) → Follow place ps ds → length ds ≡ length ps
as_many place ps ds (ended second) = omega arith
as_many place ps ds (then p after piece more d rest s f) = let e : length rest ≡ length more = as_many after more rest f in omega (arith, e)

pub few_declared : (tokens : List TokenView) (ds : List Declaration) → Derives tokens ds → length ds ≤ length tokens
few_declared tokens ds d = omega (arith, few_pieces tokens, as_many _ (pieces tokens) ds d)
