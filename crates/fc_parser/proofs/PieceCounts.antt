-- There are at most as many pieces as tokens.
use Rattle.std.proofs.Common.{◌+◌, ◌≤◌, Bool, true, false, List, [], ◌∷◌, length, arith}
use Rattle.std.specs.Prelude.{if◌then◌else◌}
use Rattle.fc_lexer.specs.Kinds.{TokenView}
use Rattle.fc_parser.specs.Programs.{is_semi, onto_piece, pieces}

onto_few : (t : TokenView) (ps : List (List TokenView)) → length (onto_piece t ps) ≤ 1 + length ps
onto_few t [] = omega arith
onto_few t (p ∷ ps) = omega arith

pub few_pieces : (ts : List TokenView) → length (pieces ts) ≤ length ts
few_pieces [] = omega arith
few_pieces (t ∷ ts) =
    let rest : length (pieces ts) ≤ length ts = few_pieces ts in
    let P : Bool → Type 0 = λ b. length (if b then (t ∷ []) ∷ pieces ts else onto_piece t (pieces ts)) ≤ length (t ∷ ts) in
    elim (is_semi t.kind) as P [ true ↦ omega (arith, rest) | false ↦ omega (arith, rest, onto_few t (pieces ts)) ]
