-- A text has at most as many tokens as bytes.
use Rattle.std.proofs.Common.{ℕ, ◌+◌, ◌≤◌, List, [], ◌∷◌, length, arith}
use Rattle.std.proofs.lemmas.List.{length-map}
use Rattle.fc_lexer.specs.declared.tokens.Token.{Token}
use Rattle.fc_lexer.specs.Kinds.{TokenView, token_view, tokens_of}
use Rattle.fc_lexer.specs.Laws.{StandFrom}
use Rattle.fc_lexer.specs.Lexes.{Lexes}
use Rattle.fc_lexer.proofs.Spans.{all_rise}

few_from : (text : List ℕ) (least : ℕ) (ts : List TokenView) → StandFrom text least ts → length ts + least ≤ length text
few_from text least [] s = omega (arith, s.0)
few_from text least (t ∷ ts) s = let rest : length ts + t.end ≤ length text = few_from text t.end ts s.5 in omega (arith, rest, s.0, s.2)

pub few : (text : List ℕ) (tokens : List Token) → Lexes text (tokens_of tokens) → length tokens ≤ length text
few text tokens l = omega (arith, few_from text 0 (tokens_of tokens) (all_rise text (tokens_of tokens) l), length-map tokens token_view)
