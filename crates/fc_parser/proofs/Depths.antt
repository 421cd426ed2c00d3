-- Open brackets, token by token.
use Rattle.std.proofs.Common.{ℕ, suc, ◌≡◌, ◌≤◌, ◌<◌, List, [], ◌∷◌, length, drop, get_or, ap, ◌∙◌, sym, arith}
use Rattle.std.proofs.Math.Seq.{drop-cons}
use Rattle.fc_lexer.specs.declared.tokens.Token.{Token}
use Rattle.fc_lexer.specs.Kinds.{TokenKind, kind_view}
use Rattle.fc_parser.specs.declared.limits.TheConstants.{MOST_BRACKETS}
use Rattle.fc_parser.specs.Expressions.{kinds_of}
use Rattle.fc_parser.specs.Limits.{open_after, deepest}

-- what is open before is among the places
pub open_before : (before : ℕ) (ks : List TokenKind) → before ≤ deepest before ks
open_before before [] = omega arith
open_before before (k ∷ ks) = omega arith

-- so many brackets are open before the tokens from this index on, and the whole is as deep as these are from there
pub record DeepAlike (tokens : List Token) (at depth : ℕ) : Type 0 where
  pub within : depth ≤ MOST_BRACKETS
  pub from : MOST_BRACKETS < deepest depth (kinds_of (drop at tokens)) → MOST_BRACKETS < deepest 0 (kinds_of tokens)
  pub to : MOST_BRACKETS < deepest 0 (kinds_of tokens) → MOST_BRACKETS < deepest depth (kinds_of (drop at tokens))

pub deep_found : (tokens : List Token) (at depth next : ℕ) (t : Token) → DeepAlike tokens at depth → at < length tokens → t ≡ get_or tokens at t → next ≡ open_after depth (kind_view t.kind) → MOST_BRACKETS < next → MOST_BRACKETS < deepest 0 (kinds_of tokens)
deep_found tokens at depth next t l less is e deep =
    let cut : drop at tokens ≡ t ∷ drop (suc at) tokens = drop-cons tokens at t less ∙ ap (λ x. x ∷ drop (suc at) tokens) (sym is) in
    let open_here = open_before (open_after depth (kind_view t.kind)) (kinds_of (drop (suc at) tokens)) in
    l.from (rw cut (omega (arith, open_here, e, deep)))
