-- The tokens up to the first `;` are the first piece.
use Rattle.std.proofs.Common.{ℕ, suc, ◌≡◌, ◌+◌, ◌<◌, min, cond, Bool, true, false, not, List, [], ◌∷◌, length, take, drop, refl, ap, ◌∙◌, sym, subst, arith}
use Rattle.std.specs.List.{prefix_len}
use Rattle.fc_lexer.specs.declared.tokens.Token.{Token}
use Rattle.fc_lexer.specs.Kinds.{TokenView, kind_view, token_view, tokens_of}
use Rattle.fc_parser.specs.Programs.{is_semi, onto_piece, pieces}
use Rattle.fc_parser.specs.Places.{goes_on}

abbrev ends : Token → Bool
ends t = is_semi (kind_view t.kind)

abbrev size_if : Bool → ℕ → ℕ
size_if true n = 1
size_if false n = suc n

-- the size of the first piece
abbrev size_of : List Token → ℕ
size_of [] = 0
size_of (t ∷ ts) = size_if (ends t) (size_of ts)

size_step : (b : Bool) (m n k : ℕ) → m ≡ min (n + 1) k → size_if b m ≡ min (cond (not b) (1 + n) 0 + 1) (suc k)
size_step true m n k e = omega arith
size_step false m n k e = omega arith

size_is : (ts : List Token) → size_of ts ≡ min (prefix_len goes_on ts + 1) (length ts)
size_is [] = omega arith
size_is (t ∷ ts) = size_step (ends t) (size_of ts) (prefix_len goes_on ts) (length ts) (size_is ts)

abbrev IsCut : ℕ → List Token → Type 0
IsCut n ts = pieces (tokens_of ts) ≡ tokens_of (take n ts) ∷ pieces (tokens_of (drop n ts))

-- the pieces of the rest, behind one more token
abbrev pieces_if : Bool → TokenView → List (List TokenView) → List (List TokenView)
pieces_if b t more = cond b ((t ∷ []) ∷ more) (onto_piece t more)

cut_last : (b : Bool) (t : Token) → pieces_if b (token_view t) [] ≡ tokens_of (take (size_if b 0) (t ∷ [])) ∷ pieces (tokens_of (drop (size_if b 0) (t ∷ [])))
cut_last true t = refl
cut_last false t = refl

cut_step : (b : Bool) (t : Token) (ts : List Token) → IsCut (size_of ts) ts → pieces_if b (token_view t) (pieces (tokens_of ts)) ≡ tokens_of (take (size_if b (size_of ts)) (t ∷ ts)) ∷ pieces (tokens_of (drop (size_if b (size_of ts)) (t ∷ ts)))
cut_step true t ts h = refl
cut_step false t ts h = ap (onto_piece (token_view t)) h

cut_of : (t : Token) (ts : List Token) → IsCut (size_of (t ∷ ts)) (t ∷ ts)
cut_of t [] = cut_last (ends t) t
cut_of t (u ∷ ts) = cut_step (ends t) t (u ∷ ts) (cut_of u ts)

pub first_cut : (ts : List Token) (n : ℕ) → 0 < length ts → n ≡ min (prefix_len goes_on ts + 1) (length ts) → IsCut n ts
first_cut [] n some e = absurd (omega arith)
first_cut (t ∷ ts) n some e = subst (λ m. IsCut m (t ∷ ts)) (size_is (t ∷ ts) ∙ sym e) (cut_of t ts)
