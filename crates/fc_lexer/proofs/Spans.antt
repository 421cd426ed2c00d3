-- Spans rise.
use Rattle.std.proofs.Common.{ℕ, zero, suc, ◌≡◌, ◌+◌, ◌-◌, ◌<◌, ◌≤◌, true, List, [], ◌∷◌, ◌++◌, length, take, drop, refl, ap, ◌∙◌, sym, subst, arith, length-drop, append_assoc, append-nil}
use Rattle.std.specs.Prelude.{Option, Some, None}
use Rattle.std.proofs.Math.Seq.{take-add}
use Rattle.std.proofs.lemmas.List.{drop-drop}
use Rattle.fc_lexer.specs.Bytes.{is_piece}
use Rattle.fc_lexer.specs.Kinds.{TokenKind, TokenView, token_kind}
use Rattle.fc_lexer.specs.Lexes.{IsLongest, Cut, line_at, token_as, tokens_from}
use Rattle.fc_lexer.specs.Laws.{Blank, SpansRise, StandFrom, between, more, none}

-- a piece has a byte
has_byte : (bytes : List ℕ) (n : ℕ) → IsLongest bytes n → 0 < n
has_byte bytes zero l = let e = l.piece in cc
has_byte bytes (suc n) l = omega arith

-- one more run of spaces or comment
blank_more : (xs : List ℕ) (piece : List ℕ) → is_piece piece ≡ true → token_kind piece ≡ None → Blank xs → Blank (xs ++ piece)
blank_more _ piece i k none = subst Blank (append-nil piece) (more piece [] i k none)
blank_more _ piece i k (more q rest j l b) = subst Blank (sym (append_assoc q rest piece)) (more q (rest ++ piece) j l (blank_more rest piece i k b))

between_more : (text : List ℕ) (least start n : ℕ) → least ≤ start → between text least start ++ take n (drop start text) ≡ between text least (start + n)
between_more text least start n h =
    let e : (start - least) + n ≡ start + n - least = omega arith in
    let f : least + (start - least) ≡ start = omega arith in
    ap (λ k. between text least start ++ take n (drop k text)) (sym f)
    ∙ ap (λ l. between text least start ++ take n l) (sym (drop-drop (start - least) least text))
    ∙ sym (take-add (start - least) n (drop least text))
    ∙ ap (λ k. take k (drop least text)) e

between_self : (text : List ℕ) (start : ℕ) → between text start start ≡ []
between_self text start = let e : start - start ≡ 0 = omega arith in ap (λ k. take k (drop start text)) e

between_size : (text : List ℕ) (start n : ℕ) → between text start (start + n) ≡ take n (drop start text)
between_size text start n = let e : start + n - start ≡ n = omega arith in ap (λ k. take k (drop start text)) e

-- a piece, and what comes after it
one_piece : (text : List ℕ) (least start n : ℕ) (k : Option TokenKind) (ts : List TokenView) → least ≤ start → 0 < n → Blank (between text least start)
    → is_piece (take n (drop start text)) ≡ true → token_kind (take n (drop start text)) ≡ k
    → ((low : ℕ) → low ≤ start + n → Blank (between text low (start + n)) → StandFrom text low ts)
    → StandFrom text least (token_as k start (start + n) (line_at text start) ++ ts)
one_piece text least start n None ts h z b i e ih =
    ih least (omega arith) (subst Blank (between_more text least start n h) (blank_more (between text least start) (take n (drop start text)) i e b))
one_piece text least start n (Some k) ts h z b i e ih =
    (h, b, omega arith, ap token_kind (between_size text start n) ∙ e, refl, ih (start + n) (omega arith) (subst Blank (sym (between_self text (start + n))) none))

-- at the end nothing is left
ends_at : (text : List ℕ) (start : ℕ) → start ≤ length text → drop start text ≡ [] → start ≡ length text
ends_at text start h c = omega (arith, length-drop start text, ap length c)

stand_from : (text : List ℕ) (least start : ℕ) (sizes : List ℕ) → least ≤ start → start ≤ length text → Blank (between text least start) → Cut (drop start text) sizes []
    → StandFrom text least (tokens_from text start sizes)
stand_from text least start [] h w b c = let e : start ≡ length text = ends_at text start w c in (omega arith, subst (λ k. Blank (between text least k)) e b)
stand_from text least start (n ∷ sizes) h w b c =
    let within : start + n ≤ length text = omega (arith, c.0.within, length-drop start text) in
    let later : Cut (drop (start + n) text) sizes [] = subst (λ l. Cut l sizes []) (drop-drop n start text) c.1 in
    one_piece text least start n (token_kind (take n (drop start text))) (tokens_from text (start + n) sizes) h (has_byte (drop start text) n c.0) b c.0.piece refl
    (λ low le blank. stand_from text low (start + n) sizes le within blank later)

pub all_rise : SpansRise
all_rise text ts l = subst (StandFrom text 0) (sym l.tokens_are) (stand_from text 0 0 l.sizes (omega arith) (omega arith) (subst Blank (sym (between_self text 0)) none) l.pieces)
