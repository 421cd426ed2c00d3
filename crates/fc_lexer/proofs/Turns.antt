-- One turn of the reading.
use Rattle.std.proofs.Common.{ℕ, ◌≡◌, ◌+◌, ◌-◌, ◌<◌, ◌≤◌, ◌≢◌, true, List, [], ◌∷◌, ◌++◌, length, take, drop, ap, ◌∙◌, sym, subst, arith, length-drop, append_assoc, append-nil, cond}
use Rattle.std.specs.Prelude.{sum, Option, Some, None, option_map}
use Rattle.std.specs.List.{count_by}
use Rattle.std.proofs.lemmas.List.{drop-drop, map-append}
use Rattle.std.proofs.lemmas.List.Sums.{sum_by-append, sum_by-cons, sum_by_push}
use Rattle.std.proofs.Math.Seq.{take-add}
use Rattle.std.proofs.lemmas.Grind.{common_steps}
use Rattle.fc_lexer.specs.declared.tokens.Kind.{Kind}
use Rattle.fc_lexer.specs.declared.tokens.Token.{Token}
use Rattle.fc_lexer.specs.declared.tokens.LexFault.TheVariants as fault
use Rattle.fc_lexer.specs.Bytes.{is_line_feed, is_piece}
use Rattle.fc_lexer.specs.Sizes.{size_of}
use Rattle.fc_lexer.specs.Kinds.{TokenKind, TokenView, kind_view, token_kind, token_view, tokens_of}
use Rattle.fc_lexer.specs.Lexes.{IsAlone, StopsAlone, IsLongest, Cut, Lexes, IsStuckAt, line_at, token_as, token_at, tokens_from}
use Rattle.fc_lexer.proofs.Longest.{longest, stuck}
use Rattle.fc_lexer.proofs.OneReading.{never_both, one_list, one_stop}
use Rattle.fc_values.proofs.Lists.{whole}

-- how far reading has come: pieces up to here, and the tokens among them
pub record IsReadTo (text : List ℕ) (at line : ℕ) (tokens : List TokenView) : Type 0 where
  pub sizes : List ℕ
  pub index : sum sizes ≡ at
  pub within : at ≤ length text
  pub pieces : Cut text sizes (drop at text)
  pub line_is : line ≡ line_at text at
  pub tokens_are : tokens ≡ tokens_from text 0 sizes

-- one more piece
cut_more : (bytes sizes rest : List ℕ) (n : ℕ) → Cut bytes sizes rest → IsLongest rest n → Cut bytes (sizes ++ n ∷ []) (drop n rest)
cut_more bytes [] rest n c l = (subst (λ b. IsLongest b n) (sym c) l, ap (drop n) c)
cut_more bytes (k ∷ sizes) rest n c l = (c.0, cut_more (drop k bytes) sizes rest n c.1 l)

sum_more : (sizes : List ℕ) (n : ℕ) → sum (sizes ++ n ∷ []) ≡ sum sizes + n
sum_more sizes n = sum_by_push (λ x. x) sizes n

start_more : (start k : ℕ) (sizes : List ℕ) → (start + k) + sum sizes ≡ start + sum (k ∷ sizes)
start_more start k sizes = let e : sum (k ∷ sizes) ≡ k + sum sizes = sum_by-cons (λ x. x) k sizes in omega arith

start_none : (start : ℕ) → start ≡ start + sum []
start_none start = omega arith

tokens_more : (text : List ℕ) (start : ℕ) (sizes : List ℕ) (n : ℕ) → tokens_from text start (sizes ++ n ∷ []) ≡ tokens_from text start sizes ++ token_at text (start + sum sizes) n
tokens_more text start [] n = append-nil (token_at text start n) ∙ ap (λ i. token_at text i n) (start_none start)
tokens_more text start (k ∷ sizes) n =
    ap (λ ts. token_at text start k ++ ts) (tokens_more text (start + k) sizes n)
    ∙ ap (λ i. token_at text start k ++ (tokens_from text (start + k) sizes ++ token_at text i n)) (start_more start k sizes)
    ∙ sym (append_assoc (token_at text start k) (tokens_from text (start + k) sizes) (token_at text (start + sum (k ∷ sizes)) n))

line_more : (text : List ℕ) (at n : ℕ) → line_at text at + count_by is_line_feed (take n (drop at text)) ≡ line_at text (at + n)
line_more text at n =
    let e : count_by is_line_feed (take (at + n) text) ≡ count_by is_line_feed (take at text) + count_by is_line_feed (take n (drop at text)) =
    ap (count_by is_line_feed) (take-add at n text) ∙ sum_by-append (λ x. cond (is_line_feed x) 1 0) (take at text) (take n (drop at text)) in
    omega arith

-- the code's slices
part : (xs : List ℕ) (at n : ℕ) → take (at + n - at) (drop at xs) ≡ take n (drop at xs)
part xs at n = let e : at + n - at ≡ n = omega arith in ap (λ k. take k (drop at xs)) e

-- the piece that begins here
pub record IsNext (text : List ℕ) (at n : ℕ) : Type 0 where
  pub longest : IsLongest (drop at text) n
  pub within : at + n ≤ length text
  pub above : 0 < n

pub next : (text : List ℕ) (at n : ℕ) → at < length text → n ≡ size_of (take (length text - at) (drop at text)) → n ≢ 0 → IsNext text at n
next text at n h e z =
    let l : IsLongest (drop at text) n = longest (drop at text) n (e ∙ ap size_of (whole text at)) z in
    record { longest = l; within = omega (arith, l.within, length-drop at text); above = omega arith }

pub next_piece : (text : List ℕ) (at n : ℕ) → IsNext text at n → is_piece (take (at + n - at) (drop at text)) ≡ true
next_piece text at n l = ap is_piece (part text at n) ∙ l.longest.piece

pub turn_stuck : (text : List ℕ) (at line n : ℕ) (tokens : List TokenView) → IsReadTo text at line tokens → at < length text → n ≡ size_of (take (length text - at) (drop at text)) → n ≡ 0 → IsStuckAt text at
turn_stuck text at line n tokens r h e z = record {
  sizes = r.sizes;
  index = r.index;
  pieces = r.pieces;
  stuck = stuck (drop at text) n (e ∙ ap size_of (whole text at)) z (omega (arith, length-drop at text));
}

-- what the code has after the piece
pub turn : (text : List ℕ) (at line n more : ℕ) (tokens pushed : List TokenView) (piece : List ℕ) → IsReadTo text at line tokens → IsNext text at n
    → piece ≡ take (at + n - at) (drop at text) → more ≡ line + count_by is_line_feed piece → pushed ≡ tokens ++ token_as (token_kind piece) at (at + n) line
    → IsReadTo text (at + n) more pushed
turn text at line n more tokens pushed piece r l p m e =
    let is : piece ≡ take n (drop at text) = p ∙ part text at n in
    record {
      sizes = r.sizes ++ n ∷ [];
      index = sum_more r.sizes n ∙ ap (λ k. k + n) r.index;
      within = l.within;
      pieces = subst (Cut text (r.sizes ++ n ∷ [])) (drop-drop n at text) (cut_more text r.sizes (drop at text) n r.pieces l.longest);
      line_is = m ∙ ap (λ k. k + count_by is_line_feed piece) r.line_is ∙ ap (λ q. line_at text at + count_by is_line_feed q) is ∙ line_more text at n;
      tokens_are =
          e
          ∙ ap (λ ts. ts ++ token_as (token_kind piece) at (at + n) line) r.tokens_are
          ∙ ap (λ k. tokens_from text 0 r.sizes ++ token_as (token_kind piece) at (at + n) k) r.line_is
          ∙ ap (λ q. tokens_from text 0 r.sizes ++ token_as (token_kind q) at (at + n) (line_at text at)) is
          ∙ ap (λ i. tokens_from text 0 r.sizes ++ token_at text i n) (sym r.index ∙ zero_add (sum r.sizes))
          ∙ sym (tokens_more text 0 r.sizes n);
    }
  where
    zero_add : (k : ℕ) → k ≡ 0 + k
    zero_add k = omega arith

-- at the end of the text
at_end : (text : List ℕ) (at : ℕ) → length text ≤ at → drop at text ≡ []
at_end text at h = grind (arith, common_steps)

pub all_read : (text : List ℕ) (at line : ℕ) (tokens : List TokenView) → IsReadTo text at line tokens → length text ≤ at → Lexes text tokens
all_read text at line tokens r h = record { sizes = r.sizes; pieces = subst (Cut text r.sizes) (at_end text at h) r.pieces; tokens_are = r.tokens_are }

pub is_alone : (text : List ℕ) (tokens : List TokenView) → Lexes text tokens → IsAlone text tokens
is_alone text tokens l = (λ others m. one_list text others tokens m l, λ i s. never_both text i tokens s l)

pub stops_alone : (text : List ℕ) (i : ℕ) → IsStuckAt text i → StopsAlone text (fault.At i)
stops_alone text i s = (λ tokens l. never_both text i tokens s l, λ j t. one_stop text j i t s)

-- the tokens of a longer list
pub tokens_push : (ts : List Token) (t : Token) → tokens_of (ts ++ t ∷ []) ≡ tokens_of ts ++ token_view t ∷ []
tokens_push ts t = map-append token_view ts (t ∷ [])

push_none : (ts : List Token) (start end line : ℕ) (k : Option Kind) (q : Option TokenKind) → k ≡ None → option_map kind_view k ≡ q → tokens_of ts ≡ tokens_of ts ++ token_as q start end line
push_none ts start end line k q n e =
    let f : q ≡ None = sym e ∙ ap (option_map kind_view) n in
    sym (append-nil (tokens_of ts)) ∙ ap (λ p. tokens_of ts ++ token_as p start end line) (sym f)

pub pushed_none : (ts us : List Token) (start end line : ℕ) (k : Option Kind) (q : Option TokenKind) → us ≡ ts → k ≡ None → option_map kind_view k ≡ q
    → tokens_of us ≡ tokens_of ts ++ token_as q start end line
pushed_none ts us start end line k q u n e = ap tokens_of u ∙ push_none ts start end line k q n e

pub pushed_some : (ts us : List Token) (t : Token) (k : Option Kind) (q : Option TokenKind) → us ≡ ts ++ t ∷ [] → k ≡ Some t.kind → option_map kind_view k ≡ q
    → tokens_of us ≡ tokens_of ts ++ token_as q t.start t.end t.line
pushed_some ts us t k q u n e =
    let f : q ≡ Some (kind_view t.kind) = sym e ∙ ap (option_map kind_view) n in
    ap tokens_of u ∙ tokens_push ts t ∙ ap (λ p. tokens_of ts ++ token_as p t.start t.end t.line) (sym f)
