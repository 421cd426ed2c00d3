-- Pieces that stand apart are read again.
use Rattle.std.proofs.Common.{ℕ, zero, suc, ◌≡◌, ◌+◌, ◌<◌, ◌≤◌, Bool, true, false, List, [], ◌∷◌, ◌++◌, length, take, drop, refl, ap, ◌∙◌, sym, subst, arith, length-append, append_assoc}
use Rattle.std.specs.Prelude.{◌&&◌, ◌==◌, map, Option, Some, None}
use Rattle.std.specs.List.{list_all}
use Rattle.std.proofs.Math.Seq.{take-append_seam, drop-append_seam}
use Rattle.std.proofs.lemmas.List.{map-append}
use Rattle.fc_lexer.specs.declared.bytes.Class.{Class}
use Rattle.fc_lexer.specs.declared.bytes.Class.TheVariants.{Space, Digit, Letter, Slash, Dot, Equals, Single, Other}
use Rattle.fc_values.specs.Names.{is_digit, is_name_byte}
use Rattle.fc_lexer.specs.Bytes.{is_space, is_in_line, is_rest, is_piece, begun_class}
use Rattle.fc_lexer.specs.Kinds.{TokenKind, TokenView, token_kind}
use Rattle.fc_lexer.specs.Lexes.{IsLongest, Cut, line_at, token_as, tokens_from}
use Rattle.fc_lexer.specs.Apart.{Breaks, Piece, ReadsBack, StandApart, kind_as, kinds_of, sizes_of, text_of, view_kind}

-- a run ends at a byte that doesn't pass
run_ends : (p : ℕ → Bool) (bs : List ℕ) (c : ℕ) (rest : List ℕ) (m : ℕ) → p c ≡ false → length bs < m → list_all p (take m (bs ++ (c ∷ rest))) ≡ false
run_ends p [] c rest zero e h = absurd (omega arith)
run_ends p [] c rest (suc m) e h = ap (λ t. t && list_all p (take m rest)) e
run_ends p (b ∷ bs) c rest zero e h = absurd (omega arith)
run_ends p (b ∷ bs) c rest (suc m) e h = go (p b) (run_ends p bs c rest m e (omega arith))
  where
    go : (t : Bool) → list_all p (take m (bs ++ (c ∷ rest))) ≡ false → (t && list_all p (take m (bs ++ (c ∷ rest)))) ≡ false
    go true ih = ih
    go false ih = refl

-- with more bytes it is no piece, where the next byte breaks it
past : (class : Class) (bs rest : List ℕ) (m : ℕ) → is_rest class bs ≡ true → Breaks class bs rest → length bs < m → m ≤ length (bs ++ rest) → is_rest class (take m (bs ++ rest)) ≡ false
past class bs [] m t b h le = absurd (omega (arith, length-append bs []))
past Space bs (c ∷ rest) m t b h le = run_ends is_space bs c rest m b h
past Digit bs (c ∷ rest) m t b h le = run_ends is_digit bs c rest m b h
past Letter bs (c ∷ rest) m t b h le = run_ends is_name_byte bs c rest m b h
past Slash [] (c ∷ rest) m t b h le = cc
past Slash (d ∷ bs) (c ∷ rest) zero t b h le = absurd (omega arith)
past Slash (d ∷ bs) (c ∷ rest) (suc m) t b h le = go (d == 47) (run_ends is_in_line bs c rest m b (omega arith))
  where
    go : (t : Bool) → list_all is_in_line (take m (bs ++ (c ∷ rest))) ≡ false → (t && list_all is_in_line (take m (bs ++ (c ∷ rest)))) ≡ false
    go true ih = ih
    go false ih = refl
past Dot [] (c ∷ rest) m t b h le = cc
past Dot (d ∷ []) (c ∷ rest) zero t b h le = absurd (omega arith)
past Dot (d ∷ []) (c ∷ rest) (suc zero) t b h le = absurd (omega arith)
past Dot (d ∷ []) (c ∷ rest) (suc (suc m)) t b h le = refl
past Dot (d ∷ e ∷ bs) (c ∷ rest) m t b h le = cc
past Equals [] (c ∷ rest) zero t b h le = absurd (omega arith)
past Equals [] (c ∷ rest) (suc zero) t b h le = b
past Equals [] (c ∷ []) (suc (suc m)) t b h le = absurd (omega arith)
past Equals [] (c ∷ d ∷ rest) (suc (suc m)) t b h le = refl
past Equals (d ∷ []) (c ∷ rest) zero t b h le = absurd (omega arith)
past Equals (d ∷ []) (c ∷ rest) (suc zero) t b h le = absurd (omega arith)
past Equals (d ∷ []) (c ∷ rest) (suc (suc m)) t b h le = refl
past Equals (d ∷ e ∷ bs) (c ∷ rest) m t b h le = cc
past (Single s) [] (c ∷ rest) zero t b h le = absurd (omega arith)
past (Single s) [] (c ∷ rest) (suc m) t b h le = refl
past (Single s) (d ∷ bs) (c ∷ rest) m t b h le = cc
past Other bs (c ∷ rest) m t b h le = cc

piece_longest : (b : ℕ) (bs rest : List ℕ) → is_rest (begun_class b) bs ≡ true → Breaks (begun_class b) bs rest → IsLongest (b ∷ (bs ++ rest)) (suc (length bs))
piece_longest b bs rest t br = record {
  within = omega (arith, length-append bs rest);
  piece = ap (is_rest (begun_class b)) (take-append_seam bs rest) ∙ t;
  longest = further;
}
  where
    further : (m : ℕ) → suc (length bs) < m → m ≤ length (b ∷ (bs ++ rest)) → is_piece (take m (b ∷ (bs ++ rest))) ≡ false
    further zero h le = absurd (omega arith)
    further (suc m) h le = past (begun_class b) bs rest m t br (omega arith) (omega arith)

pub cut_back : (ps : List Piece) → StandApart ps → Cut (text_of ps) (sizes_of ps) []
cut_back [] h = refl
cut_back (p ∷ ps) h = (
  piece_longest p.first p.others (text_of ps) h.0 h.1,
  subst (λ l. Cut l (sizes_of ps) []) (sym (drop-append_seam p.others (text_of ps))) (cut_back ps h.2),
)

-- the kinds of the tokens, where the pieces stand after others
kinds_as : (k : Option TokenKind) (start end line : ℕ) → map view_kind (token_as k start end line) ≡ kind_as k
kinds_as None start end line = refl
kinds_as (Some k) start end line = refl

first_piece : (before : List ℕ) (p : Piece) (rest : List ℕ) → take (suc (length p.others)) (drop (length before) (before ++ p.first ∷ (p.others ++ rest))) ≡ p.first ∷ p.others
first_piece before p rest =
    ap (take (suc (length p.others))) (drop-append_seam before (p.first ∷ (p.others ++ rest))) ∙ ap (λ l. p.first ∷ l) (take-append_seam p.others rest)

before_more : (before : List ℕ) (p : Piece) (rest : List ℕ) → before ++ p.first ∷ (p.others ++ rest) ≡ (before ++ p.first ∷ p.others) ++ rest
before_more before p rest = sym (append_assoc before (p.first ∷ p.others) rest)

length_more : (before : List ℕ) (p : Piece) → length before + suc (length p.others) ≡ length (before ++ p.first ∷ p.others)
length_more before p = sym (length-append before (p.first ∷ p.others))

kinds_after : (before : List ℕ) (ps : List Piece) → map view_kind (tokens_from (before ++ text_of ps) (length before) (sizes_of ps)) ≡ kinds_of ps
kinds_after before [] = refl
kinds_after before (p ∷ ps) =
    let text : List ℕ = before ++ text_of (p ∷ ps) in
    let here = token_kind (take (suc (length p.others)) (drop (length before) text)) in
    let first : List TokenView = token_as here (length before) (length before + suc (length p.others)) (line_at text (length before)) in
    let more : List TokenView = tokens_from text (length before + suc (length p.others)) (sizes_of ps) in
    let one : map view_kind first ≡ kind_as (token_kind (p.first ∷ p.others)) =
    kinds_as here (length before) (length before + suc (length p.others)) (line_at text (length before)) ∙ ap (λ l. kind_as (token_kind l)) (first_piece before p (text_of ps)) in
    let two : map view_kind more ≡ kinds_of ps =
    ap (λ t. map view_kind (tokens_from t (length before + suc (length p.others)) (sizes_of ps))) (before_more before p (text_of ps))
    ∙ ap (λ n. map view_kind (tokens_from ((before ++ p.first ∷ p.others) ++ text_of ps) n (sizes_of ps))) (length_more before p)
    ∙ kinds_after (before ++ p.first ∷ p.others) ps in
    map-append view_kind first more ∙ ap (λ l. l ++ map view_kind more) one ∙ ap (λ l. kind_as (token_kind (p.first ∷ p.others)) ++ l) two

pub reads_again : ReadsBack
reads_again ps h = (tokens_from (text_of ps) 0 (sizes_of ps), record { sizes = sizes_of ps; pieces = cut_back ps h; tokens_are = refl }, kinds_after [] ps)
