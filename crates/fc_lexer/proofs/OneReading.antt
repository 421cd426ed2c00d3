-- A text is read in one way.
use Rattle.std.proofs.Common.{ℕ, zero, suc, ◌≡◌, ◌<◌, ◌≤◌, List, [], ◌∷◌, length, drop, refl, ap, ◌∙◌, sym, subst, arith, length-drop, inl, inr}
use Rattle.std.specs.Prelude.{◌⊎◌, sum}
use Rattle.std.proofs.lemmas.List.{drop-drop}
use Rattle.std.proofs.lemmas.List.Sums.{sum_by-cons}
use Rattle.fc_lexer.specs.Sizes.{size_of}
use Rattle.fc_lexer.specs.Kinds.{TokenView}
use Rattle.fc_lexer.specs.Lexes.{IsLongest, IsStuck, Cut, Lexes, IsStuckAt, tokens_from}
use Rattle.fc_lexer.specs.Laws.{OneList, OneStop, NeverBoth, AlwaysOne}
use Rattle.fc_lexer.proofs.Longest.{longest, stuck}

no_two : (bytes : List ℕ) (n m : ℕ) → IsLongest bytes n → IsLongest bytes m → n < m → ⊥
no_two bytes n m a b h = let e = a.longest m h b.within in let f = b.piece in cc

empty_longest : (n : ℕ) → IsLongest [] n → ⊥
empty_longest zero a = let f = a.piece in cc
empty_longest (suc n) a = absurd (omega (arith, a.within))

same_size : (bytes : List ℕ) (n m : ℕ) → IsLongest bytes n → IsLongest bytes m → n ≡ m
same_size bytes n m a b =
    let one : n < m → ⊥ = no_two bytes n m a b in
    let two : m < n → ⊥ = no_two bytes m n b a in
    omega arith

-- a text is cut in one way
pub one_cut : (bytes ns ms : List ℕ) → Cut bytes ns [] → Cut bytes ms [] → ns ≡ ms
one_cut bytes [] [] c d = refl
one_cut bytes [] (m ∷ ms) c d = absurd (empty_longest m (subst (λ l. IsLongest l m) c d.0))
one_cut bytes (n ∷ ns) [] c d = absurd (empty_longest n (subst (λ l. IsLongest l n) d c.0))
one_cut bytes (n ∷ ns) (m ∷ ms) c d =
    let e : n ≡ m = same_size bytes n m c.0 d.0 in
    let f : ns ≡ ms = one_cut (drop n bytes) ns ms c.1 (subst (λ k. Cut (drop k bytes) ms []) (sym e) d.1) in
    cc

pub one_list : OneList
one_list text ts us a b = a.tokens_are ∙ ap (tokens_from text 0) (one_cut text a.sizes b.sizes a.pieces b.pieces) ∙ sym b.tokens_are

-- where nothing begins there is no longest piece
never_longest : (bytes : List ℕ) (n : ℕ) → IsStuck bytes → IsLongest bytes n → ⊥
never_longest bytes n s a = let e = s.1 n a.within in let f = a.piece in cc

-- reading stops where no piece begins, and at the end
one_stop_cut : (bytes ns ms xs ys : List ℕ) → Cut bytes ns xs → Cut bytes ms ys → IsStuck xs → IsStuck ys → ns ≡ ms
one_stop_cut bytes [] [] xs ys c d s t = refl
one_stop_cut bytes [] (m ∷ ms) xs ys c d s t = absurd (never_longest xs m s (subst (λ l. IsLongest l m) c d.0))
one_stop_cut bytes (n ∷ ns) [] xs ys c d s t = absurd (never_longest ys n t (subst (λ l. IsLongest l n) d c.0))
one_stop_cut bytes (n ∷ ns) (m ∷ ms) xs ys c d s t =
    let e : n ≡ m = same_size bytes n m c.0 d.0 in
    let f : ns ≡ ms = one_stop_cut (drop n bytes) ns ms xs ys c.1 (subst (λ k. Cut (drop k bytes) ms ys) (sym e) d.1) s t in
    cc

pub one_stop : OneStop
one_stop text i j a b = sym a.index ∙ ap sum (one_stop_cut text a.sizes b.sizes (drop i text) (drop j text) a.pieces b.pieces a.stuck b.stuck) ∙ b.index

never_both_cut : (bytes ns ms xs : List ℕ) → Cut bytes ns xs → IsStuck xs → Cut bytes ms [] → ⊥
never_both_cut bytes [] [] xs c s d = let e : xs ≡ [] = sym c ∙ d in let h : 0 < length xs = s.0 in absurd (omega (arith, ap length e))
never_both_cut bytes [] (m ∷ ms) xs c s d = never_longest xs m s (subst (λ l. IsLongest l m) c d.0)
never_both_cut bytes (n ∷ ns) [] xs c s d = empty_longest n (subst (λ l. IsLongest l n) d c.0)
never_both_cut bytes (n ∷ ns) (m ∷ ms) xs c s d =
    let e : n ≡ m = same_size bytes n m c.0 d.0 in
    never_both_cut (drop n bytes) ns ms xs c.1 s (subst (λ k. Cut (drop k bytes) ms []) (sym e) d.1)

pub never_both : NeverBoth
never_both text i ts a b = never_both_cut text a.sizes b.sizes (drop i text) a.pieces a.stuck b.pieces

-- pieces up to the end, or up to a byte at which nothing begins
abbrev IsRead : List ℕ → Type 0
IsRead bytes = ((sizes : List ℕ) × Cut bytes sizes []) ⊎ ((sizes : List ℕ) × Cut bytes sizes (drop (sum sizes) bytes) × IsStuck (drop (sum sizes) bytes))

read_more : (bytes : List ℕ) (n : ℕ) → IsLongest bytes n → IsRead (drop n bytes) → IsRead bytes
read_more bytes n l (inl a) = inl (n ∷ a.0, (l, a.1))
read_more bytes n l (inr a) =
    let e : drop (sum a.0) (drop n bytes) ≡ drop (sum (n ∷ a.0)) bytes = drop-drop (sum a.0) n bytes ∙ ap (λ k. drop k bytes) (sym (sum_by-cons (λ x. x) n a.0)) in
    inr (n ∷ a.0, (l, subst (Cut (drop n bytes) a.0) e a.1), subst IsStuck e a.2)

shorter : (bytes : List ℕ) (n k : ℕ) → length bytes ≤ suc k → length (drop (suc n) bytes) ≤ k
shorter bytes n k h = omega (arith, length-drop (suc n) bytes)

read_step : (bytes : List ℕ) (k n : ℕ) → n ≡ size_of bytes → 0 < length bytes → length bytes ≤ suc k → ((rest : List ℕ) → length rest ≤ k → IsRead rest) → IsRead bytes
read_step bytes k zero e h le ih = inr ([], refl, stuck bytes zero e refl h)
read_step bytes k (suc n) e h le ih = read_more bytes (suc n) (longest bytes (suc n) e (λ z. absurd (omega arith))) (ih (drop (suc n) bytes) (shorter bytes n k le))

read_some : (k : ℕ) (bytes : List ℕ) → length bytes ≤ k → IsRead bytes
read_some k [] h = inl ([], refl)
read_some zero (b ∷ bs) h = absurd (omega arith)
read_some (suc k) (b ∷ bs) h = read_step (b ∷ bs) k (size_of (b ∷ bs)) refl (omega arith) h (λ rest le. read_some k rest le)

answer_of : (text : List ℕ) → IsRead text → ((ts : List TokenView) × Lexes text ts) ⊎ ((i : ℕ) × IsStuckAt text i)
answer_of text (inl a) = inl (tokens_from text 0 a.0, record { sizes = a.0; pieces = a.1; tokens_are = refl })
answer_of text (inr a) = inr (sum a.0, record { sizes = a.0; index = refl; pieces = a.1; stuck = a.2 })

pub always_one : AlwaysOne
always_one text = answer_of text (read_some (length text) text (omega arith))
