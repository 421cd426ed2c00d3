-- The size that is computed is that of the longest piece.
use Rattle.std.proofs.Common.{ℕ, zero, suc, ◌≡◌, ◌+◌, ◌<◌, ◌≤◌, ◌≢◌, Bool, true, false, List, [], ◌∷◌, length, take, refl, ap, ◌∙◌, sym, subst, arith, cond}
use Rattle.std.specs.Prelude.{◌&&◌, ◌==◌, if◌then◌else◌}
use Rattle.std.specs.List.{list_all, prefix_len}
use Rattle.std.proofs.lemmas.List.Sums.{prefix_len-le-length}
use Rattle.fc_lexer.specs.declared.bytes.Class.{Class}
use Rattle.fc_lexer.specs.declared.bytes.Class.TheVariants.{Space, Digit, Letter, Slash, Dot, Equals, Single, Other}
use Rattle.fc_values.specs.Names.{is_digit, is_name_byte}
use Rattle.fc_lexer.specs.Bytes.{is_space, is_in_line, is_rest, is_piece, begun_class}
use Rattle.fc_lexer.specs.Sizes.{size_as, size_of}
use Rattle.fc_lexer.specs.Lexes.{IsLongest, IsStuck}

one_add : (n : ℕ) → 1 + n ≡ suc n
one_add n = omega arith

pub run_within : (p : ℕ → Bool) (bs : List ℕ) → prefix_len p bs ≤ length bs
run_within p bs = prefix_len-le-length p bs

all_step : (p : ℕ → Bool) (b : ℕ) (bs : List ℕ) (t : Bool) → p b ≡ t → list_all p (take (prefix_len p bs) bs) ≡ true → list_all p (take (prefix_len p (b ∷ bs)) (b ∷ bs)) ≡ true
all_step p b bs true e ih =
    ap (λ t. list_all p (take (cond t (1 + prefix_len p bs) 0) (b ∷ bs))) e
    ∙ ap (λ k. list_all p (take k (b ∷ bs))) (one_add (prefix_len p bs))
    ∙ ap (λ t. t && list_all p (take (prefix_len p bs) bs)) e
    ∙ ih
all_step p b bs false e ih = ap (λ t. list_all p (take (cond t (1 + prefix_len p bs) 0) (b ∷ bs))) e

run_all : (p : ℕ → Bool) (bs : List ℕ) → list_all p (take (prefix_len p bs) bs) ≡ true
run_all p [] = refl
run_all p (b ∷ bs) = all_step p b bs (p b) refl (run_all p bs)

longest_step : (p : ℕ → Bool) (b : ℕ) (bs : List ℕ) (m : ℕ) (t : Bool) → p b ≡ t → prefix_len p (b ∷ bs) < suc m → (prefix_len p bs < m → list_all p (take m bs) ≡ false)
    → list_all p (take (suc m) (b ∷ bs)) ≡ false
longest_step p b bs m true e h ih =
    let shorter : 1 + prefix_len p bs < suc m = subst (λ t. cond t (1 + prefix_len p bs) 0 < suc m) e h in
    ap (λ t. t && list_all p (take m bs)) e ∙ ih (omega arith)
longest_step p b bs m false e h ih = ap (λ t. t && list_all p (take m bs)) e

run_longest : (p : ℕ → Bool) (bs : List ℕ) (m : ℕ) → prefix_len p bs < m → m ≤ length bs → list_all p (take m bs) ≡ false
run_longest p [] m h le = absurd (omega arith)
run_longest p (b ∷ bs) zero h le = absurd (omega arith)
run_longest p (b ∷ bs) (suc m) h le = longest_step p b bs m (p b) refl h (λ k. run_longest p bs m k (omega arith))

-- a piece by what its first byte begins, and the bytes that follow it
record IsSize (class : Class) (bs : List ℕ) (n : ℕ) : Type 0 where
  within : n ≤ length bs + 1
  none : n ≡ 0 → (m : ℕ) → m ≤ length bs → is_rest class (take m bs) ≡ false
  piece : (k : ℕ) → n ≡ suc k → is_rest class (take k bs) ≡ true
  longest : (m : ℕ) → n < suc m → m ≤ length bs → is_rest class (take m bs) ≡ false

of_run : (class : Class) (p : ℕ → Bool) → ((bs : List ℕ) → is_rest class bs ≡ list_all p bs) → (bs : List ℕ) → IsSize class bs (prefix_len p bs + 1)
of_run class p same bs = record {
  within = omega (arith, run_within p bs);
  none = λ z. absurd (omega arith);
  piece = λ k e. let it : k ≡ prefix_len p bs = omega arith in same (take k bs) ∙ ap (λ j. list_all p (take j bs)) it ∙ run_all p bs;
  longest = λ m h le. same (take m bs) ∙ run_longest p bs m (omega arith) le;
}

-- a piece of one byte
alone : (class : Class) → is_rest class [] ≡ true → (bs : List ℕ) (k : ℕ) → 1 ≡ suc k → is_rest class (take k bs) ≡ true
alone class h bs zero e = h
alone class h bs (suc k) e = absurd (omega arith)

-- a piece of one byte and no more
ends_there : (class : Class) → ((c : ℕ) (bs : List ℕ) → is_rest class (c ∷ bs) ≡ false) → (bs : List ℕ) (m : ℕ) → 1 < suc m → m ≤ length bs → is_rest class (take m bs) ≡ false
ends_there class never bs zero h le = absurd (omega arith)
ends_there class never [] (suc m) h le = absurd (omega arith)
ends_there class never (c ∷ bs) (suc m) h le = never c (take m bs)

-- a piece of two bytes and no more: after a first byte that begins this comes one byte at most
ends_after_two : (class : Class) → ((c d : ℕ) (bs : List ℕ) → is_rest class (c ∷ d ∷ bs) ≡ false) → (c : ℕ) (bs : List ℕ) (m : ℕ) → suc (suc m) ≤ length (c ∷ bs) → is_rest class (take (suc (suc m)) (c ∷ bs)) ≡ false
ends_after_two class never c [] m le = absurd (omega arith)
ends_after_two class never c (d ∷ bs) m le = never c d (take m bs)

two_longest : (class : Class) → ((c d : ℕ) (bs : List ℕ) → is_rest class (c ∷ d ∷ bs) ≡ false) → (c : ℕ) (bs : List ℕ) (m : ℕ) → 2 < suc m → m ≤ length (c ∷ bs) → is_rest class (take m (c ∷ bs)) ≡ false
two_longest class never c bs zero h le = absurd (omega arith)
two_longest class never c bs (suc zero) h le = absurd (omega arith)
two_longest class never c bs (suc (suc m)) h le = ends_after_two class never c bs m le

two_piece : (class : Class) (c : ℕ) (bs : List ℕ) → is_rest class (c ∷ []) ≡ true → (k : ℕ) → 2 ≡ suc k → is_rest class (take k (c ∷ bs)) ≡ true
two_piece class c bs t zero e = absurd (omega arith)
two_piece class c bs t (suc zero) e = t
two_piece class c bs t (suc (suc k)) e = absurd (omega arith)

two_is : (class : Class) → ((c d : ℕ) (bs : List ℕ) → is_rest class (c ∷ d ∷ bs) ≡ false) → (c : ℕ) (bs : List ℕ) → is_rest class (c ∷ []) ≡ true → IsSize class (c ∷ bs) 2
two_is class never c bs t = record { within = omega arith; none = λ z. absurd (omega arith); piece = two_piece class c bs t; longest = two_longest class never c bs }

-- an equals sign, and an arrow
equals_more : (c d : ℕ) (bs : List ℕ) → is_rest Equals (c ∷ d ∷ bs) ≡ false
equals_more c d bs = refl

equals_longest : (c : ℕ) (bs : List ℕ) → (c == 62) ≡ false → (m : ℕ) → 1 < suc m → m ≤ length (c ∷ bs) → is_rest Equals (take m (c ∷ bs)) ≡ false
equals_longest c bs t zero h le = absurd (omega arith)
equals_longest c bs t (suc zero) h le = t
equals_longest c bs t (suc (suc m)) h le = ends_after_two Equals equals_more c bs m le

equals_is : (c : ℕ) (bs : List ℕ) (t : Bool) → (c == 62) ≡ t → IsSize Equals (c ∷ bs) (if t then 2 else 1)
equals_is c bs true t = two_is Equals equals_more c bs t
equals_is c bs false t = record { within = omega arith; none = λ z. absurd (omega arith); piece = alone Equals refl (c ∷ bs); longest = equals_longest c bs t }

-- two dots
dots_more : (c d : ℕ) (bs : List ℕ) → is_rest Dot (c ∷ d ∷ bs) ≡ false
dots_more c d bs = refl

dots_none : (c : ℕ) (bs : List ℕ) → (c == 46) ≡ false → (m : ℕ) → m ≤ length (c ∷ bs) → is_rest Dot (take m (c ∷ bs)) ≡ false
dots_none c bs t zero le = refl
dots_none c bs t (suc zero) le = t
dots_none c bs t (suc (suc m)) le = ends_after_two Dot dots_more c bs m le

dots_is : (c : ℕ) (bs : List ℕ) (t : Bool) → (c == 46) ≡ t → IsSize Dot (c ∷ bs) (if t then 2 else 0)
dots_is c bs true t = two_is Dot dots_more c bs t
dots_is c bs false t = record { within = omega arith; none = λ z m le. dots_none c bs t m le; piece = λ k e. absurd (omega arith); longest = λ m h le. dots_none c bs t m le }

-- a comment
comment_piece : (c : ℕ) (bs : List ℕ) → (c == 47) ≡ true → (k : ℕ) → prefix_len is_in_line bs + 2 ≡ suc k → is_rest Slash (take k (c ∷ bs)) ≡ true
comment_piece c bs t zero e = absurd (omega arith)
comment_piece c bs t (suc k) e =
    let it : k ≡ prefix_len is_in_line bs = omega arith in
    ap (λ x. x && list_all is_in_line (take k bs)) t ∙ ap (λ j. list_all is_in_line (take j bs)) it ∙ run_all is_in_line bs

comment_longest : (c : ℕ) (bs : List ℕ) → (c == 47) ≡ true → (m : ℕ) → prefix_len is_in_line bs + 2 < suc m → m ≤ length (c ∷ bs) → is_rest Slash (take m (c ∷ bs)) ≡ false
comment_longest c bs t zero h le = absurd (omega arith)
comment_longest c bs t (suc m) h le = ap (λ x. x && list_all is_in_line (take m bs)) t ∙ run_longest is_in_line bs m (omega arith) (omega arith)

slash_none : (c : ℕ) (bs : List ℕ) → (c == 47) ≡ false → (m : ℕ) → is_rest Slash (take m (c ∷ bs)) ≡ false
slash_none c bs t zero = refl
slash_none c bs t (suc m) = ap (λ x. x && list_all is_in_line (take m bs)) t

slash_is : (c : ℕ) (bs : List ℕ) (t : Bool) → (c == 47) ≡ t → IsSize Slash (c ∷ bs) (if t then prefix_len is_in_line bs + 2 else 0)
slash_is c bs true t = record { within = omega (arith, run_within is_in_line bs); none = λ z. absurd (omega arith); piece = comment_piece c bs t; longest = comment_longest c bs t }
slash_is c bs false t = record { within = omega arith; none = λ z m le. slash_none c bs t m; piece = λ k e. absurd (omega arith); longest = λ m h le. slash_none c bs t m }

-- a first byte that wants another, at the end of a text
nothing : (class : Class) → is_rest class [] ≡ false → (m : ℕ) → m ≤ 0 → is_rest class (take m []) ≡ false
nothing class h zero le = h
nothing class h (suc m) le = absurd (omega arith)

at_end : (class : Class) → is_rest class [] ≡ false → IsSize class [] 0
at_end class h = record { within = omega arith; none = λ z m le. nothing class h m le; piece = λ k e. absurd (omega arith); longest = λ m g le. nothing class h m le }

size_is : (class : Class) (bs : List ℕ) → IsSize class bs (size_as class bs)
size_is Space bs = of_run Space is_space (λ l. refl) bs
size_is Digit bs = of_run Digit is_digit (λ l. refl) bs
size_is Letter bs = of_run Letter is_name_byte (λ l. refl) bs
size_is Slash [] = at_end Slash refl
size_is Slash (c ∷ bs) = slash_is c bs (c == 47) refl
size_is Dot [] = at_end Dot refl
size_is Dot (c ∷ bs) = dots_is c bs (c == 46) refl
size_is Equals [] = record { within = omega arith; none = λ z. absurd (omega arith); piece = alone Equals refl []; longest = λ m h le. absurd (omega arith) }
size_is Equals (c ∷ bs) = equals_is c bs (c == 62) refl
size_is (Single s) bs = record { within = omega arith; none = λ z. absurd (omega arith); piece = alone (Single s) refl bs; longest = ends_there (Single s) (λ c cs. refl) bs }
size_is Other bs = record { within = omega arith; none = λ z m le. refl; piece = λ k e. absurd (omega arith); longest = λ m h le. refl }

-- of a text
longest_of : (b : ℕ) (bs : List ℕ) (n : ℕ) → IsSize (begun_class b) bs (suc n) → IsLongest (b ∷ bs) (suc n)
longest_of b bs n s = record { within = omega (arith, s.within); piece = s.piece n refl; longest = further }
  where
    further : (m : ℕ) → suc n < m → m ≤ length (b ∷ bs) → is_piece (take m (b ∷ bs)) ≡ false
    further zero h le = absurd (omega arith)
    further (suc m) h le = s.longest m h (omega arith)

stuck_of : (b : ℕ) (bs : List ℕ) → IsSize (begun_class b) bs 0 → IsStuck (b ∷ bs)
stuck_of b bs s = (omega arith, never)
  where
    never : (m : ℕ) → m ≤ length (b ∷ bs) → is_piece (take m (b ∷ bs)) ≡ false
    never zero le = refl
    never (suc m) le = s.none refl m (omega arith)

pub longest : (bytes : List ℕ) (n : ℕ) → n ≡ size_of bytes → n ≢ 0 → IsLongest bytes n
longest [] n e h = absurd (h e)
longest (b ∷ bs) zero e h = absurd (h refl)
longest (b ∷ bs) (suc n) e h = longest_of b bs n (subst (IsSize (begun_class b) bs) (sym e) (size_is (begun_class b) bs))

pub stuck : (bytes : List ℕ) (n : ℕ) → n ≡ size_of bytes → n ≡ 0 → 0 < length bytes → IsStuck bytes
stuck [] n e z h = absurd (omega arith)
stuck (b ∷ bs) n e z h = stuck_of b bs (subst (IsSize (begun_class b) bs) (sym e ∙ z) (size_is (begun_class b) bs))
