-- Steps of reading.
use Rattle.std.proofs.Common.{ℕ, ◌≡◌, ◌≤◌, ◌==◌, nat_le, Bool, true, false, List, [], ◌∷◌, length, refl, ap, ◌∙◌, sym, arith, length-append, if◌then◌else◌, Err}
use Rattle.std.proofs.lemmas.Bool.{eqb-true, leb-true, le-leb}
use Rattle.fc_lexer.specs.declared.tokens.Mark.{Mark}
use Rattle.fc_lexer.specs.declared.tokens.Mark.TheVariants as mark
use Rattle.fc_lexer.specs.Kinds.{TokenKind, NumberOf, WordOf, NameOf, MarkOf}
use Rattle.fc_syntax.specs.Printable.{IsNumber}
use Rattle.fc_parser.specs.Reading.{Read, Got, Not, ◌>>=◌, Fronts}
use Rattle.fc_parser.specs.Expressions.{place_of, mark_read, name_read}
use Rattle.fc_parser.specs.Heads.{number_read, nothing_read, finish_read, Gives}
use Rattle.fc_parser.specs.declared.refused.Refused.{Refused}
use Rattle.fc_parser.specs.declared.refused.Refused.TheVariants as refused

-- what one reading gives, and the one after it
pub got : {A B : Type 0} (x : Read A) (f : A → List TokenKind → Read B) (c : B) (r : List TokenKind) → (x >>= f) ≡ Got c r → (a : A) × (s : List TokenKind) × (x ≡ Got a s) × (f a s ≡ Got c r)
got (Got a s) f c r e = (a, s, refl, e)
got Not f c r e = cc

-- what is the same where two readings are
pub same_value : {A : Type 0} (a b : A) (r s : List TokenKind) → Got a r ≡ Got b s → a ≡ b
same_value a b r s e = cc

pub same_rest : {A : Type 0} (a b : A) (r s : List TokenKind) → Got a r ≡ Got b s → r ≡ s
same_rest a b r s e = cc

-- a part that isn't read
pub passes : {X Y A B : Type 0} (v : X → A) (w : Y → B) (e : Refused) (part : Read A) (whole : Read B) → Gives v (Err e) part → (part ≡ Not → whole ≡ Not) → Gives w (Err e) whole
passes v w refused.Outside part whole g h = h g
passes v w refused.Memory part whole g h = tt

-- readings that go on alike
pub goes_alike : {A B : Type 0} (x : Read A) (f g : A → List TokenKind → Read B) → ((a : A) (s : List TokenKind) → x ≡ Got a s → f a s ≡ g a s) → (x >>= f) ≡ (x >>= g)
goes_alike (Got a s) f g h = h a s refl
goes_alike Not f g h = refl

-- what is read is no longer than what it is read from
pub no_longer : {P : List TokenKind → Type 0} (ts r : List TokenKind) → Fronts P ts r → length r ≤ length ts
no_longer ts r x = omega (arith, ap length x.cut ∙ length-append x.front r)

mark_at : ℕ → Mark
mark_at n =
    if n == 0 then mark.OpenRound else
    if n == 1 then mark.CloseRound else
    if n == 2 then mark.OpenCurly else
    if n == 3 then mark.CloseCurly else
    if n == 4 then mark.Comma else
    if n == 5 then mark.Semi else
    if n == 6 then mark.Colon else
    if n == 7 then mark.Dots else
    if n == 8 then mark.Is else
    if n == 9 then mark.Arrow else
    if n == 10 then mark.Plus else
    if n == 11 then mark.Minus else
    if n == 12 then mark.Star else mark.Less

at_place : (m : Mark) → mark_at (place_of m) ≡ m
unfolding mark_at
at_place mark.OpenRound = refl
at_place mark.CloseRound = refl
at_place mark.OpenCurly = refl
at_place mark.CloseCurly = refl
at_place mark.Comma = refl
at_place mark.Semi = refl
at_place mark.Colon = refl
at_place mark.Dots = refl
at_place mark.Is = refl
at_place mark.Arrow = refl
at_place mark.Plus = refl
at_place mark.Minus = refl
at_place mark.Star = refl
at_place mark.Less = refl

same_mark : (m n : Mark) → place_of m ≡ place_of n → m ≡ n
same_mark m n e = sym (at_place m) ∙ ap mark_at e ∙ at_place n

pub if_read : {A : Type 0} (b : Bool) (a c : A) (r s : List TokenKind) → (if b then Got a r else Not) ≡ Got c s → (b ≡ true) × (a ≡ c) × (r ≡ s)
if_read true a c r s e = (refl, cc, cc)
if_read false a c r s e = cc

pub mark_got : (m : Mark) (ts : List TokenKind) (u : Unit {0}) (r : List TokenKind) → mark_read m ts ≡ Got u r → ts ≡ MarkOf m ∷ r
unfolding mark_read
mark_got m [] u r e = cc
mark_got m (NumberOf n ∷ ts) u r e = cc
mark_got m (WordOf w ∷ ts) u r e = cc
mark_got m (NameOf x ∷ ts) u r e = cc
mark_got m (MarkOf n ∷ ts) u r e =
    let i = if_read (place_of n == place_of m) tt u ts r e in
    let same : n ≡ m = same_mark n m (eqb-true (place_of n) (place_of m) i.0) in
    ap (λ k. MarkOf k ∷ ts) same ∙ ap (λ l. MarkOf m ∷ l) i.2

pub number_got : (ts : List TokenKind) (n : ℕ) (r : List TokenKind) → number_read ts ≡ Got n r → (ts ≡ NumberOf n ∷ r) × IsNumber n
unfolding number_read
number_got [] n r e = cc
number_got (NumberOf m ∷ ts) n r e =
    let i = if_read (nat_le m 1000000) m n ts r e in
    let small : m ≤ 1000000 = leb-true m 1000000 i.0 in
    let same : m ≡ n = i.1 in
    (cc (i.1, i.2), omega (arith, small, same))
number_got (WordOf w ∷ ts) n r e = cc
number_got (NameOf x ∷ ts) n r e = cc
number_got (MarkOf m ∷ ts) n r e = cc

pub name_got : (ts : List TokenKind) (x : List ℕ) (r : List TokenKind) → name_read ts ≡ Got x r → ts ≡ NameOf x ∷ r
unfolding name_read
name_got [] x r e = cc
name_got (NumberOf n ∷ ts) x r e = cc
name_got (WordOf w ∷ ts) x r e = cc
name_got (NameOf y ∷ ts) x r e = cc
name_got (MarkOf m ∷ ts) x r e = cc

nothing_got : (ts : List TokenKind) (u : Unit {0}) (r : List TokenKind) → nothing_read ts ≡ Got u r → (ts ≡ []) × (r ≡ [])
nothing_got [] u r e = (refl, cc)
nothing_got (k ∷ ts) u r e = cc

pub finish_got : (ts : List TokenKind) (u : Unit {0}) (r : List TokenKind) → finish_read ts ≡ Got u r → (ts ≡ MarkOf mark.Semi ∷ []) × (r ≡ [])
unfolding finish_read
finish_got ts u r e =
    let g = got (mark_read mark.Semi ts) _ u r e in
    let n = nothing_got g.1 u r g.3 in
    (mark_got mark.Semi ts g.0 g.1 g.2 ∙ ap (λ l. MarkOf mark.Semi ∷ l) n.0, n.1)

-- what stands there is read
pub number_there : (n : ℕ) (r : List TokenKind) → IsNumber n → number_read (NumberOf n ∷ r) ≡ Got n r
unfolding number_read
number_there n r h = ap (λ b. if b then Got n r else Not) (le-leb n 1000000 h)

pub finish_there : finish_read (MarkOf mark.Semi ∷ []) ≡ Got tt []
unfolding finish_read mark_read
finish_there = refl
