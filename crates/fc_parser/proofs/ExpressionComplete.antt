-- The expressions of the grammar are read.
use Rattle.std.proofs.Common.{ℕ, zero, suc, ◌≡◌, ◌-◌, ◌≤◌, ◌<◌, ◌==◌, nat_le, Bool, true, false, List, [], ◌∷◌, ◌++◌, length, refl, ap, ◌∙◌, sym, subst, append_assoc, length-append, arith, Option, Some, None, ◌⊎◌, inl, inr}
use Rattle.std.specs.Prelude.{if◌then◌else◌}
use Rattle.std.proofs.lemmas.Bool.Decides.{nat_tests}
use Rattle.fc_values.specs.declared.builtins.Builtin.{Builtin}
use Rattle.fc_values.specs.declared.builtins.Builtin.TheVariants as op
use Rattle.fc_lexer.specs.declared.tokens.Mark.{Mark}
use Rattle.fc_lexer.specs.declared.tokens.Mark.TheVariants as mark
use Rattle.fc_values.specs.declared.names.Word.{Word}
use Rattle.fc_values.specs.declared.names.Word.TheVariants as word
use Rattle.fc_lexer.specs.Kinds.{TokenKind, NumberOf, WordOf, NameOf, MarkOf}
use Rattle.fc_syntax.specs.Terms.{SourceTerm, IntTerm, VarTerm, SenseTerm, ApplyTerm, NbrTerm, ShareTerm, IfTerm, LetTerm, CallTerm, SourceTerms, NoTerms, MoreTerms}
use Rattle.fc_syntax.specs.Text.{builtin_strength, left_asks}
use Rattle.fc_values.specs.BuiltinTypes.{arity}
use Rattle.fc_syntax.specs.Printable.{count, IsOfLanguage, IsNumber}
use Rattle.fc_parser.specs.Grammar.{operator, named, one, two, Expression, binding, operation, Operation, between, negation, stronger, atom, Atom, number, yes, no, uid, nbr_link, variable, sense, call, builtin, nbr, rep, share, choice, bracket, pair, Arguments, none, some, MoreArguments, no_more, more}
use Rattle.fc_parser.specs.Reading.{Read, Got, Not, ◌>>=◌, Reader}
use Rattle.fc_parser.specs.Expressions.{if_got, place_of, mark_read, let_read, in_read, name_read, of_strength, operator_read, binder_read, enclosed_with, more_with, arguments_with, named_with, has_builtin, applied, builtin_with, fold_term, fold_with, choice_with, bracketed_with, word_with, atom_with, count_nots, after_nots, negated, unary_with, chain_with, turns, level_with, operations_left, operations_with, binding_with, expression_with, expression_at, IsBelow, StopsKind, StopsBelow, Stops}
use Rattle.fc_parser.proofs.ExpressionSound.{got, equal_of}

-- what follows doesn't begin with `(`
pub no_open : (n : ℕ) (r : List TokenKind) → StopsBelow n r → mark_read mark.OpenRound r ≡ Not
unfolding mark_read
no_open n [] h = refl
no_open n (MarkOf mark.OpenRound ∷ r) h = absurd h
no_open n (k ∷ r) h = refl

-- of the first kind, where it isn't `(`
below_of : (n : ℕ) (k : TokenKind) → StopsKind n k → IsBelow n (operator k)
below_of n (MarkOf mark.OpenRound) h = absurd h
below_of n k h = h

-- an operator that is stopped at
weaker : (n : ℕ) (v : Option Builtin) (ts : List TokenKind) → IsBelow n v → of_strength n v ts ≡ Not
weaker n None ts h = refl
weaker n (Some o) ts h =
    let unlike : (builtin_strength o == n) ≡ false = grind (arith, nat_tests) in
    ap (λ t. if t then Got o ts else Not) unlike

no_operator : (n : ℕ) (r : List TokenKind) → StopsBelow n r → operator_read n r ≡ Not
unfolding operator_read
no_operator n [] h = refl
no_operator n (k ∷ r) h = weaker n (operator k) r (below_of n k h)

below_more : (m n : ℕ) (v : Option Builtin) → m ≤ n → IsBelow m v → IsBelow n v
below_more m n None le h = tt
below_more m n (Some o) le h = omega arith

kind_more : (m n : ℕ) (k : TokenKind) → m ≤ n → StopsKind m k → StopsKind n k
kind_more m n (MarkOf mark.OpenRound) le h = h
kind_more m n k le h = below_more m n (operator k) le h

-- what stops at a strength stops at a greater one
stops_more : (m n : ℕ) (r : List TokenKind) → m ≤ n → StopsBelow m r → StopsBelow n r
stops_more m n [] le h = tt
stops_more m n (k ∷ r) le h = kind_more m n k le h

-- no operator is as strong as `not`
operator_strength : (k : TokenKind) (o : Builtin) → operator k ≡ Some o → builtin_strength o ≤ 5
operator_strength (WordOf word.Or) o e = let s : op.Or ≡ o = cc in subst (λ v. builtin_strength v ≤ 5) s (omega arith)
operator_strength (WordOf word.And) o e = let s : op.And ≡ o = cc in subst (λ v. builtin_strength v ≤ 5) s (omega arith)
operator_strength (MarkOf mark.Less) o e = let s : op.Less ≡ o = cc in subst (λ v. builtin_strength v ≤ 5) s (omega arith)
operator_strength (MarkOf mark.Is) o e = let s : op.Equal ≡ o = cc in subst (λ v. builtin_strength v ≤ 5) s (omega arith)
operator_strength (MarkOf mark.Plus) o e = let s : op.Add ≡ o = cc in subst (λ v. builtin_strength v ≤ 5) s (omega arith)
operator_strength (MarkOf mark.Minus) o e = let s : op.Sub ≡ o = cc in subst (λ v. builtin_strength v ≤ 5) s (omega arith)
operator_strength (MarkOf mark.Star) o e = let s : op.Mul ≡ o = cc in subst (λ v. builtin_strength v ≤ 5) s (omega arith)
operator_strength k o e = absurd (cc)

none_strong : (n : ℕ) (k : TokenKind) (v : Option Builtin) (ts : List TokenKind) → 6 ≤ n → operator k ≡ v → of_strength n v ts ≡ Not
none_strong n k None ts le e = refl
none_strong n k (Some o) ts le e =
    let weak = operator_strength k o e in
    let unlike : (builtin_strength o == n) ≡ false = grind (arith, nat_tests) in
    ap (λ t. if t then Got o ts else Not) unlike

no_strong : (n : ℕ) (r : List TokenKind) → 6 ≤ n → operator_read n r ≡ Not
unfolding operator_read
no_strong n [] le = refl
no_strong n (k ∷ r) le = none_strong n k (operator k) r le refl

-- an operator of its strength is found
same_test : (n : ℕ) → (n == n) ≡ true
same_test n = grind (arith, nat_tests)

found : (n : ℕ) (k : TokenKind) (o : Builtin) (ts : List TokenKind) → operator k ≡ Some o → builtin_strength o ≡ n → operator_read n (k ∷ ts) ≡ Got o ts
unfolding operator_read
found n k o ts is st =
    ap (λ v. of_strength n v ts) is ∙ ap (λ t. if t then Got o ts else Not) (ap (λ m. m == n) st ∙ same_test n)

-- operators stop there
chain_stops : (n : ℕ) (below : Reader SourceTerm) (k : ℕ) (e : SourceTerm) (r : List TokenKind) → operator_read n r ≡ Not → chain_with n below k e r ≡ Got e r
unfolding chain_with
chain_stops n below zero e r h = refl
chain_stops n below (suc k) e r h = ap (λ v. if_got v (λ o a. below a >>= λ f c. chain_with n below k (ApplyTerm o (two e f)) c) (Got e r)) h

chain_turn : (n : ℕ) (below : Reader SourceTerm) (j : ℕ) (e f : SourceTerm) (o : Builtin) (ts s r : List TokenKind) → operator_read n ts ≡ Got o s → below s ≡ Got f r
    → chain_with n below (suc j) e ts ≡ chain_with n below j (ApplyTerm o (two e f)) r
unfolding chain_with
chain_turn n below j e f o ts s r h g =
    ap (λ v. if_got v (λ p a. below a >>= λ w c. chain_with n below j (ApplyTerm p (two e w)) c) (Got e ts)) h ∙ ap (λ v. v >>= λ w c. chain_with n below j (ApplyTerm o (two e w)) c) g

-- the levels
left_step : (read : Reader SourceTerm) (m n : ℕ) → m ≡ 5 - n → n ≤ 5 → operations_left read (suc (suc m)) ≡ level_with n (operations_left read (suc m))
unfolding operations_left
left_step read m n e le = let is : 5 - m ≡ n = omega arith in ap (λ v. level_with v (operations_left read (suc m))) is

pub level_step : (read : Reader SourceTerm) (n : ℕ) → n ≤ 5 → operations_with read n ≡ level_with n (operations_with read (suc n))
unfolding operations_with
level_step read n le =
    let here : 7 - n ≡ suc (suc (5 - n)) = omega arith in
    let next : suc (5 - n) ≡ 7 - suc n = omega arith in
    ap (operations_left read) here ∙ left_step read (5 - n) n refl le ∙ ap (λ v. level_with n (operations_left read v)) next

pub unary_step : (read : Reader SourceTerm) → operations_with read 6 ≡ unary_with read
unfolding operations_with operations_left
unary_step read = refl

atom_step : (read : Reader SourceTerm) (n : ℕ) → 7 ≤ n → operations_with read n ≡ read
unfolding operations_with operations_left
atom_step read n le = let is : 7 - n ≡ 0 = omega arith in ap (operations_left read) is

-- an operation is read up to here, and then operators of its strength go on
record Continues (read : Reader SourceTerm) (n : ℕ) (ts : List TokenKind) (e : SourceTerm) (r : List TokenKind) : Type 0 where
  fuel : ℕ
  enough : (n ≡ 3) ⊎ (length r ≤ fuel)
  same : operations_with read n (ts ++ r) ≡ chain_with n (operations_with read (suc n)) fuel e r

settled : (read : Reader SourceTerm) (n : ℕ) (ts : List TokenKind) (e : SourceTerm) (r : List TokenKind) → Continues read n ts e r → operator_read n r ≡ Not → operations_with read n (ts ++ r) ≡ Got e r
settled read n ts e r c h = c.same ∙ chain_stops n (operations_with read (suc n)) c.fuel e r h

-- where nothing goes on at this strength
continued : (read : Reader SourceTerm) (n : ℕ) (ts : List TokenKind) (e : SourceTerm) (r : List TokenKind) → 6 ≤ n → operations_with read n (ts ++ r) ≡ Got e r → Continues read n ts e r
continued read n ts e r le h =
    record { fuel = length r; enough = inr (omega arith); same = h ∙ sym (chain_stops n (operations_with read (suc n)) (length r) e r (no_strong n r le)) }

level_enough : (n : ℕ) (t : Bool) (most : ℕ) → (n == 3) ≡ t → (n ≡ 3) ⊎ (most ≤ (if t then 1 else most))
level_enough n true most e = inl (equal_of n 3 e)
level_enough n false most e = inr (omega arith)

level_starts : (read : Reader SourceTerm) (n : ℕ) (all : List TokenKind) (e : SourceTerm) (r : List TokenKind) → n ≤ 5 → operations_with read (suc n) all ≡ Got e r
    → operations_with read n all ≡ chain_with n (operations_with read (suc n)) (turns n (length r)) e r
unfolding level_with
level_starts read n all e r le h =
    ap (λ f. f all) (level_step read n le) ∙ ap (λ v. v >>= λ w a. chain_with n (operations_with read (suc n)) (turns n (length a)) w a) h

-- an atom has no `not` in front
unary_of : (second : Bool) (inner : Reader SourceTerm) (ts : List TokenKind) (e : SourceTerm) (r : List TokenKind) → atom_with second inner ts ≡ Got e r → unary_with (atom_with second inner) ts ≡ Got e r
unfolding unary_with count_nots after_nots atom_with word_with builtin_with
unary_of second inner [] e r h = cc
unary_of second inner (WordOf word.Not ∷ ts) e r h = absurd (cc)
unary_of second inner (k ∷ ts) e r h = ap (λ v. v >>= λ w a. Got (negated 0 w) a) h

stronger_step : (second : Bool) (inner : Reader SourceTerm) (n : ℕ) (ts : List TokenKind) (e : SourceTerm) (r : List TokenKind)
    → operations_with (atom_with second inner) (suc n) (ts ++ r) ≡ Got e r → (n ≤ 5) ⊎ ((n ≡ 6) ⊎ (7 ≤ n)) → Continues (atom_with second inner) n ts e r
stronger_step second inner n ts e r h (inl le) = record {
  fuel = turns n (length r);
  enough = level_enough n (n == 3) (length r) refl;
  same = level_starts (atom_with second inner) n (ts ++ r) e r le h;
}
stronger_step second inner n ts e r h (inr (inl six)) =
    let atom_is : operations_with (atom_with second inner) (suc n) ≡ atom_with second inner = atom_step (atom_with second inner) (suc n) (omega arith) in
    let unary : operations_with (atom_with second inner) n ≡ unary_with (atom_with second inner) = ap (operations_with (atom_with second inner)) six ∙ unary_step (atom_with second inner) in
    continued (atom_with second inner) n ts e r (omega arith) (ap (λ f. f (ts ++ r)) unary ∙ unary_of second inner (ts ++ r) e r (sym (ap (λ f. f (ts ++ r)) atom_is) ∙ h))
stronger_step second inner n ts e r h (inr (inr le)) =
    let here : operations_with (atom_with second inner) n ≡ atom_with second inner = atom_step (atom_with second inner) n le in
    let next : operations_with (atom_with second inner) (suc n) ≡ atom_with second inner = atom_step (atom_with second inner) (suc n) (omega arith) in
    continued (atom_with second inner) n ts e r (omega arith) (ap (λ f. f (ts ++ r)) (here ∙ sym next) ∙ h)

three_ways : (n : ℕ) → (n ≤ 5) ⊎ ((n ≡ 6) ⊎ (7 ≤ n))
three_ways n = grind arith

-- one `not` more
negation_reads : (read : Reader SourceTerm) (ts : List TokenKind) (e : SourceTerm) (r : List TokenKind) → unary_with read ts ≡ Got e r → unary_with read (WordOf word.Not ∷ ts) ≡ Got (ApplyTerm op.Not (one e)) r
unfolding unary_with count_nots after_nots
negation_reads read ts e r h =
    let a = got (read (after_nots ts)) _ e r h in
    let last : Got (negated (count_nots ts) a.value) a.rest ≡ Got e r = a.after in
    let same : negated (count_nots ts) a.value ≡ e = cc in
    let rest : a.rest ≡ r = cc in
    ap (λ v. v >>= λ w s. Got (ApplyTerm op.Not (one (negated (count_nots ts) w))) s) a.first ∙ ap (λ v. Got (ApplyTerm op.Not (one v)) a.rest) same ∙ ap (Got (ApplyTerm op.Not (one e))) rest

negation_step : (read : Reader SourceTerm) (n : ℕ) (ts : List TokenKind) (e : SourceTerm) (r : List TokenKind) → n ≡ 6 → operations_with read n (ts ++ r) ≡ Got e r
    → Continues read n (WordOf word.Not ∷ ts) (ApplyTerm op.Not (one e)) r
negation_step read n ts e r six h =
    let unary : operations_with read n ≡ unary_with read = ap (operations_with read) six ∙ unary_step read in
    continued read n (WordOf word.Not ∷ ts) (ApplyTerm op.Not (one e)) r (omega arith)
    (ap (λ f. f (WordOf word.Not ∷ (ts ++ r))) unary ∙ negation_reads read (ts ++ r) e r (sym (ap (λ f. f (ts ++ r)) unary) ∙ h))

atom_reads : (read : Reader SourceTerm) (n : ℕ) (ts : List TokenKind) (e : SourceTerm) (r : List TokenKind) → n ≡ 7 → read (ts ++ r) ≡ Got e r → Continues read n ts e r
atom_reads read n ts e r seven h = continued read n ts e r (omega arith) (ap (λ f. f (ts ++ r)) (atom_step read n (omega arith)) ∙ h)

-- an operator between two operands
turned : (read : Reader SourceTerm) (n j : ℕ) (k : TokenKind) (o : Builtin) (ts us : List TokenKind) (e f : SourceTerm) (r : List TokenKind) → operator k ≡ Some o → builtin_strength o ≡ n
    → operations_with read n (ts ++ (k ∷ (us ++ r))) ≡ chain_with n (operations_with read (suc n)) (suc j) e (k ∷ (us ++ r)) → operations_with read (suc n) (us ++ r) ≡ Got f r
    → operations_with read n ((ts ++ (k ∷ us)) ++ r) ≡ chain_with n (operations_with read (suc n)) j (ApplyTerm o (two e f)) r
turned read n j k o ts us e f r is st h g =
    ap (operations_with read n) (append_assoc ts (k ∷ us) r) ∙ h ∙ chain_turn n (operations_with read (suc n)) j e f o (k ∷ (us ++ r)) (us ++ r) r (found n k o (us ++ r) is st) g

between_again : (read : Reader SourceTerm) (n : ℕ) (k : TokenKind) (o : Builtin) (ts us : List TokenKind) (e f : SourceTerm) (r : List TokenKind) → operator k ≡ Some o → builtin_strength o ≡ n → (n ≡ 3 → ⊥)
    → Continues read n ts e (k ∷ (us ++ r)) → (fuel : ℕ) → (n ≡ 3) ⊎ (length (k ∷ (us ++ r)) ≤ fuel) → operations_with read n (ts ++ (k ∷ (us ++ r))) ≡ chain_with n (operations_with read (suc n)) fuel e (k ∷ (us ++ r))
    → operations_with read (suc n) (us ++ r) ≡ Got f r → Continues read n (ts ++ (k ∷ us)) (ApplyTerm o (two e f)) r
between_again read n k o ts us e f r is st other c fuel (inl three) h g = absurd (other three)
between_again read n k o ts us e f r is st other c zero (inr le) h g = absurd (omega arith)
between_again read n k o ts us e f r is st other c (suc j) (inr le) h g =
    record { fuel = j; enough = inr (omega (arith, length-append us r)); same = turned read n j k o ts us e f r is st h g }

between_once : (read : Reader SourceTerm) (n : ℕ) (k : TokenKind) (o : Builtin) (ts us : List TokenKind) (e f : SourceTerm) (r : List TokenKind) → operator k ≡ Some o → builtin_strength o ≡ n → (n == 3) ≡ true
    → operations_with read (suc n) (ts ++ (k ∷ (us ++ r))) ≡ Got e (k ∷ (us ++ r)) → operations_with read (suc n) (us ++ r) ≡ Got f r → Continues read n (ts ++ (k ∷ us)) (ApplyTerm o (two e f)) r
between_once read n k o ts us e f r is st three h g =
    let is3 : n ≡ 3 = equal_of n 3 three in
    let le : n ≤ 5 = omega arith in
    let start = level_starts read n (ts ++ (k ∷ (us ++ r))) e (k ∷ (us ++ r)) le h in
    let one_turn = start ∙ ap (λ t. chain_with n (operations_with read (suc n)) (if t then 1 else length (k ∷ (us ++ r))) e (k ∷ (us ++ r))) three in
    record { fuel = 0; enough = inl is3; same = turned read n 0 k o ts us e f r is st one_turn g }

differ : (n : ℕ) → (n == 3) ≡ false → n ≡ 3 → ⊥
differ n e h = grind (arith, nat_tests)

-- the operator itself stops what is stronger
operator_stops : (n : ℕ) (k : TokenKind) (o : Builtin) (ts : List TokenKind) → operator k ≡ Some o → builtin_strength o < n → StopsBelow n (k ∷ ts)
operator_stops n (MarkOf mark.OpenRound) o ts is lt = absurd (cc)
operator_stops n k o ts is lt = subst (IsBelow n) (sym is) lt

between_step : (read : Reader SourceTerm) (n : ℕ) (t : Bool) (k : TokenKind) (o : Builtin) (ts us : List TokenKind) (e f : SourceTerm) (r : List TokenKind) → (n == 3) ≡ t → operator k ≡ Some o → builtin_strength o ≡ n
    → Continues read (if t then 4 else n) ts e (k ∷ (us ++ r)) → operations_with read (suc n) (us ++ r) ≡ Got f r → Continues read n (ts ++ (k ∷ us)) (ApplyTerm o (two e f)) r
between_step read n true k o ts us e f r three is st c g =
    let four : 4 ≡ suc n = ap suc (sym (equal_of n 3 three)) in
    let done : operations_with read 4 (ts ++ (k ∷ (us ++ r))) ≡ Got e (k ∷ (us ++ r)) =
    settled read 4 ts e (k ∷ (us ++ r)) c (no_operator 4 (k ∷ (us ++ r)) (operator_stops 4 k o (us ++ r) is (omega arith))) in
    between_once read n k o ts us e f r is st three (subst (λ v. operations_with read v (ts ++ (k ∷ (us ++ r))) ≡ Got e (k ∷ (us ++ r))) four done) g
between_step read n false k o ts us e f r three is st c g = between_again read n k o ts us e f r is st (differ n three) c c.fuel c.enough c.same g

asks_more : (n : ℕ) (t : Bool) → (n == 3) ≡ t → n ≤ (if t then 4 else n)
asks_more n true e = let is : n ≡ 3 = equal_of n 3 e in omega arith
asks_more n false e = omega arith

-- no expression begins with `)`, and no operation with `let`
no_close : (second : Bool) (n : ℕ) (ts : List TokenKind) (e : SourceTerm) (r : List TokenKind) → expression_at second n ts ≡ Got e r → mark_read mark.CloseRound ts ≡ Not
unfolding expression_at expression_with let_read mark_read operations_with operations_left level_with unary_with after_nots atom_with
no_close second zero ts e r h = absurd (cc)
no_close second (suc n) [] e r h = refl
no_close second (suc n) (MarkOf mark.CloseRound ∷ ts) e r h = absurd (cc)
no_close second (suc n) (k ∷ ts) e r h = refl

no_let : (second : Bool) (inner : Reader SourceTerm) (ts : List TokenKind) (e : SourceTerm) (r : List TokenKind) → operations_with (atom_with second inner) 1 ts ≡ Got e r → let_read ts ≡ Not
unfolding let_read operations_with operations_left level_with unary_with after_nots atom_with word_with builtin_with
no_let second inner [] e r h = refl
no_let second inner (WordOf word.Let ∷ ts) e r h = absurd (cc)
no_let second inner (k ∷ ts) e r h = refl

-- arguments stop at the next comma or at the end
more_stops : (second : Bool) {us : List TokenKind} {es : SourceTerms} → MoreArguments second us es → (r : List TokenKind) → Stops (us ++ (MarkOf mark.CloseRound ∷ r))
more_stops second no_more r = tt
more_stops second (more ts us e es d ds) r = tt

word_builtin : (second : Bool) (inner : Reader SourceTerm) (w : Word) (o : Builtin) (ts : List TokenKind) → named w ≡ Some o → word_with second inner w ts ≡ builtin_with second inner (Some o) ts
unfolding word_with
word_builtin second inner word.True o ts e = absurd (cc)
word_builtin second inner word.False o ts e = absurd (cc)
word_builtin second inner word.Uid o ts e = absurd (cc)
word_builtin second inner word.NbrLink o ts e = absurd (cc)
word_builtin second inner word.Sense o ts e = absurd (cc)
word_builtin second inner word.Nbr o ts e = absurd (cc)
word_builtin second inner word.Rep o ts e = absurd (cc)
word_builtin second inner word.Share o ts e = absurd (cc)
word_builtin second inner word.If o ts e = absurd (cc)
word_builtin second inner w o ts e = ap (λ v. builtin_with second inner v ts) e

has_it : (second : Bool) (o : Builtin) → IsOfLanguage second o → has_builtin second o ≡ true
has_it second op.Rise h = h
has_it second o h = refl

fits_number : (n : ℕ) → n ≤ 1000000 → nat_le n 1000000 ≡ true
fits_number n h = grind (arith, nat_tests)

-- one part is read, and then what follows
part : {A B : Type 0} (read : Reader A) (f : A → List TokenKind → Read B) (ts us r : List TokenKind) (a : A) → read (ts ++ (us ++ r)) ≡ Got a (us ++ r) → (read ((ts ++ us) ++ r) >>= f) ≡ f a (us ++ r)
part read f ts us r a e = ap (λ l. read l >>= f) (append_assoc ts us r) ∙ ap (λ v. v >>= f) e

mark_found : (m : Mark) (ts : List TokenKind) → mark_read m (MarkOf m ∷ ts) ≡ Got tt ts
unfolding mark_read
mark_found m ts = ap (λ t. if t then Got tt ts else Not) (same_test (place_of m))

-- an expression between two marks, and more after them
enclosed_reads : (opening closing : Mark) (inner : Reader SourceTerm) (ts tail : List TokenKind) (e : SourceTerm) (r : List TokenKind)
    → inner (ts ++ (MarkOf closing ∷ (tail ++ r))) ≡ Got e (MarkOf closing ∷ (tail ++ r)) → enclosed_with opening closing inner ((MarkOf opening ∷ (ts ++ (MarkOf closing ∷ tail))) ++ r) ≡ Got e (tail ++ r)
unfolding enclosed_with
enclosed_reads opening closing inner ts tail e r h =
    ap (λ v. v >>= λ _ a. inner a >>= λ w b. mark_read closing b >>= λ _ c. Got w c) (mark_found opening ((ts ++ (MarkOf closing ∷ tail)) ++ r))
    ∙ part inner (λ w b. mark_read closing b >>= λ _ c. Got w c) ts (MarkOf closing ∷ tail) r e h
    ∙ ap (λ v. v >>= λ _ c. Got e c) (mark_found closing (tail ++ r))

fold_reads : (shared : Bool) (inner : Reader SourceTerm) (x : List ℕ) (ts us : List TokenKind) (e f : SourceTerm) (r : List TokenKind) (after : List TokenKind)
    → after ≡ MarkOf mark.OpenCurly ∷ MarkOf mark.OpenRound ∷ NameOf x ∷ MarkOf mark.CloseRound ∷ MarkOf mark.Arrow ∷ (us ++ (MarkOf mark.CloseCurly ∷ []))
    → inner (ts ++ (MarkOf mark.CloseRound ∷ (after ++ r))) ≡ Got e (MarkOf mark.CloseRound ∷ (after ++ r)) → inner (us ++ (MarkOf mark.CloseCurly ∷ r)) ≡ Got f (MarkOf mark.CloseCurly ∷ r)
    → fold_with shared inner ((MarkOf mark.OpenRound ∷ (ts ++ (MarkOf mark.CloseRound ∷ after))) ++ r) ≡ Got (fold_term shared e x f) r
unfolding fold_with binder_read mark_read name_read
fold_reads shared inner x ts us e f r after is h g =
    ap (λ v. v >>= λ w a. binder_read a >>= λ y b. inner b >>= λ z c. mark_read mark.CloseCurly c >>= λ _ d. Got (fold_term shared w y z) d) (enclosed_reads mark.OpenRound mark.CloseRound inner ts after e r h)
    ∙ ap (λ l. binder_read (l ++ r) >>= λ y b. inner b >>= λ z c. mark_read mark.CloseCurly c >>= λ _ d. Got (fold_term shared e y z) d) is
    ∙ part inner (λ z c. mark_read mark.CloseCurly c >>= λ _ d. Got (fold_term shared e x z) d) us (MarkOf mark.CloseCurly ∷ []) r f g

choice_reads : (inner : Reader SourceTerm) (ts us vs : List TokenKind) (c e f : SourceTerm) (r : List TokenKind) (second third : List TokenKind)
    → second ≡ MarkOf mark.OpenCurly ∷ (us ++ (MarkOf mark.CloseCurly ∷ third)) → third ≡ MarkOf mark.OpenCurly ∷ (vs ++ (MarkOf mark.CloseCurly ∷ []))
    → inner (ts ++ (MarkOf mark.CloseRound ∷ (second ++ r))) ≡ Got c (MarkOf mark.CloseRound ∷ (second ++ r)) → inner (us ++ (MarkOf mark.CloseCurly ∷ (third ++ r))) ≡ Got e (MarkOf mark.CloseCurly ∷ (third ++ r))
    → inner (vs ++ (MarkOf mark.CloseCurly ∷ r)) ≡ Got f (MarkOf mark.CloseCurly ∷ r) → choice_with inner ((MarkOf mark.OpenRound ∷ (ts ++ (MarkOf mark.CloseRound ∷ second))) ++ r) ≡ Got (IfTerm c e f) r
unfolding choice_with
choice_reads inner ts us vs c e f r second third is2 is3 h1 h2 h3 =
    ap (λ v. v >>= λ p a. enclosed_with mark.OpenCurly mark.CloseCurly inner a >>= λ q d. enclosed_with mark.OpenCurly mark.CloseCurly inner d >>= λ w s. Got (IfTerm p q w) s)
    (enclosed_reads mark.OpenRound mark.CloseRound inner ts second c r h1)
    ∙ ap (λ l. enclosed_with mark.OpenCurly mark.CloseCurly inner (l ++ r) >>= λ q d. enclosed_with mark.OpenCurly mark.CloseCurly inner d >>= λ w s. Got (IfTerm c q w) s) is2
    ∙ ap (λ v. v >>= λ q d. enclosed_with mark.OpenCurly mark.CloseCurly inner d >>= λ w s. Got (IfTerm c q w) s) (enclosed_reads mark.OpenCurly mark.CloseCurly inner us third e r h2)
    ∙ ap (λ l. enclosed_with mark.OpenCurly mark.CloseCurly inner (l ++ r) >>= λ w s. Got (IfTerm c e w) s) is3
    ∙ ap (λ v. v >>= λ w s. Got (IfTerm c e w) s) (enclosed_reads mark.OpenCurly mark.CloseCurly inner vs [] f r h3)

nbr_reads : (inner : Reader SourceTerm) (ts : List TokenKind) (e : SourceTerm) (r : List TokenKind) → inner (ts ++ (MarkOf mark.CloseCurly ∷ r)) ≡ Got e (MarkOf mark.CloseCurly ∷ r)
    → (enclosed_with mark.OpenCurly mark.CloseCurly inner ((MarkOf mark.OpenCurly ∷ (ts ++ (MarkOf mark.CloseCurly ∷ []))) ++ r) >>= λ w a. Got (NbrTerm w) a) ≡ Got (NbrTerm e) r
nbr_reads inner ts e r h = ap (λ v. v >>= λ w a. Got (NbrTerm w) a) (enclosed_reads mark.OpenCurly mark.CloseCurly inner ts [] e r h)

bracket_reads : (inner : Reader SourceTerm) (ts : List TokenKind) (e : SourceTerm) (r : List TokenKind) → inner (ts ++ (MarkOf mark.CloseRound ∷ r)) ≡ Got e (MarkOf mark.CloseRound ∷ r)
    → bracketed_with inner ((ts ++ (MarkOf mark.CloseRound ∷ [])) ++ r) ≡ Got e r
unfolding bracketed_with mark_read
bracket_reads inner ts e r h =
    part inner
    (λ w a. if_got (mark_read mark.Comma a) (λ _ c. inner c >>= λ f d. mark_read mark.CloseRound d >>= λ _ s. Got (ApplyTerm op.Pair (two w f)) s) (mark_read mark.CloseRound a >>= λ _ s. Got w s))
    ts (MarkOf mark.CloseRound ∷ []) r e h

pair_reads : (inner : Reader SourceTerm) (ts us : List TokenKind) (e f : SourceTerm) (r : List TokenKind)
    → inner (ts ++ (MarkOf mark.Comma ∷ ((us ++ (MarkOf mark.CloseRound ∷ [])) ++ r))) ≡ Got e (MarkOf mark.Comma ∷ ((us ++ (MarkOf mark.CloseRound ∷ [])) ++ r))
    → inner (us ++ (MarkOf mark.CloseRound ∷ r)) ≡ Got f (MarkOf mark.CloseRound ∷ r)
    → bracketed_with inner ((ts ++ (MarkOf mark.Comma ∷ (us ++ (MarkOf mark.CloseRound ∷ [])))) ++ r) ≡ Got (ApplyTerm op.Pair (two e f)) r
unfolding bracketed_with mark_read
pair_reads inner ts us e f r h g =
    part inner
    (λ w a. if_got (mark_read mark.Comma a) (λ _ c. inner c >>= λ z d. mark_read mark.CloseRound d >>= λ _ s. Got (ApplyTerm op.Pair (two w z)) s) (mark_read mark.CloseRound a >>= λ _ s. Got w s))
    ts (MarkOf mark.Comma ∷ (us ++ (MarkOf mark.CloseRound ∷ []))) r e h
    ∙ part inner (λ z d. mark_read mark.CloseRound d >>= λ _ s. Got (ApplyTerm op.Pair (two e z)) s) us (MarkOf mark.CloseRound ∷ []) r f g

call_reads : (inner : Reader SourceTerm) (x : List ℕ) (ts : List TokenKind) (es : SourceTerms) (r : List TokenKind) → arguments_with inner (ts ++ (MarkOf mark.CloseRound ∷ r)) ≡ Got es r
    → named_with inner x (MarkOf mark.OpenRound ∷ ((ts ++ (MarkOf mark.CloseRound ∷ [])) ++ r)) ≡ Got (CallTerm x es) r
unfolding named_with mark_read
call_reads inner x ts es r h =
    ap (λ l. arguments_with inner l >>= λ ws b. Got (CallTerm x ws) b) (append_assoc ts (MarkOf mark.CloseRound ∷ []) r) ∙ ap (λ v. v >>= λ ws b. Got (CallTerm x ws) b) h

builtin_reads : (second : Bool) (inner : Reader SourceTerm) (o : Builtin) (ts : List TokenKind) (es : SourceTerms) (r : List TokenKind) → IsOfLanguage second o → count es ≡ arity o
    → arguments_with inner (ts ++ (MarkOf mark.CloseRound ∷ r)) ≡ Got es r → builtin_with second inner (Some o) (MarkOf mark.OpenRound ∷ ((ts ++ (MarkOf mark.CloseRound ∷ [])) ++ r)) ≡ Got (ApplyTerm o es) r
unfolding builtin_with mark_read
builtin_reads second inner o ts es r l n h =
    ap (λ t. if t then (arguments_with inner ((ts ++ (MarkOf mark.CloseRound ∷ [])) ++ r) >>= applied o) else Not) (has_it second o l)
    ∙ ap (λ s. arguments_with inner s >>= applied o) (append_assoc ts (MarkOf mark.CloseRound ∷ []) r)
    ∙ ap (λ v. v >>= applied o) h
    ∙ ap (λ t. if t then Got (ApplyTerm o es) r else Not) (ap (λ m. m == arity o) n ∙ same_test (arity o))

variable_reads : (inner : Reader SourceTerm) (x : List ℕ) (r : List TokenKind) → mark_read mark.OpenRound r ≡ Not → named_with inner x r ≡ Got (VarTerm x) r
unfolding named_with
variable_reads inner x r h = ap (λ v. if_got v (λ _ a. arguments_with inner a >>= λ es b. Got (CallTerm x es) b) (Got (VarTerm x) r)) h

number_reads : (second : Bool) (inner : Reader SourceTerm) (n : ℕ) (r : List TokenKind) → IsNumber n → atom_with second inner (NumberOf n ∷ r) ≡ Got (IntTerm n) r
unfolding atom_with
number_reads second inner n r h = ap (λ t. if t then Got (IntTerm n) r else Not) (fits_number n h)

share_reads : (second : Bool) (x : Read SourceTerm) (e : SourceTerm) (r : List TokenKind) → second ≡ true → x ≡ Got e r → (if second then x else Not) ≡ Got e r
share_reads second x e r is h = ap (λ t. if t then x else Not) is ∙ h

-- arguments, where the first is there
some_read : (second : Bool) (n : ℕ) (ts us : List TokenKind) (e : SourceTerm) (es : SourceTerms) (r : List TokenKind) → expression_at second n (ts ++ (us ++ (MarkOf mark.CloseRound ∷ r))) ≡ Got e (us ++ (MarkOf mark.CloseRound ∷ r))
    → more_with (expression_at second n) (length (us ++ (MarkOf mark.CloseRound ∷ r))) (us ++ (MarkOf mark.CloseRound ∷ r)) ≡ Got es (MarkOf mark.CloseRound ∷ r)
    → arguments_with (expression_at second n) ((ts ++ us) ++ (MarkOf mark.CloseRound ∷ r)) ≡ Got (MoreTerms e es) r
unfolding arguments_with
some_read second n ts us e es r h g =
    ap (arguments_with (expression_at second n)) (append_assoc ts us (MarkOf mark.CloseRound ∷ r))
    ∙ ap (λ v. if_got v (λ _ a. Got NoTerms a)
    (expression_at second n (ts ++ (us ++ (MarkOf mark.CloseRound ∷ r))) >>= λ w a. more_with (expression_at second n) (length a) a >>= λ ws b. mark_read mark.CloseRound b >>= λ _ c. Got (MoreTerms w ws) c))
    (no_close second n (ts ++ (us ++ (MarkOf mark.CloseRound ∷ r))) e (us ++ (MarkOf mark.CloseRound ∷ r)) h)
    ∙ ap (λ v. v >>= λ w a. more_with (expression_at second n) (length a) a >>= λ ws b. mark_read mark.CloseRound b >>= λ _ c. Got (MoreTerms w ws) c) h
    ∙ ap (λ v. v >>= λ ws b. mark_read mark.CloseRound b >>= λ _ c. Got (MoreTerms e ws) c) g
    ∙ ap (λ v. v >>= λ _ c. Got (MoreTerms e es) c) (mark_found mark.CloseRound r)

none_read : (inner : Reader SourceTerm) (r : List TokenKind) → arguments_with inner (MarkOf mark.CloseRound ∷ r) ≡ Got NoTerms r
unfolding arguments_with mark_read
none_read inner r = refl

no_more_read : (inner : Reader SourceTerm) (k : ℕ) (r : List TokenKind) → more_with inner k (MarkOf mark.CloseRound ∷ r) ≡ Got NoTerms (MarkOf mark.CloseRound ∷ r)
unfolding more_with mark_read
no_more_read inner zero r = refl
no_more_read inner (suc k) r = refl

more_read : (inner : Reader SourceTerm) (k : ℕ) (ts us : List TokenKind) (e : SourceTerm) (es : SourceTerms) (r : List TokenKind) → inner (ts ++ (us ++ r)) ≡ Got e (us ++ r) → more_with inner k (us ++ r) ≡ Got es r
    → more_with inner (suc k) (MarkOf mark.Comma ∷ ((ts ++ us) ++ r)) ≡ Got (MoreTerms e es) r
unfolding more_with mark_read
more_read inner k ts us e es r h g = part inner (λ w b. more_with inner k b >>= λ ws c. Got (MoreTerms w ws) c) ts us r e h ∙ ap (λ v. v >>= λ ws c. Got (MoreTerms e ws) c) g

-- `let`, and an operation
binding_reads : (second : Bool) (n : ℕ) (x : List ℕ) (ts us : List TokenKind) (e f : SourceTerm) (r : List TokenKind) → expression_at second n (ts ++ (WordOf word.In ∷ (us ++ r))) ≡ Got e (WordOf word.In ∷ (us ++ r))
    → expression_at second n (us ++ r) ≡ Got f r
    → expression_at second (suc n) (WordOf word.Let ∷ NameOf x ∷ MarkOf mark.Is ∷ ((ts ++ (WordOf word.In ∷ us)) ++ r)) ≡ Got (LetTerm x e f) r
unfolding expression_at expression_with let_read binding_with name_read mark_read in_read
binding_reads second n x ts us e f r h g =
    ap (λ v. v >>= λ p c. expression_at second n c >>= λ w s. Got (LetTerm p.0 p.1 w) s) (part (expression_at second n) (λ w c. in_read c >>= λ _ d. Got (x, w) d) ts (WordOf word.In ∷ us) r e h)
    ∙ ap (λ v. v >>= λ w s. Got (LetTerm x e w) s) g

operation_reads : (second : Bool) (n : ℕ) (ts : List TokenKind) (e : SourceTerm) (r : List TokenKind) → operations_with (atom_with second (expression_at second n)) 1 ts ≡ Got e r → expression_at second (suc n) ts ≡ Got e r
unfolding expression_at expression_with
operation_reads second n ts e r h =
    ap (λ v. if_got v (λ _ a. binding_with (expression_at second n) a >>= λ p c. expression_at second n c >>= λ f s. Got (LetTerm p.0 p.1 f) s) (operations_with (atom_with second (expression_at second n)) 1 ts))
    (no_let second (expression_at second n) ts e r h)
    ∙ h

sense_reads : (second : Bool) (inner : Reader SourceTerm) (x : List ℕ) (r : List TokenKind) → atom_with second inner (WordOf word.Sense ∷ NameOf x ∷ r) ≡ Got (SenseTerm x) r
unfolding atom_with word_with name_read
sense_reads second inner x r = refl

mutual
  unfolding atom_with word_with

  pub complete_expression : (second : Bool) {ts : List TokenKind} {e : SourceTerm} → Expression second ts e → (n : ℕ) (r : List TokenKind) → length ts < n → Stops r → expression_at second n (ts ++ r) ≡ Got e r
  complete_expression second (binding x ts us e f d c) zero r le h = absurd (omega arith)
  complete_expression second (binding x ts us e f d c) (suc n) r le h =
      binding_reads second n x ts us e f r (complete_expression second d n (WordOf word.In ∷ (us ++ r)) (omega (arith, length-append ts (WordOf word.In ∷ us))) tt)
      (complete_expression second c n r (omega (arith, length-append ts (WordOf word.In ∷ us))) h)
  complete_expression second (operation ts e d) zero r le h = absurd (omega arith)
  complete_expression second (operation ts e d) (suc n) r le h =
      operation_reads second n (ts ++ r) e r
      (settled (atom_with second (expression_at second n)) 1 ts e r (complete_operation second d n r (omega arith) (stops_more 1 2 r (omega arith) h)) (no_operator 1 r h))

  complete_operation : (second : Bool) {n : ℕ} {ts : List TokenKind} {e : SourceTerm} → Operation second n ts e → (m : ℕ) (r : List TokenKind) → length ts ≤ m → StopsBelow (suc n) r
      → Continues (atom_with second (expression_at second m)) n ts e r
  complete_operation second (between n k o ts us e f is st d c) m r le h =
      between_step (atom_with second (expression_at second m)) n (n == 3) k o ts us e f r refl is st
      (complete_operation second d m (k ∷ (us ++ r)) (omega (arith, length-append ts (k ∷ us))) (operator_stops (suc (left_asks n)) k o (us ++ r) is (omega (arith, asks_more n (n == 3) refl))))
      (settled (atom_with second (expression_at second m)) (suc n) us f r
      (complete_operation second c m r (omega (arith, length-append ts (k ∷ us))) (stops_more (suc n) (suc (suc n)) r (omega arith) h)) (no_operator (suc n) r h))
  complete_operation second (negation n ts e six d) m r le h =
      negation_step (atom_with second (expression_at second m)) n ts e r six
      (settled (atom_with second (expression_at second m)) n ts e r (complete_operation second d m r (omega arith) h) (no_strong n r (omega arith)))
  complete_operation second (stronger n ts e d) m r le h =
      stronger_step second (expression_at second m) n ts e r
      (settled (atom_with second (expression_at second m)) (suc n) ts e r (complete_operation second d m r le (stops_more (suc n) (suc (suc n)) r (omega arith) h)) (no_operator (suc n) r h)) (three_ways n)
  complete_operation second (atom n ts e seven a) m r le h =
      atom_reads (atom_with second (expression_at second m)) n ts e r seven (complete_atom second a m r le (no_open (suc n) r h))

  complete_atom : (second : Bool) {ts : List TokenKind} {e : SourceTerm} → Atom second ts e → (m : ℕ) (r : List TokenKind) → length ts ≤ m → mark_read mark.OpenRound r ≡ Not
      → atom_with second (expression_at second m) (ts ++ r) ≡ Got e r
  complete_atom second (number n h) m r le alone = number_reads second (expression_at second m) n r h
  complete_atom second yes m r le alone = refl
  complete_atom second no m r le alone = refl
  complete_atom second uid m r le alone = refl
  complete_atom second nbr_link m r le alone = refl
  complete_atom second (variable x) m r le alone = variable_reads (expression_at second m) x r alone
  complete_atom second (sense x) m r le alone = sense_reads second (expression_at second m) x r
  complete_atom second (call f ts es a) m r le alone =
      call_reads (expression_at second m) f ts es r (complete_arguments second a m r (omega (arith, length-append ts (MarkOf mark.CloseRound ∷ []))))
  complete_atom second (builtin w o ts es is l n a) m r le alone =
      word_builtin second (expression_at second m) w o (MarkOf mark.OpenRound ∷ ((ts ++ (MarkOf mark.CloseRound ∷ [])) ++ r)) is
      ∙ builtin_reads second (expression_at second m) o ts es r l n (complete_arguments second a m r (omega (arith, length-append ts (MarkOf mark.CloseRound ∷ []))))
  complete_atom second (nbr ts e d) m r le alone =
      nbr_reads (expression_at second m) ts e r (complete_expression second d m (MarkOf mark.CloseCurly ∷ r) (omega (arith, length-append ts (MarkOf mark.CloseCurly ∷ []))) tt)
  complete_atom second (rep x ts us e f d c) m r le alone =
      let after : List TokenKind = MarkOf mark.OpenCurly ∷ MarkOf mark.OpenRound ∷ NameOf x ∷ MarkOf mark.CloseRound ∷ MarkOf mark.Arrow ∷ (us ++ (MarkOf mark.CloseCurly ∷ [])) in
      fold_reads false (expression_at second m) x ts us e f r after refl
      (complete_expression second d m (MarkOf mark.CloseRound ∷ (after ++ r)) (omega (arith, length-append ts (MarkOf mark.CloseRound ∷ after))) tt)
      (complete_expression second c m (MarkOf mark.CloseCurly ∷ r) (omega (arith, length-append ts (MarkOf mark.CloseRound ∷ after), length-append us (MarkOf mark.CloseCurly ∷ []))) tt)
  complete_atom second (share x ts us e f is d c) m r le alone =
      let after : List TokenKind = MarkOf mark.OpenCurly ∷ MarkOf mark.OpenRound ∷ NameOf x ∷ MarkOf mark.CloseRound ∷ MarkOf mark.Arrow ∷ (us ++ (MarkOf mark.CloseCurly ∷ [])) in
      share_reads second (fold_with true (expression_at second m) ((MarkOf mark.OpenRound ∷ (ts ++ (MarkOf mark.CloseRound ∷ after))) ++ r)) (ShareTerm e x f) r is (
      fold_reads true (expression_at second m) x ts us e f r after refl
      (complete_expression second d m (MarkOf mark.CloseRound ∷ (after ++ r)) (omega (arith, length-append ts (MarkOf mark.CloseRound ∷ after))) tt)
      (complete_expression second c m (MarkOf mark.CloseCurly ∷ r) (omega (arith, length-append ts (MarkOf mark.CloseRound ∷ after), length-append us (MarkOf mark.CloseCurly ∷ []))) tt)
      )
  complete_atom second (choice ts us vs c e f p q s) m r le alone =
      let third : List TokenKind = MarkOf mark.OpenCurly ∷ (vs ++ (MarkOf mark.CloseCurly ∷ [])) in
      let then_on : List TokenKind = MarkOf mark.OpenCurly ∷ (us ++ (MarkOf mark.CloseCurly ∷ third)) in
      let size1 = length-append ts (MarkOf mark.CloseRound ∷ then_on) in
      let size2 = length-append us (MarkOf mark.CloseCurly ∷ third) in
      let size3 = length-append vs (MarkOf mark.CloseCurly ∷ []) in
      choice_reads (expression_at second m) ts us vs c e f r then_on third refl refl
      (complete_expression second p m (MarkOf mark.CloseRound ∷ (then_on ++ r)) (omega (arith, size1)) tt)
      (complete_expression second q m (MarkOf mark.CloseCurly ∷ (third ++ r)) (omega (arith, size1, size2)) tt)
      (complete_expression second s m (MarkOf mark.CloseCurly ∷ r) (omega (arith, size1, size2, size3)) tt)
  complete_atom second (bracket ts e d) m r le alone =
      bracket_reads (expression_at second m) ts e r (complete_expression second d m (MarkOf mark.CloseRound ∷ r) (omega (arith, length-append ts (MarkOf mark.CloseRound ∷ []))) tt)
  complete_atom second (pair ts us e f d c) m r le alone =
      let size1 = length-append ts (MarkOf mark.Comma ∷ (us ++ (MarkOf mark.CloseRound ∷ []))) in
      let size2 = length-append us (MarkOf mark.CloseRound ∷ []) in
      pair_reads (expression_at second m) ts us e f r
      (complete_expression second d m (MarkOf mark.Comma ∷ ((us ++ (MarkOf mark.CloseRound ∷ [])) ++ r)) (omega (arith, size1)) tt)
      (complete_expression second c m (MarkOf mark.CloseRound ∷ r) (omega (arith, size1, size2)) tt)

  complete_arguments : (second : Bool) {ts : List TokenKind} {es : SourceTerms} → Arguments second ts es → (m : ℕ) (r : List TokenKind) → length ts < m → arguments_with (expression_at second m) (ts ++ (MarkOf mark.CloseRound ∷ r)) ≡ Got es r
  complete_arguments second none m r le = none_read (expression_at second m) r
  complete_arguments second (some ts us e es d ds) m r le =
      some_read second m ts us e es r (complete_expression second d m (us ++ (MarkOf mark.CloseRound ∷ r)) (omega (arith, length-append ts us)) (more_stops second ds r))
      (complete_more second ds m (length (us ++ (MarkOf mark.CloseRound ∷ r))) r (omega (arith, length-append ts us)) (omega (arith, length-append us (MarkOf mark.CloseRound ∷ r))))

  complete_more : (second : Bool) {us : List TokenKind} {es : SourceTerms} → MoreArguments second us es → (m k : ℕ) (r : List TokenKind) → length us < m → length us ≤ k
      → more_with (expression_at second m) k (us ++ (MarkOf mark.CloseRound ∷ r)) ≡ Got es (MarkOf mark.CloseRound ∷ r)
  complete_more second no_more m k r le fuel = no_more_read (expression_at second m) k r
  complete_more second (more ts us e es d ds) m zero r le fuel = absurd (omega arith)
  complete_more second (more ts us e es d ds) m (suc k) r le fuel =
      more_read (expression_at second m) k ts us e es (MarkOf mark.CloseRound ∷ r)
      (complete_expression second d m (us ++ (MarkOf mark.CloseRound ∷ r)) (omega (arith, length-append ts us)) (more_stops second ds r))
      (complete_more second ds m k r (omega (arith, length-append ts us)) (omega (arith, length-append ts us)))
