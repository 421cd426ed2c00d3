-- Steps of the loops that read an expression.
use Rattle.std.proofs.Common.{ℕ, zero, suc, ◌≡◌, ◌+◌, ◌-◌, ◌≤◌, ◌<◌, ◌==◌, Bool, true, false, List, [], ◌∷◌, ◌++◌, length, map, refl, ap, ◌∙◌, sym, subst, arith, Some, Result, Err, Box, Global}
use Rattle.std.specs.Prelude.{if◌then◌else◌}
use Rattle.std.proofs.lemmas.Bool.Decides.{nat_tests}
use Rattle.std.proofs.lemmas.List.{map-append}
use Rattle.std.specs.Borrow.{Bor}
use Rattle.fc_values.specs.declared.builtins.Builtin.{Builtin}
use Rattle.fc_values.specs.declared.types.Name.{Name}
use Rattle.fc_lexer.specs.declared.tokens.Mark.TheVariants as mark
use Rattle.fc_values.specs.declared.names.Word.TheVariants as word
use Rattle.fc_lexer.specs.declared.tokens.Token.{Token}
use Rattle.fc_lexer.specs.Kinds.{TokenKind, WordOf}
use Rattle.std.specs.declared.vec.Vec.{Vec}
use Rattle.fc_syntax.specs.declared.tree.Expr.{Expr, fold-roll-Expr}
use Rattle.fc_syntax.specs.declared.tree.Expr.TheOpen.{Expr-F}
use Rattle.fc_syntax.specs.declared.tree.Expr.TheVariants.{rolls-Apply, rolls-Let}
use Rattle.fc_syntax.specs.declared.tree.Expr.TheViews.{Apply, Let}
use Rattle.fc_values.specs.BuiltinTypes.{arity}
use Rattle.fc_syntax.specs.Printable.{count}
use Rattle.fc_syntax.specs.Terms.{SourceTerm, ApplyTerm, LetTerm, SourceTerms, NoTerms, MoreTerms, term_of, term_step, terms}
use Rattle.fc_parser.specs.Grammar.{two}
use Rattle.fc_parser.specs.Reading.{Read, Got, Not, ◌>>=◌, Reader}
use Rattle.fc_parser.specs.Expressions.{kinds_of, if_got, nested, mark_read, let_read, not_read, operator_read, count_nots, after_nots, more_with, arguments_with, has_builtin, applied, builtin_with, atom_with, unary_with, chain_with, turns, level_with, operations_with, binding_with, expression_with, expression_at, GivesExpression, GivesArguments, GivesRest, WritesBinding, WritesExpression}
use Rattle.fc_parser.specs.declared.refused.Refused.{Refused}
use Rattle.fc_parser.specs.declared.refused.Refused.TheVariants as refused
use Rattle.fc_parser.proofs.ExpressionComplete.{level_step, unary_step}

pub kinds_length : (ts : List Token) → length (kinds_of ts) ≡ length ts
kinds_length [] = refl
kinds_length (t ∷ ts) = ap suc (kinds_length ts)

-- one `not` more
pub record OneNot (ts after : List TokenKind) : Type 0 where
  pub many : count_nots ts ≡ suc (count_nots after)
  pub rest : after_nots ts ≡ after_nots after
  pub shorter : length ts ≡ suc (length after)

pub one_not : (ts : List TokenKind) (u : Unit {0}) (after : List TokenKind) → not_read ts ≡ Got u after → OneNot ts after
unfolding not_read count_nots after_nots
one_not [] u after e = cc
one_not (WordOf word.Not ∷ ts) u after e =
    let same : ts ≡ after = cc in
    record { many = ap (λ l. suc (count_nots l)) same; rest = ap after_nots same; shorter = ap (λ l. suc (length l)) same }
one_not (k ∷ ts) u after e = cc

-- no `not` more
pub no_nots : (ts : List TokenKind) → not_read ts ≡ Not → count_nots ts ≡ 0
unfolding not_read count_nots
no_nots [] e = refl
no_nots (WordOf word.Not ∷ ts) e = cc
no_nots (k ∷ ts) e = refl

pub nots_end : (ts : List TokenKind) → not_read ts ≡ Not → after_nots ts ≡ ts
unfolding not_read after_nots
nots_end [] e = refl
nots_end (WordOf word.Not ∷ ts) e = cc
nots_end (k ∷ ts) e = refl

-- one binding more
pub nested-snoc : (ps : List (Name × Expr)) (p : Name × Expr) (f : SourceTerm) → nested (ps ++ (p ∷ [])) f ≡ nested ps (LetTerm p.0.text.items (term_of p.1) f)
nested-snoc [] p f = refl
nested-snoc (q ∷ ps) p f = ap (LetTerm q.0.text.items (term_of q.1)) (nested-snoc ps p f)

pub rebound : (ps qs : List (Name × Expr)) (p : Name × Expr) (f g : SourceTerm) → qs ≡ ps ++ (p ∷ []) → g ≡ LetTerm p.0.text.items (term_of p.1) f → nested ps g ≡ nested qs f
rebound ps qs p f g e is = ap (nested ps) is ∙ sym (nested-snoc ps p f) ∙ ap (λ l. nested l f) (sym e)

-- a body's reading, behind bindings
abbrev pub behind : List (Name × Expr) → Read SourceTerm → Read SourceTerm
behind ps x = x >>= λ f r. Got (nested ps f) r

-- arguments, and those after them
abbrev pub onto : List SourceTerm → SourceTerms → SourceTerms
onto [] es = es
onto (e ∷ xs) es = MoreTerms e (onto xs es)

pub onto-snoc : (xs : List SourceTerm) (e : SourceTerm) (es : SourceTerms) → onto (xs ++ (e ∷ [])) es ≡ onto xs (MoreTerms e es)
onto-snoc [] e es = refl
onto-snoc (x ∷ xs) e es = ap (MoreTerms x) (onto-snoc xs e es)

pub onto-none : (xs : List SourceTerm) → onto xs NoTerms ≡ terms xs
onto-none [] = refl
onto-none (x ∷ xs) = ap (MoreTerms x) (onto-none xs)

pub terms_count : (xs : List Expr) → count (terms (map term_of xs)) ≡ length xs
terms_count [] = refl
terms_count (x ∷ xs) = omega (arith, terms_count xs)

-- a part that isn't read
pub passes : (e : Refused) (p q : Expr) (part whole : Read SourceTerm) → WritesExpression (Err e) p part → (part ≡ Not → whole ≡ Not) → WritesExpression (Err e) q whole
passes refused.Outside p q part whole g h = h g
passes refused.Memory p q part whole g h = tt

pub passes_binding : (e : Refused) (p q : Expr) (part : Read (List ℕ × SourceTerm)) (whole : Read SourceTerm) → WritesBinding (Err e) p part → (part ≡ Not → whole ≡ Not) → WritesExpression (Err e) q whole
passes_binding refused.Outside p q part whole g h = h g
passes_binding refused.Memory p q part whole g h = tt

pub passes_argument : (e : Refused) (p : Expr) (part : Read SourceTerm) (whole : Read SourceTerms) → WritesExpression (Err e) p part → (part ≡ Not → whole ≡ Not) → GivesArguments (Err e) whole
passes_argument refused.Outside p part whole g h = h g
passes_argument refused.Memory p part whole g h = tt

pub passes_whole : (e : Refused) (p : Expr) (part whole : Read SourceTerm) → WritesExpression (Err e) p part → part ≡ whole → GivesExpression (Err e) whole
passes_whole refused.Outside p part whole g h = sym h ∙ g
passes_whole refused.Memory p part whole g h = tt

pub passes_rest : (e : Refused) (part : Read (Unit {0})) (whole : Read SourceTerms) → GivesRest (Err e) part → (part ≡ Not → whole ≡ Not) → GivesArguments (Err e) whole
passes_rest refused.Outside part whole g h = h g.0
passes_rest refused.Memory part whole g h = tt

-- a result of a part that is the whole
pub read_as : (result : Result (Bor (List Token)) Refused) (p : Expr) (part whole : Read SourceTerm) → part ≡ whole → WritesExpression result p part → WritesExpression result p whole
read_as result p part whole e g = subst (WritesExpression result p) e g

-- one expression more
pub pushed : (xs ys : List Expr) (e : Expr) → ys ≡ xs ++ (e ∷ []) → map term_of ys ≡ map term_of xs ++ (term_of e ∷ [])
pushed xs ys e h = ap (map term_of) h ∙ map-append term_of xs (e ∷ [])

pub pushed_first : (xs ys : List Expr) (e : Expr) → xs ≡ [] → ys ≡ xs ++ (e ∷ []) → map term_of ys ≡ term_of e ∷ []
pushed_first xs ys e none h = ap (map term_of) (h ∙ ap (λ l. l ++ (e ∷ [])) none)

-- what is left to read of arguments, after those that are read
abbrev pub arguments_left : Reader SourceTerm → ℕ → List SourceTerm → List TokenKind → Read SourceTerms
arguments_left inner k xs rest = more_with inner k rest >>= λ es c. mark_read mark.CloseRound c >>= λ _ d. Got (onto xs es) d

pub arguments_end : (inner : Reader SourceTerm) (ts : List TokenKind) (u : Unit {0}) (r : List TokenKind) → mark_read mark.CloseRound ts ≡ Got u r → arguments_with inner ts ≡ Got NoTerms r
unfolding arguments_with
arguments_end inner ts u r h =
    ap (λ v. if_got v (λ _ a. Got NoTerms a) (inner ts >>= λ e a. more_with inner (length a) a >>= λ es b. mark_read mark.CloseRound b >>= λ _ c. Got (MoreTerms e es) c)) h

some_are : (inner : Reader SourceTerm) (ts : List TokenKind) → mark_read mark.CloseRound ts ≡ Not
    → arguments_with inner ts ≡ (inner ts >>= λ e a. more_with inner (length a) a >>= λ es b. mark_read mark.CloseRound b >>= λ _ c. Got (MoreTerms e es) c)
unfolding arguments_with
some_are inner ts h =
    ap (λ v. if_got v (λ _ a. Got NoTerms a) (inner ts >>= λ e a. more_with inner (length a) a >>= λ es b. mark_read mark.CloseRound b >>= λ _ c. Got (MoreTerms e es) c)) h

pub arguments_none : (inner : Reader SourceTerm) (ts : List TokenKind) → mark_read mark.CloseRound ts ≡ Not → inner ts ≡ Not → arguments_with inner ts ≡ Not
arguments_none inner ts h g = some_are inner ts h ∙ ap (λ v. v >>= λ e a. more_with inner (length a) a >>= λ es b. mark_read mark.CloseRound b >>= λ _ c. Got (MoreTerms e es) c) g

pub arguments_start : (inner : Reader SourceTerm) (ts : List TokenKind) (e : SourceTerm) (k : ℕ) (xs : List SourceTerm) (r : List TokenKind) → mark_read mark.CloseRound ts ≡ Not → inner ts ≡ Got e r → k ≡ length r → xs ≡ e ∷ []
    → arguments_left inner k xs r ≡ arguments_with inner ts
arguments_start inner ts e k xs r h g is xs_are =
    ap (λ m. arguments_left inner m xs r) is
    ∙ ap (λ l. arguments_left inner (length r) l r) xs_are
    ∙ sym (some_are inner ts h ∙ ap (λ v. v >>= λ w a. more_with inner (length a) a >>= λ es b. mark_read mark.CloseRound b >>= λ _ c. Got (MoreTerms w es) c) g)

more_step : (inner : Reader SourceTerm) (j : ℕ) (rest after : List TokenKind) (u : Unit {0}) → mark_read mark.Comma rest ≡ Got u after
    → more_with inner (suc j) rest ≡ (inner after >>= λ e b. more_with inner j b >>= λ es c. Got (MoreTerms e es) c)
unfolding more_with
more_step inner j rest after u h = ap (λ v. if_got v (λ _ a. inner a >>= λ e b. more_with inner j b >>= λ es c. Got (MoreTerms e es) c) (Got NoTerms rest)) h

onto_read : (x : Read SourceTerms) (xs : List SourceTerm) (e : SourceTerm)
    → ((x >>= λ es c. Got (MoreTerms e es) c) >>= λ es c. mark_read mark.CloseRound c >>= λ _ d. Got (onto xs es) d) ≡ (x >>= λ es c. mark_read mark.CloseRound c >>= λ _ d. Got (onto (xs ++ (e ∷ [])) es) d)
onto_read (Got es c) xs e = ap (λ v. mark_read mark.CloseRound c >>= λ _ d. Got v d) (sym (onto-snoc xs e es))
onto_read Not xs e = refl

more_left : (inner : Reader SourceTerm) (k : ℕ) (xs : List SourceTerm) (rest after : List TokenKind) (u : Unit {0}) → 0 < k → mark_read mark.Comma rest ≡ Got u after
    → arguments_left inner k xs rest ≡ ((inner after >>= λ e b. more_with inner (k - 1) b >>= λ es c. Got (MoreTerms e es) c) >>= λ es c. mark_read mark.CloseRound c >>= λ _ d. Got (onto xs es) d)
more_left inner zero xs rest after u lt h = absurd (omega arith)
more_left inner (suc j) xs rest after u lt h =
    let is : j ≡ suc j - 1 = omega arith in
    ap (λ v. v >>= λ es c. mark_read mark.CloseRound c >>= λ _ d. Got (onto xs es) d) (more_step inner j rest after u h)
    ∙ ap (λ m. (inner after >>= λ e b. more_with inner m b >>= λ es c. Got (MoreTerms e es) c) >>= λ es c. mark_read mark.CloseRound c >>= λ _ d. Got (onto xs es) d) is

pub arguments_more : (inner : Reader SourceTerm) (k : ℕ) (xs ys : List SourceTerm) (e : SourceTerm) (rest after next : List TokenKind) (u : Unit {0}) (whole : Read SourceTerms) → arguments_left inner k xs rest ≡ whole → 0 < k
    → mark_read mark.Comma rest ≡ Got u after → inner after ≡ Got e next → ys ≡ xs ++ (e ∷ []) → arguments_left inner (k - 1) ys next ≡ whole
arguments_more inner k xs ys e rest after next u whole inv lt h g ys_are =
    ap (λ l. arguments_left inner (k - 1) l next) ys_are
    ∙ sym (onto_read (more_with inner (k - 1) next) xs e)
    ∙ sym (ap (λ v. (v >>= λ w b. more_with inner (k - 1) b >>= λ es c. Got (MoreTerms w es) c) >>= λ es c. mark_read mark.CloseRound c >>= λ _ d. Got (onto xs es) d) g)
    ∙ sym (more_left inner k xs rest after u lt h)
    ∙ inv

pub arguments_fail : (inner : Reader SourceTerm) (k : ℕ) (xs : List SourceTerm) (rest after : List TokenKind) (u : Unit {0}) (whole : Read SourceTerms) → arguments_left inner k xs rest ≡ whole → 0 < k
    → mark_read mark.Comma rest ≡ Got u after → inner after ≡ Not → whole ≡ Not
arguments_fail inner k xs rest after u whole inv lt h g =
    sym inv ∙ more_left inner k xs rest after u lt h
    ∙ ap (λ v. (v >>= λ w b. more_with inner (k - 1) b >>= λ es c. Got (MoreTerms w es) c) >>= λ es c. mark_read mark.CloseRound c >>= λ _ d. Got (onto xs es) d) g

-- no more arguments
pub more_end : (inner : Reader SourceTerm) (k : ℕ) (rest : List TokenKind) → k ≤ 0 → more_with inner k rest ≡ Got NoTerms rest
unfolding more_with
more_end inner zero rest le = refl
more_end inner (suc k) rest le = absurd (omega arith)

pub more_stop : (inner : Reader SourceTerm) (k : ℕ) (rest : List TokenKind) → mark_read mark.Comma rest ≡ Not → more_with inner k rest ≡ Got NoTerms rest
unfolding more_with
more_stop inner zero rest h = refl
more_stop inner (suc k) rest h = ap (λ v. if_got v (λ _ a. inner a >>= λ e b. more_with inner k b >>= λ es c. Got (MoreTerms e es) c) (Got NoTerms rest)) h

left_end : (inner : Reader SourceTerm) (k : ℕ) (xs : List SourceTerm) (rest : List TokenKind) → more_with inner k rest ≡ Got NoTerms rest → arguments_left inner k xs rest ≡ (mark_read mark.CloseRound rest >>= λ _ d. Got (terms xs) d)
left_end inner k xs rest h =
    ap (λ v. v >>= λ es c. mark_read mark.CloseRound c >>= λ _ d. Got (onto xs es) d) h ∙ ap (λ v. mark_read mark.CloseRound rest >>= λ _ d. Got v d) (onto-none xs)

pub arguments_closed : (inner : Reader SourceTerm) (k : ℕ) (xs : List SourceTerm) (rest r : List TokenKind) (u : Unit {0}) (whole : Read SourceTerms) → arguments_left inner k xs rest ≡ whole → more_with inner k rest ≡ Got NoTerms rest
    → mark_read mark.CloseRound rest ≡ Got u r → whole ≡ Got (terms xs) r
arguments_closed inner k xs rest r u whole inv h g = sym inv ∙ left_end inner k xs rest h ∙ ap (λ v. v >>= λ _ d. Got (terms xs) d) g

pub arguments_open : (inner : Reader SourceTerm) (k : ℕ) (xs : List SourceTerm) (rest : List TokenKind) (whole : Read SourceTerms) → arguments_left inner k xs rest ≡ whole → more_with inner k rest ≡ Got NoTerms rest
    → mark_read mark.CloseRound rest ≡ Not → whole ≡ Not
arguments_open inner k xs rest whole inv h g = sym inv ∙ left_end inner k xs rest h ∙ ap (λ v. v >>= λ _ d. Got (terms xs) d) g

-- a builtin and its arguments
applied_as : (second : Bool) (inner : Reader SourceTerm) (o : Builtin) (ts a c : List TokenKind) (u : Unit {0}) (es : SourceTerms) → has_builtin second o ≡ true → mark_read mark.OpenRound ts ≡ Got u a → arguments_with inner a ≡ Got es c
    → builtin_with second inner (Some o) ts ≡ applied o es c
unfolding builtin_with
applied_as second inner o ts a c u es l h g =
    ap (λ t. if t then (mark_read mark.OpenRound ts >>= λ _ s. arguments_with inner s >>= applied o) else Not) l
    ∙ ap (λ v. v >>= λ _ s. arguments_with inner s >>= applied o) h
    ∙ ap (λ v. v >>= applied o) g

pub builtin_done : (second : Bool) (inner : Reader SourceTerm) (o : Builtin) (ts a c : List TokenKind) (u : Unit {0}) (xs : List Expr) → has_builtin second o ≡ true → mark_read mark.OpenRound ts ≡ Got u a
    → arguments_with inner a ≡ Got (terms (map term_of xs)) c → length xs ≡ arity o → builtin_with second inner (Some o) ts ≡ Got (ApplyTerm o (terms (map term_of xs))) c
builtin_done second inner o ts a c u xs l h g n =
    let yes : (count (terms (map term_of xs)) == arity o) ≡ true = grind (arith, nat_tests, terms_count xs) in
    applied_as second inner o ts a c u (terms (map term_of xs)) l h g ∙ ap (λ t. if t then Got (ApplyTerm o (terms (map term_of xs))) c else Not) yes

pub builtin_miscounted : (second : Bool) (inner : Reader SourceTerm) (o : Builtin) (ts a c : List TokenKind) (u : Unit {0}) (xs : List Expr) → has_builtin second o ≡ true → mark_read mark.OpenRound ts ≡ Got u a
    → arguments_with inner a ≡ Got (terms (map term_of xs)) c → (length xs ≡ arity o → ⊥) → builtin_with second inner (Some o) ts ≡ Not
builtin_miscounted second inner o ts a c u xs l h g n =
    let no : (count (terms (map term_of xs)) == arity o) ≡ false = grind (arith, nat_tests, terms_count xs) in
    applied_as second inner o ts a c u (terms (map term_of xs)) l h g ∙ ap (λ t. if t then Got (ApplyTerm o (terms (map term_of xs))) c else Not) no

-- how an expression is seen
pub apply_is : (o : Builtin) (args : Vec Expr Global) → term_of (Apply o args) ≡ ApplyTerm o (terms (map term_of args.items))
apply_is o args = ap term_of (sym (rolls-Apply o args)) ∙ fold-roll-Expr SourceTerm term_step (Expr-F.Apply o args)

pub let_is : (x : Name) (bound body : Box Expr Global) → term_of (Let x bound body) ≡ LetTerm x.text.items (term_of bound.value) (term_of body.value)
let_is x bound body = ap term_of (sym (rolls-Let x bound body)) ∙ fold-roll-Expr SourceTerm term_step (Expr-F.Let x bound body)

-- operators of a strength
pub turns_once : (n most : ℕ) → n ≡ 3 → 1 ≡ turns n most
turns_once n most e = let yes : (n == 3) ≡ true = grind (arith, nat_tests) in sym (ap (λ t. if t then 1 else most) yes)

pub turns_many : (n most : ℕ) → (n ≡ 3 → ⊥) → most ≡ turns n most
turns_many n most e = let no : (n == 3) ≡ false = grind (arith, nat_tests) in sym (ap (λ t. if t then 1 else most) no)

level_is : (read : Reader SourceTerm) (n : ℕ) → n ≤ 5 → operations_with read n ≡ level_with n (operations_with read (n + 1))
level_is read n le = let next : suc n ≡ n + 1 = omega arith in level_step read n le ∙ ap (λ m. level_with n (operations_with read m)) next

pub operations_start : (read : Reader SourceTerm) (n : ℕ) (ts : List TokenKind) (e : SourceTerm) (k : ℕ) (r : List TokenKind) → n ≤ 5 → operations_with read (n + 1) ts ≡ Got e r → k ≡ turns n (length r)
    → chain_with n (operations_with read (n + 1)) k e r ≡ operations_with read n ts
unfolding level_with
operations_start read n ts e k r le h is =
    ap (λ m. chain_with n (operations_with read (n + 1)) m e r) is
    ∙ sym (ap (λ f. f ts) (level_is read n le) ∙ ap (λ v. v >>= λ w a. chain_with n (operations_with read (n + 1)) (turns n (length a)) w a) h)

pub operations_none : (read : Reader SourceTerm) (n : ℕ) (ts : List TokenKind) → n ≤ 5 → operations_with read (n + 1) ts ≡ Not → operations_with read n ts ≡ Not
unfolding level_with
operations_none read n ts le h = ap (λ f. f ts) (level_is read n le) ∙ ap (λ v. v >>= λ w a. chain_with n (operations_with read (n + 1)) (turns n (length a)) w a) h

pub operations_strongest : (read : Reader SourceTerm) (n : ℕ) (ts : List TokenKind) → n ≡ 6 → unary_with read ts ≡ operations_with read n ts
operations_strongest read n ts is = sym (ap (λ m. operations_with read m ts) is ∙ ap (λ f. f ts) (unary_step read))

chain_step : (n : ℕ) (below : Reader SourceTerm) (k : ℕ) (e : SourceTerm) (o : Builtin) (rest after : List TokenKind) → 0 < k → operator_read n rest ≡ Got o after
    → chain_with n below k e rest ≡ (below after >>= λ f c. chain_with n below (k - 1) (ApplyTerm o (two e f)) c)
unfolding chain_with
chain_step n below zero e o rest after lt h = absurd (omega arith)
chain_step n below (suc j) e o rest after lt h =
    let is : j ≡ suc j - 1 = omega arith in
    ap (λ v. if_got v (λ p a. below a >>= λ f c. chain_with n below j (ApplyTerm p (two e f)) c) (Got e rest)) h ∙ ap (λ m. below after >>= λ f c. chain_with n below m (ApplyTerm o (two e f)) c) is

pub operations_more : (n : ℕ) (below : Reader SourceTerm) (k : ℕ) (e f g : SourceTerm) (o : Builtin) (rest after next : List TokenKind) (whole : Read SourceTerm) → chain_with n below k e rest ≡ whole → 0 < k
    → operator_read n rest ≡ Got o after → below after ≡ Got f next → g ≡ ApplyTerm o (two e f) → chain_with n below (k - 1) g next ≡ whole
operations_more n below k e f g o rest after next whole inv lt h b is =
    ap (λ v. chain_with n below (k - 1) v next) is
    ∙ sym (ap (λ v. v >>= λ w c. chain_with n below (k - 1) (ApplyTerm o (two e w)) c) b)
    ∙ sym (chain_step n below k e o rest after lt h)
    ∙ inv

pub operations_fail : (n : ℕ) (below : Reader SourceTerm) (k : ℕ) (e : SourceTerm) (o : Builtin) (rest after : List TokenKind) (whole : Read SourceTerm) → chain_with n below k e rest ≡ whole → 0 < k
    → operator_read n rest ≡ Got o after → below after ≡ Not → whole ≡ Not
operations_fail n below k e o rest after whole inv lt h b =
    sym inv ∙ chain_step n below k e o rest after lt h ∙ ap (λ v. v >>= λ w c. chain_with n below (k - 1) (ApplyTerm o (two e w)) c) b

pub operations_stop : (n : ℕ) (below : Reader SourceTerm) (k : ℕ) (e : SourceTerm) (rest : List TokenKind) (whole : Read SourceTerm) → chain_with n below k e rest ≡ whole → operator_read n rest ≡ Not → whole ≡ Got e rest
unfolding chain_with
operations_stop n below zero e rest whole inv h = sym inv
operations_stop n below (suc k) e rest whole inv h = sym inv ∙ ap (λ v. if_got v (λ o a. below a >>= λ f c. chain_with n below k (ApplyTerm o (two e f)) c) (Got e rest)) h

pub operations_end : (n : ℕ) (below : Reader SourceTerm) (k : ℕ) (e : SourceTerm) (rest : List TokenKind) (whole : Read SourceTerm) → chain_with n below k e rest ≡ whole → k ≤ 0 → whole ≡ Got e rest
unfolding chain_with
operations_end n below zero e rest whole inv le = sym inv
operations_end n below (suc k) e rest whole inv le = absurd (omega arith)

-- bindings
within_is : (second : Bool) (k : ℕ) (ts : List TokenKind) → 0 < k
    → expression_at second k ts
    ≡ if_got (let_read ts) (λ _ a. binding_with (expression_at second (k - 1)) a >>= λ p c. expression_at second (k - 1) c >>= λ f r. Got (LetTerm p.0 p.1 f) r) (operations_with (atom_with second (expression_at second (k - 1))) 1 ts)
unfolding expression_at expression_with
within_is second zero ts lt = absurd (omega arith)
within_is second (suc j) ts lt =
    let is : j ≡ suc j - 1 = omega arith in
    ap (λ m. if_got (let_read ts) (λ _ a. binding_with (expression_at second m) a >>= λ p c. expression_at second m c >>= λ f r. Got (LetTerm p.0 p.1 f) r) (operations_with (atom_with second (expression_at second m)) 1 ts)) is

pub within_end : (second : Bool) (k : ℕ) (ps : List (Name × Expr)) (rest : List TokenKind) (whole : Read SourceTerm) → behind ps (expression_at second k rest) ≡ whole → k ≤ 0 → whole ≡ Not
unfolding expression_at
within_end second zero ps rest whole inv le = sym inv
within_end second (suc k) ps rest whole inv le = absurd (omega arith)

body_is : (second : Bool) (k : ℕ) (rest : List TokenKind) → 0 < k → let_read rest ≡ Not → expression_at second k rest ≡ operations_with (atom_with second (expression_at second (k - 1))) 1 rest
body_is second k rest lt h =
    within_is second k rest lt
    ∙ ap (λ v. if_got v (λ _ a. binding_with (expression_at second (k - 1)) a >>= λ p c. expression_at second (k - 1) c >>= λ f r. Got (LetTerm p.0 p.1 f) r)
    (operations_with (atom_with second (expression_at second (k - 1))) 1 rest)) h

pub within_body : (second : Bool) (k : ℕ) (ps : List (Name × Expr)) (rest r : List TokenKind) (f g : SourceTerm) (whole : Read SourceTerm) → behind ps (expression_at second k rest) ≡ whole → 0 < k → let_read rest ≡ Not
    → operations_with (atom_with second (expression_at second (k - 1))) 1 rest ≡ Got f r → g ≡ nested ps f → whole ≡ Got g r
within_body second k ps rest r f g whole inv lt h b is = sym inv ∙ ap (behind ps) (body_is second k rest lt h ∙ b) ∙ ap (λ v. Got v r) (sym is)

pub within_none : (second : Bool) (k : ℕ) (ps : List (Name × Expr)) (rest : List TokenKind) (whole : Read SourceTerm) → behind ps (expression_at second k rest) ≡ whole → 0 < k → let_read rest ≡ Not
    → operations_with (atom_with second (expression_at second (k - 1))) 1 rest ≡ Not → whole ≡ Not
within_none second k ps rest whole inv lt h b = sym inv ∙ ap (behind ps) (body_is second k rest lt h ∙ b)

let_step : (second : Bool) (k : ℕ) (rest after : List TokenKind) (u : Unit {0}) → 0 < k → let_read rest ≡ Got u after
    → expression_at second k rest ≡ (binding_with (expression_at second (k - 1)) after >>= λ p c. expression_at second (k - 1) c >>= λ f r. Got (LetTerm p.0 p.1 f) r)
let_step second k rest after u lt h =
    within_is second k rest lt
    ∙ ap (λ v. if_got v (λ _ a. binding_with (expression_at second (k - 1)) a >>= λ p c. expression_at second (k - 1) c >>= λ f r. Got (LetTerm p.0 p.1 f) r)
    (operations_with (atom_with second (expression_at second (k - 1))) 1 rest)) h

pub within_fail : (second : Bool) (k : ℕ) (ps : List (Name × Expr)) (rest after : List TokenKind) (u : Unit {0}) (whole : Read SourceTerm) → behind ps (expression_at second k rest) ≡ whole → 0 < k → let_read rest ≡ Got u after
    → binding_with (expression_at second (k - 1)) after ≡ Not → whole ≡ Not
within_fail second k ps rest after u whole inv lt h b =
    sym inv ∙ ap (behind ps) (let_step second k rest after u lt h ∙ ap (λ v. v >>= λ p c. expression_at second (k - 1) c >>= λ f r. Got (LetTerm p.0 p.1 f) r) b)

behind_one : (ps : List (Name × Expr)) (p : Name × Expr) (x : Read SourceTerm) → behind ps (x >>= λ f r. Got (LetTerm p.0.text.items (term_of p.1) f) r) ≡ behind (ps ++ (p ∷ [])) x
behind_one ps p (Got f r) = ap (λ v. Got v r) (sym (nested-snoc ps p f))
behind_one ps p Not = refl

pub within_more : (second : Bool) (k : ℕ) (ps qs : List (Name × Expr)) (p : Name × Expr) (rest after next : List TokenKind) (u : Unit {0}) (whole : Read SourceTerm) → behind ps (expression_at second k rest) ≡ whole → 0 < k
    → let_read rest ≡ Got u after → binding_with (expression_at second (k - 1)) after ≡ Got (p.0.text.items, term_of p.1) next → qs ≡ ps ++ (p ∷ []) → behind qs (expression_at second (k - 1) next) ≡ whole
within_more second k ps qs p rest after next u whole inv lt h b qs_are =
    ap (λ l. behind l (expression_at second (k - 1) next)) qs_are
    ∙ sym (behind_one ps p (expression_at second (k - 1) next))
    ∙ sym (ap (behind ps) (let_step second k rest after u lt h ∙ ap (λ v. v >>= λ q c. expression_at second (k - 1) c >>= λ f r. Got (LetTerm q.0 q.1 f) r) b))
    ∙ inv
