-- Reading an expression from the front, as a function on the kinds of tokens, and what a function of the code gives of
-- it.
use Rattle.std.specs.Prelude.{ℕ, zero, suc, ◌+◌, ◌-◌, ◌<◌, ◌≡◌, ◌==◌, nat_le, Bool, true, false}
use Rattle.std.specs.Prelude.{if◌then◌else◌, List, [], ◌∷◌, length, map, Option, Some, None, Result, Ok, Err}
use Rattle.std.specs.Borrow.{Bor}
use Rattle.std.specs.declared.alloc.Global.{Global}
use Rattle.std.specs.declared.vec.Vec.{Vec}
use Rattle.fc_values.specs.declared.builtins.Builtin.{Builtin}
use Rattle.fc_values.specs.declared.builtins.Builtin.TheVariants as b
use Rattle.fc_values.specs.declared.types.Name.{Name}
use Rattle.fc_lexer.specs.declared.tokens.Mark.{Mark}
use Rattle.fc_lexer.specs.declared.tokens.Mark.TheVariants as mark
use Rattle.fc_values.specs.declared.names.Word.{Word}
use Rattle.fc_values.specs.declared.names.Word.TheVariants as word
use Rattle.fc_lexer.specs.declared.tokens.Token.{Token}
use Rattle.fc_lexer.specs.Kinds.{TokenKind, NumberOf, WordOf, NameOf, MarkOf, tokens_of}
use Rattle.fc_syntax.specs.declared.tree.Expr.{Expr}
use Rattle.fc_syntax.specs.Terms.{SourceTerm, IntTerm, TruthTerm, VarTerm, UidTerm, NbrLinkTerm}
use Rattle.fc_syntax.specs.Terms.{SenseTerm, ApplyTerm, NbrTerm, RepTerm, ShareTerm, IfTerm}
use Rattle.fc_syntax.specs.Terms.{LetTerm, CallTerm, SourceTerms, NoTerms, MoreTerms, term_of, terms}
use Rattle.fc_syntax.specs.Text.{builtin_strength}
use Rattle.fc_values.specs.BuiltinTypes.{arity}
use Rattle.fc_syntax.specs.Printable.{count}
use Rattle.fc_values.specs.declared.limits.TheConstants.{GREATEST}
use Rattle.fc_parser.specs.Grammar.{operator, named, one, two}
use Rattle.fc_parser.specs.Programs.{kinds}
use Rattle.fc_parser.specs.Reading.{Read, Got, Not, ◌>>=◌, Reader}
use Rattle.fc_parser.specs.declared.refused.Refused.{Refused}
use Rattle.fc_parser.specs.declared.refused.Refused.TheVariants as refused

-- the kinds of the code's tokens
abbrev pub kinds_of : List Token → List TokenKind
kinds_of ts = kinds (tokens_of ts)

-- the first where something is read, and the second where nothing is
abbrev pub if_got : {A B : Type 0} → Read A → (A → List TokenKind → Read B) → Read B → Read B
if_got (Got a rest) f g = f a rest
if_got Not f g = g

-- the place of a mark among the marks
abbrev pub place_of : Mark → ℕ
place_of mark.OpenRound = 0
place_of mark.CloseRound = 1
place_of mark.OpenCurly = 2
place_of mark.CloseCurly = 3
place_of mark.Comma = 4
place_of mark.Semi = 5
place_of mark.Colon = 6
place_of mark.Dots = 7
place_of mark.Is = 8
place_of mark.Arrow = 9
place_of mark.Plus = 10
place_of mark.Minus = 11
place_of mark.Star = 12
place_of mark.Less = 13

-- this mark
unfoldable pub mark_read : Mark → Reader (Unit {0})
mark_read m [] = Not
mark_read m (MarkOf n ∷ ts) = if place_of n == place_of m then Got tt ts else Not
mark_read m (k ∷ ts) = Not

-- the words `let`, `in` and `not`
unfoldable pub let_read : Reader (Unit {0})
let_read (WordOf word.Let ∷ ts) = Got tt ts
let_read ts = Not

unfoldable pub in_read : Reader (Unit {0})
in_read (WordOf word.In ∷ ts) = Got tt ts
in_read ts = Not

unfoldable pub not_read : Reader (Unit {0})
not_read (WordOf word.Not ∷ ts) = Got tt ts
not_read ts = Not

-- NAME
unfoldable pub name_read : Reader (List ℕ)
name_read (NameOf x ∷ ts) = Got x ts
name_read ts = Not

-- an operator of this strength
abbrev pub of_strength : ℕ → Option Builtin → Reader Builtin
of_strength n None ts = Not
of_strength n (Some o) ts = if builtin_strength o == n then Got o ts else Not

unfoldable pub operator_read : ℕ → Reader Builtin
operator_read n [] = Not
operator_read n (k ∷ ts) = of_strength n (operator k) ts

-- { ( NAME ) =>
unfoldable pub binder_read : Reader (List ℕ)
binder_read ts =
    mark_read mark.OpenCurly ts >>= λ _ a.
    mark_read mark.OpenRound a >>= λ _ b.
    name_read b >>= λ x c.
    mark_read mark.CloseRound c >>= λ _ d.
    mark_read mark.Arrow d >>= λ _ e.
    Got x e

-- an expression between two marks
unfoldable pub enclosed_with : Mark → Mark → Reader SourceTerm → Reader SourceTerm
enclosed_with opening closing inner ts =
    mark_read opening ts >>= λ _ a. inner a >>= λ e b. mark_read closing b >>= λ _ c. Got e c

-- { , expr }
unfoldable pub more_with : Reader SourceTerm → ℕ → Reader SourceTerms
more_with inner zero ts = Got NoTerms ts
more_with inner (suc k) ts =
    if_got (mark_read mark.Comma ts)
    (λ _ a. inner a >>= λ e b. more_with inner k b >>= λ es c. Got (MoreTerms e es) c) (Got NoTerms ts)

-- [ expr { , expr } ] )
unfoldable pub arguments_with : Reader SourceTerm → Reader SourceTerms
arguments_with inner ts =
    if_got (mark_read mark.CloseRound ts) (λ _ a. Got NoTerms a)
    (inner ts >>= λ e a. more_with inner (length a) a >>= λ es b. mark_read mark.CloseRound b
    >>= λ _ c. Got (MoreTerms e es) c)

-- a name, which is a variable or called
unfoldable pub named_with : Reader SourceTerm → List ℕ → Reader SourceTerm
named_with inner x ts =
    if_got (mark_read mark.OpenRound ts) (λ _ a. arguments_with inner a >>= λ es b. Got (CallTerm x es) b)
    (Got (VarTerm x) ts)

-- whether a language has a builtin
abbrev pub has_builtin : Bool → Builtin → Bool
has_builtin second b.Rise = second
has_builtin second _ = true

-- a builtin, where the arguments are as many as it has
abbrev pub applied : Builtin → SourceTerms → Reader SourceTerm
applied o es ts = if count es == arity o then Got (ApplyTerm o es) ts else Not

-- a builtin's arguments
unfoldable pub builtin_with : Bool → Reader SourceTerm → Option Builtin → Reader SourceTerm
builtin_with second inner None ts = Not
builtin_with second inner (Some o) ts =
    if has_builtin second o then (mark_read mark.OpenRound ts >>= λ _ a. arguments_with inner a >>= applied o) else Not

abbrev pub fold_term : Bool → SourceTerm → List ℕ → SourceTerm → SourceTerm
fold_term true e x f = ShareTerm e x f
fold_term false e x f = RepTerm e x f

-- ( expr ) { ( NAME ) => expr }
unfoldable pub fold_with : Bool → Reader SourceTerm → Reader SourceTerm
fold_with shared inner ts =
    enclosed_with mark.OpenRound mark.CloseRound inner ts >>= λ e a.
    binder_read a >>= λ x b.
    inner b >>= λ f c.
    mark_read mark.CloseCurly c >>= λ _ d.
    Got (fold_term shared e x f) d

-- ( expr ) { expr } { expr }
unfoldable pub choice_with : Reader SourceTerm → Reader SourceTerm
choice_with inner ts =
    enclosed_with mark.OpenRound mark.CloseRound inner ts >>= λ c a.
    enclosed_with mark.OpenCurly mark.CloseCurly inner a >>= λ e d.
    enclosed_with mark.OpenCurly mark.CloseCurly inner d >>= λ f r.
    Got (IfTerm c e f) r

-- expr ) or expr , expr )
unfoldable pub bracketed_with : Reader SourceTerm → Reader SourceTerm
bracketed_with inner ts =
    inner ts >>= λ e a. if_got (mark_read mark.Comma a)
    (λ _ c. inner c >>= λ f d. mark_read mark.CloseRound d >>= λ _ r. Got (ApplyTerm b.Pair (two e f)) r)
    (mark_read mark.CloseRound a >>= λ _ r. Got e r)

-- what follows a word
unfoldable pub word_with : Bool → Reader SourceTerm → Word → Reader SourceTerm
word_with second inner word.True ts = Got (TruthTerm true) ts
word_with second inner word.False ts = Got (TruthTerm false) ts
word_with second inner word.Uid ts = Got UidTerm ts
word_with second inner word.NbrLink ts = Got NbrLinkTerm ts
word_with second inner word.Sense ts = name_read ts >>= λ x a. Got (SenseTerm x) a
word_with second inner word.Nbr ts = enclosed_with mark.OpenCurly mark.CloseCurly inner ts >>= λ e a. Got (NbrTerm e) a
word_with second inner word.Rep ts = fold_with false inner ts
word_with second inner word.Share ts = if second then fold_with true inner ts else Not
word_with second inner word.If ts = choice_with inner ts
word_with second inner w ts = builtin_with second inner (named w) ts

-- atom
unfoldable pub atom_with : Bool → Reader SourceTerm → Reader SourceTerm
atom_with second inner [] = Not
atom_with second inner (NumberOf n ∷ ts) = if nat_le n GREATEST then Got (IntTerm n) ts else Not
atom_with second inner (WordOf w ∷ ts) = word_with second inner w ts
atom_with second inner (NameOf x ∷ ts) = named_with inner x ts
atom_with second inner (MarkOf mark.OpenRound ∷ ts) = bracketed_with inner ts
atom_with second inner (MarkOf m ∷ ts) = Not

-- how many `not` stand in front, and what follows them
unfoldable pub count_nots : List TokenKind → ℕ
count_nots (WordOf word.Not ∷ ts) = suc (count_nots ts)
count_nots ts = 0

unfoldable pub after_nots : List TokenKind → List TokenKind
after_nots (WordOf word.Not ∷ ts) = after_nots ts
after_nots ts = ts

abbrev pub negated : ℕ → SourceTerm → SourceTerm
negated zero e = e
negated (suc n) e = ApplyTerm b.Not (one (negated n e))

-- unary
unfoldable pub unary_with : Reader SourceTerm → Reader SourceTerm
unary_with atom ts = atom (after_nots ts) >>= λ e a. Got (negated (count_nots ts) e) a

-- at most so many operators of a strength, each with its right operand, after what stands left of them
unfoldable pub chain_with : ℕ → Reader SourceTerm → ℕ → SourceTerm → Reader SourceTerm
chain_with n below zero e ts = Got e ts
chain_with n below (suc k) e ts =
    if_got (operator_read n ts) (λ o a. below a >>= λ f c. chain_with n below k (ApplyTerm o (two e f)) c) (Got e ts)

-- how many operators of a strength may stand in a row before these tokens: a comparison stands alone
abbrev pub turns : ℕ → ℕ → ℕ
turns n most = if n == 3 then 1 else most

-- operators of a strength between operands that are stronger
unfoldable pub level_with : ℕ → Reader SourceTerm → Reader SourceTerm
level_with n below ts = below ts >>= λ e a. chain_with n below (turns n (length a)) e a

-- an expression at a place that asks a strength so far below an atom's
unfoldable pub operations_left : Reader SourceTerm → ℕ → Reader SourceTerm
operations_left atom zero = atom
operations_left atom (suc zero) = unary_with atom
operations_left atom (suc (suc m)) = level_with (5 - m) (operations_left atom (suc m))

-- an expression at a place that asks this strength
unfoldable pub operations_with : Reader SourceTerm → ℕ → Reader SourceTerm
operations_with atom n = operations_left atom (7 - n)

-- NAME = expr in
unfoldable pub binding_with : Reader SourceTerm → Reader (List ℕ × SourceTerm)
binding_with inner ts =
    name_read ts >>= λ x a. mark_read mark.Is a >>= λ _ b. inner b >>= λ e c. in_read c >>= λ _ d. Got (x, e) d

-- a body behind these bindings
abbrev pub nested : List (Name × Expr) → SourceTerm → SourceTerm
nested [] f = f
nested (p ∷ ps) f = LetTerm p.0.text.items (term_of p.1) (nested ps f)

-- expr, where the parts are read by another reader
unfoldable pub expression_with : Bool → Reader SourceTerm → Reader SourceTerm
expression_with second inner ts =
    if_got (let_read ts) (λ _ a. binding_with inner a >>= λ p c. inner c >>= λ f r. Got (LetTerm p.0 p.1 f) r)
    (operations_with (atom_with second inner) 1 ts)

-- expr, with a budget of expressions within one another; the flag says whether it is of language 2
unfoldable pub expression_at : Bool → ℕ → Reader SourceTerm
expression_at second zero ts = Not
expression_at second (suc n) ts = expression_with second (expression_at second n) ts

-- expr, of a language
unfoldable pub expression_read : Bool → List TokenKind → Read SourceTerm
expression_read second ts = expression_at second (length ts + 1) ts

-- kinds that go on with no operator of this strength or a greater one, and with no `(`
abbrev pub IsBelow : ℕ → Option Builtin → Type 0
IsBelow n None = Unit {0}
IsBelow n (Some o) = builtin_strength o < n

abbrev pub StopsKind : ℕ → TokenKind → Type 0
StopsKind n (MarkOf mark.OpenRound) = ⊥
StopsKind n k = IsBelow n (operator k)

abbrev pub StopsBelow : ℕ → List TokenKind → Type 0
StopsBelow n [] = Unit {0}
StopsBelow n (k ∷ ks) = StopsKind n k

-- kinds that go on with no operator, and with no `(`
abbrev pub Stops : List TokenKind → Type 0
Stops ts = StopsBelow 1 ts

-- What a function returned is what reading gives, unless memory ran out.
abbrev pub GivesExpression : Result (Expr × Bor (List Token)) Refused → Read SourceTerm → Type 0
GivesExpression (Ok x) read = read ≡ Got (term_of x.0) (kinds_of x.1.now)
GivesExpression (Err refused.Outside) read = read ≡ Not
GivesExpression (Err refused.Memory) read = Unit {0}

abbrev pub GivesArguments : Result (Vec Expr Global × Bor (List Token)) Refused → Read SourceTerms → Type 0
GivesArguments (Ok x) read = read ≡ Got (terms (map term_of x.0.items)) (kinds_of x.1.now)
GivesArguments (Err refused.Outside) read = read ≡ Not
GivesArguments (Err refused.Memory) read = Unit {0}

-- the same where what is read is written into a place
abbrev pub WritesExpression : Result (Bor (List Token)) Refused → Expr → Read SourceTerm → Type 0
WritesExpression (Ok rest) e read = read ≡ Got (term_of e) (kinds_of rest.now)
WritesExpression (Err refused.Outside) e read = read ≡ Not
WritesExpression (Err refused.Memory) e read = Unit {0}

abbrev pub WritesBinding : Result (Name × Bor (List Token)) Refused → Expr → Read (List ℕ × SourceTerm) → Type 0
WritesBinding (Ok x) e read = read ≡ Got (x.0.text.items, term_of e) (kinds_of x.1.now)
WritesBinding (Err refused.Outside) e read = read ≡ Not
WritesBinding (Err refused.Memory) e read = Unit {0}

-- the same where nothing takes memory
abbrev pub GivesName : Result (Bor Name × Bor (List Token)) Refused → Read (List ℕ) → Type 0
GivesName (Ok x) read = read ≡ Got x.0.now.text.items (kinds_of x.1.now)
GivesName (Err fault) read = (read ≡ Not) × (fault ≡ refused.Outside)

abbrev pub GivesRest : Result (Bor (List Token)) Refused → Read (Unit {0}) → Type 0
GivesRest (Ok rest) read = read ≡ Got tt (kinds_of rest.now)
GivesRest (Err fault) read = (read ≡ Not) × (fault ≡ refused.Outside)

abbrev pub GivesAfter : Option (Bor (List Token)) → Read (Unit {0}) → Type 0
GivesAfter (Some rest) read = read ≡ Got tt (kinds_of rest.now)
GivesAfter None read = read ≡ Not

abbrev pub GivesOperator : Option (Builtin × Bor (List Token)) → Read Builtin → Type 0
GivesOperator (Some x) read = read ≡ Got x.0 (kinds_of x.1.now)
GivesOperator None read = read ≡ Not
