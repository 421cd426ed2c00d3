-- What is read as an expression is one of the grammar.
use Rattle.std.proofs.Common.{ℕ, zero, suc, ◌≡◌, ◌+◌, ◌-◌, ◌≤◌, ◌==◌, nat_le, Bool, true, false, List, [], ◌∷◌, ◌++◌, length, refl, ap, ◌∙◌, sym, subst, append_assoc, append-nil, arith, Option, Some, None}
use Rattle.std.specs.Prelude.{if◌then◌else◌}
use Rattle.std.proofs.lemmas.Bool.Decides.{nat_tests}
use Rattle.fc_values.specs.declared.builtins.Builtin.{Builtin}
use Rattle.fc_values.specs.declared.builtins.Builtin.TheVariants as op
use Rattle.fc_lexer.specs.declared.tokens.Mark.{Mark}
use Rattle.fc_lexer.specs.declared.tokens.Mark.TheVariants as mark
use Rattle.fc_values.specs.declared.names.Word.{Word}
use Rattle.fc_values.specs.declared.names.Word.TheVariants as word
use Rattle.fc_lexer.specs.Kinds.{TokenKind, NumberOf, WordOf, NameOf, MarkOf}
use Rattle.fc_syntax.specs.Terms.{SourceTerm, IntTerm, TruthTerm, VarTerm, UidTerm, NbrLinkTerm, SenseTerm, ApplyTerm, NbrTerm, IfTerm, LetTerm, CallTerm, SourceTerms, NoTerms, MoreTerms}
use Rattle.fc_syntax.specs.Text.{builtin_strength, left_asks}
use Rattle.fc_values.specs.BuiltinTypes.{arity}
use Rattle.fc_syntax.specs.Printable.{count, IsOfLanguage}
use Rattle.fc_parser.specs.Grammar.{operator, named, two, Expression, binding, operation, Operation, between, negation, stronger, atom, Atom, number, yes, no, uid, nbr_link, variable, sense, call, builtin, nbr, rep, share, choice, bracket, pair, Arguments, none, some, MoreArguments, no_more, more}
use Rattle.fc_parser.specs.Reading.{Read, Got, Not, ◌>>=◌, Reader, Fronts}
use Rattle.fc_parser.specs.Expressions.{if_got, place_of, mark_read, let_read, in_read, name_read, of_strength, operator_read, binder_read, enclosed_with, more_with, arguments_with, named_with, has_builtin, applied, builtin_with, fold_term, fold_with, choice_with, bracketed_with, word_with, atom_with, count_nots, after_nots, negated, unary_with, chain_with, level_with, operations_left, operations_with, binding_with, expression_with, expression_at}

-- reading one thing after another
pub record Bound {A B : Type 0} (x : Read A) (f : A → List TokenKind → Read B) (c : B) (r : List TokenKind) : Type 0 where
  pub value : A
  pub rest : List TokenKind
  pub first : x ≡ Got value rest
  pub after : f value rest ≡ Got c r

pub got : {A B : Type 0} (x : Read A) (f : A → List TokenKind → Read B) (c : B) (r : List TokenKind) → (x >>= f) ≡ Got c r → Bound x f c r
got (Got a s) f c r e = record { value = a; rest = s; first = refl; after = e }
got Not f c r e = cc

-- one of two readings
pub data Chosen {A B : Type 0} (x : Read A) (f : A → List TokenKind → Read B) (g : Read B) (c : B) (r : List TokenKind) : Type 0 where
  taken : (a : A) (s : List TokenKind) → x ≡ Got a s → f a s ≡ Got c r → Chosen x f g c r
  left : x ≡ Not → g ≡ Got c r → Chosen x f g c r

pub chosen : {A B : Type 0} (x : Read A) (f : A → List TokenKind → Read B) (g : Read B) (c : B) (r : List TokenKind) → if_got x f g ≡ Got c r → Chosen x f g c r
chosen (Got a s) f g c r e = taken a s refl e
chosen Not f g c r e = left refl e

mark_at : ℕ → Mark
mark_at zero = mark.OpenRound
mark_at (suc zero) = mark.CloseRound
mark_at (suc (suc zero)) = mark.OpenCurly
mark_at (suc (suc (suc zero))) = mark.CloseCurly
mark_at (suc (suc (suc (suc zero)))) = mark.Comma
mark_at (suc (suc (suc (suc (suc zero))))) = mark.Semi
mark_at (suc (suc (suc (suc (suc (suc zero)))))) = mark.Colon
mark_at (suc (suc (suc (suc (suc (suc (suc zero))))))) = mark.Dots
mark_at (suc (suc (suc (suc (suc (suc (suc (suc zero)))))))) = mark.Is
mark_at (suc (suc (suc (suc (suc (suc (suc (suc (suc zero))))))))) = mark.Arrow
mark_at (suc (suc (suc (suc (suc (suc (suc (suc (suc (suc zero)))))))))) = mark.Plus
mark_at (suc (suc (suc (suc (suc (suc (suc (suc (suc (suc (suc zero))))))))))) = mark.Minus
mark_at (suc (suc (suc (suc (suc (suc (suc (suc (suc (suc (suc (suc zero)))))))))))) = mark.Star
mark_at (suc (suc (suc (suc (suc (suc (suc (suc (suc (suc (suc (suc n)))))))))))) = mark.Less

placed : (m : Mark) → mark_at (place_of m) ≡ m
unfolding mark_at
placed mark.OpenRound = refl
placed mark.CloseRound = refl
placed mark.OpenCurly = refl
placed mark.CloseCurly = refl
placed mark.Comma = refl
placed mark.Semi = refl
placed mark.Colon = refl
placed mark.Dots = refl
placed mark.Is = refl
placed mark.Arrow = refl
placed mark.Plus = refl
placed mark.Minus = refl
placed mark.Star = refl
placed mark.Less = refl

-- marks at one place are one
pub same_place : (m n : Mark) → place_of m ≡ place_of n → m ≡ n
same_place m n e = sym (placed m) ∙ ap mark_at e ∙ placed n

pub equal_of : (m n : ℕ) → (m == n) ≡ true → m ≡ n
equal_of m n e = grind (arith, nat_tests)

-- what is read where a test holds
pub record When {A : Type 0} (t : Bool) (x : Read A) (c : A) (r : List TokenKind) : Type 0 where
  pub holds : t ≡ true
  pub is : x ≡ Got c r

pub when : {A : Type 0} (t : Bool) (x : Read A) (c : A) (r : List TokenKind) → (if t then x else Not) ≡ Got c r → When t x c r
when true x c r e = record { holds = refl; is = e }
when false x c r e = cc

-- the small readers
pub mark_is : (m : Mark) (ts : List TokenKind) (u : Unit {0}) (r : List TokenKind) → mark_read m ts ≡ Got u r → ts ≡ MarkOf m ∷ r
unfolding mark_read
mark_is m [] u r e = cc
mark_is m (MarkOf n ∷ ts) u r e =
    let w = when (place_of n == place_of m) (Got tt ts) u r e in
    let same : n ≡ m = same_place n m (equal_of (place_of n) (place_of m) w.holds) in
    let rest : ts ≡ r = cc (w.is) in
    cc
mark_is m (k ∷ ts) u r e = cc

pub let_is : (ts : List TokenKind) (u : Unit {0}) (r : List TokenKind) → let_read ts ≡ Got u r → ts ≡ WordOf word.Let ∷ r
unfolding let_read
let_is [] u r e = cc
let_is (WordOf word.Let ∷ ts) u r e = cc
let_is (k ∷ ts) u r e = cc

pub in_is : (ts : List TokenKind) (u : Unit {0}) (r : List TokenKind) → in_read ts ≡ Got u r → ts ≡ WordOf word.In ∷ r
unfolding in_read
in_is [] u r e = cc
in_is (WordOf word.In ∷ ts) u r e = cc
in_is (k ∷ ts) u r e = cc

pub name_is : (ts : List TokenKind) (x : List ℕ) (r : List TokenKind) → name_read ts ≡ Got x r → ts ≡ NameOf x ∷ r
unfolding name_read
name_is [] x r e = cc
name_is (NameOf y ∷ ts) x r e = cc
name_is (k ∷ ts) x r e = cc

-- an operator stands in front
pub record OperatorIs (n : ℕ) (ts : List TokenKind) (o : Builtin) (r : List TokenKind) : Type 0 where
  pub kind : TokenKind
  pub cut : ts ≡ kind ∷ r
  pub is : operator kind ≡ Some o
  pub strength : builtin_strength o ≡ n

operator_as : (n : ℕ) (k : TokenKind) (v : Option Builtin) (ts : List TokenKind) (o : Builtin) (r : List TokenKind) → operator k ≡ v → of_strength n v ts ≡ Got o r → OperatorIs n (k ∷ ts) o r
operator_as n k None ts o r i e = cc
operator_as n k (Some p) ts o r i e =
    let w = when (builtin_strength p == n) (Got p ts) o r e in
    let same : p ≡ o = cc (w.is) in
    let rest : ts ≡ r = cc (w.is) in
    record { kind = k; cut = cc; is = i ∙ ap Some same; strength = ap builtin_strength (sym same) ∙ equal_of (builtin_strength p) n w.holds }

pub operator_is : (n : ℕ) (ts : List TokenKind) (o : Builtin) (r : List TokenKind) → operator_read n ts ≡ Got o r → OperatorIs n ts o r
unfolding operator_read
operator_is n [] o r e = cc
operator_is n (k ∷ ts) o r e = operator_as n k (operator k) ts o r refl e

pub binder_is : (ts : List TokenKind) (x : List ℕ) (r : List TokenKind) → binder_read ts ≡ Got x r
    → ts ≡ MarkOf mark.OpenCurly ∷ MarkOf mark.OpenRound ∷ NameOf x ∷ MarkOf mark.CloseRound ∷ MarkOf mark.Arrow ∷ r
unfolding binder_read
binder_is ts x r e =
    let a = got (mark_read mark.OpenCurly ts) _ x r e in
    let b = got (mark_read mark.OpenRound a.rest) _ x r a.after in
    let c = got (name_read b.rest) _ x r b.after in
    let d = got (mark_read mark.CloseRound c.rest) _ x r c.after in
    let f = got (mark_read mark.Arrow d.rest) _ x r d.after in
    let ea = mark_is mark.OpenCurly ts a.value a.rest a.first in
    let eb = mark_is mark.OpenRound a.rest b.value b.rest b.first in
    let ec = name_is b.rest c.value c.rest c.first in
    let ed = mark_is mark.CloseRound c.rest d.value d.rest d.first in
    let ef = mark_is mark.Arrow d.rest f.value f.rest f.first in
    let last : Got c.value f.rest ≡ Got x r = f.after in
    let name : c.value ≡ x = cc in
    let rest : f.rest ≡ r = cc in
    cc (ea, eb, ec, ed, ef, name, rest)

abbrev pub IsSound : Reader SourceTerm → (List TokenKind → SourceTerm → Type 0) → Type 0
IsSound read P = (ts : List TokenKind) (e : SourceTerm) (r : List TokenKind) → read ts ≡ Got e r → Fronts (λ p. P p e) ts r

-- an expression between two marks
record Enclosed (second : Bool) (opening closing : Mark) (ts : List TokenKind) (e : SourceTerm) (r : List TokenKind) : Type 0 where
  front : List TokenKind
  cut : ts ≡ MarkOf opening ∷ (front ++ (MarkOf closing ∷ r))
  holds : Expression second front e

enclosed_is : (second : Bool) (opening closing : Mark) (inner : Reader SourceTerm) → IsSound inner (Expression second) → (ts : List TokenKind) (e : SourceTerm) (r : List TokenKind)
    → enclosed_with opening closing inner ts ≡ Got e r → Enclosed second opening closing ts e r
unfolding enclosed_with
enclosed_is second opening closing inner h ts e r eq =
    let a = got (mark_read opening ts) _ e r eq in
    let b = got (inner a.rest) _ e r a.after in
    let c = got (mark_read closing b.rest) _ e r b.after in
    let ea = mark_is opening ts a.value a.rest a.first in
    let x = h a.rest b.value b.rest b.first in
    let ec = mark_is closing b.rest c.value c.rest c.first in
    let last : Got b.value c.rest ≡ Got e r = c.after in
    let same : b.value ≡ e = cc in
    let rest : c.rest ≡ r = cc in
    record { front = x.front; cut = ea ∙ ap (λ l. MarkOf opening ∷ l) (x.cut ∙ ap (λ l. x.front ++ l) (ec ∙ ap (λ l. MarkOf closing ∷ l) rest)); holds = subst (Expression second x.front) same x.holds }

-- arguments
sound_more : (second : Bool) (inner : Reader SourceTerm) → IsSound inner (Expression second) → (k : ℕ) (ts : List TokenKind) (es : SourceTerms) (r : List TokenKind)
    → more_with inner k ts ≡ Got es r → Fronts (λ p. MoreArguments second p es) ts r
unfolding more_with
sound_more second inner h zero ts es r e =
    let same : NoTerms ≡ es = cc in
    record { front = []; cut = cc; holds = subst (MoreArguments second []) same no_more }
sound_more second inner h (suc k) ts es r e = elim (chosen (mark_read mark.Comma ts) _ (Got NoTerms ts) es r e) [
  | taken u s m f ↦
      let a = got (inner s) _ es r f in
      let b = got (more_with inner k a.rest) _ es r a.after in
      let em = mark_is mark.Comma ts u s m in
      let x = h s a.value a.rest a.first in
      let y = sound_more second inner h k a.rest b.value b.rest b.first in
      let last : Got (MoreTerms a.value b.value) b.rest ≡ Got es r = b.after in
      let same : MoreTerms a.value b.value ≡ es = cc in
      let rest : b.rest ≡ r = cc in
      record {
        front = MarkOf mark.Comma ∷ (x.front ++ y.front);
        cut = em ∙ ap (λ l. MarkOf mark.Comma ∷ l) (x.cut ∙ ap (λ l. x.front ++ l) (y.cut ∙ ap (λ l. y.front ++ l) rest) ∙ sym (append_assoc x.front y.front r));
        holds = subst (MoreArguments second (MarkOf mark.Comma ∷ (x.front ++ y.front))) same (more x.front y.front a.value b.value x.holds y.holds);
      }
  | left m f ↦
      let same : NoTerms ≡ es = cc in
      record { front = []; cut = cc; holds = subst (MoreArguments second []) same no_more }
]

record Closed (second : Bool) (ts : List TokenKind) (es : SourceTerms) (r : List TokenKind) : Type 0 where
  front : List TokenKind
  cut : ts ≡ front ++ (MarkOf mark.CloseRound ∷ r)
  holds : Arguments second front es

arguments_are : (second : Bool) (inner : Reader SourceTerm) → IsSound inner (Expression second) → (ts : List TokenKind) (es : SourceTerms) (r : List TokenKind)
    → arguments_with inner ts ≡ Got es r → Closed second ts es r
unfolding arguments_with
arguments_are second inner h ts es r e = elim (chosen (mark_read mark.CloseRound ts) _ _ es r e) [
  | taken u s m f ↦
      let last : Got NoTerms s ≡ Got es r = f in
      let same : NoTerms ≡ es = cc in
      let rest : s ≡ r = cc in
      record { front = []; cut = mark_is mark.CloseRound ts u s m ∙ ap (λ l. MarkOf mark.CloseRound ∷ l) rest; holds = subst (Arguments second []) same none }
  | left m f ↦
      let a = got (inner ts) _ es r f in
      let b = got (more_with inner (length a.rest) a.rest) _ es r a.after in
      let c = got (mark_read mark.CloseRound b.rest) _ es r b.after in
      let x = h ts a.value a.rest a.first in
      let y = sound_more second inner h (length a.rest) a.rest b.value b.rest b.first in
      let ec = mark_is mark.CloseRound b.rest c.value c.rest c.first in
      let last : Got (MoreTerms a.value b.value) c.rest ≡ Got es r = c.after in
      let same : MoreTerms a.value b.value ≡ es = cc in
      let rest : c.rest ≡ r = cc in
      record {
        front = x.front ++ y.front;
        cut = x.cut ∙ ap (λ l. x.front ++ l) (y.cut ∙ ap (λ l. y.front ++ l) (ec ∙ ap (λ l. MarkOf mark.CloseRound ∷ l) rest)) ∙ sym (append_assoc x.front y.front (MarkOf mark.CloseRound ∷ r));
        holds = subst (Arguments second (x.front ++ y.front)) same (some x.front y.front a.value b.value x.holds y.holds);
      }
]

-- ts ≡ front ++ (m ∷ r) as a front with its mark
closing : (front : List TokenKind) (k : TokenKind) (r : List TokenKind) → front ++ (k ∷ r) ≡ (front ++ (k ∷ [])) ++ r
closing front k r = sym (append_assoc front (k ∷ []) r)

-- atoms
sound_bracketed : (second : Bool) (inner : Reader SourceTerm) → IsSound inner (Expression second) → (ts : List TokenKind) (e : SourceTerm) (r : List TokenKind)
    → bracketed_with inner ts ≡ Got e r → Fronts (λ p. Atom second p e) (MarkOf mark.OpenRound ∷ ts) r
unfolding bracketed_with
sound_bracketed second inner h ts e r eq =
    let a = got (inner ts) _ e r eq in
    let x = h ts a.value a.rest a.first in
    elim (chosen (mark_read mark.Comma a.rest) _ _ e r a.after) [
      | taken u s m f ↦
          let c = got (inner s) _ e r f in
          let d = got (mark_read mark.CloseRound c.rest) _ e r c.after in
          let em = mark_is mark.Comma a.rest u s m in
          let y = h s c.value c.rest c.first in
          let ed = mark_is mark.CloseRound c.rest d.value d.rest d.first in
          let last : Got (ApplyTerm op.Pair (two a.value c.value)) d.rest ≡ Got e r = d.after in
          let same : ApplyTerm op.Pair (two a.value c.value) ≡ e = cc in
          let rest : d.rest ≡ r = cc in
          let whole : List TokenKind = MarkOf mark.OpenRound ∷ (x.front ++ (MarkOf mark.Comma ∷ (y.front ++ (MarkOf mark.CloseRound ∷ [])))) in
          record {
            front = whole;
            cut = ap (λ l. MarkOf mark.OpenRound ∷ l) (
                x.cut
                ∙ ap (λ l. x.front ++ l) (em ∙ ap (λ l. MarkOf mark.Comma ∷ l) (y.cut ∙ ap (λ l. y.front ++ l) (ed ∙ ap (λ l. MarkOf mark.CloseRound ∷ l) rest) ∙ closing y.front (MarkOf mark.CloseRound) r))
                ∙ sym (append_assoc x.front (MarkOf mark.Comma ∷ (y.front ++ (MarkOf mark.CloseRound ∷ []))) r)
                );
            holds = subst (Atom second whole) same (pair x.front y.front a.value c.value x.holds y.holds);
          }
      | left m f ↦
          let c = got (mark_read mark.CloseRound a.rest) _ e r f in
          let ec = mark_is mark.CloseRound a.rest c.value c.rest c.first in
          let last : Got a.value c.rest ≡ Got e r = c.after in
          let same : a.value ≡ e = cc in
          let rest : c.rest ≡ r = cc in
          record {
            front = MarkOf mark.OpenRound ∷ (x.front ++ (MarkOf mark.CloseRound ∷ []));
            cut = ap (λ l. MarkOf mark.OpenRound ∷ l) (x.cut ∙ ap (λ l. x.front ++ l) (ec ∙ ap (λ l. MarkOf mark.CloseRound ∷ l) rest) ∙ closing x.front (MarkOf mark.CloseRound) r);
            holds = subst (Atom second (MarkOf mark.OpenRound ∷ (x.front ++ (MarkOf mark.CloseRound ∷ [])))) same (bracket x.front a.value x.holds);
          }
    ]

sound_named : (second : Bool) (inner : Reader SourceTerm) → IsSound inner (Expression second) → (x : List ℕ) (ts : List TokenKind) (e : SourceTerm) (r : List TokenKind)
    → named_with inner x ts ≡ Got e r → Fronts (λ p. Atom second p e) (NameOf x ∷ ts) r
unfolding named_with
sound_named second inner h x ts e r eq = elim (chosen (mark_read mark.OpenRound ts) _ _ e r eq) [
  | taken u s m f ↦
      let a = got (arguments_with inner s) _ e r f in
      let em = mark_is mark.OpenRound ts u s m in
      let y = arguments_are second inner h s a.value a.rest a.first in
      let last : Got (CallTerm x a.value) a.rest ≡ Got e r = a.after in
      let same : CallTerm x a.value ≡ e = cc in
      let rest : a.rest ≡ r = cc in
      record {
        front = NameOf x ∷ MarkOf mark.OpenRound ∷ (y.front ++ (MarkOf mark.CloseRound ∷ []));
        cut = ap (λ l. NameOf x ∷ l) (em ∙ ap (λ l. MarkOf mark.OpenRound ∷ l) (y.cut ∙ ap (λ l. y.front ++ (MarkOf mark.CloseRound ∷ l)) rest ∙ closing y.front (MarkOf mark.CloseRound) r));
        holds = subst (Atom second (NameOf x ∷ MarkOf mark.OpenRound ∷ (y.front ++ (MarkOf mark.CloseRound ∷ [])))) same (call x y.front a.value y.holds);
      }
  | left m f ↦
      let last : Got (VarTerm x) ts ≡ Got e r = f in
      let same : VarTerm x ≡ e = cc in
      let rest : ts ≡ r = cc in
      record { front = NameOf x ∷ []; cut = ap (λ l. NameOf x ∷ l) rest; holds = subst (Atom second (NameOf x ∷ [])) same (variable x) }
]

of_language : (second : Bool) (o : Builtin) → has_builtin second o ≡ true → IsOfLanguage second o
of_language second op.Rise h = h
of_language second o h = tt

builtin_as : (second : Bool) (inner : Reader SourceTerm) → IsSound inner (Expression second) → (w : Word) (v : Option Builtin) (ts : List TokenKind) (e : SourceTerm) (r : List TokenKind)
    → named w ≡ v → builtin_with second inner v ts ≡ Got e r → Fronts (λ p. Atom second p e) (WordOf w ∷ ts) r
unfolding builtin_with
builtin_as second inner h w None ts e r i eq = cc
builtin_as second inner h w (Some o) ts e r i eq =
    let k = when (has_builtin second o) _ e r eq in
    let a = got (mark_read mark.OpenRound ts) _ e r k.is in
    let c = got (arguments_with inner a.rest) (applied o) e r a.after in
    let q = when (count c.value == arity o) (Got (ApplyTerm o c.value) c.rest) e r c.after in
    let em = mark_is mark.OpenRound ts a.value a.rest a.first in
    let y = arguments_are second inner h a.rest c.value c.rest c.first in
    let last : Got (ApplyTerm o c.value) c.rest ≡ Got e r = q.is in
    let same : ApplyTerm o c.value ≡ e = cc in
    let rest : c.rest ≡ r = cc in
    record {
      front = WordOf w ∷ MarkOf mark.OpenRound ∷ (y.front ++ (MarkOf mark.CloseRound ∷ []));
      cut = ap (λ l. WordOf w ∷ l) (em ∙ ap (λ l. MarkOf mark.OpenRound ∷ l) (y.cut ∙ ap (λ l. y.front ++ (MarkOf mark.CloseRound ∷ l)) rest ∙ closing y.front (MarkOf mark.CloseRound) r));
      holds = subst (Atom second (WordOf w ∷ MarkOf mark.OpenRound ∷ (y.front ++ (MarkOf mark.CloseRound ∷ [])))) same
          (builtin w o y.front c.value i (of_language second o k.holds) (equal_of (count c.value) (arity o) q.holds) y.holds);
    }

-- ( expr ) { ( NAME ) => expr }
abbrev fold_tokens : List TokenKind → List ℕ → List TokenKind → List TokenKind
fold_tokens ts x us =
    MarkOf mark.OpenRound ∷ (ts ++ (MarkOf mark.CloseRound ∷ MarkOf mark.OpenCurly ∷ MarkOf mark.OpenRound ∷ NameOf x ∷ MarkOf mark.CloseRound ∷ MarkOf mark.Arrow ∷ (us ++ (MarkOf mark.CloseCurly ∷ []))))

record Folded (second shared : Bool) (ts : List TokenKind) (e : SourceTerm) (r : List TokenKind) : Type 0 where
  name : List ℕ
  first : List TokenKind
  body : List TokenKind
  start : SourceTerm
  next : SourceTerm
  cut : ts ≡ fold_tokens first name body ++ r
  starts : Expression second first start
  goes_on : Expression second body next
  is : fold_term shared start name next ≡ e

fold_is : (second shared : Bool) (inner : Reader SourceTerm) → IsSound inner (Expression second) → (ts : List TokenKind) (e : SourceTerm) (r : List TokenKind) → fold_with shared inner ts ≡ Got e r → Folded second shared ts e r
unfolding fold_with
fold_is second shared inner h ts e r eq =
    let a = got (enclosed_with mark.OpenRound mark.CloseRound inner ts) _ e r eq in
    let x = enclosed_is second mark.OpenRound mark.CloseRound inner h ts a.value a.rest a.first in
    let n = got (binder_read a.rest) _ e r a.after in
    let en = binder_is a.rest n.value n.rest n.first in
    let c = got (inner n.rest) _ e r n.after in
    let y = h n.rest c.value c.rest c.first in
    let d = got (mark_read mark.CloseCurly c.rest) _ e r c.after in
    let ed = mark_is mark.CloseCurly c.rest d.value d.rest d.first in
    let last : Got (fold_term shared a.value n.value c.value) d.rest ≡ Got e r = d.after in
    let same : fold_term shared a.value n.value c.value ≡ e = cc in
    let rest : d.rest ≡ r = cc in
    let tail : List TokenKind = MarkOf mark.CloseRound ∷ MarkOf mark.OpenCurly ∷ MarkOf mark.OpenRound ∷ NameOf n.value ∷ MarkOf mark.CloseRound ∷ MarkOf mark.Arrow ∷ (y.front ++ (MarkOf mark.CloseCurly ∷ [])) in
    record {
      name = n.value;
      first = x.front;
      body = y.front;
      start = a.value;
      next = c.value;
      cut = x.cut ∙ ap (λ l. MarkOf mark.OpenRound ∷ l) (
          ap (λ l. x.front ++ (MarkOf mark.CloseRound ∷ l)) (
          en
          ∙ ap (λ l. MarkOf mark.OpenCurly ∷ MarkOf mark.OpenRound ∷ NameOf n.value ∷ MarkOf mark.CloseRound ∷ MarkOf mark.Arrow ∷ l) (
          y.cut ∙ ap (λ l. y.front ++ l) (ed ∙ ap (λ l. MarkOf mark.CloseCurly ∷ l) rest) ∙ closing y.front (MarkOf mark.CloseCurly) r
          )
          )
          ∙ sym (append_assoc x.front tail r)
          );
      starts = x.holds;
      goes_on = y.holds;
      is = same;
    }

sound_choice : (second : Bool) (inner : Reader SourceTerm) → IsSound inner (Expression second) → (ts : List TokenKind) (e : SourceTerm) (r : List TokenKind)
    → choice_with inner ts ≡ Got e r → Fronts (λ p. Atom second p e) (WordOf word.If ∷ ts) r
unfolding choice_with
sound_choice second inner h ts e r eq =
    let a = got (enclosed_with mark.OpenRound mark.CloseRound inner ts) _ e r eq in
    let x = enclosed_is second mark.OpenRound mark.CloseRound inner h ts a.value a.rest a.first in
    let c = got (enclosed_with mark.OpenCurly mark.CloseCurly inner a.rest) _ e r a.after in
    let y = enclosed_is second mark.OpenCurly mark.CloseCurly inner h a.rest c.value c.rest c.first in
    let d = got (enclosed_with mark.OpenCurly mark.CloseCurly inner c.rest) _ e r c.after in
    let z = enclosed_is second mark.OpenCurly mark.CloseCurly inner h c.rest d.value d.rest d.first in
    let last : Got (IfTerm a.value c.value d.value) d.rest ≡ Got e r = d.after in
    let same : IfTerm a.value c.value d.value ≡ e = cc in
    let rest : d.rest ≡ r = cc in
    let third : List TokenKind = MarkOf mark.OpenCurly ∷ (z.front ++ (MarkOf mark.CloseCurly ∷ [])) in
    let others : List TokenKind = MarkOf mark.OpenCurly ∷ (y.front ++ (MarkOf mark.CloseCurly ∷ third)) in
    let whole : List TokenKind = WordOf word.If ∷ MarkOf mark.OpenRound ∷ (x.front ++ (MarkOf mark.CloseRound ∷ others)) in
    record {
      front = whole;
      cut = ap (λ l. WordOf word.If ∷ l) (x.cut ∙ ap (λ l. MarkOf mark.OpenRound ∷ l) (
          ap (λ l. x.front ++ (MarkOf mark.CloseRound ∷ l)) (
          y.cut
          ∙ ap (λ l. MarkOf mark.OpenCurly ∷ l) (
          ap (λ l. y.front ++ (MarkOf mark.CloseCurly ∷ l)) (
          z.cut ∙ ap (λ l. MarkOf mark.OpenCurly ∷ l) (ap (λ l. z.front ++ (MarkOf mark.CloseCurly ∷ l)) rest ∙ closing z.front (MarkOf mark.CloseCurly) r)
          )
          ∙ sym (append_assoc y.front (MarkOf mark.CloseCurly ∷ third) r)
          )
          )
          ∙ sym (append_assoc x.front (MarkOf mark.CloseRound ∷ others) r)
          ));
      holds = subst (Atom second whole) same (choice x.front y.front z.front a.value c.value d.value x.holds y.holds z.holds);
    }

-- an atom of one token
lone : (second : Bool) (k : TokenKind) (a e : SourceTerm) (ts r : List TokenKind) → Atom second (k ∷ []) a → Got a ts ≡ Got e r → Fronts (λ p. Atom second p e) (k ∷ ts) r
lone second k a e ts r d eq =
    let same : a ≡ e = cc in
    let rest : ts ≡ r = cc in
    record { front = k ∷ []; cut = ap (λ l. k ∷ l) rest; holds = subst (Atom second (k ∷ [])) same d }

sound_sense : (second : Bool) (ts : List TokenKind) (e : SourceTerm) (r : List TokenKind) → (name_read ts >>= λ x a. Got (SenseTerm x) a) ≡ Got e r → Fronts (λ p. Atom second p e) (WordOf word.Sense ∷ ts) r
sound_sense second ts e r eq =
    let a = got (name_read ts) _ e r eq in
    let last : Got (SenseTerm a.value) a.rest ≡ Got e r = a.after in
    let same : SenseTerm a.value ≡ e = cc in
    let rest : a.rest ≡ r = cc in
    record {
      front = WordOf word.Sense ∷ NameOf a.value ∷ [];
      cut = ap (λ l. WordOf word.Sense ∷ l) (name_is ts a.value a.rest a.first ∙ ap (λ l. NameOf a.value ∷ l) rest);
      holds = subst (Atom second (WordOf word.Sense ∷ NameOf a.value ∷ [])) same (sense a.value);
    }

sound_nbr : (second : Bool) (inner : Reader SourceTerm) → IsSound inner (Expression second) → (ts : List TokenKind) (e : SourceTerm) (r : List TokenKind)
    → (enclosed_with mark.OpenCurly mark.CloseCurly inner ts >>= λ v a. Got (NbrTerm v) a) ≡ Got e r → Fronts (λ p. Atom second p e) (WordOf word.Nbr ∷ ts) r
sound_nbr second inner h ts e r eq =
    let a = got (enclosed_with mark.OpenCurly mark.CloseCurly inner ts) _ e r eq in
    let x = enclosed_is second mark.OpenCurly mark.CloseCurly inner h ts a.value a.rest a.first in
    let last : Got (NbrTerm a.value) a.rest ≡ Got e r = a.after in
    let same : NbrTerm a.value ≡ e = cc in
    let rest : a.rest ≡ r = cc in
    record {
      front = WordOf word.Nbr ∷ MarkOf mark.OpenCurly ∷ (x.front ++ (MarkOf mark.CloseCurly ∷ []));
      cut = ap (λ l. WordOf word.Nbr ∷ l) (x.cut ∙ ap (λ l. MarkOf mark.OpenCurly ∷ l) (ap (λ l. x.front ++ (MarkOf mark.CloseCurly ∷ l)) rest ∙ closing x.front (MarkOf mark.CloseCurly) r));
      holds = subst (Atom second (WordOf word.Nbr ∷ MarkOf mark.OpenCurly ∷ (x.front ++ (MarkOf mark.CloseCurly ∷ [])))) same (nbr x.front a.value x.holds);
    }

sound_rep : (second : Bool) (inner : Reader SourceTerm) → IsSound inner (Expression second) → (ts : List TokenKind) (e : SourceTerm) (r : List TokenKind)
    → fold_with false inner ts ≡ Got e r → Fronts (λ p. Atom second p e) (WordOf word.Rep ∷ ts) r
sound_rep second inner h ts e r eq =
    let x = fold_is second false inner h ts e r eq in
    record {
      front = WordOf word.Rep ∷ fold_tokens x.first x.name x.body;
      cut = ap (λ l. WordOf word.Rep ∷ l) x.cut;
      holds = subst (Atom second (WordOf word.Rep ∷ fold_tokens x.first x.name x.body)) x.is (rep x.name x.first x.body x.start x.next x.starts x.goes_on);
    }

sound_share : (second : Bool) (inner : Reader SourceTerm) → IsSound inner (Expression second) → (ts : List TokenKind) (e : SourceTerm) (r : List TokenKind)
    → (if second then fold_with true inner ts else Not) ≡ Got e r → Fronts (λ p. Atom second p e) (WordOf word.Share ∷ ts) r
sound_share second inner h ts e r eq =
    let w = when second (fold_with true inner ts) e r eq in
    let x = fold_is second true inner h ts e r w.is in
    record {
      front = WordOf word.Share ∷ fold_tokens x.first x.name x.body;
      cut = ap (λ l. WordOf word.Share ∷ l) x.cut;
      holds = subst (Atom second (WordOf word.Share ∷ fold_tokens x.first x.name x.body)) x.is (share x.name x.first x.body x.start x.next w.holds x.starts x.goes_on);
    }

sound_word : (second : Bool) (inner : Reader SourceTerm) → IsSound inner (Expression second) → (w : Word) (ts : List TokenKind) (e : SourceTerm) (r : List TokenKind)
    → word_with second inner w ts ≡ Got e r → Fronts (λ p. Atom second p e) (WordOf w ∷ ts) r
unfolding word_with
sound_word second inner h word.True ts e r eq = lone second (WordOf word.True) (TruthTerm true) e ts r yes eq
sound_word second inner h word.False ts e r eq = lone second (WordOf word.False) (TruthTerm false) e ts r no eq
sound_word second inner h word.Uid ts e r eq = lone second (WordOf word.Uid) UidTerm e ts r uid eq
sound_word second inner h word.NbrLink ts e r eq = lone second (WordOf word.NbrLink) NbrLinkTerm e ts r nbr_link eq
sound_word second inner h word.Sense ts e r eq = sound_sense second ts e r eq
sound_word second inner h word.Nbr ts e r eq = sound_nbr second inner h ts e r eq
sound_word second inner h word.Rep ts e r eq = sound_rep second inner h ts e r eq
sound_word second inner h word.Share ts e r eq = sound_share second inner h ts e r eq
sound_word second inner h word.If ts e r eq = sound_choice second inner h ts e r eq
sound_word second inner h w ts e r eq = builtin_as second inner h w (named w) ts e r refl eq

at_most : (m n : ℕ) → nat_le m n ≡ true → m ≤ n
at_most m n e = grind (arith, nat_tests)

pub sound_atom : (second : Bool) (inner : Reader SourceTerm) → IsSound inner (Expression second) → IsSound (atom_with second inner) (Atom second)
unfolding atom_with
sound_atom second inner h [] e r eq = cc
sound_atom second inner h (NumberOf n ∷ ts) e r eq =
    let w = when (nat_le n 1000000) (Got (IntTerm n) ts) e r eq in
    lone second (NumberOf n) (IntTerm n) e ts r (number n (at_most n 1000000 w.holds)) w.is
sound_atom second inner h (WordOf w ∷ ts) e r eq = sound_word second inner h w ts e r eq
sound_atom second inner h (NameOf x ∷ ts) e r eq = sound_named second inner h x ts e r eq
sound_atom second inner h (MarkOf mark.OpenRound ∷ ts) e r eq = sound_bracketed second inner h ts e r eq
sound_atom second inner h (MarkOf m ∷ ts) e r eq = cc

-- operators
sound_nots : (second : Bool) (e : SourceTerm) (ts r : List TokenKind) → Fronts (λ p. Operation second 6 p e) (after_nots ts) r → Fronts (λ p. Operation second 6 p (negated (count_nots ts) e)) ts r
unfolding count_nots after_nots
sound_nots second e [] r x = x
sound_nots second e (WordOf word.Not ∷ ts) r x =
    let y = sound_nots second e ts r x in
    record { front = WordOf word.Not ∷ y.front; cut = ap (λ l. WordOf word.Not ∷ l) y.cut; holds = negation 6 y.front (negated (count_nots ts) e) refl y.holds }
sound_nots second e (k ∷ ts) r x = x

sound_unary : (second : Bool) (below : Reader SourceTerm) → IsSound below (Operation second 7) → IsSound (unary_with below) (Operation second 6)
unfolding unary_with
sound_unary second below h ts e r eq =
    let a = got (below (after_nots ts)) _ e r eq in
    let x = h (after_nots ts) a.value a.rest a.first in
    let last : Got (negated (count_nots ts) a.value) a.rest ≡ Got e r = a.after in
    let same : negated (count_nots ts) a.value ≡ e = cc in
    let rest : a.rest ≡ r = cc in
    let y = sound_nots second a.value ts a.rest (record { front = x.front; cut = x.cut; holds = stronger 6 x.front a.value x.holds }) in
    record { front = y.front; cut = y.cut ∙ ap (λ l. y.front ++ l) rest; holds = subst (Operation second 6 y.front) same y.holds }

-- what follows p, of which an operation is made
abbrev Extends : Bool → ℕ → List TokenKind → SourceTerm → List TokenKind → List TokenKind → Type 0
Extends second n p e ts r = Fronts (λ q. Operation second n (p ++ q) e) ts r

ended : (second : Bool) (n : ℕ) (p : List TokenKind) (a e : SourceTerm) (ts r : List TokenKind) → Operation second n p a → Got a ts ≡ Got e r → Extends second n p e ts r
ended second n p a e ts r d eq =
    let same : a ≡ e = cc in
    let rest : ts ≡ r = cc in
    record { front = []; cut = rest; holds = subst (λ l. Operation second n l e) (sym (append-nil p)) (subst (Operation second n p) same d) }

-- one operator and its right operand
record OneTurn (second : Bool) (n : ℕ) (p : List TokenKind) (a : SourceTerm) (o : Builtin) (f : SourceTerm) (ts next : List TokenKind) : Type 0 where
  part : List TokenKind
  cut : ts ≡ part ++ next
  holds : Operation second n (p ++ part) (ApplyTerm o (two a f))

one_turn : (second : Bool) (n : ℕ) (below : Reader SourceTerm) → IsSound below (Operation second (suc n)) → (p : List TokenKind) (a : SourceTerm) (ts : List TokenKind) (o : Builtin) (s : List TokenKind) (f : SourceTerm) (next : List TokenKind)
    → Operation second (left_asks n) p a → operator_read n ts ≡ Got o s → below s ≡ Got f next → OneTurn second n p a o f ts next
one_turn second n below h p a ts o s f next d m g =
    let k = operator_is n ts o s m in
    let x = h s f next g in
    record {
      part = k.kind ∷ x.front;
      cut = k.cut ∙ ap (λ l. k.kind ∷ l) x.cut;
      holds = between n k.kind o p x.front a f k.is k.strength d x.holds;
    }

extended : (second : Bool) (n : ℕ) (p part : List TokenKind) (e : SourceTerm) (ts next r : List TokenKind) → ts ≡ part ++ next → Extends second n (p ++ part) e next r → Extends second n p e ts r
extended second n p part e ts next r c x = record {
  front = part ++ x.front;
  cut = c ∙ ap (λ l. part ++ l) x.cut ∙ sym (append_assoc part x.front r);
  holds = subst (λ l. Operation second n l e) (append_assoc p part x.front) x.holds;
}

sound_chain : (second : Bool) (n : ℕ) → n ≡ left_asks n → (below : Reader SourceTerm) → IsSound below (Operation second (suc n)) → (k : ℕ) (p : List TokenKind) (a : SourceTerm) → Operation second n p a
    → (ts : List TokenKind) (e : SourceTerm) (r : List TokenKind) → chain_with n below k a ts ≡ Got e r → Extends second n p e ts r
unfolding chain_with
sound_chain second n asks below h zero p a d ts e r eq = ended second n p a e ts r d eq
sound_chain second n asks below h (suc k) p a d ts e r eq = elim (chosen (operator_read n ts) _ _ e r eq) [
  | taken o s m f ↦
      let g = got (below s) _ e r f in
      let t = one_turn second n below h p a ts o s g.value g.rest (subst (λ v. Operation second v p a) asks d) m g.first in
      extended second n p t.part e ts g.rest r t.cut (sound_chain second n asks below h k (p ++ t.part) (ApplyTerm o (two a g.value)) t.holds g.rest e r g.after)
  | left m f ↦ ended second n p a e ts r d f
]

sound_once : (second : Bool) (n : ℕ) (below : Reader SourceTerm) → IsSound below (Operation second (suc n)) → (p : List TokenKind) (a : SourceTerm) → Operation second (left_asks n) p a → Operation second n p a
    → (ts : List TokenKind) (e : SourceTerm) (r : List TokenKind) → chain_with n below 1 a ts ≡ Got e r → Extends second n p e ts r
unfolding chain_with
sound_once second n below h p a q d ts e r eq = elim (chosen (operator_read n ts) _ _ e r eq) [
  | taken o s m f ↦
      let g = got (below s) _ e r f in
      let t = one_turn second n below h p a ts o s g.value g.rest q m g.first in
      extended second n p t.part e ts g.rest r t.cut (ended second n (p ++ t.part) (ApplyTerm o (two a g.value)) e g.rest r t.holds g.after)
  | left m f ↦ ended second n p a e ts r d f
]

sound_turns : (second : Bool) (n : ℕ) (t : Bool) → (n == 3) ≡ t → (below : Reader SourceTerm) → IsSound below (Operation second (suc n)) → (p : List TokenKind) (a : SourceTerm) → Operation second (suc n) p a
    → (most : ℕ) (ts : List TokenKind) (e : SourceTerm) (r : List TokenKind) → chain_with n below (if t then 1 else most) a ts ≡ Got e r → Extends second n p e ts r
sound_turns second n true is below h p a d most ts e r eq =
    let three : n ≡ 3 = equal_of n 3 is in
    let asks : suc n ≡ left_asks n = omega arith ∙ sym (ap (λ v. if v then 4 else n) is) in
    sound_once second n below h p a (subst (λ v. Operation second v p a) asks d) (stronger n p a d) ts e r eq
sound_turns second n false is below h p a d most ts e r eq =
    sound_chain second n (sym (ap (λ v. if v then 4 else n) is)) below h most p a (stronger n p a d) ts e r eq

sound_level : (second : Bool) (n : ℕ) (below : Reader SourceTerm) → IsSound below (Operation second (suc n)) → IsSound (level_with n below) (Operation second n)
unfolding level_with
sound_level second n below h ts e r eq =
    let a = got (below ts) _ e r eq in
    let x = h ts a.value a.rest a.first in
    let y = sound_turns second n (n == 3) refl below h x.front a.value x.holds (length a.rest) a.rest e r a.after in
    record { front = x.front ++ y.front; cut = x.cut ∙ ap (λ l. x.front ++ l) y.cut ∙ sym (append_assoc x.front y.front r); holds = y.holds }

sound_atoms : (second : Bool) (read : Reader SourceTerm) → IsSound read (Atom second) → IsSound read (Operation second 7)
sound_atoms second read h ts e r eq =
    let x = h ts e r eq in
    record { front = x.front; cut = x.cut; holds = atom 7 x.front e refl x.holds }

sound_left : (second : Bool) (read : Reader SourceTerm) → IsSound read (Atom second) → (m n : ℕ) → n + m ≡ 7 → IsSound (operations_left read m) (Operation second n)
unfolding operations_left
sound_left second read h zero n e = let is : 7 ≡ n = omega arith in subst (λ v. IsSound read (Operation second v)) is (sound_atoms second read h)
sound_left second read h (suc zero) n e = let is : 6 ≡ n = omega arith in subst (λ v. IsSound (unary_with read) (Operation second v)) is (sound_unary second read (sound_atoms second read h))
sound_left second read h (suc (suc m)) n e =
    let is : n ≡ 5 - m = omega arith in
    subst (λ v. IsSound (level_with v (operations_left read (suc m))) (Operation second n)) is (sound_level second n (operations_left read (suc m)) (sound_left second read h (suc m) (suc n) (omega arith)))

pub sound_operations : (second : Bool) (read : Reader SourceTerm) → IsSound read (Atom second) → (n : ℕ) → n ≤ 7 → IsSound (operations_with read n) (Operation second n)
unfolding operations_with
sound_operations second read h n le = sound_left second read h (7 - n) n (omega arith)

-- expressions
sound_binding : (second : Bool) (inner : Reader SourceTerm) → IsSound inner (Expression second) → (ts : List TokenKind) (e : SourceTerm) (r : List TokenKind)
    → (binding_with inner ts >>= λ p c. inner c >>= λ f s. Got (LetTerm p.0 p.1 f) s) ≡ Got e r → Fronts (λ p. Expression second p e) (WordOf word.Let ∷ ts) r
unfolding binding_with
sound_binding second inner h ts e r eq =
    let w = got (binding_with inner ts) _ e r eq in
    let a = got (name_read ts) _ w.value w.rest w.first in
    let c = got (mark_read mark.Is a.rest) _ w.value w.rest a.after in
    let d = got (inner c.rest) _ w.value w.rest c.after in
    let f = got (in_read d.rest) _ w.value w.rest d.after in
    let g = got (inner w.rest) _ e r w.after in
    let ea = name_is ts a.value a.rest a.first in
    let ec = mark_is mark.Is a.rest c.value c.rest c.first in
    let x = h c.rest d.value d.rest d.first in
    let ef = in_is d.rest f.value f.rest f.first in
    let y = h w.rest g.value g.rest g.first in
    let inside : Got (a.value, d.value) f.rest ≡ Got w.value w.rest = f.after in
    let value : (a.value, d.value) ≡ w.value = cc in
    let after : f.rest ≡ w.rest = cc in
    let last : Got (LetTerm w.value.0 w.value.1 g.value) g.rest ≡ Got e r = g.after in
    let whole : LetTerm w.value.0 w.value.1 g.value ≡ e = cc in
    let same : LetTerm a.value d.value g.value ≡ e = ap (λ v. LetTerm v.0 v.1 g.value) value ∙ whole in
    let rest : g.rest ≡ r = cc in
    let tokens : List TokenKind = WordOf word.Let ∷ NameOf a.value ∷ MarkOf mark.Is ∷ (x.front ++ (WordOf word.In ∷ y.front)) in
    record {
      front = tokens;
      cut = ap (λ l. WordOf word.Let ∷ l) (
          ea
          ∙ ap (λ l. NameOf a.value ∷ l) (
          ec
          ∙ ap (λ l. MarkOf mark.Is ∷ l) (
          x.cut
          ∙ ap (λ l. x.front ++ l) (ef ∙ ap (λ l. WordOf word.In ∷ l) (after ∙ y.cut ∙ ap (λ l. y.front ++ l) rest))
          ∙ sym (append_assoc x.front (WordOf word.In ∷ y.front) r)
          )
          )
          );
      holds = subst (Expression second tokens) same (binding a.value x.front y.front d.value g.value x.holds y.holds);
    }

sound_with : (second : Bool) (inner : Reader SourceTerm) → IsSound inner (Expression second) → IsSound (expression_with second inner) (Expression second)
unfolding expression_with
sound_with second inner h ts e r eq = elim (chosen (let_read ts) _ _ e r eq) [
  | taken u s m f ↦
      let x = sound_binding second inner h s e r f in
      record { front = x.front; cut = let_is ts u s m ∙ x.cut; holds = x.holds }
  | left m f ↦
      let x = sound_operations second (atom_with second inner) (sound_atom second inner h) 1 (omega arith) ts e r f in
      record { front = x.front; cut = x.cut; holds = operation x.front e x.holds }
]

pub sound_at : (second : Bool) (n : ℕ) → IsSound (expression_at second n) (Expression second)
unfolding expression_at
sound_at second zero ts e r eq = cc
sound_at second (suc n) ts e r eq = sound_with second (expression_at second n) (sound_at second n) ts e r eq
