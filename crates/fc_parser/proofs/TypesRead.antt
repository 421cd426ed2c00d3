-- Types and parameters are read exactly.
use Rattle.std.proofs.Common.{ℕ, zero, suc, ◌≡◌, ◌≤◌, List, [], ◌∷◌, ◌++◌, length, refl, ap, ◌∙◌, sym, subst, append_assoc, append-nil, arith, length-append}
use Rattle.fc_values.specs.Types.{LocalType, IntType, BoolType, PairType, ValueType, TypeLocal, TypeField}
use Rattle.fc_lexer.specs.declared.tokens.Mark.TheVariants as mark
use Rattle.fc_values.specs.declared.names.Word.TheVariants as word
use Rattle.fc_lexer.specs.Kinds.{TokenKind, WordOf, NameOf, MarkOf}
use Rattle.fc_syntax.specs.Terms.{Parameter}
use Rattle.fc_parser.specs.Grammar.{LocalIs, int_type, bool_type, pair_type, TypeIs, local_type, field_type, ParameterIs, parameter, MoreParametersAre, no_more, more, ParametersAre, none, some}
use Rattle.fc_parser.specs.Reading.{Read, Got, Not, ◌>>=◌, Reader, Fronts}
use Rattle.fc_parser.specs.Expressions.{if_got, mark_read, name_read}
use Rattle.fc_parser.specs.Types.{pair_with, local_with, local_at, local_read, type_as, field_read, plain_read, type_read, parameter_read, more_at, parameters_read}
use Rattle.fc_parser.proofs.Steps.{got, goes_alike, no_longer, mark_got, name_got}

abbrev IsSound : Reader LocalType → Type 0
IsSound read = (ts : List TokenKind) (t : LocalType) (r : List TokenKind) → read ts ≡ Got t r → Fronts (λ p. LocalIs p t) ts r

sound_pair : (inner : Reader LocalType) → IsSound inner → (ts : List TokenKind) (t : LocalType) (r : List TokenKind) → pair_with inner ts ≡ Got t r → Fronts (λ p. LocalIs p t) (MarkOf mark.OpenRound ∷ ts) r
sound_pair inner h ts t r e =
    let a = got (inner ts) _ t r e in
    let b = got (mark_read mark.Comma a.1) _ t r a.3 in
    let c = got (inner b.1) _ t r b.3 in
    let d = got (mark_read mark.CloseRound c.1) _ t r c.3 in
    let x = h ts a.0 a.1 a.2 in
    let y = h b.1 c.0 c.1 c.2 in
    let comma : a.1 ≡ MarkOf mark.Comma ∷ b.1 = mark_got mark.Comma a.1 b.0 b.1 b.2 in
    let close : c.1 ≡ MarkOf mark.CloseRound ∷ d.1 = mark_got mark.CloseRound c.1 d.0 d.1 d.2 in
    let end : Got (PairType a.0 c.0) d.1 ≡ Got t r = d.3 in
    let same : PairType a.0 c.0 ≡ t = cc in
    record {
      front = MarkOf mark.OpenRound ∷ (x.front ++ (MarkOf mark.Comma ∷ (y.front ++ (MarkOf mark.CloseRound ∷ []))));
      cut = simp append_assoc cc;
      holds = subst (LocalIs (MarkOf mark.OpenRound ∷ (x.front ++ (MarkOf mark.Comma ∷ (y.front ++ (MarkOf mark.CloseRound ∷ [])))))) same (pair_type x.front y.front a.0 c.0 x.holds y.holds);
    }

sound_with : (inner : Reader LocalType) → IsSound inner → IsSound (local_with inner)
sound_with inner h [] t r e = cc
sound_with inner h (WordOf word.Int ∷ ts) t r e =
    let same : IntType ≡ t = cc in
    record { front = WordOf word.Int ∷ []; cut = ap (λ l. WordOf word.Int ∷ l) cc; holds = subst (LocalIs (WordOf word.Int ∷ [])) same int_type }
sound_with inner h (WordOf word.Bool ∷ ts) t r e =
    let same : BoolType ≡ t = cc in
    record { front = WordOf word.Bool ∷ []; cut = ap (λ l. WordOf word.Bool ∷ l) cc; holds = subst (LocalIs (WordOf word.Bool ∷ [])) same bool_type }
sound_with inner h (MarkOf mark.OpenRound ∷ ts) t r e = sound_pair inner h ts t r e
sound_with inner h (k ∷ ts) t r e = cc

sound_at : (n : ℕ) → IsSound (local_at n)
unfolding local_at
sound_at zero ts t r e = cc
sound_at (suc n) ts t r e = sound_with (local_at n) (sound_at n) ts t r e

pub local_sound : IsSound local_read
unfolding local_read
local_sound ts t r e = sound_at (length ts) ts t r e

pub local_shrinks : (ts : List TokenKind) (t : LocalType) (r : List TokenKind) → local_read ts ≡ Got t r → length r ≤ length ts
local_shrinks ts t r e = no_longer ts r (local_sound ts t r e)

pair_reads : (inner : Reader LocalType) (s t : LocalType) (l a b c r : List TokenKind) → inner l ≡ Got s a → a ≡ MarkOf mark.Comma ∷ b → inner b ≡ Got t c → c ≡ MarkOf mark.CloseRound ∷ r → pair_with inner l ≡ Got (PairType s t) r
unfolding mark_read
pair_reads inner s t l a b c r first comma second close = rw (first, comma, second, close) refl

complete_at : (ts : List TokenKind) (t : LocalType) → LocalIs ts t → (n : ℕ) (r : List TokenKind) → length ts ≤ n → local_at n (ts ++ r) ≡ Got t r
unfolding local_at
complete_at _ _ int_type zero r le = absurd (omega arith)
complete_at _ _ int_type (suc n) r le = refl
complete_at _ _ bool_type zero r le = absurd (omega arith)
complete_at _ _ bool_type (suc n) r le = refl
complete_at _ _ (pair_type ts us s t p q) zero r le = absurd (omega arith)
complete_at _ _ (pair_type ts us s t p q) (suc n) r le =
    let first : length ts ≤ n = omega (arith, length-append ts (MarkOf mark.Comma ∷ (us ++ (MarkOf mark.CloseRound ∷ [])))) in
    let second : length us ≤ n = omega (arith, length-append ts (MarkOf mark.Comma ∷ (us ++ (MarkOf mark.CloseRound ∷ []))), length-append us (MarkOf mark.CloseRound ∷ [])) in
    pair_reads (local_at n) s t ((ts ++ (MarkOf mark.Comma ∷ (us ++ (MarkOf mark.CloseRound ∷ [])))) ++ r) _ _ _ r
    (ap (local_at n) (append_assoc ts (MarkOf mark.Comma ∷ (us ++ (MarkOf mark.CloseRound ∷ []))) r) ∙ complete_at ts s p n ((MarkOf mark.Comma ∷ (us ++ (MarkOf mark.CloseRound ∷ []))) ++ r) first) refl
    (ap (local_at n) (append_assoc us (MarkOf mark.CloseRound ∷ []) r) ∙ complete_at us t q n ((MarkOf mark.CloseRound ∷ []) ++ r) second) refl

-- more than enough brackets change nothing
keeps : (n m : ℕ) (ts : List TokenKind) (t : LocalType) (r : List TokenKind) → length ts ≤ m → local_at n ts ≡ Got t r → local_at m ts ≡ Got t r
keeps n m ts t r le e =
    let x = sound_at n ts t r e in
    let short : length x.front ≤ m = omega (arith, ap length x.cut ∙ length-append x.front r) in
    ap (local_at m) x.cut ∙ complete_at x.front t x.holds m r short

agree_as : (n m : ℕ) (ts : List TokenKind) (x y : Read LocalType) → local_at n ts ≡ x → local_at m ts ≡ y → length ts ≤ n → length ts ≤ m → x ≡ y
agree_as n m ts (Got t r) y e f le less = let k = keeps n m ts t r less e in cc
agree_as n m ts Not (Got t r) e f le less = let k = keeps m n ts t r le f in cc
agree_as n m ts Not Not e f le less = refl

enough : (n : ℕ) (ts : List TokenKind) → length ts ≤ n → local_at n ts ≡ local_read ts
unfolding local_read
enough n ts le = agree_as n (length ts) ts _ _ refl refl le (omega arith)

pair_enough : (n : ℕ) (ts : List TokenKind) → length ts ≤ n → pair_with (local_at n) ts ≡ pair_with local_read ts
pair_enough n ts le =
    ap (λ v. v >>= λ s a. mark_read mark.Comma a >>= λ _ b. local_at n b >>= λ t c. mark_read mark.CloseRound c >>= λ _ rest. Got (PairType s t) rest) (enough n ts le)
    ∙ goes_alike (local_read ts) _ _ (λ s a e. goes_alike (mark_read mark.Comma a) _ _ (λ u b f.
    let short = local_shrinks ts s a e in
    let comma = ap length (mark_got mark.Comma a u b f) in
    let less : length b ≤ n = omega (arith, short, comma, le) in
    ap (λ v. v >>= λ t c. mark_read mark.CloseRound c >>= λ _ rest. Got (PairType s t) rest) (enough n b less)))

step_of : (ts : List TokenKind) → local_at (length ts) ts ≡ local_with local_read ts
unfolding local_at
step_of [] = refl
step_of (WordOf word.Int ∷ ts) = refl
step_of (WordOf word.Bool ∷ ts) = refl
step_of (MarkOf mark.OpenRound ∷ ts) = pair_enough (length ts) ts (omega arith)
step_of (k ∷ ts) = refl

-- a local type, by its first token
pub local_step : (ts : List TokenKind) → local_read ts ≡ local_with local_read ts
unfolding local_read
local_step ts = step_of ts

pub local_complete : (ts : List TokenKind) (t : LocalType) → LocalIs ts t → (r : List TokenKind) → local_read (ts ++ r) ≡ Got t r
unfolding local_read
local_complete ts t h r = complete_at ts t h (length (ts ++ r)) r (omega (arith, length-append ts r))

-- types
field_sound : (ts : List TokenKind) (t : ValueType) (r : List TokenKind) → (local_read ts >>= λ s rest. Got (TypeField s) rest) ≡ Got t r → Fronts (λ p. TypeIs p t) (WordOf word.Field ∷ ts) r
field_sound ts t r e =
    let a = got (local_read ts) (λ s rest. Got (TypeField s) rest) t r e in
    let x = local_sound ts a.0 a.1 a.2 in
    let end : Got (TypeField a.0) a.1 ≡ Got t r = a.3 in
    let same : TypeField a.0 ≡ t = cc in
    let rest : a.1 ≡ r = cc in
    record { front = WordOf word.Field ∷ x.front; cut = ap (λ l. WordOf word.Field ∷ l) (x.cut ∙ ap (λ l. x.front ++ l) rest); holds = subst (TypeIs (WordOf word.Field ∷ x.front)) same (field_type x.front a.0 x.holds) }

plain_sound : (ts : List TokenKind) (t : ValueType) (r : List TokenKind) → (local_read ts >>= λ s rest. Got (TypeLocal s) rest) ≡ Got t r → Fronts (λ p. TypeIs p t) ts r
plain_sound ts t r e =
    let a = got (local_read ts) (λ s rest. Got (TypeLocal s) rest) t r e in
    let x = local_sound ts a.0 a.1 a.2 in
    let end : Got (TypeLocal a.0) a.1 ≡ Got t r = a.3 in
    let same : TypeLocal a.0 ≡ t = cc in
    let rest : a.1 ≡ r = cc in
    record { front = x.front; cut = x.cut ∙ ap (λ l. x.front ++ l) rest; holds = subst (TypeIs x.front) same (local_type x.front a.0 x.holds) }

pub type_sound : (ts : List TokenKind) (t : ValueType) (r : List TokenKind) → type_read ts ≡ Got t r → Fronts (λ p. TypeIs p t) ts r
unfolding type_read
type_sound [] t r e = plain_sound [] t r e
type_sound (WordOf word.Field ∷ ts) t r e = field_sound ts t r e
type_sound (k ∷ ts) t r e = plain_sound (k ∷ ts) t r e

no_field : (field local : Reader ValueType) (ts : List TokenKind) (t : LocalType) → LocalIs ts t → (r : List TokenKind) → type_as field local (ts ++ r) ≡ local (ts ++ r)
no_field field local _ _ int_type r = refl
no_field field local _ _ bool_type r = refl
no_field field local _ _ (pair_type ts us s t p q) r = refl

pub type_complete : (ts : List TokenKind) (t : ValueType) → TypeIs ts t → (r : List TokenKind) → type_read (ts ++ r) ≡ Got t r
unfolding type_read
type_complete _ _ (local_type ts t h) r = no_field field_read plain_read ts t h r ∙ ap (λ v. v >>= λ s rest. Got (TypeLocal s) rest) (local_complete ts t h r)
type_complete _ _ (field_type ts t h) r = ap (λ v. v >>= λ s rest. Got (TypeField s) rest) (local_complete ts t h r)

-- parameters
pub parameter_sound : (ts : List TokenKind) (p : Parameter) (r : List TokenKind) → parameter_read ts ≡ Got p r → Fronts (λ l. ParameterIs l p) ts r
unfolding parameter_read
parameter_sound ts p r e =
    let a = got (name_read ts) _ p r e in
    let b = got (mark_read mark.Colon a.1) _ p r a.3 in
    let c = got (type_read b.1) _ p r b.3 in
    let x = type_sound b.1 c.0 c.1 c.2 in
    let head : ts ≡ NameOf a.0 ∷ a.1 = name_got ts a.0 a.1 a.2 in
    let colon : a.1 ≡ MarkOf mark.Colon ∷ b.1 = mark_got mark.Colon a.1 b.0 b.1 b.2 in
    let made : Parameter = record { name = a.0; type = c.0 } in
    let end : Got made c.1 ≡ Got p r = c.3 in
    let same : made ≡ p = cc in
    let rest : c.1 ≡ r = cc in
    record {
      front = NameOf a.0 ∷ MarkOf mark.Colon ∷ x.front;
      cut = head ∙ ap (λ l. NameOf a.0 ∷ l) (colon ∙ ap (λ l. MarkOf mark.Colon ∷ l) (x.cut ∙ ap (λ l. x.front ++ l) rest));
      holds = subst (ParameterIs (NameOf a.0 ∷ MarkOf mark.Colon ∷ x.front)) same (parameter a.0 x.front c.0 x.holds);
    }

pub parameter_complete : (ts : List TokenKind) (p : Parameter) → ParameterIs ts p → (r : List TokenKind) → parameter_read (ts ++ r) ≡ Got p r
unfolding parameter_read mark_read name_read
parameter_complete _ _ (parameter x ts t h) r = rw (type_complete ts t h r) refl

-- parameters behind commas, after some
pub record MoreRead (ps qs : List Parameter) (ts r : List TokenKind) : Type 0 where
  pub others : List Parameter
  pub all : qs ≡ ps ++ others
  pub fronts : Fronts (λ l. MoreParametersAre l others) ts r

more_stopped : (ps qs : List Parameter) (ts r : List TokenKind) → Got ps ts ≡ Got qs r → MoreRead ps qs ts r
more_stopped ps qs ts r e =
    let same : ps ≡ qs = cc in
    let rest : ts ≡ r = cc in
    record { others = []; all = sym same ∙ sym (append-nil ps); fronts = record { front = []; cut = rest; holds = no_more } }

abbrev MoreIsSound : ℕ → Type 0
MoreIsSound n = (ps qs : List Parameter) (ts r : List TokenKind) → more_at n ps ts ≡ Got qs r → MoreRead ps qs ts r

more_taken : (n : ℕ) → MoreIsSound n → (ps qs : List Parameter) (a r : List TokenKind) → (parameter_read a >>= λ p after. more_at n (ps ++ p ∷ []) after) ≡ Got qs r → MoreRead ps qs (MarkOf mark.Comma ∷ a) r
more_taken n sound ps qs a r e =
    let b = got (parameter_read a) (λ p after. more_at n (ps ++ p ∷ []) after) qs r e in
    let x = parameter_sound a b.0 b.1 b.2 in
    let m = sound (ps ++ b.0 ∷ []) qs b.1 r b.3 in
    record {
      others = b.0 ∷ m.others;
      all = m.all ∙ append_assoc ps (b.0 ∷ []) m.others;
      fronts = record {
        front = MarkOf mark.Comma ∷ (x.front ++ m.fronts.front);
        cut = ap (λ l. MarkOf mark.Comma ∷ l) (x.cut ∙ ap (λ l. x.front ++ l) m.fronts.cut ∙ sym (append_assoc x.front m.fronts.front r));
        holds = more x.front m.fronts.front b.0 m.others x.holds m.fronts.holds;
      };
    }

more_chosen : (n : ℕ) → MoreIsSound n → (ps qs : List Parameter) (ts r : List TokenKind) (x : Read (Unit {0})) → mark_read mark.Comma ts ≡ x
    → if_got x (λ _ a. parameter_read a >>= λ p after. more_at n (ps ++ p ∷ []) after) (Got ps ts) ≡ Got qs r → MoreRead ps qs ts r
more_chosen n sound ps qs ts r (Got u a) f e = subst (λ l. MoreRead ps qs l r) (sym (mark_got mark.Comma ts u a f)) (more_taken n sound ps qs a r e)
more_chosen n sound ps qs ts r Not f e = more_stopped ps qs ts r e

pub more_sound : (n : ℕ) → MoreIsSound n
unfolding more_at
more_sound zero ps qs ts r e = more_stopped ps qs ts r e
more_sound (suc n) ps qs ts r e = more_chosen n (more_sound n) ps qs ts r (mark_read mark.Comma ts) refl e

pub more_complete : (us : List TokenKind) (ms : List Parameter) → MoreParametersAre us ms → (n : ℕ) (ps : List Parameter) (r : List TokenKind) → length us ≤ n
    → more_at n ps (us ++ (MarkOf mark.CloseRound ∷ r)) ≡ Got (ps ++ ms) (MarkOf mark.CloseRound ∷ r)
unfolding more_at mark_read
more_complete _ _ no_more zero ps r le = ap (λ l. Got l (MarkOf mark.CloseRound ∷ r)) (sym (append-nil ps))
more_complete _ _ no_more (suc n) ps r le = ap (λ l. Got l (MarkOf mark.CloseRound ∷ r)) (sym (append-nil ps))
more_complete _ _ (more ts us p ms h rest) zero ps r le = absurd (omega arith)
more_complete _ _ (more ts us p ms h rest) (suc n) ps r le =
    ap (λ l. parameter_read l >>= λ q after. more_at n (ps ++ q ∷ []) after) (append_assoc ts us (MarkOf mark.CloseRound ∷ r))
    ∙ ap (λ v. v >>= λ q after. more_at n (ps ++ q ∷ []) after) (parameter_complete ts p h (us ++ (MarkOf mark.CloseRound ∷ r)))
    ∙ more_complete us ms rest n (ps ++ p ∷ []) r (omega (arith, length-append ts us))
    ∙ ap (λ l. Got l (MarkOf mark.CloseRound ∷ r)) (append_assoc ps (p ∷ []) ms)

some_sound : (ps : List Parameter) (ts r : List TokenKind) → (parameter_read ts >>= λ p after. more_at (length after) (p ∷ []) after) ≡ Got ps r → Fronts (λ l. ParametersAre l ps) ts r
some_sound ps ts r e =
    let a = got (parameter_read ts) (λ p after. more_at (length after) (p ∷ []) after) ps r e in
    let x = parameter_sound ts a.0 a.1 a.2 in
    let m = more_sound (length a.1) (a.0 ∷ []) ps a.1 r a.3 in
    record {
      front = x.front ++ m.fronts.front;
      cut = x.cut ∙ ap (λ l. x.front ++ l) m.fronts.cut ∙ sym (append_assoc x.front m.fronts.front r);
      holds = subst (ParametersAre (x.front ++ m.fronts.front)) (sym m.all) (some x.front m.fronts.front a.0 m.others x.holds m.fronts.holds);
    }

none_sound : (ps : List Parameter) (ts r : List TokenKind) → Got [] ts ≡ Got ps r → Fronts (λ l. ParametersAre l ps) ts r
none_sound ps ts r e =
    let same : [] ≡ ps = cc in
    let rest : ts ≡ r = cc in
    record { front = []; cut = rest; holds = subst (ParametersAre []) same none }

parameters_chosen : (ps : List Parameter) (ts r : List TokenKind) (x : Read (List ℕ)) → if_got x (λ _ _. parameter_read ts >>= λ p after. more_at (length after) (p ∷ []) after) (Got [] ts) ≡ Got ps r
    → Fronts (λ l. ParametersAre l ps) ts r
parameters_chosen ps ts r (Got y a) e = some_sound ps ts r e
parameters_chosen ps ts r Not e = none_sound ps ts r e

pub parameters_sound : (ts : List TokenKind) (ps : List Parameter) (r : List TokenKind) → parameters_read ts ≡ Got ps r → Fronts (λ l. ParametersAre l ps) ts r
unfolding parameters_read
parameters_sound ts ps r e = parameters_chosen ps ts r (name_read ts) e

begins_with_name : {A : Type 0} (f : List ℕ → List TokenKind → Read A) (g : Read A) (ts : List TokenKind) (p : Parameter) → ParameterIs ts p → (r : List TokenKind) → (x : List ℕ) × (a : List TokenKind) × (if_got (name_read (ts ++ r)) f g ≡ f x a)
unfolding name_read
begins_with_name f g _ _ (parameter x ts t h) r = (x, MarkOf mark.Colon ∷ (ts ++ r), refl)

pub parameters_complete : (ts : List TokenKind) (ps : List Parameter) → ParametersAre ts ps → (r : List TokenKind) → parameters_read (ts ++ (MarkOf mark.CloseRound ∷ r)) ≡ Got ps (MarkOf mark.CloseRound ∷ r)
unfolding parameters_read name_read
parameters_complete _ _ none r = refl
parameters_complete _ _ (some ts us p ps h rest) r =
    let close = MarkOf mark.CloseRound ∷ r in
    ap parameters_read (append_assoc ts us close)
    ∙ (begins_with_name _ _ ts p h (us ++ close)).2
    ∙ ap (λ v. v >>= λ q after. more_at (length after) (q ∷ []) after) (parameter_complete ts p h (us ++ close))
    ∙ more_complete us ps rest (length (us ++ close)) (p ∷ []) r (omega (arith, length-append us close))
