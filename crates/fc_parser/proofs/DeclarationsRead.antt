-- Declarations are read exactly.
use Rattle.std.proofs.Common.{ℕ, ◌≡◌, ◌==◌, Bool, List, [], ◌∷◌, ◌++◌, refl, ap, ◌∙◌, sym, subst, arith}
use Rattle.std.proofs.lemmas.Bool.{eqb-true}
use Rattle.fc_values.specs.declared.types.InputTy.{InputTy}
use Rattle.fc_values.specs.declared.types.InputTy.TheVariants as input
use Rattle.fc_lexer.specs.declared.tokens.Mark.TheVariants as mark
use Rattle.fc_values.specs.declared.names.Word.{Word}
use Rattle.fc_values.specs.declared.names.Word.TheVariants as word
use Rattle.fc_lexer.specs.Kinds.{TokenKind, NumberOf, WordOf, NameOf, MarkOf}
use Rattle.fc_syntax.specs.Printable.{IsNumber}
use Rattle.fc_syntax.specs.Terms.{SourceTerm, Declaration, LanguageIs, CeilingIs, InputIs, MetricIs, DefIs, MainIs}
use Rattle.fc_parser.specs.Grammar.{Expression, DeclarationIs, language, ceiling, truth_input, whole_input, metric, definition, main}
use Rattle.fc_parser.specs.Reading.{Got}
use Rattle.fc_parser.specs.Expressions.{expression_read, mark_read, name_read}
use Rattle.fc_parser.specs.Heads.{number_read, finish_read}
use Rattle.fc_parser.specs.Types.{type_read, parameters_read}
use Rattle.fc_parser.specs.Declarations.{Range, range_read, input_type_read, body_read, language_read, ceiling_read, input_read, metric_read, definition_read, main_read, after_word, declaration_read}
use Rattle.fc_parser.proofs.Steps.{got, same_value, same_rest, if_read, mark_got, number_got, name_got, finish_got, number_there, finish_there}
use Rattle.fc_parser.proofs.TypesRead.{type_sound, type_complete, parameters_sound, parameters_complete}
use Rattle.fc_parser.proofs.ExpressionLaws.{expression_sound, expression_complete}

-- all tokens are read, and they spell the declaration
pub record Spelled (second : Bool) (ts r : List TokenKind) (d : Declaration) : Type 0 where
  pub all : r ≡ []
  pub spells : DeclarationIs second ts d

spelled : (second : Bool) (ts us r : List TokenKind) (d e : Declaration) → r ≡ [] → ts ≡ us → e ≡ d → DeclarationIs second us e → Spelled second ts r d
spelled second ts us r d e all same is h = record { all = all; spells = subst (DeclarationIs second ts) is (subst (λ l. DeclarationIs second l e) (sym same) h) }

-- NUMBER .. NUMBER
record RangeRead (ts r : List TokenKind) (v : Range) : Type 0 where
  same : ts ≡ NumberOf v.least ∷ MarkOf mark.Dots ∷ NumberOf v.greatest ∷ r
  least : IsNumber v.least
  greatest : IsNumber v.greatest

range_as : (ts r : List TokenKind) (m n : ℕ) (v : Range) → record { least = m; greatest = n } ≡ v → ts ≡ NumberOf m ∷ MarkOf mark.Dots ∷ NumberOf n ∷ r → IsNumber m → IsNumber n → RangeRead ts r v
range_as ts r m n v e same h k = subst (RangeRead ts r) e (record { same = same; least = h; greatest = k })

range_got : (ts : List TokenKind) (v : Range) (r : List TokenKind) → range_read ts ≡ Got v r → RangeRead ts r v
unfolding range_read
range_got ts v r e =
    let a = got (number_read ts) _ v r e in
    let b = got (mark_read mark.Dots a.1) _ v r a.3 in
    let c = got (number_read b.1) _ v r b.3 in
    let x = number_got ts a.0 a.1 a.2 in
    let y = number_got b.1 c.0 c.1 c.2 in
    let dots : a.1 ≡ MarkOf mark.Dots ∷ b.1 = mark_got mark.Dots a.1 b.0 b.1 b.2 in
    let made : Range = record { least = a.0; greatest = c.0 } in
    let end : Got made c.1 ≡ Got v r = c.3 in
    let is : made ≡ v = cc in
    let rest : c.1 ≡ r = cc in
    range_as ts r a.0 c.0 v is (x.0 ∙ ap (λ l. NumberOf a.0 ∷ l) (dots ∙ ap (λ l. MarkOf mark.Dots ∷ l) (y.0 ∙ ap (λ l. NumberOf c.0 ∷ l) rest))) x.1 y.1

range_there : (m n : ℕ) (r : List TokenKind) → IsNumber m → IsNumber n → range_read (NumberOf m ∷ MarkOf mark.Dots ∷ NumberOf n ∷ r) ≡ Got (record { least = m; greatest = n }) r
unfolding range_read mark_read
range_there m n r h k = rw (number_there m (MarkOf mark.Dots ∷ NumberOf n ∷ r) h, number_there n r k) refl

-- = expr ;
record BodyRead (second : Bool) (ts r : List TokenKind) (e : SourceTerm) : Type 0 where
  us : List TokenKind
  all : r ≡ []
  same : ts ≡ MarkOf mark.Is ∷ (us ++ (MarkOf mark.Semi ∷ []))
  spells : Expression second us e

body_got : (second : Bool) (ts : List TokenKind) (e : SourceTerm) (r : List TokenKind) → body_read second ts ≡ Got e r → BodyRead second ts r e
unfolding body_read
body_got second ts e r h =
    let a = got (mark_read mark.Is ts) _ e r h in
    let b = got (expression_read second a.1) _ e r a.3 in
    let c = got (finish_read b.1) _ e r b.3 in
    let x = expression_sound second a.1 b.0 b.1 b.2 in
    let f = finish_got b.1 c.0 c.1 c.2 in
    let end : Got b.0 c.1 ≡ Got e r = c.3 in
    let is : b.0 ≡ e = cc in
    record {
      us = x.front;
      all = cc (f.1);
      same = mark_got mark.Is ts a.0 a.1 a.2 ∙ ap (λ l. MarkOf mark.Is ∷ l) (x.cut ∙ ap (λ l. x.front ++ l) f.0);
      spells = subst (Expression second x.front) is x.holds;
    }

body_there : (second : Bool) (ts : List TokenKind) (e : SourceTerm) → Expression second ts e → body_read second (MarkOf mark.Is ∷ (ts ++ (MarkOf mark.Semi ∷ []))) ≡ Got e []
unfolding body_read mark_read
body_there second ts e h = rw (expression_complete second ts e h (MarkOf mark.Semi ∷ []) tt, finish_there) refl

language_got : (second : Bool) (ts : List TokenKind) (d : Declaration) (r : List TokenKind) → language_read ts ≡ Got d r → Spelled second (WordOf word.Language ∷ ts) r d
unfolding language_read
language_got second ts d r e =
    let a = got (number_read ts) _ d r e in
    let b = got (finish_read a.1) _ d r a.3 in
    let i = if_read (a.0 == 2) (LanguageIs 2) d b.1 r b.3 in
    let x = number_got ts a.0 a.1 a.2 in
    let f = finish_got a.1 b.0 b.1 b.2 in
    let two : a.0 ≡ 2 = eqb-true a.0 2 i.0 in
    spelled second (WordOf word.Language ∷ ts) _ r d (LanguageIs 2) (sym i.2 ∙ f.1) (ap (λ l. WordOf word.Language ∷ l) (x.0 ∙ ap (λ n. NumberOf n ∷ a.1) two ∙ ap (λ l. NumberOf 2 ∷ l) f.0)) i.1 language

ceiling_got : (second : Bool) (ts : List TokenKind) (d : Declaration) (r : List TokenKind) → ceiling_read ts ≡ Got d r → Spelled second (WordOf word.Ceiling ∷ ts) r d
unfolding ceiling_read
ceiling_got second ts d r e =
    let a = got (number_read ts) _ d r e in
    let b = got (finish_read a.1) _ d r a.3 in
    let x = number_got ts a.0 a.1 a.2 in
    let f = finish_got a.1 b.0 b.1 b.2 in
    let end : Got (CeilingIs a.0) b.1 ≡ Got d r = b.3 in
    let is : CeilingIs a.0 ≡ d = cc in
    spelled second (WordOf word.Ceiling ∷ ts) _ r d (CeilingIs a.0) (cc (f.1)) (ap (λ l. WordOf word.Ceiling ∷ l) (x.0 ∙ ap (λ l. NumberOf a.0 ∷ l) f.0)) is (ceiling a.0 x.1)

-- NAME : and then a type and the end
input_as : (second : Bool) (x : List ℕ) (ts : List TokenKind) (t : InputTy) (c : List TokenKind) → input_type_read ts ≡ Got t c → c ≡ MarkOf mark.Semi ∷ []
    → DeclarationIs second (WordOf word.Input ∷ NameOf x ∷ MarkOf mark.Colon ∷ ts) (InputIs x t)
unfolding input_type_read
input_as second x [] t c e end = cc
input_as second x (WordOf word.Bool ∷ ts) t c e end =
    let is : input.Truth ≡ t = cc in
    let rest : ts ≡ MarkOf mark.Semi ∷ [] = cc in
    subst (λ l. DeclarationIs second (WordOf word.Input ∷ NameOf x ∷ MarkOf mark.Colon ∷ WordOf word.Bool ∷ l) (InputIs x t)) (sym rest)
    (subst (λ u. DeclarationIs second (WordOf word.Input ∷ NameOf x ∷ MarkOf mark.Colon ∷ WordOf word.Bool ∷ MarkOf mark.Semi ∷ []) (InputIs x u)) is (truth_input x))
input_as second x (WordOf word.Int ∷ ts) t c e end =
    let a = got (range_read ts) (λ r after. Got (input.Whole r.least r.greatest) after) t c e in
    let v = range_got ts a.0 a.1 a.2 in
    let last : Got (input.Whole a.0.least a.0.greatest) a.1 ≡ Got t c = a.3 in
    let is : input.Whole a.0.least a.0.greatest ≡ t = cc in
    let rest : a.1 ≡ MarkOf mark.Semi ∷ [] = cc in
    let whole : ts ≡ NumberOf a.0.least ∷ MarkOf mark.Dots ∷ NumberOf a.0.greatest ∷ MarkOf mark.Semi ∷ [] = v.same ∙ ap (λ l. NumberOf a.0.least ∷ MarkOf mark.Dots ∷ NumberOf a.0.greatest ∷ l) rest in
    subst (λ l. DeclarationIs second (WordOf word.Input ∷ NameOf x ∷ MarkOf mark.Colon ∷ WordOf word.Int ∷ l) (InputIs x t)) (sym whole)
    (subst (λ u. DeclarationIs second (WordOf word.Input ∷ NameOf x ∷ MarkOf mark.Colon ∷ WordOf word.Int ∷ NumberOf a.0.least ∷ MarkOf mark.Dots ∷ NumberOf a.0.greatest ∷ MarkOf mark.Semi ∷ []) (InputIs x u)) is
    (whole_input x a.0.least a.0.greatest v.least v.greatest))
input_as second x (k ∷ ts) t c e end = cc

input_got : (second : Bool) (ts : List TokenKind) (d : Declaration) (r : List TokenKind) → input_read ts ≡ Got d r → Spelled second (WordOf word.Input ∷ ts) r d
unfolding input_read
input_got second ts d r e =
    let a = got (name_read ts) _ d r e in
    let b = got (mark_read mark.Colon a.1) _ d r a.3 in
    let c = got (input_type_read b.1) _ d r b.3 in
    let f = got (finish_read c.1) _ d r c.3 in
    let z = finish_got c.1 f.0 f.1 f.2 in
    let end : Got (InputIs a.0 c.0) f.1 ≡ Got d r = f.3 in
    let is : InputIs a.0 c.0 ≡ d = cc in
    spelled second (WordOf word.Input ∷ ts) _ r d (InputIs a.0 c.0) (cc (z.1)) (ap (λ l. WordOf word.Input ∷ l) (name_got ts a.0 a.1 a.2 ∙ ap (λ l. NameOf a.0 ∷ l) (mark_got mark.Colon a.1 b.0 b.1 b.2))) is
    (input_as second a.0 b.1 c.0 c.1 c.2 z.0)

metric_got : (second : Bool) (ts : List TokenKind) (d : Declaration) (r : List TokenKind) → metric_read ts ≡ Got d r → Spelled second (WordOf word.Metric ∷ ts) r d
unfolding metric_read
metric_got second ts d r e =
    let a = got (range_read ts) _ d r e in
    let b = got (finish_read a.1) _ d r a.3 in
    let v = range_got ts a.0 a.1 a.2 in
    let f = finish_got a.1 b.0 b.1 b.2 in
    let end : Got (MetricIs a.0.least a.0.greatest) b.1 ≡ Got d r = b.3 in
    let is : MetricIs a.0.least a.0.greatest ≡ d = cc in
    spelled second (WordOf word.Metric ∷ ts) _ r d (MetricIs a.0.least a.0.greatest) (cc (f.1))
    (ap (λ l. WordOf word.Metric ∷ l) (v.same ∙ ap (λ l. NumberOf a.0.least ∷ MarkOf mark.Dots ∷ NumberOf a.0.greatest ∷ l) f.0)) is (metric a.0.least a.0.greatest v.least v.greatest)

definition_got : (second : Bool) (ts : List TokenKind) (d : Declaration) (r : List TokenKind) → definition_read second ts ≡ Got d r → Spelled second (WordOf word.Def ∷ ts) r d
unfolding definition_read
definition_got second ts d r e =
    let a = got (name_read ts) _ d r e in
    let b = got (mark_read mark.OpenRound a.1) _ d r a.3 in
    let c = got (parameters_read b.1) _ d r b.3 in
    let f = got (mark_read mark.CloseRound c.1) _ d r c.3 in
    let g = got (mark_read mark.Colon f.1) _ d r f.3 in
    let h = got (type_read g.1) _ d r g.3 in
    let i = got (body_read second h.1) _ d r h.3 in
    let x = parameters_sound b.1 c.0 c.1 c.2 in
    let y = type_sound g.1 h.0 h.1 h.2 in
    let z = body_got second h.1 i.0 i.1 i.2 in
    let made = DefIs a.0 c.0 h.0 i.0 in
    let is : made ≡ d = same_value made d i.1 r i.3 in
    spelled second (WordOf word.Def ∷ ts) _ r d made (sym (same_rest made d i.1 r i.3) ∙ z.all)
    (ap (λ l. WordOf word.Def ∷ l) (name_got ts a.0 a.1 a.2 ∙ ap (λ l. NameOf a.0 ∷ l) (mark_got mark.OpenRound a.1 b.0 b.1 b.2 ∙ ap (λ l. MarkOf mark.OpenRound ∷ l) (x.cut ∙ ap (λ l. x.front ++ l)
    (mark_got mark.CloseRound c.1 f.0 f.1 f.2 ∙ ap (λ l. MarkOf mark.CloseRound ∷ l) (mark_got mark.Colon f.1 g.0 g.1 g.2 ∙ ap (λ l. MarkOf mark.Colon ∷ l) (y.cut ∙ ap (λ l. y.front ++ l) z.same))))))) is
    (definition a.0 x.front y.front z.us c.0 h.0 i.0 x.holds y.holds z.spells)

main_got : (second : Bool) (ts : List TokenKind) (d : Declaration) (r : List TokenKind) → main_read second ts ≡ Got d r → Spelled second (WordOf word.Main ∷ ts) r d
unfolding main_read
main_got second ts d r e =
    let a = got (body_read second ts) (λ e rest. Got (MainIs e) rest) d r e in
    let z = body_got second ts a.0 a.1 a.2 in
    let end : Got (MainIs a.0) a.1 ≡ Got d r = a.3 in
    let is : MainIs a.0 ≡ d = cc in
    spelled second (WordOf word.Main ∷ ts) _ r d (MainIs a.0) (cc (z.all)) (ap (λ l. WordOf word.Main ∷ l) z.same) is (main z.us a.0 z.spells)

word_got : (second : Bool) (w : Word) (ts : List TokenKind) (d : Declaration) (r : List TokenKind) → after_word second w ts ≡ Got d r → Spelled second (WordOf w ∷ ts) r d
word_got second word.Language ts d r e = language_got second ts d r e
word_got second word.Ceiling ts d r e = ceiling_got second ts d r e
word_got second word.Input ts d r e = input_got second ts d r e
word_got second word.Metric ts d r e = metric_got second ts d r e
word_got second word.Def ts d r e = definition_got second ts d r e
word_got second word.Main ts d r e = main_got second ts d r e
word_got second w ts d r e = cc

pub declaration_sound : (second : Bool) (ts : List TokenKind) (d : Declaration) (r : List TokenKind) → declaration_read second ts ≡ Got d r → Spelled second ts r d
unfolding declaration_read
declaration_sound second [] d r e = cc
declaration_sound second (NumberOf n ∷ ts) d r e = cc
declaration_sound second (WordOf w ∷ ts) d r e = word_got second w ts d r e
declaration_sound second (NameOf x ∷ ts) d r e = cc
declaration_sound second (MarkOf m ∷ ts) d r e = cc

pub declaration_complete : (second : Bool) (ts : List TokenKind) (d : Declaration) → DeclarationIs second ts d → declaration_read second ts ≡ Got d []
unfolding declaration_read language_read ceiling_read input_read input_type_read metric_read definition_read main_read mark_read name_read
declaration_complete second _ _ language = rw (number_there 2 (MarkOf mark.Semi ∷ []) (omega arith), finish_there) refl
declaration_complete second _ _ (ceiling n h) = rw (number_there n (MarkOf mark.Semi ∷ []) h, finish_there) refl
declaration_complete second _ _ (truth_input x) = rw finish_there refl
declaration_complete second _ _ (whole_input x m n h k) = rw (range_there m n (MarkOf mark.Semi ∷ []) h k, finish_there) refl
declaration_complete second _ _ (metric m n h k) = rw (range_there m n (MarkOf mark.Semi ∷ []) h k, finish_there) refl
declaration_complete second _ _ (definition f ts us vs ps t e p h x) =
    rw (parameters_complete ts ps p (MarkOf mark.Colon ∷ (us ++ (MarkOf mark.Is ∷ (vs ++ (MarkOf mark.Semi ∷ []))))), type_complete us t h (MarkOf mark.Is ∷ (vs ++ (MarkOf mark.Semi ∷ []))), body_there second vs e x) refl
declaration_complete second _ _ (main ts e x) = rw (body_there second ts e x) refl
