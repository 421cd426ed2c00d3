-- Declarations, as they are printed, without their `;`.
use Rattle.std.proofs.Common.{ℕ, ◌≡◌, ◌≤◌, Bool, List, [], ◌∷◌, ◌++◌, map, codes, decimal, refl, ap, ◌∙◌, sym, subst, arith, append_assoc}
use Rattle.fc_values.specs.Types.{ValueType}
use Rattle.fc_values.specs.declared.types.InputTy.{InputTy}
use Rattle.fc_values.specs.declared.types.InputTy.TheVariants as input
use Rattle.fc_lexer.specs.declared.tokens.Mark.TheVariants as mark
use Rattle.fc_values.specs.declared.names.Word.TheVariants as word
use Rattle.fc_lexer.specs.Kinds.{TokenKind, NumberOf, WordOf, NameOf, MarkOf}
use Rattle.fc_syntax.specs.Terms.{SourceTerm, Parameter, Declaration, LanguageIs, CeilingIs, InputIs, MetricIs, DefIs, MainIs}
use Rattle.fc_syntax.specs.Text.{text, with_commas, type_text, input_type_text, parameter_text, declaration_text}
use Rattle.fc_values.specs.Names.{IsName}
use Rattle.fc_syntax.specs.Printable.{IsNumber, IsInputType, HaveNames, IsExpression, IsInner}
use Rattle.fc_parser.specs.Grammar.{DeclarationIs}
use Rattle.fc_parser.proofs.PrintedRuns.{InWord, InSpace, Meets, Inner, join, as_is, meets_more}
use Rattle.fc_parser.proofs.PrintedSeams.{seam_three, seam_closed}
use Rattle.fc_parser.proofs.PrintedMarks.{open_round, colon, dots, equals, space}
use Rattle.fc_parser.proofs.PrintedWords.{spelled}
use Rattle.fc_parser.proofs.PrintedNames.{name_run, name_starts}
use Rattle.fc_parser.proofs.PrintedNumbers.{number_run, number_starts}
use Rattle.fc_parser.proofs.PrintedForms.{Printed, as_expression}
use Rattle.fc_parser.proofs.PrintedTerms.{term_form}
use Rattle.fc_parser.proofs.PrintedTypes.{type_form, opened}

-- a declaration, whose kinds spell it with a `;` behind them
abbrev pub PrintedDeclaration : Bool → Declaration → Type 0
PrintedDeclaration second d = Printed (λ ks. DeclarationIs second (ks ++ (MarkOf mark.Semi ∷ [])) d) (declaration_text d)

pub language_form : (second : Bool) (n : ℕ) → n ≡ 2 → PrintedDeclaration second (LanguageIs n)
language_form second n e =
    let small : n ≤ 1000000 = omega arith in
    record {
      ks = WordOf word.Language ∷ NumberOf n ∷ [];
      inner = join (spelled word.Language) (join space (number_run n small) (number_starts n small)) refl;
      starts = refl;
      derives = subst (λ k. DeclarationIs second (WordOf word.Language ∷ NumberOf k ∷ MarkOf mark.Semi ∷ []) (LanguageIs k)) (sym e) DeclarationIs.language;
    }

pub ceiling_form : (second : Bool) (n : ℕ) → IsNumber n → PrintedDeclaration second (CeilingIs n)
ceiling_form second n h = record {
  ks = WordOf word.Ceiling ∷ NumberOf n ∷ [];
  inner = join (spelled word.Ceiling) (join space (number_run n h) (number_starts n h)) refl;
  starts = refl;
  derives = DeclarationIs.ceiling n h;
}

-- two numbers with `..` between them
range_run : (m n : ℕ) → IsNumber m → IsNumber n → Inner InWord (decimal m ++ codes ".." ++ decimal n) (NumberOf m ∷ MarkOf mark.Dots ∷ NumberOf n ∷ [])
range_run m n h g = as_is (seam_three (decimal m) (codes "..") (decimal n)) refl (join (number_run m h) (join dots (number_run n g) tt) refl)

range_starts : (m n : ℕ) → IsNumber m → Meets InSpace (decimal m ++ codes ".." ++ decimal n)
range_starts m n h = meets_more InSpace (decimal m ++ codes "..") (decimal n) (meets_more InSpace (decimal m) (codes "..") (number_starts m h))

metric_form : (second : Bool) (m n : ℕ) → IsNumber m → IsNumber n → PrintedDeclaration second (MetricIs m n)
metric_form second m n h g = record {
  ks = WordOf word.Metric ∷ NumberOf m ∷ MarkOf mark.Dots ∷ NumberOf n ∷ [];
  inner = as_is (ap (λ l. codes "metric " ++ l) refl) refl (join (spelled word.Metric) (join space (range_run m n h g) (range_starts m n h)) refl);
  starts = refl;
  derives = DeclarationIs.metric m n h g;
}

input_form : (second : Bool) (x : List ℕ) (t : InputTy) → IsName x → IsInputType t → PrintedDeclaration second (InputIs x t)
input_form second x input.Truth h g = record {
  ks = WordOf word.Input ∷ NameOf x ∷ MarkOf mark.Colon ∷ WordOf word.Bool ∷ [];
  inner =
      as_is (ap (λ l. codes "input " ++ l) (seam_three x (codes ": ") (codes "bool"))) refl
      (join (spelled word.Input) (join space (join (name_run x h) (join colon (join space (spelled word.Bool) refl) tt) refl) (meets_more InSpace x _ (name_starts x h))) refl);
  starts = refl;
  derives = DeclarationIs.truth_input x;
}
input_form second x (input.Whole m n) h g = record {
  ks = WordOf word.Input ∷ NameOf x ∷ MarkOf mark.Colon ∷ WordOf word.Int ∷ NumberOf m ∷ MarkOf mark.Dots ∷ NumberOf n ∷ [];
  inner =
      as_is (ap (λ l. codes "input " ++ l) (seam_three x (codes ": ") (input_type_text (input.Whole m n)))) refl
      (join (spelled word.Input) (join space (join (name_run x h) (join colon (join space (join (spelled word.Int) (join space (range_run m n g.0 g.1) (range_starts m n g.0)) refl) refl) tt) refl) (meets_more InSpace x _ (name_starts x h))) refl);
  starts = refl;
  derives = DeclarationIs.whole_input x m n g.0 g.1;
}

-- the kinds of a definition, with the `;` behind them
def_kinds : (ts us vs : List TokenKind) (a c e s : TokenKind)
    → ((ts ++ (a ∷ [])) ++ (c ∷ (us ++ (e ∷ vs)))) ++ (s ∷ []) ≡ ts ++ (a ∷ c ∷ (us ++ (e ∷ (vs ++ (s ∷ [])))))
def_kinds ts us vs a c e s =
    append_assoc (ts ++ (a ∷ [])) (c ∷ (us ++ (e ∷ vs))) (s ∷ []) ∙ append_assoc ts (a ∷ []) (c ∷ ((us ++ (e ∷ vs)) ++ (s ∷ []))) ∙ ap (λ l. ts ++ (a ∷ c ∷ l)) (append_assoc us (e ∷ vs) (s ∷ []))

def_form : (second : Bool) (f : List ℕ) (ps : List Parameter) (t : ValueType) (e : SourceTerm) → IsName f → HaveNames ps → IsExpression second e
    → PrintedDeclaration second (DefIs f ps t e)
def_form second f ps t e h g k =
    let o = opened ps g in
    let p = type_form t in
    let q = term_form second e k in
    let body = join space (join equals (join space q.inner q.starts) refl) refl in
    let typed = join o.inner (join colon (join space (join p.inner body refl) (meets_more InSpace (type_text t) _ p.starts)) tt) tt in
    record {
      ks = WordOf word.Def ∷ NameOf f ∷ MarkOf mark.OpenRound ∷ ((o.ks ++ (MarkOf mark.CloseRound ∷ [])) ++ (MarkOf mark.Colon ∷ (p.ks ++ (MarkOf mark.Is ∷ q.ks))));
      inner =
          as_is (ap (λ l. codes "def " ++ l) (seam_closed f (codes "(") (with_commas (map parameter_text ps)) (codes ")") (codes ": ") (type_text t) (codes " = ") (text e))) refl
          (join (spelled word.Def) (join space (join (name_run f h) (join open_round typed tt) refl) (meets_more InSpace f _ (name_starts f h))) refl);
      starts = refl;
      derives =
          subst (λ l. DeclarationIs second (WordOf word.Def ∷ NameOf f ∷ MarkOf mark.OpenRound ∷ l) (DefIs f ps t e))
          (sym (def_kinds o.ks p.ks q.ks (MarkOf mark.CloseRound) (MarkOf mark.Colon) (MarkOf mark.Is) (MarkOf mark.Semi)))
          (DeclarationIs.definition f o.ks p.ks q.ks ps t e o.derives p.derives (as_expression second e q));
    }

pub main_form : (second : Bool) (e : SourceTerm) → IsExpression second e → PrintedDeclaration second (MainIs e)
main_form second e k =
    let q = term_form second e k in
    record {
      ks = WordOf word.Main ∷ MarkOf mark.Is ∷ q.ks;
      inner = join (spelled word.Main) (join space (join equals (join space q.inner q.starts) refl) refl) refl;
      starts = refl;
      derives = DeclarationIs.main q.ks e (as_expression second e q);
    }

pub inner_form : (second : Bool) (d : Declaration) → IsInner second d → PrintedDeclaration second d
inner_form second (LanguageIs n) h = absurd h
inner_form second (CeilingIs n) h = absurd h
inner_form second (InputIs x t) h = input_form second x t h.0 h.1
inner_form second (MetricIs m n) h = metric_form second m n h.0 h.1
inner_form second (DefIs f ps t e) h = def_form second f ps t e h.0 h.1 h.2
inner_form second (MainIs e) h = absurd h
