-- Programs, as they are printed.
use Rattle.std.proofs.Common.{ℕ, ◌≡◌, Bool, true, false, ◌||◌, if◌then◌else◌, List, [], ◌∷◌, ◌++◌, refl, ap, ◌∙◌, sym, subst, append_assoc, append-nil, Some}
use Rattle.std.specs.List.{list_any}
use Rattle.fc_lexer.specs.declared.tokens.Mark.TheVariants as mark
use Rattle.fc_lexer.specs.Kinds.{TokenKind, MarkOf, TokenView}
use Rattle.fc_syntax.specs.Terms.{Declaration, LanguageIs, CeilingIs, InputIs, MetricIs, DefIs, MainIs}
use Rattle.fc_syntax.specs.Text.{declaration_text, program_text}
use Rattle.fc_syntax.specs.Printable.{IsInner, EndWithMain, BeginWithCeiling, IsPrintable}
use Rattle.fc_parser.specs.Grammar.{DeclarationIs}
use Rattle.fc_parser.specs.Programs.{kinds, is_semi, onto_piece, pieces, Place, First, AfterLanguage, AfterCeiling, AfterMain, is_second, next_place, Follow, ended}
use Rattle.fc_parser.proofs.PrintedRuns.{InWord, InSpace, Free, Meets, Run, run_join, meets_more}
use Rattle.fc_parser.proofs.PrintedMarks.{semi, line_feed}
use Rattle.fc_parser.proofs.PrintedDeclarations.{PrintedDeclaration, language_form, ceiling_form, main_form, inner_form}

-- the tokens up to the first `;`, and the rest
record FirstCut (tokens : List TokenView) (ks ls : List TokenKind) : Type 0 where
  piece : List TokenView
  rest : List TokenView
  cut : pieces tokens ≡ piece ∷ pieces rest
  piece_kinds : kinds piece ≡ ks ++ (MarkOf mark.Semi ∷ [])
  rest_kinds : kinds rest ≡ ls

or_two : (a b : Bool) → (a || b) ≡ false → (a ≡ false) × (b ≡ false)
or_two false false h = (refl, refl)
or_two false true h = cc
or_two true b h = cc

first_cut : (ks ls : List TokenKind) (tokens : List TokenView) → list_any is_semi ks ≡ false → kinds tokens ≡ ks ++ (MarkOf mark.Semi ∷ ls) → FirstCut tokens ks ls
first_cut [] ls [] n e = cc
first_cut [] ls (t ∷ ts) n e =
    let k : t.kind ≡ MarkOf mark.Semi = cc in
    let r : kinds ts ≡ ls = cc in
    record {
      piece = t ∷ [];
      rest = ts;
      cut = ap (λ kind. if is_semi kind then (t ∷ []) ∷ pieces ts else onto_piece t (pieces ts)) k;
      piece_kinds = ap (λ kind. kind ∷ []) k;
      rest_kinds = r;
    }
first_cut (k ∷ ks) ls [] n e = cc
first_cut (k ∷ ks) ls (t ∷ ts) n e =
    let both = or_two (is_semi k) (list_any is_semi ks) n in
    let q : t.kind ≡ k = cc in
    let r : kinds ts ≡ ks ++ (MarkOf mark.Semi ∷ ls) = cc in
    let c = first_cut ks ls ts both.1 r in
    let no : is_semi t.kind ≡ false = ap is_semi q ∙ both.0 in
    record {
      piece = t ∷ c.piece;
      rest = c.rest;
      cut = ap (λ s. if s then (t ∷ []) ∷ pieces ts else onto_piece t (pieces ts)) no ∙ ap (onto_piece t) c.cut;
      piece_kinds = ap (λ kind. kind ∷ kinds c.piece) q ∙ ap (λ l. k ∷ l) c.piece_kinds;
      rest_kinds = c.rest_kinds;
    }

-- Tokens of a declaration, its `;` and what follows.
follow_more : (place after : Place) (d : Declaration) (ds : List Declaration) (p : PrintedDeclaration (is_second place) d) (ls : List TokenKind) → next_place place d ≡ Some after
    → ((tokens : List TokenView) → kinds tokens ≡ ls → Follow after (pieces tokens) ds)
    → (tokens : List TokenView) → kinds tokens ≡ (p.ks ++ (MarkOf mark.Semi ∷ [])) ++ ls → Follow place (pieces tokens) (d ∷ ds)
follow_more place after d ds p ls o f tokens e =
    let c = first_cut p.ks ls tokens p.inner.no_semi (e ∙ append_assoc p.ks (MarkOf mark.Semi ∷ []) ls) in
    subst (λ l. Follow place l (d ∷ ds)) (sym c.cut)
    (Follow.then place after c.piece (pieces c.rest) d ds
    (record { spells = subst (λ l. DeclarationIs (is_second place) l d) (sym c.piece_kinds) p.derives; order = o })
    (f c.rest c.rest_kinds))

no_tokens : (second : Bool) (tokens : List TokenView) → kinds tokens ≡ [] → Follow (AfterMain second) (pieces tokens) []
no_tokens second [] e = ended second
no_tokens second (t ∷ ts) e = cc

-- Declarations from a place on: their text is a run of pieces, and tokens of its kinds spell them.
pub record PrintedFrom (place : Place) (ds : List Declaration) : Type 0 where
  pub ks : List TokenKind
  pub run : Run InSpace (program_text ds) ks
  pub starts : Meets InSpace (program_text ds)
  pub follows : (tokens : List TokenView) → kinds tokens ≡ ks → Follow place (pieces tokens) ds

-- a declaration on its line
line_run : (second : Bool) (d : Declaration) (p : PrintedDeclaration second d) → Run InSpace (declaration_text d ++ 59 ∷ 10 ∷ []) (p.ks ++ (MarkOf mark.Semi ∷ []))
line_run second d p =
    run_join InWord InSpace (declaration_text d) (59 ∷ 10 ∷ []) p.ks (MarkOf mark.Semi ∷ []) p.inner.run
    (run_join Free InSpace (59 ∷ []) (10 ∷ []) (MarkOf mark.Semi ∷ []) [] semi line_feed tt) refl

line_starts : (second : Bool) (d : Declaration) → PrintedDeclaration second d → Meets InSpace (declaration_text d ++ 59 ∷ 10 ∷ [])
line_starts second d p = meets_more InSpace (declaration_text d) (59 ∷ 10 ∷ []) p.starts

one_more : (place after : Place) (d : Declaration) (ds : List Declaration) → PrintedDeclaration (is_second place) d → next_place place d ≡ Some after → PrintedFrom after ds → PrintedFrom place (d ∷ ds)
one_more place after d ds p o w = record {
  ks = (p.ks ++ (MarkOf mark.Semi ∷ [])) ++ w.ks;
  run = run_join InSpace InSpace (declaration_text d ++ 59 ∷ 10 ∷ []) (program_text ds) (p.ks ++ (MarkOf mark.Semi ∷ [])) w.ks (line_run (is_second place) d p) w.run w.starts;
  starts = meets_more InSpace (declaration_text d ++ 59 ∷ 10 ∷ []) (program_text ds) (line_starts (is_second place) d p);
  follows = follow_more place after d ds p w.ks o w.follows;
}

run_as : (a b : List ℕ) (ks ls : List TokenKind) → a ≡ b → ks ≡ ls → Run InSpace a ks → Run InSpace b ls
run_as a b ks ls p q r = subst (λ l. Run InSpace b l) q (subst (λ l. Run InSpace l ks) p r)

the_last : (second : Bool) (d : Declaration) → PrintedDeclaration second d → next_place (AfterCeiling second) d ≡ Some (AfterMain second) → PrintedFrom (AfterCeiling second) (d ∷ [])
the_last second d p o = record {
  ks = (p.ks ++ (MarkOf mark.Semi ∷ [])) ++ [];
  run = run_as _ _ _ _ (sym (append-nil (declaration_text d ++ 59 ∷ 10 ∷ []))) (sym (append-nil (p.ks ++ (MarkOf mark.Semi ∷ [])))) (line_run second d p);
  starts = meets_more InSpace (declaration_text d ++ 59 ∷ 10 ∷ []) [] (line_starts second d p);
  follows = follow_more (AfterCeiling second) (AfterMain second) d [] p [] o (no_tokens second);
}

inner_order : (second : Bool) (d : Declaration) → IsInner second d → next_place (AfterCeiling second) d ≡ Some (AfterCeiling second)
inner_order second (LanguageIs n) h = absurd h
inner_order second (CeilingIs n) h = absurd h
inner_order second (InputIs x t) h = refl
inner_order second (MetricIs m n) h = refl
inner_order second (DefIs f ps t e) h = refl
inner_order second (MainIs e) h = absurd h

within : (second : Bool) (ds : List Declaration) → EndWithMain second ds → PrintedFrom (AfterCeiling second) ds
within second [] h = absurd h
within second (LanguageIs n ∷ []) h = absurd h
within second (CeilingIs n ∷ []) h = absurd h
within second (InputIs x t ∷ []) h = absurd h
within second (MetricIs m n ∷ []) h = absurd h
within second (DefIs f ps t e ∷ []) h = absurd h
within second (MainIs e ∷ []) h = the_last second (MainIs e) (main_form second e h) refl
within second (d ∷ d' ∷ ds) h = one_more (AfterCeiling second) (AfterCeiling second) d (d' ∷ ds) (inner_form second d h.0) (inner_order second d h.0) (within second (d' ∷ ds) h.1)

after_language : (ds : List Declaration) → BeginWithCeiling true ds → PrintedFrom AfterLanguage ds
after_language [] h = absurd h
after_language (LanguageIs n ∷ ds) h = absurd h
after_language (CeilingIs n ∷ ds) h = one_more AfterLanguage (AfterCeiling true) (CeilingIs n) ds (ceiling_form true n h.0) refl (within true ds h.1)
after_language (InputIs x t ∷ ds) h = absurd h
after_language (MetricIs m n ∷ ds) h = absurd h
after_language (DefIs f ps t e ∷ ds) h = absurd h
after_language (MainIs e ∷ ds) h = absurd h

pub program_form : (ds : List Declaration) → IsPrintable ds → PrintedFrom First ds
program_form [] h = absurd h
program_form (LanguageIs n ∷ ds) h = one_more First AfterLanguage (LanguageIs n) ds (language_form false n h.0) refl (after_language ds h.1)
program_form (CeilingIs n ∷ ds) h = one_more First (AfterCeiling false) (CeilingIs n) ds (ceiling_form false n h.0) refl (within false ds h.1)
program_form (InputIs x t ∷ ds) h = absurd h
program_form (MetricIs m n ∷ ds) h = absurd h
program_form (DefIs f ps t e ∷ ds) h = absurd h
program_form (MainIs e ∷ ds) h = absurd h
