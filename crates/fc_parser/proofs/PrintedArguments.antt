-- Expressions in a row, with commas between them.
use Rattle.std.proofs.Common.{ℕ, Bool, List, [], ◌∷◌, ◌++◌, map, codes, refl, ap, sym, append_assoc}
use Rattle.fc_lexer.specs.declared.tokens.Mark.TheVariants as mark
use Rattle.fc_lexer.specs.Kinds.{TokenKind, MarkOf}
use Rattle.fc_syntax.specs.Terms.{SourceTerms, NoTerms, MoreTerms}
use Rattle.fc_syntax.specs.Text.{text, all_written, behind_commas, with_commas}
use Rattle.fc_parser.specs.Grammar.{Arguments, MoreArguments}
use Rattle.fc_parser.proofs.PrintedRuns.{InWord, InSpace, Free, Meets, Inner, join, as_is, meets_more}
use Rattle.fc_parser.proofs.PrintedMarks.{close_round, comma, space}
use Rattle.fc_parser.proofs.PrintedForms.{PrintedTerm, as_expression}

-- each of them can be printed
abbrev pub AllPrinted : Bool → SourceTerms → Type 0
AllPrinted second NoTerms = Unit {0}
AllPrinted second (MoreTerms e es) = PrintedTerm second e × AllPrinted second es

-- their texts
abbrev pub texts : SourceTerms → List (List ℕ)
texts es = map (λ w. w.text) (all_written es)

-- what stands behind an argument, up to the closing bracket
record Tail (second : Bool) (es : SourceTerms) : Type 0 where
  ks : List TokenKind
  inner : Inner Free (behind_commas (texts es) ++ codes ")") (ks ++ (MarkOf mark.CloseRound ∷ []))
  starts : Meets InWord (behind_commas (texts es) ++ codes ")")
  derives : MoreArguments second ks es

tail : (second : Bool) (es : SourceTerms) → AllPrinted second es → Tail second es
tail second NoTerms ps = record { ks = []; inner = close_round; starts = refl; derives = MoreArguments.no_more }
tail second (MoreTerms e es) ps =
    let p = ps.0 in
    let t = tail second es ps.1 in
    record {
      ks = MarkOf mark.Comma ∷ (p.ks ++ t.ks);
      inner =
          as_is
          (ap (λ l. 44 ∷ 32 ∷ l) (sym (append_assoc (text e) (behind_commas (texts es)) (codes ")"))))
          (ap (λ l. MarkOf mark.Comma ∷ l) (sym (append_assoc p.ks t.ks (MarkOf mark.CloseRound ∷ []))))
          (join comma (join space (join p.inner t.inner t.starts) (meets_more InSpace (text e) (behind_commas (texts es) ++ codes ")") p.starts)) tt);
      starts = refl;
      derives = MoreArguments.more p.ks t.ks e es (as_expression second e p) t.derives;
    }

-- arguments, up to the closing bracket
pub record Opened (second : Bool) (es : SourceTerms) : Type 0 where
  pub ks : List TokenKind
  pub inner : Inner Free (with_commas (texts es) ++ codes ")") (ks ++ (MarkOf mark.CloseRound ∷ []))
  pub derives : Arguments second ks es

pub opened : (second : Bool) (es : SourceTerms) → AllPrinted second es → Opened second es
opened second NoTerms ps = record { ks = []; inner = close_round; derives = Arguments.none }
opened second (MoreTerms e es) ps =
    let p = ps.0 in
    let t = tail second es ps.1 in
    record {
      ks = p.ks ++ t.ks;
      inner =
          as_is
          (sym (append_assoc (text e) (behind_commas (texts es)) (codes ")")))
          (sym (append_assoc p.ks t.ks (MarkOf mark.CloseRound ∷ [])))
          (join p.inner t.inner t.starts);
      derives = Arguments.some p.ks t.ks e es (as_expression second e p) t.derives;
    }
