-- Each expression of the grammar, as it is printed.
use Rattle.std.proofs.Common.{ℕ, ◌≡◌, Bool, true, false, List, [], ◌∷◌, ◌++◌, codes, refl, ap}
use Rattle.fc_lexer.specs.declared.tokens.Mark.TheVariants as mark
use Rattle.fc_values.specs.declared.names.Word.TheVariants as word
use Rattle.fc_lexer.specs.Kinds.{NumberOf, WordOf, NameOf, MarkOf}
use Rattle.fc_syntax.specs.Terms.{SourceTerm, IntTerm, TruthTerm, VarTerm, UidTerm, NbrLinkTerm, SenseTerm, ApplyTerm, NbrTerm, RepTerm, ShareTerm, IfTerm, LetTerm, CallTerm, SourceTerms, NoTerms, MoreTerms}
use Rattle.fc_syntax.specs.Text.{text, with_commas}
use Rattle.fc_values.specs.Names.{IsName}
use Rattle.fc_syntax.specs.Printable.{IsExpression, AreExpressions}
use Rattle.fc_parser.specs.Grammar.{Atom, atom, binding}
use Rattle.fc_parser.proofs.PrintedRuns.{InSpace, join, loose, as_is, meets_more}
use Rattle.fc_parser.proofs.PrintedSeams.{seam_four, seam_five, seam_six}
use Rattle.fc_parser.proofs.PrintedMarks.{open_round, close_round, open_curly, close_curly, equals, arrow, space}
use Rattle.fc_parser.proofs.PrintedWords.{spelled}
use Rattle.fc_parser.proofs.PrintedNames.{name_run, name_starts}
use Rattle.fc_parser.proofs.PrintedNumbers.{number_run, number_starts}
use Rattle.fc_parser.proofs.PrintedForms.{PrintedTerm, as_expression}
use Rattle.fc_parser.proofs.PrintedArguments.{AllPrinted, opened, texts}
use Rattle.fc_parser.proofs.PrintedBuiltins.{apply_form}

truth_form : (second : Bool) (t : Bool) → PrintedTerm second (TruthTerm t)
truth_form second true = record { ks = WordOf word.True ∷ []; inner = spelled word.True; starts = refl; derives = atom 7 _ _ refl Atom.yes }
truth_form second false = record { ks = WordOf word.False ∷ []; inner = spelled word.False; starts = refl; derives = atom 7 _ _ refl Atom.no }

nbr_form : (second : Bool) (e : SourceTerm) → PrintedTerm second e → PrintedTerm second (NbrTerm e)
nbr_form second e p = record {
  ks = WordOf word.Nbr ∷ MarkOf mark.OpenCurly ∷ (p.ks ++ (MarkOf mark.CloseCurly ∷ []));
  inner = loose (join (spelled word.Nbr) (join open_curly (join p.inner close_curly refl) tt) refl);
  starts = refl;
  derives = atom 7 _ _ refl (Atom.nbr p.ks e (as_expression second e p));
}

rep_form : (second : Bool) (x : List ℕ) (e f : SourceTerm) → IsName x → PrintedTerm second e → PrintedTerm second f → PrintedTerm second (RepTerm e x f)
rep_form second x e f h p q =
    let body = join close_round (join space (join arrow (join space (join q.inner close_curly refl) (meets_more InSpace (text f) (codes "}") q.starts)) tt) refl) tt in
    let bound = join close_round (join open_curly (join open_round (join (name_run x h) body refl) tt) tt) tt in
    record {
      ks = _;
      inner =
          loose
          (as_is (ap (λ l. codes "rep(" ++ l) (seam_six (text e) (codes "){(") x (codes ") => ") (text f) (codes "}"))) refl
          (join (spelled word.Rep) (join open_round (join p.inner bound refl) tt) refl));
      starts = refl;
      derives = atom 7 _ _ refl (Atom.rep x p.ks q.ks e f (as_expression second e p) (as_expression second f q));
    }

share_form : (second : Bool) (x : List ℕ) (e f : SourceTerm) → second ≡ true → IsName x → PrintedTerm second e → PrintedTerm second f → PrintedTerm second (ShareTerm e x f)
share_form second x e f s h p q =
    let body = join close_round (join space (join arrow (join space (join q.inner close_curly refl) (meets_more InSpace (text f) (codes "}") q.starts)) tt) refl) tt in
    let bound = join close_round (join open_curly (join open_round (join (name_run x h) body refl) tt) tt) tt in
    record {
      ks = _;
      inner =
          loose
          (as_is (ap (λ l. codes "share(" ++ l) (seam_six (text e) (codes "){(") x (codes ") => ") (text f) (codes "}"))) refl
          (join (spelled word.Share) (join open_round (join p.inner bound refl) tt) refl));
      starts = refl;
      derives = atom 7 _ _ refl (Atom.share x p.ks q.ks e f s (as_expression second e p) (as_expression second f q));
    }

if_form : (second : Bool) (c e f : SourceTerm) → PrintedTerm second c → PrintedTerm second e → PrintedTerm second f → PrintedTerm second (IfTerm c e f)
if_form second c e f p q r =
    let otherwise = join close_curly (join space (join open_curly (join r.inner close_curly refl) tt) refl) tt in
    let branches = join close_round (join space (join open_curly (join q.inner otherwise refl) tt) refl) tt in
    record {
      ks = _;
      inner =
          loose
          (as_is (ap (λ l. codes "if (" ++ l) (seam_six (text c) (codes ") {") (text e) (codes "} {") (text f) (codes "}"))) refl
          (join (spelled word.If) (join space (join open_round (join p.inner branches refl) tt) refl) refl));
      starts = refl;
      derives = atom 7 _ _ refl (Atom.choice p.ks q.ks r.ks c e f (as_expression second c p) (as_expression second e q) (as_expression second f r));
    }

let_form : (second : Bool) (x : List ℕ) (e f : SourceTerm) → IsName x → PrintedTerm second e → PrintedTerm second f → PrintedTerm second (LetTerm x e f)
let_form second x e f h p q =
    let body = join space (join (spelled word.In) (join space q.inner q.starts) refl) refl in
    let bound = join space (join equals (join space (join p.inner body refl) (meets_more InSpace (text e) _ p.starts)) refl) refl in
    record {
      ks = _;
      inner =
          as_is (ap (λ l. codes "let " ++ l) (seam_five x (codes " = ") (text e) (codes " in ") (text f))) refl
          (join (spelled word.Let) (join space (join (name_run x h) bound refl) (meets_more InSpace x _ (name_starts x h))) refl);
      starts = refl;
      derives = binding x p.ks q.ks e f (as_expression second e p) (as_expression second f q);
    }

call_form : (second : Bool) (f : List ℕ) (es : SourceTerms) → IsName f → AllPrinted second es → PrintedTerm second (CallTerm f es)
call_form second f es h ps =
    let a = opened second es ps in
    record {
      ks = NameOf f ∷ MarkOf mark.OpenRound ∷ (a.ks ++ (MarkOf mark.CloseRound ∷ []));
      inner = loose (as_is (seam_four f (codes "(") (with_commas (texts es)) (codes ")")) refl (join (name_run f h) (join open_round a.inner tt) refl));
      starts = meets_more InSpace (f ++ codes "(" ++ with_commas (texts es)) (codes ")") (meets_more InSpace (f ++ codes "(") (with_commas (texts es)) (meets_more InSpace f (codes "(") (name_starts f h)));
      derives = atom 7 _ _ refl (Atom.call f a.ks es a.derives);
    }

mutual
  pub term_form : (second : Bool) (e : SourceTerm) → IsExpression second e → PrintedTerm second e
  term_form second (IntTerm n) h = record { ks = NumberOf n ∷ []; inner = number_run n h; starts = number_starts n h; derives = atom 7 _ _ refl (Atom.number n h) }
  term_form second (TruthTerm t) h = truth_form second t
  term_form second (VarTerm x) h = record { ks = NameOf x ∷ []; inner = name_run x h; starts = name_starts x h; derives = atom 7 _ _ refl (Atom.variable x) }
  term_form second UidTerm h = record { ks = WordOf word.Uid ∷ []; inner = spelled word.Uid; starts = refl; derives = atom 7 _ _ refl Atom.uid }
  term_form second NbrLinkTerm h = record { ks = WordOf word.NbrLink ∷ []; inner = spelled word.NbrLink; starts = refl; derives = atom 7 _ _ refl Atom.nbr_link }
  term_form second (SenseTerm x) h = record {
    ks = WordOf word.Sense ∷ NameOf x ∷ [];
    inner = join (spelled word.Sense) (join space (name_run x h) (name_starts x h)) refl;
    starts = refl;
    derives = atom 7 _ _ refl (Atom.sense x);
  }
  term_form second (ApplyTerm o es) h = apply_form second o es h.0 h.1 (terms_form second es h.2)
  term_form second (NbrTerm e) h = nbr_form second e (term_form second e h)
  term_form second (RepTerm e x f) h = rep_form second x e f h.1 (term_form second e h.0) (term_form second f h.2)
  term_form second (ShareTerm e x f) h = share_form second x e f h.0 h.2 (term_form second e h.1) (term_form second f h.3)
  term_form second (IfTerm c e f) h = if_form second c e f (term_form second c h.0) (term_form second e h.1) (term_form second f h.2)
  term_form second (LetTerm x e f) h = let_form second x e f h.0 (term_form second e h.1) (term_form second f h.2)
  term_form second (CallTerm f es) h = call_form second f es h.0 (terms_form second es h.1)

  pub terms_form : (second : Bool) (es : SourceTerms) → AreExpressions second es → AllPrinted second es
  terms_form second NoTerms h = tt
  terms_form second (MoreTerms e es) h = (term_form second e h.0, terms_form second es h.1)
