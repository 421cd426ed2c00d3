-- The stabilised field of a term alone is the field of the term.
use Rattle.std.proofs.Common.{◌≡◌, ℕ, length, sym, ◌∙◌}
use Rattle.fc_values.specs.Fields.{Entries}
use Rattle.fc_nodes.specs.declared.verdicts.Reason.{Reason}
use Rattle.fc_nodes.specs.declared.verdicts.Verdict.TheVariants as verdict
use Rattle.fc_nodes.specs.Terms.{Term, term_at}
use Rattle.fc_nodes.specs.Program.{Program, unfolding_of, IsProgram}
use Rattle.topology.specs.Networks.{Network, IsNetwork}
use Rattle.fragment_check.specs.Verdicts.{verdict_of, main_level}
use Rattle.converge_laws.specs.Fragment.{Analysis}
use Rattle.converge_laws.specs.Laws.{SolutionsAreOne, IsAnalysis}
use Rattle.converge_laws.specs.Verdicts.{analysis_of, YesAnalyses, YesStabilises}
use Rattle.stable_field.specs.Stable.{IsStableField}
use Rattle.walk_form.specs.declared.forms.Span.{Span}
use Rattle.walk_form.specs.Alone.{alone_term}
use Rattle.walk_form.specs.Fields.{IsFieldAt, integers_in}
use Rattle.walk_form.specs.Parts.{IsWalkPart}
use Rattle.walk_form.proofs.Parts.{Part, Placed, part_part, part_placed}
use Rattle.walk_form.proofs.Judging.{alone_yes}
use Rattle.walk_form.proofs.Fielding.{one_field, alone_field}

yes_or_no : (k place : ℕ) (why : Reason) → verdict.Yes k ≡ verdict.No place why → ⊥
yes_or_no k place why e = absurd cc

module _ (analyses : YesAnalyses) (P Q : Program) (N : Network) (k : ℕ) (s : Span) (is : IsProgram P) (net : IsNetwork N) (same : N.declared ≡ P.declared)
    (agreed : verdict_of (unfolding_of P) (length N.devices) ≡ verdict.Yes k) (part : IsWalkPart P s) (declared : Q.declared ≡ P.declared)
    (main : term_at Q.nodes 0 ≡ alone_term s.from (term_at P.nodes s.from)) where
  abbrev t : Term
  t = term_at P.nodes s.from

  abbrev A : Analysis
  A = analysis_of (unfolding_of P) (length N.devices)

  part_is : Part P A N.declared.ceiling s.from t
  part_is = part_part analyses P N k s is net same agreed part

  placed : Placed P s.from t
  placed = part_placed P s is part

  pub recognised : (place : ℕ) (why : Reason) → verdict_of (unfolding_of Q) (length N.devices) ≡ verdict.No place why → ⊥
  recognised place why e =
      let h = part_is in
      let y = alone_yes P Q declared h.start h.body h.main s.from t h.stands placed.low h.free main (length N.devices) k (length N.devices) agreed in
      yes_or_no (main_level (unfolding_of Q) (length N.devices)) place why (sym y ∙ e)

  analysis : IsAnalysis (unfolding_of P) A N
  analysis = (analyses P N k is net same agreed).analysis

  pub field_found : YesStabilises → SolutionsAreOne → (es : Entries) → IsStableField (unfolding_of Q) N es → IsFieldAt N s.from t (integers_in es)
  field_found stabilises one_law es stable =
      let h = part_is in
      let one = (stabilises P N k is net same agreed).one in
      let field = one_field one_law P N is net same A analysis.for analysis.ranges s.from t h placed.type one in
      alone_field N s.from t (unfolding_of Q) es placed.low net main h.free placed.type field stable
