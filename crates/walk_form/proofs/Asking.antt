-- What is known of the start and of what steps add is what the gathering asks.
use Rattle.std.proofs.Common.{◌≡◌, ℕ, List, length, refl, ap, subst}
use Rattle.std.specs.List.{All}
use Rattle.std.specs.Prelude.{◌≤◌}
use Rattle.fc_nodes.specs.declared.verdicts.Verdict.TheVariants as verdict
use Rattle.fc_nodes.specs.Terms.{term_at}
use Rattle.fc_nodes.specs.Program.{Program, unfolding_of, IsProgram}
use Rattle.topology.specs.Networks.{Network, IsNetwork}
use Rattle.fragment_check.specs.Verdicts.{verdict_of}
use Rattle.converge_laws.specs.Laws.{SolutionsAreOne}
use Rattle.converge_laws.specs.Verdicts.{YesAnalyses}
use Rattle.walks.specs.Walks.{CostsValue}
use Rattle.walks.specs.Gathering.{AddValue, AreOf, AddFits, gathered}
use Rattle.walk_form.specs.declared.forms.WalkForm.{WalkForm}
use Rattle.walk_form.specs.Costs.{AddsAre, AreCostsOf}
use Rattle.walk_form.specs.Fields.{IsFieldAt}
use Rattle.walk_form.specs.Spans.{IsWalkForm, step_of, terms_of}
use Rattle.walk_form.proofs.Parts.{local_placed}
use Rattle.walk_form.proofs.Costing.{Neighbours, starts_fit, adds_fit}

module _ (analyses : YesAnalyses) (one_law : SolutionsAreOne) (P : Program) (N : Network) (k : ℕ) (is : IsProgram P) (net : IsNetwork N) (same : N.declared ≡ P.declared)
    (agreed : verdict_of (unfolding_of P) (length N.devices) ≡ verdict.Yes k) (f : WalkForm) (form : IsWalkForm P f) where
  pub starts_asked : (start : List (ℕ × ℕ)) → IsFieldAt N f.local.from (term_at P.nodes f.local.from) start
      → AreOf N start × All (λ (d : ℕ × ℕ). d.1 ≤ P.declared.ceiling) start
  starts_asked start h =
      subst (λ m. AreOf N start × All (λ (d : ℕ × ℕ). d.1 ≤ m) start) (ap (λ d. d.ceiling) same)
      (starts_fit analyses one_law P N k is net same agreed (terms_of P.nodes f) form.terms f.local.from (term_at P.nodes f.local.from) start (local_placed P is (terms_of P.nodes f) form.terms).type h)

  pub adds_asked : Neighbours N → (a : AddValue) → AddsAre N (step_of P.nodes f.adds) a → AddFits P.declared.ceiling N a
  adds_asked near_law a h =
      subst (λ m. AddFits m N a) (ap (λ d. d.ceiling) same)
      (adds_fit analyses one_law P N k is net same agreed (terms_of P.nodes f) form.terms near_law (step_of P.nodes f.adds) a refl h)

  pub costs_made : (start : List (ℕ × ℕ)) (a : AddValue) (C : CostsValue) → IsFieldAt N f.local.from (term_at P.nodes f.local.from) start → AddsAre N (step_of P.nodes f.adds) a
      → C ≡ gathered P.declared.ceiling N start a → AreCostsOf (unfolding_of P) N C
  costs_made start a C h g e = record {
    terms = terms_of P.nodes f;
    form = form.terms;
    costs = record { start = start; added = a; starts = h; adds = g; is = e };
  }
