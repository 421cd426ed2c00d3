-- What `trace` owes.
use Rattle.std.proofs.Common.{ℕ, ◌≡◌, ◌≤◌, false, List, [], ◌++◌, append-nil, length, refl, ap, ◌∙◌, sym, subst, arith, Option, Some, None}
use Rattle.std.specs.Prelude.{codes}
use Rattle.fc_values.specs.Values.{LocalValue}
use Rattle.fc_nodes.specs.Program.{IsProgram, Program, Unfolding, unfolding_of}
use Rattle.fc_nodes.specs.declared.verdicts.Verdict.{Verdict}
use Rattle.fc_nodes.specs.declared.verdicts.Verdict.TheVariants as verdict
use Rattle.interval_facts.specs.Solutions.{SolvesMain}
use Rattle.topology.specs.Networks.{Network, IsNetwork, Lives}
use Rattle.fragment_check.specs.Verdicts.{verdict_of}
use Rattle.firing_core.specs.Cores.{IsGood}
use Rattle.converge_laws.specs.Verdicts.{YesStabilises}
use Rattle.walks.specs.Walks.{AreTraced, CostsValue}
use Rattle.walks.specs.Laws.{OneLeastCost, OneTrace, SomeTrace}
use Rattle.walk_form.specs.Costs.{AreCostsOf}
use Rattle.walk_form.specs.Forms.{WalkTerms, walk_terms}
use Rattle.walk_form.specs.Laws.{FormsHaveCosts, IsLeastAt, OneCosts, SolutionsAreLeast}
use Rattle.net_json.specs.Scenes.{SceneValue}
use Rattle.report.specs.Verdicts.{verdict_text}
use Rattle.command_frame.specs.Agreement.{Agree}
use Rattle.command_frame.specs.Answers.{AnswerValue, plain}
use Rattle.command_frame.specs.Causes.{Judged, Accepted, answer_of}
use Rattle.command_frame.specs.Inputs.{InputOf, ReadsInput}
use Rattle.command_frame.specs.Owing.{HasStatus}
use Rattle.command_frame.specs.Starts.{InputsAreRead, start_of}
use Rattle.command_frame.proofs.Agreeing.{both_plain}
use Rattle.command_frame.proofs.KeptYes.{at_program, has_yes, yes_kept}
use Rattle.command_frame.proofs.Owed.{plain_status, texts_owe, two_owe}
use Rattle.fc_trace.specs.Promises.{TraceKept, TraceOwes, TracesYes}
use Rattle.fc_trace.specs.Texts.{walks_text}
use Rattle.fc_trace.specs.Traces.{WritesWalks, TracedBy, TracesScene, Traces}
use Rattle.fc_trace.proofs.LineValues.{traced_values}

-- ---- one answer
module _ (costs : OneCosts) (trace : OneTrace) (U : Unfolding) (N : Network) (a b : AnswerValue)
    (j k : Judged AnswerValue) (e : j ≡ Accepted a) (f : k ≡ Accepted b) where
  walks_one : (w : WalkTerms) (line : List ℕ) → WritesWalks U N w line a → WritesWalks U N w line b → Agree false j k
  walks_one w line h g =
      let same : h.costs ≡ g.costs = costs U N w h.costs g.costs h.are g.are in
      let there = subst (λ c. AreTraced c h.claim) same h.traced in
      let claims : h.claim ≡ g.claim = trace g.costs h.claim g.claim g.lawful there g.traced in
      both_plain false j k 0 (line ++ walks_text g.claim)
      (e ∙ ap Accepted (h.is ∙ ap (λ es. plain 0 (line ++ walks_text es)) claims)) (f ∙ ap Accepted g.is)

  one_by : (o : Option WalkTerms) (v : Verdict) → TracedBy v o U N a → TracedBy v o U N b → Agree false j k
  one_by None (verdict.Yes rounds) h g = both_plain false j k _ _ (e ∙ ap Accepted h) (f ∙ ap Accepted g)
  one_by (Some w) (verdict.Yes rounds) h g = walks_one w (verdict_text (verdict.Yes rounds)) h g
  one_by o (verdict.No place why) h g = both_plain false j k _ _ (e ∙ ap Accepted h) (f ∙ ap Accepted g)

one_scene : OneCosts → OneTrace → (Q : Program) (s : SceneValue) → IsProgram Q
    → IsGood (unfolding_of Q) (start_of s) → (j k : Judged AnswerValue) → TracesScene (unfolding_of Q) s j
    → TracesScene (unfolding_of Q) s k → Agree false j k
one_scene costs trace Q s is good j k h g =
    one_by costs trace (unfolding_of Q) s.net h.answer g.answer j k h.is g.is (walk_terms (unfolding_of Q))
    (verdict_of (unfolding_of Q) (length s.net.devices)) h.writes g.writes

-- ---- an answer
module _ (forms : FormsHaveCosts) (trace : SomeTrace) (P : Program) (is : IsProgram P) (N : Network)
    (net : IsNetwork N) (declared : N.declared ≡ P.declared) where
  some_walks : (k : ℕ) → verdict_of (unfolding_of P) (length N.devices) ≡ verdict.Yes k
      → (o : Option WalkTerms) → walk_terms (unfolding_of P) ≡ o
      → (a : AnswerValue) × TracedBy (verdict.Yes k) o (unfolding_of P) N a
  some_walks k said None e = (plain 1 (verdict_text (verdict.Yes k) ++ codes "no walks\n"), refl)
  some_walks k said (Some w) e =
      let c = forms P N k w is net declared said e in
      let t = trace c.0 c.2 in (
        plain 0 (verdict_text (verdict.Yes k) ++ walks_text t.0),
        record { costs = c.0; are = c.1; lawful = c.2; claim = t.0; traced = t.1; is = refl },
      )

  some_by : (v : Verdict) → verdict_of (unfolding_of P) (length N.devices) ≡ v
      → (a : AnswerValue) × TracedBy v (walk_terms (unfolding_of P)) (unfolding_of P) N a
  some_by (verdict.Yes k) e = some_walks k e (walk_terms (unfolding_of P)) refl
  some_by (verdict.No place why) e = (plain 1 (verdict_text (verdict.No place why)), refl)

some_scene : FormsHaveCosts → SomeTrace → (Q : Program) (s : SceneValue) → IsProgram Q
    → IsGood (unfolding_of Q) (start_of s) → (j : Judged AnswerValue) × TracesScene (unfolding_of Q) s j
some_scene forms trace Q s is good =
    let v = verdict_of (unfolding_of Q) (length s.net.devices) in
    let a = some_by forms trace Q is s.net good.net good.declared v refl in
    (Accepted a.0, record { answer = a.0; writes = a.1; is = refl })

-- ---- its status
status_by : (v : Verdict) (o : Option WalkTerms) (U : Unfolding) (N : Network) (a : AnswerValue)
    (j : Judged AnswerValue) → TracedBy v o U N a → j ≡ Accepted a → HasStatus j
status_by (verdict.Yes rounds) None U N a j h e = plain_status j 1 _ (omega arith) (e ∙ ap Accepted h)
status_by (verdict.Yes rounds) (Some w) U N a j h e = plain_status j 0 _ (omega arith) (e ∙ ap Accepted h.is)
status_by (verdict.No place why) o U N a j h e = plain_status j 1 _ (omega arith) (e ∙ ap Accepted h)

status_of_scene : (U : Unfolding) (s : SceneValue) (j : Judged AnswerValue) → TracesScene U s j → HasStatus j
status_of_scene U s j h =
    status_by (verdict_of U (length s.net.devices)) (walk_terms U) U s.net h.answer j h.writes h.is

-- ---- what is promised
module _ (laws : InputsAreRead) (law : YesStabilises) (least : SolutionsAreLeast) (one : OneLeastCost)
    (program network : List ℕ) (i : InputOf) (reads : ReadsInput program network (Accepted i)) where
  -- where the verdict is a yes, and these are the costs, a solution has the least of them
  abbrev IsLeast : Network → ℕ → CostsValue → (ℕ → LocalValue) → Unfolding → Type 0
  IsLeast N k C F U =
      verdict_of U (length N.devices) ≡ verdict.Yes k → AreCostsOf U N C → SolvesMain N U.main F
      → (d : ℕ) → Lives N d → IsLeastAt C d (F d)

  -- an answer with status 1 is none of a yes
  none : (a b : AnswerValue) → ◌≡◌ {A = Judged AnswerValue} (Accepted a) (Accepted b) → b.status ≡ 1
      → a.status ≡ 0 → TracesYes program network a.text
  none a b e one zero =
      let never : 0 ≡ 1 = sym zero ∙ ap (λ j. (answer_of j).status) e ∙ one in
      absurd (cc never)

  keeps_by : (a : AnswerValue) (e : TracesScene i.0 i.1 (Accepted a)) → a.status ≡ 0 → (v : Verdict)
      → verdict_of i.0 (length i.1.net.devices) ≡ v → (o : Option WalkTerms) → walk_terms i.0 ≡ o
      → TracedBy v o i.0 i.1.net e.answer → TracesYes program network a.text
  keeps_by a e zero (verdict.Yes rounds) said (Some w) form h =
      let y = has_yes laws program network i reads law rounds said in
      let field : ℕ → LocalValue = y.stabilises.one.field in
      let are : AreCostsOf i.0 i.1.net h.costs = record { terms = w; form = form; costs = h.are } in
      let lowest : (d : ℕ) → Lives i.1.net d → IsLeastAt h.costs d (field d) =
      at_program laws program network i reads (IsLeast i.1.net rounds h.costs field)
      (λ P is good a b c. least P i.1.net rounds h.costs field is good.net good.declared a b c)
      said are y.stabilises.one.solves in
      record {
        yes = y;
        costs = h.costs;
        are = are;
        claim = h.claim;
        traced = h.traced;
        least = lowest;
        values = traced_values one i.1.net h.costs field lowest i.0 w h.are h.claim h.traced;
        writes = ap (λ j. (answer_of j).text) e.is ∙ ap (λ (x : AnswerValue). x.text) h.is;
      }
  keeps_by a e zero (verdict.Yes rounds) said None form h =
      none a e.answer e.is (ap (λ (x : AnswerValue). x.status) h) zero
  keeps_by a e zero (verdict.No place why) said o form h =
      none a e.answer e.is (ap (λ (x : AnswerValue). x.status) h) zero

  -- the line of the verdict, and what stands behind it
  line_of : (v : Verdict) (o : Option WalkTerms) (U : Unfolding) (N : Network) (b : AnswerValue) → TracedBy v o U N b
      → (behind : List ℕ) × (b.text ≡ verdict_text v ++ behind)
  line_of (verdict.Yes rounds) None U N b h = (codes "no walks\n", ap (λ (x : AnswerValue). x.text) h)
  line_of (verdict.Yes rounds) (Some w) U N b h = (walks_text h.claim, ap (λ (x : AnswerValue). x.text) h.is)
  line_of (verdict.No place why) o U N b h =
      ([], ap (λ (x : AnswerValue). x.text) h ∙ sym (append-nil (verdict_text (verdict.No place why))))

  pub trace_keeps : (a : AnswerValue) → TracesScene i.0 i.1 (Accepted a) → TraceKept program network a.status a.text
  trace_keeps a e =
      let line = line_of (verdict_of i.0 (length i.1.net.devices)) (walk_terms i.0) i.0 i.1.net e.answer e.writes in
      record {
        unfolded = i.0;
        scene = i.1;
        reads = reads;
        yes = yes_kept laws program network i reads law;
        behind = line.0;
        writes = ap (λ j. (answer_of j).text) e.is ∙ line.1;
        walks = λ zero.
            keeps_by a e zero (verdict_of i.0 (length i.1.net.devices)) refl (walk_terms i.0) refl e.writes;
      }

pub trace_owes : InputsAreRead → YesStabilises → FormsHaveCosts → OneCosts → SolutionsAreLeast → OneLeastCost → OneTrace
    → SomeTrace → TraceOwes
trace_owes laws law forms costs least one trace some =
    two_owe false Traces (λ status. status ≤ 1) (λ program network a. TraceKept program network a.status a.text)
    (texts_owe laws false TracesScene (λ status. status ≤ 1)
    (λ program network a. TraceKept program network a.status a.text) (record {
      some = some_scene forms some;
      one = one_scene costs trace;
      statuses = status_of_scene;
      low = λ status low. low;
      keeps = λ program network i reads a e low. trace_keeps laws law least one program network i reads a e;
    }))
