-- An accepted input is the program of its text, and a scene that starts a good core of it.
use Rattle.std.proofs.Common.{ℕ, ◌≡◌, Bool, true, false, List, [], ◌∷◌, refl, ap, ◌∙◌, sym, subst, Option, Some}
use Rattle.std.specs.Prelude.{if◌then◌else◌, nat_eq}
use Rattle.std.specs.List.{All}
use Rattle.std.proofs.lemmas.Bool.{eqb-true}
use Rattle.std.proofs.lemmas.List.Elements.{All-head, All-tail}
use Rattle.fc_values.specs.Trees.{TreeExport, Copy}
use Rattle.fc_nodes.specs.Program.{Unfolding}
use Rattle.fc_nodes.specs.Flat.{IsWellTyped}
use Rattle.value_trees.specs.Copies.{FitsCopy}
use Rattle.topology.specs.Networks.{Network, Lives}
use Rattle.firing_core.specs.Cores.{GoodExport, GoodFlight, IsGood}
use Rattle.firing_core.specs.Starts.{look_up}
use Rattle.net_json.specs.FittingScenes.{AcceptedScenesFit, SceneFits}
use Rattle.net_json.specs.Judging as scene
use Rattle.net_json.specs.Scenes.{SceneValue, scene_of}
use Rattle.net_json.specs.Tables.{Row}
use Rattle.command_frame.specs.Causes.{Judged, Accepted, Refused, AndThen}
use Rattle.command_frame.specs.Sources.{IsProgramText, ReadsProgram}
use Rattle.command_frame.specs.Inputs.{InputOf, ReadsInput, with_scene}
use Rattle.command_frame.specs.Starts.{InputsStart, start_of}

-- ---- a scene starts a good core
abbrev exported : List Row → ℕ → Option TreeExport
exported rows = look_up (λ (r : Row). r.0) (λ (r : Row). r.1) rows

abbrev flown : List Copy → ℕ → Option Copy
flown copies = look_up (λ (c : Copy). c.device) (λ (c : Copy). c) copies

module _ (U : Unfolding) (n : Network) where
  export_there : (rows : List Row) (d : ℕ) (e : TreeExport) → exported rows d ≡ Some e
      → All (λ (r : Row). Lives n r.0) rows → All (λ (r : Row). IsWellTyped U r.1) rows → GoodExport U n d e
  export_there [] d e is there typed = absurd cc
  export_there (r ∷ rows) d e is there typed =
      by_key (nat_eq d r.0) refl is
      (λ later. export_there rows d e later (All-tail (λ (r : Row). Lives n r.0) r rows there)
      (All-tail (λ (r : Row). IsWellTyped U r.1) r rows typed))
    where
      by_key : (b : Bool) → nat_eq d r.0 ≡ b → (if b then Some r.1 else exported rows d) ≡ Some e
          → (exported rows d ≡ Some e → GoodExport U n d e) → GoodExport U n d e
      by_key true key found behind =
          let same : r.1 ≡ e = cc in
          record {
            there = subst (Lives n) (sym (eqb-true d r.0 key)) (All-head (λ (r : Row). Lives n r.0) r rows there);
            typed = subst (IsWellTyped U) same (All-head (λ (r : Row). IsWellTyped U r.1) r rows typed);
          }
      by_key false other later behind = behind later

  flight_there : (copies : List Copy) (d : ℕ) (s : Copy) → flown copies d ≡ Some s
      → All (λ (c : Copy). Lives n c.device) copies → All (FitsCopy U) copies → GoodFlight U n d s
  flight_there [] d s is there fit = absurd cc
  flight_there (c ∷ copies) d s is there fit =
      by_key (nat_eq d c.device) refl is
      (λ later. flight_there copies d s later (All-tail (λ (c : Copy). Lives n c.device) c copies there)
      (All-tail (FitsCopy U) c copies fit))
    where
      by_key : (b : Bool) → nat_eq d c.device ≡ b → (if b then Some c else flown copies d) ≡ Some s
          → (flown copies d ≡ Some s → GoodFlight U n d s) → GoodFlight U n d s
      by_key true key found behind =
          let same : c ≡ s = cc in
          record {
            there = subst (Lives n) (sym (eqb-true d c.device key))
                (All-head (λ (c : Copy). Lives n c.device) c copies there);
            names = ap (λ (x : Copy). x.device) (sym same) ∙ sym (eqb-true d c.device key);
            fits = subst (FitsCopy U) same (All-head (FitsCopy U) c copies fit);
          }
      by_key false other later behind = behind later

good_start : (U : Unfolding) (s : SceneValue) → SceneFits U s → IsGood U (start_of s)
good_start U s h = record {
  net = h.net;
  declared = h.declared;
  exports = λ d e is. export_there U s.net s.table d e is h.table.there h.table.exports;
  flying = λ d f is. flight_there U s.net s.pending d f is h.pending.there h.pending.fit;
}

-- ---- an accepted input
-- what an accepted input is
record IsInput (program network : List ℕ) (U : Unfolding) (s : SceneValue) : Type 0 where
  text : IsProgramText program U
  scene_is : scene_of U network ≡ scene.Accepted s

is_input : (program network : List ℕ) (i : InputOf) → ReadsInput program network (Accepted i)
    → IsInput program network i.0 i.1
is_input program network i h = by_program h.judged h.reads h.scene
  where
    by_scene : (U : Unfolding) (k : scene.JudgedScene SceneValue) → IsProgramText program U → scene_of U network ≡ k
        → Accepted i ≡ with_scene U k → IsInput program network i.0 i.1
    by_scene U (scene.Refused r) text at e = absurd cc
    by_scene U (scene.Accepted s) text at e =
        let same : (U, s) ≡ i = cc in
        let Q : InputOf → Type 0 = λ x. IsInput program network x.0 x.1 in
        subst Q same (record { text = text; scene_is = at })

    by_program : (q : Judged Unfolding) → ReadsProgram program q
        → AndThen q (λ U k. k ≡ with_scene U (scene_of U network)) (Accepted i) → IsInput program network i.0 i.1
    by_program (Refused cause) r e = absurd cc
    by_program (Accepted U) r e = by_scene U (scene_of U network) r refl e

pub inputs_start : AcceptedScenesFit → InputsStart
inputs_start scenes program network i h =
    let there = is_input program network i h in
    record { text = there.text; good = good_start i.0 i.1 (scenes i.0 network i.1 there.scene_is) }
