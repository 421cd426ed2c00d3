-- The value of each line of `trace` is that of the field.
use Rattle.std.proofs.Common.{ℕ, zero, suc, ◌≡◌, ◌<◌, List, [], ◌∷◌, length, get_or, map, ap, ◌∙◌, subst, arith, true}
use Rattle.std.specs.List.{All}
use Rattle.fc_values.specs.Fields.{is_in}
use Rattle.fc_values.specs.Values.{LocalValue, IntValue}
use Rattle.fc_values.proofs.Booleans.{or_true}
use Rattle.std.specs.Prelude.{nat_eq}
use Rattle.std.proofs.lemmas.Bool.Decides.{nat_tests}
use Rattle.fc_nodes.specs.Program.{Unfolding}
use Rattle.topology.specs.Networks.{Network, Lives, numbers}
use Rattle.walks.specs.Laws.{OneLeastCost}
use Rattle.walks.specs.Walks.{CostsValue, EvidenceValue, AreTraced, IsLeastCost}
use Rattle.walk_form.specs.Costs.{AreCostsFor}
use Rattle.walk_form.specs.Forms.{WalkTerms}
use Rattle.walk_form.specs.Laws.{IsLeastAt}
use Rattle.walk_form.proofs.Fielding.{firsts_are}

-- the costs of a network have its devices
devices_of : (U : Unfolding) (N : Network) (w : WalkTerms) (C : CostsValue) → AreCostsFor U N w C
    → map (λ (d : ℕ × ℕ). d.0) C.start ≡ numbers N.devices
devices_of U N w C are =
    ap (λ (c : CostsValue). map (λ (d : ℕ × ℕ). d.0) c.start) are.is
    ∙ firsts_are are.starts.one.field are.start (numbers N.devices) are.starts.values

module _ (one : OneLeastCost) (N : Network) (C : CostsValue) (F : ℕ → LocalValue)
    (least : (d : ℕ) → Lives N d → IsLeastAt C d (F d)) where
  abbrev IsLine : EvidenceValue → Type 0
  IsLine e = F e.device ≡ IntValue e.value

  line : (e : EvidenceValue) → Lives N e.device → IsLeastCost C e.device e.value → IsLine e
  line e lives cost =
      let l = least e.device lives in
      l.value ∙ ap IntValue (one C e.device l.cost e.value l.least cost)

  here : (d : ℕ) (ds : List ℕ) → is_in d (d ∷ ds) ≡ true
  here d ds = grind (arith, nat_tests)

  abbrev devices_in : List EvidenceValue → List ℕ
  devices_in es = map (λ (e : EvidenceValue). e.device) es

  among : (es : List EvidenceValue) (k : ℕ) (e : EvidenceValue) → k < length es
      → is_in (get_or es k e).device (devices_in es) ≡ true
  among [] k e h = absurd (omega (arith, h))
  among (x ∷ xs) zero e h = here x.device (devices_in xs)
  among (x ∷ xs) (suc k) e h =
      let d = (get_or xs k e).device in
      or_true (nat_eq d x.device) (is_in d (devices_in xs)) (among xs k e (omega (arith, h)))

  pub traced_values : (U : Unfolding) (w : WalkTerms) → AreCostsFor U N w C → (es : List EvidenceValue)
      → AreTraced C es → All IsLine es
  traced_values U w are es traced k e h =
      let same : devices_in es ≡ numbers N.devices = traced.devices ∙ devices_of U N w C are in
      let x = get_or es k e in
      line x (subst (λ ds. is_in x.device ds ≡ true) same (among es k e h)) (traced.least k e h)
