-- What is known of each scenario: its program's verdict, its start, and its two lines.
use Rattle.std.proofs.Common.{ℕ, ◌≡◌, ◌≤◌, ◌+◌, ◌*◌, length, subst, arith, mul-le-mul}
use Rattle.fc_nodes.specs.declared.verdicts.Verdict.TheVariants as verdict
use Rattle.fc_nodes.specs.Program.{Unfolding}
use Rattle.unfold.specs.Laws.{HasProgram, ProgramsUnfold}
use Rattle.topology.specs.Networks.{Network, IsNetwork}
use Rattle.firing_core.specs.Cores.{IsGood}
use Rattle.fragment_check.specs.Verdicts.{verdict_of}
use Rattle.converge_laws.specs.Stabilising.{Stabilises}
use Rattle.converge_laws.specs.Verdicts.{YesStabilises}
use Rattle.edit_commands.specs.JudgedCommands.{AreJudged}
use Rattle.edit_commands.specs.Scripts.{at_start}
use Rattle.scenarios.specs.Rings.{ring, ring_program}
use Rattle.scenarios.specs.Laws.{RingsAreNetworks, RingsAreTyped, RingsStabilise}
use Rattle.fc_gen.specs.Gens.{empty_on, scenario_lines, scenario_program}

-- a scenario's program has nodes
pub nodes_of : RingsAreTyped → ProgramsUnfold → (devices : ℕ) → 3 ≤ devices → devices ≤ 512 → HasProgram (ring_program devices)
nodes_of typed unfolds devices low high =
    let program = typed devices low high in
    unfolds (ring_program devices) program.printable program.typed (omega arith) program.small

-- it stabilises
pub ring_stabilises : RingsAreTyped → RingsAreNetworks → RingsStabilise → ProgramsUnfold → YesStabilises → (number devices : ℕ) → 3 ≤ devices → devices ≤ 512
    → Stabilises (scenario_program devices) (ring number devices) (2 + 2 * devices)
ring_stabilises typed networks stabilise unfolds law number devices low high =
    let nodes = nodes_of typed unfolds devices low high in
    let ring_is = networks number devices low high in
    let N = ring number devices in
    let Law : Unfolding → Type 0 = λ U. N.declared ≡ U.declared → verdict_of U (length N.devices) ≡ verdict.Yes (2 + 2 * devices)
    → Stabilises U N (2 + 2 * devices) in
    subst Law nodes.unfolds (law nodes.program N (2 + 2 * devices) nodes.is ring_is.network) ring_is.declared
    (stabilise devices (length N.devices) low high)

-- a yes is for one number of rounds
pub yes_once : (m n : ℕ) → verdict.Yes m ≡ verdict.Yes n → m ≡ n
yes_once m n e = cc

pub empty_good : (U : Unfolding) (net : Network) → IsNetwork net → net.declared ≡ U.declared → IsGood U (empty_on net)
empty_good U net n d = record {
  net = n;
  declared = d;
  exports = λ d e h. absurd cc;
  flying = λ d s h. absurd cc;
}

pub few_firings : (devices : ℕ) → devices ≤ 512 → (2 + 2 * devices) * devices ≤ 1000000
few_firings devices h =
    let few : 2 + 2 * devices ≤ 1026 = omega arith in
    let m = mul-le-mul few h in
    omega (arith, m)

pub lines_judged : (U : Unfolding) (net : Network) (number rounds : ℕ) → 1 ≤ rounds → rounds * length net.devices ≤ 1000000
    → AreJudged U (empty_on net) (at_start net) (scenario_lines number rounds)
lines_judged U net number rounds some few = (omega arith, (record { some = some; within = omega (arith, few) }, tt))
