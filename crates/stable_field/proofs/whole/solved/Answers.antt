use Rattle.std.proofs.Common.{◌≡◌, ◌∙◌, ℕ, map, sym, ap, subst, arith}
use Rattle.fc_values.specs.Values.{LocalValue}
use Rattle.fc_values.specs.Fields.{Rises, devices, entry_of}
use Rattle.fc_nodes.specs.Program.{unfolding_of}
use Rattle.topology.specs.Networks.{numbers}
use Rattle.converge_laws.specs.Stabilising.{Stabilises}
use Rattle.converge_laws.specs.Verdicts.{IsAnalysed}
use Rattle.stable_field.specs.Tables.{AllHave}
use Rattle.stable_field.proofs.Firings.{devices_are}
use Rattle.stable_field.proofs.whole.solved.Goals as goal

module _ (c : goal.After-yes_stabilises) where
  pub analysed : IsAnalysed (unfolding_of c.args.program.now) c.args.net.now c.args.rounds
  analysed = c.yes_analyses.ensures c.args.program.now c.args.net.now c.args.rounds c.declared-program.ensures.program c.declared-network.ensures.network c.requires.declared c.requires.yes

module _ (c : goal.After-drop-table-2) where
  abbrev one : Stabilises (unfolding_of c.args.program.now) c.args.net.now c.args.rounds
  one = c.yes_stabilises.ensures c.args.program.now c.args.net.now c.args.rounds c.declared-program.ensures.program c.declared-network.ensures.network c.requires.declared c.requires.yes

  abbrev F : ℕ → LocalValue
  F = one.one.field

  found : map entry_of c.in_ok-values.field-0.items ≡ map (λ (d : ℕ). (d, F d)) (numbers c.args.net.now.devices)
  found = c.in_ok-values.ensures F (subst (AllHave F (numbers c.args.net.now.devices)) (sym c.deref.ensures.value) (c.in_ok-table.ensures F one.one.solves))

  risen : Rises (devices (map entry_of c.in_ok-values.field-0.items))
  risen = subst Rises (sym (ap devices found ∙ devices_are F (numbers c.args.net.now.devices))) c.declared-network.ensures.network.rising

pub settled-requires-clause-analysis : goal.settled-requires-clause-analysis
settled-requires-clause-analysis c = (analysed c).analysis

pub settled-requires-clause-level : goal.settled-requires-clause-level
settled-requires-clause-level c = let l = (analysed c).level in omega (arith, l)

pub returns-clause-field : goal.returns-clause-field
returns-clause-field c = record { one = (one c).one; values = found c }

pub returns-clause-rises : goal.returns-clause-rises
returns-clause-rises c = risen c
