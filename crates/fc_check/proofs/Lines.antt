-- The lines of devices, one after another, and the answer that they are of.
use Rattle.std.proofs.Common.{ℕ, ◌≡◌, Bool, List, [], ◌∷◌, ◌++◌, map, flat_map, drop, zip, length}
use Rattle.std.proofs.Common.{refl, sym, ap, ap₂, ◌∙◌, Option, option_map}
use Rattle.std.proofs.lemmas.List.{length-map}
use Rattle.fc_values.specs.Values.{LocalValue}
use Rattle.fc_nodes.specs.declared.verdicts.Verdict.{Verdict}
use Rattle.fc_nodes.specs.Program.{Unfolding}
use Rattle.topology.specs.declared.types.Device.{Device}
use Rattle.topology.specs.Networks.{NetDevice, Network, net_device_of, numbers}
use Rattle.fragment_check.specs.Verdicts.{verdict_of}
use Rattle.envelopes.specs.Exactly.{exact_envelope}
use Rattle.envelopes.proofs.Exact.{ids_same}
use Rattle.bound_rounds.specs.Rounds.{BoundTable}
use Rattle.settle_rounds.specs.declared.settling.Settled.{Settled}
use Rattle.settle_rounds.specs.References.{settled_in}
use Rattle.settle_rounds.specs.SettleTimes.{all_settle_to, settle_cap, settle_time, settled_from, settles_to}
use Rattle.report.specs.Settling.{settled_device_text, settling_text}
use Rattle.verdict_texts.specs.VerdictTexts.{checked_text}
use Rattle.command_frame.specs.Answers.{plain}
use Rattle.fc_check.specs.Settles.{settle_status, settled_devices, settling_of, time_of}
use Rattle.fc_check.specs.Code.{settled_answer}

-- ---- the lines of devices in code, from a place on
abbrev pub lines_from : ℕ → List Device → List (Option Settled) → List ℕ
lines_from i ds xs = flat_map settled_device_text
    (zip (numbers (map net_device_of (drop i ds))) (map (option_map settled_in) (drop i xs)))

-- ---- devices beside what is made of each
zip_map : {A : Type 0} (f : ℕ → A) (ds : List ℕ) → zip ds (map f ds) ≡ map (λ (d : ℕ). (d, f d)) ds
zip_map f [] = refl
zip_map f (d ∷ ds) = ap (λ more. (d, f d) ∷ more) (zip_map f ds)

-- each device has its own
pub as_many : (U : Unfolding) (N : Network) (table : BoundTable) (cap : ℕ) (xs : List (Option Settled))
    → map (option_map settled_in) xs ≡ all_settle_to U (exact_envelope N) table cap → length xs ≡ length N.devices
as_many U N table cap xs e =
    sym (length-map xs (option_map settled_in))
    ∙ ap length e
    ∙ ap (λ ds. length (map (settles_to U (exact_envelope N) table cap) ds)) (ids_same N.devices)
    ∙ length-map (numbers N.devices) (settles_to U (exact_envelope N) table cap)
    ∙ length-map N.devices (λ (n : NetDevice). n.id)

-- ---- what is made of a program and a network
pub record AreMade (facts : Bool) (U : Unfolding) (N : Network) (table : BoundTable) (v : Verdict) (n most : ℕ)
    (text : List ℕ) (os : List (Option (ℕ × LocalValue))) : Type 0 where
  pub many : n ≡ length N.devices
  pub verdict : v ≡ verdict_of U n
  pub cap : most ≡ settle_cap v n
  pub judged : text ≡ checked_text facts U n
  pub settled : os ≡ all_settle_to U (exact_envelope N) table most

module _ (facts : Bool) (U : Unfolding) (N : Network) (table : BoundTable) (v : Verdict) (n most : ℕ) (text : List ℕ)
    (os : List (Option (ℕ × LocalValue))) (m : AreMade facts U N table v n most text os) where
  judged : v ≡ verdict_of U (length N.devices)
  judged = m.verdict ∙ ap (verdict_of U) m.many

  each : os ≡ map (settled_from U N table) (numbers N.devices)
  each = m.settled ∙ ap (all_settle_to U (exact_envelope N) table) (m.cap ∙ ap₂ settle_cap judged m.many)
      ∙ ap (map (settled_from U N table)) (ids_same N.devices)

  timed : settle_time v os ≡ time_of U N table
  timed = ap₂ settle_time judged each

  listed : zip (numbers N.devices) os ≡ settled_devices U N table
  listed = ap (zip (numbers N.devices)) each ∙ zip_map (settled_from U N table) (numbers N.devices)

  pub are_settling : settled_answer v text (numbers N.devices) os ≡ settling_of facts U N table
  are_settling =
      ap₂ plain (ap settle_status timed)
      (ap₂ (λ a b. a ++ b) (m.judged ∙ ap (λ k. checked_text facts U k) m.many)
      (ap₂ settling_text timed listed))
