-- Tables of bounds that agree on the devices of a network give the same settle rounds, and so the same text.
use Rattle.std.proofs.Common.{ℕ, zero, suc, ◌≡◌, ◌||◌, Bool, true, false, List, [], ◌∷◌, ◌++◌, map, length, nat_eq}
use Rattle.std.proofs.Common.{refl, ap, ap₂, ◌∙◌, Option, Some, None, option_map}
use Rattle.std.proofs.lemmas.Bool.{eq-eqb}
use Rattle.fc_values.specs.Fields.{is_in}
use Rattle.fc_values.specs.Values.{LocalValue}
use Rattle.fc_nodes.specs.Program.{Unfolding}
use Rattle.topology.specs.Networks.{Network, IsNetwork, Lives, numbers}
use Rattle.fragment_check.specs.Verdicts.{verdict_of}
use Rattle.value_bounds.specs.BoundValues.{value_left}
use Rattle.bound_firing.specs.Exports.{ExportBound}
use Rattle.envelopes.specs.Exactly.{exact_envelope}
use Rattle.envelopes.proofs.Exact.{exact_is, exact_may_live, live_of_exact}
use Rattle.bound_rounds.specs.declared.rounds.RoundKind.TheVariants as kind
use Rattle.bound_rounds.specs.Rounds.{BoundTable, rounds_from}
use Rattle.settle_rounds.specs.Settling.{first_reached, settle_round}
use Rattle.settle_rounds.proofs.Still.{after_agree}
use Rattle.settle_rounds.specs.SettleTimes.{settle_time, settled_from, settles_to}
use Rattle.report.specs.Settling.{settling_text}
use Rattle.verdict_texts.specs.VerdictTexts.{checked_text}
use Rattle.command_frame.specs.Answers.{AnswerValue, plain}
use Rattle.fc_check.specs.Settles.{settle_status, settling_of}

abbrev pub Agree : Network → BoundTable → BoundTable → Type 0
Agree N s t = (d : ℕ) → Lives N d → s d ≡ t d

-- ---- the settle rounds
first_same : (b c : ℕ → ExportBound) → ((i : ℕ) → b i ≡ c i) → (n j : ℕ) → first_reached b n j ≡ first_reached c n j
first_same b c h zero j = refl
first_same b c h (suc n) j = let e = h j in let r = first_same b c h n (suc j) in rw (e, r) refl

module _ (U : Unfolding) (N : Network) (net : IsNetwork N) (s t : BoundTable) (agree : Agree N s t) (cap d : ℕ)
    (lives : Lives N d) where
  abbrev left_from : BoundTable → ℕ → ℕ × LocalValue
  left_from table k = (k, value_left (rounds_from U N table k d).value)

  rounds_same : (k : ℕ) → rounds_from U N s k d ≡ rounds_from U N t k d
  rounds_same k = after_agree kind.Firing U (exact_envelope N) (exact_is N net) s t
      (λ e there. agree e (live_of_exact N e there)) k d (exact_may_live N d lives)

  left_same : (o : Option ℕ) → option_map (left_from s) o ≡ option_map (left_from t) o
  left_same None = refl
  left_same (Some k) = ap (λ (b : ExportBound). pair k (value_left b.value)) (rounds_same k)
    where
      pair : ℕ → LocalValue → Option (ℕ × LocalValue)
      pair k v = Some (k, v)

  round_same : settle_round U (exact_envelope N) s cap d ≡ settle_round U (exact_envelope N) t cap d
  round_same = first_same (λ j. rounds_from U N s j d) (λ j. rounds_from U N t j d) rounds_same (suc cap) 0

  settles_same : settles_to U (exact_envelope N) s cap d ≡ settles_to U (exact_envelope N) t cap d
  settles_same = ap (option_map (left_from s)) round_same ∙ left_same (settle_round U (exact_envelope N) t cap d)

-- ---- what is made of each device that is there
later : (a b : Bool) → b ≡ true → (a || b) ≡ true
later true b e = refl
later false b e = e

map_same : {A : Type 0} (f g : ℕ → A) (ds : List ℕ) → ((d : ℕ) → is_in d ds ≡ true → f d ≡ g d)
    → map f ds ≡ map g ds
map_same f g [] h = refl
map_same f g (d ∷ ds) h =
    let here = eq-eqb d d refl in
    let there : is_in d (d ∷ ds) ≡ true = rw here refl in
    ap₂ (λ x xs. x ∷ xs) (h d there) (map_same f g ds (λ e i. h e (later (nat_eq e d) (is_in e ds) i)))

module _ (facts : Bool) (U : Unfolding) (N : Network) (net : IsNetwork N) (s t : BoundTable) (agree : Agree N s t) where
  each_same : (d : ℕ) → Lives N d → settled_from U N s d ≡ settled_from U N t d
  each_same d lives = settles_same U N net s t agree _ d lives

  -- what is written of a program and a network
  pub settling_same : settling_of facts U N s ≡ settling_of facts U N t
  settling_same = ap₂ written all_same lines_same
    where
      all_same : map (settled_from U N s) (numbers N.devices) ≡ map (settled_from U N t) (numbers N.devices)
      all_same = map_same (settled_from U N s) (settled_from U N t) (numbers N.devices) each_same

      with_number : BoundTable → ℕ → ℕ × Option (ℕ × LocalValue)
      with_number table d = (d, settled_from U N table d)

      lines_same : map (with_number s) (numbers N.devices) ≡ map (with_number t) (numbers N.devices)
      lines_same = map_same (with_number s) (with_number t) (numbers N.devices)
          (λ d lives. ap (λ (o : Option (ℕ × LocalValue)). numbered d o) (each_same d lives))
        where
          numbered : ℕ → Option (ℕ × LocalValue) → ℕ × Option (ℕ × LocalValue)
          numbered d o = (d, o)

      written : List (Option (ℕ × LocalValue)) → List (ℕ × Option (ℕ × LocalValue)) → AnswerValue
      written os ds =
          plain (settle_status (settle_time (verdict_of U (length N.devices)) os))
          (checked_text facts U (length N.devices)
          ++ settling_text (settle_time (verdict_of U (length N.devices)) os) ds)
