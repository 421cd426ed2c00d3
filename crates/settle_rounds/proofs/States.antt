-- What a device's export and its copy in flight hold is its first bound.
use Rattle.std.proofs.Common.{◌≡◌, ℕ, List, [], refl, sym, ◌∙◌, ap, subst, false, Option, Some, None}
use Rattle.fc_values.specs.Trees.{TreeExport, Copy}
use Rattle.fc_nodes.specs.Program.{Unfolding, unfolding_of}
use Rattle.device_eval.specs.Copies.{EvaluatesCopy}
use Rattle.topology.specs.Networks.{Network, lives, Lives}
use Rattle.firing_core.specs.Cores.{Core, copy_of, IsGood}
use Rattle.firing_core.specs.CoreViews.{CoreValue, core_of, program_of, IsSameCore}
use Rattle.bound_firing.specs.declared.firing.ExportBound.{ExportBound as FlatBound}
use Rattle.value_bounds.specs.BoundValues.{BoundValue}
use Rattle.bound_firing.specs.Exports.{ExportBound, bound_export}
use Rattle.bound_firing.specs.Firing.{bound_of}
use Rattle.bound_firing.specs.ExportReferences.{export_bound_in, situation_for}
use Rattle.envelopes.specs.Envelopes.{Envelope, bounds_in, surely_lives}
use Rattle.settle_rounds.specs.Within.{no_seats, alone, FirstWithin, stands, stands_and_lands, lands, begins, comes}
use Rattle.settle_rounds.specs.References.{StateBound, standing, standing_and_landing, landing}
use Rattle.settle_rounds.specs.References.{HasState, had, began}

module _ (U : Unfolding) (E : Envelope) (N : Network) (c : Core) (d : ℕ) where
  -- of a device that has one of them
  pub first_of_state : (o : Option TreeExport) (s : Option Copy) (b : ExportBound) → c.exports d ≡ o → c.flying d ≡ s
      → StateBound U (surely_lives E d) o s b → FirstWithin U E N c d b
  first_of_state o s b p q (standing e) = stands e p q
  first_of_state o s b p q (standing_and_landing e x f v) = stands_and_lands e x f p q v
  first_of_state o s b p q (landing x f v) = lands x f p q v

  -- of one that had neither and has begun
  pub first_of_begun : Lives N d → (o : Option TreeExport) (s : Option Copy) (b : ExportBound) → c.exports d ≡ None
      → c.flying d ≡ None → o ≡ None → s ≡ Some (copy_of N c.exports d) → StateBound U (surely_lives E d) o s b
      → FirstWithin U E N c d b
  first_of_begun l o s b p q h k (standing e) = absurd cc
  first_of_begun l o s b p q h k (standing_and_landing e x f v) = absurd cc
  first_of_begun l o s b p q h k (landing x f v) =
      let same : x ≡ copy_of N c.exports d = cc in begins f l p q (subst (λ y. EvaluatesCopy U y f) same v)

-- of one that isn't there
pub first_of_none : (U : Unfolding) (E : Envelope) (c : Core) (d : ℕ) → IsGood U c → lives c.net d ≡ false
    → FirstWithin U E c.net c d (alone U E d)
first_of_none U E c d good g = comes g (by_export (c.exports d) refl) (by_flight (c.flying d) refl)
  where
    by_export : (o : Option TreeExport) → c.exports d ≡ o → o ≡ None
    by_export None q = refl
    by_export (Some e) q = let l = (good.exports d e q).there in absurd cc

    by_flight : (o : Option Copy) → c.flying d ≡ o → o ≡ None
    by_flight None q = refl
    by_flight (Some s) q = let l = (good.flying d s q).there in absurd cc

-- what such a one makes on its own
pub alone_is : (U : Unfolding) (E : Envelope) (d id : ℕ) (inputs : List BoundValue) → id ≡ d
    → inputs ≡ bounds_in d E.devices
    → bound_export false (bound_of (situation_for U.declared id inputs) 0 U.main [] no_seats) ≡ alone U E d
alone_is U E d id inputs e q = rw (e, q) refl

-- first bounds of a core are those of another that has the same exports, and the same copy in flight of the device
pub first_same : (U : Unfolding) (E : Envelope) (N : Network) (c e : Core) (d : ℕ) (b : ExportBound)
    → c.exports ≡ e.exports → c.flying d ≡ e.flying d → FirstWithin U E N c d b → FirstWithin U E N e d b
first_same U E N c e d b p q (stands x h k) = stands x (subst (λ t. t d ≡ Some x) p h) (sym q ∙ k)
first_same U E N c e d b p q (stands_and_lands x s f h k v) =
    stands_and_lands x s f (subst (λ t. t d ≡ Some x) p h) (sym q ∙ k) v
first_same U E N c e d b p q (lands s f h k v) = lands s f (subst (λ t. t d ≡ None) p h) (sym q ∙ k) v
first_same U E N c e d b p q (begins f l h k v) =
    begins f l (subst (λ t. t d ≡ None) p h) (sym q ∙ k) (subst (λ t. EvaluatesCopy U (copy_of N t d) f) p v)
first_same U E N c e d b p q (comes g h k) = comes g (subst (λ t. t d ≡ None) p h) (sym q ∙ k)

-- a device that has taken off, where it had to
module _ (N : Network) (old new : Core) (d : ℕ) (same : new.exports ≡ old.exports) where
  pub has_some : HasState N old new d → new.exports d ≡ None → new.flying d ≡ None → ⊥
  has_some (had h q) e f = h (subst (λ t. t d ≡ None) same e) (sym q ∙ f)
  has_some (began p q k) e f = absurd cc

  pub has_bound : (U : Unfolding) (E : Envelope) (b : ExportBound) → Lives N d → HasState N old new d
      → StateBound U (surely_lives E d) (new.exports d) (new.flying d) b → FirstWithin U E N old d b
  has_bound U E b l (had h q) s =
      first_of_state U E N old d (new.exports d) (new.flying d) b (sym (ap (λ t. t d) same)) (sym q) s
  has_bound U E b l (began p q k) s =
      first_of_begun U E N old d l (new.exports d) (new.flying d) b p q (ap (λ t. t d) same ∙ p) k s

-- a first bound of a core that is the same but for flights of other devices
pub first_before : (E : Envelope) (old now : CoreValue) (d : ℕ) (b : FlatBound) → IsSameCore old now
    → (core_of now).exports ≡ (core_of old).exports → (core_of now).flying d ≡ (core_of old).flying d
    → FirstWithin (program_of now) E now.net (core_of now) d (export_bound_in (program_of now) b)
    → FirstWithin (program_of old) E old.net (core_of old) d (export_bound_in (program_of old) b)
first_before E old now d b same p q h =
    subst (λ P. FirstWithin (unfolding_of P) E old.net (core_of old) d (export_bound_in (unfolding_of P) b))
    same.program (subst (λ n. FirstWithin (program_of now) E n (core_of old) d (export_bound_in (program_of now) b)) same.net
    (first_same (program_of now) E now.net (core_of now) (core_of old) d (export_bound_in (program_of now) b) p q h))
