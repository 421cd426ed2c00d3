-- What a closed table holds stays within the bounds after each number of rounds, while the network changes within an
-- envelope. From any exports is the case of the table that holds every good core.
use Rattle.std.proofs.Common.{◌≡◌, ◌+◌, ℕ, zero, suc, ◌≤◌, refl, sym, ◌∙◌, subst, arith, true, false, Option, Some}
use Rattle.std.proofs.Common.{None}
use Rattle.fc_values.specs.Trees.{TreeExport, Copy}
use Rattle.fc_nodes.specs.Program.{Program, Unfolding, unfolding_of, IsProgram}
use Rattle.fc_nodes.specs.Flat.{IsWellTyped}
use Rattle.device_eval.specs.Copies.{EvaluatesCopy, HasOneExport}
use Rattle.device_eval.proofs.OneExport.{program_export}
use Rattle.topology.specs.Networks.{Network, IsNetwork, Lives}
use Rattle.firing_core.specs.Cores.{Map, Core, copy_of, IsGood}
use Rattle.firing_core.specs.Laws.{StepsKeepGood, CopiesFit, RunsCut}
use Rattle.converge_laws.specs.CoreLevels.{GoodTable}
use Rattle.bound_firing.specs.Exports.{ExportBound, any_export, ExportLies}
use Rattle.bound_firing.proofs.Anything.{lies_at_first}
use Rattle.bound_rounds.specs.Rounds.{BoundTable, rounds_within}
use Rattle.envelopes.specs.Envelopes.{Envelope, MayLive, surely_lives, IsEnvelope, LiesWithin}
use Rattle.converge_laws.specs.StartLevels.{MaybeLevel}
use Rattle.moving_laws.specs.MovingLevels.{TableOf, MovingLevel, LiftsMoving}
use Rattle.settle_rounds.specs.Rounds.{any_table}
use Rattle.settle_rounds.specs.Within.{MaybeLies, StandsIn, RoundsWithin, IsClosedWithin, HoldsCoreWithin}
use Rattle.settle_rounds.specs.Within.{BoundsHoldWithinFrom, BoundsHoldWithin, BoundsReachWithin}
use Rattle.net_moves.proofs.Moving.{stays_first}
use Rattle.moving_laws.proofs.Moving.{moves_by_rounds}
use Rattle.envelopes.proofs.Within.{away_of}
use Rattle.settle_rounds.proofs.Inside.{firings_land_within}
use Rattle.settle_rounds.proofs.Left.{left_is}

-- levels by a table of bounds: of a device that may be there, within the bounds after each number of rounds up to the
-- level
abbrev pub WithinIn : Unfolding → Envelope → BoundTable → MaybeLevel
WithinIn U E table j d o = MayLive E d → (i : ℕ) → i ≤ j → MaybeLies U (rounds_within U E table i d) o

-- a bound that isn't sure holds a missing export
pub stands_in : (U : Unfolding) (b : ExportBound) (o : Option TreeExport) → MaybeLies U b o → StandsIn U b o
stands_in U b (Some x) h = record {
  lies = λ e q. let same : x ≡ e = cc in subst (ExportLies U b) same h;
  sure = λ s. (x, refl);
}
stands_in U b None h = record {
  lies = λ e q. absurd cc;
  sure = λ s. let z : false ≡ true = sym h ∙ s in absurd cc;
}

module _ (fit : CopiesFit) (P : Program) (E : Envelope) (program : IsProgram P) (envelope : IsEnvelope E)
    (table : BoundTable) (closed : IsClosedWithin (unfolding_of P) E table) where
  abbrev U : Unfolding
  U = unfolding_of P

  typed_of : (n : Network) (f : Map TreeExport) → IsNetwork n → n.declared ≡ U.declared → GoodTable U n f → (d : ℕ)
      → Lives n d → (e : TreeExport) → EvaluatesCopy U (copy_of n f d) e → IsWellTyped U e
  typed_of n f net same t d l e v =
      let one : HasOneExport U (copy_of n f d) = program_export P (copy_of n f d) program
      (fit U (record { net = n; exports = f; flying = λ e. None }) d
      (record { net = net; declared = same; exports = t; flying = λ e x q. absurd cc }) l) in
      subst (IsWellTyped U) (sym (one.only e v)) one.typed

  -- of a device that may be away nothing is there for sure after any number of rounds
  away_after : (i d : ℕ) → MayLive E d → surely_lives E d ≡ false → (rounds_within U E table i d).sure ≡ false
  away_after zero d l g = closed.away d l g
  away_after (suc i) d l g = g

  pub lifts : LiftsMoving (WithinIn U E table) U (LiesWithin E)
  lifts = record {
    down = λ j d o h l i k. h l i (omega (arith, k));
    away = λ j d n w g l i k. away_after i d l (away_of E n w d g);
    fires = λ j n f w net same t h d there e v l i k. by_round j n f w net same t h d there e v l i k;
  }
    where
      by_round : (j : ℕ) (n : Network) (f : Map TreeExport) → LiesWithin E n → IsNetwork n → n.declared ≡ U.declared
          → GoodTable U n f → TableOf (WithinIn U E table) j f → (d : ℕ) → Lives n d → (e : TreeExport)
          → EvaluatesCopy U (copy_of n f d) e → MayLive E d → (i : ℕ) → i ≤ suc j
          → ExportLies U (rounds_within U E table i d) e
      by_round j n f w net same t h d there e v l zero k =
          closed.fires d l e (typed_of n f net same t d there e v)
          (firings_land_within U E n envelope w table f (λ m q. h m q 0 (omega arith)) d there e v)
      by_round j n f w net same t h d there e v l (suc i) k =
          firings_land_within U E n envelope w (rounds_within U E table i) f (λ m q. h m q i (omega (arith, k))) d
          there e v

  -- a good core that the table holds is at level 0
  pub held_start : (c : Core) → IsGood U c → LiesWithin E c.net → HoldsCoreWithin U E table c
      → MovingLevel (WithinIn U E table) U (LiesWithin E) 0 c
  held_start c good w h = record {
    allowed = w;
    good = good;
    exports = λ d l i k. at_zero d (c.exports d) (h.exports d l) i k;
    copies = λ d s q. (
      (good.flying d s q).fits,
      λ x v l i k. at_zero d (Some x) (h.flights d l s q x (typed_copy d s q x v) v) i k,
    );
  }
    where
      typed_copy : (d : ℕ) (s : Copy) → c.flying d ≡ Some s → (x : TreeExport) → EvaluatesCopy U s x → IsWellTyped U x
      typed_copy d s q x v =
          let one : HasOneExport U s = program_export P s program (good.flying d s q).fits in
          subst (IsWellTyped U) (sym (one.only x v)) one.typed

      at_zero : (d : ℕ) (o : Option TreeExport) → MaybeLies U (table d) o → (i : ℕ) → i ≤ 0
          → MaybeLies U (rounds_within U E table i d) o
      at_zero d o m zero k = m
      at_zero d o m (suc i) k = absurd (omega (arith, k))

module _ (keeps : StepsKeepGood) (fit : CopiesFit) (cuts : RunsCut) where
  -- after m rounds each export is in the bounds after any i up to m
  at_level : (P : Program) (E : Envelope) → IsProgram P → IsEnvelope E → (table : BoundTable)
      → IsClosedWithin (unfolding_of P) E table → (start last : Core) → IsGood (unfolding_of P) start
      → HoldsCoreWithin (unfolding_of P) E table start → (i m d : ℕ) → MayLive E d → i ≤ m
      → RoundsWithin (unfolding_of P) E m start last
      → MaybeLies (unfolding_of P) (rounds_within (unfolding_of P) E table i d) (last.exports d)
  at_level P E program envelope table closed start last good h i m d l k r =
      let z : 0 + m ≡ m = omega arith in
      let a =
      subst (λ (x : ℕ). MovingLevel (WithinIn (unfolding_of P) E table) (unfolding_of P) (LiesWithin E) x last) z
      (moves_by_rounds keeps fit cuts (WithinIn (unfolding_of P) E table) P (LiesWithin E) program
      (lifts fit P E program envelope table closed) 0 m r.log start last
      (held_start fit P E program envelope table closed start good (stays_first (LiesWithin E) start.net r.log r.stays)
      h) r.run r.stays r.rounds) in
      a.exports d l i k

  pub bounds_hold_within_from : BoundsHoldWithinFrom
  bounds_hold_within_from P E program envelope table closed start last good h i m d l k r =
      stands_in (unfolding_of P) (rounds_within (unfolding_of P) E table i d) (last.exports d)
      (at_level P E program envelope table closed start last good h i m d l k r)

pub bounds_reach_within : BoundsHoldWithinFrom → BoundsReachWithin
bounds_reach_within from P E program envelope table closed start last good h k m d l q le r e is =
    let b = rounds_within (unfolding_of P) E table k d in
    let s = from P E program envelope table closed start last good h k m d l le r in
    left_is b.value e.value q (s.lies e is).value

-- ---- from any exports

pub any_closed_within : (U : Unfolding) (E : Envelope) → IsClosedWithin U E (any_table U)
any_closed_within U E = record { fires = λ d l e typed h. lies_at_first U e typed; away = λ d l g. refl }

pub any_holds_within : (U : Unfolding) (E : Envelope) (c : Core) → IsGood U c → HoldsCoreWithin U E (any_table U) c
any_holds_within U E c good = record {
  exports = λ d l. by_export d (c.exports d) refl;
  flights = λ d l s q e typed v. lies_at_first U e typed;
}
  where
    by_export : (d : ℕ) (o : Option TreeExport) → c.exports d ≡ o → MaybeLies U (any_export U) o
    by_export d (Some e) q = lies_at_first U e (good.exports d e q).typed
    by_export d None q = refl

pub bounds_hold_within : BoundsHoldWithinFrom → BoundsHoldWithin
bounds_hold_within from P E program envelope start last good m d l r =
    let U = unfolding_of P in
    let at : (i : ℕ) → i ≤ m → StandsIn U (rounds_within U E (any_table U) i d) (last.exports d) =
    λ i k. from P E program envelope (any_table U) (any_closed_within U E) start last good
    (any_holds_within U E start good) i m
    d l k r in
    record { bounds = at; there = λ k s. (at 1 k).sure s }
