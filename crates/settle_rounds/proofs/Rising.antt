-- On a network that stands still what lies in bounds fires to what lies in the bounds that they fire to, so rounds of
-- bounds raise levels.
use Rattle.std.proofs.Common.{◌≡◌, ℕ, zero, suc, ◌≤◌, refl, sym, ◌∙◌, subst, arith, true, false, Option, Some, None}
use Rattle.fc_values.specs.Trees.{TreeExport}
use Rattle.fc_nodes.specs.Program.{Program, Unfolding, unfolding_of, IsProgram}
use Rattle.fc_nodes.specs.Flat.{IsWellTyped}
use Rattle.device_eval.specs.Copies.{EvaluatesCopy, HasOneExport}
use Rattle.device_eval.proofs.OneExport.{program_export}
use Rattle.topology.specs.Networks.{Network, Lives, IsNetwork}
use Rattle.firing_core.specs.Cores.{Map, copy_of}
use Rattle.firing_core.specs.Laws.{CopiesFit}
use Rattle.converge_laws.specs.CoreLevels.{MaybeAt, GoodTable, Raises}
use Rattle.converge_laws.specs.StartLevels.{MaybeLevel, TableFrom, Lifts}
use Rattle.value_bounds.specs.BoundValues.{is_known, value_left}
use Rattle.value_bounds.proofs.Values.{both_parts}
use Rattle.bound_firing.specs.Exports.{ExportBound, ExportLies}
use Rattle.bound_firing.proofs.Anything.{lies_at_first}
use Rattle.envelopes.specs.Exactly.{exact_envelope}
use Rattle.envelopes.proofs.Exact.{exact_is, exact_within, live_of_exact, exact_may_live}
use Rattle.bound_rounds.specs.Rounds.{BoundTable, fired_within, rounds_from}
use Rattle.settle_rounds.specs.Rounds.{any_table, bounds_after, Within, is_reached}
use Rattle.settle_rounds.specs.Within.{MaybeLies}
use Rattle.settle_rounds.specs.Starts.{IsClosed}
use Rattle.settle_rounds.proofs.Left.{left_is}
use Rattle.settle_rounds.proofs.Inside.{firings_land_within}
use Rattle.settle_rounds.proofs.HoldWithin.{any_closed_within}

-- where one value is left, an export that lies in the bound is there and has it
pub has_value : (U : Unfolding) (b : ExportBound) (o : Option TreeExport) → is_reached b ≡ true → MaybeLies U b o
    → (x : TreeExport) × (o ≡ Some x) × (x.value ≡ value_left b.value)
has_value U b (Some x) r h =
    let q = both_parts b.sure (is_known b.value) r in
    (x, refl, left_is b.value x.value q.1 h.value)
has_value U b None r h =
    let q = both_parts b.sure (is_known b.value) r in
    let t : false ≡ true = sym h ∙ q.0 in
    absurd cc

-- levels by a table of bounds: within the bounds after each number of rounds up to the level
abbrev pub WithinFrom : Unfolding → Network → BoundTable → MaybeLevel
WithinFrom U N table j d o = (i : ℕ) → i ≤ j → MaybeLies U (rounds_from U N table i d) o

module _ (fit : CopiesFit) (P : Program) (N : Network) (program : IsProgram P) (net : IsNetwork N)
    (same : N.declared ≡ P.declared) where
  abbrev U : Unfolding
  U = unfolding_of P

  -- the one export of a copy that a begin takes from a good table
  pub one_of : (f : Map TreeExport) → GoodTable U N f → (d : ℕ) → Lives N d → HasOneExport U (copy_of N f d)
  one_of f t d l = program_export P (copy_of N f d) program
      (fit U (record { net = N; exports = f; flying = λ e. None }) d
      (record { net = net; declared = same; exports = t; flying = λ e x q. absurd cc }) l)

  typed_of : (f : Map TreeExport) → GoodTable U N f → (d : ℕ) → Lives N d → (e : TreeExport)
      → EvaluatesCopy U (copy_of N f d) e → IsWellTyped U e
  typed_of f t d l e v = let one = one_of f t d l in subst (IsWellTyped U) (sym (one.only e v)) one.typed

  -- what exports in bounds fire to lies in the bounds that these fire to
  fires_in : (table : BoundTable) (f : Map TreeExport) → ((n : ℕ) → Lives N n → MaybeLies U (table n) (f n)) → (d : ℕ)
      → Lives N d → (e : TreeExport) → EvaluatesCopy U (copy_of N f d) e
      → ExportLies U (fired_within U (exact_envelope N) table d) e
  fires_in table f at d l e v = firings_land_within U (exact_envelope N) N (exact_is N net) (exact_within N) table f
      (λ n m. at n (live_of_exact N n m)) d l e v

  module _ (table : BoundTable) (closed : IsClosed U N table) where
    pub lifts : Lifts (WithinFrom U N table) U N
    lifts = record {
      down = λ j d o l h i k. h i (omega (arith, k));
      fires = λ j f typed h d l e v i k. by_round j f typed h d l e v i k;
    }
      where
        by_round : (j : ℕ) (f : Map TreeExport) → GoodTable U N f → TableFrom (WithinFrom U N table) N j f → (d : ℕ)
            → Lives N d → (e : TreeExport) → EvaluatesCopy U (copy_of N f d) e → (i : ℕ) → i ≤ suc j
            → ExportLies U (rounds_from U N table i d) e
        by_round j f typed h d l e v zero k =
            closed.fires d (exact_may_live N d l) e (typed_of f typed d l e v)
            (fires_in table f (λ n m. h n m 0 (omega arith)) d l e v)
        by_round j f typed h d l e v (suc i) k =
            fires_in (rounds_from U N table i) f (λ n m. h n m i (omega (arith, k))) d l e v

-- ---- from any exports

module _ (U : Unfolding) (N : Network) where
  -- the levels of exports are such levels
  within_at : (j d : ℕ) (o : Option TreeExport) → MaybeAt (Within U N) j d o → WithinFrom U N (any_table U) j d o
  within_at j d (Some e) h i k = h.lies i k
  within_at zero d None h zero k = refl
  within_at zero d None h (suc i) k = absurd (omega (arith, k))
  within_at (suc j) d None h i k = absurd h

  at_first : (d : ℕ) (e : TreeExport) → IsWellTyped U e → (i : ℕ) → i ≤ 0 → ExportLies U (bounds_after U N i d) e
  at_first d e typed zero k = lies_at_first U e typed
  at_first d e typed (suc i) k = absurd (omega (arith, k))

  pub has_left : (k m d : ℕ) (o : Option TreeExport) → k ≤ m → is_reached (bounds_after U N k d) ≡ true
      → MaybeAt (Within U N) m d o → (x : TreeExport) × (o ≡ Some x)
      × (x.value ≡ value_left (bounds_after U N k d).value)
  has_left k m d o l r h = has_value U (bounds_after U N k d) o r (within_at m d o h k l)

pub bounds_raise : CopiesFit → (P : Program) (N : Network) → IsProgram P → IsNetwork N → N.declared ≡ P.declared
    → Raises (Within (unfolding_of P) N) (unfolding_of P) N
bounds_raise fit P N program net same =
    let U = unfolding_of P in
    let l : Lifts (WithinFrom U N (any_table U)) U N =
    lifts fit P N program net same (any_table U) (any_closed_within U (exact_envelope N)) in
    record {
      down = λ j d e there h. record { typed = h.typed; lies = λ i k. h.lies i (omega (arith, k)) };
      first = λ d e there typed. record { typed = typed; lies = at_first U N d e typed };
      fires = λ j f good h d there e v. record {
        typed = typed_of fit P N program net same f good d there e v;
        lies = l.fires j f good (λ n m. within_at U N j n (f n) (h n m)) d there e v;
      };
    }
