-- With a yes, the value that is left from a core is the solution's: synchronous firings from its exports are within the
-- bounds, and rise to the solution.
use Rattle.std.proofs.Common.{◌≡◌, ◌≤◌, ℕ, zero, suc, ◌+◌, refl, sym, ◌∙◌, subst, arith, Bool, true, false, Option}
use Rattle.std.proofs.Common.{Some, None}
use Rattle.fc_values.specs.Trees.{TreeExport}
use Rattle.fc_nodes.specs.Program.{Program, Unfolding, unfolding_of, IsProgram}
use Rattle.fc_nodes.specs.Flat.{IsWellTyped}
use Rattle.device_eval.specs.Copies.{HasOneExport}
use Rattle.topology.specs.Networks.{Network, lives, Lives, IsNetwork}
use Rattle.firing_core.specs.Cores.{Map, Core, copy_of, GoodExport, IsGood}
use Rattle.firing_core.specs.Laws.{CopiesFit}
use Rattle.converge_laws.specs.CoreLevels.{ExportLevel, MaybeAt, TableAt, GoodTable, Raises}
use Rattle.converge_laws.specs.StartLevels.{TableFrom}
use Rattle.converge_laws.specs.Verdicts.{level_by, RaisesTo, YesRaises}
use Rattle.value_bounds.specs.BoundValues.{is_known}
use Rattle.value_bounds.proofs.Values.{both_parts}
use Rattle.envelopes.specs.Exactly.{exact_envelope}
use Rattle.envelopes.proofs.Exact.{exact_may_live}
use Rattle.bound_rounds.specs.Rounds.{BoundTable, rounds_from}
use Rattle.settle_rounds.specs.Rounds.{any_table}
use Rattle.settle_rounds.specs.Settling.{YesLeaves}
use Rattle.settle_rounds.specs.Within.{MaybeLies}
use Rattle.settle_rounds.specs.Starts.{IsClosed, HoldsCore, YesLeavesFrom}
use Rattle.settle_rounds.proofs.HoldWithin.{any_closed_within, any_holds_within}
use Rattle.settle_rounds.proofs.Left.{left_is}
use Rattle.settle_rounds.proofs.Rising.{WithinFrom, one_of, lifts}

-- a table of exports within the bounds of a table, and at a level
record Reaches (start : BoundTable) (R : ExportLevel) (U : Unfolding) (N : Network) (j : ℕ) : Type 0 where
  pub table : Map TreeExport
  pub good : GoodTable U N table
  pub first : TableFrom (WithinFrom U N start) N j table
  pub second : TableAt R N j table

module _ (fit : CopiesFit) (P : Program) (N : Network) (program : IsProgram P) (net : IsNetwork N)
    (same : N.declared ≡ P.declared) (table : BoundTable) (closed : IsClosed (unfolding_of P) N table) (start : Core)
    (good : IsGood (unfolding_of P) start) (on : start.net ≡ N) (held : HoldsCore (unfolding_of P) N table start)
    (R : ExportLevel) (r : Raises R (unfolding_of P) N) where
  abbrev U : Unfolding
  U = unfolding_of P

  -- each device that is there fires
  module _ (j : ℕ) (b : Reaches table R U N j) where
    one : (d : ℕ) → Lives N d → HasOneExport U (copy_of N b.table d)
    one d l = one_of fit P N program net same b.table b.good d l

    pick : (d : ℕ) (c : Bool) → lives N d ≡ c → Option TreeExport
    pick d true l = Some (one d l).export
    pick d false l = None

    good_pick : (d : ℕ) (c : Bool) (l : lives N d ≡ c) (e : TreeExport) → pick d c l ≡ Some e → GoodExport U N d e
    unfolding pick
    good_pick d true l e h =
        let s : (one d l).export ≡ e = cc in
        record { there = l; typed = subst (IsWellTyped U) s (one d l).typed }
    good_pick d false l e h = absurd cc

    first_pick : (d : ℕ) (c : Bool) (l : lives N d ≡ c) → c ≡ true → WithinFrom U N table (suc j) d (pick d c l)
    unfolding pick
    first_pick d true l t = (lifts fit P N program net same table closed).fires j b.table b.good b.first d l
        (one d l).export (one d l).evaluates
    first_pick d false l t = absurd cc

    second_pick : (d : ℕ) (c : Bool) (l : lives N d ≡ c) → c ≡ true → MaybeAt R (suc j) d (pick d c l)
    unfolding pick
    second_pick d true l t = r.fires j b.table b.good b.second d l (one d l).export (one d l).evaluates
    second_pick d false l t = absurd cc

    next : Reaches table R U N (suc j)
    next = record {
      table = λ d. pick d (lives N d) refl;
      good = λ d e h. good_pick d (lives N d) refl e h;
      first = λ d l. first_pick d (lives N d) refl l;
      second = λ d l. second_pick d (lives N d) refl l;
    }

  good_start : GoodTable U N start.exports
  good_start = subst (λ n. GoodTable U n start.exports) on good.exports

  after : (j : ℕ) → Reaches table R U N j
  after zero = record {
    table = start.exports;
    good = good_start;
    first = λ d l i k. at_zero d (start.exports d) (held.exports d (exact_may_live N d l)) i k;
    second = λ d l. by_export d l (start.exports d) refl;
  }
    where
      at_zero : (d : ℕ) (o : Option TreeExport) → MaybeLies U (table d) o → (i : ℕ) → i ≤ 0
          → MaybeLies U (rounds_from U N table i d) o
      at_zero d o m zero k = m
      at_zero d o m (suc i) k = absurd (omega (arith, k))

      by_export : (d : ℕ) → Lives N d → (o : Option TreeExport) → start.exports d ≡ o → MaybeAt R 0 d o
      by_export d l (Some e) q = r.first d e l (good_start d e q).typed
      by_export d l None q = tt
  after (suc j) = next j (after j)

  down_to : (d : ℕ) → Lives N d → (o : Option TreeExport) (i j n : ℕ) → n ≡ j + i → MaybeAt R n d o → MaybeAt R j d o
  down_to d l o zero j n e h = let t : n ≡ j = omega (arith, e) in subst (λ x. MaybeAt R x d o) t h
  down_to d l o (suc i) j zero e h = absurd (omega (arith, e))
  down_to d l o (suc i) j (suc n) e h = down_to d l o i j n (omega (arith, e)) (by_export o h)
    where
      by_export : (o : Option TreeExport) → MaybeAt R (suc n) d o → MaybeAt R n d o
      by_export (Some x) h = r.down n d x l h
      by_export None h = absurd h

  -- after k and K rounds the export of a device is within the bounds, and at level K
  both_at : (k K d : ℕ) → Lives N d
      → (o : Option TreeExport) × MaybeLies U (rounds_from U N table k d) o × MaybeAt R K d o
  both_at k K d l =
      let a = after (k + K) in
      (a.table d, a.first d l k (omega arith), down_to d l (a.table d) k K (k + K) (omega arith) (a.second d l))

pub yes_leaves_from : CopiesFit → YesRaises → YesLeavesFrom
yes_leaves_from fit says P N K program net same v table closed start good on held =
    let U = unfolding_of P in
    let y : RaisesTo U N K = says P N K program net same v in
    record {
      one = y.one;
      left = λ k d l q.
          let b = both_at fit P N program net same table closed start good on held (level_by U N y.one) y.raises k K d l
          in
          let x = y.reached d b.0 b.2 in
          let p = both_parts (rounds_from U N table k d).sure (is_known (rounds_from U N table k d).value) q in
          let w = subst (MaybeLies U (rounds_from U N table k d)) x.1 b.1 in
          sym (left_is (rounds_from U N table k d).value x.0.value p.1 w.value) ∙ x.2;
    }

-- ---- from any exports

-- a core without exports and copies
abbrev empty_core : Network → Core
empty_core N = record { net = N; exports = λ d. None; flying = λ d. None }

pub yes_leaves : YesLeavesFrom → YesLeaves
yes_leaves from P N K program net same v =
    let U = unfolding_of P in
    let good : IsGood U (empty_core N) = record {
      net = net;
      declared = same;
      exports = λ d e q. absurd cc;
      flying = λ d s q. absurd cc;
    } in
    from P N K program net same v (any_table U) (any_closed_within U (exact_envelope N)) (empty_core N) good refl
    (any_holds_within U (exact_envelope N) (empty_core N) good)
