use Rattle.std.proofs.Common.{ℕ, suc, List, [], ◌∷◌, map, arith}
use Rattle.std.specs.List.{All}
use Rattle.fc_values.specs.Fields.{Rises}
use Rattle.fc_nodes.specs.Program.{Unfolding, unfolding_of}
use Rattle.value_trees.specs.declared.copies.Near.{Near}
use Rattle.value_trees.specs.Fitting.{IsNear, NearRises}
use Rattle.value_trees.specs.Snaps.{near_copy}
use Rattle.net_json.specs.Copies.{near_number}
use Rattle.net_json.proofs.copies.gather_nears.Goals as goal

module _ (U : Unfolding) (device : ℕ) where
  near_rises : (ns : List Near) → All (λ (n : Near). IsNear U device n) ns → Rises (map near_number (map (near_copy U) ns)) → NearRises U device ns
  near_rises [] a r = tt
  near_rises (n ∷ []) a r = (a 0 n (omega arith), tt, tt)
  near_rises (n ∷ m ∷ ns) a r = (a 0 n (omega arith), r.0, near_rises (m ∷ ns) (λ k d l. a (suc k) d (omega arith)) r.1)

pub returns-clause-near : goal.returns-clause-near
returns-clause-near c =
    near_rises (unfolding_of c.args.program.now) c.args.device c.in_ok-nears.nears.items c.in_ok-nears.ensures.fit c.in_ok-nears.ensures.rising
