-- Crates above cite this module: a program has as many ranges as nodes.
use Rattle.std.proofs.Common.{◌≡◌, ℕ, ◌<◌, List, [], length, sym, ◌∙◌, ap, subst}
use Rattle.fc_nodes.specs.Program.{Program, unfolding_of, IsProgram}
use Rattle.interval_facts.specs.Ranges.{RangeValue, AreRangesOf}
use Rattle.interval_facts.proofs.Tables.{as_many}

module _ (p : Program) (program : IsProgram p) (rs : List RangeValue) (these : AreRangesOf (unfolding_of p) rs) where
  pub ranges_long : length rs ≡ length p.nodes
  ranges_long = ap length these ∙ as_many p.declared (unfolding_of p).main [] 0 ∙ sym program.formed.whole

  pub place_there : (place : ℕ) → place < length p.nodes → place < length rs
  place_there place h = subst (λ n. place < n) (sym ranges_long) h
