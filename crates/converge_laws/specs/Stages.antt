-- Stages: how near to the solution a value is.
use Rattle.std.specs.Prelude.{ℕ, suc, ◌≡◌, ◌<◌, ◌≤◌, ◌+◌, ◌*◌, Option, Some, None}
use Rattle.fc_values.specs.Values.{LocalValue}
use Rattle.fc_values.specs.Fields.{AnyValue, ValueLocal, ValueField}
use Rattle.fc_nodes.specs.Terms.{Evolution, ByRep, ByShare}
use Rattle.topology.specs.Networks.{Network}
use Rattle.interval_facts.specs.Solutions.{Devices, ValueMaps}
use Rattle.growth_facts.specs.Leads.{lead, Close}
use Rattle.growth_facts.specs.Turns.{turns_of}
use Rattle.fragment_check.specs.declared.kinds.Pattern.{Pattern}
use Rattle.fragment_check.specs.declared.kinds.Pattern.TheVariants as pattern
use Rattle.rise.specs.Stages.{climbed}
use Rattle.converge_laws.specs.Ranks.{rank_of}

-- a value that is kept is close to another
abbrev pub KeptClose : ℕ → Option LocalValue → LocalValue → Type 0
KeptClose b None w = ⊥
KeptClose b (Some v) w = Close b v w

-- the integer of a value of a binder's variable
abbrev pub integer_of : AnyValue → ℕ
integer_of (ValueLocal v) = lead v
integer_of (ValueField es) = 0

-- the rank of each device, where the pattern has a potential
abbrev pub rank_by : Pattern → Network → Devices → ValueMaps → ℕ → ℕ
rank_by (pattern.Acyclic q) N D V = rank_of N D (λ n. integer_of (V q n))
rank_by _ N D V = λ n. 0

-- how many rounds later a `rep` hears of a result than a `share`
abbrev pub lag_of : Evolution → ℕ
lag_of ByRep = 1
lag_of ByShare = 0

-- the `rep` or `share` in whose body a node is: the place of its binder, the level of its body, and its stages
pub record Stage : Type 0 where
  pub var : ℕ
  pub base : ℕ
  pub lag : ℕ
  pub pattern : Pattern
  pub rank : ℕ → ℕ

-- what is kept is at the stages of level j: those of a growth c, towards which each of `turns` firings rises by r; and
-- those of a potential
abbrev pub ClimbsBy : ℕ → ℕ → ℕ → ℕ → ℕ → ℕ → ℕ → Option LocalValue → LocalValue → Type 0
ClimbsBy m c r turns base lag j o w =
    (i q : ℕ) → q < turns → base + i * (turns + lag) + q ≤ j → KeptClose (climbed m c r i (suc q)) o w

abbrev pub RanksBy : (ℕ → ℕ) → ℕ → ℕ → ℕ → ℕ → Option LocalValue → LocalValue → Type 0
RanksBy rank base lag j n o w = (i : ℕ) → base + i * suc lag ≤ j → rank n ≤ i → o ≡ Some w

-- what device n keeps is at the stages of level j, the first of which is reached at the base
abbrev pub StageBy : ℕ → Pattern → ℕ → ℕ → (ℕ → ℕ) → ℕ → ℕ → Option LocalValue → LocalValue → Type 0
StageBy m pattern.Constant base lag rank j n o w = Unit {0}
StageBy m (pattern.Acyclic q) base lag rank j n o w = RanksBy rank base lag j n o w
StageBy m (pattern.Minimising greatest c) base lag rank j n o w = ClimbsBy m c c 1 base lag j o w
StageBy m (pattern.Rising greatest c r) base lag rank j n o w = ClimbsBy m c r (turns_of c r) base lag j o w

-- the kept result, and what is inside `nbr` of the variable, one level later
abbrev pub KeptAt : ℕ → Stage → ℕ → ℕ → Option LocalValue → LocalValue → Type 0
KeptAt m st j n o w = StageBy m st.pattern st.base st.lag st.rank j n o w

abbrev pub HeardAt : ℕ → Stage → ℕ → ℕ → Option LocalValue → LocalValue → Type 0
HeardAt m st j n o w = StageBy m st.pattern (suc st.base) st.lag st.rank j n o w
