-- The facts of a node from those of its kids.
use Rattle.std.specs.Prelude.{ℕ, zero, suc, Bool, false, ◌≡◌, ◌||◌, List, [], ◌∷◌, length, Option, Some}
use Rattle.fc_values.specs.declared.builtins.Builtin.{Builtin}
use Rattle.fc_values.specs.declared.builtins.Builtin.TheVariants as op
use Rattle.fc_values.specs.Types.{LocalType}
use Rattle.fc_nodes.specs.declared.nodes.Node.{Node}
use Rattle.fc_nodes.specs.Terms.{Evolution, ByRep, ByShare, Sort, OfLeaf, OfApply, OfNbr, OfEvolve, OfIf, OfLet, View, Has, view_at, term_at}
use Rattle.fc_nodes.specs.Program.{Program, unfolding_of}
use Rattle.interval_facts.specs.Ranges.{range_of}
use Rattle.growth_facts.specs.declared.node_facts.Growth.{Growth}
use Rattle.growth_facts.specs.declared.node_facts.Growth.TheVariants as growth
use Rattle.growth_facts.specs.declared.node_facts.Facts.{Facts}
use Rattle.growth_facts.specs.declared.node_facts.Kids.{Kids}
use Rattle.fc_nodes.specs.Sorts.{is_own_sort}
use Rattle.growth_facts.specs.Leads.{is_integer, leads}
use Rattle.growth_facts.specs.Growth.{GrowthValue, Grows, Lacks, NodeFacts, op_growth, growth_by, growth_apart, growth_heard, growth_of, facts_of}

abbrev pub growth_value : Growth → GrowthValue
growth_value (growth.None p) = Lacks p
growth_value (growth.At c) = Grows c

abbrev pub facts_value : Facts → NodeFacts
facts_value f = record {
  uses = f.uses;
  own = f.own;
  heard = f.heard;
  rest = f.rest;
  integer = f.integer;
  leads = f.leads;
  least = f.least;
  growth = growth_value f.growth;
}

-- ---- one node, from its kids

abbrev pub any_uses : List NodeFacts → Bool
any_uses [] = false
any_uses (f ∷ fs) = f.uses || any_uses fs

abbrev pub first_own : List NodeFacts → Bool
first_own [] = false
first_own (f ∷ fs) = f.own

abbrev pub heard_sort : Evolution → ℕ → Sort → List NodeFacts → Bool
heard_sort ByRep x (OfLeaf l) fs = false
heard_sort ByRep x (OfApply o) fs = false
heard_sort ByRep x OfNbr fs = first_own fs
heard_sort ByRep x (OfEvolve e) fs = false
heard_sort ByRep x OfIf fs = false
heard_sort ByRep x OfLet fs = false
heard_sort ByShare x s fs = is_own_sort x s

abbrev pub rest_op : Builtin → List NodeFacts → Bool
rest_op op.Snd (f ∷ []) = f.heard
rest_op _ _ = false

abbrev pub rest_sort : Sort → List NodeFacts → Bool
rest_sort (OfLeaf l) fs = false
rest_sort (OfApply o) fs = rest_op o fs
rest_sort OfNbr fs = false
rest_sort (OfEvolve e) fs = false
rest_sort OfIf fs = false
rest_sort OfLet fs = false

abbrev pub sort_growth : ℕ → ℕ → Sort → List NodeFacts → GrowthValue
sort_growth ceiling p (OfLeaf l) fs = Lacks p
sort_growth ceiling p (OfApply o) fs = op_growth ceiling p o fs
sort_growth ceiling p OfNbr fs = Lacks p
sort_growth ceiling p (OfEvolve e) fs = Lacks p
sort_growth ceiling p OfIf fs = Lacks p
sort_growth ceiling p OfLet fs = Lacks p

-- what a node is, its type and the least integer of its range, and the facts of its kids
abbrev pub joined : ℕ → Evolution → ℕ → ℕ → Sort → LocalType → ℕ → List NodeFacts → NodeFacts
joined ceiling e x p s t least fs = record {
  uses = is_own_sort x s || any_uses fs;
  own = is_own_sort x s;
  heard = heard_sort e x s fs;
  rest = rest_sort s fs;
  integer = is_integer t;
  leads = leads t;
  least = least;
  growth = growth_by (is_own_sort x s || any_uses fs) (heard_sort e x s fs) (growth_apart ceiling p least)
      (growth_heard p (leads t)) (sort_growth ceiling p s fs);
}

-- ---- nodes of a program

-- the kids of a node as the code holds them: facts that aren't there are blank
abbrev pub blank : NodeFacts
blank = record {
  uses = false;
  own = false;
  heard = false;
  rest = false;
  integer = false;
  leads = false;
  least = 0;
  growth = Lacks 0;
}

abbrev pub fact_at : ℕ → List NodeFacts → NodeFacts
fact_at i [] = blank
fact_at zero (f ∷ fs) = f
fact_at (suc i) (f ∷ fs) = fact_at i fs

pub record AreKids (kids : Kids) (fs : List NodeFacts) : Type 0 where
  pub uses : kids.uses ≡ any_uses fs
  pub count : kids.count ≡ length fs
  pub first : facts_value kids.first ≡ fact_at 0 fs
  pub second : facts_value kids.second ≡ fact_at 1 fs
  pub third : facts_value kids.third ≡ fact_at 2 fs

-- the facts of the terms at some places
abbrev pub facts_at : Program → Evolution → ℕ → List ℕ → List NodeFacts
facts_at P e x [] = []
facts_at P e x (k ∷ ks) =
    facts_of P.declared.ceiling (range_of (unfolding_of P)) e x k (term_at P.nodes k) ∷ facts_at P e x ks

-- ---- what is asked

-- the evolution of the `rep` or `share` at a place
abbrev pub evolution_in : Option View → Evolution
evolution_in (Some (Has (OfEvolve e) t ks)) = e
evolution_in _ = ByRep

abbrev pub IsEvolveView : Option View → Type 0
IsEvolveView (Some (Has (OfEvolve e) t ks)) = Unit {0}
IsEvolveView _ = ⊥

-- a `rep` or a `share` stands at a place
abbrev pub IsEvolving : List Node → ℕ → Type 0
IsEvolving ns p = IsEvolveView (view_at ns p)

abbrev pub evolution_at : List Node → ℕ → Evolution
evolution_at ns p = evolution_in (view_at ns p)

-- of the node at a place, for the variable of the `rep` or `share` at another
abbrev pub node_facts : Program → ℕ → ℕ → NodeFacts
node_facts P rep place =
    facts_of P.declared.ceiling (range_of (unfolding_of P)) (evolution_at P.nodes rep) rep place (term_at P.nodes place)

abbrev pub growth_at : Program → ℕ → ℕ → GrowthValue
growth_at P rep place =
    growth_of P.declared.ceiling (range_of (unfolding_of P)) (evolution_at P.nodes rep) rep place
    (term_at P.nodes place)
