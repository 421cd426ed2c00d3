-- Growth: by how much an expression of a body is raised above what is heard of the body's variable, by the program
-- alone.
use Rattle.std.specs.Prelude.{ℕ, suc, Bool, true, false, not, ◌+◌, ◌&&◌, ◌||◌, List, [], ◌∷◌, min, nat_eq, nat_le, if◌then◌else◌}
use Rattle.fc_values.specs.declared.builtins.Builtin.{Builtin}
use Rattle.fc_values.specs.declared.builtins.Builtin.TheVariants as op
use Rattle.fc_values.specs.BuiltinTypes.{inner}
use Rattle.fc_nodes.specs.Terms.{Evolution, Term, Terms, Plain, Apply, Nbr, Evolve, If, Let, NoMore, More, term_type, size}
use Rattle.interval_facts.specs.Ranges.{RangeValue}
use Rattle.fc_nodes.specs.Variables.{occurs, is_own, is_heard}
use Rattle.growth_facts.specs.Leads.{is_integer, leads, least_integer}

-- whether a term is the second component of what is heard
abbrev pub is_heard_rest : Evolution → ℕ → Term → Bool
is_heard_rest e x (Apply t op.Snd (More h NoMore)) = is_heard e x h
is_heard_rest e x _ = false

-- a growth, or the place of the node that has none
pub data GrowthValue : Type 0 where
  Grows : ℕ → GrowthValue
  Lacks : ℕ → GrowthValue

-- what is known of a node of a body: whether the variable occurs in it, whether it is the variable itself, what is
-- heard of the variable, or the second component of that; whether its entries are integers, or are led by an integer;
-- the least of these integers; and its growth
pub record NodeFacts : Type 0 where
  pub uses : Bool
  pub own : Bool
  pub heard : Bool
  pub rest : Bool
  pub integer : Bool
  pub leads : Bool
  pub least : ℕ
  pub growth : GrowthValue

-- ---- growth by the arguments of a builtin; p is the place of the node

-- a growth under a condition
abbrev pub only_if : Bool → ℕ → GrowthValue → GrowthValue
only_if b p g = if b then g else Lacks p

-- the variable is in one of two arguments alone: in the first, or in the second
abbrev pub on_one_side : Bool → Bool → ℕ → GrowthValue → GrowthValue → GrowthValue
on_one_side true false p first second = first
on_one_side false true p first second = second
on_one_side true true p first second = Lacks p
on_one_side false false p first second = Lacks p

-- more by the least of a summand, at most the ceiling
abbrev pub raised : ℕ → ℕ → GrowthValue → GrowthValue
raised ceiling least (Grows c) = Grows (min ceiling (c + least))
raised ceiling least (Lacks q) = Lacks q

-- where both have a growth
abbrev pub lesser_growth : GrowthValue → GrowthValue → GrowthValue
lesser_growth (Grows a) (Grows b) = Grows (min a b)
lesser_growth (Grows a) (Lacks q) = Lacks q
lesser_growth (Lacks q) b = Lacks q

abbrev pub op_growth : ℕ → ℕ → Builtin → List NodeFacts → GrowthValue
op_growth ceiling p op.Add (a ∷ b ∷ []) =
    on_one_side a.uses b.uses p (raised ceiling b.least a.growth) (raised ceiling a.least b.growth)
op_growth ceiling p op.Max (a ∷ b ∷ []) = on_one_side a.uses b.uses p a.growth b.growth
op_growth ceiling p op.Mul (a ∷ b ∷ []) =
    on_one_side a.uses b.uses p (only_if (nat_le 1 b.least) p a.growth) (only_if (nat_le 1 a.least) p b.growth)
op_growth ceiling p op.Min (a ∷ b ∷ []) = lesser_growth a.growth b.growth
op_growth ceiling p op.Mux (s ∷ a ∷ b ∷ []) = only_if (not s.uses) p (lesser_growth a.growth b.growth)
op_growth ceiling p op.Pair (h ∷ t ∷ []) = only_if (h.integer && (not t.uses || t.rest)) p h.growth
op_growth ceiling p op.Fst (h ∷ []) = only_if (h.heard && h.leads) p (Grows 0)
op_growth ceiling p _ _ = Lacks p

-- ---- growth of a node

-- A node without the variable (`uses` is false) has the growth `apart`, what is heard of the variable has `heard`, and
-- any other node `other`.
abbrev pub growth_by : Bool → Bool → GrowthValue → GrowthValue → GrowthValue → GrowthValue
growth_by false is_heard apart heard other = apart
growth_by true true apart heard other = heard
growth_by true false apart heard other = other

-- without the variable: the ceiling, where no value is less
abbrev pub growth_apart : ℕ → ℕ → ℕ → GrowthValue
growth_apart ceiling p least = only_if (nat_eq least ceiling) p (Grows ceiling)

-- what is heard: 0, where it is led by integers
abbrev pub growth_heard : ℕ → Bool → GrowthValue
growth_heard p leads = only_if leads p (Grows 0)

-- a node of which `other` is the growth where it has the variable and isn't what is heard of it
abbrev pub node_growth : ℕ → (ℕ → RangeValue) → Evolution → ℕ → ℕ → Term → GrowthValue → GrowthValue
node_growth ceiling rs e x p t other =
    growth_by (occurs x t) (is_heard e x t) (growth_apart ceiling p (least_integer (rs p)))
    (growth_heard p (leads (inner (term_type t)))) other

-- the facts of a term at a place, with its growth
abbrev pub facts_with : (ℕ → RangeValue) → Evolution → ℕ → ℕ → Term → GrowthValue → NodeFacts
facts_with rs e x p t g = record {
  uses = occurs x t;
  own = is_own x t;
  heard = is_heard e x t;
  rest = is_heard_rest e x t;
  integer = is_integer (inner (term_type t));
  leads = leads (inner (term_type t));
  least = least_integer (rs p);
  growth = g;
}

-- The growth of the node at place p of the body of a `rep` or `share` with the variable x. The ranges of the nodes are
-- given by their places. Builtins join growths; under any other node a variable has none.
abbrev mutual
  pub growth_of : ℕ → (ℕ → RangeValue) → Evolution → ℕ → ℕ → Term → GrowthValue
  growth_of ceiling rs e x p (Plain t l) = node_growth ceiling rs e x p (Plain t l) (Lacks p)
  growth_of ceiling rs e x p (Apply t o xs) =
      node_growth ceiling rs e x p (Apply t o xs) (op_growth ceiling p o (facts_in ceiling rs e x (suc p) xs))
  growth_of ceiling rs e x p (Nbr t a) = node_growth ceiling rs e x p (Nbr t a) (Lacks p)
  growth_of ceiling rs e x p (Evolve t f a b) = node_growth ceiling rs e x p (Evolve t f a b) (Lacks p)
  growth_of ceiling rs e x p (If t c a b) = node_growth ceiling rs e x p (If t c a b) (Lacks p)
  growth_of ceiling rs e x p (Let t a b) = node_growth ceiling rs e x p (Let t a b) (Lacks p)

  -- the facts of terms that stand one after another
  pub facts_in : ℕ → (ℕ → RangeValue) → Evolution → ℕ → ℕ → Terms → List NodeFacts
  facts_in ceiling rs e x p NoMore = []
  facts_in ceiling rs e x p (More t ts) =
      facts_with rs e x p t (growth_of ceiling rs e x p t) ∷ facts_in ceiling rs e x (p + size t) ts

-- the facts of a term at a place
abbrev pub facts_of : ℕ → (ℕ → RangeValue) → Evolution → ℕ → ℕ → Term → NodeFacts
facts_of ceiling rs e x p t = facts_with rs e x p t (growth_of ceiling rs e x p t)
