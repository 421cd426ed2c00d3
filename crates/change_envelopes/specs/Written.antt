-- How an envelope is written out of tables of devices and pairs.
use Rattle.std.specs.Prelude.{ℕ, Bool, false, ◌+◌, ◌&&◌, List, [], ◌∷◌, map, Option, Some, None}
use Rattle.std.specs.Ordering.{nat_cmp}
use Rattle.std.specs.BTreeMap.{BTreeMap, get}
use Rattle.fc_values.specs.Types.{Input}
use Rattle.value_bounds.specs.BoundValues.{BoundValue, Unbounded}
use Rattle.value_bounds.specs.declared.bounds.LocalBound.{LocalBound}
use Rattle.envelopes.specs.Envelopes.{MaybeDevice, MaybeLink}
use Rattle.change_bounds.specs.Tables.{bound_at}
use Rattle.change_bounds.specs.declared.pairs.PairBound.{PairBound}

-- whether a device is always there, in a table of devices at hand
abbrev pub told_to_stay : Option Bool → Bool
told_to_stay None = false
told_to_stay (Some stays) = stays

abbrev pub stays_by : BTreeMap ℕ Bool → ℕ → Bool
stays_by table d = told_to_stay (get nat_cmp table d)

-- the link of a pair, where these devices are always there
abbrev pub link_by : (ℕ → Bool) → (ℕ × ℕ) × PairBound → MaybeLink
link_by stays e = record {
  a = e.0.0;
  b = e.0.1;
  least = e.1.weights.least;
  greatest = e.1.weights.greatest;
  sure = e.1.sure && stays e.0.0 && stays e.0.1;
}

abbrev pub links_by : (ℕ → Bool) → List ((ℕ × ℕ) × PairBound) → List MaybeLink
links_by stays es = map (link_by stays) es

-- ---- devices

-- the bound of an input of which so much is said
abbrev pub told_bound : Option BoundValue → BoundValue
told_bound None = Unbounded
told_bound (Some b) = b

-- the bounds of inputs, from a number on
abbrev pub row_from : (ℕ → Option BoundValue) → ℕ → List Input → List BoundValue
row_from bound i [] = []
row_from bound i (x ∷ xs) = told_bound (bound i) ∷ row_from bound (i + 1) xs

-- the bounds of all inputs of a device, in a table of what is said of inputs
abbrev pub row_by : BTreeMap (ℕ × ℕ) LocalBound → List Input → ℕ → List BoundValue
row_by table xs d = row_from (bound_at table d) 0 xs

abbrev pub devices_by : (ℕ → List BoundValue) → List (ℕ × Bool) → List MaybeDevice
devices_by row es = map (λ (e : ℕ × Bool). record { id = e.0; inputs = row e.0; sure = e.1 }) es
