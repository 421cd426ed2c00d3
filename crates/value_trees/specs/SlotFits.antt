-- The slots of a term, read one after another.
use Rattle.std.specs.Prelude.{ℕ, suc, Bool, true, false, not, ◌&&◌, ◌≡◌, ◌<◌, ◌+◌, List, length, Option, Some, None}
use Rattle.fc_values.specs.Types.{LocalType, BoolType}
use Rattle.fc_values.specs.Values.{LocalValue, IntValue, BoolValue, PairValue, Fits, form_of}
use Rattle.fc_values.specs.BuiltinTypes.{inner}
use Rattle.fc_values.specs.Exports.{SlotValue, slot_at}
use Rattle.fc_nodes.specs.Terms.{Term, Terms, Plain, Apply, Nbr, Evolve, If, Let, NoMore, More, kept}

-- a value that is kept fits, and any other one has the form of its place
abbrev pub ValueFits : Bool → ℕ → LocalType → LocalValue → Type 0
ValueFits true ceiling s v = Fits ceiling s v
ValueFits false ceiling s v = form_of v ≡ s

-- a slot that is kept or not, with a value that fits
abbrev pub ValueSlotFits : Bool → ℕ → LocalType → SlotValue → Type 0
ValueSlotFits taken ceiling s x = (x.0 ≡ taken) × ValueFits taken ceiling s x.1

-- slot k is there, is kept or not, and its value fits
pub record SlotFits (taken : Bool) (ceiling : ℕ) (s : LocalType) (k : ℕ) (xs : List SlotValue) : Type 0 where
  pub within : k < length xs
  pub kept : (slot_at k xs).0 ≡ taken
  pub value : ValueFits taken ceiling s (slot_at k xs).1

-- the truth that a value names
abbrev pub truth_in : LocalValue → Bool
truth_in (IntValue n) = false
truth_in (BoolValue b) = b
truth_in (PairValue x y) = false

-- the slots of a term from slot k on: kept where the term is evaluated, and not kept in a branch that isn't taken
abbrev mutual
  pub SlotsFit : Bool → ℕ → Term → ℕ → List SlotValue → Type 0
  SlotsFit g c (Plain t l) k xs = Unit {0}
  SlotsFit g c (Apply t o ts) k xs = AllSlotsFit g c ts k xs
  SlotsFit g c (Nbr t a) k xs = SlotFits g c (inner t) k xs × (SlotsFit g c a (suc k) xs × Unit {0})
  SlotsFit g c (Evolve t e a b) k xs =
      SlotFits g c (inner t) k xs × (SlotsFit g c a (suc k) xs × (SlotsFit g c b (suc k + kept a) xs × Unit {0}))
  SlotsFit g c (If t x a b) k xs =
      SlotFits g c BoolType k xs × (SlotsFit g c x (suc k) xs
      × (SlotsFit (g && truth_in (slot_at k xs).1) c a (suc k + kept x) xs
      × SlotsFit (g && not (truth_in (slot_at k xs).1)) c b (suc k + kept x + kept a) xs))
  SlotsFit g c (Let t a b) k xs = SlotsFit g c a k xs × (SlotsFit g c b (k + kept a) xs × Unit {0})

  pub AllSlotsFit : Bool → ℕ → Terms → ℕ → List SlotValue → Type 0
  AllSlotsFit g c NoMore k xs = Unit {0}
  AllSlotsFit g c (More t ts) k xs = SlotsFit g c t k xs × AllSlotsFit g c ts (k + kept t) xs

-- the slot of a node itself, if it keeps something, and the first slot after it
abbrev pub OwnSlotFits : Bool → ℕ → Option LocalType → ℕ → List SlotValue → Type 0
OwnSlotFits g c None k xs = Unit {0}
OwnSlotFits g c (Some s) k xs = SlotFits g c s k xs

abbrev pub after_own : Option LocalType → ℕ → ℕ
after_own None k = k
after_own (Some s) k = suc k

-- what a walk over slots answers: the slot where it ends, or none where a fact fails
abbrev pub WalkIs : Type 0 → ℕ → Option ℕ → Type 0
WalkIs P n None = P → ⊥
WalkIs P n (Some m) = P × (m ≡ n)
