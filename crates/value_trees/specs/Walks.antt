-- The value of `main`, and where a walk over slots ends.
use Rattle.std.specs.Prelude.{ℕ, Bool, false, ◌+◌, List, Option, Some, None, nat_eq}
use Rattle.fc_values.specs.declared.exports.Slot.{Slot}
use Rattle.fc_values.specs.Types.{LocalType}
use Rattle.fc_values.specs.Values.{LocalValue, Fits}
use Rattle.fc_values.specs.BuiltinTypes.{inner}
use Rattle.fc_values.specs.Exports.{slots_of}
use Rattle.fc_nodes.specs.Terms.{term_type, term_at, terms_by, kept, kept_all}
use Rattle.fc_nodes.specs.Program.{Program, Unfolding}
use Rattle.value_trees.specs.SlotFits.{SlotsFit, AllSlotsFit, OwnSlotFits, after_own, WalkIs}

-- a value that fits the type of `main`
abbrev pub FitsMain : Unfolding → LocalValue → Type 0
FitsMain U v = Fits U.declared.ceiling (inner (term_type U.main)) v

abbrev pub ends_at : ℕ → Option ℕ → Bool
ends_at n None = false
ends_at n (Some m) = nat_eq m n

-- what a walk answers over the slots of the term at a place, from slot `at` on
abbrev pub WalksTerm : Program → ℕ → Bool → List Slot → ℕ → Option ℕ → Type 0
WalksTerm P p g slots at r =
    WalkIs (SlotsFit g P.declared.ceiling (term_at P.nodes p) at (slots_of slots)) (at + kept (term_at P.nodes p)) r

-- the same for the terms at some places, one after another
abbrev pub WalksTerms : Program → List ℕ → Bool → List Slot → ℕ → Option ℕ → Type 0
WalksTerms P ks g slots at r =
    WalkIs (AllSlotsFit g P.declared.ceiling (terms_by (term_at P.nodes) ks) at (slots_of slots))
    (at + kept_all (terms_by (term_at P.nodes) ks)) r

-- the same for what a node keeps itself
abbrev pub WalksOwn : Program → Option LocalType → Bool → List Slot → ℕ → Option ℕ → Type 0
WalksOwn P o g slots at r = WalkIs (OwnSlotFits g P.declared.ceiling o at (slots_of slots)) (after_own o at) r
