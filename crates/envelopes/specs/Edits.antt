-- Which edits an envelope allows.
use Rattle.std.specs.Prelude.{ℕ, Bool, true, false, ◌≡◌, ◌≤◌, ◌⊎◌, ◌&&◌, ◌||◌, min, max, List, [], ◌∷◌, nat_eq}
use Rattle.std.specs.Prelude.{slice_get}
use Rattle.firing_core.specs.Entries.{EditValue, LinkEdit, UnlinkEdit, SetEdit, PokeEdit, JoinEdit, LeaveEdit}
use Rattle.firing_core.specs.Entries.{EntryValue, BeginEntry, EndEntry, IdleEntry, EditEntry}
use Rattle.value_bounds.specs.BoundValues.{Lies}
use Rattle.bound_firing.specs.Firing.{InputsLie, input_bound}
use Rattle.envelopes.specs.Envelopes.{MaybeDevice, MaybeLink, Envelope, MayLive, sure_in, surely_lives, bounds_in}

abbrev pub is_pair_of : ℕ → ℕ → MaybeLink → Bool
is_pair_of a b m = nat_eq m.a a && nat_eq m.b b

-- whether the link of a pair is always there
abbrev pub sure_link : ℕ → ℕ → List MaybeLink → Bool
sure_link a b [] = false
sure_link a b (m ∷ ms) = (is_pair_of a b m && m.sure) || sure_link a b ms

-- a pair may be linked with this weight
abbrev pub MayLink : ℕ → ℕ → ℕ → List MaybeLink → Type 0
MayLink a b w [] = ⊥
MayLink a b w (m ∷ ms) = ((is_pair_of a b m ≡ true) × (m.least ≤ w) × (w ≤ m.greatest)) ⊎ MayLink a b w ms

-- links that are always there are between devices that are
abbrev pub SureEnds : List MaybeDevice → List MaybeLink → Type 0
SureEnds ms [] = Unit {0}
SureEnds ms (l ∷ ls) = (l.sure ≡ true → (sure_in l.a ms ≡ true) × (sure_in l.b ms ≡ true)) × SureEnds ms ls

-- an edit that an envelope allows, and an entry, and those of a log
abbrev pub MayEdit : Envelope → EditValue → Type 0
MayEdit E (LinkEdit a b w) = MayLink (min a b) (max a b) w E.links
MayEdit E (UnlinkEdit a b) = sure_link (min a b) (max a b) E.links ≡ false
MayEdit E (SetEdit d i v) = Lies (input_bound (slice_get (bounds_in d E.devices) i)) v
MayEdit E (PokeEdit d e) = ⊥
MayEdit E (JoinEdit x) = MayLive E x.id × InputsLie (bounds_in x.id E.devices) x.inputs
MayEdit E (LeaveEdit d) = surely_lives E d ≡ false

abbrev pub MayEnter : Envelope → EntryValue → Type 0
MayEnter E (BeginEntry d) = Unit {0}
MayEnter E (EndEntry d) = Unit {0}
MayEnter E IdleEntry = Unit {0}
MayEnter E (EditEntry x) = MayEdit E x

abbrev pub AllMayEnter : Envelope → List EntryValue → Type 0
AllMayEnter E [] = Unit {0}
AllMayEnter E (e ∷ es) = MayEnter E e × AllMayEnter E es
