-- Slots that are filled with the values of a list, along the terms of a program.
use Rattle.std.specs.Prelude.{ℕ, Bool, true, false, ◌≡◌, ◌<◌, ◌≤◌, ◌+◌, ◌++◌, List, [], ◌∷◌, length, map, Option, Some}
use Rattle.std.specs.Prelude.{None}
use Rattle.std.specs.Borrow.{Bor}
use Rattle.fc_values.specs.declared.exports.Export.{Export}
use Rattle.fc_values.specs.declared.exports.Slot.{Slot}
use Rattle.fc_values.specs.declared.values.Local.{Local}
use Rattle.fc_values.specs.Types.{LocalType}
use Rattle.fc_values.specs.Values.{LocalValue, local_of}
use Rattle.fc_values.specs.Exports.{SlotValue, slot_at, slots_of}
use Rattle.fc_values.specs.Trees.{TreeExport}
use Rattle.fc_nodes.specs.declared.nodes.Node.{Node}
use Rattle.fc_nodes.specs.Terms.{Term, Terms, term_at, terms_by, kept, kept_all}
use Rattle.fc_nodes.specs.Program.{Program, Unfolding, unfolding_of}
use Rattle.fc_nodes.specs.Flat.{IsWellTyped}
use Rattle.value_trees.specs.declared.items.Item.{Item}
use Rattle.value_trees.specs.declared.reading.Visit.{Visit}
use Rattle.value_trees.specs.declared.reading.KeptFault.{KeptFault}
use Rattle.value_trees.specs.declared.reading.KeptFault.TheVariants as fault
use Rattle.value_trees.specs.KeptLists.{kept_values, kept_only}
use Rattle.value_trees.specs.KeptReads.{misfit_of}
use Rattle.value_trees.specs.KeptItems.{KeptItem, Took, take_value, take_main, misfit_among, kept_of, values}
use Rattle.value_trees.specs.Leavings.{Leaving, Leaves, Misses, leaving, and_leaving, leaves_by}
use Rattle.value_trees.specs.SlotFits.{SlotsFit, AllSlotsFit, SlotFits, OwnSlotFits, after_own}
use Rattle.value_trees.specs.Snaps.{IsExportOf, tree_of}

-- the one well-typed export with this value and these kept values
pub record IsRead (U : Unfolding) (v : LocalValue) (vs : List LocalValue) (e : Export) : Type 0 where
  pub export : IsExportOf U e
  pub value : (tree_of U e).value ≡ v
  pub list : kept_values (tree_of U e) ≡ vs
  pub only : (x : TreeExport) → IsWellTyped U x → x.value ≡ v → kept_values x ≡ vs → x ≡ tree_of U e

-- no well-typed export keeps these values
abbrev pub NoExportKeeps : Unfolding → List LocalValue → Type 0
NoExportKeeps U vs = (e : TreeExport) → IsWellTyped U e → kept_values e ≡ vs → ⊥

-- a fault of a list: its first misfit, where no well-typed export keeps the list; or want of memory
abbrev pub IsFault : Unfolding → List LocalValue → KeptFault → Type 0
IsFault U vs (fault.At p) = (misfit_of U vs ≡ Some p) × NoExportKeeps U vs
IsFault U vs fault.Memory = Unit {0}

-- the export with this value whose tree the items give, with none left
pub record IsReadOff (U : Unfolding) (v : LocalValue) (xs : List KeptItem) (e : Export) : Type 0 where
  pub export : IsExportOf U e
  pub value : (tree_of U e).value ≡ v
  pub tree : take_main U xs ≡ Took (tree_of U e).tree []

-- a fault of items: their first misfit, or want of memory
abbrev pub IsItemFault : Unfolding → List KeptItem → KeptFault → Type 0
IsItemFault U xs (fault.At p) = misfit_among U xs ≡ Some p
IsItemFault U xs fault.Memory = Unit {0}

-- the same of values and of items in code
abbrev pub IsReadOffItems : Program → Local → List Item → Export → Type 0
IsReadOffItems P v items e = IsReadOff (unfolding_of P) (local_of v) (map kept_of items) e

abbrev pub IsFaultOfItems : Program → List Item → KeptFault → Type 0
IsFaultOfItems P items f = IsItemFault (unfolding_of P) (map kept_of items) f

abbrev pub IsReadFrom : Program → Local → List Local → Export → Type 0
IsReadFrom P v list e = IsRead (unfolding_of P) (local_of v) (map local_of list) e

abbrev pub IsFaultOf : Program → List Local → KeptFault → Type 0
IsFaultOf P list f = IsFault (unfolding_of P) (map local_of list) f

-- the items that a term leaves: where it isn't evaluated it reads none
abbrev pub left_at : Bool → ℕ → ℕ → Term → List KeptItem → Leaving
left_at true c p t xs = leaves_by c p t xs
left_at false c p t xs = Leaves xs

-- the items that terms at places leave, one after another
abbrev pub left_after : Bool → ℕ → (ℕ → Term) → List ℕ → List KeptItem → Leaving
left_after g c go [] xs = Leaves xs
left_after g c go (k ∷ ks) xs = and_leaving (left_at g c k (go k) xs) (λ ys. left_after g c go ks ys)

-- the items that the node at a place leaves, of what it keeps itself
abbrev pub own_at : Bool → ℕ → Option LocalType → ℕ → List KeptItem → Leaving
own_at g c None p xs = Leaves xs
own_at false c (Some s) p xs = Leaves xs
own_at true c (Some s) p xs = leaving (take_value c s p xs)

-- slots behind others
pub record Extends (xs ys : List SlotValue) : Type 0 where
  pub long : length xs ≤ length ys
  pub same : (k : ℕ) → k < length xs → slot_at k ys ≡ slot_at k xs

-- slots ys extend xs to n in all, and a fact holds of them; of the items vs, us are left, and the others were taken
pub record Fills (F : List SlotValue → Type 0) (n : ℕ) (l : Leaving) (vs us : List KeptItem) (xs ys : List SlotValue)
    : Type 0 where
  pub left : l ≡ Leaves us
  pub extends : Extends xs ys
  pub fits : F ys
  pub long : length ys ≡ n
  pub same : kept_only ys ++ values us ≡ kept_only xs ++ values vs

-- a fault of a term: its first misfit, or want of memory
abbrev pub FaultIn : Leaving → KeptFault → Type 0
FaultIn l (fault.At p) = l ≡ Misses p
FaultIn l fault.Memory = Unit {0}

-- the first of some items has this value
pub record IsHead (v : LocalValue) (vs us : List KeptItem) : Type 0 where
  pub item : KeptItem
  pub value : item.value ≡ v
  pub is : vs ≡ item ∷ us

-- the value that is taken is that of the first item
abbrev pub IsFirst : Bool → LocalValue → List KeptItem → List KeptItem → Type 0
IsFirst true v vs us = IsHead v vs us
IsFirst false v vs us = Unit {0}

-- ---- what a visit of a place does, in the words of the code

abbrev pub ceiling_in : Visit → ℕ
ceiling_in v = v.program.now.declared.ceiling

abbrev pub nodes_in : Visit → List Node
nodes_in v = v.program.now.nodes

abbrev pub term_in : Visit → Term
term_in v = term_at (nodes_in v) v.place

-- the items that the term there leaves
abbrev pub left_in : Visit → List Item → Leaving
left_in v list = left_at v.taken (ceiling_in v) v.place (term_in v) (map kept_of list)

-- slots are put behind the old ones, out of the first items of a list; the rest of the list is left
abbrev pub FillsWith : (List SlotValue → Type 0) → ℕ → Leaving → List Item → List Slot → List Slot → Bor (List Item)
    → Type 0
FillsWith F n l list old new rest =
    Fills F n l (map kept_of list) (map kept_of rest.now) (slots_of old) (slots_of new)

-- the slots of the term there
abbrev pub FillsTerm : Visit → List Item → List Slot → List Slot → Bor (List Item) → Type 0
FillsTerm v list old new rest =
    FillsWith (SlotsFit v.taken (ceiling_in v) (term_in v) (length (slots_of old)))
    (length (slots_of old) + kept (term_in v)) (left_in v list) list old new rest

abbrev pub TermFault : Visit → List Item → KeptFault → Type 0
TermFault v list f = FaultIn (left_in v list) f

-- those of the terms at some places, one after another
abbrev pub terms_in : Visit → List ℕ → Terms
terms_in v ks = terms_by (term_at (nodes_in v)) ks

abbrev pub left_in_all : Visit → List ℕ → List Item → Leaving
left_in_all v ks list = left_after v.taken (ceiling_in v) (term_at (nodes_in v)) ks (map kept_of list)

abbrev pub FillsTerms : Visit → List ℕ → List Item → List Slot → List Slot → Bor (List Item) → Type 0
FillsTerms v ks list old new rest =
    FillsWith (AllSlotsFit v.taken (ceiling_in v) (terms_in v ks) (length (slots_of old)))
    (length (slots_of old) + kept_all (terms_in v ks)) (left_in_all v ks list) list old new rest

abbrev pub TermsFault : Visit → List ℕ → List Item → KeptFault → Type 0
TermsFault v ks list f = FaultIn (left_in_all v ks list) f

-- the slot of what the node there keeps itself
abbrev pub own_in : Visit → Option LocalType → List Item → Leaving
own_in v o list = own_at v.taken (ceiling_in v) o v.place (map kept_of list)

abbrev pub FillsOwn : Visit → Option LocalType → List Item → List Slot → List Slot → Bor (List Item) → Type 0
FillsOwn v o list old new rest =
    FillsWith (OwnSlotFits v.taken (ceiling_in v) o (length (slots_of old))) (after_own o (length (slots_of old)))
    (own_in v o list) list old new rest

abbrev pub OwnFault : Visit → Option LocalType → List Item → KeptFault → Type 0
OwnFault v o list f = FaultIn (own_in v o list) f

-- one slot, with a value of a type
abbrev pub FillsSlot : Visit → LocalType → List Item → List Slot → List Slot → Bor (List Item) → Type 0
FillsSlot v t list old new rest =
    FillsWith (SlotFits v.taken (ceiling_in v) t (length (slots_of old))) (length (slots_of old) + 1)
    (own_in v (Some t) list) list old new rest

-- the slot behind the old ones has the value of the first item, where the place is evaluated
abbrev pub IsTaken : Visit → List Item → List Slot → List Slot → Bor (List Item) → Type 0
IsTaken v list old new rest =
    IsFirst v.taken (slot_at (length (slots_of old)) (slots_of new)).1 (map kept_of list) (map kept_of rest.now)
