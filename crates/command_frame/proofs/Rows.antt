-- The rows of a core's table.
use Rattle.std.proofs.Common.{ℕ, suc, ◌≡◌, ◌+◌, ◌<◌, ◌≤◌, List, [], ◌∷◌, ◌++◌, length, map, drop, get_or, refl, ap, ◌∙◌, sym, subst, add-one, append-nil, Option, Some, None}
use Rattle.std.specs.Borrow.{Bor}
use Rattle.std.proofs.Math.Seq.{drop-cons}
use Rattle.std.proofs.lemmas.List.{drop_all}
use Rattle.fc_values.specs.declared.exports.Export.{Export}
use Rattle.fc_values.specs.Fields.{Rises}
use Rattle.fc_values.proofs.Rising.{rises_tail, rises_weaker}
use Rattle.fc_values.specs.Trees.{TreeExport}
use Rattle.fc_nodes.specs.Program.{Unfolding}
use Rattle.topology.specs.declared.types.Device.{Device}
use Rattle.topology.specs.Networks.{NetDevice, IsNetwork, net_device_of, numbers}
use Rattle.firing_core.specs.Cores.{Core}
use Rattle.net_json.specs.SceneCode.{borrowed_row}
use Rattle.net_json.specs.Tables.{Row}
use Rattle.command_frame.specs.Tables.{row_of, rows_of}

-- ---- the rows of a core's table, device by device
pub record IsTo (U : Unfolding) (core : Core) (items : List Device) (rows : List Row) (n : ℕ) : Type 0 where
  pub so_far : rows ++ rows_of core (map net_device_of (drop n items)) ≡ rows_of core (map net_device_of items)

here : (items : List Device) (n : ℕ) (x : Device) → n < length items → x ≡ get_or items n x
    → drop n items ≡ x ∷ drop (n + 1) items
here items n x more is = drop-cons items n x more ∙ ap (λ y. y ∷ drop (suc n) items) (sym is)
    ∙ ap (λ k. x ∷ drop k items) (sym (add-one n))

pub rows_all : (U : Unfolding) (core : Core) (items : List Device) (rows : List Row) (n : ℕ)
    → IsTo U core items rows n → length items ≤ n → map net_device_of items ≡ core.net.devices
    → rows ≡ rows_of core core.net.devices
rows_all U core items rows n w end same =
    sym (append-nil rows) ∙ ap (λ l. rows ++ rows_of core (map net_device_of l)) (sym (drop_all n items end)) ∙ w.so_far
    ∙ ap (rows_of core) same

-- the devices of the rows rise
abbrev owners : List Row → List ℕ
owners rows = map (λ (r : Row). r.0) rows

rows_above : (core : Core) (b : ℕ) (ds : List NetDevice) → Rises (b ∷ numbers ds) → Rises (b ∷ owners (rows_of core ds))
rows_above core b [] h = tt
rows_above core b (d ∷ ds) h = by_export (rows_above core b ds (rises_weaker b d.id (numbers ds) h.0 h.1))
    (rows_above core d.id ds h.1) (core.exports d.id)
  where
    by_export : Rises (b ∷ owners (rows_of core ds)) → Rises (d.id ∷ owners (rows_of core ds))
        → (e : Option TreeExport) → Rises (b ∷ owners (row_of d.id e ++ rows_of core ds))
    by_export without with_it None = without
    by_export without with_it (Some e) = (h.0, with_it)

pub rows_rise : (core : Core) (ds : List NetDevice) → Rises (numbers ds) → Rises (owners (rows_of core ds))
rows_rise core [] h = tt
rows_rise core (d ∷ ds) h = by_export (rows_rise core ds (rises_tail d.id (numbers ds) h)) (core.exports d.id)
  where
    by_export : Rises (owners (rows_of core ds)) → (e : Option TreeExport)
        → Rises (owners (row_of d.id e ++ rows_of core ds))
    by_export without None = without
    by_export without (Some e) = rows_above core d.id ds h

same_owners : (U : Unfolding) (rows : List (ℕ × Bor Export))
    → owners (map (borrowed_row U) rows) ≡ map (λ (r : ℕ × Bor Export). r.0) rows
same_owners U [] = refl
same_owners U (r ∷ rows) = ap (λ l. r.0 ∷ l) (same_owners U rows)

pub table_rises : (U : Unfolding) (core : Core) (rows : List (ℕ × Bor Export))
    → map (borrowed_row U) rows ≡ rows_of core core.net.devices → IsNetwork core.net
    → Rises (map (λ (r : ℕ × Bor Export). r.0) rows)
table_rises U core rows same net = subst Rises (sym (ap owners same) ∙ same_owners U rows)
    (rows_rise core core.net.devices net.rising)
