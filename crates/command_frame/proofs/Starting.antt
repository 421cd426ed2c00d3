-- The core that the code starts from, and what the scene gives for it.
use Rattle.std.proofs.Common.{ℕ, ◌≡◌, List, [], ◌∷◌, map, refl, ap, ◌∙◌, Some}
use Rattle.std.specs.Prelude.{if◌then◌else◌, nat_eq}
use Rattle.std.proofs.Math.Path.{fun_ext}
use Rattle.std.proofs.lemmas.List.Elements.{All-head, All-tail}
use Rattle.std.specs.List.{All}
use Rattle.fc_values.specs.declared.exports.Export.{Export}
use Rattle.fc_values.specs.Trees.{Copy, TreeExport}
use Rattle.fc_nodes.specs.Program.{Unfolding}
use Rattle.value_trees.specs.declared.copies.Snap.{Snap}
use Rattle.value_trees.specs.Snaps.{snap_copy, IsExportOf, IsSnap}
use Rattle.topology.specs.Networks.{Network, Lives}
use Rattle.firing_core.specs.Cores.{Map, Core}
use Rattle.firing_core.specs.Starts.{look_up, started, AllLive, TableExports, PendingSnaps, IsTable, IsPending}
use Rattle.net_json.specs.SceneCode.{AreRows, AreCopies}
use Rattle.net_json.specs.SceneCode.{row_of as row_in}
use Rattle.net_json.specs.Tables.{Row}
use Rattle.command_frame.specs.Starts.{start_of}

-- ---- the start
looked_up : {X Y Z : Type 0} (f : X → Z) (key : Z → ℕ) (value : Z → Y) (xs : List X) (d : ℕ)
    → look_up (λ x. key (f x)) (λ x. value (f x)) xs d ≡ look_up key value (map f xs) d
looked_up f key value [] d = refl
looked_up f key value (x ∷ xs) d = ap (λ rest. if nat_eq d (key (f x)) then Some (value (f x)) else rest)
    (looked_up f key value xs d)

abbrev core_with : Network → Map TreeExport → Map Copy → Core
core_with n f g = record { net = n; exports = f; flying = g }

-- the core that the code starts from is the one of the scene
pub starts_from : (U : Unfolding) (n : Network) (table : List (ℕ × Export)) (pending : List Snap) →
    started U n table pending ≡ start_of
    (record { net = n; table = map (row_in U) table; pending = map (snap_copy U) pending })
starts_from U n table pending =
    ap (λ f. core_with n f (look_up (λ (s : Snap). s.device) (snap_copy U) pending))
    (fun_ext (λ d. looked_up (row_in U) (λ (r : Row). r.0) (λ (r : Row). r.1) table d))
    ∙ ap (core_with n (look_up (λ (r : Row). r.0) (λ (r : Row). r.1) (map (row_in U) table)))
    (fun_ext (λ d. looked_up (snap_copy U) (λ (c : Copy). c.device) (λ (c : Copy). c) pending d))

-- ---- what the scene gives, as the start asks for it
all_live : {X : Type 0} (n : Network) (key : X → ℕ) (xs : List X) → All (λ x. Lives n (key x)) xs
    → AllLive n (map key xs)
all_live n key [] h = tt
all_live n key (x ∷ xs) h =
    (All-head (λ y. Lives n (key y)) x xs h, all_live n key xs (All-tail (λ y. Lives n (key y)) x xs h))

table_exports : (U : Unfolding) (rows : List (ℕ × Export)) → All (λ (r : ℕ × Export). IsExportOf U r.1) rows
    → TableExports U rows
table_exports U [] h = tt
table_exports U (r ∷ rows) h = (
  All-head (λ (r : ℕ × Export). IsExportOf U r.1) r rows h,
  table_exports U rows (All-tail (λ (r : ℕ × Export). IsExportOf U r.1) r rows h),
)

pending_snaps : (U : Unfolding) (ss : List Snap) → All (IsSnap U) ss → PendingSnaps U ss
pending_snaps U [] h = tt
pending_snaps U (s ∷ ss) h = (All-head (IsSnap U) s ss h, pending_snaps U ss (All-tail (IsSnap U) s ss h))

pub is_table : (U : Unfolding) (n : Network) (rows : List (ℕ × Export)) → AreRows U n rows → IsTable U n rows
is_table U n rows a = record {
  rising = a.rising;
  there = all_live n (λ (r : ℕ × Export). r.0) rows a.there;
  exports =
      table_exports U rows a.exports;
}

pub is_pending : (U : Unfolding) (n : Network) (ss : List Snap) → AreCopies U n ss → IsPending U n ss
is_pending U n ss a = record {
  rising = a.rising;
  there = all_live n (λ (s : Snap). s.device) ss a.there;
  snaps =
      pending_snaps U ss a.fit;
}
