-- The rows of a core are all its exports, and a scene has them as they are.
use Rattle.std.proofs.Common.{ℕ, ◌≡◌, ◌||◌, Bool, true, false, List, [], ◌∷◌, ◌++◌, refl, ap, ◌∙◌, sym, Option, Some, None}
use Rattle.std.specs.Prelude.{if◌then◌else◌, nat_eq}
use Rattle.std.specs.List.{All}
use Rattle.std.proofs.Math.Path.{fun_ext}
use Rattle.std.proofs.lemmas.Bool.{eqb-true}
use Rattle.std.proofs.lemmas.List.Elements.{All-nil, All-cons}
use Rattle.fc_values.specs.Trees.{TreeExport}
use Rattle.fc_nodes.specs.Program.{Unfolding}
use Rattle.fc_nodes.specs.Flat.{IsWellTyped}
use Rattle.topology.specs.Networks.{NetDevice, Lives, numbers}
use Rattle.fc_values.specs.Fields.{is_in}
use Rattle.firing_core.specs.Cores.{Core, IsGood}
use Rattle.firing_core.specs.Starts.{look_up}
use Rattle.net_json.specs.Tables.{Row}
use Rattle.net_json.specs.ReadingBack.{TablesReadBack}
use Rattle.command_frame.specs.Tables.{row_of, rows_of}
use Rattle.command_frame.specs.Resuming.{TablesResume}
use Rattle.command_frame.proofs.Rows.{rows_rise}

-- what holds of each export of a core holds of its rows
all_rows : (P : Row → Type 0) (core : Core) (ds : List NetDevice)
    → ((d : ℕ) (e : TreeExport) → core.exports d ≡ Some e → P (d, e)) → All P (rows_of core ds)
all_rows P core [] h = All-nil P
all_rows P core (d ∷ ds) h = by_export (core.exports d.id) refl (all_rows P core ds h)
  where
    by_export : (o : Option TreeExport) → core.exports d.id ≡ o → All P (rows_of core ds)
        → All P (row_of d.id o ++ rows_of core ds)
    by_export None is rest = rest
    by_export (Some e) is rest = All-cons P (d.id, e) (rows_of core ds) (h d.id e is) rest

abbrev look : List Row → ℕ → Option TreeExport
look rows = look_up (λ (r : Row). r.0) (λ (r : Row). r.1) rows

either_none : (b : Bool) (o : Option TreeExport) → o ≡ None → (if b then o else None) ≡ None
either_none true o none = none
either_none false o none = refl

-- the rows of some devices have the exports of these devices
looked : (core : Core) (ds : List NetDevice) (d : ℕ)
    → look (rows_of core ds) d ≡ (if is_in d (numbers ds) then core.exports d else None)
looked core [] d = refl
looked core (x ∷ ds) d = by_export (core.exports x.id) refl (nat_eq d x.id) refl (looked core ds d)
  where
    by_export : (o : Option TreeExport) → core.exports x.id ≡ o → (b : Bool) → nat_eq d x.id ≡ b
        → look (rows_of core ds) d ≡ (if is_in d (numbers ds) then core.exports d else None)
        → look (row_of x.id o ++ rows_of core ds) d ≡ (if b || is_in d (numbers ds) then core.exports d else None)
    by_export None is true here ih =
        let none : core.exports d ≡ None = ap core.exports (eqb-true d x.id here) ∙ is in
        ih ∙ either_none (is_in d (numbers ds)) (core.exports d) none ∙ sym none
    by_export None is false other ih = ih
    by_export (Some e) is true here ih = ap (λ b. if b then Some e else look (rows_of core ds) d) here ∙ sym is
        ∙ ap core.exports (sym (eqb-true d x.id here))
    by_export (Some e) is false other ih = ap (λ b. if b then Some e else look (rows_of core ds) d) other ∙ ih

-- a good core has exports of its devices alone
no_other : (U : Unfolding) (core : Core) (d : ℕ) → IsGood U core → (b : Bool) → is_in d (numbers core.net.devices) ≡ b
    → (if b then core.exports d else None) ≡ core.exports d
no_other U core d good true there = refl
no_other U core d good false away = by_export (core.exports d) refl
  where
    by_export : (o : Option TreeExport) → core.exports d ≡ o → None ≡ core.exports d
    by_export None is = sym is
    by_export (Some e) is = let there = (good.exports d e is).there in absurd cc

pub tables_resume : TablesReadBack → TablesResume
tables_resume read U core path few net good = record {
  rows = read U core.net path (rows_of core core.net.devices) few (record {
    rising = rows_rise core core.net.devices net.rising;
    there = all_rows (λ (r : Row). Lives core.net r.0) core core.net.devices (λ d e is. (good.exports d e is).there);
    exports = all_rows (λ (r : Row). IsWellTyped U r.1) core core.net.devices (λ d e is. (good.exports d e is).typed);
  });
  exports = fun_ext (λ d. looked core core.net.devices d
      ∙ no_other U core d good (is_in d (numbers core.net.devices)) refl);
}
