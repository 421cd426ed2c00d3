-- An end of a firing that is sent to each neighbour.
use Rattle.std.proofs.Common.{◌≡◌, ℕ, List, ◌∙◌, ap, Option, Some}
use Rattle.std.specs.Prelude.{option_map}
use Rattle.fc_values.specs.declared.exports.Export.{Export}
use Rattle.fc_values.specs.Trees.{TreeExport}
use Rattle.fc_nodes.specs.Program.{Unfolding, unfolding_of}
use Rattle.value_trees.specs.Snaps.{tree_of}
use Rattle.firing_core.specs.Cores.{Core, Ends}
use Rattle.firing_core.specs.CoreViews.{CoreValue, core_of, program_of}
use Rattle.firing_core.proofs.Maps.{put_same}
use Rattle.firing_core.specs.declared.entries.StepFault.{StepFault}
use Rattle.firing_core.specs.declared.entries.StepFault.TheVariants as step
use Rattle.firing_core.specs.Entries.{EndEntry}
use Rattle.firing_core.specs.Replays.{fault_of}
use Rattle.message_links.specs.declared.entries.MailFault.TheVariants as fault
use Rattle.mail_book.specs.MailReplays.{HasStepFault}
use Rattle.message_links.specs.MailCores.{Message as MailMessage, MailCore, MailEnd, MailStep, posted}
use Rattle.mail_book.specs.declared.letters.Letters.{Letters}
use Rattle.mail_book.specs.Rows.{heard_at, transit_at, Posts}
use Rattle.mail_book.specs.MailViews.{mail_with, mail_of}

-- what a device has published is the export of its firing
pub published : (U : Unfolding) (c next : Core) (d : ℕ) (o : Option TreeExport) (e : Ends U c d next) → o ≡ next.exports d → o ≡ Some e.export
published U c next d o e q = q ∙ ap (λ (k : Core). k.exports d) e.after ∙ put_same c.exports d (Some e.export)

pub ends_sent : (c next : CoreValue) (rows new : List (List Letters)) (d i : ℕ) (x : Export) → next.program ≡ c.program → next.net ≡ c.net → Ends (program_of c) (core_of c) d (core_of next)
    → Some (tree_of (program_of next) x) ≡ (core_of next).exports d → Posts (program_of next) next.net d (Some i) (tree_of (program_of next) x) rows new
    → MailStep (program_of c) i (mail_of (mail_with c rows)) (MailEnd d) (mail_of (mail_with next new))
ends_sent c next rows new d i x program net e own p = record {
  ends = e;
  heard = p.heard ∙ ap (λ P. heard_at (unfolding_of P) next.net rows) program ∙ ap (λ M. heard_at (program_of c) M rows) net;
  transit = p.transit
      ∙ ap (λ y. let m : MailMessage = record { export = y; sent = Some i } in posted next.net (transit_at (program_of next) next.net rows) d m) made
      ∙ ap (λ P. posted next.net (transit_at (unfolding_of P) next.net rows) d sent) program
      ∙ ap (λ M. posted M (transit_at (program_of c) M rows) d sent) net;
}
  where
    sent : MailMessage
    sent = record { export = e.export; sent = Some i }

    made : tree_of (program_of next) x ≡ e.export
    made = let q = published (program_of c) (core_of c) (core_of next) d (Some (tree_of (program_of next) x)) e own in cc

-- why an end has no step, from what the core says of it
abbrev pub SaysOfEnd : MailCore → ℕ → StepFault → Type 0
SaysOfEnd c d step.NoDevice = fault_of c.core (EndEntry d) ≡ Some step.NoDevice
SaysOfEnd c d step.Flying = fault_of c.core (EndEntry d) ≡ Some step.Flying
SaysOfEnd c d step.NotFlying = fault_of c.core (EndEntry d) ≡ Some step.NotFlying
SaysOfEnd c d step.Memory = Unit {0}

pub end_refused : (c : MailCore) (d : ℕ) (f : StepFault) → SaysOfEnd c d f → HasStepFault c (MailEnd d) f
end_refused c d step.NoDevice h = ap (option_map fault.Step) h
end_refused c d step.Flying h = ap (option_map fault.Step) h
end_refused c d step.NotFlying h = ap (option_map fault.Step) h
end_refused c d step.Memory h = tt
