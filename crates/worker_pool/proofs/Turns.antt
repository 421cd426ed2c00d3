-- What the calls of a shared table do to the pass of a worker, and to that of the caller.
use Rattle.std.proofs.Common.{◌≡◌, ◌+◌, ℕ, Bool, List, [], ◌∷◌, refl, sym, ap, ◌∙◌, subst, arith, Err}
use Rattle.firing_core.specs.declared.entries.EditFault.{EditFault}
use Rattle.firing_core.specs.declared.entries.EditFault.TheVariants as edit_refusal
use Rattle.firing_core.specs.Entries.{edit_of, EditValue, EntryValue, BeginEntry, EndEntry, IdleEntry, EditEntry}
use Rattle.firing_core.specs.Cores.{Core, EditFits}
use Rattle.turn_lock.specs.Passes.{PassView, kept_part}
use Rattle.fc_nodes.specs.Program.{Program, unfolding_of}
use Rattle.export_table.specs.Items.{Opening, ItemValue}
use Rattle.export_table.specs.Passing.{TableValue, IsPassOf, on_log}
use Rattle.firing_core.specs.declared.entries.Edit.{Edit}
use Rattle.export_table.specs.Firings.{FiringValue}
use Rattle.export_table.specs.declared.firing.Pause.{Pause}
use Rattle.export_table.specs.declared.firing.Pause.TheVariants as pause
use Rattle.export_table.specs.Turns.{TookTurn, Began, Paused, Edited, Refused, CanEnd, KeepsFirings}
use Rattle.worker_pool.specs.declared.mixes.Mix.{Mix}
use Rattle.worker_pool.specs.Working.{FiredOn, EndsFiring}
use Rattle.worker_pool.specs.Mixing.{WentOn, MayMix, MixedIn, Stopped}
use Rattle.worker_pool.proofs.Passes.{starts_trans, fired_turn}

-- ---- turns of a worker

pub fired_began : (o : Opening) (v w : PassView EntryValue) (f : FiringValue) → Began o v w f → FiredOn v w
fired_began o v w f b = fired_turn o v w b.before b.core (BeginEntry f.device) b.turn refl

pub fired_paused : (o : Opening) (v w : PassView EntryValue) (p : Pause) → Paused o v w p → FiredOn v w
fired_paused o v w (pause.Rests r) b = fired_turn o v w b.before b.core IdleEntry b.turn refl
fired_paused o v w pause.Starved b = fired_turn o v w b.before b.core IdleEntry b.turn refl

pub fired_ends : (o : Opening) (v w : PassView EntryValue) (f : FiringValue) → EndsFiring o v w f → FiredOn v w
fired_ends o v w f b = fired_turn o v w b.before b.core (EndEntry f.snap.device) b.turn refl

-- ---- turns of the caller

pub went_more : (u v w : PassView EntryValue) → WentOn u v → WentOn v w → WentOn u w
went_more u v w f g = record {
  name = g.name ∙ f.name;
  out = g.out ∙ f.out;
  begins = starts_trans w.seen v.seen u.seen g.begins f.begins;
}

pub went_turn : (o : Opening) (v w : PassView EntryValue) (before : List EntryValue) (core : Core) (e : EntryValue) → TookTurn o v w before core e → WentOn v w
went_turn o v w before core e t = record {
  name = ap (λ (u : PassView EntryValue). u.name) t.view;
  out = ap (λ (u : PassView EntryValue). u.out) t.view;
  begins = starts_trans w.seen before v.seen (e ∷ [], ap (λ (u : PassView EntryValue). u.seen) t.view) t.begins;
}

pub went_edited : (o : Opening) (v w : PassView EntryValue) (e : EditValue) → Edited o v w e → WentOn v w
went_edited o v w e t = went_turn o v w t.before t.core (EditEntry e) t.turn

went_refused : (o : Opening) (v w : PassView EntryValue) (e : EditValue) (f : EditFault) → Refused o v w e f → WentOn v w
went_refused o v w e f t = went_turn o v w t.before t.core IdleEntry t.turn

pub went_ends : (o : Opening) (v w : PassView EntryValue) (f : FiringValue) → EndsFiring o v w f → WentOn v w
went_ends o v w f t = went_turn o v w t.before t.core (EndEntry f.snap.device) t.turn

-- a firing that may end may end after a turn that keeps the firings of the pass
pub keeps_end : (o : Opening) (v w : PassView EntryValue) (f : FiringValue) → KeepsFirings o v w → CanEnd o v f → CanEnd o w f
keeps_end o v w f k c = record { snap = c.snap; own = λ e p s. k f.place e (c.own e p s) }

-- a firing that may end may end after a part of the pass was split off
kept_end : (o : Opening) (v : PassView EntryValue) (f : FiringValue) (share : ℕ) → CanEnd o v f → CanEnd o (kept_part share v) f
kept_end o v f share c = record {
  snap = c.snap;
  own = λ e p s. let k = c.own e p s in record { begun = k.begun; unended = k.unended; program = k.program; copy = k.copy };
}

pub may_mix : (t : TableValue) (w : PassView ItemValue) (v : PassView EntryValue) (f : FiringValue) (e : Edit) (share : ℕ) (p : Program) → IsPassOf t w → v.left ≡ share + 2 → t.opening.program ≡ p
    → (waits : Bool) → EditFits (unfolding_of p) (edit_of e) → CanEnd t.opening v f → on_log w ≡ kept_part share v → MayMix t w (record { firing = f; edit = e; waits = waits })
may_mix t w v f e share p own left program waits fits may kept = record {
  own = own;
  some = let l = ap (λ (u : PassView EntryValue). u.left) kept in omega (arith, l, left);
  fits = subst (λ (q : Program). EditFits (unfolding_of q) (edit_of e)) (sym program) fits;
  may_end = subst (λ (u : PassView EntryValue). CanEnd t.opening u f) (sym kept) (kept_end t.opening v f share may);
}

-- ---- an edit that isn't put in

stopped : (o : Opening) (v w : PassView EntryValue) (e : EditValue) (f : EditFault) → Refused o v w e f → Stopped o v w e f
stopped o v w e (edit_refusal.Net n) r = r
stopped o v w e edit_refusal.Memory r = tt

pub mixed_refused : (t : TableValue) (v w : PassView ItemValue) (m : Mix) (f : EditFault) → IsPassOf t w → Refused t.opening (on_log v) (on_log w) (edit_of m.edit) f → MixedIn t v w m (Err f)
mixed_refused t v w m f own r = record {
  own = own;
  went = went_refused t.opening (on_log v) (on_log w) (edit_of m.edit) f r;
  mixed = tt;
  stopped = stopped t.opening (on_log v) (on_log w) (edit_of m.edit) f r;
}
