-- An edit that the core allowed before a table was opened isn't refused in it, where the table's log has no other edit.
use Rattle.std.proofs.Common.{◌≡◌, ℕ, List, [], ◌∷◌, ◌++◌, map, drop, length, refl, sym, ap, ◌∙◌, subst, ⊎_elim, false, None, Some, Result, Err, IfErr}
use Rattle.std.proofs.lemmas.List.{append_assoc}
use Rattle.std.proofs.Math.Seq.{drop-append_seam}
use Rattle.fc_nodes.specs.Program.{unfolding_of}
use Rattle.topology.specs.Networks.{Network}
use Rattle.topology.specs.Changes.{link_fault, unlink_fault, set_fault}
use Rattle.topology.specs.declared.types.NetFault.{NetFault}
use Rattle.firing_core.specs.declared.entries.EditFault.{EditFault}
use Rattle.firing_core.specs.declared.entries.EditFault.TheVariants as edit_refusal
use Rattle.firing_core.specs.Entries.{EditValue, LinkEdit, UnlinkEdit, SetEdit, PokeEdit, JoinEdit, LeaveEdit, EntryValue, BeginEntry, IdleEntry, entries_of}
use Rattle.firing_core.specs.Cores.{Core, Run, edit_fault}
use Rattle.firing_core.specs.CoreViews.{core_of}
use Rattle.firing_core.specs.Books.{BookValue, IsBook}
use Rattle.firing_core.specs.Laws.{LogsLeadToOne}
use Rattle.firing_core.specs.Rounds.{is_edit, has_edit}
use Rattle.firing_core.specs.Stretches.{IsMixed}
use Rattle.firing_core.proofs.Cuts.{plain_net}
use Rattle.turn_lock.specs.Logs.{StartsWith, In}
use Rattle.turn_lock.specs.Passes.{PassView, opened, kept_part, new_part, joined}
use Rattle.turn_lock.proofs.Lists.{in_snoc, from_merged}
use Rattle.atomic_table.specs.Seated.{TableId}
use Rattle.export_table.specs.Firings.{FiringValue}
use Rattle.export_table.specs.Holding.{opening_of}
use Rattle.export_table.specs.Turns.{Began, Refused, Closes}
use Rattle.worker_pool.specs.Working.{FiredOn}
use Rattle.worker_pool.specs.Mixing.{Stopped}
use Rattle.worker_pool.proofs.Parts.{run_cut, plain_cut}
use Rattle.worker_pool.proofs.Passes.{starts_trans}
use Rattle.worker_pool.proofs.Closing.{plain_entries, closed_log}
use Rattle.worker_pool.proofs.Mixing.{first_plain}

-- whether an edit among firings is allowed is decided by the network
pub fault_of_net : (c k : Core) (e : EditValue) → IsMixed e → c.net ≡ k.net → edit_fault c e ≡ edit_fault k e
fault_of_net c k (LinkEdit a b w) m same = ap (λ (n : Network). link_fault n a b w) same
fault_of_net c k (UnlinkEdit a b) m same = ap (λ (n : Network). unlink_fault n a b) same
fault_of_net c k (SetEdit d i v) m same = ap (λ (n : Network). set_fault n d i v) same
fault_of_net c k (PokeEdit d x) m same = ap (λ (n : Network). edit_fault (record { net = n; exports = c.exports; flying = c.flying }) (PokeEdit d x)) same
fault_of_net c k (JoinEdit x) m same = absurd m
fault_of_net c k (LeaveEdit d) m same = absurd m

both : (f : NetFault) → None ≡ Some f → ⊥
both f t = absurd cc

module _ (lock : TableId) (turns share : ℕ) (old new : BookValue) (e : EditValue) (why : NetFault) (f : FiringValue) (v1 v3 u1 v4 : PassView EntryValue)
    (one : LogsLeadToOne) (was : IsBook old) (mixed : IsMixed e) (allowed : edit_fault (core_of old.core) e ≡ None)
    (b : Began (opening_of old 1 turns (length old.log)) (opened lock (entries_of old.log) turns) v1 f)
    (r : Refused (opening_of old 1 turns (length old.log)) (kept_part share v1) v3 e (edit_refusal.Net why))
    (u : FiredOn (new_part share v1) u1)
    (joins_to : v4 ≡ joined v3 u1) (seen : StartsWith v4.seen v3.seen)
    (c : Closes (opening_of old 1 turns (length old.log)) v4 new) where
  -- what stood between the opening and the edit's turn
  behind : StartsWith r.before (entries_of old.log)
  behind = starts_trans r.before v1.seen (entries_of old.log) r.turn.begins
      (starts_trans v1.seen b.before (entries_of old.log) (BeginEntry f.device ∷ [], ap (λ (p : PassView EntryValue). p.seen) b.turn.view) b.turn.begins)

  to_turn : StartsWith v3.seen r.before
  to_turn = (IdleEntry ∷ [], ap (λ (p : PassView EntryValue). p.seen) r.turn.view)

  at_turn : StartsWith v4.seen r.before
  at_turn = starts_trans v4.seen v3.seen r.before seen to_turn

  log : StartsWith (entries_of new.log) r.before
  log = starts_trans (entries_of new.log) v4.seen r.before c.begins at_turn

  abbrev mine : List EntryValue
  mine = map (λ (z : ℕ × EntryValue). z.1) v4.mine

  whole : mine ≡ behind.0 ++ log.0
  whole =
      let a = closed_log (opening_of old 1 turns (length old.log)) v4 old new c refl (starts_trans v4.seen r.before (entries_of old.log) at_turn behind) in
      let k : entries_of new.log ≡ entries_of old.log ++ (behind.0 ++ log.0) =
      log.1 ∙ (ap (λ (l : List EntryValue). l ++ log.0) behind.1 ∙ append_assoc (entries_of old.log) behind.0 log.0) in
      sym (drop-append_seam (entries_of old.log) mine) ∙ (ap (drop (length (entries_of old.log))) (sym a ∙ k) ∙ drop-append_seam (entries_of old.log) (behind.0 ++ log.0))

  -- no entry is an edit
  plain : (p : ℕ) (x : EntryValue) → In (p, x) v4.mine → is_edit x ≡ false
  plain p x i = ⊎_elim of_caller of_workers (from_merged (p, x) v3.mine u1.mine (subst (In (p, x)) (ap (λ (q : PassView EntryValue). q.mine) joins_to) i))
    where
      of_workers : In (p, x) u1.mine → is_edit x ≡ false
      of_workers m = ⊎_elim (λ t. absurd t) (λ t. t) (u.plain p x m)

      of_caller : In (p, x) v3.mine → is_edit x ≡ false
      of_caller m = ⊎_elim (first_plain lock turns old one was v1 f b p x) (λ t. ap (λ (z : ℕ × EntryValue). is_edit z.1) t)
          (in_snoc (p, x) (length r.before, IdleEntry) v1.mine (subst (In (p, x)) (ap (λ (q : PassView EntryValue). q.mine) r.turn.view) m))

  none_before : has_edit behind.0 ≡ false
  none_before = (plain_cut behind.0 log.0 (subst (λ (l : List EntryValue). has_edit l ≡ false) whole (plain_entries v4.mine plain))).0

  -- so the network at the edit's turn is that of the opening
  same_net : r.core.net ≡ (core_of old.core).net
  same_net =
      let U = unfolding_of old.program in
      let k = run_cut U (core_of old.start) r.core (entries_of old.log) behind.0 (subst (λ (l : List EntryValue). Run U (core_of old.start) l r.core) behind.1 r.turn.leads) in
      let start : k.0 ≡ core_of old.core = one U (core_of old.start) k.0 (core_of old.core) (entries_of old.log) was.good k.1 was.runs in
      plain_net U k.0 r.core behind.0 none_before k.2 ∙ ap (λ (m : Core). m.net) start

  not_refused : ⊥
  not_refused = both why (sym allowed ∙ (sym (fault_of_net r.core (core_of old.core) e mixed same_net) ∙ r.refused))

-- a result that says so is none
pub not_stopped : (lock : TableId) (turns share : ℕ) (old new : BookValue) (e : EditValue) (result : Result (Unit {0}) EditFault) (fault : EditFault) (why : NetFault) (f : FiringValue) (v1 v3 u1 v4 : PassView EntryValue)
    → result ≡ Err fault → fault ≡ edit_refusal.Net why → LogsLeadToOne → IsBook old → IsMixed e → edit_fault (core_of old.core) e ≡ None
    → Began (opening_of old 1 turns (length old.log)) (opened lock (entries_of old.log) turns) v1 f
    → IfErr result (Stopped (opening_of old 1 turns (length old.log)) (kept_part share v1) v3 e)
    → FiredOn (new_part share v1) u1 → v4 ≡ joined v3 u1 → StartsWith v4.seen v3.seen → Closes (opening_of old 1 turns (length old.log)) v4 new → ⊥
not_stopped lock turns share old new e result fault why f v1 v3 u1 v4 answer is one was mixed allowed b s u joins_to seen c =
    not_refused lock turns share old new e why f v1 v3 u1 v4 one was mixed allowed b
    (subst (Stopped (opening_of old 1 turns (length old.log)) (kept_part share v1) v3 e) is
    (subst (λ (r : Result (Unit {0}) EditFault). IfErr r (Stopped (opening_of old 1 turns (length old.log)) (kept_part share v1) v3 e)) answer s)) u joins_to seen c
