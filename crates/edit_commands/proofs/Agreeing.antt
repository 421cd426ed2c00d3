-- Crates above cite this module: entries that are the same lead to the same, and edits that one line says are the same.
use Rattle.std.proofs.Common.{ℕ, suc, ◌≡◌, Bool, true, false, ◌||◌, List, [], ◌∷◌, ◌++◌, length, refl, sym, ap, subst, ◌∙◌, Some, None, Option}
use Rattle.std.specs.Prelude.{if◌then◌else◌}
use Rattle.fc_values.specs.Trees.{TreeExport}
use Rattle.fc_values.specs.Values.{LocalValue}
use Rattle.fc_values.specs.Exports.{FlatExport}
use Rattle.fc_nodes.specs.Program.{Unfolding}
use Rattle.fc_nodes.specs.Flat.{tree_export}
use Rattle.value_trees.proofs.ReadTrees.{one_export}
use Rattle.firing_core.specs.declared.entries.ReplayFault.TheVariants as replay_fault
use Rattle.firing_core.specs.Entries.{EditValue, LinkEdit, UnlinkEdit, SetEdit, PokeEdit, JoinEdit, LeaveEdit, EntryValue, BeginEntry, EndEntry, IdleEntry, EditEntry}
use Rattle.firing_core.specs.Cores.{Core, put, edit_fault, edited, Edits, Step, Run}
use Rattle.firing_core.specs.Replays.{fault_of, net_fault_of, step_of, unless, step, and_replay, replay, FailsAt}
use Rattle.firing_core.specs.Rounds.{is_edit, has_edit, after_edit}
use Rattle.edit_commands.specs.EditLines.{EditLine, LinkLine, UnlinkLine, SetLine, PokeLine, JoinLine, LeaveLine}
use Rattle.value_trees.specs.KeptExports.{Keeps}
use Rattle.edit_commands.specs.Judging.{PokesWith, IsEdit}
use Rattle.edit_commands.specs.Agreement.{SameExport, SameEdit, SameEntry, SameEntries, StepsAgree, ReplaysAgree, FaultsAgree, PartsAgree}

-- ---- what one line says

same_kept : (U : Unfolding) (v : LocalValue) (ks : List LocalValue) (x y : FlatExport) → Keeps U v ks x → Keeps U v ks y → SameExport U x y
same_kept U v ks x y h k = record {
  first = h.export;
  second = k.export;
  tree = one_export U (tree_export U x) (tree_export U y) h.export.typed k.export.typed (h.value ∙ sym k.value) (h.list ∙ sym k.list);
}

same_pokes : (U : Unfolding) (d : ℕ) (v : LocalValue) (ks : List LocalValue) (e f : EditValue) → PokesWith U d v ks e → PokesWith U d v ks f → SameEdit U e f
same_pokes U d v ks (PokeEdit a x) (PokeEdit b y) h k = (k.0 ∙ sym h.0, same_kept U v ks x y h.1 k.1)
same_pokes U d v ks (PokeEdit a x) (LinkEdit b c w) h k = absurd k
same_pokes U d v ks (PokeEdit a x) (UnlinkEdit b c) h k = absurd k
same_pokes U d v ks (PokeEdit a x) (SetEdit b i w) h k = absurd k
same_pokes U d v ks (PokeEdit a x) (JoinEdit y) h k = absurd k
same_pokes U d v ks (PokeEdit a x) (LeaveEdit b) h k = absurd k
same_pokes U d v ks (LinkEdit a b w) f h k = absurd h
same_pokes U d v ks (UnlinkEdit a b) f h k = absurd h
same_pokes U d v ks (SetEdit a i w) f h k = absurd h
same_pokes U d v ks (JoinEdit x) f h k = absurd h
same_pokes U d v ks (LeaveEdit a) f h k = absurd h

-- an edit that is no poke
along : (U : Unfolding) (e f g : EditValue) → SameEdit U g g → e ≡ g → f ≡ g → SameEdit U e f
along U e f g s h k = subst (λ x. SameEdit U x f) (sym h) (subst (SameEdit U g) (sym k) s)

pub same_edits : (U : Unfolding) (l : EditLine) (e f : EditValue) → IsEdit U l e → IsEdit U l f → SameEdit U e f
same_edits U (LinkLine a b w) e f h k = along U e f (LinkEdit a b w) refl h k
same_edits U (UnlinkLine a b) e f h k = along U e f (UnlinkEdit a b) refl h k
same_edits U (SetLine d i v) e f h k = along U e f (SetEdit d i v) refl h k
same_edits U (PokeLine d v ks) e f h k = same_pokes U d v ks e f h k
same_edits U (JoinLine x) e f h k = along U e f (JoinEdit x) refl h k
same_edits U (LeaveLine d) e f h k = along U e f (LeaveEdit d) refl h k

-- ---- the same entries, replayed

abbrev poked : Core → ℕ → TreeExport → Core
poked c d t = record { net = c.net; exports = put c.exports d (Some t); flying = c.flying }

same_edited : (U : Unfolding) (c : Core) (e f : EditValue) → SameEdit U e f → edited U c e ≡ edited U c f
same_edited U c (LinkEdit a b w) f h = ap (edited U c) (sym h)
same_edited U c (UnlinkEdit a b) f h = ap (edited U c) (sym h)
same_edited U c (SetEdit d i v) f h = ap (edited U c) (sym h)
same_edited U c (PokeEdit d x) (PokeEdit e y) h = ap (λ n. poked c n (tree_export U x)) (sym h.0) ∙ ap (poked c e) h.1.tree
same_edited U c (PokeEdit d x) (LinkEdit a b w) h = absurd h
same_edited U c (PokeEdit d x) (UnlinkEdit a b) h = absurd h
same_edited U c (PokeEdit d x) (SetEdit a i v) h = absurd h
same_edited U c (PokeEdit d x) (JoinEdit y) h = absurd h
same_edited U c (PokeEdit d x) (LeaveEdit a) h = absurd h
same_edited U c (JoinEdit x) f h = ap (edited U c) (sym h)
same_edited U c (LeaveEdit d) f h = ap (edited U c) (sym h)

same_edit_fault : (U : Unfolding) (c : Core) (e f : EditValue) → SameEdit U e f → edit_fault c e ≡ edit_fault c f
same_edit_fault U c (LinkEdit a b w) f h = ap (edit_fault c) (sym h)
same_edit_fault U c (UnlinkEdit a b) f h = ap (edit_fault c) (sym h)
same_edit_fault U c (SetEdit d i v) f h = ap (edit_fault c) (sym h)
same_edit_fault U c (PokeEdit d x) (PokeEdit e y) h = ap (λ n. edit_fault c (PokeEdit n x)) (sym h.0)
same_edit_fault U c (PokeEdit d x) (LinkEdit a b w) h = absurd h
same_edit_fault U c (PokeEdit d x) (UnlinkEdit a b) h = absurd h
same_edit_fault U c (PokeEdit d x) (SetEdit a i v) h = absurd h
same_edit_fault U c (PokeEdit d x) (JoinEdit y) h = absurd h
same_edit_fault U c (PokeEdit d x) (LeaveEdit a) h = absurd h
same_edit_fault U c (JoinEdit x) f h = ap (edit_fault c) (sym h)
same_edit_fault U c (LeaveEdit d) f h = ap (edit_fault c) (sym h)

same_fault : (U : Unfolding) (c : Core) (e f : EntryValue) → SameEntry U e f → fault_of c e ≡ fault_of c f
same_fault U c (BeginEntry d) f h = ap (fault_of c) (sym h)
same_fault U c (EndEntry d) f h = ap (fault_of c) (sym h)
same_fault U c IdleEntry f h = ap (fault_of c) (sym h)
same_fault U c (EditEntry e) (EditEntry f) h = refl
same_fault U c (EditEntry e) (BeginEntry d) h = absurd h
same_fault U c (EditEntry e) (EndEntry d) h = absurd h
same_fault U c (EditEntry e) IdleEntry h = absurd h

same_net_fault : (U : Unfolding) (c : Core) (e f : EntryValue) → SameEntry U e f → net_fault_of c e ≡ net_fault_of c f
same_net_fault U c (BeginEntry d) f h = ap (net_fault_of c) (sym h)
same_net_fault U c (EndEntry d) f h = ap (net_fault_of c) (sym h)
same_net_fault U c IdleEntry f h = ap (net_fault_of c) (sym h)
same_net_fault U c (EditEntry e) (EditEntry f) h = same_edit_fault U c e f h
same_net_fault U c (EditEntry e) (BeginEntry d) h = absurd h
same_net_fault U c (EditEntry e) (EndEntry d) h = absurd h
same_net_fault U c (EditEntry e) IdleEntry h = absurd h

same_next : (U : Unfolding) (c : Core) (e f : EntryValue) → SameEntry U e f → step_of U c e ≡ step_of U c f
same_next U c (BeginEntry d) f h = ap (step_of U c) (sym h)
same_next U c (EndEntry d) f h = ap (step_of U c) (sym h)
same_next U c IdleEntry f h = ap (step_of U c) (sym h)
same_next U c (EditEntry e) (EditEntry f) h = ap Some (same_edited U c e f h)
same_next U c (EditEntry e) (BeginEntry d) h = absurd h
same_next U c (EditEntry e) (EndEntry d) h = absurd h
same_next U c (EditEntry e) IdleEntry h = absurd h

same_step : (U : Unfolding) (c : Core) (e f : EntryValue) → SameEntry U e f → step U c e ≡ step U c f
same_step U c e f h =
    ap (λ x. unless x (unless (net_fault_of c e) (step_of U c e))) (same_fault U c e f h)
    ∙ ap (λ x. unless (fault_of c f) (unless x (step_of U c e))) (same_net_fault U c e f h)
    ∙ ap (λ x. unless (fault_of c f) (unless (net_fault_of c f) x)) (same_next U c e f h)

pub steps_agree : StepsAgree
steps_agree U e f h c = (same_fault U c e f h, same_net_fault U c e f h, same_next U c e f h)

pub replays_agree : ReplaysAgree
replays_agree U [] [] h c = refl
replays_agree U [] (f ∷ fs) h c = absurd h
replays_agree U (e ∷ es) [] h c = absurd h
replays_agree U (e ∷ es) (f ∷ fs) h c =
    ap (λ o. and_replay o (λ next. replay U next es)) (same_step U c e f h.0) ∙ after (step U c f) (λ next. replays_agree U es fs h.1 next)
  where
    after : (o : Option Core) → ((next : Core) → replay U next es ≡ replay U next fs) → and_replay o (λ next. replay U next es) ≡ and_replay o (λ next. replay U next fs)
    after None k = refl
    after (Some next) k = k next

-- ---- the same entries, refused

edits_agree : (U : Unfolding) (c : Core) (e f : EditValue) (next : Core) → SameEdit U e f → Edits U c e next → Edits U c f next
edits_agree U c (LinkEdit a b w) f next h k = subst (λ x. Edits U c x next) (sym h) k
edits_agree U c (UnlinkEdit a b) f next h k = subst (λ x. Edits U c x next) (sym h) k
edits_agree U c (SetEdit d i v) f next h k = subst (λ x. Edits U c x next) (sym h) k
edits_agree U c (PokeEdit d x) (PokeEdit e y) next h k = record {
  fits = h.1.second;
  allowed = sym (same_edit_fault U c (PokeEdit d x) (PokeEdit e y) h) ∙ k.allowed;
  after = k.after ∙ same_edited U c (PokeEdit d x) (PokeEdit e y) h;
}
edits_agree U c (PokeEdit d x) (LinkEdit a b w) next h k = absurd h
edits_agree U c (PokeEdit d x) (UnlinkEdit a b) next h k = absurd h
edits_agree U c (PokeEdit d x) (SetEdit a i v) next h k = absurd h
edits_agree U c (PokeEdit d x) (JoinEdit y) next h k = absurd h
edits_agree U c (PokeEdit d x) (LeaveEdit a) next h k = absurd h
edits_agree U c (JoinEdit x) f next h k = subst (λ x. Edits U c x next) (sym h) k
edits_agree U c (LeaveEdit d) f next h k = subst (λ x. Edits U c x next) (sym h) k

step_agrees : (U : Unfolding) (c : Core) (e f : EntryValue) (next : Core) → SameEntry U e f → Step U c e next → Step U c f next
step_agrees U c (BeginEntry d) f next h k = subst (λ x. Step U c x next) (sym h) k
step_agrees U c (EndEntry d) f next h k = subst (λ x. Step U c x next) (sym h) k
step_agrees U c IdleEntry f next h k = subst (λ x. Step U c x next) (sym h) k
step_agrees U c (EditEntry e) (EditEntry f) next h k = edits_agree U c e f next h k
step_agrees U c (EditEntry e) (BeginEntry d) next h k = absurd h
step_agrees U c (EditEntry e) (EndEntry d) next h k = absurd h
step_agrees U c (EditEntry e) IdleEntry next h k = absurd h

run_agrees : (U : Unfolding) (es fs : List EntryValue) (c last : Core) → SameEntries U es fs → Run U c es last → Run U c fs last
run_agrees U [] [] c last h r = r
run_agrees U [] (f ∷ fs) c last h r = absurd h
run_agrees U (e ∷ es) [] c last h r = absurd h
run_agrees U (e ∷ es) (f ∷ fs) c last h r = (r.0, step_agrees U c e f r.0 h.0 r.1, run_agrees U es fs r.0 last h.1 r.2)

same_length : (U : Unfolding) (es fs : List EntryValue) → SameEntries U es fs → length es ≡ length fs
same_length U [] [] h = refl
same_length U [] (f ∷ fs) h = absurd h
same_length U (e ∷ es) [] h = absurd h
same_length U (e ∷ es) (f ∷ fs) h = ap suc (same_length U es fs h.1)

-- the cut of a list at an entry, in the other list
record IsCutLike (U : Unfolding) (front : List EntryValue) (e : EntryValue) (fs : List EntryValue) : Type 0 where
  before : List EntryValue
  entry : EntryValue
  rest : List EntryValue
  cut : fs ≡ before ++ entry ∷ rest
  front_same : SameEntries U front before
  entry_same : SameEntry U e entry

cut_like : (U : Unfolding) (front : List EntryValue) (e : EntryValue) (rest fs : List EntryValue) → SameEntries U (front ++ e ∷ rest) fs → IsCutLike U front e fs
cut_like U [] e rest [] h = absurd h
cut_like U [] e rest (f ∷ fs) h = record { before = []; entry = f; rest = fs; cut = refl; front_same = tt; entry_same = h.0 }
cut_like U (x ∷ front) e rest [] h = absurd h
cut_like U (x ∷ front) e rest (f ∷ fs) h =
    let c = cut_like U front e rest fs h.1 in
    record { before = f ∷ c.before; entry = c.entry; rest = c.rest; cut = ap (λ l. f ∷ l) c.cut; front_same = (h.0, c.front_same); entry_same = c.entry_same }

fails_agree : (U : Unfolding) (es fs : List EntryValue) (c : Core) (index : ℕ) (refused : Core → EntryValue → Type 0) → SameEntries U es fs
    → ((k : Core) (e f : EntryValue) → SameEntry U e f → refused k e → refused k f) → FailsAt U c es index refused → FailsAt U c fs index refused
fails_agree U es fs c index refused h same r =
    let q = cut_like U r.front r.entry r.rest fs (subst (λ l. SameEntries U l fs) r.cut h) in
    record {
      front = q.before;
      entry = q.entry;
      rest = q.rest;
      cut = q.cut;
      place = r.place ∙ same_length U r.front q.before q.front_same;
      before = r.before;
      runs = run_agrees U r.front q.before c r.before q.front_same r.runs;
      refuses = same r.before r.entry q.entry q.entry_same r.refuses;
    }

pub faults_agree : FaultsAgree
faults_agree U es fs h c (replay_fault.At index why) r = fails_agree U es fs c index _ h (λ k e f s q. sym (same_fault U k e f s) ∙ q) r
faults_agree U es fs h c (replay_fault.EditAt index why) r = fails_agree U es fs c index _ h (λ k e f s q. sym (same_net_fault U k e f s) ∙ q) r
faults_agree U es fs h c replay_fault.Memory r = tt

-- ---- the same entries, after the last edit

same_is_edit : (U : Unfolding) (e f : EntryValue) → SameEntry U e f → is_edit e ≡ is_edit f
same_is_edit U (BeginEntry d) f h = ap is_edit (sym h)
same_is_edit U (EndEntry d) f h = ap is_edit (sym h)
same_is_edit U IdleEntry f h = ap is_edit (sym h)
same_is_edit U (EditEntry e) (EditEntry f) h = refl
same_is_edit U (EditEntry e) (BeginEntry d) h = absurd h
same_is_edit U (EditEntry e) (EndEntry d) h = absurd h
same_is_edit U (EditEntry e) IdleEntry h = absurd h

equal_firings : (U : Unfolding) (e f : EntryValue) → SameEntry U e f → is_edit e ≡ false → e ≡ f
equal_firings U (BeginEntry d) f h plain = sym h
equal_firings U (EndEntry d) f h plain = sym h
equal_firings U IdleEntry f h plain = sym h
equal_firings U (EditEntry e) f h plain = absurd cc

same_has_edit : (U : Unfolding) (es fs : List EntryValue) → SameEntries U es fs → has_edit es ≡ has_edit fs
same_has_edit U [] [] h = refl
same_has_edit U [] (f ∷ fs) h = absurd h
same_has_edit U (e ∷ es) [] h = absurd h
same_has_edit U (e ∷ es) (f ∷ fs) h = ap (λ b. b || has_edit es) (same_is_edit U e f h.0) ∙ ap (λ b. is_edit f || b) (same_has_edit U es fs h.1)

neither : (p q : Bool) → (p || q) ≡ false → (p ≡ false) × (q ≡ false)
neither true q h = absurd cc
neither false q h = (refl, h)

equal_plain : (U : Unfolding) (es fs : List EntryValue) → SameEntries U es fs → has_edit es ≡ false → es ≡ fs
equal_plain U [] [] h plain = refl
equal_plain U [] (f ∷ fs) h plain = absurd h
equal_plain U (e ∷ es) [] h plain = absurd h
equal_plain U (e ∷ es) (f ∷ fs) h plain =
    let both = neither (is_edit e) (has_edit es) plain in
    ap (λ x. x ∷ es) (equal_firings U e f h.0 both.0) ∙ ap (λ xs. f ∷ xs) (equal_plain U es fs h.1 both.1)

-- the part of a list from its first entry on, where no later entry is an edit
abbrev from_first : Bool → EntryValue → List EntryValue → List EntryValue
from_first first e es = if first then es else e ∷ es

from_first_same : (U : Unfolding) (first : Bool) (e f : EntryValue) (es fs : List EntryValue) → SameEntry U e f → es ≡ fs → is_edit e ≡ first → from_first first e es ≡ from_first first f fs
from_first_same U true e f es fs h same is = same
from_first_same U false e f es fs h same is = ap (λ x. x ∷ es) (equal_firings U e f h is) ∙ ap (λ xs. f ∷ xs) same

pub parts_agree : PartsAgree
parts_agree U [] [] h = refl
parts_agree U [] (f ∷ fs) h = absurd h
parts_agree U (e ∷ es) [] h = absurd h
parts_agree U (e ∷ es) (f ∷ fs) h =
    by_later (parts_agree U es fs h.1) (has_edit es) refl
    ∙ ap (λ b. if b then after_edit fs else from_first (is_edit e) f fs) (same_has_edit U es fs h.1)
    ∙ ap (λ b. if has_edit fs then after_edit fs else from_first b f fs) (same_is_edit U e f h.0)
  where
    by_later : after_edit es ≡ after_edit fs → (later : Bool) → has_edit es ≡ later
        → (if later then after_edit es else from_first (is_edit e) e es) ≡ (if later then after_edit fs else from_first (is_edit e) f fs)
    by_later ih true is = ih
    by_later ih false is = from_first_same U (is_edit e) e f es fs h.0 (equal_plain U es fs h.1 is) refl
