-- What a turn on the locked value says of the pass that took it.
use Rattle.std.proofs.Common.{◌≡◌, ◌↔◌, ℕ, Bool, true, suc, ◌+◌, ◌<◌, ◌≤◌, List, [], ◌∷◌, ◌++◌, length, drop, map, refl, sym, ap, ◌∙◌, subst, inl, arith, None}
use Rattle.std.proofs.lemmas.List.{same_from_push, map-append}
use Rattle.fc_nodes.specs.Program.{unfolding_of}
use Rattle.value_trees.specs.Snaps.{snap_copy, IsSnap}
use Rattle.turn_lock.specs.Logs.{StartsWith, ArePlaced, Rises}
use Rattle.turn_lock.specs.Passes.{PassView, Agrees, MayAnswer, Closed, opened, wrote}
use Rattle.firing_core.specs.declared.entries.Edit.{Edit}
use Rattle.firing_core.specs.declared.entries.Entry.{Entry}
use Rattle.firing_core.specs.declared.entries.Entry.TheVariants as entry
use Rattle.firing_core.specs.declared.entries.EditFault.{EditFault}
use Rattle.firing_core.specs.Entries.{EditValue, edit_of, entry_of, entries_of}
use Rattle.firing_core.specs.Cores.{Run, copy_of}
use Rattle.firing_core.specs.CoreViews.{core_of}
use Rattle.firing_core.specs.Books.{BookValue}
use Rattle.export_table.specs.Items.{Opening, ItemValue, OpeningItem, WrittenItem, items_of}
use Rattle.export_table.specs.Answers.{answers, entry_answers}
use Rattle.export_table.specs.Begins.{IsNext, NoneMayBegin, AllBegun}
use Rattle.export_table.specs.Holding.{HeldValue, HasTurn, Opens, Turned, opening_in, log_in, core_in, list_of}
use Rattle.export_table.specs.Firings.{FiringValue}
use Rattle.export_table.specs.Passing.{TableValue, IsPassOf, on_log, on_items, item_at_next}
use Rattle.export_table.specs.declared.firing.Pause.{Pause}
use Rattle.export_table.specs.declared.firing.Pause.TheVariants as pause
use Rattle.export_table.specs.Turns.{Begins, Rests, Pauses, EditsIn, RefusesIn, TookTurn, Began, Rested, Idled, Paused, Edited, Refused, Closes, IsAfterTurn}
use Rattle.export_table.proofs.Keeping.{entries_length, entries_snoc}
use Rattle.export_table.proofs.Flying.{answers_here}
use Rattle.export_table.proofs.Passing.{begins_items, items_length, pass_of, placed_items, pass_wrote, rises_items, whole_items, mine_length}

-- ---- what a turn adds to the list

pub adds_entry : (x y : HeldValue) (e : Entry) → Turned x y e → list_of y ≡ list_of x ++ WrittenItem (entry_of e) ∷ []
adds_entry x y e t =
    let b = t.book in let s = t.same in
    let opening : opening_in y ≡ opening_in x = λ i. record { program = b.program i; start = b.start i; rounds = s.0 i; turns = s.1 i; front = s.2 i } in
    let log : log_in y ≡ log_in x ++ entry_of e ∷ [] = ap entries_of b.log ∙ entries_snoc x.book.log e in
    (λ i. items_of (opening i) (log i)) ∙ ap (λ l. OpeningItem (opening_in x) ∷ l) (map-append WrittenItem (log_in x) (entry_of e ∷ []))

-- an entry that is no end answers none
pub adds_plain : (x y : HeldValue) (e : Entry) (mine : List (ℕ × ItemValue)) → Turned x y e → entry_answers (list_of x) (entry_of e) ≡ None
    → (i : ItemValue) × (list_of y ≡ list_of x ++ i ∷ []) × MayAnswer answers (list_of x) mine i
adds_plain x y e mine t none = (WrittenItem (entry_of e), adds_entry x y e t, inl (answers_here (list_of x) (WrittenItem (entry_of e)) [] ∙ none))

-- a turn that begins nothing writes an idle entry
pub idle_turn : (x y : HeldValue) (p : Pause) → Pauses x y p → Turned x y entry.Idle
idle_turn x y (pause.Rests r) why = why.turned
idle_turn x y pause.Starved why = why

pub after_turn : (v w : PassView ItemValue) (log : List ItemValue) (i : ItemValue) → w ≡ wrote v log i → IsAfterTurn v w
after_turn v w log i is = record {
  left = ap (λ (p : PassView ItemValue). p.left) is;
  name = ap (λ (p : PassView ItemValue). p.name) is;
  made = ap (λ (p : PassView ItemValue). p.made) is;
  out = ap (λ (p : PassView ItemValue). p.out) is;
}

-- ---- what a pass of the table knows of the value

module _ (t : TableValue) (v : PassView ItemValue) (x : HeldValue) (k : IsPassOf t v) (a : Agrees list_of answers v x) where
  seen_there : (opening_in x ≡ t.opening) × StartsWith (log_in x) (on_log v).seen
  seen_there = begins_items t.opening (opening_in x) (log_in x) (on_log v).seen (subst (λ l. StartsWith (list_of x) l) (ap (λ (p : PassView ItemValue). p.seen) k.opening) a.begins)

  pub same_opening : opening_in x ≡ t.opening
  same_opening = seen_there.0

  pub has_begun : StartsWith (log_in x) (on_log v).seen
  has_begun = seen_there.1

  pub has_placed : ArePlaced (log_in x) (on_log v).mine
  has_placed = placed_items (opening_in x) (log_in x) (on_log v).mine (subst (λ m. ArePlaced (list_of x) m) (ap (λ (p : PassView ItemValue). p.mine) k.opening) a.placed)

  has_grown : length (log_in x) + v.left ≤ t.opening.front + t.opening.turns
  has_grown =
      let grown = a.grown in let long = items_length (log_in x) in
      let start = ap (λ (p : PassView ItemValue). p.start) k.opening in let first = k.start in let all = k.turns in
      omega (arith, grown, long, start, first, all)

  pub has_turn : 0 < v.left → HasTurn x
  has_turn some =
      let grown = a.grown in let long = items_length (log_in x) in let log = entries_length x.book.log in
      let front = ap (λ (o : Opening). o.front) same_opening in let turns = ap (λ (o : Opening). o.turns) same_opening in
      let start = ap (λ (p : PassView ItemValue). p.start) k.opening in let first = k.start in let all = k.turns in
      omega (arith, grown, long, log, front, turns, start, first, all, some)

  module _ (y : HeldValue) (w : PassView ItemValue) (item : ItemValue) (left : list_of y ≡ w.seen) (view : w ≡ wrote v (list_of x) item) where
    writes : (e : Entry) → Turned x y e → w ≡ wrote v (items_of t.opening (log_in x)) (WrittenItem (entry_of e))
    writes e turned =
        let seen : w.seen ≡ list_of x ++ item ∷ [] = ap (λ (p : PassView ItemValue). p.seen) view in
        let is : item ≡ WrittenItem (entry_of e) = (same_from_push (list_of x) (list_of x) item (WrittenItem (entry_of e)) (sym seen ∙ (sym left ∙ adds_entry x y e turned))).1 in
        view ∙ λ i. wrote v (items_of (same_opening i) (log_in x)) (is i)

    pub still_pass : (e : Entry) → Turned x y e → IsPassOf t w
    still_pass e turned = (pass_wrote t v w (log_in x) (entry_of e) k (writes e turned)).0

    pub took_turn : (e : Entry) → Turned x y e → TookTurn t.opening (on_log v) (on_log w) (log_in x) (core_in x) (entry_of e)
    took_turn e turned = record {
      begins = has_begun;
      placed = has_placed;
      grown = has_grown;
      leads = let book = turned.legal in subst (λ (o : Opening). Run (unfolding_of o.program) (core_of o.start) (log_in x) (core_in x)) same_opening book.runs;
      view = (pass_wrote t v w (log_in x) (entry_of e) k (writes e turned)).1;
    }

    pub began : (f : FiringValue) → Begins x y f → Began t.opening (on_log v) (on_log w) f
    began f b = record {
      before = log_in x;
      core = core_in x;
      turn = took_turn (entry.Begin f.device) b.turned;
      place = let p = b.place in p ∙ sym (entries_length x.book.log);
      next = subst (λ o. IsNext o (log_in x) (core_in x) f.device) same_opening b.next;
      copy = subst (λ (o : Opening). snap_copy (unfolding_of o.program) f.snap ≡ copy_of (core_in x).net (core_in x).exports f.device) same_opening b.copy;
      snap = subst (λ (o : Opening). IsSnap (unfolding_of o.program) f.snap) same_opening b.snap;
    }

    rested : (is_over : Bool) → Rests x y is_over → Rested t.opening (on_log v) (on_log w) is_over
    rested is_over r = record {
      before = log_in x;
      core = core_in x;
      turn = took_turn entry.Idle r.turned;
      none = subst (λ o. NoneMayBegin o (log_in x) (core_in x)) same_opening r.none;
      over = subst (λ o. (is_over ≡ true) ↔ AllBegun o (log_in x) (core_in x)) same_opening r.over;
    }

    idled : Turned x y entry.Idle → Idled t.opening (on_log v) (on_log w)
    idled turned = record { before = log_in x; core = core_in x; turn = took_turn entry.Idle turned }

    pub paused : (p : Pause) → Pauses x y p → Paused t.opening (on_log v) (on_log w) p
    paused (pause.Rests r) why = rested r.is_over why
    paused pause.Starved why = idled why

    pub edited : (e : Edit) → EditsIn x y e → Edited t.opening (on_log v) (on_log w) (edit_of e)
    edited e d = record {
      before = log_in x;
      core = core_in x;
      turn = took_turn (entry.Edit e) d.turned;
      allowed = d.allowed;
    }

    pub refused : (e : EditValue) (f : EditFault) → RefusesIn x y e f → Refused t.opening (on_log v) (on_log w) e f
    refused e f r = record {
      before = log_in x;
      core = core_in x;
      turn = took_turn entry.Idle r.turned;
      refused = r.refused;
    }

-- ---- the book that a table gives back

pub closes : (t : TableValue) (v : PassView ItemValue) (h : HeldValue) → IsPassOf t v → Closed list_of v h → Closes t.opening (on_log v) h.book
closes t v h k c = record {
  program = ap (λ (o : Opening). o.program) same;
  start = ap (λ (o : Opening). o.start) same;
  begins = there.1;
  placed = placed_items (opening_in h) (log_in h) (on_log v).mine (subst (λ m. ArePlaced (list_of h) m) mine c.placed);
  counted = let n = c.counted in let long = items_length (log_in h) in let log = entries_length h.book.log in let m = ap length mine in let l = mine_length (on_log v).mine in let first = k.start in
      omega (arith, n, long, log, start, m, l, first);
  whole = ap (λ n. drop n (log_in h)) (sym k.start) ∙ whole_items (opening_in h) (on_log v).start (log_in h) (on_log v).mine
      (ap (λ n. drop n (list_of h)) (sym start) ∙ (c.whole ∙ ap (map (λ (z : ℕ × ItemValue). z.1)) mine));
  rises = rises_items (on_log v).mine (subst Rises mine c.rises);
}
  where
    there : (opening_in h ≡ t.opening) × StartsWith (log_in h) (on_log v).seen
    there = begins_items t.opening (opening_in h) (log_in h) (on_log v).seen (subst (λ l. StartsWith (list_of h) l) (ap (λ (p : PassView ItemValue). p.seen) k.opening) c.begins)

    same : opening_in h ≡ t.opening
    same = there.0

    mine : v.mine ≡ map item_at_next (on_log v).mine
    mine = ap (λ (p : PassView ItemValue). p.mine) k.opening

    start : v.start ≡ suc (on_log v).start
    start = ap (λ (p : PassView ItemValue). p.start) k.opening

pub closes_same : (t : TableValue) (v : PassView ItemValue) (h : HeldValue) → IsPassOf t v → Closed list_of v h → opening_in h ≡ t.opening
closes_same t v h k c = (begins_items t.opening (opening_in h) (log_in h) (on_log v).seen (subst (λ l. StartsWith (list_of h) l) (ap (λ (p : PassView ItemValue). p.seen) k.opening) c.begins)).0

-- ---- the pass that a table begins with

pub first_pass : (b : BookValue) (rounds turns : ℕ) (h : HeldValue) (t : TableValue) (v : PassView ItemValue) → Opens b rounds turns h → t.opening ≡ opening_in h → v ≡ opened t.lock (list_of h) turns
    → IsPassOf t v × (on_log v ≡ opened t.lock (entries_of b.log) turns)
first_pass b rounds turns h t v o same is =
    let book = o.book in
    let log : log_in h ≡ entries_of b.log = ap entries_of book.log in
    let first : v ≡ on_items t.opening (opened t.lock (log_in h) turns) = is ∙ ((λ i. record (opened t.lock (list_of h) turns) { start = suc (items_length (log_in h) i) }) ∙ ap (λ k. on_items k (opened t.lock (log_in h) turns)) (sym same)) in
    let p = pass_of t (opened t.lock (log_in h) turns) v first refl (sym (ap (λ (k : Opening). k.turns) same ∙ o.turns_are))
    (let long = entries_length h.book.log in let l = ap length book.log in let front = o.front_is in let f = ap (λ (k : Opening). k.front) same in omega (arith, long, l, front, f)) in
    (p.0, p.1 ∙ ap (λ l. opened t.lock l turns) log)
