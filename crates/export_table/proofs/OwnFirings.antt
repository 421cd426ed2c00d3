-- Crates above cite this module: a pass that began a firing and didn't end it may end it.
use Rattle.std.proofs.Common.{◌≡◌, ◌⊎◌, ⊎_elim, ℕ, zero, suc, ◌+◌, ◌<◌, List, [], ◌∷◌, ◌++◌, take, length, refl, sym, ap, ◌∙◌, subst, inl, inr, arith, Bool, true, false, nat_eq, Option, Some, None, Result, Ok, Err, IfOk, if◌then◌else◌}
use Rattle.std.proofs.lemmas.Option.{none-some, same_Some}
use Rattle.std.proofs.lemmas.Bool.{eqb-true}
use Rattle.std.proofs.lemmas.List.{append_assoc, append-nil}
use mathlib.Core.Option.{some, some-injective, some-ne-none}
use lib.ListN.{get_elem?}
use Rattle.fc_nodes.specs.Program.{unfolding_of}
use Rattle.fc_values.specs.Trees.{Copy}
use Rattle.value_trees.specs.declared.copies.Snap.{Snap}
use Rattle.value_trees.specs.Snaps.{snap_copy, tree_of}
use Rattle.device_eval.specs.Firing.{FiredValue}
use Rattle.turn_lock.specs.Logs.{In, ArePlaced, IsOpen, IsUnanswered}
use Rattle.turn_lock.specs.Passes.{PassView, Agrees, MayAnswer, wrote}
use Rattle.firing_core.specs.declared.entries.Entry.TheVariants as entry
use Rattle.firing_core.specs.Entries.{EntryValue, BeginEntry, EndEntry, IdleEntry, EditEntry}
use Rattle.firing_core.specs.Cores.{Run, copy_of}
use Rattle.firing_core.specs.CoreViews.{core_of}
use Rattle.firing_core.specs.Laws.{FlightsStay, RunsCut}
use Rattle.export_table.specs.Items.{Opening, ItemValue, OpeningItem, WrittenItem, items_of}
use Rattle.export_table.specs.Answers.{after_item, begun_from, last_begin, item_answers, item_at, answers}
use Rattle.export_table.specs.Holding.{HeldValue, IsOpenAt, IsTakenAt, opening_in, log_in, core_in, list_of}
use Rattle.export_table.specs.Firings.{FiringValue}
use Rattle.export_table.specs.Passing.{TableValue, IsPassOf, on_log, written}
use Rattle.export_table.specs.Turns.{MayEnd, EndsIn, Began, IsOwnFiring, CanEnd, KeepsFirings, FiringsStay, Ended}
use Rattle.export_table.proofs.Flying.{begin_not_end, cut_at, take_all, answers_here, open_last}
use Rattle.turn_lock.proofs.Lists.{in_snoc, in_left, in_last, at_below}
use Rattle.export_table.proofs.Passing.{own_items, from_items}
use Rattle.export_table.proofs.Turning.{adds_entry, same_opening, has_begun, has_turn, took_turn}

-- ---- places in a list of items

item_there : (items : List ItemValue) (p : ℕ) (x : ItemValue) → get_elem? items p ≡ some x → item_at items p ≡ Some x
item_there [] p x is = absurd (some-ne-none x (sym is))
item_there (y ∷ ys) zero x is = ap Some (some-injective y x is)
item_there (y ∷ ys) (suc p) x is = item_there ys p x is

item_taken : (items : List ItemValue) (q p : ℕ) (x : ItemValue) → item_at (take q items) p ≡ Some x → (item_at items p ≡ Some x) × (p < q)
item_taken items zero p x is = absurd (none-some x is)
item_taken [] (suc q) p x is = absurd (none-some x is)
item_taken (y ∷ ys) (suc q) zero x is = (is, omega arith)
item_taken (y ∷ ys) (suc q) (suc p) x is = let r = item_taken ys q p x is in (r.0, omega (arith, r.1))

-- a begin of the device stands where its last begin is
begun_at : (d n p : ℕ) (was : Option ℕ) (xs : List ItemValue) → begun_from d n was xs ≡ Some p → (was ≡ Some p) ⊎ ((j : ℕ) × (p ≡ n + j) × (item_at xs j ≡ Some (WrittenItem (BeginEntry d))))
begun_at d n p was [] is = inl is
begun_at d n p was (x ∷ xs) is = ⊎_elim (λ h. by_item x h)
    (λ (r : (j : ℕ) × (p ≡ (n + 1) + j) × (item_at xs j ≡ Some (WrittenItem (BeginEntry d)))). inr (suc r.0, (let e = r.1 in omega (arith, e)), r.2))
    (begun_at d (n + 1) p (after_item d n was x) xs is)
  where
    by_item : (x : ItemValue) → after_item d n was x ≡ Some p → (was ≡ Some p) ⊎ ((j : ℕ) × (p ≡ n + j) × (item_at (x ∷ xs) j ≡ Some (WrittenItem (BeginEntry d))))
    by_item (OpeningItem o) h = inl h
    by_item (WrittenItem (BeginEntry e)) h = by_test (nat_eq e d) refl h
      where
        by_test : (b : Bool) → nat_eq e d ≡ b → (if b then Some n else was) ≡ Some p → (was ≡ Some p) ⊎ ((j : ℕ) × (p ≡ n + j) × (item_at (WrittenItem (BeginEntry e) ∷ xs) j ≡ Some (WrittenItem (BeginEntry d))))
        by_test true t h = inr (0, (let s = same_Some n p h in omega (arith, s)), ap (λ k. Some (WrittenItem (BeginEntry k))) (eqb-true e d t))
        by_test false t h = inl h
    by_item (WrittenItem (EndEntry e)) h = inl h
    by_item (WrittenItem IdleEntry) h = inl h
    by_item (WrittenItem (EditEntry e)) h = inl h

last_at : (d p : ℕ) (xs : List ItemValue) → last_begin d xs ≡ Some p → item_at xs p ≡ Some (WrittenItem (BeginEntry d))
last_at d p xs is = ⊎_elim (λ n. absurd (none-some p n)) (λ (r : (j : ℕ) × (p ≡ 0 + j) × (item_at xs j ≡ Some (WrittenItem (BeginEntry d)))). ap (item_at xs) (let e = r.1 in omega (arith, e)) ∙ r.2) (begun_at d 0 p None xs is)

device_in : Option ItemValue → ℕ
device_in None = 0
device_in (Some (OpeningItem o)) = 0
device_in (Some (WrittenItem (BeginEntry d))) = d
device_in (Some (WrittenItem (EndEntry d))) = d
device_in (Some (WrittenItem IdleEntry)) = 0
device_in (Some (WrittenItem (EditEntry e))) = 0

same_device : (d e : ℕ) → Some (WrittenItem (BeginEntry d)) ≡ Some (WrittenItem (BeginEntry e)) → d ≡ e
unfolding device_in
same_device d e is = ap device_in is

-- no end of the pass answers its begin
own_open : (items : List ItemValue) (mine : List (ℕ × ItemValue)) (d place : ℕ) → ArePlaced items mine → In (place, WrittenItem (BeginEntry d)) mine → ((q : ℕ) → In (q, WrittenItem (EndEntry d)) mine → q < suc place) → IsOpen answers items mine place
own_open items mine d place placed own later q f i is = by_item f (item_there items q f (placed q f i)) i
  where
    by_item : (f : ItemValue) → item_at items q ≡ Some f → In (q, f) mine → ⊥
    by_item (OpeningItem o) at i = none-some place (sym (ap (item_answers (take q items)) at) ∙ is)
    by_item (WrittenItem (BeginEntry e)) at i = none-some place (sym (ap (item_answers (take q items)) at) ∙ is)
    by_item (WrittenItem IdleEntry) at i = none-some place (sym (ap (item_answers (take q items)) at) ∙ is)
    by_item (WrittenItem (EditEntry e)) at i = none-some place (sym (ap (item_answers (take q items)) at) ∙ is)
    by_item (WrittenItem (EndEntry e)) at i =
        let begun = item_taken items q place (WrittenItem (BeginEntry e)) (last_at e place (take q items) (sym (ap (item_answers (take q items)) at) ∙ is)) in
        let same : e ≡ d = same_device e d (sym begun.0 ∙ item_there items place (WrittenItem (BeginEntry d)) (placed place (WrittenItem (BeginEntry d)) own)) in
        let l = later q (subst (λ k. In (q, WrittenItem (EndEntry k)) mine) same i) in absurd (omega (arith, l, begun.1))

-- ---- the firing of a pass

module _ (t : TableValue) (v : PassView ItemValue) (place : ℕ) (f : FiredValue) (k : IsPassOf t v) (own : IsOwnFiring t.opening (on_log v) place f) (x : HeldValue) (a : Agrees list_of answers v x) where
  own_item : In (suc place, WrittenItem (BeginEntry f.snap.device)) v.mine
  own_item = subst (λ m. In (suc place, WrittenItem (BeginEntry f.snap.device)) m) (sym (ap (λ (p : PassView ItemValue). p.mine) k.opening)) (own_items place (BeginEntry f.snap.device) (on_log v).mine own.begun)

  ends_before : (q : ℕ) → In (q, WrittenItem (EndEntry f.snap.device)) v.mine → q < suc (suc place)
  ends_before q i =
      let r = from_items q (WrittenItem (EndEntry f.snap.device)) (on_log v).mine (subst (λ m. In (q, WrittenItem (EndEntry f.snap.device)) m) (ap (λ (p : PassView ItemValue). p.mine) k.opening) i) in
      let l = own.unended r.0 (subst (λ e. In (r.0, e) (on_log v).mine) (ap written (sym r.3)) r.4) in let e = r.2 in omega (arith, l, e)

  still_open : IsOpen answers (list_of x) v.mine (suc place)
  still_open = own_open (list_of x) v.mine f.snap.device (suc place) a.placed own_item ends_before

  open_at : IsOpenAt x place f.snap.device
  open_at = record {
    began = a.placed (suc place) (WrittenItem (BeginEntry f.snap.device)) own_item;
    unanswered = a.free (suc place) (WrittenItem (BeginEntry f.snap.device)) own_item still_open;
  }

  taken_at : IsTakenAt (opening_in x) (log_in x) place (snap_copy (unfolding_of x.book.program) f.snap)
  taken_at = subst (λ (o : Opening). IsTakenAt o (log_in x) place (snap_copy (unfolding_of o.program) f.snap)) (sym (same_opening t v x k a)) (record {
    core = own.copy.core;
    leads = let c = own.copy in subst (λ l. Run (unfolding_of t.opening.program) (core_of t.opening.start) l c.core) (sym front) c.leads;
    copy = let c = own.copy in c.copy;
  })
    where
      front : take place (log_in x) ≡ own.copy.front
      front = let c = own.copy in let s = has_begun t v x k a in let b = c.begins in
          ap (λ n. take n (log_in x)) (sym c.place_is) ∙ (ap (take (length c.front)) (s.1 ∙ (ap (λ l. l ++ s.0) b.1 ∙ (append_assoc (c.front ++ BeginEntry f.snap.device ∷ []) b.0 s.0 ∙ append_assoc c.front (BeginEntry f.snap.device ∷ []) (b.0 ++ s.0)))) ∙ take_all c.front (BeginEntry f.snap.device ∷ (b.0 ++ s.0)))

  pub may_end : 0 < v.left → MayEnd x place f
  may_end has = record {
    turn = has_turn t v x k a has;
    program = own.program ∙ ap (λ (o : Opening). o.program) (sym (same_opening t v x k a));
    opened = open_at;
    copy = taken_at;
  }

  -- the end answers the begin
  pub adds_end : FlightsStay → RunsCut → (y : HeldValue) → EndsIn x y f → (i : ItemValue) × (list_of y ≡ list_of x ++ i ∷ []) × MayAnswer answers (list_of x) v.mine i
  adds_end flights cuts y ends =
      let turned = ends.turned in let book = turned.legal in let copy = taken_at in let opened = open_at in
      let d = f.snap.device in
      let c = cut_at (log_in x) place (BeginEntry d) opened.began in
      let front = c.0 in
      let here : take place (log_in x) ≡ front = ap (λ k. take k (log_in x)) (sym c.3) ∙ (ap (take (length front)) c.2 ∙ take_all front (BeginEntry d ∷ c.1)) in
      let last : last_begin d (items_of (opening_in x) (front ++ BeginEntry d ∷ c.1)) ≡ Some (suc (length front)) =
      open_last (unfolding_of x.book.program) (opening_in x) (core_of x.book.start) (core_in x) book.good flights cuts front copy.core
      (subst (λ l. Run (unfolding_of x.book.program) (core_of x.book.start) l copy.core) here copy.leads) d c.1
      (subst (λ (z : List EntryValue × ℕ). IsUnanswered answers (items_of (opening_in x) z.0) (suc z.1)) (λ i. (c.2 i, sym c.3 i)) opened.unanswered)
      (subst (λ l. Run (unfolding_of x.book.program) (core_of x.book.start) l (core_in x)) c.2 book.runs) in (
        WrittenItem (EndEntry d),
        adds_entry x y (entry.End d) turned,
        inr (suc place, WrittenItem (BeginEntry d), answers_here (list_of x) (WrittenItem (EndEntry d)) [] ∙ (ap (λ l. last_begin d (items_of (opening_in x) l)) c.2 ∙ (last ∙ ap (λ n. Some (suc n)) c.3)), own_item, still_open),
      )

  pub ended : RunsCut → (y : HeldValue) (w : PassView ItemValue) (item : ItemValue) → list_of y ≡ w.seen → w ≡ wrote v (list_of x) item → EndsIn x y f → Ended t.opening (on_log v) (on_log w) f
  ended cuts y w item left view ends = let turned = ends.turned in let book = turned.book in let legal = turned.legal in let turn = took_turn t v x k a y w item left view (entry.End f.snap.device) turned in record {
    before = log_in x;
    core = core_in x;
    next = core_in y;
    turn = turn;
    leads = subst (λ l. Run (unfolding_of t.opening.program) (core_of t.opening.start) l (core_in y)) (sym (ap (λ (p : PassView EntryValue). p.seen) turn.view))
        (subst (λ (o : Opening). Run (unfolding_of o.program) (core_of o.start) (log_in x ++ EndEntry f.snap.device ∷ []) (core_in y)) (same_opening t v x k a)
        ((cuts (unfolding_of x.book.program) (core_of x.book.start) (core_in y) (log_in x) (EndEntry f.snap.device ∷ [])).1 (core_in x, legal.runs, (core_in y, book.step, refl))));
    publishes = subst (λ (o : Opening). (core_in y).exports f.snap.device ≡ Some (tree_of (unfolding_of o.program) f.export)) (same_opening t v x k a) ends.publishes;
  }

-- what a begin answers may be ended
pub own_firing : (o : Opening) (v w : PassView EntryValue) (f : FiringValue) → Began o v w f → (e : FiredValue) → e.program ≡ o.program → e.snap ≡ f.snap → IsOwnFiring o w f.place e
own_firing o v w f b e program snap = let t = b.turn in record {
  begun = subst (λ m. In (f.place, BeginEntry d) m) (sym mine) (subst (λ (z : ℕ × ℕ). In (f.place, BeginEntry d) (v.mine ++ (z.0, BeginEntry z.1) ∷ [])) (λ i. (b.place i, device i)) (in_last (f.place, BeginEntry d) v.mine));
  unended = λ q i. ⊎_elim (λ old. let l = at_below b.before q (EndEntry d) (t.placed q (EndEntry d) old) in let p = b.place in omega (arith, l, p))
      (λ new. absurd (begin_not_end f.device d (sym (ap (λ (z : ℕ × EntryValue). z.1) new)))) (in_snoc (q, EndEntry d) (length b.before, BeginEntry f.device) v.mine (subst (λ m. In (q, EndEntry d) m) mine i));
  program = program;
  copy = record {
    front = b.before;
    core = b.core;
    begins = ([], ap (λ (p : PassView EntryValue). p.seen) t.view ∙ (ap (λ k. b.before ++ BeginEntry k ∷ []) (sym device) ∙ sym (append-nil (b.before ++ BeginEntry d ∷ []))));
    place_is = sym b.place;
    leads = t.leads;
    copy = ap (snap_copy (unfolding_of o.program)) snap ∙ (b.copy ∙ ap (copy_of b.core.net b.core.exports) (sym device));
  };
}
  where
    d : ℕ
    d = e.snap.device

    device : d ≡ f.device
    device = ap (λ (s : Snap). s.device) snap ∙ ap (λ (s : Copy). s.device) b.copy

    mine : w.mine ≡ v.mine ++ (length b.before, BeginEntry f.device) ∷ []
    mine = let t = b.turn in ap (λ (p : PassView EntryValue). p.mine) t.view

-- and stays so at each turn but its end
pub firing_stays : FiringsStay
firing_stays o v w before core e place f t other own = record {
  begun = subst (λ m. In (place, BeginEntry f.snap.device) m) (sym mine) (in_left (place, BeginEntry f.snap.device) v.mine ((length before, e) ∷ []) own.begun);
  unended = λ q i. ⊎_elim (own.unended q) (λ new. absurd (other (sym (ap (λ (z : ℕ × EntryValue). z.1) new)))) (in_snoc (q, EndEntry f.snap.device) (length before, e) v.mine (subst (λ m. In (q, EndEntry f.snap.device) m) mine i));
  program = own.program;
  copy = let c = own.copy in let b = c.begins in let s = t.begins in record {
    front = c.front;
    core = c.core;
    begins = (b.0 ++ (s.0 ++ e ∷ []), ap (λ (p : PassView EntryValue). p.seen) t.view ∙ (ap (λ l. l ++ e ∷ []) s.1 ∙ (append_assoc v.seen s.0 (e ∷ []) ∙ (ap (λ l. l ++ (s.0 ++ e ∷ [])) b.1 ∙ append_assoc (c.front ++ BeginEntry f.snap.device ∷ []) b.0 (s.0 ++ e ∷ [])))));
    place_is = c.place_is;
    leads = c.leads;
    copy = c.copy;
  };
}
  where
    mine : w.mine ≡ v.mine ++ (length before, e) ∷ []
    mine = ap (λ (p : PassView EntryValue). p.mine) t.view

pub own_firings : {Room : Type 0} (o : Opening) (v w : PassView EntryValue) (r : Result FiringValue Room) → IfOk r (Began o v w) → IfOk r (CanEnd o w)
own_firings o v w (Ok f) ok = record { snap = ok.snap; own = own_firing o v w f ok }
own_firings o v w (Err m) ok = tt

-- a firing that may be ended may still be, where each such firing stays one
pub still_ends : (o : Opening) (v w : PassView EntryValue) (f : FiringValue) → CanEnd o v f → KeepsFirings o v w → CanEnd o w f
still_ends o v w f c keeps = record { snap = c.snap; own = λ e program snap. keeps f.place e (c.own e program snap) }
