-- A share goes to a new pass, and a pass comes back.
use Rattle.std.proofs.Common.{◌≡◌, ℕ, ◌<◌, ◌≤◌, ⊎_elim, List, [], ◌∷◌, ◌++◌, length, set, sym, refl, ap, ◌∙◌, subst, inl, inr, arith, Option, false}
use Rattle.std.proofs.lemmas.Bool.{false≢true}
use mathlib.Core.Option.{none}
use Rattle.atomic_table.specs.Table.{State, Me, step, keeps, Allows, Splits, Joins}
use Rattle.atomic_table.proofs.Lists.{at_longer, set_else}
use Rattle.turn_lock.specs.declared.views.SeatView.{SeatView}
use Rattle.turn_lock.specs.declared.views.Stage.TheVariants.{Idle}
use Rattle.turn_lock.specs.Logs.{In}
use Rattle.turn_lock.specs.Seats.{kept_seat, new_seat, joined_seat, spent_seat}
use Rattle.turn_lock.specs.Rule.{At, Homes, tickets_at, tickets_of, left_of, entries_of, Stands, Kept}
use Rattle.turn_lock.specs.Steps.{tells}
use Rattle.turn_lock.proofs.Lists.{total_set, total_snoc, total_at, each_set, each_snoc, begins_both, longest, merged_length, from_merged}
use Rattle.turn_lock.proofs.Naming.{names_split, names_join}
use Rattle.turn_lock.proofs.Owning.{own_same, own_snoc, own_join}
use Rattle.turn_lock.proofs.Keeping.{idle_has, slot_stays, core_with, unchanged}

module _ {T E : Type 0} (list : T → List E) (answers : List E → ℕ → Option ℕ) where
  abbrev V : Type 0
  V = SeatView E

  abbrev S : Type 0
  S = State (Option T) V

  abbrev M : Type 0
  M = Me (Option T) V

  idle_stands : (a b : ℕ) (seat : ℕ → ℕ) (log : List E) (homes : Homes T) (id : ℕ) (v : V) → v.stage ≡ Idle → Stands a b seat log homes id v v.stage
  idle_stands a b seat log homes id v idle = subst (Stands a b seat log homes id v) (sym idle) tt

  pub splitting : (id share : ℕ) (v : V) → v.stage ≡ Idle → v.spent ≡ false → share ≤ v.left → Splits (Kept list answers) id v (kept_seat share v) (new_seat share v)
  splitting id share v idle live enough s kept at =
      let log = kept.0 in let r = kept.1 in
      let w = kept_seat share v in let n = new_seat share v in let vs = set s.views id w in
      let a1 = total_set tickets_of s.views id v w at in let a2 = total_snoc tickets_of vs n in
      let b1 = total_set left_of s.views id v w at in let b2 = total_snoc left_of vs n in
      let c1 = total_set entries_of s.views id v w at in let c2 = total_snoc entries_of vs n in
      let z : tickets_of v ≡ 0 = ap tickets_at idle in
      let d = r.drawn in let sh = r.shared in let cnt = r.counted in
      let made = r.made id v at in
      let b = kept.3.begins id v at in (
        log,
        core_with list answers log s (vs ++ n ∷ []) r (omega arith) (omega arith) (omega arith)
            (each_snoc (λ j x. x.spent ≡ false → (x.turns ≡ r.turns) × (x.start ≡ r.start)) vs n made (each_set (λ j x. x.spent ≡ false → (x.turns ≡ r.turns) × (x.start ≡ r.start)) s.views id w made (λ j x _ e. r.made j x e)))
            (each_snoc (λ j x. (p : ℕ) (e : E) → In (p, e) x.mine → r.start ≤ p) vs n (λ p e i. absurd i) (each_set (λ j x. (p : ℕ) (e : E) → In (p, e) x.mine → r.start ≤ p) s.views id w (r.past id v at) (λ j x _ a. r.past j x a)))
            (each_snoc (λ j x. Stands r.serving r.ticket r.seat log s.homes j x x.stage) vs n (idle_stands r.serving r.ticket r.seat log s.homes (length vs) n idle)
            (each_set (λ j x. Stands r.serving r.ticket r.seat log s.homes j x x.stage) s.views id w (idle_stands r.serving r.ticket r.seat log s.homes id w idle) (λ j x _ e. r.stands j x e)))
            (⊎_elim (λ h. inl h) (λ h. inr (h.0, h.1, at_longer vs (n ∷ []) h.0 h.1 h.2, h.3)) (slot_stays list answers log s.homes s.views id v w at (idle_has list answers v.stage idle) r.slot)),
        names_split E s.views id share v at live kept.2,
        own_snoc E answers log vs n refl (b.0, (log, refl), (log, refl)) (own_same E answers log s.views id v w at refl b kept.3),
      )

  pub joining : (id other k : ℕ) (v w : V) → v.stage ≡ Idle → v.spent ≡ false → w.stage ≡ Idle → w.spent ≡ false → w.name ≡ v.name ++ k ∷ [] → w.out ≡ [] → Joins (Kept list answers) id v other w (joined_seat v w) spent_seat
  joining id other k v w idle live idle_w live_w name none_out s kept at apart at_w =
      let log = kept.0 in let r = kept.1 in
      let b = joined_seat v w in let vs = set s.views id b in
      let was : At s.views other w = sym (set_else s.views id other b apart) ∙ at_w in
      let a1 = total_set tickets_of s.views id v b at in let a2 = total_set tickets_of vs other w spent_seat at_w in
      let b1 = total_set left_of s.views id v b at in let b2 = total_set left_of vs other w spent_seat at_w in
      let c1 = total_set entries_of s.views id v b at in let c2 = total_set entries_of vs other w spent_seat at_w in
      let z : tickets_of v ≡ 0 = ap tickets_at idle in let zw : tickets_of w ≡ 0 = ap tickets_at idle_w in
      let d = r.drawn in let sh = r.shared in let cnt = r.counted in let len = merged_length v.mine w.mine in (
        log,
        core_with list answers log s (set vs other spent_seat) r (omega arith) (omega arith) (omega (arith, len))
            (each_set (λ j x. x.spent ≡ false → (x.turns ≡ r.turns) × (x.start ≡ r.start)) vs other spent_seat (λ l. absurd (false≢true (sym l)))
            (λ j x _ a. each_set (λ j x. x.spent ≡ false → (x.turns ≡ r.turns) × (x.start ≡ r.start)) s.views id b (r.made id v at) (λ j x _ e. r.made j x e) j x a))
            (each_set (λ j x. (p : ℕ) (e : E) → In (p, e) x.mine → r.start ≤ p) vs other spent_seat (λ p e i. absurd i)
            (λ j x _ a. each_set (λ j x. (p : ℕ) (e : E) → In (p, e) x.mine → r.start ≤ p) s.views id b (λ p e i. ⊎_elim (λ t. r.past id v at p e t) (λ t. r.past other w was p e t) (from_merged (p, e) v.mine w.mine i)) (λ j x _ a. r.past j x a) j x a))
            (each_set (λ j x. Stands r.serving r.ticket r.seat log s.homes j x x.stage) vs other spent_seat tt
            (λ j x _ a. each_set (λ j x. Stands r.serving r.ticket r.seat log s.homes j x x.stage) s.views id b (idle_stands r.serving r.ticket r.seat log s.homes id b idle) (λ j x _ e. r.stands j x e) j x a))
            (slot_stays list answers log s.homes vs other w spent_seat at_w (idle_has list answers w.stage idle_w) (slot_stays list answers log s.homes s.views id v b at (idle_has list answers v.stage idle) r.slot)),
        names_join E s.views id other v w k at apart at_w live live_w name none_out kept.2,
        own_join E answers log s.views id other v w at apart was kept.3,
      )

  pub telling : (slots id : ℕ) (m : M) → length m.0.own_seen ≤ length m.0.seen → length m.0.other_seen ≤ length m.0.seen → Allows (Kept list answers) slots id m 1 (λ n. n) (tells (step slots 1 0 0 none) m)
  telling slots id m one two s kept _ at _ = let b = kept.3.begins id m.0 at in
      let most = total_at left_of s.views id m.0 at in let sh = kept.1.shared in let few = kept.1.few in
      let fits : m.0.left < 9223372036854775808 = omega arith in
      (m.0, keeps, tt, unchanged list answers s 1 id m.1 m.0 at kept, (refl, begins_both kept.0 m.0.own_seen m.0.seen b.1 b.0 one, begins_both kept.0 m.0.other_seen m.0.seen b.2 b.0 two, fits, kept.3.rises id m.0 at))

  pub telling_at : (slots id : ℕ) (m : M) (v w : V) (cs : List (ℕ × Option T)) → m ≡ (joined_seat v w, cs) → Allows (Kept list answers) slots id m 1 (λ n. n) (tells (step slots 1 0 0 none) m)
  telling_at slots id m v w cs is = let l = longest v.seen w.seen in let P : M → Type 0 = λ z. (length z.0.own_seen ≤ length z.0.seen) × (length z.0.other_seen ≤ length z.0.seen) in let q = subst P (sym is) l in telling slots id m q.0 q.1
