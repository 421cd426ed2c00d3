-- The seat of a pass that a caller has, after each call.
use Rattle.std.proofs.Common.{◌≡◌, ℕ, ◌<◌, ◌-◌, ⊎_elim, List, [], ◌∷◌, ◌++◌, length, sym, refl, ap, ◌∙◌, subst, arith, Option, Some}
use Rattle.atomic_table.specs.Seated.{TableId}
use Rattle.atomic_table.specs.Table.{step}
use Rattle.turn_lock.specs.declared.views.SeatView.{SeatView}
use Rattle.turn_lock.specs.Logs.{In, Rises, ArePlaced}
use Rattle.turn_lock.specs.Seats.{IsSeated, kept_seat, new_seat, joined_seat, served, wrote_seat}
use Rattle.turn_lock.specs.Steps.{Holding, SeatAgrees, serves}
use Rattle.turn_lock.proofs.Lists.{in_snoc, in_without, rises_snoc, at_below}
use mathlib.Core.Option.{none}

module _ {E : Type 0} where
  wrote_at : (v : SeatView E) (log : List E) (e : E) → Rises v.mine → ArePlaced log v.mine → Rises (v.mine ++ (length log, e) ∷ [])
  wrote_at v log e rises placed = rises_snoc v.mine (length log) e rises (λ p f i. at_below log p f (placed p f i))

module _ {T E : Type 0} where
  pub seated_kept : (share : ℕ) (m n : Holding T E) → IsSeated m → n ≡ (kept_seat share m.0, m.1) → IsSeated n
  seated_kept share m n s is = subst (λ (z : Holding T E). IsSeated z) (sym is) (record {
    idle = s.idle;
    empty = s.empty;
    live = s.live;
    rises = s.rises;
    below = λ k i. ⊎_elim (λ t. let l = s.below k t in omega (arith, l)) (λ (e : k ≡ m.0.made). omega (arith, e)) (in_snoc k m.0.made m.0.out i);
  })

  pub seated_new : (share : ℕ) (m n : Holding T E) → IsSeated m → n ≡ (new_seat share m.0, []) → IsSeated n
  seated_new share m n s is = subst (λ (z : Holding T E). IsSeated z) (sym is) (record {
    idle = s.idle;
    empty = refl;
    live = s.live;
    rises = tt;
    below = λ k i. absurd i;
  })

  pub seated_joined : (m o w : Holding T E) → IsSeated m → w ≡ (joined_seat m.0 o.0, m.1) → Rises w.0.mine → IsSeated w
  seated_joined m o w s is rises = record {
    idle = ap (λ (z : Holding T E). z.0.stage) is ∙ s.idle;
    empty = ap (λ (z : Holding T E). z.1) is ∙ s.empty;
    live = ap (λ (z : Holding T E). z.0.spent) is ∙ s.live;
    rises = rises;
    below = subst (λ (z : Holding T E). (k : ℕ) → In k z.0.out → k < z.0.made) (sym is) (λ k i. s.below k (in_without k _ m.0.out i));
  }

  pub seated_wrote : (list : T → List E) (answers : List E → ℕ → Option ℕ) (lock : TableId) (n slots : ℕ) (p m w : Holding T E) (x y : T) → IsSeated p → m ≡ (served p.0 (list x), (0, Some y) ∷ []) → serves list (step slots 1 1 0 none) m n w → SeatAgrees list answers p.0 x
      → (w.0.left ≡ p.0.left - 1) × IsSeated w
  seated_wrote list answers lock n slots p m w x y s is t agrees =
      let e = t.1 in
      let now : w ≡ (wrote_seat (served p.0 (list x)) (list x) e, []) = t.4 ∙ ap (λ (z : Holding T E). (wrote_seat z.0 z.0.seen e, [])) is in (
        ap (λ (z : Holding T E). z.0.left) now,
        record {
          idle = ap (λ (z : Holding T E). z.0.stage) now;
          empty = ap (λ (z : Holding T E). z.1) now;
          live = ap (λ (z : Holding T E). z.0.spent) now ∙ s.live;
          rises = subst (λ (z : Holding T E). Rises z.0.mine) (sym now) (wrote_at p.0 (list x) e s.rises (agrees lock).placed);
          below = subst (λ (z : Holding T E). (k : ℕ) → In k z.0.out → k < z.0.made) (sym now) s.below;
        },
      )
