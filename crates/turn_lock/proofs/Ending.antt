-- The lock is closed by the only pass.
use Rattle.std.proofs.Common.{◌≡◌, ℕ, ◌+◌, ◌<◌, ◌≤◌, ◌≢◌, ◌⊎◌, ⊎_elim, List, [], ◌∷◌, length, sym, refl, ap, ◌∙◌, subst, inl, inr, arith, zero, suc, drop, map, Bool, true, false, Option, Some}
use mathlib.Core.Option.{some, some-injective}
use mathlib.Core.Logic.{dite}
use native.Mathlib.Decide.{ℕ_discrete}
use lib.ListN.{get_elem?}
use Rattle.atomic_table.specs.Seated.{TableId}
use Rattle.atomic_table.specs.Table.{Final, Seen}
use Rattle.atomic_table.proofs.Lists.{drop_at}
use Rattle.turn_lock.specs.declared.views.SeatView.{SeatView}
use Rattle.turn_lock.specs.declared.views.Stage.TheVariants.{Idle, Has}
use Rattle.turn_lock.specs.Logs.{StartsWith, In, Rises}
use Rattle.turn_lock.specs.Passes.{Closed}
use Rattle.turn_lock.specs.Seats.{pass_view}
use Rattle.turn_lock.specs.Rule.{At, entries_of, Names, Kept}
use Rattle.turn_lock.proofs.Lists.{total_only, at_below}
use Rattle.turn_lock.proofs.Naming.{sole}
use Rattle.turn_lock.proofs.Keeping.{idle_has}

spent_or_not : (b : Bool) → (b ≡ true) ⊎ (b ≡ false)
spent_or_not true = inl refl
spent_or_not false = inr refl

module _ {E : Type 0} where
  drop_none : (n : ℕ) → drop {A = E} n [] ≡ []
  drop_none zero = refl
  drop_none (suc n) = refl

  no_more : (xs : List E) (n : ℕ) → length xs ≤ n → drop n xs ≡ []
  no_more [] n l = drop_none n
  no_more (x ∷ xs) zero l = absurd (omega (arith, l))
  no_more (x ∷ xs) (suc n) l = no_more xs n (omega (arith, l))

  -- places that rise from p on below n leave room for so many
  rise_below : (n p : ℕ) (e : E) (ms : List (ℕ × E)) → Rises ((p, e) ∷ ms) → ((q : ℕ) (f : E) → In (q, f) ((p, e) ∷ ms) → q < n) → p + length ((p, e) ∷ ms) ≤ n
  rise_below n p e [] r below = let b = below p e (inl refl) in omega (arith, b)
  rise_below n p e (m ∷ ms) r below = let b = rise_below n m.0 m.1 ms r.1 (λ q f i. below q f (inr i)) in let s = r.0 m.0 m.1 (inl refl) in omega (arith, b, s)

  whole_from : (xs : List E) (start : ℕ) (ms : List (ℕ × E)) → Rises ms → ((p : ℕ) (e : E) → In (p, e) ms → start ≤ p) → ((p : ℕ) (e : E) → In (p, e) ms → get_elem? xs p ≡ some e) → length xs ≡ start + length ms → drop start xs ≡ map (λ (z : ℕ × E). z.1) ms
  whole_from xs start [] r past placed len = no_more xs start (omega (arith, len))
  whole_from xs start (m ∷ ms) r past placed len =
      let low = past m.0 m.1 (inl refl) in
      let high = rise_below (length xs) m.0 m.1 ms r (λ q f i. at_below xs q f (placed q f i)) in
      let here : m.0 ≡ start = omega (arith, low, high, len) in
      drop_at xs start m.1 (subst (λ k. get_elem? xs k ≡ some m.1) here (placed m.0 m.1 (inl refl)))
      ∙ ap (λ l. m.1 ∷ l) (whole_from xs (suc start) ms r.1 (λ p e i. let a = r.0 p e i in omega (arith, a, here)) (λ p e i. placed p e (inr i)) (omega (arith, len)))

module _ {T E : Type 0} (list : T → List E) (answers : List E → ℕ → Option ℕ) where
  abbrev V : Type 0
  V = SeatView E

  -- all other passes are spent
  others : (views : List V) (id : ℕ) (v : V) → At views id v → v.spent ≡ false → v.name ≡ [] → v.out ≡ [] → Names views → (j : ℕ) (x : V) → At views j x → j ≢ id → (x.mine ≡ []) × (x.stage ≡ Idle)
  others views id v at live name out r j x a other = ⊎_elim (λ t. r.empty j x a t) (λ f. absurd (other (sole E views id v at live name out r j x a f))) (spent_or_not x.spent)

  all_idle : (views : List V) (id : ℕ) (v : V) → At views id v → v.spent ≡ false → v.stage ≡ Idle → v.name ≡ [] → v.out ≡ [] → Names views → (j : ℕ) (x : V) → At views j x → x.stage ≡ Idle
  all_idle views id v at live idle name out r j x a = dite (ℕ_discrete j id) (λ e. ap (λ (u : V). u.stage) (some-injective x v (sym a ∙ (ap (get_elem? views) e ∙ at))) ∙ idle) (λ n. (others views id v at live name out r j x a n).1)

  pub ends : (lock : TableId) (id : ℕ) (v : V) (ws : List ℕ) (xs : List (Option T)) → v.spent ≡ false → v.stage ≡ Idle → v.name ≡ [] → v.out ≡ [] → Final (Seen (Kept list answers) id v) ws xs → (y : T) × (get_elem? xs 0 ≡ some (Some y)) × Closed list (pass_view lock v) y
  ends lock id v ws xs live idle name out f =
      let s = f.0 in let kept = f.1.0 in let at = f.1.1 in let log = kept.0 in let r = kept.1 in
      let cnt = total_only entries_of s.views id v at (λ j x a n. ap length (others s.views id v at live name out kept.2 j x a n).0) in
      let made = r.made id v at live in let l = r.length_is in let c = r.counted in
      ⊎_elim
      (λ (h : (y : T) × (s.homes ≡ some (Some y) ∷ []) × (list y ≡ log)). (
        h.0,
        f.4 0 (Some h.0) (ap (λ hs. get_elem? hs 0) h.1),
        record {
          begins = subst (λ z. StartsWith z v.seen) (sym h.2) (kept.3.begins id v at).0;
          placed = subst (λ z. (p : ℕ) (e : E) → In (p, e) v.mine → get_elem? z p ≡ some e) (sym h.2) (kept.3.placed id v at);
          rises = kept.3.rises id v at;
          whole = whole_from (list h.0) v.start v.mine (kept.3.rises id v at) (λ p e i. let q = r.past id v at p e i in omega (arith, q, made.1)) (subst (λ z. (p : ℕ) (e : E) → In (p, e) v.mine → get_elem? z p ≡ some e) (sym h.2) (kept.3.placed id v at)) (ap length h.2 ∙ omega (arith, l, made.1, cnt, c));
          counted = ap length h.2 ∙ omega (arith, l, made.1, cnt, c);
        },
      ))
      (λ (h : (j : ℕ) × (x : V) × At s.views j x × (x.stage ≡ Has)). absurd (idle_has list answers h.1.stage (all_idle s.views id v at live idle name out kept.2 h.0 h.1 h.2) h.3))
      r.slot
