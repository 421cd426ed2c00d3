-- What keeps each pass's own entries, and what it has seen.
use Rattle.std.proofs.Common.{◌≡◌, ℕ, ◌<◌, ◌≢◌, ◌⊎◌, ⊎_elim, List, [], ◌∷◌, ◌++◌, length, set, sym, refl, ap, ◌∙◌, subst, inl, inr, arith, Option, Some, length-append}
use Rattle.std.proofs.lemmas.List.{append-nil, append_assoc}
use Rattle.std.proofs.lemmas.Option.{none-some, same_Some}
use mathlib.Core.Logic.{dite}
use native.Mathlib.Decide.{ℕ_discrete}
use mathlib.Core.Option.{some}
use lib.ListN.{get_elem?}
use Rattle.atomic_table.proofs.Lists.{at_longer, at_last}
use Rattle.turn_lock.specs.declared.views.SeatView.{SeatView}
use Rattle.turn_lock.specs.Logs.{StartsWith, In, Rises, IsOpen}
use Rattle.turn_lock.specs.Passes.{MayAnswer}
use Rattle.turn_lock.specs.Seats.{wrote_seat, joined_seat, spent_seat}
use Rattle.turn_lock.specs.Rule.{At, Own}
use Rattle.turn_lock.proofs.Lists.{each_set, each_snoc, each_one, at_below, in_snoc, in_left, in_last, longer_of, rises_snoc, rises_merged, from_merged, to_merged}

in_left' : {A : Type 0} (x : A) (l : List A) (y : A) → In x l → In x (l ++ y ∷ [])
in_left' x l y i = in_left x l (y ∷ []) i

module _ (E : Type 0) (answers : List E → ℕ → Option ℕ) where
  abbrev V : Type 0
  V = SeatView E

  abbrev Begins : List E → V → Type 0
  Begins log v = StartsWith log v.seen × StartsWith log v.own_seen × StartsWith log v.other_seen

  abbrev Placed : List E → V → Type 0
  Placed log v = (p : ℕ) (e : E) → In (p, e) v.mine → get_elem? log p ≡ some e

  abbrev Free : List E → V → Type 0
  Free log v = (p : ℕ) (e : E) → In (p, e) v.mine → IsOpen answers log v.mine p → (j : ℕ) → j < length log → answers log j ≡ Some p → ⊥

  pub own_open : (log : List E) (v : V) → v.mine ≡ [] → Begins log v → Own answers log (v ∷ [])
  own_open log v none b = record {
    begins = each_one (λ j x. Begins log x) v b;
    placed = each_one (λ j x. Placed log x) v (λ p e i. absurd (subst (In (p, e)) none i));
    rises = each_one (λ j x. Rises x.mine) v (subst Rises (sym none) tt);
    apart = λ i j x y a c p e f m n. each_one (λ i x. i ≡ 0) v refl i x a ∙ sym (each_one (λ i x. i ≡ 0) v refl j y c);
    free = each_one (λ j x. Free log x) v (λ p e i. absurd (subst (In (p, e)) none i));
  }

  -- the entries stay
  pub own_same : (log : List E) (views : List V) (id : ℕ) (v w : V) → At views id v → w.mine ≡ v.mine → Begins log w → Own answers log views → Own answers log (set views id w)
  own_same log views id v w at mine b r =
      let older : (j : ℕ) (x : V) → At (set views id w) j x → (y : V) × At views j y × (x.mine ≡ y.mine) = each_set (λ j x. (y : V) × At views j y × (x.mine ≡ y.mine)) views id w (v, at, mine) (λ j x _ a. (x, a, refl)) in
      record {
        begins = each_set (λ j x. Begins log x) views id w b (λ j x _ a. r.begins j x a);
        placed = λ j x a p e i. let o = older j x a in r.placed j o.0 o.1 p e (subst (In (p, e)) o.2 i);
        rises = λ j x a. let o = older j x a in subst Rises (sym o.2) (r.rises j o.0 o.1);
        apart = λ i j x y a c p e f m n. let o = older i x a in let q = older j y c in r.apart i j o.0 q.0 o.1 q.1 p e f (subst (In (p, e)) o.2 m) (subst (In (p, f)) q.2 n);
        free = λ j x a p e i none. let o = older j x a in r.free j o.0 o.1 p e (subst (In (p, e)) o.2 i) (λ q f n. none q f (subst (In (q, f)) (sym o.2) n));
      }

  starts_longer : (log seen : List E) (e : E) → StartsWith log seen → StartsWith (log ++ e ∷ []) seen
  starts_longer log seen e p = (p.0 ++ e ∷ [], ap (λ l. l ++ e ∷ []) p.1 ∙ append_assoc seen p.0 (e ∷ []))

  module _ (earlier : (log : List E) (j p : ℕ) → answers log j ≡ Some p → p < j) (stays : (log : List E) (e : E) (j : ℕ) → j < length log → answers (log ++ e ∷ []) j ≡ answers log j) where
    -- what nobody has answered is not answered by the new entry
    free_more : (log : List E) (e : E) (v : V) → Placed log v → Free log v → (p : ℕ) (f : E) → In (p, f) v.mine → IsOpen answers (log ++ e ∷ []) v.mine p → (answers (log ++ e ∷ []) (length log) ≡ Some p → ⊥)
        → (j : ℕ) → j < length (log ++ e ∷ []) → answers (log ++ e ∷ []) j ≡ Some p → ⊥
    free_more log e v placed free p f i none not j below is = dite (ℕ_discrete j (length log)) (λ s. not (subst (λ z. answers (log ++ e ∷ []) z ≡ Some p) s is))
        (λ n. let small : j < length log = omega (arith, length-append log (e ∷ [])) in
        free p f i (λ q g m a. none q g m (stays log e q (at_below log q g (placed q g m)) ∙ a)) j small (sym (stays log e j small) ∙ is))

    pub own_wrote : (log : List E) (views : List V) (id : ℕ) (v : V) (e : E) → At views id v → MayAnswer answers log v.mine e → Own answers log views → StartsWith log v.own_seen × StartsWith log v.other_seen
        → Own answers (log ++ e ∷ []) (set views id (wrote_seat v log e))
    own_wrote log views id v e at may r both =
        let w = wrote_seat v log e in let log' = log ++ e ∷ [] in let n = length log in
        let above : (j : ℕ) (x : V) → At views j x → (f : E) → In (n, f) x.mine → ⊥ = λ j x a f i. let b = at_below log n f (r.placed j x a n f i) in absurd (omega (arith, b)) in
        -- a place of the writer's
        let mine : (p : ℕ) (f : E) → In (p, f) w.mine → In (p, f) v.mine ⊎ ((p, f) ≡ (n, e)) = λ p f i. in_snoc (p, f) (n, e) v.mine i in
        let theirs : (j : ℕ) (x : V) → At views j x → j ≢ id → (p : ℕ) (f g : E) → In (p, f) w.mine → In (p, g) x.mine → ⊥ = λ j x a other p f g i m. ⊎_elim (λ t. other (r.apart j id x v a at p g f m t)) (λ t. above j x a g (subst (λ z. In (z, g) x.mine) (ap (λ (z : ℕ × E). z.0) t) m)) (mine p f i) in
        record {
          begins = each_set (λ j x. Begins log' x) views id w (([], sym (append-nil log')), starts_longer log v.own_seen e both.0, starts_longer log v.other_seen e both.1)
              (λ j x _ a. let b = r.begins j x a in (starts_longer log x.seen e b.0, starts_longer log x.own_seen e b.1, starts_longer log x.other_seen e b.2));
          placed = each_set (λ j x. Placed log' x) views id w
              (λ p f i. ⊎_elim (λ t. at_longer log (e ∷ []) p f (r.placed id v at p f t)) (λ t. subst (λ (z : ℕ × E). get_elem? log' z.0 ≡ some z.1) (sym t) (at_last log e n refl)) (mine p f i))
              (λ j x _ a p f i. at_longer log (e ∷ []) p f (r.placed j x a p f i));
          rises = each_set (λ j x. Rises x.mine) views id w (rises_snoc v.mine n e (r.rises id v at) (λ p f i. at_below log p f (r.placed id v at p f i))) (λ j x _ a. r.rises j x a);
          apart = λ i j x y a c p f g. each_set (λ i x. (j : ℕ) (y : V) → At (set views id w) j y → (p : ℕ) (f g : E) → In (p, f) x.mine → In (p, g) y.mine → i ≡ j) views id w
              (each_set (λ j y. (p : ℕ) (f g : E) → In (p, f) w.mine → In (p, g) y.mine → id ≡ j) views id w (λ p f g _ _. refl) (λ j y other c p f g m q. absurd (theirs j y c other p f g m q)))
              (λ i x other a. each_set (λ j y. (p : ℕ) (f g : E) → In (p, f) x.mine → In (p, g) y.mine → i ≡ j) views id w (λ p f g m q. absurd (theirs i x a other p g f q m)) (λ j y _ c p f g m q. r.apart i j x y a c p f g m q)) i x a j y c p f g;
          free = each_set (λ j x. Free log' x) views id w
              (λ p f i none. ⊎_elim
              (λ t. free_more log e v (r.placed id v at) (r.free id v at) p f t (λ q g m. none q g (in_left' (q, g) v.mine (n, e) m)) (none n e (in_last (n, e) v.mine)))
              (λ t j below is. let b = earlier log' j p is in let pn = ap (λ (z : ℕ × E). z.0) t in absurd (omega (arith, b, pn, length-append log (e ∷ [])))) (mine p f i))
              (λ j x other a p f i none. free_more log e x (r.placed j x a) (r.free j x a) p f i none
              (λ is. ⊎_elim (λ z. none-some p (sym z ∙ is)) (λ (t : (p' : ℕ) × (f' : E) × (answers log' n ≡ Some p') × In (p', f') v.mine × IsOpen answers log v.mine p').
              let same : t.0 ≡ p = same_Some t.0 p (sym t.2 ∙ is) in other (r.apart j id x v a at p f t.1 i (subst (λ z. In (z, t.1) v.mine) same t.3))) may));
        }

  -- one pass more, with no entries
  pub own_snoc : (log : List E) (views : List V) (n : V) → n.mine ≡ [] → Begins log n → Own answers log views → Own answers log (views ++ n ∷ [])
  own_snoc log views n none b r =
      let nothing : (p : ℕ) (e : E) → In (p, e) n.mine → ⊥ = λ p e i. subst (In (p, e)) none i in record {
        begins = each_snoc (λ j x. Begins log x) views n b r.begins;
        placed = each_snoc (λ j x. Placed log x) views n (λ p e i. absurd (nothing p e i)) r.placed;
        rises = each_snoc (λ j x. Rises x.mine) views n (subst Rises (sym none) tt) r.rises;
        apart = λ i j x y a c p e f. each_snoc (λ i x. (j : ℕ) (y : V) → At (views ++ n ∷ []) j y → (p : ℕ) (e f : E) → In (p, e) x.mine → In (p, f) y.mine → i ≡ j) views n
            (λ j y _ p e f m _. absurd (nothing p e m))
            (λ i x a. each_snoc (λ j y. (p : ℕ) (e f : E) → In (p, e) x.mine → In (p, f) y.mine → i ≡ j) views n (λ p e f _ m. absurd (nothing p f m)) (λ j y c. r.apart i j x y a c)) i x a j y c p e f;
        free = each_snoc (λ j x. Free log x) views n (λ p e i. absurd (nothing p e i)) r.free;
      }

  pub own_join : (log : List E) (views : List V) (id other : ℕ) (v w : V) → At views id v → other ≢ id → At views other w → Own answers log views → Own answers log (set (set views id (joined_seat v w)) other spent_seat)
  own_join log views id other v w at apart at_w r =
      let b = joined_seat v w in let vs = set views id b in let all = set vs other spent_seat in
      let vb = r.begins id v at in let wb = r.begins other w at_w in
      -- whose entry it was
      let owner : (j : ℕ) (x : V) → At all j x → (p : ℕ) (e : E) → In (p, e) x.mine → (i : ℕ) × (y : V) × At views i y × In (p, e) y.mine × ((i ≡ j) ⊎ ((i ≡ other) × (j ≡ id))) =
      each_set (λ j x. (p : ℕ) (e : E) → In (p, e) x.mine → (i : ℕ) × (y : V) × At views i y × In (p, e) y.mine × ((i ≡ j) ⊎ ((i ≡ other) × (j ≡ id)))) vs other spent_seat (λ p e i. absurd i)
      (λ j x n a. each_set (λ j x. (p : ℕ) (e : E) → In (p, e) x.mine → (i : ℕ) × (y : V) × At views i y × In (p, e) y.mine × ((i ≡ j) ⊎ ((i ≡ other) × (j ≡ id)))) views id b
      (λ p e i. ⊎_elim (λ t. (id, v, at, t, inl refl)) (λ t. (other, w, at_w, t, inr (refl, refl))) (from_merged (p, e) v.mine w.mine i)) (λ j x _ a p e i. (j, x, a, i, inl refl)) j x a) in
      let live_place : (j : ℕ) (x : V) → At all j x → (p : ℕ) (e : E) → In (p, e) x.mine → j ≢ other = each_set (λ j x. (p : ℕ) (e : E) → In (p, e) x.mine → j ≢ other) vs other spent_seat (λ p e i. absurd i) (λ j x n _ _ _ _. n) in
      record {
        begins = each_set (λ j x. Begins log x) vs other spent_seat ((log, refl), (log, refl), (log, refl)) (λ j x _ a. each_set (λ j x. Begins log x) views id b (longer_of log v.seen w.seen vb.0 wb.0, vb.0, wb.0) (λ j x _ a. r.begins j x a) j x a);
        placed = λ j x a p e i. let o = owner j x a p e i in r.placed o.0 o.1 o.2 p e o.3;
        rises = each_set (λ j x. Rises x.mine) vs other spent_seat tt (λ j x _ a. each_set (λ j x. Rises x.mine) views id b
            (rises_merged v.mine w.mine (r.rises id v at) (r.rises other w at_w) (λ p e f m n. apart (r.apart other id w v at_w at p f e n m))) (λ j x _ a. r.rises j x a) j x a);
        apart = λ i j x y a c p e f m n. let o = owner i x a p e m in let q = owner j y c p f n in
            let same = r.apart o.0 q.0 o.1 q.1 o.2 q.2 p e f o.3 q.3 in
            let not_i = live_place i x a p e m in let not_j = live_place j y c p f n in
            ⊎_elim (λ s. ⊎_elim (λ t. sym s ∙ (same ∙ t)) (λ (t : (q.0 ≡ other) × (j ≡ id)). absurd (not_i (sym s ∙ (same ∙ t.0)))) q.4)
            (λ (s : (o.0 ≡ other) × (i ≡ id)). ⊎_elim (λ t. absurd (not_j (sym t ∙ (sym same ∙ s.0)))) (λ (t : (q.0 ≡ other) × (j ≡ id)). s.1 ∙ sym t.1) q.4) o.4;
        free = each_set (λ j x. Free log x) vs other spent_seat (λ p e i. absurd i)
            (λ j x _ a. each_set (λ j x. Free log x) views id b
            (λ p e i none. ⊎_elim (λ t. r.free id v at p e t (λ q f m. none q f (to_merged (q, f) v.mine w.mine (inl m)))) (λ t. r.free other w at_w p e t (λ q f m. none q f (to_merged (q, f) v.mine w.mine (inr m)))) (from_merged (p, e) v.mine w.mine i))
            (λ j x _ a. r.free j x a) j x a);
      }
