-- What keeps the names of passes.
use Rattle.std.proofs.Common.{◌≡◌, ℕ, ◌<◌, ◌≤◌, ◌≢◌, ◌⊎◌, ⊎_elim, List, [], ◌∷◌, ◌++◌, length, set, sym, refl, ap, ◌∙◌, subst, inl, inr, arith, true, false, length-append, zero, suc}
use Rattle.std.proofs.lemmas.List.{same_from_push}
use Rattle.std.proofs.lemmas.Bool.{false≢true}
use mathlib.Core.Logic.{dite}
use native.Mathlib.Decide.{ℕ_discrete}
use mathlib.Core.Option.{some-injective}
use lib.ListN.{get_elem?}
use Rattle.atomic_table.proofs.Lists.{at_longer, set_else}
use Rattle.turn_lock.specs.declared.views.SeatView.{SeatView}
use Rattle.turn_lock.specs.declared.views.Stage.TheVariants.{Idle}
use Rattle.turn_lock.specs.Logs.{In, last_of}
use Rattle.turn_lock.specs.Seats.{kept_seat, new_seat, joined_seat, spent_seat}
use Rattle.turn_lock.specs.Rule.{At, IsChild, Names}
use Rattle.turn_lock.proofs.Lists.{each_set, each_snoc, each_one, set_there, in_snoc, in_left, in_last, in_without, stays_without, last_snoc}

no_longer : (l : List ℕ) (k : ℕ) → l ++ k ∷ [] ≡ [] → ⊥
no_longer l k e = let n = ap length e in absurd (omega (arith, n, length-append l (k ∷ [])))

module _ (E : Type 0) where
  abbrev V : Type 0
  V = SeatView E

  same_at : (views : List V) (i : ℕ) (v w : V) → At views i v → At views i w → v ≡ w
  same_at views i v w a b = some-injective v w (sym a ∙ b)

  one_only : (v : V) (i : ℕ) (x : V) → At (v ∷ []) i x → i ≡ 0
  one_only v = each_one (λ i x. i ≡ 0) v refl

  pub names_open : (v : V) → v.spent ≡ false → v.name ≡ [] → v.out ≡ [] → Names (v ∷ [])
  names_open v live name out = record {
    child = each_one (λ j x. x.spent ≡ false → (x.name ≡ []) ⊎ IsChild (v ∷ []) x) v (λ _. inl name);
    below = each_one (λ j x. (k : ℕ) → In k x.out → k < x.made) v (λ k i. absurd (subst (In k) out i));
    apart = λ i j x y a b _ _ _. one_only v i x a ∙ sym (one_only v j y b);
    empty = each_one (λ j x. x.spent ≡ true → (x.mine ≡ []) × (x.stage ≡ Idle)) v (λ t. absurd (false≢true (sym live ∙ t)));
  }

  -- the parent may have changed
  child_set : (views : List V) (id : ℕ) (v w x : V) → At views id v → w.name ≡ v.name → w.spent ≡ v.spent → ((k : ℕ) → In k v.out → x.name ≡ v.name ++ k ∷ [] → In k w.out) → IsChild views x → IsChild (set views id w) x
  child_set views id v w x at name spent out c = dite (ℕ_discrete c.0 id)
      (λ e. let same : c.1 ≡ v = same_at views id c.1 v (ap (get_elem? views) (sym e) ∙ c.2) at in
      let is : x.name ≡ v.name ++ c.4 ∷ [] = c.5 ∙ ap (λ (u : V). u.name ++ c.4 ∷ []) same in
      (id, w, set_there views id w v at, spent ∙ (ap (λ (u : V). u.spent) (sym same) ∙ c.3), c.4, is ∙ ap (λ l. l ++ c.4 ∷ []) (sym name), out c.4 (subst (λ (u : V). In c.4 u.out) same c.6) is))
      (λ n. (c.0, c.1, set_else views id c.0 w n ∙ c.2, c.3, c.4, c.5, c.6))

  -- who was there before
  old_of : (views : List V) (id : ℕ) (v w : V) → At views id v → w.name ≡ v.name → w.spent ≡ v.spent → (j : ℕ) (x : V) → At (set views id w) j x → (y : V) × At views j y × (x.name ≡ y.name) × (x.spent ≡ y.spent)
  old_of views id v w at name spent = each_set (λ j x. (y : V) × At views j y × (x.name ≡ y.name) × (x.spent ≡ y.spent)) views id w (v, at, name, spent) (λ j x _ a. (x, a, refl, refl))

  pub names_same : (views : List V) (id : ℕ) (v w : V) → At views id v → w.name ≡ v.name → w.made ≡ v.made → w.out ≡ v.out → w.spent ≡ v.spent → w.spent ≡ false → Names views → Names (set views id w)
  names_same views id v w at name made out spent live r =
      let grow : (x : V) → IsChild views x → IsChild (set views id w) x = λ x c. child_set views id v w x at name spent (λ k i _. subst (In k) (sym out) i) c in record {
        child = each_set (λ j x. x.spent ≡ false → (x.name ≡ []) ⊎ IsChild (set views id w) x) views id w
            (λ l. ⊎_elim (λ e. inl (name ∙ e)) (λ c. let d = grow v c in inr (d.0, d.1, d.2, d.3, d.4, name ∙ d.5, d.6)) (r.child id v at (sym spent ∙ l)))
            (λ j x _ a l. ⊎_elim (λ e. inl e) (λ c. inr (grow x c)) (r.child j x a l));
        below = each_set (λ j x. (k : ℕ) → In k x.out → k < x.made) views id w (λ k i. let b = r.below id v at k (subst (In k) out i) in omega (arith, made, b)) (λ j x _ a. r.below j x a);
        apart = λ i j x y a b lx ly same. let o = old_of views id v w at name spent i x a in let p = old_of views id v w at name spent j y b in
            r.apart i j o.0 p.0 o.1 p.1 (sym o.3 ∙ lx) (sym p.3 ∙ ly) (sym o.2 ∙ (same ∙ p.2));
        empty = each_set (λ j x. x.spent ≡ true → (x.mine ≡ []) × (x.stage ≡ Idle)) views id w (λ t. absurd (false≢true (sym live ∙ t))) (λ j x _ a. r.empty j x a);
      }

  -- the name of a new pass is new
  fresh : (views : List V) (id : ℕ) (v : V) → At views id v → v.spent ≡ false → Names views → (j : ℕ) (x : V) → At views j x → x.spent ≡ false → x.name ≡ v.name ++ v.made ∷ [] → ⊥
  fresh views id v at live r j x a l same = ⊎_elim (λ e. no_longer v.name v.made (sym same ∙ e))
      (λ (c : IsChild views x). let t = same_from_push c.1.name v.name c.4 v.made (sym c.5 ∙ same) in
      let at' = r.apart c.0 id c.1 v c.2 at c.3 live t.0 in
      let u : c.1 ≡ v = same_at views id c.1 v (ap (get_elem? views) (sym at') ∙ c.2) at in
      let b = r.below id v at v.made (subst (λ (z : ℕ × V). In z.0 z.1.out) (λ i. (t.1 i, u i)) c.6) in absurd (omega (arith, b)))
      (r.child j x a l)

  pub names_split : (views : List V) (id share : ℕ) (v : V) → At views id v → v.spent ≡ false → Names views → Names (set views id (kept_seat share v) ++ new_seat share v ∷ [])
  names_split views id share v at live r =
      let w = kept_seat share v in let n = new_seat share v in let vs = set views id w in let all = vs ++ n ∷ [] in
      let out : (k : ℕ) → In k v.out → In k w.out = λ k i. in_left k v.out (v.made ∷ []) i in
      let grow : (x : V) → IsChild views x → IsChild all x = λ x c. let d = child_set views id v w x at refl refl (λ k i _. out k i) c in (d.0, d.1, at_longer vs (n ∷ []) d.0 d.1 d.2, d.3, d.4, d.5, d.6) in
      let older : (j : ℕ) (x : V) → At vs j x → (y : V) × At views j y × (x.name ≡ y.name) × (x.spent ≡ y.spent) = old_of views id v w at refl refl in
      let new : (j : ℕ) (x : V) → At vs j x → x.spent ≡ false → x.name ≡ n.name → ⊥ = λ j x a l same. let o = older j x a in fresh views id v at live r j o.0 o.1 (sym o.3 ∙ l) (sym o.2 ∙ same) in
      record {
        child = each_snoc (λ j x. x.spent ≡ false → (x.name ≡ []) ⊎ IsChild all x) vs n
            (λ _. inr (id, w, at_longer vs (n ∷ []) id w (set_there views id w v at), live, v.made, refl, in_last v.made v.out))
            (each_set (λ j x. x.spent ≡ false → (x.name ≡ []) ⊎ IsChild all x) views id w (λ l. ⊎_elim (λ e. inl e) (λ c. let d = grow v c in inr (d.0, d.1, d.2, d.3, d.4, d.5, d.6)) (r.child id v at l)) (λ j x _ a l. ⊎_elim (λ e. inl e) (λ c. inr (grow x c)) (r.child j x a l)));
        below = each_snoc (λ j x. (k : ℕ) → In k x.out → k < x.made) vs n (λ k i. absurd i)
            (each_set (λ j x. (k : ℕ) → In k x.out → k < x.made) views id w (λ k i. ⊎_elim (λ t. let b = r.below id v at k t in omega (arith, b)) (λ (e : k ≡ v.made). omega (arith, e)) (in_snoc k v.made v.out i)) (λ j x _ a. r.below j x a));
        apart = λ i j x y a b lx ly same. each_snoc (λ i x. (j : ℕ) (y : V) → At all j y → x.spent ≡ false → y.spent ≡ false → x.name ≡ y.name → i ≡ j) vs n
            (each_snoc (λ j y. n.spent ≡ false → y.spent ≡ false → n.name ≡ y.name → length vs ≡ j) vs n (λ _ _ _. refl) (λ j y a _ l same. absurd (new j y a l (sym same))))
            (λ i x a. each_snoc (λ j y. x.spent ≡ false → y.spent ≡ false → x.name ≡ y.name → i ≡ j) vs n (λ l _ same. absurd (new i x a l same))
            (λ j y b lx ly same. let o = older i x a in let p = older j y b in r.apart i j o.0 p.0 o.1 p.1 (sym o.3 ∙ lx) (sym p.3 ∙ ly) (sym o.2 ∙ (same ∙ p.2)))) i x a j y b lx ly same;
        empty = each_snoc (λ j x. x.spent ≡ true → (x.mine ≡ []) × (x.stage ≡ Idle)) vs n (λ t. absurd (false≢true (sym live ∙ t)))
            (each_set (λ j x. x.spent ≡ true → (x.mine ≡ []) × (x.stage ≡ Idle)) views id w (λ t. absurd (false≢true (sym live ∙ t))) (λ j x _ a. r.empty j x a));
      }

  -- one pass takes in another, whose name is its own and a number
  module _ (views : List V) (id other : ℕ) (v w : V) (k : ℕ) (at : At views id v) (apart : other ≢ id) (at_w : At (set views id (joined_seat v w)) other w) (live : v.spent ≡ false) (live_w : w.spent ≡ false) (name : w.name ≡ v.name ++ k ∷ []) (none_out : w.out ≡ []) where
    abbrev Both : List V
    Both = set (set views id (joined_seat v w)) other spent_seat

    was : At views other w
    was = sym (set_else views id other (joined_seat v w) apart) ∙ at_w

    -- who is not spent was there before
    live_was : (j : ℕ) (x : V) → At Both j x → x.spent ≡ false → (y : V) × At views j y × (x.name ≡ y.name) × (y.spent ≡ false) × (j ≢ other)
    live_was = each_set (λ j x. x.spent ≡ false → (y : V) × At views j y × (x.name ≡ y.name) × (y.spent ≡ false) × (j ≢ other)) (set views id (joined_seat v w)) other spent_seat (λ l. absurd (false≢true (sym l)))
        (λ j x n a l. let o = old_of views id v (joined_seat v w) at refl refl j x a in (o.0, o.1, o.2, sym o.3 ∙ l, n))

    grow : Names views → (x : V) → (x.name ≡ w.name → ⊥) → IsChild views x → IsChild Both x
    grow r x not c =
        let vs = set views id (joined_seat v w) in
        let d = child_set views id v (joined_seat v w) x at refl refl (λ q i is. stays_without q (last_of w.name) v.out (λ e. not (is ∙ (ap (λ z. v.name ++ z ∷ []) (e ∙ (ap last_of name ∙ last_snoc v.name k)) ∙ sym name))) i) c in
        dite (ℕ_discrete d.0 other)
        (λ e. let u : d.1 ≡ w = same_at vs other d.1 w (ap (get_elem? vs) (sym e) ∙ d.2) at_w in absurd (subst (In d.4) none_out (subst (λ (z : V). In d.4 z.out) u d.6)))
        (λ n. (d.0, d.1, set_else vs other d.0 spent_seat n ∙ d.2, d.3, d.4, d.5, d.6))

    pub names_join : Names views → Names Both
    names_join r =
        let vs = set views id (joined_seat v w) in
        let other_name : (j : ℕ) (x : V) → At views j x → x.spent ≡ false → j ≢ other → x.name ≡ w.name → ⊥ = λ j x a l n same. n (r.apart j other x w a was l live_w same) in
        record {
          child = each_set (λ j x. x.spent ≡ false → (x.name ≡ []) ⊎ IsChild Both x) vs other spent_seat (λ l. absurd (false≢true (sym l)))
              (λ j x n a l. each_set (λ j x. j ≢ other → x.spent ≡ false → (x.name ≡ []) ⊎ IsChild Both x) views id (joined_seat v w)
              (λ m l. ⊎_elim (λ e. inl e) (λ c. let d = grow r v (other_name id v at live m) c in inr (d.0, d.1, d.2, d.3, d.4, d.5, d.6)) (r.child id v at l))
              (λ j x _ a m l. ⊎_elim (λ e. inl e) (λ c. inr (grow r x (other_name j x a l m) c)) (r.child j x a l)) j x a n l);
          below = each_set (λ j x. (k : ℕ) → In k x.out → k < x.made) vs other spent_seat (λ k i. absurd i)
              (λ j x _ a. each_set (λ j x. (k : ℕ) → In k x.out → k < x.made) views id (joined_seat v w) (λ k i. r.below id v at k (in_without k (last_of w.name) v.out i)) (λ j x _ a. r.below j x a) j x a);
          apart = λ i j x y a b lx ly same. let o = live_was i x a lx in let p = live_was j y b ly in r.apart i j o.0 p.0 o.1 p.1 o.3 p.3 (sym o.2 ∙ (same ∙ p.2));
          empty = each_set (λ j x. x.spent ≡ true → (x.mine ≡ []) × (x.stage ≡ Idle)) vs other spent_seat (λ _. (refl, refl))
              (λ j x _ a. each_set (λ j x. x.spent ≡ true → (x.mine ≡ []) × (x.stage ≡ Idle)) views id (joined_seat v w) (λ t. absurd (false≢true (sym live ∙ t))) (λ j x _ a. r.empty j x a) j x a);
        }

  by_parent : (views : List V) (id : ℕ) (v : V) → At views id v → v.spent ≡ false → v.name ≡ [] → v.out ≡ [] → Names views → (n : ℕ) (x : V) → IsChild views x → length x.name ≤ n → ⊥
  by_parent views id v at live name out r zero x c short = let l = ap length c.5 in absurd (omega (arith, l, short, length-append c.1.name (c.4 ∷ [])))
  by_parent views id v at live name out r (suc n) x c short =
      let l = ap length c.5 in let m = length-append c.1.name (c.4 ∷ []) in
      let e : c.0 ≡ id = ⊎_elim (λ z. r.apart c.0 id c.1 v c.2 at c.3 live (z ∙ sym name)) (λ (d : IsChild views c.1). absurd (by_parent views id v at live name out r n c.1 d (omega arith))) (r.child c.0 c.1 c.2 c.3) in
      let u : c.1 ≡ v = same_at views id c.1 v (ap (get_elem? views) (sym e) ∙ c.2) at in
      subst (In c.4) out (subst (λ (z : V). In c.4 z.out) u c.6)

  -- the pass with no name whose passes all came back is the only one
  pub sole : (views : List V) (id : ℕ) (v : V) → At views id v → v.spent ≡ false → v.name ≡ [] → v.out ≡ [] → Names views → (j : ℕ) (x : V) → At views j x → x.spent ≡ false → j ≡ id
  sole views id v at live name out r j x a l = ⊎_elim (λ e. r.apart j id x v a at l live (e ∙ sym name))
      (λ (c : IsChild views x). absurd (by_parent views id v at live name out r (length x.name) x c (omega arith))) (r.child j x a l)
