-- The neighbours of each device after a change.
use Rattle.std.proofs.Common.{◌≡◌, ◌≢◌, ℕ, zero, suc, ◌<◌, inl, inr, min, max, List, [], ◌∷◌, length, map, get_or, set, refl, sym, ◌∙◌, ap, subst, arith, Bool, true, false, not, nat_eq, nat_lt}
use Rattle.std.specs.List.{insert, remove}
use Rattle.std.proofs.lemmas.Bool.{eqb-true, eqb-false, eq-eqb, ne_eqb, ltb-true, ltb-false}
use Rattle.std.proofs.lemmas.List.{length-set, length-map, get_or-set_same, get_or-set_other, get_or-map, same_lists}
use Rattle.fc_values.specs.Types.{Declarations}
use Rattle.fc_values.specs.Fields.{Rises, is_in}
use Rattle.topology.specs.Networks.{NetDevice, Edge, numbers, near_in, LinkFits, LinksFit}
use Rattle.topology.specs.Changes.{is_pair, drop_pair, drop_links, put_edge, pair_edge, drop_device}
use Rattle.topology.specs.Nearby.{near_each, drop_near, insert_near}
use Rattle.topology.proofs.Lists.{map_insert}
use Rattle.topology.proofs.Neighbours.{near_none}
use Rattle.topology.proofs.Links.{no_pair_left, filter_fit}
use Rattle.topology.proofs.NearChanges.{near_put_other, near_drop_other, near_drop_first, near_drop_second, near_insert_first, near_insert_second, near_leave}
use Rattle.fc_values.proofs.Rising.{rises_tail, later_above, rises_at, min_or}

-- ---- a list of what each device has, changed at one or two of them

module _ {X : Type 0} (f g : ℕ → X) where
  pub map_two : (ds : List ℕ) (i j a b : ℕ) → Rises ds → i < length ds → j < length ds → get_or ds i 0 ≡ a → get_or ds j 0 ≡ b
      → ((d : ℕ) → (a ≡ d → ⊥) → (b ≡ d → ⊥) → g d ≡ f d) → set (set (map f ds) i (g a)) j (g b) ≡ map g ds
  map_two ds i j a b r h k p q other = same_lists _ _ long at
    where
      one : List X
      one = set (map f ds) i (g a)

      long : length (set (set (map f ds) i (g a)) j (g b)) ≡ length (map g ds)
      long = length-set (set (map f ds) i (g a)) j (g b) ∙ length-set (map f ds) i (g a) ∙ length-map ds f ∙ sym (length-map ds g)

      distinct : (m n : ℕ) → m < length ds → n < length ds → (m ≡ n → ⊥) → get_or ds m 0 ≡ get_or ds n 0 → ⊥
      distinct m n u v w e = by_order (nat_lt m n) refl
        where
          by_order : (b : Bool) → nat_lt m n ≡ b → ⊥
          by_order true t = let x = rises_at ds r m n (ltb-true m n t) v in omega arith
          by_order false t = let y = ltb-false m n t in let x = rises_at ds r n m (omega (arith, w)) u in omega arith

      at : (m : ℕ) (d : X) → m < length (set (set (map f ds) i (g a)) j (g b)) → get_or (set (set (map f ds) i (g a)) j (g b)) m d ≡ get_or (map g ds) m d
      at m d l = by_tests (nat_eq m j) (nat_eq m i) refl refl
        where
          inside : m < length ds
          inside = omega (arith, long, length-map ds g)

          by_tests : (s t : Bool) → nat_eq m j ≡ s → nat_eq m i ≡ t → get_or (set (set (map f ds) i (g a)) j (g b)) m d ≡ get_or (map g ds) m d
          by_tests true t u v =
              let e = eqb-true m j u in
              subst (λ n. get_or (set (set (map f ds) i (g a)) j (g b)) n d ≡ get_or (map g ds) n d) (sym e)
              (get_or-set_same (set (map f ds) i (g a)) j (g b) d (omega (arith, length-set (map f ds) i (g a), length-map ds f))
              ∙ ap g (sym q) ∙ sym (get_or-map g ds j 0 d k))
          by_tests false true u v =
              let e = eqb-true m i v in
              get_or-set_other (set (map f ds) i (g a)) j m (g b) d (eqb-false m j u)
              ∙ subst (λ n. get_or (set (map f ds) i (g a)) n d ≡ get_or (map g ds) n d) (sym e)
              (get_or-set_same (map f ds) i (g a) d (omega (arith, length-map ds f)) ∙ ap g (sym p) ∙ sym (get_or-map g ds i 0 d h))
          by_tests false false u v =
              get_or-set_other (set (map f ds) i (g a)) j m (g b) d (eqb-false m j u)
              ∙ get_or-set_other (map f ds) i m (g a) d (eqb-false m i v)
              ∙ get_or-map f ds m 0 d inside
              ∙ sym (other (get_or ds m 0) (λ e. distinct i m h inside (λ w. eqb-false m i v (sym w)) (p ∙ e)) (λ e. distinct j m k inside (λ w. eqb-false m j u (sym w)) (q ∙ e)))
              ∙ sym (get_or-map g ds m 0 d inside)

module _ {X : Type 0} (f g : ℕ → X) (h : X → X) (d : ℕ) (others : (e : ℕ) → (d ≡ e → ⊥) → g e ≡ h (f e)) where
  map_each : (xs : List ℕ) → ((k : ℕ) → k < length xs → d ≡ get_or xs k 0 → ⊥) → map h (map f xs) ≡ map g xs
  map_each [] u = refl
  map_each (x ∷ xs) u = ap (λ y. y ∷ map h (map f xs)) (sym (others x (u 0 (omega arith)))) ∙ ap (λ ys. g x ∷ ys) (map_each xs (λ k l. u (suc k) (omega arith)))

  pub map_less : (ds : List ℕ) (i : ℕ) → Rises ds → i < length ds → get_or ds i 0 ≡ d → map h (remove (map f ds) i) ≡ map g (remove ds i)
  map_less [] i r l e = absurd (omega arith)
  map_less (x ∷ xs) zero r l e = map_each xs (λ k m q. let n = later_above x xs r k m in absurd (omega arith))
  map_less (x ∷ xs) (suc i) r l e =
      ap (λ y. y ∷ map h (remove (map f xs) i)) (sym (others x (λ q. first xs i r (omega arith) e q)))
      ∙ ap (λ ys. g x ∷ ys) (map_less xs i (rises_tail x xs r) (omega arith) e)
    where
      first : (ys : List ℕ) (m : ℕ) → Rises (x ∷ ys) → m < length ys → get_or ys m 0 ≡ d → d ≡ x → ⊥
      first ys m r l e q = let n = later_above x ys r m l in omega arith

pub map_remove : {X Y : Type 0} (f : X → Y) (xs : List X) (i : ℕ) → map f (remove xs i) ≡ remove (map f xs) i
map_remove f [] zero = refl
map_remove f [] (suc i) = refl
map_remove f (x ∷ xs) zero = refl
map_remove f (x ∷ xs) (suc i) = ap (λ ys. f x ∷ ys) (map_remove f xs i)

-- ---- a link more, another weight, or a link less

abbrev edge : ℕ → ℕ → ℕ → Edge
edge m n w = record { a = m; b = n; weight = w }

module _ (D : Declarations) (ds : List ℕ) (ls : List Edge) (fit : LinksFit D ds ls) where
  left_fit : (a b : ℕ) → LinksFit D ds (drop_pair a b ls)
  left_fit a b = filter_fit D ds ds (λ l. not (is_pair a b l)) ls (λ l k g. g) fit

  put_ends : (a b w : ℕ) → LinkFits D ds (edge a b w)
      → (near_in a (put_edge (edge a b w) ls) ≡ insert_near b w (drop_near b (near_in a ls))) × (near_in b (put_edge (edge a b w) ls) ≡ insert_near a w (drop_near a (near_in b ls)))
  put_ends a b w h = (
    near_insert_first D ds (edge a b w) (drop_pair a b ls) h (no_pair_left a b ls) (left_fit a b) ∙ ap (insert_near b w) (near_drop_first D ds a b ls h.order fit),
    near_insert_second D ds (edge a b w) (drop_pair a b ls) h (no_pair_left a b ls) (left_fit a b) ∙ ap (insert_near a w) (near_drop_second D ds a b ls h.order fit),
  )

  -- the neighbours of both ends of a link that is put
  pub near_put : (a b w : ℕ) → LinkFits D ds (pair_edge a b w)
      → (near_in a (put_edge (pair_edge a b w) ls) ≡ insert_near b w (drop_near b (near_in a ls))) × (near_in b (put_edge (pair_edge a b w) ls) ≡ insert_near a w (drop_near a (near_in b ls)))
  near_put a b w h = elim (min_or a b) [ inl e ↦ same_order e.0 e.1 h | inr e ↦ other_order e.0 e.1 h ]
    where
      same_order : {m n : ℕ} → m ≡ a → n ≡ b → LinkFits D ds (edge m n w)
          → (near_in a (put_edge (edge m n w) ls) ≡ insert_near b w (drop_near b (near_in a ls))) × (near_in b (put_edge (edge m n w) ls) ≡ insert_near a w (drop_near a (near_in b ls)))
      same_order {m} {n} e f k =
          subst (λ x. (near_in x (put_edge (edge m n w) ls) ≡ insert_near b w (drop_near b (near_in x ls))) × (near_in b (put_edge (edge m n w) ls) ≡ insert_near x w (drop_near x (near_in b ls)))) e
          (subst (λ y. (near_in m (put_edge (edge m n w) ls) ≡ insert_near y w (drop_near y (near_in m ls))) × (near_in y (put_edge (edge m n w) ls) ≡ insert_near m w (drop_near m (near_in y ls)))) f (put_ends m n w k))

      other_order : {m n : ℕ} → m ≡ b → n ≡ a → LinkFits D ds (edge m n w)
          → (near_in a (put_edge (edge m n w) ls) ≡ insert_near b w (drop_near b (near_in a ls))) × (near_in b (put_edge (edge m n w) ls) ≡ insert_near a w (drop_near a (near_in b ls)))
      other_order {m} {n} e f k =
          subst (λ x. (near_in a (put_edge (edge m n w) ls) ≡ insert_near x w (drop_near x (near_in a ls))) × (near_in x (put_edge (edge m n w) ls) ≡ insert_near a w (drop_near a (near_in x ls)))) e
          (subst (λ y. (near_in y (put_edge (edge m n w) ls) ≡ insert_near m w (drop_near m (near_in y ls))) × (near_in m (put_edge (edge m n w) ls) ≡ insert_near y w (drop_near y (near_in m ls)))) f
          (let t = put_ends m n w k in (t.1, t.0)))

  -- and of a link that is taken away
  pub near_drop : (a b : ℕ) → a ≢ b
      → (near_in a (drop_pair (min a b) (max a b) ls) ≡ drop_near b (near_in a ls)) × (near_in b (drop_pair (min a b) (max a b) ls) ≡ drop_near a (near_in b ls))
  near_drop a b u = elim (min_or a b) [ inl e ↦ same_order e.0 e.1 | inr e ↦ other_order e.0 e.1 ]
    where
      same_order : min a b ≡ a → max a b ≡ b → (near_in a (drop_pair (min a b) (max a b) ls) ≡ drop_near b (near_in a ls)) × (near_in b (drop_pair (min a b) (max a b) ls) ≡ drop_near a (near_in b ls))
      same_order e f = let o : a < b = omega (arith, u) in rw (e, f) (near_drop_first D ds a b ls o fit, near_drop_second D ds a b ls o fit)

      other_order : min a b ≡ b → max a b ≡ a → (near_in a (drop_pair (min a b) (max a b) ls) ≡ drop_near b (near_in a ls)) × (near_in b (drop_pair (min a b) (max a b) ls) ≡ drop_near a (near_in b ls))
      other_order e f = let o : b < a = omega (arith, u) in rw (e, f) (near_drop_second D ds b a ls o fit, near_drop_first D ds b a ls o fit)

  not_min : (a b d : ℕ) → (a ≡ d → ⊥) → (b ≡ d → ⊥) → min a b ≡ d → ⊥
  not_min a b d h k e = elim (min_or a b) [ inl f ↦ h (sym f.0 ∙ e) | inr f ↦ k (sym f.0 ∙ e) ]

  not_max : (a b d : ℕ) → (a ≡ d → ⊥) → (b ≡ d → ⊥) → max a b ≡ d → ⊥
  not_max a b d h k e = elim (min_or a b) [ inl f ↦ k (sym f.1 ∙ e) | inr f ↦ h (sym f.1 ∙ e) ]

  module _ (rises : Rises ds) (i j a b : ℕ) (h : i < length ds) (k : j < length ds) (p : get_or ds i 0 ≡ a) (q : get_or ds j 0 ≡ b) where
    pub each_put : (w : ℕ) → LinkFits D ds (pair_edge a b w)
        → set (set (near_each ds ls) i (insert_near b w (drop_near b (near_in a ls)))) j (insert_near a w (drop_near a (near_in b ls))) ≡ near_each ds (put_edge (pair_edge a b w) ls)
    each_put w f =
        let t = near_put a b w f in
        ap (λ x. set (set (near_each ds ls) i x) j (insert_near a w (drop_near a (near_in b ls)))) (sym t.0)
        ∙ ap (λ x. set (set (near_each ds ls) i (near_in a (put_edge (pair_edge a b w) ls))) j x) (sym t.1)
        ∙ map_two (λ d. near_in d ls) (λ d. near_in d (put_edge (pair_edge a b w) ls)) ds i j a b rises h k p q
        (λ d u v. near_put_other (pair_edge a b w) d ls (not_min a b d u v) (not_max a b d u v))

    pub each_drop : a ≢ b
        → set (set (near_each ds ls) i (drop_near b (near_in a ls))) j (drop_near a (near_in b ls)) ≡ near_each ds (drop_pair (min a b) (max a b) ls)
    each_drop u =
        let t = near_drop a b u in
        ap (λ x. set (set (near_each ds ls) i x) j (drop_near a (near_in b ls))) (sym t.0)
        ∙ ap (λ x. set (set (near_each ds ls) i (near_in a (drop_pair (min a b) (max a b) ls))) j x) (sym t.1)
        ∙ map_two (λ d. near_in d ls) (λ d. near_in d (drop_pair (min a b) (max a b) ls)) ds i j a b rises h k p q
        (λ d x y. near_drop_other (min a b) (max a b) d ls (not_min a b d x y) (not_max a b d x y))

  -- ---- a device less

  pub each_leave : Rises ds → (i d : ℕ) → i < length ds → get_or ds i 0 ≡ d → map (λ ns. drop_near d ns) (remove (near_each ds ls) i) ≡ near_each (remove ds i) (drop_links d ls)
  each_leave r i d l e = map_less (λ e. near_in e ls) (λ e. near_in e (drop_links d ls)) (λ ns. drop_near d ns) d (λ e u. near_leave D ds d e ls u fit) ds i r l e

  -- ---- a device more

  pub each_join : (d i : ℕ) → is_in d ds ≡ false → insert (near_each ds ls) i [] ≡ near_each (insert ds i d) ls
  each_join d i n = ap (λ x. insert (near_each ds ls) i x) (sym (near_none D ds d ls fit n)) ∙ sym (map_insert (λ e. near_in e ls) ds i d)

-- ---- the place of a device that goes

remove_first : (d : ℕ) (ns : List NetDevice) → ((k : ℕ) → k < length (numbers ns) → d ≡ get_or (numbers ns) k 0 → ⊥) → ns ≡ drop_device d ns
remove_first d [] u = refl
remove_first d (n ∷ ns) u = rw (ne_eqb d n.id (u 0 (omega arith))) (ap (λ ms. n ∷ ms) (remove_first d ns (λ k l. u (suc k) (omega arith))))

pub remove_device : (d i : ℕ) (ns : List NetDevice) → Rises (numbers ns) → i < length (numbers ns) → get_or (numbers ns) i 0 ≡ d → remove ns i ≡ drop_device d ns
remove_device d i [] r l e = absurd (omega arith)
remove_device d zero (n ∷ ns) r l e =
    rw (eq-eqb d n.id (sym e)) (remove_first d ns (λ k m q. let x = later_above n.id (numbers ns) r k m in absurd (omega arith)))
remove_device d (suc i) (n ∷ ns) r l e =
    let x = later_above n.id (numbers ns) r i (omega arith) in
    rw (ne_eqb d n.id (λ q. absurd (omega arith))) (ap (λ ms. n ∷ ms) (remove_device d i ns (rises_tail n.id (numbers ns) r) (omega arith) e))
