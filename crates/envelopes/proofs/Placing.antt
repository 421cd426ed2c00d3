-- The places of devices in code, and the lists of neighbours beside them.
use Rattle.std.proofs.Common.{◌≡◌, ℕ, zero, suc, ◌+◌, ◌<◌, List, [], ◌∷◌, ◌++◌, length, map, get_or, set, refl, sym}
use Rattle.std.proofs.Common.{◌∙◌, ap, subst, arith, Bool, true, false, cond, nat_eq, nat_lt, if◌then◌else◌}
use Rattle.std.specs.List.{prefix_len}
use Rattle.std.specs.List.Sorted.{IsPartitionedBy}
use Rattle.std.specs.Prelude.{replicate}
use Rattle.std.specs.declared.vec.Vec.{Vec}
use Rattle.std.specs.declared.alloc.Global.{Global}
use Rattle.std.proofs.lemmas.List.{length-map, get_or-map, map-set, map-append, get_or-set_other}
use Rattle.std.proofs.lemmas.Bool.{eqb-true, eqb-false, eq-eqb, ltb-true, ltb-false, lt-ltb, ne_eqb}
use Rattle.fc_values.specs.Types.{Declarations}
use Rattle.fc_values.specs.Fields.{Rises, is_in}
use Rattle.fc_values.proofs.Rising.{rises_tail, rises_at}
use Rattle.topology.specs.Networks.{LinksFit}
use Rattle.topology.proofs.NearEach.{map_two}
use Rattle.envelopes.specs.declared.types.DeviceBound.{DeviceBound}
use Rattle.envelopes.specs.declared.types.LinkBound.{LinkBound}
use Rattle.envelopes.specs.Envelopes.{MaybeDevice, MaybeLink, ids, maybe_near, least_edge}
use Rattle.envelopes.specs.Code.{maybe_device_of, maybe_link_of, near_each, EndsFit, neighbour_of, neighbours_of}
use Rattle.envelopes.proofs.Within.{later_above}

-- ---- places

pub number_get : (xs : List DeviceBound) (i : ℕ) (d : DeviceBound) → i < length xs
    → get_or (ids (map maybe_device_of xs)) i 0 ≡ (get_or xs i d).id
number_get [] i d h = absurd (omega arith)
number_get (x ∷ xs) zero d h = refl
number_get (x ∷ xs) (suc i) d h = number_get xs i d (omega arith)

pub ids_long : (ms : List MaybeDevice) → length (ids ms) ≡ length ms
ids_long [] = refl
ids_long (m ∷ ms) = ap suc (ids_long ms)

pub devices_long : (xs : List DeviceBound) → length (ids (map maybe_device_of xs)) ≡ length xs
devices_long [] = refl
devices_long (x ∷ xs) = ap suc (devices_long xs)

pub devices_parted : (id : ℕ) (xs : List DeviceBound) → Rises (ids (map maybe_device_of xs))
    → IsPartitionedBy (λ (x : DeviceBound). nat_lt x.id id) xs
devices_parted id xs r i j d h l t = by_test (nat_eq i j) refl
  where
    by_test : (q : Bool) → nat_eq i j ≡ q → nat_lt (get_or xs i d).id id ≡ true
    by_test true e = let k = eqb-true i j e in subst (λ m. nat_lt (get_or xs m d).id id ≡ true) (sym k) t
    by_test false e =
        let k = eqb-false i j e in
        let u = rises_at (ids (map maybe_device_of xs)) r i j (omega (arith, k)) (omega (arith, devices_long xs)) in
        let v = ltb-true (get_or xs j d).id id t in
        lt-ltb (get_or xs i d).id id (omega (arith, number_get xs i d (omega arith), number_get xs j d l))

-- a device that is there has the place before which all lesser ones come
pub room_at : (id k : ℕ) (ms : List MaybeDevice) → Rises (ids ms) → is_in id (ids ms) ≡ true
    → k ≡ prefix_len (λ (m : MaybeDevice). nat_lt m.id id) ms → (k < length ms) × (get_or (ids ms) k 0 ≡ id)
room_at id k [] r h e = absurd cc
room_at id k (m ∷ ms) r h e =
    by_test (nat_lt m.id id) refl e (λ j. room_at id j ms (rises_tail m.id (ids ms) r))
  where
    by_test : (q : Bool) → nat_lt m.id id ≡ q
        → k ≡ cond q (1 + prefix_len (λ (m : MaybeDevice). nat_lt m.id id) ms) 0
        → ((j : ℕ) → is_in id (ids ms) ≡ true → j ≡ prefix_len (λ (m : MaybeDevice). nat_lt m.id id) ms
        → (j < length ms) × (get_or (ids ms) j 0 ≡ id))
        → (k < length (m ∷ ms)) × (get_or (ids (m ∷ ms)) k 0 ≡ id)
    by_test true t u ih =
        let l = ltb-true m.id id t in
        let other = ne_eqb id m.id (λ x. absurd (omega (arith, l, x))) in
        let rest : is_in id (ids ms) ≡ true = rw other at h in
        let p = ih (prefix_len (λ (m : MaybeDevice). nat_lt m.id id) ms) rest refl in
        let s : k ≡ suc (prefix_len (λ (m : MaybeDevice). nat_lt m.id id) ms) = omega (arith, u) in
        (omega (arith, s, p.0), subst (λ i. get_or (ids (m ∷ ms)) i 0 ≡ id) (sym s) p.1)
    by_test false t u ih = first (nat_eq id m.id) refl
      where
        first : (q : Bool) → nat_eq id m.id ≡ q → (k < length (m ∷ ms)) × (get_or (ids (m ∷ ms)) k 0 ≡ id)
        first true w =
            (omega (arith, u), subst (λ i. get_or (ids (m ∷ ms)) i 0 ≡ id) (sym u) (sym (eqb-true id m.id w)))
        first false w =
            let rest : is_in id (ids ms) ≡ true = rw w at h in
            let above = later_above m.id id (ids ms) r rest in
            let l = ltb-false m.id id t in
            absurd (omega (arith, above, l))

-- ---- neighbours

near_more : (d : ℕ) (ls : List MaybeLink) (l : MaybeLink)
    → maybe_near d (ls ++ l ∷ []) ≡ maybe_near d ls ++ maybe_near d (l ∷ [])
near_more d [] l = refl
near_more d (m ∷ ls) l = by_tests (nat_eq m.a d) (nat_eq m.b d) (near_more d ls l)
  where
    by_tests : (p q : Bool) → maybe_near d (ls ++ l ∷ []) ≡ maybe_near d ls ++ maybe_near d (l ∷ [])
        → (if p then (m.b, m) ∷ maybe_near d (ls ++ l ∷ [])
        else (if q then (m.a, m) ∷ maybe_near d (ls ++ l ∷ []) else maybe_near d (ls ++ l ∷ [])))
        ≡ (if p then (m.b, m) ∷ maybe_near d ls else (if q then (m.a, m) ∷ maybe_near d ls else maybe_near d ls))
        ++ maybe_near d (l ∷ [])
    by_tests true q ih = ap (λ ns. (m.b, m) ∷ ns) ih
    by_tests false true ih = ap (λ ns. (m.a, m) ∷ ns) ih
    by_tests false false ih = ih

near_first : (ls : List MaybeLink) (l : MaybeLink) → maybe_near l.a (ls ++ l ∷ []) ≡ maybe_near l.a ls ++ (l.b, l) ∷ []
near_first ls l =
    let t = eq-eqb l.a l.a refl in
    let one : maybe_near l.a (l ∷ []) ≡ (l.b, l) ∷ [] = rw t refl in
    near_more l.a ls l ∙ ap (λ ns. maybe_near l.a ls ++ ns) one

near_second : (ls : List MaybeLink) (l : MaybeLink) → l.a < l.b
    → maybe_near l.b (ls ++ l ∷ []) ≡ maybe_near l.b ls ++ (l.a, l) ∷ []
near_second ls l o =
    let f = ne_eqb l.a l.b (λ e. absurd (omega (arith, o, e))) in
    let t = eq-eqb l.b l.b refl in
    let one : maybe_near l.b (l ∷ []) ≡ (l.a, l) ∷ [] = rw (f, t) refl in
    near_more l.b ls l ∙ ap (λ ns. maybe_near l.b ls ++ ns) one

nil_right : (ns : List (ℕ × MaybeLink)) → ns ++ [] ≡ ns
nil_right [] = refl
nil_right (n ∷ ns) = ap (λ ms. n ∷ ms) (nil_right ns)

near_other : (d : ℕ) (ls : List MaybeLink) (l : MaybeLink) → (l.a ≡ d → ⊥) → (l.b ≡ d → ⊥)
    → maybe_near d (ls ++ l ∷ []) ≡ maybe_near d ls
near_other d ls l h k =
    let f = ne_eqb l.a d h in
    let g = ne_eqb l.b d k in
    let none : maybe_near d (l ∷ []) ≡ [] = rw (f, g) refl in
    near_more d ls l ∙ ap (λ ns. maybe_near d ls ++ ns) none ∙ nil_right (maybe_near d ls)

-- a link more is a neighbour more at the places of its two ends
pub each_more : (is : List ℕ) (ls : List MaybeLink) (l : MaybeLink) (p q : ℕ) → Rises is → l.a < l.b → p < length is
    → q < length is → get_or is p 0 ≡ l.a → get_or is q 0 ≡ l.b
    → set (set (near_each is ls) p (maybe_near l.a ls ++ (l.b, l) ∷ [])) q (maybe_near l.b ls ++ (l.a, l) ∷ [])
    ≡ near_each is (ls ++ l ∷ [])
each_more is ls l p q r o h k e g =
    let u = near_first ls l in
    let w = near_second ls l o in
    ap (λ ns. set (set (near_each is ls) p ns) q (maybe_near l.b ls ++ (l.a, l) ∷ [])) (sym u)
    ∙ ap (λ ns. set (set (near_each is ls) p (maybe_near l.a (ls ++ l ∷ []))) q ns) (sym w)
    ∙ map_two (λ d. maybe_near d ls) (λ d. maybe_near d (ls ++ l ∷ [])) is p q l.a l.b r h k e g
    (λ d x y. near_other d ls l x y)

-- no link, no neighbours
pub each_none : (is : List ℕ) → near_each is [] ≡ replicate (length is) []
each_none [] = refl
each_none (i ∷ is) = ap (λ ns. [] ∷ ns) (each_none is)

-- the ends of the links of an envelope
pub ends_fit : (D : Declarations) (ds : List ℕ) (ls : List MaybeLink) → LinksFit D ds (map least_edge ls) →
    EndsFit ds ls
ends_fit D ds [] h = tt
ends_fit D ds (l ∷ ls) h = (h.0.order, h.0.from, h.0.to, ends_fit D ds ls h.2)

-- so are those of a link in code
pub record EndsAt (ds : List ℕ) (l : LinkBound) : Type 0 where
  pub order : l.a < l.b
  pub from : is_in l.a ds ≡ true
  pub to : is_in l.b ds ≡ true

pub ends_at : (ds : List ℕ) (xs : List LinkBound) → EndsFit ds (map maybe_link_of xs) → (k : ℕ) (x : LinkBound)
    → k < length xs → EndsAt ds (get_or xs k x)
ends_at ds [] h k x l = absurd (omega arith)
ends_at ds (y ∷ ys) h zero x l = record { order = h.0; from = h.1; to = h.2 }
ends_at ds (y ∷ ys) h (suc k) x l = ends_at ds ys h.3 k x (omega arith)

-- ---- the lists in code

-- the list at a place is that of the device there
pub near_at : (is : List ℕ) (ls : List MaybeLink) (vs : List (Vec (ℕ × LinkBound) Global)) (p : ℕ)
    (x : Vec (ℕ × LinkBound) Global) → map neighbours_of vs ≡ near_each is ls → p < length is
    → map neighbour_of (get_or vs p x).items ≡ maybe_near (get_or is p 0) ls
near_at is ls vs p x k h =
    let long = length-map vs neighbours_of in
    let wide = length-map is (λ d. maybe_near d ls) in
    let same = ap length k in
    let within : p < length vs = omega (arith, h, long, wide, same) in
    sym (get_or-map neighbours_of vs p x (neighbours_of x) within)
    ∙ ap (λ xs. get_or xs p (neighbours_of x)) k
    ∙ get_or-map (λ d. maybe_near d ls) is p 0 (neighbours_of x) h

-- a neighbour is written at the end of the lists of both ends of a link
pub each_pushed : (is : List ℕ) (ls : List MaybeLink) (l : LinkBound) (vs : List (Vec (ℕ × LinkBound) Global))
    (p q : ℕ) (x y n m : Vec (ℕ × LinkBound) Global) → map neighbours_of vs ≡ near_each is ls → Rises is → l.a < l.b
    → p < length is → q < length is → get_or is p 0 ≡ l.a → get_or is q 0 ≡ l.b
    → n.items ≡ (get_or vs p x).items ++ (l.b, l) ∷ [] → m.items ≡ (get_or (set vs p n) q y).items ++ (l.a, l) ∷ []
    → map neighbours_of (set (set vs p n) q m) ≡ near_each is (ls ++ maybe_link_of l ∷ [])
each_pushed is ls l vs p q x y n m k r o h j e g en em =
    let apart : q ≡ p → ⊥ =
    λ w. let u : l.b ≡ l.a = sym g ∙ ap (λ i. get_or is i 0) w ∙ e in absurd (omega (arith, o, u)) in
    let first : neighbours_of n ≡ maybe_near l.a ls ++ (l.b, maybe_link_of l) ∷ [] =
    ap (map neighbour_of) en
    ∙ map-append neighbour_of (get_or vs p x).items ((l.b, l) ∷ [])
    ∙ ap (λ ns. ns ++ (l.b, maybe_link_of l) ∷ []) (near_at is ls vs p x k h ∙ ap (λ d. maybe_near d ls) e) in
    let second : neighbours_of m ≡ maybe_near l.b ls ++ (l.a, maybe_link_of l) ∷ [] =
    ap (map neighbour_of) (em ∙ ap (λ (v : Vec (ℕ × LinkBound) Global). v.items ++ (l.a, l) ∷ [])
    (get_or-set_other vs p q n y apart))
    ∙ map-append neighbour_of (get_or vs q y).items ((l.a, l) ∷ [])
    ∙ ap (λ ns. ns ++ (l.a, maybe_link_of l) ∷ []) (near_at is ls vs q y k j ∙ ap (λ d. maybe_near d ls) g) in
    map-set neighbours_of (set vs p n) q m
    ∙ ap (λ zs. set zs q (neighbours_of m)) (map-set neighbours_of vs p n)
    ∙ ap (λ zs. set (set zs p (neighbours_of n)) q (neighbours_of m)) k
    ∙ ap (λ z. set (set (near_each is ls) p z) q (neighbours_of m)) first
    ∙ ap (λ z. set (set (near_each is ls) p (maybe_near l.a ls ++ (l.b, maybe_link_of l) ∷ [])) q z) second
    ∙ each_more is ls (maybe_link_of l) p q r o h j e g
