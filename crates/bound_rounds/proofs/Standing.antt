-- Crates above cite this module: what tables of bounds in code stand for, place by place; and seats over them.
use Rattle.value_bounds.specs.BoundValues.{BoundValue}
use Rattle.std.proofs.Common.{◌≡◌, ℕ, zero, suc, ◌<◌, ◌≤◌, List, [], ◌∷◌, ◌++◌, length, map, take, get_or, refl, sym}
use Rattle.std.proofs.Common.{◌∙◌, ap, arith, Bool, Some, All, Vec, Global, ◌&&◌}
use Rattle.std.proofs.lemmas.List.{length-map, map-append}
use Rattle.std.proofs.lemmas.List.{take_all}
use Rattle.std.proofs.lemmas.List.Elements.{All-push, All-nil, All-get_or}
use Rattle.std.proofs.Math.Seq.{take-suc}
use Rattle.fc_nodes.specs.Program.{Unfolding}
use Rattle.bound_firing.specs.declared.firing.ExportBound.{ExportBound as FlatBound}
use Rattle.bound_firing.specs.declared.seats.NearSeat.{NearSeat}
use Rattle.bound_firing.specs.BoundTrees.{bound_tree_at}
use Rattle.bound_firing.specs.Exports.{ExportBound, bound_export}
use Rattle.bound_firing.specs.Firing.{bound_of}
use Rattle.bound_firing.specs.FlatSeats.{seat_over}
use Rattle.bound_firing.specs.References.{near_seat_in, near_seats_in}
use Rattle.bound_firing.specs.ExportReferences.{export_bound_in, situation_for}
use Rattle.value_bounds.specs.References.{local_bounds_in}
use Rattle.bound_firing.specs.declared.seats.OwnSeat.{OwnSeat}
use Rattle.bound_firing.specs.declared.seats.Seats.{Seats as CodeSeats}
use Rattle.bound_firing.specs.FlatSeats.{seats_over}
use Rattle.bound_firing.specs.References.{flat_seats_in}
use Rattle.envelopes.specs.Envelopes.{MaybeDevice, MaybeLink, Envelope, ids, surely_lives, bounds_in, maybe_near}
use Rattle.bound_rounds.specs.Rounds.{BoundTable, seat_in, fired_within}
use Rattle.bound_rounds.specs.Tables.{device_at, Stand, HaveSlots, SeeTable}
use Rattle.bound_rounds.proofs.Places.{no_near}

module _ {A B C : Type 0} (f : A → C) (g : B → C) where
  -- lists that are the same by two functions are so place by place
  pub map_at : (xs : List A) (ys : List B) → map f xs ≡ map g ys → (i : ℕ) (a : A) (b : B) → i < length ys
      → f (get_or xs i a) ≡ g (get_or ys i b)
  map_at xs [] e i a b h = absurd (omega arith)
  map_at [] (y ∷ ys) e i a b h = absurd cc
  map_at (x ∷ xs) (y ∷ ys) e zero a b h = cc
  map_at (x ∷ xs) (y ∷ ys) e (suc i) a b h = let r : map f xs ≡ map g ys = cc in map_at xs ys r i a b (omega arith)

  pub at_map : (b : B) (xs : List A) (ys : List B) → length xs ≡ length ys
      → ((i : ℕ) (a : A) → i < length ys → f (get_or xs i a) ≡ g (get_or ys i b)) → map f xs ≡ map g ys
  at_map b [] [] l h = refl
  at_map b [] (y ∷ ys) l h = absurd (omega (arith, l))
  at_map b (x ∷ xs) [] l h = absurd (omega (arith, l))
  at_map b (x ∷ xs) (y ∷ ys) l h =
      let e : f x ≡ g y = h 0 x (omega arith) in
      let r = at_map b xs ys (omega (arith, l)) (λ i a k. h (suc i) a (omega (arith, k))) in
      rw (e, r) refl

pub many_numbers : (E : Envelope) → length (ids E.devices) ≡ length E.devices
many_numbers E = length-map E.devices (λ (m : MaybeDevice). m.id)

module _ (U : Unfolding) (E : Envelope) (table : BoundTable) (xs : List FlatBound) where
  pub stand_at : Stand U E table xs → (i : ℕ) (x : FlatBound) → i < length E.devices
      → export_bound_in U (get_or xs i x) ≡ table (device_at E i)
  stand_at s i x h = map_at (export_bound_in U) table xs (ids E.devices) s i x 0
      (let m = many_numbers E in omega (arith, h, m))

  pub at_stand : length xs ≡ length E.devices → ((i : ℕ) (x : FlatBound) → i < length E.devices
      → export_bound_in U (get_or xs i x) ≡ table (device_at E i)) → Stand U E table xs
  at_stand l h = let m = many_numbers E in
      at_map (export_bound_in U) table 0 xs (ids E.devices) (omega (arith, l, m))
      (λ i x k. h i x (omega (arith, k, m)))

-- a seat is that of a neighbour over a bound
pub record IsSeatOf (n : ℕ × MaybeLink) (b : FlatBound) (s : NearSeat) : Type 0 where
  pub device : s.device ≡ n.0
  pub least : s.least ≡ n.1.least
  pub greatest : s.greatest ≡ n.1.greatest
  pub sure : s.sure ≡ (n.1.sure && b.sure)
  pub slots : s.slots.now ≡ b.slots.items

-- it stands for that of the neighbour over a table
near_seat : (U : Unfolding) (E : Envelope) (table : BoundTable) (xs : List FlatBound) → Stand U E table xs → (i : ℕ)
    (b : FlatBound) (n : ℕ × MaybeLink) (s : NearSeat) → i < length E.devices → b ≡ get_or xs i b
    → device_at E i ≡ n.0 → IsSeatOf n b s → seat_over U.main 0 (near_seat_in s) ≡ seat_in table n
near_seat U E table xs t i b n s h is at o =
    let e : export_bound_in U b ≡ table n.0 = ap (export_bound_in U) is ∙ stand_at U E table xs t i b h
    ∙ ap table at in
    let device = o.device in
    let least = o.least in
    let greatest = o.greatest in
    let sure : s.sure ≡ (n.1.sure && (table n.0).sure) =
    o.sure ∙ ap (λ (x : ExportBound). n.1.sure && x.sure) e in
    let tree : bound_tree_at U.main 0 (local_bounds_in s.slots.now) ≡ (table n.0).tree =
    ap (λ ys. bound_tree_at U.main 0 (local_bounds_in ys)) o.slots ∙ ap (λ (x : ExportBound). x.tree) e in
    rw (device, least, greatest, sure, tree) refl

-- one seat more
pub seats_more : (U : Unfolding) (table : BoundTable) (ss : List NearSeat) (s : NearSeat) (ns : List (ℕ × MaybeLink))
    (k : ℕ) → k < length ns
    → map (seat_over U.main 0) (near_seats_in ss) ≡ map (seat_in table) (take k ns)
    → seat_over U.main 0 (near_seat_in s) ≡ seat_in table (get_or ns k no_near)
    → map (seat_over U.main 0) (near_seats_in (ss ++ s ∷ [])) ≡ map (seat_in table) (take (suc k) ns)
seats_more U table ss s ns k h e q =
    ap (map (seat_over U.main 0)) (map-append near_seat_in ss (s ∷ []))
    ∙ map-append (seat_over U.main 0) (near_seats_in ss) (near_seat_in s ∷ [])
    ∙ ap (λ ys. ys ++ seat_over U.main 0 (near_seat_in s) ∷ []) e
    ∙ ap (λ y. map (seat_in table) (take k ns) ++ y ∷ []) q
    ∙ sym (map-append (seat_in table) (take k ns) (get_or ns k no_near ∷ []))
    ∙ ap (map (seat_in table)) (sym (take-suc ns k no_near h))

-- ---- seats of the first neighbours of a device

abbrev Long : ℕ → NearSeat → Type 0
Long n s = length s.slots.now ≡ n

pub record NearSeen (E : Envelope) (xs : List FlatBound) (d k : ℕ) (ss : List NearSeat) : Type 0 where
  pub seen : (U : Unfolding) (table : BoundTable) → Stand U E table xs
      → map (seat_over U.main 0) (near_seats_in ss) ≡ map (seat_in table) (take k (maybe_near d E.links))
  pub long : (n : ℕ) → HaveSlots n xs → All (λ (s : NearSeat). length s.slots.now ≡ n) ss

pub none_seen : (E : Envelope) (xs : List FlatBound) (d : ℕ) → NearSeen E xs d 0 []
none_seen E xs d = record { seen = λ U table s. refl; long = λ n h. All-nil (Long n) }

module _ (E : Envelope) (xs : List FlatBound) (many : length xs ≡ length E.devices) (d k at : ℕ) (ss : List NearSeat)
    (s : NearSeat) (b : FlatBound) where
  pub seen_next : k < length (maybe_near d E.links) → at < length E.devices → b ≡ get_or xs at b
      → device_at E at ≡ (get_or (maybe_near d E.links) k no_near).0
      → IsSeatOf (get_or (maybe_near d E.links) k no_near) b s → NearSeen E xs d k ss
      → NearSeen E xs d (suc k) (ss ++ s ∷ [])
  seen_next h l is place o seen = record {
    seen = λ U table t.
        seats_more U table ss s (maybe_near d E.links) k h (seen.seen U table t)
        (near_seat U E table xs t at b (get_or (maybe_near d E.links) k no_near) s l is place o);
    long = λ n h.
        let e = All-get_or (λ (x : FlatBound). length x.slots.items ≡ n) xs at b (omega (arith, l, many)) h in
        All-push (Long n) ss s (seen.long n h) (ap length o.slots ∙ ap (λ (x : FlatBound). length x.slots.items) is
        ∙ e);
  }

-- with the own seat
module _ (E : Envelope) (xs : List FlatBound) (many : length xs ≡ length E.devices) (p k : ℕ) (b : FlatBound)
    (o : OwnSeat) (v : Vec NearSeat Global) where
  pub see_table : p < length E.devices → b ≡ get_or xs p b → o.sure ≡ b.sure → o.slots.now ≡ b.slots.items
      → length (maybe_near (device_at E p) E.links) ≤ k
      → NearSeen E xs (device_at E p) k v.items → SeeTable E xs (device_at E p) (record { own = Some o; near = v })
  see_table h is sure slots all seen = record {
    seen = λ U table t.
        let e : export_bound_in U b ≡ table (device_at E p) = ap (export_bound_in U) is
        ∙ stand_at U E table xs t p b h in
        let a : o.sure ≡ (table (device_at E p)).sure = sure ∙ ap (λ (x : ExportBound). x.sure) e in
        let q : bound_tree_at U.main 0 (local_bounds_in o.slots.now) ≡ (table (device_at E p)).tree =
        ap (λ ys. bound_tree_at U.main 0 (local_bounds_in ys)) slots ∙ ap (λ (x : ExportBound). x.tree) e in
        let ns = maybe_near (device_at E p) E.links in
        let r : map (seat_over U.main 0) (near_seats_in v.items) ≡ map (seat_in table) ns =
        seen.seen U table t ∙ ap (map (seat_in table)) (take_all k ns all) in
        rw (a, q, r) refl;
    own = λ n s.
        let e = All-get_or (λ (x : FlatBound). length x.slots.items ≡ n) xs p b (omega (arith, h, many)) s in
        ap length slots ∙ ap (λ (x : FlatBound). length x.slots.items) is ∙ e;
    near = λ n s. seen.long n s;
  }

-- the firing over seats of a table is that over the table
pub fired_over : (U : Unfolding) (E : Envelope) (table : BoundTable) (xs : List FlatBound) (d device : ℕ)
    (inputs : List BoundValue) (sure : Bool) (seats : CodeSeats) → device ≡ d → inputs ≡ bounds_in d E.devices
    → sure ≡ surely_lives E d → Stand U E table xs → SeeTable E xs d seats
    → bound_export sure (bound_of (situation_for U.declared device inputs) 0 U.main []
    (seats_over U.main 0 (flat_seats_in seats))) ≡ fired_within U E table d
fired_over U E table xs d device inputs sure seats e q p t s = let r = s.seen U table t in rw (e, q, p, r) refl
