-- What a network keeps beside its links, after each change.
use Rattle.std.proofs.Common.{◌≡◌, ◌≢◌, ℕ, ◌*◌, ◌<◌, ◌≤◌, List, [], length, map, get_or, set, sym, ◌∙◌, ap, arith, nat_lt, None}
use Rattle.std.specs.List.{insert, remove, prefix_len}
use Rattle.std.proofs.lemmas.List.{length-map, get_or-map, map-set, get_or-set_other}
use Rattle.arrayvec.specs.ArrayVec.{ArrayVec}
use Rattle.fc_values.specs.Values.{LocalValue}
use Rattle.topology.specs.declared.types.Device.{Device}
use Rattle.topology.specs.Networks.{NetDevice, Network, net_device_of, IsNetwork, numbers, near_in, near}
use Rattle.topology.specs.Changes.{drop_links, insert_device, link_fault, linked, unlinked, nth_fault, with_input, join_fault, joined, leave_fault, left}
use Rattle.topology.specs.Nearby.{near_each, items_of, drop_near, insert_near, drawn, AtPlace, AtEnds, IsDrawn}
use Rattle.topology.proofs.Lists.{map_insert}
use Rattle.topology.proofs.Rooms.{few_links}
use Rattle.topology.proofs.Drawing.{drawn_is, drawn_kept}
use Rattle.topology.proofs.Devices.{put_numbers}
use Rattle.topology.proofs.Changed.{can_link, link_fits, linked_network, unlinked_network, input_network, can_join, joined_network, can_leave, left_network}
use Rattle.topology.proofs.NearEach.{each_put, each_drop, each_leave, each_join, near_put, map_remove, remove_device}
use Rattle.fc_values.proofs.Lists.{insert_length, insert_prefix}

pub numbers_long : (ns : List NetDevice) → length (numbers ns) ≡ length ns
numbers_long ns = length-map ns (λ (n : NetDevice). n.id)

abbrev Nearby : Type 0
Nearby = ArrayVec (ℕ × ℕ)

module _ (n : Network) (near_lists : List Nearby) (k : IsDrawn n (map items_of near_lists)) where
  pub lists_long : length near_lists ≡ length n.devices
  lists_long = sym (length-map near_lists items_of) ∙ ap length k.near ∙ length-map (numbers n.devices) (λ d. near_in d n.links) ∙ numbers_long n.devices

  pub list_within : (d at : ℕ) → AtPlace n d at → at < length near_lists
  list_within d at p = let h = p.within in omega (arith, lists_long)

  pub place_within : (d at : ℕ) → AtPlace n d at → at < length (numbers n.devices)
  place_within d at p = let h = p.within in omega (arith, numbers_long n.devices)

  -- the list at the place of a device is that of its neighbours
  pub list_at : (d at : ℕ) (x : Nearby) → AtPlace n d at → (get_or near_lists at x).items ≡ near n d
  list_at d at x p =
      sym (get_or-map items_of near_lists at x x.items (list_within d at p))
      ∙ ap (λ xs. get_or xs at x.items) k.near
      ∙ get_or-map (λ e. near_in e n.links) (numbers n.devices) at 0 x.items (place_within d at p)
      ∙ ap (λ e. near_in e n.links) p.is

  apart_places : (a b : ℕ) (at : ℕ × ℕ) → AtEnds n a b at → a ≢ b → at.1 ≢ at.0
  apart_places a b at e u q = u (sym e.first.is ∙ ap (λ i. get_or (numbers n.devices) i 0) (sym q) ∙ e.second.is)

  -- and that of another device stays when one is written
  pub list_other : (a b : ℕ) (at : ℕ × ℕ) (r x : Nearby) → AtEnds n a b at → a ≢ b → (get_or (set near_lists at.0 r) at.1 x).items ≡ near n b
  list_other a b at r x e u = ap items_of (get_or-set_other near_lists at.0 at.1 r x (apart_places a b at e u)) ∙ list_at b at.1 x e.second

  two_set : (i j : ℕ) (r s : Nearby) (xs ys : List (ℕ × ℕ)) → r.items ≡ xs → s.items ≡ ys → map items_of (set (set near_lists i r) j s) ≡ set (set (near_each (numbers n.devices) n.links) i xs) j ys
  two_set i j r s xs ys e f =
      map-set items_of (set near_lists i r) j s
      ∙ ap (λ zs. set zs j s.items) (map-set items_of near_lists i r)
      ∙ ap (λ zs. set (set zs i r.items) j s.items) k.near
      ∙ ap (λ z. set (set (near_each (numbers n.devices) n.links) i z) j s.items) e
      ∙ ap (λ z. set (set (near_each (numbers n.devices) n.links) i xs) j z) f

  -- ---- links

  pub near_room : (a b w : ℕ) → link_fault n a b w ≡ None → (length (drop_near b (near n a)) < 32) × (length (drop_near a (near n b)) < 32)
  near_room a b w e =
      let m = linked_network n a b w k.network e in
      let c = can_link n a b w e in
      let t = near_put n.declared (numbers n.devices) n.links k.network.links a b w (link_fits n a b w c) in
      let x = m.degree a in
      let y = m.degree b in
      (omega (arith, ap length t.0, insert_length (λ m. nat_lt m.0 b) (b, w) (drop_near b (near n a))), omega (arith, ap length t.1, insert_length (λ m. nat_lt m.0 a) (a, w) (drop_near a (near n b))))

  pub put_kept : (a b w : ℕ) (at : ℕ × ℕ) (r s : Nearby) → AtEnds n a b at → link_fault n a b w ≡ None
      → r.items ≡ insert_near b w (drop_near b (near n a)) → s.items ≡ insert_near a w (drop_near a (near n b))
      → IsDrawn (linked n a b w) (map items_of (set (set near_lists at.0 r) at.1 s))
  put_kept a b w at r s p e f g =
      let c = can_link n a b w e in
      record {
        network = linked_network n a b w k.network e;
        near = two_set at.0 at.1 r s _ _ f g ∙ each_put n.declared (numbers n.devices) n.links k.network.links k.network.rising at.0 at.1 a b (place_within a at.0 p.first) (place_within b at.1 p.second) p.first.is p.second.is w (link_fits n a b w c);
      }

  pub drop_kept : (a b : ℕ) (at : ℕ × ℕ) (r s : Nearby) → AtEnds n a b at → a ≢ b
      → r.items ≡ drop_near b (near n a) → s.items ≡ drop_near a (near n b)
      → IsDrawn (unlinked n a b) (map items_of (set (set near_lists at.0 r) at.1 s))
  drop_kept a b at r s p u f g =
      record {
        network = unlinked_network n a b k.network;
        near = two_set at.0 at.1 r s _ _ f g ∙ each_drop n.declared (numbers n.devices) n.links k.network.links k.network.rising at.0 at.1 a b (place_within a at.0 p.first) (place_within b at.1 p.second) p.first.is p.second.is u;
      }

  -- ---- devices

  pub input_kept : (d i : ℕ) (v : LocalValue) → nth_fault n.declared.inputs i v ≡ None → IsDrawn (with_input n d i v) (map items_of near_lists)
  input_kept d i v e = record {
    network = input_network n d i v k.network e;
    near = k.near ∙ ap (λ ds. near_each ds n.links) (sym (put_numbers d i v n.devices));
  }

  pub join_kept : (x : NetDevice) (at : ℕ) (new : List Nearby) (empty : Nearby) → x.id ≤ 65535 → join_fault n x ≡ None
      → insert n.devices at x ≡ insert_device x n.devices → new ≡ insert near_lists at empty → empty.items ≡ []
      → IsDrawn (joined n x) (map items_of new)
  join_kept x at new empty small e p q f =
      let c = can_join n x e in
      record {
        network = joined_network n x k.network small e;
        near =
            ap (map items_of) q ∙ map_insert items_of near_lists at empty
            ∙ ap (λ ns. insert (map items_of near_lists) at ns) f ∙ ap (λ xs. insert xs at []) k.near
            ∙ each_join n.declared (numbers n.devices) n.links k.network.links x.id at c.new
            ∙ ap (λ ds. near_each ds n.links) (sym (map_insert (λ (d : NetDevice). d.id) n.devices at x) ∙ ap numbers p);
      }

  -- the draft with one device more
  pub add_kept : (x : Device) (at : ℕ) (xs ys : List Device) (new : List Nearby) (empty : Nearby) → n.devices ≡ map net_device_of xs → x.id ≤ 65535 → join_fault n (net_device_of x) ≡ None
      → at ≡ prefix_len (λ (d : NetDevice). nat_lt d.id x.id) (map net_device_of xs) → ys ≡ insert xs at x → new ≡ insert near_lists at empty → empty.items ≡ []
      → IsDrawn (drawn n.declared (map net_device_of ys) (map items_of new)) (map items_of new) × (drawn n.declared (map net_device_of ys) (map items_of new) ≡ joined n (net_device_of x))
  add_kept x at xs ys new empty same small e place put near none =
      let p = λ (d : NetDevice). nat_lt d.id x.id in
      let order : insert (map net_device_of xs) at (net_device_of x) ≡ insert_device (net_device_of x) (map net_device_of xs) =
      ap (λ k. insert (map net_device_of xs) k (net_device_of x)) place ∙ insert_prefix p (net_device_of x) (map net_device_of xs) in
      let devices : map net_device_of ys ≡ insert_device (net_device_of x) n.devices =
      ap (map net_device_of) put ∙ map_insert net_device_of xs at x ∙ order ∙ ap (insert_device (net_device_of x)) (sym same) in
      let kept = join_kept (net_device_of x) at new empty small e (ap (λ ds. insert ds at (net_device_of x)) same ∙ order ∙ ap (insert_device (net_device_of x)) (sym same)) near none in
      rw devices (drawn_kept (joined n (net_device_of x)) (map items_of new) kept, drawn_is (joined n (net_device_of x)) (map items_of new) kept)

  pub leave_kept : (d at : ℕ) (new : List Nearby) → AtPlace n d at → leave_fault n d ≡ None
      → map items_of new ≡ map (λ ns. drop_near d ns) (map items_of (remove near_lists at))
      → IsDrawn (left n d) (map items_of new)
  leave_kept d at new p e q =
      let c = can_leave n d e in
      record {
        network = left_network n d k.network e;
        near =
            q ∙ ap (map (λ ns. drop_near d ns)) (map_remove items_of near_lists at ∙ ap (λ xs. remove xs at) k.near)
            ∙ each_leave n.declared (numbers n.devices) n.links k.network.links k.network.rising at d (place_within d at p) p.is
            ∙ ap (λ ds. near_each ds (drop_links d n.links)) (sym (map_remove (λ (x : NetDevice). x.id) n.devices at) ∙ ap numbers (remove_device d at n.devices k.network.rising (place_within d at p) p.is));
      }

-- a network has at most 32 links for each device
pub links_few : (n : Network) → IsNetwork n → length n.links ≤ 32 * length n.devices
links_few n net = omega (arith, few_links n.declared (numbers n.devices) n.links net.links net.degree, numbers_long n.devices)
