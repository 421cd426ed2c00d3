-- The neighbours of a network within an envelope take seats, so what they fire to lies in what bounds fire to.
use Rattle.std.proofs.Common.{◌≡◌, ◌≤◌, ℕ, List, [], ◌∷◌, map, refl, sym, ◌∙◌, ap, subst, Bool, true, false, ◌&&◌}
use Rattle.std.proofs.Common.{Option, Some, None, option_map, if◌then◌else◌}
use Rattle.std.specs.Prelude.{nat_eq}
use Rattle.fc_values.specs.Types.{Declarations}
use Rattle.fc_values.specs.Fields.{ValueLocal, Rises, is_in}
use Rattle.fc_values.specs.Trees.{TreeExport}
use Rattle.fc_values.proofs.Rising.{rises_apart, rises_tail}
use Rattle.fc_nodes.specs.Program.{Unfolding}
use Rattle.device_eval.specs.Copies.{near_tree, env_of, situation_of}
use Rattle.topology.specs.Networks.{Edge, near_in}
use Rattle.topology.specs.Nearby.{neighbour_numbers}
use Rattle.topology.proofs.Lemmas.{AllNear, near_fits, near_rises}
use Rattle.firing_core.specs.Cores.{Map, near_with, near_copies, copy_of}
use Rattle.value_bounds.specs.BoundBuiltins.{AreApart, maybe_numbers}
use Rattle.value_bounds.proofs.Values.{nat_same}
use Rattle.bound_firing.specs.BoundTrees.{TreeLies}
use Rattle.bound_firing.proofs.Firings.{firings_land, local_lies}
use Rattle.bound_firing.specs.Seats.{OwnSeen, SeenNear, no_seat, takes, free, Sees, maybes}
use Rattle.bound_firing.specs.Firing.{bound_of}
use Rattle.envelopes.specs.Envelopes.{MaybeLink, Envelope, ids, MayLive, bounds_in, maybe_near, near_ids, least_edge}
use Rattle.envelopes.specs.Envelopes.{LinksWithin, no_link, is_linked, is_unlinked}
use Rattle.bound_rounds.specs.Rounds.{BoundTable, seat_in, seats_in, situation_in}
use Rattle.settle_rounds.specs.Within.{MaybeLies, FiringsLandWithin}
use Rattle.envelopes.proofs.Within.{may_live_of, inputs_within, near_same, EndsLive, ends_live, and_right}

seat_numbers : (table : BoundTable) (ns : List (ℕ × MaybeLink))
    → maybe_numbers (maybes (map (seat_in table) ns)) ≡ near_ids ns
seat_numbers table [] = refl
seat_numbers table (n ∷ ns) = ap (λ ks. n.0 ∷ ks) (seat_numbers table ns)

-- seats are apart where numbers rise and aren't the device
apart_test : (a b : ℕ) → (a ≡ b → ⊥) → nat_eq a b ≡ false
apart_test a b h = by_test (nat_eq a b) refl
  where
    by_test : (c : Bool) → nat_eq a b ≡ c → nat_eq a b ≡ false
    by_test false q = q
    by_test true q = absurd (h (nat_same a b q))

seats_apart : (table : BoundTable) (D : Declarations) (ds : List ℕ) (d : ℕ) (ns : List (ℕ × MaybeLink))
    (es : List (ℕ × ℕ)) → near_ids ns ≡ neighbour_numbers es → AllNear D ds d es
    → Rises (neighbour_numbers es) → AreApart d (maybes (map (seat_in table) ns))
seats_apart table D ds d [] es q a u = tt
seats_apart table D ds d (n ∷ ns) [] q a u = absurd cc
seats_apart table D ds d (n ∷ ns) (e ∷ es) q a u =
    let first : n.0 ≡ e.0 = cc in
    let rest : near_ids ns ≡ neighbour_numbers es = cc in (
      apart_test n.0 d (λ k. a.0.other (sym first ∙ k)),
      ap (is_in n.0) (seat_numbers table ns ∙ rest)
          ∙ subst (λ k. is_in k (neighbour_numbers es) ≡ false) (sym first) (rises_apart e.0 (neighbour_numbers es) u),
      seats_apart table D ds d ns es rest a.1 (rises_tail e.0 (neighbour_numbers es) u),
    )

module _ (U : Unfolding) (E : Envelope) (table : BoundTable) (f : Map TreeExport)
    (within : (d : ℕ) → MayLive E d → MaybeLies U (table d) (f d)) where
  abbrev SeenBy : List (ℕ × MaybeLink) → List (ℕ × ℕ) → Type 0
  SeenBy ms ns = SeenNear (TreeLies U.main) (map (seat_in table) ms) (map near_tree (near_copies f ns))

  -- a neighbour takes its seat, if it has an export
  one_seen : (m : MaybeLink) (k i w : ℕ) (ms : List (ℕ × MaybeLink)) (ns : List (ℕ × ℕ)) → i ≡ k → MayLive E k
      → m.least ≤ w → w ≤ m.greatest → SeenBy ms ns → SeenBy ((k, m) ∷ ms) ((i, w) ∷ ns)
  one_seen m k i w ms ns same l lo hi s =
      by_export (f i) (subst (λ x. MaybeLies U (table k) (f x)) (sym same) (within k l))
    where
      by_export : (o : Option TreeExport) → MaybeLies U (table k) o
          → SeenNear (TreeLies U.main) (map (seat_in table) ((k, m) ∷ ms))
          (map near_tree (near_with (i, w) o (near_copies f ns)))
      by_export None h = free (seat_in table (k, m)) (and_right m.sure (table k).sure h) s
      by_export (Some e) h = takes (seat_in table (k, m)) (near_tree (record { device = i; weight = w; export = e }))
          (record { device = same; weight = (lo, hi); fits = h.tree }) s

  none_seen : (m : MaybeLink) (k : ℕ) (ms : List (ℕ × MaybeLink)) (ns : List (ℕ × ℕ)) → m.sure ≡ false → SeenBy ms ns
      → SeenBy ((k, m) ∷ ms) ns
  none_seen m k ms ns u s = free (seat_in table (k, m)) (let g : (m.sure && (table k).sure) ≡ false = rw u refl in g) s

  near_seen : (d : ℕ) {ms : List MaybeLink} {ls : List Edge} → EndsLive E ms → LinksWithin ms ls
      → SeenBy (maybe_near d ms) (near_in d ls)
  near_seen d v no_link = no_seat
  near_seen d v (is_unlinked m {ms} {ls} u r) = by_tests (nat_eq m.a d) (nat_eq m.b d) (near_seen d v.2 r)
    where
      by_tests : (p q : Bool) → SeenBy (maybe_near d ms) (near_in d ls)
          → SeenBy (if p then (m.b, m) ∷ maybe_near d ms
          else (if q then (m.a, m) ∷ maybe_near d ms else maybe_near d ms)) (near_in d ls)
      by_tests true q s = none_seen m m.b (maybe_near d ms) (near_in d ls) u s
      by_tests false true s = none_seen m m.a (maybe_near d ms) (near_in d ls) u s
      by_tests false false s = s
  near_seen d v (is_linked m l {ms} {ls} w r) =
      by_tests (nat_eq m.a d) (nat_eq m.b d) refl refl (ap (λ k. nat_eq k d) w.a) (ap (λ k. nat_eq k d) w.b)
      (near_seen d v.2 r)
    where
      by_tests : (p q : Bool) → nat_eq m.a d ≡ p → nat_eq m.b d ≡ q → nat_eq l.a d ≡ nat_eq m.a d
          → nat_eq l.b d ≡ nat_eq m.b d → SeenBy (maybe_near d ms) (near_in d ls)
          → SeenBy (if nat_eq m.a d then (m.b, m) ∷ maybe_near d ms
          else (if nat_eq m.b d then (m.a, m) ∷ maybe_near d ms else maybe_near d ms))
          (if nat_eq l.a d then (l.b, l.weight) ∷ near_in d ls
          else (if nat_eq l.b d then (l.a, l.weight) ∷ near_in d ls else near_in d ls))
      by_tests true q e g e' g' s = let h = e' ∙ e in
          rw (e, h) (one_seen m m.b l.b l.weight (maybe_near d ms) (near_in d ls) w.b v.1 w.above w.below s)
      by_tests false true e g e' g' s = let h = e' ∙ e in let k = g' ∙ g in
          rw (e, g, h, k) (one_seen m m.a l.a l.weight (maybe_near d ms) (near_in d ls) w.a v.0 w.above w.below s)
      by_tests false false e g e' g' s = let h = e' ∙ e in let k = g' ∙ g in rw (e, g, h, k) s

  own_seen : (d : ℕ) (o : Option TreeExport) → MaybeLies U (table d) o
      → OwnSeen (TreeLies U.main) (Some ((table d).sure, (table d).tree)) (option_map (λ (e : TreeExport). e.tree) o)
  own_seen d None h = h
  own_seen d (Some e) h = h.tree

pub firings_land_within : FiringsLandWithin
firings_land_within U E N fits w bounds table at d l e v =
    let is_one : AllNear E.declared (ids E.devices) d (near_in d (map least_edge E.links)) =
    near_fits E.declared (ids E.devices) d (map least_edge E.links) fits.links in
    let rise : Rises (neighbour_numbers (near_in d (map least_edge E.links))) =
    near_rises E.declared (ids E.devices) d (map least_edge E.links) fits.links in
    let seen : Sees (TreeLies U.main) d (seats_in bounds E d) (env_of (copy_of N table d)) = record {
      own = own_seen U E bounds table at d (table d) (at d (may_live_of E N w d l));
      near = near_seen U E bounds table at d (ends_live E E.declared E.links fits.links) w.links;
      apart = seats_apart bounds E.declared (ids E.devices) d (maybe_near d E.links)
          (near_in d (map least_edge E.links)) (near_same d E.links) is_one rise;
    } in
    let r = firings_land (situation_of U.declared (copy_of N table d)) (bounds_in d E.devices) 0 U.main []
    (env_of (copy_of N table d)) (ValueLocal e.value) e.tree [] (seats_in bounds E d)
    (inputs_within d fits.rising w.devices l) tt seen v.main in
    record {
      value = local_lies d (bound_of (situation_in U E d) 0 U.main [] (seats_in bounds E d)).0 e.value r.lies;
      tree = r.kept;
    }
