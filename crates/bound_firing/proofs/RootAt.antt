-- The firing of a program at its root.
use Rattle.std.proofs.Common.{Bool, ◌≡◌, ℕ, zero, suc, ◌<◌, ◌+◌, List, [], ◌∷◌, ◌++◌, length, map, take, refl, sym, ◌∙◌, ap}
use Rattle.std.proofs.Common.{subst, arith, false, Option, Some, None, option_map}
use Rattle.std.proofs.lemmas.List.{length-map, map-append}
use Rattle.std.proofs.Math.Seq.{take-length}
use Rattle.std.specs.List.{All}
use Rattle.std.specs.Prelude.{slice_set, option_to_list}
use Rattle.fc_values.specs.Types.{LocalType, ValueType}
use Rattle.fc_values.specs.BuiltinTypes.{inner}
use Rattle.fc_nodes.specs.declared.nodes.Node.{Node}
use Rattle.fc_nodes.specs.Terms.{Term, Plain, Apply, Nbr, Evolve, If, Let, term_type, Sort, kept, kept_type, kept_types}
use Rattle.fc_nodes.specs.Terms.{nodes_kept_types, term_at, HasNode, Laid}
use Rattle.fc_nodes.specs.Program.{Program, Unfolding, IsProgram}
use Rattle.fc_nodes.specs.Layouts.{LayoutValue, IsLayout}
use Rattle.fc_nodes.proofs.Places.{laid_within}
use Rattle.fc_nodes.proofs.Kept.{kept_none, kept_long, types_step, types_whole}
use Rattle.value_bounds.specs.BoundValues.{BoundValue, Unbounded, anything}
use Rattle.value_bounds.specs.BoundBuiltins.{AnyBound}
use Rattle.value_bounds.specs.declared.bounds.LocalBound.{LocalBound}
use Rattle.value_bounds.specs.References.{local_bound_in, local_bounds_in}
use Rattle.bound_firing.specs.declared.seats.OwnSeat.{OwnSeat}
use Rattle.bound_firing.specs.declared.seats.NearSeat.{NearSeat}
use Rattle.bound_firing.specs.declared.seats.Seats.{Seats}
use Rattle.bound_firing.specs.BoundTrees.{slot_bound, bound_tree_at}
use Rattle.bound_firing.specs.Exports.{any_export, bound_export}
use Rattle.bound_firing.specs.ExportReferences.{OwnIsLong, SlotsAreLong}
use Rattle.bound_firing.specs.Firing.{BoundSituation, local_part, bound_of}
use Rattle.bound_firing.specs.FlatSeats.{FlatSeats, seats_over, OwnHasSlot, NearHaveSlot}
use Rattle.bound_firing.specs.References.{own_seat_in, near_seats_in, flat_seats_in}
use Rattle.bound_firing.proofs.Slots.{slots_at_first}
use Rattle.bound_firing.specs.Walks.{Reach, Can, Did, DidAt, Ready}

-- ---- slots that are cleared

clear_at : (k i : ℕ) (xs : List BoundValue) → k < suc i → (k < i → slot_bound k xs ≡ Unbounded)
    → slot_bound k (slice_set xs i Unbounded) ≡ Unbounded
clear_at k i [] l h = refl
clear_at zero zero (x ∷ xs) l h = refl
clear_at zero (suc i) (x ∷ xs) l h = h (omega arith)
clear_at (suc k) zero (x ∷ xs) l h = absurd (omega arith)
clear_at (suc k) (suc i) (x ∷ xs) l h = clear_at k i xs (omega arith) (λ m. h (omega arith))

pub one_cleared : (xs : List LocalBound) (i : ℕ)
    → ((k : ℕ) → k < i → slot_bound k (local_bounds_in xs) ≡ Unbounded)
    → (k : ℕ) → k < suc i → slot_bound k (slice_set (local_bounds_in xs) i Unbounded) ≡ Unbounded
one_cleared xs i h k l = clear_at k i (local_bounds_in xs) l (h k)

past_all : (k : ℕ) (xs : List BoundValue) → (k < length xs → slot_bound k xs ≡ Unbounded) → slot_bound k xs ≡ Unbounded
past_all k [] h = refl
past_all zero (x ∷ xs) h = h (omega arith)
past_all (suc k) (x ∷ xs) h = past_all k xs (λ l. h (omega arith))

pub all_cleared : (xs : List LocalBound) → ((k : ℕ) → k < length xs → slot_bound k (local_bounds_in xs) ≡ Unbounded)
    → (k : ℕ) → slot_bound k (local_bounds_in xs) ≡ Unbounded
all_cleared xs h k =
    past_all k (local_bounds_in xs) (λ l. h k (omega (arith, l, length-map xs local_bound_in)))

-- ---- what any export keeps

pub one_more_kept : (f : LocalType → BoundValue) (ns : List Node) (p q : ℕ) → q ≡ p + 1 → (s : Sort) (t : ValueType)
    (ks : List ℕ) → HasNode ns p s t ks → {xs ys : List BoundValue} → xs ≡ map f (nodes_kept_types (take p ns))
    → ys ≡ xs ++ map f (option_to_list (kept_type s t)) → ys ≡ map f (nodes_kept_types (take q ns))
one_more_kept f ns p q e s t ks h {xs} {ys} x y =
    let next : suc p ≡ q = omega (arith, e) in
    y ∙ ap (λ zs. zs ++ map f (option_to_list (kept_type s t))) x
    ∙ sym (map-append f (nodes_kept_types (take p ns)) (option_to_list (kept_type s t)))
    ∙ sym (ap (map f) (types_step ns p s t ks h)) ∙ ap (λ i. map f (nodes_kept_types (take i ns))) next

-- the type of a term is that of its node
module _ (ns : List Node) (s : Sort) (t : ValueType) (ks : List ℕ) where
  laid_type : (u : Term) (p : ℕ) → HasNode ns p s t ks → Laid ns p u → term_type u ≡ t
  laid_type (Plain t' v) p h l = cc
  laid_type (Apply t' o ts) p h l = let l0 = l.0 in cc
  laid_type (Nbr t' a) p h l = let l0 = l.0 in cc
  laid_type (Evolve t' v a b) p h l = let l0 = l.0 in cc
  laid_type (If t' x a b) p h l = let l0 = l.0 in cc
  laid_type (Let t' a b) p h l = let l0 = l.0 in cc

module _ (P : Program) (p : IsProgram P) where
  pub root_within : 0 < length P.nodes
  root_within = laid_within P.nodes 0 (term_at P.nodes 0) p.formed.laid

  pub root_type : (s : Sort) (t : ValueType) (ks : List ℕ) → HasNode P.nodes 0 s t ks → term_type (term_at P.nodes 0) ≡ t
  root_type s t ks h = laid_type P.nodes s t ks (term_at P.nodes 0) 0 h p.formed.laid

  pub all_kept : (n : ℕ) → n ≡ length P.nodes → nodes_kept_types (take n P.nodes) ≡ kept_types (term_at P.nodes 0)
  all_kept n e =
      ap (λ i. nodes_kept_types (take i P.nodes)) e ∙ ap nodes_kept_types (take-length P.nodes)
      ∙ types_whole P.nodes p.formed

pub kept_slots : (f : LocalType → BoundValue) (t : Term) (xs : List LocalBound)
    → local_bounds_in xs ≡ map f (kept_types t) → length xs ≡ kept t
kept_slots f t xs e =
    sym (length-map xs local_bound_in) ∙ ap length e ∙ length-map (kept_types t) f ∙ kept_long t

pub any_is : (U : Unfolding) (m : ℕ) (v : BoundValue) (t : LocalType) (bs : List BoundValue) → m ≡ U.declared.ceiling
    → v ≡ anything m t → t ≡ inner (term_type U.main) → bs ≡ map (anything m) (kept_types U.main)
    → record { value = v; tree = bound_tree_at U.main 0 bs; sure = false } ≡ any_export U
any_is U m v t bs e f g h =
    let first = slots_at_first U.declared.ceiling U.main in
    rw (h, f, g, e, first) refl

-- ---- the root

own_reach : (n j : ℕ) (o : Option OwnSeat) → OwnIsLong n o → j < n → OwnHasSlot j (option_map own_seat_in o)
own_reach n j None h l = tt
own_reach n j (Some s) h l = let m = length-map s.slots.now local_bound_in in omega (arith, h, l, m)

near_reach : (n j : ℕ) (ss : List NearSeat) → All (λ (s : NearSeat). length s.slots.now ≡ n) ss → j < n
    → NearHaveSlot j (near_seats_in ss)
near_reach n j [] h l = tt
near_reach n j (s ∷ ss) h l =
    let m = length-map s.slots.now local_bound_in in
    let e = h 0 s (omega arith) in
    (omega (arith, e, l, m), near_reach n j ss (λ k d i. h (suc k) d (omega (arith, i))) l)

pub seats_reach : (n : ℕ) (s : Seats) (xs : List LocalBound) → SlotsAreLong n s xs → Reach n (flat_seats_in s)
seats_reach n s xs h = record { each = λ j l. (own_reach n j s.own h.own l, near_reach n j s.near.items h.near l) }

module _ (P : Program) (p : IsProgram P) (lay : LayoutValue) (layout : IsLayout P.nodes lay) (F : FlatSeats)
    (xs : List BoundValue) where
  pub root_ready : ((k : ℕ) → slot_bound k xs ≡ Unbounded) → length xs ≡ kept (term_at P.nodes 0)
      → Reach (length xs) F → Ready P.nodes lay 0 F xs
  root_ready clear long reach =
      let can : Can (term_at P.nodes 0) 0 F xs = record {
        room = record { clear = λ j l u. clear j; within = omega (arith, long) };
        reach = reach;
      } in
      record {
        can = subst (λ k. Can (term_at P.nodes 0) k F xs) (sym (kept_none P.nodes)) can;
        stands = record {
          layout = layout;
          formed = p.formed;
          laid = p.formed.laid;
          within = root_within P p;
        };
      }

  pub root_done : (sure : Bool) (S : BoundSituation) (b : AnyBound) (ys : List BoundValue) → DidAt S P.nodes 0 [] F xs b ys
      → record { value = local_part b; tree = bound_tree_at (term_at P.nodes 0) 0 ys; sure = sure }
      ≡ bound_export sure (bound_of S 0 (term_at P.nodes 0) [] (seats_over (term_at P.nodes 0) 0 F))
  root_done sure S b ys did =
      let d : Did S 0 (term_at P.nodes 0) 0 [] F xs b ys =
      subst (λ k. Did S 0 (term_at P.nodes 0) k [] F xs b ys) (kept_none P.nodes) did in
      rw d.gives refl
