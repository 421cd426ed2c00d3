-- Whether a device has a seat, as code asks it.
use Rattle.std.proofs.Common.{◌≡◌, ℕ, ◌<◌, List, [], ◌∷◌, length, get_or, refl, sym, ap, arith}
use Rattle.std.proofs.Common.{Bool, true, ◌||◌, ◌&&◌, nat_eq}
use Rattle.std.specs.List.{list_any}
use Rattle.std.proofs.lemmas.List.Recursion.{or_at}
use Rattle.bound_firing.specs.declared.seats.NearSeat.{NearSeat}
use Rattle.bound_firing.specs.Seats.{is_there, is_sure}
use Rattle.bound_firing.specs.FlatSeats.{flat_maybes}
use Rattle.bound_firing.specs.References.{near_seats_in}

abbrev pub seat_is : ℕ → NearSeat → Bool
seat_is k s = nat_eq k s.device

abbrev pub sure_seat_is : ℕ → NearSeat → Bool
sure_seat_is k s = nat_eq k s.device && s.sure

pub any_there : (k : ℕ) (ss : List NearSeat) → list_any (seat_is k) ss ≡ is_there k (flat_maybes (near_seats_in ss))
any_there k [] = refl
any_there k (s ∷ ss) = ap (λ (b : Bool). nat_eq k s.device || b) (any_there k ss)

pub any_sure : (k : ℕ) (ss : List NearSeat)
    → list_any (sure_seat_is k) ss ≡ is_sure k (flat_maybes (near_seats_in ss))
any_sure k [] = refl
any_sure k (s ∷ ss) = ap (λ (b : Bool). (nat_eq k s.device && s.sure) || b) (any_sure k ss)

module _ (k : ℕ) (ss : List NearSeat) (i : ℕ) (s : NearSeat) (at : s ≡ get_or ss i s) (within : i < length ss) where
  is_it : s.device ≡ k → nat_eq k s.device ≡ true
  is_it e = let same : nat_eq k k ≡ true = grind arith in rw e same

  pub seat_there : s.device ≡ k → true ≡ is_there k (flat_maybes (near_seats_in ss))
  seat_there e =
      let here : seat_is k (get_or ss i s) ≡ true = rw (← at) (is_it e) in
      let is = or_at (λ rs. is_there k (flat_maybes (near_seats_in rs))) (seat_is k) refl (λ r rs. refl) in
      sym (is ss i s within here)

  pub seat_sure : s.device ≡ k → s.sure ≡ true → true ≡ is_sure k (flat_maybes (near_seats_in ss))
  seat_sure e u =
      let it = is_it e in
      let here : sure_seat_is k (get_or ss i s) ≡ true = rw (← at) (rw (it, u) refl) in
      let is = or_at (λ rs. is_sure k (flat_maybes (near_seats_in rs))) (sure_seat_is k) refl (λ r rs. refl) in
      sym (is ss i s within here)
