-- What holds of each of some last bounds.
use Rattle.std.proofs.Common.{ℕ, ◌≡◌, true, nat_eq, List, [], ◌∷◌, map, refl, All}
use Rattle.std.proofs.lemmas.Bool.{or_right}
use Rattle.std.proofs.lemmas.List.Elements.{All-nil, All-cons, All-head, All-tail}
use Rattle.value_bounds.proofs.Values.{itself}
use Rattle.fc_values.specs.Fields.{is_in}
use Rattle.last_bounds.specs.LastBounds.{LastBound}

abbrev pub devices : List LastBound → List ℕ
devices ls = map (λ (l : LastBound). l.device) ls

pub all_of : (P Q : LastBound → Type 0) (ls : List LastBound)
    → ((l : LastBound) → is_in l.device (devices ls) ≡ true → P l → Q l) → All P ls → All Q ls
all_of P Q [] f h = All-nil Q
all_of P Q (l ∷ ls) f h =
    let own : is_in l.device (devices (l ∷ ls)) ≡ true = rw (itself l.device) refl in
    All-cons Q l ls (f l own (All-head P l ls h))
    (all_of P Q ls (λ m there. f m (or_right (nat_eq m.device l.device) (is_in m.device (devices ls)) there))
    (All-tail P l ls h))
