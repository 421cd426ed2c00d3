-- One mark written is the mark of its device moved.
use Rattle.std.proofs.Common.{◌≡◌, ◌<◌, ◌≤◌, ◌+◌, ℕ, zero, suc, Bool, true, false, nat_eq, nat_lt, leb, leb-true, leb-false, ◌&&◌, List, [], ◌∷◌, length, get_or, set, if◌then◌else◌, refl, sym, ap, subst, ◌∙◌, eqb-true, eq-eqb, arith}
use Rattle.fc_values.specs.Fields.{Rises}
use Rattle.round_count.specs.Marks.{moved, wanting}
use Rattle.round_count.proofs.Rising.{later_above, rises_rest, rises_once}

-- no device has both the number and the mark
abbrev pub NoMark : ℕ → ℕ → List ℕ → List ℕ → Type 0
NoMark e from ds ms = (j : ℕ) → j < length ds → get_or ds j 0 ≡ e → get_or ms j 0 ≡ from → ⊥

stays : (p q : Bool) (to m : ℕ) → (p ≡ true → q ≡ true → ⊥) → (if p && q then to else m) ≡ m
stays true true to m h = absurd (h refl refl)
stays true false to m h = refl
stays false q to m h = refl

pub moved_none : (e from to : ℕ) (ds ms : List ℕ) → length ms ≡ length ds → NoMark e from ds ms → moved e from to ds ms ≡ ms
moved_none e from to [] [] l h = refl
moved_none e from to [] (m ∷ ms) l h = absurd (omega arith)
moved_none e from to (d ∷ ds) [] l h = absurd (omega arith)
moved_none e from to (d ∷ ds) (m ∷ ms) l h =
    let head = stays (nat_eq m from) (nat_eq d e) to m (λ p q. h 0 (omega arith) (eqb-true d e q) (eqb-true m from p)) in
    let rest = moved_none e from to ds ms (omega arith) (λ j k p q. h (suc j) (omega arith) p q) in
    rw (head, rest) refl

pub moved_set : (e from to : ℕ) (ds ms : List ℕ) (at : ℕ) → Rises ds → length ms ≡ length ds → at < length ds → get_or ds at 0 ≡ e → get_or ms at 0 ≡ from → moved e from to ds ms ≡ set ms at to
moved_set e from to [] ms at r l h p q = absurd (omega arith)
moved_set e from to (d ∷ ds) [] at r l h p q = absurd (omega arith)
moved_set e from to (d ∷ ds) (m ∷ ms) zero r l h p q =
    let t : nat_eq m from ≡ true = eq-eqb m from q in
    let u : nat_eq d e ≡ true = eq-eqb d e p in
    let rest = moved_none e from to ds ms (omega arith) (λ j k x y. let a = later_above d ds j r k in omega arith) in
    rw (t, u, rest) refl
moved_set e from to (d ∷ ds) (m ∷ ms) (suc at) r l h p q =
    let a = later_above d ds at r (omega arith) in
    let head = stays (nat_eq m from) (nat_eq d e) to m (λ x y. let z = eqb-true d e y in omega arith) in
    let rest = moved_set e from to ds ms at (rises_rest d ds r) (omega arith) (omega arith) p q in
    rw (head, rest) refl

pub moved_long : (e from to : ℕ) (ds ms : List ℕ) → length ms ≡ length ds → length (moved e from to ds ms) ≡ length ds
moved_long e from to [] ms l = refl
moved_long e from to (d ∷ ds) [] l = absurd (omega arith)
moved_long e from to (d ∷ ds) (m ∷ ms) l = let ih = moved_long e from to ds ms (omega arith) in omega arith

-- the device has another mark, or isn't there
pub no_mark_other : (e from : ℕ) (ds ms : List ℕ) (at : ℕ) → Rises ds → at < length ds → get_or ds at 0 ≡ e → (get_or ms at 0 ≡ from → ⊥) → NoMark e from ds ms
no_mark_other e from ds ms at r h p n j k x y =
    let one : j ≡ at = rises_once ds r j at k h (x ∙ sym p) in
    n (ap (λ i. get_or ms i 0) (sym one) ∙ y)

pub no_mark_absent : (e from : ℕ) (ds ms : List ℕ) (at : ℕ) → ((k : ℕ) → k < at → get_or ds k 0 < e) → ((k : ℕ) → at ≤ k → k < length ds → e < get_or ds k 0) → NoMark e from ds ms
no_mark_absent e from ds ms at low high j k x y = by_order (leb at j) refl
  where
    by_order : (b : Bool) → leb at j ≡ b → ⊥
    by_order true q = let a = high j (leb-true at j q) k in omega arith
    by_order false q = let a = low j (leb-false at j q) in omega arith

-- ---- how many devices want something

pub wanting_set : (ms : List ℕ) (at v : ℕ) → at < length ms → wanting (set ms at v) + (if nat_lt (get_or ms at 0) 2 then 1 else 0) ≡ wanting ms + (if nat_lt v 2 then 1 else 0)
wanting_set [] at v h = absurd (omega arith)
wanting_set (m ∷ ms) zero v h = omega arith
wanting_set (m ∷ ms) (suc at) v h = let ih = wanting_set ms at v (omega arith) in omega arith

-- what one mark written does, where it was another
abbrev IsMove : Bool → ℕ → ℕ → List ℕ → List ℕ → Type 0
IsMove r from to old new = r ≡ true → (at : ℕ) × (at < length old) × (get_or old at 0 ≡ from) × (new ≡ set old at to)

-- a firing is begun: its end is wanted yet
pub wanting_begun : (r : Bool) (old new : List ℕ) → (r ≡ false → new ≡ old) → IsMove r 0 1 old new → wanting new + 0 ≡ wanting old
wanting_begun true old new same move =
    let m = move refl in
    let w = wanting_set old m.0 1 m.1 in
    let v : wanting (set old m.0 1) + (if nat_lt 0 2 then 1 else 0) ≡ wanting old + 1 = subst (λ n. wanting (set old m.0 1) + (if nat_lt n 2 then 1 else 0) ≡ wanting old + 1) m.2 w in
    let x = ap wanting m.3 in
    omega arith
wanting_begun false old new same move = let x = ap wanting (same refl) in omega arith

-- a firing is ended: nothing more is wanted
pub wanting_ended : (r : Bool) (old new : List ℕ) → (r ≡ false → new ≡ old) → IsMove r 1 2 old new → wanting new + (if r then 1 else 0) ≡ wanting old
wanting_ended true old new same move =
    let m = move refl in
    let w = wanting_set old m.0 2 m.1 in
    let v : wanting (set old m.0 2) + (if nat_lt 1 2 then 1 else 0) ≡ wanting old + 0 = subst (λ n. wanting (set old m.0 2) + (if nat_lt n 2 then 1 else 0) ≡ wanting old + 0) m.2 w in
    let x = ap wanting m.3 in
    omega arith
wanting_ended false old new same move = let x = ap wanting (same refl) in omega arith
