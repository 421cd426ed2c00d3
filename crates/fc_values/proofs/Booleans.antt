-- Crates above cite this module: truth values.
use Rattle.std.proofs.Common.{◌≡◌, refl, sym, Bool, true, false, ◌||◌}

pub by_iff : (p q : Bool) → (p ≡ true → q ≡ true) → (q ≡ true → p ≡ true) → p ≡ q
by_iff true true f g = refl
by_iff true false f g = sym (f refl)
by_iff false true f g = g refl
by_iff false false f g = refl

pub or_true : (p q : Bool) → q ≡ true → (p || q) ≡ true
or_true true q e = refl
or_true false q e = e

pub or_no : (p q : Bool) → (p || q) ≡ false → (p ≡ false) × (q ≡ false)
or_no true q e = absurd (cc)
or_no false q e = (refl, e)
