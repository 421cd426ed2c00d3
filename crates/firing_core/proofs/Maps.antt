-- Crates above cite this module: finite maps from devices, read after one write.
use Rattle.std.proofs.Common.{◌≡◌, ℕ, refl, Bool, true, false, Option, nat_eq, if◌then◌else◌}
use Rattle.std.proofs.lemmas.Bool.{eqb-true, eq-eqb, ne_eqb}
use Rattle.firing_core.specs.Cores.{Map, put}

pub put_case : {X : Type 0} (P : Option X → Type 0) (f : Map X) (d e : ℕ) (v : Option X) → (e ≡ d → P v) → P (f e) → P (put f d v e)
put_case {X} P f d e v here there = by_test (nat_eq e d) refl
  where
    by_test : (b : Bool) → nat_eq e d ≡ b → P (if b then v else f e)
    by_test true t = here (eqb-true e d t)
    by_test false t = there

pub put_same : {X : Type 0} (f : Map X) (d : ℕ) (v : Option X) → put f d v d ≡ v
put_same f d v = rw (eq-eqb d d refl) refl

pub put_other : {X : Type 0} (f : Map X) (d e : ℕ) (v : Option X) → (e ≡ d → ⊥) → put f d v e ≡ f e
put_other f d e v u = rw (ne_eqb e d u) refl
