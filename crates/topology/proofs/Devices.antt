-- Devices by rising numbers: one more, one less, and one with another input.
use Rattle.std.proofs.Common.{◌≡◌, ℕ, zero, suc, ◌<◌, ◌≤◌, List, [], ◌∷◌, length, get_or, set, refl, sym, ◌∙◌, ap, subst, arith, Bool, true, false, not, cond, nat_eq, nat_lt, nat_le, if◌then◌else◌, ◌&&◌, ◌||◌, Option, Some, None}
use Rattle.std.proofs.lemmas.Bool.{eqb-true, eqb-false, ltb-true, ltb-false, leb-true, eq-eqb, ne_eqb}
use Rattle.fc_values.specs.declared.types.InputTy.{InputTy}
use Rattle.fc_values.specs.declared.types.InputTy.TheVariants as input
use Rattle.fc_values.specs.Types.{Declarations, Input}
use Rattle.fc_values.specs.Fields.{Rises, is_in}
use Rattle.fc_values.specs.Values.{LocalValue, IntValue, BoolValue, PairValue}
use Rattle.topology.specs.declared.types.NetFault.TheVariants as fault
use Rattle.fc_values.specs.Inputs.{InputFits, InputsFit}
use Rattle.topology.specs.Inputs.{input_fault, inputs_fault, or_fault}
use Rattle.topology.specs.Networks.{NetDevice, numbers, inputs_in, DevicesFit}
use Rattle.topology.specs.Changes.{insert_device, drop_device, put_input, nth_fault}
use Rattle.fc_values.proofs.Rising.{rises_tail, rises_weaker}
use Rattle.fc_values.proofs.Booleans.{or_no}

-- ---- inputs

pub or_none : {F : Type 0} (f g : Option F) → or_fault f g ≡ None → (f ≡ None) × (g ≡ None)
or_none None g e = (refl, e)
or_none (Some f) g e = absurd (cc)

pub input_none : (t : InputTy) (v : LocalValue) → input_fault t v ≡ None → InputFits t v
input_none input.Truth (IntValue n) e = absurd (cc)
input_none input.Truth (BoolValue b) e = tt
input_none input.Truth (PairValue a b) e = absurd (cc)
input_none (input.Whole l g) (IntValue n) e = by_tests (nat_le l n) (nat_le n g) refl refl e
  where
    by_tests : (p q : Bool) → nat_le l n ≡ p → nat_le n g ≡ q → (if p && q then None else Some fault.InputRange) ≡ None → (l ≤ n) × (n ≤ g)
    by_tests true true s t e = (leb-true l n s, leb-true n g t)
    by_tests true false s t e = absurd (cc)
    by_tests false q s t e = absurd (cc)
input_none (input.Whole l g) (BoolValue b) e = absurd (cc)
input_none (input.Whole l g) (PairValue a b) e = absurd (cc)

pub inputs_none : (is : List Input) (vs : List LocalValue) → length vs ≡ length is → inputs_fault is vs ≡ None → InputsFit is vs
inputs_none [] [] l e = tt
inputs_none [] (v ∷ vs) l e = absurd (omega arith)
inputs_none (i ∷ is) [] l e = absurd (omega arith)
inputs_none (i ∷ is) (v ∷ vs) l e =
    let k = or_none (input_fault i.type v) (inputs_fault is vs) e in
    (input_none i.type v k.0, inputs_none is vs (omega arith) k.1)

pub inputs_length : (is : List Input) (vs : List LocalValue) → InputsFit is vs → length vs ≡ length is
inputs_length [] [] f = refl
inputs_length [] (v ∷ vs) f = absurd f
inputs_length (i ∷ is) [] f = absurd f
inputs_length (i ∷ is) (v ∷ vs) f = ap suc (inputs_length is vs f.1)

pub nth_put : (is : List Input) (vs : List LocalValue) (i : ℕ) (v : LocalValue) → InputsFit is vs → nth_fault is i v ≡ None → InputsFit is (set vs i v)
nth_put [] vs i v f e = absurd (cc)
nth_put (x ∷ xs) [] i v f e = absurd f
nth_put (x ∷ xs) (u ∷ us) zero v f e = (input_none x.type v e, f.1)
nth_put (x ∷ xs) (u ∷ us) (suc i) v f e = (f.0, nth_put xs us i v f.1 e)

-- the inputs of a device that is there
pub inputs_fit : (D : Declarations) (ns : List NetDevice) (d : ℕ) → DevicesFit D ns → is_in d (numbers ns) ≡ true → InputsFit D.inputs (inputs_in d ns)
inputs_fit D [] d f t = absurd (cc)
inputs_fit D (n ∷ ns) d f t = by_test (nat_eq d n.id) t (inputs_fit D ns d f.2)
  where
    by_test : (b : Bool) → (b || is_in d (numbers ns)) ≡ true → (is_in d (numbers ns) ≡ true → InputsFit D.inputs (inputs_in d ns)) → InputsFit D.inputs (if b then n.inputs else inputs_in d ns)
    by_test true u ih = f.1
    by_test false u ih = ih u

-- ---- rising numbers

-- a number that is there has a place
pub in_at : (d : ℕ) (is : List ℕ) → is_in d is ≡ true → (i : ℕ) × (i < length is) × (get_or is i 0 ≡ d)
in_at d [] t = absurd (cc)
in_at d (e ∷ es) t = by_test (nat_eq d e) refl t (λ u. in_at d es u)
  where
    by_test : (q : Bool) → nat_eq d e ≡ q → (q || is_in d es) ≡ true → (is_in d es ≡ true → (i : ℕ) × (i < length es) × (get_or es i 0 ≡ d)) → (i : ℕ) × (i < suc (length es)) × (get_or (e ∷ es) i 0 ≡ d)
    by_test true s u ih = (0, omega arith, sym (eqb-true d e s))
    by_test false s u ih = let k = ih u in (suc k.0, omega (arith, k.1), k.2)

pub at_in : (d : ℕ) (is : List ℕ) (i : ℕ) → i < length is → get_or is i 0 ≡ d → is_in d is ≡ true
at_in d [] i h e = absurd (omega arith)
at_in d (x ∷ xs) zero h e = rw (eq-eqb d x (sym e)) refl
at_in d (x ∷ xs) (suc i) h e = by_test (nat_eq d x) (at_in d xs i (omega arith) e)
  where
    by_test : (q : Bool) → is_in d xs ≡ true → (q || is_in d xs) ≡ true
    by_test true k = refl
    by_test false k = k

-- ---- one device more

or_swap : (p q r : Bool) → (p || (q || r)) ≡ (q || (p || r))
or_swap true true r = refl
or_swap true false r = refl
or_swap false true r = refl
or_swap false false r = refl

pub insert_in : (d : ℕ) (x : NetDevice) (ns : List NetDevice) → is_in d (numbers (insert_device x ns)) ≡ (nat_eq d x.id || is_in d (numbers ns))
insert_in d x [] = refl
insert_in d x (n ∷ ns) = by_test (nat_lt n.id x.id) (insert_in d x ns)
  where
    by_test : (q : Bool) → is_in d (numbers (insert_device x ns)) ≡ (nat_eq d x.id || is_in d (numbers ns))
        → is_in d (numbers (if q then n ∷ insert_device x ns else x ∷ n ∷ ns)) ≡ (nat_eq d x.id || (nat_eq d n.id || is_in d (numbers ns)))
    by_test true ih = ap (λ b. nat_eq d n.id || b) ih ∙ or_swap (nat_eq d n.id) (nat_eq d x.id) (is_in d (numbers ns))
    by_test false ih = refl

rises_insert_tail : (m : ℕ) (x : NetDevice) (ns : List NetDevice) → m < x.id → Rises (m ∷ numbers ns) → Rises (numbers (insert_device x ns)) → Rises (m ∷ numbers (insert_device x ns))
rises_insert_tail m x [] h r k = (h, tt)
rises_insert_tail m x (n ∷ ns) h r k = by_test (nat_lt n.id x.id) k
  where
    by_test : (q : Bool) → Rises (numbers (if q then n ∷ insert_device x ns else x ∷ n ∷ ns)) → Rises (m ∷ numbers (if q then n ∷ insert_device x ns else x ∷ n ∷ ns))
    by_test true k = (r.0, k)
    by_test false k = (h, k)

pub insert_rises : (x : NetDevice) (ns : List NetDevice) → Rises (numbers ns) → is_in x.id (numbers ns) ≡ false → Rises (numbers (insert_device x ns))
insert_rises x [] r e = tt
insert_rises x (n ∷ ns) r e =
    let k = or_no (nat_eq x.id n.id) (is_in x.id (numbers ns)) e in
    by_test (nat_lt n.id x.id) refl (insert_rises x ns (rises_tail n.id (numbers ns) r) k.1) (eqb-false x.id n.id k.0)
  where
    by_test : (q : Bool) → nat_lt n.id x.id ≡ q → Rises (numbers (insert_device x ns)) → (x.id ≡ n.id → ⊥) → Rises (numbers (if q then n ∷ insert_device x ns else x ∷ n ∷ ns))
    by_test true t ih u = rises_insert_tail n.id x ns (ltb-true n.id x.id t) r ih
    by_test false t ih u = let h = ltb-false n.id x.id t in (omega (arith, u), r)

pub insert_devices_fit : (D : Declarations) (x : NetDevice) (ns : List NetDevice) → x.id ≤ 65535 → InputsFit D.inputs x.inputs → DevicesFit D ns → DevicesFit D (insert_device x ns)
insert_devices_fit D x [] h k f = (h, k, tt)
insert_devices_fit D x (n ∷ ns) h k f = by_test (nat_lt n.id x.id) (insert_devices_fit D x ns h k f.2)
  where
    by_test : (q : Bool) → DevicesFit D (insert_device x ns) → DevicesFit D (if q then n ∷ insert_device x ns else x ∷ n ∷ ns)
    by_test true ih = (f.0, f.1, ih)
    by_test false ih = (h, k, f)

-- ---- one device less

pub drop_in : (d e : ℕ) (ns : List NetDevice) → (d ≡ e → ⊥) → is_in e (numbers (drop_device d ns)) ≡ is_in e (numbers ns)
drop_in d e [] u = refl
drop_in d e (n ∷ ns) u = by_test (nat_eq d n.id) refl (drop_in d e ns u)
  where
    by_test : (q : Bool) → nat_eq d n.id ≡ q → is_in e (numbers (drop_device d ns)) ≡ is_in e (numbers ns) → is_in e (numbers (cond (not q) (n ∷ drop_device d ns) (drop_device d ns))) ≡ (nat_eq e n.id || is_in e (numbers ns))
    by_test true t ih = let h = eqb-true d n.id t in ih ∙ ap (λ b. b || is_in e (numbers ns)) (sym (ne_eqb e n.id (λ x. u (h ∙ sym x))))
    by_test false t ih = ap (λ b. nat_eq e n.id || b) ih

pub drop_gone : (d : ℕ) (ns : List NetDevice) → is_in d (numbers (drop_device d ns)) ≡ false
drop_gone d [] = refl
drop_gone d (n ∷ ns) = by_test (nat_eq d n.id) refl (drop_gone d ns)
  where
    by_test : (q : Bool) → nat_eq d n.id ≡ q → is_in d (numbers (drop_device d ns)) ≡ false → is_in d (numbers (cond (not q) (n ∷ drop_device d ns) (drop_device d ns))) ≡ false
    by_test true t ih = ih
    by_test false t ih = rw t ih

drop_rises_from : (d m : ℕ) (ns : List NetDevice) → Rises (m ∷ numbers ns) → Rises (m ∷ numbers (drop_device d ns))
drop_rises_from d m [] r = tt
drop_rises_from d m (n ∷ ns) r = by_test (nat_eq d n.id) (drop_rises_from d n.id ns r.1)
  where
    by_test : (q : Bool) → Rises (n.id ∷ numbers (drop_device d ns)) → Rises (m ∷ numbers (cond (not q) (n ∷ drop_device d ns) (drop_device d ns)))
    by_test true ih = rises_weaker m n.id (numbers (drop_device d ns)) r.0 ih
    by_test false ih = (r.0, ih)

pub drop_rises : (d : ℕ) (ns : List NetDevice) → Rises (numbers ns) → Rises (numbers (drop_device d ns))
drop_rises d [] r = tt
drop_rises d (n ∷ ns) r = by_test (nat_eq d n.id) (drop_rises_from d n.id ns r)
  where
    by_test : (q : Bool) → Rises (n.id ∷ numbers (drop_device d ns)) → Rises (numbers (cond (not q) (n ∷ drop_device d ns) (drop_device d ns)))
    by_test true ih = rises_tail n.id (numbers (drop_device d ns)) ih
    by_test false ih = ih

pub drop_devices_fit : (D : Declarations) (d : ℕ) (ns : List NetDevice) → DevicesFit D ns → DevicesFit D (drop_device d ns)
drop_devices_fit D d [] f = tt
drop_devices_fit D d (n ∷ ns) f = by_test (nat_eq d n.id) (drop_devices_fit D d ns f.2)
  where
    by_test : (q : Bool) → DevicesFit D (drop_device d ns) → DevicesFit D (cond (not q) (n ∷ drop_device d ns) (drop_device d ns))
    by_test true ih = ih
    by_test false ih = (f.0, f.1, ih)

drop_absent : (d : ℕ) (ns : List NetDevice) → is_in d (numbers ns) ≡ false → drop_device d ns ≡ ns
drop_absent d [] e = refl
drop_absent d (n ∷ ns) e = let k = or_no (nat_eq d n.id) (is_in d (numbers ns)) e in rw k.0 (ap (λ ms. n ∷ ms) (drop_absent d ns k.1))

pub rises_apart : (m : ℕ) (ns : List NetDevice) → Rises (m ∷ numbers ns) → is_in m (numbers ns) ≡ false
rises_apart m [] r = refl
rises_apart m (n ∷ ns) r = let h = r.0 in rw (ne_eqb m n.id (λ e. absurd (omega arith))) (rises_apart m ns (rises_weaker m n.id (numbers ns) h r.1))

-- exactly one goes
pub drop_length : (d : ℕ) (ns : List NetDevice) → Rises (numbers ns) → is_in d (numbers ns) ≡ true → suc (length (drop_device d ns)) ≡ length ns
drop_length d [] r t = absurd (cc)
drop_length d (n ∷ ns) r t = by_test (nat_eq d n.id) refl t (λ u. drop_length d ns (rises_tail n.id (numbers ns) r) u)
  where
    by_test : (q : Bool) → nat_eq d n.id ≡ q → (q || is_in d (numbers ns)) ≡ true → (is_in d (numbers ns) ≡ true → suc (length (drop_device d ns)) ≡ length ns)
        → suc (length (cond (not q) (n ∷ drop_device d ns) (drop_device d ns))) ≡ suc (length ns)
    by_test true e u ih = ap suc (ap length (drop_absent d ns (subst (λ m. is_in m (numbers ns) ≡ false) (sym (eqb-true d n.id e)) (rises_apart n.id ns r))))
    by_test false e u ih = ap suc (ih u)

-- ---- another input

pub put_numbers : (d i : ℕ) (v : LocalValue) (ns : List NetDevice) → numbers (put_input d i v ns) ≡ numbers ns
put_numbers d i v [] = refl
put_numbers d i v (n ∷ ns) = by_test (nat_eq d n.id) (put_numbers d i v ns)
  where
    by_test : (q : Bool) → numbers (put_input d i v ns) ≡ numbers ns → numbers ((if q then record n { inputs = set n.inputs i v } else n) ∷ put_input d i v ns) ≡ n.id ∷ numbers ns
    by_test true ih = ap (λ xs. n.id ∷ xs) ih
    by_test false ih = ap (λ xs. n.id ∷ xs) ih

pub put_length : (d i : ℕ) (v : LocalValue) (ns : List NetDevice) → length (put_input d i v ns) ≡ length ns
put_length d i v [] = refl
put_length d i v (n ∷ ns) = ap suc (put_length d i v ns)

pub put_devices_fit : (D : Declarations) (d i : ℕ) (v : LocalValue) (ns : List NetDevice) → nth_fault D.inputs i v ≡ None → DevicesFit D ns → DevicesFit D (put_input d i v ns)
put_devices_fit D d i v [] e f = tt
put_devices_fit D d i v (n ∷ ns) e f = by_test (nat_eq d n.id) (put_devices_fit D d i v ns e f.2)
  where
    by_test : (q : Bool) → DevicesFit D (put_input d i v ns) → DevicesFit D ((if q then record n { inputs = set n.inputs i v } else n) ∷ put_input d i v ns)
    by_test true ih = (f.0, nth_put D.inputs n.inputs i v f.1 e, ih)
    by_test false ih = (f.0, f.1, ih)
