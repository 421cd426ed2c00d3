-- An input by its name, in the map in the order of the declarations.
use Rattle.std.proofs.Common.{◌≡◌, refl, sym, ℕ, zero, suc, ◌<◌, arith, Bool, true, false, cond, List, [], ◌∷◌, map, get_or, None, Some}
use Rattle.std.specs.Prelude.{bytes_eq, slice_get, position}
use Rattle.std.specs.Option.{option_map}
use Rattle.std.specs.Borrow.{Bor}
use Rattle.std.specs.Map.{lookup, keys_of}
use Rattle.std.proofs.lemmas.List.Quantifiers.{position-Some}
use Rattle.fc_values.specs.declared.types.InputTy.{InputTy}
use Rattle.fc_values.specs.Types.{TypeLocal, input_type}
use Rattle.fc_types.specs.Views.{input_entry}
use Rattle.fc_nodes.specs.Terms.{Plain, Sense}
use Rattle.unfold.specs.Unfolding.{input_number, sense_by, untyped}

number_from : (x : List ℕ) (es : List (Bor (List ℕ) × InputTy)) (j : ℕ) (e : Bor (List ℕ) × InputTy) (d : Bor (List ℕ)) → slice_get es j ≡ Some e → bytes_eq x (get_or (keys_of es) j d).now ≡ true →
    ((k : ℕ) → k < j → bytes_eq x (get_or (keys_of es) k d).now ≡ false) → (input_number x (map input_entry es) ≡ Some j) × (slice_get (map input_entry es) j ≡ Some (input_entry e))
number_from x [] j e d h t f = absurd cc
number_from x (a ∷ es) zero e d h t f = let q : e ≡ a = cc in rw (q, t) (refl, refl)
number_from x (a ∷ es) (suc j) e d h t f =
    let r = number_from x es j e d h t (λ k l. f (suc k) (omega arith)) in
    let n = f 0 (omega arith) in
    let a1 = r.0 in
    (rw (n, a1) refl, r.1)

pub input_found : (x : List ℕ) (es : List (Bor (List ℕ) × InputTy)) (j : ℕ) (e : Bor (List ℕ) × InputTy) → slice_get es j ≡ Some e → Some j ≡ position (λ k. bytes_eq x k.now) (keys_of es) →
    sense_by (map input_entry es) (input_number x (map input_entry es)) ≡ Plain (TypeLocal (input_type e.1)) (Sense j)
input_found x es j e h p =
    let r = position-Some (λ (k : Bor (List ℕ)). bytes_eq x k.now) (keys_of es) j e.0 (sym p) in
    let n = number_from x es j e e.0 h r.1 r.2 in
    let a = n.0 in
    let b = n.1 in
    rw (a, b) refl

none_by : (x : List ℕ) (e : Bor (List ℕ) × InputTy) (es : List (Bor (List ℕ) × InputTy)) (b : Bool) → cond b (Some e.1) (lookup (λ k. bytes_eq x k.now) es) ≡ None →
    (lookup (λ k. bytes_eq x k.now) es ≡ None → input_number x (map input_entry es) ≡ None) → cond b (Some 0) (option_map suc (input_number x (map input_entry es))) ≡ None
none_by x e es true h f = absurd cc
none_by x e es false h f = let q = f h in rw q refl

no_number : (x : List ℕ) (es : List (Bor (List ℕ) × InputTy)) → lookup (λ k. bytes_eq x k.now) es ≡ None → input_number x (map input_entry es) ≡ None
no_number x [] h = refl
no_number x (e ∷ es) h = none_by x e es (bytes_eq x e.0.now) h (λ q. no_number x es q)

pub input_missed : (x : List ℕ) (es : List (Bor (List ℕ) × InputTy)) → lookup (λ k. bytes_eq x k.now) es ≡ None → sense_by (map input_entry es) (input_number x (map input_entry es)) ≡ untyped
input_missed x es h = let q = no_number x es h in rw q refl
