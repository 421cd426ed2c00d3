-- What rooms hold: copies without exports.
use Rattle.std.proofs.Common.{◌≡◌, ℕ, zero, suc, ◌<◌, ◌≤◌, List, [], ◌∷◌, length, map, take, drop, get_or, refl, sym, ◌∙◌, ap, subst, arith, None}
use Rattle.std.specs.Prelude.{slice_set, vec_capacity}
use Rattle.fc_values.specs.declared.values.Local.{Local}
use Rattle.fc_values.specs.declared.types.InputTy.{InputTy}
use Rattle.fc_values.specs.declared.types.InputTy.TheVariants as input
use Rattle.fc_values.specs.declared.types.InputDecl.{InputDecl}
use Rattle.fc_values.specs.Types.{Declarations, Input, input_of, input_type}
use Rattle.fc_values.specs.Values.{LocalValue, IntValue, BoolValue, PairValue, local_of, form_of, SameForm}
use Rattle.fc_nodes.specs.Program.{Unfolding}
use Rattle.value_trees.specs.declared.copies.Snap.{Snap}
use Rattle.fc_values.specs.Inputs.{InputFits, InputsFit}
use Rattle.value_trees.specs.Snaps.{IsSnap}
use Rattle.firing_core.specs.Rooms.{types_of, declared_types, IsBlank}
use Rattle.fc_values.proofs.Forms.{same_form}

-- ---- values of one type

-- values written one after another, up to a place
pub record WrittenTo (i : ℕ) (xs ys : List Local) : Type 0 where
  pub done : map local_of (take i xs) ≡ map local_of (take i ys)
  pub left : types_of (drop i xs) ≡ types_of (drop i ys)

long : (i : ℕ) (xs : List Local) → i < length xs → types_of (drop i xs) ≡ [] → ⊥
long i [] h e = absurd (omega arith)
long zero (a ∷ xs) h e = cc
long (suc i) (a ∷ xs) h e = long i xs (omega arith) e

forms_at : (i : ℕ) (xs ys : List Local) (x y : Local) → i < length xs → types_of (drop i xs) ≡ types_of (drop i ys) → y ≡ get_or ys i y → form_of (local_of (get_or xs i x)) ≡ form_of (local_of y)
forms_at i [] ys x y h e q = absurd (omega arith)
forms_at zero (a ∷ xs) [] x y h e q = absurd cc
forms_at zero (a ∷ xs) (b ∷ ys) x y h e q = cc
forms_at (suc i) (a ∷ xs) [] x y h e q = absurd (long i xs (omega arith) e)
forms_at (suc i) (a ∷ xs) (b ∷ ys) x y h e q = forms_at i xs ys x y (omega arith) e q

-- the values at the place are of one form
pub here_forms : (i : ℕ) (xs ys : List Local) (x y : Local) → i < length xs → WrittenTo i xs ys → y ≡ get_or ys i y → SameForm (local_of (get_or xs i x)) (local_of y)
here_forms i xs ys x y h w q = same_form (local_of (get_or xs i x)) (local_of y) (forms_at i xs ys x y h w.left q)

next_done : (i : ℕ) (xs ys : List Local) (v y : Local) → i < length xs → map local_of (take i xs) ≡ map local_of (take i ys) → types_of (drop i xs) ≡ types_of (drop i ys) → local_of v ≡ local_of y → y ≡ get_or ys i y
    → map local_of (take (suc i) (slice_set xs i v)) ≡ map local_of (take (suc i) ys)
next_done i [] ys v y h d e p q = absurd (omega arith)
next_done zero (a ∷ xs) [] v y h d e p q = absurd cc
next_done zero (a ∷ xs) (b ∷ ys) v y h d e p q = ap (λ x. x ∷ []) (p ∙ ap local_of q)
next_done (suc i) (a ∷ xs) [] v y h d e p q = absurd (long i xs (omega arith) e)
next_done (suc i) (a ∷ xs) (b ∷ ys) v y h d e p q =
    let first : local_of a ≡ local_of b = cc in
    let rest : map local_of (take i xs) ≡ map local_of (take i ys) = cc in
    let ih = next_done i xs ys v y (omega arith) rest e p q in
    ap (λ x. x ∷ map local_of (take (suc i) (slice_set xs i v))) first ∙ ap (λ zs. local_of b ∷ zs) ih

next_left : (i : ℕ) (xs ys : List Local) (v : Local) → i < length xs → types_of (drop i xs) ≡ types_of (drop i ys) → types_of (drop (suc i) (slice_set xs i v)) ≡ types_of (drop (suc i) ys)
next_left i [] ys v h e = absurd (omega arith)
next_left zero (a ∷ xs) [] v h e = absurd cc
next_left zero (a ∷ xs) (b ∷ ys) v h e = cc
next_left (suc i) (a ∷ xs) [] v h e = absurd (long i xs (omega arith) e)
next_left (suc i) (a ∷ xs) (b ∷ ys) v h e = next_left i xs ys v (omega arith) e

pub written_next : (i j : ℕ) (xs ys : List Local) (v y : Local) → j ≡ suc i → i < length xs → local_of v ≡ local_of y → y ≡ get_or ys i y → WrittenTo i xs ys → WrittenTo j (slice_set xs i v) ys
written_next i j xs ys v y e h p q w = subst (λ k. WrittenTo k (slice_set xs i v) ys) (sym e) (record { done = next_done i xs ys v y h w.done w.left p q; left = next_left i xs ys v h w.left })

pub written_whole : (i : ℕ) (xs ys : List Local) → length xs ≤ i → WrittenTo i xs ys → map local_of xs ≡ map local_of ys
written_whole i [] [] h w = refl
written_whole zero [] (y ∷ ys) h w = let l = w.left in absurd cc
written_whole (suc i) [] (y ∷ ys) h w = let d = w.done in absurd cc
written_whole zero (x ∷ xs) ys h w = absurd (omega arith)
written_whole (suc i) (x ∷ xs) [] h w = let d = w.done in absurd cc
written_whole (suc i) (x ∷ xs) (y ∷ ys) h w =
    let d = w.done in
    let first : local_of x ≡ local_of y = cc in
    let rest : map local_of (take i xs) ≡ map local_of (take i ys) = cc in
    ap (λ z. z ∷ map local_of xs) first ∙ ap (λ zs. local_of y ∷ zs) (written_whole i xs ys (omega arith) (record { done = rest; left = w.left }))

-- ---- copies without exports

pub input_forms : (is : List Input) (vs : List Local) → InputsFit is (map local_of vs) → types_of vs ≡ map (λ (i : Input). input_type i.type) is
input_forms [] [] h = refl
input_forms [] (v ∷ vs) h = absurd h
input_forms (i ∷ is) [] h = absurd h
input_forms (i ∷ is) (v ∷ vs) h = let a = one i.type (local_of v) h.0 in let b = input_forms is vs h.1 in cc
  where
    one : (t : InputTy) (x : LocalValue) → InputFits t x → form_of x ≡ input_type t
    one input.Truth (BoolValue b) k = refl
    one input.Truth (IntValue n) k = absurd k
    one input.Truth (PairValue a b) k = absurd k
    one (input.Whole l g) (IntValue n) k = refl
    one (input.Whole l g) (BoolValue b) k = absurd k
    one (input.Whole l g) (PairValue a b) k = absurd k

pub blank_of : (U : Unfolding) (s t : Snap) → IsSnap U s → t.inputs ≡ s.inputs → t.own ≡ None → t.near.items ≡ [] → 32 ≤ vec_capacity t.near → IsBlank U t
blank_of U s t k i o n w = record {
  inputs = subst (λ vs. types_of vs.items ≡ declared_types U) (sym i) (input_forms U.declared.inputs s.inputs.items k.fits.inputs);
  own = o;
  near = n;
  wide = w;
}

pub declared_forms : (D : Declarations) (is : List InputDecl) → map input_of is ≡ D.inputs → map (λ (i : InputDecl). input_type (input_of i).type) is ≡ map (λ (i : Input). input_type i.type) D.inputs
declared_forms D is e = go is ∙ ap (map (λ (i : Input). input_type i.type)) e
  where
    go : (js : List InputDecl) → map (λ (i : InputDecl). input_type (input_of i).type) js ≡ map (λ (i : Input). input_type i.type) (map input_of js)
    go [] = refl
    go (j ∷ js) = ap (λ ts. input_type (input_of j).type ∷ ts) (go js)
