-- The inputs and functions in maps in the order of their declarations.
use Rattle.std.proofs.Common.{◌≡◌, ◌++◌, refl, ap, ℕ, Bool, true, false, List, [], ◌∷◌, map, Option, Some, None, cond}
use Rattle.std.specs.Prelude.{bytes_eq}
use Rattle.std.specs.Borrow.{Bor}
use Rattle.std.specs.Option.{option_map}
use Rattle.std.specs.Map.{lookup}
use Rattle.indexmap.specs.IndexMap.{insert_entry}
use Rattle.std.proofs.lemmas.Slice.Eq.{bytes_eq-Decides}
use Rattle.fc_values.specs.declared.types.InputTy.{InputTy}
use Rattle.fc_values.specs.Types.{Input}
use Rattle.fc_types.specs.declared.known.Function.{Function as AFunction}
use Rattle.fc_types.specs.Before.{Function, input_named, function_named}
use Rattle.fc_types.specs.Views.{function_of, input_entry, function_entry}

module _ (name : List ℕ) where
  pub input_found : (es : List (Bor (List ℕ) × InputTy)) → lookup (λ k. bytes_eq name k.now) es ≡ option_map (λ (i : Input). i.type) (input_named name (map input_entry es))
  input_found [] = refl
  input_found (e ∷ es) = go (bytes_eq name e.0.now) (lookup (λ k. bytes_eq name k.now) es) (input_named name (map input_entry es)) (input_found es)
    where
      go : (b : Bool) (o : Option InputTy) (o' : Option Input) → o ≡ option_map (λ (i : Input). i.type) o' →
          cond b (Some e.1) o ≡ option_map (λ (i : Input). i.type) (cond b (Some (input_entry e)) o')
      go true o o' h = refl
      go false o o' h = h

  pub function_found : (es : List (Bor (List ℕ) × AFunction)) → option_map (function_of name) (lookup (λ k. bytes_eq name k.now) es) ≡ function_named name (map function_entry es)
  function_found [] = refl
  function_found (e ∷ es) = go (bytes_eq name e.0.now) refl (lookup (λ k. bytes_eq name k.now) es) (function_named name (map function_entry es)) (function_found es)
    where
      go : (b : Bool) → bytes_eq name e.0.now ≡ b → (o : Option AFunction) (o' : Option Function) → option_map (function_of name) o ≡ o' →
          option_map (function_of name) (cond b (Some e.1) o) ≡ cond b (Some (function_entry e)) o'
      go true q o o' h = let n : name ≡ e.0.now = (bytes_eq-Decides name e.0.now).0 q in ap (λ (x : List ℕ). Some (function_of x e.1)) n
      go false q o o' h = h

-- a new name is put behind the others
module _ (eq : Bor (List ℕ) → Bor (List ℕ) → Bool) (same : (a b : Bor (List ℕ)) → eq a b ≡ bytes_eq a.now b.now) (key : Bor (List ℕ)) where
  pub input_added : (t : InputTy) (es : List (Bor (List ℕ) × InputTy)) → input_named key.now (map input_entry es) ≡ None →
      map input_entry (insert_entry eq es key t) ≡ map input_entry es ++ input_entry (key, t) ∷ []
  input_added t [] h = refl
  input_added t (e ∷ es) h = go (bytes_eq key.now e.0.now) (eq key e.0) (same key e.0) (input_named key.now (map input_entry es)) h (input_added t es)
    where
      go : (b b' : Bool) → b' ≡ b → (o : Option Input) → cond b (Some (input_entry e)) o ≡ None → (o ≡ None → map input_entry (insert_entry eq es key t) ≡ map input_entry es ++ input_entry (key, t) ∷ []) →
          map input_entry (cond b' ((e.0, t) ∷ es) (e ∷ insert_entry eq es key t)) ≡ input_entry e ∷ (map input_entry es ++ input_entry (key, t) ∷ [])
      go true b' q o h f = absurd cc
      go false b' q o h f = rw q (ap (λ (is : List Input). input_entry e ∷ is) (f h))

  pub function_added : (g : AFunction) (es : List (Bor (List ℕ) × AFunction)) → function_named key.now (map function_entry es) ≡ None →
      map function_entry (insert_entry eq es key g) ≡ map function_entry es ++ function_entry (key, g) ∷ []
  function_added g [] h = refl
  function_added g (e ∷ es) h = go (bytes_eq key.now e.0.now) (eq key e.0) (same key e.0) (function_named key.now (map function_entry es)) h (function_added g es)
    where
      go : (b b' : Bool) → b' ≡ b → (o : Option Function) → cond b (Some (function_entry e)) o ≡ None → (o ≡ None → map function_entry (insert_entry eq es key g) ≡ map function_entry es ++ function_entry (key, g) ∷ []) →
          map function_entry (cond b' ((e.0, g) ∷ es) (e ∷ insert_entry eq es key g)) ≡ function_entry e ∷ (map function_entry es ++ function_entry (key, g) ∷ [])
      go true b' q o h f = absurd cc
      go false b' q o h f = rw q (ap (λ (is : List Function). function_entry e ∷ is) (f h))
