-- Firings of devices one after another, and the values of their exports.
use Rattle.std.proofs.Common.{◌≡◌, ℕ, zero, suc, ◌<◌, ◌≤◌, List, [], ◌∷◌, ◌++◌, length, map, get_or, take, refl, ap, arith, Option, Some, None}
use Rattle.fc_values.specs.declared.exports.Export.{Export}
use Rattle.fc_values.specs.Values.{LocalValue, local_of}
use Rattle.fc_values.specs.Fields.{devices}
use Rattle.fc_nodes.specs.Program.{Unfolding}
use Rattle.value_trees.specs.Copies.{WhereSome}
use Rattle.value_trees.specs.Snaps.{IsExportOf}
use Rattle.topology.specs.Networks.{Network}
use Rattle.firing_core.specs.CoreViews.{AllExports}
use Rattle.stable_field.specs.Tables.{IsFiring, AreFirings, AllHave}

-- one firing more
pub firings_step : (U : Unfolding) (N : Network) (xs : List (Option Export)) (ds : List ℕ) (i : ℕ) (ys : List (Option Export)) (e : Export) → i < length ds
    → AreFirings U N xs (take i ds) ys → IsFiring U N xs (get_or ds i 0) e → AreFirings U N xs (take (suc i) ds) (ys ++ Some e ∷ [])
firings_step U N xs [] i ys e h a f = absurd (omega arith)
firings_step U N xs (d ∷ ds) zero [] e h a f = (f, tt)
firings_step U N xs (d ∷ ds) zero (y ∷ ys) e h a f = absurd a
firings_step U N xs (d ∷ ds) (suc i) [] e h a f = absurd a
firings_step U N xs (d ∷ ds) (suc i) (None ∷ ys) e h a f = absurd a
firings_step U N xs (d ∷ ds) (suc i) (Some y ∷ ys) e h a f = (a.0, firings_step U N xs ds i ys e (omega arith) a.1 f)

pub take_whole : (ds : List ℕ) (i : ℕ) → length ds ≤ i → take i ds ≡ ds
take_whole [] zero h = refl
take_whole [] (suc i) h = refl
take_whole (d ∷ ds) zero h = absurd (omega arith)
take_whole (d ∷ ds) (suc i) h = ap (λ r. d ∷ r) (take_whole ds i (omega arith))

pub exports_more : (U : Unfolding) (xs : List (Option Export)) (x : Option Export) → AllExports U xs → WhereSome (IsExportOf U) x → AllExports U (xs ++ x ∷ [])
exports_more U [] x a w = (w, tt)
exports_more U (y ∷ xs) x a w = (a.0, exports_more U xs x a.1 w)

-- the devices of a field's values
pub devices_are : (F : ℕ → LocalValue) (ds : List ℕ) → devices (map (λ (d : ℕ). (d, F d)) ds) ≡ ds
devices_are F [] = refl
devices_are F (d ∷ ds) = ap (λ r. d ∷ r) (devices_are F ds)

-- where the exports of devices have a field's values, there are as many, and each has its own
pub have_long : (F : ℕ → LocalValue) (ds : List ℕ) (xs : List (Option Export)) → AllHave F ds xs → length xs ≡ length ds
have_long F [] [] a = refl
have_long F [] (x ∷ xs) a = absurd a
have_long F (d ∷ ds) [] a = absurd a
have_long F (d ∷ ds) (None ∷ xs) a = absurd a
have_long F (d ∷ ds) (Some e ∷ xs) a = ap suc (have_long F ds xs a.1)

pub have_at : (F : ℕ → LocalValue) (ds : List ℕ) (xs : List (Option Export)) (i : ℕ) → i < length ds → AllHave F ds xs
    → (e : Export) × (get_or xs i None ≡ Some e) × (local_of e.value ≡ F (get_or ds i 0))
have_at F [] xs i h a = absurd (omega (arith, h))
have_at F (d ∷ ds) [] i h a = absurd a
have_at F (d ∷ ds) (None ∷ xs) i h a = absurd a
have_at F (d ∷ ds) (Some e ∷ xs) zero h a = (e, refl, a.0)
have_at F (d ∷ ds) (Some e ∷ xs) (suc i) h a = have_at F ds xs i (omega (arith, h)) a.1

pub map_more : {A : Type 0} (f : ℕ → A) (ds : List ℕ) (i : ℕ) → i < length ds → map f (take (suc i) ds) ≡ map f (take i ds) ++ f (get_or ds i 0) ∷ []
map_more f [] i h = absurd (omega (arith, h))
map_more f (d ∷ ds) zero h = refl
map_more f (d ∷ ds) (suc i) h = ap (λ r. f d ∷ r) (map_more f ds i (omega (arith, h)))
