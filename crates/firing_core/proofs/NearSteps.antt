-- The neighbours of a copy, gathered one after another.
use Rattle.std.proofs.Common.{◌≡◌, ℕ, ◌<◌, ◌≤◌, ◌+◌, List, [], ◌∷◌, ◌++◌, length, map, drop, get_or, sym, ◌∙◌, ap, arith, add-one, drop-cons, append_assoc, Some, None, length-append}
use Rattle.std.proofs.lemmas.List.{map-append}
use Rattle.fc_values.specs.Trees.{TreeExport, NearCopy}
use Rattle.fc_nodes.specs.Program.{Unfolding}
use Rattle.value_trees.specs.declared.copies.Near.{Near}
use Rattle.value_trees.specs.Snaps.{near_copy, IsExportOf, NearAreExports}
use Rattle.firing_core.specs.Cores.{Map, near_with, near_copies}

rest_of : (table : Map TreeExport) (xs : List (ℕ × ℕ)) (i : ℕ) (x : ℕ × ℕ) → i < length xs
    → near_copies table (drop i xs) ≡ near_with (get_or xs i x) (table (get_or xs i x).0) (near_copies table (drop (i + 1) xs))
rest_of table xs i x h =
    ap (near_copies table) (drop-cons xs i x h)
    ∙ ap (λ j. near_with (get_or xs i x) (table (get_or xs i x).0) (near_copies table (drop j xs))) (sym (add-one i))

module _ (U : Unfolding) (table : Map TreeExport) (xs : List (ℕ × ℕ)) (i : ℕ) (x : ℕ × ℕ) (h : i < length xs) where
  -- a neighbour with an export is one more
  pub near_more : (old new : List Near) (whole : List NearCopy) (n : Near) (e : TreeExport) → new ≡ old ++ n ∷ []
      → near_copy U n ≡ record { device = (get_or xs i x).0; weight = (get_or xs i x).1; export = e } → table (get_or xs i x).0 ≡ Some e
      → map (near_copy U) old ++ near_copies table (drop i xs) ≡ whole → map (near_copy U) new ++ near_copies table (drop (i + 1) xs) ≡ whole
  near_more old new whole n e p q t inv =
      ap (λ ns. map (near_copy U) ns ++ near_copies table (drop (i + 1) xs)) p
      ∙ ap (λ cs. cs ++ near_copies table (drop (i + 1) xs)) (map-append (near_copy U) old (n ∷ []))
      ∙ append_assoc (map (near_copy U) old) (near_copy U n ∷ []) (near_copies table (drop (i + 1) xs))
      ∙ ap (λ c. map (near_copy U) old ++ (c ∷ near_copies table (drop (i + 1) xs))) q
      ∙ ap (λ o. map (near_copy U) old ++ near_with (get_or xs i x) o (near_copies table (drop (i + 1) xs))) (sym t)
      ∙ ap (λ cs. map (near_copy U) old ++ cs) (sym (rest_of table xs i x h))
      ∙ inv

  -- one without an export is left out
  pub near_less : (old : List Near) (whole : List NearCopy) → table (get_or xs i x).0 ≡ None
      → map (near_copy U) old ++ near_copies table (drop i xs) ≡ whole → map (near_copy U) old ++ near_copies table (drop (i + 1) xs) ≡ whole
  near_less old whole t inv =
      ap (λ o. map (near_copy U) old ++ near_with (get_or xs i x) o (near_copies table (drop (i + 1) xs))) (sym t)
      ∙ ap (λ cs. map (near_copy U) old ++ cs) (sym (rest_of table xs i x h))
      ∙ inv

pub exports_more : (U : Unfolding) (old : List Near) (n : Near) → NearAreExports U old → IsExportOf U n.export → NearAreExports U (old ++ n ∷ [])
exports_more U [] n a w = (w, tt)
exports_more U (m ∷ ms) n a w = (a.0, exports_more U ms n a.1 w)

pub longer : (old : List Near) (n : Near) (k : ℕ) → length old ≤ k → length (old ++ n ∷ []) ≤ k + 1
longer old n k h = omega (arith, length-append old (n ∷ []))

pub one_longer : (old new : List Near) (n : Near) → new ≡ old ++ n ∷ [] → length new ≡ length old + 1
one_longer old new n q = omega (arith, length-append old (n ∷ []), ap length q)
