-- The export that is accepted is one of the program, and it keeps the values of its list.
use Rattle.std.proofs.Common.{◌≡◌, ℕ, ◌+◌, List, [], ◌∷◌, ◌++◌, map, refl, sym, ◌∙◌, ap, subst, Option, Some, None, option_map, append_assoc, append-nil}
use Rattle.std.specs.Prelude.{codes}
use Rattle.serde_json.specs.Data.{Data, Items, no_items, item}
use Rattle.fc_values.specs.Values.{LocalValue}
use Rattle.fc_values.specs.BuiltinTypes.{inner}
use Rattle.fc_values.specs.Trees.{Tree, TreeExport}
use Rattle.fc_nodes.specs.Terms.{term_type}
use Rattle.fc_nodes.specs.Program.{Unfolding}
use Rattle.value_trees.proofs.ReadBack.{had_type}
use Rattle.net_json.specs.Judging.{Accepted, SceneRefusal, Misshaped, given, in_turn, at_member, at_index}
use Rattle.value_trees.specs.KeptItems.{KeptItem, Taken, Took, Misfit, take_tree, values}
use Rattle.net_json.specs.KeptItems.{kept_judged}
use Rattle.net_json.specs.Exports.{whole_export, export_judged}
use Rattle.net_json.specs.AcceptedLists.{item_values, KeepsItems}
use Rattle.value_trees.proofs.TookTrees.{took}
use Rattle.net_json.proofs.Accepting.{then_accepted, require_accepted, same_accepted}

given_accepted : {A : Type 0} (r : SceneRefusal) (o : Option A) (a : A) → given r o ≡ Accepted a → o ≡ Some a
given_accepted r None a e = absurd cc
given_accepted r (Some b) a e = ap Some (same_accepted e)

-- the items that are accepted are those before and these, each with the value that is read
record AreRead (read : Data → Option KeptItem) (ds : Items) (before xs : List KeptItem) : Type 0 where
  pub rest : List KeptItem
  pub whole : xs ≡ before ++ rest
  pub values : map Some (values rest) ≡ item_values read ds

items_accepted : (read : Data → Option KeptItem) (path : List ℕ) (before xs : List KeptItem) (i : ℕ) (ds : Items)
    → in_turn (kept_judged read) path before i ds ≡ Accepted xs → AreRead read ds before xs
items_accepted read path before xs i no_items e = record { rest = []; whole = sym (same_accepted e) ∙ sym (append-nil before); values = refl }
items_accepted read path before xs i (item d ds) e =
    then_accepted (kept_judged read before (at_index path i) d) e (λ next f g.
    then_accepted (given (Misshaped (at_index path i)) (read d)) f (λ x h k.
    let ih = items_accepted read path next xs (i + 1) ds g in
    let one = given_accepted (Misshaped (at_index path i)) (read d) x h in
    record {
      rest = x ∷ ih.rest;
      whole = ih.whole ∙ ap (λ (ys : List KeptItem). ys ++ ih.rest) (sym (same_accepted k)) ∙ append_assoc before (x ∷ []) ih.rest;
      values = ap (λ (os : List (Option LocalValue)). Some x.value ∷ os) ih.values
          ∙ ap (λ (o : Option KeptItem). option_map (λ (y : KeptItem). y.value) o ∷ item_values read ds) (sym one);
    }))

whole_accepted : (U : Unfolding) (path : List ℕ) (v : LocalValue) (xs : List KeptItem) (e : TreeExport) (t : Taken Tree)
    → take_tree U.declared.ceiling U.main 0 xs ≡ t → whole_export U path v t ≡ Accepted e
    → (tree : Tree) × (take_tree U.declared.ceiling U.main 0 xs ≡ Took tree []) × (e ≡ record { value = v; tree = tree })
whole_accepted U path v xs e (Took tree []) f g = (tree, f, sym (same_accepted g))
whole_accepted U path v xs e (Took tree (y ∷ ys)) f g = absurd cc
whole_accepted U path v xs e (Misfit p) f g = absurd cc

pub export_accepted : (U : Unfolding) (read : Data → Option KeptItem) (path : List ℕ) (v : LocalValue) (ds : Items) (e : TreeExport)
    → export_judged U read path v ds ≡ Accepted e → KeepsItems U read v ds e
export_accepted U read path v ds e h =
    let r = require_accepted _ h in
    then_accepted (in_turn (kept_judged read) (at_member path (codes "kept")) [] 0 ds) r.1 (λ xs f g.
    let are = items_accepted read (at_member path (codes "kept")) [] xs 0 ds f in
    let w = whole_accepted U path v xs e _ refl g in
    let t = took U.declared.ceiling U.main 0 xs [] w.0 w.1 in
    let kept = sym (append-nil _) ∙ sym t.values ∙ ap values are.whole in
    subst (KeepsItems U read v ds) (sym w.2) (record {
      typed = record { value = had_type U.declared.ceiling (inner (term_type U.main)) v r.0; tree = t.fits };
      value = refl;
      list = ap (map Some) kept ∙ are.values;
    }))
