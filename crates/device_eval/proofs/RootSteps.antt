-- The evaluation of a copy at the root.
use Rattle.std.proofs.Common.{◌≡◌, ℕ, zero, suc, ◌≤◌, ◌+◌, List, [], ◌∷◌, length, map, refl, sym, ◌∙◌, ap, subst, arith}
use Rattle.std.proofs.Common.{false, Option, Some, None, IsSome}
use Rattle.std.specs.Prelude.{option_map}
use Rattle.fc_values.specs.declared.values.Local.{Local}
use Rattle.fc_values.specs.declared.exports.Export.{Export}
use Rattle.fc_values.specs.Values.{LocalValue, local_of}
use Rattle.fc_values.specs.Fields.{AnyValue, ValueLocal}
use Rattle.fc_values.specs.Exports.{SlotValue, slots_of, slot_at}
use Rattle.fc_values.specs.Trees.{TreeExport}
use Rattle.fc_nodes.specs.Terms.{term_at, kept, kept_types, kept_before}
use Rattle.fc_nodes.specs.Program.{Program, Unfolding, unfolding_of, IsProgram}
use Rattle.fc_nodes.specs.Flat.{tree_at, HaveForms, IsExport, tree_export}
use Rattle.fc_nodes.proofs.Places.{laid_within}
use Rattle.fc_nodes.proofs.Kept.{kept_none, kept_long}
use Rattle.device_eval.specs.Evaluation.{Situation, eval_of}
use Rattle.value_trees.specs.Copies.{WhereSome, near_devices}
use Rattle.device_eval.specs.Copies.{near_tree, env_of, situation_of, EvaluatesCopy}
use Rattle.value_trees.specs.declared.copies.Near.{Near}
use Rattle.value_trees.specs.declared.copies.Snap.{Snap}
use Rattle.value_trees.specs.Snaps.{IsSnap, IsExportOf, NearAreExports, near_copy, snap_copy, tree_of}
use Rattle.fc_nodes.specs.Layouts.{LayoutValue, IsLayout, blank_slots}
use Rattle.alignment.specs.Slots.{FlatEnv}
use Rattle.device_eval.specs.Environments.{near_at, env_at, OwnFits, NearFit, EnvFits}
use Rattle.device_eval.specs.References.{snap_near, snap_env}
use Rattle.device_eval.specs.Walks.{Can, Did, CanAt, DidAt, Stands, Ready}
use Rattle.fc_nodes.proofs.Blanks.{have_forms}
use Rattle.device_eval.proofs.Finish.{main_runs, finished_evaluates, finished_export}
use Rattle.value_trees.proofs.Forms.{have_long}
use Rattle.device_eval.specs.Places.{May, MayAt}
use Rattle.device_eval.proofs.OneExport.{main_may}
use Rattle.device_eval.proofs.MaySteps.{may_at, may_near}
use Rattle.device_eval.proofs.Steps.{can_all, did_all}

-- no blank slot is kept
blank_clear : (vs : List Local) (j : ℕ) → (slot_at j (blank_slots vs)).0 ≡ false
unfolding slot_at
blank_clear [] j = refl
blank_clear (v ∷ vs) zero = refl
blank_clear (v ∷ vs) (suc j) = blank_clear vs j

-- what the root sees
module _ (U : Unfolding) where
  own_same : (o : Option Export) → option_map (tree_at U.main 0)
      (option_map (λ (e : Export). slots_of e.slots.list.items) o)
      ≡ option_map (λ (e : TreeExport). e.tree) (option_map (tree_of U) o)
  own_same None = refl
  own_same (Some e) = refl

  near_same : (ns : List Near) → map (near_at U.main 0) (map snap_near ns) ≡ map near_tree (map (near_copy U) ns)
  near_same [] = refl
  near_same (n ∷ ns) = let ih = near_same ns in rw ih refl

  pub env_same : (s : Snap) → env_at U.main 0 (snap_env s) ≡ env_of (snap_copy U s)
  env_same s = let o = own_same s.own in let n = near_same s.near.items in rw (o, n) refl

  forms_long : (xs : List SlotValue) → HaveForms (kept_types U.main) xs → 0 + kept U.main ≤ length xs
  forms_long xs h = let l = have_long (kept_types U.main) xs h in let k = kept_long U.main in omega (arith, l, k)

  own_fit : (o : Option Export) → WhereSome (IsExportOf U) o
      → OwnFits U.main 0 (option_map (λ (e : Export). slots_of e.slots.list.items) o)
  own_fit None h = tt
  own_fit (Some e) h = (h.marked, forms_long (slots_of e.slots.list.items) h.shaped)

  near_fit : (ns : List Near) → NearAreExports U ns → NearFit U.main 0 (map snap_near ns)
  near_fit [] h = tt
  near_fit (n ∷ ns) h =
      let x = h.0 in (x.marked, forms_long (slots_of n.export.slots.list.items) x.shaped, near_fit ns h.1)

  pub env_fit : (s : Snap) → IsSnap U s → EnvFits U.main 0 (snap_env s)
  env_fit s h = record { own = own_fit s.own h.own; near = near_fit s.near.items h.near }

module _ (P : Program) (p : IsProgram P) (s : Snap) (fits : IsSnap (unfolding_of P) s) (l : LayoutValue)
    (layout : IsLayout P.nodes l) (env : FlatEnv) (same : env ≡ snap_env s) (xs : List SlotValue)
    (blank : xs ≡ blank_slots l.blanks) (S : Situation)
    (here : S ≡ situation_of P.declared (snap_copy (unfolding_of P) s)) where
  blanks_have : HaveForms (kept_types (term_at P.nodes 0)) xs
  blanks_have =
      subst (HaveForms (kept_types (term_at P.nodes 0))) (sym blank)
      (have_forms l.blanks (kept_types (term_at P.nodes 0)) layout.forms)

  outcome_is : eval_of S 0 (term_at P.nodes 0) [] (env_at (term_at P.nodes 0) 0 env)
      ≡ eval_of (situation_of P.declared (snap_copy (unfolding_of P) s)) 0 (term_at P.nodes 0) []
      (env_of (snap_copy (unfolding_of P) s))
  outcome_is =
      let seen : env_at (term_at P.nodes 0) 0 env ≡ env_of (snap_copy (unfolding_of P) s) = ap
      (env_at (term_at P.nodes 0) 0) same ∙ env_same (unfolding_of P) s in
      ap (eval_of S 0 (term_at P.nodes 0) []) seen ∙ ap
      (λ (T : Situation). eval_of T 0 (term_at P.nodes 0) [] (env_of (snap_copy (unfolding_of P) s))) here

  root_stands : Stands P.nodes l 0
  root_stands =
      record {
        layout = layout;
        formed = p.formed;
        laid = p.formed.laid;
        within = laid_within P.nodes 0 (term_at P.nodes 0) p.formed.laid;
      }

  root_can : CanAt S P.nodes 0 [] env xs
  root_can =
      let can : Can S 0 (term_at P.nodes 0) 0 [] env xs = record {
        fits = subst (EnvFits (term_at P.nodes 0) 0) (sym same) (env_fit (unfolding_of P) s fits);
        room = record {
          clear =
              record {
                clear = λ j a b. subst (λ (zs : List SlotValue). (slot_at j zs).0 ≡ false) (sym blank)
                    (blank_clear l.blanks j);
              };
          within = forms_long (unfolding_of P) xs blanks_have;
        };
        runs = subst (λ o. IsSome o) (sym outcome_is) (main_runs P (snap_copy (unfolding_of P) s) p fits.fits);
      } in
      can_all S 0 0 (term_at P.nodes 0) (term_at P.nodes 0) 0 (kept_before P.nodes 0) [] env env xs refl refl
      (sym (kept_none P.nodes)) refl can

  pub root_may : MayAt P.declared S P.nodes [] 0 [] env
  root_may =
      let copy = snap_copy (unfolding_of P) s in
      let seen : env_at (term_at P.nodes 0) 0 env ≡ env_of copy = ap (env_at (term_at P.nodes 0) 0) same
      ∙ env_same (unfolding_of P) s in
      let m = main_may P copy p fits.fits in
      let m' = subst (λ T. May P.declared T [] 0 (term_at P.nodes 0) (near_devices copy.near) [] (env_of copy))
      (sym here) m in
      may_at env refl refl (sym (kept_none P.nodes))
      (may_near 0 env (subst (λ e. May P.declared S [] 0 (term_at P.nodes 0) (near_devices copy.near) [] e) (sym seen)
      m'))

  pub root_ready : Ready S P.nodes l 0 [] env xs
  root_ready = record { can = root_can; stands = root_stands }

  module _ (v : AnyValue) (ys : List SlotValue) (did : DidAt S P.nodes 0 [] env xs v ys) where
    did_0 : Did S 0 (term_at P.nodes 0) 0 [] env xs v ys
    did_0 =
        did_all S 0 0 (term_at P.nodes 0) (term_at P.nodes 0) (kept_before P.nodes 0) 0 [] env env xs ys v refl refl
        (kept_none P.nodes) refl did

    gives : eval_of (situation_of P.declared (snap_copy (unfolding_of P) s)) 0 (term_at P.nodes 0) []
        (env_of (snap_copy (unfolding_of P) s)) ≡ Some (v, tree_at (term_at P.nodes 0) 0 ys)
    gives = let d = did_0 in sym outcome_is ∙ d.gives

    module _ (w : LocalValue) (is : v ≡ ValueLocal w) where
      gives_local : eval_of (situation_of P.declared (snap_copy (unfolding_of P) s)) 0 (term_at P.nodes 0) []
          (env_of (snap_copy (unfolding_of P) s)) ≡ Some (ValueLocal w, tree_at (term_at P.nodes 0) 0 ys)
      gives_local = gives ∙ ap (λ (u : AnyValue). Some (u, tree_at (term_at P.nodes 0) 0 ys)) is

      pub root_export : IsExport (unfolding_of P) (record { value = w; slots = ys })
      root_export =
          let d = did_0 in finished_export P (snap_copy (unfolding_of P) s) p fits.fits xs ys w gives_local d.marked
          d.still.still blanks_have (sym d.out.long)

      pub root_evaluates : EvaluatesCopy (unfolding_of P) (snap_copy (unfolding_of P) s)
          (tree_export (unfolding_of P) (record { value = w; slots = ys }))
      root_evaluates = finished_evaluates P (snap_copy (unfolding_of P) s) p fits.fits xs ys w gives_local

-- the situation of a context over the inputs of a copy
abbrev situation_with : Program → Snap → List Local → Situation
situation_with P s inputs =
    record { device = s.device; ceiling = P.declared.ceiling; least = P.declared.least; inputs = map local_of inputs }

pub situation_as : (P : Program) (s : Snap) (inputs : List Local) → inputs ≡ s.inputs.items
    → situation_with P s inputs ≡ situation_of P.declared (snap_copy (unfolding_of P) s)
situation_as P s inputs e = ap (situation_with P s) e
