-- A finished walk of `main` gives the export of the copy.
use Rattle.std.proofs.Common.{◌≡◌, ℕ, List, [], length, refl, sym, ap, subst, false, Some, IsSome}
use Rattle.fc_values.specs.Values.{LocalValue, Fits}
use Rattle.fc_values.specs.Fields.{AnyValue, ValueLocal, with_number}
use Rattle.fc_values.specs.BuiltinTypes.{inner}
use Rattle.fc_values.specs.Trees.{Tree, Copy}
use Rattle.fc_values.specs.Exports.{SlotValue, slot_at}
use Rattle.fc_nodes.specs.Terms.{term_type, kept_types}
use Rattle.fc_nodes.specs.Program.{Program, Unfolding, unfolding_of, IsProgram}
use Rattle.fc_nodes.specs.Flat.{FitsTree, IsWellTyped, tree_at, Marked, HaveForms, tree_export, IsExport}
use Rattle.device_eval.specs.Evaluation.{Outcome, eval_of}
use Rattle.value_trees.specs.Copies.{near_devices, FitsCopy}
use Rattle.device_eval.specs.Copies.{env_of, situation_of, EvaluatesCopy}
use Rattle.device_eval.proofs.Progress.{Gives, IsLocalOf, local_of_type}
use Rattle.device_eval.proofs.OneExport.{main_gives}
use Rattle.device_eval.proofs.Agree.{gives_rule, only_one}
use Rattle.device_eval.proofs.Shapes.{root_forms}

module _ (P : Program) (s : Copy) (p : IsProgram P) (h : FitsCopy (unfolding_of P) s) where
  abbrev pub U : Unfolding
  U = unfolding_of P

  abbrev pub outcome : Outcome
  outcome = eval_of (situation_of P.declared s) 0 U.main [] (env_of s)

  there : Gives P.declared.ceiling s.device (near_devices s.near) (term_type U.main) (FitsTree P.declared.ceiling U.main) outcome
  there = main_gives U s p.lawful p.typed h

  -- evaluation isn't stuck
  pub main_runs : IsSome outcome
  main_runs = let is = there.is in rw is refl

  module _ (v : AnyValue) (tree : Tree) (e : outcome ≡ Some (v, tree)) where
    -- the value is local, and fits
    pub main_local : IsLocalOf P.declared.ceiling p.root.0 v
    main_local =
        let same = only_one outcome there.value v there.tree tree there.is e in
        subst (IsLocalOf P.declared.ceiling p.root.0) same.0 (local_of_type P.declared.ceiling (with_number s.device (near_devices s.near)) (term_type U.main) p.root.0 there.value p.root.1 there.fits)

    -- and so does the tree
    pub main_formed : FitsTree P.declared.ceiling U.main tree
    main_formed = let same = only_one outcome there.value v there.tree tree there.is e in subst (FitsTree P.declared.ceiling U.main) same.1 there.formed

  -- slots that stand for the tree are the export
  module _ (xs ys : List SlotValue) (v : LocalValue) (e : outcome ≡ Some (ValueLocal v, tree_at U.main 0 ys)) where
    pub finished_evaluates : EvaluatesCopy U s (tree_export U (record { value = v; slots = ys }))
    finished_evaluates = record { main = gives_rule (situation_of P.declared s) 0 U.main [] (env_of s) (ValueLocal v) (tree_at U.main 0 ys) e }

    pub finished_typed : IsWellTyped U (tree_export U (record { value = v; slots = ys }))
    finished_typed =
        let l = main_local (ValueLocal v) (tree_at U.main 0 ys) e in
        let is = l.is in
        let same : l.value ≡ v = cc in
        let fits = subst (Fits P.declared.ceiling p.root.0) same l.fits in
        let inside : p.root.0 ≡ inner (term_type U.main) = sym (ap inner p.root.1) in
        record { value = subst (λ t. Fits P.declared.ceiling t v) inside fits; tree = main_formed (ValueLocal v) (tree_at U.main 0 ys) e }

    pub finished_export : Marked U.main 0 ys → ((j : ℕ) → (slot_at j ys).0 ≡ false → slot_at j ys ≡ slot_at j xs) → HaveForms (kept_types U.main) xs → length ys ≡ length xs → IsExport U (record { value = v; slots = ys })
    finished_export m still forms long = record {
      typed = finished_typed;
      shaped = root_forms P.declared.ceiling U.main xs ys (λ j c. ap (λ (x : SlotValue). x.1) (still j c)) forms long (main_formed (ValueLocal v) (tree_at U.main 0 ys) e) m;
      marked = m;
    }
