-- Crates above cite this module: a slot for each kept place, node after node.
use Rattle.std.proofs.Common.{◌≡◌, ℕ, zero, suc, ◌<◌, ◌≤◌, ◌⊎◌, inl, inr, List, [], ◌∷◌, ◌++◌, length, take, get_or, refl, sym, ◌∙◌, ap, arith, Option, Some, None}
use Rattle.std.specs.Prelude.{option_map, option_and_then, option_to_list, is_some}
use Rattle.std.proofs.Math.Seq.{take-length, get_or-append_seam}
use Rattle.std.proofs.lemmas.List.{get_or_append_left, length-map, length_push}
use Rattle.std.proofs.lemmas.Option.{slice_get_past}
use Rattle.fc_values.specs.declared.values.Local.{Local}
use Rattle.fc_values.specs.Types.{LocalType}
use Rattle.fc_values.specs.Values.{local_of, form_of}
use Rattle.fc_nodes.specs.declared.nodes.Node.{Node}
use Rattle.fc_nodes.specs.Terms.{View, view_at, view_of, view_keeps, node_keeps, kept_before, nodes_kept_types, WellFormed, one_if}
use Rattle.fc_nodes.specs.Flat.{HaveForms}
use Rattle.fc_nodes.proofs.Kept.{types_step, types_long, types_whole}
use Rattle.fc_nodes.specs.Layouts.{IsLayout, number_at, forms_of, blank_slots}

-- values of these types are blanks of these forms
pub have_forms : (vs : List Local) (ts : List LocalType) → forms_of vs ≡ ts → HaveForms ts (blank_slots vs)
have_forms [] [] e = tt
have_forms (v ∷ vs) (t ∷ ts) e = let f : form_of (local_of v) ≡ t = cc in (f, have_forms vs ts cc)
have_forms [] (t ∷ ts) e = absurd cc
have_forms (v ∷ vs) [] e = absurd cc

past : (xs : List (Option ℕ)) (p : ℕ) → length xs ≤ p → get_or xs p None ≡ None
past [] p h = refl
past (x ∷ xs) zero h = absurd (omega arith)
past (x ∷ xs) (suc p) h = past xs p (omega arith)

few_one : (o : Option LocalType) → one_if (is_some o) ≤ 1
few_one None = omega arith
few_one (Some t) = omega arith

few : (ns : List Node) (i : ℕ) → kept_before ns i ≤ i
unfolding kept_before
few [] i = omega arith
few (n ∷ ns) zero = omega arith
few (n ∷ ns) (suc i) = let f = few_one (node_keeps n) in let g = few ns i in omega (arith, f, g)

-- the layout of the nodes before a place
module _ (ns : List Node) (i : ℕ) (numbers : List (Option ℕ)) (blanks : List Local) (long : length numbers ≡ i)
    (each : (p : ℕ) → p < i → get_or numbers p None ≡ number_at ns p) (forms : forms_of blanks ≡ nodes_kept_types (take i ns)) where
  pub count : length blanks ≡ kept_before ns i
  count = let l = length-map blanks (λ (v : Local). form_of (local_of v)) in let t = types_long ns i in let e = ap (length {A = LocalType}) forms in omega (arith, l, t, e)

  pub few_blanks : length blanks ≤ i
  few_blanks = let c = count in let f = few ns i in omega (arith, c, f)

  module _ (n : Node) (at : view_at ns i ≡ Some (view_of n)) (j : ℕ) (next : j ≡ suc i) where
    pub forms_more : (blanks' : List Local) → forms_of blanks' ≡ forms_of blanks ++ option_to_list (node_keeps n) → forms_of blanks' ≡ nodes_kept_types (take j ns)
    forms_more blanks' e =
        e ∙ ap (λ (ts : List LocalType). ts ++ option_to_list (node_keeps n)) forms ∙ sym (types_step ns i _ _ _ at) ∙ ap (λ (k : ℕ). nodes_kept_types (take k ns)) (sym next)

    here : option_map (λ (t : LocalType). length blanks) (node_keeps n) ≡ number_at ns i
    here = let c = count in ap (λ (k : ℕ). option_map (λ (t : LocalType). k) (node_keeps n)) c ∙ ap (λ (o : Option View). option_map (λ (t : LocalType). kept_before ns i) (option_and_then view_keeps o)) (sym at)

    pub long_more : (numbers' : List (Option ℕ)) → numbers' ≡ numbers ++ option_map (λ (t : LocalType). length blanks) (node_keeps n) ∷ [] → length numbers' ≡ j
    long_more numbers' e = let l = length_push numbers (option_map (λ (t : LocalType). length blanks) (node_keeps n)) in let f = ap (length {A = Option ℕ}) e in omega (arith, l, f, long, next)

    pub each_more : (numbers' : List (Option ℕ)) → numbers' ≡ numbers ++ option_map (λ (t : LocalType). length blanks) (node_keeps n) ∷ [] → (p : ℕ) → p < j → get_or numbers' p None ≡ number_at ns p
    each_more numbers' e p h = by_place (before_or p (omega (arith, h, next)))
      where
        before_or : (p : ℕ) → p < suc i → (p < i) ⊎ (p ≡ i)
        before_or p h = grind arith

        by_place : (p < i) ⊎ (p ≡ i) → get_or numbers' p None ≡ number_at ns p
        by_place (inl b) = let w : p < length numbers = omega (arith, b, long) in rw e (get_or_append_left numbers _ None p w) ∙ each p b
        by_place (inr b) =
            let w : p ≡ length numbers = omega (arith, b, long) in
            rw e (ap (λ (q : ℕ). get_or (numbers ++ option_map (λ (t : LocalType). length blanks) (node_keeps n) ∷ []) q None) w ∙ get_or-append_seam numbers _ [] None ∙ here ∙ ap (number_at ns) (sym b))

  pub layout_is : i ≡ length ns → WellFormed ns → IsLayout ns (record { numbers = numbers; blanks = blanks })
  layout_is e w = record { each = λ p. by_place p (before_or p); forms = forms ∙ ap (λ (j : ℕ). nodes_kept_types (take j ns)) e ∙ ap nodes_kept_types (take-length ns) ∙ types_whole ns w }
    where
      before_or : (p : ℕ) → (p < i) ⊎ (i ≤ p)
      before_or p = grind arith

      by_place : (p : ℕ) → (p < i) ⊎ (i ≤ p) → get_or numbers p None ≡ number_at ns p
      by_place p (inl b) = each p b
      by_place p (inr b) =
          let w : length ns ≤ p = omega (arith, b, e) in
          past numbers p (omega (arith, b, long)) ∙ ap (λ (o : Option Node). option_map (λ (t : LocalType). kept_before ns p) (option_and_then view_keeps (option_map view_of o))) (sym (slice_get_past ns p w))
