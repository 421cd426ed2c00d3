-- The copies of the neighbours of which a row has heard something, one after another.
use Rattle.std.proofs.Common.{◌≡◌, ◌<◌, ◌+◌, ℕ, suc, List, [], ◌∷◌, ◌++◌, length, map, drop, get_or, sym, ◌∙◌, ap, subst, arith, Some, None, Option, append_assoc}
use Rattle.std.specs.Prelude.{option_map}
use Rattle.std.proofs.Math.Seq.{drop-cons}
use Rattle.std.proofs.lemmas.List.{map-append}
use Rattle.fc_values.specs.declared.exports.Export.{Export}
use Rattle.fc_values.specs.Exports.{FlatExport, export_of}
use Rattle.fc_values.specs.Trees.{NearCopy}
use Rattle.fc_nodes.specs.Program.{Unfolding}
use Rattle.fc_nodes.specs.Flat.{tree_export, IsExport}
use Rattle.value_trees.specs.declared.copies.Near.{Near}
use Rattle.value_trees.specs.Copies.{WhereSome}
use Rattle.value_trees.specs.Snaps.{near_copy, IsExportOf, NearAreExports}
use Rattle.firing_core.specs.Cores.{near_with}
use Rattle.mail_book.specs.declared.letters.Letters.{Letters}
use Rattle.mail_book.specs.Letters.{heard_of, AllLetters}
use Rattle.mail_book.specs.Rows.{heard_copies}
use Rattle.mail_book.proofs.LetterWrites.{letters_at}
use Rattle.mail_book.proofs.Taking.{drop_here}

abbrev neighbour : ℕ × ℕ → Export → Near
neighbour n e = record { device = n.0; weight = n.1; export = e }

module _ (ns : List (ℕ × ℕ)) (row : List Letters) (at : ℕ) (l : Letters) (h : at < length ns) (k : at < length row) (is : l ≡ get_or row at l) where
  abbrev n : ℕ × ℕ
  n = get_or ns at (0, 0)

  module _ (U : Unfolding) where
    here : heard_copies U (drop at ns) (drop at row) ≡ near_with n (heard_of U l) (heard_copies U (drop (at + 1) ns) (drop (at + 1) row))
    here =
        let s : suc at ≡ at + 1 = omega arith in
        ap (λ xs. heard_copies U xs (drop at row)) (drop-cons ns at (0, 0) h ∙ ap (λ i. n ∷ drop i ns) s)
        ∙ ap (heard_copies U (n ∷ drop (at + 1) ns)) (drop_here row at l k is)

    -- of this neighbour nothing was heard, or an export
    pub none_more : (near : List Near) (whole : List NearCopy) → l.heard ≡ None → map (near_copy U) near ++ heard_copies U (drop at ns) (drop at row) ≡ whole
        → map (near_copy U) near ++ heard_copies U (drop (at + 1) ns) (drop (at + 1) row) ≡ whole
    none_more near whole q r =
        let step : heard_copies U (drop at ns) (drop at row) ≡ heard_copies U (drop (at + 1) ns) (drop (at + 1) row) = here ∙ ap (λ (o : Option Export). near_with n (option_map (λ (e : Export). tree_export U (export_of e)) o) (heard_copies U (drop (at + 1) ns) (drop (at + 1) row))) q in
        ap (λ cs. map (near_copy U) near ++ cs) (sym step) ∙ r

    pub some_more : (near new : List Near) (whole : List NearCopy) (e x : Export) → l.heard ≡ Some e → export_of x ≡ export_of e → new ≡ near ++ neighbour n x ∷ []
        → map (near_copy U) near ++ heard_copies U (drop at ns) (drop at row) ≡ whole → map (near_copy U) new ++ heard_copies U (drop (at + 1) ns) (drop (at + 1) row) ≡ whole
    some_more near new whole e x q same made r =
        let rest : List NearCopy = heard_copies U (drop (at + 1) ns) (drop (at + 1) row) in
        let step : heard_copies U (drop at ns) (drop at row) ≡ near_copy U (neighbour n x) ∷ rest =
        here
        ∙ ap (λ (o : Option Export). near_with n (option_map (λ (e : Export). tree_export U (export_of e)) o) (heard_copies U (drop (at + 1) ns) (drop (at + 1) row))) q
        ∙ ap (λ (f : FlatExport). near_with n (Some (tree_export U f)) (heard_copies U (drop (at + 1) ns) (drop (at + 1) row))) (sym same) in
        ap (λ (xs : List Near). map (near_copy U) xs ++ heard_copies U (drop (at + 1) ns) (drop (at + 1) row)) made
        ∙ ap (λ cs. cs ++ heard_copies U (drop (at + 1) ns) (drop (at + 1) row)) (map-append (near_copy U) near (neighbour n x ∷ []))
        ∙ append_assoc (map (near_copy U) near) (near_copy U (neighbour n x) ∷ []) (heard_copies U (drop (at + 1) ns) (drop (at + 1) row))
        ∙ ap (λ cs. map (near_copy U) near ++ cs) (sym step)
        ∙ r

    near_snoc : (near : List Near) (x : Near) → NearAreExports U near → IsExportOf U x.export → NearAreExports U (near ++ x ∷ [])
    near_snoc [] x a k = (k, tt)
    near_snoc (y ∷ near) x a k = (a.0, near_snoc near x a.1 k)

    pub exports_more : (near new : List Near) (e x : Export) → l.heard ≡ Some e → export_of x ≡ export_of e → new ≡ near ++ neighbour n x ∷ [] → AllLetters U row → NearAreExports U near → NearAreExports U new
    exports_more near new e x q same made all a =
        let w : WhereSome (IsExportOf U) (Some e) = subst (WhereSome (IsExportOf U)) q (letters_at U row at l all k is).heard in
        subst (NearAreExports U) (sym made) (near_snoc near (neighbour n x) a (subst (IsExport U) (sym same) w))
