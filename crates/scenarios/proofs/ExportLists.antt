-- One export after another.
use Rattle.std.proofs.Common.{◌≡◌, ℕ, suc, ◌<◌, ◌≤◌, ◌+◌, List, [], ◌∷◌, ◌++◌, length, refl, sym, ◌∙◌, ap, subst, arith, get_or, drop, append-nil, append_assoc}
use Rattle.std.proofs.Math.ListN.{drop_of_length-le}
use Rattle.std.proofs.Math.Seq.{drop-cons}
use Rattle.fc_values.specs.declared.exports.Export.{Export}
use Rattle.fc_values.specs.Exports.{FlatExport, export_of}
use Rattle.fc_nodes.specs.Program.{Unfolding}
use Rattle.scenarios.specs.Words.{Words}
use Rattle.scenarios.specs.Rubbish.{IsDrawn, AreDrawn, after_export, of_device, of_devices}

-- the exports so far, before those that are drawn from these words for the devices that are left, are those of all
pub record SoFar (U : Unfolding) (w : Words) (all : List ℕ) (v : Words) (left : List ℕ) (es : List (ℕ × Export)) : Type 0 where
  pub rest : (ys : List (ℕ × FlatExport)) → AreDrawn U v left ys → AreDrawn U w all (of_devices es ++ ys)

module _ (U : Unfolding) (w : Words) (all : List ℕ) where
  pub none_yet : SoFar U w all w all []
  none_yet = record { rest = λ ys h. h }

  pushed : (es : List (ℕ × Export)) (e : ℕ × Export) → of_devices (es ++ e ∷ []) ≡ of_devices es ++ of_device e ∷ []
  pushed [] e = refl
  pushed (x ∷ xs) e = ap (λ (ys : List (ℕ × FlatExport)). of_device x ∷ ys) (pushed xs e)

  one_more : (v u : Words) (d : ℕ) (left : List ℕ) (es fs : List (ℕ × Export)) (e : Export) → SoFar U w all v (d ∷ left) es → IsDrawn U v (export_of e) → u ≡ after_export U v
      → fs ≡ es ++ (d, e) ∷ [] → SoFar U w all u left fs
  one_more v u d left es fs e h i p q = record {
    rest = λ ys r.
        let r' : AreDrawn U (after_export U v) left ys = subst (λ (x : Words). AreDrawn U x left ys) p r in
        let whole = h.rest ((d, export_of e) ∷ ys) (refl, i, r') in
        let same : of_devices es ++ (d, export_of e) ∷ ys ≡ of_devices fs ++ ys =
        sym (append_assoc (of_devices es) ((d, export_of e) ∷ []) ys) ∙ ap (λ (xs : List (ℕ × FlatExport)). xs ++ ys) (sym (ap of_devices q ∙ pushed es (d, e))) in
        subst (λ (xs : List (ℕ × FlatExport)). AreDrawn U w all xs) same whole;
  }

  pub at_next : (v u : Words) (i : ℕ) (es fs : List (ℕ × Export)) (e : Export) → i < length all → SoFar U w all v (drop i all) es → IsDrawn U v (export_of e)
      → u ≡ after_export U v → fs ≡ es ++ (get_or all i 0, e) ∷ [] → SoFar U w all u (drop (i + 1) all) fs
  at_next v u i es fs e b h d p q =
      let n : suc i ≡ i + 1 = omega arith in
      let h' = subst (λ (ds : List ℕ). SoFar U w all v ds es) (drop-cons all i 0 b) h in
      subst (λ (j : ℕ). SoFar U w all u (drop j all) fs) n (one_more v u (get_or all i 0) (drop (suc i) all) es fs e h' d p q)

  pub all_drawn : (v : Words) (i : ℕ) (es : List (ℕ × Export)) → length all ≤ i → SoFar U w all v (drop i all) es → AreDrawn U w all (of_devices es)
  all_drawn v i es b h =
      let h' = subst (λ (ds : List ℕ). SoFar U w all v ds es) (drop_of_length-le all b) h in
      subst (λ (xs : List (ℕ × FlatExport)). AreDrawn U w all xs) (append-nil (of_devices es)) (h'.rest [] tt)
