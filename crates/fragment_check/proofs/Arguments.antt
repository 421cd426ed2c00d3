-- Crates above cite this module: the arguments of the builtin at a place.
use Rattle.std.proofs.Common.{◌≡◌, ℕ, suc, ◌+◌, List, [], ◌∷◌, length, refl, sym, subst, arith, get_or, true}
use Rattle.fc_values.specs.declared.builtins.Builtin.{Builtin}
use Rattle.fc_values.specs.declared.builtins.Builtin.TheVariants as op
use Rattle.fc_values.specs.Types.{ValueType}
use Rattle.fc_nodes.specs.declared.nodes.Node.{Node}
use Rattle.fc_nodes.specs.Terms.{size, Sort, OfLeaf, OfApply, OfNbr, OfEvolve, OfIf, OfLet, term_at, HasNode, Laid, WellFormed}
use Rattle.fc_nodes.specs.Places.{StandsAt}
use Rattle.fc_nodes.proofs.Places.{formed_above, laid_within}
use Rattle.fc_nodes.proofs.Kids.{apply_laid}
use Rattle.fragment_check.specs.Forms.{is_builtin_sort, TwoAt, ThreeAt}

pub hood_sort : (s : Sort) → is_builtin_sort op.MinHoodLoc s ≡ true → s ≡ OfApply op.MinHoodLoc
hood_sort (OfLeaf l) e = absurd cc
hood_sort (OfApply op.MinHoodLoc) e = refl
hood_sort (OfApply op.Less) e = absurd cc
hood_sort (OfApply op.Mux) e = absurd cc
hood_sort (OfApply op.Add) e = absurd cc
hood_sort (OfApply op.Sub) e = absurd cc
hood_sort (OfApply op.Mul) e = absurd cc
hood_sort (OfApply op.Rise) e = absurd cc
hood_sort (OfApply op.Min) e = absurd cc
hood_sort (OfApply op.Max) e = absurd cc
hood_sort (OfApply op.Equal) e = absurd cc
hood_sort (OfApply op.And) e = absurd cc
hood_sort (OfApply op.Or) e = absurd cc
hood_sort (OfApply op.Not) e = absurd cc
hood_sort (OfApply op.Pair) e = absurd cc
hood_sort (OfApply op.Fst) e = absurd cc
hood_sort (OfApply op.Snd) e = absurd cc
hood_sort (OfApply op.MaxHoodLoc) e = absurd cc
hood_sort (OfApply op.SumHood) e = absurd cc
hood_sort (OfApply op.AnyHood) e = absurd cc
hood_sort (OfApply op.AllHood) e = absurd cc
hood_sort OfNbr e = absurd cc
hood_sort (OfEvolve v) e = absurd cc
hood_sort OfIf e = absurd cc
hood_sort OfLet e = absurd cc

pub rise_sort : (s : Sort) → is_builtin_sort op.Rise s ≡ true → s ≡ OfApply op.Rise
rise_sort (OfLeaf l) e = absurd cc
rise_sort (OfApply op.Rise) e = refl
rise_sort (OfApply op.MinHoodLoc) e = absurd cc
rise_sort (OfApply op.Less) e = absurd cc
rise_sort (OfApply op.Mux) e = absurd cc
rise_sort (OfApply op.Add) e = absurd cc
rise_sort (OfApply op.Sub) e = absurd cc
rise_sort (OfApply op.Mul) e = absurd cc
rise_sort (OfApply op.Min) e = absurd cc
rise_sort (OfApply op.Max) e = absurd cc
rise_sort (OfApply op.Equal) e = absurd cc
rise_sort (OfApply op.And) e = absurd cc
rise_sort (OfApply op.Or) e = absurd cc
rise_sort (OfApply op.Not) e = absurd cc
rise_sort (OfApply op.Pair) e = absurd cc
rise_sort (OfApply op.Fst) e = absurd cc
rise_sort (OfApply op.Snd) e = absurd cc
rise_sort (OfApply op.MaxHoodLoc) e = absurd cc
rise_sort (OfApply op.SumHood) e = absurd cc
rise_sort (OfApply op.AnyHood) e = absurd cc
rise_sort (OfApply op.AllHood) e = absurd cc
rise_sort OfNbr e = absurd cc
rise_sort (OfEvolve v) e = absurd cc
rise_sort OfIf e = absurd cc
rise_sort OfLet e = absurd cc

stands : (ns : List Node) (q r : ℕ) → q ≡ r → Laid ns r (term_at ns q) → StandsAt ns q
stands ns q r e l = subst (λ i. Laid ns i (term_at ns q) → StandsAt ns q) e (λ l. record { within = laid_within ns q _ l; laid = l }) l

module _ (ns : List Node) (formed : WellFormed ns) (p : ℕ) (st : StandsAt ns p) (o : Builtin) (t : ValueType) where
  pub two_at : (ks : List ℕ) → HasNode ns p (OfApply o) t ks → length ks ≡ 2 → TwoAt ns o p (get_or ks 0 0) (get_or ks 1 0)
  two_at [] h e = absurd (omega (arith, e))
  two_at (a ∷ []) h e = absurd (omega (arith, e))
  two_at (a ∷ b ∷ c ∷ ks) h e = absurd (omega (arith, e))
  two_at (a ∷ b ∷ []) h e =
      let k = apply_laid ns (formed_above ns formed) p o t (a ∷ b ∷ []) h st.laid in
      let l = k.kids in
      let s = k.stand_at in
      let ea : a ≡ suc p = cc in
      let eb : b ≡ suc p + size (term_at ns a) = cc in
      record { type = t; term = k.term; first_is = ea; second_is = eb; first = stands ns a (suc p) ea l.0; second = stands ns b (suc p + size (term_at ns a)) eb l.1.0 }

  pub three_at : (ks : List ℕ) → HasNode ns p (OfApply o) t ks → length ks ≡ 3 → ThreeAt ns o p (get_or ks 0 0) (get_or ks 1 0) (get_or ks 2 0)
  three_at [] h e = absurd (omega (arith, e))
  three_at (a ∷ []) h e = absurd (omega (arith, e))
  three_at (a ∷ b ∷ []) h e = absurd (omega (arith, e))
  three_at (a ∷ b ∷ c ∷ d ∷ ks) h e = absurd (omega (arith, e))
  three_at (a ∷ b ∷ c ∷ []) h e =
      let k = apply_laid ns (formed_above ns formed) p o t (a ∷ b ∷ c ∷ []) h st.laid in
      let l = k.kids in
      let s = k.stand_at in
      let ea : a ≡ suc p = cc in
      let eb : b ≡ suc p + size (term_at ns a) = cc in
      let ec : c ≡ suc p + size (term_at ns a) + size (term_at ns b) = cc in
      record {
        type = t;
        term = k.term;
        first_is = ea;
        second_is = eb;
        third_is = ec;
        first = stands ns a (suc p) ea l.0;
        second = stands ns b (suc p + size (term_at ns a)) eb l.1.0;
        third = stands ns c (suc p + size (term_at ns a) + size (term_at ns b)) ec l.1.1.0;
      }

  pub two_from : (ks ls : List ℕ) → HasNode ns p (OfApply o) t ls → ks ≡ ls → length ks ≡ 2 → TwoAt ns o p (get_or ks 0 0) (get_or ks 1 0)
  two_from ks ls h e l = two_at ks (subst (HasNode ns p (OfApply o) t) (sym e) h) l

  pub three_from : (ks ls : List ℕ) → HasNode ns p (OfApply o) t ls → ks ≡ ls → length ks ≡ 3 → ThreeAt ns o p (get_or ks 0 0) (get_or ks 1 0) (get_or ks 2 0)
  three_from ks ls h e l = three_at ks (subst (HasNode ns p (OfApply o) t) (sym e) h) l
