-- A solution of a body `rise(t, x, s)` is one of `t`, where s is at least 1.
use Rattle.std.proofs.Common.{◌≡◌, ℕ, suc, ◌≤◌, ◌+◌, List, [], ◌∷◌, refl, sym, ◌∙◌, ap, subst, arith, true, Some}
use Rattle.std.proofs.lemmas.Bool.Decides.{nat_tests}
use Rattle.fc_values.specs.declared.builtins.Builtin.TheVariants as op
use Rattle.fc_values.specs.Types.{ValueType}
use Rattle.fc_values.specs.Values.{LocalValue, IntValue}
use Rattle.fc_values.specs.Fields.{ValueLocal, restricted}
use Rattle.fc_values.specs.Builtins.{builtin_value}
use Rattle.fc_values.specs.BuiltinTypes.{HasRule}
use Rattle.fc_values.specs.Positions.{argument_nth}
use Rattle.fc_nodes.specs.Typing.{types_of}
use Rattle.fc_nodes.specs.Terms.{Literal, Variable, Sense, Uid, NbrLink, Term, Terms, Plain, Apply, Nbr, Evolve, If, Let, NoMore, More, size}
use Rattle.topology.specs.Networks.{Network, IsNetwork}
use Rattle.topology.specs.Nearby.{neighbour_numbers}
use Rattle.interval_facts.specs.Ranges.{RangeValue}
use Rattle.interval_facts.specs.Solutions.{Devices, In, ValueMap, ValueMaps, near_among, around, at_device, Solves, SolveAll}
use Rattle.interval_facts.specs.Claims.{InRanges, AllInRanges}
use Rattle.interval_facts.proofs.Pointwise.{pointwise_nth}
use Rattle.fc_nodes.specs.Variables.{is_own}
use Rattle.growth_facts.specs.Leads.{lead}
use Rattle.converge_laws.proofs.Around.{local_back, local_in}
use Rattle.converge_laws.proofs.Exact.{hood_types}
use Rattle.converge_laws.proofs.LimitedRise.{IsRise, rise_is}

module _ (rs : ℕ → RangeValue) (N : Network) (net : IsNetwork N) (D : Devices) (W : ValueMaps) (p at : ℕ) (u1 : ValueType) (h l own w : Term) (f : ℕ → LocalValue) where
  abbrev M : ℕ
  M = N.declared.ceiling

  abbrev T : Term
  T = Apply u1 op.MinHoodLoc (More h (More l NoMore))

  abbrev args : Terms
  args = More (Apply u1 op.MinHoodLoc (More h (More l NoMore))) (More own (More w NoMore))

  abbrev place : ℕ
  place = suc at + size (Apply u1 op.MinHoodLoc (More h (More l NoMore))) + size own

  -- the target and the gain
  pub record RiseGoal (Gs : List ValueMap) (z : SolveAll N (suc at) args D W Gs) : Type 0 where
    pub goal : ValueMap
    pub gain : ValueMap
    pub solves : Solves N (suc at) T D W goal
    pub gains : Solves N place w D W gain
    pub ranged : AllInRanges rs N (suc at) args D W Gs z → InRanges rs N (suc at) T D W goal solves × InRanges rs N place w D W gain gains
    pub is : (d : ℕ) → In D d → 1 ≤ lead (argument_nth 0 (gain d)) → goal d ≡ ValueLocal (f d)
    pub int : (d : ℕ) → In D d → f d ≡ IntValue (lead (f d))

  own_map : (q : ℕ) (k : Term) (G : ValueMap) → is_own p k ≡ true → Solves N q k D W G → (d : ℕ) → In D d → W p d ≡ ValueLocal (f d) → G d ≡ ValueLocal (f d)
  own_map q (Plain t' (Variable n)) G o z d i e =
      let n' : n ≡ p = grind (arith, o, nat_tests) in
      z.1 d i ∙ ap (restricted d (neighbour_numbers (near_among N D d))) (ap (λ k. W k d) n' ∙ e)
  own_map q (Plain t' (Literal x)) G o z d i e = absurd cc
  own_map q (Plain t' (Sense k)) G o z d i e = absurd cc
  own_map q (Plain t' Uid) G o z d i e = absurd cc
  own_map q (Plain t' NbrLink) G o z d i e = absurd cc
  own_map q (Apply t' g xs) G o z d i e = absurd cc
  own_map q (Nbr t' k) G o z d i e = absurd cc
  own_map q (Evolve t' g k l) G o z d i e = absurd cc
  own_map q (If t' c k l) G o z d i e = absurd cc
  own_map q (Let t' k l) G o z d i e = absurd cc

  pub rise_goal : is_own p own ≡ true → HasRule op.MinHoodLoc (types_of (More h (More l NoMore))) u1 → ((n : ℕ) → W p n ≡ ValueLocal (f n)) → (Gs : List ValueMap) (z : SolveAll N (suc at) args D W Gs)
      → ((d : ℕ) → In D d → builtin_value op.Rise M d (at_device d Gs) ≡ Some (ValueLocal (f d))) → RiseGoal Gs z
  rise_goal o rule e [] z q = absurd z
  rise_goal o rule e (X ∷ []) z q = absurd z.1
  rise_goal o rule e (X ∷ Y ∷ []) z q = absurd z.1.1
  rise_goal o rule e (X ∷ Y ∷ Z ∷ K ∷ Gs) z q = absurd z.1.1.1
  rise_goal o rule e (X ∷ Y ∷ Z ∷ []) z q = record {
    goal = X;
    gain = Z;
    solves = z.0;
    gains = z.1.1.0;
    ranged = λ r. (r.0, r.1.1.0);
    is = λ d i s. let k = made d i in (local d i).0 ∙ ap ValueLocal (same d i s k);
    int = λ d i. (made d i).last;
  }
    where
      made : (d : ℕ) → In D d → IsRise (argument_nth 0 (X d)) (f d) (argument_nth 0 (Z d)) (f d)
      made d i =
          let y = own_map (suc at + size (Apply u1 op.MinHoodLoc (More h (More l NoMore)))) own Y o z.1.0 d i (e d) in
          let v : builtin_value op.Rise M d (X d ∷ ValueLocal (f d) ∷ Z d ∷ []) ≡ Some (ValueLocal (f d)) = subst (λ x. builtin_value op.Rise M d (X d ∷ x ∷ Z d ∷ []) ≡ Some (ValueLocal (f d))) y (q d i) in
          rise_is M (argument_nth 0 (X d)) (f d) (argument_nth 0 (Z d)) (f d) ((pointwise_nth op.Rise M d (X d ∷ ValueLocal (f d) ∷ Z d ∷ []) (ValueLocal (f d)) refl v).each 0 tt)

      local : (d : ℕ) → In D d → (X d ≡ ValueLocal (local_in (X d))) × Unit {0}
      local d i = let types = hood_types (types_of (More h (More l NoMore))) u1 rule in ((local_back M (around N D d) u1 types.of (X d) types.value (z.0.0 d i)).0, tt)

      same : (d : ℕ) → In D d → 1 ≤ lead (argument_nth 0 (Z d)) → IsRise (argument_nth 0 (X d)) (f d) (argument_nth 0 (Z d)) (f d) → local_in (X d) ≡ f d
      same d i s k =
          let x = ap (argument_nth 0) (local d i).0 in
          let fixed = ap lead k.is in
          let equal : lead (argument_nth 0 (X d)) ≡ lead (f d) = omega (arith, fixed, s) in
          sym x ∙ k.target ∙ ap IntValue equal ∙ sym k.last
