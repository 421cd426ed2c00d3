-- What grows with the variable is led by an integer; and what is led so is at most the greatest integer of its range.
use Rattle.std.proofs.Common.{◌≡◌, ℕ, suc, ◌≤◌, ◌+◌, List, [], ◌∷◌, refl, sym, ◌∙◌, ap, subst, Bool, true, false, not, ◌||◌, ◌&&◌}
use Rattle.fc_values.specs.declared.builtins.Builtin.{Builtin}
use Rattle.fc_values.specs.declared.builtins.Builtin.TheVariants as op
use Rattle.fc_values.specs.Types.{LocalType, IntType, BoolType, PairType, ValueType}
use Rattle.fc_values.specs.Values.{LocalValue, IntValue, BoolValue, PairValue, Fits}
use Rattle.fc_values.specs.Builtins.{is_hood}
use Rattle.fc_values.specs.BuiltinTypes.{inner, inners, lifted, has_field, rule_by, HasRule, Takes, takes_add, takes_sub, takes_mul, takes_rise, takes_min, takes_max, takes_less, takes_equal, takes_and, takes_or, takes_not, takes_mux, takes_pair, takes_fst, takes_snd}
use Rattle.fc_nodes.specs.Typing.{types_of}
use Rattle.fc_nodes.specs.Terms.{Evolution, Term, Terms, Plain, Apply, Nbr, Evolve, If, Let, NoMore, More, term_type, size}
use Rattle.interval_facts.specs.Ranges.{RangeValue, IntRange, BoolRange, PairRange, InRange}
use Rattle.fc_nodes.specs.Variables.{occurs, occurs_in, is_heard}
use Rattle.growth_facts.specs.Leads.{lead, leads, is_integer, greatest_integer}
use Rattle.growth_facts.specs.Growth.{GrowthValue, Grows, Lacks, NodeFacts, only_if, on_one_side, lesser_growth, op_growth, growth_of, facts_in}
use Rattle.growth_facts.specs.Beside.{Shallow, AllShallow}
use Rattle.growth_facts.proofs.Grow.{growth_of_heard, growth_of_builtin}

-- the greatest of a range
pub lead_most : (m : ℕ) (t : LocalType) (r : RangeValue) (v : LocalValue) → leads t ≡ true → Fits m t v → InRange r v → lead v ≤ greatest_integer r
lead_most m IntType (IntRange a b) (IntValue n) k f h = h.1
lead_most m IntType BoolRange (IntValue n) k f h = absurd h
lead_most m IntType (PairRange r s) (IntValue n) k f h = absurd h
lead_most m IntType r (BoolValue b) k f h = absurd f
lead_most m IntType r (PairValue a b) k f h = absurd f
lead_most m BoolType r v k f h = absurd cc
lead_most m (PairType IntType t) (PairRange (IntRange a b) s) (PairValue (IntValue n) w) k f h = h.0.1
lead_most m (PairType IntType t) (PairRange BoolRange s) (PairValue (IntValue n) w) k f h = absurd h.0
lead_most m (PairType IntType t) (PairRange (PairRange q r) s) (PairValue (IntValue n) w) k f h = absurd h.0
lead_most m (PairType IntType t) r (PairValue (BoolValue b) w) k f h = absurd f.0
lead_most m (PairType IntType t) r (PairValue (PairValue a b) w) k f h = absurd f.0
lead_most m (PairType IntType t) (IntRange a b) (PairValue v w) k f h = absurd h
lead_most m (PairType IntType t) BoolRange (PairValue v w) k f h = absurd h
lead_most m (PairType BoolType t) r v k f h = absurd cc
lead_most m (PairType (PairType s u) t) r v k f h = absurd cc
lead_most m (PairType s t) r (IntValue n) k f h = absurd f
lead_most m (PairType s t) r (BoolValue b) k f h = absurd f

-- what is known of arguments
pub record IsLed (f : NodeFacts) (t : LocalType) : Type 0 where
  pub grows : f.uses ≡ true → (g : ℕ) → f.growth ≡ Grows g → leads t ≡ true
  pub leads : f.leads ≡ leads t
  pub integer : f.integer ≡ is_integer t

abbrev AllLed : List NodeFacts → List LocalType → Type 0
AllLed [] [] = Unit {0}
AllLed (f ∷ fs) (t ∷ ts) = IsLed f t × AllLed fs ts
AllLed _ _ = ⊥

abbrev some_uses : List NodeFacts → Bool
some_uses [] = false
some_uses (f ∷ fs) = f.uses || some_uses fs

module _ (m p g : ℕ) where
  if_grows : (b : Bool) (o : GrowthValue) → only_if b p o ≡ Grows g → (b ≡ true) × (o ≡ Grows g)
  if_grows true o h = (refl, h)
  if_grows false o h = absurd cc

  both_grow : (o q : GrowthValue) → lesser_growth o q ≡ Grows g → ((c : ℕ) × (o ≡ Grows c)) × ((c : ℕ) × (q ≡ Grows c))
  both_grow (Grows a) (Grows b) h = ((a, refl), (b, refl))
  both_grow (Grows a) (Lacks q) h = absurd cc
  both_grow (Lacks q) o h = absurd cc

  either : (t : LocalType) (a b : NodeFacts) → IsLed a t → IsLed b t → (a.uses || b.uses) ≡ true → lesser_growth a.growth b.growth ≡ Grows g → leads t ≡ true
  either t a b x y u h = let k = both_grow a.growth b.growth h in by_test a.uses refl u (λ q. x.grows q k.0.0 k.0.1) (λ q. y.grows q k.1.0 k.1.1)
    where
      by_test : (c : Bool) → a.uses ≡ c → (c || b.uses) ≡ true → (a.uses ≡ true → leads t ≡ true) → (b.uses ≡ true → leads t ≡ true) → leads t ≡ true
      by_test true q u f k = f q
      by_test false q u f k = k u

  one_side : (t : LocalType) (a b : NodeFacts) → IsLed a t → IsLed b t → on_one_side a.uses b.uses p a.growth b.growth ≡ Grows g → leads t ≡ true
  one_side t a b x y h = by_tests a.uses b.uses refl refl h
    where
      by_tests : (c e : Bool) → a.uses ≡ c → b.uses ≡ e → on_one_side c e p a.growth b.growth ≡ Grows g → leads t ≡ true
      by_tests true false q r h = x.grows q g h
      by_tests false true q r h = y.grows r g h
      by_tests true true q r h = absurd cc
      by_tests false false q r h = absurd cc

  and_first : (a b : Bool) → (a && b) ≡ true → a ≡ true
  and_first true b h = refl
  and_first false b h = absurd cc

  and_second : (a b : Bool) → (a && b) ≡ true → b ≡ true
  and_second true b h = h
  and_second false b h = absurd cc

  integer_leads : (s : LocalType) → is_integer s ≡ true → leads s ≡ true
  integer_leads IntType h = refl
  integer_leads BoolType h = absurd cc
  integer_leads (PairType s t) h = absurd cc

  op_leads : (o : Builtin) (fs : List NodeFacts) (ts : List LocalType) (t : LocalType) → Takes o ts t → AllLed fs ts → some_uses fs ≡ true → op_growth m p o fs ≡ Grows g → leads t ≡ true
  op_leads op.Add fs ts t takes_add l u h = refl
  op_leads op.Sub fs ts t takes_sub l u h = refl
  op_leads op.Mul fs ts t takes_mul l u h = refl
  op_leads op.Rise fs ts t takes_rise l u h = refl
  op_leads op.Min (a ∷ b ∷ []) ts t (takes_min s) l u h = either t a b l.0 l.1.0 (no_more a.uses b.uses u) h
    where
      no_more : (x y : Bool) → (x || (y || false)) ≡ true → (x || y) ≡ true
      no_more true y q = refl
      no_more false true q = refl
      no_more false false q = absurd cc
  op_leads op.Max (a ∷ b ∷ []) ts t (takes_max s) l u h = one_side t a b l.0 l.1.0 h
  op_leads op.Less (a ∷ b ∷ []) ts t (takes_less s) l u h = absurd cc
  op_leads op.Equal (a ∷ b ∷ []) ts t (takes_equal s) l u h = absurd cc
  op_leads op.And fs ts t takes_and l u h = absurd cc
  op_leads op.Or fs ts t takes_or l u h = absurd cc
  op_leads op.Not fs ts t takes_not l u h = absurd cc
  op_leads op.Mux (c ∷ a ∷ b ∷ []) ts t (takes_mux s) l u h =
      let k = if_grows (not c.uses) (lesser_growth a.growth b.growth) h in either t a b l.1.0 l.1.1.0 (rest c.uses a.uses b.uses k.0 u) k.1
    where
      rest : (x y z : Bool) → not x ≡ true → (x || (y || (z || false))) ≡ true → (y || z) ≡ true
      rest true y z n q = absurd cc
      rest false true z n q = refl
      rest false false true n q = refl
      rest false false false n q = absurd cc
  op_leads op.Pair (a ∷ b ∷ []) ts t (takes_pair r s few) l u h =
      let k = if_grows (a.integer && (not b.uses || b.rest)) a.growth h in sym l.0.integer ∙ and_first a.integer (not b.uses || b.rest) k.0
  op_leads op.Fst (a ∷ []) ts t (takes_fst r s) l u h =
      let k = if_grows (a.heard && a.leads) (Grows 0) h in integer_leads t (sym l.0.leads ∙ and_second a.heard a.leads k.0)
  op_leads op.Snd (a ∷ []) ts t (takes_snd r s) l u h = absurd cc
  op_leads op.Min [] ts t (takes_min s) l u h = absurd l
  op_leads op.Min (a ∷ []) ts t (takes_min s) l u h = absurd l.1
  op_leads op.Min (a ∷ b ∷ c ∷ fs) ts t (takes_min s) l u h = absurd l.1.1
  op_leads op.Max [] ts t (takes_max s) l u h = absurd l
  op_leads op.Max (a ∷ []) ts t (takes_max s) l u h = absurd l.1
  op_leads op.Max (a ∷ b ∷ c ∷ fs) ts t (takes_max s) l u h = absurd l.1.1
  op_leads op.Less fs ts t (takes_less s) l u h = absurd cc
  op_leads op.Equal fs ts t (takes_equal s) l u h = absurd cc
  op_leads op.Mux [] ts t (takes_mux s) l u h = absurd l
  op_leads op.Mux (a ∷ []) ts t (takes_mux s) l u h = absurd l.1
  op_leads op.Mux (a ∷ b ∷ []) ts t (takes_mux s) l u h = absurd l.1.1
  op_leads op.Mux (a ∷ b ∷ c ∷ f ∷ fs) ts t (takes_mux s) l u h = absurd l.1.1.1
  op_leads op.Pair [] ts t (takes_pair r s few) l u h = absurd l
  op_leads op.Pair (a ∷ []) ts t (takes_pair r s few) l u h = absurd l.1
  op_leads op.Pair (a ∷ b ∷ c ∷ fs) ts t (takes_pair r s few) l u h = absurd l.1.1
  op_leads op.Fst [] ts t (takes_fst r s) l u h = absurd l
  op_leads op.Fst (a ∷ b ∷ fs) ts t (takes_fst r s) l u h = absurd l.1
  op_leads op.Snd fs ts t (takes_snd r s) l u h = absurd cc
  op_leads op.MinHoodLoc fs ts t x l u h = elim x [ ]
  op_leads op.MaxHoodLoc fs ts t x l u h = elim x [ ]
  op_leads op.SumHood fs ts t x l u h = elim x [ ]
  op_leads op.AnyHood fs ts t x l u h = elim x [ ]
  op_leads op.AllHood fs ts t x l u h = elim x [ ]

  inner_of_lifted : (b : Bool) (s : LocalType) → inner (lifted b s) ≡ s
  inner_of_lifted true s = refl
  inner_of_lifted false s = refl

  rule_leads : (o : Builtin) (fs : List NodeFacts) (ts : List ValueType) (t : ValueType) → HasRule o ts t → AllLed fs (inners ts) → some_uses fs ≡ true → op_growth m p o fs ≡ Grows g → leads (inner t) ≡ true
  rule_leads o fs ts t rule l u h = by_test (is_hood o) refl rule
    where
      hood_leads : (o : Builtin) → is_hood o ≡ true → op_growth m p o fs ≡ Grows g → leads (inner t) ≡ true
      hood_leads op.MinHoodLoc q h = absurd cc
      hood_leads op.MaxHoodLoc q h = absurd cc
      hood_leads op.SumHood q h = absurd cc
      hood_leads op.AnyHood q h = absurd cc
      hood_leads op.AllHood q h = absurd cc
      hood_leads o q h = absurd cc

      by_test : (c : Bool) → is_hood o ≡ c → rule_by c o ts t → leads (inner t) ≡ true
      by_test false q r = let k = op_leads o fs (inners ts) r.local r.takes l u h in subst (λ (x : LocalType). leads x ≡ true) (sym (ap inner r.value ∙ inner_of_lifted (has_field ts) r.local)) k
      by_test true q r = hood_leads o q h

module _ (m : ℕ) (rs : ℕ → RangeValue) (e : Evolution) (x : ℕ) (s : LocalType) where
  from_heard : (p g : ℕ) (h : Term) → is_heard e x h ≡ true → growth_of m rs e x p h ≡ Grows g → leads (inner (term_type h)) ≡ true
  from_heard p g h o q = (if_grows m p g (leads (inner (term_type h))) (Grows 0) (sym (growth_of_heard m rs e x p h o) ∙ q)).0

  mutual
    -- what grows with the variable is led by an integer
    pub grows_leads : (h : Term) (p g : ℕ) → Shallow e x s h → occurs x h ≡ true → growth_of m rs e x p h ≡ Grows g → leads (inner (term_type h)) ≡ true
    grows_leads (Plain t l) p g sh o q = from_heard p g (Plain t l) (sh o).0 q
    grows_leads (Nbr t a) p g sh o q = from_heard p g (Nbr t a) (sh o).0 q
    grows_leads (Apply t b xs) p g sh o q =
        rule_leads m p g b (facts_in m rs e x (suc p) xs) (types_of xs) t sh.0 (all_led xs (suc p) sh.1) (uses_in xs (suc p) ∙ o) (sym (growth_of_builtin m rs e x p t b xs o) ∙ q)
    grows_leads (Evolve t b a u) p g sh o q = absurd cc
    grows_leads (If t c u w) p g sh o q = absurd cc
    grows_leads (Let t a u) p g sh o q = absurd cc

    all_led : (xs : Terms) (p : ℕ) → AllShallow e x s xs → AllLed (facts_in m rs e x p xs) (inners (types_of xs))
    all_led NoMore p sh = tt
    all_led (More h hs) p sh = (record { grows = λ u g q. grows_leads h p g sh.0 u q; leads = refl; integer = refl }, all_led hs (p + size h) sh.1)

    uses_in : (xs : Terms) (p : ℕ) → some_uses (facts_in m rs e x p xs) ≡ occurs_in x xs
    uses_in NoMore p = refl
    uses_in (More h hs) p = ap (λ (b : Bool). occurs x h || b) (uses_in hs (p + size h))
