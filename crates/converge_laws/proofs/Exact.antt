-- The last stage of a growth: a value that fits and is close to the solution's at the bound past its greatest value is it.
use Rattle.std.proofs.Common.{◌≡◌, ℕ, suc, ◌≤◌, ◌<◌, ◌+◌, ◌*◌, ◌/◌, List, [], ◌∷◌, refl, ◌∙◌, ap, subst, arith, inl, inr, Bool, true, false, ◌||◌, Some, nat_eq, min}
use Rattle.fc_values.specs.declared.builtins.Builtin.TheVariants as op
use Rattle.fc_values.specs.Types.{LocalType, IntType, BoolType, PairType, ValueType, TypeLocal, TypeField}
use Rattle.fc_values.specs.Values.{LocalValue, IntValue, BoolValue, PairValue, Fits, lesser}
use Rattle.fc_values.specs.Fields.{Entries, ValueLocal, ValueField, AllFit, FitsOver}
use Rattle.fc_values.specs.Builtins.{others, least_of, builtin_value}
use Rattle.fc_values.specs.BuiltinTypes.{inner, HasRule, folds_min}
use Rattle.fc_nodes.specs.Terms.{Evolution, Term, Apply, NoMore, More, term_type, size}
use Rattle.topology.specs.Networks.{Network, IsNetwork}
use Rattle.interval_facts.specs.Ranges.{RangeValue, IntRange, BoolRange, PairRange, InRange, LiesIn}
use Rattle.interval_facts.specs.Solutions.{Devices, In, ValueMap, ValueMaps, around, at_device, Solves, SolveAll}
use Rattle.interval_facts.specs.Claims.{InRanges, AllInRanges}
use Rattle.fc_nodes.specs.Variables.{occurs}
use Rattle.growth_facts.specs.Leads.{lead, Close, leads, greatest_integer}
use Rattle.growth_facts.specs.Growth.{Grows, growth_of}
use Rattle.growth_facts.specs.Beside.{Shallow}
use Rattle.growth_facts.proofs.Closeness.{fits_form, lesser_lead}
use Rattle.fragment_check.specs.Patterns.{is_pair_range}
use Rattle.converge_laws.proofs.Around.{solution_fits}
use Rattle.converge_laws.proofs.Leading.{lead_most, grows_leads}
use Rattle.converge_laws.proofs.Minimise.{hood_is, lesser_fits}
use Rattle.converge_laws.proofs.Ranged.{lies_of}

-- the least is at most the local value
least_low : (m d : ℕ) (s : LocalType) (es : Entries) (l : LocalValue) → AllFit m s es → Fits m s l → lead (least_of l (others d es)) ≤ lead l
least_low m d s [] l h f = omega arith
least_low m d s (x ∷ es) l h f =
    by_test (nat_eq x.0 d) refl (least_low m d s es l h.1 f) (least_low m d s es (lesser l x.1) h.1 (lesser_fits m s l x.1 f h.0))
  where
    by_test : (b : Bool) → nat_eq x.0 d ≡ b → lead (least_of l (others d es)) ≤ lead l → lead (least_of (lesser l x.1) (others d es)) ≤ lead (lesser l x.1) → lead (least_of l (others d (x ∷ es))) ≤ lead l
    by_test true t u v = rw t u
    by_test false t u v = let k = lesser_lead l x.1 (fits_form m s x.1 l h.0 f) in rw t (omega (arith, v, k))

-- the bound past the greatest value
pub exact : (m c : ℕ) (s : LocalType) (r : RangeValue) (own x w : LocalValue) → leads s ≡ true → Fits m s own → InRange r own → Fits m s x → Fits m s w → lead w ≤ lead own → greatest_integer r ≤ m
    → (is_pair_range r ≡ true → greatest_integer r ≡ m → ⊥) → 1 ≤ c → Close (min m (suc (greatest_integer r / c) * c)) x w → x ≡ w
exact m c s r own x w k fo io fx fw l top pair pos (inl e) = e
exact m c IntType r own (IntValue a) (IntValue b) k fo io fx fw l top pair pos (inr h) =
    let most = lead_most m IntType r own k fo io in
    let same : a ≡ b = omega (arith, h.0, h.1, fx, fw, l, most, top, pos) in
    ap IntValue same
exact m c IntType r own (BoolValue b) w k fo io fx fw l top pair pos (inr h) = absurd fx
exact m c IntType r own (PairValue a b) w k fo io fx fw l top pair pos (inr h) = absurd fx
exact m c IntType r own (IntValue a) (BoolValue b) k fo io fx fw l top pair pos (inr h) = absurd fw
exact m c IntType r own (IntValue a) (PairValue u v) k fo io fx fw l top pair pos (inr h) = absurd fw
exact m c BoolType r own x w k fo io fx fw l top pair pos (inr h) = absurd cc
exact m c (PairType s t) r own x w k fo io fx fw l top pair pos (inr h) =
    let most = lead_most m (PairType s t) r own k fo io in
    let p : is_pair_range r ≡ true = pair_range r own fo io in
    let less : greatest_integer r < m = strictly (pair p) in
    absurd (omega (arith, h.1, l, most, less, pos))
  where
    pair_range : (r : RangeValue) (v : LocalValue) → Fits m (PairType s t) v → InRange r v → is_pair_range r ≡ true
    pair_range (PairRange a b) v f i = refl
    pair_range (IntRange a b) (PairValue u v) f i = absurd i
    pair_range BoolRange (PairValue u v) f i = absurd i
    pair_range r (IntValue n) f i = absurd f
    pair_range r (BoolValue b) f i = absurd f

    strictly : (greatest_integer r ≡ m → ⊥) → greatest_integer r < m
    strictly ne = omega (arith, ne, top)

int_type : (m : ℕ) (k : LocalType) (x : LocalValue) → x ≡ IntValue (lead x) → Fits m k x → k ≡ IntType
int_type m IntType x q f = refl
int_type m BoolType (BoolValue z) q f = absurd cc
int_type m BoolType (IntValue n) q f = absurd f
int_type m BoolType (PairValue z z') q f = absurd f
int_type m (PairType k k') (PairValue z z') q f = absurd cc
int_type m (PairType k k') (IntValue n) q f = absurd f
int_type m (PairType k k') (BoolValue n) q f = absurd f

not_pair : (m : ℕ) (k : RangeValue) (x : LocalValue) → Fits m IntType x → InRange k x → is_pair_range k ≡ true → ⊥
not_pair m (IntRange z z') x f q k = absurd cc
not_pair m BoolRange x f q k = absurd cc
not_pair m (PairRange k k') (IntValue n) f q z = absurd q
not_pair m (PairRange k k') (BoolValue n) f q z = absurd f
not_pair m (PairRange k k') (PairValue n n') f q z = absurd f

-- the same for integers
pub exact_int : (m c : ℕ) (r : RangeValue) (s : LocalType) (own x w : LocalValue) → w ≡ IntValue (lead w) → x ≡ IntValue (lead x) → Fits m s own → InRange r own → Fits m s x → Fits m s w → lead w ≤ lead own → greatest_integer r ≤ m
    → 1 ≤ c → Close (min m (suc (greatest_integer r / c) * c)) x w → x ≡ w
exact_int m c r s own x w wi xi fo io fx fw l top pos h =
    let int : s ≡ IntType = int_type m s w wi fw in
    let own_fits : Fits m IntType own = subst (λ k. Fits m k own) int fo in
    exact m c IntType r own x w refl own_fits io (subst (λ k. Fits m k x) int fx) (subst (λ k. Fits m k w) int fw) l top (λ p z. not_pair m r own own_fits io p) pos h

-- the types of a hood's arguments
pub record HoodTypes (ts : List ValueType) (t : ValueType) : Type 0 where
  pub of : LocalType
  pub arguments : ts ≡ TypeField of ∷ TypeLocal of ∷ []
  pub value : t ≡ TypeLocal of

pub hood_types : (ts : List ValueType) (t : ValueType) → HasRule op.MinHoodLoc ts t → HoodTypes ts t
hood_types ts t (folds_min s) = record { of = s; arguments = refl; value = refl }

pub head_of : (a b u v : ValueType) (ts us : List ValueType) → (a ∷ b ∷ []) ≡ (u ∷ v ∷ []) → (a ≡ u) × (b ≡ v)
head_of a b u v ts us e = (cc, cc)

module _ (N : Network) (net : IsNetwork N) (rs : ℕ → RangeValue) (D : Devices) (W : ValueMaps) where
  abbrev M : ℕ
  M = N.declared.ceiling

  -- a least value is at most that of the local argument, which is in its range
  pub record HasTop (s : LocalType) (r : RangeValue) (v : LocalValue) : Type 0 where
    pub own : LocalValue
    pub fits : Fits M s own
    pub lies : InRange r own
    pub most : lead v ≤ lead own

  pub hood_top : (p : ℕ) (t : ValueType) (h l : Term) (s : LocalType) (G : ValueMap) → term_type h ≡ TypeField s → term_type l ≡ TypeLocal s → (z : Solves N p (Apply t op.MinHoodLoc (More h (More l NoMore))) D W G)
      → InRanges rs N p (Apply t op.MinHoodLoc (More h (More l NoMore))) D W G z → (d : ℕ) → In D d → (v : LocalValue) → G d ≡ ValueLocal v → HasTop s (rs (suc p + size h)) v
  hood_top p t h l s G th tl z r d i v e = by_maps z.1 z.2 r.1 (z.3 d i ∙ ap Some e)
    where
      by_maps : (Gs : List ValueMap) (y : SolveAll N (suc p) (More h (More l NoMore)) D W Gs) → AllInRanges rs N (suc p) (More h (More l NoMore)) D W Gs y → builtin_value op.MinHoodLoc M d (at_device d Gs) ≡ Some (ValueLocal v) → HasTop s (rs (suc p + size h)) v
      by_maps [] y k q = absurd y
      by_maps (A ∷ []) y k q = absurd y.1
      by_maps (A ∷ B ∷ C ∷ Gs) y k q = absurd y.1.1
      by_maps (A ∷ B ∷ []) y k q =
          let hood = hood_is M d (A d) (B d) v q in
          let fa : FitsOver M (around N D d) (TypeField s) (A d) = subst (λ x. FitsOver M (around N D d) x (A d)) th (solution_fits N net h (suc p) D W A y.0 d i) in
          let fb : FitsOver M (around N D d) (TypeLocal s) (B d) = subst (λ x. FitsOver M (around N D d) x (B d)) tl (solution_fits N net l (suc p + size h) D W B y.1.0 d i) in
          let fo : Fits M s hood.own = subst (FitsOver M (around N D d) (TypeLocal s)) hood.local fb in
          let fe : AllFit M s hood.entries = (field_fit hood.entries (subst (FitsOver M (around N D d) (TypeField s)) hood.field fa)) in
          let io : InRange (rs (suc p + size h)) hood.own = subst (LiesIn (rs (suc p + size h))) hood.local (lies_of rs N (suc p + size h) l D W B y.1.0 k.1.0 d i) in
          let low = least_low M d s hood.entries hood.own fe fo in
          record { own = hood.own; fits = fo; lies = io; most = subst (λ x. lead x ≤ lead hood.own) hood.result low }
        where
          field_fit : (es : Entries) → FitsOver M (around N D d) (TypeField s) (ValueField es) → AllFit M s es
          field_fit es f = f.1

  -- so the last stage of a minimising body is the solution
  pub last_stage : (e : Evolution) (x p c : ℕ) (t : ValueType) (h l : Term) (s : LocalType) (G : ValueMap) → Shallow e x s (Apply t op.MinHoodLoc (More h (More l NoMore))) → occurs x (Apply t op.MinHoodLoc (More h (More l NoMore))) ≡ true → occurs x l ≡ false
      → growth_of M rs e x (suc p) h ≡ Grows c → 1 ≤ c → greatest_integer (rs (suc p + size h)) ≤ M → (is_pair_range (rs (suc p + size h)) ≡ true → greatest_integer (rs (suc p + size h)) ≡ M → ⊥)
      → (z : Solves N p (Apply t op.MinHoodLoc (More h (More l NoMore))) D W G) → InRanges rs N p (Apply t op.MinHoodLoc (More h (More l NoMore))) D W G z → (d : ℕ) → In D d → (a v : LocalValue) → FitsOver M (around N D d) t (ValueLocal a)
      → G d ≡ ValueLocal v → Close (min M (suc (greatest_integer (rs (suc p + size h)) / c) * c)) a v → a ≡ v
  last_stage e x p c t h l s G sh occ o gr pos top pair z r d i a v fa q close =
      let types = hood_types (term_type h ∷ term_type l ∷ []) t sh.0 in
      let two = head_of (term_type h) (term_type l) (TypeField types.of) (TypeLocal types.of) [] [] types.arguments in
      let k = hood_top p t h l types.of G two.0 two.1 z r d i v q in
      let led : leads (inner (term_type h)) ≡ true = grows_leads M rs e x s h (suc p) c sh.1.0 (in_first (occurs x h) (occurs x l) occ o) gr in
      let led' : leads types.of ≡ true = subst (λ (y : ValueType). leads (inner y) ≡ true) two.0 led in
      let fa' : Fits M types.of a = subst (λ y. FitsOver M (around N D d) y (ValueLocal a)) types.value fa in
      let fv : FitsOver M (around N D d) t (ValueLocal v) = subst (FitsOver M (around N D d) t) q (z.0 d i) in
      let fv' : Fits M types.of v = subst (λ y. FitsOver M (around N D d) y (ValueLocal v)) types.value fv in
      exact M c types.of (rs (suc p + size h)) k.own a v led' k.fits k.lies fa' fv' k.most top pair pos close
    where
      in_first : (a b : Bool) → (a || (b || false)) ≡ true → b ≡ false → a ≡ true
      in_first true b q n = refl
      in_first false true q n = absurd cc
      in_first false false q n = absurd cc
