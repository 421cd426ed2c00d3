-- A program of the walk form has costs, and its solution has the least ones.
use Rattle.std.proofs.Common.{◌≡◌, ◌≢◌, inl, inr, ℕ, suc, ◌≤◌, ◌+◌, min, List, [], ◌∷◌, map, length, get_or, refl, sym, ◌∙◌, ap, ap₂, subst, arith, Some}
use Rattle.std.specs.List.{All, Contains}
use Rattle.std.proofs.lemmas.List.Elements.{Contains-get_or}
use Rattle.fc_values.specs.declared.builtins.Builtin.TheVariants as op
use Rattle.fc_values.specs.Types.{IntType, TypeLocal, TypeField}
use Rattle.fc_values.specs.Values.{LocalValue, IntValue, BoolValue, PairValue}
use Rattle.fc_values.specs.Fields.{ValueLocal, FitsOver, Rises}
use Rattle.fc_values.specs.Builtins.{argument_at, builtin_value}
use Rattle.fc_values.specs.Laws.{ReadsPointwise}
use Rattle.fc_nodes.specs.declared.verdicts.Verdict.TheVariants as verdict
use Rattle.fc_nodes.specs.Terms.{NbrLink, ByRep, Term, Plain, Apply, Nbr, Evolve, If, Let, NoMore, More, term_type, size}
use Rattle.fc_nodes.specs.Program.{Program, Unfolding, unfolding_of, IsProgram}
use Rattle.topology.specs.Networks.{Network, IsNetwork, Lives, lives, near, numbers}
use Rattle.topology.proofs.Lemmas.{in_at}
use Rattle.interval_facts.specs.Ranges.{RangeValue, IntRange, LiesIn, full, range_of, node_ranges}
use Rattle.interval_facts.specs.Solutions.{Devices, ValueMap, ValueMaps, bind, around, at_device, local_map, no_binders, Solves, SolveAll, SolvesMain}
use Rattle.interval_facts.specs.Claims.{MapLiesIn, InRanges}
use Rattle.interval_facts.proofs.Tables.{Shows}
use Rattle.growth_facts.specs.Leads.{least_integer}
use Rattle.growth_facts.proofs.Grow.{least_nth}
use Rattle.fragment_check.specs.Verdicts.{verdict_of}
use Rattle.converge_laws.specs.Fragment.{Analysis}
use Rattle.converge_laws.specs.Laws.{SolutionsAreOne, IsAnalysis}
use Rattle.converge_laws.specs.Stabilising.{HasOneSolution}
use Rattle.converge_laws.specs.Verdicts.{analysis_of, YesAnalyses}
use Rattle.walks.specs.Walks.{CostsValue, IsCosts, has}
use Rattle.walks.specs.Gathering.{AddValue, AddEach, AddWeights, added, gathered, AreOf, AddFits}
use Rattle.walks.specs.Laws.{IsFixed, FixedValuesAreLeast}
use Rattle.walks.proofs.Fixed.{has_here}
use Rattle.walks.proofs.Gathered.{AreMutual, gathered_costs, in_steps, to_steps}
use Rattle.walk_form.specs.Costs.{AddsAre, AreCostsFor, AreCostsOf}
use Rattle.walk_form.specs.Fields.{HasOneField, IsFieldAt, as_integer, integer_in, integers_in}
use Rattle.walk_form.specs.Forms.{StepTerm, StepValue, StepWeight, WalkTerms, walk_terms}
use Rattle.walk_form.specs.Laws.{IsLeastAt}
use Rattle.walk_form.proofs.Inverted.{IsAdded, IsSum}
use Rattle.walk_form.proofs.Inverted as inverted
use Rattle.walk_form.proofs.Gradients.{Gradient, gradient_is}
use Rattle.walk_form.proofs.Under.{rests_first, shows_under}
use Rattle.walk_form.proofs.Judging.{body_shows}
use Rattle.walk_form.proofs.Parts.{Part, local_placed, step_placed, local_part, summand_part, step_part, whole_types}
use Rattle.stable_field.proofs.OneField.{same_entries}
use Rattle.walk_form.proofs.Fielding.{solved_integers, one_field, lies, rests_on, entries, heads, field_at, firsts_are, member_is, has_member}
use Rattle.walk_form.proofs.Equation.{Gives, over_gives, heard_gives, Hood, sum_hood, Settled, settled}

-- what is known of a network's neighbours
pub record Neighbours (N : Network) : Type 0 where
  pub linked : AreMutual N
  pub other : (d e w : ℕ) → Contains (near N d) (e, w) → e ≢ d
  pub least : (d e w : ℕ) → Contains (near N d) (e, w) → N.declared.least ≤ w
  pub most : (d e w : ℕ) → Contains (near N d) (e, w) → w ≤ N.declared.greatest

-- a solution that lies in its ranges lies in the first one
top_range : (rs : ℕ → RangeValue) (N : Network) (t : Term) (p : ℕ) (D : Devices) (V : ValueMaps) (F : ValueMap) (s : Solves N p t D V F) → InRanges rs N p t D V F s → MapLiesIn D (rs p) F
top_range rs N (Plain t l) p D V F s r = r
top_range rs N (Apply t o xs) p D V F s r = r.0
top_range rs N (Nbr t a) p D V F s r = r.0
top_range rs N (Evolve t e a b) p D V F s r = r.0
top_range rs N (If t c a b) p D V F s r = r.0
top_range rs N (Let t a b) p D V F s r = r.0

no_rest : (N : Network) (p : ℕ) (D : Devices) (V : ValueMaps) (Gs : List ValueMap) → SolveAll N p NoMore D V Gs → Gs ≡ []
no_rest N p D V [] s = refl
no_rest N p D V (G ∷ Gs) s = absurd s

-- two arguments of a builtin
pub record TwoMaps (N : Network) (p : ℕ) (x y : Term) (D : Devices) (V : ValueMaps) (Gs : List ValueMap) : Type 0 where
  pub first : ValueMap
  pub second : ValueMap
  pub solves_first : Solves N p x D V first
  pub solves_second : Solves N (p + size x) y D V second
  pub at : (d : ℕ) → at_device d Gs ≡ first d ∷ second d ∷ []

two_maps : (N : Network) (p : ℕ) (x y : Term) (D : Devices) (V : ValueMaps) (Gs : List ValueMap) → SolveAll N p (More x (More y NoMore)) D V Gs → TwoMaps N p x y D V Gs
two_maps N p x y D V Gs s =
    let r = rests_first N p x (More y NoMore) D V Gs s in
    let z = rests_first N (p + size x) y NoMore D V r.1 r.4 in
    let n = no_rest N (p + size x + size y) D V z.1 z.4 in
    let all : Gs ≡ r.0 ∷ z.0 ∷ [] = r.2 ∙ ap (λ l. r.0 ∷ l) (z.2 ∙ ap (λ l. z.0 ∷ l) n) in
    record { first = r.0; second = z.0; solves_first = r.3; solves_second = z.3; at = λ d. ap (at_device d) all }

module _ (analyses : YesAnalyses) (one_law : SolutionsAreOne) (P : Program) (N : Network) (k : ℕ) (is : IsProgram P) (net : IsNetwork N) (same : N.declared ≡ P.declared)
    (agreed : verdict_of (unfolding_of P) (length N.devices) ≡ verdict.Yes k) (w : WalkTerms) (form : walk_terms (unfolding_of P) ≡ Some w) where
  abbrev U : Unfolding
  U = unfolding_of P

  abbrev A : Analysis
  A = analysis_of U (length N.devices)

  abbrev M : ℕ
  M = N.declared.ceiling

  abbrev D : Devices
  D = lives N

  analysis : IsAnalysis U A N
  analysis = (analyses P N k is net same agreed).analysis

  abbrev G : Gradient P A M w
  G = gradient_is analyses P N k is net same agreed w form

  lpart : Part P A M w.place w.local
  lpart = local_part analyses P N k is net same agreed w form

  ltype : term_type w.local ≡ TypeLocal IntType
  ltype = (local_placed P is w form).type

  spart : (q : ℕ) (t : Term) → w.step ≡ StepValue q t → Part P A M q t
  spart q t e = (step_part analyses P N k is net same agreed w form q t e).part

  stype : (q : ℕ) (t : Term) → w.step ≡ StepValue q t → term_type t ≡ TypeLocal IntType
  stype q t e = (step_placed P is w form q t e).type

  -- ---- costs are lawful

  members_fit : (q : ℕ) (t : Term) (xs : List (ℕ × ℕ)) → term_type t ≡ TypeLocal IntType → IsFieldAt N q t xs → (d n : ℕ) → Contains xs (d, n) → n ≤ M
  members_fit q t xs ty h d n c =
      let m = member_is h.one.field xs (numbers N.devices) h.values d n c in
      let s = (solved_integers N q t h.one.field ty h.one.solves).most d m.0 in
      let e : integer_in (h.one.field d) ≡ n = ap integer_in m.1 in
      omega (arith, s, e)

  pub starts_fit : (q : ℕ) (t : Term) (xs : List (ℕ × ℕ)) → term_type t ≡ TypeLocal IntType → IsFieldAt N q t xs → AreOf N xs × All (λ (d : ℕ × ℕ). d.1 ≤ M) xs
  starts_fit q t xs ty h =
      (firsts_are h.one.field xs (numbers N.devices) h.values, λ i x l. members_fit q t xs ty h (get_or xs i x).0 (get_or xs i x).1 (Contains-get_or xs i x l))

  values_fit : (q : ℕ) (t : Term) (xs : List (ℕ × ℕ)) → w.step ≡ StepValue q t → IsFieldAt N q t xs → AddFits M N (AddEach xs)
  values_fit q t xs e h =
      let p = step_part analyses P N k is net same agreed w form q t e in
      let ty = stype q t e in
      let some : (d n : ℕ) → Contains xs (d, n) → 1 ≤ n =
      λ d n c.
      let m = member_is h.one.field xs (numbers N.devices) h.values d n c in
      let r = lies one_law P N is net same A analysis.for analysis.ranges q t p.part (local_map h.one.field) h.one.solves in
      let v = top_range A.ranges N t q D no_binders (local_map h.one.field) h.one.solves r d m.0 in
      let low : least_integer (A.ranges q) ≤ n =
      least_nth (A.ranges q) (ValueLocal (IntValue n)) 0 (subst (λ x. LiesIn (A.ranges q) (ValueLocal x)) m.1 v) tt in
      let one = p.some in
      omega (arith, low, one) in (
        (starts_fit q t xs ty h).0,
        λ i x l.
            let c = Contains-get_or xs i x l in
            (some (get_or xs i x).0 (get_or xs i x).1 c, members_fit q t xs ty h (get_or xs i x).0 (get_or xs i x).1 c),
      )

  -- the weight of a link is at least 1 where steps add it
  links_some : w.step ≡ StepWeight → 1 ≤ N.declared.least
  links_some e = by_added G.added.place G.added.term w.step G.added.added e G.added.some (summand_part analyses P N k is net same agreed w form)
    where
      by_added : (q : ℕ) (t : Term) (s : StepTerm) → IsAdded q t s → s ≡ StepWeight → 1 ≤ least_integer (A.ranges q) → Part P A M q t → 1 ≤ N.declared.least
      by_added q t s (inverted.local l z) e some part = absurd cc
      by_added q t s (inverted.links u z) e some part =
          let shows = shows_under P.declared ((0, full P.declared.ceiling IntType) ∷ []) (range_of U) (suc 0 + size part.start) part.body q t part.stands (body_shows U part.start part.body part.main) in
          let leaf : Shows (range_of U) q (node_ranges P.declared ((0, full P.declared.ceiling IntType) ∷ []) q (Plain u NbrLink)) = subst (λ y. Shows (range_of U) q (node_ranges P.declared ((0, full P.declared.ceiling IntType) ∷ []) q y)) z shows in
          let is_range : A.ranges q ≡ IntRange P.declared.least P.declared.greatest = leaf.0 in
          let least : least_integer (A.ranges q) ≡ P.declared.least = ap least_integer is_range in
          let here : N.declared.least ≡ P.declared.least = ap (λ d. d.least) same in
          omega (arith, some, least, here)

  pub adds_fit : Neighbours N → (s : StepTerm) (a : AddValue) → w.step ≡ s → AddsAre N s a → AddFits M N a
  adds_fit near_law (StepValue q t) (AddEach xs) e h = values_fit q t xs e h
  adds_fit near_law (StepValue q t) AddWeights e h = absurd h
  adds_fit near_law StepWeight (AddEach xs) e h = absurd h
  adds_fit near_law StepWeight AddWeights e h =
      let l = links_some e in
      let m : N.declared.greatest ≤ M = subst (λ d. d.greatest ≤ d.ceiling) (sym same) is.lawful.metric.1 in
      λ d f v c. let a = near_law.least d f v c in let b = near_law.most d f v c in (omega (arith, l, a), omega (arith, m, b))

  pub lawful : Neighbours N → (start : List (ℕ × ℕ)) (a : AddValue) → IsFieldAt N w.place w.local start → AddsAre N w.step a → IsCosts (gathered M N start a)
  lawful near_law start a h g =
      let f = starts_fit w.place w.local start ltype h in
      gathered_costs M N start a net near_law.linked f.0 f.1 (adds_fit near_law w.step a refl g)

  -- ---- there are costs

  pub one_at : HasOneSolution U N → (q : ℕ) (t : Term) → Part P A M q t → term_type t ≡ TypeLocal IntType → HasOneField N q t
  one_at one q t part ty = one_field one_law P N is net same A analysis.for analysis.ranges q t part ty one

  some_adds : HasOneSolution U N → (s : StepTerm) → w.step ≡ s → (a : AddValue) × AddsAre N s a
  some_adds one StepWeight e = (AddWeights, tt)
  some_adds one (StepValue q t) e =
      let f = one_at one q t (spart q t e) (stype q t e) in
      (AddEach (integers_in (entries f.field (numbers N.devices))), field_at N q t f (stype q t e))

  same_ceiling : M ≡ U.declared.ceiling
  same_ceiling = ap (λ d. d.ceiling) same

  pub some_costs : HasOneSolution U N → Neighbours N → (C : CostsValue) × AreCostsFor U N w C × IsCosts C
  some_costs one near_law =
      let f = one_at one w.place w.local lpart ltype in
      let start = integers_in (entries f.field (numbers N.devices)) in
      let h = field_at N w.place w.local f ltype in
      let a = some_adds one w.step refl in
      (gathered M N start a.0, record { start = start; added = a.0; starts = h; adds = a.1; is = ap (λ m. gathered m N start a.0) same_ceiling }, lawful near_law start a.0 h a.1)

  -- ---- the solution

  module _ (pointwise : ReadsPointwise) (near_law : Neighbours N) (F : ℕ → LocalValue) (solves : SolvesMain N U.main F) (start : List (ℕ × ℕ)) (ad : AddValue)
      (h : IsFieldAt N w.place w.local start) (g : AddsAre N w.step ad) where
    abbrev at : ℕ
    at = suc 0 + size G.start

    abbrev whole : Term
    whole = Apply G.type op.MinHoodLoc (More G.sum (More w.local NoMore))

    pub s : Solves N 0 (Evolve (TypeLocal IntType) ByRep G.start whole) D no_binders (local_map F)
    s = subst (λ u. Solves N 0 u D no_binders (local_map F)) G.main solves

    abbrev f : ℕ → LocalValue
    f = s.1

    abbrev V : ValueMaps
    V = bind 0 (local_map f) no_binders

    abbrev value : ℕ → ℕ
    value d = integer_in (f d)

    locals : (v u : LocalValue) → ValueLocal v ≡ ValueLocal u → v ≡ u
    locals v u e = cc

    pub is_value : (d : ℕ) → Lives N d → F d ≡ f d
    is_value d i = locals (F d) (f d) (s.3 d i)

    pub integer : (d : ℕ) → Lives N d → f d ≡ IntValue (value d)
    integer d i = by_fit (f d) (subst (λ v. FitsOver M (around N D d) (TypeLocal IntType) v) (s.3 d i) (s.0 d i))
      where
        by_fit : (v : LocalValue) → FitsOver M (around N D d) (TypeLocal IntType) (ValueLocal v) → v ≡ IntValue (integer_in v)
        by_fit (IntValue n) e = refl
        by_fit (BoolValue b) e = absurd e
        by_fit (PairValue a b) e = absurd e

    body : TwoMaps N (suc at) G.sum w.local D V s.2.1
    body = two_maps N (suc at) G.sum w.local D V s.2.1 s.2.2

    there : (d n v : ℕ) → Contains (near N d) (n, v) → Lives N n
    there d n v c = near_law.linked.there d n v c

    -- the start of a walk
    local_is : (d a : ℕ) → Contains start (d, a) → Lives N d → body.second d ≡ ValueLocal (IntValue a)
    local_is d a c i =
        let l : Solves N w.place w.local D V body.second = subst (λ q. Solves N q w.local D V body.second) (sym G.place) body.solves_second in
        rests_on one_law P N is net same A analysis.for analysis.ranges w.place w.local lpart ltype h.one f body.second l d i
        ∙ ap ValueLocal (member_is h.one.field start (numbers N.devices) h.values d a c).1

    -- what a step adds
    abbrev cost : ℕ → ℕ × ℕ → ℕ
    cost d m = added ad (d, m.1)

    value_gives : (q : ℕ) (t : Term) (xs : List (ℕ × ℕ)) (S : ValueMap) → w.step ≡ StepValue q t → IsFieldAt N q t xs → Solves N q t D V S → (d : ℕ) → Lives N d → Gives N net d (S d) (λ m. has xs d)
    value_gives q t xs S e k z d i n v c o =
        let r = rests_on one_law P N is net same A analysis.for analysis.ranges q t (spart q t e) (stype q t e) k.one f S z d i in
        let m = has_member k.one.field xs (numbers N.devices) k.values d i in
        let rising : Rises (map (λ (x : ℕ × ℕ). x.0) xs) = subst Rises (sym (firsts_are k.one.field xs (numbers N.devices) k.values)) net.rising in
        let is_has : has xs d ≡ m.0 = has_here xs d m.0 m.1.0 rising m.1.1 m.1.2 in
        ap (argument_at n) (r ∙ ap ValueLocal (m.2 ∙ ap IntValue (sym is_has)))

    added_gives : (q : ℕ) (b : Term) (st : StepTerm) (S : ValueMap) → IsAdded q b st → w.step ≡ st → AddsAre N st ad → Solves N q b D V S → (d : ℕ) → Lives N d → Gives N net d (S d) (cost d)
    added_gives q b st S (inverted.links t z) e k sv d i = by_adds ad k (subst (λ y. Solves N q y D V S) z sv)
      where
        by_adds : (y : AddValue) → AddsAre N StepWeight y → Solves N q (Plain t NbrLink) D V S → Gives N net d (S d) (λ m. added y (d, m.1))
        by_adds (AddEach xs) j x = absurd j
        by_adds AddWeights j x = over_gives N net d (IntValue N.declared.least) (λ n. IntValue n.1) (λ m. m.1) (λ n v c. refl) (S d) (x.1 d i)
    added_gives q b st S (inverted.local l z) e k sv d i = by_adds ad k
      where
        by_adds : (y : AddValue) → AddsAre N (StepValue q b) y → Gives N net d (S d) (λ m. added y (d, m.1))
        by_adds (AddEach xs) j = value_gives q b xs S e j sv d i
        by_adds AddWeights j = absurd j

    -- what a neighbour's value and the step make
    abbrev made : ℕ → ℕ × ℕ → ℕ
    made d m = min M (value m.0 + cost d m)

    sum_gives : (p : ℕ) (u : Term) (st : StepTerm) → IsSum 0 p u st → w.step ≡ st → AddsAre N st ad → term_type u ≡ TypeField IntType → (H : ValueMap) → Solves N p u D V H → (d : ℕ) → Lives N d → Hood N net d (H d) (made d)
    sum_gives p u st (inverted.first t a b st' hd z) e k ty H sv d i =
        let m = two_maps N (suc p) a b D V sv.1 sv.2 in
        let x = heard_gives N net f value integer there no_binders (suc p) a m.first hd m.solves_first d i in
        let y = added_gives (suc p + size a) b st m.second z e k m.solves_second d i in
        sum_hood N net pointwise d (m.first d) (m.second d) (H d) (λ n. value n.0) (cost d) (made d) x y (λ n. refl)
        (subst (λ l. builtin_value op.Add M d l ≡ Some (H d)) (m.at d) (sv.3 d i)) (subst (λ r. FitsOver M (around N D d) r (H d)) ty (sv.0 d i))
    sum_gives p u st (inverted.second t a b st' hd z) e k ty H sv d i =
        let m = two_maps N (suc p) a b D V sv.1 sv.2 in
        let x = heard_gives N net f value integer there no_binders (suc p + size a) b m.second hd m.solves_second d i in
        let y = added_gives (suc p) a st m.first z e k m.solves_first d i in
        sum_hood N net pointwise d (m.first d) (m.second d) (H d) (cost d) (λ n. value n.0) (made d) y x
        (λ n. let c : cost d n + value n.0 ≡ value n.0 + cost d n = omega arith in ap (min M) c)
        (subst (λ l. builtin_value op.Add M d l ≡ Some (H d)) (m.at d) (sv.3 d i)) (subst (λ r. FitsOver M (around N D d) r (H d)) ty (sv.0 d i))

    is_settled : (d a : ℕ) → Contains start (d, a) → Settled N net d (value d) a (made d)
    is_settled d a c =
        let i = (member_is h.one.field start (numbers N.devices) h.values d a c).0 in
        let types = whole_types analyses P N k is net same agreed w form in
        let hood = sum_gives (suc at) G.sum w.step G.is_sum refl g types.0 body.first body.solves_first d i in
        let e : builtin_value op.MinHoodLoc M d (body.first d ∷ body.second d ∷ []) ≡ Some (ValueLocal (f d)) =
        subst (λ l. builtin_value op.MinHoodLoc M d l ≡ Some (ValueLocal (f d))) (body.at d) (s.2.3 d i) in
        settled N net d (value d) a (made d) (body.first d) hood
        (subst (λ v. builtin_value op.MinHoodLoc M d (body.first d ∷ v ∷ []) ≡ Some (ValueLocal (IntValue (value d)))) (local_is d a c i)
        (subst (λ v. builtin_value op.MinHoodLoc M d (body.first d ∷ body.second d ∷ []) ≡ Some (ValueLocal v)) (integer d i) e))

    abbrev C : CostsValue
    C = gathered M N start ad

    started : (d : ℕ) → Lives N d → (a : ℕ) × Contains start (d, a)
    started d i = let m = has_member h.one.field start (numbers N.devices) h.values d i in (m.0, m.1)

    is_fixed : IsFixed C value
    is_fixed = record {
      start = λ d a c. (is_settled d a c).start;
      step = λ n d q c.
          let r = in_steps N ad (numbers N.devices) (record { from = n; to = d; cost = q }) c in
          let back = near_law.linked.both n d r.0 r.2 in
          let live = near_law.linked.there n d r.0 r.2 in
          let a = started d live in
          let l = (is_settled d a.0 a.1).step n r.0 back (near_law.other d n r.0 back) in
          let e = r.3 in
          let l' : value d ≤ min M (value n + q) = subst (λ y. value d ≤ min M (value n + y)) e l in
          omega (arith, l');
      made = λ d a c.
          let i = (member_is h.one.field start (numbers N.devices) h.values d a c).0 in
          elim (is_settled d a c).made [
            | inl e ↦ inl e
            | inr m ↦
                let n = m.0 in
                let at = in_at n (numbers N.devices) (near_law.linked.there d n m.1 m.2) in
                let there : Contains (numbers N.devices) n = subst (Contains (numbers N.devices)) at.2 (Contains-get_or (numbers N.devices) at.0 0 at.1) in
                let q = added ad (d, m.1) in
                let e = m.3 in
                let e' : value d ≡ min (value n + q) M = omega (arith, e) in
                inr (n, q, to_steps N ad (numbers N.devices) n (d, m.1) there (near_law.linked.both d n m.1 m.2), e')
          ];
    }

    pub is_least : FixedValuesAreLeast → (d : ℕ) → Lives N d → IsLeastAt C d (F d)
    is_least fixed d i =
        let a = started d i in
        record { cost = value d; value = is_value d i ∙ integer d i; least = fixed C value (lawful near_law start ad h g) is_fixed d (a.0, a.1) }

pub solution_least : YesAnalyses → SolutionsAreOne → ReadsPointwise → FixedValuesAreLeast → (P : Program) (N : Network) (k : ℕ) (C : CostsValue) (F : ℕ → LocalValue) → Neighbours N → IsProgram P → IsNetwork N
    → N.declared ≡ P.declared → verdict_of (unfolding_of P) (length N.devices) ≡ verdict.Yes k → AreCostsOf (unfolding_of P) N C → SolvesMain N (unfolding_of P).main F → (d : ℕ) → Lives N d → IsLeastAt C d (F d)
solution_least analyses one_law pointwise fixed P N k C F near_law is net same agreed costs solves d i =
    let c = costs.costs in
    let e : C ≡ gathered N.declared.ceiling N c.start c.added = c.is ∙ ap (λ m. gathered m N c.start c.added) (sym (ap (λ x. x.ceiling) same)) in
    subst (λ y. IsLeastAt y d (F d)) (sym e)
    (is_least analyses one_law P N k is net same agreed costs.terms costs.form pointwise near_law F solves c.start c.added c.starts c.adds fixed d i)

-- ---- one costs

same_map : (xs ys : List (ℕ × ℕ)) → map as_integer xs ≡ map as_integer ys → xs ≡ ys
same_map [] [] e = refl
same_map [] (y ∷ ys) e = absurd cc
same_map (x ∷ xs) [] e = absurd cc
same_map (x ∷ xs) (y ∷ ys) e =
    let k = heads (as_integer x) (as_integer y) (map as_integer xs) (map as_integer ys) e in
    let a : x.0 ≡ y.0 = ap (λ (z : ℕ × LocalValue). z.0) k.0 in
    let b : x.1 ≡ y.1 = ap (λ (z : ℕ × LocalValue). integer_in z.1) k.0 in
    let head : x ≡ y = ap₂ {A = ℕ} {B = ℕ} (λ m n. (m, n)) a b in
    ap₂ {A = ℕ × ℕ} {B = List (ℕ × ℕ)} (λ z zs. z ∷ zs) head (same_map xs ys k.1)

-- the integers of the one field
integers_one : (N : Network) (q : ℕ) (t : Term) (xs ys : List (ℕ × ℕ)) → IsFieldAt N q t xs → IsFieldAt N q t ys → xs ≡ ys
integers_one N q t xs ys h g =
    let alike : entries h.one.field (numbers N.devices) ≡ entries g.one.field (numbers N.devices) = same_entries h.one.field g.one.field (numbers N.devices) (λ d i. g.one.only h.one.field h.one.solves d i) in
    same_map xs ys (h.values ∙ alike ∙ sym g.values)

added_one : (N : Network) (s : StepTerm) (a b : AddValue) → AddsAre N s a → AddsAre N s b → a ≡ b
added_one N (StepValue q t) (AddEach xs) (AddEach ys) h g = ap AddEach (integers_one N q t xs ys h g)
added_one N (StepValue q t) (AddEach xs) AddWeights h g = absurd g
added_one N (StepValue q t) AddWeights b h g = absurd h
added_one N StepWeight AddWeights AddWeights h g = refl
added_one N StepWeight AddWeights (AddEach ys) h g = absurd g
added_one N StepWeight (AddEach xs) b h g = absurd h

pub costs_one : (U : Unfolding) (N : Network) (w : WalkTerms) (B C : CostsValue) → AreCostsFor U N w B → AreCostsFor U N w C → B ≡ C
costs_one U N w B C h g =
    h.is ∙ ap₂ (λ s a. gathered U.declared.ceiling N s a) (integers_one N w.place w.local h.start g.start h.starts g.starts) (added_one N w.step h.added g.added h.adds g.adds) ∙ sym g.is
