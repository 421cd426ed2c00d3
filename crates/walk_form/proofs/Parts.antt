-- Where the terms of the walk form stand, and that they are integers.
use Rattle.std.proofs.Common.{◌≡◌, ◌⊎◌, inl, inr, ℕ, suc, ◌+◌, ◌≤◌, List, [], ◌∷◌, refl, sym, ◌∙◌, ap, subst, arith, false, length, Some}
use Rattle.fc_values.specs.declared.builtins.Builtin.TheVariants as op
use Rattle.fc_values.specs.Types.{LocalType, IntType, ValueType, TypeLocal, TypeField, Declarations}
use Rattle.fc_values.specs.BuiltinTypes.{inner, HasRule, folds_min, Takes, takes_add}
use Rattle.fc_nodes.specs.declared.verdicts.Verdict.TheVariants as verdict
use Rattle.fc_nodes.specs.Terms.{ByRep, Term, Apply, Evolve, NoMore, More, term_type, size, term_at}
use Rattle.fc_nodes.specs.Typing.{Scope, HasType}
use Rattle.fc_nodes.specs.Variables.{occurs}
use Rattle.fc_nodes.specs.Program.{Program, unfolding_of, IsProgram}
use Rattle.fc_nodes.proofs.Kids.{size_some}
use Rattle.topology.specs.Networks.{Network, IsNetwork}
use Rattle.growth_facts.specs.Leads.{least_integer}
use Rattle.fragment_check.specs.Verdicts.{verdict_of}
use Rattle.converge_laws.specs.Fragment.{Analysis, TermInFragment}
use Rattle.converge_laws.specs.Verdicts.{analysis_of, YesAnalyses}
use Rattle.walk_form.specs.declared.forms.Span.{Span}
use Rattle.walk_form.specs.Forms.{StepTerm, StepValue, WalkTerms, walk_terms}
use Rattle.walk_form.specs.Spans.{IsSpan, AddsSpan, step_of, terms_of}
use Rattle.walk_form.specs.Parts.{IsWalkPart, IsPartOf}
use Rattle.walk_form.proofs.Inverted.{IsAdded, IsSum, IsRoot, gradient}
use Rattle.walk_form.proofs.Inverted as inverted
use Rattle.walk_form.proofs.Under.{Under, fragment_under}
use Rattle.walk_form.proofs.Under as under
use Rattle.walk_form.proofs.Gradients.{Gradient, gradient_is}

-- ---- types

hood_of : (ts : List ValueType) (t : ValueType) → HasRule op.MinHoodLoc ts t → (r : LocalType) × (ts ≡ TypeField r ∷ TypeLocal r ∷ []) × (t ≡ TypeLocal r)
hood_of ts t (folds_min s) = (s, refl, refl)

add_of : (ts : List LocalType) (l : LocalType) → Takes op.Add ts l → ts ≡ IntType ∷ IntType ∷ []
add_of ts l takes_add = refl

local_same : (s t : LocalType) → TypeLocal s ≡ TypeLocal t → s ≡ t
local_same s t e = cc

both_same : (a b c d : ValueType) → (a ∷ b ∷ []) ≡ (c ∷ d ∷ []) → (a ≡ c) × (b ≡ d)
both_same a b c d e = (cc, cc)

inner_first : (a b c d : LocalType) → (a ∷ b ∷ []) ≡ (c ∷ d ∷ []) → a ≡ c
inner_first a b c d e = cc

inner_second : (a b c d : LocalType) → (a ∷ b ∷ []) ≡ (c ∷ d ∷ []) → b ≡ d
inner_second a b c d e = cc

local_int : (b : ValueType) (l : LocalType) → inner b ≡ IntType → b ≡ TypeLocal l → b ≡ TypeLocal IntType
local_int (TypeLocal m) l e f = ap TypeLocal e
local_int (TypeField m) l e f = absurd cc

-- the same integer type stands for a value of the body
pub hood_int : (D : Declarations) (scope : Scope) (p : ℕ) (t : ValueType) (h l : Term) → t ≡ TypeLocal IntType → HasType D scope p (Apply t op.MinHoodLoc (More h (More l NoMore)))
    → (term_type h ≡ TypeField IntType) × (term_type l ≡ TypeLocal IntType)
hood_int D scope p t h l e ty =
    let r = hood_of (term_type h ∷ term_type l ∷ []) t ty.0 in
    let s = local_same r.0 IntType (sym r.2 ∙ e) in
    let both = both_same (term_type h) (term_type l) (TypeField r.0) (TypeLocal r.0) r.1 in
    (both.0 ∙ ap TypeField s, both.1 ∙ ap TypeLocal s)

-- ---- where they stand

pub record Placed (P : Program) (q : ℕ) (t : Term) : Type 0 where
  pub start : Term
  pub body : Term
  pub main : (unfolding_of P).main ≡ Evolve (TypeLocal IntType) ByRep start body
  pub stands : Under (suc 0 + size start) body q t
  pub type : term_type t ≡ TypeLocal IntType
  pub low : 4 ≤ q

step_same : (p q : ℕ) (a b : Term) → StepValue p a ≡ StepValue q b → (p ≡ q) × (a ≡ b)
step_same p q a b e = (cc, cc)

value_is : (p q : ℕ) (b t : Term) (s : StepTerm) → IsAdded p b s → s ≡ StepValue q t → (p ≡ q) × (b ≡ t) × ((l : LocalType) × (term_type b ≡ TypeLocal l))
value_is p q b t s (inverted.links u k) e = absurd cc
value_is p q b t s (inverted.local l k) e = let f = step_same p q b t e in (f.0, f.1, (l, k))

-- what a sum adds stands in it, and is an integer
record InSum (D : Declarations) (scope : Scope) (p : ℕ) (h : Term) (q : ℕ) (t : Term) : Type 0 where
  stands : Under p h q t
  type : HasType D scope p h → term_type t ≡ TypeLocal IntType

in_sum : (D : Declarations) (scope : Scope) (p : ℕ) (h : Term) (q : ℕ) (t : Term) (s : StepTerm) → IsSum 0 p h s → s ≡ StepValue q t → InSum D scope p h q t
in_sum D scope p h q t s (inverted.first u a b s' hd ad) e =
    let v = value_is (suc p + size a) q b t s ad e in
    subst (λ n. InSum D scope p h n t) v.0 (subst (λ z. InSum D scope p h (suc p + size a) z) v.1 (record {
      stands = under.second p u op.Add a b NoMore (suc p + size a) b (under.here (suc p + size a) b);
      type = λ ty. local_int (term_type b) v.2.0 (inner_second (inner (term_type a)) (inner (term_type b)) IntType IntType (add_of _ _ ty.0.takes)) v.2.1;
    }))
in_sum D scope p h q t s (inverted.second u a b s' hd ad) e =
    let v = value_is (suc p) q a t s ad e in
    subst (λ n. InSum D scope p h n t) v.0 (subst (λ z. InSum D scope p h (suc p) z) v.1 (record {
      stands = under.first p u op.Add a (More b NoMore) (suc p) a (under.here (suc p) a);
      type = λ ty. local_int (term_type a) v.2.0 (inner_first (inner (term_type a)) (inner (term_type b)) IntType IntType (add_of _ _ ty.0.takes)) v.2.1;
    }))

module _ (P : Program) (is : IsProgram P) (w : WalkTerms) (form : walk_terms (unfolding_of P) ≡ Some w) where
  abbrev root : IsRoot (unfolding_of P).main w
  root = (gradient (unfolding_of P) w form).root

  abbrev place : ℕ
  place = suc 0 + size root.start

  abbrev body : Term
  body = Apply root.form.type op.MinHoodLoc (More root.form.sum (More w.local NoMore))

  main : (unfolding_of P).main ≡ Evolve (TypeLocal IntType) ByRep root.start body
  main = root.is ∙ ap (Evolve (TypeLocal IntType) ByRep root.start) root.form.is

  typed : HasType P.declared [] 0 (Evolve (TypeLocal IntType) ByRep root.start body)
  typed = subst (HasType P.declared [] 0) main is.typed

  body_type : root.form.type ≡ TypeLocal IntType
  body_type = typed.3 ∙ sym typed.1

  sum_size : 3 ≤ size root.form.sum
  sum_size = by_sum root.form.step
    where
      by_sum : {h : Term} {s : StepTerm} → IsSum 0 (suc place) h s → 3 ≤ size h
      by_sum (inverted.first u a b s hd ad) = let x = size_some a in let y = size_some b in omega (arith, x, y)
      by_sum (inverted.second u a b s hd ad) = let x = size_some a in let y = size_some b in omega (arith, x, y)

  pub local_placed : Placed P w.place w.local
  local_placed =
      let z = sum_size in
      let y = size_some root.start in
      let e = root.form.place in
      record {
        start = root.start;
        body = body;
        main = main;
        stands = subst (λ n. Under place body n w.local) (sym e)
            (under.second place root.form.type op.MinHoodLoc root.form.sum w.local NoMore (suc place + size root.form.sum) w.local (under.here (suc place + size root.form.sum) w.local));
        type = (hood_int P.declared _ place root.form.type root.form.sum w.local body_type typed.5).1;
        low = omega (arith, z, y, e);
      }

  pub step_placed : (q : ℕ) (t : Term) → w.step ≡ StepValue q t → Placed P q t
  step_placed q t e =
      let i = in_sum P.declared ((0, TypeLocal typed.0) ∷ []) (suc place) root.form.sum q t w.step root.form.step e in
      let y = size_some root.start in
      let below = inside i.stands in
      record {
        start = root.start;
        body = body;
        main = main;
        stands = under.first place root.form.type op.MinHoodLoc root.form.sum (More w.local NoMore) q t i.stands;
        type = i.type typed.5.1.0;
        low = omega (arith, y, below);
      }
    where
      -- it stands behind the sum's own node
      by_sum : {h : Term} {s : StepTerm} → IsSum 0 (suc place) h s → s ≡ StepValue q t → suc (suc place) ≤ q
      by_sum (inverted.first u a b s hd ad) f = let v = (value_is (suc (suc place) + size a) q b t s ad f).0 in let y = size_some a in omega (arith, v, y)
      by_sum (inverted.second u a b s hd ad) f = let v = (value_is (suc (suc place)) q a t s ad f).0 in omega (arith, v)

      inside : Under (suc place) root.form.sum q t → suc (suc place) ≤ q
      inside u = by_sum root.form.step e

part_terms : (P : Program) (s : Span) (h : IsWalkPart P s) → (w : WalkTerms) × (walk_terms (unfolding_of P) ≡ Some w)
    × (((w.place ≡ s.from) × (w.local ≡ term_at P.nodes s.from)) ⊎ (w.step ≡ StepValue s.from (term_at P.nodes s.from)))
part_terms P s h = (terms_of P.nodes h.form, h.is.terms, by_part h.part)
  where
    by_part : IsPartOf h.form s → (((terms_of P.nodes h.form).place ≡ s.from) × ((terms_of P.nodes h.form).local ≡ term_at P.nodes s.from)) ⊎ (step_of P.nodes h.form.adds ≡ StepValue s.from (term_at P.nodes s.from))
    by_part (inl e) = inl (ap (λ (x : Span). x.from) e, ap (λ (x : Span). term_at P.nodes x.from) e)
    by_part (inr e) = inr (ap (step_of P.nodes) e)

pub part_placed : (P : Program) (s : Span) → IsProgram P → IsWalkPart P s → Placed P s.from (term_at P.nodes s.from)
part_placed P s is h = let r = part_terms P s h in by_part r.0 r.1 r.2
  where
    by_part : (w : WalkTerms) → walk_terms (unfolding_of P) ≡ Some w → (((w.place ≡ s.from) × (w.local ≡ term_at P.nodes s.from)) ⊎ (w.step ≡ StepValue s.from (term_at P.nodes s.from)))
        → Placed P s.from (term_at P.nodes s.from)
    by_part w e (inl f) = subst (λ n. Placed P n (term_at P.nodes s.from)) f.0 (subst (λ z. Placed P w.place z) f.1 (local_placed P is w e))
    by_part w e (inr f) = step_placed P is w e s.from (term_at P.nodes s.from) f

pub part_span : (P : Program) (s : Span) → IsWalkPart P s → IsSpan P.nodes s
part_span P s h = by_part h.part
  where
    by_part : IsPartOf h.form s → IsSpan P.nodes s
    by_part (inl e) = subst (IsSpan P.nodes) e h.is.local
    by_part (inr e) = subst (AddsSpan P.nodes) e h.is.step

-- ---- where the verdict is a yes, they are without the variable and in the fragment

pub record Part (P : Program) (A : Analysis) (m q : ℕ) (t : Term) : Type 0 where
  pub start : Term
  pub body : Term
  pub main : (unfolding_of P).main ≡ Evolve (TypeLocal IntType) ByRep start body
  pub stands : Under (suc 0 + size start) body q t
  pub free : occurs 0 t ≡ false
  pub fragment : TermInFragment A m q t

module _ (analyses : YesAnalyses) (P : Program) (N : Network) (k : ℕ) (is : IsProgram P) (net : IsNetwork N) (same : N.declared ≡ P.declared)
    (agreed : verdict_of (unfolding_of P) (length N.devices) ≡ verdict.Yes k) (w : WalkTerms) (form : walk_terms (unfolding_of P) ≡ Some w) where
  abbrev A : Analysis
  A = analysis_of (unfolding_of P) (length N.devices)

  abbrev M : ℕ
  M = N.declared.ceiling

  abbrev G : Gradient P A M w
  G = gradient_is analyses P N k is net same agreed w form

  abbrev at : ℕ
  at = suc 0 + size G.start

  abbrev whole : Term
  whole = Apply G.type op.MinHoodLoc (More G.sum (More w.local NoMore))

  whole_typed : HasType P.declared [] 0 (Evolve (TypeLocal IntType) ByRep G.start whole)
  whole_typed = subst (HasType P.declared [] 0) G.main is.typed

  pub whole_types : (term_type G.sum ≡ TypeField IntType) × (term_type w.local ≡ TypeLocal IntType)
  whole_types = hood_int P.declared ((0, TypeLocal whole_typed.0) ∷ []) at G.type G.sum w.local (whole_typed.3 ∙ sym whole_typed.1) whole_typed.5

  pub local_part : Part P A M w.place w.local
  local_part =
      let stands : Under at whole (suc at + size G.sum) w.local = under.second at G.type op.MinHoodLoc G.sum w.local NoMore (suc at + size G.sum) w.local (under.here (suc at + size G.sum) w.local) in
      let stands' : Under at whole w.place w.local = subst (λ n. Under at whole n w.local) (sym G.place) stands in
      record { start = G.start; body = whole; main = G.main; stands = stands'; free = G.free; fragment = fragment_under A M at whole w.place w.local stands' G.fragment }

  pub summand_part : Part P A M G.added.place G.added.term
  summand_part =
      let stands : Under at whole G.added.place G.added.term = under.first at G.type op.MinHoodLoc G.sum (More w.local NoMore) G.added.place G.added.term G.added.stands in
      record { start = G.start; body = whole; main = G.main; stands = stands; free = G.added.free; fragment = fragment_under A M at whole G.added.place G.added.term stands G.fragment }

  -- what a step adds is at least 1
  pub record StepPart (q : ℕ) (t : Term) : Type 0 where
    pub part : Part P A M q t
    pub some : 1 ≤ least_integer (A.ranges q)

  pub step_part : (q : ℕ) (t : Term) → w.step ≡ StepValue q t → StepPart q t
  step_part q t e =
      let v = value_is G.added.place q G.added.term t w.step G.added.added e in
      subst (λ n. StepPart n t) v.0 (subst (λ z. StepPart G.added.place z) v.1 (record { part = summand_part; some = G.added.some }))

pub part_part : YesAnalyses → (P : Program) (N : Network) (k : ℕ) (s : Span) → IsProgram P → IsNetwork N → N.declared ≡ P.declared → verdict_of (unfolding_of P) (length N.devices) ≡ verdict.Yes k
    → IsWalkPart P s → Part P (analysis_of (unfolding_of P) (length N.devices)) N.declared.ceiling s.from (term_at P.nodes s.from)
part_part analyses P N k s is net same agreed h = let r = part_terms P s h in by_part r.0 r.1 r.2
  where
    by_part : (w : WalkTerms) → walk_terms (unfolding_of P) ≡ Some w → (((w.place ≡ s.from) × (w.local ≡ term_at P.nodes s.from)) ⊎ (w.step ≡ StepValue s.from (term_at P.nodes s.from)))
        → Part P (analysis_of (unfolding_of P) (length N.devices)) N.declared.ceiling s.from (term_at P.nodes s.from)
    by_part w e (inl f) =
        subst (λ n. Part P (analysis_of (unfolding_of P) (length N.devices)) N.declared.ceiling n (term_at P.nodes s.from)) f.0
        (subst (λ z. Part P (analysis_of (unfolding_of P) (length N.devices)) N.declared.ceiling w.place z) f.1 (local_part analyses P N k is net same agreed w e))
    by_part w e (inr f) = (step_part analyses P N k is net same agreed w e s.from (term_at P.nodes s.from) f).part
