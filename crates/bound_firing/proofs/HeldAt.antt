-- Bounds that binders hold, as arguments and as they are seen.
use Rattle.std.proofs.Common.{◌≡◌, ℕ, suc, ◌<◌, List, [], ◌∷◌, ◌++◌, refl, sym, ◌∙◌, ap, subst, arith, get_or}
use Rattle.std.proofs.Common.{◌≤◌, length, Option, Some, None, IfSome}
use Rattle.std.proofs.Common.{Bool, true, false, ◌&&◌, ◌||◌, nat_eq}
use Rattle.fc_values.specs.declared.builtins.Builtin.{Builtin}
use Rattle.fc_values.specs.Types.{ValueType}
use Rattle.fc_nodes.specs.declared.nodes.Node.{Node}
use Rattle.fc_nodes.specs.Terms.{OfApply, OfLeaf, Variable, HasNode, AllLaid, Laid, places, term_at, terms_by}
use Rattle.fc_nodes.specs.Layouts.{LayoutValue}
use Rattle.fc_nodes.proofs.Places.{formed_above, laid_within}
use Rattle.fc_nodes.proofs.Kids.{apply_laid}
use Rattle.device_eval.specs.Walks.{Stands}
use Rattle.value_bounds.specs.BoundValues.{BoundValue}
use Rattle.value_bounds.specs.BoundBuiltins.{Maybes, BoundEntries, AnyBound, builtin_bound}
use Rattle.bound_firing.specs.Seats.{is_there, is_sure, cut_to, cut_entries}
use Rattle.bound_firing.specs.Firing.{BoundSituation, BoundVars, variable_bound}
use Rattle.bound_firing.specs.FlatSeats.{FlatSeats, flat_maybes}
use Rattle.bound_firing.specs.Walks.{DidAt, ReadyAt, AllDid, none_did, one_did}
use Rattle.bound_firing.specs.Held.{AreSeated, Gives, Built}
use Rattle.bound_firing.proofs.LeafAt.{variable_done}
use Rattle.bound_firing.proofs.ApplyAt.{apply_ready, apply_done}
use Rattle.bound_firing.proofs.KidsAt.{ready_at}

-- ---- entries of the first neighbours aren't cut

same_and : (x y : Bool) → (x ≡ true → y ≡ true) → (x && y) ≡ x
same_and true y h = h refl
same_and false y h = refl

or_left : (x y : Bool) → x ≡ true → (x || y) ≡ true
or_left true y h = refl
or_left false y h = absurd cc

or_right : (x y : Bool) → y ≡ true → (x || y) ≡ true
or_right true y h = refl
or_right false y h = h

number_same : (k n : ℕ) → k ≡ n → nat_eq k n ≡ true
number_same k n e = grind (arith, e)

module _ (zs : Maybes) where
  -- what is there, or sure, among some is so among all
  record Within (ss : Maybes) : Type 0 where
    pub there : (k : ℕ) → is_there k ss ≡ true → is_there k zs ≡ true
    pub sure : (k : ℕ) → is_sure k ss ≡ true → is_sure k zs ≡ true

  seated_in : (ss : Maybes) (bs : BoundEntries) → Within ss → AreSeated ss bs → cut_entries zs bs ≡ bs
  seated_in ss [] w h = refl
  seated_in [] (b ∷ bs) w h = absurd h
  seated_in (s ∷ ss) (b ∷ bs) w h =
      let it = number_same b.0 s.0 h.0 in
      let there = w.there b.0 (or_left (nat_eq b.0 s.0) (is_there b.0 ss) it) in
      let sure = same_and b.1 (is_sure b.0 zs) (λ e. w.sure b.0 (or_left (nat_eq b.0 s.0 && s.1) (is_sure b.0 ss)
      (let u = h.1 e in rw (it, u) refl))) in
      let rest = seated_in ss bs (record {
        there = λ k e. w.there k (or_right (nat_eq k s.0) (is_there k ss) e);
        sure = λ k e. w.sure k (or_right (nat_eq k s.0 && s.1) (is_sure k ss) e);
      }) h.2 in
      rw (there, sure, rest) refl

pub seated : (ss : Maybes) (bs : BoundEntries) → AreSeated ss bs → bs ≡ cut_entries ss bs
seated ss bs h = sym (seated_in ss ss bs (record { there = λ k e. e; sure = λ k e. e }) h)

-- ---- variables, and components of them

module _ {ns : List Node} {lay : LayoutValue} {p : ℕ} {t : ValueType} {ks : List ℕ} {F : FlatSeats} (S : BoundSituation)
    (vars : BoundVars) where
  pub variable_held : {n : ℕ} {b : AnyBound} → HasNode ns p (OfLeaf (Variable n)) t ks
      → b ≡ cut_to (flat_maybes F.near) (variable_bound n vars) → Gives S ns lay p vars F b
  variable_held h e xs r = variable_done S vars (ready_at r h) e

  pub component_held : {o : Builtin} {k : ℕ} {a b : AnyBound} → HasNode ns p (OfApply o) t ks → k ∷ [] ≡ ks
      → Gives S ns lay k vars F a → b ≡ builtin_bound o S.ceiling S.device (a ∷ []) → Gives S ns lay p vars F b
  component_held {o} {k} {a} {b} h e g i xs r =
      let here : ReadyAt ns lay p (OfApply o) t ks F xs = ready_at r h in
      let first = apply_ready here S vars e in
      let all : AllDid S ns (k ∷ []) vars F xs [] (a ∷ []) xs =
      record { bounds = a ∷ []; added = refl; each = one_did k a (g xs first.0) none_did } in
      subst (λ v. DidAt S ns p vars F xs v xs) (sym i) (apply_done here S vars e refl all)

-- the only argument of a builtin stands behind it
pub argument_stands : {ns : List Node} {lay : LayoutValue} {p : ℕ} {o : Builtin} {t : ValueType} {ks : List ℕ} {k : ℕ}
    → Stands ns lay p → HasNode ns p (OfApply o) t ks → k ∷ [] ≡ ks → (p < k) × Stands ns lay k
argument_stands {ns} {lay} {p} {o} {t} {ks} {k} st h e =
    let i = apply_laid ns (formed_above ns st.formed) p o t ks h st.laid in
    let laid : AllLaid ns (suc p) (terms_by (term_at ns) (k ∷ [])) =
    subst (λ qs. AllLaid ns (suc p) (terms_by (term_at ns) qs)) (sym e) i.kids in
    let is : k ≡ suc p = ap (λ qs. get_or qs 0 0) (e ∙ i.stand_at
    ∙ ap (λ qs. places (suc p) (terms_by (term_at ns) qs)) (sym e)) in
    let there = subst (λ r. Laid ns r (term_at ns k)) (sym is) laid.0 in (
      omega (arith, is),
      record {
        layout = st.layout;
        formed = st.formed;
        laid = there;
        within = laid_within ns k (term_at ns k) there;
      },
    )

-- ---- what a builtin makes of some arguments

module _ {S : BoundSituation} {ns : List Node} {o : Builtin} {vars : BoundVars} {F : FlatSeats} {r : AnyBound} where
  pub built_one : (k : ℕ) {xs ys : List BoundValue} {a : AnyBound} → DidAt S ns k vars F xs a ys
      → r ≡ builtin_bound o S.ceiling S.device (a ∷ []) → Built S ns o (k ∷ []) vars F xs r ys
  built_one k {xs} {ys} {a} d e = record { bounds = a ∷ []; each = one_did k a d none_did; is = e }

  pub built_two : (k j : ℕ) {xs ys zs : List BoundValue} {a b : AnyBound} → DidAt S ns k vars F xs a ys
      → DidAt S ns j vars F ys b zs → r ≡ builtin_bound o S.ceiling S.device (a ∷ b ∷ [])
      → Built S ns o (k ∷ j ∷ []) vars F xs r zs
  built_two k j {xs} {ys} {zs} {a} {b} d d' e =
      record { bounds = a ∷ b ∷ []; each = one_did k a d (one_did j b d' none_did); is = e }

  pub built_three : (k j i : ℕ) {xs ys zs ws : List BoundValue} {a b c : AnyBound} → DidAt S ns k vars F xs a ys
      → DidAt S ns j vars F ys b zs → DidAt S ns i vars F zs c ws
      → r ≡ builtin_bound o S.ceiling S.device (a ∷ b ∷ c ∷ []) → Built S ns o (k ∷ j ∷ i ∷ []) vars F xs r ws
  built_three k j i {xs} {ys} {zs} {ws} {a} {b} {c} d d' d'' e = record {
    bounds = a ∷ b ∷ c ∷ [];
    each = one_did k a d (one_did j b d' (one_did i c d'' none_did));
    is = e;
  }

  pub built_all : {ks : List ℕ} {xs ys : List BoundValue} {old bs : List AnyBound} → old ≡ []
      → AllDid S ns ks vars F xs old bs ys → r ≡ builtin_bound o S.ceiling S.device bs
      → Built S ns o ks vars F xs r ys
  built_all {ks} {xs} {ys} {old} {bs} f d e =
      let same : bs ≡ d.bounds = d.added ∙ ap (λ cs. cs ++ d.bounds) f in
      record { bounds = d.bounds; each = d.each; is = e ∙ ap (builtin_bound o S.ceiling S.device) same }

module _ {ns : List Node} {lay : LayoutValue} {p : ℕ} {o : Builtin} {t : ValueType} {ks : List ℕ} {F : FlatSeats}
    {xs : List BoundValue} (here : ReadyAt ns lay p (OfApply o) t ks F xs) (S : BoundSituation) (vars : BoundVars) where
  pub apply_built : {qs : List ℕ} {b : AnyBound} {ys : List BoundValue} → qs ≡ ks → Built S ns o qs vars F xs b ys
      → DidAt S ns p vars F xs b ys
  apply_built {qs} {b} {ys} e d =
      let all : AllDid S ns qs vars F xs [] d.bounds ys = record { bounds = d.bounds; added = refl; each = d.each } in
      subst (λ v. DidAt S ns p vars F xs v ys) (sym d.is) (apply_done here S vars e refl all)

-- ---- lists and answers in code

pub one_item : (ks : List ℕ) → 1 ≤ length ks → length ks < 2 → get_or ks 0 0 ∷ [] ≡ ks
one_item [] h l = absurd (omega (arith, h))
one_item (k ∷ []) h l = refl
one_item (k ∷ j ∷ ks) h l = absurd (omega (arith, l))

pub two_items : (ks : List ℕ) → 2 ≤ length ks → length ks < 3 → get_or ks 0 0 ∷ get_or ks 1 0 ∷ [] ≡ ks
two_items [] h l = absurd (omega (arith, h))
two_items (k ∷ []) h l = absurd (omega (arith, h))
two_items (k ∷ j ∷ []) h l = refl
two_items (k ∷ j ∷ i ∷ ks) h l = absurd (omega (arith, l))

pub three_items : (ks : List ℕ) → 3 ≤ length ks → length ks < 4
    → get_or ks 0 0 ∷ get_or ks 1 0 ∷ get_or ks 2 0 ∷ [] ≡ ks
three_items [] h l = absurd (omega (arith, h))
three_items (k ∷ []) h l = absurd (omega (arith, h))
three_items (k ∷ j ∷ []) h l = absurd (omega (arith, h))
three_items (k ∷ j ∷ i ∷ []) h l = refl
three_items (k ∷ j ∷ i ∷ n ∷ ks) h l = absurd (omega (arith, l))

pub if_some : {A : Type 0} {P Q : A → Type 0} (o : Option A) → IfSome o P → ((x : A) → P x → Q x) → IfSome o Q
if_some None h f = tt
if_some (Some x) h f = f x h
