-- The level of the node at a place, from those of its kids.
use Rattle.std.proofs.Common.{◌≡◌, ℕ, zero, suc, ◌≤◌, ◌<◌, ◌+◌, ◌-◌, ◌||◌, List, [], ◌∷◌, ◌++◌, length, refl, sym, ◌∙◌, ap, subst, arith, get_or, Bool, true, false, not, Option, Some, None, max, nat_eq}
use Rattle.std.specs.Prelude.{if◌then◌else◌}
use Rattle.std.specs.List.{repeat}
use Rattle.std.specs.Prelude.{slice_set, IfOk}
use Rattle.std.specs.declared.result.Result.{Result}
use Rattle.std.specs.declared.result.Result.TheVariants.{Ok, Err}
use Rattle.std.proofs.lemmas.List.{append_assoc, append-nil}
use Rattle.fc_values.specs.Types.{ValueType, type_of}
use Rattle.fc_values.specs.declared.builtins.Builtin.{Builtin}
use Rattle.fc_nodes.specs.declared.nodes.Node.{Node}
use Rattle.fc_nodes.specs.Sorts.{is_nbr_sort, is_evolve_sort, is_own_sort, is_let_sort}
use Rattle.fc_nodes.specs.Terms.{Evolution, Term, Terms, Plain, Apply, Nbr, Evolve, If, Let, NoMore, More, size, sizes, Sort, OfLeaf, OfApply, OfNbr, OfEvolve, OfIf, OfLet, sort_of, term_at, terms_by, HasNode, Laid, AllLaid, places, is_branching}
use Rattle.fc_nodes.specs.Places.{StandsAt}
use Rattle.fragment_check.specs.Facts.{InRow}
use Rattle.fc_nodes.proofs.Places.{AllAbove, formed_above, in_range, term_is}
use Rattle.fc_nodes.proofs.Kids.{laid_term, OneKid, TwoKids, ThreeKids, SomeKids, apply_laid, nbr_laid, if_laid, let_laid, evolve_laid, if_sort}
use Rattle.fc_nodes.specs.Variables.{occurs, occurs_in, is_own}
use Rattle.fragment_check.specs.Levels.{Lvs, bind_level, level_unless, level_of, level_all, node_levels, all_node_levels}
use Rattle.fragment_check.proofs.Steps.{nbr_sort, kids_row}
use Rattle.round_bound.specs.declared.scopes.Context.{Context}
use Rattle.round_bound.specs.declared.scopes.Position.{Position}
use Rattle.round_bound.specs.declared.scopes.Found.{Found}
use Rattle.round_bound.specs.Walks.{AtNode, FoundAt, FoundAll, FoundBelow, most_added, level_before, levels_in, Ready, stages_in, level_at, greatest_at, node_levels_at, levels_at, behind, leaf_level_by, is_apply_sort}
use Rattle.round_bound.proofs.Small.{stages_few}
use Rattle.round_bound.proofs.LevelBounds.{level_few}

-- ---- terms end within the nodes

mutual
  laid_end : (ns : List Node) (p : ℕ) (u : Term) → Laid ns p u → p + size u ≤ length ns
  laid_end ns p (Plain t l) h = let w = in_range ns p _ h in omega (arith, w)
  laid_end ns p (Apply t o xs) h = let w = in_range ns p _ h.0 in let e = laid_ends ns (suc p) xs (omega (arith, w)) h.1 in omega (arith, e)
  laid_end ns p (Nbr t a) h = let e = laid_end ns (suc p) a h.1 in omega (arith, e)
  laid_end ns p (Evolve t v a b) h = let e = laid_end ns (suc p + size a) b h.2 in omega (arith, e)
  laid_end ns p (If t c a b) h = let e = laid_end ns (suc p + size c + size a) b h.3 in omega (arith, e)
  laid_end ns p (Let t a b) h = let e = laid_end ns (suc p + size a) b h.2 in omega (arith, e)

  laid_ends : (ns : List Node) (p : ℕ) (xs : Terms) → p ≤ length ns → AllLaid ns p xs → p + sizes xs ≤ length ns
  laid_ends ns p NoMore l h = omega (arith, l)
  laid_ends ns p (More x xs) l h = let e = laid_end ns p x h.0 in let f = laid_ends ns (p + size x) xs e h.1 in omega (arith, f)

-- the kid with a number
row_at : (ns : List Node) (p : ℕ) (ks : List ℕ) (i q : ℕ) → InRow ns p ks → i < length ks → q ≡ get_or ks i q → (p < q) × StandsAt ns q
row_at ns p [] i q r l e = absurd (omega (arith, l))
row_at ns p (k ∷ ks) zero q r l e = (let k' = r.0 in omega (arith, k', e), subst (StandsAt ns) (sym e) r.1)
row_at ns p (k ∷ ks) (suc i) q r l e = let s = row_at ns k ks i q r.2 (omega (arith, l)) e in (let a = s.0 in let b = r.0 in omega (arith, a, b), s.1)

same_at : (ks : List ℕ) (i q : ℕ) → i < length ks → q ≡ get_or ks i q → q ≡ get_or ks i 0
same_at [] i q l e = absurd (omega (arith, l))
same_at (k ∷ ks) zero q l e = e
same_at (k ∷ ks) (suc i) q l e = same_at ks i q (omega (arith, l)) e

later_ready : (c : Context) (p q : ℕ) (s : Position) → p ≤ q → Ready c p s → Ready c q s
later_ready c p q s l r = record {
  ranges = r.ranges;
  devices = r.devices;
  branch = let b = r.branch in omega (arith, b, l);
  scope = λ i. let b = r.scope i in omega (arith, b, l);
}

-- with another branch level and another variable
other_ready : (c : Context) (p q b o : ℕ) (s : Position) → p ≤ q → b ≤ level_before q → Ready c p s → Ready c q (record { branch = b; own = o; scope = s.scope })
other_ready c p q b o s l f r = record {
  ranges = r.ranges;
  devices = r.devices;
  branch = f;
  scope = λ i. let b' = r.scope i in omega (arith, b', l);
}

let_sort : (s : Sort) → is_let_sort s ≡ true → s ≡ OfLet
let_sort (OfLeaf l) e = absurd cc
let_sort (OfApply o) e = absurd cc
let_sort OfNbr e = absurd cc
let_sort (OfEvolve v) e = absurd cc
let_sort OfIf e = absurd cc
let_sort OfLet e = refl

nbr_place : (K : ℕ → ℕ) (p b x : ℕ) (lv : Lvs) (t : ValueType) (a : Term) (q : ℕ) → q ≡ suc p
    → level_of K p b x lv (Nbr t a) ≡ (if is_own x a then suc b else suc (level_of K q b x lv a))
nbr_place K p b x lv t a q e = rw e refl

if_places : (K : ℕ → ℕ) (p b x : ℕ) (lv : Lvs) (t : ValueType) (c u v : Term) (q r w : ℕ) → q ≡ suc p → r ≡ suc p + size c → w ≡ suc p + size c + size u
    → level_of K p b x lv (If t c u v) ≡ max (level_of K q b x lv c) (max (level_of K r (level_of K q b x lv c) x lv u) (level_of K w (level_of K q b x lv c) x lv v))
if_places K p b x lv t c u v q r w e f g = rw (e, f, g) refl

let_places : (K : ℕ → ℕ) (p b x : ℕ) (lv : Lvs) (t : ValueType) (a u : Term) (q r : ℕ) → q ≡ suc p → r ≡ suc p + size a
    → level_of K p b x lv (Let t a u) ≡ level_of K r b x (bind_level p (level_of K q b x lv a) lv) u
let_places K p b x lv t a u q r e f = rw (e, f) refl

if_levels : (K : ℕ → ℕ) (p b x : ℕ) (lv : Lvs) (t : ValueType) (c u v : Term) (q r w : ℕ) → q ≡ suc p → r ≡ suc p + size c → w ≡ suc p + size c + size u
    → behind (node_levels K p b x lv (If t c u v)) ≡ node_levels K q b x lv c ++ (node_levels K r (level_of K q b x lv c) x lv u ++ node_levels K w (level_of K q b x lv c) x lv v)
if_levels K p b x lv t c u v q r w e f g = rw (e, f, g) refl

let_levels : (K : ℕ → ℕ) (p b x : ℕ) (lv : Lvs) (t : ValueType) (a u : Term) (q r : ℕ) → q ≡ suc p → r ≡ suc p + size a
    → behind (node_levels K p b x lv (Let t a u)) ≡ node_levels K q b x lv a ++ node_levels K r b x (bind_level p (level_of K q b x lv a) lv) u
let_levels K p b x lv t a u q r e f = rw (e, f) refl

-- the levels of a node: its own one, and those behind it
own_level : (K : ℕ → ℕ) (p b x : ℕ) (lv : Lvs) (t : Term) → node_levels K p b x lv t ≡ level_unless (occurs x t) (level_of K p b x lv t) ∷ behind (node_levels K p b x lv t)
own_level K p b x lv (Plain t l) = refl
own_level K p b x lv (Apply t o xs) = refl
own_level K p b x lv (Nbr t a) = refl
own_level K p b x lv (Evolve t e a u) = refl
own_level K p b x lv (If t c u v) = refl
own_level K p b x lv (Let t a u) = refl

bind_before : (B p l : ℕ) (lv : Lvs) → l ≤ B → ((q : ℕ) → lv q ≤ B) → (q : ℕ) → bind_level p l lv q ≤ B
bind_before B p l lv f g q = by_test (nat_eq p q)
  where
    by_test : (c : Bool) → (if c then l else lv q) ≤ B
    by_test true = f
    by_test false = g q

own_some : (K : ℕ → ℕ) (p b x : ℕ) (lv : Lvs) (t : Term) → occurs x t ≡ false → (l : ℕ) → l ≡ level_of K p b x lv t → node_levels K p b x lv t ≡ Some l ∷ behind (node_levels K p b x lv t)
own_some K p b x lv t o l e = own_level K p b x lv t ∙ ap (λ c. level_unless c (level_of K p b x lv t) ∷ behind (node_levels K p b x lv t)) o ∙ ap (λ k. Some k ∷ behind (node_levels K p b x lv t)) (sym e)

own_none : (K : ℕ → ℕ) (p b x : ℕ) (lv : Lvs) (t : Term) → occurs x t ≡ true → node_levels K p b x lv t ≡ None ∷ behind (node_levels K p b x lv t)
own_none K p b x lv t o = own_level K p b x lv t ∙ ap (λ c. level_unless c (level_of K p b x lv t) ∷ behind (node_levels K p b x lv t)) o

used : (b : Bool) → not b ≡ false → b ≡ true
used true e = refl
used false e = absurd cc

unused : (b : Bool) → not b ≡ true → b ≡ false
unused true e = absurd cc
unused false e = refl

-- ---- lists of levels

two_behind : (old q r m n : List (Option ℕ)) → m ≡ old ++ q → n ≡ m ++ r → n ≡ old ++ (q ++ r)
two_behind old q r m n e f = f ∙ ap (λ l. l ++ r) e ∙ append_assoc old q r

three_behind : (old q r u k m n : List (Option ℕ)) → k ≡ old ++ q → m ≡ k ++ r → n ≡ m ++ u → n ≡ old ++ (q ++ (r ++ u))
three_behind old q r u k m n e f g = two_behind old q (r ++ u) k n e (two_behind k r u m n f g)

set_there : (old rest : List (Option ℕ)) (v w : Option ℕ) → slice_set (old ++ (v ∷ rest)) (length old) w ≡ old ++ (w ∷ rest)
set_there [] rest v w = refl
set_there (o ∷ os) rest v w = ap (λ (l : List (Option ℕ)). o ∷ l) (set_there os rest v w)

set_found : (old m n rest : List (Option ℕ)) (i l : ℕ) → m ≡ old ++ None ∷ [] → n ≡ m ++ rest → i ≡ length old → slice_set n i (Some l) ≡ old ++ (Some l ∷ rest)
set_found old m n rest i l e f g =
    ap (λ k. slice_set k i (Some l)) (two_behind old (None ∷ []) rest m n e f) ∙ ap (λ k. slice_set (old ++ (None ∷ rest)) k (Some l)) g ∙ set_there old rest None (Some l)

-- one that has no level, out of so many
pub one_none : (os : List (Option ℕ)) (n : ℕ) → 0 < n → (os ++ None ∷ []) ++ repeat (n - 1) (None ∷ []) ≡ os ++ repeat n (None ∷ [])
one_none os zero l = absurd (omega (arith, l))
one_none os (suc n) l = let e : suc n - 1 ≡ n = omega arith in append_assoc os (None ∷ []) (repeat (suc n - 1) (None ∷ [])) ∙ ap (λ k. os ++ (None ∷ repeat k (None ∷ []))) e

if_suc : (b : Bool) (m n : ℕ) → (if b then suc m else suc n) ≡ suc (if b then m else n)
if_suc true m n = refl
if_suc false m n = refl

-- ---- what is found at a place, from what is found below it

-- its own level takes its place before the others
pub found_level : {c : Context} {p : ℕ} {s : Position} {f : Found} {old m n : List (Option ℕ)} {i : ℕ}
    → FoundBelow c p s f m n → m ≡ old ++ None ∷ [] → i ≡ length old → not f.uses ≡ true
    → FoundAt c p s f old (slice_set n i (Some f.level))
found_level {c} {p} {s} {f} {old} {m} {n} {i} below e g u = record {
  level = below.level;
  uses = below.uses;
  levels = set_found old m n (behind (node_levels_at c p s)) i f.level e below.levels g
      ∙ ap (λ l. old ++ l) (sym (own_some (stages_in c) p s.branch s.own (levels_in s.scope.now)
      (term_at c.program.now.nodes p) (sym below.uses ∙ unused f.uses u) f.level below.level));
}

-- it has no level of its own
pub found_none : {c : Context} {p : ℕ} {s : Position} {f : Found} {old m n : List (Option ℕ)}
    → FoundBelow c p s f m n → m ≡ old ++ None ∷ [] → not f.uses ≡ false → FoundAt c p s f old n
found_none {c} {p} {s} {f} {old} {m} {n} below e u = record {
  level = below.level;
  uses = below.uses;
  levels = two_behind old (None ∷ []) (behind (node_levels_at c p s)) m n e below.levels
      ∙ ap (λ l. old ++ l) (sym (own_none (stages_in c) p s.branch s.own (levels_in s.scope.now)
      (term_at c.program.now.nodes p) (sym below.uses ∙ used f.uses u)));
}

-- ---- a node where levels are asked for

-- a later place where levels are asked for
pub record Later (c : Context) (p q : ℕ) (s : Position) : Type 0 where
  pub after : p < q
  pub ready : Ready c q s
  pub stands : StandsAt c.program.now.nodes q

module _ {c : Context} {p : ℕ} {position : Position} {n : Node} (at : AtNode c p position n) where
  abbrev nodes : List Node
  nodes = c.program.now.nodes

  abbrev term : ℕ → Term
  term q = term_at nodes q

  abbrev sort : Sort
  sort = sort_of n.op

  abbrev type : ValueType
  type = type_of n.ty

  abbrev kids : List ℕ
  kids = n.kids.items

  abbrev scope : Lvs
  scope = levels_in position.scope.now

  -- the position in a branch of another level, and in the body of the node, if it is a `rep` or `share`
  abbrev in_branch : ℕ → Position
  in_branch b = record { branch = b; own = position.own; scope = position.scope }

  abbrev in_body : Position
  in_body = record { branch = position.branch; own = p; scope = position.scope }

  -- the level that a term at a place would have at the position, and the levels of its nodes
  abbrev level_as : ℕ → Term → ℕ
  level_as q u = level_of (stages_in c) q position.branch position.own scope u

  abbrev levels_as : ℕ → Term → List (Option ℕ)
  levels_as q u = node_levels (stages_in c) q position.branch position.own scope u

  -- the same of the term at a place, where the node is a `let` that binds a value of level b
  abbrev level_bound : ℕ → ℕ → ℕ
  level_bound b q = level_of (stages_in c) q position.branch position.own (bind_level p b scope) (term q)

  abbrev levels_bound : ℕ → ℕ → List (Option ℕ)
  levels_bound b q = node_levels (stages_in c) q position.branch position.own (bind_level p b scope) (term q)

  above : AllAbove nodes
  above = formed_above nodes at.program.formed

  -- what is known of the node, once its sort is
  node_as : {s : Sort} → sort ≡ s → HasNode nodes p s type kids
  node_as e = subst (λ s. HasNode nodes p s type kids) e at.node

  few : (q : ℕ) → stages_in c q ≤ most_added
  few = stages_few c.program.now at.program c.devices

  -- the level of a term is before its end
  ends_small : (q b x : ℕ) (lv : Lvs) → b ≤ level_before q → ((i : ℕ) → lv i ≤ level_before q)
      → level_of (stages_in c) q b x lv (term q) ≤ level_before (q + size (term q))
  ends_small q b x lv f g =
      let r = level_few (stages_in c) few (level_before q) q b x lv (term q) f g in
      omega (arith, r)

  -- its level is small
  pub small : level_at c p position ≤ 6144002049
  small =
      let r = ends_small p position.branch position.own scope at.ready.branch at.ready.scope in
      let e = laid_end nodes p (term p) at.stands.laid in
      let l = at.program.short in
      omega (arith, r, e, l)

  -- ---- its kids

  pub row : InRow nodes p kids
  row = kids_row nodes at.program.formed p at.stands sort type kids at.node

  -- the kid with a number is later
  kid_later : {q : ℕ} (i : ℕ) → i < length kids → q ≡ get_or kids i q → (p < q) × StandsAt nodes q
  kid_later {q} i l e = row_at nodes p kids i q row l e

  -- and levels are asked for there, at the same position
  kid_same : {q : ℕ} (i : ℕ) → i < length kids → q ≡ get_or kids i q → Later c p q position
  kid_same {q} i l e =
      let k = kid_later i l e in
      let a = k.0 in
      record { after = a; ready = later_ready c p q position (omega (arith, a)) at.ready; stands = k.1 }

  -- the level of the kid just after it is before its end
  kid_small : {q : ℕ} → q ≡ suc p → level_at c q position ≤ level_before (q + size (term q))
  kid_small {q} a =
      let b = at.ready.branch in
      ends_small q position.branch position.own scope (omega (arith, b, a))
      (λ i. let w = at.ready.scope i in omega (arith, w, a))

  -- ---- a node without kids

  pub leaf_below : {f : Found} {old : List (Option ℕ)} → is_nbr_sort sort ≡ false → is_branching sort ≡ false
      → is_let_sort sort ≡ false → is_evolve_sort sort ≡ false → is_apply_sort sort ≡ false
      → f.level ≡ leaf_level_by position type sort → f.uses ≡ is_own_sort position.own sort
      → FoundBelow c p position f old old
  leaf_below {f} {old} a b d e g level uses = by_sort sort a b d e g level uses at.node
    where
      by_sort : (s : Sort) → is_nbr_sort s ≡ false → is_branching s ≡ false → is_let_sort s ≡ false
          → is_evolve_sort s ≡ false → is_apply_sort s ≡ false → f.level ≡ leaf_level_by position type s
          → f.uses ≡ is_own_sort position.own s → HasNode nodes p s type kids → FoundBelow c p position f old old
      by_sort (OfLeaf l) a b d e g level uses h =
          let k = term_is nodes above p (OfLeaf l) type kids h in
          record {
            level = level ∙ sym (ap (level_as p) k);
            uses = uses ∙ sym (ap (occurs position.own) k);
            levels = sym (append-nil old)
                ∙ ap (λ r. old ++ r) (sym (ap (λ u. behind (levels_as p u)) k));
          }
      by_sort (OfApply o) a b d e g level uses h = absurd cc
      by_sort OfNbr a b d e g level uses h = absurd cc
      by_sort (OfEvolve v) a b d e g level uses h = absurd cc
      by_sort OfIf a b d e g level uses h = absurd cc
      by_sort OfLet a b d e g level uses h = absurd cc

  -- ---- a builtin

  row_level : (xs : Terms) (q : ℕ) → AllLaid nodes q xs
      → greatest_at c (places q xs) position ≡ level_all (stages_in c) q position.branch position.own scope xs
  row_level NoMore q l = refl
  row_level (More x xs) q l =
      let e = laid_term nodes above x q l.0 in
      let f = row_level xs (q + size x) l.1 in
      ap (λ u. max (level_as q u) (greatest_at c (places (q + size x) xs) position)) e
      ∙ ap (max (level_as q x)) f

  row_levels : (xs : Terms) (q : ℕ) → AllLaid nodes q xs
      → levels_at c (places q xs) position ≡ all_node_levels (stages_in c) q position.branch position.own scope xs
  row_levels NoMore q l = refl
  row_levels (More x xs) q l =
      let e = laid_term nodes above x q l.0 in
      let f = row_levels xs (q + size x) l.1 in
      ap (λ u. levels_as q u ++ levels_at c (places (q + size x) xs) position) e
      ∙ ap (λ l. levels_as q x ++ l) f

  module _ (z : is_apply_sort sort ≡ true) where
    apply_kids : (o : Builtin) × SomeKids nodes p (Apply type o) kids
    apply_kids = by_sort sort z at.node
      where
        by_sort : (s : Sort) → is_apply_sort s ≡ true → HasNode nodes p s type kids
            → (o : Builtin) × SomeKids nodes p (Apply type o) kids
        by_sort (OfLeaf l) z h = absurd cc
        by_sort (OfApply o) z h = (o, apply_laid nodes above p o type kids h at.stands.laid)
        by_sort OfNbr z h = absurd cc
        by_sort (OfEvolve v) z h = absurd cc
        by_sort OfIf z h = absurd cc
        by_sort OfLet z h = absurd cc

    apply_level : greatest_at c kids position ≡ level_at c p position
    apply_level =
        let o = apply_kids in
        let k = o.1 in
        ap (λ l. greatest_at c l position) k.stand_at ∙ row_level (terms_by (term_at nodes) kids) (suc p) k.kids
        ∙ sym (ap (level_as p) k.term)

    apply_levels : levels_at c kids position ≡ behind (node_levels_at c p position)
    apply_levels =
        let o = apply_kids in
        let k = o.1 in
        ap (λ l. levels_at c l position) k.stand_at ∙ row_levels (terms_by (term_at nodes) kids) (suc p) k.kids
        ∙ sym (ap (λ u. behind (levels_as p u)) k.term)

    apply_uses : occurs_in position.own (terms_by (term_at nodes) kids) ≡ occurs position.own (term p)
    apply_uses =
        let o = apply_kids in
        let k = o.1 in
        sym (ap (occurs position.own) k.term)

    pub apply_below : {E : Type 0} {ks : List ℕ} (r : Result Found E) (old new : List (Option ℕ)) → ks ≡ kids
        → IfOk r (λ f. FoundAll c ks position f old new) → IfOk r (λ f. FoundBelow c p position f old new)
    apply_below {E} {ks} r old new e h = by_result r h
      where
        by_result : (r : Result Found E) → IfOk r (λ f. FoundAll c ks position f old new)
            → IfOk r (λ f. FoundBelow c p position f old new)
        by_result (Err x) h = tt
        by_result (Ok x) h =
            let i = subst (λ l. FoundAll c l position x old new) e h in
            record {
              level = i.level ∙ apply_level;
              uses = i.uses ∙ apply_uses;
              levels = i.levels ∙ ap (λ l. old ++ l) apply_levels;
            }

  -- ---- `nbr`

  module _ (z : is_nbr_sort sort ≡ true) where
    nbr_one : OneKid nodes p (Nbr type) kids
    nbr_one = nbr_laid nodes above p type kids (node_as (nbr_sort sort z)) at.stands.laid

    pub nbr_long : length kids ≡ 1
    nbr_long = let k = nbr_one in k.long

    module _ {q : ℕ} (e : q ≡ get_or kids 0 q) where
      nbr_q : q ≡ get_or kids 0 0
      nbr_q = let l = nbr_long in same_at kids 0 q (omega (arith, l)) e

      nbr_first : q ≡ suc p
      nbr_first = let k = nbr_one in nbr_q ∙ k.first_is

      nbr_term : term p ≡ Nbr type (term q)
      nbr_term = let k = nbr_one in k.term ∙ ap (λ i. Nbr type (term i)) (sym nbr_q)

      pub nbr_inside : Later c p q position
      nbr_inside = let l = nbr_long in kid_same 0 (omega (arith, l)) e

      -- the level of what is under it, or of the branch, and one
      pub nbr_level : {own : Bool} {inside chosen : ℕ} → own ≡ is_own position.own (term q)
          → inside ≡ level_at c q position → chosen ≡ (if own then position.branch else inside)
          → chosen + 1 ≡ level_at c p position
      nbr_level {own} {inside} {chosen} f g h =
          let one : chosen + 1 ≡ suc chosen = omega arith in
          one
          ∙ ap suc (h ∙ ap (λ b. if b then position.branch else inside) f
          ∙ ap (λ k. if is_own position.own (term q) then position.branch else k) g)
          ∙ sym (if_suc (is_own position.own (term q)) position.branch (level_at c q position))
          ∙ sym (nbr_place (stages_in c) p position.branch position.own scope type (term q) q nbr_first)
          ∙ sym (ap (level_as p) nbr_term)

      nbr_levels : behind (node_levels_at c p position) ≡ node_levels_at c q position
      nbr_levels = ap (λ u. behind (levels_as p u)) nbr_term ∙ ap (λ i. levels_as i (term q)) (sym nbr_first)

      pub nbr_below : {found : Found} {own : Bool} {chosen : ℕ} {old new : List (Option ℕ)}
          → own ≡ is_own position.own (term q) → chosen ≡ (if own then position.branch else found.level)
          → FoundAt c q position found old new
          → FoundBelow c p position (record { level = chosen + 1; uses = found.uses }) old new
      nbr_below {found} {own} {chosen} {old} {new} f h found_at = record {
        level = nbr_level f found_at.level h;
        uses = found_at.uses ∙ sym (ap (occurs position.own) nbr_term);
        levels = found_at.levels ∙ ap (λ l. old ++ l) (sym nbr_levels);
      }

  -- ---- `if`

  module _ (z : is_branching sort ≡ true) where
    if_three : ThreeKids nodes p (If type) kids
    if_three = if_laid nodes above p type kids (node_as (if_sort sort z)) at.stands.laid

    pub if_long : length kids ≡ 3
    if_long = let k = if_three in k.long

    -- a branch after the condition, whose level it has
    branch_later : {q r b : ℕ} (i : ℕ) → i < 3 → r ≡ get_or kids i r → q ≡ suc p → q + size (term q) ≤ r
        → b ≡ level_at c q position → Later c p r (in_branch b)
    branch_later {q} {r} {b} i l f a d e =
        let long = if_long in
        let k = kid_later i (omega (arith, l, long)) f in
        let w = kid_small a in
        record {
          after = k.0;
          ready = other_ready c p r b position.own position (omega (arith, a, d)) (omega (arith, e, w, d)) at.ready;
          stands = k.1;
        }

    module _ {q : ℕ} (e : q ≡ get_or kids 0 q) where
      if_q : q ≡ get_or kids 0 0
      if_q = let l = if_long in same_at kids 0 q (omega (arith, l)) e

      first_place : q ≡ suc p
      first_place = let k = if_three in if_q ∙ k.first_is

      pub if_condition : Later c p q position
      if_condition = let l = if_long in kid_same 0 (omega (arith, l)) e

      module _ {r : ℕ} (f : r ≡ get_or kids 1 r) where
        if_r : r ≡ get_or kids 1 0
        if_r = let l = if_long in same_at kids 1 r (omega (arith, l)) f

        second_place : r ≡ suc p + size (term q)
        second_place = let k = if_three in if_r ∙ k.second_is ∙ ap (λ i. suc p + size (term i)) (sym if_q)

        pub if_first : {b : ℕ} → b ≡ level_at c q position → Later c p r (in_branch b)
        if_first h =
            let a = first_place in
            let d = second_place in
            branch_later 1 (omega arith) f a (omega (arith, a, d)) h

        module _ {u : ℕ} (g : u ≡ get_or kids 2 u) where
          if_u : u ≡ get_or kids 2 0
          if_u = let l = if_long in same_at kids 2 u (omega (arith, l)) g

          third_place : u ≡ suc p + size (term q) + size (term r)
          third_place =
              let k = if_three in
              if_u ∙ k.third_is
              ∙ ap (λ i. suc p + size (term i) + size (term (get_or kids 1 0))) (sym if_q)
              ∙ ap (λ i. suc p + size (term q) + size (term i)) (sym if_r)

          if_term : term p ≡ If type (term q) (term r) (term u)
          if_term =
              let k = if_three in
              k.term ∙ ap (λ i. If type (term i) (term (get_or kids 1 0)) (term (get_or kids 2 0))) (sym if_q)
              ∙ ap (λ i. If type (term q) (term i) (term (get_or kids 2 0))) (sym if_r)
              ∙ ap (λ i. If type (term q) (term r) (term i)) (sym if_u)

          pub if_second : {b : ℕ} → b ≡ level_at c q position → Later c p u (in_branch b)
          if_second h =
              let a = first_place in
              let d = third_place in
              branch_later 2 (omega arith) g a (omega (arith, a, d)) h

          -- the level is the greatest of the three
          if_level : {b m k i j : ℕ} → b ≡ level_at c q position → i ≡ level_at c r (in_branch b)
              → j ≡ level_at c u (in_branch b) → m ≡ max i j → k ≡ max b m → k ≡ level_at c p position
          if_level {b} {m} {k} {i} {j} hb hi hj hm hk =
              hk ∙ ap (max b) hm ∙ ap (λ y. max b (max y j)) hi
              ∙ ap (λ y. max b (max (level_at c r (in_branch b)) y)) hj
              ∙ ap (λ y. max y (max (level_at c r (in_branch y)) (level_at c u (in_branch y)))) hb
              ∙ sym (ap (level_as p) if_term
              ∙ if_places (stages_in c) p position.branch position.own scope type (term q) (term r) (term u) q r u
              first_place second_place third_place)

          if_levels_are : {b : ℕ} → b ≡ level_at c q position → behind (node_levels_at c p position)
              ≡ node_levels_at c q position ++ (node_levels_at c r (in_branch b) ++ node_levels_at c u (in_branch b))
          if_levels_are h =
              ap (λ y. behind (levels_as p y)) if_term
              ∙ if_levels (stages_in c) p position.branch position.own scope type (term q) (term r) (term u) q r u
              first_place second_place third_place
              ∙ ap (λ y. node_levels_at c q position
              ++ (node_levels_at c r (in_branch y) ++ node_levels_at c u (in_branch y))) (sym h)

          pub if_below : {condition first second : Found} {m k : ℕ} {old l l' new : List (Option ℕ)}
              → FoundAt c q position condition old l → FoundAt c r (in_branch condition.level) first l l'
              → FoundAt c u (in_branch condition.level) second l' new → m ≡ max first.level second.level
              → k ≡ max condition.level m → FoundBelow c p position
              (record { level = k; uses = condition.uses || (first.uses || second.uses) }) old new
          if_below {condition} {first} {second} {m} {k} {old} {l} {l'} {new} a b d hm hk = record {
            level = if_level a.level b.level d.level hm hk;
            uses = rw (a.uses, b.uses, d.uses) (sym (ap (occurs position.own) if_term));
            levels = three_behind _ _ _ _ _ _ _ a.levels b.levels d.levels
                ∙ ap (λ l. old ++ l) (sym (if_levels_are a.level));
          }

  -- ---- `let`

  module _ (z : is_let_sort sort ≡ true) where
    let_two : TwoKids nodes p (Let type) kids
    let_two = let_laid nodes above p type kids (node_as (let_sort sort z)) at.stands.laid

    pub let_long : length kids ≡ 2
    let_long = let k = let_two in k.long

    module _ {q : ℕ} (e : q ≡ get_or kids 0 q) where
      let_q : q ≡ get_or kids 0 0
      let_q = let l = let_long in same_at kids 0 q (omega (arith, l)) e

      let_first : q ≡ suc p
      let_first = let k = let_two in let_q ∙ k.first_is

      pub let_bound : Later c p q position
      let_bound = let l = let_long in kid_same 0 (omega (arith, l)) e

      module _ {r : ℕ} (f : r ≡ get_or kids 1 r) where
        let_r : r ≡ get_or kids 1 0
        let_r = let l = let_long in same_at kids 1 r (omega (arith, l)) f

        let_second : r ≡ suc p + size (term q)
        let_second = let k = let_two in let_r ∙ k.second_is ∙ ap (λ i. suc p + size (term i)) (sym let_q)

        let_term : term p ≡ Let type (term q) (term r)
        let_term =
            let k = let_two in
            k.term ∙ ap (λ i. Let type (term i) (term (get_or kids 1 0))) (sym let_q)
            ∙ ap (λ i. Let type (term q) (term i)) (sym let_r)

        -- at the position with the binder in scope
        pub let_body : {b : ℕ} {s : Position} → b ≡ level_at c q position → s.branch ≡ position.branch
            → levels_in s.scope.now ≡ bind_level p b scope → Later c p r s
        let_body {b} {s} h same bound =
            let l = let_long in
            let k = kid_later 1 (omega (arith, l)) f in
            let a = let_first in
            let d = let_second in
            let w = kid_small a in
            let v = at.ready.branch in
            let all = bind_before (level_before r) p b scope (omega (arith, h, w, a, d))
            (λ j. let v = at.ready.scope j in omega (arith, v, d)) in
            record {
              after = k.0;
              ready = record {
                ranges = at.ready.ranges;
                devices = at.ready.devices;
                branch = omega (arith, same, v, d);
                scope = subst (λ (lv : Lvs). (j : ℕ) → lv j ≤ level_before r) (sym bound) all;
              };
              stands = k.1;
            }

        let_level : {b : ℕ} → b ≡ level_at c q position → level_bound b r ≡ level_at c p position
        let_level h =
            ap (λ k. level_bound k r) h
            ∙ sym (ap (level_as p) let_term
            ∙ let_places (stages_in c) p position.branch position.own scope type (term q) (term r) q r let_first
            let_second)

        let_levels_are : {b : ℕ} → b ≡ level_at c q position
            → behind (node_levels_at c p position) ≡ node_levels_at c q position ++ levels_bound b r
        let_levels_are h =
            ap (λ y. behind (levels_as p y)) let_term
            ∙ let_levels (stages_in c) p position.branch position.own scope type (term q) (term r) q r let_first
            let_second
            ∙ ap (λ y. node_levels_at c q position ++ levels_bound y r) (sym h)

        pub let_below : {bound body : Found} {old l new : List (Option ℕ)} → FoundAt c q position bound old l
            → body.level ≡ level_bound bound.level r → body.uses ≡ occurs position.own (term r)
            → new ≡ l ++ levels_bound bound.level r
            → FoundBelow c p position (record { level = body.level; uses = bound.uses || body.uses }) old new
        let_below {bound} {body} {old} {l} {new} a level uses levels = record {
          level = level ∙ let_level a.level;
          uses = rw (a.uses, uses) (sym (ap (occurs position.own) let_term));
          levels = two_behind _ _ _ _ _ a.levels levels ∙ ap (λ l. old ++ l) (sym (let_levels_are a.level));
        }

  -- ---- `rep` and `share`

  module _ (z : is_evolve_sort sort ≡ true) where
    evolve_sort_is : (e : Evolution) × (sort ≡ OfEvolve e)
    evolve_sort_is = by_sort sort z
      where
        by_sort : (s : Sort) → is_evolve_sort s ≡ true → (e : Evolution) × (s ≡ OfEvolve e)
        by_sort (OfLeaf l) z = absurd cc
        by_sort (OfApply o) z = absurd cc
        by_sort OfNbr z = absurd cc
        by_sort (OfEvolve v) z = (v, refl)
        by_sort OfIf z = absurd cc
        by_sort OfLet z = absurd cc

    evolve_two : TwoKids nodes p (Evolve type evolve_sort_is.0) kids
    evolve_two =
        let v = evolve_sort_is in
        evolve_laid nodes above p v.0 type kids (node_as v.1) at.stands.laid

    pub evolve_long : length kids ≡ 2
    evolve_long = let k = evolve_two in k.long

    module _ {r : ℕ} (f : r ≡ get_or kids 1 r) where
      evolve_r : r ≡ get_or kids 1 0
      evolve_r = let l = evolve_long in same_at kids 1 r (omega (arith, l)) f

      evolve_second : r ≡ suc p + size (term (get_or kids 0 0))
      evolve_second = let k = evolve_two in evolve_r ∙ k.second_is

      evolve_term : term p ≡ Evolve type evolve_sort_is.0 (term (get_or kids 0 0)) (term r)
      evolve_term =
          let k = evolve_two in
          k.term ∙ ap (λ i. Evolve type evolve_sort_is.0 (term (get_or kids 0 0)) (term i)) (sym evolve_r)

      pub evolve_body : Later c p r in_body
      evolve_body =
          let l = evolve_long in
          let k = kid_later 1 (omega (arith, l)) f in
          let a = k.0 in
          let b = at.ready.branch in
          record {
            after = a;
            ready = other_ready c p r position.branch p position (omega (arith, a)) (omega (arith, a, b)) at.ready;
            stands = k.1;
          }

      -- what is added to the level of the body
      pub evolve_level : {l a : ℕ} → l ≡ level_at c r in_body → a ≡ stages_in c p → l + a ≡ level_at c p position
      evolve_level {l} {a} h i =
          ap (λ k. k + a) h ∙ ap (λ k. level_at c r in_body + k) i
          ∙ sym (ap (level_as p) evolve_term
          ∙ ap (λ i. level_of (stages_in c) i position.branch p scope (term r) + stages_in c p) (sym evolve_second))

      module _ {q : ℕ} (e : q ≡ get_or kids 0 q) where
        evolve_first : q ≡ suc p
        evolve_first = let k = evolve_two in let l = evolve_long in same_at kids 0 q (omega (arith, l)) e ∙ k.first_is

        pub evolve_order : q ≤ r
        evolve_order = let a = evolve_first in let d = evolve_second in omega (arith, a, d)

        evolve_levels : behind (node_levels_at c p position)
            ≡ repeat (r - q) (None ∷ []) ++ node_levels_at c r in_body
        evolve_levels =
            let a = evolve_first in
            let d = evolve_second in
            let n : size (term (get_or kids 0 0)) ≡ r - q = omega (arith, a, d) in
            ap (λ y. behind (levels_as p y)) evolve_term
            ∙ ap (λ i. repeat (size (term (get_or kids 0 0))) (None ∷ [])
            ++ node_levels (stages_in c) i position.branch p scope (term r)) (sym d)
            ∙ ap (λ i. repeat i (None ∷ []) ++ node_levels_at c r in_body) n

        pub evolve_below : {found : Found} {a : ℕ} {uses : Bool} {old l new : List (Option ℕ)}
            → l ≡ old ++ repeat (r - q) (None ∷ []) → FoundAt c r in_body found l new → a ≡ stages_in c p
            → uses ≡ occurs position.own (term p)
            → FoundBelow c p position (record { level = found.level + a; uses = uses }) old new
        evolve_below {found} {a} {uses} {old} {l} {new} before b added occurring = record {
          level = evolve_level b.level added;
          uses = occurring;
          levels = two_behind _ _ _ _ _ before b.levels ∙ ap (λ l. old ++ l) (sym evolve_levels);
        }
