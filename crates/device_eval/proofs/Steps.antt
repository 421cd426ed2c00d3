-- The evaluation of a leaf, and what the kids of any node need.
use Rattle.std.proofs.Common.{◌≡◌, ℕ, zero, suc, ◌<◌, List, [], ◌∷◌, length, refl, ◌∙◌, subst, arith, get_or, Option, Some, None, IsSome}
use Rattle.fc_values.specs.Types.{LocalType, ValueType}
use Rattle.fc_values.specs.Values.{LocalValue}
use Rattle.fc_values.specs.Fields.{AnyValue, ValueLocal, ValueField}
use Rattle.fc_values.specs.Exports.{SlotValue}
use Rattle.fc_nodes.specs.declared.nodes.Node.{Node}
use Rattle.fc_nodes.specs.Terms.{Term, Sort, kept, kept_type, kept_before, term_at, HasNode, Laid}
use Rattle.fc_nodes.proofs.Places.{laid_within}
use Rattle.alignment.specs.Scopes.{Vars}
use Rattle.device_eval.specs.Evaluation.{Situation, Outcome, after, on_local, on_some}
use Rattle.fc_nodes.specs.Layouts.{LayoutValue, number_in, number_at}
use Rattle.alignment.specs.Slots.{FlatEnv, NearSlots, OwnHas, NearHave}
use Rattle.device_eval.specs.Environments.{OwnFits, NearFit}
use Rattle.device_eval.specs.Walks.{Can, Did, Stands, Ready, ReadyAt, IsLocal}

pub after_some : (o : Outcome) (f : AnyValue → _ → Outcome) → IsSome (after o f) → IsSome o
after_some None f h = absurd cc
after_some (Some r) f h = refl

pub some_on : (o : Option AnyValue) (f : AnyValue → Outcome) → IsSome (on_some o f) → IsSome o
some_on None f h = absurd cc
some_on (Some v) f h = refl

pub local_is : (v : AnyValue) (f : LocalValue → Outcome) → IsSome (on_local v f) → IsLocal v
local_is (ValueLocal v) f h = tt
local_is (ValueField es) f h = absurd cc

-- what holds under equal names
pub can_all : (S : Situation) (p p' : ℕ) (t t' : Term) (k k' : ℕ) (vars : Vars) (env env' : FlatEnv) (xs : List SlotValue) → p ≡ p' → t ≡ t' → k ≡ k' → env ≡ env' → Can S p t k vars env xs → Can S p' t' k' vars env' xs
can_all S p p' t t' k k' vars env env' xs e f g h can = subst (λ q. Can S q t' k' vars env' xs) e (subst (λ u. Can S p u k' vars env' xs) f (subst (λ j. Can S p t j vars env' xs) g (subst (λ n. Can S p t k vars n xs) h can)))

pub did_all : (S : Situation) (p p' : ℕ) (t t' : Term) (k k' : ℕ) (vars : Vars) (env env' : FlatEnv) (xs ys : List SlotValue) (v : AnyValue) → p ≡ p' → t ≡ t' → k ≡ k' → env ≡ env' → Did S p t k vars env xs v ys → Did S p' t' k' vars env' xs v ys
did_all S p p' t t' k k' vars env env' xs ys v e f g h did = subst (λ q. Did S q t' k' vars env' xs v ys) e (subst (λ u. Did S p u k' vars env' xs v ys) f (subst (λ j. Did S p t j vars env' xs v ys) g (subst (λ n. Did S p t k vars n xs v ys) h did)))

-- an index that was read
pub kid_is : (ks : List ℕ) (i x : ℕ) → x ≡ get_or ks i x → i < length ks → x ≡ get_or ks i 0
kid_is [] i x e h = absurd (omega arith)
kid_is (k ∷ ks) zero x e h = e
kid_is (k ∷ ks) (suc i) x e h = kid_is ks i x e (omega arith)

-- a kid stands too
pub stands_kid : (ns : List Node) (l : LayoutValue) (p q : ℕ) → Stands ns l p → Laid ns q (term_at ns q) → Stands ns l q
stands_kid ns l p q s h = record { layout = s.layout; formed = s.formed; laid = h; within = laid_within ns q (term_at ns q) h }

-- the slot of a kept place
pub slot_is : (ns : List Node) (l : LayoutValue) (p : ℕ) → Stands ns l p → (s : Sort) (t : ValueType) (ks : List ℕ) (u : LocalType) → HasNode ns p s t ks → kept_type s t ≡ Some u → number_in l p ≡ Some (kept_before ns p)
slot_is ns l p st s t ks u h e = st.layout.each p ∙ number_is
  where
    number_is : number_at ns p ≡ Some (kept_before ns p)
    number_is = rw (h, e) refl

-- an export with the slots of a term that has one has its first slot
pub own_has : (t : Term) (k : ℕ) (o : Option (List SlotValue)) → 0 < kept t → OwnFits t k o → OwnHas k o
own_has t k None w h = tt
own_has t k (Some xs) w h = omega (arith, h.1, w)

pub near_have : (t : Term) (k : ℕ) (ns : List NearSlots) → 0 < kept t → NearFit t k ns → NearHave k ns
near_have t k [] w h = tt
near_have t k (n ∷ ns) w h = (omega (arith, h.1, w), near_have t k ns w h.2)

-- the node at a place that is ready
pub ready_at : {S : Situation} {ns : List Node} {l : LayoutValue} {p : ℕ} {s : Sort} {t : ValueType} {ks : List ℕ} {vars : Vars} {env : FlatEnv} {xs : List SlotValue} → Ready S ns l p vars env xs → HasNode ns p s t ks → ReadyAt S ns l p s t ks vars env xs
ready_at r h = record { ready = r; node = h }
