-- What an accepted judgement has accepted on its way.
use Rattle.std.proofs.Common.{◌≡◌, ℕ, suc, ◌+◌, List, [], ◌∷◌, length, map, refl, sym, subst, arith, Bool, true, false, nat_lt, Option, Some, None}
use Rattle.std.specs.Prelude.{if◌then◌else◌}
use Rattle.std.specs.List.{All}
use Rattle.std.proofs.lemmas.List.Elements.{All-nil, All-cons, All-head, All-tail}
use Rattle.serde_json.specs.Data.{Data, Items, no_items, item}
use Rattle.topology.specs.declared.types.NetFault.{NetFault}
use Rattle.fc_values.specs.Fields.{Rises, is_in}
use Rattle.fc_values.specs.Lists.{insert_after}
use Rattle.fc_values.proofs.Lists.{insert_map, insert_length}
use Rattle.net_json.specs.Judging.{JudgedScene, Accepted, Refused, SceneRefusal, if_accepted, require, no_fault, in_turn, gather_one, gather, at_index}
use Rattle.net_json.specs.Reading.{count_items}
use Rattle.net_json.proofs.Risings.{insert_rises}

-- ---- one check

-- both of two checks have accepted
pub then_accepted : {A B R : Type 0} {next : A → JudgedScene B} {b : B} (j : JudgedScene A) → if_accepted j next ≡ Accepted b → ((a : A) → j ≡ Accepted a → next a ≡ Accepted b → R) → R
then_accepted (Accepted a) e h = h a refl e
then_accepted (Refused r) e h = absurd cc

-- the test held
pub require_accepted : {A : Type 0} {test : Bool} {rest : JudgedScene A} {a : A} (r : SceneRefusal) → require test r rest ≡ Accepted a → (test ≡ true) × (rest ≡ Accepted a)
require_accepted {test = true} r e = (refl, e)
require_accepted {test = false} r e = absurd cc

-- there was no fault
pub no_fault_accepted : {A : Type 0} {f : Option NetFault} {rest : JudgedScene A} {a : A} (path : List ℕ) → no_fault f path rest ≡ Accepted a → (f ≡ None) × (rest ≡ Accepted a)
no_fault_accepted {f = None} path e = (refl, e)
no_fault_accepted {f = Some x} path e = absurd cc

pub same_accepted : {A : Type 0} {a b : A} → ◌≡◌ {A = JudgedScene A} (Accepted a) (Accepted b) → a ≡ b
same_accepted e = cc

-- ---- items in turn

-- what each item keeps, all of them keep
pub in_turn_keeps : {A : Type 0} (judge : A → List ℕ → Data → JudgedScene A) (P : A → Type 0) → ((a b : A) (p : List ℕ) (d : Data) → P a → judge a p d ≡ Accepted b → P b)
    → (path : List ℕ) (a b : A) (i : ℕ) (ds : Items) → P a → in_turn judge path a i ds ≡ Accepted b → P b
in_turn_keeps judge P step path a b i no_items h e = subst P (same_accepted e) h
in_turn_keeps judge P step path a b i (item d ds) h e =
    then_accepted (judge a (at_index path i) d) e (λ x f g. in_turn_keeps judge P step path x b (i + 1) ds (step a x (at_index path i) d h f) g)

-- ---- items by rising numbers

pub all_insert_after : {X : Type 0} (P : X → Type 0) (p : X → Bool) (x : X) (xs : List X) → P x → All P xs → All P (insert_after p x xs)
all_insert_after P p x [] h a = All-cons P x [] h a
all_insert_after P p x (y ∷ ys) h a = by_test (p y) (all_insert_after P p x ys h (All-tail P y ys a))
  where
    by_test : (q : Bool) → All P (insert_after p x ys) → All P (if q then y ∷ insert_after p x ys else x ∷ y ∷ ys)
    by_test true ih = All-cons P y (insert_after p x ys) (All-head P y ys a) ih
    by_test false ih = All-cons P x (y ∷ ys) h a

-- things by rising numbers, of each of which a fact holds
pub record AreGathered {X : Type 0} (number : X → ℕ) (P : X → Type 0) (xs : List X) : Type 0 where
  pub rising : Rises (map number xs)
  pub each : All P xs

-- a thing whose number isn't among these, and of which a fact holds
pub record IsNew {X : Type 0} (number : X → ℕ) (P : X → Type 0) (before : List ℕ) (x : X) : Type 0 where
  pub absent : is_in (number x) before ≡ false
  pub holds : P x

module _ {X : Type 0} (number : X → ℕ) (judge : List ℕ → List ℕ → Data → JudgedScene X) where
  pub one_gathered : (P : X → Type 0) → ((before path : List ℕ) (d : Data) (x : X) → judge before path d ≡ Accepted x → IsNew number P before x)
      → (before after : List X) (path : List ℕ) (d : Data) → AreGathered number P before → gather_one number judge before path d ≡ Accepted after → AreGathered number P after
  one_gathered P new before after path d g e = then_accepted (judge (map number before) path d) e (λ x f s.
      let n = new (map number before) path d x f in
      let rising : Rises (map number (insert_after (λ y. nat_lt (number y) (number x)) x before)) =
      subst Rises (sym (insert_map number (λ m. nat_lt m (number x)) x before)) (insert_rises (number x) (map number before) g.rising n.absent) in
      subst (AreGathered number P) (same_accepted s) (record {
        rising = rising;
        each = all_insert_after P (λ y. nat_lt (number y) (number x)) x before n.holds g.each;
      }))

  pub all_gathered : (P : X → Type 0) → ((before path : List ℕ) (d : Data) (x : X) → judge before path d ≡ Accepted x → IsNew number P before x)
      → (path : List ℕ) (ds : Items) (xs : List X) → gather number judge path ds ≡ Accepted xs → AreGathered number P xs
  all_gathered P new path ds xs e =
      in_turn_keeps (gather_one number judge) (AreGathered number P) (one_gathered P new) path [] xs 0 ds (record { rising = tt; each = All-nil P }) e

  -- one for each item
  many_after : (path : List ℕ) (before after : List X) (i : ℕ) (ds : Items) → in_turn (gather_one number judge) path before i ds ≡ Accepted after → length after ≡ length before + count_items ds
  many_after path before after i no_items e = let s = same_accepted e in subst (λ (xs : List X). length xs ≡ length before + 0) s (omega arith)
  many_after path before after i (item d ds) e = then_accepted (gather_one number judge before (at_index path i) d) e (λ next f g. then_accepted (judge (map number before) (at_index path i) d) f (λ x k s.
      let one = insert_length (λ y. nat_lt (number y) (number x)) x before in
      let ih = many_after path next after (i + 1) ds g in
      let long : length next ≡ suc (length before) = subst (λ (xs : List X). length xs ≡ suc (length before)) (same_accepted s) one in
      omega (arith, ih, long)))

  pub many_gathered : (path : List ℕ) (ds : Items) (xs : List X) → gather number judge path ds ≡ Accepted xs → length xs ≡ count_items ds
  many_gathered path ds xs e = let h = many_after path [] xs 0 ds e in omega (arith, h)
