-- Judgements: what is accepted, or the first refusal.
use Rattle.std.specs.Prelude.{ℕ, Bool, ◌≡◌, ◌+◌, List, [], ◌∷◌, ◌++◌, Option, Some, None, Result, IfOk, IfErr}
use Rattle.std.specs.Prelude.{if◌then◌else◌, decimal, map, nat_lt}
use Rattle.serde_json.specs.Data.{Data, Items, no_items, item}
use Rattle.topology.specs.declared.types.NetFault.{NetFault}
use Rattle.fc_values.specs.Judgements.{Judgement}
pub use Rattle.fc_values.specs.Judgements.{Accepted, Refused}
use Rattle.fc_values.specs.Lists.{insert_after}
use Rattle.net_json.specs.declared.types.JsonFault.{JsonFault}
use Rattle.net_json.specs.declared.types.JsonFault.TheVariants as fault

-- Why a text is no scene: it is no JSON, or at a path it has another shape, a fault of networks, or a kept list that no
-- export has, with the place of its first misfit; or it has too many devices.
pub data SceneRefusal : Type 0 where
  NotJson : SceneRefusal
  Misshaped : List ℕ → SceneRefusal
  BadNetwork : List ℕ → NetFault → SceneRefusal
  BadKept : List ℕ → ℕ → SceneRefusal
  TooManyDevices : ℕ → SceneRefusal

abbrev pub JudgedScene : Type 0 → Type 0
JudgedScene A = Judgement SceneRefusal A

-- one check after another: the first refusal counts
abbrev pub if_accepted : {A B : Type 0} → JudgedScene A → (A → JudgedScene B) → JudgedScene B
if_accepted (Accepted x) next = next x
if_accepted (Refused r) next = Refused r

-- what is there, else a refusal
abbrev pub given : {A : Type 0} → SceneRefusal → Option A → JudgedScene A
given r None = Refused r
given r (Some x) = Accepted x

-- the rest where a test holds, else a refusal
abbrev pub require : {A : Type 0} → Bool → SceneRefusal → JudgedScene A → JudgedScene A
require test r rest = if test then rest else Refused r

-- the rest where networks have no fault to name, else that fault at a path
abbrev pub no_fault : {A : Type 0} → Option NetFault → List ℕ → JudgedScene A → JudgedScene A
no_fault None path rest = rest
no_fault (Some f) path rest = Refused (BadNetwork path f)

-- a path goes on with `/` and the name of a member, or with `/` and an index
abbrev pub at_member : List ℕ → List ℕ → List ℕ
at_member path name = path ++ 47 ∷ name

abbrev pub at_index : List ℕ → ℕ → List ℕ
at_index path i = path ++ 47 ∷ decimal i

-- items one after another, with their paths, each beside what those before have given
abbrev pub in_turn : {A : Type 0} → (A → List ℕ → Data → JudgedScene A) → List ℕ → A → ℕ → Items → JudgedScene A
in_turn judge path before i no_items = Accepted before
in_turn judge path before i (item d ds) =
    if_accepted (judge before (at_index path i) d) (λ next. in_turn judge path next (i + 1) ds)

-- one thing more beside those before, all by rising numbers. It is judged beside the numbers of those before
abbrev pub gather_one : {X : Type 0} → (X → ℕ) → (List ℕ → List ℕ → Data → JudgedScene X)
    → List X → List ℕ → Data → JudgedScene (List X)
gather_one number judge before path d =
    if_accepted (judge (map number before) path d) (λ x.
    Accepted (insert_after (λ y. nat_lt (number y) (number x)) x before))

-- the things that items give, by rising numbers
abbrev pub gather : {X : Type 0} → (X → ℕ) → (List ℕ → List ℕ → Data → JudgedScene X)
    → List ℕ → Items → JudgedScene (List X)
gather number judge path ds = in_turn (gather_one number judge) path [] 0 ds

-- a fault in code is the refusal of a judgement. Want of memory is always allowed
abbrev pub RefusedWith : {A : Type 0} → JudgedScene A → JsonFault → Type 0
RefusedWith judged fault.Json = judged ≡ Refused NotJson
RefusedWith judged (fault.Shape p) = judged ≡ Refused (Misshaped p.text.items)
RefusedWith judged (fault.Net p f) = judged ≡ Refused (BadNetwork p.text.items f)
RefusedWith judged (fault.Kept p place) = judged ≡ Refused (BadKept p.text.items place)
RefusedWith judged (fault.Devices count) = judged ≡ Refused (TooManyDevices count)
RefusedWith judged fault.Memory = Unit {0}

-- what code gives is what a judgement accepts, by what it stands for
abbrev pub Accepts : {A B E : Type 0} → Result A E → (A → B) → JudgedScene B → Type 0
Accepts result view judged = IfOk result (λ x. judged ≡ Accepted (view x))

-- the fault that code gives is the refusal of a judgement
abbrev pub Refuses : {A B : Type 0} → Result A JsonFault → JudgedScene B → Type 0
Refuses result judged = IfErr result (RefusedWith judged)
