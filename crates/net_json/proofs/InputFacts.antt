-- Inputs that are accepted fit the declared ones.
use Rattle.std.proofs.Common.{◌≡◌, ℕ, List, [], ◌∷◌, ◌++◌, refl, sym, ◌∙◌, subst, length, Option, Some, None, is_some, true, Result, Ok, Err, append_assoc, append-nil}
use Rattle.std.specs.Prelude.{option_and_then}
use Rattle.serde_json.specs.Data.{Data}
use Rattle.serde_json.specs.Find.{get}
use Rattle.fc_values.specs.declared.types.InputTy.{InputTy}
use Rattle.fc_values.specs.Types.{Input}
use Rattle.fc_values.specs.Values.{LocalValue}
use Rattle.topology.specs.declared.types.NetFault.{NetFault}
use Rattle.fc_values.specs.Inputs.{InputFits, InputsFit}
use Rattle.topology.specs.Inputs.{input_fault}
use Rattle.topology.proofs.Lemmas.{input_none}
use Rattle.net_json.specs.Judging.{JudgedScene, Accepts, Accepted, Refused, Misshaped, if_accepted, given, no_fault, at_member}
use Rattle.net_json.specs.Reading.{value_of, has_size}
use Rattle.net_json.specs.declared.types.JsonFault.{JsonFault}
use Rattle.net_json.specs.Inputs.{has_names, input_judged, values_judged, inputs_judged}

pub then_accepted : {A B R : Type 0} (j : JudgedScene A) (next : A → JudgedScene B) (b : B) → if_accepted j next ≡ Accepted b → ((a : A) → j ≡ Accepted a → next a ≡ Accepted b → R) → R
then_accepted (Accepted a) next b e h = h a refl e
then_accepted (Refused r) next b e h = absurd cc

-- ---- accepted values

input_accepted : (ty : InputTy) (path : List ℕ) (o : Option Data) (v : LocalValue) → input_judged ty path o ≡ Accepted v → InputFits ty v
input_accepted ty path o v e = then_accepted (given (Misshaped path) (option_and_then value_of o)) (λ w. no_fault (input_fault ty w) path (Accepted w)) v e (λ w f g. by_fault w (input_fault ty w) refl g)
  where
    by_fault : (w : LocalValue) (f : Option NetFault) → input_fault ty w ≡ f → no_fault f path (Accepted w) ≡ Accepted v → InputFits ty v
    by_fault w None h g = let s : w ≡ v = cc in subst (InputFits ty) s (input_none ty w h)
    by_fault w (Some x) h g = absurd cc

pub record FitBehind (is : List Input) (before vs : List LocalValue) : Type 0 where
  pub rest : List LocalValue
  pub whole : vs ≡ before ++ rest
  pub fit : InputsFit is rest

values_accepted : (path : List ℕ) (d : Data) (before : List LocalValue) (is : List Input) (vs : List LocalValue) → values_judged path d before is ≡ Accepted vs → FitBehind is before vs
values_accepted path d before [] vs e = record { rest = []; whole = (let s : before ≡ vs = cc in sym s) ∙ sym (append-nil before); fit = tt }
values_accepted path d before (i ∷ is) vs e = then_accepted (input_judged i.type (at_member path i.name) (get i.name d)) (λ v. values_judged path d (before ++ v ∷ []) is) vs e (λ v f g.
    let ih = values_accepted path d (before ++ v ∷ []) is vs g in
    record { rest = v ∷ ih.rest; whole = ih.whole ∙ append_assoc before (v ∷ []) ih.rest; fit = (input_accepted i.type (at_member path i.name) (get i.name d) v f, ih.fit) })

pub values_fit : (path : List ℕ) (d : Data) (is : List Input) (vs : List LocalValue) → values_judged path d [] is ≡ Accepted vs → InputsFit is vs
values_fit path d is vs e = let f = values_accepted path d [] is vs e in subst (InputsFit is) (sym f.whole) f.fit

-- ---- names

-- where a value was read its name was found
name_found : (ty : InputTy) (path : List ℕ) (o : Option Data) (v : LocalValue) → input_judged ty path o ≡ Accepted v → is_some o ≡ true
name_found ty path None v e = absurd cc
name_found ty path (Some d) v e = refl

-- where all values were read all names were found
pub names_found : (path : List ℕ) (d : Data) (before : List LocalValue) (is : List Input) (vs : List LocalValue) → values_judged path d before is ≡ Accepted vs → has_names is d ≡ true
names_found path d before [] vs e = refl
names_found path d before (i ∷ is) vs e = then_accepted (input_judged i.type (at_member path i.name) (get i.name d)) (λ v. values_judged path d (before ++ v ∷ []) is) vs e (λ v f g.
    rw (name_found i.type (at_member path i.name) (get i.name d) v f) (names_found path d (before ++ v ∷ []) is vs g))

-- what accepts the values of an object of the right size accepts the inputs
pub inputs_accepted : {A : Type 0} (path : List ℕ) (d : Data) (is : List Input) (r : Result A JsonFault) (value : A → List LocalValue)
    → has_size (length is) d ≡ true → Accepts r value (values_judged path d [] is) → Accepts r value (inputs_judged is path d)
inputs_accepted path d is (Ok x) value sized e = rw sized (rw (names_found path d [] is (value x) e) e)
inputs_accepted path d is (Err f) value sized e = tt
