-- A function by its name: the first that has it.
use Rattle.std.specs.Prelude.{ℕ, zero, suc, ◌≡◌, true, false, List, [], ◌∷◌, bytes_eq}
use Rattle.fc_syntax.specs.Terms.{Declaration, LanguageIs, CeilingIs, InputIs, MetricIs, DefIs, MainIs}
use Rattle.fc_types.specs.Before.{Function}

-- the first function of a name has this number
pub data FirstAt : List ℕ → List Function → ℕ → Function → Type 0 where
  first_here : {x : List ℕ} {f : Function} {fs : List Function} → bytes_eq x f.name ≡ true → FirstAt x (f ∷ fs) 0 f
  first_later : {x : List ℕ} {f g : Function} {fs : List Function} {j : ℕ} → bytes_eq x f.name ≡ false
      → FirstAt x fs j g → FirstAt x (f ∷ fs) (suc j) g

-- none of the first so many has the name
abbrev pub NoneAmong : List ℕ → List Function → ℕ → Type 0
NoneAmong x [] v = Unit {0}
NoneAmong x (f ∷ fs) zero = Unit {0}
NoneAmong x (f ∷ fs) (suc v) = (bytes_eq x f.name ≡ false) × NoneAmong x fs v

-- one of the declarations is a `main`
abbrev pub HasMain : List Declaration → Type 0
HasMain [] = ⊥
HasMain (MainIs e ∷ ds) = Unit {0}
HasMain (LanguageIs n ∷ ds) = HasMain ds
HasMain (CeilingIs n ∷ ds) = HasMain ds
HasMain (InputIs x t ∷ ds) = HasMain ds
HasMain (MetricIs least greatest ∷ ds) = HasMain ds
HasMain (DefIs f params result body ∷ ds) = HasMain ds
