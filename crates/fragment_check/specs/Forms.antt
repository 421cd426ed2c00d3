-- The forms of bodies by the places of their parts.
use Rattle.std.specs.Prelude.{ℕ, suc, Bool, true, false, ◌≡◌, ◌+◌, List, Option, Some, None}
use Rattle.fc_values.specs.declared.builtins.Builtin.{Builtin}
use Rattle.fc_values.specs.declared.builtins.Builtin.TheVariants as op
use Rattle.fc_values.specs.Types.{ValueType}
use Rattle.fc_nodes.specs.declared.nodes.Node.{Node}
use Rattle.fc_nodes.specs.Terms.{Apply, NoMore, More, term_at, size, Sort, OfApply}
use Rattle.fc_nodes.specs.Places.{StandsAt}
use Rattle.fragment_check.specs.declared.facts.Own.{Own}
use Rattle.fragment_check.specs.declared.forms.Places.{Places}
use Rattle.fragment_check.specs.declared.forms.Places.TheVariants as places
use Rattle.fragment_check.specs.Patterns.{Form, evolution_form, risen_form, IsHood, IsRise, IsOther, hood_of, rise_of}
use Rattle.fragment_check.specs.Facts.{evolution_of}

abbrev pub is_builtin_sort : Builtin → Sort → Bool
is_builtin_sort op.MinHoodLoc (OfApply op.MinHoodLoc) = true
is_builtin_sort op.Rise (OfApply op.Rise) = true
is_builtin_sort _ _ = false

-- the places of two arguments of a builtin at place p, and of three
pub record TwoAt (ns : List Node) (o : Builtin) (p a b : ℕ) : Type 0 where
  pub type : ValueType
  pub term : term_at ns p ≡ Apply type o (More (term_at ns a) (More (term_at ns b) NoMore))
  pub first_is : a ≡ suc p
  pub second_is : b ≡ suc p + size (term_at ns a)
  pub first : StandsAt ns a
  pub second : StandsAt ns b

pub record ThreeAt (ns : List Node) (o : Builtin) (p a b c : ℕ) : Type 0 where
  pub type : ValueType
  pub term : term_at ns p ≡ Apply type o (More (term_at ns a) (More (term_at ns b) (More (term_at ns c) NoMore)))
  pub first_is : a ≡ suc p
  pub second_is : b ≡ suc p + size (term_at ns a)
  pub third_is : c ≡ suc p + size (term_at ns a) + size (term_at ns b)
  pub first : StandsAt ns a
  pub second : StandsAt ns b
  pub third : StandsAt ns c

-- the arguments of `minHoodLoc`, and those of `rise`, where a term is one
abbrev pub HoodKids : List Node → ℕ → Option (ℕ × ℕ) → Type 0
HoodKids ns p (Some (h, l)) = TwoAt ns op.MinHoodLoc p h l
HoodKids ns p None = (x : ℕ) → hood_of x (term_at ns p) ≡ None

abbrev pub RiseKids : List Node → ℕ → Option (ℕ × ℕ × ℕ) → Type 0
RiseKids ns p (Some (a, b, c)) = ThreeAt ns op.Rise p a b c
RiseKids ns p None = rise_of (term_at ns p) ≡ None

-- the places of the parts of a form: of the arguments of `minHoodLoc`, and of the last argument of `rise`
pub record HoodParts (ns : List Node) (p h l : ℕ) : Type 0 where
  pub first_is : h ≡ suc p
  pub second_is : l ≡ suc p + size (term_at ns h)
  pub first : StandsAt ns h
  pub second : StandsAt ns l

pub record RiseParts (ns : List Node) (p h l s : ℕ) : Type 0 where
  pub hood : HoodParts ns (suc p) h l
  pub third_is : s ≡ suc (suc (suc p + size (term_at ns h) + size (term_at ns l)))
  pub third : StandsAt ns s

abbrev pub PartsOf : List Node → ℕ → Form → Places → Type 0
PartsOf ns p f (places.Hood h l) = (f ≡ IsHood (term_at ns h) (term_at ns l)) × HoodParts ns p h l
PartsOf ns p f (places.Rise h l s) = (f ≡ IsRise (term_at ns h) (term_at ns l) (term_at ns s)) × RiseParts ns p h l s
PartsOf ns p f places.Other = f ≡ IsOther

-- the parts of the body at a place
abbrev pub IsFormOf : List Node → Own → ℕ → Places → Type 0
IsFormOf ns own p = PartsOf ns p (evolution_form (evolution_of own) own.place (term_at ns p))

-- the same of a body that is no settled `minHoodLoc`
abbrev pub IsRisenFormOf : List Node → Own → ℕ → Places → Type 0
IsRisenFormOf ns own p = PartsOf ns p (risen_form (evolution_of own) own.place (rise_of (term_at ns p)))

-- the arguments of a `minHoodLoc` whose second one is without the variable
abbrev pub SettledKids : List Node → ℕ → ℕ → Option (ℕ × ℕ) → Type 0
SettledKids ns x p (Some (h, l)) = (hood_of x (term_at ns p) ≡ Some (term_at ns h, term_at ns l))
    × (size (term_at ns p) ≡ suc (size (term_at ns h) + size (term_at ns l))) × HoodParts ns p h l
SettledKids ns x p None = hood_of x (term_at ns p) ≡ None
