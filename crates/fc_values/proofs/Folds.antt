-- what the arguments are, where a hood has a value
use Rattle.std.proofs.Common.{List, [], ◌∷◌, Option, Some, None, IsSome, refl, option_map}
use Rattle.fc_values.specs.Values.{LocalValue}
use Rattle.fc_values.specs.Fields.{Entries, AnyValue, ValueLocal, ValueField}
use Rattle.fc_values.specs.Builtins.{of_field_and_local, of_field}
use Rattle.fc_values.specs.Rows.{AreFieldAndLocal, IsField}

pub are_field_and_local : (f : Entries → LocalValue → LocalValue) (xs : List AnyValue) → IsSome (of_field_and_local f xs) → AreFieldAndLocal xs
are_field_and_local f (ValueField es ∷ ValueLocal v ∷ []) h = tt
are_field_and_local f xs h = absurd cc

pub is_field : (f : Entries → Option LocalValue) (xs : List AnyValue) → IsSome (of_field f xs) → IsField xs
is_field f (ValueField es ∷ []) h = tt
is_field f xs h = absurd cc

pub has_from_map : {A B : Type 0} (f : A → B) (o : Option A) → IsSome (option_map f o) → IsSome o
has_from_map f None h = h
has_from_map f (Some x) h = refl

pub ruleset hoods_fit = (are_field_and_local, is_field, has_from_map)
