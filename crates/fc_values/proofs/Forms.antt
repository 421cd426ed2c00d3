-- Crates above cite this module: values of one form.
use Rattle.std.proofs.Common.{◌≡◌}
use Rattle.fc_values.specs.Values.{LocalValue, IntValue, BoolValue, PairValue, SameForm, form_of}

pub same_form : (v w : LocalValue) → form_of v ≡ form_of w → SameForm v w
same_form (IntValue m) (IntValue n) e = tt
same_form (BoolValue a) (BoolValue b) e = tt
same_form (PairValue a b) (PairValue c d) e = let f : form_of a ≡ form_of c = cc in let g : form_of b ≡ form_of d = cc in (same_form a c f, same_form b d g)
same_form (IntValue m) (BoolValue b) e = absurd cc
same_form (IntValue m) (PairValue c d) e = absurd cc
same_form (BoolValue a) (IntValue n) e = absurd cc
same_form (BoolValue a) (PairValue c d) e = absurd cc
same_form (PairValue a b) (IntValue n) e = absurd cc
same_form (PairValue a b) (BoolValue c) e = absurd cc
