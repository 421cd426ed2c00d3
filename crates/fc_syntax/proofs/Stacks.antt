-- Stacks of pieces.
use Rattle.std.proofs.Common.{◌≡◌, ◌≤◌, ◌==◌, nat_lt, true, false, refl, List, [], ◌∷◌, length, map, Bool, if◌then◌else◌}
use Rattle.std.proofs.lemmas.Bool.{ne_eqb, le-ltb}
use Rattle.fc_values.specs.declared.builtins.Builtin.{Builtin}
use Rattle.fc_syntax.specs.declared.tree.Expr.{Expr}
use Rattle.fc_syntax.specs.Terms.{terms, term_of}
use Rattle.fc_syntax.specs.Text.{apply_text, call_text, all_written, builtin_strength, builtin_word}

where_false : {A : Type 0} (b : Bool) (x y : A) → b ≡ false → (if b then x else y) ≡ y
where_false true x y eq = absurd cc
where_false false x y eq = refl

-- a builtin whose number of arguments is not that of its operator's form is written as a call
pub as_call : (b : Builtin) (es : List Expr) → (length es ≡ 1 → builtin_strength b ≡ 6 → ⊥) → (length es ≡ 2 → 6 ≤ builtin_strength b)
    → apply_text b (all_written (terms (map term_of es))) ≡ call_text (builtin_word b) (all_written (terms (map term_of es)))
as_call b [] one two = refl
as_call b (x ∷ []) one two = where_false (builtin_strength b == 6) _ _ (ne_eqb (builtin_strength b) 6 (one refl))
as_call b (x ∷ y ∷ []) one two = where_false (nat_lt (builtin_strength b) 6) _ _ (le-ltb (builtin_strength b) 6 (two refl))
as_call b (x ∷ y ∷ z ∷ rest) one two = refl
