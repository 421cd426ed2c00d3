-- The brackets that are open, of which the code has the innermost last.
use Rattle.std.proofs.Common.{◌≡◌, List, [], ◌∷◌, ◌++◌, map, reverse, length, ℕ, ◌<◌, refl, ap, ◌∙◌, Some, None, true, false, arith}
use Rattle.std.specs.Prelude.{Option, option_map, MatchOption, IsSome, ◌↔◌}
use Rattle.std.specs.Option.{option_to_list}
use Rattle.std.proofs.lemmas.List.{reverse-append, map-append}
use Rattle.edit_commands.specs.declared.values.ValuePart.{ValuePart}
use Rattle.edit_commands.specs.Narrow.{part_of, open_of}

pub open_none : open_of [] ≡ []
unfolding open_of
open_none = refl

pub open_last : (ps : List (Option ValuePart)) (p : Option ValuePart) → open_of (ps ++ p ∷ []) ≡ option_map part_of p ∷ open_of ps
unfolding open_of
open_last ps p = ap reverse (map-append (option_map part_of) ps (p ∷ [])) ∙ reverse-append (map (option_map part_of) ps) (option_map part_of p ∷ [])

no_items : (ps : List (Option ValuePart)) → length ps ≡ 0 → ps ≡ []
no_items [] h = refl
no_items (p ∷ ps) h = absurd (omega arith)

pub popped : (old new : List (Option ValuePart)) (o : Option (Option ValuePart)) (n : ℕ) → old ≡ new ++ option_to_list o → n ≡ length old → (IsSome o ↔ (0 < n))
    → MatchOption o (open_of old ≡ []) (λ p. open_of old ≡ option_map part_of p ∷ open_of new)
popped old new None n e l h = ap open_of (no_items old (none old l)) ∙ open_none
  where
    none : (ps : List (Option ValuePart)) → n ≡ length ps → length ps ≡ 0
    none [] q = refl
    none (p ∷ ps) q = let there : 0 < n = omega arith in let off : false ≡ true = h.1 there in absurd cc
popped old new (Some p) n e l h = ap open_of e ∙ open_last new p
