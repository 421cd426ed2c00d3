use Rattle.std.proofs.Common.{◌≡◌, ℕ, zero, suc, ◌<◌, ◌≤◌, ◌∙◌, List, [], ◌∷◌, length, map, get_or, refl, sym, ap, arith, Some}
use Rattle.fc_values.specs.declared.types.InputDecl.{InputDecl}
use Rattle.fc_values.specs.Types.{input_of}
use Rattle.topology.specs.declared.types.NetFault.TheVariants as net
use Rattle.changes.specs.declared.types.Possible.{Possible}
use Rattle.changes.specs.Faults.{possible_fault, nth_possible_fault}
use Rattle.changes.proofs.values.nth_possible_fault.Goals as goal

-- the fault at the input of a number
nth_at : (xs : List InputDecl) (i : ℕ) (d : InputDecl) (p : Possible) → i < length xs → nth_possible_fault (map input_of xs) i p ≡ possible_fault (get_or xs i d).ty p
nth_at [] i d p h = absurd (omega arith)
nth_at (x ∷ xs) zero d p h = refl
nth_at (x ∷ xs) (suc i) d p h = nth_at xs i d p (omega arith)

nth_past : (xs : List InputDecl) (i : ℕ) (p : Possible) → length xs ≤ i → nth_possible_fault (map input_of xs) i p ≡ Some net.NoInput
nth_past [] i p h = refl
nth_past (x ∷ xs) zero p h = absurd (omega arith)
nth_past (x ∷ xs) (suc i) p h = nth_past xs i p (omega arith)

pub returns-in-Some : goal.returns-in-Some
returns-in-Some c =
    c.possible_fault.ensures
    ∙ ap (λ (d : InputDecl). possible_fault d.ty c.args.values) c.in-Some.ensures.lookup.1
    ∙ sym (nth_at c.args.inputs.now c.args.number c.in-Some.input.now c.args.values c.in-Some.ensures.lookup.3.0)

pub returns-in-None : goal.returns-in-None
returns-in-None c = sym (nth_past c.args.inputs.now c.args.number c.args.values c.in-None.ensures.lookup.3)
