-- The program of a ring, unfolded.
use Rattle.std.specs.Prelude.{ℕ}
use Rattle.fc_values.specs.declared.builtins.Builtin.TheVariants as builtin
use Rattle.fc_values.specs.Types.{IntType, BoolType, TypeLocal, TypeField}
use Rattle.fc_values.specs.Values.{IntValue}
use Rattle.fc_nodes.specs.Terms.{Term, Plain, Apply, Nbr, Evolve, NoMore, More}
use Rattle.fc_nodes.specs.Terms.{Literal, Variable, Sense, NbrLink, ByRep}
use Rattle.fc_nodes.specs.Program.{Unfolding}
use Rattle.scenarios.specs.Rings.{ring_declared}

abbrev pub literal_term : ℕ → Term
literal_term n = Plain (TypeLocal IntType) (Literal (IntValue n))

-- `nbr{d} + nbrLink`
abbrev pub near_term : Term
near_term = Apply (TypeField IntType) builtin.Add
    (More (Nbr (TypeField IntType) (Plain (TypeLocal IntType) (Variable 0)))
    (More (Plain (TypeField IntType) NbrLink) NoMore))

-- `mux(sense src, 0, D)`
abbrev pub own_term : ℕ → Term
own_term count = Apply (TypeLocal IntType) builtin.Mux
    (More (Plain (TypeLocal BoolType) (Sense 0)) (More (literal_term 0) (More (literal_term count) NoMore)))

-- `minHoodLoc(nbr{d} + nbrLink, mux(sense src, 0, D))`
abbrev pub body_term : ℕ → Term
body_term count = Apply (TypeLocal IntType) builtin.MinHoodLoc (More near_term (More (own_term count) NoMore))

-- `rep(D){(d) => minHoodLoc(nbr{d} + nbrLink, mux(sense src, 0, D))}`
abbrev pub ring_main : ℕ → Term
ring_main count = Evolve (TypeLocal IntType) ByRep (literal_term count) (body_term count)

-- the program of a ring of so many devices
abbrev pub ring_unfolding : ℕ → Unfolding
ring_unfolding count = record { declared = ring_declared count; main = ring_main count }
