-- A term of a program by itself: the program `rep(A){(x) => t}` in which the term t stands at its place, and the first
-- value A, which says nothing of the values, fills the places before it.
use Rattle.std.specs.Prelude.{ℕ, zero, suc, true, ◌≡◌, ◌+◌, ◌-◌, ◌<◌, nat_eq, nat_lt, if◌then◌else◌, List, [], ◌∷◌, length, Option, Some}
use Rattle.fc_values.specs.declared.builtins.Builtin.TheVariants as op
use Rattle.fc_values.specs.Types.{IntType, BoolType, TypeLocal}
use Rattle.fc_values.specs.Values.{IntValue, BoolValue}
use Rattle.fc_nodes.specs.declared.nodes.Node.{Node}
use Rattle.fc_nodes.specs.Terms.{Literal, ByRep, Term, Plain, Apply, Evolve, Let, NoMore, More, OfLeaf, OfApply, OfEvolve, OfLet, View, Has, view_at}

-- `true` under so many `not`s
abbrev pub nots : ℕ → Term
nots zero = Plain (TypeLocal BoolType) (Literal (BoolValue true))
nots (suc k) = Apply (TypeLocal BoolType) op.Not (More (nots k) NoMore)

-- a term of k + 3 nodes: `let y = nots k in 0`
abbrev pub filler : ℕ → Term
filler k = Let (TypeLocal IntType) (nots k) (Plain (TypeLocal IntType) (Literal (IntValue 0)))

-- the program of a term that stands at place p, which is at least 4
abbrev pub alone_term : ℕ → Term → Term
alone_term p t = Evolve (TypeLocal IntType) ByRep (filler (p - 4)) t

-- its nodes before the term
abbrev pub front_view : ℕ → ℕ → View
front_view p i =
    if nat_eq i 0 then Has (OfEvolve ByRep) (TypeLocal IntType) (1 ∷ p ∷ [])
    else (if nat_eq i 1 then Has OfLet (TypeLocal IntType) (2 ∷ (p - 1) ∷ [])
    else (if nat_lt (i + 2) p then Has (OfApply op.Not) (TypeLocal BoolType) (suc i ∷ [])
    else (if nat_eq (i + 2) p then Has (OfLeaf (Literal (BoolValue true))) (TypeLocal BoolType) []
    else Has (OfLeaf (Literal (IntValue 0))) (TypeLocal IntType) [])))

-- its node at a place
abbrev pub alone_view : List Node → ℕ → ℕ → Option View
alone_view ns p i = if nat_lt i p then Some (front_view p i) else view_at ns i

-- its nodes, up to a place
pub record AreAlone (ns : List Node) (p : ℕ) (end : ℕ) (ms : List Node) : Type 0 where
  pub many : length ms ≡ end
  pub each : (i : ℕ) → i < end → view_at ms i ≡ alone_view ns p i
