-- Nodes in code that are the nodes of a term.
use Rattle.std.proofs.Common.{◌≡◌, refl, ap, ◌∙◌, ℕ, suc, ◌+◌, ◌<◌, ◌≤◌, ◌^◌, arith, List, [], ◌∷◌, ◌++◌, length, map}
use Rattle.std.specs.Global.{Box, Global, Vec}
use denote.RawPtr.{null_ptr}
use Rattle.fc_values.specs.declared.types.LocalTy.{LocalTy}
use Rattle.fc_values.specs.declared.types.LocalTy.TheVariants as local
use Rattle.fc_values.specs.declared.types.Ty.{Ty}
use Rattle.fc_values.specs.declared.types.Ty.TheVariants as any
use Rattle.fc_values.specs.declared.values.Local.{Local}
use Rattle.fc_values.specs.declared.values.Local.TheVariants as value
use Rattle.fc_values.specs.Types.{LocalType, IntType, BoolType, PairType, local_type_of, ValueType, TypeLocal, TypeField, type_of}
use Rattle.fc_values.specs.Values.{LocalValue, IntValue, BoolValue, PairValue, local_of}
use Rattle.fc_nodes.specs.declared.nodes.Node.{Node}
use Rattle.fc_nodes.specs.declared.nodes.Op.{Op}
use Rattle.fc_nodes.specs.declared.nodes.Op.TheVariants as op
use Rattle.fc_nodes.specs.Terms.{Literal, Variable, Sense, Uid, NbrLink, ByRep, ByShare, Term, Terms, Plain, Apply, Nbr, Evolve, If, Let, NoMore, More, size, sizes, Sort, OfLeaf, OfApply, OfNbr, OfEvolve, OfIf, OfLet, sort_of, View, Has, view_of, places}
use Rattle.unfold.specs.Nodes.{listed, all_listed}

-- ---- values in code

global : Global
global = record { memory = record { seal = tt } }

boxed : Box (Unit {0})
boxed = record { ptr = null_ptr; alloc = global; value = tt }

abbrev vec_of : (ns : List ℕ) → length ns < 2 ^ 63 → Vec ℕ
vec_of ns small = record { ptr = null_ptr; len = length ns; cap = length ns; alloc = global; items = ns; ok = (refl, omega arith); small = small }

local_type_made : (t : LocalType) → (made : LocalTy) × (local_type_of made ≡ t)
local_type_made IntType = (local.Int, refl)
local_type_made BoolType = (local.Bool, refl)
local_type_made (PairType s t) =
    let a = local_type_made s in
    let b = local_type_made t in
    (local.Pair' boxed a.0 boxed b.0, ap (λ x. PairType x (local_type_of b.0)) a.1 ∙ ap (PairType s) b.1)

type_made : (t : ValueType) → (made : Ty) × (type_of made ≡ t)
type_made (TypeLocal t) = let a = local_type_made t in (any.Local a.0, ap TypeLocal a.1)
type_made (TypeField t) = let a = local_type_made t in (any.Field a.0, ap TypeField a.1)

value_made : (v : LocalValue) → (made : Local) × (local_of made ≡ v)
value_made (IntValue n) = (value.Int n, refl)
value_made (BoolValue b) = (value.Bool b, refl)
value_made (PairValue v w) =
    let a = value_made v in
    let b = value_made w in
    (value.Pair' boxed a.0 boxed b.0, ap (λ x. PairValue x (local_of b.0)) a.1 ∙ ap (PairValue v) b.1)

sort_made : (s : Sort) → (made : Op) × (sort_of made ≡ s)
sort_made (OfLeaf (Literal v)) = let a = value_made v in (op.Lit a.0, ap (λ x. OfLeaf (Literal x)) a.1)
sort_made (OfLeaf (Variable n)) = (op.Var n, refl)
sort_made (OfLeaf (Sense n)) = (op.Sense n, refl)
sort_made (OfLeaf Uid) = (op.Uid, refl)
sort_made (OfLeaf NbrLink) = (op.NbrLink, refl)
sort_made (OfApply b) = (op.Apply b, refl)
sort_made OfNbr = (op.Nbr, refl)
sort_made (OfEvolve ByRep) = (op.Rep, refl)
sort_made (OfEvolve ByShare) = (op.Share, refl)
sort_made OfIf = (op.If, refl)
sort_made OfLet = (op.Let, refl)

-- ---- nodes

-- each node has so few kids that a vector holds their places
abbrev AreFew : List View → Type 0
AreFew [] = Unit {0}
AreFew (Has s t ks ∷ vs) = (length ks < 2 ^ 63) × AreFew vs

few_more : (vs ws : List View) → AreFew vs → AreFew ws → AreFew (vs ++ ws)
few_more [] ws h i = i
few_more (Has s t ks ∷ vs) ws h i = (h.0, few_more vs ws h.1 i)

few_places : (xs : Terms) (p : ℕ) → length (places p xs) ≤ sizes xs
few_places NoMore p = omega arith
few_places (More x xs) p =
    let rest = few_places xs (p + size x) in
    let one = some_size x in
    omega (arith, rest, one)
  where
    some_size : (t : Term) → 1 ≤ size t
    some_size (Plain t l) = omega arith
    some_size (Apply t b xs) = omega arith
    some_size (Nbr t a) = omega arith
    some_size (Evolve t v a b) = omega arith
    some_size (If t c a b) = omega arith
    some_size (Let t a b) = omega arith

mutual
  few_listed : (t : Term) (p : ℕ) → size t < 2 ^ 63 → AreFew (listed p t)
  few_listed (Plain t l) p h = (omega arith, tt)
  few_listed (Apply t b xs) p h = let kids = few_places xs (suc p) in (omega (arith, kids, h), few_all xs (suc p) (omega (arith, h)))
  few_listed (Nbr t a) p h = (omega arith, few_listed a (suc p) (omega (arith, h)))
  few_listed (Evolve t v a b) p h =
      (omega arith, few_more (listed (suc p) a) (listed (suc p + size a) b) (few_listed a (suc p) (omega (arith, h))) (few_listed b (suc p + size a) (omega (arith, h))))
  few_listed (If t c a b) p h = (
    omega arith,
    few_more (listed (suc p) c ++ listed (suc p + size c) a) (listed (suc p + size c + size a) b)
        (few_more (listed (suc p) c) (listed (suc p + size c) a) (few_listed c (suc p) (omega (arith, h))) (few_listed a (suc p + size c) (omega (arith, h))))
        (few_listed b (suc p + size c + size a) (omega (arith, h))),
  )
  few_listed (Let t a b) p h =
      (omega arith, few_more (listed (suc p) a) (listed (suc p + size a) b) (few_listed a (suc p) (omega (arith, h))) (few_listed b (suc p + size a) (omega (arith, h))))

  few_all : (xs : Terms) (p : ℕ) → sizes xs < 2 ^ 63 → AreFew (all_listed p xs)
  few_all NoMore p h = tt
  few_all (More x xs) p h =
      few_more (listed p x) (all_listed (p + size x) xs) (few_listed x p (omega (arith, h))) (few_all xs (p + size x) (omega (arith, h)))

nodes_made : (vs : List View) → AreFew vs → (ns : List Node) × (map view_of ns ≡ vs)
nodes_made [] h = ([], refl)
nodes_made (Has s t ks ∷ vs) h =
    let o = sort_made s in
    let k = type_made t in
    let rest = nodes_made vs h.1 in
    let n : Node = record { op = o.0; ty = k.0; kids = vec_of ks h.0 } in
    (n ∷ rest.0, ap (λ x. Has x (type_of k.0) ks ∷ map view_of rest.0) o.1 ∙ ap (λ x. Has s x ks ∷ map view_of rest.0) k.1 ∙ ap (λ l. Has s t ks ∷ l) rest.1)

-- a term of so few nodes is that of nodes in code
pub term_made : (t : Term) → size t < 2 ^ 63 → (ns : List Node) × (map view_of ns ≡ listed 0 t)
term_made t h = nodes_made (listed 0 t) (few_listed t 0 h)
