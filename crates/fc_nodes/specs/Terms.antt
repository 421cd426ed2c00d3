-- A program's `main` as a term, and the list of nodes that is its preorder.
use Rattle.std.specs.Prelude.{ℕ, zero, suc, ◌≡◌, ◌<◌, ◌+◌, ◌-◌, List, [], ◌∷◌, ◌++◌, length, Bool, true, false, Option, Some, None, slice_get, option_map, is_some, filter_map}
use Rattle.fc_values.specs.declared.builtins.Builtin.{Builtin}
use Rattle.fc_values.specs.Types.{LocalType, BoolType, IntType, ValueType, TypeLocal, type_of as value_type_of}
use Rattle.fc_values.specs.Values.{LocalValue, local_of}
use Rattle.fc_values.specs.BuiltinTypes.{inner}
use Rattle.fc_nodes.specs.declared.nodes.Op.{Op}
use Rattle.fc_nodes.specs.declared.nodes.Op.TheVariants as op
use Rattle.fc_nodes.specs.declared.nodes.Node.{Node}

-- a node without kids: a number or truth value, the variable of a binder by its place, an input by its number, the
-- device's number, the weights of the links
pub data Leaf : Type 0 where
  Literal : LocalValue → Leaf
  Variable : ℕ → Leaf
  Sense : ℕ → Leaf
  Uid : Leaf
  NbrLink : Leaf

-- how a value evolves from firing to firing
pub data Evolution : Type 0 where
  ByRep : Evolution
  ByShare : Evolution

-- a term: each node with its type
mutual
  pub data Term : Type 0 where
    Plain : ValueType → Leaf → Term
    Apply : ValueType → Builtin → Terms → Term
    Nbr : ValueType → Term → Term
    Evolve : ValueType → Evolution → Term → Term → Term
    If : ValueType → Term → Term → Term → Term
    Let : ValueType → Term → Term → Term

  pub data Terms : Type 0 where
    NoMore : Terms
    More : Term → Terms → Terms

-- the type of a term
abbrev pub term_type : Term → ValueType
term_type (Plain t l) = t
term_type (Apply t o xs) = t
term_type (Nbr t a) = t
term_type (Evolve t e a b) = t
term_type (If t c a b) = t
term_type (Let t a b) = t

-- the number of nodes
abbrev mutual
  pub size : Term → ℕ
  size (Plain t l) = 1
  size (Apply t o xs) = suc (sizes xs)
  size (Nbr t a) = suc (size a)
  size (Evolve t e a b) = suc (size a + size b)
  size (If t c a b) = suc (size c + size a + size b)
  size (Let t a b) = suc (size a + size b)

  pub sizes : Terms → ℕ
  sizes NoMore = 0
  sizes (More x xs) = size x + sizes xs

-- what a node is, without its kids
pub data Sort : Type 0 where
  OfLeaf : Leaf → Sort
  OfApply : Builtin → Sort
  OfNbr : Sort
  OfEvolve : Evolution → Sort
  OfIf : Sort
  OfLet : Sort

abbrev pub sort_of : Op → Sort
sort_of (op.Lit v) = OfLeaf (Literal (local_of v))
sort_of (op.Var n) = OfLeaf (Variable n)
sort_of (op.Sense i) = OfLeaf (Sense i)
sort_of op.Uid = OfLeaf Uid
sort_of op.NbrLink = OfLeaf NbrLink
sort_of (op.Apply b) = OfApply b
sort_of op.Nbr = OfNbr
sort_of op.Rep = OfEvolve ByRep
sort_of op.Share = OfEvolve ByShare
sort_of op.If = OfIf
sort_of op.Let = OfLet

-- whether a node is an `if`
abbrev pub is_branching : Sort → Bool
is_branching (OfLeaf l) = false
is_branching (OfApply o) = false
is_branching OfNbr = false
is_branching (OfEvolve e) = false
is_branching OfIf = true
is_branching OfLet = false

-- a node: what it is, its type, and the places of its kids
pub data View : Type 0 where
  Has : Sort → ValueType → List ℕ → View

abbrev pub view_of : Node → View
view_of n = Has (sort_of n.op) (value_type_of n.ty) n.kids.items

-- the node at a place
abbrev pub view_at : List Node → ℕ → Option View
view_at ns p = option_map view_of (slice_get ns p)

abbrev pub HasNode : List Node → ℕ → Sort → ValueType → List ℕ → Type 0
HasNode ns p s t ks = view_at ns p ≡ Some (Has s t ks)

-- The term of a node from those of its kids. A node with another number of kids is no node of a program, and stands for
-- any term.
abbrev pub terms_by : (ℕ → Term) → List ℕ → Terms
terms_by go [] = NoMore
terms_by go (k ∷ ks) = More (go k) (terms_by go ks)

abbrev pub with_one_child : (Term → Term) → (ℕ → Term) → ValueType → List ℕ → Term
with_one_child f go t (a ∷ []) = f (go a)
with_one_child f go t _ = Plain t Uid

abbrev pub with_two_children : (Term → Term → Term) → (ℕ → Term) → ValueType → List ℕ → Term
with_two_children f go t (a ∷ b ∷ []) = f (go a) (go b)
with_two_children f go t _ = Plain t Uid

abbrev pub with_three_children : (Term → Term → Term → Term) → (ℕ → Term) → ValueType → List ℕ → Term
with_three_children f go t (a ∷ b ∷ c ∷ []) = f (go a) (go b) (go c)
with_three_children f go t _ = Plain t Uid

abbrev pub term_by : (ℕ → Term) → Sort → ValueType → List ℕ → Term
term_by go (OfLeaf l) t ks = Plain t l
term_by go (OfApply o) t ks = Apply t o (terms_by go ks)
term_by go OfNbr t ks = with_one_child (Nbr t) go t ks
term_by go (OfEvolve e) t ks = with_two_children (Evolve t e) go t ks
term_by go OfIf t ks = with_three_children (If t) go t ks
term_by go OfLet t ks = with_two_children (Let t) go t ks

abbrev pub term_for : (ℕ → Term) → Option View → Term
term_for go None = Plain (TypeLocal IntType) Uid
term_for go (Some (Has s t ks)) = term_by go s t ks

-- the term at a place, read to a depth
unfoldable pub term_to : ℕ → List Node → ℕ → Term
term_to zero ns p = Plain (TypeLocal IntType) Uid
term_to (suc k) ns p = term_for (term_to k ns) (view_at ns p)

unfoldable pub term_at : List Node → ℕ → Term
term_at ns p = term_to (length ns - p) ns p

-- the places of terms that stand one after another
abbrev pub places : ℕ → Terms → List ℕ
places p NoMore = []
places p (More x xs) = p ∷ places (p + size x) xs

-- the nodes from a place on are the preorder of a term
abbrev mutual
  pub Laid : List Node → ℕ → Term → Type 0
  Laid ns p (Plain t l) = HasNode ns p (OfLeaf l) t []
  Laid ns p (Apply t o xs) = HasNode ns p (OfApply o) t (places (suc p) xs) × AllLaid ns (suc p) xs
  Laid ns p (Nbr t a) = HasNode ns p OfNbr t (suc p ∷ []) × Laid ns (suc p) a
  Laid ns p (Evolve t e a b) =
      HasNode ns p (OfEvolve e) t (suc p ∷ (suc p + size a) ∷ []) × Laid ns (suc p) a × Laid ns (suc p + size a) b
  Laid ns p (If t c a b) = HasNode ns p OfIf t (suc p ∷ (suc p + size c) ∷ (suc p + size c + size a) ∷ [])
      × Laid ns (suc p) c × Laid ns (suc p + size c) a × Laid ns (suc p + size c + size a) b
  Laid ns p (Let t a b) =
      HasNode ns p OfLet t (suc p ∷ (suc p + size a) ∷ []) × Laid ns (suc p) a × Laid ns (suc p + size a) b

  pub AllLaid : List Node → ℕ → Terms → Type 0
  AllLaid ns p NoMore = Unit {0}
  AllLaid ns p (More x xs) = Laid ns p x × AllLaid ns (p + size x) xs

-- places that come after p
abbrev pub Later : ℕ → List ℕ → Type 0
Later p [] = Unit {0}
Later p (k ∷ ks) = (p < k) × Later p ks

-- the kids of each node come after it; the first node stands at p
abbrev pub KidsLater : ℕ → List Node → Type 0
KidsLater p [] = Unit {0}
KidsLater p (n ∷ ns) = Later p n.kids.items × KidsLater (suc p) ns

-- the nodes are the preorder of a term
pub record WellFormed (ns : List Node) : Type 0 where
  pub later : KidsLater 0 ns
  pub laid : Laid ns 0 (term_at ns 0)
  pub whole : length ns ≡ size (term_at ns 0)

-- the type of what a node keeps, where it keeps something
abbrev pub kept_type : Sort → ValueType → Option LocalType
kept_type (OfLeaf l) t = None
kept_type (OfApply o) t = None
kept_type OfNbr t = Some (inner t)
kept_type (OfEvolve e) t = Some (inner t)
kept_type OfIf t = Some BoolType
kept_type OfLet t = None

-- the number of nodes that keep a value
abbrev mutual
  pub kept : Term → ℕ
  kept (Plain t l) = 0
  kept (Apply t o xs) = kept_all xs
  kept (Nbr t a) = suc (kept a)
  kept (Evolve t e a b) = suc (kept a + kept b)
  kept (If t c a b) = suc (kept c + kept a + kept b)
  kept (Let t a b) = kept a + kept b

  pub kept_all : Terms → ℕ
  kept_all NoMore = 0
  kept_all (More x xs) = kept x + kept_all xs

-- the types of what they keep, in preorder
abbrev mutual
  pub kept_types : Term → List LocalType
  kept_types (Plain t l) = []
  kept_types (Apply t o xs) = all_kept_types xs
  kept_types (Nbr t a) = inner t ∷ kept_types a
  kept_types (Evolve t e a b) = inner t ∷ (kept_types a ++ kept_types b)
  kept_types (If t c a b) = BoolType ∷ (kept_types c ++ kept_types a ++ kept_types b)
  kept_types (Let t a b) = kept_types a ++ kept_types b

  pub all_kept_types : Terms → List LocalType
  all_kept_types NoMore = []
  all_kept_types (More x xs) = kept_types x ++ all_kept_types xs

-- the same on nodes: the number of nodes before a place that keep a value, and all types of what nodes keep
abbrev pub view_keeps : View → Option LocalType
view_keeps (Has s t ks) = kept_type s t

abbrev pub node_keeps : Node → Option LocalType
node_keeps n = view_keeps (view_of n)

abbrev pub one_if : Bool → ℕ
one_if true = 1
one_if false = 0

unfoldable pub kept_before : List Node → ℕ → ℕ
kept_before [] p = 0
kept_before (n ∷ ns) zero = 0
kept_before (n ∷ ns) (suc p) = one_if (is_some (node_keeps n)) + kept_before ns p

-- the types of what the nodes keep, in order
abbrev pub nodes_kept_types : List Node → List LocalType
nodes_kept_types ns = filter_map node_keeps ns
