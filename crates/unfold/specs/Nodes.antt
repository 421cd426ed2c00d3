-- A term as the list of its nodes in preorder.
use Rattle.std.specs.Prelude.{ℕ, suc, ◌+◌, List, [], ◌∷◌, ◌++◌}
use Rattle.fc_syntax.specs.Terms.{Declaration}
use Rattle.fc_nodes.specs.Terms.{Term, Terms, Plain, Apply, Nbr, Evolve, If, Let, NoMore, More, size, View, Has, OfLeaf, OfApply, OfNbr, OfEvolve, OfIf, OfLet, places}
use Rattle.unfold.specs.Unfolding.{main_term}

-- the nodes of a term that stands at a place, each with its type and the places of its kids
abbrev mutual
  pub listed : ℕ → Term → List View
  listed p (Plain t l) = Has (OfLeaf l) t [] ∷ []
  listed p (Apply t b xs) = Has (OfApply b) t (places (suc p) xs) ∷ all_listed (suc p) xs
  listed p (Nbr t a) = Has OfNbr t (suc p ∷ []) ∷ listed (suc p) a
  listed p (Evolve t v a b) =
      Has (OfEvolve v) t (suc p ∷ (suc p + size a) ∷ []) ∷ (listed (suc p) a ++ listed (suc p + size a) b)
  listed p (If t c a b) =
      Has OfIf t (suc p ∷ (suc p + size c) ∷ (suc p + size c + size a) ∷ [])
      ∷ (listed (suc p) c ++ listed (suc p + size c) a ++ listed (suc p + size c + size a) b)
  listed p (Let t a b) = Has OfLet t (suc p ∷ (suc p + size a) ∷ []) ∷ (listed (suc p) a ++ listed (suc p + size a) b)

  pub all_listed : ℕ → Terms → List View
  all_listed p NoMore = []
  all_listed p (More x xs) = listed p x ++ all_listed (p + size x) xs

-- the nodes of a program: those of `main`, unfolded
abbrev pub Nodes : List Declaration → List View
Nodes ds = listed 0 (main_term ds)
