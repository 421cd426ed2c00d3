-- The subterm of a term at a place of its preorder.
use Rattle.std.specs.Prelude.{ℕ, zero, suc, ◌-◌, nat_lt, if◌then◌else◌}
use Rattle.fc_values.specs.Types.{IntType, TypeLocal}
use Rattle.fc_nodes.specs.Terms.{Term, Terms, Uid, Plain, Apply, Nbr, Evolve, If, Let, NoMore, More, size}

-- past the end of a term stands none: this one stands for it
abbrev pub no_subterm : Term
no_subterm = Plain (TypeLocal IntType) Uid

abbrev mutual
  pub subterm_at : ℕ → Term → Term
  subterm_at zero u = u
  subterm_at (suc q) (Plain t l) = no_subterm
  subterm_at (suc q) (Apply t o xs) = subterm_in q xs
  subterm_at (suc q) (Nbr t a) = subterm_at q a
  subterm_at (suc q) (Evolve t e a b) = if nat_lt q (size a) then subterm_at q a else subterm_at (q - size a) b
  subterm_at (suc q) (If t c a b) =
      if nat_lt q (size c) then subterm_at q c
      else (if nat_lt (q - size c) (size a) then subterm_at (q - size c) a else subterm_at (q - size c - size a) b)
  subterm_at (suc q) (Let t a b) = if nat_lt q (size a) then subterm_at q a else subterm_at (q - size a) b

  pub subterm_in : ℕ → Terms → Term
  subterm_in q NoMore = no_subterm
  subterm_in q (More x xs) = if nat_lt q (size x) then subterm_at q x else subterm_in (q - size x) xs
