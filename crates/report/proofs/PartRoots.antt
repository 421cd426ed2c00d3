-- The node at a place is the root of the part there.
use Rattle.std.proofs.Common.{◌≡◌, ℕ, ◌<◌, Some, length, sym, ap, ◌∙◌}
use Rattle.fc_values.specs.Types.{type_of as type_of_value}
use Rattle.fc_nodes.specs.declared.nodes.Node.{Node}
use Rattle.fc_nodes.specs.Terms.{Term, Plain, Apply, Nbr, Evolve, If, Let, term_type, sort_of, view_of, view_at, term_at, Laid}
use Rattle.fc_nodes.specs.Subterms.{subterm_at}
use Rattle.fc_nodes.specs.Program.{IsProgram, Program, unfolding_of}
use Rattle.fc_nodes.proofs.Subterms.{subterm_is}
use Rattle.fc_nodes.proofs.Standing.{each_stands}
use Rattle.report.specs.Facts.{root_sort}

pub record IsRoot (n : Node) (u : Term) : Type 0 where
  pub sort : sort_of n.op ≡ root_sort u
  pub ty : type_of_value n.ty ≡ term_type u

laid_root : (P : Program) (p : ℕ) (n : Node) (u : Term) → view_at P.nodes p ≡ Some (view_of n) → Laid P.nodes p u → IsRoot n u
laid_root P p n (Plain t l) e h = let k = h in record { sort = cc; ty = cc }
laid_root P p n (Apply t o xs) e h = let k = h.0 in record { sort = cc; ty = cc }
laid_root P p n (Nbr t a) e h = let k = h.0 in record { sort = cc; ty = cc }
laid_root P p n (Evolve t v a b) e h = let k = h.0 in record { sort = cc; ty = cc }
laid_root P p n (If t c a b) e h = let k = h.0 in record { sort = cc; ty = cc }
laid_root P p n (Let t a b) e h = let k = h.0 in record { sort = cc; ty = cc }

pub part_root : (P : Program) → IsProgram P → (p : ℕ) (n : Node) → p < length P.nodes → view_at P.nodes p ≡ Some (view_of n) → IsRoot n (subterm_at p (unfolding_of P).main)
part_root P is p n l e =
    let root = laid_root P p n (term_at P.nodes p) e (each_stands P.nodes is.formed p l).laid in
    let part = sym (subterm_is P.nodes is.formed p) in
    record { sort = root.sort ∙ ap root_sort part; ty = root.ty ∙ ap term_type part }
