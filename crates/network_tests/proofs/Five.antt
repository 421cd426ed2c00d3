-- The program of one number.
use Rattle.std.proofs.Common.{◌≡◌, ◌≤◌, ℕ, List, [], ◌∷◌, ◌++◌, refl, sym, ◌∙◌, ap, subst, arith, Some}
use Rattle.fc_values.specs.Types.{IntType, TypeLocal, Declarations}
use Rattle.fc_values.specs.Values.{IntValue}
use Rattle.fc_nodes.specs.declared.nodes.Node.{Node}
use Rattle.fc_nodes.specs.Terms.{Literal, Term, Plain, term_type, size, OfLeaf, Has, view_of, term_at, Laid, Later, KidsLater}
use Rattle.fc_nodes.specs.Typing.{HasType}
use Rattle.fc_nodes.specs.Program.{IsLawful, IsProgram}
use Rattle.fc_nodes.proofs.Places.{all_above}
use Rattle.fc_nodes.proofs.Kids.{laid_term}

abbrev pub number : ℕ → Term
number n = Plain (TypeLocal IntType) (Literal (IntValue n))

is_program : (D : Declarations) (x : Node) (n : ℕ) → IsLawful D → n ≤ D.ceiling
    → x.kids.items ≡ [] → view_of x ≡ Has (OfLeaf (Literal (IntValue n))) (TypeLocal IntType) x.kids.items
    → IsProgram (record { declared = D; nodes = x ∷ [] })
is_program D x n lawful fits none seen = record {
  lawful = lawful;
  formed = record { later = later; laid = subst (Laid (x ∷ []) 0) (sym is) laid; whole = ap size (sym is) };
  typed = subst (HasType D [] 0) (sym is) (refl, fits);
  root = (IntType, ap term_type is);
  short = omega arith;
}
  where
    laid : Laid (x ∷ []) 0 (number n)
    laid = ap Some (seen ∙ ap (Has (OfLeaf (Literal (IntValue n))) (TypeLocal IntType)) none)

    later : KidsLater 0 (x ∷ [])
    later = (subst (Later 0) (sym none) tt, tt)

    is : term_at (x ∷ []) 0 ≡ number n
    is = laid_term (x ∷ []) (all_above (x ∷ []) later) (number n) 0 laid

-- declarations without inputs, whose links weigh 1
abbrev pub plain : Declarations
plain = record { ceiling = 10; inputs = []; least = 1; greatest = 1 }

plain_is_lawful : IsLawful plain
plain_is_lawful = record { some = omega arith; most = omega arith; few = omega arith; inputs = tt; metric = (omega arith, omega arith) }

-- a number that is put into an empty list of nodes
pub put_alone : (D : Declarations) (n : ℕ) (old ns : List Node) (x : Node) → D ≡ plain → n ≤ 10 → old ≡ [] → ns ≡ old ++ x ∷ []
    → x.kids.items ≡ [] → view_of x ≡ Has (OfLeaf (Literal (IntValue n))) (TypeLocal IntType) x.kids.items → IsProgram (record { declared = D; nodes = ns })
put_alone D n old ns x declared fits none put leaf seen =
    let nodes : ns ≡ x ∷ [] = put ∙ ap (λ l. l ++ x ∷ []) none in
    subst (λ (E : Declarations). IsProgram (record { declared = E; nodes = ns })) (sym declared)
    (subst (λ (ms : List Node). IsProgram (record { declared = plain; nodes = ms })) (sym nodes) (is_program plain x n plain_is_lawful fits leaf seen))
