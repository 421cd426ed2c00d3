-- A closed term as a program of its own is a program, and what solves it solves the term.
use Rattle.std.proofs.Common.{◌≡◌, ℕ, ◌-◌, ◌∙◌, List, [], length, sym, ap, subst, arith}
use Rattle.fc_values.specs.Types.{Declarations}
use Rattle.fc_nodes.specs.declared.nodes.Node.{Node}
use Rattle.fc_nodes.specs.Terms.{term_type, size, term_at}
use Rattle.fc_nodes.specs.Typing.{HasType}
use Rattle.fc_nodes.specs.Program.{Program, IsProgram}
use Rattle.fc_nodes.proofs.Places.{formed_above}
use Rattle.interval_facts.specs.Solutions.{Solves}
use Rattle.closed_terms.specs.Parts.{lowered, IsLowered, IsClosedTerm, PartsSolve}
use Rattle.closed_terms.proofs.Shifting.{shift}
use Rattle.closed_terms.proofs.Typed.{same_type, typed}
use Rattle.closed_terms.proofs.Laying.{term_is, formed}

module _ (P : Program) (program : IsProgram P) (p end : ℕ) (t : IsClosedTerm P p end) (ms : List Node) (low : IsLowered p P.nodes ms) (many : length ms ≡ end - p) where
  long : length ms ≡ size (term_at P.nodes p)
  long = let e = t.ends in omega (arith, many, e)

  pub main_is : term_at ms 0 ≡ lowered p (term_at P.nodes p)
  main_is = term_is P.nodes ms (formed_above P.nodes program.formed) p low (term_at P.nodes p) t.stands.laid long

  pub part_program : (D : Declarations) → D ≡ P.declared → IsProgram (record { declared = D; nodes = ms })
  part_program D same =
      subst (λ (E : Declarations). IsProgram (record { declared = E; nodes = ms })) (sym same) (record {
        lawful = program.lawful;
        formed = formed P.nodes ms (formed_above P.nodes program.formed) p low (term_at P.nodes p) t.stands.laid long;
        typed = subst (HasType P.declared [] 0) (sym main_is) (typed P.declared p (term_at P.nodes p) 0 p (omega arith) [] tt t.closed);
        root = (t.local.0, ap term_type main_is ∙ same_type p (term_at P.nodes p) ∙ t.local.1);
        short = let a = program.short in let b = t.within in omega (arith, many, a, b);
      })

pub parts_solve : PartsSolve
parts_solve P Q p N D V W F closed part s =
    shift N P.declared p (term_at P.nodes p) 0 p (omega arith) [] D V W F closed tt (subst (λ u. Solves N 0 u D W F) part.main s)
