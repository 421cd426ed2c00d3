use Rattle.std.proofs.Common.{Vec, Global, ℕ, map, sym, subst}
use Rattle.fc_values.specs.declared.values.Local.{Local}
use Rattle.fc_values.specs.Fields.{entry_of}
use Rattle.fc_nodes.specs.Terms.{term_at}
use Rattle.stable_field.specs.declared.terms.ClosedProgram.{ClosedProgram}
use Rattle.stable_field.specs.Columns.{IsColumn, AllKnown}
use Rattle.stable_field.proofs.Joined.{in_some, one_known}
use Rattle.stable_field.proofs.terms.closed_column.Goals as goal

pub returns-clause-known : goal.returns-clause-known
returns-clause-known c =
    let k : ClosedProgram = record { program = c.in_ok-part.part; values = c.in-Some-2.values } in
    subst (AllKnown c.args.program.now.declared c.args.net.now) (sym c.in_ok-push.ensures.items)
    (one_known c.args.program.now.declared c.args.net.now c.args.known.now.items k c.requires.known (record {
      declared = c.in_ok-part.ensures.declared;
      column = in_some (λ (v : Vec (ℕ × Local) Global). IsColumn c.args.net.now 0 (term_at c.in_ok-part.part.nodes 0) (map entry_of v.items)) c.in_ok-values.field-0 c.in-Some-2.values c.in-Some-2.is c.in_ok-values.ensures;
    }))
