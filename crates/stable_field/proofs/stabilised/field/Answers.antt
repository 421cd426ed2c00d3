use Rattle.std.proofs.Common.{Vec, Global, ℕ, map}
use Rattle.fc_values.specs.declared.values.Local.{Local}
use Rattle.fc_values.specs.Fields.{entry_of}
use Rattle.fc_nodes.specs.Program.{unfolding_of}
use Rattle.stable_field.specs.Columns.{IsColumn}
use Rattle.stable_field.proofs.Joined.{in_some, stable_column, column_rises}
use Rattle.stable_field.proofs.stabilised.field.Goals as goal

pub returns-in-Some-clause-field : goal.returns-in-Some-clause-field
returns-in-Some-clause-field c = stable_column (unfolding_of c.args.program.now) c.args.net.now
    (c.yes_stabilises.ensures c.args.program.now c.args.net.now c.args.rounds c.declared-program.ensures.program c.declared-network.ensures.network c.requires.declared c.requires.yes).one
    (map entry_of c.in-Some.values.items)
    (in_some (λ (v : Vec (ℕ × Local) Global). IsColumn c.args.net.now 0 (unfolding_of c.args.program.now).main (map entry_of v.items)) c.in_ok-values.field-0 c.in-Some.values c.in-Some.is c.in_ok-values.ensures)

pub returns-in-Some-clause-rises : goal.returns-in-Some-clause-rises
returns-in-Some-clause-rises c = column_rises (unfolding_of c.args.program.now) c.args.net.now (map entry_of c.in-Some.values.items) c.declared-network.ensures.network (stable_column (unfolding_of c.args.program.now) c.args.net.now
    (c.yes_stabilises.ensures c.args.program.now c.args.net.now c.args.rounds c.declared-program.ensures.program c.declared-network.ensures.network c.requires.declared c.requires.yes).one
    (map entry_of c.in-Some.values.items)
    (in_some (λ (v : Vec (ℕ × Local) Global). IsColumn c.args.net.now 0 (unfolding_of c.args.program.now).main (map entry_of v.items)) c.in_ok-values.field-0 c.in-Some.values c.in-Some.is c.in_ok-values.ensures))
