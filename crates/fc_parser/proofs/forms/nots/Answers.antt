use Rattle.std.proofs.Common.{arith, sym, ◌∙◌}
use Rattle.fc_parser.specs.Expressions.{kinds_of}
use Rattle.fc_parser.proofs.ExpressionLoops.{one_not, no_nots, nots_end}
use Rattle.fc_parser.proofs.forms.nots.Goals as goal

pub nots-smaller : goal.nots-smaller
nots-smaller c =
    let one = one_not (kinds_of c.nots.rest.now) tt (kinds_of c.in-Some.after.now) c.in-Some.ensures in
    omega (arith, one.shorter)

pub nots-preserved : goal.nots-preserved
nots-preserved c =
    let one = one_not (kinds_of c.nots.rest.now) tt (kinds_of c.in-Some.after.now) c.in-Some.ensures in
    record {
      many = omega (arith, c.nots.invariant.many, one.many);
      rest = c.nots.invariant.rest ∙ one.rest;
      within = omega (arith, c.nots.invariant.within, one.shorter);
    }

pub returns-clause-many : goal.returns-clause-many
returns-clause-many c = omega (arith, c.nots.invariant.many, no_nots (kinds_of c.nots.rest.now) c.in_default.ensures)

pub returns-clause-rest : goal.returns-clause-rest
returns-clause-rest c = sym (c.nots.invariant.rest ∙ nots_end (kinds_of c.nots.rest.now) c.in_default.ensures)
