use Rattle.std.proofs.Common.{arith}
use Rattle.fc_lexer.specs.declared.tokens.Mark.TheVariants as mark
use Rattle.fc_parser.proofs.Sizes.{mark_less}
use Rattle.fc_parser.proofs.declarations.body.Goals as goal

pub expression-requires : goal.expression-requires
expression-requires c =
    let less = mark_less mark.Is c.args.tokens.now c.in_ok-rest.rest.now tt c.in_ok-rest.ensures in
    omega (arith, less)
