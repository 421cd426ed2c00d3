use Rattle.std.proofs.Common.{arith}
use Rattle.fc_values.specs.Types.{type_of}
use Rattle.fc_lexer.specs.declared.tokens.Mark.TheVariants as mark
use Rattle.fc_parser.specs.Types.{parameters_of}
use Rattle.fc_parser.proofs.Sizes.{mark_less, name_less, parameters_less, type_less}
use Rattle.fc_parser.proofs.declarations.definition.Goals as goal

pub body-requires : goal.body-requires
body-requires c =
    let named = name_less c.args.tokens.now c.in_ok-name.rest.now c.in_ok-name.name.now.text.items c.in_ok-name.ensures in
    let opened = mark_less mark.OpenRound c.in_ok-name.rest.now c.in_ok-rest.rest.now tt c.in_ok-rest.ensures in
    let read = parameters_less c.in_ok-rest.rest.now c.in_ok-params.rest.now (parameters_of c.in_ok-params.params) c.in_ok-params.ensures in
    let closed = mark_less mark.CloseRound c.in_ok-params.rest.now c.in_ok-rest-2.rest.now tt c.in_ok-rest-2.ensures in
    let colon = mark_less mark.Colon c.in_ok-rest-2.rest.now c.in_ok-rest-3.rest.now tt c.in_ok-rest-3.ensures in
    let typed = type_less c.in_ok-rest-3.rest.now c.in_ok-result.rest.now (type_of c.in_ok-result.result) c.in_ok-result.ensures in
    omega (arith, named, opened, read, closed, colon, typed)
