use Rattle.std.proofs.Common.{rules, arith}
use Rattle.std.proofs.lemmas.Grind.{common_steps}
use Rattle.fc_values.specs.Types.{local_type_of}
use Rattle.fc_lexer.specs.declared.tokens.Mark.TheVariants as mark
use Rattle.fc_parser.specs.Expressions.{kinds_of}
use Rattle.fc_parser.proofs.TypesRead.{local_step}
use Rattle.fc_parser.proofs.Sizes.{local_less, mark_less}
use Rattle.fc_parser.proofs.types.+types.Goals as goal

pub local-returns-in-Word-Int : goal.local-returns-in-Word-Int
local-returns-in-Word-Int t c = rw (local_step (kinds_of c.args.tokens.now)) (grind (arith, common_steps))

pub local-returns-in-Word-Bool : goal.local-returns-in-Word-Bool
local-returns-in-Word-Bool t c = rw (local_step (kinds_of c.args.tokens.now)) (grind (arith, common_steps))

pub local-returns-in-Mark-OpenRound : goal.local-returns-in-Mark-OpenRound
local-returns-in-Mark-OpenRound t c = rw (local_step (kinds_of c.args.tokens.now)) (grind (arith, common_steps))

pub local-returns-in_default-kind : goal.local-returns-in_default-kind
local-returns-in_default-kind t c = rw (local_step (kinds_of c.args.tokens.now)) (grind (arith, common_steps))

pub local-returns-in_default : goal.local-returns-in_default
local-returns-in_default t c = rw (local_step (kinds_of c.args.tokens.now)) (grind (arith, common_steps))

pub pair-local-requires-2 : goal.pair-local-requires-2
pair-local-requires-2 t c =
    let first = local_less c.args.tokens.now c.in_ok-first.rest.now (local_type_of c.in_ok-first.first) c.in_ok-first.ensures in
    let comma = mark_less mark.Comma c.in_ok-first.rest.now c.in_ok-rest.rest.now tt c.in_ok-rest.ensures in
    search (rules, first, comma)
