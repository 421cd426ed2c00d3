use Rattle.std.proofs.Common.{length, arith}
use Rattle.alignment.specs.References.{numbers_in}
use Rattle.scope_columns.specs.Scopes.{devices_in}
use Rattle.scope_columns.proofs.VariableSteps.{local_words, field_words, field_aligned, local_variable, field_variable}
use Rattle.scope_columns.proofs.variables.push_variable.Goals as goal

pub width-requires : goal.width-requires
width-requires c =
    let b = c.lookup-bound.result in
    let below = c.lookup-bound.ensures.below c.args.device (length c.args.words.now.items) c.requires.below in
    omega (arith, below, local_words c.args.device b c.if-not-bound.true, c.args.words.now.ok.0)

pub push_words-requires : goal.push_words-requires
push_words-requires c =
    let b = c.lookup-bound.result in
    let below = c.lookup-bound.ensures.below c.args.device (length c.args.words.now.items) c.requires.below in
    omega (arith, below, local_words c.args.device b c.if-not-bound.true, c.width.ensures)

pub returns-then-not-bound : goal.returns-then-not-bound
returns-then-not-bound c =
    let found = c.lookup-bound.ensures in
    let ws = c.args.words.now.items in
    let below = found.below c.args.device (length ws) c.requires.below in
    local_variable c.lookup-bound.result found.ty (found.value c.args.device ws) c.if-not-bound.true below
    c.width.ensures c.in_ok-push_words.ensures

pub push_field-requires-clause-within : goal.push_field-requires-clause-within
push_field-requires-clause-within c =
    let b = c.lookup-bound.result in
    let below = c.lookup-bound.ensures.below c.args.device (length c.args.words.now.items) c.requires.below in
    omega (arith, below, field_words c.args.device b c.if-not-bound.false)

pub push_field-requires-clause-aligned : goal.push_field-requires-clause-aligned
push_field-requires-clause-aligned c =
    let b = c.lookup-bound.result in
    let ns = numbers_in c.args.sight.now.env.now in
    field_aligned c.args.device b ns (devices_in c.args.device b.env.now) c.if-not-bound.false
    (c.lookup-bound.ensures.aligned c.args.device ns c.requires.aligned)

pub returns : goal.returns
returns c =
    let found = c.lookup-bound.ensures in
    field_variable c.lookup-bound.result found.ty (found.value c.args.device c.args.words.now.items)
    c.if-not-bound.false c.in_ok-push_field.ensures.added c.in_ok-push_field.ensures.value
