use Rattle.std.proofs.Common.{sym}
use Rattle.unfold.proofs.Firsts.{first_at, none_before, none_from}
use Rattle.unfold.proofs.names.find.Goals as goal

pub returns-then-number-visible-clause-function : goal.returns-then-number-visible-clause-function
returns-then-number-visible-clause-function c =
    rw (← c.as_slice.ensures.value) (c.in-Some.field-0-1.now.now, first_at c.as_slice.result.now c.args.known.now.functions.entries c.in-Some.number (c.in-Some.field-0-1.now, c.in-Some.function.now) c.in-Some.ensures.entry c.in-Some.ensures.index)

pub returns-else-number-visible-clause-function : goal.returns-else-number-visible-clause-function
returns-else-number-visible-clause-function c =
    rw (← c.as_slice.ensures.value) (none_before (first_at c.as_slice.result.now c.args.known.now.functions.entries c.in-Some.number (c.in-Some.field-0-1.now, c.in-Some.function.now) c.in-Some.ensures.entry c.in-Some.ensures.index) c.args.visible c.if-number-visible.false)

pub returns-in-None-clause-function : goal.returns-in-None-clause-function
returns-in-None-clause-function c =
    rw (← c.as_slice.ensures.value) (none_from c.as_slice.result.now c.args.known.now.functions.entries c.args.visible (sym c.in-None.ensures.value))
