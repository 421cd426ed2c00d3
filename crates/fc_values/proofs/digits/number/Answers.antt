use Rattle.std.proofs.Common.{arith, ◌+◌, ◌*◌, ◌≤◌, length, get_or, sym, ap, ◌∙◌}
use Rattle.std.proofs.lemmas.Bool.Decides.{nat_tests}
use Rattle.fc_values.proofs.NumberWords.{short_number, one_digit, digit_small, number_off, number_read}
use Rattle.fc_values.proofs.digits.number.Goals as goal

pub overflow_mul-value : goal.overflow_mul-value
overflow_mul-value c = omega (arith, short_number c.args.word.now c.loop-byte.byte-index (omega arith) c.loop-byte.invariant.1)

pub overflow_add-value : goal.overflow_add-value
overflow_add-value c =
    let small = short_number c.args.word.now c.loop-byte.byte-index (omega arith) c.loop-byte.invariant.1 in
    let digit = digit_small (get_or c.args.word.now c.loop-byte.byte-index 0) (sym c.if-not-is_ascii_digit.ensures.value) in
    omega (arith, c.from.ensures)

pub loop-byte-preserved : goal.loop-byte-preserved
loop-byte-preserved c =
    let p = one_digit c.args.word.now c.loop-byte.byte-index c.loop-byte.value c.loop-byte-test.true c.loop-byte.invariant.0 c.loop-byte.invariant.1 (sym c.if-not-is_ascii_digit.ensures.value) in
    (ap (λ d. c.loop-byte.value * 10 + d) c.from.ensures ∙ p.0, p.1)

pub returns-then-not-is_ascii_digit : goal.returns-then-not-is_ascii_digit
returns-then-not-is_ascii_digit c = number_off c.args.word.now c.loop-byte.byte-index c.loop-byte-test.true (sym c.if-not-is_ascii_digit.ensures.value)

pub returns : goal.returns
returns c =
    let some : 1 ≤ length c.args.word.now = grind (arith, nat_tests) in
    number_read c.args.word.now c.loop-byte.value c.loop-byte.byte-index some (omega arith) c.loop-byte-test.false c.loop-byte.invariant.0 c.loop-byte.invariant.1
