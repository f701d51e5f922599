use Rattle.std.proofs.Common.{sym, arith, rules, tests}
use Rattle.im_cmd_check.proofs.Numbers.{starts, no_digit, too_big, ends}
use Rattle.im_cmd_check.proofs.number.read_digits.Goals as goal

pub loop-byte-init : goal.loop-byte-init
loop-byte-init c = (starts c.args.digits.now, omega arith)

pub returns-then-not-is_ascii_digit : goal.returns-then-not-is_ascii_digit
returns-then-not-is_ascii_digit c =
    sym (no_digit c.args.digits.now c.loop-byte.byte-index c.loop-byte.value c.loop-byte-test.true (search (rules, tests)) c.loop-byte.invariant.0)

pub returns-in_err-checked_mul : goal.returns-in_err-checked_mul
returns-in_err-checked_mul c =
    rw c.from_residual.ensures (sym (too_big c.args.digits.now c.loop-byte.byte-index c.loop-byte.value c.loop-byte-test.true (omega (arith, c.in_err-checked_mul.ensures)) c.loop-byte.invariant.0))

pub returns-in_err-value : goal.returns-in_err-value
returns-in_err-value c =
    rw c.from_residual-in_err-value.ensures (sym (too_big c.args.digits.now c.loop-byte.byte-index c.loop-byte.value c.loop-byte-test.true (omega (arith, c.in_err-value.ensures, c.in_ok-checked_mul.ensures, c.from.ensures)) c.loop-byte.invariant.0))

pub returns : goal.returns
returns c = sym (ends c.args.digits.now c.loop-byte.byte-index c.loop-byte.value c.loop-byte-test.false c.loop-byte.invariant.1 c.loop-byte.invariant.0)
