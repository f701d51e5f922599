use Rattle.std.proofs.Common.{◌-◌, refl, sym, ◌∙◌, arith}
use Rattle.im_select.specs.Emitted.{shift_of}
use Rattle.im_select.proofs.Shifting.{shift_hit, shift_miss}
use Rattle.im_select.proofs.computing.shift_of.Goals as goal

pub loop-bits-init : goal.loop-bits-init
unfolding shift_of
loop-bits-init c = refl

pub loop-bits-preserved : goal.loop-bits-preserved
loop-bits-preserved c =
    let test = c.loop-bits-test.true in
    let top = c.loop-bits.auto.bits in
    sym (shift_miss c.args.size (c.loop-bits.bits - 1) (omega arith) (omega arith) c.if-size-bits.false) ∙ c.loop-bits.invariant

pub returns-then-size-bits-clause-value : goal.returns-then-size-bits-clause-value
returns-then-size-bits-clause-value c =
    let test = c.loop-bits-test.true in
    let top = c.loop-bits.auto.bits in
    sym (shift_hit c.args.size (c.loop-bits.bits - 1) (omega arith) (omega arith) c.if-size-bits.true) ∙ c.loop-bits.invariant
