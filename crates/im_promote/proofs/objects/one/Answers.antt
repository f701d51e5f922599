use Rattle.std.proofs.Common.{◌+◌, ap, ◌∙◌, arith}
use Rattle.std.specs.Prelude.{◌==◌}
use Rattle.im_promote.proofs.Bits.{among}
use Rattle.im_promote.proofs.objects.one.Goals as goal

pub returns-then-bit-lt32 : goal.returns-then-bit-lt32
returns-then-bit-lt32 c j lt =
    let few = c.if-bit-lt32.true in
    let le = c.if-number-base.false in
    among c.args.base j c.from-number.result (omega arith) (omega arith) ∙ ap (λ z. c.args.base + j == z) c.from-number.ensures
