use Rattle.std.proofs.Common.{◌≡◌, ◌+◌, ap, sym, ◌∙◌, arith}
use Rattle.std.specs.Prelude.{◌==◌, ◌||◌, ◌&&◌, nat_le, nat_lt}
use Rattle.im_block_live.specs.Words.{has}
use Rattle.im_block_live.proofs.Bits.{has_zero, has_or, run_none, run_more}
use Rattle.im_block_live.proofs.registers.run.Goals as goal

pub loop-i-init : goal.loop-i-init
loop-i-init c j lt = has_zero j ∙ sym (run_none c.args.first (c.args.base + j))

pub loop-i-preserved : goal.loop-i-preserved
loop-i-preserved c j lt =
    let l = c.loop-i in
    let n = c.args.base + j in
    let at : c.from.result + c.from-in-loop-i.result ≡ c.args.first + l.i = omega (arith, c.from.ensures, c.from-in-loop-i.ensures) in
    has_or l.word c.one-word.result j
    ∙ ap (λ z. z || has c.one-word.result j) (l.invariant j lt)
    ∙ ap (λ z. (nat_le c.args.first n && nat_lt n (c.args.first + l.i)) || z) (c.one-word.ensures j lt ∙ ap (λ z. n == z) at)
    ∙ run_more c.args.first n l.i
