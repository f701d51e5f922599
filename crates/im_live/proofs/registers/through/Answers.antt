use Rattle.std.proofs.Common.{ℕ, ap, ◌∙◌}
use Rattle.std.specs.Prelude.{◌==◌, ◌||◌, ◌&&◌, not, bit_or, bit_and}
use Rattle.std.specs.Int.{w32, bit_not}
use Rattle.im_live.specs.Words.{has}
use Rattle.im_live.proofs.Bits.{has_or, has_kept, parts}
use Rattle.im_live.proofs.registers.through.Goals as goal

pub returns : goal.returns
returns c r lt =
    let kept : ℕ = bit_and c.args.word (bit_not w32 c.args.written) in
    let small = c.ranges.written in
    has_or (bit_or kept c.args.used) c.stack_if-stack.result r
    ∙ ap (λ z. z || has c.stack_if-stack.result r) (has_or kept c.args.used r)
    ∙ ap (λ z. (has kept r || has c.args.used r) || z) (c.stack_if-stack.ensures r lt)
    ∙ ap (λ z. (z || has c.args.used r) || (c.args.by_stack && r == 2)) (has_kept c.args.word c.args.written r small.fits lt)
    ∙ parts (not (has c.args.written r) && has c.args.word r) (has c.args.used r) (c.args.by_stack && r == 2)
