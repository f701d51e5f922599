use Rattle.std.proofs.Common.{◌≡◌, ℕ, ◌+◌, ◌-◌, ◌*◌, ◌%◌, ◌^◌, ap, ◌∙◌, arith}
use Rattle.im_live.specs.Words.{has}
use Rattle.im_live.proofs.Bits.{shifted, shifts_grow, has_run}
use Rattle.im_live.proofs.registers.run.Goals as goal

pub returns : goal.returns
returns c r lt =
    let hi : ℕ = c.args.first + c.args.count in
    let a : 1 * 2 ^ hi % 2 ^ 32 ≡ 2 ^ hi = shifted hi c.requires in
    let b : 1 * 2 ^ c.args.first % 2 ^ 32 ≡ 2 ^ c.args.first = shifted c.args.first (let l = c.requires in omega arith) in
    ap (λ z. has (z - 1 * 2 ^ c.args.first % 2 ^ 32) r) a ∙ ap (λ z. has (2 ^ hi - z) r) b ∙ has_run c.args.first hi r

pub overflow_sub-result : goal.overflow_sub-result
overflow_sub-result c = shifts_grow c.args.first c.args.count c.requires
