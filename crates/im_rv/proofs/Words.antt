-- Words and their code numbers.
use Rattle.std.proofs.Common.{◌≡◌, ℕ, ◌/◌, ◌%◌, cond, false, Some, sym, ap, ◌∙◌, arith}
use Rattle.std.specs.Prelude.{◌==◌}
use Rattle.im_rv.specs.declared.instr.Op.TheVariants.{Ebreak}
use Rattle.im_rv.specs.Decode.{bits, op_of, op_in}

pub coded : (w : ℕ) → (w == 0x00100073) ≡ false → op_of (w % 128) (w / 4096 % 8) (w / 33554432 % 128) ≡ op_in w
coded w h =
    let e : w % 128 ≡ bits w 0 7 = omega arith in
    ap (λ o. op_of o (w / 4096 % 8) (w / 33554432 % 128)) e
    ∙ sym (ap (λ b. cond b (Some Ebreak) (op_of (bits w 0 7) (bits w 12 3) (bits w 25 7))) h)
