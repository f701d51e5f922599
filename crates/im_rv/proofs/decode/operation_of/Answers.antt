use Rattle.std.proofs.Common.{◌≡◌, ◌∙◌, false, arith}
use Rattle.std.specs.Prelude.{◌==◌}
use Rattle.std.proofs.lemmas.Bool.Decides.{nat_tests}
use Rattle.im_rv.proofs.Words.{coded}
use Rattle.im_rv.proofs.decode.operation_of.Goals as goal

pub returns-else-w-eq-EBREAK : goal.returns-else-w-eq-EBREAK
returns-else-w-eq-EBREAK c =
    let h : (c.args.w == 0x00100073) ≡ false = grind (arith, nat_tests) in
    c.operation.ensures ∙ coded c.args.w h
