use Rattle.std.proofs.Common.{ℕ, Bool, sym, subst}
use Rattle.std.specs.Bool.{OnTrue}
use Rattle.im_block.specs.declared.code.Line.{Line}
use Rattle.im_block.specs.declared.code.Line.TheVariants.{Copy, Convert}
use Rattle.im_forward.specs.Straight.{Gives, PassesOn, Copies, Converts}
use Rattle.im_forward.proofs.straight.passed_to.Goals as goal

pub returns-then-from-register : goal.returns-then-from-register
returns-then-from-register c =
    subst (λ (z : Line). PassesOn c.args.set c.args.register c.in-Copy.to z) (sym c.in-Copy.is)
    (subst (λ (z : ℕ). PassesOn c.args.set c.args.register c.in-Copy.to (Copy c.in-Copy.to z)) (sym c.if-from-register.true) Copies)

pub returns-then-gives : goal.returns-then-gives
returns-then-gives c =
    let same = subst (λ (t : Bool). OnTrue t (Gives c.in-Convert.kind c.args.set)) c.if-gives.true c.gives.ensures in
    subst (λ (z : Line). PassesOn c.args.set c.args.register c.in-Convert.to z) (sym c.in-Convert.is)
    (subst (λ (z : ℕ). PassesOn c.args.set c.args.register c.in-Convert.to (Convert c.in-Convert.to c.in-Convert.kind z)) (sym c.if-from-register-2.true) (Converts c.in-Convert.kind same))
