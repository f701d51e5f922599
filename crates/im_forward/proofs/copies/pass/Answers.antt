use Rattle.std.proofs.Common.{OnOk, sym, subst}
use Rattle.im_block.specs.declared.code.Line.{Line}
use Rattle.im_forward.specs.Known.{Passes}
use Rattle.im_forward.proofs.copies.pass.Goals as goal

pub returns-in-Copy : goal.returns-in-Copy
returns-in-Copy c = subst (λ (z : Line). OnOk c.pass_copy.result (Passes c.args.free z c.args.copies.now.items c.pass_copy.new.copies.items)) (sym c.in-Copy.is) c.pass_copy.ensures

pub returns-in_default : goal.returns-in_default
returns-in_default c = c.pass_other.ensures c.args.free
