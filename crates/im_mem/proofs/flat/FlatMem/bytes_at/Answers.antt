use Rattle.std.proofs.Common.{◌≡◌, ◌∙◌, ◌+◌, ◌-◌, length, arith}
use Rattle.im_mem.proofs.Views.{take-drop}
use Rattle.im_mem.proofs.flat.FlatMem.bytes_at.Goals as goal

pub returns : goal.returns
returns c =
    let same : c.deref.result.now ≡ c.args.self.now = c.deref.ensures.value ∙ c.self.view_is in
    let whole : length c.self.inside.bytes.items ≡ 5242880 = c.self.invariant in
    let size : length c.args.self.now ≡ 5242880 = rw (← c.self.view_is) whole in
    let count : c.args.at + c.args.count - c.args.at ≡ c.args.count = omega arith in
    rw (count, same) (take-drop c.args.self.now c.args.at c.args.count (omega arith))
