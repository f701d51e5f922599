use Rattle.std.proofs.Common.{◌∙◌, sym, ap, arith}
use Rattle.std.specs.Prelude.{pos, nat_abs, ◌<ℤ◌, ◌≤ℤ◌}
use Rattle.std.proofs.lemmas.Int.{ints, to_z-of_z}
use mir.Syntax.{w128}
use Rattle.im_store.specs.Checks.{Fine}
use Rattle.im_store.specs.Objects.{Pointer}
use Rattle.im_eval_store.specs.Shown.{object_of}
use Rattle.im_eval_store.proofs.Finding.{at-read, held-some}
use Rattle.im_eval_store.proofs.Places.{outside, inside}
use Rattle.im_eval_store.proofs.memory.Memory.within.Goals as goal

pub returns-then-offset-size : goal.returns-then-offset-size
returns-then-offset-size c = λ last store h.
    let all = c.args.self.now.activations.items in
    let p = c.args.place.object in
    let at = c.in-Some.at in
    let f = c.in-Some.ensures.found last h.ordered in
    let s = at-read all p at f.0 c.index.result.now f.1 c.index-in-Some.result.now f.2 c.index.ensures c.index-in-Some.ensures in
    let it = held-some last all store p at c.index.result.now c.index-in-Some.result.now h s in
    let size = it.2.size in
    let past = c.if-offset-size.true in
    let lt : pos it.0.size <ℤ c.args.offset = omega (arith, ints) in
    outside store (object_of p) c.args.offset it.0 it.1 lt

pub returns-else-offset-size : goal.returns-else-offset-size
returns-else-offset-size c = λ last store h.
    let all = c.args.self.now.activations.items in
    let p = c.args.place.object in
    let at = c.in-Some.at in
    let f = c.in-Some.ensures.found last h.ordered in
    let s = at-read all p at f.0 c.index.result.now f.1 c.index-in-Some.result.now f.2 c.index.ensures c.index-in-Some.ensures in
    let it = held-some last all store p at c.index.result.now c.index-in-Some.result.now h s in
    let size = it.2.size in
    let within = c.if-offset-size.false in
    let low = c.if-offset-lt0.false in
    let least : pos 0 ≤ℤ c.args.offset = omega (arith, ints) in
    let most : c.args.offset ≤ℤ pos it.0.size = omega (arith, ints) in
    inside store (object_of p) c.args.offset it.0 it.1 least most
    ∙ ap (λ z. Fine (Pointer (object_of p) (nat_abs z))) (sym (to_z-of_z w128 c.args.offset c.ranges.offset))
