use Rattle.std.proofs.Common.{◌≡◌, ◌∙◌, ◌+◌, sym, ap, subst, arith}
use Rattle.im_store.specs.Access.{read_cell, taken}
use Rattle.im_eval_store.specs.Shown.{Checks, object_of, shown}
use Rattle.im_eval_store.proofs.Finding.{at-read}
use Rattle.im_eval_store.proofs.Storing.{read-at, read-none}
use Rattle.im_eval_store.proofs.memory.Memory.read_cell.Goals as goal

pub returns-then-has_cell : goal.returns-then-has_cell
returns-then-has_cell c = λ last store h.
    let all = c.args.self.now.activations.items in
    let p = c.args.place.object in
    let at = c.in-Some-position.at in
    let f = c.in-Some-position.ensures.found last h.ordered in
    let s = at-read all p at f.0 c.index.result.now f.1 c.index-object.result.now f.2 c.index.ensures c.index-object.ensures in
    let same : c.args.place.offset + c.args.by ≡ c.in-Some.offset = grind (arith, c.in-Some.ensures) in
    let read = ap (λ k. read_cell store (object_of p) k c.args.kind) same
    ∙ read-at last all store p at c.index.result.now c.index-object.result.now c.in-Some.offset c.args.kind h s (sym c.has_cell.ensures ∙ c.if-has_cell.true)
    ∙ ap (λ v. taken store (shown v)) (sym c.value.ensures) in
    subst (Checks c.taken.result) (sym read) (c.taken.ensures last store h)

pub returns-else-has_cell : goal.returns-else-has_cell
returns-else-has_cell c = λ last store h.
    let all = c.args.self.now.activations.items in
    let p = c.args.place.object in
    let at = c.in-Some-position.at in
    let f = c.in-Some-position.ensures.found last h.ordered in
    let s = at-read all p at f.0 c.index.result.now f.1 c.index-object.result.now f.2 c.index.ensures c.index-object.ensures in
    let same : c.args.place.offset + c.args.by ≡ c.in-Some.offset = grind (arith, c.in-Some.ensures) in
    ap (λ k. read_cell store (object_of p) k c.args.kind) same
    ∙ read-none last all store p at c.index.result.now c.index-object.result.now c.in-Some.offset c.args.kind h s (sym c.has_cell.ensures ∙ c.if-has_cell.false)
