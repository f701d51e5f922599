use Rattle.std.proofs.Common.{refl, sym, ap}
use Rattle.im_store.specs.Objects.{Unset, same_object}
use Rattle.im_eval_store.specs.Changes.{with_values}
use Rattle.im_eval_store.specs.Shown.{object_of, shown}
use Rattle.im_eval_store.proofs.Finding.{at-read, if-false}
use Rattle.im_eval_store.proofs.Revised.{revised}
use Rattle.im_eval_store.proofs.Storing.{revalued}
use Rattle.im_eval_store.proofs.memory.Memory.forget.Goals as goal

pub returns-in-Some : goal.returns-in-Some
returns-in-Some c = λ last store h.
    let all = c.args.self.now.activations.items in
    let p = c.args.object in
    let at = c.in-Some.at in
    let f = c.in-Some.ensures.found last h.ordered in
    let a = c.index_mut.result.now in
    let x = c.index_mut-in-Some.result.now in
    let y = c.forget.new.self in
    let s = at-read all p at f.0 a f.1 x f.2 c.index_mut.ensures.value c.index_mut-in-Some.ensures.value in
    revised last all p at a _ x y h.ordered s (record { number = refl; depth = refl; first = refl; objects = refl }) store (with_values (object_of p) (λ i. Unset) store) h (λ q. refl)
    (λ q d i. if-false (same_object q (object_of p)) Unset (store.values q i) d)
    (λ shape e was. revalued x y (object_of p) c.forget.ensures.plan shape store.values was (λ i. Unset) (λ i kind t. sym (ap shown (c.forget.ensures.values i))))
