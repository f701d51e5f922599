use Rattle.std.proofs.Common.{◌∙◌, refl, sym, ap, get_or, None}
use Rattle.im_store.specs.Objects.{same_object}
use Rattle.im_eval_store.specs.Changes.{with_values, cleared, kind_in}
use Rattle.im_eval_store.specs.Shown.{object_of}
use Rattle.im_eval_store.proofs.Finding.{at-read, if-false}
use Rattle.im_eval_store.proofs.Revised.{revised}
use Rattle.im_eval_store.proofs.Storing.{revalued, unheld}
use Rattle.im_eval_store.proofs.memory.Memory.clear.Goals as goal

pub returns-in-None : goal.returns-in-None
returns-in-None c = λ last store h.
    let p = object_of c.args.object in
    unheld last c.args.self.now.activations.items store p (λ i. cleared c.args.given.now (kind_in (store.shape p) i) (store.values p i) i) h (c.in-None.ensures.found last h.ordered)

pub returns-in-Some : goal.returns-in-Some
returns-in-Some c = λ last store h.
    let all = c.args.self.now.activations.items in
    let p = c.args.object in
    let q = object_of p in
    let at = c.in-Some.at in
    let f = c.in-Some.ensures.found last h.ordered in
    let a = c.index_mut.result.now in
    let x = c.index_mut-in-Some.result.now in
    let y = c.clear.new.self in
    let given = c.args.given.now in
    let s = at-read all p at f.0 a f.1 x f.2 c.index_mut.ensures.value c.index_mut-in-Some.ensures.value in
    revised last all p at a _ x y h.ordered s (record { number = refl; depth = refl; first = refl; objects = refl }) store
    (with_values q (λ i. cleared given (kind_in (store.shape q) i) (store.values q i) i) store) h (λ r. refl)
    (λ r d i. if-false (same_object r q) (cleared given (kind_in (store.shape q) i) (store.values q i) i) (store.values r i) d)
    (λ shape e was.
    revalued x y q c.clear.ensures.plan shape store.values was (λ i. cleared given (kind_in (store.shape q) i) (store.values q i) i)
    (λ i kind t.
    ap (λ r. cleared given (kind_in r i) (store.values q i) i) e
    ∙ ap (λ k. cleared given k (store.values q i) i) (was.cells i)
    ∙ ap (λ v. cleared given (get_or x.plan.now.kinds.items i None) v i) (was.have i kind t)
    ∙ sym (c.clear.ensures.values i)))
