use Rattle.std.proofs.Common.{◌≡◌, ◌∙◌, length, refl, sym, subst}
use Rattle.std.specs.Prelude.{Some, slice_get}
use Rattle.std.proofs.lemmas.Option.{slice_get_read}
use Rattle.im_store.specs.Objects.{ends}
use Rattle.im_eval_store.specs.Living.{IsHeld}
use Rattle.im_eval_store.proofs.Finding.{found-number}
use Rattle.im_eval_store.proofs.Lifetimes.{removed, unended}
use Rattle.im_eval_store.proofs.memory.Memory.end.Goals as goal

pub returns-in-None : goal.returns-in-None
returns-in-None c = λ last store h.
    unended c.args.self.now.activations.items c.args.number last store h (c.in-None.ensures.found last h.ordered)

pub returns-in-Some : goal.returns-in-Some
returns-in-Some c = λ last store h.
    let all = c.args.self.now.activations.items in
    let a = c.remove.result in
    let got : slice_get all c.in-Some.at ≡ Some a = slice_get_read all (length all) c.in-Some.at a refl c.in-Some.ensures.within c.remove.ensures.value in
    let number = found-number all c.args.number a (c.in-Some.ensures.found last h.ordered ∙ got) in
    subst (λ k. IsHeld c.remove.new.self.items last (ends store k)) number
    (subst (λ xs. IsHeld xs last (ends store a.number)) (sym c.remove.ensures.items) (removed all c.in-Some.at a last store h got))
