use Rattle.std.proofs.Common.{◌≡◌, ◌∙◌, sym, ap}
use Rattle.std.specs.Prelude.{Some, None, Option}
use Rattle.im_store.specs.Objects.{Shape, static}
use Rattle.im_eval_store.specs.Shown.{shown}
use Rattle.im_eval_store.proofs.Finding.{at-read, held-some, held-none}
use Rattle.im_eval_store.specs.declared.value.ObjectName.{ObjectName}
use Rattle.im_eval.proofs.variables.static_value.Goals as goal

some-same : {X : Type 0} (a b : X) → Some a ≡ Some b → a ≡ b
some-same a b e = cc

not-none : {X : Type 0} {P : Type 0} (r : Option X) (a : X) → r ≡ None → r ≡ Some a → P
not-none r a n s = absurd (let both : None ≡ Some a = sym n ∙ s in cc)

pub returns-in-None : goal.returns-in-None
returns-in-None c = λ last store shape kind h there stands.
    not-none (store.shape (static c.args.number)) shape (held-none last c.args.memory.now.activations.items store (static c.args.number) h (c.in-None.ensures.found last h.ordered)) there

pub returns-in-Some : goal.returns-in-Some
returns-in-Some c = λ last store shape kind h there stands.
    let all = c.args.memory.now.activations.items in
    let p : ObjectName = record { activation = 0; depth = 0; number = c.args.number } in
    let at = c.in-Some.at in
    let f = c.in-Some.ensures.found last h.ordered in
    let a = c.index.result.now in
    let x = c.index-in-Some.result.now in
    let s = at-read all p at f.0 a f.1 x f.2 c.index.ensures c.index-in-Some.ensures in
    let it = held-some last all store p at a x h s in
    let same = some-same it.0 shape (sym it.1 ∙ there) in
    ap shown c.value.ensures ∙ sym (it.2.have c.args.offset kind (ap (λ (t : Shape). t.cells c.args.offset) same ∙ stands))
