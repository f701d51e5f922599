use Rattle.std.proofs.Common.{◌≡◌, ◌∙◌, ◌-◌, ◌<◌, ◌≤◌, length, refl, ap, rules}
use Rattle.std.specs.Prelude.{Some}
use Rattle.std.proofs.lemmas.Option.{slice_get_read}
use Rattle.im_eval_store.specs.Living.{live_in, activation_at}
use Rattle.im_eval_store.specs.Shown.{object_of}
use Rattle.im_eval_store.proofs.Finding.{found-number}
use Rattle.im_eval_store.proofs.Searches.{wrong-depth, before-first, past-last, within-some}
use Rattle.im_eval_store.proofs.memory.Memory.position.Goals.{then-activation-object-via-then-activation-object, then-activation-object-via-else-activation-object+then-object-activation}
use Rattle.im_eval_store.proofs.memory.Memory.position.Goals as goal

pub returns-then-activation-object-clause-found : goal.returns-then-activation-object-clause-found
returns-then-activation-object-clause-found c = λ last h.
    let all = c.args.self.now.activations.items in
    let a = c.index-activation.result.now in
    let got = slice_get_read all (length all) c.in_ok-level.level a refl c.in_ok-level.ensures.within c.index-activation.ensures in
    let at : activation_at all c.args.object.activation ≡ Some a = c.in_ok-level.ensures.found last h ∙ got in
    ap (λ r. live_in r (object_of c.args.object)) at
    ∙ elim c.then-activation-object.branch [
      | then-activation-object-via-then-activation-object w ↦ wrong-depth a c.args.object w.if-activation-object.true
      | then-activation-object-via-else-activation-object+then-object-activation w ↦ before-first a c.args.object w.if-object-activation.true
    ]

pub returns-then-index-len-clause-found : goal.returns-then-index-len-clause-found
returns-then-index-len-clause-found c = λ last h.
    let all = c.args.self.now.activations.items in
    let a = c.index-activation.result.now in
    let got = slice_get_read all (length all) c.in_ok-level.level a refl c.in_ok-level.ensures.within c.index-activation.ensures in
    let at : activation_at all c.args.object.activation ≡ Some a = c.in_ok-level.ensures.found last h ∙ got in
    let past : length a.objects.items ≤ c.args.object.number - a.first = search rules in
    ap (λ r. live_in r (object_of c.args.object)) at ∙ past-last a c.args.object past

pub returns-clause-found : goal.returns-clause-found
returns-clause-found c = λ last h.
    let all = c.args.self.now.activations.items in
    let a = c.index-activation.result.now in
    let got = slice_get_read all (length all) c.in_ok-level.level a refl c.in_ok-level.ensures.within c.index-activation.ensures in
    let at : activation_at all c.args.object.activation ≡ Some a = c.in_ok-level.ensures.found last h ∙ got in
    let inside : c.args.object.number - a.first < length a.objects.items = search rules in
    let x = within-some a.objects.items (c.args.object.number - a.first) inside in (
      a,
      x.0,
      record {
        activation = got;
        number = found-number all c.args.object.activation a at;
        depth = c.if-activation-object.false;
        first = c.if-object-activation.false;
        object = x.1;
        index = refl;
      },
    )

pub returns-clause-within : goal.returns-clause-within
returns-clause-within c =
    let all = c.args.self.now.activations.items in
    let a = c.index-activation.result.now in
    let inside : c.args.object.number - a.first < length a.objects.items = search rules in
    (a, slice_get_read all (length all) c.in_ok-level.level a refl c.in_ok-level.ensures.within c.index-activation.ensures, inside)
