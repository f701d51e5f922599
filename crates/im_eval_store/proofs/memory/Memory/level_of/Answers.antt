use Rattle.std.proofs.Common.{◌≡◌, ◌∙◌, ◌<◌, length, refl, sym, ap, subst, rules, slice_index_or}
use Rattle.std.specs.Prelude.{Some, slice_get}
use Rattle.std.proofs.lemmas.Bool.{eq-eqb}
use Rattle.std.proofs.lemmas.Option.{slice_get_read}
use Rattle.im_eval_store.proofs.Finding.{found-of}
use Rattle.im_eval_store.proofs.Searches.{stopped}
use Rattle.im_eval_store.proofs.memory.Memory.level_of.Goals as goal

pub returns-then-activation-number-clause-found : goal.returns-then-activation-number-clause-found
returns-then-activation-number-clause-found c = λ last h.
    let all = c.args.self.now.activations.items in
    let a = c.in-Some.activation.now in
    let inside : c.args.level < length all = subst (λ xs. c.args.level < length xs) c.deref.ensures.value c.in-Some.ensures.lookup.3.0 in
    let same : a ≡ slice_index_or all c.args.level a = c.in-Some.ensures.lookup.1 ∙ ap (λ xs. slice_index_or xs c.args.level a) c.deref.ensures.value in
    let got : slice_get all c.args.level ≡ Some a = slice_get_read all (length all) c.args.level a refl inside same in
    found-of last all c.args.level c.args.number a h got c.if-activation-number.true ∙ sym got

pub returns-then-activation-number-clause-within : goal.returns-then-activation-number-clause-within
returns-then-activation-number-clause-within c =
    subst (λ xs. c.args.level < length xs) c.deref.ensures.value c.in-Some.ensures.lookup.3.0

pub returns-then-index-number-clause-found : goal.returns-then-index-number-clause-found
returns-then-index-number-clause-found c = λ last h.
    let all = c.args.self.now.activations.items in
    let inside : c.search.at < length all = search rules in
    sym c.search.invariant.1 ∙ stopped all c.search.at c.args.number c.index.result.now inside c.index.ensures (eq-eqb c.index.result.now.number c.args.number c.if-index-number.true)
