use Rattle.std.proofs.Common.{◌≡◌, ◌≤◌, ◌<◌, length, Some, string_bytes, true, false, sym, ap, ◌∙◌, arith}
use Rattle.std.specs.Prelude.{bytes_eq}
use Rattle.im_trial.proofs.Naming.{named_here, named_later, named_nowhere}
use Rattle.im_trial.proofs.texts.Texts.find.Goals as goal

pub returns-then-eq : goal.returns-then-eq
returns-then-eq c =
    let x = c.text-item.result in
    let within : c.loop-text.text-index < length c.deref-text-items.result.now = omega arith in
    let same : bytes_eq (string_bytes x.name) c.args.name.now ≡ true = sym (c.if-eq.ensures ∙ ap (λ bytes. bytes_eq bytes c.args.name.now) c.as_str.ensures.value) in
    c.loop-text.invariant ∙ named_here c.args.name.now c.deref-text-items.result.now c.loop-text.text-index x within c.text-item.is same ∙ ap Some (sym c.as_slice.ensures.value)

pub loop-text-preserved : goal.loop-text-preserved
loop-text-preserved c =
    let x = c.text-item.result in
    let within : c.loop-text.text-index < length c.deref-text-items.result.now = omega arith in
    let other : bytes_eq (string_bytes x.name) c.args.name.now ≡ false = sym (c.if-eq.ensures ∙ ap (λ bytes. bytes_eq bytes c.args.name.now) c.as_str.ensures.value) in
    c.loop-text.invariant ∙ named_later c.args.name.now c.deref-text-items.result.now c.loop-text.text-index x within c.text-item.is other

pub returns : goal.returns
returns c =
    let all : length c.deref-text-items.result.now ≤ c.loop-text.text-index = omega arith in
    c.loop-text.invariant ∙ named_nowhere c.args.name.now c.deref-text-items.result.now c.loop-text.text-index all
