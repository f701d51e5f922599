use Rattle.std.proofs.Common.{◌≡◌, ◌+◌, ◌<◌, length, sym, ap, ◌∙◌, arith}
use Rattle.std.specs.Prelude.{slice_get}
use Rattle.std.proofs.lemmas.List.{length_push}
use Rattle.im_alias.specs.Sets.{set_in}
use Rattle.im_alias.proofs.Making.{copied_next}
use Rattle.im_alias.proofs.Steps.{set_there}
use Rattle.im_alias.proofs.table.RegisterSets.copy.Goals as goal

pub loop-set-preserved : goal.loop-set-preserved
loop-set-preserved c =
    let l = c.loop-set in
    let k = l.set-index in
    let xs = c.deref-set-items.result.now in
    let s = c.in_ok-copy.field-0 in
    let within : k < length xs = omega arith in
    let same : s.members.items ≡ set_in (slice_get xs k) = c.in_ok-copy.ensures ∙ sym (set_there xs k c.set-item.result within c.set-item.is) in
    let pushed = c.in_ok-push.ensures.items in
    let count = l.invariant.count in
    record {
      count = ap length pushed ∙ length_push l.sets.items s ∙ ap (λ n. n + 1) count;
      same = λ r h. ap (λ y. set_in (slice_get y r)) pushed ∙ copied_next xs l.sets.items k s count same l.invariant.same r h;
    }
