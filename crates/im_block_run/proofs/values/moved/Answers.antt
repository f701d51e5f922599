use Rattle.std.proofs.Common.{◌∙◌, sym, ap, subst, ℤ}
use Rattle.im_store.specs.Checks.{Checked, then_}
use Rattle.im_store.specs.Objects as o
use Rattle.im_store.specs.Pointers.{bytes_moved, moved_by}
use Rattle.im_eval_store.specs.Shown.{Checks, shown}
use Rattle.im_block_run.specs.Shown.{plain}
use Rattle.im_block_run.proofs.Plain.{moved-plain}
use Rattle.im_block_run.proofs.values.moved.Goals as goal

pub returns : goal.returns
returns c = λ last store h.
    let pointer = c.args.pointer in
    let by : ℤ → ℤ = bytes_moved c.args.size c.args.back in
    let same =
    ap (λ (x : Checked ℤ). then_ x (λ z. moved_by store (by z) (shown pointer))) c.in_ok-number.ensures
    ∙ sym (moved-plain store (by c.in_ok-number.number.value) pointer) in
    subst (λ (r : Checked o.Value). Checks c.moved.result r) (sym same) (c.moved.ensures last (plain store) h)
