use Rattle.std.proofs.Common.{◌+◌, ◌==◌, ◌∙◌, ap, get_or}
use Rattle.std.specs.Prelude.{if◌then◌else◌}
use Rattle.im_eval_store.specs.declared.value.Value.TheVariants.{Unset}
use Rattle.im_block_run.proofs.Passing.{passed-more}
use Rattle.im_block_run.proofs.registers.passed.Goals as goal

pub loop-number-preserved : goal.loop-number-preserved
loop-number-preserved c = λ r.
    let l = c.loop-number in
    passed-more c.args.registers.now c.args.to c.args.first l.number r (get_or l.new.items r Unset) (get_or c.put.new.registers.items r Unset) (l.invariant r)
    (c.in_ok-put.ensures r ∙ ap (λ v. if r == c.args.to + l.number then v else get_or l.new.items r Unset) c.got.ensures)
