use Rattle.std.proofs.Common.{sym, subst}
use Rattle.im_store.specs.Checks.{Checked}
use Rattle.im_store.specs.Objects as o
use Rattle.im_eval_store.specs.Shown.{Checks, shown}
use Rattle.im_block_run.specs.Shown.{plain}
use Rattle.im_block_run.proofs.Accessing.{further-none, further-some}
use Rattle.im_block_run.proofs.places.further.Goals as goal

pub returns-then-offset-eq0 : goal.returns-then-offset-eq0
returns-then-offset-eq0 c = λ last store h. further-none store c.args.offset (shown c.args.value) c.if-offset-eq0.true

pub returns-else-offset-eq0 : goal.returns-else-offset-eq0
returns-else-offset-eq0 c = λ last store h.
    subst (λ (r : Checked o.Value). Checks c.member.result r) (sym (further-some store c.args.offset c.args.value c.if-offset-eq0.false)) (c.member.ensures last (plain store) h)
