use Rattle.im_cut.proofs.Standing.{has_dropped, has_taken}
use Rattle.im_cut.proofs.marks.has_recent_alike.Goals as goal

pub returns : goal.returns
returns c = λ t. let alike = c.has_alike.ensures t in record { access = alike.access; there = has_dropped c.saturating_sub-first.result c.args.reads.now alike.access (has_taken _ _ alike.access alike.there); alike = alike.alike }
