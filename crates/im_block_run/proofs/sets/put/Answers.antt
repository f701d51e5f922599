use Rattle.std.proofs.Common.{◌∙◌, ap, sym}
use Rattle.std.specs.Int.{w128}
use Rattle.std.proofs.lemmas.Int.{to_z-of_z}
use Rattle.im_store.specs.Checks.{Fine}
use Rattle.im_store.specs.Objects as o
use Rattle.im_block_run.proofs.sets.put.Goals as goal

pub returns-in-Some : goal.returns-in-Some
returns-in-Some c = λ u s h. c.computes.ensures u (Fine (o.Number c.args.number)) s h (ap Fine (ap o.Number (sym (to_z-of_z w128 c.args.number c.ranges.number)) ∙ c.in-Some.ensures))
