use Rattle.std.proofs.Common.{List, refl, subst}
use Rattle.im_block.specs.declared.access.Access.{Access}
use Rattle.im_cut.specs.Blocks.{AddsExposed}
use Rattle.im_cut.proofs.Standing.{stands_joined}
use Rattle.im_cut.proofs.joins.join.Goals as goal

pub returns : goal.returns
returns c = λ m n h k. stands_joined c.args.tags.now c.args.into.now c.args.from.now c.join_written.new.into _ m n c.in_ok-join_written.ensures (subst (λ (l : List Access). AddsExposed c.args.tags.now l c.join_written.new.into.exposed.items c.add_exposed.new.into.items) c.deref.ensures.value c.in_ok-add_exposed.ensures) refl refl h k
