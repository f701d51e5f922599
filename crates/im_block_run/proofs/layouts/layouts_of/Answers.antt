use Rattle.std.proofs.Common.{List, map, subst}
use Rattle.im_block.specs.declared.unit.Function.{Function}
use Rattle.im_block.specs.declared.unit.Static.{Static}
use Rattle.im_block.specs.Meaning.{static_of}
use Rattle.im_eval_machine.specs.Settings.{ArePlans, static_shapes}
use Rattle.im_block_run.specs.Laid.{AreLayouts}
use Rattle.im_block_run.proofs.layouts.layouts_of.Goals as goal

pub returns : goal.returns
returns c = record {
  statics = subst (λ (ss : List Static). ArePlans (static_shapes (map static_of ss)) c.in_ok-statics.statics.items) c.deref.ensures.value c.in_ok-statics.ensures;
  functions = subst (λ (fs : List Function). AreLayouts fs c.in_ok-functions.functions.items) c.deref-2.ensures.value c.in_ok-functions.ensures;
}
