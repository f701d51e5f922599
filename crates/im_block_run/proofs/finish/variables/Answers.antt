use Rattle.std.proofs.Common.{◌<◌, ◌∙◌, List, ap, map, length, arith}
use Rattle.im_num.specs.declared.values.Var.{Var}
use Rattle.im_num.specs.Variables.{variable_of}
use Rattle.im_block.specs.Meaning.{static_of}
use Rattle.im_block_run.proofs.Showing.{shown-one}
use Rattle.im_block_run.proofs.finish.variables.Goals as goal

pub loop-number-preserved : goal.loop-number-preserved
loop-number-preserved c =
    let l = c.loop-number in
    let statics = c.args.statics.now in
    let x = c.index-statics-number.result in
    let within : l.number < length statics = omega arith in
    λ last store h.
    ap (λ (vs : List Var). map {A = Var} variable_of vs) c.in_ok-push.ensures.items
    ∙ shown-one static_of statics l.number x l.shown.items c.in_ok-variable.field-0 store within c.index-statics-number.is (l.invariant last store h) (c.in_ok-variable.ensures last store h)
