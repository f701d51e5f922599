use Rattle.std.proofs.Common.{◌<◌, ◌∙◌, List, ap, map, length, arith}
use Rattle.im_num.specs.declared.values.Var.{Var}
use Rattle.im_num.specs.Variables.{variable_of}
use Rattle.im_typed.specs.ProgramOf.{static_of}
use Rattle.im_eval.proofs.Showing.{mapped-at, shown-one}
use Rattle.im_eval.proofs.variables.variables.Goals as goal

pub loop-number-preserved : goal.loop-number-preserved
loop-number-preserved c =
    let l = c.loop-number in
    let types = c.args.types.now in
    let statics = c.args.statics.now in
    let x = c.index-statics-number.result in
    let at = c.index-statics-number.is in
    let within : l.number < length statics = omega arith in
    λ last store h live.
    let there = live l.number (static_of types x) (mapped-at (static_of types) statics l.number x within at) in
    ap (λ (vs : List Var). map {A = Var} variable_of vs) c.in_ok-push.ensures.items
    ∙ shown-one (static_of types) statics l.number x l.shown.items c.in_ok-variable.field-0 store within at (l.invariant last store h live) (c.in_ok-variable.ensures last store h there)
