use Rattle.std.proofs.Common.{◌∙◌, ℕ, ℤ, List, ap, map, sym}
use mir.Syntax.{w128}
use Rattle.std.proofs.lemmas.Int.{to_z-of_z}
use Rattle.im_num.specs.declared.values.Var.{Var}
use Rattle.im_num.specs.Variables.{Variable, variable_of}
use Rattle.im_store.specs.Outcomes.{End, variables}
use Rattle.im_block.specs.declared.unit.Static.{Static}
use Rattle.im_block.specs.Meaning.{static_of, statics_of}
use Rattle.im_eval_machine.specs.Endings.{reason_number}
use Rattle.im_block_run.proofs.finish.end_of.Goals as goal

pub returns-in-Ok : goal.returns-in-Ok
returns-in-Ok c = λ s h.
    let a = c.args.state in
    let bytes = a.output.items in
    let reason = reason_number c.args.reason in
    let vars = c.in-Ok.variables.items in
    let told = c.in-Ok.ensures a.begun s.store h.held ∙ ap (λ (ss : List Static). variables (map static_of ss) s.store) c.deref.ensures.value in
    ap (λ (z : ℤ). End reason z bytes (map {A = Var} variable_of vars)) (to_z-of_z w128 c.args.status c.ranges.status)
    ∙ ap (λ (vs : List Variable). End reason c.args.status bytes vs) told
    ∙ ap (λ (out : List ℕ). End reason c.args.status out (variables (statics_of c.args.unit.now) s.store)) (sym h.running.output)
