use Rattle.std.proofs.Common.{◌≡◌, ◌∙◌, ℕ, ℤ, List, ap, map, subst}
use mir.Syntax.{w128}
use Rattle.std.proofs.lemmas.Int.{to_z-of_z}
use Rattle.im_num.specs.declared.values.Var.{Var}
use Rattle.im_num.specs.Variables.{Variable, variable_of}
use Rattle.im_store.specs.Objects.{Store}
use Rattle.im_store.specs.Outcomes.{End, variables}
use Rattle.im_typed.specs.declared.program.Static.{Static}
use Rattle.im_typed.specs.ProgramOf.{static_of}
use Rattle.im_eval_store.specs.Living.{Holds}
use Rattle.im_eval_machine.specs.Endings.{AreLive, reason_number}
use Rattle.im_eval.proofs.ended.end_of.Goals as goal

pub returns : goal.returns
returns c =
    let types = c.args.code.prog.now.types in
    let bytes = c.args.machine.output.items in
    let reason = reason_number c.args.reason in
    let vars = c.in_ok-variables.variables.items in
    let told =
    subst (λ (ss : List Static). (last : ℕ) (store : Store) → Holds c.args.machine.memory last store → AreLive (map (static_of types) ss) store → map {A = Var} variable_of vars ≡ variables (map (static_of types) ss) store)
    c.deref.ensures.value c.in_ok-variables.ensures in
    λ last store h live.
    ap (λ (z : ℤ). End reason z bytes (map {A = Var} variable_of vars)) (to_z-of_z w128 c.args.status c.ranges.status)
    ∙ ap (λ (vs : List Variable). End reason c.args.status bytes vs) (told last store h live)
