use Rattle.std.proofs.Common.{◌∙◌, ◌++◌, ◌∷◌, [], List, map, length, refl, sym, ap, subst}
use Rattle.std.specs.Prelude.{slice_get}
use Rattle.im_store.specs.Objects.{Shape, shape_of}
use Rattle.im_store.specs.Statics.{StaticObject, first_value, with_statics}
use Rattle.im_typed.specs.ProgramOf.{program_of, static_of}
use Rattle.im_typed.specs.declared.program.Static.{Static}
use Rattle.im_eval_store.specs.declared.memory.Activation.{Activation}
use Rattle.im_eval_store.specs.declared.plan.Plan.{Plan}
use Rattle.im_eval_store.specs.Living.{IsHeld}
use Rattle.im_eval_machine.specs.Fresh.{AreFresh}
use Rattle.im_eval_machine.specs.Settings.{ArePlans, static_shapes}
use Rattle.im_eval_machine.specs.Small.{small_static}
use Rattle.im_eval_machine.proofs.Beginning.{statics-held, small-shapes}
use Rattle.im_eval_machine.proofs.Entering.{as-many}
use Rattle.im_eval_machine.proofs.Rows.{length-mapped}
use Rattle.im_eval_machine.proofs.start.machine_of.Goals as goal

pub statics_of-requires-clause-count : goal.statics_of-requires-clause-count
statics_of-requires-clause-count c =
    let code = c.args.code in
    let types = code.prog.now.types in
    let rows = code.prog.now.statics.items in
    ap (λ (ps : List Plan). length ps) c.deref.ensures.value
    ∙ as-many (static_shapes (program_of code.prog.now).statics) code.layouts.now.statics.items c.requires.laid_out.statics
    ∙ length-mapped (λ (s : StaticObject). shape_of s.size s.cells) (map (static_of types) rows)
    ∙ length-mapped (static_of types) rows
    ∙ sym (ap (λ (ss : List Static). length ss) c.deref-2.ensures.value)

pub returns : goal.returns
returns c =
    let code = c.args.code in
    let types = code.prog.now.types in
    let statics = map small_static (program_of code.prog.now).statics in
    let plans = code.layouts.now.statics.items in
    let objects = c.in_ok-objects.objects in
    let are = subst (λ (shapes : List Shape). ArePlans shapes plans) (sym (small-shapes (program_of code.prog.now).statics)) c.requires.laid_out.statics in
    let fresh =
    subst (λ (ps : List Plan). AreFresh ps (λ k. first_value (slice_get statics k)) objects.items) c.deref.ensures.value
    (subst (λ (ss : List Static). AreFresh c.deref.result.now (λ k. first_value (slice_get (map small_static (map (static_of types) ss)) k)) objects.items) c.deref-2.ensures.value c.in_ok-objects.ensures) in
    let first : Activation = record { number = 0; depth = 0; first = 0; objects = objects } in
    let alone = c.in_ok-push.ensures.items ∙ ap (λ (xs : List Activation). xs ++ first ∷ []) c.new-activations.ensures.items in
    record {
      held = subst (λ (xs : List Activation). IsHeld xs 0 (with_statics statics)) (sym alone) (statics-held statics plans objects.items are fresh objects refl);
      activations = refl;
      depth = refl;
      input = refl;
      output = sym c.new.ensures.items;
      fuel = refl;
    }
