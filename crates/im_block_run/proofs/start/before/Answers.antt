use Rattle.std.proofs.Common.{◌∙◌, ◌++◌, ◌∷◌, [], List, map, length, reverse, refl, sym, ap, subst}
use Rattle.std.specs.Prelude.{slice_get}
use Rattle.im_store.specs.Statics.{first_value, with_statics}
use Rattle.im_store.specs.Objects.{shape_of}
use Rattle.im_store.specs.Statics.{StaticObject}
use Rattle.im_block.specs.declared.unit.Static.{Static}
use Rattle.im_block.specs.Meaning.{static_of, statics_of}
use Rattle.im_eval_store.specs.declared.memory.Activation.{Activation}
use Rattle.im_eval_store.specs.declared.plan.Plan.{Plan}
use Rattle.im_eval_store.specs.Living.{IsHeld}
use Rattle.im_eval_machine.specs.Fresh.{AreFresh}
use Rattle.im_eval_machine.specs.Settings.{static_shapes}
use Rattle.im_eval_machine.proofs.Entering.{as-many}
use Rattle.im_eval_machine.proofs.Rows.{length-mapped}
use Rattle.im_block_run.specs.Shown.{AreFrames, plain, setting_of}
use Rattle.im_block_run.specs.declared.state.Frame.{Frame}
use Rattle.im_block_run.proofs.Starting.{before-main}
use Rattle.im_block_run.proofs.start.before.Goals as goal

pub statics_of-requires : goal.statics_of-requires
statics_of-requires c =
    let code = c.args.code in
    let rows = code.unit.now.statics.items in
    ap (λ (ps : List Plan). length ps) c.deref.ensures.value
    ∙ as-many (static_shapes (statics_of code.unit.now)) code.layouts.now.statics.items c.requires.statics
    ∙ length-mapped (λ (s : StaticObject). shape_of s.size s.cells) (map static_of rows)
    ∙ length-mapped static_of rows
    ∙ sym (ap (λ (ss : List Static). length ss) c.deref-2.ensures.value)

pub returns : goal.returns
returns c =
    let code = c.args.code in
    let statics = statics_of code.unit.now in
    let plans = code.layouts.now.statics.items in
    let objects = c.in_ok-objects.objects in
    let fresh =
    subst (λ (ps : List Plan). AreFresh ps (λ k. first_value (slice_get statics k)) objects.items) c.deref.ensures.value
    (subst (λ (ss : List Static). AreFresh c.deref.result.now (λ k. first_value (slice_get (map static_of ss) k)) objects.items) c.deref-2.ensures.value c.in_ok-objects.ensures) in
    let first : Activation = record { number = 0; depth = 0; first = 0; objects = objects } in
    let alone = c.in_ok-push.ensures.items ∙ ap (λ (xs : List Activation). xs ++ first ∷ []) c.new-activations.ensures.items in record {
      running = record {
        frame = c.nobody.ensures code.unit.now (setting_of code.setting) c.args.fuel;
        callers = subst (λ (fs : List Frame). AreFrames (reverse fs) []) (sym c.new.ensures.items) tt;
        input = refl;
        output = sym c.new-2.ensures.items;
        fuel = refl;
      };
      begun = refl;
      held = subst (λ (xs : List Activation). IsHeld xs 0 (plain (with_statics statics))) (sym alone) (before-main statics plans objects c.requires.statics fresh);
    }
