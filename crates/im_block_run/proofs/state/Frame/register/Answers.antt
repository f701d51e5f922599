use Rattle.std.proofs.Common.{◌∙◌, List, ap, sym, get_or}
use Rattle.im_eval_store.specs.declared.value.Value.{Value}
use Rattle.im_eval_store.specs.declared.value.Value.TheVariants.{Unset}
use Rattle.im_eval_store.specs.Shown.{shown}
use Rattle.im_block_run.proofs.state.Frame.register.Goals as goal

pub returns : goal.returns
returns c = λ s h.
    h.registers c.args.register ∙ sym (ap shown (c.got.ensures ∙ ap (λ (xs : List Value). get_or xs c.args.register Unset) c.deref.ensures.value))
