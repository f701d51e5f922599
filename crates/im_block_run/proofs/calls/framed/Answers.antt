use Rattle.std.proofs.Common.{List, ◌∙◌, ap, sym, refl}
use Rattle.im_eval_store.specs.declared.value.Value.{Value}
use Rattle.im_block_run.specs.Shown.{have}
use Rattle.im_block_run.proofs.Passing.{passed-as}
use Rattle.im_block_run.proofs.calls.framed.Goals as goal

pub returns : goal.returns
returns c = λ s h.
    let call = c.args.call in
    let f = c.args.function.now in
    record {
      function = refl;
      rest = sym c.deref-2.ensures.value;
      exit = refl;
      active = refl;
      registers = passed-as c.deref.result.now c.in_ok-registers.registers.items f.first_parameter call.first call.count s.registers c.in_ok-registers.ensures
          (λ r. h.registers r ∙ sym (ap (λ (xs : List Value). have xs r) c.deref.ensures.value));
      to = refl;
    }
