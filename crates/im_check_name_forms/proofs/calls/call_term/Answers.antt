use Rattle.im_check_name_forms.proofs.calls.call_term.Goals as goal

pub returns-in-Function : goal.returns-in-Function
returns-in-Function c = rw c.in-Function.is (c.typed_call.ensures c.in-Function.field-1)
