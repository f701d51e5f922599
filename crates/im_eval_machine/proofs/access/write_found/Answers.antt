use Rattle.std.proofs.Common.{◌∙◌, sym, ap, subst}
use Rattle.std.specs.Option.{option_map}
use Rattle.im_eval_store.specs.Changes.{Stores}
use Rattle.im_eval_store.specs.Shown.{shown}
use Rattle.im_eval_machine.specs.Shown.{values}
use Rattle.im_eval_machine.proofs.Accessing.{first-write}
use Rattle.im_eval_machine.proofs.access.write_found.Goals as goal

pub returns-in-Some : goal.returns-in-Some
returns-in-Some c = λ last store h.
    rw c.in-Scalar.is
    (subst (Stores c.write_scalar.result c.write_scalar.new.memory last)
    (first-write store c.in-Scalar.kind (shown c.args.at) (shown c.in-Some.value) (values c.args.found.now) (sym (ap (option_map shown) c.in-Some.is) ∙ c.get.ensures))
    (c.write_scalar.ensures last store h))
