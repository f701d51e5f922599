use Rattle.std.proofs.Common.{◌∙◌, sym, ap}
use Rattle.std.specs.Option.{option_map}
use Rattle.im_eval_store.specs.Shown.{shown}
use Rattle.im_eval_machine.specs.Shown.{values}
use Rattle.im_eval_machine.proofs.Accessing.{take-none, take-one}
use Rattle.im_eval_machine.proofs.found.one_from.Goals as goal

pub returns-in-None : goal.returns-in-None
returns-in-None c =
    take-none (values c.args.found.now) c.args.from (sym c.get.ensures ∙ ap (option_map shown) c.in-None.is)

pub returns-in-Some : goal.returns-in-Some
returns-in-Some c =
    take-one (values c.args.found.now) c.args.from (shown c.in-Some.value) (sym c.get.ensures ∙ ap (option_map shown) c.in-Some.is)
