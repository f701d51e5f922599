use Rattle.std.proofs.Common.{ap, ◌∙◌}
use Rattle.std.specs.Option.{option_map}
use Rattle.im_typed.specs.ProgramOf.{first_of}
use Rattle.im_check_items.specs.im_rules.StaticValues.{value_or, zero_of}
use Rattle.im_check_static_values.proofs.firsts.value_of.Goals as goal

pub returns-in-None : goal.returns-in-None
returns-in-None c = λ types.
    c.zero_of.ensures types ∙ ap (λ o. value_or (zero_of c.args.cell.kind) (option_map (first_of types) o)) c.in-None.ensures.value
