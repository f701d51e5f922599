use Rattle.std.proofs.Common.{ap, sym, ◌∙◌}
use Rattle.im_check_name_map.specs.Numbers.{number_of}
use Rattle.im_check_name_map.proofs.Numbers.{in_maybe, number-told}
use Rattle.im_check_name_map.proofs.map.NameMap.number.Goals as goal

pub returns-in-Some : goal.returns-in-Some
returns-in-Some c =
    ap in_maybe c.in-Some.ensures.value ∙ sym (number-told c.self.inside.numbers.entries c.args.name.now) ∙ ap (λ es. number_of es c.args.name.now) c.self.view_is

pub returns-in-None : goal.returns-in-None
returns-in-None c =
    ap in_maybe c.in-None.ensures.value ∙ sym (number-told c.self.inside.numbers.entries c.args.name.now) ∙ ap (λ es. number_of es c.args.name.now) c.self.view_is
