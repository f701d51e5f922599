use Rattle.std.proofs.Common.{rules, ◌≡◌, None, if◌then◌else◌, ap, sym, ◌∙◌}
use Rattle.im_rules.specs.TypeTests.{same_name}
use Rattle.im_check_name_map.specs.Numbers.{number_of}
use Rattle.im_check_name_map.proofs.Numbers.{in_maybe, number-told, number-inserted}
use Rattle.im_check_name_map.proofs.map.NameMap.set.Goals as goal

pub returns-in_err-insert-clause-absent : goal.returns-in_err-insert-clause-absent
returns-in_err-insert-clause-absent c =
    let absent : number_of c.args.self.now c.args.name.items ≡ None =
    sym (ap (λ es. number_of es c.args.name.items) c.self.view_is) ∙ number-told c.self.inside.numbers.entries c.args.name.items ∙ ap in_maybe c.in_err-insert.ensures.absent in
    search (rules, absent)

pub returns-clause-set : goal.returns-clause-set
returns-clause-set c = λ x.
    number-inserted c.self.inside.numbers c.insert.new.self c.args.name c.args.number c.in_ok-insert.ensures.updates x
    ∙ ap (λ es. if same_name c.args.name.items x then c.args.number else number_of es x) c.self.view_is
