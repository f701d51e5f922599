use Rattle.std.proofs.Common.{ap, sym, ◌∙◌, is_some}
use Rattle.im_rules.specs.Outline.{is_in}
use Rattle.im_check_name_map.specs.Lists.{names_of}
use Rattle.im_check_name_map.proofs.Places.{in-told}
use Rattle.im_check_name_map.proofs.list.NameList.contains.Goals as goal

pub returns : goal.returns
returns c =
    c.is_some.ensures
    ∙ ap is_some (c.number.ensures ∙ c.self.invariant c.args.name.now)
    ∙ sym (in-told (names_of c.self.inside.names.items) c.args.name.now)
    ∙ ap (is_in c.args.name.now) c.self.view_is
