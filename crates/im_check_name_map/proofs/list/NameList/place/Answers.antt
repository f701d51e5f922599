use Rattle.std.proofs.Common.{ap, sym, ◌∙◌, length}
use Rattle.std.proofs.lemmas.List.{length-map}
use Rattle.im_rules.specs.Outline.{place_in}
use Rattle.im_check_name_map.specs.Lists.{names_of}
use Rattle.im_check_name_map.proofs.Places.{or_length, place-told}
use Rattle.im_check_name_map.proofs.list.NameList.place.Goals as goal

pub returns-in-Some : goal.returns-in-Some
returns-in-Some c =
    let names = names_of c.self.inside.names.items in
    ap (λ r. or_length r (length names)) (c.in-Some.ensures ∙ c.self.invariant c.args.name.now) ∙ sym (place-told names c.args.name.now) ∙ ap (place_in c.args.name.now) c.self.view_is

pub returns-in-None : goal.returns-in-None
returns-in-None c =
    let names = names_of c.self.inside.names.items in
    c.len.ensures
    ∙ c.self.inside.names.ok.0
    ∙ sym (length-map c.self.inside.names.items (λ x. x.items))
    ∙ ap (λ r. or_length r (length names)) (c.in-None.ensures ∙ c.self.invariant c.args.name.now)
    ∙ sym (place-told names c.args.name.now)
    ∙ ap (place_in c.args.name.now) c.self.view_is
