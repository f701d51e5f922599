use Rattle.std.proofs.Common.{◌≡◌, [], ◌∷◌, ◌++◌, None, ap, sym, subst, ◌∙◌}
use Rattle.std.proofs.lemmas.List.{map_push}
use Rattle.std.specs.Option.{option_map}
use Rattle.im_check_name_map.specs.Lists.{tags_of, HasPlaces}
use Rattle.im_check_name_map.proofs.Places.{untagged-pushed}
use Rattle.im_check_name_map.proofs.tags.TagList.push_untagged.Goals as goal

pub invariant_of-self-2 : goal.invariant_of-self-2
invariant_of-self-2 c =
    let tags = tags_of c.self.inside.tags.items in
    let more : tags_of c.push.new.self.items ≡ tags ++ None ∷ [] = ap tags_of c.in_ok-push.ensures.items ∙ map_push (option_map (λ x. x.items)) c.self.inside.tags.items None in
    subst (λ ts. HasPlaces ts c.self.inside.places) (sym more) (untagged-pushed tags c.self.inside.places c.self.invariant)
