use Rattle.std.proofs.Common.{◌≡◌, [], ◌∷◌, ◌++◌, true, None, Some, is_some, if◌then◌else◌, length, ap, sym, subst, ◌∙◌}
use Rattle.std.proofs.lemmas.List.{map_push, length-map}
use Rattle.std.specs.Option.{option_map}
use Rattle.im_rules.specs.TypeTests.{same_name}
use Rattle.im_check_name_map.specs.Numbers.{number_of}
use Rattle.im_check_name_map.specs.Lists.{tags_of, HasPlaces}
use Rattle.im_check_name_map.proofs.Places.{tags-again, tags-pushed, none-told}
use Rattle.im_check_name_map.proofs.tags.TagList.push.Goals as goal

pub invariant_of-self-then-is_some : goal.invariant_of-self-then-is_some
invariant_of-self-then-is_some c =
    let tags = tags_of c.self.inside.tags.items in
    let more : tags_of c.push.new.self.items ≡ tags ++ Some c.args.tag.now ∷ [] =
    ap tags_of c.in_ok-push.ensures.items
    ∙ map_push (option_map (λ x. x.items)) c.self.inside.tags.items (Some c.in_ok-kept.kept)
    ∙ ap (λ y. tags ++ Some y ∷ []) c.in_ok-kept.ensures.items in
    let there : is_some (number_of c.self.inside.places c.args.tag.now) ≡ true = sym (c.is_some.ensures ∙ ap is_some c.number.ensures) ∙ c.if-is_some.true in
    subst (λ ts. HasPlaces ts c.self.inside.places) (sym more) (tags-again tags c.args.tag.now c.self.inside.places c.self.invariant there)

pub invariant_of-self-in-Ok : goal.invariant_of-self-in-Ok
invariant_of-self-in-Ok c =
    let tags = tags_of c.self.inside.tags.items in
    let more : tags_of c.push-2.new.self.items ≡ tags ++ Some c.args.tag.now ∷ [] =
    ap tags_of c.in_ok-push-2.ensures.items
    ∙ map_push (option_map (λ x. x.items)) c.self.inside.tags.items (Some c.in_ok-kept.kept)
    ∙ ap (λ y. tags ++ Some y ∷ []) c.in_ok-kept.ensures.items in
    let absent : number_of c.self.inside.places c.args.tag.now ≡ None = none-told _ (sym (c.is_some.ensures ∙ ap is_some c.number.ensures) ∙ c.if-is_some.false) in
    let place : c.len-place.result ≡ length tags = c.len-place.ensures ∙ c.self.inside.tags.ok.0 ∙ sym (length-map c.self.inside.tags.items (option_map (λ x. x.items))) in
    let key : c.in_ok-key.key.items ≡ c.args.tag.now = c.in_ok-key.ensures.items in
    subst
    (λ ts. HasPlaces ts c.set.new.self)
    (sym more)
    (tags-pushed tags c.args.tag.now c.self.inside.places c.set.new.self c.self.invariant absent (λ x.
    c.in-Ok.ensures.set x ∙ (λ i. if same_name (key i) x then Some (place i) else number_of c.self.inside.places x)))
