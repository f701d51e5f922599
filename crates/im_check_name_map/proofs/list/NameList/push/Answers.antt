use Rattle.std.proofs.Common.{◌≡◌, [], ◌∷◌, ◌++◌, true, None, Some, is_some, if◌then◌else◌, length, ap, sym, subst, ◌∙◌}
use Rattle.std.proofs.lemmas.List.{map_push, length-map}
use Rattle.im_rules.specs.TypeTests.{same_name}
use Rattle.im_check_name_map.specs.Numbers.{number_of}
use Rattle.im_check_name_map.specs.Lists.{names_of, all_tags, HasPlaces}
use Rattle.im_check_name_map.proofs.Places.{names-again, names-pushed, none-told}
use Rattle.im_check_name_map.proofs.list.NameList.push.Goals as goal

pub invariant_of-self-then-is_some : goal.invariant_of-self-then-is_some
invariant_of-self-then-is_some c =
    let names = names_of c.self.inside.names.items in
    let more : names_of c.push.new.self.items ≡ names ++ c.args.name.now ∷ [] =
    ap names_of c.in_ok-push.ensures.items ∙ map_push (λ x. x.items) c.self.inside.names.items c.in_ok-kept.kept ∙ ap (λ y. names ++ y ∷ []) c.in_ok-kept.ensures.items in
    let there : is_some (number_of c.self.inside.places c.args.name.now) ≡ true = sym (c.is_some.ensures ∙ ap is_some c.number.ensures) ∙ c.if-is_some.true in
    subst (λ xs. HasPlaces (all_tags xs) c.self.inside.places) (sym more) (names-again names c.args.name.now c.self.inside.places c.self.invariant there)

pub invariant_of-self-in-Ok : goal.invariant_of-self-in-Ok
invariant_of-self-in-Ok c =
    let names = names_of c.self.inside.names.items in
    let more : names_of c.push-2.new.self.items ≡ names ++ c.args.name.now ∷ [] =
    ap names_of c.in_ok-push-2.ensures.items ∙ map_push (λ x. x.items) c.self.inside.names.items c.in_ok-kept.kept ∙ ap (λ y. names ++ y ∷ []) c.in_ok-kept.ensures.items in
    let absent : number_of c.self.inside.places c.args.name.now ≡ None = none-told _ (sym (c.is_some.ensures ∙ ap is_some c.number.ensures) ∙ c.if-is_some.false) in
    let place : c.len-place.result ≡ length names = c.len-place.ensures ∙ c.self.inside.names.ok.0 ∙ sym (length-map c.self.inside.names.items (λ x. x.items)) in
    let key : c.in_ok-key.key.items ≡ c.args.name.now = c.in_ok-key.ensures.items in
    subst
    (λ xs. HasPlaces (all_tags xs) c.set.new.self)
    (sym more)
    (names-pushed names c.args.name.now c.self.inside.places c.set.new.self c.self.invariant absent (λ x.
    c.in-Ok.ensures.set x ∙ (λ i. if same_name (key i) x then Some (place i) else number_of c.self.inside.places x)))
