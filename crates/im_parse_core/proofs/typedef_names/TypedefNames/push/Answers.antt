use Rattle.std.proofs.Common.{◌≡◌, ◌∷◌, ap, subst, sym, ◌∙◌}
use Rattle.im_parse_core.specs.Names.{names_of, HasNames}
use Rattle.im_parse_core.proofs.KnownNames.{name_pushed, has_one_more}
use Rattle.im_parse_core.proofs.typedef_names.TypedefNames.push.Goals as goal

pub invariant_of-self-in-Ok : goal.invariant_of-self-in-Ok
invariant_of-self-in-Ok c =
    let before = c.self.inside.declared.items in
    let more : names_of c.push.new.self.items ≡ c.args.name.now ∷ names_of before =
    ap names_of c.in_ok-push.ensures.items ∙ name_pushed before c.args.name in
    subst
    (λ names. HasNames c.insert.new.self.keys names)
    (sym more)
    (has_one_more c.self.inside.known.keys c.insert.new.self.keys (names_of before) c.args.name c.in-Ok.ensures.updates.0 c.self.invariant)
