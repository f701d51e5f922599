use Rattle.std.proofs.Common.{subst, sym, ◌∙◌}
use Rattle.std.specs.List.{Contains}
use Rattle.im_parse_core.specs.Names.{names_of}
use Rattle.im_parse_core.proofs.KnownNames.{found, in_set}
use Rattle.im_parse_core.proofs.typedef_names.TypedefNames.contains.Goals as goal

pub returns : goal.returns
returns c =
    let names = names_of c.self.inside.declared.items in
    let n = c.args.name.now in (
      λ so. subst (λ xs. Contains xs n) c.self.view_is (found c.self.inside.known.keys names n c.self.invariant (sym c.contains.ensures ∙ so)),
      λ has. c.contains.ensures ∙ in_set c.self.inside.known.keys names n c.self.invariant (subst (λ xs. Contains xs n) (sym c.self.view_is) has),
    )
