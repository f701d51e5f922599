-- What stands in parts of trees.
use Rattle.std.proofs.Common.{◌≡◌, ◌++◌, refl, ap, ◌∙◌}
use Rattle.im_ctree.specs.declared.specifier.Member as mb
use Rattle.im_ctree.specs.declared.declarator.Declarator as dc
use Rattle.im_ctree.specs.Tree as t
use Rattle.im_ctree.specs.Shape.{declarator_of, core_of}
use Rattle.im_check_name_map.specs.im_rules.Outline as o
use Rattle.im_ctree_parts.specs.Lists.{specifiers_in, with_member, stars_in, suffixes_from}
use Rattle.im_ctree_parts.proofs.Shapes.{member_shape, declarator_shape}

-- the member lists in a declaration of members are those in its specifiers
pub member_lists : (m : mb.Member) (rest : t.Members) → o.lists_of_members (with_member m rest) ≡ o.lists_specified (specifiers_in (mb.out-Member m).specifiers) ++ o.lists_of_members rest
member_lists m rest = ap o.lists_of_members (member_shape m rest)

pub name_shape : (d : dc.Declarator) → o.name_of (declarator_of d) ≡ o.core_name (core_of (dc.out-Declarator d).core)
name_shape d = ap o.name_of (declarator_shape d)

pub nearest_shape : (d : dc.Declarator) → o.nearest (declarator_of d) ≡ o.inner_or (o.nearest_in (core_of (dc.out-Declarator d).core)) (o.suffix_or (suffixes_from (dc.out-Declarator d).suffixes.items) (o.star_or_bare (stars_in (dc.out-Declarator d).stars.items)))
nearest_shape d = ap o.nearest (declarator_shape d)
