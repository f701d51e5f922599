-- The shapes that Rust values stand for, and what is answered of one.
use Rattle.std.specs.Prelude.{◌≡◌, Result, MatchResult}
use Rattle.im_ctree.specs.Tree as t
use Rattle.im_ctype.specs.Types.{CType, Structs}
use Rattle.im_check_stop.specs.im_rules.BodyBreaks.{initialiser_token}
use Rattle.im_check_stop.specs.im_rules.Demands.{Meets}
use Rattle.im_check_stop.specs.im_rules.Initialisers as n
use Rattle.im_ctree_parts.specs.Lists.{expression_in, initializers_from}
use Rattle.im_types.specs.Shape.{type_of}
use Rattle.im_check_stop.specs.Answers.{IsRefusal}
use Rattle.im_check_stop.specs.declared.stop.Stop.{Stop}
use Rattle.im_check_shapes.specs.declared.shape.Shape.{Shape}
use Rattle.im_check_shapes.specs.declared.shape.Shape.TheVariants.{One, Bytes, Elements, Members, Misshapen}

abbrev pub shape_in : Shape → n.Shape
shape_in (One e) = n.one (expression_in e.now)
shape_in (Bytes ty s) = n.bytes (type_of ty.now) s.now
shape_in (Elements ty is) = n.elements (type_of ty.now) (initializers_from is.now)
shape_in (Members k is) = n.members k (initializers_from is.now)
shape_in Misshapen = n.misshapen

-- the shape where the rule on shapes has nothing against it, and else that rule
abbrev pub IsShaped : Structs → CType → t.Initializer → Result Shape Stop → Type 0
IsShaped known a i result =
    MatchResult result (λ s. Meets (n.shape_asks known a i) × (shape_in s ≡ n.shape a i)) (IsRefusal (n.shape_asks known a i) (initialiser_token i))
