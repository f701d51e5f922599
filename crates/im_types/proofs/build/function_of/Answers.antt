use Rattle.std.proofs.Common.{ap, ◌∙◌}
use Rattle.im_ctype.specs.Types.{function}
use Rattle.im_types.specs.Shape.{type_of, types_in}
use Rattle.im_types.proofs.Rows.{function-of}
use Rattle.im_types.proofs.build.function_of.Goals as goal

pub returns : goal.returns
returns c =
    function-of c.in_ok-part.field-0 c.args.parameters
    ∙ ap (λ t. function (type_of t) (types_in c.args.parameters.items)) c.in_ok-part.ensures
