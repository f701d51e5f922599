use Rattle.std.proofs.Common.{sym, ◌∙◌}
use Rattle.im_types.specs.Shape.{type_of}
use Rattle.im_check_type_specifiers.specs.Specified.{at_place}
use Rattle.im_check_declarators.specs.Shape.{declared_of}
use Rattle.im_check_declarators.proofs.Named.{asked_done}
use Rattle.im_check_declarators.proofs.parameters.asked.Goals as goal

pub returns-clause-asked : goal.returns-clause-asked
returns-clause-asked c = λ k lists number.
    let y = c.args.declared.now in
    asked_done (at_place k c.args.scope.now lists) number (declared_of y) c.args.at c.name_asked.result (sym c.is_sized.ensures ∙ c.if-not-is_sized.false) (c.name_asked.ensures.asked y.constant (type_of y.ty) number)
