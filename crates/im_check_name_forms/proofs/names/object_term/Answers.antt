use Rattle.std.proofs.Common.{inl, inr, refl, sym, ◌∙◌}
use Rattle.im_types.specs.Shape.{type_of}
use Rattle.im_check_name_forms.proofs.names.object_term.Goals as goal

pub returns-then-not-is_defined : goal.returns-then-not-is_defined
returns-then-not-is_defined c =
    rw c.refused.ensures (λ es types next. (inr (inl (refl, sym (c.is_defined.ensures es types next c.args.constant (type_of c.args.ty.now)) ∙ c.if-not-is_defined.true)), refl))
