use Rattle.im_types.proofs.table.+type_from.Given as goal

abbrev pub decreases-type_from : goal.decreases-type_from
decreases-type_from l = l.ty.0
