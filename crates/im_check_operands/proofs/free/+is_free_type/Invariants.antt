use Rattle.im_check_operands.proofs.free.+is_free_type.Given as goal

abbrev pub decreases-is_free_type : goal.decreases-is_free_type
decreases-is_free_type l = l.ty.0
