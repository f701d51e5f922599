use Rattle.im_check_counts.proofs.heads.in_external.Goals as goal

pub returns-in-Declaration : goal.returns-in-Declaration
returns-in-Declaration c = rw c.in-Declaration.is (rw c.deref.ensures.value at c.in_declarators.ensures)

pub returns-in-Function : goal.returns-in-Function
returns-in-Function c = rw c.in-Function.is c.in_declarator.ensures
