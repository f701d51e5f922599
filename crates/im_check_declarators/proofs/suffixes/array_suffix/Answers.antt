use Rattle.im_check_declarators.proofs.suffixes.array_suffix.Goals as goal

pub open_suffix-requires : goal.open_suffix-requires
open_suffix-requires c = rw c.in-None.is at c.requires

pub length_suffix-requires : goal.length_suffix-requires
length_suffix-requires c = rw c.in-Some.is at c.requires

pub returns-in-None : goal.returns-in-None
returns-in-None c = rw c.in-None.is (λ k base rest others same g h. c.open_suffix.ensures k base rest others same g h)

pub returns-in-Some : goal.returns-in-Some
returns-in-Some c = rw c.in-Some.is (λ k base rest others same g h. c.length_suffix.ensures k base _ rest others same g h)
