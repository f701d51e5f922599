use Rattle.im_check_file_place.proofs.predeclared.predeclared.Goals as goal

pub returns : goal.returns
returns c =
    rw (c.in_ok-scope-7.ensures, c.in_ok-scope-6.ensures, c.in_ok-scope-5.ensures, c.in_ok-scope-4.ensures, c.in_ok-scope-3.ensures, c.in_ok-scope-2.ensures, c.in_ok-scope.ensures) at c.with_type-7.ensures
