use Rattle.std.proofs.Common.{refl}
use Rattle.im_check_file_functions.proofs.Beginning.{begun_so}
use Rattle.im_check_file_functions.proofs.begun.begun.Goals as goal

pub returns : goal.returns
returns c =
    rw (c.replace-place.ensures.value, c.replace-texts.ensures.value)
    (begun_so {f = c.args.file.now} c.args.ty _ c.in_ok-objects.objects c.in_ok-open.ensures.grown c.in_ok-open.ensures.scopes c.in_ok-enter.ensures c.in_ok-objects.ensures refl)
