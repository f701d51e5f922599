use Rattle.std.proofs.Common.{refl}
use Rattle.im_check_file_functions.proofs.objects.local.Goals as goal

pub returns : goal.returns
returns c = λ types rest. rw (c.in_ok-name.ensures, c.in_ok-ty.ensures) refl
