use Rattle.std.proofs.Common.{ap}
use Rattle.im_check_place.specs.declared.place.Place.{Place}
use Rattle.im_check_file_functions.proofs.read.own_formals.Goals as goal

pub returns : goal.returns
returns c = (c.in_ok-formals.ensures.0, ap (λ (z : Place). record z { next_string = c.args.place.now.next_string }) c.in_ok-formals.ensures.1)
