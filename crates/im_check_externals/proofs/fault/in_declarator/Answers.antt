use Rattle.im_check_externals.proofs.Faults.{met_in_declarator}
use Rattle.im_check_externals.proofs.fault.in_declarator.Goals as goal

pub returns : goal.returns
returns c = met_in_declarator c.args.d.now _ c.args.stop _ c.name_of.ensures c.met_in.ensures
