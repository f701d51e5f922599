use Rattle.im_check_name_forms.proofs.Passed.{one_fits}
use Rattle.im_check_name_forms.proofs.arguments.fits_at.Goals as goal

pub returns : goal.returns
returns c = λ types.
    one_fits types c.args.parameters.now c.args.arguments.now c.args.i c.index-parameters-i.result c.index-arguments-i.result c.fits.result c.requires.parameter c.requires.argument c.index-parameters-i.is c.index-arguments-i.is (c.fits.ensures types)
