use Rattle.std.proofs.Common.{None, sym, arith}
use Rattle.std.proofs.lemmas.Str.Pattern.{strip_prefix_char}
use Rattle.im_trial.proofs.Cases.{no_blank}
use Rattle.im_trial.proofs.case.without_blank.Goals as goal

pub returns-in-None : goal.returns-in-None
returns-in-None c = sym (no_blank c.args.text.now (strip_prefix_char 32 c.args.text.now None c.in-None.ensures.cases (omega arith)))
