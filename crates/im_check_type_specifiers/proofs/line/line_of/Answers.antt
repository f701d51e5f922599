use Rattle.std.proofs.Common.{◌∙◌}
use Rattle.im_check_type_specifiers.proofs.TypeLines.{same_lines}
use Rattle.im_check_type_specifiers.proofs.line.line_of.Goals as goal

pub returns : goal.returns
returns c = λ ks h. c.line_among.ensures ∙ same_lines c.args.counts ks h
