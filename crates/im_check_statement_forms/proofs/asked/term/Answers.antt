use Rattle.im_check_locals.specs.im_rules.Strings.{strings_in}
use Rattle.im_check_locals.specs.im_ctree_parts.Lists.{expression_in}
use Rattle.im_check_statement_forms.proofs.Behind.{read_past}
use Rattle.im_check_statement_forms.proofs.asked.term.Goals as goal

pub returns : goal.returns
returns c =
    (c.in_ok-x.ensures.0, read_past c.args.body.now c.expression.new.place c.append_expression.new.texts (strings_in (expression_in c.args.e.now)) c.in_ok-x.ensures.1 c.in_ok-append_expression.ensures, c.in_ok-x.ensures.2)
