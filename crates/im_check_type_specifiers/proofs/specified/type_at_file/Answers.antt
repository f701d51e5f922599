use Rattle.std.proofs.Common.{ap, ◌∙◌}
use Rattle.im_check_scopes.specs.im_rules.Declared as d
use Rattle.im_check_scopes.specs.im_rules.Declared.{Qualified}
use Rattle.im_ctree_parts.specs.Lists.{list_from}
use Rattle.im_check_type_specifiers.specs.Specified.{qualified_of}
use Rattle.im_check_type_specifiers.proofs.specified.type_at_file.Goals as goal

pub returns : goal.returns
returns c = λ k.
    let p = c.in_ok-base.ensures k in
    let e = ap (λ b. d.with_const b (qualified_of c.in_ok-base.base)) c.has_const.ensures in
    let f = ap (λ (q : Qualified). d.with_const (d.has_const (list_from c.args.specifiers.now)) q) p.1 in
    (p.0, c.with_const.ensures ∙ e ∙ f)
