use Rattle.std.proofs.Common.{not, ◌&&◌, Bool, List, ap, ◌∙◌}
use Rattle.im_ctype.specs.Table.{structs_of}
use Rattle.im_ctype.specs.Types.{is_array}
use Rattle.im_check_constancy.specs.im_rules.Rules as u
use Rattle.im_check_operands.specs.Shape.{seen}
use Rattle.im_check_operands.proofs.rules.is_changeable.Goals as goal

pub returns : goal.returns
returns c =
    let t = c.args.table.now in
    let o = seen c.operand_of.result in
    c.is_open.ensures
    ∙ ap (λ (fs : List Bool). not o.constant && (not (is_array o.type) && u.free_in fs o.type)) c.requires
    ∙ ap (λ (y : u.Operand). u.rule_23 (structs_of t) y) (c.operand_of.ensures t)
