use Rattle.std.proofs.Common.{List, sym, ap, ◌∙◌}
use Rattle.im_ctype.specs.declared.member.Member as rust
use Rattle.im_ctype.specs.Table.{members_in, types_of}
use Rattle.im_ctype.specs.Types.{Member}
use Rattle.im_ctype.proofs.Steps.{plain-members}
use Rattle.im_check_constancy.specs.im_rules.Rules as u
use Rattle.im_check_operands.proofs.free.is_struct_free.Goals as goal

pub returns : goal.returns
returns c =
    let free = c.args.free.now in
    let t = c.args.table.now in
    c.are_free.ensures
    ∙ ap (λ (ms : List rust.Member). u.members_free free (members_in (types_of t) ms)) c.members-members.ensures.members
    ∙ ap (λ (ms : List Member). u.members_free free ms) (sym (plain-members t c.args.number))
