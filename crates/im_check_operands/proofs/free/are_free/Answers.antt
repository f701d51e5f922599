use Rattle.std.proofs.Common.{◌≡◌, ◌+◌, true, false, ◌&&◌, sym, ap, ◌∙◌, rules}
use Rattle.im_ctype.specs.Table.{types_of}
use Rattle.im_check_operands.proofs.Frees.{free_from, free-next, none-next}
use Rattle.im_check_operands.proofs.free.are_free.Goals as goal

pub loop-member-preserved : goal.loop-member-preserved
loop-member-preserved c =
    let free = c.args.free.now in
    let types = types_of c.args.table.now in
    let ms = c.args.members.now in
    let i = c.loop-member.member-index in
    let b = c.is_member_free.result in
    let holds : b ≡ true = search rules in
    c.loop-member.invariant
    ∙ free-next free types ms i c.member-item.result c.loop-member-test.true c.member-item.is b c.is_member_free.ensures
    ∙ ap (λ x. x && free_from free types ms (i + 1)) holds

pub returns-then-not-is_member_free : goal.returns-then-not-is_member_free
returns-then-not-is_member_free c =
    let free = c.args.free.now in
    let types = types_of c.args.table.now in
    let ms = c.args.members.now in
    let i = c.loop-member.member-index in
    let b = c.is_member_free.result in
    let fails : b ≡ false = search rules in
    sym (c.loop-member.invariant
    ∙ free-next free types ms i c.member-item.result c.loop-member-test.true c.member-item.is b c.is_member_free.ensures
    ∙ ap (λ x. x && free_from free types ms (i + 1)) fails)

pub returns : goal.returns
returns c =
    sym (c.loop-member.invariant ∙ none-next c.args.free.now (types_of c.args.table.now) c.args.members.now c.loop-member.member-index c.loop-member-test.false)
