use Rattle.std.proofs.Common.{◌∷◌, [], subst}
use Rattle.im_ctype.specs.Table.{structs_of}
use Rattle.im_check_conversions.specs.im_rules.Conversions.{arrowed}
use Rattle.im_check_conversions.specs.im_rules.Demands.{arrow_asks, asks}
use Rattle.im_check_conversions.specs.im_rules.Terms as r
use Rattle.im_check_conversions.specs.im_rules.Terms.{value, value_of}
use Rattle.im_check_operands.specs.Answers.{IsMade}
use Rattle.im_check_operands.specs.Shape.{term_in}
use Rattle.im_check_members.proofs.Rule.{as-value}
use Rattle.im_check_members.proofs.members.arrowed.Goals as goal

pub returns : goal.returns
returns c =
    let t = c.args.table.now in
    let y = term_in t c.args.x in
    let x = c.args.name.now in
    let v = value_of (structs_of t) y in
    let e = subst (λ (z : r.Value). IsMade t (arrow_asks (structs_of t) (value z) x) (arrowed (structs_of t) z x) c.args.at c.pointer_member.result) c.in_ok-pointer.ensures c.pointer_member.ensures in
    subst (λ b. IsMade t (asks 21 b ∷ []) (arrowed (structs_of t) v x) c.args.at c.pointer_member.result) (as-value (structs_of t) y x) e
