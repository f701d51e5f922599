use Rattle.std.proofs.Common.{◌≡◌, ◌≤◌, ◌+◌, length, refl, sym, ap, ◌∙◌, arith}
use Rattle.std.proofs.lemmas.Result.{err_from_is_err_and}
use Rattle.im_ctree.specs.Shape.{initializer_of}
use Rattle.im_ctree_parts.specs.Lists.{expression_in, initializers_from}
use Rattle.im_ctype.specs.Table.{structs_of}
use Rattle.im_ctype.specs.Types.{members_of}
use Rattle.im_types.specs.Shape.{type_of}
use Rattle.im_check_expressions.specs.im_rules.Rules.{initializer_count}
use Rattle.im_check_shapes.proofs.Alone.{count}
use Rattle.im_check_shapes.proofs.Falls.{size_of, sizes_of}
use Rattle.im_check_shapes.specs.Shape.{shape_in}
use Rattle.im_check_texts.proofs.Places.{fits_in}
use Rattle.im_check_expression_parts.proofs.Arguments.{next, last}
use Rattle.im_check_initialisers.specs.Forms.{listed}
use Rattle.im_check_initialisers.proofs.Forms.{listed_below, few_of}
use Rattle.im_check_initialisers.proofs.Put.{misshapen_fault, bytes_put, elements_done, members_done}
use Rattle.im_check_initialisers.proofs.Reached.{structs_kept, none_put, element_more, element_fault, elements_all, member_more, member_fault, members_all}
use Rattle.im_check_initialisers.proofs.walk.+walk.Goals as goal

pub elements-loop-i-init : goal.elements-loop-i-init
elements-loop-i-init t c = none_put c.args.place.now c.args.items.now.items

pub elements-initialised-requires : goal.elements-initialised-requires
elements-initialised-requires t c =
    let h = fits_in c.args.written.now c.loop-i.i-index c.i-item.result c.loop-i-test.true c.i-item.is in
    omega (arith, h)

pub elements-returns-in_err-initialised : goal.elements-returns-in_err-initialised
elements-returns-in_err-initialised t c =
    let p = err_from_is_err_and c.from_residual-in_err-initialised.result c.from_residual-in_err-initialised.ensures.1 in
    let from = next c.args.written.now c.loop-i.i-index c.i-item.result c.loop-i-test.true c.i-item.is in
    rw (p.1, p.2) (element_fault c.loop-i.i-index c.args.written.now _ from c.loop-i.invariant c.in_err-initialised.ensures)

pub elements-loop-i-preserved : goal.elements-loop-i-preserved
elements-loop-i-preserved t c =
    let from = next c.args.written.now c.loop-i.i-index c.i-item.result c.loop-i-test.true c.i-item.is in
    element_more c.loop-i.i-index c.args.written.now from (rw c.table.ensures at c.in_ok-each.ensures) c.in_ok-offset.ensures c.loop-i.invariant c.in_ok-initialised.ensures

pub elements-returns : goal.elements-returns
elements-returns t c =
    elements_all c.loop-i.i-index c.args.written.now (last c.args.written.now c.loop-i.i-index c.loop-i-test.false) c.loop-i.invariant

pub initialised-returns-in_err-shaped : goal.initialised-returns-in_err-shaped
initialised-returns-in_err-shaped t c =
    let p = err_from_is_err_and c.from_residual.result c.from_residual.ensures.1 in
    rw (p.1, p.2) (misshapen_fault c.args.place.now (type_of c.args.ty.now) c.args.at (initializer_of c.args.i.now) c.table.result.now _ c.table.ensures c.in_err-shaped.ensures.shaped)

pub initialised-value-requires : goal.initialised-value-requires
initialised-value-requires t c = (expression_in c.in-One.field-0.now, sym c.in_ok-shaped.ensures.shaped.1 ∙ ap shape_in c.in-One.is)

pub initialised-elements-requires : goal.initialised-elements-requires
initialised-elements-requires t c =
    let h = listed_below (initializer_of c.args.i.now) in
    let e : sizes_of (initializers_from c.items_of.result.now) ≡ sizes_of (listed (initializer_of c.args.i.now)) = ap sizes_of c.items_of.ensures in
    omega (arith, h, e)

pub initialised-members-requires : goal.initialised-members-requires
initialised-members-requires t c =
    let h = listed_below (initializer_of c.args.i.now) in
    let xs = c.items_of-in-Members.result.now in
    let i = initializer_of c.args.i.now in
    let e : sizes_of (initializers_from xs) ≡ sizes_of (listed i) = ap sizes_of c.items_of-in-Members.ensures in
    let many : initializer_count (initializers_from xs) ≡ initializer_count (listed i) = ap initializer_count c.items_of-in-Members.ensures in
    let few = few_of (structs_of c.table.result.now) (type_of c.args.ty.now) i _ c.in_ok-shaped.ensures.shaped.0 (sym (ap shape_in c.in-Members.is) ∙ c.in_ok-shaped.ensures.shaped.1) in
    let all : length xs ≤ length (members_of (structs_of c.table.result.now) c.in-Members.number) = omega (arith, count xs, many, few) in
    (omega (arith, h, e), rw c.table.ensures at all)

pub initialised-returns-in_ok-push_bytes-in-Bytes : goal.initialised-returns-in_ok-push_bytes-in-Bytes
initialised-returns-in_ok-push_bytes-in-Bytes t c =
    bytes_put c.args.place.now c.table.result.now c.table.ensures c.in_ok-shaped.ensures.shaped.0 (sym (ap shape_in c.in-Bytes.is) ∙ c.in_ok-shaped.ensures.shaped.1) c.in_ok-push_bytes-in-Bytes.ensures

pub initialised-returns-in-Elements : goal.initialised-returns-in-Elements
initialised-returns-in-Elements t c =
    elements_done c.args.place.now c.elements.new.place (type_of c.args.ty.now) c.args.at (initializer_of c.args.i.now) (initializers_from c.items_of.result.now) c.args.items.now.items c.elements.new.items.items c.table.result.now c.elements.result c.table.ensures c.in_ok-shaped.ensures.shaped.0 (sym (ap shape_in c.in-Elements.is) ∙ c.in_ok-shaped.ensures.shaped.1) c.items_of.ensures c.elements.ensures

pub initialised-returns-in-Members : goal.initialised-returns-in-Members
initialised-returns-in-Members t c =
    members_done c.args.place.now c.members.new.place (type_of c.args.ty.now) c.args.at (initializer_of c.args.i.now) (initializers_from c.items_of-in-Members.result.now) c.args.items.now.items c.members.new.items.items c.table.result.now c.members.result c.table.ensures c.in_ok-shaped.ensures.shaped.0 (sym (ap shape_in c.in-Members.is) ∙ c.in_ok-shaped.ensures.shaped.1) c.items_of-in-Members.ensures c.members.ensures

pub members-loop-i-init : goal.members-loop-i-init
members-loop-i-init t c = (refl, none_put c.args.place.now c.args.items.now.items)

pub members-member_at-requires : goal.members-member_at-requires
members-member_at-requires t c =
    let same : c.table.result.now ≡ c.args.place.now.structs = c.table.ensures ∙ structs_kept c.loop-i.invariant.1 in
    rw same (omega (arith, c.loop-i.invariant.0, c.loop-i-test.true, c.requires))

pub members-initialised-requires : goal.members-initialised-requires
members-initialised-requires t c =
    let h = fits_in c.args.written.now c.loop-i.i-index c.i-item.result c.loop-i-test.true c.i-item.is in
    omega (arith, h)

pub members-returns-in_err-initialised : goal.members-returns-in_err-initialised
members-returns-in_err-initialised t c =
    let p = err_from_is_err_and c.from_residual-in_err-initialised.result c.from_residual-in_err-initialised.ensures.1 in
    let from = next c.args.written.now c.loop-i.i-index c.i-item.result c.loop-i-test.true c.i-item.is in
    rw (p.1, p.2) (member_fault c.args.written.now _ from c.table.ensures c.loop-i.invariant.0 c.in_ok-member.ensures c.in_ok-offset.ensures c.loop-i.invariant.1 c.in_err-initialised.ensures)

pub members-loop-i-preserved : goal.members-loop-i-preserved
members-loop-i-preserved t c =
    let from = next c.args.written.now c.loop-i.i-index c.i-item.result c.loop-i-test.true c.i-item.is in
    (ap (λ k. k + 1) c.loop-i.invariant.0, member_more c.args.written.now from c.table.ensures c.loop-i.invariant.0 c.in_ok-member.ensures c.in_ok-offset.ensures c.loop-i.invariant.1 c.in_ok-initialised.ensures)

pub members-returns : goal.members-returns
members-returns t c =
    members_all c.args.number c.loop-i.i-index c.args.written.now (last c.args.written.now c.loop-i.i-index c.loop-i-test.false) c.loop-i.invariant.1
