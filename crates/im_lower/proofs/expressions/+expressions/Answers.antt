use Rattle.std.proofs.Common.{◌≡◌, ◌+◌, IfOk, MatchOption, OnOk, length, refl, rules, arith, ap, sym, ◌∙◌, subst}
use Rattle.im_ctype.specs.Layout.{layouts, layout_at}
use Rattle.im_ctype.specs.Table.{structs_of}
use Rattle.im_typed.specs.declared.expression.Expr.{Expr, size-Expr}
use Rattle.im_typed.specs.declared.expression.Place.{Place}
use Rattle.im_typed.specs.ProgramOf.{expr_of, place_of, program_of}
use Rattle.im_lower_relation.specs.Codes.{in_groups}
use Rattle.im_lower_plain.specs.Made.{Made, close}
use Rattle.im_lower_plain.specs.Make.{behind, groups_in, fails_made, holds_made, make, make_place, make_test, place_at, put_operator}
use Rattle.im_lower.proofs.Makes.{address_left, and_made, below_more, choice_made, comma_left, converted_left, copy_made, increment_made, moved_left, operator_made, or_made, pointer_left, read_left, struct_made, two_made, update_made, value_decides}
use Rattle.im_lower.proofs.Rows.{call_made}
use Rattle.im_lower.proofs.expressions.+expressions.Goals as goal

pub lower_form-returns-in_ok-put-in-Call : goal.lower_form-returns-in_ok-put-in-Call
lower_form-returns-in_ok-put-in-Call t c =
    let g = program_of c.args.prog.now in
    let types = c.args.prog.now.types in
    let same = ap (λ (e : Expr). make g c.args.first (expr_of types e) c.args.to c.args.free c.args.code.now) c.in-Call.is in
    let counted = call_made g c.args.first types c.in-Call.function c.in-Call.arguments c.args.to c.args.free c.args.code.now in
    search (rules, same, counted)

pub lower_form-returns-in_ok-put_increment-in-Increment : goal.lower_form-returns-in_ok-put_increment-in-Increment
lower_form-returns-in_ok-put_increment-in-Increment t c =
    let g = program_of c.args.prog.now in
    let types = c.args.prog.now.types in
    let w = c.in-Increment in
    let m = c.args.code.now in
    let put = c.put_increment.new.code in
    let at = c.in_ok-at-in-Increment.ensures types ∙ ap (λ (x : Place). place_at c.args.first (place_of types x) c.args.free) c.deref-in-Increment.ensures in
    let beside = c.in_ok-behind-in-Increment.ensures types ∙ ap (λ (x : Place). behind (place_of types x) c.args.free) c.deref-in-Increment-2.ensures in
    let made = increment_made g c.args.first (place_of types w.place.value) w.change w.old c.args.to c.args.free c.in_ok-behind-in-Increment.field-0 c.in_ok-at-in-Increment.at m put at beside c.in_ok-put_increment-in-Increment.ensures in
    let walked = ap (λ (x : Place). make_place g c.args.first (place_of types x) c.args.free put) c.deref-in-Increment-3.ensures in
    let whole = ap (λ (e : Expr). make g c.args.first (expr_of types e) c.args.to c.args.free m) w.is in
    subst (λ (z : Made). OnOk c.lower_place-in-Increment.result (c.lower_place-in-Increment.new.code ≡ z)) (walked ∙ made ∙ sym whole) c.lower_place-in-Increment.ensures

pub lower_form-returns-in_ok-holds-in-Choose : goal.lower_form-returns-in_ok-holds-in-Choose
lower_form-returns-in_ok-holds-in-Choose t c =
    let g = program_of c.args.prog.now in
    let types = c.args.prog.now.types in
    let w = c.in-Choose in
    let m = c.args.code.now in
    let m₁ = c.close-in-Choose.new.self in
    let m₂ = c.lower_expression-in-Choose.new.code in
    let m₃ = c.close-in-Choose-2.new.self in
    let m₄ = c.start.new.self in
    let m₅ = c.lower_expression-in-Choose-2.new.code in
    let m₆ = c.close-in-Choose-3.new.self in
    let fails = c.in_ok-fails-in-Choose.fails in
    let holds = c.in_ok-holds-in-Choose.holds in
    let other = c.in_ok-lower_expression-in-Choose.ensures ∙ ap (λ (x : Expr). make g c.args.first (expr_of types x) c.args.to c.args.free m₁) c.deref-in-Choose.ensures in
    let one = c.in_ok-lower_expression-in-Choose-2.ensures ∙ ap (λ (x : Expr). make g c.args.first (expr_of types x) c.args.to c.args.free m₄) c.deref-in-Choose-2.ensures in
    let made = choice_made g c.args.first (expr_of types w.test.value) (expr_of types w.one.value) (expr_of types w.other.value) c.args.to c.args.free c.in_ok-join-in-Choose.join fails holds m m₁ m₂ m₃ m₄ m₅ m₆ c.in_ok-join-in-Choose.ensures.number c.in_ok-join-in-Choose.ensures.closed other c.in_ok-fails-in-Choose.ensures.number c.in_ok-fails-in-Choose.ensures.closed c.in_ok-start-in-Choose.ensures one c.in_ok-holds-in-Choose.ensures.number c.in_ok-holds-in-Choose.ensures.closed in
    let tested = ap (λ (x : Expr). make_test g c.args.first (expr_of types x) c.args.free holds fails m₆) c.deref-in-Choose-3.ensures in
    let whole = ap (λ (e : Expr). make g c.args.first (expr_of types e) c.args.to c.args.free m) w.is in
    subst (λ (z : Made). OnOk c.lower_test-in-Choose.result (c.lower_test-in-Choose.new.code ≡ z)) (tested ∙ made ∙ sym whole) c.lower_test-in-Choose.ensures

pub lower_form-returns-in_ok-holds-in-And : goal.lower_form-returns-in_ok-holds-in-And
lower_form-returns-in_ok-holds-in-And t c =
    let g = program_of c.args.prog.now in
    let types = c.args.prog.now.types in
    let w = c.in-And in
    let m = c.args.code.now in
    let m₁ = c.put_truths.new.code in
    let m₂ = c.lower_test.new.code in
    let m₃ = c.close.new.self in
    let given = c.in_ok-truths-in-And in
    let truths = given.truths in
    let k = c.in_ok-holds-in-And.holds in
    let right = c.in_ok-lower_test-in-And.ensures ∙ ap (λ (x : Expr). make_test g c.args.first (expr_of types x) c.args.free truths.holds truths.fails m₁) c.deref-in-And.ensures in
    let made = and_made g c.args.first (expr_of types w.left.value) (expr_of types w.right.value) c.args.free (length (holds_made c.args.to m).blocks) (length (fails_made c.args.to m).blocks) truths.holds truths.fails k (close (holds_made c.args.to m)) m₁ m₂ m₃ given.ensures.holds given.ensures.fails given.ensures.made right c.in_ok-holds-in-And.ensures.number c.in_ok-holds-in-And.ensures.closed in
    let tested = ap (λ (x : Expr). make_test g c.args.first (expr_of types x) c.args.free k truths.fails m₃) c.deref-in-And-2.ensures in
    let whole = ap (λ (e : Expr). make g c.args.first (expr_of types e) c.args.to c.args.free m) w.is in
    subst (λ (z : Made). OnOk c.lower_test-in-And.result (c.lower_test-in-And.new.code ≡ z)) (tested ∙ made ∙ sym whole) c.lower_test-in-And.ensures

pub lower_form-returns-in_ok-fails-in-Or : goal.lower_form-returns-in_ok-fails-in-Or
lower_form-returns-in_ok-fails-in-Or t c =
    let g = program_of c.args.prog.now in
    let types = c.args.prog.now.types in
    let w = c.in-Or in
    let m = c.args.code.now in
    let m₁ = c.put_truths-in-Or.new.code in
    let m₂ = c.lower_test-in-Or.new.code in
    let m₃ = c.close-in-Or.new.self in
    let given = c.in_ok-truths-in-Or in
    let truths = given.truths in
    let k = c.in_ok-fails-in-Or.fails in
    let right = c.in_ok-lower_test-in-Or.ensures ∙ ap (λ (x : Expr). make_test g c.args.first (expr_of types x) c.args.free truths.holds truths.fails m₁) c.deref-in-Or.ensures in
    let made = or_made g c.args.first (expr_of types w.left.value) (expr_of types w.right.value) c.args.free (length (holds_made c.args.to m).blocks) (length (fails_made c.args.to m).blocks) truths.holds truths.fails k (close (holds_made c.args.to m)) m₁ m₂ m₃ given.ensures.holds given.ensures.fails given.ensures.made right c.in_ok-fails-in-Or.ensures.number c.in_ok-fails-in-Or.ensures.closed in
    let tested = ap (λ (x : Expr). make_test g c.args.first (expr_of types x) c.args.free truths.holds k m₃) c.deref-in-Or-2.ensures in
    let whole = ap (λ (e : Expr). make g c.args.first (expr_of types e) c.args.to c.args.free m) w.is in
    subst (λ (z : Made). OnOk c.lower_test-in-Or-2.result (c.lower_test-in-Or-2.new.code ≡ z)) (tested ∙ made ∙ sym whole) c.lower_test-in-Or-2.ensures

pub lower_test-returns-in_ok-holds-in-And : goal.lower_test-returns-in_ok-holds-in-And
lower_test-returns-in_ok-holds-in-And t c =
    let g = program_of c.args.prog.now in
    let types = c.args.prog.now.types in
    let w = c.in-And in
    let m = c.args.code.now in
    let targets = c.args.targets in
    let m₁ = c.lower_test-in-And.new.code in
    let m₂ = c.close.new.self in
    let k = c.in_ok-holds-in-And.holds in
    let right = c.in_ok-lower_test-in-And.ensures ∙ ap (λ (x : Expr). make_test g c.args.first (expr_of types x) c.args.free targets.holds targets.fails m) c.deref-in-And.ensures in
    let made = and_made g c.args.first (expr_of types w.left.value) (expr_of types w.right.value) c.args.free targets.holds targets.fails targets.holds targets.fails k m m m₁ m₂ refl refl refl right c.in_ok-holds-in-And.ensures.number c.in_ok-holds-in-And.ensures.closed in
    let tested = ap (λ (x : Expr). make_test g c.args.first (expr_of types x) c.args.free k targets.fails m₂) c.deref-in-And-2.ensures in
    let whole = ap (λ (e : Expr). make_test g c.args.first (expr_of types e) c.args.free targets.holds targets.fails m) w.is in
    subst (λ (z : Made). OnOk c.lower_test-in-And-2.result (c.lower_test-in-And-2.new.code ≡ z)) (tested ∙ made ∙ sym whole) c.lower_test-in-And-2.ensures

pub lower_test-returns-in_ok-fails-in-Or : goal.lower_test-returns-in_ok-fails-in-Or
lower_test-returns-in_ok-fails-in-Or t c =
    let g = program_of c.args.prog.now in
    let types = c.args.prog.now.types in
    let w = c.in-Or in
    let m = c.args.code.now in
    let targets = c.args.targets in
    let m₁ = c.lower_test-in-Or.new.code in
    let m₂ = c.close-in-Or.new.self in
    let k = c.in_ok-fails-in-Or.fails in
    let right = c.in_ok-lower_test-in-Or.ensures ∙ ap (λ (x : Expr). make_test g c.args.first (expr_of types x) c.args.free targets.holds targets.fails m) c.deref-in-Or.ensures in
    let made = or_made g c.args.first (expr_of types w.left.value) (expr_of types w.right.value) c.args.free targets.holds targets.fails targets.holds targets.fails k m m m₁ m₂ refl refl refl right c.in_ok-fails-in-Or.ensures.number c.in_ok-fails-in-Or.ensures.closed in
    let tested = ap (λ (x : Expr). make_test g c.args.first (expr_of types x) c.args.free targets.holds k m₂) c.deref-in-Or-2.ensures in
    let whole = ap (λ (e : Expr). make_test g c.args.first (expr_of types e) c.args.free targets.holds targets.fails m) w.is in
    subst (λ (z : Made). OnOk c.lower_test-in-Or-2.result (c.lower_test-in-Or-2.new.code ≡ z)) (tested ∙ made ∙ sym whole) c.lower_test-in-Or-2.ensures

pub lower_test-returns-in_ok-next-in_default : goal.lower_test-returns-in_ok-next-in_default
lower_test-returns-in_ok-next-in_default t c =
    let g = program_of c.args.prog.now in
    let types = c.args.prog.now.types in
    let targets = c.args.targets in
    let free = c.args.free in
    let m = c.args.code.now in
    let m₁ = c.start.new.self in
    let e = expr_of types c.args.test.now in
    let above = ap (λ n. make g c.args.first e free n m₁) c.in_ok-next-in_default.ensures in
    let begun = ap (make g c.args.first e free (free + 1)) c.in_ok-start-in_default.ensures in
    let made = value_decides g c.args.first types c.args.test.now free targets.holds targets.fails m c.in_default.not-Not c.in_default.not-And c.in_default.not-Or in
    subst (λ (z : Made). OnOk c.lower_expression.result (c.lower_expression.new.code ≡ z)) (above ∙ begun ∙ made) c.lower_expression.ensures

pub lower_form-returns-in_ok-lower_expression-in-Binary : goal.lower_form-returns-in_ok-lower_expression-in-Binary
lower_form-returns-in_ok-lower_expression-in-Binary t c =
    let g = program_of c.args.prog.now in
    let types = c.args.prog.now.types in
    let w = c.in-Binary in
    let m = c.args.code.now in
    let m₁ = c.put_operator-in-Binary.new.code in
    let m₂ = c.lower_expression-in-Binary.new.code in
    let further = c.in_ok-next-in-Binary.field-0 in
    let second = c.in_ok-lower_expression-in-Binary.ensures ∙ ap (λ (x : Expr). make g c.args.first (expr_of types x) c.in_ok-above.above further m₁) c.deref-in-Binary.ensures in
    let line = put_operator (expr_of types c.args.expression.now) c.args.to c.args.free m in
    let both = two_made g c.args.first (expr_of types w.left.value) (expr_of types w.right.value) c.args.free c.in_ok-above.above further line m₁ m₂ c.in_ok-above.ensures c.in_ok-next-in-Binary.ensures second (c.in_ok-put_operator-in-Binary.ensures types) in
    let left = ap (λ (x : Expr). make g c.args.first (expr_of types x) c.args.free c.in_ok-above.above m₂) c.deref-in-Binary-2.ensures in
    let whole = operator_made g c.args.first types c.args.expression.now w.left w.right c.args.to c.args.free m w.is in
    subst (λ (z : Made). OnOk c.lower_expression-in-Binary-2.result (c.lower_expression-in-Binary-2.new.code ≡ z)) (left ∙ both ∙ whole) c.lower_expression-in-Binary-2.ensures

pub lower_form-returns-in_ok-lower_expression-in-Struct : goal.lower_form-returns-in_ok-lower_expression-in-Struct
lower_form-returns-in_ok-lower_expression-in-Struct t c =
    let g = program_of c.args.prog.now in
    let types = c.args.prog.now.types in
    let w = c.in-Assign in
    let s = c.in-Struct in
    let m = c.args.code.now in
    let a = place_of types w.place.value in
    let e = expr_of types w.value.value in
    let m₁ = c.put_copy.new.code in
    let m₂ = c.lower_expression-in-Struct.new.code in
    let from = c.in_ok-from-in-Struct.from in
    let beside = c.in_ok-next-in-Struct.field-0 in
    let behind_is = c.in_ok-from-in-Struct.ensures types ∙ ap (λ (x : Place). behind (place_of types x) c.args.free) c.deref-in-Struct.ensures in
    let counted = c.deref-in-Struct-4.result.now in
    let counted_is = c.deref-in-Struct-4.ensures.value ∙ c.in_ok-cells-in-Struct.ensures in
    let many_is = c.in_ok-groups-in-Struct.ensures.gives ∙ ap (λ (x : Place). groups_in (in_groups g c.args.first (place_of types x) counted (expr_of types c.deref-in-Struct-3.result.now)) counted) c.deref-in-Struct-2.ensures
    ∙ ap (λ (x : Expr). groups_in (in_groups g c.args.first a counted (expr_of types x)) counted) c.deref-in-Struct-3.ensures in
    let at_is = c.in_ok-at-in-Struct.ensures types ∙ ap (λ (x : Place). place_at c.args.first (place_of types x) c.args.free) c.deref-in-Struct-5.ensures in
    let found_is = c.deref-in-Struct-6.ensures.value ∙ c.in_ok-cells-in-Struct.ensures in
    let value_is = c.in_ok-lower_expression-in-Struct.ensures ∙ ap (λ (x : Expr). make g c.args.first (expr_of types x) from beside m₁) c.deref-in-Struct-7.ensures in
    let made = copy_made g c.args.first a e s.cells c.in_ok-groups-in-Struct.groups (layout_at (layouts (structs_of types)) s.number).cells c.deref-in-Struct-6.result.now counted c.args.to c.args.free from beside c.in_ok-at-in-Struct.at m m₁ m₂ behind_is found_is counted_is many_is at_is c.in_ok-put_copy-in-Struct.ensures c.in_ok-next-in-Struct.ensures value_is in
    let walked = ap (λ (x : Place). make_place g c.args.first (place_of types x) c.args.free m₂) c.deref-in-Struct-8.ensures in
    let whole = struct_made g c.args.first types c.args.expression.now w.access w.place w.value s.number s.cells c.args.to c.args.free m w.is s.is in
    subst (λ (z : Made). OnOk c.lower_place-in-Struct.result (c.lower_place-in-Struct.new.code ≡ z)) (walked ∙ made ∙ whole) c.lower_place-in-Struct.ensures

pub lower_test-returns-in-Not : goal.lower_test-returns-in-Not
lower_test-returns-in-Not t c =
    let g = program_of c.args.prog.now in
    let types = c.args.prog.now.types in
    let m = c.args.code.now in
    let targets = c.args.targets in
    let turned = ap (λ (x : Expr). make_test g c.args.first (expr_of types x) c.args.free targets.fails targets.holds m) c.deref.ensures in
    let whole = ap (λ (e : Expr). make_test g c.args.first (expr_of types e) c.args.free targets.holds targets.fails m) c.in-Not.is in
    subst (λ (z : Made). OnOk c.lower_test.result (c.lower_test.new.code ≡ z)) (turned ∙ sym whole) c.lower_test.ensures

pub lower_form-returns-in_ok-put_read-in-Update : goal.lower_form-returns-in_ok-put_read-in-Update
lower_form-returns-in_ok-put_read-in-Update t c =
    let g = program_of c.args.prog.now in
    let types = c.args.prog.now.types in
    let w = c.in-Update in
    let m = c.args.code.now in
    let a = place_of types w.place.value in
    let from = c.in_ok-from-in-Update.from in
    let beside = c.in_ok-next-in-Update.field-0 in
    let at = c.in_ok-at-in-Update.at in
    let m₁ = c.put_change.new.code in
    let m₂ = c.lower_expression-in-Update.new.code in
    let m₃ = c.put_read.new.self in
    let at_is = c.in_ok-at-in-Update.ensures types ∙ ap (λ (x : Place). place_at c.args.first (place_of types x) c.args.free) c.deref-in-Update.ensures in
    let behind_is = c.in_ok-from-in-Update.ensures types ∙ ap (λ (x : Place). behind (place_of types x) c.args.free) c.deref-in-Update-2.ensures in
    let value_is = c.in_ok-lower_expression-in-Update.ensures ∙ ap (λ (x : Expr). make g c.args.first (expr_of types x) from beside m₁) c.deref-in-Update-3.ensures in
    let made = update_made g c.args.first a (expr_of types w.by.value) w.change c.args.to c.args.free from beside at c.changed_kind.result m m₁ m₂ m₃ at_is behind_is c.in_ok-put_change-in-Update.ensures c.in_ok-next-in-Update.ensures value_is c.changed_kind.ensures c.in_ok-put_read-in-Update.ensures in
    let walked = ap (λ (x : Place). make_place g c.args.first (place_of types x) c.args.free m₃) c.deref-in-Update-4.ensures in
    let whole = ap (λ (e : Expr). make g c.args.first (expr_of types e) c.args.to c.args.free m) w.is in
    subst (λ (z : Made). OnOk c.lower_place-in-Update.result (c.lower_place-in-Update.new.code ≡ z)) (walked ∙ made ∙ sym whole) c.lower_place-in-Update.ensures

pub lower_place-returns-in-None : goal.lower_place-returns-in-None
lower_place-returns-in-None t c = sym (c.in-None.ensures.made c.args.prog.now.types (program_of c.args.prog.now) c.args.first c.args.free c.args.code.now)

pub lower_place-returns-in_ok-next-in-Some : goal.lower_place-returns-in_ok-next-in-Some
lower_place-returns-in_ok-next-in-Some t c =
    let g = program_of c.args.prog.now in
    let types = c.args.prog.now.types in
    let m = c.args.code.now in
    let reached = c.in-Some.ensures.made types g c.args.first c.args.free m in
    let above = ap (λ n. make g c.args.first (expr_of types c.in-Some.pointer.now) c.args.free n m) c.in_ok-next-in-Some.ensures in
    subst (λ (z : Made). OnOk c.lower_expression.result (c.lower_expression.new.code ≡ z)) (above ∙ sym reached) c.lower_expression.ensures

pub lower_behind-returns-clause-below : goal.lower_behind-returns-clause-below
lower_behind-returns-clause-below t c =
    below_more c.lower_link.result (size-Expr c.loop-operand.kept.now) (size-Expr c.args.expression.now) c.loop-operand.invariant.1 c.lower_link.ensures.below

pub lower_kept-returns-in_ok-put_operator-in-Convert-clause-made : goal.lower_kept-returns-in_ok-put_operator-in-Convert-clause-made
lower_kept-returns-in_ok-put_operator-in-Convert-clause-made t c =
    let g = program_of c.args.prog.now in
    let types = c.args.prog.now.types in
    let w = c.in-Convert in
    converted_left g c.args.first types c.args.expression.now c.deref.result.now w.field-0 w.operand c.args.to c.args.free c.args.code.now c.put_operator.new.code w.is c.deref.ensures (c.in_ok-put_operator-in-Convert.ensures types)

pub lower_kept-returns-in_ok-lower_expression-in-Comma-clause-made : goal.lower_kept-returns-in_ok-lower_expression-in-Comma-clause-made
lower_kept-returns-in_ok-lower_expression-in-Comma-clause-made t c =
    let g = program_of c.args.prog.now in
    let types = c.args.prog.now.types in
    let w = c.in-Comma in
    comma_left g c.args.first types c.args.expression.now c.deref-in-Comma-2.result.now c.deref-in-Comma.result.now w.left w.right c.args.to c.args.free c.args.code.now c.lower_expression.new.code w.is c.deref-in-Comma-2.ensures c.deref-in-Comma.ensures c.in_ok-lower_expression-in-Comma.ensures

pub lower_link-returns-in_ok-put_load-in-Read-clause-made : goal.lower_link-returns-in_ok-put_load-in-Read-clause-made
lower_link-returns-in_ok-put_load-in-Read-clause-made t c =
    let g = program_of c.args.prog.now in
    let types = c.args.prog.now.types in
    let w = c.in-Read in
    let m₁ = c.put_load.new.code in
    let read = read_left g c.args.first types c.args.expression.now w.access w.place c.deref.result.now c.deref-in-Read.result.now c.in_ok-place_at-in-Read.field-0 c.args.to c.args.free c.args.code.now m₁ w.is c.deref.ensures c.deref-in-Read.ensures (c.in_ok-place_at-in-Read.ensures types) (c.in_ok-put_load-in-Read.ensures types) in
    pointer_left g c.args.first types c.pointer_of.result c.args.free m₁ (make_place g c.args.first (place_of types c.deref-in-Read.result.now) c.args.free m₁) (make g c.args.first (expr_of types c.args.expression.now) c.args.to c.args.free c.args.code.now) (c.pointer_of.ensures.made types g c.args.first c.args.free m₁) read

pub lower_link-returns-in_ok-put-in-Address-clause-made : goal.lower_link-returns-in_ok-put-in-Address-clause-made
lower_link-returns-in_ok-put-in-Address-clause-made t c =
    let g = program_of c.args.prog.now in
    let types = c.args.prog.now.types in
    let w = c.in-Address in
    let m₁ = c.put.new.self in
    let address = address_left g c.args.first types c.args.expression.now w.place c.deref-in-Address.result.now c.deref-in-Address-2.result.now c.in_ok-at-in-Address.at c.args.to c.args.free c.args.code.now m₁ w.is c.deref-in-Address.ensures c.deref-in-Address-2.ensures (c.in_ok-at-in-Address.ensures types) c.in_ok-put-in-Address.ensures in
    pointer_left g c.args.first types c.pointer_of-in-Address.result c.args.free m₁ (make_place g c.args.first (place_of types c.deref-in-Address-2.result.now) c.args.free m₁) (make g c.args.first (expr_of types c.args.expression.now) c.args.to c.args.free c.args.code.now) (c.pointer_of-in-Address.ensures.made types g c.args.first c.args.free m₁) address

pub lower_link-returns-in_ok-lower_form-in_default : goal.lower_link-returns-in_ok-lower_form-in_default
lower_link-returns-in_ok-lower_form-in_default t c = record { made = c.in_ok-lower_form-in_default.ensures; below = tt }

pub lower_link-returns-in_ok-lower_expression-in-Move-clause-made : goal.lower_link-returns-in_ok-lower_expression-in-Move-clause-made
lower_link-returns-in_ok-lower_expression-in-Move-clause-made t c =
    let g = program_of c.args.prog.now in
    let types = c.args.prog.now.types in
    let w = c.in-Move in
    let m = c.args.code.now in
    let m₁ = c.put_operator.new.code in
    let m₂ = c.lower_expression.new.code in
    let above = c.in_ok-above-in-Move.above in
    let further = c.in_ok-next-in-Move.field-0 in
    let second = c.in_ok-lower_expression-in-Move.ensures ∙ ap (λ (x : Expr). make g c.args.first (expr_of types x) above further m₁) c.deref-in-Move.ensures in
    let left = ap (λ (x : Expr). make g c.args.first (expr_of types x) c.args.free (c.args.free + 1) m₂) c.deref-in-Move-2.ensures in
    let beside = ap (λ n. make g c.args.first (expr_of types w.left.value) c.args.free n m₂) (sym c.in_ok-above-in-Move.ensures) in
    let moved = moved_left g c.args.first types c.args.expression.now w.left w.right c.args.to c.args.free above further m m₁ m₂ w.is (c.in_ok-put_operator-in-Move.ensures types) c.in_ok-above-in-Move.ensures c.in_ok-next-in-Move.ensures second in
    left ∙ beside ∙ moved
