use Rattle.std.proofs.Common.{◌≡◌, ℤ, Some, unsigned_abs, refl, sym, ap, inl, inr, rules, ◌∙◌}
use mir.Syntax.{w128}
use Rattle.std.proofs.lemmas.Int.{to_z-of_z}
use Rattle.std.proofs.lemmas.Result.{err_from_is_err_and}
use Rattle.im_rules.specs.Rules.{rule_6_length}
use Rattle.im_types.specs.Shape.{type_of}
use Rattle.im_check_declarators.proofs.Steps.{structs_counted, count_meets, count_fault}
use Rattle.im_check_declarators.proofs.suffixes.counted.Goals as goal
use mir.Val.{SFits}

pub returns-then-not-is_count : goal.returns-then-not-is_count
returns-then-not-is_count c =
    let f : SFits w128 c.in-Some.count = search rules in
    let e = to_z-of_z w128 c.in-Some.count f in
    let same = ap (λ (z : ℤ). rule_6_length (Some z)) e in
    let n = sym same ∙ sym c.is_count.ensures ∙ c.if-not-is_count.true in
    rw c.in-Some.is (λ k constant known. (inr (inl (refl, n)), refl))

pub returns-in_err-element : goal.returns-in_err-element
returns-in_err-element c =
    let p = err_from_is_err_and c.from_residual.result c.from_residual.ensures.1 in
    rw (p.1, p.2) (λ k constant e. count_fault k (record { constant = constant; type = type_of c.args.ty.now }) c.args.value c.args.at _ (c.in_err-element.ensures.asked k constant (structs_counted k c.args.table.now c.struct_count.result e c.struct_count.ensures)))

pub returns-in-Ok : goal.returns-in-Ok
returns-in-Ok c =
    let f : SFits w128 c.in-Some.count = search rules in
    let e = to_z-of_z w128 c.in-Some.count f in
    let same = ap (λ (z : ℤ). rule_6_length (Some z)) e in
    let positive = sym same ∙ sym c.is_count.ensures ∙ c.if-not-is_count.false in
    let counted : c.in-Ok.number ≡ unsigned_abs c.in-Some.count = ap unsigned_abs (c.in-Ok.ensures ∙ e) in
    rw c.in-Some.is (λ k constant known. count_meets k (record { constant = constant; type = type_of c.args.ty.now }) c.in-Some.count c.in-Ok.number positive (c.in_ok-element.ensures.asked k constant (structs_counted k c.args.table.now c.struct_count.result known c.struct_count.ensures)) counted)
