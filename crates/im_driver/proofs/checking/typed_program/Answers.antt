use Rattle.std.proofs.Common.{List, ℕ, sym, subst, arith}
use Rattle.im_ctree.specs.Shape.{tree_of}
use Rattle.im_driver.specs.Refused.{IsRefusedFor}
use Rattle.im_driver.specs.Steps.{IsTooDeep, refused_at}
use Rattle.im_driver.proofs.Subjects.{read_refused_for, check_refused_for, deep_refused_for}
use Rattle.im_driver.proofs.checking.typed_program.Goals as goal

pub returns-in-Err : goal.returns-in-Err
returns-in-Err c = rw c.whole.ensures (read_refused_for c.args.source.now c.in-Err.fault c.in-Err.ensures)

pub returns-in-Err-shallow : goal.returns-in-Err-shallow
returns-in-Err-shallow c =
    let text = c.in-Ok.ensures.1 in
    let source = c.args.source.now in
    let refused = c.in-Err-shallow.refused in
    let told = subst (λ (z : List (ℕ × ℕ)). IsTooDeep source z (tree_of c.in-Ok.text.tree) refused) text.spans (rw c.deref.ensures.value at c.in-Err-shallow.ensures) in
    deep_refused_for source text.tokens c.in-Ok.text.tree (record { lexes = text.lexes; parsed = text.parsed }) refused told

pub check-requires : goal.check-requires
check-requires c =
    let text = c.in-Ok.ensures.1 in
    c.written_law.ensures c.args.source.now text.tokens c.in-Ok.text.tree (λ i. omega (arith, c.type_inv.source i)) text.each (record { lexes = text.lexes; parsed = text.parsed })

pub returns-in-Ok-check : goal.returns-in-Ok-check
returns-in-Ok-check c =
    let text = c.in-Ok.ensures.1 in
    c.program_law.ensures c.args.source.now text.tokens c.in-Ok.text.tree c.in-Ok-check.prog (λ i. omega (arith, c.type_inv.source i)) c.in-Ok.ensures.0 text.each (record { lexes = text.lexes; parsed = text.parsed }) c.in-Ok-check.ensures

pub returns : goal.returns
returns c =
    let text = c.in-Ok.ensures.1 in
    let source = c.args.source.now in
    let fault = c.in-Err-check.fault in
    rw (c.untyped.ensures, c.deref-in-Err-check.ensures.value)
    (subst (λ (z : List (ℕ × ℕ)). IsRefusedFor source (refused_at source z fault)) (sym text.spans)
    (check_refused_for source text.tokens c.in-Ok.text.tree (record { lexes = text.lexes; parsed = text.parsed }) fault c.in-Err-check.ensures))
