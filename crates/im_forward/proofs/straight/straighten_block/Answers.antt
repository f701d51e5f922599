use Rattle.std.proofs.Common.{◌≡◌, ◌+◌, ◌<◌, ◌≤◌, ◌++◌, ℕ, List, [], ◌∷◌, Some, suc, length, refl, sym, ap, ◌∙◌, subst, arith}
use Rattle.std.specs.Prelude.{slice_get}
use Rattle.im_block.specs.declared.code.Line.{Line}
use Rattle.im_block_live.specs.Words.{groups_have}
use Rattle.im_block.proofs.Unitwise.{got}
use Rattle.im_forward.proofs.Straightening.{BecomesTo, stays_on, pairs_on, all_become}
use Rattle.im_forward.proofs.straight.straighten_block.Goals as goal

pub loop-i-preserved-in-Some : goal.loop-i-preserved-in-Some
loop-i-preserved-in-Some c =
    let l = c.loop-i in
    let live = groups_have c.args.groups.now in
    let exit = c.args.block.now.exit in
    let old = c.args.block.now.lines.items in
    let next : suc (suc l.i) ≡ l.i + 2 = omega arith in
    subst (λ (z : List Line). BecomesTo live exit old (l.i + 2) z) (sym c.in_ok-push-in-Some.ensures.items)
    (subst (λ (n : ℕ). BecomesTo live exit old n (l.kept.items ++ c.in-Some.line ∷ [])) next
    (pairs_on live exit old l.i l.kept.items c.in-Some.line c.in-Some.ensures l.invariant))

pub loop-i-preserved : goal.loop-i-preserved
loop-i-preserved c =
    let l = c.loop-i in
    let live = groups_have c.args.groups.now in
    let exit = c.args.block.now.exit in
    let old = c.args.block.now.lines.items in
    let line = c.index.result.now in
    let lt : l.i < length old = omega (arith, c.loop-i-test.true, c.len.ensures, c.args.block.now.lines.ok.0) in
    let at : slice_get old l.i ≡ Some line = got old l.i line lt ∙ ap (λ (z : Line). Some z) (sym c.index.ensures) in
    let next : suc l.i ≡ l.i + 1 = omega arith in
    subst (λ (z : List Line). BecomesTo live exit old (l.i + 1) z) (sym c.in_ok-push-in-None.ensures.items)
    (subst (λ (n : ℕ). BecomesTo live exit old n (l.kept.items ++ line ∷ [])) next
    (stays_on live exit old l.i l.kept.items line at l.invariant))

pub returns : goal.returns
returns c =
    let l = c.loop-i in
    let old = c.args.block.now.lines.items in
    let past : length old ≤ l.i = omega (arith, c.loop-i-test.false, c.len.ensures, c.args.block.now.lines.ok.0) in
    record { lines = all_become (groups_have c.args.groups.now) c.args.block.now.exit old l.i l.kept.items past l.invariant; exit = refl }
