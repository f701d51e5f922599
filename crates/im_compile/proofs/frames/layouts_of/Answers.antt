use Rattle.std.proofs.Common.{◌≡◌, ◌+◌, [], ◌∷◌, length, sym, ap, ◌∙◌, subst, arith}
use Rattle.std.proofs.lemmas.List.{length-append}
use Rattle.im_compile.specs.Faults.{IsFrameFault}
use Rattle.im_compile.specs.Ready.{of_frame}
use Rattle.im_compile.proofs.Rows.{Laid, next_at, laid_more, all_laid, frame_fault}
use Rattle.im_compile.proofs.frames.layouts_of.Goals as goal

pub returns-in-Err : goal.returns-in-Err
returns-in-Err c =
    let fs = c.args.functions.now in
    let ls = c.loop-number.layouts.items in
    let f = c.index-functions-number.result in
    let count = c.loop-number.invariant.count in
    let at = next_at fs c.loop-number.number (length ls) f count c.loop-number-test.true c.index-functions-number.is in
    subst (IsFrameFault fs) (ap (λ n. of_frame n c.in-Err.fault) count ∙ sym c.fault_of.ensures)
    (frame_fault fs ls f c.in-Err.fault c.loop-number.invariant.laid at c.in-Err.ensures.faults)

pub loop-number-preserved : goal.loop-number-preserved
loop-number-preserved c =
    let fs = c.args.functions.now in
    let ls = c.loop-number.layouts.items in
    let f = c.index-functions-number.result in
    let l = c.in-Ok.layout in
    let e = c.in_ok-push-in-Ok.ensures.items in
    let count = c.loop-number.invariant.count in
    let at = next_at fs c.loop-number.number (length ls) f count c.loop-number-test.true c.index-functions-number.is in
    record {
      count = rw e (length-append ls (l ∷ []) ∙ ap (λ n. n + 1) count);
      laid = subst (Laid fs) (sym e) (laid_more fs ls f l c.loop-number.invariant.laid at c.in-Ok.ensures.gives);
    }

pub returns : goal.returns
returns c =
    let count : length c.loop-number.layouts.items ≡ length c.args.functions.now = (let n = c.loop-number.invariant.count in let t = c.loop-number-test.false in let e = c.loop-number.auto.number-end in omega arith) in
    all_laid c.args.functions.now c.loop-number.layouts.items c.loop-number.invariant.laid count
