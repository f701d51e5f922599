use Rattle.std.proofs.Common.{◌≡◌, ◌<◌, ◌+◌, [], ◌∷◌, length, sym, ap, ◌∙◌, subst, arith}
use Rattle.std.proofs.lemmas.List.{length-append}
use Rattle.im_compile.proofs.Rows.{Framed, next_at, framed_more, all_framed}
use Rattle.im_compile.proofs.frames.frames_of.Goals as goal

pub loop-number-preserved : goal.loop-number-preserved
loop-number-preserved c =
    let fs = c.args.names.now in
    let ls = c.args.layouts.now in
    let xs = c.loop-number.frames.items in
    let f = c.index-names-number.result in
    let l = c.index-layouts-number.result in
    let x = c.in_ok-frame_of.field-0 in
    let e = c.in_ok-push.ensures.items in
    let count = c.loop-number.invariant.count in
    let below : c.loop-number.number < length ls = (let same = c.requires in let t = c.loop-number-test.true in omega arith) in
    let at = next_at fs c.loop-number.number (length xs) f count c.loop-number-test.true c.index-names-number.is in
    let there = next_at ls c.loop-number.number (length xs) l count below c.index-layouts-number.is in
    record {
      count = rw e (length-append xs (x ∷ []) ∙ ap (λ n. n + 1) count);
      framed = subst (Framed fs ls) (sym e) (framed_more fs ls xs f l x c.loop-number.invariant.framed at there (c.in_ok-frame_of.ensures.named ∙ c.deref.ensures.value) c.in_ok-frame_of.ensures.size);
    }

pub returns : goal.returns
returns c =
    let count : length c.loop-number.frames.items ≡ length c.args.names.now = (let n = c.loop-number.invariant.count in let t = c.loop-number-test.false in let e = c.loop-number.auto.number-end in omega arith) in
    all_framed c.args.names.now c.args.layouts.now c.loop-number.frames.items c.loop-number.invariant.framed count c.requires
