use Rattle.std.proofs.Common.{◌≡◌, ℕ, suc, ◌<◌, ◌≤◌, ◌-◌, refl, arith, sym, subst, length}
use Rattle.std.proofs.lemmas.Option.{slice_get_read}
use Rattle.im_cut_gap.proofs.Whole.{GapsSoFar, gaps_none, gaps_more, gaps_whole}
use Rattle.im_cut_gap.proofs.blocks.cut_gaps.Goals as goal

pub loop-number-init : goal.loop-number-init
loop-number-init c =
    let f = c.args.function.now in
    let costs = c.in_ok-costs.costs.items in
    let e : c.len-number.result ≡ length f.blocks.items = omega (arith, f.blocks.ok) in
    subst (λ (n : ℕ). GapsSoFar c.args.most f f n costs) (sym e) (gaps_none c.args.most f costs c.in_ok-costs.ensures.starts c.in_ok-costs.ensures.len)

pub loop-number-preserved : goal.loop-number-preserved
loop-number-preserved c =
    let l = c.loop-number in
    let f = c.args.function.now in
    let j = l.number - 1 in
    let test : 0 < l.number = c.loop-number-test.true in
    let top : l.number ≤ length f.blocks.items = omega (arith, f.blocks.ok, c.len-number.ensures, l.auto.number) in
    let within : j < length f.blocks.items = omega arith in
    let up : l.number ≡ suc j = omega arith in
    let before = subst (λ (n : ℕ). GapsSoFar c.args.most f l.function n l.costs.items) up l.invariant in
    let here : j < length l.function.blocks.items = subst (λ (n : ℕ). j < n) (sym before.size) within in
    let is = slice_get_read l.function.blocks.items (length l.function.blocks.items) j c.index_mut.result.now refl here c.index_mut.ensures.value in
    gaps_more c.args.most f l.function _ j c.index_mut.result.now c.cut_block.new.block l.costs.items c.cut_block.new.costs.items within c.requires.ordered before is refl refl c.in_ok-cut_block.ensures.sweeps

pub returns : goal.returns
returns c =
    let l = c.loop-number in
    let f = c.args.function.now in
    let none : l.number ≡ 0 = omega (arith, c.loop-number-test.false) in
    gaps_whole c.args.most f l.function l.costs.items (subst (λ (n : ℕ). GapsSoFar c.args.most f l.function n l.costs.items) none l.invariant) c.requires.enough c.requires.ordered c.requires.turns
