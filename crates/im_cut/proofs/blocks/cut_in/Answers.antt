use Rattle.std.proofs.Common.{◌≡◌, ℕ, suc, ◌<◌, ◌≤◌, ◌-◌, refl, arith, List, sym, subst, length}
use Rattle.im_block.specs.declared.access.Dep.{Dep}
use Rattle.im_cut.proofs.Tables.{CutSoFar, cut_none, cut_more, cut_whole}
use Rattle.im_cut.proofs.blocks.cut_in.Goals as goal

pub loop-number-init : goal.loop-number-init
loop-number-init c =
    let f = c.args.function.now in
    let tags = c.args.tags.now in
    let table = c.in_ok-table.table.items in
    let e : c.len-number.result ≡ length f.blocks.items = omega (arith, f.blocks.ok) in
    subst (λ (n : ℕ). CutSoFar tags f f n table c.new-deps.result.items) (sym e)
    (subst (λ (d : List Dep). CutSoFar tags f f (length f.blocks.items) table d) (sym c.new-deps.ensures.items) (cut_none tags f table c.in_ok-table.ensures.starts c.in_ok-table.ensures.len))

pub loop-number-preserved : goal.loop-number-preserved
loop-number-preserved c =
    let l = c.loop-number in
    let f = c.args.function.now in
    let tags = c.args.tags.now in
    let j = l.number - 1 in
    let test : 0 < l.number = c.loop-number-test.true in
    let top : l.number ≤ length f.blocks.items = omega (arith, f.blocks.ok, c.len-number.ensures, l.auto.number) in
    let within : j < length f.blocks.items = omega arith in
    let up : l.number ≡ suc j = omega arith in
    let before = subst (λ (n : ℕ). CutSoFar tags f l.function n l.table.items l.deps.items) up l.invariant in
    cut_more tags f l.function _ j c.index_mut.result.now c.sweep_block.new.block l.table.items c.sweep_block.new.table.items l.deps.items c.sweep_block.new.deps.items within before (sym c.index_mut.ensures.value) refl refl c.in_ok-sweep_block.ensures.sweeps c.in_ok-sweep_block.ensures.len

pub returns : goal.returns
returns c =
    let l = c.loop-number in
    let f = c.args.function.now in
    let tags = c.args.tags.now in
    let none : l.number ≡ 0 = omega (arith, c.loop-number-test.false) in
    cut_whole tags f l.function l.table.items l.deps.items (c.covers_law.ensures tags) (subst (λ (n : ℕ). CutSoFar tags f l.function n l.table.items l.deps.items) none l.invariant) c.requires.ordered c.requires.turns
