use Rattle.std.proofs.Common.{◌≡◌, ◌+◌, ◌∙◌, List, [], ◌∷◌, ◌++◌, Some, refl, sym, ap, subst, take}
use Rattle.std.proofs.lemmas.List.{take_more, take_all}
use Rattle.im_block.specs.declared.code.Block.{Block}
use Rattle.im_cut_gap.specs.Starts.{RaisedWhere, is_turned, turn_cost}
use Rattle.im_cut_gap.proofs.Tables.{raised_none, raised_turned}
use Rattle.im_cut_gap.proofs.starts.reach_turned.Goals as goal

pub loop-block-init : goal.loop-block-init
loop-block-init c = raised_none (is_turned []) (Some turn_cost) c.args.costs.now.items (λ d. refl)

pub loop-block-preserved : goal.loop-block-preserved
loop-block-preserved c =
    let xs = c.args.blocks.now in
    let i = c.loop-block.block-index in
    let x = c.block-item.result in
    let one : take (i + 1) xs ≡ take i xs ++ x ∷ [] = take_more xs i x c.loop-block-test.true ∙ ap (λ (b : Block). take i xs ++ b ∷ []) (sym c.block-item.is) in
    subst (λ (t : List Block). RaisedWhere (is_turned t) (Some turn_cost) c.args.costs.now.items c.reach_behind.new.costs.items) (sym one)
    (raised_turned (take i xs) x c.args.costs.now.items c.loop-block.costs.items c.reach_behind.new.costs.items c.loop-block.invariant c.reach_behind.ensures.raises)

pub returns-clause-raises : goal.returns-clause-raises
returns-clause-raises c = subst (λ (t : List Block). RaisedWhere (is_turned t) (Some turn_cost) c.args.costs.now.items c.loop-block.costs.items) (take_all c.loop-block.block-index c.args.blocks.now c.loop-block-test.false) c.loop-block.invariant
