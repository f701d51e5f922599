use Rattle.std.proofs.Common.{◌≡◌, ◌+◌, ◌∙◌, List, [], ◌∷◌, ◌++◌, refl, sym, ap, subst, take}
use Rattle.std.specs.Prelude.{◌||◌}
use Rattle.std.proofs.lemmas.List.{take_more, take_all}
use Rattle.im_block.specs.declared.code.Block.{Block}
use Rattle.im_cut.specs.Blocks.{BeginsWhere, is_turned, turns_to}
use Rattle.im_cut.proofs.Tables.{begins_same, begins_on, begins_like, turned_more}
use Rattle.im_cut.proofs.starts.begin_turned.Goals as goal

pub loop-block-init : goal.loop-block-init
loop-block-init c = begins_same (is_turned []) c.args.table.now (λ d. refl)

pub loop-block-preserved : goal.loop-block-preserved
loop-block-preserved c =
    let xs = c.args.blocks.now in
    let i = c.loop-block.block-index in
    let x = c.block-item.result in
    let one : take (i + 1) xs ≡ take i xs ++ x ∷ [] = take_more xs i x c.loop-block-test.true ∙ ap (λ (b : Block). take i xs ++ b ∷ []) (sym c.block-item.is) in
    begins_like (λ d. is_turned (take i xs) d || turns_to x.exit d) (is_turned (take (i + 1) xs)) c.args.table.now c.begin_behind.new.table
    (λ d. sym (turned_more (take i xs) x d) ∙ sym (ap (λ (t : List Block). is_turned t d) one))
    (begins_on (is_turned (take i xs)) (turns_to x.exit) c.args.table.now c.loop-block.table c.begin_behind.new.table c.loop-block.invariant c.begin_behind.ensures.begins)

pub returns-clause-begins : goal.returns-clause-begins
returns-clause-begins c = subst (λ (t : List Block). BeginsWhere (is_turned t) c.args.table.now c.loop-block.table) (take_all c.loop-block.block-index c.args.blocks.now c.loop-block-test.false) c.loop-block.invariant
