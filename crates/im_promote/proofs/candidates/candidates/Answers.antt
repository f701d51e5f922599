use Rattle.std.proofs.Common.{◌≡◌, ◌+◌, ◌<◌, false, List, length, sym, ◌∙◌, subst, ap}
use Rattle.std.specs.Prelude.{All}
use Rattle.im_block.specs.declared.code.Line.{Line}
use Rattle.im_block.specs.declared.code.Block.{Block}
use Rattle.im_promote.specs.Words.{has, breaks, starts_have, AreClosed}
use Rattle.im_promote.proofs.Spoiling.{not_either, word_at, may_be}
use Rattle.im_promote.proofs.candidates.candidates.Goals as goal

pub returns : goal.returns
returns c j lt e =
    let f = c.args.function.now in
    let starts = c.in_ok-starts.starts.items in
    let unfit = c.spoiled_by_blocks-unfit.result in
    let both = not_either (has unfit j) (has c.index.result.now j) (sym (c.neither.ensures j lt) ∙ e) in
    let count : length starts ≡ length f.blocks.items = c.in_ok-starts.ensures.count ∙ ap (λ (z : List Block). length z) c.deref.ensures.value in
    let within : f.entry < length starts = subst (λ z. f.entry < z) (sym count) c.requires.formed.entry in
    let entry : starts_have starts j f.entry ≡ false = subst (λ z. has z j ≡ false) (word_at starts f.entry c.index.result.now within c.index.ensures) both.1 in
    let closed : AreClosed c.args.base f.blocks.items starts = subst (λ (z : List Block). AreClosed c.args.base z starts) c.deref.ensures.value c.in_ok-starts.ensures.closed in
    may_be f c.args.base starts j lt closed entry
    (subst (λ (z : List Block). All (λ (block : Block). All (λ (line : Line). breaks line (c.args.base + j) ≡ false) block.lines.items) z) c.deref-3.ensures.value (c.spoiled_by_blocks-unfit.ensures j lt both.0))
