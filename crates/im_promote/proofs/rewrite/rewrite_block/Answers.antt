use Rattle.std.proofs.Common.{◌≡◌, ◌+◌, ◌<◌, ℕ, List, suc, length, arith, subst, ap, ◌∙◌, get_or}
use Rattle.std.specs.Prelude.{slice_set, pos}
use Rattle.im_block.specs.declared.code.Line.{Line}
use Rattle.im_block.specs.declared.code.Line.TheVariants.{Put}
use Rattle.im_promote.specs.Promote.{promoted}
use Rattle.im_promote.specs.Homes.{homes_from}
use Rattle.im_promote.proofs.Lists.{mapped_to, mapped_more}
use Rattle.im_promote.proofs.rewrite.rewrite_block.Goals as goal

pub loop-line-preserved : goal.loop-line-preserved
loop-line-preserved c =
    let l = c.loop-line in
    let lines = c.args.block.now.lines.items in
    let within : l.line-index < length lines = subst (λ (z : List Line). l.line-index < length z) c.deref_mut-line-items.ensures.value c.loop-line-test.true in
    let next : suc l.line-index ≡ l.line-index + 1 = omega arith in
    ap (λ z. slice_set l.line-items l.line-index z) c.promoted_line.ensures
    ∙ ap (λ (z : List Line). slice_set z l.line-index (promoted (homes_from c.args.first c.args.homes.now) (get_or z l.line-index (Put 0 (pos 0))))) l.invariant
    ∙ mapped_more (promoted (homes_from c.args.first c.args.homes.now)) l.line-index lines (Put 0 (pos 0)) within
    ∙ ap (λ (k : ℕ). mapped_to (promoted (homes_from c.args.first c.args.homes.now)) k lines) next
