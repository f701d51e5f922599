use Rattle.std.proofs.Common.{◌≡◌, ◌+◌, ℕ, List, [], ◌∷◌, ◌++◌, sym, subst, take, get_or}
use Rattle.std.proofs.lemmas.List.{take_more, take_all}
use Rattle.std.specs.Prelude.{pos}
use Rattle.im_block.specs.declared.code.Line.{Line}
use Rattle.im_block.specs.declared.code.Line.TheVariants.{Put}
use Rattle.im_cut_gap.specs.Sweep.{Puts}
use Rattle.im_cut_gap.proofs.Passing.{SweptSoFar, so_far_none, so_far_more, so_far_end}
use Rattle.im_cut_gap.proofs.lines.cut_lines.Goals as goal

abbrev blank : Line
blank = Put 0 (pos 0)

pub loop-line-init : goal.loop-line-init
loop-line-init c = subst (λ (t : List Line). SweptSoFar c.args.most c.args.start c.args.start [] t) (sym c.new-cut.ensures.items) (so_far_none c.args.most c.args.start)

pub loop-line-preserved : goal.loop-line-preserved
loop-line-preserved c =
    let l = c.loop-line in
    let xs = c.args.lines.now in
    let i = l.line-index in
    let line = get_or xs i blank in
    let one : take (i + 1) xs ≡ take i xs ++ line ∷ [] = take_more xs i blank c.loop-line-test.true in
    subst (λ (t : List Line). SweptSoFar c.args.most c.args.start c.in_ok-cost.cost t c.cut_line.new.cut.items) (sym one)
    (so_far_more c.args.most c.args.start l.cost c.in_ok-cost.cost (take i xs) l.cut.items c.cut_line.new.cut.items line l.invariant c.in_ok-cost.ensures)

pub returns : goal.returns
returns c =
    let l = c.loop-line in
    let xs = c.args.lines.now in
    let cut = c.spend.new.cut.items in
    let end = c.in_ok-end.end in
    so_far_end c.args.most c.args.exit c.args.start l.cost end xs l.cut.items cut
    (subst (λ (t : List Line). SweptSoFar c.args.most c.args.start l.cost t l.cut.items) (take_all l.line-index xs c.loop-line-test.false) l.invariant)
    (subst (λ (s : ℕ). Puts c.args.most s l.cost end l.cut.items cut) c.leave_cost.ensures.cost c.in_ok-end.ensures)
