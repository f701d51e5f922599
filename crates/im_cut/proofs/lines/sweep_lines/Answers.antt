use Rattle.std.proofs.Common.{◌≡◌, ◌+◌, List, [], ◌∷◌, ◌++◌, sym, subst, take, get_or}
use Rattle.std.proofs.lemmas.List.{take_more}
use Rattle.std.specs.Prelude.{pos}
use Rattle.im_block.specs.declared.code.Line.{Line}
use Rattle.im_block.specs.declared.code.Line.TheVariants.{Put}
use Rattle.im_cut.specs.Lines.{LinesSwept}
use Rattle.im_cut.proofs.Passing.{no_lines, lines_more}
use Rattle.im_cut.proofs.lines.sweep_lines.Goals as goal

abbrev blank : Line
blank = Put 0 (pos 0)

pub loop-line-init : goal.loop-line-init
loop-line-init c = λ m h.
    let deps = c.args.deps.now.items in
    subst (λ (t : List Line). LinesSwept c.args.tags.now m c.args.marks.now [] t deps deps) (sym c.new-cut.ensures.items) (no_lines c.args.tags.now m c.args.marks.now deps h)

pub loop-line-preserved : goal.loop-line-preserved
loop-line-preserved c =
    let l = c.loop-line in
    let xs = c.args.lines.now in
    let i = l.line-index in
    let line = get_or xs i blank in
    let tags = c.args.tags.now in
    let k = c.in_ok-sweep_line.ensures in
    let deps = c.args.deps.now.items in
    let more = c.sweep_line.new.deps.items in
    let one : take (i + 1) xs ≡ take i xs ++ line ∷ [] = take_more xs i blank c.loop-line-test.true in
    λ m h.
    subst (λ (t : List Line). LinesSwept tags m c.sweep_line.new.marks t c.sweep_line.new.cut.items deps more) (sym one)
    (subst (λ (t : List Line). LinesSwept tags m c.sweep_line.new.marks (take i xs ++ line ∷ []) t deps more) (sym k.put)
    (lines_more tags m l.marks c.sweep_line.new.marks (take i xs) l.cut.items k.piece line deps l.deps.items more (l.invariant m h) k.sweeps))
