use Rattle.std.proofs.Common.{◌≡◌, ℕ, ◌+◌, ◌-◌, ◌++◌, List, ap, ◌∙◌, arith}
use Rattle.im_block.specs.declared.code.Line.{Line}
use Rattle.im_alloc_relation.specs.Homes.{Home, bring, into}
use Rattle.im_alloc_intervals.specs.Homes.{home_of, home_at}
use Rattle.im_alloc.proofs.Steps.{bring_step}
use Rattle.im_alloc.proofs.pieces.push_arguments.Goals as goal

pub loop-i-preserved : goal.loop-i-preserved
loop-i-preserved c rest =
    let l = c.loop-i in
    let i : ℕ = l.i in
    let h : ℕ → Home = home_at c.args.homes.now in
    let more : List Line = bring h (10 + (i + 1)) (c.args.first + (i + 1)) (c.args.count - (i + 1)) (c.args.access + (i + 1)) rest in
    let home : home_of c.home_at-home.result ≡ h (c.args.first + i) = c.home_at-home.ensures in
    let one = c.in_ok-push_into.ensures more in
    let same : c.from.result ≡ i = c.from.ensures in
    one
    ∙ ap (λ q. l.lines.items ++ into (home_of c.home_at-home.result) (10 + i) (c.args.access + q) more) same
    ∙ ap (λ q. l.lines.items ++ into q (10 + i) (c.args.access + i) more) home
    ∙ ap (λ q. l.lines.items ++ q) (bring_step h 10 c.args.first c.args.count c.args.access i rest (omega arith))
    ∙ l.invariant rest
