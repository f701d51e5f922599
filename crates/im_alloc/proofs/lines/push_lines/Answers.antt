use Rattle.std.proofs.Common.{◌≡◌, ◌∙◌, ℕ, ◌+◌, ◌-◌, ◌<◌, Bool, List, drop, length, length-drop, take_all, get_or, sym, ap, subst, suc, pos, arith}
use Rattle.im_block.specs.declared.code.Line.{Line}
use Rattle.im_block.specs.declared.code.Line.TheVariants.{Put}
use Rattle.im_alloc_relation.specs.Homes.{Home}
use Rattle.im_alloc.specs.Parts.{calls, puts_line}
use Rattle.im_alloc_intervals.specs.Homes.{home_at}
use Rattle.im_alloc.proofs.Steps.{SoFar, one_put, none_put}
use Rattle.im_alloc.proofs.lines.push_lines.Goals as goal
use Rattle.im_alloc.proofs.lines.push_lines.Goals.{then-is_put+in_ok-end+in_ok-push_line, else-is_put}

pub loop-index-preserved : goal.loop-index-preserved
loop-index-preserved c =
    let l = c.loop-index in
    let h : ℕ → Home = home_at c.args.homes.now in
    let exit = c.args.exit in
    let old : List Line = c.args.old.now in
    let first : ℕ = c.args.number in
    let start : List Line = c.args.lines.now.items in
    let blank : Line = Put 0 (pos 0) in
    let line : Line = get_or old l.index blank in
    let within : l.index < length old = c.loop-index-test.true in
    let after : suc l.index ≡ l.index + 1 = omega arith in
    let rest : List Line = drop (l.index + 1) old in
    let whole = take_all (length old - (l.index + 1)) rest (omega (arith, length-drop (l.index + 1) old)) in
    let put : c.is_put.result ≡ puts_line exit l.behind_call line (drop (suc l.index) old) =
    c.is_put.ensures ∙ ap (λ q. puts_line exit l.behind_call line q) whole ∙ ap (λ j. puts_line exit l.behind_call line (drop j old)) (sym after) in
    let further : SoFar h exit old first start c.if-is_put.next (calls line) (suc l.index) c.if-is_put.lines.items =
    elim c.if-is_put.branch [
      | then-is_put+in_ok-end+in_ok-push_line k ↦
          let lines : c.if-is_put.lines.items ≡ k.push_line.new.lines.items = ap (λ v. v.items) k.lines-is in
          let more = one_put h exit old first start l.next l.behind_call l.index l.lines.items blank k.in_ok-end.end k.push_line.new.lines.items l.invariant within (sym put ∙ k.if-is_put.true) k.in_ok-end.ensures k.in_ok-push_line.ensures in
          subst (λ (t : List Line). SoFar h exit old first start c.if-is_put.next (calls line) (suc l.index) t) (sym lines) (subst (λ (n : ℕ). SoFar h exit old first start n (calls line) (suc l.index) k.push_line.new.lines.items) (sym k.next-is) more)
      | else-is_put k ↦
          let lines : c.if-is_put.lines.items ≡ l.lines.items = ap (λ v. v.items) k.lines-is in
          let same = none_put h exit old first start l.next l.behind_call l.index l.lines.items blank l.invariant within (sym put ∙ k.if-is_put.false) in
          subst (λ (t : List Line). SoFar h exit old first start c.if-is_put.next (calls line) (suc l.index) t) (sym lines) (subst (λ (n : ℕ). SoFar h exit old first start n (calls line) (suc l.index) l.lines.items) (sym k.next-is) same)
    ] in
    subst (λ (b : Bool). SoFar h exit old first start c.if-is_put.next b (l.index + 1) c.if-is_put.lines.items) (sym c.is_call-behind_call.ensures)
    (subst (λ (j : ℕ). SoFar h exit old first start c.if-is_put.next (calls line) j c.if-is_put.lines.items) after further)
