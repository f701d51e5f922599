use Rattle.std.proofs.Common.{◌≡◌, ◌+◌, ◌<◌, ◌≤◌, ◌++◌, List, [], ◌∷◌, Some, suc, length, get_or, refl, sym, ap, ◌∙◌, subst, arith}
use Rattle.std.specs.Prelude.{slice_get, pos}
use Rattle.std.specs.Bool.{OnTrue}
use Rattle.im_block.specs.declared.code.Line.{Line}
use Rattle.im_block.specs.declared.code.Line.TheVariants.{Put}
use Rattle.im_forward.specs.Known.{IsDead}
use Rattle.im_block.proofs.Unitwise.{got}
use Rattle.im_forward.proofs.Leaving.{LeavesTo, keeps_more, drops_more, leaves_all, dead_at}
use Rattle.im_forward.proofs.dead.leave_out.Goals as goal
use Rattle.im_forward.proofs.dead.leave_out.Goals.{then-not-is_dead+in_ok-push, else-not-is_dead}

pub loop-i-preserved : goal.loop-i-preserved
loop-i-preserved c live of =
    let l = c.loop-i in
    let old = c.args.block.now.lines.items in
    let exit = c.args.block.now.exit in
    let items = c.deref-line-items.result.now in
    let same = c.deref-line-items.ensures.value in
    let line = get_or items l.i (Put 0 (pos 0)) in
    let within : l.i < length old = subst (λ (z : List Line). l.i < length z) same c.loop-i-test.true in
    let at : slice_get old l.i ≡ Some line = subst (λ (z : List Line). slice_get z l.i ≡ Some line) same (got items l.i (Put 0 (pos 0)) c.loop-i-test.true) in
    let so_far = l.invariant live of in
    let next : suc l.i ≡ l.i + 1 = omega arith in
    elim c.if-not-is_dead.branch [
      | then-not-is_dead+in_ok-push w ↦ (
          let kept : c.if-not-is_dead.kept.items ≡ l.kept.items ++ line ∷ [] = ap (λ z. z.items) w.kept-is ∙ w.in_ok-push.ensures.items in
          subst (LeavesTo live exit (l.i + 1) old) (sym kept)
          (subst (λ n. LeavesTo live exit n old (l.kept.items ++ line ∷ [])) next (keeps_more live exit l.i old l.kept.items line at so_far))
          )
      | else-not-is_dead w ↦ (
          let kept : c.if-not-is_dead.kept.items ≡ l.kept.items = ap (λ z. z.items) w.kept-is in
          let dead : IsDead c.args.base c.index.result.now line = subst (λ t. OnTrue t (IsDead c.args.base c.index.result.now line)) w.if-not-is_dead.false c.is_dead.ensures in
          let idle = dead_at live c.args.base c.args.starts.now old exit c.in_ok-words.words.items l.i c.index.result.now line of c.in_ok-words.ensures within c.index.ensures dead in
          subst (LeavesTo live exit (l.i + 1) old) (sym kept)
          (subst (λ n. LeavesTo live exit n old l.kept.items) next (drops_more live exit l.i old l.kept.items line at idle so_far))
          )
    ]

pub returns : goal.returns
returns c live of =
    let l = c.loop-i in
    let old = c.args.block.now.lines.items in
    let past : length old ≤ l.i = subst (λ (z : List Line). length z ≤ l.i) c.deref-line-items.ensures.value c.loop-i-test.false in
    record { lines = leaves_all live c.args.block.now.exit l.i old l.kept.items past (l.invariant live of); exit = refl }
