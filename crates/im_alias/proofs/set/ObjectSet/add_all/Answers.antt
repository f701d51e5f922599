use Rattle.std.proofs.Common.{◌+◌, ◌<◌, length, take, get_or, refl, sym, subst, arith}
use Rattle.im_alias.specs.Ascending.{Adds}
use Rattle.im_alias.proofs.Adding.{adds_more}
use Rattle.im_alias.proofs.set.ObjectSet.add_all.Goals as goal

pub loop-object-preserved : goal.loop-object-preserved
loop-object-preserved c =
    let l = c.loop-object in
    let xs = c.deref-object-items.result.now in
    let old = c.args.self.now.members.items in
    let new = c.add.new.self.members.items in
    let within : l.object-index < length xs = omega arith in
    subst (λ b. Adds old (take (l.object-index + 1) xs) new b) (sym c.either-changed.ensures)
    (adds_more old l.self.members.items new xs l.object-index (get_or xs l.object-index 0) l.changed c.in_ok-more.more within refl l.invariant c.in_ok-more.ensures)
