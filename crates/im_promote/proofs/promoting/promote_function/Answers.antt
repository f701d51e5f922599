use Rattle.std.proofs.Common.{subst, sym, refl}
use Rattle.im_promote.specs.Homes.{IsPromotedFunction}
use Rattle.im_promote.proofs.Functions.{promoted_of, stays_promoted}
use Rattle.im_promote.proofs.promoting.promote_function.Goals as goal
use Rattle.im_promote.proofs.promoting.promote_function.Goals.{then-has_room, else-has_room}

pub returns : goal.returns
returns c =
    let f = c.args.function.now in
    let homes = c.in_ok-homes.homes in
    elim c.if-has_room.branch [
      | then-has_room w ↦ subst (IsPromotedFunction f) (sym w.function-is) (promoted_of f w.rewrite.new.function homes.of.items homes.register_count c.requires c.in_ok-homes.ensures w.rewrite.ensures (w.if-has_room.ensures refl))
      | else-has_room w ↦ subst (IsPromotedFunction f) (sym w.function-is) (stays_promoted f c.requires)
    ]
