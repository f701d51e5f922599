use Rattle.std.proofs.Common.{◌≡◌, ◌*◌, ℕ, List, Some, length, sym, ap, ◌∙◌, subst}
use Rattle.std.specs.Prelude.{Vec, slice_get}
use Rattle.std.specs.declared.alloc.Global.{Global}
use Rattle.im_block.specs.declared.code.Exit.{Exit}
use Rattle.im_block.specs.Wellformed.{ExitThere}
use Rattle.im_block_live.specs.Words.{groups_have}
use Rattle.im_forward.specs.Known.{AreOf}
use Rattle.im_block.proofs.Unitwise.{got}
use Rattle.im_forward.proofs.Functions.{stays, left_again, group_of}
use Rattle.im_forward.proofs.dead.leave_out_groups.Goals as goal

pub loop-i-init : goal.loop-i-init
loop-i-init c = stays (groups_have c.args.groups.now) c.args.block.now

pub leave_out-requires : goal.leave_out-requires
leave_out-requires c =
    let l = c.loop-i in
    let words = c.index-groups-i.result in
    let there : ExitThere (length words.items) c.args.block.now.exit = subst (λ (z : Vec ℕ Global). ExitThere (length z.items) c.args.block.now.exit) (sym c.index-groups-i.is) (c.requires.there l.i words c.loop-i-test.true) in
    let here : ExitThere (length words.items) l.block.exit = subst (λ (z : Exit). ExitThere (length words.items) z) (sym l.invariant.exit) there in
    subst (λ (z : List ℕ). ExitThere (length z) l.block.exit) (sym c.deref.ensures.value) here

pub loop-i-preserved : goal.loop-i-preserved
loop-i-preserved c =
    let l = c.loop-i in
    let groups = c.args.groups.now in
    let words = c.index-groups-i.result in
    let at : slice_get groups l.i ≡ Some words = got groups l.i words c.loop-i-test.true ∙ ap (λ (z : Vec ℕ Global). Some z) (sym c.index-groups-i.is) in
    let of : AreOf (groups_have groups) (32 * l.i) c.deref.result.now = subst (AreOf (groups_have groups) (32 * l.i)) (sym c.deref.ensures.value) (group_of groups l.i words at) in
    left_again (groups_have groups) c.args.block.now l.block c.leave_out.new.block l.invariant (c.in_ok-leave_out.ensures (groups_have groups) of)
