use Rattle.std.proofs.Common.{◌≡◌, ◌/◌, ◌%◌, ◌<◌, ℕ, length, Option, Some, sym, ap, ◌∙◌, subst, arith}
use Rattle.std.specs.Prelude.{Vec, slice_get, slice_index}
use Rattle.std.specs.declared.alloc.Global.{Global}
use Rattle.im_block_live.specs.Words.{has, group_has}
use Rattle.im_block.proofs.Unitwise.{got}
use Rattle.im_forward.proofs.Leaving.{default_free}
use Rattle.im_forward.proofs.dying.lives_at.Goals as goal

pub returns : goal.returns
returns c =
    let groups = c.args.groups.now in
    let i : ℕ = c.args.register / 32 in
    let j : ℕ = c.args.register % 32 in
    let number = c.args.number in
    let words = c.index-groups-i.result in
    let lt : i < length groups = (let t = c.if-i-groups.false in omega arith) in
    let at : slice_get groups i ≡ Some words = got groups i words lt ∙ ap (λ (z : Vec ℕ Global). Some z) (sym c.index-groups-i.is) in
    let there : number < length words.items = subst (λ (z : Vec ℕ Global). number < length z.items) (sym c.index-groups-i.is) (c.requires i words lt) in
    let word : c.index.result.now ≡ slice_index words.items number = c.index.ensures ∙ default_free words.items number c.index.result.now 0 there in
    c.has_bit.ensures ∙ ap (λ (z : ℕ). has z j) word ∙ ap (λ (o : Option (Vec ℕ Global)). group_has o number j) (sym at)
