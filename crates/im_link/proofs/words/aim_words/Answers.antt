use Rattle.std.proofs.Common.{◌∙◌, arith, refl}
use Rattle.std.specs.Prelude.{nat_eq}
use Rattle.std.specs.HashMap as hash
use Rattle.im_link.proofs.Keeping.{none_aimed, near_at, aim_next, all_aimed}
use Rattle.im_link.proofs.words.aim_words.Goals as goal

pub loop-aim-init : goal.loop-aim-init
loop-aim-init c = (refl, λ lines kept. none_aimed lines _ _ _ kept)

pub aimed_word-requires : goal.aimed_word-requires
aimed_word-requires c = (near_at (hash.get nat_eq c.args.places.now) _ c.loop-aim.aim-index c.args.aims.now c.aim-item.result c.loop-aim-test.true c.aim-item.is c.requires).1

pub put-requires : goal.put-requires
put-requires c =
    let inside = (near_at (hash.get nat_eq c.args.places.now) _ c.loop-aim.aim-index c.args.aims.now c.aim-item.result c.loop-aim-test.true c.aim-item.is c.requires).0 in
    let count = c.loop-aim.invariant.0 in
    omega arith

pub loop-aim-preserved : goal.loop-aim-preserved
loop-aim-preserved c = (
  c.put.ensures.count ∙ c.loop-aim.invariant.0,
  λ lines kept. aim_next lines c.args.words.now.items c.args.aims.now (hash.get nat_eq c.args.places.now) c.loop-aim.aim-index c.aim-item.result c.loop-aim-test.true c.aim-item.is _ _ _ kept
      c.aimed_word.ensures c.put.ensures (c.loop-aim.invariant.1 lines kept),
)

pub returns : goal.returns
returns c lines kept = all_aimed lines _ c.args.aims.now _ c.loop-aim.aim-index c.loop-aim-test.false _ kept (c.loop-aim.invariant.1 lines kept)
