use Rattle.std.proofs.Common.{rules, refl}
use Rattle.std.proofs.lemmas.Option.{slice_get_read}
use Rattle.im_link.proofs.Cutting.{accesses_inside, placed_by, adds_none, adds_one}
use Rattle.im_link.proofs.cuts.push_cut.Goals as goal

pub placed_cause-requires : goal.placed_cause-requires
placed_cause-requires c = accesses_inside _ _ c.requires.accesses _ c.requires.room

pub returns-in_ok-push : goal.returns-in_ok-push
returns-in_ok-push c named =
    let here = slice_get_read _ _ c.args.k c.index.result.now refl c.requires.inside c.index.ensures in
    adds_one c.args.part.now c.args.first c.args.k c.index.result.now c.in-Some.cause _ _ _ here c.in-Some.is c.in_ok-push.ensures.items refl (search rules)
    (placed_by _ _ c.requires.accesses c.args.first c.in-Some.cause _ (named _ _ here c.in-Some.is) c.placed_cause.ensures)

pub returns-in_default : goal.returns-in_default
returns-in_default c named = adds_none c.args.part.now c.args.first c.args.k c.index.result.now _ _ (slice_get_read _ _ c.args.k c.index.result.now refl c.requires.inside c.index.ensures) c.in_default.is refl
