use Rattle.std.proofs.Common.{◌≡◌, Some, refl, sym, ◌∙◌, length}
use Rattle.std.specs.Vec.{with_item}
use Rattle.im_alias.specs.declared.table.RegisterSets.{RegisterSets}
use Rattle.im_alias.specs.Sets.{points}
use Rattle.im_alias.specs.Scan.{target_of}
use Rattle.im_alias.proofs.Steps.{passes_some, target_within}
use Rattle.im_alias.proofs.spot.pass.Goals as goal

pub returns-in_ok-set : goal.returns-in_ok-set
returns-in_ok-set c =
    let old = c.args.spot.now in
    let to = c.in-Some.to in
    let set = c.in_ok-set.set in
    let line = c.args.line in
    let new : RegisterSets = record { sets = with_item old.sets to set } in
    let e : target_of line ≡ Some to = sym c.target.ensures ∙ c.in-Some.is in
    passes_some (points c.args.table.now) line old new to set e (target_within (length old.sets.items) to line e c.requires.within) refl c.in_ok-set.ensures
