use Rattle.std.proofs.Common.{arith, ap, sym, ◌∙◌}
use Rattle.im_typed.specs.ProgramOf.{place_of}
use Rattle.im_check_items.specs.im_rules.StaticValues.{spot_of}
use Rattle.im_check_static_values.specs.Spots.{stepped}
use Rattle.im_check_static_values.proofs.Stepping.{one_more}
use Rattle.im_check_static_values.proofs.steps.root_of.Goals as goal

pub loop-whole-preserved : goal.loop-whole-preserved
loop-whole-preserved c =
    let so = c.loop-whole.invariant in
    let outer = c.in-Ok.ensures in (
      (λ types size.
          let more = one_more size c.loop-whole.steps.items c.push.new.self.items _ (spot_of size (place_of types c.in-Ok.whole)) c.in_ok-push-in-Ok.ensures.items in
          more ∙ ap (stepped size c.loop-whole.steps.items) (sym (outer.0 types size)) ∙ so.0 types size),
      omega (arith, outer.1, so.1),
    )
