use Rattle.std.proofs.Common.{ap, ◌∙◌}
use Rattle.im_check_items.specs.im_rules.StaticValues.{moved_spot, bytes_moved}
use Rattle.im_check_static_values.specs.Spots.{stepped}
use Rattle.im_check_static_values.proofs.Stepping.{one_more}
use Rattle.im_check_static_values.proofs.steps.add_move.Goals as goal

pub returns-in_ok-push-in-Some : goal.returns-in_ok-push-in-Some
returns-in_ok-push-in-Some c = λ types size from.
    let told = rw c.in-Some.is at c.in_ok-constant_value.ensures types in
    let more = one_more size c.args.steps.now.items c.push.new.self.items _ from c.in_ok-push-in-Some.ensures.items in
    more ∙ ap (λ z. stepped size c.args.steps.now.items (moved_spot size from (bytes_moved c.args.bytes c.args.back z))) told
