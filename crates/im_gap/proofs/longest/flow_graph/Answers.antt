use Rattle.std.proofs.Common.{rules, refl, ◌∙◌}
use Rattle.im_gap.proofs.Assembling.{whole_from}
use Rattle.im_gap.proofs.longest.flow_graph.Goals as goal

pub returns : goal.returns
returns c = whole_from _ _ _ _ _ c.in_ok-push_words.ensures (c.shrink_to_fit.ensures.items ∙ c.in_ok-push_behind.ensures) c.in_ok-push.ensures.items (search rules) (search rules) refl
