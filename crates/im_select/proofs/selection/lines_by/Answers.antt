use Rattle.std.proofs.Common.{ℕ, List, ◌<◌, length, sym, subst}
use Rattle.std.specs.Prelude.{All}
use Rattle.im_select.specs.Leads.{lead, kept}
use Rattle.im_select.specs.Emitted.{laid_order}
use Rattle.im_select.proofs.Following.{kept_are}
use Rattle.im_select.proofs.Ordering.{all_among, order_below}
use Rattle.im_select.proofs.selection.lines_by.Goals as goal

pub push_blocks-requires-clause-there : goal.push_blocks-requires-clause-there
push_blocks-requires-clause-there c =
    let function = c.args.names.now.function.now in
    let count : ℕ = length function.blocks.items in
    let leads : ℕ → ℕ = lead function.blocks.items function.entry in
    let order : List ℕ = laid_order function.entry count in
    subst (λ (z : List ℕ). All (λ b. b < count) z) (sym c.requires.order)
    (all_among (λ b. b < count) (kept leads order) (λ b a. order_below function.entry count c.requires.selectable.entry b (kept_are leads order b a).0))
