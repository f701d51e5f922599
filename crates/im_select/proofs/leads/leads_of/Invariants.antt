use Rattle.std.proofs.Common.{◌≡◌, ◌<◌, ℕ, length}
use Rattle.std.specs.Prelude.{slice_index}
use Rattle.im_select.specs.Leads.{lead}
use Rattle.im_select.proofs.leads.leads_of.Given as goal

-- so far each is where the block leads
abbrev pub invariant-loop-number : goal.invariant-loop-number
invariant-loop-number l = (length l.leads.items ≡ l.number) × ((b : ℕ) → b < l.number → slice_index l.leads.items b ≡ lead l.function.blocks.items l.function.entry b)
