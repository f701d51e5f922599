use Rattle.std.proofs.Common.{◌≡◌, ◌++◌, drop}
use Rattle.std.specs.Prelude.{slice_index}
use Rattle.im_select.specs.Leads.{kept}
use Rattle.im_select.proofs.leads.kept.Given as goal

-- those that are put and those that are left
abbrev pub invariant-loop-place : goal.invariant-loop-place
invariant-loop-place l = l.those.items ++ kept (slice_index l.leads) (drop l.place l.order) ≡ kept (slice_index l.leads) l.order
