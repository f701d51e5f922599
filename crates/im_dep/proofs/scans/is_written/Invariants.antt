use Rattle.std.proofs.Common.{◌≡◌, drop}
use Rattle.im_dep.specs.Spans.{is_covered}
use Rattle.im_dep.proofs.scans.is_written.Given as goal

-- none so far holds it
abbrev pub invariant-loop-span : goal.invariant-loop-span
invariant-loop-span l = is_covered (drop l.span-index l.written) l.place ≡ is_covered l.written l.place
