use Rattle.std.proofs.Common.{ℕ, drop}
use Rattle.im_block.specs.Sections.{Has}
use Rattle.im_dep.proofs.pairs.share_one.Given as goal

-- what is in both is among those that are left
abbrev pub invariant-loop-object : goal.invariant-loop-object
invariant-loop-object l = (o : ℕ) → Has l.objects o → Has l.others o → Has (drop l.object-index l.objects) o
