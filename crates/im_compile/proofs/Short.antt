-- The longest gap is within what was asked for.
use Rattle.std.proofs.Common.{ℕ, ◌+◌, ◌≤◌, List, Option, Some, None, arith}
use Rattle.std.specs.Prelude.{◌-◌}
use Rattle.im_rv.specs.declared.code.Part.{Part}
use Rattle.im_rv.specs.declared.code.Code.{Code as Linked}
use Rattle.im_link.specs.Code.{IsLinkable, IsLinked}
use Rattle.im_link_laws.specs.Program.{IsProgram}
use Rattle.im_gap.specs.Gap.{IsGap}
use Rattle.im_gap_ranked.specs.Laws.{LinkedShortLaw}
use Rattle.im_block.specs.declared.unit.Unit.{Unit as Code}
use Rattle.im_frame.specs.declared.layout.Layout.{Layout}
use Rattle.im_recut.specs.Recut.{cost_limit}
use Rattle.im_typed.specs.declared.program.Prog.{Prog}
use Rattle.im_compile.specs.Passed.{IsReady, IsGapOption}
use Rattle.im_compile.specs.Built.{IsGapWithin}

pub gap_within : LinkedShortLaw → (prog : Prog) (max_gap : Option ℕ) (u : Code) (statics : List ℕ) (layouts : List Layout) (parts : List Part) → IsGapOption max_gap → IsReady prog max_gap u →
    IsProgram u statics layouts parts → (code : Linked) → IsLinkable parts → IsLinked parts code → (k : ℕ) → IsGap code.words.items code.entry k → IsGapWithin max_gap k
gap_within law prog None u statics layouts parts option ready program code linkable link k is = tt
gap_within law prog (Some gap) u statics layouts parts option ready program code linkable link k is =
    within gap k option.0 (law u statics layouts parts program ready.ordered ready.forced (cost_limit gap) (record { each = ready.short }) code linkable link k is)
  where
    within : (n j : ℕ) → 160 ≤ n → j ≤ (n - 110) + 110 → j ≤ n
    within n j enough le = omega arith
