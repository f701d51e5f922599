-- Linked code has a longest gap, which its sections bound.
use Rattle.std.specs.Prelude.{◌≡◌, ℕ, ◌+◌, ◌≤◌, List, length, Some, slice_get}
use Rattle.im_rv.specs.declared.code.Part.{Part}
use Rattle.im_rv.specs.declared.code.Code.{Code as Linked}
use Rattle.im_gap.specs.Gap.{recovery_steps, IsGap, HasGap}
use Rattle.im_link.specs.Code.{IsLinkable, IsLinked}
use Rattle.im_block.specs.declared.unit.Function.{Function}
use Rattle.im_block.specs.declared.unit.Unit.{Unit as Code}
use Rattle.im_block.specs.Shape.{AllOrdered}
use Rattle.im_block.specs.Forced.{AllForced}
use Rattle.im_cut_gap.specs.Costs.{NoneLonger}
use Rattle.im_frame.specs.declared.layout.Layout.{Layout}
use Rattle.im_link_laws.specs.Program.{IsProgram}

-- there is a longest gap, and it has at most an instruction for each word, beside those of recovery
pub record HasShortGap (words : List ℕ) (entry : ℕ) : Type 0 where
  pub has : HasGap words entry
  pub short : (k : ℕ) → IsGap words entry k → k ≤ recovery_steps + length words

abbrev pub LinkedGapLaw : Type 0
LinkedGapLaw =
    (u : Code) (statics : List ℕ) (layouts : List Layout) (parts : List Part) → IsProgram u statics layouts parts → AllOrdered u → AllForced u →
    (code : Linked) → IsLinkable parts → IsLinked parts code → HasShortGap code.words.items code.entry

-- no path without a cut of any function costs more words than the limit
pub record AllShort (limit : ℕ) (u : Code) : Type 0 where
  pub each : (i : ℕ) (f : Function) → slice_get u.functions.items i ≡ Some f → NoneLonger limit f

-- then a period needs 110 instructions more at most: for recovery, for a checkpoint, and for what a call leads to before its first cut
abbrev pub LinkedShortLaw : Type 0
LinkedShortLaw =
    (u : Code) (statics : List ℕ) (layouts : List Layout) (parts : List Part) → IsProgram u statics layouts parts → AllOrdered u → AllForced u →
    (limit : ℕ) → AllShort limit u →
    (code : Linked) → IsLinkable parts → IsLinked parts code → (k : ℕ) → IsGap code.words.items code.entry k → k ≤ limit + 110
