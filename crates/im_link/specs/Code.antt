-- What linking is given and what it gives.
use Rattle.std.specs.Prelude.{◌≡◌, ℕ, ◌-◌, ◌^◌, ◌<◌, ◌≤◌, min, List, Some, length, slice_get}
use Rattle.im_num.specs.declared.values.Cause.{Cause}
use Rattle.im_rv.specs.declared.code.Line.{Line}
use Rattle.im_rv.specs.declared.code.Part.{Part}
use Rattle.im_rv.specs.declared.code.Code.{Code}
use Rattle.im_rv.specs.Code.{address}
use Rattle.im_link.specs.declared.fault.LinkFault.{LinkFault}
use Rattle.im_link.specs.declared.fault.LinkFault.TheVariants.{Limit, OutOfMemory}
use Rattle.im_link.specs.Parts.{byte_count, word_count, lines_of, first_of, last_of, IsPart, HasLastLine}
use Rattle.im_link.specs.Links.{AreLabelsApart, AreTargetsNear, AreWordsOf}
use Rattle.im_link.specs.Cuts.{HasAccesses, AreCutsOf}

-- the accesses that a dependence names are those of lines of its own part
abbrev pub AreDependencesNamed : List Part → Type 0
AreDependencesNamed parts = (p k : ℕ) (part : Part) (line : Line) (cause : Cause) → IsPart parts p part → slice_get part.lines.items k ≡ Some line → line.cause ≡ Some cause → HasAccesses part.lines.items cause

-- what is asked of parts
pub record IsLinkable (parts : List Part) : Type 0 where
  pub last : HasLastLine parts
  pub labels : AreLabelsApart (lines_of parts)
  pub targets : AreTargetsNear (lines_of parts)
  pub dependences : AreDependencesNamed parts

-- the bytes that a code may have, from 0x1000 to 0x100000
abbrev pub byte_limit : ℕ
byte_limit = 1044480

-- the code of these parts: the words of their lines, the entry that of the last part's first word, the cuts
pub record IsLinked (parts : List Part) (code : Code) : Type 0 where
  pub words : AreWordsOf (lines_of parts) code.words.items
  pub size : length code.words.items ≡ word_count parts
  pub fits : byte_count parts ≤ byte_limit
  pub entry : code.entry ≡ address (first_of parts (last_of parts))
  pub inside : first_of parts (last_of parts) < length code.words.items
  pub cuts : AreCutsOf parts code.cuts.items

-- the number of bytes, as far as it can be told: it stays at 2^64 - 1
abbrev pub told_count : List Part → ℕ
told_count parts = min (byte_count parts) (2 ^ 64 - 1)

abbrev pub IsFaultOf : List Part → LinkFault → Type 0
IsFaultOf parts (Limit bytes) = (byte_limit < byte_count parts) × (bytes ≡ told_count parts)
IsFaultOf parts OutOfMemory = Unit {0}
