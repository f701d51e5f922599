-- A source has one program at most, and a right source within the limits is refused for want of memory alone.
use Rattle.std.specs.Prelude.{◌≡◌, ◌≤◌, ℕ, ◌+◌, ◌*◌, List, length, Some, slice_get}
use Rattle.im_fault.specs.declared.fault.Quantity.TheVariants.{Source, Frame, Code}
use Rattle.im_fault.specs.declared.fault.SourceFault.{SourceFault}
use Rattle.im_fault.specs.declared.fault.SourceFault.TheVariants.{OutOfMemory}
use Rattle.im_fault.specs.Texts.{limit_of}
use Rattle.im_typed.specs.Program.{Prog, Func}
use Rattle.im_typed.specs.Counts.{func_need, prog_nodes}
use Rattle.im_ctree.specs.Shape.{tree_of}
use Rattle.im_check_counts.specs.Derivations.{IsShallowUnit}
use Rattle.im_driver.specs.Compiled.{IsProgramOf, IsRefused}

-- a source has at most one program
abbrev pub OneProgramLaw : Type 0
OneProgramLaw = (source : List ℕ) (p q : Prog) → IsProgramOf source p → IsProgramOf source q → p ≡ q

-- a right source of this program, within the limits: each typedef name stands for few enough derivations, and each frame and the
-- code have room, by the source's own counts
pub record IsRight (source : List ℕ) (prog : Prog) : Type 0 where
  pub short : length source ≤ limit_of Source
  pub program : IsProgramOf source prog
  pub shallow : IsShallowUnit (tree_of program.tree)
  pub frames : (i : ℕ) (f : Func) → slice_get prog.funcs i ≡ Some f → func_need f ≤ limit_of Frame
  pub code : 4096 + 256 * prog_nodes prog ≤ limit_of Code

-- such a source is refused for want of memory alone
abbrev pub RightLaw : Type 0
RightLaw = (source : List ℕ) (prog : Prog) (fault : SourceFault) → IsRight source prog → IsRefused source fault → fault ≡ OutOfMemory
