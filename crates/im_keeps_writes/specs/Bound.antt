-- A bound of the bytes of each function in what is built.
use Rattle.std.specs.Prelude.{◌≡◌, ◌≤◌, ℕ, ◌+◌, ◌*◌, Some, slice_get}
use Rattle.im_rv.specs.declared.code.Part.{Part}
use Rattle.im_link.specs.Parts.{IsPart, part_size}
use Rattle.im_typed.specs.declared.program.Prog.{Prog}
use Rattle.im_typed.specs.ProgramOf.{program_of}
use Rattle.im_typed.specs.Program.{Func}
use Rattle.im_typed.specs.Counts.{func_nodes}
use Rattle.im_link_laws.specs.Program.{part_of}
use Rattle.im_compile.specs.declared.options.Options.{Options}
use Rattle.im_compile.specs.declared.built.Built.{Built}
use Rattle.im_compile.specs.Passed.{IsSource}
use Rattle.im_compile.specs.Built.{IsBuilt}

-- each line of a part is a word, of four bytes
abbrev pub bytes_of : Part → ℕ
bytes_of part = 4 * part_size part

abbrev pub BuiltBoundLaw : Type 0
BuiltBoundLaw =
    (prog : Prog) (options : Options) (built : Built) → IsSource prog → (b : IsBuilt prog options built) →
    (k : ℕ) (f : Func) (part : Part) → slice_get (program_of prog).funcs k ≡ Some f → IsPart b.parts (part_of k) part →
    bytes_of part ≤ 256 * (func_nodes f + 1)
