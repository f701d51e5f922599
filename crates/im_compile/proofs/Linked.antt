-- The parts that were set out may be linked, and their code may be packed.
use Rattle.std.proofs.Common.{◌≤◌, ℕ, List, Option, length, arith}
use Rattle.im_rv.specs.declared.code.Part.{Part}
use Rattle.im_rv.specs.declared.code.Code.{Code as Linked}
use Rattle.im_link.specs.Code.{IsLinkable, IsLinked}
use Rattle.im_link.specs.Parts.{first_of, last_of}
use Rattle.im_link_laws.specs.Laws.{LinkableLaw}
use Rattle.im_typed.specs.declared.program.Prog.{Prog}
use Rattle.im_pack.specs.Packed.{IsLoadable}
use Rattle.im_compile.specs.declared.setting_out.Unlinked.{Unlinked}
use Rattle.im_compile.specs.Made.{IsUnlinkedFrom}
use Rattle.im_compile.specs.Passed.{IsSource, IsReady, ReadyLaw}

pub ready_of : ReadyLaw → (prog : Prog) (max_gap : Option ℕ) (unlinked : Unlinked) → IsSource prog → (a : IsUnlinkedFrom prog max_gap unlinked) → IsReady prog max_gap a.made.unit
ready_of law prog max_gap unlinked source a = law prog max_gap a.made.unit source a.is_made.passed

pub linkable_of : ReadyLaw → LinkableLaw → (prog : Prog) (max_gap : Option ℕ) (unlinked : Unlinked) → IsSource prog → (a : IsUnlinkedFrom prog max_gap unlinked) → IsLinkable a.set_out.parts
linkable_of law linkable prog max_gap unlinked source a =
    let s = a.set_out in
    linkable a.made.unit unlinked.addresses.items s.layouts s.parts s.assemble (ready_of law prog max_gap unlinked source a).named

pub few : (parts : List Part) (code : Linked) → IsLinked parts code → length code.words.items ≤ 261120
few parts code l = let size = l.size in let fits = l.fits in omega (arith, size, fits)

pub loadable : (parts : List Part) (code : Linked) → IsLinked parts code → IsLoadable code
loadable parts code l = record { few = few parts code l; first = first_of parts (last_of parts); inside = l.inside; entry = l.entry }
