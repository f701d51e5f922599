-- What is built keeps its program.
use Rattle.std.proofs.Common.{ℕ, List, sym, subst}
use Rattle.im_gap.specs.Bound.{GapBoundLaw}
use Rattle.im_typed.specs.ProgramOf.{program_of}
use Rattle.im_keeps_source.specs.LoweringLaws.{LowersLaw}
use Rattle.im_keeps_source.specs.MiddleLaws.{MiddleLaw}
use Rattle.im_keeps_source.specs.Source.{source_of}
use Rattle.im_keeps_source.specs.Laws.{ProgramKeeps, ProgramKeepsLaw}
use Rattle.im_alloc_laws.specs.Laws.{PlacedCodeLaw}
use Rattle.im_cut_gap.specs.Laws.{GapApartLaw}
use Rattle.im_force.specs.Laws.{ForceKeepsLaw}
use Rattle.im_forward.specs.RegistersLaws.{RegistersLaw}
use Rattle.im_compile.specs.Passed.{ReadyLaw}
use Rattle.im_compile.specs.Built.{bytes_of}
use Rattle.im_keeps_built.specs.Laws.{BuiltSelectsLaw, BuiltKeepsLaw}
use Rattle.im_keeps_built.proofs.Chained.{gap_of, chain}
use Rattle.im_keeps_built.proofs.Cuts.{cuts_of, asked_of}

pub kept : BuiltSelectsLaw → LowersLaw → MiddleLaw → ProgramKeepsLaw → GapBoundLaw → RegistersLaw → ForceKeepsLaw → PlacedCodeLaw → GapApartLaw → ReadyLaw → BuiltKeepsLaw
kept selects lowers middle keeps bound registers force placing gaps ready prog options built source b =
    let passes =
    middle.whole (source_of (program_of prog)) (bytes_of b.layouts) built.image built.gap
    (chain lowers middle prog options built source b (selects prog options built source b)) in
    record {
      keeps = subst (λ (l : List ℕ). ProgramKeeps (program_of prog) l built.image built.gap) (sym b.frames.sizes)
          (keeps (program_of prog) (bytes_of b.layouts) built.image built.gap source.typed passes);
      gap = bound built.image.words built.image.entry built.gap (gap_of prog options built b);
      measure = gap_of prog options built b;
      asked = asked_of registers force placing gaps ready prog options built source b;
      cuts = cuts_of registers force placing gaps ready prog options built source b;
    }
