-- What is built is a chain of passes.
use Rattle.std.proofs.Common.{ℕ, List, Option, sym, subst}
use Rattle.im_gap.specs.Gap.{IsGap}
use Rattle.im_typed.specs.declared.program.Prog.{Prog}
use Rattle.im_typed.specs.ProgramOf.{program_of}
use Rattle.im_block.specs.declared.unit.Unit.{Unit as Code}
use Rattle.im_keeps_source.specs.LoweringLaws.{LowersLaw, NeedsFit}
use Rattle.im_keeps_source.specs.Source.{source_of}
use Rattle.im_pack_laws.specs.im_keeps_passes.Passes.{Lowers, Selects}
use Rattle.im_keeps_source.specs.Middle.{Chain}
use Rattle.im_keeps_source.specs.MiddleLaws.{MiddleLaw}
use Rattle.im_keeps_source.proofs.Needs.{needs_fit}
use Rattle.im_compile.specs.declared.options.Options.{Options}
use Rattle.im_compile.specs.declared.built.Built.{Built}
use Rattle.im_compile.specs.Passed.{IsSource, IsPassed}
use Rattle.im_compile.specs.Built.{IsBuilt, bytes_of}

pub fit : (prog : Prog) (max_gap : Option ℕ) (code : Code) → IsPassed prog max_gap code → NeedsFit (program_of prog)
fit prog max_gap code passed = needs_fit (program_of prog) passed.lowered passed.lower passed.told

pub gap_of : (prog : Prog) (options : Options) (built : Built) → IsBuilt prog options built → IsGap built.image.words built.image.entry built.gap
gap_of prog options built b =
    subst (λ (l : List ℕ). IsGap l built.image.entry built.gap) (sym b.pack.words)
    (subst (λ n. IsGap b.linked.words.items n built.gap) (sym b.pack.entry) b.measure)

-- with its locals in registers the code is still what lowering promises
pub lowers_in_registers : LowersLaw → MiddleLaw → (prog : Prog) (max_gap : Option ℕ) (code : Code) → IsSource prog → (p : IsPassed prog max_gap code) → Lowers (source_of (program_of prog)) p.forwarded
lowers_in_registers lowers middle prog max_gap code s p =
    middle.registers (source_of (program_of prog)) p.lowered p.forwarded
    (lowers (program_of prog) p.lowered s.typed s.within (fit prog max_gap code p) p.lower p.sized p.placeable p.uncut) p.registers

pub chain : LowersLaw → MiddleLaw → (prog : Prog) (options : Options) (built : Built) → IsSource prog → (b : IsBuilt prog options built)
    → Selects b.code (bytes_of b.layouts) built.image → Chain (source_of (program_of prog)) (bytes_of b.layouts) built.image built.gap
chain lowers middle prog options built s b selected = record {
  lowered = b.passed.forwarded;
  lower = lowers_in_registers lowers middle prog options.max_gap b.code s b.passed;
  forced = b.passed.forced;
  force = b.passed.force;
  tags = b.passed.tags;
  max_gap = options.max_gap;
  alias = b.passed.alias;
  placed = b.passed.placed;
  place = b.passed.place;
  sectioned = b.code;
  recut = b.passed.recut;
  select = selected;
  measure = gap_of prog options built b;
}
