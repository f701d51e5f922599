-- What holds of typed programs and of the images that passes make of them.
use Rattle.std.specs.Prelude.{ℕ, List}
use Rattle.im_image.specs.Contents.{ImageValue}
use Rattle.im_typed.specs.Program.{Prog}
use Rattle.im_typed.specs.Typing.{IsWellTyped}
use Rattle.im_typed.specs.Programs.{meaning}
use Rattle.im_keeps.specs.Keeps.{Meaning, Keeps}
use Rattle.im_keeps_passes.specs.Source.{IsRightSource}
use Rattle.im_keeps_passes.specs.Passes.{Passes}
use Rattle.im_keeps_passes.specs.Laws.{PassesKeep}
use Rattle.im_keeps_source.specs.Source.{source_of}

abbrev pub SourceLaw : Type 0
SourceLaw = (prog : Prog) → IsWellTyped prog → IsRightSource (source_of prog)

-- the program's meaning with these frames and with the image's stack and capacity
abbrev pub meaning_of : Prog → List ℕ → ImageValue → Meaning
meaning_of prog frames image input fuel =
    meaning (record { prog = prog; frames = frames; stack = image.stack; capacity = image.out_cap }) input fuel

pub record ProgramKeeps (prog : Prog) (frames : List ℕ) (image : ImageValue) (gap : ℕ) : Type 0 where
  pub keeps : Keeps (meaning_of prog frames image) image gap
  pub passes : PassesKeep (source_of prog) frames image gap

abbrev pub ProgramKeepsLaw : Type 0
ProgramKeepsLaw =
    (prog : Prog) (frames : List ℕ) (image : ImageValue) (gap : ℕ) →
    IsWellTyped prog → Passes (source_of prog) frames image gap → ProgramKeeps prog frames image gap
