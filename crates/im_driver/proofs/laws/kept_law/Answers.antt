use Rattle.std.proofs.Common.{refl}
use Rattle.im_typed.specs.ProgramOf.{program_of}
use Rattle.im_driver.proofs.Frames.{frames}
use Rattle.im_driver.proofs.laws.kept_law.Goals as goal

pub returns : goal.returns
returns c source prog options built ready is_built =
    let kept = c.built_keeps_law.ensures prog options built ready.is_source is_built in
    let passes = kept.keeps.passes in
    record {
      compiled = record {
        prog = program_of prog;
        program = ready.program;
        keeps = kept.keeps.keeps;
        survives = passes.survives;
        writes = λ input fits right. c.built_writes_law.ensures prog options built ready.is_source is_built input fits right (passes.safe input fits right) (passes.shows input fits right);
        ending = passes.ending;
        reaching = passes.reaching;
        measure = kept.measure;
        short = kept.gap;
        within = is_built.short;
        small = passes.small;
        frames = frames prog options built is_built passes.frames_fit;
        cuts = kept.cuts;
        asked = kept.asked;
        stack_is = is_built.pack.stack_is;
        out_cap_is = is_built.pack.out_cap_is;
      };
      is_made = refl;
      is_source = ready.is_source;
    }
