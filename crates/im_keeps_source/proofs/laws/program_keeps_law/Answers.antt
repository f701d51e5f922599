use Rattle.im_keeps_source.specs.Source.{source_of}
use Rattle.im_keeps_source.proofs.laws.program_keeps_law.Goals as goal

pub returns : goal.returns
returns c prog frames image gap typed passes =
    let k = c.passes_keep_law.ensures (source_of prog) frames image gap (c.source_law.ensures prog typed) passes in
    record { keeps = k.keeps; passes = k }
