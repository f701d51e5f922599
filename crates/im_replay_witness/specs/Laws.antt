-- The loop of one cut: its longest gap, and what follows for a device whose power fails.
use Rattle.im_gap.specs.Gap.{IsGap}
use Rattle.im_replay.specs.Uninterrupted.{uninterrupted}
use Rattle.im_replay.specs.Replays.{Progresses}
use Rattle.im_replay_witness.specs.Loop.{loop_memory}
use Rattle.im_replay_witness.specs.GapLoop.{loop_words}

-- it begins at 0x13B4
abbrev pub LoopGapLaw : Type 0
LoopGapLaw = IsGap loop_words 0x13B4 45

-- each period of 45 instructions or more commits or ends the run, whatever periods came before
abbrev pub LoopProgressesLaw : Type 0
LoopProgressesLaw = Progresses (uninterrupted loop_memory) loop_memory 45
