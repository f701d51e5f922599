-- A loop of one cut, behind the runtime: its 239 words, and the premises on runs, which it meets.
use Rattle.std.specs.Prelude.{ℕ, List, [], ◌∷◌, map}
use Rattle.im_rv.specs.Encode.{encoded}
use Rattle.im_replay.specs.Uninterrupted.{uninterrupted}
use Rattle.im_replay_witness.specs.Images.{with_runtime}
use Rattle.im_replay_witness.specs.Loop.{call_line, back_line, loop_memory}
use Rattle.im_gap.specs.Flows.{IsPlaced}

unfoldable pub loop_words : List ℕ
loop_words = map encoded (with_runtime (call_line ∷ back_line ∷ []))

-- it begins at 0x13B4, and its code ends before 0x13BC
abbrev pub LoopPlacedLaw : Type 0
LoopPlacedLaw = IsPlaced loop_words 0x13B4 0x13BC (uninterrupted loop_memory)
