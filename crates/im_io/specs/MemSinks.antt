-- A sink in memory, and what a write does to it.
use Rattle.std.specs.Prelude.{ℕ, ◌⊎◌, Some, Result, Ok, Err, List, ◌++◌, take}
use Rattle.im_io.specs.Counts.{one_more, NextFails}
use Rattle.im_io.specs.Sink.{SinkState}
use Rattle.im_io.specs.Rooms.{room_left, NothingFits}

-- the bytes that it took, its room in all, how many writes were made, the numbers of those that are to
-- fail, and how many were refused
pub record MemorySink : Type 0 where
  pub contents : List ℕ
  pub room : ℕ
  pub made : ℕ
  pub failing : List ℕ
  pub faults : ℕ

-- what it tells as a sink: all that it took
abbrev pub state_of : MemorySink → SinkState
state_of sink = record { contents = Some sink.contents; faults = sink.faults }

abbrev pub left : MemorySink → ℕ
left sink = room_left sink.room sink.contents

-- the causes of a refusal
abbrev pub IsRefused : List ℕ → MemorySink → Type 0
IsRefused piece sink = NextFails sink.failing sink.made ⊎ NothingFits piece (left sink)

-- the sink after a write
abbrev pub after_write : {F : Type 0} → List ℕ → Result ℕ F → MemorySink → MemorySink
after_write piece (Ok count) sink = record { contents = sink.contents ++ take count piece; room = sink.room; made = one_more sink.made; failing = sink.failing; faults = sink.faults }
after_write piece (Err fault) sink = record { contents = sink.contents; room = sink.room; made = one_more sink.made; failing = sink.failing; faults = one_more sink.faults }
