-- What runs of the machine touch in memory, fetches aside.
use Rattle.std.specs.Prelude.{ℕ, zero, suc, List, [], ◌∷◌, ◌++◌, Bool, cond, ◌||◌, ◌==◌, nat_lt, nat_le, Option, Some, None}
use Rattle.im_mem.specs.Map.{index_at, statics_start, input_start}
use Rattle.im_mem.specs.Memory.{Mem, loaded}
use Rattle.im_rv.specs.declared.step.Went.{Went}
use Rattle.im_rv.specs.declared.step.Went.TheVariants.{On, Halted, Faulted}
use Rattle.im_rv.specs.declared.effect.Effect.{Effect}
use Rattle.im_rv.specs.declared.effect.Effect.TheVariants.{Puts, Goes, Loads, Stores, Stops}
use Rattle.im_rv.specs.Steps.{Cpu, row}
use Rattle.im_rv.specs.Decode.{Line, decode}
use Rattle.im_rv.specs.Runs.{step_of}

-- an access to so many bytes from an address on; a store of INDEX, as a flip of the register buffers
pub data Touch : Type 0 where
  Loaded : (address size : ℕ) → Touch
  Stored : (address size : ℕ) → Touch
  Flipped : Touch

abbrev pub touch_of : Effect → List Touch
touch_of (Puts v target) = []
touch_of (Goes target) = []
touch_of (Loads a n extension) = Loaded a n ∷ []
touch_of (Stores a n v) = Stored a n ∷ []
touch_of Stops = []

abbrev pub line_touches : Cpu → Option Line → List Touch
line_touches c None = []
line_touches c (Some l) = touch_of (row l.op c.pc (c.x l.rs1) (c.x l.rs2) l.imm)

abbrev pub word_touches : Cpu → Option ℕ → List Touch
word_touches c None = []
word_touches c (Some w) = line_touches c (decode w)

-- of one step
abbrev pub touches : Cpu → Mem → List Touch
touches c m = word_touches c (loaded m c.pc 4)

abbrev pub touched_on : (Cpu → Mem → List Touch) → Cpu → Mem → Went → List Touch
touched_on next c m On = next c m
touched_on next c m Halted = []
touched_on next c m (Faulted at) = []

-- of n steps
abbrev pub touched : ℕ → Cpu → Mem → List Touch
touched zero c m = []
touched (suc n) c m = let s = step_of c m in touches c m ++ touched_on (touched n) s.cpu s.mem s.went

-- the low page, the input and the output belong to the routines and to the lines that begin and end
abbrev pub is_system : ℕ → Bool
is_system a = nat_lt a statics_start || nat_le input_start a

-- what is touched beside those; of those, a store of INDEX alone is seen
abbrev pub heard : List Touch → List Touch
heard [] = []
heard (Loaded a n ∷ ts) = cond (is_system a) (heard ts) (Loaded a n ∷ heard ts)
heard (Stored a n ∷ ts) = cond (is_system a) (cond (a == index_at) (Flipped ∷ heard ts) (heard ts)) (Stored a n ∷ heard ts)
heard (Flipped ∷ ts) = Flipped ∷ heard ts
