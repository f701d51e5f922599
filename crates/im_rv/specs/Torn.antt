-- Power that fails within an instruction: of a store some bytes are written.
use Rattle.std.specs.Prelude.{ℕ, ◌+◌, ◌/◌, ◌%◌, cond, ◌&&◌, ◌==◌, List, [], ◌∷◌}
use Rattle.im_num.specs.Bytes.{bytes_of}
use Rattle.im_mem.specs.Memory.{Mem, is_place}
use Rattle.im_rv.specs.declared.effect.Effect.{Effect}
use Rattle.im_rv.specs.declared.effect.Effect.TheVariants.{Puts, Goes, Loads, Stores, Stops}
use Rattle.im_rv.specs.Steps.{Cpu}
use Rattle.im_rv.specs.Effects.{effect_of}

-- memory with byte i of these, from a on, where bit i of the mask is set
abbrev pub masked : ℕ → Mem → ℕ → List ℕ → Mem
masked mask m a [] = m
masked mask m a (b ∷ bs) = masked (mask / 2) (λ k. cond (k == a && mask % 2 == 1) b (m k)) (a + 1) bs

-- what is written of an effect: something of a store alone, and nothing of one that would fault
abbrev pub torn_by : ℕ → Mem → Effect → Mem
torn_by mask m (Puts v target) = m
torn_by mask m (Goes target) = m
torn_by mask m (Loads a n extension) = m
torn_by mask m (Stores a n v) = cond (is_place a n) (masked mask m a (bytes_of n v)) m
torn_by mask m Stops = m

-- memory as power leaves it that fails within the instruction at the pc
abbrev pub torn_of : ℕ → Cpu → Mem → Mem
torn_of mask c m = torn_by mask m (effect_of c m)
