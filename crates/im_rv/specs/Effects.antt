-- The instruction at the pc, what it does, and which bytes and registers that concerns.
use Rattle.std.specs.Prelude.{ℕ, ◌+◌, Bool, false, cond, ◌&&◌, ◌==◌, nat_le, nat_lt, Option, Some, None, List, [], ◌∷◌}
use Rattle.im_num.specs.Bytes.{bytes_of}
use Rattle.im_mem.specs.Memory.{Mem, loaded, is_place}
use Rattle.im_rv.specs.declared.effect.Effect.{Effect}
use Rattle.im_rv.specs.declared.effect.Effect.TheVariants.{Puts, Goes, Loads, Stores, Stops}
use Rattle.im_rv.specs.Steps.{Cpu, row}
use Rattle.im_rv.specs.Decode.{Line, decode}

-- the instruction of a word, if there is one
abbrev pub decoded_word : Option ℕ → Option Line
decoded_word None = None
decoded_word (Some w) = decode w

-- the instruction at the pc, if there is one
abbrev pub fetched_line : Cpu → Mem → Option Line
fetched_line c m = decoded_word (loaded m c.pc 4)

abbrev pub effect : Cpu → Line → Effect
effect c l = row l.op c.pc (c.x l.rs1) (c.x l.rs2) l.imm

abbrev pub effect_by : Cpu → Option Line → Effect
effect_by c None = Stops
effect_by c (Some l) = effect c l

-- what the instruction at the pc does; where there is none, nothing
abbrev pub effect_of : Cpu → Mem → Effect
effect_of c m = effect_by c (fetched_line c m)

-- these bytes from a on, and none elsewhere
abbrev pub patch : ℕ → List ℕ → ℕ → Option ℕ
patch a [] k = None
patch a (b ∷ bs) k = cond (k == a) (Some b) (patch (a + 1) bs k)

-- the byte that an instruction writes at k
abbrev pub writes_by : Effect → ℕ → Option ℕ
writes_by (Puts v target) k = None
writes_by (Goes target) k = None
writes_by (Loads a n extension) k = None
writes_by (Stores a n v) k = cond (is_place a n) (patch a (bytes_of n v) k) None
writes_by Stops k = None

-- whether an instruction reads the byte at k
abbrev pub reads_by : Effect → ℕ → Bool
reads_by (Puts v target) k = false
reads_by (Goes target) k = false
reads_by (Loads a n extension) k = is_place a n && nat_le a k && nat_lt k (a + n)
reads_by (Stores a n v) k = false
reads_by Stops k = false

-- whether an instruction with this rd sets register i
abbrev pub sets_by : Effect → ℕ → ℕ → Bool
sets_by (Puts v target) rd i = i == rd && nat_lt 0 rd
sets_by (Goes target) rd i = false
sets_by (Loads a n extension) rd i = i == rd && nat_lt 0 rd
sets_by (Stores a n v) rd i = false
sets_by Stops rd i = false

-- a word's store at b
abbrev pub stores_word : Effect → ℕ → Bool
stores_word (Puts v target) b = false
stores_word (Goes target) b = false
stores_word (Loads a n extension) b = false
stores_word (Stores a n v) b = a == b && n == 4 && is_place a n
stores_word Stops b = false

-- the registers that the fields of an instruction name; 0 where there is none
abbrev pub rd_of : Option Line → ℕ
rd_of None = 0
rd_of (Some l) = l.rd

abbrev pub rs1_of : Option Line → ℕ
rs1_of None = 0
rs1_of (Some l) = l.rs1

abbrev pub rs2_of : Option Line → ℕ
rs2_of None = 0
rs2_of (Some l) = l.rs2
