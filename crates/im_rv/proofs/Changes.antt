-- What a step may change.
use Rattle.std.proofs.Common.{◌≡◌, ◌≢◌, ◌⊎◌, inl, inr, ℕ, Bool, true, false, cond, Option, Some, None, ◌∙◌, refl}
use Rattle.im_rv.specs.declared.format.Format.TheVariants.{Store}
use Rattle.im_rv.specs.declared.instr.Op.{Op}
use Rattle.im_rv.specs.declared.instr.Op.TheVariants.{Lb, Lh, Lw, Lbu, Lhu, Sb, Sh, Sw}
use Rattle.im_rv.specs.declared.effect.Effect.{Effect}
use Rattle.im_rv.specs.declared.effect.Extension.{Extension}
use Rattle.im_rv.specs.declared.effect.Extension.TheVariants.{Sign, Zero}
use Rattle.im_rv.specs.declared.effect.Effect.TheVariants.{Puts, Goes, Loads, Stores, Stops}
use Rattle.im_rv.specs.declared.step.Went.TheVariants.{On}
use Rattle.im_num.specs.Bytes.{bytes_of}
use Rattle.im_mem.specs.Memory.{Mem, loaded, stored, written, is_place}
use Rattle.im_rv.specs.Formats.{format_of}
use Rattle.im_rv.specs.Steps.{Cpu, Stepped, effected, loads, faulted, row, sum_of}
use Rattle.im_rv.specs.Decode.{Line, decode}
use Rattle.im_rv.specs.Runs.{decoded, fetched}
use Rattle.im_rv.specs.Laws.{EndsCalm, ZeroStays, OneRegister, Stored, OnlyStores, store_size}
use Rattle.im_rv.proofs.Straight.{zero_reg, other_reg}

-- a store that is made where b
abbrev saved_at : Bool → Cpu → Mem → Mem → Stepped
saved_at b c m k = cond b (record { went = On; cpu = record { pc = sum_of c.pc 4; x = c.x }; mem = k }) (faulted c m)

saved_regs : (b : Bool) (c : Cpu) (m k : Mem) (i : ℕ) → (saved_at b c m k).cpu.x i ≡ c.x i
saved_regs true c m k i = refl
saved_regs false c m k i = refl

loads_zero : (c : Cpu) (m : Mem) (rd n : ℕ) (s : Extension) (o : Option ℕ) → c.x 0 ≡ 0 → (loads c m rd n s o).cpu.x 0 ≡ 0
loads_zero c m rd n s None h = h
loads_zero c m rd n s (Some v) h = zero_reg c.x rd _ ∙ h

effect_zero : (c : Cpu) (m : Mem) (rd : ℕ) (e : Effect) → c.x 0 ≡ 0 → (effected c m rd e).cpu.x 0 ≡ 0
effect_zero c m rd (Puts v t) h = zero_reg c.x rd v ∙ h
effect_zero c m rd (Goes t) h = h
effect_zero c m rd (Loads a n s) h = loads_zero c m rd n s (loaded m a n) h
effect_zero c m rd (Stores a n v) h = saved_regs (is_place a n) c m (stored m a n v) 0 ∙ h
effect_zero c m rd Stops h = h

loads_other : (c : Cpu) (m : Mem) (rd n : ℕ) (s : Extension) (o : Option ℕ) (i : ℕ) → i ≢ rd → (loads c m rd n s o).cpu.x i ≡ c.x i
loads_other c m rd n s None i ne = refl
loads_other c m rd n s (Some v) i ne = other_reg c.x rd _ i ne

effect_other : (c : Cpu) (m : Mem) (rd : ℕ) (e : Effect) (i : ℕ) → i ≢ rd → (effected c m rd e).cpu.x i ≡ c.x i
effect_other c m rd (Puts v t) i ne = other_reg c.x rd v i ne
effect_other c m rd (Goes t) i ne = refl
effect_other c m rd (Loads a n s) i ne = loads_other c m rd n s (loaded m a n) i ne
effect_other c m rd (Stores a n v) i ne = saved_regs (is_place a n) c m (stored m a n v) i
effect_other c m rd Stops i ne = refl

decoded_zero : (c : Cpu) (m : Mem) (o : Option Line) → c.x 0 ≡ 0 → (decoded c m o).cpu.x 0 ≡ 0
decoded_zero c m None h = h
decoded_zero c m (Some l) h = effect_zero c m l.rd (row l.op c.pc (c.x l.rs1) (c.x l.rs2) l.imm) h

fetched_zero : (c : Cpu) (m : Mem) (o : Option ℕ) → c.x 0 ≡ 0 → (fetched c m o).cpu.x 0 ≡ 0
fetched_zero c m None h = h
fetched_zero c m (Some w) h = decoded_zero c m (decode w) h

pub zero_stays : ZeroStays
zero_stays c m h = fetched_zero c m (loaded m c.pc 4) h

decoded_one : (c : Cpu) (m : Mem) (o : Option Line) → (rd : ℕ) × ((i : ℕ) → i ≢ rd → (decoded c m o).cpu.x i ≡ c.x i)
decoded_one c m None = (0, λ i ne. refl)
decoded_one c m (Some l) = (l.rd, effect_other c m l.rd (row l.op c.pc (c.x l.rs1) (c.x l.rs2) l.imm))

fetched_one : (c : Cpu) (m : Mem) (o : Option ℕ) → (rd : ℕ) × ((i : ℕ) → i ≢ rd → (fetched c m o).cpu.x i ≡ c.x i)
fetched_one c m None = (0, λ i ne. refl)
fetched_one c m (Some w) = decoded_one c m (decode w)

pub one_register : OneRegister
one_register c m = fetched_one c m (loaded m c.pc 4)

loads_mem : (c : Cpu) (m : Mem) (rd n : ℕ) (s : Extension) (o : Option ℕ) → (loads c m rd n s o).mem ≡ m
loads_mem c m rd n s None = refl
loads_mem c m rd n s (Some v) = refl

saved_mem : (b : Bool) (c : Cpu) (m k : Mem) → (saved_at b c m (cond b k m)).mem ≡ cond b k m
saved_mem true c m k = refl
saved_mem false c m k = refl

-- an operation with this effect leaves memory, or stores the value of rs2
row_mem : (op : Op) (c : Cpu) (m : Mem) (rd a b imm : ℕ) → ((effected c m rd (row op c.pc a b imm)).mem ≡ m) ⊎ ((format_of op ≡ Store) × ((effected c m rd (row op c.pc a b imm)).mem ≡ stored m (sum_of a imm) (store_size op) b))
row_mem Lb c m rd a b imm = inl (loads_mem c m rd 1 Sign (loaded m (sum_of a imm) 1))
row_mem Lh c m rd a b imm = inl (loads_mem c m rd 2 Sign (loaded m (sum_of a imm) 2))
row_mem Lw c m rd a b imm = inl (loads_mem c m rd 4 Zero (loaded m (sum_of a imm) 4))
row_mem Lbu c m rd a b imm = inl (loads_mem c m rd 1 Zero (loaded m (sum_of a imm) 1))
row_mem Lhu c m rd a b imm = inl (loads_mem c m rd 2 Zero (loaded m (sum_of a imm) 2))
row_mem Sb c m rd a b imm = inr (refl, saved_mem (is_place (sum_of a imm) 1) c m (written m (sum_of a imm) (bytes_of 1 b)))
row_mem Sh c m rd a b imm = inr (refl, saved_mem (is_place (sum_of a imm) 2) c m (written m (sum_of a imm) (bytes_of 2 b)))
row_mem Sw c m rd a b imm = inr (refl, saved_mem (is_place (sum_of a imm) 4) c m (written m (sum_of a imm) (bytes_of 4 b)))
row_mem _ c m rd a b imm = inl refl

decoded_mem : (c : Cpu) (m : Mem) (w : ℕ) (o : Option Line) → loaded m c.pc 4 ≡ Some w → decode w ≡ o → ((decoded c m o).mem ≡ m) ⊎ Stored c m (decoded c m o).mem
decoded_mem c m w None f d = inl refl
decoded_mem c m w (Some l) f d = elim (row_mem l.op c m l.rd (c.x l.rs1) (c.x l.rs2) l.imm) [
  | inl e ↦ inl e
  | inr s ↦ inr (record {
    word = w;
    line = l;
    fetched = f;
    decoded = d;
    is_store = s.0;
    written = s.1;
  })
]

fetched_mem : (c : Cpu) (m : Mem) (o : Option ℕ) → loaded m c.pc 4 ≡ o → ((fetched c m o).mem ≡ m) ⊎ Stored c m (fetched c m o).mem
fetched_mem c m None f = inl refl
fetched_mem c m (Some w) f = decoded_mem c m w (decode w) f refl

pub only_stores : OnlyStores
only_stores c m = fetched_mem c m (loaded m c.pc 4) refl

-- ---- the end

-- processor and memory are as they were, where the run doesn't go on
abbrev Calm : Cpu → Mem → Stepped → Type 0
Calm c m s = s.went ≢ On → (s.cpu ≡ c) × (s.mem ≡ m)

loads_calm : (c : Cpu) (m : Mem) (rd n : ℕ) (s : Extension) (o : Option ℕ) → Calm c m (loads c m rd n s o)
loads_calm c m rd n s None over = (refl, refl)
loads_calm c m rd n s (Some v) over = absurd (over refl)

saved_calm : (b : Bool) (c : Cpu) (m k : Mem) → Calm c m (saved_at b c m k)
saved_calm true c m k over = absurd (over refl)
saved_calm false c m k over = (refl, refl)

effect_calm : (c : Cpu) (m : Mem) (rd : ℕ) (e : Effect) → Calm c m (effected c m rd e)
effect_calm c m rd (Puts v t) over = absurd (over refl)
effect_calm c m rd (Goes t) over = absurd (over refl)
effect_calm c m rd (Loads a n s) over = loads_calm c m rd n s (loaded m a n) over
effect_calm c m rd (Stores a n v) over = saved_calm (is_place a n) c m (stored m a n v) over
effect_calm c m rd Stops over = (refl, refl)

decoded_calm : (c : Cpu) (m : Mem) (o : Option Line) → Calm c m (decoded c m o)
decoded_calm c m None over = (refl, refl)
decoded_calm c m (Some l) over = effect_calm c m l.rd (row l.op c.pc (c.x l.rs1) (c.x l.rs2) l.imm) over

fetched_calm : (c : Cpu) (m : Mem) (o : Option ℕ) → Calm c m (fetched c m o)
fetched_calm c m None over = (refl, refl)
fetched_calm c m (Some w) over = decoded_calm c m (decode w) over

pub ends_calm : EndsCalm
ends_calm c m = fetched_calm c m (loaded m c.pc 4)
