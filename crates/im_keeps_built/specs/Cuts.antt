-- The cuts that are told of an image's code.
use Rattle.std.specs.Prelude.{◌≡◌, ◌⊎◌, ℕ, suc, ◌+◌, ◌<◌, ◌≤◌, ◌==◌, ◌&&◌, Bool, true, false, List, [], ◌∷◌, ◌++◌, map, codes, string_bytes, Option, Some, None, slice_get, encode_utf8_all}
use Rattle.im_num.specs.declared.values.Cause.{Cause}
use Rattle.im_num.specs.declared.values.Cause.TheVariants.{Entry, Return, Loop, Length, Gap, Dep}
use Rattle.im_rv.specs.declared.instr.Op.{Op}
use Rattle.im_rv.specs.declared.instr.Op.TheVariants.{Lb, Lh, Lw, Lbu, Lhu, Sb, Sh, Sw}
use Rattle.im_rv.specs.declared.code.Cut.{Cut}
use Rattle.im_rv.specs.Decode.{Line}
use Rattle.im_rv.specs.Code.{address, instruction_at}
use Rattle.im_gap.specs.Flow.{links, IsBehind}

-- word k of the code is a cut: a jal that links x3
abbrev pub IsCutWord : List ℕ → ℕ → Type 0
IsCutWord words k = links 3 (instruction_at words k) ≡ true

-- what a cut may be told to stand in: the routines, the functions, whose bytes are told as characters, and the call of main
abbrev pub part_names : List (List ℕ) → List (List ℕ)
part_names functions =
    (codes "recovery" ∷ codes "checkpoint" ∷ codes "getchar" ∷ codes "putchar" ∷ codes "stack" ∷ [])
    ++ map encode_utf8_all functions ++ (codes "start" ∷ [])

-- ---- what the code shows of a cut's cause

-- loads, and stores (RISC-V Unprivileged ISA, 2.6)
abbrev pub is_load : Op → Bool
is_load Lb = true
is_load Lh = true
is_load Lw = true
is_load Lbu = true
is_load Lhu = true
is_load op = false

abbrev pub is_store : Op → Bool
is_store Sb = true
is_store Sh = true
is_store Sw = true
is_store op = false

abbrev pub has_op : (Op → Bool) → Option Line → Bool
has_op test None = false
has_op test (Some l) = test l.op

abbrev pub IsLoadWord : List ℕ → ℕ → Type 0
IsLoadWord words k = has_op is_load (instruction_at words k) ≡ true

abbrev pub IsStoreWord : List ℕ → ℕ → Type 0
IsStoreWord words k = has_op is_store (instruction_at words k) ≡ true

-- jal x0: a jump, which links nothing (2.5)
abbrev pub IsJumpWord : List ℕ → ℕ → Type 0
IsJumpWord words k = links 0 (instruction_at words k) ≡ true

-- sw x1, n(x2): a function stores the address to which it returns
abbrev pub keeps_by : Op → ℕ → ℕ → Bool
keeps_by Sw rs1 rs2 = rs1 == 2 && rs2 == 1
keeps_by op rs1 rs2 = false

abbrev pub keeps_return : Option Line → Bool
keeps_return None = false
keeps_return (Some l) = keeps_by l.op l.rs1 l.rs2

-- what the words around a cut show of its cause. The cut is word k
abbrev pub IsCaused : List ℕ → ℕ → Cause → Type 0
-- directly behind the store of the return address, with which a function begins
IsCaused words k Entry = (j : ℕ) × (k ≡ suc j) × (keeps_return (instruction_at words j) ≡ true)
-- directly behind a call; or, where the body of a loop ends with that call, directly before a jump
IsCaused words k Return = IsBehind words 1 k ⊎ IsJumpWord words (suc k)
-- directly before a jump
IsCaused words k Loop = IsJumpWord words (suc k)
-- one of the two words before it stores
IsCaused words k Length = (j : ℕ) × ((k ≡ suc j) ⊎ (k ≡ suc (suc j))) × IsStoreWord words j
-- nothing
IsCaused words k Gap = Unit {0}
-- the first address is that of a load of the code, the second that of a store, one to three words behind the cut
IsCaused words k (Dep read write) = ((i : ℕ) × (read ≡ address i) × IsLoadWord words i) × ((j : ℕ) × (write ≡ address j) × (k < j) × (j ≤ k + 3) × IsStoreWord words j)

-- by address: each is a cut of the code, with the name of its part and a cause that is so, and each cut of the code is told
pub record AreCuts (functions : List (List ℕ)) (words : List ℕ) (cuts : List Cut) : Type 0 where
  pub ascending : (b c : ℕ) (this that : Cut) → b < c → slice_get cuts b ≡ Some this → slice_get cuts c ≡ Some that → this.at < that.at
  pub each : (c : ℕ) (cut : Cut) → slice_get cuts c ≡ Some cut → (k : ℕ) × (cut.at ≡ address k) × IsCutWord words k
  pub all : (k : ℕ) → IsCutWord words k → (c : ℕ) × (cut : Cut) × (slice_get cuts c ≡ Some cut) × (cut.at ≡ address k)
  pub named : (c : ℕ) (cut : Cut) → slice_get cuts c ≡ Some cut → (p : ℕ) × (slice_get (part_names functions) p ≡ Some (string_bytes cut.function))
  pub caused : (c : ℕ) (cut : Cut) → slice_get cuts c ≡ Some cut → (k : ℕ) → cut.at ≡ address k → IsCaused words k cut.cause

-- no cut is told to stand where it does for a longest gap, where none was asked for
abbrev pub AreGapsAsked : Option ℕ → List Cut → Type 0
AreGapsAsked max_gap cuts = max_gap ≡ None → (c : ℕ) (cut : Cut) → slice_get cuts c ≡ Some cut → cut.cause ≡ Gap → ⊥
