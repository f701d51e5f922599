-- Liveness of registers at the words of a code, and how words lead into the runtime. Speaks of words by their numbers.
use Rattle.std.specs.Prelude.{◌≡◌, ◌≢◌, ℕ, suc, ◌<◌, ◌≤◌, Bool, true, false, ◌&&◌, ◌||◌, ◌==◌, nat_lt, List, Option, Some, None}
use Rattle.im_rv.specs.declared.format.Format.{Format}
use Rattle.im_rv.specs.declared.format.Format.TheVariants.{Store, Branch, Order, Whole}
use Rattle.im_rv.specs.Formats.{format_of}
use Rattle.im_rv.specs.Steps.{sum_of}
use Rattle.im_rv.specs.Decode.{Line}
use Rattle.im_rv.specs.Effects.{rs1_of, rs2_of}
use Rattle.im_rv.specs.Code.{address, instruction_at}
use Rattle.im_ckpt.specs.Checkpoint.{checkpoint_end, entry_at}
use Rattle.im_ckpt.specs.Laws.{is_runtime}
use Rattle.im_gap.specs.declared.flow.Turn.{Turn}
use Rattle.im_gap.specs.declared.flow.Turn.TheVariants.{Jumps, Branches}
use Rattle.im_gap.specs.Flow.{turn_of, imm_of, links, Flow}

-- recovery and the checkpoint routine are the words before this one, which stands at `checkpoint_end`
abbrev pub runtime_length : ℕ
runtime_length = 237

-- instructions of these formats have no result
abbrev pub has_result : Format → Bool
has_result Store = false
has_result Branch = false
has_result Order = false
has_result Whole = false
has_result format = true

-- x0 is neither used nor set
abbrev pub uses_register : Option Line → ℕ → Bool
uses_register l r = nat_lt 0 r && (r == rs1_of l || r == rs2_of l)

abbrev pub sets_register : Option Line → ℕ → Bool
sets_register None r = false
sets_register (Some l) r = has_result (format_of l.op) && r == l.rd && nat_lt 0 l.rd

-- word i is a cut with entry Em: a jal that links x3
pub record IsCutTo (words : List ℕ) (i m : ℕ) : Type 0 where
  pub linked : links 3 (instruction_at words i) ≡ true
  pub above : 4 ≤ m
  pub below : m ≤ 31
  pub target : sum_of (address i) (imm_of (instruction_at words i)) ≡ entry_at m

-- Which registers are live at which words behind the runtime, or may be: the inequalities of liveness analysis. The word
-- behind a cut is reached through the checkpoint routine, which saves x1, x2 and x5 to xm at entry Em and leaves all but x3, x4.
pub record IsLiveness (words : List ℕ) (entry : ℕ) (live : ℕ → ℕ → Bool) : Type 0 where
  pub uses : (i r : ℕ) → runtime_length ≤ i → uses_register (instruction_at words i) r ≡ true → live i r ≡ true
  pub flows : (i j r : ℕ) → runtime_length ≤ i → links 3 (instruction_at words i) ≡ false → Flow words i j
      → live j r ≡ true → sets_register (instruction_at words i) r ≡ false → live i r ≡ true
  pub cuts : (i r : ℕ) → runtime_length ≤ i → links 3 (instruction_at words i) ≡ true → live (suc i) r ≡ true
      → live i r ≡ true
  -- what is live behind a cut is saved by it
  pub saved : (i m r : ℕ) → runtime_length ≤ i → IsCutTo words i m → live (suc i) r ≡ true
      → (r ≤ m) × (r ≢ 3) × (r ≢ 4)
  -- and what is live at the entry is a register that recovery loads
  pub first : (i r : ℕ) → address i ≡ entry → live i r ≡ true → (r ≢ 3) × (r ≢ 4) × (r < 32)

abbrev pub names_target : Turn → Bool
names_target Jumps = true
names_target Branches = true
names_target turn = false

-- The runtime is entered by cuts alone: a jal that links x3 leads to an entry of the checkpoint routine, and no other jump
-- or branch behind the runtime leads into it. It makes no call, so that no return leads into it.
pub record EntersByCuts (words : List ℕ) (entry : ℕ) : Type 0 where
  pub begins : checkpoint_end ≤ entry
  pub cuts : (i : ℕ) → runtime_length ≤ i → links 3 (instruction_at words i) ≡ true → (m : ℕ) × IsCutTo words i m
  pub others : (i : ℕ) → runtime_length ≤ i → links 3 (instruction_at words i) ≡ false
      → names_target (turn_of (instruction_at words i)) ≡ true
      → is_runtime (sum_of (address i) (imm_of (instruction_at words i))) ≡ false
  pub calls : (i : ℕ) → links 1 (instruction_at words i) ≡ true → runtime_length ≤ i
