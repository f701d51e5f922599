-- What lines do with registers: what they set, what a call gives, its arguments.
use Rattle.std.specs.Prelude.{◌≡◌, ◌≢◌, ℕ, ◌+◌, List, Option, Some, None, slice_get, slice_index}
use Rattle.im_block.specs.declared.code.Line.{Line}
use Rattle.im_block.specs.declared.code.Line.TheVariants.{Put, PutNull, Copy, Convert, Unary, Not, Compute, Compare, Move, Distance, Address, Read, Write, Reload, Spill, Cut, Call, Serve}
use Rattle.im_alloc_intervals.specs.Marks.{IsBit, IsBetween}

abbrev pub target_of : Line → Option ℕ
target_of (Put to z) = Some to
target_of (PutNull to) = Some to
target_of (Copy to from) = Some to
target_of (Convert to kind from) = Some to
target_of (Unary to op kind from) = Some to
target_of (Not to from) = Some to
target_of (Compute to op kind left right) = Some to
target_of (Compare to op kind left right) = Some to
target_of (Move to size back pointer by) = Some to
target_of (Distance to size left right) = Some to
target_of (Address to place) = Some to
target_of (Read to place kind access) = Some to
target_of (Write place kind from access) = None
target_of (Reload to slot access) = Some to
target_of (Spill slot from access) = None
target_of (Cut cause) = None
target_of (Call to i first count) = Some to
target_of (Serve to service from) = Some to

-- the result of a call, where a line is one
abbrev pub result_of : Line → Option ℕ
result_of (Call to i first count) = Some to
result_of (Serve to service from) = Some to
result_of line = None

abbrev pub IsArgument : Line → ℕ → Type 0
IsArgument (Call to i first count) v = IsBetween first count v
IsArgument line v = ⊥

-- a line sets a register, of which a position is taken
abbrev pub IsTarget : Line → ℕ → ℕ → ℕ → Type 0
IsTarget line p v q = (target_of line ≡ Some v) × (q ≡ p)

-- a register is in the word behind a call, and isn't its result
abbrev pub IsBehind : ℕ → ℕ → Option ℕ → ℕ → Type 0
IsBehind base word None v = ⊥
IsBehind base word (Some to) v = IsBit 32 base word v × (v ≢ to)

-- the same of the k-th line of a block
pub record SetBy (lines : List Line) (start k v p : ℕ) : Type 0 where
  pub line : Line
  pub at : slice_get lines k ≡ Some line
  pub target : IsTarget line (start + k) v p

pub record CrossedBy (base : ℕ) (words : List ℕ) (lines : List Line) (k v : ℕ) : Type 0 where
  pub line : Line
  pub at : slice_get lines k ≡ Some line
  pub behind : IsBehind base (slice_index words (k + 1)) (result_of line) v

pub record PassedBy (lines : List Line) (k v : ℕ) : Type 0 where
  pub line : Line
  pub at : slice_get lines k ≡ Some line
  pub argument : IsArgument line v

abbrev pub IsSetAt : List Line → ℕ → ℕ → ℕ → Type 0
IsSetAt lines start v p = (k : ℕ) × SetBy lines start k v p

abbrev pub IsAcross : ℕ → List ℕ → List Line → ℕ → Type 0
IsAcross base words lines v = (k : ℕ) × CrossedBy base words lines k v

abbrev pub IsPassed : List Line → ℕ → Type 0
IsPassed lines v = (k : ℕ) × PassedBy lines k v
