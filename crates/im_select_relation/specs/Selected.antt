-- What stands in memory for lines, exits and entries, as instructions.
use Rattle.std.specs.Prelude.{◌≡◌, ◌≢◌, ◌<◌, ◌⊎◌, ℕ, ◌+◌, ◌-◌, ◌^◌, ◌==◌, ℤ, Bool, true, false, if◌then◌else◌, List, [], ◌∷◌, Option, Some, None}
use Rattle.im_num.specs.declared.kind.Kind.{Kind}
use Rattle.im_num.specs.declared.kind.Kind.TheVariants.{U8, Ptr}
use Rattle.im_num.specs.declared.values.Cause.{Cause}
use Rattle.im_num.specs.Kinds.{bits, word}
use Rattle.im_mem.specs.Map.{stack_lim_at}
use Rattle.im_rv.specs.declared.instr.Op.{Op}
use Rattle.im_rv.specs.declared.instr.Op.TheVariants.{Jalr, Beq, Bne, Blt, Bge, Bltu, Bgeu, Lw, Sw, Addi, Sltiu, Xori, Ori, Andi, Slli, Srli, Srai, Add as AddOp, Sub, Sltu, Mul, Div}
use Rattle.im_rv.specs.Steps.{sum_of}
use Rattle.im_rv_reach.specs.Instructions.{Holds, Splits, with_immediate, on_registers, storing, branching, upper, jumping}
use Rattle.im_store.specs.declared.operators.BinaryOp.{BinaryOp}
use Rattle.im_store.specs.declared.operators.BinaryOp.TheVariants.{Add, Subtract, BitAnd, BitOr, BitXor, ShiftLeft, ShiftRight}
use Rattle.im_select_relation.specs.OperatorTables.{IsPromoted, by_sign, commutes, load_op, store_op, operation, less_op, less_by, least}
use Rattle.im_store.specs.declared.operators.UnaryOp.TheVariants.{Negate, Complement}
use Rattle.im_store.specs.declared.operators.Comparison.{Comparison}
use Rattle.im_store.specs.declared.operators.Comparison.TheVariants.{Less, Greater, LessOrEqual, GreaterOrEqual, Equal, NotEqual}
use Rattle.im_store.specs.Objects.{Named, Slot}
use Rattle.im_serve.specs.declared.service.Service.{Service}
use Rattle.im_serve.specs.Services.{row}
use Rattle.im_block.specs.declared.code.Place.{Place}
use Rattle.im_block.specs.declared.code.Place.TheVariants.{Static, Local, Through}
use Rattle.im_block.specs.declared.code.Line.{Line}
use Rattle.im_block.specs.declared.code.Line.TheVariants.{Put, PutNull, Copy, Convert, Unary, Not, Compute, Compare, Move, Distance, Address, Read, Write, Reload, Spill, Cut, Call, Serve}
use Rattle.im_block.specs.declared.code.Exit.{Exit}
use Rattle.im_block.specs.declared.code.Exit.TheVariants.{Jump, Turn, Branch, Return}
use Rattle.im_block.specs.declared.code.Block.{Block}
use Rattle.im_alloc_relation.specs.Live.{place_uses}
use Rattle.im_live.specs.Reads.{lives_before, reads_first}
use Rattle.im_select_relation.specs.Linking.{Linking}

-- registers that placed code may use; x1 to x6 belong to calls, the stack, the runtime and the lines themselves
abbrev pub IsHome : ℕ → Type 0
IsHome r = (6 < r) × (r < 32)

-- the word of -1
abbrev pub ones : ℕ
ones = 0xFFFFFFFF

-- from pc to next, lines that put a word into rd
pub data Constant (p : Linking) (pc rd : ℕ) : ℕ → ℕ → Type 0 where
  Small : (n : ℕ) → n < 2 ^ 32 → Holds p.image pc (with_immediate Addi rd 0 n) → Constant p pc rd n (pc + 4)
  Large : (n hi lo : ℕ) → Splits hi lo n → Holds p.image pc (upper rd hi) → Holds p.image (pc + 4) (with_immediate Addi rd rd lo) → Constant p pc rd n (pc + 4 + 4)

-- from pc to next, lines after which base plus imm is register r plus n; they may use x5
pub data Displaced (p : Linking) (pc r : ℕ) : ℕ → ℕ → ℕ → ℕ → Type 0 where  -- n, base, imm, next
  Near : (n : ℕ) → Displaced p pc r n r n pc
  Far : (n hi lo : ℕ) → Splits hi lo n → Holds p.image pc (upper 5 hi) → Holds p.image (pc + 4) (on_registers AddOp 5 5 r) → Displaced p pc r n 5 lo (pc + 4 + 4)

-- from pc to next, lines after which the register base plus imm is the place
pub data Based (p : Linking) (pc : ℕ) : Place → ℕ → ℕ → ℕ → Type 0 where  -- place, base, imm, next
  InFrame : (object offset base imm next : ℕ) → Displaced p pc 2 (p.at (Named object) + offset) base imm next → Based p pc (Local object offset) base imm next
  InStatic : (object offset hi lo : ℕ) → Splits hi lo (p.at (Named object) + offset) → Holds p.image pc (upper 5 hi) → Based p pc (Static object offset) 5 lo (pc + 4)
  Behind : (r offset base imm next : ℕ) → IsHome r → Displaced p pc r offset base imm next → Based p pc (Through r offset) base imm next

-- from pc to next, lines after which rd is the stack pointer plus a word; they may use x5
pub data Adds (p : Linking) (pc rd by : ℕ) : ℕ → Type 0 where
  Short : Holds p.image pc (with_immediate Addi rd 2 by) → Adds p pc rd by (pc + 4)
  Long : (mid : ℕ) → Constant p pc 5 by mid → Holds p.image mid (on_registers AddOp rd 2 5) → Adds p pc rd by (mid + 4)

-- from pc to next, lines that put 1 or 0 into `to`, as left and right compare; they may use x5
pub data Compared (p : Linking) (pc to : ℕ) (less : Op) (left right : ℕ) : Comparison → ℕ → Type 0 where
  Lesser : Holds p.image pc (on_registers less to left right) → Compared p pc to less left right Less (pc + 4)
  Larger : Holds p.image pc (on_registers less to right left) → Compared p pc to less left right Greater (pc + 4)
  NotLarger : Holds p.image pc (on_registers less to right left) → Holds p.image (pc + 4) (with_immediate Xori to to 1) → Compared p pc to less left right LessOrEqual (pc + 4 + 4)
  NotLesser : Holds p.image pc (on_registers less to left right) → Holds p.image (pc + 4) (with_immediate Xori to to 1) → Compared p pc to less left right GreaterOrEqual (pc + 4 + 4)
  Same : Holds p.image pc (on_registers Sub 5 left right) → Holds p.image (pc + 4) (with_immediate Sltiu to 5 1) → Compared p pc to less left right Equal (pc + 4 + 4)
  Other : Holds p.image pc (on_registers Sub 5 left right) → Holds p.image (pc + 4) (on_registers Sltu to 0 5) → Compared p pc to less left right NotEqual (pc + 4 + 4)

-- how far a narrow value is shifted up, and down again
abbrev pub unused_bits : Kind → ℕ
unused_bits kind = 32 - bits kind

-- from pc to next, a register copied to another, or to itself by no instruction
pub data Copied (p : Linking) (pc to from : ℕ) : ℕ → Type 0 where
  Already : to ≡ from → Copied p pc to from pc
  Moved : to ≢ from → Holds p.image pc (with_immediate Addi to from 0) → Copied p pc to from (pc + 4)

-- from pc to next, a value brought into a kind
pub data Converted (p : Linking) (pc to : ℕ) (kind : Kind) (from : ℕ) : ℕ → Type 0 where
  Whole : (next : ℕ) → IsPromoted kind → Copied p pc to from next → Converted p pc to kind from next
  Masked : kind ≡ U8 → Holds p.image pc (with_immediate Andi to from 255) → Converted p pc to kind from (pc + 4)
  Narrowed : bits kind < 32 → Holds p.image pc (with_immediate Slli to from (unused_bits kind)) → Holds p.image (pc + 4) (with_immediate (by_sign kind Srai Srli) to to (unused_bits kind)) → Converted p pc to kind from (pc + 4 + 4)

-- from pc to next, lines after which a register has so many times `by`: that itself, or x5
pub data Scaled (p : Linking) (pc size by : ℕ) : ℕ → ℕ → Type 0 where  -- register, next
  Bytes : size ≡ 1 → Scaled p pc size by by pc
  Shifted : (bits : ℕ) → bits < 32 → size ≡ 2 ^ bits → Holds p.image pc (with_immediate Slli 5 by bits) → Scaled p pc size by 5 (pc + 4)
  Multiplied : (mid : ℕ) → Constant p pc 5 size mid → Holds p.image mid (on_registers Mul 5 5 by) → Scaled p pc size by 5 (mid + 4)

-- the entries of the checkpoint routine, by the last register that they save
abbrev pub IsEntry : ℕ → Type 0
IsEntry m = (3 < m) × (m < 32)

-- the register of a service's argument, where it has a parameter
abbrev pub argument_register : Option Kind → Option ℕ
argument_register None = None
argument_register (Some kind) = Some 10

-- what stands from pc to next for a line
pub data Selected (p : Linking) (pc : ℕ) : Line → ℕ → Type 0 where
  Numbers : (to : ℕ) (z : ℤ) (next : ℕ) → IsHome to → Constant p pc to (word z) next → Selected p pc (Put to z) next
  Nulls : (to : ℕ) → IsHome to → Holds p.image pc (with_immediate Addi to 0 0) → Selected p pc (PutNull to) (pc + 4)
  Copies : (to from next : ℕ) → IsHome to → IsHome from → Copied p pc to from next → Selected p pc (Copy to from) next
  Converts : (to : ℕ) (kind : Kind) (from next : ℕ) → IsHome to → IsHome from → Converted p pc to kind from next → Selected p pc (Convert to kind from) next
  Negates : (to : ℕ) (kind : Kind) (from : ℕ) → IsHome to → IsHome from → IsPromoted kind → Holds p.image pc (on_registers Sub to 0 from) → Selected p pc (Unary to Negate kind from) (pc + 4)
  Complements : (to : ℕ) (kind : Kind) (from : ℕ) → IsHome to → IsHome from → IsPromoted kind → Holds p.image pc (with_immediate Xori to from ones) → Selected p pc (Unary to Complement kind from) (pc + 4)
  Nots : (to from : ℕ) → IsHome to → IsHome from → Holds p.image pc (with_immediate Sltiu to from 1) → Selected p pc (Not to from) (pc + 4)
  Computes : (to : ℕ) (op : BinaryOp) (kind : Kind) (left right : ℕ) → IsHome to → IsHome left → IsHome right → IsPromoted kind → Holds p.image pc (on_registers (operation op kind) to left right) → Selected p pc (Compute to op kind left right) (pc + 4)
  Compares : (to : ℕ) (op : Comparison) (kind : Kind) (left right next : ℕ) → IsHome to → IsHome left → IsHome right → IsPromoted kind ⊎ (kind ≡ Ptr) → Compared p pc to (less_op kind) left right op next → Selected p pc (Compare to op kind left right) next
  Moves : (to size : ℕ) (back : Bool) (pointer by scaled mid : ℕ) → IsHome to → IsHome pointer → IsHome by → size < 2 ^ 32 → Scaled p pc size by scaled mid → Holds p.image mid (on_registers (if back then Sub else AddOp) to pointer scaled) → Selected p pc (Move to size back pointer by) (mid + 4)
  Measures : (to size left right mid : ℕ) → IsHome to → IsHome left → IsHome right → 0 < size → size < 2 ^ 31 → Holds p.image pc (on_registers Sub 5 left right) → Constant p (pc + 4) 6 size mid → Holds p.image mid (on_registers Div to 5 6) → Selected p pc (Distance to size left right) (mid + 4)
  Addresses : (to : ℕ) (place : Place) (base imm next : ℕ) → IsHome to → Based p pc place base imm next → Holds p.image next (with_immediate Addi to base imm) → Selected p pc (Address to place) (next + 4)
  AddressesPage : (to object offset hi : ℕ) → IsHome to → Splits hi 0 (p.at (Named object) + offset) → Holds p.image pc (upper to hi) → Selected p pc (Address to (Static object offset)) (pc + 4)
  Fetches : (to : ℕ) (place : Place) (kind : Kind) (access base imm next : ℕ) → IsHome to → Based p pc place base imm next → Holds p.image next (with_immediate (load_op kind) to base imm) → Selected p pc (Read to place kind access) (next + 4)
  StoresValue : (place : Place) (kind : Kind) (from access base imm next : ℕ) → IsHome from → Based p pc place base imm next → Holds p.image next (storing (store_op kind) base from imm) → Selected p pc (Write place kind from access) (next + 4)
  Reloads : (to slot access base imm next : ℕ) → IsHome to → Displaced p pc 2 (p.at (Slot slot)) base imm next → Holds p.image next (with_immediate Lw to base imm) → Selected p pc (Reload to slot access) (next + 4)
  Spills : (slot from access base imm next : ℕ) → IsHome from → Displaced p pc 2 (p.at (Slot slot)) base imm next → Holds p.image next (storing Sw base from imm) → Selected p pc (Spill slot from access) (next + 4)
  Cuts_ : (cause : Cause) (m imm : ℕ) → IsEntry m → sum_of pc imm ≡ p.checkpoint m → Holds p.image pc (jumping 3 imm) → Selected p pc (Cut cause) (pc + 4)
  Calls : (i count imm : ℕ) → sum_of pc imm ≡ p.entry i → Holds p.image pc (jumping 1 imm) → Selected p pc (Call 10 i 10 count) (pc + 4)
  Serves_ : (service : Service) (imm : ℕ) → sum_of pc imm ≡ p.serves service → Holds p.image pc (jumping 1 imm) → Selected p pc (Serve 10 service (argument_register (row service).parameter)) (pc + 4)

-- a jump from pc
pub record Jumps (p : Linking) (pc target : ℕ) : Type 0 where
  pub imm : ℕ
  pub lands : sum_of pc imm ≡ target
  pub jumps : Holds p.image pc (jumping 0 imm)

-- on from pc to a block: it stands there, or a jump leads to it
pub data Continues (p : Linking) (pc target : ℕ) : Type 0 where
  Falls : pc ≡ target → Continues p pc target
  Leaps : Jumps p pc target → Continues p pc target

-- a test of two registers: the branch that is taken where it holds, and the one that is taken where it doesn't
pub record Test : Type 0 where
  pub holds : Op
  pub fails : Op
  pub left : ℕ
  pub right : ℕ

-- whether a register is other than 0
abbrev pub nonzero : ℕ → Test
nonzero on = record { holds = Bne; fails = Beq; left = on; right = 0 }

abbrev pub below : Kind → ℕ → ℕ → Test
below kind left right = record { holds = by_sign kind Blt Bltu; fails = by_sign kind Bge Bgeu; left = left; right = right }

abbrev pub not_below : Kind → ℕ → ℕ → Test
not_below kind left right = record { holds = by_sign kind Bge Bgeu; fails = by_sign kind Blt Bltu; left = left; right = right }

-- whether two registers compare so (RISC-V Unprivileged ISA, 2.5)
abbrev pub comparing : Kind → ℕ → ℕ → Comparison → Test
comparing kind left right Less = below kind left right
comparing kind left right Greater = below kind right left
comparing kind left right LessOrEqual = not_below kind right left
comparing kind left right GreaterOrEqual = not_below kind left right
comparing kind left right Equal = record { holds = Beq; fails = Bne; left = left; right = right }
comparing kind left right NotEqual = record { holds = Bne; fails = Beq; left = left; right = right }

-- a branch to one of the two by a test, near or over a jump, and on to the other
pub data Tested (p : Linking) (pc : ℕ) (t : Test) (there other : ℕ) : Type 0 where
  Reached : (imm : ℕ) → sum_of pc imm ≡ there → Holds p.image pc (branching t.holds t.left t.right imm) → Continues p (pc + 4) other → Tested p pc t there other
  Missed : (imm : ℕ) → sum_of pc imm ≡ other → Holds p.image pc (branching t.fails t.left t.right imm) → Continues p (pc + 4) there → Tested p pc t there other
  Hopped : Holds p.image pc (branching t.fails t.left t.right 8) → Jumps p (pc + 4) there → Continues p (pc + 8) other → Tested p pc t there other
  Skipped : Holds p.image pc (branching t.holds t.left t.right 8) → Jumps p (pc + 4) other → Continues p (pc + 8) there → Tested p pc t there other

-- the return address is taken, the stack pointer goes up by the frame, and back to the caller
pub record Leaves (p : Linking) (pc frame : ℕ) : Type 0 where
  pub link : Holds p.image pc (with_immediate Lw 1 2 0)
  pub next : ℕ
  pub raised : Adds p (pc + 4) 2 frame next
  pub returns : Holds p.image next (with_immediate Jalr 0 1 0)

-- a result is in x10; where there is none x10 is 0 from here on
abbrev pub ReturnAt : Linking → ℕ → ℕ → Option ℕ → Type 0
ReturnAt p frame pc None = Holds p.image pc (with_immediate Addi 10 0 0) × Leaves p (pc + 4) frame
ReturnAt p frame pc (Some r) = (r ≡ 10) × Leaves p pc frame

abbrev pub ExitAt : Linking → ℕ → ℕ → ℕ → Exit → Type 0
ExitAt p i frame pc (Jump b) = Continues p pc (p.place i b)
ExitAt p i frame pc (Turn b) = Jumps p pc (p.place i b)
ExitAt p i frame pc (Branch on a b) = IsHome on × Tested p pc (nonzero on) (p.place i a) (p.place i b)
ExitAt p i frame pc (Return from) = ReturnAt p frame pc from

-- no path from a block on reads the register before it is written
abbrev pub IsDead : List Block → ℕ → ℕ → Type 0
IsDead blocks b r = (n : ℕ) → reads_first blocks n b r ≡ false

-- a line that puts a constant, whose word is n, into register r
pub data IsConstant : Line → ℕ → ℕ → Type 0 where
  ConstantNumber : (r n : ℕ) (z : ℤ) → word z ≡ n → IsConstant (Put r z) r n
  ConstantNull : (r : ℕ) → IsConstant (PutNull r) r 0

-- one whose word is 0
abbrev pub IsZero : Line → ℕ → Type 0
IsZero line r = IsConstant line r 0

-- x0 for register r (RISC-V Unprivileged ISA, 2.1)
abbrev pub or_zero : ℕ → ℕ → ℕ
or_zero r q = if q == r then 0 else q

-- from pc on, a comparison and the branch by its register as one, where nothing else reads that register; or so with a zero before
-- them, for which x0 stands
pub data Joined (p : Linking) (blocks : List Block) (i pc : ℕ) : Line → List Line → Exit → Type 0 where
  Decides : (to : ℕ) (op : Comparison) (kind : Kind) (left right a b : ℕ) → IsHome left → IsHome right → IsPromoted kind ⊎ (kind ≡ Ptr) → IsDead blocks a to → IsDead blocks b to → Tested p pc (comparing kind left right op) (p.place i a) (p.place i b) → Joined p blocks i pc (Compare to op kind left right) [] (Branch to a b)
  DecidesByZero : (line : Line) (r to : ℕ) (op : Comparison) (kind : Kind) (left right a b : ℕ) → IsZero line r → IsHome left → IsHome right → IsPromoted kind ⊎ (kind ≡ Ptr) → IsDead blocks a r → IsDead blocks b r → IsDead blocks a to → IsDead blocks b to → Tested p pc (comparing kind (or_zero r left) (or_zero r right) op) (p.place i a) (p.place i b) → Joined p blocks i pc line (Compare to op kind left right ∷ []) (Branch to a b)

-- an operator with a constant on its right, whose word is n, as an instruction with an immediate (RISC-V Unprivileged ISA, 2.4)
pub data Immediate (n : ℕ) (kind : Kind) : BinaryOp → Op → ℕ → Type 0 where
  AddsBy : Immediate n kind Add Addi n
  SubtractsBy : (imm : ℕ) → sum_of imm n ≡ 0 → Immediate n kind Subtract Addi imm
  AndsBy : Immediate n kind BitAnd Andi n
  OrsBy : Immediate n kind BitOr Ori n
  XorsBy : Immediate n kind BitXor Xori n
  ShiftsLeftBy : Immediate n kind ShiftLeft Slli n
  ShiftsRightBy : Immediate n kind ShiftRight (by_sign kind Srai Srli) n

-- from pc to next, lines that put 1 or 0 into `to`, as a register and a word n compare, by immediates; they may use x5. A register is at
-- most n where it is below n + 1, unless no word is below that (RISC-V Unprivileged ISA, 2.4)
pub data ComparedBy (p : Linking) (pc to : ℕ) (kind : Kind) (left n : ℕ) : Comparison → ℕ → Type 0 where
  LesserBy : Holds p.image pc (with_immediate (less_by kind) to left n) → ComparedBy p pc to kind left n Less (pc + 4)
  NotLesserBy : Holds p.image pc (with_immediate (less_by kind) to left n) → Holds p.image (pc + 4) (with_immediate Xori to to 1) → ComparedBy p pc to kind left n GreaterOrEqual (pc + 4 + 4)
  NotLargerBy : (above : ℕ) → sum_of n 1 ≡ above → above ≢ least kind → Holds p.image pc (with_immediate (less_by kind) to left above) → ComparedBy p pc to kind left n LessOrEqual (pc + 4)
  LargerBy : (above : ℕ) → sum_of n 1 ≡ above → above ≢ least kind → Holds p.image pc (with_immediate (less_by kind) to left above) → Holds p.image (pc + 4) (with_immediate Xori to to 1) → ComparedBy p pc to kind left n Greater (pc + 4 + 4)
  SameZero : n ≡ 0 → Holds p.image pc (with_immediate Sltiu to left 1) → ComparedBy p pc to kind left n Equal (pc + 4)
  SameBy : (imm : ℕ) → sum_of imm n ≡ 0 → Holds p.image pc (with_immediate Addi 5 left imm) → Holds p.image (pc + 4) (with_immediate Sltiu to 5 1) → ComparedBy p pc to kind left n Equal (pc + 4 + 4)
  OtherZero : n ≡ 0 → Holds p.image pc (on_registers Sltu to 0 left) → ComparedBy p pc to kind left n NotEqual (pc + 4)
  OtherBy : (imm : ℕ) → sum_of imm n ≡ 0 → Holds p.image pc (with_immediate Addi 5 left imm) → Holds p.image (pc + 4) (on_registers Sltu to 0 5) → ComparedBy p pc to kind left n NotEqual (pc + 4 + 4)

-- what is left doesn't read register r
abbrev pub IsUnread : List Block → List Line → Exit → ℕ → Type 0
IsUnread blocks rest exit r = (n : ℕ) → lives_before (reads_first blocks n) rest exit r ≡ false

-- nor does what is left behind a line that sets `to`
abbrev pub IsSpent : List Block → List Line → Exit → ℕ → ℕ → Type 0
IsSpent blocks rest exit to r = (r ≡ to) ⊎ IsUnread blocks rest exit r

-- from pc to next, a line that uses a constant in register r, as an immediate or by x0, where nothing else reads that register; the
-- constant's word is n
pub data Folded (p : Linking) (blocks : List Block) (pc r n : ℕ) : Line → List Line → Exit → ℕ → Type 0 where
  ComputesBy : (to : ℕ) (op : BinaryOp) (kind : Kind) (left : ℕ) (rest : List Line) (exit : Exit) (by : Op) (imm : ℕ) → IsHome to → IsHome left → left ≢ r → IsPromoted kind → Immediate n kind op by imm → IsSpent blocks rest exit to r → Holds p.image pc (with_immediate by to left imm) → Folded p blocks pc r n (Compute to op kind left r) rest exit (pc + 4)
  ComputesFrom : (to : ℕ) (op : BinaryOp) (kind : Kind) (right : ℕ) (rest : List Line) (exit : Exit) (by : Op) (imm : ℕ) → IsHome to → IsHome right → right ≢ r → IsPromoted kind → commutes op ≡ true → Immediate n kind op by imm → IsSpent blocks rest exit to r → Holds p.image pc (with_immediate by to right imm) → Folded p blocks pc r n (Compute to op kind r right) rest exit (pc + 4)
  ComparesBy : (to : ℕ) (op : Comparison) (kind : Kind) (left : ℕ) (rest : List Line) (exit : Exit) (next : ℕ) → IsHome to → IsHome left → left ≢ r → IsPromoted kind ⊎ (kind ≡ Ptr) → IsSpent blocks rest exit to r → ComparedBy p pc to kind left n op next → Folded p blocks pc r n (Compare to op kind left r) rest exit next
  StoresZero : (place : Place) (kind : Kind) (access : ℕ) (rest : List Line) (exit : Exit) (base imm next : ℕ) → n ≡ 0 → place_uses place r ≡ false → IsUnread blocks rest exit r → Based p pc place base imm next → Holds p.image next (storing (store_op kind) base 0 imm) → Folded p blocks pc r n (Write place kind r access) rest exit (next + 4)

abbrev mutual
  -- the lines of function i, which has these blocks and this frame, from pc on: a line for itself, or with its exit, or with the next
  pub Stands : Linking → List Block → ℕ → ℕ → ℕ → List Line → Exit → Type 0
  Stands p blocks i frame pc [] exit = ExitAt p i frame pc exit
  Stands p blocks i frame pc (line ∷ rest) exit = ((next : ℕ) × Selected p pc line next × Stands p blocks i frame next rest exit) ⊎ Joined p blocks i pc line rest exit ⊎ Paired p blocks i frame pc line rest exit

  pub Paired : Linking → List Block → ℕ → ℕ → ℕ → Line → List Line → Exit → Type 0
  Paired p blocks i frame pc line [] exit = ⊥
  Paired p blocks i frame pc line (user ∷ rest) exit = (r : ℕ) × (n : ℕ) × (next : ℕ) × IsConstant line r n × Folded p blocks pc r n user rest exit next × Stands p blocks i frame next rest exit

-- the test of the stack, near or over a jump
pub data Checked (p : Linking) (pc : ℕ) : ℕ → Type 0 where
  Direct : (imm : ℕ) → sum_of pc imm ≡ p.full → Holds p.image pc (branching Bltu 6 5 imm) → Checked p pc (pc + 4)
  Around : Holds p.image pc (branching Bgeu 6 5 8) → Jumps p (pc + 4) p.full → Checked p pc (pc + 4 + 4)

-- room is tested before the stack pointer goes down, and the return address is saved
pub record Prologue (p : Linking) (pc frame target : ℕ) : Type 0 where
  pub a : ℕ
  pub b : ℕ
  pub lowered : Adds p pc 6 (2 ^ 32 - frame) a
  pub bound : Holds p.image a (with_immediate Lw 5 0 stack_lim_at)
  pub checked : Checked p (a + 4) b
  pub taken : Holds p.image b (with_immediate Addi 2 6 0)
  pub saved : Holds p.image (b + 4) (storing Sw 2 1 0)
  pub continues : Continues p (b + 4 + 4) target
