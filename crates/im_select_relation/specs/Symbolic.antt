-- What selection gives: the same lines as instructions with labels, by their numbers in the list and with no address.
use Rattle.std.specs.Prelude.{◌≡◌, ◌≢◌, ◌<◌, ◌≤◌, ◌⊎◌, ℕ, zero, suc, ◌+◌, ◌-◌, ◌%◌, ◌^◌, ℤ, Bool, true, false, if◌then◌else◌, List, [], ◌∷◌, Option, Some, None, slice_get}
use Rattle.im_num.specs.declared.kind.Kind.{Kind}
use Rattle.im_num.specs.declared.kind.Kind.TheVariants.{U8, Ptr}
use Rattle.im_num.specs.declared.values.Cause.{Cause}
use Rattle.im_num.specs.Kinds.{bits, word}
use Rattle.im_mem.specs.Map.{stack_lim_at}
use Rattle.im_rv.specs.declared.instr.Op.{Op}
use Rattle.im_rv.specs.declared.instr.Op.TheVariants.{Jalr, Bltu, Bgeu, Lw, Sw, Addi, Sltiu, Xori, Andi, Slli, Srli, Srai, Add as AddOp, Sub, Sltu, Mul, Div}
use Rattle.im_rv.specs.Steps.{sum_of}
use Rattle.im_rv.specs.Decode.{Line as Instruction}
use Rattle.im_rv.specs.Lines.{CodeLine}
use Rattle.im_rv_reach.specs.Instructions.{Holds, Splits, with_immediate, on_registers, storing, branching, upper, jumping}
use Rattle.im_select_relation.specs.OperatorTables.{IsPromoted, by_sign, commutes, load_op, store_op, operation, less_op, less_by, least}
use Rattle.im_store.specs.declared.operators.BinaryOp.{BinaryOp}
use Rattle.im_store.specs.declared.operators.UnaryOp.TheVariants.{Negate, Complement}
use Rattle.im_store.specs.declared.operators.Comparison.{Comparison}
use Rattle.im_store.specs.declared.operators.Comparison.TheVariants.{Less, Greater, LessOrEqual, GreaterOrEqual, Equal, NotEqual}
use Rattle.im_store.specs.Objects.{Name, Named, Slot, Shape}
use Rattle.im_serve.specs.declared.service.Service.{Service}
use Rattle.im_serve.specs.Services.{row}
use Rattle.im_block.specs.declared.code.Place.{Place}
use Rattle.im_block.specs.declared.code.Place.TheVariants.{Static, Local, Through}
use Rattle.im_block.specs.declared.code.Line.{Line}
use Rattle.im_block.specs.declared.code.Line.TheVariants.{Put, PutNull, Copy, Convert, Unary, Not, Compute, Compare, Move, Distance, Address, Read, Write, Reload, Spill, Cut, Call, Serve}
use Rattle.im_block.specs.declared.code.Exit.{Exit}
use Rattle.im_block.specs.declared.code.Exit.TheVariants.{Jump, Turn, Branch, Return}
use Rattle.im_block.specs.declared.code.Block.{Block}
use Rattle.im_block.specs.declared.unit.Registers.TheVariants.{Machine}
use Rattle.im_block.specs.declared.unit.Function.{Function}
use Rattle.im_block.specs.Meaning.{Setting, shapes_of}
use Rattle.im_alloc_relation.specs.Live.{place_uses}
use Rattle.im_frame.specs.declared.layout.Layout.{Layout}
use Rattle.im_frame.specs.Layout.{place_of as place_in, IsLayout}
use Rattle.im_select_relation.specs.Linking.{Linking, LaidOut, frame_of}
use Rattle.im_select_relation.specs.Linked.{FunctionAt}
use Rattle.im_select_relation.specs.Selected.{IsHome, IsEntry, argument_register, ones, unused_bits, Test, nonzero, comparing, IsDead, IsZero, or_zero, IsConstant, Immediate, IsUnread, IsSpent}

-- the lines of a function; the places of objects in frames and of statics; the labels of the function's blocks, of the
-- functions' entries, of the lines for an exhausted stack, of a checkpoint by its last register, of each service
pub record Lines : Type 0 where
  pub lines : List CodeLine
  pub at : Name → ℕ
  pub block : ℕ → ℕ
  pub entry : ℕ → ℕ
  pub full : ℕ
  pub checkpoint : ℕ → ℕ
  pub serves : Service → ℕ

-- line k has this instruction, and names this much; any label may stand at it
pub record HasLine (w : Lines) (k : ℕ) (l : Instruction) (target access : Option ℕ) (cause : Option Cause) : Type 0 where
  pub label : Option ℕ
  pub there : slice_get w.lines k ≡ Some (record { label = label; line = l; target = target; access = access; cause = cause })

abbrev pub Plain : Lines → ℕ → Instruction → Type 0
Plain w k l = HasLine w k l None None None

-- it is the access of this number
abbrev pub Accessing : Lines → ℕ → Instruction → ℕ → Type 0
Accessing w k l access = HasLine w k l None (Some access) None

-- its immediate is to be the distance to a label
abbrev pub Aimed : Lines → ℕ → Instruction → ℕ → Type 0
Aimed w k l label = HasLine w k l (Some label) None None

-- from k to next, lines that put a word into rd
pub data ConstantIn (w : Lines) (k rd : ℕ) : ℕ → ℕ → Type 0 where
  Small : (n : ℕ) → n < 2 ^ 32 → Plain w k (with_immediate Addi rd 0 n) → ConstantIn w k rd n (suc k)
  Large : (n hi lo : ℕ) → Splits hi lo n → Plain w k (upper rd hi) → Plain w (suc k) (with_immediate Addi rd rd lo) → ConstantIn w k rd n (suc (suc k))

-- from k to next, lines after which base plus imm is register r plus n; they may use x5
pub data DisplacedIn (w : Lines) (k r : ℕ) : ℕ → ℕ → ℕ → ℕ → Type 0 where  -- n, base, imm, next
  Near : (n : ℕ) → DisplacedIn w k r n r n k
  Far : (n hi lo : ℕ) → Splits hi lo n → Plain w k (upper 5 hi) → Plain w (suc k) (on_registers AddOp 5 5 r) → DisplacedIn w k r n 5 lo (suc (suc k))

-- from k to next, lines after which the register base plus imm is the place
pub data BasedIn (w : Lines) (k : ℕ) : Place → ℕ → ℕ → ℕ → Type 0 where  -- place, base, imm, next
  InFrame : (object offset base imm next : ℕ) → DisplacedIn w k 2 (w.at (Named object) + offset) base imm next → BasedIn w k (Local object offset) base imm next
  InStatic : (object offset hi lo : ℕ) → Splits hi lo (w.at (Named object) + offset) → Plain w k (upper 5 hi) → BasedIn w k (Static object offset) 5 lo (suc k)
  Behind : (r offset base imm next : ℕ) → IsHome r → DisplacedIn w k r offset base imm next → BasedIn w k (Through r offset) base imm next

-- from k to next, lines after which rd is the stack pointer plus a word; they may use x5
pub data AddsIn (w : Lines) (k rd by : ℕ) : ℕ → Type 0 where
  Short : Plain w k (with_immediate Addi rd 2 by) → AddsIn w k rd by (suc k)
  Long : (mid : ℕ) → ConstantIn w k 5 by mid → Plain w mid (on_registers AddOp rd 2 5) → AddsIn w k rd by (suc mid)

-- from k to next, lines that put 1 or 0 into `to`, as left and right compare; they may use x5
pub data ComparedIn (w : Lines) (k to : ℕ) (less : Op) (left right : ℕ) : Comparison → ℕ → Type 0 where
  Lesser : Plain w k (on_registers less to left right) → ComparedIn w k to less left right Less (suc k)
  Larger : Plain w k (on_registers less to right left) → ComparedIn w k to less left right Greater (suc k)
  NotLarger : Plain w k (on_registers less to right left) → Plain w (suc k) (with_immediate Xori to to 1) → ComparedIn w k to less left right LessOrEqual (suc (suc k))
  NotLesser : Plain w k (on_registers less to left right) → Plain w (suc k) (with_immediate Xori to to 1) → ComparedIn w k to less left right GreaterOrEqual (suc (suc k))
  Same : Plain w k (on_registers Sub 5 left right) → Plain w (suc k) (with_immediate Sltiu to 5 1) → ComparedIn w k to less left right Equal (suc (suc k))
  Other : Plain w k (on_registers Sub 5 left right) → Plain w (suc k) (on_registers Sltu to 0 5) → ComparedIn w k to less left right NotEqual (suc (suc k))

-- from k to next, a register copied to another, or to itself by no line
pub data CopiedIn (w : Lines) (k to from : ℕ) : ℕ → Type 0 where
  Already : to ≡ from → CopiedIn w k to from k
  Moved : to ≢ from → Plain w k (with_immediate Addi to from 0) → CopiedIn w k to from (suc k)

-- from k to next, a value brought into a kind
pub data ConvertedIn (w : Lines) (k to : ℕ) (kind : Kind) (from : ℕ) : ℕ → Type 0 where
  Whole : (next : ℕ) → IsPromoted kind → CopiedIn w k to from next → ConvertedIn w k to kind from next
  Masked : kind ≡ U8 → Plain w k (with_immediate Andi to from 255) → ConvertedIn w k to kind from (suc k)
  Narrowed : bits kind < 32 → Plain w k (with_immediate Slli to from (unused_bits kind)) → Plain w (suc k) (with_immediate (by_sign kind Srai Srli) to to (unused_bits kind)) → ConvertedIn w k to kind from (suc (suc k))

-- from k to next, lines after which a register has so many times `by`: that itself, or x5
pub data ScaledIn (w : Lines) (k size by : ℕ) : ℕ → ℕ → Type 0 where  -- register, next
  Bytes : size ≡ 1 → ScaledIn w k size by by k
  Shifted : (bits : ℕ) → bits < 32 → size ≡ 2 ^ bits → Plain w k (with_immediate Slli 5 by bits) → ScaledIn w k size by 5 (suc k)
  Multiplied : (mid : ℕ) → ConstantIn w k 5 size mid → Plain w mid (on_registers Mul 5 5 by) → ScaledIn w k size by 5 (suc mid)

-- what stands from k to next for a line
pub data SelectedIn (w : Lines) (k : ℕ) : Line → ℕ → Type 0 where
  Numbers : (to : ℕ) (z : ℤ) (next : ℕ) → IsHome to → ConstantIn w k to (word z) next → SelectedIn w k (Put to z) next
  Nulls : (to : ℕ) → IsHome to → Plain w k (with_immediate Addi to 0 0) → SelectedIn w k (PutNull to) (suc k)
  Copies : (to from next : ℕ) → IsHome to → IsHome from → CopiedIn w k to from next → SelectedIn w k (Copy to from) next
  Converts : (to : ℕ) (kind : Kind) (from next : ℕ) → IsHome to → IsHome from → ConvertedIn w k to kind from next → SelectedIn w k (Convert to kind from) next
  Negates : (to : ℕ) (kind : Kind) (from : ℕ) → IsHome to → IsHome from → IsPromoted kind → Plain w k (on_registers Sub to 0 from) → SelectedIn w k (Unary to Negate kind from) (suc k)
  Complements : (to : ℕ) (kind : Kind) (from : ℕ) → IsHome to → IsHome from → IsPromoted kind → Plain w k (with_immediate Xori to from ones) → SelectedIn w k (Unary to Complement kind from) (suc k)
  Nots : (to from : ℕ) → IsHome to → IsHome from → Plain w k (with_immediate Sltiu to from 1) → SelectedIn w k (Not to from) (suc k)
  Computes : (to : ℕ) (op : BinaryOp) (kind : Kind) (left right : ℕ) → IsHome to → IsHome left → IsHome right → IsPromoted kind → Plain w k (on_registers (operation op kind) to left right) → SelectedIn w k (Compute to op kind left right) (suc k)
  Compares : (to : ℕ) (op : Comparison) (kind : Kind) (left right next : ℕ) → IsHome to → IsHome left → IsHome right → IsPromoted kind ⊎ (kind ≡ Ptr) → ComparedIn w k to (less_op kind) left right op next → SelectedIn w k (Compare to op kind left right) next
  Moves : (to size : ℕ) (back : Bool) (pointer by scaled mid : ℕ) → IsHome to → IsHome pointer → IsHome by → size < 2 ^ 32 → ScaledIn w k size by scaled mid → Plain w mid (on_registers (if back then Sub else AddOp) to pointer scaled) → SelectedIn w k (Move to size back pointer by) (suc mid)
  Measures : (to size left right mid : ℕ) → IsHome to → IsHome left → IsHome right → 0 < size → size < 2 ^ 31 → Plain w k (on_registers Sub 5 left right) → ConstantIn w (suc k) 6 size mid → Plain w mid (on_registers Div to 5 6) → SelectedIn w k (Distance to size left right) (suc mid)
  Addresses : (to : ℕ) (place : Place) (base imm next : ℕ) → IsHome to → BasedIn w k place base imm next → Plain w next (with_immediate Addi to base imm) → SelectedIn w k (Address to place) (suc next)
  AddressesPage : (to object offset hi : ℕ) → IsHome to → Splits hi 0 (w.at (Named object) + offset) → Plain w k (upper to hi) → SelectedIn w k (Address to (Static object offset)) (suc k)
  Fetches : (to : ℕ) (place : Place) (kind : Kind) (access base imm next : ℕ) → IsHome to → BasedIn w k place base imm next → Accessing w next (with_immediate (load_op kind) to base imm) access → SelectedIn w k (Read to place kind access) (suc next)
  StoresValue : (place : Place) (kind : Kind) (from access base imm next : ℕ) → IsHome from → BasedIn w k place base imm next → Accessing w next (storing (store_op kind) base from imm) access → SelectedIn w k (Write place kind from access) (suc next)
  Reloads : (to slot access base imm next : ℕ) → IsHome to → DisplacedIn w k 2 (w.at (Slot slot)) base imm next → Accessing w next (with_immediate Lw to base imm) access → SelectedIn w k (Reload to slot access) (suc next)
  Spills : (slot from access base imm next : ℕ) → IsHome from → DisplacedIn w k 2 (w.at (Slot slot)) base imm next → Accessing w next (storing Sw base from imm) access → SelectedIn w k (Spill slot from access) (suc next)
  Cuts_ : (cause : Cause) (m : ℕ) → IsEntry m → HasLine w k (jumping 3 0) (Some (w.checkpoint m)) None (Some cause) → SelectedIn w k (Cut cause) (suc k)
  Calls : (i count : ℕ) → Aimed w k (jumping 1 0) (w.entry i) → SelectedIn w k (Call 10 i 10 count) (suc k)
  Serves_ : (service : Service) → Aimed w k (jumping 1 0) (w.serves service) → SelectedIn w k (Serve 10 service (argument_register (row service).parameter)) (suc k)

-- a jump from k to a label
abbrev pub JumpsIn : Lines → ℕ → ℕ → Type 0
JumpsIn w k label = Aimed w k (jumping 0 0) label

-- on from k to block b: it begins there, or a jump leads to its label. starts: the line that each block begins with
pub data ContinuesIn (w : Lines) (starts : ℕ → ℕ) (k b : ℕ) : Type 0 where
  Falls : k ≡ starts b → ContinuesIn w starts k b
  Leaps : JumpsIn w k (w.block b) → ContinuesIn w starts k b

-- a branch to one of two blocks by a test, near or over a jump, and on to the other
pub data TestedIn (w : Lines) (starts : ℕ → ℕ) (k : ℕ) (t : Test) (there other : ℕ) : Type 0 where
  Reached : Aimed w k (branching t.holds t.left t.right 0) (w.block there) → ContinuesIn w starts (suc k) other → TestedIn w starts k t there other
  Missed : Aimed w k (branching t.fails t.left t.right 0) (w.block other) → ContinuesIn w starts (suc k) there → TestedIn w starts k t there other
  Hopped : Plain w k (branching t.fails t.left t.right 8) → JumpsIn w (suc k) (w.block there) → ContinuesIn w starts (suc (suc k)) other → TestedIn w starts k t there other
  Skipped : Plain w k (branching t.holds t.left t.right 8) → JumpsIn w (suc k) (w.block other) → ContinuesIn w starts (suc (suc k)) there → TestedIn w starts k t there other

-- the return address is taken, the stack pointer goes up by the frame, and back to the caller
pub record LeavesIn (w : Lines) (k frame : ℕ) : Type 0 where
  pub link : Plain w k (with_immediate Lw 1 2 0)
  pub next : ℕ
  pub raised : AddsIn w (suc k) 2 frame next
  pub returns : Plain w next (with_immediate Jalr 0 1 0)

abbrev pub ReturnIn : Lines → ℕ → ℕ → Option ℕ → Type 0
ReturnIn w frame k None = Plain w k (with_immediate Addi 10 0 0) × LeavesIn w (suc k) frame
ReturnIn w frame k (Some r) = (r ≡ 10) × LeavesIn w k frame

abbrev pub ExitIn : Lines → (ℕ → ℕ) → ℕ → ℕ → Exit → Type 0
ExitIn w starts frame k (Jump b) = ContinuesIn w starts k b
ExitIn w starts frame k (Turn b) = JumpsIn w k (w.block b)
ExitIn w starts frame k (Branch on a b) = IsHome on × TestedIn w starts k (nonzero on) a b
ExitIn w starts frame k (Return from) = ReturnIn w frame k from

-- from k on, a comparison and the branch by its register as one, where nothing else reads that register; or so with a zero before
-- them, for which x0 stands
pub data JoinedIn (w : Lines) (blocks : List Block) (starts : ℕ → ℕ) (k : ℕ) : Line → List Line → Exit → Type 0 where
  Decides : (to : ℕ) (op : Comparison) (kind : Kind) (left right a b : ℕ) → IsHome left → IsHome right → IsPromoted kind ⊎ (kind ≡ Ptr) → IsDead blocks a to → IsDead blocks b to → TestedIn w starts k (comparing kind left right op) a b → JoinedIn w blocks starts k (Compare to op kind left right) [] (Branch to a b)
  DecidesByZero : (line : Line) (r to : ℕ) (op : Comparison) (kind : Kind) (left right a b : ℕ) → IsZero line r → IsHome left → IsHome right → IsPromoted kind ⊎ (kind ≡ Ptr) → IsDead blocks a r → IsDead blocks b r → IsDead blocks a to → IsDead blocks b to → TestedIn w starts k (comparing kind (or_zero r left) (or_zero r right) op) a b → JoinedIn w blocks starts k line (Compare to op kind left right ∷ []) (Branch to a b)

-- from k to next, lines that put 1 or 0 into `to`, as a register and a word n compare, by immediates; they may use x5
pub data ComparedByIn (w : Lines) (k to : ℕ) (kind : Kind) (left n : ℕ) : Comparison → ℕ → Type 0 where
  LesserBy : Plain w k (with_immediate (less_by kind) to left n) → ComparedByIn w k to kind left n Less (suc k)
  NotLesserBy : Plain w k (with_immediate (less_by kind) to left n) → Plain w (suc k) (with_immediate Xori to to 1) → ComparedByIn w k to kind left n GreaterOrEqual (suc (suc k))
  NotLargerBy : (above : ℕ) → sum_of n 1 ≡ above → above ≢ least kind → Plain w k (with_immediate (less_by kind) to left above) → ComparedByIn w k to kind left n LessOrEqual (suc k)
  LargerBy : (above : ℕ) → sum_of n 1 ≡ above → above ≢ least kind → Plain w k (with_immediate (less_by kind) to left above) → Plain w (suc k) (with_immediate Xori to to 1) → ComparedByIn w k to kind left n Greater (suc (suc k))
  SameZero : n ≡ 0 → Plain w k (with_immediate Sltiu to left 1) → ComparedByIn w k to kind left n Equal (suc k)
  SameBy : (imm : ℕ) → sum_of imm n ≡ 0 → Plain w k (with_immediate Addi 5 left imm) → Plain w (suc k) (with_immediate Sltiu to 5 1) → ComparedByIn w k to kind left n Equal (suc (suc k))
  OtherZero : n ≡ 0 → Plain w k (on_registers Sltu to 0 left) → ComparedByIn w k to kind left n NotEqual (suc k)
  OtherBy : (imm : ℕ) → sum_of imm n ≡ 0 → Plain w k (with_immediate Addi 5 left imm) → Plain w (suc k) (on_registers Sltu to 0 5) → ComparedByIn w k to kind left n NotEqual (suc (suc k))

-- from k to next, a line that uses a constant in register r, as an immediate or by x0, where nothing else reads that register; the
-- constant's word is n
pub data FoldedIn (w : Lines) (blocks : List Block) (k r n : ℕ) : Line → List Line → Exit → ℕ → Type 0 where
  ComputesBy : (to : ℕ) (op : BinaryOp) (kind : Kind) (left : ℕ) (rest : List Line) (exit : Exit) (by : Op) (imm : ℕ) → IsHome to → IsHome left → left ≢ r → IsPromoted kind → Immediate n kind op by imm → IsSpent blocks rest exit to r → Plain w k (with_immediate by to left imm) → FoldedIn w blocks k r n (Compute to op kind left r) rest exit (suc k)
  ComputesFrom : (to : ℕ) (op : BinaryOp) (kind : Kind) (right : ℕ) (rest : List Line) (exit : Exit) (by : Op) (imm : ℕ) → IsHome to → IsHome right → right ≢ r → IsPromoted kind → commutes op ≡ true → Immediate n kind op by imm → IsSpent blocks rest exit to r → Plain w k (with_immediate by to right imm) → FoldedIn w blocks k r n (Compute to op kind r right) rest exit (suc k)
  ComparesBy : (to : ℕ) (op : Comparison) (kind : Kind) (left : ℕ) (rest : List Line) (exit : Exit) (next : ℕ) → IsHome to → IsHome left → left ≢ r → IsPromoted kind ⊎ (kind ≡ Ptr) → IsSpent blocks rest exit to r → ComparedByIn w k to kind left n op next → FoldedIn w blocks k r n (Compare to op kind left r) rest exit next
  StoresZero : (place : Place) (kind : Kind) (access : ℕ) (rest : List Line) (exit : Exit) (base imm next : ℕ) → n ≡ 0 → place_uses place r ≡ false → IsUnread blocks rest exit r → BasedIn w k place base imm next → Accessing w next (storing (store_op kind) base 0 imm) access → FoldedIn w blocks k r n (Write place kind r access) rest exit (suc next)

abbrev mutual
  -- the lines of a function that has these blocks and this frame, from k on
  pub StandsIn : Lines → List Block → (ℕ → ℕ) → ℕ → ℕ → List Line → Exit → Type 0
  StandsIn w blocks starts frame k [] exit = ExitIn w starts frame k exit
  StandsIn w blocks starts frame k (line ∷ rest) exit = ((next : ℕ) × SelectedIn w k line next × StandsIn w blocks starts frame next rest exit) ⊎ JoinedIn w blocks starts k line rest exit ⊎ PairedIn w blocks starts frame k line rest exit

  pub PairedIn : Lines → List Block → (ℕ → ℕ) → ℕ → ℕ → Line → List Line → Exit → Type 0
  PairedIn w blocks starts frame k line [] exit = ⊥
  PairedIn w blocks starts frame k line (user ∷ rest) exit = (r : ℕ) × (n : ℕ) × (next : ℕ) × IsConstant line r n × FoldedIn w blocks k r n user rest exit next × StandsIn w blocks starts frame next rest exit

-- the test of the stack, near or over a jump
pub data CheckedIn (w : Lines) (k : ℕ) : ℕ → Type 0 where
  Direct : Aimed w k (branching Bltu 6 5 0) w.full → CheckedIn w k (suc k)
  Around : Plain w k (branching Bgeu 6 5 8) → JumpsIn w (suc k) w.full → CheckedIn w k (suc (suc k))

-- room is tested before the stack pointer goes down, and the return address is saved
pub record PrologueIn (w : Lines) (starts : ℕ → ℕ) (k frame block : ℕ) : Type 0 where
  pub a : ℕ
  pub b : ℕ
  pub lowered : AddsIn w k 6 (2 ^ 32 - frame) a
  pub bound : Plain w a (with_immediate Lw 5 0 stack_lim_at)
  pub checked : CheckedIn w (suc a) b
  pub taken : Plain w b (with_immediate Addi 2 6 0)
  pub saved : Plain w (suc b) (storing Sw 2 1 0)
  pub continues : ContinuesIn w starts (suc (suc b)) block

-- what `select` ensures of a function's lines. starts: the line that each block begins with
pub record IsSelected (w : Lines) (frame : ℕ) (f : Function) (starts : ℕ → ℕ) : Type 0 where
  pub prologue : PrologueIn w starts 0 frame f.entry
  pub blocks : (b : ℕ) (block : Block) → slice_get f.blocks.items b ≡ Some block → StandsIn w f.blocks.items starts frame (starts b) block.lines.items block.exit

-- what a layout ensures of a function's frame
pub record IsFramed (p : Linking) (g : Setting) (i : ℕ) (f : Function) : Type 0 where
  pub small : frame_of g i ≤ 65536
  pub even : frame_of g i % 4 ≡ 0
  pub layout : LaidOut p (shapes_of f) 0 (frame_of g i)
  pub registers : f.registers ≡ Machine
  pub received : f.first_parameter ≡ 10

-- where line k lies
abbrev pub spot_of : ℕ → ℕ → ℕ
spot_of base zero = base
spot_of base (suc k) = spot_of base k + 4

-- how far it is, as a word
abbrev pub distance : ℕ → ℕ → ℕ
distance pc target = (target + (2 ^ 32 - pc)) % 2 ^ 32

-- an instruction at its place, where labels have theirs
abbrev pub at_place : (ℕ → ℕ) → ℕ → Instruction → Option ℕ → Instruction
at_place place pc l None = l
at_place place pc l (Some label) = record l { imm = distance pc (place label) }

-- what linking ensures: each line's instruction at its place, and the labels theirs
pub record IsLaid (p : Linking) (i : ℕ) (w : Lines) (place : ℕ → ℕ) (starts : ℕ → ℕ) : Type 0 where
  pub each : (k : ℕ) (l : Instruction) (target access : Option ℕ) (cause : Option Cause) → HasLine w k l target access cause → Holds p.image (spot_of (p.entry i) k) (at_place place (spot_of (p.entry i) k) l target)
  pub small : (label : ℕ) → place label < 2 ^ 32
  pub starts_at : (b : ℕ) → p.place i b ≡ spot_of (p.entry i) (starts b)
  pub at : w.at ≡ p.at
  pub block : (b : ℕ) → place (w.block b) ≡ p.place i b
  pub entry : (n : ℕ) → place (w.entry n) ≡ p.entry n
  pub full : place w.full ≡ p.full
  pub checkpoint : (m : ℕ) → place (w.checkpoint m) ≡ p.checkpoint m
  pub serves : (service : Service) → place (w.serves service) ≡ p.serves service

-- so what is selected and laid is where the law of selection wants it
abbrev pub LinesLaw : Type 0
LinesLaw =
    (p : Linking) (g : Setting) (i : ℕ) (f : Function) (w : Lines) (place starts : ℕ → ℕ) →
    IsFramed p g i f → IsSelected w (frame_of g i) f starts → IsLaid p i w place starts → FunctionAt p g i f

-- a layout puts a function's objects where the linking has them
pub record Agrees (p : Linking) (f : Function) (l : Layout) : Type 0 where
  pub at : (a : Name) (sh : Shape) → shapes_of f a ≡ Some sh → p.at a ≡ place_in f l a
  pub size : (a : Name) (sh : Shape) → shapes_of f a ≡ Some sh → p.size a ≡ sh.size

abbrev pub FrameLaw : Type 0
FrameLaw =
    (p : Linking) (g : Setting) (i : ℕ) (f : Function) (l : Layout) →
    IsLayout f l → Agrees p f l → frame_of g i ≡ l.frame → f.registers ≡ Machine → f.first_parameter ≡ 10 → IsFramed p g i f
