-- The machine's operation for each operator of C, by the kind that it works on (RISC-V Unprivileged ISA, RV32I 2.4, 2.6, M 7).
use Rattle.std.specs.Prelude.{◌≡◌, ◌⊎◌, ℕ, ◌^◌, Bool, true, false, if◌then◌else◌}
use Rattle.im_num.specs.declared.kind.Kind.{Kind}
use Rattle.im_num.specs.declared.kind.Kind.TheVariants.{I8, U8, I16, U16, I32, U32, Ptr}
use Rattle.im_num.specs.Kinds.{kind_size, is_signed}
use Rattle.im_mem.specs.Memory.{Mem, little}
use Rattle.im_rv.specs.declared.instr.Op.{Op}
use Rattle.im_rv.specs.declared.instr.Op.TheVariants.{Lb, Lh, Lw, Lbu, Lhu, Sb, Sh, Sw, Add as AddOp, Sub, Sll, Slt, Sltu, Slti, Sltiu, Xor, Srl, Sra, Or, And, Mul, Div, Divu, Rem, Remu}
use Rattle.im_rv.specs.declared.effect.Extension.{Extension}
use Rattle.im_rv.specs.declared.effect.Extension.TheVariants.{Sign, Zero}
use Rattle.im_rv.specs.Steps.{extended}
use Rattle.im_store.specs.declared.operators.BinaryOp.{BinaryOp}
use Rattle.im_store.specs.declared.operators.BinaryOp.TheVariants.{Add, Subtract, Multiply, Divide, Remainder, BitAnd, BitOr, BitXor, ShiftLeft, ShiftRight}

-- operators work on promoted values: int and unsigned (C11 6.3.1.8)
abbrev pub IsPromoted : Kind → Type 0
IsPromoted kind = (kind ≡ I32) ⊎ (kind ≡ U32)

abbrev pub by_sign : Kind → Op → Op → Op
by_sign kind signed unsigned = if is_signed kind then signed else unsigned

abbrev pub operation : BinaryOp → Kind → Op
operation Add kind = AddOp
operation Subtract kind = Sub
operation Multiply kind = Mul
operation Divide kind = by_sign kind Div Divu
operation Remainder kind = by_sign kind Rem Remu
operation BitAnd kind = And
operation BitOr kind = Or
operation BitXor kind = Xor
operation ShiftLeft kind = Sll
operation ShiftRight kind = by_sign kind Sra Srl

-- whether its operands may change places
abbrev pub commutes : BinaryOp → Bool
commutes Add = true
commutes Multiply = true
commutes BitAnd = true
commutes BitOr = true
commutes BitXor = true
commutes op = false

-- whether one is less than another
abbrev pub less_op : Kind → Op
less_op kind = by_sign kind Slt Sltu

-- and whether a register is less than an immediate
abbrev pub less_by : Kind → Op
less_by kind = by_sign kind Slti Sltiu

-- the word below which no word is
abbrev pub least : Kind → ℕ
least kind = if is_signed kind then 2 ^ 31 else 0

abbrev pub load_op : Kind → Op
load_op I8 = Lb
load_op U8 = Lbu
load_op I16 = Lh
load_op U16 = Lhu
load_op I32 = Lw
load_op U32 = Lw
load_op Ptr = Lw

abbrev pub store_op : Kind → Op
store_op I8 = Sb
store_op U8 = Sb
store_op I16 = Sh
store_op U16 = Sh
store_op I32 = Sw
store_op U32 = Sw
store_op Ptr = Sw

-- how a cell of a kind is loaded: narrow signed ones by their sign
abbrev pub extension_of : Kind → Extension
extension_of I8 = Sign
extension_of U8 = Zero
extension_of I16 = Sign
extension_of U16 = Zero
extension_of I32 = Zero
extension_of U32 = Zero
extension_of Ptr = Zero

-- the word of the cell of a kind at an address
abbrev pub cell_word : Mem → Kind → ℕ → ℕ
cell_word m kind at = extended (kind_size kind) (extension_of kind) (little m at (kind_size kind))
