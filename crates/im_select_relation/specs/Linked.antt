-- Where placed code lies as instructions, by static facts alone: functions, statics, routines, the lines that begin and end.
use Rattle.std.specs.Prelude.{◌≡◌, ◌<◌, ◌≤◌, ℕ, ◌+◌, ◌%◌, ◌^◌, ℤ, pos, [], Some, slice_get}
use Rattle.im_num.specs.declared.kind.Kind.{Kind}
use Rattle.im_num.specs.Kinds.{word}
use Rattle.im_mem.specs.Map.{statics_start, statics_capacity, stack_capacity, status_at, reason_at}
use Rattle.im_mem.specs.Memory.{Mem}
use Rattle.im_rv.specs.declared.instr.Op.TheVariants.{Sw, Addi, Ebreak}
use Rattle.im_rv.specs.Steps.{sum_of}
use Rattle.im_rv_reach.specs.Shown.{shown, left}
use Rattle.im_rv_reach.specs.Instructions.{Holds, with_immediate, storing, jumping}
use Rattle.im_rv_reach.specs.Routines.{Runtime, Words, Called, Done, SavesAt}
use Rattle.im_serve.specs.declared.service.Service.{Service}
use Rattle.im_serve.specs.Services.{row, IsNullary, IsUnary, serve}
use Rattle.im_store.specs.Objects.{Name, Named, Link, Shape}
use Rattle.im_block.specs.declared.code.Block.{Block}
use Rattle.im_block.specs.declared.unit.Registers.TheVariants.{Machine}
use Rattle.im_block.specs.declared.unit.Function.{Function}
use Rattle.im_block.specs.declared.unit.Unit.{Unit as Code}
use Rattle.im_store.specs.Statics.{static_shapes, static_values}
use Rattle.im_block.specs.Meaning.{Setting, shapes_of, statics_of}
use Rattle.im_select_relation.specs.OperatorTables.{cell_word}
use Rattle.im_select_relation.specs.Linking.{Linking, LaidOut, Means, frame_of, limit_of, runtime}
use Rattle.im_select_relation.specs.Selected.{Prologue, Stands, IsEntry}

-- function i: its frame, its objects in it, its prologue and its blocks. Arguments come in x10 and on
pub record FunctionAt (p : Linking) (g : Setting) (i : ℕ) (f : Function) : Type 0 where
  pub small : frame_of g i ≤ 65536
  pub even : frame_of g i % 4 ≡ 0
  pub layout : LaidOut p (shapes_of f) 0 (frame_of g i)
  pub registers : f.registers ≡ Machine
  pub received : f.first_parameter ≡ 10
  pub prologue : Prologue p (p.entry i) (frame_of g i) (p.place i f.entry)
  pub blocks : (b : ℕ) (block : Block) → slice_get f.blocks.items b ≡ Some block → Stands p f.blocks.items i (frame_of g i) (p.place i b) block.lines.items block.exit

-- the routine of a service stands at pc: the word of the argument, where there is a parameter, and of the result is in x10, the
-- return address in x1; it does what the table says
abbrev pub ServesAt : Runtime → Service → ℕ → Type 0
ServesAt r service pc =
    (m : Mem) (x : ℕ → ℕ) (z : ℤ) → Called r m x 1 → (IsNullary (row service).parameter → z ≡ pos 0) → (IsUnary (row service).parameter → x 10 ≡ word z) →
    (d : Done r m pc x (x 1) (serve service r.capacity z (left m) (shown m)).output (serve service r.capacity z (left m) (shown m)).input) × (d.y 10 ≡ word (serve service r.capacity z (left m) (shown m)).value)

pub record IsLinked (p : Linking) (u : Code) (g : Setting) : Type 0 where
  pub functions : (i : ℕ) (f : Function) → slice_get u.functions.items i ≡ Some f → FunctionAt p g i f
  pub first : p.at Link ≡ 0
  -- no object reaches far behind where it lies
  pub near : (n : ℕ) → p.at (Named n) + p.size (Named n) < 2 ^ 31
  pub statics : LaidOut p (static_shapes (statics_of u)) statics_start (statics_start + statics_capacity)
  pub initial : (a : Name) (sh : Shape) (i : ℕ) (k : Kind) → static_shapes (statics_of u) a ≡ Some sh → sh.cells i ≡ Some k → Means p (static_values (statics_of u) a i) (cell_word p.image k (p.at a + i))
  pub stack : g.stack ≤ stack_capacity
  pub words : Words (limit_of g) g.capacity p.image
  pub silent : shown p.image ≡ []
  pub input : left p.image ≡ g.input
  pub serves : (service : Service) → ServesAt (runtime p g) service (p.serves service)
  pub saves : (m : ℕ) → IsEntry m → SavesAt (runtime p g) (p.checkpoint m)
  pub call : ℕ
  pub lands : sum_of p.begin call ≡ p.entry u.main
  pub begins : Holds p.image p.begin (jumping 1 call)
  pub told : Holds p.image (p.begin + 4) (storing Sw 0 10 status_at)
  pub ends : Holds p.image (p.begin + 4 + 4) (with_immediate Ebreak 0 0 0)
  pub one : Holds p.image p.full (with_immediate Addi 5 0 1)
  pub cause : Holds p.image (p.full + 4) (storing Sw 0 5 reason_at)
  pub stops : Holds p.image (p.full + 4 + 4) (with_immediate Ebreak 0 0 0)
