-- A unit made by hand, and what it does: a struct copy, a call, a loop, a byte of output.
--   struct { int a; unsigned char b; } p = {5, 7}, q; int s;
--   int add(int n) { while (n) { s = s + n; n = n - 1; } return s; }
--   int main(void) { q = p; putchar(add(3) + q.b); return q.a; }
use Rattle.std.specs.Prelude.{◌≡◌, ℕ, ◌<◌, ◌^◌, Option, List, [], ◌∷◌, length, pos, Some, None}
use Rattle.std.specs.declared.vec.Vec.{Vec}
use Rattle.std.specs.declared.alloc.Global.{Global}
use denote.RawPtr.{null_ptr}
use lib.Dec.{lit<}
use mathlib.Core.Path.{refl}
use native.Mathlib.Nat.{le_refl}
use Rattle.im_num.specs.declared.kind.Kind.TheVariants.{U8, I32}
use Rattle.im_num.specs.declared.values.CellValue.TheVariants.{Number as Shown}
use Rattle.im_num.specs.Variables.{Variable}
use Rattle.im_ctype.specs.declared.cell.Cell.{Cell}
use Rattle.im_store.specs.declared.operators.BinaryOp.TheVariants.{Add, Subtract}
use Rattle.im_store.specs.Outcomes.{Outcome, More, End}
use Rattle.im_serve.specs.declared.service.Service.TheVariants.{Putchar}
use Rattle.im_block.specs.declared.code.Place.{Place}
use Rattle.im_block.specs.declared.code.Place.TheVariants.{Static, Local}
use Rattle.im_block.specs.declared.code.Line.{Line}
use Rattle.im_block.specs.declared.code.Line.TheVariants.{Put, Compute, Read, Write, Call, Serve}
use Rattle.im_block.specs.declared.code.Exit.{Exit}
use Rattle.im_block.specs.declared.code.Exit.TheVariants.{Jump, Turn, Branch, Return}
use Rattle.im_block.specs.declared.code.Block.{Block}
use Rattle.im_block.specs.declared.unit.Constant.TheVariants.{Number as Fixed}
use Rattle.im_block.specs.declared.unit.Static.{Static as StaticOf}
use Rattle.im_block.specs.declared.unit.Registers.TheVariants.{Virtual}
use Rattle.im_block.specs.declared.unit.Function.{Function}
use Rattle.im_block.specs.declared.unit.Unit.{Unit as Code}
use Rattle.im_block.specs.Meaning.{Setting}
use Rattle.im_block.specs.Shape.{AllOrdered}
use Rattle.im_block.specs.Wellformed.{IsWellFormed}
use Rattle.im_block.specs.Runs.{Ran, Over, At, goes_on, exec, start}

abbrev pub pair_cells : List Cell
pair_cells = record { offset = 0; kind = I32 } ∷ record { offset = 4; kind = U8 } ∷ []

abbrev pub int_cells : List Cell
int_cells = record { offset = 0; kind = I32 } ∷ []

-- read and write: the register, the object, its offset and the number of the access
abbrev pub read_int : ℕ → Place → ℕ → Line
read_int to place access = Read to place I32 access

abbrev pub add_lines : List Line
add_lines =
    read_int 1 (Static 2 0) 1 ∷ read_int 2 (Local 3 0) 2 ∷ Compute 1 Add I32 1 2 ∷ Write (Static 2 0) I32 1 3
    ∷ read_int 1 (Local 3 0) 4 ∷ Put 2 (pos 1) ∷ Compute 1 Subtract I32 1 2 ∷ Write (Local 3 0) I32 1 5 ∷ []

abbrev pub main_lines : List Line
main_lines =
    read_int 0 (Static 0 0) 9 ∷ Read 1 (Static 0 4) U8 10 ∷ Write (Static 1 0) I32 0 11 ∷ Write (Static 1 4) U8 1 12
    ∷ Put 0 (pos 3) ∷ Call 0 0 0 1 ∷ Read 1 (Static 1 4) U8 13 ∷ Compute 0 Add I32 0 1 ∷ Serve 0 Putchar (Some 0) ∷ read_int 0 (Static 1 0) 14 ∷ []

module _ (memory : Global) where
  abbrev pub vec : {A : Type 0} (xs : List A) → length xs < 2 ^ 63 → Vec A Global
  vec xs small = record { ptr = null_ptr; len = length xs; cap = length xs; alloc = memory; items = xs; ok = (refl, le_refl (length xs)); small = small }

  abbrev pub block : (lines : List Line) → length lines < 2 ^ 63 → Exit → Block
  block lines small exit = record { lines = vec lines small; exit = exit }

  abbrev pub pair : ℕ → ℕ → ℕ → StaticOf
  pair name a b = record {
    name = vec (name ∷ []) (lit< tt);
    object = record { size = 8; cells = vec pair_cells (lit< tt) };
    values = vec (Fixed (pos a) ∷ Fixed (pos b) ∷ []) (lit< tt);
  }

  abbrev pub sum : StaticOf
  sum = record {
    name = vec (115 ∷ []) (lit< tt);
    object = record { size = 4; cells = vec int_cells (lit< tt) };
    values = vec (Fixed (pos 0) ∷ []) (lit< tt);
  }

  -- its loop's test is block 2, the loop edge block 1, the body block 4
  abbrev pub add : Function
  add = record {
    nodes = 16;
    need = 208;
    registers = Virtual;
    register_count = 3;
    parameters = 1;
    first_parameter = 0;
    first_object = 3;
    objects = vec (record { size = 4; cells = vec int_cells (lit< tt) } ∷ []) (lit< tt);
    slots = 0;
    blocks =
        vec
        (block (read_int 1 (Static 2 0) 6 ∷ []) (lit< tt) (Return (Some 1))
        ∷ block [] (lit< tt) (Turn 4)
        ∷ block (read_int 1 (Local 3 0) 7 ∷ []) (lit< tt) (Branch 1 1 0)
        ∷ block (Write (Local 3 0) I32 0 8 ∷ []) (lit< tt) (Jump 2)
        ∷ block add_lines (lit< tt) (Jump 2)
        ∷ []) (lit< tt);
    entry = 3;
  }

  abbrev pub main : Function
  main = record {
    nodes = 14;
    need = 184;
    registers = Virtual;
    register_count = 2;
    parameters = 0;
    first_parameter = 0;
    first_object = 4;
    objects = vec [] (lit< tt);
    slots = 0;
    blocks = vec (block main_lines (lit< tt) (Return (Some 0)) ∷ []) (lit< tt);
    entry = 0;
  }

  abbrev pub sample : Code
  sample = record {
    statics = vec (pair 112 5 7 ∷ pair 113 0 0 ∷ sum ∷ []) (lit< tt);
    functions = vec (add ∷ main ∷ []) (lit< tt);
    main = 1;
  }

  abbrev pub setting : ℕ → Setting
  setting stack = record { frames = 32 ∷ 16 ∷ []; stack = stack; capacity = 1; input = [] }

abbrev pub shown : ℕ → ℕ → ℕ → List Variable
shown a b s =
    record { name = 112 ∷ []; cells = Shown (pos 5) ∷ Shown (pos 7) ∷ [] }
    ∷ record { name = 113 ∷ []; cells = Shown (pos a) ∷ Shown (pos b) ∷ [] }
    ∷ record { name = 115 ∷ []; cells = Shown (pos s) ∷ [] }
    ∷ []

abbrev pub ended_with : Ran → Option Outcome
ended_with (Over outcome events) = Some outcome
ended_with (At state events) = None

-- what so many steps of the sample come to, with so much stack and fuel
abbrev pub sampled : Global → ℕ → ℕ → ℕ → Option Outcome
sampled memory stack fuel steps =
    ended_with (goes_on (start (sample memory) (setting memory stack) fuel) (exec (sample memory) (setting memory stack) steps) [])

-- with fuel for a call, three turns and a byte it ends; with less it wants more; where the stack has no room for the call it
-- is exhausted
pub record SampleRuns (memory : Global) : Type 0 where
  pub ends : sampled memory 48 5 80 ≡ Some (End 0 (pos 5) (13 ∷ []) (shown 5 7 6))
  pub wants : sampled memory 48 4 80 ≡ Some (More [])
  pub exhausted : sampled memory 47 5 80 ≡ Some (End 1 (pos 0) [] (shown 5 7 0))

-- what is asked of code, elsewhere as a premise, is met by it
pub record SampleIsCode (memory : Global) : Type 0 where
  pub ordered : AllOrdered (sample memory)
  pub well_formed : IsWellFormed (sample memory)

abbrev pub SampleLaw : Type 0
SampleLaw = (memory : Global) → SampleIsCode memory × SampleRuns memory
