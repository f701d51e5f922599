-- What a typed program becomes: its statics, and a function for each of its functions.
use Rattle.std.specs.Prelude.{◌≡◌, ℕ, suc, ◌+◌, ◌-◌, ◌*◌, ◌^◌, ◌==◌, ◌≤◌, min, Bool, true, false, List, [], ◌∷◌, length, take, pos, Option, Some, None, slice_get, All}
use Rattle.im_num.specs.declared.kind.Kind.{Kind}
use Rattle.im_num.specs.declared.kind.Kind.TheVariants.{I32}
use Rattle.im_ctype.specs.declared.cell.Cell.{Cell}
use Rattle.im_typed.specs.Program as p
use Rattle.im_typed.specs.Counts.{func_nodes, func_need}
use Rattle.im_typed.specs.Programs.{first_object}
use Rattle.im_typed.specs.Typing.{IsWellTyped}
use Rattle.im_block.specs.declared.code.Place.TheVariants.{Local}
use Rattle.im_block.specs.declared.code.Line.{Line}
use Rattle.im_block.specs.declared.code.Line.TheVariants.{Put, Write, Call}
use Rattle.im_block.specs.declared.code.Exit.TheVariants.{Return}
use Rattle.im_block.specs.declared.code.Block.{Block}
use Rattle.im_block.specs.declared.unit.Object.{Object}
use Rattle.im_block.specs.declared.unit.Registers.TheVariants.{Virtual}
use Rattle.im_block.specs.declared.unit.Function.{Function}
use Rattle.im_block.specs.declared.unit.Unit.{Unit as Code}
use Rattle.im_block.specs.Meaning.{statics_of}
use Rattle.im_block.specs.Shape.{IsOrdered, loop_edges, cost, function_cost}
use Rattle.im_block.specs.Wellformed.{LineWithin, ExitWithin, ExitThere, accesses_of_functions, AreApart}
use Rattle.im_lower_relation.specs.Codes.{Point, before, ends, Begins}
use Rattle.im_lower_relation.specs.Statements.{CodesStatement}

-- objects are the program's
abbrev pub AreObjects : List p.LocalObject → List Object → Type 0
AreObjects [] [] = Unit {0}
AreObjects [] (o ∷ os) = ⊥
AreObjects (x ∷ xs) [] = ⊥
AreObjects (x ∷ xs) (o ∷ os) = (o.size ≡ x.size) × (o.cells.items ≡ x.cells) × AreObjects xs os

-- the kind of a parameter, which is one cell
abbrev pub kind_of_one : List Cell → Kind
kind_of_one [] = I32
kind_of_one (c ∷ cs) = c.kind

-- each parameter is written to its object first of all, from the object of a number and the register of a number on
abbrev pub CodesParameters : ℕ → ℕ → List p.LocalObject → Point → Point → Type 0
CodesParameters object from [] s t = s ≡ t
CodesParameters object from (o ∷ os) s t =
    (m : Point) × (n : ℕ) × CodesParameters (suc object) (suc from) os m t
    × (s ≡ before (Write (Local object 0) (kind_of_one o.cells) from n) m)

-- the brace of a function: 0 from main, and no value from another one (C11 5.1.2.2.3, 6.9.1)
abbrev pub brace : (low : ℕ) → (is_main : Bool) → Point
brace low true = before (Put low (pos 0)) (ends (Return (Some low)))
brace low false = ends (Return None)

-- the k-th function
pub record CodesFunction (g : p.Prog) (k : ℕ) (f : p.Func) (code : Function) : Type 0 where
  pub nodes : code.nodes ≡ min (func_nodes f) (2 ^ 64 - 1)
  pub need : code.need ≡ min (func_need f) (2 ^ 64 - 1)
  pub registers : code.registers ≡ Virtual
  pub slots : code.slots ≡ 0
  pub parameters : code.parameters ≡ f.params
  pub first_parameter : code.first_parameter ≡ 0
  pub first_object : code.first_object ≡ first_object g k
  pub objects : AreObjects f.objects code.objects.items
  pub start : Point
  pub body : Point
  pub entry : Begins code.blocks.items code.entry start
  pub passed : CodesParameters code.first_object 0 (take f.params f.objects) start body
  pub does : CodesStatement g code.first_object f.params f.objects code.blocks.items f.body 0 0 body (brace f.params (k == g.main))

-- a unit that means what the program means
pub record IsLowered (g : p.Prog) (u : Code) : Type 0 where
  pub statics : statics_of u ≡ g.statics
  pub main : u.main ≡ g.main
  pub count : length u.functions.items ≡ length g.funcs
  pub functions : (k : ℕ) (f : p.Func) (code : Function) → slice_get g.funcs k ≡ Some f → slice_get u.functions.items k ≡ Some code → CodesFunction g k f code

-- the size of the code, and that what it names is there

-- the loop statements in a statement
abbrev mutual
  pub loops_in : p.Stmt → ℕ
  loops_in (p.Do e) = 0
  loops_in (p.Forget x) = 0
  loops_in (p.Initialise x count ps) = 0
  loops_in (p.Block ss) = loops_among ss
  loops_in (p.If q a b) = loops_in a + loops_in b
  loops_in (p.While q a) = 1 + loops_in a
  loops_in (p.DoWhile a q) = 1 + loops_in a
  loops_in (p.For a q step b) = 1 + loops_in a + loops_in b
  loops_in (p.Switch e ks otherwise ss) = loops_among ss
  loops_in p.Break = 0
  loops_in p.Continue = 0
  loops_in (p.Return e) = 0

  pub loops_among : p.Stmts → ℕ
  loops_among p.no_stmts = 0
  loops_among (p.more_stmts a rest) = loops_in a + loops_among rest

abbrev pub HasParameters : Option p.Func → ℕ → Type 0
HasParameters None count = ⊥
HasParameters (Some f) count = f.params ≡ count

-- a call has an argument for each parameter
abbrev pub CallsRightly : p.Prog → Line → Type 0
CallsRightly g (Call to n first count) = HasParameters (slice_get g.funcs n) count
CallsRightly g line = Unit {0}

pub record IsSized (g : p.Prog) (f : p.Func) (code : Function) : Type 0 where
  pub ordered : IsOrdered code.blocks.items
  pub exits_there : All (λ (b : Block). ExitThere (length code.blocks.items) b.exit) code.blocks.items
  pub lines_within : All (λ (b : Block). All (LineWithin code.register_count) b.lines.items) code.blocks.items
  pub exits_within : All (λ (b : Block). ExitWithin code.register_count b.exit) code.blocks.items
  pub received : code.parameters ≤ code.register_count
  pub few_registers : code.register_count ≤ func_nodes f
  pub few_turns : loop_edges code ≤ loops_in f.body
  pub small_lines : All (λ (b : Block). All (λ (line : Line). cost line ≤ 50) b.lines.items) code.blocks.items
  pub small : function_cost code ≤ 64 * (func_nodes f + 1)
  pub calls : IsWellTyped g → All (λ (b : Block). All (CallsRightly g) b.lines.items) code.blocks.items

pub record AreSized (g : p.Prog) (u : Code) : Type 0 where
  pub functions : (k : ℕ) (f : p.Func) (code : Function) → slice_get g.funcs k ≡ Some f → slice_get u.functions.items k ≡ Some code → IsSized g f code
  pub accesses : AreApart (accesses_of_functions u.functions.items)
