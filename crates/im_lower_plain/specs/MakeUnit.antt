-- What the body makes of a function and of all functions. Private contracts alone speak of this.
use Rattle.std.specs.Prelude.{◌≡◌, ℕ, suc, ◌+◌, ◌-◌, ◌^◌, ◌<◌, ◌==◌, min, Bool, List, [], ◌∷◌, None, map, length, All}
use Rattle.im_ctype.specs.Table.{Table, IsIn}
use Rattle.im_typed.specs.declared.program.Object.{Object as TypedObject}
use Rattle.im_typed.specs.declared.program.Static.{Static as TypedStatic}
use Rattle.im_typed.specs.declared.program.Func.{Func}
use Rattle.im_typed.specs.declared.program.Prog.{Prog}
use Rattle.im_typed.specs.ProgramOf.{stmt_of, object_of, func_of, program_of}
use Rattle.im_typed.specs.Counts.{func_nodes, func_need}
use Rattle.im_block.specs.declared.code.Block.{Block}
use Rattle.im_block.specs.declared.code.Exit.TheVariants.{Return}
use Rattle.im_block.specs.declared.unit.Registers.TheVariants.{Virtual}
use Rattle.im_block.specs.declared.unit.Function.{Function}
use Rattle.im_block.specs.declared.unit.Unit.{Unit as Code}
use Rattle.im_block.specs.Meaning.{statics_of}
use Rattle.im_lower_relation.specs.Codes.{ends}
use Rattle.im_lower_relation.specs.Lowered.{AreObjects}
use Rattle.im_lower_plain.specs.Made.{Made, point_of, close}
use Rattle.im_lower_plain.specs.MakeStatement.{make_function}

abbrev pub HasTypes : Table → List TypedObject → Type 0
HasTypes types objects = All (λ (o : TypedObject). IsIn types o.ty) objects

-- no code yet
abbrev pub nothing_made : ℕ → Made
nothing_made accesses = record { blocks = []; point = ends (Return None); accesses = accesses; registers = 0 }

-- the code of a function, whose first block in order of running is open
abbrev pub code_made : Prog → Func → Bool → ℕ → ℕ → Function → Made
code_made g f is_main first accesses made =
    make_function (program_of g) first f.params made.objects.items is_main f.params (stmt_of g.types f.body) (nothing_made accesses)

-- the function as it is made, with the numbers of its first object, of its first access, and of the access that follows
pub record FunctionMade (g : Prog) (f : Func) (is_main : Bool) (first accesses : ℕ) (made : Function) (next : ℕ) : Type 0 where
  pub nodes : made.nodes ≡ min (func_nodes (func_of g.types f)) (2 ^ 64 - 1)
  pub need : made.need ≡ min (func_need (func_of g.types f)) (2 ^ 64 - 1)
  pub small : made.need < 2 ^ 64 - 1
  pub registers : made.registers ≡ Virtual
  pub slots : made.slots ≡ 0
  pub parameters : made.parameters ≡ f.params
  pub first_parameter : made.first_parameter ≡ 0
  pub first_object : made.first_object ≡ first
  pub objects : AreObjects (map (object_of g.types) f.objects.items) made.objects.items
  pub blocks : map {A = Block} point_of made.blocks.items ≡ (close (code_made g f is_main first accesses made)).blocks
  pub register_count : made.register_count ≡ (close (code_made g f is_main first accesses made)).registers
  pub following : next ≡ (close (code_made g f is_main first accesses made)).accesses
  pub entry : made.entry ≡ length (code_made g f is_main first accesses made).blocks

-- how many objects functions have
abbrev pub objects_of : List Func → ℕ
objects_of [] = 0
objects_of (f ∷ fs) = length f.objects.items + objects_of fs

-- functions in order, from the one of a number on
abbrev pub FunctionsMade : Prog → ℕ → ℕ → ℕ → ℕ → List Func → List Function → Type 0
FunctionsMade g k first accesses last [] [] = accesses ≡ last
FunctionsMade g k first accesses last [] (c ∷ cs) = ⊥
FunctionsMade g k first accesses last (f ∷ fs) [] = ⊥
FunctionsMade g k first accesses last (f ∷ fs) (c ∷ cs) =
    (next : ℕ) × FunctionMade g f (k == g.main) first accesses c next
    × FunctionsMade g (suc k) (first + length f.objects.items) next last fs cs

-- all functions of a program
pub record AllMade (g : Prog) (functions : List Function) : Type 0 where
  pub last : ℕ
  pub each : FunctionsMade g 0 (length g.statics.items) 0 last g.funcs.items functions

pub record UnitMade (g : Prog) (u : Code) : Type 0 where
  pub statics : statics_of u ≡ (program_of g).statics
  pub main : u.main ≡ g.main
  pub functions : AllMade g u.functions.items

-- the types of a program's objects are in its table
pub record KnowsTypes (g : Prog) : Type 0 where
  pub statics : All (λ (s : TypedStatic). IsIn g.types s.object.ty) g.statics.items
  pub objects : All (λ (f : Func). HasTypes g.types f.objects.items) g.funcs.items
