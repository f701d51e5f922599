-- The image of linked code and of the statics of its unit.
use Rattle.std.specs.Prelude.{◌≡◌, ◌⊎◌, ◌<◌, ◌≤◌, ℕ, ◌+◌, ◌-◌, ◌*◌, ◌%◌, ◌^◌, true, List, length, Some, slice_get, slice_index}
use Rattle.std.specs.List.{flat_map, list_all}
use Rattle.im_num.specs.Kinds.{kind_size, word}
use Rattle.im_mem.specs.Map.{statics_start}
use Rattle.im_mem.specs.Memory.{little, view}
use Rattle.im_rv.specs.declared.code.Code.{Code as Linked}
use Rattle.im_rv.specs.Code.{address}
use Rattle.im_image.specs.declared.version.Version.TheVariants.{Two}
use Rattle.im_image.specs.declared.form.Form.TheVariants.{TwoLengths}
use Rattle.im_image.specs.Contents.{ImageValue, ObjectValue, is_name_byte}
use Rattle.im_ctype.specs.declared.cell.Cell.{Cell}
use Rattle.im_store.specs.Statics.{StaticObject}
use Rattle.im_block.specs.declared.unit.Constant.{Constant}
use Rattle.im_block.specs.declared.unit.Constant.TheVariants.{Number, Null, Inside}
use Rattle.im_block.specs.declared.unit.Static.{Static as StaticOf}
use Rattle.im_block.specs.declared.unit.Unit.{Unit as Code}
use Rattle.im_block.specs.Wellformed.{IsWellFormed}
use Rattle.im_frame.specs.Layout.{rooms}
use Rattle.im_select_addresses.specs.Statics.{objects_of}
use Rattle.im_select_addresses.specs.Named.{cells_of_run}

-- the word of a first value, where the statics have these addresses
abbrev pub word_of : List ℕ → Constant → ℕ
word_of addresses (Number z) = word z
word_of addresses Null = 0
word_of addresses (Inside object offset) = slice_index addresses object + offset

-- a cell of the n-th static, and its first value
pub record IsCell (statics : List StaticOf) (n : ℕ) (c : Cell) (v : Constant) : Type 0 where
  pub s : StaticOf
  pub i : ℕ
  pub is_static : slice_get statics n ≡ Some s
  pub is_cell : slice_get s.object.cells.items i ≡ Some c
  pub is_value : slice_get s.values.items i ≡ Some v

-- the place of a cell of the n-th static among the bytes of all
abbrev pub cell_place : List ℕ → ℕ → Cell → ℕ
cell_place addresses n c = slice_index addresses n + c.offset - statics_start

-- each cell has its first value's bytes, the lowest first; a byte of no cell is 0
pub record AreFirstBytes (statics : List StaticOf) (addresses bytes : List ℕ) : Type 0 where
  pub size : length bytes ≡ rooms (objects_of statics)
  pub cells : (n : ℕ) (c : Cell) (v : Constant) → IsCell statics n c v → little (view bytes) (cell_place addresses n c) (kind_size c.kind) ≡ word_of addresses v % 2 ^ (8 * kind_size c.kind)
  pub rest : (k : ℕ) → ((n : ℕ) (c : Cell) (v : Constant) → IsCell statics n c v → (k < cell_place addresses n c) ⊎ (cell_place addresses n c + kind_size c.kind ≤ k)) → slice_index bytes k ≡ 0

-- the object of a static at this address
pub record IsObjectOf (at : ℕ) (s : StaticOf) (o : ObjectValue) : Type 0 where
  pub at_is : o.at ≡ at
  pub size : o.size ≡ s.object.size
  pub name : o.name ≡ s.name.items
  pub cells : flat_map cells_of_run o.runs ≡ s.object.cells.items

-- an object for each static, in order
pub record AreObjectsOf (statics : List StaticOf) (addresses : List ℕ) (objects : List ObjectValue) : Type 0 where
  pub count : length objects ≡ length statics
  pub each : (n : ℕ) (s : StaticOf) (o : ObjectValue) → slice_get statics n ≡ Some s → slice_get objects n ≡ Some o → IsObjectOf (slice_index addresses n) s o

pub record IsPacked (u : Code) (addresses : List ℕ) (code : Linked) (stack out_cap : ℕ) (image : ImageValue) : Type 0 where
  pub version : image.version ≡ Two
  pub form : image.form ≡ TwoLengths
  pub words : image.words ≡ code.words.items
  pub entry : image.entry ≡ code.entry
  pub stack_is : image.stack ≡ stack
  pub out_cap_is : image.out_cap ≡ out_cap
  pub statics : AreFirstBytes u.statics.items addresses image.statics
  pub objects : AreObjectsOf u.statics.items addresses image.objects

-- the statics of a well-formed unit
abbrev pub AreOfUnit : List StaticOf → Type 0
AreOfUnit statics = (u : Code) × (u.statics.items ≡ statics) × IsWellFormed u

-- what is asked of code: it fits, and begins with one of its words
pub record IsLoadable (code : Linked) : Type 0 where
  pub few : length code.words.items ≤ 261120
  pub first : ℕ
  pub inside : first < length code.words.items
  pub entry : code.entry ≡ address first

-- an image can name a static that has a cell, and a name of letters, digits, _ and $, fewer than 2^32 of them
pub record IsNamable (s : StaticObject) : Type 0 where
  pub cell : 0 < length s.cells
  pub some : 0 < length s.name
  pub short : length s.name < 2 ^ 32
  pub bytes : list_all is_name_byte s.name ≡ true

pub record AreNamable (statics : List StaticObject) : Type 0 where
  pub each : (n : ℕ) (s : StaticObject) → slice_get statics n ≡ Some s → IsNamable s
