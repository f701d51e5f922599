-- What an image holds, apart from where it lies in memory, and the rules that it meets.
use Rattle.std.specs.Prelude.{ℕ, ◌+◌, ◌*◌, ◌/◌, ◌%◌, ◌^◌, ◌<◌, ◌==◌, ◌&&◌, ◌||◌, nat_le, not, Bool, true, false, IsTrue, List, [], ◌∷◌, length, slice_index, Option, Some, None}
use Rattle.std.specs.List.{list_all}
use Rattle.im_num.specs.declared.kind.Kind.{Kind}
use Rattle.im_num.specs.declared.kind.Kind.TheVariants.{I8, U8, I16, U16, I32, U32, Ptr}
use Rattle.im_num.specs.Kinds.{kind_size}
use Rattle.im_mem.specs.Map.{code_start, code_capacity, statics_start, statics_capacity, stack_capacity, output_capacity}
use Rattle.im_image.specs.declared.object.CellRun.{CellRun}
use Rattle.im_image.specs.declared.version.Version.{Version}
use Rattle.im_image.specs.declared.version.Version.TheVariants.{One, Two}
use Rattle.im_image.specs.declared.form.Form.{Form}
use Rattle.im_image.specs.declared.form.Form.TheVariants.{OneLength, TwoLengths}

-- an object's first address, its size in bytes, its name, and its cells by offset
pub record ObjectValue : Type 0 where
  pub at : ℕ
  pub size : ℕ
  pub name : List ℕ
  pub runs : List CellRun

-- the version of its text, the form of the output's length, the code words, the bytes of the statics, bytes of stack, bytes of
-- output, the entry's address, the named objects
pub record ImageValue : Type 0 where
  pub version : Version
  pub form : Form
  pub words : List ℕ
  pub statics : List ℕ
  pub stack : ℕ
  pub out_cap : ℕ
  pub entry : ℕ
  pub objects : List ObjectValue

-- ---- the rules of the header's fields

abbrev pub is_word_count : ℕ → Bool
is_word_count words = nat_le 1 words && nat_le words (code_capacity / 4)

abbrev pub is_statics_size : ℕ → Bool
is_statics_size statics = nat_le statics statics_capacity && statics % 4 == 0

abbrev pub is_stack_size : ℕ → Bool
is_stack_size stack = nat_le 256 stack && nat_le stack stack_capacity

abbrev pub is_output_capacity : ℕ → Bool
is_output_capacity out_cap = nat_le out_cap output_capacity

-- a multiple of 4 among the addresses of the code words
abbrev pub is_entry : ℕ → ℕ → Bool
is_entry words entry = entry % 4 == 0 && nat_le code_start entry && nat_le (entry + 1) (code_start + 4 * words)

-- version 1 has no word for the form, which is 0
abbrev pub is_form : Version → Form → Bool
is_form One OneLength = true
is_form One TwoLengths = false
is_form Two form = true

abbrev pub is_object_count : ℕ → ℕ → Bool
is_object_count statics objects = nat_le objects statics

-- ---- the rule of an object

abbrev pub kind_code : Kind → ℕ
kind_code I8 = 0
kind_code U8 = 1
kind_code I16 = 2
kind_code U16 = 3
kind_code I32 = 4
kind_code U32 = 5
kind_code Ptr = 6

-- a letter, a digit, _ or $
abbrev pub is_name_byte : ℕ → Bool
is_name_byte byte =
    (nat_le 97 byte && nat_le byte 122) || (nat_le 65 byte && nat_le byte 90) || (nat_le 48 byte && nat_le byte 57) || byte == 95 || byte == 36

-- An object of this size at this address lies in the statics, from the address least on, and has a name and a run.
abbrev pub is_object_place : (statics least at size name runs : ℕ) → Bool
is_object_place statics least at size name runs =
    nat_le 1 size && nat_le least at && nat_le (at + size) (statics_start + statics) && nat_le 1 name && nat_le 1 runs

-- bytes from the object's start to where a run's cells end
abbrev pub run_end : CellRun → ℕ
run_end run = run.offset + run.count * kind_size run.kind

-- where the run before ends, or the object's start where there is none
abbrev pub end_of : Option CellRun → ℕ
end_of None = 0
end_of (Some before) = run_end before

-- a run goes on where the one before ends, in the same kind
abbrev pub continues : Option CellRun → CellRun → Bool
continues None run = false
continues (Some before) run = run.offset == run_end before && kind_code run.kind == kind_code before.kind

-- A run has a cell, begins behind the run before, ends within the object, and its cells lie at multiples of their size.
-- It is as long as can be: no run continues the one before.
abbrev pub is_run : (at size : ℕ) → Option CellRun → CellRun → Bool
is_run at size before run =
    nat_le 1 run.count && nat_le (end_of before) run.offset && nat_le (run_end run) size && (at + run.offset) % kind_size run.kind == 0 && not (continues before run)

-- each run after the one before
abbrev pub AreRuns : (at size : ℕ) → Option CellRun → List CellRun → Type 0
AreRuns at size before [] = Unit {0}
AreRuns at size before (run ∷ runs) = IsTrue (is_run at size before run) × AreRuns at size (Some run) runs

pub record IsObject (statics least : ℕ) (object : ObjectValue) : Type 0 where
  pub place : IsTrue (is_object_place statics least object.at object.size (length object.name) (length object.runs))
  -- a word holds its length
  pub name_length : length object.name < 2 ^ 32
  pub name : IsTrue (list_all is_name_byte object.name)
  pub runs : AreRuns object.at object.size None object.runs

-- each object, the first from the address least on, each further one with a byte at least between it and the one before
abbrev pub AreObjects : (statics least : ℕ) → List ObjectValue → Type 0
AreObjects statics least [] = Unit {0}
AreObjects statics least (object ∷ objects) = IsObject statics least object × AreObjects statics (object.at + object.size + 1) objects

-- ---- an image

pub record IsImage (image : ImageValue) : Type 0 where
  pub form : IsTrue (is_form image.version image.form)
  pub word_count : IsTrue (is_word_count (length image.words))
  pub words : (k : ℕ) → slice_index image.words k < 2 ^ 32
  pub statics_size : IsTrue (is_statics_size (length image.statics))
  pub statics : (k : ℕ) → slice_index image.statics k < 256
  pub stack : IsTrue (is_stack_size image.stack)
  pub out_cap : IsTrue (is_output_capacity image.out_cap)
  pub entry : IsTrue (is_entry (length image.words) image.entry)
  pub object_count : IsTrue (is_object_count (length image.statics) (length image.objects))
  pub objects : AreObjects (length image.statics) statics_start image.objects
