-- What a text must meet to be an image's, from the front, and the fault of one that doesn't.
use Rattle.std.specs.Prelude.{◌≡◌, ℕ, zero, suc, ◌+◌, ◌*◌, ◌==◌, ◌&&◌, ◌||◌, nat_lt, nat_le, Bool, List, [], ◌∷◌, ◌++◌, length, take, drop, Option, Some, None, Result, Ok, Err, if◌then◌else◌}
use Rattle.std.specs.List.{list_all}
use Rattle.im_num.specs.declared.kind.Kind.{Kind}
use Rattle.im_num.specs.declared.kind.Kind.TheVariants.{I8, U8, I16, U16, I32, U32, Ptr}
use Rattle.im_num.specs.Bytes.{number_of}
use Rattle.im_image.specs.declared.object.CellRun.{CellRun}
use Rattle.im_image.specs.declared.fault.ImageFault.{ImageFault}
use Rattle.im_image.specs.declared.fault.ImageFault.TheVariants.{ShortImage, BadMagic, BadVersion, BadField, Trailing, OutOfMemory}
use Rattle.im_mem.specs.Map.{statics_start}
use Rattle.im_image.specs.declared.version.Version.{Version}
use Rattle.im_image.specs.declared.version.Version.TheVariants.{One, Two}
use Rattle.im_image.specs.declared.form.Form.{Form}
use Rattle.im_image.specs.declared.form.Form.TheVariants.{OneLength, TwoLengths}
use Rattle.im_image.specs.Contents.{ImageValue, ObjectValue, is_word_count, is_statics_size, is_stack_size, is_output_capacity, is_entry, is_object_count, is_name_byte, is_object_place, is_run}
use Rattle.im_image.specs.Text.{magic}

-- the word at a place in a text
unfoldable pub word_at : List ℕ → ℕ → ℕ
word_at text place = number_of (take 4 (drop place text))

-- the kind with a code
abbrev pub kind_of : ℕ → Kind
kind_of zero = I8
kind_of (suc zero) = U8
kind_of (suc (suc zero)) = I16
kind_of (suc (suc (suc zero))) = U16
kind_of (suc (suc (suc (suc zero)))) = I32
kind_of (suc (suc (suc (suc (suc zero))))) = U32
kind_of (suc (suc (suc (suc (suc (suc code)))))) = Ptr

-- the run at a place
abbrev pub run_at : List ℕ → ℕ → CellRun
run_at text place = record { offset = word_at text place; kind = kind_of (word_at text (place + 4)); count = word_at text (place + 8) }

-- n runs from a place on
unfoldable pub runs_at : List ℕ → ℕ → ℕ → List CellRun
runs_at text zero place = []
runs_at text (suc n) place = run_at text place ∷ runs_at text n (place + 12)

-- where the name of the object at a place ends
abbrev pub name_end : List ℕ → ℕ → ℕ
name_end text place = place + 16 + word_at text (place + 8)

-- where the object at a place ends
abbrev pub record_end : List ℕ → ℕ → ℕ
record_end text place = name_end text place + 12 * word_at text (place + 12)

-- the object at a place
unfoldable pub object_at : List ℕ → ℕ → ObjectValue
object_at text place = record {
  at = word_at text place;
  size = word_at text (place + 4);
  name = take (word_at text (place + 8)) (drop (place + 16) text);
  runs = runs_at text (word_at text (place + 12)) (name_end text place);
}

-- n objects from a place on
unfoldable pub objects_at : List ℕ → ℕ → ℕ → List ObjectValue
objects_at text zero place = []
objects_at text (suc n) place = object_at text place ∷ objects_at text n (record_end text place)

-- n words from a place on
unfoldable pub words_at : List ℕ → ℕ → ℕ → List ℕ
words_at text zero place = []
words_at text (suc n) place = word_at text place ∷ words_at text n (place + 4)

-- ---- the version and the form

abbrev pub is_version : ℕ → Bool
is_version word = word == 1 || word == 2

-- the version of a word that is one's
abbrev pub version_of : ℕ → Version
version_of word = if word == 1 then One else Two

abbrev pub version_at : List ℕ → Version
version_at text = version_of (word_at text 4)

-- the form of a word that is one's
abbrev pub form_of : ℕ → Form
form_of word = if word == 0 then OneLength else TwoLengths

-- the form of a text of this version
abbrev pub form_at : Version → List ℕ → Form
form_at One text = OneLength
form_at Two text = form_of (word_at text 32)

-- bytes of the header
abbrev pub header_size : Version → ℕ
header_size One = 32
header_size Two = 36

-- the number of the field that the objects are
abbrev pub objects_field : Version → ℕ
objects_field One = 9
objects_field Two = 10

-- ---- the fields

-- where the code words, the statics and the objects begin
abbrev pub words_place : List ℕ → ℕ
words_place text = header_size (version_at text)

abbrev pub statics_place : List ℕ → ℕ
statics_place text = words_place text + 4 * word_at text 8

abbrev pub objects_place : List ℕ → ℕ
objects_place text = statics_place text + word_at text 12

-- what the fields of a text say, each at its place
unfoldable pub image_at : List ℕ → ImageValue
image_at text = record {
  version = version_at text;
  form = form_at (version_at text) text;
  words = words_at text (word_at text 8) (words_place text);
  statics = take (word_at text 12) (drop (statics_place text) text);
  stack = word_at text 16;
  out_cap = word_at text 20;
  entry = word_at text 24;
  objects = objects_at text (word_at text 28) (objects_place text);
}

-- A text has so many bytes, or a rule holds, else the fault is this one.
pub data Requirement : Type 0 where
  HasBytes : ℕ → Requirement
  Meets : Bool → ImageFault → Requirement

-- the fault of the first requirement that a text of so many bytes doesn't meet
abbrev pub first_unmet : ℕ → List Requirement → Option ImageFault
first_unmet len [] = None
first_unmet len (HasBytes n ∷ others) = if nat_lt len n then Some (ShortImage len) else first_unmet len others
first_unmet len (Meets rule fault ∷ others) = if rule then first_unmet len others else Some fault

-- n runs from a place on, of an object at this address of this size
unfoldable pub run_requirements : (text : List ℕ) (at size : ℕ) → ℕ → Option CellRun → ℕ → List Requirement
run_requirements text at size zero before place = []
run_requirements text at size (suc n) before place =
    HasBytes (place + 12)
    ∷ (Meets (nat_le (word_at text (place + 4)) 6 && is_run at size before (run_at text place)) (BadField (objects_field (version_at text)))
    ∷ run_requirements text at size n (Some (run_at text place)) (place + 12))

-- one object at a place, of the statics from the address least on
unfoldable pub object_requirements : (text : List ℕ) (statics least place : ℕ) → List Requirement
object_requirements text statics least place =
    HasBytes (place + 16)
    ∷ (Meets (is_object_place statics least (word_at text place) (word_at text (place + 4)) (word_at text (place + 8)) (word_at text (place + 12))) (BadField (objects_field (version_at text)))
    ∷ (HasBytes (name_end text place)
    ∷ (Meets (list_all is_name_byte (take (word_at text (place + 8)) (drop (place + 16) text))) (BadField (objects_field (version_at text)))
    ∷ run_requirements text (word_at text place) (word_at text (place + 4)) (word_at text (place + 12)) None (name_end text place))))

-- n objects from a place on, and nothing behind them
unfoldable pub objects_requirements : (text : List ℕ) (statics : ℕ) → ℕ → ℕ → ℕ → List Requirement
objects_requirements text statics zero least place = Meets (length text == place) (Trailing place) ∷ []
objects_requirements text statics (suc n) least place =
    object_requirements text statics least place ++ objects_requirements text statics n (word_at text place + word_at text (place + 4) + 1) (record_end text place)

-- the eight words of both versions
unfoldable pub header_requirements : List ℕ → List Requirement
header_requirements text =
    let words = word_at text 8 in
    let statics = word_at text 12 in
    HasBytes 4 ∷ (Meets (word_at text 0 == magic) BadMagic
    ∷ (HasBytes 8 ∷ (Meets (is_version (word_at text 4)) (BadVersion (word_at text 4))
    ∷ (HasBytes 12 ∷ (Meets (is_word_count words) (BadField 3)
    ∷ (HasBytes 16 ∷ (Meets (is_statics_size statics) (BadField 4)
    ∷ (HasBytes 20 ∷ (Meets (is_stack_size (word_at text 16)) (BadField 5)
    ∷ (HasBytes 24 ∷ (Meets (is_output_capacity (word_at text 20)) (BadField 6)
    ∷ (HasBytes 28 ∷ (Meets (is_entry words (word_at text 24)) (BadField 7)
    ∷ (HasBytes 32 ∷ (Meets (is_object_count statics (word_at text 28)) (BadField 8) ∷ [])))))))))))))))

-- the form, which is 0 or 1
unfoldable pub form_requirements : Version → List ℕ → List Requirement
form_requirements One text = []
form_requirements Two text = HasBytes 36 ∷ (Meets (nat_le (word_at text 32) 1) (BadField 9) ∷ [])

-- the header, the code words and the statics
unfoldable pub front_requirements : List ℕ → List Requirement
front_requirements text =
    header_requirements text
    ++ (form_requirements (version_at text) text ++ (HasBytes (statics_place text) ∷ (HasBytes (objects_place text) ∷ [])))

-- all that a text must meet to be an image's, from the front
unfoldable pub requirements : List ℕ → List Requirement
requirements text =
    front_requirements text ++ objects_requirements text (word_at text 12) (word_at text 28) statics_start (objects_place text)

-- the fault of a text, where it isn't an image's
unfoldable pub fault_of : List ℕ → Option ImageFault
fault_of text = first_unmet (length text) (requirements text)

-- ---- answers, want of memory aside

abbrev pub IsFaultOf : ImageFault → Option ImageFault → Type 0
IsFaultOf (ShortImage at) fault = fault ≡ Some (ShortImage at)
IsFaultOf BadMagic fault = fault ≡ Some BadMagic
IsFaultOf (BadVersion version) fault = fault ≡ Some (BadVersion version)
IsFaultOf (BadField number) fault = fault ≡ Some (BadField number)
IsFaultOf (Trailing at) fault = fault ≡ Some (Trailing at)
IsFaultOf OutOfMemory fault = Unit {0}

-- the answer is this one, or memory ran out
abbrev pub IsAnswer : {X : Type 0} → Result X ImageFault → Result X ImageFault → Type 0
IsAnswer (Ok x) answer = answer ≡ Ok x
IsAnswer (Err (ShortImage at)) answer = answer ≡ Err (ShortImage at)
IsAnswer (Err BadMagic) answer = answer ≡ Err BadMagic
IsAnswer (Err (BadVersion version)) answer = answer ≡ Err (BadVersion version)
IsAnswer (Err (BadField number)) answer = answer ≡ Err (BadField number)
IsAnswer (Err (Trailing at)) answer = answer ≡ Err (Trailing at)
IsAnswer (Err OutOfMemory) answer = Unit {0}
