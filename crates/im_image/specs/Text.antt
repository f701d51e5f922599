-- The text of an image, as a function of the image.
use Rattle.std.specs.Prelude.{ℕ, List, [], ◌∷◌, ◌++◌, length}
use Rattle.std.specs.List.{flat_map}
use Rattle.im_num.specs.Bytes.{word_bytes}
use Rattle.im_image.specs.declared.object.CellRun.{CellRun}
use Rattle.im_image.specs.declared.version.Version.{Version}
use Rattle.im_image.specs.declared.version.Version.TheVariants.{One, Two}
use Rattle.im_image.specs.declared.form.Form.{Form}
use Rattle.im_image.specs.declared.form.Form.TheVariants.{OneLength, TwoLengths}
use Rattle.im_image.specs.Contents.{ImageValue, ObjectValue, kind_code}

-- words, each as four bytes, the lowest first
abbrev pub words_text : List ℕ → List ℕ
words_text words = flat_map word_bytes words

abbrev pub run_text : CellRun → List ℕ
run_text run = words_text (run.offset ∷ kind_code run.kind ∷ run.count ∷ [])

-- four words, the name, the runs
unfoldable pub object_text : ObjectValue → List ℕ
object_text object =
    words_text (object.at ∷ object.size ∷ length object.name ∷ length object.runs ∷ []) ++ (object.name ++ flat_map run_text object.runs)

-- the bytes "IMRV" as a word
abbrev pub magic : ℕ
magic = 0x56524D49

abbrev pub version_number : Version → ℕ
version_number One = 1
version_number Two = 2

abbrev pub form_number : Form → ℕ
form_number OneLength = 0
form_number TwoLengths = 1

-- version 2 has a word for the form
abbrev pub form_words : Version → Form → List ℕ
form_words One form = []
form_words Two form = form_number form ∷ []

-- the magic, the version, the number of code words, bytes of statics, stack, output capacity, entry, number of objects, form
abbrev pub header_words : ImageValue → List ℕ
header_words image =
    magic
    ∷ version_number image.version
    ∷ length image.words
    ∷ length image.statics
    ∷ image.stack
    ∷ image.out_cap
    ∷ image.entry
    ∷ length image.objects
    ∷ form_words image.version image.form

-- the header, the code words, the statics, the objects
unfoldable pub image_text : ImageValue → List ℕ
image_text image =
    words_text (header_words image) ++ (words_text image.words ++ (image.statics ++ flat_map object_text image.objects))
