-- The texts that rows speak of by name, and the bytes and words of a row's field.
use denote.Bor.{Bor}
use Rattle.std.specs.Prelude.{ℕ, ◌==◌, Bool, ◌||◌, List, [], ◌∷◌, ◌++◌, map, codes, bytes_eq, Option, Some, None, is_some, slice_get, string_bytes, if◌then◌else◌}
use Rattle.std.specs.List.{flat_map, repeat, slice_split}
use Rattle.std.specs.Option.{option_map}
use Rattle.im_num.specs.Bytes.{word_bytes}
use Rattle.im_trial.specs.declared.row.Row.{Row}
use Rattle.im_trial.specs.declared.texts.Text.{Text}
use Rattle.im_trial.specs.declared.texts.Writing.{Writing}
use Rattle.im_trial.specs.declared.texts.Writing.TheVariants.{Bytes, Words, Repeat}
use Rattle.im_trial.specs.Escapes.{unescaped}
use Rattle.im_trial.specs.Numbers.{word_in, words_in}
use Rattle.im_trial.specs.Rows.{field_of}

pub record Named : Type 0 where
  pub name : List ℕ
  pub bytes : List ℕ

abbrev pub named : Text → Named
named text = record { name = string_bytes text.name; bytes = text.bytes.items }

abbrev pub all_named : List Text → List Named
all_named texts = map named texts

-- the first text of that name
abbrev pub text_named : List ℕ → List Named → Option (List ℕ)
text_named name [] = None
text_named name (text ∷ texts) = if bytes_eq text.name name then Some text.bytes else text_named name texts

-- the bytes of a word: the text of that name for `@NAME`, and else what is written, without escapes
abbrev pub written_in : List Named → List ℕ → Option (List ℕ)
written_in texts [] = unescaped []
written_in texts (byte ∷ bytes) = if byte == 64 then text_named bytes texts else unescaped (byte ∷ bytes)

abbrev pub bytes_at : List Named → List ℕ → Option (Bor (List ℕ)) → Option (List ℕ)
bytes_at texts below None = None
bytes_at texts below (Some field) = if bytes_eq field.now (codes "|") then Some below else written_in texts field.now

-- the bytes of a field: the lines below for `|`; none where there is no such field, or it is out of form
abbrev pub bytes_of : List Named → Row → ℕ → Option (List ℕ)
bytes_of texts row number = bytes_at texts (string_bytes row.below) (slice_get row.fields.items number)

-- the words of a field, with a blank between two; none where one is out of form
abbrev pub words_of : Row → ℕ → Option (List ℕ)
words_of row number = words_in (slice_split (λ byte. byte == 32) (field_of row number))

-- the bytes of words, each with its lowest byte first
abbrev pub words_text : Option (List ℕ) → Option (List ℕ)
words_text words = option_map (flat_map word_bytes) words

-- a front, a link so many times, and an end; none where one of them is none
abbrev pub repeated : Option (List ℕ) → Option (List ℕ) → Option ℕ → Option (List ℕ) → Option (List ℕ)
repeated None link count end = None
repeated (Some front) None count end = None
repeated (Some front) (Some link) None end = None
repeated (Some front) (Some link) (Some count) None = None
repeated (Some front) (Some link) (Some count) (Some end) = Some (front ++ (repeat count link ++ end))

abbrev pub repeat_text : List Named → Row → Option (List ℕ)
repeat_text texts row = repeated (bytes_of texts row 2) (bytes_of texts row 3) (word_in 10 (field_of row 4)) (bytes_of texts row 5)

-- the rows `text NAME BYTES`, `words NAME WORDS` and `repeat NAME FRONT LINK COUNT END` write a text
abbrev pub writing_by : List ℕ → Option Writing
writing_by kind =
    if bytes_eq kind (codes "text") then Some Bytes else (
    if bytes_eq kind (codes "words") then Some Words else (
    if bytes_eq kind (codes "repeat") then Some Repeat else None))

abbrev pub writing_of : Row → Option Writing
writing_of row = writing_by (field_of row 0)

-- the bytes of the text that a row writes; none where a field is out of form
abbrev pub text_of : List Named → Row → Writing → Option (List ℕ)
text_of texts row Bytes = bytes_of texts row 2
text_of texts row Words = words_text (words_of row 2)
text_of texts row Repeat = repeat_text texts row

-- the texts with one more behind them
abbrev pub with_text : List Named → List ℕ → List ℕ → List Named
with_text texts name bytes = texts ++ record { name = name; bytes = bytes } ∷ []

abbrev pub texts_with : List Named → Row → Option Writing → Option (List Named)
texts_with texts row None = Some texts
texts_with texts row (Some writing) = option_map (with_text texts (field_of row 1)) (text_of texts row writing)

-- the texts behind a row that may write one, by its name; none where a field of it is out of form
abbrev pub texts_behind : List Named → Row → Option (List Named)
texts_behind texts row = texts_with texts row (writing_of row)

-- the row `file NAME` has the text of a file beside the table
abbrev pub is_file : Row → Bool
is_file row = bytes_eq (field_of row 0) (codes "file")

abbrev pub has_text : Row → Bool
has_text row = is_file row || is_some (writing_of row)
