-- Words after the command's name, options among them.
use Rattle.std.proofs.Common.{ap, ap₂, arith, refl, sym, true, false, ℕ, pos, Bool, List, [], ◌∷◌, ◌++◌, Option, Some, None, ◌≡◌, ◌∙◌, ◌==◌, ◌&&◌, ◌<◌, ◌^◌, ◌≤◌, ne_eqb, codes, cond, drop, fold, map, nat_le, nat_lt}
use Rattle.std.specs.Prelude.{if◌then◌else◌, option_and_then, option_map, IfSome, int_le, neg_ℤ, slice_index, unwrap_or}
use Rattle.std.specs.Str.{bytes_eq}
use Rattle.std.specs.Str.Parse.{digits_value}
use Rattle.std.proofs.lemmas.Bool.{le-leb, leb-true, lt-ltb, ltb-true}
use Rattle.std.proofs.lemmas.Slice.Eq.{bytes_eq-Decides}
use Rattle.clap.specs.Kinds.{Kinds, or_else}
use Rattle.clap.specs.ValueTests.{fits_i64, is_signed_in}
use Rattle.clap.specs.Words.{Row, Rule, Shape, Text}
use Rattle.clap.specs.Walk.{Walk, finished, is_empty, settled, nothing_held, walk_from, walked}
use Rattle.clap.specs.Faults.{check_fault, defaults_fault, settle_fault, turn_fault, walk_fault}
use Rattle.clap.specs.declared.error.kind.ErrorKind.TheVariants.{ValueValidation}
use Rattle.clap.proofs.OnLiterals.{clap_on_literals}
use Rattle.clap.proofs.WalkLemmas.{both}
use Rattle.im_cmd_words.specs.Numbers.{is_numeral, plain_number, starts_plainly}
use Rattle.im_cmd_words.specs.Named.{Asked, Options, Words, default_building, exec_asked, executes, given, is_option, named, option_words, run_asked, runs}
use Rattle.im_cmd_words.proofs.OperandLemmas.{asked_of, command_shape, ended, exec_named, run_named, file_turn, file_walked, taken, taken_fault}

-- ---- numbers

pub first_apart : (text : List ℕ) (byte : ℕ) → starts_plainly text ≡ true → byte < 48 → (slice_index text 0 == byte) ≡ false
first_apart text byte plain below = go (bytes_eq text (codes "0")) refl
  where
    apart : 48 ≤ slice_index text 0 → (slice_index text 0 == byte) ≡ false
    apart above = ne_eqb _ _ (λ e. omega arith)

    go : (b : Bool) → bytes_eq text (codes "0") ≡ b → (slice_index text 0 == byte) ≡ false
    go true t =
        let is : text ≡ codes "0" = (bytes_eq-Decides text (codes "0")).0 t in
        let first : slice_index text 0 ≡ 48 = ap (λ ds. slice_index ds 0) is in
        apart (omega arith)
    go false t =
        let parts : (nat_le 49 (slice_index text 0) && nat_le (slice_index text 0) 57) ≡ true = rw t at plain in
        let low = leb-true 49 (slice_index text 0) (both _ _ parts).0 in
        apart (omega arith)

pub plain_value : (text : List ℕ) → starts_plainly text ≡ true → is_option text ≡ false
plain_value [] plain = refl
plain_value (x ∷ []) plain = refl
plain_value (x ∷ y ∷ rest) plain = first_apart (x ∷ y ∷ rest) 45 plain (omega arith)

-- what clap's parser of numbers tests, by whether a sign stands first
abbrev pub reads : ℕ → ℕ → List ℕ → Bool → Bool → Bool
reads least most text minus plus =
    let digits = cond minus (drop 1 text) (drop (cond plus 1 0) text) in
    let value = cond minus (neg_ℤ (pos (digits_value 10 digits))) (pos (digits_value 10 digits)) in
    is_numeral digits && (fits_i64 value && (int_le (pos least) value && int_le value (pos most)))

pub number_accepted : (least most : ℕ) (text : List ℕ) → starts_plainly text ≡ true → is_numeral text ≡ true → digits_value 10 text < 2 ^ 32
    → least ≤ digits_value 10 text → digits_value 10 text ≤ most → is_signed_in (pos least) (pos most) text ≡ true
number_accepted least most text plain numeral below above under =
    let fits : nat_lt (digits_value 10 text) (2 ^ 63) ≡ true = lt-ltb _ _ (omega (arith, below)) in
    let low : nat_le least (digits_value 10 text) ≡ true = le-leb _ _ above in
    let high : nat_le (digits_value 10 text) most ≡ true = le-leb _ _ under in
    ap₂ (reads least most text) (first_apart text 45 plain (omega arith)) (first_apart text 43 plain (omega arith))
    ∙ (λ i. numeral i && (fits i && (low i && high i)))

pub record IsPlain (text : List ℕ) (n : ℕ) : Type 0 where
  pub begins : starts_plainly text ≡ true
  pub numeral : is_numeral text ≡ true
  pub below : digits_value 10 text < 2 ^ 32

pub plain_facts : (text : List ℕ) (n : ℕ) → plain_number text ≡ Some n → IsPlain text n
plain_facts text n e = go (starts_plainly text && (is_numeral text && nat_lt (digits_value 10 text) (2 ^ 32))) refl
  where
    go : (b : Bool) → (starts_plainly text && (is_numeral text && nat_lt (digits_value 10 text) (2 ^ 32))) ≡ b → IsPlain text n
    go true t =
        let parts = both _ _ t in
        let more = both _ _ parts.1 in
        record { begins = parts.0; numeral = more.0; below = ltb-true _ _ more.1 }
    go false t =
        let bad : None ≡ Some n = rw t at e in
        cc

-- ---- words in turn

-- a value, or a word that is written out
pub data Word : Type 0 where
  value : Text → Word
  written : Text → Word

abbrev pub text_of : Word → Text
text_of (value text) = text
text_of (written text) = text

abbrev pub after : List Rule → Walk → Word → Walk
after c w (value text) = taken c w text
after c w (written text) = walked c [] w text

-- where the walk goes on at each value, and no word has a fault
abbrev pub Goes : Shape → Walk → List Word → Type 0
Goes s w [] = Unit {0}
Goes s w (value text ∷ rest) = (w.stopped ≡ None) × (w.is_trailing ≡ false) × (is_option text ≡ false) × (taken_fault s w text ≡ []) × Goes s (taken s.rules w text) rest
Goes s w (written text ∷ rest) = (turn_fault s [] w text ≡ []) × Goes s (walked s.rules [] w text) rest

goes_to : (s : Shape) (w : Walk) (words : List Word) → Goes s w words → fold (walked s.rules []) w (map text_of words) ≡ fold (after s.rules) w words
goes_to s w [] g = refl
goes_to s w (value text ∷ rest) g =
    ap (λ v. fold (walked s.rules []) v (map text_of rest)) (file_walked s.rules w text g.0 g.1 g.2) ∙ goes_to s (taken s.rules w text) rest g.4
goes_to s w (written text ∷ rest) g = goes_to s (walked s.rules [] w text) rest g.1

goes_by : (s : Shape) (w : Walk) (words : List Word) → Goes s w words → walk_fault s [] w (map text_of words) ≡ []
unfolding walk_fault
goes_by s w [] g = refl
goes_by s w (value text ∷ rest) g =
    ap₂ (λ (f : Kinds) (v : Walk). or_else f (walk_fault s [] v (map text_of rest))) (file_turn s w text g.0 g.1 g.2 ∙ g.3) (file_walked s.rules w text g.0 g.1 g.2)
    ∙ goes_by s (taken s.rules w text) rest g.4
goes_by s w (written text ∷ rest) g =
    ap (λ (f : Kinds). or_else f (walk_fault s [] (walked s.rules [] w text) (map text_of rest))) g.0 ∙ goes_by s (walked s.rules [] w text) rest g.1

abbrev begun : Walk
begun = walk_from nothing_held

abbrev pub end_of : Shape → List Word → Walk
end_of s words = fold (after s.rules) begun words

pub words_read : (asks : List Row → Option Asked) (s : Shape) (words : List Word) → Goes s begun words
    → settle_fault s.rules s.args_override_self (end_of s words).held ≡ []
    → or_else (defaults_fault (settled s.rules (end_of s words).held).rows s.rules) (check_fault s (finished s.rules (end_of s words).held) false) ≡ []
    → asked_of asks s (map text_of words) ≡ asks (finished s.rules (end_of s words).held)
words_read asks s words g settles ends =
    ap₂ (ended asks s) (goes_to s begun words g) (goes_by s begun words g)
    ∙ ap₂ (λ (f k : Kinds). if is_empty (or_else f k) then asks (finished s.rules (end_of s words).held) else None) settles ends

-- ---- the options of a run

-- the fault of a number that is read, by whether clap's parser takes it
abbrev pub number_fault : Bool → Kinds
number_fault accepted = or_else (if accepted then [] else ValueValidation ∷ []) []

-- the same, where the flag after it is what settles it
abbrev pub before_flag : Bool → Kinds
before_flag accepted = or_else (or_else (number_fault accepted) []) []

abbrev pub given_words : Text → Option Text → List Word
given_words name None = []
given_words name (Some text) = written name ∷ value text ∷ []

abbrev pub flag_words : Bool → List Word
flag_words vars = if vars then written (codes "--vars") ∷ [] else []

abbrev options_read : Option Text → Option Text → Option Text → Bool → List Word
options_read input trace steps vars =
    given_words (codes "--input") input ++ (given_words (codes "--trace") trace ++ (given_words (codes "--steps") steps ++ flag_words vars))

abbrev with_steps : Option Text → Option Text → Bool → ℕ → Options
with_steps input trace vars steps = record { input = input; trace = trace; steps = steps; vars = vars; save = None }

-- a run from the image's own first memory
abbrev begins : Text → Options → Asked
begins image options = executes image options None

abbrev with_number : (Options → Asked) → Option Text → Option Text → Bool → Option ℕ → Option Asked
with_number asks input trace vars number =
    option_and_then (λ options. Some (asks options)) (option_map (λ n. with_steps input trace vars n) number)

pub number_taken : (text : Text) (number : ℕ) → plain_number text ≡ Some number → is_signed_in (pos 0) (pos 4294967295) text ≡ true
number_taken text number e = let facts = plain_facts text number e in let below = facts.below in number_accepted 0 4294967295 text facts.begins facts.numeral below (omega arith) (omega (arith, below))

pub number_plain : (text : Text) (number : ℕ) → plain_number text ≡ Some number → is_option text ≡ false
number_plain text number e = plain_value text (plain_facts text number e).begins

pub given_read : (name : Text) (text : Option Text) (rest : List Word) → map text_of (given_words name text ++ rest) ≡ given name text ++ map text_of rest
given_read name None rest = refl
given_read name (Some text) rest = refl

pub flag_read : (vars : Bool) → map text_of (flag_words vars) ≡ (if vars then codes "--vars" ∷ [] else [])
flag_read true = refl
flag_read false = refl

texts_read : (input trace steps : Option Text) (vars : Bool) → map text_of (options_read input trace steps vars) ≡ option_words (with_steps input trace vars 0) steps
texts_read input trace steps vars =
    given_read (codes "--input") input _ ∙ ap (λ xs. given (codes "--input") input ++ xs) (given_read (codes "--trace") trace _
    ∙ ap (λ xs. given (codes "--trace") trace ++ xs) (given_read (codes "--steps") steps (flag_words vars)
    ∙ ap (λ xs. given (codes "--steps") steps ++ xs) (flag_read vars)))

-- what is asked of a row of the table whose files are read already, with options after them
abbrev Reads : (Options → Asked) → (List Row → Option Asked) → Shape → List Word → Type 0
Reads asks asked s files = (input trace steps : Option Text) (vars : Bool) (number : ℕ) → IfSome input (λ file. is_option file ≡ false)
    → IfSome trace (λ file. is_option file ≡ false) → plain_number (unwrap_or steps (codes "100000000")) ≡ Some number
    → asked_of asked s (map text_of (files ++ options_read input trace steps vars))
    ≡ Some (asks (with_steps input trace vars number))

exec_read : (image : Text) → is_option image ≡ false → Reads (begins image) exec_asked (command_shape 2) (value image ∷ [])
unfolding clap_on_literals
exec_read image a None None None false number b c e =
    words_read exec_asked (command_shape 2) (value image ∷ [] ++ options_read None None None false) (refl, refl, a, refl, tt) refl refl
    ∙ ap (with_number (begins image) None None false) e
exec_read image a None None None true number b c e =
    words_read exec_asked (command_shape 2) (value image ∷ [] ++ options_read None None None true) (refl, refl, a, refl, (refl, tt)) refl refl
    ∙ ap (with_number (begins image) None None true) e
exec_read image a None None (Some text) false number b c e =
    words_read exec_asked (command_shape 2) (value image ∷ [] ++ options_read None None (Some text) false) (refl, refl, a, refl, (refl, (refl, refl, number_plain text number e, refl, tt))) (ap number_fault (number_taken text number e)) refl
    ∙ ap (with_number (begins image) None None false) e
exec_read image a None None (Some text) true number b c e =
    words_read exec_asked (command_shape 2) (value image ∷ [] ++ options_read None None (Some text) true) (refl, refl, a, refl, (refl, (refl, refl, number_plain text number e, refl, (ap before_flag (number_taken text number e), tt)))) refl refl
    ∙ ap (with_number (begins image) None None true) e
exec_read image a None (Some trace) None false number b c e =
    words_read exec_asked (command_shape 2) (value image ∷ [] ++ options_read None (Some trace) None false) (refl, refl, a, refl, (refl, (refl, refl, c, refl, tt))) refl refl
    ∙ ap (with_number (begins image) None (Some trace) false) e
exec_read image a None (Some trace) None true number b c e =
    words_read exec_asked (command_shape 2) (value image ∷ [] ++ options_read None (Some trace) None true) (refl, refl, a, refl, (refl, (refl, refl, c, refl, (refl, tt)))) refl refl
    ∙ ap (with_number (begins image) None (Some trace) true) e
exec_read image a None (Some trace) (Some text) false number b c e =
    words_read exec_asked (command_shape 2) (value image ∷ [] ++ options_read None (Some trace) (Some text) false) (refl, refl, a, refl, (refl, (refl, refl, c, refl, (refl, (refl, refl, number_plain text number e, refl, tt))))) (ap number_fault (number_taken text number e)) refl
    ∙ ap (with_number (begins image) None (Some trace) false) e
exec_read image a None (Some trace) (Some text) true number b c e =
    words_read exec_asked (command_shape 2) (value image ∷ [] ++ options_read None (Some trace) (Some text) true) (refl, refl, a, refl, (refl, (refl, refl, c, refl, (refl, (refl, refl, number_plain text number e, refl, (ap before_flag (number_taken text number e), tt)))))) refl refl
    ∙ ap (with_number (begins image) None (Some trace) true) e
exec_read image a (Some input) None None false number b c e =
    words_read exec_asked (command_shape 2) (value image ∷ [] ++ options_read (Some input) None None false) (refl, refl, a, refl, (refl, (refl, refl, b, refl, tt))) refl refl
    ∙ ap (with_number (begins image) (Some input) None false) e
exec_read image a (Some input) None None true number b c e =
    words_read exec_asked (command_shape 2) (value image ∷ [] ++ options_read (Some input) None None true) (refl, refl, a, refl, (refl, (refl, refl, b, refl, (refl, tt)))) refl refl
    ∙ ap (with_number (begins image) (Some input) None true) e
exec_read image a (Some input) None (Some text) false number b c e =
    words_read exec_asked (command_shape 2) (value image ∷ [] ++ options_read (Some input) None (Some text) false) (refl, refl, a, refl, (refl, (refl, refl, b, refl, (refl, (refl, refl, number_plain text number e, refl, tt))))) (ap number_fault (number_taken text number e)) refl
    ∙ ap (with_number (begins image) (Some input) None false) e
exec_read image a (Some input) None (Some text) true number b c e =
    words_read exec_asked (command_shape 2) (value image ∷ [] ++ options_read (Some input) None (Some text) true) (refl, refl, a, refl, (refl, (refl, refl, b, refl, (refl, (refl, refl, number_plain text number e, refl, (ap before_flag (number_taken text number e), tt)))))) refl refl
    ∙ ap (with_number (begins image) (Some input) None true) e
exec_read image a (Some input) (Some trace) None false number b c e =
    words_read exec_asked (command_shape 2) (value image ∷ [] ++ options_read (Some input) (Some trace) None false) (refl, refl, a, refl, (refl, (refl, refl, b, refl, (refl, (refl, refl, c, refl, tt))))) refl refl
    ∙ ap (with_number (begins image) (Some input) (Some trace) false) e
exec_read image a (Some input) (Some trace) None true number b c e =
    words_read exec_asked (command_shape 2) (value image ∷ [] ++ options_read (Some input) (Some trace) None true) (refl, refl, a, refl, (refl, (refl, refl, b, refl, (refl, (refl, refl, c, refl, (refl, tt)))))) refl refl
    ∙ ap (with_number (begins image) (Some input) (Some trace) true) e
exec_read image a (Some input) (Some trace) (Some text) false number b c e =
    words_read exec_asked (command_shape 2) (value image ∷ [] ++ options_read (Some input) (Some trace) (Some text) false) (refl, refl, a, refl, (refl, (refl, refl, b, refl, (refl, (refl, refl, c, refl, (refl, (refl, refl, number_plain text number e, refl, tt))))))) (ap number_fault (number_taken text number e)) refl
    ∙ ap (with_number (begins image) (Some input) (Some trace) false) e
exec_read image a (Some input) (Some trace) (Some text) true number b c e =
    words_read exec_asked (command_shape 2) (value image ∷ [] ++ options_read (Some input) (Some trace) (Some text) true) (refl, refl, a, refl, (refl, (refl, refl, b, refl, (refl, (refl, refl, c, refl, (refl, (refl, refl, number_plain text number e, refl, (ap before_flag (number_taken text number e), tt)))))))) refl refl
    ∙ ap (with_number (begins image) (Some input) (Some trace) true) e

pub exec_options : (program image : Text) (options : Options) (steps : Option Text) → is_option image ≡ false → Words options steps
    → named (program ∷ codes "exec" ∷ image ∷ option_words options steps) ≡ Some (executes image options None)
exec_options program image options steps a w =
    exec_named program (image ∷ option_words options steps)
    ∙ ap (λ words. asked_of exec_asked (command_shape 2) (image ∷ words)) (sym (texts_read options.input options.trace steps options.vars))
    ∙ exec_read image a options.input options.trace steps options.vars options.steps w.input w.trace w.number
    ∙ ap (λ file. Some (executes image (record options { save = file }) None)) (sym w.save)

run_read : (source image : Text) → is_option source ≡ false → is_option image ≡ false → Reads (runs source image default_building) run_asked (command_shape 1) (value source ∷ value image ∷ [])
unfolding clap_on_literals
run_read source image a i None None None false number b c e =
    words_read run_asked (command_shape 1) (value source ∷ value image ∷ [] ++ options_read None None None false) (refl, refl, a, refl, (refl, refl, i, refl, tt)) refl refl
    ∙ ap (with_number (runs source image default_building) None None false) e
run_read source image a i None None None true number b c e =
    words_read run_asked (command_shape 1) (value source ∷ value image ∷ [] ++ options_read None None None true) (refl, refl, a, refl, (refl, refl, i, refl, (refl, tt))) refl refl
    ∙ ap (with_number (runs source image default_building) None None true) e
run_read source image a i None None (Some text) false number b c e =
    words_read run_asked (command_shape 1) (value source ∷ value image ∷ [] ++ options_read None None (Some text) false) (refl, refl, a, refl, (refl, refl, i, refl, (refl, (refl, refl, number_plain text number e, refl, tt)))) (ap number_fault (number_taken text number e)) refl
    ∙ ap (with_number (runs source image default_building) None None false) e
run_read source image a i None None (Some text) true number b c e =
    words_read run_asked (command_shape 1) (value source ∷ value image ∷ [] ++ options_read None None (Some text) true) (refl, refl, a, refl, (refl, refl, i, refl, (refl, (refl, refl, number_plain text number e, refl, (ap before_flag (number_taken text number e), tt))))) refl refl
    ∙ ap (with_number (runs source image default_building) None None true) e
run_read source image a i None (Some trace) None false number b c e =
    words_read run_asked (command_shape 1) (value source ∷ value image ∷ [] ++ options_read None (Some trace) None false) (refl, refl, a, refl, (refl, refl, i, refl, (refl, (refl, refl, c, refl, tt)))) refl refl
    ∙ ap (with_number (runs source image default_building) None (Some trace) false) e
run_read source image a i None (Some trace) None true number b c e =
    words_read run_asked (command_shape 1) (value source ∷ value image ∷ [] ++ options_read None (Some trace) None true) (refl, refl, a, refl, (refl, refl, i, refl, (refl, (refl, refl, c, refl, (refl, tt))))) refl refl
    ∙ ap (with_number (runs source image default_building) None (Some trace) true) e
run_read source image a i None (Some trace) (Some text) false number b c e =
    words_read run_asked (command_shape 1) (value source ∷ value image ∷ [] ++ options_read None (Some trace) (Some text) false) (refl, refl, a, refl, (refl, refl, i, refl, (refl, (refl, refl, c, refl, (refl, (refl, refl, number_plain text number e, refl, tt)))))) (ap number_fault (number_taken text number e)) refl
    ∙ ap (with_number (runs source image default_building) None (Some trace) false) e
run_read source image a i None (Some trace) (Some text) true number b c e =
    words_read run_asked (command_shape 1) (value source ∷ value image ∷ [] ++ options_read None (Some trace) (Some text) true) (refl, refl, a, refl, (refl, refl, i, refl, (refl, (refl, refl, c, refl, (refl, (refl, refl, number_plain text number e, refl, (ap before_flag (number_taken text number e), tt))))))) refl refl
    ∙ ap (with_number (runs source image default_building) None (Some trace) true) e
run_read source image a i (Some input) None None false number b c e =
    words_read run_asked (command_shape 1) (value source ∷ value image ∷ [] ++ options_read (Some input) None None false) (refl, refl, a, refl, (refl, refl, i, refl, (refl, (refl, refl, b, refl, tt)))) refl refl
    ∙ ap (with_number (runs source image default_building) (Some input) None false) e
run_read source image a i (Some input) None None true number b c e =
    words_read run_asked (command_shape 1) (value source ∷ value image ∷ [] ++ options_read (Some input) None None true) (refl, refl, a, refl, (refl, refl, i, refl, (refl, (refl, refl, b, refl, (refl, tt))))) refl refl
    ∙ ap (with_number (runs source image default_building) (Some input) None true) e
run_read source image a i (Some input) None (Some text) false number b c e =
    words_read run_asked (command_shape 1) (value source ∷ value image ∷ [] ++ options_read (Some input) None (Some text) false) (refl, refl, a, refl, (refl, refl, i, refl, (refl, (refl, refl, b, refl, (refl, (refl, refl, number_plain text number e, refl, tt)))))) (ap number_fault (number_taken text number e)) refl
    ∙ ap (with_number (runs source image default_building) (Some input) None false) e
run_read source image a i (Some input) None (Some text) true number b c e =
    words_read run_asked (command_shape 1) (value source ∷ value image ∷ [] ++ options_read (Some input) None (Some text) true) (refl, refl, a, refl, (refl, refl, i, refl, (refl, (refl, refl, b, refl, (refl, (refl, refl, number_plain text number e, refl, (ap before_flag (number_taken text number e), tt))))))) refl refl
    ∙ ap (with_number (runs source image default_building) (Some input) None true) e
run_read source image a i (Some input) (Some trace) None false number b c e =
    words_read run_asked (command_shape 1) (value source ∷ value image ∷ [] ++ options_read (Some input) (Some trace) None false) (refl, refl, a, refl, (refl, refl, i, refl, (refl, (refl, refl, b, refl, (refl, (refl, refl, c, refl, tt)))))) refl refl
    ∙ ap (with_number (runs source image default_building) (Some input) (Some trace) false) e
run_read source image a i (Some input) (Some trace) None true number b c e =
    words_read run_asked (command_shape 1) (value source ∷ value image ∷ [] ++ options_read (Some input) (Some trace) None true) (refl, refl, a, refl, (refl, refl, i, refl, (refl, (refl, refl, b, refl, (refl, (refl, refl, c, refl, (refl, tt))))))) refl refl
    ∙ ap (with_number (runs source image default_building) (Some input) (Some trace) true) e
run_read source image a i (Some input) (Some trace) (Some text) false number b c e =
    words_read run_asked (command_shape 1) (value source ∷ value image ∷ [] ++ options_read (Some input) (Some trace) (Some text) false) (refl, refl, a, refl, (refl, refl, i, refl, (refl, (refl, refl, b, refl, (refl, (refl, refl, c, refl, (refl, (refl, refl, number_plain text number e, refl, tt)))))))) (ap number_fault (number_taken text number e)) refl
    ∙ ap (with_number (runs source image default_building) (Some input) (Some trace) false) e
run_read source image a i (Some input) (Some trace) (Some text) true number b c e =
    words_read run_asked (command_shape 1) (value source ∷ value image ∷ [] ++ options_read (Some input) (Some trace) (Some text) true) (refl, refl, a, refl, (refl, refl, i, refl, (refl, (refl, refl, b, refl, (refl, (refl, refl, c, refl, (refl, (refl, refl, number_plain text number e, refl, (ap before_flag (number_taken text number e), tt))))))))) refl refl
    ∙ ap (with_number (runs source image default_building) (Some input) (Some trace) true) e

pub run_options : (program source image : Text) (options : Options) (steps : Option Text) → is_option source ≡ false → is_option image ≡ false → Words options steps
    → named (program ∷ codes "run" ∷ source ∷ image ∷ option_words options steps) ≡ Some (runs source image default_building options)
run_options program source image options steps a i w =
    run_named program (source ∷ image ∷ option_words options steps)
    ∙ ap (λ words. asked_of run_asked (command_shape 1) (source ∷ image ∷ words)) (sym (texts_read options.input options.trace steps options.vars))
    ∙ run_read source image a i options.input options.trace steps options.vars options.steps w.input w.trace w.number
    ∙ ap (λ file. Some (runs source image default_building (record options { save = file }))) (sym w.save)
