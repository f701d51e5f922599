-- Words after the command's name, a build's options among them.
use Rattle.std.proofs.Common.{ap, refl, sym, true, false, ℕ, pos, Bool, List, [], ◌∷◌, ◌++◌, Option, Some, None, ◌≡◌, ◌∙◌, ◌&&◌, ◌||◌, ◌^◌, ◌≤◌, codes, map, nat_lt}
use Rattle.std.specs.Prelude.{if◌then◌else◌, option_and_then, option_map, unwrap_or}
use Rattle.std.specs.Str.Parse.{digits_value}
use Rattle.std.proofs.lemmas.Bool.{ltb-false, ltb-true}
use Rattle.clap.specs.Kinds.{Kinds, or_else}
use Rattle.clap.specs.ValueTests.{is_signed_in}
use Rattle.clap.specs.Words.{Row, Shape, Text}
use Rattle.clap.proofs.OnLiterals.{clap_on_literals}
use Rattle.clap.proofs.WalkLemmas.{both}
use Rattle.im_cmd_words.specs.declared.command.BuildOptions.{BuildOptions}
use Rattle.im_cmd_words.specs.Numbers.{is_numeral, number_between, optional_between, starts_plainly, within}
use Rattle.im_cmd_words.specs.Named.{Asked, Writes, build_asked, building_words, builds, default_evaluation, default_options, eval_asked, evaluates, is_option, named, report_asked, reports, run_asked, runs}
use Rattle.im_cmd_words.proofs.OperandLemmas.{asked_of, build_named, command_shape, eval_named, report_named, run_named}
use Rattle.im_cmd_words.proofs.OptionLemmas.{Word, given_words, number_accepted, number_fault, plain_value, text_of, value, words_read}

-- ---- numbers in bounds

within_facts : (least most d n : ℕ) → within least most d ≡ Some n → (least ≤ d) × (d ≤ most)
within_facts least most d n e = go (nat_lt d least) (nat_lt most d) refl refl e
  where
    go : (p q : Bool) → nat_lt d least ≡ p → nat_lt most d ≡ q → (if p || q then None else Some d) ≡ Some n → (least ≤ d) × (d ≤ most)
    go true q a b f = let bad : None ≡ Some n = f in cc
    go false true a b f = let bad : None ≡ Some n = f in cc
    go false false a b f = (ltb-false d least a, ltb-false most d b)

-- a number that the table takes: a value, and accepted
pub record IsTaken (least most : ℕ) (text : List ℕ) : Type 0 where
  pub is_value : is_option text ≡ false
  pub accepted : is_signed_in (pos least) (pos most) text ≡ true

pub taken_between : (least most : ℕ) (text : List ℕ) (n : ℕ) → number_between least most text ≡ Some n → IsTaken least most text
taken_between least most text n e = go (starts_plainly text && (is_numeral text && nat_lt (digits_value 10 text) (2 ^ 32))) refl
  where
    go : (b : Bool) → (starts_plainly text && (is_numeral text && nat_lt (digits_value 10 text) (2 ^ 32))) ≡ b → IsTaken least most text
    go true t =
        let parts = both _ _ t in
        let more = both _ _ parts.1 in
        let bounds = within_facts least most (digits_value 10 text) n (rw t at e) in
        record {
          is_value = plain_value text parts.0;
          accepted = number_accepted least most text parts.0 more.0 (ltb-true _ _ more.1) bounds.0 bounds.1;
        }
    go false t =
        let bad : None ≡ Some n = rw t at e in
        cc

pub taken_within : (least most : ℕ) (text : List ℕ) (limit : Option ℕ) → optional_between least most (Some text) ≡ Some limit → IsTaken least most text
taken_within least most text limit e = go (number_between least most text) refl
  where
    go : (o : Option ℕ) → number_between least most text ≡ o → IsTaken least most text
    go (Some n) t = taken_between least most text n t
    go None t =
        let bad : None ≡ Some limit = ap (λ (o : Option ℕ). option_map Some o) (sym t) ∙ e in
        cc

-- ---- the options of a build

abbrev building_read : Option Text → Option Text → Option Text → List Word
building_read stack out_cap max_gap =
    given_words (codes "--stack") stack ++ (given_words (codes "--out-cap") out_cap ++ (given_words (codes "--max-gap") max_gap ++ []))

texts_read : (stack out_cap max_gap : Option Text) → map text_of (building_read stack out_cap max_gap) ≡ building_words stack out_cap max_gap
texts_read None None None = refl
texts_read None None (Some max_gap) = refl
texts_read None (Some out_cap) None = refl
texts_read None (Some out_cap) (Some max_gap) = refl
texts_read (Some stack) None None = refl
texts_read (Some stack) None (Some max_gap) = refl
texts_read (Some stack) (Some out_cap) None = refl
texts_read (Some stack) (Some out_cap) (Some max_gap) = refl

-- the fault of a number that is read, where the option after it is what settles it
abbrev before_option : Bool → Kinds
before_option accepted = or_else (number_fault accepted) []

abbrev with_numbers : (BuildOptions → Asked) → Option ℕ → Option ℕ → Option (Option ℕ) → Option Asked
with_numbers asks stack out_cap max_gap =
    option_and_then (λ building. Some (asks building)) (option_and_then (λ b. option_and_then (λ m. option_map (λ g. record {
      stack = b;
      out_cap = m;
      max_gap = g;
    }) max_gap) out_cap) stack)

-- what is asked of a row of the table whose files are read already, with a build's options after them
abbrev Reads : (BuildOptions → Asked) → (List Row → Option Asked) → Shape → List Word → Type 0
Reads asks asked s files = (stack out_cap max_gap : Option Text) (bytes most : ℕ) (limit : Option ℕ)
    → number_between 256 1048576 (unwrap_or stack (codes "65536")) ≡ Some bytes
    → number_between 0 1048576 (unwrap_or out_cap (codes "1048576")) ≡ Some most
    → optional_between 160 1000000 max_gap ≡ Some limit
    → asked_of asked s (map text_of (files ++ building_read stack out_cap max_gap))
    ≡ Some (asks (record { stack = bytes; out_cap = most; max_gap = limit }))

build_read : (source image : Text) → is_option source ≡ false → is_option image ≡ false
    → Reads (builds source image) build_asked (command_shape 0) (value source ∷ value image ∷ [])
unfolding clap_on_literals
build_read source image a i None None None bytes most limit d e f =
    words_read build_asked (command_shape 0) (value source ∷ value image ∷ [] ++ building_read None None None) (refl, refl, a, refl, (refl, refl, i, refl, tt)) refl refl
    ∙ (λ i. with_numbers (builds source image) (d i) (e i) (f i))
build_read source image a i None None (Some max_gap) bytes most limit d e f =
    let g = taken_within 160 1000000 max_gap limit f in
    words_read build_asked (command_shape 0) (value source ∷ value image ∷ [] ++ building_read None None (Some max_gap)) (refl, refl, a, refl, (refl, refl, i, refl, (refl, (refl, refl, g.is_value, refl, tt)))) (ap number_fault g.accepted) refl
    ∙ (λ i. with_numbers (builds source image) (d i) (e i) (f i))
build_read source image a i None (Some out_cap) None bytes most limit d e f =
    let m = taken_between 0 1048576 out_cap most e in
    words_read build_asked (command_shape 0) (value source ∷ value image ∷ [] ++ building_read None (Some out_cap) None) (refl, refl, a, refl, (refl, refl, i, refl, (refl, (refl, refl, m.is_value, refl, tt)))) (ap number_fault m.accepted) refl
    ∙ (λ i. with_numbers (builds source image) (d i) (e i) (f i))
build_read source image a i None (Some out_cap) (Some max_gap) bytes most limit d e f =
    let m = taken_between 0 1048576 out_cap most e in
    let g = taken_within 160 1000000 max_gap limit f in
    words_read build_asked (command_shape 0) (value source ∷ value image ∷ [] ++ building_read None (Some out_cap) (Some max_gap)) (refl, refl, a, refl, (refl, refl, i, refl, (refl, (refl, refl, m.is_value, refl, (ap before_option m.accepted, (refl, refl, g.is_value, refl, tt)))))) (ap number_fault g.accepted) refl
    ∙ (λ i. with_numbers (builds source image) (d i) (e i) (f i))
build_read source image a i (Some stack) None None bytes most limit d e f =
    let b = taken_between 256 1048576 stack bytes d in
    words_read build_asked (command_shape 0) (value source ∷ value image ∷ [] ++ building_read (Some stack) None None) (refl, refl, a, refl, (refl, refl, i, refl, (refl, (refl, refl, b.is_value, refl, tt)))) (ap number_fault b.accepted) refl
    ∙ (λ i. with_numbers (builds source image) (d i) (e i) (f i))
build_read source image a i (Some stack) None (Some max_gap) bytes most limit d e f =
    let b = taken_between 256 1048576 stack bytes d in
    let g = taken_within 160 1000000 max_gap limit f in
    words_read build_asked (command_shape 0) (value source ∷ value image ∷ [] ++ building_read (Some stack) None (Some max_gap)) (refl, refl, a, refl, (refl, refl, i, refl, (refl, (refl, refl, b.is_value, refl, (ap before_option b.accepted, (refl, refl, g.is_value, refl, tt)))))) (ap number_fault g.accepted) refl
    ∙ (λ i. with_numbers (builds source image) (d i) (e i) (f i))
build_read source image a i (Some stack) (Some out_cap) None bytes most limit d e f =
    let b = taken_between 256 1048576 stack bytes d in
    let m = taken_between 0 1048576 out_cap most e in
    words_read build_asked (command_shape 0) (value source ∷ value image ∷ [] ++ building_read (Some stack) (Some out_cap) None) (refl, refl, a, refl, (refl, refl, i, refl, (refl, (refl, refl, b.is_value, refl, (ap before_option b.accepted, (refl, refl, m.is_value, refl, tt)))))) (ap number_fault m.accepted) refl
    ∙ (λ i. with_numbers (builds source image) (d i) (e i) (f i))
build_read source image a i (Some stack) (Some out_cap) (Some max_gap) bytes most limit d e f =
    let b = taken_between 256 1048576 stack bytes d in
    let m = taken_between 0 1048576 out_cap most e in
    let g = taken_within 160 1000000 max_gap limit f in
    words_read build_asked (command_shape 0) (value source ∷ value image ∷ [] ++ building_read (Some stack) (Some out_cap) (Some max_gap)) (refl, refl, a, refl, (refl, refl, i, refl, (refl, (refl, refl, b.is_value, refl, (ap before_option b.accepted, (refl, refl, m.is_value, refl, (ap before_option m.accepted, (refl, refl, g.is_value, refl, tt)))))))) (ap number_fault g.accepted) refl
    ∙ (λ i. with_numbers (builds source image) (d i) (e i) (f i))

run_read : (source image : Text) → is_option source ≡ false → is_option image ≡ false
    → Reads (λ building. runs source image building default_options) run_asked (command_shape 1) (value source ∷ value image ∷ [])
unfolding clap_on_literals
run_read source image a i None None None bytes most limit d e f =
    words_read run_asked (command_shape 1) (value source ∷ value image ∷ [] ++ building_read None None None) (refl, refl, a, refl, (refl, refl, i, refl, tt)) refl refl
    ∙ (λ i. with_numbers (λ building. runs source image building default_options) (d i) (e i) (f i))
run_read source image a i None None (Some max_gap) bytes most limit d e f =
    let g = taken_within 160 1000000 max_gap limit f in
    words_read run_asked (command_shape 1) (value source ∷ value image ∷ [] ++ building_read None None (Some max_gap)) (refl, refl, a, refl, (refl, refl, i, refl, (refl, (refl, refl, g.is_value, refl, tt)))) (ap number_fault g.accepted) refl
    ∙ (λ i. with_numbers (λ building. runs source image building default_options) (d i) (e i) (f i))
run_read source image a i None (Some out_cap) None bytes most limit d e f =
    let m = taken_between 0 1048576 out_cap most e in
    words_read run_asked (command_shape 1) (value source ∷ value image ∷ [] ++ building_read None (Some out_cap) None) (refl, refl, a, refl, (refl, refl, i, refl, (refl, (refl, refl, m.is_value, refl, tt)))) (ap number_fault m.accepted) refl
    ∙ (λ i. with_numbers (λ building. runs source image building default_options) (d i) (e i) (f i))
run_read source image a i None (Some out_cap) (Some max_gap) bytes most limit d e f =
    let m = taken_between 0 1048576 out_cap most e in
    let g = taken_within 160 1000000 max_gap limit f in
    words_read run_asked (command_shape 1) (value source ∷ value image ∷ [] ++ building_read None (Some out_cap) (Some max_gap)) (refl, refl, a, refl, (refl, refl, i, refl, (refl, (refl, refl, m.is_value, refl, (ap before_option m.accepted, (refl, refl, g.is_value, refl, tt)))))) (ap number_fault g.accepted) refl
    ∙ (λ i. with_numbers (λ building. runs source image building default_options) (d i) (e i) (f i))
run_read source image a i (Some stack) None None bytes most limit d e f =
    let b = taken_between 256 1048576 stack bytes d in
    words_read run_asked (command_shape 1) (value source ∷ value image ∷ [] ++ building_read (Some stack) None None) (refl, refl, a, refl, (refl, refl, i, refl, (refl, (refl, refl, b.is_value, refl, tt)))) (ap number_fault b.accepted) refl
    ∙ (λ i. with_numbers (λ building. runs source image building default_options) (d i) (e i) (f i))
run_read source image a i (Some stack) None (Some max_gap) bytes most limit d e f =
    let b = taken_between 256 1048576 stack bytes d in
    let g = taken_within 160 1000000 max_gap limit f in
    words_read run_asked (command_shape 1) (value source ∷ value image ∷ [] ++ building_read (Some stack) None (Some max_gap)) (refl, refl, a, refl, (refl, refl, i, refl, (refl, (refl, refl, b.is_value, refl, (ap before_option b.accepted, (refl, refl, g.is_value, refl, tt)))))) (ap number_fault g.accepted) refl
    ∙ (λ i. with_numbers (λ building. runs source image building default_options) (d i) (e i) (f i))
run_read source image a i (Some stack) (Some out_cap) None bytes most limit d e f =
    let b = taken_between 256 1048576 stack bytes d in
    let m = taken_between 0 1048576 out_cap most e in
    words_read run_asked (command_shape 1) (value source ∷ value image ∷ [] ++ building_read (Some stack) (Some out_cap) None) (refl, refl, a, refl, (refl, refl, i, refl, (refl, (refl, refl, b.is_value, refl, (ap before_option b.accepted, (refl, refl, m.is_value, refl, tt)))))) (ap number_fault m.accepted) refl
    ∙ (λ i. with_numbers (λ building. runs source image building default_options) (d i) (e i) (f i))
run_read source image a i (Some stack) (Some out_cap) (Some max_gap) bytes most limit d e f =
    let b = taken_between 256 1048576 stack bytes d in
    let m = taken_between 0 1048576 out_cap most e in
    let g = taken_within 160 1000000 max_gap limit f in
    words_read run_asked (command_shape 1) (value source ∷ value image ∷ [] ++ building_read (Some stack) (Some out_cap) (Some max_gap)) (refl, refl, a, refl, (refl, refl, i, refl, (refl, (refl, refl, b.is_value, refl, (ap before_option b.accepted, (refl, refl, m.is_value, refl, (ap before_option m.accepted, (refl, refl, g.is_value, refl, tt)))))))) (ap number_fault g.accepted) refl
    ∙ (λ i. with_numbers (λ building. runs source image building default_options) (d i) (e i) (f i))

report_read : (source : Text) → is_option source ≡ false
    → Reads (reports source) report_asked (command_shape 5) (value source ∷ [])
unfolding clap_on_literals
report_read source a None None None bytes most limit d e f =
    words_read report_asked (command_shape 5) (value source ∷ [] ++ building_read None None None) (refl, refl, a, refl, tt) refl refl
    ∙ (λ i. with_numbers (reports source) (d i) (e i) (f i))
report_read source a None None (Some max_gap) bytes most limit d e f =
    let g = taken_within 160 1000000 max_gap limit f in
    words_read report_asked (command_shape 5) (value source ∷ [] ++ building_read None None (Some max_gap)) (refl, refl, a, refl, (refl, (refl, refl, g.is_value, refl, tt))) (ap number_fault g.accepted) refl
    ∙ (λ i. with_numbers (reports source) (d i) (e i) (f i))
report_read source a None (Some out_cap) None bytes most limit d e f =
    let m = taken_between 0 1048576 out_cap most e in
    words_read report_asked (command_shape 5) (value source ∷ [] ++ building_read None (Some out_cap) None) (refl, refl, a, refl, (refl, (refl, refl, m.is_value, refl, tt))) (ap number_fault m.accepted) refl
    ∙ (λ i. with_numbers (reports source) (d i) (e i) (f i))
report_read source a None (Some out_cap) (Some max_gap) bytes most limit d e f =
    let m = taken_between 0 1048576 out_cap most e in
    let g = taken_within 160 1000000 max_gap limit f in
    words_read report_asked (command_shape 5) (value source ∷ [] ++ building_read None (Some out_cap) (Some max_gap)) (refl, refl, a, refl, (refl, (refl, refl, m.is_value, refl, (ap before_option m.accepted, (refl, refl, g.is_value, refl, tt))))) (ap number_fault g.accepted) refl
    ∙ (λ i. with_numbers (reports source) (d i) (e i) (f i))
report_read source a (Some stack) None None bytes most limit d e f =
    let b = taken_between 256 1048576 stack bytes d in
    words_read report_asked (command_shape 5) (value source ∷ [] ++ building_read (Some stack) None None) (refl, refl, a, refl, (refl, (refl, refl, b.is_value, refl, tt))) (ap number_fault b.accepted) refl
    ∙ (λ i. with_numbers (reports source) (d i) (e i) (f i))
report_read source a (Some stack) None (Some max_gap) bytes most limit d e f =
    let b = taken_between 256 1048576 stack bytes d in
    let g = taken_within 160 1000000 max_gap limit f in
    words_read report_asked (command_shape 5) (value source ∷ [] ++ building_read (Some stack) None (Some max_gap)) (refl, refl, a, refl, (refl, (refl, refl, b.is_value, refl, (ap before_option b.accepted, (refl, refl, g.is_value, refl, tt))))) (ap number_fault g.accepted) refl
    ∙ (λ i. with_numbers (reports source) (d i) (e i) (f i))
report_read source a (Some stack) (Some out_cap) None bytes most limit d e f =
    let b = taken_between 256 1048576 stack bytes d in
    let m = taken_between 0 1048576 out_cap most e in
    words_read report_asked (command_shape 5) (value source ∷ [] ++ building_read (Some stack) (Some out_cap) None) (refl, refl, a, refl, (refl, (refl, refl, b.is_value, refl, (ap before_option b.accepted, (refl, refl, m.is_value, refl, tt))))) (ap number_fault m.accepted) refl
    ∙ (λ i. with_numbers (reports source) (d i) (e i) (f i))
report_read source a (Some stack) (Some out_cap) (Some max_gap) bytes most limit d e f =
    let b = taken_between 256 1048576 stack bytes d in
    let m = taken_between 0 1048576 out_cap most e in
    let g = taken_within 160 1000000 max_gap limit f in
    words_read report_asked (command_shape 5) (value source ∷ [] ++ building_read (Some stack) (Some out_cap) (Some max_gap)) (refl, refl, a, refl, (refl, (refl, refl, b.is_value, refl, (ap before_option b.accepted, (refl, refl, m.is_value, refl, (ap before_option m.accepted, (refl, refl, g.is_value, refl, tt))))))) (ap number_fault g.accepted) refl
    ∙ (λ i. with_numbers (reports source) (d i) (e i) (f i))

eval_read : (source : Text) → is_option source ≡ false
    → Reads (λ building. evaluates source building default_evaluation) eval_asked (command_shape 6) (value source ∷ [])
unfolding clap_on_literals
eval_read source a None None None bytes most limit d e f =
    words_read eval_asked (command_shape 6) (value source ∷ [] ++ building_read None None None) (refl, refl, a, refl, tt) refl refl
    ∙ (λ i. with_numbers (λ building. evaluates source building default_evaluation) (d i) (e i) (f i))
eval_read source a None None (Some max_gap) bytes most limit d e f =
    let g = taken_within 160 1000000 max_gap limit f in
    words_read eval_asked (command_shape 6) (value source ∷ [] ++ building_read None None (Some max_gap)) (refl, refl, a, refl, (refl, (refl, refl, g.is_value, refl, tt))) (ap number_fault g.accepted) refl
    ∙ (λ i. with_numbers (λ building. evaluates source building default_evaluation) (d i) (e i) (f i))
eval_read source a None (Some out_cap) None bytes most limit d e f =
    let m = taken_between 0 1048576 out_cap most e in
    words_read eval_asked (command_shape 6) (value source ∷ [] ++ building_read None (Some out_cap) None) (refl, refl, a, refl, (refl, (refl, refl, m.is_value, refl, tt))) (ap number_fault m.accepted) refl
    ∙ (λ i. with_numbers (λ building. evaluates source building default_evaluation) (d i) (e i) (f i))
eval_read source a None (Some out_cap) (Some max_gap) bytes most limit d e f =
    let m = taken_between 0 1048576 out_cap most e in
    let g = taken_within 160 1000000 max_gap limit f in
    words_read eval_asked (command_shape 6) (value source ∷ [] ++ building_read None (Some out_cap) (Some max_gap)) (refl, refl, a, refl, (refl, (refl, refl, m.is_value, refl, (ap before_option m.accepted, (refl, refl, g.is_value, refl, tt))))) (ap number_fault g.accepted) refl
    ∙ (λ i. with_numbers (λ building. evaluates source building default_evaluation) (d i) (e i) (f i))
eval_read source a (Some stack) None None bytes most limit d e f =
    let b = taken_between 256 1048576 stack bytes d in
    words_read eval_asked (command_shape 6) (value source ∷ [] ++ building_read (Some stack) None None) (refl, refl, a, refl, (refl, (refl, refl, b.is_value, refl, tt))) (ap number_fault b.accepted) refl
    ∙ (λ i. with_numbers (λ building. evaluates source building default_evaluation) (d i) (e i) (f i))
eval_read source a (Some stack) None (Some max_gap) bytes most limit d e f =
    let b = taken_between 256 1048576 stack bytes d in
    let g = taken_within 160 1000000 max_gap limit f in
    words_read eval_asked (command_shape 6) (value source ∷ [] ++ building_read (Some stack) None (Some max_gap)) (refl, refl, a, refl, (refl, (refl, refl, b.is_value, refl, (ap before_option b.accepted, (refl, refl, g.is_value, refl, tt))))) (ap number_fault g.accepted) refl
    ∙ (λ i. with_numbers (λ building. evaluates source building default_evaluation) (d i) (e i) (f i))
eval_read source a (Some stack) (Some out_cap) None bytes most limit d e f =
    let b = taken_between 256 1048576 stack bytes d in
    let m = taken_between 0 1048576 out_cap most e in
    words_read eval_asked (command_shape 6) (value source ∷ [] ++ building_read (Some stack) (Some out_cap) None) (refl, refl, a, refl, (refl, (refl, refl, b.is_value, refl, (ap before_option b.accepted, (refl, refl, m.is_value, refl, tt))))) (ap number_fault m.accepted) refl
    ∙ (λ i. with_numbers (λ building. evaluates source building default_evaluation) (d i) (e i) (f i))
eval_read source a (Some stack) (Some out_cap) (Some max_gap) bytes most limit d e f =
    let b = taken_between 256 1048576 stack bytes d in
    let m = taken_between 0 1048576 out_cap most e in
    let g = taken_within 160 1000000 max_gap limit f in
    words_read eval_asked (command_shape 6) (value source ∷ [] ++ building_read (Some stack) (Some out_cap) (Some max_gap)) (refl, refl, a, refl, (refl, (refl, refl, b.is_value, refl, (ap before_option b.accepted, (refl, refl, m.is_value, refl, (ap before_option m.accepted, (refl, refl, g.is_value, refl, tt))))))) (ap number_fault g.accepted) refl
    ∙ (λ i. with_numbers (λ building. evaluates source building default_evaluation) (d i) (e i) (f i))

pub build_options : (program source image : Text) (stack out_cap max_gap : Option Text) (building : BuildOptions) → is_option source ≡ false → is_option image ≡ false → Writes stack out_cap max_gap building
    → named (program ∷ codes "build" ∷ source ∷ image ∷ building_words stack out_cap max_gap) ≡ Some (builds source image building)
build_options program source image stack out_cap max_gap building a i w =
    build_named program (source ∷ image ∷ building_words stack out_cap max_gap)
    ∙ ap (λ words. asked_of build_asked (command_shape 0) (source ∷ image ∷ words)) (sym (texts_read stack out_cap max_gap))
    ∙ build_read source image a i stack out_cap max_gap building.stack building.out_cap building.max_gap w.bytes w.most w.gap

pub run_building : (program source image : Text) (stack out_cap max_gap : Option Text) (building : BuildOptions) → is_option source ≡ false → is_option image ≡ false → Writes stack out_cap max_gap building
    → named (program ∷ codes "run" ∷ source ∷ image ∷ building_words stack out_cap max_gap) ≡ Some (runs source image building default_options)
run_building program source image stack out_cap max_gap building a i w =
    run_named program (source ∷ image ∷ building_words stack out_cap max_gap)
    ∙ ap (λ words. asked_of run_asked (command_shape 1) (source ∷ image ∷ words)) (sym (texts_read stack out_cap max_gap))
    ∙ run_read source image a i stack out_cap max_gap building.stack building.out_cap building.max_gap w.bytes w.most w.gap

pub report_options : (program source : Text) (stack out_cap max_gap : Option Text) (building : BuildOptions) → is_option source ≡ false → Writes stack out_cap max_gap building
    → named (program ∷ codes "report" ∷ source ∷ building_words stack out_cap max_gap) ≡ Some (reports source building)
report_options program source stack out_cap max_gap building a w =
    report_named program (source ∷ building_words stack out_cap max_gap)
    ∙ ap (λ words. asked_of report_asked (command_shape 5) (source ∷ words)) (sym (texts_read stack out_cap max_gap))
    ∙ report_read source a stack out_cap max_gap building.stack building.out_cap building.max_gap w.bytes w.most w.gap

pub eval_building : (program source : Text) (stack out_cap max_gap : Option Text) (building : BuildOptions) → is_option source ≡ false → Writes stack out_cap max_gap building
    → named (program ∷ codes "eval" ∷ source ∷ building_words stack out_cap max_gap) ≡ Some (evaluates source building default_evaluation)
eval_building program source stack out_cap max_gap building a w =
    eval_named program (source ∷ building_words stack out_cap max_gap)
    ∙ ap (λ words. asked_of eval_asked (command_shape 6) (source ∷ words)) (sym (texts_read stack out_cap max_gap))
    ∙ eval_read source a stack out_cap max_gap building.stack building.out_cap building.max_gap w.bytes w.most w.gap
