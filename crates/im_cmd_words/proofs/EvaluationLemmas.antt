-- Words after the command's name, an evaluation's options among them.
use Rattle.std.proofs.Common.{ap, refl, sym, true, false, ℕ, Bool, List, [], ◌∷◌, ◌++◌, Option, Some, None, ◌≡◌, ◌∙◌, codes, map}
use Rattle.std.specs.Prelude.{option_and_then, option_map, IfSome, unwrap_or}
use Rattle.clap.specs.Words.{Text}
use Rattle.clap.proofs.OnLiterals.{clap_on_literals}
use Rattle.im_cmd_words.specs.Numbers.{plain_number}
use Rattle.im_cmd_words.specs.Named.{Asked, Evaluation, default_building, eval_asked, evaluates, evaluation_words, given, is_option, named}
use Rattle.im_cmd_words.proofs.OperandLemmas.{asked_of, command_shape, eval_named}
use Rattle.im_cmd_words.proofs.OptionLemmas.{Word, before_flag, flag_read, flag_words, given_read, given_words, number_fault, number_plain, number_taken, text_of, value, words_read}

abbrev evaluation_read : Option Text → Option Text → Bool → List Word
evaluation_read input fuel vars = given_words (codes "--input") input ++ (given_words (codes "--fuel") fuel ++ flag_words vars)

texts_read : (input fuel : Option Text) (vars : Bool) → map text_of (evaluation_read input fuel vars) ≡ evaluation_words (record { input = input; fuel = 0; vars = vars }) fuel
texts_read input fuel vars =
    given_read (codes "--input") input _ ∙ ap (λ xs. given (codes "--input") input ++ xs) (given_read (codes "--fuel") fuel (flag_words vars)
    ∙ ap (λ xs. given (codes "--fuel") fuel ++ xs) (flag_read vars))

abbrev with_fuel : (Evaluation → Asked) → Option Text → Bool → Option ℕ → Option Asked
with_fuel asks input vars fuel =
    option_and_then (λ evaluation. Some (asks evaluation)) (option_map (λ n. record { input = input; fuel = n; vars = vars }) fuel)

eval_read : (source : Text) → is_option source ≡ false → (input fuel : Option Text) (vars : Bool) (number : ℕ) → IfSome input (λ file. is_option file ≡ false)
    → plain_number (unwrap_or fuel (codes "1000000")) ≡ Some number
    → asked_of eval_asked (command_shape 6) (map text_of (value source ∷ [] ++ evaluation_read input fuel vars))
    ≡ Some (evaluates source default_building (record { input = input; fuel = number; vars = vars }))
unfolding clap_on_literals
eval_read source a None None false number b e =
    words_read eval_asked (command_shape 6) (value source ∷ [] ++ evaluation_read None None false) (refl, refl, a, refl, tt) refl refl
    ∙ ap (with_fuel (evaluates source default_building) None false) e
eval_read source a None None true number b e =
    words_read eval_asked (command_shape 6) (value source ∷ [] ++ evaluation_read None None true) (refl, refl, a, refl, (refl, tt)) refl refl
    ∙ ap (with_fuel (evaluates source default_building) None true) e
eval_read source a None (Some text) false number b e =
    words_read eval_asked (command_shape 6) (value source ∷ [] ++ evaluation_read None (Some text) false) (refl, refl, a, refl, (refl, (refl, refl, number_plain text number e, refl, tt))) (ap number_fault (number_taken text number e)) refl
    ∙ ap (with_fuel (evaluates source default_building) None false) e
eval_read source a None (Some text) true number b e =
    words_read eval_asked (command_shape 6) (value source ∷ [] ++ evaluation_read None (Some text) true) (refl, refl, a, refl, (refl, (refl, refl, number_plain text number e, refl, (ap before_flag (number_taken text number e), tt)))) refl refl
    ∙ ap (with_fuel (evaluates source default_building) None true) e
eval_read source a (Some input) None false number b e =
    words_read eval_asked (command_shape 6) (value source ∷ [] ++ evaluation_read (Some input) None false) (refl, refl, a, refl, (refl, (refl, refl, b, refl, tt))) refl refl
    ∙ ap (with_fuel (evaluates source default_building) (Some input) false) e
eval_read source a (Some input) None true number b e =
    words_read eval_asked (command_shape 6) (value source ∷ [] ++ evaluation_read (Some input) None true) (refl, refl, a, refl, (refl, (refl, refl, b, refl, (refl, tt)))) refl refl
    ∙ ap (with_fuel (evaluates source default_building) (Some input) true) e
eval_read source a (Some input) (Some text) false number b e =
    words_read eval_asked (command_shape 6) (value source ∷ [] ++ evaluation_read (Some input) (Some text) false) (refl, refl, a, refl, (refl, (refl, refl, b, refl, (refl, (refl, refl, number_plain text number e, refl, tt))))) (ap number_fault (number_taken text number e)) refl
    ∙ ap (with_fuel (evaluates source default_building) (Some input) false) e
eval_read source a (Some input) (Some text) true number b e =
    words_read eval_asked (command_shape 6) (value source ∷ [] ++ evaluation_read (Some input) (Some text) true) (refl, refl, a, refl, (refl, (refl, refl, b, refl, (refl, (refl, refl, number_plain text number e, refl, (ap before_flag (number_taken text number e), tt)))))) refl refl
    ∙ ap (with_fuel (evaluates source default_building) (Some input) true) e

pub eval_options : (program source : Text) (options : Evaluation) (fuel : Option Text) → is_option source ≡ false → IfSome options.input (λ file. is_option file ≡ false)
    → plain_number (unwrap_or fuel (codes "1000000")) ≡ Some options.fuel
    → named (program ∷ codes "eval" ∷ source ∷ evaluation_words options fuel) ≡ Some (evaluates source default_building options)
eval_options program source options fuel a b e =
    eval_named program (source ∷ evaluation_words options fuel)
    ∙ ap (λ words. asked_of eval_asked (command_shape 6) (source ∷ words)) (sym (texts_read options.input fuel options.vars))
    ∙ eval_read source a options.input fuel options.vars options.fuel b e
