-- A number after `gen`.
use Rattle.std.proofs.Common.{ap, refl, ℕ, [], ◌∷◌, Option, Some, ◌≡◌, ◌∙◌, codes}
use Rattle.std.specs.Prelude.{option_map}
use Rattle.clap.specs.Words.{Text}
use Rattle.clap.proofs.OnLiterals.{clap_on_literals}
use Rattle.im_cmd_words.specs.Numbers.{number_between}
use Rattle.im_cmd_words.specs.Named.{gen_asked, generates, named}
use Rattle.im_cmd_words.proofs.OperandLemmas.{command_shape, gen_named}
use Rattle.im_cmd_words.proofs.OptionLemmas.{number_fault, value, words_read}
use Rattle.im_cmd_words.proofs.BuildingLemmas.{taken_between}

pub gen_number : (program text : Text) (number : ℕ) → number_between 1 300 text ≡ Some number → named (program ∷ codes "gen" ∷ text ∷ []) ≡ Some (generates number)
unfolding clap_on_literals
gen_number program text number e =
    let n = taken_between 1 300 text number e in
    gen_named program (text ∷ [])
    ∙ words_read gen_asked (command_shape 7) (value text ∷ []) (refl, refl, n.is_value, refl, tt) (ap number_fault n.accepted) refl
    ∙ ap (option_map generates) e
