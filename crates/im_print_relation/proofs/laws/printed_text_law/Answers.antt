use Rattle.im_print_relation.specs.Printed.{words_of}
use Rattle.im_print_relation.proofs.Texts.{read_as}
use Rattle.im_print_relation.proofs.Tokens.{tokens_fit}
use Rattle.im_print_relation.proofs.Units.{spelled_again}
use Rattle.im_print_relation.proofs.laws.printed_text_law.Goals as goal

pub returns-clause-lexes : goal.returns-clause-lexes
returns-clause-lexes c = λ source tokens words tree bytes lexes have spells.
    let again = spelled_again tree words spells (tokens_fit source tokens words bytes lexes have) in
    read_as (words_of tree) again.fit

pub returns-clause-spells : goal.returns-clause-spells
returns-clause-spells c = λ source tokens words tree bytes lexes have spells. spelled_again tree words spells (tokens_fit source tokens words bytes lexes have)
