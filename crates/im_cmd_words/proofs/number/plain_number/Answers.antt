use Rattle.std.proofs.Common.{◌∙◌, sym}
use Rattle.im_cmd_words.proofs.NumberLemmas.{read_plainly}
use Rattle.im_cmd_words.proofs.number.plain_number.Goals as goal

pub returns : goal.returns
returns c =
    c.ok.ensures.value
    ∙ read_plainly c.args.text.now c.parse.result (sym c.if-not-starts_plainly.ensures) c.parse.ensures.value.0
