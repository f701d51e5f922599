use Rattle.std.proofs.Common.{◌∙◌, ap, ap₂}
use Rattle.std.proofs.lemmas.Result.{IfOk-weaker}
use Rattle.clap.specs.Words.{app_of, with_rule}
use Rattle.im_cmd_words.proofs.table.with_eval_options.Goals as goal

pub returns-clause-row : goal.returns-clause-row
returns-clause-row c =
    let input = c.in_ok-arg.ensures.shape c.valued.ensures.local
    ∙ ap (with_rule (app_of c.args.command)) c.valued.ensures.rule in
    let fuel = c.in_ok-arg-2.ensures.shape c.numbered.ensures.local ∙ ap₂ with_rule input c.numbered.ensures.rule in
    IfOk-weaker c.arg-3.result _ _ (λ m h. h.shape c.flag.ensures.local ∙ ap₂ with_rule fuel c.flag.ensures.rule) c.arg-3.ensures
