use Rattle.std.proofs.Common.{◌∙◌, ap, ap₂}
use Rattle.std.proofs.lemmas.Result.{IfOk-weaker}
use Rattle.clap.specs.Words.{app_of, with_rule}
use Rattle.im_cmd_words.proofs.table.with_step_options.Goals as goal

pub returns-clause-row : goal.returns-clause-row
returns-clause-row c =
    let steps = c.in_ok-arg.ensures.shape c.numbered.ensures.local
    ∙ ap (with_rule (app_of c.args.command)) c.numbered.ensures.rule in
    let vars = c.in_ok-arg-2.ensures.shape c.flag.ensures.local ∙ ap₂ with_rule steps c.flag.ensures.rule in
    IfOk-weaker c.arg-3.result _ _ (λ m h. h.shape c.valued.ensures.local ∙ ap₂ with_rule vars c.valued.ensures.rule) c.arg-3.ensures
