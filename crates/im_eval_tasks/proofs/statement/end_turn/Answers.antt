use Rattle.std.proofs.Common.{◌≡◌, ◌∙◌, ap, sym, inl, inr, Option, Bor}
use Rattle.im_typed.specs.declared.expression.Expr.{Expr}
use Rattle.im_typed.specs.Runs.{Answer, ◌>>=◌}
use Rattle.im_typed.specs.Values.{Values}
use Rattle.im_eval_tasks.specs.Found.{flow}
use Rattle.im_eval_tasks.specs.Stack.{continues, in_activation, then_flowed}
use Rattle.im_eval_tasks.specs.Tasks.{ends_turn, loops, steps}
use Rattle.im_eval_tasks.specs.declared.completion.Ended.{Ended}
use Rattle.im_eval_tasks.proofs.Begins.{again_}
use Rattle.im_eval_tasks.proofs.statement.end_turn.Goals as goal

pub returns-in-Some : goal.returns-in-Some
returns-in-Some c = λ types g n here ts s.
    let around = in_activation types g n here in
    let turns = c.args.turns in
    let next : Ended → Answer Values = λ ended. then_flowed types g n here ts (ends_turn types around n turns (flow ended)) s in
    let goes_on : next c.args.ended ≡ then_flowed types g n here ts (steps types around n turns.step >>= (λ _. loops types around n turns)) s =
    elim c.in-Next.is [ inl e ↦ ap next e | inr e ↦ ap next e ] in
    again_ types g n here (λ d. continues types g n here ts d) s c.in-Some.step turns
    ∙ sym (goes_on ∙ ap (λ (step : Option (Bor Expr)). then_flowed types g n here ts (steps types around n step >>= (λ _. loops types around n turns)) s) c.in-Some.is)
