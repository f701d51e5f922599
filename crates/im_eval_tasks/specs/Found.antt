-- The ends of statements of the meaning that those of a run stand for.
use Rattle.im_typed.specs.Meaning.{Flow, Next as NextFlow, Broke as BrokeFlow, Continued as ContinuedFlow, Returned as ReturnedFlow}
use Rattle.im_eval_machine.specs.Shown.{values}
use Rattle.im_eval_tasks.specs.declared.completion.Ended.{Ended}
use Rattle.im_eval_tasks.specs.declared.completion.Ended.TheVariants.{Next, Broke, Continued, Returned}

abbrev pub flow : Ended → Flow
flow Next = NextFlow
flow Broke = BrokeFlow
flow Continued = ContinuedFlow
flow (Returned found) = ReturnedFlow (values found)
