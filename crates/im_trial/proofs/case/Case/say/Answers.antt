use Rattle.std.proofs.Common.{inl}
use Rattle.im_trial.proofs.Cases.{end_finds}
use Rattle.im_trial.proofs.case.Case.say.Goals as goal

pub returns-in-Ok : goal.returns-in-Ok
returns-in-Ok c = record { found = λ e. rw c.in-Ok.is at c.push_str.ensures.bytes; ended = λ stop e. e; why = λ e. inl e }

pub returns-in-Err : goal.returns-in-Err
returns-in-Err c = end_finds c.args.text.now c.args.self.now _ c.end.ensures.why
