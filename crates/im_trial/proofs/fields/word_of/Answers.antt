use Rattle.std.proofs.Common.{sym, ap}
use Rattle.std.specs.Option.{ok_or}
use Rattle.im_trial.specs.declared.stop.Stop.TheVariants.{Row}
use Rattle.im_trial.proofs.Numbers.{word_read}
use Rattle.im_trial.proofs.fields.word_of.Goals as goal

pub returns-in-Ok : goal.returns-in-Ok
returns-in-Ok c = sym (ap (λ o. ok_or o Row) (rw c.in-Ok.is at (word_read 16 c.args.text.now _ c.from_str_radix.ensures.value)))

pub returns-in-Err : goal.returns-in-Err
returns-in-Err c = sym (ap (λ o. ok_or o Row) (rw c.in-Err.is at (word_read 16 c.args.text.now _ c.from_str_radix.ensures.value)))
