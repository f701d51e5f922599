use Rattle.std.proofs.Common.{Ok, sym, ap, ◌∙◌}
use mir.Syntax.{w64}
use Rattle.std.specs.Option.{ok_or}
use Rattle.std.proofs.lemmas.Int.{to_z-of_z}
use Rattle.im_trial.specs.declared.stop.Stop.TheVariants.{Row}
use Rattle.im_trial.proofs.Numbers.{integer_fits, integer_read}
use Rattle.im_trial.proofs.fields.number_of.Goals as goal

pub returns-in-Ok : goal.returns-in-Ok
returns-in-Ok c =
    let fits = rw c.in-Ok.is at (integer_fits c.args.text.now c.parse.result c.parse.ensures.value.0) in
    ap Ok (to_z-of_z w64 c.in-Ok.number fits)
    ∙ sym (ap (λ o. ok_or o Row) (rw c.in-Ok.is at (integer_read c.args.text.now c.parse.result c.parse.ensures.value.0)))

pub returns-in-Err : goal.returns-in-Err
returns-in-Err c = sym (ap (λ o. ok_or o Row) (rw c.in-Err.is at (integer_read c.args.text.now c.parse.result c.parse.ensures.value.0)))
