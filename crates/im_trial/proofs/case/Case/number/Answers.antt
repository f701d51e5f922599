use Rattle.std.proofs.Common.{pos, SFits, ◌∙◌}
use mir.Syntax.{w64}
use Rattle.std.proofs.lemmas.Int.{to_z-of_z}
use Rattle.im_trial.specs.Numbers.{integer_in}
use Rattle.im_trial.proofs.Cases.{value_read, case_read}
use Rattle.im_trial.proofs.case.Case.number.Goals as goal

pub returns-clause-number : goal.returns-clause-number
returns-clause-number c =
    let fits : SFits w64 c.or.result = record { sfits = c.or.type_inv } in
    to_z-of_z w64 c.or.result fits ∙ value_read (integer_in c.args.text.now) c.number_of.result c.or.result (pos 0) c.number_of.ensures c.or.ensures.value

pub returns-clause-case : goal.returns-clause-case
returns-clause-case c = case_read (integer_in c.args.text.now) c.number_of.result c.args.self.now c.or.new.self c.number_of.ensures c.or.ensures.case
