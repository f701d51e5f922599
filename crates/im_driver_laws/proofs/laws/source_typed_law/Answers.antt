use Rattle.im_driver_laws.proofs.Units.{one_unit}
use Rattle.im_driver_laws.proofs.Rules.{is_typed, is_program, is_fault}
use Rattle.im_driver_laws.proofs.laws.source_typed_law.Goals as goal

pub returns : goal.returns
returns c =
    let lexed = c.one_reading.ensures.tokens in
    let listed = c.one_word_law.ensures.words in
    record {
      unit = one_unit lexed listed c.unique_unit_law.ensures.spelled;
      typed = is_typed c.units_agree_law.ensures.typed c.first_excess_law.ensures.within;
      program = is_program c.units_agree_law.ensures.asked c.first_excess_law.ensures.none;
      fault = is_fault c.units_agree_law.ensures.broken;
    }
