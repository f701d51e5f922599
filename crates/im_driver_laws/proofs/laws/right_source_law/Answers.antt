use Rattle.im_driver_laws.proofs.Right.{one_program, right}
use Rattle.im_driver_laws.proofs.laws.right_source_law.Goals as goal

pub returns-clause-one : goal.returns-clause-one
returns-clause-one c =
    one_program c.one_reading.ensures.tokens c.one_reading.ensures.apart c.one_word_law.ensures.words c.unique_unit_law.ensures.spelled c.typed_once_law.ensures.unit c.typed_breaks_none_law.ensures.unit

pub returns-clause-right : goal.returns-clause-right
returns-clause-right c =
    right c.one_reading.ensures.tokens c.one_reading.ensures.apart c.one_word_law.ensures.words c.unique_unit_law.ensures.spelled c.typed_once_law.ensures.unit c.typed_breaks_none_law.ensures.unit
