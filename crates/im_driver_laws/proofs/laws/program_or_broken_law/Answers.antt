use Rattle.im_driver_laws.proofs.Rules.{either, never_both}
use Rattle.im_driver_laws.proofs.laws.program_or_broken_law.Goals as goal

pub returns-clause-either : goal.returns-clause-either
returns-clause-either c = either c.typed_or_broken_law.ensures.either

pub returns-clause-never_both : goal.returns-clause-never_both
returns-clause-never_both c = never_both c.source_typed_law.ensures.unit c.typed_breaks_none_law.ensures.unit
