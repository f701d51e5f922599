use Rattle.im_rules_sound_spelt.proofs.Units.{unit-written}
use Rattle.im_rules_sound_unit.proofs.Units.{units}
use Rattle.im_rules_sound_spelt.proofs.Names.{names-of-source}
use Rattle.im_rules_sound_spelt.proofs.laws.spelt_law.Goals as goal

pub returns-clause-spelt : goal.returns-clause-spelt
returns-clause-spelt c = λ u words d h. unit-written d h

pub returns-clause-sources : goal.returns-clause-sources
returns-clause-sources c = λ u words g d h k l. units u g k (unit-written d h) l

pub returns-clause-names : goal.returns-clause-names
returns-clause-names c = λ test u words g d h k m l. names-of-source test u words g d h k m l
