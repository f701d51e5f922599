use Rattle.im_rules_sound_expressions.proofs.Declarators.{declares-bounded, names-bounded}
use Rattle.im_rules_sound_expressions.proofs.laws.types_law.Goals as goal

pub returns-clause-declares : goal.returns-clause-declares
returns-clause-declares c = λ a q d y k structs typedefs b w. declares-bounded a q d y k structs typedefs b w

pub returns-clause-names : goal.returns-clause-names
returns-clause-names c = λ a n q k structs typedefs w. names-bounded a n q k structs typedefs w
