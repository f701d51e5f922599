-- What is asked of a name by what it means.
use Rattle.std.specs.Prelude.{List, [], ◌∷◌, Option}
use Rattle.im_check_conversions.specs.im_word.Words.{Name}
use Rattle.im_check_conversions.specs.im_rules.Context.{Context}
use Rattle.im_check_conversions.specs.im_rules.Scopes.{Entity}
use Rattle.im_check_conversions.specs.im_rules.Rules.{rule_18, rule_12_use}
use Rattle.im_check_conversions.specs.im_rules.Demands.{Demand, asks, is_object_defined}

abbrev pub entity_asks : Context → Name → Option Entity → List Demand
entity_asks c x e = asks 18 (rule_18 e) ∷ asks 12 (rule_12_use (is_object_defined c x e)) ∷ []
