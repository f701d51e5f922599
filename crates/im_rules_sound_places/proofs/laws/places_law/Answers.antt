use Rattle.im_rules_sound_places.proofs.Files.{start-fine, externals-step}
use Rattle.im_rules_sound_places.proofs.laws.places_law.Goals as goal

pub returns-clause-start : goal.returns-clause-start
returns-clause-start c = λ u. start-fine u

pub returns-clause-externals : goal.returns-clause-externals
returns-clause-externals c = λ f e u gs ks d h w l. externals-step d h w l
