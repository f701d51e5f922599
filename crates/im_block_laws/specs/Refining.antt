-- Passes one after another: an outcome refines itself, and what refines a refinement refines the first.
use Rattle.im_store.specs.Outcomes.{Outcome, Refines}

abbrev pub RefinesReflexive : Type 0
RefinesReflexive = (outcome : Outcome) → Refines outcome outcome

abbrev pub RefinesTransitive : Type 0
RefinesTransitive = (last middle first : Outcome) → Refines last middle → Refines middle first → Refines last first
