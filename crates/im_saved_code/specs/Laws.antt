-- Liveness at the words of linked code.
use Rattle.std.specs.Prelude.{ℕ, Bool, List}
use Rattle.im_rv.specs.declared.code.Part.{Part}
use Rattle.im_rv.specs.declared.code.Code.{Code as Linked}
use Rattle.im_link.specs.Code.{IsLinkable, IsLinked}
use Rattle.im_block.specs.declared.unit.Unit.{Unit as Code}
use Rattle.im_block.specs.Wellformed.{IsWellFormed}
use Rattle.im_alloc_relation.specs.Settled.{IsSettled}
use Rattle.im_frame.specs.declared.layout.Layout.{Layout}
use Rattle.im_link_laws.specs.Program.{IsProgram}
use Rattle.im_saved.specs.Liveness.{IsLiveness, EntersByCuts}

-- registers live at its words so that each cut saves them, and the runtime is entered by cuts alone
pub record IsLiveCode (words : List ℕ) (entry : ℕ) : Type 0 where
  pub live : ℕ → ℕ → Bool
  pub liveness : IsLiveness words entry live
  pub enters : EntersByCuts words entry

abbrev pub LiveCodeLaw : Type 0
LiveCodeLaw =
    (u : Code) (statics : List ℕ) (layouts : List Layout) (parts : List Part) → IsProgram u statics layouts parts → IsWellFormed u → IsSettled u →
    (code : Linked) → IsLinkable parts → IsLinked parts code → IsLiveCode code.words.items code.entry
