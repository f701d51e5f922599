use Rattle.std.proofs.Common.{◌∙◌, refl}
use Rattle.std.proofs.lemmas.List.{nil_from_length}
use Rattle.im_block_run.proofs.exits.next_line.Goals as goal

pub returns-in_default : goal.returns-in_default
returns-in_default c = λ s h. (h.rest ∙ nil_from_length c.args.frame.now.lines.now c.in_default.ensures.cases, h)

pub returns : goal.returns
returns c = λ s h. (
  c.in-Some.rest.now,
  h.rest ∙ c.in-Some.ensures.cases.0,
  record { function = h.function; rest = refl; exit = h.exit; active = h.active; registers = h.registers; to = h.to },
)
