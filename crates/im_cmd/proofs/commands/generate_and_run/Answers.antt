use Rattle.std.proofs.Common.{refl}
use Rattle.im_cmd_lines.specs.Refusals.{refused_of}
use Rattle.im_cmd.specs.Answers.{gen_refused, generated}
use Rattle.im_cmd.proofs.Reports.{tells_refusal}
use Rattle.im_cmd.proofs.commands.generate_and_run.Goals as goal

pub returns-in-Ok : goal.returns-in-Ok
returns-in-Ok g c = λ shelf. record {
  outcome = _;
  comes = generated _ c.in-Ok.ensures.built _ c.in-Ok.ensures.generates refl;
  tells = rw c.in-Ok.ensures.form_is at c.tell_generation.ensures;
}

pub returns-in-Err : goal.returns-in-Err
returns-in-Err g c = λ shelf. record {
  outcome = _;
  comes = gen_refused _ (refused_of c.in-Err.refusal) c.in-Err.ensures refl;
  tells = tells_refusal _ _ _ _ _ c.tell_refusal.ensures.status c.tell_refusal.ensures.err;
}
