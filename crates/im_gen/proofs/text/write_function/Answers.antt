use Rattle.std.proofs.Common.{◌∙◌, append_assoc}
use Rattle.std.proofs.lemmas.Result.{on_ok_weaker}
use Rattle.im_gen.proofs.text.write_function.Goals as goal

pub returns : goal.returns
returns c = on_ok_weaker c.write.result (λ h. h ∙ simp append_assoc) c.write.ensures.bytes
