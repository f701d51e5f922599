use Rattle.std.proofs.Common.{ap, sym, ◌∙◌}
use Rattle.std.specs.Prelude.{slice_index}
use Rattle.im_promote.specs.Written.{exit_objects}
use Rattle.im_promote.specs.Words.{starts_have}
use Rattle.im_promote.proofs.Bits.{has_or}
use Rattle.im_promote.proofs.objects.before_exit.Goals as goal

pub returns-in-Branch : goal.returns-in-Branch
returns-in-Branch c j lt =
    has_or (slice_index c.args.starts.now c.in-Branch.holds) (slice_index c.args.starts.now c.in-Branch.fails) j
    ∙ sym (ap (λ z. exit_objects (starts_have c.args.starts.now j) z) c.in-Branch.is)
