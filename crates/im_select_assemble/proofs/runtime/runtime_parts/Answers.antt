use Rattle.std.proofs.Common.{[], refl, subst}
use Rattle.im_select_assemble.specs.Assembled.{Adds}
use Rattle.im_select_assemble.proofs.Parts.{runtime_of}
use Rattle.im_select_assemble.proofs.Naming.{runtime_named}
use Rattle.im_select_assemble.proofs.runtime.runtime_parts.Goals as goal

pub returns : goal.returns
returns c =
    let b = c.in_ok-push_part.ensures [] c.new-linker.ensures in
    let d = c.in_ok-push_part-2.ensures b.0 b.1 in
    let e = c.in_ok-push_part-3.ensures d.0 d.1 in
    let f = c.in_ok-push_part-4.ensures e.0 e.1 in
    let g = c.in_ok-push_part-5.ensures f.0 f.1 in
    record {
      parts = g.0;
      holds = g.1;
      runtime = runtime_of [] b.0 d.0 e.0 f.0 g.0 refl
          (subst (Adds [] b.0) c.in_ok-recovery_lines.ensures b.2.adds)
          (subst (Adds b.0 d.0) c.in_ok-checkpoint_lines.ensures d.2.adds)
          (subst (Adds d.0 e.0) c.in_ok-getchar_lines.ensures e.2.adds)
          (subst (Adds e.0 f.0) c.in_ok-putchar_lines.ensures f.2.adds)
          (subst (Adds f.0 g.0) c.in_ok-stack_lines.ensures g.2.adds);
      names = runtime_named b.2.named d.2.named e.2.named f.2.named g.2.named;
    }
