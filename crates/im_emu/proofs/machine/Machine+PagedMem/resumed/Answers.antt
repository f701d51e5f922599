use Rattle.std.proofs.Common.{◌∙◌, sym, subst, arith}
use Rattle.im_emu.specs.Layouts.{AreLaidOut}
use Rattle.im_emu.proofs.Layouts.{laid_out}
use Rattle.im_emu.proofs.machine.Machine+PagedMem.resumed.Goals as goal

pub invariant_of-result : goal.invariant_of-result
invariant_of-result c = record {
  steps = omega arith;
  commits = omega arith;
  objects = subst AreLaidOut (sym (c.in_ok-objects.ensures ∙ c.deref.ensures.value)) (laid_out _ c.image.invariant);
}
