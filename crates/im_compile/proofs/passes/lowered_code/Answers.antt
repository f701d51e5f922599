use Rattle.std.proofs.Common.{List, subst}
use Rattle.im_typed.specs.declared.program.Func.{Func}
use Rattle.im_compile.specs.Made.{AreNamesOf}
use Rattle.im_compile.proofs.passes.lowered_code.Goals as goal

pub returns : goal.returns
returns c =
    let l = c.in_ok-unit.ensures in
    record {
      code = record { lower = l.gives; sized = l.sized (record { typed = c.requires.typed; within = c.requires.within }); placeable = l.placeable (record { typed = c.requires.typed; within = c.requires.within }); uncut = l.uncut (record { typed = c.requires.typed; within = c.requires.within }); told = l.told };
      names = subst (λ (z : List Func). AreNamesOf z c.in_ok-names.names.items) c.deref.ensures.value c.in_ok-names.ensures;
    }
