use Rattle.std.proofs.Common.{List, map, refl, ap, ◌∙◌}
use Rattle.im_typed.specs.declared.program.Static.{Static}
use Rattle.im_typed.specs.ProgramOf.{static_of}
use Rattle.im_block.specs.declared.unit.Unit.{Unit as Code}
use Rattle.im_lower_plain.specs.MakeUnit.{UnitMade}
use Rattle.im_lower.proofs.Told.{all_told}
use Rattle.im_lower.proofs.program.lower.Goals as goal

abbrev Made_unit : goal.In_ok-functions → Code
Made_unit c = record { statics = c.in_ok-statics.statics; functions = c.in_ok-functions.functions; main = c.args.prog.now.main }

made : (c : goal.In_ok-functions) → UnitMade c.args.prog.now (Made_unit c)
made c =
    record {
      statics = c.in_ok-statics.ensures ∙ ap (λ (xs : List Static). map (static_of c.args.prog.now.types) xs) c.deref.ensures.value;
      main = refl;
      functions = c.in_ok-functions.ensures;
    }

pub returns-clause-gives : goal.returns-clause-gives
returns-clause-gives c = c.made_law.ensures.lowered c.args.prog.now (Made_unit c) (made c)

pub returns-clause-sized : goal.returns-clause-sized
returns-clause-sized c = λ small. c.sized_law.ensures.sized c.args.prog.now (Made_unit c) (made c) small.typed small.within

pub returns-clause-placeable : goal.returns-clause-placeable
returns-clause-placeable c = λ small. c.sized_law.ensures.placeable c.args.prog.now (Made_unit c) (made c) small.typed small.within

pub returns-clause-uncut : goal.returns-clause-uncut
returns-clause-uncut c = λ small. c.sized_law.ensures.uncut c.args.prog.now (Made_unit c) (made c) small.typed small.within

pub returns-clause-told : goal.returns-clause-told
returns-clause-told c = all_told c.args.prog.now c.in_ok-functions.functions.items c.in_ok-functions.ensures
