use Rattle.std.proofs.Common.{refl}
use Rattle.im_types.proofs.Tables.{grown-twice}
use Rattle.im_check_defined.specs.Values.{first_values_in}
use Rattle.im_check_program.proofs.Making.{statics_joined}
use Rattle.im_check_program.proofs.programs.unit_statics.Goals as goal

pub returns-clause-same : goal.returns-clause-same
returns-clause-same c = λ e known scopes objects texts.
    statics_joined c.args.table.now c.typed_statics.new.table c.text_statics.new.table e (first_values_in c.args.given.now) c.in_ok-statics.statics.items c.in_ok-strings.strings.items c.append.new.self.items known
    c.in_ok-statics.ensures.grown c.in_ok-strings.ensures.grown
    (rw objects (c.in_ok-statics.ensures.same e known scopes))
    (rw texts c.in_ok-strings.ensures.same)
    c.in_ok-append.ensures.items

pub returns-clause-grown : goal.returns-clause-grown
returns-clause-grown c = grown-twice c.args.table.now c.typed_statics.new.table c.text_statics.new.table c.in_ok-statics.ensures.grown c.in_ok-strings.ensures.grown
