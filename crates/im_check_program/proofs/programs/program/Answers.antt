use Rattle.im_check_program.proofs.Making.{program_made}
use Rattle.im_check_program.proofs.programs.program.Goals as goal

pub returns : goal.returns
returns c =
    program_made c.args.parts.now c.table_of-types.result c.unit_statics.new.table (record { types = c.typed_functions.new.table; statics = c.in_ok-statics.statics; funcs = c.in_ok-funcs.funcs; main = c.in_ok-main.main })
    c.table_of-types.ensures c.in_ok-statics.ensures.grown c.in_ok-funcs.ensures.grown
    (λ e known scopes objects texts. rw c.deref-2.ensures.value at (c.in_ok-statics.ensures.same e known scopes objects (rw c.deref.ensures.value texts)))
    (rw c.functions_of-functions.ensures at c.in_ok-funcs.ensures.functions)
    c.in_ok-main.ensures
