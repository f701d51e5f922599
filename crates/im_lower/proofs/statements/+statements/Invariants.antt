use Rattle.std.proofs.Common.{◌≡◌, drop, reverse}
use Rattle.im_typed.specs.ProgramOf.{program_of}
use Rattle.im_lower_plain.specs.Made.{close}
use Rattle.im_lower.specs.MakeEach.{make_in_order, make_marked, marks_of}
use Rattle.im_lower.proofs.statements.+statements.Given as goal

-- the statements from the index on stand
abbrev pub invariant-lower_block-loop-index : goal.invariant-lower_block-loop-index
invariant-lower_block-loop-index l =
    l.code ≡ make_in_order (program_of l.prog) l.base.first l.prog.types l.base.low l.objects l.breaks l.continues (drop l.index l.statements) l.initial.code

abbrev pub invariant-lower_marked-loop-index : goal.invariant-lower_marked-loop-index
invariant-lower_marked-loop-index l =
    let rest = drop l.index l.statements in
    record {
      code : l.code ≡ close (make_marked (program_of l.prog) l.base.first l.prog.types l.base.low l.objects l.breaks l.continues rest l.fn.code);
      marks : reverse l.marks.items ≡ marks_of (program_of l.prog) l.base.first l.prog.types l.base.low l.objects l.breaks l.continues rest l.fn.code;
    }
