use Rattle.std.proofs.Common.{◌≡◌, ◌+◌, length, take}
use Rattle.im_lower_plain.specs.MakeUnit.{FunctionsMade, objects_of}
use Rattle.im_lower.proofs.program.lower_functions.Given as goal

-- the functions before the number are made
abbrev pub invariant-loop-number : goal.invariant-loop-number
invariant-loop-number l =
    let done = take l.number l.prog.funcs.items in
    record {
      first : l.first ≡ length l.prog.statics.items + objects_of done;
      each : FunctionsMade l.prog 0 (length l.prog.statics.items) 0 l.accesses done l.made.items;
    }
