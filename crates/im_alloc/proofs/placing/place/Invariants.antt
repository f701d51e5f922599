use Rattle.std.proofs.Common.{◌≡◌, ◌+◌, take, drop}
use Rattle.im_alloc.specs.Numbers.{past_functions}
use Rattle.im_alloc.specs.Places.{PlacesFunctions, numbers_of}
use Rattle.im_alloc.proofs.placing.place.Given as goal

-- the functions so far are placed, the others are as they were
abbrev pub invariant-loop-function : goal.invariant-loop-function
invariant-loop-function l =
    let old = l.fn.unit.functions.items in
    record {
      done : PlacesFunctions (past_functions 0 old) (take l.function-index old) (take l.function-index l.function-items);
      left : drop l.function-index l.function-items ≡ drop l.function-index old;
      number_is : l.number ≡ past_functions 0 old + numbers_of (take l.function-index old);
    }
