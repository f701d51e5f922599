-- The words of parameters, one behind the other.
use Rattle.std.proofs.Common.{◌≤◌, arith}
use Rattle.im_num.specs.declared.kind.Kind.{Kind}
use Rattle.im_num.specs.declared.kind.Kind.TheVariants.{I8, U8, I16, U16, I32, U32, Ptr}
use Rattle.im_num.specs.Kinds.{kind_size}

pub few_bytes : (k : Kind) → kind_size k ≤ 4
few_bytes I8 = omega arith
few_bytes U8 = omega arith
few_bytes I16 = omega arith
few_bytes U16 = omega arith
few_bytes I32 = omega arith
few_bytes U32 = omega arith
few_bytes Ptr = omega arith
