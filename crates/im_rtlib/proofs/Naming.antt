-- The lists are short, so the tests are made line by line.
use Rattle.std.proofs.Common.{◌≡◌, refl, arith}
use Rattle.im_rtlib.specs.Laws.{LinesLaw}

pub lines_law : LinesLaw
lines_law = record {
  registers = refl;
  getchar_forward = refl;
  putchar_forward = refl;
  getchar_short = omega arith;
  putchar_short = omega arith;
}
