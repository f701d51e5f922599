use Rattle.std.proofs.Common.{ℕ, ◌<◌, rules, refl, arith, pos}
use Rattle.std.proofs.lemmas.Int.{ints}
use Rattle.im_num.specs.declared.kind.Kind.TheVariants.{I32, U8}
use Rattle.im_num.specs.Kinds.{IsOfKind}
use Rattle.im_typed.proofs.laws.well_typed_examples.Goals as goal

int : (n : ℕ) → n < 2147483648 → IsOfKind I32 (pos n)
int n lt = record { low = omega (arith, ints); high = omega (arith, ints) }

byte : (n : ℕ) → n < 256 → IsOfKind U8 (pos n)
byte n lt = record { low = omega (arith, ints); high = omega (arith, ints) }

pub returns-clause-output : goal.returns-clause-output
returns-clause-output c = record {
  statics = tt;
  funcs = search (rules, int, byte);
  main = (refl, refl);
}

pub returns-clause-structs : goal.returns-clause-structs
returns-clause-structs c = record {
  statics = search (rules, int, byte);
  funcs = search (rules, int, byte);
  main = (refl, refl);
}

pub returns-clause-recursion : goal.returns-clause-recursion
returns-clause-recursion c = λ depth stack lt. record {
  statics = tt;
  funcs = search (rules, int, byte);
  main = (refl, refl);
}
