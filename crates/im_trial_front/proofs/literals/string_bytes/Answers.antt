use Rattle.std.proofs.Common.{refl, [], ◌∷◌, arith, lit<, lit≤}
use Rattle.im_tok.specs.Literals.IsElement.{plain, simple}
use Rattle.im_trial_front.proofs.literals.string_bytes.Goals as goal

pub text_bytes-requires : goal.text_bytes-requires
text_bytes-requires c = (
  97 ∷ 10 ∷ [],
  (
    record { value = 97; length = 1 } ∷ record { value = 10; length = 2 } ∷ [],
    record {
      begins = refl;
      inner = (plain (record { some = lit< tt; line = λ e. omega arith; inside = λ e. omega arith; no_escape = λ e. omega arith; value = refl; size = refl }), (simple (record { within = lit≤ tt; begins = refl; value = refl; size = refl }), tt));
      closed = refl;
      whole = refl;
    },
    refl,
  ),
)
