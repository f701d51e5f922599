use Rattle.std.proofs.Common.{pos, ap, ◌∙◌, arith}
use Rattle.std.specs.Prelude.{nat_abs}
use Rattle.std.specs.Int.{int_rem_euclid, w128}
use Rattle.std.proofs.lemmas.Int.{ints, to_z-of_z}
use Rattle.im_num.specs.Kinds.{word}
use Rattle.im_select.proofs.words.to_word.Goals as goal

pub returns : goal.returns
unfolding word
returns c =
    (let l = c.rem_euclid.ensures.lower_bound in let u = c.rem_euclid.ensures.upper_bound in omega (arith, ints))
    ∙ ap nat_abs c.rem_euclid.ensures.value
    ∙ ap (λ z. nat_abs (int_rem_euclid z (pos 4294967296))) (to_z-of_z w128 c.args.number c.ranges.number)
