use Rattle.std.proofs.Common.{◌∙◌, refl, ap, arith}
use Rattle.std.specs.Prelude.{nat_abs}
use mir.Syntax.{w128}
use Rattle.std.proofs.lemmas.Int.{to_z-of_z, ints}
use Rattle.im_store.proofs.arithmetic.bits_of.Goals as goal

pub returns : goal.returns
returns c =
    let value = to_z-of_z w128 c.args.value c.ranges.value in
    (let l = c.residue.ensures.low in let h = c.residue.ensures.high in omega (arith, ints))
    ∙ ap nat_abs c.residue.ensures.value
    ∙ rw value refl
