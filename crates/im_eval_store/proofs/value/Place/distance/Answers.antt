use Rattle.std.proofs.Common.{◌<◌, ◌^◌, ◌-ℤ◌, sym, subst, int_div, to_z, of_z, arith, rules}
use mir.Syntax.{w128}
use Rattle.std.proofs.lemmas.Int.{to_z-of_z, ints}
use Rattle.im_store.proofs.Bounds.{IsSmall, small_fits, quotient_small}
use Rattle.im_eval_store.proofs.value.Place.distance.Goals as goal

pub invariant_of-result-2 : goal.invariant_of-result-2
invariant_of-result-2 c =
    let here : c.args.self.offset < 2 ^ 32 = search rules in
    let there : c.args.other.offset < 2 ^ 32 = search rules in
    let bytes = to_z w128 (of_z w128 (to_z w128 c.args.self.offset -ℤ to_z w128 c.args.other.offset)) in
    let size = to_z w128 c.args.size in
    let few : IsSmall bytes = record { low = omega (arith, ints); high = omega (arith, ints) } in
    let small = quotient_small bytes size few in
    let stands = subst IsSmall (sym (to_z-of_z w128 (int_div bytes size) (small_fits (int_div bytes size) small))) small in
    record { low = stands.low; high = stands.high }
