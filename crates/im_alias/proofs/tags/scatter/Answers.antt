use Rattle.std.proofs.Common.{◌<◌, length, get_or, vec_len, arith}
use Rattle.std.proofs.lemmas.Option.{slice_get-get_or}
use Rattle.im_alias.specs.declared.found.Tagged.{Tagged}
use Rattle.im_alias.proofs.Steps.{scatter_next}
use Rattle.im_alias.proofs.tags.scatter.Goals as goal

pub loop-each-preserved : goal.loop-each-preserved
loop-each-preserved c =
    let xs = c.args.accesses.now in
    let k = c.loop-each.each-index in
    let d : Tagged = record { access = 0; tag = 0 } in
    let a = get_or xs k d in
    let more = c.reach.new.of in
    let within : k < length xs = omega arith in
    let long : a.access < length more.items = omega (arith, c.in_ok-reach.ensures.long) in
    scatter_next xs k a c.loop-each.of.items more.items (vec_len c.loop-each.of) c.requires (slice_get-get_or xs k d within) c.loop-each.invariant c.in_ok-reach.ensures.front long
