use Rattle.std.proofs.Common.{◌≡◌, IfOk, List, map, nat_eq, subst}
use Rattle.std.specs.HashMap.{get}
use Rattle.im_store.specs.Objects.{Value}
use Rattle.im_typed.specs.ProgramOf.{first_of}
use Rattle.im_check_static_values.proofs.GivenValues.{placed_same}
use Rattle.im_check_static_values.proofs.firsts.placed.Goals as goal

pub returns : goal.returns
returns c = λ types.
    let e = placed_same types c.args.given.now (get nat_eq c.in_ok-found.found) c.args.cells.now (c.in_ok-found.ensures types) in
    subst (λ (ws : List Value). IfOk c.values_of.result (λ vs. map (first_of types) vs.items ≡ ws)) e (c.values_of.ensures types)
