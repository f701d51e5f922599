use Rattle.std.proofs.Common.{[], sym, ◌∙◌}
use Rattle.std.proofs.lemmas.Bool.{ltb-true, ltb-false}
use Rattle.im_ctree.specs.Shape.{declarator_of}
use Rattle.im_check_counts.specs.Derivations.{derived_from, known_of}
use Rattle.im_check_counts.proofs.Derived.{walked_first, walked_one}
use Rattle.im_check_counts.proofs.derivations.in_declarator.Goals as goal

pub returns-then-is_deep : goal.returns-then-is_deep
returns-then-is_deep c =
    let known = known_of c.args.known.now in
    walked_first known (derived_from c.args.base (declarator_of c.args.d.now)) [] known c.in_ok-x.x c.in_ok-x.ensures (ltb-true 250 c.in_ok-x.x.count (sym c.is_deep.ensures ∙ c.if-is_deep.true))

pub returns : goal.returns
returns c = walked_one (known_of c.args.known.now) (derived_from c.args.base (declarator_of c.args.d.now)) _ c.in_ok-x.x c.in_ok-x.ensures (ltb-false 250 c.in_ok-x.x.count (sym c.is_deep.ensures ∙ c.if-is_deep.false)) c.in_ok-remember.ensures
