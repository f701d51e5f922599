use Rattle.std.proofs.Common.{◌+◌, Some, None, List, [], ◌∷◌, drop, sym, subst}
use Rattle.std.proofs.lemmas.List.{drop_all}
use Rattle.im_ctree.specs.Shape.{declarator_of, init_declarators_of}
use Rattle.im_ctree.specs.declared.declaration.InitDeclarator.{InitDeclarator}
use Rattle.im_check_counts.specs.Derivations.{derived_from, derived_in, known_of, IsWalked}
use Rattle.im_check_counts.proofs.Rest.{next}
use Rattle.im_check_counts.proofs.Derived.{walked_none, walked_front, walked_next}
use Rattle.im_check_counts.proofs.derivations.in_declarators.Goals as goal

pub returns-in-Some : goal.returns-in-Some
returns-in-Some c =
    let ds = c.args.declarators.now in
    let i = c.loop-d.d-index in
    let d = c.d-item.result in
    let base = c.args.base in
    let known = known_of c.loop-d.known in
    let at = next ds i d c.loop-d-test.true c.d-item.is in
    let new = known_of c.in_declarator.new.known in
    c.loop-d.invariant new (Some c.in-Some.x) (subst (λ (z : List InitDeclarator). IsWalked known (derived_in base (init_declarators_of z)) new (Some c.in-Some.x)) (sym at)
    (walked_front known (derived_from base (declarator_of d.declarator) ∷ []) (derived_in base (init_declarators_of (drop (i + 1) ds))) new new c.in-Some.x (rw c.in-Some.is at c.in_ok-x.ensures)))

pub loop-d-preserved : goal.loop-d-preserved
loop-d-preserved c = λ new found h.
    let ds = c.args.declarators.now in
    let i = c.loop-d.d-index in
    let d = c.d-item.result in
    let base = c.args.base in
    let known = known_of c.loop-d.known in
    let at = next ds i d c.loop-d-test.true c.d-item.is in
    c.loop-d.invariant new found (subst (λ (z : List InitDeclarator). IsWalked known (derived_in base (init_declarators_of z)) new found) (sym at)
    (walked_next known (derived_from base (declarator_of d.declarator) ∷ []) (derived_in base (init_declarators_of (drop (i + 1) ds))) (known_of c.in_declarator.new.known) new found (rw c.in-None.is at c.in_ok-x.ensures) h))

pub returns : goal.returns
returns c =
    let ds = c.args.declarators.now in
    let known = known_of c.loop-d.known in
    c.loop-d.invariant known None (subst (λ (z : List InitDeclarator). IsWalked known (derived_in c.args.base (init_declarators_of z)) known None) (sym (drop_all c.loop-d.d-index ds c.loop-d-test.false)) (walked_none known))
