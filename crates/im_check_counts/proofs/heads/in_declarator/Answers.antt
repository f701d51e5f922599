use Rattle.std.proofs.Common.{◌≡◌, [], ◌∷◌, ◌++◌, Bool, if◌then◌else◌, OnOk, sym, ap, subst, ◌∙◌, append-nil}
use Rattle.im_ctree.specs.Shape.{declarator_of}
use Rattle.im_rules_limits.specs.Limits.{head_in, head_by, heads_of}
use Rattle.im_check_counts.specs.Heads.{heads_in}
use Rattle.im_check_counts.proofs.heads.in_declarator.Goals as goal

pub returns-then-not-are_parameters : goal.returns-then-not-are_parameters
returns-then-not-are_parameters c =
    let d = declarator_of c.args.d.now in
    let old = heads_in c.args.found.now.items in
    let heads : heads_of d ≡ [] =
    ap (λ n. head_by n d) (sym c.nearest.ensures) ∙ c.are_parameters.ensures d ∙ ap (λ (b : Bool). if b then head_in d ∷ [] else []) c.if-not-are_parameters.true in
    sym (ap (λ hs. old ++ hs) heads ∙ append-nil old)

pub returns : goal.returns
returns c =
    let d = declarator_of c.args.d.now in
    let old = heads_in c.args.found.now.items in
    let heads : heads_of d ≡ head_in d ∷ [] =
    ap (λ n. head_by n d) (sym c.nearest.ensures) ∙ c.are_parameters.ensures d ∙ ap (λ (b : Bool). if b then head_in d ∷ [] else []) c.if-not-are_parameters.false in
    subst (λ hs. OnOk c.remember.result (heads_in c.remember.new.found.items ≡ old ++ hs)) (sym heads) c.remember.ensures
