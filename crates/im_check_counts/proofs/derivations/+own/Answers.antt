use Rattle.std.proofs.Common.{◌≡◌, ◌+◌, IfOk, ap, sym, ◌∙◌, subst}
use Rattle.im_ctree.specs.Shape.{core_of}
use Rattle.im_ctree.specs.declared.declarator.Declarator.{out-Declarator}
use Rattle.im_check_counts.specs.Derivations.{inner_derivations}
use Rattle.im_check_counts.proofs.Derived.{own_shape}
use Rattle.im_check_counts.proofs.derivations.+own.Goals as goal

pub own-returns : goal.own-returns
own-returns t c =
    let d = c.args.d.now in
    let outside = rw (c.deref.ensures.value, c.deref-2.ensures.value) at c.in_ok-outside.ensures in
    let sum = ap (λ n. n + c.in_ok-outside.outside) c.in_ok-within.ensures
    ∙ ap (λ n. inner_derivations (core_of (out-Declarator d).core) + n) outside
    ∙ sym (own_shape d) in
    subst (λ z. IfOk c.sum.result (λ n. n ≡ z)) sum c.sum.ensures
