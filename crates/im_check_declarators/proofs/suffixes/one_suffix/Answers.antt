use Rattle.std.proofs.Common.{List, sym, ap, ◌∙◌}
use Rattle.im_ctree.specs.declared.declarator.Parameter.{Parameter}
use Rattle.im_ctree.specs.declared.declarator.SuffixKind as xk
use Rattle.im_ctree.specs.Tree as t
use Rattle.im_ctree_parts.specs.Lists.{parameters_from, with_suffix}
use Rattle.im_ctree_parts.proofs.Shapes.{function_suffix}
use Rattle.im_check_declarators.proofs.Steps.{array_tree, given_length, given_parameters}
use Rattle.im_check_declarators.proofs.suffixes.one_suffix.Goals as goal

pub array_suffix-requires : goal.array_suffix-requires
array_suffix-requires c = given_length c.in-Array.written c.args.given.now (rw c.in-Array.is at c.requires)

pub function_suffix-requires : goal.function_suffix-requires
function_suffix-requires c = given_parameters c.in-Function.parameters c.args.given.now (rw c.in-Function.is at c.requires)

pub returns-in-Array : goal.returns-in-Array
returns-in-Array c = λ k base rest others.
    let a = c.args.suffix.now.at in
    let e = ap (λ (kind : xk.SuffixKind). with_suffix a kind rest) c.in-Array.is ∙ array_tree a c.in-Array.written rest in
    rw e (c.array_suffix.ensures k base rest others)

pub returns-in-Function : goal.returns-in-Function
returns-in-Function c = λ k base rest others.
    let a = c.args.suffix.now.at in
    let e = ap (λ (kind : xk.SuffixKind). with_suffix a kind rest) c.in-Function.is ∙ function_suffix a c.in-Function.parameters rest in
    let same = ap (λ (ps : List Parameter). t.function_suffix a (parameters_from ps) rest) c.deref.ensures.value in
    rw (e ∙ sym same) (c.function_suffix.ensures k base rest others)
