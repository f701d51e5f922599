-- The sizes in a function definition.
use Rattle.std.proofs.Common.{◌≤◌, ℕ, List, sym, subst}
use Rattle.im_ctree.specs.Tree as t
use Rattle.im_rules.specs.BodyBreaks.{some_items}
use Rattle.im_rules.specs.Breaks.{a_declarator}
use Rattle.im_rules.specs.Context.{in_new_scope}
use Rattle.im_rules.specs.Declared.{Qualified, Declared, parameters_of}
use Rattle.im_rules.specs.FileScope.{FilePlace, of_the_file, own_parameters}
use Rattle.im_rules.specs.Outline.{nearest}
use Rattle.im_rules.specs.Typed.{Declares, AreParameters}
use Rattle.im_rules.specs.TypedUnit.{Specify, body_site, past_head}
use Rattle.im_rules.specs.TypeTests.{result_of}
use Rattle.im_rules.specs.UnitBreaks.{an_external, file_specifiers, function_specifiers, function_declarator}
use Rattle.im_rules.proofs.Once.{declares_once, parameters_once}
use Rattle.im_rules.proofs.UnitOnce.{specify_once}
use Rattle.im_check_statements.specs.im_rules_limits.Limits.{size_limit, Sized, BodySized, FileSized, size_in_file_part, size_in_file_inner, size_in_body, IsWithin, IsBodyWithin, IsFileWithin}

-- the sizes of its parts are within the limit, and so are its own
pub definition_within : {f g : FilePlace} {xs : t.SpecifierList} {q : Qualified} {e : t.Declarator} {y : Declared} {ds : List Declared} {at at' : ℕ} {is : t.BlockItems}
    → Specify of_the_file f xs q g
    → Declares g.context q e y
    → AreParameters (in_new_scope g.context) 0 (own_parameters (nearest e)) ds
    → IsFileWithin f (file_specifiers of_the_file (t.specifiers at xs))
    → IsWithin g.context (a_declarator q e)
    → IsBodyWithin (body_site (past_head xs e y g) (result_of y.type) (own_parameters (nearest e)) (parameters_of (own_parameters (nearest e)) ds)) (some_items is)
    → (k : ℕ) → FileSized f (an_external (t.function_definition (t.specifiers at xs) e (t.block at' is))) k → k ≤ size_limit
definition_within s d p specifiers declarator body k (size_in_file_part function_specifiers r) = specifiers k r
definition_within {g = g} {e = e} s d p specifiers declarator body k (size_in_file_inner (function_declarator {g = h} {q = q'} s') r) =
    let o = specify_once s s' in
    declarator k (subst (λ (z : Qualified). Sized g.context (a_declarator z e) k) (sym o.0) (subst (λ (j : FilePlace). Sized j.context (a_declarator q' e) k) (sym o.1) r))
definition_within {g = g} {xs = xs} {e = e} {y = y} {ds = ds} {is = is} s d p specifiers declarator body k (size_in_body {g = h} {q = q'} {y = y'} {ps = ds'} s' d' p' r) =
    let own = own_parameters (nearest e) in
    let o = specify_once s s' in
    let d₁ = subst (λ (j : FilePlace). Declares j.context q' e y') (sym o.1) d' in
    let u = declares_once d (subst (λ (z : Qualified). Declares g.context z e y') (sym o.0) d₁) in
    let v = parameters_once p (subst (λ (j : FilePlace). AreParameters (in_new_scope j.context) 0 own ds') (sym o.1) p') in
    let at_site = λ (j : FilePlace) (z : Declared) (zs : List Declared). BodySized (body_site (past_head xs e z j) (result_of z.type) own (parameters_of own zs)) (some_items is) k in
    let r₁ = subst (λ (j : FilePlace). at_site j y' ds') (sym o.1) r in
    let r₂ = subst (λ (z : Declared). at_site g z ds') (sym u) r₁ in
    body k (subst (λ (zs : List Declared). at_site g y zs) (sym v) r₂)
