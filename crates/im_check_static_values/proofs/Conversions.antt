-- Conversions round an expression: one more, and one less.
use Rattle.std.proofs.Common.{◌≡◌, List, [], ◌∷◌, ◌++◌, refl, ap, ◌∙◌}
use Rattle.im_num.specs.declared.kind.Kind.{Kind}
use Rattle.im_typed.specs.Program.{Expr, Convert}
use Rattle.im_check_static_values.specs.Chains.{converted}

pub converted_more : (ks : List Kind) (k : Kind) (e : Expr) → converted (ks ++ k ∷ []) e ≡ converted ks (Convert k e)
converted_more [] k e = refl
converted_more (j ∷ ks) k e = ap (Convert j) (converted_more ks k e)

pub one_more : (ks now : List Kind) (k : Kind) (e : Expr) → now ≡ ks ++ k ∷ [] → converted now e ≡ converted ks (Convert k e)
one_more ks now k e is = ap (λ xs. converted xs e) is ∙ converted_more ks k e
