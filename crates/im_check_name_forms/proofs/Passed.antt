-- Arguments by their number, and what one more of them adds.
use Rattle.std.proofs.Common.{◌≡◌, ℕ, ◌+◌, ◌<◌, List, [], ◌∷◌, ◌++◌, length, take, drop, get_or, nat_eq, Bool, ◌&&◌, refl, ap, sym, ◌∙◌, arith}
use Rattle.std.proofs.lemmas.List.{take_more, drop_more, length-take-le}
use Rattle.im_ctype.specs.Table.{Table, structs_of}
use Rattle.im_typed.specs.Program as p
use Rattle.im_typed.specs.ProgramOf.{expr_of}
use Rattle.im_typed.specs.declared.expression.Expr as re
use Rattle.im_check_conversions.specs.im_rules.Conversions as c
use Rattle.im_check_conversions.specs.im_rules.Demands as d
use Rattle.im_check_conversions.specs.im_rules.Rules.{rule_17}
use Rattle.im_check_conversions.specs.im_rules.Terms as r
use Rattle.im_check_conversions.specs.im_rules.TypeTests.{count_types}
use Rattle.im_types.specs.declared.tree.Type as rt
use Rattle.im_types.specs.Shape.{type_of, types_in}
use Rattle.im_check_operands.specs.declared.term.Term.{Term}
use Rattle.im_check_operands.specs.Shape.{term_in}
use Rattle.im_check_name_forms.specs.Lists.{exprs_from, terms_in}

pub counted : (ts : List rt.Type) → count_types (types_in ts) ≡ length ts
counted [] = refl
counted (t ∷ ts) = omega (arith, counted ts)

-- the items from the i-th on
others_from : {X : Type 0} (xs : List X) (i : ℕ) (x : X) → i < length xs → x ≡ get_or xs i x → drop i xs ≡ x ∷ drop (i + 1) xs
others_from xs i x within is = drop_more xs i x within ∙ ap (λ y. y ∷ drop (i + 1) xs) (sym is)

-- whether the arguments from the i-th on fit: this one does, and those behind it
pub one_fits : (types : Table) (ps : List rt.Type) (xs : List Term) (i : ℕ) (p : rt.Type) (x : Term) (this : Bool)
    → i < length ps → i < length xs → p ≡ get_or ps i p → x ≡ get_or xs i x
    → this ≡ rule_17 (type_of p) (r.operand_of (term_in types x))
    → d.all_fit (types_in (drop i ps)) (terms_in types (drop i xs)) ≡ (this && d.all_fit (types_in (drop (i + 1) ps)) (terms_in types (drop (i + 1) xs)))
one_fits types ps xs i p x this in_types in_terms p_is x_is e =
    let es = others_from ps i p in_types p_is in
    let fs = others_from xs i x in_terms x_is in
    (λ j. d.all_fit (types_in (es j)) (terms_in types (fs j)))
    ∙ ap (λ b. b && d.all_fit (types_in (drop (i + 1) ps)) (terms_in types (drop (i + 1) xs))) (sym e)

pub nat_eq_of : {a b x y : ℕ} → a ≡ x → b ≡ y → nat_eq a b ≡ nat_eq x y
nat_eq_of p q = cc

abbrev behind : p.Exprs → p.Expr → p.Exprs
behind p.no_exprs e = p.more_exprs e p.no_exprs
behind (p.more_exprs x xs) e = p.more_exprs x (behind xs e)

exprs-push : (types : Table) (es : List re.Expr) (e : re.Expr) → exprs_from types (es ++ e ∷ []) ≡ behind (exprs_from types es) (expr_of types e)
exprs-push types [] e = refl
exprs-push types (x ∷ xs) e = ap (λ z. p.more_exprs (expr_of types x) z) (exprs-push types xs e)

converted-push : (types : Table) (ts : List rt.Type) (xs : List Term) (ty : rt.Type) (x : Term) → length ts ≡ length xs
    → c.converted (structs_of types) (types_in (ts ++ ty ∷ [])) (terms_in types (xs ++ x ∷ [])) ≡ behind (c.converted (structs_of types) (types_in ts) (terms_in types xs)) (c.as_type (type_of ty) (r.value_of (structs_of types) (term_in types x)))
converted-push types [] [] ty x e = refl
converted-push types [] (y ∷ ys) ty x e = absurd (omega arith)
converted-push types (t ∷ ts) [] ty x e = absurd (omega arith)
converted-push types (t ∷ ts) (y ∷ ys) ty x e =
    let same : length ts ≡ length ys = omega arith in
    ap (λ z. p.more_exprs (c.as_type (type_of t) (r.value_of (structs_of types) (term_in types y))) z) (converted-push types ts ys ty x same)

-- one argument more is converted
pub one_more : (types : Table) (ps : List rt.Type) (i : ℕ) (xs : List Term) (ty : rt.Type) (x : Term) (es : List re.Expr) (e : re.Expr)
    → i ≡ length xs → i < length ps → ty ≡ get_or ps i ty
    → exprs_from types es ≡ c.converted (structs_of types) (types_in (take i ps)) (terms_in types xs)
    → expr_of types e ≡ c.as_type (type_of ty) (r.value_of (structs_of types) (term_in types x))
    → exprs_from types (es ++ e ∷ []) ≡ c.converted (structs_of types) (types_in (take (i + 1) ps)) (terms_in types (xs ++ x ∷ []))
one_more types ps i xs ty x es e n below is so_far this =
    let t : take (i + 1) ps ≡ take i ps ++ ty ∷ [] = take_more ps i ty below ∙ ap (λ z. take i ps ++ z ∷ []) (sym is) in
    let l : length (take i ps) ≡ length xs = length-take-le i ps (omega arith) ∙ n in
    exprs-push types es e ∙ cc (so_far, this) ∙ sym (converted-push types (take i ps) xs ty x l) ∙ ap (λ z. c.converted (structs_of types) (types_in z) (terms_in types (xs ++ x ∷ []))) (sym t)
