-- Initialisers one by one, and the expression that stands alone among them.
use Rattle.std.proofs.Common.{◌≡◌, ℕ, true, false, List, [], ◌∷◌, length, map, get_or, nat_le, Bor, Option, Some, None, MatchOption, refl, sym, ap, ◌∙◌, subst, arith}
use Rattle.std.proofs.lemmas.List.{length-map}
use Rattle.im_ctree.specs.declared.declaration.Initializer as ini
use Rattle.im_ctree.specs.declared.expression.Expression.{Expression}
use Rattle.im_ctree.specs.Tree as t
use Rattle.im_ctree.specs.Shape.{initializer_of}
use Rattle.im_ctype.specs.declared.member.Member as rust
use Rattle.im_ctype.specs.Table.{Table, member_in, members_at, structs_of, types_of}
use Rattle.im_ctype.specs.Types.{struct, Member, members_of}
use Rattle.im_ctype.proofs.Steps.{plain-members}
use Rattle.im_check_stop.specs.im_rules.Initialisers.{one, misshapen, one_shape}
use Rattle.im_check_stop.specs.im_rules.Rules.{initializer_count, is_one_expression, rule_16}
use Rattle.im_ctree_parts.specs.Lists.{expression_in, initializers_from}
use Rattle.im_check_shapes.specs.Parts.{only_expression, expression_alone}

-- several initialisers, or none, aren't one expression
pub not_single : (xs : List ini.Initializer) → (length xs ≡ 1 → ⊥) → only_expression (initializers_from xs) ≡ None
not_single [] h = refl
not_single (x ∷ []) h = absurd (h refl)
not_single (ini.Value e ∷ y ∷ zs) h = refl
not_single (ini.List' k n row ∷ y ∷ zs) h = refl

pub only_item : (xs : List ini.Initializer) (x : ini.Initializer) → length xs ≡ 1 → x ≡ get_or xs 0 x → xs ≡ x ∷ []
only_item [] x h e = absurd (omega arith)
only_item (y ∷ []) x h e = ap (λ z. z ∷ []) (sym e)
only_item (y ∷ z ∷ zs) x h e = absurd (omega arith)

-- the expression of a single initialiser
pub only_made : (xs : List ini.Initializer) (x : ini.Initializer) (result : Option (Bor Expression))
    → xs ≡ x ∷ []
    → MatchOption result (only_expression (initializers_from (x ∷ [])) ≡ None) (λ e. initializer_of x ≡ t.value_initializer (expression_in e.now))
    → MatchOption result (only_expression (initializers_from xs) ≡ None) (λ e. only_expression (initializers_from xs) ≡ Some (expression_in e.now))
only_made xs x None e h = ap (λ z. only_expression (initializers_from z)) e ∙ h
only_made xs x (Some y) e h =
    ap (λ z. only_expression (initializers_from z)) e ∙ ap (λ z. only_expression (t.more_initializers z t.no_initializers)) h

pub count : (xs : List ini.Initializer) → initializer_count (initializers_from xs) ≡ length xs
count [] = refl
count (x ∷ xs) = cc (count xs)

-- what the expression that stands alone tells
pub record NoExpression (i : t.Initializer) : Type 0 where
  pub told : is_one_expression i ≡ false
  pub form : one_shape i ≡ misshapen

pub record IsExpression (i : t.Initializer) (e : t.Expression) : Type 0 where
  pub told : is_one_expression i ≡ true
  pub form : one_shape i ≡ one e

abbrev ExpressionFacts : t.Initializer → Option t.Expression → Type 0
ExpressionFacts i None = NoExpression i
ExpressionFacts i (Some e) = IsExpression i e

expression_facts : (i : t.Initializer) → ExpressionFacts i (expression_alone i)
expression_facts (t.value_initializer e) = record { told = refl; form = refl }
expression_facts (t.braced_initializer at (t.more_initializers (t.value_initializer e) t.no_initializers)) = record { told = refl; form = refl }
expression_facts _ = record { told = refl; form = refl }

pub no_expression : (i : t.Initializer) → expression_alone i ≡ None → NoExpression i
no_expression i h = subst (λ z. ExpressionFacts i z) h (expression_facts i)

pub is_expression : (i : t.Initializer) (e : t.Expression) → expression_alone i ≡ Some e → IsExpression i e
is_expression i e h = subst (λ z. ExpressionFacts i z) h (expression_facts i)

-- a list in braces for a struct
pub struct_list : (types : Table) (n : ℕ) (ms : List rust.Member) (at : ℕ) (is : t.Initializers) → ms ≡ members_at types n
    → nat_le (initializer_count is) (length ms) ≡ rule_16 (structs_of types) (struct n) (t.braced_initializer at is)
struct_list types n ms at is e =
    let l = length-map {A = rust.Member} (members_at types n) (member_in (types_of types)) in
    let same : length ms ≡ length (members_of (structs_of types) n) =
    ap (λ (xs : List rust.Member). length xs) e ∙ sym l ∙ ap (λ (xs : List Member). length xs) (sym (plain-members types n)) in
    ap (λ k. nat_le (initializer_count is) k) same
