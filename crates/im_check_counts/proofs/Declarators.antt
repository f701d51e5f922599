-- Functions where they are declared, one behind the other.
use Rattle.std.proofs.Common.{◌≡◌, ℕ, List, [], ◌∷◌, ◌++◌, refl, ap, ◌∙◌}
use Rattle.im_ctree.specs.Tree as t
use Rattle.im_ctree.specs.Shape.{declarator_of}
use Rattle.im_ctree.specs.declared.declarator.Declarator as dc
use Rattle.im_check_outline.specs.im_rules.BodyBreaks.{declarator_token}
use Rattle.im_check_outline.specs.im_rules.Outline.{name_of}
use Rattle.im_rules_limits.specs.Limits.{Head, head_in}
use Rattle.im_check_counts.specs.declared.heads.Head as rust
use Rattle.im_check_counts.specs.Heads.{head_of, heads_in}

pub token_of : (d : dc.Declarator) → (dc.out-Declarator d).at ≡ declarator_token (declarator_of d)
unfolding dc.out-Declarator denote.Hole.Carrier.out
token_of (dc.Declarator' at stars core m ss) = refl

abbrev of_parts : ℕ → List ℕ → Head
of_parts token name = record { token = token; name = name }

pub from_parts : (d : t.Declarator) (token : ℕ) (name : List ℕ) → token ≡ declarator_token d → name ≡ name_of d → of_parts token name ≡ head_in d
from_parts d token name is_token is_name = λ i. record { token = is_token i; name = is_name i }

heads_append : (xs ys : List rust.Head) → heads_in (xs ++ ys) ≡ heads_in xs ++ heads_in ys
heads_append [] ys = refl
heads_append (x ∷ xs) ys = ap (λ z. head_of x ∷ z) (heads_append xs ys)

-- one that is pushed
pub pushed : (old new : List rust.Head) (x : rust.Head) (h : Head) → new ≡ old ++ x ∷ [] → head_of x ≡ h → heads_in new ≡ heads_in old ++ h ∷ []
pushed old new x h is same = ap heads_in is ∙ heads_append old (x ∷ []) ∙ ap (λ z. heads_in old ++ z ∷ []) same
