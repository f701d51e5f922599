-- Words that no expression derives.
use Rattle.std.proofs.Common.{◌≡◌, ℕ, suc, ◌+◌, ◌<◌, List, [], ◌∷◌, ◌++◌, length, sym, ap, refl, ◌∙◌, arith, append_assoc}
use Rattle.std.proofs.lemmas.List.{append-nil}
use Rattle.std.specs.List.{Contains}
use Rattle.im_tok.specs.declared.punctuator.Punctuator.TheVariants.{Assign, Question, Colon}
use Rattle.im_word.specs.Words.{Name, Word, name, mark}
use Rattle.im_ctree.specs.Tree as tree
use Rattle.im_ctree.specs.Grammar as grammar
use Rattle.im_ctree.specs.Samples.{assignment_words}
use Rattle.im_ctree.specs.Follow.{Starting, StartsExpression, at_name, head_rank}
use Rattle.im_ctree.proofs.Derivations.{binary_of, expression_of, name_of}
use Rattle.im_ctree.proofs.Ranks.{assign_operator_rank, rest_same, behind, blocked, starting_append, meets, conditional_starts, assign_starts, expression_starts}
use Rattle.im_ctree.proofs.Behind.{comma_ends}
use Rattle.im_ctree.proofs.Unique.{unique_expression, unique_conditional, unique_binary, unique_cast}

-- the name that an expression begins with is no typedef name
free_name : {T : List Name} {n : Name} → StartsExpression T (name n) → Contains T n → ⊥
free_name (at_name free) = free

first_free : {T : List Name} {n : Name} {v : List Word} (w r : List Word) → Starting (StartsExpression T) w → w ++ r ≡ name n ∷ v → Contains T n → ⊥
first_free w r s eq = free_name (meets (w ++ r) (starting_append w r s) eq)

-- b ? c : d before = e is no conditional expression that ends before a comma
choice_refused : {T : List Name} (b c d e : Name) {p : ℕ} {t : tree.Expression} {w : List Word} → grammar.IsConditional T p t w → (r : List Word) → head_rank r < 2 → w ++ r ≡ name b ∷ mark Question ∷ name c ∷ mark Colon ∷ name d ∷ mark Assign ∷ name e ∷ [] → ⊥
choice_refused b c d e (grammar.operates {p = p} {u = w} x) r ends eq =
    let z = mark Question ∷ name c ∷ mark Colon ∷ name d ∷ mark Assign ∷ name e ∷ [] in
    let free = first_free w r (conditional_starts (grammar.operates x)) eq in
    let one = unique_binary x (binary_of (name_of {p = p} free)) refl refl r z (omega (arith, ends)) (omega arith) eq in
    blocked 2 ends (behind w r (name b ∷ []) z one.1 eq) (omega arith)
choice_refused b c d e (grammar.a_choice {p = p} {u = u} {v = v} {w = w} x y z) r ends eq =
    let s = mark Question ∷ (v ++ (mark Colon ∷ w)) in
    let s2 = mark Colon ∷ name d ∷ mark Assign ∷ name e ∷ [] in
    let s1 = mark Question ∷ name c ∷ s2 in
    let eq1 : u ++ (s ++ r) ≡ (name b ∷ []) ++ s1 = sym (append_assoc u s r) ∙ eq in
    let free = first_free u (s ++ r) (conditional_starts (grammar.operates x)) eq1 in
    let one = unique_binary x (binary_of (name_of {p = p} free)) refl refl (s ++ r) s1 (omega arith) (omega arith) eq1 in
    let eq2 : v ++ (mark Colon ∷ (w ++ r)) ≡ (name c ∷ []) ++ s2 = sym (append_assoc v (mark Colon ∷ w) r) ∙ rest_same (behind u (s ++ r) (name b ∷ []) s1 one.1 eq1) in
    let free2 = first_free v (mark Colon ∷ (w ++ r)) (expression_starts y) eq2 in
    let two = unique_expression y (expression_of (name_of {p = suc (p + length u)} free2)) refl (mark Colon ∷ (w ++ r)) s2 (omega arith) (omega arith) eq2 in
    let eq3 : w ++ r ≡ name d ∷ mark Assign ∷ name e ∷ [] = rest_same (behind v (mark Colon ∷ (w ++ r)) (name c ∷ []) s2 two.1 eq2) in
    let free3 = first_free w r (conditional_starts z) eq3 in
    let three = unique_conditional z (grammar.operates (binary_of (name_of {p = suc (suc (p + length u) + length v)} free3))) refl r (mark Assign ∷ name e ∷ []) (omega (arith, ends)) (omega arith) eq3 in
    blocked 2 ends (behind w r (name d ∷ []) (mark Assign ∷ name e ∷ []) three.1 eq3) (omega arith)

-- b ? c : d = e is no assignment
right_refused : {T : List Name} (b c d e : Name) {p : ℕ} {t : tree.Expression} {w : List Word} → grammar.IsAssignment T p t w → (r : List Word) → head_rank r < 2 → w ++ r ≡ name b ∷ mark Question ∷ name c ∷ mark Colon ∷ name d ∷ mark Assign ∷ name e ∷ [] → ⊥
right_refused b c d e (grammar.chooses x) r ends eq = choice_refused b c d e x r ends eq
right_refused b c d e (grammar.assigned {p = p} {m = m} {u = u} {v = v} x is y) r ends eq =
    let z = mark Question ∷ name c ∷ mark Colon ∷ name d ∷ mark Assign ∷ name e ∷ [] in
    let eq1 : u ++ (mark m ∷ (v ++ r)) ≡ (name b ∷ []) ++ z = sym (append_assoc u (mark m ∷ v) r) ∙ eq in
    let free = first_free (u ++ (mark m ∷ v)) r (assign_starts (grammar.assigned x is y)) eq in
    let one = unique_cast (grammar.uncast x) (name_of {p = p} free) refl (mark m ∷ (v ++ r)) z (omega (arith, assign_operator_rank is)) (omega arith) eq1 in
    omega (arith, assign_operator_rank is, ap head_rank (behind u (mark m ∷ (v ++ r)) (name b ∷ []) z one.1 eq1))

assign_refused : {T : List Name} (a b c d e : Name) {p : ℕ} {t : tree.Expression} {w : List Word} → grammar.IsAssignment T p t w → (r : List Word) → head_rank r < 2 → w ++ r ≡ assignment_words a b c d e → ⊥
assign_refused a b c d e (grammar.chooses {p = p} {u = w} x) r ends eq =
    let z = mark Assign ∷ name b ∷ mark Question ∷ name c ∷ mark Colon ∷ name d ∷ mark Assign ∷ name e ∷ [] in
    let free = first_free w r (conditional_starts x) eq in
    let one = unique_conditional x (grammar.operates (binary_of (name_of {p = p} free))) refl r z (omega (arith, ends)) (omega arith) eq in
    blocked 2 ends (behind w r (name a ∷ []) z one.1 eq) (omega arith)
assign_refused a b c d e (grammar.assigned {p = p} {m = m} {u = u} {v = v} x is y) r ends eq =
    let z = mark Assign ∷ name b ∷ mark Question ∷ name c ∷ mark Colon ∷ name d ∷ mark Assign ∷ name e ∷ [] in
    let eq1 : u ++ (mark m ∷ (v ++ r)) ≡ (name a ∷ []) ++ z = sym (append_assoc u (mark m ∷ v) r) ∙ eq in
    let free = first_free (u ++ (mark m ∷ v)) r (assign_starts (grammar.assigned x is y)) eq in
    let one = unique_cast (grammar.uncast x) (name_of {p = p} free) refl (mark m ∷ (v ++ r)) z (omega (arith, assign_operator_rank is)) (omega arith) eq1 in
    right_refused b c d e y r ends (rest_same (behind u (mark m ∷ (v ++ r)) (name a ∷ []) z one.1 eq1))

expression_refused : {T : List Name} (a b c d e : Name) {p : ℕ} {t : tree.Expression} {w : List Word} → grammar.IsExpression T p t w → w ≡ assignment_words a b c d e → ⊥
expression_refused a b c d e (grammar.assigns {u = u} {v = v} x rest) eq =
    assign_refused a b c d e x (v ++ []) (comma_ends rest [] (omega arith)) (sym (append_assoc u v []) ∙ append-nil (u ++ v) ∙ eq)

pub assignment_refused : (T : List Name) (a b c d e : Name) (p : ℕ) (t : tree.Expression) → grammar.IsExpression T p t (assignment_words a b c d e) → ⊥
assignment_refused T a b c d e p t x = expression_refused a b c d e x refl
