-- Words have at most one derivation of each nonterminal, and it ends at one place, where what stands behind doesn't
-- go on with it.
use Rattle.std.proofs.Common.{◌≡◌, ℕ, ◌+◌, ◌<◌, Bool, true, false, List, [], ◌∷◌, ◌++◌, sym, subst, ap, refl, ◌∙◌, arith, append_assoc}
use Rattle.im_tok.specs.declared.keyword.Keyword.{Keyword}
use Rattle.im_tok.specs.declared.punctuator.Punctuator.TheVariants.{Star, OpenParen, CloseParen, CloseBracket, CloseBrace, Question, Colon, Semicolon}
use Rattle.im_word.specs.Words.{Name, Word, name, keyword, mark}
use Rattle.im_ctree.specs.Tree as tree
use Rattle.im_ctree.specs.Typedefs.{adds_type, has_type, has_type_from}
use Rattle.im_ctree.specs.Grammar as grammar
use Rattle.im_ctree.specs.Grammar.{no_star}
use Rattle.im_ctree.specs.Follow.{Closes, Separated, SpecifierEnds, close_brace, close_bracket, close_declaration, close_paren, closes, head_brace, head_rank}
use Rattle.im_ctree.proofs.Derivations.{binary_of}
use Rattle.im_ctree.proofs.Ranks.{operator_rank, operator_same, assign_operator_rank, assign_operator_same, step_same, prefix_same, specifier_same, rest_same, mark_same, behind, part, blocked, primary_clash, unary_clash, unary_second, paren_type, closes_rank, separated_rank, not_expression, not_specifier, not_closing, conditional_starts, assign_starts, parameter_starts, members_starts}
use Rattle.im_ctree.proofs.Behind.{comma_ends, binary_ends, postfix_ends, postfix_clash, argument_ends, declarator_tail_ends, enumerator_tail_ends, parameter_tail_ends, unique_text, unique_stars, Untyped, conditional_leads, specifier_clash, tail_brace, specifier_line_same, declarator_starts, declarator_follows, maybe_abstract_follows, suffixes_star, suffix_clash, abstract_begins, suffixes_unnamed, parameters_open, suffixes_starless, separated_undeclared}

keyword_same : {k k' : Keyword} {v v' : List Word} → keyword k ∷ v ≡ keyword k' ∷ v' → k ≡ k'
keyword_same same = cc

name_same : {n n' : Name} {v v' : List Word} → name n ∷ v ≡ name n' ∷ v' → n ≡ n'
name_same same = cc

-- in a parameter no declarator is an abstract one too
declarator_not_abstract : {T : List Name} {g : Bool} {p p' : ℕ} {d d' : tree.Declarator} {w w' : List Word} → grammar.IsDeclarator T g p d w → g ≡ true → grammar.IsAbstract T p' d' w' → (r r' : List Word) → Separated r' → w ++ r ≡ w' ++ r' → ⊥
declarator_not_abstract (grammar.a_name n {u = u} {v = v} ns ts) guarded (grammar.with_stars {u = u'} {v = v'} ns' ts') r r' e eq =
    let one = part u (name n ∷ v) r u' v' r' (unique_stars ns ns' (name n ∷ (v ++ r)) (v' ++ r') (omega arith) (suffixes_star ts' r' e)) eq in
    suffixes_unnamed ts' r' e n (v ++ r) one.2
declarator_not_abstract (grammar.a_name n {u = u} {v = v} ns ts) guarded (grammar.with_suffixes {x = x} {v = v'} ts') r r' e eq =
    let one = part u (name n ∷ v) r [] (x ∷ v') r' (unique_stars ns no_star (name n ∷ (v ++ r)) ((x ∷ v') ++ r') (omega arith) (suffixes_star ts' r' e)) eq in
    suffixes_unnamed ts' r' e n (v ++ r) one.2
declarator_not_abstract (grammar.a_name n {u = u} {v = v} ns ts) guarded (grammar.with_inner {u = u'} {v = v'} {w = w'} ns' d' ts') r r' e eq =
    let one = part u (name n ∷ v) r u' (mark OpenParen ∷ ((mark Star ∷ v') ++ (mark CloseParen ∷ w'))) r' (unique_stars ns ns' (name n ∷ (v ++ r)) (mark OpenParen ∷ (((mark Star ∷ v') ++ (mark CloseParen ∷ w')) ++ r')) (omega arith) (omega arith)) eq in
    cc one.2
declarator_not_abstract (grammar.an_inner {u = u} {v = v} {w = w} ns d none ts) guarded (grammar.with_stars {u = u'} {v = v'} ns' ts') r r' e eq =
    let one = part u (mark OpenParen ∷ (v ++ (mark CloseParen ∷ w))) r u' v' r' (unique_stars ns ns' (mark OpenParen ∷ ((v ++ (mark CloseParen ∷ w)) ++ r)) (v' ++ r') (omega arith) (suffixes_star ts' r' e)) eq in
    none guarded (parameters_open ts' r' e v ((mark CloseParen ∷ w) ++ r) (declarator_starts d) (ap (λ z. mark OpenParen ∷ z) (sym (append_assoc v (mark CloseParen ∷ w) r)) ∙ one.2))
declarator_not_abstract (grammar.an_inner {u = u} {v = v} {w = w} ns d none ts) guarded (grammar.with_suffixes {x = x} {v = v'} ts') r r' e eq =
    let one = part u (mark OpenParen ∷ (v ++ (mark CloseParen ∷ w))) r [] (x ∷ v') r' (unique_stars ns no_star (mark OpenParen ∷ ((v ++ (mark CloseParen ∷ w)) ++ r)) ((x ∷ v') ++ r') (omega arith) (suffixes_star ts' r' e)) eq in
    none guarded (parameters_open ts' r' e v ((mark CloseParen ∷ w) ++ r) (declarator_starts d) (ap (λ z. mark OpenParen ∷ z) (sym (append_assoc v (mark CloseParen ∷ w) r)) ∙ one.2))
declarator_not_abstract (grammar.an_inner {u = u} {v = v} {w = w} ns d none ts) guarded (grammar.with_inner {u = u'} {v = v'} {w = w'} ns' d' ts') r r' e eq =
    let one = part u (mark OpenParen ∷ (v ++ (mark CloseParen ∷ w))) r u' (mark OpenParen ∷ ((mark Star ∷ v') ++ (mark CloseParen ∷ w'))) r' (unique_stars ns ns' (mark OpenParen ∷ ((v ++ (mark CloseParen ∷ w)) ++ r)) (mark OpenParen ∷ (((mark Star ∷ v') ++ (mark CloseParen ∷ w')) ++ r')) (omega arith) (omega arith)) eq in
    declarator_not_abstract d guarded d' (mark CloseParen ∷ (w ++ r)) (mark CloseParen ∷ (w' ++ r')) (closes close_paren) (sym (append_assoc v (mark CloseParen ∷ w) r) ∙ rest_same one.2 ∙ append_assoc (mark Star ∷ v') (mark CloseParen ∷ w') r')

-- no declarator begins with what separates
declarator_begins : {T : List Name} {g : Bool} {p : ℕ} {d : tree.Declarator} {w : List Word} → grammar.IsDeclarator T g p d w → (r r' : List Word) → Separated r' → w ++ r ≡ r' → ⊥
declarator_begins d r r' e eq =
    let s = declarator_starts d in
    separated_undeclared e (sym eq ∙ ap (λ z. z ++ r) s.2) s.3

declarator_not_maybe : {T : List Name} {p p' : ℕ} {d : tree.Declarator} {d' : tree.MaybeDeclarator} {w w' : List Word} → grammar.IsDeclarator T true p d w → grammar.IsMaybeAbstract T p' d' w' → (r r' : List Word) → Separated r' → w ++ r ≡ w' ++ r' → ⊥
declarator_not_maybe d grammar.no_abstract r r' e eq = declarator_begins d r r' e eq
declarator_not_maybe d (grammar.an_abstract d') r r' e eq = declarator_not_abstract d refl d' r r' e eq

adds_same : {a a' : Bool} {x x' : tree.Specifier} → a ≡ a' → x ≡ x' → adds_type a x ≡ adds_type a' x'
adds_same {a' = a'} {x = x} sa sx = ap (λ z. adds_type z x) sa ∙ ap (λ z. adds_type a' z) sx

-- the same parentheses round the same declarator
around_same : {p p' : ℕ} {ns ns' : List ℕ} {d d' : tree.Declarator} {ts ts' : tree.Suffixes} → p ≡ p' → ns ≡ ns' → d ≡ d' → ts ≡ ts' → tree.around p ns d ts ≡ tree.around p' ns' d' ts'
around_same {p' = p'} {ns = ns} {ns' = ns'} {d = d} {d' = d'} {ts = ts} sp sn sd st =
    ap (λ z. tree.around z ns d ts) sp ∙ ap (λ z. tree.around p' z d ts) sn ∙ ap (λ z. tree.around p' ns' z ts) sd ∙ ap (λ z. tree.around p' ns' d' z) st

mutual
  pub unique_expression : {T : List Name} {p p' : ℕ} {t t' : tree.Expression} {w w' : List Word} → grammar.IsExpression T p t w → grammar.IsExpression T p' t' w' → p ≡ p' → (r r' : List Word) → head_rank r < 1 → head_rank r' < 1 → w ++ r ≡ w' ++ r' → (t ≡ t') × (w ≡ w')
  unique_expression (grammar.assigns {u = u} {v = v} a rest) (grammar.assigns {u = u'} {v = v'} a' rest') sp r r' e e' eq =
      let one = part u v r u' v' r' (unique_assign a a' sp (v ++ r) (v' ++ r') (comma_ends rest r e) (comma_ends rest' r' e')) eq in
      let two = unique_comma_tail rest rest' sp (cc (sp, one.1)) one.0 r r' e e' one.2 in
      (two.0, cc (one.1, two.1))

  unique_comma_tail : {T : List Name} {s s' p p' : ℕ} {a a' t t' : tree.Expression} {w w' : List Word} → grammar.CommaTail T s p a t w → grammar.CommaTail T s' p' a' t' w' → s ≡ s' → p ≡ p' → a ≡ a' → (r r' : List Word) → head_rank r < 1 → head_rank r' < 1 → w ++ r ≡ w' ++ r' → (t ≡ t') × (w ≡ w')
  unique_comma_tail grammar.no_comma grammar.no_comma ss sp sa r r' e e' eq = (sa, refl)
  unique_comma_tail grammar.no_comma (grammar.a_comma b' rest') ss sp sa r r' e e' eq = absurd (blocked 1 e eq (omega arith))
  unique_comma_tail (grammar.a_comma b rest) grammar.no_comma ss sp sa r r' e e' eq = absurd (blocked 1 e' (sym eq) (omega arith))
  unique_comma_tail (grammar.a_comma {u = u} {v = v} b rest) (grammar.a_comma {u = u'} {v = v'} b' rest') ss sp sa r r' e e' eq =
      let one = part u v r u' v' r' (unique_assign b b' (cc sp) (v ++ r) (v' ++ r') (comma_ends rest r e) (comma_ends rest' r' e')) (rest_same eq) in
      let two = unique_comma_tail rest rest' ss (cc (sp, one.1)) (cc (ss, sa, one.0)) r r' e e' one.2 in
      (two.0, cc (one.1, two.1))

  pub unique_assign : {T : List Name} {p p' : ℕ} {t t' : tree.Expression} {w w' : List Word} → grammar.IsAssignment T p t w → grammar.IsAssignment T p' t' w' → p ≡ p' → (r r' : List Word) → head_rank r < 2 → head_rank r' < 2 → w ++ r ≡ w' ++ r' → (t ≡ t') × (w ≡ w')
  unique_assign (grammar.chooses a) (grammar.chooses a') sp r r' e e' eq = unique_conditional a a' sp r r' (omega (arith, e)) (omega (arith, e')) eq
  unique_assign (grammar.assigned {m = m} {u = u} {v = v} a is b) (grammar.assigned {m = m'} {u = u'} {v = v'} a' is' b') sp r r' e e' eq =
      let one = part u (mark m ∷ v) r u' (mark m' ∷ v') r' (unique_unary a a' sp (mark m ∷ (v ++ r)) (mark m' ∷ (v' ++ r')) (omega (arith, assign_operator_rank is)) (omega (arith, assign_operator_rank is'))) eq in
      let sm = mark_same one.2 in
      let so = assign_operator_same is is' sm in
      let two = unique_assign b b' (cc (sp, one.1)) r r' e e' (rest_same one.2) in
      (cc (sp, so, one.0, two.0), cc (one.1, sm, two.1))
  unique_assign (grammar.chooses {u = w} a) (grammar.assigned {m = m'} {u = u'} {v = v'} a' is' b') sp r r' e e' eq =
      let eq1 : w ++ r ≡ u' ++ (mark m' ∷ (v' ++ r')) = eq ∙ append_assoc u' (mark m' ∷ v') r' in
      let one = unique_conditional a (grammar.operates (binary_of (grammar.uncast a'))) sp r (mark m' ∷ (v' ++ r')) (omega (arith, e)) (omega (arith, assign_operator_rank is')) eq1 in
      absurd (blocked 2 e (behind w r u' (mark m' ∷ (v' ++ r')) one.1 eq1) (omega (arith, assign_operator_rank is')))
  unique_assign {T = T} (grammar.assigned {m = m} {u = u} {v = v} a is b) (grammar.chooses {u = w'} a') sp r r' e e' eq =
      let eq1 : u ++ (mark m ∷ (v ++ r)) ≡ w' ++ r' = sym (append_assoc u (mark m ∷ v) r) ∙ eq in
      let free : Untyped T (w' ++ r') = λ x z eq2 starts. unary_second a (mark m ∷ (v ++ r)) (eq1 ∙ eq2) starts in
      let l = conditional_leads a' r' e' free in
      let eq2 : u ++ (mark m ∷ (v ++ r)) ≡ l.front ++ (l.others ++ r') = eq1 ∙ ap (λ z. z ++ r') l.cut ∙ append_assoc l.front l.others r' in
      let one = unique_unary a l.unary sp (mark m ∷ (v ++ r)) (l.others ++ r') (omega (arith, assign_operator_rank is)) l.ends eq2 in
      absurd (l.other (sym (ap head_rank (behind u (mark m ∷ (v ++ r)) l.front (l.others ++ r') one.1 eq2)) ∙ assign_operator_rank is))

  pub unique_conditional : {T : List Name} {p p' : ℕ} {t t' : tree.Expression} {w w' : List Word} → grammar.IsConditional T p t w → grammar.IsConditional T p' t' w' → p ≡ p' → (r r' : List Word) → head_rank r < 3 → head_rank r' < 3 → w ++ r ≡ w' ++ r' → (t ≡ t') × (w ≡ w')
  unique_conditional (grammar.operates a) (grammar.operates a') sp r r' e e' eq = unique_binary a a' refl sp r r' (omega (arith, e)) (omega (arith, e')) eq
  unique_conditional (grammar.a_choice {u = u} {v = v} {w = w} c a b) (grammar.a_choice {u = u'} {v = v'} {w = w'} c' a' b') sp r r' e e' eq =
      let one = part u (mark Question ∷ (v ++ (mark Colon ∷ w))) r u' (mark Question ∷ (v' ++ (mark Colon ∷ w'))) r' (unique_binary c c' refl sp (mark Question ∷ ((v ++ (mark Colon ∷ w)) ++ r)) (mark Question ∷ ((v' ++ (mark Colon ∷ w')) ++ r')) (omega arith) (omega arith)) eq in
      let two = part v (mark Colon ∷ w) r v' (mark Colon ∷ w') r' (unique_expression a a' (cc (sp, one.1)) (mark Colon ∷ (w ++ r)) (mark Colon ∷ (w' ++ r')) (omega arith) (omega arith)) (rest_same one.2) in
      let three = unique_conditional b b' (cc (sp, one.1, two.1)) r r' e e' (rest_same two.2) in
      (cc (sp, one.0, two.0, three.0), cc (one.1, two.1, three.1))
  unique_conditional (grammar.operates {u = w} a) (grammar.a_choice {u = u'} {v = v'} {w = w'} c' a' b') sp r r' e e' eq =
      let x = mark Question ∷ (v' ++ (mark Colon ∷ w')) in
      let eq1 : w ++ r ≡ u' ++ (x ++ r') = eq ∙ append_assoc u' x r' in
      let one = unique_binary a c' refl sp r (x ++ r') (omega (arith, e)) (omega arith) eq1 in
      absurd (blocked 3 e (behind w r u' (x ++ r') one.1 eq1) (omega arith))
  unique_conditional (grammar.a_choice {u = u} {v = v} {w = w} c a b) (grammar.operates {u = w'} a') sp r r' e e' eq =
      let x = mark Question ∷ (v ++ (mark Colon ∷ w)) in
      let eq1 : u ++ (x ++ r) ≡ w' ++ r' = sym (append_assoc u x r) ∙ eq in
      let one = unique_binary c a' refl sp (x ++ r) r' (omega arith) (omega (arith, e')) eq1 in
      absurd (blocked 3 e' (sym (behind u (x ++ r) w' r' one.1 eq1)) (omega arith))

  pub unique_binary : {T : List Name} {n n' p p' : ℕ} {t t' : tree.Expression} {w w' : List Word} → grammar.IsBinary T n p t w → grammar.IsBinary T n' p' t' w' → n ≡ n' → p ≡ p' → (r r' : List Word) → head_rank r < n + 4 → head_rank r' < n + 4 → w ++ r ≡ w' ++ r' → (t ≡ t') × (w ≡ w')
  unique_binary (grammar.casts a) (grammar.casts a') sn sp r r' e e' eq = unique_cast a a' sp r r' (omega (arith, e)) (omega (arith, e')) eq
  unique_binary (grammar.casts a) (grammar.level under' a' rest') sn sp r r' e e' eq = absurd (omega (arith, under', sn))
  unique_binary (grammar.level under a rest) (grammar.casts a') sn sp r r' e e' eq = absurd (omega (arith, under, sn))
  unique_binary (grammar.level {n = n} {u = u} {v = v} under a rest) (grammar.level {u = u'} {v = v'} under' a' rest') sn sp r r' e e' eq =
      let one = part u v r u' v' r' (unique_binary a a' (cc sn) sp (v ++ r) (v' ++ r') (binary_ends rest n refl r e) (binary_ends rest' n (sym sn) r' e')) eq in
      let two = unique_binary_tail rest rest' sp sn (cc (sp, one.1)) one.0 r r' e e' one.2 in
      (two.0, cc (one.1, two.1))

  unique_binary_tail : {T : List Name} {s s' n n' p p' : ℕ} {a a' t t' : tree.Expression} {w w' : List Word} → grammar.BinaryTail T s n p a t w → grammar.BinaryTail T s' n' p' a' t' w' → s ≡ s' → n ≡ n' → p ≡ p' → a ≡ a' → (r r' : List Word) → head_rank r < n + 4 → head_rank r' < n + 4 → w ++ r ≡ w' ++ r' → (t ≡ t') × (w ≡ w')
  unique_binary_tail grammar.no_operator grammar.no_operator ss sn sp sa r r' e e' eq = (sa, refl)
  unique_binary_tail {n = n} grammar.no_operator (grammar.an_operator is' b' rest') ss sn sp sa r r' e e' eq = absurd (blocked (n + 4) e eq (omega (arith, operator_rank is', sn)))
  unique_binary_tail {n = n} (grammar.an_operator is b rest) grammar.no_operator ss sn sp sa r r' e e' eq = absurd (blocked (n + 4) e' (sym eq) (omega (arith, operator_rank is)))
  unique_binary_tail (grammar.an_operator {n = n} {u = u} {v = v} is b rest) (grammar.an_operator {u = u'} {v = v'} is' b' rest') ss sn sp sa r r' e e' eq =
      let sm = mark_same eq in
      let so = operator_same is is' sm in
      let one = part u v r u' v' r' (unique_binary b b' (cc sn) (cc sp) (v ++ r) (v' ++ r') (binary_ends rest n refl r e) (binary_ends rest' n (sym sn) r' e')) (rest_same eq) in
      let two = unique_binary_tail rest rest' ss sn (cc (sp, one.1)) (cc (ss, so, sa, one.0)) r r' e e' one.2 in
      (two.0, cc (sm, one.1, two.1))

  pub unique_cast : {T : List Name} {p p' : ℕ} {t t' : tree.Expression} {w w' : List Word} → grammar.IsCast T p t w → grammar.IsCast T p' t' w' → p ≡ p' → (r r' : List Word) → head_rank r < 14 → head_rank r' < 14 → w ++ r ≡ w' ++ r' → (t ≡ t') × (w ≡ w')
  unique_cast (grammar.uncast a) (grammar.uncast a') sp r r' e e' eq = unique_unary a a' sp r r' e e' eq
  unique_cast (grammar.a_cast {u = u} {v = v} n a) (grammar.a_cast {u = u'} {v = v'} n' a') sp r r' e e' eq =
      let one = part u (mark CloseParen ∷ v) r u' (mark CloseParen ∷ v') r' (unique_type_name n n' (cc sp) (mark CloseParen ∷ (v ++ r)) (mark CloseParen ∷ (v' ++ r')) close_paren close_paren) (rest_same eq) in
      let two = unique_cast a a' (cc (sp, one.1)) r r' e e' (rest_same one.2) in
      (cc (sp, one.0, two.0), cc (one.1, two.1))
  unique_cast (grammar.uncast a) (grammar.a_cast {u = u'} {v = v'} n' a') sp r r' e e' eq =
      absurd (paren_type a n' r (mark CloseParen ∷ (v' ++ r')) (eq ∙ ap (λ z. mark OpenParen ∷ z) (append_assoc u' (mark CloseParen ∷ v') r')))
  unique_cast (grammar.a_cast {u = u} {v = v} n a) (grammar.uncast a') sp r r' e e' eq =
      absurd (paren_type a' n r' (mark CloseParen ∷ (v ++ r)) (sym eq ∙ ap (λ z. mark OpenParen ∷ z) (append_assoc u (mark CloseParen ∷ v) r)))

  pub unique_unary : {T : List Name} {p p' : ℕ} {t t' : tree.Expression} {w w' : List Word} → grammar.IsUnary T p t w → grammar.IsUnary T p' t' w' → p ≡ p' → (r r' : List Word) → head_rank r < 14 → head_rank r' < 14 → w ++ r ≡ w' ++ r' → (t ≡ t') × (w ≡ w')
  unique_unary (grammar.postfix a) (grammar.postfix a') sp r r' e e' eq = unique_postfix a a' sp r r' e e' eq
  unique_unary (grammar.stepped is a) (grammar.stepped is' a') sp r r' e e' eq =
      let sm = mark_same eq in
      let so = step_same is is' sm in
      let one = unique_unary a a' (cc sp) r r' e e' (rest_same eq) in
      (cc (sp, so, one.0), cc (sm, one.1))
  unique_unary (grammar.prefixed is a) (grammar.prefixed is' a') sp r r' e e' eq =
      let sm = mark_same eq in
      let so = prefix_same is is' sm in
      let one = unique_cast a a' (cc sp) r r' e e' (rest_same eq) in
      (cc (sp, so, one.0), cc (sm, one.1))
  unique_unary (grammar.sized a) (grammar.sized a') sp r r' e e' eq =
      let one = unique_unary a a' (cc sp) r r' e e' (rest_same eq) in
      (cc (sp, one.0), cc one.1)
  unique_unary (grammar.type_sized {u = u} n) (grammar.type_sized {u = u'} n') sp r r' e e' eq =
      let one = part u (mark CloseParen ∷ []) r u' (mark CloseParen ∷ []) r' (unique_type_name n n' (cc sp) (mark CloseParen ∷ r) (mark CloseParen ∷ r') close_paren close_paren) (rest_same (rest_same eq)) in
      (cc (sp, one.0), cc one.1)
  unique_unary (grammar.sized a) (grammar.type_sized {u = u'} n') sp r r' e e' eq =
      absurd (paren_type a n' r (mark CloseParen ∷ r') (rest_same eq ∙ ap (λ z. mark OpenParen ∷ z) (append_assoc u' (mark CloseParen ∷ []) r')))
  unique_unary (grammar.type_sized {u = u} n) (grammar.sized a') sp r r' e e' eq =
      absurd (paren_type a' n r' (mark CloseParen ∷ r) (sym (rest_same eq) ∙ ap (λ z. mark OpenParen ∷ z) (append_assoc u (mark CloseParen ∷ []) r)))
  unique_unary d d' sp r r' e e' eq = absurd (omega (arith, unary_clash d d' r r' eq))

  pub unique_postfix : {T : List Name} {p p' : ℕ} {t t' : tree.Expression} {w w' : List Word} → grammar.IsPostfix T p t w → grammar.IsPostfix T p' t' w' → p ≡ p' → (r r' : List Word) → head_rank r < 14 → head_rank r' < 14 → w ++ r ≡ w' ++ r' → (t ≡ t') × (w ≡ w')
  unique_postfix (grammar.primary {u = u} {v = v} a rest) (grammar.primary {u = u'} {v = v'} a' rest') sp r r' e e' eq =
      let one = part u v r u' v' r' (unique_primary a a' sp (v ++ r) (v' ++ r') (postfix_ends rest r e) (postfix_ends rest' r' e')) eq in
      let two = unique_postfix_tail rest rest' sp (cc (sp, one.1)) one.0 r r' e e' one.2 in
      (two.0, cc (one.1, two.1))

  unique_postfix_tail : {T : List Name} {s s' p p' : ℕ} {a a' t t' : tree.Expression} {w w' : List Word} → grammar.PostfixTail T s p a t w → grammar.PostfixTail T s' p' a' t' w' → s ≡ s' → p ≡ p' → a ≡ a' → (r r' : List Word) → head_rank r < 14 → head_rank r' < 14 → w ++ r ≡ w' ++ r' → (t ≡ t') × (w ≡ w')
  unique_postfix_tail grammar.no_postfix grammar.no_postfix ss sp sa r r' e e' eq = (sa, refl)
  unique_postfix_tail (grammar.indexes {u = u} {v = v} b rest) (grammar.indexes {u = u'} {v = v'} b' rest') ss sp sa r r' e e' eq =
      let one = part u (mark CloseBracket ∷ v) r u' (mark CloseBracket ∷ v') r' (unique_expression b b' (cc sp) (mark CloseBracket ∷ (v ++ r)) (mark CloseBracket ∷ (v' ++ r')) (omega arith) (omega arith)) (rest_same eq) in
      let two = unique_postfix_tail rest rest' ss (cc (sp, one.1)) (cc (ss, sa, one.0)) r r' e e' (rest_same one.2) in
      (two.0, cc (one.1, two.1))
  unique_postfix_tail (grammar.calls {u = u} {v = v} b rest) (grammar.calls {u = u'} {v = v'} b' rest') ss sp sa r r' e e' eq =
      let one = part u (mark CloseParen ∷ v) r u' (mark CloseParen ∷ v') r' (unique_arguments b b' (cc sp) (mark CloseParen ∷ (v ++ r)) (mark CloseParen ∷ (v' ++ r')) close_paren close_paren) (rest_same eq) in
      let two = unique_postfix_tail rest rest' ss (cc (sp, one.1)) (cc (ss, sa, one.0)) r r' e e' (rest_same one.2) in
      (two.0, cc (one.1, two.1))
  unique_postfix_tail (grammar.dots n rest) (grammar.dots n' rest') ss sp sa r r' e e' eq =
      let sn = name_same (rest_same eq) in
      let two = unique_postfix_tail rest rest' ss (cc sp) (cc (ss, sa, sn)) r r' e e' (rest_same (rest_same eq)) in
      (two.0, cc (sn, two.1))
  unique_postfix_tail (grammar.arrows n rest) (grammar.arrows n' rest') ss sp sa r r' e e' eq =
      let sn = name_same (rest_same eq) in
      let two = unique_postfix_tail rest rest' ss (cc sp) (cc (ss, sa, sn)) r r' e e' (rest_same (rest_same eq)) in
      (two.0, cc (sn, two.1))
  unique_postfix_tail (grammar.steps is rest) (grammar.steps is' rest') ss sp sa r r' e e' eq =
      let sm = mark_same eq in
      let so = step_same is is' sm in
      let two = unique_postfix_tail rest rest' ss (cc sp) (cc (ss, so, sa)) r r' e e' (rest_same eq) in
      (two.0, cc (sm, two.1))
  unique_postfix_tail d d' ss sp sa r r' e e' eq = absurd (omega (arith, postfix_clash d d' r r' e e' eq))

  unique_arguments : {T : List Name} {p p' : ℕ} {ts ts' : tree.Expressions} {w w' : List Word} → grammar.IsArguments T p ts w → grammar.IsArguments T p' ts' w' → p ≡ p' → (r r' : List Word) → Closes r → Closes r' → w ++ r ≡ w' ++ r' → (ts ≡ ts') × (w ≡ w')
  unique_arguments grammar.no_argument grammar.no_argument sp r r' e e' eq = (refl, refl)
  unique_arguments grammar.no_argument (grammar.first_argument {u = u'} {v = v'} a' rest') sp r r' e e' eq = absurd (not_expression u' (v' ++ r') e (assign_starts a') (eq ∙ append_assoc u' v' r'))
  unique_arguments (grammar.first_argument {u = u} {v = v} a rest) grammar.no_argument sp r r' e e' eq = absurd (not_expression u (v ++ r) e' (assign_starts a) (sym eq ∙ append_assoc u v r))
  unique_arguments (grammar.first_argument {u = u} {v = v} a rest) (grammar.first_argument {u = u'} {v = v'} a' rest') sp r r' e e' eq =
      let one = part u v r u' v' r' (unique_assign a a' sp (v ++ r) (v' ++ r') (argument_ends rest r e) (argument_ends rest' r' e')) eq in
      let two = unique_argument_tail rest rest' (cc (sp, one.1)) r r' e e' one.2 in
      (cc (one.0, two.0), cc (one.1, two.1))

  unique_argument_tail : {T : List Name} {p p' : ℕ} {ts ts' : tree.Expressions} {w w' : List Word} → grammar.ArgumentTail T p ts w → grammar.ArgumentTail T p' ts' w' → p ≡ p' → (r r' : List Word) → Closes r → Closes r' → w ++ r ≡ w' ++ r' → (ts ≡ ts') × (w ≡ w')
  unique_argument_tail grammar.last_argument grammar.last_argument sp r r' e e' eq = (refl, refl)
  unique_argument_tail grammar.last_argument (grammar.next_argument a' rest') sp r r' e e' eq = absurd (not_closing e eq refl)
  unique_argument_tail (grammar.next_argument a rest) grammar.last_argument sp r r' e e' eq = absurd (not_closing e' (sym eq) refl)
  unique_argument_tail (grammar.next_argument {u = u} {v = v} a rest) (grammar.next_argument {u = u'} {v = v'} a' rest') sp r r' e e' eq =
      let one = part u v r u' v' r' (unique_assign a a' (cc sp) (v ++ r) (v' ++ r') (argument_ends rest r e) (argument_ends rest' r' e')) (rest_same eq) in
      let two = unique_argument_tail rest rest' (cc (sp, one.1)) r r' e e' one.2 in
      (cc (one.0, two.0), cc (one.1, two.1))

  pub unique_primary : {T : List Name} {p p' : ℕ} {t t' : tree.Expression} {w w' : List Word} → grammar.IsPrimary T p t w → grammar.IsPrimary T p' t' w' → p ≡ p' → (r r' : List Word) → head_rank r < 19 → head_rank r' < 19 → w ++ r ≡ w' ++ r' → (t ≡ t') × (w ≡ w')
  unique_primary (grammar.an_identifier n free) (grammar.an_identifier n' free') sp r r' e e' eq = let sn = name_same eq in (cc (sp, sn), cc sn)
  unique_primary (grammar.a_number n) (grammar.a_number n') sp r r' e e' eq = let sn : n ≡ n' = cc eq in (cc (sp, sn), cc sn)
  unique_primary (grammar.a_character n) (grammar.a_character n') sp r r' e e' eq = let sn : n ≡ n' = cc eq in (cc (sp, sn), cc sn)
  unique_primary (grammar.a_string s) (grammar.a_string s') sp r r' e e' eq =
      let one = unique_text s s' r r' e e' eq in
      (cc (sp, one.0), one.1)
  unique_primary (grammar.grouped {u = u} a) (grammar.grouped {u = u'} a') sp r r' e e' eq =
      let one = part u (mark CloseParen ∷ []) r u' (mark CloseParen ∷ []) r' (unique_expression a a' (cc sp) (mark CloseParen ∷ r) (mark CloseParen ∷ r') (omega arith) (omega arith)) (rest_same eq) in
      (one.0, cc one.1)
  unique_primary d d' sp r r' e e' eq = absurd (omega (arith, primary_clash d d' r r' eq))

  pub unique_specifiers : {T : List Name} {p p' : ℕ} {s s' : tree.Specifiers} {w w' : List Word} → grammar.IsSpecifiers T p s w → grammar.IsSpecifiers T p' s' w' → p ≡ p' → (r r' : List Word) → SpecifierEnds T (has_type s) r → SpecifierEnds T (has_type s') r' → w ++ r ≡ w' ++ r' → (s ≡ s') × (w ≡ w')
  unique_specifiers (grammar.first_specifier {u = u} {v = v} a rest) (grammar.first_specifier {u = u'} {v = v'} a' rest') sp r r' e e' eq =
      let one = part u v r u' v' r' (unique_specifier a a' sp (v ++ r) (v' ++ r') (tail_brace rest r e) (tail_brace rest' r' e')) eq in
      let two = unique_specifier_tail rest rest' (ap (λ z. adds_type false z) one.0) (cc (sp, one.1)) r r' e e' one.2 in
      (cc (sp, one.0, two.0), cc (one.1, two.1))

  unique_specifier_tail : {T : List Name} {a a' : Bool} {p p' : ℕ} {xs xs' : tree.SpecifierList} {w w' : List Word} → grammar.SpecifierTail T a p xs w → grammar.SpecifierTail T a' p' xs' w' → a ≡ a' → p ≡ p' → (r r' : List Word) → SpecifierEnds T (has_type_from a xs) r → SpecifierEnds T (has_type_from a' xs') r' → w ++ r ≡ w' ++ r' → (xs ≡ xs') × (w ≡ w')
  unique_specifier_tail grammar.last_specifier grammar.last_specifier sa sp r r' e e' eq = (refl, refl)
  unique_specifier_tail grammar.last_specifier (grammar.next_specifier {u = u'} {v = v'} d' rest') sa sp r r' e e' eq = absurd (specifier_clash u' d' sa r (v' ++ r') (eq ∙ append_assoc u' v' r') e)
  unique_specifier_tail (grammar.next_specifier {u = u} {v = v} d rest) grammar.last_specifier sa sp r r' e e' eq = absurd (specifier_clash u d (sym sa) r' (v ++ r) (sym eq ∙ append_assoc u v r) e')
  unique_specifier_tail (grammar.next_specifier {u = u} {v = v} d rest) (grammar.next_specifier {u = u'} {v = v'} d' rest') sa sp r r' e e' eq =
      let one = part u v r u' v' r' (unique_specifier d d' sp (v ++ r) (v' ++ r') (tail_brace rest r e) (tail_brace rest' r' e')) eq in
      let two = unique_specifier_tail rest rest' (adds_same sa one.0) (cc (sp, one.1)) r r' e e' one.2 in
      (cc (one.0, two.0), cc (one.1, two.1))

  unique_specifier : {T : List Name} {a a' : Bool} {p p' : ℕ} {x x' : tree.Specifier} {w w' : List Word} → grammar.IsSpecifier T a p x w → grammar.IsSpecifier T a' p' x' w' → p ≡ p' → (r r' : List Word) → head_brace r ≡ 0 → head_brace r' ≡ 0 → w ++ r ≡ w' ++ r' → (x ≡ x') × (w ≡ w')
  unique_specifier (grammar.a_word is) (grammar.a_word is') sp r r' e e' eq =
      let sk = keyword_same eq in
      (cc (sp, specifier_same is is' sk), cc sk)
  unique_specifier (grammar.a_struct {u = u} ms) (grammar.a_struct {u = u'} ms') sp r r' e e' eq =
      let one = part u (mark CloseBrace ∷ []) r u' (mark CloseBrace ∷ []) r' (unique_members ms ms' (cc sp) (mark CloseBrace ∷ r) (mark CloseBrace ∷ r') close_brace close_brace) (rest_same (rest_same eq)) in
      (cc (sp, one.0), cc one.1)
  unique_specifier (grammar.a_named_struct n {u = u} ms) (grammar.a_named_struct n' {u = u'} ms') sp r r' e e' eq =
      let sn = name_same (rest_same eq) in
      let one = part u (mark CloseBrace ∷ []) r u' (mark CloseBrace ∷ []) r' (unique_members ms ms' (cc sp) (mark CloseBrace ∷ r) (mark CloseBrace ∷ r') close_brace close_brace) (rest_same (rest_same (rest_same eq))) in
      (cc (sp, sn, one.0), cc (sn, one.1))
  unique_specifier (grammar.a_struct_tag n) (grammar.a_struct_tag n') sp r r' e e' eq =
      let sn = name_same (rest_same eq) in
      (cc (sp, sn), cc sn)
  unique_specifier (grammar.a_named_struct n ms) (grammar.a_struct_tag n') sp r r' e e' eq = absurd (omega (arith, e', ap head_brace (rest_same (rest_same eq))))
  unique_specifier (grammar.a_struct_tag n) (grammar.a_named_struct n' ms') sp r r' e e' eq = absurd (omega (arith, e, ap head_brace (rest_same (rest_same eq))))
  unique_specifier (grammar.an_enum {u = u} es) (grammar.an_enum {u = u'} es') sp r r' e e' eq =
      let one = part u (mark CloseBrace ∷ []) r u' (mark CloseBrace ∷ []) r' (unique_enumerators es es' (cc sp) (mark CloseBrace ∷ r) (mark CloseBrace ∷ r') close_brace close_brace) (rest_same (rest_same eq)) in
      (cc (sp, one.0), cc one.1)
  unique_specifier (grammar.a_named_enum n {u = u} es) (grammar.a_named_enum n' {u = u'} es') sp r r' e e' eq =
      let sn = name_same (rest_same eq) in
      let one = part u (mark CloseBrace ∷ []) r u' (mark CloseBrace ∷ []) r' (unique_enumerators es es' (cc sp) (mark CloseBrace ∷ r) (mark CloseBrace ∷ r') close_brace close_brace) (rest_same (rest_same (rest_same eq))) in
      (cc (sp, sn, one.0), cc (sn, one.1))
  unique_specifier (grammar.an_enum_tag n) (grammar.an_enum_tag n') sp r r' e e' eq =
      let sn = name_same (rest_same eq) in
      (cc (sp, sn), cc sn)
  unique_specifier (grammar.a_named_enum n es) (grammar.an_enum_tag n') sp r r' e e' eq = absurd (omega (arith, e', ap head_brace (rest_same (rest_same eq))))
  unique_specifier (grammar.an_enum_tag n) (grammar.a_named_enum n' es') sp r r' e e' eq = absurd (omega (arith, e, ap head_brace (rest_same (rest_same eq))))
  unique_specifier (grammar.its_typedef_name n is) (grammar.its_typedef_name n' is') sp r r' e e' eq =
      let sn = name_same eq in
      (cc (sp, sn), cc sn)
  unique_specifier d d' sp r r' e e' eq = absurd (omega (arith, specifier_line_same d d' r r' eq))

  unique_members : {T : List Name} {p p' : ℕ} {ms ms' : tree.Members} {w w' : List Word} → grammar.IsMembers T p ms w → grammar.IsMembers T p' ms' w' → p ≡ p' → (r r' : List Word) → Closes r → Closes r' → w ++ r ≡ w' ++ r' → (ms ≡ ms') × (w ≡ w')
  unique_members (grammar.first_member {u = u} {v = v} {w = w} {x = x} s none d ds ms) (grammar.first_member {u = u'} {v = v'} {w = w'} {x = x'} s' none' d' ds' ms') sp r r' e e' eq =
      let y = w ++ (mark Semicolon ∷ x) in
      let y' = w' ++ (mark Semicolon ∷ x') in
      let one = part u (v ++ y) r u' (v' ++ y') r' (unique_specifiers s s' sp ((v ++ y) ++ r) ((v' ++ y') ++ r') (subst (SpecifierEnds _ _) (sym (append_assoc v y r)) (declarator_follows v d none (y ++ r))) (subst (SpecifierEnds _ _) (sym (append_assoc v' y' r')) (declarator_follows v' d' none' (y' ++ r')))) eq in
      let two = part v y r v' y' r' (unique_declarator d d' (cc (sp, one.1)) (y ++ r) (y' ++ r') (subst (λ z. head_rank z < 14) (sym (append_assoc w (mark Semicolon ∷ x) r)) (declarator_tail_ends ds (mark Semicolon ∷ (x ++ r)) close_declaration)) (subst (λ z. head_rank z < 14) (sym (append_assoc w' (mark Semicolon ∷ x') r')) (declarator_tail_ends ds' (mark Semicolon ∷ (x' ++ r')) close_declaration))) one.2 in
      let three = part w (mark Semicolon ∷ x) r w' (mark Semicolon ∷ x') r' (unique_declarator_tail ds ds' (cc (sp, one.1, two.1)) (mark Semicolon ∷ (x ++ r)) (mark Semicolon ∷ (x' ++ r')) close_declaration close_declaration) two.2 in
      let four = unique_member_tail ms ms' (cc (sp, one.1, two.1, three.1)) r r' e e' (rest_same three.2) in
      (cc (one.0, two.0, three.0, four.0), cc (one.1, two.1, three.1, four.1))

  unique_member_tail : {T : List Name} {p p' : ℕ} {ms ms' : tree.Members} {w w' : List Word} → grammar.MemberTail T p ms w → grammar.MemberTail T p' ms' w' → p ≡ p' → (r r' : List Word) → Closes r → Closes r' → w ++ r ≡ w' ++ r' → (ms ≡ ms') × (w ≡ w')
  unique_member_tail grammar.last_member grammar.last_member sp r r' e e' eq = (refl, refl)
  unique_member_tail grammar.last_member (grammar.next_member {u = u'} ms') sp r r' e e' eq = absurd (not_specifier u' r' e (members_starts ms') eq)
  unique_member_tail (grammar.next_member {u = u} ms) grammar.last_member sp r r' e e' eq = absurd (not_specifier u r e' (members_starts ms) (sym eq))
  unique_member_tail (grammar.next_member ms) (grammar.next_member ms') sp r r' e e' eq = unique_members ms ms' sp r r' e e' eq

  unique_declarator_tail : {T : List Name} {p p' : ℕ} {ds ds' : tree.Declarators} {w w' : List Word} → grammar.DeclaratorTail T p ds w → grammar.DeclaratorTail T p' ds' w' → p ≡ p' → (r r' : List Word) → Closes r → Closes r' → w ++ r ≡ w' ++ r' → (ds ≡ ds') × (w ≡ w')
  unique_declarator_tail grammar.last_declarator grammar.last_declarator sp r r' e e' eq = (refl, refl)
  unique_declarator_tail grammar.last_declarator (grammar.next_declarator d' rest') sp r r' e e' eq = absurd (not_closing e eq refl)
  unique_declarator_tail (grammar.next_declarator d rest) grammar.last_declarator sp r r' e e' eq = absurd (not_closing e' (sym eq) refl)
  unique_declarator_tail (grammar.next_declarator {u = u} {v = v} d rest) (grammar.next_declarator {u = u'} {v = v'} d' rest') sp r r' e e' eq =
      let one = part u v r u' v' r' (unique_declarator d d' (cc sp) (v ++ r) (v' ++ r') (declarator_tail_ends rest r e) (declarator_tail_ends rest' r' e')) (rest_same eq) in
      let two = unique_declarator_tail rest rest' (cc (sp, one.1)) r r' e e' one.2 in
      (cc (one.0, two.0), cc (one.1, two.1))

  unique_enumerators : {T : List Name} {p p' : ℕ} {es es' : tree.Enumerators} {w w' : List Word} → grammar.IsEnumerators T p es w → grammar.IsEnumerators T p' es' w' → p ≡ p' → (r r' : List Word) → Closes r → Closes r' → w ++ r ≡ w' ++ r' → (es ≡ es') × (w ≡ w')
  unique_enumerators (grammar.first_enumerator n {u = u} {v = v} x rest) (grammar.first_enumerator n' {u = u'} {v = v'} x' rest') sp r r' e e' eq =
      let sn = name_same eq in
      let one = part u v r u' v' r' (unique_value x x' (cc sp) (v ++ r) (v' ++ r') (enumerator_tail_ends rest r e) (enumerator_tail_ends rest' r' e')) (rest_same eq) in
      let two = unique_enumerator_tail rest rest' (cc (sp, one.1)) r r' e e' one.2 in
      (cc (sp, sn, one.0, two.0), cc (sn, one.1, two.1))

  unique_value : {T : List Name} {p p' : ℕ} {x x' : tree.MaybeExpression} {w w' : List Word} → grammar.IsValue T p x w → grammar.IsValue T p' x' w' → p ≡ p' → (r r' : List Word) → head_rank r < 2 → head_rank r' < 2 → w ++ r ≡ w' ++ r' → (x ≡ x') × (w ≡ w')
  unique_value grammar.no_value grammar.no_value sp r r' e e' eq = (refl, refl)
  unique_value grammar.no_value (grammar.a_value x') sp r r' e e' eq = absurd (blocked 2 e eq (omega arith))
  unique_value (grammar.a_value x) grammar.no_value sp r r' e e' eq = absurd (blocked 2 e' (sym eq) (omega arith))
  unique_value (grammar.a_value x) (grammar.a_value x') sp r r' e e' eq =
      let one = unique_conditional x x' (cc sp) r r' (omega (arith, e)) (omega (arith, e')) (rest_same eq) in
      (cc one.0, cc one.1)

  unique_enumerator_tail : {T : List Name} {p p' : ℕ} {es es' : tree.Enumerators} {w w' : List Word} → grammar.EnumeratorTail T p es w → grammar.EnumeratorTail T p' es' w' → p ≡ p' → (r r' : List Word) → Closes r → Closes r' → w ++ r ≡ w' ++ r' → (es ≡ es') × (w ≡ w')
  unique_enumerator_tail grammar.last_enumerator grammar.last_enumerator sp r r' e e' eq = (refl, refl)
  unique_enumerator_tail grammar.last_enumerator grammar.last_comma sp r r' e e' eq = absurd (not_closing e eq refl)
  unique_enumerator_tail grammar.last_enumerator (grammar.next_enumerator es') sp r r' e e' eq = absurd (not_closing e eq refl)
  unique_enumerator_tail grammar.last_comma grammar.last_enumerator sp r r' e e' eq = absurd (not_closing e' (sym eq) refl)
  unique_enumerator_tail (grammar.next_enumerator es) grammar.last_enumerator sp r r' e e' eq = absurd (not_closing e' (sym eq) refl)
  unique_enumerator_tail grammar.last_comma grammar.last_comma sp r r' e e' eq = (refl, refl)
  unique_enumerator_tail grammar.last_comma (grammar.next_enumerator (grammar.first_enumerator n' x' rest')) sp r r' e e' eq = absurd (not_closing e (rest_same eq) refl)
  unique_enumerator_tail (grammar.next_enumerator (grammar.first_enumerator n x rest)) grammar.last_comma sp r r' e e' eq = absurd (not_closing e' (sym (rest_same eq)) refl)
  unique_enumerator_tail (grammar.next_enumerator es) (grammar.next_enumerator es') sp r r' e e' eq =
      let one = unique_enumerators es es' (cc sp) r r' e e' (rest_same eq) in
      (one.0, cc one.1)

  pub unique_declarator : {T : List Name} {g g' : Bool} {p p' : ℕ} {d d' : tree.Declarator} {w w' : List Word} → grammar.IsDeclarator T g p d w → grammar.IsDeclarator T g' p' d' w' → p ≡ p' → (r r' : List Word) → head_rank r < 14 → head_rank r' < 14 → w ++ r ≡ w' ++ r' → (d ≡ d') × (w ≡ w')
  unique_declarator (grammar.a_name n {u = u} {v = v} ns ts) (grammar.a_name n' {u = u'} {v = v'} ns' ts') sp r r' e e' eq =
      let one = part u (name n ∷ v) r u' (name n' ∷ v') r' (unique_stars ns ns' (name n ∷ (v ++ r)) (name n' ∷ (v' ++ r')) (omega arith) (omega arith)) eq in
      let sn = name_same one.2 in
      let two = unique_suffixes ts ts' (cc (sp, one.1)) r r' e e' (rest_same one.2) in
      (cc (sp, sn, one.0, two.0), cc (sn, one.1, two.1))
  unique_declarator (grammar.an_inner {u = u} {v = v} {w = w} ns d none ts) (grammar.an_inner {u = u'} {v = v'} {w = w'} ns' d' none' ts') sp r r' e e' eq =
      let one = part u (mark OpenParen ∷ (v ++ (mark CloseParen ∷ w))) r u' (mark OpenParen ∷ (v' ++ (mark CloseParen ∷ w'))) r' (unique_stars ns ns' (mark OpenParen ∷ ((v ++ (mark CloseParen ∷ w)) ++ r)) (mark OpenParen ∷ ((v' ++ (mark CloseParen ∷ w')) ++ r')) (omega arith) (omega arith)) eq in
      let two = part v (mark CloseParen ∷ w) r v' (mark CloseParen ∷ w') r' (unique_declarator d d' (cc (sp, one.1)) (mark CloseParen ∷ (w ++ r)) (mark CloseParen ∷ (w' ++ r')) (omega arith) (omega arith)) (rest_same one.2) in
      let three = unique_suffixes ts ts' (cc (sp, one.1, two.1)) r r' e e' (rest_same two.2) in
      (around_same sp one.0 two.0 three.0, cc (one.1, two.1, three.1))
  unique_declarator (grammar.a_name n {u = u} {v = v} ns ts) (grammar.an_inner {u = u'} {v = v'} {w = w'} ns' d' none' ts') sp r r' e e' eq =
      let one = part u (name n ∷ v) r u' (mark OpenParen ∷ (v' ++ (mark CloseParen ∷ w'))) r' (unique_stars ns ns' (name n ∷ (v ++ r)) (mark OpenParen ∷ ((v' ++ (mark CloseParen ∷ w')) ++ r')) (omega arith) (omega arith)) eq in
      absurd (cc one.2)
  unique_declarator (grammar.an_inner {u = u} {v = v} {w = w} ns d none ts) (grammar.a_name n' {u = u'} {v = v'} ns' ts') sp r r' e e' eq =
      let one = part u (mark OpenParen ∷ (v ++ (mark CloseParen ∷ w))) r u' (name n' ∷ v') r' (unique_stars ns ns' (mark OpenParen ∷ ((v ++ (mark CloseParen ∷ w)) ++ r)) (name n' ∷ (v' ++ r')) (omega arith) (omega arith)) eq in
      absurd (cc one.2)

  unique_suffixes : {T : List Name} {p p' : ℕ} {ts ts' : tree.Suffixes} {w w' : List Word} → grammar.IsSuffixes T p ts w → grammar.IsSuffixes T p' ts' w' → p ≡ p' → (r r' : List Word) → head_rank r < 14 → head_rank r' < 14 → w ++ r ≡ w' ++ r' → (ts ≡ ts') × (w ≡ w')
  unique_suffixes grammar.no_suffix grammar.no_suffix sp r r' e e' eq = (refl, refl)
  unique_suffixes (grammar.an_array {u = u} {v = v} x rest) (grammar.an_array {u = u'} {v = v'} x' rest') sp r r' e e' eq =
      let one = part u (mark CloseBracket ∷ v) r u' (mark CloseBracket ∷ v') r' (unique_length x x' (cc sp) (mark CloseBracket ∷ (v ++ r)) (mark CloseBracket ∷ (v' ++ r')) close_bracket close_bracket) (rest_same eq) in
      let two = unique_suffixes rest rest' (cc (sp, one.1)) r r' e e' (rest_same one.2) in
      (cc (sp, one.0, two.0), cc (one.1, two.1))
  unique_suffixes (grammar.a_function {u = u} {v = v} qs rest) (grammar.a_function {u = u'} {v = v'} qs' rest') sp r r' e e' eq =
      let one = part u (mark CloseParen ∷ v) r u' (mark CloseParen ∷ v') r' (unique_parameters qs qs' (cc sp) (mark CloseParen ∷ (v ++ r)) (mark CloseParen ∷ (v' ++ r')) close_paren close_paren) (rest_same eq) in
      let two = unique_suffixes rest rest' (cc (sp, one.1)) r r' e e' (rest_same one.2) in
      (cc (sp, one.0, two.0), cc (one.1, two.1))
  unique_suffixes d d' sp r r' e e' eq = absurd (omega (arith, suffix_clash d d' r r' e e' eq))

  unique_length : {T : List Name} {p p' : ℕ} {x x' : tree.MaybeExpression} {w w' : List Word} → grammar.IsLength T p x w → grammar.IsLength T p' x' w' → p ≡ p' → (r r' : List Word) → Closes r → Closes r' → w ++ r ≡ w' ++ r' → (x ≡ x') × (w ≡ w')
  unique_length grammar.no_length grammar.no_length sp r r' e e' eq = (refl, refl)
  unique_length grammar.no_length (grammar.a_length {u = u'} x') sp r r' e e' eq = absurd (not_expression u' r' e (conditional_starts x') eq)
  unique_length (grammar.a_length {u = u} x) grammar.no_length sp r r' e e' eq = absurd (not_expression u r e' (conditional_starts x) (sym eq))
  unique_length (grammar.a_length x) (grammar.a_length x') sp r r' e e' eq =
      let one = unique_conditional x x' sp r r' (omega (arith, closes_rank e)) (omega (arith, closes_rank e')) eq in
      (cc one.0, one.1)

  unique_parameters : {T : List Name} {p p' : ℕ} {qs qs' : tree.Parameters} {w w' : List Word} → grammar.IsParameters T p qs w → grammar.IsParameters T p' qs' w' → p ≡ p' → (r r' : List Word) → Closes r → Closes r' → w ++ r ≡ w' ++ r' → (qs ≡ qs') × (w ≡ w')
  unique_parameters grammar.no_parameter grammar.no_parameter sp r r' e e' eq = (refl, refl)
  unique_parameters grammar.no_parameter (grammar.first_parameter {u = u'} {v = v'} q' rest') sp r r' e e' eq = absurd (not_specifier u' (v' ++ r') e (parameter_starts q') (eq ∙ append_assoc u' v' r'))
  unique_parameters (grammar.first_parameter {u = u} {v = v} q rest) grammar.no_parameter sp r r' e e' eq = absurd (not_specifier u (v ++ r) e' (parameter_starts q) (sym eq ∙ append_assoc u v r))
  unique_parameters (grammar.first_parameter {u = u} {v = v} q rest) (grammar.first_parameter {u = u'} {v = v'} q' rest') sp r r' e e' eq =
      let one = part u v r u' v' r' (unique_parameter q q' sp (v ++ r) (v' ++ r') (parameter_tail_ends rest r e) (parameter_tail_ends rest' r' e')) eq in
      let two = unique_parameter_tail rest rest' (cc (sp, one.1)) r r' e e' one.2 in
      (cc (one.0.0, one.0.1, two.0), cc (one.1, two.1))

  unique_parameter_tail : {T : List Name} {p p' : ℕ} {qs qs' : tree.Parameters} {w w' : List Word} → grammar.ParameterTail T p qs w → grammar.ParameterTail T p' qs' w' → p ≡ p' → (r r' : List Word) → Closes r → Closes r' → w ++ r ≡ w' ++ r' → (qs ≡ qs') × (w ≡ w')
  unique_parameter_tail grammar.last_parameter grammar.last_parameter sp r r' e e' eq = (refl, refl)
  unique_parameter_tail grammar.last_parameter (grammar.next_parameter q' rest') sp r r' e e' eq = absurd (not_closing e eq refl)
  unique_parameter_tail (grammar.next_parameter q rest) grammar.last_parameter sp r r' e e' eq = absurd (not_closing e' (sym eq) refl)
  unique_parameter_tail (grammar.next_parameter {u = u} {v = v} q rest) (grammar.next_parameter {u = u'} {v = v'} q' rest') sp r r' e e' eq =
      let one = part u v r u' v' r' (unique_parameter q q' (cc sp) (v ++ r) (v' ++ r') (parameter_tail_ends rest r e) (parameter_tail_ends rest' r' e')) (rest_same eq) in
      let two = unique_parameter_tail rest rest' (cc (sp, one.1)) r r' e e' one.2 in
      (cc (one.0.0, one.0.1, two.0), cc (one.1, two.1))

  pub unique_parameter : {T : List Name} {p p' : ℕ} {s s' : tree.Specifiers} {d d' : tree.MaybeDeclarator} {w w' : List Word} → grammar.IsParameter T p s d w → grammar.IsParameter T p' s' d' w' → p ≡ p' → (r r' : List Word) → Separated r → Separated r' → w ++ r ≡ w' ++ r' → ((s ≡ s') × (d ≡ d')) × (w ≡ w')
  unique_parameter (grammar.named_parameter {u = u} {v = v} s none d) (grammar.named_parameter {u = u'} {v = v'} s' none' d') sp r r' e e' eq =
      let one = part u v r u' v' r' (unique_specifiers s s' sp (v ++ r) (v' ++ r') (declarator_follows v d none r) (declarator_follows v' d' none' r')) eq in
      let two = unique_declarator d d' (cc (sp, one.1)) r r' (omega (arith, separated_rank e)) (omega (arith, separated_rank e')) one.2 in
      ((one.0, cc two.0), cc (one.1, two.1))
  unique_parameter (grammar.other_parameter {u = u} {v = v} s d) (grammar.other_parameter {u = u'} {v = v'} s' d') sp r r' e e' eq =
      let one = part u v r u' v' r' (unique_specifiers s s' sp (v ++ r) (v' ++ r') (maybe_abstract_follows d r e) (maybe_abstract_follows d' r' e')) eq in
      let two = unique_maybe_abstract d d' (cc (sp, one.1)) r r' e e' one.2 in
      ((one.0, two.0), cc (one.1, two.1))
  unique_parameter (grammar.named_parameter {u = u} {v = v} s none d) (grammar.other_parameter {u = u'} {v = v'} s' d') sp r r' e e' eq =
      let one = part u v r u' v' r' (unique_specifiers s s' sp (v ++ r) (v' ++ r') (declarator_follows v d none r) (maybe_abstract_follows d' r' e')) eq in
      absurd (declarator_not_maybe d d' r r' e' one.2)
  unique_parameter (grammar.other_parameter {u = u} {v = v} s d) (grammar.named_parameter {u = u'} {v = v'} s' none' d') sp r r' e e' eq =
      let one = part u v r u' v' r' (unique_specifiers s s' sp (v ++ r) (v' ++ r') (maybe_abstract_follows d r e) (declarator_follows v' d' none' r')) eq in
      absurd (declarator_not_maybe d' d r' r e (sym one.2))

  pub unique_type_name : {T : List Name} {p p' : ℕ} {n n' : tree.TypeName} {w w' : List Word} → grammar.IsTypeName T p n w → grammar.IsTypeName T p' n' w' → p ≡ p' → (r r' : List Word) → Closes r → Closes r' → w ++ r ≡ w' ++ r' → (n ≡ n') × (w ≡ w')
  unique_type_name (grammar.a_type_name {u = u} {v = v} s d) (grammar.a_type_name {u = u'} {v = v'} s' d') sp r r' e e' eq =
      let one = part u v r u' v' r' (unique_specifiers s s' sp (v ++ r) (v' ++ r') (maybe_abstract_follows d r (closes e)) (maybe_abstract_follows d' r' (closes e'))) eq in
      let two = unique_maybe_abstract d d' (cc (sp, one.1)) r r' (closes e) (closes e') one.2 in
      (cc (one.0, two.0), cc (one.1, two.1))

  unique_maybe_abstract : {T : List Name} {p p' : ℕ} {d d' : tree.MaybeDeclarator} {w w' : List Word} → grammar.IsMaybeAbstract T p d w → grammar.IsMaybeAbstract T p' d' w' → p ≡ p' → (r r' : List Word) → Separated r → Separated r' → w ++ r ≡ w' ++ r' → (d ≡ d') × (w ≡ w')
  unique_maybe_abstract grammar.no_abstract grammar.no_abstract sp r r' e e' eq = (refl, refl)
  unique_maybe_abstract grammar.no_abstract (grammar.an_abstract d') sp r r' e e' eq = absurd (abstract_begins d' r r' e eq)
  unique_maybe_abstract (grammar.an_abstract d) grammar.no_abstract sp r r' e e' eq = absurd (abstract_begins d r' r e' (sym eq))
  unique_maybe_abstract (grammar.an_abstract d) (grammar.an_abstract d') sp r r' e e' eq =
      let one = unique_abstract d d' sp r r' e e' eq in
      (cc one.0, one.1)

  unique_abstract : {T : List Name} {p p' : ℕ} {d d' : tree.Declarator} {w w' : List Word} → grammar.IsAbstract T p d w → grammar.IsAbstract T p' d' w' → p ≡ p' → (r r' : List Word) → Separated r → Separated r' → w ++ r ≡ w' ++ r' → (d ≡ d') × (w ≡ w')
  unique_abstract (grammar.with_stars {u = u} {v = v} ns ts) (grammar.with_stars {u = u'} {v = v'} ns' ts') sp r r' e e' eq =
      let one = part u v r u' v' r' (unique_stars ns ns' (v ++ r) (v' ++ r') (suffixes_star ts r e) (suffixes_star ts' r' e')) eq in
      let two = unique_suffixes ts ts' (cc (sp, one.1)) r r' (omega (arith, separated_rank e)) (omega (arith, separated_rank e')) one.2 in
      (cc (sp, one.0, two.0), cc (one.1, two.1))
  unique_abstract (grammar.with_suffixes ts) (grammar.with_suffixes ts') sp r r' e e' eq =
      let one = unique_suffixes ts ts' sp r r' (omega (arith, separated_rank e)) (omega (arith, separated_rank e')) eq in
      (cc (sp, one.0), one.1)
  unique_abstract (grammar.with_inner {u = u} {v = v} {w = w} ns d ts) (grammar.with_inner {u = u'} {v = v'} {w = w'} ns' d' ts') sp r r' e e' eq =
      let one = part u (mark OpenParen ∷ ((mark Star ∷ v) ++ (mark CloseParen ∷ w))) r u' (mark OpenParen ∷ ((mark Star ∷ v') ++ (mark CloseParen ∷ w'))) r' (unique_stars ns ns' (mark OpenParen ∷ (((mark Star ∷ v) ++ (mark CloseParen ∷ w)) ++ r)) (mark OpenParen ∷ (((mark Star ∷ v') ++ (mark CloseParen ∷ w')) ++ r')) (omega arith) (omega arith)) eq in
      let two = part (mark Star ∷ v) (mark CloseParen ∷ w) r (mark Star ∷ v') (mark CloseParen ∷ w') r' (unique_abstract d d' (cc (sp, one.1)) (mark CloseParen ∷ (w ++ r)) (mark CloseParen ∷ (w' ++ r')) (closes close_paren) (closes close_paren)) (rest_same one.2) in
      let three = unique_suffixes ts ts' (cc (sp, one.1, two.1)) r r' (omega (arith, separated_rank e)) (omega (arith, separated_rank e')) (rest_same two.2) in
      (around_same sp one.0 two.0 three.0, cc (one.1, two.1, three.1))
  unique_abstract (grammar.with_stars {n = n} {ns = ms} {u = u} {v = v} ns ts) (grammar.with_suffixes {x = x'} {v = v'} ts') sp r r' e e' eq =
      let one = part u v r [] (x' ∷ v') r' (unique_stars ns no_star (v ++ r) ((x' ∷ v') ++ r') (suffixes_star ts r e) (suffixes_star ts' r' e')) eq in
      absurd (cc one.0)
  unique_abstract (grammar.with_suffixes {x = x} {v = v} ts) (grammar.with_stars {u = u'} {v = v'} ns' ts') sp r r' e e' eq =
      let one = part [] (x ∷ v) r u' v' r' (unique_stars no_star ns' ((x ∷ v) ++ r) (v' ++ r') (suffixes_star ts r e) (suffixes_star ts' r' e')) eq in
      absurd (cc one.0)
  unique_abstract (grammar.with_stars {u = u} {v = v} ns ts) (grammar.with_inner {u = u'} {v = v'} {w = w'} ns' d' ts') sp r r' e e' eq =
      let one = part u v r u' (mark OpenParen ∷ ((mark Star ∷ v') ++ (mark CloseParen ∷ w'))) r' (unique_stars ns ns' (v ++ r) (mark OpenParen ∷ (((mark Star ∷ v') ++ (mark CloseParen ∷ w')) ++ r')) (suffixes_star ts r e) (omega arith)) eq in
      absurd (suffixes_starless ts r e _ (sym one.2))
  unique_abstract (grammar.with_inner {u = u} {v = v} {w = w} ns d ts) (grammar.with_stars {u = u'} {v = v'} ns' ts') sp r r' e e' eq =
      let one = part u (mark OpenParen ∷ ((mark Star ∷ v) ++ (mark CloseParen ∷ w))) r u' v' r' (unique_stars ns ns' (mark OpenParen ∷ (((mark Star ∷ v) ++ (mark CloseParen ∷ w)) ++ r)) (v' ++ r') (omega arith) (suffixes_star ts' r' e')) eq in
      absurd (suffixes_starless ts' r' e' _ one.2)
  unique_abstract (grammar.with_suffixes {x = x} {v = v} ts) (grammar.with_inner {u = u'} {v = v'} {w = w'} ns' d' ts') sp r r' e e' eq =
      let one = part [] (x ∷ v) r u' (mark OpenParen ∷ ((mark Star ∷ v') ++ (mark CloseParen ∷ w'))) r' (unique_stars no_star ns' ((x ∷ v) ++ r) (mark OpenParen ∷ (((mark Star ∷ v') ++ (mark CloseParen ∷ w')) ++ r')) (suffixes_star ts r e) (omega arith)) eq in
      absurd (suffixes_starless ts r e _ (sym one.2))
  unique_abstract (grammar.with_inner {u = u} {v = v} {w = w} ns d ts) (grammar.with_suffixes {x = x'} {v = v'} ts') sp r r' e e' eq =
      let one = part u (mark OpenParen ∷ ((mark Star ∷ v) ++ (mark CloseParen ∷ w))) r [] (x' ∷ v') r' (unique_stars ns no_star (mark OpenParen ∷ (((mark Star ∷ v) ++ (mark CloseParen ∷ w)) ++ r)) ((x' ∷ v') ++ r') (omega arith) (suffixes_star ts' r' e')) eq in
      absurd (suffixes_starless ts' r' e' _ one.2)
