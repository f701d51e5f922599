-- Words have at most one derivation as an initialiser, a declaration, a statement and a unit.
use Rattle.std.proofs.Common.{◌≡◌, ℕ, ◌+◌, ◌<◌, Bool, true, false, List, [], ◌∷◌, ◌++◌, length, sym, subst, ap, refl, ◌∙◌, arith, append_assoc}
use Rattle.im_tok.specs.declared.keyword.Keyword.{Keyword}
use Rattle.im_tok.specs.declared.keyword.Keyword.TheVariants as key
use Rattle.im_tok.specs.declared.punctuator.Punctuator.{Punctuator}
use Rattle.im_tok.specs.declared.punctuator.Punctuator.TheVariants.{OpenParen, CloseParen, OpenBrace, CloseBrace, Colon, Semicolon, Assign, Comma}
use Rattle.im_word.specs.Words.{Name, Word, name, keyword, number, character, text, mark, unknown}
use Rattle.im_ctree.specs.Operators as op
use Rattle.im_ctree.specs.Tree as tree
use Rattle.im_ctree.specs.Grammar as grammar
use Rattle.im_ctree.specs.Grammar.{GoesOnSpecifiers}
use Rattle.im_ctree.specs.Units as units
use Rattle.im_ctree.specs.Typedefs.{has_type, typedef_names, names_behind, names_behind_init, names_behind_external}
use Rattle.im_ctree.specs.Units.{takes_else}
use Rattle.im_ctree.specs.Follow.{Closes, Separated, SpecifierEnds, Starting, StartsDeclarator, StartsExpression, StartsSpecifier, at_character, at_comma, at_enum, at_name, at_number, at_open, at_prefix, at_sizeof, at_step, at_struct, at_text, at_typedef, at_word, close_brace, close_declaration, close_paren, closes, head_brace, head_rank}
use Rattle.im_ctree.proofs.Ranks.{rest_same, behind, part, starting_append, meets, apart, head_closing, closes_rank, separated_rank, not_expression, not_specifier, not_closing, assign_starts, expression_starts, specifiers_starts}
use Rattle.im_ctree.proofs.Behind.{goes_named, declarator_starts, starting_follows, declarator_follows, separated_undeclared, separated_code}
use Rattle.im_ctree.proofs.Unique.{unique_expression, unique_assign, unique_conditional, unique_specifiers, unique_declarator}

-- first words
no_expression_brace : {T : List Name} {x : Word} (v : List Word) → StartsExpression T x → head_brace (x ∷ v) ≡ 0
no_expression_brace v (at_name free) = refl
no_expression_brace v at_number = refl
no_expression_brace v at_character = refl
no_expression_brace v at_text = refl
no_expression_brace v at_open = refl
no_expression_brace v (at_step op.increment) = refl
no_expression_brace v (at_step op.decrement) = refl
no_expression_brace v (at_prefix op.address_of) = refl
no_expression_brace v (at_prefix op.dereference) = refl
no_expression_brace v (at_prefix op.plus) = refl
no_expression_brace v (at_prefix op.minus) = refl
no_expression_brace v (at_prefix op.bit_not) = refl
no_expression_brace v (at_prefix op.not) = refl
no_expression_brace v at_sizeof = refl

assign_brace : {T : List Name} {p : ℕ} {t : tree.Expression} (w : List Word) → grammar.IsAssignment T p t w → (z : List Word) → head_brace (w ++ z) ≡ 0
assign_brace w d z = let s = assign_starts d in ap (λ y. head_brace (y ++ z)) s.2 ∙ no_expression_brace (s.1 ++ z) s.3

init_declarators_starts : {T : List Name} {p : ℕ} {ds : tree.InitDeclarators} {w : List Word} → units.IsInitDeclarators T p ds w → Starting StartsDeclarator w
init_declarators_starts (units.last_declarator {u = u} {v = v} d i) = starting_append u v (declarator_starts d)
init_declarators_starts (units.next_declarator {u = u} {v = v} {w = w} d i ds) = starting_append u (v ++ (mark Comma ∷ w)) (declarator_starts d)

declaration_starts : {T : List Name} {p : ℕ} {d : tree.Declaration} {w : List Word} → units.IsDeclaration T p d w → Starting (StartsSpecifier T) w
declaration_starts (units.declares_none {u = u} s) = starting_append u (mark Semicolon ∷ []) (specifiers_starts s)
declaration_starts (units.declares {u = u} {v = v} s none ds) = starting_append u (v ++ (mark Semicolon ∷ [])) (specifiers_starts s)

-- initialisers
initializer_tail_ends : {T : List Name} {p : ℕ} {xs : tree.Initializers} {v : List Word} → units.InitializerTail T p xs v → (r : List Word) → Closes r → Separated (v ++ r)
initializer_tail_ends units.last_initializer r e = closes e
initializer_tail_ends units.last_comma r e = at_comma
initializer_tail_ends (units.next_initializer x rest) r e = at_comma

not_initializer : {T : List Name} {p : ℕ} {x : tree.Initializer} (u z : List Word) {r : List Word} → units.IsInitializer T p x u → Closes r → r ≡ u ++ z → ⊥
not_initializer u z (units.a_value d) e eq = not_expression u z e (assign_starts d) eq
not_initializer _ z (units.braced x rest) e eq = not_closing e eq refl

mutual
  unique_initializer : {T : List Name} {p p' : ℕ} {x x' : tree.Initializer} {w w' : List Word} → units.IsInitializer T p x w → units.IsInitializer T p' x' w' → p ≡ p' → (r r' : List Word) → Separated r → Separated r' → w ++ r ≡ w' ++ r' → (x ≡ x') × (w ≡ w')
  unique_initializer (units.a_value a) (units.a_value a') sp r r' e e' eq =
      let one = unique_assign a a' sp r r' (separated_rank e) (separated_rank e') eq in
      (cc one.0, one.1)
  unique_initializer (units.braced {u = u} {v = v} x rest) (units.braced {u = u'} {v = v'} x' rest') sp r r' e e' eq =
      let y = mark CloseBrace ∷ [] in
      let one = part u (v ++ y) r u' (v' ++ y) r' (unique_initializer x x' (cc sp) ((v ++ y) ++ r) ((v' ++ y) ++ r') (subst Separated (sym (append_assoc v y r)) (initializer_tail_ends rest (mark CloseBrace ∷ r) close_brace)) (subst Separated (sym (append_assoc v' y r')) (initializer_tail_ends rest' (mark CloseBrace ∷ r') close_brace))) (rest_same eq) in
      let two = part v y r v' y r' (unique_initializer_tail rest rest' (cc (sp, one.1)) (mark CloseBrace ∷ r) (mark CloseBrace ∷ r') close_brace close_brace) one.2 in
      (cc (sp, one.0, two.0), cc (one.1, two.1))
  unique_initializer (units.a_value {u = u} a) (units.braced x' rest') sp r r' e e' eq = absurd (omega (arith, assign_brace u a r, ap head_brace eq))
  unique_initializer (units.braced x rest) (units.a_value {u = u'} a') sp r r' e e' eq = absurd (omega (arith, assign_brace u' a' r', ap head_brace eq))

  unique_initializer_tail : {T : List Name} {p p' : ℕ} {xs xs' : tree.Initializers} {w w' : List Word} → units.InitializerTail T p xs w → units.InitializerTail T p' xs' w' → p ≡ p' → (r r' : List Word) → Closes r → Closes r' → w ++ r ≡ w' ++ r' → (xs ≡ xs') × (w ≡ w')
  unique_initializer_tail units.last_initializer units.last_initializer sp r r' e e' eq = (refl, refl)
  unique_initializer_tail units.last_initializer units.last_comma sp r r' e e' eq = absurd (not_closing e eq refl)
  unique_initializer_tail units.last_initializer (units.next_initializer x' rest') sp r r' e e' eq = absurd (not_closing e eq refl)
  unique_initializer_tail units.last_comma units.last_initializer sp r r' e e' eq = absurd (not_closing e' (sym eq) refl)
  unique_initializer_tail (units.next_initializer x rest) units.last_initializer sp r r' e e' eq = absurd (not_closing e' (sym eq) refl)
  unique_initializer_tail units.last_comma units.last_comma sp r r' e e' eq = (refl, refl)
  unique_initializer_tail units.last_comma (units.next_initializer {u = u'} {v = v'} x' rest') sp r r' e e' eq = absurd (not_initializer u' (v' ++ r') x' e (rest_same eq ∙ append_assoc u' v' r'))
  unique_initializer_tail (units.next_initializer {u = u} {v = v} x rest) units.last_comma sp r r' e e' eq = absurd (not_initializer u (v ++ r) x e' (sym (rest_same eq) ∙ append_assoc u v r))
  unique_initializer_tail (units.next_initializer {u = u} {v = v} x rest) (units.next_initializer {u = u'} {v = v'} x' rest') sp r r' e e' eq =
      let one = part u v r u' v' r' (unique_initializer x x' (cc sp) (v ++ r) (v' ++ r') (initializer_tail_ends rest r e) (initializer_tail_ends rest' r' e')) (rest_same eq) in
      let two = unique_initializer_tail rest rest' (cc (sp, one.1)) r r' e e' one.2 in
      (cc (one.0, two.0), cc (one.1, two.1))

not_assigned : {r v : List Word} → Separated r → r ≡ mark Assign ∷ v → ⊥
not_assigned e eq = omega (arith, separated_code e, ap (λ y. head_closing y + head_rank y) eq)

unique_maybe_initializer : {T : List Name} {p p' : ℕ} {x x' : tree.MaybeInitializer} {w w' : List Word} → units.IsMaybeInitializer T p x w → units.IsMaybeInitializer T p' x' w' → p ≡ p' → (r r' : List Word) → Separated r → Separated r' → w ++ r ≡ w' ++ r' → (x ≡ x') × (w ≡ w')
unique_maybe_initializer units.not_initialized units.not_initialized sp r r' e e' eq = (refl, refl)
unique_maybe_initializer units.not_initialized (units.initialized x') sp r r' e e' eq = absurd (not_assigned e eq)
unique_maybe_initializer (units.initialized x) units.not_initialized sp r r' e e' eq = absurd (not_assigned e' (sym eq))
unique_maybe_initializer (units.initialized x) (units.initialized x') sp r r' e e' eq =
    let one = unique_initializer x x' (cc sp) r r' e e' (rest_same eq) in
    (cc one.0, cc one.1)

maybe_initializer_ends : {T : List Name} {p : ℕ} {x : tree.MaybeInitializer} {v : List Word} → units.IsMaybeInitializer T p x v → (r : List Word) → Separated r → head_rank (v ++ r) < 14
maybe_initializer_ends units.not_initialized r e = omega (arith, separated_rank e)
maybe_initializer_ends (units.initialized x) r e = omega arith

unique_init_declarators : {T : List Name} {p p' : ℕ} {ds ds' : tree.InitDeclarators} {w w' : List Word} → units.IsInitDeclarators T p ds w → units.IsInitDeclarators T p' ds' w' → p ≡ p' → (r r' : List Word) → Closes r → Closes r' → w ++ r ≡ w' ++ r' → (ds ≡ ds') × (w ≡ w')
unique_init_declarators (units.last_declarator {u = u} {v = v} d i) (units.last_declarator {u = u'} {v = v'} d' i') sp r r' e e' eq =
    let one = part u v r u' v' r' (unique_declarator d d' sp (v ++ r) (v' ++ r') (maybe_initializer_ends i r (closes e)) (maybe_initializer_ends i' r' (closes e'))) eq in
    let two = unique_maybe_initializer i i' (cc (sp, one.1)) r r' (closes e) (closes e') one.2 in
    (cc (one.0, two.0), cc (one.1, two.1))
unique_init_declarators (units.next_declarator {u = u} {v = v} {w = w} d i ds) (units.next_declarator {u = u'} {v = v'} {w = w'} d' i' ds') sp r r' e e' eq =
    let y = mark Comma ∷ w in
    let y' = mark Comma ∷ w' in
    let one = part u (v ++ y) r u' (v' ++ y') r' (unique_declarator d d' sp ((v ++ y) ++ r) ((v' ++ y') ++ r') (subst (λ z. head_rank z < 14) (sym (append_assoc v y r)) (maybe_initializer_ends i (y ++ r) at_comma)) (subst (λ z. head_rank z < 14) (sym (append_assoc v' y' r')) (maybe_initializer_ends i' (y' ++ r') at_comma))) eq in
    let two = part v y r v' y' r' (unique_maybe_initializer i i' (cc (sp, one.1)) (y ++ r) (y' ++ r') at_comma at_comma) one.2 in
    let three = unique_init_declarators ds ds' (cc (sp, one.1, two.1)) r r' e e' (rest_same two.2) in
    (cc (one.0, two.0, three.0), cc (one.1, two.1, three.1))
unique_init_declarators (units.last_declarator {u = u} {v = v} d i) (units.next_declarator {u = u'} {v = v'} {w = w'} d' i' ds') sp r r' e e' eq =
    let y' = mark Comma ∷ w' in
    let one = part u v r u' (v' ++ y') r' (unique_declarator d d' sp (v ++ r) ((v' ++ y') ++ r') (maybe_initializer_ends i r (closes e)) (subst (λ z. head_rank z < 14) (sym (append_assoc v' y' r')) (maybe_initializer_ends i' (y' ++ r') at_comma))) eq in
    let eq2 : v ++ r ≡ v' ++ (y' ++ r') = one.2 ∙ append_assoc v' y' r' in
    let two = unique_maybe_initializer i i' (cc (sp, one.1)) r (y' ++ r') (closes e) at_comma eq2 in
    absurd (not_closing e (behind v r v' (y' ++ r') two.1 eq2) refl)
unique_init_declarators (units.next_declarator {u = u} {v = v} {w = w} d i ds) (units.last_declarator {u = u'} {v = v'} d' i') sp r r' e e' eq =
    let y = mark Comma ∷ w in
    let one = part u (v ++ y) r u' v' r' (unique_declarator d d' sp ((v ++ y) ++ r) (v' ++ r') (subst (λ z. head_rank z < 14) (sym (append_assoc v y r)) (maybe_initializer_ends i (y ++ r) at_comma)) (maybe_initializer_ends i' r' (closes e'))) eq in
    let eq2 : v ++ (y ++ r) ≡ v' ++ r' = sym (append_assoc v y r) ∙ one.2 in
    let two = unique_maybe_initializer i i' (cc (sp, one.1)) (y ++ r) r' at_comma (closes e') eq2 in
    absurd (not_closing e' (sym (behind v (y ++ r) v' r' two.1 eq2)) refl)

-- declarations
ends_declaration : {T : List Name} {seen : Bool} (r : List Word) → SpecifierEnds T seen (mark Semicolon ∷ r)
ends_declaration r = (refl, λ g. omega (arith, goes_named g))

init_declarators_follow : {T : List Name} {seen : Bool} {p : ℕ} {ds : tree.InitDeclarators} (v : List Word) → units.IsInitDeclarators T p ds v → (GoesOnSpecifiers T seen v → ⊥) → (r : List Word) → SpecifierEnds T seen ((v ++ (mark Semicolon ∷ [])) ++ r)
init_declarators_follow {T = T} {seen = seen} v ds none r =
    subst (SpecifierEnds T seen) (sym (append_assoc v (mark Semicolon ∷ []) r)) (starting_follows v (init_declarators_starts ds) none (mark Semicolon ∷ r))

-- no declarator begins with what closes
not_declarator : (v z : List Word) {r : List Word} → Closes r → Starting StartsDeclarator v → r ≡ v ++ z → ⊥
not_declarator v z e s eq = separated_undeclared (closes e) (eq ∙ ap (λ y. y ++ z) s.2) s.3

unique_declaration : {T : List Name} {p p' : ℕ} {d d' : tree.Declaration} {w w' : List Word} → units.IsDeclaration T p d w → units.IsDeclaration T p' d' w' → p ≡ p' → (r r' : List Word) → w ++ r ≡ w' ++ r' → (d ≡ d') × (w ≡ w')
unique_declaration (units.declares_none {u = u} s) (units.declares_none {u = u'} s') sp r r' eq =
    let y = mark Semicolon ∷ [] in
    let one = part u y r u' y r' (unique_specifiers s s' sp (y ++ r) (y ++ r') (ends_declaration r) (ends_declaration r')) eq in
    (cc one.0, cc one.1)
unique_declaration (units.declares {u = u} {v = v} s none ds) (units.declares {u = u'} {v = v'} s' none' ds') sp r r' eq =
    let y = mark Semicolon ∷ [] in
    let one = part u (v ++ y) r u' (v' ++ y) r' (unique_specifiers s s' sp ((v ++ y) ++ r) ((v' ++ y) ++ r') (init_declarators_follow v ds none r) (init_declarators_follow v' ds' none' r')) eq in
    let two = part v y r v' y r' (unique_init_declarators ds ds' (cc (sp, one.1)) (y ++ r) (y ++ r') close_declaration close_declaration) one.2 in
    (cc (one.0, two.0), cc (one.1, two.1))
unique_declaration (units.declares_none {u = u} s) (units.declares {u = u'} {v = v'} s' none' ds') sp r r' eq =
    let y = mark Semicolon ∷ [] in
    let one = part u y r u' (v' ++ y) r' (unique_specifiers s s' sp (y ++ r) ((v' ++ y) ++ r') (ends_declaration r) (init_declarators_follow v' ds' none' r')) eq in
    absurd (not_declarator v' (y ++ r') close_declaration (init_declarators_starts ds') (one.2 ∙ append_assoc v' y r'))
unique_declaration (units.declares {u = u} {v = v} s none ds) (units.declares_none {u = u'} s') sp r r' eq =
    let y = mark Semicolon ∷ [] in
    let one = part u (v ++ y) r u' y r' (unique_specifiers s s' sp ((v ++ y) ++ r) (y ++ r') (init_declarators_follow v ds none r) (ends_declaration r')) eq in
    absurd (not_declarator v (y ++ r) close_declaration (init_declarators_starts ds) (sym one.2 ∙ append_assoc v y r))

unique_maybe_expression : {T : List Name} {p p' : ℕ} {x x' : tree.MaybeExpression} {w w' : List Word} → units.IsMaybeExpression T p x w → units.IsMaybeExpression T p' x' w' → p ≡ p' → (r r' : List Word) → Closes r → Closes r' → w ++ r ≡ w' ++ r' → (x ≡ x') × (w ≡ w')
unique_maybe_expression units.nothing units.nothing sp r r' e e' eq = (refl, refl)
unique_maybe_expression units.nothing (units.something {u = u'} x') sp r r' e e' eq = absurd (not_expression u' r' e (expression_starts x') eq)
unique_maybe_expression (units.something {u = u} x) units.nothing sp r r' e e' eq = absurd (not_expression u r e' (expression_starts x) (sym eq))
unique_maybe_expression (units.something x) (units.something x') sp r r' e e' eq =
    let one = unique_expression x x' sp r r' (omega (arith, closes_rank e)) (omega (arith, closes_rank e')) eq in
    (cc one.0, one.1)

semicolon_not_specifier : {T : List Name} → StartsSpecifier T (mark Semicolon) → ⊥
semicolon_not_specifier is = elim is [ ]

true_false : true ≡ false → ⊥
true_false eq = cc eq

-- a declaration is no expression before a semicolon
declaration_not_expression : {T : List Name} {p p' : ℕ} {d : tree.Declaration} {x : tree.MaybeExpression} (w u : List Word) → units.IsDeclaration T p d w → units.IsMaybeExpression T p' x u → (r r' : List Word) → w ++ r ≡ (u ++ (mark Semicolon ∷ [])) ++ r' → ⊥
declaration_not_expression w _ d units.nothing r r' eq = semicolon_not_specifier (meets (w ++ r) (starting_append w r (declaration_starts d)) eq)
declaration_not_expression w _ d (units.something {u = u} x) r r' eq =
    let s = expression_starts x in
    apart s.3 (meets (w ++ r) (starting_append w r (declaration_starts d)) (eq ∙ ap (λ z. (z ++ (mark Semicolon ∷ [])) ++ r') s.2))

unique_for_init : {T : List Name} {p p' : ℕ} {i i' : tree.ForInit} {w w' : List Word} → units.IsForInit T p i w → units.IsForInit T p' i' w' → p ≡ p' → (r r' : List Word) → w ++ r ≡ w' ++ r' → (i ≡ i') × (w ≡ w')
unique_for_init (units.begins_with_declaration d) (units.begins_with_declaration d') sp r r' eq =
    let one = unique_declaration d d' sp r r' eq in
    (cc one.0, one.1)
unique_for_init (units.begins_with_expression {u = u} x) (units.begins_with_expression {u = u'} x') sp r r' eq =
    let y = mark Semicolon ∷ [] in
    let one = part u y r u' y r' (unique_maybe_expression x x' sp (y ++ r) (y ++ r') close_declaration close_declaration) eq in
    (cc one.0, cc one.1)
unique_for_init (units.begins_with_declaration {u = w} d) (units.begins_with_expression {u = u'} x') sp r r' eq = absurd (declaration_not_expression w u' d x' r r' eq)
unique_for_init (units.begins_with_expression {u = u} x) (units.begins_with_declaration {u = w'} d') sp r r' eq = absurd (declaration_not_expression w' u d' x r' r (sym eq))

-- which line a statement is, by its first word
abbrev pub statement_line : {T : List Name} {p : ℕ} {s : tree.Statement} {w : List Word} → units.IsStatement T p s w → ℕ
statement_line (units.blocks b) = 0
statement_line (units.computes e) = 1
statement_line (units.ifs e s) = 2
statement_line (units.if_elses e s none t) = 2
statement_line (units.whiles e s) = 3
statement_line (units.dos s e) = 4
statement_line (units.fors i c n s) = 5
statement_line (units.switches e b) = 6
statement_line (units.cases e s) = 7
statement_line (units.defaults s) = 8
statement_line units.breaks = 9
statement_line units.continues = 10
statement_line (units.returns e) = 11

abbrev keyword_statement : Keyword → ℕ
keyword_statement key.If = 2
keyword_statement key.While = 3
keyword_statement key.Do = 4
keyword_statement key.For = 5
keyword_statement key.Switch = 6
keyword_statement key.Case = 7
keyword_statement key.Default = 8
keyword_statement key.Break = 9
keyword_statement key.Continue = 10
keyword_statement key.Return = 11
keyword_statement _ = 1

abbrev mark_statement : Punctuator → ℕ
mark_statement OpenBrace = 0
mark_statement CloseBrace = 12
mark_statement _ = 1

abbrev head_statement : List Word → ℕ
head_statement [] = 1
head_statement (keyword k ∷ v) = keyword_statement k
head_statement (mark m ∷ v) = mark_statement m
head_statement (name n ∷ v) = 1
head_statement (number n ∷ v) = 1
head_statement (character n ∷ v) = 1
head_statement (text s ∷ v) = 1
head_statement (unknown ∷ v) = 12

expression_statement : {T : List Name} {x : Word} (v : List Word) → StartsExpression T x → 1 ≡ head_statement (x ∷ v)
expression_statement v (at_name free) = refl
expression_statement v at_number = refl
expression_statement v at_character = refl
expression_statement v at_text = refl
expression_statement v at_open = refl
expression_statement v (at_step op.increment) = refl
expression_statement v (at_step op.decrement) = refl
expression_statement v (at_prefix op.address_of) = refl
expression_statement v (at_prefix op.dereference) = refl
expression_statement v (at_prefix op.plus) = refl
expression_statement v (at_prefix op.minus) = refl
expression_statement v (at_prefix op.bit_not) = refl
expression_statement v (at_prefix op.not) = refl
expression_statement v at_sizeof = refl

computes_code : {T : List Name} {p : ℕ} {x : tree.MaybeExpression} {u : List Word} → units.IsMaybeExpression T p x u → (r : List Word) → 1 ≡ head_statement ((u ++ (mark Semicolon ∷ [])) ++ r)
computes_code units.nothing r = refl
computes_code (units.something x) r =
    let s = expression_starts x in
    expression_statement ((s.1 ++ (mark Semicolon ∷ [])) ++ r) s.3 ∙ ap (λ z. head_statement ((z ++ (mark Semicolon ∷ [])) ++ r)) (sym s.2)

block_code : {T : List Name} {p : ℕ} {b : tree.Block} {w : List Word} → units.IsBlock T p b w → (r : List Word) → 0 ≡ head_statement (w ++ r)
block_code (units.a_block is) r = refl

statement_code : {T : List Name} {p : ℕ} {s : tree.Statement} {w : List Word} (d : units.IsStatement T p s w) (r : List Word) → statement_line d ≡ head_statement (w ++ r)
statement_code (units.blocks b) r = block_code b r
statement_code (units.computes e) r = computes_code e r
statement_code (units.ifs e s) r = refl
statement_code (units.if_elses e s none t) r = refl
statement_code (units.whiles e s) r = refl
statement_code (units.dos s e) r = refl
statement_code (units.fors i c n s) r = refl
statement_code (units.switches e b) r = refl
statement_code (units.cases e s) r = refl
statement_code (units.defaults s) r = refl
statement_code units.breaks r = refl
statement_code units.continues r = refl
statement_code (units.returns e) r = refl

statement_clash : {T T' : List Name} {p p' : ℕ} {s s' : tree.Statement} {w w' : List Word} (d : units.IsStatement T p s w) (d' : units.IsStatement T' p' s' w') (r r' : List Word) → w ++ r ≡ w' ++ r' → statement_line d ≡ statement_line d'
statement_clash d d' r r' eq = statement_code d r ∙ ap head_statement eq ∙ sym (statement_code d' r')

line_bound : {T : List Name} {p : ℕ} {s : tree.Statement} {w : List Word} (d : units.IsStatement T p s w) → statement_line d < 12
line_bound (units.blocks b) = omega arith
line_bound (units.computes e) = omega arith
line_bound (units.ifs e s) = omega arith
line_bound (units.if_elses e s none t) = omega arith
line_bound (units.whiles e s) = omega arith
line_bound (units.dos s e) = omega arith
line_bound (units.fors i c n s) = omega arith
line_bound (units.switches e b) = omega arith
line_bound (units.cases e s) = omega arith
line_bound (units.defaults s) = omega arith
line_bound units.breaks = omega arith
line_bound units.continues = omega arith
line_bound (units.returns e) = omega arith

-- no statement begins with a closing brace
not_statement : {T : List Name} {p : ℕ} {s : tree.Statement} (u z : List Word) {v : List Word} → units.IsStatement T p s u → mark CloseBrace ∷ v ≡ u ++ z → ⊥
not_statement u z d eq = omega (arith, line_bound d, statement_code d z, ap head_statement eq)

-- what begins specifiers begins no statement: by the lines of statements where it is a keyword
specifier_statement : {T : List Name} {x : Word} (v : List Word) → StartsSpecifier T x → 1 ≡ head_statement (x ∷ v)
specifier_statement v (at_typedef is) = refl
specifier_statement v (at_word op.typedef) = refl
specifier_statement v (at_word op.extern) = refl
specifier_statement v (at_word op.static) = refl
specifier_statement v (at_word op.const) = refl
specifier_statement v (at_word op.void) = refl
specifier_statement v (at_word op.char) = refl
specifier_statement v (at_word op.short) = refl
specifier_statement v (at_word op.int) = refl
specifier_statement v (at_word op.long) = refl
specifier_statement v (at_word op.signed) = refl
specifier_statement v (at_word op.unsigned) = refl
specifier_statement v at_struct = refl
specifier_statement v at_enum = refl

specifier_code : {T : List Name} (w z : List Word) → Starting (StartsSpecifier T) w → 1 ≡ head_statement (w ++ z)
specifier_code w z s = specifier_statement (s.1 ++ z) s.3 ∙ ap (λ y. head_statement (y ++ z)) (sym s.2)

declaration_not_statement : {T : List Name} {p p' : ℕ} {d : tree.Declaration} {s : tree.Statement} (w w' : List Word) → units.IsDeclaration T p d w → units.IsStatement T p' s w' → (r r' : List Word) → w ++ r ≡ w' ++ r' → ⊥
declaration_not_statement w _ d (units.computes {u = u} e) r r' eq = declaration_not_expression w u d e r r' eq
declaration_not_statement w w' d s r r' eq = omega (arith, specifier_code w r (declaration_starts d), ap head_statement eq, statement_code s r')

-- an `else`
abbrev keyword_else : Keyword → ℕ
keyword_else key.Else = 1
keyword_else _ = 0

abbrev pub head_else : List Word → ℕ
head_else (keyword k ∷ v) = keyword_else k
head_else _ = 0

abbrev pub StatementEnds : tree.Statement → List Word → Type 0
StatementEnds s r = takes_else s ≡ true → head_else r ≡ 0

no_else : (s : tree.Statement) (r : List Word) → takes_else s ≡ false → StatementEnds s r
no_else s r none taken = absurd (true_false (sym taken ∙ none))

specifier_else : {T : List Name} {x : Word} (v : List Word) → StartsSpecifier T x → head_else (x ∷ v) ≡ 0
specifier_else v (at_typedef is) = refl
specifier_else v (at_word op.typedef) = refl
specifier_else v (at_word op.extern) = refl
specifier_else v (at_word op.static) = refl
specifier_else v (at_word op.const) = refl
specifier_else v (at_word op.void) = refl
specifier_else v (at_word op.char) = refl
specifier_else v (at_word op.short) = refl
specifier_else v (at_word op.int) = refl
specifier_else v (at_word op.long) = refl
specifier_else v (at_word op.signed) = refl
specifier_else v (at_word op.unsigned) = refl
specifier_else v at_struct = refl
specifier_else v at_enum = refl

expression_else : {T : List Name} {x : Word} (v : List Word) → StartsExpression T x → head_else (x ∷ v) ≡ 0
expression_else v (at_name free) = refl
expression_else v at_number = refl
expression_else v at_character = refl
expression_else v at_text = refl
expression_else v at_open = refl
expression_else v (at_step is) = refl
expression_else v (at_prefix is) = refl
expression_else v at_sizeof = refl

maybe_else : {T : List Name} {p : ℕ} {x : tree.MaybeExpression} {u : List Word} → units.IsMaybeExpression T p x u → (r : List Word) → head_else ((u ++ (mark Semicolon ∷ [])) ++ r) ≡ 0
maybe_else units.nothing r = refl
maybe_else (units.something x) r =
    let s = expression_starts x in
    ap (λ z. head_else ((z ++ (mark Semicolon ∷ [])) ++ r)) s.2 ∙ expression_else ((s.1 ++ (mark Semicolon ∷ [])) ++ r) s.3

block_else : {T : List Name} {p : ℕ} {b : tree.Block} {w : List Word} → units.IsBlock T p b w → (r : List Word) → head_else (w ++ r) ≡ 0
block_else (units.a_block is) r = refl

statement_else : {T : List Name} {p : ℕ} {s : tree.Statement} {w : List Word} → units.IsStatement T p s w → (r : List Word) → head_else (w ++ r) ≡ 0
statement_else (units.blocks b) r = block_else b r
statement_else (units.computes e) r = maybe_else e r
statement_else (units.ifs e s) r = refl
statement_else (units.if_elses e s none t) r = refl
statement_else (units.whiles e s) r = refl
statement_else (units.dos s e) r = refl
statement_else (units.fors i c n s) r = refl
statement_else (units.switches e b) r = refl
statement_else (units.cases e s) r = refl
statement_else (units.defaults s) r = refl
statement_else units.breaks r = refl
statement_else units.continues r = refl
statement_else (units.returns e) r = refl

items_else : {T : List Name} {p : ℕ} {is : tree.BlockItems} {w : List Word} → units.IsBlockItems T p is w → (r : List Word) → head_else (w ++ (mark CloseBrace ∷ r)) ≡ 0
items_else units.no_item r = refl
items_else (units.next_declaration {u = u} {v = v} d is) r =
    let s = declaration_starts d in
    ap (λ z. head_else ((z ++ v) ++ (mark CloseBrace ∷ r))) s.2 ∙ specifier_else ((s.1 ++ v) ++ (mark CloseBrace ∷ r)) s.3
items_else (units.next_statement {u = u} {v = v} s is) r = ap head_else (append_assoc u v (mark CloseBrace ∷ r)) ∙ statement_else s (v ++ (mark CloseBrace ∷ r))

-- the same derivations, with other names for the same typedef names
move_expression : {T T' : List Name} {p : ℕ} {t : tree.Expression} {w : List Word} → T ≡ T' → grammar.IsExpression T' p t w → grammar.IsExpression T p t w
move_expression {p = p} {t = t} {w = w} same d = subst (λ z. grammar.IsExpression z p t w) (sym same) d

move_conditional : {T T' : List Name} {p : ℕ} {t : tree.Expression} {w : List Word} → T ≡ T' → grammar.IsConditional T' p t w → grammar.IsConditional T p t w
move_conditional {p = p} {t = t} {w = w} same d = subst (λ z. grammar.IsConditional z p t w) (sym same) d

move_maybe : {T T' : List Name} {p : ℕ} {t : tree.MaybeExpression} {w : List Word} → T ≡ T' → units.IsMaybeExpression T' p t w → units.IsMaybeExpression T p t w
move_maybe {p = p} {t = t} {w = w} same d = subst (λ z. units.IsMaybeExpression z p t w) (sym same) d

move_declaration : {T T' : List Name} {p : ℕ} {d : tree.Declaration} {w : List Word} → T ≡ T' → units.IsDeclaration T' p d w → units.IsDeclaration T p d w
move_declaration {p = p} {d = t} {w = w} same d = subst (λ z. units.IsDeclaration z p t w) (sym same) d

move_for_init : {T T' : List Name} {p : ℕ} {i : tree.ForInit} {w : List Word} → T ≡ T' → units.IsForInit T' p i w → units.IsForInit T p i w
move_for_init {p = p} {i = i} {w = w} same d = subst (λ z. units.IsForInit z p i w) (sym same) d

-- the parentheses of a statement
in_parentheses : {T T' : List Name} {p p' : ℕ} {t t' : tree.Expression} (u v r u' v' r' : List Word) → grammar.IsExpression T p t u → grammar.IsExpression T' p' t' u' → T ≡ T' → p ≡ p' → (u ++ (mark CloseParen ∷ v)) ++ r ≡ (u' ++ (mark CloseParen ∷ v')) ++ r' → (t ≡ t') × (u ≡ u') × (v ++ r ≡ v' ++ r')
in_parentheses u v r u' v' r' d d' same sp eq =
    let one = part u (mark CloseParen ∷ v) r u' (mark CloseParen ∷ v') r' (unique_expression d (move_expression same d') sp (mark CloseParen ∷ (v ++ r)) (mark CloseParen ∷ (v' ++ r')) (omega arith) (omega arith)) eq in
    (one.0, one.1, rest_same one.2)

-- the typedef names behind the same
behind_same : {T T' : List Name} {s s' : tree.Statement} → T ≡ T' → s ≡ s' → names_behind T s ≡ names_behind T' s'
behind_same {T' = T'} {s = s} sT ss = ap (λ z. names_behind z s) sT ∙ ap (λ z. names_behind T' z) ss

init_same : {T T' : List Name} {i i' : tree.ForInit} → T ≡ T' → i ≡ i' → names_behind_init T i ≡ names_behind_init T' i'
init_same {T' = T'} {i = i} sT si = ap (λ z. names_behind_init z i) sT ∙ ap (λ z. names_behind_init T' z) si

external_same : {T T' : List Name} {x x' : tree.External} → T ≡ T' → x ≡ x' → names_behind_external T x ≡ names_behind_external T' x'
external_same {T' = T'} {x = x} sT sx = ap (λ z. names_behind_external z x) sT ∙ ap (λ z. names_behind_external T' z) sx

mutual
  unique_block : {T T' : List Name} {p p' : ℕ} {b b' : tree.Block} {w w' : List Word} → units.IsBlock T p b w → units.IsBlock T' p' b' w' → T ≡ T' → p ≡ p' → (r r' : List Word) → w ++ r ≡ w' ++ r' → (b ≡ b') × (w ≡ w')
  unique_block (units.a_block {u = u} is) (units.a_block {u = u'} is') sT sp r r' eq =
      let y = mark CloseBrace ∷ [] in
      let one = part u y r u' y r' (unique_items is is' sT (cc sp) r r') (rest_same eq) in
      (cc (sp, one.0), cc one.1)

  unique_items : {T T' : List Name} {p p' : ℕ} {is is' : tree.BlockItems} {w w' : List Word} → units.IsBlockItems T p is w → units.IsBlockItems T' p' is' w' → T ≡ T' → p ≡ p' → (r r' : List Word) → w ++ (mark CloseBrace ∷ r) ≡ w' ++ (mark CloseBrace ∷ r') → (is ≡ is') × (w ≡ w')
  unique_items units.no_item units.no_item sT sp r r' eq = (refl, refl)
  unique_items units.no_item (units.next_declaration {u = u'} {v = v'} d' is') sT sp r r' eq = absurd (not_specifier u' (v' ++ (mark CloseBrace ∷ r')) close_brace (declaration_starts d') (eq ∙ append_assoc u' v' (mark CloseBrace ∷ r')))
  unique_items units.no_item (units.next_statement {u = u'} {v = v'} s' is') sT sp r r' eq = absurd (not_statement u' (v' ++ (mark CloseBrace ∷ r')) s' (eq ∙ append_assoc u' v' (mark CloseBrace ∷ r')))
  unique_items (units.next_declaration {u = u} {v = v} d is) units.no_item sT sp r r' eq = absurd (not_specifier u (v ++ (mark CloseBrace ∷ r)) close_brace (declaration_starts d) (sym eq ∙ append_assoc u v (mark CloseBrace ∷ r)))
  unique_items (units.next_statement {u = u} {v = v} s is) units.no_item sT sp r r' eq = absurd (not_statement u (v ++ (mark CloseBrace ∷ r)) s (sym eq ∙ append_assoc u v (mark CloseBrace ∷ r)))
  unique_items (units.next_declaration {T = T} {d = t} {u = u} {v = v} d is) (units.next_declaration {T = T'} {d = t'} {u = u'} {v = v'} d' is') sT sp r r' eq =
      let z = mark CloseBrace ∷ r in
      let z' = mark CloseBrace ∷ r' in
      let one = part u v z u' v' z' (unique_declaration d (move_declaration sT d') sp (v ++ z) (v' ++ z')) eq in
      let sU : typedef_names T t ≡ typedef_names T' t' = ap (λ y. typedef_names y t) sT ∙ ap (λ y. typedef_names T' y) one.0 in
      let two = unique_items is is' sU (cc (sp, one.1)) r r' one.2 in
      (cc (one.0, two.0), cc (one.1, two.1))
  unique_items (units.next_statement {u = u} {v = v} s is) (units.next_statement {u = u'} {v = v'} s' is') sT sp r r' eq =
      let z = mark CloseBrace ∷ r in
      let z' = mark CloseBrace ∷ r' in
      let one = part u v z u' v' z' (unique_statement s s' sT sp (v ++ z) (v' ++ z') (λ h. items_else is r) (λ h. items_else is' r')) eq in
      let two = unique_items is is' (behind_same sT one.0) (cc (sp, one.1)) r r' one.2 in
      (cc (one.0, two.0), cc (one.1, two.1))
  unique_items (units.next_declaration {u = u} {v = v} d is) (units.next_statement {u = u'} {v = v'} s' is') sT sp r r' eq =
      let z = mark CloseBrace ∷ r in
      let z' = mark CloseBrace ∷ r' in
      absurd (declaration_not_statement u u' (move_declaration (sym sT) d) s' (v ++ z) (v' ++ z') (sym (append_assoc u v z) ∙ eq ∙ append_assoc u' v' z'))
  unique_items (units.next_statement {u = u} {v = v} s is) (units.next_declaration {u = u'} {v = v'} d' is') sT sp r r' eq =
      let z = mark CloseBrace ∷ r in
      let z' = mark CloseBrace ∷ r' in
      absurd (declaration_not_statement u' u (move_declaration sT d') s (v' ++ z') (v ++ z) (sym (append_assoc u' v' z') ∙ sym eq ∙ append_assoc u v z))

  unique_statement : {T T' : List Name} {p p' : ℕ} {s s' : tree.Statement} {w w' : List Word} → units.IsStatement T p s w → units.IsStatement T' p' s' w' → T ≡ T' → p ≡ p' → (r r' : List Word) → StatementEnds s r → StatementEnds s' r' → w ++ r ≡ w' ++ r' → (s ≡ s') × (w ≡ w')
  unique_statement (units.blocks b) (units.blocks b') sT sp r r' e e' eq =
      let one = unique_block b b' sT sp r r' eq in
      (cc (sp, one.0), one.1)
  unique_statement (units.computes {u = u} x) (units.computes {u = u'} x') sT sp r r' e e' eq =
      let y = mark Semicolon ∷ [] in
      let one = part u y r u' y r' (unique_maybe_expression x (move_maybe sT x') sp (y ++ r) (y ++ r') close_declaration close_declaration) eq in
      (cc (sp, one.0), cc one.1)
  unique_statement (units.ifs {u = u} {v = v} x s) (units.ifs {u = u'} {v = v'} x' s') sT sp r r' e e' eq =
      let one = in_parentheses u v r u' v' r' x x' sT (cc sp) (rest_same (rest_same eq)) in
      let two = unique_statement s s' sT (cc (sp, one.1)) r r' (λ h. e refl) (λ h. e' refl) one.2 in
      (cc (sp, one.0, two.0), cc (one.1, two.1))
  unique_statement (units.if_elses {s = f} {u = u} {v = v} {w = w} x s none t) (units.if_elses {s = f'} {u = u'} {v = v'} {w = w'} x' s' none' t') sT sp r r' e e' eq =
      let one = in_parentheses u (v ++ (keyword key.Else ∷ w)) r u' (v' ++ (keyword key.Else ∷ w')) r' x x' sT (cc sp) (rest_same (rest_same eq)) in
      let two = part v (keyword key.Else ∷ w) r v' (keyword key.Else ∷ w') r' (unique_statement s s' sT (cc (sp, one.1)) (keyword key.Else ∷ (w ++ r)) (keyword key.Else ∷ (w' ++ r')) (no_else f (keyword key.Else ∷ (w ++ r)) none) (no_else f' (keyword key.Else ∷ (w' ++ r')) none')) one.2 in
      let three = unique_statement t t' (behind_same sT two.0) (cc (sp, one.1, two.1)) r r' e e' (rest_same two.2) in
      (cc (sp, one.0, two.0, three.0), cc (one.1, two.1, three.1))
  unique_statement (units.ifs {u = u} {v = v} x s) (units.if_elses {s = f'} {u = u'} {v = v'} {w = w'} x' s' none' t') sT sp r r' e e' eq =
      let y = keyword key.Else ∷ w' in
      let one = in_parentheses u v r u' (v' ++ y) r' x x' sT (cc sp) (rest_same (rest_same eq)) in
      let eq2 : v ++ r ≡ v' ++ (y ++ r') = one.2 ∙ append_assoc v' y r' in
      let two = unique_statement s s' sT (cc (sp, one.1)) r (y ++ r') (λ h. e refl) (no_else f' (y ++ r') none') eq2 in
      absurd (omega (arith, e refl, ap head_else (behind v r v' (y ++ r') two.1 eq2)))
  unique_statement (units.if_elses {s = f} {u = u} {v = v} {w = w} x s none t) (units.ifs {u = u'} {v = v'} x' s') sT sp r r' e e' eq =
      let y = keyword key.Else ∷ w in
      let one = in_parentheses u (v ++ y) r u' v' r' x x' sT (cc sp) (rest_same (rest_same eq)) in
      let eq2 : v ++ (y ++ r) ≡ v' ++ r' = sym (append_assoc v y r) ∙ one.2 in
      let two = unique_statement s s' sT (cc (sp, one.1)) (y ++ r) r' (no_else f (y ++ r) none) (λ h. e' refl) eq2 in
      absurd (omega (arith, e' refl, ap head_else (behind v (y ++ r) v' r' two.1 eq2)))
  unique_statement (units.whiles {u = u} {v = v} x s) (units.whiles {u = u'} {v = v'} x' s') sT sp r r' e e' eq =
      let one = in_parentheses u v r u' v' r' x x' sT (cc sp) (rest_same (rest_same eq)) in
      let two = unique_statement s s' sT (cc (sp, one.1)) r r' e e' one.2 in
      (cc (sp, one.0, two.0), cc (one.1, two.1))
  unique_statement (units.dos {u = u} {v = v} s x) (units.dos {u = u'} {v = v'} s' x') sT sp r r' e e' eq =
      let y = mark Semicolon ∷ [] in
      let one = part u (keyword key.While ∷ mark OpenParen ∷ (v ++ (mark CloseParen ∷ y))) r u' (keyword key.While ∷ mark OpenParen ∷ (v' ++ (mark CloseParen ∷ y))) r' (unique_statement s s' sT (cc sp) (keyword key.While ∷ mark OpenParen ∷ ((v ++ (mark CloseParen ∷ y)) ++ r)) (keyword key.While ∷ mark OpenParen ∷ ((v' ++ (mark CloseParen ∷ y)) ++ r')) (λ h. refl) (λ h. refl)) (rest_same eq) in
      let two = in_parentheses v y r v' y r' x x' (behind_same sT one.0) (cc (sp, one.1)) (rest_same (rest_same one.2)) in
      (cc (sp, one.0, two.0), cc (one.1, two.1))
  unique_statement (units.fors {u = u} {v = v} {w = w} {x = x} i c n s) (units.fors {u = u'} {v = v'} {w = w'} {x = x'} i' c' n' s') sT sp r r' e e' eq =
      let z = w ++ (mark CloseParen ∷ x) in
      let z' = w' ++ (mark CloseParen ∷ x') in
      let one = part u (v ++ (mark Semicolon ∷ z)) r u' (v' ++ (mark Semicolon ∷ z')) r' (unique_for_init i (move_for_init sT i') (cc sp) ((v ++ (mark Semicolon ∷ z)) ++ r) ((v' ++ (mark Semicolon ∷ z')) ++ r')) (rest_same (rest_same eq)) in
      let two = part v (mark Semicolon ∷ z) r v' (mark Semicolon ∷ z') r' (unique_maybe_expression c (move_maybe (init_same sT one.0) c') (cc (sp, one.1)) (mark Semicolon ∷ (z ++ r)) (mark Semicolon ∷ (z' ++ r')) close_declaration close_declaration) one.2 in
      let three = part w (mark CloseParen ∷ x) r w' (mark CloseParen ∷ x') r' (unique_maybe_expression n (move_maybe (init_same sT one.0) n') (cc (sp, one.1, two.1)) (mark CloseParen ∷ (x ++ r)) (mark CloseParen ∷ (x' ++ r')) close_paren close_paren) (rest_same two.2) in
      let four = unique_statement s s' (init_same sT one.0) (cc (sp, one.1, two.1, three.1)) r r' e e' (rest_same three.2) in
      (cc (sp, one.0, two.0, three.0, four.0), cc (one.1, two.1, three.1, four.1))
  unique_statement (units.switches {u = u} {v = v} x b) (units.switches {u = u'} {v = v'} x' b') sT sp r r' e e' eq =
      let one = in_parentheses u v r u' v' r' x x' sT (cc sp) (rest_same (rest_same eq)) in
      let two = unique_block b b' sT (cc (sp, one.1)) r r' one.2 in
      (cc (sp, one.0, two.0), cc (one.1, two.1))
  unique_statement (units.cases {u = u} {v = v} x s) (units.cases {u = u'} {v = v'} x' s') sT sp r r' e e' eq =
      let one = part u (mark Colon ∷ v) r u' (mark Colon ∷ v') r' (unique_conditional x (move_conditional sT x') (cc sp) (mark Colon ∷ (v ++ r)) (mark Colon ∷ (v' ++ r')) (omega arith) (omega arith)) (rest_same eq) in
      let two = unique_statement s s' sT (cc (sp, one.1)) r r' e e' (rest_same one.2) in
      (cc (sp, one.0, two.0), cc (one.1, two.1))
  unique_statement (units.defaults s) (units.defaults s') sT sp r r' e e' eq =
      let two = unique_statement s s' sT (cc sp) r r' e e' (rest_same (rest_same eq)) in
      (cc (sp, two.0), cc two.1)
  unique_statement units.breaks units.breaks sT sp r r' e e' eq = (cc sp, refl)
  unique_statement units.continues units.continues sT sp r r' e e' eq = (cc sp, refl)
  unique_statement (units.returns {u = u} x) (units.returns {u = u'} x') sT sp r r' e e' eq =
      let y = mark Semicolon ∷ [] in
      let one = part u y r u' y r' (unique_maybe_expression x (move_maybe sT x') (cc sp) (y ++ r) (y ++ r') close_declaration close_declaration) (rest_same eq) in
      (cc (sp, one.0), cc one.1)
  unique_statement d d' sT sp r r' e e' eq = absurd (omega (arith, statement_clash d d' r r' eq))

pub statement_sole : {T : List Name} {p : ℕ} {s s' : tree.Statement} {w : List Word} → units.IsStatement T p s w → units.IsStatement T p s' w → s ≡ s'
statement_sole d d' = (unique_statement d d' refl refl [] [] (λ h. refl) (λ h. refl) refl).0

pub declaration_sole : {T : List Name} {p : ℕ} {d d' : tree.Declaration} {w : List Word} → units.IsDeclaration T p d w → units.IsDeclaration T p d' w → d ≡ d'
declaration_sole d d' = (unique_declaration d d' refl [] [] refl).0

-- the declarator that a declaration begins with, and what stands behind it
record First (T : List Name) (p : ℕ) (w r : List Word) : Type 0 where
  first : tree.Declarator
  front : List Word
  others : List Word
  cut : w ≡ front ++ others
  derived : grammar.IsDeclarator T false p first front
  ends : head_rank (others ++ r) < 14
  brace : head_brace (others ++ r) ≡ 0

initializer_brace : {T : List Name} {p : ℕ} {i : tree.MaybeInitializer} {v : List Word} → units.IsMaybeInitializer T p i v → (r : List Word) → head_brace r ≡ 0 → head_brace (v ++ r) ≡ 0
initializer_brace units.not_initialized r h = h
initializer_brace (units.initialized x) r h = refl

first_of : {T : List Name} {p : ℕ} {ds : tree.InitDeclarators} {w : List Word} → units.IsInitDeclarators T p ds w → (r : List Word) → First T p w (mark Semicolon ∷ r)
first_of (units.last_declarator {u = u} {v = v} d i) r = record {
  first = _;
  front = u;
  others = v;
  cut = refl;
  derived = d;
  ends = maybe_initializer_ends i (mark Semicolon ∷ r) (closes close_declaration);
  brace = initializer_brace i (mark Semicolon ∷ r) refl;
}
first_of (units.next_declarator {u = u} {v = v} {w = w} d i ds) r = record {
  first = _;
  front = u;
  others = v ++ (mark Comma ∷ w);
  cut = refl;
  derived = d;
  ends = subst (λ z. head_rank z < 14) (sym (append_assoc v (mark Comma ∷ w) (mark Semicolon ∷ r))) (maybe_initializer_ends i (mark Comma ∷ (w ++ (mark Semicolon ∷ r))) at_comma);
  brace = ap head_brace (append_assoc v (mark Comma ∷ w) (mark Semicolon ∷ r)) ∙ initializer_brace i (mark Comma ∷ (w ++ (mark Semicolon ∷ r))) refl;
}

block_brace : {T : List Name} {p : ℕ} {b : tree.Block} {w : List Word} → units.IsBlock T p b w → (r : List Word) → head_brace (w ++ r) ≡ 1
block_brace (units.a_block is) r = refl

block_rank : {T : List Name} {p : ℕ} {b : tree.Block} {w : List Word} → units.IsBlock T p b w → (r : List Word) → head_rank (w ++ r) < 14
block_rank (units.a_block is) r = omega arith

definition_follows : {T : List Name} {seen : Bool} {p : ℕ} {d : tree.Declarator} (v w : List Word) → grammar.IsDeclarator T false p d v → (GoesOnSpecifiers T seen v → ⊥) → (r : List Word) → SpecifierEnds T seen ((v ++ w) ++ r)
definition_follows {T = T} {seen = seen} v w d none r = subst (SpecifierEnds T seen) (sym (append_assoc v w r)) (declarator_follows v d none (w ++ r))

-- a declaration is no function definition
declaration_not_definition : {T T' : List Name} {p p' q q' : ℕ} {t : tree.Declaration} {f : tree.Specifiers} {g : tree.Declarator} {h : tree.Block} (w u' v' w' : List Word) → units.IsDeclaration T p t w → grammar.IsSpecifiers T p' f u' → (GoesOnSpecifiers T (has_type f) v' → ⊥) → grammar.IsDeclarator T false q g v' → units.IsBlock T' q' h w' → p ≡ p' → q ≡ p' + length u' → (r r' : List Word) → w ++ r ≡ (u' ++ (v' ++ w')) ++ r' → ⊥
declaration_not_definition _ u' v' w' (units.declares_none {u = u} s) s' none' d' b' sp sq r r' eq =
    let y = mark Semicolon ∷ [] in
    let one = part u y r u' (v' ++ w') r' (unique_specifiers s s' sp (y ++ r) ((v' ++ w') ++ r') (ends_declaration r) (definition_follows v' w' d' none' r')) eq in
    not_declarator v' (w' ++ r') close_declaration (declarator_starts d') (one.2 ∙ append_assoc v' w' r')
declaration_not_definition _ u' v' w' (units.declares {u = u} {v = v} s none ds) s' none' d' b' sp sq r r' eq =
    let y = mark Semicolon ∷ [] in
    let one = part u (v ++ y) r u' (v' ++ w') r' (unique_specifiers s s' sp ((v ++ y) ++ r) ((v' ++ w') ++ r') (init_declarators_follow v ds none r) (definition_follows v' w' d' none' r')) eq in
    let f = first_of ds r in
    let eq2 : f.front ++ (f.others ++ (mark Semicolon ∷ r)) ≡ v' ++ (w' ++ r') = sym (append_assoc f.front f.others (mark Semicolon ∷ r)) ∙ ap (λ z. z ++ (mark Semicolon ∷ r)) (sym f.cut) ∙ sym (append_assoc v y r) ∙ one.2 ∙ append_assoc v' w' r' in
    let two = unique_declarator f.derived d' (cc (sp, sq, one.1)) (f.others ++ (mark Semicolon ∷ r)) (w' ++ r') f.ends (block_rank b' r') eq2 in
    omega (arith, f.brace, block_brace b' r', ap head_brace (behind f.front (f.others ++ (mark Semicolon ∷ r)) v' (w' ++ r') two.1 eq2))

move_specifiers : {T T' : List Name} {p : ℕ} {s : tree.Specifiers} {w : List Word} → T ≡ T' → grammar.IsSpecifiers T' p s w → grammar.IsSpecifiers T p s w
move_specifiers {p = p} {s = s} {w = w} same d = subst (λ z. grammar.IsSpecifiers z p s w) (sym same) d

move_declarator : {T T' : List Name} {g : Bool} {p : ℕ} {d : tree.Declarator} {w : List Word} → T ≡ T' → grammar.IsDeclarator T' g p d w → grammar.IsDeclarator T g p d w
move_declarator {g = g} {p = p} {d = t} {w = w} same d = subst (λ z. grammar.IsDeclarator z g p t w) (sym same) d

move_none : {T T' : List Name} {seen : Bool} {v : List Word} → T ≡ T' → (GoesOnSpecifiers T' seen v → ⊥) → GoesOnSpecifiers T seen v → ⊥
move_none {seen = seen} {v = v} same none g = none (subst (λ z. GoesOnSpecifiers z seen v) same g)

unique_external : {T T' : List Name} {p p' : ℕ} {x x' : tree.External} {w w' : List Word} → units.IsExternal T p x w → units.IsExternal T' p' x' w' → T ≡ T' → p ≡ p' → (r r' : List Word) → w ++ r ≡ w' ++ r' → (x ≡ x') × (w ≡ w')
unique_external (units.a_declaration {T = T} {d = t} d) (units.a_declaration {T = T'} {d = t'} d') sT sp r r' eq =
    let one = unique_declaration d (move_declaration sT d') sp r r' eq in
    (cc one.0, one.1)
unique_external (units.a_definition {u = u} {v = v} {w = w} s none d b) (units.a_definition {u = u'} {v = v'} {w = w'} s' none' d' b') sT sp r r' eq =
    let e' = move_declarator sT d' in
    let one = part u (v ++ w) r u' (v' ++ w') r' (unique_specifiers s (move_specifiers sT s') sp ((v ++ w) ++ r) ((v' ++ w') ++ r') (definition_follows v w d none r) (definition_follows v' w' e' (move_none sT none') r')) eq in
    let two = part v w r v' w' r' (unique_declarator d e' (cc (sp, one.1)) (w ++ r) (w' ++ r') (block_rank b r) (block_rank b' r')) one.2 in
    let three = unique_block b b' sT (cc (sp, one.1, two.1)) r r' two.2 in
    (cc (one.0, two.0, three.0), cc (one.1, two.1, three.1))
unique_external (units.a_declaration {u = w} d) (units.a_definition {u = u'} {v = v'} {w = w'} s' none' d' b') sT sp r r' eq =
    absurd (declaration_not_definition w u' v' w' d (move_specifiers sT s') (move_none sT none') (move_declarator sT d') b' sp refl r r' eq)
unique_external (units.a_definition {u = u} {v = v} {w = w} s none d b) (units.a_declaration {u = w'} d') sT sp r r' eq =
    absurd (declaration_not_definition w' u v w (move_declaration sT d') s none d b (sym sp) refl r' r (sym eq))

external_starts : {T : List Name} {p : ℕ} {x : tree.External} {w : List Word} → units.IsExternal T p x w → Starting (StartsSpecifier T) w
external_starts (units.a_declaration d) = declaration_starts d
external_starts (units.a_definition {u = u} {v = v} {w = w} s none d b) = starting_append u (v ++ w) (specifiers_starts s)

unit_starts : {T : List Name} {p : ℕ} {t : tree.Tree} {w : List Word} → units.IsUnit T p t w → Starting (StartsSpecifier T) w
unit_starts (units.last_external x) = external_starts x
unit_starts (units.next_external {u = u} {v = v} x rest) = starting_append u v (external_starts x)

unit_begins : {T : List Name} {p : ℕ} {t : tree.Tree} {w : List Word} → units.IsUnit T p t w → [] ≡ w ++ [] → ⊥
unit_begins d eq = let s = unit_starts d in let h : [] ≡ s.0 ∷ (s.1 ++ []) = eq ∙ ap (λ y. y ++ []) s.2 in cc h

unique_unit : {T T' : List Name} {p p' : ℕ} {t t' : tree.Tree} {w w' : List Word} → units.IsUnit T p t w → units.IsUnit T' p' t' w' → T ≡ T' → p ≡ p' → w ++ [] ≡ w' ++ [] → t ≡ t'
unique_unit (units.last_external x) (units.last_external x') sT sp eq =
    let one = unique_external x x' sT sp [] [] eq in
    cc one.0
unique_unit (units.next_external {u = u} {v = v} x rest) (units.next_external {u = u'} {v = v'} x' rest') sT sp eq =
    let one = part u v [] u' v' [] (unique_external x x' sT sp (v ++ []) (v' ++ [])) eq in
    let two = unique_unit rest rest' (external_same sT one.0) (cc (sp, one.1)) one.2 in
    cc (one.0, two)
unique_unit (units.last_external {u = w} x) (units.next_external {u = u'} {v = v'} x' rest') sT sp eq =
    let eq1 : w ++ [] ≡ u' ++ (v' ++ []) = eq ∙ append_assoc u' v' [] in
    let one = unique_external x x' sT sp [] (v' ++ []) eq1 in
    absurd (unit_begins rest' (behind w [] u' (v' ++ []) one.1 eq1))
unique_unit (units.next_external {u = u} {v = v} x rest) (units.last_external {u = w'} x') sT sp eq =
    let eq1 : u ++ (v ++ []) ≡ w' ++ [] = sym (append_assoc u v []) ∙ eq in
    let one = unique_external x x' sT sp (v ++ []) [] eq1 in
    absurd (unit_begins rest (sym (behind u (v ++ []) w' [] one.1 eq1)))

pub unit_sole : {T : List Name} {p : ℕ} {t t' : tree.Tree} {w : List Word} → units.IsUnit T p t w → units.IsUnit T p t' w → t ≡ t'
unit_sole d d' = unique_unit d d' refl refl refl
