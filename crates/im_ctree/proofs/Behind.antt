-- What stands behind the parts of the grammar's lines.
use Rattle.std.proofs.Common.{◌≡◌, ℕ, suc, ◌+◌, ◌-◌, ◌≤◌, ◌<◌, Bool, List, [], ◌∷◌, ◌++◌, sym, subst, ap, refl, inl, inr, ◌∙◌, arith, append_assoc}
use Rattle.std.proofs.lemmas.List.{append-nil}
use Rattle.std.specs.Prelude.{◌⊎◌}
use Rattle.im_tok.specs.declared.keyword.Keyword.{Keyword}
use Rattle.im_tok.specs.declared.keyword.Keyword.TheVariants as key
use Rattle.im_tok.specs.declared.punctuator.Punctuator.TheVariants.{Star, OpenParen, CloseParen, OpenBracket, Question, Colon}
use Rattle.im_word.specs.Words.{Name, Word, name, keyword, number, character, text, mark, unknown}
use Rattle.im_ctree.specs.declared.specifier.SpecifierWord.{SpecifierWord}
use Rattle.im_ctree.specs.Operators as op
use Rattle.im_ctree.specs.Tree as tree
use Rattle.im_ctree.specs.Grammar as grammar
use Rattle.im_ctree.specs.Typedefs.{has_type_from}
use Rattle.im_ctree.specs.Grammar.{IsJoinedText, last_text, more_text, IsConsts, no_const, a_const, IsStars, no_star, a_star, GoesOnSpecifiers, a_typedef_name, OpensParameters, at_close, at_typedef_name}
use Rattle.im_ctree.specs.Follow.{Closes, Separated, SpecifierEnds, Starting, StartsAbstract, StartsDeclarator, StartsSpecifier, at_abstract_bracket, at_abstract_paren, at_abstract_star, at_comma, at_declared, at_enum, at_paren, at_star, at_struct, at_typedef, at_word, close_brace, close_bracket, close_declaration, close_paren, closes, head_brace, head_rank, head_specifier, head_star, keyword_specifier, rank, star_rank}
use Rattle.im_ctree.proofs.Ranks.{operator_rank, step_rank, rest_same, part, starting_append, meets, closing, head_closing, closes_rank, type_name_starts, parameter_starts}

-- behind the first part of a repetition
pub comma_ends : {T : List Name} {s p : ℕ} {a t : tree.Expression} {v : List Word} → grammar.CommaTail T s p a t v → (r : List Word) → head_rank r < 1 → head_rank (v ++ r) < 2
comma_ends grammar.no_comma r e = omega (arith, e)
comma_ends (grammar.a_comma a rest) r e = omega arith

pub binary_ends : {T : List Name} {s n p : ℕ} {a t : tree.Expression} {v : List Word} → grammar.BinaryTail T s n p a t v → (k : ℕ) → n ≡ k → (r : List Word) → head_rank r < k + 4 → head_rank (v ++ r) < suc k + 4
binary_ends grammar.no_operator k same r e = omega (arith, e)
binary_ends (grammar.an_operator is b rest) k same r e = omega (arith, operator_rank is, same)

pub postfix_ends : {T : List Name} {s p : ℕ} {a t : tree.Expression} {v : List Word} → grammar.PostfixTail T s p a t v → (r : List Word) → head_rank r < 14 → head_rank (v ++ r) < 19
postfix_ends grammar.no_postfix r e = omega (arith, e)
postfix_ends (grammar.indexes b rest) r e = omega arith
postfix_ends (grammar.calls b rest) r e = omega arith
postfix_ends (grammar.dots n rest) r e = omega arith
postfix_ends (grammar.arrows n rest) r e = omega arith
postfix_ends (grammar.steps is rest) r e = omega (arith, step_rank is)

abbrev pub postfix_line : {T : List Name} {s p : ℕ} {a t : tree.Expression} {v : List Word} → grammar.PostfixTail T s p a t v → ℕ
postfix_line grammar.no_postfix = 0
postfix_line (grammar.indexes b rest) = 1
postfix_line (grammar.calls b rest) = 2
postfix_line (grammar.dots n rest) = 3
postfix_line (grammar.arrows n rest) = 4
postfix_line (grammar.steps is rest) = 5

pub postfix_code : {T : List Name} {s p : ℕ} {a t : tree.Expression} {v : List Word} (d : grammar.PostfixTail T s p a t v) (r : List Word) → head_rank r < 14 → postfix_line d ≡ head_rank (v ++ r) - 13
postfix_code grammar.no_postfix r e = omega (arith, e)
postfix_code (grammar.indexes b rest) r e = refl
postfix_code (grammar.calls b rest) r e = refl
postfix_code (grammar.dots n rest) r e = refl
postfix_code (grammar.arrows n rest) r e = refl
postfix_code (grammar.steps is rest) r e = omega (arith, step_rank is)

pub postfix_clash : {T : List Name} {s p s' p' : ℕ} {a t a' t' : tree.Expression} {v v' : List Word} (d : grammar.PostfixTail T s p a t v) (d' : grammar.PostfixTail T s' p' a' t' v') (r r' : List Word) → head_rank r < 14 → head_rank r' < 14 → v ++ r ≡ v' ++ r' → postfix_line d ≡ postfix_line d'
postfix_clash d d' r r' e e' eq = postfix_code d r e ∙ ap (λ z. head_rank z - 13) eq ∙ sym (postfix_code d' r' e')

pub argument_ends : {T : List Name} {p : ℕ} {ts : tree.Expressions} {v : List Word} → grammar.ArgumentTail T p ts v → (r : List Word) → Closes r → head_rank (v ++ r) < 2
argument_ends grammar.last_argument r c = omega (arith, closes_rank c)
argument_ends (grammar.next_argument a rest) r c = omega arith

pub declarator_tail_ends : {T : List Name} {p : ℕ} {ds : tree.Declarators} {v : List Word} → grammar.DeclaratorTail T p ds v → (r : List Word) → Closes r → head_rank (v ++ r) < 14
declarator_tail_ends grammar.last_declarator r c = omega (arith, closes_rank c)
declarator_tail_ends (grammar.next_declarator d rest) r c = omega arith

pub enumerator_tail_ends : {T : List Name} {p : ℕ} {es : tree.Enumerators} {v : List Word} → grammar.EnumeratorTail T p es v → (r : List Word) → Closes r → head_rank (v ++ r) < 2
enumerator_tail_ends grammar.last_enumerator r c = omega (arith, closes_rank c)
enumerator_tail_ends grammar.last_comma r c = omega arith
enumerator_tail_ends (grammar.next_enumerator es) r c = omega arith

pub parameter_tail_ends : {T : List Name} {p : ℕ} {qs : tree.Parameters} {v : List Word} → grammar.ParameterTail T p qs v → (r : List Word) → Closes r → Separated (v ++ r)
parameter_tail_ends grammar.last_parameter r c = closes c
parameter_tail_ends (grammar.next_parameter q rest) r c = at_comma

-- string literals side by side
pub text_rank : {s : Name} {u : List Word} → IsJoinedText s u → (r : List Word) → head_rank (u ++ r) ≡ 19
text_rank (last_text s) r = refl
text_rank (more_text s rest) r = refl

pub text_blocked : {s : Name} {u r : List Word} (r' : List Word) → IsJoinedText s u → head_rank r < 19 → r ≡ u ++ r' → ⊥
text_blocked r' d e eq = omega (arith, e, ap head_rank eq, text_rank d r')

pub unique_text : {s s' : Name} {w w' : List Word} → IsJoinedText s w → IsJoinedText s' w' → (r r' : List Word) → head_rank r < 19 → head_rank r' < 19 → w ++ r ≡ w' ++ r' → (s ≡ s') × (w ≡ w')
unique_text (last_text s) (last_text s') r r' e e' eq = let h : s ≡ s' = cc in (h, ap (λ z. text z ∷ []) h)
unique_text (last_text s) (more_text s' rest') r r' e e' eq = absurd (text_blocked r' rest' e (rest_same eq))
unique_text (more_text s rest) (last_text s') r r' e e' eq = absurd (text_blocked r rest e' (sym (rest_same eq)))
unique_text (more_text s rest) (more_text s' rest') r r' e e' eq =
    let h : s ≡ s' = cc in
    let two = unique_text rest rest' r r' e e' (rest_same eq) in
    (cc (h, two.0), cc (h, two.1))

-- stars, and `const` behind them
pub star_blocked : {x : Word} {r v : List Word} (k : ℕ) → head_star r < k → r ≡ x ∷ v → k ≤ star_rank x → ⊥
star_blocked {x = x} {r = r} k e eq least = let h : head_star r ≡ star_rank x = ap head_star eq in omega (arith, e, least, h)

pub unique_consts : {n n' : ℕ} {w w' : List Word} → IsConsts n w → IsConsts n' w' → (r r' : List Word) → head_star r < 2 → head_star r' < 2 → w ++ r ≡ w' ++ r' → (n ≡ n') × (w ≡ w')
unique_consts no_const no_const r r' e e' eq = (refl, refl)
unique_consts no_const (a_const rest') r r' e e' eq = absurd (star_blocked 2 e eq (omega arith))
unique_consts (a_const rest) no_const r r' e e' eq = absurd (star_blocked 2 e' (sym eq) (omega arith))
unique_consts (a_const rest) (a_const rest') r r' e e' eq =
    let two = unique_consts rest rest' r r' e e' (rest_same eq) in
    (ap (λ z. suc z) two.0, ap (λ z. keyword key.Const ∷ z) two.1)

pub stars_ends : {ns : List ℕ} {v : List Word} → IsStars ns v → (r : List Word) → head_star r < 1 → head_star (v ++ r) < 2
stars_ends no_star r e = omega (arith, e)
stars_ends (a_star cs rest) r e = omega arith

pub unique_stars : {ns ns' : List ℕ} {w w' : List Word} → IsStars ns w → IsStars ns' w' → (r r' : List Word) → head_star r < 1 → head_star r' < 1 → w ++ r ≡ w' ++ r' → (ns ≡ ns') × (w ≡ w')
unique_stars no_star no_star r r' e e' eq = (refl, refl)
unique_stars no_star (a_star cs' rest') r r' e e' eq = absurd (star_blocked 1 e eq (omega arith))
unique_stars (a_star cs rest) no_star r r' e e' eq = absurd (star_blocked 1 e' (sym eq) (omega arith))
unique_stars (a_star {u = u} {v = v} cs rest) (a_star {u = u'} {v = v'} cs' rest') r r' e e' eq =
    let one = part u v r u' v' r' (unique_consts cs cs' (v ++ r) (v' ++ r') (stars_ends rest r e) (stars_ends rest' r' e')) (rest_same eq) in
    let two = unique_stars rest rest' r r' e e' one.2 in
    (cc (one.0, two.0), cc (one.1, two.1))

-- the unary expression that a conditional one begins with
pub record Leads (T : List Name) (p : ℕ) (w r : List Word) : Type 0 where
  pub lead : tree.Expression
  pub front : List Word
  pub others : List Word
  pub cut : w ≡ front ++ others
  pub unary : grammar.IsUnary T p lead front
  pub ends : head_rank (others ++ r) < 14
  pub other : head_rank (others ++ r) ≡ 2 → ⊥

abbrev pub Untyped : List Name → List Word → Type 0
Untyped T z = (x : Word) (v : List Word) → z ≡ mark OpenParen ∷ (x ∷ v) → StartsSpecifier T x → ⊥

pub leads_more : {T : List Name} {p : ℕ} (u x r : List Word) → Leads T p u (x ++ r) → Leads T p (u ++ x) r
leads_more u x r l = record {
  lead = l.lead;
  front = l.front;
  others = l.others ++ x;
  cut = ap (λ z. z ++ x) l.cut ∙ append_assoc l.front l.others x;
  unary = l.unary;
  ends = subst (λ z. head_rank z < 14) (sym (append_assoc l.others x r)) l.ends;
  other = λ h. l.other (ap head_rank (sym (append_assoc l.others x r)) ∙ h);
}

pub tail_ends : {T : List Name} {s n p : ℕ} {a t : tree.Expression} {v : List Word} → grammar.BinaryTail T s n p a t v → n < 10 → (r : List Word) → head_rank r < 14 → head_rank (v ++ r) < 14
tail_ends grammar.no_operator under r e = e
tail_ends (grammar.an_operator is b rest) under r e = omega (arith, operator_rank is, under)

pub tail_other : {T : List Name} {s n p : ℕ} {a t : tree.Expression} {v : List Word} → grammar.BinaryTail T s n p a t v → (r : List Word) → (head_rank r ≡ 2 → ⊥) → head_rank (v ++ r) ≡ 2 → ⊥
tail_other grammar.no_operator r e = e
tail_other (grammar.an_operator is b rest) r e = λ h. omega (arith, operator_rank is, h)

pub binary_leads : {T : List Name} {n p : ℕ} {t : tree.Expression} {w : List Word} → grammar.IsBinary T n p t w → (r : List Word) → head_rank r < 14 → (head_rank r ≡ 2 → ⊥) → Untyped T (w ++ r) → Leads T p w r
binary_leads (grammar.casts (grammar.uncast {u = u} d)) r e other free = record { lead = _; front = u; others = []; cut = sym (append-nil u); unary = d; ends = e; other = other }
binary_leads (grammar.casts (grammar.a_cast {u = u} {v = v} n d)) r e other free =
    let s = type_name_starts n in
    absurd (free s.0 ((s.1 ++ (mark CloseParen ∷ v)) ++ r) (ap (λ z. mark OpenParen ∷ ((z ++ (mark CloseParen ∷ v)) ++ r)) s.2) s.3)
binary_leads {T = T} (grammar.level {u = u} {v = v} under a rest) r e other free =
    leads_more u v r (binary_leads a (v ++ r) (tail_ends rest under r e) (tail_other rest r other) (subst (Untyped T) (append_assoc u v r) free))

pub conditional_leads : {T : List Name} {p : ℕ} {t : tree.Expression} {w : List Word} → grammar.IsConditional T p t w → (r : List Word) → head_rank r < 2 → Untyped T (w ++ r) → Leads T p w r
conditional_leads (grammar.operates a) r e free = binary_leads a r (omega (arith, e)) (λ h. omega (arith, e, h)) free
conditional_leads {T = T} (grammar.a_choice {u = u} {v = v} {w = w} c a b) r e free =
    let x = mark Question ∷ (v ++ (mark Colon ∷ w)) in
    leads_more u x r (binary_leads c (x ++ r) (omega arith) (λ h. omega (arith, h)) (subst (Untyped T) (append_assoc u x r) free))

pub word_goes : {x : SpecifierWord} {k : Keyword} → op.IsSpecifierWord x k → keyword_specifier k ≡ 1
word_goes op.typedef = refl
word_goes op.extern = refl
word_goes op.static = refl
word_goes op.const = refl
word_goes op.void = refl
word_goes op.char = refl
word_goes op.short = refl
word_goes op.int = refl
word_goes op.long = refl
word_goes op.signed = refl
word_goes op.unsigned = refl

pub specifier_goes : {T : List Name} {a : Bool} {p : ℕ} {x : tree.Specifier} {u : List Word} → grammar.IsSpecifier T a p x u → (z : List Word) → SpecifierEnds T a (u ++ z) → ⊥
specifier_goes (grammar.a_word is) z h = omega (arith, h.0, word_goes is)
specifier_goes (grammar.a_struct ms) z h = omega (arith, h.0)
specifier_goes (grammar.a_named_struct n ms) z h = omega (arith, h.0)
specifier_goes (grammar.a_struct_tag n) z h = omega (arith, h.0)
specifier_goes (grammar.an_enum es) z h = omega (arith, h.0)
specifier_goes (grammar.a_named_enum n es) z h = omega (arith, h.0)
specifier_goes (grammar.an_enum_tag n) z h = omega (arith, h.0)
specifier_goes (grammar.its_typedef_name n is) z h = h.1 (a_typedef_name is)

pub specifier_clash : {T : List Name} {a a' : Bool} {p : ℕ} {x : tree.Specifier} (u : List Word) → grammar.IsSpecifier T a' p x u → a ≡ a' → (r z : List Word) → r ≡ u ++ z → SpecifierEnds T a r → ⊥
specifier_clash {T = T} {a = a} u d same r z eq h =
    let h1 : SpecifierEnds T a (u ++ z) = subst (SpecifierEnds T a) eq h in
    specifier_goes d z (subst (λ y. SpecifierEnds T y (u ++ z)) same h1)

pub specifier_brace : {T : List Name} {a : Bool} {p : ℕ} {x : tree.Specifier} {u : List Word} → grammar.IsSpecifier T a p x u → (z : List Word) → head_brace (u ++ z) ≡ 0
specifier_brace (grammar.a_word is) z = refl
specifier_brace (grammar.a_struct ms) z = refl
specifier_brace (grammar.a_named_struct n ms) z = refl
specifier_brace (grammar.a_struct_tag n) z = refl
specifier_brace (grammar.an_enum es) z = refl
specifier_brace (grammar.a_named_enum n es) z = refl
specifier_brace (grammar.an_enum_tag n) z = refl
specifier_brace (grammar.its_typedef_name n is) z = refl

pub no_brace : (r : List Word) → head_specifier r ≡ 0 → head_brace r ≡ 0
no_brace [] h = refl
no_brace (mark m ∷ v) h = h
no_brace (name n ∷ v) h = refl
no_brace (keyword k ∷ v) h = refl
no_brace (number n ∷ v) h = refl
no_brace (character n ∷ v) h = refl
no_brace (text s ∷ v) h = refl
no_brace (unknown ∷ v) h = refl

pub tail_brace : {T : List Name} {a : Bool} {p : ℕ} {xs : tree.SpecifierList} {v : List Word} → grammar.SpecifierTail T a p xs v → (r : List Word) → SpecifierEnds T (has_type_from a xs) r → head_brace (v ++ r) ≡ 0
tail_brace grammar.last_specifier r h = no_brace r h.0
tail_brace (grammar.next_specifier {u = u} {v = v} d rest) r h = ap head_brace (append_assoc u v r) ∙ specifier_brace d (v ++ r)

-- which line a specifier is, by its first words
abbrev pub specifier_line : {T : List Name} {a : Bool} {p : ℕ} {x : tree.Specifier} {u : List Word} → grammar.IsSpecifier T a p x u → ℕ
specifier_line (grammar.a_word is) = 0
specifier_line (grammar.a_struct ms) = 1
specifier_line (grammar.a_named_struct n ms) = 2
specifier_line (grammar.a_struct_tag n) = 2
specifier_line (grammar.an_enum es) = 3
specifier_line (grammar.a_named_enum n es) = 4
specifier_line (grammar.an_enum_tag n) = 4
specifier_line (grammar.its_typedef_name n is) = 5

abbrev pub tag_line : ℕ → List Word → ℕ
tag_line k (name n ∷ v) = k + 1
tag_line k _ = k

abbrev pub keyword_line : Keyword → List Word → ℕ
keyword_line key.Struct v = tag_line 1 v
keyword_line key.Enum v = tag_line 3 v
keyword_line _ v = 0

abbrev pub head_line : List Word → ℕ
head_line (keyword k ∷ v) = keyword_line k v
head_line (name n ∷ v) = 5
head_line _ = 6

pub word_line : {x : SpecifierWord} {k : Keyword} → op.IsSpecifierWord x k → (v : List Word) → 0 ≡ keyword_line k v
word_line op.typedef v = refl
word_line op.extern v = refl
word_line op.static v = refl
word_line op.const v = refl
word_line op.void v = refl
word_line op.char v = refl
word_line op.short v = refl
word_line op.int v = refl
word_line op.long v = refl
word_line op.signed v = refl
word_line op.unsigned v = refl

pub specifier_code : {T : List Name} {a : Bool} {p : ℕ} {x : tree.Specifier} {u : List Word} (d : grammar.IsSpecifier T a p x u) (r : List Word) → specifier_line d ≡ head_line (u ++ r)
specifier_code (grammar.a_word is) r = word_line is r
specifier_code (grammar.a_struct ms) r = refl
specifier_code (grammar.a_named_struct n ms) r = refl
specifier_code (grammar.a_struct_tag n) r = refl
specifier_code (grammar.an_enum es) r = refl
specifier_code (grammar.a_named_enum n es) r = refl
specifier_code (grammar.an_enum_tag n) r = refl
specifier_code (grammar.its_typedef_name n is) r = refl

pub specifier_line_same : {T : List Name} {a a' : Bool} {p p' : ℕ} {x x' : tree.Specifier} {u u' : List Word} (d : grammar.IsSpecifier T a p x u) (d' : grammar.IsSpecifier T a' p' x' u') (r r' : List Word) → u ++ r ≡ u' ++ r' → specifier_line d ≡ specifier_line d'
specifier_line_same d d' r r' eq = specifier_code d r ∙ ap head_line eq ∙ sym (specifier_code d' r')

-- declarators
pub stars_first : {P : Word → Type 0} {ns : List ℕ} {u : List Word} → P (mark Star) → IsStars ns u → (z : List Word) → Starting P z → Starting P (u ++ z)
stars_first star no_star z s = s
stars_first star (a_star {u = u} {v = v} cs rest) z s = (mark Star, (u ++ v) ++ z, refl, star)

pub declarator_starts : {T : List Name} {g : Bool} {p : ℕ} {d : tree.Declarator} {w : List Word} → grammar.IsDeclarator T g p d w → Starting StartsDeclarator w
declarator_starts (grammar.a_name n {v = v} ns ts) = stars_first at_star ns (name n ∷ v) (name n, v, refl, at_declared)
declarator_starts (grammar.an_inner {v = v} {w = w} ns d none ts) = stars_first at_star ns (mark OpenParen ∷ (v ++ (mark CloseParen ∷ w))) (mark OpenParen, v ++ (mark CloseParen ∷ w), refl, at_paren)

pub goes_moved : {T : List Name} {seen : Bool} {x : Word} {v : List Word} (z : List Word) → GoesOnSpecifiers T seen (x ∷ v) → GoesOnSpecifiers T seen (x ∷ z)
goes_moved z (a_typedef_name is) = a_typedef_name is

pub declarator_specifier : {x : Word} (z : List Word) → StartsDeclarator x → head_specifier (x ∷ z) ≡ 0
declarator_specifier z at_declared = refl
declarator_specifier z at_star = refl
declarator_specifier z at_paren = refl

pub starting_follows : {T : List Name} {seen : Bool} (v : List Word) → Starting StartsDeclarator v → (GoesOnSpecifiers T seen v → ⊥) → (z : List Word) → SpecifierEnds T seen (v ++ z)
starting_follows {T = T} {seen = seen} v s none z =
    let same : v ++ z ≡ s.0 ∷ (s.1 ++ z) = ap (λ y. y ++ z) s.2 in
    (ap head_specifier same ∙ declarator_specifier (s.1 ++ z) s.3, λ g. none (subst (GoesOnSpecifiers T seen) (sym s.2) (goes_moved s.1 (subst (GoesOnSpecifiers T seen) same g))))

pub declarator_follows : {T : List Name} {seen g : Bool} {p : ℕ} {d : tree.Declarator} (v : List Word) → grammar.IsDeclarator T g p d v → (GoesOnSpecifiers T seen v → ⊥) → (z : List Word) → SpecifierEnds T seen (v ++ z)
declarator_follows v d none z = starting_follows v (declarator_starts d) none z

pub suffix_starts : {T : List Name} {p : ℕ} {ts : tree.Suffixes} {w : List Word} → grammar.IsSuffixes T p ts w → (x : Word) (v : List Word) → w ≡ x ∷ v → StartsAbstract x
suffix_starts grammar.no_suffix x v eq = absurd cc
suffix_starts (grammar.an_array e rest) x v eq = let h : mark OpenBracket ≡ x = cc in subst StartsAbstract h at_abstract_bracket
suffix_starts (grammar.a_function qs rest) x v eq = let h : mark OpenParen ≡ x = cc in subst StartsAbstract h at_abstract_paren

pub abstract_starts : {T : List Name} {p : ℕ} {d : tree.Declarator} {w : List Word} → grammar.IsAbstract T p d w → Starting StartsAbstract w
abstract_starts (grammar.with_stars {v = v} (a_star {u = u1} {v = v1} cs rest) ts) = (mark Star, (u1 ++ v1) ++ v, refl, at_abstract_star)
abstract_starts (grammar.with_suffixes {x = x} {v = v} ts) = (x, v, refl, suffix_starts ts x v refl)
abstract_starts (grammar.with_inner {v = v} {w = w} ns d ts) = stars_first at_abstract_star ns (mark OpenParen ∷ ((mark Star ∷ v) ++ (mark CloseParen ∷ w))) (mark OpenParen, (mark Star ∷ v) ++ (mark CloseParen ∷ w), refl, at_abstract_paren)

-- specifiers go on with no punctuator here
abbrev pub head_named : List Word → ℕ
head_named (name n ∷ v) = 1
head_named _ = 0

pub goes_named : {T : List Name} {seen : Bool} {w : List Word} → GoesOnSpecifiers T seen w → head_named w ≡ 1
goes_named (a_typedef_name is) = refl

pub abstract_ends : {T : List Name} {seen : Bool} {x : Word} (z : List Word) → StartsAbstract x → SpecifierEnds T seen (x ∷ z)
abstract_ends z at_abstract_star = (refl, λ g. omega (arith, goes_named g))
abstract_ends z at_abstract_paren = (refl, λ g. omega (arith, goes_named g))
abstract_ends z at_abstract_bracket = (refl, λ g. omega (arith, goes_named g))

pub separated_ends : {T : List Name} {seen : Bool} {r : List Word} → Separated r → SpecifierEnds T seen r
separated_ends (closes close_paren) = (refl, λ g. omega (arith, goes_named g))
separated_ends (closes close_bracket) = (refl, λ g. omega (arith, goes_named g))
separated_ends (closes close_brace) = (refl, λ g. omega (arith, goes_named g))
separated_ends (closes close_declaration) = (refl, λ g. omega (arith, goes_named g))
separated_ends at_comma = (refl, λ g. omega (arith, goes_named g))

pub maybe_abstract_follows : {T : List Name} {seen : Bool} {p : ℕ} {d : tree.MaybeDeclarator} {v : List Word} → grammar.IsMaybeAbstract T p d v → (r : List Word) → Separated r → SpecifierEnds T seen (v ++ r)
maybe_abstract_follows grammar.no_abstract r e = separated_ends e
maybe_abstract_follows {T = T} {seen = seen} (grammar.an_abstract d) r e =
    let s = abstract_starts d in
    subst (SpecifierEnds T seen) (ap (λ y. y ++ r) (sym s.2)) (abstract_ends (s.1 ++ r) s.3)

pub separated_star : {r : List Word} → Separated r → head_star r ≡ 0
separated_star (closes close_paren) = refl
separated_star (closes close_bracket) = refl
separated_star (closes close_brace) = refl
separated_star (closes close_declaration) = refl
separated_star at_comma = refl

pub suffixes_star : {T : List Name} {p : ℕ} {ts : tree.Suffixes} {v : List Word} → grammar.IsSuffixes T p ts v → (r : List Word) → Separated r → head_star (v ++ r) < 1
suffixes_star grammar.no_suffix r e = omega (arith, separated_star e)
suffixes_star (grammar.an_array l rest) r e = omega arith
suffixes_star (grammar.a_function qs rest) r e = omega arith

abbrev pub suffix_line : {T : List Name} {p : ℕ} {ts : tree.Suffixes} {v : List Word} → grammar.IsSuffixes T p ts v → ℕ
suffix_line grammar.no_suffix = 0
suffix_line (grammar.an_array e rest) = 1
suffix_line (grammar.a_function qs rest) = 2

pub suffix_code : {T : List Name} {p : ℕ} {ts : tree.Suffixes} {v : List Word} (d : grammar.IsSuffixes T p ts v) (r : List Word) → head_rank r < 14 → suffix_line d ≡ head_rank (v ++ r) - 13
suffix_code grammar.no_suffix r e = omega (arith, e)
suffix_code (grammar.an_array l rest) r e = refl
suffix_code (grammar.a_function qs rest) r e = refl

pub suffix_clash : {T : List Name} {p p' : ℕ} {ts ts' : tree.Suffixes} {v v' : List Word} (d : grammar.IsSuffixes T p ts v) (d' : grammar.IsSuffixes T p' ts' v') (r r' : List Word) → head_rank r < 14 → head_rank r' < 14 → v ++ r ≡ v' ++ r' → suffix_line d ≡ suffix_line d'
suffix_clash d d' r r' e e' eq = suffix_code d r e ∙ ap (λ z. head_rank z - 13) eq ∙ sym (suffix_code d' r' e')

pub separated_code : {r : List Word} → Separated r → head_closing r + head_rank r ≡ 1
separated_code (closes close_paren) = refl
separated_code (closes close_bracket) = refl
separated_code (closes close_brace) = refl
separated_code (closes close_declaration) = refl
separated_code at_comma = refl

pub abstract_code : {x : Word} → StartsAbstract x → 12 < closing x + rank x
abstract_code at_abstract_star = omega arith
abstract_code at_abstract_paren = omega arith
abstract_code at_abstract_bracket = omega arith

pub declarator_code : {x : Word} → StartsDeclarator x → closing x + rank x ≡ 1 → ⊥
declarator_code at_declared h = omega (arith, h)
declarator_code at_star h = omega (arith, h)
declarator_code at_paren h = omega (arith, h)

pub separated_undeclared : {x : Word} {r v : List Word} → Separated r → r ≡ x ∷ v → StartsDeclarator x → ⊥
separated_undeclared {x = x} {r = r} e eq s =
    let h : head_closing r + head_rank r ≡ closing x + rank x = ap (λ y. head_closing y + head_rank y) eq in
    declarator_code s (sym h ∙ separated_code e)

-- an abstract declarator isn't empty
pub abstract_begins : {T : List Name} {p : ℕ} {d : tree.Declarator} {w : List Word} → grammar.IsAbstract T p d w → (r z : List Word) → Separated r → r ≡ w ++ z → ⊥
abstract_begins d r z e eq =
    let s = abstract_starts d in
    let h : head_closing r + head_rank r ≡ closing s.0 + rank s.0 = ap (λ y. head_closing y + head_rank y) (eq ∙ ap (λ y. y ++ z) s.2) in
    omega (arith, h, separated_code e, abstract_code s.3)

-- suffixes begin with no name, and neither does what follows them
pub suffixes_unnamed : {T : List Name} {p : ℕ} {ts : tree.Suffixes} {v : List Word} → grammar.IsSuffixes T p ts v → (r : List Word) → Separated r → (n : Name) (z : List Word) → name n ∷ z ≡ v ++ r → ⊥
suffixes_unnamed grammar.no_suffix r e n z eq = omega (arith, ap (λ y. head_closing y + head_rank y) eq, separated_code e)
suffixes_unnamed (grammar.an_array l rest) r e n z eq = cc
suffixes_unnamed (grammar.a_function qs rest) r e n z eq = cc

pub opens : {T : List Name} {x : Word} {v : List Word} → StartsSpecifier T x → OpensParameters T (x ∷ v)
opens (at_typedef is) = at_typedef_name is
opens (at_word is) = grammar.at_word is
opens at_struct = grammar.at_struct
opens at_enum = grammar.at_enum

pub parameters_first : {T : List Name} {p : ℕ} {qs : tree.Parameters} {u : List Word} → grammar.IsParameters T p qs u → (z : List Word) (x : Word) (v : List Word) → x ∷ v ≡ u ++ (mark CloseParen ∷ z) → StartsSpecifier T x ⊎ (x ≡ mark CloseParen)
parameters_first grammar.no_parameter z x v eq = inr cc
parameters_first (grammar.first_parameter {u = u} {v = w} q rest) z x v eq = inl (meets ((u ++ w) ++ (mark CloseParen ∷ z)) (starting_append (u ++ w) (mark CloseParen ∷ z) (starting_append u w (parameter_starts q))) (sym eq))

pub not_close : {x : Word} → StartsDeclarator x → x ≡ mark CloseParen → ⊥
not_close at_declared eq = cc
not_close at_star eq = cc
not_close at_paren eq = cc

-- where a parenthesis is both a declarator's and the first suffix of an abstract one, a parameter list opens
pub parameters_open : {T : List Name} {p : ℕ} {ts : tree.Suffixes} {w : List Word} → grammar.IsSuffixes T p ts w → (r : List Word) → Separated r → (v z : List Word) → Starting StartsDeclarator v → mark OpenParen ∷ (v ++ z) ≡ w ++ r → OpensParameters T v
parameters_open grammar.no_suffix r e v z s eq = absurd (omega (arith, ap (λ y. head_closing y + head_rank y) eq, separated_code e))
parameters_open (grammar.an_array l rest) r e v z s eq = absurd cc
parameters_open {T = T} (grammar.a_function {u = u} {v = w} qs rest) r e v z s eq =
    let eq1 : s.0 ∷ (s.1 ++ z) ≡ u ++ (mark CloseParen ∷ (w ++ r)) = ap (λ y. y ++ z) (sym s.2) ∙ rest_same eq ∙ append_assoc u (mark CloseParen ∷ w) r in
    elim (parameters_first qs (w ++ r) s.0 (s.1 ++ z) eq1) [ inl is ↦ subst (OpensParameters T) (sym s.2) (opens is) | inr same ↦ absurd (not_close s.3 same) ]

-- no suffix is a parenthesis before a star
pub suffixes_starless : {T : List Name} {p : ℕ} {ts : tree.Suffixes} {w : List Word} → grammar.IsSuffixes T p ts w → (r : List Word) → Separated r → (z : List Word) → mark OpenParen ∷ (mark Star ∷ z) ≡ w ++ r → ⊥
suffixes_starless grammar.no_suffix r e z eq = omega (arith, ap (λ y. head_closing y + head_rank y) eq, separated_code e)
suffixes_starless (grammar.an_array l rest) r e z eq = cc
suffixes_starless (grammar.a_function {u = u} {v = w} qs rest) r e z eq =
    elim (parameters_first qs (w ++ r) (mark Star) z (rest_same eq ∙ append_assoc u (mark CloseParen ∷ w) r)) [ inl is ↦ elim is [ ] | inr same ↦ cc same ]
