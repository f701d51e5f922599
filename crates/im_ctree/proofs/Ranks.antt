-- What may stand behind an expression of each level, and first words.
use Rattle.std.proofs.Common.{◌≡◌, ℕ, ◌+◌, ◌≤◌, ◌<◌, Bool, List, [], ◌∷◌, ◌++◌, sym, subst, ap, refl, ◌∙◌, arith, append_assoc}
use Rattle.std.proofs.lemmas.List.{append_cancel_left}
use Rattle.im_tok.specs.declared.keyword.Keyword.{Keyword}
use Rattle.im_tok.specs.declared.keyword.Keyword.TheVariants.{Sizeof, Struct, Enum}
use Rattle.im_tok.specs.declared.punctuator.Punctuator.{Punctuator}
use Rattle.im_tok.specs.declared.punctuator.Punctuator.TheVariants as punctuator
use Rattle.im_word.specs.Words.{Name, Word, name, keyword, number, character, text, mark, unknown}
use Rattle.im_ctree.specs.declared.operator.StepOp.{StepOp}
use Rattle.im_ctree.specs.declared.operator.UnaryOp.{UnaryOp}
use Rattle.im_ctree.specs.declared.operator.BinaryOp.{BinaryOp}
use Rattle.im_ctree.specs.declared.operator.AssignOp.{AssignOp}
use Rattle.im_ctree.specs.declared.specifier.SpecifierWord.{SpecifierWord}
use Rattle.im_ctree.specs.Operators as op
use Rattle.im_ctree.specs.Tree as tree
use Rattle.im_ctree.specs.Grammar as grammar
use Rattle.im_ctree.specs.Follow.{Closes, Separated, Starting, StartsExpression, StartsSpecifier, at_character, at_comma, at_enum, at_name, at_number, at_open, at_prefix, at_sizeof, at_step, at_struct, at_text, at_typedef, at_word, close_brace, close_bracket, close_declaration, close_paren, closes, head_rank, mark_rank, rank}

pub operator_rank : {n : ℕ} {o : BinaryOp} {m : Punctuator} → op.IsBinaryOperator n o m → mark_rank m ≡ n + 4
operator_rank op.or = refl
operator_rank op.and = refl
operator_rank op.bit_or = refl
operator_rank op.bit_xor = refl
operator_rank op.bit_and = refl
operator_rank op.equal = refl
operator_rank op.not_equal = refl
operator_rank op.less = refl
operator_rank op.greater = refl
operator_rank op.less_equal = refl
operator_rank op.greater_equal = refl
operator_rank op.shift_left = refl
operator_rank op.shift_right = refl
operator_rank op.add = refl
operator_rank op.subtract = refl
operator_rank op.multiply = refl
operator_rank op.divide = refl
operator_rank op.remainder = refl

pub operator_alike : {n n' : ℕ} {o o' : BinaryOp} {m : Punctuator} → op.IsBinaryOperator n o m → op.IsBinaryOperator n' o' m → o ≡ o'
operator_alike op.or op.or = refl
operator_alike op.and op.and = refl
operator_alike op.bit_or op.bit_or = refl
operator_alike op.bit_xor op.bit_xor = refl
operator_alike op.bit_and op.bit_and = refl
operator_alike op.equal op.equal = refl
operator_alike op.not_equal op.not_equal = refl
operator_alike op.less op.less = refl
operator_alike op.greater op.greater = refl
operator_alike op.less_equal op.less_equal = refl
operator_alike op.greater_equal op.greater_equal = refl
operator_alike op.shift_left op.shift_left = refl
operator_alike op.shift_right op.shift_right = refl
operator_alike op.add op.add = refl
operator_alike op.subtract op.subtract = refl
operator_alike op.multiply op.multiply = refl
operator_alike op.divide op.divide = refl
operator_alike op.remainder op.remainder = refl

pub operator_same : {n n' : ℕ} {o o' : BinaryOp} {m m' : Punctuator} → op.IsBinaryOperator n o m → op.IsBinaryOperator n' o' m' → m ≡ m' → o ≡ o'
operator_same {n' = n'} {o' = o'} is is' same = operator_alike is (subst (λ z. op.IsBinaryOperator n' o' z) (sym same) is')

pub assign_operator_rank : {o : AssignOp} {m : Punctuator} → op.IsAssignOperator o m → mark_rank m ≡ 2
assign_operator_rank op.assign = refl
assign_operator_rank op.assign_multiply = refl
assign_operator_rank op.assign_divide = refl
assign_operator_rank op.assign_remainder = refl
assign_operator_rank op.assign_add = refl
assign_operator_rank op.assign_subtract = refl
assign_operator_rank op.assign_shift_left = refl
assign_operator_rank op.assign_shift_right = refl
assign_operator_rank op.assign_and = refl
assign_operator_rank op.assign_xor = refl
assign_operator_rank op.assign_or = refl

pub assign_operator_alike : {o o' : AssignOp} {m : Punctuator} → op.IsAssignOperator o m → op.IsAssignOperator o' m → o ≡ o'
assign_operator_alike op.assign op.assign = refl
assign_operator_alike op.assign_multiply op.assign_multiply = refl
assign_operator_alike op.assign_divide op.assign_divide = refl
assign_operator_alike op.assign_remainder op.assign_remainder = refl
assign_operator_alike op.assign_add op.assign_add = refl
assign_operator_alike op.assign_subtract op.assign_subtract = refl
assign_operator_alike op.assign_shift_left op.assign_shift_left = refl
assign_operator_alike op.assign_shift_right op.assign_shift_right = refl
assign_operator_alike op.assign_and op.assign_and = refl
assign_operator_alike op.assign_xor op.assign_xor = refl
assign_operator_alike op.assign_or op.assign_or = refl

pub assign_operator_same : {o o' : AssignOp} {m m' : Punctuator} → op.IsAssignOperator o m → op.IsAssignOperator o' m' → m ≡ m' → o ≡ o'
assign_operator_same {o' = o'} is is' same = assign_operator_alike is (subst (λ z. op.IsAssignOperator o' z) (sym same) is')

pub step_alike : {o o' : StepOp} {m : Punctuator} → op.IsStep o m → op.IsStep o' m → o ≡ o'
step_alike op.increment op.increment = refl
step_alike op.decrement op.decrement = refl

pub step_same : {o o' : StepOp} {m m' : Punctuator} → op.IsStep o m → op.IsStep o' m' → m ≡ m' → o ≡ o'
step_same {o' = o'} is is' same = step_alike is (subst (λ z. op.IsStep o' z) (sym same) is')

pub step_rank : {o : StepOp} {m : Punctuator} → op.IsStep o m → mark_rank m ≡ 18
step_rank op.increment = refl
step_rank op.decrement = refl

pub prefix_alike : {o o' : UnaryOp} {m : Punctuator} → op.IsPrefix o m → op.IsPrefix o' m → o ≡ o'
prefix_alike op.address_of op.address_of = refl
prefix_alike op.dereference op.dereference = refl
prefix_alike op.plus op.plus = refl
prefix_alike op.minus op.minus = refl
prefix_alike op.bit_not op.bit_not = refl
prefix_alike op.not op.not = refl

pub prefix_same : {o o' : UnaryOp} {m m' : Punctuator} → op.IsPrefix o m → op.IsPrefix o' m' → m ≡ m' → o ≡ o'
prefix_same {o' = o'} is is' same = prefix_alike is (subst (λ z. op.IsPrefix o' z) (sym same) is')

pub specifier_alike : {x x' : SpecifierWord} {k : Keyword} → op.IsSpecifierWord x k → op.IsSpecifierWord x' k → x ≡ x'
specifier_alike op.typedef op.typedef = refl
specifier_alike op.extern op.extern = refl
specifier_alike op.static op.static = refl
specifier_alike op.const op.const = refl
specifier_alike op.void op.void = refl
specifier_alike op.char op.char = refl
specifier_alike op.short op.short = refl
specifier_alike op.int op.int = refl
specifier_alike op.long op.long = refl
specifier_alike op.signed op.signed = refl
specifier_alike op.unsigned op.unsigned = refl

pub specifier_same : {x x' : SpecifierWord} {k k' : Keyword} → op.IsSpecifierWord x k → op.IsSpecifierWord x' k' → k ≡ k' → x ≡ x'
specifier_same {x' = x'} is is' same = specifier_alike is (subst (λ z. op.IsSpecifierWord x' z) (sym same) is')

-- lists that begin with the same part
pub rest_same : {x x' : Word} {v v' : List Word} → x ∷ v ≡ x' ∷ v' → v ≡ v'
rest_same same = cc

pub mark_same : {m m' : Punctuator} {v v' : List Word} → mark m ∷ v ≡ mark m' ∷ v' → m ≡ m'
mark_same same = cc

pub behind : (u r u' r' : List Word) → u ≡ u' → u ++ r ≡ u' ++ r' → r ≡ r'
behind u r u' r' same eq = append_cancel_left u r r' (eq ∙ ap (λ z. z ++ r') (sym same))

-- what holds of the first parts, and of what stands behind them
pub part : {P : Type 0} (u x r u' x' r' : List Word) → (u ++ (x ++ r) ≡ u' ++ (x' ++ r') → P × (u ≡ u')) → (u ++ x) ++ r ≡ (u' ++ x') ++ r' → P × (u ≡ u') × (x ++ r ≡ x' ++ r')
part {P = P} u x r u' x' r' one eq =
    let eq1 : u ++ (x ++ r) ≡ u' ++ (x' ++ r') = sym (append_assoc u x r) ∙ eq ∙ append_assoc u' x' r' in
    let h : P × (u ≡ u') = one eq1 in
    (h.0, h.1, behind u (x ++ r) u' (x' ++ r') h.1 eq1)

pub blocked : {x : Word} {r v : List Word} (k : ℕ) → head_rank r < k → r ≡ x ∷ v → k ≤ rank x → ⊥
blocked {x = x} k e eq least = let h : head_rank _ ≡ rank x = ap head_rank eq in omega (arith, e, least, h)

pub starting_append : {P : Word → Type 0} (u z : List Word) → Starting P u → Starting P (u ++ z)
starting_append u z s = (s.0, s.1 ++ z, ap (λ y. y ++ z) s.2, s.3)

-- the first word, where two lists are the same
pub meets : {P : Word → Type 0} (w : List Word) {x : Word} {v : List Word} → Starting P w → w ≡ x ∷ v → P x
meets {P = P} w {x = x} s eq = let same : s.0 ≡ x = let h = sym s.2 ∙ eq in cc in subst P same s.3

pub apart : {T : List Name} {x : Word} → StartsExpression T x → StartsSpecifier T x → ⊥
apart (at_name free) (at_typedef is) = free is
apart at_sizeof (at_word is) = elim is [ ]
apart at_number is = elim is [ ]
apart at_character is = elim is [ ]
apart at_text is = elim is [ ]
apart at_open is = elim is [ ]
apart (at_step _) is = elim is [ ]
apart (at_prefix _) is = elim is [ ]

-- words that close what stands before them
abbrev pub closing : Word → ℕ
closing (mark punctuator.CloseParen) = 1
closing (mark punctuator.CloseBracket) = 1
closing (mark punctuator.CloseBrace) = 1
closing (mark punctuator.Semicolon) = 1
closing _ = 0

abbrev pub head_closing : List Word → ℕ
head_closing [] = 0
head_closing (x ∷ v) = closing x

pub closes_closing : {r : List Word} → Closes r → head_closing r ≡ 1
closes_closing close_paren = refl
closes_closing close_bracket = refl
closes_closing close_brace = refl
closes_closing close_declaration = refl

pub closes_rank : {r : List Word} → Closes r → head_rank r ≡ 0
closes_rank close_paren = refl
closes_rank close_bracket = refl
closes_rank close_brace = refl
closes_rank close_declaration = refl

pub separated_rank : {r : List Word} → Separated r → head_rank r < 2
separated_rank (closes c) = omega (arith, closes_rank c)
separated_rank at_comma = omega arith

pub step_opens : {o : StepOp} {m : Punctuator} → op.IsStep o m → closing (mark m) ≡ 0
step_opens op.increment = refl
step_opens op.decrement = refl

pub prefix_opens : {o : UnaryOp} {m : Punctuator} → op.IsPrefix o m → closing (mark m) ≡ 0
prefix_opens op.address_of = refl
prefix_opens op.dereference = refl
prefix_opens op.plus = refl
prefix_opens op.minus = refl
prefix_opens op.bit_not = refl
prefix_opens op.not = refl

pub expression_opens : {T : List Name} {x : Word} → StartsExpression T x → closing x ≡ 0
expression_opens (at_name free) = refl
expression_opens at_number = refl
expression_opens at_character = refl
expression_opens at_text = refl
expression_opens at_open = refl
expression_opens (at_step is) = step_opens is
expression_opens (at_prefix is) = prefix_opens is
expression_opens at_sizeof = refl

pub specifier_opens : {T : List Name} {x : Word} → StartsSpecifier T x → closing x ≡ 0
specifier_opens (at_typedef is) = refl
specifier_opens (at_word is) = refl
specifier_opens at_struct = refl
specifier_opens at_enum = refl

-- what closes begins no expression and no specifiers
pub not_expression : {T : List Name} {r : List Word} (u z : List Word) → Closes r → Starting (StartsExpression T) u → r ≡ u ++ z → ⊥
not_expression {r = r} u z c s eq =
    let a : head_closing r ≡ closing s.0 = ap head_closing (eq ∙ ap (λ y. y ++ z) s.2) in
    omega (arith, a, closes_closing c, expression_opens s.3)

pub not_specifier : {T : List Name} {r : List Word} (u z : List Word) → Closes r → Starting (StartsSpecifier T) u → r ≡ u ++ z → ⊥
not_specifier {r = r} u z c s eq =
    let a : head_closing r ≡ closing s.0 = ap head_closing (eq ∙ ap (λ y. y ++ z) s.2) in
    omega (arith, a, closes_closing c, specifier_opens s.3)

pub not_closing : {x : Word} {r v : List Word} → Closes r → r ≡ x ∷ v → closing x ≡ 0 → ⊥
not_closing {x = x} {r = r} c eq opens =
    let a : head_closing r ≡ closing x = ap head_closing eq in
    omega (arith, a, closes_closing c, opens)

-- the first words of each kind of expression
pub text_starts : {T : List Name} {s : Name} {u : List Word} → grammar.IsJoinedText s u → Starting (StartsExpression T) u
text_starts (grammar.last_text s) = (text s, [], refl, at_text)
text_starts (grammar.more_text s {u = u} rest) = (text s, u, refl, at_text)

pub primary_starts : {T : List Name} {p : ℕ} {t : tree.Expression} {w : List Word} → grammar.IsPrimary T p t w → Starting (StartsExpression T) w
primary_starts (grammar.an_identifier n free) = (name n, [], refl, at_name free)
primary_starts (grammar.a_number n) = (number n, [], refl, at_number)
primary_starts (grammar.a_character n) = (character n, [], refl, at_character)
primary_starts (grammar.a_string s) = text_starts s
primary_starts (grammar.grouped {u = u} e) = (mark punctuator.OpenParen, u ++ (mark punctuator.CloseParen ∷ []), refl, at_open)

pub postfix_starts : {T : List Name} {p : ℕ} {t : tree.Expression} {w : List Word} → grammar.IsPostfix T p t w → Starting (StartsExpression T) w
postfix_starts (grammar.primary {u = u} {v = v} a rest) = starting_append u v (primary_starts a)

pub unary_starts : {T : List Name} {p : ℕ} {t : tree.Expression} {w : List Word} → grammar.IsUnary T p t w → Starting (StartsExpression T) w
unary_starts (grammar.postfix a) = postfix_starts a
unary_starts (grammar.stepped {m = m} {u = u} is a) = (mark m, u, refl, at_step is)
unary_starts (grammar.prefixed {m = m} {u = u} is a) = (mark m, u, refl, at_prefix is)
unary_starts (grammar.sized {u = u} a) = (keyword Sizeof, u, refl, at_sizeof)
unary_starts (grammar.type_sized {u = u} n) = (keyword Sizeof, mark punctuator.OpenParen ∷ (u ++ (mark punctuator.CloseParen ∷ [])), refl, at_sizeof)

pub cast_starts : {T : List Name} {p : ℕ} {t : tree.Expression} {w : List Word} → grammar.IsCast T p t w → Starting (StartsExpression T) w
cast_starts (grammar.uncast a) = unary_starts a
cast_starts (grammar.a_cast {u = u} {v = v} n a) = (mark punctuator.OpenParen, u ++ (mark punctuator.CloseParen ∷ v), refl, at_open)

pub binary_starts : {T : List Name} {n p : ℕ} {t : tree.Expression} {w : List Word} → grammar.IsBinary T n p t w → Starting (StartsExpression T) w
binary_starts (grammar.casts a) = cast_starts a
binary_starts (grammar.level {u = u} {v = v} under a rest) = starting_append u v (binary_starts a)

pub conditional_starts : {T : List Name} {p : ℕ} {t : tree.Expression} {w : List Word} → grammar.IsConditional T p t w → Starting (StartsExpression T) w
conditional_starts (grammar.operates a) = binary_starts a
conditional_starts (grammar.a_choice {u = u} {v = v} {w = w} c a b) = starting_append u (mark punctuator.Question ∷ (v ++ (mark punctuator.Colon ∷ w))) (binary_starts c)

pub assign_starts : {T : List Name} {p : ℕ} {t : tree.Expression} {w : List Word} → grammar.IsAssignment T p t w → Starting (StartsExpression T) w
assign_starts (grammar.chooses a) = conditional_starts a
assign_starts (grammar.assigned {m = m} {u = u} {v = v} a is b) = starting_append u (mark m ∷ v) (unary_starts a)

pub expression_starts : {T : List Name} {p : ℕ} {t : tree.Expression} {w : List Word} → grammar.IsExpression T p t w → Starting (StartsExpression T) w
expression_starts (grammar.assigns {u = u} {v = v} a rest) = starting_append u v (assign_starts a)

pub specifier_starts : {T : List Name} {a : Bool} {p : ℕ} {x : tree.Specifier} {w : List Word} → grammar.IsSpecifier T a p x w → Starting (StartsSpecifier T) w
specifier_starts (grammar.a_word {k = k} is) = (keyword k, [], refl, at_word is)
specifier_starts (grammar.a_struct {u = u} ms) = (keyword Struct, mark punctuator.OpenBrace ∷ (u ++ (mark punctuator.CloseBrace ∷ [])), refl, at_struct)
specifier_starts (grammar.a_named_struct n {u = u} ms) = (keyword Struct, name n ∷ mark punctuator.OpenBrace ∷ (u ++ (mark punctuator.CloseBrace ∷ [])), refl, at_struct)
specifier_starts (grammar.a_struct_tag n) = (keyword Struct, name n ∷ [], refl, at_struct)
specifier_starts (grammar.an_enum {u = u} es) = (keyword Enum, mark punctuator.OpenBrace ∷ (u ++ (mark punctuator.CloseBrace ∷ [])), refl, at_enum)
specifier_starts (grammar.a_named_enum n {u = u} es) = (keyword Enum, name n ∷ mark punctuator.OpenBrace ∷ (u ++ (mark punctuator.CloseBrace ∷ [])), refl, at_enum)
specifier_starts (grammar.an_enum_tag n) = (keyword Enum, name n ∷ [], refl, at_enum)
specifier_starts (grammar.its_typedef_name n is) = (name n, [], refl, at_typedef is)

pub specifiers_starts : {T : List Name} {p : ℕ} {s : tree.Specifiers} {w : List Word} → grammar.IsSpecifiers T p s w → Starting (StartsSpecifier T) w
specifiers_starts (grammar.first_specifier {u = u} {v = v} a rest) = starting_append u v (specifier_starts a)

pub type_name_starts : {T : List Name} {p : ℕ} {n : tree.TypeName} {w : List Word} → grammar.IsTypeName T p n w → Starting (StartsSpecifier T) w
type_name_starts (grammar.a_type_name {u = u} {v = v} s d) = starting_append u v (specifiers_starts s)

pub parameter_starts : {T : List Name} {p : ℕ} {s : tree.Specifiers} {d : tree.MaybeDeclarator} {w : List Word} → grammar.IsParameter T p s d w → Starting (StartsSpecifier T) w
parameter_starts (grammar.named_parameter {u = u} {v = v} s none d) = starting_append u v (specifiers_starts s)
parameter_starts (grammar.other_parameter {u = u} {v = v} s d) = starting_append u v (specifiers_starts s)

pub members_starts : {T : List Name} {p : ℕ} {ms : tree.Members} {w : List Word} → grammar.IsMembers T p ms w → Starting (StartsSpecifier T) w
members_starts (grammar.first_member {u = u} {v = v} {w = w} {x = x} s none d ds ms) = starting_append u (v ++ (w ++ (mark punctuator.Semicolon ∷ x))) (specifiers_starts s)

-- which line of the grammar a primary expression is, by its first word
abbrev pub primary_line : {T : List Name} {p : ℕ} {t : tree.Expression} {w : List Word} → grammar.IsPrimary T p t w → ℕ
primary_line (grammar.an_identifier n free) = 0
primary_line (grammar.a_number n) = 1
primary_line (grammar.a_character n) = 2
primary_line (grammar.a_string s) = 3
primary_line (grammar.grouped e) = 4

abbrev pub head_primary : List Word → ℕ
head_primary [] = 5
head_primary (name n ∷ v) = 0
head_primary (number n ∷ v) = 1
head_primary (character n ∷ v) = 2
head_primary (text s ∷ v) = 3
head_primary (unknown ∷ v) = 5
head_primary (mark m ∷ v) = 4
head_primary (keyword k ∷ v) = 5

pub text_line : {s : Name} {u : List Word} → grammar.IsJoinedText s u → (r : List Word) → 3 ≡ head_primary (u ++ r)
text_line (grammar.last_text s) r = refl
text_line (grammar.more_text s rest) r = refl

pub primary_code : {T : List Name} {p : ℕ} {t : tree.Expression} {w : List Word} (d : grammar.IsPrimary T p t w) (r : List Word) → primary_line d ≡ head_primary (w ++ r)
primary_code (grammar.an_identifier n free) r = refl
primary_code (grammar.a_number n) r = refl
primary_code (grammar.a_character n) r = refl
primary_code (grammar.a_string s) r = text_line s r
primary_code (grammar.grouped e) r = refl

pub primary_clash : {T : List Name} {p p' : ℕ} {t t' : tree.Expression} {w w' : List Word} (d : grammar.IsPrimary T p t w) (d' : grammar.IsPrimary T p' t' w') (r r' : List Word) → w ++ r ≡ w' ++ r' → primary_line d ≡ primary_line d'
primary_clash d d' r r' eq = primary_code d r ∙ ap head_primary eq ∙ sym (primary_code d' r')

-- which line a unary expression is, but for the two with `sizeof`
abbrev pub unary_line : {T : List Name} {p : ℕ} {t : tree.Expression} {w : List Word} → grammar.IsUnary T p t w → ℕ
unary_line (grammar.postfix a) = 0
unary_line (grammar.stepped is a) = 1
unary_line (grammar.prefixed is a) = 2
unary_line (grammar.sized a) = 3
unary_line (grammar.type_sized n) = 3

abbrev pub mark_unary : Punctuator → ℕ
mark_unary punctuator.Increment = 1
mark_unary punctuator.Decrement = 1
mark_unary punctuator.Ampersand = 2
mark_unary punctuator.Star = 2
mark_unary punctuator.Plus = 2
mark_unary punctuator.Minus = 2
mark_unary punctuator.Tilde = 2
mark_unary punctuator.Exclamation = 2
mark_unary _ = 0

abbrev pub head_unary : List Word → ℕ
head_unary [] = 0
head_unary (mark m ∷ v) = mark_unary m
head_unary (keyword k ∷ v) = 3
head_unary (name n ∷ v) = 0
head_unary (number n ∷ v) = 0
head_unary (character n ∷ v) = 0
head_unary (text s ∷ v) = 0
head_unary (unknown ∷ v) = 0

pub text_unary : {s : Name} {u : List Word} → grammar.IsJoinedText s u → (r : List Word) → 0 ≡ head_unary (u ++ r)
text_unary (grammar.last_text s) r = refl
text_unary (grammar.more_text s rest) r = refl

pub primary_unary : {T : List Name} {p : ℕ} {t : tree.Expression} {w : List Word} → grammar.IsPrimary T p t w → (r : List Word) → 0 ≡ head_unary (w ++ r)
primary_unary (grammar.an_identifier n free) r = refl
primary_unary (grammar.a_number n) r = refl
primary_unary (grammar.a_character n) r = refl
primary_unary (grammar.a_string s) r = text_unary s r
primary_unary (grammar.grouped e) r = refl

pub postfix_unary : {T : List Name} {p : ℕ} {t : tree.Expression} {w : List Word} → grammar.IsPostfix T p t w → (r : List Word) → 0 ≡ head_unary (w ++ r)
postfix_unary (grammar.primary {u = u} {v = v} a rest) r = primary_unary a (v ++ r) ∙ ap head_unary (sym (append_assoc u v r))

pub step_unary : {o : StepOp} {m : Punctuator} → op.IsStep o m → 1 ≡ mark_unary m
step_unary op.increment = refl
step_unary op.decrement = refl

pub prefix_unary : {o : UnaryOp} {m : Punctuator} → op.IsPrefix o m → 2 ≡ mark_unary m
prefix_unary op.address_of = refl
prefix_unary op.dereference = refl
prefix_unary op.plus = refl
prefix_unary op.minus = refl
prefix_unary op.bit_not = refl
prefix_unary op.not = refl

pub unary_code : {T : List Name} {p : ℕ} {t : tree.Expression} {w : List Word} (d : grammar.IsUnary T p t w) (r : List Word) → unary_line d ≡ head_unary (w ++ r)
unary_code (grammar.postfix a) r = postfix_unary a r
unary_code (grammar.stepped is a) r = step_unary is
unary_code (grammar.prefixed is a) r = prefix_unary is
unary_code (grammar.sized a) r = refl
unary_code (grammar.type_sized n) r = refl

pub unary_clash : {T : List Name} {p p' : ℕ} {t t' : tree.Expression} {w w' : List Word} (d : grammar.IsUnary T p t w) (d' : grammar.IsUnary T p' t' w') (r r' : List Word) → w ++ r ≡ w' ++ r' → unary_line d ≡ unary_line d'
unary_clash d d' r r' eq = unary_code d r ∙ ap head_unary eq ∙ sym (unary_code d' r')

-- a parenthesis before what begins specifiers opens no expression
pub primary_second : {T : List Name} {p : ℕ} {t : tree.Expression} {w : List Word} (d : grammar.IsPrimary T p t w) (r : List Word) {x : Word} {v : List Word} → w ++ r ≡ mark punctuator.OpenParen ∷ (x ∷ v) → StartsSpecifier T x → ⊥
primary_second {T = T} (grammar.grouped {u = u} e) r {x = x} eq is =
    apart (meets ((u ++ (mark punctuator.CloseParen ∷ [])) ++ r) (starting_append (u ++ (mark punctuator.CloseParen ∷ [])) r (starting_append u (mark punctuator.CloseParen ∷ []) (expression_starts e))) (rest_same eq)) is
primary_second d r eq is = omega (arith, primary_code d r, ap head_primary eq)

pub unary_second : {T : List Name} {p : ℕ} {t : tree.Expression} {w : List Word} (d : grammar.IsUnary T p t w) (r : List Word) {x : Word} {v : List Word} → w ++ r ≡ mark punctuator.OpenParen ∷ (x ∷ v) → StartsSpecifier T x → ⊥
unary_second (grammar.postfix (grammar.primary {u = u} {v = v} a rest)) r eq is = primary_second a (v ++ r) (sym (append_assoc u v r) ∙ eq) is
unary_second d r eq is = omega (arith, unary_code d r, ap head_unary eq)

pub paren_type : {T : List Name} {p p' : ℕ} {t : tree.Expression} {n : tree.TypeName} {w u : List Word} → grammar.IsUnary T p t w → grammar.IsTypeName T p' n u → (r z : List Word) → w ++ r ≡ mark punctuator.OpenParen ∷ (u ++ z) → ⊥
paren_type d n r z eq =
    let s = type_name_starts n in
    unary_second d r (eq ∙ ap (λ y. mark punctuator.OpenParen ∷ (y ++ z)) s.2) s.3
