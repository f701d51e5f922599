-- The tables as functions and as relations say the same.
use Rattle.std.proofs.Common.{◌≡◌, ℕ, List, sym, ap, refl, ◌∙◌, subst}
use Rattle.std.specs.Prelude.{Option, Some, None, drop, Bool, IsTrue, ◌↔◌}
use Rattle.std.specs.List.{Contains}
use Rattle.im_tok.specs.declared.keyword.Keyword.{Keyword}
use Rattle.im_ctree.specs.Follow.{keyword_specifier}
use Rattle.im_tok.specs.declared.punctuator.Punctuator.{Punctuator}
use Rattle.im_tok.specs.declared.punctuator.Punctuator.TheVariants as mk
use Rattle.im_word.specs.Words.{Name, Word, name, keyword, mark}
use Rattle.im_ctree.specs.declared.operator.StepOp.{StepOp}
use Rattle.im_ctree.specs.declared.operator.UnaryOp.{UnaryOp}
use Rattle.im_ctree.specs.declared.operator.BinaryOp.{BinaryOp}
use Rattle.im_ctree.specs.declared.operator.AssignOp.{AssignOp}
use Rattle.im_ctree.specs.Operators as op
use Rattle.im_parse_core.specs.Reads.{head}
use Rattle.im_parse_core.specs.Places.{IsAt}
use Rattle.im_ctree.specs.declared.specifier.SpecifierWord.{SpecifierWord}
use Rattle.im_tok.specs.declared.keyword.Keyword.TheVariants as ky
use Rattle.im_parse_expression.specs.Declaring.{WordAt, NoWord}
use Rattle.im_parse_expression.specs.Tables as table
use Rattle.im_parse_expression.specs.Parsing.{NoOperator, BeginsSpecifiers, by_name, by_keyword}

some_same : {A : Type 0} {a b : A} → Some a ≡ Some b → a ≡ b
some_same e = cc

level_moved : {o o' : BinaryOp} {n n' : ℕ} {m : Punctuator} → op.IsBinaryOperator n' o' m → ◌≡◌ {A = Option (BinaryOp × ℕ)} (Some (o', n')) (Some (o, n)) → op.IsBinaryOperator n o m
level_moved {o = o} {o' = o'} {n = n} {n' = n'} {m = m} is e =
    let h : ◌≡◌ {A = BinaryOp × ℕ} (o', n') (o, n) = some_same e in
    subst (λ z. op.IsBinaryOperator z o m) (ap (λ z. z.1) h) (subst (λ z. op.IsBinaryOperator n' z m) (ap (λ z. z.0) h) is)

pub has_binary : {n : ℕ} {o : BinaryOp} {m : Punctuator} → op.IsBinaryOperator n o m → table.binary_operator m ≡ Some (o, n)
has_binary op.or = refl
has_binary op.and = refl
has_binary op.bit_or = refl
has_binary op.bit_xor = refl
has_binary op.bit_and = refl
has_binary op.equal = refl
has_binary op.not_equal = refl
has_binary op.less = refl
has_binary op.greater = refl
has_binary op.less_equal = refl
has_binary op.greater_equal = refl
has_binary op.shift_left = refl
has_binary op.shift_right = refl
has_binary op.add = refl
has_binary op.subtract = refl
has_binary op.multiply = refl
has_binary op.divide = refl
has_binary op.remainder = refl

pub is_binary : (n : ℕ) (o : BinaryOp) (m : Punctuator) → table.binary_operator m ≡ Some (o, n) → op.IsBinaryOperator n o m
is_binary n o mk.OrOr e = level_moved op.or e
is_binary n o mk.AndAnd e = level_moved op.and e
is_binary n o mk.Bar e = level_moved op.bit_or e
is_binary n o mk.Caret e = level_moved op.bit_xor e
is_binary n o mk.Ampersand e = level_moved op.bit_and e
is_binary n o mk.EqualEqual e = level_moved op.equal e
is_binary n o mk.NotEqual e = level_moved op.not_equal e
is_binary n o mk.Less e = level_moved op.less e
is_binary n o mk.Greater e = level_moved op.greater e
is_binary n o mk.LessEqual e = level_moved op.less_equal e
is_binary n o mk.GreaterEqual e = level_moved op.greater_equal e
is_binary n o mk.ShiftLeft e = level_moved op.shift_left e
is_binary n o mk.ShiftRight e = level_moved op.shift_right e
is_binary n o mk.Plus e = level_moved op.add e
is_binary n o mk.Minus e = level_moved op.subtract e
is_binary n o mk.Star e = level_moved op.multiply e
is_binary n o mk.Slash e = level_moved op.divide e
is_binary n o mk.Percent e = level_moved op.remainder e
is_binary n o m e = absurd cc

pub has_assign : {o : AssignOp} {m : Punctuator} → op.IsAssignOperator o m → table.assign_operator m ≡ Some o
has_assign op.assign = refl
has_assign op.assign_multiply = refl
has_assign op.assign_divide = refl
has_assign op.assign_remainder = refl
has_assign op.assign_add = refl
has_assign op.assign_subtract = refl
has_assign op.assign_shift_left = refl
has_assign op.assign_shift_right = refl
has_assign op.assign_and = refl
has_assign op.assign_xor = refl
has_assign op.assign_or = refl

pub is_assign : (o : AssignOp) (m : Punctuator) → table.assign_operator m ≡ Some o → op.IsAssignOperator o m
is_assign o mk.Assign e = subst (λ z. op.IsAssignOperator z mk.Assign) (some_same e) op.assign
is_assign o mk.StarAssign e = subst (λ z. op.IsAssignOperator z mk.StarAssign) (some_same e) op.assign_multiply
is_assign o mk.SlashAssign e = subst (λ z. op.IsAssignOperator z mk.SlashAssign) (some_same e) op.assign_divide
is_assign o mk.PercentAssign e = subst (λ z. op.IsAssignOperator z mk.PercentAssign) (some_same e) op.assign_remainder
is_assign o mk.PlusAssign e = subst (λ z. op.IsAssignOperator z mk.PlusAssign) (some_same e) op.assign_add
is_assign o mk.MinusAssign e = subst (λ z. op.IsAssignOperator z mk.MinusAssign) (some_same e) op.assign_subtract
is_assign o mk.ShiftLeftAssign e = subst (λ z. op.IsAssignOperator z mk.ShiftLeftAssign) (some_same e) op.assign_shift_left
is_assign o mk.ShiftRightAssign e = subst (λ z. op.IsAssignOperator z mk.ShiftRightAssign) (some_same e) op.assign_shift_right
is_assign o mk.AndAssign e = subst (λ z. op.IsAssignOperator z mk.AndAssign) (some_same e) op.assign_and
is_assign o mk.XorAssign e = subst (λ z. op.IsAssignOperator z mk.XorAssign) (some_same e) op.assign_xor
is_assign o mk.OrAssign e = subst (λ z. op.IsAssignOperator z mk.OrAssign) (some_same e) op.assign_or
is_assign o m e = absurd cc

pub has_step : {o : StepOp} {m : Punctuator} → op.IsStep o m → table.step_operator m ≡ Some o
has_step op.increment = refl
has_step op.decrement = refl

pub is_step : (o : StepOp) (m : Punctuator) → table.step_operator m ≡ Some o → op.IsStep o m
is_step o mk.Increment e = subst (λ z. op.IsStep z mk.Increment) (some_same e) op.increment
is_step o mk.Decrement e = subst (λ z. op.IsStep z mk.Decrement) (some_same e) op.decrement
is_step o m e = absurd cc

pub has_prefix : {o : UnaryOp} {m : Punctuator} → op.IsPrefix o m → table.prefix_operator m ≡ Some o
has_prefix op.address_of = refl
has_prefix op.dereference = refl
has_prefix op.plus = refl
has_prefix op.minus = refl
has_prefix op.bit_not = refl
has_prefix op.not = refl

pub is_prefix : (o : UnaryOp) (m : Punctuator) → table.prefix_operator m ≡ Some o → op.IsPrefix o m
is_prefix o mk.Ampersand e = subst (λ z. op.IsPrefix z mk.Ampersand) (some_same e) op.address_of
is_prefix o mk.Star e = subst (λ z. op.IsPrefix z mk.Star) (some_same e) op.dereference
is_prefix o mk.Plus e = subst (λ z. op.IsPrefix z mk.Plus) (some_same e) op.plus
is_prefix o mk.Minus e = subst (λ z. op.IsPrefix z mk.Minus) (some_same e) op.minus
is_prefix o mk.Tilde e = subst (λ z. op.IsPrefix z mk.Tilde) (some_same e) op.bit_not
is_prefix o mk.Exclamation e = subst (λ z. op.IsPrefix z mk.Exclamation) (some_same e) op.not
is_prefix o m e = absurd cc

-- the punctuator that stands there
same_mark : {m k : Punctuator} {words : List Word} {i n : ℕ} → IsAt (mark k) words i n → head (drop i words) ≡ Some (mark m) → m ≡ k
same_mark {m = m} {k = k} at e = let h : Some (mark m) ≡ Some (mark k) = sym e ∙ ap head at.here in let w : mark m ≡ mark k = some_same h in cc

pub no_operator : {A : Type 0} {Is : A → Punctuator → Type 0} {words : List Word} {i n : ℕ} {k : Punctuator} (table : Punctuator → Option A) → ((o : A) (m : Punctuator) → Is o m → table m ≡ Some o) → IsAt (mark k) words i n → table k ≡ None → NoOperator Is words i
no_operator table has at none o m is e = let same = same_mark at e in let h : None ≡ Some o = sym none ∙ ap table (sym same) ∙ has o m is in cc

pub other_level : {words : List Word} {i n l f : ℕ} {k : Punctuator} {o : BinaryOp} → IsAt (mark k) words i n → table.binary_operator k ≡ Some (o, f) → (f ≡ l → ⊥) → NoOperator (op.IsBinaryOperator l) words i
other_level {l = l} {f = f} {o = o} at some other o' m is e =
    let same = same_mark at e in
    let h : ◌≡◌ {A = Option (BinaryOp × ℕ)} (Some (o, f)) (Some (o', l)) = sym some ∙ ap table.binary_operator (sym same) ∙ has_binary is in
    let g : ◌≡◌ {A = BinaryOp × ℕ} (o, f) (o', l) = some_same h in
    other (ap (λ z. z.1) g)

pub no_level : {words : List Word} {i n l : ℕ} {k : Punctuator} → IsAt (mark k) words i n → table.binary_operator k ≡ None → NoOperator (op.IsBinaryOperator l) words i
no_level {l = l} at none o' m is e =
    let same = same_mark at e in
    let h : ◌≡◌ {A = Option (BinaryOp × ℕ)} None (Some (o', l)) = sym none ∙ ap table.binary_operator (sym same) ∙ has_binary is in
    cc

name_begins : {T : List Name} {n : Name} → BeginsSpecifiers T (Some (name n)) → Contains T n
name_begins (by_name is) = is

keyword_begins : {T : List Name} {k : Keyword} → BeginsSpecifiers T (Some (keyword k)) → keyword_specifier k ≡ 1
keyword_begins (by_keyword is) = is

-- what begins specifiers
pub by_this_name : {T : List Name} {words : List Word} {i k : ℕ} {n : Name} (b : Bool) → IsAt (name n) words i k → IsTrue b ↔ Contains T n → IsTrue b ↔ BeginsSpecifiers T (head (drop i words))
by_this_name {T = T} {n = n} b at both = (λ h. subst (BeginsSpecifiers T) (sym (ap head at.here)) (by_name (both.0 h)), λ h. both.1 (name_begins (subst (BeginsSpecifiers T) (ap head at.here) h)))

pub by_this_keyword : {T : List Name} {words : List Word} {i n : ℕ} {k : Keyword} (b : Bool) → IsAt (keyword k) words i n → IsTrue b ↔ keyword_specifier k ≡ 1 → IsTrue b ↔ BeginsSpecifiers T (head (drop i words))
by_this_keyword {T = T} {k = k} b at both = (λ h. subst (BeginsSpecifiers T) (sym (ap head at.here)) (by_keyword (both.0 h)), λ h. both.1 (keyword_begins (subst (BeginsSpecifiers T) (ap head at.here) h)))

pub has_word : {x : SpecifierWord} {k : Keyword} → op.IsSpecifierWord x k → table.specifier_word k ≡ Some x
has_word op.typedef = refl
has_word op.extern = refl
has_word op.static = refl
has_word op.const = refl
has_word op.void = refl
has_word op.char = refl
has_word op.short = refl
has_word op.int = refl
has_word op.long = refl
has_word op.signed = refl
has_word op.unsigned = refl

pub is_word : (x : SpecifierWord) (k : Keyword) → table.specifier_word k ≡ Some x → op.IsSpecifierWord x k
is_word x ky.Typedef e = subst (λ z. op.IsSpecifierWord z ky.Typedef) (some_same e) op.typedef
is_word x ky.Extern e = subst (λ z. op.IsSpecifierWord z ky.Extern) (some_same e) op.extern
is_word x ky.Static e = subst (λ z. op.IsSpecifierWord z ky.Static) (some_same e) op.static
is_word x ky.Const e = subst (λ z. op.IsSpecifierWord z ky.Const) (some_same e) op.const
is_word x ky.Void e = subst (λ z. op.IsSpecifierWord z ky.Void) (some_same e) op.void
is_word x ky.Char e = subst (λ z. op.IsSpecifierWord z ky.Char) (some_same e) op.char
is_word x ky.Short e = subst (λ z. op.IsSpecifierWord z ky.Short) (some_same e) op.short
is_word x ky.Int e = subst (λ z. op.IsSpecifierWord z ky.Int) (some_same e) op.int
is_word x ky.Long e = subst (λ z. op.IsSpecifierWord z ky.Long) (some_same e) op.long
is_word x ky.Signed e = subst (λ z. op.IsSpecifierWord z ky.Signed) (some_same e) op.signed
is_word x ky.Unsigned e = subst (λ z. op.IsSpecifierWord z ky.Unsigned) (some_same e) op.unsigned
is_word x k e = absurd cc

same_keyword : {m k : Keyword} {words : List Word} {i n : ℕ} → IsAt (keyword k) words i n → head (drop i words) ≡ Some (keyword m) → m ≡ k
same_keyword {m = m} {k = k} at e = let h : Some (keyword m) ≡ Some (keyword k) = sym e ∙ ap head at.here in let w : keyword m ≡ keyword k = some_same h in cc

pub word_stands : {words : List Word} {i n : ℕ} {k : Keyword} {x : SpecifierWord} → IsAt (keyword k) words i n → table.specifier_word k ≡ Some x → WordAt words i x n
word_stands {k = k} {x = x} at e = record { keyword' = k; is = is_word x k e; at = at }

pub no_word : {words : List Word} {i n : ℕ} {k : Keyword} → IsAt (keyword k) words i n → table.specifier_word k ≡ None → NoWord words i
no_word at none x m is e = let h : None ≡ Some x = sym none ∙ ap table.specifier_word (sym (same_keyword at e)) ∙ has_word is in cc
