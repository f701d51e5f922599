-- Whatever words derive an expression, specifiers or a declarator, the printed words derive it again.
use Rattle.std.proofs.Common.{ℕ, suc, ◌≤◌, Bool, List, ◌∷◌, ◌++◌, refl, arith}
use Rattle.std.proofs.lemmas.List.Elements.{All-append}
use Rattle.im_tok.specs.declared.punctuator.Punctuator.TheVariants.{CloseBracket, OpenParen, CloseParen, CloseBrace, Semicolon, Star, Question, Colon}
use Rattle.im_word.specs.Words.{Name, Word, name, text, mark}
use Rattle.im_ctree.specs.declared.specifier.SpecifierWord.{SpecifierWord}
use Rattle.im_ctree.specs.declared.specifier.SpecifierWord.TheVariants as word
use Rattle.im_ctree.specs.Operators as op
use Rattle.im_ctree.specs.Tree as t
use Rattle.im_ctree.specs.Grammar as g
use Rattle.im_print_relation.specs.Printed as w
use Rattle.im_print_relation.specs.Unnumbered as bare
use Rattle.im_print_relation.specs.Fit.{IsFit, AreFit}
use Rattle.im_print_relation.proofs.Fit.{fit_left, fit_right, fit_inner, Printed}
use Rattle.im_print_relation.proofs.Rows.{arguments_node, argument_tail_node, specifiers_node, specifier_tail_node, struct_node, named_struct_node, enum_node, named_enum_node, members_node, member_tail_node, declarator_tail_node, enumerators_node, value_node, enumerator_tail_node, length_node, AgainParameter, parameters_node, parameter_tail_node, named_parameter_node, other_parameter_node, type_name_node, maybe_abstract_node}
use Rattle.im_print_relation.proofs.Nodes.{Prints, prints_identifier, prints_number, prints_character, prints_text, prints_index, prints_call, prints_member, prints_arrow, prints_post_step, prints_pre_step, prints_unary, prints_sizeof, prints_sizeof_type, prints_cast, prints_binary, prints_conditional, prints_assign, prints_comma}
use Rattle.im_print_relation.proofs.Declarators.{SuffixParts, no_part, array_part, function_part, Parts, a_named, AbstractParts, nothing_named, parts_around, abstract_around, led, suffixed, abstract_starred}

joined_fit : {s : Name} {u : List Word} → g.IsJoinedText s u → AreFit u → IsFit (text s)
joined_fit (g.last_text s) f = f.0
joined_fit (g.more_text s {t = r} rest) f = All-append (λ b. b ≤ 255) s r f.0 (joined_fit rest f.1)

keyword_is : (x : SpecifierWord) → op.IsSpecifierWord x (w.specifier_keyword x)
keyword_is word.Typedef = op.typedef
keyword_is word.Extern = op.extern
keyword_is word.Static = op.static
keyword_is word.Const = op.const
keyword_is word.Void = op.void
keyword_is word.Char = op.char
keyword_is word.Short = op.short
keyword_is word.Int = op.int
keyword_is word.Long = op.long
keyword_is word.Signed = op.signed
keyword_is word.Unsigned = op.unsigned

mutual
  pub prints_expression : {T : List Name} {p : ℕ} {e : t.Expression} {u : List Word} → g.IsExpression T p e u → AreFit u → Prints T e
  prints_expression (g.assigns {u = u} {v = v} a rest) f = prints_commas rest (fit_right u v f) (prints_assignment a (fit_left u v f))

  prints_commas : {T : List Name} {s p : ℕ} {a e : t.Expression} {u : List Word} → g.CommaTail T s p a e u → AreFit u → Prints T a → Prints T e
  prints_commas g.no_comma f x = x
  prints_commas {s = s} (g.a_comma {u = u} {v = v} b rest) f x = prints_commas rest (fit_right u v f.1) (prints_comma s x (prints_assignment b (fit_left u v f.1)))

  pub prints_assignment : {T : List Name} {p : ℕ} {e : t.Expression} {u : List Word} → g.IsAssignment T p e u → AreFit u → Prints T e
  prints_assignment (g.chooses a) f = prints_choice a f
  prints_assignment {p = p} (g.assigned {o = o} {m = m} {u = u} {v = v} a is b) f =
      prints_assign p o (prints_one a (fit_left u (mark m ∷ v) f)) (prints_assignment b (fit_right u (mark m ∷ v) f).1)

  pub prints_choice : {T : List Name} {p : ℕ} {e : t.Expression} {u : List Word} → g.IsConditional T p e u → AreFit u → Prints T e
  prints_choice (g.operates a) f = prints_level a f
  prints_choice {p = p} (g.a_choice {u = u} {v = v} {w = x} c a b) f =
      let r = fit_right u (mark Question ∷ (v ++ (mark Colon ∷ x))) f in
      prints_conditional p (prints_level c (fit_left u (mark Question ∷ (v ++ (mark Colon ∷ x))) f)) (prints_expression a (fit_left v (mark Colon ∷ x) r.1)) (prints_choice b (fit_right v (mark Colon ∷ x) r.1).1)

  prints_level : {T : List Name} {n p : ℕ} {e : t.Expression} {u : List Word} → g.IsBinary T n p e u → AreFit u → Prints T e
  prints_level (g.casts a) f = prints_casts a f
  prints_level (g.level {u = u} {v = v} under a rest) f = prints_operators rest (fit_right u v f) (prints_level a (fit_left u v f))

  prints_operators : {T : List Name} {s n p : ℕ} {a e : t.Expression} {u : List Word} → g.BinaryTail T s n p a e u → AreFit u → Prints T a → Prints T e
  prints_operators g.no_operator f x = x
  prints_operators {s = s} (g.an_operator {o = o} {u = u} {v = v} is b rest) f x = prints_operators rest (fit_right u v f.1) (prints_binary s o x (prints_level b (fit_left u v f.1)))

  prints_casts : {T : List Name} {p : ℕ} {e : t.Expression} {u : List Word} → g.IsCast T p e u → AreFit u → Prints T e
  prints_casts (g.uncast a) f = prints_one a f
  prints_casts {p = p} (g.a_cast {u = u} {v = v} n a) f =
      prints_cast p (prints_type_name n (fit_left u (mark CloseParen ∷ v) f.1)) (prints_casts a (fit_right u (mark CloseParen ∷ v) f.1).1)

  prints_one : {T : List Name} {p : ℕ} {e : t.Expression} {u : List Word} → g.IsUnary T p e u → AreFit u → Prints T e
  prints_one (g.postfix a) f = prints_behind a f
  prints_one {p = p} (g.stepped {o = o} is a) f = prints_pre_step p o (prints_one a f.1)
  prints_one {p = p} (g.prefixed {o = o} is a) f = prints_unary p o (prints_casts a f.1)
  prints_one {p = p} (g.sized a) f = prints_sizeof p (prints_one a f.1)
  prints_one {p = p} (g.type_sized {u = u} n) f = prints_sizeof_type p (prints_type_name n (fit_inner u (mark CloseParen) f.1.1))

  prints_behind : {T : List Name} {p : ℕ} {e : t.Expression} {u : List Word} → g.IsPostfix T p e u → AreFit u → Prints T e
  prints_behind (g.primary {u = u} {v = v} a rest) f = prints_steps rest (fit_right u v f) (prints_primary a (fit_left u v f))

  prints_steps : {T : List Name} {s p : ℕ} {a e : t.Expression} {u : List Word} → g.PostfixTail T s p a e u → AreFit u → Prints T a → Prints T e
  prints_steps g.no_postfix f x = x
  prints_steps {s = s} (g.indexes {u = u} {v = v} b rest) f x =
      prints_steps rest (fit_right u (mark CloseBracket ∷ v) f.1).1 (prints_index s x (prints_expression b (fit_left u (mark CloseBracket ∷ v) f.1)))
  prints_steps {s = s} (g.calls {u = u} {v = v} bs rest) f x =
      prints_steps rest (fit_right u (mark CloseParen ∷ v) f.1).1 (prints_call s x (prints_arguments bs (fit_left u (mark CloseParen ∷ v) f.1)))
  prints_steps {s = s} (g.dots n rest) f x = prints_steps rest f.1.1 (prints_member s n f.1.0 x)
  prints_steps {s = s} (g.arrows n rest) f x = prints_steps rest f.1.1 (prints_arrow s n f.1.0 x)
  prints_steps {s = s} (g.steps {o = o} is rest) f x = prints_steps rest f.1 (prints_post_step s o x)

  prints_arguments : {T : List Name} {p : ℕ} {bs : t.Expressions} {u : List Word} → g.IsArguments T p bs u → AreFit u → Printed bare.expressions (g.IsArguments T) bs (w.arguments T bs)
  prints_arguments g.no_argument f = record { fit = tt; derives = λ q. (t.no_expressions, refl, g.no_argument) }
  prints_arguments (g.first_argument {u = u} {v = v} x rest) f = arguments_node (prints_assignment x (fit_left u v f)) (prints_argument_tail rest (fit_right u v f))

  prints_argument_tail : {T : List Name} {p : ℕ} {bs : t.Expressions} {u : List Word} → g.ArgumentTail T p bs u → AreFit u → Printed bare.expressions (g.ArgumentTail T) bs (w.argument_tail T bs)
  prints_argument_tail g.last_argument f = record { fit = tt; derives = λ q. (t.no_expressions, refl, g.last_argument) }
  prints_argument_tail (g.next_argument {u = u} {v = v} x rest) f = argument_tail_node (prints_assignment x (fit_left u v f.1)) (prints_argument_tail rest (fit_right u v f.1))

  prints_primary : {T : List Name} {p : ℕ} {e : t.Expression} {u : List Word} → g.IsPrimary T p e u → AreFit u → Prints T e
  prints_primary {p = p} (g.an_identifier n free) f = prints_identifier p n free f.0
  prints_primary {p = p} (g.a_number n) f = prints_number p n f.0
  prints_primary {p = p} (g.a_character n) f = prints_character p n f.0
  prints_primary {p = p} (g.a_string {s = s} x) f = prints_text p s (joined_fit x f)
  prints_primary (g.grouped {u = u} x) f = prints_expression x (fit_inner u (mark CloseParen) f.1)

  pub prints_specifiers : {T : List Name} {p : ℕ} {s : t.Specifiers} {u : List Word} → g.IsSpecifiers T p s u → AreFit u → Printed bare.specifiers (g.IsSpecifiers T) s (w.specifiers T s)
  prints_specifiers {p = p} (g.first_specifier {u = u} {v = v} one rest) f = specifiers_node p (prints_specifier one (fit_left u v f)) (prints_specifier_tail rest (fit_right u v f))

  prints_specifier_tail : {T : List Name} {a : Bool} {p : ℕ} {xs : t.SpecifierList} {u : List Word} → g.SpecifierTail T a p xs u → AreFit u → Printed bare.specifier_list (g.SpecifierTail T a) xs (w.specifier_list T xs)
  prints_specifier_tail g.last_specifier f = record { fit = tt; derives = λ q. (t.no_specifiers, refl, g.last_specifier) }
  prints_specifier_tail (g.next_specifier {u = u} {v = v} one rest) f = specifier_tail_node (prints_specifier one (fit_left u v f)) (prints_specifier_tail rest (fit_right u v f))

  prints_specifier : {T : List Name} {a : Bool} {p : ℕ} {x : t.Specifier} {u : List Word} → g.IsSpecifier T a p x u → AreFit u → Printed bare.specifier (g.IsSpecifier T a) x (w.specifier T x)
  prints_specifier (g.a_word {x = x} is) f = record { fit = (tt, tt); derives = λ q. (t.word_specifier q x, refl, g.a_word (keyword_is x)) }
  prints_specifier {p = p} (g.a_struct {u = u} x) f = struct_node p (prints_members x (fit_inner u (mark CloseBrace) f.1.1))
  prints_specifier {p = p} (g.a_named_struct n {u = u} x) f = named_struct_node p n f.1.0 (prints_members x (fit_inner u (mark CloseBrace) f.1.1.1))
  prints_specifier (g.a_struct_tag n) f = record { fit = (tt, (f.1.0, tt)); derives = λ q. (t.struct_tag q n, refl, g.a_struct_tag n) }
  prints_specifier {p = p} (g.an_enum {u = u} x) f = enum_node p (prints_enumerators x (fit_inner u (mark CloseBrace) f.1.1))
  prints_specifier {p = p} (g.a_named_enum n {u = u} x) f = named_enum_node p n f.1.0 (prints_enumerators x (fit_inner u (mark CloseBrace) f.1.1.1))
  prints_specifier (g.an_enum_tag n) f = record { fit = (tt, (f.1.0, tt)); derives = λ q. (t.enum_tag q n, refl, g.an_enum_tag n) }
  prints_specifier (g.its_typedef_name n is) f = record { fit = (f.0, tt); derives = λ q. (t.typedef_specifier q n, refl, g.its_typedef_name n is) }

  prints_members : {T : List Name} {p : ℕ} {ms : t.Members} {u : List Word} → g.IsMembers T p ms u → AreFit u → Printed bare.members (g.IsMembers T) ms (w.members T ms)
  prints_members (g.first_member {u = u} {v = v} {w = x} {x = k} specs free one more rest) f =
      let f1 = fit_right u (v ++ (x ++ (mark Semicolon ∷ k))) f in
      let f2 = fit_right v (x ++ (mark Semicolon ∷ k)) f1 in
      members_node (prints_specifiers specs (fit_left u (v ++ (x ++ (mark Semicolon ∷ k))) f)) (parts_of one (fit_left v (x ++ (mark Semicolon ∷ k)) f1)) (prints_declarator_tail more (fit_left x (mark Semicolon ∷ k) f2)) (prints_member_tail rest (fit_right x (mark Semicolon ∷ k) f2).1)

  prints_member_tail : {T : List Name} {p : ℕ} {ms : t.Members} {u : List Word} → g.MemberTail T p ms u → AreFit u → Printed bare.members (g.MemberTail T) ms (w.members T ms)
  prints_member_tail g.last_member f = record { fit = tt; derives = λ q. (t.no_members, refl, g.last_member) }
  prints_member_tail (g.next_member x) f = member_tail_node (prints_members x f)

  prints_declarator_tail : {T : List Name} {p : ℕ} {ds : t.Declarators} {u : List Word} → g.DeclaratorTail T p ds u → AreFit u → Printed bare.declarators (g.DeclaratorTail T) ds (w.declarator_tail T ds)
  prints_declarator_tail g.last_declarator f = record { fit = tt; derives = λ q. (t.no_declarators, refl, g.last_declarator) }
  prints_declarator_tail (g.next_declarator {u = u} {v = v} x rest) f = declarator_tail_node (parts_of x (fit_left u v f.1)) (prints_declarator_tail rest (fit_right u v f.1))

  prints_enumerators : {T : List Name} {p : ℕ} {es : t.Enumerators} {u : List Word} → g.IsEnumerators T p es u → AreFit u → Printed bare.enumerators (g.IsEnumerators T) es (w.enumerators T es)
  prints_enumerators {p = p} (g.first_enumerator n {u = u} {v = v} x rest) f = enumerators_node p n f.0 (prints_value x (fit_left u v f.1)) (prints_enumerator_tail rest (fit_right u v f.1))

  prints_value : {T : List Name} {p : ℕ} {e : t.MaybeExpression} {u : List Word} → g.IsValue T p e u → AreFit u → Printed bare.maybe_expression (g.IsValue T) e (w.enumerator_value T e)
  prints_value g.no_value f = record { fit = tt; derives = λ q. (t.no_expression, refl, g.no_value) }
  prints_value (g.a_value x) f = value_node (prints_choice x f.1)

  prints_enumerator_tail : {T : List Name} {p : ℕ} {es : t.Enumerators} {u : List Word} → g.EnumeratorTail T p es u → AreFit u → Printed bare.enumerators (g.EnumeratorTail T) es (w.enumerator_tail T es)
  prints_enumerator_tail g.last_enumerator f = record { fit = tt; derives = λ q. (t.no_enumerators, refl, g.last_enumerator) }
  prints_enumerator_tail g.last_comma f = record { fit = tt; derives = λ q. (t.no_enumerators, refl, g.last_enumerator) }
  prints_enumerator_tail {p = p} (g.next_enumerator (g.first_enumerator n {u = u} {v = v} x rest)) f = enumerator_tail_node (suc p) n f.1.0 (prints_value x (fit_left u v f.1.1)) (prints_enumerator_tail rest (fit_right u v f.1.1))

  pub parts_of : {T : List Name} {guarded : Bool} {p : ℕ} {d : t.Declarator} {u : List Word} → g.IsDeclarator T guarded p d u → AreFit u → Parts T guarded d
  parts_of (g.a_name n {u = u} {v = v} st ts) f = let r = fit_right u (name n ∷ v) f in a_named r.0 (suffix_parts ts r.1)
  parts_of (g.an_inner {p = p} {ns = ns} {d = d} {u = u} {v = v} {w = x} st y none rest) f =
      let r = fit_right u (mark OpenParen ∷ (v ++ (mark CloseParen ∷ x))) f in
      parts_around p ns d (parts_of y (fit_left v (mark CloseParen ∷ x) r.1)) (suffix_parts rest (fit_right v (mark CloseParen ∷ x) r.1).1)

  suffix_parts : {T : List Name} {p : ℕ} {ts : t.Suffixes} {u : List Word} → g.IsSuffixes T p ts u → AreFit u → SuffixParts T ts
  suffix_parts g.no_suffix f = no_part
  suffix_parts (g.an_array {u = u} {v = v} x rest) f = array_part (prints_length x (fit_left u (mark CloseBracket ∷ v) f.1)) (suffix_parts rest (fit_right u (mark CloseBracket ∷ v) f.1).1)
  suffix_parts (g.a_function {u = u} {v = v} x rest) f = function_part (prints_parameters x (fit_left u (mark CloseParen ∷ v) f.1)) (suffix_parts rest (fit_right u (mark CloseParen ∷ v) f.1).1)

  prints_length : {T : List Name} {p : ℕ} {e : t.MaybeExpression} {u : List Word} → g.IsLength T p e u → AreFit u → Printed bare.maybe_expression (g.IsLength T) e (w.array_length T e)
  prints_length g.no_length f = record { fit = tt; derives = λ q. (t.no_expression, refl, g.no_length) }
  prints_length (g.a_length x) f = length_node (prints_choice x f)

  prints_parameters : {T : List Name} {p : ℕ} {qs : t.Parameters} {u : List Word} → g.IsParameters T p qs u → AreFit u → Printed bare.parameters (g.IsParameters T) qs (w.parameters T qs)
  prints_parameters g.no_parameter f = record { fit = tt; derives = λ q. (t.no_parameters, refl, g.no_parameter) }
  prints_parameters (g.first_parameter {u = u} {v = v} x rest) f = parameters_node (prints_parameter x (fit_left u v f)) (prints_parameter_tail rest (fit_right u v f))

  prints_parameter_tail : {T : List Name} {p : ℕ} {qs : t.Parameters} {u : List Word} → g.ParameterTail T p qs u → AreFit u → Printed bare.parameters (g.ParameterTail T) qs (w.parameter_tail T qs)
  prints_parameter_tail g.last_parameter f = record { fit = tt; derives = λ q. (t.no_parameters, refl, g.last_parameter) }
  prints_parameter_tail (g.next_parameter {u = u} {v = v} x rest) f = parameter_tail_node (prints_parameter x (fit_left u v f.1)) (prints_parameter_tail rest (fit_right u v f.1))

  prints_parameter : {T : List Name} {p : ℕ} {s : t.Specifiers} {d : t.MaybeDeclarator} {u : List Word} → g.IsParameter T p s d u → AreFit u → AgainParameter T s d (w.specifiers T s ++ w.maybe_declarator T d)
  prints_parameter (g.named_parameter {u = u} {v = v} x free y) f = named_parameter_node v free (led y refl) (prints_specifiers x (fit_left u v f)) (parts_of y (fit_right u v f))
  prints_parameter (g.other_parameter {u = u} {v = v} x y) f = other_parameter_node (prints_specifiers x (fit_left u v f)) (prints_maybe_abstract y (fit_right u v f))

  prints_type_name : {T : List Name} {p : ℕ} {n : t.TypeName} {u : List Word} → g.IsTypeName T p n u → AreFit u → Printed bare.type_name (g.IsTypeName T) n (w.type_name T n)
  prints_type_name (g.a_type_name {u = u} {v = v} x y) f = type_name_node (prints_specifiers x (fit_left u v f)) (prints_maybe_abstract y (fit_right u v f))

  prints_maybe_abstract : {T : List Name} {p : ℕ} {d : t.MaybeDeclarator} {u : List Word} → g.IsMaybeAbstract T p d u → AreFit u → Printed bare.maybe_declarator (g.IsMaybeAbstract T) d (w.maybe_declarator T d)
  prints_maybe_abstract g.no_abstract f = record { fit = tt; derives = λ q. (t.no_declarator, refl, g.no_abstract) }
  prints_maybe_abstract (g.an_abstract x) f = maybe_abstract_node (abstract_parts x f)

  abstract_parts : {T : List Name} {p : ℕ} {d : t.Declarator} {u : List Word} → g.IsAbstract T p d u → AreFit u → AbstractParts T d
  abstract_parts (g.with_stars {u = u} {v = v} st ts) f = nothing_named refl (suffix_parts ts (fit_right u v f))
  abstract_parts (g.with_suffixes ts) f = nothing_named (suffixed ts (omega arith)) (suffix_parts ts f)
  abstract_parts (g.with_inner {p = p} {ns = ns} {d = d} {u = u} {v = v} {w = x} st y rest) f =
      let r = fit_right u (mark OpenParen ∷ ((mark Star ∷ v) ++ (mark CloseParen ∷ x))) f in
      abstract_around p ns d (abstract_starred y refl) (abstract_parts y (fit_left (mark Star ∷ v) (mark CloseParen ∷ x) r.1)) (suffix_parts rest (fit_right (mark Star ∷ v) (mark CloseParen ∷ x) r.1).1)
