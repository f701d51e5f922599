-- The grammar of expressions and declarators: a constructor for each alternative, over splits of the words.
-- T holds the typedef names, which stay the same within a declaration; p is the number of the first word.
use Rattle.std.specs.Prelude.{ℕ, suc, ◌+◌, ◌<◌, ◌≡◌, Bool, true, false, List, [], ◌∷◌, ◌++◌, length, Some, None}
use Rattle.std.specs.List.{Contains}
use Rattle.im_tok.specs.declared.number.Number.{Number}
use Rattle.im_tok.specs.declared.keyword.Keyword.{Keyword}
use Rattle.im_tok.specs.declared.keyword.Keyword.TheVariants.{Sizeof, Struct, Enum, Const}
use Rattle.im_tok.specs.declared.punctuator.Punctuator.{Punctuator}
use Rattle.im_tok.specs.declared.punctuator.Punctuator.TheVariants.{OpenBracket, CloseBracket, OpenParen, CloseParen, OpenBrace, CloseBrace, Dot, Arrow, Star, Question, Colon, Semicolon, Assign, Comma}
use Rattle.im_word.specs.Words.{Name, Word, name, keyword, number, character, text, mark}
use Rattle.im_ctree.specs.declared.operator.StepOp.{StepOp}
use Rattle.im_ctree.specs.declared.operator.UnaryOp.{UnaryOp}
use Rattle.im_ctree.specs.declared.operator.BinaryOp.{BinaryOp}
use Rattle.im_ctree.specs.declared.operator.AssignOp.{AssignOp}
use Rattle.im_ctree.specs.declared.specifier.SpecifierWord.{SpecifierWord}
use Rattle.im_ctree.specs.Operators.{IsBinaryOperator, IsAssignOperator, IsStep, IsPrefix, IsSpecifierWord}
use Rattle.im_ctree.specs.Typedefs.{adds_type, has_type}
use Rattle.im_ctree.specs.Tree.{Expression, identifier, integer_constant, character_constant, string_literal, index, call, member_of, arrow_to, post_step, pre_step, unary, size_of_expression, size_of_type, cast, binary, conditional, assign, comma, Expressions, no_expressions, more_expressions, MaybeExpression, no_expression, an_expression, Specifiers, specifiers, SpecifierList, no_specifiers, more_specifiers, Specifier, word_specifier, typedef_specifier, struct_tag, enum_tag, struct_specifier, enum_specifier, Members, no_members, more_members, Enumerators, no_enumerators, more_enumerators, Declarators, no_declarators, more_declarators, Declarator, declarator, absent_core, name_core, around, Suffixes, no_suffixes, array_suffix, function_suffix, MaybeDeclarator, no_declarator, a_declarator, Parameters, no_parameters, more_parameters, TypeName, type_name}

-- String { String }, one literal (C11 6.4.5)
pub data IsJoinedText : Name → List Word → Type 0 where
  last_text : (s : Name) → IsJoinedText s (text s ∷ [])
  more_text : (s : Name) {t : Name} {u : List Word} → IsJoinedText t u → IsJoinedText (s ++ t) (text s ∷ u)

-- { "const" }, and how many
pub data IsConsts : ℕ → List Word → Type 0 where
  no_const : IsConsts 0 []
  a_const : {n : ℕ} {u : List Word} → IsConsts n u → IsConsts (suc n) (keyword Const ∷ u)

-- stars = { "*" { "const" } } (C11 6.7.6.1)
pub data IsStars : List ℕ → List Word → Type 0 where
  no_star : IsStars [] []
  a_star : {n : ℕ} {ns : List ℕ} {u v : List Word} → IsConsts n u → IsStars ns v → IsStars (n ∷ ns) (mark Star ∷ (u ++ v))

-- The words go on with the specifiers before them: they begin with a typedef name. The Bool says whether a type (C11 6.7.2) stands
-- in those specifiers; behind one, a typedef name is none of them.
pub data GoesOnSpecifiers (T : List Name) : Bool → List Word → Type 0 where
  a_typedef_name : {n : Name} {w : List Word} → Contains T n → GoesOnSpecifiers T false (name n ∷ w)

-- what opens a parameter list, behind a parenthesis in a parameter's declarator
pub data OpensParameters (T : List Name) : List Word → Type 0 where
  at_close : {w : List Word} → OpensParameters T (mark CloseParen ∷ w)
  at_typedef_name : {n : Name} {w : List Word} → Contains T n → OpensParameters T (name n ∷ w)
  at_word : {x : SpecifierWord} {k : Keyword} {w : List Word} → IsSpecifierWord x k → OpensParameters T (keyword k ∷ w)
  at_struct : {w : List Word} → OpensParameters T (keyword Struct ∷ w)
  at_enum : {w : List Word} → OpensParameters T (keyword Enum ∷ w)

mutual
  -- expr = assign { "," assign } (C11 6.5.17)
  pub data IsExpression (T : List Name) : ℕ → Expression → List Word → Type 0 where
    assigns : {p : ℕ} {a t : Expression} {u v : List Word} → IsAssignment T p a u → CommaTail T p (p + length u) a t v → IsExpression T p t (u ++ v)

  -- { "," assign }, behind what begins at word s and spells the first tree
  pub data CommaTail (T : List Name) : ℕ → ℕ → Expression → Expression → List Word → Type 0 where
    no_comma : {s p : ℕ} {a : Expression} → CommaTail T s p a a []
    a_comma : {s p : ℕ} {a b t : Expression} {u v : List Word} → IsAssignment T (suc p) b u → CommaTail T s (suc p + length u) (comma s a b) t v → CommaTail T s p a t (mark Comma ∷ (u ++ v))

  -- assign = cond | unary asgop assign (C11 6.5.16)
  pub data IsAssignment (T : List Name) : ℕ → Expression → List Word → Type 0 where
    chooses : {p : ℕ} {t : Expression} {u : List Word} → IsConditional T p t u → IsAssignment T p t u
    assigned : {p : ℕ} {o : AssignOp} {m : Punctuator} {a b : Expression} {u v : List Word}
        → IsUnary T p a u
        → IsAssignOperator o m
        → IsAssignment T (suc (p + length u)) b v
        → IsAssignment T p (assign p o a b) (u ++ (mark m ∷ v))

  -- cond = binary [ "?" expr ":" cond ] (C11 6.5.15)
  pub data IsConditional (T : List Name) : ℕ → Expression → List Word → Type 0 where
    operates : {p : ℕ} {t : Expression} {u : List Word} → IsBinary T 0 p t u → IsConditional T p t u
    a_choice : {p : ℕ} {c a b : Expression} {u v w : List Word}
        → IsBinary T 0 p c u
        → IsExpression T (suc (p + length u)) a v
        → IsConditional T (suc (suc (p + length u) + length v)) b w
        → IsConditional T p (conditional p c a b) (u ++ (mark Question ∷ (v ++ (mark Colon ∷ w))))

  -- binary: ten left-associative levels over cast (C11 6.5.5 to 6.5.14)
  pub data IsBinary (T : List Name) : ℕ → ℕ → Expression → List Word → Type 0 where
    casts : {p : ℕ} {t : Expression} {u : List Word} → IsCast T p t u → IsBinary T 10 p t u
    level : {n p : ℕ} {a t : Expression} {u v : List Word} → n < 10 → IsBinary T (suc n) p a u → BinaryTail T p n (p + length u) a t v → IsBinary T n p t (u ++ v)

  -- { operator operand } of a level, behind what begins at word s and spells the first tree
  pub data BinaryTail (T : List Name) : ℕ → ℕ → ℕ → Expression → Expression → List Word → Type 0 where
    no_operator : {s n p : ℕ} {a : Expression} → BinaryTail T s n p a a []
    an_operator : {s n p : ℕ} {o : BinaryOp} {m : Punctuator} {a b t : Expression} {u v : List Word}
        → IsBinaryOperator n o m
        → IsBinary T (suc n) (suc p) b u
        → BinaryTail T s n (suc p + length u) (binary s o a b) t v
        → BinaryTail T s n p a t (mark m ∷ (u ++ v))

  -- cast = unary | "(" typename ")" cast (C11 6.5.4)
  pub data IsCast (T : List Name) : ℕ → Expression → List Word → Type 0 where
    uncast : {p : ℕ} {t : Expression} {u : List Word} → IsUnary T p t u → IsCast T p t u
    a_cast : {p : ℕ} {n : TypeName} {t : Expression} {u v : List Word}
        → IsTypeName T (suc p) n u
        → IsCast T (suc (suc p + length u)) t v
        → IsCast T p (cast p n t) (mark OpenParen ∷ (u ++ (mark CloseParen ∷ v)))

  -- unary = postfix | ("++"|"--") unary | ("&"|"*"|"+"|"-"|"~"|"!") cast | "sizeof" unary | "sizeof" "(" typename ")" (C11 6.5.3)
  pub data IsUnary (T : List Name) : ℕ → Expression → List Word → Type 0 where
    postfix : {p : ℕ} {t : Expression} {u : List Word} → IsPostfix T p t u → IsUnary T p t u
    stepped : {p : ℕ} {o : StepOp} {m : Punctuator} {t : Expression} {u : List Word} → IsStep o m → IsUnary T (suc p) t u → IsUnary T p (pre_step p o t) (mark m ∷ u)
    prefixed : {p : ℕ} {o : UnaryOp} {m : Punctuator} {t : Expression} {u : List Word} → IsPrefix o m → IsCast T (suc p) t u → IsUnary T p (unary p o t) (mark m ∷ u)
    sized : {p : ℕ} {t : Expression} {u : List Word} → IsUnary T (suc p) t u → IsUnary T p (size_of_expression p t) (keyword Sizeof ∷ u)
    type_sized : {p : ℕ} {n : TypeName} {u : List Word} → IsTypeName T (suc (suc p)) n u → IsUnary T p (size_of_type p n) (keyword Sizeof ∷ mark OpenParen ∷ (u ++ (mark CloseParen ∷ [])))

  -- postfix = primary { "[" expr "]" | "(" [ assign { "," assign } ] ")" | "." Name | "->" Name | "++" | "--" } (C11 6.5.2)
  pub data IsPostfix (T : List Name) : ℕ → Expression → List Word → Type 0 where
    primary : {p : ℕ} {a t : Expression} {u v : List Word} → IsPrimary T p a u → PostfixTail T p (p + length u) a t v → IsPostfix T p t (u ++ v)

  -- { "[" expr "]" | .. | "--" } of postfix, behind what begins at word s and spells the first tree
  pub data PostfixTail (T : List Name) : ℕ → ℕ → Expression → Expression → List Word → Type 0 where
    no_postfix : {s p : ℕ} {a : Expression} → PostfixTail T s p a a []
    indexes : {s p : ℕ} {a b t : Expression} {u v : List Word}
        → IsExpression T (suc p) b u
        → PostfixTail T s (suc (suc p + length u)) (index s a b) t v
        → PostfixTail T s p a t (mark OpenBracket ∷ (u ++ (mark CloseBracket ∷ v)))
    calls : {s p : ℕ} {a t : Expression} {bs : Expressions} {u v : List Word}
        → IsArguments T (suc p) bs u
        → PostfixTail T s (suc (suc p + length u)) (call s a bs) t v
        → PostfixTail T s p a t (mark OpenParen ∷ (u ++ (mark CloseParen ∷ v)))
    dots : {s p : ℕ} {a t : Expression} (n : Name) {v : List Word} → PostfixTail T s (suc (suc p)) (member_of s a n) t v → PostfixTail T s p a t (mark Dot ∷ name n ∷ v)
    arrows : {s p : ℕ} {a t : Expression} (n : Name) {v : List Word} → PostfixTail T s (suc (suc p)) (arrow_to s a n) t v → PostfixTail T s p a t (mark Arrow ∷ name n ∷ v)
    steps : {s p : ℕ} {o : StepOp} {m : Punctuator} {a t : Expression} {v : List Word} → IsStep o m → PostfixTail T s (suc p) (post_step s o a) t v → PostfixTail T s p a t (mark m ∷ v)

  -- [ assign { "," assign } ]
  pub data IsArguments (T : List Name) : ℕ → Expressions → List Word → Type 0 where
    no_argument : {p : ℕ} → IsArguments T p no_expressions []
    first_argument : {p : ℕ} {a : Expression} {as' : Expressions} {u v : List Word} → IsAssignment T p a u → ArgumentTail T (p + length u) as' v → IsArguments T p (more_expressions a as') (u ++ v)

  -- { "," assign }, behind the first argument
  pub data ArgumentTail (T : List Name) : ℕ → Expressions → List Word → Type 0 where
    last_argument : {p : ℕ} → ArgumentTail T p no_expressions []
    next_argument : {p : ℕ} {a : Expression} {as' : Expressions} {u v : List Word}
        → IsAssignment T (suc p) a u
        → ArgumentTail T (suc p + length u) as' v
        → ArgumentTail T p (more_expressions a as') (mark Comma ∷ (u ++ v))

  -- primary = Ident | Number | Character | String { String } | "(" expr ")" (C11 6.5.1)
  pub data IsPrimary (T : List Name) : ℕ → Expression → List Word → Type 0 where
    an_identifier : {p : ℕ} (n : Name) → (Contains T n → ⊥) → IsPrimary T p (identifier p n) (name n ∷ [])
    a_number : {p : ℕ} (n : Number) → IsPrimary T p (integer_constant p n) (number n ∷ [])
    a_character : {p : ℕ} (n : ℕ) → IsPrimary T p (character_constant p n) (character n ∷ [])
    a_string : {p : ℕ} {s : Name} {u : List Word} → IsJoinedText s u → IsPrimary T p (string_literal p s) u
    grouped : {p : ℕ} {t : Expression} {u : List Word} → IsExpression T (suc p) t u → IsPrimary T p t (mark OpenParen ∷ (u ++ (mark CloseParen ∷ [])))

  -- specs = spec { spec } (C11 6.7)
  pub data IsSpecifiers (T : List Name) : ℕ → Specifiers → List Word → Type 0 where
    first_specifier : {p : ℕ} {x : Specifier} {xs : SpecifierList} {u v : List Word}
        → IsSpecifier T false p x u
        → SpecifierTail T (adds_type false x) (p + length u) xs v
        → IsSpecifiers T p (specifiers p (more_specifiers x xs)) (u ++ v)

  -- { spec }; the Bool says whether a type stands in the specifiers before it
  pub data SpecifierTail (T : List Name) : Bool → ℕ → SpecifierList → List Word → Type 0 where
    last_specifier : {a : Bool} {p : ℕ} → SpecifierTail T a p no_specifiers []
    next_specifier : {a : Bool} {p : ℕ} {x : Specifier} {xs : SpecifierList} {u v : List Word}
        → IsSpecifier T a p x u
        → SpecifierTail T (adds_type a x) (p + length u) xs v
        → SpecifierTail T a p (more_specifiers x xs) (u ++ v)

  -- spec = typedef | .. | unsigned | struct | enum | typedef-name (C11 6.7.1 to 6.7.3, 6.7.8); the Bool says whether a
  -- type stands in the specifiers before it
  pub data IsSpecifier (T : List Name) : Bool → ℕ → Specifier → List Word → Type 0 where
    a_word : {a : Bool} {p : ℕ} {x : SpecifierWord} {k : Keyword} → IsSpecifierWord x k → IsSpecifier T a p (word_specifier p x) (keyword k ∷ [])
    a_struct : {a : Bool} {p : ℕ} {ms : Members} {u : List Word}
        → IsMembers T (suc (suc p)) ms u
        → IsSpecifier T a p (struct_specifier p None ms) (keyword Struct ∷ mark OpenBrace ∷ (u ++ (mark CloseBrace ∷ [])))
    a_named_struct : {a : Bool} {p : ℕ} (n : Name) {ms : Members} {u : List Word}
        → IsMembers T (suc (suc (suc p))) ms u
        → IsSpecifier T a p (struct_specifier p (Some n) ms) (keyword Struct ∷ name n ∷ mark OpenBrace ∷ (u ++ (mark CloseBrace ∷ [])))
    a_struct_tag : {a : Bool} {p : ℕ} (n : Name) → IsSpecifier T a p (struct_tag p n) (keyword Struct ∷ name n ∷ [])
    an_enum : {a : Bool} {p : ℕ} {es : Enumerators} {u : List Word}
        → IsEnumerators T (suc (suc p)) es u
        → IsSpecifier T a p (enum_specifier p None es) (keyword Enum ∷ mark OpenBrace ∷ (u ++ (mark CloseBrace ∷ [])))
    a_named_enum : {a : Bool} {p : ℕ} (n : Name) {es : Enumerators} {u : List Word}
        → IsEnumerators T (suc (suc (suc p))) es u
        → IsSpecifier T a p (enum_specifier p (Some n) es) (keyword Enum ∷ name n ∷ mark OpenBrace ∷ (u ++ (mark CloseBrace ∷ [])))
    an_enum_tag : {a : Bool} {p : ℕ} (n : Name) → IsSpecifier T a p (enum_tag p n) (keyword Enum ∷ name n ∷ [])
    its_typedef_name : {p : ℕ} (n : Name) → Contains T n → IsSpecifier T false p (typedef_specifier p n) (name n ∷ [])

  -- member { member }, member = specs declarator { "," declarator } ";" (C11 6.7.2.1)
  pub data IsMembers (T : List Name) : ℕ → Members → List Word → Type 0 where
    first_member : {p : ℕ} {s : Specifiers} {d : Declarator} {ds : Declarators} {ms : Members} {u v w x : List Word}
        → IsSpecifiers T p s u
        → (GoesOnSpecifiers T (has_type s) v → ⊥)
        → IsDeclarator T false (p + length u) d v
        → DeclaratorTail T (p + length u + length v) ds w
        → MemberTail T (suc (p + length u + length v + length w)) ms x
        → IsMembers T p (more_members s (more_declarators d ds) ms) (u ++ (v ++ (w ++ (mark Semicolon ∷ x))))

  -- { member }, behind the first member
  pub data MemberTail (T : List Name) : ℕ → Members → List Word → Type 0 where
    last_member : {p : ℕ} → MemberTail T p no_members []
    next_member : {p : ℕ} {ms : Members} {u : List Word} → IsMembers T p ms u → MemberTail T p ms u

  -- { "," declarator }
  pub data DeclaratorTail (T : List Name) : ℕ → Declarators → List Word → Type 0 where
    last_declarator : {p : ℕ} → DeclaratorTail T p no_declarators []
    next_declarator : {p : ℕ} {d : Declarator} {ds : Declarators} {u v : List Word}
        → IsDeclarator T false (suc p) d u
        → DeclaratorTail T (suc p + length u) ds v
        → DeclaratorTail T p (more_declarators d ds) (mark Comma ∷ (u ++ v))

  -- enumr { "," enumr } [","], enumr = Name [ "=" cond ] (C11 6.7.2.2)
  pub data IsEnumerators (T : List Name) : ℕ → Enumerators → List Word → Type 0 where
    first_enumerator : {p : ℕ} (n : Name) {e : MaybeExpression} {es : Enumerators} {u v : List Word}
        → IsValue T (suc p) e u
        → EnumeratorTail T (suc p + length u) es v
        → IsEnumerators T p (more_enumerators p n e es) (name n ∷ (u ++ v))

  -- [ "=" cond ]
  pub data IsValue (T : List Name) : ℕ → MaybeExpression → List Word → Type 0 where
    no_value : {p : ℕ} → IsValue T p no_expression []
    a_value : {p : ℕ} {e : Expression} {u : List Word} → IsConditional T (suc p) e u → IsValue T p (an_expression e) (mark Assign ∷ u)

  -- { "," enumr } [","]
  pub data EnumeratorTail (T : List Name) : ℕ → Enumerators → List Word → Type 0 where
    last_enumerator : {p : ℕ} → EnumeratorTail T p no_enumerators []
    last_comma : {p : ℕ} → EnumeratorTail T p no_enumerators (mark Comma ∷ [])
    next_enumerator : {p : ℕ} {es : Enumerators} {u : List Word} → IsEnumerators T (suc p) es u → EnumeratorTail T p es (mark Comma ∷ u)

  -- declarator = stars ( Name | "(" declarator ")" ) { tail } (C11 6.7.6); the Bool g is true within a parameter's
  -- own declarator, where no parenthesis round a declarator is one that opens a parameter list
  pub data IsDeclarator (T : List Name) : Bool → ℕ → Declarator → List Word → Type 0 where
    a_name : {g : Bool} {p : ℕ} {ns : List ℕ} (n : Name) {ts : Suffixes} {u v : List Word}
        → IsStars ns u
        → IsSuffixes T (suc (p + length u)) ts v
        → IsDeclarator T g p (declarator p ns (name_core n) ts) (u ++ (name n ∷ v))
    an_inner : {g : Bool} {p : ℕ} {ns : List ℕ} {d : Declarator} {ts : Suffixes} {u v w : List Word}
        → IsStars ns u
        → IsDeclarator T g (suc (p + length u)) d v
        → (g ≡ true → OpensParameters T v → ⊥)
        → IsSuffixes T (suc (suc (p + length u) + length v)) ts w
        → IsDeclarator T g p (around p ns d ts) (u ++ (mark OpenParen ∷ (v ++ (mark CloseParen ∷ w))))

  -- { tail }, tail = "[" [cond] "]" | "(" [ param { "," param } ] ")" (C11 6.7.6.2, 6.7.6.3)
  pub data IsSuffixes (T : List Name) : ℕ → Suffixes → List Word → Type 0 where
    no_suffix : {p : ℕ} → IsSuffixes T p no_suffixes []
    an_array : {p : ℕ} {e : MaybeExpression} {ts : Suffixes} {u v : List Word}
        → IsLength T (suc p) e u
        → IsSuffixes T (suc (suc p + length u)) ts v
        → IsSuffixes T p (array_suffix p e ts) (mark OpenBracket ∷ (u ++ (mark CloseBracket ∷ v)))
    a_function : {p : ℕ} {qs : Parameters} {ts : Suffixes} {u v : List Word}
        → IsParameters T (suc p) qs u
        → IsSuffixes T (suc (suc p + length u)) ts v
        → IsSuffixes T p (function_suffix p qs ts) (mark OpenParen ∷ (u ++ (mark CloseParen ∷ v)))

  -- [cond]
  pub data IsLength (T : List Name) : ℕ → MaybeExpression → List Word → Type 0 where
    no_length : {p : ℕ} → IsLength T p no_expression []
    a_length : {p : ℕ} {e : Expression} {u : List Word} → IsConditional T p e u → IsLength T p (an_expression e) u

  -- [ param { "," param } ]
  pub data IsParameters (T : List Name) : ℕ → Parameters → List Word → Type 0 where
    no_parameter : {p : ℕ} → IsParameters T p no_parameters []
    first_parameter : {p : ℕ} {s : Specifiers} {d : MaybeDeclarator} {qs : Parameters} {u v : List Word}
        → IsParameter T p s d u
        → ParameterTail T (p + length u) qs v
        → IsParameters T p (more_parameters s d qs) (u ++ v)

  -- { "," param }, behind the first parameter
  pub data ParameterTail (T : List Name) : ℕ → Parameters → List Word → Type 0 where
    last_parameter : {p : ℕ} → ParameterTail T p no_parameters []
    next_parameter : {p : ℕ} {s : Specifiers} {d : MaybeDeclarator} {qs : Parameters} {u v : List Word}
        → IsParameter T (suc p) s d u
        → ParameterTail T (suc p + length u) qs v
        → ParameterTail T p (more_parameters s d qs) (mark Comma ∷ (u ++ v))

  -- param = specs [ declarator | abstract ] (C11 6.7.6)
  pub data IsParameter (T : List Name) : ℕ → Specifiers → MaybeDeclarator → List Word → Type 0 where
    named_parameter : {p : ℕ} {s : Specifiers} {d : Declarator} {u v : List Word}
        → IsSpecifiers T p s u
        → (GoesOnSpecifiers T (has_type s) v → ⊥)
        → IsDeclarator T true (p + length u) d v
        → IsParameter T p s (a_declarator d) (u ++ v)
    other_parameter : {p : ℕ} {s : Specifiers} {d : MaybeDeclarator} {u v : List Word} → IsSpecifiers T p s u → IsMaybeAbstract T (p + length u) d v → IsParameter T p s d (u ++ v)

  -- typename = specs [ abstract ] (C11 6.7.7)
  pub data IsTypeName (T : List Name) : ℕ → TypeName → List Word → Type 0 where
    a_type_name : {p : ℕ} {s : Specifiers} {d : MaybeDeclarator} {u v : List Word}
        → IsSpecifiers T p s u
        → IsMaybeAbstract T (p + length u) d v
        → IsTypeName T p (type_name s d) (u ++ v)

  -- [ abstract ]
  pub data IsMaybeAbstract (T : List Name) : ℕ → MaybeDeclarator → List Word → Type 0 where
    no_abstract : {p : ℕ} → IsMaybeAbstract T p no_declarator []
    an_abstract : {p : ℕ} {d : Declarator} {u : List Word} → IsAbstract T p d u → IsMaybeAbstract T p (a_declarator d) u

  -- abstract = stars [ "(" abstract ")" ] { tail }, not empty; the inner one begins with "*" (C11 6.7.7)
  pub data IsAbstract (T : List Name) : ℕ → Declarator → List Word → Type 0 where
    with_stars : {p n : ℕ} {ns : List ℕ} {ts : Suffixes} {u v : List Word} → IsStars (n ∷ ns) u → IsSuffixes T (p + length u) ts v → IsAbstract T p (declarator p (n ∷ ns) absent_core ts) (u ++ v)
    with_suffixes : {p : ℕ} {ts : Suffixes} {x : Word} {v : List Word} → IsSuffixes T p ts (x ∷ v) → IsAbstract T p (declarator p [] absent_core ts) (x ∷ v)
    with_inner : {p : ℕ} {ns : List ℕ} {d : Declarator} {ts : Suffixes} {u v w : List Word}
        → IsStars ns u
        → IsAbstract T (suc (p + length u)) d (mark Star ∷ v)
        → IsSuffixes T (suc (suc (p + length u) + length (mark Star ∷ v))) ts w
        → IsAbstract T p (around p ns d ts) (u ++ (mark OpenParen ∷ ((mark Star ∷ v) ++ (mark CloseParen ∷ w))))
