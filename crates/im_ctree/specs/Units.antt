-- The grammar of initialisers, declarations, statements and units. A declaration with `typedef` adds its names to
-- T, which holds the typedef names, for all that follows it.
use Rattle.std.specs.Prelude.{ℕ, suc, ◌+◌, ◌≡◌, Bool, true, false, List, [], ◌∷◌, ◌++◌, length, codes}
use Rattle.im_tok.specs.declared.keyword.Keyword.TheVariants.{If, Else, While, Do, For, Switch, Case, Default, Break, Continue, Return}
use Rattle.im_tok.specs.declared.punctuator.Punctuator.TheVariants.{OpenParen, CloseParen, OpenBrace, CloseBrace, Colon, Semicolon, Assign, Comma}
use Rattle.im_word.specs.Words.{Name, Word, keyword, mark}
use Rattle.im_ctree.specs.Tree.{Expression, MaybeExpression, no_expression, an_expression, Specifiers, Declarator, Initializer, value_initializer, braced_initializer, Initializers, no_initializers, more_initializers, MaybeInitializer, no_initializer, an_initializer, InitDeclarators, no_init_declarators, more_init_declarators, Declaration, declaration, ForInit, for_declaration, for_expression, Statement, block_statement, expression_statement, if_statement, while_statement, do_statement, for_statement, switch_statement, case_statement, default_statement, break_statement, continue_statement, return_statement, no_statement, a_statement, Block, block, BlockItems, no_items, declaration_item, statement_item, External, external_declaration, function_definition, Tree, no_externals, more_externals}
use Rattle.im_ctree.specs.Typedefs.{has_type, typedef_names, names_behind, names_behind_init, names_behind_external}
use Rattle.im_ctree.specs.Grammar.{IsExpression, IsAssignment, IsConditional, IsSpecifiers, GoesOnSpecifiers, IsDeclarator}

mutual
  -- init = assign | "{" init { "," init } [","] "}" (C11 6.7.9)
  pub data IsInitializer (T : List Name) : ℕ → Initializer → List Word → Type 0 where
    a_value : {p : ℕ} {e : Expression} {u : List Word} → IsAssignment T p e u → IsInitializer T p (value_initializer e) u
    braced : {p : ℕ} {x : Initializer} {xs : Initializers} {u v : List Word}
        → IsInitializer T (suc p) x u
        → InitializerTail T (suc p + length u) xs v
        → IsInitializer T p (braced_initializer p (more_initializers x xs)) (mark OpenBrace ∷ (u ++ (v ++ (mark CloseBrace ∷ []))))

  -- { "," init } [","]
  pub data InitializerTail (T : List Name) : ℕ → Initializers → List Word → Type 0 where
    last_initializer : {p : ℕ} → InitializerTail T p no_initializers []
    last_comma : {p : ℕ} → InitializerTail T p no_initializers (mark Comma ∷ [])
    next_initializer : {p : ℕ} {x : Initializer} {xs : Initializers} {u v : List Word}
        → IsInitializer T (suc p) x u
        → InitializerTail T (suc p + length u) xs v
        → InitializerTail T p (more_initializers x xs) (mark Comma ∷ (u ++ v))

-- [ "=" init ]
pub data IsMaybeInitializer (T : List Name) : ℕ → MaybeInitializer → List Word → Type 0 where
  not_initialized : {p : ℕ} → IsMaybeInitializer T p no_initializer []
  initialized : {p : ℕ} {i : Initializer} {u : List Word} → IsInitializer T (suc p) i u → IsMaybeInitializer T p (an_initializer i) (mark Assign ∷ u)

-- initdecl { "," initdecl }, initdecl = declarator [ "=" init ] (C11 6.7)
pub data IsInitDeclarators (T : List Name) : ℕ → InitDeclarators → List Word → Type 0 where
  last_declarator : {p : ℕ} {d : Declarator} {i : MaybeInitializer} {u v : List Word}
      → IsDeclarator T false p d u
      → IsMaybeInitializer T (p + length u) i v
      → IsInitDeclarators T p (more_init_declarators d i no_init_declarators) (u ++ v)
  next_declarator : {p : ℕ} {d : Declarator} {i : MaybeInitializer} {ds : InitDeclarators} {u v w : List Word}
      → IsDeclarator T false p d u
      → IsMaybeInitializer T (p + length u) i v
      → IsInitDeclarators T (suc (p + length u + length v)) ds w
      → IsInitDeclarators T p (more_init_declarators d i ds) (u ++ (v ++ (mark Comma ∷ w)))

-- decl = specs [ initdecl { "," initdecl } ] ";" (C11 6.7)
pub data IsDeclaration (T : List Name) : ℕ → Declaration → List Word → Type 0 where
  declares_none : {p : ℕ} {s : Specifiers} {u : List Word} → IsSpecifiers T p s u → IsDeclaration T p (declaration s no_init_declarators) (u ++ (mark Semicolon ∷ []))
  declares : {p : ℕ} {s : Specifiers} {ds : InitDeclarators} {u v : List Word}
      → IsSpecifiers T p s u
      → (GoesOnSpecifiers T (has_type s) v → ⊥)
      → IsInitDeclarators T (p + length u) ds v
      → IsDeclaration T p (declaration s ds) (u ++ (v ++ (mark Semicolon ∷ [])))

-- [expr]
pub data IsMaybeExpression (T : List Name) : ℕ → MaybeExpression → List Word → Type 0 where
  nothing : {p : ℕ} → IsMaybeExpression T p no_expression []
  something : {p : ℕ} {e : Expression} {u : List Word} → IsExpression T p e u → IsMaybeExpression T p (an_expression e) u

-- decl | [expr] ";" in a `for` (C11 6.8.5.3)
pub data IsForInit (T : List Name) : ℕ → ForInit → List Word → Type 0 where
  begins_with_declaration : {p : ℕ} {d : Declaration} {u : List Word} → IsDeclaration T p d u → IsForInit T p (for_declaration d) u
  begins_with_expression : {p : ℕ} {e : MaybeExpression} {u : List Word} → IsMaybeExpression T p e u → IsForInit T p (for_expression e) (u ++ (mark Semicolon ∷ []))

-- whether it ends in an `if` without `else`, to which an `else` behind it would belong
abbrev pub takes_else : Statement → Bool
takes_else (block_statement p b) = false
takes_else (expression_statement p e) = false
takes_else (if_statement p e s no_statement) = true
takes_else (if_statement p e s (a_statement t)) = takes_else t
takes_else (while_statement p e s) = takes_else s
takes_else (do_statement p s e) = false
takes_else (for_statement p i c n s) = takes_else s
takes_else (switch_statement p e b) = false
takes_else (case_statement p e s) = takes_else s
takes_else (default_statement p s) = takes_else s
takes_else (break_statement p) = false
takes_else (continue_statement p) = false
takes_else (return_statement p e) = false

mutual
  -- block = "{" { decl | stmt } "}" (C11 6.8.2)
  pub data IsBlock : List Name → ℕ → Block → List Word → Type 0 where
    a_block : {T : List Name} {p : ℕ} {is : BlockItems} {u : List Word} → IsBlockItems T (suc p) is u → IsBlock T p (block p is) (mark OpenBrace ∷ (u ++ (mark CloseBrace ∷ [])))

  -- { decl | stmt } of a block
  pub data IsBlockItems : List Name → ℕ → BlockItems → List Word → Type 0 where
    no_item : {T : List Name} {p : ℕ} → IsBlockItems T p no_items []
    next_declaration : {T : List Name} {p : ℕ} {d : Declaration} {is : BlockItems} {u v : List Word}
        → IsDeclaration T p d u
        → IsBlockItems (typedef_names T d) (p + length u) is v
        → IsBlockItems T p (declaration_item d is) (u ++ v)
    next_statement : {T : List Name} {p : ℕ} {s : Statement} {is : BlockItems} {u v : List Word}
        → IsStatement T p s u
        → IsBlockItems (names_behind T s) (p + length u) is v
        → IsBlockItems T p (statement_item s is) (u ++ v)

  -- stmt (C11 6.8)
  pub data IsStatement : List Name → ℕ → Statement → List Word → Type 0 where
    -- block
    blocks : {T : List Name} {p : ℕ} {b : Block} {u : List Word} → IsBlock T p b u → IsStatement T p (block_statement p b) u
    -- [expr] ";"
    computes : {T : List Name} {p : ℕ} {e : MaybeExpression} {u : List Word} → IsMaybeExpression T p e u → IsStatement T p (expression_statement p e) (u ++ (mark Semicolon ∷ []))
    -- "if" "(" expr ")" stmt
    ifs : {T : List Name} {p : ℕ} {e : Expression} {s : Statement} {u v : List Word}
        → IsExpression T (suc (suc p)) e u
        → IsStatement T (suc (suc (suc p) + length u)) s v
        → IsStatement T p (if_statement p e s no_statement) (keyword If ∷ mark OpenParen ∷ (u ++ (mark CloseParen ∷ v)))
    -- "if" "(" expr ")" stmt "else" stmt, where the first statement takes no `else`
    if_elses : {T : List Name} {p : ℕ} {e : Expression} {s t : Statement} {u v w : List Word}
        → IsExpression T (suc (suc p)) e u
        → IsStatement T (suc (suc (suc p) + length u)) s v
        → takes_else s ≡ false
        → IsStatement (names_behind T s) (suc (suc (suc (suc p) + length u) + length v)) t w
        → IsStatement T p (if_statement p e s (a_statement t)) (keyword If ∷ mark OpenParen ∷ (u ++ (mark CloseParen ∷ (v ++ (keyword Else ∷ w)))))
    -- "while" "(" expr ")" stmt
    whiles : {T : List Name} {p : ℕ} {e : Expression} {s : Statement} {u v : List Word}
        → IsExpression T (suc (suc p)) e u
        → IsStatement T (suc (suc (suc p) + length u)) s v
        → IsStatement T p (while_statement p e s) (keyword While ∷ mark OpenParen ∷ (u ++ (mark CloseParen ∷ v)))
    -- "do" stmt "while" "(" expr ")" ";"
    dos : {T : List Name} {p : ℕ} {s : Statement} {e : Expression} {u v : List Word}
        → IsStatement T (suc p) s u
        → IsExpression (names_behind T s) (suc (suc (suc p + length u))) e v
        → IsStatement T p (do_statement p s e) (keyword Do ∷ (u ++ (keyword While ∷ mark OpenParen ∷ (v ++ (mark CloseParen ∷ mark Semicolon ∷ [])))))
    -- "for" "(" ( decl | [expr] ";" ) [expr] ";" [expr] ")" stmt
    fors : {T : List Name} {p : ℕ} {i : ForInit} {c n : MaybeExpression} {s : Statement} {u v w x : List Word}
        → IsForInit T (suc (suc p)) i u
        → IsMaybeExpression (names_behind_init T i) (suc (suc p) + length u) c v
        → IsMaybeExpression (names_behind_init T i) (suc (suc (suc p) + length u + length v)) n w
        → IsStatement (names_behind_init T i) (suc (suc (suc (suc p) + length u + length v) + length w)) s x
        → IsStatement T p (for_statement p i c n s) (keyword For ∷ mark OpenParen ∷ (u ++ (v ++ (mark Semicolon ∷ (w ++ (mark CloseParen ∷ x))))))
    -- "switch" "(" expr ")" block
    switches : {T : List Name} {p : ℕ} {e : Expression} {b : Block} {u v : List Word}
        → IsExpression T (suc (suc p)) e u
        → IsBlock T (suc (suc (suc p) + length u)) b v
        → IsStatement T p (switch_statement p e b) (keyword Switch ∷ mark OpenParen ∷ (u ++ (mark CloseParen ∷ v)))
    -- "case" cond ":" stmt
    cases : {T : List Name} {p : ℕ} {e : Expression} {s : Statement} {u v : List Word}
        → IsConditional T (suc p) e u
        → IsStatement T (suc (suc p + length u)) s v
        → IsStatement T p (case_statement p e s) (keyword Case ∷ (u ++ (mark Colon ∷ v)))
    -- "default" ":" stmt
    defaults : {T : List Name} {p : ℕ} {s : Statement} {u : List Word} → IsStatement T (suc (suc p)) s u → IsStatement T p (default_statement p s) (keyword Default ∷ mark Colon ∷ u)
    -- "break" ";" and "continue" ";"
    breaks : {T : List Name} {p : ℕ} → IsStatement T p (break_statement p) (keyword Break ∷ mark Semicolon ∷ [])
    continues : {T : List Name} {p : ℕ} → IsStatement T p (continue_statement p) (keyword Continue ∷ mark Semicolon ∷ [])
    -- "return" [expr] ";"
    returns : {T : List Name} {p : ℕ} {e : MaybeExpression} {u : List Word} → IsMaybeExpression T (suc p) e u → IsStatement T p (return_statement p e) (keyword Return ∷ (u ++ (mark Semicolon ∷ [])))

-- external = decl | specs declarator block (C11 6.9); a function definition declares no typedef name
pub data IsExternal : List Name → ℕ → External → List Word → Type 0 where
  a_declaration : {T : List Name} {p : ℕ} {d : Declaration} {u : List Word} → IsDeclaration T p d u → IsExternal T p (external_declaration d) u
  a_definition : {T : List Name} {p : ℕ} {s : Specifiers} {d : Declarator} {b : Block} {u v w : List Word}
      → IsSpecifiers T p s u
      → (GoesOnSpecifiers T (has_type s) v → ⊥)
      → IsDeclarator T false (p + length u) d v
      → IsBlock T (p + length u + length v) b w
      → IsExternal T p (function_definition s d b) (u ++ (v ++ w))

-- unit = external { external }
pub data IsUnit : List Name → ℕ → Tree → List Word → Type 0 where
  last_external : {T : List Name} {p : ℕ} {e : External} {u : List Word} → IsExternal T p e u → IsUnit T p (more_externals e no_externals) u
  next_external : {T : List Name} {p : ℕ} {e : External} {t : Tree} {u v : List Word} → IsExternal T p e u → IsUnit (names_behind_external T e) (p + length u) t v → IsUnit T p (more_externals e t) (u ++ v)

-- the typedef names that stand in for headers
abbrev pub predeclared_names : List Name
predeclared_names = codes "int8_t" ∷ codes "uint8_t" ∷ codes "int16_t" ∷ codes "uint16_t" ∷ codes "int32_t" ∷ codes "uint32_t" ∷ codes "size_t" ∷ []

-- the tree that the words of a whole text spell
abbrev pub Spells : Tree → List Word → Type 0
Spells tree words = IsUnit predeclared_names 0 tree words

-- some derivation begins with these words, of which the first has number p
abbrev pub Begins : {A : Type 0} → (ℕ → A → List Word → Type 0) → ℕ → List Word → Type 0
Begins {A} D p words = (more : List Word) × (tree : A) × D p tree (words ++ more)

-- a viable prefix: some unit begins with these words
abbrev pub IsFront : List Word → Type 0
IsFront words = Begins (IsUnit predeclared_names) 0 words
