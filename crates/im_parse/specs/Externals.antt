-- What the parsing functions of external declarations promise, for their private contracts.
use Rattle.std.specs.Prelude.{ℕ, ◌+◌, false, List, [], ◌∷◌, ◌++◌, length}
use Rattle.im_tok.specs.declared.punctuator.Punctuator.TheVariants.{Semicolon}
use Rattle.im_word.specs.Words.{Name, Word, mark}
use Rattle.im_ctree.specs.Tree as t
use Rattle.im_ctree.specs.Grammar as g
use Rattle.im_ctree.specs.Units as u'
use Rattle.im_ctree.specs.Typedefs.{has_type}
use Rattle.im_parse_core.specs.Reads.{head}
use Rattle.im_parse_expression.specs.Declaring.{GoesOn}
use Rattle.im_parse_expression.specs.Initializing.{InitsBehind}

-- what stands behind the specifiers and the first declarator
pub data DeclaratorRest (T : List Name) (s : t.Specifiers) (d : t.Declarator) : ℕ → t.External → List Word → Type 0 where
  a_body : {p : ℕ} {b : t.Block} {u : List Word} → u'.IsBlock T p b u → DeclaratorRest T s d p (t.function_definition s d b) u
  more_declared : {p : ℕ} {ds : t.InitDeclarators} {u : List Word} → InitsBehind T d p ds u → DeclaratorRest T s d p (t.external_declaration (t.declaration s ds)) (u ++ (mark Semicolon ∷ []))

-- what stands behind the specifiers
pub data ExternalRest (T : List Name) (s : t.Specifiers) : ℕ → t.External → List Word → Type 0 where
  none_declared : {p : ℕ} → ExternalRest T s p (t.external_declaration (t.declaration s t.no_init_declarators)) (mark Semicolon ∷ [])
  first_declared : {p : ℕ} {d : t.Declarator} {x : t.External} {u v : List Word}
      → (GoesOn T (has_type s) (head u) → ⊥)
      → g.IsDeclarator T false p d u
      → DeclaratorRest T s d (p + length u) x v
      → ExternalRest T s p x (u ++ v)
