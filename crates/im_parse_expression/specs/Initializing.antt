-- What the parsing functions of initialisers and declarations promise.
use Rattle.std.specs.Prelude.{ℕ, suc, ◌+◌, false, List, [], ◌∷◌, ◌++◌, length, map, Option, Some, None}
use Rattle.std.specs.declared.vec.Vec.{Vec}
use Rattle.im_tok.specs.declared.punctuator.Punctuator.TheVariants.{Comma}
use Rattle.im_word.specs.Words.{Name, Word, mark}
use Rattle.im_ctree.specs.Tree as t
use Rattle.im_ctree.specs.Grammar as g
use Rattle.im_ctree.specs.Units as u'
use Rattle.im_ctree.specs.Shape.{initializer_of, maybe_initializer_of, declarator_of}
use Rattle.im_ctree.specs.declared.declaration.Initializer as ini
use Rattle.im_ctree.specs.declared.declaration.InitDeclarator.{InitDeclarator}
use Rattle.im_parse_core.specs.Lists.{before}

abbrev pub initializers_tree : {G : Type 0} → Vec ini.Initializer G → t.Initializers
initializers_tree items = before t.more_initializers (map initializer_of items.items) t.no_initializers

-- init { "," init } [","]
pub data IsInitializers (T : List Name) : ℕ → t.Initializers → List Word → Type 0 where
  initializers : {p : ℕ} {x : t.Initializer} {xs : t.Initializers} {u v : List Word} → u'.IsInitializer T p x u → u'.InitializerTail T (p + length u) xs v → IsInitializers T p (t.more_initializers x xs) (u ++ v)

abbrev pub maybe_initializer_tree : Option ini.Initializer → t.MaybeInitializer
maybe_initializer_tree i = maybe_initializer_of i

-- a declarator and its initialiser
abbrev pub InitDeclaratorTree : Type 0
InitDeclaratorTree = t.Declarator × t.MaybeInitializer

abbrev pub add_init_declarator : InitDeclaratorTree → t.InitDeclarators → t.InitDeclarators
add_init_declarator x xs = t.more_init_declarators x.0 x.1 xs

abbrev pub init_declarator_tree : InitDeclarator → InitDeclaratorTree
init_declarator_tree x = (declarator_of x.declarator, maybe_initializer_of x.initializer)

abbrev pub init_declarators_tree : {G : Type 0} → Vec InitDeclarator G → t.InitDeclarators
init_declarators_tree items = before add_init_declarator (map init_declarator_tree items.items) t.no_init_declarators

-- declarator [ "=" init ]
pub data IsInitDeclarator (T : List Name) : ℕ → InitDeclaratorTree → List Word → Type 0 where
  an_init_declarator : {p : ℕ} {d : t.Declarator} {i : t.MaybeInitializer} {u v : List Word} → g.IsDeclarator T false p d u → u'.IsMaybeInitializer T (p + length u) i v → IsInitDeclarator T p (d, i) (u ++ v)

-- { "," initdecl }
pub data InitTail (T : List Name) : ℕ → t.InitDeclarators → List Word → Type 0 where
  last_init : {p : ℕ} → InitTail T p t.no_init_declarators []
  next_init : {p : ℕ} {ds : t.InitDeclarators} {u : List Word} → u'.IsInitDeclarators T (suc p) ds u → InitTail T p ds (mark Comma ∷ u)

-- what stands behind the first declarator of a declaration: [ "=" init ] { "," initdecl }
pub data InitsBehind (T : List Name) (d : t.Declarator) : ℕ → t.InitDeclarators → List Word → Type 0 where
  inits_behind : {p : ℕ} {i : t.MaybeInitializer} {ds : t.InitDeclarators} {u v : List Word} → u'.IsMaybeInitializer T p i u → InitTail T (p + length u) ds v → InitsBehind T d p (t.more_init_declarators d i ds) (u ++ v)
