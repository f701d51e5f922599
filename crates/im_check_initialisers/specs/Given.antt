-- What the walk over an initialiser answers, and the place behind it.
use Rattle.std.specs.Prelude.{◌≡◌, ◌<◌, ℕ, List, ◌++◌}
use Rattle.im_check_expressions.specs.im_word.Words.{Name}
use Rattle.im_ctree.specs.Tree as t
use Rattle.im_ctype.specs.Table.{structs_of}
use Rattle.im_ctype.specs.Types.{CType}
use Rattle.im_check_expressions.specs.im_rules.BodyBreaks.{Given, an_initialiser, GivenBroken}
use Rattle.im_check_expressions.specs.im_rules.Context.{Context}
use Rattle.im_check_expressions.specs.im_rules.Initialisers as n
use Rattle.im_check_expressions.specs.im_rules_limits.Limits.{size_limit, GivenSized, IsGivenWithin}
use Rattle.im_check_items.specs.declared.item.Item as ri
use Rattle.im_check_items.specs.Shape.{items_in}
use Rattle.im_check_place.specs.declared.place.Place.{Place}
use Rattle.im_check_place.specs.Contexts.{context_of, behind_strings}
use Rattle.im_check_stop.specs.declared.stop.Stop.{Stop}
use Rattle.im_check_stop.specs.declared.stop.Stop.TheVariants.{Rule, Large, Memory}

-- a node of an initialiser breaks the rule at the token, or names a type of so many bytes, over the limit; or memory ran out
abbrev pub IsGivenFault : Context → Given → Stop → Type 0
IsGivenFault c g (Rule rule token) = GivenBroken c g rule token
IsGivenFault c g (Large bytes) = GivenSized c g bytes × (size_limit < bytes)
IsGivenFault c g Memory = Unit {0}

-- behind the items there are those that the definitions give of a part, and these string literals of it are read
pub record IsPut (Gives : List n.Item → Type 0) (strings : List Name) (before : Place) (old : List ri.Item) (after : Place) (new : List ri.Item) : Type 0 where
  pub added : List n.Item
  pub given : Gives added
  pub items : items_in before.structs new ≡ items_in before.structs old ++ added
  pub place : after ≡ behind_strings strings before

-- an object is initialised: what goes where stands behind the items
abbrev pub IsInitialised : Place → CType → ℕ → t.Initializer → List ri.Item → Place → List ri.Item → Type 0
IsInitialised before a at i old after new =
    IsPut (n.Initialised (context_of before) a at i) (n.strings_given (structs_of before.structs) a i) before old after new

-- what an object's declaration breaks where it can't be initialised: without an initialiser it breaks no rule
abbrev pub IsInitialisationFault : Context → CType → t.MaybeInitializer → Stop → Type 0
IsInitialisationFault c a t.no_initializer (Rule rule token) = ⊥
IsInitialisationFault c a (t.an_initializer i) (Rule rule token) = GivenBroken c (an_initialiser a 0 i) rule token
IsInitialisationFault c a t.no_initializer (Large bytes) = ⊥
IsInitialisationFault c a (t.an_initializer i) (Large bytes) = GivenSized c (an_initialiser a 0 i) bytes × (size_limit < bytes)
IsInitialisationFault c a i Memory = Unit {0}

-- no size in what initialises an object is over the limit
abbrev pub IsInitialisationWithin : Context → CType → t.MaybeInitializer → Type 0
IsInitialisationWithin c a t.no_initializer = Unit {0}
IsInitialisationWithin c a (t.an_initializer i) = IsGivenWithin c (an_initialiser a 0 i)
