-- For private contracts: what is answered of one declarator at file scope.
use Rattle.std.specs.Prelude.{◌≡◌, ◌⊎◌, ◌<◌, ℕ, List, ◌++◌}
use Rattle.im_check_file_specifiers.specs.im_word.Words.{Name}
use Rattle.im_ctree.specs.Tree as t
use Rattle.im_ctree.specs.Shape.{declarator_of, maybe_initializer_of}
use Rattle.im_ctree.specs.declared.declaration.InitDeclarator.{InitDeclarator}
use Rattle.im_check_file_specifiers.specs.im_ctype.Types.{CType}
use Rattle.im_rules.specs.BodyBreaks.{an_initialiser, GivenBroken}
use Rattle.im_rules.specs.Declared.{Qualified, Declared}
use Rattle.im_rules.specs.Demands.{Meets, Refuses}
use Rattle.im_rules.specs.FileScope.{FilePlace, past_strings, file_asks, with_declared}
use Rattle.im_rules.specs.Initialisers.{Item, Initialised, completed, strings_given}
use Rattle.im_rules.specs.Outline.{is_initialised}
use Rattle.im_rules.specs.TypedUnit.{FirstValues, AreDeclared, MayGive, AreConstants, given_strings, values_given}
use Rattle.im_rules.specs.UnitBreaks.{RefusedItem, some_declared}
use Rattle.im_check_file_specifiers.specs.im_rules_limits.Limits.{size_limit, Counted, GivenSized, IsGivenWithin}
use Rattle.im_check_sizes.specs.Sizes.{AllFit}
use Rattle.im_check_stop.specs.declared.stop.Stop.{Stop}
use Rattle.im_check_stop.specs.declared.stop.Stop.TheVariants.{Rule, Large, Memory}
use Rattle.im_check_initialisers.specs.Given.{IsInitialisationWithin}
use Rattle.im_check_file_specifiers.specs.Answers.{IsRest}
use Rattle.im_check_defined.specs.declared.first_values.FirstValues as rf
use Rattle.im_check_defined.specs.Values.{first_values_in}

abbrev pub with_declarator : InitDeclarator → t.InitDeclarators → t.InitDeclarators
with_declarator x rest = t.more_init_declarators (declarator_of x.declarator) (maybe_initializer_of x.initializer) rest

-- its name is in scope with its whole type, whose sizes that count are within the limit
pub record IsEntered (before : FilePlace) (xs : t.SpecifierList) (y : Declared) (i : t.MaybeInitializer) (after : FilePlace) : Type 0 where
  pub meets : Meets (file_asks before xs y (completed y.type i) (is_initialised i))
  pub fits : AllFit before.context.known (completed y.type i)
  pub place : after ≡ with_declared xs y (completed y.type i) (is_initialised i) before

-- a rule refuses it at this token, or a size that counts of its type is over the limit
abbrev pub IsNameFault : FilePlace → t.SpecifierList → Declared → t.MaybeInitializer → ℕ → Stop → Type 0
IsNameFault f xs y i at (Rule rule token) = Refuses rule (file_asks f xs y (completed y.type i) (is_initialised i)) × (token ≡ at)
IsNameFault f xs y i at (Large bytes) = Counted f.context.known (completed y.type i) bytes × (size_limit < bytes)
IsNameFault f xs y i at Memory = Unit {0}

-- an item is no constant
abbrev pub IsRefusedItem : FilePlace → List Item → Stop → Type 0
IsRefusedItem f ps (Rule rule token) = RefusedItem f rule token ps
IsRefusedItem f ps (Large bytes) = ⊥
IsRefusedItem f ps Memory = Unit {0}

-- what an initialiser gives a static's cells
pub record IsFirst (before : FilePlace) (x : Name) (a : CType) (i : t.Initializer) (g : FirstValues) (after : FilePlace) : Type 0 where
  pub items : List Item
  pub initialised : Initialised before.context a 0 i items
  pub constants : AreConstants (past_strings (strings_given before.context.known a i) before) items
  pub values : g ≡ values_given (past_strings (strings_given before.context.known a i) before) x a items
  pub place : after ≡ past_strings (strings_given before.context.known a i) before
  pub within : IsGivenWithin before.context (an_initialiser a 0 i)

-- an initialiser breaks a rule in a part of it, or by what an item is
abbrev pub FirstBroken : FilePlace → CType → t.Initializer → ℕ → ℕ → Type 0
FirstBroken f a i rule token =
    GivenBroken f.context (an_initialiser a 0 i) rule token
    ⊎ ((ps : List Item) × Initialised f.context a 0 i ps × RefusedItem (past_strings (strings_given f.context.known a i) f) rule token ps)

abbrev pub IsFirstFault : FilePlace → CType → t.MaybeInitializer → Stop → Type 0
IsFirstFault f a t.no_initializer (Rule rule token) = ⊥
IsFirstFault f a (t.an_initializer i) (Rule rule token) = FirstBroken f a i rule token
IsFirstFault f a t.no_initializer (Large bytes) = ⊥
IsFirstFault f a (t.an_initializer i) (Large bytes) = GivenSized f.context (an_initialiser a 0 i) bytes × (size_limit < bytes)
IsFirstFault f a i Memory = Unit {0}

-- what the initialiser gives, where there is one, stands behind the others
pub record MayAdd (before : FilePlace) (x : Name) (a : CType) (i : t.MaybeInitializer) (old new : List rf.FirstValues) (after : FilePlace) : Type 0 where
  pub given : List FirstValues
  pub added : first_values_in new ≡ first_values_in old ++ given
  pub gives : MayGive before x a i given
  pub place : after ≡ past_strings (given_strings before a i) before
  pub within : IsInitialisationWithin before.context a i

-- the first of declarators is declared: whatever the others declare and are given stands behind it
pub record GoesOnDeclared (xs : t.SpecifierList) (q : Qualified) (before : FilePlace) (all : t.InitDeclarators) (old new : List rf.FirstValues) (rest : t.InitDeclarators) (after : FilePlace) : Type 0 where
  pub given : List FirstValues
  pub added : first_values_in new ≡ first_values_in old ++ given
  pub gives : (hs : List FirstValues) (e : FilePlace) → AreDeclared xs q after rest hs e → AreDeclared xs q before all (given ++ hs) e
  pub behind : IsRest before (some_declared xs q all) after (some_declared xs q rest)
