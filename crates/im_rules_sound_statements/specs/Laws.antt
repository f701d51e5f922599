-- What initialisers, statements and blocks are typed to is well typed.
use Rattle.std.specs.Prelude.{◌≡◌, true, List}
use Rattle.im_ctree.specs.Tree as t
use Rattle.im_ctype.specs.Types.{CType}
use Rattle.im_ctype.specs.Layout.{layout}
use Rattle.im_typed.specs.Program.{Stmt, Stmts, Func, Prog}
use Rattle.im_typed.specs.Meaning.{given_offsets}
use Rattle.im_typed.specs.Typing.{Each, IsPieceOf, AreDistinct, AreTyped}
use Rattle.im_rules.specs.TypeTests.{is_complete_in}
use Rattle.im_rules.specs.Rules.{rule_34_break, rule_34_continue}
use Rattle.im_rules.specs.Context.{Context}
use Rattle.im_rules.specs.Initialisers.{Item, Initialised, strings_given, pieces_of}
use Rattle.im_rules.specs.Statements.{Site, Added, TypedStatement, TypedItems}
use Rattle.im_rules.specs.BodyBreaks.{an_initialiser, a_statement, some_items}
use Rattle.im_rules_limits.specs.Limits.{IsGivenWithin, IsBodyWithin}
use Rattle.im_rules_sound_expressions.specs.Bounded.{IsBounded, IsSoundContext, HasStrings}
use Rattle.im_rules_sound_expressions.specs.Written.{IsWrittenInitialiser, IsWrittenStatement, AreWrittenItems}
use Rattle.im_rules_sound_statements.specs.Sites.{IsSoundSite, AreObjects, IsTypedAt}

-- each piece of an initialiser fits cells of its object, and no two give the same cell (C11 6.7.9)
abbrev pub InitialisersLaw : Type 0
InitialisersLaw =
    (g : Prog) (f : Func) (c : Context) (a : CType) (i : t.Initializer) (ps : List Item) → Initialised c a 0 i ps
    → IsWrittenInitialiser i → IsSoundContext g f c → IsBounded c.known a → is_complete_in c.known a ≡ true
    → HasStrings g c (strings_given c.known a i) → IsGivenWithin c (an_initialiser a 0 i)
    → Each (IsPieceOf g f (layout c.known a).cells) (pieces_of c.known ps) × AreDistinct (given_offsets (pieces_of c.known ps))

-- statements (C11 6.8), and the objects that they add
abbrev pub StatementsLaw : Type 0
StatementsLaw =
    (g : Prog) (f : Func) (s : Site) (a : t.Statement) (u : Stmt) (m : Added) → TypedStatement s a u m
    → IsWrittenStatement a → IsSoundSite g f s m → IsBodyWithin s (a_statement a)
    → IsTypedAt g f s u × AreObjects m.objects

-- blocks
abbrev pub ItemsLaw : Type 0
ItemsLaw =
    (g : Prog) (f : Func) (s : Site) (is : t.BlockItems) (us : Stmts) (m : Added) → TypedItems s is us m
    → AreWrittenItems is → IsSoundSite g f s m → IsBodyWithin s (some_items is)
    → AreTyped g f (rule_34_break s.position) (rule_34_continue s.position) us × AreObjects m.objects
