-- What the tree of each source has, whatever its types: each declarator at file scope declares a name, each member list has a
-- member (C11 6.7.2.1, 6.7.6), and constants are what they are in every source.
use Rattle.std.specs.Prelude.{◌≡◌, []}
use Rattle.im_ctree.specs.Tree as t
use Rattle.im_rules.specs.Strings.{strings_of_declarator}
use Rattle.im_rules.specs.Outline.{name_of}
use Rattle.im_rules_sound_expressions.specs.Written.{AllBytes, MayBeWritten, MayBeInitialised, IsWrittenBlock}

abbrev pub IsNamed : t.Declarator → Type 0
IsNamed d = name_of d ≡ [] → ⊥

abbrev pub HasDeclarator : t.Declarators → Type 0
HasDeclarator t.no_declarators = ⊥
HasDeclarator (t.more_declarators d ds) = Unit {0}

abbrev pub HasMember : t.Members → Type 0
HasMember t.no_members = ⊥
HasMember (t.more_members s ds ms) = HasDeclarator ds

abbrev pub AreBytesIn : t.Declarators → Type 0
AreBytesIn t.no_declarators = Unit {0}
AreBytesIn (t.more_declarators d ds) = AllBytes (strings_of_declarator d) × AreBytesIn ds

abbrev pub AreWrittenEnumerators : t.Enumerators → Type 0
AreWrittenEnumerators t.no_enumerators = Unit {0}
AreWrittenEnumerators (t.more_enumerators at x e es) = MayBeWritten e × AreWrittenEnumerators es

abbrev mutual
  pub HaveMembers : t.SpecifierList → Type 0
  HaveMembers t.no_specifiers = Unit {0}
  HaveMembers (t.more_specifiers s xs) = ListsMembers s × HaveMembers xs

  pub ListsMembers : t.Specifier → Type 0
  ListsMembers (t.struct_specifier at x ms) = HasMember ms × MembersHave ms
  ListsMembers (t.word_specifier at x) = Unit {0}
  ListsMembers (t.typedef_specifier at x) = Unit {0}
  ListsMembers (t.struct_tag at x) = Unit {0}
  ListsMembers (t.enum_tag at x) = Unit {0}
  ListsMembers (t.enum_specifier at x es) = AreWrittenEnumerators es

  pub MembersHave : t.Members → Type 0
  MembersHave t.no_members = Unit {0}
  MembersHave (t.more_members s ds ms) = SpecifiersHave s × AreBytesIn ds × MembersHave ms

  pub SpecifiersHave : t.Specifiers → Type 0
  SpecifiersHave (t.specifiers at xs) = HaveMembers xs

abbrev pub AreNamed : t.InitDeclarators → Type 0
AreNamed t.no_init_declarators = Unit {0}
AreNamed (t.more_init_declarators d i ds) = IsNamed d × AllBytes (strings_of_declarator d) × MayBeInitialised i × AreNamed ds

abbrev pub IsWrittenExternal : t.External → Type 0
IsWrittenExternal (t.external_declaration (t.declaration s ds)) = SpecifiersHave s × AreNamed ds
IsWrittenExternal (t.function_definition s d b) =
    SpecifiersHave s × IsNamed d × AllBytes (strings_of_declarator d) × IsWrittenBlock b

abbrev pub IsWrittenUnit : t.Tree → Type 0
IsWrittenUnit t.no_externals = Unit {0}
IsWrittenUnit (t.more_externals x xs) = IsWrittenExternal x × IsWrittenUnit xs
