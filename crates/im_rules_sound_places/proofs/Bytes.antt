-- The bytes of string literals, of those that a part of the tree adds.
use Rattle.std.proofs.Common.{ℕ, List, [], ◌++◌, Bool, true, false}
use Rattle.std.specs.Prelude.{Option, if◌then◌else◌}
use Rattle.im_word.specs.Words.{Name}
use Rattle.im_ctree.specs.Tree as t
use Rattle.im_ctype.specs.declared.integer.Integer.{Integer}
use Rattle.im_ctype.specs.Types.{CType, Structs}
use Rattle.im_typed.specs.declared.statement.Case.{Case}
use Rattle.im_typed.specs.Program.{Stmt, Stmts}
use Rattle.im_rules.specs.Rules.{is_string_for}
use Rattle.im_rules.specs.Strings.{strings_in, strings_among, strings_maybe, strings_named, strings_of_declarator}
use Rattle.im_rules.specs.Declared.{Qualified}
use Rattle.im_rules.specs.Initialisers.{completed, Slots, slots_of, first_slot, other_slots, strings_given, strings_among as given_among}
use Rattle.im_rules.specs.Statements.{Site, Added, Labels, Cases, declared_strings, AreLocals, no_local, a_local, TypedDeclaration, of_declaration, Begins, by_declaration, by_nothing, by_expression, TypedStatement, of_block, of_nothing, of_expression, of_if, of_while, of_do, of_for, of_switch, of_break, of_continue, of_return, of_return_value, MayBeTyped, no_else, an_else, TypedItems, no_item, a_declaration, a_statement, TypedCases, no_case, between_cases, a_labelled, Labelled, no_label, of_case, of_default}
use Rattle.im_rules_sound_expressions.specs.Written.{AllBytes, IsWritten, AreWritten, MayBeWritten, IsWrittenInitialiser, AreWrittenInitialisers, MayBeInitialised, AreWrittenDeclarators, IsWrittenDeclaration, IsWrittenBeginning, IsWrittenStatement, MayBeWrittenStatement, AreWrittenItems}
use Rattle.im_rules_sound_places.proofs.Places.{bytes-append}

mutual
  pub bytes-in : (e : t.Expression) → IsWritten e → AllBytes (strings_in e)
  bytes-in (t.identifier at x) w = tt
  bytes-in (t.integer_constant at n) w = tt
  bytes-in (t.character_constant at n) w = tt
  bytes-in (t.string_literal at s) w = (w, tt)
  bytes-in (t.index at a b) w = bytes-append (strings_in a) (strings_in b) (bytes-in a w.0) (bytes-in b w.1)
  bytes-in (t.call at f es) w = bytes-append (strings_in f) (strings_among es) (bytes-in f w.0) (bytes-among es w.1)
  bytes-in (t.member_of at e x) w = bytes-in e w
  bytes-in (t.arrow_to at e x) w = bytes-in e w
  bytes-in (t.post_step at op e) w = bytes-in e w
  bytes-in (t.pre_step at op e) w = bytes-in e w
  bytes-in (t.unary at op e) w = bytes-in e w
  bytes-in (t.size_of_expression at e) w = bytes-in e w
  bytes-in (t.size_of_type at n) w = w
  bytes-in (t.cast at n e) w = bytes-append (strings_named n) (strings_in e) w.0 (bytes-in e w.1)
  bytes-in (t.binary at op a b) w = bytes-append (strings_in a) (strings_in b) (bytes-in a w.0) (bytes-in b w.1)
  bytes-in (t.conditional at c a b) w =
      bytes-append (strings_in c) (strings_in a ++ strings_in b) (bytes-in c w.0) (bytes-append (strings_in a) (strings_in b) (bytes-in a w.1) (bytes-in b w.2))
  bytes-in (t.assign at op a b) w = bytes-append (strings_in a) (strings_in b) (bytes-in a w.0) (bytes-in b w.1)
  bytes-in (t.comma at a b) w = bytes-append (strings_in a) (strings_in b) (bytes-in a w.0) (bytes-in b w.1)

  bytes-among : (es : t.Expressions) → AreWritten es → AllBytes (strings_among es)
  bytes-among t.no_expressions w = tt
  bytes-among (t.more_expressions e es) w = bytes-append (strings_in e) (strings_among es) (bytes-in e w.0) (bytes-among es w.1)

pub bytes-maybe : (e : t.MaybeExpression) → MayBeWritten e → AllBytes (strings_maybe e)
bytes-maybe t.no_expression w = tt
bytes-maybe (t.an_expression e) w = bytes-in e w

unless : (b : Bool) (ss : List Name) → AllBytes ss → AllBytes (if b then [] else ss)
unless true ss h = tt
unless false ss h = h

mutual
  pub bytes-given : (known : Structs) (a : CType) (i : t.Initializer) → IsWrittenInitialiser i → AllBytes (strings_given known a i)
  bytes-given known a (t.value_initializer e) w = unless (is_string_for a (t.value_initializer e)) (strings_in e) (bytes-in e w)
  bytes-given known a (t.braced_initializer at is) w =
      unless (is_string_for a (t.braced_initializer at is)) (given_among known (slots_of known a) is) (bytes-in-list known (slots_of known a) is w)

  bytes-in-list : (known : Structs) (k : Slots) (is : t.Initializers) → AreWrittenInitialisers is → AllBytes (given_among known k is)
  bytes-in-list known k t.no_initializers w = tt
  bytes-in-list known k (t.more_initializers i is) w =
      bytes-append (strings_given known (first_slot k) i) (given_among known (other_slots k) is) (bytes-given known (first_slot k) i w.0) (bytes-in-list known (other_slots k) is w.1)

pub bytes-declared : (known : Structs) (d : t.Declarator) (a : CType) (i : t.MaybeInitializer) → AllBytes (strings_of_declarator d) → MayBeInitialised i → AllBytes (declared_strings known d a i)
bytes-declared known d a t.no_initializer h w = h
bytes-declared known d a (t.an_initializer i) h w = bytes-append (strings_of_declarator d) (strings_given known a i) h (bytes-given known a i w)

-- bodies

bytes-locals : {q : Qualified} {s e : Site} {ds : t.InitDeclarators} {us : Stmts} {m : Added} → AreLocals q s ds us m e → AreWrittenDeclarators ds → AllBytes m.strings
bytes-locals no_local w = tt
bytes-locals {s = s} (a_local {d = d} {i = i} {y = y} {more = more} p m v r) w =
    bytes-append (declared_strings s.context.known d (completed y.type i) i) more.strings (bytes-declared s.context.known d (completed y.type i) i w.0 w.1) (bytes-locals r w.2)

bytes-declaration : {s e : Site} {d : t.Declaration} {us : Stmts} {m : Added} → TypedDeclaration s d us m e → IsWrittenDeclaration d → AllBytes m.strings
bytes-declaration (of_declaration a p) w = bytes-locals p w

bytes-begins : {s e : Site} {i : t.ForInit} {u : Stmt} {m : Added} → Begins s i u m e → IsWrittenBeginning i → AllBytes m.strings
bytes-begins (by_declaration d) w = bytes-declaration d w
bytes-begins by_nothing w = tt
bytes-begins (by_expression {e = e} d) w = bytes-in e w

mutual
  bytes-statement : {s : Site} {a : t.Statement} {u : Stmt} {m : Added} → TypedStatement s a u m → IsWrittenStatement a → AllBytes m.strings
  bytes-statement (of_block d) w = bytes-items d w
  bytes-statement of_nothing w = tt
  bytes-statement (of_expression {e = e} d) w = bytes-in e w
  bytes-statement (of_if {e = e} {m = m} {n = n} d k a b) w =
      bytes-append (strings_in e) (m.strings ++ n.strings) (bytes-in e w.0) (bytes-append m.strings n.strings (bytes-statement a w.1) (bytes-else b w.2))
  bytes-statement (of_while {e = e} {m = m} d k a) w = bytes-append (strings_in e) m.strings (bytes-in e w.0) (bytes-statement a w.1)
  bytes-statement (of_do {e = e} {m = m} a d k) w = bytes-append m.strings (strings_in e) (bytes-statement a w.0) (bytes-in e w.1)
  bytes-statement (of_for {c = c} {n = n} {m = m} {k = k} b p q r) w =
      bytes-append m.strings ((strings_maybe c ++ strings_maybe n) ++ k.strings) (bytes-begins b w.0)
      (bytes-append (strings_maybe c ++ strings_maybe n) k.strings (bytes-append (strings_maybe c) (strings_maybe n) (bytes-maybe c w.1) (bytes-maybe n w.2)) (bytes-statement r w.3))
  bytes-statement (of_switch {e = e} {m = m} d q c) w = bytes-append (strings_in e) m.strings (bytes-in e w.0) (bytes-cases c w.1)
  bytes-statement (of_break m) w = tt
  bytes-statement (of_continue m) w = tt
  bytes-statement (of_return m) w = tt
  bytes-statement (of_return_value {e = e} d m) w = bytes-in e w

  bytes-else : {s : Site} {a : t.MaybeStatement} {u : Stmt} {m : Added} → MayBeTyped s a u m → MayBeWrittenStatement a → AllBytes m.strings
  bytes-else no_else w = tt
  bytes-else (an_else a) w = bytes-statement a w

  pub bytes-items : {s : Site} {is : t.BlockItems} {us : Stmts} {m : Added} → TypedItems s is us m → AreWrittenItems is → AllBytes m.strings
  bytes-items no_item w = tt
  bytes-items (a_declaration {m = m} {n = n} d r) w = bytes-append m.strings n.strings (bytes-declaration d w.0) (bytes-items r w.1)
  bytes-items (a_statement {m = m} {n = n} a r) w = bytes-append m.strings n.strings (bytes-statement a w.0) (bytes-items r w.1)

  bytes-cases : {i : Integer} {s : Site} {n : ℕ} {before : Labels} {is : t.BlockItems} {k : Cases} {m : Added} → TypedCases i s n before is k m → AreWrittenItems is → AllBytes m.strings
  bytes-cases no_case w = tt
  bytes-cases (between_cases {m = m} {l = more} d r) w = bytes-append m.strings more.strings (bytes-declaration d w.0) (bytes-cases r w.1)
  bytes-cases (a_labelled {m = m} {l = more} a r) w = bytes-append m.strings more.strings (bytes-labelled a w.0) (bytes-cases r w.1)

  bytes-labelled : {i : Integer} {s : Site} {n : ℕ} {before behind : Labels} {a : t.Statement} {u : Stmt} {ks : List Case} {d : Option ℕ} {m : Added} → Labelled i s n before a behind u ks d m → IsWrittenStatement a → AllBytes m.strings
  bytes-labelled (no_label a) w = bytes-statement a w
  bytes-labelled (of_case {e = e} {m = m} d q r) w = bytes-append (strings_in e) m.strings (bytes-in e w.0) (bytes-labelled r w.1)
  bytes-labelled (of_default q r) w = bytes-labelled r w
