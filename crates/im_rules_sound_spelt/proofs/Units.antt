-- What words spell, as far as initialisers, statements and units go.
use Rattle.std.proofs.Common.{ℕ, List}
use Rattle.im_word.specs.Words.{Name, Word}
use Rattle.im_ctree.specs.Tree as t
use Rattle.im_ctree.specs.Units.{IsInitializer, a_value, braced, InitializerTail, last_initializer, last_comma, next_initializer, IsMaybeInitializer, not_initialized, initialized, IsInitDeclarators, last_declarator, next_declarator, IsDeclaration, declares_none, declares, IsMaybeExpression, nothing, something, IsForInit, begins_with_declaration, begins_with_expression, IsBlock, a_block, IsBlockItems, no_item, next_declaration, next_statement, IsStatement, blocks, computes, ifs, if_elses, whiles, dos, fors, switches, cases, defaults, breaks, continues, returns, IsExternal, a_declaration, a_definition, IsUnit, last_external, next_external}
use Rattle.im_rules_sound_expressions.specs.Written.{MayBeWritten, IsWrittenInitialiser, AreWrittenInitialisers, MayBeInitialised, AreWrittenDeclarators, IsWrittenDeclaration, IsWrittenBeginning, IsWrittenStatement, IsWrittenBlock, AreWrittenItems}
use Rattle.im_rules_sound_places.specs.Units.{AreNamed, IsWrittenExternal, IsWrittenUnit}
use Rattle.im_rules_sound_spelt.specs.Words.{AreLexical}
use Rattle.im_rules_sound_spelt.proofs.Expressions.{front, rest, expression-written, assignment-written, conditional-written, specifiers-known, declarator-bytes, declarator-named}

mutual
  initialiser-written : {T : List Name} {p : ℕ} {i : t.Initializer} {w : List Word} → IsInitializer T p i w → AreLexical w → IsWrittenInitialiser i
  initialiser-written (a_value a) h = assignment-written a h
  initialiser-written (braced {u = u} {v = v} a r) h = (initialiser-written a (front u _ h.1), initialisers-written r (front v _ (rest u _ h.1)))

  initialisers-written : {T : List Name} {p : ℕ} {is : t.Initializers} {w : List Word} → InitializerTail T p is w → AreLexical w → AreWrittenInitialisers is
  initialisers-written last_initializer h = tt
  initialisers-written last_comma h = tt
  initialisers-written (next_initializer {u = u} {v = v} a r) h = (initialiser-written a (front u v h.1), initialisers-written r (rest u v h.1))

may-be-initialised : {T : List Name} {p : ℕ} {i : t.MaybeInitializer} {w : List Word} → IsMaybeInitializer T p i w → AreLexical w → MayBeInitialised i
may-be-initialised not_initialized h = tt
may-be-initialised (initialized a) h = initialiser-written a h.1

declarators-written : {T : List Name} {p : ℕ} {ds : t.InitDeclarators} {w : List Word} → IsInitDeclarators T p ds w → AreLexical w → AreWrittenDeclarators ds
declarators-written (last_declarator {u = u} {v = v} a i) h = (declarator-bytes a (front u v h), may-be-initialised i (rest u v h), tt)
declarators-written (next_declarator {u = u} {v = v} {w = w} a i r) h =
    (declarator-bytes a (front u _ h), may-be-initialised i (front v _ (rest u _ h)), declarators-written r (rest v _ (rest u _ h)).1)

declarators-named : {T : List Name} {p : ℕ} {ds : t.InitDeclarators} {w : List Word} → IsInitDeclarators T p ds w → AreLexical w → AreNamed ds
declarators-named (last_declarator {u = u} {v = v} a i) h = (declarator-named a (front u v h), declarator-bytes a (front u v h), may-be-initialised i (rest u v h), tt)
declarators-named (next_declarator {u = u} {v = v} {w = w} a i r) h =
    (declarator-named a (front u _ h), declarator-bytes a (front u _ h), may-be-initialised i (front v _ (rest u _ h)), declarators-named r (rest v _ (rest u _ h)).1)

declaration-written : {T : List Name} {p : ℕ} {d : t.Declaration} {w : List Word} → IsDeclaration T p d w → AreLexical w → IsWrittenDeclaration d
declaration-written (declares_none s) h = tt
declaration-written (declares {u = u} {v = v} s g r) h = declarators-written r (front v _ (rest u _ h))

maybe-written : {T : List Name} {p : ℕ} {e : t.MaybeExpression} {w : List Word} → IsMaybeExpression T p e w → AreLexical w → MayBeWritten e
maybe-written nothing h = tt
maybe-written (something a) h = expression-written a h

beginning-written : {T : List Name} {p : ℕ} {i : t.ForInit} {w : List Word} → IsForInit T p i w → AreLexical w → IsWrittenBeginning i
beginning-written (begins_with_declaration d) h = declaration-written d h
beginning-written (begins_with_expression {u = u} e) h = maybe-written e (front u _ h)

mutual
  block-written : {T : List Name} {p : ℕ} {b : t.Block} {w : List Word} → IsBlock T p b w → AreLexical w → IsWrittenBlock b
  block-written (a_block {u = u} is) h = items-written is (front u _ h.1)

  items-written : {T : List Name} {p : ℕ} {is : t.BlockItems} {w : List Word} → IsBlockItems T p is w → AreLexical w → AreWrittenItems is
  items-written no_item h = tt
  items-written (next_declaration {u = u} {v = v} d r) h = (declaration-written d (front u v h), items-written r (rest u v h))
  items-written (next_statement {u = u} {v = v} a r) h = (statement-written a (front u v h), items-written r (rest u v h))

  statement-written : {T : List Name} {p : ℕ} {a : t.Statement} {w : List Word} → IsStatement T p a w → AreLexical w → IsWrittenStatement a
  statement-written (blocks b) h = block-written b h
  statement-written (computes {u = u} e) h = maybe-written e (front u _ h)
  statement-written (ifs {u = u} {v = v} e a) h = (expression-written e (front u _ h.1.1), statement-written a (rest u _ h.1.1).1, tt)
  statement-written (if_elses {u = u} {v = v} {w = w} e a k b) h =
      let tail = (rest u _ h.1.1).1 in
      (expression-written e (front u _ h.1.1), statement-written a (front v _ tail), statement-written b (rest v _ tail).1)
  statement-written (whiles {u = u} {v = v} e a) h = (expression-written e (front u _ h.1.1), statement-written a (rest u _ h.1.1).1)
  statement-written (dos {u = u} {v = v} a e) h = (statement-written a (front u _ h.1), expression-written e (front v _ (rest u _ h.1).1.1))
  statement-written (fors {u = u} {v = v} {w = w} {x = x} i c n a) h =
      let second = rest u _ h.1.1 in
      let third = (rest v _ second).1 in
      (beginning-written i (front u _ h.1.1), maybe-written c (front v _ second), maybe-written n (front w _ third), statement-written a (rest w _ third).1)
  statement-written (switches {u = u} {v = v} e b) h = (expression-written e (front u _ h.1.1), block-written b (rest u _ h.1.1).1)
  statement-written (cases {u = u} {v = v} e a) h = (conditional-written e (front u _ h.1), statement-written a (rest u _ h.1).1)
  statement-written (defaults a) h = statement-written a h.1.1
  statement-written breaks h = tt
  statement-written continues h = tt
  statement-written (returns {u = u} e) h = maybe-written e (front u _ h.1)

external-written : {T : List Name} {p : ℕ} {x : t.External} {w : List Word} → IsExternal T p x w → AreLexical w → IsWrittenExternal x
external-written (a_declaration (declares_none {u = u} s)) h = ((specifiers-known s (front u _ h)).members, tt)
external-written (a_declaration (declares {u = u} {v = v} s g r)) h = ((specifiers-known s (front u _ h)).members, declarators-named r (front v _ (rest u _ h)))
external-written (a_definition {u = u} {v = v} {w = w} s g d b) h =
    let tail = rest u _ h in
    ((specifiers-known s (front u _ h)).members, declarator-named d (front v w tail), declarator-bytes d (front v w tail), block-written b (rest v w tail))

pub unit-written : {T : List Name} {p : ℕ} {u : t.Tree} {w : List Word} → IsUnit T p u w → AreLexical w → IsWrittenUnit u
unit-written (last_external x) h = (external-written x h, tt)
unit-written (next_external {u = u} {v = v} x r) h = (external-written x (front u v h), unit-written r (rest u v h))
