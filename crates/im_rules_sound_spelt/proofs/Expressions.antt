-- What words spell, as far as expressions, types and declarators go.
use Rattle.std.proofs.Common.{◌≡◌, ℕ, ◌||◌, cond, List, [], ◌∷◌, ◌++◌, Bool, true, false, refl, sym, ◌∙◌}
use Rattle.im_tok.specs.declared.punctuator.Punctuator.TheVariants.{Star}
use Rattle.im_word.specs.Words.{Name, Word, mark}
use Rattle.im_ctree.specs.Tree as t
use Rattle.im_ctree.specs.Tree.{append_suffixes, unsuffixed, unstarred, around}
use Rattle.im_ctree.specs.Grammar.{IsJoinedText, last_text, more_text, IsExpression, assigns, CommaTail, no_comma, a_comma, IsAssignment, chooses, assigned, IsConditional, operates, a_choice, IsBinary, casts, level, BinaryTail, no_operator, an_operator, IsCast, uncast, a_cast, IsUnary, postfix, stepped, prefixed, sized, type_sized, IsPostfix, primary, PostfixTail, no_postfix, indexes, calls, dots, arrows, steps, IsArguments, no_argument, first_argument, ArgumentTail, last_argument, next_argument, IsPrimary, an_identifier, a_number, a_character, a_string, grouped, IsSpecifiers, first_specifier, SpecifierTail, last_specifier, next_specifier, IsSpecifier, a_word, a_struct, a_named_struct, a_struct_tag, an_enum, a_named_enum, an_enum_tag, its_typedef_name, IsMembers, first_member, MemberTail, last_member, next_member, DeclaratorTail, last_declarator, next_declarator, IsEnumerators, first_enumerator, IsValue, no_value, a_value, EnumeratorTail, last_enumerator, last_comma, next_enumerator, IsDeclarator, a_name, an_inner, IsSuffixes, no_suffix, an_array, a_function, IsLength, no_length, a_length, IsParameters, no_parameter, first_parameter, ParameterTail, last_parameter, next_parameter, IsParameter, named_parameter, other_parameter, IsTypeName, a_type_name, IsMaybeAbstract, no_abstract, an_abstract, IsAbstract, with_stars, with_suffixes, with_inner}
use Rattle.im_rules.specs.Strings.{strings_maybe, strings_named, strings_specified, strings_listed, strings_of_specifier, strings_of_members, strings_of_enumerators, strings_of_declarators, strings_of_declarator, strings_of_core, strings_of_suffixes, strings_may, strings_of_parameters}
use Rattle.im_rules.specs.Outline.{name_of}
use Rattle.im_rules_sound_expressions.specs.Written.{AreBytes, AllBytes, IsWritten, AreWritten, MayBeWritten}
use Rattle.im_rules_sound_places.specs.Units.{IsNamed, HasMember, AreBytesIn, AreWrittenEnumerators, HaveMembers, ListsMembers, MembersHave, SpecifiersHave}
use Rattle.im_rules_sound_places.proofs.Places.{bytes-append}
use Rattle.im_rules_sound_places.proofs.Bytes.{bytes-maybe}
use Rattle.im_rules_sound_spelt.specs.Words.{AreLexical}

-- words

pub front : (u v : List Word) → AreLexical (u ++ v) → AreLexical u
front [] v h = tt
front (x ∷ u) v h = (h.0, front u v h.1)

pub rest : (u v : List Word) → AreLexical (u ++ v) → AreLexical v
rest [] v h = h
rest (x ∷ u) v h = rest u v h.1

joined-bytes : (s r : Name) → AreBytes s → AreBytes r → AreBytes (s ++ r)
joined-bytes [] r h k = k
joined-bytes (b ∷ s) r h k = (h.0, joined-bytes s r h.1 k)

text-bytes : {s : Name} {u : List Word} → IsJoinedText s u → AreLexical u → AreBytes s
text-bytes (last_text s) h = h.0
text-bytes (more_text s {t = r} j) h = joined-bytes s r h.0 (text-bytes j h.1)

parted : (xs ys : List Name) → AllBytes (xs ++ ys) → AllBytes xs × AllBytes ys
parted [] ys h = (tt, h)
parted (x ∷ xs) ys h = let both = parted xs ys h.1 in ((h.0, both.0), both.1)

-- declarators round others

suffixes-joined : (ts us : t.Suffixes) → AllBytes (strings_of_suffixes ts) → AllBytes (strings_of_suffixes us) → AllBytes (strings_of_suffixes (append_suffixes ts us))
suffixes-joined t.no_suffixes us h k = k
suffixes-joined (t.array_suffix p e ts) us h k =
    let both = parted (strings_maybe e) (strings_of_suffixes ts) h in
    bytes-append (strings_maybe e) (strings_of_suffixes (append_suffixes ts us)) both.0 (suffixes-joined ts us both.1 k)
suffixes-joined (t.function_suffix p ps ts) us h k =
    let both = parted (strings_of_parameters ps) (strings_of_suffixes ts) h in
    bytes-append (strings_of_parameters ps) (strings_of_suffixes (append_suffixes ts us)) both.0 (suffixes-joined ts us both.1 k)

around-bytes : (p : ℕ) (ns : List ℕ) (d : t.Declarator) (us : t.Suffixes) → AllBytes (strings_of_declarator d) → AllBytes (strings_of_suffixes us) → AllBytes (strings_of_declarator (around p ns d us))
around-bytes p ns (t.declarator q ms c ts) us h k = by-form (unsuffixed us || unstarred ms)
  where
    by-form : (b : Bool) → AllBytes (strings_of_declarator (cond b (t.declarator p (ns ++ ms) c (append_suffixes ts us)) (t.declarator p ns (t.inner_core (t.declarator q ms c ts)) us)))
    by-form true = let both = parted (strings_of_core c) (strings_of_suffixes ts) h in bytes-append (strings_of_core c) (strings_of_suffixes (append_suffixes ts us)) both.0 (suffixes-joined ts us both.1 k)
    by-form false = bytes-append (strings_of_declarator (t.declarator q ms c ts)) (strings_of_suffixes us) h k

pub around-name : (p : ℕ) (ns : List ℕ) (d : t.Declarator) (us : t.Suffixes) → name_of (around p ns d us) ≡ name_of d
around-name p ns (t.declarator q ms c ts) us = by-form (unsuffixed us || unstarred ms)
  where
    by-form : (b : Bool) → name_of (cond b (t.declarator p (ns ++ ms) c (append_suffixes ts us)) (t.declarator p ns (t.inner_core (t.declarator q ms c ts)) us)) ≡ name_of (t.declarator q ms c ts)
    by-form true = refl
    by-form false = refl

-- what is known of specifiers
pub record AreSpecified (s : t.Specifiers) : Type 0 where
  pub strings : AllBytes (strings_specified s)
  pub members : SpecifiersHave s

record AreListed (xs : t.SpecifierList) : Type 0 where
  pub strings : AllBytes (strings_listed xs)
  pub members : HaveMembers xs

record IsListed (x : t.Specifier) : Type 0 where
  pub strings : AllBytes (strings_of_specifier x)
  pub members : ListsMembers x

record AreMembers (ms : t.Members) : Type 0 where
  pub strings : AllBytes (strings_of_members ms)
  pub members : MembersHave ms

record AreDeclarators (ds : t.Declarators) : Type 0 where
  pub strings : AllBytes (strings_of_declarators ds)
  pub each : AreBytesIn ds

record AreEnumerators (es : t.Enumerators) : Type 0 where
  pub strings : AllBytes (strings_of_enumerators es)
  pub written : AreWrittenEnumerators es

mutual
  pub expression-written : {T : List Name} {p : ℕ} {e : t.Expression} {w : List Word} → IsExpression T p e w → AreLexical w → IsWritten e
  expression-written (assigns {u = u} {v = v} a b) h = comma-written b (assignment-written a (front u v h)) (rest u v h)

  comma-written : {T : List Name} {s p : ℕ} {a e : t.Expression} {w : List Word} → CommaTail T s p a e w → IsWritten a → AreLexical w → IsWritten e
  comma-written no_comma k h = k
  comma-written (a_comma {u = u} {v = v} a b) k h = comma-written b (k, assignment-written a (front u v h.1)) (rest u v h.1)

  pub assignment-written : {T : List Name} {p : ℕ} {e : t.Expression} {w : List Word} → IsAssignment T p e w → AreLexical w → IsWritten e
  assignment-written (chooses a) h = conditional-written a h
  assignment-written (assigned {u = u} {v = v} a o b) h = (unary-written a (front u _ h), assignment-written b (rest u _ h).1)

  pub conditional-written : {T : List Name} {p : ℕ} {e : t.Expression} {w : List Word} → IsConditional T p e w → AreLexical w → IsWritten e
  conditional-written (operates a) h = binary-written a h
  conditional-written (a_choice {u = u} {v = v} {w = w} c a b) h =
      let tail = (rest u _ h).1 in
      (binary-written c (front u _ h), expression-written a (front v _ tail), conditional-written b (rest v _ tail).1)

  binary-written : {T : List Name} {n p : ℕ} {e : t.Expression} {w : List Word} → IsBinary T n p e w → AreLexical w → IsWritten e
  binary-written (casts a) h = cast-written a h
  binary-written (level {u = u} {v = v} lt a b) h = operands-written b (binary-written a (front u v h)) (rest u v h)

  operands-written : {T : List Name} {s n p : ℕ} {a e : t.Expression} {w : List Word} → BinaryTail T s n p a e w → IsWritten a → AreLexical w → IsWritten e
  operands-written no_operator k h = k
  operands-written (an_operator {u = u} {v = v} o a b) k h = operands-written b (k, binary-written a (front u v h.1)) (rest u v h.1)

  cast-written : {T : List Name} {p : ℕ} {e : t.Expression} {w : List Word} → IsCast T p e w → AreLexical w → IsWritten e
  cast-written (uncast a) h = unary-written a h
  cast-written (a_cast {u = u} {v = v} n a) h = (type-bytes n (front u _ h.1), cast-written a (rest u _ h.1).1)

  unary-written : {T : List Name} {p : ℕ} {e : t.Expression} {w : List Word} → IsUnary T p e w → AreLexical w → IsWritten e
  unary-written (postfix a) h = postfix-written a h
  unary-written (stepped o a) h = unary-written a h.1
  unary-written (prefixed o a) h = cast-written a h.1
  unary-written (sized a) h = unary-written a h.1
  unary-written (type_sized {u = u} n) h = type-bytes n (front u _ h.1.1)

  postfix-written : {T : List Name} {p : ℕ} {e : t.Expression} {w : List Word} → IsPostfix T p e w → AreLexical w → IsWritten e
  postfix-written (primary {u = u} {v = v} a b) h = parts-written b (primary-written a (front u v h)) (rest u v h)

  parts-written : {T : List Name} {s p : ℕ} {a e : t.Expression} {w : List Word} → PostfixTail T s p a e w → IsWritten a → AreLexical w → IsWritten e
  parts-written no_postfix k h = k
  parts-written (indexes {u = u} {v = v} b r) k h = parts-written r (k, expression-written b (front u _ h.1)) (rest u _ h.1).1
  parts-written (calls {u = u} {v = v} b r) k h = parts-written r (k, arguments-written b (front u _ h.1)) (rest u _ h.1).1
  parts-written (dots n r) k h = parts-written r k h.1.1
  parts-written (arrows n r) k h = parts-written r k h.1.1
  parts-written (steps o r) k h = parts-written r k h.1

  arguments-written : {T : List Name} {p : ℕ} {es : t.Expressions} {w : List Word} → IsArguments T p es w → AreLexical w → AreWritten es
  arguments-written no_argument h = tt
  arguments-written (first_argument {u = u} {v = v} a r) h = (assignment-written a (front u v h), others-written r (rest u v h))

  others-written : {T : List Name} {p : ℕ} {es : t.Expressions} {w : List Word} → ArgumentTail T p es w → AreLexical w → AreWritten es
  others-written last_argument h = tt
  others-written (next_argument {u = u} {v = v} a r) h = (assignment-written a (front u v h.1), others-written r (rest u v h.1))

  primary-written : {T : List Name} {p : ℕ} {e : t.Expression} {w : List Word} → IsPrimary T p e w → AreLexical w → IsWritten e
  primary-written (an_identifier n k) h = tt
  primary-written (a_number n) h = h.0
  primary-written (a_character n) h = h.0
  primary-written (a_string j) h = text-bytes j h
  primary-written (grouped {u = u} a) h = expression-written a (front u _ h.1)

  pub specifiers-known : {T : List Name} {p : ℕ} {s : t.Specifiers} {w : List Word} → IsSpecifiers T p s w → AreLexical w → AreSpecified s
  specifiers-known (first_specifier {x = x} {xs = xs} {u = u} {v = v} a r) h =
      let one = specifier-known a (front u v h) in
      let others = list-known r (rest u v h) in
      record { strings = bytes-append (strings_of_specifier x) (strings_listed xs) one.strings others.strings; members = (one.members, others.members) }

  list-known : {T : List Name} {b : Bool} {p : ℕ} {xs : t.SpecifierList} {w : List Word} → SpecifierTail T b p xs w → AreLexical w → AreListed xs
  list-known last_specifier h = record { strings = tt; members = tt }
  list-known (next_specifier {x = x} {xs = xs} {u = u} {v = v} a r) h =
      let one = specifier-known a (front u v h) in
      let others = list-known r (rest u v h) in
      record { strings = bytes-append (strings_of_specifier x) (strings_listed xs) one.strings others.strings; members = (one.members, others.members) }

  specifier-known : {T : List Name} {b : Bool} {p : ℕ} {x : t.Specifier} {w : List Word} → IsSpecifier T b p x w → AreLexical w → IsListed x
  specifier-known (a_word o) h = record { strings = tt; members = tt }
  specifier-known (a_struct {u = u} ms) h = let all = members-known ms (front u _ h.1.1) in record { strings = all.strings; members = (has-member ms, all.members) }
  specifier-known (a_named_struct n {u = u} ms) h = let all = members-known ms (front u _ h.1.1.1) in record { strings = all.strings; members = (has-member ms, all.members) }
  specifier-known (a_struct_tag n) h = record { strings = tt; members = tt }
  specifier-known (an_enum {u = u} es) h = let all = enumerators-known es (front u _ h.1.1) in record { strings = all.strings; members = all.written }
  specifier-known (a_named_enum n {u = u} es) h = let all = enumerators-known es (front u _ h.1.1.1) in record { strings = all.strings; members = all.written }
  specifier-known (an_enum_tag n) h = record { strings = tt; members = tt }
  specifier-known (its_typedef_name n c) h = record { strings = tt; members = tt }

  has-member : {T : List Name} {p : ℕ} {ms : t.Members} {w : List Word} → IsMembers T p ms w → HasMember ms
  has-member (first_member s g d ds r) = tt

  members-known : {T : List Name} {p : ℕ} {ms : t.Members} {w : List Word} → IsMembers T p ms w → AreLexical w → AreMembers ms
  members-known (first_member {s = s} {d = d} {ds = ds} {ms = ms} {u = u} {v = v} {w = w} {x = x} a g b c r) h =
      let k = rest u _ h in
      let l = rest v _ k in
      let own = specifiers-known a (front u _ h) in
      let one = declarator-bytes b (front v _ k) in
      let others = declarators-known c (front w _ l) in
      let more = more-members-known r (rest w _ l).1 in
      record {
        strings = bytes-append (strings_specified s) (strings_of_declarators (t.more_declarators d ds) ++ strings_of_members ms) own.strings
            (bytes-append (strings_of_declarators (t.more_declarators d ds)) (strings_of_members ms) (bytes-append (strings_of_declarator d) (strings_of_declarators ds) one others.strings) more.strings);
        members = (own.members, (one, others.each), more.members);
      }

  more-members-known : {T : List Name} {p : ℕ} {ms : t.Members} {w : List Word} → MemberTail T p ms w → AreLexical w → AreMembers ms
  more-members-known last_member h = record { strings = tt; members = tt }
  more-members-known (next_member ms) h = members-known ms h

  declarators-known : {T : List Name} {p : ℕ} {ds : t.Declarators} {w : List Word} → DeclaratorTail T p ds w → AreLexical w → AreDeclarators ds
  declarators-known last_declarator h = record { strings = tt; each = tt }
  declarators-known (next_declarator {d = d} {ds = ds} {u = u} {v = v} a r) h =
      let one = declarator-bytes a (front u v h.1) in
      let others = declarators-known r (rest u v h.1) in
      record { strings = bytes-append (strings_of_declarator d) (strings_of_declarators ds) one others.strings; each = (one, others.each) }

  enumerators-known : {T : List Name} {p : ℕ} {es : t.Enumerators} {w : List Word} → IsEnumerators T p es w → AreLexical w → AreEnumerators es
  enumerators-known (first_enumerator n {e = e} {es = es} {u = u} {v = v} a r) h =
      let one = value-written a (front u v h.1) in
      let others = more-enumerators-known r (rest u v h.1) in
      record { strings = bytes-append (strings_maybe e) (strings_of_enumerators es) (bytes-maybe e one) others.strings; written = (one, others.written) }

  more-enumerators-known : {T : List Name} {p : ℕ} {es : t.Enumerators} {w : List Word} → EnumeratorTail T p es w → AreLexical w → AreEnumerators es
  more-enumerators-known last_enumerator h = record { strings = tt; written = tt }
  more-enumerators-known last_comma h = record { strings = tt; written = tt }
  more-enumerators-known (next_enumerator es) h = enumerators-known es h.1

  value-written : {T : List Name} {p : ℕ} {e : t.MaybeExpression} {w : List Word} → IsValue T p e w → AreLexical w → MayBeWritten e
  value-written no_value h = tt
  value-written (a_value a) h = conditional-written a h.1

  pub declarator-bytes : {T : List Name} {g : Bool} {p : ℕ} {d : t.Declarator} {w : List Word} → IsDeclarator T g p d w → AreLexical w → AllBytes (strings_of_declarator d)
  declarator-bytes (a_name n {u = u} {v = v} s r) h = suffixes-bytes r (rest u _ h).1
  declarator-bytes (an_inner {p = p} {ns = ns} {d = d} {ts = ts} {u = u} {v = v} {w = w} s a o r) h =
      let k = (rest u _ h).1 in
      around-bytes p ns d ts (declarator-bytes a (front v _ k)) (suffixes-bytes r (rest v _ k).1)

  suffixes-bytes : {T : List Name} {p : ℕ} {ss : t.Suffixes} {w : List Word} → IsSuffixes T p ss w → AreLexical w → AllBytes (strings_of_suffixes ss)
  suffixes-bytes no_suffix h = tt
  suffixes-bytes (an_array {e = e} {ts = ts} {u = u} {v = v} a r) h =
      bytes-append (strings_maybe e) (strings_of_suffixes ts) (bytes-maybe e (length-written a (front u _ h.1))) (suffixes-bytes r (rest u _ h.1).1)
  suffixes-bytes (a_function {qs = qs} {ts = ts} {u = u} {v = v} a r) h =
      bytes-append (strings_of_parameters qs) (strings_of_suffixes ts) (parameters-bytes a (front u _ h.1)) (suffixes-bytes r (rest u _ h.1).1)

  length-written : {T : List Name} {p : ℕ} {e : t.MaybeExpression} {w : List Word} → IsLength T p e w → AreLexical w → MayBeWritten e
  length-written no_length h = tt
  length-written (a_length a) h = conditional-written a h

  parameters-bytes : {T : List Name} {p : ℕ} {qs : t.Parameters} {w : List Word} → IsParameters T p qs w → AreLexical w → AllBytes (strings_of_parameters qs)
  parameters-bytes no_parameter h = tt
  parameters-bytes (first_parameter {s = s} {d = d} {qs = qs} {u = u} {v = v} a r) h =
      let one = parameter-bytes a (front u v h) in
      bytes-append (strings_specified s) (strings_may d ++ strings_of_parameters qs) one.0 (bytes-append (strings_may d) (strings_of_parameters qs) one.1 (others-bytes r (rest u v h)))

  others-bytes : {T : List Name} {p : ℕ} {qs : t.Parameters} {w : List Word} → ParameterTail T p qs w → AreLexical w → AllBytes (strings_of_parameters qs)
  others-bytes last_parameter h = tt
  others-bytes (next_parameter {s = s} {d = d} {qs = qs} {u = u} {v = v} a r) h =
      let one = parameter-bytes a (front u v h.1) in
      bytes-append (strings_specified s) (strings_may d ++ strings_of_parameters qs) one.0 (bytes-append (strings_may d) (strings_of_parameters qs) one.1 (others-bytes r (rest u v h.1)))

  parameter-bytes : {T : List Name} {p : ℕ} {s : t.Specifiers} {d : t.MaybeDeclarator} {w : List Word} → IsParameter T p s d w → AreLexical w → AllBytes (strings_specified s) × AllBytes (strings_may d)
  parameter-bytes (named_parameter {u = u} {v = v} a g b) h = ((specifiers-known a (front u v h)).strings, declarator-bytes b (rest u v h))
  parameter-bytes (other_parameter {u = u} {v = v} a b) h = ((specifiers-known a (front u v h)).strings, abstract-bytes b (rest u v h))

  type-bytes : {T : List Name} {p : ℕ} {n : t.TypeName} {w : List Word} → IsTypeName T p n w → AreLexical w → AllBytes (strings_named n)
  type-bytes (a_type_name {s = s} {d = d} {u = u} {v = v} a b) h =
      bytes-append (strings_specified s) (strings_may d) (specifiers-known a (front u v h)).strings (abstract-bytes b (rest u v h))

  abstract-bytes : {T : List Name} {p : ℕ} {d : t.MaybeDeclarator} {w : List Word} → IsMaybeAbstract T p d w → AreLexical w → AllBytes (strings_may d)
  abstract-bytes no_abstract h = tt
  abstract-bytes (an_abstract a) h = inner-bytes a h

  inner-bytes : {T : List Name} {p : ℕ} {d : t.Declarator} {w : List Word} → IsAbstract T p d w → AreLexical w → AllBytes (strings_of_declarator d)
  inner-bytes (with_stars {u = u} {v = v} s r) h = suffixes-bytes r (rest u v h)
  inner-bytes (with_suffixes r) h = suffixes-bytes r h
  inner-bytes (with_inner {p = p} {ns = ns} {d = d} {ts = ts} {u = u} {v = v} {w = w} s a r) h =
      let k = (rest u _ h).1 in
      around-bytes p ns d ts (inner-bytes a (front (mark Star ∷ v) _ k)) (suffixes-bytes r (rest (mark Star ∷ v) _ k).1)

-- a declarator of a declaration declares a name
pub declarator-named : {T : List Name} {g : Bool} {p : ℕ} {d : t.Declarator} {w : List Word} → IsDeclarator T g p d w → AreLexical w → IsNamed d
declarator-named (a_name n {u = u} s r) h = (rest u _ h).0
declarator-named (an_inner {p = p} {ns = ns} {d = d} {ts = ts} {u = u} {v = v} s a o r) h = λ e.
    declarator-named a (front v _ (rest u _ h).1) (sym (around-name p ns d ts) ∙ e)
