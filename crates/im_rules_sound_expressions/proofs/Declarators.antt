-- What specifiers, declarators and type names give is within the limit of sizes.
use Rattle.std.proofs.Common.{◌≡◌, ℕ, ◌&&◌, nat_lt, List, [], ◌∷◌, Bool, true, false, refl, sym, subst}
use Rattle.std.specs.Prelude.{Option, Some, None, ℤ, pos, negsuc, int_lt, if◌then◌else◌}
use Rattle.im_word.specs.Words.{Name}
use Rattle.im_ctree.specs.declared.specifier.SpecifierWord.{SpecifierWord}
use Rattle.im_ctree.specs.Tree as t
use Rattle.im_store.proofs.Same.{both-true}
use Rattle.im_ctype.specs.Types.{CType, void, integer, pointer, array, unsized, struct, function, Structs}
use Rattle.im_typed.specs.Typing.{Each}
use Rattle.im_rules.specs.TypeTests.{is_complete_in}
use Rattle.im_rules.specs.Rules.{Line, lines, line_type, same_words, rule_9_void, rule_9_result, rule_9_parameter, rule_6_length, named_in, keywords_in}
use Rattle.im_rules.specs.Scopes.{Entity, an_object, a_function, an_enumerator, a_typedef, Tag, struct_tag, enum_tag, Scopes, meaning, tag_meaning}
use Rattle.im_rules.specs.Context.{Context, in_new_scope, behind, behind_core, behind_may, behind_parameters, tag_number}
use Rattle.im_rules.specs.Terms.{constant_in}
use Rattle.im_rules.specs.Declared.{Qualified, Declared, specified, typedef_meant, tag_meant, line_meant, type_of_specifiers, behind_specifiers, tags_in, declared_tag, with_stars, starred, array_of, parameter, with_parameter, with_name, parameters_of, types_of, is_only_void, are_scalars}
use Rattle.im_rules.specs.Typed.{Names, of_type_name, Declares, of_declarator, DeclaresIn, of_nothing, of_name, of_inner, Suffixed, no_suffix, of_array, of_open_array, of_function, AreParameters, no_parameter, a_parameter, MayDeclare, of_no_declarator, of_a_declarator}
use Rattle.im_rules.specs.Breaks.{a_type_name, a_declarator, a_core, some_suffixes, some_parameters, maybe_declarator, name_declarator, suffixes_part, core_part, inner_part, behind_length, behind_no_length, behind_function, parameters_part, parameter_declarator, parameters_behind, declarator_part}
use Rattle.im_rules_limits.specs.Limits.{size_here, size_within, of_array as size_of_array, IsWithin}
use Rattle.im_rules_sound_expressions.specs.Bounded.{IsBounded, AreScalars, AreBoundedTypes, AreBoundedStructs, EachEntity, IsBoundedTypedef, AreBoundedTypedefs}
use Rattle.im_rules_sound_expressions.proofs.Types.{each-meaning, sized-bounded}

types-scalar : (ds : List Declared) → are_scalars ds ≡ true → AreScalars (types_of ds)
types-scalar [] e = tt
types-scalar (d ∷ ds) e = let both = both-true (rule_9_parameter d.type) (are_scalars ds) e in (both.0, types-scalar ds both.1)

-- specifiers

module _ (known : Structs) where
  abbrev IsFine : CType → Type 0
  IsFine a = IsBounded known a

  typedef-bounded : (e : Option Entity) → ((d : Entity) → e ≡ Some d → IsBoundedTypedef known [] d) → IsFine (typedef_meant e).type
  typedef-bounded None h = tt
  typedef-bounded (Some (a_typedef k a)) h = h (a_typedef k a) refl
  typedef-bounded (Some (an_object k a s)) h = tt
  typedef-bounded (Some (a_function f k a)) h = tt
  typedef-bounded (Some (an_enumerator z)) h = tt

  tag-bounded : (n : ℕ) (g : Option Tag) → IsFine (tag_meant n g).type
  tag-bounded n None = tt
  tag-bounded n (Some (struct_tag m)) = tt
  tag-bounded n (Some enum_tag) = tt

  line-bounded : (ls : List Line) (ks : List SpecifierWord) → Each {A = Line} (λ l. IsFine l.type) ls → IsFine (line_meant (line_type ls ks)).type
  line-bounded [] ks h = tt
  line-bounded (l ∷ ls) ks h = by-words (same_words l.words ks) (line-bounded ls ks h.1)
    where
      by-words : (b : Bool) → IsFine (line_meant (line_type ls ks)).type → IsFine (line_meant (if b then Some l.type else line_type ls ks)).type
      by-words true rest = h.0
      by-words false rest = rest

  lines-bounded : Each {A = Line} (λ l. IsFine l.type) lines
  lines-bounded = (tt, (tt, (tt, (tt, (tt, (tt, (tt, (tt, (tt, (tt, (tt, (tt, (tt, (tt, (tt, (tt, (tt, (tt, (tt, (tt, (tt, tt)))))))))))))))))))))

  stars-bounded : (q : Qualified) (stars : List ℕ) → IsFine q.type → IsFine (with_stars q stars).type
  stars-bounded q [] b = b
  stars-bounded q (k ∷ ks) b = stars-bounded (starred q k) ks b

  parameter-bounded : (d : Declared) → IsFine d.type → IsFine (parameter d).type
  parameter-bounded d b = by-type d.type b
    where
      by-type : (a : CType) → IsFine a → IsFine (parameter (record d { type = a })).type
      by-type void b = b
      by-type (integer i) b = b
      by-type (pointer c a) b = b
      by-type (array a n) b = b.0
      by-type (unsized a) b = b.0
      by-type (struct n) b = b
      by-type (function r ps) b = b

  abbrev AreFine : List Declared → Type 0
  AreFine ds = Each {A = Declared} (λ d. IsFine d.type) ds

  types-bounded : (ds : List Declared) → AreFine ds → AreBoundedTypes known (types_of ds)
  types-bounded [] h = tt
  types-bounded (d ∷ ds) h = (h.0, types-bounded ds h.1)

  pub parameters-bounded : (ps : t.Parameters) (ds : List Declared) → AreFine ds → AreFine (parameters_of ps ds)
  parameters-bounded ps ds h = by-test (rule_9_void ps && is_only_void ds)
    where
      by-test : (b : Bool) → AreFine (if b then [] else ds)
      by-test true = tt
      by-test false = h

pub specified-bounded : (c : Context) (ss : List t.Specifier) (ks : List SpecifierWord) → AreBoundedTypedefs c → IsBounded c.known (specified c ss ks).type
specified-bounded c (t.typedef_specifier at x ∷ ss) ks h = typedef-bounded c.known (meaning c.scopes x) (λ d is. any-name x d (each-meaning (IsBoundedTypedef c.known) c.scopes x d h is))
  where
    any-name : (y : Name) (d : Entity) → IsBoundedTypedef c.known y d → IsBoundedTypedef c.known [] d
    any-name y (an_object k a s) b = b
    any-name y (a_function f k a) b = b
    any-name y (an_enumerator z) b = b
    any-name y (a_typedef k a) b = b
specified-bounded c (t.struct_tag at x ∷ ss) ks h = tag-bounded c.known (tag_number c at x) (tag_meaning c.scopes x)
specified-bounded c (t.enum_tag at x ∷ ss) ks h = tt
specified-bounded c (t.word_specifier at x ∷ ss) ks h = line-bounded c.known lines ks (lines-bounded c.known)
specified-bounded c (t.struct_specifier at x ms ∷ ss) ks h = line-bounded c.known lines ks (lines-bounded c.known)
specified-bounded c (t.enum_specifier at x es ∷ ss) ks h = line-bounded c.known lines ks (lines-bounded c.known)
specified-bounded c [] ks h = line-bounded c.known lines ks (lines-bounded c.known)

pub specifiers-bounded : (c : Context) (xs : t.SpecifierList) → AreBoundedTypedefs c → IsBounded c.known (type_of_specifiers c xs).type
specifiers-bounded c xs h = specified-bounded c (named_in xs) (keywords_in xs) h

pub tags-kept : (P : Name → Entity → Type 0) (c : Context) (ss : List t.Specifier) → EachEntity P c.scopes → EachEntity P (tags_in c ss)
tags-kept P c (t.struct_tag at x ∷ ss) h = by-tag (tag_meaning c.scopes x)
  where
    by-tag : (g : Option Tag) → EachEntity P (declared_tag c at x g)
    by-tag None = h
    by-tag (Some g) = h
tags-kept P c (t.word_specifier at x ∷ ss) h = h
tags-kept P c (t.typedef_specifier at x ∷ ss) h = h
tags-kept P c (t.enum_tag at x ∷ ss) h = h
tags-kept P c (t.struct_specifier at x ms ∷ ss) h = h
tags-kept P c (t.enum_specifier at x es ∷ ss) h = h
tags-kept P c [] h = h

pub name-kept : (P : Name → Entity → Type 0) (x : Option Name) (e : Entity) (s : Scopes) → ((y : Name) → P y e) → EachEntity P s → EachEntity P (with_name x e s)
name-kept P None e s k h = h
name-kept P (Some x) e s k h = (k x, h)

-- lengths

array-complete : (c : Context) (r : Qualified) (z : Option ℤ) → rule_6_length z ≡ true → is_complete_in c.known r.type ≡ true → is_complete_in c.known (array_of r z).type ≡ true
array-complete c r None e k = absurd (cc)
array-complete c r (Some (pos n)) e k = by-length n e
  where
    by-length : (m : ℕ) → int_lt (pos 0) (pos m) ≡ true → (nat_lt 0 m && is_complete_in c.known r.type) ≡ true
    by-length m e = subst (λ b. (b && is_complete_in c.known r.type) ≡ true) (sym e) k
array-complete c r (Some (negsuc n)) e k = absurd (cc)

-- declarators

pub record Known (c : Context) : Type 0 where
  pub structs : AreBoundedStructs c.known
  pub typedefs : AreBoundedTypedefs c

mutual
  declares : {c : Context} {q : Qualified} {e : t.Declarator} {d : Declared} → Declares c q e d → Known c → IsBounded c.known q.type → IsWithin c (a_declarator q e) → IsBounded c.known d.type
  declares {c = c} {q = q} (of_declarator {stars = stars} {core = core} m s k) h b w =
      let known : Known (behind_core core c) = record { structs = h.structs; typedefs = h.typedefs } in
      let r = suffixed s known (stars-bounded c.known q stars b) (λ n z. w n (size_within suffixes_part z)) in
      declares-in k h r (λ n z. w n (size_within (core_part s) z))

  declares-in : {c : Context} {q : Qualified} {e : t.Core} {d : Declared} → DeclaresIn c q e d → Known c → IsBounded c.known q.type → IsWithin c (a_core q e) → IsBounded c.known d.type
  declares-in of_nothing h b w = b
  declares-in of_name h b w = b
  declares-in (of_inner d) h b w = declares d h b (λ n z. w n (size_within inner_part z))

  suffixed : {c : Context} {q : Qualified} {ss : t.Suffixes} {r : Qualified} → Suffixed c q ss r → Known c → IsBounded c.known q.type → IsWithin c (some_suffixes q ss) → IsBounded c.known r.type
  suffixed no_suffix h b w = b
  suffixed {c = c} (of_array {e = e} {r = r} {x = x} s d m) h b w =
      let known : Known (behind e c) = record { structs = h.structs; typedefs = h.typedefs } in
      let element : IsBounded c.known r.type = suffixed s known b (λ n z. w n (size_within behind_length z)) in
      let complete : is_complete_in c.known r.type ≡ true = m.1.1.1.0 in
      let small = sized-bounded c.known r.type h.structs element complete in
      (element, array-complete c r (constant_in x) m.1.0 complete, w _ (size_here (size_of_array s d m small.size)))
  suffixed (of_open_array s m) h b w = (suffixed s h b (λ n z. w n (size_within behind_no_length z)), m.1.0)
  suffixed {c = c} (of_function {ps = ps} {r = r} {ds = ds} s p m) h b w =
      let known : Known (behind_parameters ps c) = record { structs = h.structs; typedefs = h.typedefs } in
      let inner : Known (in_new_scope c) = record { structs = h.structs; typedefs = h.typedefs } in
      let asked = both-true (rule_9_result r.type) (are_scalars (parameters_of ps ds)) m.0 in (
        suffixed s known b (λ n z. w n (size_within behind_function z)),
        types-bounded c.known (parameters_of ps ds) (parameters-bounded c.known ps ds (are-parameters p inner (λ n z. w n (size_within parameters_part z)))),
        asked.0,
        types-scalar (parameters_of ps ds) asked.1,
      )

  pub are-parameters : {c : Context} {n : ℕ} {ps : t.Parameters} {ds : List Declared} → AreParameters c n ps ds → Known c → IsWithin c (some_parameters n ps) → AreFine c.known ds
  are-parameters no_parameter h w = tt
  are-parameters {c = c} {n = n} (a_parameter {xs = xs} {m = m} {d = d} k p a r) h w =
      let known : Known (behind_specifiers c xs) = record { structs = h.structs; typedefs = tags-kept (IsBoundedTypedef c.known) c (named_in xs) h.typedefs } in
      let one = may-declare p known (specifiers-bounded c xs h.typedefs) (λ i z. w i (size_within (parameter_declarator k) z)) in
      let rest : Known (with_parameter n (parameter d) (behind_may m (behind_specifiers c xs))) = record { structs = h.structs; typedefs = name-kept (IsBoundedTypedef c.known) (parameter d).name _ _ (λ y. tt) known.typedefs } in
      (parameter-bounded c.known d one, are-parameters r rest (λ i z. w i (size_within (parameters_behind k p) z)))

  may-declare : {c : Context} {q : Qualified} {m : t.MaybeDeclarator} {d : Declared} → MayDeclare c q m d → Known c → IsBounded c.known q.type → IsWithin c (maybe_declarator q m) → IsBounded c.known d.type
  may-declare of_no_declarator h b w = b
  may-declare (of_a_declarator d) h b w = declares d h b (λ n z. w n (size_within declarator_part z))

pub names : {c : Context} {n : t.TypeName} {q : Qualified} → Names c n q → Known c → IsWithin c (a_type_name n) → IsBounded c.known q.type
names {c = c} (of_type_name {xs = xs} m d k) h w = may-declare d h (specifiers-bounded c xs h.typedefs) (λ n z. w n (size_within (name_declarator m) z))

pub declares-bounded : (c : Context) (q : Qualified) (d : t.Declarator) (y : Declared) → Declares c q d y → AreBoundedStructs c.known → AreBoundedTypedefs c → IsBounded c.known q.type → IsWithin c (a_declarator q d) → IsBounded c.known y.type
declares-bounded c q d y k structs typedefs b w = declares k (record { structs = structs; typedefs = typedefs }) b w

pub names-bounded : (c : Context) (n : t.TypeName) (q : Qualified) → Names c n q → AreBoundedStructs c.known → AreBoundedTypedefs c → IsWithin c (a_type_name n) → IsBounded c.known q.type
names-bounded c n q k structs typedefs w = names k (record { structs = structs; typedefs = typedefs }) w
