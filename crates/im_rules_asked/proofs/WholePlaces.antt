-- What is typed at file scope leaves each member of each struct with a complete type.
use Rattle.std.proofs.Common.{◌≡◌, ◌∙◌, ◌≤◌, ℕ, ℤ, ◌+◌, List, [], ◌∷◌, length, Option, Some, None, refl, ap, subst, arith}
use Rattle.im_rules.specs.im_word.Words.{Name}
use Rattle.im_rules.specs.im_ctree.Tree as t
use Rattle.im_rules.specs.im_ctree.declared.specifier.SpecifierWord.{SpecifierWord}
use Rattle.im_rules.specs.im_ctype.Types.{Member}
use Rattle.im_rules.specs.im_typed.Program.{Func}
use Rattle.im_rules.specs.Context.{Context, in_new_scope}
use Rattle.im_rules.specs.Declared.{Qualified, Declared, behind_specifiers, with_parameter, with_parameters}
use Rattle.im_rules.specs.FileScope.{FilePlace, Level, with_enum_tag}
use Rattle.im_rules.specs.TypedUnit.{AreEnumerators, no_enumerator, an_enumerator, Specify, of_specifiers, NamesType, no_list, a_struct, an_enum, AreMembers, no_member, some_members, AreFields, no_field, a_field, FirstValues, AreDeclared, none_declared, one_declared, past_head, TypedExternal, of_declaration, of_function}
use Rattle.im_rules_asked.specs.Units.{own as own_of, defined_parameters, start_of_body}
use Rattle.im_rules_asked.proofs.WholeStructs.{AreWhole, IsWhole, whole_more, whole_both, one_more, struct_whole}

abbrev pub Whole : FilePlace → Type 0
Whole f = IsWhole f.context.known

abbrev many : FilePlace → ℕ
many f = length f.context.known

enumerators_known : {f g : FilePlace} {next : ℤ} {es : t.Enumerators} → AreEnumerators f next es g
    → f.context.known ≡ g.context.known
enumerators_known no_enumerator = refl
enumerators_known (an_enumerator n m rest) = enumerators_known rest

fields_known : {q : Qualified} {f g : FilePlace} {ds : t.Declarators} {ms : List Member}
    → AreFields q f ds ms g → (f.context.known ≡ g.context.known) × AreWhole (many f) ms
fields_known no_field = (refl, tt)
fields_known (a_field d m rest) = let r = fields_known rest in (r.0, (m.1.0, r.1))

declared_known : {xs : t.SpecifierList} {q : Qualified} {f g : FilePlace} {ds : t.InitDeclarators}
    {gs : List FirstValues}
    → AreDeclared xs q f ds gs g → f.context.known ≡ g.context.known
declared_known none_declared = refl
declared_known (one_declared d m i rest) = declared_known rest

tag_known : (x : Option Name) (g : FilePlace) → g.context.known ≡ (with_enum_tag x g).context.known
tag_known None g = refl
tag_known (Some x) g = refl

-- no struct is lost, and those that come have complete members

record Grown (f g : FilePlace) : Type 0 where
  whole : Whole g
  longer : many f ≤ many g

mutual
  specify_grown : {l : Level} {f g : FilePlace} {xs : t.SpecifierList} {q : Qualified}
      → Specify l f xs q g → Whole f → Grown f g
  specify_grown (of_specifiers m n) w = named_grown n w

  named_grown : {f g : FilePlace} {ss : List t.Specifier} {ks : List SpecifierWord} {q : Qualified}
      → NamesType f ss ks q g → Whole f → Grown f g
  named_grown (no_list m) w = record { whole = w; longer = omega arith }
  named_grown {f = f} (a_struct {g = h} {fields = fields} ms m) w =
      let r = members_grown ms w in
      let a = r.0.longer in
      let b = one_more h.context.known fields in
      record { whole = struct_whole h.context.known fields r.0.whole r.1; longer = omega (arith, a, b) }
  named_grown {f = f} (an_enum {g = g} {x = x} m es) w =
      let p = enumerators_known es ∙ tag_known x g in
      let l = ap length p in
      record { whole = subst (λ z. IsWhole z) p w; longer = omega (arith, l) }

  members_grown : {f g : FilePlace} {ms : t.Members} {fields : List Member}
      → AreMembers f ms fields g → Whole f → Grown f g × AreWhole (many g) fields
  members_grown no_member w = (record { whole = w; longer = omega arith }, tt)
  members_grown {f = f} {g = g} (some_members {g = a} {h = h} {fields = fields} {more = more} s d rest) w =
      let p = specify_grown s w in
      let k = fields_known d in
      let r = members_grown rest (subst (λ z. IsWhole z) k.0 p.whole) in
      let l = ap length k.0 in
      let m = p.longer in
      let n = r.0.longer in (
        record { whole = r.0.whole; longer = omega (arith, l, m, n) },
        whole_both (many g) fields more (whole_more (many a) (many g) fields (omega (arith, l, n)) k.1) r.1,
      )

pub specify_whole : {l : Level} {f g : FilePlace} {xs : t.SpecifierList} {q : Qualified}
    → Specify l f xs q g → Whole f → Whole g
specify_whole s w = (specify_grown s w).whole

pub fields_whole : {q : Qualified} {f g : FilePlace} {ds : t.Declarators} {ms : List Member}
    → AreFields q f ds ms g → Whole f → Whole g
fields_whole d w = subst (λ z. IsWhole z) (fields_known d).0 w

pub external_whole : {f g : FilePlace} {x : t.External} {gs : List FirstValues} {ks : List Func}
    → TypedExternal f x gs ks g → Whole f → Whole g
external_whole (of_declaration s d) w = subst (λ z. IsWhole z) (declared_known d) (specify_whole s w)
external_whole (of_function s d m n p is) w = specify_whole s w

-- behind the parameters of a function, where its body starts

parameters_known : (n : ℕ) (ps : t.Parameters) (ds : List Declared) (c : Context)
    → c.known ≡ (with_parameters n ps ds c).known
parameters_known n t.no_parameters ds c = refl
parameters_known n (t.more_parameters (t.specifiers at xs) m ps) [] c = refl
parameters_known n (t.more_parameters (t.specifiers at xs) m ps) (d ∷ ds) c =
    parameters_known (n + 1) ps ds (with_parameter n d (behind_specifiers c xs))

pub body_whole : (xs : t.SpecifierList) (f : FilePlace) (d : t.Declarator) (y : Declared) → Whole f
    → IsWhole (start_of_body xs f d y).context.known
body_whole xs f d y w =
    subst (λ z. IsWhole z) (parameters_known 0 (own_of d) (defined_parameters f d)
    (in_new_scope (past_head xs d y f).context)) w
