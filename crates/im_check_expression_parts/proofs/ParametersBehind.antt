-- Parameters, one behind the other.
use Rattle.std.proofs.Common.{◌≡◌, ℕ, ◌+◌, false, List, [], ◌∷◌, ◌++◌, map, drop, refl, sym, ap, ◌∙◌, subst, append_assoc}
use Rattle.std.proofs.lemmas.List.{append-nil, map_push}
use Rattle.im_check_declarators.specs.im_word.Words.{Name}
use Rattle.im_check_declarators.specs.im_ctree.Tree as t
use Rattle.im_check_declarators.specs.im_ctree.declared.declarator.Parameter.{Parameter}
use Rattle.im_rules.specs.Context.{Context, behind_strings as behind}
use Rattle.im_rules.specs.Declared as d
use Rattle.im_rules.specs.Rules.{named_in}
use Rattle.im_rules.specs.Scopes.{Scopes, nothing, at_file_scope}
use Rattle.im_rules.specs.Strings.{strings_of_parameters}
use Rattle.im_rules.specs.Typed.{AreParameters, no_parameter}
use Rattle.im_rules.specs.Breaks.{some_parameters}
use Rattle.im_check_declarators.specs.im_rules_limits.Limits.{IsWithin}
use Rattle.im_check_declarators.specs.im_check_stop.declared.stop.Stop.{Stop}
use Rattle.im_check_declarators.specs.im_check_scopes.declared.entity.Entry.{Entry}
use Rattle.im_check_declarators.specs.im_check_scopes.declared.entity.Entry.TheVariants as n
use Rattle.im_check_declarators.specs.im_check_scopes.Shape.{with_entry, with_entries, scopes_of}
use Rattle.im_check_declarators.specs.im_ctree_parts.Lists.{parameters_from, with_parameter}
use Rattle.im_check_declarators.specs.im_check_type_specifiers.Tags.{IsGrown}
use Rattle.im_check_declarators.specs.declared.declared.Declared.{Declared}
use Rattle.im_check_declarators.specs.Shape.{declared_of}
use Rattle.im_check_declarators.specs.Suffixes.{IsFault}
use Rattle.im_check_place.specs.declared.place.Place.{Place}
use Rattle.im_check_place.specs.Contexts.{context_of, behind_strings}
use Rattle.im_check_expression_parts.specs.Walked.{IsBehind, GoesOnParameters}
use Rattle.im_check_expression_parts.proofs.Places.{behind_none}
use Rattle.im_check_expression_parts.proofs.Within.{no_parameters_within}

-- scopes that are opened stay so

one_more : (g : Scopes) (e : Entry) → at_file_scope g ≡ false → at_file_scope (with_entry g e) ≡ false
one_more g n.Opened h = refl
one_more g (n.Named x e) h = h
one_more g (n.Tagged x e) h = h

more : (g : Scopes) (es : List Entry) → at_file_scope g ≡ false → at_file_scope (with_entries g es) ≡ false
more g [] h = h
more g (e ∷ es) h = more (with_entry g e) es (one_more g e h)

joined : (g : Scopes) (es fs : List Entry) → with_entries g (es ++ fs) ≡ with_entries (with_entries g es) fs
joined g [] fs = refl
joined g (e ∷ es) fs = joined (with_entry g e) es fs

pub stays_inside : (before after : List Entry) → IsGrown before after → at_file_scope (scopes_of before) ≡ false → at_file_scope (scopes_of after) ≡ false
stays_inside before after g h = ap (λ es. at_file_scope (scopes_of es)) g.1 ∙ ap at_file_scope (joined nothing before g.0) ∙ more (scopes_of before) g.0 h

pub grown_twice : (a : List Entry) {b c : List Entry} → IsGrown a b → IsGrown b c → IsGrown a c
grown_twice a f g = (f.0 ++ g.0, g.1 ∙ ap (λ z. z ++ g.0) f.1 ∙ append_assoc a f.0 g.0)

pub grown_not : (a : List Entry) → IsGrown a a
grown_not a = ([], sym (append-nil a))

abbrev pub with_scope : List Entry → Place → Place
with_scope es p = record p { scope = es }

-- where string literals stand changes no scope

tags_same : (ss : List Name) (c : Context) (ns : List t.Specifier) → d.tags_in (behind ss c) ns ≡ d.tags_in c ns
tags_same ss c [] = refl
tags_same ss c (t.word_specifier at x ∷ ns) = refl
tags_same ss c (t.typedef_specifier at x ∷ ns) = refl
tags_same ss c (t.struct_tag at x ∷ ns) = refl
tags_same ss c (t.enum_tag at x ∷ ns) = refl
tags_same ss c (t.struct_specifier at x ms ∷ ns) = refl
tags_same ss c (t.enum_specifier at x es ∷ ns) = refl

pub scopes_same : (ss : List Name) (n : ℕ) (ps : t.Parameters) (ds : List d.Declared) (c : Context) → (d.with_parameters n ps ds (behind ss c)).scopes ≡ (d.with_parameters n ps ds c).scopes
scopes_same ss n t.no_parameters [] c = refl
scopes_same ss n t.no_parameters (y ∷ ds) c = refl
scopes_same ss n (t.more_parameters (t.specifiers at xs) m ps) [] c = refl
scopes_same ss n (t.more_parameters (t.specifiers at xs) m ps) (y ∷ ds) c =
    ap (λ g. (d.with_parameters (n + 1) ps ds (d.with_parameter n y (record (behind ss c) { scopes = g }))).scopes) (tags_same ss c (named_in xs))
    ∙ scopes_same ss (n + 1) ps ds (d.with_parameter n y (d.behind_specifiers c xs))

-- parameters in their order

pub record ParametersReached (before : Place) (ps : List Parameter) (i : ℕ) (ds : List Declared) (now : Place) : Type 0 where
  pub gives : (others : List d.Declared) → AreParameters (context_of now) i (parameters_from (drop i ps)) others → AreParameters (context_of before) 0 (parameters_from ps) (map declared_of ds ++ others)
  pub faults : (stop : Stop) → IsFault (context_of now) (some_parameters i (parameters_from (drop i ps))) stop → IsFault (context_of before) (some_parameters 0 (parameters_from ps)) stop
  pub within : IsWithin (context_of now) (some_parameters i (parameters_from (drop i ps))) → IsWithin (context_of before) (some_parameters 0 (parameters_from ps))
  pub scopes : (others : List d.Declared) → (d.with_parameters i (parameters_from (drop i ps)) others (context_of now)).scopes ≡ (d.with_parameters 0 (parameters_from ps) (map declared_of ds ++ others) (context_of before)).scopes
  pub grown : IsGrown before.scope now.scope
  pub place : record (behind_strings (strings_of_parameters (parameters_from (drop i ps))) now) { scope = before.scope } ≡ behind_strings (strings_of_parameters (parameters_from ps)) before

pub parameters_none : (p : Place) (ps : List Parameter) → ParametersReached p ps 0 [] p
parameters_none p ps = record { gives = λ others h. h; faults = λ stop f. f; within = λ w. w; scopes = λ others. refl; grown = grown_not p.scope; place = refl }

pub parameters_more : {before now after : Place} {ps : List Parameter} {i : ℕ} {p : Parameter} (ds : List Declared) (y : Declared)
    → drop i ps ≡ p ∷ drop (i + 1) ps
    → ParametersReached before ps i ds now
    → ((rest : t.Parameters) → GoesOnParameters now i (with_parameter p rest) (declared_of y) rest after)
    → ParametersReached before ps (i + 1) (ds ++ y ∷ []) after
parameters_more {before = before} {now = now} {after = after} {ps = ps} {i = i} {p = p} ds y at reached one =
    let rest = parameters_from (drop (i + 1) ps) in
    let on = one rest in
    let told : (others : List d.Declared) → map declared_of ds ++ (declared_of y ∷ others) ≡ map declared_of (ds ++ y ∷ []) ++ others = λ others. sym (append_assoc (map declared_of ds) (declared_of y ∷ []) others) ∙ ap (λ zs. zs ++ others) (sym (map_push declared_of ds y)) in
    record {
      gives = λ others h.
          let h₁ : AreParameters (context_of now) i (parameters_from (drop i ps)) (declared_of y ∷ others) = rw at (on.gives others h) in
          subst (λ zs. AreParameters (context_of before) 0 (parameters_from ps) zs) (told others) (reached.gives (declared_of y ∷ others) h₁);
      faults = λ stop f.
          let f₁ : IsFault (context_of now) (some_parameters i (parameters_from (drop i ps))) stop = rw at (on.faults stop f) in
          reached.faults stop f₁;
      within = λ w.
          let w₁ : IsWithin (context_of now) (some_parameters i (parameters_from (drop i ps))) = rw at (on.within w) in
          reached.within w₁;
      scopes = λ others.
          on.scopes others
          ∙ ap (λ zs. (d.with_parameters i (parameters_from zs) (declared_of y ∷ others) (context_of now)).scopes) (sym at)
          ∙ reached.scopes (declared_of y ∷ others)
          ∙ ap (λ zs. (d.with_parameters 0 (parameters_from ps) zs (context_of before)).scopes) (told others);
      grown = grown_twice before.scope reached.grown on.grown;
      place = ap (with_scope before.scope) on.place ∙ ap (λ zs. with_scope before.scope (behind_strings (strings_of_parameters (parameters_from zs)) now)) (sym at) ∙ reached.place;
    }

pub parameters_fault : {before now : Place} {ps : List Parameter} {i : ℕ} {p : Parameter} (ds : List Declared) (f : Stop)
    → drop i ps ≡ p ∷ drop (i + 1) ps
    → ParametersReached before ps i ds now
    → ((rest : t.Parameters) → IsFault (context_of now) (some_parameters i (with_parameter p rest)) f)
    → IsFault (context_of before) (some_parameters 0 (parameters_from ps)) f
parameters_fault {now = now} {ps = ps} {i = i} ds f at reached h =
    let h₁ : IsFault (context_of now) (some_parameters i (parameters_from (drop i ps))) f = rw at (h (parameters_from (drop (i + 1) ps))) in
    reached.faults f h₁

pub parameters_all : {before now : Place} {ps : List Parameter} {i : ℕ} (ds : List Declared)
    → drop i ps ≡ []
    → ParametersReached before ps i ds now
    → AreParameters (context_of before) 0 (parameters_from ps) (map declared_of ds) × (scopes_of now.scope ≡ (d.with_parameters 0 (parameters_from ps) (map declared_of ds) (context_of before)).scopes) × IsBehind (strings_of_parameters (parameters_from ps)) before now × IsWithin (context_of before) (some_parameters 0 (parameters_from ps))
parameters_all {before = before} {now = now} {ps = ps} {i = i} ds ends reached =
    let h : AreParameters (context_of now) i (parameters_from (drop i ps)) [] = rw ends no_parameter in
    let w : IsWithin (context_of now) (some_parameters i (parameters_from (drop i ps))) = rw ends no_parameters_within in
    let p : with_scope before.scope (behind_strings (strings_of_parameters (parameters_from [])) now) ≡ behind_strings (strings_of_parameters (parameters_from ps)) before = rw ends at reached.place in
    let ends_scopes : scopes_of now.scope ≡ (d.with_parameters i (parameters_from (drop i ps)) [] (context_of now)).scopes = ap (λ zs. (d.with_parameters i (parameters_from zs) [] (context_of now)).scopes) (sym ends) in (
      subst (λ zs. AreParameters (context_of before) 0 (parameters_from ps) zs) (append-nil (map declared_of ds)) (reached.gives [] h),
      ends_scopes ∙ reached.scopes [] ∙ ap (λ zs. (d.with_parameters 0 (parameters_from ps) zs (context_of before)).scopes) (append-nil (map declared_of ds)),
      record { grown = reached.grown; all_else = sym (behind_none now) ∙ ap (with_scope now.scope) p },
      reached.within w,
    )
