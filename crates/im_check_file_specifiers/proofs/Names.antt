-- Lists of names, and members whose names differ.
use Rattle.std.proofs.Common.{◌≡◌, ℕ, zero, suc, Bool, true, false, not, ◌&&◌, ◌||◌, List, [], ◌∷◌, ◌++◌, length, drop, reverse, Option, Some, None, refl, sym, ap, ◌∙◌}
use Rattle.std.proofs.lemmas.List.{reverse-append}
use Rattle.im_check_expressions.specs.im_word.Words.{Name}
use Rattle.im_ctype.specs.Types.{Member}
use Rattle.im_rules.specs.TypeTests.{same_name, has_member}
use Rattle.im_rules.specs.Outline.{is_in}
use Rattle.im_rules.specs.Rules.{differ}
use Rattle.im_rules.specs.FileScope.{has_begun}
use Rattle.im_check_place.specs.Fields.{field_of, fields_of}
use Rattle.im_check_place.specs.declared.field.Field.{Field}

or_swapped : (a b : Bool) → (a || b) ≡ (b || a)
or_swapped true true = refl
or_swapped true false = refl
or_swapped false true = refl
or_swapped false false = refl

or_moved : (a b c : Bool) → (a || (b || c)) ≡ ((a || b) || c)
or_moved true b c = refl
or_moved false b c = refl

or_none : (a : Bool) → (a || false) ≡ a
or_none true = refl
or_none false = refl

pub in_pushed : (x y : Name) (ys : List Name) → is_in x (ys ++ y ∷ []) ≡ (is_in x ys || same_name y x)
in_pushed x y [] = or_none (same_name y x)
in_pushed x y (z ∷ zs) = ap (λ b. same_name z x || b) (in_pushed x y zs) ∙ or_moved (same_name z x) (is_in x zs) (same_name y x)

pub in_reversed : (x : Name) (ys : List Name) → is_in x (reverse ys) ≡ is_in x ys
in_reversed x [] = refl
in_reversed x (y ∷ ys) =
    ap (is_in x) (reverse-append (y ∷ []) ys)
    ∙ in_pushed x y (reverse ys)
    ∙ or_swapped (is_in x (reverse ys)) (same_name y x)
    ∙ ap (λ b. same_name y x || b) (in_reversed x ys)

pub begun_reversed : (x : Option Name) (ys : List Name) → has_begun x (reverse ys) ≡ has_begun x ys
begun_reversed None ys = refl
begun_reversed (Some x) ys = in_reversed x ys

-- names that differ, from the last member on

pub record NamesBehind (fs : List Field) (i : ℕ) (names : List Name) : Type 0 where
  pub differ : differ (fields_of (drop i fs)) ≡ true
  pub those : (x : Name) → is_in x names ≡ has_member x (fields_of (drop i fs))

pub names_none : (fs : List Field) (i : ℕ) → drop i fs ≡ [] → NamesBehind fs i []
names_none fs i none = record { differ = ap (λ zs. differ (fields_of zs)) none; those = λ x. ap (λ zs. has_member x (fields_of zs)) (sym none) }

and_both : (a b : Bool) → a ≡ false → b ≡ true → (not a && b) ≡ true
and_both a b e f = rw (e, f) refl

pub names_more : (fs : List Field) (i j : ℕ) (f : Field) (names : List Name)
    → drop i fs ≡ f ∷ drop j fs
    → NamesBehind fs j names
    → is_in f.name.items names ≡ false
    → NamesBehind fs i (names ++ f.name.items ∷ [])
names_more fs i j f names at h absent =
    let rest = fields_of (drop j fs) in
    let x = f.name.items in
    record {
      differ = ap (λ zs. differ (fields_of zs)) at ∙ and_both (has_member x rest) (differ rest) (sym (h.those x) ∙ absent) h.differ;
      those = λ y.
          in_pushed y x names
          ∙ ap (λ b. b || same_name x y) (h.those y)
          ∙ or_swapped (has_member y rest) (same_name x y)
          ∙ ap (λ zs. has_member y (fields_of zs)) (sym at);
    }

tail_differs : (b d : Bool) → d ≡ false → (b && d) ≡ false
tail_differs true d e = e
tail_differs false d e = refl

later_same : (fs : List Field) (i : ℕ) → differ (fields_of (drop i fs)) ≡ false → differ (fields_of fs) ≡ false
later_same fs zero h = h
later_same [] (suc i) h = h
later_same (f ∷ fs) (suc i) h = tail_differs (not (has_member f.name.items (fields_of fs))) (differ (fields_of fs)) (later_same fs i h)

and_neither : (a b : Bool) → a ≡ true → (not a && b) ≡ false
and_neither a b e = rw e refl

pub names_same : (fs : List Field) (i j : ℕ) (f : Field) (names : List Name)
    → drop i fs ≡ f ∷ drop j fs
    → NamesBehind fs j names
    → is_in f.name.items names ≡ true
    → differ (fields_of fs) ≡ false
names_same fs i j f names at h there =
    let rest = fields_of (drop j fs) in
    let x = f.name.items in
    later_same fs i (ap (λ zs. differ (fields_of zs)) at ∙ and_neither (has_member x rest) (differ rest) (sym (h.those x) ∙ there))
