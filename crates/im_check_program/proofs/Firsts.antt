-- First values by names.
use Rattle.std.proofs.Common.{◌≡◌, ℕ, suc, ◌+◌, ◌<◌, ◌++◌, length, take, get_or, true, false, Bool, List, [], ◌∷◌, map, Option, Some, None, if◌then◌else◌, refl, sym, ap, ◌∙◌}
use Rattle.std.specs.Prelude.{slice_get, Result, Ok, Err, IfOk}
use Rattle.std.specs.Option.{option_map}
use Rattle.std.proofs.lemmas.List.{map_push, take_more}
use Rattle.im_check_defined.specs.im_word.Words.{Name}
use Rattle.im_check_defined.specs.im_store.Objects.{Value}
use Rattle.im_check_defined.specs.im_rules.Outline.{place_in}
use Rattle.im_check_defined.specs.im_rules.TypeTests.{same_name}
use Rattle.im_check_defined.specs.im_rules.TypedUnit as u
use Rattle.im_check_defined.specs.declared.first_values.FirstValues.{FirstValues}
use Rattle.im_check_defined.specs.Values.{values_in, first_values_in}
use Rattle.im_check_program.specs.Given.{names_given}

-- the first of that name is at the name's place
pub given_at : (x : Name) (gs : List FirstValues) → u.given_to x (first_values_in gs) ≡ option_map (λ (g : FirstValues). values_in g.values.items) (slice_get gs (place_in x (names_given gs)))
given_at x [] = refl
given_at x (g ∷ gs) = by (same_name g.name.items x) refl (given_at x gs)
  where
    by :
        (b : Bool) → same_name g.name.items x ≡ b
        → u.given_to x (first_values_in gs) ≡ option_map (λ (h : FirstValues). values_in h.values.items) (slice_get gs (place_in x (names_given gs)))
        → u.given_to x (first_values_in (g ∷ gs)) ≡ option_map (λ (h : FirstValues). values_in h.values.items) (slice_get (g ∷ gs) (place_in x (names_given (g ∷ gs))))
    by true e rest = rw e refl
    by false e rest = rw e rest

pub on_ok : {A E : Type 0} {P Q : A → Type 0} (r : Result A E) → ((x : A) → P x → Q x) → IfOk r P → IfOk r Q
on_ok (Ok x) f h = f x h
on_ok (Err e) f h = h

pub none_given : (x : Name) (gs : List FirstValues) (at : ℕ) → at ≡ place_in x (names_given gs) → slice_get gs at ≡ None → u.given_to x (first_values_in gs) ≡ None
none_given x gs at e h = given_at x gs ∙ ap (option_map (λ (g : FirstValues). values_in g.values.items)) (ap (λ (n : ℕ). slice_get gs n) (sym e) ∙ h)

pub one_given : (x : Name) (gs : List FirstValues) (at : ℕ) (g : FirstValues) → at ≡ place_in x (names_given gs) → slice_get gs at ≡ Some g → u.given_to x (first_values_in gs) ≡ Some (values_in g.values.items)
one_given x gs at g e h = given_at x gs ∙ ap (option_map (λ (k : FirstValues). values_in k.values.items)) (ap (λ (n : ℕ). slice_get gs n) (sym e) ∙ h)

pub names_more : (gs : List FirstValues) (i : ℕ) (g : FirstValues) → i < length gs → g ≡ get_or gs i g → names_given (take (i + 1) gs) ≡ names_given (take i gs) ++ g.name.items ∷ []
names_more gs i g lt is =
    ap names_given (take_more gs i g lt ∙ ap (λ (k : FirstValues). take i gs ++ k ∷ []) (sym is)) ∙ map_push (λ (k : FirstValues). k.name.items) (take i gs) g
