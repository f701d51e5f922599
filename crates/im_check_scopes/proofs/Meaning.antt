-- What names and tags mean, by the places of their last entries.
use Rattle.std.proofs.Common.{◌≡◌, ℕ, Bool, true, false, ◌||◌, List, [], ◌∷◌, get_or, Option, Some, None, if◌then◌else◌, is_none, refl, sym, ap, ◌∙◌}
use Rattle.im_check_name_map.specs.im_word.Words.{Name}
use Rattle.im_check_name_map.specs.im_rules.TypeTests.{same_name}
use Rattle.im_check_name_map.specs.im_rules.Scopes as s
use Rattle.im_check_name_map.specs.im_rules.Scopes.{Scopes, nothing, meaning, meaning_here, tag_meaning, tag_meaning_here, at_file_scope}
use Rattle.im_check_scopes.specs.declared.entity.Entry.{Entry}
use Rattle.im_check_scopes.specs.declared.entity.Entry.TheVariants as n
use Rattle.im_check_scopes.specs.Shape.{with_entry, with_entries, scopes_of}
use Rattle.im_check_scopes.specs.Search.{is_opening, is_named, is_tagged, last_place, entity_named, tag_named, is_before}
use Rattle.im_check_scopes.proofs.Search.{searched-none, searched-some, last-passes, last-either, later}

meaning-step : (x : Name) (g : Scopes) (y : Entry) → meaning (with_entry g y) x ≡ (if is_named x y then entity_named y else meaning g x)
meaning-step x g n.Opened = refl
meaning-step x g (n.Named z e) = refl
meaning-step x g (n.Tagged z t) = refl

tag-step : (x : Name) (g : Scopes) (y : Entry) → tag_meaning (with_entry g y) x ≡ (if is_tagged x y then tag_named y else tag_meaning g x)
tag-step x g n.Opened = refl
tag-step x g (n.Named z e) = refl
tag-step x g (n.Tagged z t) = refl

file-step : (g : Scopes) (y : Entry) → at_file_scope (with_entry g y) ≡ (if is_opening y then false else at_file_scope g)
file-step g n.Opened = refl
file-step g (n.Named z e) = refl
file-step g (n.Tagged z t) = refl

here-step : (x : Name) (g : Scopes) (y : Entry) → meaning_here (with_entry g y) x ≡ (if is_opening y || is_named x y then entity_named y else meaning_here g x)
here-step x g n.Opened = refl
here-step x g (n.Named z e) = refl
here-step x g (n.Tagged z t) = refl

tag-here-step : (x : Name) (g : Scopes) (y : Entry) → tag_meaning_here (with_entry g y) x ≡ (if is_opening y || is_tagged x y then tag_named y else tag_meaning_here g x)
tag-here-step x g n.Opened = refl
tag-here-step x g (n.Named z e) = refl
tag-here-step x g (n.Tagged z t) = refl

pub meaning-none : (es : List Entry) (x : Name) → last_place (is_named x) es ≡ None → meaning (scopes_of es) x ≡ None
meaning-none es x h = searched-none (λ g. meaning g x) (is_named x) entity_named (meaning-step x) nothing es h

pub meaning-some : (es : List Entry) (x : Name) (i : ℕ) (d : Entry) → last_place (is_named x) es ≡ Some i → meaning (scopes_of es) x ≡ entity_named (get_or es i d)
meaning-some es x i d h = searched-some (λ g. meaning g x) (is_named x) entity_named (meaning-step x) nothing es i d h

pub tag-none : (es : List Entry) (x : Name) → last_place (is_tagged x) es ≡ None → tag_meaning (scopes_of es) x ≡ None
tag-none es x h = searched-none (λ g. tag_meaning g x) (is_tagged x) tag_named (tag-step x) nothing es h

pub tag-some : (es : List Entry) (x : Name) (i : ℕ) (d : Entry) → last_place (is_tagged x) es ≡ Some i → tag_meaning (scopes_of es) x ≡ tag_named (get_or es i d)
tag-some es x i d h = searched-some (λ g. tag_meaning g x) (is_tagged x) tag_named (tag-step x) nothing es i d h

pub file-told : (es : List Entry) → is_none (last_place is_opening es) ≡ at_file_scope (scopes_of es)
file-told es = by (last_place is_opening es) refl
  where
    by : (r : Option ℕ) → last_place is_opening es ≡ r → is_none r ≡ at_file_scope (scopes_of es)
    by None h = sym (searched-none at_file_scope is_opening (λ y. false) file-step nothing es h)
    by (Some i) h = sym (searched-some at_file_scope is_opening (λ y. false) file-step nothing es i n.Opened h)

opening-unnamed : (y : Entry) → is_opening y ≡ true → entity_named y ≡ None
opening-unnamed n.Opened h = refl
opening-unnamed (n.Named z e) h = absurd cc
opening-unnamed (n.Tagged z t) h = absurd cc

opening-untagged : (y : Entry) → is_opening y ≡ true → tag_named y ≡ None
opening-untagged n.Opened h = refl
opening-untagged (n.Named z e) h = absurd cc
opening-untagged (n.Tagged z t) h = absurd cc

-- in the innermost scope alone: what the last entry says that passes the test, where none that opens a scope stands behind it
module _ {T : Type 0} (seen : Scopes → Option T) (test : Entry → Bool) (told : Entry → Option T) (step : (g : Scopes) (y : Entry) → seen (with_entry g y) ≡ (if is_opening y || test y then told y else seen g)) (none : seen nothing ≡ None) (silent : (y : Entry) → is_opening y ≡ true → told y ≡ None) where
  abbrev in_scope : Entry → Bool
  in_scope y = is_opening y || test y

  -- at the place of the last entry that opens a scope nothing is told
  at-opening : (es : List Entry) (j : ℕ) → last_place is_opening es ≡ Some j → last_place in_scope es ≡ Some j → seen (scopes_of es) ≡ None
  at-opening es j o h =
      searched-some seen in_scope told step nothing es j n.Opened h
      ∙ silent (get_or es j n.Opened) (last-passes is_opening es j n.Opened o)

  either : (es : List Entry) → last_place in_scope es ≡ later (last_place test es) (last_place is_opening es)
  either es = last-either test is_opening es

  innermost-none : (es : List Entry) → last_place test es ≡ None → seen (scopes_of es) ≡ None
  innermost-none es h = by (last_place is_opening es) refl
    where
      by : (r : Option ℕ) → last_place is_opening es ≡ r → seen (scopes_of es) ≡ None
      by None o = searched-none seen in_scope told step nothing es (either es ∙ ap (λ a. later a (last_place is_opening es)) h ∙ o) ∙ none
      by (Some j) o = at-opening es j o (either es ∙ ap (λ a. later a (last_place is_opening es)) h ∙ o)

  innermost-outside : (es : List Entry) (i : ℕ) → last_place test es ≡ Some i → is_before i (last_place is_opening es) ≡ true → seen (scopes_of es) ≡ None
  innermost-outside es i h b = by (last_place is_opening es) refl b
    where
      by : (r : Option ℕ) → last_place is_opening es ≡ r → is_before i r ≡ true → seen (scopes_of es) ≡ None
      by None o k = absurd cc
      by (Some j) o k =
          at-opening es j o (either es ∙ ap (λ a. later a (last_place is_opening es)) h ∙ ap (λ a. later (Some i) a) o ∙ ap (λ c. if c then Some j else Some i) k)

  innermost-some : (es : List Entry) (i : ℕ) (d : Entry) → last_place test es ≡ Some i → is_before i (last_place is_opening es) ≡ false → seen (scopes_of es) ≡ told (get_or es i d)
  innermost-some es i d h b =
      searched-some seen in_scope told step nothing es i d (either es ∙ ap (λ a. later a (last_place is_opening es)) h ∙ by (last_place is_opening es) b)
    where
      by : (r : Option ℕ) → is_before i r ≡ false → later (Some i) r ≡ Some i
      by None k = refl
      by (Some j) k = ap (λ c. if c then Some j else Some i) k

pub here-none : (es : List Entry) (x : Name) → last_place (is_named x) es ≡ None → meaning_here (scopes_of es) x ≡ None
here-none es x h = innermost-none (λ g. meaning_here g x) (is_named x) entity_named (here-step x) refl opening-unnamed es h

pub here-outside : (es : List Entry) (x : Name) (i : ℕ) → last_place (is_named x) es ≡ Some i → is_before i (last_place is_opening es) ≡ true → meaning_here (scopes_of es) x ≡ None
here-outside es x i h b = innermost-outside (λ g. meaning_here g x) (is_named x) entity_named (here-step x) refl opening-unnamed es i h b

pub here-some : (es : List Entry) (x : Name) (i : ℕ) (d : Entry) → last_place (is_named x) es ≡ Some i → is_before i (last_place is_opening es) ≡ false → meaning_here (scopes_of es) x ≡ entity_named (get_or es i d)
here-some es x i d h b = innermost-some (λ g. meaning_here g x) (is_named x) entity_named (here-step x) refl opening-unnamed es i d h b

pub tag-here-none : (es : List Entry) (x : Name) → last_place (is_tagged x) es ≡ None → tag_meaning_here (scopes_of es) x ≡ None
tag-here-none es x h = innermost-none (λ g. tag_meaning_here g x) (is_tagged x) tag_named (tag-here-step x) refl opening-untagged es h

pub tag-here-outside : (es : List Entry) (x : Name) (i : ℕ) → last_place (is_tagged x) es ≡ Some i → is_before i (last_place is_opening es) ≡ true → tag_meaning_here (scopes_of es) x ≡ None
tag-here-outside es x i h b = innermost-outside (λ g. tag_meaning_here g x) (is_tagged x) tag_named (tag-here-step x) refl opening-untagged es i h b

pub tag-here-some : (es : List Entry) (x : Name) (i : ℕ) (d : Entry) → last_place (is_tagged x) es ≡ Some i → is_before i (last_place is_opening es) ≡ false → tag_meaning_here (scopes_of es) x ≡ tag_named (get_or es i d)
tag-here-some es x i d h b = innermost-some (λ g. tag_meaning_here g x) (is_tagged x) tag_named (tag-here-step x) refl opening-untagged es i d h b
