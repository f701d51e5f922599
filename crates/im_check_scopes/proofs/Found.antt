-- What is found by the places that are kept.
use Rattle.std.proofs.Common.{◌≡◌, ℕ, ◌<◌, Bool, true, false, List, map, length, get_or, is_none, is_some, not, Option, Some, None, refl, sym, ap, subst, ◌∙◌, arith}
use Rattle.std.proofs.lemmas.List.{get_or-map, length-map}
use Rattle.im_check_name_map.specs.im_word.Words.{Name}
use Rattle.im_check_name_map.specs.im_rules.Scopes.{meaning, meaning_here, tag_meaning, tag_meaning_here, at_file_scope}
use Rattle.im_check_name_map.specs.Numbers.{number_of}
use Rattle.im_check_scopes.specs.declared.entity.Entry.{Entry}
use Rattle.im_check_scopes.specs.declared.scope.Kept.{Kept}
use Rattle.im_check_scopes.specs.Shape.{scopes_of}
use Rattle.im_check_scopes.specs.Search.{is_opening, is_named, is_tagged, last_place, entity_named, tag_named, is_before}
use Rattle.im_check_scopes.specs.Indexed.{entries_of, IsIndexed}
use Rattle.im_check_scopes.proofs.Search.{last-within}
use Rattle.im_check_scopes.proofs.Meaning.{meaning-none, meaning-some, tag-none, tag-some, file-told, here-none, here-outside, here-some, tag-here-none, tag-here-outside, tag-here-some}

abbrev entry_in : Kept → Entry
entry_in k = k.entry

within-kept : (test : Entry → Bool) (ks : List Kept) (i : ℕ) → last_place test (entries_of ks) ≡ Some i → i < length ks
within-kept test ks i h = subst (λ n. i < n) (length-map ks entry_in) (last-within test (entries_of ks) i h)

entry-at : (ks : List Kept) (i : ℕ) (k : Kept) → i < length ks → k ≡ get_or ks i k → get_or (entries_of ks) i k.entry ≡ k.entry
entry-at ks i k within is = get_or-map entry_in ks i k k.entry within ∙ ap entry_in (sym is)

module _ (ks : List Kept) (names tags : List (Name × Option ℕ)) (inner : Option ℕ) (h : IsIndexed ks names tags inner) (x : Name) where
  pub name-within : (i : ℕ) → number_of names x ≡ Some i → i < length ks
  name-within i e = within-kept (is_named x) ks i (sym (h.names x) ∙ e)

  pub tag-within : (i : ℕ) → number_of tags x ≡ Some i → i < length ks
  tag-within i e = within-kept (is_tagged x) ks i (sym (h.tags x) ∙ e)

  pub name-found : (i : ℕ) (k : Kept) → number_of names x ≡ Some i → k ≡ get_or ks i k → meaning (scopes_of (entries_of ks)) x ≡ entity_named k.entry
  name-found i k e is = meaning-some (entries_of ks) x i k.entry (sym (h.names x) ∙ e) ∙ ap entity_named (entry-at ks i k (name-within i e) is)

  pub name-absent : number_of names x ≡ None → meaning (scopes_of (entries_of ks)) x ≡ None
  name-absent e = meaning-none (entries_of ks) x (sym (h.names x) ∙ e)

  pub tag-found : (i : ℕ) (k : Kept) → number_of tags x ≡ Some i → k ≡ get_or ks i k → tag_meaning (scopes_of (entries_of ks)) x ≡ tag_named k.entry
  tag-found i k e is = tag-some (entries_of ks) x i k.entry (sym (h.tags x) ∙ e) ∙ ap tag_named (entry-at ks i k (tag-within i e) is)

  pub tag-absent : number_of tags x ≡ None → tag_meaning (scopes_of (entries_of ks)) x ≡ None
  tag-absent e = tag-none (entries_of ks) x (sym (h.tags x) ∙ e)

  pub here-found : (i : ℕ) (k : Kept) → number_of names x ≡ Some i → is_before i inner ≡ false → k ≡ get_or ks i k → meaning_here (scopes_of (entries_of ks)) x ≡ entity_named k.entry
  here-found i k e inside is =
      here-some (entries_of ks) x i k.entry (sym (h.names x) ∙ e) (ap (is_before i) (sym h.innermost) ∙ inside) ∙ ap entity_named (entry-at ks i k (name-within i e) is)

  pub here-hidden : (i : ℕ) → number_of names x ≡ Some i → is_before i inner ≡ true → meaning_here (scopes_of (entries_of ks)) x ≡ None
  here-hidden i e outside = here-outside (entries_of ks) x i (sym (h.names x) ∙ e) (ap (is_before i) (sym h.innermost) ∙ outside)

  pub here-absent : number_of names x ≡ None → meaning_here (scopes_of (entries_of ks)) x ≡ None
  here-absent e = here-none (entries_of ks) x (sym (h.names x) ∙ e)

  pub tag-here-found : (i : ℕ) (k : Kept) → number_of tags x ≡ Some i → is_before i inner ≡ false → k ≡ get_or ks i k → tag_meaning_here (scopes_of (entries_of ks)) x ≡ tag_named k.entry
  tag-here-found i k e inside is =
      tag-here-some (entries_of ks) x i k.entry (sym (h.tags x) ∙ e) (ap (is_before i) (sym h.innermost) ∙ inside) ∙ ap tag_named (entry-at ks i k (tag-within i e) is)

  pub tag-here-hidden : (i : ℕ) → number_of tags x ≡ Some i → is_before i inner ≡ true → tag_meaning_here (scopes_of (entries_of ks)) x ≡ None
  tag-here-hidden i e outside = tag-here-outside (entries_of ks) x i (sym (h.tags x) ∙ e) (ap (is_before i) (sym h.innermost) ∙ outside)

  pub tag-here-absent : number_of tags x ≡ None → tag_meaning_here (scopes_of (entries_of ks)) x ≡ None
  tag-here-absent e = tag-here-none (entries_of ks) x (sym (h.tags x) ∙ e)

pub at-file : (ks : List Kept) (names tags : List (Name × Option ℕ)) (inner : Option ℕ) → IsIndexed ks names tags inner → is_none inner ≡ at_file_scope (scopes_of (entries_of ks))
at-file ks names tags inner h = ap is_none h.innermost ∙ file-told (entries_of ks)

pub none-flag : (o : Option ℕ) (b : Bool) → is_some o ≡ not b → b ≡ is_none o
none-flag None true h = refl
none-flag None false h = absurd cc
none-flag (Some i) true h = absurd cc
none-flag (Some i) false h = refl
