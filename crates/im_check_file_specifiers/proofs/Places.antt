-- Places at file scope behind parts.
use Rattle.std.proofs.Common.{◌≡◌, ℕ, ◌+◌, List, [], ◌∷◌, ◌++◌, reverse, Some, Vec, Global, Result, Ok, Err, OnOk, ap, ◌∙◌, arith}
use Rattle.std.proofs.lemmas.List.{append-nil, reverse-append}
use Rattle.im_check_expressions.specs.im_word.Words.{Name}
use Rattle.im_rules.specs.Scopes.{Scopes, tag_meaning}
use Rattle.im_rules.specs.Declared.{declared_tag}
use Rattle.im_rules.specs.FileScope.{FilePlace, past_strings, with_list_begun}
use Rattle.im_check_scopes.specs.Shape.{scopes_of}
use Rattle.im_check_scopes.specs.declared.entity.Entry.{Entry}
use Rattle.im_check_place.specs.declared.place.Place.{Place}
use Rattle.im_check_place.specs.Contexts.{context_of, behind_strings}
use Rattle.im_check_file_place.specs.declared.file.File.{File}
use Rattle.im_check_file_place.specs.Files.{file_place_of, bytes_of}

-- behind what holds these string literals
pub passed : (f : File) (p : Place) (texts : Vec (Vec ℕ Global) Global) (ss : List Name)
    → p ≡ behind_strings ss f.place
    → bytes_of texts.items ≡ bytes_of f.texts.items ++ ss
    → file_place_of (record f { place = p; texts = texts }) ≡ past_strings ss (file_place_of f)
passed f p texts ss e h =
    ap (λ (q : Place). let z : FilePlace = record { context = context_of q; begun = reverse f.begun; whole = reverse f.whole; strings = bytes_of texts.items } in z) e
    ∙ ap (λ zs. let z : FilePlace = record (past_strings ss (file_place_of f)) { strings = zs } in z) h

abbrev pub with_scopes : Scopes → FilePlace → FilePlace
with_scopes g f = record f { context = record f.context { scopes = g } }

pub rescoped : (f : File) (es : List Entry) (g : Scopes) → scopes_of es ≡ g → file_place_of (record f { place = record f.place { scope = es } }) ≡ with_scopes g (file_place_of f)
rescoped f es g e = ap (λ z. with_scopes z (file_place_of f)) e

pub past_none : (f : FilePlace) → past_strings [] f ≡ f
past_none f =
    let e : f.context.next_string + 0 ≡ f.context.next_string = omega arith in
    ap (λ n. let z : FilePlace = record f { context = record f.context { next_string = n }; strings = f.strings ++ [] } in z) e
    ∙ ap (λ zs. let z : FilePlace = record f { strings = zs } in z) (append-nil f.strings)

-- where a member list begins
begun_some : (f : File) (es : List Entry) (names : List Name) (at : ℕ) (x : Name)
    → scopes_of es ≡ declared_tag (context_of f.place) at x (tag_meaning (scopes_of f.place.scope) x)
    → names ≡ f.begun ++ x ∷ []
    → file_place_of (record f { place = record f.place { scope = es }; begun = names }) ≡ with_list_begun at (Some x) (file_place_of f)
begun_some f es names at x e n =
    ap (λ g. let z : FilePlace = record (with_scopes g (file_place_of f)) { begun = reverse names } in z) e
    ∙ ap (λ ys. let z : FilePlace = record (with_list_begun at (Some x) (file_place_of f)) { begun = ys } in z) (ap reverse n ∙ reverse-append f.begun (x ∷ []))

pub begun_by : (f : File) (es : List Entry) (names : List Name) (at : ℕ) (x : Name) {T E : Type 0} (result : Result T E)
    → scopes_of es ≡ declared_tag (context_of f.place) at x (tag_meaning (scopes_of f.place.scope) x)
    → OnOk result (names ≡ f.begun ++ x ∷ [])
    → OnOk result (file_place_of (record f { place = record f.place { scope = es }; begun = names }) ≡ with_list_begun at (Some x) (file_place_of f))
begun_by f es names at x (Ok y) e n = begun_some f es names at x e n
begun_by f es names at x (Err y) e n = tt
