-- Texts that are looked for by a name.
use Rattle.std.proofs.Common.{◌≡◌, ◌≢◌, ℕ, ◌+◌, ◌<◌, ◌≤◌, ◌==◌, Bool, true, false, List, [], ◌∷◌, Option, Some, None, length, get_or, drop, string_bytes, refl, sym, ap, ◌∙◌, if◌then◌else◌}
use Rattle.std.specs.Prelude.{bytes_eq}
use Rattle.std.proofs.lemmas.List.{drop_more, drop_all}
use Rattle.im_trial.specs.declared.texts.Text.{Text}
use Rattle.im_trial.specs.Escapes.{unescaped}
use Rattle.im_trial.specs.Texts.{Named, named, all_named, text_named, written_in}
use Rattle.im_trial.proofs.Tests.{other, same_of}

by_name : (b kind : Bool) (x y : Option (List ℕ)) → b ≡ kind → (if b then x else y) ≡ (if kind then x else y)
by_name b kind x y e = ap (λ b. if b then x else y) e

first_of : (name : List ℕ) (texts : List Text) (i : ℕ) (x : Text) → i < length texts → x ≡ get_or texts i x → text_named name (all_named (drop i texts)) ≡ text_named name (named x ∷ all_named (drop (i + 1) texts))
first_of name texts i x lt at =
    ap (λ (ts : List Text). text_named name (all_named ts)) (drop_more texts i x lt)
    ∙ ap (λ (t : Text). text_named name (named t ∷ all_named (drop (i + 1) texts))) (sym at)

pub named_here : (name : List ℕ) (texts : List Text) (i : ℕ) (x : Text) → i < length texts → x ≡ get_or texts i x → bytes_eq (string_bytes x.name) name ≡ true → text_named name (all_named (drop i texts)) ≡ Some x.bytes.items
named_here name texts i x lt at e =
    first_of name texts i x lt at ∙ by_name (bytes_eq (string_bytes x.name) name) true (Some x.bytes.items) (text_named name (all_named (drop (i + 1) texts))) e

pub named_later : (name : List ℕ) (texts : List Text) (i : ℕ) (x : Text) → i < length texts → x ≡ get_or texts i x → bytes_eq (string_bytes x.name) name ≡ false → text_named name (all_named (drop i texts)) ≡ text_named name (all_named (drop (i + 1) texts))
named_later name texts i x lt at e =
    first_of name texts i x lt at ∙ by_name (bytes_eq (string_bytes x.name) name) false (Some x.bytes.items) (text_named name (all_named (drop (i + 1) texts))) e

pub named_nowhere : (name : List ℕ) (texts : List Text) (i : ℕ) → length texts ≤ i → text_named name (all_named (drop i texts)) ≡ None
named_nowhere name texts i le = ap (λ (ts : List Text). text_named name (all_named ts)) (drop_all i texts le)

-- a word that names no text is what is written in it
pub written_plain : (texts : List Named) (word : List ℕ) → ((rest : List ℕ) → word ≢ 64 ∷ rest) → written_in texts word ≡ unescaped word
written_plain texts [] h = refl
written_plain texts (byte ∷ bytes) h = other (byte == 64) (text_named bytes texts) (unescaped (byte ∷ bytes)) (λ e. h bytes (ap (λ b. b ∷ bytes) (same_of byte 64 e)))
