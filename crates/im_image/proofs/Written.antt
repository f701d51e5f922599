-- A text that is written part by part.
use Rattle.std.proofs.Common.{◌≡◌, ℕ, zero, suc, ◌+◌, ◌^◌, ◌<◌, ◌≤◌, List, [], ◌∷◌, ◌++◌, length, get_or, sym, ap, ◌∙◌, append_assoc, arith}
use Rattle.std.specs.List.{flat_map}
use Rattle.im_image.specs.Contents.{ImageValue, ObjectValue, AreObjects}
use Rattle.im_image.specs.Text.{words_text, run_text, object_text, image_text, header_words, form_words, version_number, magic}
use Rattle.im_image.proofs.Taken.{header_parts}
use Rattle.im_image.proofs.Again.{runs_fit}

three : (a b c d h n r : List ℕ) → b ≡ a ++ h → c ≡ b ++ n → d ≡ c ++ r → d ≡ a ++ (h ++ (n ++ r))
three a b c d h n r p q s = s ∙ ap (λ (x : List ℕ). x ++ r) (q ∙ ap (λ (x : List ℕ). x ++ n) p) ∙ append_assoc (a ++ h) n r ∙ append_assoc a h (n ++ r)

pub object_put : (object : ObjectValue) (a b c d : List ℕ) (at size name runs : ℕ) → at ≡ object.at → size ≡ object.size → name ≡ length object.name → runs ≡ length object.runs
    → b ≡ a ++ words_text (at ∷ size ∷ name ∷ runs ∷ []) → c ≡ b ++ object.name → d ≡ c ++ flat_map run_text object.runs → d ≡ a ++ object_text object
unfolding object_text
object_put object a b c d at size name runs e0 e1 e2 e3 p q s =
    let same : at ∷ size ∷ name ∷ runs ∷ [] ≡ object.at ∷ object.size ∷ length object.name ∷ length object.runs ∷ [] = cc in
    three a b c d (words_text (object.at ∷ object.size ∷ length object.name ∷ length object.runs ∷ [])) object.name (flat_map run_text object.runs) (p ∙ ap (λ (h : List ℕ). a ++ words_text h) same) q s

pub record ObjectFits (object : ObjectValue) : Type 0 where
  pub name : length object.name < 2 ^ 32
  pub runs : length object.runs < 2 ^ 32

pub object_fits : (statics least : ℕ) (objects : List ObjectValue) (i : ℕ) (object : ObjectValue) → statics ≤ 1048576 → AreObjects statics least objects → i < length objects → object ≡ get_or objects i object → ObjectFits object
object_fits statics least [] i object few are lt at = absurd (omega arith)
object_fits statics least (first ∷ objects) zero object few are lt at =
    let e : first ≡ object = sym at in
    record { name = rw (← e) are.0.name_length; runs = rw (← e) (runs_fit statics least first few are.0) }
object_fits statics least (first ∷ objects) (suc i) object few are lt at = object_fits statics (first.at + first.size + 1) objects i object few are.1 (omega arith) at

-- the header is written in two parts
pub header_put : (image : ImageValue) (a b c : List ℕ) (header : List ℕ) → header ≡ magic ∷ version_number image.version ∷ length image.words ∷ length image.statics ∷ image.stack ∷ image.out_cap ∷ image.entry ∷ length image.objects ∷ []
    → a ≡ [] → b ≡ a ++ words_text header → c ≡ b ++ words_text (form_words image.version image.form) → c ≡ words_text (header_words image)
header_put image a b c header same empty p q =
    let formed = words_text (form_words image.version image.form) in
    q ∙ ap (λ (x : List ℕ). x ++ formed) (p ∙ ap (λ (x : List ℕ). x ++ words_text header) empty ∙ ap words_text same)
    ∙ header_parts image.version image.form (length image.words) (length image.statics) image.stack image.out_cap image.entry (length image.objects)

pub image_put : (image : ImageValue) (b c d e : List ℕ) → b ≡ words_text (header_words image) → c ≡ b ++ words_text image.words → d ≡ c ++ image.statics → e ≡ d ++ flat_map object_text image.objects → e ≡ image_text image
unfolding image_text
image_put image b c d e p q r s =
    three b c d e (words_text image.words) image.statics (flat_map object_text image.objects) q r s
    ∙ ap (λ (x : List ℕ). x ++ (words_text image.words ++ (image.statics ++ flat_map object_text image.objects))) p
