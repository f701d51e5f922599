-- Names of functions as text.
use Rattle.std.proofs.Common.{◌≡◌, ◌<◌, ℕ, ◌+◌, List, [], ◌∷◌, ◌++◌, take, length, get_or, Vec, Global, refl, sym, ap, ◌∙◌, append-nil}
use Rattle.std.specs.Prelude.{encode_utf8_all}
use Rattle.std.proofs.lemmas.List.{take_more, length-map}
use Rattle.std.proofs.lemmas.Str.{encodes-append}
use Rattle.im_typed.specs.declared.program.Func.{Func}
use Rattle.im_typed.specs.declared.frames.Frame.{Frame}
use Rattle.im_frame.specs.declared.layout.Layout.{Layout}
use Rattle.im_compile.specs.Built.{AreFrames, function_names}
use Rattle.im_compile.specs.Made.{AreNamesOf, AreNamedFrames, texts_of_names}
use lib.Utf8.{encode}

-- a character more
pub char_on : (items : List ℕ) (i x : ℕ) (old new : List ℕ) → i < length items → x ≡ get_or items i 0 → old ≡ encode_utf8_all (take i items) → new ≡ old ++ encode x → new ≡ encode_utf8_all (take (i + 1) items)
char_on items i x old new below e h n =
    n ∙ ap (λ z. z ++ encode x) h ∙ ap (λ z. encode_utf8_all (take i items) ++ z) (ap encode e ∙ sym (append-nil (encode (get_or items i 0))))
    ∙ sym (encodes-append (take i items) (get_or items i 0 ∷ [])) ∙ ap encode_utf8_all (sym (take_more items i 0 below))

-- ---- names of a program's functions

pub texts_are : (funcs : List Func) (names : List (Vec ℕ Global)) → AreNamesOf funcs names → texts_of_names names ≡ function_names funcs
texts_are [] [] e = refl
texts_are [] (n ∷ ns) e = absurd cc
texts_are (f ∷ fs) [] e = absurd cc
texts_are (f ∷ fs) (n ∷ ns) e =
    let one : n.items ≡ f.name.items = cc in
    let rest : AreNamesOf fs ns = cc in
    ap (λ z. encode_utf8_all z ∷ texts_of_names ns) one ∙ ap (λ z. encode_utf8_all f.name.items ∷ z) (texts_are fs ns rest)

pub names_count : (funcs : List Func) (names : List (Vec ℕ Global)) → AreNamesOf funcs names → length names ≡ length funcs
names_count funcs names e =
    sym (length-map {A = Vec ℕ Global} names (λ (name : Vec ℕ Global). name.items)) ∙ ap (λ (l : List (List ℕ)). length l) e ∙ length-map {A = Func} funcs (λ (f : Func). f.name.items)

pub frames_are : (funcs : List Func) (names : List (Vec ℕ Global)) (layouts : List Layout) (frames : List Frame) → AreNamesOf funcs names → AreNamedFrames names layouts frames → AreFrames funcs layouts frames
frames_are funcs names layouts frames e f = record { names = f.named ∙ e; sizes = f.sizes }
