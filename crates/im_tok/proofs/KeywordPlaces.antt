-- The place of each keyword in the list of all.
use Rattle.std.proofs.Common.{◌≡◌, ℕ, ◌<◌, List, [], ◌∷◌, false, eqb, get_or, refl, subst, sym, ◌∙◌, ap, lit<, ◌≢◌}
use Rattle.std.proofs.Common.{Bool as Truth}
use Rattle.std.specs.Cmp.Lexicographic.{pointwise}
use Rattle.std.proofs.lemmas.Bool.{false≢true}
use Rattle.std.proofs.lemmas.Bool.Decides.{Decides-eqb}
use Rattle.std.proofs.lemmas.Slice.Eq.{slice_eq-Decides}
use Rattle.im_tok.specs.Keywords.{keyword_text}
use Rattle.im_tok.specs.declared.keyword.Keyword.{Keyword}
use Rattle.im_tok.specs.declared.keyword.Keyword.TheVariants.{Auto, Break, Case, Char, Const, Continue, Default, Do, Double, Else, Enum, Extern, Float, For, Goto, If, Inline, Int, Long, Register, Restrict, Return, Short, Signed, Sizeof, Static, Struct, Switch, Typedef, Union, Unsigned, Void, Volatile, While, Alignas, Alignof, Atomic, Bool, Complex, Generic, Imaginary, Noreturn, StaticAssert, ThreadLocal}

abbrev pub all : List Keyword
all = Auto ∷ Break ∷ Case ∷ Char ∷ Const ∷ Continue ∷ Default ∷ Do ∷ Double ∷ Else ∷ Enum ∷ Extern ∷ Float ∷ For ∷ Goto ∷ If ∷ Inline ∷ Int ∷ Long ∷ Register ∷ Restrict ∷ Return ∷ Short ∷ Signed ∷ Sizeof ∷ Static ∷ Struct ∷ Switch ∷ Typedef ∷ Union ∷ Unsigned ∷ Void ∷ Volatile ∷ While ∷ Alignas ∷ Alignof ∷ Atomic ∷ Bool ∷ Complex ∷ Generic ∷ Imaginary ∷ Noreturn ∷ StaticAssert ∷ ThreadLocal ∷ []

abbrev pub place : Keyword → ℕ
place Auto = 0
place Break = 1
place Case = 2
place Char = 3
place Const = 4
place Continue = 5
place Default = 6
place Do = 7
place Double = 8
place Else = 9
place Enum = 10
place Extern = 11
place Float = 12
place For = 13
place Goto = 14
place If = 15
place Inline = 16
place Int = 17
place Long = 18
place Register = 19
place Restrict = 20
place Return = 21
place Short = 22
place Signed = 23
place Sizeof = 24
place Static = 25
place Struct = 26
place Switch = 27
place Typedef = 28
place Union = 29
place Unsigned = 30
place Void = 31
place Volatile = 32
place While = 33
place Alignas = 34
place Alignof = 35
place Atomic = 36
place Bool = 37
place Complex = 38
place Generic = 39
place Imaginary = 40
place Noreturn = 41
place StaticAssert = 42
place ThreadLocal = 43

pub place-lt : (x : Keyword) → place x < 44
place-lt Auto = lit< tt
place-lt Break = lit< tt
place-lt Case = lit< tt
place-lt Char = lit< tt
place-lt Const = lit< tt
place-lt Continue = lit< tt
place-lt Default = lit< tt
place-lt Do = lit< tt
place-lt Double = lit< tt
place-lt Else = lit< tt
place-lt Enum = lit< tt
place-lt Extern = lit< tt
place-lt Float = lit< tt
place-lt For = lit< tt
place-lt Goto = lit< tt
place-lt If = lit< tt
place-lt Inline = lit< tt
place-lt Int = lit< tt
place-lt Long = lit< tt
place-lt Register = lit< tt
place-lt Restrict = lit< tt
place-lt Return = lit< tt
place-lt Short = lit< tt
place-lt Signed = lit< tt
place-lt Sizeof = lit< tt
place-lt Static = lit< tt
place-lt Struct = lit< tt
place-lt Switch = lit< tt
place-lt Typedef = lit< tt
place-lt Union = lit< tt
place-lt Unsigned = lit< tt
place-lt Void = lit< tt
place-lt Volatile = lit< tt
place-lt While = lit< tt
place-lt Alignas = lit< tt
place-lt Alignof = lit< tt
place-lt Atomic = lit< tt
place-lt Bool = lit< tt
place-lt Complex = lit< tt
place-lt Generic = lit< tt
place-lt Imaginary = lit< tt
place-lt Noreturn = lit< tt
place-lt StaticAssert = lit< tt
place-lt ThreadLocal = lit< tt

get_or-place : (x d : Keyword) → get_or all (place x) d ≡ x
get_or-place Auto d = refl
get_or-place Break d = refl
get_or-place Case d = refl
get_or-place Char d = refl
get_or-place Const d = refl
get_or-place Continue d = refl
get_or-place Default d = refl
get_or-place Do d = refl
get_or-place Double d = refl
get_or-place Else d = refl
get_or-place Enum d = refl
get_or-place Extern d = refl
get_or-place Float d = refl
get_or-place For d = refl
get_or-place Goto d = refl
get_or-place If d = refl
get_or-place Inline d = refl
get_or-place Int d = refl
get_or-place Long d = refl
get_or-place Register d = refl
get_or-place Restrict d = refl
get_or-place Return d = refl
get_or-place Short d = refl
get_or-place Signed d = refl
get_or-place Sizeof d = refl
get_or-place Static d = refl
get_or-place Struct d = refl
get_or-place Switch d = refl
get_or-place Typedef d = refl
get_or-place Union d = refl
get_or-place Unsigned d = refl
get_or-place Void d = refl
get_or-place Volatile d = refl
get_or-place While d = refl
get_or-place Alignas d = refl
get_or-place Alignof d = refl
get_or-place Atomic d = refl
get_or-place Bool d = refl
get_or-place Complex d = refl
get_or-place Generic d = refl
get_or-place Imaginary d = refl
get_or-place Noreturn d = refl
get_or-place StaticAssert d = refl
get_or-place ThreadLocal d = refl

-- what was compared with the spelling at this one's place isn't spelled like it
pub differs_at_place : (x d : Keyword) (i : ℕ) (text spelling : List ℕ) (same : Truth) → place x ≡ i → spelling ≡ keyword_text (get_or all i d) → same ≡ pointwise eqb text spelling → same ≡ false → text ≢ keyword_text x
differs_at_place x d i text spelling same at is tested differs equal =
    let P : ℕ → Type 0 = λ n. get_or all n d ≡ x in
    let found = subst P at (get_or-place x d) in
    absurd (false≢true (sym differs ∙ (slice_eq-Decides Decides-eqb _ _ _ tested).1 (equal ∙ sym (ap keyword_text found) ∙ sym is)))
