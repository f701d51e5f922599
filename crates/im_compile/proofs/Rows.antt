-- Rows that grow by one for each function: layouts, and frames by their names.
use Rattle.std.proofs.Common.{◌≡◌, ◌≤◌, ◌<◌, ℕ, zero, suc, List, [], ◌∷◌, ◌++◌, length, map, get_or, Vec, Global, Some, refl, sym, ap, ◌∙◌, subst, arith}
use Rattle.std.specs.Prelude.{slice_get}
use Rattle.std.proofs.lemmas.Option.{slice_get_read}
use Rattle.im_typed.specs.declared.frames.Frame.{Frame}
use Rattle.im_block.specs.declared.unit.Function.{Function}
use Rattle.im_frame.specs.declared.layout.Layout.{Layout}
use Rattle.im_frame.specs.declared.fault.FrameFault.{FrameFault}
use Rattle.im_frame.specs.declared.fault.FrameFault.TheVariants.{Limit, OutOfMemory}
use Rattle.im_frame.specs.Layout.{IsLayout, IsFault, bytes_of}
use Rattle.im_select_addresses.specs.Addresses.{AreLayouts}
use Rattle.im_compile.specs.Made.{AreNamedFrames}
use Rattle.im_compile.specs.Built as built
use Rattle.im_compile.specs.Faults.{IsFrameFault}
use Rattle.im_compile.specs.Ready.{of_frame}

-- the element of which a loop's index is that of the next one of a row
pub next_at : {X : Type 0} (xs : List X) (number count : ℕ) (x : X) → count ≡ number → number < length xs → x ≡ get_or xs number x → slice_get xs count ≡ Some x
next_at xs number count x e less is = subst (λ n. slice_get xs n ≡ Some x) (sym e) (slice_get_read xs (length xs) number x refl less is)

-- layouts of the first functions
abbrev pub Laid : List Function → List Layout → Type 0
Laid fs [] = Unit {0}
Laid [] (l ∷ ls) = ⊥
Laid (f ∷ fs) (l ∷ ls) = IsLayout f l × Laid fs ls

pub laid_more : (fs : List Function) (ls : List Layout) (f : Function) (l : Layout) → Laid fs ls → slice_get fs (length ls) ≡ Some f → IsLayout f l → Laid fs (ls ++ l ∷ [])
laid_more [] [] f l h e is = cc
laid_more [] (m ∷ ls) f l h e is = absurd h
laid_more (g ∷ fs) [] f l h e is = let same : f ≡ g = cc in (subst (λ k. IsLayout k l) same is, tt)
laid_more (g ∷ fs) (m ∷ ls) f l h e is = (h.0, laid_more fs ls f l h.1 e is)

laid_at : (fs : List Function) (ls : List Layout) → Laid fs ls → (i : ℕ) (f : Function) (l : Layout) → slice_get fs i ≡ Some f → slice_get ls i ≡ Some l → IsLayout f l
laid_at fs [] h i f l a b = cc
laid_at [] (m ∷ ls) h i f l a b = absurd h
laid_at (g ∷ fs) (m ∷ ls) h zero f l a b = let one : g ≡ f = cc in let two : m ≡ l = cc in subst (λ k. IsLayout k l) one (subst (λ k. IsLayout g k) two h.0)
laid_at (g ∷ fs) (m ∷ ls) h (suc i) f l a b = laid_at fs ls h.1 i f l a b

pub all_laid : (fs : List Function) (ls : List Layout) → Laid fs ls → length ls ≡ length fs → AreLayouts fs ls
all_laid fs ls h count = record { count = count; each = laid_at fs ls h }

-- their frames aren't too large
laid_small : (fs : List Function) (ls : List Layout) → Laid fs ls → (k : ℕ) (g : Function) → k < length ls → slice_get fs k ≡ Some g → bytes_of g ≤ 65536
laid_small fs [] h k g less e = absurd (omega (arith, less))
laid_small [] (m ∷ ls) h k g less e = absurd h
laid_small (f ∷ fs) (m ∷ ls) h zero g less e =
    let one : f ≡ g = cc in
    let bytes : m.frame ≡ bytes_of f = h.0.bytes in
    let small = h.0.small in
    subst (λ q. bytes_of q ≤ 65536) one (omega (arith, bytes, small))
laid_small (f ∷ fs) (m ∷ ls) h (suc k) g less e = laid_small fs ls h.1 k g (omega (arith, less)) e

pub frame_fault : (fs : List Function) (ls : List Layout) (f : Function) (fault : FrameFault) → Laid fs ls → slice_get fs (length ls) ≡ Some f → IsFault f fault → IsFrameFault fs (of_frame (length ls) fault)
frame_fault fs ls f (Limit bytes) h e is = record { f = f; is_function = e; bytes_are = is.0; large = is.1; first = λ k g less a. laid_small fs ls h k g less a }
frame_fault fs ls f OutOfMemory h e is = tt

-- frames of the first functions
abbrev pub Framed : List (Vec ℕ Global) → List Layout → List Frame → Type 0
Framed fs ls [] = Unit {0}
Framed [] ls (x ∷ xs) = ⊥
Framed (f ∷ fs) [] (x ∷ xs) = ⊥
Framed (f ∷ fs) (l ∷ ls) (x ∷ xs) = (x.name.items ≡ f.items) × (x.size ≡ l.frame) × Framed fs ls xs

pub framed_more : (fs : List (Vec ℕ Global)) (ls : List Layout) (xs : List Frame) (f : Vec ℕ Global) (l : Layout) (x : Frame) → Framed fs ls xs →
    slice_get fs (length xs) ≡ Some f → slice_get ls (length xs) ≡ Some l → x.name.items ≡ f.items → x.size ≡ l.frame → Framed fs ls (xs ++ x ∷ [])
framed_more [] ls [] f l x h a b name size = cc
framed_more [] ls (y ∷ xs) f l x h a b name size = absurd h
framed_more (g ∷ fs) [] [] f l x h a b name size = cc
framed_more (g ∷ fs) [] (y ∷ xs) f l x h a b name size = absurd h
framed_more (g ∷ fs) (m ∷ ls) [] f l x h a b name size =
    let one : f ≡ g = cc in
    let two : l ≡ m = cc in
    (subst (λ (k : Vec ℕ Global). x.name.items ≡ k.items) one name, subst (λ (k : Layout). x.size ≡ k.frame) two size, tt)
framed_more (g ∷ fs) (m ∷ ls) (y ∷ xs) f l x h a b name size = (h.0, h.1, framed_more fs ls xs f l x h.2 a b name size)

framed_names : (fs : List (Vec ℕ Global)) (ls : List Layout) (xs : List Frame) → Framed fs ls xs → length xs ≡ length fs → map (λ (x : Frame). x.name.items) xs ≡ map (λ (f : Vec ℕ Global). f.items) fs
framed_names [] ls [] h count = refl
framed_names (f ∷ fs) ls [] h count = cc
framed_names [] ls (x ∷ xs) h count = absurd h
framed_names (f ∷ fs) [] (x ∷ xs) h count = absurd h
framed_names (f ∷ fs) (l ∷ ls) (x ∷ xs) h count =
    ap (λ n. n ∷ map (λ (x : Frame). x.name.items) xs) h.0 ∙ ap (λ ns. f.items ∷ ns) (framed_names fs ls xs h.2 (omega (arith, count)))

framed_sizes : (fs : List (Vec ℕ Global)) (ls : List Layout) (xs : List Frame) → Framed fs ls xs → length xs ≡ length ls → map (λ (x : Frame). x.size) xs ≡ built.bytes_of ls
framed_sizes fs [] [] h count = refl
framed_sizes fs (l ∷ ls) [] h count = cc
framed_sizes [] ls (x ∷ xs) h count = absurd h
framed_sizes (f ∷ fs) [] (x ∷ xs) h count = absurd h
framed_sizes (f ∷ fs) (l ∷ ls) (x ∷ xs) h count =
    ap (λ n. n ∷ map (λ (x : Frame). x.size) xs) h.1 ∙ ap (λ ns. l.frame ∷ ns) (framed_sizes fs ls xs h.2 (omega (arith, count)))

pub all_framed : (fs : List (Vec ℕ Global)) (ls : List Layout) (xs : List Frame) → Framed fs ls xs → length xs ≡ length fs → length ls ≡ length fs → AreNamedFrames fs ls xs
all_framed fs ls xs h count same = record { named = framed_names fs ls xs h count; sizes = framed_sizes fs ls xs h (count ∙ sym same) }
