-- The words of linked parts that have no targets, and what stands before all else.
use Rattle.std.proofs.Common.{◌≡◌, ◌<◌, ◌≤◌, inl, inr, ℕ, zero, suc, ◌+◌, ◌^◌, List, [], ◌∷◌, ◌++◌, Some, None, map, length, drop, refl, sym, ap, ◌∙◌, subst, arith}
use Rattle.std.specs.Prelude.{slice_get, slice_index}
use Rattle.std.proofs.lemmas.List.{length-map}
use Rattle.std.proofs.lemmas.Option.{slice_get_cases, get_or_from_slice_get}
use Rattle.im_rv.specs.declared.code.Part.{Part}
use Rattle.im_rv.specs.declared.code.Code.{Code as Linked}
use Rattle.im_rv.specs.Decode.{Line as Instruction, decode}
use Rattle.im_rv.specs.Encode.{encoded}
use Rattle.im_rv.specs.Effects.{decoded_word}
use Rattle.im_rv.specs.Lines.{CodeLine, code_line, code_lines, line_of, plain_line}
use Rattle.im_rv.specs.Code.{instruction_at}
use Rattle.im_rv.proofs.Decoding.{encoded-decoded}
use Rattle.im_link.specs.Parts.{first_of, last_of, part_size}
use Rattle.im_link.specs.Code.{IsLinkable, IsLinked}
use Rattle.im_link.proofs.Joining.{first_more}
use Rattle.im_link.proofs.Laying.{laid_law}
use Rattle.im_link_laws.specs.Program.{HasCode}
use Rattle.im_link_laws.proofs.Standing.{behind}
use Rattle.im_ckpt.specs.Recovery.{recovery, recovery_words}
use Rattle.im_ckpt.specs.Checkpoint.{entries, entry_code, ladder, checkpoint_code, checkpoint_words}
use Rattle.im_pack_laws.specs.Laws.{LoadableLaw, PackedLaw}

pub loadable : LoadableLaw
loadable parts code linked =
    let size = linked.size in
    let fits = linked.fits in
    record { few = omega arith; first = first_of parts (last_of parts); inside = linked.inside; entry = linked.entry }

-- ---- lists by their elements

front : {X : Type 0} (xs ws : List X) → ((k : ℕ) (x : X) → slice_get xs k ≡ Some x → slice_get ws k ≡ Some x) → ws ≡ xs ++ drop (length xs) ws
front [] ws h = refl
front (x ∷ xs) [] h = (let bad : None ≡ Some x = h 0 x refl in absurd cc)
front (x ∷ xs) (w ∷ ws) h =
    let e : Some w ≡ Some x = h 0 x refl in
    let same : w ≡ x = cc in
    ap (λ z. z ∷ ws) same ∙ ap (λ z. x ∷ z) (front xs ws (λ k y g. h (suc k) y g))

get_drop : {X : Type 0} (n k : ℕ) (xs : List X) → slice_get (drop n xs) k ≡ slice_get xs (n + k)
get_drop zero k xs = ap (slice_get xs) (let e : k ≡ 0 + k = omega arith in e)
get_drop (suc n) k [] = refl
get_drop (suc n) k (x ∷ xs) =
    let e : suc (n + k) ≡ suc n + k = omega arith in
    get_drop n k xs ∙ ap (slice_get (x ∷ xs)) e

-- the element of a map
record Of {X Y : Type 0} (f : X → Y) (xs : List X) (k : ℕ) (y : Y) : Type 0 where
  x : X
  there : slice_get xs k ≡ Some x
  is : f x ≡ y

of_map : {X Y : Type 0} (f : X → Y) (xs : List X) (k : ℕ) (y : Y) → slice_get (map f xs) k ≡ Some y → Of f xs k y
of_map f [] k y e = (let bad : None ≡ Some y = e in absurd cc)
of_map f (x ∷ xs) zero y e = (let q : Some (f x) ≡ Some y = e in record { x = x; there = refl; is = cc })
of_map f (x ∷ xs) (suc k) y e = let r = of_map f xs k y e in record { x = r.x; there = r.there; is = r.is }

-- ---- a word is that of the line that stands there

word_is : (words : List ℕ) (i : ℕ) (l : Instruction) → ((k : ℕ) → slice_index words k < 2 ^ 32) → instruction_at words i ≡ Some l → slice_get words i ≡ Some (encoded l)
word_is words i l wide e = elim (slice_get_cases words i).1 [
  | inl c ↦
      (let w : ℕ = c.0 in
      let d : decode w ≡ Some l = ap decoded_word (sym c.2) ∙ e in
      let at : slice_index words i ≡ w = get_or_from_slice_get words i w 0 c.2 in
      let b = wide i in
      let same : encoded l ≡ w = encoded-decoded w l (omega arith) d in
      c.2 ∙ ap (λ z. Some z) (sym same))
  | inr c ↦ (let n : None ≡ Some l = ap decoded_word (sym c.1) ∙ e in absurd cc)
]

-- no line has a target
abbrev AreStill : List CodeLine → Type 0
AreStill [] = Unit {0}
AreStill (x ∷ xs) = (x.target ≡ None) × AreStill xs

still_at : (xs : List CodeLine) (k : ℕ) (x : CodeLine) → AreStill xs → slice_get xs k ≡ Some x → x.target ≡ None
still_at [] k x h e = (let bad : None ≡ Some x = e in absurd cc)
still_at (y ∷ xs) zero x h e = (let same : y ≡ x = cc in subst (λ (z : CodeLine). z.target ≡ None) same h.0)
still_at (y ∷ xs) (suc k) x h e = still_at xs k x h.1 e

still_plain : (ls : List Instruction) → AreStill (map plain_line ls)
still_plain [] = tt
still_plain (l ∷ ls) = (refl, still_plain ls)

module _ (parts : List Part) (code : Linked) (linkable : IsLinkable parts) (linked : IsLinked parts code) (wide : (k : ℕ) → slice_index code.words.items k < 2 ^ 32) where
  part_word : (p : ℕ) (xs : List CodeLine) → HasCode parts p xs → AreStill xs → (k w : ℕ) → slice_get (map (λ (x : CodeLine). encoded x.line) xs) k ≡ Some w
      → slice_get code.words.items (first_of parts p + k) ≡ Some w
  part_word p xs has still k w e =
      let o = of_map (λ (x : CodeLine). encoded x.line) xs k w e in
      let there : slice_get (code_lines has.part.lines.items) k ≡ Some o.x = subst (λ (z : List CodeLine). slice_get z k ≡ Some o.x) (sym has.lines) o.there in
      let b = behind has.part.lines.items k o.x there in
      let none : b.line.target ≡ None = ap (λ (z : CodeLine). z.target) b.is ∙ still_at xs k o.x still o.there in
      let laid = (laid_law parts code linkable linked p k has.part b.line has.is_part b.there).plain none in
      let at = word_is code.words.items (first_of parts p + k) (line_of b.line.instr) wide laid in
      let same : encoded (line_of b.line.instr) ≡ w = ap (λ (z : CodeLine). encoded z.line) b.is ∙ o.is in
      at ∙ ap (λ z. Some z) same

  size_of : (p : ℕ) (xs : List CodeLine) → (has : HasCode parts p xs) → part_size has.part ≡ length xs
  size_of p xs has = sym (length-map has.part.lines.items code_line) ∙ ap length has.lines

  climbs : (a d : ℕ) → a + d ≤ length parts → first_of parts a ≤ first_of parts (a + d)
  climbs a zero h = (let e : a ≡ a + 0 = omega arith in let q : first_of parts a ≡ first_of parts (a + 0) = ap (first_of parts) e in omega arith)
  climbs a (suc d) h = elim (slice_get_cases parts (a + d)).1 [
    | inl c ↦
        (let r = climbs a d (omega arith) in
        let m = first_more parts (a + d) c.0 c.2 in
        let e : a + d + 1 ≡ a + suc d = omega arith in
        let q : first_of parts (a + d + 1) ≡ first_of parts (a + suc d) = ap (first_of parts) e in
        omega arith)
    | inr c ↦ (let low = c.0 in absurd (omega arith))
  ]

  abbrev rest : List ℕ
  rest = drop 173 (drop 64 code.words.items)

  module _ (zeroth : HasCode parts 0 (map plain_line recovery)) (first : HasCode parts 1 checkpoint_code) (still : AreStill checkpoint_code) where
    first_start : first_of parts 1 ≡ 64
    first_start = (let m = first_more parts 0 zeroth.part zeroth.is_part in let s : part_size zeroth.part ≡ 64 = size_of 0 (map plain_line recovery) zeroth in omega arith)

    second_start : first_of parts 2 ≡ 237
    second_start = (let m = first_more parts 1 first.part first.is_part in let s : part_size first.part ≡ 173 = size_of 1 checkpoint_code first in let b = first_start in omega arith)

    begins : code.words.items ≡ recovery_words ++ (checkpoint_words ++ rest)
    begins =
        front recovery_words code.words.items (λ k w e. let q : k ≡ 0 + k = omega arith in ap (slice_get code.words.items) q ∙ part_word 0 (map plain_line recovery) zeroth (still_plain recovery) k w e)
        ∙ ap (λ z. recovery_words ++ z) (front checkpoint_words (drop 64 code.words.items) (λ k w e.
        get_drop 64 k code.words.items ∙ ap (λ i. slice_get code.words.items (i + k)) (sym first_start) ∙ part_word 1 checkpoint_code first still k w e))

still_both : (xs ys : List CodeLine) → AreStill xs → AreStill ys → AreStill (xs ++ ys)
still_both [] ys a b = b
still_both (x ∷ xs) ys a b = (a.0, still_both xs ys a.1 b)

still_entries : (n : ℕ) → AreStill (entries n)
still_entries zero = tt
still_entries (suc n) = still_both (entries n) (entry_code (n + 4)) (still_entries n) (refl, (refl, (refl, (refl, (refl, tt)))))

still_checkpoint : AreStill checkpoint_code
still_checkpoint = still_both (entries 28) (map plain_line ladder) (still_entries 28) (still_plain ladder)

pub packed : PackedLaw
packed u statics layouts parts code stack out_cap image program linkable linked is_packed is_image =
    let wide : (k : ℕ) → slice_index code.words.items k < 2 ^ 32 = λ k. subst (λ (z : List ℕ). slice_index z k < 2 ^ 32) is_packed.words (is_image.words k) in
    let second = second_start parts code linkable linked wide program.recovers program.saves still_checkpoint in
    let count = program.count in
    let high = climbs parts code linkable linked wide 2 (3 + length u.functions.items) (omega arith) in
    let last : last_of parts ≡ 2 + (3 + length u.functions.items) = omega arith in
    let start : first_of parts (last_of parts) ≡ first_of parts (2 + (3 + length u.functions.items)) = ap (first_of parts) last in
    let entry = linked.entry in
    let same = is_packed.entry in
    record {
      is_image = is_image;
      form = is_packed.form;
      rest = rest parts code linkable linked wide;
      begins = is_packed.words ∙ begins parts code linkable linked wide program.recovers program.saves still_checkpoint;
      behind = omega arith;
    }
