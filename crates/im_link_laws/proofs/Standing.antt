-- Linked lines stand in memory.
use Rattle.std.proofs.Common.{◌≡◌, ◌<◌, ◌≤◌, inl, inr, ℕ, zero, suc, ◌+◌, ◌*◌, ◌%◌, true, List, [], ◌∷◌, Option, Some, None, length, refl, sym, ap, ◌∙◌, subst, arith}
use Rattle.std.specs.Prelude.{◌==◌, ◌&&◌, nat_le, slice_get}
use Rattle.std.proofs.lemmas.Bool.Decides.{nat_tests}
use Rattle.std.proofs.lemmas.Option.{slice_get_cases}
use Rattle.im_mem.specs.Map.{memory_size}
use Rattle.im_mem.specs.Memory.{Mem, little, is_place, Stands}
use Rattle.im_rv.specs.declared.code.Line.{Line}
use Rattle.im_rv.specs.declared.code.Part.{Part}
use Rattle.im_rv.specs.declared.code.Code.{Code as Linked}
use Rattle.im_rv.specs.Decode.{Line as Instruction}
use Rattle.im_rv.specs.Effects.{decoded_word}
use Rattle.im_rv.specs.Lines.{CodeLine, code_line, code_lines, line_of}
use Rattle.im_rv.specs.Code.{address, instruction_at}
use Rattle.im_rv_reach.specs.Instructions.{Holds}
use Rattle.im_link.specs.Parts.{IsPart, lines_of, first_of}
use Rattle.im_link.specs.Code.{IsLinkable, IsLinked}
use Rattle.im_link.specs.Laws.{distance}
use Rattle.im_link.proofs.Joining.{line_in}
use Rattle.im_link.proofs.Laying.{laid_law}
use Rattle.im_rtlib_laws.specs.Standing.{aimed_at, IsPlaceOf, StandFrom}
use Rattle.im_link_laws.specs.Linking.{ArePlaces}
use Rattle.im_link_laws.specs.Laws.{StandLaw}

abbrev pub climb : ℕ → ℕ → ℕ
climb pc zero = pc
climb pc (suc k) = climb (pc + 4) k

pub climb_is : (pc k : ℕ) → climb pc k ≡ pc + 4 * k
climb_is pc zero = omega arith
climb_is pc (suc k) = let h = climb_is (pc + 4) k in omega arith

word_at : (m : Mem) (a : ℕ) (ws : List ℕ) (i w : ℕ) → Stands m a ws → slice_get ws i ≡ Some w → little m (climb a i) 4 ≡ w
word_at m a [] i w s e = absurd cc
word_at m a (x ∷ ws) zero w s e = let same : x ≡ w = cc in s.0 ∙ same
word_at m a (x ∷ ws) (suc i) w s e = word_at m (a + 4) ws i w s.1 e

place_there : (i : ℕ) → i < 261120 → is_place (address i) 4 ≡ true
place_there i h =
    let a : ((4096 + 4 * i) % 4 == 0) ≡ true = grind (arith, nat_tests) in
    let b : nat_le (4096 + 4 * i + 4) memory_size ≡ true = grind (arith, nat_tests) in
    ap (λ z. (true && z) && nat_le (4096 + 4 * i + 4) memory_size) a ∙ b

holds_at : (image : Mem) (words : List ℕ) (i : ℕ) (l : Instruction) → Stands image 4096 words → length words ≤ 261120 → instruction_at words i ≡ Some l → Holds image (address i) l
holds_at image words i l s few e = elim (slice_get_cases words i).1 [
  | inl c ↦
      (let below = c.1 in
      let at : little image (climb 4096 i) 4 ≡ c.0 = word_at image 4096 words i c.0 s c.2 in
      record {
        w = c.0;
        word = ap (λ z. little image z 4) (sym (climb_is 4096 i)) ∙ at;
        here = place_there i (omega arith);
        line = ap decoded_word (sym c.2) ∙ e;
        above = omega arith;
        low = omega arith;
      })
  | inr c ↦ (let n : None ≡ Some l = ap decoded_word (sym c.1) ∙ e in absurd cc)
]

-- lines from a place on, one by one
stand_each : (image : Mem) (place : ℕ → ℕ) (pc : ℕ) (xs : List CodeLine) → ((k : ℕ) (x : CodeLine) → slice_get xs k ≡ Some x → Holds image (climb pc k) (aimed_at place (climb pc k) x.line x.target) × IsPlaceOf place (climb pc k) x.label) → StandFrom image place pc xs
stand_each image place pc [] h = tt
stand_each image place pc (x ∷ xs) h = ((h 0 x refl).0, (h 0 x refl).1, stand_each image place (pc + 4) xs (λ k y e. h (suc k) y e))

pub stand_get : (image : Mem) (place : ℕ → ℕ) (pc : ℕ) (xs : List CodeLine) (k : ℕ) (x : CodeLine) → StandFrom image place pc xs → slice_get xs k ≡ Some x → Holds image (climb pc k) (aimed_at place (climb pc k) x.line x.target)
stand_get image place pc [] k x s e = absurd cc
stand_get image place pc (y ∷ xs) zero x s e = let same : y ≡ x = cc in subst (λ (z : CodeLine). Holds image pc (aimed_at place pc z.line z.target)) same s.0
stand_get image place pc (y ∷ xs) (suc k) x s e = stand_get image place (pc + 4) xs k x s.2 e

-- a line of code is that of a line
pub record Behind (xs : List Line) (k : ℕ) (x : CodeLine) : Type 0 where
  pub line : Line
  pub there : slice_get xs k ≡ Some line
  pub is : code_line line ≡ x

pub behind : (xs : List Line) (k : ℕ) (x : CodeLine) → slice_get (code_lines xs) k ≡ Some x → Behind xs k x
behind [] k x e = absurd cc
behind (y ∷ xs) zero x e = record { line = y; there = refl; is = (let z : CodeLine = code_line y in let q : Some z ≡ Some x = e in cc) }
behind (y ∷ xs) (suc k) x e = let r = behind xs k x e in record { line = r.line; there = r.there; is = r.is }

placed_label : (parts : List Part) (place : ℕ → ℕ) (i : ℕ) (line : Line) → ArePlaces parts place → slice_get (lines_of parts) i ≡ Some line → (o : Option ℕ) → line.label ≡ o → IsPlaceOf place (address i) o
placed_label parts place i line places g None e = tt
placed_label parts place i line places g (Some l) e = places.at l i (record { line = line; is_line = g; label = e })

line_stands : (image : Mem) (parts : List Part) (code : Linked) (place : ℕ → ℕ) → IsLinkable parts → IsLinked parts code → ArePlaces parts place → Stands image 4096 code.words.items → (p k : ℕ) (part : Part) (line : Line) → IsPart parts p part → slice_get part.lines.items k ≡ Some line → (t : Option ℕ) → line.target ≡ t → Holds image (address (first_of parts p + k)) (aimed_at place (address (first_of parts p + k)) (line_of line.instr) t)
line_stands image parts code place linkable linked places s p k part line is_part is_line None e =
    let few : length code.words.items ≤ 261120 = (let a = linked.size in let b = linked.fits in omega arith) in
    holds_at image code.words.items (first_of parts p + k) (line_of line.instr) s few ((laid_law parts code linkable linked p k part line is_part is_line).plain e)
line_stands image parts code place linkable linked places s p k part line is_part is_line (Some l) e =
    let i : ℕ = first_of parts p + k in
    let few : length code.words.items ≤ 261120 = (let a = linked.size in let b = linked.fits in omega arith) in
    let g = line_in parts p k part line is_part is_line in
    let near = linkable.targets i line l g e in
    let laid = (laid_law parts code linkable linked p k part line is_part is_line).aimed l near.0 e near.1 in
    subst (λ (z : ℕ). Holds image (address i) (record (line_of line.instr) { imm = distance (address i) z })) (sym (places.at l near.0 near.1))
    (holds_at image code.words.items i (record (line_of line.instr) { imm = distance (address i) (address near.0) }) s few laid)

pub stand : StandLaw
stand image parts code place linkable linked places s p part is_part =
    let first : ℕ = first_of parts p in
    stand_each image place (address first) (code_lines part.lines.items) (λ k x e.
    let b = behind part.lines.items k x e in
    let q : climb (address first) k ≡ address (first + k) = (let z = climb_is (address first) k in omega arith) in
    let here : Holds image (address (first + k)) (aimed_at place (address (first + k)) (line_of b.line.instr) b.line.target) = line_stands image parts code place linkable linked places s p k part b.line is_part b.there b.line.target refl in
    let label : IsPlaceOf place (address (first + k)) b.line.label = placed_label parts place (first + k) b.line places (line_in parts p k part b.line is_part b.there) b.line.label refl in
    subst (λ (z : CodeLine). Holds image (climb (address first) k) (aimed_at place (climb (address first) k) z.line z.target) × IsPlaceOf place (climb (address first) k) z.label) b.is
    (subst (λ (z : ℕ). Holds image z (aimed_at place z (line_of b.line.instr) b.line.target) × IsPlaceOf place z b.line.label) (sym q) (here, label)))
