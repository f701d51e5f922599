-- What stands at the address of a line.
use Rattle.std.proofs.Common.{◌≡◌, ℕ, ◌+◌, ◌^◌, ◌<◌, ◌≤◌, List, length, Option, Some, None, ap, subst, ◌∙◌, arith}
use Rattle.std.specs.Prelude.{slice_get}
use Rattle.std.proofs.lemmas.Option.{slice_get_within, slice_get-get_or}
use Rattle.im_rv.specs.declared.code.Line.{Line}
use Rattle.im_rv.specs.Decode.{Line as Instruction}
use Rattle.im_rv.specs.Steps.{sum_of}
use Rattle.im_rv.specs.Effects.{decoded_word}
use Rattle.im_rv.specs.Lines.{instruction, line_of}
use Rattle.im_rv.specs.Code.{address, instruction_at}
use Rattle.im_link.specs.Parts.{word_count, byte_count, lines_of, first_of}
use Rattle.im_link.specs.Links.{StandsAt, IsAimed, Does}
use Rattle.im_link.specs.Laws.{distance, LaidLaw}
use Rattle.im_link.proofs.Joining.{lines_count, line_in}

distance_is : (a b m : ℕ) → a < 2 ^ 32 → b < 2 ^ 32 → m < 2 ^ 32 → sum_of a m ≡ b → m ≡ distance a b
distance_is a b m p q r e = omega arith

aimed_is : (instr to : Instruction) (i j : ℕ) → i < 261120 → j < 261120 → IsAimed instr i j to → to ≡ record instr { imm = distance (address i) (address j) }
aimed_is instr to i j l m a =
    let imm = distance_is (address i) (address j) to.imm (omega arith) (omega arith) a.word a.leads in
    ap (λ op. instruction op to.rd to.rs1 to.rs2 to.imm) a.op
    ∙ ap (λ rd. instruction instr.op rd to.rs1 to.rs2 to.imm) a.rd
    ∙ ap (λ rs1. instruction instr.op instr.rd rs1 to.rs2 to.imm) a.rs1
    ∙ ap (λ rs2. instruction instr.op instr.rd instr.rs1 rs2 to.imm) a.rs2
    ∙ ap (instruction instr.op instr.rd instr.rs1 instr.rs2) imm

does_plain : (lines : List Line) (i : ℕ) (line : Line) (o : Option ℕ) (to : Instruction) → o ≡ None → Does lines i line o to → to ≡ line_of line.instr
does_plain lines i line None to e d = d
does_plain lines i line (Some l) to e d = absurd (let bad : Some l ≡ None = e in cc)

does_aimed : (lines : List Line) (i l : ℕ) (line : Line) (o : Option ℕ) (to : Instruction) → o ≡ Some l → Does lines i line o to → (j : ℕ) × StandsAt lines l j × IsAimed (line_of line.instr) i j to
does_aimed lines i l line None to e d = absurd (let bad : None ≡ Some l = e in cc)
does_aimed lines i l line (Some k) to e d = (let same : k ≡ l = (let q : Some k ≡ Some l = e in cc) in subst (λ (z : ℕ). (j : ℕ) × StandsAt lines z j × IsAimed (line_of line.instr) i j to) same d)

pub laid_law : LaidLaw
laid_law parts code linkable linked p k part line is_part is_line =
    let i = first_of parts p + k in
    let lines = lines_of parts in
    let g : slice_get lines i ≡ Some line = line_in parts p k part line is_part is_line in
    let inside : i < length lines = slice_get_within lines i line g in
    let many : length lines ≡ word_count parts = lines_count parts in
    let fits : byte_count parts ≤ 1044480 = linked.fits in
    let w = linked.words.each i line g in
    let count = linked.words.count in
    let here : instruction_at code.words.items i ≡ Some w.0 = ap decoded_word (slice_get-get_or code.words.items i 0 (omega arith)) ∙ w.1 in
    record {
      plain = λ none. here ∙ ap (λ (z : Instruction). Some z) (does_plain lines i line line.target w.0 none w.2);
      aimed = λ l j target stands. (
          let d = does_aimed lines i l line line.target w.0 target w.2 in
          let same : d.0 ≡ j = linkable.labels l d.0 j d.1 stands in
          let near : IsAimed (line_of line.instr) i j w.0 = subst (λ (z : ℕ). IsAimed (line_of line.instr) i z w.0) same d.2 in
          let there : j < length lines = slice_get_within lines j stands.line stands.is_line in
          here ∙ ap (λ (z : Instruction). Some z) (aimed_is (line_of line.instr) w.0 i j (omega arith) (omega arith) near));
    }
