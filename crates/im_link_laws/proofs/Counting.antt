-- How many words a program has.
use Rattle.std.proofs.Common.{◌≡◌, ◌≤◌, inl, inr, ℕ, zero, suc, ◌+◌, List, map, length, take, refl, ap, arith}
use Rattle.std.proofs.lemmas.List.{take_all}
use Rattle.std.proofs.lemmas.Option.{slice_get_cases}
use Rattle.im_rv.specs.declared.code.Part.{Part}
use Rattle.im_rv.specs.Lines.{plain_line}
use Rattle.im_link.specs.Parts.{first_of, word_count}
use Rattle.im_link.proofs.Joining.{first_whole}
use Rattle.im_ckpt.specs.Recovery.{recovery}
use Rattle.im_ckpt.specs.Checkpoint.{checkpoint_code}
use Rattle.im_rtlib.specs.Routines.{getchar, putchar, stack}
use Rattle.im_block.specs.declared.unit.Unit.{Unit as Code}
use Rattle.im_block.specs.Shape.{sum_of, placed_cost}
use Rattle.im_frame.specs.declared.layout.Layout.{Layout}
use Rattle.im_alloc_placed.specs.Apart.{AllApart}
use Rattle.im_link_laws.specs.Program.{IsProgram, part_of, start_code}
use Rattle.im_link_laws.specs.Laws.{WordsLaw}
use Rattle.im_link_laws.proofs.Runtimes.{size_of}
use Rattle.im_link_laws.proofs.Owning.{sum_step}

module _ (u : Code) (statics : List ℕ) (layouts : List Layout) (parts : List Part) (program : IsProgram u statics layouts parts) (apart : AllApart u) where
  runtime : first_of parts 5 ≤ 290
  runtime =
      let a = size_of parts 0 (map plain_line recovery) program.recovers in
      let b = size_of parts 1 checkpoint_code program.saves in
      let c = size_of parts 2 getchar program.gets in
      let d = size_of parts 3 putchar program.puts in
      let e = size_of parts 4 stack program.stops in
      let z : first_of parts 0 ≡ 0 = refl in
      let la : length (map plain_line recovery) ≡ 64 = refl in
      let lb : length checkpoint_code ≡ 173 = refl in
      let lc : length getchar ≡ 12 = refl in
      let ld : length putchar ≡ 24 = refl in
      let le : length stack ≤ 4 = omega arith in
      omega arith

  functions : (i : ℕ) → i ≤ length u.functions.items → first_of parts (part_of i) ≤ 290 + sum_of placed_cost (take i u.functions.items)
  functions zero h = let r = runtime in let q : first_of parts (part_of 0) ≡ first_of parts 5 = refl in omega arith
  functions (suc i) h = elim (slice_get_cases u.functions.items i).1 [
    | inl c ↦
        (let f = program.functions i c.0 c.2 in
        let before = functions i (omega arith) in
        let size = size_of parts (part_of i) f.code f.there in
        let words = f.selection.words (λ b block e. apart.each i c.0 b block c.2 e) in
        let sum = sum_step placed_cost u.functions.items i (suc i) c.0 c.2 (omega arith) in
        let q : first_of parts (part_of (suc i)) ≡ first_of parts (part_of i + 1) = ap (first_of parts) (omega arith) in
        omega arith)
    | inr c ↦ (let le = c.0 in absurd (omega arith))
  ]

  whole : word_count parts ≤ 300 + sum_of placed_cost u.functions.items
  whole =
      let n : ℕ = length u.functions.items in
      let before = functions n (omega arith) in
      let size = size_of parts (part_of n) (start_code u.main) program.begins in
      let l : length (start_code u.main) ≤ 5 = omega arith in
      let last : first_of parts (length parts) ≡ first_of parts (part_of n + 1) = ap (first_of parts) (let c = program.count in omega arith) in
      let all = first_whole parts in
      let t : sum_of placed_cost (take n u.functions.items) ≡ sum_of placed_cost u.functions.items = ap (sum_of placed_cost) (take_all n u.functions.items (omega arith)) in
      omega arith

pub words : WordsLaw
words u statics layouts parts program apart = whole u statics layouts parts program apart
