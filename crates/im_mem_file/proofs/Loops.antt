-- Reading pages one after the other.
use Rattle.std.proofs.Common.{◌≡◌, ℕ, suc, ◌+◌, ◌-◌, ◌<◌, ◌≤◌, List, [], ◌∷◌, ◌++◌, length, false, Some, None, refl, sym, ap, ◌∙◌, arith}
use Rattle.std.specs.Prelude.{◌==◌}
use Rattle.std.proofs.lemmas.Bool.{eq-eqb}
use Rattle.std.proofs.lemmas.Bool.Decides.{nat_tests}
use Rattle.im_mem.specs.Memory.{Mem}
use Rattle.im_image.specs.Faults.{word_at}
use Rattle.im_mem_file.specs.declared.fault.MemoryFault.{MemoryFault}
use Rattle.im_mem_file.specs.declared.fault.MemoryFault.TheVariants.{Trailing}
use Rattle.im_mem_file.specs.Faults.{page_laid, pages_laid, first_unmet, page_requirements, pages_requirements, IsFaultOf}
use Rattle.im_mem_file.proofs.Unmet.{after_none, stops_in, same_fault}

-- i of so many pages are read into the first memory
pub record PagesRead (text : List ℕ) (count place i least at : ℕ) (first m : Mem) : Type 0 where
  pub there : at ≤ length text
  pub laid : pages_laid m text (count - i) at ≡ pages_laid first text count place
  pub right : first_unmet (pages_requirements text (count - i) least at) ≡ first_unmet (pages_requirements text count 0 place)

pub pages_start : (text : List ℕ) (count place : ℕ) (m : Mem) → place ≤ length text → PagesRead text count place 0 0 place m m
pages_start text count place m le =
    let k : count - 0 ≡ count = omega arith in
    record { there = le; laid = rw k refl; right = rw k refl }

pub pages_go_on : (text : List ℕ) (count place i least at number : ℕ) (first m n : Mem) → i < count → number ≡ word_at text at → at + 4100 ≤ length text → n ≡ page_laid m text at → first_unmet (page_requirements text least at) ≡ None
    → PagesRead text count place i least at first m → PagesRead text count place (i + 1) (number + 1) (at + 4100) first n
unfolding pages_laid pages_requirements
pages_go_on text count place i least at number first m n lt number-is there n-is none reads =
    let k : count - i ≡ suc (count - (i + 1)) = omega arith in
    let left = count - (i + 1) in
    let one : pages_laid m text (count - i) at ≡ pages_laid (page_laid m text at) text left (at + 4100) = rw k refl in
    let later = pages_requirements text left (word_at text at + 1) (at + 4100) in
    let two : first_unmet (pages_requirements text (count - i) least at) ≡ first_unmet later = rw k (after_none (page_requirements text least at) later none) in
    record {
      there = there;
      laid = ap (λ (x : Mem). pages_laid x text left (at + 4100)) n-is ∙ sym one ∙ reads.laid;
      right = ap (λ (x : ℕ). first_unmet (pages_requirements text left (x + 1) (at + 4100))) number-is ∙ sym two ∙ reads.right;
    }

pub pages_stop : (text : List ℕ) (count place i least at : ℕ) (first m : Mem) (fault : MemoryFault) → i < count → IsFaultOf fault (first_unmet (page_requirements text least at))
    → PagesRead text count place i least at first m → IsFaultOf fault (first_unmet (pages_requirements text count 0 place))
unfolding pages_requirements
pages_stop text count place i least at first m fault lt wrong reads =
    let k : count - i ≡ suc (count - (i + 1)) = omega arith in
    let later = pages_requirements text (count - (i + 1)) (word_at text at + 1) (at + 4100) in
    let same : first_unmet (pages_requirements text (count - i) least at) ≡ first_unmet (page_requirements text least at ++ later) = rw k refl in
    same_fault fault _ _ (sym same ∙ reads.right) (stops_in (page_requirements text least at) later fault wrong)

pub pages_laid_all : (text : List ℕ) (count place i least at : ℕ) (first m : Mem) → count ≤ i → PagesRead text count place i least at first m → m ≡ pages_laid first text count place
unfolding pages_laid
pages_laid_all text count place i least at first m le reads =
    let k : count - i ≡ 0 = omega arith in
    let one : pages_laid m text (count - i) at ≡ m = rw k refl in
    sym one ∙ reads.laid

pages_end : (text : List ℕ) (count place i least at : ℕ) (first m : Mem) → count ≤ i → PagesRead text count place i least at first m
    → first_unmet ((at == length text, Trailing at) ∷ []) ≡ first_unmet (pages_requirements text count 0 place)
unfolding pages_requirements
pages_end text count place i least at first m le reads =
    let k : count - i ≡ 0 = omega arith in
    let one : first_unmet (pages_requirements text (count - i) least at) ≡ first_unmet ((at == length text, Trailing at) ∷ []) = rw k refl in
    sym one ∙ reads.right

pub trailing : (text : List ℕ) (count place i least at : ℕ) (first m : Mem) → count ≤ i → at < length text → PagesRead text count place i least at first m → first_unmet (pages_requirements text count 0 place) ≡ Some (Trailing at)
trailing text count place i least at first m le lt reads =
    let other : (at == length text) ≡ false = grind (arith, nat_tests) in
    sym (pages_end text count place i least at first m le reads) ∙ rw other refl

pub nothing_behind : (text : List ℕ) (count place i least at : ℕ) (first m : Mem) → count ≤ i → length text ≤ at → PagesRead text count place i least at first m → first_unmet (pages_requirements text count 0 place) ≡ None
nothing_behind text count place i least at first m le ends reads =
    let same : at ≡ length text = omega (arith, reads.there) in
    sym (pages_end text count place i least at first m le reads) ∙ rw (eq-eqb _ _ same) refl
