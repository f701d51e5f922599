-- Bytes without a fault are the text of the memory that they say.
use Rattle.std.proofs.Common.{◌≡◌, ℕ, zero, suc, ◌+◌, ◌-◌, ◌*◌, ◌<◌, ◌≤◌, Bool, true, false, cond, List, [], ◌∷◌, ◌++◌, length, drop, None, refl, sym, ap, ◌∙◌, append_assoc, eqb, ◌||◌, arith}
use Rattle.std.specs.Prelude.{not, nat_le, nat_lt}
use Rattle.std.specs.List.{flat_map}
use Rattle.std.proofs.lemmas.Bool.{leb-true, ltb-true, eqb-true}
use Rattle.std.proofs.lemmas.List.{drop_all, length-take, length-drop}
use Rattle.im_num.specs.Bytes.{word_bytes}
use Rattle.im_mem.specs.Memory.{Mem, zeroed}
use Rattle.im_mem.proofs.Words.{written-below, written-above}
use Rattle.im_mem_paged.specs.Pages.{IsMemory, page_of, are_zero, pages_of}
use Rattle.im_mem_paged.proofs.Memories.{zeroed-memory, written-memory}
use Rattle.im_image.specs.declared.version.Version.{Version}
use Rattle.im_image.specs.declared.version.Version.TheVariants.{One, Two}
use Rattle.im_image.specs.Text.{version_number, form_number, words_text, form_words}
use Rattle.im_image.specs.Faults.{word_at, is_version, version_of, version_at, form_of}
use Rattle.im_image.proofs.WordLemmas.{IsBytes, IsBytes-part, word_taken, part_taken}
use Rattle.im_mem_file.specs.Text.{magic, page_text, memory_text, HasForm, MemoryText}
use Rattle.im_mem_file.specs.Faults.{page_bytes, page_laid, pages_laid, memory_at, form_in, form_at, count_place, count_at, first_unmet, version_requirements, form_requirements, count_requirements, header_requirements, page_requirements, pages_requirements, requirements, fault_of}
use Rattle.im_mem_file.proofs.Unmet.{all_met, both_none}
use Rattle.im_mem_file.proofs.PageLemmas.{and_true, page-alike, page-of-written, take-page, skip-pages, zero-pages}

-- ---- one page

not_true : (b : Bool) → not b ≡ true → b ≡ false
not_true true e = absurd cc
not_true false e = refl

record PageTaken (text : List ℕ) (least place : ℕ) : Type 0 where
  low : least ≤ word_at text place
  high : word_at text place < 1280
  there : place + 4100 ≤ length text
  size : length (page_bytes text place) ≡ 4096
  bytes : IsBytes (page_bytes text place)
  nonzero : are_zero (page_bytes text place) ≡ false
  text_is : drop place text ≡ word_bytes (word_at text place) ++ (page_bytes text place ++ drop (place + 4100) text)

page_taken : (text : List ℕ) (least place : ℕ) → IsBytes text → first_unmet (page_requirements text least place) ≡ None → PageTaken text least place
unfolding page_requirements page_bytes
page_taken text least place fits none =
    let met = all_met (page_requirements text least place) none in
    let there : place + 4100 ≤ length text = leb-true _ _ met.1.1.0 in
    let number = and_true (nat_le least (word_at text place)) (nat_lt (word_at text place) 1280) met.1.0 in
    let next : place + 4 + 4096 ≡ place + 4100 = omega arith in
    let behind = word_taken text place (place + 4) fits refl (omega (arith, there)) in
    let bytes = part_taken text (place + 4) 4096 (place + 4100) (sym next) in
    record {
      low = leb-true _ _ number.0;
      high = ltb-true _ _ number.1;
      there = there;
      size = omega (arith, length-take 4096 (drop (place + 4) text), length-drop (place + 4) text, there);
      bytes = IsBytes-part 4096 (place + 4) text fits;
      nonzero = not_true _ met.1.1.1.0;
      text_is = behind ∙ ap (λ (x : List ℕ). word_bytes (word_at text place) ++ x) bytes;
    }

-- ---- pages

-- the pages from a place on are those of the memory that they make, over one that is zero from the least number on
pub record PagesTaken (text : List ℕ) (b m : Mem) (n least place : ℕ) : Type 0 where
  pub low : (k : ℕ) → k < 4096 * least → m k ≡ b k
  pub memory : IsMemory m
  pub pages : drop place text ≡ flat_map (page_text m) (pages_of (1280 - least) least m)
  pub count : length (pages_of (1280 - least) least m) ≡ n

none_taken : (text : List ℕ) (b : Mem) (least place : ℕ) → IsMemory b → ((k : ℕ) → 4096 * least ≤ k → b k ≡ 0) → place ≡ length text → PagesTaken text b b 0 least place
none_taken text b least place is clear ends =
    let none = zero-pages (1280 - least) least b clear in
    let empty : drop place text ≡ [] = drop_all place text (omega arith) in
    record {
      low = λ k below. refl;
      memory = is;
      pages = empty ∙ sym (ap (flat_map (page_text b)) none);
      count = ap length none;
    }

-- one page more in front
more_taken : (text : List ℕ) (b m : Mem) (n least place : ℕ) → ((k : ℕ) → 4096 * least ≤ k → b k ≡ 0) → PageTaken text least place
    → PagesTaken text (page_laid b text place) m n (word_at text place + 1) (place + 4100) → PagesTaken text b m (suc n) least place
more_taken text b m n least place clear one later =
    let p = word_at text place in
    let bytes = page_bytes text place in
    let laid = page_laid b text place in
    let low = λ (k : ℕ). λ (h : k < 4096 * p). later.low k (omega arith) ∙ written-below b (4096 * p) k bytes h in
    let page-is : page_of m p ≡ bytes = page-alike m laid p (λ k from below. later.low k (omega arith)) ∙ page-of-written b p bytes one.size in
    let nonzero : are_zero (page_of m p) ≡ false = ap are_zero page-is ∙ one.nonzero in
    let rest = pages_of (1280 - (p + 1)) (p + 1) m in
    let d = p - least in
    let up : least + d ≡ p = omega (arith, one.low) in
    let left : 1280 - least ≡ d + suc (1280 - (p + 1)) = omega (arith, one.low, one.high) in
    let skipped = skip-pages d (suc (1280 - (p + 1))) least m (λ k from below. low k (omega (arith, up)) ∙ clear k from) in
    let taken : pages_of (1280 - least) least m ≡ p ∷ rest =
    ap (λ (x : ℕ). pages_of x least m) left ∙ skipped ∙ ap (λ (x : ℕ). pages_of (suc (1280 - (p + 1))) x m) up ∙ take-page (1280 - (p + 1)) p m nonzero in
    let body = flat_map (page_text m) rest in
    let text-is : drop place text ≡ page_text m p ++ body =
    one.text_is ∙ ap (λ (x : List ℕ). word_bytes p ++ (bytes ++ x)) later.pages ∙ ap (λ (x : List ℕ). word_bytes p ++ (x ++ body)) (sym page-is) ∙ sym (append_assoc (word_bytes p) (page_of m p) body) in
    record {
      low = λ k below. low k (omega (arith, one.low));
      memory = later.memory;
      pages = text-is ∙ sym (ap (flat_map (page_text m)) taken);
      count = ap length taken ∙ ap suc later.count;
    }

pages_taken : (text : List ℕ) (n least place : ℕ) (b : Mem) → IsBytes text → IsMemory b → ((k : ℕ) → 4096 * least ≤ k → b k ≡ 0) → first_unmet (pages_requirements text n least place) ≡ None
    → PagesTaken text b (pages_laid b text n place) n least place
unfolding pages_requirements pages_laid
pages_taken text zero least place b fits is clear none =
    let met = all_met (pages_requirements text 0 least place) none in
    none_taken text b least place is clear (eqb-true _ _ met.0)
pages_taken text (suc n) least place b fits is clear none =
    let p = word_at text place in
    let both = both_none (page_requirements text least place) (pages_requirements text n (p + 1) (place + 4100)) none in
    let one = page_taken text least place fits both.0 in
    let memory = written-memory b (4096 * p) (page_bytes text place) is (omega (arith, one.high, one.size)) one.bytes in
    let above = λ (k : ℕ). λ (h : 4096 * (p + 1) ≤ k). written-above b (4096 * p) k (page_bytes text place) (omega (arith, one.size)) ∙ clear k (omega (arith, one.low)) in
    more_taken text b (pages_laid (page_laid b text place) text n (place + 4100)) n least place clear one (pages_taken text n (p + 1) (place + 4100) (page_laid b text place) fits memory above both.1)

-- ---- the header

version_by : (one two : Bool) (word : ℕ) → eqb word 1 ≡ one → eqb word 2 ≡ two → (one || two) ≡ true → word ≡ version_number (cond one One Two)
version_by true two word e1 e2 h = eqb-true _ _ e1
version_by false true word e1 e2 h = eqb-true _ _ e2
version_by false false word e1 e2 h = absurd cc

version_back : (word : ℕ) → is_version word ≡ true → word ≡ version_number (version_of word)
version_back word h = version_by (eqb word 1) (eqb word 2) word refl refl h

form_back : (word : ℕ) → word ≤ 1 → word ≡ form_number (form_of word)
form_back zero le = refl
form_back (suc zero) le = refl
form_back (suc (suc n)) le = absurd (omega arith)

record FormTaken (text : List ℕ) (version : Version) : Type 0 where
  is_one : HasForm version (form_in version text)
  text_is : drop 8 text ≡ words_text (form_words version (form_in version text)) ++ drop (count_place version) text

form_taken : (text : List ℕ) (version : Version) → IsBytes text → first_unmet (form_requirements version text) ≡ None → FormTaken text version
unfolding form_requirements
form_taken text One fits none = record { is_one = refl; text_is = refl }
form_taken text Two fits none =
    let met = all_met (form_requirements Two text) none in
    let e = form_back (word_at text 8) (leb-true _ _ met.1.0) in
    record {
      is_one = tt;
      text_is = word_taken text 8 12 fits refl (leb-true _ _ met.0) ∙ ap (λ (w : ℕ). word_bytes w ++ drop 12 text) e;
    }

-- the header's words, one after the other
words_more : (words : List ℕ) (count : ℕ) (rest : List ℕ) → words_text words ++ (word_bytes count ++ rest) ≡ words_text (words ++ count ∷ []) ++ rest
words_more [] count rest = refl
words_more (w ∷ ws) count rest = ap (λ (x : List ℕ). word_bytes w ++ x) (words_more ws count rest)

header_text : (version : Version) (words : List ℕ) (count : ℕ) (rest : List ℕ)
    → word_bytes magic ++ (word_bytes (version_number version) ++ (words_text words ++ (word_bytes count ++ rest))) ≡ words_text (magic ∷ version_number version ∷ (words ++ count ∷ [])) ++ rest
header_text version words count rest = ap (λ (x : List ℕ). word_bytes magic ++ (word_bytes (version_number version) ++ x)) (words_more words count rest)

pub memory_taken : (text : List ℕ) → IsBytes text → fault_of text ≡ None → MemoryText text (version_at text) (form_at text) (memory_at text)
unfolding fault_of requirements header_requirements version_requirements count_requirements memory_at memory_text
memory_taken text fits none =
    let version = version_at text in
    let form = form_at text in
    let place = count_place version in
    let n = count_at text in
    let counted = count_requirements text place in
    let both = both_none (header_requirements text) (pages_requirements text n 0 (place + 4)) none in
    let front = both_none (version_requirements text) (form_requirements version text ++ counted) both.0 in
    let back = both_none (form_requirements version text) counted front.1 in
    let m = all_met (version_requirements text) front.0 in
    let c = all_met counted back.1 in
    let f = form_taken text version fits back.0 in
    let pages = pages_taken text n 0 (place + 4) zeroed fits (zeroed-memory zeroed refl) (λ k from. refl) both.1 in
    let memory = memory_at text in
    let ps = pages_of 1280 0 memory in
    let body = flat_map (page_text memory) ps in
    let w0 = word_taken text 0 4 fits refl (leb-true _ _ m.0) in
    let w1 = word_taken text 4 8 fits refl (leb-true _ _ m.1.1.0) in
    let w2 = word_taken text place (place + 4) fits refl (leb-true _ _ c.0) in
    let magic-is : word_at text 0 ≡ magic = eqb-true _ _ m.1.0 in
    let version-is = version_back (word_at text 4) m.1.1.1.0 in
    let formed = words_text (form_words version form) in
    record {
      has_form = f.is_one;
      is_memory = pages.memory;
      text_is =
          w0 ∙ ap (λ (w : ℕ). word_bytes w ++ drop 4 text) magic-is
          ∙ ap (λ (x : List ℕ). word_bytes magic ++ x) (w1 ∙ ap (λ (w : ℕ). word_bytes w ++ drop 8 text) version-is)
          ∙ ap (λ (x : List ℕ). word_bytes magic ++ (word_bytes (version_number version) ++ x)) (f.text_is ∙ ap (λ (x : List ℕ). formed ++ x) (w2 ∙ ap (λ (x : List ℕ). word_bytes n ++ x) pages.pages ∙ ap (λ (k : ℕ). word_bytes k ++ body) (sym pages.count)))
          ∙ header_text version (form_words version form) (length ps) body;
    }
