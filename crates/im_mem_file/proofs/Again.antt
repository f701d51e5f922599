-- The text of a memory has no fault, and says that memory.
use Rattle.std.proofs.Common.{◌≡◌, ℕ, zero, suc, ◌+◌, ◌*◌, ◌^◌, ◌<◌, ◌≤◌, inl, inr, Bool, true, false, List, [], ◌∷◌, ◌++◌, length, take, drop, None, refl, sym, ap, subst, ◌∙◌, append_assoc, arith, leb}
use Rattle.std.proofs.Math.Path.{fun_ext}
use Rattle.std.specs.Prelude.{if◌then◌else◌}
use Rattle.std.specs.List.{flat_map}
use Rattle.std.proofs.lemmas.Bool.{le-leb, lt-ltb, eq-eqb, and_from, cases_lt}
use Rattle.std.proofs.lemmas.List.{length-drop, length-append, take_at, drop_at, drop-drop}
use Rattle.im_num.specs.Bytes.{word_bytes}
use Rattle.im_mem.specs.Map.{memory_size}
use Rattle.im_mem.specs.Memory.{Mem, written, zeroed}
use Rattle.im_mem.proofs.Words.{written-below, written-above}
use Rattle.im_mem_paged.specs.Pages.{IsMemory, page_of, are_zero, pages_of}
use Rattle.im_image.specs.declared.version.Version.{Version}
use Rattle.im_image.specs.declared.version.Version.TheVariants.{One, Two}
use Rattle.im_image.specs.declared.form.Form.{Form}
use Rattle.im_image.specs.declared.form.Form.TheVariants.{OneLength, TwoLengths}
use Rattle.im_image.specs.Text.{version_number, form_number, form_words, words_text}
use Rattle.im_image.specs.Faults.{word_at, is_version, version_of, version_at, form_of}
use Rattle.im_image.proofs.WordLemmas.{word_is}
use Rattle.im_mem_file.specs.Text.{magic, page_text, memory_text, HasForm, MemoryText}
use Rattle.im_mem_file.specs.Faults.{page_bytes, page_laid, pages_laid, memory_at, form_in, count_place, count_at, pages_place, first_unmet, version_requirements, form_requirements, count_requirements, header_requirements, page_requirements, pages_requirements, requirements, fault_of}
use Rattle.im_mem_file.specs.Laws.{Says}
use Rattle.im_mem_file.proofs.Unmet.{none_unmet, after_none}
use Rattle.im_mem_file.proofs.PageLemmas.{length-page, page-written, page-is-zero, length-pages_of}

-- ---- pages

-- what is read of the text of some pages, whose numbers are from first to below last
pub record PagesAgain (text : List ℕ) (m b : Mem) (ps : List ℕ) (first last least place : ℕ) : Type 0 where
  pub right : first_unmet (pages_requirements text (length ps) least place) ≡ None
  pub low : (k : ℕ) → k < 4096 * first → pages_laid b text (length ps) place k ≡ b k
  pub mid : (k : ℕ) → 4096 * first ≤ k → k < 4096 * last → b k ≡ 0 → pages_laid b text (length ps) place k ≡ m k
  pub high : (k : ℕ) → 4096 * last ≤ k → pages_laid b text (length ps) place k ≡ b k

none_again : (text : List ℕ) (m b : Mem) (first least place : ℕ) → place ≡ length text → PagesAgain text m b [] first first least place
unfolding pages_requirements pages_laid
none_again text m b first least place e = record {
  right = rw (eq-eqb _ _ e) refl;
  low = λ k below. refl;
  mid = λ k from below clear. absurd (omega arith);
  high = λ k above. refl;
}

-- a page that is zero isn't there
skip_again : (text : List ℕ) (m b : Mem) (ps : List ℕ) (first last least place : ℕ) → first < last → are_zero (page_of m first) ≡ true → PagesAgain text m b ps (first + 1) last least place → PagesAgain text m b ps first last least place
skip_again text m b ps first last least place lt zero-page rest = record {
  right = rest.right;
  low = λ k below. rest.low k (omega arith);
  mid = λ k from below clear. elim (cases_lt k (4096 * (first + 1))) [
    | inl here ↦ rest.low k here ∙ clear ∙ sym (page-is-zero m first zero-page k from (omega arith))
    | inr above ↦ rest.mid k above below clear
  ];
  high = rest.high;
}

-- what stands at the place of a page
record PageAgain (text : List ℕ) (m : Mem) (page place : ℕ) (rest : List ℕ) : Type 0 where
  number : word_at text place ≡ page
  bytes : page_bytes text place ≡ page_of m page
  behind : drop (place + 4100) text ≡ rest
  there : place + 4100 ≤ length text

page_again : (text : List ℕ) (m : Mem) (page place : ℕ) (rest : List ℕ) → page < 2 ^ 32 → drop place text ≡ page_text m page ++ rest → PageAgain text m page place rest
unfolding page_bytes
page_again text m page place rest lt e =
    let bytes = page_of m page in
    let w = word_is text place (place + 4) page (bytes ++ rest) refl lt (e ∙ append_assoc (word_bytes page) bytes rest) in
    let next : place + 4 + 4096 ≡ place + 4100 = omega arith in
    let behind : drop (place + 4100) text ≡ rest = ap (λ (k : ℕ). drop k text) (sym next) ∙ sym (drop-drop 4096 (place + 4) text) ∙ ap (drop 4096) w.behind ∙ drop_at bytes rest 4096 (length-page m page) in
    record {
      number = w.word;
      bytes = ap (take 4096) w.behind ∙ take_at bytes rest 4096 (length-page m page);
      behind = behind;
      there = omega (arith, w.there, ap length w.behind, length-drop (place + 4) text, length-append bytes rest, length-page m page);
    }

laid_is : (text : List ℕ) (m b : Mem) (page place : ℕ) (rest : List ℕ) → PageAgain text m page place rest → page_laid b text place ≡ written b (4096 * page) (page_of m page)
laid_is text m b page place rest p = ap (λ (n : ℕ). written b (4096 * n) (page_bytes text place)) p.number ∙ ap (λ (bs : List ℕ). written b (4096 * page) bs) p.bytes

page_right : (text : List ℕ) (m : Mem) (page least place : ℕ) (rest : List ℕ) → least ≤ page → page < 1280 → are_zero (page_of m page) ≡ false → PageAgain text m page place rest → first_unmet (page_requirements text least place) ≡ None
unfolding page_requirements
page_right text m page least place rest low high nonzero p =
    let few : place + 4 ≤ length text = omega (arith, p.there) in
    none_unmet (page_requirements text least place)
    (le-leb _ _ few, (rw p.number (and_from _ _ (le-leb _ _ low) (lt-ltb _ _ high)), (le-leb _ _ p.there, (rw (p.bytes, nonzero) refl, tt))))

-- a page that isn't zero is there
take_again : (text : List ℕ) (m b : Mem) (ps rest : List ℕ) (first last least place : ℕ) → first < last → last ≤ 1280 → least ≤ first → are_zero (page_of m first) ≡ false → PageAgain text m first place rest
    → PagesAgain text m (page_laid b text place) ps (first + 1) last (first + 1) (place + 4100) → PagesAgain text m b (first ∷ ps) first last least place
unfolding pages_requirements pages_laid
take_again text m b ps rest first last least place lt few low nonzero p later =
    let laid = page_laid b text place in
    let is = laid_is text m b first place rest p in
    let at = λ (k : ℕ). ap (λ (f : Mem). f k) is in
    let below = λ (k : ℕ). λ (h : k < 4096 * first). at k ∙ written-below b (4096 * first) k (page_of m first) h in
    let above = λ (k : ℕ). λ (h : 4096 * (first + 1) ≤ k). at k ∙ written-above b (4096 * first) k (page_of m first) (omega (arith, length-page m first)) in
    let one = page_right text m first least place rest low (omega arith) nonzero p in
    let more = pages_requirements text (length ps) (word_at text place + 1) (place + 4100) in
    record {
      right = after_none (page_requirements text least place) more one ∙ ap (λ (n : ℕ). first_unmet (pages_requirements text (length ps) (n + 1) (place + 4100))) p.number ∙ later.right;
      low = λ k h. later.low k (omega arith) ∙ below k h;
      mid = λ k from h clear. elim (cases_lt k (4096 * (first + 1))) [
        | inl here ↦ later.low k here ∙ at k ∙ page-written b m first k from (omega arith)
        | inr behind ↦ later.mid k behind h (above k behind ∙ clear)
      ];
      high = λ k h. later.high k h ∙ above k (omega arith);
    }

again_step : (z : Bool) (text : List ℕ) (m b : Mem) (ps : List ℕ) (first last least place : ℕ) → are_zero (page_of m first) ≡ z → first < last → last ≤ 1280 → least ≤ first → place ≤ length text
    → drop place text ≡ flat_map (page_text m) (if z then ps else first ∷ ps)
    → ((b' : Mem) (least' place' : ℕ) → least' ≤ first + 1 → place' ≤ length text → drop place' text ≡ flat_map (page_text m) ps → PagesAgain text m b' ps (first + 1) last least' place')
    → PagesAgain text m b (if z then ps else first ∷ ps) first last least place
again_step true text m b ps first last least place z lt few low le e later = skip_again text m b ps first last least place lt z (later b least place (omega arith) le e)
again_step false text m b ps first last least place z lt few low le e later =
    let rest = flat_map (page_text m) ps in
    let p = page_again text m first place rest (omega arith) e in
    take_again text m b ps rest first last least place lt few low z p (later (page_laid b text place) (first + 1) (place + 4100) (omega arith) p.there p.behind)

pages_again : (text : List ℕ) (m : Mem) (n first last least place : ℕ) (b : Mem) → last ≡ first + n → last ≤ 1280 → least ≤ first → place ≤ length text → drop place text ≡ flat_map (page_text m) (pages_of n first m)
    → PagesAgain text m b (pages_of n first m) first last least place
unfolding pages_of
pages_again text m zero first last least place b last-is few low le e =
    let same : last ≡ first = omega arith in
    let ends : place ≡ length text = omega (arith, ap length e, length-drop place text) in
    subst (λ (x : ℕ). PagesAgain text m b [] first x least place) (sym same) (none_again text m b first least place ends)
pages_again text m (suc n) first last least place b last-is few low le e =
    again_step (are_zero (page_of m first)) text m b (pages_of n (first + 1) m) first last least place refl (omega arith) few low le e
    (λ b' least' place' l p d. pages_again text m n (first + 1) last least' place' b' (omega arith) few l p d)

-- ---- the header

version_again : (version : Version) → (version_of (version_number version) ≡ version) × (is_version (version_number version) ≡ true) × (version_number version < 2 ^ 32)
version_again One = (refl, refl, omega arith)
version_again Two = (refl, refl, omega arith)

form_number_again : (form : Form) → (form_of (form_number form) ≡ form) × (leb (form_number form) 1 ≡ true) × (form_number form < 2 ^ 32)
form_number_again OneLength = (refl, refl, omega arith)
form_number_again TwoLengths = (refl, refl, omega arith)

record FormAgain (text : List ℕ) (version : Version) (form : Form) (rest : List ℕ) : Type 0 where
  form_is : form_in version text ≡ form
  right : first_unmet (form_requirements version text) ≡ None
  behind : drop (count_place version) text ≡ rest
  there : count_place version ≤ length text

form_again : (text : List ℕ) (version : Version) (form : Form) (rest : List ℕ) → HasForm version form → 8 ≤ length text → drop 8 text ≡ words_text (form_words version form) ++ rest → FormAgain text version form rest
unfolding form_requirements
form_again text One form rest is le e = record { form_is = sym is; right = refl; behind = e; there = le }
form_again text Two form rest is le e =
    let f = form_number_again form in
    let w = word_is text 8 12 (form_number form) rest refl f.2 e in
    record {
      form_is = ap form_of w.word ∙ f.0;
      right = none_unmet (form_requirements Two text) (le-leb _ _ w.there, (rw w.word f.1, tt));
      behind = w.behind;
      there = w.there;
    }

-- the header's words, one after the other
header_words : (version : Version) (form : Form) (count : ℕ) (rest : List ℕ)
    → words_text (magic ∷ version_number version ∷ (form_words version form ++ count ∷ [])) ++ rest ≡ word_bytes magic ++ (word_bytes (version_number version) ++ (words_text (form_words version form) ++ (word_bytes count ++ rest)))
header_words One form count rest = refl
header_words Two form count rest = refl

-- ---- the text

same_byte : (text : List ℕ) (m : Mem) (ps : List ℕ) (last place : ℕ) → 4096 * last ≡ memory_size → IsMemory m → PagesAgain text m zeroed ps 0 last 0 place → (k : ℕ) → pages_laid zeroed text (length ps) place k ≡ m k
same_byte text m ps last place size memory again k =
    elim (cases_lt k (4096 * last)) [
      | inl inside ↦ again.mid k (omega arith) inside refl
      | inr past ↦ again.high k past ∙ sym (memory.inside k (omega arith))
    ]

same_memory : (text : List ℕ) (m : Mem) (ps : List ℕ) (last place : ℕ) → 4096 * last ≡ memory_size → IsMemory m → PagesAgain text m zeroed ps 0 last 0 place → pages_laid zeroed text (length ps) place ≡ m
same_memory text m ps last place size memory again = fun_ext (λ (k : ℕ). same_byte text m ps last place size memory again k)

pub memory_again : (text : List ℕ) (version : Version) (form : Form) (m : Mem) → MemoryText text version form m → Says text version form m
unfolding fault_of requirements header_requirements version_requirements count_requirements memory_at memory_text
memory_again text version form m is =
    let ps = pages_of 1280 0 m in
    let n = length ps in
    let body = flat_map (page_text m) ps in
    let few : n ≤ 1280 = length-pages_of 1280 0 m in
    let v = version_again version in
    let r3 = word_bytes n ++ body in
    let r2 = words_text (form_words version form) ++ r3 in
    let r1 = word_bytes (version_number version) ++ r2 in
    let e = is.text_is ∙ header_words version form n body in
    let w0 = word_is text 0 4 magic r1 refl (omega arith) e in
    let w1 = word_is text 4 8 (version_number version) r2 refl v.2 w0.behind in
    let version-is : version_at text ≡ version = ap version_of w1.word ∙ v.0 in
    let f = form_again text version form r3 is.has_form w1.there w1.behind in
    let place = count_place version in
    let w2 = word_is text place (place + 4) n body refl (omega (arith, few)) f.behind in
    let place-is : count_place (version_at text) ≡ place = ap count_place version-is in
    let pages-is : pages_place text ≡ place + 4 = ap (λ (x : ℕ). x + 4) place-is in
    let count-is : count_at text ≡ n = ap (word_at text) place-is ∙ w2.word in
    let again = pages_again text m 1280 0 1280 0 (place + 4) zeroed (omega arith) (omega arith) (omega arith) w2.there w2.behind in
    let first : first_unmet (version_requirements text) ≡ None = none_unmet (version_requirements text)
    (le-leb _ _ w0.there, (eq-eqb _ _ w0.word, (le-leb _ _ w1.there, (rw w1.word v.1, tt)))) in
    let counted = count_requirements text (count_place (version_at text)) in
    let formed : first_unmet (form_requirements (version_at text) text) ≡ None = ap (λ (x : Version). first_unmet (form_requirements x text)) version-is ∙ f.right in
    let counts : first_unmet counted ≡ None = ap (λ (x : ℕ). first_unmet (count_requirements text x)) place-is ∙ none_unmet (count_requirements text place) (le-leb _ _ w2.there, (rw w2.word (le-leb _ _ few), tt)) in
    let front : first_unmet (header_requirements text) ≡ None =
    after_none (version_requirements text) (form_requirements (version_at text) text ++ counted) first
    ∙ after_none (form_requirements (version_at text) text) counted formed
    ∙ counts in
    let pages : first_unmet (pages_requirements text (count_at text) 0 (pages_place text)) ≡ None =
    ap (λ (x : ℕ). first_unmet (pages_requirements text x 0 (pages_place text))) count-is ∙ ap (λ (x : ℕ). first_unmet (pages_requirements text n 0 x)) pages-is ∙ again.right in
    let laid : memory_at text ≡ pages_laid zeroed text n (place + 4) =
    ap (λ (x : ℕ). pages_laid zeroed text x (pages_place text)) count-is ∙ ap (λ (x : ℕ). pages_laid zeroed text n x) pages-is in
    record {
      no_fault = after_none (header_requirements text) (pages_requirements text (count_at text) 0 (pages_place text)) front ∙ pages;
      version_is = version-is;
      form_is = ap (λ (x : Version). form_in x text) version-is ∙ f.form_is;
      memory_is = laid ∙ same_memory text m ps 1280 (place + 4) (omega arith) is.is_memory again;
    }
