-- Reading what stands before the pages, and then the pages.
use Rattle.std.proofs.Common.{◌≡◌, ℕ, ◌+◌, List, ◌++◌, None, refl, sym, ap, subst, ◌∙◌}
use Rattle.im_mem.specs.Memory.{Mem, zeroed}
use Rattle.im_image.specs.declared.version.Version.{Version}
use Rattle.im_image.specs.declared.form.Form.{Form}
use Rattle.im_image.specs.Faults.{word_at, version_at}
use Rattle.im_mem_file.specs.declared.fault.MemoryFault.{MemoryFault}
use Rattle.im_mem_file.specs.declared.header.Header.{Header}
use Rattle.im_mem_file.specs.Header.{header_at}
use Rattle.im_mem_file.specs.Faults.{Requirement, first_unmet, version_requirements, form_requirements, count_requirements, header_requirements, pages_requirements, requirements, fault_of, form_in, form_at, count_place, count_at, pages_place, pages_laid, memory_at, IsFaultOf}
use Rattle.im_mem_file.specs.Text.{MemoryText}
use Rattle.im_image.proofs.WordLemmas.{IsBytes}
use Rattle.im_mem_file.proofs.Unmet.{after_none, stops_in, same_fault}
use Rattle.im_mem_file.proofs.Taken.{memory_taken}

-- ---- the header

-- the number of pages, where the text's version has it
abbrev counted : List ℕ → List Requirement
counted text = count_requirements text (count_place (version_at text))

pub wrong_version : (text : List ℕ) (fault : MemoryFault) → IsFaultOf fault (first_unmet (version_requirements text)) → IsFaultOf fault (first_unmet (header_requirements text))
unfolding header_requirements
wrong_version text fault wrong = stops_in (version_requirements text) (form_requirements (version_at text) text ++ counted text) fault wrong

form_next : (text : List ℕ) → first_unmet (version_requirements text) ≡ None → first_unmet (header_requirements text) ≡ first_unmet (form_requirements (version_at text) text ++ counted text)
unfolding header_requirements
form_next text right = after_none (version_requirements text) (form_requirements (version_at text) text ++ counted text) right

pub wrong_form : (text : List ℕ) (version : Version) (fault : MemoryFault) → version ≡ version_at text → first_unmet (version_requirements text) ≡ None
    → IsFaultOf fault (first_unmet (form_requirements version text)) → IsFaultOf fault (first_unmet (header_requirements text))
wrong_form text version fault is right wrong =
    let here = subst (λ (v : Version). IsFaultOf fault (first_unmet (form_requirements v text))) is wrong in
    same_fault fault _ _ (sym (form_next text right)) (stops_in (form_requirements (version_at text) text) (counted text) fault here)

-- behind the form stands the number of pages
count_next : (text : List ℕ) (version : Version) (place : ℕ) → version ≡ version_at text → place ≡ count_place version → first_unmet (version_requirements text) ≡ None → first_unmet (form_requirements version text) ≡ None
    → first_unmet (header_requirements text) ≡ first_unmet (count_requirements text place)
count_next text version place is at right form =
    let here = subst (λ (v : Version). first_unmet (form_requirements v text) ≡ None) is form in
    let there : place ≡ count_place (version_at text) = at ∙ ap count_place is in
    form_next text right ∙ after_none (form_requirements (version_at text) text) (counted text) here ∙ ap (λ (p : ℕ). first_unmet (count_requirements text p)) (sym there)

pub wrong_count : (text : List ℕ) (version : Version) (place : ℕ) (fault : MemoryFault) → version ≡ version_at text → place ≡ count_place version → first_unmet (version_requirements text) ≡ None → first_unmet (form_requirements version text) ≡ None
    → IsFaultOf fault (first_unmet (count_requirements text place)) → IsFaultOf fault (first_unmet (header_requirements text))
wrong_count text version place fault is at right form wrong = same_fault fault _ _ (sym (count_next text version place is at right form)) wrong

pub right_header : (text : List ℕ) (version : Version) (place : ℕ) → version ≡ version_at text → place ≡ count_place version → first_unmet (version_requirements text) ≡ None → first_unmet (form_requirements version text) ≡ None
    → first_unmet (count_requirements text place) ≡ None → first_unmet (header_requirements text) ≡ None
right_header text version place is at right form count = count_next text version place is at right form ∙ count

pub header_is : (text : List ℕ) (version : Version) (form : Form) (pages place : ℕ) → version ≡ version_at text → form ≡ form_in version text → place ≡ count_place version → pages ≡ word_at text place
    → record { version = version; form = form; pages = pages; place = place + 4 } ≡ header_at text
header_is text version form pages place e0 e1 e2 e3 = rw (e3, e2, e1, e0) refl

-- ---- the whole text

after_header : (text : List ℕ) → first_unmet (header_requirements text) ≡ None → first_unmet (pages_requirements text (count_at text) 0 (pages_place text)) ≡ fault_of text
unfolding fault_of requirements
after_header text right = sym (after_none (header_requirements text) (pages_requirements text (count_at text) 0 (pages_place text)) right)

pub fault_in_header : (text : List ℕ) (fault : MemoryFault) → IsFaultOf fault (first_unmet (header_requirements text)) → IsFaultOf fault (fault_of text)
unfolding fault_of requirements
fault_in_header text fault wrong = stops_in (header_requirements text) (pages_requirements text (count_at text) 0 (pages_place text)) fault wrong

-- the pages' rules, with what the header says in place of the text's words
pub behind_header : (text : List ℕ) (header : Header) → header ≡ header_at text → first_unmet (header_requirements text) ≡ None → first_unmet (pages_requirements text header.pages 0 header.place) ≡ fault_of text
behind_header text header is right = ap (λ (h : Header). first_unmet (pages_requirements text h.pages 0 h.place)) is ∙ after_header text right

pub memory_is : (text : List ℕ) (header : Header) (first m : Mem) → header ≡ header_at text → first ≡ zeroed → m ≡ pages_laid first text header.pages header.place → m ≡ memory_at text
unfolding memory_at
memory_is text header first m is empty e =
    e ∙ ap (λ (f : Mem). pages_laid f text header.pages header.place) empty ∙ ap (λ (h : Header). pages_laid zeroed text h.pages h.place) is

pub text_is : (text : List ℕ) (version : Version) (form : Form) (m : Mem) → IsBytes text → fault_of text ≡ None → version ≡ version_at text → form ≡ form_at text → m ≡ memory_at text → MemoryText text version form m
text_is text version form m fits none e0 e1 e2 = rw (e0, e1, e2) (memory_taken text fits none)
