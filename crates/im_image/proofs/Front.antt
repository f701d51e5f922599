-- Reading the front of a text: its header, its form, and room for the code words and the statics.
use Rattle.std.proofs.Common.{◌≡◌, ℕ, ◌+◌, ◌-◌, ◌*◌, ◌<◌, ◌≤◌, List, [], ◌∷◌, ◌++◌, length, take, drop, Some, None, refl, sym, ap, subst, ◌∙◌, inl, inr, arith}
use Rattle.std.proofs.lemmas.Bool.{lt-ltb, le-ltb, cases_lt}
use Rattle.im_mem.specs.Map.{statics_start}
use Rattle.im_image.specs.declared.fault.ImageFault.{ImageFault}
use Rattle.im_image.specs.declared.fault.ImageFault.TheVariants.{ShortImage}
use Rattle.im_image.specs.declared.form.Form.{Form}
use Rattle.im_image.specs.declared.header.Header.{Header}
use Rattle.im_image.specs.Contents.{ObjectValue, ImageValue}
use Rattle.im_image.specs.Header.{header_at}
use Rattle.im_image.specs.Faults.{Requirement, HasBytes, word_at, words_at, objects_at, first_unmet, objects_requirements, header_requirements, form_requirements, front_requirements, requirements, fault_of, image_at, statics_place, objects_place, version_at, form_at, header_size, IsFaultOf}
use Rattle.im_image.proofs.Unmet.{after_none, none_unmet, stops_in, same_fault}

-- ---- the front

abbrev room : List ℕ → List Requirement
room text = HasBytes (statics_place text) ∷ (HasBytes (objects_place text) ∷ [])

pub wrong_header : (text : List ℕ) (fault : ImageFault) → IsFaultOf fault (first_unmet (length text) (header_requirements text)) → IsFaultOf fault (first_unmet (length text) (front_requirements text))
unfolding front_requirements
wrong_header text fault wrong = stops_in (length text) (header_requirements text) (form_requirements (version_at text) text ++ room text) fault wrong

-- behind the eight words comes the form
form_next : (text : List ℕ) → first_unmet (length text) (header_requirements text) ≡ None
    → first_unmet (length text) (front_requirements text) ≡ first_unmet (length text) (form_requirements (version_at text) text ++ room text)
unfolding front_requirements
form_next text right = after_none (length text) (header_requirements text) (form_requirements (version_at text) text ++ room text) right

-- what the header's version asks of the text is what the text's asks
version_is : (text : List ℕ) (header : Header) → header ≡ header_at text → header.version ≡ version_at text
version_is text header is = ap (λ (h : Header). h.version) is

pub wrong_form : (text : List ℕ) (header : Header) (fault : ImageFault) → header ≡ header_at text → first_unmet (length text) (header_requirements text) ≡ None
    → IsFaultOf fault (first_unmet (length text) (form_requirements header.version text)) → IsFaultOf fault (first_unmet (length text) (front_requirements text))
wrong_form text header fault is right wrong =
    let here = subst (λ v. IsFaultOf fault (first_unmet (length text) (form_requirements v text))) (version_is text header is) wrong in
    same_fault fault _ _ (sym (form_next text right)) (stops_in (length text) (form_requirements (version_at text) text) (room text) fault here)

-- behind the form there is room
room_next : (text : List ℕ) (header : Header) → header ≡ header_at text → first_unmet (length text) (header_requirements text) ≡ None → first_unmet (length text) (form_requirements header.version text) ≡ None
    → first_unmet (length text) (front_requirements text) ≡ first_unmet (length text) (room text)
room_next text header is right form =
    let here = subst (λ v. first_unmet (length text) (form_requirements v text) ≡ None) (version_is text header is) form in
    form_next text right ∙ after_none (length text) (form_requirements (version_at text) text) (room text) here

place_is : (text : List ℕ) (header : Header) (place : ℕ) → header ≡ header_at text → place ≡ header_size header.version + 4 * header.words + header.statics → place ≡ objects_place text
place_is text header place is at = at ∙ ap (λ (h : Header). header_size h.version + 4 * h.words + h.statics) is

none_there : (text : List ℕ) → objects_place text ≤ length text → first_unmet (length text) (room text) ≡ None
none_there text le = none_unmet (length text) (room text) (omega arith, (le, tt))

short_first : (text : List ℕ) → length text < statics_place text → first_unmet (length text) (room text) ≡ Some (ShortImage (length text))
short_first text lt = rw (lt-ltb _ _ lt) refl

short_then : (text : List ℕ) → statics_place text ≤ length text → length text < objects_place text → first_unmet (length text) (room text) ≡ Some (ShortImage (length text))
short_then text le lt = rw (le-ltb _ _ le, lt-ltb _ _ lt) refl

short_room : (text : List ℕ) → length text < objects_place text → first_unmet (length text) (room text) ≡ Some (ShortImage (length text))
short_room text lt = elim (cases_lt (length text) (statics_place text)) [ inl less ↦ short_first text less | inr more ↦ short_then text more lt ]

pub wrong_room : (text : List ℕ) (header : Header) (place : ℕ) → header ≡ header_at text → place ≡ header_size header.version + 4 * header.words + header.statics
    → first_unmet (length text) (header_requirements text) ≡ None → first_unmet (length text) (form_requirements header.version text) ≡ None → length text < place
    → first_unmet (length text) (front_requirements text) ≡ Some (ShortImage (length text))
wrong_room text header place is at right form lt =
    let e = place_is text header place is at in
    room_next text header is right form ∙ short_room text (omega arith)

pub right_front : (text : List ℕ) (header : Header) (place : ℕ) → header ≡ header_at text → place ≡ header_size header.version + 4 * header.words + header.statics
    → first_unmet (length text) (header_requirements text) ≡ None → first_unmet (length text) (form_requirements header.version text) ≡ None → place ≤ length text
    → (objects_place text ≤ length text) × (first_unmet (length text) (front_requirements text) ≡ None)
right_front text header place is at right form le =
    let e = place_is text header place is at in
    let there : objects_place text ≤ length text = omega arith in
    (there, room_next text header is right form ∙ none_there text there)

-- ---- the whole text

pub after_front : (text : List ℕ) → first_unmet (length text) (front_requirements text) ≡ None
    → first_unmet (length text) (objects_requirements text (word_at text 12) (word_at text 28) statics_start (objects_place text)) ≡ fault_of text
unfolding fault_of requirements
after_front text right = sym (after_none (length text) (front_requirements text) (objects_requirements text (word_at text 12) (word_at text 28) statics_start (objects_place text)) right)

pub fault_in_front : (text : List ℕ) (fault : ImageFault) → IsFaultOf fault (first_unmet (length text) (front_requirements text)) → IsFaultOf fault (fault_of text)
unfolding fault_of requirements
fault_in_front text fault wrong = stops_in (length text) (front_requirements text) (objects_requirements text (word_at text 12) (word_at text 28) statics_start (objects_place text)) fault wrong

-- the objects' requirements, with the header's words in place of their places
pub behind_front : (text : List ℕ) (header : Header) (place : ℕ) → header ≡ header_at text → place ≡ header_size header.version + 4 * header.words + header.statics → first_unmet (length text) (front_requirements text) ≡ None
    → first_unmet (length text) (objects_requirements text header.statics header.objects statics_start place) ≡ fault_of text
behind_front text header place is at right = rw (at, is) (after_front text right)

abbrev pub record_of : Form → List ℕ → List ℕ → Header → List ObjectValue → ImageValue
record_of form words statics header objects = record {
  version = header.version;
  form = form;
  words = words;
  statics = statics;
  stack = header.stack;
  out_cap = header.out_cap;
  entry = header.entry;
  objects = objects;
}

pub made : (text : List ℕ) (header : Header) (form : Form) (words statics : List ℕ) (objects : List ObjectValue) (place a b : ℕ) → header ≡ header_at text → form ≡ form_at (version_at text) text → place ≡ header_size header.version → a ≡ header_size header.version + 4 * header.words → b ≡ header_size header.version + 4 * header.words + header.statics
    → words ≡ words_at text header.words place → statics ≡ take (b - a) (drop a text) → objects ≡ objects_at text header.objects b
    → record_of form words statics header objects ≡ image_at text
unfolding image_at
made text header form words statics objects place a b is form-is place-is a-is b-is ew es eo =
    let n : b - a ≡ header.statics = omega arith in
    rw (ew, es, eo, n, form-is, place-is, a-is, b-is, is) refl
