-- A text without a fault is the text of the image that its fields say.
use Rattle.std.proofs.Common.{◌≡◌, ℕ, zero, suc, ◌+◌, ◌*◌, ◌^◌, ◌<◌, ◌≤◌, Bool, true, false, List, [], ◌∷◌, ◌++◌, length, get_or, take, drop, Option, Some, None, refl, sym, ap, ◌∙◌, append_assoc, arith, cond, eqb, leb, ◌&&◌, ◌||◌}
use Rattle.std.specs.List.{flat_map}
use Rattle.std.proofs.lemmas.Bool.{leb-true, eqb-true}
use Rattle.std.proofs.lemmas.Grind.{flat_map-append}
use Rattle.std.proofs.lemmas.List.{drop_all, length-take, length-drop}
use Rattle.im_num.specs.Bytes.{word_bytes}
use Rattle.im_image.specs.declared.object.CellRun.{CellRun}
use Rattle.im_mem.specs.Map.{statics_start}
use Rattle.im_image.specs.declared.version.Version.{Version}
use Rattle.im_image.specs.declared.version.Version.TheVariants.{One, Two}
use Rattle.im_image.specs.declared.form.Form.{Form}
use Rattle.im_image.specs.Contents.{kind_code, is_run, is_form, AreRuns, IsObject, AreObjects, IsImage}
use Rattle.im_image.specs.Text.{words_text, run_text, object_text, image_text, version_number, form_number, form_words, magic}
use Rattle.im_image.specs.Faults.{word_at, kind_of, run_at, words_at, runs_at, object_at, objects_at, image_at, name_end, record_end, words_place, statics_place, objects_place, is_version, version_of, version_at, form_of, form_at, header_size, HasBytes, first_unmet, run_requirements, object_requirements, objects_requirements, header_requirements, form_requirements, front_requirements, requirements, fault_of}
use Rattle.im_image.proofs.Unmet.{AllMet, all_met, both_none}
use Rattle.im_image.proofs.Loops.{length-runs_at}
use Rattle.im_image.proofs.WordLemmas.{IsBytes, IsBytes-part, word_taken, word_fits, part_taken}

-- ---- words

below : (w : ℕ) (ws : List ℕ) → w < 2 ^ 32 → ((k : ℕ) → get_or ws k 0 < 2 ^ 32) → (k : ℕ) → get_or (w ∷ ws) k 0 < 2 ^ 32
below w ws lt h zero = lt
below w ws lt h (suc k) = h k

pub words_taken : (text : List ℕ) (n place next : ℕ) → IsBytes text → next ≡ place + 4 * n → next ≤ length text
    → (drop place text ≡ words_text (words_at text n place) ++ drop next text) × (length (words_at text n place) ≡ n) × ((k : ℕ) → get_or (words_at text n place) k 0 < 2 ^ 32)
unfolding words_at
words_taken text zero place next fits next-is le =
    let e : next ≡ place = omega arith in
    (ap (λ (k : ℕ). drop k text) (sym e), refl, λ k. omega arith)
words_taken text (suc n) place next fits next-is le =
    let r = words_taken text n (place + 4) next fits (omega arith) le in
    let words = words_at text n (place + 4) in
    let w = word_at text place in
    let first = word_taken text place (place + 4) fits refl (omega arith) in
    let lt = word_fits text place fits (omega arith) in
    (first ∙ ap (λ (x : List ℕ). word_bytes w ++ x) r.0 ∙ sym (append_assoc (word_bytes w) (words_text words) (drop next text)), ap suc r.1, below w words lt r.2)

-- ---- runs

pub and_true : (a b : Bool) → (a && b) ≡ true → (a ≡ true) × (b ≡ true)
and_true true b e = (refl, e)
and_true false b e = absurd cc

kind_back : (code : ℕ) → code ≤ 6 → kind_code (kind_of code) ≡ code
kind_back zero le = refl
kind_back (suc zero) le = refl
kind_back (suc (suc zero)) le = refl
kind_back (suc (suc (suc zero))) le = refl
kind_back (suc (suc (suc (suc zero)))) le = refl
kind_back (suc (suc (suc (suc (suc zero))))) le = refl
kind_back (suc (suc (suc (suc (suc (suc zero)))))) le = refl
kind_back (suc (suc (suc (suc (suc (suc (suc code))))))) le = absurd (omega arith)

run_taken : (text : List ℕ) (place : ℕ) → IsBytes text → word_at text (place + 4) ≤ 6 → place + 12 ≤ length text → drop place text ≡ run_text (run_at text place) ++ drop (place + 12) text
run_taken text place fits code le =
    let a = word_taken text place (place + 4) fits refl (omega arith) in
    let b = word_taken text (place + 4) (place + 8) fits (omega arith) (omega arith) in
    let c = word_taken text (place + 8) (place + 12) fits (omega arith) le in
    let k : word_bytes (word_at text (place + 4)) ≡ word_bytes (kind_code (kind_of (word_at text (place + 4)))) = ap word_bytes (sym (kind_back (word_at text (place + 4)) code)) in
    a ∙ ap (λ (x : List ℕ). word_bytes (word_at text place) ++ x) (b ∙ ap (λ (x : List ℕ). word_bytes (word_at text (place + 4)) ++ x) c ∙ ap (λ (x : List ℕ). x ++ (word_bytes (word_at text (place + 8)) ++ drop (place + 12) text)) k)

pub record RunsTaken (text : List ℕ) (at size n : ℕ) (before : Option CellRun) (place next : ℕ) : Type 0 where
  pub are_runs : AreRuns at size before (runs_at text n place)
  pub text_is : drop place text ≡ flat_map run_text (runs_at text n place) ++ drop next text
  pub there : next ≤ length text

pub runs_taken : (text : List ℕ) (at size n : ℕ) (before : Option CellRun) (place next : ℕ) → IsBytes text → next ≡ place + 12 * n → place ≤ length text
    → AllMet (length text) (run_requirements text at size n before place) → RunsTaken text at size n before place next
unfolding run_requirements runs_at
runs_taken text at size zero before place next fits next-is le met =
    let e : next ≡ place = omega arith in
    record { are_runs = tt; text_is = ap (λ (k : ℕ). drop k text) (sym e); there = omega arith }
runs_taken text at size (suc n) before place next fits next-is le met =
    let run = run_at text place in
    let r = runs_taken text at size n (Some run) (place + 12) next fits (omega arith) met.0 met.1.1 in
    let both = and_true (leb (word_at text (place + 4)) 6) (is_run at size before run) met.1.0 in
    let first = run_taken text place fits (leb-true _ _ both.0) met.0 in
    let later = flat_map run_text (runs_at text n (place + 12)) in
    record {
      are_runs = (both.1, r.are_runs);
      text_is = first ∙ ap (λ (x : List ℕ). run_text run ++ x) r.text_is ∙ sym (append_assoc (run_text run) later (drop next text));
      there = r.there;
    }

-- ---- objects

pub record ObjectTaken (text : List ℕ) (statics least place : ℕ) : Type 0 where
  pub is_object : IsObject statics least (object_at text place)
  pub text_is : drop place text ≡ object_text (object_at text place) ++ drop (record_end text place) text
  pub there : record_end text place ≤ length text

object_taken : (text : List ℕ) (statics least place : ℕ) → IsBytes text → first_unmet (length text) (object_requirements text statics least place) ≡ None → ObjectTaken text statics least place
unfolding object_requirements object_at object_text
object_taken text statics least place fits none =
    let met = all_met (length text) (object_requirements text statics least place) none in
    let size = word_at text (place + 4) in
    let at = word_at text place in
    let len = word_at text (place + 8) in
    let count = word_at text (place + 12) in
    let start = name_end text place in
    let name = take len (drop (place + 16) text) in
    let r = runs_taken text at size count None start (record_end text place) fits refl met.1.1.0 met.1.1.1.1 in
    let runs = runs_at text count start in
    let len-is : length name ≡ len = omega (arith, length-take len (drop (place + 16) text), length-drop (place + 16) text, met.1.1.0) in
    let count-is = length-runs_at text count start in
    let a = word_taken text place (place + 4) fits refl (omega (arith, met.0)) in
    let b = word_taken text (place + 4) (place + 8) fits (omega arith) (omega (arith, met.0)) in
    let c = word_taken text (place + 8) (place + 12) fits (omega arith) (omega (arith, met.0)) in
    let d = word_taken text (place + 12) (place + 16) fits (omega arith) met.0 in
    let e = part_taken text (place + 16) len start refl in
    let behind : drop (place + 16) text ≡ (name ++ flat_map run_text runs) ++ drop (record_end text place) text =
    e ∙ ap (λ (x : List ℕ). name ++ x) r.text_is ∙ sym (append_assoc name (flat_map run_text runs) (drop (record_end text place) text)) in
    let heads : drop place text ≡ word_bytes at ++ (word_bytes size ++ (word_bytes len ++ (word_bytes count ++ ((name ++ flat_map run_text runs) ++ drop (record_end text place) text)))) =
    a ∙ ap (λ (x : List ℕ). word_bytes at ++ x) (b ∙ ap (λ (x : List ℕ). word_bytes size ++ x) (c ∙ ap (λ (x : List ℕ). word_bytes len ++ x) (d ∙ ap (λ (x : List ℕ). word_bytes count ++ x) behind))) in
    record {
      is_object = record {
        place = rw (len-is, count-is) met.1.0;
        name_length = rw len-is (word_fits text (place + 8) fits (omega (arith, met.0)));
        name = met.1.1.1.0;
        runs = r.are_runs;
      };
      text_is = heads ∙ ap (λ (l : ℕ). word_bytes at ++ (word_bytes size ++ (word_bytes l ++ (word_bytes count ++ ((name ++ flat_map run_text runs) ++ drop (record_end text place) text))))) (sym len-is) ∙ ap (λ (k : ℕ). word_bytes at ++ (word_bytes size ++ (word_bytes (length name) ++ (word_bytes k ++ ((name ++ flat_map run_text runs) ++ drop (record_end text place) text))))) (sym count-is);
      there = r.there;
    }

pub objects_taken : (text : List ℕ) (statics n least place : ℕ) → IsBytes text → place ≤ length text → first_unmet (length text) (objects_requirements text statics n least place) ≡ None
    → AreObjects statics least (objects_at text n place) × (drop place text ≡ flat_map object_text (objects_at text n place)) × (length (objects_at text n place) ≡ n)
unfolding objects_requirements objects_at object_at
objects_taken text statics zero least place fits le none =
    let met = all_met (length text) (objects_requirements text statics zero least place) none in
    let same : length text ≡ place = eqb-true _ _ met.0 in
    (tt, drop_all place text (omega arith), refl)
objects_taken text statics (suc n) least place fits le none =
    let later = objects_requirements text statics n (word_at text place + word_at text (place + 4) + 1) (record_end text place) in
    let both = both_none (length text) (object_requirements text statics least place) later none in
    let o = object_taken text statics least place fits both.0 in
    let r = objects_taken text statics n (word_at text place + word_at text (place + 4) + 1) (record_end text place) fits o.there both.1 in
    ((o.is_object, r.0), o.text_is ∙ ap (λ (x : List ℕ). object_text (object_at text place) ++ x) r.1, ap suc r.2)

-- ---- the image

-- the eight words at the front
abbrev header_at_places : List ℕ → List ℕ
header_at_places text =
    word_at text 0 ∷ word_at text 4 ∷ word_at text 8 ∷ word_at text 12 ∷ word_at text 16 ∷ word_at text 20 ∷ word_at text 24 ∷ word_at text 28 ∷ []

header_taken : (text : List ℕ) → IsBytes text → 32 ≤ length text → text ≡ words_text (header_at_places text) ++ drop 32 text
header_taken text fits le =
    let w = λ (place : ℕ). word_bytes (word_at text place) in
    word_taken text 0 4 fits refl (omega arith) ∙ ap (λ (x : List ℕ). w 0 ++ x) (word_taken text 4 8 fits refl (omega arith) ∙ ap (λ (x : List ℕ). w 4 ++ x) (word_taken text 8 12 fits refl (omega arith) ∙ ap (λ (x : List ℕ). w 8 ++ x) (word_taken text 12 16 fits refl (omega arith)
    ∙ ap (λ (x : List ℕ). w 12 ++ x) (word_taken text 16 20 fits refl (omega arith) ∙ ap (λ (x : List ℕ). w 16 ++ x) (word_taken text 20 24 fits refl (omega arith) ∙ ap (λ (x : List ℕ). w 20 ++ x) (word_taken text 24 28 fits refl (omega arith) ∙ ap (λ (x : List ℕ). w 24 ++ x) (word_taken text 28 32 fits refl le)))))))

header_same : (text : List ℕ) (version words statics objects : ℕ) → word_at text 0 ≡ magic → word_at text 4 ≡ version → words ≡ word_at text 8 → statics ≡ word_at text 12 → objects ≡ word_at text 28
    → header_at_places text ≡ magic ∷ version ∷ words ∷ statics ∷ word_at text 16 ∷ word_at text 20 ∷ word_at text 24 ∷ objects ∷ []
header_same text version words statics objects e0 e4 e8 e12 e28 = cc

-- ---- the version and the form

version_by : (one two : Bool) (word : ℕ) → eqb word 1 ≡ one → eqb word 2 ≡ two → (one || two) ≡ true → word ≡ version_number (cond one One Two)
version_by true two word e1 e2 h = eqb-true _ _ e1
version_by false true word e1 e2 h = eqb-true _ _ e2
version_by false false word e1 e2 h = absurd cc

version_back : (word : ℕ) → is_version word ≡ true → word ≡ version_number (version_of word)
version_back word h = version_by (eqb word 1) (eqb word 2) word refl refl h

form_back : (word : ℕ) → word ≤ 1 → word ≡ form_number (form_of word)
form_back zero le = refl
form_back (suc zero) le = refl
form_back (suc (suc n)) le = absurd (omega arith)

record FormTaken (text : List ℕ) (version : Version) : Type 0 where
  is_one : is_form version (form_at version text) ≡ true
  text_is : drop 32 text ≡ words_text (form_words version (form_at version text)) ++ drop (header_size version) text
  there : header_size version ≤ length text

form_taken : (text : List ℕ) (version : Version) → IsBytes text → 32 ≤ length text → AllMet (length text) (form_requirements version text) → FormTaken text version
unfolding form_requirements
form_taken text One fits le met = record { is_one = refl; text_is = refl; there = le }
form_taken text Two fits le met =
    let e = form_back (word_at text 32) (leb-true _ _ met.1.0) in
    record {
      is_one = refl;
      text_is = word_taken text 32 36 fits refl met.0 ∙ ap (λ (w : ℕ). word_bytes w ++ drop 36 text) e;
      there = met.0;
    }

-- the words of the header in two parts
pub header_parts : (version : Version) (form : Form) (words statics stack out_cap entry objects : ℕ)
    → words_text (magic ∷ version_number version ∷ words ∷ statics ∷ stack ∷ out_cap ∷ entry ∷ objects ∷ []) ++ words_text (form_words version form)
    ≡ words_text (magic ∷ version_number version ∷ words ∷ statics ∷ stack ∷ out_cap ∷ entry ∷ objects ∷ form_words version form)
header_parts version form words statics stack out_cap entry objects =
    sym (flat_map-append word_bytes (magic ∷ version_number version ∷ words ∷ statics ∷ stack ∷ out_cap ∷ entry ∷ objects ∷ []) (form_words version form))

pub image_taken : (text : List ℕ) → IsBytes text → fault_of text ≡ None → IsImage (image_at text) × (text ≡ image_text (image_at text))
unfolding fault_of requirements front_requirements header_requirements image_at image_text
image_taken text fits none =
    let len = length text in
    let n = word_at text 8 in
    let s = word_at text 12 in
    let v = word_at text 28 in
    let version = version_at text in
    let form = form_at version text in
    let both = both_none len (front_requirements text) (objects_requirements text s v statics_start (objects_place text)) none in
    let front = both_none len (header_requirements text) (form_requirements version text ++ (HasBytes (statics_place text) ∷ (HasBytes (objects_place text) ∷ []))) both.0 in
    let back = both_none len (form_requirements version text) (HasBytes (statics_place text) ∷ (HasBytes (objects_place text) ∷ [])) front.1 in
    let m = all_met len (header_requirements text) front.0 in
    let m8 = m.1.1.1.1.1.1.1.1 in
    let r = all_met len (HasBytes (statics_place text) ∷ (HasBytes (objects_place text) ∷ [])) back.1 in
    let there : objects_place text ≤ len = r.1.0 in
    let f = form_taken text version fits m8.1.1.1.1.1.1.0 (all_met len (form_requirements version text) back.0) in
    let w = words_taken text n (words_place text) (statics_place text) fits refl (omega (arith, there)) in
    let o = objects_taken text s v statics_start (objects_place text) fits there both.1 in
    let words = words_at text n (words_place text) in
    let statics = take s (drop (statics_place text) text) in
    let objects = objects_at text v (objects_place text) in
    let s-is : length statics ≡ s = omega (arith, length-take s (drop (statics_place text) text), length-drop (statics_place text) text, there) in
    let p = part_taken text (statics_place text) s (objects_place text) refl in
    let body = words_text words ++ (statics ++ flat_map object_text objects) in
    let rest : drop (words_place text) text ≡ body = w.0 ∙ ap (λ (x : List ℕ). words_text words ++ x) (p ∙ ap (λ (x : List ℕ). statics ++ x) o.1) in
    let eight = magic ∷ version_number version ∷ length words ∷ length statics ∷ word_at text 16 ∷ word_at text 20 ∷ word_at text 24 ∷ length objects ∷ [] in
    let formed = words_text (form_words version form) in
    let version-is : word_at text 4 ≡ version_number version = version_back (word_at text 4) m.1.1.1.0 in (
      record {
        form = f.is_one;
        word_count = rw w.1 m.1.1.1.1.1.0;
        words = w.2;
        statics_size = rw s-is m.1.1.1.1.1.1.1.0;
        statics = IsBytes-part s (statics_place text) text fits;
        stack = m8.1.0;
        out_cap = m8.1.1.1.0;
        entry = rw w.1 m8.1.1.1.1.1.0;
        object_count = rw (s-is, o.2) m8.1.1.1.1.1.1.1.0;
        objects = rw s-is o.0;
      },
      header_taken text fits m8.1.1.1.1.1.1.0
          ∙ ap (λ (x : List ℕ). words_text (header_at_places text) ++ x) (f.text_is ∙ ap (λ (x : List ℕ). formed ++ x) rest)
          ∙ ap (λ (h : List ℕ). words_text h ++ (formed ++ body)) (header_same text (version_number version) (length words) (length statics) (length objects) (eqb-true _ _ m.1.0) version-is w.1 s-is o.2)
          ∙ sym (append_assoc (words_text eight) formed body)
          ∙ ap (λ (x : List ℕ). x ++ body) (header_parts version form (length words) (length statics) (word_at text 16) (word_at text 20) (word_at text 24) (length objects)),
    )
