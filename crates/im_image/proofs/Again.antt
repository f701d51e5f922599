-- The text of an image has no fault, and its fields say that image.
use Rattle.std.proofs.Common.{◌≡◌, ℕ, suc, ◌+◌, ◌*◌, ◌^◌, ◌<◌, ◌≤◌, Bool, true, List, [], ◌∷◌, ◌++◌, length, get_or, take, drop, Option, Some, None, refl, sym, ap, subst, ◌∙◌, append_assoc, arith, leb, ◌&&◌}
use Rattle.std.specs.List.{flat_map}
use Rattle.std.proofs.lemmas.Bool.{leb-true, eq-eqb}
use Rattle.std.proofs.lemmas.List.{length-drop, take_at, drop_at, drop-drop, length-append}
use Rattle.im_num.specs.declared.kind.Kind.{Kind}
use Rattle.im_num.specs.declared.kind.Kind.TheVariants.{I8, U8, I16, U16, I32, U32, Ptr}
use Rattle.im_num.specs.Kinds.{kind_size}
use Rattle.im_num.specs.Bytes.{word_bytes}
use Rattle.im_image.specs.declared.object.CellRun.{CellRun}
use Rattle.im_image.specs.declared.fault.ImageFault.TheVariants.{BadField}
use Rattle.im_mem.specs.Map.{statics_start}
use Rattle.im_image.specs.declared.version.Version.{Version}
use Rattle.im_image.specs.declared.version.Version.TheVariants.{One, Two}
use Rattle.im_image.specs.declared.form.Form.{Form}
use Rattle.im_image.specs.declared.form.Form.TheVariants.{OneLength, TwoLengths}
use Rattle.im_image.specs.Contents.{ImageValue, ObjectValue, kind_code, run_end, end_of, is_run, is_form, AreRuns, IsObject, AreObjects, IsImage, is_object_place}
use Rattle.im_image.specs.Text.{words_text, run_text, object_text, image_text, version_number, form_number, form_words, magic}
use Rattle.im_image.specs.Faults.{word_at, kind_of, run_at, words_at, runs_at, object_at, objects_at, image_at, name_end, record_end, words_place, statics_place, objects_place, is_version, version_of, version_at, form_of, form_at, header_size, HasBytes, Meets, first_unmet, run_requirements, object_requirements, objects_requirements, header_requirements, form_requirements, front_requirements, requirements, fault_of}
use Rattle.im_image.proofs.Unmet.{AllMet, none_unmet, after_none}
use Rattle.im_image.proofs.WordLemmas.{word_is}
use Rattle.im_image.proofs.Taken.{and_true}

-- ---- words

pub words_again : (text : List ℕ) (words : List ℕ) (place next : ℕ) (rest : List ℕ) → ((k : ℕ) → get_or words k 0 < 2 ^ 32) → next ≡ place + 4 * length words → drop place text ≡ words_text words ++ rest → place ≤ length text
    → (words_at text (length words) place ≡ words) × (drop next text ≡ rest) × (next ≤ length text)
unfolding words_at
words_again text [] place next rest fits next-is e le = let same : next ≡ place = omega arith in (refl, ap (λ (k : ℕ). drop k text) same ∙ e, omega arith)
words_again text (w ∷ ws) place next rest fits next-is e le =
    let first = word_is text place (place + 4) w (words_text ws ++ rest) refl (fits 0) (e ∙ append_assoc (word_bytes w) (words_text ws) rest) in
    let r = words_again text ws (place + 4) next rest (λ k. fits (suc k)) (omega arith) first.behind first.there in
    (rw (first.word, r.0) refl, r.1, r.2)

-- ---- runs

kind_again : (kind : Kind) → (kind_of (kind_code kind) ≡ kind) × (leb (kind_code kind) 6 ≡ true) × (kind_code kind < 2 ^ 32)
kind_again I8 = (refl, refl, omega arith)
kind_again U8 = (refl, refl, omega arith)
kind_again I16 = (refl, refl, omega arith)
kind_again U16 = (refl, refl, omega arith)
kind_again I32 = (refl, refl, omega arith)
kind_again U32 = (refl, refl, omega arith)
kind_again Ptr = (refl, refl, omega arith)

count_le : (kind : Kind) (count : ℕ) → count ≤ count * kind_size kind
count_le I8 count = omega arith
count_le U8 count = omega arith
count_le I16 count = omega arith
count_le U16 count = omega arith
count_le I32 count = omega arith
count_le U32 count = omega arith
count_le Ptr count = omega arith

pub record RunFacts (at size : ℕ) (before : Option CellRun) (run : CellRun) : Type 0 where
  pub cell : 1 ≤ run.count
  pub begins : end_of before ≤ run.offset
  pub ends : run_end run ≤ size
  pub longer : run.offset + run.count ≤ run_end run

pub run_facts : (at size : ℕ) (before : Option CellRun) (run : CellRun) → is_run at size before run ≡ true → RunFacts at size before run
run_facts at size before run h =
    let a = and_true _ _ h in
    let b = and_true _ _ a.0 in
    let c = and_true _ _ b.0 in
    let d = and_true _ _ c.0 in
    let more = count_le run.kind run.count in
    record { cell = leb-true _ _ d.0; begins = leb-true _ _ d.1; ends = leb-true _ _ c.1; longer = omega arith }

-- as many runs as there are take as many bytes at least
pub run_count : (at size : ℕ) (before : Option CellRun) (runs : List CellRun) → AreRuns at size before runs → end_of before ≤ size → end_of before + length runs ≤ size
run_count at size before [] h le = omega arith
run_count at size before (run ∷ runs) h le =
    let f = run_facts at size before run h.0 in
    let r = run_count at size (Some run) runs h.1 f.ends in
    omega (arith, f.cell, f.begins, f.longer)

both : (a b : Bool) → a ≡ true → b ≡ true → (a && b) ≡ true
both a b p q = rw (p, q) refl

pub record RunsAgain (text : List ℕ) (at size : ℕ) (before : Option CellRun) (runs : List CellRun) (place next : ℕ) (rest : List ℕ) : Type 0 where
  pub runs_are : runs_at text (length runs) place ≡ runs
  pub met : AllMet (length text) (run_requirements text at size (length runs) before place)
  pub behind : drop next text ≡ rest
  pub there : next ≤ length text

run_again : (text : List ℕ) (place : ℕ) (run : CellRun) (rest : List ℕ) → run.offset < 2 ^ 32 → run.count < 2 ^ 32 → drop place text ≡ run_text run ++ rest
    → (run_at text place ≡ run) × (leb (word_at text (place + 4)) 6 ≡ true) × (drop (place + 12) text ≡ rest) × (place + 12 ≤ length text)
run_again text place run rest offset count e =
    let k = kind_again run.kind in
    let a = word_is text place (place + 4) run.offset (word_bytes (kind_code run.kind) ++ (word_bytes run.count ++ rest)) refl offset e in
    let b = word_is text (place + 4) (place + 8) (kind_code run.kind) (word_bytes run.count ++ rest) (omega arith) k.2 a.behind in
    let c = word_is text (place + 8) (place + 12) run.count rest (omega arith) count b.behind in
    (rw (a.word, b.word, c.word, k.0) refl, rw b.word k.1, c.behind, c.there)

pub runs_again : (text : List ℕ) (at size : ℕ) (before : Option CellRun) (runs : List CellRun) (place next : ℕ) (rest : List ℕ) → size < 2 ^ 32 → AreRuns at size before runs → next ≡ place + 12 * length runs → place ≤ length text
    → drop place text ≡ flat_map run_text runs ++ rest → RunsAgain text at size before runs place next rest
unfolding run_requirements runs_at
runs_again text at size before [] place next rest lt are next-is le e =
    let same : next ≡ place = omega arith in
    record { runs_are = refl; met = tt; behind = ap (λ (k : ℕ). drop k text) same ∙ e; there = omega arith }
runs_again text at size before (run ∷ runs) place next rest lt are next-is le e =
    let f = run_facts at size before run are.0 in
    let one = run_again text place run (flat_map run_text runs ++ rest) (omega (arith, f.longer, f.ends)) (omega (arith, f.longer, f.ends)) (e ∙ append_assoc (run_text run) (flat_map run_text runs) rest) in
    let r = runs_again text at size (Some run) runs (place + 12) next rest lt are.1 (omega arith) one.3 one.2 in
    let same = one.0 in
    let later = r.runs_are in
    record {
      runs_are = cc;
      met = (one.3, (both _ _ one.1 (ap (is_run at size before) same ∙ are.0), subst (λ (x : CellRun). AllMet (length text) (run_requirements text at size (length runs) (Some x) (place + 12))) (sym same) r.met));
      behind = r.behind;
      there = r.there;
    }

-- ---- objects

record ObjectAgain (text : List ℕ) (statics least : ℕ) (object : ObjectValue) (place : ℕ) (rest : List ℕ) : Type 0 where
  object_is : object_at text place ≡ object
  right : first_unmet (length text) (object_requirements text statics least place) ≡ None
  behind : drop (record_end text place) text ≡ rest
  there : record_end text place ≤ length text

record PlaceFacts (statics least at size : ℕ) : Type 0 where
  above : least ≤ at
  below : at + size ≤ statics_start + statics

place_facts : (statics least at size name runs : ℕ) → is_object_place statics least at size name runs ≡ true → PlaceFacts statics least at size
place_facts statics least at size name runs h =
    let a = and_true _ _ h in
    let b = and_true _ _ a.0 in
    let c = and_true _ _ b.0 in
    let d = and_true _ _ c.0 in
    record { above = leb-true _ _ d.1; below = leb-true _ _ c.1 }

pub runs_fit : (statics least : ℕ) (object : ObjectValue) → statics ≤ 1048576 → IsObject statics least object → length object.runs < 2 ^ 32
runs_fit statics least object few is =
    let f = place_facts statics least object.at object.size (length object.name) (length object.runs) is.place in
    let n = run_count object.at object.size None object.runs is.runs (omega arith) in
    omega (arith, f.below)

object_again : (text : List ℕ) (statics least : ℕ) (object : ObjectValue) (place : ℕ) (rest : List ℕ) → statics ≤ 1048576 → IsObject statics least object → drop place text ≡ object_text object ++ rest → ObjectAgain text statics least object place rest
unfolding object_requirements object_at object_text
object_again text statics least object place rest few is e =
    let f = place_facts statics least object.at object.size (length object.name) (length object.runs) is.place in
    let fm = flat_map run_text object.runs in
    let name = object.name in
    let len = length name in
    let body = (name ++ fm) ++ rest in
    let a = word_is text place (place + 4) object.at (word_bytes object.size ++ (word_bytes len ++ (word_bytes (length object.runs) ++ body))) refl (omega (arith, f.below)) e in
    let b = word_is text (place + 4) (place + 8) object.size (word_bytes len ++ (word_bytes (length object.runs) ++ body)) (omega arith) (omega (arith, f.below)) a.behind in
    let c = word_is text (place + 8) (place + 12) len (word_bytes (length object.runs) ++ body) (omega arith) is.name_length b.behind in
    let d = word_is text (place + 12) (place + 16) (length object.runs) body (omega arith) (runs_fit statics least object few is) c.behind in
    let front : drop (place + 16) text ≡ name ++ (fm ++ rest) = d.behind ∙ append_assoc name fm rest in
    let start = name_end text place in
    let name-is : take (word_at text (place + 8)) (drop (place + 16) text) ≡ name = ap (λ (k : ℕ). take k (drop (place + 16) text)) c.word ∙ ap (take len) front ∙ take_at name (fm ++ rest) len refl in
    let start-is : start ≡ place + 16 + len = ap (λ (k : ℕ). place + 16 + k) c.word in
    let behind-name : drop start text ≡ fm ++ rest = ap (λ (k : ℕ). drop k text) start-is ∙ sym (drop-drop len (place + 16) text) ∙ ap (drop len) front ∙ drop_at name (fm ++ rest) len refl in
    let start-there : start ≤ length text = omega (arith, d.there, start-is, ap length front, length-drop (place + 16) text, length-append name (fm ++ rest)) in
    let end-is : record_end text place ≡ start + 12 * length object.runs = ap (λ (k : ℕ). start + 12 * k) d.word in
    let r = runs_again text object.at object.size None object.runs start (record_end text place) rest (omega (arith, f.below)) is.runs end-is start-there behind-name in
    record {
      object_is = rw (a.word, b.word, name-is, d.word, r.runs_are) refl;
      right = none_unmet (length text) (object_requirements text statics least place) (d.there, (rw (a.word, b.word, c.word, d.word) is.place, (start-there, (rw name-is is.name, rw (a.word, b.word, d.word) r.met))));
      behind = r.behind;
      there = r.there;
    }

lower : (text : List ℕ) (place : ℕ) (object : ObjectValue) → object_at text place ≡ object → object.at + object.size + 1 ≡ word_at text place + word_at text (place + 4) + 1
unfolding object_at
lower text place object e = sym (ap (λ (x : ObjectValue). x.at + x.size + 1) e)

objects_again : (text : List ℕ) (statics least : ℕ) (objects : List ObjectValue) (place : ℕ) → statics ≤ 1048576 → AreObjects statics least objects → place ≤ length text → drop place text ≡ flat_map object_text objects
    → (objects_at text (length objects) place ≡ objects) × (first_unmet (length text) (objects_requirements text statics (length objects) least place) ≡ None)
unfolding objects_at objects_requirements
objects_again text statics least [] place few are le e =
    let same : length text ≡ place = omega (arith, ap length e, length-drop place text) in
    (refl, rw (eq-eqb _ _ same) refl)
objects_again text statics least (object ∷ objects) place few are le e =
    let o = object_again text statics least object place (flat_map object_text objects) few are.0 e in
    let r = objects_again text statics (object.at + object.size + 1) objects (record_end text place) few are.1 o.there o.behind in
    let same = o.object_is in
    let later = r.0 in
    let low : object.at + object.size + 1 ≡ word_at text place + word_at text (place + 4) + 1 = lower text place object same in (
      cc,
      after_none (length text) (object_requirements text statics least place) (objects_requirements text statics (length objects) (word_at text place + word_at text (place + 4) + 1) (record_end text place)) o.right
          ∙ subst (λ (x : ℕ). first_unmet (length text) (objects_requirements text statics (length objects) x (record_end text place)) ≡ None) low r.1,
    )

-- ---- the version and the form

version_again : (version : Version) → (version_of (version_number version) ≡ version) × (is_version (version_number version) ≡ true) × (version_number version < 2 ^ 32)
version_again One = (refl, refl, omega arith)
version_again Two = (refl, refl, omega arith)

form_number_again : (form : Form) → (form_of (form_number form) ≡ form) × (leb (form_number form) 1 ≡ true) × (form_number form < 2 ^ 32)
form_number_again OneLength = (refl, refl, omega arith)
form_number_again TwoLengths = (refl, refl, omega arith)

record FormAgain (text : List ℕ) (version : Version) (form : Form) (rest : List ℕ) : Type 0 where
  form_is : form_at version text ≡ form
  right : first_unmet (length text) (form_requirements version text) ≡ None
  behind : drop (header_size version) text ≡ rest
  there : header_size version ≤ length text

form_again : (text : List ℕ) (version : Version) (form : Form) (rest : List ℕ) → is_form version form ≡ true → 32 ≤ length text → drop 32 text ≡ words_text (form_words version form) ++ rest → FormAgain text version form rest
unfolding form_requirements
form_again text One OneLength rest is le e = record { form_is = refl; right = refl; behind = e; there = le }
form_again text One TwoLengths rest is le e = absurd cc
form_again text Two form rest is le e =
    let f = form_number_again form in
    let w = word_is text 32 36 (form_number form) rest refl f.2 e in
    record {
      form_is = ap form_of w.word ∙ f.0;
      right = none_unmet (length text) (HasBytes 36 ∷ (Meets (leb (word_at text 32) 1) (BadField 9) ∷ [])) (w.there, (rw w.word f.1, tt));
      behind = w.behind;
      there = w.there;
    }

-- ---- the image

pub image_again : (image : ImageValue) (text : List ℕ) → IsImage image → text ≡ image_text image → (fault_of text ≡ None) × (image_at text ≡ image)
unfolding fault_of requirements front_requirements header_requirements image_at image_text
image_again image text is e =
    let n = length image.words in
    let s = length image.statics in
    let v = length image.objects in
    let fm = flat_map object_text image.objects in
    let body = words_text image.words ++ (image.statics ++ fm) in
    let formed = words_text (form_words image.version image.form) in
    let words-few : n ≤ 261120 = leb-true _ _ (and_true _ _ is.word_count).1 in
    let statics-few : s ≤ 1048576 = leb-true _ _ (and_true _ _ is.statics_size).0 in
    let stack-few : image.stack ≤ 1048576 = leb-true _ _ (and_true _ _ is.stack).1 in
    let out-few : image.out_cap ≤ 1048576 = leb-true _ _ is.out_cap in
    let entry-few : image.entry + 1 ≤ 4096 + 4 * n = leb-true _ _ (and_true _ _ is.entry).1 in
    let objects-few : v ≤ s = leb-true _ _ is.object_count in
    let version = version_again image.version in
    let r9 = formed ++ body in
    let r8 = word_bytes v ++ r9 in
    let r7 = word_bytes image.entry ++ r8 in
    let r6 = word_bytes image.out_cap ++ r7 in
    let r5 = word_bytes image.stack ++ r6 in
    let r4 = word_bytes s ++ r5 in
    let r3 = word_bytes n ++ r4 in
    let r2 = word_bytes (version_number image.version) ++ r3 in
    let w0 = word_is text 0 4 magic r2 refl (omega arith) e in
    let w1 = word_is text 4 8 (version_number image.version) r3 refl version.2 w0.behind in
    let w2 = word_is text 8 12 n r4 refl (omega arith) w1.behind in
    let w3 = word_is text 12 16 s r5 refl (omega arith) w2.behind in
    let w4 = word_is text 16 20 image.stack r6 refl (omega arith) w3.behind in
    let w5 = word_is text 20 24 image.out_cap r7 refl (omega arith) w4.behind in
    let w6 = word_is text 24 28 image.entry r8 refl (omega arith) w5.behind in
    let w7 = word_is text 28 32 v r9 refl (omega arith) w6.behind in
    let version-is : version_at text ≡ image.version = ap version_of w1.word ∙ version.0 in
    let f = form_again text image.version image.form body is.form w7.there w7.behind in
    let wp = words_place text in
    let sp = statics_place text in
    let op = objects_place text in
    let wp-is : wp ≡ header_size image.version = ap header_size version-is in
    let sp-is : sp ≡ wp + 4 * n = ap (λ (k : ℕ). wp + 4 * k) w2.word in
    let op-is : op ≡ sp + s = ap (λ (k : ℕ). sp + k) w3.word in
    let behind-form : drop wp text ≡ body = ap (λ (k : ℕ). drop k text) wp-is ∙ f.behind in
    let form-there : wp ≤ length text = omega (arith, wp-is, f.there) in
    let ws = words_again text image.words wp sp (image.statics ++ fm) is.words sp-is behind-form form-there in
    let statics-are : take (word_at text 12) (drop sp text) ≡ image.statics = ap (λ (k : ℕ). take k (drop sp text)) w3.word ∙ ap (take s) ws.1 ∙ take_at image.statics fm s refl in
    let behind : drop op text ≡ fm = ap (λ (k : ℕ). drop k text) op-is ∙ sym (drop-drop s sp text) ∙ ap (drop s) ws.1 ∙ drop_at image.statics fm s refl in
    let there : op ≤ length text = omega (arith, ws.2, op-is, ap length ws.1, length-drop sp text, length-append image.statics fm) in
    let os = objects_again text s statics_start image.objects op statics-few is.objects there behind in
    let words-are : words_at text (word_at text 8) wp ≡ image.words = ap (λ (k : ℕ). words_at text k wp) w2.word ∙ ws.0 in
    let objects-are : objects_at text (word_at text 28) op ≡ image.objects = ap (λ (k : ℕ). objects_at text k op) w7.word ∙ os.0 in
    let form-is : form_at (version_at text) text ≡ image.form = ap (λ (x : Version). form_at x text) version-is ∙ f.form_is in
    let head : first_unmet (length text) (header_requirements text) ≡ None = none_unmet (length text) (header_requirements text)
    (w0.there, (eq-eqb _ _ w0.word, (w1.there, (rw w1.word version.1, (w2.there, (rw w2.word is.word_count, (w3.there, (rw w3.word is.statics_size, (w4.there, (rw w4.word is.stack, (w5.there, (rw w5.word is.out_cap, (w6.there, (rw (w2.word, w6.word) is.entry, (w7.there, (rw (w3.word, w7.word) is.object_count, tt)))))))))))))))) in
    let room = HasBytes sp ∷ (HasBytes op ∷ []) in
    let right : first_unmet (length text) (form_requirements (version_at text) text) ≡ None = ap (λ (x : Version). first_unmet (length text) (form_requirements x text)) version-is ∙ f.right in
    let front : first_unmet (length text) (front_requirements text) ≡ None =
    after_none (length text) (header_requirements text) (form_requirements (version_at text) text ++ room) head
    ∙ after_none (length text) (form_requirements (version_at text) text) room right
    ∙ none_unmet (length text) room (ws.2, (there, tt)) in
    let objs : first_unmet (length text) (objects_requirements text (word_at text 12) (word_at text 28) statics_start op) ≡ None =
    ap (λ (k : ℕ). first_unmet (length text) (objects_requirements text k (word_at text 28) statics_start op)) w3.word ∙ ap (λ (k : ℕ). first_unmet (length text) (objects_requirements text s k statics_start op)) w7.word ∙ os.1 in (
      after_none (length text) (front_requirements text) (objects_requirements text (word_at text 12) (word_at text 28) statics_start op) front ∙ objs,
      rw (words-are, statics-are, w4.word, w5.word, w6.word, objects-are, form-is, version-is) refl,
    )
