-- Reading words, runs and objects one after the other.
use Rattle.std.proofs.Common.{◌≡◌, ℕ, zero, suc, ◌+◌, ◌-◌, ◌*◌, ◌<◌, ◌≤◌, List, [], ◌∷◌, ◌++◌, length, take, drop, Option, Some, None, refl, sym, ap, ◌∙◌, append_assoc, arith}
use Rattle.std.proofs.lemmas.List.{append-nil, length-take, length-drop}
use Rattle.im_image.specs.declared.object.CellRun.{CellRun}
use Rattle.im_image.specs.declared.fault.ImageFault.{ImageFault}
use Rattle.im_mem.specs.Map.{statics_start}
use Rattle.im_image.specs.Contents.{ObjectValue}
use Rattle.im_image.specs.Faults.{word_at, run_at, words_at, runs_at, object_at, objects_at, name_end, record_end, first_unmet, run_requirements, object_requirements, objects_requirements, IsFaultOf}
use Rattle.im_image.proofs.Unmet.{after_none, stops_in, same_fault}

-- ---- words

-- i of so many words are read
pub record WordsRead (text : List ℕ) (count place i at : ℕ) (words : List ℕ) : Type 0 where
  pub at_is : at ≡ place + 4 * i
  pub words_are : words ++ words_at text (count - i) at ≡ words_at text count place

pub words_start : (text : List ℕ) (count place : ℕ) → WordsRead text count place 0 place []
words_start text count place = let k : count - 0 ≡ count = omega arith in record { at_is = omega arith; words_are = rw k refl }

pub words_go_on : (text : List ℕ) (count place i at word : ℕ) (words more : List ℕ) → i < count → word ≡ word_at text at → more ≡ words ++ word ∷ []
    → WordsRead text count place i at words → WordsRead text count place (i + 1) (at + 4) more
unfolding words_at
words_go_on text count place i at word words more lt is more-is reads =
    let k : count - i ≡ suc (count - (i + 1)) = omega arith in
    let rest = words_at text (count - (i + 1)) (at + 4) in
    let one : words ++ words_at text (count - i) at ≡ words ++ word_at text at ∷ rest = rw k refl in
    record {
      at_is = omega (arith, reads.at_is);
      words_are = ap (λ (x : List ℕ). x ++ rest) more-is ∙ append_assoc words (word ∷ []) rest ∙ ap (λ (x : ℕ). words ++ x ∷ rest) is ∙ sym one ∙ reads.words_are;
    }

pub words_end : (text : List ℕ) (count place i at : ℕ) (words : List ℕ) → count ≤ i → WordsRead text count place i at words → words ≡ words_at text count place
unfolding words_at
words_end text count place i at words le reads =
    let k : count - i ≡ 0 = omega arith in
    let one : words ++ words_at text (count - i) at ≡ words = rw k (append-nil words) in
    sym one ∙ reads.words_are

-- ---- runs

-- i of so many runs are read
pub record RunsRead (text : List ℕ) (at size count place i next : ℕ) (before : Option CellRun) (runs : List CellRun) : Type 0 where
  pub next_is : next ≡ place + 12 * i
  pub there : next ≤ length text
  pub runs_are : runs ++ runs_at text (count - i) next ≡ runs_at text count place
  pub right : first_unmet (length text) (run_requirements text at size (count - i) before next) ≡ first_unmet (length text) (run_requirements text at size count None place)

pub runs_start : (text : List ℕ) (at size count place : ℕ) → place ≤ length text → RunsRead text at size count place 0 place None []
runs_start text at size count place le =
    let k : count - 0 ≡ count = omega arith in
    record { next_is = omega arith; there = le; runs_are = rw k refl; right = rw k refl }

one_run : (text : List ℕ) (at size n next : ℕ) (before : Option CellRun) → run_requirements text at size (suc n) before next ≡ run_requirements text at size 1 before next ++ run_requirements text at size n (Some (run_at text next)) (next + 12)
unfolding run_requirements
one_run text at size n next before = refl

pub runs_go_on : (text : List ℕ) (at size count place i next : ℕ) (before : Option CellRun) (run : CellRun) (runs more : List CellRun) → i < count → run ≡ run_at text next → next + 12 ≤ length text
    → first_unmet (length text) (run_requirements text at size 1 before next) ≡ None → more ≡ runs ++ run ∷ []
    → RunsRead text at size count place i next before runs → RunsRead text at size count place (i + 1) (next + 12) (Some run) more
unfolding runs_at
runs_go_on text at size count place i next before run runs more lt is fits right more-is reads =
    let n = count - (i + 1) in
    let k : count - i ≡ suc n = omega arith in
    let rest = runs_at text n (next + 12) in
    let one : runs ++ runs_at text (count - i) next ≡ runs ++ run_at text next ∷ rest = rw k refl in
    let len = length text in
    let first : first_unmet len (run_requirements text at size (count - i) before next) ≡ first_unmet len (run_requirements text at size n (Some (run_at text next)) (next + 12)) =
    rw k (ap (first_unmet len) (one_run text at size n next before) ∙ after_none len (run_requirements text at size 1 before next) (run_requirements text at size n (Some (run_at text next)) (next + 12)) right) in
    record {
      next_is = omega (arith, reads.next_is);
      there = fits;
      runs_are = ap (λ (x : List CellRun). x ++ rest) more-is ∙ append_assoc runs (run ∷ []) rest ∙ ap (λ (x : CellRun). runs ++ x ∷ rest) is ∙ sym one ∙ reads.runs_are;
      right = ap (λ (x : CellRun). first_unmet len (run_requirements text at size n (Some x) (next + 12))) is ∙ sym first ∙ reads.right;
    }

pub runs_stop : (text : List ℕ) (at size count place i next : ℕ) (before : Option CellRun) (runs : List CellRun) (fault : ImageFault) → i < count
    → IsFaultOf fault (first_unmet (length text) (run_requirements text at size 1 before next))
    → RunsRead text at size count place i next before runs → IsFaultOf fault (first_unmet (length text) (run_requirements text at size count None place))
runs_stop text at size count place i next before runs fault lt wrong reads =
    let n = count - (i + 1) in
    let k : count - i ≡ suc n = omega arith in
    let len = length text in
    let later = run_requirements text at size n (Some (run_at text next)) (next + 12) in
    let e : first_unmet len (run_requirements text at size 1 before next ++ later) ≡ first_unmet len (run_requirements text at size (count - i) before next) =
    rw k (ap (first_unmet len) (sym (one_run text at size n next before))) in
    same_fault fault _ _ (e ∙ reads.right) (stops_in len (run_requirements text at size 1 before next) later fault wrong)

pub record RunsDone (text : List ℕ) (at size count place : ℕ) (runs : List CellRun) : Type 0 where
  pub there : place + 12 * count ≤ length text
  pub runs_are : runs ≡ runs_at text count place
  pub right : first_unmet (length text) (run_requirements text at size count None place) ≡ None

pub runs_end : (text : List ℕ) (at size count place i next : ℕ) (before : Option CellRun) (runs : List CellRun) → count ≤ i
    → RunsRead text at size count place i next before runs → RunsDone text at size count place runs
unfolding runs_at run_requirements
runs_end text at size count place i next before runs le reads =
    let k : count - i ≡ 0 = omega arith in
    let one : runs ++ runs_at text (count - i) next ≡ runs = rw k (append-nil runs) in
    let none : first_unmet (length text) (run_requirements text at size (count - i) before next) ≡ None = rw k refl in
    record { there = omega (arith, reads.next_is, reads.there); runs_are = sym one ∙ reads.runs_are; right = sym reads.right ∙ none }

-- ---- objects

-- i of so many objects are read
pub record ObjectsRead (text : List ℕ) (statics count place i least next : ℕ) (objects : List ObjectValue) : Type 0 where
  pub there : next ≤ length text
  pub objects_are : objects ++ objects_at text (count - i) next ≡ objects_at text count place
  pub right : first_unmet (length text) (objects_requirements text statics (count - i) least next) ≡ first_unmet (length text) (objects_requirements text statics count statics_start place)

pub objects_start : (text : List ℕ) (statics count place : ℕ) → place ≤ length text → ObjectsRead text statics count place 0 statics_start place []
objects_start text statics count place le =
    let k : count - 0 ≡ count = omega arith in
    record { there = le; objects_are = rw k refl; right = rw k refl }

one_object : (text : List ℕ) (statics n least next : ℕ) → objects_requirements text statics (suc n) least next ≡ object_requirements text statics least next ++ objects_requirements text statics n (word_at text next + word_at text (next + 4) + 1) (record_end text next)
unfolding objects_requirements
one_object text statics n least next = refl

pub length-runs_at : (text : List ℕ) (n place : ℕ) → length (runs_at text n place) ≡ n
unfolding runs_at
length-runs_at text zero place = refl
length-runs_at text (suc n) place = ap suc (length-runs_at text n (place + 12))

-- where the object that is read ends
pub end_is : (text : List ℕ) (next : ℕ) (object : ObjectValue) → object ≡ object_at text next → record_end text next ≤ length text
    → next + (16 + length object.name + 12 * length object.runs) ≡ record_end text next
unfolding object_at
end_is text next object is fits =
    let name : length object.name ≡ length (take (word_at text (next + 8)) (drop (next + 16) text)) = ap (λ (x : ObjectValue). length x.name) is in
    let runs : length object.runs ≡ length (runs_at text (word_at text (next + 12)) (name_end text next)) = ap (λ (x : ObjectValue). length x.runs) is in
    omega (arith, length-runs_at text (word_at text (next + 12)) (name_end text next), length-take (word_at text (next + 8)) (drop (next + 16) text), length-drop (next + 16) text)

pub objects_go_on : (text : List ℕ) (statics count place i least next lower after : ℕ) (object : ObjectValue) (objects more : List ObjectValue) → i < count → object ≡ object_at text next → record_end text next ≤ length text
    → lower ≡ object.at + object.size + 1 → after ≡ record_end text next
    → first_unmet (length text) (object_requirements text statics least next) ≡ None → more ≡ objects ++ object ∷ []
    → ObjectsRead text statics count place i least next objects → ObjectsRead text statics count place (i + 1) lower after more
unfolding objects_at object_at
objects_go_on text statics count place i least next lower after object objects more lt is fits lower-is after-is right more-is reads =
    let n = count - (i + 1) in
    let k : count - i ≡ suc n = omega arith in
    let rest = objects_at text n (record_end text next) in
    let one : objects ++ objects_at text (count - i) next ≡ objects ++ object_at text next ∷ rest = rw k refl in
    let len = length text in
    let low = word_at text next + word_at text (next + 4) + 1 in
    let low-is : lower ≡ low = lower-is ∙ ap (λ (x : ObjectValue). x.at + x.size + 1) is in
    let first : first_unmet len (objects_requirements text statics (count - i) least next) ≡ first_unmet len (objects_requirements text statics n low (record_end text next)) =
    rw k (ap (first_unmet len) (one_object text statics n least next) ∙ after_none len (object_requirements text statics least next) (objects_requirements text statics n low (record_end text next)) right) in
    record {
      there = rw after-is fits;
      objects_are = rw after-is (ap (λ (x : List ObjectValue). x ++ rest) more-is ∙ append_assoc objects (object ∷ []) rest ∙ ap (λ (x : ObjectValue). objects ++ x ∷ rest) is ∙ sym one ∙ reads.objects_are);
      right = rw (after-is, low-is) (sym first ∙ reads.right);
    }

pub objects_stop : (text : List ℕ) (statics count place i least next : ℕ) (objects : List ObjectValue) (fault : ImageFault) → i < count
    → IsFaultOf fault (first_unmet (length text) (object_requirements text statics least next))
    → ObjectsRead text statics count place i least next objects → IsFaultOf fault (first_unmet (length text) (objects_requirements text statics count statics_start place))
objects_stop text statics count place i least next objects fault lt wrong reads =
    let n = count - (i + 1) in
    let k : count - i ≡ suc n = omega arith in
    let len = length text in
    let later = objects_requirements text statics n (word_at text next + word_at text (next + 4) + 1) (record_end text next) in
    let e : first_unmet len (object_requirements text statics least next ++ later) ≡ first_unmet len (objects_requirements text statics (count - i) least next) =
    rw k (ap (first_unmet len) (sym (one_object text statics n least next))) in
    same_fault fault _ _ (e ∙ reads.right) (stops_in len (object_requirements text statics least next) later fault wrong)

pub objects_end : (text : List ℕ) (statics count place i least next : ℕ) (objects : List ObjectValue) → count ≤ i
    → ObjectsRead text statics count place i least next objects
    → (objects ≡ objects_at text count place) × (first_unmet (length text) (objects_requirements text statics 0 least next) ≡ first_unmet (length text) (objects_requirements text statics count statics_start place))
unfolding objects_at
objects_end text statics count place i least next objects le reads =
    let k : count - i ≡ 0 = omega arith in
    let one : objects ++ objects_at text (count - i) next ≡ objects = rw k (append-nil objects) in
    let none : first_unmet (length text) (objects_requirements text statics (count - i) least next) ≡ first_unmet (length text) (objects_requirements text statics 0 least next) = rw k refl in
    (sym one ∙ reads.objects_are, sym none ∙ reads.right)
