-- A file read piece by piece.
use Rattle.std.proofs.Common.{◌≡◌, ◌≤◌, ℕ, ◌+◌, Option, Some, None, List, [], ◌++◌, take, drop, length, refl, sym, ap, ◌∙◌, subst, length-take, length-append, arith}
use Rattle.std.proofs.Math.Seq.{take-add}
use Rattle.std.specs.Prelude.{IsSome, Result, Ok, Err}
use Rattle.im_io.specs.declared.fault.ReadFault.{ReadFault}
use Rattle.im_io.specs.declared.fault.ReadFault.TheVariants.{Absent, Fault, TooLong, OutOfMemory}
use Rattle.im_io.specs.Counts.{Rose}
use Rattle.im_io.specs.Shelf.{Files, Told, Took, Opened, ShelfState, SameCounts}
use Rattle.im_io.specs.Whole.{AtStart, ReadsOpen, ReadWholeCounts, ReadsWhole}
use Rattle.im_io.proofs.Files.{same_counts}

-- the first bytes of the open file were read
pub record Progress (whole done : List ℕ) (old new : Told) : Type 0 where
  pub place : new.place ≡ length done
  pub first : take (length done) whole ≡ done
  pub inside : length done ≤ length whole

pub record SoFar (done : List ℕ) (old new : Told) : Type 0 where
  pub files : new.files ≡ old.files
  pub name : new.name ≡ old.name
  pub progress : (whole : List ℕ) → AtStart whole old → Progress whole done old new

pub so_far_none : (x : Told) → SoFar [] x x
so_far_none x = record { files = refl; name = refl; progress = λ whole start. record { place = start.place; first = refl; inside = omega arith } }

-- the bytes of the file that a read was made of
file_is : (done whole buffer filled : List ℕ) (count : ℕ) (x y z : Told) → AtStart whole x → SoFar done x y → (t : Took buffer filled count y z) → t.bytes ≡ whole
file_is done whole buffer filled count x y z start so t =
    let both : Some t.bytes ≡ Some whole = sym t.before ∙ ap (λ v. y.files v) so.name ∙ ap (λ (f : Files). f x.name) so.files ∙ start.there in
    cc

progress_more : (done whole buffer filled : List ℕ) (count : ℕ) (x y z : Told) → count ≤ length filled → AtStart whole x → SoFar done x y → Took buffer filled count y z → Progress whole (done ++ take count filled) x z
progress_more done whole buffer filled count x y z fits start so t =
    let before = so.progress whole start in
    let file = file_is done whole buffer filled count x y z start so t in
    let taken : length (take count filled) ≡ count = simp length-take (omega arith) in
    let long : length (done ++ take count filled) ≡ length done + count = length-append done (take count filled) ∙ ap (λ n. length done + n) taken in
    let next : take count filled ≡ take count (drop (length done) whole) = t.next ∙ ap (λ p. take count (drop p t.bytes)) before.place ∙ ap (λ v. take count (drop (length done) v)) file in
    record {
      place = t.place ∙ ap (λ n. n + count) before.place ∙ sym long;
      first = ap (λ n. take n whole) long ∙ take-add (length done) count whole ∙ ap (λ v. v ++ take count (drop (length done) whole)) before.first ∙ ap (λ v. done ++ v) (sym next);
      inside = rw long (rw (← before.place, ← file) t.inside);
    }

pub so_far_more : (done buffer filled : List ℕ) (count : ℕ) (x y z : Told) → count ≤ length filled → SoFar done x y → Took buffer filled count y z → SoFar (done ++ take count filled) x z
so_far_more done buffer filled count x y z fits so t = record {
  files = t.files ∙ so.files;
  name = t.name ∙ so.name;
  progress = λ whole start. progress_more done whole buffer filled count x y z fits start so t;
}

-- ---- opened, and then read to its end

pub counts_then : {A : Type 0} (r : Result A ReadFault) (a b c : ShelfState) → SameCounts a b → ReadWholeCounts r b c → ReadWholeCounts r a c
counts_then (Ok bytes) a b c h k = same_counts a b c h k
counts_then (Err Absent) a b c h k = record {
  read_faults = k.read_faults ∙ h.read_faults;
  write_faults = k.write_faults ∙ h.write_faults;
  absences = subst (λ n. Rose n c.absences) h.absences k.absences;
}
counts_then (Err Fault) a b c h k = record {
  read_faults = subst (λ n. Rose n c.read_faults) h.read_faults k.read_faults;
  write_faults = k.write_faults ∙ h.write_faults;
  absences = k.absences ∙ h.absences;
}
counts_then (Err (TooLong limit)) a b c h k = same_counts a b c h k
counts_then (Err OutOfMemory) a b c h k = same_counts a b c h k

whole_of : (o : Option (List ℕ)) → IsSome o → (whole : List ℕ) × (o ≡ Some whole)
whole_of None h = absurd cc
whole_of (Some whole) h = (whole, refl)

start_of : (name whole : List ℕ) (x y : Told) → Opened name x y → x.files name ≡ Some whole → AtStart whole y
start_of name whole x y h there = record {
  place = h.place;
  there = ap (λ (f : Files). f y.name) h.files ∙ ap x.files h.opened ∙ there;
}

pub whole_read : {V : Type 0} (items : V → List ℕ) (name : List ℕ) (limit : ℕ) (r : Result V ReadFault) (x y z : Told) → Opened name x y → ReadsOpen items limit r y z → ReadsWhole items name limit r x z
whole_read items name limit (Ok bytes) x y z h k =
    let found = whole_of (x.files name) h.there in
    let answer = k.answer found.0 (start_of name found.0 x y h found.1) in
    record { files = k.files ∙ h.files; whole = found.1 ∙ ap Some (sym answer.0); short = rw answer.0 answer.1; at_end = answer.2 ∙ ap length (sym answer.0) }
whole_read items name limit (Err Absent) x y z h k =
    let found = whole_of (x.files name) h.there in
    absurd (k.answer found.0 (start_of name found.0 x y h found.1))
whole_read items name limit (Err Fault) x y z h k = record { files = k.files ∙ h.files }
whole_read items name limit (Err (TooLong most)) x y z h k =
    let found = whole_of (x.files name) h.there in
    let answer = k.answer found.0 (start_of name found.0 x y h found.1) in
    (answer.0, record { files = k.files ∙ h.files; bytes = found.0; whole = found.1; longer = answer.1; stopped = answer.2 })
whole_read items name limit (Err OutOfMemory) x y z h k = record { files = k.files ∙ h.files }
