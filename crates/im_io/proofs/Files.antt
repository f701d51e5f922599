-- Files written one after the other, or the same one again.
use Rattle.std.proofs.Common.{◌≡◌, ◌≤◌, ℕ, ◌+◌, ◌-◌, Bool, true, false, cond, Option, Some, None, List, ◌++◌, take, drop, length, refl, sym, ap, ◌∙◌, subst, arith}
use Rattle.std.proofs.Math.Seq.{take-length}
use Rattle.std.proofs.Math.Path.{fun_ext}
use Rattle.std.specs.Str.{bytes_eq}
use Rattle.std.proofs.lemmas.Slice.Eq.{bytes_eq-Decides}
use Rattle.im_io.specs.Shelf.{Files, Told, WhereTold, ShelfState, SameCounts, WriteFaulted, with_file, Created, Put, Kept}
use Rattle.im_io.specs.Counts.{Rose}
use Rattle.im_io.specs.Whole.{HoldsText, HoldsFirst}
use Rattle.im_io.proofs.Appending.{first_more}

-- ---- what is told before and after two calls

pub told_then : (P Q R : Told → Told → Type 0) (a b c : Option Told) → ((x y z : Told) → P x y → Q y z → R x z) → WhereTold a b P → WhereTold b c Q → WhereTold a c R
told_then P Q R None None None f h k = tt
told_then P Q R None None (Some c) f h k = k
told_then P Q R None (Some b) c f h k = absurd h
told_then P Q R (Some a) None c f h k = absurd h
told_then P Q R (Some a) (Some b) None f h k = k
told_then P Q R (Some a) (Some b) (Some c) f h k = f a b c h k

pub told_as : (P Q : Told → Told → Type 0) (a b : Option Told) → ((x y : Told) → P x y → Q x y) → WhereTold a b P → WhereTold a b Q
told_as P Q None None f h = tt
told_as P Q None (Some b) f h = h
told_as P Q (Some a) None f h = h
told_as P Q (Some a) (Some b) f h = f a b h

-- ---- one file of many

overwritten : (b : Bool) (x y z : Option (List ℕ)) → cond b x (cond b y z) ≡ cond b x z
overwritten true x y z = refl
overwritten false x y z = refl

pub with_file-again : (files : Files) (name xs ys : List ℕ) → with_file (with_file files name xs) name ys ≡ with_file files name ys
with_file-again files name xs ys = fun_ext (λ other. overwritten (bytes_eq other name) (Some ys) (Some xs) (files other))

pub with_file-there : (files : Files) (name xs : List ℕ) → with_file files name xs name ≡ Some xs
with_file-there files name xs = ap (λ b. cond b (Some xs) (files name)) ((bytes_eq-Decides name name).1 refl)

-- the file that is open holds the first bytes of a text
pub record Holds (name text : List ℕ) (count : ℕ) (old new : Told) : Type 0 where
  pub files : new.files ≡ with_file old.files name (take count text)
  pub opened : new.name ≡ name

pub holds_none : (name text : List ℕ) (x y : Told) → Created name x y → Holds name text 0 x y
holds_none name text x y h = record { files = h.files; opened = h.opened }

-- and so many more
pub holds_more : (name text : List ℕ) (i n : ℕ) (x y z : Told) → Holds name text i x y → Put (take (length text - i) (drop i text)) n y z → Holds name text (i + n) x z
holds_more name text i n x y z h k =
    let part : List ℕ = take n (take (length text - i) (drop i text)) in
    let here : Some k.bytes ≡ Some (take i text) =
    sym k.before ∙ ap (λ v. y.files v) h.opened ∙ ap (λ (f : Files). f name) h.files ∙ with_file-there x.files name (take i text) in
    let held : k.bytes ≡ take i text = cc in
    let whole : k.bytes ++ part ≡ take (i + n) text = ap (λ v. v ++ part) held ∙ first_more i n text in
    record {
      files = k.files
          ∙ ap (λ v. with_file y.files v (k.bytes ++ part)) h.opened
          ∙ ap (λ (f : Files). with_file f name (k.bytes ++ part)) h.files
          ∙ with_file-again x.files name (take i text) (k.bytes ++ part)
          ∙ ap (with_file x.files name) whole;
      opened = k.name ∙ h.opened;
    }

-- a text of which so many bytes are there is whole
pub holds_all : (name text : List ℕ) (i : ℕ) (x y : Told) → length text ≤ i → i ≤ length text → Holds name text i x y → HoldsText name text x y
holds_all name text i x y above below h = let whole : i ≡ length text = omega arith in record { files = h.files ∙ ap (with_file x.files name) (ap (λ k. take k text) whole ∙ take-length text) }

pub holds_first : (name text : List ℕ) (i : ℕ) (x y z : Told) → Holds name text i x y → Kept y z → HoldsFirst name text x z
holds_first name text i x y z h k = record { count = i; files = k.files ∙ h.files }

pub same_counts : (a b c : ShelfState) → SameCounts a b → SameCounts b c → SameCounts a c
same_counts a b c h k = record { read_faults = k.read_faults ∙ h.read_faults; write_faults = k.write_faults ∙ h.write_faults; absences = k.absences ∙ h.absences }

pub then_faulted : (a b c : ShelfState) → SameCounts a b → WriteFaulted b c → WriteFaulted a c
then_faulted a b c h k = record {
  read_faults = k.read_faults ∙ h.read_faults;
  write_faults = subst (λ n. Rose n c.write_faults) h.write_faults k.write_faults;
  absences = k.absences ∙ h.absences;
}
