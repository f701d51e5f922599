-- What a call does to what a shelf in memory tells of its open file.
use Rattle.std.proofs.Common.{◌≡◌, ◌≤◌, ℕ, ◌+◌, ◌-◌, min, Bool, true, false, cond, Some, List, [], ◌++◌, get_or, length, take, drop, set, refl, sym, ap, ◌∙◌, arith}
use Rattle.std.proofs.lemmas.Bool.{leb-true}
use Rattle.im_io.specs.Shelf as shelf
use Rattle.im_io.specs.Shelf.{Files, Mode, Took, Put, Created, with_file}
use Rattle.im_io.specs.declared.mem_shelf.Place.{Place}
use Rattle.im_io.specs.declared.mem_shelf.Place.TheVariants.{Closed, Reading, Writing}
use Rattle.im_io.specs.MemFiles.{File, file_at, files_of, bytes_of, is_first, is_readable, mode_of, told_of}
use Rattle.im_io.specs.MemShelves.{file_open}
use Rattle.im_io.proofs.MemFiles.{Found, both, bytes_there, element, found_content, first_found, files_set, named_set, first_set}

reading : (b : Bool) → cond b shelf.Reading shelf.Closed ≡ shelf.Reading → b ≡ true
reading true h = refl
reading false h = absurd cc

writing : (b : Bool) → cond b shelf.Writing shelf.Closed ≡ shelf.Writing → b ≡ true
writing true h = refl
writing false h = absurd cc

pub readable : (files : List File) (place : Place) (i r : ℕ) → place ≡ Reading i r → mode_of files place ≡ shelf.Reading → is_readable files i r ≡ true
readable files place i r at h = reading (is_readable files i r) (sym (ap (mode_of files) at) ∙ h)

pub writable : (files : List File) (place : Place) (i : ℕ) → place ≡ Writing i → mode_of files place ≡ shelf.Writing → is_first files i ≡ true
writable files place i at h = writing (is_first files i) (sym (ap (mode_of files) at) ∙ h)

-- the file that is open to be written
pub file_written : (files : List File) (place : Place) (i : ℕ) (file : File) → place ≡ Writing i → mode_of files place ≡ shelf.Writing → file ≡ get_or files i file → file_open files place ≡ file
file_written files place i file at mode is = ap (file_open files) at ∙ element files i file (first_found files i (writable files place i at mode)).0.within is

pub took : (files : List File) (place : Place) (i r : ℕ) (file : File) (buffer filled : List ℕ) (count : ℕ) → place ≡ Reading i r → mode_of files place ≡ shelf.Reading
    → file ≡ get_or files i file
    → count ≡ min (length buffer) (length (bytes_of file.content) - r)
    → take count filled ≡ take count (drop r (bytes_of file.content))
    → Took buffer filled count (told_of files place) (told_of files (Reading i (r + count)))
took files place i r file buffer filled count at mode is many next =
    let parts = both _ _ (readable files place i r at mode) in
    let opened = first_found files i parts.0 in
    let here : file_at files i ≡ file = element files i file opened.0.within is in
    let content : (file_at files i).content ≡ file.content = ap (λ (f : File). f.content) here in
    let inside : r ≤ length (bytes_of file.content) = rw content at (leb-true _ _ parts.1) in
    rw at (record {
      files = refl;
      name = refl;
      place = refl;
      bytes = bytes_of file.content;
      before = found_content files (file_at files i).name i opened.0 ∙ bytes_there _ opened.1 ∙ ap (λ c. Some (bytes_of c)) content;
      next = next;
      inside = omega arith;
      end = λ none some. omega arith;
    })

pub put : (files : List File) (place : Place) (i : ℕ) (file : File) (piece : List ℕ) (count : ℕ) (new : File) → place ≡ Writing i → mode_of files place ≡ shelf.Writing
    → file ≡ get_or files i file
    → new ≡ record { name = file.name; content = Some (bytes_of file.content ++ take count piece); room = file.room }
    → Put piece count (told_of files place) (told_of (set files i new) place)
put files place i file piece count new at mode is changed =
    let opened = first_found files i (writable files place i at mode) in
    let here : file_at files i ≡ file = element files i file opened.0.within is in
    let named : new.name ≡ (file_at files i).name = ap (λ (f : File). f.name) changed ∙ ap (λ (f : File). f.name) (sym here) in
    let holds : new.content ≡ Some (bytes_of file.content ++ take count piece) = ap (λ (f : File). f.content) changed in
    rw at (record {
      name = named_set files i _ new opened.0 named;
      bytes = bytes_of file.content;
      before = found_content files (file_at files i).name i opened.0 ∙ bytes_there _ opened.1 ∙ ap (λ (f : File). Some (bytes_of f.content)) here;
      files = files_set files i _ _ new opened.0 named holds;
    })

-- a file that was found and made empty
pub record Emptied (files : List File) (name : List ℕ) (i : ℕ) (new : File) : Type 0 where
  pub mode : mode_of (set files i new) (Writing i) ≡ shelf.Writing
  pub created : (place : Place) → Created name (told_of files place) (told_of (set files i new) (Writing i))

pub told_files : (files : List File) (place : Place) → (told_of files place).files ≡ files_of files
told_files files Closed = refl
told_files files (Reading i r) = refl
told_files files (Writing i) = refl

pub emptied : (files : List File) (name : List ℕ) (i : ℕ) (file new : File) → Found files name i → file ≡ get_or files i file → new ≡ record { name = file.name; content = Some []; room = file.room } → Emptied files name i new
emptied files name i file new found is changed =
    let here : file_at files i ≡ file = element files i file found.within is in
    let named : new.name ≡ name = ap (λ (f : File). f.name) changed ∙ ap (λ (f : File). f.name) (sym here) ∙ found.named in
    let holds : new.content ≡ Some [] = ap (λ (f : File). f.content) changed in
    record {
      mode = ap (λ b. cond b shelf.Writing shelf.Closed) (first_set files i name [] new found named holds);
      created = λ place. record {
        files = files_set files i name [] new found named holds ∙ ap (λ (all : Files). with_file all name []) (sym (told_files files place));
        opened = named_set files i name new found named;
      };
    }
