-- The first file of a name among many.
use Rattle.std.proofs.Common.{◌≡◌, ◌≤◌, ◌<◌, ◌≢◌, ℕ, Bool, true, false, cond, ◌&&◌, ltb, Option, Some, None, List, length, set, get_or, inl, inr, refl, sym, ap, ◌∙◌, arith}
use Rattle.std.specs.Prelude.{◌⊎◌, is_some, position}
use Rattle.std.specs.Str.{bytes_eq}
use Rattle.std.proofs.Math.ListN.{get_or-eq_default}
use Rattle.std.proofs.Math.Seq.{map-set_same}
use Rattle.std.proofs.Math.Path.{fun_ext}
use Rattle.std.proofs.lemmas.Bool.{ltb-true, ltb-false, lt-ltb, eqb-true, eq-eqb}
use Rattle.std.proofs.lemmas.List.{get_or_default, get_or-set_same, get_or-set_other}
use Rattle.std.proofs.lemmas.List.Folds.{position_or_len-set}
use Rattle.std.proofs.lemmas.List.Sums.{fails_before_first}
use Rattle.std.proofs.lemmas.List.Quantifiers.{position-Some}
use Rattle.std.proofs.lemmas.Slice.Eq.{bytes_eq-Decides}
use Rattle.im_io.specs.Shelf.{with_file}
use Rattle.im_io.specs.MemFiles.{File, no_file, file_at, number_of, files_of, bytes_of, is_first, rooms_of, IsGiven}

pub both : (a b : Bool) → (a && b) ≡ true → (a ≡ true) × (b ≡ true)
both true b h = (refl, h)
both false b h = absurd cc

both_true : (a b : Bool) → a ≡ true → b ≡ true → (a && b) ≡ true
both_true true b h k = k
both_true false b h k = absurd cc

cases : (b : Bool) → (b ≡ true) ⊎ (b ≡ false)
cases true = inl refl
cases false = inr refl

past_the_last : (files : List File) (n : ℕ) → length files ≤ n → (file_at files n).content ≡ None
past_the_last files n past = ap (λ (f : File). f.content) (get_or-eq_default files no_file past)

-- a file that is there has a number
pub within : (files : List File) (n : ℕ) → is_some (file_at files n).content ≡ true → n < length files
within files n h = elim (cases (ltb n (length files))) [
  | inl below ↦ ltb-true n (length files) below
  | inr past ↦ let gone = past_the_last files n (ltb-false n (length files) past) in absurd cc
]

-- an element that was taken out by its number
pub element : (files : List File) (n : ℕ) (file : File) → n < length files → file ≡ get_or files n file → file_at files n ≡ file
element files n file below is = get_or_default files n no_file file below ∙ sym is

pub bytes_there : (content : Option (List ℕ)) → is_some content ≡ true → content ≡ Some (bytes_of content)
bytes_there None h = absurd cc
bytes_there (Some bytes) h = refl

-- ---- what a search for a name finds

pub record Found (files : List File) (name : List ℕ) (n : ℕ) : Type 0 where
  pub within : n < length files
  pub named : (file_at files n).name ≡ name
  pub first : number_of files name ≡ n

if_some : (b : Bool) (k n : ℕ) → cond b (Some k) None ≡ Some n → k ≡ n
if_some true k n h = cc
if_some false k n h = absurd cc

if_none : (b : Bool) (k : ℕ) → cond b (Some k) None ≡ None → b ≡ false
if_none true k h = absurd cc
if_none false k h = refl

pub found : (files : List File) (name : List ℕ) (n : ℕ) → Some n ≡ position (λ (file : File). bytes_eq name file.name) files → Found files name n
found files name n h =
    let all = position-Some (λ (file : File). bytes_eq name file.name) files n no_file (sym h) in
    record {
      within = all.0;
      named = sym ((bytes_eq-Decides name (file_at files n).name).0 all.1);
      first = if_some (ltb (number_of files name) (length files)) (number_of files name) n (sym h);
    }

pub not_found : (files : List File) (name : List ℕ) → None ≡ position (λ (file : File). bytes_eq name file.name) files → files_of files name ≡ None
not_found files name h =
    past_the_last files (number_of files name) (ltb-false (number_of files name) (length files) (if_none (ltb (number_of files name) (length files)) (number_of files name) (sym h)))

-- a file that is found is one that was given
pub found_given : (files : List File) (name : List ℕ) (n : ℕ) → Found files name n → IsGiven name files
found_given files name n h = (n, file_at files n, h.within, get_or_default files n (file_at files n) no_file h.within, h.named)

pub not_given : (files : List File) (name : List ℕ) → None ≡ position (λ (file : File). bytes_eq name file.name) files → IsGiven name files → ⊥
not_given files name h given =
    let p : File → Bool = λ (file : File). bytes_eq name file.name in
    let past : length files ≤ number_of files name = ltb-false (number_of files name) (length files) (if_none (ltb (number_of files name) (length files)) (number_of files name) (sym h)) in
    let no : p (get_or files given.0 given.1) ≡ false = fails_before_first p files given.0 given.1 (omega (arith, past, given.2)) in
    let yes : p (get_or files given.0 given.1) ≡ true = ap p given.3 ∙ (bytes_eq-Decides name given.1.name).1 (sym given.4) in
    absurd cc

pub found_content : (files : List File) (name : List ℕ) (n : ℕ) → Found files name n → files_of files name ≡ (file_at files n).content
found_content files name n h = ap (λ k. (file_at files k).content) h.first

pub found_first : (files : List File) (name : List ℕ) (n : ℕ) → Found files name n → is_some (file_at files n).content ≡ true → is_first files n ≡ true
found_first files name n h there = both_true _ _ there (eq-eqb _ n (ap (number_of files) h.named ∙ h.first))

-- what is open is what its name finds
pub first_found : (files : List File) (n : ℕ) → is_first files n ≡ true → Found files (file_at files n).name n × (is_some (file_at files n).content ≡ true)
first_found files n h =
    let parts = both _ _ h in
    (record { within = within files n parts.0; named = refl; first = eqb-true _ n parts.1 }, parts.0)

-- ---- a file that is changed

number_set : (files : List File) (n : ℕ) (new : File) (other : List ℕ) → new.name ≡ (file_at files n).name → number_of (set files n new) other ≡ number_of files other
number_set files n new other same = position_or_len-set (λ (file : File). bytes_eq other file.name) files n new no_file (ap (bytes_eq other) same)

other_number : (files : List File) (n : ℕ) (name other : List ℕ) → Found files name n → bytes_eq other name ≡ false → number_of files other ≢ n
other_number files n name other h differs same =
    let p : File → Bool = λ (file : File). bytes_eq other file.name in
    let here : position p files ≡ Some n =
    ap (λ b. cond b (Some (number_of files other)) None) (lt-ltb (number_of files other) (length files) (omega (arith, same, h.within))) ∙ ap Some same in
    let all = position-Some p files n no_file here in
    let no : bytes_eq other (file_at files n).name ≡ false = ap (bytes_eq other) h.named ∙ differs in
    absurd cc

content_set : (files : List File) (n : ℕ) (name bytes : List ℕ) (new : File) → Found files name n → new.name ≡ name → new.content ≡ Some bytes
    → (other : List ℕ) (b : Bool) → bytes_eq other name ≡ b → files_of (set files n new) other ≡ cond b (Some bytes) (files_of files other)
content_set files n name bytes new h named holds other true e =
    let same : other ≡ name = (bytes_eq-Decides other name).0 e in
    ap (λ k. (file_at (set files n new) k).content) (number_set files n new other (named ∙ sym h.named) ∙ ap (number_of files) same ∙ h.first)
    ∙ ap (λ (f : File). f.content) (get_or-set_same files n new no_file h.within)
    ∙ holds
content_set files n name bytes new h named holds other false e =
    ap (λ k. (file_at (set files n new) k).content) (number_set files n new other (named ∙ sym h.named))
    ∙ ap (λ (f : File). f.content) (get_or-set_other files n (number_of files other) new no_file (other_number files n name other h e))

pub files_set : (files : List File) (n : ℕ) (name bytes : List ℕ) (new : File) → Found files name n → new.name ≡ name → new.content ≡ Some bytes
    → files_of (set files n new) ≡ with_file (files_of files) name bytes
files_set files n name bytes new h named holds = fun_ext (λ other. content_set files n name bytes new h named holds other (bytes_eq other name) refl)

pub named_set : (files : List File) (n : ℕ) (name : List ℕ) (new : File) → Found files name n → new.name ≡ name → (file_at (set files n new) n).name ≡ name
named_set files n name new h named = ap (λ (f : File). f.name) (get_or-set_same files n new no_file h.within) ∙ named

pub first_set : (files : List File) (n : ℕ) (name bytes : List ℕ) (new : File) → Found files name n → new.name ≡ name → new.content ≡ Some bytes → is_first (set files n new) n ≡ true
first_set files n name bytes new h named holds =
    let here = get_or-set_same files n new no_file h.within in
    both_true _ _ (ap (λ (f : File). is_some f.content) here ∙ ap is_some holds)
    (eq-eqb _ n (ap (number_of (set files n new)) (named_set files n name new h named) ∙ number_set files n new name (named ∙ sym h.named) ∙ h.first))

pub rooms_set : (files : List File) (n : ℕ) (file new : File) → file ≡ get_or files n file → new.name ≡ file.name → new.room ≡ file.room → rooms_of (set files n new) ≡ rooms_of files
rooms_set files n file new is named room =
    let same : (new.name, new.room) ≡ (file.name, file.room) = cc in
    map-set_same (λ (f : File). (f.name, f.room)) files n new file (same ∙ ap (λ (f : File). (f.name, f.room)) is)
