-- Reading a text line by line.
use Rattle.std.proofs.Common.{◌≡◌, ℕ, ◌+◌, ◌^◌, ◌<◌, ◌≤◌, List, length, get_or, take, refl, sym, ap, ◌∙◌, arith}
use Rattle.std.specs.Prelude.{fold}
use Rattle.std.specs.List.{slice_split}
use Rattle.std.proofs.lemmas.List.{take_all}
use Rattle.std.proofs.lemmas.List.Splits.{length-slice_split}
use Rattle.std.proofs.lemmas.List.Sums.{fold_more, count_by-le-length}
use Rattle.im_cmd_check.specs.Reading.{Reading, enter, unread, is_line_end, presumed}

-- the first i lines of a text were read
pub record ReadsTo (name text : List ℕ) (i : ℕ) (reading : Reading) : Type 0 where
  pub reading_is : reading ≡ fold enter (unread name) (take i (slice_split is_line_end text))
  pub small : reading.line ≤ 2 ^ 32 + i

pub starts : (name text : List ℕ) → ReadsTo name text 0 (unread name)
starts name text = record { reading_is = refl; small = omega arith }

pub goes_on : (name text part : List ℕ) (i : ℕ) (before after : Reading) → i < length (slice_split is_line_end text)
    → part ≡ get_or (slice_split is_line_end text) i part → after ≡ enter before part
    → ((k : ℕ) → before.line ≤ 2 ^ 32 + k → after.line ≤ 2 ^ 32 + (k + 1)) → ReadsTo name text i before → ReadsTo name text (i + 1) after
goes_on name text part i before after lt at is few reads =
    let parts = slice_split is_line_end text in
    record {
      reading_is = is ∙ ap (λ r. enter r part) reads.reading_is ∙ ap (enter (fold enter (unread name) (take i parts))) at ∙ sym (fold_more enter (unread name) parts i part lt);
      small = few i reads.small;
    }

pub ends : (name text : List ℕ) (i : ℕ) (reading : Reading) → length (slice_split is_line_end text) ≤ i → ReadsTo name text i reading → reading ≡ presumed name text
unfolding presumed
ends name text i reading le reads = reads.reading_is ∙ ap (fold enter (unread name)) (take_all i (slice_split is_line_end text) le)

-- a line has a number that another one can follow
pub fits : (name text : List ℕ) (i : ℕ) (reading : Reading) → length text < 2 ^ 32 → i < length (slice_split is_line_end text) → ReadsTo name text i reading → reading.line < 2 ^ 63
fits name text i reading short lt reads =
    let lines = length-slice_split is_line_end text in
    let most = count_by-le-length is_line_end text in
    omega (arith, lines, most, reads.small)
