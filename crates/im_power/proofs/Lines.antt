-- Reading a trace text line by line.
use Rattle.std.proofs.Common.{◌≡◌, ℕ, ◌+◌, ◌-◌, ◌^◌, ◌<◌, ◌≤◌, min, List, [], ◌∷◌, ◌++◌, length, get_or, drop, map, Some, None, Ok, Err, refl, sym, ap, ◌∙◌, append_assoc, arith, add-one}
use Rattle.std.specs.List.{slice_split}
use Rattle.std.proofs.Math.Seq.{drop-cons}
use Rattle.std.proofs.lemmas.Bool.{le-ltb, lt-ltb}
use Rattle.std.proofs.lemmas.List.{drop_all, append-nil, length-map, get_or-map}
use Rattle.std.proofs.lemmas.List.Sums.{sum_by-append}
use Rattle.im_power.specs.declared.period.Period.{Period}
use Rattle.im_power.specs.declared.line.Line.{Line}
use Rattle.im_power.specs.declared.line.Line.TheVariants.{Skipped, Gives, Malformed, ZeroRepeats}
use Rattle.im_power.specs.declared.fault.TraceFault.{TraceFault}
use Rattle.im_power.specs.declared.fault.TraceFault.TheVariants.{BadLine, ZeroRepeat, TooMany, OutOfMemory}
use Rattle.im_power.specs.Text.{is_line_end, line_of, lines_of, first_fault, periods_of, repeats, counted, trace_of, IsFaultOf, IsAnswer}

-- what the first i lines of a text say is in these periods, whose repeats are so many, and they have no fault
pub record ReadsTo (text : List ℕ) (i line : ℕ) (periods : List Period) (sum : ℕ) : Type 0 where
  pub line_is : line ≡ i + 1
  pub fault_is : first_fault 1 (lines_of text) ≡ first_fault line (drop i (lines_of text))
  pub periods_are : periods_of (lines_of text) ≡ periods ++ periods_of (drop i (lines_of text))
  pub sum_is : sum ≡ min (repeats periods) (2 ^ 64 - 1)

pub starts : (text : List ℕ) → ReadsTo text 0 1 [] 0
starts text = record { line_is = refl; fault_is = refl; periods_are = refl; sum_is = refl }

at_next : (text part : List ℕ) (i : ℕ) → i < length (slice_split is_line_end text) → part ≡ get_or (slice_split is_line_end text) i part
    → drop i (lines_of text) ≡ line_of part ∷ drop (i + 1) (lines_of text)
unfolding lines_of
at_next text part i lt at =
    let parts = slice_split is_line_end text in
    let len : length (map line_of parts) ≡ length parts = length-map parts line_of in
    let e : get_or (map line_of parts) i (line_of part) ≡ line_of part = get_or-map line_of parts i part (line_of part) lt ∙ ap line_of (sym at) in
    drop-cons (map line_of parts) i (line_of part) (omega arith) ∙ rw (e, add-one) refl

-- the fault of a line, or of those behind it
fault_of_cons : (said : Line) (line : ℕ) (others : List Line) → first_fault line (said ∷ []) ≡ None → first_fault line (said ∷ others) ≡ first_fault (line + 1) others
fault_of_cons Skipped line others e = refl
fault_of_cons (Gives period) line others e = refl
fault_of_cons Malformed line others e = absurd cc
fault_of_cons ZeroRepeats line others e = absurd cc

periods_of_cons : (said : Line) (others : List Line) → periods_of (said ∷ others) ≡ periods_of (said ∷ []) ++ periods_of others
periods_of_cons Skipped others = refl
periods_of_cons (Gives period) others = refl
periods_of_cons Malformed others = refl
periods_of_cons ZeroRepeats others = refl

pub goes_on : (text part : List ℕ) (said : Line) (i line sum after : ℕ) (periods more : List Period) → i < length (slice_split is_line_end text) → part ≡ get_or (slice_split is_line_end text) i part → said ≡ line_of part
    → first_fault line (said ∷ []) ≡ None → more ≡ periods ++ periods_of (said ∷ []) → after ≡ min (sum + repeats (periods_of (said ∷ []))) (2 ^ 64 - 1)
    → ReadsTo text i line periods sum → ReadsTo text (i + 1) (line + 1) more after
goes_on text part said i line sum after periods more lt at is right more-is after-is reads =
    let rest = drop (i + 1) (lines_of text) in
    let e : drop i (lines_of text) ≡ said ∷ rest = at_next text part i lt at ∙ ap (λ (x : Line). x ∷ rest) (sym is) in
    let added : repeats more ≡ repeats periods + repeats (periods_of (said ∷ [])) = ap repeats more-is ∙ sum_by-append (λ (p : Period). p.count) periods (periods_of (said ∷ [])) in
    record {
      line_is = omega (arith, reads.line_is);
      fault_is = reads.fault_is ∙ ap (first_fault line) e ∙ fault_of_cons said line rest right;
      periods_are = reads.periods_are ∙ ap (λ (x : List Line). periods ++ periods_of x) e ∙ ap (λ (x : List Period). periods ++ x) (periods_of_cons said rest) ∙ sym (append_assoc periods (periods_of (said ∷ [])) (periods_of rest)) ∙ ap (λ (x : List Period). x ++ periods_of rest) (sym more-is);
      sum_is = omega (arith, reads.sum_is);
    }

fault_in_front : (said : Line) (line : ℕ) (others : List Line) (fault : TraceFault) → first_fault line (said ∷ []) ≡ Some fault → first_fault line (said ∷ others) ≡ Some fault
fault_in_front Skipped line others fault e = absurd cc
fault_in_front (Gives period) line others fault e = absurd cc
fault_in_front Malformed line others fault e = e
fault_in_front ZeroRepeats line others fault e = e

fault_answered : (text : List ℕ) (fault : TraceFault) → first_fault 1 (lines_of text) ≡ Some fault → trace_of text ≡ Err fault
unfolding trace_of
fault_answered text fault e = rw e refl

answered : (text : List ℕ) (said : Line) (line : ℕ) (f : TraceFault) → IsFaultOf f (first_fault line (said ∷ [])) → ((g : TraceFault) → first_fault line (said ∷ []) ≡ Some g → trace_of text ≡ Err g) → IsAnswer {X = List Period} (Err f) (trace_of text)
answered text said line (BadLine at) h here = here (BadLine at) h
answered text said line (ZeroRepeat at) h here = here (ZeroRepeat at) h
answered text said line (TooMany all) h here = here (TooMany all) h
answered text said line OutOfMemory h here = tt

pub stops : (text part : List ℕ) (said : Line) (i line sum : ℕ) (periods : List Period) (fault : TraceFault) → i < length (slice_split is_line_end text) → part ≡ get_or (slice_split is_line_end text) i part → said ≡ line_of part
    → IsFaultOf fault (first_fault line (said ∷ [])) → ReadsTo text i line periods sum → IsAnswer {X = List Period} (Err fault) (trace_of text)
stops text part said i line sum periods fault lt at is wrong reads =
    let rest = drop (i + 1) (lines_of text) in
    let e : drop i (lines_of text) ≡ said ∷ rest = at_next text part i lt at ∙ ap (λ (x : Line). x ∷ rest) (sym is) in
    let here : (f : TraceFault) → first_fault line (said ∷ []) ≡ Some f → trace_of text ≡ Err f = λ f h. fault_answered text f (reads.fault_is ∙ ap (first_fault line) e ∙ fault_in_front said line rest f h) in
    answered text said line fault wrong here

all_right : (text : List ℕ) (i line sum : ℕ) (periods : List Period) → length (lines_of text) ≤ i → ReadsTo text i line periods sum → trace_of text ≡ counted periods
unfolding trace_of
all_right text i line sum periods le reads =
    let e = drop_all i (lines_of text) le in
    let none : first_fault 1 (lines_of text) ≡ None = reads.fault_is ∙ ap (first_fault line) e in
    let same : periods_of (lines_of text) ≡ periods = reads.periods_are ∙ ap (λ (x : List Line). periods ++ periods_of x) e ∙ append-nil periods in
    rw (none, same) refl

pub line_count : (text : List ℕ) → length (lines_of text) ≡ length (slice_split is_line_end text)
unfolding lines_of
line_count text = length-map (slice_split is_line_end text) line_of

pub too_many : (text : List ℕ) (i line sum : ℕ) (periods : List Period) → length (slice_split is_line_end text) ≤ i → 1000000 < sum → ReadsTo text i line periods sum → trace_of text ≡ Err (TooMany sum)
too_many text i line sum periods le big reads =
    let more : 1000000 < repeats periods = omega (arith, reads.sum_is) in
    let len = line_count text in
    all_right text i line sum periods (omega arith) reads ∙ rw (lt-ltb _ _ more, ← reads.sum_is) refl

pub lists : (text : List ℕ) (i line sum : ℕ) (periods : List Period) → length (slice_split is_line_end text) ≤ i → sum ≤ 1000000 → ReadsTo text i line periods sum → trace_of text ≡ Ok periods
lists text i line sum periods le few reads =
    let fewer : repeats periods ≤ 1000000 = omega (arith, reads.sum_is) in
    let len = line_count text in
    all_right text i line sum periods (omega arith) reads ∙ rw (le-ltb _ _ fewer) refl
