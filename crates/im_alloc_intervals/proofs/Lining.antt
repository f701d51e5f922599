-- Marks of lines, one after the other.
use Rattle.std.proofs.Common.{◌≡◌, ◌<◌, ◌≤◌, ◌+◌, ℕ, Bool, List, Some, length, get_or, sym, ◌∙◌, subst, arith, pos}
use Rattle.std.specs.Prelude.{slice_get, slice_index}
use Rattle.std.proofs.lemmas.Option.{slice_get_within, slice_get-get_or, same_Some}
use Rattle.im_block.specs.declared.code.Line.{Line}
use Rattle.im_block.specs.declared.code.Line.TheVariants.{Put}
use Rattle.im_alloc_intervals.specs.Marks.{Adds, Flags}
use Rattle.im_alloc_intervals.specs.Lines.{result_of, IsTarget, IsBehind, IsArgument, SetBy, CrossedBy, PassedBy, IsSetAt, IsAcross, IsPassed}
use Rattle.im_alloc_intervals.proofs.Adding.{Table, adds_same, flags_same}
use Rattle.im_alloc_intervals.proofs.Stepping.{Under, Below, adds_next, adds_all, flags_next, flags_all}

abbrev pub blank : Line
blank = Put 0 (pos 0)

there : (lines : List Line) (i : ℕ) → i < length lines → slice_get lines i ≡ Some (get_or lines i blank)
there lines i lt = slice_get-get_or lines i blank lt

the_line : (lines : List Line) (i : ℕ) (line : Line) → i < length lines → slice_get lines i ≡ Some line → line ≡ get_or lines i blank
the_line lines i line lt at = same_Some line (get_or lines i blank) (sym at ∙ there lines i lt)

pub targets_next : (lines : List Line) (start i : ℕ) (a b c : Table) → i < length lines → Adds (Under (SetBy lines start) i) a b → Adds (IsTarget (get_or lines i blank) (start + i)) b c → Adds (Under (SetBy lines start) (i + 1)) a c
targets_next lines start i a b c lt x y =
    adds_next (SetBy lines start) i a b c x
    (adds_same (SetBy lines start i) (IsTarget (get_or lines i blank) (start + i)) b c y
    (λ v p small k. subst (λ z. IsTarget z (start + i) v p) (the_line lines i k.line lt k.at) k.target)
    (λ v p k. record { line = get_or lines i blank; at = there lines i lt; target = k }))

pub targets_all : (lines : List Line) (start i : ℕ) (a b : Table) → length lines ≤ i → Adds (Under (SetBy lines start) i) a b → Adds (IsSetAt lines start) a b
targets_all lines start i a b le x =
    adds_all (SetBy lines start) (IsSetAt lines start) i a b (λ v p l. l) (λ v p k f. (k, f)) (λ v p k f. (let lt = slice_get_within lines k f.line f.at in omega arith)) x

pub across_next : (base : ℕ) (words : List ℕ) (lines : List Line) (i : ℕ) (a b c : List Bool) → i < length lines → Flags (Below (CrossedBy base words lines) i) a b → Flags (IsBehind base (slice_index words (i + 1)) (result_of (get_or lines i blank))) b c → Flags (Below (CrossedBy base words lines) (i + 1)) a c
across_next base words lines i a b c lt x y =
    flags_next (CrossedBy base words lines) i a b c x
    (flags_same (CrossedBy base words lines i) (IsBehind base (slice_index words (i + 1)) (result_of (get_or lines i blank))) b c y
    (λ v small k. subst (λ z. IsBehind base (slice_index words (i + 1)) (result_of z) v) (the_line lines i k.line lt k.at) k.behind)
    (λ v k. record { line = get_or lines i blank; at = there lines i lt; behind = k }))

pub across_all : (base : ℕ) (words : List ℕ) (lines : List Line) (i : ℕ) (a b : List Bool) → length lines ≤ i → Flags (Below (CrossedBy base words lines) i) a b → Flags (IsAcross base words lines) a b
across_all base words lines i a b le x =
    flags_all (CrossedBy base words lines) (IsAcross base words lines) i a b (λ v l. l) (λ v k f. (k, f)) (λ v k f. (let lt = slice_get_within lines k f.line f.at in omega arith)) x

pub passed_next : (lines : List Line) (i : ℕ) (a b c : List Bool) → i < length lines → Flags (Below (PassedBy lines) i) a b → Flags (IsArgument (get_or lines i blank)) b c → Flags (Below (PassedBy lines) (i + 1)) a c
passed_next lines i a b c lt x y =
    flags_next (PassedBy lines) i a b c x
    (flags_same (PassedBy lines i) (IsArgument (get_or lines i blank)) b c y
    (λ v small k. subst (λ z. IsArgument z v) (the_line lines i k.line lt k.at) k.argument)
    (λ v k. record { line = get_or lines i blank; at = there lines i lt; argument = k }))

pub passed_all : (lines : List Line) (i : ℕ) (a b : List Bool) → length lines ≤ i → Flags (Below (PassedBy lines) i) a b → Flags (IsPassed lines) a b
passed_all lines i a b le x =
    flags_all (PassedBy lines) (IsPassed lines) i a b (λ v l. l) (λ v k f. (k, f)) (λ v k f. (let lt = slice_get_within lines k f.line f.at in omega arith)) x
