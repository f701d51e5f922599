-- The lines of code words, one after the other.
use Rattle.std.proofs.Common.{◌≡◌, ◌<◌, ℕ, suc, ◌+◌, ◌*◌, List, [], ◌∷◌, ◌++◌, take, drop, length, get_or, sym, ap, ◌∙◌, subst, append_assoc, drop-cons, arith}
use Rattle.std.proofs.lemmas.List.{append-nil, take-append-drop, take_more, length-take-le}
use Rattle.im_io.specs.Sink.{SinkState}
use Rattle.im_io.specs.Whole.{SentAll, SentFirst}
use Rattle.im_io.proofs.Pieces.{sent_then, first_then}
use Rattle.im_cmd_lines.specs.Dumps.{word_line, word_lines}

word_lines-append : (at : ℕ) (xs ys : List ℕ) → word_lines at (xs ++ ys) ≡ word_lines at xs ++ word_lines (at + 4 * length xs) ys
word_lines-append at [] ys = ap (λ n. word_lines n ys) (omega arith)
word_lines-append at (x ∷ xs) ys =
    let there : at + 4 + 4 * length xs ≡ at + 4 * suc (length xs) = omega arith in
    ap (λ v. word_line at x ++ v) (word_lines-append (at + 4) xs ys ∙ ap (λ n. word_lines (at + 4) xs ++ word_lines n ys) there) ∙ sym (append_assoc (word_line at x) (word_lines (at + 4) xs) (word_lines (at + 4 * suc (length xs)) ys))

-- where the lines of all words are cut at one of them
cut_at : (at here : ℕ) (xs : List ℕ) (i d : ℕ) → i < length xs → here ≡ at + 4 * i → word_lines at xs ≡ word_lines at (take i xs) ++ (word_line here (get_or xs i d) ++ word_lines (here + 4) (drop (suc i) xs))
cut_at at here xs i d inside is =
    let long : length (take i xs) ≡ i = length-take-le i xs (omega arith) in
    let place : at + 4 * length (take i xs) ≡ here = ap (λ n. at + 4 * n) long ∙ sym is in
    ap (word_lines at) (sym (take-append-drop i xs))
    ∙ word_lines-append at (take i xs) (drop i xs)
    ∙ ap (λ n. word_lines at (take i xs) ++ word_lines n (drop i xs)) place
    ∙ ap (λ v. word_lines at (take i xs) ++ word_lines here v) (drop-cons xs i d inside)

pub word_first : (at here : ℕ) (xs : List ℕ) (i d : ℕ) (a b c : SinkState) → i < length xs → here ≡ at + 4 * i → SentAll (word_lines at (take i xs)) a b → SentFirst (word_line here (get_or xs i d)) b c → SentFirst (word_lines at xs) a c
word_first at here xs i d a b c inside is h k = subst (λ v. SentFirst v a c) (sym (cut_at at here xs i d inside is)) (first_then (word_lines at (take i xs)) (word_line here (get_or xs i d)) (word_lines (here + 4) (drop (suc i) xs)) a b c h k)

one_more : (at here : ℕ) (xs : List ℕ) (i d : ℕ) → i < length xs → here ≡ at + 4 * i → word_lines at (take (i + 1) xs) ≡ word_lines at (take i xs) ++ word_line here (get_or xs i d)
one_more at here xs i d inside is =
    let long : length (take i xs) ≡ i = length-take-le i xs (omega arith) in
    let place : at + 4 * length (take i xs) ≡ here = ap (λ n. at + 4 * n) long ∙ sym is in
    ap (word_lines at) (take_more xs i d inside)
    ∙ word_lines-append at (take i xs) (get_or xs i d ∷ [])
    ∙ ap (λ n. word_lines at (take i xs) ++ word_lines n (get_or xs i d ∷ [])) place
    ∙ ap (λ v. word_lines at (take i xs) ++ v) (append-nil (word_line here (get_or xs i d)))

pub word_sent : (at here : ℕ) (xs : List ℕ) (i d : ℕ) (a b c : SinkState) → i < length xs → here ≡ at + 4 * i → SentAll (word_lines at (take i xs)) a b → SentAll (word_line here (get_or xs i d)) b c → SentAll (word_lines at (take (i + 1) xs)) a c
word_sent at here xs i d a b c inside is h k = subst (λ v. SentAll v a c) (sym (one_more at here xs i d inside is)) (sent_then (word_lines at (take i xs)) (word_line here (get_or xs i d)) a b c h k)
