-- Places behind parts, one behind the other.
use Rattle.std.proofs.Common.{◌≡◌, ℕ, ◌+◌, List, [], ◌++◌, length, ap, arith}
use Rattle.std.proofs.lemmas.List.{length-append}
use Rattle.im_check_declarators.specs.im_word.Words.{Name}
use Rattle.im_check_place.specs.declared.place.Place.{Place}
use Rattle.im_check_place.specs.Contexts.{behind_strings}

abbrev pub at_string : ℕ → Place → Place
at_string n p = record p { next_string = n }

pub behind_none : (p : Place) → behind_strings [] p ≡ p
behind_none p =
    let e : p.next_string + 0 ≡ p.next_string = omega arith in
    ap (λ n. at_string n p) e

pub behind_two : (xs ys : List Name) (p : Place) → behind_strings ys (behind_strings xs p) ≡ behind_strings (xs ++ ys) p
behind_two xs ys p =
    let e : p.next_string + length xs + length ys ≡ p.next_string + length (xs ++ ys) = omega (arith, length-append xs ys) in
    ap (λ n. at_string n p) e

-- what is read behind a part is behind both
pub both : (p : Place) {q r : Place} (xs ys : List Name) → q ≡ behind_strings xs p → r ≡ behind_strings ys q → r ≡ behind_strings (xs ++ ys) p
both p xs ys e f = rw (f, e) (behind_two xs ys p)

pub structs_stay : (p : Place) {q : Place} (xs : List Name) → q ≡ behind_strings xs p → q.structs ≡ p.structs
structs_stay p xs e = ap (λ (z : Place). z.structs) e
