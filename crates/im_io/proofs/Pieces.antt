-- A text sent in pieces.
use Rattle.std.proofs.Common.{◌≡◌, ◌≤◌, ◌<◌, ℕ, suc, ◌+◌, List, [], ◌++◌, take, drop, length, get_or, refl, sym, ap, ◌∙◌, subst, drop-cons, arith}
use Rattle.std.specs.List.{flat_map}
use Rattle.std.proofs.Math.Seq.{take-append-add}
use Rattle.std.proofs.lemmas.List.{take-append-le, take-append-drop, length-append}
use Rattle.std.proofs.lemmas.Grind.{flat_map-append}
use Rattle.im_io.specs.Counts.{one_more}
use Rattle.im_io.specs.Sink.{SinkState, Appended}
use Rattle.im_io.specs.Whole.{SentAll, SentFirst}
use Rattle.im_io.proofs.Appending.{appended_none, appended_more}

pub sent_none : (a : SinkState) → SentAll [] a a
sent_none a = record { taken = appended_none a.contents; faults = refl }

pub sent_then : (xs ys : List ℕ) (a b c : SinkState) → SentAll xs a b → SentAll ys b c → SentAll (xs ++ ys) a c
sent_then xs ys a b c h k = record { taken = appended_more xs ys a.contents b.contents c.contents h.taken k.taken; faults = k.faults ∙ h.faults }

-- the first bytes of one piece, behind whole ones and before others
pub first_then : (xs ys zs : List ℕ) (a b c : SinkState) → SentAll xs a b → SentFirst ys b c → SentFirst (xs ++ (ys ++ zs)) a c
first_then xs ys zs a b c h k =
    let short : k.count < length ys = k.short in
    let here : take k.count (ys ++ zs) ≡ take k.count ys = take-append-le k.count ys zs (omega arith) in
    let all : take (length xs + k.count) (xs ++ (ys ++ zs)) ≡ xs ++ take k.count ys = take-append-add xs (ys ++ zs) k.count ∙ ap (λ v. xs ++ v) here in
    let long : length (xs ++ (ys ++ zs)) ≡ length xs + (length ys + length zs) = length-append xs (ys ++ zs) ∙ ap (λ n. length xs + n) (length-append ys zs) in
    record {
      count = length xs + k.count;
      short = rw long (omega (arith, short));
      taken = subst (λ v. Appended v a.contents c.contents) (sym all) (appended_more xs (take k.count ys) a.contents b.contents c.contents h.taken k.taken);
      faults = k.faults ∙ ap one_more h.faults;
    }

-- a list of pieces, cut at one of them
cut_at : {X : Type 0} (f : X → List ℕ) (xs : List X) (i : ℕ) (d : X) → i < length xs → flat_map f xs ≡ flat_map f (take i xs) ++ (f (get_or xs i d) ++ flat_map f (drop (suc i) xs))
cut_at f xs i d h = ap (flat_map f) (sym (take-append-drop i xs)) ∙ flat_map-append f (take i xs) (drop i xs) ∙ ap (λ v. flat_map f (take i xs) ++ flat_map f v) (drop-cons xs i d h)

pub piece_first : {X : Type 0} (f : X → List ℕ) (xs : List X) (i : ℕ) (d : X) (a b c : SinkState) → i < length xs → SentAll (flat_map f (take i xs)) a b → SentFirst (f (get_or xs i d)) b c → SentFirst (flat_map f xs) a c
piece_first f xs i d a b c inside h k = subst (λ v. SentFirst v a c) (sym (cut_at f xs i d inside)) (first_then (flat_map f (take i xs)) (f (get_or xs i d)) (flat_map f (drop (suc i) xs)) a b c h k)
