-- What stands behind `struct` and `enum`, part by part.
use Rattle.std.proofs.Common.{◌≡◌, ℕ, suc, ◌+◌, ◌<◌, List, [], ◌∷◌, ◌++◌, length, drop, sym, refl, ap, ◌∙◌, subst, arith}
use Rattle.std.specs.Prelude.{Option, Some, None}
use Rattle.im_tok.specs.declared.punctuator.Punctuator.TheVariants.{OpenBrace, CloseBrace}
use Rattle.im_word.specs.Words.{Name, Word, name, mark}
use Rattle.im_ctree.specs.Tree as tree
use Rattle.im_ctree.specs.Follow.{head_brace}
use Rattle.im_parse_core.specs.Reads.{Family, Ending, head, Reads, Refuses, Within}
use Rattle.im_parse_core.specs.Parts.{Both, both, After, after, Done, done}
use Rattle.im_parse_core.specs.Places.{IsAt}
use Rattle.im_parse_core.proofs.Steps.{Into, start, line, line_at, word, part, refused, all, nothing, as_closed}
use Rattle.im_parse_expression.specs.Parsing.{Anything, Closed}
use Rattle.im_parse_expression.specs.Declaring.{Unbraced, IsBraced, untagged, tagged, tag_alone}
use Rattle.im_parse_expression.proofs.PostfixLines.{AName, a_name, reads_name}

-- what stands behind a tag
pub data TagRest {A : Type 0} (M : Family A) (full : Option Name → A → tree.Specifier) (tag : Name → tree.Specifier) (n : Name) : ℕ → tree.Specifier → List Word → Type 0 where
  bare : {p : ℕ} → TagRest M full tag n p (tag n) []
  listed : {p : ℕ} {a : A} {u : List Word} → M (suc p) a u → TagRest M full tag n p (full (Some n) a) (mark OpenBrace ∷ (u ++ (mark CloseBrace ∷ [])))

abbrev ListLine : {A : Type 0} → Family A → (A → tree.Specifier) → Family tree.Specifier
ListLine M f = After (mark OpenBrace) (Both M (λ a. After (mark CloseBrace) (Done (f a))))

-- a list in braces stands behind place k, of which f makes the specifier
abbrev pub InBraces : {A : Type 0} → Family A → (Option Name → A → tree.Specifier) → (Name → tree.Specifier) → (A → tree.Specifier) → List Word → ℕ → ℕ → Type 0
InBraces M full tag f words p k = Within (IsBraced M full tag) Unbraced p (drop p words) (Both (Closed CloseBrace M) (λ a. Done (f a))) Unbraced k (drop k words) (λ t. t)

untagged_into : {A : Type 0} (M : Family A) (full : Option Name → A → tree.Specifier) (tag : Name → tree.Specifier) (q : ℕ) → Into (ListLine M (full None)) (IsBraced M full tag) q
untagged_into M full tag q t _ (after (both d (after done))) = untagged d

untagged_back : {A : Type 0} (M : Family A) (full : Option Name → A → tree.Specifier) (tag : Name → tree.Specifier) (q : ℕ) (t : tree.Specifier) (u r v : List Word) → u ++ r ≡ mark OpenBrace ∷ v → IsBraced M full tag q t u → ListLine M (full None) q t u
untagged_back M full tag q t _ r v eq (untagged d) = after (both d (after done))
untagged_back M full tag q t _ r v eq (tagged n d) = absurd cc
untagged_back M full tag q t _ r v eq (tag_alone n) = absurd cc

pub untagged_start : (words : List Word) {A : Type 0} {M : Family A} {full : Option Name → A → tree.Specifier} {tag : Name → tree.Specifier} {p k : ℕ} → IsAt (mark OpenBrace) words p k → InBraces M full tag (full None) words p k
untagged_start words {M = M} {full = full} {tag = tag} {p = p} at =
    as_closed (word at (line_at (mark OpenBrace) (ListLine M (full None)) (ap head at.here) (untagged_into M full tag p) (λ t u r v eq d e. untagged_back M full tag p t u r v eq d) (start (IsBraced M full tag) Unbraced p (drop p words))))

name_into : {A : Type 0} (M : Family A) (full : Option Name → A → tree.Specifier) (tag : Name → tree.Specifier) (q : ℕ) → Into (Both AName (TagRest M full tag)) (IsBraced M full tag) q
name_into M full tag q t _ (both (a_name n) bare) = tag_alone n
name_into M full tag q t _ (both (a_name n) (listed {a = a} {u = u} d)) = tagged n (subst (λ z. M z a u) (omega arith) d)

name_back : {A : Type 0} (M : Family A) (full : Option Name → A → tree.Specifier) (tag : Name → tree.Specifier) (q : ℕ) (n : Name) (t : tree.Specifier) (u r v : List Word) → u ++ r ≡ name n ∷ v → IsBraced M full tag q t u → Both AName (TagRest M full tag) q t u
name_back M full tag q n t _ r v eq (untagged d) = absurd cc
name_back M full tag q n t _ r v eq (tagged m {a = a} {u = u} d) = both (a_name m) (listed (subst (λ z. M z a u) (omega arith) d))
name_back M full tag q n t _ r v eq (tag_alone m) = both (a_name m) bare

abbrev pub Tagged : {A : Type 0} → Family A → (Option Name → A → tree.Specifier) → (Name → tree.Specifier) → Name → List Word → ℕ → ℕ → Type 0
Tagged M full tag n words p k = Within (IsBraced M full tag) Unbraced p (drop p words) (TagRest M full tag n) Unbraced k (drop k words) (λ t. t)

pub tag_start : (words : List Word) {A : Type 0} {M : Family A} {full : Option Name → A → tree.Specifier} {tag : Name → tree.Specifier} {p k : ℕ} {n : Name} → IsAt (name n) words p k → Tagged M full tag n words p k
tag_start words {M = M} {full = full} {tag = tag} {p = p} {n = n} at =
    part (λ a q t v r d e. tt) (reads_name words at) (line_at (name n) (Both AName (TagRest M full tag)) (ap head at.here) (name_into M full tag p) (λ t u r v eq d e. name_back M full tag p n t u r v eq d) (start (IsBraced M full tag) Unbraced p (drop p words)))

bare_into : {A : Type 0} (M : Family A) (full : Option Name → A → tree.Specifier) (tag : Name → tree.Specifier) (n : Name) (q : ℕ) → Into (Done (tag n)) (TagRest M full tag n) q
bare_into M full tag n q t _ done = bare

bare_back : {A : Type 0} (M : Family A) (full : Option Name → A → tree.Specifier) (tag : Name → tree.Specifier) (n : Name) (q : ℕ) (m : List Word) → (head m ≡ Some (mark OpenBrace) → ⊥) → (t : tree.Specifier) (u r : List Word) → head (u ++ r) ≡ head m → TagRest M full tag n q t u → Done (tag n) q t u
bare_back M full tag n q m other t _ r e bare = done
bare_back M full tag n q m other t _ r e (listed d) = absurd (other (sym e))

pub reads_tag : (words : List Word) {A : Type 0} {M : Family A} {full : Option Name → A → tree.Specifier} {tag : Name → tree.Specifier} {p k : ℕ} {n : Name} → (head (drop k words) ≡ Some (mark OpenBrace) → ⊥) → Tagged M full tag n words p k → Reads (IsBraced M full tag) Unbraced p (drop p words) (tag n) k (drop k words)
reads_tag words {M = M} {full = full} {tag = tag} {k = k} {n = n} other from = all (line (Done (tag n)) (bare_into M full tag n k) (λ t u r e d f. bare_back M full tag n k (drop k words) other t u r e d) from)

listed_into : {A : Type 0} (M : Family A) (full : Option Name → A → tree.Specifier) (tag : Name → tree.Specifier) (n : Name) (q : ℕ) → Into (ListLine M (full (Some n))) (TagRest M full tag n) q
listed_into M full tag n q t _ (after (both d (after done))) = listed d

listed_back : {A : Type 0} (M : Family A) (full : Option Name → A → tree.Specifier) (tag : Name → tree.Specifier) (n : Name) (q : ℕ) (t : tree.Specifier) (u r v : List Word) → u ++ r ≡ mark OpenBrace ∷ v → TagRest M full tag n q t u → head_brace r ≡ 0 → ListLine M (full (Some n)) q t u
listed_back M full tag n q t _ r v eq bare e = absurd (omega (arith, e, ap head_brace eq))
listed_back M full tag n q t _ r v eq (listed d) e = after (both d (after done))

pub tagged_start : (words : List Word) {A : Type 0} {M : Family A} {full : Option Name → A → tree.Specifier} {tag : Name → tree.Specifier} {p k l : ℕ} {n : Name} → IsAt (mark OpenBrace) words k l → Tagged M full tag n words p k → InBraces M full tag (full (Some n)) words p l
tagged_start words {M = M} {full = full} {tag = tag} {k = k} {n = n} at from =
    as_closed (word at (line_at (mark OpenBrace) (ListLine M (full (Some n))) (ap head at.here) (listed_into M full tag n k) (λ t u r v eq d e. listed_back M full tag n k t u r v eq d e) from))

pub refuses_list : (words : List Word) {A : Type 0} {M : Family A} {full : Option Name → A → tree.Specifier} {tag : Name → tree.Specifier} {f : A → tree.Specifier} {p k n : ℕ} → InBraces M full tag f words p k → Refuses (Closed CloseBrace M) Anything k (drop k words) n (drop n words) → Refuses (IsBraced M full tag) Unbraced p (drop p words) n (drop n words)
refuses_list words {f = f} from one = refused (λ a q. (f a, [], done)) (λ a q t v r d e. tt) one from

pub reads_list : (words : List Word) {A : Type 0} {M : Family A} {full : Option Name → A → tree.Specifier} {tag : Name → tree.Specifier} {f : A → tree.Specifier} {p k n : ℕ} {a : A} → InBraces M full tag f words p k → Reads (Closed CloseBrace M) Anything k (drop k words) a n (drop n words) → Reads (IsBraced M full tag) Unbraced p (drop p words) (f a) n (drop n words)
reads_list words from one = all (part (λ a q t v r d e. tt) one from)

neither : {A : Type 0} (M : Family A) (full : Option Name → A → tree.Specifier) (tag : Name → tree.Specifier) (q : ℕ) (m : List Word) → (head m ≡ Some (mark OpenBrace) → ⊥) → ((n : Name) → head m ≡ Some (name n) → ⊥) → (t : tree.Specifier) (u r : List Word) → head (u ++ r) ≡ head m → IsBraced M full tag q t u → ⊥
neither M full tag q m no_brace no_name t _ r e (untagged d) = no_brace (sym e)
neither M full tag q m no_brace no_name t _ r e (tagged n d) = no_name n (sym e)
neither M full tag q m no_brace no_name t _ r e (tag_alone n) = no_name n (sym e)

pub no_braced : (words : List Word) {A : Type 0} {M : Family A} {full : Option Name → A → tree.Specifier} {tag : Name → tree.Specifier} {p : ℕ} → (head (drop p words) ≡ Some (mark OpenBrace) → ⊥) → ((n : Name) → head (drop p words) ≡ Some (name n) → ⊥) → Refuses (IsBraced M full tag) Unbraced p (drop p words) p (drop p words)
no_braced words {M = M} {full = full} {tag = tag} {p = p} no_brace no_name =
    nothing (λ q. (tag [], name [] ∷ [], tag_alone [])) (λ t u r e d f. neither M full tag p (drop p words) no_brace no_name t u r e d) (start (IsBraced M full tag) Unbraced p (drop p words))
