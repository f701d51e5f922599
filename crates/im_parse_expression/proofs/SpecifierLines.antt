-- Specifiers, part by part.
use Rattle.std.proofs.Common.{◌≡◌, ℕ, suc, ◌+◌, ◌<◌, List, [], ◌∷◌, ◌++◌, length, map, drop, sym, refl, ap, ◌∙◌, subst, arith, append_assoc, Bool, true, false}
use Rattle.std.specs.Prelude.{Option, Some, None}
use Rattle.std.proofs.lemmas.List.{append-nil}
use Rattle.std.specs.List.{Contains}
use Rattle.im_tok.specs.declared.keyword.Keyword.{Keyword}
use Rattle.im_tok.specs.declared.keyword.Keyword.TheVariants as key
use Rattle.im_tok.specs.declared.keyword.Keyword.TheVariants.{Struct, Enum, Int}
use Rattle.im_tok.specs.declared.punctuator.Punctuator.TheVariants.{OpenBrace, CloseBrace}
use Rattle.im_word.specs.Words.{Name, Word, name, keyword, mark}
use Rattle.im_ctree.specs.declared.specifier.SpecifierWord.{SpecifierWord}
use Rattle.im_ctree.specs.declared.specifier.SpecifierWord.TheVariants as sw
use Rattle.im_ctree.specs.declared.specifier.Specifier.{Specifier}
use Rattle.im_ctree.specs.Operators as op
use Rattle.im_ctree.specs.Tree as tree
use Rattle.im_ctree.specs.Grammar as g
use Rattle.im_ctree.specs.Typedefs.{adds_type, has_type, has_type_from}
use Rattle.im_ctree.specs.Follow.{head_brace, head_specifier, keyword_specifier, SpecifierEnds, StartsSpecifier, at_typedef, at_word, at_struct, at_enum}
use Rattle.im_ctree.proofs.Ranks.{specifier_same}
use Rattle.im_ctree.proofs.Behind.{word_goes, specifier_brace, no_brace}
use Rattle.im_parse_core.specs.Reads.{Family, Ending, head, Reads, Refuses, Within}
use Rattle.im_parse_core.specs.Parts.{Both, both, After, after, Made, made, Done, done}
use Rattle.im_parse_core.specs.Places.{IsAt}
use Rattle.im_parse_core.specs.Lists.{before}
use Rattle.im_parse_core.specs.Repeats.{Repeated, no_more, one_more, moved}
use Rattle.im_parse_core.specs.declared.stop.Stop.{Stop}
use Rattle.im_parse_core.proofs.Steps.{Apart, Completes, Some', Into, tail, cons_of, start, line, line_at, word, missing, part, refused, node, all, last, last_refused, nothing, as_closed}
use Rattle.im_parse_core.proofs.Repeats.{Rest, Next, one, over, apart_item, completes_item, moved_more}
use Rattle.im_parse_expression.specs.Parsing.{Anything, Closed, BeginsSpecifiers}
use Rattle.im_parse_expression.specs.Declaring.{GoesOn, by_keyword, by_name, Unbraced, AfterSpecifiers, IsBraced, untagged, tagged, tag_alone, IsStructRest, IsEnumRest, WordAt, NoWord, specifier_tree}
use Rattle.im_parse_expression.proofs.BinaryLines.{starts_of}
use Rattle.im_parse_expression.proofs.NextWord.{goes_begins}
use Rattle.im_parse_expression.proofs.PostfixLines.{AName, a_name, reads_name}

-- what begins a specifier
pub specifier_goes_on : {T : List Name} {a : Bool} {p : ℕ} {x : tree.Specifier} {u : List Word} → g.IsSpecifier T a p x u → (z : List Word) → GoesOn T a (head (u ++ z))
specifier_goes_on (g.a_word is) z = by_keyword (word_goes is)
specifier_goes_on (g.a_struct ms) z = by_keyword refl
specifier_goes_on (g.a_named_struct n ms) z = by_keyword refl
specifier_goes_on (g.a_struct_tag n) z = by_keyword refl
specifier_goes_on (g.an_enum es) z = by_keyword refl
specifier_goes_on (g.a_named_enum n es) z = by_keyword refl
specifier_goes_on (g.an_enum_tag n) z = by_keyword refl
specifier_goes_on (g.its_typedef_name n is) z = by_name is

pub goes_clash : {T : List Name} {a : Bool} (r : List Word) → GoesOn T a (head r) → SpecifierEnds T a r → ⊥
goes_clash [] h ends = elim h [ ]
goes_clash (_ ∷ v) (by_keyword k) ends = omega (arith, k, ends.0)
goes_clash (_ ∷ v) (by_name is) ends = ends.1 (g.a_typedef_name is)

-- all specifiers
abbrev Specs : List Name → Bool → Family tree.SpecifierList
Specs T = Repeated (g.IsSpecifier T) adds_type tree.more_specifiers tree.no_specifiers

tail_of : {T : List Name} {a : Bool} {p : ℕ} {xs : tree.SpecifierList} {u : List Word} → Specs T a p xs u → g.SpecifierTail T a p xs u
tail_of no_more = g.last_specifier
tail_of (one_more d rest) = g.next_specifier d (tail_of rest)

of_tail : {T : List Name} {a : Bool} {p : ℕ} {xs : tree.SpecifierList} {u : List Word} → g.SpecifierTail T a p xs u → Specs T a p xs u
of_tail g.last_specifier = no_more
of_tail (g.next_specifier d rest) = one_more d (of_tail rest)

abbrev Whole : ℕ → tree.SpecifierList → Family tree.Specifiers
Whole p b = Done (tree.specifiers p b)

abbrev NextD : List Name → ℕ → List tree.Specifier → Bool → Family tree.Specifiers
NextD T p xs a = Next (g.IsSpecifier T) adds_type tree.more_specifiers tree.no_specifiers (Whole p) xs a

abbrev RestD : List Name → ℕ → List tree.Specifier → Bool → Family tree.Specifiers
RestD T p xs a = Rest (g.IsSpecifier T) adds_type tree.more_specifiers tree.no_specifiers (Whole p) xs a

specs_into : (T : List Name) (p : ℕ) → Into (NextD T p [] false) (g.IsSpecifiers T) p
specs_into T p t _ (both {a = a} {u = u} d (both {a = b} {u = v} rest done)) = subst (λ z. g.IsSpecifiers T p (tree.specifiers p (tree.more_specifiers a b)) (u ++ z)) (sym (append-nil v)) (g.first_specifier d (tail_of rest))

specs_back : (T : List Name) (p : ℕ) → Into (g.IsSpecifiers T) (NextD T p [] false) p
specs_back T p t _ (g.first_specifier {x = x} {xs = xs} {u = u} {v = v} d rest) = subst (λ z. NextD T p [] false p (tree.specifiers p (tree.more_specifiers x xs)) (u ++ z)) (append-nil v) (both d (both (of_tail rest) done))

-- before a specifier, and behind those that were read
abbrev pub NextSpecifier : List Name → List Word → ℕ → List tree.Specifier → Bool → ℕ → Type 0
NextSpecifier T words p xs a q = Within (g.IsSpecifiers T) (AfterSpecifiers T) p (drop p words) (NextD T p xs a) (AfterSpecifiers T) q (drop q words) (λ t. t)

abbrev pub InSpecifiers : List Name → List Word → ℕ → List tree.Specifier → ℕ → Type 0
InSpecifiers T words p xs q = Within (g.IsSpecifiers T) (AfterSpecifiers T) p (drop p words) (RestD T p xs (moved adds_type false xs)) (AfterSpecifiers T) q (drop q words) (λ t. t)

pub specifiers_start : (words : List Word) (T : List Name) (p : ℕ) → NextSpecifier T words p [] false p
specifiers_start words T p = line (NextD T p [] false) (specs_into T p) (λ t u r e d f. specs_back T p t u d) (start (g.IsSpecifiers T) (AfterSpecifiers T) p (drop p words))

brace_ends : (T : List Name) (p : ℕ) (b : tree.SpecifierList) (k : ℕ) (t : tree.Specifiers) (v r : List Word) → Whole p b k t v → AfterSpecifiers T t r → head_brace (v ++ r) ≡ 0
brace_ends T p b k t _ r done e = no_brace r e.0

specifier_apart : (T : List Name) (p : ℕ) (xs : List tree.Specifier) (a : Bool) → Apart (λ x. RestD T p (xs ++ x ∷ []) (adds_type a x)) (AfterSpecifiers T) Unbraced
specifier_apart T p xs a = apart_item (Whole p) Unbraced xs a (λ x x' k u z d. specifier_brace d z) (λ x b k t v r d e. brace_ends T p (before tree.more_specifiers (xs ++ x ∷ []) b) k t v r d e)

pub refuses_specifier : (words : List Word) (xs : List tree.Specifier) {T : List Name} {p q n : ℕ} {a : Bool} → NextSpecifier T words p xs a q → Refuses (g.IsSpecifier T a) Unbraced q (drop q words) n (drop n words) → Refuses (g.IsSpecifiers T) (AfterSpecifiers T) p (drop p words) n (drop n words)
refuses_specifier words xs {T = T} {p = p} {a = a} from one' = refused (completes_item (Whole p) xs a (λ b k. (tree.specifiers p b, [], done))) (specifier_apart T p xs a) one' from

pub specifiers_next : (words : List Word) (xs : List tree.Specifier) {T : List Name} {p q n : ℕ} {a : Bool} {x : tree.Specifier} → a ≡ moved adds_type false xs → NextSpecifier T words p xs a q → Reads (g.IsSpecifier T a) Unbraced q (drop q words) x n (drop n words) → InSpecifiers T words p (xs ++ x ∷ []) n
specifiers_next words xs {T = T} {p = p} {n = n} {a = a} {x = x} same from one' =
    subst (λ z. Within (g.IsSpecifiers T) (AfterSpecifiers T) p (drop p words) (RestD T p (xs ++ x ∷ []) z) (AfterSpecifiers T) n (drop n words) (λ t. t)) (ap (λ z. adds_type z x) same ∙ sym (moved_more adds_type false xs x)) (part (specifier_apart T p xs a) one' from)

has_before : (a : Bool) (xs : List tree.Specifier) → has_type_from a (before tree.more_specifiers xs tree.no_specifiers) ≡ moved adds_type a xs
has_before a [] = refl
has_before a (x ∷ xs) = has_before (adds_type a x) xs

pub has_type_behind : (p : ℕ) (xs : List tree.Specifier) → has_type (tree.specifiers p (before tree.more_specifiers xs tree.no_specifiers)) ≡ moved adds_type false xs
has_type_behind p xs = has_before false xs

whole_clash : (T : List Name) (p : ℕ) (xs : List tree.Specifier) (m : List Word) → GoesOn T (moved adds_type false xs) (head m) → (k : ℕ) (t : tree.Specifiers) (u r : List Word) → head (u ++ r) ≡ head m → Whole p (before tree.more_specifiers xs tree.no_specifiers) k t u → AfterSpecifiers T t r → ⊥
whole_clash T p xs m goes k t _ r e done f = goes_clash r (subst (λ z. GoesOn T z (head r)) (sym (has_type_behind p xs)) (subst (GoesOn T (moved adds_type false xs)) (sym e) goes)) f

pub specifiers_more : (words : List Word) (xs : List tree.Specifier) {T : List Name} {p q : ℕ} → GoesOn T (moved adds_type false xs) (head (drop q words)) → InSpecifiers T words p xs q → NextSpecifier T words p xs (moved adds_type false xs) q
specifiers_more words xs {T = T} {p = p} {q = q} goes from = one (Whole p) xs (whole_clash T p xs (drop q words) goes) from

pub specifiers_done : (words : List Word) (xs : List tree.Specifier) {T : List Name} {p q : ℕ} → (GoesOn T (moved adds_type false xs) (head (drop q words)) → ⊥) → InSpecifiers T words p xs q → Reads (g.IsSpecifiers T) (AfterSpecifiers T) p (drop p words) (tree.specifiers p (before tree.more_specifiers xs tree.no_specifiers)) q (drop q words)
specifiers_done words xs {T = T} {p = p} other from = all (over (Whole p) xs (λ a u z d e. other (subst (GoesOn T (moved adds_type false xs)) e (specifier_goes_on d z))) from)

pub specifiers_item : (items : List Specifier) (x : Specifier) → map specifier_tree (items ++ x ∷ []) ≡ map specifier_tree items ++ specifier_tree x ∷ []
specifiers_item [] x = refl
specifiers_item (y ∷ items) x = ap (λ z. specifier_tree y ∷ z) (specifiers_item items x)

advanced : {T : List Name} {a : Bool} {q n : ℕ} {x : tree.Specifier} (u : List Word) → g.IsSpecifier T a q x u → n ≡ q + length u → q < n
advanced u (g.a_word is) e = omega (arith, e)
advanced u (g.a_struct ms) e = omega (arith, e)
advanced u (g.a_named_struct n ms) e = omega (arith, e)
advanced u (g.a_struct_tag n) e = omega (arith, e)
advanced u (g.an_enum es) e = omega (arith, e)
advanced u (g.a_named_enum n es) e = omega (arith, e)
advanced u (g.an_enum_tag n) e = omega (arith, e)
advanced u (g.its_typedef_name n is) e = omega (arith, e)

-- a specifier is read, and so the loop goes on
pub specifier_advances : {T : List Name} {a : Bool} {q n : ℕ} {w m : List Word} {x : tree.Specifier} → Reads (g.IsSpecifier T a) Unbraced q w x n m → q < n
specifier_advances one' = advanced one'.front one'.derived one'.place

-- one specifier
some_specifier : (T : List Name) (a : Bool) → Some' (g.IsSpecifier T a)
some_specifier T a q = (tree.word_specifier q sw.Int, keyword Int ∷ [], g.a_word op.int)

pub no_specifier : (words : List Word) {T : List Name} {a : Bool} {p : ℕ} → (GoesOn T a (head (drop p words)) → ⊥) → Refuses (g.IsSpecifier T a) Unbraced p (drop p words) p (drop p words)
no_specifier words {T = T} {a = a} {p = p} other = nothing (some_specifier T a) (λ t u r e d f. other (subst (GoesOn T a) e (specifier_goes_on d r))) (start (g.IsSpecifier T a) Unbraced p (drop p words))

-- which kind of specifier begins so
abbrev keyword_kind : Keyword → ℕ
keyword_kind key.Struct = 1
keyword_kind key.Enum = 2
keyword_kind _ = 0

abbrev head_kind : List Word → ℕ
head_kind (keyword k ∷ v) = keyword_kind k
head_kind (name n ∷ v) = 3
head_kind _ = 4

abbrev specifier_kind : {T : List Name} {a : Bool} {p : ℕ} {x : tree.Specifier} {u : List Word} → g.IsSpecifier T a p x u → ℕ
specifier_kind (g.a_word is) = 0
specifier_kind (g.a_struct ms) = 1
specifier_kind (g.a_named_struct n ms) = 1
specifier_kind (g.a_struct_tag n) = 1
specifier_kind (g.an_enum es) = 2
specifier_kind (g.a_named_enum n es) = 2
specifier_kind (g.an_enum_tag n) = 2
specifier_kind (g.its_typedef_name n is) = 3

word_kind : {x : SpecifierWord} {k : Keyword} → op.IsSpecifierWord x k → keyword_kind k ≡ 0
word_kind op.typedef = refl
word_kind op.extern = refl
word_kind op.static = refl
word_kind op.const = refl
word_kind op.void = refl
word_kind op.char = refl
word_kind op.short = refl
word_kind op.int = refl
word_kind op.long = refl
word_kind op.signed = refl
word_kind op.unsigned = refl

kind_of : {T : List Name} {a : Bool} {p : ℕ} {x : tree.Specifier} {u : List Word} (d : g.IsSpecifier T a p x u) (r : List Word) → specifier_kind d ≡ head_kind (u ++ r)
kind_of (g.a_word is) r = sym (word_kind is)
kind_of (g.a_struct ms) r = refl
kind_of (g.a_named_struct n ms) r = refl
kind_of (g.a_struct_tag n) r = refl
kind_of (g.an_enum es) r = refl
kind_of (g.a_named_enum n es) r = refl
kind_of (g.an_enum_tag n) r = refl
kind_of (g.its_typedef_name n is) r = refl

struct_into : (T : List Name) (a : Bool) (q : ℕ) → Into (After (keyword Struct) (IsStructRest T q)) (g.IsSpecifier T a) q
struct_into T a q t _ (after (untagged ms)) = g.a_struct ms
struct_into T a q t _ (after (tagged n ms)) = g.a_named_struct n ms
struct_into T a q t _ (after (tag_alone n)) = g.a_struct_tag n

struct_back : (T : List Name) (a : Bool) (q : ℕ) (t : tree.Specifier) (u r v : List Word) → u ++ r ≡ keyword Struct ∷ v → g.IsSpecifier T a q t u → After (keyword Struct) (IsStructRest T q) q t u
struct_back T a q t _ r v eq (g.a_struct ms) = after (untagged ms)
struct_back T a q t _ r v eq (g.a_named_struct n ms) = after (tagged n ms)
struct_back T a q t _ r v eq (g.a_struct_tag n) = after (tag_alone n)
struct_back T a q t u r v eq d = absurd (omega (arith, kind_of d r, ap head_kind eq))

pub struct_start : (words : List Word) {T : List Name} {a : Bool} {p k : ℕ} → IsAt (keyword Struct) words p k → Within (g.IsSpecifier T a) Unbraced p (drop p words) (IsStructRest T p) Unbraced k (drop k words) (λ t. t)
struct_start words {T = T} {a = a} {p = p} at = word at (line_at (keyword Struct) (After (keyword Struct) (IsStructRest T p)) (ap head at.here) (struct_into T a p) (λ t u r v eq d e. struct_back T a p t u r v eq d) (start (g.IsSpecifier T a) Unbraced p (drop p words)))

enum_into : (T : List Name) (a : Bool) (q : ℕ) → Into (After (keyword Enum) (IsEnumRest T q)) (g.IsSpecifier T a) q
enum_into T a q t _ (after (untagged es)) = g.an_enum es
enum_into T a q t _ (after (tagged n es)) = g.a_named_enum n es
enum_into T a q t _ (after (tag_alone n)) = g.an_enum_tag n

enum_back : (T : List Name) (a : Bool) (q : ℕ) (t : tree.Specifier) (u r v : List Word) → u ++ r ≡ keyword Enum ∷ v → g.IsSpecifier T a q t u → After (keyword Enum) (IsEnumRest T q) q t u
enum_back T a q t _ r v eq (g.an_enum es) = after (untagged es)
enum_back T a q t _ r v eq (g.a_named_enum n es) = after (tagged n es)
enum_back T a q t _ r v eq (g.an_enum_tag n) = after (tag_alone n)
enum_back T a q t u r v eq d = absurd (omega (arith, kind_of d r, ap head_kind eq))

pub enum_start : (words : List Word) {T : List Name} {a : Bool} {p k : ℕ} → IsAt (keyword Enum) words p k → Within (g.IsSpecifier T a) Unbraced p (drop p words) (IsEnumRest T p) Unbraced k (drop k words) (λ t. t)
enum_start words {T = T} {a = a} {p = p} at = word at (line_at (keyword Enum) (After (keyword Enum) (IsEnumRest T p)) (ap head at.here) (enum_into T a p) (λ t u r v eq d e. enum_back T a p t u r v eq d) (start (g.IsSpecifier T a) Unbraced p (drop p words)))

-- specifiers of one word
keyword_same : {k k' : Keyword} {v v' : List Word} → keyword k ∷ v ≡ keyword k' ∷ v' → k ≡ k'
keyword_same same = cc

word_sole : {T : List Name} {a : Bool} {p : ℕ} {x : SpecifierWord} {k : Keyword} {t : tree.Specifier} (others u r : List Word) → op.IsSpecifierWord x k → keyword k ∷ others ≡ u ++ r → g.IsSpecifier T a p t u → (t ≡ tree.word_specifier p x) × (u ≡ keyword k ∷ [])
word_sole {p = p} others _ r is eq (g.a_word {k = k'} is') = let h = keyword_same (sym eq) in (ap (λ z. tree.word_specifier p z) (specifier_same is' is h), ap (λ z. keyword z ∷ []) h)
word_sole others u r is eq d = absurd (omega (arith, kind_of d r, ap head_kind eq, word_kind is))

pub reads_word : (words : List Word) {T : List Name} {a : Bool} {p n : ℕ} {x : SpecifierWord} → WordAt words p x n → Reads (g.IsSpecifier T a) Unbraced p (drop p words) (tree.word_specifier p x) n (drop n words)
reads_word words w = record {
  front = keyword w.keyword' ∷ [];
  cut = w.at.here;
  place = omega (arith, w.at.next);
  derived = g.a_word w.is;
  sole = λ others u r t next eq d e. word_sole others u r w.is eq d;
}

typedef_sole : {T : List Name} {a : Bool} {p : ℕ} {n : Name} {t : tree.Specifier} (others u r : List Word) → name n ∷ others ≡ u ++ r → g.IsSpecifier T a p t u → (t ≡ tree.typedef_specifier p n) × (u ≡ name n ∷ [])
typedef_sole {p = p} {n = n} others _ r eq (g.its_typedef_name m is) = let h : m ≡ n = cc in (ap (λ z. tree.typedef_specifier p z) h, ap (λ z. name z ∷ []) h)
typedef_sole others u r eq (g.a_word is) = absurd (omega (arith, word_kind is, ap head_kind eq))
typedef_sole others u r eq d = absurd (omega (arith, kind_of d r, ap head_kind eq))

pub reads_typedef : (words : List Word) {T : List Name} {a : Bool} {p k : ℕ} {n : Name} → a ≡ false → IsAt (name n) words p k → Contains T n → Reads (g.IsSpecifier T a) Unbraced p (drop p words) (tree.typedef_specifier p n) k (drop k words)
reads_typedef words {T = T} {a = a} {p = p} {n = n} e at is = record {
  front = name n ∷ [];
  cut = at.here;
  place = omega (arith, at.next);
  derived = subst (λ z. g.IsSpecifier T z p (tree.typedef_specifier p n) (name n ∷ [])) (sym e) (g.its_typedef_name n is);
  sole = λ others u r t next eq d f. typedef_sole others u r eq d;
}

starts_case : {T : List Name} (words : List Word) (p : ℕ) {x : Word} {v : List Word} → x ∷ v ≡ drop p words → NoWord words p → (Some x ≡ Some (keyword Struct) → ⊥) → (Some x ≡ Some (keyword Enum) → ⊥) → ((n : Name) → Some x ≡ Some (name n) → ⊥) → StartsSpecifier T x → ⊥
starts_case words p same no_word no_struct no_enum no_name (at_typedef {n = n} is) = no_name n refl
starts_case words p same no_word no_struct no_enum no_name (at_word {x = x} {k = k} is) = no_word x k is (ap head (sym same))
starts_case words p same no_word no_struct no_enum no_name at_struct = no_struct refl
starts_case words p same no_word no_struct no_enum no_name at_enum = no_enum refl

starts_clash : {T : List Name} (words : List Word) (p : ℕ) (m : List Word) → m ≡ drop p words → NoWord words p → (head m ≡ Some (keyword Struct) → ⊥) → (head m ≡ Some (keyword Enum) → ⊥) → ((n : Name) → head m ≡ Some (name n) → ⊥) → BeginsSpecifiers T (head m) → ⊥
starts_clash words p [] same no_word no_struct no_enum no_name h = elim h [ ]
starts_clash words p (x ∷ v) same no_word no_struct no_enum no_name h = starts_case words p same no_word no_struct no_enum no_name (starts_of h)

-- none of these stands there
pub not_specifier_word : (words : List Word) {T : List Name} {a : Bool} (p : ℕ) → NoWord words p → (head (drop p words) ≡ Some (keyword Struct) → ⊥) → (head (drop p words) ≡ Some (keyword Enum) → ⊥) → ((n : Name) → head (drop p words) ≡ Some (name n) → ⊥) → GoesOn T a (head (drop p words)) → ⊥
not_specifier_word words p no_word no_struct no_enum no_name goes = starts_clash words p (drop p words) refl no_word no_struct no_enum no_name (goes_begins goes)

name_case : {T : List Name} {a : Bool} {n : Name} → (a ≡ false → Contains T n → ⊥) → GoesOn T a (Some (name n)) → ⊥
name_case other (by_name is) = other refl is

-- a name that is no typedef name, or stands behind a type
pub typed_name : {T : List Name} {words : List Word} {a : Bool} {p k : ℕ} {n : Name} → IsAt (name n) words p k → (a ≡ false → Contains T n → ⊥) → GoesOn T a (head (drop p words)) → ⊥
typed_name {T = T} {a = a} at other goes = name_case other (subst (GoesOn T a) (ap head at.here) goes)

-- what the loop knows of the type so far
pub specifiers_go : (words : List Word) (xs : List tree.Specifier) {T : List Name} {p q : ℕ} {a : Bool} → a ≡ moved adds_type false xs → GoesOn T a (head (drop q words)) → InSpecifiers T words p xs q → NextSpecifier T words p xs a q
specifiers_go words xs {T = T} {p = p} {q = q} same goes from = subst (λ z. NextSpecifier T words p xs z q) (sym same) (specifiers_more words xs (subst (λ z. GoesOn T z (head (drop q words))) same goes) from)

pub typed_next : (xs : List tree.Specifier) (x : tree.Specifier) {a r : Bool} → r ≡ adds_type a x → a ≡ moved adds_type false xs → r ≡ moved adds_type false (xs ++ x ∷ [])
typed_next xs x e same = e ∙ ap (λ z. adds_type z x) same ∙ sym (moved_more adds_type false xs x)

pub typed_stop : {T : List Name} {a b : Bool} {o : Option Word} → a ≡ b → (GoesOn T a o → ⊥) → GoesOn T b o → ⊥
typed_stop {T = T} {o = o} same other goes = other (subst (λ z. GoesOn T z o) (sym same) goes)

pub specifiers_stop : {T : List Name} {a : Bool} {o : Option Word} (p : ℕ) (xs : List tree.Specifier) → a ≡ moved adds_type false xs → (GoesOn T a o → ⊥) → GoesOn T (has_type (tree.specifiers p (before tree.more_specifiers xs tree.no_specifiers))) o → ⊥
specifiers_stop p xs same other = typed_stop (same ∙ sym (has_type_behind p xs)) other
