-- What is answered of specifiers, put together.
use Rattle.std.proofs.Common.{◌≡◌, ◌≤◌, ◌&&◌, ℕ, Bool, true, false, List, [], ◌∷◌, length, eq-eqb, is_some, Some, None, inl, inr, refl, sym, ap, ◌∙◌, arith, Result, Ok, Err}
use Rattle.std.proofs.lemmas.Bool.{le-leb}
use Rattle.im_ctree.specs.Tree as t
use Rattle.im_ctree.specs.declared.specifier.SpecifierWord.{SpecifierWord}
use Rattle.im_check_scopes.specs.im_rules.Rules.{named_in, keywords_in, storage_in, line_type, lines, rule_1, rule_2_elsewhere}
use Rattle.im_check_scopes.specs.im_rules.Context.{Context}
use Rattle.im_check_scopes.specs.im_rules.Demands.{Demand, asks, Meets, Refuses}
use Rattle.im_check_scopes.specs.im_rules.Declared.{Qualified, specified, specified_asks, specifiers_ask, line_meant}
use Rattle.im_ctype.specs.Types.{CType}
use Rattle.im_check_stop.specs.declared.stop.Stop.{Stop}
use Rattle.im_check_stop.specs.declared.stop.Stop.TheVariants.{Rule, Large, Memory}
use Rattle.im_check_type_specifiers.specs.declared.qualified.Qualified as y
use Rattle.im_check_type_specifiers.specs.Specified.{IsQualified, file_asks, base_of}

and_true : (b : Bool) → (b && true) ≡ b
and_true true = refl
and_true false = refl

pub words_line : (xs : t.SpecifierList) → named_in xs ≡ [] → length (storage_in xs) ≤ 1 → rule_1 xs ≡ is_some (line_type lines (keywords_in xs))
words_line xs n few = rw (n, le-leb (length (storage_in xs)) 1 few) (and_true (is_some (line_type lines (keywords_in xs))))

pub one_named : (xs : t.SpecifierList) (s : t.Specifier) → named_in xs ≡ s ∷ [] → keywords_in xs ≡ [] → length (storage_in xs) ≤ 1 → rule_1 xs ≡ true
one_named xs s n k few = rw (n, k, le-leb (length (storage_in xs)) 1 few) refl

more_named : (xs : t.SpecifierList) (s z : t.Specifier) (zs : List t.Specifier) → named_in xs ≡ s ∷ z ∷ zs → rule_1 xs ≡ false
more_named xs s z zs n = rw n refl

with_words : (xs : t.SpecifierList) (s : t.Specifier) (w : SpecifierWord) (ws : List SpecifierWord) → named_in xs ≡ s ∷ [] → keywords_in xs ≡ w ∷ ws → rule_1 xs ≡ false
with_words xs s w ws n k = rw (n, k) refl

not_one_of : (xs : t.SpecifierList) (s : t.Specifier) (zs : List t.Specifier) (ks : List SpecifierWord) → named_in xs ≡ s ∷ zs → keywords_in xs ≡ ks → (length (s ∷ zs) ≡ 1 → length ks ≡ 0 → ⊥) → rule_1 xs ≡ false
not_one_of xs s [] [] n k h = absurd (h refl refl)
not_one_of xs s [] (w ∷ ws) n k h = with_words xs s w ws n k
not_one_of xs s (z ∷ zs) ks n k h = more_named xs s z zs n

pub not_one : (xs : t.SpecifierList) (s : t.Specifier) (zs : List t.Specifier) → named_in xs ≡ s ∷ zs → (length (named_in xs) ≡ 1 → length (keywords_in xs) ≡ 0 → ⊥) → rule_1 xs ≡ false
not_one xs s zs n h = not_one_of xs s zs (keywords_in xs) n refl (λ a b. h (ap length n ∙ a) b)

-- what stands among structs, enums and typedef names is one
pub first_is_named : (xs : t.SpecifierList) (s : t.Specifier) (rest : List t.Specifier) → named_in xs ≡ s ∷ rest → named_in (t.more_specifiers s t.no_specifiers) ≡ s ∷ []
first_is_named t.no_specifiers s rest n = absurd (let bad : [] ≡ s ∷ rest = n in cc)
first_is_named (t.more_specifiers (t.word_specifier at w) xs) s rest n = first_is_named xs s rest n
first_is_named (t.more_specifiers (t.typedef_specifier at x) xs) s rest n = let e : t.typedef_specifier at x ≡ s = cc in rw (← e) refl
first_is_named (t.more_specifiers (t.struct_specifier at x ms) xs) s rest n = let e : t.struct_specifier at x ms ≡ s = cc in rw (← e) refl
first_is_named (t.more_specifiers (t.struct_tag at x) xs) s rest n = let e : t.struct_tag at x ≡ s = cc in rw (← e) refl
first_is_named (t.more_specifiers (t.enum_specifier at x es) xs) s rest n = let e : t.enum_specifier at x es ≡ s = cc in rw (← e) refl
first_is_named (t.more_specifiers (t.enum_tag at x) xs) s rest n = let e : t.enum_tag at x ≡ s = cc in rw (← e) refl

-- the words of a line
pub made_of_words : (c : Context) (xs : t.SpecifierList) (ty : CType) → named_in xs ≡ [] → length (storage_in xs) ≤ 1 → Some (ty) ≡ line_type lines (keywords_in xs)
    → Meets (file_asks c xs) × (record { constant = false; type = ty } ≡ base_of c xs)
made_of_words c xs ty n few e =
    let r : rule_1 xs ≡ true = words_line xs n few ∙ ap is_some (sym e) in
    let m : Meets (specified_asks c (named_in xs)) = rw n tt in
    ((r, m), rw n (ap line_meant e))

pub refused_words : (c : Context) (xs : t.SpecifierList) → named_in xs ≡ [] → length (storage_in xs) ≤ 1 → None ≡ line_type lines (keywords_in xs) → Refuses 1 (file_asks c xs)
refused_words c xs n few e = inl (refl, words_line xs n few ∙ ap is_some (sym e))

-- a name that stands alone
pub made_of_name : (c : Context) (xs : t.SpecifierList) (s : t.Specifier) (at : ℕ) (result : Result y.Qualified Stop) → named_in xs ≡ s ∷ [] → keywords_in xs ≡ [] → length (storage_in xs) ≤ 1
    → ((ks : List SpecifierWord) → IsQualified (specified_asks c (s ∷ [])) (specified c (s ∷ []) ks) at result)
    → IsQualified (file_asks c xs) (base_of c xs) at result
made_of_name c xs s at (Ok y) n k few h =
    let p = h [] in
    let m : Meets (specified_asks c (named_in xs)) = rw n p.0 in
    ((one_named xs s n k few, m), rw (n, k) p.1)
made_of_name c xs s at (Err (Rule rule token)) n k few h =
    let p = h [] in
    let q : Refuses rule (specified_asks c (named_in xs)) = rw n p.0 in
    (inr q, p.1)
made_of_name c xs s at (Err (Large bytes)) n k few h = absurd (h [])
made_of_name c xs s at (Err Memory) n k few h = tt

behind_one : {rule : ℕ} (a z : Demand) (ds : List Demand) → Refuses rule (a ∷ ds) → Refuses rule (a ∷ z ∷ ds)
behind_one a z ds (inl x) = inl x
behind_one a z ds (inr y) = inr (inr y)

-- without a storage word specifiers ask the same in a block
pub elsewhere : (c : Context) (xs : t.SpecifierList) (q : Qualified) (at : ℕ) (result : Result y.Qualified Stop) → length (storage_in xs) ≡ 0
    → IsQualified (file_asks c xs) q at result → IsQualified (specifiers_ask c xs) q at result
elsewhere c xs q at (Ok y) e h = ((h.0.0, (eq-eqb (length (storage_in xs)) 0 e, h.0.1)), h.1)
elsewhere c xs q at (Err (Rule rule token)) e h = (behind_one (asks 1 (rule_1 xs)) (asks 2 (rule_2_elsewhere xs)) (specified_asks c (named_in xs)) h.0, h.1)
elsewhere c xs q at (Err (Large bytes)) e h = absurd h
elsewhere c xs q at (Err Memory) e h = tt

alone : (zs : List t.Specifier) (s : t.Specifier) → length (s ∷ zs) ≡ 1 → zs ≡ []
alone [] s e = refl
alone (z ∷ zs) s e = absurd (omega arith)

no_words : (ks : List SpecifierWord) → length ks ≡ 0 → ks ≡ []
no_words [] e = refl
no_words (k ∷ ks) e = absurd (omega arith)

pub name_alone : (c : Context) (xs : t.SpecifierList) (s : t.Specifier) (zs : List t.Specifier) (at : ℕ) (result : Result y.Qualified Stop) → named_in xs ≡ s ∷ zs → length (named_in xs) ≡ 1 → length (keywords_in xs) ≡ 0 → length (storage_in xs) ≤ 1
    → ((ks : List SpecifierWord) → IsQualified (specified_asks c (s ∷ [])) (specified c (s ∷ []) ks) at result)
    → IsQualified (file_asks c xs) (base_of c xs) at result
name_alone c xs s zs at result n one none few h =
    made_of_name c xs s at result (n ∙ ap (λ ys. s ∷ ys) (alone zs s (sym (ap length n) ∙ one))) (no_words (keywords_in xs) none) few h
