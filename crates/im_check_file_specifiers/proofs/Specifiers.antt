-- Specifiers with a list and without one, put together.
use Rattle.std.proofs.Common.{◌≡◌, ℕ, Bool, true, false, ◌||◌, List, [], ◌∷◌, inl, inr, refl, sym, ap, ◌∙◌, subst}
use Rattle.im_ctree.specs.Tree as t
use Rattle.im_ctype.specs.Types.{CType}
use Rattle.im_rules.specs.Context.{Context}
use Rattle.im_rules.specs.Demands.{Meets, Refuses}
use Rattle.im_rules.specs.Rules.{named_in, keywords_in, rule_1}
use Rattle.im_rules.specs.Declared.{Qualified, specified, specified_asks, type_of_specifiers, has_const, with_const, tags_in}
use Rattle.im_rules.specs.FileScope.{FilePlace, Level, of_the_file, of_members, level_asks}
use Rattle.im_rules.specs.TypedUnit.{Specify, of_specifiers, NamesType, no_list}
use Rattle.im_rules.specs.UnitBreaks.{FileBroken, here_in_file, within_file, at_words, at_name, named_part, file_specifiers, some_named, begins_with_list, file_token}
use Rattle.im_rules_limits.specs.Limits.{FileSized, size_in_file_part, IsFileWithin}
use Rattle.im_check_stop.specs.declared.stop.Stop.{Stop}
use Rattle.im_check_stop.specs.declared.stop.Stop.TheVariants.{Rule, Large, Memory}
use Rattle.im_check_stop.specs.Answers.{IsRefusal}
use Rattle.im_check_type_specifiers.specs.Specified.{file_asks}
use Rattle.im_check_file_specifiers.specs.Answers.{IsFileFault}
use Rattle.im_check_file_specifiers.specs.Lists.{plain}
use Rattle.im_check_file_specifiers.specs.Words.{storage_stands, HasOne, MayStand, HasNoList, NoListBefore}
use Rattle.im_check_file_specifiers.proofs.Places.{with_scopes}
use Rattle.im_check_file_specifiers.proofs.Within.{words_within, without_within}

-- what is asked of the words

pub level_meets : (l : Level) (xs : t.SpecifierList) → storage_stands l xs ≡ true → rule_1 xs ≡ true → Meets (level_asks l xs)
level_meets of_the_file xs s r = (r, tt)
level_meets of_members xs s r = (r, (s, tt))

pub not_one : (l : Level) (xs : t.SpecifierList) → rule_1 xs ≡ false → Refuses 1 (level_asks l xs)
not_one of_the_file xs h = inl (refl, h)
not_one of_members xs h = inl (refl, h)

pub barred : (l : Level) (xs : t.SpecifierList) → storage_stands l xs ≡ false → Refuses 2 (level_asks l xs)
barred of_the_file xs h = absurd cc
barred of_members xs h = inr (inl (refl, h))

pub words_fault : (f : FilePlace) (l : Level) (at : ℕ) (xs : t.SpecifierList) (stop : Stop) → IsRefusal (level_asks l xs) at stop → IsFileFault f (file_specifiers l (t.specifiers at xs)) stop
words_fault f l at xs (Rule rule token) h = subst (λ z. FileBroken f (file_specifiers l (t.specifiers at xs)) rule z) (sym h.1) (here_in_file (at_words h.0))
words_fault f l at xs (Large bytes) h = absurd h
words_fault f l at xs Memory h = tt

-- without a list

first_of : (first : ℕ) (ss : List t.Specifier) → begins_with_list ss ≡ false → file_token (some_named first ss) ≡ first
first_of first [] h = refl
first_of first (t.word_specifier at x ∷ ss) h = refl
first_of first (t.typedef_specifier at x ∷ ss) h = refl
first_of first (t.struct_tag at x ∷ ss) h = refl
first_of first (t.enum_tag at x ∷ ss) h = refl
first_of first (t.struct_specifier at x ms ∷ ss) h = absurd cc
first_of first (t.enum_specifier at x es ∷ ss) h = absurd cc

asks_none : (c : Context) (rule : ℕ) (ss : List t.Specifier) → ss ≡ [] → Refuses rule (specified_asks c ss) → ⊥
asks_none c rule [] e h = h
asks_none c rule (x ∷ ss) e h = absurd cc

broken_without : (f : FilePlace) (l : Level) (at : ℕ) (xs : t.SpecifierList) (rule : ℕ) → HasNoList xs → MayStand l xs → Refuses rule (file_asks f.context xs)
    → FileBroken f (file_specifiers l (t.specifiers at xs)) rule at
broken_without f of_the_file at xs rule none m (inl r) = here_in_file (at_words (inl r))
broken_without f of_members at xs rule none m (inl r) = here_in_file (at_words (inl r))
broken_without f l at xs rule none (s, inl e) (inr r) = absurd (asks_none f.context rule (named_in xs) e r)
broken_without f l at xs rule none (s, inr one) (inr r) =
    let b : FileBroken f (some_named at (named_in xs)) rule at = subst (λ z. FileBroken f (some_named at (named_in xs)) rule z) (first_of at (named_in xs) none) (here_in_file (at_name none r)) in
    within_file (named_part (level_meets l xs s one)) b

pub fault_without : (f : FilePlace) (l : Level) (at : ℕ) (xs : t.SpecifierList) (stop : Stop) → HasNoList xs → MayStand l xs → IsRefusal (file_asks f.context xs) at stop
    → IsFileFault f (file_specifiers l (t.specifiers at xs)) stop
fault_without f l at xs (Rule rule token) none m r = subst (λ z. FileBroken f (file_specifiers l (t.specifiers at xs)) rule z) (sym r.1) (broken_without f l at xs rule none m r.0)
fault_without f l at xs (Large bytes) none m r = absurd r
fault_without f l at xs Memory none m r = tt

pub typed_without : (f g : FilePlace) (l : Level) (at : ℕ) (xs : t.SpecifierList) (q : Qualified)
    → HasNoList xs
    → MayStand l xs
    → Meets (file_asks f.context xs)
    → q ≡ type_of_specifiers f.context xs
    → g ≡ with_scopes (tags_in f.context (named_in xs)) f
    → Specify l f xs q g × IsFileWithin f (file_specifiers l (t.specifiers at xs))
typed_without f g l at xs q none m meets e place =
    let s : Specify l f xs (type_of_specifiers f.context xs) (with_scopes (tags_in f.context (named_in xs)) f) = of_specifiers (level_meets l xs m.0 meets.0) (no_list meets.1) in
    (subst (λ z. Specify l f xs q z) (sym place) (subst (λ z. Specify l f xs z (with_scopes (tags_in f.context (named_in xs)) f)) (sym e) s), without_within f l at xs none)

-- a list is the only struct, enum or typedef name

more_named : (xs : t.SpecifierList) (s z : t.Specifier) (zs : List t.Specifier) → named_in xs ≡ s ∷ z ∷ zs → rule_1 xs ≡ false
more_named xs s z zs n = rw n refl

alone : (xs : t.SpecifierList) (s : t.Specifier) (rest : List t.Specifier) → named_in xs ≡ s ∷ rest → rule_1 xs ≡ true → rest ≡ []
alone xs s [] e one = refl
alone xs s (z ∷ zs) e one =
    let no = more_named xs s z zs e in
    absurd cc

pub one_of : (xs : t.SpecifierList) (s : t.Specifier) (rest : List t.Specifier) → named_in xs ≡ s ∷ rest → HasOne xs → rule_1 xs ≡ true
one_of xs s rest e (inl none) = absurd cc
one_of xs s rest e (inr one) = one

name_passed : (xs : t.SpecifierList) (s : t.Specifier) (rest : List t.Specifier) → begins_with_list (s ∷ []) ≡ false → begins_with_list (s ∷ rest) ≡ begins_with_list (s ∷ []) → HasOne xs → named_in xs ≡ s ∷ rest
    → HasNoList xs × (rest ≡ [])
name_passed xs s rest none same h e = (ap begins_with_list e ∙ same ∙ none, alone xs s rest e (one_of xs s rest e h))

-- no list stands before what follows a specifier that is none
pub passed_by : (xs : t.SpecifierList) (s : t.Specifier) (rest : t.SpecifierList) → begins_with_list (s ∷ []) ≡ false → HasOne xs → NoListBefore xs (t.more_specifiers s rest) → NoListBefore xs rest
passed_by xs (t.word_specifier at x) rest none h (inl e) = inl e
passed_by xs (t.word_specifier at x) rest none h (inr p) = inr p
passed_by xs (t.typedef_specifier at x) rest none h (inl e) = inr (name_passed xs (t.typedef_specifier at x) (named_in rest) none refl h e)
passed_by xs (t.typedef_specifier at x) rest none h (inr p) = absurd (let e = p.1 in cc)
passed_by xs (t.struct_tag at x) rest none h (inl e) = inr (name_passed xs (t.struct_tag at x) (named_in rest) none refl h e)
passed_by xs (t.struct_tag at x) rest none h (inr p) = absurd (let e = p.1 in cc)
passed_by xs (t.enum_tag at x) rest none h (inl e) = inr (name_passed xs (t.enum_tag at x) (named_in rest) none refl h e)
passed_by xs (t.enum_tag at x) rest none h (inr p) = absurd (let e = p.1 in cc)
passed_by xs (t.struct_specifier at x ms) rest none h p = absurd cc
passed_by xs (t.enum_specifier at x es) rest none h p = absurd cc

pub found_list : (xs : t.SpecifierList) (s : t.Specifier) (rest : t.SpecifierList) → begins_with_list (s ∷ []) ≡ true → NoListBefore xs (t.more_specifiers s rest) → named_in xs ≡ s ∷ named_in rest
found_list xs (t.struct_specifier at x ms) rest some (inl e) = e
found_list xs (t.struct_specifier at x ms) rest some (inr p) = absurd (let e = p.1 in cc)
found_list xs (t.enum_specifier at x es) rest some (inl e) = e
found_list xs (t.enum_specifier at x es) rest some (inr p) = absurd (let e = p.1 in cc)
found_list xs (t.word_specifier at x) rest some p = absurd cc
found_list xs (t.typedef_specifier at x) rest some p = absurd cc
found_list xs (t.struct_tag at x) rest some p = absurd cc
found_list xs (t.enum_tag at x) rest some p = absurd cc

pub no_list_at_all : (xs : t.SpecifierList) → NoListBefore xs t.no_specifiers → HasNoList xs
no_list_at_all xs (inl e) = ap begins_with_list e
no_list_at_all xs (inr p) = p.0

or_none : (b : Bool) → (b || false) ≡ b
or_none true = refl
or_none false = refl

pub typed_with : (f g : FilePlace) (l : Level) (at : ℕ) (xs : t.SpecifierList) (s : t.Specifier) (rest : List t.Specifier) (a : CType) (constant : Bool)
    → named_in xs ≡ s ∷ rest
    → MayStand l xs
    → NamesType f (s ∷ rest) (keywords_in xs) (plain a) g × IsFileWithin f (some_named at (s ∷ rest))
    → constant ≡ has_const xs
    → Specify l f xs (record { constant = constant; type = a }) g × IsFileWithin f (file_specifiers l (t.specifiers at xs))
typed_with f g l at xs s rest a constant e m n is =
    let n₁ : NamesType f (named_in xs) (keywords_in xs) (plain a) g = subst (λ z. NamesType f z (keywords_in xs) (plain a) g) (sym e) n.0 in
    let y : Specify l f xs (with_const (has_const xs) (plain a)) g = of_specifiers (level_meets l xs m.0 (one_of xs s rest e m.1)) n₁ in
    let w : IsFileWithin f (some_named at (named_in xs)) = subst (λ z. IsFileWithin f (some_named at z)) (sym e) n.1 in
    (subst (λ b. Specify l f xs (record { constant = b; type = a }) g) (or_none (has_const xs) ∙ sym is) y, words_within f l at xs w)

pub fault_with : (f : FilePlace) (l : Level) (at : ℕ) (xs : t.SpecifierList) (s : t.Specifier) (rest : List t.Specifier) (stop : Stop)
    → named_in xs ≡ s ∷ rest
    → MayStand l xs
    → IsFileFault f (some_named at (s ∷ rest)) stop
    → IsFileFault f (file_specifiers l (t.specifiers at xs)) stop
fault_with f l at xs s rest (Rule rule token) e m b =
    within_file (named_part (level_meets l xs m.0 (one_of xs s rest e m.1))) (subst (λ z. FileBroken f (some_named at z) rule token) (sym e) b)
fault_with f l at xs s rest (Large bytes) e m b =
    (size_in_file_part (named_part (level_meets l xs m.0 (one_of xs s rest e m.1))) (subst (λ z. FileSized f (some_named at z) bytes) (sym e) b.0), b.1)
fault_with f l at xs s rest Memory e m b = tt
