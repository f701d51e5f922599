-- Suffixes, the last one first.
use Rattle.std.proofs.Common.{arith, ◌≡◌, ◌<◌, ◌≤◌, ◌+◌, ◌-◌, true, pos, negsuc, unsigned_abs, get_or, ℕ, zero, suc, ℤ, List, [], ◌∷◌, map, length, drop, Option, Some, None, Result, Ok, Err, Box, Global, Vec, inr, refl, sym, ap, subst, ◌∙◌}
use Rattle.std.proofs.lemmas.List.{drop_more, drop_all, length-map}
use Rattle.im_ctree.specs.declared.declarator.Parameter.{Parameter}
use Rattle.im_ctree.specs.declared.declarator.Suffix.{Suffix}
use Rattle.im_ctype.specs.declared.member.Member as rust
use Rattle.im_ctype.specs.Table.{Table, structs_of, members_in, types_of}
use Rattle.im_ctype.specs.Types.{CType, array, Structs}
use Rattle.im_rules.specs.Rules.{rule_6_length}
use Rattle.im_ctree.specs.declared.declarator.SuffixKind as xk
use Rattle.im_ctree.specs.declared.expression.Expression.{Expression}
use Rattle.im_ctree.specs.Shape.{expression_of, parameters_of as parameters_in}
use Rattle.im_ctree.specs.Tree as t
use Rattle.im_rules.specs.Context.{Context, in_new_scope, behind, behind_parameters}
use Rattle.im_rules.specs.Declared.{Qualified, Declared, length_asks, count_of, array_of, element_asks, open_array_of, function_asks, function_of, parameters_of}
use Rattle.im_rules.specs.Demands.{Meets, Refuses}
use Rattle.im_rules.specs.Terms.{constant_in, size_in}
use Rattle.im_rules.specs.Typed.{Suffixed, no_suffix, of_array, of_open_array, of_function, AreParameters}
use Rattle.im_rules.specs.Breaks.{Node, some_suffixes, some_parameters, Broken, here, within, at_array, at_open_array, at_function, Part, behind_length, behind_no_length, behind_function}
use Rattle.im_check_sizes.specs.im_rules_limits.Limits as l
use Rattle.im_ctree_parts.specs.Lists.{maybe_from, suffixes_from, with_suffix}
use Rattle.im_check_stop.specs.declared.stop.Stop.{Stop}
use Rattle.im_check_stop.specs.declared.stop.Stop.TheVariants.{Rule, Large, Memory}
use Rattle.im_check_stop.specs.Answers.{IsRefusal}
use Rattle.im_check_sizes.specs.Sizes.{IsTooLarge}
use Rattle.im_check_type_specifiers.specs.declared.qualified.Qualified as y
use Rattle.im_check_type_specifiers.specs.Specified.{IsQualified, qualified_of}
use Rattle.im_check_declarators.specs.declared.given.Given.{Given}
use Rattle.im_check_declarators.specs.declared.given.Given.TheVariants as g
use Rattle.im_check_declarators.specs.Suffixes.{HasLength, AreGiven, IsGivenLength, IsGivenOf, IsParameters, IsFault, AreSuffixed, SuffixesDone, IsArray, IsArrayFault}
use Rattle.im_check_declarators.proofs.Within.{none_within, array_within, open_within, function_within}

pub array_tree : (at : ℕ) (written : Option (Box Expression Global)) (rest : t.Suffixes) → with_suffix at (xk.Array written) rest ≡ t.array_suffix at (maybe_from written) rest
array_tree at None rest = refl
array_tree at (Some e) rest = refl

-- one suffix, behind which the others are

pub length_done : (c : Context) (known : Structs) (base : Qualified) (e : t.Expression) (rest : t.Suffixes) (others : List Given) (at : ℕ) (z : Option ℤ) (q : Qualified) (result : Result y.Qualified Stop)
    → c.known ≡ known → HasLength c e z × AreGiven (behind e c) rest others → AreSuffixed known base rest others q
    → IsArray c q z at result
    → SuffixesDone c base (t.array_suffix at (t.an_expression e) rest) result
length_done c known base e rest others at z q (Ok r) k g h p =
    let v = g.0.value in
    let s = h (behind e c) k g.1 in
    let m : Meets (length_asks c q (constant_in g.0.term)) = subst (λ (w : Option ℤ). Meets (length_asks c q w)) (sym v) p.0 in
    let a : array_of q (constant_in g.0.term) ≡ qualified_of r = ap (λ (w : Option ℤ). array_of q w) v ∙ sym p.1 in
    let fits : size_in c.known (array_of q (constant_in g.0.term)).type ≤ l.size_limit = subst (λ (w : Option ℤ). size_in c.known (array_of q w).type ≤ l.size_limit) (sym v) p.2 in
    (subst (λ (w : Qualified). Suffixed c base (t.array_suffix at (t.an_expression e) rest) w) a (of_array s.0 g.0.typed m), array_within s.0 g.0.typed fits s.1 g.0.within)
length_done c known base e rest others at z q (Err (Rule rule token)) k g h p =
    let n : Refuses rule (length_asks c q (constant_in g.0.term)) = subst (λ (w : Option ℤ). Refuses rule (length_asks c q w)) (sym g.0.value) p.0 in
    subst (λ (w : ℕ). Broken c (some_suffixes base (t.array_suffix at (t.an_expression e) rest)) rule w) (sym p.1) (here (at_array (h (behind e c) k g.1).0 g.0.typed n))
length_done c known base e rest others at z q (Err (Large bytes)) k g h p =
    let v = g.0.value in
    let m : Meets (length_asks c q (constant_in g.0.term)) = subst (λ (w : Option ℤ). Meets (length_asks c q w)) (sym v) p.0 in
    let size : size_in c.known (array_of q (constant_in g.0.term)).type ≡ bytes = ap (λ (w : Option ℤ). size_in c.known (array_of q w).type) v ∙ sym p.1 in
    (subst (λ (w : ℕ). l.Sized c (some_suffixes base (t.array_suffix at (t.an_expression e) rest)) w) size (l.size_here (l.of_array (h (behind e c) k g.1).0 g.0.typed m p.3)), p.2)
length_done c known base e rest others at z q (Err Memory) k g h p = tt

pub open_done : (c : Context) (known : Structs) (base : Qualified) (rest : t.Suffixes) (others : List Given) (at : ℕ) (q : Qualified) (result : Result y.Qualified Stop)
    → c.known ≡ known → AreGiven c rest others → AreSuffixed known base rest others q
    → IsQualified (element_asks c q) (open_array_of q) at result
    → SuffixesDone c base (t.array_suffix at t.no_expression rest) result
open_done c known base rest others at q (Ok r) k g h p =
    let s = h c k g in
    (subst (λ (w : Qualified). Suffixed c base (t.array_suffix at t.no_expression rest) w) (sym p.1) (of_open_array s.0 p.0), open_within s.1)
open_done c known base rest others at q (Err (Rule rule token)) k g h p =
    subst (λ (w : ℕ). Broken c (some_suffixes base (t.array_suffix at t.no_expression rest)) rule w) (sym p.1) (here (at_open_array (h c k g).0 p.0))
open_done c known base rest others at q (Err (Large bytes)) k g h p = absurd p
open_done c known base rest others at q (Err Memory) k g h p = tt

pub function_done : (c : Context) (known : Structs) (base : Qualified) (ps : t.Parameters) (rest : t.Suffixes) (others : List Given) (at : ℕ) (ds : List Declared) (q : Qualified) (result : Result y.Qualified Stop)
    → c.known ≡ known → AreParameters (in_new_scope c) 0 ps ds × l.IsWithin (in_new_scope c) (some_parameters 0 ps) × AreGiven (behind_parameters ps c) rest others → AreSuffixed known base rest others q
    → IsQualified (function_asks q (parameters_of ps ds)) (function_of q (parameters_of ps ds)) at result
    → SuffixesDone c base (t.function_suffix at ps rest) result
function_done c known base ps rest others at ds q (Ok r) k g h p =
    let s = h (behind_parameters ps c) k g.2 in
    (subst (λ (w : Qualified). Suffixed c base (t.function_suffix at ps rest) w) (sym p.1) (of_function s.0 g.0 p.0), function_within g.1 s.1)
function_done c known base ps rest others at ds q (Err (Rule rule token)) k g h p =
    subst (λ (w : ℕ). Broken c (some_suffixes base (t.function_suffix at ps rest)) rule w) (sym p.1) (here (at_function (h (behind_parameters ps c) k g.2).0 g.0 p.0))
function_done c known base ps rest others at ds q (Err (Large bytes)) k g h p = absurd p
function_done c known base ps rest others at ds q (Err Memory) k g h p = tt

-- what stands behind a suffix

record IsBehind (c : Context) (known : Structs) (base : Qualified) (whole rest : t.Suffixes) (others : List Given) : Type 0 where
  place : Context
  same : place.known ≡ known
  given : AreGiven place rest others
  part : Part c (some_suffixes base whole) place (some_suffixes base rest)

behind_one : (c : Context) (known : Structs) (base : Qualified) (at : ℕ) (kind : xk.SuffixKind) (rest : t.Suffixes) (x : Given) (others : List Given)
    → c.known ≡ known → AreGiven c (with_suffix at kind rest) (x ∷ others) → IsBehind c known base (with_suffix at kind rest) rest others
behind_one c known base at (xk.Array' xk.SuffixKind-Array-0-None') rest g.Open others k a = record { place = c; same = k; given = a; part = behind_no_length }
behind_one c known base at (xk.Array' xk.SuffixKind-Array-0-None') rest (g.Length z) others k a = absurd a
behind_one c known base at (xk.Array' xk.SuffixKind-Array-0-None') rest (g.Parameters ds) others k a = absurd a
behind_one c known base at (xk.Array' (xk.SuffixKind-Array-0-Some' p i e)) rest (g.Length z) others k a = record { place = behind (expression_of i e) c; same = k; given = a.1; part = behind_length }
behind_one c known base at (xk.Array' (xk.SuffixKind-Array-0-Some' p i e)) rest g.Open others k a = absurd a
behind_one c known base at (xk.Array' (xk.SuffixKind-Array-0-Some' p i e)) rest (g.Parameters ds) others k a = absurd a
behind_one c known base at (xk.Function' m ps) rest (g.Parameters ds) others k a = record { place = behind_parameters (parameters_in ps) c; same = k; given = a.2; part = behind_function }
behind_one c known base at (xk.Function' m ps) rest (g.Length z) others k a = absurd a
behind_one c known base at (xk.Function' m ps) rest g.Open others k a = absurd a

not_given : (c : Context) (at : ℕ) (kind : xk.SuffixKind) (rest : t.Suffixes) → AreGiven c (with_suffix at kind rest) [] → ⊥
not_given c at (xk.Array' xk.SuffixKind-Array-0-None') rest a = a
not_given c at (xk.Array' (xk.SuffixKind-Array-0-Some' p i e)) rest a = a
not_given c at (xk.Function' m ps) rest a = a

-- what is given of each suffix, and no more

given_first : (c : Context) (at : ℕ) (kind : xk.SuffixKind) (rest : t.Suffixes) (x : Given) (others : List Given) → AreGiven c (with_suffix at kind rest) (x ∷ others) → IsGivenOf kind x
given_first c at (xk.Array' xk.SuffixKind-Array-0-None') rest g.Open others a = refl
given_first c at (xk.Array' xk.SuffixKind-Array-0-None') rest (g.Length z) others a = absurd a
given_first c at (xk.Array' xk.SuffixKind-Array-0-None') rest (g.Parameters ds) others a = absurd a
given_first c at (xk.Array' (xk.SuffixKind-Array-0-Some' p i e)) rest (g.Length z) others a = (z, refl)
given_first c at (xk.Array' (xk.SuffixKind-Array-0-Some' p i e)) rest g.Open others a = absurd a
given_first c at (xk.Array' (xk.SuffixKind-Array-0-Some' p i e)) rest (g.Parameters ds) others a = absurd a
given_first c at (xk.Function' m ps) rest (g.Parameters ds) others a = (ds, refl)
given_first c at (xk.Function' m ps) rest (g.Length z) others a = absurd a
given_first c at (xk.Function' m ps) rest g.Open others a = absurd a

pub given_at : (base : Qualified) (ss : List Suffix) (gs : List Given) (i : ℕ) (s : Suffix) (last : List Suffix) (x : Given) (others : List Given) (c : Context)
    → AreGiven c (suffixes_from ss) gs → drop i ss ≡ s ∷ last → drop i gs ≡ x ∷ others → IsGivenOf s.kind x
given_at base [] gs zero s last x others c a e f = absurd (let bad : [] ≡ s ∷ last = e in cc)
given_at base [] gs (suc i) s last x others c a e f = absurd (let bad : [] ≡ s ∷ last = e in cc)
given_at base (z ∷ ss) [] i s last x others c a e f = absurd (not_given c z.at z.kind (suffixes_from ss) a)
given_at base (z ∷ ss) (w ∷ gs) zero s last x others c a e f =
    let one : z ≡ s = cc in
    let two : w ≡ x = cc in
    let h : IsGivenOf z.kind w = given_first c z.at z.kind (suffixes_from ss) w gs a in
    subst (λ (k : Suffix). IsGivenOf k.kind x) one (subst (λ (k : Given). IsGivenOf z.kind k) two h)
given_at base (z ∷ ss) (w ∷ gs) (suc i) s last x others c a e f =
    let b = behind_one c c.known base z.at z.kind (suffixes_from ss) w gs refl a in
    given_at base ss gs i s last x others b.place b.given e f

pub given_count : (base : Qualified) (ss : List Suffix) (gs : List Given) (c : Context) → AreGiven c (suffixes_from ss) gs → length gs ≡ length ss
given_count base [] [] c a = refl
given_count base [] (w ∷ gs) c a = absurd a
given_count base (z ∷ ss) [] c a = absurd (not_given c z.at z.kind (suffixes_from ss) a)
given_count base (z ∷ ss) (w ∷ gs) c a =
    let b = behind_one c c.known base z.at z.kind (suffixes_from ss) w gs refl a in
    let h = given_count base ss gs b.place b.given in
    omega arith

pub given_length : (e : Option (Box Expression Global)) (x : Given) → IsGivenOf (xk.Array e) x → IsGivenLength e x
given_length None x h = h
given_length (Some b) x h = h

pub given_parameters : (ps : Vec Parameter Global) (x : Given) → IsGivenOf (xk.Function ps) x → IsParameters x
given_parameters ps x h = h

-- what is at fault wherever these suffixes stand

at_part : {c d : Context} {n m : Node} → Part c n d m → (stop : Stop) → IsFault d m stop → IsFault c n stop
at_part p (Rule rule token) b = within p b
at_part p (Large bytes) b = (l.size_within p b.0, b.1)
at_part p Memory b = tt

abbrev pub AreFaulty : Structs → Qualified → t.Suffixes → List Given → Stop → Type 0
AreFaulty known base ss gs stop = (c : Context) → c.known ≡ known → AreGiven c ss gs → IsFault c (some_suffixes base ss) stop

pub lifted : (known : Structs) (base : Qualified) (stop : Stop) (ss : List Suffix) (gs : List Given) (i : ℕ)
    → AreFaulty known base (suffixes_from (drop i ss)) (drop i gs) stop → AreFaulty known base (suffixes_from ss) gs stop
lifted known base stop ss gs zero h = h
lifted known base stop [] [] (suc i) h = h
lifted known base stop [] (x ∷ gs) (suc i) h = λ c k a. absurd a
lifted known base stop (s ∷ ss) [] (suc i) h = λ c k a. absurd (not_given c s.at s.kind (suffixes_from ss) a)
lifted known base stop (s ∷ ss) (x ∷ gs) (suc i) h = λ c k a.
    let b = behind_one c known base s.at s.kind (suffixes_from ss) x gs k a in
    at_part b.part stop (lifted known base stop ss gs i h b.place b.same b.given)

-- a suffix is done, whatever stands behind it
abbrev pub IsStep : Structs → ℕ → xk.SuffixKind → Given → Qualified → Result y.Qualified Stop → Type 0
IsStep known at kind x q result =
    (c : Context) (base : Qualified) (rest : t.Suffixes) (others : List Given) → c.known ≡ known
    → AreGiven c (with_suffix at kind rest) (x ∷ others) → AreSuffixed known base rest others q
    → SuffixesDone c base (with_suffix at kind rest) result

pub one_more : (known : Structs) (base : Qualified) (s : Suffix) (ss : List Suffix) (x : Given) (gs : List Given) (q : Qualified) (r : y.Qualified) (now : List Suffix) (has : List Given)
    → IsStep known s.at s.kind x q (Ok r) → AreSuffixed known base (suffixes_from ss) gs q → now ≡ s ∷ ss → has ≡ x ∷ gs
    → AreSuffixed known base (suffixes_from now) has (qualified_of r)
one_more known base s ss x gs q r now has step h e f = rw (e, f) (λ c k a. step c base (suffixes_from ss) gs k a h)

-- no suffix is left to be done
pub all_done : (known : Structs) (base : Qualified) (ss : List Suffix) (gs : List Given) (r : y.Qualified) (i : ℕ) → i ≡ 0
    → AreSuffixed known base (suffixes_from (drop i ss)) (drop i gs) (qualified_of r) → AreSuffixed known base (suffixes_from ss) gs (qualified_of r)
all_done known base ss gs r i e h = subst (λ (j : ℕ). AreSuffixed known base (suffixes_from (drop j ss)) (drop j gs) (qualified_of r)) e h

pub step_fault : (known : Structs) (base : Qualified) (s : Suffix) (ss : List Suffix) (x : Given) (gs : List Given) (q : Qualified) (stop : Stop) (all : List Suffix) (has : List Given) (i : ℕ)
    → IsStep known s.at s.kind x q (Err stop) → AreSuffixed known base (suffixes_from ss) gs q → drop i all ≡ s ∷ ss → drop i has ≡ x ∷ gs
    → AreFaulty known base (suffixes_from all) has stop
step_fault known base s ss x gs q stop all has i step h e f =
    let b : AreFaulty known base (suffixes_from (drop i all)) (drop i has) stop = rw (e, f) (λ c k a. step c base (suffixes_from ss) gs k a h) in
    lifted known base stop all has i b

-- before the last suffix
pub none_done : (known : Structs) (base : Qualified) (ss : List Suffix) (gs : List Given) (i : ℕ) → length ss ≤ i → AreSuffixed known base (suffixes_from (drop i ss)) (drop i gs) base
none_done known base ss gs i e = rw (drop_all i ss e) (λ c k g. (no_suffix, none_within c base))

pub before : {X : Type 0} (xs : List X) (i : ℕ) (x : X) → 0 < i → i ≤ length xs → x ≡ get_or xs (i - 1) x → drop (i - 1) xs ≡ x ∷ drop i xs
before {X = X} xs i x some inside is =
    let below : i - 1 < length xs = omega arith in
    let same : i - 1 + 1 ≡ i = omega arith in
    drop_more xs (i - 1) x below ∙ ap (λ (y : X). y ∷ drop (i - 1 + 1) xs) (sym is) ∙ ap (λ (j : ℕ). x ∷ drop j xs) same

counted : (z : ℤ) → true ≡ rule_6_length (Some z) → count_of (Some z) ≡ unsigned_abs z
counted (pos n) h = refl
counted (negsuc n) h = absurd cc

-- the structs are counted
pub structs_counted : (c : Context) (types : Table) (n : ℕ) → c.known ≡ structs_of types → n ≡ length types.structs → length c.known ≡ n
structs_counted c types n k e = ap length k ∙ length-map {A = List rust.Member} types.structs (members_in (types_of types)) ∙ sym e

-- a length is asked about

pub count_meets : (c : Context) (q : Qualified) (z : ℤ) (n : ℕ) → rule_6_length (Some z) ≡ true → Meets (element_asks c q) → n ≡ unsigned_abs z
    → Meets (length_asks c q (Some z)) × (n ≡ count_of (Some z))
count_meets c q z n h m e = ((refl, (h, m)), e ∙ sym (counted z (sym h)))

-- what refuses an element refuses the array
pub count_fault : (c : Context) (q : Qualified) (z : Option ℤ) (at : ℕ) (stop : Stop) → IsRefusal (element_asks c q) at stop → IsRefusal (length_asks c q z) at stop
count_fault c q z at (Rule rule token) r = (inr (inr r.0), r.1)
count_fault c q z at (Large bytes) r = absurd r
count_fault c q z at Memory r = tt

-- an array of so many elements

pub array_made : (c : Context) (known : Structs) (q : Qualified) (z : Option ℤ) (n : ℕ) (a : CType) → c.known ≡ known → Meets (length_asks c q z) × (n ≡ count_of z) → a ≡ array q.type n
    → size_in known a ≤ l.size_limit
    → Meets (length_asks c q z) × (record { constant = q.constant; type = a } ≡ array_of q z) × (size_in c.known (array_of q z).type ≤ l.size_limit)
array_made c known q z n a k m e f =
    let plain : CType → Qualified = λ b. record { constant = q.constant; type = b } in
    let same : a ≡ array q.type (count_of z) = e ∙ ap (λ (i : ℕ). array q.type i) m.1 in
    let fits : size_in c.known a ≤ l.size_limit = subst (λ (j : Structs). size_in j a ≤ l.size_limit) (sym k) f in
    (m.0, ap plain same, subst (λ (b : CType). size_in c.known b ≤ l.size_limit) same fits)

pub array_refused : (c : Context) (q : Qualified) (z : Option ℤ) (at : ℕ) (stop : Stop) → IsRefusal (length_asks c q z) at stop → IsArrayFault c q z at stop
array_refused c q z at (Rule rule token) r = r
array_refused c q z at (Large bytes) r = absurd r
array_refused c q z at Memory r = tt

pub array_too_large : (c : Context) (known : Structs) (q : Qualified) (z : Option ℤ) (n : ℕ) (a : CType) (at : ℕ) (stop : Stop) → c.known ≡ known → Meets (length_asks c q z) × (n ≡ count_of z) → a ≡ array q.type n
    → size_in known q.type ≤ l.size_limit → IsTooLarge (size_in known a) stop → IsArrayFault c q z at stop
array_too_large c known q z n a at (Rule rule token) k m e f r = absurd r
array_too_large c known q z n a at (Large bytes) k m e f r =
    let same : a ≡ array q.type (count_of z) = e ∙ ap (λ (i : ℕ). array q.type i) m.1 in
    let size : size_in known a ≡ size_in c.known (array q.type (count_of z)) = ap (size_in known) same ∙ ap (λ (j : Structs). size_in j (array q.type (count_of z))) (sym k) in
    (m.0, r.0 ∙ size, r.1, subst (λ (j : Structs). size_in j q.type ≤ l.size_limit) (sym k) f)
array_too_large c known q z n a at Memory k m e f r = tt
