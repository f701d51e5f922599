-- A whole text, external declaration by external declaration.
use Rattle.std.proofs.Common.{◌≡◌, ℕ, suc, ◌+◌, ◌<◌, ◌≤◌, List, [], ◌∷◌, ◌++◌, length, map, take, drop, sym, refl, ap, ◌∙◌, subst, arith, append_assoc, length-append, length-drop}
use Rattle.std.specs.Prelude.{Some, None}
use Rattle.std.proofs.lemmas.List.{append-nil}
use Rattle.im_tok.specs.declared.punctuator.Punctuator.TheVariants.{Semicolon}
use Rattle.im_word.specs.Words.{Name, Word, mark}
use Rattle.im_ctree.specs.Tree as tree
use Rattle.im_ctree.specs.Units as units
use Rattle.im_ctree.specs.Typedefs.{names_behind_external}
use Rattle.im_ctree.specs.Follow.{Starting, StartsSpecifier}
use Rattle.im_ctree.specs.Shape.{external_of, externals_of}
use Rattle.im_ctree.specs.declared.unit.External.{External}
use Rattle.im_ctree.proofs.Ranks.{starting_append, specifiers_starts}
use Rattle.im_parse_core.specs.Reads.{Family, Ending, head, Reads, Refuses, Within}
use Rattle.im_parse_core.specs.Parts.{Both, both, Made, made, Done, done}
use Rattle.im_parse_core.specs.Lists.{before}
use Rattle.im_parse_core.specs.Repeats.{Repeated, no_more, one_more}
use Rattle.im_parse_core.proofs.Steps.{Into, start, line, part, refused, all}
use Rattle.im_parse_core.proofs.Repeats as rows
use Rattle.im_parse_expression.specs.Parsing.{Anything}
use Rattle.im_parse_core.specs.Places.{StopsAt}
use Rattle.im_parse_core.specs.declared.stop.Stop.{Stop}
use Rattle.im_parse_core.specs.declared.stop.Stop.TheVariants.{Syntax, Memory}
use Rattle.im_parse.specs.Spelling.{IsFirstFault, StopsUnit}

-- nothing stands behind a text
abbrev pub AtEnd : Ending tree.Tree
AtEnd t r = r ≡ []

abbrev Row : List Name → Family tree.Tree
Row T = Repeated units.IsExternal names_behind_external tree.more_externals tree.no_externals T

abbrev FirstAnd : List Name → Family tree.Tree
FirstAnd T = Both (units.IsExternal T) (λ e. Made (tree.more_externals e) (Row (names_behind_external T e)))

row_into : {T T' : List Name} {p k : ℕ} {e : tree.External} {t : tree.Tree} {u v : List Word} → units.IsExternal T p e u → Row T' k t v → T' ≡ names_behind_external T e → k ≡ p + length u → units.IsUnit T p (tree.more_externals e t) (u ++ v)
row_into {T = T} {p = p} {e = e} {u = u} d no_more sT sk = subst (units.IsUnit T p (tree.more_externals e tree.no_externals)) (sym (append-nil u)) (units.last_external d)
row_into {T = T} {T' = T'} {p = p} {k = k} {u = u} d (one_more {a = a} {b = b} {u = u'} {v = v'} d' rest) sT sk =
    units.next_external d (subst (λ z. units.IsUnit z (p + length u) (tree.more_externals a b) (u' ++ v')) sT (subst (λ z. units.IsUnit T' z (tree.more_externals a b) (u' ++ v')) sk (row_into {T = T'} {p = k} {e = a} {u = u'} d' rest refl refl)))

of_first : {T : List Name} {p : ℕ} {t : tree.Tree} {w : List Word} → FirstAnd T p t w → Row T p t w
of_first (both d (made rest)) = one_more d rest

row_back : {T : List Name} {p : ℕ} {t : tree.Tree} {w : List Word} → units.IsUnit T p t w → FirstAnd T p t w
row_back {T = T} {p = p} (units.last_external {e = e} {u = u} d) = subst (FirstAnd T p (tree.more_externals e tree.no_externals)) (append-nil u) (both d (made no_more))
row_back (units.next_external d rest) = both d (made (of_first (row_back rest)))

unit_into : (T : List Name) (q : ℕ) → Into (Both (FirstAnd T) (λ b. Done b)) (units.IsUnit T) q
unit_into T q t _ (both {u = w} (both {a = e} {u = u} d (made {t = b} {u = v} rest)) done) = subst (units.IsUnit T q (tree.more_externals e b)) (sym (append-nil (u ++ v))) (row_into d rest refl refl)

unit_back : (T : List Name) (q : ℕ) → Into (units.IsUnit T) (Both (FirstAnd T) (λ b. Done b)) q
unit_back T q t u d = subst (Both (FirstAnd T) (λ b. Done b) q t) (append-nil u) (both (row_back d) done)

abbrev pub NextExternal : List Name → List Word → List tree.External → List Name → ℕ → Type 0
NextExternal T words xs T' q = Within (units.IsUnit T) AtEnd 0 (drop 0 words) (rows.Next units.IsExternal names_behind_external tree.more_externals tree.no_externals (λ b. Done b) xs T') AtEnd q (drop q words) (λ t. t)

abbrev pub InExternals : List Name → List Word → List tree.External → List Name → ℕ → Type 0
InExternals T words xs T' q = Within (units.IsUnit T) AtEnd 0 (drop 0 words) (rows.Rest units.IsExternal names_behind_external tree.more_externals tree.no_externals (λ b. Done b) xs T') AtEnd q (drop q words) (λ t. t)

pub unit_start : (words : List Word) (T : List Name) → NextExternal T words [] T 0
unit_start words T = rows.first (λ b. Done b) (line (Both (FirstAnd T) (λ b. Done b)) (unit_into T 0) (λ t u r e d f. unit_back T 0 t u d) (start (units.IsUnit T) AtEnd 0 (drop 0 words)))

external_starts : {T : List Name} {p : ℕ} {e : tree.External} {u : List Word} → units.IsExternal T p e u → Starting (StartsSpecifier T) u
external_starts (units.a_declaration (units.declares_none {u = u} s)) = starting_append u (mark Semicolon ∷ []) (specifiers_starts s)
external_starts (units.a_declaration (units.declares {u = u} {v = v} s none ds)) = starting_append u (v ++ (mark Semicolon ∷ [])) (specifiers_starts s)
external_starts (units.a_definition {u = u} {v = v} {w = w} s none d b) = starting_append u (v ++ w) (specifiers_starts s)

external_head : {T : List Name} {p : ℕ} {e : tree.External} {u : List Word} (z : List Word) → units.IsExternal T p e u → head (u ++ z) ≡ None → ⊥
external_head z d e = let s = external_starts d in let h : Some s.0 ≡ None = ap (λ y. head (y ++ z)) (sym s.2) ∙ e in cc

done_end : {k : ℕ} {b t : tree.Tree} (u r : List Word) → Done b k t u → r ≡ [] → head (u ++ r) ≡ None
done_end _ r done e = ap head e

pub externals_more : (words : List Word) (xs : List tree.External) {T T' : List Name} {q : ℕ} → (head (drop q words) ≡ None → ⊥) → InExternals T words xs T' q → NextExternal T words xs T' q
externals_more words xs other from = rows.one (λ b. Done b) xs (λ k t u r e d f. other (sym e ∙ done_end u r d f)) from

pub refuses_external : (words : List Word) (xs : List tree.External) {T T' : List Name} {q n : ℕ} → NextExternal T words xs T' q → Refuses (units.IsExternal T') Anything q (drop q words) n (drop n words) → Refuses (units.IsUnit T) AtEnd 0 (drop 0 words) n (drop n words)
refuses_external words xs {T' = T'} from one = refused (rows.completes_item (λ b. Done b) xs T' (λ b k. (b, [], done))) (λ a q t v r d e. tt) one from

pub externals_next : (words : List Word) (xs : List tree.External) {T T' T'' : List Name} {q n : ℕ} {a : tree.External} → T'' ≡ names_behind_external T' a → NextExternal T words xs T' q → Reads (units.IsExternal T') Anything q (drop q words) a n (drop n words) → InExternals T words (xs ++ a ∷ []) T'' n
externals_next words xs {T = T} {T' = T'} {n = n} {a = a} same from one = subst (λ z. InExternals T words (xs ++ a ∷ []) z n) (sym same) (part (λ a q t v r d e. tt) one from)

pub reads_unit : (words : List Word) (xs : List tree.External) {T T' : List Name} {q : ℕ} → head (drop q words) ≡ None → InExternals T words xs T' q → Reads (units.IsUnit T) AtEnd 0 (drop 0 words) (before tree.more_externals xs tree.no_externals) q (drop q words)
reads_unit words xs none from = all (rows.over (λ b. Done b) xs (λ a u z d e. external_head z d (e ∙ none)) from)

pub externals_item : (items : List External) (x : External) → map external_of (items ++ x ∷ []) ≡ map external_of items ++ external_of x ∷ []
externals_item [] x = refl
externals_item (y ∷ items) x = ap (λ z. external_of y ∷ z) (externals_item items x)

pub externals_before : (items : List External) → externals_of items ≡ before tree.more_externals (map external_of items) tree.no_externals
externals_before [] = refl
externals_before (x ∷ items) = ap (λ z. tree.more_externals (external_of x) z) (externals_before items)

-- an external declaration has a word
nonempty : {u : List Word} {P : Word → Type 0} → Starting P u → 0 < length u
nonempty {u = []} s = absurd (let e : [] ≡ s.0 ∷ s.1 = s.2 in cc)
nonempty {u = x ∷ u} s = omega arith

pub external_advances : {T : List Name} {q n : ℕ} {w m : List Word} {a : tree.External} → Reads (units.IsExternal T) Anything q w a n m → q < n
external_advances one = omega (arith, one.place, nonempty (external_starts one.derived))

no_head : (w : List Word) → length w ≡ 0 → head w ≡ None
no_head [] e = refl
no_head (x ∷ w) e = absurd (omega (arith, e))

-- behind the last word
pub ended : (words : List Word) (q : ℕ) → length words ≤ q → head (drop q words) ≡ None
ended words q h = no_head (drop q words) (omega (arith, length-drop q words))

a_head : (w : List Word) → 0 < length w → head w ≡ None → ⊥
a_head [] h e = absurd (omega (arith, h))
a_head (x ∷ w) h e = let k : Some x ≡ None = e in cc

pub unended : (words : List Word) (q : ℕ) → q < length words → head (drop q words) ≡ None → ⊥
unended words q h e = a_head (drop q words) (omega (arith, length-drop q words)) e

no_words : (w : List Word) → length w ≡ 0 → w ≡ []
no_words [] e = refl
no_words (x ∷ w) e = absurd (omega (arith, e))

-- what is read to the end is the whole text
pub spells : (words : List Word) {T : List Name} {t : tree.Tree} {q : ℕ} → length words ≤ q → Reads (units.IsUnit T) AtEnd 0 (drop 0 words) t q (drop q words) → units.IsUnit T 0 t words
spells words {T = T} {t = t} {q = q} h one =
    let none : drop q words ≡ [] = no_words (drop q words) (omega (arith, length-drop q words)) in
    subst (units.IsUnit T 0 t) (sym (append-nil one.front) ∙ ap (λ z. one.front ++ z) (sym none) ∙ sym one.cut) one.derived

-- the place of a fault
taken : (front m : List Word) → take (length front) (front ++ m) ≡ front
taken [] m = refl
taken (x ∷ front) m = ap (λ z. x ∷ z) (taken front m)

taken_more : (front : List Word) (x : Word) (m : List Word) → take (suc (length front)) (front ++ (x ∷ m)) ≡ front ++ (x ∷ [])
taken_more [] x m = refl
taken_more (y ∷ front) x m = ap (λ z. y ∷ z) (taken_more front x m)

abbrev NoneGoesOn : List Word → List Word → Type 0
NoneGoesOn front m = (others u r : List Word) (t : tree.Tree) → head others ≡ head m → front ++ others ≡ u ++ r → units.IsUnit units.predeclared_names 0 t u → r ≡ [] → ⊥

no_front : (front m : List Word) → NoneGoesOn front m → length front < length (front ++ m) → units.IsFront (take (suc (length front)) (front ++ m)) → ⊥
no_front front [] none h front' = absurd (omega (arith, h, length-append front []))
no_front front (x ∷ m) none h (more, t, d) =
    none (x ∷ more) ((front ++ (x ∷ [])) ++ more) [] t refl (sym (append_assoc front (x ∷ []) more) ∙ sym (append-nil ((front ++ (x ∷ [])) ++ more)))
    (subst (λ z. units.IsUnit units.predeclared_names 0 t (z ++ more)) (taken_more front x m) d) refl

fault_at : (front m more : List Word) (whole : tree.Tree) → units.IsUnit units.predeclared_names 0 whole (front ++ more) → NoneGoesOn front m → IsFirstFault (front ++ m) (length front)
fault_at front m more whole begun none = record {
  within = omega (arith, length-append front m);
  begins = subst units.IsFront (sym (taken front m)) (more, whole, begun);
  stops = no_front front m none;
  unspelt = λ t d. none m (front ++ m) [] t refl (sym (append-nil (front ++ m))) d refl;
}

pub first_fault : (words : List Word) (n : ℕ) → Refuses (units.IsUnit units.predeclared_names) AtEnd 0 (drop 0 words) n (drop n words) → IsFirstFault words n
first_fault words n one =
    let at : n ≡ length one.front = omega (arith, one.place) in
    subst (λ z. IsFirstFault words z) (sym at) (subst (λ z. IsFirstFault z (length one.front)) (sym one.cut) (fault_at one.front (drop n words) one.more one.whole one.begun one.none))

-- why a text has no tree
pub stops_unit : {A : Type 0} {D : Family A} {E : Ending A} (words : List Word) {q : ℕ} → ((n : ℕ) → Refuses D E q (drop q words) n (drop n words) → Refuses (units.IsUnit units.predeclared_names) AtEnd 0 (drop 0 words) n (drop n words)) → (stop : Stop) → StopsAt D E words q stop → StopsUnit words stop
stops_unit words refuses (Syntax n) one = first_fault words n (refuses n one)
stops_unit words refuses Memory one = tt
