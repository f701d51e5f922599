-- Lines in a linker, one after another.
use Rattle.std.proofs.Common.{◌≡◌, ◌≢◌, ℕ, ◌+◌, ◌<◌, ◌≤◌, ◌⊎◌, inl, inr, List, [], ◌∷◌, ◌++◌, length, take, get_or, Option, Some, None, refl, sym, ap, subst, ◌∙◌, arith, append_assoc}
use Rattle.std.specs.Prelude.{slice_get, slice_index, IfSome}
use Rattle.std.proofs.lemmas.List.{append-nil, get_or_append_left, get_or_push, length_push, take_more, take_all}
use Rattle.std.proofs.lemmas.Option.{slice_get_within, slice_get-get_or}
use Rattle.im_rv.specs.declared.instr.Instr.{Instr}
use Rattle.im_rv.specs.declared.code.Line.{Line}
use Rattle.im_rv.specs.Decode.{Line as Instruction, decode}
use Rattle.im_rv.specs.Lines.{line_of}
use Rattle.im_link.specs.declared.aim.Aim.{Aim}
use Rattle.im_link.specs.Links.{StandsAt, Reaches, IsAimed, Does, IsWordOf, AreWordsOf, AreLabelsApart, AreTargetsNear}
use Rattle.im_link.specs.State.{IsAimOf, HasAim, AreLinesKept, AddsAim, AreAimsNear, IsNearAim, IsAimedWord, IsPut}
use Rattle.im_link.proofs.Joining.{get_kept, same_at, old_or_last, last_one}

same_or : (a b : ℕ) → (a ≡ b) ⊎ (a ≢ b)
same_or a b = grind arith

get_more : {X : Type 0} (xs ys : List X) (i : ℕ) (x : X) → slice_get xs i ≡ Some x → slice_get (xs ++ ys) i ≡ Some x
get_more xs ys i x e = get_kept xs ys i (slice_get_within xs i x e) ∙ e

aim_more : (xs ys : List Line) (aim : Aim) → IsAimOf xs aim → IsAimOf (xs ++ ys) aim
aim_more xs ys aim a = record { line = a.line; is_line = get_more xs ys aim.at a.line a.is_line; target = a.target; instr = a.instr }

stands_more : (xs ys : List Line) (l j : ℕ) → StandsAt xs l j → StandsAt (xs ++ ys) l j
stands_more xs ys l j s = record { line = s.line; is_line = get_more xs ys j s.line s.is_line; label = s.label }

-- ---- one line more

module _ (lines : List Line) (line : Line) (aims new : List Aim) (at : ℕ) (here : at ≡ length lines) where
  aims_are_on : (o : Option ℕ) → line.target ≡ o → AddsAim at line.instr o aims new → ((k : ℕ) (aim : Aim) → slice_get aims k ≡ Some aim → IsAimOf lines aim) →
      (k : ℕ) (aim : Aim) → slice_get new k ≡ Some aim → IsAimOf (lines ++ line ∷ []) aim
  aims_are_on None t a old k aim g = aim_more lines (line ∷ []) aim (old k aim (sym (ap (λ (z : List Aim). slice_get z k) a) ∙ g))
  aims_are_on (Some l) t a old k aim g = elim (old_or_last aims a.0 aim k (sym (ap (λ (z : List Aim). slice_get z k) a.1) ∙ g)) [
    | inl o ↦ aim_more lines (line ∷ []) aim (old k aim o)
    | inr e ↦ (
        let is : aim ≡ a.0 = e.1 in
        let place : aim.at ≡ length lines = ap (λ (z : Aim). z.at) is ∙ a.2 ∙ here in
        record {
          line = line;
          is_line = ap (slice_get (lines ++ line ∷ [])) place ∙ last_one lines line;
          target = t ∙ ap (λ (z : ℕ). Some z) (sym (ap (λ (z : Aim). z.label) is ∙ a.3));
          instr = ap (λ (z : Aim). z.instr) is ∙ a.4;
        })
  ]

  has_aim_on : (o : Option ℕ) → AddsAim at line.instr o aims new → (i : ℕ) → HasAim aims i → HasAim new i
  has_aim_on None a i h = (h.0, h.1, ap (λ (z : List Aim). slice_get z h.0) a ∙ h.2, h.3)
  has_aim_on (Some l) a i h = (h.0, h.1, ap (λ (z : List Aim). slice_get z h.0) a.1 ∙ get_more aims (a.0 ∷ []) h.0 h.1 h.2, h.3)

  last_aim : (o : Option ℕ) (l i : ℕ) → AddsAim at line.instr o aims new → o ≡ Some l → i ≡ length lines → HasAim new i
  last_aim None l i a e q = absurd (let bad : None ≡ Some l = e in cc)
  last_aim (Some m) l i a e q = (length aims, a.0, ap (λ (z : List Aim). slice_get z (length aims)) a.1 ∙ last_one aims a.0, a.2 ∙ here ∙ sym q)

  aimed_on : AddsAim at line.instr line.target aims new → ((i l : ℕ) (other : Line) → slice_get lines i ≡ Some other → other.target ≡ Some l → HasAim aims i) →
      (i l : ℕ) (other : Line) → slice_get (lines ++ line ∷ []) i ≡ Some other → other.target ≡ Some l → HasAim new i
  aimed_on a old i l other g t = elim (old_or_last lines line other i g) [
    | inl o ↦ has_aim_on line.target a i (old i l other o t)
    | inr e ↦ last_aim line.target l i a (sym (ap (λ (z : Line). z.target) e.1) ∙ t) e.0
  ]

  stands_on : (before after : ℕ → Option ℕ) (o : Option ℕ) → line.label ≡ o → IfSome o (λ l. after l ≡ Some at) → ((q : ℕ) → o ≢ Some q → after q ≡ before q) →
      ((l j : ℕ) → before l ≡ Some j → StandsAt lines l j) → (l j : ℕ) → after l ≡ Some j → StandsAt (lines ++ line ∷ []) l j
  stands_on before after None e is others old l j f = stands_more lines (line ∷ []) l j (old l j (sym (others l (λ h. cc)) ∙ f))
  stands_on before after (Some m) e is others old l j f = elim (same_or l m) [
    | inl q ↦ (
        let found : Some at ≡ Some j = sym is ∙ ap after (sym q) ∙ f in
        let place : at ≡ j = cc in
        record {
          line = line;
          is_line = ap (slice_get (lines ++ line ∷ [])) (sym place ∙ here) ∙ last_one lines line;
          label = e ∙ ap (λ (z : ℕ). Some z) (sym q);
        })
    | inr ne ↦ stands_more lines (line ∷ []) l j (old l j (sym (others l (λ h. ne (let r : l ≡ m = cc in r))) ∙ f))
  ]

  known_on : (before after : ℕ → Option ℕ) (o : Option ℕ) → line.label ≡ o → IfSome o (λ l. after l ≡ Some at) → ((q : ℕ) → o ≢ Some q → after q ≡ before q) →
      ((l j : ℕ) → StandsAt lines l j → (i : ℕ) × (before l ≡ Some i)) → (l j : ℕ) → StandsAt (lines ++ line ∷ []) l j → (i : ℕ) × (after l ≡ Some i)
  known_on before after None e is others old l j s = elim (old_or_last lines line s.line j s.is_line) [
    | inl o ↦ (let r = old l j (record { line = s.line; is_line = o; label = s.label }) in (r.0, others l (λ h. cc) ∙ r.1))
    | inr q ↦ absurd (let bad : None ≡ Some l = sym e ∙ ap (λ (z : Line). z.label) (sym q.1) ∙ s.label in cc)
  ]
  known_on before after (Some m) e is others old l j s = elim (same_or l m) [
    | inl q ↦ (at, ap after q ∙ is)
    | inr ne ↦ elim (old_or_last lines line s.line j s.is_line) [
      | inl o ↦ (let r = old l j (record { line = s.line; is_line = o; label = s.label }) in (r.0, others l (λ h. ne (let r : l ≡ m = cc in r)) ∙ r.1))
      | inr q ↦ absurd (
          let label : Some m ≡ Some l = sym e ∙ ap (λ (z : Line). z.label) (sym q.1) ∙ s.label in
          let same : m ≡ l = cc in
          ne (sym same))
    ]
  ]

plain_on : (lines : List Line) (line : Line) (words : List ℕ) (w : ℕ) → length words ≡ length lines → decode w ≡ Some (line_of line.instr) →
    ((i : ℕ) (other : Line) → slice_get lines i ≡ Some other → other.target ≡ None → decode (slice_index words i) ≡ Some (line_of other.instr)) →
    (i : ℕ) (other : Line) → slice_get (lines ++ line ∷ []) i ≡ Some other → other.target ≡ None → decode (slice_index (words ++ w ∷ []) i) ≡ Some (line_of other.instr)
plain_on lines line words w count d old i other g t = elim (old_or_last lines line other i g) [
  | inl o ↦ ap decode (get_or_append_left words (w ∷ []) 0 i (let l = slice_get_within lines i other o in omega arith)) ∙ old i other o t
  | inr e ↦ (
      let at : length words ≡ i = (let q = e.0 in omega arith) in
      ap decode (get_or_push words w 0 i at) ∙ d ∙ ap (λ (z : Line). Some (line_of z.instr)) (sym e.1))
]

kept_on : (lines : List Line) (line : Line) (words : List ℕ) (w : ℕ) (aims new : List Aim) (before after : ℕ → Option ℕ) → decode w ≡ Some (line_of line.instr) →
    AddsAim (length words) line.instr line.target aims new → IfSome line.label (λ l. after l ≡ Some (length words)) → ((q : ℕ) → line.label ≢ Some q → after q ≡ before q) →
    AreLinesKept lines words aims before → AreLinesKept (lines ++ line ∷ []) (words ++ w ∷ []) new after
kept_on lines line words w aims new before after d adds is others k = record {
  count = (let c = k.count in let p = length_push words w in let q = length_push lines line in omega arith);
  plain = plain_on lines line words w k.count d k.plain;
  aims_are = aims_are_on lines line aims new (length words) k.count line.target refl adds k.aims_are;
  aimed = aimed_on lines line aims new (length words) k.count adds k.aimed;
  stands = stands_on lines line aims new (length words) k.count before after line.label refl is others k.stands;
  known = known_on lines line aims new (length words) k.count before after line.label refl is others k.known;
}

-- the same, by the number of the line
pub kept_at : (lines : List Line) (line : Line) (words : List ℕ) (w : ℕ) (aims new : List Aim) (before after : ℕ → Option ℕ) (at : ℕ) → at ≡ length words → decode w ≡ Some (line_of line.instr) →
    AddsAim at line.instr line.target aims new → IfSome line.label (λ l. after l ≡ Some at) → ((q : ℕ) → line.label ≢ Some q → after q ≡ before q) →
    AreLinesKept lines words aims before → AreLinesKept (lines ++ line ∷ []) (words ++ w ∷ []) new after
kept_at lines line words w aims new before after at e d adds is others k =
    kept_on lines line words w aims new before after d (subst (λ (z : ℕ). AddsAim z line.instr line.target aims new) e adds) (subst (λ (z : ℕ). IfSome line.label (λ l. after l ≡ Some z)) e is) others k

pub adds_aim : (at : ℕ) (instr : Instr) (l : ℕ) (o : Option ℕ) (aim : Aim) (old new : List Aim) → o ≡ Some l → new ≡ old ++ aim ∷ [] → aim.at ≡ at → aim.label ≡ l → aim.instr ≡ instr → AddsAim at instr o old new
adds_aim at instr l None aim old new t e a b i = absurd (let bad : Some l ≡ None = sym t in cc)
adds_aim at instr l (Some m) aim old new t e a b i = (let same : l ≡ m = cc in (aim, e, a, b ∙ same, i))

-- ---- lines from one place on

pub lines_begin : (before lines : List Line) (words : List ℕ) (aims : List Aim) (found : ℕ → Option ℕ) → AreLinesKept before words aims found → AreLinesKept (before ++ take 0 lines) words aims found
lines_begin before lines words aims found k = subst (λ (z : List Line). AreLinesKept z words aims found) (sym (append-nil before)) k

pub lines_on : (before lines : List Line) (i : ℕ) (line : Line) → i < length lines → line ≡ get_or lines i line → (words : List ℕ) (aims : List Aim) (found : ℕ → Option ℕ) →
    AreLinesKept ((before ++ take i lines) ++ line ∷ []) words aims found → AreLinesKept (before ++ take (i + 1) lines) words aims found
lines_on before lines i line below is words aims found k =
    let more : take (i + 1) lines ≡ take i lines ++ line ∷ [] = take_more lines i line below ∙ ap (λ (z : Line). take i lines ++ z ∷ []) (sym is) in
    subst (λ (z : List Line). AreLinesKept z words aims found) (append_assoc before (take i lines) (line ∷ []) ∙ ap (λ (z : List Line). before ++ z) (sym more)) k

pub lines_end : (before lines : List Line) (i : ℕ) → length lines ≤ i → (words : List ℕ) (aims : List Aim) (found : ℕ → Option ℕ) → AreLinesKept (before ++ take i lines) words aims found → AreLinesKept (before ++ lines) words aims found
lines_end before lines i all words aims found k = subst (λ (z : List Line). AreLinesKept (before ++ z) words aims found) (take_all i lines all) k

-- ---- the words of aims

-- in lines that may be linked, each aim's label is near
pub near_aims : (lines : List Line) (words : List ℕ) (aims : List Aim) (found : ℕ → Option ℕ) → AreLinesKept lines words aims found → AreLabelsApart lines → AreTargetsNear lines → length lines ≤ 261120 → AreAimsNear found (length words) aims
near_aims lines words aims found kept apart near few = λ k aim g.
    let a = kept.aims_are k aim g in
    let inside = slice_get_within lines aim.at a.line a.is_line in
    let target = near aim.at a.line aim.label a.is_line a.target in
    let place = kept.known aim.label target.0 target.1 in
    let stands = kept.stands aim.label place.0 place.1 in
    let there = slice_get_within lines place.0 stands.line stands.is_line in
    let same : target.0 ≡ place.0 = apart aim.label target.0 place.0 target.1 stands in (
      (let c = kept.count in omega arith),
      record {
        place = place.0;
        is_place = place.1;
        from = omega arith;
        to = omega arith;
        reach = subst (λ (z : Instr). Reaches z aim.at place.0) (sym a.instr) (subst (λ (z : ℕ). Reaches a.line.instr aim.at z) same target.2);
      },
    )

pub near_at : (found : ℕ → Option ℕ) (count n : ℕ) (aims : List Aim) (aim : Aim) → n < length aims → aim ≡ get_or aims n aim → AreAimsNear found count aims → (aim.at < count) × IsNearAim found aim
near_at found count n aims aim below is near = near n aim (slice_get-get_or aims n aim below ∙ ap (λ (z : Aim). Some z) (sym is))

-- the words of the first n aims are made
pub record Aiming (lines : List Line) (aims : List Aim) (n : ℕ) (words : List ℕ) : Type 0 where
  pub count : length words ≡ length lines
  pub plain : (i : ℕ) (line : Line) → slice_get lines i ≡ Some line → line.target ≡ None → decode (slice_index words i) ≡ Some (line_of line.instr)
  pub done : (k : ℕ) (aim : Aim) (line : Line) → k < n → slice_get aims k ≡ Some aim → slice_get lines aim.at ≡ Some line → IsWordOf lines aim.at line (slice_index words aim.at)

pub none_aimed : (lines : List Line) (words : List ℕ) (aims : List Aim) (found : ℕ → Option ℕ) → AreLinesKept lines words aims found → Aiming lines aims 0 words
none_aimed lines words aims found k = record { count = k.count; plain = k.plain; done = λ j aim line l g h. absurd (omega arith) }

does_on : (lines : List Line) (line : Line) (aim : Aim) (place : ℕ) (to : Instruction) (o : Option ℕ) → o ≡ Some aim.label → aim.instr ≡ line.instr → StandsAt lines aim.label place → IsAimed (line_of aim.instr) aim.at place to → Does lines aim.at line o to
does_on lines line aim place to None e i s a = absurd (let bad : None ≡ Some aim.label = e in cc)
does_on lines line aim place to (Some l) e i s a =
    let same : aim.label ≡ l = (let q : Some l ≡ Some aim.label = e in cc) in
    (place, subst (λ (z : ℕ). StandsAt lines z place) same s, subst (λ (z : Instr). IsAimed (line_of z) aim.at place to) i a)

-- an aimed word is its line's
word_on : (lines : List Line) (words : List ℕ) (aims : List Aim) (found : ℕ → Option ℕ) (aim : Aim) (line : Line) (w : ℕ) → AreLinesKept lines words aims found → IsAimOf lines aim → slice_get lines aim.at ≡ Some line → IsAimedWord found aim w → IsWordOf lines aim.at line w
word_on lines words aims found aim line w k a g h =
    let same : a.line ≡ line = same_at lines aim.at a.line line a.is_line g in
    let target : line.target ≡ Some aim.label = ap (λ (z : Line). z.target) (sym same) ∙ a.target in
    (h.to, h.is_word, does_on lines line aim h.place h.to line.target target (a.instr ∙ ap (λ (z : Line). z.instr) same) (k.stands aim.label h.place h.is_place) h.leads)

pub aim_on : (lines : List Line) (first : List ℕ) (aims : List Aim) (found : ℕ → Option ℕ) (n : ℕ) (aim : Aim) (w : ℕ) (old new : List ℕ) → AreLinesKept lines first aims found →
    slice_get aims n ≡ Some aim → IsAimedWord found aim w → IsPut aim.at w old new → Aiming lines aims n old → Aiming lines aims (n + 1) new
aim_on lines first aims found n aim w old new k g h put s =
    let a = k.aims_are n aim g in
    record {
      count = put.count ∙ s.count;
      plain = λ i line e t. elim (same_or i aim.at) [
        | inl q ↦ absurd (
            let same : a.line ≡ line = same_at lines aim.at a.line line a.is_line (ap (slice_get lines) (sym q) ∙ e) in
            let bad : None ≡ Some aim.label = sym t ∙ ap (λ (z : Line). z.target) (sym same) ∙ a.target in
            cc)
        | inr ne ↦ ap decode (put.others i ne) ∙ s.plain i line e t
      ];
      done = λ j other line l e f. elim (same_or other.at aim.at) [
        | inl q ↦ (
            let there : slice_get lines aim.at ≡ Some line = ap (slice_get lines) (sym q) ∙ f in
            let made : IsWordOf lines aim.at line w = word_on lines first aims found aim line w k a there h in
            subst (λ (z : ℕ). IsWordOf lines z line (slice_index new z)) (sym q) (subst (λ (z : ℕ). IsWordOf lines aim.at line z) (sym put.here) made))
        | inr ne ↦ (
            let before : j < n = elim (below_or j n l) [
              | inl b ↦ b
              | inr b ↦ absurd (
                  let same : other ≡ aim = same_at aims n other aim (ap (slice_get aims) (sym b) ∙ e) g in
                  ne (ap (λ (z : Aim). z.at) same))
            ] in
            subst (λ (z : ℕ). IsWordOf lines other.at line z) (sym (put.others other.at ne)) (s.done j other line before e f))
      ];
    }
  where
    below_or : (j n : ℕ) → j < n + 1 → (j < n) ⊎ (j ≡ n)
    below_or j n l = grind arith

word_by : (lines : List Line) (aims : List Aim) (words : List ℕ) (i : ℕ) (line : Line) (o : Option ℕ) → line.target ≡ o → slice_get lines i ≡ Some line →
    ((l : ℕ) → line.target ≡ Some l → HasAim aims i) → Aiming lines aims (length aims) words → IsWordOf lines i line (slice_index words i)
word_by lines aims words i line None t g has s = (line_of line.instr, s.plain i line g t, subst (λ (z : Option ℕ). Does lines i line z (line_of line.instr)) (sym t) refl)
word_by lines aims words i line (Some l) t g has s =
    let h = has l t in
    let done = s.done h.0 h.1 line (slice_get_within aims h.0 h.1 h.2) h.2 (ap (slice_get lines) h.3 ∙ g) in
    subst (λ (z : ℕ). IsWordOf lines z line (slice_index words z)) h.3 done

pub all_words : (lines : List Line) (first : List ℕ) (aims : List Aim) (found : ℕ → Option ℕ) (words : List ℕ) → AreLinesKept lines first aims found → Aiming lines aims (length aims) words → AreWordsOf lines words
all_words lines first aims found words k s = record { count = s.count; each = λ i line g. word_by lines aims words i line line.target refl g (λ l t. k.aimed i l line g t) s }

pub aim_next : (lines : List Line) (first : List ℕ) (aims : List Aim) (found : ℕ → Option ℕ) (n : ℕ) (aim : Aim) → n < length aims → aim ≡ get_or aims n aim → (w : ℕ) (old new : List ℕ) → AreLinesKept lines first aims found →
    IsAimedWord found aim w → IsPut aim.at w old new → Aiming lines aims n old → Aiming lines aims (n + 1) new
aim_next lines first aims found n aim below is w old new k h put s = aim_on lines first aims found n aim w old new k (slice_get-get_or aims n aim below ∙ ap (λ (z : Aim). Some z) (sym is)) h put s

pub all_aimed : (lines : List Line) (first : List ℕ) (aims : List Aim) (found : ℕ → Option ℕ) (n : ℕ) → length aims ≤ n → (words : List ℕ) → AreLinesKept lines first aims found → Aiming lines aims n words → AreWordsOf lines words
all_aimed lines first aims found n all words k s = all_words lines first aims found words k (record { count = s.count; plain = s.plain; done = λ j aim line l g h. s.done j aim line (omega arith) g h })
