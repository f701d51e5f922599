-- The parts of a program may be linked.
use Rattle.std.proofs.Common.{◌≡◌, ◌<◌, ◌⊎◌, inl, inr, ℕ, zero, suc, ◌+◌, List, [], ◌∷◌, ◌++◌, Option, Some, None, length, take, refl, sym, ap, ◌∙◌, subst, arith}
use Rattle.std.specs.Prelude.{slice_get}
use Rattle.std.proofs.lemmas.List.Sums.{sum_by-cons}
use Rattle.std.proofs.lemmas.Option.{slice_get_within}
use Rattle.im_num.specs.declared.values.Cause.{Cause}
use Rattle.im_num.specs.declared.values.Cause.TheVariants.{Dep}
use Rattle.im_rv.specs.declared.code.Line.{Line}
use Rattle.im_rv.specs.declared.code.Part.{Part}
use Rattle.im_rv.specs.Formats.{format_of}
use Rattle.im_rv.specs.Lines.{CodeLine, code_line, code_lines}
use Rattle.im_link.specs.Parts.{IsPart, lines_of, first_of, part_size, last_of, HasLastLine}
use Rattle.im_link.specs.Links.{StandsAt, Reaches, AreLabelsApart, AreTargetsNear}
use Rattle.im_link.specs.Cuts.{IsAccessAt, HasAccesses}
use Rattle.im_link.specs.Code.{AreDependencesNamed}
use Rattle.im_link.proofs.Joining.{line_in}
use Rattle.im_block.specs.declared.unit.Unit.{Unit as Code}
use Rattle.im_select.specs.Selects.{if_any, accesses_in, causes_in, HasLabel}
use Rattle.im_frame.specs.declared.layout.Layout.{Layout}
use Rattle.im_link_laws.specs.Program.{HasCode, IsProgram, part_of, start_code}
use Rattle.im_link_laws.specs.Laws.{Within, NamesAccesses, LinkableLaw}
use Rattle.im_link_laws.proofs.Standing.{behind}
use Rattle.im_link_laws.proofs.Owning.{owner_one}
use Rattle.im_link_laws.proofs.Facts.{Goal, Elsewhere, Near, Facts, facts_of}

-- where a line of the whole stands
pub record Located (parts : List Part) (i : ℕ) (line : Line) : Type 0 where
  pub p : ℕ
  pub k : ℕ
  pub part : Part
  pub is_part : IsPart parts p part
  pub there : slice_get part.lines.items k ≡ Some line
  pub at : i ≡ first_of parts p + k

first_on : (x : Part) (xs : List Part) (p : ℕ) → first_of (x ∷ xs) (suc p) ≡ part_size x + first_of xs p
first_on x xs p = sum_by-cons part_size x (take p xs)

in_first : (xs ys : List Line) (i : ℕ) (line : Line) → slice_get (xs ++ ys) i ≡ Some line → (slice_get xs i ≡ Some line) ⊎ ((j : ℕ) × (i ≡ length xs + j) × (slice_get ys j ≡ Some line))
in_first [] ys i line e = inr (i, omega arith, e)
in_first (x ∷ xs) ys zero line e = inl e
in_first (x ∷ xs) ys (suc i) line e = elim (in_first xs ys i line e) [ inl a ↦ inl a | inr b ↦ (let q = b.1 in inr (b.0, omega arith, b.2)) ]

located : (parts : List Part) (i : ℕ) (line : Line) → slice_get (lines_of parts) i ≡ Some line → Located parts i line
located [] i line e = absurd cc
located (x ∷ xs) i line e = elim (in_first x.lines.items (lines_of xs) i line e) [
  | inl a ↦ record { p = 0; k = i; part = x; is_part = refl; there = a; at = (let z : first_of (x ∷ xs) 0 ≡ 0 = refl in omega arith) }
  | inr b ↦
      (let r = located xs b.0 line b.2 in
      let f = first_on x xs r.p in
      let q = b.1 in
      let t = r.at in
      record { p = suc r.p; k = r.k; part = r.part; is_part = r.is_part; there = r.there; at = omega arith })
]

-- a line of a part is one of its code
code_get : (xs : List Line) (k : ℕ) (line : Line) → slice_get xs k ≡ Some line → slice_get (code_lines xs) k ≡ Some (code_line line)
code_get [] k line e = absurd cc
code_get (x ∷ xs) zero line e = let same : x ≡ line = cc in ap (λ z. Some (code_line z)) same
code_get (x ∷ xs) (suc k) line e = code_get xs k line e

same_code : (parts : List Part) (p : ℕ) (part : Part) (code : List CodeLine) → IsPart parts p part → HasCode parts p code → code_lines part.lines.items ≡ code
same_code parts p part code a c = let b = c.is_part in let same : part ≡ c.part = cc in ap (λ (z : Part). code_lines z.lines.items) same ∙ c.lines

in_code : (parts : List Part) (p k : ℕ) (part : Part) (code : List CodeLine) (line : Line) → IsPart parts p part → HasCode parts p code → slice_get part.lines.items k ≡ Some line → slice_get code k ≡ Some (code_line line)
in_code parts p k part code line a c e = ap (λ z. slice_get z k) (sym (same_code parts p part code a c)) ∙ code_get part.lines.items k line e

-- a label of a part's code stands in the whole
stands : (parts : List Part) (p k l : ℕ) (code : List CodeLine) → HasCode parts p code → HasLabel code k l → StandsAt (lines_of parts) l (first_of parts p + k)
stands parts p k l code c h =
    let t : slice_get (code_lines c.part.lines.items) k ≡ Some h.line = ap (λ z. slice_get z k) c.lines ∙ h.there in
    let b = behind c.part.lines.items k h.line t in
    record { line = b.line; is_line = line_in parts p k c.part b.line c.is_part b.there; label = ap (λ (z : CodeLine). z.label) b.is ∙ h.is }

-- the numbers of accesses and causes are those of lines

abbrev pub Among : List Cause → Cause → Type 0
Among cs c = (j : ℕ) × (slice_get cs j ≡ Some c)

pub record Accessed (xs : List CodeLine) (n : ℕ) : Type 0 where
  pub k : ℕ
  pub line : CodeLine
  pub there : slice_get xs k ≡ Some line
  pub is : line.access ≡ Some n

access_back : (xs : List CodeLine) (a n : ℕ) → slice_get (accesses_in xs) a ≡ Some n → Accessed xs n
access_back [] a n e = absurd cc
access_back (x ∷ xs) a n e = by x.access refl a e (λ b g. access_back xs b n g)
  where
    on : Accessed xs n → Accessed (x ∷ xs) n
    on r = record { k = suc r.k; line = r.line; there = r.there; is = r.is }

    by : (o : Option ℕ) → x.access ≡ o → (a : ℕ) → slice_get (if_any o (accesses_in xs)) a ≡ Some n → ((b : ℕ) → slice_get (accesses_in xs) b ≡ Some n → Accessed xs n) → Accessed (x ∷ xs) n
    by None q a g r = on (r a g)
    by (Some m) q zero g r = let same : m ≡ n = cc in record { k = 0; line = x; there = refl; is = q ∙ ap (λ z. Some z) same }
    by (Some m) q (suc a) g r = on (r a g)

cause_in : (xs : List CodeLine) (k : ℕ) (x : CodeLine) (c : Cause) → slice_get xs k ≡ Some x → x.cause ≡ Some c → Among (causes_in xs) c
cause_in [] k x c e g = absurd cc
cause_in (y ∷ xs) zero x c e g =
    let same : y ≡ x = cc in
    let is : y.cause ≡ Some c = ap (λ (z : CodeLine). z.cause) same ∙ g in
    (0, ap (λ o. slice_get (if_any o (causes_in xs)) 0) is)
cause_in (y ∷ xs) (suc k) x c e g = by y.cause (cause_in xs k x c e g)
  where
    by : (o : Option Cause) → Among (causes_in xs) c → Among (if_any o (causes_in xs)) c
    by None r = r
    by (Some d) r = (suc r.0, r.1)

module _ (u : Code) (statics : List ℕ) (layouts : List Layout) (parts : List Part) (program : IsProgram u statics layouts parts) (names : NamesAccesses u) where
  facts : (p : ℕ) (part : Part) → IsPart parts p part → Facts u.functions.items parts p
  facts p part e = facts_of u statics layouts parts program names p (slice_get_within parts p part e)

  labels : AreLabelsApart (lines_of parts)
  labels l i j a b =
      let x = located parts i a.line a.is_line in
      let y = located parts j b.line b.is_line in
      let f = facts x.p x.part x.is_part in
      let g = facts y.p y.part y.is_part in
      let h : HasLabel f.code x.k l = record { line = code_line a.line; there = in_code parts x.p x.k x.part f.code a.line x.is_part f.there x.there; is = a.label } in
      let h' : HasLabel g.code y.k l = record { line = code_line b.line; there = in_code parts y.p y.k y.part g.code b.line y.is_part g.there y.there; is = b.label } in
      let same : y.p ≡ x.p = owner_one u.functions.items y.p x.p l (g.owns y.k l h') (f.owns x.k l h) in
      let is_part : IsPart parts x.p y.part = subst (λ z. IsPart parts z y.part) same y.is_part in
      let k : HasLabel f.code y.k l = record { line = code_line b.line; there = in_code parts x.p y.k y.part f.code b.line is_part f.there y.there; is = b.label } in
      let m = f.one x.k y.k l h k in
      let first : first_of parts y.p ≡ first_of parts x.p = ap (first_of parts) same in
      let s = x.at in
      let t = y.at in
      omega arith

  reaches : (line : Line) (i p k l : ℕ) (code : List CodeLine) → HasCode parts p code → i ≡ first_of parts p + k → Goal parts code k l line.instr.op → (j : ℕ) × StandsAt (lines_of parts) l j × Reaches line.instr i j
  reaches line i p k l code c e (Elsewhere q m other d h far) = (first_of parts q + m, stands parts q m l other d h, inl (ap format_of far))
  reaches line i p k l code c e (Near m h (inl far) a b) = (first_of parts p + m, stands parts p m l code c h, inl (ap format_of far))
  reaches line i p k l code c e (Near m h (inr near) a b) = (first_of parts p + m, stands parts p m l code c h, inr (near, omega arith, omega arith))

  targets : AreTargetsNear (lines_of parts)
  targets i line l e t =
      let x = located parts i line e in
      let f = facts x.p x.part x.is_part in
      reaches line i x.p x.k l f.code f.there x.at (f.leads x.k l (code_line line) (in_code parts x.p x.k x.part f.code line x.is_part f.there x.there) t)

  access : (p : ℕ) (part : Part) (is_part : IsPart parts p part) (n : ℕ) → Within (accesses_in (facts p part is_part).code) n → (k : ℕ) × IsAccessAt part.lines.items n k
  access p part is_part n w =
      let f = facts p part is_part in
      let r = access_back f.code w.0 n w.1 in
      let b = behind part.lines.items r.k r.line (ap (λ z. slice_get z r.k) (same_code parts p part f.code is_part f.there) ∙ r.there) in
      (r.k, record { line = b.line; is_line = b.there; access = ap (λ (z : CodeLine). z.access) b.is ∙ r.is })

  depends : (p : ℕ) (part : Part) (is_part : IsPart parts p part) (c : Cause) → Among (causes_in (facts p part is_part).code) c → HasAccesses part.lines.items c
  depends p part is_part (Dep read write) a = let n = (facts p part is_part).named a.0 read write a.1 in (access p part is_part read n.0, access p part is_part write n.1)
  depends p part is_part c a = tt

  dependences : AreDependencesNamed parts
  dependences p k part line cause is_part is_line is_cause =
      let f = facts p part is_part in
      depends p part is_part cause (cause_in f.code k (code_line line) cause (in_code parts p k part f.code line is_part f.there is_line) is_cause)

  last : HasLastLine parts
  last =
      let count = program.count in
      let begins = program.begins in
      let same : part_of (length u.functions.items) ≡ last_of parts = omega arith in
      record {
        some = omega arith;
        last = begins.part;
        is_last = subst (λ z. IsPart parts z begins.part) same begins.is_part;
        line = some begins.part.lines.items begins.lines;
      }
    where
      some : (xs : List Line) → code_lines xs ≡ start_code u.main → 0 < length xs
      some [] e = absurd cc
      some (x ∷ xs) e = omega arith

pub linkable : LinkableLaw
linkable u statics layouts parts program names = record {
  last = last u statics layouts parts program names;
  labels = labels u statics layouts parts program names;
  targets = targets u statics layouts parts program names;
  dependences = dependences u statics layouts parts program names;
}
