-- What is written, open and found behind one access more.
use Rattle.std.proofs.Common.{◌≡◌, ℕ, List, [], ◌∷◌, ◌++◌, Option, Some, Bool, true, false, refl, sym, ap, ◌∙◌, subst, inl, inr, ⊎_elim, ◌⊎◌, append_assoc}
use Rattle.std.specs.Prelude.{◌||◌, if◌then◌else◌}
use Rattle.im_block.specs.declared.access.Access.{Access}
use Rattle.im_block.specs.declared.access.Tags.{Tags}
use Rattle.im_block.specs.declared.access.Dep.{Dep}
use Rattle.im_block.specs.Meaning.{Site}
use Rattle.im_block.specs.Sections.{Has}
use Rattle.im_block.specs.Paths.{Step, ReadStep, WriteStep, step_of, Open, CoversAt, MeetAt}
use Rattle.im_block.specs.Tagged.{reach_of}
use Rattle.im_dep.specs.declared.spans.Span.{Span}
use Rattle.im_dep.specs.Sites.{site_of_access, steps_of_accesses}
use Rattle.im_dep.specs.Spans.{span_of, holds_span, covers_by, is_covered, AddsSpan}
use Rattle.im_dep.specs.Exposed.{Clobbers, AreExposed, AreClobbers, dep_of, AddsMet}
use Rattle.im_dep.proofs.Covering.{covers_yes, covers_so}
use Rattle.im_dep.proofs.Lists.{has_more, has_behind, has_split}

abbrev pub NoCover : Tags → List Step → Site → Type 0
NoCover tags [] r = Unit {0}
NoCover tags (ReadStep a ∷ path) r = NoCover tags path r
NoCover tags (WriteStep w ∷ path) r = (CoversAt tags w r → ⊥) × NoCover tags path r

open_reader : (tags : Tags) (path : List Step) (a r : Site) → Open tags (path ++ ReadStep a ∷ []) r → Open tags path r ⊎ ((a ≡ r) × NoCover tags path r)
open_reader tags [] a r h = ⊎_elim (λ e. inr (e, tt)) (λ x. absurd x) h
open_reader tags (ReadStep b ∷ path) a r h = ⊎_elim (λ e. inl (inl e)) (λ x. ⊎_elim (λ y. inl (inr y)) (λ y. inr y) (open_reader tags path a r x)) h
open_reader tags (WriteStep b ∷ path) a r h = ⊎_elim (λ y. inl (h.0, y)) (λ y. inr (y.0, (h.0, y.1))) (open_reader tags path a r h.1)

open_writer : (tags : Tags) (path : List Step) (w r : Site) → Open tags (path ++ WriteStep w ∷ []) r → Open tags path r
open_writer tags [] w r h = absurd h.1
open_writer tags (ReadStep b ∷ path) w r h = ⊎_elim (λ e. inl e) (λ x. inr (open_writer tags path w r x)) h
open_writer tags (WriteStep b ∷ path) w r h = (h.0, open_writer tags path w r h.1)

open_more : (tags : Tags) (path more : List Step) (r : Site) → Open tags path r → Open tags (path ++ more) r
open_more tags [] more r h = absurd h
open_more tags (ReadStep a ∷ path) more r h = ⊎_elim (λ e. inl e) (λ x. inr (open_more tags path more r x)) h
open_more tags (WriteStep w ∷ path) more r h = (h.0, open_more tags path more r h.1)

open_here : (tags : Tags) (path : List Step) (r : Site) → NoCover tags path r → Open tags (path ++ ReadStep r ∷ []) r
open_here tags [] r h = inl refl
open_here tags (ReadStep a ∷ path) r h = inr (open_here tags path r h)
open_here tags (WriteStep w ∷ path) r h = (h.0, open_here tags path r h.1)

cover_reader : (tags : Tags) (path : List Step) (a r : Site) → NoCover tags (path ++ ReadStep a ∷ []) r → NoCover tags path r
cover_reader tags [] a r h = tt
cover_reader tags (ReadStep b ∷ path) a r h = cover_reader tags path a r h
cover_reader tags (WriteStep b ∷ path) a r h = (h.0, cover_reader tags path a r h.1)

cover_read : (tags : Tags) (path : List Step) (a r : Site) → NoCover tags path r → NoCover tags (path ++ ReadStep a ∷ []) r
cover_read tags [] a r h = tt
cover_read tags (ReadStep b ∷ path) a r h = cover_read tags path a r h
cover_read tags (WriteStep b ∷ path) a r h = (h.0, cover_read tags path a r h.1)

cover_writer : (tags : Tags) (path : List Step) (w r : Site) → NoCover tags (path ++ WriteStep w ∷ []) r → NoCover tags path r × (CoversAt tags w r → ⊥)
cover_writer tags [] w r h = (tt, h.0)
cover_writer tags (ReadStep b ∷ path) w r h = cover_writer tags path w r h
cover_writer tags (WriteStep b ∷ path) w r h = let x = cover_writer tags path w r h.1 in ((h.0, x.0), x.1)

clean_past : (tags : Tags) (path : List Step) (w r : Site) → NoCover tags path r → (CoversAt tags w r → ⊥) → NoCover tags (path ++ WriteStep w ∷ []) r
clean_past tags [] w r h n = (n, tt)
clean_past tags (ReadStep a ∷ path) w r h n = clean_past tags path w r h n
clean_past tags (WriteStep a ∷ path) w r h n = (h.0, clean_past tags path w r h.1 n)

writes_step : (a : Access) → a.write ≡ true → step_of a ≡ WriteStep (site_of_access a)
writes_step a e = ap (λ b. if b then WriteStep (site_of_access a) else ReadStep (site_of_access a)) e

reads_step : (a : Access) → a.write ≡ false → step_of a ≡ ReadStep (site_of_access a)
reads_step a e = ap (λ b. if b then WriteStep (site_of_access a) else ReadStep (site_of_access a)) e

steps_more : (xs : List Access) (a : Access) → steps_of_accesses (xs ++ a ∷ []) ≡ steps_of_accesses xs ++ step_of a ∷ []
steps_more [] a = refl
steps_more (x ∷ xs) a = ap (λ t. step_of x ∷ t) (steps_more xs a)

more_write : (xs : List Access) (a : Access) → a.write ≡ true → steps_of_accesses (xs ++ a ∷ []) ≡ steps_of_accesses xs ++ WriteStep (site_of_access a) ∷ []
more_write xs a e = steps_more xs a ∙ ap (λ s. steps_of_accesses xs ++ s ∷ []) (writes_step a e)

more_read : (xs : List Access) (a : Access) → a.write ≡ false → steps_of_accesses (xs ++ a ∷ []) ≡ steps_of_accesses xs ++ ReadStep (site_of_access a) ∷ []
more_read xs a e = steps_more xs a ∙ ap (λ s. steps_of_accesses xs ++ s ∷ []) (reads_step a e)

-- an open read is one of the accesses
pub record OpenOne (xs : List Access) (r : Site) : Type 0 where
  pub access : Access
  pub there : Has xs access
  pub reads : access.write ≡ false
  pub site : site_of_access access ≡ r

deeper : (x : Access) (xs : List Access) (r : Site) → OpenOne xs r → OpenOne (x ∷ xs) r
deeper x xs r o = record { access = o.access; there = inr o.there; reads = o.reads; site = o.site }

open_first : (tags : Tags) (x : Access) (xs : List Access) (r : Site) (b : Bool) → x.write ≡ b → Open tags (step_of x ∷ steps_of_accesses xs) r → (Open tags (steps_of_accesses xs) r → OpenOne xs r) → OpenOne (x ∷ xs) r
open_first tags x xs r true e h more =
    let k = subst (λ (s : Step). Open tags (s ∷ steps_of_accesses xs) r) (writes_step x e) h in
    deeper x xs r (more k.1)
open_first tags x xs r false e h more =
    let k = subst (λ (s : Step). Open tags (s ∷ steps_of_accesses xs) r) (reads_step x e) h in
    ⊎_elim (λ q. record { access = x; there = inl refl; reads = e; site = q }) (λ t. deeper x xs r (more t)) k

open_one : (tags : Tags) (xs : List Access) (r : Site) → Open tags (steps_of_accesses xs) r → OpenOne xs r
open_one tags [] r h = absurd h
open_one tags (x ∷ xs) r h = open_first tags x xs r x.write refl h (λ t. open_one tags xs r t)

-- the spans of what is written so far

pub covered_more : (spans : List Span) (s : Span) (p : Option Span) → is_covered (spans ++ s ∷ []) p ≡ (is_covered spans p || holds_span (Some s) p)
covered_more [] s p = last (holds_span (Some s) p)
  where
    last : (b : Bool) → (b || false) ≡ (false || b)
    last true = refl
    last false = refl
covered_more (x ∷ spans) s p = ap (λ t. holds_span (Some x) p || t) (covered_more spans s p) ∙ assoc (holds_span (Some x) p) (is_covered spans p) (holds_span (Some s) p)
  where
    assoc : (a b c : Bool) → (a || (b || c)) ≡ ((a || b) || c)
    assoc true b c = refl
    assoc false b c = refl

pub record Written (tags : Tags) (before : List Access) (written : List Span) : Type 0 where
  pub clean : (r : Site) → is_covered written (span_of tags r) ≡ false → NoCover tags (steps_of_accesses before) r
  pub free : (r : Site) → NoCover tags (steps_of_accesses before) r → is_covered written (span_of tags r) ≡ false

pub written_none : (tags : Tags) → Written tags [] []
written_none tags = record { clean = λ r e. tt; free = λ r n. refl }

pub written_read : (tags : Tags) (before : List Access) (written : List Span) (a : Access) → a.write ≡ false → Written tags before written → Written tags (before ++ a ∷ []) written
written_read tags before written a e h = record {
  clean = λ r c. subst (λ (p : List Step). NoCover tags p r) (sym (more_read before a e)) (cover_read tags (steps_of_accesses before) (site_of_access a) r (h.clean r c));
  free = λ r n. h.free r (cover_reader tags (steps_of_accesses before) (site_of_access a) r (subst (λ (p : List Step). NoCover tags p r) (more_read before a e) n));
}

clash : true ≡ false → ⊥
clash e = cc

covers_not : (tags : Tags) (w r : Site) → covers_by tags w r ≡ false → CoversAt tags w r → ⊥
covers_not tags w r e h = clash (sym (covers_so (reach_of tags w) w.size (reach_of tags r) r.size h) ∙ e)

not_covers : (tags : Tags) (w r : Site) → (CoversAt tags w r → ⊥) → covers_by tags w r ≡ false
not_covers tags w r n = by (covers_by tags w r) refl
  where
    by : (b : Bool) → covers_by tags w r ≡ b → b ≡ false
    by true e = absurd (n (covers_yes (reach_of tags w) w.size (reach_of tags r) r.size e))
    by false e = refl

or_false : (x y : Bool) → (x || y) ≡ false → (x ≡ false) × (y ≡ false)
or_false false y e = (refl, e)
or_false true y e = cc

both_false : (x y : Bool) → x ≡ false → y ≡ false → (x || y) ≡ false
both_false x y p q = ap (λ t. t || y) p ∙ q

pub written_write : (tags : Tags) (before : List Access) (written more : List Span) (a : Access) → a.write ≡ true → Written tags before written → ((r : Site) → is_covered more (span_of tags r) ≡ (is_covered written (span_of tags r) || covers_by tags (site_of_access a) r)) → Written tags (before ++ a ∷ []) more
written_write tags before written more a e h is = record {
  clean = λ r c.
      let both = or_false (is_covered written (span_of tags r)) (covers_by tags (site_of_access a) r) (sym (is r) ∙ c) in
      subst (λ (p : List Step). NoCover tags p r) (sym (more_write before a e)) (clean_past tags (steps_of_accesses before) (site_of_access a) r (h.clean r both.0) (covers_not tags (site_of_access a) r both.1));
  free = λ r n.
      let k = cover_writer tags (steps_of_accesses before) (site_of_access a) r (subst (λ (p : List Step). NoCover tags p r) (more_write before a e) n) in
      is r ∙ both_false (is_covered written (span_of tags r)) (covers_by tags (site_of_access a) r) (h.free r k.0) (not_covers tags (site_of_access a) r k.1);
}

-- a direct write adds its span, any other none
pub written_span : (tags : Tags) (written more : List Span) (w : Site) (place : Option Span) → place ≡ span_of tags w → AddsSpan place written more → (r : Site) → is_covered more (span_of tags r) ≡ (is_covered written (span_of tags r) || covers_by tags w r)
written_span tags written more w place e adds r = adds (span_of tags r) ∙ ap (λ t. is_covered written (span_of tags r) || holds_span t (span_of tags r)) e

pub or_none : (b : Bool) → b ≡ (b || false)
or_none true = refl
or_none false = refl

-- the exposed reads

pub record Found (tags : Tags) (before : List Access) (found : List ℕ) : Type 0 where
  pub only : (n : ℕ) → Has found n → (r : Site) × Open tags (steps_of_accesses before) r × (r.number ≡ n)
  pub all : (r : Site) → Open tags (steps_of_accesses before) r → Has found r.number

pub found_none : (tags : Tags) → Found tags [] []
found_none tags = record { only = λ n h. absurd h; all = λ r o. absurd o }

pub found_write : (tags : Tags) (before : List Access) (found : List ℕ) (a : Access) → a.write ≡ true → Found tags before found → Found tags (before ++ a ∷ []) found
found_write tags before found a e h = record {
  only = λ n k. let o = h.only n k in (o.0, subst (λ (p : List Step). Open tags p o.0) (sym (more_write before a e)) (open_more tags (steps_of_accesses before) (WriteStep (site_of_access a) ∷ []) o.0 o.1), o.2);
  all = λ r o. h.all r (open_writer tags (steps_of_accesses before) (site_of_access a) r (subst (λ (p : List Step). Open tags p r) (more_write before a e) o));
}

pub found_read : (tags : Tags) (before : List Access) (found : List ℕ) (written : List Span) (a : Access) → a.write ≡ false → Written tags before written → is_covered written (span_of tags (site_of_access a)) ≡ false → Found tags before found → Found tags (before ++ a ∷ []) (found ++ a.number ∷ [])
found_read tags before found written a e w c h = record {
  only = λ n k.
      ⊎_elim
      (λ t. let o = h.only n t in (o.0, subst (λ (p : List Step). Open tags p o.0) (sym (more_read before a e)) (open_more tags (steps_of_accesses before) (ReadStep (site_of_access a) ∷ []) o.0 o.1), o.2))
      (λ t. ⊎_elim (λ q. (site_of_access a, subst (λ (p : List Step). Open tags p (site_of_access a)) (sym (more_read before a e)) (open_here tags (steps_of_accesses before) (site_of_access a) (w.clean (site_of_access a) c)), q)) (λ x. absurd x) t)
      (has_split found (a.number ∷ []) n k);
  all = λ r o.
      ⊎_elim
      (λ t. has_more found (a.number ∷ []) r.number (h.all r t))
      (λ (t : (site_of_access a ≡ r) × NoCover tags (steps_of_accesses before) r). has_behind found (a.number ∷ []) r.number (inl (ap (λ (s : Site). s.number) t.0)))
      (open_reader tags (steps_of_accesses before) (site_of_access a) r (subst (λ (p : List Step). Open tags p r) (more_read before a e) o));
}

pub found_covered : (tags : Tags) (before : List Access) (found : List ℕ) (written : List Span) (a : Access) → a.write ≡ false → Written tags before written → is_covered written (span_of tags (site_of_access a)) ≡ true → Found tags before found → Found tags (before ++ a ∷ []) found
found_covered tags before found written a e w c h = record {
  only = λ n k. let o = h.only n k in (o.0, subst (λ (p : List Step). Open tags p o.0) (sym (more_read before a e)) (open_more tags (steps_of_accesses before) (ReadStep (site_of_access a) ∷ []) o.0 o.1), o.2);
  all = λ r o.
      ⊎_elim
      (λ t. h.all r t)
      (λ (t : (site_of_access a ≡ r) × NoCover tags (steps_of_accesses before) r). absurd (clash (sym c ∙ w.free (site_of_access a) (subst (λ (s : Site). NoCover tags (steps_of_accesses before) s) (sym t.0) t.1))))
      (open_reader tags (steps_of_accesses before) (site_of_access a) r (subst (λ (p : List Step). Open tags p r) (more_read before a e) o));
}

pub are_exposed : (tags : Tags) (accesses : List Access) (found : List ℕ) → Found tags accesses found → AreExposed tags accesses found
are_exposed tags accesses found h = record {
  only = λ n k.
      let o = h.only n k in
      let one = open_one tags accesses o.0 o.1 in
      record { access = one.access; there = one.there; number = ap (λ (s : Site). s.number) one.site ∙ o.2; reads = one.reads; opens = subst (λ (s : Site). Open tags (steps_of_accesses accesses) s) (sym one.site) o.1 };
  all = λ n e. subst (λ m. Has found m) e.number (h.all (site_of_access e.access) e.opens);
}

-- the pairs

pub record Reads (tags : Tags) (before reads : List Access) : Type 0 where
  pub only : (a : Access) → Has reads a → Has before a × (a.write ≡ false) × Open tags (steps_of_accesses before) (site_of_access a)
  pub all : (r : Site) → Open tags (steps_of_accesses before) r → OpenOne reads r

pub reads_none : (tags : Tags) → Reads tags [] []
reads_none tags = record { only = λ a h. absurd h; all = λ r o. absurd o }

pub reads_write : (tags : Tags) (before reads : List Access) (a : Access) → a.write ≡ true → Reads tags before reads → Reads tags (before ++ a ∷ []) reads
reads_write tags before reads a e h = record {
  only = λ x k. let o = h.only x k in (has_more before (a ∷ []) x o.0, o.1, subst (λ (p : List Step). Open tags p (site_of_access x)) (sym (more_write before a e)) (open_more tags (steps_of_accesses before) (WriteStep (site_of_access a) ∷ []) (site_of_access x) o.2));
  all = λ r o. h.all r (open_writer tags (steps_of_accesses before) (site_of_access a) r (subst (λ (p : List Step). Open tags p r) (more_write before a e) o));
}

one_more : (reads : List Access) (a : Access) (r : Site) → OpenOne reads r → OpenOne (reads ++ a ∷ []) r
one_more reads a r o = record { access = o.access; there = has_more reads (a ∷ []) o.access o.there; reads = o.reads; site = o.site }

pub reads_read : (tags : Tags) (before reads : List Access) (written : List Span) (a : Access) → a.write ≡ false → Written tags before written → is_covered written (span_of tags (site_of_access a)) ≡ false → Reads tags before reads → Reads tags (before ++ a ∷ []) (reads ++ a ∷ [])
reads_read tags before reads written a e w c h = record {
  only = λ x k.
      ⊎_elim
      (λ t. let o = h.only x t in (has_more before (a ∷ []) x o.0, o.1, subst (λ (p : List Step). Open tags p (site_of_access x)) (sym (more_read before a e)) (open_more tags (steps_of_accesses before) (ReadStep (site_of_access a) ∷ []) (site_of_access x) o.2)))
      (λ t. ⊎_elim (λ q. subst (λ (y : Access). Has (before ++ a ∷ []) y × (y.write ≡ false) × Open tags (steps_of_accesses (before ++ a ∷ [])) (site_of_access y)) q (has_behind before (a ∷ []) a (inl refl), e, subst (λ (p : List Step). Open tags p (site_of_access a)) (sym (more_read before a e)) (open_here tags (steps_of_accesses before) (site_of_access a) (w.clean (site_of_access a) c)))) (λ z. absurd z) t)
      (has_split reads (a ∷ []) x k);
  all = λ r o.
      ⊎_elim
      (λ t. one_more reads a r (h.all r t))
      (λ (t : (site_of_access a ≡ r) × NoCover tags (steps_of_accesses before) r). record { access = a; there = has_behind reads (a ∷ []) a (inl refl); reads = e; site = t.0 })
      (open_reader tags (steps_of_accesses before) (site_of_access a) r (subst (λ (p : List Step). Open tags p r) (more_read before a e) o));
}

pub reads_covered : (tags : Tags) (before reads : List Access) (written : List Span) (a : Access) → a.write ≡ false → Written tags before written → is_covered written (span_of tags (site_of_access a)) ≡ true → Reads tags before reads → Reads tags (before ++ a ∷ []) reads
reads_covered tags before reads written a e w c h = record {
  only = λ x k. let o = h.only x k in (has_more before (a ∷ []) x o.0, o.1, subst (λ (p : List Step). Open tags p (site_of_access x)) (sym (more_read before a e)) (open_more tags (steps_of_accesses before) (ReadStep (site_of_access a) ∷ []) (site_of_access x) o.2));
  all = λ r o.
      ⊎_elim
      (λ t. h.all r t)
      (λ (t : (site_of_access a ≡ r) × NoCover tags (steps_of_accesses before) r). absurd (clash (sym c ∙ w.free (site_of_access a) (subst (λ (s : Site). NoCover tags (steps_of_accesses before) s) (sym t.0) t.1))))
      (open_reader tags (steps_of_accesses before) (site_of_access a) r (subst (λ (p : List Step). Open tags p r) (more_read before a e) o));
}

-- a list of one element more, parted at an element
record Parted (xs : List Access) (a : Access) (before : List Access) (w : Access) (behind : List Access) : Type 0 where
  inner : (rest : List Access) × (behind ≡ rest ++ a ∷ []) × (xs ≡ before ++ w ∷ rest)

parted : (xs : List Access) (a : Access) (before : List Access) (w : Access) (behind : List Access) → xs ++ a ∷ [] ≡ before ++ w ∷ behind → Parted xs a before w behind ⊎ ((w ≡ a) × (before ≡ xs))
parted [] a [] w behind e = let q : w ≡ a = cc in inr (q, refl)
parted [] a (b ∷ before) w behind e = absurd (none before e)
  where
    tail : List Access → List Access
    tail [] = []
    tail (y ∷ ys) = ys

    none : (zs : List Access) → a ∷ [] ≡ b ∷ (zs ++ w ∷ behind) → ⊥
    none [] q = cc
    none (z ∷ zs) q = cc
parted (x ∷ xs) a [] w behind e =
    let one : x ≡ w = cc in
    let two : xs ++ a ∷ [] ≡ behind = cc in
    inl (record { inner = (xs, sym two, ap (λ (t : Access). t ∷ xs) one) })
parted (x ∷ xs) a (b ∷ before) w behind e =
    let one : x ≡ b = cc in
    let two : xs ++ a ∷ [] ≡ before ++ w ∷ behind = cc in
    ⊎_elim
    (λ (p : Parted xs a before w behind). inl (record { inner = (p.inner.0, p.inner.1, ap (λ t. x ∷ t) p.inner.2 ∙ ap (λ (t : Access). t ∷ (before ++ w ∷ p.inner.0)) one) }))
    (λ (q : (w ≡ a) × (before ≡ xs)). inr (q.0, sym (ap (λ t. x ∷ t) (sym q.1) ∙ ap (λ (t : Access). t ∷ before) one)))
    (parted xs a before w behind two)

clobbers_more : (tags : Tags) (before : List Access) (a : Access) (d : Dep) → Clobbers tags before d → Clobbers tags (before ++ a ∷ []) d
clobbers_more tags before a d k = record {
  before = k.before;
  write = k.write;
  behind = k.behind ++ a ∷ [];
  parts = ap (λ t. t ++ a ∷ []) k.parts ∙ append_assoc k.before (k.write ∷ k.behind) (a ∷ []);
  writes = k.writes;
  write_number = k.write_number;
  read = k.read;
  read_there = k.read_there;
  reads = k.reads;
  read_number = k.read_number;
  opens = k.opens;
  meets = k.meets;
}

pub clobbers_none : (tags : Tags) → AreClobbers tags [] []
clobbers_none tags = record { only = λ d h. absurd h; all = λ d k. absurd (none k.before k.write k.behind k.parts) }
  where
    none : (xs : List Access) (w : Access) (ys : List Access) → [] ≡ xs ++ w ∷ ys → ⊥
    none [] w ys e = cc
    none (x ∷ xs) w ys e = cc

pub clobbers_read : (tags : Tags) (before : List Access) (found : List Dep) (a : Access) → a.write ≡ false → AreClobbers tags before found → AreClobbers tags (before ++ a ∷ []) found
clobbers_read tags before found a e h = record {
  only = λ d k. clobbers_more tags before a d (h.only d k);
  all = λ d k.
      ⊎_elim
      (λ (p : Parted before a k.before k.write k.behind). h.all d (record { before = k.before; write = k.write; behind = p.inner.0; parts = p.inner.2; writes = k.writes; write_number = k.write_number; read = k.read; read_there = k.read_there; reads = k.reads; read_number = k.read_number; opens = k.opens; meets = k.meets }))
      (λ (q : (k.write ≡ a) × (k.before ≡ before)). absurd (clash (sym k.writes ∙ ap (λ (x : Access). x.write) q.0 ∙ e)))
      (parted before a k.before k.write k.behind k.parts);
}

dep_is : (d : Dep) (r w : Site) → r.number ≡ d.read → w.number ≡ d.write → dep_of r w ≡ d
dep_is d r w p q = ap (λ n. record { read = n; write = w.number }) p ∙ ap (λ n. record { read = d.read; write = n }) q

pub clobbers_write : (tags : Tags) (before reads : List Access) (found more : List Dep) (a : Access) → a.write ≡ true → Reads tags before reads → AddsMet tags reads a found more → AreClobbers tags before found → AreClobbers tags (before ++ a ∷ []) more
clobbers_write tags before reads found more a e rs adds h = record {
  only = λ d k.
      ⊎_elim
      (λ t. clobbers_more tags before a d (h.only d t))
      (λ (t : (r : Access) × Has reads r × MeetAt tags (site_of_access a) (site_of_access r) × (d ≡ dep_of (site_of_access r) (site_of_access a))).
      let o = rs.only t.0 t.1 in
      record { before = before; write = a; behind = []; parts = refl; writes = e; write_number = sym (ap (λ (x : Dep). x.write) t.3); read = t.0; read_there = o.0; reads = o.1; read_number = sym (ap (λ (x : Dep). x.read) t.3); opens = o.2; meets = t.2 })
      (adds.only d k);
  all = λ d k.
      ⊎_elim
      (λ (p : Parted before a k.before k.write k.behind). adds.kept d (h.all d (record { before = k.before; write = k.write; behind = p.inner.0; parts = p.inner.2; writes = k.writes; write_number = k.write_number; read = k.read; read_there = k.read_there; reads = k.reads; read_number = k.read_number; opens = k.opens; meets = k.meets })))
      (λ (q : (k.write ≡ a) × (k.before ≡ before)).
      let o = rs.all (site_of_access k.read) (subst (λ (xs : List Access). Open tags (steps_of_accesses xs) (site_of_access k.read)) q.1 k.opens) in
      let meets = subst (λ (w : Access). MeetAt tags (site_of_access w) (site_of_access k.read)) q.0 k.meets in
      let there = adds.all o.access o.there (subst (λ (s : Site). MeetAt tags (site_of_access a) s) (sym o.site) meets) in
      subst (λ (x : Dep). Has more x) (dep_is d (site_of_access o.access) (site_of_access a) (ap (λ (s : Site). s.number) o.site ∙ k.read_number) (sym (ap (λ (x : Access). x.number) q.0) ∙ k.write_number)) there)
      (parted before a k.before k.write k.behind k.parts);
}

-- ---- the pairs of a write

pub met_none : (tags : Tags) (w : Access) (old : List Dep) → AddsMet tags [] w old old
met_none tags w old = record { only = λ d h. inl h; kept = λ d h. h; all = λ r h m. absurd h }

pub met_not : (tags : Tags) (before : List Access) (a w : Access) (old new : List Dep) → (MeetAt tags (site_of_access w) (site_of_access a) → ⊥) → AddsMet tags before w old new → AddsMet tags (before ++ a ∷ []) w old new
met_not tags before a w old new n h = record {
  only = λ d k. ⊎_elim (λ t. inl t) (λ (t : (r : Access) × Has before r × MeetAt tags (site_of_access w) (site_of_access r) × (d ≡ dep_of (site_of_access r) (site_of_access w))). inr (t.0, has_more before (a ∷ []) t.0 t.1, t.2, t.3)) (h.only d k);
  kept = h.kept;
  all = λ r q m. ⊎_elim (λ t. h.all r t m) (λ t. ⊎_elim (λ e. absurd (n (subst (λ (x : Access). MeetAt tags (site_of_access w) (site_of_access x)) (sym e) m))) (λ z. absurd z) t) (has_split before (a ∷ []) r q);
}

pub met_more : (tags : Tags) (before : List Access) (a w : Access) (old new : List Dep) → MeetAt tags (site_of_access w) (site_of_access a) → AddsMet tags before w old new → AddsMet tags (before ++ a ∷ []) w old (new ++ dep_of (site_of_access a) (site_of_access w) ∷ [])
met_more tags before a w old new m h =
    let d = dep_of (site_of_access a) (site_of_access w) in
    record {
      only = λ x k.
          ⊎_elim
          (λ t. ⊎_elim (λ q. inl q) (λ (q : (r : Access) × Has before r × MeetAt tags (site_of_access w) (site_of_access r) × (x ≡ dep_of (site_of_access r) (site_of_access w))). inr (q.0, has_more before (a ∷ []) q.0 q.1, q.2, q.3)) (h.only x t))
          (λ t. ⊎_elim (λ e. inr (a, has_behind before (a ∷ []) a (inl refl), m, sym e)) (λ z. absurd z) t)
          (has_split new (d ∷ []) x k);
      kept = λ x k. has_more new (d ∷ []) x (h.kept x k);
      all = λ r q k.
          ⊎_elim
          (λ t. has_more new (d ∷ []) (dep_of (site_of_access r) (site_of_access w)) (h.all r t k))
          (λ t. ⊎_elim (λ e. has_behind new (d ∷ []) (dep_of (site_of_access r) (site_of_access w)) (inl (ap (λ (x : Access). dep_of (site_of_access x) (site_of_access w)) e))) (λ z. absurd z) t)
          (has_split before (a ∷ []) r q);
    }

pub no_truth : (b : Bool) → b ≡ false → b ≡ true → ⊥
no_truth b e f = clash (sym f ∙ e)
