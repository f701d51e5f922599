-- Where the search for each read is closed and no write meets an open read, the function is sectioned.
use Rattle.std.proofs.Common.{◌≡◌, ℕ, List, [], ◌∷◌, ◌++◌, Some, None, Option, refl, sym, ap, ◌∙◌, subst, append_assoc, inl, inr, ⊎_elim, ◌⊎◌, Bool, true, false}
use Rattle.std.specs.Prelude.{slice_get, ◌==◌, ◌&&◌, if◌then◌else◌}
use Rattle.std.proofs.lemmas.List.{append-nil}
use Rattle.std.proofs.lemmas.Bool.{eq-eqb}
use Rattle.im_block.specs.declared.access.Tags.{Tags}
use Rattle.im_block.specs.declared.code.Line.{Line}
use Rattle.im_block.specs.declared.code.Line.TheVariants.{Read, Write, Reload, Spill, Cut}
use Rattle.im_block.specs.declared.code.Exit.{Exit}
use Rattle.im_block.specs.declared.code.Block.{Block}
use Rattle.im_block.specs.declared.unit.Function.{Function}
use Rattle.im_block.specs.Meaning.{Site, site_of, slot_site, Spot}
use Rattle.im_block.specs.Paths.{Step, ReadStep, WriteStep, steps_of, Open, CoversAt, MeetAt, IsCut, IsEdge, spot, Path, Here, Along, Across, IsEntry, AfterCut, Begins, IsSectioned}
use Rattle.im_block.specs.Flow.{clean_after, same_slot, same_site, open_after, clean_through, open_through, IsClosed}

-- no write on the path covers the read
abbrev pub NoCover : Tags → List Step → Site → Type 0
NoCover tags [] r = Unit {0}
NoCover tags (ReadStep a ∷ path) r = NoCover tags path r
NoCover tags (WriteStep w ∷ path) r = (CoversAt tags w r → ⊥) × NoCover tags path r

open_reader : (tags : Tags) (path : List Step) (a r : Site) → Open tags (path ++ ReadStep a ∷ []) r → Open tags path r ⊎ ((a ≡ r) × NoCover tags path r)
open_reader tags [] a r h = ⊎_elim (λ e. inr (e, tt)) (λ x. absurd x) h
open_reader tags (ReadStep b ∷ path) a r h = ⊎_elim (λ e. inl (inl e)) (λ x. ⊎_elim (λ y. inl (inr y)) (λ y. inr y) (open_reader tags path a r x)) h
open_reader tags (WriteStep b ∷ path) a r h = ⊎_elim (λ y. inl (h.0, y)) (λ y. inr (y.0, (h.0, y.1))) (open_reader tags path a r h.1)

open_writer : (tags : Tags) (path : List Step) (w r : Site) → Open tags (path ++ WriteStep w ∷ []) r → Open tags path r
open_writer tags [] w r h = absurd h.1
open_writer tags (ReadStep b ∷ path) w r h = ⊎_elim (λ e. inl e) (λ x. inr (open_writer tags path w r x)) h
open_writer tags (WriteStep b ∷ path) w r h = (h.0, open_writer tags path w r h.1)

cover_reader : (tags : Tags) (path : List Step) (a r : Site) → NoCover tags (path ++ ReadStep a ∷ []) r → NoCover tags path r
cover_reader tags [] a r h = tt
cover_reader tags (ReadStep b ∷ path) a r h = cover_reader tags path a r h
cover_reader tags (WriteStep b ∷ path) a r h = (h.0, cover_reader tags path a r h.1)

cover_writer : (tags : Tags) (path : List Step) (w r : Site) → NoCover tags (path ++ WriteStep w ∷ []) r → NoCover tags path r × (CoversAt tags w r → ⊥)
cover_writer tags [] w r h = (tt, h.0)
cover_writer tags (ReadStep b ∷ path) w r h = cover_writer tags path w r h
cover_writer tags (WriteStep b ∷ path) w r h = let x = cover_writer tags path w r h.1 in ((h.0, x.0), x.1)

clean-append : (covers : Site → Bool) (a b : List Line) (c : Bool) → clean_through covers (a ++ b) c ≡ clean_through covers b (clean_through covers a c)
clean-append covers [] b c = refl
clean-append covers (l ∷ a) b c = clean-append covers a b (clean_after covers l c)

open-append : (covers : Site → Bool) (r : Site) (a b : List Line) (c e : Bool) → open_through covers r (a ++ b) c e ≡ open_through covers r b (clean_through covers a c) (open_through covers r a c e)
open-append covers r [] b c e = refl
open-append covers r (l ∷ a) b c e = open-append covers r a b (clean_after covers l c) (open_after r l c e)

same_slot_self : (s : Option ℕ) → same_slot s s ≡ true
same_slot_self None = refl
same_slot_self (Some n) = eq-eqb n n refl

same_site_is : (a b : Site) → a ≡ b → same_site a b ≡ true
same_site_is a b e = subst (λ x. same_site a x ≡ true) e (all (a.number == a.number) (a.size == a.size) (same_slot a.slot a.slot) (eq-eqb a.number a.number refl) (eq-eqb a.size a.size refl) (same_slot_self a.slot))
  where
    all : (x y z : Bool) → x ≡ true → y ≡ true → z ≡ true → (x && y && z) ≡ true
    all x y z p q r = ap (λ t. t && y && z) p ∙ ap (λ t. t && z) q ∙ r

module _ (tags : Tags) (f : Function) (r : Site) (closed : IsClosed tags f r) where
  -- what is known at a spot of a path
  record Knows (path : List Step) (s : Spot) : Type 0 where
    block : Block
    before : List Line
    at : slice_get f.blocks.items s.block ≡ Some block
    lines : block.lines.items ≡ before ++ s.rest
    exit : s.exit ≡ block.exit
    clean : NoCover tags path r → clean_through closed.covers before (closed.clean s.block) ≡ true
    opened : Open tags path r → open_through closed.covers r before (closed.clean s.block) (closed.opened s.block) ≡ true

  -- a line without an access
  quiet_clean : (path : List Step) (c : Bool) → (NoCover tags path r → c ≡ true) → NoCover tags (path ++ []) r → c ≡ true
  quiet_clean path c h k = h (subst (λ p. NoCover tags p r) (append-nil path) k)

  quiet_open : (path : List Step) (e : Bool) → (Open tags path r → e ≡ true) → Open tags (path ++ []) r → e ≡ true
  quiet_open path e g k = g (subst (λ p. Open tags p r) (append-nil path) k)

  write_clean : (path : List Step) (w : Site) (c : Bool) → (NoCover tags path r → c ≡ true) → NoCover tags (path ++ WriteStep w ∷ []) r → (if closed.covers w then false else c) ≡ true
  write_clean path w c h k =
      let x = cover_writer tags path w r k in
      choose (closed.covers w) refl x.1 ∙ h x.0
    where
      choose : (b : Bool) → closed.covers w ≡ b → (CoversAt tags w r → ⊥) → (if b then false else c) ≡ c
      choose true e n = absurd (n (closed.covers_is w e))
      choose false e n = refl

  read_open : (path : List Step) (a : Site) (c e : Bool) → (NoCover tags path r → c ≡ true) → (Open tags path r → e ≡ true) → Open tags (path ++ ReadStep a ∷ []) r → (if same_site a r && c then true else e) ≡ true
  read_open path a c e h g k =
      ⊎_elim
      (λ before. keeps (same_site a r && c) (g before))
      (λ here. ap (λ b. if b && c then true else e) (same_site_is a r here.0) ∙ ap (λ b. if b then true else e) (h here.1))
      (open_reader tags path a r k)
    where
      keeps : (b : Bool) → e ≡ true → (if b then true else e) ≡ true
      keeps true q = refl
      keeps false q = q

  clean_line : (path : List Step) (line : Line) (c : Bool) → (IsCut line → ⊥) → (NoCover tags path r → c ≡ true) → NoCover tags (path ++ steps_of line) r → clean_after closed.covers line c ≡ true
  clean_line path (Read to place kind a) c uncut h k = h (cover_reader tags path (site_of a kind) r k)
  clean_line path (Reload to slot a) c uncut h k = h (cover_reader tags path (slot_site a slot) r k)
  clean_line path (Write place kind from w) c uncut h k = write_clean path (site_of w kind) c h k
  clean_line path (Spill slot from w) c uncut h k = write_clean path (slot_site w slot) c h k
  clean_line path (Cut cause) c uncut h k = absurd (uncut tt)
  clean_line path line c uncut h k = quiet_clean path c h k

  open_line : (path : List Step) (line : Line) (c e : Bool) → (IsCut line → ⊥) → (NoCover tags path r → c ≡ true) → (Open tags path r → e ≡ true) → Open tags (path ++ steps_of line) r → open_after r line c e ≡ true
  open_line path (Read to place kind a) c e uncut h g k = read_open path (site_of a kind) c e h g k
  open_line path (Reload to slot a) c e uncut h g k = read_open path (slot_site a slot) c e h g k
  open_line path (Write place kind from w) c e uncut h g k = g (open_writer tags path (site_of w kind) r k)
  open_line path (Spill slot from w) c e uncut h g k = g (open_writer tags path (slot_site w slot) r k)
  open_line path (Cut cause) c e uncut h g k = absurd (uncut tt)
  open_line path line c e uncut h g k = quiet_open path e g k

  -- where a section begins
  cut_knows : (start : Spot) → AfterCut f.blocks.items start → Knows [] start
  cut_knows start a = record {
    block = a.block;
    before = a.before ++ a.cut ∷ [];
    at = a.at;
    lines = a.lines ∙ sym (append_assoc a.before (a.cut ∷ []) start.rest);
    exit = a.exit;
    clean = λ h. clean-append closed.covers a.before (a.cut ∷ []) (closed.clean start.block) ∙ past_cut a.cut a.is_cut (clean_through closed.covers a.before (closed.clean start.block));
    opened = λ h. absurd h;
  }
    where
      past_cut : (line : Line) → IsCut line → (c : Bool) → clean_after closed.covers line c ≡ true
      past_cut (Cut cause) h c = refl
      past_cut line h c = absurd h

  entry_knows : (start : Spot) → IsEntry f start → Knows [] start
  entry_knows start e = subst (Knows []) (sym e.is) (record {
    block = e.block;
    before = [];
    at = e.at;
    lines = refl;
    exit = refl;
    clean = λ h. closed.entry;
    opened = λ h. absurd h;
  })

  knows : (start : Spot) → Begins f start → (path : List Step) (s : Spot) → Path f.blocks.items start path s → Knows path s
  knows start from path s Here = ⊎_elim (λ e. entry_knows start e) (λ a. cut_knows start a) from
  knows start from path s (Along p b line rest exit uncut q) =
      let k = knows start from p (spot b (line ∷ rest) exit) q in
      record {
        block = k.block;
        before = k.before ++ line ∷ [];
        at = k.at;
        lines = k.lines ∙ sym (append_assoc k.before (line ∷ []) rest);
        exit = k.exit;
        clean = λ h. clean-append closed.covers k.before (line ∷ []) (closed.clean b) ∙ clean_line p line (clean_through closed.covers k.before (closed.clean b)) uncut k.clean h;
        opened = λ h. open-append closed.covers r k.before (line ∷ []) (closed.clean b) (closed.opened b) ∙ open_line p line (clean_through closed.covers k.before (closed.clean b)) (open_through closed.covers r k.before (closed.clean b) (closed.opened b)) uncut k.clean k.opened h;
      }
  knows start from path s (Across p b exit c block edge at q) =
      let k = knows start from p (spot b [] exit) q in
      let whole : k.block.lines.items ≡ k.before = k.lines ∙ append-nil k.before in
      let edge' = subst (λ x. IsEdge x c) k.exit edge in
      record {
        block = block;
        before = [];
        at = at;
        lines = refl;
        exit = refl;
        clean = λ h. closed.clean_on b c k.block k.at edge' (ap (λ l. clean_through closed.covers l (closed.clean b)) whole ∙ k.clean h);
        opened = λ h. closed.open_on b c k.block k.at edge' (ap (λ l. open_through closed.covers r l (closed.clean b) (closed.opened b)) whole ∙ k.opened h);
      }

  never_meets : (start : Spot) → Begins f start → (path : List Step) (b : ℕ) (line : Line) (rest : List Line) (exit : Exit) → Path f.blocks.items start path (spot b (line ∷ rest) exit) → (w : Site) → steps_of line ≡ WriteStep w ∷ [] → Open tags path r → MeetAt tags w r → ⊥
  never_meets start from path b line rest exit p w is opened meet =
      let k = knows start from path (spot b (line ∷ rest) exit) p in
      closed.passes b w k.block k.before rest line k.at k.lines is (k.opened opened) meet

pub sectioned_by_search : (tags : Tags) (f : Function) → ((r : Site) → IsClosed tags f r) → IsSectioned tags f
sectioned_by_search tags f closed = record {
  each = λ start from path b line rest exit p w r is opened meet. never_meets tags f r (closed r) start from path b line rest exit p w is opened meet;
}

-- the other way: a path that shows a flag goes on showing it
pub open_more : (tags : Tags) (path more : List Step) (r : Site) → Open tags path r → Open tags (path ++ more) r
open_more tags [] more r h = absurd h
open_more tags (ReadStep a ∷ path) more r h = ⊎_elim (λ e. inl e) (λ x. inr (open_more tags path more r x)) h
open_more tags (WriteStep w ∷ path) more r h = (h.0, open_more tags path more r h.1)

pub open_here : (tags : Tags) (path : List Step) (r : Site) → NoCover tags path r → Open tags (path ++ ReadStep r ∷ []) r
open_here tags [] r h = inl refl
open_here tags (ReadStep a ∷ path) r h = inr (open_here tags path r h)
open_here tags (WriteStep w ∷ path) r h = (h.0, open_here tags path r h.1)

pub clean_past : (tags : Tags) (path : List Step) (w r : Site) → NoCover tags path r → (CoversAt tags w r → ⊥) → NoCover tags (path ++ WriteStep w ∷ []) r
clean_past tags [] w r h n = (n, tt)
clean_past tags (ReadStep a ∷ path) w r h n = clean_past tags path w r h n
clean_past tags (WriteStep a ∷ path) w r h n = (h.0, clean_past tags path w r h.1 n)
