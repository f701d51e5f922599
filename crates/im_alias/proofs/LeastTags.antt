-- The tags of the least assignment by definitions are within each closed one by registers.
use Rattle.std.proofs.Common.{ℕ, List, [], ◌∷◌, Bool, true, false, Option, Some, None, subst, ⊎_elim}
use Rattle.std.specs.Prelude.{slice_get, ◌==◌, if◌then◌else◌}
use Rattle.im_block.specs.declared.access.Tag.{Tag}
use Rattle.im_block.specs.declared.access.Tag.TheVariants.{Direct, Through as Among}
use Rattle.im_block.specs.declared.access.Tags.{Tags}
use Rattle.im_block.specs.declared.code.Place.{Place}
use Rattle.im_block.specs.declared.code.Place.TheVariants.{Static, Local, Through}
use Rattle.im_block.specs.declared.code.Line.{Line}
use Rattle.im_block.specs.declared.code.Line.TheVariants.{Read, Write, Call}
use Rattle.im_block.specs.declared.unit.Unit.{Unit as Code}
use Rattle.im_block.specs.Sections.{Has}
use Rattle.im_block.specs.Tagged.{tag_of}
use Rattle.im_block_laws.specs.PointsTo.{Points, Sub, LineClosed, LinesAre, IsClosed}
use Rattle.im_alias.specs.PointsAt.{PointsAt, with_set, union, loaded, behind, finer}
use Rattle.im_alias.specs.Least.{IsLineOf, TagIsLeast, LineIsLeast, AreLeastTags, Below, IsLeastAt, TagWithin, LineTagWithin, TagsWithin, AreTagsWithin}
use Rattle.im_alias.proofs.Finers.{from_append, to_front, to_back, behind_within, closed_at}

more_union : (f g : ℕ → List ℕ) (ns : List ℕ) → ((n : ℕ) → Sub (f n) (g n)) → Sub (union f ns) (union g ns)
more_union f g [] h = λ m k. absurd k
more_union f g (n ∷ ns) h = λ m k.
    ⊎_elim (λ a. to_front (g n) (union g ns) m (h n m a)) (λ b. to_back (g n) (union g ns) m (more_union f g ns h m b)) (from_append (f n) (union f ns) m k)

more_set : (sets : ℕ → List ℕ) (to : ℕ) (a b : List ℕ) → Sub a b → (r : ℕ) → Sub (with_set sets to a r) (with_set sets to b r)
more_set sets to a b h r = choose (r == to)
  where
    choose : (t : Bool) → Sub (if t then a else sets r) (if t then b else sets r)
    choose true = h
    choose false = λ n k. k

module _ (p q : PointsAt) (below : Below p q) where
  more_loaded : (sets : ℕ → List ℕ) (place : Place) → Sub (loaded p sets place) (loaded q sets place)
  more_loaded sets (Static object offset) = below.object object
  more_loaded sets (Local object offset) = below.object object
  more_loaded sets (Through pointer offset) = more_union p.object q.object (sets pointer) below.object

  more_behind : (sets : ℕ → List ℕ) (line : Line) (r : ℕ) → Sub (behind p sets line r) (behind q sets line r)
  more_behind sets (Read to place kind access) r = more_set sets to (loaded p sets place) (loaded q sets place) (more_loaded sets place) r
  more_behind sets (Call to callee first count) r = more_set sets to (p.result callee) (q.result callee) (below.result callee) r
  more_behind sets line r = λ n k. k

-- at the spot of a line
module _ (u : Code) (p : PointsAt) (tags : Tags) (least : IsLeastAt p u) where
  -- what holds of a tag whatever the sets, and what of those that are within
  at_line : (i : ℕ) (points : Points) → IsClosed points u → (sets : ℕ → List ℕ) (lines : List Line) (line : Line) → ((r : ℕ) → Sub (sets r) (points.register i r)) → LinesAre (LineClosed points u.functions.items i) lines → TagsWithin p tags sets lines → Has lines line → (after : ℕ → List ℕ) × ((r : ℕ) → Sub (after r) (points.register i r)) × LineTagWithin tags after line
  at_line i points closed sets [] line w h t there = absurd there
  at_line i points closed sets (x ∷ lines) line w h t there =
      ⊎_elim
      (λ e. (sets, w, subst (LineTagWithin tags sets) e t.0))
      (λ k.
      let q = finer points u in
      let below = least q (closed_at u points closed) in
      at_line i points closed (behind p sets x) lines line (λ r n m. behind_within u points closed i sets x w h.0 r n (more_behind p q below sets x r n m)) h.1 t.1 k)
      there

  -- whatever may be closed, a line has its tag
  at_any : (sets : ℕ → List ℕ) (lines : List Line) (line : Line) → TagsWithin p tags sets lines → Has lines line → (after : ℕ → List ℕ) × LineTagWithin tags after line
  at_any sets [] line t there = absurd there
  at_any sets (x ∷ lines) line t there =
      ⊎_elim (λ e. (sets, subst (LineTagWithin tags sets) e t.0)) (λ k. at_any (behind p sets x) lines line t.1 k) there

  abbrev Any : Place → Option Tag → Type 0
  Any place tag = (sets : ℕ → List ℕ) × TagWithin sets place tag

  abbrev Each : ℕ → Place → Option Tag → Type 0
  Each i place tag = (points : Points) → IsClosed points u → (after : ℕ → List ℕ) × ((r : ℕ) → Sub (after r) (points.register i r)) × TagWithin after place tag

  tag_is_least : (i : ℕ) (place : Place) (tag : Option Tag) → Any place tag → Each i place tag → TagIsLeast u i place tag
  tag_is_least i place None any each = any.1
  tag_is_least i (Static object offset) (Some (Direct o d)) any each = any.1
  tag_is_least i (Local object offset) (Some (Direct o d)) any each = any.1
  tag_is_least i (Through pointer offset) (Some (Direct o d)) any each = any.1
  tag_is_least i (Static object offset) (Some (Among objects)) any each = any.1
  tag_is_least i (Local object offset) (Some (Among objects)) any each = any.1
  tag_is_least i (Through pointer offset) (Some (Among objects)) any each = λ points closed n k. let a = each points closed in a.1 pointer n (a.2 n k)

  line_is_least : (within : AreTagsWithin p u tags) (i : ℕ) (line : Line) → IsLineOf u i line → LineIsLeast u tags i line
  line_is_least within i line l =
      let t = within.lines i l.function l.b l.block l.function_there l.block_there in
      by_line line
      (at_any (p.register i) l.block.lines.items line t l.there)
      (λ points closed. at_line i points closed (p.register i) l.block.lines.items line (λ r. (least (finer points u) (closed_at u points closed)).register i r) (closed.lines i l.function l.b l.block l.function_there l.block_there) t l.there)
    where
      by_line : (x : Line) → ((after : ℕ → List ℕ) × LineTagWithin tags after x) → ((points : Points) → IsClosed points u → (after : ℕ → List ℕ) × ((r : ℕ) → Sub (after r) (points.register i r)) × LineTagWithin tags after x) → LineIsLeast u tags i x
      by_line (Read to place kind access) any each = tag_is_least i place (tag_of tags access) any each
      by_line (Write place kind from access) any each = tag_is_least i place (tag_of tags access) any each
      by_line x any each = tt

pub least_tags : (u : Code) (p : PointsAt) (tags : Tags) → IsLeastAt p u → AreTagsWithin p u tags → AreLeastTags u tags
least_tags u p tags least within = record { lines = λ i line l. line_is_least u p tags least within i line l }
