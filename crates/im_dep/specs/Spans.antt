-- The bytes of direct accesses, and which of them hold which.
use Rattle.std.specs.Prelude.{◌≡◌, ℕ, ◌+◌, ◌==◌, nat_le, ◌&&◌, ◌||◌, Bool, false, List, [], ◌∷◌, Option, Some, None}
use Rattle.im_block.specs.declared.access.Tags.{Tags}
use Rattle.im_block.specs.Meaning.{Site}
use Rattle.im_block.specs.Tagged.{Reach, ToSlot, Exactly, Among, reach_of}
use Rattle.im_dep.specs.declared.spans.Base.{Base}
use Rattle.im_dep.specs.declared.spans.Base.TheVariants.{Slot, Object}
use Rattle.im_dep.specs.declared.spans.Span.{Span}
use Rattle.im_dep.specs.Sites.{Decides}

abbrev pub span_of_reach : Option Reach → ℕ → Option Span
span_of_reach None size = None
span_of_reach (Some (ToSlot slot)) size = Some (record { base = Slot slot; from = 0; to = size })
span_of_reach (Some (Exactly object offset)) size = Some (record { base = Object object; from = offset; to = offset + size })
span_of_reach (Some (Among objects)) size = None

-- the bytes of an access that is to one place alone
abbrev pub span_of : Tags → Site → Option Span
span_of tags s = span_of_reach (reach_of tags s) s.size

abbrev pub same_base : Base → Base → Bool
same_base (Slot a) (Slot b) = a == b
same_base (Slot a) (Object b) = false
same_base (Object a) (Slot b) = false
same_base (Object a) (Object b) = a == b

-- the bytes of b are among those of a
abbrev pub span_holds : Span → Span → Bool
span_holds a b = same_base a.base b.base && (nat_le a.from b.from && nat_le b.to a.to)

abbrev pub holds_span : Option Span → Option Span → Bool
holds_span None read = false
holds_span (Some write) None = false
holds_span (Some write) (Some read) = span_holds write read

-- the write at w covers the read at r
abbrev pub covers_by : Tags → Site → Site → Bool
covers_by tags w r = holds_span (span_of tags w) (span_of tags r)

-- one of the spans holds this one
abbrev pub is_covered : List Span → Option Span → Bool
is_covered [] read = false
is_covered (s ∷ spans) read = holds_span (Some s) read || is_covered spans read

-- a span is added, if there is one
abbrev pub AddsSpan : Option Span → List Span → List Span → Type 0
AddsSpan place old new = (p : Option Span) → is_covered new p ≡ (is_covered old p || holds_span place p)

abbrev pub CoversLaw : Type 0
CoversLaw = (tags : Tags) → Decides tags (covers_by tags)
