-- What else is kept: statics, what frames may need, code without cuts; and the cost of a whole unit.
use Rattle.std.proofs.Common.{ℕ, List, [], ◌∷◌, Option, Some, None, sym, ap, subst}
use Rattle.std.specs.Prelude.{map, All}
use Rattle.std.proofs.lemmas.List.Elements.{All-nil, All-cons, All-head, All-tail}
use Rattle.im_num.specs.declared.kind.Kind.{Kind}
use Rattle.im_num.specs.declared.kind.Kind.TheVariants.{I8, U8, I16, U16, I32, U32, Ptr}
use Rattle.im_block.specs.declared.code.Place.{Place}
use Rattle.im_block.specs.declared.code.Line.{Line}
use Rattle.im_block.specs.declared.code.Line.TheVariants.{Put, PutNull, Copy, Convert, Unary, Not, Compute, Compare, Move, Distance, Address, Read, Write, Reload, Spill, Cut, Call, Serve}
use Rattle.im_block.specs.declared.unit.Function.{Function}
use Rattle.im_block.specs.declared.unit.Unit.{Unit as Code}
use Rattle.im_block.specs.Meaning.{statics_of}
use Rattle.im_block.specs.Shape.{function_cost}
use Rattle.im_alloc_placed.specs.Apart.{IsNoCut, AllUncut}
use Rattle.im_block.proofs.Unitwise.{zip_old, zip_map, zip_less}
use Rattle.im_promote.specs.Laws.{RestLaw}
use Rattle.im_promote.specs.Promote.{taken_into, read_as, write_as, home_of, promoted, PromotesBlock, PromotesFunction, Promotes}
use Rattle.im_promote.proofs.Costing.{costs}

-- code without cuts

taken_uncut : (kind : Kind) (r from : ℕ) → IsNoCut (taken_into kind r from)
taken_uncut I8 r from e = e
taken_uncut U8 r from e = e
taken_uncut I16 r from e = e
taken_uncut U16 r from e = e
taken_uncut I32 r from e = e
taken_uncut U32 r from e = e
taken_uncut Ptr r from e = e

read_uncut : (to : ℕ) (place : Place) (kind : Kind) (access : ℕ) (home : Option ℕ) → IsNoCut (read_as home to place kind access)
read_uncut to place kind access None e = e
read_uncut to place kind access (Some r) e = e

write_uncut : (place : Place) (kind : Kind) (from access : ℕ) (home : Option ℕ) → IsNoCut (write_as home place kind from access)
write_uncut place kind from access None e = e
write_uncut place kind from access (Some r) e = taken_uncut kind r from e

line_uncut : (homes : ℕ → Option ℕ) (line : Line) → IsNoCut line → IsNoCut (promoted homes line)
line_uncut homes (Put to z) h e = h e
line_uncut homes (PutNull to) h e = h e
line_uncut homes (Copy to from) h e = h e
line_uncut homes (Convert to kind from) h e = h e
line_uncut homes (Unary to op kind from) h e = h e
line_uncut homes (Not to from) h e = h e
line_uncut homes (Compute to op kind left right) h e = h e
line_uncut homes (Compare to op kind left right) h e = h e
line_uncut homes (Move to size back pointer by) h e = h e
line_uncut homes (Distance to size left right) h e = h e
line_uncut homes (Address to place) h e = h e
line_uncut homes (Read to place kind access) h e = read_uncut to place kind access (home_of homes place) e
line_uncut homes (Write place kind from access) h e = write_uncut place kind from access (home_of homes place) e
line_uncut homes (Reload to slot access) h e = h e
line_uncut homes (Spill slot from access) h e = h e
line_uncut homes (Cut cause) h e = h e
line_uncut homes (Call to i first many) h e = h e
line_uncut homes (Serve to service None) h e = h e
line_uncut homes (Serve to service (Some from)) h e = h e

lines_uncut : (homes : ℕ → Option ℕ) (lines : List Line) → All IsNoCut lines → All IsNoCut (map (promoted homes) lines)
lines_uncut homes [] h = All-nil IsNoCut
lines_uncut homes (line ∷ rest) h =
    All-cons IsNoCut (promoted homes line) (map (promoted homes) rest) (line_uncut homes line (All-head IsNoCut line rest h))
    (lines_uncut homes rest (All-tail IsNoCut line rest h))

uncut : (old new : Code) → Promotes old new → AllUncut old → AllUncut new
uncut old new p h = record {
  each = λ i g b y at there.
      let f = zip_old (PromotesFunction p.homes) old.functions.items new.functions.items i g p.functions at in
      let x = zip_old (PromotesBlock p.homes f.old) f.old.blocks.items g.blocks.items b y f.is.blocks there in
      subst (All IsNoCut) (sym x.is.lines) (lines_uncut p.homes x.old.lines.items (h.each i f.old b x.old f.at x.at));
}

pub rest : RestLaw
rest = record {
  statics = λ old new p. ap (λ (u : Code). statics_of u) p.rest;
  needs = λ old new p. zip_map (PromotesFunction p.homes) (λ (f : Function). f.need) (λ f g k. ap (λ (z : Function). z.need) k.rest) old.functions.items new.functions.items p.functions;
  uncut = uncut;
  cost = λ old new p. zip_less (PromotesFunction p.homes) function_cost (costs p.homes) old.functions.items new.functions.items p.functions;
}
