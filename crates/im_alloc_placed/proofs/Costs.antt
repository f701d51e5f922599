-- What a line that can be placed costs at most.
use Rattle.std.specs.Prelude.{Some, None}
use Rattle.std.proofs.Common.{ℕ, ◌≤◌, arith}
use Rattle.im_num.specs.declared.kind.Kind.{Kind}
use Rattle.im_num.specs.declared.kind.Kind.TheVariants.{I8, U8, I16, U16, I32, U32, Ptr}
use Rattle.im_block.specs.declared.code.Place.{Place}
use Rattle.im_block.specs.declared.code.Place.TheVariants.{Static, Local, Through}
use Rattle.im_block.specs.declared.code.Line.{Line}
use Rattle.im_block.specs.declared.code.Line.TheVariants.{Put, PutNull, Copy, Convert, Unary, Not, Compute, Compare, Move, Distance, Address, Read, Write, Reload, Spill, Cut, Call, Serve}
use Rattle.im_block.specs.declared.unit.Function.{Function}
use Rattle.im_block.specs.Shape.{narrowing, place_registers, cost}
use Rattle.im_alloc_placed.specs.Placeable.{IsPlaceableLine}

narrow : (k : Kind) → narrowing k ≤ 2
narrow I8 = omega arith
narrow U8 = omega arith
narrow I16 = omega arith
narrow U16 = omega arith
narrow I32 = omega arith
narrow U32 = omega arith
narrow Ptr = omega arith

one_register : (place : Place) → place_registers place ≤ 1
one_register (Static object offset) = omega arith
one_register (Local object offset) = omega arith
one_register (Through pointer offset) = omega arith

pub costs : (statics : ℕ) (f : Function) (line : Line) → IsPlaceableLine statics f line → cost line ≤ 50
costs statics f (Put to z) h = omega arith
costs statics f (PutNull to) h = omega arith
costs statics f (Copy to from) h = omega arith
costs statics f (Convert to kind from) h = omega arith
costs statics f (Unary to op kind from) h = let k = narrow kind in omega arith
costs statics f (Not to from) h = omega arith
costs statics f (Compute to op kind left right) h = let k = narrow kind in omega arith
costs statics f (Compare to op kind left right) h = omega arith
costs statics f (Move to size back pointer by) h = omega arith
costs statics f (Distance to size left right) h = omega arith
costs statics f (Address to place) h = let k = one_register place in omega arith
costs statics f (Read to place kind access) h = let k = one_register place in omega arith
costs statics f (Write place kind from access) h = let k = one_register place in omega arith
costs statics f (Reload to slot access) h = absurd h
costs statics f (Spill slot from access) h = absurd h
costs statics f (Cut cause) h = omega arith
costs statics f (Call to i first count) h = omega arith
costs statics f (Serve to service None) h = omega arith
costs statics f (Serve to service (Some from)) h = omega arith
