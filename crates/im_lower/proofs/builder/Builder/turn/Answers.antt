use Rattle.std.proofs.Common.{◌≡◌, ℕ, List, [], map, reverse, refl, sym, ◌∙◌, ap, subst, Vec, Global}
use Rattle.std.specs.Prelude.{slice_set}
use Rattle.std.proofs.lemmas.List.{map-set}
use Rattle.im_block.specs.declared.code.Line.{Line}
use Rattle.im_block.specs.declared.code.Block.{Block}
use Rattle.im_block.specs.declared.code.Exit.TheVariants.{Turn}
use Rattle.im_lower_relation.specs.Codes.{Point, ends}
use Rattle.im_lower_plain.specs.Made.{Made, point_of, turn}
use Rattle.im_lower.proofs.builder.Builder.turn.Goals as goal

edge_set : (bs : List Block) (k body : ℕ) (lines : Vec Line Global) → lines.items ≡ [] → map {A = Block} point_of (slice_set bs k (record { lines = lines; exit = Turn body })) ≡ slice_set (map {A = Block} point_of bs) k (ends (Turn body))
edge_set bs k body lines e =
    let point = λ (ls : List Line). let p : Point = record { rest = ls; exit = Turn body } in p in
    map-set {A = Block} point_of bs k (record { lines = lines; exit = Turn body })
    ∙ ap (λ ls. slice_set (map {A = Block} point_of bs) k (point ls)) e

pub returns-then-index-len : goal.returns-then-index-len
unfolding turn
returns-then-index-len c =
    let i = c.self.inside in
    let e = edge_set i.blocks.items c.args.block c.args.body c.new.result c.new.ensures.items in
    let with = λ (bs : List Point). let m : Made = record { blocks = bs; point = record { rest = reverse i.lines.items; exit = i.exit }; accesses = i.accesses; registers = i.registers } in m in
    let edge = let b : Block = record { lines = c.new.result; exit = Turn c.args.body } in b in
    subst (λ (m : Made). with (map {A = Block} point_of (slice_set i.blocks.items c.args.block edge)) ≡ turn c.args.block c.args.body m) c.self.view_is (ap with e)
