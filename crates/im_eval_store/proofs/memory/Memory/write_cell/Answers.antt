use Rattle.std.proofs.Common.{◌≡◌, ◌∙◌, ◌+◌, ◌==◌, ◌&&◌, Bool, true, false, refl, sym, ap, arith}
use Rattle.im_store.specs.declared.undefined.Undefined.TheVariants.{NoSuchCell}
use Rattle.im_store.specs.Access.{stands, with_value, write_cell}
use Rattle.im_store.specs.Checks.{Fine, Bad}
use Rattle.im_store.specs.Objects.{Store, same_object}
use Rattle.im_eval_store.specs.Shown.{object_of, shown}
use Rattle.im_eval_store.proofs.Finding.{at-read, if-true, if-false}
use Rattle.im_eval_store.proofs.Revised.{revised}
use Rattle.im_eval_store.proofs.Storing.{stands-at, stored}
use Rattle.im_eval_store.proofs.memory.Memory.write_cell.Goals as goal

no-and : (b d : Bool) → b ≡ false → (b && d) ≡ false
no-and false d e = refl
no-and true d e = absurd (cc)

pub returns-then-has_cell : goal.returns-then-has_cell
returns-then-has_cell c = λ last store h.
    let all = c.args.self.now.activations.items in
    let p = c.args.place.object in
    let at = c.in-Some-position.at in
    let f = c.in-Some-position.ensures.found last h.ordered in
    let a = c.index_mut.result.now in
    let x = c.index_mut-object.result.now in
    let y = c.set.new.self in
    let s = at-read all p at f.0 a f.1 x f.2 c.index_mut.ensures.value c.index_mut-object.ensures.value in
    let offset = c.in-Some.offset in
    let same : c.args.place.offset + c.args.by ≡ offset = grind (arith, c.in-Some.ensures) in
    let there : stands store (object_of p) offset c.args.kind ≡ true = stands-at last all store p at a x offset c.args.kind h s ∙ sym c.has_cell.ensures ∙ c.if-has_cell.true in
    let after : Store = record store { values = with_value store.values (object_of p) offset (shown c.args.value) } in
    let wrote : write_cell store (object_of p) offset c.args.kind (shown c.args.value) ≡ Fine after = if-true (stands store (object_of p) offset c.args.kind) (Fine after) (Bad NoSuchCell) there in
    let held = revised last all p at a _ x y h.ordered s (record { number = refl; depth = refl; first = refl; objects = refl }) store after h (λ q. refl)
    (λ q d i. if-false (same_object q (object_of p) && i == offset) (shown c.args.value) (store.values q i) (no-and (same_object q (object_of p)) (i == offset) d))
    (λ shape e was. stored x y (object_of p) c.set.ensures.plan shape store.values was offset c.args.value x.full c.set.ensures.values) in
    (after, ap (λ k. write_cell store (object_of p) k c.args.kind (shown c.args.value)) same ∙ wrote, held)

pub returns-else-has_cell : goal.returns-else-has_cell
returns-else-has_cell c = λ last store h.
    let all = c.args.self.now.activations.items in
    let p = c.args.place.object in
    let at = c.in-Some-position.at in
    let f = c.in-Some-position.ensures.found last h.ordered in
    let a = c.index_mut.result.now in
    let x = c.index_mut-object.result.now in
    let s = at-read all p at f.0 a f.1 x f.2 c.index_mut.ensures.value c.index_mut-object.ensures.value in
    let offset = c.in-Some.offset in
    let same : c.args.place.offset + c.args.by ≡ offset = grind (arith, c.in-Some.ensures) in
    let none : stands store (object_of p) offset c.args.kind ≡ false = stands-at last all store p at a x offset c.args.kind h s ∙ sym c.has_cell.ensures ∙ c.if-has_cell.false in
    let after : Store = record store { values = with_value store.values (object_of p) offset (shown c.args.value) } in
    ap (λ k. write_cell store (object_of p) k c.args.kind (shown c.args.value)) same
    ∙ if-false (stands store (object_of p) offset c.args.kind) (Fine after) (Bad NoSuchCell) none
