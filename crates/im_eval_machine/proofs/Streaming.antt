-- A byte read, a byte written.
use Rattle.std.proofs.Common.{◌≡◌, ℕ, List, [], ◌∷◌, ◌++◌, length, refl, sym, ap, ◌∙◌, arith, Ok, true, false, Bor}
use Rattle.std.specs.Prelude.{ℤ, pos, negsuc, nat_abs, nat_lt, Bool, Vec}
use Rattle.std.specs.declared.alloc.Global.{Global}
use Rattle.im_num.specs.declared.kind.Kind.TheVariants.{U8}
use Rattle.im_num.specs.Kinds.{wrap}
use Rattle.im_serve.specs.declared.service.Service.TheVariants.{Getchar, Putchar}
use Rattle.im_serve.specs.Services.{Reply, byte_in, byte_put}
use Rattle.im_store.specs.Objects as o
use Rattle.im_store.specs.declared.number.Number.{Number}
use Rattle.im_typed.specs.Meaning.{served}
use Rattle.im_typed.specs.Runs.{State, Answer, Gives}
use Rattle.im_typed.specs.Values.{Values}
use Rattle.im_eval_machine.specs.Shown.{IsStep, number_shown}
use Rattle.im_eval_machine.specs.declared.machine.Machine.{Machine}

-- what a reply leaves
abbrev left_by : State → Reply → State
left_by s r = record { world = record s.world { input = r.input; output = r.output }; fuel = s.fuel }

abbrev answered : State → Reply → Answer Values
answered s r = Gives (o.Number r.value ∷ []) (left_by s r)

pub no-byte : (capacity : ℕ) (z : ℤ) (m : Machine) (n : Number) → m.input.now ≡ [] → n.value ≡ negsuc 0 → IsStep number_shown (Ok n) m m (served capacity Getchar z)
no-byte capacity z m n e en = record {
  fuel = omega arith;
  ends = λ s h.
      let t : State = record { world = record s.world { input = [] }; fuel = s.fuel } in (
        t,
        record { held = h.held; activations = h.activations; depth = h.depth; input = sym e; output = h.output; fuel = h.fuel },
        ap (λ bytes. answered s (byte_in bytes s.world.output)) (h.input ∙ e) ∙ ap (λ y. let r : Answer Values = Gives (o.Number y ∷ []) t in r) (sym en),
      );
}

pub a-byte : (capacity : ℕ) (z : ℤ) (m : Machine) (b : ℕ) (rest : Bor (List ℕ)) (n : Number) → m.input.now ≡ b ∷ rest.now → n.value ≡ pos b
    → IsStep number_shown (Ok n) m (record m { input = rest }) (served capacity Getchar z)
a-byte capacity z m b rest n e en = record {
  fuel = omega arith;
  ends = λ s h.
      let t : State = record { world = record s.world { input = rest.now }; fuel = s.fuel } in (
        t,
        record { held = h.held; activations = h.activations; depth = h.depth; input = refl; output = h.output; fuel = h.fuel },
        ap (λ bytes. answered s (byte_in bytes s.world.output)) (h.input ∙ e) ∙ ap (λ y. let r : Answer Values = Gives (o.Number y ∷ []) t in r) (sym en),
      );
}

-- whether there is room, and which byte it is
put-is : (capacity b : ℕ) (z : ℤ) (s : State) (output : List ℕ) (has : Bool) → s.world.output ≡ output → nat_lt (length output) capacity ≡ has → b ≡ nat_abs (wrap U8 z)
    → served capacity Putchar z s ≡ answered s (byte_put has b s.world.input s.world.output)
put-is capacity b z s output has e room same =
    ap (λ (t : Bool). answered s (byte_put t (nat_abs (wrap U8 z)) s.world.input s.world.output)) (ap (λ (bytes : List ℕ). nat_lt (length bytes) capacity) e ∙ room)
    ∙ ap (λ (c : ℕ). answered s (byte_put has c s.world.input s.world.output)) (sym same)

pub byte-put : (z : ℤ) (m : Machine) (capacity b : ℕ) (output : Vec ℕ Global) (n : Number) → b ≡ nat_abs (wrap U8 z) → nat_lt (length m.output.items) capacity ≡ true → output.items ≡ m.output.items ++ b ∷ [] → n.value ≡ pos b
    → IsStep number_shown (Ok n) m (record m { output = output }) (served capacity Putchar z)
byte-put z m capacity b output n same room e en = record {
  fuel = omega arith;
  ends = λ s h.
      let t : State = record { world = record s.world { output = s.world.output ++ b ∷ [] }; fuel = s.fuel } in (
        t,
        record { held = h.held; activations = h.activations; depth = h.depth; input = h.input; output = ap (λ (bytes : List ℕ). bytes ++ b ∷ []) h.output ∙ sym e; fuel = h.fuel },
        put-is capacity b z s m.output.items true h.output room same ∙ ap (λ y. let r : Answer Values = Gives (o.Number y ∷ []) t in r) (sym en),
      );
}

pub no-room : (z : ℤ) (m : Machine) (capacity b : ℕ) (n : Number) → b ≡ nat_abs (wrap U8 z) → nat_lt (length m.output.items) capacity ≡ false → n.value ≡ negsuc 0
    → IsStep number_shown (Ok n) m m (served capacity Putchar z)
no-room z m capacity b n same room en = record {
  fuel = omega arith;
  ends = λ s h. (
    s,
    h,
    put-is capacity b z s m.output.items false h.output room same ∙ ap (λ y. let r : Answer Values = Gives (o.Number y ∷ []) s in r) (sym en),
  );
}
