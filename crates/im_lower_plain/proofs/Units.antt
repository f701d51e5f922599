-- A unit that is made is what the relation asks.
use Rattle.std.proofs.Common.{◌≡◌, ℕ, zero, suc, ◌+◌, ◌==◌, List, [], ◌∷◌, length, map, take, sum_by, refl, ap, sym, ◌∙◌, subst, arith}
use Rattle.std.specs.Prelude.{Some, slice_get}
use Rattle.std.proofs.lemmas.List.{length-map}
use Rattle.std.proofs.lemmas.List.Sums.{sum_by-cons}
use Rattle.im_ctype.specs.Table.{Table}
use Rattle.im_typed.specs.declared.program.Object.{Object as TypedObject}
use Rattle.im_typed.specs.declared.program.Static.{Static as TypedStatic}
use Rattle.im_typed.specs.declared.program.Func.{Func}
use Rattle.im_typed.specs.declared.program.Prog.{Prog}
use Rattle.im_typed.specs.Program as p
use Rattle.im_typed.specs.ProgramOf.{stmt_of, object_of, static_of, func_of, program_of}
use Rattle.im_typed.specs.Programs.{first_object}
use Rattle.im_block.specs.declared.code.Block.{Block}
use Rattle.im_block.specs.declared.code.Place.TheVariants.{Local}
use Rattle.im_block.specs.declared.unit.Object.{Object}
use Rattle.im_block.specs.declared.unit.Function.{Function}
use Rattle.im_block.specs.declared.unit.Unit.{Unit as Code}
use Rattle.im_lower_relation.specs.Codes.{Point, Begins}
use Rattle.im_lower_relation.specs.Statements.{CodesStatement}
use Rattle.im_lower_relation.specs.Lowered.{AreObjects, CodesParameters, kind_of_one, brace, CodesFunction, IsLowered}
use Rattle.im_lower_plain.specs.Made.{Made, point_of, close}
use Rattle.im_lower_plain.specs.MakeStatement.{put_parameters, make_brace, make_statement}
use Rattle.im_lower_plain.specs.MakeUnit.{nothing_made, FunctionMade, FunctionsMade, UnitMade, objects_of}
use Rattle.im_lower_plain.proofs.Growth.{Grows, stays, grows_write, grows_close, Later, later_before, closed_begins}
use Rattle.im_lower_plain.proofs.CodedStatements.{parameters_coded, brace_coded, statement_coded}

begins_of : (bs : List Block) (b : ℕ) (p : Point) → slice_get (map {A = Block} point_of bs) b ≡ Some p → Begins bs b p
begins_of [] b p e = absurd (cc)
begins_of (x ∷ xs) zero p e =
    let same : point_of x ≡ p = cc in
    record { block = x; there = refl; lines = ap (λ (q : Point). q.rest) same; exit = ap (λ (q : Point). q.exit) same }
begins_of (x ∷ xs) (suc b) p e =
    let r = begins_of xs b p e in
    record { block = r.block; there = r.there; lines = r.lines; exit = r.exit }

parameters_grow : {m n : Made} (object from : ℕ) (os : List Object) → Grows m n → Grows m (put_parameters object from os n)
parameters_grow object from [] h = h
parameters_grow object from (o ∷ os) h =
    grows_write (Local object 0) (kind_of_one o.cells.items) from (parameters_grow (object + 1) (from + 1) os h)

are_taken : (n : ℕ) (xs : List p.LocalObject) (os : List Object) → AreObjects xs os → AreObjects (take n xs) (take n os)
are_taken zero xs os are = tt
are_taken (suc n) [] [] are = tt
are_taken (suc n) [] (o ∷ os) are = absurd are
are_taken (suc n) (x ∷ xs) [] are = absurd are
are_taken (suc n) (x ∷ xs) (o ∷ os) are = (are.0, are.1, are_taken n xs os are.2)

function_lowered : (g : Prog) (k : ℕ) (f : Func) (first accesses : ℕ) (made : Function) (next : ℕ) → FunctionMade g f (k == g.main) first accesses made next → first ≡ first_object (program_of g) k → CodesFunction (program_of g) k (func_of g.types f) made
function_lowered g k f first accesses made next h e =
    let is_main = k == g.main in
    let later = made.blocks.items in
    let os = made.objects.items in
    let xs = map {A = TypedObject} (object_of g.types) f.objects.items in
    let body = stmt_of g.types f.body in
    let last = make_brace f.params is_main (nothing_made accesses) in
    let done = make_statement (program_of g) first f.params os body 0 0 last in
    let all = put_parameters first 0 (take f.params os) done in
    let each : Later 0 (close all) later = record { each = λ b q le s. begins_of later b q (subst (λ ps. slice_get ps b ≡ Some q) (sym h.blocks) s) } in
    let on : Grows done (close all) = grows_close (parameters_grow first 0 (take f.params os) (stays done)) in
    let here = sym h.first_object in
    let does = statement_coded (program_of g) first f.params os xs h.objects later body 0 0 last 0 (omega arith) (later_before on each) in
    record {
      nodes = h.nodes;
      need = h.need;
      registers = h.registers;
      slots = h.slots;
      parameters = h.parameters;
      first_parameter = h.first_parameter;
      first_object = h.first_object ∙ e;
      objects = h.objects;
      start = all.point;
      body = done.point;
      entry = subst (λ n. Begins later n all.point) (sym h.entry) (closed_begins all (omega arith) each);
      passed = subst (λ n. CodesParameters n 0 (take f.params xs) all.point done.point) here (parameters_coded first 0 (take f.params xs) (take f.params os) done (are_taken f.params xs os h.objects));
      does = subst (λ n. CodesStatement (program_of g) n f.params xs later body 0 0 done.point (brace f.params is_main)) here (subst (λ q. CodesStatement (program_of g) first f.params xs later body 0 0 done.point q) (brace_coded f.params is_main (nothing_made accesses)) does);
    }

-- the function of a number

pub record Place (g : Prog) (k first : ℕ) (f : Func) (c : Function) : Type 0 where
  pub accesses : ℕ
  pub next : ℕ
  pub made : FunctionMade g f (k == g.main) first accesses c next

pub placed : (g : Prog) (k first accesses last : ℕ) (fs : List Func) (cs : List Function) → FunctionsMade g k first accesses last fs cs → (i : ℕ) (f : Func) (c : Function) → slice_get fs i ≡ Some f → slice_get cs i ≡ Some c → Place g (k + i) (first + objects_of (take i fs)) f c
placed g k first accesses last [] cs h i f c ef ec = absurd (cc)
placed g k first accesses last (x ∷ xs) [] h i f c ef ec = absurd (cc)
placed g k first accesses last (x ∷ xs) (y ∷ ys) h zero f c ef ec =
    let same_f : x ≡ f = cc in
    let same_c : y ≡ c = cc in
    let number : k ≡ k + 0 = omega arith in
    let object : first ≡ first + 0 = omega arith in
    let here : Place g k first x y = record { accesses = accesses; next = h.0; made = h.1 } in
    subst (λ n. Place g n (first + 0) f c) number
    (subst (λ n. Place g k n f c) object (subst (λ z. Place g k first f z) same_c (subst (λ z. Place g k first z y) same_f here)))
placed g k first accesses last (x ∷ xs) (y ∷ ys) h (suc i) f c ef ec =
    let there = placed g (suc k) (first + length x.objects.items) h.0 last xs ys h.2 i f c ef ec in
    let number : suc k + i ≡ k + suc i = omega arith in
    let object : first + length x.objects.items + objects_of (take i xs) ≡ first + (length x.objects.items + objects_of (take i xs)) = omega arith in
    subst (λ n. Place g n (first + (length x.objects.items + objects_of (take i xs))) f c) number
    (subst (λ n. Place g (suc k + i) n f c) object there)

counted : (g : Prog) (k first accesses last : ℕ) (fs : List Func) (cs : List Function) → FunctionsMade g k first accesses last fs cs → length cs ≡ length fs
counted g k first accesses last [] [] h = refl
counted g k first accesses last [] (c ∷ cs) h = absurd h
counted g k first accesses last (f ∷ fs) [] h = absurd h
counted g k first accesses last (f ∷ fs) (c ∷ cs) h = ap suc (counted g (suc k) (first + length f.objects.items) h.0 last fs cs h.2)

module _ (types : Table) where
  sums : (fs : List Func) (k : ℕ) → sum_by (λ (f : p.Func). length f.objects) (take k (map {A = Func} (func_of types) fs)) ≡ objects_of (take k fs)
  sums [] zero = refl
  sums [] (suc k) = refl
  sums (f ∷ fs) zero = refl
  sums (f ∷ fs) (suc k) =
      sum_by-cons (λ (f : p.Func). length f.objects) (func_of types f) (take k (map {A = Func} (func_of types) fs))
      ∙ ap (λ n. length (map {A = TypedObject} (object_of types) f.objects.items) + n) (sums fs k)
      ∙ ap (λ n. n + objects_of (take k fs)) (length-map f.objects.items (object_of types))

  pub record Before (fs : List Func) (k : ℕ) (f : p.Func) : Type 0 where
    pub was : Func
    pub there : slice_get fs k ≡ Some was
    pub same : func_of types was ≡ f

  pub was_there : (fs : List Func) (k : ℕ) (f : p.Func) → slice_get (map {A = Func} (func_of types) fs) k ≡ Some f → Before fs k f
  was_there [] k f e = absurd (cc)
  was_there (x ∷ xs) zero f e = record { was = x; there = refl; same = cc }
  was_there (x ∷ xs) (suc k) f e =
      let r = was_there xs k f e in
      record { was = r.was; there = r.there; same = r.same }

first_is : (g : Prog) (k : ℕ) → length g.statics.items + objects_of (take k g.funcs.items) ≡ first_object (program_of g) k
first_is g k =
    ap (λ n. n + objects_of (take k g.funcs.items)) (sym (length-map g.statics.items (static_of g.types)))
    ∙ ap (λ n. length (map {A = TypedStatic} (static_of g.types) g.statics.items) + n) (sym (sums g.types g.funcs.items k))

pub unit_lowered : (g : Prog) (u : Code) → UnitMade g u → IsLowered (program_of g) u
unit_lowered g u h =
    let all = h.functions in
    record {
      statics = h.statics;
      main = h.main;
      count = counted g 0 (length g.statics.items) 0 all.last g.funcs.items u.functions.items all.each ∙ sym (length-map g.funcs.items (func_of g.types));
      functions = λ k f code ef ec.
          let before = was_there g.types g.funcs.items k f ef in
          let place = placed g 0 (length g.statics.items) 0 all.last g.funcs.items u.functions.items all.each k before.was code before.there ec in
          let number : 0 + k ≡ k = omega arith in
          let made = subst (λ n. FunctionMade g before.was (n == g.main) (length g.statics.items + objects_of (take k g.funcs.items)) place.accesses code place.next) number place.made in
          subst (λ x. CodesFunction (program_of g) k x code) before.same (function_lowered g k before.was (length g.statics.items + objects_of (take k g.funcs.items)) place.accesses code place.next made (first_is g k));
    }
