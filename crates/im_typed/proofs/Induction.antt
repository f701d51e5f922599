-- Expressions and statements, where what calls and operators do is related.
use Rattle.std.proofs.Common.{ℕ, zero, suc, ◌+◌, ◌≤◌, List, [], ◌∷◌, Bool, true, false, length, take, drop, arith}
use Rattle.std.specs.Prelude.{Option, Some, None, pos}
use Rattle.im_num.specs.Kinds.{wrap}
use Rattle.im_store.specs.Numbers.{apply_one}
use Rattle.im_store.specs.Objects.{Named, Object, Value, Number, Null, Pointer, static}
use Rattle.im_store.specs.declared.undefined.Undefined.TheVariants.{MissingResult}
use Rattle.im_store.specs.Access.{taken}
use Rattle.im_store.specs.Pointers.{moved_by, bytes_moved, member_at, distance, compare_values, holds}
use Rattle.im_typed.specs.Program.{Access, Scalar, Struct, Place, Static, Local, Target, Member, Expr, Constant, NullPointer, Read, Address, Convert, Unary, Binary, Move, MoveBy, Distance, Compare, Not, And, Or, Choose, Comma, Discard, Assign, Update, Increment, Part, Call, Serve, no_argument, an_argument, Exprs, no_exprs, more_exprs, Piece, Stmt, Do, Forget, Initialise, Block, If, While, DoWhile, For, Switch, Break, Continue, Return, Stmts, no_stmts, more_stmts}
use Rattle.im_typed.specs.Runs.{Run, ◌>>=◌, give, starve, with_fuel, either}
use Rattle.im_typed.specs.Values.{Values, Operates, cells_of, source_for, used, value_in}
use Rattle.im_typed.specs.Meaning.{Around, Calls, Flow, Next, Broke, Continued, Returned, after_turn, place_of, value_of, is_read, stored, source_of, values_of, turns, decides, entered, out_of_switch, forgotten, cleared, given_offsets, initialise, returned, does, does_from}
use Rattle.im_typed.proofs.Related.{Related, Tame, tame-bind, tame-give, tame-undefined, tame-starve, tame-paid, tame-either, tame-in_store, rel-bind, rel-give, rel-checked, rel-in_store, rel-either, rel-paid, rel-paid-zero, rel-paid-suc, rel-down}
use Rattle.im_typed.proofs.Parts.{RelatedOperates, rel-change_store, rel-used, rel-value_in, rel-number_in, rel-read_at, rel-write_at, rel-update, rel-served, rel-after, rel-after_turn, rel-decides}

abbrev pub within : ℕ → ℕ → ℕ → ℕ → Calls → Operates → Around
within activation depth first capacity calls operates =
    record { activation = activation; depth = depth; first = first; capacity = capacity; calls = calls; operates = operates }

-- calls that are related, whatever is called
pub record RelatedCalls (k b : ℕ) (calls calls' : Calls) : Type 0 where
  pub by : (f : ℕ) (vs : List Value) → Related k b (calls f vs) (calls' f vs)

rel-stored : {k b : ℕ} (x : Access) (at : Value) (read : Bool) {value value' : Run Values} {source source' : Run Value} → Related k b value value' → Related k b source source' → Related k b (stored x at read value source) (stored x at read value' source')
rel-stored (Scalar kind) at read v s = v
rel-stored (Struct count cells) at false v s = v
rel-stored (Struct count cells) at true v s =
    rel-bind s (λ from. rel-bind (rel-checked (source_for cells at from)) (λ there. rel-read_at (Struct count cells) there))

-- loops

tame-after_turn : (f : Flow) (m : Run Flow) → Tame m → Tame (after_turn f m)
tame-after_turn Next m g = g
tame-after_turn Broke m g = tame-give Next
tame-after_turn Continued m g = g
tame-after_turn (Returned vs) m g = tame-give (Returned vs)

tame-used : (vs : Values) → Tame (used vs)
tame-used [] = tame-undefined Value MissingResult
tame-used (v ∷ vs) = tame-in_store (λ store. taken store v)

tame-decides : (test : Run Values) (x y : Run Flow) → Tame test → Tame x → Tame y → Tame (decides test x y)
tame-decides test x y t g h =
    tame-bind (value_in test) (λ v. either (holds v) x y) (tame-bind test used t tame-used) (λ v. tame-either (holds v) x y g h)

-- what follows the fuel of a turn
abbrev turn : ℕ → Run Values → Run Flow → Run Values → Run Flow
turn n test body step = body >>= (λ f. after_turn f (step >>= (λ _. turns n test body step)))

mutual
  tame-turns : (n : ℕ) (test : Run Values) (body : Run Flow) (step : Run Values) → Tame test → Tame body → Tame step → Tame (turns n test body step)
  tame-turns zero test body step t g h =
      tame-decides test (with_fuel starve) (give Next) t (tame-paid starve (tame-starve Flow)) (tame-give Next)
  tame-turns (suc n) test body step t g h =
      tame-decides test (with_fuel (turn n test body step)) (give Next) t
      (tame-paid (turn n test body step)
      (tame-bind body (λ f. after_turn f (step >>= (λ _. turns n test body step))) g
      (λ f. tame-after_turn f (step >>= (λ _. turns n test body step))
      (tame-bind step (λ _. turns n test body step) h (λ _. tame-turns n test body step t g h)))))
      (tame-give Next)

tame-turn : (n : ℕ) (test : Run Values) (body : Run Flow) (step : Run Values) → Tame test → Tame body → Tame step → Tame (turn n test body step)
tame-turn n test body step t g h =
    tame-bind body (λ f. after_turn f (step >>= (λ _. turns n test body step))) g
    (λ f. tame-after_turn f (step >>= (λ _. turns n test body step))
    (tame-bind step (λ _. turns n test body step) h (λ _. tame-turns n test body step t g h)))

pub rel-turns : {k : ℕ} (b n n' : ℕ) → b ≤ n → b + k ≤ n' → {test test' step step' : Run Values} {body body' : Run Flow} → Related k b test test' → Related k b body body' → Related k b step step' → Related k b (turns n test body step) (turns n' test' body' step')
rel-turns zero zero zero le le' t g h =
    rel-decides t (rel-paid-zero (tame-starve Flow) (tame-starve Flow)) (rel-give Next)
rel-turns zero zero (suc n') le le' {test} {test'} {step} {step'} {body} {body'} t g h =
    rel-decides t (rel-paid-zero (tame-starve Flow) (tame-turn n' test' body' step' t.tame' g.tame' h.tame')) (rel-give Next)
rel-turns zero (suc n) zero le le' {test} {test'} {step} {step'} {body} {body'} t g h =
    rel-decides t (rel-paid-zero (tame-turn n test body step t.tame g.tame h.tame) (tame-starve Flow)) (rel-give Next)
rel-turns zero (suc n) (suc n') le le' {test} {test'} {step} {step'} {body} {body'} t g h =
    rel-decides t (rel-paid-zero (tame-turn n test body step t.tame g.tame h.tame) (tame-turn n' test' body' step' t.tame' g.tame' h.tame')) (rel-give Next)
rel-turns (suc b) zero n' le le' t g h = absurd (omega arith)
rel-turns {k} (suc b) (suc n) zero le le' t g h = absurd (omega arith)
rel-turns {k} (suc b) (suc n) (suc n') le le' t g h =
    let l : b ≤ n = omega arith in
    let l' : b + k ≤ n' = omega arith in
    rel-decides t
    (rel-paid-suc (rel-bind (rel-down g) (λ f. rel-after_turn f (rel-bind (rel-down h) (λ _. rel-turns b n n' l l' (rel-down t) (rel-down g) (rel-down h))))))
    (rel-give Next)

module _ (k b activation depth first capacity : ℕ) (calls calls' : Calls) (operates operates' : Operates) (called : RelatedCalls k b calls calls') (operated : RelatedOperates k b operates operates') where
  abbrev c : Around
  c = within activation depth first capacity calls operates

  abbrev d : Around
  d = within activation depth first capacity calls' operates'

  abbrev object : ℕ → Object
  object n = record { activation = activation; depth = depth; name = Named (first + n) }

  mutual
    pub rel-place : (p : Place) → Related k b (place_of c p) (place_of d p)
    rel-place (Static n) = rel-give (Pointer (static n) 0)
    rel-place (Local n) = rel-give (Pointer (object n) 0)
    rel-place (Target e) = rel-value_in (rel-value e)
    rel-place (Member a offset) = rel-bind (rel-place a) (λ at. rel-in_store (λ store. member_at store offset at))

    pub rel-value : (e : Expr) → Related k b (value_of c e) (value_of d e)
    rel-value (Constant kind z) = rel-give (Number z ∷ [])
    rel-value (NullPointer kind) = rel-give (Null ∷ [])
    rel-value (Read x a) = rel-bind (rel-place a) (λ at. rel-read_at x at)
    rel-value (Address a) = rel-bind (rel-place a) (λ at. rel-give (at ∷ []))
    rel-value (Convert kind e) = rel-bind (rel-number_in (rel-value e)) (λ z. rel-give (Number (wrap kind z) ∷ []))
    rel-value (Unary op kind e) = rel-bind (rel-number_in (rel-value e)) (λ z. rel-give (Number (apply_one op kind z) ∷ []))
    rel-value (Binary op kind x y) =
        rel-bind (rel-number_in (rel-value x)) (λ i. rel-bind (rel-number_in (rel-value y)) (λ j.
        rel-bind (operated.by op kind i j) (λ z. rel-give (Number z ∷ []))))
    rel-value (Move size back x y) =
        rel-bind (rel-value_in (rel-value x)) (λ p. rel-bind (rel-number_in (rel-value y)) (λ n.
        rel-bind (rel-in_store (λ store. moved_by store (bytes_moved size back n) p)) (λ at. rel-give (at ∷ []))))
    rel-value (MoveBy size x y) =
        rel-bind (rel-number_in (rel-value x)) (λ n. rel-bind (rel-value_in (rel-value y)) (λ p.
        rel-bind (rel-in_store (λ store. moved_by store (bytes_moved size false n) p)) (λ at. rel-give (at ∷ []))))
    rel-value (Distance size x y) =
        rel-bind (rel-value_in (rel-value x)) (λ p. rel-bind (rel-value_in (rel-value y)) (λ q.
        rel-bind (rel-checked (distance size p q)) (λ n. rel-give (Number n ∷ []))))
    rel-value (Compare op kind x y) =
        rel-bind (rel-value_in (rel-value x)) (λ v. rel-bind (rel-value_in (rel-value y)) (λ w.
        rel-bind (rel-checked (compare_values op v w)) (λ answer. rel-give _)))
    rel-value (Not x) = rel-bind (rel-value_in (rel-value x)) (λ v. rel-give _)
    rel-value (And x y) =
        rel-bind (rel-value_in (rel-value x)) (λ v. rel-either (holds v) (rel-bind (rel-value_in (rel-value y)) (λ w. rel-give _)) (rel-give _))
    rel-value (Or x y) =
        rel-bind (rel-value_in (rel-value x)) (λ v. rel-either (holds v) (rel-give _) (rel-bind (rel-value_in (rel-value y)) (λ w. rel-give _)))
    rel-value (Choose t x y) = rel-bind (rel-value_in (rel-value t)) (λ v. rel-either (holds v) (rel-value x) (rel-value y))
    rel-value (Comma x y) = rel-bind (rel-value x) (λ _. rel-value y)
    rel-value (Discard x) = rel-bind (rel-value x) (λ _. rel-give [])
    rel-value (Assign x a e) =
        rel-bind (rel-place a) (λ at. rel-bind (rel-stored x at (is_read e) (rel-value e) (rel-source e)) (λ vs. rel-bind (rel-used vs) (λ _. rel-write_at x at vs)))
    rel-value (Update a change e) = rel-bind (rel-place a) (λ at. rel-update operated change false at (rel-number_in (rel-value e)))
    rel-value (Increment a change old) = rel-bind (rel-place a) (λ at. rel-update operated change old at (rel-give (pos 1)))
    rel-value (Part from x e) = rel-bind (rel-value e) (λ vs. rel-give (take (length (cells_of x)) (drop from vs)))
    rel-value (Call f es) = rel-bind (rel-values es) (λ vs. called.by f vs)
    rel-value (Serve service no_argument) = rel-paid (rel-served capacity service (pos 0))
    rel-value (Serve service (an_argument e)) = rel-bind (rel-number_in (rel-value e)) (λ z. rel-paid (rel-served capacity service z))

    pub rel-source : (e : Expr) → Related k b (source_of c e) (source_of d e)
    rel-source (Read x a) = rel-place a
    rel-source _ = rel-give Null

    pub rel-values : (es : Exprs) → Related k b (values_of c es) (values_of d es)
    rel-values no_exprs = rel-give []
    rel-values (more_exprs e rest) = rel-bind (rel-value_in (rel-value e)) (λ v. rel-bind (rel-values rest) (λ vs. rel-give (v ∷ vs)))

  rel-initialise : (o : Object) (ps : List Piece) → Related k b (initialise c o ps) (initialise d o ps)
  rel-initialise o [] = rel-give tt
  rel-initialise o (p ∷ ps) =
      rel-bind (rel-value p.value) (λ vs. rel-bind (rel-used vs) (λ _.
      rel-bind (rel-write_at p.access (Pointer o p.offset) vs) (λ _. rel-initialise o ps)))

  rel-returned : (e : Option Expr) → Related k b (returned c e) (returned d e)
  rel-returned None = rel-give (Returned [])
  rel-returned (Some e) = rel-bind (rel-value_in (rel-value e)) (λ v. rel-give (Returned (v ∷ [])))

  module _ (n n' : ℕ) (le : b ≤ n) (le' : b + k ≤ n') where
    mutual
      pub rel-does : (s : Stmt) → Related k b (does c n s) (does d n' s)
      rel-does (Do e) = rel-bind (rel-value e) (λ _. rel-give Next)
      rel-does (Forget x) = rel-bind (rel-change_store (forgotten (object x))) (λ _. rel-give Next)
      rel-does (Initialise x count ps) =
          rel-bind (rel-initialise (object x) ps) (λ _. rel-bind (rel-change_store (cleared (given_offsets ps) (object x))) (λ _. rel-give Next))
      rel-does (Block ss) = rel-does_from 0 ss
      rel-does (If t x y) = rel-decides (rel-value t) (rel-does x) (rel-does y)
      rel-does (While t x) = rel-turns b n n' le le' (rel-value t) (rel-does x) (rel-give [])
      rel-does (DoWhile x t) =
          rel-paid (rel-bind (rel-does x) (λ f. rel-after_turn f (rel-turns b n n' le le' (rel-value t) (rel-does x) (rel-give []))))
      rel-does (For x t step y) =
          rel-bind (rel-does x) (λ f. rel-after f (rel-turns b n n' le le' (rel-value t) (rel-does y) (rel-value step)))
      rel-does (Switch e ks otherwise ss) =
          rel-bind (rel-number_in (rel-value e)) (λ z. rel-bind (rel-does_from (entered z ks otherwise) ss) (λ f. rel-give (out_of_switch f)))
      rel-does Break = rel-give Broke
      rel-does Continue = rel-give Continued
      rel-does (Return e) = rel-returned e

      rel-does_from : (i : ℕ) (ss : Stmts) → Related k b (does_from c n i ss) (does_from d n' i ss)
      rel-does_from i no_stmts = rel-give Next
      rel-does_from (suc i) (more_stmts s rest) = rel-does_from i rest
      rel-does_from zero (more_stmts s rest) = rel-bind (rel-does s) (λ f. rel-after f (rel-does_from zero rest))
