-- The counts that exceed a limit by the relations do so by the functions, and the other way round; the first excess is one.
use Rattle.std.proofs.Common.{◌≡◌, ◌∙◌, ◌⊎◌, inl, inr, ◌<◌, ℕ, List, [], Option, Some, None, refl, sym, ap, subst, Bool, true, false, arith}
use Rattle.std.specs.List.{Contains}
use Rattle.im_rules.specs.im_ctree.Tree as t
use Rattle.im_rules.specs.im_typed.Limits.{static_bytes}
use Rattle.im_rules.specs.im_typed.Program.{Func, Prog}
use Rattle.im_rules.specs.FileScope.{FilePlace, file_start}
use Rattle.im_rules.specs.TypedUnit.{FirstValues, AreExternals, TypedUnit}
use Rattle.im_rules.specs.UnitBreaks.{some_externals}
use Rattle.im_rules.proofs.UnitOnce.{externals_once}
use Rattle.im_rules_limits.specs.Limits.{Limit, of_parameters, of_size, of_statics, parameter_limit, parameter_counts, IsFileWithin, Exceeds, too_many_parameters, too_large, too_many_statics}
use Rattle.im_rules_asked.specs.Asked.{is_right}
use Rattle.im_rules_asked.specs.Units.{externals, externals_asked, unit, unit_asked}
use Rattle.im_rules_asked.specs.Limits.{parameters_where, words_of_parameters, first_above, statics_where, statics_of, limit_of, counts_of, first_over, IsExcess, Excess, excess_or, first_excess_of}
use Rattle.im_rules_asked.proofs.Right.{so, of_right}
use Rattle.im_rules_asked.proofs.BuiltUnits.{built_externals, built_unit}
use Rattle.im_rules_asked.proofs.RightUnits.{externals_right, unit_right, unit_same}
use Rattle.im_rules_asked.proofs.Counting.{only_one, itself}
use Rattle.im_rules_asked.proofs.Sized.{unit_has_size}
use Rattle.im_rules_asked.proofs.SizedUnits.{unit_sized}
use Rattle.im_rules_asked.proofs.Above.{none_above, some_above, no_above, is_first, first_is}

-- the parameters of functions, where external declarations are right

parameters_in : (u : t.Tree) (h : Bool) → h ≡ true → parameters_where h u ≡ parameter_counts (externals (file_start u) u).place.context.scopes u
parameters_in u true p = refl
parameters_in u false p = absurd (cc)

typed_parameters : {u : t.Tree} {e : FilePlace} {gs : List FirstValues} {ks : List Func} → AreExternals (file_start u) u gs ks e
    → words_of_parameters u ≡ parameter_counts e.context.scopes u
typed_parameters {u = u} d =
    let r = externals_right d in
    parameters_in u (is_right (externals_asked (file_start u) u)) (of_right r)
    ∙ ap (λ (g : FilePlace). parameter_counts g.context.scopes u) (sym (externals_once d (built_externals (file_start u) u r)).2)

parameters_exceed : (u : t.Tree) (h : Bool) (n : ℕ) → is_right (externals_asked (file_start u) u) ≡ h
    → first_above parameter_limit (parameters_where h u) ≡ Some n → Exceeds u of_parameters n
parameters_exceed u true n r p =
    too_many_parameters (built_externals (file_start u) u (so r))
    (is_first (parameter_counts (externals (file_start u) u).place.context.scopes u) n p)
parameters_exceed u false n r p = absurd (cc)

-- the statics of a unit that is right

statics_in : (u : t.Tree) (h : Bool) → h ≡ true → Contains (statics_where h u) (static_bytes (unit u).statics)
statics_in u true p = itself (static_bytes (unit u).statics) []
statics_in u false p = absurd (cc)

of_statics_in : (u : t.Tree) (h : Bool) (n : ℕ) → Contains (statics_where h u) n → (h ≡ true) × (static_bytes (unit u).statics ≡ n)
of_statics_in u true n c = (refl, only_one (static_bytes (unit u).statics) n c)
of_statics_in u false n c = let below = c.1 in absurd (omega arith)

typed_statics : (u : t.Tree) (g : Prog) → TypedUnit u g → Contains (statics_of u) (static_bytes g.statics)
typed_statics u g d =
    subst {A = Prog} (λ q. Contains (statics_of u) (static_bytes q.statics)) (unit_same d)
    (statics_in u (is_right (unit_asked u)) (of_right (unit_right d)))

statics_exceed : (u : t.Tree) (n : ℕ) → Contains (statics_of u) n → limit_of of_statics < n → Exceeds u of_statics n
statics_exceed u n c over =
    let b = of_statics_in u (is_right (unit_asked u)) n c in
    subst (λ z. Exceeds u of_statics z) b.1
    (too_many_statics (built_unit u (so b.0)) (subst (λ (z : ℕ). limit_of of_statics < z) (sym b.1) over))

-- one count

pub excess_is : (u : t.Tree) (l : Limit) (n : ℕ) → Exceeds u l n → IsExcess u l n
excess_is u l n (too_many_parameters {e = e} d h) =
    ap (first_above parameter_limit) (typed_parameters d) ∙ first_is (parameter_counts e.context.scopes u) n h
excess_is u l n (too_large h over) = (unit_has_size u n h, over)
excess_is u l n (too_many_statics {g = g} d over) = (typed_statics u g d, over)

pub is_excess : (u : t.Tree) (l : Limit) (n : ℕ) → IsExcess u l n → Exceeds u l n
is_excess u of_parameters n h = parameters_exceed u (is_right (externals_asked (file_start u) u)) n refl h
is_excess u of_size n h = too_large (unit_sized u n h.0) h.1
is_excess u of_statics n h = statics_exceed u n h.0 h.1

none_exceeds : (u : t.Tree) (l : Limit) (n : ℕ) → first_over l u ≡ None → IsExcess u l n → ⊥
none_exceeds u of_parameters n p h = cc (p, h)
none_exceeds u of_size n p h =
    let few = none_above (limit_of of_size) (counts_of of_size u) p n h.0 in
    let many = h.1 in
    absurd (omega arith)
none_exceeds u of_statics n p h =
    let few = none_above (limit_of of_statics) (counts_of of_statics u) p n h.0 in
    let many = h.1 in
    absurd (omega arith)

one_exceeds : (u : t.Tree) (l : Limit) (n : ℕ) → first_over l u ≡ Some n → IsExcess u l n
one_exceeds u of_parameters n p = p
one_exceeds u of_size n p = some_above (limit_of of_size) (counts_of of_size u) n p
one_exceeds u of_statics n p = some_above (limit_of of_statics) (counts_of of_statics u) n p

-- one count or the next

neither : (o : Option ℕ) (l : Limit) (r : Option Excess) → excess_or o l r ≡ None → (o ≡ None) × (r ≡ None)
neither None l r p = (refl, p)
neither (Some n) l r p = absurd (cc)

abbrev count_in : Option Excess → ℕ
count_in None = 0
count_in (Some e) = e.count

abbrev limit_in : Option Excess → Limit
limit_in None = of_size
limit_in (Some e) = e.limit

either_of : (o : Option ℕ) (l : Limit) (r : Option Excess) (e : Excess) → excess_or o l r ≡ Some e
    → ((o ≡ Some e.count) × (l ≡ e.limit)) ⊎ (r ≡ Some e)
either_of None l r e p = inr p
either_of (Some n) l r e p = inl (ap (λ z. Some (count_in z)) p, ap limit_in p)

abbrev nothing_over : Option Excess
nothing_over = None

abbrev behind_sizes : t.Tree → Option Excess
behind_sizes u = excess_or (first_over of_statics u) of_statics nothing_over

abbrev behind_parameters : t.Tree → Option Excess
behind_parameters u = excess_or (first_over of_size u) of_size (behind_sizes u)

none_over : (u : t.Tree) → first_excess_of u ≡ None → (l : Limit) → first_over l u ≡ None
none_over u p of_parameters = (neither (first_over of_parameters u) of_parameters (behind_parameters u) p).0
none_over u p of_size =
    let a = neither (first_over of_parameters u) of_parameters (behind_parameters u) p in
    (neither (first_over of_size u) of_size (behind_sizes u) a.1).0
none_over u p of_statics =
    let a = neither (first_over of_parameters u) of_parameters (behind_parameters u) p in
    let b = neither (first_over of_size u) of_size (behind_sizes u) a.1 in
    (neither (first_over of_statics u) of_statics nothing_over b.1).0

-- without an excess a unit is within the limits
pub no_excess_within : (u : t.Tree) → first_excess_of u ≡ None → (l : Limit) (n : ℕ) → Exceeds u l n → ⊥
no_excess_within u p l n h = none_exceeds u l n (none_over u p l) (excess_is u l n h)

-- a first excess is one

this_or : (u : t.Tree) (l : Limit) (r : Option Excess) (e : Excess)
    → (r ≡ Some e → IsExcess u e.limit e.count)
    → ((first_over l u ≡ Some e.count) × (l ≡ e.limit)) ⊎ (r ≡ Some e)
    → IsExcess u e.limit e.count
this_or u l r e f (inl q) = subst (λ z. IsExcess u z e.count) q.1 (one_exceeds u l e.count q.0)
this_or u l r e f (inr q) = f q

last_excess : (u : t.Tree) (e : Excess) → behind_sizes u ≡ Some e → IsExcess u e.limit e.count
last_excess u e p =
    this_or u of_statics nothing_over e (λ q. absurd (cc)) (either_of (first_over of_statics u) of_statics nothing_over e p)

next_excess : (u : t.Tree) (e : Excess) → behind_parameters u ≡ Some e → IsExcess u e.limit e.count
next_excess u e p =
    this_or u of_size (behind_sizes u) e (λ q. last_excess u e q) (either_of (first_over of_size u) of_size (behind_sizes u) e p)

pub first_excess : (u : t.Tree) (e : Excess) → first_excess_of u ≡ Some e → Exceeds u e.limit e.count
first_excess u e p =
    is_excess u e.limit e.count (this_or u of_parameters (behind_parameters u) e (λ q. next_excess u e q)
    (either_of (first_over of_parameters u) of_parameters (behind_parameters u) e p))

-- what is within has none

none_if : (u : t.Tree) (o : Option Excess) → first_excess_of u ≡ o → ((l : Limit) (n : ℕ) → Exceeds u l n → ⊥) → o ≡ None
none_if u None p w = refl
none_if u (Some e) p w = absurd (w e.limit e.count (first_excess u e p))

pub within_none : (u : t.Tree) → ((l : Limit) (n : ℕ) → Exceeds u l n → ⊥) → first_excess_of u ≡ None
within_none u w = none_if u (first_excess_of u) refl w

pub none_large : (u : t.Tree) → IsFileWithin (file_start u) (some_externals u) → first_over of_size u ≡ None
none_large u w = no_above (limit_of of_size) (counts_of of_size u) (λ n c. w n (unit_sized u n c))
