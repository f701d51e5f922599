-- Objects that come into being, with the values that their cells have. Private contracts alone speak of this.
use Rattle.std.specs.Prelude.{◌≡◌, ℕ, ◌==◌, List, length, get_or, slice_get, Option, Some, None, if◌then◌else◌}
use Rattle.im_num.specs.declared.kind.Kind.{Kind}
use Rattle.im_store.specs.Objects as o
use Rattle.im_eval_store.specs.declared.memory.Live.{Live}
use Rattle.im_eval_store.specs.declared.plan.Plan.{Plan}
use Rattle.im_eval_store.specs.declared.value.Value.TheVariants.{Unset}
use Rattle.im_eval_store.specs.Shown.{shown}

-- an argument stands in the first cell of its parameter
abbrev pub argument_at : Option o.Value → ℕ → o.Value
argument_at None i = o.Unset
argument_at (Some v) i = if i == 0 then v else o.Unset

-- an object of that plan, whose cells have these values
pub record IsFresh (plan : Plan) (values : ℕ → o.Value) (x : Live) : Type 0 where
  pub plan_is : x.plan.now ≡ plan
  pub have : (i : ℕ) (kind : Kind) → get_or plan.kinds.items i None ≡ Some kind → shown (get_or x.values.items i Unset) ≡ values i

-- objects of these plans, in their order
pub record AreFresh (plans : List Plan) (values : ℕ → ℕ → o.Value) (objects : List Live) : Type 0 where
  pub count : length objects ≡ length plans
  pub each : (k : ℕ) (x : Live) → slice_get objects k ≡ Some x → (plan : Plan) × (slice_get plans k ≡ Some plan) × IsFresh plan (values k) x
