-- Which count of a unit is over its limit, as functions: words of parameters, bytes of a type, bytes of all statics.
use Rattle.std.specs.Prelude.{◌≡◌, ◌<◌, ℕ, Bool, List, [], ◌∷◌, Option, Some, None, nat_le, if◌then◌else◌}
use Rattle.std.specs.List.{Contains}
use Rattle.im_rules.specs.im_ctree.Tree as t
use Rattle.im_rules.specs.im_typed.Limits.{static_bytes}
use Rattle.im_rules.specs.FileScope.{file_start}
use Rattle.im_rules_limits.specs.Limits.{Limit, of_parameters, of_size, of_statics, parameter_limit, parameter_counts, size_limit}
use Rattle.im_rules_asked.specs.Asked.{Asked, node, sized, Parts, no_part, beside, behind, is_right, sizes, Fault, first_refused}
use Rattle.im_rules_asked.specs.Units.{externals, externals_asked, unit, unit_asked}

-- the sizes of the types that a unit names and completes, in source order; those behind something that is broken don't count
abbrev pub sizes_of : t.Tree → List ℕ
sizes_of u = sizes (unit_asked u)

abbrev pub HasSize : ℕ → t.Tree → Type 0
HasSize n u = Contains (sizes_of u) n

-- the words of the parameters of each function that is declared; only external declarations that are typed have some

abbrev pub parameters_where : Bool → t.Tree → List ℕ
parameters_where h u = if h then parameter_counts (externals (file_start u) u).place.context.scopes u else []

abbrev pub words_of_parameters : t.Tree → List ℕ
words_of_parameters u = parameters_where (is_right (externals_asked (file_start u) u)) u

-- the bytes of all statics; only a unit that is typed has some

abbrev pub statics_where : Bool → t.Tree → List ℕ
statics_where h u = if h then static_bytes (unit u).statics ∷ [] else []

abbrev pub statics_of : t.Tree → List ℕ
statics_of u = statics_where (is_right (unit_asked u)) u

-- limits, and what is counted for each

abbrev pub limit_of : Limit → ℕ
limit_of of_parameters = parameter_limit
limit_of of_size = size_limit
limit_of of_statics = 1048576

abbrev pub counts_of : Limit → t.Tree → List ℕ
counts_of of_parameters u = words_of_parameters u
counts_of of_size u = sizes_of u
counts_of of_statics u = statics_of u

-- the first of these counts that is above the limit

abbrev pub above_or : Bool → ℕ → Option ℕ → Option ℕ
above_or h n o = if h then o else Some n

abbrev pub first_above : ℕ → List ℕ → Option ℕ
first_above limit [] = None
first_above limit (n ∷ ns) = above_or (nat_le n limit) n (first_above limit ns)

abbrev pub first_over : Limit → t.Tree → Option ℕ
first_over l u = first_above (limit_of l) (counts_of l u)

-- a count over its limit; of the parameters the first one
abbrev pub IsExcess : t.Tree → Limit → ℕ → Type 0
IsExcess u of_parameters n = first_over of_parameters u ≡ Some n
IsExcess u of_size n = Contains (counts_of of_size u) n × (limit_of of_size < n)
IsExcess u of_statics n = Contains (counts_of of_statics u) n × (limit_of of_statics < n)

-- the first excess: of the parameters, else of a size, else of the statics

pub record Excess : Type 0 where
  pub limit : Limit
  pub count : ℕ

abbrev pub excess : Limit → ℕ → Excess
excess l n = record { limit = l; count = n }

abbrev pub excess_or : Option ℕ → Limit → Option Excess → Option Excess
excess_or None l o = o
excess_or (Some n) l o = Some (excess l n)

abbrev pub first_excess_of : t.Tree → Option Excess
first_excess_of u =
    excess_or (first_over of_parameters u) of_parameters
    (excess_or (first_over of_size u) of_size (excess_or (first_over of_statics u) of_statics None))

-- which comes first in source order: something that is asked and isn't so, or a size over its limit

pub data Stop : Type 0 where
  broken : Fault → Stop
  large : ℕ → Stop

abbrev pub stop_or : Option Stop → Option Stop → Option Stop
stop_or None o = o
stop_or (Some s) o = Some s

abbrev pub where_broken : Option Fault → Option Stop
where_broken None = None
where_broken (Some f) = Some (broken f)

abbrev pub where_large : Option ℕ → Option Stop
where_large None = None
where_large (Some n) = Some (large n)

abbrev mutual
  pub first_stop : Asked → Option Stop
  first_stop (node k ds ps) = stop_or (first_stop_in ps) (where_broken (first_refused k ds))
  first_stop (sized ns) = where_large (first_above size_limit ns)

  pub first_stop_in : Parts → Option Stop
  first_stop_in no_part = None
  first_stop_in (beside ps a) = stop_or (first_stop_in ps) (first_stop a)
  first_stop_in (behind ps a) = stop_or (first_stop_in ps) (first_stop a)

abbrev pub first_stop_of : t.Tree → Option Stop
first_stop_of u = first_stop (unit_asked u)
