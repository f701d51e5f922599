-- A size that the relations count in a unit is found in its tree of demands.
use Rattle.std.proofs.Common.{◌≡◌, ◌≤◌, ℕ, ◌+◌, List, [], sym, subst, length}
use Rattle.std.specs.List.{Contains}
use Rattle.im_rules.specs.im_ctree.Tree as t
use Rattle.im_rules.specs.im_ctype.Types.{Member}
use Rattle.im_rules.specs.Context.{Context}
use Rattle.im_rules.specs.Terms.{Term, size_in, constant_in}
use Rattle.im_rules.specs.Declared.{Qualified, Declared, array_of}
use Rattle.im_rules.specs.Breaks.{Node}
use Rattle.im_rules.specs.Initialisers.{completed}
use Rattle.im_rules.specs.Statements.{Site}
use Rattle.im_rules.specs.BodyBreaks.{Given, BodyNode}
use Rattle.im_rules.specs.FileScope.{FilePlace, file_start, with_list_begun, with_struct}
use Rattle.im_rules.specs.TypedUnit.{AreMembers}
use Rattle.im_rules.specs.UnitBreaks.{FileNode, some_externals}
use Rattle.im_rules.specs.Typed.{Declares, of_array as of_array_suffix}
use Rattle.im_rules.proofs.UnitOnce.{members_once}
use Rattle.im_rules_limits.specs.Limits.{size_limit, Counted, HasSize, of_array, of_string, Sized, size_here, size_within, GivenSized, size_in_value, size_in_elements, size_in_members, size_in_first_element, size_in_other_elements, size_in_first_member, size_in_other_members, BodySized, of_local, size_in_part, size_in_inner, size_in_step, size_in_local_initialiser, FileSized, of_struct, of_member, of_static, size_in_file_part, size_in_file_inner, size_in_static_initialiser, size_in_body}
use Rattle.im_rules_asked.specs.Asked.{sizes}
use Rattle.im_rules_asked.specs.Expressions.{declared}
use Rattle.im_rules_asked.specs.Sizes.{is_within, where_within, counted, struct_counted}
use Rattle.im_rules_asked.specs.Units.{fields_counted, members, unit_asked}
use Rattle.im_rules_asked.proofs.Built.{first_of}
use Rattle.im_rules_asked.proofs.BuiltUnits.{built_members}
use Rattle.im_rules_asked.proofs.RightUnits.{members_right}
use Rattle.im_rules_asked.proofs.Terms.{term_of, suffixed_of, declared_of}
use Rattle.im_rules_asked.proofs.Rightness.{suffixes_rightly, declarator_rightly}
use Rattle.im_rules_asked.proofs.Faults.{a_size, Found, here_sized, of_sized, in_one, in_first, in_second, in_earlier, in_later}
use Rattle.im_rules_asked.proofs.FaultyExpressions.{node_asked, part_found}
use Rattle.im_rules_asked.proofs.FaultyBodies.{given_asked, value_in_found, in_elements_found, in_members_found, body_asked, inner_found, step_found, behind_found, in_local}
use Rattle.im_rules_asked.proofs.FaultyUnits.{file_asked, part_found as file_part_found, inner_found as file_inner_found, in_static, in_definition}
use Rattle.im_rules_asked.proofs.Counting.{most_is, itself, here_counted, counted_is, struct_own, struct_member}

-- expressions, type names and declarators

abbrev array_sizes : Context → Qualified → Term → List ℕ
array_sizes c r x = where_within (is_within (size_in c.known r.type)) (size_in c.known (array_of r (constant_in x)).type)

array_counted : (c : Context) {r s : Qualified} {x y : Term} → s ≡ r → y ≡ x
    → size_in c.known r.type ≤ size_limit
    → Contains (array_sizes c s y) (size_in c.known (array_of r (constant_in x)).type)
array_counted c {r = r} {s = s} {x = x} {y = y} p q w =
    subst {A = Qualified} (λ z. Contains (array_sizes c z y) (size_in c.known (array_of r (constant_in x)).type)) (sym p)
    (subst {A = Term} (λ z. Contains (array_sizes c r z) (size_in c.known (array_of r (constant_in x)).type)) (sym q)
    (here_counted (is_within (size_in c.known r.type)) (size_in c.known (array_of r (constant_in x)).type)
    (most_is (size_in c.known r.type) size_limit w)))

size_found : {c : Context} {n : Node} {k : ℕ} → HasSize c n k → Found (a_size k) (node_asked c n)
size_found {c = c} (of_array {at = at} s e m w) =
    in_later (first_of (suffixes_rightly (of_array_suffix {at = at} s e m)))
    (here_sized (array_counted c (suffixed_of s) (term_of e) w))
size_found (of_string {s = s}) = here_sized (itself (length s + 1) [])

pub expression_sized : {c : Context} {n : Node} {k : ℕ} → Sized c n k → Found (a_size k) (node_asked c n)
expression_sized (size_here h) = size_found h
expression_sized (size_within p h) = part_found p (expression_sized h)

-- initialisers

pub given_sized : {c : Context} {g : Given} {k : ℕ} → GivenSized c g k → Found (a_size k) (given_asked c g)
given_sized {c = c} (size_in_value {a = a} {i = i} p h) = value_in_found c a i p (expression_sized h)
given_sized {c = c} (size_in_elements {a = a} {b = e} {i = i} p h) = in_elements_found c a e i p (given_sized h)
given_sized {c = c} (size_in_members {a = a} {n = n} {i = i} p h) = in_members_found c a n i p (given_sized h)
given_sized (size_in_first_element h) = in_first (given_sized h)
given_sized (size_in_other_elements h) = in_second (given_sized h)
given_sized (size_in_first_member h) = in_first (given_sized h)
given_sized (size_in_other_members h) = in_second (given_sized h)

-- bodies

object_counted : {c : Context} {q : Qualified} {d : t.Declarator} {y : Declared} {k : ℕ} (i : t.MaybeInitializer)
    → Declares c q d y → Counted c.known (completed y.type i) k
    → Contains (counted c.known (completed (declared c q d).type i)) k
object_counted {c = c} {y = y} {k = k} i dd h =
    subst {A = Declared} (λ z. Contains (counted c.known (completed z.type i)) k) (sym (declared_of dd))
    (counted_is c.known (completed y.type i) h)

pub body_sized : {s : Site} {n : BodyNode} {k : ℕ} → BodySized s n k → Found (a_size k) (body_asked s n)
body_sized (of_local {i = i} dd h) = in_later (declarator_rightly dd) (in_first (here_sized (object_counted i dd h)))
body_sized (size_in_part p h) = behind_found p (body_sized h)
body_sized (size_in_inner p h) = inner_found p (expression_sized h)
body_sized (size_in_step p h) = step_found p (expression_sized h)
body_sized {s = s} (size_in_local_initialiser {i = i} {ds = ds} dd h) = in_local s i ds dd (given_sized h)

-- file scope

fields_have : {f g : FilePlace} {ms : t.Members} {fields : List Member} {k : ℕ} → AreMembers f ms fields g
    → Contains (struct_counted (with_struct fields g).context.known fields (length g.context.known)) k
    → Contains (fields_counted (members f ms)) k
fields_have {f = f} {g = g} {ms = ms} {fields = fs} {k = k} b c =
    let e = members_once b (built_members f ms (members_right f ms b)) in
    subst {A = FilePlace} (λ j. Contains (fields_counted (record { members = (members f ms).members; place = j })) k) e.1
    (subst {A = List Member} (λ ys. Contains (fields_counted (record { members = ys; place = g })) k) e.0 c)

pub file_sized : {f : FilePlace} {n : FileNode} {k : ℕ} → FileSized f n k → Found (a_size k) (file_asked f n)
file_sized {f = f} (of_struct {g = g} {at = at} {x = x} {ms = ms} {fields = fs} b w) =
    in_later (members_right (with_list_begun at x f) ms b) (here_sized (fields_have b
    (struct_own (with_struct fs g).context.known fs (length g.context.known) w)))
file_sized {f = f} (of_member {g = g} {at = at} {x = x} {ms = ms} {fields = fs} {m = m} b c h) =
    in_later (members_right (with_list_begun at x f) ms b) (here_sized (fields_have b
    (struct_member (with_struct fs g).context.known fs (length g.context.known) m c h)))
file_sized (of_static {i = i} dd h) = in_later (declarator_rightly dd) (in_first (here_sized (object_counted i dd h)))
file_sized (size_in_file_part p h) = file_part_found p (file_sized h)
file_sized (size_in_file_inner p h) = file_inner_found p (expression_sized h)
file_sized {f = f} (size_in_static_initialiser {xs = xs} {i = i} {ds = ds} dd h) = in_static f xs i ds dd (in_earlier (given_sized h))
file_sized (size_in_body {at = at} {at' = at'} {d = d} {is = is} s dd a h) = in_definition at at' d is s dd a (body_sized h)

unit_found : (u : t.Tree) (n : ℕ) → FileSized (file_start u) (some_externals u) n → Found (a_size n) (unit_asked u)
unit_found u n h = in_one (file_sized h)

pub unit_has_size : (u : t.Tree) (n : ℕ) → FileSized (file_start u) (some_externals u) n
    → Contains (sizes (unit_asked u)) n
unit_has_size u n h = of_sized (unit_found u n h)
