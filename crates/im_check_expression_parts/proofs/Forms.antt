-- Each form of expression, from the terms of its parts. `types` is the table at the place behind the parts.
use Rattle.std.proofs.Common.{◌≡◌, ◌≤◌, ℕ, ◌+◌, true, false, pos, List, [], ◌∷◌, ◌++◌, length, Result, arith, refl, sym, ap, ◌∙◌, subst}
use Rattle.im_check_declarators.specs.im_word.Words.{Name}
use Rattle.im_check_declarators.specs.im_tok.declared.number.Number.{Number}
use Rattle.im_check_declarators.specs.im_ctree.declared.operator.StepOp.{StepOp}
use Rattle.im_check_declarators.specs.im_ctree.declared.operator.UnaryOp.{UnaryOp}
use Rattle.im_check_declarators.specs.im_ctree.declared.operator.BinaryOp.{BinaryOp}
use Rattle.im_check_declarators.specs.im_ctree.declared.operator.AssignOp.{AssignOp}
use Rattle.im_check_declarators.specs.im_ctree.Tree as t
use Rattle.im_check_declarators.specs.im_ctype.declared.integer.Integer.TheVariants.{Int}
use Rattle.im_check_declarators.specs.im_ctype.Table.{Table, structs_of}
use Rattle.im_rules.specs.Context as k
use Rattle.im_rules.specs.Conversions as c
use Rattle.im_rules.specs.Demands as d
use Rattle.im_rules.specs.Demands.{Demand, Meets, Refuses}
use Rattle.im_rules.specs.Scopes.{meaning}
use Rattle.im_rules.specs.Strings.{strings_in, strings_among, strings_named}
use Rattle.im_rules.specs.Terms as r
use Rattle.im_rules.specs.Typed as y
use Rattle.im_rules.specs.Typed.{Typed, AreTyped, Names}
use Rattle.im_rules.specs.Breaks as b
use Rattle.im_rules.specs.Breaks.{Breaks, an_expression, some_expressions, a_type_name, first_token}
use Rattle.im_check_declarators.specs.im_rules_limits.Limits.{size_limit, Sized, size_here, of_string, IsWithin}
use Rattle.im_check_declarators.specs.im_check_stop.declared.stop.Stop.{Stop}
use Rattle.im_check_declarators.specs.im_check_stop.declared.stop.Stop.TheVariants.{Rule, Large, Memory}
use Rattle.im_check_declarators.specs.im_check_sizes.Sizes.{IsTooLarge}
use Rattle.im_check_declarators.specs.im_check_scopes.Shape.{scopes_of}
use Rattle.im_check_declarators.specs.im_types.Shape.{type_of}
use Rattle.im_check_operands.specs.declared.term.Term.{Term}
use Rattle.im_check_operands.specs.Answers.{IsMade}
use Rattle.im_check_operands.specs.Shape.{term_in}
use Rattle.im_check_declarators.specs.im_check_type_specifiers.declared.qualified.Qualified.{Qualified}
use Rattle.im_check_declarators.specs.im_check_type_specifiers.Specified.{qualified_of}
use Rattle.im_check_declarators.specs.Suffixes.{IsFault}
use Rattle.im_check_place.specs.declared.place.Place.{Place}
use Rattle.im_check_place.specs.Contexts.{context_of, behind_strings}
use Rattle.im_check_expression_parts.specs.Walked.{terms_in, IsTyped}
use Rattle.im_check_expression_parts.proofs.Places.{at_string, behind_none, both, structs_stay}
use Rattle.im_check_expression_parts.proofs.Made.{made, fault_of}
use Rattle.im_check_expression_parts.proofs.NoStrings.{none_called}
use Rattle.im_check_expression_parts.proofs.Within.{identifier_within, number_within, character_within, string_within, member_within, arrow_within, post_step_within, pre_step_within, unary_within, measured_within, type_size_within, index_within, binary_within, assign_within, comma_within, cast_within, conditional_within, call_within}

-- an expression is typed to this term, the place behind it is that one, and each size in it is within the limit
abbrev pub Read : Place → t.Expression → Term → Place → Type 0
Read p e x after = Typed (context_of p) e (term_in p.structs x) × (after ≡ behind_strings (strings_in e) p) × IsWithin (context_of p) (an_expression e)

abbrev pub NameRead : Place → t.TypeName → Qualified → Place → Type 0
NameRead p n q after = Names (context_of p) n (qualified_of q) × (after ≡ behind_strings (strings_named n) p) × IsWithin (context_of p) (a_type_name n)

made_at : (p : Place) {after : Place} {types : Table} {e : t.Expression} (asked : Table → List Demand) (z : Table → r.Term) (result : Result Term Stop)
    → after ≡ behind_strings (strings_in e) p
    → types ≡ after.structs
    → (Meets (asked p.structs) → Typed (context_of p) e (z p.structs))
    → ((rule : ℕ) → Refuses rule (asked p.structs) → Breaks (context_of p) rule (an_expression e))
    → IsWithin (context_of p) (an_expression e)
    → IsMade types (asked types) (z types) (first_token e) result
    → IsTyped p e after result
made_at p {after = after} {types = types} {e = e} asked z result q u typed breaks within m =
    let same : types ≡ p.structs = u ∙ structs_stay p (strings_in e) q in
    let m₁ : IsMade p.structs (asked p.structs) (z p.structs) (first_token e) result = subst (λ (w : Table). IsMade w (asked w) (z w) (first_token e) result) same m in
    made p after (asked p.structs) (z p.structs) result typed breaks q within m₁

-- what is read behind a part
pub second : (p : Place) {p₁ p₂ : Place} {e : t.Expression} (xs : List Name) (x : Term) → p₁ ≡ behind_strings xs p → Read p₁ e x p₂
    → Typed (k.behind_strings xs (context_of p)) e (term_in p.structs x) × (p₂ ≡ behind_strings (xs ++ strings_in e) p) × IsWithin (k.behind_strings xs (context_of p)) (an_expression e)
second p {e = e} xs x q h = (rw q at h.0, both p xs (strings_in e) q h.1, rw q at h.2)

pub second_fault : (p : Place) {p₁ : Place} {e f : t.Expression} (xs : List Name) → b.Part (context_of p) (an_expression f) (k.behind_strings xs (context_of p)) (an_expression e) → p₁ ≡ behind_strings xs p → (stop : Stop) → IsFault (context_of p₁) (an_expression e) stop → IsFault (context_of p) (an_expression f) stop
second_fault p xs part q stop h = fault_of part stop (rw q at h)

-- no part

pub name : (p : Place) (at : ℕ) (x : Name) (result : Result Term Stop)
    → IsMade p.structs (d.name_asks (context_of p) x) (c.called (meaning (scopes_of p.scope) x)) at result
    → IsTyped p (t.identifier at x) p result
name p at x result m = made p p (d.name_asks (context_of p) x) (c.called (meaning (scopes_of p.scope) x)) result y.of_identifier (λ rule. b.at_identifier) (sym (behind_none p)) identifier_within m

pub number : (p : Place) (at : ℕ) (n : Number) (w : Term) → term_in p.structs w ≡ r.value (c.literal (c.number_type n.number_type) (pos n.value)) → Read p (t.integer_constant at n) w p
number p at n w m = (subst (λ (z : r.Term). Typed (context_of p) (t.integer_constant at n) z) (sym m) y.of_number, sym (behind_none p), number_within)

pub character : (p : Place) (at n : ℕ) (w : Term) → term_in p.structs w ≡ r.value (c.literal Int (pos n)) → Read p (t.character_constant at n) w p
character p at n w m = (subst (λ (z : r.Term). Typed (context_of p) (t.character_constant at n) z) (sym m) y.of_character, sym (behind_none p), character_within)

pub string : (p : Place) {p₁ : Place} (at : ℕ) (s : Name) (w : Term) → term_in p.structs w ≡ c.string_term p.next_string s → p₁ ≡ record p { next_string = p.next_string + 1 } → length s + 1 ≤ size_limit → Read p (t.string_literal at s) w p₁
string p at s w m q fits =
    let one : p.next_string + 1 ≡ p.next_string + length (s ∷ []) = omega arith in
    (subst (λ (z : r.Term). Typed (context_of p) (t.string_literal at s) z) (sym m) y.of_string, q ∙ ap (λ n. at_string n p) one, string_within fits)

pub string_fault : (p : Place) (at : ℕ) (s : Name) (stop : Stop) → IsTooLarge (length s + 1) stop → IsFault (context_of p) (an_expression (t.string_literal at s)) stop
string_fault p at s (Rule rule token) h = absurd h
string_fault p at s (Large bytes) h = (subst (λ n. Sized (context_of p) (an_expression (t.string_literal at s)) n) (sym h.0) (size_here of_string), h.1)
string_fault p at s Memory h = tt

-- one part

pub member : (p : Place) {p₁ : Place} {types : Table} (at : ℕ) (n : Name) {a : t.Expression} (x : Term) (result : Result Term Stop) → Read p a x p₁ → types ≡ p₁.structs
    → IsMade types (d.dot_asks (structs_of types) (term_in types x) n) (c.dotted (structs_of types) (term_in types x) n) at result
    → IsTyped p (t.member_of at a n) p₁ result
member p at n x result h u m = made_at p (λ w. d.dot_asks (structs_of w) (term_in w x) n) (λ w. c.dotted (structs_of w) (term_in w x) n) result h.1 u (y.of_member h.0) (λ rule. b.at_member h.0) (member_within h.2) m

pub arrow : (p : Place) {p₁ : Place} {types : Table} (at : ℕ) (n : Name) {a : t.Expression} (x : Term) (result : Result Term Stop) → Read p a x p₁ → types ≡ p₁.structs
    → IsMade types (d.arrow_asks (structs_of types) (term_in types x) n) (c.arrowed (structs_of types) (r.value_of (structs_of types) (term_in types x)) n) at result
    → IsTyped p (t.arrow_to at a n) p₁ result
arrow p at n x result h u m = made_at p (λ w. d.arrow_asks (structs_of w) (term_in w x) n) (λ w. c.arrowed (structs_of w) (r.value_of (structs_of w) (term_in w x)) n) result h.1 u (y.of_arrow h.0) (λ rule. b.at_arrow h.0) (arrow_within h.2) m

pub post_step : (p : Place) {p₁ : Place} {types : Table} (at : ℕ) (op : StepOp) {a : t.Expression} (x : Term) (result : Result Term Stop) → Read p a x p₁ → types ≡ p₁.structs
    → IsMade types (d.step_asks (structs_of types) (term_in types x)) (r.value (c.stepped (structs_of types) op true (term_in types x))) at result
    → IsTyped p (t.post_step at op a) p₁ result
post_step p at op x result h u m = made_at p (λ w. d.step_asks (structs_of w) (term_in w x)) (λ w. r.value (c.stepped (structs_of w) op true (term_in w x))) result h.1 u (y.of_post_step h.0) (λ rule. b.at_post_step h.0) (post_step_within h.2) m

pub pre_step : (p : Place) {p₁ : Place} {types : Table} (at : ℕ) (op : StepOp) {a : t.Expression} (x : Term) (result : Result Term Stop) → Read p a x p₁ → types ≡ p₁.structs
    → IsMade types (d.step_asks (structs_of types) (term_in types x)) (r.value (c.stepped (structs_of types) op false (term_in types x))) at result
    → IsTyped p (t.pre_step at op a) p₁ result
pre_step p at op x result h u m = made_at p (λ w. d.step_asks (structs_of w) (term_in w x)) (λ w. r.value (c.stepped (structs_of w) op false (term_in w x))) result h.1 u (y.of_pre_step h.0) (λ rule. b.at_pre_step h.0) (pre_step_within h.2) m

pub unary : (p : Place) {p₁ : Place} {types : Table} (at : ℕ) (op : UnaryOp) {a : t.Expression} (x : Term) (result : Result Term Stop) → Read p a x p₁ → types ≡ p₁.structs
    → IsMade types (d.unary_asks (structs_of types) op (term_in types x)) (c.unary_term (structs_of types) op (term_in types x)) at result
    → IsTyped p (t.unary at op a) p₁ result
unary p at op x result h u m = made_at p (λ w. d.unary_asks (structs_of w) op (term_in w x)) (λ w. c.unary_term (structs_of w) op (term_in w x)) result h.1 u (y.of_unary h.0) (λ rule. b.at_unary h.0) (unary_within h.2) m

pub size : (p : Place) {p₁ : Place} {types : Table} (at : ℕ) {a : t.Expression} (x : Term) (result : Result Term Stop) → Read p a x p₁ → types ≡ p₁.structs
    → IsMade types (d.size_asks (structs_of types) (r.type_in (term_in types x))) (r.value (c.measured (structs_of types) (r.type_in (term_in types x)))) at result
    → IsTyped p (t.size_of_expression at a) p₁ result
size p at x result h u m = made_at p (λ w. d.size_asks (structs_of w) (r.type_in (term_in w x))) (λ w. r.value (c.measured (structs_of w) (r.type_in (term_in w x)))) result h.1 u (y.of_size h.0) (λ rule. b.at_size h.0) (measured_within h.2) m

pub type_size : (p : Place) {p₁ : Place} {types : Table} (at : ℕ) {n : t.TypeName} (q : Qualified) (result : Result Term Stop) → NameRead p n q p₁ → types ≡ p₁.structs
    → IsMade types (d.size_asks (structs_of types) (type_of q.ty)) (r.value (c.measured (structs_of types) (type_of q.ty))) at result
    → IsTyped p (t.size_of_type at n) p₁ result
type_size p at q result h u m = made_at p (λ w. d.size_asks (structs_of w) (type_of q.ty)) (λ w. r.value (c.measured (structs_of w) (type_of q.ty))) result h.1 u (y.of_type_size h.0) (λ rule. b.at_type_size h.0) (type_size_within h.2) m

-- two parts

pub index : (p : Place) {p₁ p₂ : Place} {types : Table} (at : ℕ) {a e : t.Expression} (x z : Term) (result : Result Term Stop) → Read p a x p₁ → Read p₁ e z p₂ → types ≡ p₂.structs
    → IsMade types (d.index_asks (structs_of types) (term_in types x) (term_in types z)) (c.pointed (c.sum (structs_of types) (r.value_of (structs_of types) (term_in types x)) (r.value_of (structs_of types) (term_in types z)))) at result
    → IsTyped p (t.index at a e) p₂ result
index p at {a = a} x z result h j u m =
    let j₁ = second p (strings_in a) z h.1 j in
    made_at p (λ w. d.index_asks (structs_of w) (term_in w x) (term_in w z)) (λ w. c.pointed (c.sum (structs_of w) (r.value_of (structs_of w) (term_in w x)) (r.value_of (structs_of w) (term_in w z)))) result j₁.1 u (y.of_index h.0 j₁.0) (λ rule. b.at_index h.0 j₁.0) (index_within h.2 j₁.2) m

pub binary : (p : Place) {p₁ p₂ : Place} {types : Table} (at : ℕ) (op : BinaryOp) {a e : t.Expression} (x z : Term) (result : Result Term Stop) → Read p a x p₁ → Read p₁ e z p₂ → types ≡ p₂.structs
    → IsMade types (d.binary_asks (structs_of types) op (term_in types x) (term_in types z)) (r.value (c.operation (structs_of types) op (r.value_of (structs_of types) (term_in types x)) (r.value_of (structs_of types) (term_in types z)))) at result
    → IsTyped p (t.binary at op a e) p₂ result
binary p at op {a = a} x z result h j u m =
    let j₁ = second p (strings_in a) z h.1 j in
    made_at p (λ w. d.binary_asks (structs_of w) op (term_in w x) (term_in w z)) (λ w. r.value (c.operation (structs_of w) op (r.value_of (structs_of w) (term_in w x)) (r.value_of (structs_of w) (term_in w z)))) result j₁.1 u (y.of_binary h.0 j₁.0) (λ rule. b.at_binary h.0 j₁.0) (binary_within h.2 j₁.2) m

pub assign : (p : Place) {p₁ p₂ : Place} {types : Table} (at : ℕ) (op : AssignOp) {a e : t.Expression} (x z : Term) (result : Result Term Stop) → Read p a x p₁ → Read p₁ e z p₂ → types ≡ p₂.structs
    → IsMade types (d.assign_asks (structs_of types) op (term_in types x) (term_in types z)) (r.value (c.assigned (structs_of types) op (term_in types x) (r.value_of (structs_of types) (term_in types z)))) at result
    → IsTyped p (t.assign at op a e) p₂ result
assign p at op {a = a} x z result h j u m =
    let j₁ = second p (strings_in a) z h.1 j in
    made_at p (λ w. d.assign_asks (structs_of w) op (term_in w x) (term_in w z)) (λ w. r.value (c.assigned (structs_of w) op (term_in w x) (r.value_of (structs_of w) (term_in w z)))) result j₁.1 u (y.of_assign h.0 j₁.0) (λ rule. b.at_assign h.0 j₁.0) (assign_within h.2 j₁.2) m

pub cast : (p : Place) {p₁ p₂ : Place} {types : Table} (at : ℕ) {n : t.TypeName} {e : t.Expression} (q : Qualified) (z : Term) (result : Result Term Stop) → NameRead p n q p₁ → Read p₁ e z p₂ → types ≡ p₂.structs
    → IsMade types (d.cast_asks (type_of q.ty) (term_in types z)) (r.value (c.casted (type_of q.ty) (r.value_of (structs_of types) (term_in types z)))) at result
    → IsTyped p (t.cast at n e) p₂ result
cast p at {n = n} q z result h j u m =
    let j₁ = second p (strings_named n) z h.1 j in
    made_at p (λ w. d.cast_asks (type_of q.ty) (term_in w z)) (λ w. r.value (c.casted (type_of q.ty) (r.value_of (structs_of w) (term_in w z)))) result j₁.1 u (y.of_cast h.0 j₁.0) (λ rule. b.at_cast h.0 j₁.0) (cast_within h.2 j₁.2) m

-- of a comma nothing is asked
pub comma : (p : Place) {p₁ p₂ : Place} {types : Table} (at : ℕ) {a e : t.Expression} (x z w : Term) → Read p a x p₁ → Read p₁ e z p₂ → types ≡ p₂.structs
    → term_in types w ≡ r.value (c.joined (r.value_of (structs_of types) (term_in types x)) (r.value_of (structs_of types) (term_in types z)))
    → Read p (t.comma at a e) w p₂
comma p {types = types} at {a = a} {e = e} x z w h j u m =
    let j₁ = second p (strings_in a) z h.1 j in
    let same : types ≡ p.structs = u ∙ structs_stay p (strings_in a ++ strings_in e) j₁.1 in
    let m₁ : term_in p.structs w ≡ r.value (c.joined (r.value_of (structs_of p.structs) (term_in p.structs x)) (r.value_of (structs_of p.structs) (term_in p.structs z))) = subst (λ (v : Table). term_in v w ≡ r.value (c.joined (r.value_of (structs_of v) (term_in v x)) (r.value_of (structs_of v) (term_in v z)))) same m in
    (subst (λ (v : r.Term). Typed (context_of p) (t.comma at a e) v) (sym m₁) (y.of_comma h.0 j₁.0), j₁.1, comma_within h.2 j₁.2)

-- three parts

pub third : (p : Place) {p₁ p₂ p₃ : Place} {e : t.Expression} (xs ys : List Name) (x : Term) → p₁ ≡ behind_strings xs p → p₂ ≡ behind_strings ys p₁ → Read p₂ e x p₃
    → Typed (k.behind_strings ys (k.behind_strings xs (context_of p))) e (term_in p.structs x) × (p₃ ≡ behind_strings (xs ++ (ys ++ strings_in e)) p) × IsWithin (k.behind_strings ys (k.behind_strings xs (context_of p))) (an_expression e)
third p {p₁ = p₁} {e = e} xs ys x q f h = (rw (f, q) at h.0, both p xs (ys ++ strings_in e) q (both p₁ ys (strings_in e) f h.1), rw (f, q) at h.2)

pub conditional : (p : Place) {p₁ p₂ p₃ : Place} {types : Table} (at : ℕ) {s a e : t.Expression} (v x z : Term) (result : Result Term Stop) → Read p s v p₁ → Read p₁ a x p₂ → Read p₂ e z p₃ → types ≡ p₃.structs
    → IsMade types (d.conditional_asks (term_in types v) (term_in types x) (term_in types z)) (r.value (c.chosen (structs_of types) (r.value_of (structs_of types) (term_in types v)) (r.value_of (structs_of types) (term_in types x)) (r.value_of (structs_of types) (term_in types z)))) at result
    → IsTyped p (t.conditional at s a e) p₃ result
conditional p at {s = s} {a = a} v x z result g h j u m =
    let h₁ = second p (strings_in s) x g.1 h in
    let j₁ = third p (strings_in s) (strings_in a) z g.1 h.1 j in
    made_at p (λ w. d.conditional_asks (term_in w v) (term_in w x) (term_in w z)) (λ w. r.value (c.chosen (structs_of w) (r.value_of (structs_of w) (term_in w v)) (r.value_of (structs_of w) (term_in w x)) (r.value_of (structs_of w) (term_in w z)))) result j₁.1 u (y.of_conditional g.0 h₁.0 j₁.0) (λ rule. b.at_conditional g.0 h₁.0 j₁.0) (conditional_within g.2 h₁.2 j₁.2) m

pub third_fault : (p : Place) {p₁ p₂ : Place} {e f : t.Expression} (xs ys : List Name) → b.Part (context_of p) (an_expression f) (k.behind_strings ys (k.behind_strings xs (context_of p))) (an_expression e) → p₁ ≡ behind_strings xs p → p₂ ≡ behind_strings ys p₁ → (stop : Stop) → IsFault (context_of p₂) (an_expression e) stop → IsFault (context_of p) (an_expression f) stop
third_fault p xs ys part q f stop h = fault_of part stop (rw (f, q) at h)

-- calls; a function's name has no string literal

abbrev pub AllRead : Place → t.Expressions → List Term → Place → Type 0
AllRead p es xs after = AreTyped (context_of p) es (terms_in p.structs xs) × (after ≡ behind_strings (strings_among es) p) × IsWithin (context_of p) (some_expressions es)

context_none : (s : k.Context) → k.behind_strings [] s ≡ s
context_none s =
    let e : s.next_string + 0 ≡ s.next_string = omega arith in
    ap (λ n. record s { next_string = n }) e

pub call : (p : Place) {p₁ : Place} (at : ℕ) (f : t.Expression) (es : t.Expressions) (xs : List Term) (result : Result Term Stop)
    → d.is_function_meant (d.callee_of (scopes_of p.scope) f) ≡ true
    → AllRead p es xs p₁
    → IsMade p₁.structs (d.call_asks (d.callee_of (scopes_of p₁.scope) f) (terms_in p₁.structs xs)) (r.value (c.call_of (structs_of p₁.structs) (d.callee_of (scopes_of p₁.scope) f) (terms_in p₁.structs xs))) at result
    → IsTyped p (t.call at f es) p₁ result
call p {p₁ = p₁} at f es xs result g h m =
    let none : strings_in f ≡ [] = none_called (scopes_of p.scope) f g in
    let here : k.behind f (context_of p) ≡ context_of p = ap (λ zs. k.behind_strings zs (context_of p)) none ∙ context_none (context_of p) in
    let typed : AreTyped (k.behind f (context_of p)) es (terms_in p.structs xs) = subst (λ (s : k.Context). AreTyped s es (terms_in p.structs xs)) (sym here) h.0 in
    let within : IsWithin (k.behind f (context_of p)) (some_expressions es) = subst (λ (s : k.Context). IsWithin s (some_expressions es)) (sym here) h.2 in
    let q : p₁ ≡ behind_strings (strings_in f ++ strings_among es) p = h.1 ∙ ap (λ zs. behind_strings (zs ++ strings_among es) p) (sym none) in
    let m₁ : IsMade p.structs (d.call_asks (d.callee_of (scopes_of p.scope) f) (terms_in p.structs xs)) (r.value (c.call_of (structs_of p.structs) (d.callee_of (scopes_of p.scope) f) (terms_in p.structs xs))) at result = subst (λ (j : Place). IsMade j.structs (d.call_asks (d.callee_of (scopes_of j.scope) f) (terms_in j.structs xs)) (r.value (c.call_of (structs_of j.structs) (d.callee_of (scopes_of j.scope) f) (terms_in j.structs xs))) at result) h.1 m in
    made p p₁ (d.call_asks (d.callee_of (scopes_of p.scope) f) (terms_in p.structs xs)) (r.value (c.call_of (structs_of p.structs) (d.callee_of (scopes_of p.scope) f) (terms_in p.structs xs))) result (y.of_call g typed) (λ rule. b.at_call g typed) q (call_within g within) m₁

pub call_fault : (p : Place) (at : ℕ) (f : t.Expression) (es : t.Expressions) (stop : Stop)
    → d.is_function_meant (d.callee_of (scopes_of p.scope) f) ≡ true
    → IsFault (context_of p) (some_expressions es) stop
    → IsFault (context_of p) (an_expression (t.call at f es)) stop
call_fault p at f es stop g h =
    let none : strings_in f ≡ [] = none_called (scopes_of p.scope) f g in
    let here : k.behind f (context_of p) ≡ context_of p = ap (λ zs. k.behind_strings zs (context_of p)) none ∙ context_none (context_of p) in
    let h₁ : IsFault (k.behind f (context_of p)) (some_expressions es) stop = subst (λ (s : k.Context). IsFault s (some_expressions es) stop) (sym here) h in
    fault_of b.arguments stop h₁

-- what is called is no function's name

pub callee_fault : (p : Place) (at : ℕ) (f : t.Expression) (es : t.Expressions) (stop : Stop)
    → d.is_function_meant (d.callee_of (scopes_of p.scope) f) ≡ false
    → IsFault (context_of p) (an_expression f) stop
    → IsFault (context_of p) (an_expression (t.call at f es)) stop
callee_fault p at f es stop g h = fault_of (b.callee g) stop h

pub arguments_fault : (p : Place) {p₁ : Place} (at : ℕ) (f : t.Expression) (es : t.Expressions) (stop : Stop)
    → p₁ ≡ behind_strings (strings_in f) p
    → IsFault (context_of p₁) (some_expressions es) stop
    → IsFault (context_of p) (an_expression (t.call at f es)) stop
arguments_fault p at f es stop q h = fault_of b.arguments stop (rw q at h)

pub uncalled : (p : Place) {p₁ p₂ : Place} (at : ℕ) (f : t.Expression) (es : t.Expressions) (x : Term) (xs : List Term)
    → d.is_function_meant (d.callee_of (scopes_of p.scope) f) ≡ false
    → Read p f x p₁
    → AllRead p₁ es xs p₂
    → IsFault (context_of p) (an_expression (t.call at f es)) (Rule 19 at)
uncalled p at f es x xs g h j =
    let typed : AreTyped (k.behind f (context_of p)) es (terms_in p.structs xs) = rw h.1 at j.0 in
    b.here (b.at_callee g h.0 typed refl)
