-- Whatever words derive a declaration, a statement or a unit, the printed words derive it again.
use Rattle.std.proofs.Common.{ℕ, suc, ◌+◌, ◌<◌, Bool, false, List, [], ◌∷◌, ◌++◌, length, sym, subst, refl, ◌∙◌, arith, append_assoc, append-nil, length-append}
use Rattle.im_tok.specs.declared.keyword.Keyword.TheVariants.{If, Else, While}
use Rattle.im_tok.specs.declared.punctuator.Punctuator.TheVariants.{OpenParen, CloseParen, OpenBrace, CloseBrace, Colon, Semicolon, Comma}
use Rattle.im_word.specs.Words.{Name, Word, name, keyword, mark}
use Rattle.im_ctree.specs.Typedefs.{has_type, typedef_names, names_behind, names_behind_init, names_behind_external}
use Rattle.im_ctree.specs.Tree as t
use Rattle.im_ctree.specs.Grammar as g
use Rattle.im_ctree.specs.Units as n
use Rattle.im_print_relation.specs.Printed as w
use Rattle.im_print_relation.specs.Unnumbered as bare
use Rattle.im_print_relation.specs.Fit.{AreFit}
use Rattle.im_print_relation.specs.Again.{IsSpelledAgain}
use Rattle.im_print_relation.proofs.Fit.{fit_append, fit_left, fit_right, fit_inner, fit_closed, Printed}
use Rattle.im_print_relation.proofs.Bare.{has_again, declaration_again, init_again, statement_again, external_again, takes_again}
use Rattle.im_print_relation.proofs.Nodes.{in_expression, in_assignment, in_conditional}
use Rattle.im_print_relation.proofs.Declarators.{assembled, first_printed, first_free}
use Rattle.im_print_relation.proofs.Expressions.{prints_expression, prints_assignment, prints_choice, prints_specifiers, parts_of}

mutual
  prints_initializer : {T : List Name} {p : ℕ} {i : t.Initializer} {u : List Word} → n.IsInitializer T p i u → AreFit u → Printed bare.initializer (n.IsInitializer T) i (w.initializer T i)
  prints_initializer (n.a_value x) f = let a = in_assignment _ _ (prints_assignment x f) in record { fit = a.fit; derives = λ q. let y = a.derives q in (t.value_initializer y.0, cc y.1, n.a_value y.2) }
  prints_initializer {T = T} (n.braced {x = x} {xs = xs} {u = u} {v = v} one rest) f =
      let r = fit_right u (v ++ (mark CloseBrace ∷ [])) f.1 in
      let a = prints_initializer one (fit_left u (v ++ (mark CloseBrace ∷ [])) f.1) in
      let b = prints_initializer_tail rest (fit_inner v (mark CloseBrace) r) in
      let a' = w.initializer T x in
      let b' = w.initializer_tail T xs in
      record {
        fit = (tt, fit_closed (a' ++ b') (mark CloseBrace) tt (fit_append a' b' a.fit b.fit));
        derives = λ q. let y = a.derives (suc q) in let z = b.derives (suc q + length a') in (
          t.braced_initializer q (t.more_initializers y.0 z.0),
          cc (y.1, z.1),
          subst (λ k. n.IsInitializer T q (t.braced_initializer q (t.more_initializers y.0 z.0)) (mark OpenBrace ∷ k)) (sym (append_assoc a' b' (mark CloseBrace ∷ []))) (n.braced y.2 z.2),
        );
      }

  prints_initializer_tail : {T : List Name} {p : ℕ} {xs : t.Initializers} {u : List Word} → n.InitializerTail T p xs u → AreFit u → Printed bare.initializers (n.InitializerTail T) xs (w.initializer_tail T xs)
  prints_initializer_tail n.last_initializer f = record { fit = tt; derives = λ q. (t.no_initializers, refl, n.last_initializer) }
  prints_initializer_tail n.last_comma f = record { fit = tt; derives = λ q. (t.no_initializers, refl, n.last_initializer) }
  prints_initializer_tail {T = T} (n.next_initializer {x = x} {xs = xs} {u = u} {v = v} one rest) f =
      let a = prints_initializer one (fit_left u v f.1) in
      let b = prints_initializer_tail rest (fit_right u v f.1) in
      record {
        fit = (tt, fit_append (w.initializer T x) (w.initializer_tail T xs) a.fit b.fit);
        derives = λ q. let y = a.derives (suc q) in let z = b.derives (suc q + length (w.initializer T x)) in (t.more_initializers y.0 z.0, cc (y.1, z.1), n.next_initializer y.2 z.2);
      }

prints_maybe_initializer : {T : List Name} {p : ℕ} {i : t.MaybeInitializer} {u : List Word} → n.IsMaybeInitializer T p i u → AreFit u → Printed bare.maybe_initializer (n.IsMaybeInitializer T) i (w.maybe_initializer T i)
prints_maybe_initializer n.not_initialized f = record { fit = tt; derives = λ q. (t.no_initializer, refl, n.not_initialized) }
prints_maybe_initializer (n.initialized x) f = let a = prints_initializer x f.1 in record { fit = (tt, a.fit); derives = λ q. let y = a.derives (suc q) in (t.an_initializer y.0, cc y.1, n.initialized y.2) }

-- what stands behind the first declarator and its initialiser
data InitTail (T : List Name) : ℕ → t.InitDeclarators → List Word → Type 0 where
  no_tail : {p : ℕ} → InitTail T p t.no_init_declarators []
  a_tail : {p : ℕ} {ds : t.InitDeclarators} {u : List Word} → n.IsInitDeclarators T (suc p) ds u → InitTail T p ds (mark Comma ∷ u)

with_tail : {T : List Name} {p : ℕ} {d : t.Declarator} {i : t.MaybeInitializer} {ds : t.InitDeclarators} {u v k : List Word} → g.IsDeclarator T false p d u → n.IsMaybeInitializer T (p + length u) i v → InitTail T (p + length u + length v) ds k → n.IsInitDeclarators T p (t.more_init_declarators d i ds) (u ++ (v ++ k))
with_tail {T = T} {p = p} {d = d} {i = i} {u = u} {v = v} x y no_tail =
    subst (λ z. n.IsInitDeclarators T p (t.more_init_declarators d i t.no_init_declarators) (u ++ z)) (sym (append-nil v)) (n.last_declarator x y)
with_tail x y (a_tail rest) = n.next_declarator x y rest

prints_init_tail : {T : List Name} {p : ℕ} {ds : t.InitDeclarators} {u : List Word} → n.IsInitDeclarators T p ds u → AreFit u → Printed bare.init_declarators (InitTail T) ds (w.init_declarator_tail T ds)
prints_init_tail {T = T} (n.last_declarator {d = d} {i = i} {u = u} {v = v} x y) f =
    let a = assembled (parts_of x (fit_left u v f)) in
    let b = prints_maybe_initializer y (fit_right u v f) in
    let a' = w.declarator T d in
    let b' = w.maybe_initializer T i in
    record {
      fit = (tt, fit_append a' (b' ++ []) a.fit (fit_append b' [] b.fit tt));
      derives = λ q. let k = a.derives (suc q) in let z = b.derives (suc q + length a') in (t.more_init_declarators k.0 z.0 t.no_init_declarators, cc (k.1, z.1), a_tail (with_tail k.2 z.2 no_tail));
    }
prints_init_tail {T = T} (n.next_declarator {d = d} {i = i} {ds = ds} {u = u} {v = v} {w = x'} x y rest) f =
    let r = fit_right u (v ++ (mark Comma ∷ x')) f in
    let a = assembled (parts_of x (fit_left u (v ++ (mark Comma ∷ x')) f)) in
    let b = prints_maybe_initializer y (fit_left v (mark Comma ∷ x') r) in
    let c = prints_init_tail rest (fit_right v (mark Comma ∷ x') r).1 in
    let a' = w.declarator T d in
    let b' = w.maybe_initializer T i in
    let c' = w.init_declarator_tail T ds in
    record {
      fit = (tt, fit_append a' (b' ++ c') a.fit (fit_append b' c' b.fit c.fit));
      derives = λ q. let k = a.derives (suc q) in let z = b.derives (suc q + length a') in let h = c.derives (suc q + length a' + length b') in
          (t.more_init_declarators k.0 z.0 h.0, cc (k.1, z.1, h.1), a_tail (with_tail k.2 z.2 h.2));
    }

-- the declarators behind specifiers of which the Bool says whether a type stands in them
prints_inits : {T : List Name} {p : ℕ} {ds : t.InitDeclarators} {u : List Word} (typed : Bool) → n.IsInitDeclarators T p ds u → AreFit u → Printed bare.init_declarators (n.IsInitDeclarators T) ds (w.init_declarators T typed ds)
prints_inits {T = T} typed (n.last_declarator {d = d} {i = i} {u = u} {v = v} x y) f =
    let a = first_printed typed d (parts_of x (fit_left u v f)) in
    let b = prints_maybe_initializer y (fit_right u v f) in
    let a' = w.behind_specifiers T typed d (w.declarator T d) in
    let b' = w.maybe_initializer T i in
    record {
      fit = fit_append a' (b' ++ []) a.fit (fit_append b' [] b.fit tt);
      derives = λ q. let k = a.derives q in let z = b.derives (q + length a') in (t.more_init_declarators k.0 z.0 t.no_init_declarators, cc (k.1, z.1), with_tail k.2 z.2 no_tail);
    }
prints_inits {T = T} typed (n.next_declarator {d = d} {i = i} {ds = ds} {u = u} {v = v} {w = x'} x y rest) f =
    let r = fit_right u (v ++ (mark Comma ∷ x')) f in
    let a = first_printed typed d (parts_of x (fit_left u (v ++ (mark Comma ∷ x')) f)) in
    let b = prints_maybe_initializer y (fit_left v (mark Comma ∷ x') r) in
    let c = prints_init_tail rest (fit_right v (mark Comma ∷ x') r).1 in
    let a' = w.behind_specifiers T typed d (w.declarator T d) in
    let b' = w.maybe_initializer T i in
    let c' = w.init_declarator_tail T ds in
    record {
      fit = fit_append a' (b' ++ c') a.fit (fit_append b' c' b.fit c.fit);
      derives = λ q. let k = a.derives q in let z = b.derives (q + length a') in let h = c.derives (q + length a' + length b') in
          (t.more_init_declarators k.0 z.0 h.0, cc (k.1, z.1, h.1), with_tail k.2 z.2 h.2);
    }

-- the words of the first declarator, and more behind them, don't go on with the specifiers
goes_front : {T : List Name} {a : Bool} (u v : List Word) → 0 < length u → g.GoesOnSpecifiers T a (u ++ v) → g.GoesOnSpecifiers T a u
goes_front [] v some o = absurd (omega (arith, some))
goes_front (x ∷ u) v some (g.a_typedef_name is) = g.a_typedef_name is

some_words : {T : List Name} {guarded : Bool} {p : ℕ} {d : t.Declarator} {u : List Word} → g.IsDeclarator T guarded p d u → 0 < length u
some_words (g.a_name m {u = u} {v = v} st ts) = omega (arith, length-append u (name m ∷ v))
some_words (g.an_inner {u = u} {v = v} {w = k} st d none ts) = omega (arith, length-append u (mark OpenParen ∷ (v ++ (mark CloseParen ∷ k))))

inits_free : {T : List Name} {p : ℕ} {ds : t.InitDeclarators} {u : List Word} (typed : Bool) → n.IsInitDeclarators T p ds u → AreFit u → g.GoesOnSpecifiers T typed (w.init_declarators T typed ds) → ⊥
inits_free {T = T} typed (n.last_declarator {d = d} {i = i} {u = u} {v = v} x y) f o =
    let parts = parts_of x (fit_left u v f) in
    first_free typed d parts (goes_front (w.behind_specifiers T typed d (w.declarator T d)) (w.maybe_initializer T i ++ []) (some_words ((first_printed typed d parts).derives 0).2) o)
inits_free {T = T} typed (n.next_declarator {d = d} {i = i} {ds = ds} {u = u} {v = v} {w = x'} x y rest) f o =
    let parts = parts_of x (fit_left u (v ++ (mark Comma ∷ x')) f) in
    first_free typed d parts (goes_front (w.behind_specifiers T typed d (w.declarator T d)) (w.maybe_initializer T i ++ w.init_declarator_tail T ds) (some_words ((first_printed typed d parts).derives 0).2) o)

prints_declaration : {T : List Name} {p : ℕ} {d : t.Declaration} {u : List Word} → n.IsDeclaration T p d u → AreFit u → Printed bare.declaration (n.IsDeclaration T) d (w.declaration T d)
prints_declaration {T = T} (n.declares_none {s = s} {u = u} x) f =
    let a = prints_specifiers x (fit_inner u (mark Semicolon) f) in
    record { fit = fit_closed (w.specifiers T s) (mark Semicolon) tt a.fit; derives = λ q. let y = a.derives q in (t.declaration y.0 t.no_init_declarators, cc y.1, n.declares_none y.2) }
prints_declaration {T = T} (n.declares {s = s} {ds = ds} {u = u} {v = v} x free y) f =
    let r = fit_inner v (mark Semicolon) (fit_right u (v ++ (mark Semicolon ∷ [])) f) in
    let a = prints_specifiers x (fit_left u (v ++ (mark Semicolon ∷ [])) f) in
    let b = prints_inits (has_type s) y r in
    let a' = w.specifiers T s in
    let b' = w.init_declarators T (has_type s) ds in
    record {
      fit = fit_append a' (b' ++ (mark Semicolon ∷ [])) a.fit (fit_closed b' (mark Semicolon) tt b.fit);
      derives = λ q. let k = a.derives q in let z = b.derives (q + length a') in (
        t.declaration k.0 z.0,
        cc (k.1, z.1),
        n.declares k.2 (subst (λ h. g.GoesOnSpecifiers T h b' → ⊥) (sym (has_again s k.0 k.1)) (inits_free (has_type s) y r)) z.2,
      );
    }

prints_maybe : {T : List Name} {p : ℕ} {e : t.MaybeExpression} {u : List Word} → n.IsMaybeExpression T p e u → AreFit u → Printed bare.maybe_expression (n.IsMaybeExpression T) e (w.maybe_expression T e)
prints_maybe n.nothing f = record { fit = tt; derives = λ q. (t.no_expression, refl, n.nothing) }
prints_maybe (n.something x) f = let a = in_expression _ _ (prints_expression x f) in record { fit = a.fit; derives = λ q. let y = a.derives q in (t.an_expression y.0, cc y.1, n.something y.2) }

prints_for_init : {T : List Name} {p : ℕ} {i : t.ForInit} {u : List Word} → n.IsForInit T p i u → AreFit u → Printed bare.for_init (n.IsForInit T) i (w.for_init T i)
prints_for_init (n.begins_with_declaration x) f = let a = prints_declaration x f in record { fit = a.fit; derives = λ q. let y = a.derives q in (t.for_declaration y.0, cc y.1, n.begins_with_declaration y.2) }
prints_for_init {T = T} (n.begins_with_expression {e = e} {u = u} x) f =
    let a = prints_maybe x (fit_inner u (mark Semicolon) f) in
    record { fit = fit_closed (w.maybe_expression T e) (mark Semicolon) tt a.fit; derives = λ q. let y = a.derives q in (t.for_expression y.0, cc y.1, n.begins_with_expression y.2) }

mutual
  prints_block : {T : List Name} {p : ℕ} {b : t.Block} {u : List Word} → n.IsBlock T p b u → AreFit u → Printed bare.block (n.IsBlock T) b (w.block T b)
  prints_block {T = T} (n.a_block {is = is} {u = u} x) f =
      let a = prints_items x (fit_inner u (mark CloseBrace) f.1) in
      record { fit = (tt, fit_closed (w.items T is) (mark CloseBrace) tt a.fit); derives = λ q. let y = a.derives (suc q) in (t.block q y.0, cc y.1, n.a_block y.2) }

  prints_items : {T : List Name} {p : ℕ} {is : t.BlockItems} {u : List Word} → n.IsBlockItems T p is u → AreFit u → Printed bare.items (n.IsBlockItems T) is (w.items T is)
  prints_items n.no_item f = record { fit = tt; derives = λ q. (t.no_items, refl, n.no_item) }
  prints_items {T = T} (n.next_declaration {d = d} {is = is} {u = u} {v = v} x rest) f =
      let a = prints_declaration x (fit_left u v f) in
      let b = prints_items rest (fit_right u v f) in
      let a' = w.declaration T d in
      let b' = w.items (typedef_names T d) is in
      record {
        fit = fit_append a' b' a.fit b.fit;
        derives = λ q. let y = a.derives q in let z = b.derives (q + length a') in
            (t.declaration_item y.0 z.0, cc (y.1, z.1), n.next_declaration y.2 (subst (λ k. n.IsBlockItems k (q + length a') z.0 b') (sym (declaration_again T d y.0 y.1)) z.2));
      }
  prints_items {T = T} (n.next_statement {s = s} {is = is} {u = u} {v = v} x rest) f =
      let a = prints_statement x (fit_left u v f) in
      let b = prints_items rest (fit_right u v f) in
      let a' = w.statement T s in
      let b' = w.items (names_behind T s) is in
      record {
        fit = fit_append a' b' a.fit b.fit;
        derives = λ q. let y = a.derives q in let z = b.derives (q + length a') in
            (t.statement_item y.0 z.0, cc (y.1, z.1), n.next_statement y.2 (subst (λ k. n.IsBlockItems k (q + length a') z.0 b') (sym (statement_again T s y.0 y.1)) z.2));
      }

  prints_statement : {T : List Name} {p : ℕ} {s : t.Statement} {u : List Word} → n.IsStatement T p s u → AreFit u → Printed bare.statement (n.IsStatement T) s (w.statement T s)
  prints_statement (n.blocks x) f = let a = prints_block x f in record { fit = a.fit; derives = λ q. let y = a.derives q in (t.block_statement q y.0, cc y.1, n.blocks y.2) }
  prints_statement {T = T} (n.computes {e = e} {u = u} x) f =
      let a = prints_maybe x (fit_inner u (mark Semicolon) f) in
      record { fit = fit_closed (w.maybe_expression T e) (mark Semicolon) tt a.fit; derives = λ q. let y = a.derives q in (t.expression_statement q y.0, cc y.1, n.computes y.2) }
  prints_statement {T = T} (n.ifs {e = e} {s = s} {u = u} {v = v} x y) f =
      let a = in_expression _ _ (prints_expression x (fit_left u (mark CloseParen ∷ v) f.1.1)) in
      let b = prints_statement y (fit_right u (mark CloseParen ∷ v) f.1.1).1 in
      let a' = w.expression T e in
      let b' = w.statement T s in
      record {
        fit = (tt, (tt, fit_append a' (mark CloseParen ∷ (b' ++ [])) a.fit (tt, fit_append b' [] b.fit tt)));
        derives = λ q. let k = a.derives (suc (suc q)) in let z = b.derives (suc (suc (suc q) + length a')) in (
          t.if_statement q k.0 z.0 t.no_statement,
          cc (k.1, z.1),
          subst (λ h. n.IsStatement T q (t.if_statement q k.0 z.0 t.no_statement) (keyword If ∷ mark OpenParen ∷ (a' ++ (mark CloseParen ∷ h)))) (sym (append-nil b')) (n.ifs k.2 z.2),
        );
      }
  prints_statement {T = T} (n.if_elses {e = e} {s = s} {t = o} {u = u} {v = v} {w = x'} x y takes r) f =
      let f1 = (fit_right u (mark CloseParen ∷ (v ++ (keyword Else ∷ x'))) f.1.1).1 in
      let a = in_expression _ _ (prints_expression x (fit_left u (mark CloseParen ∷ (v ++ (keyword Else ∷ x'))) f.1.1)) in
      let b = prints_statement y (fit_left v (keyword Else ∷ x') f1) in
      let c = prints_statement r (fit_right v (keyword Else ∷ x') f1).1 in
      let a' = w.expression T e in
      let b' = w.statement T s in
      let c' = w.statement (names_behind T s) o in
      record {
        fit = (tt, (tt, fit_append a' (mark CloseParen ∷ (b' ++ (keyword Else ∷ c'))) a.fit (tt, fit_append b' (keyword Else ∷ c') b.fit (tt, c.fit))));
        derives = λ q. let k = a.derives (suc (suc q)) in let z = b.derives (suc (suc (suc q) + length a')) in let h = c.derives (suc (suc (suc (suc q) + length a') + length b')) in (
          t.if_statement q k.0 z.0 (t.a_statement h.0),
          cc (k.1, z.1, h.1),
          n.if_elses k.2 z.2 (takes_again s z.0 z.1 ∙ takes) (subst (λ j. n.IsStatement j (suc (suc (suc (suc q) + length a') + length b')) h.0 c') (sym (statement_again T s z.0 z.1)) h.2),
        );
      }
  prints_statement {T = T} (n.whiles {e = e} {s = s} {u = u} {v = v} x y) f =
      let a = in_expression _ _ (prints_expression x (fit_left u (mark CloseParen ∷ v) f.1.1)) in
      let b = prints_statement y (fit_right u (mark CloseParen ∷ v) f.1.1).1 in
      let a' = w.expression T e in
      let b' = w.statement T s in
      record {
        fit = (tt, (tt, fit_append a' (mark CloseParen ∷ b') a.fit (tt, b.fit)));
        derives = λ q. let k = a.derives (suc (suc q)) in let z = b.derives (suc (suc (suc q) + length a')) in (t.while_statement q k.0 z.0, cc (k.1, z.1), n.whiles k.2 z.2);
      }
  prints_statement {T = T} (n.dos {s = s} {e = e} {u = u} {v = v} y x) f =
      let closing = mark CloseParen ∷ mark Semicolon ∷ [] in
      let f1 = fit_right u (keyword While ∷ mark OpenParen ∷ (v ++ closing)) f.1 in
      let b = prints_statement y (fit_left u (keyword While ∷ mark OpenParen ∷ (v ++ closing)) f.1) in
      let a = in_expression _ _ (prints_expression x (fit_left v closing f1.1.1)) in
      let b' = w.statement T s in
      let a' = w.expression (names_behind T s) e in
      record {
        fit = (tt, fit_append b' (keyword While ∷ mark OpenParen ∷ (a' ++ closing)) b.fit (tt, (tt, fit_append a' closing a.fit (tt, (tt, tt)))));
        derives = λ q. let z = b.derives (suc q) in let k = a.derives (suc (suc (suc q + length b'))) in
            (t.do_statement q z.0 k.0, cc (z.1, k.1), n.dos z.2 (subst (λ j. g.IsExpression j (suc (suc (suc q + length b'))) k.0 a') (sym (statement_again T s z.0 z.1)) k.2));
      }
  prints_statement {T = T} (n.fors {i = i} {c = c} {n = m} {s = s} {u = u} {v = v} {w = x'} {x = y'} one two three four) f =
      let r3 = mark CloseParen ∷ y' in
      let r2 = mark Semicolon ∷ (x' ++ r3) in
      let f1 = fit_right u (v ++ r2) f.1.1 in
      let f2 = (fit_right v r2 f1).1 in
      let a = prints_for_init one (fit_left u (v ++ r2) f.1.1) in
      let b = prints_maybe two (fit_left v r2 f1) in
      let d = prints_maybe three (fit_left x' r3 f2) in
      let e = prints_statement four (fit_right x' r3 f2).1 in
      let U = names_behind_init T i in
      let a' = w.for_init T i in
      let b' = w.maybe_expression U c in
      let d' = w.maybe_expression U m in
      let e' = w.statement U s in
      record {
        fit = (tt, (tt, fit_append a' (b' ++ (mark Semicolon ∷ (d' ++ (mark CloseParen ∷ e')))) a.fit (fit_append b' (mark Semicolon ∷ (d' ++ (mark CloseParen ∷ e'))) b.fit (tt, fit_append d' (mark CloseParen ∷ e') d.fit (tt, e.fit)))));
        derives = λ q.
            let q2 = suc (suc q) + length a' in
            let q3 = suc (suc (suc q) + length a' + length b') in
            let q4 = suc (suc (suc (suc q) + length a' + length b') + length d') in
            let ya = a.derives (suc (suc q)) in let yb = b.derives q2 in let yd = d.derives q3 in let ye = e.derives q4 in
            let same = sym (init_again T i ya.0 ya.1) in (
              t.for_statement q ya.0 yb.0 yd.0 ye.0,
              cc (ya.1, yb.1, yd.1, ye.1),
              n.fors ya.2 (subst (λ j. n.IsMaybeExpression j q2 yb.0 b') same yb.2) (subst (λ j. n.IsMaybeExpression j q3 yd.0 d') same yd.2) (subst (λ j. n.IsStatement j q4 ye.0 e') same ye.2),
            );
      }
  prints_statement {T = T} (n.switches {e = e} {b = b0} {u = u} {v = v} x y) f =
      let a = in_expression _ _ (prints_expression x (fit_left u (mark CloseParen ∷ v) f.1.1)) in
      let b = prints_block y (fit_right u (mark CloseParen ∷ v) f.1.1).1 in
      let a' = w.expression T e in
      let b' = w.block T b0 in
      record {
        fit = (tt, (tt, fit_append a' (mark CloseParen ∷ b') a.fit (tt, b.fit)));
        derives = λ q. let k = a.derives (suc (suc q)) in let z = b.derives (suc (suc (suc q) + length a')) in (t.switch_statement q k.0 z.0, cc (k.1, z.1), n.switches k.2 z.2);
      }
  prints_statement {T = T} (n.cases {e = e} {s = s} {u = u} {v = v} x y) f =
      let a = in_conditional _ _ (prints_choice x (fit_left u (mark Colon ∷ v) f.1)) in
      let b = prints_statement y (fit_right u (mark Colon ∷ v) f.1).1 in
      let a' = w.at_binding 2 e (w.expression T e) in
      let b' = w.statement T s in
      record {
        fit = (tt, fit_append a' (mark Colon ∷ b') a.fit (tt, b.fit));
        derives = λ q. let k = a.derives (suc q) in let z = b.derives (suc (suc q + length a')) in (t.case_statement q k.0 z.0, cc (k.1, z.1), n.cases k.2 z.2);
      }
  prints_statement (n.defaults x) f = let a = prints_statement x f.1.1 in record { fit = (tt, (tt, a.fit)); derives = λ q. let y = a.derives (suc (suc q)) in (t.default_statement q y.0, cc y.1, n.defaults y.2) }
  prints_statement n.breaks f = record { fit = (tt, (tt, tt)); derives = λ q. (t.break_statement q, refl, n.breaks) }
  prints_statement n.continues f = record { fit = (tt, (tt, tt)); derives = λ q. (t.continue_statement q, refl, n.continues) }
  prints_statement {T = T} (n.returns {e = e} {u = u} x) f =
      let a = prints_maybe x (fit_inner u (mark Semicolon) f.1) in
      record { fit = (tt, fit_closed (w.maybe_expression T e) (mark Semicolon) tt a.fit); derives = λ q. let y = a.derives (suc q) in (t.return_statement q y.0, cc y.1, n.returns y.2) }

prints_external : {T : List Name} {p : ℕ} {x : t.External} {u : List Word} → n.IsExternal T p x u → AreFit u → Printed bare.external (n.IsExternal T) x (w.external T x)
prints_external (n.a_declaration x) f = let a = prints_declaration x f in record { fit = a.fit; derives = λ q. let y = a.derives q in (t.external_declaration y.0, cc y.1, n.a_declaration y.2) }
prints_external {T = T} (n.a_definition {s = s} {d = d} {b = b0} {u = u} {v = v} {w = x'} x free y z) f =
    let f1 = fit_right u (v ++ x') f in
    let a = prints_specifiers x (fit_left u (v ++ x') f) in
    let parts = parts_of y (fit_left v x' f1) in
    let b = first_printed (has_type s) d parts in
    let c = prints_block z (fit_right v x' f1) in
    let a' = w.specifiers T s in
    let b' = w.behind_specifiers T (has_type s) d (w.declarator T d) in
    let c' = w.block T b0 in
    record {
      fit = fit_append a' (b' ++ c') a.fit (fit_append b' c' b.fit c.fit);
      derives = λ q. let k = a.derives q in let h = b.derives (q + length a') in let j = c.derives (q + length a' + length b') in (
        t.function_definition k.0 h.0 j.0,
        cc (k.1, h.1, j.1),
        n.a_definition k.2 (subst (λ i. g.GoesOnSpecifiers T i b' → ⊥) (sym (has_again s k.0 k.1)) (first_free (has_type s) d parts)) h.2 j.2,
      );
    }

prints_unit : {T : List Name} {p : ℕ} {x : t.Tree} {u : List Word} → n.IsUnit T p x u → AreFit u → Printed bare.unnumbered (n.IsUnit T) x (w.externals T x)
prints_unit {T = T} (n.last_external {e = e} x) f =
    let a = prints_external x f in
    let a' = w.external T e in
    record {
      fit = fit_append a' [] a.fit tt;
      derives = λ q. let y = a.derives q in (t.more_externals y.0 t.no_externals, cc y.1, subst (n.IsUnit T q (t.more_externals y.0 t.no_externals)) (sym (append-nil a')) (n.last_external y.2));
    }
prints_unit {T = T} (n.next_external {e = e} {t = rest} {u = u} {v = v} x more) f =
    let a = prints_external x (fit_left u v f) in
    let b = prints_unit more (fit_right u v f) in
    let a' = w.external T e in
    let b' = w.externals (names_behind_external T e) rest in
    record {
      fit = fit_append a' b' a.fit b.fit;
      derives = λ q. let y = a.derives q in let z = b.derives (q + length a') in
          (t.more_externals y.0 z.0, cc (y.1, z.1), n.next_external y.2 (subst (λ k. n.IsUnit k (q + length a') z.0 b') (sym (external_again T e y.0 y.1)) z.2));
    }

pub spelled_again : (tree : t.Tree) (words : List Word) → n.Spells tree words → AreFit words → IsSpelledAgain tree (w.words_of tree)
spelled_again tree words x f =
    let a = prints_unit x f in
    let y = a.derives 0 in
    record { fit = a.fit; again = y.0; spells = y.2; same = y.1 }
