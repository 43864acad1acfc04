-- A head of a clause: what a pattern before an infix name makes the machine accept, its head accepts.
use Rattle.std.proofs.Common.{◌≡◌, ℕ, Bool, true, false, cond, List, [], ◌∷◌, length, refl, sym, ap, ◌∙◌, subst}
use Rattle.smlc_base.specs.declared.names.Name.{Name}
use Rattle.sml_tree.specs.declared.tree_node.TreeNode.TheVariants as node
use Rattle.sml_syntax.specs.declared.forms.Terminal.{Terminal}
use Rattle.sml_syntax.specs.declared.forms.Terminal.TheVariants as tok
use Rattle.sml_syntax.specs.declared.forms.Made.{Made}
use Rattle.sml_syntax.specs.declared.forms.Made.TheVariants as made
use Rattle.sml_syntax.specs.declared.forms.Root.{Root}
use Rattle.sml_syntax.specs.declared.forms.Root.TheVariants as root
use Rattle.sml_syntax.specs.declared.forms.Look.{Look}
use Rattle.sml_syntax.specs.declared.forms.Look.TheVariants as look
use Rattle.sml_syntax.specs.declared.symbol.Symbol.{Symbol}
use Rattle.sml_syntax.specs.declared.symbol.Symbol.TheVariants as sy
use Rattle.sml_syntax.specs.declared.symbol.Push.{Push}
use Rattle.sml_syntax.specs.declared.symbol.Push.TheVariants.{P0, P1, P2, P3, P4, P5, P7}
use Rattle.sml_syntax.specs.declared.symbol.Move.TheVariants.{Refuse, Skip, Eat}
use Rattle.sml_syntax.specs.Fixity.{Fix, looks}
use Rattle.sml_syntax.specs.Moves.{is_ident, is_atpat, at_head, at_head_name, at_head_op, at_head_first_op, at_head_second_end, at_head_end, at_head_closed, at_pat_op, at_pat_paren, at_pat_paren_rest}
use Rattle.sml_syntax.specs.Machine.{Accepts, has_infix, emit, skip, eat, pushed}
use Rattle.syntax_laws.specs.Ends.{}
use Rattle.syntax_laws.proofs.Standing.{name_case, skip_inv, eat_inv, emit_inv, Grows, grow}
use Rattle.syntax_laws.proofs.PatternSteps.{at_first, atpat_name, ident_atpat}

module _ (v : Bool) where
  -- an operator goes on a head
  op_inv : (l : Look) (n : ℕ) (p : Push) → at_head_op n l ≡ Eat p → (x : Name) × (p ≡ P3 (sy.Emit (made.Lead (node.Vid x) n)) sy.Atpat (sy.Emit (made.Inner node.InfixHead))) ×
      (at_head_name n l ≡ Eat (P3 (sy.Emit (made.Lead (node.Vid x) n)) sy.Atpat (sy.Emit (made.Inner node.InfixHead)))) ×
      ((q : ℕ) → at_head_closed q n l ≡ Eat (P5 (sy.Emit (made.Inner node.InfixPat)) (sy.Emit (made.Lead node.PatParen q)) (sy.Emit (made.Lead (node.Vid x) n)) sy.Atpat (sy.Emit (made.Inner node.InfixHead))))
  op_inv (look.Operator x s l r) n p e = (x, cc, refl, λ q. refl)
  op_inv _ n p e = cc

  op_never_skips : (l : Look) (n : ℕ) (p : Push) → at_head_op n l ≡ Skip p → ⊥
  op_never_skips (look.Operator x s l r) n p e = cc
  op_never_skips _ n p e = cc

  op_name : (k : List Symbol) → Grows v (sy.HeadOp ∷ k) (sy.HeadName ∷ k)
  op_name k f _ _ (skip {t = t} {a = a} e h) = absurd (op_never_skips (looks f t) (length (t ∷ a)) _ e)
  op_name k f _ _ (eat {p = p} {t = t} {a = a} {o = o} e h) =
      let (x, q, w, u) = op_inv (looks f t) (length (t ∷ a)) _ e in
      let P : Push → Type 0 = λ p. Accepts v (pushed p k) f a o in
      eat {p = P3 (sy.Emit (made.Lead (node.Vid x) (length (t ∷ a)))) sy.Atpat (sy.Emit (made.Inner node.InfixHead))} w (subst P q h)

  op_closed : (k : List Symbol) (q : ℕ) {f : Fix} {a : List Terminal} {o : List Made} → Accepts v (sy.HeadOp ∷ k) f a o → Accepts v (sy.HeadClosed q ∷ k) f a (made.Inner node.InfixPat ∷ made.Lead node.PatParen q ∷ o)
  op_closed k q {f = f} (skip {t = t} {a = a} e h) = absurd (op_never_skips (looks f t) (length (t ∷ a)) _ e)
  op_closed k q {f = f} (eat {p = p} {t = t} {a = a} {o = o} e h) =
      let (x, i, w, u) = op_inv (looks f t) (length (t ∷ a)) _ e in
      let P : Push → Type 0 = λ p. Accepts v (pushed p k) f a o in
      eat {p = P5 (sy.Emit (made.Inner node.InfixPat)) (sy.Emit (made.Lead node.PatParen q)) (sy.Emit (made.Lead (node.Vid x) (length (t ∷ a)))) sy.Atpat (sy.Emit (made.Inner node.InfixHead))} (u q) (emit (emit (subst P i h)))

  -- what is still to come behind the first operator of a head in parentheses
  abbrev Later : Root → ℕ → List Symbol → List Symbol
  Later c n k = sy.PatOps c ∷ sy.Emit (made.Inner node.InfixPat) ∷ sy.PatOps root.Bare ∷ sy.PatTyRest ∷ sy.HeadEnd n ∷ k

  second_close : (k : List Symbol) (n : ℕ) (c : Root) (f : Fix) (a : List Terminal) (o : List Made) → Accepts v (Later c n k) f (tok.Close ∷ a) o → Accepts v (sy.HeadSecondEnd c n ∷ k) f (tok.Close ∷ a) o
  second_close k n c f a o h =
      let (o1, e1, h1) = emit_inv (skip_inv {s = sy.PatOps c} {p = P0} refl h) in
      let h2 = eat_inv {s = sy.HeadEnd n} {p = P2 (sy.Emit (made.Lead node.PatParen n)) sy.HeadOp} refl (skip_inv {s = sy.PatTyRest} {p = P0} refl (skip_inv {s = sy.PatOps root.Bare} {p = P0} refl h1)) in
      let (o2, e2, h3) = emit_inv h2 in
      let P : List Made → Type 0 = λ o. Accepts v (sy.HeadSecondEnd c n ∷ k) f (tok.Close ∷ a) o in
      subst P (sym (e1 ∙ ap (λ z. made.Inner node.InfixPat ∷ z) e2)) (eat {p = P1 (sy.HeadClosed n)} refl (op_closed k n h3))

  second_at : (k : List Symbol) (n : ℕ) (c : Root) (f : Fix) (t : Terminal) (a : List Terminal) (o : List Made) → Accepts v (Later c n k) f (t ∷ a) o → Accepts v (sy.HeadSecondEnd c n ∷ k) f (t ∷ a) o
  second_at k n c f tok.Close a o h = second_close k n c f a o h
  second_at k n c f (tok.Id x s) a o h = skip {p = P5 (sy.PatOps c) (sy.Emit (made.Inner node.InfixPat)) (sy.PatOps root.Bare) sy.PatTyRest (sy.HeadEnd n)} (name_case f x s (λ l. at_head_second_end c n l ≡ Skip (P5 (sy.PatOps c) (sy.Emit (made.Inner node.InfixPat)) (sy.PatOps root.Bare) sy.PatTyRest (sy.HeadEnd n))) refl (λ l r. refl)) h
  second_at k n c f _ a o h = skip {p = P5 (sy.PatOps c) (sy.Emit (made.Inner node.InfixPat)) (sy.PatOps root.Bare) sy.PatTyRest (sy.HeadEnd n)} refl h

  second_end : (k : List Symbol) (n : ℕ) (c : Root) → Grows v (Later c n k) (sy.HeadSecondEnd c n ∷ k)
  second_end k n c f _ _ (skip {t = t} {a = a} {o = o} e h) = second_at k n c f t a o (skip e h)
  second_end k n c f _ _ (eat {t = t} {a = a} {o = o} e h) = second_at k n c f t a o (eat e h)

  second_name_at : (k : List Symbol) (n : ℕ) (c : Root) (f : Fix) (t : Terminal) (a : List Terminal) (o : List Made) (b : Bool) → is_atpat (looks f t) ≡ b → Accepts v (sy.PatArg ∷ Later c n k) f (t ∷ a) o → Accepts v (sy.HeadSecondName c n ∷ k) f (t ∷ a) o
  second_name_at k n c f t a o true q h = skip {p = P7 sy.Atpat (sy.Emit (made.Inner node.ConPat)) (sy.PatOps c) (sy.Emit (made.Inner node.InfixPat)) (sy.PatOps root.Bare) sy.PatTyRest (sy.HeadEnd n)} (rw q refl) (skip_inv {s = sy.PatArg} {p = P2 sy.Atpat (sy.Emit (made.Inner node.ConPat))} (rw q refl) h)
  second_name_at k n c f t a o false q h = skip {p = P1 (sy.HeadSecondEnd c n)} (rw q refl) (second_end k n c f (t ∷ a) o (skip_inv {s = sy.PatArg} {p = P0} (rw q refl) h))

  second_name : (k : List Symbol) (n : ℕ) (c : Root) → Grows v (sy.PatArg ∷ Later c n k) (sy.HeadSecondName c n ∷ k)
  second_name k n c f _ _ (skip {t = t} {a = a} {o = o} e h) = second_name_at k n c f t a o (is_atpat (looks f t)) refl (skip e h)
  second_name k n c f _ _ (eat {t = t} {a = a} {o = o} e h) = second_name_at k n c f t a o (is_atpat (looks f t)) refl (eat e h)

  second_on : (k : List Symbol) (n : ℕ) (c : Root) (f : Fix) (t : Terminal) (a : List Terminal) (o : List Made) (b : Bool) → is_ident (looks f t) ≡ b → Accepts v (sy.PatOperand ∷ Later c n k) f (t ∷ a) o → Accepts v (sy.HeadSecond c n ∷ k) f (t ∷ a) o
  second_on k n c f t a o true q h = skip {p = P2 sy.LongVid (sy.HeadSecondName c n)} (rw q refl) (grow (sy.LongVid ∷ []) (sy.PatArg ∷ Later c n k) (sy.HeadSecondName c n ∷ k) (second_name k n c) (skip_inv {s = sy.PatOperand} {p = P2 sy.LongVid sy.PatArg} (rw q refl) h))
  second_on k n c f t a o false q h = skip {p = P2 sy.Atpat (sy.HeadSecondEnd c n)} (rw q refl) (grow (sy.Atpat ∷ []) (Later c n k) (sy.HeadSecondEnd c n ∷ k) (second_end k n c) (skip_inv {s = sy.PatOperand} {p = P1 sy.Atpat} (rw q refl) h))

  second : (k : List Symbol) (n : ℕ) (c : Root) → Grows v (sy.PatOperand ∷ Later c n k) (sy.HeadSecond c n ∷ k)
  second k n c f _ _ (skip {t = t} {a = a} {o = o} e h) = second_on k n c f t a o (is_ident (looks f t)) refl (skip e h)
  second k n c f _ _ (eat {t = t} {a = a} {o = o} e h) = second_on k n c f t a o (is_ident (looks f t)) refl (eat e h)

  -- an operator behind the first operand
  op_first : (k : List Symbol) (n : ℕ) (f : Fix) (t : Terminal) (a : List Terminal) (o : List Made) (x : Name) (s : Bool) (l : ℕ) (r : Bool) → looks f t ≡ look.Operator x s l r → Accepts v (sy.PatOps root.Bare ∷ sy.PatTyRest ∷ sy.HeadEnd n ∷ k) f (t ∷ a) o → Accepts v (sy.Emit (made.Lead (node.Vid x) (length (t ∷ a))) ∷ sy.HeadSecond (root.Operator l r) n ∷ k) f a o
  op_first k n f t a o x s l r q h = grow (sy.Emit (made.Lead (node.Vid x) (length (t ∷ a))) ∷ []) (sy.PatOperand ∷ Later (root.Operator l r) n k) (sy.HeadSecond (root.Operator l r) n ∷ k) (second k n (root.Operator l r)) (eat_inv {s = sy.PatOps root.Bare} {p = P5 (sy.Emit (made.Lead (node.Vid x) (length (t ∷ a)))) sy.PatOperand (sy.PatOps (root.Operator l r)) (sy.Emit (made.Inner node.InfixPat)) (sy.PatOps root.Bare)} (rw q refl) h)

  first_at : (k : List Symbol) (n : ℕ) (f : Fix) (t : Terminal) (a : List Terminal) (o : List Made) (l : Look) → looks f t ≡ l → Accepts v (sy.PatOps root.Bare ∷ sy.PatTyRest ∷ sy.HeadEnd n ∷ k) f (t ∷ a) o → Accepts v (sy.HeadFirst n ∷ k) f (t ∷ a) o
  first_at k n f t a o (look.Operator x s l r) q h = eat {p = P2 (sy.Emit (made.Lead (node.Vid x) (length (t ∷ a)))) (sy.HeadSecond (root.Operator l r) n)} (rw q refl) (op_first k n f t a o x s l r q h)
  first_at k n f t a o (look.Plain x s) q h = skip {p = P2 sy.PatTyRest (sy.HeadEnd n)} (rw q refl) (skip_inv {s = sy.PatOps root.Bare} {p = P0} (rw q refl) h)
  first_at k n f t a o (look.Other w) q h = skip {p = P2 sy.PatTyRest (sy.HeadEnd n)} (rw q refl) (skip_inv {s = sy.PatOps root.Bare} {p = P0} (rw q refl) h)

  first : (k : List Symbol) (n : ℕ) → Grows v (sy.PatOps root.Bare ∷ sy.PatTyRest ∷ sy.HeadEnd n ∷ k) (sy.HeadFirst n ∷ k)
  first k n f _ _ (skip {t = t} {a = a} {o = o} e h) = first_at k n f t a o (looks f t) refl (skip e h)
  first k n f _ _ (eat {t = t} {a = a} {o = o} e h) = first_at k n f t a o (looks f t) refl (eat e h)

  abbrev Applied : ℕ → Push
  Applied n = P5 sy.Atpat (sy.Emit (made.Inner node.ConPat)) (sy.PatOps root.Bare) sy.PatTyRest (sy.HeadEnd n)

  long_other : (k : List Symbol) (n : ℕ) (f : Fix) (t w : Terminal) (a : List Terminal) (o : List Made) (b : Bool) → looks f t ≡ look.Other w → is_atpat (look.Other w) ≡ b → Accepts v (sy.PatLong ∷ sy.HeadEnd n ∷ k) f (t ∷ a) o → Accepts v (sy.HeadFirstName false n ∷ k) f (t ∷ a) o
  long_other k n f t w a o true q e h = skip {p = Applied n} (rw (q, e) refl) (skip_inv {s = sy.PatLong} {p = P4 sy.Atpat (sy.Emit (made.Inner node.ConPat)) (sy.PatOps root.Bare) sy.PatTyRest} (rw (q, e) refl) h)
  long_other k n f t w a o false q e h = skip {p = P2 sy.PatTyRest (sy.HeadEnd n)} (rw (q, e) refl) (skip_inv {s = sy.PatOps root.Bare} {p = P0} (rw q refl) (skip_inv {s = sy.PatLong} {p = P2 (sy.PatOps root.Bare) sy.PatTyRest} (rw (q, e) refl) h))

  long_at : (k : List Symbol) (n : ℕ) (f : Fix) (t : Terminal) (a : List Terminal) (o : List Made) (l : Look) → looks f t ≡ l → Accepts v (sy.PatLong ∷ sy.HeadEnd n ∷ k) f (t ∷ a) o → Accepts v (sy.HeadFirstName false n ∷ k) f (t ∷ a) o
  long_at k n f t a o (look.Operator x s l r) q h = eat {p = P2 (sy.Emit (made.Lead (node.Vid x) (length (t ∷ a)))) (sy.HeadSecond (root.Operator l r) n)} (rw q refl) (op_first k n f t a o x s l r q (skip_inv {s = sy.PatLong} {p = P2 (sy.PatOps root.Bare) sy.PatTyRest} (rw q refl) h))
  long_at k n f t a o (look.Plain x s) q h = skip {p = Applied n} (rw q refl) (skip_inv {s = sy.PatLong} {p = P4 sy.Atpat (sy.Emit (made.Inner node.ConPat)) (sy.PatOps root.Bare) sy.PatTyRest} (rw q refl) h)
  long_at k n f t a o (look.Other w) q h = long_other k n f t w a o (is_atpat (look.Other w)) q refl h

  long : (k : List Symbol) (n : ℕ) → Grows v (sy.PatLong ∷ sy.HeadEnd n ∷ k) (sy.HeadFirstName false n ∷ k)
  long k n f _ _ (skip {t = t} {a = a} {o = o} e h) = long_at k n f t a o (looks f t) refl (skip e h)
  long k n f _ _ (eat {t = t} {a = a} {o = o} e h) = long_at k n f t a o (looks f t) refl (eat e h)

  name_other : (k : List Symbol) (n : ℕ) (f : Fix) (t w : Terminal) (a : List Terminal) (o : List Made) (b : Bool) → looks f t ≡ look.Other w → is_atpat (look.Other w) ≡ b → Accepts v (sy.PatName ∷ sy.HeadEnd n ∷ k) f (t ∷ a) o → Accepts v (sy.HeadFirstName true n ∷ k) f (t ∷ a) o
  name_other k n f t w a o true q e h = skip {p = Applied n} (rw (q, e) refl) (skip_inv {s = sy.PatLong} {p = P4 sy.Atpat (sy.Emit (made.Inner node.ConPat)) (sy.PatOps root.Bare) sy.PatTyRest} (rw (q, e) refl) (skip_inv {s = sy.PatName} {p = P1 sy.PatLong} (rw q (atpat_name (look.Other w) e)) h))
  name_other k n f t w a o false q e h = skip {p = P2 sy.PatName (sy.HeadEnd n)} (rw (q, e) refl) h

  name_at : (k : List Symbol) (n : ℕ) (f : Fix) (t : Terminal) (a : List Terminal) (o : List Made) (l : Look) → looks f t ≡ l → Accepts v (sy.PatName ∷ sy.HeadEnd n ∷ k) f (t ∷ a) o → Accepts v (sy.HeadFirstName true n ∷ k) f (t ∷ a) o
  name_at k n f t a o (look.Operator x s l r) q h = eat {p = P2 (sy.Emit (made.Lead (node.Vid x) (length (t ∷ a)))) (sy.HeadSecond (root.Operator l r) n)} (rw q refl) (op_first k n f t a o x s l r q (skip_inv {s = sy.PatLong} {p = P2 (sy.PatOps root.Bare) sy.PatTyRest} (rw q refl) (skip_inv {s = sy.PatName} {p = P1 sy.PatLong} (rw q refl) h)))
  name_at k n f t a o (look.Plain x s) q h = skip {p = Applied n} (rw q refl) (skip_inv {s = sy.PatLong} {p = P4 sy.Atpat (sy.Emit (made.Inner node.ConPat)) (sy.PatOps root.Bare) sy.PatTyRest} (rw q refl) (skip_inv {s = sy.PatName} {p = P1 sy.PatLong} (rw q refl) h))
  name_at k n f t a o (look.Other w) q h = name_other k n f t w a o (is_atpat (look.Other w)) q refl h

  name : (k : List Symbol) (n : ℕ) → Grows v (sy.PatName ∷ sy.HeadEnd n ∷ k) (sy.HeadFirstName true n ∷ k)
  name k n f _ _ (skip {t = t} {a = a} {o = o} e h) = name_at k n f t a o (looks f t) refl (skip e h)
  name k n f _ _ (eat {t = t} {a = a} {o = o} e h) = name_at k n f t a o (looks f t) refl (eat e h)

  -- behind `op`
  op_at : (k : List Symbol) (q n m : ℕ) (f : Fix) (a : List Terminal) (o : List Made) (l : Look) (p : Push) → at_pat_op q m l ≡ Eat p → Accepts v (pushed p (sy.HeadEnd n ∷ k)) f a o → (p2 : Push) × (at_head_first_op q n m l ≡ Eat p2) × Accepts v (pushed p2 k) f a o
  op_at k q n m f a o (look.Plain x s) p e h = let P : Push → Type 0 = λ p. Accepts v (pushed p (sy.HeadEnd n ∷ k)) f a o in let i : p ≡ P3 (sy.Emit (made.Lead (node.Vid x) m)) (sy.Emit (made.Lead node.Op q)) sy.PatName = cc in
      (P3 (sy.Emit (made.Lead (node.Vid x) m)) (sy.Emit (made.Lead node.Op q)) (sy.HeadFirstName true n), refl, grow (sy.Emit (made.Lead (node.Vid x) m) ∷ sy.Emit (made.Lead node.Op q) ∷ []) (sy.PatName ∷ sy.HeadEnd n ∷ k) (sy.HeadFirstName true n ∷ k) (name k n) (subst P i h))
  op_at k q n m f a o (look.Operator x s l r) p e h = let P : Push → Type 0 = λ p. Accepts v (pushed p (sy.HeadEnd n ∷ k)) f a o in let i : p ≡ P3 (sy.Emit (made.Lead (node.Vid x) m)) (sy.Emit (made.Lead node.Op q)) sy.PatName = cc in
      (P3 (sy.Emit (made.Lead (node.Vid x) m)) (sy.Emit (made.Lead node.Op q)) (sy.HeadFirstName true n), refl, grow (sy.Emit (made.Lead (node.Vid x) m) ∷ sy.Emit (made.Lead node.Op q) ∷ []) (sy.PatName ∷ sy.HeadEnd n ∷ k) (sy.HeadFirstName true n ∷ k) (name k n) (subst P i h))
  op_at k q n m f a o (look.Other tok.Equals) p e h = let P : Push → Type 0 = λ p. Accepts v (pushed p (sy.HeadEnd n ∷ k)) f a o in let i : p ≡ P3 (sy.Emit (made.Lead node.VidEquals m)) (sy.Emit (made.Lead node.Op q)) sy.PatName = cc in
      (P3 (sy.Emit (made.Lead node.VidEquals m)) (sy.Emit (made.Lead node.Op q)) (sy.HeadFirstName true n), refl, grow (sy.Emit (made.Lead node.VidEquals m) ∷ sy.Emit (made.Lead node.Op q) ∷ []) (sy.PatName ∷ sy.HeadEnd n ∷ k) (sy.HeadFirstName true n ∷ k) (name k n) (subst P i h))
  op_at k q n m f a o (look.Other (tok.Long x y)) p e h = let P : Push → Type 0 = λ p. Accepts v (pushed p (sy.HeadEnd n ∷ k)) f a o in let i : p ≡ P3 (sy.Emit (made.Lead (node.LongVid x) m)) (sy.Emit (made.Lead node.Op q)) sy.PatLong = cc in
      (P3 (sy.Emit (made.Lead (node.LongVid x) m)) (sy.Emit (made.Lead node.Op q)) (sy.HeadFirstName false n), refl, grow (sy.Emit (made.Lead (node.LongVid x) m) ∷ sy.Emit (made.Lead node.Op q) ∷ []) (sy.PatLong ∷ sy.HeadEnd n ∷ k) (sy.HeadFirstName false n ∷ k) (long k n) (subst P i h))
  op_at k q n m f a o _ p e h = cc

  op_never : (q m : ℕ) (l : Look) (p : Push) → at_pat_op q m l ≡ Skip p → ⊥
  op_never q m (look.Plain x s) p e = cc
  op_never q m (look.Operator x s l r) p e = cc
  op_never q m (look.Other tok.Equals) p e = cc
  op_never q m (look.Other (tok.Long x y)) p e = cc
  op_never q m _ p e = cc

  behind_op : (k : List Symbol) (q n : ℕ) → Grows v (sy.PatOp q ∷ sy.HeadEnd n ∷ k) (sy.HeadFirstOp q n ∷ k)
  behind_op k q n f _ _ (skip {t = t} {a = a} e h) = absurd (op_never q (length (t ∷ a)) (looks f t) _ e)
  behind_op k q n f _ _ (eat {p = p} {t = t} {a = a} {o = o} e h) = let (p2, i, w) = op_at k q n (length (t ∷ a)) f a o (looks f t) p e h in eat {p = p2} i w

  paren_at : (k : List Symbol) (n : ℕ) (f : Fix) (t : Terminal) (a : List Terminal) (o : List Made) (l : Look) → looks f t ≡ l → Accepts v (sy.Pat ∷ sy.HeadEnd n ∷ k) f (t ∷ a) o → Accepts v (sy.HeadParen n ∷ k) f (t ∷ a) o
  paren_at k n f t a o (look.Plain x s) q h = eat {p = P2 (sy.Emit (made.Lead (node.Vid x) (length (t ∷ a)))) (sy.HeadFirstName true n)} (rw q refl) (grow (sy.Emit (made.Lead (node.Vid x) (length (t ∷ a))) ∷ []) (sy.PatName ∷ sy.HeadEnd n ∷ k) (sy.HeadFirstName true n ∷ k) (name k n) (eat_inv {s = sy.Pat} {p = P2 (sy.Emit (made.Lead (node.Vid x) (length (t ∷ a)))) sy.PatName} (rw q refl) h))
  paren_at k n f t a o (look.Operator x s l r) q h = skip {p = P2 sy.Atpat (sy.HeadFirst n)} (rw q refl) (grow (sy.Atpat ∷ []) (sy.PatOps root.Bare ∷ sy.PatTyRest ∷ sy.HeadEnd n ∷ k) (sy.HeadFirst n ∷ k) (first k n) (skip_inv {s = sy.Pat} {p = P3 sy.Atpat (sy.PatOps root.Bare) sy.PatTyRest} (rw q refl) h))
  paren_at k n f t a o (look.Other (tok.Long x y)) q h = eat {p = P2 (sy.Emit (made.Lead (node.LongVid x) (length (t ∷ a)))) (sy.HeadFirstName false n)} (rw q refl) (grow (sy.Emit (made.Lead (node.LongVid x) (length (t ∷ a))) ∷ []) (sy.PatLong ∷ sy.HeadEnd n ∷ k) (sy.HeadFirstName false n ∷ k) (long k n) (eat_inv {s = sy.Pat} {p = P2 (sy.Emit (made.Lead (node.LongVid x) (length (t ∷ a)))) sy.PatLong} (rw q refl) h))
  paren_at k n f t a o (look.Other tok.Op) q h = eat {p = P1 (sy.HeadFirstOp (length (t ∷ a)) n)} (rw q refl) (behind_op k (length (t ∷ a)) n f a o (eat_inv {s = sy.Pat} {p = P1 (sy.PatOp (length (t ∷ a)))} (rw q refl) h))
  paren_at k n f t a o (look.Other tok.Close) q h = let e = at_first v (skip_inv {s = sy.Pat} {p = P3 sy.Atpat (sy.PatOps root.Bare) sy.PatTyRest} (rw q refl) h) in let P : Look → Type 0 = λ l. is_atpat l ≡ true in let w = subst P q e in cc
  paren_at k n f t a o (look.Other w) q h = skip {p = P2 sy.Atpat (sy.HeadFirst n)} (rw q refl) (grow (sy.Atpat ∷ []) (sy.PatOps root.Bare ∷ sy.PatTyRest ∷ sy.HeadEnd n ∷ k) (sy.HeadFirst n ∷ k) (first k n) (skip_inv {s = sy.Pat} {p = P3 sy.Atpat (sy.PatOps root.Bare) sy.PatTyRest} (rw q refl) h))

  head_paren : (k : List Symbol) (n : ℕ) → Grows v (sy.Pat ∷ sy.HeadEnd n ∷ k) (sy.HeadParen n ∷ k)
  head_paren k n f _ _ (skip {t = t} {a = a} {o = o} e h) = paren_at k n f t a o (looks f t) refl (skip e h)
  head_paren k n f _ _ (eat {t = t} {a = a} {o = o} e h) = paren_at k n f t a o (looks f t) refl (eat e h)

  rest_at : (k : List Symbol) (n m : ℕ) (f : Fix) (a : List Terminal) (o : List Made) (l : Look) (p : Push) → at_pat_paren_rest n l ≡ Eat p → Accepts v (pushed p (sy.HeadOp ∷ k)) f a o → (p2 : Push) × (at_head_end n l ≡ Eat p2) × Accepts v (pushed p2 k) f a o
  rest_at k n m f a o (look.Other tok.Close) p e h = let P : Push → Type 0 = λ p. Accepts v (pushed p (sy.HeadOp ∷ k)) f a o in let i : p ≡ P1 (sy.Emit (made.Lead node.PatParen n)) = cc in (P2 (sy.Emit (made.Lead node.PatParen n)) sy.HeadOp, refl, subst P i h)
  rest_at k n m f a o (look.Other tok.Comma) p e h = let P : Push → Type 0 = λ p. Accepts v (pushed p (sy.HeadOp ∷ k)) f a o in let i : p ≡ P3 sy.Pats sy.WantClose (sy.Emit (made.Lead node.PatTuple n)) = cc in (P4 sy.Pats sy.WantClose (sy.Emit (made.Lead node.PatTuple n)) sy.HeadOp, refl, subst P i h)
  rest_at k n m f a o _ p e h = cc

  rest_never : (n : ℕ) (l : Look) (p : Push) → at_pat_paren_rest n l ≡ Skip p → ⊥
  rest_never n (look.Other tok.Close) p e = cc
  rest_never n (look.Other tok.Comma) p e = cc
  rest_never n _ p e = cc

  paren_rest : (k : List Symbol) (n : ℕ) → Grows v (sy.PatParenRest n ∷ sy.HeadOp ∷ k) (sy.HeadEnd n ∷ k)
  paren_rest k n f _ _ (skip {t = t} {a = a} e h) = absurd (rest_never n (looks f t) _ e)
  paren_rest k n f _ _ (eat {p = p} {t = t} {a = a} {o = o} e h) = let (p2, i, w) = rest_at k n 0 f a o (looks f t) p e h in eat {p = p2} i w

  open_at : (k : List Symbol) (n : ℕ) (f : Fix) (t : Terminal) (a : List Terminal) (o : List Made) → Accepts v (sy.PatParen n ∷ sy.HeadOp ∷ k) f (t ∷ a) o → Accepts v (sy.HeadParen n ∷ k) f (t ∷ a) o
  open_at k n f tok.Close a o h = eat {p = P2 (sy.Emit (made.Lead node.PatUnit n)) sy.HeadOp} refl (eat_inv {s = sy.PatParen n} {p = P1 (sy.Emit (made.Lead node.PatUnit n))} refl h)
  open_at k n f (tok.Id x s) a o h = head_paren k n f _ o (grow (sy.Pat ∷ []) (sy.PatParenRest n ∷ sy.HeadOp ∷ k) (sy.HeadEnd n ∷ k) (paren_rest k n) (skip_inv {s = sy.PatParen n} {p = P2 sy.Pat (sy.PatParenRest n)} (name_case f x s (λ l. at_pat_paren n l ≡ Skip (P2 sy.Pat (sy.PatParenRest n))) refl (λ l r. refl)) h))
  open_at k n f _ a o h = head_paren k n f _ o (grow (sy.Pat ∷ []) (sy.PatParenRest n ∷ sy.HeadOp ∷ k) (sy.HeadEnd n ∷ k) (paren_rest k n) (skip_inv {s = sy.PatParen n} {p = P2 sy.Pat (sy.PatParenRest n)} refl h))

  head_open : (k : List Symbol) (n : ℕ) → Grows v (sy.PatParen n ∷ sy.HeadOp ∷ k) (sy.HeadParen n ∷ k)
  head_open k n f _ _ (skip {t = t} {a = a} {o = o} e h) = open_at k n f t a o (skip e h)
  head_open k n f _ _ (eat {t = t} {a = a} {o = o} e h) = open_at k n f t a o (eat e h)

  worded : (k : List Symbol) (f : Fix) (t : Terminal) (a : List Terminal) (o : List Made) (b : Bool) → has_infix f ≡ true → is_ident (looks f t) ≡ b → at_head (has_infix f) (length (t ∷ a)) (looks f t) ≡ cond (is_ident (looks f t)) (Skip (P2 sy.LongVid sy.HeadName)) (cond (has_infix f) (Skip (P2 sy.Atpat sy.HeadOp)) Refuse) → Accepts v (sy.Atpat ∷ sy.HeadOp ∷ k) f (t ∷ a) o → Accepts v (sy.Head ∷ k) f (t ∷ a) o
  worded k f t a o true i q e h = skip {p = P2 sy.LongVid sy.HeadName} (e ∙ rw q refl) (grow (sy.LongVid ∷ []) (sy.HeadOp ∷ k) (sy.HeadName ∷ k) (op_name k) (skip_inv {s = sy.Atpat} {p = P1 sy.LongVid} (ident_atpat (length (t ∷ a)) (looks f t) q) h))
  worded k f t a o false i q e h = skip {p = P2 sy.Atpat sy.HeadOp} (e ∙ rw (q, i) refl) h

  head_at : (k : List Symbol) (f : Fix) (t : Terminal) (a : List Terminal) (o : List Made) → has_infix f ≡ true → Accepts v (sy.Atpat ∷ sy.HeadOp ∷ k) f (t ∷ a) o → Accepts v (sy.Head ∷ k) f (t ∷ a) o
  head_at k f tok.Open a o i h = eat {p = P1 (sy.HeadParen (length (tok.Open ∷ a)))} (rw i refl) (head_open k (length (tok.Open ∷ a)) f a o (eat_inv {s = sy.Atpat} {p = P1 (sy.PatParen (length (tok.Open ∷ a)))} refl h))
  head_at k f (tok.Id x s) a o i h = worded k f (tok.Id x s) a o (is_ident (looks f (tok.Id x s))) i refl (name_case f x s (λ l. at_head (has_infix f) (length (tok.Id x s ∷ a)) l ≡ cond (is_ident l) (Skip (P2 sy.LongVid sy.HeadName)) (cond (has_infix f) (Skip (P2 sy.Atpat sy.HeadOp)) Refuse)) refl (λ l r. refl)) h
  head_at k f t a o i h = worded k f t a o (is_ident (looks f t)) i refl refl h

  -- a pattern before an infix name is a head
  pub head : {k : List Symbol} {f : Fix} {a : List Terminal} {o : List Made} → has_infix f ≡ true → Accepts v (sy.Atpat ∷ sy.HeadOp ∷ k) f a o → Accepts v (sy.Head ∷ k) f a o
  head {k = k} {f = f} i (skip {t = t} {a = a} {o = o} e h) = head_at k f t a o i (skip e h)
  head {k = k} {f = f} i (eat {t = t} {a = a} {o = o} e h) = head_at k f t a o i (eat e h)
