-- The machine accepts each pattern, with its nodes.
use Rattle.std.proofs.lemmas.Bool.Decides.{nat_tests}
use Rattle.std.proofs.Common.{◌≡◌, ℕ, arith, ◌⊎◌, inl, inr, Bool, true, false, not, List, [], ◌∷◌, length, refl, sym, ap, ◌∙◌, subst}
use Rattle.smlc_base.specs.declared.names.Name.{Name}
use Rattle.sml_tree.specs.declared.tree_node.TreeNode.TheVariants as node
use Rattle.sml_syntax.specs.declared.forms.Terminal.{Terminal}
use Rattle.sml_syntax.specs.declared.forms.Terminal.TheVariants as tok
use Rattle.sml_syntax.specs.declared.forms.Made.{Made}
use Rattle.sml_syntax.specs.declared.forms.Made.TheVariants as made
use Rattle.sml_syntax.specs.declared.forms.Root.{Root}
use Rattle.sml_syntax.specs.declared.forms.Root.TheVariants as root
use Rattle.sml_syntax.specs.declared.forms.Look.{Look}
use Rattle.sml_syntax.specs.declared.forms.Look.TheVariants as look
use Rattle.sml_syntax.specs.declared.symbol.Symbol.{Symbol}
use Rattle.sml_syntax.specs.declared.symbol.Symbol.TheVariants as sy
use Rattle.sml_syntax.specs.declared.symbol.Push.{Push}
use Rattle.sml_syntax.specs.declared.symbol.Push.TheVariants.{P0, P1, P2, P3, P4, P5}
use Rattle.sml_syntax.specs.declared.symbol.Move.TheVariants.{Skip, Eat}
use Rattle.sml_syntax.specs.Fixity.{Fix, looks, alike, lefts, rights, fits}
use Rattle.sml_syntax.specs.Grammar.{Kind, Phrase, IsVid, IsOpVid, IsLongVid, IsLabel, IsScon, IsPat, IsTypedPat, IsInfixPat, IsOperand, IsAtpat, IsPats, IsPatRows, IsPatRow, IsPun, vid, vid_equals, plain_vid, op_vid, short_vid, long_vid, op_long_vid, label, label_number, int, char, text, typed_pat_pat, layered, typed_layered, infix_pat_typed, typed_pat, operand_pat, infix_pat, atpat_operand, con_pat, wild, vid_pat, scon_pat, empty_record_pat, record_pat, unit_pat, tuple_pat, empty_list_pat, list_pat, paren_pat, last_pat, more_pats, last_pat_row, more_pat_rows, pat_row, pun_row, typed_pun_row, pun_row_as, typed_pun_row_as, pun}
use Rattle.sml_syntax.specs.Moves.{at_any_vid, at_any_long, at_pat_op, at_pat_ops, at_pat_paren, at_pat_list, at_pat_record, at_pats_rest, at_pat_row, at_pat_rows_rest}
use Rattle.sml_syntax.specs.Machine.{Accepts, emit, skip, eat, moves, pushed}
use Rattle.syntax_laws.specs.Ends.{Next, ends_ty, ends_pat}
use Rattle.syntax_laws.proofs.Standing.{name_case, next_weaker, skip_inv}
use Rattle.syntax_laws.proofs.TypesAccepted.{ends_list, complete_ty}
use Rattle.syntax_laws.proofs.PatternSteps.{ends_typed, ends_row, no_atpat, closes, pat_typed, row_pat, list_row, list_pat_end, typed_no_atpat, typed_closes, typed_ty, row_rest, at_first, id_first, long_go, name_go, long_skip, arg_skip, arg_go, id_atpat, id_operand, pat_skip, ops_skip, name_skip, name_ty_skip}

not_bracket : (n : ℕ) (l : Look) → not (ends_list l) ≡ true → (at_pat_paren n l ≡ Skip (P2 sy.Pat (sy.PatParenRest n))) × (at_pat_list n l ≡ Skip (P3 sy.Pats sy.WantCloseBracket (sy.Emit (made.Lead node.PatList n)))) × (at_pat_record n l ≡ Skip (P3 sy.PatRows sy.WantCloseBrace (sy.Emit (made.Lead node.PatRecord n))))
not_bracket n (look.Other tok.Close) e = cc
not_bracket n (look.Other tok.CloseBracket) e = cc
not_bracket n (look.Other tok.CloseBrace) e = cc
not_bracket n _ e = (refl, refl, refl)

pats_skips : (l : Look) → ends_list l ≡ true → (at_pats_rest l ≡ Skip P0) × (at_pat_rows_rest l ≡ Skip P0)
pats_skips (look.Other tok.Comma) e = cc
pats_skips _ e = (refl, refl)

row_begins : (n : ℕ) (l : Look) (p : Push) → (at_pat_row n l ≡ Eat p) ⊎ (at_pat_row n l ≡ Skip p) → not (ends_list l) ≡ true
row_begins n (look.Other tok.Close) p (inl e) = cc
row_begins n (look.Other tok.Close) p (inr e) = cc
row_begins n (look.Other tok.CloseBracket) p (inl e) = cc
row_begins n (look.Other tok.CloseBracket) p (inr e) = cc
row_begins n (look.Other tok.CloseBrace) p (inl e) = cc
row_begins n (look.Other tok.CloseBrace) p (inr e) = cc
row_begins n _ p e = refl

row_ty : (l : Look) → ends_row l ≡ true → ends_ty l ≡ true
row_ty (look.Other tok.Comma) e = refl
row_ty (look.Other tok.Close) e = refl
row_ty (look.Other tok.CloseBracket) e = refl
row_ty (look.Other tok.CloseBrace) e = refl
row_ty _ e = cc

module _ (v : Bool) where
  alike_right : (r s u : Bool) → u ≡ true → r ≡ true → alike v r s ≡ true → alike v u s ≡ true
  alike_right r s u g h e = ap (λ u. alike v u s) (g ∙ sym h) ∙ e

  closes_right : (n : Root) (l k : ℕ) (r s : Bool) → rights l r n ≡ true → lefts v (root.Operator l r) k s ≡ true → lefts v n k s ≡ true
  closes_right root.Bare l k r s g h = refl
  closes_right (root.Operator n u) l k r s g h = grind (arith, nat_tests, alike_right r s u)

  alike_both : (r s : Bool) → alike v r s ≡ true → r ≡ true → s ≡ true → ⊥
  alike_both r s h e d = go v (subst (λ (s : Bool). alike v true s ≡ true) d (subst (λ (r : Bool). alike v r s ≡ true) e h))
    where
      go : (v : Bool) → alike v true true ≡ true → ⊥
      go true h = cc
      go false h = cc

  -- an operator that a phrase is a left part of goes on no operator to the left of it
  pub ops_never : (l k : ℕ) (r s : Bool) → lefts v (root.Operator l r) k s ≡ true → rights l r (root.Operator k s) ≡ false
  ops_never l k r s h = grind (arith, nat_tests, alike_both r s)

  pub closes_on : (l : ℕ) (r : Bool) (n : Root) (l2 : Look) → rights l r n ≡ true → closes v (root.Operator l r) l2 ≡ true → closes v n l2 ≡ true
  closes_on l r n (look.Operator x s k u) g h = closes_right n l k r u g h
  closes_on l r n _ g h = refl

  ops_end : {k : List Symbol} {f : Fix} {a : List Terminal} {o : List Made} (l : ℕ) (r : Bool) → Next (closes v (root.Operator l r)) f a → Accepts v k f a o → Accepts v (sy.PatOps (root.Operator l r) ∷ k) f a o
  ops_end {a = []} l r n h = absurd n
  ops_end {f = f} {a = t ∷ a} l r n h = skip {p = P0} (go (looks f t) n) h
    where
      go : (w : Look) → closes v (root.Operator l r) w ≡ true → at_pat_ops v (root.Operator l r) (length (t ∷ a)) w ≡ Skip P0
      go (look.Operator x s k u) e = rw (ops_never l k r u e, e) refl
      go _ e = refl

  ops_eat : {k : List Symbol} {f : Fix} {t : Terminal} {x : Name} {s r : Bool} {l : ℕ} {b : List Terminal} {o : List Made} (c : Root) → looks f t ≡ look.Operator x s l r → fits c (root.Operator l r) ≡ true →
      Accepts v (sy.PatOperand ∷ sy.PatOps (root.Operator l r) ∷ sy.Emit (made.Inner node.InfixPat) ∷ sy.PatOps c ∷ k) f b o → Accepts v (sy.PatOps c ∷ k) f (t ∷ b) (made.Lead (node.Vid x) (length (t ∷ b)) ∷ o)
  ops_eat {t = t} {x = x} {r = r} {l = l} {b = b} c e g h = eat {p = P5 (sy.Emit (made.Lead (node.Vid x) (length (t ∷ b)))) sy.PatOperand (sy.PatOps (root.Operator l r)) (sy.Emit (made.Inner node.InfixPat)) (sy.PatOps c)} (rw (e, g) refl) (emit h)

  -- behind a name an operator goes on the pattern
  op_name : {k : List Symbol} {f : Fix} {t : Terminal} {x : Name} {s r : Bool} {l : ℕ} {b : List Terminal} {o : List Made} → looks f t ≡ look.Operator x s l r → Accepts v (sy.PatOps root.Bare ∷ sy.PatTyRest ∷ k) f (t ∷ b) o → Accepts v (sy.PatName ∷ k) f (t ∷ b) o
  op_name e h = skip {p = P1 sy.PatLong} (rw e refl) (skip {p = P2 (sy.PatOps root.Bare) sy.PatTyRest} (rw e refl) h)

  begins_at : {k : List Symbol} {f : Fix} {o : List Made} (t : Terminal) (a : List Terminal) → Accepts v (sy.Pat ∷ k) f (t ∷ a) o → not (ends_list (looks f t)) ≡ true
  begins_at tok.Close a h = let e = at_first v (skip_inv {s = sy.Pat} {p = P3 sy.Atpat (sy.PatOps root.Bare) sy.PatTyRest} refl h) in cc
  begins_at tok.CloseBracket a h = let e = at_first v (skip_inv {s = sy.Pat} {p = P3 sy.Atpat (sy.PatOps root.Bare) sy.PatTyRest} refl h) in cc
  begins_at tok.CloseBrace a h = let e = at_first v (skip_inv {s = sy.Pat} {p = P3 sy.Atpat (sy.PatOps root.Bare) sy.PatTyRest} refl h) in cc
  begins_at {f = f} (tok.Id x s) a h = name_case f x s (λ l. not (ends_list l) ≡ true) refl (λ l r. refl)
  begins_at _ a h = refl

  paren_go : {k : List Symbol} {f : Fix} {a : List Terminal} {o : List Made} (n : ℕ) → Accepts v (sy.Pat ∷ sy.PatParenRest n ∷ k) f a o → Accepts v (sy.PatParen n ∷ k) f a o
  paren_go {f = f} n (skip {t = t} {a = a} e h) = skip {p = P2 sy.Pat (sy.PatParenRest n)} (not_bracket n (looks f t) (begins_at t a (skip e h))).0 (skip e h)
  paren_go {f = f} n (eat {t = t} {a = a} e h) = skip {p = P2 sy.Pat (sy.PatParenRest n)} (not_bracket n (looks f t) (begins_at t a (eat e h))).0 (eat e h)

  list_go : {k : List Symbol} {f : Fix} {a : List Terminal} {o : List Made} (n : ℕ) → Accepts v (sy.Pats ∷ sy.WantCloseBracket ∷ sy.Emit (made.Lead node.PatList n) ∷ k) f a o → Accepts v (sy.PatList n ∷ k) f a o
  list_go {f = f} n (skip {t = t} {a = a} e h) = skip {p = P3 sy.Pats sy.WantCloseBracket (sy.Emit (made.Lead node.PatList n))} (not_bracket n (looks f t) (begins_at t a (skip_inv {s = sy.Pats} {p = P2 sy.Pat sy.PatsRest} refl (skip e h)))).1 (skip e h)
  list_go n (eat e h) = cc

  row_at : {k : List Symbol} {f : Fix} {a : List Terminal} {o : List Made} → Accepts v (sy.PatRow ∷ k) f a o → Next (λ l. not (ends_list l)) f a
  row_at {f = f} (skip {t = t} {a = a} e h) = row_begins (length (t ∷ a)) (looks f t) _ (inr e)
  row_at {f = f} (eat {t = t} {a = a} e h) = row_begins (length (t ∷ a)) (looks f t) _ (inl e)

  record_go : {k : List Symbol} {f : Fix} {a : List Terminal} {o : List Made} (n : ℕ) → Accepts v (sy.PatRows ∷ sy.WantCloseBrace ∷ sy.Emit (made.Lead node.PatRecord n) ∷ k) f a o → Accepts v (sy.PatRecord n ∷ k) f a o
  record_go {f = f} n (skip {t = t} {a = a} e h) = skip {p = P3 sy.PatRows sy.WantCloseBrace (sy.Emit (made.Lead node.PatRecord n))} (not_bracket n (looks f t) (row_at (skip_inv {s = sy.PatRows} {p = P2 sy.PatRow sy.PatRowsRest} refl (skip e h)))).2 (skip e h)
  record_go n (eat e h) = cc

  pats_go : {k : List Symbol} {f : Fix} {a : List Terminal} {o : List Made} → Accepts v (sy.Pat ∷ sy.PatsRest ∷ k) f a o → Accepts v (sy.Pats ∷ k) f a o
  pats_go (skip e h) = skip refl (skip e h)
  pats_go (eat e h) = skip refl (eat e h)

  rows_go : {k : List Symbol} {f : Fix} {a : List Terminal} {o : List Made} → Accepts v (sy.PatRow ∷ sy.PatRowsRest ∷ k) f a o → Accepts v (sy.PatRows ∷ k) f a o
  rows_go (skip e h) = skip refl (skip e h)
  rows_go (eat e h) = skip refl (eat e h)

  pats_skip : {k : List Symbol} {f : Fix} {a : List Terminal} {o : List Made} → Next ends_list f a → Accepts v k f a o → Accepts v (sy.PatsRest ∷ k) f a o
  pats_skip {a = []} n h = absurd n
  pats_skip {f = f} {a = t ∷ a} n h = skip {p = P0} (pats_skips (looks f t) n).0 h

  rows_skip : {k : List Symbol} {f : Fix} {a : List Terminal} {o : List Made} → Next ends_list f a → Accepts v k f a o → Accepts v (sy.PatRowsRest ∷ k) f a o
  rows_skip {a = []} n h = absurd n
  rows_skip {f = f} {a = t ∷ a} n h = skip {p = P0} (pats_skips (looks f t) n).1 h

  pun_skip : {k : List Symbol} {f : Fix} {a : List Terminal} {o : List Made} → Next ends_row f a → Accepts v k f a o → Accepts v (sy.PunRow ∷ k) f a (made.Inner node.PunRow ∷ o)
  pun_skip {a = []} n h = absurd n
  pun_skip {f = f} {a = t ∷ a} n h = skip {p = P1 (sy.Emit (made.Inner node.PunRow))} (row_rest (looks f t) n).0 (emit h)

  pun_ty_skip : {k : List Symbol} {f : Fix} {a : List Terminal} {o : List Made} → Next ends_row f a → Accepts v k f a o → Accepts v (sy.PunRowTy ∷ k) f a (made.Inner node.TypedPunRow ∷ o)
  pun_ty_skip {a = []} n h = absurd n
  pun_ty_skip {f = f} {a = t ∷ a} n h = skip {p = P1 (sy.Emit (made.Inner node.TypedPunRow))} (row_rest (looks f t) n).1 (emit h)

  abbrev pub GoalPat : Kind → Fix → List Terminal → List Terminal → List Made → List Made → Type 0
  GoalPat IsVid f a b o p = (k : List Symbol) → (Accepts v k f b p → Accepts v (sy.AnyVid ∷ k) f a o) × (Accepts v k f b p → Accepts v (sy.AnyLong ∷ k) f a o) × ((q : ℕ) → Accepts v (sy.Emit (made.Lead node.Op q) ∷ sy.PatName ∷ k) f b p → Accepts v (sy.PatOp q ∷ k) f a o)
  GoalPat IsOpVid f a b o p = (k : List Symbol) → (Accepts v k f b p → Accepts v (sy.OpVid ∷ k) f a o) × (Accepts v k f b p → Accepts v (sy.LongVid ∷ k) f a o) × (Accepts v (sy.PatName ∷ k) f b p → Accepts v (sy.Pat ∷ k) f a o)
  GoalPat IsLongVid f a b o p = (k : List Symbol) → (Accepts v k f b p → Accepts v (sy.LongVid ∷ k) f a o) × (Accepts v (sy.PatLong ∷ k) f b p → Accepts v (sy.PatName ∷ k) f b p → Accepts v (sy.Pat ∷ k) f a o)
  GoalPat IsLabel f a b o p = (k : List Symbol) → Accepts v (sy.PunRow ∷ k) f b p → Accepts v (sy.WantEquals ∷ sy.Pat ∷ sy.Emit (made.Inner node.PatRow) ∷ k) f b p → Accepts v (sy.PatRow ∷ k) f a o
  GoalPat IsPun f a b o p = (k : List Symbol) → Accepts v (sy.PunRow ∷ k) f b p → Accepts v (sy.PatRow ∷ k) f a o
  GoalPat IsScon f a b o p = (k : List Symbol) → (Accepts v k f b p → Accepts v (sy.Atpat ∷ k) f a o) × (Accepts v k f b p → Accepts v (sy.Atexp ∷ k) f a o) × (Accepts v k f b p → Accepts v (sy.PatOperand ∷ k) f a o) × (Accepts v (sy.PatOps root.Bare ∷ sy.PatTyRest ∷ k) f b p → Accepts v (sy.Pat ∷ k) f a o)
  GoalPat IsAtpat f a b o p = (k : List Symbol) → (Accepts v k f b p → Accepts v (sy.Atpat ∷ k) f a o) × (Next no_atpat f b → Accepts v k f b p → Accepts v (sy.PatOperand ∷ k) f a o) ×
      (Next no_atpat f b → Accepts v (sy.PatOps root.Bare ∷ sy.PatTyRest ∷ k) f b p → Accepts v (sy.PatName ∷ k) f b p → Accepts v (sy.Pat ∷ k) f a o)
  GoalPat IsOperand f a b o p = (k : List Symbol) → (Next no_atpat f b → Accepts v k f b p → Accepts v (sy.PatOperand ∷ k) f a o) ×
      (Next no_atpat f b → Accepts v (sy.PatOps root.Bare ∷ sy.PatTyRest ∷ k) f b p → Accepts v (sy.PatName ∷ k) f b p → Accepts v (sy.Pat ∷ k) f a o)
  GoalPat (IsInfixPat c m) f a b o p = (k : List Symbol) → Next no_atpat f b → Next (closes v m) f b → (Accepts v (sy.PatOps c ∷ k) f b p → Accepts v (sy.PatOperand ∷ sy.PatOps c ∷ k) f a o) ×
      (Accepts v (sy.PatOps root.Bare ∷ sy.PatTyRest ∷ k) f b p → Accepts v (sy.PatName ∷ k) f b p → Accepts v (sy.Pat ∷ k) f a o)
  GoalPat IsTypedPat f a b o p = (k : List Symbol) → Next ends_typed f b → Accepts v (sy.PatTyRest ∷ k) f b p → Accepts v (sy.PatName ∷ k) f b p → Accepts v (sy.Pat ∷ k) f a o
  GoalPat IsPat f a b o p = (k : List Symbol) → Next ends_pat f b → Accepts v k f b p → Accepts v (sy.Pat ∷ k) f a o
  GoalPat IsPats f a b o p = (k : List Symbol) → Next ends_list f b → Accepts v k f b p → Accepts v (sy.Pats ∷ k) f a o
  GoalPat IsPatRow f a b o p = (k : List Symbol) → Next ends_row f b → Accepts v k f b p → Accepts v (sy.PatRow ∷ k) f a o
  GoalPat IsPatRows f a b o p = (k : List Symbol) → Next ends_list f b → Accepts v k f b p → Accepts v (sy.PatRows ∷ k) f a o
  GoalPat _ f a b o p = Unit {0}

  -- an atomic pattern that begins with a word
  worded : {f : Fix} {t : Terminal} {a b : List Terminal} {o p : List Made} → ((k : List Symbol) → Accepts v k f b p → Accepts v (sy.Atpat ∷ k) f (t ∷ a) o) → moves v sy.PatOperand f t a ≡ Skip (P1 sy.Atpat) → moves v sy.Pat f t a ≡ Skip (P3 sy.Atpat (sy.PatOps root.Bare) sy.PatTyRest) → GoalPat IsAtpat f (t ∷ a) b o p
  worded w d e = λ k. (w k, (λ n g. skip {p = P1 sy.Atpat} d (w k g)), λ n g u. skip {p = P3 sy.Atpat (sy.PatOps root.Bare) sy.PatTyRest} e (w _ g))

  abbrev RowAt : Name → ℕ → List Symbol → Fix → List Terminal → List Made → Look → Type 0
  RowAt x n k f a o l = (q : Push) × (at_pat_row n l ≡ Eat q) × Accepts v (pushed q k) f a (made.Lead (node.Label x) n ∷ o)

  label_row : {k : List Symbol} {f : Fix} {x : Name} {s : Bool} {a : List Terminal} {o : List Made} → Accepts v (sy.PunRow ∷ k) f a o → Accepts v (sy.WantEquals ∷ sy.Pat ∷ sy.Emit (made.Inner node.PatRow) ∷ k) f a o → Accepts v (sy.PatRow ∷ k) f (tok.Id x s ∷ a) (made.Lead (node.Label x) (length (tok.Id x s ∷ a)) ∷ o)
  label_row {k = k} {f = f} {x = x} {s = s} {a = a} {o = o} g w =
      let n = length (tok.Id x s ∷ a) in
      let (q, e, h) = name_case f x s (RowAt x (length (tok.Id x s ∷ a)) k f a o) (P2 (sy.Emit (made.Lead (node.Label x) (length (tok.Id x s ∷ a)))) sy.PunRow, refl, emit g) (λ l r. (P4 (sy.Emit (made.Lead (node.Label x) (length (tok.Id x s ∷ a)))) sy.WantEquals sy.Pat (sy.Emit (made.Inner node.PatRow)), refl, emit w)) in
      eat {p = q} e h

  root_fits : {f : Fix} {c m : Root} {a b : List Terminal} {o p : List Made} → Phrase v (IsInfixPat c m) f a b o p → fits c m ≡ true
  root_fits {c = c} (operand_pat h) = go c
    where
      go : (c : Root) → fits c root.Bare ≡ true
      go root.Bare = refl
      go (root.Operator l r) = refl
  root_fits (infix_pat i u y h g) = u

  pub complete_pat : {n : Kind} {f : Fix} {a b : List Terminal} {o p : List Made} → Phrase v n f a b o p → GoalPat n f a b o p
  complete_pat (vid {f = f} {x = x} {s = s} {a = a}) = λ k. (
    (λ g. eat {p = P1 (sy.Emit (made.Lead (node.Vid x) (length (tok.Id x s ∷ a))))} (name_case f x s (λ l. at_any_vid (length (tok.Id x s ∷ a)) l ≡ Eat (P1 (sy.Emit (made.Lead (node.Vid x) (length (tok.Id x s ∷ a)))))) refl (λ l r. refl)) (emit g)),
    (λ g. eat {p = P1 (sy.Emit (made.Lead (node.Vid x) (length (tok.Id x s ∷ a))))} (name_case f x s (λ l. at_any_long (length (tok.Id x s ∷ a)) l ≡ Eat (P1 (sy.Emit (made.Lead (node.Vid x) (length (tok.Id x s ∷ a)))))) refl (λ l r. refl)) (emit g)),
    (λ q g. eat {p = P3 (sy.Emit (made.Lead (node.Vid x) (length (tok.Id x s ∷ a)))) (sy.Emit (made.Lead node.Op q)) sy.PatName} (name_case f x s (λ l. at_pat_op q (length (tok.Id x s ∷ a)) l ≡ Eat (P3 (sy.Emit (made.Lead (node.Vid x) (length (tok.Id x s ∷ a)))) (sy.Emit (made.Lead node.Op q)) sy.PatName)) refl (λ l r. refl)) (emit g)),
  )
  complete_pat vid_equals = λ k. ((λ g. eat refl (emit g)), (λ g. eat refl (emit g)), (λ q g. eat refl (emit g)))
  complete_pat (plain_vid {x = x} {s = s} {a = a} e) = λ k. (
    (λ g. eat {p = P1 (sy.Emit (made.Lead (node.Vid x) (length (tok.Id x s ∷ a))))} (rw e refl) (emit g)),
    (λ g. eat {p = P1 (sy.Emit (made.Lead (node.Vid x) (length (tok.Id x s ∷ a))))} (rw e refl) (emit g)),
    (λ g. eat {p = P2 (sy.Emit (made.Lead (node.Vid x) (length (tok.Id x s ∷ a)))) sy.PatName} (rw e refl) (emit g)),
  )
  complete_pat (op_vid h) = λ k. ((λ g. eat refl ((complete_pat h _).0 (emit g))), (λ g. eat refl ((complete_pat h _).1 (emit g))), (λ g. eat refl ((complete_pat h k).2 _ (emit g))))
  complete_pat (short_vid h) = λ k. ((complete_pat h k).1, λ g w. (complete_pat h k).2 w)
  complete_pat long_vid = λ k. ((λ g. eat refl (emit g)), λ g w. eat refl (emit g))
  complete_pat op_long_vid = λ k. ((λ g. eat refl (eat refl (emit (emit g)))), λ g w. eat refl (eat refl (emit (emit g))))
  complete_pat label = λ k g w. label_row g w
  complete_pat (label_number {z = z} {h = h} {a = a} e) = λ k g w. eat {p = P4 (sy.Emit (made.Lead (node.LabelNumber z) (length (tok.Int z h ∷ a)))) sy.WantEquals sy.Pat (sy.Emit (made.Inner node.PatRow))} (rw e refl) (emit w)
  complete_pat (pun {x = x} {s = s} {a = a} e) = λ k g. eat {p = P2 (sy.Emit (made.Lead (node.Label x) (length (tok.Id x s ∷ a)))) sy.PunRow} (rw e refl) (emit g)
  complete_pat int = λ k. ((λ g. eat refl (emit g)), (λ g. eat refl (emit g)), (λ g. skip refl (eat refl (emit g))), (λ g. skip refl (eat refl (emit g))))
  complete_pat char = λ k. ((λ g. eat refl (emit g)), (λ g. eat refl (emit g)), (λ g. skip refl (eat refl (emit g))), (λ g. skip refl (eat refl (emit g))))
  complete_pat text = λ k. ((λ g. eat refl (emit g)), (λ g. eat refl (emit g)), (λ g. skip refl (eat refl (emit g))), (λ g. skip refl (eat refl (emit g))))
  complete_pat wild = worded (λ k g. eat refl (emit g)) refl refl
  complete_pat (vid_pat h) = λ k. ((λ g. let w = (complete_pat h k).0 g in id_atpat v (id_first v w) w), (λ n g. let w = (complete_pat h (sy.PatArg ∷ k)).0 (arg_skip v n g) in id_operand v (id_first v w) w), λ n g w. (complete_pat h k).1 (long_skip v n g) w)
  complete_pat (scon_pat h) = λ k. ((complete_pat h k).0, (λ n g. (complete_pat h k).2 g), λ n g w. (complete_pat h k).3 g)
  complete_pat empty_record_pat = worded (λ k g. eat refl (eat refl (emit g))) refl refl
  complete_pat (record_pat h) = worded (λ k g. eat refl (record_go _ (complete_pat h _ refl (eat refl (emit g))))) refl refl
  complete_pat unit_pat = worded (λ k g. eat refl (eat refl (emit g))) refl refl
  complete_pat (tuple_pat h d) = worded (λ k g. eat refl (paren_go _ (complete_pat h _ refl (eat refl (complete_pat d _ refl (eat refl (emit g))))))) refl refl
  complete_pat empty_list_pat = worded (λ k g. eat refl (eat refl (emit g))) refl refl
  complete_pat (list_pat h) = worded (λ k g. eat refl (list_go _ (complete_pat h _ refl (eat refl (emit g))))) refl refl
  complete_pat (paren_pat h) = worded (λ k g. eat refl (paren_go _ (complete_pat h _ refl (eat refl (emit g))))) refl refl
  complete_pat (atpat_operand h) = λ k. ((complete_pat h k).1, (complete_pat h k).2)
  complete_pat (con_pat h d) = λ k. (
    (λ n g. let w = (complete_pat d (sy.Emit (made.Inner node.ConPat) ∷ k)).0 (emit g) in let u = (complete_pat h (sy.PatArg ∷ k)).0 (arg_go v (at_first v w) w) in id_operand v (id_first v u) u),
    λ n g w. let x = (complete_pat d (sy.Emit (made.Inner node.ConPat) ∷ sy.PatOps root.Bare ∷ sy.PatTyRest ∷ k)).0 (emit g) in let y = long_go v (at_first v x) x in (complete_pat h k).1 y (name_go v (at_first v x) y),
  )
  complete_pat (operand_pat h) = λ k n s. ((complete_pat h _).0 n, (complete_pat h k).1 n)
  complete_pat (infix_pat {f = f} {t = t} {x = x} {s = s} {r = r} {l = l} {e = e} {m = m} {w = w} {c = c} i u y h g) = λ k n cl. (
    (λ q. (complete_pat h k (rw i refl) (rw i y)).0 (ops_eat e i u ((complete_pat g (sy.Emit (made.Inner node.InfixPat) ∷ sy.PatOps e ∷ k) n (next_weaker _ _ (λ l2. closes_on l r w l2 (root_fits g)) f c cl)).0 (ops_end l r cl (emit q))))),
    (λ q z. let j = ops_eat root.Bare i refl ((complete_pat g (sy.Emit (made.Inner node.InfixPat) ∷ sy.PatOps root.Bare ∷ sy.PatTyRest ∷ k) n (next_weaker _ _ (λ l2. closes_on l r w l2 (root_fits g)) f c cl)).0 (ops_end l r cl (emit q))) in (complete_pat h k (rw i refl) (rw i y)).1 j (op_name i j)),
  )
  complete_pat (infix_pat_typed {f = f} {w = w} {b = b} h) = λ k n g u. (complete_pat h k (next_weaker _ _ typed_no_atpat f b n) (next_weaker _ _ (typed_closes v w) f b n)).1 (ops_skip v root.Bare n g) u
  complete_pat (typed_pat {f = f} {c = c} h d) = λ k n g u. complete_pat h k refl (eat refl (complete_ty v d _ (next_weaker _ _ typed_ty f c n) (emit g))) (eat refl (complete_ty v d _ (next_weaker _ _ typed_ty f c n) (name_ty_skip v n g)))
  complete_pat (typed_pat_pat {f = f} {b = b} h) = λ k n g. let t = next_weaker _ _ pat_typed f b n in let w = pat_skip v n g in complete_pat h k t w (name_skip v n (long_skip v (next_weaker _ _ typed_no_atpat f b t) (ops_skip v root.Bare t w)))
  complete_pat (layered h d) = λ k n g. (complete_pat h k).2 (eat refl (complete_pat d _ n (emit g)))
  complete_pat (typed_layered h d e) = λ k n g. (complete_pat h k).2 (eat refl (complete_ty v d _ refl (eat refl (complete_pat e _ n (emit g)))))
  complete_pat (last_pat {f = f} {b = b} h) = λ k n g. pats_go (complete_pat h _ (next_weaker _ _ list_pat_end f b n) (pats_skip n g))
  complete_pat (more_pats h d) = λ k n g. pats_go (complete_pat h _ refl (eat refl (complete_pat d _ n (emit g))))
  complete_pat (last_pat_row {f = f} {b = b} h) = λ k n g. rows_go (complete_pat h _ (next_weaker _ _ list_row f b n) (rows_skip n g))
  complete_pat (more_pat_rows h d) = λ k n g. rows_go (complete_pat h _ refl (eat refl (complete_pat d _ n (emit g))))
  complete_pat (pat_row {f = f} {c = c} h d) = λ k n g. let w = complete_pat d (sy.Emit (made.Inner node.PatRow) ∷ k) (next_weaker _ _ row_pat f c n) (emit g) in complete_pat h k (eat refl w) (eat {p = P0} refl w)
  complete_pat (pun_row h) = λ k n g. complete_pat h k (pun_skip n g)
  complete_pat (typed_pun_row {f = f} {c = c} h d) = λ k n g. complete_pat h k (eat refl (complete_ty v d _ (next_weaker _ _ row_ty f c n) (pun_ty_skip n g)))
  complete_pat (pun_row_as {f = f} {c = c} h d) = λ k n g. complete_pat h k (eat refl (complete_pat d _ (next_weaker _ _ row_pat f c n) (emit g)))
  complete_pat (typed_pun_row_as {f = f} {d = d2} h d e) = λ k n g. complete_pat h k (eat refl (complete_ty v d _ refl (eat refl (complete_pat e _ (next_weaker _ _ row_pat f d2 n) (emit g)))))
  complete_pat _ = tt
