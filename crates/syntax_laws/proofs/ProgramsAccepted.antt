-- The machine accepts each program, with its nodes.
use Rattle.std.proofs.Common.{◌≡◌, ℕ, ◌++◌, ◌⊎◌, inl, inr, Bool, true, false, not, take, drop, append-nil, append_assoc, Some, List, [], ◌∷◌, length, refl, sym, ap, ◌∙◌, subst}
use Rattle.std.proofs.Math.Seq.{take-append_seam}
use Rattle.sml_tree.specs.declared.status.Status.{Status}
use Rattle.sml_tree.specs.declared.status.Status.TheVariants as status
use Rattle.sml_tree.specs.declared.tree_node.TreeNode.{TreeNode}
use Rattle.sml_tree.specs.declared.tree_node.TreeNode.TheVariants as node
use Rattle.sml_syntax.specs.declared.forms.Terminal.{Terminal}
use Rattle.sml_syntax.specs.declared.forms.Terminal.TheVariants as tok
use Rattle.sml_syntax.specs.declared.forms.Made.{Made}
use Rattle.sml_syntax.specs.declared.forms.Made.TheVariants as made
use Rattle.sml_syntax.specs.declared.forms.Root.{Root}
use Rattle.sml_syntax.specs.declared.forms.Root.TheVariants as root
use Rattle.sml_syntax.specs.declared.forms.Look.{Look}
use Rattle.sml_syntax.specs.declared.forms.Look.TheVariants as look
use Rattle.sml_syntax.specs.declared.symbol.Symbol.{Symbol}
use Rattle.sml_syntax.specs.declared.symbol.Symbol.TheVariants as sy
use Rattle.sml_syntax.specs.declared.symbol.Push.{Push}
use Rattle.sml_syntax.specs.declared.symbol.Push.TheVariants.{P0, P1, P2, P3, P5, P7}
use Rattle.sml_syntax.specs.declared.symbol.Move.TheVariants.{Skip, Eat}
use Rattle.sml_syntax.specs.Grammar.{Kind, Phrase, Parses, IsProgram, IsDecs, IsDec, IsDigit, IsVids, IsClause, IsExp, IsConjEnd, IsPrefix, IsRule, IsInfix, IsTyVars, IsTyVarList, IsValBind, IsFunBinds, IsClauses, IsTypBinds, IsTypBind, IsDatBinds, IsDatBind, IsConBinds, IsConBind, IsExBinds, IsExBind, IsDisj, IsConj, IsTyped, IsApp, IsAtexp, IsItems, IsSeq, IsRows, IsMatch, no_program, program_semicolon, program_dec, no_decs, decs_semicolon, more_decs, val_dec, fun_dec, type_dec, datatype_dec, exception_dec, local_dec, infix_dec, infixr_dec, nonfix_dec, no_digit, digit, last_vid, more_vids, no_tyvars, one_tyvar, tyvar_seq, last_tyvar, more_tyvars, last_valbind, more_valbinds, rec_valbind, last_funbind, more_funbinds, last_clause, more_clauses, clause, typed_clause, last_typbind, more_typbinds, typbind, last_datbind, more_datbinds, datbind, last_conbind, more_conbinds, conbind, conbind_of, last_exbind, more_exbinds, exbind, exbind_of, exbind_is, disj_exp, handle, conj_end_exp, orelse_end, prefix_end, andalso_end, raise, if_exp, while_exp, case_exp, fn_exp, conj_disj, orelse, typed_conj, andalso, infix_typed, typed, app_infix, operate, atexp_app, apply, vid_exp, scon_exp, empty_record, record_exp, unit, tuple, sequence, empty_list, list, let_exp, paren, last_item, more_items, last_seq, more_seq, last_row, more_rows, last_rule, more_rules, rule}
use Rattle.sml_syntax.specs.Fixity.{Fix, looks, goes_on, operates, fits}
use Rattle.sml_syntax.specs.Moves.{is_dec, at_vids, at_vids_rest, at_digit, at_paren_exp, at_list_exp, at_record_exp, at_label, at_ty_vars_rest, at_val_bind}
use Rattle.sml_syntax.specs.Machine.{Accepts, done, emit, skip, eat, start}
use Rattle.syntax_laws.specs.Ends.{Next}
use Rattle.syntax_laws.proofs.Standing.{name_case, next_weaker, skip_inv}
use Rattle.syntax_laws.proofs.TypesAccepted.{ends_list, complete_ty}
use Rattle.syntax_laws.proofs.PatternSteps.{id_first, at_first}
use Rattle.syntax_laws.proofs.PatternsAccepted.{complete_pat}
use Rattle.syntax_laws.proofs.HeadsAccepted.{complete_head}
use Rattle.syntax_laws.proofs.ExpressionSteps.{typed_end, conj_end, disj_end, exp_end, no_atexp, exp_closes, conj_typed, disj_conj, or_disj, exp_or, exp_true, typed_ty, typed_no_atexp, list_ends, seq_end, seq_exp, exp_first, word_first, id_atexp, args_go, args_skip, exp_go, or_go, and_go, word_go, ty_skip, and_skip, or_skip, handle_skip, bar_skip, items_skip, rows_skip, seq_skip, ops_skip, typed_closes, ops_eat, ops_end, closes_on, match_go, items_go, seq_go, rows_go}
use Rattle.syntax_laws.proofs.DecSteps.{dec_end, decs_end, bind_end, con_end, dec_exp, dec_bind, bind_exp, bind_ty, bind_con, con_end_ty, ands, vids_end, bars, con_ofs, ex_rests, decs_skip, decs_dec, is_dec_end, dec_moves, at_next, val_seq, fun_seq, val_none, fun_none, ty_none}

not_bracket : (n : ℕ) (l : Look) → not (ends_list l) ≡ true → (at_paren_exp n l ≡ Skip (P2 sy.Exp (sy.ParenRest n))) × (at_list_exp n l ≡ Skip (P3 sy.Items sy.WantCloseBracket (sy.Emit (made.Lead node.List n)))) × (at_record_exp n l ≡ Skip (P3 sy.Rows sy.WantCloseBrace (sy.Emit (made.Lead node.Record n))))
not_bracket n (look.Other tok.Close) e = cc
not_bracket n (look.Other tok.CloseBracket) e = cc
not_bracket n (look.Other tok.CloseBrace) e = cc
not_bracket n _ e = (refl, refl, refl)

label_begins : (n : ℕ) (l : Look) (p : Push) → (at_label n l ≡ Eat p) ⊎ (at_label n l ≡ Skip p) → not (ends_list l) ≡ true
label_begins n (look.Other tok.Close) p (inl e) = cc
label_begins n (look.Other tok.Close) p (inr e) = cc
label_begins n (look.Other tok.CloseBracket) p (inl e) = cc
label_begins n (look.Other tok.CloseBracket) p (inr e) = cc
label_begins n (look.Other tok.CloseBrace) p (inl e) = cc
label_begins n (look.Other tok.CloseBrace) p (inr e) = cc
label_begins n _ p e = refl

vid_first : (u : Status) (n : ℕ) (l : Look) (p : Push) (r : Bool) (q : ℕ) → (at_vids u n l ≡ Eat p) ⊎ (at_vids u n l ≡ Skip p) → (at_vids_rest u l ≡ Skip (P2 (sy.Vids u) (sy.Emit (made.Inner node.MoreVids)))) × (at_digit r q l ≡ Skip (P2 (sy.Vids (status.Infix 0 r)) (sy.Emit (made.Lead (node.Directive (status.Infix 0 r)) q))))
vid_first u n (look.Plain x s) p r q e = (refl, refl)
vid_first u n (look.Operator x s l k) p r q e = (refl, refl)
vid_first u n _ p r q (inl e) = cc
vid_first u n _ p r q (inr e) = cc

tyvars_end : (l : Look) → ends_list l ≡ true → at_ty_vars_rest l ≡ Skip P0
tyvars_end (look.Other tok.Comma) e = cc
tyvars_end _ e = refl

operator_no_atexp : {x : TreeNode} {n : ℕ} {r : Bool} (l : Look) → operates l ≡ Some (record { vid = x; level = n; right = r }) → no_atexp l ≡ true
operator_no_atexp (look.Operator x s l r) e = refl
operator_no_atexp (look.Other tok.Equals) e = refl
operator_no_atexp _ e = cc

module _ (v : Bool) where
  exp_at : {k : List Symbol} {f : Fix} {o : List Made} (t : Terminal) (a : List Terminal) → Accepts v (sy.Exp ∷ k) f (t ∷ a) o → not (ends_list (looks f t)) ≡ true
  exp_at tok.Close a h = let e = exp_first v (skip_inv {s = sy.Exp} {p = P7 sy.Atexp sy.Args (sy.Ops root.Bare) sy.TyRest sy.AndRest sy.OrRest sy.HandleRest} refl h) in cc
  exp_at tok.CloseBracket a h = let e = exp_first v (skip_inv {s = sy.Exp} {p = P7 sy.Atexp sy.Args (sy.Ops root.Bare) sy.TyRest sy.AndRest sy.OrRest sy.HandleRest} refl h) in cc
  exp_at tok.CloseBrace a h = let e = exp_first v (skip_inv {s = sy.Exp} {p = P7 sy.Atexp sy.Args (sy.Ops root.Bare) sy.TyRest sy.AndRest sy.OrRest sy.HandleRest} refl h) in cc
  exp_at {f = f} (tok.Id x s) a h = name_case f x s (λ l. not (ends_list l) ≡ true) refl (λ l r. refl)
  exp_at _ a h = refl

  paren_go : {k : List Symbol} {f : Fix} {a : List Terminal} {o : List Made} (n : ℕ) → Accepts v (sy.Exp ∷ sy.ParenRest n ∷ k) f a o → Accepts v (sy.ParenExp n ∷ k) f a o
  paren_go {f = f} n (skip {t = t} {a = a} e h) = skip {p = P2 sy.Exp (sy.ParenRest n)} (not_bracket n (looks f t) (exp_at t a (skip e h))).0 (skip e h)
  paren_go {f = f} n (eat {t = t} {a = a} e h) = skip {p = P2 sy.Exp (sy.ParenRest n)} (not_bracket n (looks f t) (exp_at t a (eat e h))).0 (eat e h)

  list_go : {k : List Symbol} {f : Fix} {a : List Terminal} {o : List Made} (n : ℕ) → Accepts v (sy.Items ∷ sy.WantCloseBracket ∷ sy.Emit (made.Lead node.List n) ∷ k) f a o → Accepts v (sy.ListExp n ∷ k) f a o
  list_go {f = f} n (skip {t = t} {a = a} e h) = skip {p = P3 sy.Items sy.WantCloseBracket (sy.Emit (made.Lead node.List n))} (not_bracket n (looks f t) (exp_at t a (skip_inv {s = sy.Items} {p = P2 sy.Exp sy.ItemsRest} refl (skip e h)))).1 (skip e h)
  list_go n (eat e h) = cc

  label_at : {k : List Symbol} {f : Fix} {a : List Terminal} {o : List Made} → Accepts v (sy.Label ∷ k) f a o → Next (λ l. not (ends_list l)) f a
  label_at {f = f} (skip {t = t} {a = a} e h) = label_begins (length (t ∷ a)) (looks f t) _ (inr e)
  label_at {f = f} (eat {t = t} {a = a} e h) = label_begins (length (t ∷ a)) (looks f t) _ (inl e)

  record_go : {k : List Symbol} {f : Fix} {a : List Terminal} {o : List Made} (n : ℕ) → Accepts v (sy.Rows ∷ sy.WantCloseBrace ∷ sy.Emit (made.Lead node.Record n) ∷ k) f a o → Accepts v (sy.RecordExp n ∷ k) f a o
  record_go {f = f} n (skip {t = t} {a = a} e h) = skip {p = P3 sy.Rows sy.WantCloseBrace (sy.Emit (made.Lead node.Record n))} (not_bracket n (looks f t) (label_at (skip_inv {s = sy.Rows} {p = P5 sy.Label sy.WantEquals sy.Exp (sy.Emit (made.Inner node.Row)) sy.RowsRest} refl (skip e h)))).2 (skip e h)
  record_go n (eat e h) = cc

  vids_go : {k : List Symbol} {f : Fix} {a : List Terminal} {o : List Made} (u : Status) → Accepts v (sy.Vids u ∷ sy.Emit (made.Inner node.MoreVids) ∷ k) f a o → Accepts v (sy.VidsRest u ∷ k) f a o
  vids_go {f = f} u (skip {t = t} {a = a} e h) = skip {p = P2 (sy.Vids u) (sy.Emit (made.Inner node.MoreVids))} (vid_first u (length (t ∷ a)) (looks f t) _ true 0 (inr e)).0 (skip e h)
  vids_go {f = f} u (eat {t = t} {a = a} e h) = skip {p = P2 (sy.Vids u) (sy.Emit (made.Inner node.MoreVids))} (vid_first u (length (t ∷ a)) (looks f t) _ true 0 (inl e)).0 (eat e h)

  digit_go : {k : List Symbol} {f : Fix} {a : List Terminal} {o : List Made} (r : Bool) (q : ℕ) → Accepts v (sy.Vids (status.Infix 0 r) ∷ sy.Emit (made.Lead (node.Directive (status.Infix 0 r)) q) ∷ k) f a o → Accepts v (sy.Digit r q ∷ k) f a o
  digit_go {f = f} r q (skip {t = t} {a = a} e h) = skip {p = P2 (sy.Vids (status.Infix 0 r)) (sy.Emit (made.Lead (node.Directive (status.Infix 0 r)) q))} (vid_first (status.Infix 0 r) (length (t ∷ a)) (looks f t) _ r q (inr e)).1 (skip e h)
  digit_go {f = f} r q (eat {t = t} {a = a} e h) = skip {p = P2 (sy.Vids (status.Infix 0 r)) (sy.Emit (made.Lead (node.Directive (status.Infix 0 r)) q))} (vid_first (status.Infix 0 r) (length (t ∷ a)) (looks f t) _ r q (inl e)).1 (eat e h)

  val_at : {k : List Symbol} {f : Fix} {o : List Made} (t : Terminal) (a : List Terminal) → Accepts v (sy.Pat ∷ sy.ValEquals ∷ k) f (t ∷ a) o → Accepts v (sy.ValBind ∷ k) f (t ∷ a) o
  val_at tok.Rec a h = let e = at_first v (skip_inv {s = sy.Pat} {p = P3 sy.Atpat (sy.PatOps root.Bare) sy.PatTyRest} refl h) in cc
  val_at {f = f} (tok.Id x s) a h = skip {p = P2 sy.Pat sy.ValEquals} (name_case f x s (λ l. at_val_bind (length (tok.Id x s ∷ a)) l ≡ Skip (P2 sy.Pat sy.ValEquals)) refl (λ l r. refl)) h
  val_at _ a h = skip refl h

  val_go : {k : List Symbol} {f : Fix} {a : List Terminal} {o : List Made} → Accepts v (sy.Pat ∷ sy.ValEquals ∷ k) f a o → Accepts v (sy.ValBind ∷ k) f a o
  val_go (skip {t = t} {a = a} e h) = val_at t a (skip e h)
  val_go (eat {t = t} {a = a} e h) = val_at t a (eat e h)

  no_decs_go : {k : List Symbol} {f : Fix} {o : List Made} (a : List Terminal) → Next decs_end f a → Accepts v k f a o → Accepts v (sy.Decs ∷ k) f a (made.Lead node.NoDecs (length a) ∷ o)
  no_decs_go [] n h = absurd n
  no_decs_go {f = f} (t ∷ a) n h = skip {p = P1 (sy.Emit (made.Lead node.NoDecs (length (t ∷ a))))} (decs_skip (length (t ∷ a)) (looks f t) n).1 (emit h)

  clauses_go : {k : List Symbol} {f : Fix} {a : List Terminal} {o : List Made} → Accepts v (sy.Head ∷ sy.ClauseRest ∷ k) f a o → Accepts v (sy.Clauses ∷ k) f a o
  clauses_go (skip e h) = skip refl (skip e h)
  clauses_go (eat e h) = skip refl (eat e h)

  con_go : {k : List Symbol} {f : Fix} {a : List Terminal} {o : List Made} → Accepts v (sy.OpVid ∷ sy.ConOf ∷ k) f a o → Accepts v (sy.ConBinds ∷ k) f a o
  con_go (skip e h) = skip refl (skip e h)
  con_go (eat e h) = skip refl (eat e h)

  ex_go : {k : List Symbol} {f : Fix} {a : List Terminal} {o : List Made} → Accepts v (sy.OpVid ∷ sy.ExRest ∷ k) f a o → Accepts v (sy.ExBinds ∷ k) f a o
  ex_go (skip e h) = skip refl (skip e h)
  ex_go (eat e h) = skip refl (eat e h)

  typ_go : {k : List Symbol} {f : Fix} {a : List Terminal} {o : List Made} → Accepts v (sy.TyVars ∷ sy.TyCon ∷ sy.WantEquals ∷ sy.Ty ∷ sy.Emit (made.Inner node.TypBind) ∷ sy.TypAnd ∷ k) f a o → Accepts v (sy.TypBinds ∷ k) f a o
  typ_go (skip e h) = skip refl (skip e h)
  typ_go (eat e h) = skip refl (eat e h)

  dat_go : {k : List Symbol} {f : Fix} {a : List Terminal} {o : List Made} → Accepts v (sy.TyVars ∷ sy.TyCon ∷ sy.WantEquals ∷ sy.ConBinds ∷ sy.Emit (made.Inner node.DatBind) ∷ sy.DatAnd ∷ k) f a o → Accepts v (sy.DatBinds ∷ k) f a o
  dat_go (skip e h) = skip refl (skip e h)
  dat_go (eat e h) = skip refl (eat e h)

  fun_go : {k : List Symbol} {f : Fix} {a : List Terminal} {o : List Made} → Accepts v (sy.Clauses ∷ sy.FunAnd ∷ k) f a o → Accepts v (sy.FunBinds ∷ k) f a o
  fun_go (skip e h) = skip refl (skip e h)
  fun_go (eat e h) = skip refl (eat e h)

  -- a declaration begins with a word
  dec_first : {f g : Fix} {a b : List Terminal} {o p : List Made} → Phrase v (IsDec g) f a b o p → (e : Fix) → Next is_dec e a
  dec_first (val_dec h d) e = refl
  dec_first (fun_dec h d) e = refl
  dec_first (type_dec h) e = refl
  dec_first (datatype_dec h) e = refl
  dec_first (exception_dec h) e = refl
  dec_first (local_dec i h d) e = refl
  dec_first (infix_dec h d) e = refl
  dec_first (infixr_dec h d) e = refl
  dec_first (nonfix_dec h) e = refl

  decs_first : {f g : Fix} {a b : List Terminal} {o p : List Made} → Phrase v (IsDecs g) f a b o p → Next decs_end g b → Next dec_end f a
  decs_first {f = f} {a = a} no_decs n = next_weaker _ _ decs_dec f a n
  decs_first (decs_semicolon h) n = refl
  decs_first {f = f} {a = a} (more_decs h d) n = next_weaker _ _ is_dec_end f a (dec_first h f)

  program_first : {f g : Fix} {a b : List Terminal} {o p : List Made} → Phrase v (IsProgram g) f a b o p → Next decs_end g b → Next dec_end f a
  program_first {f = f} {a = a} no_program n = next_weaker _ _ decs_dec f a n
  program_first (program_semicolon h) n = refl
  program_first {f = f} {a = a} (program_dec h d) n = next_weaker _ _ is_dec_end f a (dec_first h f)

  -- directives are put behind those in force
  abbrev Extends : Kind → Fix → Type 0
  Extends (IsDecs g) f = (h : Fix) × (g ≡ f ++ h)
  Extends (IsDec g) f = (h : Fix) × (g ≡ f ++ h)
  Extends (IsVids u g) f = (h : Fix) × (g ≡ f ++ h)
  Extends _ f = Unit {0}

  extends : {n : Kind} {f : Fix} {a b : List Terminal} {o p : List Made} → Phrase v n f a b o p → Extends n f
  extends {f = f} no_decs = ([], sym (append-nil f))
  extends (decs_semicolon h) = extends h
  extends {f = f} (more_decs h d) = let x = extends h in let y = extends d in (x.0 ++ y.0, y.1 ∙ ap (λ g. g ++ y.0) x.1 ∙ append_assoc f x.0 y.0)
  extends {f = f} (val_dec h d) = ([], sym (append-nil f))
  extends {f = f} (fun_dec h d) = ([], sym (append-nil f))
  extends {f = f} (type_dec h) = ([], sym (append-nil f))
  extends {f = f} (datatype_dec h) = ([], sym (append-nil f))
  extends {f = f} (exception_dec h) = ([], sym (append-nil f))
  extends (local_dec {e = e} {h = h} i x y) = (drop (length e) h, i)
  extends (infix_dec h d) = extends d
  extends (infixr_dec h d) = extends d
  extends (nonfix_dec h) = extends h
  extends {f = f} (last_vid {u = u} {x = x}) = (record { name = x; status = u } ∷ [], refl)
  extends {f = f} (more_vids {u = u} {x = x} h) = let y = extends h in (record { name = x; status = u } ∷ y.0, y.1 ∙ append_assoc f (record { name = x; status = u } ∷ []) y.0)
  extends _ = tt

  pub taken : {f g : Fix} {a b : List Terminal} {o p : List Made} → Phrase v (IsDecs g) f a b o p → take (length f) g ≡ f
  taken {f = f} d = let w = extends d in ap (take (length f)) w.1 ∙ take-append_seam f w.0

  pub taken_on : {f e g : Fix} {a b c d : List Terminal} {o p q u : List Made} → Phrase v (IsDecs e) f a b o p → Phrase v (IsDecs g) e c d q u → take (length f) g ≡ f
  taken_on {f = f} x y = let w = extends x in let z = extends y in ap (take (length f)) (z.1 ∙ ap (λ g. g ++ z.0) w.1 ∙ append_assoc f w.0 z.0) ∙ take-append_seam f (w.0 ++ z.0)

  let_end : {k : List Symbol} {f g : Fix} {c : List Terminal} {q : List Made} → take (length f) g ≡ f → Accepts v k f c q → Accepts v (sy.LetEnd (length f) ∷ k) g (tok.End ∷ c) q
  let_end {k = k} {c = c} {q = q} e w = let P : Fix → Type 0 = λ e. Accepts v k e c q in eat {p = P0} refl (subst P (sym e) w)

  local_end : {k : List Symbol} {f h g : Fix} {c : List Terminal} {q : List Made} (e : Fix) → take (length f) h ≡ f → g ≡ goes_on f e h → Accepts v k g c q → Accepts v (sy.LocalEnd (length f) (length e) ∷ k) h (tok.End ∷ c) q
  local_end {k = k} {h = h} {c = c} {q = q} e i j w = let P : Fix → Type 0 = λ e. Accepts v k e c q in eat {p = P0} refl (subst P (j ∙ ap (λ g. g ++ drop (length e) h) (sym i)) w)

  abbrev pub Goal : Kind → Fix → List Terminal → List Terminal → List Made → List Made → Type 0
  Goal (IsProgram g) f a b o p = (k : List Symbol) → Next decs_end g b → Accepts v k g b p → Accepts v (sy.Program ∷ k) f a o
  Goal (IsDecs g) f a b o p = (k : List Symbol) → Next decs_end g b → Accepts v k g b p → Accepts v (sy.Decs ∷ k) f a o
  Goal (IsDec g) f a b o p = (k : List Symbol) → Next dec_end g b → Accepts v k g b p → Accepts v (sy.Dec ∷ k) f a o
  Goal (IsDigit d) f a b o p = (k : List Symbol) (r : Bool) (q : ℕ) → Accepts v (sy.Vids (status.Infix d r) ∷ sy.Emit (made.Lead (node.Directive (status.Infix d r)) q) ∷ k) f b p → Accepts v (sy.Digit r q ∷ k) f a o
  Goal (IsVids u g) f a b o p = (k : List Symbol) → Next dec_end g b → Accepts v k g b p → Accepts v (sy.Vids u ∷ k) f a o
  Goal IsTyVars f a b o p = (k : List Symbol) → (Accepts v (sy.ValBind ∷ k) f b p → Accepts v (sy.ValTyVars ∷ k) f a o) × (Accepts v (sy.FunBinds ∷ k) f b p → Accepts v (sy.FunTyVars ∷ k) f a o) × (Accepts v (sy.TyCon ∷ k) f b p → Accepts v (sy.TyVars ∷ sy.TyCon ∷ k) f a o)
  Goal IsTyVarList f a b o p = (k : List Symbol) → Next ends_list f b → Accepts v k f b p → Accepts v (sy.TyVarList ∷ k) f a o
  Goal IsValBind f a b o p = (k : List Symbol) → Next dec_end f b → Accepts v k f b p → Accepts v (sy.ValBind ∷ k) f a o
  Goal IsFunBinds f a b o p = (k : List Symbol) → Next dec_end f b → Accepts v k f b p → Accepts v (sy.FunBinds ∷ k) f a o
  Goal IsClauses f a b o p = (k : List Symbol) → Next bind_end f b → Accepts v k f b p → Accepts v (sy.Clauses ∷ k) f a o
  Goal (IsClause m) f a b o p = (k : List Symbol) → Next (exp_end m) f b → Accepts v (sy.ClauseBar ∷ k) f b p → Accepts v (sy.Head ∷ sy.ClauseRest ∷ k) f a o
  Goal IsTypBinds f a b o p = (k : List Symbol) → Next dec_end f b → Accepts v k f b p → Accepts v (sy.TypBinds ∷ k) f a o
  Goal IsTypBind f a b o p = (k : List Symbol) → Next bind_end f b → Accepts v (sy.TypAnd ∷ k) f b p → Accepts v (sy.TypBinds ∷ k) f a o
  Goal IsDatBinds f a b o p = (k : List Symbol) → Next dec_end f b → Accepts v k f b p → Accepts v (sy.DatBinds ∷ k) f a o
  Goal IsDatBind f a b o p = (k : List Symbol) → Next bind_end f b → Accepts v (sy.DatAnd ∷ k) f b p → Accepts v (sy.DatBinds ∷ k) f a o
  Goal IsConBinds f a b o p = (k : List Symbol) → Next bind_end f b → Accepts v k f b p → Accepts v (sy.ConBinds ∷ k) f a o
  Goal IsConBind f a b o p = (k : List Symbol) → Next con_end f b → Accepts v (sy.ConBar ∷ k) f b p → Accepts v (sy.ConBinds ∷ k) f a o
  Goal IsExBinds f a b o p = (k : List Symbol) → Next dec_end f b → Accepts v k f b p → Accepts v (sy.ExBinds ∷ k) f a o
  Goal IsExBind f a b o p = (k : List Symbol) → Next bind_end f b → Accepts v (sy.ExAnd ∷ k) f b p → Accepts v (sy.ExBinds ∷ k) f a o
  Goal (IsExp m) f a b o p = (k : List Symbol) → Next (exp_end m) f b → Accepts v k f b p → Accepts v (sy.Exp ∷ k) f a o
  Goal (IsConjEnd m) f a b o p = (k : List Symbol) → Next (exp_end m) f b → Accepts v k f b p → Accepts v (sy.Exp ∷ k) f a o × Accepts v (sy.OrRight ∷ k) f a o
  Goal (IsPrefix m) f a b o p = (k : List Symbol) → Next (exp_end m) f b → Accepts v k f b p → Accepts v (sy.Prefix ∷ k) f a o
  Goal IsDisj f a b o p = (k : List Symbol) → Next disj_end f b → Accepts v (sy.OrRest ∷ k) f b p → Accepts v (sy.Atexp ∷ sy.Args ∷ sy.Ops root.Bare ∷ sy.TyRest ∷ sy.AndRest ∷ sy.OrRest ∷ k) f a o
  Goal IsConj f a b o p = (k : List Symbol) → Next conj_end f b → Accepts v (sy.AndRest ∷ k) f b p → Accepts v (sy.Atexp ∷ sy.Args ∷ sy.Ops root.Bare ∷ sy.TyRest ∷ sy.AndRest ∷ k) f a o
  Goal IsTyped f a b o p = (k : List Symbol) → Next typed_end f b → Accepts v (sy.TyRest ∷ k) f b p → Accepts v (sy.Atexp ∷ sy.Args ∷ sy.Ops root.Bare ∷ sy.TyRest ∷ k) f a o
  Goal (IsInfix c m) f a b o p = (k : List Symbol) → Next no_atexp f b → Next (exp_closes v m) f b → Accepts v (sy.Ops c ∷ k) f b p → Accepts v (sy.Atexp ∷ sy.Args ∷ sy.Ops c ∷ k) f a o
  Goal IsApp f a b o p = (k : List Symbol) → Accepts v (sy.Args ∷ k) f b p → Accepts v (sy.Atexp ∷ sy.Args ∷ k) f a o
  Goal IsAtexp f a b o p = (k : List Symbol) → Accepts v k f b p → Accepts v (sy.Atexp ∷ k) f a o
  Goal IsItems f a b o p = (k : List Symbol) → Next ends_list f b → Accepts v k f b p → Accepts v (sy.Items ∷ k) f a o
  Goal IsSeq f a b o p = (k : List Symbol) → Next seq_end f b → Accepts v k f b p → Accepts v (sy.Seq ∷ k) f a o
  Goal IsRows f a b o p = (k : List Symbol) → Next ends_list f b → Accepts v k f b p → Accepts v (sy.Rows ∷ k) f a o
  Goal IsMatch f a b o p = (k : List Symbol) → Next (exp_end true) f b → Accepts v k f b p → Accepts v (sy.Match ∷ k) f a o
  Goal (IsRule m) f a b o p = (k : List Symbol) → Next (exp_end m) f b → Accepts v (sy.MatchBar ∷ k) f b p → Accepts v (sy.Match ∷ k) f a o
  Goal _ f a b o p = Unit {0}

  root_fits : {f : Fix} {c m : Root} {a b : List Terminal} {o p : List Made} → Phrase v (IsInfix c m) f a b o p → fits c m ≡ true
  root_fits {c = c} (app_infix h) = go c
    where
      go : (c : Root) → fits c root.Bare ≡ true
      go root.Bare = refl
      go (root.Operator l r) = refl
  root_fits (operate i u y h g) = u

  pub complete : {n : Kind} {f : Fix} {a b : List Terminal} {o p : List Made} → Phrase v n f a b o p → Goal n f a b o p
  complete (no_program {f = f} {a = a}) = λ k n g. at_next v decs_end P0 (λ i m n l e. (decs_skip 0 l e).0) n g
  complete (program_semicolon h) = λ k n g. eat refl (complete h k n g)
  complete (program_dec {f = f} h d) = λ k n g. at_next v is_dec (P2 sy.Dec sy.Program) (λ i m n l e. (dec_moves 0 l e).0) (dec_first h f) (complete h _ (program_first d n) (complete d k n g))
  complete (no_decs {a = a}) = λ k n g. no_decs_go a n g
  complete (decs_semicolon h) = λ k n g. eat refl (complete h k n g)
  complete (more_decs {f = f} h d) = λ k n g. at_next v is_dec (P3 sy.Dec sy.Decs (sy.Emit (made.Inner node.MoreDecs))) (λ i m n l e. (dec_moves n l e).1) (dec_first h f) (complete h _ (decs_first d n) (complete d _ n (emit g)))
  complete (val_dec h d) = λ k n g. eat refl ((complete h _).0 (complete d _ n (emit g)))
  complete (fun_dec h d) = λ k n g. eat refl ((complete h _).1 (complete d _ n (emit g)))
  complete (type_dec h) = λ k n g. eat refl (complete h _ n (emit g))
  complete (datatype_dec h) = λ k n g. eat refl (complete h _ n (emit g))
  complete (exception_dec h) = λ k n g. eat refl (complete h _ n (emit g))
  complete (local_dec i h d) = λ k n g. eat refl (complete h _ refl (eat refl (complete d _ refl (local_end _ (taken_on h d) i (emit g)))))
  complete (infix_dec h d) = λ k n g. eat refl (complete h k false _ (complete d _ n (emit g)))
  complete (infixr_dec h d) = λ k n g. eat refl (complete h k true _ (complete d _ n (emit g)))
  complete (nonfix_dec h) = λ k n g. eat refl (complete h _ n (emit g))
  complete no_digit = λ k r q g. digit_go r q g
  complete digit = λ k r q g. eat refl g
  complete (last_vid {f = f} {u = u} {x = x} {s = s} {a = a}) = λ k n g. eat {p = P2 (sy.Emit (made.Lead (node.Vid x) (length (tok.Id x s ∷ a)))) (sy.VidsRest u)} (name_case f x s (λ l. at_vids u (length (tok.Id x s ∷ a)) l ≡ Eat (P2 (sy.Emit (made.Lead (node.Vid x) (length (tok.Id x s ∷ a)))) (sy.VidsRest u))) refl (λ l r. refl)) (emit (at_next v dec_end P0 (λ i m n l e. vids_end u l e) n g))
  complete (more_vids {f = f} {u = u} {x = x} {s = s} {a = a} h) = λ k n g. eat {p = P2 (sy.Emit (made.Lead (node.Vid x) (length (tok.Id x s ∷ a)))) (sy.VidsRest u)} (name_case f x s (λ l. at_vids u (length (tok.Id x s ∷ a)) l ≡ Eat (P2 (sy.Emit (made.Lead (node.Vid x) (length (tok.Id x s ∷ a)))) (sy.VidsRest u))) refl (λ l r. refl)) (emit (vids_go u (complete h _ n (emit g))))
  complete no_tyvars = λ k. (val_none v, fun_none v, ty_none v)
  complete one_tyvar = λ k. ((λ g. eat refl (emit g)), (λ g. eat refl (emit g)), (λ g. eat refl (emit g)))
  complete (tyvar_seq h) = λ k. ((λ g. eat refl (val_seq v _ (complete h _ refl (eat refl (emit g))))), (λ g. eat refl (fun_seq v _ (complete h _ refl (eat refl (emit g))))), (λ g. eat refl (complete h _ refl (eat refl (emit g)))))
  complete last_tyvar = λ k n g. eat refl (emit (at_next v ends_list P0 (λ i m n l e. tyvars_end l e) n g))
  complete (more_tyvars h) = λ k n g. eat refl (emit (eat refl (complete h _ n (emit g))))
  complete (last_valbind {f = f} {m = m} {c = c} h d) = λ k n g. val_go (complete_pat v h _ refl (eat refl (complete d _ (next_weaker _ _ (dec_exp m) f c n) (emit (at_next v dec_end P0 (λ i m n l e. (ands l e).0) n g)))))
  complete (more_valbinds h d e) = λ k n g. val_go (complete_pat v h _ refl (eat refl (complete d _ refl (emit (eat refl (complete e _ n (emit g)))))))
  complete (rec_valbind h) = λ k n g. eat refl (complete h _ n (emit g))
  complete (last_funbind {f = f} {b = b} h) = λ k n g. fun_go (complete h _ (next_weaker _ _ dec_bind f b n) (at_next v dec_end P0 (λ i m n l e. (ands l e).1) n g))
  complete (more_funbinds h d) = λ k n g. fun_go (complete h _ refl (eat refl (complete d _ n (emit g))))
  complete (last_clause {f = f} {m = m} {b = b} h) = λ k n g. clauses_go (complete h k (next_weaker _ _ (bind_exp m) f b n) (at_next v bind_end P0 (λ i m n l e. (bars l e).0) n g))
  complete (more_clauses h d) = λ k n g. clauses_go (complete h k refl (eat refl (complete d _ n (emit g))))
  complete (clause h d) = λ k n g. complete_head v h _ refl (eat refl (complete d _ n (emit g)))
  complete (typed_clause h d e) = λ k n g. complete_head v h _ refl (eat refl (complete_ty v d _ refl (eat refl (complete e _ n (emit g)))))
  complete (last_typbind {f = f} {b = b} h) = λ k n g. complete h k (next_weaker _ _ dec_bind f b n) (at_next v dec_end P0 (λ i m n l e. (ands l e).2) n g)
  complete (more_typbinds h d) = λ k n g. complete h k refl (eat refl (complete d _ n (emit g)))
  complete (typbind {f = f} {d = d3} h d e) = λ k n g. typ_go ((complete h _).2 ((complete_ty v d _).0 (eat refl (complete_ty v e _ (next_weaker _ _ bind_ty f d3 n) (emit g)))))
  complete (last_datbind {f = f} {b = b} h) = λ k n g. complete h k (next_weaker _ _ dec_bind f b n) (at_next v dec_end P0 (λ i m n l e. (ands l e).3) n g)
  complete (more_datbinds h d) = λ k n g. complete h k refl (eat refl (complete d _ n (emit g)))
  complete (datbind h d e) = λ k n g. dat_go ((complete h _).2 ((complete_ty v d _).0 (eat refl (complete e _ n (emit g)))))
  complete (last_conbind {f = f} {b = b} h) = λ k n g. complete h k (next_weaker _ _ bind_con f b n) (at_next v bind_end P0 (λ i m n l e. (bars l e).1) n g)
  complete (more_conbinds h d) = λ k n g. complete h k refl (eat refl (complete d _ n (emit g)))
  complete (conbind {f = f} {b = b} h) = λ k n g. con_go ((complete_pat v h _).0 (at_next v con_end (P2 (sy.Emit (made.Inner node.ConBind)) sy.ConBar) (λ i m n l e. con_ofs l e) n (emit g)))
  complete (conbind_of {f = f} {c = c} h d) = λ k n g. con_go ((complete_pat v h _).0 (eat refl (complete_ty v d _ (next_weaker _ _ con_end_ty f c n) (emit g))))
  complete (last_exbind {f = f} {b = b} h) = λ k n g. complete h k (next_weaker _ _ dec_bind f b n) (at_next v dec_end P0 (λ i m n l e. (ands l e).4) n g)
  complete (more_exbinds h d) = λ k n g. complete h k refl (eat refl (complete d _ n (emit g)))
  complete (exbind h) = λ k n g. ex_go ((complete_pat v h _).0 (at_next v bind_end (P2 (sy.Emit (made.Inner node.ExBind)) sy.ExAnd) (λ i m n l e. ex_rests l e) n (emit g)))
  complete (exbind_of {f = f} {c = c} h d) = λ k n g. ex_go ((complete_pat v h _).0 (eat refl (complete_ty v d _ (next_weaker _ _ bind_ty f c n) (emit g))))
  complete (exbind_is h d) = λ k n g. ex_go ((complete_pat v h _).0 (eat refl ((complete_pat v d _).0 (emit g))))
  complete (disj_exp {f = f} {b = b} h) = λ k n g. let w = next_weaker _ _ (exp_or false) f b n in let u = complete h (sy.HandleRest ∷ k) (next_weaker _ _ or_disj f b w) (or_skip v w (handle_skip v false n g)) in exp_go v (exp_first v u) u
  complete (handle h d) = λ k n g. let u = complete h (sy.HandleRest ∷ k) refl (skip {p = P0} refl (eat refl (complete d _ n (emit g)))) in exp_go v (exp_first v u) u
  complete (conj_end_exp h) = λ k n g. (complete h k n g).0
  complete (orelse_end {f = f} {m = m} {c = c} h d) = λ k n g. let w = next_weaker _ _ (exp_or m) f c n in let u = complete h (sy.HandleRest ∷ k) refl (eat refl (complete d _ n (emit (or_skip v w (handle_skip v m n g)))).1) in exp_go v (exp_first v u) u
  complete (prefix_end h) = λ k n g. let w = complete h k n g in let u = word_go v (word_first v w) w in (u.0, u.1)
  complete (andalso_end {f = f} {m = m} {c = c} h d) = λ k n g.
      let w = next_weaker _ _ (exp_or m) f c n in
      let x = next_weaker _ _ or_disj f c w in
      let y = complete d (sy.Emit (made.Inner node.Andalso) ∷ sy.AndRest ∷ k) n (emit (and_skip v x g)) in
      let z = complete d (sy.Emit (made.Inner node.Andalso) ∷ sy.AndRest ∷ sy.OrRest ∷ sy.HandleRest ∷ k) n (emit (and_skip v x (or_skip v w (handle_skip v m n g)))) in
      let s = complete h k refl (eat refl (word_go v (word_first v y) y).2) in
      let t = complete h (sy.OrRest ∷ sy.HandleRest ∷ k) refl (eat refl (word_go v (word_first v z) z).2) in
      (exp_go v (exp_first v t) t, or_go v (exp_first v s) s)
  complete (raise h) = λ k n g. eat refl (complete h _ n (emit g))
  complete (if_exp h d e) = λ k n g. eat refl (complete h _ refl (eat refl (complete d _ refl (eat refl (complete e _ n (emit g))))))
  complete (while_exp h d) = λ k n g. eat refl (complete h _ refl (eat refl (complete d _ n (emit g))))
  complete (case_exp h d) = λ k n g. eat refl (complete h _ refl (eat refl (complete d _ n (emit g))))
  complete (fn_exp h) = λ k n g. eat refl (complete h _ n (emit g))
  complete (conj_disj {f = f} {b = b} h) = λ k n g. complete h _ (next_weaker _ _ disj_conj f b n) (and_skip v n g)
  complete (orelse {f = f} {c = c} h d) = λ k n g. let u = complete d (sy.Emit (made.Inner node.Orelse) ∷ sy.OrRest ∷ k) (next_weaker _ _ disj_conj f c n) (and_skip v n (emit g)) in complete h k refl (eat refl (or_go v (exp_first v u) u))
  complete (typed_conj {f = f} {b = b} h) = λ k n g. complete h _ (next_weaker _ _ conj_typed f b n) (ty_skip v n g)
  complete (andalso {f = f} {c = c} h d) = λ k n g. let u = complete d (sy.Emit (made.Inner node.Andalso) ∷ sy.AndRest ∷ k) (next_weaker _ _ conj_typed f c n) (ty_skip v n (emit g)) in complete h k refl (eat refl (and_go v (exp_first v u) u))
  complete (infix_typed {f = f} {w = w} {b = b} h) = λ k n g. complete h _ (next_weaker _ _ typed_no_atexp f b n) (next_weaker _ _ (typed_closes v w) f b n) (ops_skip v n g)
  complete (typed {f = f} {c = c} h d) = λ k n g. complete h k refl (eat refl (complete_ty v d _ (next_weaker _ _ typed_ty f c n) (emit g)))
  complete (app_infix h) = λ k n s g. complete h _ (args_skip v n g)
  complete (operate {f = f} {t = t} {l = l} {r = r} {e = e} {w = w} {b = b} {c = c} i u y h g) = λ k n cl q. complete h k (operator_no_atexp (looks f t) i) (rw i y) (ops_eat v e i u (complete g _ n (next_weaker _ _ (λ l2. closes_on v l r w l2 (root_fits g)) f c cl) (ops_end v l r cl (emit q))))
  complete (atexp_app h) = λ k g. complete h _ g
  complete (apply h d) = λ k g. let u = complete d (sy.Emit (made.Inner node.Apply) ∷ sy.Args ∷ k) (emit g) in complete h k (args_go v (exp_first v u) u)
  complete (vid_exp h) = λ k g. let u = (complete_pat v h k).0 g in id_atexp v (id_first v u) u
  complete (scon_exp h) = λ k g. (complete_pat v h k).1 g
  complete empty_record = λ k g. eat refl (eat refl (emit g))
  complete (record_exp h) = λ k g. eat refl (record_go _ (complete h _ refl (eat refl (emit g))))
  complete unit = λ k g. eat refl (eat refl (emit g))
  complete (tuple h d) = λ k g. eat refl (paren_go _ (complete h _ refl (eat refl (complete d _ refl (eat refl (emit g))))))
  complete (sequence h d) = λ k g. eat refl (paren_go _ (complete h _ refl (eat refl (complete d _ refl (eat refl (emit g))))))
  complete empty_list = λ k g. eat refl (eat refl (emit g))
  complete (list h) = λ k g. eat refl (list_go _ (complete h _ refl (eat refl (emit g))))
  complete (let_exp h d) = λ k g. eat refl (complete h _ refl (eat {p = P0} refl (complete d _ refl (let_end (taken h) (emit g)))))
  complete (paren h) = λ k g. eat refl (paren_go _ (complete h _ refl (eat refl (emit g))))
  complete (last_item {f = f} {m = m} {b = b} h) = λ k n g. items_go v (complete h _ (next_weaker _ _ (list_ends m) f b n) (items_skip v n g))
  complete (more_items h d) = λ k n g. items_go v (complete h _ refl (eat refl (complete d _ n (emit g))))
  complete (last_seq {f = f} {m = m} {b = b} h) = λ k n g. seq_go v (complete h _ (next_weaker _ _ (seq_exp m) f b n) (seq_skip v n g))
  complete (more_seq h d) = λ k n g. seq_go v (complete h _ refl (eat refl (complete d _ n (emit g))))
  complete (last_row {f = f} {m = m} {c = c} h d) = λ k n g. rows_go v (complete_ty v h _ (eat refl (complete d _ (next_weaker _ _ (list_ends m) f c n) (emit (rows_skip v n g)))))
  complete (more_rows h d e) = λ k n g. rows_go v (complete_ty v h _ (eat refl (complete d _ refl (emit (eat refl (complete e _ n (emit g)))))))
  complete (last_rule {f = f} {m = m} {b = b} h) = λ k n g. complete h k (next_weaker _ _ (exp_true m) f b n) (bar_skip v n g)
  complete (more_rules h d) = λ k n g. complete h k refl (eat refl (complete d _ n (emit g)))
  complete (rule h d) = λ k n g. match_go v (complete_pat v h _ refl (eat refl (complete d _ n (emit g))))
  complete _ = tt

  pub accepted : {f : Fix} {a : List Terminal} {o : List Made} → Parses v f a o → Accepts v start f a o
  accepted (g, h) = complete h (sy.Eof ∷ []) refl (eat {p = P0} refl done)
