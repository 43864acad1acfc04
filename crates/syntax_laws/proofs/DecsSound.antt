-- What the symbols of declarations and of programs read is one.
use Rattle.std.proofs.Common.{◌≡◌, ℕ, ◌++◌, inl, inr, Bool, true, false, drop, cond, List, ◌∷◌, length, refl, ap}
use Rattle.smlc_base.specs.declared.names.Name.{Name}
use Rattle.sml_tree.specs.declared.status.Status.{Status}
use Rattle.sml_tree.specs.declared.tree_node.TreeNode.TheVariants as node
use Rattle.sml_syntax.specs.declared.forms.Terminal.{Terminal}
use Rattle.sml_syntax.specs.declared.forms.Terminal.TheVariants as tok
use Rattle.sml_syntax.specs.declared.forms.Shape.TheVariants as shape
use Rattle.sml_syntax.specs.declared.forms.Made.{Made}
use Rattle.sml_syntax.specs.declared.forms.Made.TheVariants as made
use Rattle.sml_syntax.specs.declared.forms.Look.{Look}
use Rattle.sml_syntax.specs.declared.symbol.Symbol.{Symbol}
use Rattle.sml_syntax.specs.declared.symbol.Symbol.TheVariants as sy
use Rattle.sml_syntax.specs.declared.symbol.Push.TheVariants.{P0, P1, P2, P3, P4}
use Rattle.sml_syntax.specs.declared.symbol.Move.TheVariants.{Refuse, Skip}
use Rattle.sml_syntax.specs.Fixity.{Fix, directed}
use Rattle.sml_syntax.specs.Moves.{is_dec}
use Rattle.sml_syntax.specs.Machine.{has_infix}
use Rattle.sml_syntax.specs.Grammar.{IsClause, no_program, program_semicolon, program_dec, no_decs, decs_semicolon, more_decs, val_dec, fun_dec, type_dec, datatype_dec, exception_dec, local_dec, infix_dec, infixr_dec, nonfix_dec, no_digit, digit, last_vid, more_vids, no_tyvars, one_tyvar, tyvar_seq, last_tyvar, more_tyvars, last_valbind, more_valbinds, rec_valbind, last_funbind, more_funbinds, last_clause, more_clauses, clause, typed_clause, last_typbind, more_typbinds, typbind, last_datbind, more_datbinds, datbind, last_conbind, more_conbinds, conbind, conbind_of, last_exbind, more_exbinds, exbind, exbind_of, exbind_is, atpat_operand}
use Rattle.syntax_laws.proofs.Means.{Seen, plain, operator, other, Means, Kept, Keeps, to_token, to_node, at_nodes, led}
use Rattle.syntax_laws.proofs.ProgramsAccepted.{taken_on}
use Rattle.syntax_laws.proofs.PatternsSound.{pat_on}
use Rattle.syntax_laws.proofs.ExpressionsSound.{closed}

module _ (v : Bool) (k : List Symbol) (f : Fix) (a : List Terminal) (o : List Made) where
  -- an identifier of a directive, and what stands behind it
  vids_on : (u : Status) (x : Name) (s : Bool) {p : List Made} → o ≡ made.Lead (node.Vid x) (length (tok.Id x s ∷ a)) ∷ p → Means v (sy.VidsRest u ∷ k) (directed f x u) a p → Means v (sy.Vids u ∷ k) f (tok.Id x s ∷ a) o
  vids_on u x s e (inl (g, b, q, h, w)) = (g, b, q, at_nodes e (more_vids h), w)
  vids_on u x s {p = p} e (inr w) = (directed f x u, a, p, at_nodes e last_vid, w)

module _ (v : Bool) (k : List Symbol) (f : Fix) (a : List Terminal) (o : List Made) where
  -- programs and sequences of declarations
  pub keeps_program : {t : Terminal} {l : Look} → Seen f t l → Keeps v sy.Program k f t l a o
  keeps_program (other tok.Semicolon _) = λ (g, b, p, h, w). (g, b, p, program_semicolon h, w)
  keeps_program {t = t} {l = l} _ = go (is_dec l)
    where
      go : (b : Bool) → Kept v (cond b (Skip (P2 sy.Dec sy.Program)) (Skip P0)) sy.Program k f t a o
      go true = λ (g, b, p, h, (g2, c, q, i, w)). (g2, c, q, program_dec h i, w)
      go false = λ w. (f, _, o, no_program, w)

  pub keeps_decs : {t : Terminal} {l : Look} → Seen f t l → Keeps v sy.Decs k f t l a o
  keeps_decs (other tok.Semicolon _) = λ (g, b, p, h, w). (g, b, p, decs_semicolon h, w)
  keeps_decs {t = t} {l = l} _ = go (is_dec l)
    where
      go : (b : Bool) → Kept v (cond b (Skip (P3 sy.Dec sy.Decs (sy.Emit (made.Inner node.MoreDecs)))) (Skip (P1 (sy.Emit (made.Lead node.NoDecs (length (t ∷ a))))))) sy.Decs k f t a o
      go true = λ (g, b, p, h, (g2, c, q, i, (r, e, w))). (g2, c, r, more_decs h (to_node e i), w)
      go false = λ (q, e, w). (f, _, q, at_nodes e no_decs, w)

  -- declarations
  pub keeps_dec : {t : Terminal} {l : Look} → Seen f t l → Keeps v sy.Dec k f t l a o
  keeps_dec (other tok.Val _) = λ (b, p, h, (c, q, i, (r, e, w))). (f, c, r, val_dec h (to_node e i), w)
  keeps_dec (other tok.Fun _) = λ (b, p, h, (c, q, i, (r, e, w))). (f, c, r, fun_dec h (to_node e i), w)
  keeps_dec (other tok.Type _) = λ (b, p, h, (q, e, w)). (f, b, q, type_dec (to_node e h), w)
  keeps_dec (other tok.Datatype _) = λ (b, p, h, (q, e, w)). (f, b, q, datatype_dec (to_node e h), w)
  keeps_dec (other tok.Exception _) = λ (b, p, h, (q, e, w)). (f, b, q, exception_dec (to_node e h), w)
  keeps_dec (other tok.Local _) = λ (g, b, p, h, (g2, c, d, q, e, i, (r, e2, w))). (_, d, r, local_dec (ap (λ y. y ++ drop (length g) g2) (taken_on v h i)) (to_token e h) (to_node e2 i), w)
  keeps_dec (other tok.Infix _) = λ (d, g, b, c, p, q, h, i, w). (g, c, q, infix_dec h i, w)
  keeps_dec (other tok.Infixr _) = λ (d, g, b, c, p, q, h, i, w). (g, c, q, infixr_dec h i, w)
  keeps_dec (other tok.Nonfix _) = λ (g, b, p, h, (q, e, w)). (g, b, q, nonfix_dec (to_node e h), w)
  keeps_dec _ = tt

  pub keeps_local_in : (j : ℕ) {t : Terminal} {l : Look} → Seen f t l → Keeps v (sy.LocalIn j) k f t l a o
  keeps_local_in j (other tok.In _) = λ (g, b, p, h, (c, e, w)). (g, a, c, p, refl, to_token e h, w)
  keeps_local_in j _ = tt

  pub keeps_local_end : (j m : ℕ) {t : Terminal} {l : Look} → Seen f t l → Keeps v (sy.LocalEnd j m) k f t l a o
  keeps_local_end j m (other tok.End _) = λ w. (a, refl, w)
  keeps_local_end j m _ = tt

  -- directives
  pub keeps_digit : (r : Bool) (i : ℕ) {t : Terminal} {l : Look} → Seen f t l → Keeps v (sy.Digit r i) k f t l a o
  keeps_digit r i (other (tok.Int z (shape.Digit d)) _) = λ (g, b, p, h, (q, e, w)). (d, g, a, b, o, q, digit, to_node e h, w)
  keeps_digit r i _ = λ (g, b, p, h, (q, e, w)). (0, g, _, b, o, q, no_digit, to_node e h, w)

  pub keeps_vids : (u : Status) {t : Terminal} {l : Look} → Seen f t l → Keeps v (sy.Vids u) k f t l a o
  keeps_vids u (plain {x = x} {s = s} _) = λ (p, e, w). vids_on v k f a o u x s e w
  keeps_vids u (operator {x = x} {s = s} _) = λ (p, e, w). vids_on v k f a o u x s e w
  keeps_vids u _ = tt

  pub keeps_vids_rest : (u : Status) {t : Terminal} {l : Look} → Seen f t l → Keeps v (sy.VidsRest u) k f t l a o
  keeps_vids_rest u (plain _) = λ (g, b, p, h, (q, e, w)). inl (g, b, q, to_node e h, w)
  keeps_vids_rest u (operator _) = λ (g, b, p, h, (q, e, w)). inl (g, b, q, to_node e h, w)
  keeps_vids_rest u _ = λ w. inr w

  -- type variables that a declaration binds
  pub keeps_ty_vars : {t : Terminal} {l : Look} → Seen f t l → Keeps v sy.TyVars k f t l a o
  keeps_ty_vars (other (tok.TyVar x) _) = λ (q, e, w). (_, q, at_nodes e one_tyvar, w)
  keeps_ty_vars (other tok.Open _) = λ (b, p, h, (c, e, (q, e2, w))). (c, q, tyvar_seq (to_node e2 (to_token e h)), w)
  keeps_ty_vars _ = λ (q, e, w). (_, q, at_nodes e no_tyvars, w)

  pub keeps_ty_var_list : {t : Terminal} {l : Look} → Seen f t l → Keeps v sy.TyVarList k f t l a o
  keeps_ty_var_list (other (tok.TyVar x) _) = λ (q, e, (b, p, g, w)). (b, p, at_nodes e (g x), w)
  keeps_ty_var_list _ = tt

  pub keeps_ty_vars_rest : {t : Terminal} {l : Look} → Seen f t l → Keeps v sy.TyVarsRest k f t l a o
  keeps_ty_vars_rest (other tok.Comma _) = λ (b, p, h, (q, e, w)). (b, q, (λ x. more_tyvars (to_node e h)), w)
  keeps_ty_vars_rest _ = λ w. (_, _, (λ x. last_tyvar), w)

  -- value bindings
  pub keeps_val_ty_vars : {t : Terminal} {l : Look} → Seen f t l → Keeps v sy.ValTyVars k f t l a o
  keeps_val_ty_vars (other (tok.TyVar x) _) = λ (q, e, w). (_, q, at_nodes e one_tyvar, w)
  keeps_val_ty_vars (other tok.Open _) = λ (c, q, g, w). let (b, p, h, i) = g refl in (b, p, h, (c, q, i, w))
  keeps_val_ty_vars _ = λ (q, e, w). (_, q, at_nodes e no_tyvars, w)

  pub keeps_val_paren : (i : ℕ) {t : Terminal} {l : Look} → Seen f t l → Keeps v (sy.ValParen i) k f t l a o
  keeps_val_paren i (other (tok.TyVar x) _) = λ (b, p, h, (c, e, (q, e2, (d, r, j, w)))). (d, r, (λ n. (c, q, tyvar_seq (to_node (led node.TyVarSeq e2 n) (to_token e h)), j)), w)
  keeps_val_paren i _ = λ (q, e, (b, p, g, w)). let (c, r, j, (d, u, m, x)) = pat_on v (sy.ValEquals ∷ k) f b p w in (d, u, (λ n. (_, q, at_nodes (led node.NoTyVars e n) no_tyvars, m _ _ (j _ _ (atpat_operand (g n))))), x)

  pub keeps_val_bind : {t : Terminal} {l : Look} → Seen f t l → Keeps v sy.ValBind k f t l a o
  keeps_val_bind (other tok.Rec _) = λ (b, p, h, (q, e, w)). (b, q, rec_valbind (to_node e h), w)
  keeps_val_bind _ = λ (b, p, h, (c, q, g, w)). (c, q, g _ _ h, w)

  pub keeps_val_equals : {t : Terminal} {l : Look} → Seen f t l → Keeps v sy.ValEquals k f t l a o
  keeps_val_equals (other tok.Equals _) = λ (m, b, p, h, y, (q, e, (c, r, g, w))). (c, r, (λ d u i. g m _ _ _ _ i (to_node e h)), w)
  keeps_val_equals _ = tt

  pub keeps_val_and : {t : Terminal} {l : Look} → Seen f t l → Keeps v sy.ValAnd k f t l a o
  keeps_val_and (other tok.And _) = λ (b, p, h, (q, e, w)). (b, q, (λ m c d u s i j. more_valbinds i j (to_node e h)), w)
  keeps_val_and _ = λ w. (_, _, (λ m c d u s i j. last_valbind i j), w)

  -- function bindings
  pub keeps_fun_ty_vars : {t : Terminal} {l : Look} → Seen f t l → Keeps v sy.FunTyVars k f t l a o
  keeps_fun_ty_vars (other (tok.TyVar x) _) = λ (q, e, w). (_, q, at_nodes e one_tyvar, w)
  keeps_fun_ty_vars (other tok.Open _) = λ (c, q, g, w). let (b, p, h, i) = g refl in (b, p, h, (c, q, i, w))
  keeps_fun_ty_vars _ = λ (q, e, w). (_, q, at_nodes e no_tyvars, w)

  pub keeps_fun_paren : (i : ℕ) {t : Terminal} {l : Look} → Seen f t l → Keeps v (sy.FunParen i) k f t l a o
  keeps_fun_paren i (other (tok.TyVar x) _) = λ (b, p, h, (c, e, (q, e2, (d, r, j, w)))). (d, r, (λ n. (c, q, tyvar_seq (to_node (led node.TyVarSeq e2 n) (to_token e h)), j)), w)
  keeps_fun_paren i {t = t} _ = go (has_infix f)
    where
      go : (b : Bool) → Kept v (cond b (Skip (P4 (sy.Emit (made.Lead node.NoTyVars i)) (sy.HeadParen i) sy.ClauseRest sy.FunAnd)) Refuse) (sy.FunParen i) k f t a o
      go true = λ (q, e, (b, p, g, (c, r, j, (d, u, m, w)))). (d, u, (λ n. (_, q, at_nodes (led node.NoTyVars e n) no_tyvars, m _ _ (j _ _ (g n)))), w)
      go false = tt

  pub keeps_fun_binds : {t : Terminal} {l : Look} → Seen f t l → Keeps v sy.FunBinds k f t l a o
  keeps_fun_binds s = λ (b, p, h, (c, q, g, w)). (c, q, g _ _ h, w)

  pub keeps_fun_and : {t : Terminal} {l : Look} → Seen f t l → Keeps v sy.FunAnd k f t l a o
  keeps_fun_and (other tok.And _) = λ (b, p, h, (q, e, w)). (b, q, (λ c u i. more_funbinds i (to_node e h)), w)
  keeps_fun_and _ = λ w. (_, _, (λ c u i. last_funbind i), w)

  pub keeps_clauses : {t : Terminal} {l : Look} → Seen f t l → Keeps v sy.Clauses k f t l a o
  keeps_clauses s = λ (b, p, h, (c, q, g, w)). (c, q, g _ _ h, w)

  pub keeps_clause_rest : {t : Terminal} {l : Look} → Seen f t l → Keeps v sy.ClauseRest k f t l a o
  keeps_clause_rest (other tok.Colon _) = λ (b, p, h, (c, e, (m, d, q, i, y, (r, e2, (u, z, g, w))))). (u, z, (λ c2 q2 j. g m _ _ y (typed_clause j (to_token e h) (to_node e2 i))), w)
  keeps_clause_rest (other tok.Equals _) = λ (m, d, q, i, y, (r, e, (u, z, g, w))). (u, z, (λ c q2 j. g m _ _ y (clause j (to_node e i))), w)
  keeps_clause_rest _ = tt

  pub keeps_clause_bar : {t : Terminal} {l : Look} → Seen f t l → Keeps v sy.ClauseBar k f t l a o
  keeps_clause_bar (other tok.Bar _) = λ (b, p, h, (q, e, w)). (b, q, (λ m c u x i. more_clauses (closed IsClause m x i) (to_node e h)), w)
  keeps_clause_bar _ = λ w. (_, _, (λ m c u x i. last_clause i), w)

  -- type bindings
  pub keeps_typ_binds : {t : Terminal} {l : Look} → Seen f t l → Keeps v sy.TypBinds k f t l a o
  keeps_typ_binds s = λ (b, p, h, (c, q, i, (d, e, (d2, r, j, (u, e2, (x, z, g, w)))))). (x, z, g _ _ (typbind h (to_token e i) (to_node e2 j)), w)

  pub keeps_typ_and : {t : Terminal} {l : Look} → Seen f t l → Keeps v sy.TypAnd k f t l a o
  keeps_typ_and (other tok.And _) = λ (b, p, h, (q, e, w)). (b, q, (λ c u i. more_typbinds i (to_node e h)), w)
  keeps_typ_and _ = λ w. (_, _, (λ c u i. last_typbind i), w)

  -- datatype bindings and their constructors
  pub keeps_dat_binds : {t : Terminal} {l : Look} → Seen f t l → Keeps v sy.DatBinds k f t l a o
  keeps_dat_binds s = λ (b, p, h, (c, q, i, (d, e, (d2, r, j, (u, e2, (x, z, g, w)))))). (x, z, g _ _ (datbind h (to_token e i) (to_node e2 j)), w)

  pub keeps_dat_and : {t : Terminal} {l : Look} → Seen f t l → Keeps v sy.DatAnd k f t l a o
  keeps_dat_and (other tok.And _) = λ (b, p, h, (q, e, w)). (b, q, (λ c u i. more_datbinds i (to_node e h)), w)
  keeps_dat_and _ = λ w. (_, _, (λ c u i. last_datbind i), w)

  pub keeps_con_binds : {t : Terminal} {l : Look} → Seen f t l → Keeps v sy.ConBinds k f t l a o
  keeps_con_binds s = λ (b, p, h, (c, q, g, w)). (c, q, g _ _ h, w)

  pub keeps_con_of : {t : Terminal} {l : Look} → Seen f t l → Keeps v sy.ConOf k f t l a o
  keeps_con_of (other tok.Of _) = λ (b, p, h, (q, e, (c, r, g, w))). (c, r, (λ d u i. g _ _ (conbind_of i (to_node e h))), w)
  keeps_con_of _ = λ (q, e, (c, r, g, w)). (c, r, (λ d u i. g _ _ (conbind (to_node e i))), w)

  pub keeps_con_bar : {t : Terminal} {l : Look} → Seen f t l → Keeps v sy.ConBar k f t l a o
  keeps_con_bar (other tok.Bar _) = λ (b, p, h, (q, e, w)). (b, q, (λ c u i. more_conbinds i (to_node e h)), w)
  keeps_con_bar _ = λ w. (_, _, (λ c u i. last_conbind i), w)

  -- exception bindings
  pub keeps_ex_binds : {t : Terminal} {l : Look} → Seen f t l → Keeps v sy.ExBinds k f t l a o
  keeps_ex_binds s = λ (b, p, h, (c, q, g, w)). (c, q, g _ _ h, w)

  pub keeps_ex_rest : {t : Terminal} {l : Look} → Seen f t l → Keeps v sy.ExRest k f t l a o
  keeps_ex_rest (other tok.Of _) = λ (b, p, h, (q, e, (c, r, g, w))). (c, r, (λ d u i. g _ _ (exbind_of i (to_node e h))), w)
  keeps_ex_rest (other tok.Equals _) = λ (b, p, h, (q, e, (c, r, g, w))). (c, r, (λ d u i. g _ _ (exbind_is i (to_node e h))), w)
  keeps_ex_rest _ = λ (q, e, (c, r, g, w)). (c, r, (λ d u i. g _ _ (exbind (to_node e i))), w)

  pub keeps_ex_and : {t : Terminal} {l : Look} → Seen f t l → Keeps v sy.ExAnd k f t l a o
  keeps_ex_and (other tok.And _) = λ (b, p, h, (q, e, w)). (b, q, (λ c u i. more_exbinds i (to_node e h)), w)
  keeps_ex_and _ = λ w. (_, _, (λ c u i. last_exbind i), w)
