-- What the machine accepts is a program, with its nodes.
use Rattle.std.proofs.Common.{Bool, List, ◌∷◌, refl, ap, ◌∙◌, subst}
use Rattle.sml_syntax.specs.declared.forms.Terminal.{Terminal}
use Rattle.sml_syntax.specs.declared.forms.Terminal.TheVariants as tok
use Rattle.sml_syntax.specs.declared.forms.Made.{Made}
use Rattle.sml_syntax.specs.declared.forms.Look.{Look}
use Rattle.sml_syntax.specs.declared.symbol.Symbol.{Symbol}
use Rattle.sml_syntax.specs.declared.symbol.Symbol.TheVariants as sy
use Rattle.sml_syntax.specs.declared.symbol.Move.{Move}
use Rattle.sml_syntax.specs.Fixity.{Fix}
use Rattle.sml_syntax.specs.Machine.{Accepts, done, emit, skip, eat, start}
use Rattle.sml_syntax.specs.Grammar.{Parses}
use Rattle.syntax_laws.proofs.Means.{Seen, seen, Means, Kept, Keeps, to_token, to_node}
use Rattle.syntax_laws.proofs.IdentifiersSound.{keeps_op_vid, keeps_any_vid, keeps_long_vid, keeps_any_long, keeps_ty_con, keeps_label, keeps_want_close, keeps_want_close_bracket, keeps_want_close_brace, keeps_want_equals, keeps_want_colon, keeps_want_then, keeps_want_else, keeps_want_do, keeps_want_of, keeps_want_in, keeps_want_arrow, keeps_eof}
use Rattle.syntax_laws.proofs.TypesSound.{keeps_ty, keeps_ty_arrow, keeps_ty_factors, keeps_factors, keeps_factors_rest, keeps_ty_atom, keeps_ty_post, keeps_ty_paren, keeps_ty_seq_con, keeps_tys, keeps_tys_rest, keeps_record_ty, keeps_ty_rows, keeps_ty_rows_rest}
use Rattle.syntax_laws.proofs.PatternsSound.{keeps_pat_ops, keeps_pat_operand, keeps_pat_arg, keeps_pat_ty_rest, keeps_atpat, keeps_pat_paren, keeps_pat_paren_rest, keeps_pats, keeps_pats_rest, keeps_pat_list, keeps_pat_record, keeps_pat_rows, keeps_pat_rows_rest, keeps_pat_row, keeps_pun_row, keeps_pun_row_ty, keeps_pat, keeps_pat_op, keeps_pat_name, keeps_pat_name_ty, keeps_pat_long}
use Rattle.syntax_laws.proofs.HeadsSound.{keeps_head, keeps_head_name, keeps_head_op, keeps_atpats, keeps_atpats_rest, keeps_head_paren, keeps_head_first_op, keeps_head_first_name, keeps_head_first, keeps_head_end, keeps_head_second, keeps_head_closed, keeps_head_second_name, keeps_head_second_end}
use Rattle.syntax_laws.proofs.ExpressionsSound.{keeps_exp, keeps_prefix, keeps_handle_rest, keeps_or_rest, keeps_or_right, keeps_and_rest, keeps_and_right, keeps_ty_rest, keeps_ops, keeps_args, keeps_match, keeps_match_bar, keeps_atexp, keeps_let_end, keeps_paren_exp, keeps_paren_rest, keeps_seq, keeps_seq_rest, keeps_items, keeps_items_rest, keeps_list_exp, keeps_record_exp, keeps_rows, keeps_rows_rest}
use Rattle.syntax_laws.proofs.DecsSound.{keeps_program, keeps_decs, keeps_dec, keeps_local_in, keeps_local_end, keeps_digit, keeps_vids, keeps_vids_rest, keeps_ty_vars, keeps_ty_var_list, keeps_ty_vars_rest, keeps_val_ty_vars, keeps_val_paren, keeps_val_bind, keeps_val_equals, keeps_val_and, keeps_fun_ty_vars, keeps_fun_paren, keeps_fun_binds, keeps_fun_and, keeps_clauses, keeps_clause_rest, keeps_clause_bar, keeps_typ_binds, keeps_typ_and, keeps_dat_binds, keeps_dat_and, keeps_con_binds, keeps_con_of, keeps_con_bar, keeps_ex_binds, keeps_ex_rest, keeps_ex_and}

-- each move keeps what the stack stands for
keeps : (v : Bool) (s : Symbol) (k : List Symbol) (f : Fix) (a : List Terminal) (o : List Made) {t : Terminal} {l : Look} → Seen f t l → Keeps v s k f t l a o
keeps v sy.Program k f a o s = keeps_program v k f a o s
keeps v sy.Decs k f a o s = keeps_decs v k f a o s
keeps v sy.Dec k f a o s = keeps_dec v k f a o s
keeps v (sy.LocalIn j) k f a o s = keeps_local_in v k f a o j s
keeps v (sy.LocalEnd j m) k f a o s = keeps_local_end v k f a o j m s
keeps v (sy.Digit r i) k f a o s = keeps_digit v k f a o r i s
keeps v (sy.Vids u) k f a o s = keeps_vids v k f a o u s
keeps v (sy.VidsRest u) k f a o s = keeps_vids_rest v k f a o u s
keeps v sy.ValTyVars k f a o s = keeps_val_ty_vars v k f a o s
keeps v (sy.ValParen i) k f a o s = keeps_val_paren v k f a o i s
keeps v sy.TyVarList k f a o s = keeps_ty_var_list v k f a o s
keeps v sy.TyVarsRest k f a o s = keeps_ty_vars_rest v k f a o s
keeps v sy.ValBind k f a o s = keeps_val_bind v k f a o s
keeps v sy.ValEquals k f a o s = keeps_val_equals v k f a o s
keeps v sy.ValAnd k f a o s = keeps_val_and v k f a o s
keeps v sy.FunTyVars k f a o s = keeps_fun_ty_vars v k f a o s
keeps v (sy.FunParen i) k f a o s = keeps_fun_paren v k f a o i s
keeps v sy.FunBinds k f a o s = keeps_fun_binds v k f a o s
keeps v sy.FunAnd k f a o s = keeps_fun_and v k f a o s
keeps v sy.Clauses k f a o s = keeps_clauses v k f a o s
keeps v sy.ClauseRest k f a o s = keeps_clause_rest v k f a o s
keeps v sy.ClauseBar k f a o s = keeps_clause_bar v k f a o s
keeps v sy.Head k f a o s = keeps_head v k f a o s
keeps v sy.HeadName k f a o s = keeps_head_name v k f a o s
keeps v sy.HeadOp k f a o s = keeps_head_op v k f a o s
keeps v sy.Atpats k f a o s = keeps_atpats v k f a o s
keeps v sy.AtpatsRest k f a o s = keeps_atpats_rest v k f a o s
keeps v (sy.HeadParen i) k f a o s = keeps_head_paren v k f a o i s
keeps v (sy.HeadFirstOp j i) k f a o s = keeps_head_first_op v k f a o j i s
keeps v (sy.HeadFirstName z i) k f a o s = keeps_head_first_name v k f a o z i s
keeps v (sy.HeadFirst i) k f a o s = keeps_head_first v k f a o i s
keeps v (sy.HeadSecond e i) k f a o s = keeps_head_second v k f a o e i s
keeps v (sy.HeadSecondName e i) k f a o s = keeps_head_second_name v k f a o e i s
keeps v (sy.HeadSecondEnd e i) k f a o s = keeps_head_second_end v k f a o e i s
keeps v (sy.HeadEnd i) k f a o s = keeps_head_end v k f a o i s
keeps v (sy.HeadClosed i) k f a o s = keeps_head_closed v k f a o i s
keeps v sy.TypBinds k f a o s = keeps_typ_binds v k f a o s
keeps v sy.TypAnd k f a o s = keeps_typ_and v k f a o s
keeps v sy.TyVars k f a o s = keeps_ty_vars v k f a o s
keeps v sy.TyCon k f a o s = keeps_ty_con v k f a o s
keeps v sy.DatBinds k f a o s = keeps_dat_binds v k f a o s
keeps v sy.DatAnd k f a o s = keeps_dat_and v k f a o s
keeps v sy.ConBinds k f a o s = keeps_con_binds v k f a o s
keeps v sy.ConOf k f a o s = keeps_con_of v k f a o s
keeps v sy.ConBar k f a o s = keeps_con_bar v k f a o s
keeps v sy.ExBinds k f a o s = keeps_ex_binds v k f a o s
keeps v sy.ExRest k f a o s = keeps_ex_rest v k f a o s
keeps v sy.ExAnd k f a o s = keeps_ex_and v k f a o s
keeps v sy.OpVid k f a o s = keeps_op_vid v k f a o s
keeps v sy.AnyVid k f a o s = keeps_any_vid v k f a o s
keeps v sy.LongVid k f a o s = keeps_long_vid v k f a o s
keeps v sy.AnyLong k f a o s = keeps_any_long v k f a o s
keeps v sy.Exp k f a o s = keeps_exp v k f a o s
keeps v sy.Prefix k f a o s = keeps_prefix v k f a o s
keeps v sy.TyRest k f a o s = keeps_ty_rest v k f a o s
keeps v sy.AndRest k f a o s = keeps_and_rest v k f a o s
keeps v sy.AndRight k f a o s = keeps_and_right v k f a o s
keeps v sy.OrRest k f a o s = keeps_or_rest v k f a o s
keeps v sy.OrRight k f a o s = keeps_or_right v k f a o s
keeps v sy.HandleRest k f a o s = keeps_handle_rest v k f a o s
keeps v sy.Args k f a o s = keeps_args v k f a o s
keeps v (sy.Ops e) k f a o s = keeps_ops v k f a o e s
keeps v sy.Match k f a o s = keeps_match v k f a o s
keeps v sy.MatchBar k f a o s = keeps_match_bar v k f a o s
keeps v sy.Atexp k f a o s = keeps_atexp v k f a o s
keeps v (sy.LetEnd j) k f a o s = keeps_let_end v k f a o j s
keeps v sy.Seq k f a o s = keeps_seq v k f a o s
keeps v sy.SeqRest k f a o s = keeps_seq_rest v k f a o s
keeps v (sy.ParenExp i) k f a o s = keeps_paren_exp v k f a o i s
keeps v (sy.ParenRest i) k f a o s = keeps_paren_rest v k f a o i s
keeps v sy.Items k f a o s = keeps_items v k f a o s
keeps v sy.ItemsRest k f a o s = keeps_items_rest v k f a o s
keeps v (sy.ListExp i) k f a o s = keeps_list_exp v k f a o i s
keeps v (sy.RecordExp i) k f a o s = keeps_record_exp v k f a o i s
keeps v sy.Rows k f a o s = keeps_rows v k f a o s
keeps v sy.RowsRest k f a o s = keeps_rows_rest v k f a o s
keeps v sy.Label k f a o s = keeps_label v k f a o s
keeps v sy.Pat k f a o s = keeps_pat v k f a o s
keeps v (sy.PatOp j) k f a o s = keeps_pat_op v k f a o j s
keeps v sy.PatName k f a o s = keeps_pat_name v k f a o s
keeps v sy.PatNameTy k f a o s = keeps_pat_name_ty v k f a o s
keeps v sy.PatLong k f a o s = keeps_pat_long v k f a o s
keeps v sy.PatTyRest k f a o s = keeps_pat_ty_rest v k f a o s
keeps v (sy.PatOps e) k f a o s = keeps_pat_ops v k f a o e s
keeps v sy.PatOperand k f a o s = keeps_pat_operand v k f a o s
keeps v sy.PatArg k f a o s = keeps_pat_arg v k f a o s
keeps v sy.Atpat k f a o s = keeps_atpat v k f a o s
keeps v (sy.PatParen i) k f a o s = keeps_pat_paren v k f a o i s
keeps v (sy.PatParenRest i) k f a o s = keeps_pat_paren_rest v k f a o i s
keeps v sy.Pats k f a o s = keeps_pats v k f a o s
keeps v sy.PatsRest k f a o s = keeps_pats_rest v k f a o s
keeps v (sy.PatList i) k f a o s = keeps_pat_list v k f a o i s
keeps v (sy.PatRecord i) k f a o s = keeps_pat_record v k f a o i s
keeps v sy.PatRows k f a o s = keeps_pat_rows v k f a o s
keeps v sy.PatRowsRest k f a o s = keeps_pat_rows_rest v k f a o s
keeps v sy.PatRow k f a o s = keeps_pat_row v k f a o s
keeps v sy.PunRow k f a o s = keeps_pun_row v k f a o s
keeps v sy.PunRowTy k f a o s = keeps_pun_row_ty v k f a o s
keeps v sy.Ty k f a o s = keeps_ty v k f a o s
keeps v sy.TyAtom k f a o s = keeps_ty_atom v k f a o s
keeps v (sy.TyParen i) k f a o s = keeps_ty_paren v k f a o i s
keeps v (sy.TySeqCon i) k f a o s = keeps_ty_seq_con v k f a o i s
keeps v sy.TyPost k f a o s = keeps_ty_post v k f a o s
keeps v sy.TyFactors k f a o s = keeps_ty_factors v k f a o s
keeps v sy.Factors k f a o s = keeps_factors v k f a o s
keeps v sy.FactorsRest k f a o s = keeps_factors_rest v k f a o s
keeps v sy.TyArrow k f a o s = keeps_ty_arrow v k f a o s
keeps v sy.Tys k f a o s = keeps_tys v k f a o s
keeps v sy.TysRest k f a o s = keeps_tys_rest v k f a o s
keeps v (sy.RecordTy i) k f a o s = keeps_record_ty v k f a o i s
keeps v sy.TyRows k f a o s = keeps_ty_rows v k f a o s
keeps v sy.TyRowsRest k f a o s = keeps_ty_rows_rest v k f a o s
keeps v sy.WantClose k f a o s = keeps_want_close v k f a o s
keeps v sy.WantCloseBracket k f a o s = keeps_want_close_bracket v k f a o s
keeps v sy.WantCloseBrace k f a o s = keeps_want_close_brace v k f a o s
keeps v sy.WantEquals k f a o s = keeps_want_equals v k f a o s
keeps v sy.WantColon k f a o s = keeps_want_colon v k f a o s
keeps v sy.WantThen k f a o s = keeps_want_then v k f a o s
keeps v sy.WantElse k f a o s = keeps_want_else v k f a o s
keeps v sy.WantDo k f a o s = keeps_want_do v k f a o s
keeps v sy.WantOf k f a o s = keeps_want_of v k f a o s
keeps v sy.WantIn k f a o s = keeps_want_in v k f a o s
keeps v sy.WantArrow k f a o s = keeps_want_arrow v k f a o s
keeps v sy.Eof k f a o s = keeps_eof v k f a o s
keeps v (sy.Emit m) k f a o _ = tt

means : (v : Bool) {k : List Symbol} {f : Fix} {a : List Terminal} {o : List Made} → Accepts v k f a o → Means v k f a o
means v done = (refl, refl)
means v (emit h) = (_, refl, means v h)
means v (skip {s = s} {k = k} {f = f} {t = t} {a = a} {o = o} e h) = let P : Move → Type 0 = λ m. Kept v m s k f t a o in subst P e (keeps v s k f a o (seen f t)) (means v h)
means v (eat {s = s} {k = k} {f = f} {t = t} {a = a} {o = o} e h) = let P : Move → Type 0 = λ m. Kept v m s k f t a o in subst P e (keeps v s k f a o (seen f t)) (means v h)

-- what the machine accepts is a program
pub sound : {v : Bool} {f : Fix} {a : List Terminal} {o : List Made} → Accepts v start f a o → Parses v f a o
sound {v = v} h = let (g, b, p, d, (c, e, (x, y))) = means v h in (g, to_node y (to_token (e ∙ ap (λ c. tok.Finish ∷ c) x) d))
