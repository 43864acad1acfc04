-- The machine: what the symbol on top does, and the lists of terminals that a stack accepts.
use Rattle.std.specs.Prelude.{◌≡◌, ℕ, ◌++◌, ◌||◌, Bool, true, false, take, drop, Option, Some, List, [], ◌∷◌, length}
use Rattle.smlc_base.specs.declared.names.Name.{Name}
use Rattle.sml_tree.specs.declared.status.Status.{Status}
use Rattle.sml_tree.specs.declared.status.Status.TheVariants as status
use Rattle.sml_tree.specs.declared.tree_node.TreeNode.{TreeNode}
use Rattle.sml_tree.specs.declared.tree_node.TreeNode.TheVariants as node
use Rattle.sml_syntax.specs.declared.forms.Terminal.{Terminal}
use Rattle.sml_syntax.specs.declared.forms.Terminal.TheVariants as tok
use Rattle.sml_syntax.specs.declared.forms.Shape.{Shape}
use Rattle.sml_syntax.specs.declared.forms.Shape.TheVariants as shape
use Rattle.sml_syntax.specs.declared.forms.Made.{Made}
use Rattle.sml_syntax.specs.declared.forms.Made.TheVariants as made
use Rattle.sml_syntax.specs.declared.forms.Directive.{Directive}
use Rattle.sml_syntax.specs.declared.forms.Root.{Root}
use Rattle.sml_syntax.specs.declared.forms.Root.TheVariants as root
use Rattle.sml_syntax.specs.declared.forms.Look.{Look}
use Rattle.sml_syntax.specs.declared.forms.Look.TheVariants as look
use Rattle.sml_syntax.specs.declared.forms.InfixVid.{InfixVid}
use Rattle.sml_syntax.specs.declared.symbol.Symbol.{Symbol}
use Rattle.sml_syntax.specs.declared.symbol.Symbol.TheVariants as sym
use Rattle.sml_syntax.specs.declared.symbol.Push.{Push}
use Rattle.sml_syntax.specs.declared.symbol.Push.TheVariants.{P0, P1, P2, P3, P4, P5, P6, P7}
use Rattle.sml_syntax.specs.declared.symbol.Move.{Move}
use Rattle.sml_syntax.specs.declared.symbol.Move.TheVariants.{Refuse, Mixed, Skip, Eat}
use Rattle.sml_syntax.specs.Fixity.{Fix, directive_for, looks, directed}
use Rattle.sml_syntax.specs.Moves.{at_program, at_decs, at_dec, at_local_in, at_local_end, at_digit, at_vids, at_vids_rest, at_val_ty_vars, at_val_paren, at_ty_var_list, at_ty_vars_rest, at_val_bind, at_val_equals, at_val_and, at_fun_ty_vars, at_fun_paren, at_fun_binds, at_fun_and, at_clauses, at_clause_rest, at_clause_bar, at_head, at_head_name, at_head_op, at_atpats, at_atpats_rest, at_head_paren, at_head_first_op, at_head_first_name, at_head_first, at_head_second, at_head_second_name, at_head_second_end, at_head_end, at_head_closed, at_typ_binds, at_typ_and, at_ty_vars, at_ty_con, at_dat_binds, at_dat_and, at_con_binds, at_con_of, at_con_bar, at_ex_binds, at_ex_rest, at_ex_and, at_op_vid, at_any_vid, at_long_vid, at_any_long, at_exp, at_prefix, at_ty_rest, at_and_rest, at_and_right, at_or_rest, at_or_right, at_handle_rest, at_args, at_ops, at_match, at_match_bar, at_atexp, at_let_end, at_seq, at_seq_rest, at_paren_exp, at_paren_rest, at_items, at_items_rest, at_list_exp, at_record_exp, at_rows, at_rows_rest, at_label, at_pat, at_pat_op, at_pat_name, at_pat_name_ty, at_pat_long, at_pat_ty_rest, at_pat_ops, at_pat_operand, at_pat_arg, at_atpat, at_pat_paren, at_pat_paren_rest, at_pats, at_pats_rest, at_pat_list, at_pat_record, at_pat_rows, at_pat_rows_rest, at_pat_row, at_pun_row, at_pun_row_ty, at_ty, at_ty_atom, at_ty_paren, at_ty_seq_con, at_ty_post, at_ty_factors, at_factors, at_factors_rest, at_ty_arrow, at_tys, at_tys_rest, at_record_ty, at_ty_rows, at_ty_rows_rest, at_want_close, at_want_close_bracket, at_want_close_brace, at_want_equals, at_want_colon, at_want_then, at_want_else, at_want_do, at_want_of, at_want_in, at_want_arrow, at_eof}

abbrev pub pushed : Push → List Symbol → List Symbol
pushed P0 k = k
pushed (P1 a) k = a ∷ k
pushed (P2 a b) k = a ∷ b ∷ k
pushed (P3 a b c) k = a ∷ b ∷ c ∷ k
pushed (P4 a b c d) k = a ∷ b ∷ c ∷ d ∷ k
pushed (P5 a b c d e) k = a ∷ b ∷ c ∷ d ∷ e ∷ k
pushed (P6 a b c d e g) k = a ∷ b ∷ c ∷ d ∷ e ∷ g ∷ k
pushed (P7 a b c d e g h) k = a ∷ b ∷ c ∷ d ∷ e ∷ g ∷ h ∷ k

abbrev pub move_of : Bool → Symbol → Bool → ℕ → ℕ → Look → Move
move_of v sym.Program i k n l = at_program l
move_of v sym.Decs i k n l = at_decs n l
move_of v sym.Dec i k n l = at_dec k n l
move_of v (sym.LocalIn j) i k n l = at_local_in j k l
move_of v (sym.LocalEnd j m) i k n l = at_local_end j m l
move_of v (sym.Digit r p) i k n l = at_digit r p l
move_of v (sym.Vids u) i k n l = at_vids u n l
move_of v (sym.VidsRest u) i k n l = at_vids_rest u l
move_of v sym.ValTyVars i k n l = at_val_ty_vars n l
move_of v (sym.ValParen p) i k n l = at_val_paren p l
move_of v sym.TyVarList i k n l = at_ty_var_list n l
move_of v sym.TyVarsRest i k n l = at_ty_vars_rest l
move_of v sym.ValBind i k n l = at_val_bind n l
move_of v sym.ValEquals i k n l = at_val_equals l
move_of v sym.ValAnd i k n l = at_val_and l
move_of v sym.FunTyVars i k n l = at_fun_ty_vars n l
move_of v (sym.FunParen p) i k n l = at_fun_paren p i l
move_of v sym.FunBinds i k n l = at_fun_binds l
move_of v sym.FunAnd i k n l = at_fun_and l
move_of v sym.Clauses i k n l = at_clauses l
move_of v sym.ClauseRest i k n l = at_clause_rest l
move_of v sym.ClauseBar i k n l = at_clause_bar l
move_of v sym.Head i k n l = at_head i n l
move_of v sym.HeadName i k n l = at_head_name n l
move_of v sym.HeadOp i k n l = at_head_op n l
move_of v sym.Atpats i k n l = at_atpats l
move_of v sym.AtpatsRest i k n l = at_atpats_rest l
move_of v (sym.HeadParen p) i k n l = at_head_paren p n l
move_of v (sym.HeadFirstOp q p) i k n l = at_head_first_op q p n l
move_of v (sym.HeadFirstName b p) i k n l = at_head_first_name b p n l
move_of v (sym.HeadFirst p) i k n l = at_head_first p n l
move_of v (sym.HeadSecond c p) i k n l = at_head_second c p l
move_of v (sym.HeadSecondName c p) i k n l = at_head_second_name c p l
move_of v (sym.HeadSecondEnd c p) i k n l = at_head_second_end c p l
move_of v (sym.HeadEnd p) i k n l = at_head_end p l
move_of v (sym.HeadClosed p) i k n l = at_head_closed p n l
move_of v sym.TypBinds i k n l = at_typ_binds l
move_of v sym.TypAnd i k n l = at_typ_and l
move_of v sym.TyVars i k n l = at_ty_vars n l
move_of v sym.TyCon i k n l = at_ty_con n l
move_of v sym.DatBinds i k n l = at_dat_binds l
move_of v sym.DatAnd i k n l = at_dat_and l
move_of v sym.ConBinds i k n l = at_con_binds l
move_of v sym.ConOf i k n l = at_con_of l
move_of v sym.ConBar i k n l = at_con_bar l
move_of v sym.ExBinds i k n l = at_ex_binds l
move_of v sym.ExRest i k n l = at_ex_rest l
move_of v sym.ExAnd i k n l = at_ex_and l
move_of v sym.OpVid i k n l = at_op_vid n l
move_of v sym.AnyVid i k n l = at_any_vid n l
move_of v sym.LongVid i k n l = at_long_vid n l
move_of v sym.AnyLong i k n l = at_any_long n l
move_of v sym.Exp i k n l = at_exp l
move_of v sym.Prefix i k n l = at_prefix n l
move_of v sym.TyRest i k n l = at_ty_rest l
move_of v sym.AndRest i k n l = at_and_rest l
move_of v sym.AndRight i k n l = at_and_right l
move_of v sym.OrRest i k n l = at_or_rest l
move_of v sym.OrRight i k n l = at_or_right l
move_of v sym.HandleRest i k n l = at_handle_rest l
move_of v sym.Args i k n l = at_args l
move_of v (sym.Ops c) i k n l = at_ops v c n l
move_of v sym.Match i k n l = at_match l
move_of v sym.MatchBar i k n l = at_match_bar l
move_of v sym.Atexp i k n l = at_atexp k n l
move_of v (sym.LetEnd j) i k n l = at_let_end j l
move_of v sym.Seq i k n l = at_seq l
move_of v sym.SeqRest i k n l = at_seq_rest l
move_of v (sym.ParenExp p) i k n l = at_paren_exp p l
move_of v (sym.ParenRest p) i k n l = at_paren_rest p l
move_of v sym.Items i k n l = at_items l
move_of v sym.ItemsRest i k n l = at_items_rest l
move_of v (sym.ListExp p) i k n l = at_list_exp p l
move_of v (sym.RecordExp p) i k n l = at_record_exp p l
move_of v sym.Rows i k n l = at_rows l
move_of v sym.RowsRest i k n l = at_rows_rest l
move_of v sym.Label i k n l = at_label n l
move_of v sym.Pat i k n l = at_pat n l
move_of v (sym.PatOp q) i k n l = at_pat_op q n l
move_of v sym.PatName i k n l = at_pat_name l
move_of v sym.PatNameTy i k n l = at_pat_name_ty l
move_of v sym.PatLong i k n l = at_pat_long l
move_of v sym.PatTyRest i k n l = at_pat_ty_rest l
move_of v (sym.PatOps c) i k n l = at_pat_ops v c n l
move_of v sym.PatOperand i k n l = at_pat_operand l
move_of v sym.PatArg i k n l = at_pat_arg l
move_of v sym.Atpat i k n l = at_atpat n l
move_of v (sym.PatParen p) i k n l = at_pat_paren p l
move_of v (sym.PatParenRest p) i k n l = at_pat_paren_rest p l
move_of v sym.Pats i k n l = at_pats l
move_of v sym.PatsRest i k n l = at_pats_rest l
move_of v (sym.PatList p) i k n l = at_pat_list p l
move_of v (sym.PatRecord p) i k n l = at_pat_record p l
move_of v sym.PatRows i k n l = at_pat_rows l
move_of v sym.PatRowsRest i k n l = at_pat_rows_rest l
move_of v sym.PatRow i k n l = at_pat_row n l
move_of v sym.PunRow i k n l = at_pun_row l
move_of v sym.PunRowTy i k n l = at_pun_row_ty l
move_of v sym.Ty i k n l = at_ty l
move_of v sym.TyAtom i k n l = at_ty_atom n l
move_of v (sym.TyParen p) i k n l = at_ty_paren p l
move_of v (sym.TySeqCon p) i k n l = at_ty_seq_con p n l
move_of v sym.TyPost i k n l = at_ty_post n l
move_of v sym.TyFactors i k n l = at_ty_factors l
move_of v sym.Factors i k n l = at_factors l
move_of v sym.FactorsRest i k n l = at_factors_rest l
move_of v sym.TyArrow i k n l = at_ty_arrow l
move_of v sym.Tys i k n l = at_tys l
move_of v sym.TysRest i k n l = at_tys_rest l
move_of v (sym.RecordTy p) i k n l = at_record_ty p l
move_of v sym.TyRows i k n l = at_ty_rows l
move_of v sym.TyRowsRest i k n l = at_ty_rows_rest l
move_of v sym.WantClose i k n l = at_want_close l
move_of v sym.WantCloseBracket i k n l = at_want_close_bracket l
move_of v sym.WantCloseBrace i k n l = at_want_close_brace l
move_of v sym.WantEquals i k n l = at_want_equals l
move_of v sym.WantColon i k n l = at_want_colon l
move_of v sym.WantThen i k n l = at_want_then l
move_of v sym.WantElse i k n l = at_want_else l
move_of v sym.WantDo i k n l = at_want_do l
move_of v sym.WantOf i k n l = at_want_of l
move_of v sym.WantIn i k n l = at_want_in l
move_of v sym.WantArrow i k n l = at_want_arrow l
move_of v sym.Eof i k n l = at_eof l
move_of v (sym.Emit m) i k n l = Refuse

abbrev pub is_infix : Option Status → Bool
is_infix (Some (status.Infix l r)) = true
is_infix _ = false

-- one of the directives is for an identifier that has infix status under f
abbrev pub infix_among : Fix → Fix → Bool
infix_among f [] = false
infix_among f (e ∷ g) = is_infix (directive_for f e.name) || infix_among f g

-- some identifier has infix status
abbrev pub has_infix : Fix → Bool
has_infix f = infix_among f f

abbrev pub named : Status → Terminal → Fix → Fix
named u (tok.Id x s) f = directed f x u
named u t f = f

-- the directives in force behind a terminal that a symbol takes
abbrev pub after : Symbol → Terminal → Fix → Fix
after (sym.Vids u) t f = named u t f
after (sym.LocalEnd j m) t f = take j f ++ drop m f
after (sym.LetEnd j) t f = take j f
after s t f = f

-- the move at the first of these terminals
abbrev pub moves : Bool → Symbol → Fix → Terminal → List Terminal → Move
moves v s f t a = move_of v s (has_infix f) (length f) (length (t ∷ a)) (looks f t)

-- what a stack accepts: the terminals still to come, and the nodes still to come
pub data Accepts (v : Bool) : List Symbol → Fix → List Terminal → List Made → Type 0 where
  done : {f : Fix} → Accepts v [] f [] []
  emit : {m : Made} {k : List Symbol} {f : Fix} {a : List Terminal} {o : List Made} → Accepts v k f a o → Accepts v (sym.Emit m ∷ k) f a (m ∷ o)
  skip : {s : Symbol} {p : Push} {k : List Symbol} {f : Fix} {t : Terminal} {a : List Terminal} {o : List Made} → moves v s f t a ≡ Skip p → Accepts v (pushed p k) f (t ∷ a) o → Accepts v (s ∷ k) f (t ∷ a) o
  eat : {s : Symbol} {p : Push} {k : List Symbol} {f : Fix} {t : Terminal} {a : List Terminal} {o : List Made} → moves v s f t a ≡ Eat p → Accepts v (pushed p k) (after s t f) a o → Accepts v (s ∷ k) f (t ∷ a) o

abbrev pub start : List Symbol
start = sym.Program ∷ sym.Eof ∷ []
