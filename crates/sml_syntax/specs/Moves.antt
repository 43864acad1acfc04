-- What each symbol of the machine does at a terminal.
-- n is how many terminals there are from this one on, k how many directives are in force, i whether some identifier has infix status.
use Rattle.std.specs.Prelude.{ℕ, ℤ, Bool, true, false, cond, Option, Some, None}
use Rattle.smlc_base.specs.declared.names.Name.{Name}
use Rattle.sml_tree.specs.declared.status.Status.{Status}
use Rattle.sml_tree.specs.declared.status.Status.TheVariants as status
use Rattle.sml_tree.specs.declared.tree_node.TreeNode.{TreeNode}
use Rattle.sml_tree.specs.declared.tree_node.TreeNode.TheVariants as node
use Rattle.sml_syntax.specs.declared.forms.Terminal.{Terminal}
use Rattle.sml_syntax.specs.declared.forms.Terminal.TheVariants as tok
use Rattle.sml_syntax.specs.declared.forms.Shape.{Shape}
use Rattle.sml_syntax.specs.declared.forms.Shape.TheVariants as shape
use Rattle.sml_syntax.specs.declared.forms.Made.{Made}
use Rattle.sml_syntax.specs.declared.forms.Made.TheVariants as made
use Rattle.sml_syntax.specs.declared.forms.Directive.{Directive}
use Rattle.sml_syntax.specs.declared.forms.Root.{Root}
use Rattle.sml_syntax.specs.declared.forms.Root.TheVariants as root
use Rattle.sml_syntax.specs.declared.forms.Look.{Look}
use Rattle.sml_syntax.specs.declared.forms.Look.TheVariants as look
use Rattle.sml_syntax.specs.declared.forms.InfixVid.{InfixVid}
use Rattle.sml_syntax.specs.declared.symbol.Symbol.{Symbol}
use Rattle.sml_syntax.specs.declared.symbol.Symbol.TheVariants as sym
use Rattle.sml_syntax.specs.declared.symbol.Push.{Push}
use Rattle.sml_syntax.specs.declared.symbol.Push.TheVariants.{P0, P1, P2, P3, P4, P5, P6, P7}
use Rattle.sml_syntax.specs.declared.symbol.Move.{Move}
use Rattle.sml_syntax.specs.declared.symbol.Move.TheVariants.{Refuse, Mixed, Skip, Eat}
use Rattle.sml_syntax.specs.Fixity.{operates, lefts, fits, is_label}

-- what the terminal may begin
abbrev pub is_ident : Look → Bool
is_ident (look.Plain x s) = true
is_ident (look.Other (tok.Long x y)) = true
is_ident (look.Other tok.Op) = true
is_ident _ = false

abbrev pub is_atpat : Look → Bool
is_atpat (look.Plain x s) = true
is_atpat (look.Other (tok.Long x y)) = true
is_atpat (look.Other tok.Op) = true
is_atpat (look.Other (tok.Int z h)) = true
is_atpat (look.Other (tok.Char y)) = true
is_atpat (look.Other (tok.Text y)) = true
is_atpat (look.Other tok.Open) = true
is_atpat (look.Other tok.OpenBracket) = true
is_atpat (look.Other tok.OpenBrace) = true
is_atpat (look.Other tok.Underscore) = true
is_atpat _ = false

abbrev pub is_atexp : Look → Bool
is_atexp (look.Plain x s) = true
is_atexp (look.Other (tok.Long x y)) = true
is_atexp (look.Other tok.Op) = true
is_atexp (look.Other (tok.Int z h)) = true
is_atexp (look.Other (tok.Char y)) = true
is_atexp (look.Other (tok.Text y)) = true
is_atexp (look.Other tok.Open) = true
is_atexp (look.Other tok.OpenBracket) = true
is_atexp (look.Other tok.OpenBrace) = true
is_atexp (look.Other tok.Let) = true
is_atexp _ = false

abbrev pub is_dec : Look → Bool
is_dec (look.Other tok.Val) = true
is_dec (look.Other tok.Fun) = true
is_dec (look.Other tok.Type) = true
is_dec (look.Other tok.Datatype) = true
is_dec (look.Other tok.Exception) = true
is_dec (look.Other tok.Local) = true
is_dec (look.Other tok.Infix) = true
is_dec (look.Other tok.Infixr) = true
is_dec (look.Other tok.Nonfix) = true
is_dec _ = false

abbrev pub is_prefix : Look → Bool
is_prefix (look.Other tok.Raise) = true
is_prefix (look.Other tok.If) = true
is_prefix (look.Other tok.While) = true
is_prefix (look.Other tok.Case) = true
is_prefix (look.Other tok.Fn) = true
is_prefix _ = false

abbrev pub at_program : Look → Move
at_program (look.Other tok.Semicolon) = Eat (P1 sym.Program)
at_program l = cond (is_dec l) (Skip (P2 sym.Dec sym.Program)) (Skip P0)

abbrev pub at_decs : ℕ → Look → Move
at_decs n (look.Other tok.Semicolon) = Eat (P1 sym.Decs)
at_decs n l = cond (is_dec l) (Skip (P3 sym.Dec sym.Decs (sym.Emit (made.Inner node.MoreDecs)))) (Skip (P1 (sym.Emit (made.Lead node.NoDecs n))))

abbrev pub at_dec : ℕ → ℕ → Look → Move
at_dec k n (look.Other tok.Val) = Eat (P2 sym.ValTyVars (sym.Emit (made.Lead node.Val n)))
at_dec k n (look.Other tok.Fun) = Eat (P2 sym.FunTyVars (sym.Emit (made.Lead node.Fun n)))
at_dec k n (look.Other tok.Type) = Eat (P2 sym.TypBinds (sym.Emit (made.Lead node.Type n)))
at_dec k n (look.Other tok.Datatype) = Eat (P2 sym.DatBinds (sym.Emit (made.Lead node.Datatype n)))
at_dec k n (look.Other tok.Exception) = Eat (P2 sym.ExBinds (sym.Emit (made.Lead node.Exception n)))
at_dec k n (look.Other tok.Local) = Eat (P3 sym.Decs (sym.LocalIn k) (sym.Emit (made.Lead node.Local n)))
at_dec k n (look.Other tok.Infix) = Eat (P1 (sym.Digit false n))
at_dec k n (look.Other tok.Infixr) = Eat (P1 (sym.Digit true n))
at_dec k n (look.Other tok.Nonfix) = Eat (P2 (sym.Vids status.Nonfix) (sym.Emit (made.Lead (node.Directive status.Nonfix) n)))
at_dec k n _ = Refuse

abbrev pub at_local_in : ℕ → ℕ → Look → Move
at_local_in j k (look.Other tok.In) = Eat (P2 sym.Decs (sym.LocalEnd j k))
at_local_in j k _ = Refuse

abbrev pub at_local_end : ℕ → ℕ → Look → Move
at_local_end j m (look.Other tok.End) = Eat P0
at_local_end j m _ = Refuse

abbrev pub at_digit : Bool → ℕ → Look → Move
at_digit r p (look.Other (tok.Int z (shape.Digit d))) = Eat (P2 (sym.Vids (status.Infix d r)) (sym.Emit (made.Lead (node.Directive (status.Infix d r)) p)))
at_digit r p _ = Skip (P2 (sym.Vids (status.Infix 0 r)) (sym.Emit (made.Lead (node.Directive (status.Infix 0 r)) p)))

abbrev pub at_vids : Status → ℕ → Look → Move
at_vids u n (look.Plain x s) = Eat (P2 (sym.Emit (made.Lead (node.Vid x) n)) (sym.VidsRest u))
at_vids u n (look.Operator x s l r) = Eat (P2 (sym.Emit (made.Lead (node.Vid x) n)) (sym.VidsRest u))
at_vids u n _ = Refuse

abbrev pub at_vids_rest : Status → Look → Move
at_vids_rest u (look.Plain x s) = Skip (P2 (sym.Vids u) (sym.Emit (made.Inner node.MoreVids)))
at_vids_rest u (look.Operator x s l r) = Skip (P2 (sym.Vids u) (sym.Emit (made.Inner node.MoreVids)))
at_vids_rest u _ = Skip P0

abbrev pub at_val_ty_vars : ℕ → Look → Move
at_val_ty_vars n (look.Other (tok.TyVar x)) = Eat (P2 (sym.Emit (made.Lead (node.TyVar x) n)) sym.ValBind)
at_val_ty_vars n (look.Other tok.Open) = Eat (P1 (sym.ValParen n))
at_val_ty_vars n _ = Skip (P2 (sym.Emit (made.Lead node.NoTyVars n)) sym.ValBind)

abbrev pub at_val_paren : ℕ → Look → Move
at_val_paren p (look.Other (tok.TyVar x)) = Skip (P4 sym.TyVarList sym.WantClose (sym.Emit (made.Lead node.TyVarSeq p)) sym.ValBind)
at_val_paren p _ = Skip (P5 (sym.Emit (made.Lead node.NoTyVars p)) (sym.PatParen p) (sym.PatOps root.Bare) sym.PatTyRest sym.ValEquals)

abbrev pub at_ty_var_list : ℕ → Look → Move
at_ty_var_list n (look.Other (tok.TyVar x)) = Eat (P2 (sym.Emit (made.Lead (node.TyVar x) n)) sym.TyVarsRest)
at_ty_var_list n _ = Refuse

abbrev pub at_ty_vars_rest : Look → Move
at_ty_vars_rest (look.Other tok.Comma) = Eat (P2 sym.TyVarList (sym.Emit (made.Inner node.MoreTyVars)))
at_ty_vars_rest _ = Skip P0

abbrev pub at_val_bind : ℕ → Look → Move
at_val_bind n (look.Other tok.Rec) = Eat (P2 sym.ValBind (sym.Emit (made.Lead node.Rec n)))
at_val_bind n _ = Skip (P2 sym.Pat sym.ValEquals)

abbrev pub at_val_equals : Look → Move
at_val_equals (look.Other tok.Equals) = Eat (P3 sym.Exp (sym.Emit (made.Inner node.ValBind)) sym.ValAnd)
at_val_equals _ = Refuse

abbrev pub at_val_and : Look → Move
at_val_and (look.Other tok.And) = Eat (P2 sym.ValBind (sym.Emit (made.Inner node.MoreValBinds)))
at_val_and _ = Skip P0

abbrev pub at_fun_ty_vars : ℕ → Look → Move
at_fun_ty_vars n (look.Other (tok.TyVar x)) = Eat (P2 (sym.Emit (made.Lead (node.TyVar x) n)) sym.FunBinds)
at_fun_ty_vars n (look.Other tok.Open) = Eat (P1 (sym.FunParen n))
at_fun_ty_vars n _ = Skip (P2 (sym.Emit (made.Lead node.NoTyVars n)) sym.FunBinds)

abbrev pub at_fun_paren : ℕ → Bool → Look → Move
at_fun_paren p i (look.Other (tok.TyVar x)) = Skip (P4 sym.TyVarList sym.WantClose (sym.Emit (made.Lead node.TyVarSeq p)) sym.FunBinds)
at_fun_paren p i _ = cond i (Skip (P4 (sym.Emit (made.Lead node.NoTyVars p)) (sym.HeadParen p) sym.ClauseRest sym.FunAnd)) Refuse

abbrev pub at_fun_binds : Look → Move
at_fun_binds l = Skip (P2 sym.Clauses sym.FunAnd)

abbrev pub at_fun_and : Look → Move
at_fun_and (look.Other tok.And) = Eat (P2 sym.FunBinds (sym.Emit (made.Inner node.MoreFunBinds)))
at_fun_and _ = Skip P0

abbrev pub at_clauses : Look → Move
at_clauses l = Skip (P2 sym.Head sym.ClauseRest)

abbrev pub at_clause_rest : Look → Move
at_clause_rest (look.Other tok.Colon) = Eat (P5 sym.Ty sym.WantEquals sym.Exp (sym.Emit (made.Inner node.TypedClause)) sym.ClauseBar)
at_clause_rest (look.Other tok.Equals) = Eat (P3 sym.Exp (sym.Emit (made.Inner node.Clause)) sym.ClauseBar)
at_clause_rest _ = Refuse

abbrev pub at_clause_bar : Look → Move
at_clause_bar (look.Other tok.Bar) = Eat (P2 sym.Clauses (sym.Emit (made.Inner node.MoreClauses)))
at_clause_bar _ = Skip P0

abbrev pub at_head : Bool → ℕ → Look → Move
at_head i n (look.Other tok.Open) = cond i (Eat (P1 (sym.HeadParen n))) Refuse
at_head i n l = cond (is_ident l) (Skip (P2 sym.LongVid sym.HeadName)) (cond i (Skip (P2 sym.Atpat sym.HeadOp)) Refuse)

abbrev pub at_head_name : ℕ → Look → Move
at_head_name n (look.Operator x s l r) = Eat (P3 (sym.Emit (made.Lead (node.Vid x) n)) sym.Atpat (sym.Emit (made.Inner node.InfixHead)))
at_head_name n _ = Skip (P2 sym.Atpats (sym.Emit (made.Inner node.Head)))

abbrev pub at_head_op : ℕ → Look → Move
at_head_op n (look.Operator x s l r) = Eat (P3 (sym.Emit (made.Lead (node.Vid x) n)) sym.Atpat (sym.Emit (made.Inner node.InfixHead)))
at_head_op n _ = Refuse

abbrev pub at_atpats : Look → Move
at_atpats l = Skip (P2 sym.Atpat sym.AtpatsRest)

abbrev pub at_atpats_rest : Look → Move
at_atpats_rest l = cond (is_atpat l) (Skip (P2 sym.Atpats (sym.Emit (made.Inner node.MoreAtpats)))) (Skip P0)

abbrev pub at_head_paren : ℕ → ℕ → Look → Move
at_head_paren p n (look.Other tok.Close) = Eat (P2 (sym.Emit (made.Lead node.PatUnit p)) sym.HeadOp)
at_head_paren p n (look.Other (tok.Long x y)) = Eat (P2 (sym.Emit (made.Lead (node.LongVid x) n)) (sym.HeadFirstName false p))
at_head_paren p n (look.Other tok.Op) = Eat (P1 (sym.HeadFirstOp n p))
at_head_paren p n (look.Plain x s) = Eat (P2 (sym.Emit (made.Lead (node.Vid x) n)) (sym.HeadFirstName true p))
at_head_paren p n _ = Skip (P2 sym.Atpat (sym.HeadFirst p))

abbrev pub at_head_first_op : ℕ → ℕ → ℕ → Look → Move
at_head_first_op q p n (look.Other (tok.Long x y)) = Eat (P3 (sym.Emit (made.Lead (node.LongVid x) n)) (sym.Emit (made.Lead node.Op q)) (sym.HeadFirstName false p))
at_head_first_op q p n (look.Plain x s) = Eat (P3 (sym.Emit (made.Lead (node.Vid x) n)) (sym.Emit (made.Lead node.Op q)) (sym.HeadFirstName true p))
at_head_first_op q p n (look.Operator x s l r) = Eat (P3 (sym.Emit (made.Lead (node.Vid x) n)) (sym.Emit (made.Lead node.Op q)) (sym.HeadFirstName true p))
at_head_first_op q p n (look.Other tok.Equals) = Eat (P3 (sym.Emit (made.Lead node.VidEquals n)) (sym.Emit (made.Lead node.Op q)) (sym.HeadFirstName true p))
at_head_first_op q p n _ = Refuse

abbrev pub at_head_first_name : Bool → ℕ → ℕ → Look → Move
at_head_first_name b p n (look.Operator x s l r) = Eat (P2 (sym.Emit (made.Lead (node.Vid x) n)) (sym.HeadSecond (root.Operator l r) p))
at_head_first_name b p n l = cond (is_atpat l) (Skip (P5 sym.Atpat (sym.Emit (made.Inner node.ConPat)) (sym.PatOps root.Bare) sym.PatTyRest (sym.HeadEnd p))) (cond b (Skip (P2 sym.PatName (sym.HeadEnd p))) (Skip (P2 sym.PatTyRest (sym.HeadEnd p))))

abbrev pub at_head_first : ℕ → ℕ → Look → Move
at_head_first p n (look.Operator x s l r) = Eat (P2 (sym.Emit (made.Lead (node.Vid x) n)) (sym.HeadSecond (root.Operator l r) p))
at_head_first p n _ = Skip (P2 sym.PatTyRest (sym.HeadEnd p))

abbrev pub at_head_second : Root → ℕ → Look → Move
at_head_second c p l = cond (is_ident l) (Skip (P2 sym.LongVid (sym.HeadSecondName c p))) (Skip (P2 sym.Atpat (sym.HeadSecondEnd c p)))

abbrev pub at_head_second_name : Root → ℕ → Look → Move
at_head_second_name c p l = cond (is_atpat l) (Skip (P7 sym.Atpat (sym.Emit (made.Inner node.ConPat)) (sym.PatOps c) (sym.Emit (made.Inner node.InfixPat)) (sym.PatOps root.Bare) sym.PatTyRest (sym.HeadEnd p))) (Skip (P1 (sym.HeadSecondEnd c p)))

abbrev pub at_head_second_end : Root → ℕ → Look → Move
at_head_second_end c p (look.Other tok.Close) = Eat (P1 (sym.HeadClosed p))
at_head_second_end c p _ = Skip (P5 (sym.PatOps c) (sym.Emit (made.Inner node.InfixPat)) (sym.PatOps root.Bare) sym.PatTyRest (sym.HeadEnd p))

abbrev pub at_head_end : ℕ → Look → Move
at_head_end p (look.Other tok.Close) = Eat (P2 (sym.Emit (made.Lead node.PatParen p)) sym.HeadOp)
at_head_end p (look.Other tok.Comma) = Eat (P4 sym.Pats sym.WantClose (sym.Emit (made.Lead node.PatTuple p)) sym.HeadOp)
at_head_end p _ = Refuse

abbrev pub at_head_closed : ℕ → ℕ → Look → Move
at_head_closed p n (look.Operator x s l r) = Eat (P5 (sym.Emit (made.Inner node.InfixPat)) (sym.Emit (made.Lead node.PatParen p)) (sym.Emit (made.Lead (node.Vid x) n)) sym.Atpat (sym.Emit (made.Inner node.InfixHead)))
at_head_closed p n l = cond (is_atpat l) (Skip (P2 sym.Atpats (sym.Emit (made.Lead node.ParenHeadArgs p)))) (Skip (P1 (sym.Emit (made.Lead node.ParenHead p))))

abbrev pub at_typ_binds : Look → Move
at_typ_binds l = Skip (P6 sym.TyVars sym.TyCon sym.WantEquals sym.Ty (sym.Emit (made.Inner node.TypBind)) sym.TypAnd)

abbrev pub at_typ_and : Look → Move
at_typ_and (look.Other tok.And) = Eat (P2 sym.TypBinds (sym.Emit (made.Inner node.MoreTypBinds)))
at_typ_and _ = Skip P0

abbrev pub at_ty_vars : ℕ → Look → Move
at_ty_vars n (look.Other (tok.TyVar x)) = Eat (P1 (sym.Emit (made.Lead (node.TyVar x) n)))
at_ty_vars n (look.Other tok.Open) = Eat (P3 sym.TyVarList sym.WantClose (sym.Emit (made.Lead node.TyVarSeq n)))
at_ty_vars n _ = Skip (P1 (sym.Emit (made.Lead node.NoTyVars n)))

abbrev pub at_ty_con : ℕ → Look → Move
at_ty_con n (look.Plain x false) = Eat (P1 (sym.Emit (made.Lead (node.TyCon x) n)))
at_ty_con n (look.Operator x false l r) = Eat (P1 (sym.Emit (made.Lead (node.TyCon x) n)))
at_ty_con n _ = Refuse

abbrev pub at_dat_binds : Look → Move
at_dat_binds l = Skip (P6 sym.TyVars sym.TyCon sym.WantEquals sym.ConBinds (sym.Emit (made.Inner node.DatBind)) sym.DatAnd)

abbrev pub at_dat_and : Look → Move
at_dat_and (look.Other tok.And) = Eat (P2 sym.DatBinds (sym.Emit (made.Inner node.MoreDatBinds)))
at_dat_and _ = Skip P0

abbrev pub at_con_binds : Look → Move
at_con_binds l = Skip (P2 sym.OpVid sym.ConOf)

abbrev pub at_con_of : Look → Move
at_con_of (look.Other tok.Of) = Eat (P3 sym.Ty (sym.Emit (made.Inner node.ConBindOf)) sym.ConBar)
at_con_of _ = Skip (P2 (sym.Emit (made.Inner node.ConBind)) sym.ConBar)

abbrev pub at_con_bar : Look → Move
at_con_bar (look.Other tok.Bar) = Eat (P2 sym.ConBinds (sym.Emit (made.Inner node.MoreConBinds)))
at_con_bar _ = Skip P0

abbrev pub at_ex_binds : Look → Move
at_ex_binds l = Skip (P2 sym.OpVid sym.ExRest)

abbrev pub at_ex_rest : Look → Move
at_ex_rest (look.Other tok.Of) = Eat (P3 sym.Ty (sym.Emit (made.Inner node.ExBindOf)) sym.ExAnd)
at_ex_rest (look.Other tok.Equals) = Eat (P3 sym.LongVid (sym.Emit (made.Inner node.ExBindIs)) sym.ExAnd)
at_ex_rest _ = Skip (P2 (sym.Emit (made.Inner node.ExBind)) sym.ExAnd)

abbrev pub at_ex_and : Look → Move
at_ex_and (look.Other tok.And) = Eat (P2 sym.ExBinds (sym.Emit (made.Inner node.MoreExBinds)))
at_ex_and _ = Skip P0

abbrev pub at_op_vid : ℕ → Look → Move
at_op_vid n (look.Other tok.Op) = Eat (P2 sym.AnyVid (sym.Emit (made.Lead node.Op n)))
at_op_vid n (look.Plain x s) = Eat (P1 (sym.Emit (made.Lead (node.Vid x) n)))
at_op_vid n _ = Refuse

abbrev pub at_any_vid : ℕ → Look → Move
at_any_vid n (look.Plain x s) = Eat (P1 (sym.Emit (made.Lead (node.Vid x) n)))
at_any_vid n (look.Operator x s l r) = Eat (P1 (sym.Emit (made.Lead (node.Vid x) n)))
at_any_vid n (look.Other tok.Equals) = Eat (P1 (sym.Emit (made.Lead node.VidEquals n)))
at_any_vid n _ = Refuse

abbrev pub at_long_vid : ℕ → Look → Move
at_long_vid n (look.Other tok.Op) = Eat (P2 sym.AnyLong (sym.Emit (made.Lead node.Op n)))
at_long_vid n (look.Plain x s) = Eat (P1 (sym.Emit (made.Lead (node.Vid x) n)))
at_long_vid n (look.Other (tok.Long x y)) = Eat (P1 (sym.Emit (made.Lead (node.LongVid x) n)))
at_long_vid n _ = Refuse

abbrev pub at_any_long : ℕ → Look → Move
at_any_long n (look.Plain x s) = Eat (P1 (sym.Emit (made.Lead (node.Vid x) n)))
at_any_long n (look.Operator x s l r) = Eat (P1 (sym.Emit (made.Lead (node.Vid x) n)))
at_any_long n (look.Other tok.Equals) = Eat (P1 (sym.Emit (made.Lead node.VidEquals n)))
at_any_long n (look.Other (tok.Long x y)) = Eat (P1 (sym.Emit (made.Lead (node.LongVid x) n)))
at_any_long n _ = Refuse

abbrev pub at_exp : Look → Move
at_exp l = cond (is_prefix l) (Skip (P1 sym.Prefix)) (Skip (P7 sym.Atexp sym.Args (sym.Ops root.Bare) sym.TyRest sym.AndRest sym.OrRest sym.HandleRest))

abbrev pub at_prefix : ℕ → Look → Move
at_prefix n (look.Other tok.Raise) = Eat (P2 sym.Exp (sym.Emit (made.Lead node.Raise n)))
at_prefix n (look.Other tok.If) = Eat (P6 sym.Exp sym.WantThen sym.Exp sym.WantElse sym.Exp (sym.Emit (made.Lead node.If n)))
at_prefix n (look.Other tok.While) = Eat (P4 sym.Exp sym.WantDo sym.Exp (sym.Emit (made.Lead node.While n)))
at_prefix n (look.Other tok.Case) = Eat (P4 sym.Exp sym.WantOf sym.Match (sym.Emit (made.Lead node.Case n)))
at_prefix n (look.Other tok.Fn) = Eat (P2 sym.Match (sym.Emit (made.Lead node.Fn n)))
at_prefix n _ = Refuse

abbrev pub at_ty_rest : Look → Move
at_ty_rest (look.Other tok.Colon) = Eat (P3 sym.Ty (sym.Emit (made.Inner node.Typed)) sym.TyRest)
at_ty_rest _ = Skip P0

abbrev pub at_and_rest : Look → Move
at_and_rest (look.Other tok.Andalso) = Eat (P3 sym.AndRight (sym.Emit (made.Inner node.Andalso)) sym.AndRest)
at_and_rest _ = Skip P0

abbrev pub at_and_right : Look → Move
at_and_right l = cond (is_prefix l) (Skip (P1 sym.Prefix)) (Skip (P4 sym.Atexp sym.Args (sym.Ops root.Bare) sym.TyRest))

abbrev pub at_or_rest : Look → Move
at_or_rest (look.Other tok.Orelse) = Eat (P3 sym.OrRight (sym.Emit (made.Inner node.Orelse)) sym.OrRest)
at_or_rest _ = Skip P0

abbrev pub at_or_right : Look → Move
at_or_right l = cond (is_prefix l) (Skip (P1 sym.Prefix)) (Skip (P5 sym.Atexp sym.Args (sym.Ops root.Bare) sym.TyRest sym.AndRest))

abbrev pub at_handle_rest : Look → Move
at_handle_rest (look.Other tok.Handle) = Eat (P2 sym.Match (sym.Emit (made.Inner node.Handle)))
at_handle_rest _ = Skip P0

abbrev pub at_args : Look → Move
at_args l = cond (is_atexp l) (Skip (P3 sym.Atexp (sym.Emit (made.Inner node.Apply)) sym.Args)) (Skip P0)

abbrev pub at_match : Look → Move
at_match l = Skip (P5 sym.Pat sym.WantArrow sym.Exp (sym.Emit (made.Inner node.Rule)) sym.MatchBar)

abbrev pub at_match_bar : Look → Move
at_match_bar (look.Other tok.Bar) = Eat (P2 sym.Match (sym.Emit (made.Inner node.MoreRules)))
at_match_bar _ = Skip P0

abbrev pub at_atexp : ℕ → ℕ → Look → Move
at_atexp k n (look.Other (tok.Int z h)) = Eat (P1 (sym.Emit (made.Lead (node.Int z) n)))
at_atexp k n (look.Other (tok.Char y)) = Eat (P1 (sym.Emit (made.Lead (node.Char y) n)))
at_atexp k n (look.Other (tok.Text y)) = Eat (P1 (sym.Emit (made.Lead (node.Text y) n)))
at_atexp k n (look.Other tok.Open) = Eat (P1 (sym.ParenExp n))
at_atexp k n (look.Other tok.OpenBracket) = Eat (P1 (sym.ListExp n))
at_atexp k n (look.Other tok.OpenBrace) = Eat (P1 (sym.RecordExp n))
at_atexp k n (look.Other tok.Let) = Eat (P5 sym.Decs sym.WantIn sym.Seq (sym.LetEnd k) (sym.Emit (made.Lead node.Let n)))
at_atexp k n l = cond (is_ident l) (Skip (P1 sym.LongVid)) Refuse

abbrev pub at_let_end : ℕ → Look → Move
at_let_end j (look.Other tok.End) = Eat P0
at_let_end j _ = Refuse

abbrev pub at_seq : Look → Move
at_seq l = Skip (P2 sym.Exp sym.SeqRest)

abbrev pub at_seq_rest : Look → Move
at_seq_rest (look.Other tok.Semicolon) = Eat (P2 sym.Seq (sym.Emit (made.Inner node.MoreSeq)))
at_seq_rest _ = Skip P0

abbrev pub at_paren_exp : ℕ → Look → Move
at_paren_exp p (look.Other tok.Close) = Eat (P1 (sym.Emit (made.Lead node.Unit p)))
at_paren_exp p _ = Skip (P2 sym.Exp (sym.ParenRest p))

abbrev pub at_paren_rest : ℕ → Look → Move
at_paren_rest p (look.Other tok.Close) = Eat (P1 (sym.Emit (made.Lead node.Paren p)))
at_paren_rest p (look.Other tok.Comma) = Eat (P3 sym.Items sym.WantClose (sym.Emit (made.Lead node.Tuple p)))
at_paren_rest p (look.Other tok.Semicolon) = Eat (P3 sym.Seq sym.WantClose (sym.Emit (made.Lead node.Sequence p)))
at_paren_rest p _ = Refuse

abbrev pub at_items : Look → Move
at_items l = Skip (P2 sym.Exp sym.ItemsRest)

abbrev pub at_items_rest : Look → Move
at_items_rest (look.Other tok.Comma) = Eat (P2 sym.Items (sym.Emit (made.Inner node.MoreItems)))
at_items_rest _ = Skip P0

abbrev pub at_list_exp : ℕ → Look → Move
at_list_exp p (look.Other tok.CloseBracket) = Eat (P1 (sym.Emit (made.Lead node.EmptyList p)))
at_list_exp p _ = Skip (P3 sym.Items sym.WantCloseBracket (sym.Emit (made.Lead node.List p)))

abbrev pub at_record_exp : ℕ → Look → Move
at_record_exp p (look.Other tok.CloseBrace) = Eat (P1 (sym.Emit (made.Lead node.EmptyRecord p)))
at_record_exp p _ = Skip (P3 sym.Rows sym.WantCloseBrace (sym.Emit (made.Lead node.Record p)))

abbrev pub at_rows : Look → Move
at_rows l = Skip (P5 sym.Label sym.WantEquals sym.Exp (sym.Emit (made.Inner node.Row)) sym.RowsRest)

abbrev pub at_rows_rest : Look → Move
at_rows_rest (look.Other tok.Comma) = Eat (P2 sym.Rows (sym.Emit (made.Inner node.MoreRows)))
at_rows_rest _ = Skip P0

abbrev pub at_label : ℕ → Look → Move
at_label n (look.Plain x s) = Eat (P1 (sym.Emit (made.Lead (node.Label x) n)))
at_label n (look.Operator x s l r) = Eat (P1 (sym.Emit (made.Lead (node.Label x) n)))
at_label n (look.Other (tok.Int z h)) = cond (is_label h) (Eat (P1 (sym.Emit (made.Lead (node.LabelNumber z) n)))) Refuse
at_label n _ = Refuse

abbrev pub at_pat : ℕ → Look → Move
at_pat n (look.Other (tok.Long x y)) = Eat (P2 (sym.Emit (made.Lead (node.LongVid x) n)) sym.PatLong)
at_pat n (look.Other tok.Op) = Eat (P1 (sym.PatOp n))
at_pat n (look.Plain x s) = Eat (P2 (sym.Emit (made.Lead (node.Vid x) n)) sym.PatName)
at_pat n _ = Skip (P3 sym.Atpat (sym.PatOps root.Bare) sym.PatTyRest)

abbrev pub at_pat_op : ℕ → ℕ → Look → Move
at_pat_op q n (look.Other (tok.Long x y)) = Eat (P3 (sym.Emit (made.Lead (node.LongVid x) n)) (sym.Emit (made.Lead node.Op q)) sym.PatLong)
at_pat_op q n (look.Plain x s) = Eat (P3 (sym.Emit (made.Lead (node.Vid x) n)) (sym.Emit (made.Lead node.Op q)) sym.PatName)
at_pat_op q n (look.Operator x s l r) = Eat (P3 (sym.Emit (made.Lead (node.Vid x) n)) (sym.Emit (made.Lead node.Op q)) sym.PatName)
at_pat_op q n (look.Other tok.Equals) = Eat (P3 (sym.Emit (made.Lead node.VidEquals n)) (sym.Emit (made.Lead node.Op q)) sym.PatName)
at_pat_op q n _ = Refuse

abbrev pub at_pat_name : Look → Move
at_pat_name (look.Other tok.As) = Eat (P2 sym.Pat (sym.Emit (made.Inner node.Layered)))
at_pat_name (look.Other tok.Colon) = Eat (P2 sym.Ty sym.PatNameTy)
at_pat_name _ = Skip (P1 sym.PatLong)

abbrev pub at_pat_name_ty : Look → Move
at_pat_name_ty (look.Other tok.As) = Eat (P2 sym.Pat (sym.Emit (made.Inner node.TypedLayered)))
at_pat_name_ty _ = Skip (P2 (sym.Emit (made.Inner node.TypedPat)) sym.PatTyRest)

abbrev pub at_pat_long : Look → Move
at_pat_long l = cond (is_atpat l) (Skip (P4 sym.Atpat (sym.Emit (made.Inner node.ConPat)) (sym.PatOps root.Bare) sym.PatTyRest)) (Skip (P2 (sym.PatOps root.Bare) sym.PatTyRest))

abbrev pub at_pat_ty_rest : Look → Move
at_pat_ty_rest (look.Other tok.Colon) = Eat (P3 sym.Ty (sym.Emit (made.Inner node.TypedPat)) sym.PatTyRest)
at_pat_ty_rest _ = Skip P0

abbrev pub at_pat_operand : Look → Move
at_pat_operand l = cond (is_ident l) (Skip (P2 sym.LongVid sym.PatArg)) (Skip (P1 sym.Atpat))

abbrev pub at_pat_arg : Look → Move
at_pat_arg l = cond (is_atpat l) (Skip (P2 sym.Atpat (sym.Emit (made.Inner node.ConPat)))) (Skip P0)

abbrev pub at_atpat : ℕ → Look → Move
at_atpat n (look.Other tok.Underscore) = Eat (P1 (sym.Emit (made.Lead node.Wild n)))
at_atpat n (look.Other (tok.Int z h)) = Eat (P1 (sym.Emit (made.Lead (node.Int z) n)))
at_atpat n (look.Other (tok.Char y)) = Eat (P1 (sym.Emit (made.Lead (node.Char y) n)))
at_atpat n (look.Other (tok.Text y)) = Eat (P1 (sym.Emit (made.Lead (node.Text y) n)))
at_atpat n (look.Other tok.Open) = Eat (P1 (sym.PatParen n))
at_atpat n (look.Other tok.OpenBracket) = Eat (P1 (sym.PatList n))
at_atpat n (look.Other tok.OpenBrace) = Eat (P1 (sym.PatRecord n))
at_atpat n l = cond (is_ident l) (Skip (P1 sym.LongVid)) Refuse

abbrev pub at_pat_paren : ℕ → Look → Move
at_pat_paren p (look.Other tok.Close) = Eat (P1 (sym.Emit (made.Lead node.PatUnit p)))
at_pat_paren p _ = Skip (P2 sym.Pat (sym.PatParenRest p))

abbrev pub at_pat_paren_rest : ℕ → Look → Move
at_pat_paren_rest p (look.Other tok.Close) = Eat (P1 (sym.Emit (made.Lead node.PatParen p)))
at_pat_paren_rest p (look.Other tok.Comma) = Eat (P3 sym.Pats sym.WantClose (sym.Emit (made.Lead node.PatTuple p)))
at_pat_paren_rest p _ = Refuse

abbrev pub at_pats : Look → Move
at_pats l = Skip (P2 sym.Pat sym.PatsRest)

abbrev pub at_pats_rest : Look → Move
at_pats_rest (look.Other tok.Comma) = Eat (P2 sym.Pats (sym.Emit (made.Inner node.MorePats)))
at_pats_rest _ = Skip P0

abbrev pub at_pat_list : ℕ → Look → Move
at_pat_list p (look.Other tok.CloseBracket) = Eat (P1 (sym.Emit (made.Lead node.PatEmptyList p)))
at_pat_list p _ = Skip (P3 sym.Pats sym.WantCloseBracket (sym.Emit (made.Lead node.PatList p)))

abbrev pub at_pat_record : ℕ → Look → Move
at_pat_record p (look.Other tok.CloseBrace) = Eat (P1 (sym.Emit (made.Lead node.PatEmptyRecord p)))
at_pat_record p _ = Skip (P3 sym.PatRows sym.WantCloseBrace (sym.Emit (made.Lead node.PatRecord p)))

abbrev pub at_pat_rows : Look → Move
at_pat_rows l = Skip (P2 sym.PatRow sym.PatRowsRest)

abbrev pub at_pat_rows_rest : Look → Move
at_pat_rows_rest (look.Other tok.Comma) = Eat (P2 sym.PatRows (sym.Emit (made.Inner node.MorePatRows)))
at_pat_rows_rest _ = Skip P0

abbrev pub at_pat_row : ℕ → Look → Move
at_pat_row n (look.Plain x s) = Eat (P2 (sym.Emit (made.Lead (node.Label x) n)) sym.PunRow)
at_pat_row n (look.Operator x s l r) = Eat (P4 (sym.Emit (made.Lead (node.Label x) n)) sym.WantEquals sym.Pat (sym.Emit (made.Inner node.PatRow)))
at_pat_row n (look.Other (tok.Int z h)) = cond (is_label h) (Eat (P4 (sym.Emit (made.Lead (node.LabelNumber z) n)) sym.WantEquals sym.Pat (sym.Emit (made.Inner node.PatRow)))) Refuse
at_pat_row n _ = Refuse

abbrev pub at_pun_row : Look → Move
at_pun_row (look.Other tok.Equals) = Eat (P2 sym.Pat (sym.Emit (made.Inner node.PatRow)))
at_pun_row (look.Other tok.Colon) = Eat (P2 sym.Ty sym.PunRowTy)
at_pun_row (look.Other tok.As) = Eat (P2 sym.Pat (sym.Emit (made.Inner node.PunRowAs)))
at_pun_row _ = Skip (P1 (sym.Emit (made.Inner node.PunRow)))

abbrev pub at_pun_row_ty : Look → Move
at_pun_row_ty (look.Other tok.As) = Eat (P2 sym.Pat (sym.Emit (made.Inner node.TypedPunRowAs)))
at_pun_row_ty _ = Skip (P1 (sym.Emit (made.Inner node.TypedPunRow)))

abbrev pub at_ty : Look → Move
at_ty l = Skip (P3 sym.TyAtom sym.TyFactors sym.TyArrow)

abbrev pub at_ty_atom : ℕ → Look → Move
at_ty_atom n (look.Other (tok.TyVar x)) = Eat (P2 (sym.Emit (made.Lead (node.TyVar x) n)) sym.TyPost)
at_ty_atom n (look.Plain x false) = Eat (P2 (sym.Emit (made.Lead (node.TyCon x) n)) sym.TyPost)
at_ty_atom n (look.Operator x false l r) = Eat (P2 (sym.Emit (made.Lead (node.TyCon x) n)) sym.TyPost)
at_ty_atom n (look.Other (tok.Long x true)) = Eat (P2 (sym.Emit (made.Lead (node.LongTyCon x) n)) sym.TyPost)
at_ty_atom n (look.Other tok.OpenBrace) = Eat (P2 (sym.RecordTy n) sym.TyPost)
at_ty_atom n (look.Other tok.Open) = Eat (P2 sym.Ty (sym.TyParen n))
at_ty_atom n _ = Refuse

abbrev pub at_ty_paren : ℕ → Look → Move
at_ty_paren p (look.Other tok.Comma) = Eat (P3 sym.Tys sym.WantClose (sym.TySeqCon p))
at_ty_paren p (look.Other tok.Close) = Eat (P2 (sym.Emit (made.Lead node.ParenTy p)) sym.TyPost)
at_ty_paren p _ = Refuse

abbrev pub at_ty_seq_con : ℕ → ℕ → Look → Move
at_ty_seq_con p n (look.Plain x false) = Eat (P3 (sym.Emit (made.Lead (node.TyCon x) n)) (sym.Emit (made.Lead node.SeqConTy p)) sym.TyPost)
at_ty_seq_con p n (look.Operator x false l r) = Eat (P3 (sym.Emit (made.Lead (node.TyCon x) n)) (sym.Emit (made.Lead node.SeqConTy p)) sym.TyPost)
at_ty_seq_con p n (look.Other (tok.Long x true)) = Eat (P3 (sym.Emit (made.Lead (node.LongTyCon x) n)) (sym.Emit (made.Lead node.SeqConTy p)) sym.TyPost)
at_ty_seq_con p n _ = Refuse

abbrev pub at_ty_post : ℕ → Look → Move
at_ty_post n (look.Plain x false) = Eat (P3 (sym.Emit (made.Lead (node.TyCon x) n)) (sym.Emit (made.Inner node.ConTy)) sym.TyPost)
at_ty_post n (look.Operator x false l r) = Eat (P3 (sym.Emit (made.Lead (node.TyCon x) n)) (sym.Emit (made.Inner node.ConTy)) sym.TyPost)
at_ty_post n (look.Other (tok.Long x true)) = Eat (P3 (sym.Emit (made.Lead (node.LongTyCon x) n)) (sym.Emit (made.Inner node.ConTy)) sym.TyPost)
at_ty_post n _ = Skip P0

abbrev pub at_ty_factors : Look → Move
at_ty_factors (look.Plain x true) = Eat (P2 sym.Factors (sym.Emit (made.Inner node.ProductTy)))
at_ty_factors (look.Operator x true l r) = Eat (P2 sym.Factors (sym.Emit (made.Inner node.ProductTy)))
at_ty_factors _ = Skip P0

abbrev pub at_factors : Look → Move
at_factors l = Skip (P2 sym.TyAtom sym.FactorsRest)

abbrev pub at_factors_rest : Look → Move
at_factors_rest (look.Plain x true) = Eat (P2 sym.Factors (sym.Emit (made.Inner node.MoreFactors)))
at_factors_rest (look.Operator x true l r) = Eat (P2 sym.Factors (sym.Emit (made.Inner node.MoreFactors)))
at_factors_rest _ = Skip P0

abbrev pub at_ty_arrow : Look → Move
at_ty_arrow (look.Other tok.To) = Eat (P2 sym.Ty (sym.Emit (made.Inner node.ArrowTy)))
at_ty_arrow _ = Skip P0

abbrev pub at_tys : Look → Move
at_tys l = Skip (P2 sym.Ty sym.TysRest)

abbrev pub at_tys_rest : Look → Move
at_tys_rest (look.Other tok.Comma) = Eat (P2 sym.Tys (sym.Emit (made.Inner node.MoreTys)))
at_tys_rest _ = Skip P0

abbrev pub at_record_ty : ℕ → Look → Move
at_record_ty p (look.Other tok.CloseBrace) = Eat (P1 (sym.Emit (made.Lead node.EmptyRecordTy p)))
at_record_ty p _ = Skip (P3 sym.TyRows sym.WantCloseBrace (sym.Emit (made.Lead node.RecordTy p)))

abbrev pub at_ty_rows : Look → Move
at_ty_rows l = Skip (P5 sym.Label sym.WantColon sym.Ty (sym.Emit (made.Inner node.TyRow)) sym.TyRowsRest)

abbrev pub at_ty_rows_rest : Look → Move
at_ty_rows_rest (look.Other tok.Comma) = Eat (P2 sym.TyRows (sym.Emit (made.Inner node.MoreTyRows)))
at_ty_rows_rest _ = Skip P0

abbrev pub at_want_close : Look → Move
at_want_close (look.Other tok.Close) = Eat P0
at_want_close _ = Refuse

abbrev pub at_want_close_bracket : Look → Move
at_want_close_bracket (look.Other tok.CloseBracket) = Eat P0
at_want_close_bracket _ = Refuse

abbrev pub at_want_close_brace : Look → Move
at_want_close_brace (look.Other tok.CloseBrace) = Eat P0
at_want_close_brace _ = Refuse

abbrev pub at_want_equals : Look → Move
at_want_equals (look.Other tok.Equals) = Eat P0
at_want_equals _ = Refuse

abbrev pub at_want_colon : Look → Move
at_want_colon (look.Other tok.Colon) = Eat P0
at_want_colon _ = Refuse

abbrev pub at_want_then : Look → Move
at_want_then (look.Other tok.Then) = Eat P0
at_want_then _ = Refuse

abbrev pub at_want_else : Look → Move
at_want_else (look.Other tok.Else) = Eat P0
at_want_else _ = Refuse

abbrev pub at_want_do : Look → Move
at_want_do (look.Other tok.Do) = Eat P0
at_want_do _ = Refuse

abbrev pub at_want_of : Look → Move
at_want_of (look.Other tok.Of) = Eat P0
at_want_of _ = Refuse

abbrev pub at_want_in : Look → Move
at_want_in (look.Other tok.In) = Eat P0
at_want_in _ = Refuse

abbrev pub at_want_arrow : Look → Move
at_want_arrow (look.Other tok.Arrow) = Eat P0
at_want_arrow _ = Refuse

abbrev pub at_eof : Look → Move
at_eof (look.Other tok.Finish) = Eat P0
at_eof _ = Refuse

-- an operator that doesn't go on a phrase ends it, or stands there in no way
abbrev pub ends_at : Bool → Root → ℕ → Bool → Bool
ends_at v root.Bare l r = false
ends_at v (root.Operator m s) l r = lefts v (root.Operator m s) l r

abbrev pub at_operates : Bool → Root → ℕ → Option InfixVid → Move
at_operates v c n (Some w) = cond (fits c (root.Operator w.level w.right)) (Eat (P6 (sym.Emit (made.Lead w.vid n)) sym.Atexp sym.Args (sym.Ops (root.Operator w.level w.right)) (sym.Emit (made.Inner node.InfixExp)) (sym.Ops c))) (cond (ends_at v c w.level w.right) (Skip P0) Mixed)
at_operates v c n None = Skip P0

abbrev pub at_ops : Bool → Root → ℕ → Look → Move
at_ops v c n l = at_operates v c n (operates l)

abbrev pub at_pat_ops : Bool → Root → ℕ → Look → Move
at_pat_ops v c n (look.Operator x s l r) = cond (fits c (root.Operator l r)) (Eat (P5 (sym.Emit (made.Lead (node.Vid x) n)) sym.PatOperand (sym.PatOps (root.Operator l r)) (sym.Emit (made.Inner node.InfixPat)) (sym.PatOps c))) (cond (ends_at v c l r) (Skip P0) Mixed)
at_pat_ops v c n _ = Skip P0
