-- The steps of declarations: what ends one, and which symbols let it go.
use Rattle.std.proofs.Common.{◌≡◌, ℕ, ◌⊎◌, inl, inr, Bool, true, false, cond, List, [], ◌∷◌, length, refl, subst}
use Rattle.smlc_base.specs.declared.names.Name.{Name}
use Rattle.sml_tree.specs.declared.status.Status.{Status}
use Rattle.sml_tree.specs.declared.tree_node.TreeNode.TheVariants as node
use Rattle.sml_syntax.specs.declared.forms.Terminal.{Terminal}
use Rattle.sml_syntax.specs.declared.forms.Terminal.TheVariants as tok
use Rattle.sml_syntax.specs.declared.forms.Made.{Made}
use Rattle.sml_syntax.specs.declared.forms.Made.TheVariants as made
use Rattle.sml_syntax.specs.declared.forms.Root.TheVariants as root
use Rattle.sml_syntax.specs.declared.forms.Look.{Look}
use Rattle.sml_syntax.specs.declared.forms.Look.TheVariants as look
use Rattle.sml_syntax.specs.declared.symbol.Symbol.{Symbol}
use Rattle.sml_syntax.specs.declared.symbol.Symbol.TheVariants as sy
use Rattle.sml_syntax.specs.declared.symbol.Push.{Push}
use Rattle.sml_syntax.specs.declared.symbol.Push.TheVariants.{P0, P1, P2, P3, P4, P5}
use Rattle.sml_syntax.specs.declared.symbol.Move.TheVariants.{Refuse, Skip, Eat}
use Rattle.sml_syntax.specs.Fixity.{Fix, looks}
use Rattle.sml_syntax.specs.Moves.{is_atpat, is_dec, at_program, at_decs, at_vids_rest, at_val_ty_vars, at_val_paren, at_ty_var_list, at_val_and, at_fun_ty_vars, at_fun_paren, at_fun_and, at_clause_bar, at_typ_and, at_ty_vars, at_dat_and, at_con_of, at_con_bar, at_ex_rest, at_ex_and}
use Rattle.sml_syntax.specs.Machine.{Accepts, has_infix, move_of, emit, skip, eat, moves, pushed}
use Rattle.syntax_laws.specs.Ends.{Next, ends_ty}
use Rattle.syntax_laws.proofs.Standing.{name_case, skip_inv, eat_inv}
use Rattle.syntax_laws.proofs.PatternSteps.{at_first}
use Rattle.syntax_laws.proofs.ExpressionSteps.{exp_end}

-- what stands behind a declaration
abbrev pub dec_end : Look → Bool
dec_end (look.Other tok.Semicolon) = true
dec_end (look.Other tok.In) = true
dec_end (look.Other tok.End) = true
dec_end (look.Other tok.Finish) = true
dec_end l = is_dec l

-- what stands behind a sequence of declarations
abbrev pub decs_end : Look → Bool
decs_end (look.Other tok.In) = true
decs_end (look.Other tok.End) = true
decs_end (look.Other tok.Finish) = true
decs_end _ = false

-- what stands behind a binding
abbrev pub bind_end : Look → Bool
bind_end (look.Other tok.And) = true
bind_end l = dec_end l

-- what stands behind a constructor binding
abbrev pub con_end : Look → Bool
con_end (look.Other tok.Bar) = true
con_end l = bind_end l

pub dec_exp : (m : Bool) (l : Look) → dec_end l ≡ true → exp_end m l ≡ true
dec_exp m (look.Plain x s) e = cc
dec_exp m (look.Operator x s l r) e = cc
dec_exp m (look.Other (tok.Long x y)) e = cc
dec_exp m (look.Other tok.Op) e = cc
dec_exp m (look.Other (tok.Int z h)) e = cc
dec_exp m (look.Other (tok.Char y)) e = cc
dec_exp m (look.Other (tok.Text y)) e = cc
dec_exp m (look.Other tok.Open) e = cc
dec_exp m (look.Other tok.OpenBracket) e = cc
dec_exp m (look.Other tok.OpenBrace) e = cc
dec_exp m (look.Other tok.Let) e = cc
dec_exp m (look.Other tok.Equals) e = cc
dec_exp m (look.Other tok.To) e = cc
dec_exp m (look.Other tok.Colon) e = cc
dec_exp m (look.Other tok.Andalso) e = cc
dec_exp m (look.Other tok.Orelse) e = cc
dec_exp m (look.Other tok.Handle) e = cc
dec_exp m (look.Other tok.Bar) e = cc
dec_exp m _ e = refl

pub dec_ty : (l : Look) → dec_end l ≡ true → ends_ty l ≡ true
dec_ty (look.Plain x s) e = cc
dec_ty (look.Operator x s l r) e = cc
dec_ty (look.Other (tok.Long x y)) e = cc
dec_ty (look.Other tok.To) e = cc
dec_ty _ e = refl

pub dec_bind : (l : Look) → dec_end l ≡ true → bind_end l ≡ true
dec_bind (look.Other tok.And) e = refl
dec_bind l e = e

pub bind_exp : (m : Bool) (l : Look) → bind_end l ≡ true → exp_end m l ≡ true
bind_exp m (look.Other tok.And) e = refl
bind_exp m l e = dec_exp m l e

pub bind_ty : (l : Look) → bind_end l ≡ true → ends_ty l ≡ true
bind_ty (look.Other tok.And) e = refl
bind_ty l e = dec_ty l e

pub bind_con : (l : Look) → bind_end l ≡ true → con_end l ≡ true
bind_con (look.Other tok.Bar) e = refl
bind_con l e = e

pub con_end_ty : (l : Look) → con_end l ≡ true → ends_ty l ≡ true
con_end_ty (look.Other tok.Bar) e = refl
con_end_ty l e = bind_ty l e

pub ands : (l : Look) → dec_end l ≡ true → (at_val_and l ≡ Skip P0) × (at_fun_and l ≡ Skip P0) × (at_typ_and l ≡ Skip P0) × (at_dat_and l ≡ Skip P0) × (at_ex_and l ≡ Skip P0)
ands (look.Other tok.And) e = cc
ands _ e = (refl, refl, refl, refl, refl)

pub vids_end : (u : Status) (l : Look) → dec_end l ≡ true → at_vids_rest u l ≡ Skip P0
vids_end u (look.Plain x s) e = cc
vids_end u (look.Operator x s l r) e = cc
vids_end u _ e = refl

pub bars : (l : Look) → bind_end l ≡ true → (at_clause_bar l ≡ Skip P0) × (at_con_bar l ≡ Skip P0)
bars (look.Other tok.Bar) e = cc
bars _ e = (refl, refl)

pub con_ofs : (l : Look) → con_end l ≡ true → at_con_of l ≡ Skip (P2 (sy.Emit (made.Inner node.ConBind)) sy.ConBar)
con_ofs (look.Other tok.Of) e = cc
con_ofs _ e = refl

pub ex_rests : (l : Look) → bind_end l ≡ true → at_ex_rest l ≡ Skip (P2 (sy.Emit (made.Inner node.ExBind)) sy.ExAnd)
ex_rests (look.Other tok.Of) e = cc
ex_rests (look.Other tok.Equals) e = cc
ex_rests _ e = refl

pub decs_skip : (n : ℕ) (l : Look) → decs_end l ≡ true → (at_program l ≡ Skip P0) × (at_decs n l ≡ Skip (P1 (sy.Emit (made.Lead node.NoDecs n))))
decs_skip n (look.Other tok.In) e = (refl, refl)
decs_skip n (look.Other tok.End) e = (refl, refl)
decs_skip n (look.Other tok.Finish) e = (refl, refl)
decs_skip n _ e = cc

pub decs_dec : (l : Look) → decs_end l ≡ true → dec_end l ≡ true
decs_dec (look.Other tok.In) e = refl
decs_dec (look.Other tok.End) e = refl
decs_dec (look.Other tok.Finish) e = refl
decs_dec _ e = cc

pub is_dec_end : (l : Look) → is_dec l ≡ true → dec_end l ≡ true
is_dec_end (look.Other tok.Semicolon) e = refl
is_dec_end (look.Other tok.In) e = refl
is_dec_end (look.Other tok.End) e = refl
is_dec_end (look.Other tok.Finish) e = refl
is_dec_end l e = e

pub dec_moves : (n : ℕ) (l : Look) → is_dec l ≡ true → (at_program l ≡ Skip (P2 sy.Dec sy.Program)) × (at_decs n l ≡ Skip (P3 sy.Dec sy.Decs (sy.Emit (made.Inner node.MoreDecs))))
dec_moves n (look.Other tok.Val) e = (refl, refl)
dec_moves n (look.Other tok.Fun) e = (refl, refl)
dec_moves n (look.Other tok.Type) e = (refl, refl)
dec_moves n (look.Other tok.Datatype) e = (refl, refl)
dec_moves n (look.Other tok.Exception) e = (refl, refl)
dec_moves n (look.Other tok.Local) e = (refl, refl)
dec_moves n (look.Other tok.Infix) e = (refl, refl)
dec_moves n (look.Other tok.Infixr) e = (refl, refl)
dec_moves n (look.Other tok.Nonfix) e = (refl, refl)
dec_moves n _ e = cc

abbrev pub is_tyvar : Look → Bool
is_tyvar (look.Other (tok.TyVar x)) = true
is_tyvar _ = false

tyvar_first : (n : ℕ) (l : Look) (p : Push) → (at_ty_var_list n l ≡ Eat p) ⊎ (at_ty_var_list n l ≡ Skip p) → is_tyvar l ≡ true
tyvar_first n (look.Other (tok.TyVar x)) p e = refl
tyvar_first n _ p (inl e) = cc
tyvar_first n _ p (inr e) = cc

tyvar_parens : (q : ℕ) (i : Bool) (l : Look) → is_tyvar l ≡ true → (at_val_paren q l ≡ Skip (P4 sy.TyVarList sy.WantClose (sy.Emit (made.Lead node.TyVarSeq q)) sy.ValBind)) × (at_fun_paren q i l ≡ Skip (P4 sy.TyVarList sy.WantClose (sy.Emit (made.Lead node.TyVarSeq q)) sy.FunBinds))
tyvar_parens q i (look.Other (tok.TyVar x)) e = (refl, refl)
tyvar_parens q i _ e = cc

module _ (v : Bool) where
  -- a symbol that what stands next makes skip
  pub at_next : {s : Symbol} {k : List Symbol} {f : Fix} {a : List Terminal} {o : List Made} (q : Look → Bool) (p : Push) → ((i : Bool) (m n : ℕ) (l : Look) → q l ≡ true → move_of v s i m n l ≡ Skip p) → Next q f a → Accepts v (pushed p k) f a o → Accepts v (s ∷ k) f a o
  at_next {a = []} q p w n h = absurd n
  at_next {f = f} {a = t ∷ a} q p w n h = skip {p = p} (w (has_infix f) (length f) (length (t ∷ a)) (looks f t) n) h

  tyvars_first : {k : List Symbol} {f : Fix} {a : List Terminal} {o : List Made} → Accepts v (sy.TyVarList ∷ k) f a o → Next is_tyvar f a
  tyvars_first {f = f} (skip {t = t} {a = a} e h) = tyvar_first (length (t ∷ a)) (looks f t) _ (inr e)
  tyvars_first {f = f} (eat {t = t} {a = a} e h) = tyvar_first (length (t ∷ a)) (looks f t) _ (inl e)

  pub val_seq : {k : List Symbol} {f : Fix} {a : List Terminal} {o : List Made} (q : ℕ) → Accepts v (sy.TyVarList ∷ sy.WantClose ∷ sy.Emit (made.Lead node.TyVarSeq q) ∷ sy.ValBind ∷ k) f a o → Accepts v (sy.ValParen q ∷ k) f a o
  val_seq q h = at_next is_tyvar (P4 sy.TyVarList sy.WantClose (sy.Emit (made.Lead node.TyVarSeq q)) sy.ValBind) (λ i m n l e. (tyvar_parens q i l e).0) (tyvars_first h) h

  pub fun_seq : {k : List Symbol} {f : Fix} {a : List Terminal} {o : List Made} (q : ℕ) → Accepts v (sy.TyVarList ∷ sy.WantClose ∷ sy.Emit (made.Lead node.TyVarSeq q) ∷ sy.FunBinds ∷ k) f a o → Accepts v (sy.FunParen q ∷ k) f a o
  fun_seq q h = at_next is_tyvar (P4 sy.TyVarList sy.WantClose (sy.Emit (made.Lead node.TyVarSeq q)) sy.FunBinds) (λ i m n l e. (tyvar_parens q i l e).1) (tyvars_first h) h

  -- no pattern begins with these
  no_pat : {k : List Symbol} {f : Fix} {t : Terminal} {a : List Terminal} {o : List Made} → moves v sy.Pat f t a ≡ Skip (P3 sy.Atpat (sy.PatOps root.Bare) sy.PatTyRest) → is_atpat (looks f t) ≡ false → Accepts v (sy.Pat ∷ k) f (t ∷ a) o → ⊥
  no_pat e i h = let w = at_first v (skip_inv {s = sy.Pat} {p = P3 sy.Atpat (sy.PatOps root.Bare) sy.PatTyRest} e h) in cc

  val_open : {k : List Symbol} {f : Fix} {o : List Made} (n : ℕ) (t : Terminal) (a : List Terminal) → Accepts v (sy.PatParen n ∷ sy.PatOps root.Bare ∷ sy.PatTyRest ∷ sy.ValEquals ∷ k) f (t ∷ a) o → Accepts v (sy.ValParen n ∷ k) f (t ∷ a) (made.Lead node.NoTyVars n ∷ o)
  val_open n (tok.TyVar x) a h = absurd (no_pat refl refl (skip_inv {s = sy.PatParen n} {p = P2 sy.Pat (sy.PatParenRest n)} refl h))
  val_open {f = f} n (tok.Id x s) a h = skip {p = P5 (sy.Emit (made.Lead node.NoTyVars n)) (sy.PatParen n) (sy.PatOps root.Bare) sy.PatTyRest sy.ValEquals} (name_case f x s (λ l. at_val_paren n l ≡ Skip (P5 (sy.Emit (made.Lead node.NoTyVars n)) (sy.PatParen n) (sy.PatOps root.Bare) sy.PatTyRest sy.ValEquals)) refl (λ l r. refl)) (emit h)
  val_open n _ a h = skip refl (emit h)

  val_paren : {k : List Symbol} {f : Fix} {a : List Terminal} {o : List Made} (n : ℕ) → Accepts v (sy.PatParen n ∷ sy.PatOps root.Bare ∷ sy.PatTyRest ∷ sy.ValEquals ∷ k) f a o → Accepts v (sy.ValParen n ∷ k) f a (made.Lead node.NoTyVars n ∷ o)
  val_paren n (skip {t = t} {a = a} e h) = val_open n t a (skip e h)
  val_paren n (eat {t = t} {a = a} e h) = val_open n t a (eat e h)

  val_none_at : {k : List Symbol} {f : Fix} {o : List Made} (t : Terminal) (a : List Terminal) → Accepts v (sy.ValBind ∷ k) f (t ∷ a) o → Accepts v (sy.ValTyVars ∷ k) f (t ∷ a) (made.Lead node.NoTyVars (length (t ∷ a)) ∷ o)
  val_none_at (tok.TyVar x) a h = absurd (no_pat refl refl (skip_inv {s = sy.ValBind} {p = P2 sy.Pat sy.ValEquals} refl h))
  val_none_at tok.Open a h = eat {p = P1 (sy.ValParen (length (tok.Open ∷ a)))} refl (val_paren (length (tok.Open ∷ a)) (eat_inv {s = sy.Atpat} {p = P1 (sy.PatParen (length (tok.Open ∷ a)))} refl (skip_inv {s = sy.Pat} {p = P3 sy.Atpat (sy.PatOps root.Bare) sy.PatTyRest} refl (skip_inv {s = sy.ValBind} {p = P2 sy.Pat sy.ValEquals} refl h))))
  val_none_at {f = f} (tok.Id x s) a h = skip {p = P2 (sy.Emit (made.Lead node.NoTyVars (length (tok.Id x s ∷ a)))) sy.ValBind} (name_case f x s (λ l. at_val_ty_vars (length (tok.Id x s ∷ a)) l ≡ Skip (P2 (sy.Emit (made.Lead node.NoTyVars (length (tok.Id x s ∷ a)))) sy.ValBind)) refl (λ l r. refl)) (emit h)
  val_none_at _ a h = skip refl (emit h)

  pub val_none : {k : List Symbol} {f : Fix} {a : List Terminal} {o : List Made} → Accepts v (sy.ValBind ∷ k) f a o → Accepts v (sy.ValTyVars ∷ k) f a (made.Lead node.NoTyVars (length a) ∷ o)
  val_none (skip {t = t} {a = a} e h) = val_none_at t a (skip e h)
  val_none (eat {t = t} {a = a} e h) = val_none_at t a (eat e h)

  -- the head that begins the first clause, where it begins with a parenthesis or a type variable
  no_head : {k : List Symbol} {f : Fix} {x : Name} {a : List Terminal} {o : List Made} (b : Bool) → has_infix f ≡ b → Accepts v (sy.Head ∷ k) f (tok.TyVar x ∷ a) o → ⊥
  no_head true i h = let w = at_first v (skip_inv {s = sy.Head} {p = P2 sy.Atpat sy.HeadOp} (rw i refl) h) in cc
  no_head false i (skip {p = p} e h) = let P : Bool → Type 0 = λ b. cond b (Skip (P2 sy.Atpat sy.HeadOp)) Refuse ≡ Skip p in let w = subst P i e in cc
  no_head false i (eat {p = p} e h) = let P : Bool → Type 0 = λ b. cond b (Skip (P2 sy.Atpat sy.HeadOp)) Refuse ≡ Eat p in let w = subst P i e in cc

  heads : {k : List Symbol} {f : Fix} {t : Terminal} {a : List Terminal} {o : List Made} → Accepts v (sy.FunBinds ∷ k) f (t ∷ a) o → Accepts v (sy.Head ∷ sy.ClauseRest ∷ sy.FunAnd ∷ k) f (t ∷ a) o
  heads h = skip_inv {s = sy.Clauses} {p = P2 sy.Head sy.ClauseRest} refl (skip_inv {s = sy.FunBinds} {p = P2 sy.Clauses sy.FunAnd} refl h)

  fun_open : {k : List Symbol} {f : Fix} {o : List Made} (n : ℕ) (t : Terminal) (a : List Terminal) → has_infix f ≡ true → Accepts v (sy.HeadParen n ∷ sy.ClauseRest ∷ sy.FunAnd ∷ k) f (t ∷ a) o → Accepts v (sy.FunParen n ∷ k) f (t ∷ a) (made.Lead node.NoTyVars n ∷ o)
  fun_open n (tok.TyVar x) a i h = let w = at_first v (skip_inv {s = sy.HeadParen n} {p = P2 sy.Atpat (sy.HeadFirst n)} refl h) in cc
  fun_open {f = f} n (tok.Id x s) a i h = skip {p = P4 (sy.Emit (made.Lead node.NoTyVars n)) (sy.HeadParen n) sy.ClauseRest sy.FunAnd} (name_case f x s (λ l. at_fun_paren n (has_infix f) l ≡ Skip (P4 (sy.Emit (made.Lead node.NoTyVars n)) (sy.HeadParen n) sy.ClauseRest sy.FunAnd)) (rw i refl) (λ l r. rw i refl)) (emit h)
  fun_open n _ a i h = skip {p = P4 (sy.Emit (made.Lead node.NoTyVars n)) (sy.HeadParen n) sy.ClauseRest sy.FunAnd} (rw i refl) (emit h)

  fun_paren : {k : List Symbol} {f : Fix} {a : List Terminal} {o : List Made} (n : ℕ) → has_infix f ≡ true → Accepts v (sy.HeadParen n ∷ sy.ClauseRest ∷ sy.FunAnd ∷ k) f a o → Accepts v (sy.FunParen n ∷ k) f a (made.Lead node.NoTyVars n ∷ o)
  fun_paren n i (skip {t = t} {a = a} e h) = fun_open n t a i (skip e h)
  fun_paren n i (eat {t = t} {a = a} e h) = fun_open n t a i (eat e h)

  fun_at_open : {k : List Symbol} {f : Fix} {a : List Terminal} {o : List Made} (b : Bool) → has_infix f ≡ b → Accepts v (sy.Head ∷ sy.ClauseRest ∷ sy.FunAnd ∷ k) f (tok.Open ∷ a) o → Accepts v (sy.FunParen (length (tok.Open ∷ a)) ∷ k) f a (made.Lead node.NoTyVars (length (tok.Open ∷ a)) ∷ o)
  fun_at_open {a = a} true i h = fun_paren (length (tok.Open ∷ a)) i (eat_inv {s = sy.Head} {p = P1 (sy.HeadParen (length (tok.Open ∷ a)))} (rw i refl) h)
  fun_at_open {a = a} false i (skip {p = p} e h) = let P : Bool → Type 0 = λ b. cond b (Eat (P1 (sy.HeadParen (length (tok.Open ∷ a))))) Refuse ≡ Skip p in let w = subst P i e in cc
  fun_at_open {a = a} false i (eat {p = p} e h) = let P : Bool → Type 0 = λ b. cond b (Eat (P1 (sy.HeadParen (length (tok.Open ∷ a))))) Refuse ≡ Eat p in let w = subst P i e in cc

  fun_none_at : {k : List Symbol} {f : Fix} {o : List Made} (t : Terminal) (a : List Terminal) → Accepts v (sy.FunBinds ∷ k) f (t ∷ a) o → Accepts v (sy.FunTyVars ∷ k) f (t ∷ a) (made.Lead node.NoTyVars (length (t ∷ a)) ∷ o)
  fun_none_at {f = f} (tok.TyVar x) a h = absurd (no_head (has_infix f) refl (heads h))
  fun_none_at {f = f} tok.Open a h = eat {p = P1 (sy.FunParen (length (tok.Open ∷ a)))} refl (fun_at_open (has_infix f) refl (heads h))
  fun_none_at {f = f} (tok.Id x s) a h = skip {p = P2 (sy.Emit (made.Lead node.NoTyVars (length (tok.Id x s ∷ a)))) sy.FunBinds} (name_case f x s (λ l. at_fun_ty_vars (length (tok.Id x s ∷ a)) l ≡ Skip (P2 (sy.Emit (made.Lead node.NoTyVars (length (tok.Id x s ∷ a)))) sy.FunBinds)) refl (λ l r. refl)) (emit h)
  fun_none_at _ a h = skip refl (emit h)

  pub fun_none : {k : List Symbol} {f : Fix} {a : List Terminal} {o : List Made} → Accepts v (sy.FunBinds ∷ k) f a o → Accepts v (sy.FunTyVars ∷ k) f a (made.Lead node.NoTyVars (length a) ∷ o)
  fun_none (skip {t = t} {a = a} e h) = fun_none_at t a (skip e h)
  fun_none (eat {t = t} {a = a} e h) = fun_none_at t a (eat e h)

  ty_none_at : {k : List Symbol} {f : Fix} {o : List Made} (t : Terminal) (a : List Terminal) → Accepts v (sy.TyCon ∷ k) f (t ∷ a) o → Accepts v (sy.TyVars ∷ sy.TyCon ∷ k) f (t ∷ a) (made.Lead node.NoTyVars (length (t ∷ a)) ∷ o)
  ty_none_at (tok.TyVar x) a (skip e h) = cc
  ty_none_at (tok.TyVar x) a (eat e h) = cc
  ty_none_at tok.Open a (skip e h) = cc
  ty_none_at tok.Open a (eat e h) = cc
  ty_none_at {f = f} (tok.Id x s) a h = skip {p = P1 (sy.Emit (made.Lead node.NoTyVars (length (tok.Id x s ∷ a))))} (name_case f x s (λ l. at_ty_vars (length (tok.Id x s ∷ a)) l ≡ Skip (P1 (sy.Emit (made.Lead node.NoTyVars (length (tok.Id x s ∷ a)))))) refl (λ l r. refl)) (emit h)
  ty_none_at _ a h = skip refl (emit h)

  pub ty_none : {k : List Symbol} {f : Fix} {a : List Terminal} {o : List Made} → Accepts v (sy.TyCon ∷ k) f a o → Accepts v (sy.TyVars ∷ sy.TyCon ∷ k) f a (made.Lead node.NoTyVars (length a) ∷ o)
  ty_none (skip {t = t} {a = a} e h) = ty_none_at t a (skip e h)
  ty_none (eat {t = t} {a = a} e h) = ty_none_at t a (eat e h)
