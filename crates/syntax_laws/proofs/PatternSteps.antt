-- The machine accepts each pattern, with its nodes.
use Rattle.std.proofs.Common.{◌⊎◌, inl, inr, ◌≡◌, ℕ, Bool, true, false, not, List, [], ◌∷◌, length, refl}
use Rattle.sml_tree.specs.declared.tree_node.TreeNode.TheVariants as node
use Rattle.sml_syntax.specs.declared.forms.Terminal.{Terminal}
use Rattle.sml_syntax.specs.declared.forms.Terminal.TheVariants as tok
use Rattle.sml_syntax.specs.declared.forms.Made.{Made}
use Rattle.sml_syntax.specs.declared.forms.Made.TheVariants as made
use Rattle.sml_syntax.specs.declared.forms.Root.{Root}
use Rattle.sml_syntax.specs.declared.forms.Root.TheVariants as root
use Rattle.sml_syntax.specs.declared.forms.Look.{Look}
use Rattle.sml_syntax.specs.declared.forms.Look.TheVariants as look
use Rattle.sml_syntax.specs.declared.symbol.Symbol.{Symbol}
use Rattle.sml_syntax.specs.declared.symbol.Symbol.TheVariants as sy
use Rattle.sml_syntax.specs.declared.symbol.Push.{Push}
use Rattle.sml_syntax.specs.declared.symbol.Push.TheVariants.{P0, P1, P2, P4}
use Rattle.sml_syntax.specs.declared.symbol.Move.TheVariants.{Skip, Eat}
use Rattle.sml_syntax.specs.Fixity.{Fix, looks, lefts}
use Rattle.sml_syntax.specs.Moves.{is_ident, is_atpat, at_long_vid, at_pat_name, at_pat_name_ty, at_pat_ty_rest, at_pat_ops, at_atpat, at_pun_row, at_pun_row_ty}
use Rattle.sml_syntax.specs.Machine.{Accepts, emit, skip, eat}
use Rattle.syntax_laws.specs.Ends.{Next, ends_ty, ends_pat}
use Rattle.syntax_laws.proofs.TypesAccepted.{ends_list}

-- what ends a typed pattern
abbrev pub ends_typed : Look → Bool
ends_typed (look.Other tok.Colon) = true
ends_typed l = ends_pat l

-- what ends a row of a pattern
abbrev pub ends_row : Look → Bool
ends_row (look.Other tok.Comma) = true
ends_row l = ends_list l

abbrev pub no_atpat : Look → Bool
no_atpat l = not (is_atpat l)

-- what stands next doesn't go on a phrase with this root
abbrev pub closes : Bool → Root → Look → Bool
closes v m (look.Operator x s l r) = lefts v m l r
closes v m _ = true

pub pat_typed : (l : Look) → ends_pat l ≡ true → ends_typed l ≡ true
pat_typed (look.Other tok.Colon) e = cc
pat_typed _ e = e

pub row_pat : (l : Look) → ends_row l ≡ true → ends_pat l ≡ true
row_pat (look.Other tok.Comma) e = refl
row_pat (look.Other tok.Close) e = refl
row_pat (look.Other tok.CloseBracket) e = refl
row_pat (look.Other tok.CloseBrace) e = refl
row_pat _ e = cc

pub list_row : (l : Look) → ends_list l ≡ true → ends_row l ≡ true
list_row (look.Other tok.Comma) e = refl
list_row _ e = e

pub list_pat_end : (l : Look) → ends_list l ≡ true → ends_pat l ≡ true
list_pat_end (look.Other tok.Close) e = refl
list_pat_end (look.Other tok.CloseBracket) e = refl
list_pat_end (look.Other tok.CloseBrace) e = refl
list_pat_end _ e = cc

pub typed_no_atpat : (l : Look) → ends_typed l ≡ true → no_atpat l ≡ true
typed_no_atpat (look.Plain x s) e = cc
typed_no_atpat (look.Operator x s l r) e = cc
typed_no_atpat (look.Other tok.Colon) e = refl
typed_no_atpat (look.Other tok.Equals) e = refl
typed_no_atpat (look.Other tok.Arrow) e = refl
typed_no_atpat (look.Other tok.Comma) e = refl
typed_no_atpat (look.Other tok.Close) e = refl
typed_no_atpat (look.Other tok.CloseBracket) e = refl
typed_no_atpat (look.Other tok.CloseBrace) e = refl
typed_no_atpat _ e = cc

pub typed_closes : (v : Bool) (m : Root) (l : Look) → ends_typed l ≡ true → closes v m l ≡ true
typed_closes v m (look.Operator x s l r) e = cc
typed_closes v m _ e = refl

pub typed_ty : (l : Look) → ends_typed l ≡ true → ends_ty l ≡ true
typed_ty (look.Plain x s) e = cc
typed_ty (look.Operator x s l r) e = cc
typed_ty (look.Other (tok.Long x y)) e = cc
typed_ty (look.Other tok.To) e = cc
typed_ty _ e = refl

pub typed_ops : (v : Bool) (c : Root) (n : ℕ) (l : Look) → ends_typed l ≡ true → at_pat_ops v c n l ≡ Skip P0
typed_ops v c n (look.Operator x s l r) e = cc
typed_ops v c n _ e = refl

pub pat_rest : (l : Look) → ends_pat l ≡ true → (at_pat_ty_rest l ≡ Skip P0) × (at_pat_name l ≡ Skip (P1 sy.PatLong))
pat_rest (look.Other tok.Colon) e = cc
pat_rest (look.Other tok.As) e = cc
pat_rest _ e = (refl, refl)

pub typed_name_ty : (l : Look) → ends_typed l ≡ true → at_pat_name_ty l ≡ Skip (P2 (sy.Emit (made.Inner node.TypedPat)) sy.PatTyRest)
typed_name_ty (look.Other tok.As) e = cc
typed_name_ty _ e = refl

pub row_rest : (l : Look) → ends_row l ≡ true → (at_pun_row l ≡ Skip (P1 (sy.Emit (made.Inner node.PunRow)))) × (at_pun_row_ty l ≡ Skip (P1 (sy.Emit (made.Inner node.TypedPunRow))))
row_rest (look.Other tok.Comma) e = (refl, refl)
row_rest (look.Other tok.Close) e = (refl, refl)
row_rest (look.Other tok.CloseBracket) e = (refl, refl)
row_rest (look.Other tok.CloseBrace) e = (refl, refl)
row_rest _ e = cc

-- a pattern that stands next is none that its symbol skips
pub atpat_first : (n : ℕ) (l : Look) (p : Push) → (at_atpat n l ≡ Eat p) ⊎ (at_atpat n l ≡ Skip p) → is_atpat l ≡ true
atpat_first n (look.Plain x s) p e = refl
atpat_first n (look.Other (tok.Long x y)) p e = refl
atpat_first n (look.Other tok.Op) p e = refl
atpat_first n (look.Other (tok.Int z h)) p e = refl
atpat_first n (look.Other (tok.Char y)) p e = refl
atpat_first n (look.Other (tok.Text y)) p e = refl
atpat_first n (look.Other tok.Open) p e = refl
atpat_first n (look.Other tok.OpenBracket) p e = refl
atpat_first n (look.Other tok.OpenBrace) p e = refl
atpat_first n (look.Other tok.Underscore) p e = refl
atpat_first n _ p (inl e) = cc
atpat_first n _ p (inr e) = cc

pub ident_first : (n : ℕ) (l : Look) (p : Push) → (at_long_vid n l ≡ Eat p) ⊎ (at_long_vid n l ≡ Skip p) → is_ident l ≡ true
ident_first n (look.Plain x s) p e = refl
ident_first n (look.Other (tok.Long x y)) p e = refl
ident_first n (look.Other tok.Op) p e = refl
ident_first n _ p (inl e) = cc
ident_first n _ p (inr e) = cc

pub atpat_name : (l : Look) → is_atpat l ≡ true → at_pat_name l ≡ Skip (P1 sy.PatLong)
atpat_name (look.Other tok.Colon) e = cc
atpat_name (look.Other tok.As) e = cc
atpat_name _ e = refl

pub ident_atpat : (n : ℕ) (l : Look) → is_ident l ≡ true → at_atpat n l ≡ Skip (P1 sy.LongVid)
ident_atpat n (look.Plain x s) e = refl
ident_atpat n (look.Other (tok.Long x y)) e = refl
ident_atpat n (look.Other tok.Op) e = refl
ident_atpat n _ e = cc

module _ (v : Bool) where
  pub at_first : {k : List Symbol} {f : Fix} {a : List Terminal} {o : List Made} → Accepts v (sy.Atpat ∷ k) f a o → Next is_atpat f a
  at_first {f = f} (skip {t = t} {a = a} e h) = atpat_first (length (t ∷ a)) (looks f t) _ (inr e)
  at_first {f = f} (eat {t = t} {a = a} e h) = atpat_first (length (t ∷ a)) (looks f t) _ (inl e)

  pub id_first : {k : List Symbol} {f : Fix} {a : List Terminal} {o : List Made} → Accepts v (sy.LongVid ∷ k) f a o → Next is_ident f a
  id_first {f = f} (skip {t = t} {a = a} e h) = ident_first (length (t ∷ a)) (looks f t) _ (inr e)
  id_first {f = f} (eat {t = t} {a = a} e h) = ident_first (length (t ∷ a)) (looks f t) _ (inl e)

  pub long_go : {k : List Symbol} {f : Fix} {a : List Terminal} {o : List Made} → Next is_atpat f a → Accepts v (sy.Atpat ∷ sy.Emit (made.Inner node.ConPat) ∷ sy.PatOps root.Bare ∷ sy.PatTyRest ∷ k) f a o → Accepts v (sy.PatLong ∷ k) f a o
  long_go {a = []} n h = absurd n
  long_go {a = t ∷ a} n h = skip {p = P4 sy.Atpat (sy.Emit (made.Inner node.ConPat)) (sy.PatOps root.Bare) sy.PatTyRest} (rw n refl) h

  pub name_go : {k : List Symbol} {f : Fix} {a : List Terminal} {o : List Made} → Next is_atpat f a → Accepts v (sy.PatLong ∷ k) f a o → Accepts v (sy.PatName ∷ k) f a o
  name_go {a = []} n h = absurd n
  name_go {f = f} {a = t ∷ a} n h = skip {p = P1 sy.PatLong} (atpat_name (looks f t) n) h

  pub not_true : (b : Bool) → not b ≡ true → b ≡ false
  not_true true e = cc
  not_true false e = refl

  pub long_skip : {k : List Symbol} {f : Fix} {a : List Terminal} {o : List Made} → Next no_atpat f a → Accepts v (sy.PatOps root.Bare ∷ sy.PatTyRest ∷ k) f a o → Accepts v (sy.PatLong ∷ k) f a o
  long_skip {a = []} n h = absurd n
  long_skip {f = f} {a = t ∷ a} n h = skip {p = P2 (sy.PatOps root.Bare) sy.PatTyRest} (rw (not_true (is_atpat (looks f t)) n) refl) h

  pub arg_skip : {k : List Symbol} {f : Fix} {a : List Terminal} {o : List Made} → Next no_atpat f a → Accepts v k f a o → Accepts v (sy.PatArg ∷ k) f a o
  arg_skip {a = []} n h = absurd n
  arg_skip {f = f} {a = t ∷ a} n h = skip {p = P0} (rw (not_true (is_atpat (looks f t)) n) refl) h

  pub arg_go : {k : List Symbol} {f : Fix} {a : List Terminal} {o : List Made} → Next is_atpat f a → Accepts v (sy.Atpat ∷ sy.Emit (made.Inner node.ConPat) ∷ k) f a o → Accepts v (sy.PatArg ∷ k) f a o
  arg_go {a = []} n h = absurd n
  arg_go {a = t ∷ a} n h = skip {p = P2 sy.Atpat (sy.Emit (made.Inner node.ConPat))} (rw n refl) h

  pub id_atpat : {k : List Symbol} {f : Fix} {a : List Terminal} {o : List Made} → Next is_ident f a → Accepts v (sy.LongVid ∷ k) f a o → Accepts v (sy.Atpat ∷ k) f a o
  id_atpat {a = []} n h = absurd n
  id_atpat {f = f} {a = t ∷ a} n h = skip {p = P1 sy.LongVid} (ident_atpat (length (t ∷ a)) (looks f t) n) h

  pub id_operand : {k : List Symbol} {f : Fix} {a : List Terminal} {o : List Made} → Next is_ident f a → Accepts v (sy.LongVid ∷ sy.PatArg ∷ k) f a o → Accepts v (sy.PatOperand ∷ k) f a o
  id_operand {a = []} n h = absurd n
  id_operand {a = t ∷ a} n h = skip {p = P2 sy.LongVid sy.PatArg} (rw n refl) h

  pub pat_skip : {k : List Symbol} {f : Fix} {a : List Terminal} {o : List Made} → Next ends_pat f a → Accepts v k f a o → Accepts v (sy.PatTyRest ∷ k) f a o
  pat_skip {a = []} n h = absurd n
  pat_skip {f = f} {a = t ∷ a} n h = skip {p = P0} (pat_rest (looks f t) n).0 h

  pub ops_skip : {k : List Symbol} {f : Fix} {a : List Terminal} {o : List Made} (c : Root) → Next ends_typed f a → Accepts v k f a o → Accepts v (sy.PatOps c ∷ k) f a o
  ops_skip {a = []} c n h = absurd n
  ops_skip {f = f} {a = t ∷ a} c n h = skip {p = P0} (typed_ops v c (length (t ∷ a)) (looks f t) n) h

  pub name_skip : {k : List Symbol} {f : Fix} {a : List Terminal} {o : List Made} → Next ends_pat f a → Accepts v (sy.PatLong ∷ k) f a o → Accepts v (sy.PatName ∷ k) f a o
  name_skip {a = []} n h = absurd n
  name_skip {f = f} {a = t ∷ a} n h = skip {p = P1 sy.PatLong} (pat_rest (looks f t) n).1 h

  pub name_ty_skip : {k : List Symbol} {f : Fix} {a : List Terminal} {o : List Made} → Next ends_typed f a → Accepts v (sy.PatTyRest ∷ k) f a o → Accepts v (sy.PatNameTy ∷ k) f a (made.Inner node.TypedPat ∷ o)
  name_ty_skip {a = []} n h = absurd n
  name_ty_skip {f = f} {a = t ∷ a} n h = skip {p = P2 (sy.Emit (made.Inner node.TypedPat)) sy.PatTyRest} (typed_name_ty (looks f t) n) (emit h)
