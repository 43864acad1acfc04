-- The machine accepts each type, with its nodes.
use Rattle.std.proofs.Common.{◌≡◌, ℕ, Bool, true, false, List, [], ◌∷◌, cond, length, refl}
use Rattle.smlc_base.specs.declared.names.Name.{Name}
use Rattle.sml_tree.specs.declared.tree_node.TreeNode.TheVariants as node
use Rattle.sml_syntax.specs.declared.forms.Terminal.{Terminal}
use Rattle.sml_syntax.specs.declared.forms.Terminal.TheVariants as tok
use Rattle.sml_syntax.specs.declared.forms.Shape.TheVariants as shape
use Rattle.sml_syntax.specs.declared.forms.Made.{Made}
use Rattle.sml_syntax.specs.declared.forms.Made.TheVariants as made
use Rattle.sml_syntax.specs.declared.forms.Look.{Look}
use Rattle.sml_syntax.specs.declared.forms.Look.TheVariants as look
use Rattle.sml_syntax.specs.declared.symbol.Symbol.{Symbol}
use Rattle.sml_syntax.specs.declared.symbol.Symbol.TheVariants as sym
use Rattle.sml_syntax.specs.declared.symbol.Push.{Push}
use Rattle.sml_syntax.specs.declared.symbol.Push.TheVariants.{P0, P1, P2, P3, P5}
use Rattle.sml_syntax.specs.declared.symbol.Move.TheVariants.{Refuse, Skip, Eat}
use Rattle.sml_syntax.specs.Fixity.{Fix, looks, is_label}
use Rattle.sml_syntax.specs.Grammar.{Kind, Phrase, IsTyCon, IsLongTyCon, IsLabel, IsTy, IsProduct, IsFactors, IsTyAtom, IsTys, IsTyRows, IsTyRow, tycon, short_tycon, long_tycon, label, label_number, product_ty, arrow_ty, single_product, product, last_factor, more_factors, var_ty, empty_record_ty, record_ty, con_ty, applied_ty, seq_applied_ty, paren_ty, last_ty, more_tys, last_ty_row, more_ty_rows, ty_row}
use Rattle.sml_syntax.specs.Moves.{at_label, at_ty_con, at_ty_atom, at_ty_post, at_ty_seq_con, at_ty_factors, at_factors_rest, at_ty_arrow, at_tys_rest, at_record_ty, at_ty_rows_rest}
use Rattle.sml_syntax.specs.Machine.{Accepts, emit, skip, eat}
use Rattle.syntax_laws.specs.Ends.{Next, ends_ty}
use Rattle.syntax_laws.proofs.Standing.{name_case, next_weaker, skip_inv}

-- what ends a product of types
abbrev ends_product : Look → Bool
ends_product (look.Plain x s) = false
ends_product (look.Operator x s l r) = false
ends_product (look.Other (tok.Long x y)) = false
ends_product _ = true

-- what ends a list in brackets
abbrev pub ends_list : Look → Bool
ends_list (look.Other tok.Close) = true
ends_list (look.Other tok.CloseBracket) = true
ends_list (look.Other tok.CloseBrace) = true
ends_list _ = false

ty_product : (l : Look) → ends_ty l ≡ true → ends_product l ≡ true
ty_product (look.Plain x s) e = cc
ty_product (look.Operator x s l r) e = cc
ty_product (look.Other (tok.Long x y)) e = cc
ty_product _ e = refl

list_ty : (l : Look) → ends_list l ≡ true → ends_ty l ≡ true
list_ty (look.Other tok.Close) e = refl
list_ty (look.Other tok.CloseBracket) e = refl
list_ty (look.Other tok.CloseBrace) e = refl
list_ty _ e = cc

post_skips : (n : ℕ) (l : Look) → ends_product l ≡ true → at_ty_post n l ≡ Skip P0
post_skips n (look.Plain x s) e = cc
post_skips n (look.Operator x s l r) e = cc
post_skips n (look.Other (tok.Long x y)) e = cc
post_skips n _ e = refl

factors_skips : (l : Look) → ends_product l ≡ true → at_ty_factors l ≡ Skip P0
factors_skips (look.Plain x s) e = cc
factors_skips (look.Operator x s l r) e = cc
factors_skips _ e = refl

rest_skips : (l : Look) → ends_product l ≡ true → at_factors_rest l ≡ Skip P0
rest_skips (look.Plain x s) e = cc
rest_skips (look.Operator x s l r) e = cc
rest_skips _ e = refl

arrow_skips : (l : Look) → ends_ty l ≡ true → at_ty_arrow l ≡ Skip P0
arrow_skips (look.Other tok.To) e = cc
arrow_skips _ e = refl

tys_skips : (l : Look) → ends_list l ≡ true → at_tys_rest l ≡ Skip P0
tys_skips (look.Other tok.Comma) e = cc
tys_skips _ e = refl

rows_skips : (l : Look) → ends_list l ≡ true → at_ty_rows_rest l ≡ Skip P0
rows_skips (look.Other tok.Comma) e = cc
rows_skips _ e = refl

-- a row begins with a label, so a bracket that stands next ends the record
label_first : (n q : ℕ) (l : Look) (p : Push) → at_label n l ≡ Eat p → at_record_ty q l ≡ Skip (P3 sym.TyRows sym.WantCloseBrace (sym.Emit (made.Lead node.RecordTy q)))
label_first n q (look.Plain x s) p e = refl
label_first n q (look.Operator x s l r) p e = refl
label_first n q (look.Other (tok.Int z h)) p e = refl
label_first n q _ p e = cc

module _ (v : Bool) where
  abbrev pub GoalTy : Kind → Fix → List Terminal → List Terminal → List Made → List Made → Type 0
  GoalTy IsTyCon f a b o p = (k : List Symbol) →
      (Accepts v k f b p → Accepts v (sym.TyCon ∷ k) f a o) ×
      (Accepts v (sym.TyPost ∷ k) f b p → Accepts v (sym.TyAtom ∷ k) f a o) ×
      (Accepts v (sym.Emit (made.Inner node.ConTy) ∷ sym.TyPost ∷ k) f b p → Accepts v (sym.TyPost ∷ k) f a o) ×
      ((n : ℕ) → Accepts v (sym.Emit (made.Lead node.SeqConTy n) ∷ sym.TyPost ∷ k) f b p → Accepts v (sym.TySeqCon n ∷ k) f a o)
  GoalTy IsLongTyCon f a b o p = (k : List Symbol) →
      (Accepts v (sym.TyPost ∷ k) f b p → Accepts v (sym.TyAtom ∷ k) f a o) ×
      (Accepts v (sym.Emit (made.Inner node.ConTy) ∷ sym.TyPost ∷ k) f b p → Accepts v (sym.TyPost ∷ k) f a o) ×
      ((n : ℕ) → Accepts v (sym.Emit (made.Lead node.SeqConTy n) ∷ sym.TyPost ∷ k) f b p → Accepts v (sym.TySeqCon n ∷ k) f a o)
  GoalTy IsLabel f a b o p = (k : List Symbol) → Accepts v k f b p → Accepts v (sym.Label ∷ k) f a o
  GoalTy IsTyAtom f a b o p = (k : List Symbol) → Accepts v (sym.TyPost ∷ k) f b p → Accepts v (sym.TyAtom ∷ k) f a o
  GoalTy IsProduct f a b o p = (k : List Symbol) → Next ends_product f b → Accepts v k f b p → Accepts v (sym.TyAtom ∷ sym.TyFactors ∷ k) f a o
  GoalTy IsFactors f a b o p = (k : List Symbol) → Next ends_product f b → Accepts v k f b p → Accepts v (sym.Factors ∷ k) f a o
  GoalTy IsTy f a b o p = (k : List Symbol) → Next ends_ty f b → Accepts v k f b p → Accepts v (sym.Ty ∷ k) f a o
  GoalTy IsTys f a b o p = (k : List Symbol) → Next ends_list f b → Accepts v k f b p → Accepts v (sym.Tys ∷ k) f a o
  GoalTy IsTyRow f a b o p = (k : List Symbol) → Next ends_ty f b → Accepts v k f b p → Accepts v (sym.Label ∷ sym.WantColon ∷ sym.Ty ∷ sym.Emit (made.Inner node.TyRow) ∷ k) f a o
  GoalTy IsTyRows f a b o p = (k : List Symbol) → Next ends_list f b → Accepts v k f b p → Accepts v (sym.TyRows ∷ k) f a o
  GoalTy _ f a b o p = Unit {0}

  post_skip : {k : List Symbol} {f : Fix} {a : List Terminal} {o : List Made} → Next ends_product f a → Accepts v k f a o → Accepts v (sym.TyPost ∷ k) f a o
  post_skip {a = []} n h = absurd n
  post_skip {f = f} {a = t ∷ a} n h = skip {p = P0} (post_skips (length (t ∷ a)) (looks f t) n) h

  factors_skip : {k : List Symbol} {f : Fix} {a : List Terminal} {o : List Made} → Next ends_product f a → Accepts v k f a o → Accepts v (sym.TyFactors ∷ k) f a o
  factors_skip {a = []} n h = absurd n
  factors_skip {f = f} {a = t ∷ a} n h = skip {p = P0} (factors_skips (looks f t) n) h

  rest_skip : {k : List Symbol} {f : Fix} {a : List Terminal} {o : List Made} → Next ends_product f a → Accepts v k f a o → Accepts v (sym.FactorsRest ∷ k) f a o
  rest_skip {a = []} n h = absurd n
  rest_skip {f = f} {a = t ∷ a} n h = skip {p = P0} (rest_skips (looks f t) n) h

  arrow_skip : {k : List Symbol} {f : Fix} {a : List Terminal} {o : List Made} → Next ends_ty f a → Accepts v k f a o → Accepts v (sym.TyArrow ∷ k) f a o
  arrow_skip {a = []} n h = absurd n
  arrow_skip {f = f} {a = t ∷ a} n h = skip {p = P0} (arrow_skips (looks f t) n) h

  tys_skip : {k : List Symbol} {f : Fix} {a : List Terminal} {o : List Made} → Next ends_list f a → Accepts v k f a o → Accepts v (sym.TysRest ∷ k) f a o
  tys_skip {a = []} n h = absurd n
  tys_skip {f = f} {a = t ∷ a} n h = skip {p = P0} (tys_skips (looks f t) n) h

  rows_skip : {k : List Symbol} {f : Fix} {a : List Terminal} {o : List Made} → Next ends_list f a → Accepts v k f a o → Accepts v (sym.TyRowsRest ∷ k) f a o
  rows_skip {a = []} n h = absurd n
  rows_skip {f = f} {a = t ∷ a} n h = skip {p = P0} (rows_skips (looks f t) n) h

  ty_go : {k : List Symbol} {f : Fix} {a : List Terminal} {o : List Made} → Accepts v (sym.TyAtom ∷ sym.TyFactors ∷ sym.TyArrow ∷ k) f a o → Accepts v (sym.Ty ∷ k) f a o
  ty_go (skip e h) = skip refl (skip e h)
  ty_go (eat e h) = skip refl (eat e h)

  factors_go : {k : List Symbol} {f : Fix} {a : List Terminal} {o : List Made} → Accepts v (sym.TyAtom ∷ sym.FactorsRest ∷ k) f a o → Accepts v (sym.Factors ∷ k) f a o
  factors_go (skip e h) = skip refl (skip e h)
  factors_go (eat e h) = skip refl (eat e h)

  tys_go : {k : List Symbol} {f : Fix} {a : List Terminal} {o : List Made} → Accepts v (sym.Ty ∷ sym.TysRest ∷ k) f a o → Accepts v (sym.Tys ∷ k) f a o
  tys_go (skip e h) = skip refl (skip e h)
  tys_go (eat e h) = skip refl (eat e h)

  rows_go : {k : List Symbol} {f : Fix} {a : List Terminal} {o : List Made} → Accepts v (sym.Label ∷ sym.WantColon ∷ sym.Ty ∷ sym.Emit (made.Inner node.TyRow) ∷ sym.TyRowsRest ∷ k) f a o → Accepts v (sym.TyRows ∷ k) f a o
  rows_go (skip e h) = skip refl (skip e h)
  rows_go (eat e h) = skip refl (eat e h)

  label_never_skips : (n : ℕ) (l : Look) (p : Push) → at_label n l ≡ Skip p → ⊥
  label_never_skips n (look.Plain x s) p e = cc
  label_never_skips n (look.Operator x s l r) p e = cc
  label_never_skips n (look.Other (tok.Int z (shape.Digit d))) p e = go (is_label (shape.Digit d)) e
    where
      go : (b : Bool) → cond b (Eat (P1 (sym.Emit (made.Lead (node.LabelNumber z) n)))) Refuse ≡ Skip p → ⊥
      go true e = cc
      go false e = cc
  label_never_skips n (look.Other (tok.Int z shape.Numeral)) p e = cc
  label_never_skips n (look.Other (tok.Int z shape.Other)) p e = cc
  label_never_skips n _ p e = cc

  record_at : {k j : List Symbol} {f : Fix} {a : List Terminal} {o : List Made} (q : ℕ) → Accepts v (sym.Label ∷ j) f a o → Accepts v (sym.TyRows ∷ sym.WantCloseBrace ∷ sym.Emit (made.Lead node.RecordTy q) ∷ k) f a o → Accepts v (sym.RecordTy q ∷ k) f a o
  record_at {f = f} q (skip {t = t} {a = a} e h) w = absurd (label_never_skips (length (t ∷ a)) (looks f t) _ e)
  record_at {f = f} q (eat {t = t} {a = a} e h) w = skip {p = P3 sym.TyRows sym.WantCloseBrace (sym.Emit (made.Lead node.RecordTy q))} (label_first (length (t ∷ a)) q (looks f t) _ e) w

  record_go : {k : List Symbol} {f : Fix} {a : List Terminal} {o : List Made} (q : ℕ) → Accepts v (sym.TyRows ∷ sym.WantCloseBrace ∷ sym.Emit (made.Lead node.RecordTy q) ∷ k) f a o → Accepts v (sym.RecordTy q ∷ k) f a o
  record_go {k = k} q (skip e h) = record_at {j = sym.WantColon ∷ sym.Ty ∷ sym.Emit (made.Inner node.TyRow) ∷ sym.TyRowsRest ∷ sym.WantCloseBrace ∷ sym.Emit (made.Lead node.RecordTy q) ∷ k} q (skip_inv {s = sym.TyRows} {p = P5 sym.Label sym.WantColon sym.Ty (sym.Emit (made.Inner node.TyRow)) sym.TyRowsRest} refl (skip e h)) (skip e h)
  record_go q (eat e h) = cc

  post_star : {k : List Symbol} {o : List Made} (f : Fix) (x : Name) (b : List Terminal) → Accepts v k f (tok.Id x true ∷ b) o → Accepts v (sym.TyPost ∷ k) f (tok.Id x true ∷ b) o
  post_star f x b g = skip {p = P0} (name_case f x true (λ l. at_ty_post (length (tok.Id x true ∷ b)) l ≡ Skip P0) refl (λ l r. refl)) g

  pub complete_ty : {n : Kind} {f : Fix} {a b : List Terminal} {o p : List Made} → Phrase v n f a b o p → GoalTy n f a b o p
  complete_ty (tycon {f = f} {x = x} {a = a}) = λ k. (
    (λ g. eat {p = P1 (sym.Emit (made.Lead (node.TyCon x) (length (tok.Id x false ∷ a))))} (name_case f x false (λ l. at_ty_con (length (tok.Id x false ∷ a)) l ≡ Eat (P1 (sym.Emit (made.Lead (node.TyCon x) (length (tok.Id x false ∷ a)))))) refl (λ l r. refl)) (emit g)),
    (λ g. eat {p = P2 (sym.Emit (made.Lead (node.TyCon x) (length (tok.Id x false ∷ a)))) sym.TyPost} (name_case f x false (λ l. at_ty_atom (length (tok.Id x false ∷ a)) l ≡ Eat (P2 (sym.Emit (made.Lead (node.TyCon x) (length (tok.Id x false ∷ a)))) sym.TyPost)) refl (λ l r. refl)) (emit g)),
    (λ g. eat {p = P3 (sym.Emit (made.Lead (node.TyCon x) (length (tok.Id x false ∷ a)))) (sym.Emit (made.Inner node.ConTy)) sym.TyPost} (name_case f x false (λ l. at_ty_post (length (tok.Id x false ∷ a)) l ≡ Eat (P3 (sym.Emit (made.Lead (node.TyCon x) (length (tok.Id x false ∷ a)))) (sym.Emit (made.Inner node.ConTy)) sym.TyPost)) refl (λ l r. refl)) (emit g)),
    (λ n g. eat {p = P3 (sym.Emit (made.Lead (node.TyCon x) (length (tok.Id x false ∷ a)))) (sym.Emit (made.Lead node.SeqConTy n)) sym.TyPost} (name_case f x false (λ l. at_ty_seq_con n (length (tok.Id x false ∷ a)) l ≡ Eat (P3 (sym.Emit (made.Lead (node.TyCon x) (length (tok.Id x false ∷ a)))) (sym.Emit (made.Lead node.SeqConTy n)) sym.TyPost)) refl (λ l r. refl)) (emit g)),
  )
  complete_ty (short_tycon h) = λ k. let w = complete_ty h k in (w.1, w.2, w.3)
  complete_ty long_tycon = λ k. ((λ g. eat refl (emit g)), (λ g. eat refl (emit g)), (λ n g. eat refl (emit g)))
  complete_ty (label {f = f} {x = x} {s = s} {a = a}) = λ k g. eat {p = P1 (sym.Emit (made.Lead (node.Label x) (length (tok.Id x s ∷ a))))} (name_case f x s (λ l. at_label (length (tok.Id x s ∷ a)) l ≡ Eat (P1 (sym.Emit (made.Lead (node.Label x) (length (tok.Id x s ∷ a)))))) refl (λ l r. refl)) (emit g)
  complete_ty (label_number {z = z} {h = h} {a = a} e) = λ k g. eat {p = P1 (sym.Emit (made.Lead (node.LabelNumber z) (length (tok.Int z h ∷ a))))} (rw e refl) (emit g)
  complete_ty (product_ty {f = f} {b = b} h) = λ k n g. ty_go (complete_ty h _ (next_weaker _ _ ty_product f b n) (arrow_skip n g))
  complete_ty (arrow_ty h d) = λ k n g. ty_go (complete_ty h _ refl (eat refl (complete_ty d _ n (emit g))))
  complete_ty (single_product h) = λ k n g. complete_ty h _ (post_skip n (factors_skip n g))
  complete_ty (product {f = f} {x = x} {b = b} h d) = λ k n g. complete_ty h _ (post_star f x b (eat {p = P2 sym.Factors (sym.Emit (made.Inner node.ProductTy))} (name_case f x true (λ l. at_ty_factors l ≡ Eat (P2 sym.Factors (sym.Emit (made.Inner node.ProductTy)))) refl (λ l r. refl)) (complete_ty d _ n (emit g))))
  complete_ty (last_factor h) = λ k n g. factors_go (complete_ty h _ (post_skip n (rest_skip n g)))
  complete_ty (more_factors {f = f} {x = x} {b = b} h d) = λ k n g. factors_go (complete_ty h _ (post_star f x b (eat {p = P2 sym.Factors (sym.Emit (made.Inner node.MoreFactors))} (name_case f x true (λ l. at_factors_rest l ≡ Eat (P2 sym.Factors (sym.Emit (made.Inner node.MoreFactors)))) refl (λ l r. refl)) (complete_ty d _ n (emit g)))))
  complete_ty var_ty = λ k g. eat refl (emit g)
  complete_ty empty_record_ty = λ k g. eat refl (eat refl (emit g))
  complete_ty (record_ty h) = λ k g. eat refl (record_go _ (complete_ty h _ refl (eat refl (emit g))))
  complete_ty (con_ty h) = λ k g. (complete_ty h k).0 g
  complete_ty (applied_ty h d) = λ k g. complete_ty h _ ((complete_ty d k).1 (emit g))
  complete_ty (seq_applied_ty h d e) = λ k g. eat refl (complete_ty h _ refl (eat refl (complete_ty d _ refl (eat refl ((complete_ty e k).2 _ (emit g))))))
  complete_ty (paren_ty h) = λ k g. eat refl (complete_ty h _ refl (eat refl (emit g)))
  complete_ty (last_ty {f = f} {b = b} h) = λ k n g. tys_go (complete_ty h _ (next_weaker _ _ list_ty f b n) (tys_skip n g))
  complete_ty (more_tys h d) = λ k n g. tys_go (complete_ty h _ refl (eat refl (complete_ty d _ n (emit g))))
  complete_ty (ty_row h d) = λ k n g. complete_ty h _ (eat refl (complete_ty d _ n (emit g)))
  complete_ty (last_ty_row {f = f} {b = b} h) = λ k n g. rows_go (complete_ty h _ (next_weaker _ _ list_ty f b n) (rows_skip n g))
  complete_ty (more_ty_rows h d) = λ k n g. rows_go (complete_ty h _ refl (eat refl (complete_ty d _ n (emit g))))
  complete_ty _ = tt
