-- The steps of expressions: what ends one, and which symbols let it go.
use Rattle.std.proofs.lemmas.Bool.Decides.{nat_tests}
use Rattle.std.proofs.Common.{◌≡◌, ℕ, arith, ◌⊎◌, inl, inr, Bool, true, false, not, Option, Some, None, List, [], ◌∷◌, length, refl, sym, ap, ◌∙◌}
use Rattle.sml_tree.specs.declared.tree_node.TreeNode.{TreeNode}
use Rattle.sml_tree.specs.declared.tree_node.TreeNode.TheVariants as node
use Rattle.sml_syntax.specs.declared.forms.Terminal.{Terminal}
use Rattle.sml_syntax.specs.declared.forms.Terminal.TheVariants as tok
use Rattle.sml_syntax.specs.declared.forms.Made.{Made}
use Rattle.sml_syntax.specs.declared.forms.Made.TheVariants as made
use Rattle.sml_syntax.specs.declared.forms.Root.{Root}
use Rattle.sml_syntax.specs.declared.forms.Root.TheVariants as root
use Rattle.sml_syntax.specs.declared.forms.Look.{Look}
use Rattle.sml_syntax.specs.declared.forms.Look.TheVariants as look
use Rattle.sml_syntax.specs.declared.forms.InfixVid.{InfixVid}
use Rattle.sml_syntax.specs.declared.symbol.Symbol.{Symbol}
use Rattle.sml_syntax.specs.declared.symbol.Symbol.TheVariants as sy
use Rattle.sml_syntax.specs.declared.symbol.Push.{Push}
use Rattle.sml_syntax.specs.declared.symbol.Push.TheVariants.{P0, P1, P3, P4, P5, P6, P7}
use Rattle.sml_syntax.specs.declared.symbol.Move.TheVariants.{Skip, Eat}
use Rattle.sml_syntax.specs.Fixity.{Fix, looks, operates, alike, lefts, rights, fits}
use Rattle.sml_syntax.specs.Moves.{is_ident, is_atexp, is_prefix, at_prefix, at_ty_rest, at_and_rest, at_or_rest, at_handle_rest, at_operates, at_match_bar, at_atexp, at_seq_rest, at_items_rest, at_rows_rest}
use Rattle.sml_syntax.specs.Machine.{Accepts, emit, skip, eat}
use Rattle.syntax_laws.specs.Ends.{Next, ends_ty}
use Rattle.syntax_laws.proofs.TypesAccepted.{ends_list}
use Rattle.syntax_laws.proofs.PatternsAccepted.{ops_never}

-- what ends an expression at each level
abbrev pub typed_end : Look → Bool
typed_end (look.Plain x s) = false
typed_end (look.Operator x s l r) = false
typed_end (look.Other (tok.Long x y)) = false
typed_end (look.Other tok.Op) = false
typed_end (look.Other (tok.Int z h)) = false
typed_end (look.Other (tok.Char y)) = false
typed_end (look.Other (tok.Text y)) = false
typed_end (look.Other tok.Open) = false
typed_end (look.Other tok.OpenBracket) = false
typed_end (look.Other tok.OpenBrace) = false
typed_end (look.Other tok.Let) = false
typed_end (look.Other tok.Equals) = false
typed_end (look.Other tok.To) = false
typed_end _ = true

abbrev pub conj_end : Look → Bool
conj_end (look.Other tok.Colon) = false
conj_end l = typed_end l

abbrev pub disj_end : Look → Bool
disj_end (look.Other tok.Andalso) = false
disj_end l = conj_end l

abbrev pub or_end : Look → Bool
or_end (look.Other tok.Orelse) = false
or_end l = disj_end l

-- m is whether the expression ends in an open match
abbrev pub exp_end : Bool → Look → Bool
exp_end m (look.Other tok.Handle) = false
exp_end m (look.Other tok.Bar) = not m
exp_end m l = or_end l

abbrev pub no_atexp : Look → Bool
no_atexp l = not (is_atexp l)

abbrev pub root_closes : Bool → Root → Option InfixVid → Bool
root_closes v m (Some w) = lefts v m w.level w.right
root_closes v m None = true

-- what stands next doesn't go on a phrase with this root
abbrev pub exp_closes : Bool → Root → Look → Bool
exp_closes v m l = root_closes v m (operates l)

pub conj_typed : (l : Look) → conj_end l ≡ true → typed_end l ≡ true
conj_typed (look.Other tok.Colon) e = cc
conj_typed _ e = e

pub disj_conj : (l : Look) → disj_end l ≡ true → conj_end l ≡ true
disj_conj (look.Other tok.Andalso) e = cc
disj_conj _ e = e

pub or_disj : (l : Look) → or_end l ≡ true → disj_end l ≡ true
or_disj (look.Other tok.Orelse) e = cc
or_disj _ e = e

pub exp_or : (m : Bool) (l : Look) → exp_end m l ≡ true → or_end l ≡ true
exp_or m (look.Other tok.Handle) e = cc
exp_or m (look.Other tok.Bar) e = refl
exp_or m _ e = e

pub exp_true : (m : Bool) (l : Look) → exp_end true l ≡ true → exp_end m l ≡ true
exp_true m (look.Other tok.Handle) e = cc
exp_true m (look.Other tok.Bar) e = cc
exp_true m _ e = e

pub typed_ty : (l : Look) → typed_end l ≡ true → ends_ty l ≡ true
typed_ty (look.Plain x s) e = cc
typed_ty (look.Operator x s l r) e = cc
typed_ty (look.Other (tok.Long x y)) e = cc
typed_ty (look.Other tok.To) e = cc
typed_ty _ e = refl

pub typed_no_atexp : (l : Look) → typed_end l ≡ true → no_atexp l ≡ true
typed_no_atexp (look.Plain x s) e = cc
typed_no_atexp (look.Other (tok.Long x y)) e = cc
typed_no_atexp (look.Other tok.Op) e = cc
typed_no_atexp (look.Other (tok.Int z h)) e = cc
typed_no_atexp (look.Other (tok.Char y)) e = cc
typed_no_atexp (look.Other (tok.Text y)) e = cc
typed_no_atexp (look.Other tok.Open) e = cc
typed_no_atexp (look.Other tok.OpenBracket) e = cc
typed_no_atexp (look.Other tok.OpenBrace) e = cc
typed_no_atexp (look.Other tok.Let) e = cc
typed_no_atexp _ e = refl

pub typed_none : (l : Look) → typed_end l ≡ true → operates l ≡ None
typed_none (look.Operator x s l r) e = cc
typed_none (look.Other tok.Equals) e = cc
typed_none _ e = refl

list_exp : (m : Bool) (l : Look) → ends_list l ≡ true → exp_end m l ≡ true
list_exp m (look.Other tok.Close) e = refl
list_exp m (look.Other tok.CloseBracket) e = refl
list_exp m (look.Other tok.CloseBrace) e = refl
list_exp m _ e = cc

pub list_ends : (m : Bool) (l : Look) → ends_list l ≡ true → exp_end m l ≡ true
list_ends m l e = list_exp m l e

ty_rests : (l : Look) → conj_end l ≡ true → at_ty_rest l ≡ Skip P0
ty_rests (look.Other tok.Colon) e = cc
ty_rests _ e = refl

and_rests : (l : Look) → disj_end l ≡ true → at_and_rest l ≡ Skip P0
and_rests (look.Other tok.Andalso) e = cc
and_rests _ e = refl

or_rests : (l : Look) → or_end l ≡ true → at_or_rest l ≡ Skip P0
or_rests (look.Other tok.Orelse) e = cc
or_rests _ e = refl

handle_rests : (m : Bool) (l : Look) → exp_end m l ≡ true → at_handle_rest l ≡ Skip P0
handle_rests m (look.Other tok.Handle) e = cc
handle_rests m _ e = refl

bar_rests : (l : Look) → exp_end true l ≡ true → at_match_bar l ≡ Skip P0
bar_rests (look.Other tok.Bar) e = cc
bar_rests _ e = refl

list_rests : (l : Look) → ends_list l ≡ true → (at_items_rest l ≡ Skip P0) × (at_rows_rest l ≡ Skip P0)
list_rests (look.Other tok.Comma) e = cc
list_rests _ e = (refl, refl)

-- what ends a sequence of expressions
abbrev pub seq_end : Look → Bool
seq_end (look.Other tok.Close) = true
seq_end (look.Other tok.End) = true
seq_end _ = false

pub seq_exp : (m : Bool) (l : Look) → seq_end l ≡ true → exp_end m l ≡ true
seq_exp m (look.Other tok.Close) e = refl
seq_exp m (look.Other tok.End) e = refl
seq_exp m _ e = cc

seq_rests : (l : Look) → seq_end l ≡ true → at_seq_rest l ≡ Skip P0
seq_rests (look.Other tok.Semicolon) e = cc
seq_rests _ e = refl

-- an atomic expression that stands next
atexp_first : (k n : ℕ) (l : Look) (p : Push) → (at_atexp k n l ≡ Eat p) ⊎ (at_atexp k n l ≡ Skip p) → is_atexp l ≡ true
atexp_first k n (look.Plain x s) p e = refl
atexp_first k n (look.Other (tok.Long x y)) p e = refl
atexp_first k n (look.Other tok.Op) p e = refl
atexp_first k n (look.Other (tok.Int z h)) p e = refl
atexp_first k n (look.Other (tok.Char y)) p e = refl
atexp_first k n (look.Other (tok.Text y)) p e = refl
atexp_first k n (look.Other tok.Open) p e = refl
atexp_first k n (look.Other tok.OpenBracket) p e = refl
atexp_first k n (look.Other tok.OpenBrace) p e = refl
atexp_first k n (look.Other tok.Let) p e = refl
atexp_first k n _ p (inl e) = cc
atexp_first k n _ p (inr e) = cc

prefix_first : (n : ℕ) (l : Look) (p : Push) → (at_prefix n l ≡ Eat p) ⊎ (at_prefix n l ≡ Skip p) → is_prefix l ≡ true
prefix_first n (look.Other tok.Raise) p e = refl
prefix_first n (look.Other tok.If) p e = refl
prefix_first n (look.Other tok.While) p e = refl
prefix_first n (look.Other tok.Case) p e = refl
prefix_first n (look.Other tok.Fn) p e = refl
prefix_first n _ p (inl e) = cc
prefix_first n _ p (inr e) = cc

atexp_no_prefix : (l : Look) → is_atexp l ≡ true → is_prefix l ≡ false
atexp_no_prefix (look.Other tok.Raise) e = cc
atexp_no_prefix (look.Other tok.If) e = cc
atexp_no_prefix (look.Other tok.While) e = cc
atexp_no_prefix (look.Other tok.Case) e = cc
atexp_no_prefix (look.Other tok.Fn) e = cc
atexp_no_prefix _ e = refl

ident_atexp : (k n : ℕ) (l : Look) → is_ident l ≡ true → at_atexp k n l ≡ Skip (P1 sy.LongVid)
ident_atexp k n (look.Plain x s) e = refl
ident_atexp k n (look.Other (tok.Long x y)) e = refl
ident_atexp k n (look.Other tok.Op) e = refl
ident_atexp k n _ e = cc

module _ (v : Bool) where
  pub exp_first : {k : List Symbol} {f : Fix} {a : List Terminal} {o : List Made} → Accepts v (sy.Atexp ∷ k) f a o → Next is_atexp f a
  exp_first {f = f} (skip {t = t} {a = a} e h) = atexp_first (length f) (length (t ∷ a)) (looks f t) _ (inr e)
  exp_first {f = f} (eat {t = t} {a = a} e h) = atexp_first (length f) (length (t ∷ a)) (looks f t) _ (inl e)

  pub word_first : {k : List Symbol} {f : Fix} {a : List Terminal} {o : List Made} → Accepts v (sy.Prefix ∷ k) f a o → Next is_prefix f a
  word_first {f = f} (skip {t = t} {a = a} e h) = prefix_first (length (t ∷ a)) (looks f t) _ (inr e)
  word_first {f = f} (eat {t = t} {a = a} e h) = prefix_first (length (t ∷ a)) (looks f t) _ (inl e)

  not_true : (b : Bool) → not b ≡ true → b ≡ false
  not_true true e = cc
  not_true false e = refl

  pub id_atexp : {k : List Symbol} {f : Fix} {a : List Terminal} {o : List Made} → Next is_ident f a → Accepts v (sy.LongVid ∷ k) f a o → Accepts v (sy.Atexp ∷ k) f a o
  id_atexp {a = []} n h = absurd n
  id_atexp {f = f} {a = t ∷ a} n h = skip {p = P1 sy.LongVid} (ident_atexp (length f) (length (t ∷ a)) (looks f t) n) h

  pub args_go : {k : List Symbol} {f : Fix} {a : List Terminal} {o : List Made} → Next is_atexp f a → Accepts v (sy.Atexp ∷ sy.Emit (made.Inner node.Apply) ∷ sy.Args ∷ k) f a o → Accepts v (sy.Args ∷ k) f a o
  args_go {a = []} n h = absurd n
  args_go {a = t ∷ a} n h = skip {p = P3 sy.Atexp (sy.Emit (made.Inner node.Apply)) sy.Args} (rw n refl) h

  pub args_skip : {k : List Symbol} {f : Fix} {a : List Terminal} {o : List Made} → Next no_atexp f a → Accepts v k f a o → Accepts v (sy.Args ∷ k) f a o
  args_skip {a = []} n h = absurd n
  args_skip {f = f} {a = t ∷ a} n h = skip {p = P0} (rw (not_true (is_atexp (looks f t)) n) refl) h

  pub exp_go : {k : List Symbol} {f : Fix} {a : List Terminal} {o : List Made} → Next is_atexp f a → Accepts v (sy.Atexp ∷ sy.Args ∷ sy.Ops root.Bare ∷ sy.TyRest ∷ sy.AndRest ∷ sy.OrRest ∷ sy.HandleRest ∷ k) f a o → Accepts v (sy.Exp ∷ k) f a o
  exp_go {a = []} n h = absurd n
  exp_go {f = f} {a = t ∷ a} n h = skip {p = P7 sy.Atexp sy.Args (sy.Ops root.Bare) sy.TyRest sy.AndRest sy.OrRest sy.HandleRest} (rw (atexp_no_prefix (looks f t) n) refl) h

  pub or_go : {k : List Symbol} {f : Fix} {a : List Terminal} {o : List Made} → Next is_atexp f a → Accepts v (sy.Atexp ∷ sy.Args ∷ sy.Ops root.Bare ∷ sy.TyRest ∷ sy.AndRest ∷ k) f a o → Accepts v (sy.OrRight ∷ k) f a o
  or_go {a = []} n h = absurd n
  or_go {f = f} {a = t ∷ a} n h = skip {p = P5 sy.Atexp sy.Args (sy.Ops root.Bare) sy.TyRest sy.AndRest} (rw (atexp_no_prefix (looks f t) n) refl) h

  pub and_go : {k : List Symbol} {f : Fix} {a : List Terminal} {o : List Made} → Next is_atexp f a → Accepts v (sy.Atexp ∷ sy.Args ∷ sy.Ops root.Bare ∷ sy.TyRest ∷ k) f a o → Accepts v (sy.AndRight ∷ k) f a o
  and_go {a = []} n h = absurd n
  and_go {f = f} {a = t ∷ a} n h = skip {p = P4 sy.Atexp sy.Args (sy.Ops root.Bare) sy.TyRest} (rw (atexp_no_prefix (looks f t) n) refl) h

  -- a word that begins an expression stands next
  pub word_go : {k : List Symbol} {f : Fix} {a : List Terminal} {o : List Made} → Next is_prefix f a → Accepts v (sy.Prefix ∷ k) f a o → Accepts v (sy.Exp ∷ k) f a o × Accepts v (sy.OrRight ∷ k) f a o × Accepts v (sy.AndRight ∷ k) f a o
  word_go {a = []} n h = absurd n
  word_go {a = t ∷ a} n h = (skip {p = P1 sy.Prefix} (rw n refl) h, skip {p = P1 sy.Prefix} (rw n refl) h, skip {p = P1 sy.Prefix} (rw n refl) h)

  pub ty_skip : {k : List Symbol} {f : Fix} {a : List Terminal} {o : List Made} → Next conj_end f a → Accepts v k f a o → Accepts v (sy.TyRest ∷ k) f a o
  ty_skip {a = []} n h = absurd n
  ty_skip {f = f} {a = t ∷ a} n h = skip {p = P0} (ty_rests (looks f t) n) h

  pub and_skip : {k : List Symbol} {f : Fix} {a : List Terminal} {o : List Made} → Next disj_end f a → Accepts v k f a o → Accepts v (sy.AndRest ∷ k) f a o
  and_skip {a = []} n h = absurd n
  and_skip {f = f} {a = t ∷ a} n h = skip {p = P0} (and_rests (looks f t) n) h

  pub or_skip : {k : List Symbol} {f : Fix} {a : List Terminal} {o : List Made} → Next or_end f a → Accepts v k f a o → Accepts v (sy.OrRest ∷ k) f a o
  or_skip {a = []} n h = absurd n
  or_skip {f = f} {a = t ∷ a} n h = skip {p = P0} (or_rests (looks f t) n) h

  pub handle_skip : {k : List Symbol} {f : Fix} {a : List Terminal} {o : List Made} (m : Bool) → Next (exp_end m) f a → Accepts v k f a o → Accepts v (sy.HandleRest ∷ k) f a o
  handle_skip {a = []} m n h = absurd n
  handle_skip {f = f} {a = t ∷ a} m n h = skip {p = P0} (handle_rests m (looks f t) n) h

  pub bar_skip : {k : List Symbol} {f : Fix} {a : List Terminal} {o : List Made} → Next (exp_end true) f a → Accepts v k f a o → Accepts v (sy.MatchBar ∷ k) f a o
  bar_skip {a = []} n h = absurd n
  bar_skip {f = f} {a = t ∷ a} n h = skip {p = P0} (bar_rests (looks f t) n) h

  pub items_skip : {k : List Symbol} {f : Fix} {a : List Terminal} {o : List Made} → Next ends_list f a → Accepts v k f a o → Accepts v (sy.ItemsRest ∷ k) f a o
  items_skip {a = []} n h = absurd n
  items_skip {f = f} {a = t ∷ a} n h = skip {p = P0} (list_rests (looks f t) n).0 h

  pub rows_skip : {k : List Symbol} {f : Fix} {a : List Terminal} {o : List Made} → Next ends_list f a → Accepts v k f a o → Accepts v (sy.RowsRest ∷ k) f a o
  rows_skip {a = []} n h = absurd n
  rows_skip {f = f} {a = t ∷ a} n h = skip {p = P0} (list_rests (looks f t) n).1 h

  pub seq_skip : {k : List Symbol} {f : Fix} {a : List Terminal} {o : List Made} → Next seq_end f a → Accepts v k f a o → Accepts v (sy.SeqRest ∷ k) f a o
  seq_skip {a = []} n h = absurd n
  seq_skip {f = f} {a = t ∷ a} n h = skip {p = P0} (seq_rests (looks f t) n) h

  pub ops_skip : {k : List Symbol} {f : Fix} {a : List Terminal} {o : List Made} → Next typed_end f a → Accepts v k f a o → Accepts v (sy.Ops root.Bare ∷ k) f a o
  ops_skip {a = []} n h = absurd n
  ops_skip {f = f} {a = t ∷ a} n h = skip {p = P0} (rw (typed_none (looks f t) n) refl) h

  pub typed_closes : (m : Root) (l : Look) → typed_end l ≡ true → exp_closes v m l ≡ true
  typed_closes m l e = rw (typed_none l e) refl

  pub ops_eat : {k : List Symbol} {f : Fix} {t : Terminal} {x : TreeNode} {r : Bool} {l : ℕ} {b : List Terminal} {o : List Made} (c : Root) → operates (looks f t) ≡ Some (record { vid = x; level = l; right = r }) → fits c (root.Operator l r) ≡ true →
      Accepts v (sy.Atexp ∷ sy.Args ∷ sy.Ops (root.Operator l r) ∷ sy.Emit (made.Inner node.InfixExp) ∷ sy.Ops c ∷ k) f b o → Accepts v (sy.Ops c ∷ k) f (t ∷ b) (made.Lead x (length (t ∷ b)) ∷ o)
  ops_eat {t = t} {x = x} {r = r} {l = l} {b = b} c e g h = eat {p = P6 (sy.Emit (made.Lead x (length (t ∷ b)))) sy.Atexp sy.Args (sy.Ops (root.Operator l r)) (sy.Emit (made.Inner node.InfixExp)) (sy.Ops c)} (rw (e, g) refl) (emit h)

  pub ops_end : {k : List Symbol} {f : Fix} {a : List Terminal} {o : List Made} (l : ℕ) (r : Bool) → Next (exp_closes v (root.Operator l r)) f a → Accepts v k f a o → Accepts v (sy.Ops (root.Operator l r) ∷ k) f a o
  ops_end {a = []} l r n h = absurd n
  ops_end {f = f} {a = t ∷ a} l r n h = skip {p = P0} (go (operates (looks f t)) n) h
    where
      go : (w : Option InfixVid) → root_closes v (root.Operator l r) w ≡ true → at_operates v (root.Operator l r) (length (t ∷ a)) w ≡ Skip P0
      go (Some w) e = rw (ops_never v l w.level r w.right e, e) refl
      go None e = refl

  alike_right : (r s u : Bool) → u ≡ true → r ≡ true → alike v r s ≡ true → alike v u s ≡ true
  alike_right r s u g h e = ap (λ u. alike v u s) (g ∙ sym h) ∙ e

  closes_right : (n : Root) (l k : ℕ) (r s : Bool) → rights l r n ≡ true → lefts v (root.Operator l r) k s ≡ true → lefts v n k s ≡ true
  closes_right root.Bare l k r s g h = refl
  closes_right (root.Operator n u) l k r s g h = grind (arith, nat_tests, alike_right r s u)

  pub closes_on : (l : ℕ) (r : Bool) (n : Root) (l2 : Look) → rights l r n ≡ true → exp_closes v (root.Operator l r) l2 ≡ true → exp_closes v n l2 ≡ true
  closes_on l r n l2 g h = go (operates l2) h
    where
      go : (w : Option InfixVid) → root_closes v (root.Operator l r) w ≡ true → root_closes v n w ≡ true
      go (Some w) e = closes_right n l w.level r w.right g e
      go None e = refl

  pub match_go : {k : List Symbol} {f : Fix} {a : List Terminal} {o : List Made} → Accepts v (sy.Pat ∷ sy.WantArrow ∷ sy.Exp ∷ sy.Emit (made.Inner node.Rule) ∷ sy.MatchBar ∷ k) f a o → Accepts v (sy.Match ∷ k) f a o
  match_go (skip e h) = skip refl (skip e h)
  match_go (eat e h) = skip refl (eat e h)

  pub items_go : {k : List Symbol} {f : Fix} {a : List Terminal} {o : List Made} → Accepts v (sy.Exp ∷ sy.ItemsRest ∷ k) f a o → Accepts v (sy.Items ∷ k) f a o
  items_go (skip e h) = skip refl (skip e h)
  items_go (eat e h) = skip refl (eat e h)

  pub seq_go : {k : List Symbol} {f : Fix} {a : List Terminal} {o : List Made} → Accepts v (sy.Exp ∷ sy.SeqRest ∷ k) f a o → Accepts v (sy.Seq ∷ k) f a o
  seq_go (skip e h) = skip refl (skip e h)
  seq_go (eat e h) = skip refl (eat e h)

  pub rows_go : {k : List Symbol} {f : Fix} {a : List Terminal} {o : List Made} → Accepts v (sy.Label ∷ sy.WantEquals ∷ sy.Exp ∷ sy.Emit (made.Inner node.Row) ∷ sy.RowsRest ∷ k) f a o → Accepts v (sy.Rows ∷ k) f a o
  rows_go (skip e h) = skip refl (skip e h)
  rows_go (eat e h) = skip refl (eat e h)
