-- What the symbols of expressions read is an expression.
use Rattle.std.proofs.Common.{◌≡◌, ℕ, Option, Bool, true, false, not, cond, Some, None, List, ◌∷◌, length, refl, sym, ap, ◌∙◌, subst}
use Rattle.sml_tree.specs.declared.tree_node.TreeNode.TheVariants as node
use Rattle.sml_syntax.specs.declared.forms.Terminal.{Terminal}
use Rattle.sml_syntax.specs.declared.forms.Terminal.TheVariants as tok
use Rattle.sml_syntax.specs.declared.forms.Made.{Made}
use Rattle.sml_syntax.specs.declared.forms.Made.TheVariants as made
use Rattle.sml_syntax.specs.declared.forms.Root.{Root}
use Rattle.sml_syntax.specs.declared.forms.Root.TheVariants as root
use Rattle.sml_syntax.specs.declared.forms.Look.{Look}
use Rattle.sml_syntax.specs.declared.forms.Look.TheVariants as look
use Rattle.sml_syntax.specs.declared.forms.InfixVid.{InfixVid}
use Rattle.sml_syntax.specs.declared.symbol.Symbol.{Symbol}
use Rattle.sml_syntax.specs.declared.symbol.Symbol.TheVariants as sy
use Rattle.sml_syntax.specs.declared.symbol.Push.TheVariants.{P0, P1, P3, P4, P5, P6, P7}
use Rattle.sml_syntax.specs.declared.symbol.Move.TheVariants.{Mixed, Skip, Eat}
use Rattle.sml_syntax.specs.Fixity.{Fix, looks, operates, fits}
use Rattle.sml_syntax.specs.Moves.{at_operates, is_atexp, is_prefix, ends_at}
use Rattle.sml_syntax.specs.Grammar.{Kind, Phrase, IsExp, IsConjEnd, IsPrefix, IsRule, IsDisj, IsConj, IsTyped, int, char, text, disj_exp, handle, conj_end_exp, orelse_end, prefix_end, andalso_end, raise, if_exp, while_exp, case_exp, fn_exp, conj_disj, orelse, typed_conj, andalso, infix_typed, typed, app_infix, operate, atexp_app, apply, vid_exp, scon_exp, empty_record, record_exp, unit, tuple, sequence, empty_list, list, let_exp, paren, last_item, more_items, last_seq, more_seq, last_row, more_rows, last_rule, more_rules, rule}
use Rattle.syntax_laws.proofs.Means.{Seen, plain, other, is_seen, at_look, weaker, no_and, no_or, no_handle, no_bar, past, Operand, is_typed, is_prefix_end, Conjunction, is_conj, is_conj_end, Disjunction, is_disj, is_exp, Reads, Means, Kept, Keeps, to_token, to_node, at_nodes, led, bare_exp, ends_lefts}
use Rattle.syntax_laws.proofs.ExpressionSteps.{root_closes}
use Rattle.syntax_laws.proofs.ProgramsAccepted.{taken}

-- what stands behind an expression goes on with none
past_and : (m : Bool) (l : Look) → past m l ≡ true → no_and l ≡ true
past_and m (look.Other tok.Andalso) e = cc
past_and m _ e = refl

past_or : (m : Bool) (l : Look) → past m l ≡ true → no_or l ≡ true
past_or m (look.Other tok.Orelse) e = cc
past_or m _ e = refl

past_handle : (m : Bool) (l : Look) → past m l ≡ true → no_handle l ≡ true
past_handle m (look.Other tok.Handle) e = cc
past_handle m _ e = refl

past_false : (l : Look) → no_and l ≡ true → no_or l ≡ true → no_handle l ≡ true → past false l ≡ true
past_false (look.Other tok.Andalso) d e h = cc
past_false (look.Other tok.Orelse) d e h = cc
past_false (look.Other tok.Handle) d e h = cc
past_false _ d e h = refl

past_true : (m : Bool) (l : Look) → past m l ≡ true → no_bar l ≡ true → past true l ≡ true
past_true m (look.Other tok.Andalso) e n = cc
past_true m (look.Other tok.Orelse) e n = cc
past_true m (look.Other tok.Handle) e n = cc
past_true m (look.Other tok.Bar) e n = cc
past_true m _ e n = refl

-- what `|` stands behind doesn't end in an open match
pub closed : {v : Bool} (n : Bool → Kind) (m : Bool) {f : Fix} {a b : List Terminal} {o p : List Made} → not m ≡ true → Phrase v (n m) f a b o p → Phrase v (n false) f a b o p
closed n true e h = cc
closed n false e h = h

module _ (v : Bool) (k : List Symbol) (f : Fix) (a : List Terminal) (o : List Made) where
  -- an application, then operators, then types
  to_typed : Means v (sy.Atexp ∷ sy.Args ∷ sy.Ops root.Bare ∷ sy.TyRest ∷ k) f a o → Reads v IsTyped (Means v k) f a o
  to_typed (b, p, h, (c, q, g, (d, r, i, z, (u, s, j, w)))) = (u, s, j _ _ (infix_typed (i _ _ root.Bare (app_infix (g _ _ (atexp_app h))) (bare_exp v f c)).1), w)

  to_conj : Reads v IsTyped (Means v (sy.AndRest ∷ k)) f a o → Means v (sy.OrRight ∷ k) f a o
  to_conj (b, p, h, (n, c, q, d, g, x, w)) = (n, c, q, d, g _ _ (typed_conj h), w)

  -- an expression from a disjunction or what ends in one, and from a conjunction
  of_disj : {n : Kind} {b : List Terminal} {p : List Made} → Disjunction f b n → Phrase v n f a b o p → Means v (sy.HandleRest ∷ k) f b p → Means v (sy.Exp ∷ k) f a o
  of_disj (is_disj x y) h (m, c, q, z, g, s, w) = (m, c, q, g _ _ h, z x y, w)
  of_disj {b = b} {p = p} (is_exp {m = m} x) h (n, c, q, z, g, s, w) = (m, b, p, h, x, s (weaker (past_handle m) f b x))

  of_conj : {n : Kind} {b : List Terminal} {p : List Made} → Conjunction f b n → Phrase v n f a b o p → Means v (sy.OrRest ∷ sy.HandleRest ∷ k) f b p → Means v (sy.Exp ∷ k) f a o
  of_conj (is_conj x) h (n, c, q, d, g, s, w) = of_disj (d x) (g _ _ (conj_disj h)) w
  of_conj {b = b} {p = p} (is_conj_end {m = m} x) h (n, c, q, d, g, s, w) = of_disj (is_exp x) (conj_end_exp h) (s (weaker (past_or m) f b x))

  -- behind andalso and orelse
  and_on : {n : Kind} {b : List Terminal} {p q : List Made} → Operand f b n → Phrase v n f a b o p → p ≡ made.Inner node.Andalso ∷ q → Means v (sy.AndRest ∷ k) f b q → Means v (sy.AndRest ∷ k) f (tok.Andalso ∷ a) o
  and_on is_typed h e (n, c, r, d, g, s, w) = (n, c, r, d, (λ u z i. g _ _ (andalso i (to_node e h))), (λ x. cc), w)
  and_on {b = b} {q = q} (is_prefix_end {m = m} x) h e (n, c, r, d, g, s, w) = (IsConjEnd m, b, q, is_conj_end x, (λ u z i. andalso_end i (to_node e h)), (λ x. cc), s (weaker (past_and m) f b x))

  or_on : {n : Kind} {b : List Terminal} {p q : List Made} → Conjunction f b n → Phrase v n f a b o p → p ≡ made.Inner node.Orelse ∷ q → Means v (sy.OrRest ∷ k) f b q → Means v (sy.OrRest ∷ k) f (tok.Orelse ∷ a) o
  or_on (is_conj x) h e (n, c, r, d, g, s, w) = (n, c, r, (λ y. d x), (λ u z i. g _ _ (orelse i (to_node e h))), (λ y. cc), w)
  or_on {b = b} {q = q} (is_conj_end {m = m} x) h e (n, c, r, d, g, s, w) = (IsExp m, b, q, (λ y. is_exp x), (λ u z i. orelse_end i (to_node e h)), (λ y. cc), s (weaker (past_or m) f b x))

module _ (v : Bool) (k : List Symbol) (f : Fix) (a : List Terminal) (o : List Made) where
  -- expressions, in falling precedence
  pub keeps_exp : {t : Terminal} {l : Look} → Seen f t l → Keeps v sy.Exp k f t l a o
  keeps_exp {t = t} {l = l} s = go (is_prefix l)
    where
      go : (b : Bool) → Kept v (cond b (Skip (P1 sy.Prefix)) (Skip (P7 sy.Atexp sy.Args (sy.Ops root.Bare) sy.TyRest sy.AndRest sy.OrRest sy.HandleRest))) sy.Exp k f t a o
      go true = λ (m, b, p, h, y, w). (m, b, p, conj_end_exp (prefix_end h), y, w)
      go false = λ h. let (n, b, p, d, i, w) = to_conj v (sy.OrRest ∷ sy.HandleRest ∷ k) f (t ∷ a) o (to_typed v (sy.AndRest ∷ sy.OrRest ∷ sy.HandleRest ∷ k) f (t ∷ a) o h) in of_conj v k f (t ∷ a) o d i w

  pub keeps_prefix : {t : Terminal} {l : Look} → Seen f t l → Keeps v sy.Prefix k f t l a o
  keeps_prefix (other tok.Raise _) = λ (m, b, p, h, y, (q, e, w)). (m, b, q, raise (to_node e h), y, w)
  keeps_prefix (other tok.If _) = λ (i, b, p, h, x, (c, e, (j, d, q, h2, y, (d2, e2, (m, b3, r, h3, z, (u, e3, w)))))). (m, b3, u, if_exp (to_token e h) (to_token e2 h2) (to_node e3 h3), z, w)
  keeps_prefix (other tok.While _) = λ (i, b, p, h, x, (c, e, (m, d, q, h2, y, (u, e2, w)))). (m, d, u, while_exp (to_token e h) (to_node e2 h2), y, w)
  keeps_prefix (other tok.Case _) = λ (i, b, p, h, x, (c, e, (d, q, h2, y, (u, e2, w)))). (true, d, u, case_exp (to_token e h) (to_node e2 h2), y, w)
  keeps_prefix (other tok.Fn _) = λ (b, p, h, y, (q, e, w)). (true, b, q, fn_exp (to_node e h), y, w)
  keeps_prefix _ = tt

  pub keeps_handle_rest : {t : Terminal} {l : Look} → Seen f t l → Keeps v sy.HandleRest k f t l a o
  keeps_handle_rest (other tok.Handle _) = λ (b, p, h, y, (q, e, w)). (true, b, q, (λ x z. y), (λ c u i. handle i (to_node e h)), (λ x. cc), w)
  keeps_handle_rest {t = t} s = λ w. (false, _, _, (λ x y. past_false (looks f t) x y (at_look no_handle f a s refl)), (λ c q i. disj_exp i), (λ x. w), w)

  pub keeps_or_rest : {t : Terminal} {l : Look} → Seen f t l → Keeps v sy.OrRest k f t l a o
  keeps_or_rest (other tok.Orelse _) = λ (n, b, p, d, h, (q, e, w)). or_on v k f a o d h e w
  keeps_or_rest s = λ w. (IsDisj, _, _, (λ y. is_disj y (at_look no_or f a s refl)), (λ c q i. i), (λ y. w), w)

  pub keeps_or_right : {t : Terminal} {l : Look} → Seen f t l → Keeps v sy.OrRight k f t l a o
  keeps_or_right {t = t} {l = l} s = go (is_prefix l)
    where
      go : (b : Bool) → Kept v (cond b (Skip (P1 sy.Prefix)) (Skip (P5 sy.Atexp sy.Args (sy.Ops root.Bare) sy.TyRest sy.AndRest))) sy.OrRight k f t a o
      go true = λ (m, b, p, h, y, w). (IsConjEnd m, b, p, is_conj_end y, prefix_end h, w)
      go false = λ h. to_conj v k f (t ∷ a) o (to_typed v (sy.AndRest ∷ k) f (t ∷ a) o h)

  pub keeps_and_rest : {t : Terminal} {l : Look} → Seen f t l → Keeps v sy.AndRest k f t l a o
  keeps_and_rest (other tok.Andalso _) = λ (n, b, p, d, h, (q, e, w)). and_on v k f a o d h e w
  keeps_and_rest s = λ w. (IsConj, _, _, is_conj (at_look no_and f a s refl), (λ c q i. i), (λ y. w), w)

  pub keeps_and_right : {t : Terminal} {l : Look} → Seen f t l → Keeps v sy.AndRight k f t l a o
  keeps_and_right {t = t} {l = l} s = go (is_prefix l)
    where
      go : (b : Bool) → Kept v (cond b (Skip (P1 sy.Prefix)) (Skip (P4 sy.Atexp sy.Args (sy.Ops root.Bare) sy.TyRest))) sy.AndRight k f t a o
      go true = λ (m, b, p, h, y, w). (IsPrefix m, b, p, is_prefix_end y, h, w)
      go false = λ h. let (b, p, i, w) = to_typed v k f (t ∷ a) o h in (IsTyped, b, p, is_typed, i, w)

  pub keeps_ty_rest : {t : Terminal} {l : Look} → Seen f t l → Keeps v sy.TyRest k f t l a o
  keeps_ty_rest (other tok.Colon _) = λ (b, p, h, (q, e, (c, r, g, w))). (c, r, (λ d u i. g _ _ (typed i (to_node e h))), w)
  keeps_ty_rest _ = λ w. (_, _, (λ c q i. i), w)

  -- operators and applications
  pub keeps_ops : (e : Root) {t : Terminal} {l : Look} → Seen f t l → Keeps v (sy.Ops e) k f t l a o
  keeps_ops e {t = t} {l = l} s = go (operates l) (ap operates (sym (is_seen s)))
    where
      longer : (x : InfixVid) → operates (looks f t) ≡ Some x → fits e (root.Operator x.level x.right) ≡ true → Means v (sy.Emit (made.Lead x.vid (length (t ∷ a))) ∷ sy.Atexp ∷ sy.Args ∷ sy.Ops (root.Operator x.level x.right) ∷ sy.Emit (made.Inner node.InfixExp) ∷ sy.Ops e ∷ k) f a o → Means v (sy.Ops e ∷ k) f (t ∷ a) o
      longer x n y (q, e1, (b, p, h, (c, r, g, (c2, r2, g2, z, (u, e2, (d, p2, j, z2, w)))))) = (
        d,
        p2,
        (λ d2 u2 m i cl. j _ _ (root.Operator x.level x.right) (operate n y (sym (ap (root_closes v m) n) ∙ cl) (to_node e1 i) (to_node e2 (g2 _ _ root.Bare (app_infix (g _ _ (atexp_app h))) (bare_exp v f c)).1)) z),
        z2,
        w,
      )

      refused : (x : InfixVid) → operates (looks f t) ≡ Some x → (b : Bool) → ends_at v e x.level x.right ≡ b → Kept v (cond b (Skip P0) Mixed) (sy.Ops e) k f t a o
      refused x n true y = λ w. (_, o, (λ c u m i cl. (m, i)), (ap (root_closes v e) n ∙ ends_lefts v e x.level x.right y), w)
      refused x n false y = tt

      tried : (x : InfixVid) → operates (looks f t) ≡ Some x → (b : Bool) → fits e (root.Operator x.level x.right) ≡ b → Kept v (cond b (Eat (P6 (sy.Emit (made.Lead x.vid (length (t ∷ a)))) sy.Atexp sy.Args (sy.Ops (root.Operator x.level x.right)) (sy.Emit (made.Inner node.InfixExp)) (sy.Ops e))) (cond (ends_at v e x.level x.right) (Skip P0) Mixed)) (sy.Ops e) k f t a o
      tried x n true y = longer x n y
      tried x n false y = refused x n (ends_at v e x.level x.right) refl

      go : (w : Option InfixVid) → operates (looks f t) ≡ w → Kept v (at_operates v e (length (t ∷ a)) w) (sy.Ops e) k f t a o
      go None n = λ w. (_, o, (λ c u m i cl. (m, i)), ap (root_closes v e) n, w)
      go (Some x) n = tried x n (fits e (root.Operator x.level x.right)) refl

  pub keeps_args : {t : Terminal} {l : Look} → Seen f t l → Keeps v sy.Args k f t l a o
  keeps_args {t = t} {l = l} s = go (is_atexp l)
    where
      go : (b : Bool) → Kept v (cond b (Skip (P3 sy.Atexp (sy.Emit (made.Inner node.Apply)) sy.Args)) (Skip P0)) sy.Args k f t a o
      go true = λ (b, p, h, (q, e, (c, r, g, w))). (c, r, (λ d u i. g _ _ (apply i (to_node e h))), w)
      go false = λ w. (_, _, (λ c q i. i), w)

  -- matches
  pub keeps_match : {t : Terminal} {l : Look} → Seen f t l → Keeps v sy.Match k f t l a o
  keeps_match s = λ (b, p, h, (c, e, (m, d, q, i, y, (r, e2, (u, z, g, w))))). let (j, x) = g m _ _ y (rule (to_token e h) (to_node e2 i)) in (u, z, j, x, w)

  pub keeps_match_bar : {t : Terminal} {l : Look} → Seen f t l → Keeps v sy.MatchBar k f t l a o
  keeps_match_bar (other tok.Bar _) = λ (b, p, h, y, (q, e, w)). (b, q, (λ m c u x i. (more_rules (closed IsRule m x i) (to_node e h), y)), w)
  keeps_match_bar {t = t} s = λ w. (_, _, (λ m c u x i. (last_rule i, past_true m (looks f t) x (at_look no_bar f a s refl))), w)

  -- atomic expressions
  pub keeps_atexp : {t : Terminal} {l : Look} → Seen f t l → Keeps v sy.Atexp k f t l a o
  keeps_atexp (other (tok.Int z h) _) = λ (q, e, w). (_, q, at_nodes e (scon_exp int), w)
  keeps_atexp (other (tok.Char y) _) = λ (q, e, w). (_, q, at_nodes e (scon_exp char), w)
  keeps_atexp (other (tok.Text y) _) = λ (q, e, w). (_, q, at_nodes e (scon_exp text), w)
  keeps_atexp (other tok.Open _) = λ (b, p, h, w). (b, p, h refl, w)
  keeps_atexp (other tok.OpenBracket _) = λ (b, p, h, w). (b, p, h refl, w)
  keeps_atexp (other tok.OpenBrace _) = λ (b, p, h, w). (b, p, h refl, w)
  keeps_atexp (other tok.Let _) = λ (g, b, p, h, (c, e, (d, q, i, (u, e2, (r, e3, w))))). (u, r, let_exp (to_token e h) (to_node e3 (to_token e2 i)), (let P : Fix → Type 0 = λ g. Means v k g u r in subst P (taken v h) w))
  keeps_atexp (plain _) = λ (b, p, h, w). (b, p, vid_exp h, w)
  keeps_atexp (other (tok.Long x y) _) = λ (b, p, h, w). (b, p, vid_exp h, w)
  keeps_atexp (other tok.Op _) = λ (b, p, h, w). (b, p, vid_exp h, w)
  keeps_atexp _ = tt

  pub keeps_let_end : (j : ℕ) {t : Terminal} {l : Look} → Seen f t l → Keeps v (sy.LetEnd j) k f t l a o
  keeps_let_end j (other tok.End _) = λ w. (a, refl, w)
  keeps_let_end j _ = tt

  pub keeps_paren_exp : (i : ℕ) {t : Terminal} {l : Look} → Seen f t l → Keeps v (sy.ParenExp i) k f t l a o
  keeps_paren_exp i (other tok.Close _) = λ (q, e, w). (_, q, (λ n. at_nodes (led node.Unit e n) unit), w)
  keeps_paren_exp i _ = λ (m, b, p, h, y, (c, q, g, w)). (c, q, (λ n. g m _ _ n h), w)

  pub keeps_paren_rest : (i : ℕ) {t : Terminal} {l : Look} → Seen f t l → Keeps v (sy.ParenRest i) k f t l a o
  keeps_paren_rest i (other tok.Close _) = λ (q, e, w). (_, q, (λ m c u n j. paren (to_node (led node.Paren e n) j)), w)
  keeps_paren_rest i (other tok.Comma _) = λ (b, p, h, (c, e, (q, e2, w))). (c, q, (λ m d u n j. tuple j (to_node (led node.Tuple e2 n) (to_token e h))), w)
  keeps_paren_rest i (other tok.Semicolon _) = λ (b, p, h, (c, e, (q, e2, w))). (c, q, (λ m d u n j. sequence j (to_node (led node.Sequence e2 n) (to_token e h))), w)
  keeps_paren_rest i _ = tt

  -- lists of expressions, and rows of records
  pub keeps_seq : {t : Terminal} {l : Look} → Seen f t l → Keeps v sy.Seq k f t l a o
  keeps_seq s = λ (m, b, p, h, y, (c, q, g, w)). (c, q, g m _ _ h, w)

  pub keeps_seq_rest : {t : Terminal} {l : Look} → Seen f t l → Keeps v sy.SeqRest k f t l a o
  keeps_seq_rest (other tok.Semicolon _) = λ (b, p, h, (q, e, w)). (b, q, (λ m c u i. more_seq i (to_node e h)), w)
  keeps_seq_rest _ = λ w. (_, _, (λ m c u i. last_seq i), w)

  pub keeps_items : {t : Terminal} {l : Look} → Seen f t l → Keeps v sy.Items k f t l a o
  keeps_items s = λ (m, b, p, h, y, (c, q, g, w)). (c, q, g m _ _ h, w)

  pub keeps_items_rest : {t : Terminal} {l : Look} → Seen f t l → Keeps v sy.ItemsRest k f t l a o
  keeps_items_rest (other tok.Comma _) = λ (b, p, h, (q, e, w)). (b, q, (λ m c u i. more_items i (to_node e h)), w)
  keeps_items_rest _ = λ w. (_, _, (λ m c u i. last_item i), w)

  pub keeps_list_exp : (i : ℕ) {t : Terminal} {l : Look} → Seen f t l → Keeps v (sy.ListExp i) k f t l a o
  keeps_list_exp i (other tok.CloseBracket _) = λ (q, e, w). (_, q, (λ n. at_nodes (led node.EmptyList e n) empty_list), w)
  keeps_list_exp i _ = λ (b, p, h, (c, e, (q, e2, w))). (c, q, (λ n. list (to_node (led node.List e2 n) (to_token e h))), w)

  pub keeps_record_exp : (i : ℕ) {t : Terminal} {l : Look} → Seen f t l → Keeps v (sy.RecordExp i) k f t l a o
  keeps_record_exp i (other tok.CloseBrace _) = λ (q, e, w). (_, q, (λ n. at_nodes (led node.EmptyRecord e n) empty_record), w)
  keeps_record_exp i _ = λ (b, p, h, (c, e, (q, e2, w))). (c, q, (λ n. record_exp (to_node (led node.Record e2 n) (to_token e h))), w)

  pub keeps_rows : {t : Terminal} {l : Look} → Seen f t l → Keeps v sy.Rows k f t l a o
  keeps_rows s = λ (b, p, h, (c, e, (m, d, q, i, y, (r, e2, (u, z, g, w))))). (u, z, g m _ _ _ _ (to_token e h) (to_node e2 i), w)

  pub keeps_rows_rest : {t : Terminal} {l : Look} → Seen f t l → Keeps v sy.RowsRest k f t l a o
  keeps_rows_rest (other tok.Comma _) = λ (b, p, h, (q, e, w)). (b, q, (λ m c d u s i j. more_rows i j (to_node e h)), w)
  keeps_rows_rest _ = λ w. (_, _, (λ m c d u s i j. last_row i j), w)
