-- What the symbols of patterns read is a pattern.
use Rattle.std.proofs.Common.{◌≡◌, ℕ, Bool, true, false, cond, List, ◌∷◌, length, refl, sym, ap, ◌∙◌}
use Rattle.sml_tree.specs.declared.tree_node.TreeNode.TheVariants as node
use Rattle.sml_syntax.specs.declared.forms.Terminal.{Terminal}
use Rattle.sml_syntax.specs.declared.forms.Terminal.TheVariants as tok
use Rattle.sml_syntax.specs.declared.forms.Made.{Made}
use Rattle.sml_syntax.specs.declared.forms.Made.TheVariants as made
use Rattle.sml_syntax.specs.declared.forms.Root.{Root}
use Rattle.sml_syntax.specs.declared.forms.Root.TheVariants as root
use Rattle.sml_syntax.specs.declared.forms.Look.{Look}
use Rattle.sml_syntax.specs.declared.symbol.Symbol.{Symbol}
use Rattle.sml_syntax.specs.declared.symbol.Symbol.TheVariants as sy
use Rattle.sml_syntax.specs.declared.symbol.Push.TheVariants.{P0, P1, P2, P4, P5}
use Rattle.sml_syntax.specs.declared.symbol.Move.TheVariants.{Refuse, Mixed, Skip, Eat}
use Rattle.sml_syntax.specs.Fixity.{Fix, fits, is_label}
use Rattle.sml_syntax.specs.Moves.{is_ident, is_atpat, ends_at}
use Rattle.sml_syntax.specs.Grammar.{IsPat, IsOperand, vid, vid_equals, plain_vid, op_vid, short_vid, long_vid, op_long_vid, label, label_number, int, char, text, typed_pat_pat, layered, typed_layered, infix_pat_typed, typed_pat, operand_pat, infix_pat, atpat_operand, con_pat, wild, vid_pat, scon_pat, empty_record_pat, record_pat, unit_pat, tuple_pat, empty_list_pat, list_pat, paren_pat, last_pat, more_pats, last_pat_row, more_pat_rows, pat_row, pun_row, typed_pun_row, pun_row_as, typed_pun_row_as, pun}
use Rattle.syntax_laws.proofs.Means.{Seen, plain, operator, other, at_look, Longer, Means, Kept, Keeps, to_token, to_node, at_nodes, led, made_on, bare_pat, ends_lefts}
use Rattle.syntax_laws.proofs.PatternSteps.{closes}

module _ (v : Bool) (k : List Symbol) (f : Fix) (a : List Terminal) (o : List Made) where
  -- operators and types go on with an operand
  pub pat_on : Means v (sy.PatOps root.Bare ∷ sy.PatTyRest ∷ k) f a o → Longer v IsOperand IsPat (Means v k) f a o
  pat_on (b, p, g, z, (c, q, h, w)) = (c, q, (λ d u i. h _ _ (infix_pat_typed (g _ _ root.Bare (operand_pat i) (bare_pat v f a)).1)), w)

module _ (v : Bool) (k : List Symbol) (f : Fix) (a : List Terminal) (o : List Made) where
  -- patterns that begin with an identifier, and others
  pub keeps_pat : {t : Terminal} {l : Look} → Seen f t l → Keeps v sy.Pat k f t l a o
  keeps_pat (other (tok.Long x y) _) = λ (q, e, (b, p, g, w)). (b, p, g _ _ (at_nodes e long_vid), w)
  keeps_pat (other tok.Op _) = λ (b, p, h, w). (b, p, h refl, w)
  keeps_pat (plain n) = λ (q, e, (b, p, g, w)). (b, p, g _ _ (at_nodes e (plain_vid n)), w)
  keeps_pat _ = λ (b, p, h, w). let (c, q, g, m) = pat_on v k f b p w in (c, q, g _ _ (atpat_operand h), m)

  pub keeps_pat_op : (j : ℕ) {t : Terminal} {l : Look} → Seen f t l → Keeps v (sy.PatOp j) k f t l a o
  keeps_pat_op j (other (tok.Long x y) _) = λ (q, e, (r, e2, (b, p, g, w))). (b, p, (λ n. g _ _ (at_nodes (made_on e (led node.Op e2 n)) op_long_vid)), w)
  keeps_pat_op j (plain _) = λ (q, e, (r, e2, (b, p, g, w))). (b, p, (λ n. g _ _ (op_vid (to_node (led node.Op e2 n) (at_nodes e vid)))), w)
  keeps_pat_op j (operator _) = λ (q, e, (r, e2, (b, p, g, w))). (b, p, (λ n. g _ _ (op_vid (to_node (led node.Op e2 n) (at_nodes e vid)))), w)
  keeps_pat_op j (other tok.Equals _) = λ (q, e, (r, e2, (b, p, g, w))). (b, p, (λ n. g _ _ (op_vid (to_node (led node.Op e2 n) (at_nodes e vid_equals)))), w)
  keeps_pat_op j _ = tt

  pub keeps_pat_name : {t : Terminal} {l : Look} → Seen f t l → Keeps v sy.PatName k f t l a o
  keeps_pat_name (other tok.As _) = λ (b, p, h, (q, e, w)). (b, q, (λ c u i. layered i (to_node e h)), w)
  keeps_pat_name (other tok.Colon _) = λ (b, p, h, (c, q, g, w)). (c, q, (λ d u i. g _ _ _ _ i h), w)
  keeps_pat_name _ = λ (b, p, g, w). (b, p, (λ c u i. g _ _ (short_vid i)), w)

  pub keeps_pat_name_ty : {t : Terminal} {l : Look} → Seen f t l → Keeps v sy.PatNameTy k f t l a o
  keeps_pat_name_ty (other tok.As _) = λ (b, p, h, (q, e, w)). (b, q, (λ c d u s i j. typed_layered i j (to_node e h)), w)
  keeps_pat_name_ty _ = λ (q, e, (b, p, g, w)). (b, p, (λ c d u s i j. g _ _ (typed_pat (infix_pat_typed (operand_pat (atpat_operand (vid_pat (short_vid i))))) (to_node e j))), w)

  pub keeps_pat_long : {t : Terminal} {l : Look} → Seen f t l → Keeps v sy.PatLong k f t l a o
  keeps_pat_long {t = t} {l = l} s = go (is_atpat l)
    where
      go : (b : Bool) → Kept v (cond b (Skip (P4 sy.Atpat (sy.Emit (made.Inner node.ConPat)) (sy.PatOps root.Bare) sy.PatTyRest)) (Skip (P2 (sy.PatOps root.Bare) sy.PatTyRest))) sy.PatLong k f t a o
      go true = λ (b, p, h, (q, e, w)). let (c, r, g, m) = pat_on v k f b q w in (c, r, (λ d u i. g _ _ (con_pat i (to_node e h))), m)
      go false = λ w. let (c, r, g, m) = pat_on v k f (t ∷ a) o w in (c, r, (λ d u i. g _ _ (atpat_operand (vid_pat i))), m)

  -- types behind a pattern
  pub keeps_pat_ty_rest : {t : Terminal} {l : Look} → Seen f t l → Keeps v sy.PatTyRest k f t l a o
  keeps_pat_ty_rest (other tok.Colon _) = λ (b, p, h, (q, e, (c, r, g, w))). (c, r, (λ d u i. g _ _ (typed_pat i (to_node e h))), w)
  keeps_pat_ty_rest _ = λ w. (_, _, (λ c u i. typed_pat_pat i), w)

  -- operators and their operands
  pub keeps_pat_ops : (e : Root) {t : Terminal} {l : Look} → Seen f t l → Keeps v (sy.PatOps e) k f t l a o
  keeps_pat_ops e (operator {x = x} {s = s} {l = l} {r = r} n) = tried (fits e (root.Operator l r)) refl
    where
      longer : fits e (root.Operator l r) ≡ true → Means v (sy.Emit (made.Lead (node.Vid x) (length (tok.Id x s ∷ a))) ∷ sy.PatOperand ∷ sy.PatOps (root.Operator l r) ∷ sy.Emit (made.Inner node.InfixPat) ∷ sy.PatOps e ∷ k) f a o → Means v (sy.PatOps e ∷ k) f (tok.Id x s ∷ a) o
      longer y (q, e1, (b, p, h, (c, q2, g, z, (u, e2, (d, p2, j, z2, w))))) = (
        d,
        p2,
        (λ c2 u2 m i cl. j _ _ (root.Operator l r) (infix_pat n y (ap (closes v m) (sym n) ∙ cl) (to_node e1 i) (to_node e2 (g _ _ root.Bare (operand_pat h) (bare_pat v f b)).1)) z),
        z2,
        w,
      )

      refused : (b : Bool) → ends_at v e l r ≡ b → Kept v (cond b (Skip P0) Mixed) (sy.PatOps e) k f (tok.Id x s) a o
      refused true y = λ w. (_, o, (λ c u m i cl. (m, i)), at_look (closes v e) f a (operator n) (ends_lefts v e l r y), w)
      refused false y = tt

      tried : (b : Bool) → fits e (root.Operator l r) ≡ b → Kept v (cond b (Eat (P5 (sy.Emit (made.Lead (node.Vid x) (length (tok.Id x s ∷ a)))) sy.PatOperand (sy.PatOps (root.Operator l r)) (sy.Emit (made.Inner node.InfixPat)) (sy.PatOps e))) (cond (ends_at v e l r) (Skip P0) Mixed)) (sy.PatOps e) k f (tok.Id x s) a o
      tried true y = longer y
      tried false y = refused (ends_at v e l r) refl
  keeps_pat_ops e s = λ w. (_, _, (λ c u m i cl. (m, i)), at_look (closes v e) f a s refl, w)

  pub keeps_pat_operand : {t : Terminal} {l : Look} → Seen f t l → Keeps v sy.PatOperand k f t l a o
  keeps_pat_operand {t = t} {l = l} s = go (is_ident l)
    where
      go : (b : Bool) → Kept v (cond b (Skip (P2 sy.LongVid sy.PatArg)) (Skip (P1 sy.Atpat))) sy.PatOperand k f t a o
      go true = λ (b, p, h, (c, q, g, w)). (c, q, g _ _ h, w)
      go false = λ (b, p, h, w). (b, p, atpat_operand h, w)

  pub keeps_pat_arg : {t : Terminal} {l : Look} → Seen f t l → Keeps v sy.PatArg k f t l a o
  keeps_pat_arg {t = t} {l = l} s = go (is_atpat l)
    where
      go : (b : Bool) → Kept v (cond b (Skip (P2 sy.Atpat (sy.Emit (made.Inner node.ConPat)))) (Skip P0)) sy.PatArg k f t a o
      go true = λ (b, p, h, (q, e, w)). (b, q, (λ c u i. con_pat i (to_node e h)), w)
      go false = λ w. (_, _, (λ c u i. atpat_operand (vid_pat i)), w)

  -- atomic patterns
  pub keeps_atpat : {t : Terminal} {l : Look} → Seen f t l → Keeps v sy.Atpat k f t l a o
  keeps_atpat (other tok.Underscore _) = λ (q, e, w). (_, q, at_nodes e wild, w)
  keeps_atpat (other (tok.Int z h) _) = λ (q, e, w). (_, q, at_nodes e (scon_pat int), w)
  keeps_atpat (other (tok.Char y) _) = λ (q, e, w). (_, q, at_nodes e (scon_pat char), w)
  keeps_atpat (other (tok.Text y) _) = λ (q, e, w). (_, q, at_nodes e (scon_pat text), w)
  keeps_atpat (other tok.Open _) = λ (b, p, h, w). (b, p, h refl, w)
  keeps_atpat (other tok.OpenBracket _) = λ (b, p, h, w). (b, p, h refl, w)
  keeps_atpat (other tok.OpenBrace _) = λ (b, p, h, w). (b, p, h refl, w)
  keeps_atpat (plain _) = λ (b, p, h, w). (b, p, vid_pat h, w)
  keeps_atpat (other (tok.Long x y) _) = λ (b, p, h, w). (b, p, vid_pat h, w)
  keeps_atpat (other tok.Op _) = λ (b, p, h, w). (b, p, vid_pat h, w)
  keeps_atpat _ = tt

  pub keeps_pat_paren : (i : ℕ) {t : Terminal} {l : Look} → Seen f t l → Keeps v (sy.PatParen i) k f t l a o
  keeps_pat_paren i (other tok.Close _) = λ (q, e, w). (_, q, (λ n. at_nodes (led node.PatUnit e n) unit_pat), w)
  keeps_pat_paren i _ = λ (b, p, h, (c, q, g, w)). (c, q, (λ n. g _ _ n h), w)

  pub keeps_pat_paren_rest : (i : ℕ) {t : Terminal} {l : Look} → Seen f t l → Keeps v (sy.PatParenRest i) k f t l a o
  keeps_pat_paren_rest i (other tok.Close _) = λ (q, e, w). (_, q, (λ c u n j. paren_pat (to_node (led node.PatParen e n) j)), w)
  keeps_pat_paren_rest i (other tok.Comma _) = λ (b, p, h, (c, e, (q, e2, w))). (c, q, (λ d u n j. tuple_pat j (to_node (led node.PatTuple e2 n) (to_token e h))), w)
  keeps_pat_paren_rest i _ = tt

  pub keeps_pats : {t : Terminal} {l : Look} → Seen f t l → Keeps v sy.Pats k f t l a o
  keeps_pats s = λ (b, p, h, (c, q, g, w)). (c, q, g _ _ h, w)

  pub keeps_pats_rest : {t : Terminal} {l : Look} → Seen f t l → Keeps v sy.PatsRest k f t l a o
  keeps_pats_rest (other tok.Comma _) = λ (b, p, h, (q, e, w)). (b, q, (λ c u i. more_pats i (to_node e h)), w)
  keeps_pats_rest _ = λ w. (_, _, (λ c u i. last_pat i), w)

  pub keeps_pat_list : (i : ℕ) {t : Terminal} {l : Look} → Seen f t l → Keeps v (sy.PatList i) k f t l a o
  keeps_pat_list i (other tok.CloseBracket _) = λ (q, e, w). (_, q, (λ n. at_nodes (led node.PatEmptyList e n) empty_list_pat), w)
  keeps_pat_list i _ = λ (b, p, h, (c, e, (q, e2, w))). (c, q, (λ n. list_pat (to_node (led node.PatList e2 n) (to_token e h))), w)

  -- records and their rows
  pub keeps_pat_record : (i : ℕ) {t : Terminal} {l : Look} → Seen f t l → Keeps v (sy.PatRecord i) k f t l a o
  keeps_pat_record i (other tok.CloseBrace _) = λ (q, e, w). (_, q, (λ n. at_nodes (led node.PatEmptyRecord e n) empty_record_pat), w)
  keeps_pat_record i _ = λ (b, p, h, (c, e, (q, e2, w))). (c, q, (λ n. record_pat (to_node (led node.PatRecord e2 n) (to_token e h))), w)

  pub keeps_pat_rows : {t : Terminal} {l : Look} → Seen f t l → Keeps v sy.PatRows k f t l a o
  keeps_pat_rows s = λ (b, p, h, (c, q, g, w)). (c, q, g _ _ h, w)

  pub keeps_pat_rows_rest : {t : Terminal} {l : Look} → Seen f t l → Keeps v sy.PatRowsRest k f t l a o
  keeps_pat_rows_rest (other tok.Comma _) = λ (b, p, h, (q, e, w)). (b, q, (λ c u i. more_pat_rows i (to_node e h)), w)
  keeps_pat_rows_rest _ = λ w. (_, _, (λ c u i. last_pat_row i), w)

  pub keeps_pat_row : {t : Terminal} {l : Look} → Seen f t l → Keeps v sy.PatRow k f t l a o
  keeps_pat_row (plain n) = λ (q, e, (b, p, g, w)). (b, p, g _ _ (at_nodes e label) (at_nodes e (pun n)), w)
  keeps_pat_row (operator _) = λ (q, e, (c, e2, (b, p, h, (r, e3, w)))). (b, r, pat_row (to_token e2 (at_nodes e label)) (to_node e3 h), w)
  keeps_pat_row (other (tok.Int z h) _) = go (is_label h) refl
    where
      go : (b : Bool) → is_label h ≡ b → Kept v (cond b (Eat (P4 (sy.Emit (made.Lead (node.LabelNumber z) (length (tok.Int z h ∷ a)))) sy.WantEquals sy.Pat (sy.Emit (made.Inner node.PatRow)))) Refuse) sy.PatRow k f (tok.Int z h) a o
      go true y = λ (q, e, (c, e2, (b, p, h, (r, e3, w)))). (b, r, pat_row (to_token e2 (at_nodes e (label_number y))) (to_node e3 h), w)
      go false y = tt
  keeps_pat_row _ = tt

  pub keeps_pun_row : {t : Terminal} {l : Look} → Seen f t l → Keeps v sy.PunRow k f t l a o
  keeps_pun_row (other tok.Equals _) = λ (b, p, h, (q, e, w)). (b, q, (λ c u i j. pat_row i (to_node e h)), w)
  keeps_pun_row (other tok.Colon _) = λ (b, p, h, (c, q, g, w)). (c, q, (λ d u i j. g _ _ _ _ j h), w)
  keeps_pun_row (other tok.As _) = λ (b, p, h, (q, e, w)). (b, q, (λ c u i j. pun_row_as j (to_node e h)), w)
  keeps_pun_row _ = λ (q, e, w). (_, q, (λ c u i j. pun_row (to_node e j)), w)

  pub keeps_pun_row_ty : {t : Terminal} {l : Look} → Seen f t l → Keeps v sy.PunRowTy k f t l a o
  keeps_pun_row_ty (other tok.As _) = λ (b, p, h, (q, e, w)). (b, q, (λ c d u s i j. typed_pun_row_as i j (to_node e h)), w)
  keeps_pun_row_ty _ = λ (q, e, w). (_, q, (λ c d u s i j. typed_pun_row i (to_node e j)), w)
