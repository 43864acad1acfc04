-- What the symbols of heads of clauses read is a head.
use Rattle.std.proofs.Common.{ℕ, Bool, true, false, cond, List, ◌∷◌, length, refl, sym, subst}
use Rattle.sml_tree.specs.declared.tree_node.TreeNode.TheVariants as node
use Rattle.sml_syntax.specs.declared.forms.Terminal.{Terminal}
use Rattle.sml_syntax.specs.declared.forms.Terminal.TheVariants as tok
use Rattle.sml_syntax.specs.declared.forms.Made.{Made}
use Rattle.sml_syntax.specs.declared.forms.Made.TheVariants as made
use Rattle.sml_syntax.specs.declared.forms.Root.{Root}
use Rattle.sml_syntax.specs.declared.forms.Root.TheVariants as root
use Rattle.sml_syntax.specs.declared.forms.Look.{Look}
use Rattle.sml_syntax.specs.declared.symbol.Symbol.{Symbol}
use Rattle.sml_syntax.specs.declared.symbol.Symbol.TheVariants as sy
use Rattle.sml_syntax.specs.declared.symbol.Push.TheVariants.{P0, P1, P2, P5, P7}
use Rattle.sml_syntax.specs.declared.symbol.Move.TheVariants.{Refuse, Skip, Eat}
use Rattle.sml_syntax.specs.Fixity.{Fix}
use Rattle.sml_syntax.specs.Moves.{is_ident, is_atpat}
use Rattle.sml_syntax.specs.Machine.{has_infix}
use Rattle.sml_syntax.specs.Grammar.{Phrase, IsInfixPat, IsHead, IsLongVid, IsOperand, prefix_head, infix_head, paren_head, paren_head_args, last_atpat, more_atpats, vid, vid_equals, plain_vid, op_vid, short_vid, long_vid, op_long_vid, typed_pat_pat, infix_pat_typed, operand_pat, infix_pat, atpat_operand, con_pat, vid_pat, unit_pat, tuple_pat, paren_pat}
use Rattle.syntax_laws.proofs.Means.{Seen, plain, operator, other, named_by, First, Means, Kept, Keeps, to_token, to_node, at_nodes, led, made_on, bare_pat}
use Rattle.syntax_laws.proofs.PatternsSound.{pat_on}

-- an identifier that may be long
as_long : {v : Bool} {f : Fix} {a b : List Terminal} {o p : List Made} (s : Bool) → Phrase v (named_by s) f a b o p → Phrase v IsLongVid f a b o p
as_long true h = short_vid h
as_long false h = h

-- the infix pattern in the parentheses of a head
infixed : {v : Bool} {e n : Root} {i : ℕ} {f : Fix} {b c d : List Terminal} {q u r : List Made} → First v f e i c q d u → Phrase v (IsInfixPat e n) f d b u (made.Inner node.InfixPat ∷ r) → Phrase v (IsInfixPat root.Bare e) f c b q r
infixed {v = v} {n = n} {f = f} {b = b} {c = c} {d = d} {q = q} {u = u} {r = r} x h =
    let P : Root → Type 0 = λ e. Phrase v (IsInfixPat e n) f d b u (made.Inner node.InfixPat ∷ r) in
    let Q : Root → Type 0 = λ e. Phrase v (IsInfixPat root.Bare e) f c b q r in
    subst Q (sym x.is_root) (infix_pat x.looks_so refl refl (operand_pat (atpat_operand x.pattern)) (subst P x.is_root h))

module _ (v : Bool) (k : List Symbol) (f : Fix) (a : List Terminal) (o : List Made) where
  -- the second operand goes on: the parentheses hold a pattern
  second_on : (e : Root) (i : ℕ) → Means v (sy.PatOps e ∷ sy.Emit (made.Inner node.InfixPat) ∷ sy.PatOps root.Bare ∷ sy.PatTyRest ∷ sy.HeadEnd i ∷ k) f a o → (b : List Terminal) × (p : List Made) × ((c d : List Terminal) (q u : List Made) → First v f e i c q d u → Phrase v IsOperand f d a u o → Phrase v IsHead f (tok.Open ∷ c) b q p) × Means v k f b p
  second_on e i (b, p, g, z, (r, e1, w)) =
      let (b2, p2, g2, z2, (b3, p3, j, (b4, p4, m, x))) = w in
      (b4, p4, (λ c d q u y h. m _ _ y.is_at (j _ _ (infix_pat_typed (g2 _ _ e (infixed y (to_node e1 (g _ _ root.Bare (operand_pat h) (bare_pat v f a)).1)) z).1))), x)

module _ (v : Bool) (k : List Symbol) (f : Fix) (a : List Terminal) (o : List Made) where
  -- heads, by how they begin
  pub keeps_head : {t : Terminal} {l : Look} → Seen f t l → Keeps v sy.Head k f t l a o
  keeps_head (other tok.Open _) = go (has_infix f)
    where
      go : (b : Bool) → Kept v (cond b (Eat (P1 (sy.HeadParen (length (tok.Open ∷ a))))) Refuse) sy.Head k f tok.Open a o
      go true = λ (b, p, h, w). (b, p, h refl, w)
      go false = tt
  keeps_head (plain _) = λ (b, p, h, (c, q, g, w)). (c, q, g _ _ h, w)
  keeps_head (other (tok.Long x y) _) = λ (b, p, h, (c, q, g, w)). (c, q, g _ _ h, w)
  keeps_head (other tok.Op _) = λ (b, p, h, (c, q, g, w)). (c, q, g _ _ h, w)
  keeps_head {t = t} _ = go (has_infix f)
    where
      go : (b : Bool) → Kept v (cond b (Skip (P2 sy.Atpat sy.HeadOp)) Refuse) sy.Head k f t a o
      go true = λ (b, p, h, (c, q, g, w)). (c, q, g _ _ h, w)
      go false = tt

  pub keeps_head_name : {t : Terminal} {l : Look} → Seen f t l → Keeps v sy.HeadName k f t l a o
  keeps_head_name (operator n) = λ (q, e, (b, p, h, (r, e2, w))). (b, r, (λ c u i. infix_head n (to_node e (vid_pat i)) (to_node e2 h)), w)
  keeps_head_name _ = λ (b, p, h, (q, e, w)). (b, q, (λ c u i. prefix_head i (to_node e h)), w)

  pub keeps_head_op : {t : Terminal} {l : Look} → Seen f t l → Keeps v sy.HeadOp k f t l a o
  keeps_head_op (operator n) = λ (q, e, (b, p, h, (r, e2, w))). (b, r, (λ c u i. infix_head n (to_node e i) (to_node e2 h)), w)
  keeps_head_op _ = tt

  -- argument patterns
  pub keeps_atpats : {t : Terminal} {l : Look} → Seen f t l → Keeps v sy.Atpats k f t l a o
  keeps_atpats s = λ (b, p, h, (c, q, g, w)). (c, q, g _ _ h, w)

  pub keeps_atpats_rest : {t : Terminal} {l : Look} → Seen f t l → Keeps v sy.AtpatsRest k f t l a o
  keeps_atpats_rest {t = t} {l = l} s = go (is_atpat l)
    where
      go : (b : Bool) → Kept v (cond b (Skip (P2 sy.Atpats (sy.Emit (made.Inner node.MoreAtpats)))) (Skip P0)) sy.AtpatsRest k f t a o
      go true = λ (b, p, h, (q, e, w)). (b, q, (λ c u i. more_atpats i (to_node e h)), w)
      go false = λ w. (_, _, (λ c u i. last_atpat i), w)

  -- the first pattern in parentheses
  pub keeps_head_paren : (i : ℕ) {t : Terminal} {l : Look} → Seen f t l → Keeps v (sy.HeadParen i) k f t l a o
  keeps_head_paren i (other tok.Close _) = λ (q, e, (b, p, g, w)). (b, p, (λ n. g _ _ (at_nodes (led node.PatUnit e n) unit_pat)), w)
  keeps_head_paren i (other (tok.Long x y) _) = λ (q, e, (b, p, g, w)). (b, p, (λ n. g _ _ n (at_nodes e long_vid)), w)
  keeps_head_paren i (other tok.Op _) = λ (b, p, g, w). (b, p, (λ n. g refl n), w)
  keeps_head_paren i (plain j) = λ (q, e, (b, p, g, w)). (b, p, (λ n. g _ _ n (at_nodes e (plain_vid j))), w)
  keeps_head_paren i _ = λ (b, p, h, (c, q, g, w)). (c, q, (λ n. g _ _ n h), w)

  pub keeps_head_first_op : (j i : ℕ) {t : Terminal} {l : Look} → Seen f t l → Keeps v (sy.HeadFirstOp j i) k f t l a o
  keeps_head_first_op j i (other (tok.Long x y) _) = λ (q, e, (r, e2, (b, p, g, w))). (b, p, (λ n m. g _ _ m (at_nodes (made_on e (led node.Op e2 n)) op_long_vid)), w)
  keeps_head_first_op j i (plain _) = λ (q, e, (r, e2, (b, p, g, w))). (b, p, (λ n m. g _ _ m (op_vid (to_node (led node.Op e2 n) (at_nodes e vid)))), w)
  keeps_head_first_op j i (operator _) = λ (q, e, (r, e2, (b, p, g, w))). (b, p, (λ n m. g _ _ m (op_vid (to_node (led node.Op e2 n) (at_nodes e vid)))), w)
  keeps_head_first_op j i (other tok.Equals _) = λ (q, e, (r, e2, (b, p, g, w))). (b, p, (λ n m. g _ _ m (op_vid (to_node (led node.Op e2 n) (at_nodes e vid_equals)))), w)
  keeps_head_first_op j i _ = tt

  pub keeps_head_first_name : (z : Bool) (i : ℕ) {t : Terminal} {l : Look} → Seen f t l → Keeps v (sy.HeadFirstName z i) k f t l a o
  keeps_head_first_name z i (operator {x = x} {s = s} {l = l} {r = r} n) = λ (q, e, (b, p, g, w)). (b, p, (λ c u m j. g _ _ (record { name = x; star = s; level = l; right = r; is_root = refl; is_at = m; looks_so = n; pattern = to_node e (vid_pat (as_long z j)) })), w)
  keeps_head_first_name z i {t = t} {l = l} _ = go (is_atpat l) z
    where
      go : (y z : Bool) → Kept v (cond y (Skip (P5 sy.Atpat (sy.Emit (made.Inner node.ConPat)) (sy.PatOps root.Bare) sy.PatTyRest (sy.HeadEnd i))) (cond z (Skip (P2 sy.PatName (sy.HeadEnd i))) (Skip (P2 sy.PatTyRest (sy.HeadEnd i))))) (sy.HeadFirstName z i) k f t a o
      go true z = λ (b, p, h, (q, e, w)). let (c, r, g, (d, u, m, y)) = pat_on v (sy.HeadEnd i ∷ k) f b q w in (d, u, (λ c2 u2 n j. m _ _ n (g _ _ (con_pat (as_long z j) (to_node e h)))), y)
      go false true = λ (b, p, g, (c, q, m, w)). (c, q, (λ d u n j. m _ _ n (g _ _ j)), w)
      go false false = λ (b, p, g, (c, q, m, w)). (c, q, (λ d u n j. m _ _ n (g _ _ (infix_pat_typed (operand_pat (atpat_operand (vid_pat j)))))), w)

  pub keeps_head_first : (i : ℕ) {t : Terminal} {l : Look} → Seen f t l → Keeps v (sy.HeadFirst i) k f t l a o
  keeps_head_first i (operator {x = x} {s = s} {l = l} {r = r} n) = λ (q, e, (b, p, g, w)). (b, p, (λ c u m j. g _ _ (record { name = x; star = s; level = l; right = r; is_root = refl; is_at = m; looks_so = n; pattern = to_node e j })), w)
  keeps_head_first i _ = λ (b, p, g, (c, q, m, w)). (c, q, (λ d u n j. m _ _ n (g _ _ (infix_pat_typed (operand_pat (atpat_operand j))))), w)

  -- the second operand in parentheses
  pub keeps_head_second : (e : Root) (i : ℕ) {t : Terminal} {l : Look} → Seen f t l → Keeps v (sy.HeadSecond e i) k f t l a o
  keeps_head_second e i {t = t} {l = l} s = go (is_ident l)
    where
      go : (b : Bool) → Kept v (cond b (Skip (P2 sy.LongVid (sy.HeadSecondName e i))) (Skip (P2 sy.Atpat (sy.HeadSecondEnd e i)))) (sy.HeadSecond e i) k f t a o
      go true = λ (b, p, h, (c, q, g, w)). (c, q, (λ d u x. g _ _ _ _ x h), w)
      go false = λ (b, p, h, (c, q, g, w)). (c, q, (λ d u x. g _ _ _ _ x h), w)

  pub keeps_head_second_name : (e : Root) (i : ℕ) {t : Terminal} {l : Look} → Seen f t l → Keeps v (sy.HeadSecondName e i) k f t l a o
  keeps_head_second_name e i {t = t} {l = l} s = go (is_atpat l)
    where
      go : (b : Bool) → Kept v (cond b (Skip (P7 sy.Atpat (sy.Emit (made.Inner node.ConPat)) (sy.PatOps e) (sy.Emit (made.Inner node.InfixPat)) (sy.PatOps root.Bare) sy.PatTyRest (sy.HeadEnd i))) (Skip (P1 (sy.HeadSecondEnd e i)))) (sy.HeadSecondName e i) k f t a o
      go true = λ (b, p, h, (q, e1, w)). let (c, r, g, m) = second_on v k f b q e i w in (c, r, (λ c2 d q2 u x j. g _ _ _ _ x (con_pat j (to_node e1 h))), m)
      go false = λ (b, p, g, w). (b, p, (λ c d q u x j. g _ _ _ _ x (vid_pat j)), w)

  pub keeps_head_second_end : (e : Root) (i : ℕ) {t : Terminal} {l : Look} → Seen f t l → Keeps v (sy.HeadSecondEnd e i) k f t l a o
  keeps_head_second_end e i (other tok.Close _) = λ (b, p, g, w). (b, p, (λ c d q u x j. g e _ _ _ _ x j), w)
  keeps_head_second_end e i {t = t} _ = λ w. let (b, p, g, m) = second_on v k f (t ∷ a) o e i w in (b, p, (λ c d q u x j. g _ _ _ _ x (atpat_operand j)), m)

  -- the closing parenthesis: of a pattern, and of a head or an operand
  pub keeps_head_end : (i : ℕ) {t : Terminal} {l : Look} → Seen f t l → Keeps v (sy.HeadEnd i) k f t l a o
  keeps_head_end i (other tok.Close _) = λ (q, e, (b, p, g, w)). (b, p, (λ c u n j. g _ _ (paren_pat (to_node (led node.PatParen e n) j))), w)
  keeps_head_end i (other tok.Comma _) = λ (b, p, h, (c, e, (q, e2, (d, r, g, w)))). (d, r, (λ c2 u n j. g _ _ (tuple_pat j (to_node (led node.PatTuple e2 n) (to_token e h)))), w)
  keeps_head_end i _ = tt

  pub keeps_head_closed : (i : ℕ) {t : Terminal} {l : Look} → Seen f t l → Keeps v (sy.HeadClosed i) k f t l a o
  keeps_head_closed i (operator n) = λ (q1, e1, (q2, e2, (q3, e3, (b, p, h, (r, e4, w))))). (b, r, (λ e c d q u x j. infix_head n (to_node e3 (paren_pat (to_node (led node.PatParen e2 x.is_at) (typed_pat_pat (infix_pat_typed (infixed x (to_node e1 (operand_pat (atpat_operand j))))))))) (to_node e4 h)), w)
  keeps_head_closed i {t = t} {l = l} _ = go (is_atpat l)
    where
      go : (b : Bool) → Kept v (cond b (Skip (P2 sy.Atpats (sy.Emit (made.Lead node.ParenHeadArgs i)))) (Skip (P1 (sy.Emit (made.Lead node.ParenHead i))))) (sy.HeadClosed i) k f t a o
      go true = λ (b, p, h, (q, e, w)). (b, q, (λ e2 c d q2 u x j. paren_head_args x.looks_so x.pattern j (to_node (led node.ParenHeadArgs e x.is_at) h)), w)
      go false = λ (q, e, w). (_, q, (λ e2 c d q2 u x j. paren_head x.looks_so x.pattern (to_node (led node.ParenHead e x.is_at) j)), w)
