-- What the symbols of types read is a type.
use Rattle.std.proofs.Common.{ℕ, Bool, true, false, List, refl}
use Rattle.sml_tree.specs.declared.tree_node.TreeNode.TheVariants as node
use Rattle.sml_syntax.specs.declared.forms.Terminal.{Terminal}
use Rattle.sml_syntax.specs.declared.forms.Terminal.TheVariants as tok
use Rattle.sml_syntax.specs.declared.forms.Made.{Made}
use Rattle.sml_syntax.specs.declared.forms.Look.{Look}
use Rattle.sml_syntax.specs.declared.symbol.Symbol.{Symbol}
use Rattle.sml_syntax.specs.declared.symbol.Symbol.TheVariants as sy
use Rattle.sml_syntax.specs.Fixity.{Fix}
use Rattle.sml_syntax.specs.Grammar.{product_ty, arrow_ty, single_product, product, last_factor, more_factors, var_ty, empty_record_ty, record_ty, con_ty, applied_ty, seq_applied_ty, paren_ty, last_ty, more_tys, last_ty_row, more_ty_rows, ty_row, tycon, short_tycon, long_tycon}
use Rattle.syntax_laws.proofs.Means.{Seen, plain, operator, other, Keeps, to_token, to_node, at_nodes, led}

module _ (v : Bool) (k : List Symbol) (f : Fix) (a : List Terminal) (o : List Made) where
  -- types, from the arrow inward
  pub keeps_ty : {t : Terminal} {l : Look} → Seen f t l → Keeps v sy.Ty k f t l a o
  keeps_ty s = λ (b, p, h, (c, q, g, (d, r, i, w))). (d, r, i _ _ (g _ _ h), w)

  pub keeps_ty_arrow : {t : Terminal} {l : Look} → Seen f t l → Keeps v sy.TyArrow k f t l a o
  keeps_ty_arrow (other tok.To _) = λ (b, p, h, (q, e, w)). (b, q, (λ c u i. arrow_ty i (to_node e h)), w)
  keeps_ty_arrow _ = λ w. (_, _, (λ c u i. product_ty i), w)

  pub keeps_ty_factors : {t : Terminal} {l : Look} → Seen f t l → Keeps v sy.TyFactors k f t l a o
  keeps_ty_factors (plain {s = true} _) = λ (b, p, h, (q, e, w)). (b, q, (λ c u i. product i (to_node e h)), w)
  keeps_ty_factors (operator {s = true} _) = λ (b, p, h, (q, e, w)). (b, q, (λ c u i. product i (to_node e h)), w)
  keeps_ty_factors _ = λ w. (_, _, (λ c u i. single_product i), w)

  pub keeps_factors : {t : Terminal} {l : Look} → Seen f t l → Keeps v sy.Factors k f t l a o
  keeps_factors s = λ (b, p, h, (c, q, g, w)). (c, q, g _ _ h, w)

  pub keeps_factors_rest : {t : Terminal} {l : Look} → Seen f t l → Keeps v sy.FactorsRest k f t l a o
  keeps_factors_rest (plain {s = true} _) = λ (b, p, h, (q, e, w)). (b, q, (λ c u i. more_factors i (to_node e h)), w)
  keeps_factors_rest (operator {s = true} _) = λ (b, p, h, (q, e, w)). (b, q, (λ c u i. more_factors i (to_node e h)), w)
  keeps_factors_rest _ = λ w. (_, _, (λ c u i. last_factor i), w)

  -- what begins a type, and the constructors behind it
  pub keeps_ty_atom : {t : Terminal} {l : Look} → Seen f t l → Keeps v sy.TyAtom k f t l a o
  keeps_ty_atom (other (tok.TyVar x) _) = λ (q, e, (b, p, g, w)). (b, p, g _ _ (at_nodes e var_ty), w)
  keeps_ty_atom (plain {s = false} _) = λ (q, e, (b, p, g, w)). (b, p, g _ _ (at_nodes e (con_ty (short_tycon tycon))), w)
  keeps_ty_atom (operator {s = false} _) = λ (q, e, (b, p, g, w)). (b, p, g _ _ (at_nodes e (con_ty (short_tycon tycon))), w)
  keeps_ty_atom (other (tok.Long x true) _) = λ (q, e, (b, p, g, w)). (b, p, g _ _ (at_nodes e (con_ty long_tycon)), w)
  keeps_ty_atom (other tok.OpenBrace _) = λ (b, p, h, (c, q, g, w)). (c, q, g _ _ (h refl), w)
  keeps_ty_atom (other tok.Open _) = λ (b, p, h, (c, q, g, w)). (c, q, g _ _ refl h, w)
  keeps_ty_atom _ = tt

  pub keeps_ty_post : {t : Terminal} {l : Look} → Seen f t l → Keeps v sy.TyPost k f t l a o
  keeps_ty_post (plain {s = false} _) = λ (q, e, (r, e2, (b, p, g, w))). (b, p, (λ c u i. g _ _ (applied_ty i (to_node e2 (at_nodes e (short_tycon tycon))))), w)
  keeps_ty_post (operator {s = false} _) = λ (q, e, (r, e2, (b, p, g, w))). (b, p, (λ c u i. g _ _ (applied_ty i (to_node e2 (at_nodes e (short_tycon tycon))))), w)
  keeps_ty_post (other (tok.Long x true) _) = λ (q, e, (r, e2, (b, p, g, w))). (b, p, (λ c u i. g _ _ (applied_ty i (to_node e2 (at_nodes e long_tycon)))), w)
  keeps_ty_post _ = λ w. (_, _, (λ c u i. i), w)

  -- types in parentheses
  pub keeps_ty_paren : (i : ℕ) {t : Terminal} {l : Look} → Seen f t l → Keeps v (sy.TyParen i) k f t l a o
  keeps_ty_paren i (other tok.Comma _) = λ (b, p, h, (c, e, (d, q, g, w))). (d, q, (λ c u n j. g _ _ _ _ n j (to_token e h)), w)
  keeps_ty_paren i (other tok.Close _) = λ (q, e, (b, p, g, w)). (b, p, (λ c u n j. g _ _ (paren_ty (to_node (led node.ParenTy e n) j))), w)
  keeps_ty_paren i _ = tt

  pub keeps_ty_seq_con : (i : ℕ) {t : Terminal} {l : Look} → Seen f t l → Keeps v (sy.TySeqCon i) k f t l a o
  keeps_ty_seq_con i (plain {s = false} _) = λ (q, e, (r, e2, (b, p, g, w))). (b, p, (λ c d u s n j z. g _ _ (seq_applied_ty j z (to_node (led node.SeqConTy e2 n) (at_nodes e (short_tycon tycon))))), w)
  keeps_ty_seq_con i (operator {s = false} _) = λ (q, e, (r, e2, (b, p, g, w))). (b, p, (λ c d u s n j z. g _ _ (seq_applied_ty j z (to_node (led node.SeqConTy e2 n) (at_nodes e (short_tycon tycon))))), w)
  keeps_ty_seq_con i (other (tok.Long x true) _) = λ (q, e, (r, e2, (b, p, g, w))). (b, p, (λ c d u s n j z. g _ _ (seq_applied_ty j z (to_node (led node.SeqConTy e2 n) (at_nodes e long_tycon)))), w)
  keeps_ty_seq_con i _ = tt

  pub keeps_tys : {t : Terminal} {l : Look} → Seen f t l → Keeps v sy.Tys k f t l a o
  keeps_tys s = λ (b, p, h, (c, q, g, w)). (c, q, g _ _ h, w)

  pub keeps_tys_rest : {t : Terminal} {l : Look} → Seen f t l → Keeps v sy.TysRest k f t l a o
  keeps_tys_rest (other tok.Comma _) = λ (b, p, h, (q, e, w)). (b, q, (λ c u i. more_tys i (to_node e h)), w)
  keeps_tys_rest _ = λ w. (_, _, (λ c u i. last_ty i), w)

  -- records
  pub keeps_record_ty : (i : ℕ) {t : Terminal} {l : Look} → Seen f t l → Keeps v (sy.RecordTy i) k f t l a o
  keeps_record_ty i (other tok.CloseBrace _) = λ (q, e, w). (_, q, (λ n. at_nodes (led node.EmptyRecordTy e n) empty_record_ty), w)
  keeps_record_ty i _ = λ (b, p, h, (c, e, (q, e2, w))). (c, q, (λ n. record_ty (to_node (led node.RecordTy e2 n) (to_token e h))), w)

  pub keeps_ty_rows : {t : Terminal} {l : Look} → Seen f t l → Keeps v sy.TyRows k f t l a o
  keeps_ty_rows s = λ (b, p, h, (c, e, (d, q, i, (r, e2, (u, z, g, w))))). (u, z, g _ _ (ty_row (to_token e h) (to_node e2 i)), w)

  pub keeps_ty_rows_rest : {t : Terminal} {l : Look} → Seen f t l → Keeps v sy.TyRowsRest k f t l a o
  keeps_ty_rows_rest (other tok.Comma _) = λ (b, p, h, (q, e, w)). (b, q, (λ c u i. more_ty_rows i (to_node e h)), w)
  keeps_ty_rows_rest _ = λ w. (_, _, (λ c u i. last_ty_row i), w)
