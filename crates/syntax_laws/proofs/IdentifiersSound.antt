-- What the symbols of identifiers and of single terminals read.
use Rattle.std.proofs.Common.{◌≡◌, Bool, true, false, cond, List, ◌∷◌, length, refl}
use Rattle.sml_tree.specs.declared.tree_node.TreeNode.TheVariants as node
use Rattle.sml_syntax.specs.declared.forms.Terminal.{Terminal}
use Rattle.sml_syntax.specs.declared.forms.Terminal.TheVariants as tok
use Rattle.sml_syntax.specs.declared.forms.Made.{Made}
use Rattle.sml_syntax.specs.declared.forms.Made.TheVariants as made
use Rattle.sml_syntax.specs.declared.forms.Look.{Look}
use Rattle.sml_syntax.specs.declared.symbol.Symbol.{Symbol}
use Rattle.sml_syntax.specs.declared.symbol.Symbol.TheVariants as sy
use Rattle.sml_syntax.specs.declared.symbol.Push.TheVariants.{P1}
use Rattle.sml_syntax.specs.declared.symbol.Move.TheVariants.{Refuse, Eat}
use Rattle.sml_syntax.specs.Fixity.{Fix, is_label}
use Rattle.sml_syntax.specs.Grammar.{vid, vid_equals, plain_vid, op_vid, short_vid, long_vid, op_long_vid, tycon, label, label_number}
use Rattle.syntax_laws.proofs.Means.{Seen, plain, operator, other, Kept, Keeps, to_node, at_nodes, made_on}

module _ (v : Bool) (k : List Symbol) (f : Fix) (a : List Terminal) (o : List Made) where
  -- identifiers, with `op` and without it
  pub keeps_op_vid : {t : Terminal} {l : Look} → Seen f t l → Keeps v sy.OpVid k f t l a o
  keeps_op_vid (other tok.Op _) = λ (b, p, h, (q, e, w)). (b, q, op_vid (to_node e h), w)
  keeps_op_vid (plain n) = λ (q, e, w). (_, q, at_nodes e (plain_vid n), w)
  keeps_op_vid _ = tt

  pub keeps_any_vid : {t : Terminal} {l : Look} → Seen f t l → Keeps v sy.AnyVid k f t l a o
  keeps_any_vid (plain _) = λ (q, e, w). (_, q, at_nodes e vid, w)
  keeps_any_vid (operator _) = λ (q, e, w). (_, q, at_nodes e vid, w)
  keeps_any_vid (other tok.Equals _) = λ (q, e, w). (_, q, at_nodes e vid_equals, w)
  keeps_any_vid _ = tt

  pub keeps_long_vid : {t : Terminal} {l : Look} → Seen f t l → Keeps v sy.LongVid k f t l a o
  keeps_long_vid (other tok.Op _) = λ (b, p, g, (q, e, w)). (b, q, g q e, w)
  keeps_long_vid (plain n) = λ (q, e, w). (_, q, at_nodes e (short_vid (plain_vid n)), w)
  keeps_long_vid (other (tok.Long x y) _) = λ (q, e, w). (_, q, at_nodes e long_vid, w)
  keeps_long_vid _ = tt

  pub keeps_any_long : {t : Terminal} {l : Look} → Seen f t l → Keeps v sy.AnyLong k f t l a o
  keeps_any_long (plain _) = λ (p, e, w). (_, p, (λ q i. short_vid (op_vid (to_node i (at_nodes e vid)))), w)
  keeps_any_long (operator _) = λ (p, e, w). (_, p, (λ q i. short_vid (op_vid (to_node i (at_nodes e vid)))), w)
  keeps_any_long (other tok.Equals _) = λ (p, e, w). (_, p, (λ q i. short_vid (op_vid (to_node i (at_nodes e vid_equals)))), w)
  keeps_any_long (other (tok.Long x y) _) = λ (p, e, w). (_, p, (λ q i. at_nodes (made_on e i) op_long_vid), w)
  keeps_any_long _ = tt

  pub keeps_ty_con : {t : Terminal} {l : Look} → Seen f t l → Keeps v sy.TyCon k f t l a o
  keeps_ty_con (plain {s = false} _) = λ (q, e, w). (_, q, at_nodes e tycon, w)
  keeps_ty_con (operator {s = false} _) = λ (q, e, w). (_, q, at_nodes e tycon, w)
  keeps_ty_con _ = tt

  -- labels
  pub keeps_label : {t : Terminal} {l : Look} → Seen f t l → Keeps v sy.Label k f t l a o
  keeps_label (plain _) = λ (q, e, w). (_, q, at_nodes e label, w)
  keeps_label (operator _) = λ (q, e, w). (_, q, at_nodes e label, w)
  keeps_label (other (tok.Int z h) _) = go (is_label h) refl
    where
      go : (b : Bool) → is_label h ≡ b → Kept v (cond b (Eat (P1 (sy.Emit (made.Lead (node.LabelNumber z) (length (tok.Int z h ∷ a)))))) Refuse) sy.Label k f (tok.Int z h) a o
      go true y = λ (q, e, w). (_, q, at_nodes e (label_number y), w)
      go false y = tt
  keeps_label _ = tt

  -- terminals that have to stand next
  pub keeps_want_close : {t : Terminal} {l : Look} → Seen f t l → Keeps v sy.WantClose k f t l a o
  keeps_want_close (other tok.Close _) = λ w. (a, refl, w)
  keeps_want_close _ = tt

  pub keeps_want_close_bracket : {t : Terminal} {l : Look} → Seen f t l → Keeps v sy.WantCloseBracket k f t l a o
  keeps_want_close_bracket (other tok.CloseBracket _) = λ w. (a, refl, w)
  keeps_want_close_bracket _ = tt

  pub keeps_want_close_brace : {t : Terminal} {l : Look} → Seen f t l → Keeps v sy.WantCloseBrace k f t l a o
  keeps_want_close_brace (other tok.CloseBrace _) = λ w. (a, refl, w)
  keeps_want_close_brace _ = tt

  pub keeps_want_equals : {t : Terminal} {l : Look} → Seen f t l → Keeps v sy.WantEquals k f t l a o
  keeps_want_equals (other tok.Equals _) = λ w. (a, refl, w)
  keeps_want_equals _ = tt

  pub keeps_want_colon : {t : Terminal} {l : Look} → Seen f t l → Keeps v sy.WantColon k f t l a o
  keeps_want_colon (other tok.Colon _) = λ w. (a, refl, w)
  keeps_want_colon _ = tt

  pub keeps_want_then : {t : Terminal} {l : Look} → Seen f t l → Keeps v sy.WantThen k f t l a o
  keeps_want_then (other tok.Then _) = λ w. (a, refl, w)
  keeps_want_then _ = tt

  pub keeps_want_else : {t : Terminal} {l : Look} → Seen f t l → Keeps v sy.WantElse k f t l a o
  keeps_want_else (other tok.Else _) = λ w. (a, refl, w)
  keeps_want_else _ = tt

  pub keeps_want_do : {t : Terminal} {l : Look} → Seen f t l → Keeps v sy.WantDo k f t l a o
  keeps_want_do (other tok.Do _) = λ w. (a, refl, w)
  keeps_want_do _ = tt

  pub keeps_want_of : {t : Terminal} {l : Look} → Seen f t l → Keeps v sy.WantOf k f t l a o
  keeps_want_of (other tok.Of _) = λ w. (a, refl, w)
  keeps_want_of _ = tt

  pub keeps_want_in : {t : Terminal} {l : Look} → Seen f t l → Keeps v sy.WantIn k f t l a o
  keeps_want_in (other tok.In _) = λ w. (a, refl, w)
  keeps_want_in _ = tt

  pub keeps_want_arrow : {t : Terminal} {l : Look} → Seen f t l → Keeps v sy.WantArrow k f t l a o
  keeps_want_arrow (other tok.Arrow _) = λ w. (a, refl, w)
  keeps_want_arrow _ = tt

  pub keeps_eof : {t : Terminal} {l : Look} → Seen f t l → Keeps v sy.Eof k f t l a o
  keeps_eof (other tok.Finish _) = λ w. (a, refl, w)
  keeps_eof _ = tt
