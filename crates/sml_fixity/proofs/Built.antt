-- What each phrase makes: as many finished phrases as it is, with no more leaves than it has terminals, and its nodes cite what its terminals cite.
use Rattle.std.proofs.Common.{arith, ◌≡◌, ℕ, suc, ◌+◌, ◌-◌, ◌≤◌, ◌++◌, ◌&&◌, Bool, true, false, cond, nat_eq, nat_le, drop, append_assoc, reverse, Option, Some, None, List, [], ◌∷◌, length, refl, sym, ◌∙◌, ap, subst}
use Rattle.std.proofs.Math.Seq.{drop-append_seam}
use Rattle.std.proofs.lemmas.Bool.Decides.{nat_tests}
use Rattle.std.proofs.lemmas.List.{length-append}
use Rattle.smlc_base.specs.declared.names.Name.{Name}
use Rattle.sml_tree.specs.declared.status.Status.{Status}
use Rattle.sml_tree.specs.declared.status.Status.TheVariants as status
use Rattle.sml_tree.specs.declared.tree_node.TreeNode.{TreeNode}
use Rattle.sml_tree.specs.declared.tree_node.TreeNode.TheVariants as node
use Rattle.sml_tree.specs.Parts.{parts_of}
use Rattle.sml_tree.specs.Tree.{all_cited, is_cited, leaves, roots}
use Rattle.sml_syntax.specs.declared.forms.InfixVid.{InfixVid}
use Rattle.sml_syntax.specs.declared.forms.Look.TheVariants as look
use Rattle.sml_syntax.specs.declared.forms.Made.{Made}
use Rattle.sml_syntax.specs.declared.forms.Made.TheVariants as made
use Rattle.sml_syntax.specs.declared.forms.Terminal.{Terminal}
use Rattle.sml_syntax.specs.declared.forms.Terminal.TheVariants as tok
use Rattle.sml_syntax.specs.Fixity.{Fix, directive_for, looks, name_look, operates}
use Rattle.sml_syntax.specs.Grammar.{Kind, Phrase, IsProgram, IsDecs, IsDigit, IsTyVars, Parses}
use Rattle.sml_syntax.specs.Grammar as phrase
use Rattle.sml_fixity.specs.Citing.{all_cite, cites}
use Rattle.sml_fixity.specs.Nodes.{bare, node_of}

-- the numbers of k finished phrases come on top of the others
pub record Adds (k i : ℕ) (s : List ℕ) (o p : List Made) : Type 0 where
  pub next : ℕ
  pub numbers : List ℕ
  pub count : length numbers ≡ k
  pub same : roots i s (bare o) ≡ roots next (numbers ++ s) (bare p)

-- Terminals from a to b make the nodes from o to p: k finished phrases, with no more leaves than there are terminals
-- and c more, that cite what the terminals do.
pub record Builds (names texts k c : ℕ) (a b : List Terminal) (o p : List Made) : Type 0 where
  pub cited : all_cite names texts a ≡ true → (all_cite names texts b ≡ true) × (all_cited names texts (bare p) ≡ true → all_cited names texts (bare o) ≡ true)
  pub few : leaves (bare o) + length b ≤ leaves (bare p) + length a + c
  pub adds : (i : ℕ) (s : List ℕ) → Adds k i s o p

and_parts : (b c : Bool) → b && c ≡ true → (b ≡ true) × (c ≡ true)
and_parts true c e = (refl, e)
and_parts false c e = cc

and_both : (b c : Bool) → b ≡ true → c ≡ true → b && c ≡ true
and_both true c e h = h
and_both false c e h = cc

-- a node takes its parts
takes : (i : ℕ) (numbers s : List ℕ) (m : TreeNode) (o : List TreeNode) → length numbers ≡ parts_of m → roots i (numbers ++ s) (m ∷ o) ≡ roots (suc i) (i ∷ s) o
takes i numbers s m o e =
    let room : nat_le (parts_of m) (length (numbers ++ s)) ≡ true = let l = length-append numbers s in grind (arith, nat_tests) in
    let rest : drop (parts_of m) (numbers ++ s) ≡ s = ap (λ (n : ℕ). drop n (numbers ++ s)) (sym e) ∙ drop-append_seam numbers s in
    ap (λ b. cond b (roots (suc i) (i ∷ drop (parts_of m) (numbers ++ s)) o) None) room ∙ ap (λ (z : List ℕ). roots (suc i) (i ∷ z) o) rest

inner_leaves : (m : TreeNode) (o : List TreeNode) (k : ℕ) → parts_of m ≡ k → nat_eq k 0 ≡ false → leaves (m ∷ o) ≡ leaves o
inner_leaves m o k e h = ap (λ (n : ℕ). cond (nat_eq n 0) 1 0 + leaves o) e ∙ ap (λ b. cond b 1 0 + leaves o) h ∙ (let z : 0 + leaves o ≡ leaves o = omega arith in z)

leaf_leaves : (m : TreeNode) (o : List TreeNode) → parts_of m ≡ 0 → leaves (m ∷ o) ≡ 1 + leaves o
leaf_leaves m o e = ap (λ (n : ℕ). cond (nat_eq n 0) 1 0 + leaves o) e

empty : {names texts : ℕ} {a : List Terminal} {o : List Made} → Builds names texts 0 0 a a o o
empty = record {
  cited = λ h. (h, λ w. w);
  few = omega arith;
  adds = λ i s. record { next = i; numbers = []; count = refl; same = refl };
}

both : {names texts k l c d : ℕ} {a b e : List Terminal} {o p q : List Made} → Builds names texts k c a b o p → Builds names texts l d b e p q → Builds names texts (l + k) (d + c) a e o q
both {k = k} {l = l} {q = q} x y = record {
  cited = λ h. let (hb, f) = x.cited h in let (he, g) = y.cited hb in (he, λ w. f (g w));
  few = let u = x.few in let w = y.few in omega (arith, u, w);
  adds = λ i s.
      let u = x.adds i s in
      let w = y.adds u.next (u.numbers ++ s) in
      record {
        next = w.next;
        numbers = w.numbers ++ u.numbers;
        count = length-append w.numbers u.numbers ∙ ap (λ (n : ℕ). n + length u.numbers) w.count ∙ ap (λ (n : ℕ). l + n) u.count;
        same = u.same ∙ w.same ∙ ap (λ (z : List ℕ). roots w.next z (bare q)) (sym (append_assoc w.numbers u.numbers s));
      };
}

-- the node of a form with k parts
parent : {names texts k c : ℕ} {a b : List Terminal} {o q : List Made} {m : Made} → Builds names texts k c a b o (m ∷ q) → parts_of (node_of m) ≡ k → nat_eq k 0 ≡ false → is_cited names texts (node_of m) ≡ true → Builds names texts 1 c a b o q
parent {k = k} {q = q} {m = m} x e n t = record {
  cited = λ h. let (hb, f) = x.cited h in (hb, λ w. f (and_both _ _ t w));
  few = let u = x.few in let z = inner_leaves (node_of m) (bare q) k e n in omega (arith, u, z);
  adds = λ i s.
      let u = x.adds i s in
      record { next = suc u.next; numbers = u.next ∷ []; count = refl; same = u.same ∙ takes u.next u.numbers s (node_of m) (bare q) (u.count ∙ sym e) };
}

-- a terminal that is a node
leaf : {names texts : ℕ} {a : List Terminal} {o : List Made} {t : Terminal} {m : Made} → parts_of (node_of m) ≡ 0 → (cites names texts t ≡ true → is_cited names texts (node_of m) ≡ true) → Builds names texts 1 0 (t ∷ a) a (m ∷ o) o
leaf {o = o} {m = m} e f = record {
  cited = λ h. let (ht, ha) = and_parts _ _ h in (ha, λ w. and_both _ _ (f ht) w);
  few = let z = leaf_leaves (node_of m) (bare o) e in omega (arith, z);
  adds = λ i s. record { next = suc i; numbers = i ∷ []; count = refl; same = takes i [] s (node_of m) (bare o) (sym e) };
}

-- a node without a terminal
gap : {names texts : ℕ} {a : List Terminal} {o : List Made} {m : Made} → parts_of (node_of m) ≡ 0 → is_cited names texts (node_of m) ≡ true → Builds names texts 1 1 a a (m ∷ o) o
gap {o = o} {m = m} e t = record {
  cited = λ h. (h, λ w. and_both _ _ t w);
  few = let z = leaf_leaves (node_of m) (bare o) e in omega (arith, z);
  adds = λ i s. record { next = suc i; numbers = i ∷ []; count = refl; same = takes i [] s (node_of m) (bare o) (sym e) };
}

-- a terminal that is no node, in front
front : {names texts k c : ℕ} {a b : List Terminal} {o p : List Made} {t : Terminal} → Builds names texts k c a b o p → Builds names texts k (c - 1) (t ∷ a) b o p
front x = record {
  cited = λ h. x.cited (and_parts _ _ h).1;
  few = let u = x.few in omega (arith, u);
  adds = x.adds;
}

-- and behind
behind : {names texts k c : ℕ} {a b : List Terminal} {o p : List Made} {t : Terminal} → Builds names texts k c a (t ∷ b) o p → Builds names texts k (c - 1) a b o p
behind x = record {
  cited = λ h. let (hb, f) = x.cited h in ((and_parts _ _ hb).1, f);
  few = let u = x.few in omega (arith, u);
  adds = x.adds;
}

more : {names texts k : ℕ} {a b : List Terminal} {o p : List Made} → Builds names texts k 0 a b o p → Builds names texts k 1 a b o p
more x = record {
  cited = x.cited;
  few = let u = x.few in omega (arith, u);
  adds = x.adds;
}

-- an operator of a pattern or a head is an identifier
name_shape : (names texts : ℕ) (o : Option Status) (y x : Name) (s z r : Bool) (l : ℕ) → name_look y s o ≡ look.Operator x z l r → cites names texts (tok.Id y s) ≡ true → is_cited names texts (node.Vid x) ≡ true
name_shape names texts (Some (status.Infix m q)) y x s z r l e h = let same : y ≡ x = cc in let P : Name → Type 0 = λ x. is_cited names texts (node.Vid x) ≡ true in subst P same h
name_shape names texts (Some status.Nonfix) y x s z r l e h = cc
name_shape names texts None y x s z r l e h = cc

operator_cites : (names texts : ℕ) (f : Fix) (t : Terminal) (x : Name) (z r : Bool) (l : ℕ) → looks f t ≡ look.Operator x z l r → cites names texts t ≡ true → is_cited names texts (node.Vid x) ≡ true
operator_cites names texts f (tok.Id y s) x z r l e h = name_shape names texts (directive_for f y) y x s z r l e h
operator_cites names texts f _ x z r l e h = cc

name_leaf : {names texts : ℕ} (f : Fix) {a : List Terminal} {o : List Made} {t : Terminal} {x : Name} {s r : Bool} {l n : ℕ} → looks f t ≡ look.Operator x s l r → Builds names texts 1 0 (t ∷ a) a (made.Lead (node.Vid x) n ∷ o) o
name_leaf {names = names} {texts = texts} f {t = t} {x = x} {s = s} {r = r} {l = l} e = leaf refl (operator_cites names texts f t x s r l e)

-- an operator of an expression is one, or `=`
abbrev Leaves : ℕ → ℕ → Terminal → InfixVid → Type 0
Leaves names texts t w = (parts_of w.vid ≡ 0) × (cites names texts t ≡ true → is_cited names texts w.vid ≡ true)

operator_name : (names texts : ℕ) (o : Option Status) (y : Name) (s : Bool) (w : InfixVid) → operates (name_look y s o) ≡ Some w → Leaves names texts (tok.Id y s) w
operator_name names texts (Some (status.Infix m q)) y s w e = let same : record { vid = node.Vid y; level = m; right = q } ≡ w = cc in let P : InfixVid → Type 0 = λ w. Leaves names texts (tok.Id y s) w in subst P same (refl, λ h. h)
operator_name names texts (Some status.Nonfix) y s w e = cc
operator_name names texts None y s w e = cc

operator_shape : (names texts : ℕ) (f : Fix) (t : Terminal) (w : InfixVid) → operates (looks f t) ≡ Some w → Leaves names texts t w
operator_shape names texts f (tok.Id y s) w e = operator_name names texts (directive_for f y) y s w e
operator_shape names texts f tok.Equals w e = let same : record { vid = node.VidEquals; level = 4; right = false } ≡ w = cc in let P : InfixVid → Type 0 = λ w. Leaves names texts tok.Equals w in subst P same (refl, λ _. refl)
operator_shape names texts f _ w e = cc

operator_leaf : {names texts : ℕ} (f : Fix) {a : List Terminal} {o : List Made} {t : Terminal} {x : TreeNode} {l n : ℕ} {r : Bool} → operates (looks f t) ≡ Some (record { vid = x; level = l; right = r }) → Builds names texts 1 0 (t ∷ a) a (made.Lead x n ∷ o) o
operator_leaf {names = names} {texts = texts} f {t = t} {x = x} {l = l} {r = r} e = let (p, c) = operator_shape names texts f t (record { vid = x; level = l; right = r }) e in leaf p c

-- a sequence of declarations and the bound type variables may have a node without a terminal
abbrev pub Built : ℕ → ℕ → Kind → List Terminal → List Terminal → List Made → List Made → Type 0
Built names texts (IsProgram g) a b o p = (k : ℕ) × Builds names texts k 0 a b o p
Built names texts (IsDigit d) a b o p = Builds names texts 0 0 a b o p
Built names texts (IsDecs g) a b o p = Builds names texts 1 1 a b o p
Built names texts IsTyVars a b o p = Builds names texts 1 1 a b o p
Built names texts _ a b o p = Builds names texts 1 0 a b o p

pub built : (names texts : ℕ) {v : Bool} {n : Kind} {f : Fix} {a b : List Terminal} {o p : List Made} → Phrase v n f a b o p → Built names texts n a b o p
built names texts phrase.no_program = (0, empty)
built names texts (phrase.program_semicolon h) = let (n, w) = built names texts h in (n, front w)
built names texts (phrase.program_dec h k) = let (n, w) = built names texts k in (n + 1, both (built names texts h) w)
built names texts phrase.no_decs = gap refl refl
built names texts (phrase.decs_semicolon h) = more (front (built names texts h))
built names texts (phrase.more_decs h k) = parent (both (built names texts h) (built names texts k)) refl refl refl
built names texts (phrase.val_dec h k) = parent (both (front (built names texts h)) (built names texts k)) refl refl refl
built names texts (phrase.fun_dec h k) = parent (both (front (built names texts h)) (built names texts k)) refl refl refl
built names texts (phrase.type_dec h) = parent (front (built names texts h)) refl refl refl
built names texts (phrase.datatype_dec h) = parent (front (built names texts h)) refl refl refl
built names texts (phrase.exception_dec h) = parent (front (built names texts h)) refl refl refl
built names texts (phrase.local_dec e h k) = parent (behind (both (behind (front (built names texts h))) (built names texts k))) refl refl refl
built names texts (phrase.infix_dec h k) = parent (both (front (built names texts h)) (built names texts k)) refl refl refl
built names texts (phrase.infixr_dec h k) = parent (both (front (built names texts h)) (built names texts k)) refl refl refl
built names texts (phrase.nonfix_dec h) = parent (front (built names texts h)) refl refl refl
built names texts phrase.no_digit = empty
built names texts phrase.digit = front empty
built names texts phrase.last_vid = leaf refl (λ w. w)
built names texts (phrase.more_vids h) = parent (both (leaf refl (λ w. w)) (built names texts h)) refl refl refl
built names texts phrase.no_tyvars = gap refl refl
built names texts phrase.one_tyvar = more (leaf refl (λ w. w))
built names texts (phrase.tyvar_seq h) = more (parent (behind (front (built names texts h))) refl refl refl)
built names texts phrase.last_tyvar = leaf refl (λ w. w)
built names texts (phrase.more_tyvars h) = parent (both (behind (leaf refl (λ w. w))) (built names texts h)) refl refl refl
built names texts (phrase.last_valbind h k) = parent (both (behind (built names texts h)) (built names texts k)) refl refl refl
built names texts (phrase.more_valbinds h k i) = parent (both (parent (behind (both (behind (built names texts h)) (built names texts k))) refl refl refl) (built names texts i)) refl refl refl
built names texts (phrase.rec_valbind h) = parent (front (built names texts h)) refl refl refl
built names texts (phrase.last_funbind h) = built names texts h
built names texts (phrase.more_funbinds h k) = parent (both (behind (built names texts h)) (built names texts k)) refl refl refl
built names texts (phrase.last_clause h) = built names texts h
built names texts (phrase.more_clauses h k) = parent (both (behind (built names texts h)) (built names texts k)) refl refl refl
built names texts (phrase.clause h k) = parent (both (behind (built names texts h)) (built names texts k)) refl refl refl
built names texts (phrase.typed_clause h k i) = parent (both (behind (both (behind (built names texts h)) (built names texts k))) (built names texts i)) refl refl refl
built names texts (phrase.prefix_head h k) = parent (both (built names texts h) (built names texts k)) refl refl refl
built names texts {f = f} (phrase.infix_head e h k) = parent (both (both (built names texts h) (name_leaf f e)) (built names texts k)) refl refl refl
built names texts {f = f} (phrase.paren_head e h k) = parent (behind (both (both (front (built names texts h)) (name_leaf f e)) (built names texts k))) refl refl refl
built names texts {f = f} (phrase.paren_head_args e h k i) = parent (both (behind (both (both (front (built names texts h)) (name_leaf f e)) (built names texts k))) (built names texts i)) refl refl refl
built names texts (phrase.last_atpat h) = built names texts h
built names texts (phrase.more_atpats h k) = parent (both (built names texts h) (built names texts k)) refl refl refl
built names texts (phrase.last_typbind h) = built names texts h
built names texts (phrase.more_typbinds h k) = parent (both (behind (built names texts h)) (built names texts k)) refl refl refl
built names texts (phrase.typbind h k i) = parent (both (behind (both (built names texts h) (built names texts k))) (built names texts i)) refl refl refl
built names texts (phrase.last_datbind h) = built names texts h
built names texts (phrase.more_datbinds h k) = parent (both (behind (built names texts h)) (built names texts k)) refl refl refl
built names texts (phrase.datbind h k i) = parent (both (behind (both (built names texts h) (built names texts k))) (built names texts i)) refl refl refl
built names texts (phrase.last_conbind h) = built names texts h
built names texts (phrase.more_conbinds h k) = parent (both (behind (built names texts h)) (built names texts k)) refl refl refl
built names texts (phrase.conbind h) = parent (built names texts h) refl refl refl
built names texts (phrase.conbind_of h k) = parent (both (behind (built names texts h)) (built names texts k)) refl refl refl
built names texts (phrase.last_exbind h) = built names texts h
built names texts (phrase.more_exbinds h k) = parent (both (behind (built names texts h)) (built names texts k)) refl refl refl
built names texts (phrase.exbind h) = parent (built names texts h) refl refl refl
built names texts (phrase.exbind_of h k) = parent (both (behind (built names texts h)) (built names texts k)) refl refl refl
built names texts (phrase.exbind_is h k) = parent (both (behind (built names texts h)) (built names texts k)) refl refl refl
built names texts phrase.vid = leaf refl (λ w. w)
built names texts phrase.vid_equals = leaf refl (λ _. refl)
built names texts (phrase.plain_vid e) = leaf refl (λ w. w)
built names texts (phrase.op_vid h) = parent (front (built names texts h)) refl refl refl
built names texts (phrase.short_vid h) = built names texts h
built names texts phrase.long_vid = leaf refl (λ w. w)
built names texts phrase.op_long_vid = parent (front (leaf refl (λ w. w))) refl refl refl
built names texts phrase.tycon = leaf refl (λ w. w)
built names texts (phrase.short_tycon h) = built names texts h
built names texts phrase.long_tycon = leaf refl (λ w. w)
built names texts phrase.label = leaf refl (λ w. w)
built names texts (phrase.label_number e) = leaf refl (λ w. w)
built names texts phrase.int = leaf refl (λ w. w)
built names texts phrase.char = leaf refl (λ _. refl)
built names texts phrase.text = leaf refl (λ w. w)
built names texts (phrase.disj_exp h) = built names texts h
built names texts (phrase.handle h k) = parent (both (behind (built names texts h)) (built names texts k)) refl refl refl
built names texts (phrase.conj_end_exp h) = built names texts h
built names texts (phrase.orelse_end h k) = parent (both (behind (built names texts h)) (built names texts k)) refl refl refl
built names texts (phrase.prefix_end h) = built names texts h
built names texts (phrase.andalso_end h k) = parent (both (behind (built names texts h)) (built names texts k)) refl refl refl
built names texts (phrase.raise h) = parent (front (built names texts h)) refl refl refl
built names texts (phrase.if_exp h k i) = parent (both (behind (both (behind (front (built names texts h))) (built names texts k))) (built names texts i)) refl refl refl
built names texts (phrase.while_exp h k) = parent (both (behind (front (built names texts h))) (built names texts k)) refl refl refl
built names texts (phrase.case_exp h k) = parent (both (behind (front (built names texts h))) (built names texts k)) refl refl refl
built names texts (phrase.fn_exp h) = parent (front (built names texts h)) refl refl refl
built names texts (phrase.conj_disj h) = built names texts h
built names texts (phrase.orelse h k) = parent (both (behind (built names texts h)) (built names texts k)) refl refl refl
built names texts (phrase.typed_conj h) = built names texts h
built names texts (phrase.andalso h k) = parent (both (behind (built names texts h)) (built names texts k)) refl refl refl
built names texts (phrase.infix_typed h) = built names texts h
built names texts (phrase.typed h k) = parent (both (behind (built names texts h)) (built names texts k)) refl refl refl
built names texts (phrase.app_infix h) = built names texts h
built names texts {f = f} (phrase.operate e _ _ h k) = parent (both (both (built names texts h) (operator_leaf f e)) (built names texts k)) refl refl refl
built names texts (phrase.atexp_app h) = built names texts h
built names texts (phrase.apply h k) = parent (both (built names texts h) (built names texts k)) refl refl refl
built names texts (phrase.vid_exp h) = built names texts h
built names texts (phrase.scon_exp h) = built names texts h
built names texts phrase.empty_record = behind (leaf refl (λ _. refl))
built names texts (phrase.record_exp h) = parent (behind (front (built names texts h))) refl refl refl
built names texts phrase.unit = behind (leaf refl (λ _. refl))
built names texts (phrase.tuple h k) = parent (behind (both (behind (front (built names texts h))) (built names texts k))) refl refl refl
built names texts (phrase.sequence h k) = parent (behind (both (behind (front (built names texts h))) (built names texts k))) refl refl refl
built names texts phrase.empty_list = behind (leaf refl (λ _. refl))
built names texts (phrase.list h) = parent (behind (front (built names texts h))) refl refl refl
built names texts (phrase.let_exp h k) = parent (behind (both (behind (front (built names texts h))) (built names texts k))) refl refl refl
built names texts (phrase.paren h) = parent (behind (front (built names texts h))) refl refl refl
built names texts (phrase.last_item h) = built names texts h
built names texts (phrase.more_items h k) = parent (both (behind (built names texts h)) (built names texts k)) refl refl refl
built names texts (phrase.last_seq h) = built names texts h
built names texts (phrase.more_seq h k) = parent (both (behind (built names texts h)) (built names texts k)) refl refl refl
built names texts (phrase.last_row h k) = parent (both (behind (built names texts h)) (built names texts k)) refl refl refl
built names texts (phrase.more_rows h k i) = parent (both (parent (behind (both (behind (built names texts h)) (built names texts k))) refl refl refl) (built names texts i)) refl refl refl
built names texts (phrase.last_rule h) = built names texts h
built names texts (phrase.more_rules h k) = parent (both (behind (built names texts h)) (built names texts k)) refl refl refl
built names texts (phrase.rule h k) = parent (both (behind (built names texts h)) (built names texts k)) refl refl refl
built names texts (phrase.typed_pat_pat h) = built names texts h
built names texts (phrase.layered h k) = parent (both (behind (built names texts h)) (built names texts k)) refl refl refl
built names texts (phrase.typed_layered h k i) = parent (both (behind (both (behind (built names texts h)) (built names texts k))) (built names texts i)) refl refl refl
built names texts (phrase.infix_pat_typed h) = built names texts h
built names texts (phrase.typed_pat h k) = parent (both (behind (built names texts h)) (built names texts k)) refl refl refl
built names texts (phrase.operand_pat h) = built names texts h
built names texts {f = f} (phrase.infix_pat e _ _ h k) = parent (both (both (built names texts h) (name_leaf f e)) (built names texts k)) refl refl refl
built names texts (phrase.atpat_operand h) = built names texts h
built names texts (phrase.con_pat h k) = parent (both (built names texts h) (built names texts k)) refl refl refl
built names texts phrase.wild = leaf refl (λ _. refl)
built names texts (phrase.vid_pat h) = built names texts h
built names texts (phrase.scon_pat h) = built names texts h
built names texts phrase.empty_record_pat = behind (leaf refl (λ _. refl))
built names texts (phrase.record_pat h) = parent (behind (front (built names texts h))) refl refl refl
built names texts phrase.unit_pat = behind (leaf refl (λ _. refl))
built names texts (phrase.tuple_pat h k) = parent (behind (both (behind (front (built names texts h))) (built names texts k))) refl refl refl
built names texts phrase.empty_list_pat = behind (leaf refl (λ _. refl))
built names texts (phrase.list_pat h) = parent (behind (front (built names texts h))) refl refl refl
built names texts (phrase.paren_pat h) = parent (behind (front (built names texts h))) refl refl refl
built names texts (phrase.last_pat h) = built names texts h
built names texts (phrase.more_pats h k) = parent (both (behind (built names texts h)) (built names texts k)) refl refl refl
built names texts (phrase.last_pat_row h) = built names texts h
built names texts (phrase.more_pat_rows h k) = parent (both (behind (built names texts h)) (built names texts k)) refl refl refl
built names texts (phrase.pat_row h k) = parent (both (behind (built names texts h)) (built names texts k)) refl refl refl
built names texts (phrase.pun_row h) = parent (built names texts h) refl refl refl
built names texts (phrase.typed_pun_row h k) = parent (both (behind (built names texts h)) (built names texts k)) refl refl refl
built names texts (phrase.pun_row_as h k) = parent (both (behind (built names texts h)) (built names texts k)) refl refl refl
built names texts (phrase.typed_pun_row_as h k i) = parent (both (behind (both (behind (built names texts h)) (built names texts k))) (built names texts i)) refl refl refl
built names texts (phrase.pun e) = leaf refl (λ w. w)
built names texts (phrase.product_ty h) = built names texts h
built names texts (phrase.arrow_ty h k) = parent (both (behind (built names texts h)) (built names texts k)) refl refl refl
built names texts (phrase.single_product h) = built names texts h
built names texts (phrase.product h k) = parent (both (behind (built names texts h)) (built names texts k)) refl refl refl
built names texts (phrase.last_factor h) = built names texts h
built names texts (phrase.more_factors h k) = parent (both (behind (built names texts h)) (built names texts k)) refl refl refl
built names texts phrase.var_ty = leaf refl (λ w. w)
built names texts phrase.empty_record_ty = behind (leaf refl (λ _. refl))
built names texts (phrase.record_ty h) = parent (behind (front (built names texts h))) refl refl refl
built names texts (phrase.con_ty h) = built names texts h
built names texts (phrase.applied_ty h k) = parent (both (built names texts h) (built names texts k)) refl refl refl
built names texts (phrase.seq_applied_ty h k i) = parent (both (behind (both (behind (front (built names texts h))) (built names texts k))) (built names texts i)) refl refl refl
built names texts (phrase.paren_ty h) = parent (behind (front (built names texts h))) refl refl refl
built names texts (phrase.last_ty h) = built names texts h
built names texts (phrase.more_tys h k) = parent (both (behind (built names texts h)) (built names texts k)) refl refl refl
built names texts (phrase.last_ty_row h) = built names texts h
built names texts (phrase.more_ty_rows h k) = parent (both (behind (built names texts h)) (built names texts k)) refl refl refl
built names texts (phrase.ty_row h k) = parent (both (behind (built names texts h)) (built names texts k)) refl refl refl

-- the nodes of a program
pub record Tree (names texts : ℕ) (a : List Terminal) (o : List Made) : Type 0 where
  pub decs : List ℕ
  pub forest : roots 0 [] (bare o) ≡ Some decs
  pub cited : all_cited names texts (bare o) ≡ true
  pub few : leaves (bare o) + 1 ≤ length a

pub program_built : (names texts : ℕ) (v : Bool) (f : Fix) (a : List Terminal) (o : List Made) → all_cite names texts a ≡ true → Parses v f a o → Tree names texts a o
program_built names texts v f a o h (g, p) =
    let (k, w) = built names texts p in
    let u = w.adds 0 [] in
    record {
      decs = reverse (u.numbers ++ []);
      forest = u.same;
      cited = (w.cited h).1 refl;
      few = let z = w.few in omega (arith, z);
    }
