-- The machine accepts each head of a clause, with its nodes.
use Rattle.std.proofs.lemmas.Bool.Decides.{nat_tests}
use Rattle.std.proofs.Common.{◌≡◌, ℕ, arith, Bool, true, false, cond, ◌||◌, nat_eq, Option, Some, None, List, [], ◌∷◌, length, refl, ap, ◌∙◌, subst}
use Rattle.smlc_base.specs.declared.names.Name.{Name}
use Rattle.sml_tree.specs.declared.status.Status.{Status}
use Rattle.sml_tree.specs.declared.status.Status.TheVariants as status
use Rattle.sml_tree.specs.declared.tree_node.TreeNode.TheVariants as node
use Rattle.sml_syntax.specs.declared.forms.Terminal.{Terminal}
use Rattle.sml_syntax.specs.declared.forms.Terminal.TheVariants as tok
use Rattle.sml_syntax.specs.declared.forms.Made.{Made}
use Rattle.sml_syntax.specs.declared.forms.Made.TheVariants as made
use Rattle.sml_syntax.specs.declared.forms.Root.{Root}
use Rattle.sml_syntax.specs.declared.forms.Root.TheVariants as root
use Rattle.sml_syntax.specs.declared.forms.Look.{Look}
use Rattle.sml_syntax.specs.declared.forms.Look.TheVariants as look
use Rattle.sml_syntax.specs.declared.symbol.Symbol.{Symbol}
use Rattle.sml_syntax.specs.declared.symbol.Symbol.TheVariants as sy
use Rattle.sml_syntax.specs.declared.symbol.Push.TheVariants.{P0, P1, P2, P3}
use Rattle.sml_syntax.specs.declared.symbol.Move.TheVariants.{Skip, Eat}
use Rattle.sml_syntax.specs.Fixity.{Fix, looks, name_look, directive_for, or_else}
use Rattle.sml_syntax.specs.Grammar.{Kind, Phrase, IsVid, IsOpVid, IsLongVid, IsAtpat, IsAtpats, IsHead, vid, vid_equals, plain_vid, op_vid, short_vid, long_vid, op_long_vid, wild, vid_pat, scon_pat, int, char, text, IsScon, empty_record_pat, record_pat, unit_pat, tuple_pat, empty_list_pat, list_pat, paren_pat, last_atpat, more_atpats, prefix_head, infix_head, paren_head, paren_head_args}
use Rattle.sml_syntax.specs.Moves.{is_ident, is_atpat, at_head, at_head_name, at_atpats_rest, at_head_first_op, at_head_second, at_head_closed}
use Rattle.sml_syntax.specs.Machine.{Accepts, has_infix, infix_among, is_infix, emit, skip, eat}
use Rattle.syntax_laws.specs.Ends.{Next}
use Rattle.syntax_laws.proofs.Standing.{name_case, skip_inv}
use Rattle.syntax_laws.proofs.PatternSteps.{at_first, id_first}
use Rattle.syntax_laws.proofs.PatternsAccepted.{complete_pat}
use Rattle.syntax_laws.proofs.HeadSteps.{head}

-- what stands behind a head
abbrev pub head_end : Look → Bool
head_end (look.Other tok.Equals) = true
head_end (look.Other tok.Colon) = true
head_end _ = false

rests : (l : Look) → head_end l ≡ true → at_atpats_rest l ≡ Skip P0
rests (look.Other tok.Equals) e = refl
rests (look.Other tok.Colon) e = refl
rests _ e = cc

closed_rests : (l : Look) (q n : ℕ) → head_end l ≡ true → at_head_closed q n l ≡ Skip (P1 (sy.Emit (made.Lead node.ParenHead q)))
closed_rests (look.Other tok.Equals) q n e = refl
closed_rests (look.Other tok.Colon) q n e = refl
closed_rests _ q n e = cc

atpat_begins : (l : Look) (q n : ℕ) → is_atpat l ≡ true → (at_head_name n l ≡ Skip (P2 sy.Atpats (sy.Emit (made.Inner node.Head)))) × (at_head_closed q n l ≡ Skip (P2 sy.Atpats (sy.Emit (made.Lead node.ParenHeadArgs q))))
atpat_begins (look.Operator x s l r) q n e = cc
atpat_begins (look.Plain x s) q n e = (refl, refl)
atpat_begins (look.Other w) q n e = (refl, rw e refl)

ident_begins : (i : Bool) (n : ℕ) (c : Root) (q : ℕ) (l : Look) → is_ident l ≡ true → (at_head i n l ≡ Skip (P2 sy.LongVid sy.HeadName)) × (at_head_second c q l ≡ Skip (P2 sy.LongVid (sy.HeadSecondName c q)))
ident_begins i n c q (look.Plain x s) e = (refl, refl)
ident_begins i n c q (look.Other (tok.Long x y)) e = (refl, refl)
ident_begins i n c q (look.Other tok.Op) e = (refl, refl)
ident_begins i n c q _ e = cc

-- where an infix name is read, some identifier has infix status
same_name : (x y : Name) → nat_eq x.0 y.0 ≡ true → x ≡ y
same_name x y e = let P : ℕ → Name = λ n. record { 0 = n } in let h : x.0 ≡ y.0 = grind (arith, nat_tests) in ap P h

among : (f g : Fix) (x : Name) (u : Status) → is_infix (directive_for f x) ≡ true → directive_for g x ≡ Some u → infix_among f g ≡ true
among f [] x u i e = cc
among f (d ∷ g) x u i e = go (directive_for g x) (nat_eq d.name.0 x.0) refl refl e (λ w q. among f g x w i q)
  where
    or_true : (b : Bool) → b || true ≡ true
    or_true true = refl
    or_true false = refl

    go : (w : Option Status) (b : Bool) → directive_for g x ≡ w → nat_eq d.name.0 x.0 ≡ b → or_else w d x ≡ Some u → ((w : Status) → directive_for g x ≡ Some w → infix_among f g ≡ true) → infix_among f (d ∷ g) ≡ true
    go (Some w) b q j e more = ap (λ c. is_infix (directive_for f d.name) || c) (more w q) ∙ or_true (is_infix (directive_for f d.name))
    go None true q j e more = ap (λ c. c || infix_among f g) (ap (λ y. is_infix (directive_for f y)) (same_name d.name x j) ∙ i)
    go None false q j e more = let P : Bool → Type 0 = λ c. cond c (Some d.status) None ≡ Some u in let h = subst P j e in cc

named_has : (f : Fix) (x y : Name) (s z r : Bool) (l : ℕ) (w : Option Status) → directive_for f x ≡ w → name_look x s w ≡ look.Operator y z l r → has_infix f ≡ true
named_has f x y s z r l (Some (status.Infix m d)) q e = among f f x (status.Infix m d) (rw q refl) q
named_has f x y s z r l (Some status.Nonfix) q e = cc
named_has f x y s z r l None q e = cc

pub has : (f : Fix) (t : Terminal) (x : Name) (s r : Bool) (l : ℕ) → looks f t ≡ look.Operator x s l r → has_infix f ≡ true
has f (tok.Id y z) x s r l e = named_has f y x z s r l (directive_for f y) refl e
has f _ x s r l e = cc

module _ (v : Bool) where
  -- a name behind the parenthesis of a head
  abbrev GoalName : Kind → Fix → List Terminal → List Terminal → List Made → List Made → Type 0
  GoalName IsVid f a b o p = (k : List Symbol) (q n : ℕ) → Accepts v (sy.Emit (made.Lead node.Op q) ∷ sy.HeadFirstName true n ∷ k) f b p → Accepts v (sy.HeadFirstOp q n ∷ k) f a o
  GoalName IsOpVid f a b o p = (k : List Symbol) (n : ℕ) → Accepts v (sy.HeadFirstName true n ∷ k) f b p → Accepts v (sy.HeadParen n ∷ k) f a o
  GoalName IsLongVid f a b o p = (k : List Symbol) (n : ℕ) → Accepts v (sy.HeadFirstName false n ∷ k) f b p → Accepts v (sy.HeadFirstName true n ∷ k) f b p → Accepts v (sy.HeadParen n ∷ k) f a o
  GoalName _ f a b o p = Unit {0}

  named : {n : Kind} {f : Fix} {a b : List Terminal} {o p : List Made} → Phrase v n f a b o p → GoalName n f a b o p
  named (vid {f = f} {x = x} {s = s} {a = a}) = λ k q n g. eat {p = P3 (sy.Emit (made.Lead (node.Vid x) (length (tok.Id x s ∷ a)))) (sy.Emit (made.Lead node.Op q)) (sy.HeadFirstName true n)} (name_case f x s (λ l. at_head_first_op q n (length (tok.Id x s ∷ a)) l ≡ Eat (P3 (sy.Emit (made.Lead (node.Vid x) (length (tok.Id x s ∷ a)))) (sy.Emit (made.Lead node.Op q)) (sy.HeadFirstName true n))) refl (λ l r. refl)) (emit g)
  named vid_equals = λ k q n g. eat refl (emit g)
  named (plain_vid {x = x} {s = s} {a = a} e) = λ k n g. eat {p = P2 (sy.Emit (made.Lead (node.Vid x) (length (tok.Id x s ∷ a)))) (sy.HeadFirstName true n)} (rw e refl) (emit g)
  named (op_vid h) = λ k n g. eat refl (named h k _ n (emit g))
  named (short_vid h) = λ k n g w. named h k n w
  named long_vid = λ k n g w. eat refl (emit g)
  named op_long_vid = λ k n g w. eat refl (eat refl (emit (emit g)))
  named _ = tt

  -- the first operand of a head in parentheses, before an infix name
  abbrev GoalFirst : Kind → Fix → List Terminal → List Terminal → List Made → List Made → Type 0
  GoalFirst IsAtpat f a b o p = (k : List Symbol) (n : ℕ) → Accepts v (sy.HeadFirst n ∷ k) f b p → Accepts v (sy.HeadFirstName false n ∷ k) f b p → Accepts v (sy.HeadFirstName true n ∷ k) f b p → Accepts v (sy.HeadParen n ∷ k) f a o
  GoalFirst IsScon f a b o p = (k : List Symbol) (n : ℕ) → Accepts v (sy.Atpat ∷ sy.HeadFirst n ∷ k) f a o → Accepts v (sy.HeadParen n ∷ k) f a o
  GoalFirst _ f a b o p = Unit {0}

  first : {n : Kind} {f : Fix} {a b : List Terminal} {o p : List Made} → Phrase v n f a b o p → GoalFirst n f a b o p
  first int = λ k n g. skip {p = P2 sy.Atpat (sy.HeadFirst n)} refl g
  first char = λ k n g. skip {p = P2 sy.Atpat (sy.HeadFirst n)} refl g
  first text = λ k n g. skip {p = P2 sy.Atpat (sy.HeadFirst n)} refl g
  first wild = λ k n g x y. skip {p = P2 sy.Atpat (sy.HeadFirst n)} refl ((complete_pat v wild _).0 g)
  first (vid_pat h) = λ k n g x y. named h k n x y
  first (scon_pat h) = λ k n g x y. first h k n ((complete_pat v (scon_pat h) _).0 g)
  first empty_record_pat = λ k n g x y. skip {p = P2 sy.Atpat (sy.HeadFirst n)} refl ((complete_pat v empty_record_pat _).0 g)
  first (record_pat h) = λ k n g x y. skip {p = P2 sy.Atpat (sy.HeadFirst n)} refl ((complete_pat v (record_pat h) _).0 g)
  first unit_pat = λ k n g x y. skip {p = P2 sy.Atpat (sy.HeadFirst n)} refl ((complete_pat v unit_pat _).0 g)
  first (tuple_pat h d) = λ k n g x y. skip {p = P2 sy.Atpat (sy.HeadFirst n)} refl ((complete_pat v (tuple_pat h d) _).0 g)
  first empty_list_pat = λ k n g x y. skip {p = P2 sy.Atpat (sy.HeadFirst n)} refl ((complete_pat v empty_list_pat _).0 g)
  first (list_pat h) = λ k n g x y. skip {p = P2 sy.Atpat (sy.HeadFirst n)} refl ((complete_pat v (list_pat h) _).0 g)
  first (paren_pat h) = λ k n g x y. skip {p = P2 sy.Atpat (sy.HeadFirst n)} refl ((complete_pat v (paren_pat h) _).0 g)
  first _ = tt

  first_op : {f : Fix} {t : Terminal} {x : Name} {s r : Bool} {l : ℕ} {a b : List Terminal} {o p : List Made} {k : List Symbol} {n : ℕ} → Phrase v IsAtpat f a (t ∷ b) o (made.Lead (node.Vid x) (length (t ∷ b)) ∷ p) → looks f t ≡ look.Operator x s l r → Accepts v (sy.HeadSecond (root.Operator l r) n ∷ k) f b p → Accepts v (sy.HeadParen n ∷ k) f a o
  first_op {t = t} {x = x} {r = r} {l = l} {b = b} {k = k} {n = n} h i g =
      first h k n
      (eat {p = P2 (sy.Emit (made.Lead (node.Vid x) (length (t ∷ b)))) (sy.HeadSecond (root.Operator l r) n)} (rw i refl) (emit g))
      (eat {p = P2 (sy.Emit (made.Lead (node.Vid x) (length (t ∷ b)))) (sy.HeadSecond (root.Operator l r) n)} (rw i refl) (emit g))
      (eat {p = P2 (sy.Emit (made.Lead (node.Vid x) (length (t ∷ b)))) (sy.HeadSecond (root.Operator l r) n)} (rw i refl) (emit g))

  -- the second operand, before the closing parenthesis
  abbrev GoalSecond : Kind → Fix → List Terminal → List Terminal → List Made → List Made → Type 0
  GoalSecond IsAtpat f a b o p = (k : List Symbol) (c : Root) (n : ℕ) → Accepts v (sy.HeadSecondEnd c n ∷ k) f b p → Accepts v (sy.HeadSecondName c n ∷ k) f b p → Accepts v (sy.HeadSecond c n ∷ k) f a o
  GoalSecond IsScon f a b o p = (k : List Symbol) (c : Root) (n : ℕ) → Accepts v (sy.Atpat ∷ sy.HeadSecondEnd c n ∷ k) f a o → Accepts v (sy.HeadSecond c n ∷ k) f a o
  GoalSecond _ f a b o p = Unit {0}

  id_second : {k : List Symbol} {f : Fix} {a : List Terminal} {o : List Made} (c : Root) (n : ℕ) → Next is_ident f a → Accepts v (sy.LongVid ∷ sy.HeadSecondName c n ∷ k) f a o → Accepts v (sy.HeadSecond c n ∷ k) f a o
  id_second {a = []} c n e h = absurd e
  id_second {f = f} {a = t ∷ a} c n e h = skip {p = P2 sy.LongVid (sy.HeadSecondName c n)} (ident_begins true 0 c n (looks f t) e).1 h

  second : {n : Kind} {f : Fix} {a b : List Terminal} {o p : List Made} → Phrase v n f a b o p → GoalSecond n f a b o p
  second int = λ k c n g. skip {p = P2 sy.Atpat (sy.HeadSecondEnd c n)} refl g
  second char = λ k c n g. skip {p = P2 sy.Atpat (sy.HeadSecondEnd c n)} refl g
  second text = λ k c n g. skip {p = P2 sy.Atpat (sy.HeadSecondEnd c n)} refl g
  second wild = λ k c n g y. skip {p = P2 sy.Atpat (sy.HeadSecondEnd c n)} refl ((complete_pat v wild _).0 g)
  second (vid_pat h) = λ k c n g y. let w = (complete_pat v h (sy.HeadSecondName c n ∷ k)).0 y in id_second c n (id_first v w) w
  second (scon_pat h) = λ k c n g y. second h k c n ((complete_pat v (scon_pat h) _).0 g)
  second empty_record_pat = λ k c n g y. skip {p = P2 sy.Atpat (sy.HeadSecondEnd c n)} refl ((complete_pat v empty_record_pat _).0 g)
  second (record_pat h) = λ k c n g y. skip {p = P2 sy.Atpat (sy.HeadSecondEnd c n)} refl ((complete_pat v (record_pat h) _).0 g)
  second unit_pat = λ k c n g y. skip {p = P2 sy.Atpat (sy.HeadSecondEnd c n)} refl ((complete_pat v unit_pat _).0 g)
  second (tuple_pat h d) = λ k c n g y. skip {p = P2 sy.Atpat (sy.HeadSecondEnd c n)} refl ((complete_pat v (tuple_pat h d) _).0 g)
  second empty_list_pat = λ k c n g y. skip {p = P2 sy.Atpat (sy.HeadSecondEnd c n)} refl ((complete_pat v empty_list_pat _).0 g)
  second (list_pat h) = λ k c n g y. skip {p = P2 sy.Atpat (sy.HeadSecondEnd c n)} refl ((complete_pat v (list_pat h) _).0 g)
  second (paren_pat h) = λ k c n g y. skip {p = P2 sy.Atpat (sy.HeadSecondEnd c n)} refl ((complete_pat v (paren_pat h) _).0 g)
  second _ = tt

  second_end : {f : Fix} {a b : List Terminal} {o p : List Made} {k : List Symbol} {n : ℕ} (c : Root) → Phrase v IsAtpat f a (tok.Close ∷ b) o p → Accepts v (sy.HeadClosed n ∷ k) f b p → Accepts v (sy.HeadSecond c n ∷ k) f a o
  second_end {k = k} {n = n} c h g = let w = eat {p = P1 (sy.HeadClosed n)} refl g in second h k c n w (skip {p = P1 (sy.HeadSecondEnd c n)} refl w)

  id_head : {k : List Symbol} {f : Fix} {a : List Terminal} {o : List Made} → Next is_ident f a → Accepts v (sy.LongVid ∷ sy.HeadName ∷ k) f a o → Accepts v (sy.Head ∷ k) f a o
  id_head {a = []} e h = absurd e
  id_head {f = f} {a = t ∷ a} e h = skip {p = P2 sy.LongVid sy.HeadName} (ident_begins (has_infix f) (length (t ∷ a)) root.Bare 0 (looks f t) e).0 h

  name_go : {k : List Symbol} {f : Fix} {a : List Terminal} {o : List Made} → Next is_atpat f a → Accepts v (sy.Atpats ∷ sy.Emit (made.Inner node.Head) ∷ k) f a o → Accepts v (sy.HeadName ∷ k) f a o
  name_go {a = []} e h = absurd e
  name_go {f = f} {a = t ∷ a} e h = skip {p = P2 sy.Atpats (sy.Emit (made.Inner node.Head))} (atpat_begins (looks f t) 0 (length (t ∷ a)) e).0 h

  closed_go : {k : List Symbol} {f : Fix} {a : List Terminal} {o : List Made} (q : ℕ) → Next is_atpat f a → Accepts v (sy.Atpats ∷ sy.Emit (made.Lead node.ParenHeadArgs q) ∷ k) f a o → Accepts v (sy.HeadClosed q ∷ k) f a o
  closed_go {a = []} q e h = absurd e
  closed_go {f = f} {a = t ∷ a} q e h = skip {p = P2 sy.Atpats (sy.Emit (made.Lead node.ParenHeadArgs q))} (atpat_begins (looks f t) q (length (t ∷ a)) e).1 h

  closed_skip : {k : List Symbol} {f : Fix} {a : List Terminal} {o : List Made} (q : ℕ) → Next head_end f a → Accepts v k f a o → Accepts v (sy.HeadClosed q ∷ k) f a (made.Lead node.ParenHead q ∷ o)
  closed_skip {a = []} q e h = absurd e
  closed_skip {f = f} {a = t ∷ a} q e h = skip {p = P1 (sy.Emit (made.Lead node.ParenHead q))} (closed_rests (looks f t) q (length (t ∷ a)) e) (emit h)

  rest_skip : {k : List Symbol} {f : Fix} {a : List Terminal} {o : List Made} → Next head_end f a → Accepts v k f a o → Accepts v (sy.AtpatsRest ∷ k) f a o
  rest_skip {a = []} e h = absurd e
  rest_skip {f = f} {a = t ∷ a} e h = skip {p = P0} (rests (looks f t) e) h

  rest_go : {k : List Symbol} {f : Fix} {a : List Terminal} {o : List Made} → Next is_atpat f a → Accepts v (sy.Atpats ∷ sy.Emit (made.Inner node.MoreAtpats) ∷ k) f a o → Accepts v (sy.AtpatsRest ∷ k) f a o
  rest_go {a = []} e h = absurd e
  rest_go {a = t ∷ a} e h = skip {p = P2 sy.Atpats (sy.Emit (made.Inner node.MoreAtpats))} (rw e refl) h

  atpats_go : {k : List Symbol} {f : Fix} {a : List Terminal} {o : List Made} → Accepts v (sy.Atpat ∷ sy.AtpatsRest ∷ k) f a o → Accepts v (sy.Atpats ∷ k) f a o
  atpats_go (skip e h) = skip refl (skip e h)
  atpats_go (eat e h) = skip refl (eat e h)

  atpats_first : {k : List Symbol} {f : Fix} {a : List Terminal} {o : List Made} → Accepts v (sy.Atpats ∷ k) f a o → Next is_atpat f a
  atpats_first (skip e h) = at_first v (skip_inv {s = sy.Atpats} {p = P2 sy.Atpat sy.AtpatsRest} refl (skip e h))
  atpats_first (eat e h) = cc

  abbrev pub GoalHead : Kind → Fix → List Terminal → List Terminal → List Made → List Made → Type 0
  GoalHead IsAtpats f a b o p = (k : List Symbol) → Next head_end f b → Accepts v k f b p → Accepts v (sy.Atpats ∷ k) f a o
  GoalHead IsHead f a b o p = (k : List Symbol) → Next head_end f b → Accepts v k f b p → Accepts v (sy.Head ∷ k) f a o
  GoalHead _ f a b o p = Unit {0}

  pub complete_head : {n : Kind} {f : Fix} {a b : List Terminal} {o p : List Made} → Phrase v n f a b o p → GoalHead n f a b o p
  complete_head (last_atpat h) = λ k n g. atpats_go ((complete_pat v h _).0 (rest_skip n g))
  complete_head (more_atpats h d) = λ k n g. let w = complete_head d (sy.Emit (made.Inner node.MoreAtpats) ∷ k) n (emit g) in atpats_go ((complete_pat v h _).0 (rest_go (atpats_first w) w))
  complete_head (prefix_head h d) = λ k n g. let w = complete_head d (sy.Emit (made.Inner node.Head) ∷ k) n (emit g) in let u = (complete_pat v h (sy.HeadName ∷ k)).0 (name_go (atpats_first w) w) in id_head (id_first v u) u
  complete_head (infix_head {f = f} {t = t} {x = x} {s = s} {r = r} {l = l} {b = b} i h d) = λ k n g. head v (has f t x s r l i) ((complete_pat v h _).0 (eat {p = P3 (sy.Emit (made.Lead (node.Vid x) (length (t ∷ b)))) sy.Atpat (sy.Emit (made.Inner node.InfixHead))} (rw i refl) (emit ((complete_pat v d _).0 (emit g)))))
  complete_head (paren_head {f = f} {t = t} {x = x} {s = s} {r = r} {l = l} {a = a} i h d) = λ k n g. eat {p = P1 (sy.HeadParen (length (tok.Open ∷ a)))} (rw (has f t x s r l i) refl) (first_op h i (second_end (root.Operator l r) d (closed_skip _ n g)))
  complete_head (paren_head_args {f = f} {t = t} {x = x} {s = s} {r = r} {l = l} {a = a} i h d e) = λ k n g. let w = complete_head e (sy.Emit (made.Lead node.ParenHeadArgs (length (tok.Open ∷ a))) ∷ k) n (emit g) in eat {p = P1 (sy.HeadParen (length (tok.Open ∷ a)))} (rw (has f t x s r l i) refl) (first_op h i (second_end (root.Operator l r) d (closed_go _ (atpats_first w) w)))
  complete_head _ = tt
