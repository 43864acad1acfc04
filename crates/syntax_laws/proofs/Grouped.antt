-- Operators of one precedence that associate in different ways: what goes on where they are grouped to the left.
use Rattle.std.proofs.Common.{arith, ◌≡◌, ℕ, nat_eq, nat_lt, Bool, true, false, ◌&&◌, ◌||◌, not, cond, Option, Some, None, List, [], ◌∷◌, refl, sym, subst}
use Rattle.std.proofs.lemmas.Bool.Decides.{nat_tests}
use Rattle.sml_tree.specs.declared.tree_node.TreeNode.TheVariants as node
use Rattle.sml_syntax.specs.declared.forms.Terminal.{Terminal}
use Rattle.sml_syntax.specs.declared.forms.Made.{Made}
use Rattle.sml_syntax.specs.declared.forms.Made.TheVariants as made
use Rattle.sml_syntax.specs.declared.forms.Root.{Root}
use Rattle.sml_syntax.specs.declared.forms.Root.TheVariants as root
use Rattle.sml_syntax.specs.declared.forms.Look.{Look}
use Rattle.sml_syntax.specs.declared.forms.Look.TheVariants as look
use Rattle.sml_syntax.specs.declared.forms.InfixVid.{InfixVid}
use Rattle.sml_syntax.specs.declared.symbol.Symbol.{Symbol}
use Rattle.sml_syntax.specs.declared.symbol.Symbol.TheVariants as sy
use Rattle.sml_syntax.specs.declared.symbol.Push.{Push}
use Rattle.sml_syntax.specs.declared.symbol.Push.TheVariants.{P0, P5, P6}
use Rattle.sml_syntax.specs.declared.symbol.Move.{Move}
use Rattle.sml_syntax.specs.declared.symbol.Move.TheVariants.{Mixed, Skip, Eat}
use Rattle.sml_syntax.specs.Fixity.{Fix, fits, looks, operates}
use Rattle.sml_syntax.specs.Moves.{at_operates, at_pat_ops, ends_at}
use Rattle.sml_syntax.specs.Machine.{after, pushed}
use Rattle.syntax_laws.specs.Traits.{gives, nothing, operators, pattern_operators, standing, Standing, suits, traits}
use Rattle.syntax_laws.specs.Steps.{at, Good}
use Rattle.syntax_laws.proofs.Lawful.{mixes}
use Rattle.syntax_laws.proofs.Kept.{at_number, below_top, eat_good, law_of, popped}
use Rattle.syntax_laws.proofs.Taken.{keeps, makes, reads, Takes}
use Rattle.syntax_laws.proofs.Completed.{completed}

-- an operator that goes on no phrase ends it, where such operators are grouped to the left
lets_go : (m l : ℕ) (b : Bool) → (nat_lt m l || (nat_eq m l && b)) ≡ false → (nat_lt l m || (nat_eq l m && not b)) ≡ true
lets_go m l true e = grind (arith, nat_tests)
lets_go m l false e = grind (arith, nat_tests)

ends_there : (c : Root) (l : ℕ) (r : Bool) → fits c (root.Operator l r) ≡ false → ends_at true c l r ≡ true
ends_there root.Bare l r e = cc
ends_there (root.Operator m s) l r e = lets_go m l (s && r) e

-- what ends a phrase where operators are not grouped, ends it where they are
neither : (s r : Bool) → (not s && not r) ≡ true → not (s && r) ≡ true
neither true r e = cc
neither false r e = refl

weaker : (a b c d : Bool) → (c ≡ true → d ≡ true) → (a || (b && c)) ≡ true → (a || (b && d)) ≡ true
weaker true b c d u e = refl
weaker false true c d u e = u e
weaker false false c d u e = e

ends_too : (c : Root) (l : ℕ) (r : Bool) → ends_at false c l r ≡ true → ends_at true c l r ≡ true
ends_too root.Bare l r e = cc
ends_too (root.Operator m s) l r e = weaker (nat_lt l m) (nat_eq l m) (not s && not r) (not (s && r)) (neither s r) e

both_cond : (b c d : Bool) (x w : Move) → (c ≡ true → d ≡ true) → cond b x (cond c (Skip P0) Mixed) ≡ w → (w ≡ Mixed → ⊥) → cond b x (cond d (Skip P0) Mixed) ≡ w
both_cond true c d x w u e n = e
both_cond false true d x w u e n = let q = u refl in let P : Bool → Type 0 = λ d. cond d (Skip P0) Mixed ≡ w in subst P (sym q) e
both_cond false false d x w u e n = absurd (n (sym e))

both_ops : (c : Root) (n : ℕ) (o : Option InfixVid) (w : Move) → at_operates false c n o ≡ w → (w ≡ Mixed → ⊥) → at_operates true c n o ≡ w
both_ops c n (Some x) w e u = both_cond (fits c (root.Operator x.level x.right)) (ends_at false c x.level x.right) (ends_at true c x.level x.right) (Eat (P6 (sy.Emit (made.Lead x.vid n)) sy.Atexp sy.Args (sy.Ops (root.Operator x.level x.right)) (sy.Emit (made.Inner node.InfixExp)) (sy.Ops c))) w (ends_too c x.level x.right) e u
both_ops c n None w e u = e

both_pat_ops : (c : Root) (n : ℕ) (l : Look) (w : Move) → at_pat_ops false c n l ≡ w → (w ≡ Mixed → ⊥) → at_pat_ops true c n l ≡ w
both_pat_ops c n (look.Operator x s l r) w e u = both_cond (fits c (root.Operator l r)) (ends_at false c l r) (ends_at true c l r) (Eat (P5 (sy.Emit (made.Lead (node.Vid x) n)) sy.PatOperand (sy.PatOps (root.Operator l r)) (sy.Emit (made.Inner node.InfixPat)) (sy.PatOps c))) w (ends_too c l r) e u
both_pat_ops c n (look.Plain x s) w e u = e
both_pat_ops c n (look.Other t) w e u = e

-- a move that finds nothing mixed is the same in both ways of grouping
pub both : (v : Bool) (s : Symbol) (f : Fix) (t : Terminal) (n : ℕ) (w : Move) → at_number false s f t n ≡ w → (w ≡ Mixed → ⊥) → at_number v s f t n ≡ w
both false s f t n w e u = e
both true s f t n w e u = by s e
  where
    by : (s : Symbol) → at_number false s f t n ≡ w → at_number true s f t n ≡ w
    by (sy.Ops c) e = both_ops c n (operates (looks f t)) w e u
    by (sy.PatOps c) e = both_pat_ops c n (looks f t) w e u
    by _ e = e

-- a symbol under which operators stand next, or a node
data Under (ops : Root → Symbol) (s : Symbol) (e d : Standing) : Type 0 where
  is_made : (m : Made) → s ≡ sy.Emit m → e ≡ d → Under ops s e d
  is_ops : (c : Root) → s ≡ ops c → Under ops s e d

-- symbols for operators, before one with this precedence
record Operators (ops : Root → Symbol) (d : Standing) (l : ℕ) (r : Bool) (f : Fix) (t : Terminal) : Type 0 where
  something : d ≡ nothing → ⊥
  inner : (m : ℕ) (s : Bool) (e : Standing) → suits (traits (ops (root.Operator m s))).wants e ≡ true → e ≡ d
  under : (s : Symbol) (e : Standing) → gives s e ≡ d → Under ops s e d
  takes_it : (c : Root) → fits c (root.Operator l r) ≡ true → (p : Push) × (at_number true (ops c) f t 0 ≡ Eat p)
  lets_it : (c : Root) → fits c (root.Operator l r) ≡ false → at_number true (ops c) f t 0 ≡ Skip P0

abbrev Lives : List Symbol → Fix → Terminal → Type 0
Lives k f t = (a : List Terminal) × Takes true k f (t ∷ a)

module _ (ops : Root → Symbol) (d : Standing) (l : ℕ) (r : Bool) (f : Fix) (t : Terminal) (w : Operators ops d l r f t) where
  ops_live : (c : Root) (k : List Symbol) → Good (at (ops c ∷ k) f) → (standing k nothing ≡ d → Good (at k f) → Lives k f t) → Lives (ops c ∷ k) f t
  ops_live c k h u = go (fits c (root.Operator l r)) refl
    where
      deeper : (c : Root) → fits c (root.Operator l r) ≡ false → Good (at (ops c ∷ k) f) → standing k nothing ≡ d
      deeper root.Bare e h = cc
      deeper (root.Operator m s) e h = w.inner m s (standing k nothing) (below_top (ops (root.Operator m s)) k nothing false h.0).0

      go : (b : Bool) → fits c (root.Operator l r) ≡ b → Lives (ops c ∷ k) f t
      go true e = let (p, i) = w.takes_it c e in let (a, g) = completed true (pushed p k) (after (ops c) t f) (eat_good true (ops c) p k f t 0 i h) in (a, reads 0 i g)
      go false e = let (a, g) = u (deeper c e h) (popped (ops c) k f h) in (a, keeps {p = P0} 0 (w.lets_it c e) g)

  live : (k : List Symbol) → standing k nothing ≡ d → Good (at k f) → Lives k f t
  live [] e h = absurd (w.something (sym e))
  live (s ∷ k) e h = go (w.under s (standing k nothing) e) (live k)
    where
      go : Under ops s (standing k nothing) d → (standing k nothing ≡ d → Good (at k f) → Lives k f t) → Lives (s ∷ k) f t
      go (is_made m q i) u = let (a, g) = u i (popped s k f h) in let P : Symbol → Type 0 = λ s. Lives (s ∷ k) f t in subst P (sym q) (a, makes g)
      go (is_ops c q) u = let P : Symbol → Type 0 = λ s. Lives (s ∷ k) f t in let Q : Symbol → Type 0 = λ s. Good (at (s ∷ k) f) in subst P (sym q) (ops_live c k (subst Q q h) u)

only_operators : (e : Standing) → suits operators e ≡ true → e ≡ operators
only_operators operators h = refl
only_operators _ h = cc

only_pattern_operators : (e : Standing) → suits pattern_operators e ≡ true → e ≡ pattern_operators
only_pattern_operators pattern_operators h = refl
only_pattern_operators _ h = cc

under_operators : (s : Symbol) (e : Standing) → gives s e ≡ operators → Under (λ c. sy.Ops c) s e operators
under_operators (sy.Emit m) e q = is_made m refl q
under_operators (sy.Ops c) e q = is_ops c refl
under_operators _ e q = cc

under_pattern_operators : (s : Symbol) (e : Standing) → gives s e ≡ pattern_operators → Under (λ c. sy.PatOps c) s e pattern_operators
under_pattern_operators (sy.Emit m) e q = is_made m refl q
under_pattern_operators (sy.PatOps c) e q = is_ops c refl
under_pattern_operators _ e q = cc

operators_of : (x : InfixVid) (f : Fix) (t : Terminal) → operates (looks f t) ≡ Some x → Operators (λ c. sy.Ops c) operators x.level x.right f t
operators_of x f t q = record {
  something = λ e. cc;
  inner = λ m s e h. only_operators e h;
  under = λ s e h. under_operators s e h;
  takes_it = λ c e. (P6 (sy.Emit (made.Lead x.vid 0)) sy.Atexp sy.Args (sy.Ops (root.Operator x.level x.right)) (sy.Emit (made.Inner node.InfixExp)) (sy.Ops c), rw (q, e) refl);
  lets_it = λ c e. rw (q, e, ends_there c x.level x.right e) refl;
}

pattern_operators_of : (l : Look) (f : Fix) (t : Terminal) → looks f t ≡ l → (c : Root) (n : ℕ) → at_pat_ops false c n l ≡ Mixed → (m : ℕ) × (r : Bool) × Operators (λ c. sy.PatOps c) pattern_operators m r f t
pattern_operators_of (look.Operator x s l r) f t q c n i = (
  l,
  r,
  record {
    something = λ e. cc;
    inner = λ m s e h. only_pattern_operators e h;
    under = λ s e h. under_pattern_operators s e h;
    takes_it = λ c e. (P5 (sy.Emit (made.Lead (node.Vid x) 0)) sy.PatOperand (sy.PatOps (root.Operator l r)) (sy.Emit (made.Inner node.InfixPat)) (sy.PatOps c), rw (q, e) refl);
    lets_it = λ c e. rw (q, e, ends_there c l r e) refl;
  },
)
pattern_operators_of (look.Plain x s) f t q c n i = cc
pattern_operators_of (look.Other x) f t q c n i = cc

mixed_ops : (c : Root) (k : List Symbol) (f : Fix) (t : Terminal) (n : ℕ) (o : Option InfixVid) → operates (looks f t) ≡ o → at_operates false c n o ≡ Mixed → Good (at (sy.Ops c ∷ k) f) → Lives (sy.Ops c ∷ k) f t
mixed_ops c k f t n (Some x) q e h = live (λ c. sy.Ops c) operators x.level x.right f t (operators_of x f t q) (sy.Ops c ∷ k) refl h
mixed_ops c k f t n None q e h = cc

mixed_by : (s : Symbol) (k : List Symbol) (f : Fix) (t : Terminal) (n : ℕ) → mixes s ≡ true → at_number false s f t n ≡ Mixed → Good (at (s ∷ k) f) → Lives (s ∷ k) f t
mixed_by (sy.Ops c) k f t n m e h = mixed_ops c k f t n (operates (looks f t)) refl e h
mixed_by (sy.PatOps c) k f t n m e h = let (l, r, w) = pattern_operators_of (looks f t) f t refl c n e in live (λ c. sy.PatOps c) pattern_operators l r f t w (sy.PatOps c ∷ k) refl h
mixed_by _ k f t n m e h = cc

-- where operators are mixed, something goes on if they are grouped to the left
pub mixed_on : (s : Symbol) (k : List Symbol) (f : Fix) (t : Terminal) (n : ℕ) → at_number false s f t n ≡ Mixed → Good (at (s ∷ k) f) → Lives (s ∷ k) f t
mixed_on s k f t n e h = mixed_by s k f t n (law_of false s f t n Mixed e) e h
