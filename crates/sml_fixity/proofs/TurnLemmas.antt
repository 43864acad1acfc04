-- What each kind of move makes.
use Rattle.std.proofs.Common.{arith, ◌≡◌, ℕ, ◌<◌, ◌++◌, Bool, false, Option, Some, None, reverse, List, [], ◌∷◌, length, sym, ◌∙◌, ap, subst}
use Rattle.std.proofs.lemmas.List.{reverse-append}
use Rattle.sml_syntax.specs.declared.forms.Made.{Made}
use Rattle.sml_syntax.specs.declared.forms.Look.{Look}
use Rattle.sml_syntax.specs.declared.forms.Terminal.{Terminal}
use Rattle.sml_syntax.specs.declared.forms.Terminal.TheVariants as tok
use Rattle.sml_syntax.specs.declared.symbol.Symbol.{Symbol}
use Rattle.sml_syntax.specs.declared.symbol.Symbol.TheVariants as sy
use Rattle.sml_syntax.specs.declared.symbol.Push.{Push}
use Rattle.sml_syntax.specs.declared.symbol.Move.{Move}
use Rattle.sml_syntax.specs.declared.symbol.Move.TheVariants.{Eat, Skip}
use Rattle.sml_syntax.specs.Fixity.{Fix, looks}
use Rattle.sml_syntax.specs.Machine.{after, has_infix, move_of, moves, pushed}
use Rattle.syntax_laws.specs.Steps.{Comes, lead, Opens, emits, skips, eats}
use Rattle.syntax_laws.proofs.Derived.{comes_good, finished_stuck}
use Rattle.syntax_laws.proofs.Kept.{end_leaves, skip_good}
use Rattle.sml_fixity.specs.declared.turns.Machine.{Machine}
use Rattle.sml_fixity.specs.declared.turns.Turn.{Turn}
use Rattle.sml_fixity.specs.Turns.{Acts, Shifts, stack_of, Stands}

pub the_move : (s : Symbol) (g : Fix) (t : Terminal) (a : List Terminal) (i : Bool) (n left : ℕ) (l : Look) (m w : Move) → i ≡ has_infix g → n ≡ length g → left ≡ length (t ∷ a) → l ≡ looks g t → m ≡ move_of false s i n left l → m ≡ w → moves false s g t a ≡ w
the_move s g t a i n left l m w p q r u e h =
    ap (λ (i : Bool). move_of false s i (length g) (length (t ∷ a)) (looks g t)) (sym p)
    ∙ ap (λ (n : ℕ). move_of false s i n (length (t ∷ a)) (looks g t)) (sym q)
    ∙ ap (λ (x : ℕ). move_of false s i n x (looks g t)) (sym r)
    ∙ ap (λ (l : Look). move_of false s i n left l) (sym u)
    ∙ sym e ∙ h

pub emit_turn : (f g : Fix) (r a : List Terminal) (t : Terminal) (s : Symbol) (m : Made) (k : List Symbol) (o p : List Made) → s ≡ sy.Emit m → p ≡ o ++ m ∷ [] → Comes false f r (s ∷ k) g (t ∷ a) o → Comes false f r k g (t ∷ a) p × (lead k < lead (s ∷ k))
emit_turn f g r a t s m k o p e q h =
    let P : List Made → Type 0 = λ p. Comes false f r k g (t ∷ a) p in
    let S : Symbol → Type 0 = λ s. Comes false f r (s ∷ k) g (t ∷ a) o in
    let L : Symbol → Type 0 = λ s. lead k < lead (s ∷ k) in
    let falls : lead k < lead (sy.Emit m ∷ k) = omega arith in
    (subst P (sym q) (emits (subst S e h)), subst L (sym e) falls)

pub skip_turn : (f g : Fix) (r a : List Terminal) (t : Terminal) (s : Symbol) (p : Push) (k l : List Symbol) (o : List Made) → l ≡ pushed p k → Comes false f r (s ∷ k) g (t ∷ a) o → moves false s g t a ≡ Skip p → Comes false f r l g (t ∷ a) o × (lead l < lead (s ∷ k))
skip_turn f g r a t s p k l o q h e =
    let P : List Symbol → Type 0 = λ l. Comes false f r l g (t ∷ a) o × (lead l < lead (s ∷ k)) in
    subst P (sym q) (skips e h, (skip_good false s p k g t (length (t ∷ a)) e (comes_good h)).1)

pub eat_turn : (f g i : Fix) (r a : List Terminal) (t : Terminal) (s : Symbol) (p : Push) (k l : List Symbol) (o : List Made) → l ≡ pushed p k → i ≡ after s t g → Comes false f r (s ∷ k) g (t ∷ a) o → moves false s g t a ≡ Eat p → Comes false f (r ++ t ∷ []) l i a o × (t ≡ tok.Finish → l ≡ [])
eat_turn f g i r a t s p k l o q u h e =
    let P : List Symbol → Type 0 = λ l. Comes false f (r ++ t ∷ []) l (after s t g) a o × (t ≡ tok.Finish → l ≡ []) in
    let F : Fix → Type 0 = λ i. Comes false f (r ++ t ∷ []) l i a o × (t ≡ tok.Finish → l ≡ []) in
    subst F (sym u) (subst P (sym q) (eats e h, end_leaves false s p k g t (length (t ∷ a)) e (comes_good h)))

pub popped : (xs ys : List Symbol) (x : Symbol) → xs ≡ ys ++ x ∷ [] → reverse xs ≡ x ∷ reverse ys
popped xs ys x e = ap reverse e ∙ reverse-append ys (x ∷ [])

-- a symbol that stood on top has acted, and the terminal is still to be taken
pub acts_none : (f g : Fix) (r a : List Terminal) (t : Terminal) (k l : List Symbol) (o : List Made) (w : Option Turn) (m : Machine) → l ≡ k → Comes false f r l g (t ∷ a) o → (Comes false f r k g (t ∷ a) o → Acts f r t a k w m) → w ≡ None → Stands f r (t ∷ a) (stack_of m) m × (lead (stack_of m) < lead l)
acts_none f g r a t k l o w m e h act q =
    let P : List Symbol → Type 0 = λ k. Comes false f r k g (t ∷ a) o in
    let W : Option Turn → Type 0 = λ w. Acts f r t a k w m in
    let L : List Symbol → Type 0 = λ k. lead (stack_of m) < lead k in
    let (s, n) = subst W q (act (subst P e h)) in (s, subst L (sym e) n)

-- the same where the terminal is done with
pub acts_some : (f g : Fix) (r a : List Terminal) (t : Terminal) (k l : List Symbol) (o : List Made) (w : Option Turn) (x : Turn) (m : Machine) → l ≡ k → Comes false f r l g (t ∷ a) o → (Comes false f r k g (t ∷ a) o → Acts f r t a k w m) → w ≡ Some x → Shifts f r t a x m
acts_some f g r a t k l o w x m e h act q =
    let P : List Symbol → Type 0 = λ k. Comes false f r k g (t ∷ a) o in
    let W : Option Turn → Type 0 = λ w. Acts f r t a k w m in
    subst W q (act (subst P e h))

-- no symbol is left
pub none_left : (f g : Fix) (r a : List Terminal) (t : Terminal) (k : List Symbol) (o : List Made) → k ≡ [] → Comes false f r k g (t ∷ a) o → Opens false f r × ((v : Bool) → Opens v f (r ++ t ∷ []) → ⊥)
none_left f g r a t k o e h = let P : List Symbol → Type 0 = λ k. Comes false f r k g (t ∷ a) o in finished_stuck (subst P e h)
