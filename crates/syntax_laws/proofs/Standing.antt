-- What a stack accepts, by its first symbol, and what stands next.
use Rattle.std.proofs.Common.{◌≡◌, ℕ, ◌++◌, Bool, true, Option, Some, None, List, [], ◌∷◌, refl, sym, ap, ◌∙◌, subst}
use Rattle.smlc_base.specs.declared.names.Name.{Name}
use Rattle.sml_tree.specs.declared.status.Status.{Status}
use Rattle.sml_tree.specs.declared.status.Status.TheVariants as status
use Rattle.sml_syntax.specs.declared.forms.Terminal.{Terminal}
use Rattle.sml_syntax.specs.declared.forms.Terminal.TheVariants as tok
use Rattle.sml_syntax.specs.declared.forms.Made.{Made}
use Rattle.sml_syntax.specs.declared.forms.Look.{Look}
use Rattle.sml_syntax.specs.declared.forms.Look.TheVariants as look
use Rattle.sml_syntax.specs.declared.symbol.Symbol.{Symbol}
use Rattle.sml_syntax.specs.declared.symbol.Symbol.TheVariants as sy
use Rattle.sml_syntax.specs.declared.symbol.Push.{Push}
use Rattle.sml_syntax.specs.declared.symbol.Push.TheVariants.{P0, P1, P2, P3, P4, P5, P6, P7}
use Rattle.sml_syntax.specs.declared.symbol.Move.TheVariants.{Skip, Eat}
use Rattle.sml_syntax.specs.Fixity.{Fix, directive_for, name_look, looks}
use Rattle.syntax_laws.specs.Ends.{Next}
use Rattle.sml_syntax.specs.Machine.{Accepts, done, emit, skip, eat, moves, pushed, after}

-- an identifier under the directives in force
pub name_case : (f : Fix) (x : Name) (s : Bool) (P : Look → Type 0) → P (look.Plain x s) → ((l : ℕ) (r : Bool) → P (look.Operator x s l r)) → P (looks f (tok.Id x s))
name_case f x s P g h = go (directive_for f x)
  where
    go : (u : Option Status) → P (name_look x s u)
    go None = g
    go (Some status.Nonfix) = g
    go (Some (status.Infix l r)) = h l r

pub next_weaker : (q r : Look → Bool) → ((l : Look) → q l ≡ true → r l ≡ true) → (f : Fix) (a : List Terminal) → Next q f a → Next r f a
next_weaker q r w f [] n = n
next_weaker q r w f (t ∷ a) n = w (looks f t) n

pub skip_inv : {v : Bool} {s : Symbol} {p : Push} {k : List Symbol} {f : Fix} {t : Terminal} {a : List Terminal} {o : List Made} → moves v s f t a ≡ Skip p → Accepts v (s ∷ k) f (t ∷ a) o → Accepts v (pushed p k) f (t ∷ a) o
skip_inv e (emit h) = cc
skip_inv {v = v} {p = p} {k = k} {f = f} {t = t} {a = a} {o = o} e (skip {p = q} i h) = let j : q ≡ p = cc in let P : Push → Type 0 = λ p. Accepts v (pushed p k) f (t ∷ a) o in subst P j h
skip_inv e (eat i h) = cc

pub emit_inv : {v : Bool} {m : Made} {k : List Symbol} {f : Fix} {a : List Terminal} {o : List Made} → Accepts v (sy.Emit m ∷ k) f a o → (p : List Made) × (o ≡ m ∷ p) × Accepts v k f a p
emit_inv (emit h) = (_, refl, h)
emit_inv (skip e h) = cc
emit_inv (eat e h) = cc

pub eat_inv : {v : Bool} {s : Symbol} {p : Push} {k : List Symbol} {f : Fix} {t : Terminal} {a : List Terminal} {o : List Made} → moves v s f t a ≡ Eat p → Accepts v (s ∷ k) f (t ∷ a) o → Accepts v (pushed p k) (after s t f) a o
eat_inv e (emit h) = cc
eat_inv e (skip i h) = cc
eat_inv {v = v} {s = s} {p = p} {k = k} {f = f} {t = t} {a = a} {o = o} e (eat {p = q} i h) = let j : q ≡ p = cc in let P : Push → Type 0 = λ p. Accepts v (pushed p k) (after s t f) a o in subst P j h

pushed_on : (p : Push) (j k : List Symbol) → pushed p (j ++ k) ≡ pushed p j ++ k
pushed_on P0 j k = refl
pushed_on (P1 a) j k = refl
pushed_on (P2 a b) j k = refl
pushed_on (P3 a b c) j k = refl
pushed_on (P4 a b c d) j k = refl
pushed_on (P5 a b c d e) j k = refl
pushed_on (P6 a b c d e g) j k = refl
pushed_on (P7 a b c d e g h) j k = refl

-- all that the first stack accepts, the second accepts
abbrev pub Grows : Bool → List Symbol → List Symbol → Type 0
Grows v k l = (f : Fix) (a : List Terminal) (o : List Made) → Accepts v k f a o → Accepts v l f a o

-- symbols on top of a stack leave a larger one larger
grow_on : {v : Bool} {m : List Symbol} {f : Fix} {a : List Terminal} {o : List Made} (k l : List Symbol) → Grows v k l → Accepts v m f a o → (j : List Symbol) → m ≡ j ++ k → Accepts v (j ++ l) f a o
grow_on {v = v} {f = f} k l w done [] e = let P : List Symbol → Type 0 = λ m. Accepts v m f [] [] in w f [] [] (subst P e done)
grow_on {v = v} {f = f} {a = a} k l w (emit {m = x} {k = n} {o = o} h) [] e = let P : List Symbol → Type 0 = λ m. Accepts v m f a (x ∷ o) in w f a (x ∷ o) (subst P e (emit h))
grow_on {v = v} {f = f} {o = o} k l w (skip {t = t} {a = a} i h) [] e = let P : List Symbol → Type 0 = λ m. Accepts v m f (t ∷ a) o in w f (t ∷ a) o (subst P e (skip i h))
grow_on {v = v} {f = f} {o = o} k l w (eat {t = t} {a = a} i h) [] e = let P : List Symbol → Type 0 = λ m. Accepts v m f (t ∷ a) o in w f (t ∷ a) o (subst P e (eat i h))
grow_on k l w done (s ∷ j) e = cc
grow_on {v = v} {f = f} {a = a} k l w (emit {m = x} {k = n} {o = o} h) (s ∷ j) e =
    let d : n ≡ j ++ k = cc in
    let i : sy.Emit x ≡ s = cc in
    let P : Symbol → Type 0 = λ s. Accepts v (s ∷ (j ++ l)) f a (x ∷ o) in
    subst P i (emit (grow_on k l w h j d))
grow_on {v = v} {f = f} {o = o} k l w (skip {s = r} {p = p} {k = n} {t = t} {a = a} i h) (s ∷ j) e =
    let d : n ≡ j ++ k = cc in
    let q : r ≡ s = cc in
    let P : Symbol → Type 0 = λ s. Accepts v (s ∷ (j ++ l)) f (t ∷ a) o in
    let Q : List Symbol → Type 0 = λ n. Accepts v n f (t ∷ a) o in
    subst P q (skip i (subst Q (sym (pushed_on p j l)) (grow_on k l w h (pushed p j) (ap (pushed p) d ∙ pushed_on p j k))))
grow_on {v = v} {f = f} {o = o} k l w (eat {s = r} {p = p} {k = n} {t = t} {a = a} i h) (s ∷ j) e =
    let d : n ≡ j ++ k = cc in
    let q : r ≡ s = cc in
    let P : Symbol → Type 0 = λ s. Accepts v (s ∷ (j ++ l)) f (t ∷ a) o in
    let Q : List Symbol → Type 0 = λ n. Accepts v n (after r t f) a o in
    subst P q (eat i (subst Q (sym (pushed_on p j l)) (grow_on k l w h (pushed p j) (ap (pushed p) d ∙ pushed_on p j k))))

pub grow : {v : Bool} {f : Fix} {a : List Terminal} {o : List Made} (j k l : List Symbol) → Grows v k l → Accepts v (j ++ k) f a o → Accepts v (j ++ l) f a o
grow j k l w h = grow_on k l w h j refl
