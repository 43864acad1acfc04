-- What the machine accepts with some nodes, whatever numbers they carry.
use Rattle.std.proofs.Common.{◌≡◌, ℕ, Bool, List, [], ◌∷◌, length, refl, sym, ap, ◌∙◌, subst}
use Rattle.sml_syntax.specs.declared.forms.Terminal.{Terminal}
use Rattle.sml_syntax.specs.declared.forms.Made.{Made}
use Rattle.sml_syntax.specs.declared.symbol.Symbol.{Symbol}
use Rattle.sml_syntax.specs.declared.symbol.Symbol.TheVariants as sy
use Rattle.sml_syntax.specs.declared.symbol.Push.{Push}
use Rattle.sml_syntax.specs.declared.symbol.Push.TheVariants.{P0, P1, P2, P3, P4, P5, P6, P7}
use Rattle.sml_syntax.specs.declared.symbol.Move.{Move}
use Rattle.sml_syntax.specs.declared.symbol.Move.TheVariants.{Refuse, Mixed, Skip, Eat}
use Rattle.sml_syntax.specs.Fixity.{Fix, looks}
use Rattle.sml_syntax.specs.Machine.{Accepts, done, emit, skip, eat, pushed, after, has_infix}
use Rattle.syntax_laws.proofs.Lawful.{bare, bare_move, bare_push, numbered}
use Rattle.syntax_laws.proofs.Kept.{at_number}

-- what a stack accepts, where each node may carry any number
pub data Takes (v : Bool) : List Symbol → Fix → List Terminal → Type 0 where
  ends : {f : Fix} → Takes v [] f []
  makes : {m : Made} {k : List Symbol} {f : Fix} {a : List Terminal} → Takes v k f a → Takes v (sy.Emit m ∷ k) f a
  keeps : {s : Symbol} {p : Push} {k : List Symbol} {f : Fix} {t : Terminal} {a : List Terminal} (n : ℕ) → at_number v s f t n ≡ Skip p → Takes v (pushed p k) f (t ∷ a) → Takes v (s ∷ k) f (t ∷ a)
  reads : {s : Symbol} {p : Push} {k : List Symbol} {f : Fix} {t : Terminal} {a : List Terminal} (n : ℕ) → at_number v s f t n ≡ Eat p → Takes v (pushed p k) (after s t f) a → Takes v (s ∷ k) f (t ∷ a)

abbrev pub bares : List Symbol → List Symbol
bares [] = []
bares (s ∷ k) = bare s ∷ bares k

bares_of : (p : Push) (k : List Symbol) → bares (pushed p k) ≡ pushed (bare_push p) (bares k)
bares_of P0 k = refl
bares_of (P1 a) k = refl
bares_of (P2 a b) k = refl
bares_of (P3 a b c) k = refl
bares_of (P4 a b c d) k = refl
bares_of (P5 a b c d e) k = refl
bares_of (P6 a b c d e g) k = refl
bares_of (P7 a b c d e g h) k = refl

bares_pushed : (p q : Push) (k l : List Symbol) → bare_push p ≡ bare_push q → bares k ≡ bares l → bares (pushed p k) ≡ bares (pushed q l)
bares_pushed p q k l e u = bares_of p k ∙ ap (λ p. pushed p (bares k)) e ∙ ap (λ k. pushed (bare_push q) k) u ∙ sym (bares_of q l)

-- symbols that differ in numbers alone have such moves
pub bare_moves : (v : Bool) (s r : Symbol) (f : Fix) (t : Terminal) (n m : ℕ) → bare s ≡ bare r → bare_move (at_number v s f t n) ≡ bare_move (at_number v r f t m)
bare_moves v s r f t n m e = numbered v (length f) n (looks f t) s (has_infix f) ∙ ap (λ s. bare_move (at_number v s f t 0)) e ∙ sym (numbered v (length f) m (looks f t) r (has_infix f))

bare_skip : (w : Move) (p : Push) → bare_move w ≡ Skip (bare_push p) → (q : Push) × (w ≡ Skip q) × (bare_push p ≡ bare_push q)
bare_skip (Skip q) p e = (q, refl, cc)
bare_skip _ p e = cc

bare_eat : (w : Move) (p : Push) → bare_move w ≡ Eat (bare_push p) → (q : Push) × (w ≡ Eat q) × (bare_push p ≡ bare_push q)
bare_eat (Eat q) p e = (q, refl, cc)
bare_eat _ p e = cc

bare_after : (s : Symbol) (t : Terminal) (f : Fix) → after (bare s) t f ≡ after s t f
bare_after (sy.Vids u) t f = refl
bare_after _ t f = refl

same_after : (s r : Symbol) (t : Terminal) (f : Fix) → bare s ≡ bare r → after s t f ≡ after r t f
same_after s r t f e = sym (bare_after s t f) ∙ ap (λ s. after s t f) e ∙ bare_after r t f

emits_only : (m : Made) (s : Symbol) → bare (sy.Emit m) ≡ bare s → (n : Made) × (s ≡ sy.Emit n)
emits_only m (sy.Emit n) e = (n, refl)
emits_only m _ e = cc

abbrev Accepted : Bool → List Symbol → Fix → List Terminal → Type 0
Accepted v k f a = (o : List Made) × Accepts v k f a o

pub accepted : {v : Bool} {k : List Symbol} {f : Fix} {a : List Terminal} → Takes v k f a → (l : List Symbol) → bares k ≡ bares l → Accepted v l f a
accepted ends [] e = ([], done)
accepted ends (s ∷ l) e = cc
accepted (makes h) [] e = cc
accepted {v = v} {f = f} {a = a} (makes {m = m} h) (s ∷ l) e =
    let d : bare (sy.Emit m) ≡ bare s = cc in
    let (n, q) = emits_only m s d in
    let (o, g) = accepted h l cc in
    let P : Symbol → Type 0 = λ s. Accepted v (s ∷ l) f a in
    subst P (sym q) (n ∷ o, emit g)
accepted (keeps n i h) [] e = cc
accepted {v = v} (keeps {s = r} {p = p} {k = k} {f = f} {t = t} {a = a} n i h) (s ∷ l) e =
    let d : bare s ≡ bare r = cc in
    let (q, j, c) = bare_skip (at_number v s f t (length (t ∷ a))) p (bare_moves v s r f t (length (t ∷ a)) n d ∙ ap bare_move i) in
    let (o, g) = accepted h (pushed q l) (bares_pushed p q k l c cc) in
    (o, skip {o = o} j g)
accepted (reads n i h) [] e = cc
accepted {v = v} (reads {s = r} {p = p} {k = k} {f = f} {t = t} {a = a} n i h) (s ∷ l) e =
    let d : bare s ≡ bare r = cc in
    let (q, j, c) = bare_eat (at_number v s f t (length (t ∷ a))) p (bare_moves v s r f t (length (t ∷ a)) n d ∙ ap bare_move i) in
    let (o, g) = accepted h (pushed q l) (bares_pushed p q k l c cc) in
    let P : Fix → Type 0 = λ f. Accepts v (pushed q l) f a o in
    (o, eat {o = o} j (subst P (sym (same_after s r t f d)) g))

pub taken : {v : Bool} {k : List Symbol} {f : Fix} {a : List Terminal} {o : List Made} → Accepts v k f a o → Takes v k f a
taken done = ends
taken (emit h) = makes (taken h)
taken (skip {t = t} {a = a} e h) = keeps (length (t ∷ a)) e (taken h)
taken (eat {t = t} {a = a} e h) = reads (length (t ∷ a)) e (taken h)

retaken : {v : Bool} {k : List Symbol} {f : Fix} {a : List Terminal} (l : List Symbol) → bares k ≡ bares l → Takes v k f a → Takes v l f a
retaken l e h = taken (accepted h l e).1

-- what the top symbol does, taken back
pub makes_back : {v : Bool} {m : Made} {k : List Symbol} {f : Fix} {a : List Terminal} → Takes v (sy.Emit m ∷ k) f a → Takes v k f a
makes_back (makes h) = h
makes_back (keeps n e h) = cc
makes_back (reads n e h) = cc

pub keeps_back : {v : Bool} {s : Symbol} {p : Push} {k : List Symbol} {f : Fix} {t : Terminal} {a : List Terminal} (n : ℕ) → at_number v s f t n ≡ Skip p → Takes v (s ∷ k) f (t ∷ a) → Takes v (pushed p k) f (t ∷ a)
keeps_back n e (makes h) = cc
keeps_back {v = v} {s = s} {p = p} {k = k} {f = f} {t = t} n e (keeps {p = q} m i h) =
    let (r, j, c) = bare_skip (at_number v s f t n) q (bare_moves v s s f t n m refl ∙ ap bare_move i) in
    let d : bare_push q ≡ bare_push p = cc in
    retaken (pushed p k) (bares_pushed q p k k d refl) h
keeps_back {v = v} {s = s} {f = f} {t = t} n e (reads m i h) = let c = sym (ap bare_move e) ∙ bare_moves v s s f t n m refl ∙ ap bare_move i in cc

pub reads_back : {v : Bool} {s : Symbol} {p : Push} {k : List Symbol} {f : Fix} {t : Terminal} {a : List Terminal} (n : ℕ) → at_number v s f t n ≡ Eat p → Takes v (s ∷ k) f (t ∷ a) → Takes v (pushed p k) (after s t f) a
reads_back n e (makes h) = cc
reads_back {v = v} {s = s} {f = f} {t = t} n e (keeps m i h) = let c = sym (ap bare_move e) ∙ bare_moves v s s f t n m refl ∙ ap bare_move i in cc
reads_back {v = v} {s = s} {p = p} {k = k} {f = f} {t = t} n e (reads {p = q} m i h) =
    let (r, j, c) = bare_eat (at_number v s f t n) q (bare_moves v s s f t n m refl ∙ ap bare_move i) in
    let d : bare_push q ≡ bare_push p = cc in
    retaken (pushed p k) (bares_pushed q p k k d refl) h

abbrev pub Stuck : Move → Type 0
Stuck Refuse = Unit {0}
Stuck Mixed = Unit {0}
Stuck w = ⊥

-- where the symbol has no move, nothing is taken
pub stuck : {v : Bool} {s : Symbol} {k : List Symbol} {f : Fix} {t : Terminal} {a : List Terminal} (n : ℕ) → ((m : Made) → s ≡ sy.Emit m → ⊥) → Stuck (bare_move (at_number v s f t n)) → Takes v (s ∷ k) f (t ∷ a) → ⊥
stuck n u w (makes h) = u _ refl
stuck {v = v} {s = s} {f = f} {t = t} n u w (keeps m i h) = subst Stuck (bare_moves v s s f t n m refl ∙ ap bare_move i) w
stuck {v = v} {s = s} {f = f} {t = t} n u w (reads m i h) = subst Stuck (bare_moves v s s f t n m refl ∙ ap bare_move i) w
