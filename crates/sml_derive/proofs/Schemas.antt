-- Expansions of phrases by their parts: what is written before, between and behind them.
use Rattle.std.proofs.Common.{◌≡◌, ℕ, suc, ◌+◌, List, [], ◌∷◌, ◌++◌, refl, sym, ap, subst, ◌∙◌}
use Rattle.std.specs.Prelude.{Result, Ok, Err, IfOk, OnOk}
use Rattle.std.proofs.lemmas.List.{append_assoc, append-nil}
use Rattle.sml_expansion.specs.declared.made.Made.{Made}
use Rattle.sml_expansion.specs.declared.walk.Walk.{Walk}
use Rattle.sml_expansion.specs.declared.mark.Mark.{Mark}
use Rattle.sml_expansion.specs.declared.scope.Bindings.{Bindings}
use Rattle.sml_expansion.specs.Forests.{Forest, none, count, ◌&◌}
use Rattle.sml_expansion.specs.Marks.{marks}
use Rattle.sml_expansion.specs.Makings.{Makes, gives, ◌>>=◌}
use Rattle.sml_expansion.specs.Expressions.{both}
use Rattle.sml_expansion.proofs.MarkLemmas.{marks_beside}
use Rattle.sml_derive.specs.Steps.{made, marked, behind, Writes}
use Rattle.sml_derive.proofs.Counting.{count_beside}

-- The same, as what can be matched.
pub data Is {A : Type 0} (x : A) : A → Type 0 where
  same : Is x x

pub is : {A : Type 0} {x y : A} → y ≡ x → Is x y
is {x = x} e = subst (λ z. Is x z) (sym e) same

pub marks_same : (w : Walk) (x y : List Mark) → x ≡ y → record w { marks = x } ≡ record w { marks = y }
marks_same w x y e = ap (λ l. record w { marks = l }) e

-- lists of marks one behind the other
pub gathered : (l a b c : List Mark) → ((l ++ a) ++ b) ++ c ≡ l ++ (a ++ (b ++ c))
gathered l a b c = append_assoc (l ++ a) b c ∙ append_assoc l a (b ++ c)

pub gathered_two : (l a x b y c : List Mark) → ((((l ++ a) ++ x) ++ b) ++ y) ++ c ≡ l ++ (a ++ (x ++ (b ++ (y ++ c))))
gathered_two l a x b y c = gathered ((l ++ a) ++ x) b y c ∙ gathered l a x (b ++ (y ++ c))

pub gathered_three : (l a x b y c z d : List Mark) → ((((((l ++ a) ++ x) ++ b) ++ y) ++ c) ++ z) ++ d ≡ l ++ (a ++ (x ++ (b ++ (y ++ (c ++ (z ++ d))))))
gathered_three l a x b y c z d = gathered ((((l ++ a) ++ x) ++ b) ++ y) c z d ∙ gathered_two l a x b y (c ++ (z ++ d))

-- one part
pub one_part : (F : Bindings → Makes Forest) (H : Forest → Forest) (ms : List Mark) (ns : Forest → List Mark) (w0 w1 w2 w3 : Walk)
    → ((x : Forest) → marks (H x) ≡ ms ++ (marks x ++ ns x)) → ((x : Forest) → 1 ≡ count (H x))
    → Is (marked ms w0) w1 → Is (behind (F w1.bindings) w1) w2 → Is (marked (ns (F w0.bindings w0.made).0) w2) w3
    → Writes (◌>>=◌ (F w0.bindings) (λ x. gives (H x))) w0 w3 1
one_part F H ms ns w0 _ _ _ spells single same same same =
    let f = F w0.bindings w0.made in
    record {
      walk = marks_same (record w0 { made = f.1 }) _ _ (gathered w0.marks ms (marks f.0) (ns f.0) ∙ ap (λ l. w0.marks ++ l) (sym (spells f.0)));
      written = single f.0;
    }

-- two parts
pub two_parts : (F G : Bindings → Makes Forest) (H : Forest → Forest → Forest) (ms ns os : List Mark) (w0 w1 w2 w3 w4 w5 : Walk)
    → ((x y : Forest) → marks (H x y) ≡ ms ++ (marks x ++ (ns ++ (marks y ++ os)))) → ((x y : Forest) → 1 ≡ count (H x y))
    → Is (marked ms w0) w1 → Is (behind (F w1.bindings) w1) w2 → Is (marked ns w2) w3 → Is (behind (G w3.bindings) w3) w4 → Is (marked os w4) w5
    → Writes (◌>>=◌ (F w0.bindings) (λ x. ◌>>=◌ (G w0.bindings) (λ y. gives (H x y)))) w0 w5 1
two_parts F G H ms ns os w0 _ _ _ _ _ spells single same same same same same =
    let f = F w0.bindings w0.made in
    let g = G w0.bindings f.1 in
    record {
      walk = marks_same (record w0 { made = g.1 }) _ _ (gathered_two w0.marks ms (marks f.0) ns (marks g.0) os ∙ ap (λ l. w0.marks ++ l) (sym (spells f.0 g.0)));
      written = single f.0 g.0;
    }

-- three parts
pub three_parts : (F G K : Bindings → Makes Forest) (H : Forest → Forest → Forest → Forest) (ms ns os ps : List Mark) (w0 w1 w2 w3 w4 w5 w6 w7 : Walk)
    → ((x y z : Forest) → marks (H x y z) ≡ ms ++ (marks x ++ (ns ++ (marks y ++ (os ++ (marks z ++ ps)))))) → ((x y z : Forest) → 1 ≡ count (H x y z))
    → Is (marked ms w0) w1 → Is (behind (F w1.bindings) w1) w2 → Is (marked ns w2) w3 → Is (behind (G w3.bindings) w3) w4 → Is (marked os w4) w5 → Is (behind (K w5.bindings) w5) w6 → Is (marked ps w6) w7
    → Writes (◌>>=◌ (F w0.bindings) (λ x. ◌>>=◌ (G w0.bindings) (λ y. ◌>>=◌ (K w0.bindings) (λ z. gives (H x y z))))) w0 w7 1
three_parts F G K H ms ns os ps w0 _ _ _ _ _ _ _ spells single same same same same same same same =
    let f = F w0.bindings w0.made in
    let g = G w0.bindings f.1 in
    let k = K w0.bindings g.1 in
    record {
      walk = marks_same (record w0 { made = k.1 }) _ _ (gathered_three w0.marks ms (marks f.0) ns (marks g.0) os (marks k.0) ps ∙ ap (λ l. w0.marks ++ l) (sym (spells f.0 g.0 k.0)));
      written = single f.0 g.0 k.0;
    }

pub unmarked : (w : Walk) → w ≡ marked [] w
unmarked w = marks_same w _ _ (sym (append-nil w.marks))

pub ok_so : {A E : Type 0} (r : Result A E) (P Q : A → Type 0) → ((x : A) → P x → Q x) → IfOk r P → IfOk r Q
ok_so (Ok x) P Q f h = f x h
ok_so (Err e) P Q f h = tt

pub on_so : {A E : Type 0} (r : Result A E) (P Q : Type 0) → (P → Q) → OnOk r P → OnOk r Q
on_so (Ok x) P Q f h = f h
on_so (Err e) P Q f h = tt

pub walk_of : {f : Makes Forest} {a b : Walk} {n : ℕ} → Writes f a b n → b ≡ behind f a
walk_of h = h.walk

pub nothing_behind : (w : Walk) (f : Makes Forest) → gives none ≡ f → w ≡ behind f w
nothing_behind w f e = unmarked w ∙ ap (λ g. behind g w) e
