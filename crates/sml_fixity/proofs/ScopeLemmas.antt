-- Directives in force: one more, and one less.
use Rattle.std.proofs.Common.{arith, ◌≡◌, ◌≢◌, ℕ, suc, zero, ◌+◌, ◌<◌, ◌≤◌, ◌-◌, ◌++◌, take, drop, length-drop, Bool, true, false, cond, nat_eq, nat_lt, ◌||◌, slice_set, get_or, append-nil, append_assoc, Option, Some, None, List, [], ◌∷◌, length, refl, sym, ◌∙◌, ap, subst}
use Rattle.std.proofs.lemmas.Bool.Decides.{nat_tests}
use Rattle.std.proofs.lemmas.List.{get_or_past, get_or-set_same, get_or-set_other, length-set, take_more, get_or-drop}
use Rattle.std.proofs.lemmas.List.Sums.{sum_by-cons, sum_by-set, get_or-le-sum_by}
use Rattle.smlc_base.specs.declared.names.Name.{Name}
use Rattle.sml_tree.specs.declared.status.Status.{Status}
use Rattle.sml_tree.specs.declared.status.Status.TheVariants as status
use Rattle.sml_syntax.specs.declared.forms.Directive.{Directive}
use Rattle.sml_syntax.specs.Fixity.{Fix, directive_for, or_else}
use Rattle.sml_syntax.specs.Machine.{has_infix, infix_among, is_infix}
use Rattle.sml_fixity.specs.Scopes.{hidden, Keeps}
use Rattle.sml_fixity.specs.Statuses.{infix_weight, status_at, tally}

or_else_behind : (b : Bool) (u : Status) (o : Option Status) (d : Directive) (y : Name) → or_else (cond b (Some u) o) d y ≡ cond b (Some u) (or_else o d y)
or_else_behind true u o d y = refl
or_else_behind false u o d y = refl

-- the directive behind f counts first
pub directive_behind : (f : Fix) (e : Directive) (y : Name) → directive_for (f ++ e ∷ []) y ≡ cond (nat_eq e.name.0 y.0) (Some e.status) (directive_for f y)
directive_behind [] e y = refl
directive_behind (d ∷ f) e y = ap (λ o. or_else o d y) (directive_behind f e y) ∙ or_else_behind (nat_eq e.name.0 y.0) e.status (directive_for f y) d y

hidden_behind : (f g : Fix) (e : Directive) → hidden f (g ++ e ∷ []) ≡ hidden f g ++ directive_for (f ++ g) e.name ∷ []
hidden_behind f [] e = ap (λ (g : Fix). directive_for g e.name ∷ []) (sym (append-nil f))
hidden_behind f (d ∷ g) e = ap (λ (o : List (Option Status)). directive_for f d.name ∷ o) (hidden_behind (f ++ d ∷ []) g e ∙ ap (λ (k : Fix). hidden (f ++ d ∷ []) g ++ directive_for k e.name ∷ []) (append_assoc f (d ∷ []) g))

snoc_parts : {A : Type 0} (xs ys : List A) (x y : A) → xs ++ x ∷ [] ≡ ys ++ y ∷ [] → (xs ≡ ys) × (x ≡ y)
snoc_parts [] [] x y e = (refl, cc)
snoc_parts [] (b ∷ []) x y e = absurd (let h : 1 ≡ 2 = ap length e in omega (arith, h))
snoc_parts [] (b ∷ c ∷ ys) x y e = absurd (let h : 1 ≡ suc (suc (length (ys ++ y ∷ []))) = ap length e in omega (arith, h))
snoc_parts (a ∷ []) [] x y e = absurd (let h : 2 ≡ 1 = ap length e in omega (arith, h))
snoc_parts (a ∷ c ∷ xs) [] x y e = absurd (let h : suc (suc (length (xs ++ x ∷ []))) ≡ 1 = ap length e in omega (arith, h))
snoc_parts (a ∷ xs) (b ∷ ys) x y e =
    let h : xs ++ x ∷ [] ≡ ys ++ y ∷ [] = cc in
    let k : a ≡ b = cc in
    let (i, j) = snoc_parts xs ys x y h in
    let l : a ∷ xs ≡ b ∷ ys = cc in
    (l, j)

set_at : (b : Bool) (s : List (Option Status)) (i j : ℕ) (v : Option Status) → nat_eq i j ≡ b → i < length s → status_at (slice_set s i v) j ≡ cond b v (status_at s j)
set_at true s i j v e h = let k : i ≡ j = grind (arith, nat_tests) in subst (λ (m : ℕ). status_at (slice_set s i v) m ≡ v) k (get_or-set_same s i v None h)
set_at false s i j v e h = let k : j ≢ i = grind (arith, nat_tests) in get_or-set_other s i j v None k

-- one more directive
pub keeps_more : (f g : Fix) (s t u h k : List (Option Status)) (e : Directive) → Keeps f s h → ((i : ℕ) → status_at t i ≡ status_at s i) → e.name.0 < length t → g ≡ f ++ e ∷ [] → u ≡ slice_set t e.name.0 (Some e.status) → k ≡ h ++ status_at t e.name.0 ∷ [] → Keeps g u k
keeps_more f g s t u h k e kept same room is_g is_u is_k = record {
  table = λ x.
      let at : status_at u x.0 ≡ cond (nat_eq e.name.0 x.0) (Some e.status) (status_at t x.0) = ap (λ (u : List (Option Status)). status_at u x.0) is_u ∙ set_at (nat_eq e.name.0 x.0) t e.name.0 x.0 (Some e.status) refl room in
      at ∙ ap (λ o. cond (nat_eq e.name.0 x.0) (Some e.status) o) (same x.0 ∙ kept.table x) ∙ sym (directive_behind f e x) ∙ ap (λ (g : Fix). directive_for g x) (sym is_g);
  log = is_k ∙ ap (λ o. h ++ o ∷ []) (same e.name.0 ∙ kept.table e.name) ∙ ap (λ o. o ++ directive_for f e.name ∷ []) kept.log ∙ sym (hidden_behind [] f e) ∙ ap (hidden []) (sym is_g);
}

name_same : (n : ℕ) → nat_eq n n ≡ true
name_same n = grind (arith, nat_tests)

-- the latest directive has room in the table
pub keeps_room : (f g : Fix) (s h : List (Option Status)) (e : Directive) → Keeps g s h → g ≡ f ++ e ∷ [] → e.name.0 < length s
keeps_room f g s h e kept is_g = go (nat_lt e.name.0 (length s)) refl
  where
    found : status_at s e.name.0 ≡ Some e.status
    found = kept.table e.name ∙ ap (λ (g : Fix). directive_for g e.name) is_g ∙ directive_behind f e e.name ∙ ap (λ b. cond b (Some e.status) (directive_for f e.name)) (name_same e.name.0)

    go : (b : Bool) → nat_lt e.name.0 (length s) ≡ b → e.name.0 < length s
    go true q = grind (arith, nat_tests)
    go false q = let n : length s ≤ e.name.0 = grind (arith, nat_tests) in let z : None ≡ Some e.status = sym (get_or_past s e.name.0 None n) ∙ found in absurd cc

-- one directive less
pub keeps_less : (f g : Fix) (s u h k : List (Option Status)) (e : Directive) (v : Option Status) → Keeps g s k → g ≡ f ++ e ∷ [] → k ≡ h ++ v ∷ [] → u ≡ slice_set s e.name.0 v → Keeps f u h
keeps_less f g s u h k e v kept is_g is_k is_u =
    let (logs, hid) = snoc_parts h (hidden [] f) v (directive_for f e.name) (sym is_k ∙ kept.log ∙ ap (hidden []) is_g ∙ hidden_behind [] f e) in
    record {
      table = λ x. ap (λ (u : List (Option Status)). status_at u x.0) is_u ∙ set_at (nat_eq e.name.0 x.0) s e.name.0 x.0 v refl (keeps_room f g s k e kept is_g) ∙ go (nat_eq e.name.0 x.0) x refl hid;
      log = logs;
    }
  where
    go : (b : Bool) (x : Name) → nat_eq e.name.0 x.0 ≡ b → v ≡ directive_for f e.name → cond b v (status_at s x.0) ≡ directive_for f x
    go true x q w = let same : e.name.0 ≡ x.0 = grind (arith, nat_tests) in w ∙ ap (λ (n : ℕ). directive_for f (record { 0 = n })) same
    go false x q w = kept.table x ∙ ap (λ (g : Fix). directive_for g x) is_g ∙ directive_behind f e x ∙ ap (λ b. cond b (Some e.status) (directive_for f x)) q

-- some identifier has infix status exactly where the table counts one

infix_counts : (o : Option Status) → is_infix o ≡ true → infix_weight o ≡ 1
infix_counts (Some (status.Infix l r)) e = refl
infix_counts (Some status.Nonfix) e = cc
infix_counts None e = cc

counts_infix : (o : Option Status) → 0 < infix_weight o → is_infix o ≡ true
counts_infix (Some (status.Infix l r)) e = refl
counts_infix (Some status.Nonfix) e = absurd (omega arith)
counts_infix None e = absurd (omega arith)

counted_at : (o : Option Status) (s : List (Option Status)) (w : ℕ) → infix_weight o ≡ w → 0 < tally (o ∷ s) → (0 < tally s → (i : ℕ) × (0 < infix_weight (status_at s i))) → (i : ℕ) × (0 < infix_weight (status_at (o ∷ s) i))
counted_at o s zero e h g = let sum : tally (o ∷ s) ≡ infix_weight o + tally s = sum_by-cons infix_weight o s in let less : 0 < tally s = omega (arith, e, h, sum) in let (i, k) = g less in (suc i, k)
counted_at o s (suc w) e h g = (0, omega (arith, e))

some_counted : (s : List (Option Status)) → 0 < tally s → (i : ℕ) × (0 < infix_weight (status_at s i))
some_counted [] h = absurd (omega arith)
some_counted (o ∷ s) h = counted_at o s (infix_weight o) refl h (λ k. some_counted s k)

counted_name : (f : Fix) (x : Name) (s : List (Option Status)) → ((x : Name) → status_at s x.0 ≡ directive_for f x) → is_infix (directive_for f x) ≡ true → (b : Bool) → nat_lt x.0 (length s) ≡ b → 0 < tally s
counted_name f x s same q true r =
    let one : infix_weight (status_at s x.0) ≡ 1 = ap infix_weight (same x) ∙ infix_counts (directive_for f x) q in
    let room : x.0 < length s = grind (arith, nat_tests) in
    let most = get_or-le-sum_by infix_weight s x.0 None room in omega arith
counted_name f x s same q false r =
    let one : infix_weight (status_at s x.0) ≡ 1 = ap infix_weight (same x) ∙ infix_counts (directive_for f x) q in
    let past : length s ≤ x.0 = grind (arith, nat_tests) in
    let none : infix_weight (status_at s x.0) ≡ 0 = ap infix_weight (get_or_past s x.0 None past) in absurd (omega arith)

among_at : (f g : Fix) (d : Directive) (s : List (Option Status)) → ((x : Name) → status_at s x.0 ≡ directive_for f x) → (infix_among f g ≡ true → 0 < tally s) → (b : Bool) → is_infix (directive_for f d.name) ≡ b → b || infix_among f g ≡ true → 0 < tally s
among_at f g d s same h true q w = counted_name f d.name s same q (nat_lt d.name.0 (length s)) refl
among_at f g d s same h false q w = h w

among_counts : (f g : Fix) (s : List (Option Status)) → ((x : Name) → status_at s x.0 ≡ directive_for f x) → infix_among f g ≡ true → 0 < tally s
among_counts f [] s same e = cc
among_counts f (d ∷ g) s same e = among_at f g d s same (λ k. among_counts f g s same k) (is_infix (directive_for f d.name)) refl e

or_true : (b : Bool) → b || true ≡ true
or_true true = refl
or_true false = refl

named_at : (f g : Fix) (d : Directive) (x : Name) (o p : Option Status) (b : Bool) → is_infix (directive_for f x) ≡ true → is_infix o ≡ true → (is_infix p ≡ true → infix_among f g ≡ true) → nat_eq d.name.0 x.0 ≡ b → or_else p d x ≡ o → is_infix (directive_for f d.name) || infix_among f g ≡ true
named_at f g d x o (Some u) b q w h s v = ap (λ b. is_infix (directive_for f d.name) || b) (h (ap is_infix v ∙ w)) ∙ or_true (is_infix (directive_for f d.name))
named_at f g d x o None true q w h s v = let same : d.name.0 ≡ x.0 = grind (arith, nat_tests) in ap (λ b. b || infix_among f g) (ap (λ (n : ℕ). is_infix (directive_for f (record { 0 = n }))) same ∙ q)
named_at f g d x o None false q w h s v = let z : None ≡ o = ap (λ b. cond b (Some d.status) None) (sym s) ∙ v in let y : is_infix None ≡ true = ap is_infix z ∙ w in cc

named_among : (f g : Fix) (x : Name) (o : Option Status) → is_infix (directive_for f x) ≡ true → directive_for g x ≡ o → is_infix o ≡ true → infix_among f g ≡ true
named_among f [] x o q e w = let z : is_infix None ≡ true = ap is_infix e ∙ w in cc
named_among f (d ∷ g) x o q e w = named_at f g d x o (directive_for g x) (nat_eq d.name.0 x.0) q w (λ k. named_among f g x (directive_for g x) q refl k) refl e

pub infix_counted : (f : Fix) (s h : List (Option Status)) → Keeps f s h → nat_lt 0 (tally s) ≡ has_infix f
infix_counted f s h kept = go (has_infix f) (nat_lt 0 (tally s)) refl refl
  where
    go : (b c : Bool) → has_infix f ≡ b → nat_lt 0 (tally s) ≡ c → c ≡ b
    go true true e k = refl
    go false false e k = refl
    go true false e k = let m = among_counts f f s kept.table e in let z : tally s ≤ 0 = grind (arith, nat_tests) in absurd (omega arith)
    go false true e k =
        let m : 0 < tally s = grind (arith, nat_tests) in
        let (i, w) = some_counted s m in
        let x : Name = record { 0 = i } in
        let q = ap is_infix (sym (kept.table x)) ∙ counts_infix (status_at s i) w in
        let n = named_among f f x (directive_for f x) q refl q in absurd cc

-- the tally is at most the length
weight_small : (o : Option Status) → infix_weight o ≤ 1
weight_small (Some (status.Infix l r)) = omega arith
weight_small (Some status.Nonfix) = omega arith
weight_small None = omega arith

pub tally_small : (s : List (Option Status)) → tally s ≤ length s
tally_small [] = omega arith
tally_small (o ∷ s) = let e : tally (o ∷ s) ≡ infix_weight o + tally s = sum_by-cons infix_weight o s in let h = weight_small o in let k = tally_small s in omega (arith, e, h, k)

-- one item more is counted where one that counted nothing becomes one that counts
pub tally_more : (s : List (Option Status)) (i : ℕ) (d new : Option Status) → i < length s → nat_eq (infix_weight (get_or s i d)) 1 ≡ false → nat_eq (infix_weight new) 1 ≡ true → tally s + 1 ≤ length s
tally_more s i d new h e k =
    let sum : tally (slice_set s i new) + infix_weight (get_or s i d) ≡ tally s + infix_weight new = sum_by-set infix_weight s i new d h in
    let most = tally_small (slice_set s i new) in
    let small = weight_small (get_or s i d) in
    let same : length (slice_set s i new) ≡ length s = length-set s i new in
    grind (arith, nat_tests, sum, most, small, same)

pub take_on : {X : Type 0} (xs : List X) (from i : ℕ) (d : X) → from ≤ i → i < length xs → take (i + 1 - from) (drop from xs) ≡ take (i - from) (drop from xs) ++ get_or xs i d ∷ []
take_on xs from i d h k =
    let n : i + 1 - from ≡ (i - from) + 1 = omega arith in
    let room : i - from < length (drop from xs) = let l : length (drop from xs) ≡ length xs - from = length-drop from xs in omega (arith, l) in
    ap (λ (n : ℕ). take n (drop from xs)) n ∙ take_more (drop from xs) (i - from) d room ∙ ap (λ x. take (i - from) (drop from xs) ++ x ∷ []) (get_or-drop from xs (i - from) d ∙ ap (λ (j : ℕ). get_or xs j d) (omega arith))
