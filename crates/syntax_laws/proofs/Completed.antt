-- Each good configuration has a completion: each symbol is replaced along its shortest one.
use Rattle.std.proofs.Common.{arith, ◌≡◌, ℕ, zero, suc, ◌++◌, ◌≤◌, ◌<◌, ◌+◌, nat_lt, Bool, true, false, ◌&&◌, ◌||◌, not, Option, Some, None, List, [], ◌∷◌, length, refl, sym, ap, subst}
use Rattle.std.proofs.lemmas.Bool.{and_parts, and_from}
use Rattle.std.proofs.lemmas.Bool.Decides.{nat_tests}
use Rattle.smlc_base.specs.declared.names.Name.{Name}
use Rattle.sml_tree.specs.declared.status.Status.{Status}
use Rattle.sml_tree.specs.declared.status.Status.TheVariants as status
use Rattle.sml_tree.specs.declared.tree_node.TreeNode.TheVariants as node
use Rattle.sml_syntax.specs.declared.forms.Terminal.{Terminal}
use Rattle.sml_syntax.specs.declared.forms.Terminal.TheVariants as tok
use Rattle.sml_syntax.specs.declared.forms.Made.{Made}
use Rattle.sml_syntax.specs.declared.forms.Made.TheVariants as made
use Rattle.sml_syntax.specs.declared.forms.Root.TheVariants as root
use Rattle.sml_syntax.specs.declared.forms.Look.{Look}
use Rattle.sml_syntax.specs.declared.forms.Look.TheVariants as look
use Rattle.sml_syntax.specs.declared.symbol.Symbol.{Symbol}
use Rattle.sml_syntax.specs.declared.symbol.Symbol.TheVariants as sy
use Rattle.sml_syntax.specs.declared.symbol.Push.{Push}
use Rattle.sml_syntax.specs.declared.symbol.Push.TheVariants.{P1, P2, P3}
use Rattle.sml_syntax.specs.declared.symbol.Move.{Move}
use Rattle.sml_syntax.specs.declared.symbol.Move.TheVariants.{Refuse, Mixed, Skip, Eat}
use Rattle.sml_syntax.specs.Fixity.{Fix, directive_for, looks, name_look}
use Rattle.sml_syntax.specs.Moves.{at_ty_con, at_vids}
use Rattle.sml_syntax.specs.Machine.{after, has_infix, infix_among, is_infix, move_of, pushed}
use Rattle.syntax_laws.specs.Traits.{anyhow, at_equals, at_of, Choice, closing, given, gives, is_needy, makes_node, met, needs, next, nobody, nothing, Opening, opening, opens, operators, pattern_operators, reaches, standing, Standing, suits, takes, takes_name, takes_operator, traits, vanishes}
use Rattle.syntax_laws.specs.Steps.{at, Good}
use Rattle.syntax_laws.proofs.Standing.{name_case}
use Rattle.syntax_laws.proofs.Lawful.{listed}
use Rattle.syntax_laws.proofs.Kept.{at_number, below_top, eat_good, listed_on, or_right, popped, reaches_on, skip_good}
use Rattle.syntax_laws.proofs.Taken.{ends, keeps, makes, reads, Takes}

-- what the shortest completions of these symbols cost
abbrev total : List Symbol → ℕ
total [] = 0
total (s ∷ k) = (traits s).cost + total k

total_on : (j k : List Symbol) → total (j ++ k) ≡ total j + total k
total_on [] k = omega arith
total_on (s ∷ j) k = omega (arith, total_on j k)

costs : (s : Symbol) → 0 < (traits s).cost
costs sy.Program = omega arith
costs _ = omega arith

abbrev first : List Symbol → Choice
first [] = vanishes
first (s ∷ k) = (traits s).choice

abbrev goes_by : Choice → Bool
goes_by vanishes = true
goes_by (opens d) = true
goes_by c = false

abbrev is_vanishing : Symbol → Bool
is_vanishing s = goes_by (traits s).choice

abbrev makes_by : Choice → Bool
makes_by makes_node = true
makes_by c = false

abbrev is_node : Symbol → Bool
is_node s = makes_by (traits s).choice

-- the symbol vanishes before a terminal that is as good as w
abbrev fades : Opening → Symbol → Bool
fades w s = is_node s || (is_vanishing s && reaches (met (traits s).wants) w)

abbrev vanishing : Opening → List Symbol → Bool
vanishing w [] = true
vanishing w (s ∷ k) = fades w s && vanishing w k

-- the move that completes a symbol leads to symbols that cost less
abbrev lowers : Symbol → Move → Bool
lowers s (Skip p) = nat_lt (total (listed p)) (traits s).cost
lowers s (Eat p) = nat_lt (total (listed p)) (traits s).cost
lowers s w = false

-- where the terminal isn't taken, the next symbol begins with it
abbrev led_to : Choice → Move → Choice
led_to c (Skip p) = first (listed p)
led_to c w = c

abbrev is_name : Choice → Bool
is_name (takes (tok.Id x s)) = true
is_name c = false

-- a symbol that can vanish leaves such symbols, that cost less
abbrev leaves : Symbol → Move → Bool
leaves s (Skip p) = vanishing (met (traits s).wants) (listed p) && nat_lt (total (listed p)) (traits s).cost
leaves s w = false

-- at each terminal that ends a phrase
abbrev OnEach : (Terminal → Bool) → Type 0
OnEach q = (q tok.Equals ≡ true) × (q tok.Of ≡ true) × (q tok.In ≡ true) × (q tok.End ≡ true) × (q tok.Then ≡ true) × (q tok.Else ≡ true) × (q tok.Do ≡ true) × (q tok.Arrow ≡ true) × (q tok.Close ≡ true) × (q tok.CloseBracket ≡ true) × (q tok.CloseBrace ≡ true) × (q tok.Finish ≡ true)

on_all : OnEach (λ t. true)
on_all = (refl, refl, refl, refl, refl, refl, refl, refl, refl, refl, refl, refl)

on_each : (q : Terminal → Bool) → OnEach q → (t : Terminal) → (opening t ≡ anyhow → ⊥) → q t ≡ true
on_each q h tok.Equals n = h.0
on_each q h tok.Of n = h.1
on_each q h tok.In n = h.2
on_each q h tok.End n = h.3
on_each q h tok.Then n = h.4
on_each q h tok.Else n = h.5
on_each q h tok.Do n = h.6
on_each q h tok.Arrow n = h.7
on_each q h tok.Close n = h.8
on_each q h tok.CloseBracket n = h.9
on_each q h tok.CloseBrace n = h.10
on_each q h tok.Finish n = h.11
on_each q h _ n = absurd (n refl)

module _ (v i : Bool) (k : ℕ) where
  abbrev onward : Symbol → Choice → Bool
  onward s (takes t) = lowers s (move_of v s i k 0 (look.Other t))
  onward s c = true

  abbrev follows : Symbol → Choice → Choice
  follows s (takes t) = led_to (takes t) (move_of v s i k 0 (look.Other t))
  follows s c = c

  chosen : (s : Symbol) → (onward s (traits s).choice ≡ true) × (follows s (traits s).choice ≡ (traits s).choice) × (is_name (traits s).choice ≡ false)
  chosen sy.Program = (refl, refl, refl)
  chosen _ = (refl, refl, refl)

  -- a symbol that can vanish vanishes before each terminal that is as good as what it wants
  abbrev gone : Symbol → Terminal → Bool
  gone s t = not (is_vanishing s) || (not (reaches (met (traits s).wants) (opening t)) || leaves s (move_of v s i k 0 (look.Other t)))

  goes : (s : Symbol) → OnEach (gone s)
  goes (sy.Ops root.Bare) = on_all
  goes (sy.PatOps root.Bare) = on_all
  goes _ = on_all

reaches_self : (a : Opening) → reaches a a ≡ true
reaches_self anyhow = refl
reaches_self at_equals = refl
reaches_self at_of = refl
reaches_self closing = refl

-- a terminal that ends a phrase is no identifier
other_look : (t : Terminal) (f : Fix) → (opening t ≡ anyhow → ⊥) → looks f t ≡ look.Other t
other_look (tok.Id x s) f n = absurd (n refl)
other_look _ f n = refl

gone_case : (a b c : Bool) → (not a || (not b || c)) ≡ true → a ≡ true → b ≡ true → c ≡ true
gone_case a b true h e u = refl
gone_case true true false h e u = cc
gone_case true false false h e u = cc
gone_case false b false h e u = cc

-- a list of terminals begins as it should
abbrev Opened : Opening → List Terminal → Bool
Opened anyhow a = true
Opened o [] = false
Opened o (t ∷ a) = reaches o (opening t)

abbrev Leads : Choice → List Terminal → Type 0
Leads (takes t) a = (b : List Terminal) × (a ≡ t ∷ b)
Leads c a = Unit {0}

-- a completion of a stack
abbrev Done : Bool → List Symbol → Fix → Type 0
Done v k f = (a : List Terminal) × Takes v k f a × (Opened (met (standing k nothing)) a ≡ true) × Leads (first k) a

opened_on : (o : Opening) (t : Terminal) (a : List Terminal) → reaches o (opening t) ≡ true → Opened o (t ∷ a) ≡ true
opened_on anyhow t a e = refl
opened_on _ t a e = e

node_only : (s : Symbol) → is_node s ≡ true → (m : Made) × (s ≡ sy.Emit m)
node_only (sy.Emit m) e = (m, refl)
node_only _ e = cc

vanishing_on : (w x : Opening) → reaches w x ≡ true → (j : List Symbol) → vanishing w j ≡ true → vanishing x j ≡ true
vanishing_on w x r [] h = refl
vanishing_on w x r (s ∷ j) h = let (b, c) = and_parts (fades w s) (vanishing w j) h in and_from (fades x s) (vanishing x j) (go (is_node s) (is_vanishing s) b) (vanishing_on w x r j c)
  where
    go : (b d : Bool) → (b || (d && reaches (met (traits s).wants) w)) ≡ true → (b || (d && reaches (met (traits s).wants) x)) ≡ true
    go true d e = refl
    go false true e = reaches_on (met (traits s).wants) w x e r
    go false false e = e

-- before a terminal that ends a phrase
module _ (v : Bool) (f : Fix) (t : Terminal) (n : opening t ≡ anyhow → ⊥) where
  abbrev Before : List Symbol → List Terminal → Type 0
  Before k a = Takes v k f (t ∷ a)

  skipped : (s : Symbol) (k : List Symbol) (a : List Terminal) → is_vanishing s ≡ true → reaches (met (traits s).wants) (opening t) ≡ true →
      ((p : Push) → total (listed p) < (traits s).cost → vanishing (opening t) (listed p) ≡ true → Before (pushed p k) a) → Before (s ∷ k) a
  skipped s k a e r w =
      let i = has_infix f in
      let g = gone_case (is_vanishing s) (reaches (met (traits s).wants) (opening t)) (leaves s (move_of v s i (length f) 0 (look.Other t))) (on_each (gone v i (length f) s) (goes v i (length f) s) t n) e r in
      let P : Look → Type 0 = λ l. leaves s (move_of v s i (length f) 0 l) ≡ true in
      go (at_number v s f t 0) refl (subst P (sym (other_look t f n)) g)
    where
      go : (x : Move) → at_number v s f t 0 ≡ x → leaves s x ≡ true → Before (s ∷ k) a
      go (Skip p) q g = let (b, c) = and_parts (vanishing (met (traits s).wants) (listed p)) (nat_lt (total (listed p)) (traits s).cost) g in keeps 0 q (w p (grind (arith, nat_tests)) (vanishing_on (met (traits s).wants) (opening t) r (listed p) b))
      go (Eat p) q g = cc
      go Refuse q g = cc
      go Mixed q g = cc

  faded : (s : Symbol) (k : List Symbol) (a : List Terminal) → fades (opening t) s ≡ true → Before k a →
      ((p : Push) → total (listed p) < (traits s).cost → vanishing (opening t) (listed p) ≡ true → Before (pushed p k) a) → Before (s ∷ k) a
  faded s k a h g w = go (is_node s) refl h
    where
      go : (b : Bool) → is_node s ≡ b → (b || (is_vanishing s && reaches (met (traits s).wants) (opening t))) ≡ true → Before (s ∷ k) a
      go true e h = let (m, q) = node_only s e in let P : Symbol → Type 0 = λ s. Before (s ∷ k) a in subst P (sym q) (makes g)
      go false e h = let (b, c) = and_parts (is_vanishing s) (reaches (met (traits s).wants) (opening t)) h in skipped s k a b c w

  vanished : (n : ℕ) (j k : List Symbol) (a : List Terminal) → total j ≤ n → vanishing (opening t) j ≡ true → Before k a → Before (j ++ k) a
  vanished n [] k a u h g = g
  vanished zero (s ∷ j) k a u h g = absurd (omega (arith, costs s))
  vanished (suc n) (s ∷ j) k a u h g =
      let (b, c) = and_parts (fades (opening t) s) (vanishing (opening t) j) h in
      let r = vanished n j k a (omega (arith, costs s)) c g in
      let P : List Symbol → Type 0 = λ l. Before l a in
      faded s (j ++ k) a b r (λ p d e. subst P (sym (listed_on p (j ++ k))) (vanished n (listed p) (j ++ k) a (omega arith) e r))

suits_reaches : (a b : Standing) → suits a b ≡ true → reaches (met a) (met b) ≡ true
suits_reaches nothing nothing h = refl
suits_reaches operators operators h = refl
suits_reaches pattern_operators pattern_operators h = refl
suits_reaches (next o) operators h = h
suits_reaches (next o) pattern_operators h = h
suits_reaches (next o) (next p) h = h
suits_reaches _ _ h = cc

-- a symbol that can vanish wants what ends a phrase, and gives it
firm : (s : Symbol) → is_vanishing s ≡ true → met (traits s).wants ≡ anyhow → ⊥
firm (sy.Ops root.Bare) e u = cc
firm (sy.PatOps root.Bare) e u = cc
firm _ e u = cc

vanishing_gives : (s : Symbol) (d : Standing) → is_vanishing s ≡ true → met (gives s d) ≡ met (traits s).wants
vanishing_gives (sy.Ops root.Bare) d e = refl
vanishing_gives (sy.PatOps root.Bare) d e = refl
vanishing_gives _ d e = cc

ended : (o w : Opening) (a : List Terminal) → reaches w o ≡ true → (w ≡ anyhow → ⊥) → Opened o a ≡ true → (t : Terminal) × (b : List Terminal) × (a ≡ t ∷ b) × (reaches w (opening t) ≡ true)
ended anyhow anyhow a r n e = absurd (n refl)
ended anyhow _ a r n e = cc
ended o w [] r n e = cc
ended o w (t ∷ b) r n e = (t, b, refl, reaches_on w o (opening t) r e)

not_anyhow : (w o : Opening) → reaches w o ≡ true → (w ≡ anyhow → ⊥) → o ≡ anyhow → ⊥
not_anyhow anyhow o r n e = n refl
not_anyhow at_equals anyhow r n e = cc
not_anyhow at_of anyhow r n e = cc
not_anyhow closing anyhow r n e = cc
not_anyhow _ _ r n e = cc

first_on : (j k : List Symbol) (t : Terminal) → first j ≡ takes t → first (j ++ k) ≡ takes t
first_on [] k t e = cc
first_on (s ∷ j) k t e = e

-- any identifier, and one with infix status
name_eats : (v : Bool) (s : Symbol) → (traits s).choice ≡ takes_name → (f : Fix) → (p : Push) × (at_number v s f (tok.Id nobody false) 0 ≡ Eat p) × (nat_lt (total (listed p)) (traits s).cost ≡ true)
name_eats v sy.TyCon q f = let p = P1 (sy.Emit (made.Lead (node.TyCon nobody) 0)) in (p, name_case f nobody false (λ l. at_ty_con 0 l ≡ Eat p) refl (λ l r. refl), refl)
name_eats v (sy.Vids u) q f = let p = P2 (sy.Emit (made.Lead (node.Vid nobody) 0)) (sy.VidsRest u) in (p, name_case f nobody false (λ l. at_vids u 0 l ≡ Eat p) refl (λ l r. refl), refl)
name_eats v _ q f = cc

among : (f g : Fix) → infix_among f g ≡ true → (x : Name) × (is_infix (directive_for f x) ≡ true)
among f [] h = cc
among f (e ∷ g) h = go (is_infix (directive_for f e.name)) refl h (λ h. among f g h)
  where
    go : (b : Bool) → is_infix (directive_for f e.name) ≡ b → (b || infix_among f g) ≡ true → (infix_among f g ≡ true → (x : Name) × (is_infix (directive_for f x) ≡ true)) → (x : Name) × (is_infix (directive_for f x) ≡ true)
    go true q h u = (e.name, q)
    go false q h u = u h

operator_look : (x : Name) (u : Option Status) → is_infix u ≡ true → (l : ℕ) × (r : Bool) × (name_look x false u ≡ look.Operator x false l r)
operator_look x None e = cc
operator_look x (Some status.Nonfix) e = cc
operator_look x (Some (status.Infix l r)) e = (l, r, refl)

some_operator : (f : Fix) → has_infix f ≡ true → (x : Name) × (l : ℕ) × (r : Bool) × (looks f (tok.Id x false) ≡ look.Operator x false l r)
some_operator f h = let (x, e) = among f f h in let (l, r, q) = operator_look x (directive_for f x) e in (x, l, r, q)

operator_eats : (v : Bool) (s : Symbol) → (traits s).choice ≡ takes_operator → (f : Fix) → (is_needy s ≡ true → has_infix f ≡ true) → (x : Name) × (p : Push) × (at_number v s f (tok.Id x false) 0 ≡ Eat p) × (nat_lt (total (listed p)) (traits s).cost ≡ true)
operator_eats v sy.HeadOp q f h =
    let (x, l, r, e) = some_operator f (h refl) in
    (x, P3 (sy.Emit (made.Lead (node.Vid x) 0)) sy.Atpat (sy.Emit (made.Inner node.InfixHead)), rw e refl, refl)
operator_eats v (sy.HeadFirst n) q f h =
    let (x, l, r, e) = some_operator f (h refl) in
    (x, P2 (sy.Emit (made.Lead (node.Vid x) 0)) (sy.HeadSecond (root.Operator l r) n), rw e refl, refl)
operator_eats v _ q f h = cc

or_left : (a b : Bool) → a ≡ true → (a || b) ≡ true
or_left true b e = refl
or_left false b e = cc

module _ (v : Bool) (n : ℕ) (rec : (l : List Symbol) (g : Fix) → total l ≤ n → Good (at l g) → Done v l g) (s : Symbol) (k : List Symbol) (f : Fix) (u : total (s ∷ k) ≤ suc n) (h : Good (at (s ∷ k) f)) where
  cheaper : (p : Push) → nat_lt (total (listed p)) (traits s).cost ≡ true → total (pushed p k) ≤ n
  cheaper p e =
      let P : List Symbol → Type 0 = λ l. total l ≤ n in
      subst P (sym (listed_on p k)) (let a = total_on (listed p) k in let b : total (listed p) < (traits s).cost = grind (arith, nat_tests) in omega arith)

  behind : Done v k f
  behind = rec k f (omega (arith, costs s)) (popped s k f h)

  node_done : is_node s ≡ true → Done v (s ∷ k) f
  node_done e =
      let (m, q) = node_only s e in
      let P : Symbol → Type 0 = λ s. Done v (s ∷ k) f in
      let (a, g, b, d) = behind in
      subst P (sym q) (a, makes g, b, tt)

  vanishing_leads : (c : Choice) (a : List Terminal) → goes_by c ≡ true → Leads c a
  vanishing_leads vanishes a e = tt
  vanishing_leads (opens d) a e = tt
  vanishing_leads _ a e = cc

  vanishing_done : is_vanishing s ≡ true → Done v (s ∷ k) f
  vanishing_done e =
      let (a, g, b, d) = behind in
      let w = met (traits s).wants in
      let r = suits_reaches (traits s).wants (standing k nothing) (below_top s k nothing false h.0).0 in
      let (t, c, q, x) = ended (met (standing k nothing)) w a r (firm s e) b in
      let P : List Terminal → Type 0 = λ a. Takes v k f a in
      let y : fades (opening t) s ≡ true = or_right (is_node s) _ (and_from (is_vanishing s) _ e x) in
      let z = vanished v f t (not_anyhow w (opening t) x (firm s e)) ((traits s).cost + 0) (s ∷ []) k c (omega arith) (and_from (fades (opening t) s) true y refl) (subst P q g) in
      let O : Opening → Type 0 = λ o. Opened o (t ∷ c) ≡ true in
      (t ∷ c, z, subst O (sym (vanishing_gives s (standing k nothing) e)) (opened_on w t c x), vanishing_leads (traits s).choice (t ∷ c) e)

  taken_opens : (t : Terminal) (a : List Terminal) → (traits s).choice ≡ takes t → Opened (met (gives s (standing k nothing))) (t ∷ a) ≡ true
  taken_opens t a q = let P : Choice → Type 0 = λ c. Opened (met (given c (traits s).wants (standing k nothing))) (t ∷ a) ≡ true in subst P (sym q) (opened_on (opening t) t a (reaches_self (opening t)))

  taken_leads : (t : Terminal) (a : List Terminal) → (traits s).choice ≡ takes t → Leads (traits s).choice (t ∷ a)
  taken_leads t a q = let P : Choice → Type 0 = λ c. Leads c (t ∷ a) in subst P (sym q) (a, refl)

  taking_done : (t : Terminal) → (traits s).choice ≡ takes t → Done v (s ∷ k) f
  taking_done t q =
      let i = has_infix f in
      let m = length f in
      let (a, b, c) = chosen v i m s in
      let P : Choice → Type 0 = λ c. onward v i m s c ≡ true in
      let Q : Choice → Type 0 = λ c. follows v i m s c ≡ c in
      let R : Choice → Type 0 = λ c. is_name c ≡ false in
      let e = sym (named_other t (subst R q c)) in
      let A : Look → Type 0 = λ l. lowers s (move_of v s i m 0 l) ≡ true in
      let B : Look → Type 0 = λ l. led_to (takes t) (move_of v s i m 0 l) ≡ takes t in
      go (at_number v s f t 0) refl (subst A e (subst P q a)) (subst B e (subst Q q b))
    where
      named_other : (t : Terminal) → is_name (takes t) ≡ false → looks f t ≡ look.Other t
      named_other (tok.Id x s) e = cc
      named_other _ e = refl

      go : (w : Move) → at_number v s f t 0 ≡ w → lowers s w ≡ true → led_to (takes t) w ≡ takes t → Done v (s ∷ k) f
      go (Skip p) e o l =
          let (a, g, b, d) = rec (pushed p k) f (cheaper p o) (skip_good v s p k f t 0 e h).0 in
          let F : List Symbol → Type 0 = λ l. first l ≡ takes t in
          let C : Choice → Type 0 = λ c. Leads c a in
          let (x, y) = subst C (subst F (sym (listed_on p k)) (first_on (listed p) k t l)) d in
          let P : List Terminal → Type 0 = λ a. Takes v (pushed p k) f a in
          (t ∷ x, keeps 0 e (subst P y g), taken_opens t x q, taken_leads t x q)
      go (Eat p) e o l =
          let (a, g, b, d) = rec (pushed p k) (after s t f) (cheaper p o) (eat_good v s p k f t 0 e h) in
          (t ∷ a, reads 0 e g, taken_opens t a q, taken_leads t a q)
      go Refuse e o l = cc
      go Mixed e o l = cc

  -- where the terminal depends on the directives in force
  eating_done : (t : Terminal) (p : Push) → at_number v s f t 0 ≡ Eat p → nat_lt (total (listed p)) (traits s).cost ≡ true → ((a : List Terminal) → Opened (met (gives s (standing k nothing))) a ≡ true) → ((a : List Terminal) → Leads (traits s).choice a) → Done v (s ∷ k) f
  eating_done t p e o x y = let (a, g, b, d) = rec (pushed p k) (after s t f) (cheaper p o) (eat_good v s p k f t 0 e h) in (t ∷ a, reads 0 e g, x (t ∷ a), y (t ∷ a))

  by_choice : (c : Choice) → (traits s).choice ≡ c → Done v (s ∷ k) f
  by_choice makes_node q = node_done (ap makes_by q)
  by_choice vanishes q = vanishing_done (ap goes_by q)
  by_choice (opens d) q = vanishing_done (ap goes_by q)
  by_choice (takes t) q = taking_done t q
  by_choice takes_name q =
      let (p, e, o) = name_eats v s q f in
      let P : Choice → Type 0 = λ c. (a : List Terminal) → Opened (met (given c (traits s).wants (standing k nothing))) a ≡ true in
      let Q : Choice → Type 0 = λ c. (a : List Terminal) → Leads c a in
      eating_done (tok.Id nobody false) p e o (subst P (sym q) (λ a. refl)) (subst Q (sym q) (λ a. tt))
  by_choice takes_operator q =
      let (x, p, e, o) = operator_eats v s q f (λ e. h.1 (or_left (is_needy s) (needs k) e)) in
      let P : Choice → Type 0 = λ c. (a : List Terminal) → Opened (met (given c (traits s).wants (standing k nothing))) a ≡ true in
      let Q : Choice → Type 0 = λ c. (a : List Terminal) → Leads c a in
      eating_done (tok.Id x false) p e o (subst P (sym q) (λ a. refl)) (subst Q (sym q) (λ a. tt))

complete : (v : Bool) (n : ℕ) (k : List Symbol) (f : Fix) → total k ≤ n → Good (at k f) → Done v k f
complete v n [] f u h = ([], ends, refl, tt)
complete v zero (s ∷ k) f u h = absurd (omega (arith, costs s))
complete v (suc n) (s ∷ k) f u h = by_choice v n (λ l g w x. complete v n l g w x) s k f u h (traits s).choice refl

-- a good configuration takes something
pub completed : (v : Bool) (k : List Symbol) (f : Fix) → Good (at k f) → (a : List Terminal) × Takes v k f a
completed v k f h = let (a, g, b, d) = complete v (total k) k f (omega arith) h in (a, g)
