-- The list that begins at a cell.
use Rattle.std.proofs.Common.{◌≡◌, ℕ, zero, suc, ◌+◌, ◌<◌, ◌≤◌, Bool, true, false, ◌||◌, List, [], ◌∷◌, ◌++◌, length, Option, Some, None, ◌⊎◌, inl, inr, refl, sym, ap, ◌∙◌, subst, arith, length-append}
use Rattle.std.specs.Prelude.{fold, get_or, slice_get, nat_eq}
use Rattle.std.proofs.lemmas.List.Sums.{fold-append}
use Rattle.std.proofs.lemmas.Bool.{eq-eqb, ne_eqb}
use Rattle.sml_types.specs.Poly.{is_in}
use Rattle.infer_scopes.specs.declared.chains.Cell.{Cell}
use Rattle.infer_scopes.specs.Chains.{chain_in, chains, chain, IsBelow, AreAmong, IsCell, AreCells, IsMore}

at_old : (done : List (List ℕ)) (x : List ℕ) (h : Option ℕ) → IsBelow (length done) h → chain_in (done ++ x ∷ []) h ≡ chain_in done h
at_old done x None b = refl
at_old [] x (Some k) b = absurd (omega arith)
at_old (y ∷ done) x (Some zero) b = refl
at_old (y ∷ done) x (Some (suc k)) b = at_old done x (Some k) (omega arith)

at_last : (done : List (List ℕ)) (x : List ℕ) → get_or (done ++ x ∷ []) (length done) [] ≡ x
at_last [] x = refl
at_last (y ∷ done) x = at_last done x

abbrev more : List (List ℕ) → Cell → List (List ℕ)
more done c = done ++ (c.item ∷ chain_in done c.next) ∷ []

abbrev grown : List (List ℕ) → List Cell → List (List ℕ)
grown done cells = fold (λ d c. d ++ (c.item ∷ chain_in d c.next) ∷ []) done cells

length-grown : (done : List (List ℕ)) (cells : List Cell) → length (grown done cells) ≡ length done + length cells
length-grown done [] = omega arith
length-grown done (c ∷ cells) = omega (arith, length-grown (more done c) cells, length-append done ((c.item ∷ chain_in done c.next) ∷ []))

below_more : (h : Option ℕ) (m n : ℕ) → m ≤ n → IsBelow m h → IsBelow n h
below_more None m n l b = tt
below_more (Some i) m n l b = omega arith

grown_keeps : (done : List (List ℕ)) (cells : List Cell) (h : Option ℕ) → IsBelow (length done) h → chain_in (grown done cells) h ≡ chain_in done h
grown_keeps done [] h b = refl
grown_keeps done (c ∷ cells) h b =
    grown_keeps (more done c) cells h (below_more h (length done) (length (more done c)) (omega (arith, length-append done ((c.item ∷ chain_in done c.next) ∷ []))) b)
    ∙ at_old done (c.item ∷ chain_in done c.next) h b

grown_at : (done : List (List ℕ)) (cells : List Cell) (i m : ℕ) (c : Cell) → m ≡ length done + i → slice_get cells i ≡ Some c → IsBelow m c.next → get_or (grown done cells) m [] ≡ c.item ∷ chain_in (grown done cells) c.next
grown_at done [] i m c e q b = cc
grown_at done (g ∷ cells) zero m c e q b =
    let same : g ≡ c = cc in
    let here : m ≡ length done = omega arith in
    ap (λ k. get_or (grown (more done g) cells) k []) here
    ∙ grown_keeps (more done g) cells (Some (length done)) (omega (arith, length-append done ((g.item ∷ chain_in done g.next) ∷ [])))
    ∙ at_last done (g.item ∷ chain_in done g.next)
    ∙ ap (λ (d : Cell). d.item ∷ chain_in done d.next) same
    ∙ ap (λ l. c.item ∷ l) (sym (grown_keeps done (g ∷ cells) c.next (below_more c.next m (length done) (omega arith) b)))
grown_at done (g ∷ cells) (suc i) m c e q b =
    grown_at (more done g) cells i m c (omega (arith, length-append done ((g.item ∷ chain_in done g.next) ∷ []))) q b

-- the list at a cell is its item and what it goes on with
pub chain_at : (cells : List Cell) (i : ℕ) (c : Cell) → slice_get cells i ≡ Some c → IsBelow i c.next → chain cells (Some i) ≡ c.item ∷ chain cells c.next
unfolding chains chain
chain_at cells i c q b = grown_at [] cells i i c (omega arith) q b

pub chain_none : (cells : List Cell) → chain cells None ≡ []
unfolding chain
chain_none cells = refl

get_past : (done : List (List ℕ)) (i : ℕ) → length done ≤ i → get_or done i [] ≡ []
get_past [] i l = refl
get_past (x ∷ done) zero l = absurd (omega arith)
get_past (x ∷ done) (suc i) l = get_past done i (omega arith)

pub chain_past : (cells : List Cell) (i : ℕ) → length cells ≤ i → chain cells (Some i) ≡ []
unfolding chains chain
chain_past cells i l = get_past (grown [] cells) i (omega (arith, length-grown [] cells))

-- one more cell changes no list
pub chain_more : (cells : List Cell) (c : Cell) (h : Option ℕ) → IsBelow (length cells) h → chain (cells ++ c ∷ []) h ≡ chain cells h
unfolding chains chain
chain_more cells c h b =
    ap (λ ls. chain_in ls h) (fold-append (λ d g. d ++ (g.item ∷ chain_in d g.next) ∷ []) [] cells (c ∷ []))
    ∙ at_old (grown [] cells) (c.item ∷ chain_in (grown [] cells) c.next) h (below_more h (length cells) (length (grown [] cells)) (omega (arith, length-grown [] cells)) b)

pub chain_new : (cells : List Cell) (c : Cell) → chain (cells ++ c ∷ []) (Some (length cells)) ≡ c.item ∷ chain cells c.next
unfolding chains chain
chain_new cells c =
    ap (λ ls. get_or ls (length cells) []) (fold-append (λ d g. d ++ (g.item ∷ chain_in d g.next) ∷ []) [] cells (c ∷ []))
    ∙ ap (λ k. get_or (grown [] cells ++ (c.item ∷ chain_in (grown [] cells) c.next) ∷ []) k []) (sym (length-grown [] cells ∙ omega arith))
    ∙ at_last (grown [] cells) (c.item ∷ chain_in (grown [] cells) c.next)

-- ---- More cells

pub more_self : (a : List Cell) → IsMore a a
more_self a = record { below = λ h b. b; same = λ h b. refl }

pub more_trans : (a b c : List Cell) → IsMore a b → IsMore b c → IsMore a c
more_trans a b c f g = record { below = λ h l. g.below h (f.below h l); same = λ h l. g.same h (f.below h l) ∙ f.same h l }

pub more_one : (cells : List Cell) (c : Cell) → IsMore cells (cells ++ c ∷ [])
more_one cells c =
    record {
      below = λ h b. below_more h (length cells) (length (cells ++ c ∷ [])) (omega (arith, length-append cells (c ∷ []))) b;
      same = λ h b. chain_more cells c h b;
    }

pub among_self : (cells : List Cell) (a : Option ℕ) → AreAmong cells a a
among_self cells a x h = h

pub among_trans : (cells : List Cell) (a b c : Option ℕ) → AreAmong cells a b → AreAmong cells b c → AreAmong cells a c
among_trans cells a b c f g x h = g x (f x h)

pub among_more : (old new : List Cell) (a b : Option ℕ) → IsMore old new → IsBelow (length old) a → IsBelow (length old) b → AreAmong old a b → AreAmong new a b
among_more old new a b m la lb f x h =
    subst (λ l. is_in l x ≡ true) (sym (m.same b lb)) (f x (subst (λ l. is_in l x ≡ true) (m.same a la) h))

pub in_rest : (x y : ℕ) (ys : List ℕ) → is_in ys x ≡ true → is_in (y ∷ ys) x ≡ true
in_rest x y ys h = go (nat_eq x y)
  where
    go : (b : Bool) → (b || is_in ys x) ≡ true
    go true = refl
    go false = h

-- what a cell goes on with, and what it jumps to, are items of its list
pub next_among : (cells : List Cell) (i : ℕ) (c : Cell) → AreCells cells → slice_get cells i ≡ Some c → AreAmong cells c.next (Some i)
next_among cells i c all q x h =
    subst (λ l. is_in l x ≡ true) (sym (chain_at cells i c q (all i c q).falls)) (in_rest x c.item (chain cells c.next) h)

pub jump_among : (cells : List Cell) (i : ℕ) (c : Cell) → AreCells cells → slice_get cells i ≡ Some c → AreAmong cells c.jump (Some i)
jump_among cells i c all q x h = next_among cells i c all q x ((all i c q).inner x h)

pub none_among : (cells : List Cell) (a : Option ℕ) → AreAmong cells None a
none_among cells a x h = let clash : false ≡ true = subst (λ l. is_in l x ≡ true) (chain_none cells) h in absurd (no_false clash)
  where
    no_false : false ≡ true → ⊥
    no_false e = cc

get_below : (cells : List Cell) (i : ℕ) (c : Cell) → slice_get cells i ≡ Some c → i < length cells
get_below [] i c q = cc
get_below (d ∷ cells) zero c q = omega arith
get_below (d ∷ cells) (suc i) c q = let l = get_below cells i c q in omega arith

-- an item of a longer list is an item of the list, or the last one
pub get_snoc : {A : Type 0} (xs : List A) (x : A) (i : ℕ) (d : A) → slice_get (xs ++ x ∷ []) i ≡ Some d → (slice_get xs i ≡ Some d) ⊎ ((i ≡ length xs) × (x ≡ d))
get_snoc [] x zero d q = inr (refl, cc)
get_snoc [] x (suc i) d q = cc
get_snoc (y ∷ xs) x zero d q = inl q
get_snoc (y ∷ xs) x (suc i) d q = next (get_snoc xs x i d q)
  where
    next : (slice_get xs i ≡ Some d) ⊎ ((i ≡ length xs) × (x ≡ d)) → (slice_get xs i ≡ Some d) ⊎ ((suc i ≡ length (y ∷ xs)) × (x ≡ d))
    next (inl e) = inl e
    next (inr e) = inr (let n = e.0 in omega arith, e.1)

-- one more cell that goes on and jumps to cells that are there
pub cells_more : (cells : List Cell) (c : Cell) → AreCells cells → IsBelow (length cells) c.next → IsBelow (length cells) c.jump → AreAmong cells c.jump c.next → AreCells (cells ++ c ∷ [])
cells_more cells c all ln lj inner i d q = go (get_snoc cells c i d q)
  where
    at_end : (d : Cell) (i : ℕ) → i ≡ length cells → c ≡ d → IsCell (cells ++ c ∷ []) i d
    at_end d i e s =
        subst (λ (w : Cell). IsCell (cells ++ c ∷ []) i w) s (record {
          falls = subst (λ n. IsBelow n c.next) (sym e) ln;
          jumps = subst (λ n. IsBelow n c.jump) (sym e) lj;
          inner = among_more cells (cells ++ c ∷ []) c.jump c.next (more_one cells c) lj ln inner;
        })

    old_one : (i : ℕ) (d : Cell) → slice_get cells i ≡ Some d → IsCell (cells ++ c ∷ []) i d
    old_one i d q =
        let was = all i d q in
        let lt = get_below cells i d q in
        record {
          falls = was.falls;
          jumps = was.jumps;
          inner = among_more cells (cells ++ c ∷ []) d.jump d.next (more_one cells c) (below_more d.jump i (length cells) (omega arith) was.jumps) (below_more d.next i (length cells) (omega arith) was.falls) was.inner;
        }

    go : (slice_get cells i ≡ Some d) ⊎ ((i ≡ length cells) × (c ≡ d)) → IsCell (cells ++ c ∷ []) i d
    go (inl e) = old_one i d e
    go (inr e) = at_end d i e.0 e.1

-- ---- Walks

-- how many steps down a walk may still do
abbrev pub height : Option ℕ → ℕ
height None = 0
height (Some i) = suc i

pub height_below : (i : ℕ) (h : Option ℕ) → IsBelow i h → height h < suc i
height_below i None b = omega arith
height_below i (Some j) b = omega arith

pub jump_below : (cells : List Cell) (i : ℕ) (c : Cell) (n : ℕ) → AreCells cells → slice_get cells i ≡ Some c → i < n → IsBelow n c.jump
jump_below cells i c n all q l = below_more c.jump i n (omega arith) (all i c q).jumps

pub walk : (cells : List Cell) (i : ℕ) (c : Cell) → AreCells cells → slice_get cells i ≡ Some c → chain cells (Some i) ≡ c.item ∷ chain cells c.next
walk cells i c all q = chain_at cells i c q (all i c q).falls

pub smaller_next : (cells : List Cell) (i : ℕ) (c : Cell) → AreCells cells → slice_get cells i ≡ Some c → height c.next < suc i
smaller_next cells i c all q = height_below i c.next (all i c q).falls

pub smaller_jump : (cells : List Cell) (i : ℕ) (c : Cell) → AreCells cells → slice_get cells i ≡ Some c → height c.jump < suc i
smaller_jump cells i c all q = height_below i c.jump (all i c q).jumps

pub hit : (cells : List Cell) (i x : ℕ) (c : Cell) → AreCells cells → slice_get cells i ≡ Some c → c.item ≡ x → is_in (chain cells (Some i)) x ≡ true
hit cells i x c all q e =
    subst (λ l. is_in l x ≡ true) (sym (walk cells i c all q)) (ap (λ b. b || is_in (chain cells c.next) x) (eq-eqb x c.item (sym e)))

pub miss : (cells : List Cell) (i x : ℕ) (c : Cell) → AreCells cells → slice_get cells i ≡ Some c → (c.item ≡ x → ⊥) → is_in (chain cells (Some i)) x ≡ is_in (chain cells c.next) x
miss cells i x c all q e =
    ap (λ l. is_in l x) (walk cells i c all q) ∙ ap (λ b. b || is_in (chain cells c.next) x) (ne_eqb x c.item (λ s. e (sym s)))

get_none : {A : Type 0} (xs : List A) (i : ℕ) → slice_get xs i ≡ None → length xs ≤ i
get_none [] i q = omega arith
get_none (y ∷ xs) zero q = cc
get_none (y ∷ xs) (suc i) q = let l = get_none xs i q in omega arith

pub gone : (cells : List Cell) (i : ℕ) → slice_get cells i ≡ None → chain cells (Some i) ≡ []
gone cells i q = chain_past cells i (get_none cells i q)

pub ends : (cells : List Cell) (head at : Option ℕ) (x : ℕ) → chain cells at ≡ [] → is_in (chain cells at) x ≡ is_in (chain cells head) x → false ≡ is_in (chain cells head) x
ends cells head at x e inv = sym (ap (λ l. is_in l x) e) ∙ inv

pub go_on : (cells : List Cell) (i : ℕ) (c : Cell) (r : Option ℕ) → AreCells cells → slice_get cells i ≡ Some c → (r ≡ c.next) ⊎ (r ≡ c.jump) → AreAmong cells r (Some i)
go_on cells i c r all q (inl e) = subst (λ h. AreAmong cells h (Some i)) (sym e) (next_among cells i c all q)
go_on cells i c r all q (inr e) = subst (λ h. AreAmong cells h (Some i)) (sym e) (jump_among cells i c all q)

pub nil_right : (xs : List ℕ) → xs ++ [] ≡ xs
nil_right [] = refl
nil_right (x ∷ xs) = ap (λ l. x ∷ l) (nil_right xs)

pub one_more : (xs : List ℕ) (x : ℕ) (ys : List ℕ) → (xs ++ x ∷ []) ++ ys ≡ xs ++ x ∷ ys
one_more [] x ys = refl
one_more (z ∷ xs) x ys = ap (λ l. z ∷ l) (one_more xs x ys)
