-- Words of the closed machine and words of the placed one: blocks of the first have word numbers in the second.
use Rattle.std.proofs.Common.{◌≡◌, ℕ, zero, suc, List, ◌++◌, length, Some, slice_get, refl, sym, ap, ◌∙◌, subst, ⊎_elim, inl, inr}
use Rattle.simulation.specs.Blocks.{IsAmong}
use Rattle.simulation.proofs.Lists.{get_append, among_left, among_right, among_append}
use Rattle.closure_ir.specs.Words.{Word}
use Rattle.closure_ir.specs.Run.{pointed, all_pointed}
use Rattle.place_laws.specs.Lies.{Same, same_num, same_at, same_fixed, same_code, SameAll, none_same, more_same}

pub same_more : (homes more : List ℕ) (u v : Word) → Same homes u v → Same (homes ++ more) u v
same_more homes more u v (same_num n) = same_num n
same_more homes more u v (same_at a w e) = same_at a w (get_append homes more a w e)
same_more homes more u v (same_fixed t) = same_fixed t
same_more homes more u v (same_code l) = same_code l

pub all_more : (homes more : List ℕ) (us vs : List Word) → SameAll homes us vs → SameAll (homes ++ more) us vs
all_more homes more us vs none_same = none_same
all_more homes more us vs (more_same u v us' vs' s rest) = more_same u v us' vs' (same_more homes more u v s) (all_more homes more us' vs' rest)

pub all_length : (homes : List ℕ) (us vs : List Word) → SameAll homes us vs → length vs ≡ length us
all_length homes us vs none_same = refl
all_length homes us vs (more_same u v us' vs' s rest) = ap suc (all_length homes us' vs' rest)

-- what stands at one place
pub all_get : (homes : List ℕ) (us vs : List Word) → SameAll homes us vs → (i : ℕ) (u : Word) → slice_get us i ≡ Some u → (v : Word) × (slice_get vs i ≡ Some v) × Same homes u v
all_get homes us vs none_same i u e = absurd (cc)
all_get homes us vs (more_same u' v us' vs' s rest) zero u e = (v, refl, subst (λ t. Same homes t v) (let f : Some u' ≡ Some u = e in let g : u' ≡ u = cc in g) s)
all_get homes us vs (more_same u' v us' vs' s rest) (suc i) u e = all_get homes us' vs' rest i u e

-- a block that the second names is one that the first names, and the other way round
pub same_pointed : (homes : List ℕ) (u v : Word) → Same homes u v → (w : ℕ) → IsAmong w (pointed v) → (a : ℕ) × IsAmong a (pointed u) × (slice_get homes a ≡ Some w)
same_pointed homes u v (same_num n) w m = absurd m
same_pointed homes u v (same_at a b e) w (inl q) = (a, inl refl, e ∙ ap Some (sym q))
same_pointed homes u v (same_at a b e) w (inr m) = absurd m
same_pointed homes u v (same_fixed t) w m = absurd m
same_pointed homes u v (same_code l) w m = absurd m

pub pointed_same : (homes : List ℕ) (u v : Word) → Same homes u v → (a : ℕ) → IsAmong a (pointed u) → (w : ℕ) × IsAmong w (pointed v) × (slice_get homes a ≡ Some w)
pointed_same homes u v (same_num n) w m = absurd m
pointed_same homes u v (same_at a b e) c (inl q) = (b, inl refl, ap (slice_get homes) q ∙ e)
pointed_same homes u v (same_at a b e) c (inr m) = absurd m
pointed_same homes u v (same_fixed t) w m = absurd m
pointed_same homes u v (same_code l) w m = absurd m

pub all_same_pointed : (homes : List ℕ) (us vs : List Word) → SameAll homes us vs → (w : ℕ) → IsAmong w (all_pointed vs) → (a : ℕ) × IsAmong a (all_pointed us) × (slice_get homes a ≡ Some w)
all_same_pointed homes us vs none_same w m = absurd m
all_same_pointed homes us vs (more_same u v us' vs' s rest) w m =
    ⊎_elim
    (λ (h : IsAmong w (pointed v)). let p = same_pointed homes u v s w h in (p.0, among_left p.0 (pointed u) (all_pointed us') p.1, p.2))
    (λ (h : IsAmong w (all_pointed vs')). let p = all_same_pointed homes us' vs' rest w h in (p.0, among_right p.0 (pointed u) (all_pointed us') p.1, p.2))
    (among_append w (pointed v) (all_pointed vs') m)

pub all_pointed_same : (homes : List ℕ) (us vs : List Word) → SameAll homes us vs → (a : ℕ) → IsAmong a (all_pointed us) → (w : ℕ) × IsAmong w (all_pointed vs) × (slice_get homes a ≡ Some w)
all_pointed_same homes us vs none_same w m = absurd m
all_pointed_same homes us vs (more_same u v us' vs' s rest) a m =
    ⊎_elim
    (λ (h : IsAmong a (pointed u)). let p = pointed_same homes u v s a h in (p.0, among_left p.0 (pointed v) (all_pointed vs') p.1, p.2))
    (λ (h : IsAmong a (all_pointed us')). let p = all_pointed_same homes us' vs' rest a h in (p.0, among_right p.0 (pointed v) (all_pointed vs') p.1, p.2))
    (among_append a (pointed u) (all_pointed us') m)
