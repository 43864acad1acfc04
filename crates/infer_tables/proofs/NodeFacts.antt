-- The declarations of one more node.
use Rattle.std.proofs.Common.{◌≡◌, ℕ, zero, suc, ◌+◌, ◌<◌, ◌≤◌, List, [], ◌∷◌, ◌++◌, length, take, Some, None, refl, sym, ap, ◌∙◌, arith, subst, length-append}
use Rattle.std.specs.Prelude.{slice_get, flat_map}
use Rattle.std.specs.List.{AllByRecursion}
use Rattle.sml_tree.specs.declared.bare.Bare.{Bare}
use Rattle.sml_tree.specs.declared.bare.Node.{Node}
use Rattle.sml_types.specs.declared.types.TyForm.{TyForm}
use Rattle.sml_types.specs.Typing.{made_by, made_below}
use Rattle.infer_tables.specs.declared.known.Known.{Known}
use Rattle.infer_tables.specs.Known.{Asks, IsStep, IsAnswer}
use Rattle.infer_tables.proofs.StepFacts.{step_more, refused_at}
use Rattle.infer_tables.proofs.RowFacts.{take_one}

abbrev made_in : List Node → List ℕ
made_in nodes = flat_map (λ n. made_by (Some n)) nodes

append_assoc : (xs ys zs : List ℕ) → (xs ++ ys) ++ zs ≡ xs ++ (ys ++ zs)
append_assoc [] ys zs = refl
append_assoc (x ∷ xs) ys zs = ap (λ ws. x ∷ ws) (append_assoc xs ys zs)

append_none : (xs : List ℕ) → xs ++ [] ≡ xs
append_none [] = refl
append_none (x ∷ xs) = ap (λ ys. x ∷ ys) (append_none xs)

made_snoc : (nodes : List Node) (n : Node) → made_in (nodes ++ n ∷ []) ≡ made_in nodes ++ made_by (Some n)
made_snoc [] n = append_none (made_by (Some n))
made_snoc (m ∷ nodes) n = ap (λ xs. made_by (Some m) ++ xs) (made_snoc nodes n) ∙ sym (append_assoc (made_by (Some m)) (made_in nodes) (made_by (Some n)))

made_count : (nodes : List Node) (at : ℕ) (n : Node) → slice_get nodes at ≡ Some n → length (made_below nodes at) + length (made_by (Some n)) ≡ length (made_below nodes (at + 1))
made_count nodes at n e =
    sym (length-append (made_below nodes at) (made_by (Some n))) ∙ ap length (sym (made_snoc (take at nodes) n)) ∙ ap (λ ns. length (made_in ns)) (sym (take_one nodes at n e))

pub node_more : (p : Bare) (nodes : List Node) (at : ℕ) (n : Node) (fa fb fc : List TyForm) (a b c : Known) → slice_get nodes at ≡ Some n → IsStep p (λ t. AllByRecursion (Asks p t) (take at nodes)) (length (made_below nodes at)) fa a fb b → IsStep p (λ t. Asks p t n) (length (made_by (Some n))) fb b fc c → IsStep p (λ t. AllByRecursion (Asks p t) (take (at + 1) nodes)) (length (made_below nodes (at + 1))) fa a fc c
node_more p nodes at n fa fb fc a b c e s r =
    subst
    (λ m. IsStep p (λ t. AllByRecursion (Asks p t) (take (at + 1) nodes)) m fa a fc c)
    (made_count nodes at n e)
    (step_more p (λ t m. Asks p t m) nodes at n (length (made_below nodes at)) (length (made_by (Some n))) fa fb fc a b c e s r)

-- the nodes that were gone through are those that were asked
pub nodes_done : (p : Bare) (nodes all : List Node) (at count : ℕ) (fa fb : List TyForm) (a b : Known) → nodes ≡ all → take at nodes ≡ take count nodes → IsStep p (λ t. AllByRecursion (Asks p t) (take at nodes)) (length (made_below nodes at)) fa a fb b → IsStep p (λ t. AllByRecursion (Asks p t) (take count all)) (length (made_below all count)) fa a fb b
nodes_done p nodes all at count fa fb a b e q s =
    subst
    (λ ns. IsStep p (λ t. AllByRecursion (Asks p t) (take count ns)) (length (made_below ns count)) fa a fb b)
    e
    (subst (λ ns. IsStep p (λ t. AllByRecursion (Asks p t) ns) (length (made_in ns)) fa a fb b) q s)

all_take : {A : Type 0} (P : A → Type 0) (xs : List A) (i : ℕ) → AllByRecursion P xs → AllByRecursion P (take i xs)
all_take P [] zero h = tt
all_take P [] (suc i) h = tt
all_take P (x ∷ xs) zero h = tt
all_take P (x ∷ xs) (suc i) h = (h.0, all_take P xs i h.1)

get_taken : {A : Type 0} (xs : List A) (count i : ℕ) (x : A) → i < count → slice_get xs i ≡ Some x → slice_get (take count xs) i ≡ Some x
get_taken [] count i x l e = cc
get_taken (y ∷ xs) zero i x l e = absurd (omega arith)
get_taken (y ∷ xs) (suc count) zero x l e = e
get_taken (y ∷ xs) (suc count) (suc i) x l e = get_taken xs count i x (omega arith) e

take_take : {A : Type 0} (xs : List A) (i count : ℕ) → i ≤ count → take i (take count xs) ≡ take i xs
take_take [] zero zero l = refl
take_take [] zero (suc count) l = refl
take_take [] (suc i) zero l = absurd (omega arith)
take_take [] (suc i) (suc count) l = refl
take_take (x ∷ xs) zero zero l = refl
take_take (x ∷ xs) zero (suc count) l = refl
take_take (x ∷ xs) (suc i) zero l = absurd (omega arith)
take_take (x ∷ xs) (suc i) (suc count) l = ap (λ ys. x ∷ ys) (take_take xs i count (omega arith))

-- what no typing has at a node, none has of all
pub node_refused : (p : Bare) (nodes all : List Node) (at end count : ℕ) (n : Node) (k m : ℕ) (fa fb fc : List TyForm) (a b : Known) → nodes ≡ all → take end nodes ≡ take count nodes → at < end → slice_get nodes at ≡ Some n → IsStep p (λ t. AllByRecursion (Asks p t) (take at nodes)) k fa a fb b → IsAnswer p (λ t. Asks p t n) m fb b fc None → IsAnswer p (λ t. AllByRecursion (Asks p t) (take count all)) m fa a fc None
node_refused p nodes all at end count n k m fa fb fc a b same e l q s r =
    subst
    (λ ns. IsAnswer p (λ t. AllByRecursion (Asks p t) (take count ns)) m fa a fc None)
    same
    (subst
    (λ ns. IsAnswer p (λ t. AllByRecursion (Asks p t) ns) m fa a fc None)
    e
    (refused_at p (λ t x. Asks p t x) (take end nodes) at n k m fa fb fc a b (get_taken nodes end at n l q) (subst (λ ns. IsStep p (λ t. AllByRecursion (Asks p t) ns) k fa a fb b) (sym (take_take nodes at end (omega arith))) s) r))
