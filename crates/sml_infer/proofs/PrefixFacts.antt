-- What inference of a prefix ends with.
use native.Mathlib.Omega.{arith}
use Rattle.std.proofs.Common.{◌≡◌, ◌<◌, ℕ, zero, suc, Option, Some, None, List, [], ◌∷◌, length, Result, Ok, Err, refl, ap, subst, ◌∙◌}
use Rattle.std.specs.Prelude.{slice_get, take}
use Rattle.std.specs.List.{AllByRecursion}
use Rattle.std.proofs.lemmas.Option.{slice_get_within}
use Rattle.sml_tree.specs.declared.bare.Bare.{Bare}
use Rattle.sml_tree.specs.declared.bare.Node.{Node}
use Rattle.sml_tree.specs.BareParts.{IsNumbered}
use Rattle.sml_types.specs.declared.types.TyVar.{TyVar}
use Rattle.sml_types.specs.Typing.{Typing, IsTypingBelow}
use Rattle.sml_unify.specs.declared.resolve.Rename.{Rename}
use Rattle.sml_unify.specs.Steps.{IsLonger}
use Rattle.infer_state.specs.declared.unknowns.Unknowns.{Unknowns}
use Rattle.infer_state.specs.declared.settled.Settled.{Settled}
use Rattle.infer_state.specs.declared.declared.Declared.{Declared}
use Rattle.infer_state.specs.declared.failure.Failure.{Failure}
use Rattle.infer_state.specs.declared.failure.Failure.TheVariants.{Untypable, NoMemory}
use Rattle.infer_tables.specs.Declare.{IsDeclared, IsUntypable}
use Rattle.infer_laws.specs.Cited.{node_types, AreCitedUpTo}
use Rattle.infer_scopes.specs.Prefix.{IsPrefix}
use Rattle.infer_scopes.specs.Scopes.{contexts_of, first_context}
use Rattle.infer_checks.specs.Checked.{IsChecked, IsUnchecked, IsRefused}
use Rattle.sml_infer.specs.declared.inference.Inference.{Inference}
use Rattle.sml_infer.specs.Going.{Now, now, joined_number, Keeps, CitesBelow, IsGoing}
use Rattle.sml_infer.specs.Begun.{IsGoodPrefix, IsBegun, AreTypesBelow}
use Rattle.sml_infer.specs.Below.{IsEnded, AreTypesCited}
use Rattle.sml_infer.proofs.Contexts.{lawful}

-- ---- Written types

all_at : {A : Type 0} (P : A → Type 0) (xs : List A) (i : ℕ) (x : A) → AllByRecursion P xs → slice_get xs i ≡ Some x → P x
all_at P [] i x h e = absurd cc
all_at P (y ∷ xs) zero x h e = let same : y ≡ x = cc in subst P same h.0
all_at P (y ∷ xs) (suc i) x h e = all_at P xs i x h.1 e

taken_at : {A : Type 0} (xs : List A) (count i : ℕ) (x : A) → i < count → slice_get xs i ≡ Some x → slice_get (take count xs) i ≡ Some x
taken_at [] count i x l e = absurd cc
taken_at (y ∷ xs) zero i x l e = absurd (omega (arith, l))
taken_at (y ∷ xs) (suc count) zero x l e = e
taken_at (y ∷ xs) (suc count) (suc i) x l e = taken_at xs count i x (omega (arith, l)) e

pub types_below : (p : Bare) (limit count : ℕ) (first : List Node) → first ≡ take count p.nodes → AllByRecursion (λ n. AllByRecursion (λ j. j < limit) (node_types n)) first → AreTypesBelow p limit count
types_below p limit count first e h i n l at =
    all_at (λ m. AllByRecursion (λ j. j < limit) (node_types m)) first i n h (ap (λ (ns : List Node). slice_get ns i) e ∙ taken_at p.nodes count i n l at)

all_cited : (p : Bare) (d : Declared) (limit : ℕ) → CitesBelow p d limit → (js : List ℕ) → AllByRecursion (λ j. j < limit) js → AllByRecursion (λ j. AreCitedUpTo p.types (length d.abbreviations) j) js
all_cited p d limit cites [] h = tt
all_cited p d limit cites (j ∷ js) h =
    let below = h.0 in
    (λ i k args l e. cites i k args (omega (arith, l, below)) e, all_cited p d limit cites js h.1)

types_cited : (p : Bare) (d : Declared) (limit count : ℕ) → CitesBelow p d limit → AreTypesBelow p limit count → AreTypesCited p d count
types_cited p d limit count cites below i n l at = all_cited p d limit cites (node_types n) (below i n l at)

-- ---- The checks at the end

pub refused_as : {A : Type 0} (P Q : Type 0) (r : Result A Failure) → (P → Q) → IsRefused r P → IsUntypable r Q
refused_as P Q (Ok x) f h = tt
refused_as P Q (Err Untypable) f h = f h
refused_as P Q (Err NoMemory) f h = tt

-- what the checks refuse has no typing
pub unchecked_none : (p : Bare) (count : ℕ) (d : Declared) (a : Now) (settled : List (Option Settled)) (general : List (Option (List TyVar))) (reached : ℕ) → settled ≡ a.settled → IsNumbered p.nodes → IsPrefix p.nodes count → IsGoing p count d a count count reached → IsUnchecked p d (contexts_of a.scopes) settled general a.unknowns count → (t : Typing) → IsTypingBelow p t count → ⊥
unchecked_none p count d a settled general reached same numbered prefix going none t h =
    let q = going.follow t h in
    subst (λ (s : List (Option Settled)). IsUnchecked p d (contexts_of a.scopes) s general a.unknowns count) same none t q.f h q.fits q.solution q.suits q.contexts (lawful p count t numbered prefix h).binds

pub checked_as : (p : Bare) (count : ℕ) (d : Declared) (a : Now) (settled : List (Option Settled)) (general to : List (Option (List TyVar))) (renames : List Rename) → settled ≡ a.settled → general ≡ to → IsChecked p d (contexts_of a.scopes) settled general a.unknowns count renames → IsChecked p d (contexts_of a.scopes) a.settled to a.unknowns count renames
checked_as p count d a settled general to renames e f h =
    subst (λ (g : List (Option (List TyVar))). IsChecked p d (contexts_of a.scopes) a.settled g a.unknowns count renames) f (subst (λ (s : List (Option Settled)). IsChecked p d (contexts_of a.scopes) s general a.unknowns count renames) e h)

-- ---- The end

-- a node behind a declaration stands there
noted_within : (behind : List (Option ℕ)) (e i : ℕ) → joined_number (slice_get behind e) ≡ Some i → e < length behind
noted_within behind e i h = by (slice_get behind e) refl h
  where
    by : (o : Option (Option ℕ)) → slice_get behind e ≡ o → joined_number o ≡ Some i → e < length behind
    by None q k = absurd cc
    by (Some o) q k = slice_get_within behind e o q

-- all nodes below a number are done, and what stands behind declarations has its context
pub is_ended : (p : Bare) (count limit : ℕ) (d : Declared) (s : Unknowns) (b w : Inference) (renames : List Rename) → IsGoodPrefix p count → IsDeclared p count d s → IsBegun p count s b → IsGoing p count d (now w) count count (length p.nodes) → Keeps (now b) (now w) → CitesBelow p d limit → AreTypesBelow p limit count → length w.settled.items ≡ length p.names → IsChecked p d (contexts_of w.scopes) w.settled.items w.general.items w.unknowns count renames → IsEnded p count d (now w) w.general.items renames
is_ended p count limit d s b w renames prefix declared begun going keeps cites below named checked =
    record {
      starting = s;
      tables = declared;
      longer = subst (λ (u : Unknowns). IsLonger u.types w.unknowns.types) begun.unknowns keeps.longer;
      reached = length p.nodes;
      going = going;
      all_reached = λ e i h. subst (λ (n : ℕ). e < n) (keeps.behind ∙ begun.behind.many) (noted_within w.behind.items e i h);
      root = keeps.contexts 0 first_context begun.first.root;
      checked = checked;
      numbered = prefix.numbered;
      good = prefix.good;
      cited = types_cited p d limit count cites below;
      named = named;
      within = prefix.within;
    }
