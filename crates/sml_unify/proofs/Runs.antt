-- Tasks that are worked off, the last first.
use Rattle.std.proofs.Common.{◌≡◌, ℕ, zero, suc, ◌+◌, ◌<◌, ◌≤◌, Bool, true, false, List, [], ◌∷◌, ◌++◌, length, length-append, Option, Some, None, refl, sym, ap, ◌∙◌, subst, arith, is_some, take}
use Rattle.std.specs.Prelude.{slice_get, nat_eq, map, ◌||◌}
use Rattle.std.specs.List.{AllByRecursion}
use Rattle.std.proofs.lemmas.Bool.{eqb-true, eq-eqb}
use Rattle.sml_types.specs.declared.types.Ty.{Ty}
use Rattle.sml_types.specs.declared.types.TyVar.{TyVar}
use Rattle.sml_types.specs.declared.types.TyForm.{TyForm}
use Rattle.sml_types.specs.declared.types.TyForm.TheVariants.{Var}
use Rattle.sml_types.specs.Tree.{Tree, inst, size}
use Rattle.sml_types.specs.Forms.{tree, listed, parts_of}
use Rattle.sml_types.proofs.TreeFacts.{either, or_left, or_right}
use Rattle.sml_unify.specs.declared.pair.Pair.{Pair}
use Rattle.sml_unify.specs.declared.task.Task.{Task}
use Rattle.sml_unify.specs.declared.task.Task.TheVariants.{Unify, Link}
use Rattle.sml_unify.specs.Solved.{Substitution, Solves, IsSolved, IsSameType, IsEqualPair, AreEqual, ArePairs, IsPair, under, meant, last_first}
use Rattle.sml_unify.specs.Named.{IsSame}
use Rattle.sml_unify.specs.Links.{IsLinked, AreLinks}
use Rattle.sml_unify.specs.Tasks.{pairs_of, parts_tasks}
use Rattle.sml_unify.specs.Runs.{IsLike}
use Rattle.sml_unify.proofs.Meant.{meant_solves}
use Rattle.sml_unify.proofs.Walks.{all_append, all_left, all_right, at_app}
use Rattle.sml_unify.proofs.Pairs.{parts_back, app_back}
use Rattle.sml_unify.proofs.Unvisited.{unvisited, unvisited_mono, unvisited_falls}
use Rattle.sml_unify.proofs.LinkFacts.{links_more}

abbrev pub pair_of : Task → Pair
pair_of (Unify p) = p
pair_of (Link p) = p

pub pairs_append : (ts us : List Task) → pairs_of (ts ++ us) ≡ pairs_of ts ++ pairs_of us
pairs_append [] us = refl
pairs_append (Unify p ∷ ts) us = ap (λ ps. p ∷ ps) (pairs_append ts us)
pairs_append (Link p ∷ ts) us = pairs_append ts us

pub pairs_map : (ps : List Pair) → pairs_of (map Unify ps) ≡ ps
pairs_map [] = refl
pairs_map (p ∷ ps) = ap (λ qs. p ∷ qs) (pairs_map ps)

append_nil : {A : Type 0} (xs : List A) → xs ++ [] ≡ xs
append_nil [] = refl
append_nil (x ∷ xs) = ap (λ ys. x ∷ ys) (append_nil xs)

module _ (forms : List TyForm) (bound : List (Option Ty)) where
  abbrev meaning : ℕ → Tree
  meaning i = under forms (meant forms bound) i

  abbrev pub IsTask : Task → Type 0
  IsTask t = IsPair forms (pair_of t)

  abbrev pub IsBelow : ℕ → Task → Type 0
  IsBelow n t = size (meaning (pair_of t).left.0) < n

  -- the pair p is equal once what is above is, and the types above are smaller
  pub record IsOpen (link : ℕ → Option Ty) (p : Pair) (above : List Task) : Type 0 where
    pub closes : (f : Substitution) → Solves forms bound f → AreEqual forms f (pairs_of above) → IsEqualPair forms f p
    pub smaller : AllByRecursion (IsBelow (size (meaning p.left.0))) above
    pub left_last : link p.left.0 ≡ None
    pub right_last : size (meaning p.left.0) ≤ size (meaning p.right.0) → link p.right.0 ≡ None
    pub distinct : p.left.0 ≡ p.right.0 → ⊥
    pub right_app : (v : TyVar) → slice_get forms p.right.0 ≡ Some (Var v) → ⊥

  abbrev pub AreNested : (ℕ → Option Ty) → List Task → Type 0
  AreNested link [] = Unit {0}
  AreNested link (Unify p ∷ above) = AreNested link above
  AreNested link (Link p ∷ above) = IsOpen link p above × AreNested link above

  pub record IsRun (before : List Pair) (tasks : List Task) (link : ℕ → Option Ty) : Type 0 where
    pub within : AllByRecursion IsTask tasks
    pub same : IsSame forms bound before (pairs_of tasks)
    pub links : AreLinks forms bound link
    pub nested : AreNested link tasks

  -- the last task is replaced by others that make it equal and are no larger
  nested_replaced : (link : ℕ → Option Ty) (rest new : List Task) (p : Pair) → ((f : Substitution) → Solves forms bound f → AreEqual forms f (pairs_of new) → IsEqualPair forms f p) → AllByRecursion (IsBelow (suc (size (meaning p.left.0)))) new → AreNested link new → AreNested link (rest ++ Unify p ∷ []) → AreNested link (rest ++ new)
  nested_replaced link [] new p c b n h = n
  nested_replaced link (Unify q ∷ rest) new p c b n h = nested_replaced link rest new p c b n h
  nested_replaced link (Link q ∷ rest) new p c b n h = (
    record {
      closes = λ f g e.
          let w = subst (λ (ps : List Pair). AreEqual forms f ps) (pairs_append rest new) e in
          h.0.closes
          f
          g
          (subst
          (λ (ps : List Pair). AreEqual forms f ps)
          (sym (pairs_append rest (Unify p ∷ [])))
          (all_append (IsEqualPair forms f) (pairs_of rest) (p ∷ []) (all_left (IsEqualPair forms f) (pairs_of rest) (pairs_of new) w) (c f g (all_right (IsEqualPair forms f) (pairs_of rest) (pairs_of new) w), tt)));
      smaller = all_append (IsBelow (size (meaning q.left.0))) rest new (all_left (IsBelow (size (meaning q.left.0))) rest (Unify p ∷ []) h.0.smaller) (all_less new (all_right (IsBelow (size (meaning q.left.0))) rest (Unify p ∷ []) h.0.smaller).0 b);
      left_last = h.0.left_last;
      right_last = h.0.right_last;
      distinct = h.0.distinct;
      right_app = h.0.right_app;
    },
    nested_replaced link rest new p c b n h.1,
  )
    where
      all_less : (ts : List Task) → size (meaning p.left.0) < size (meaning q.left.0) → AllByRecursion (IsBelow (suc (size (meaning p.left.0)))) ts → AllByRecursion (IsBelow (size (meaning q.left.0))) ts
      all_less [] l a = tt
      all_less (t ∷ ts) l a = (let x = a.0 in omega arith, all_less ts l a.1)

  -- the last task is done, and links its pair
  nested_linked : (link after : ℕ → Option Ty) (rest : List Task) (p : Pair) → IsLinked link p.left.0 p.right after → AreNested link (rest ++ Link p ∷ []) → AreNested after rest
  nested_linked link after [] p l h = tt
  nested_linked link after (Unify q ∷ rest) p l h = nested_linked link after rest p l h
  nested_linked link after (Link q ∷ rest) p l h =
      let less : size (meaning p.left.0) < size (meaning q.left.0) = (all_right (IsBelow (size (meaning q.left.0))) rest (Link p ∷ []) h.0.smaller).0 in (
        record {
          closes = λ f g e.
              h.0.closes f g (subst (λ (ps : List Pair). AreEqual forms f ps) (sym (pairs_append rest (Link p ∷ []) ∙ append_nil (pairs_of rest))) e);
          smaller = all_left (IsBelow (size (meaning q.left.0))) rest (Link p ∷ []) h.0.smaller;
          left_last = l.others q.left.0 (λ n. let z = ap (λ i. size (meaning i)) n in absurd (omega arith)) ∙ h.0.left_last;
          right_last = λ w. l.others q.right.0 (λ n. let z = ap (λ i. size (meaning i)) n in absurd (omega arith)) ∙ h.0.right_last w;
          distinct = h.0.distinct;
          right_app = h.0.right_app;
        },
        nested_linked link after rest p l h.1,
      )

  pub nested_last : (link : ℕ → Option Ty) (rest : List Task) (p : Pair) → AreNested link (rest ++ Link p ∷ []) → IsOpen link p []
  nested_last link [] p h = h.0
  nested_last link (Unify q ∷ rest) p h = nested_last link rest p h
  nested_last link (Link q ∷ rest) p h = nested_last link rest p h.1

  nested_unify : (link : ℕ → Option Ty) (ps : List Pair) → AreNested link (map Unify ps)
  nested_unify link [] = tt
  nested_unify link (p ∷ ps) = nested_unify link ps

  all_pairs : (ps : List Pair) → ArePairs forms ps → AllByRecursion IsTask (map Unify ps)
  all_pairs [] h = tt
  all_pairs (p ∷ ps) h = (h.0, all_pairs ps h.1)

  pub pairs_within : (ts : List Task) → AllByRecursion IsTask ts → ArePairs forms (pairs_of ts)
  pairs_within [] h = tt
  pairs_within (Unify p ∷ ts) h = (h.0, pairs_within ts h.1)
  pairs_within (Link p ∷ ts) h = pairs_within ts h.1

  pub run_first : (ps : List Pair) (link : ℕ → Option Ty) → ArePairs forms ps → AreLinks forms bound link → IsRun ps (map Unify ps) link
  run_first ps link w l =
      record {
        within = all_pairs ps w;
        same = subst (λ (qs : List Pair). IsSame forms bound ps qs) (sym (pairs_map ps)) (record { forth = λ f g e. e; back = λ f g e. e; fails = λ names e h. h });
        links = l;
        nested = nested_unify link ps;
      }

  -- which numbers are linked, or are to be
  abbrev pub is_begun : List Task → ℕ → Bool
  is_begun [] i = false
  is_begun (Unify p ∷ ts) i = is_begun ts i
  is_begun (Link p ∷ ts) i = nat_eq i p.left.0 || is_begun ts i

  begun_left : (ts us : List Task) (i : ℕ) → is_begun ts i ≡ true → is_begun (ts ++ us) i ≡ true
  begun_left [] us i e = cc
  begun_left (Unify p ∷ ts) us i e = begun_left ts us i e
  begun_left (Link p ∷ ts) us i e =
      either
      (nat_eq i p.left.0)
      (is_begun ts i)
      ((nat_eq i p.left.0 || is_begun (ts ++ us) i) ≡ true)
      e
      (λ q. or_left (nat_eq i p.left.0) (is_begun (ts ++ us) i) q)
      (λ q. or_right (nat_eq i p.left.0) (is_begun (ts ++ us) i) (begun_left ts us i q))

  begun_right : (ts us : List Task) (i : ℕ) → is_begun us i ≡ true → is_begun (ts ++ us) i ≡ true
  begun_right [] us i e = e
  begun_right (Unify p ∷ ts) us i e = begun_right ts us i e
  begun_right (Link p ∷ ts) us i e = or_right (nat_eq i p.left.0) (is_begun (ts ++ us) i) (begun_right ts us i e)

  begun_cases : (ts us : List Task) (i : ℕ) (P : Type 0) → is_begun (ts ++ us) i ≡ true → (is_begun ts i ≡ true → P) → (is_begun us i ≡ true → P) → P
  begun_cases [] us i P e f g = g e
  begun_cases (Unify p ∷ ts) us i P e f g = begun_cases ts us i P e f g
  begun_cases (Link p ∷ ts) us i P e f g =
      either
      (nat_eq i p.left.0)
      (is_begun (ts ++ us) i)
      P
      e
      (λ q. f (or_left (nat_eq i p.left.0) (is_begun ts i) q))
      (λ q. begun_cases ts us i P q (λ r. f (or_right (nat_eq i p.left.0) (is_begun ts i) r)) g)

  -- what was begun is larger than the last task
  begun_larger : (link : ℕ → Option Ty) (rest : List Task) (p : Pair) (i : ℕ) → AreNested link (rest ++ Unify p ∷ []) → is_begun rest i ≡ true → size (meaning p.left.0) < size (meaning i)
  begun_larger link [] p i h e = cc
  begun_larger link (Unify q ∷ rest) p i h e = begun_larger link rest p i h e
  begun_larger link (Link q ∷ rest) p i h e =
      either
      (nat_eq i q.left.0)
      (is_begun rest i)
      (size (meaning p.left.0) < size (meaning i))
      e
      (λ k. let n = ap (λ j. size (meaning j)) (eqb-true i q.left.0 k) in let w = (all_right (IsBelow (size (meaning q.left.0))) rest (Unify p ∷ []) h.0.smaller).0 in omega arith)
      (λ k. begun_larger link rest p i h.1 k)

  abbrev pub busy : (ℕ → Option Ty) → List Task → ℕ → Bool
  busy link ts i = is_some (link i) || is_begun ts i

  -- what is left to do: the forms that are not begun, and the tasks
  abbrev pub left_over : (ℕ → Option Ty) → List Task → ℕ
  left_over link ts = unvisited (busy link ts) forms + length ts

  busy_none : (link : ℕ → Option Ty) (ts : List Task) (i : ℕ) → link i ≡ None → (is_begun ts i ≡ true → ⊥) → busy link ts i ≡ false
  busy_none link ts i e h = go (is_begun ts i) refl
    where
      go : (b : Bool) → is_begun ts i ≡ b → busy link ts i ≡ false
      go true q = absurd (h q)
      go false q = ap (λ o. is_some o || is_begun ts i) e ∙ q

  -- the task p is taken
  module _ (s : IsSolved forms bound) (before : List Pair) (rest : List Task) (link : ℕ → Option Ty) where
    pub link_run : (p : Pair) (after : ℕ → Option Ty) → IsRun before (rest ++ Link p ∷ []) link → IsLinked link p.left.0 p.right after → IsRun before rest after
    link_run p after k l =
        let w = all_right IsTask rest (Link p ∷ []) k.within in
        let o = nested_last link rest p k.nested in
        let equal : IsSameType forms bound p.left.0 p.right.0 = λ f g. o.closes f g tt in
        let sizes = ap size (equal (meant forms bound) (meant_solves forms bound s.acyclic)) in
        record {
          within = all_left IsTask rest (Link p ∷ []) k.within;
          same = subst (λ (ps : List Pair). IsSame forms bound before ps) (pairs_append rest (Link p ∷ []) ∙ append_nil (pairs_of rest)) k.same;
          links = links_more forms bound link after p.left.0 p.right k.links l w.0.0 w.0.1 (o.right_last (omega arith)) o.distinct o.right_app equal;
          nested = nested_linked link after rest p l k.nested;
        }

    pub link_less : (p : Pair) (after : ℕ → Option Ty) → IsLinked link p.left.0 p.right after → left_over after rest < left_over link (rest ++ Link p ∷ [])
    link_less p after l =
        let w = unvisited_mono (busy link (rest ++ Link p ∷ [])) (busy after rest) forms more in
        omega (arith, length-append rest (Link p ∷ []))
      where
        more : (i : ℕ) → busy link (rest ++ Link p ∷ []) i ≡ true → busy after rest i ≡ true
        more i e =
            either
            (is_some (link i))
            (is_begun (rest ++ Link p ∷ []) i)
            (busy after rest i ≡ true)
            e
            (λ q. or_left (is_some (after i)) (is_begun rest i) (stays i q (nat_eq i p.left.0) refl))
            (λ q. begun_cases rest (Link p ∷ []) i (busy after rest i ≡ true) q (λ r. or_right (is_some (after i)) (is_begun rest i) r) (λ r. or_left (is_some (after i)) (is_begun rest i) (now i (either (nat_eq i p.left.0) false (i ≡ p.left.0) r (λ x. eqb-true i p.left.0 x) (λ x. cc)))))
          where
            now : (i : ℕ) → i ≡ p.left.0 → is_some (after i) ≡ true
            now i n = ap (λ j. is_some (after j)) n ∙ ap is_some l.here

            stays : (i : ℕ) → is_some (link i) ≡ true → (b : Bool) → nat_eq i p.left.0 ≡ b → is_some (after i) ≡ true
            stays i q true x = now i (eqb-true i p.left.0 x)
            stays i q false x = ap is_some (l.others i (λ n. let w = eq-eqb i p.left.0 n in cc)) ∙ q

    pub drop_run : (p : Pair) → IsRun before (rest ++ Unify p ∷ []) link → ((f : Substitution) → Solves forms bound f → IsEqualPair forms f p) → IsSame forms bound before (pairs_of rest) → IsRun before rest link
    drop_run p k equal same =
        record {
          within = all_left IsTask rest (Unify p ∷ []) k.within;
          same = same;
          links = k.links;
          nested = subst (λ (ts : List Task). AreNested link ts) (append_nil rest) (nested_replaced link rest [] p (λ f g e. equal f g) tt tt k.nested);
        }

    pub drop_less : (p : Pair) → left_over link rest < left_over link (rest ++ Unify p ∷ [])
    drop_less p =
        let w = unvisited_mono (busy link (rest ++ Unify p ∷ [])) (busy link rest) forms more in
        omega (arith, length-append rest (Unify p ∷ []))
      where
        more : (i : ℕ) → busy link (rest ++ Unify p ∷ []) i ≡ true → busy link rest i ≡ true
        more i e =
            either
            (is_some (link i))
            (is_begun (rest ++ Unify p ∷ []) i)
            (busy link rest i ≡ true)
            e
            (λ q. or_left (is_some (link i)) (is_begun rest i) q)
            (λ q. begun_cases rest (Unify p ∷ []) i (busy link rest i ≡ true) q (λ r. or_right (is_some (link i)) (is_begun rest i) r) (λ r. cc))

    -- two forms are taken apart
    module _ (p q : Pair) (k : IsRun before (rest ++ Unify p ∷ []) link) (within : IsPair forms q) (a b : TyForm) (l : slice_get forms q.left.0 ≡ Some a) (r : slice_get forms q.right.0 ≡ Some b) (x : (v : TyVar) → a ≡ Var v → ⊥) (y : (v : TyVar) → b ≡ Var v → ⊥) (left : IsSameType forms bound p.left.0 q.left.0) (right : IsSameType forms bound p.right.0 q.right.0) (like : IsLike a b) (left_last : link q.left.0 ≡ None) (right_last : link q.right.0 ≡ None) (distinct : q.left.0 ≡ q.right.0 → ⊥) where
      abbrev opened : List Task
      opened = Link q ∷ parts_tasks (parts_of a) (parts_of b)

      same_size : size (meaning p.left.0) ≡ size (meaning q.left.0)
      same_size = ap size (left (meant forms bound) (meant_solves forms bound s.acyclic))

      whole_size : size (meaning q.left.0) ≡ suc (size (inst (meant forms bound) (listed (tree forms) (parts_of a))))
      whole_size = ap size (at_app forms bound s (meant forms bound) q.left.0 a l x) ∙ omega arith

      parts_below : (n : ℕ) (is js : List ℕ) → size (inst (meant forms bound) (listed (tree forms) is)) < n → AllByRecursion (IsBelow n) (map Unify (last_first is js))
      parts_below n [] js h = tt
      parts_below n (i ∷ is) [] h = tt
      parts_below n (i ∷ is) (j ∷ js) h =
          subst
          (λ (ts : List Task). AllByRecursion (IsBelow n) ts)
          (sym (map_append (last_first is js) (record { left = record { 0 = i }; right = record { 0 = j } } ∷ [])))
          (all_append (IsBelow n) (map Unify (last_first is js)) (Unify (record { left = record { 0 = i }; right = record { 0 = j } }) ∷ []) (parts_below n is js (omega arith)) (omega arith, tt))
        where
          map_append : (ps qs : List Pair) → map Unify (ps ++ qs) ≡ map Unify ps ++ map Unify qs
          map_append [] qs = refl
          map_append (z ∷ ps) qs = ap (λ ts. Unify z ∷ ts) (map_append ps qs)

      closes : (f : Substitution) → Solves forms bound f → AreEqual forms f (pairs_of (parts_tasks (parts_of a) (parts_of b))) → IsEqualPair forms f q
      closes f g e =
          app_back
          forms
          bound
          s
          q
          q.left.0
          q.right.0
          a
          b
          (λ h m. refl)
          (λ h m. refl)
          l
          r
          x
          y
          like.0
          f
          g
          (parts_back forms f (parts_of a) (parts_of b) like.1 (subst (λ (ps : List Pair). AreEqual forms f ps) (pairs_map (last_first (parts_of a) (parts_of b))) e))

      pub open_run : ArePairs forms (last_first (parts_of a) (parts_of b)) → IsSame forms bound before (pairs_of rest ++ last_first (parts_of a) (parts_of b)) → IsRun before (rest ++ opened) link
      open_run w same =
          record {
            within = all_append IsTask rest opened (all_left IsTask rest (Unify p ∷ []) k.within) (within, all_pairs (last_first (parts_of a) (parts_of b)) w);
            same = subst (λ (ps : List Pair). IsSame forms bound before ps) (sym (pairs_append rest opened ∙ ap (λ ps. pairs_of rest ++ ps) (pairs_map (last_first (parts_of a) (parts_of b))))) same;
            links = k.links;
            nested = nested_replaced link rest opened p (λ f g e. left f g ∙ closes f g e ∙ sym (right f g)) (let n = same_size in omega arith, parts_below (suc (size (meaning p.left.0))) (parts_of a) (parts_of b) (let n = same_size in let m = whole_size in omega arith)) (record { closes = closes; smaller = parts_below (size (meaning q.left.0)) (parts_of a) (parts_of b) (let m = whole_size in omega arith); left_last = left_last; right_last = λ h. right_last; distinct = distinct; right_app = λ v e. y v (let z : Some b ≡ Some (Var v) = sym r ∙ e in cc) }, nested_unify link (last_first (parts_of a) (parts_of b))) k.nested;
          }

      parts_count : (is js : List ℕ) → length is ≡ length js → length (map Unify (last_first is js)) ≡ length is
      parts_count [] js n = refl
      parts_count (i ∷ is) [] n = absurd (omega arith)
      parts_count (i ∷ is) (j ∷ js) n =
          length_map (last_first is js ++ record { left = record { 0 = i }; right = record { 0 = j } } ∷ [])
          ∙ length-append (last_first is js) (record { left = record { 0 = i }; right = record { 0 = j } } ∷ [])
          ∙ (let m = length_map (last_first is js) in let o = parts_count is js (omega arith) in omega arith)
        where
          length_map : (ps : List Pair) → length (map Unify ps) ≡ length ps
          length_map [] = refl
          length_map (z ∷ ps) = ap suc (length_map ps)

      pub open_less : left_over link (rest ++ opened) < left_over link (rest ++ Unify p ∷ [])
      open_less =
          let w = unvisited_falls (busy link (rest ++ Unify p ∷ [])) (busy link (rest ++ opened)) forms q.left.0 a l before_false after_true more in
          omega (arith, length-append rest (Unify p ∷ []), length-append rest opened, parts_count (parts_of a) (parts_of b) like.1)
        where
          before_false : busy link (rest ++ Unify p ∷ []) q.left.0 ≡ false
          before_false =
              busy_none
              link
              (rest ++ Unify p ∷ [])
              q.left.0
              left_last
              (λ e. begun_cases rest (Unify p ∷ []) q.left.0 ⊥ e (λ o. let n = begun_larger link rest p q.left.0 k.nested o in let m = same_size in absurd (omega arith)) (λ o. cc))

          after_true : busy link (rest ++ opened) q.left.0 ≡ true
          after_true =
              or_right (is_some (link q.left.0)) (is_begun (rest ++ opened) q.left.0) (begun_right rest opened q.left.0 (or_left (nat_eq q.left.0 q.left.0) (is_begun (parts_tasks (parts_of a) (parts_of b)) q.left.0) (eq-eqb q.left.0 q.left.0 refl)))

          more : (i : ℕ) → busy link (rest ++ Unify p ∷ []) i ≡ true → busy link (rest ++ opened) i ≡ true
          more i e =
              either
              (is_some (link i))
              (is_begun (rest ++ Unify p ∷ []) i)
              (busy link (rest ++ opened) i ≡ true)
              e
              (λ o. or_left (is_some (link i)) (is_begun (rest ++ opened) i) o)
              (λ o. begun_cases rest (Unify p ∷ []) i (busy link (rest ++ opened) i ≡ true) o (λ z. or_right (is_some (link i)) (is_begun (rest ++ opened) i) (begun_left rest opened i z)) (λ z. cc))

pub pairs_step : (ts : List Task) (i : ℕ) (p : Pair) → slice_get ts i ≡ Some (Unify p) → pairs_of (take (i + 1) ts) ≡ pairs_of (take i ts) ++ p ∷ []
pairs_step [] i p e = cc
pairs_step (t ∷ ts) zero p e = let same : t ≡ Unify p = cc in ap (λ u. pairs_of (u ∷ [])) same
pairs_step (Unify q ∷ ts) (suc i) p e = ap (λ n. pairs_of (take n (Unify q ∷ ts))) (step i) ∙ ap (λ ps. q ∷ ps) (pairs_step ts i p e)
  where
    step : (j : ℕ) → suc j + 1 ≡ suc (j + 1)
    step j = omega arith
pairs_step (Link q ∷ ts) (suc i) p e = ap (λ n. pairs_of (take n (Link q ∷ ts))) (step i) ∙ pairs_step ts i p e
  where
    step : (j : ℕ) → suc j + 1 ≡ suc (j + 1)
    step j = omega arith

pub pairs_skip : (ts : List Task) (i : ℕ) (t : Task) → slice_get ts i ≡ Some t → ((p : Pair) → t ≡ Unify p → ⊥) → pairs_of (take (i + 1) ts) ≡ pairs_of (take i ts)
pairs_skip [] i t e h = cc
pairs_skip (Unify q ∷ ts) zero t e h = let same : Unify q ≡ t = cc in absurd (h q (sym same))
pairs_skip (Link q ∷ ts) zero t e h = refl
pairs_skip (Unify q ∷ ts) (suc i) t e h = ap (λ n. pairs_of (take n (Unify q ∷ ts))) (step i) ∙ ap (λ ps. q ∷ ps) (pairs_skip ts i t e h)
  where
    step : (j : ℕ) → suc j + 1 ≡ suc (j + 1)
    step j = omega arith
pairs_skip (Link q ∷ ts) (suc i) t e h = ap (λ n. pairs_of (take n (Link q ∷ ts))) (step i) ∙ pairs_skip ts i t e h
  where
    step : (j : ℕ) → suc j + 1 ≡ suc (j + 1)
    step j = omega arith
