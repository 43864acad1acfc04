-- A round keeps a program slim, and so do all rounds.
use Rattle.std.proofs.Common.{◌≡◌, ℕ, zero, suc, ◌≤◌, List, [], ◌∷◌, map, Bool, true, false, cond, ◌||◌, Some, ◌⊎◌, inl, inr, refl, sym, ap, ◌∙◌, subst, arith, ⊎_elim, nat_lt}
use Rattle.std.specs.Prelude.{filter, if◌then◌else◌}
use Rattle.std.specs.Option.{is_some}
use Rattle.smlc_base.specs.declared.point.Point.{Point}
use Rattle.smlc_base.specs.Points.{is_point, is_label}
use Rattle.smlc_base.specs.SiteWords.{find_site, site_words}
use Rattle.simulation.specs.Blocks.{IsAmong}
use Rattle.simulation.proofs.Nth.{point_is_one}
use Rattle.simulation.proofs.Lists.{among_left, among_right, among_append, label_times, times_label}
use Rattle.sml_tree.specs.IsBare.{IsAscending}
use Rattle.sml_tree.specs.Sets.{has, without}
use Rattle.sml_tree.proofs.AscendingSets.{filter_ascending}
use Rattle.cps_ir.specs.declared.atom.Atom.TheVariants as atom
use Rattle.cps_ir.specs.Code.{Tree, Code, Make, Pick, Prim, Equal, Fix, Call, Match, Handler, SetHandler, Throw, Halt, Functions, NoFunction, Function, Rules, Otherwise, Rule}
use Rattle.cps_ir.specs.Free.{free_code, labels, labels_functions, labels_rules}
use Rattle.cps_ir.specs.Slim.{Layout, layouts, layouts_functions, layouts_rules, AreClosed, IsClosedSet, holds_of, most_held, IsSlim}
use Rattle.cps_free.proofs.Table.{code_ascending}
use Rattle.close_laws.specs.Layouts.{closed_names}
use Rattle.close_laws.proofs.ClosedSets.{greatest_closed}
use Rattle.contract_laws.specs.Contract.{start}
use Rattle.contract_laws.specs.Law.{with_code}
use Rattle.contract_laws.specs.Redex.{nodes}
use Rattle.contract_laws.proofs.Free.{In, in_cases, in_head, in_tail, in_among, among_in, without_in, in_without}
use Rattle.contract_laws.proofs.Pigeon.{Distinct, pigeon}
use Rattle.contract_round.specs.Round as definition
use Rattle.contract_round.specs.Law.{IsWhole}
use Rattle.contract_round.proofs.RoundLaw.{walked, fewer_points, one_round, round_whole}
use Rattle.contract_slim.specs.Law.{ContractedIsSlim}
use Rattle.contract_slim.proofs.Fair.{only_closed, whole_fair}
use Rattle.contract_slim.proofs.Carried.{Comes, come}
use Rattle.contract_slim.proofs.Words.{words_more, most_more}

-- ---- Lists

pub kept_in : (P : ℕ → Bool) (xs : List ℕ) (x : ℕ) → In x (filter P xs) → (P x ≡ true) × In x xs
kept_in P [] x h = absurd (cc)
kept_in P (y ∷ xs) x h = by (P y) refl (kept_in P xs x) h
  where
    by : (b : Bool) → P y ≡ b → (In x (filter P xs) → (P x ≡ true) × In x xs) → In x (if b then y ∷ filter P xs else filter P xs) → (P x ≡ true) × In x (y ∷ xs)
    by true e f g = ⊎_elim (λ (s : x ≡ y). (ap P s ∙ e, in_head x y xs s)) (λ (s : In x (filter P xs)). let r = f s in (r.0, in_tail x y xs r.1)) (in_cases x y (filter P xs) g)
    by false e f g = let r = f g in (r.0, in_tail x y xs r.1)

pub in_kept : (P : ℕ → Bool) (xs : List ℕ) (x : ℕ) → P x ≡ true → In x xs → In x (filter P xs)
in_kept P [] x e h = absurd (cc)
in_kept P (y ∷ xs) x e h = by (P y) refl (in_kept P xs x e) (in_cases x y xs h)
  where
    by : (b : Bool) → P y ≡ b → (In x xs → In x (filter P xs)) → (x ≡ y) ⊎ In x xs → In x (if b then y ∷ filter P xs else filter P xs)
    by true g f (inl s) = in_head x y (filter P xs) s
    by true g f (inr s) = in_tail x y (filter P xs) (f s)
    by false g f (inl s) = absurd (let k : true ≡ false = sym e ∙ ap P s ∙ g in cc)
    by false g f (inr s) = f s

above : (lo x : ℕ) (xs : List ℕ) → IsAscending lo xs → IsAmong x xs → lo ≤ x
above lo x [] a i = absurd i
above lo x (y ∷ xs) a (inl e) = let h = a.0 in omega (arith, h, e)
above lo x (y ∷ xs) a (inr i) = let h = above (suc y) x xs a.1 i in let g = a.0 in omega (arith, h, g)

pub ascending_distinct : (lo : ℕ) (xs : List ℕ) → IsAscending lo xs → Distinct xs
ascending_distinct lo [] a = tt
ascending_distinct lo (x ∷ xs) a =
    ((λ i. let h = above (suc x) x xs a.1 i in omega (arith, h)), ascending_distinct (suc x) xs a.1)

name_in : (ls : List Layout) (l : Layout) → IsAmong l ls → IsAmong l.name (map (λ k. k.name) ls)
name_in [] l i = absurd i
name_in (k ∷ ls) l (inl e) = inl (ap (λ t. t.name) e)
name_in (k ∷ ls) l (inr i) = inr (name_in ls l i)

named_in : (ls : List Layout) (x : ℕ) → IsAmong x (map (λ k. k.name) ls) → (l : Layout) × IsAmong l ls × (l.name ≡ x)
named_in [] x i = absurd i
named_in (k ∷ ls) x (inl e) = (k, inl refl, sym e)
named_in (k ∷ ls) x (inr i) = let r = named_in ls x i in (r.0, inr r.1, r.2)

-- ---- Layouts

-- the point of a function is a label
mutual
  pub point_stands : (c : Code) (l : Layout) → IsAmong l (layouts c) → IsAmong l.point (labels c)
  point_stands (Make x shape atoms c) l i = point_stands c l i
  point_stands (Pick x n a c) l i = point_stands c l i
  point_stands (Prim x f atoms c) l i = point_stands c l i
  point_stands (Equal a b t k) l i = absurd i
  point_stands (Fix fs c) l i = ⊎_elim
      (λ (j : IsAmong l (layouts_functions fs)). among_left l.point (labels_functions fs) (labels c) (point_stands_in fs l j))
      (λ (j : IsAmong l (layouts c)). among_right l.point (labels_functions fs) (labels c) (point_stands c l j))
      (among_append l (layouts_functions fs) (layouts c) i)
  point_stands (Call a atoms) l i = absurd i
  point_stands (Match a rules) l i = point_stands_rules rules l i
  point_stands (Handler x c) l i = point_stands c l i
  point_stands (SetHandler a c) l i = point_stands c l i
  point_stands (Throw a) l i = absurd i
  point_stands Halt l i = absurd i

  point_stands_in : (fs : Functions) (l : Layout) → IsAmong l (layouts_functions fs) → IsAmong l.point (labels_functions fs)
  point_stands_in NoFunction l i = absurd i
  point_stands_in (Function f p params b fs) l (inl e) = inl (ap (λ (t : Layout). t.point) e)
  point_stands_in (Function f p params b fs) l (inr i) = inr (⊎_elim
      (λ (j : IsAmong l (layouts b)). among_left l.point (labels b) (labels_functions fs) (point_stands b l j))
      (λ (j : IsAmong l (layouts_functions fs)). among_right l.point (labels b) (labels_functions fs) (point_stands_in fs l j))
      (among_append l (layouts b) (layouts_functions fs) i))

  point_stands_rules : (rs : Rules) (l : Layout) → IsAmong l (layouts_rules rs) → IsAmong l.point (labels_rules rs)
  point_stands_rules (Otherwise c) l i = point_stands c l i
  point_stands_rules (Rule ts c rs) l i = ⊎_elim
      (λ (j : IsAmong l (layouts c)). among_left l.point (labels c) (labels_rules rs) (point_stands c l j))
      (λ (j : IsAmong l (layouts_rules rs)). among_right l.point (labels c) (labels_rules rs) (point_stands_rules rs l j))
      (among_append l (layouts c) (layouts_rules rs) i)

-- what a function holds is a set
mutual
  pub free_ascends : (c : Code) (l : Layout) → IsAmong l (layouts c) → IsAscending 0 l.free
  free_ascends (Make x shape atoms c) l i = free_ascends c l i
  free_ascends (Pick x n a c) l i = free_ascends c l i
  free_ascends (Prim x f atoms c) l i = free_ascends c l i
  free_ascends (Equal a b t k) l i = absurd i
  free_ascends (Fix fs c) l i =
      ⊎_elim (λ (j : IsAmong l (layouts_functions fs)). free_ascends_in fs l j) (λ (j : IsAmong l (layouts c)). free_ascends c l j) (among_append l (layouts_functions fs) (layouts c) i)
  free_ascends (Call a atoms) l i = absurd i
  free_ascends (Match a rules) l i = free_ascends_rules rules l i
  free_ascends (Handler x c) l i = free_ascends c l i
  free_ascends (SetHandler a c) l i = free_ascends c l i
  free_ascends (Throw a) l i = absurd i
  free_ascends Halt l i = absurd i

  free_ascends_in : (fs : Functions) (l : Layout) → IsAmong l (layouts_functions fs) → IsAscending 0 l.free
  free_ascends_in NoFunction l i = absurd i
  free_ascends_in (Function f p params b fs) l (inl e) =
      subst (λ (t : Layout). IsAscending 0 t.free) (sym e) (filter_ascending _ 0 (free_code b) (code_ascending b))
  free_ascends_in (Function f p params b fs) l (inr i) =
      ⊎_elim (λ (j : IsAmong l (layouts b)). free_ascends b l j) (λ (j : IsAmong l (layouts_functions fs)). free_ascends_in fs l j) (among_append l (layouts b) (layouts_functions fs) i)

  free_ascends_rules : (rs : Rules) (l : Layout) → IsAmong l (layouts_rules rs) → IsAscending 0 l.free
  free_ascends_rules (Otherwise c) l i = free_ascends c l i
  free_ascends_rules (Rule ts c rs) l i =
      ⊎_elim (λ (j : IsAmong l (layouts c)). free_ascends c l j) (λ (j : IsAmong l (layouts_rules rs)). free_ascends_rules rs l j) (among_append l (layouts c) (layouts_rules rs) i)

or_first : (a b : Bool) → a ≡ true → (a || b) ≡ true
or_first true b e = refl
or_first false b e = absurd (cc)

or_later : (a b : Bool) → b ≡ true → (a || b) ≡ true
or_later true b e = refl
or_later false b e = e

pub label_of : (p : Point) (ps : List Point) → IsAmong p ps → is_label ps p ≡ true
label_of p [] i = absurd i
label_of p (q ∷ ps) (inl e) = or_first (is_point q p) (is_label ps p) (subst (λ t. is_point t p ≡ true) e (point_is_one p))
label_of p (q ∷ ps) (inr i) = or_later (is_point q p) (is_label ps p) (label_of p ps i)

var_same : (x y : ℕ) → Some (atom.Var x) ≡ Some (atom.Var y) → x ≡ y
var_same x y e = cc

le_three : {a b c d : ℕ} → a ≤ b → b ≤ c → c ≤ d → a ≤ d
le_three h g k = omega (arith, h, g, k)

-- ---- A round

module _ (q : Tree) (w : IsWhole q.code) (s : IsSlim q) where
  abbrev c : Code
  c = q.code

  abbrev d : Code
  d = definition.round q.texts q.code

  abbrev closed : List ℕ
  closed = closed_names (layouts c)

  abbrev K : ℕ → Type 0
  K x = In x closed

  abbrev answers : List ℕ
  answers = map (λ l. l.name) (layouts d)

  abbrev N : ℕ → Type 0
  N x = In x answers

  comes : (l : Layout) → IsAmong l (layouts d) → Comes q.texts (labels d) K N (layouts c) l
  comes = come q.texts (labels d) K N (layouts c) (walked q.texts c w).least start c d (one_round q.texts c w)
      (record { names = λ x y k e. absurd (cc); bodies = λ f b e. absurd (cc) }) (whole_fair c closed w.once (greatest_closed c).are)
      (λ l i. (among_in l.name answers (name_in (layouts d) l i), label_of l.point (labels d) (point_stands d l i)))

  fewer : (p : Point) → is_label (labels d) p ≡ true → is_label (labels c) p ≡ true
  fewer p e = let h = label_times p (labels d) e in let k = fewer_points q.texts c w p in times_label p (labels c) (omega (arith, h, k))

  -- closed functions that are left are closed still
  abbrev still : List ℕ
  still = filter (λ x. has answers x) closed

  in_still : (x : ℕ) → K x → N x → In x still
  in_still x k n = in_kept (λ y. has answers y) closed x n k

  only : (l : Layout) → IsAmong l (layouts c) → K l.name → (y : ℕ) → In y l.free → (y ≡ l.name) ⊎ K y
  only = only_closed c closed w.once (greatest_closed c).are

  still_closed : AreClosed (layouts d) still
  still_closed x h =
      let k = kept_in (λ y. has answers y) closed x h in
      let n = named_in (layouts d) x (in_among x answers k.0) in
      let r = comes n.0 n.1 in
      let closes : K r.source.name = subst K (sym (r.name ∙ n.2)) k.1 in (
        n.0,
        n.1,
        n.2,
        λ y i.
            let t = r.from y i in
            ⊎_elim
            (λ (e : t.0 ≡ r.source.name). in_head y x still (r.self y (subst (λ z. r.σ z ≡ Some (atom.Var y)) (e ∙ r.name) t.2) ∙ n.2))
            (λ (e : K t.0). let m = r.keep t.0 y e t.2 in in_tail y x still (in_still y m.0 m.1))
            (only r.source r.among closes t.0 t.1),
      )

  holds_no_more : (closes : List ℕ) → IsClosedSet d closes → (l : Layout) → IsAmong l (layouts d) → (r : Comes q.texts (labels d) K N (layouts c) l) → holds_of closes l ≤ holds_of closed r.source
  holds_no_more closes g l i r =
      pigeon (λ x y. r.σ x ≡ Some (atom.Var y)) (λ x y z e f. let k : Some (atom.Var y) ≡ Some (atom.Var z) = sym e ∙ f in var_same y z k) (without l.free (l.name ∷ closes)) (without r.source.free (r.source.name ∷ closed))
      (ascending_distinct 0 (without l.free (l.name ∷ closes)) (filter_ascending _ 0 l.free (free_ascends d l i)))
      (λ y j.
      let o = without_in y l.free (l.name ∷ closes) (among_in y (without l.free (l.name ∷ closes)) j) in
      let t = r.from y o.1 in
      let out : In t.0 (r.source.name ∷ closed) → ⊥ = λ m. ⊎_elim
      (λ (e : t.0 ≡ r.source.name). o.0 (in_head y l.name closes (r.self y (subst (λ z. r.σ z ≡ Some (atom.Var y)) (e ∙ r.name) t.2))))
      (λ (e : K t.0). let k = r.keep t.0 y e t.2 in o.0 (in_tail y l.name closes (g.greatest still still_closed y (in_still y k.0 k.1))))
      (in_cases t.0 r.source.name closed m) in
      (t.0, in_among t.0 (without r.source.free (r.source.name ∷ closed)) (in_without t.0 r.source.free (r.source.name ∷ closed) out t.1), t.2))

  round_slim : IsSlim (with_code q d)
  round_slim = record {
    fit = s.fit;
    once = (round_whole q.texts c w).points;
    functions = (round_whole q.texts c w).functions;
    stand = λ l i. let r = comes l i in subst (λ p. is_some (find_site q.sites p) ≡ true) r.point (s.stand r.source r.among);
    held = λ closes g l i.
        let r = comes l i in
        let few = holds_no_more closes g l i r in
        let most = s.held closed (greatest_closed c) r.source r.among in
        let grown = most_more r.source.point.kind (site_words (labels c) q.sites r.source.point) (site_words (labels d) q.sites r.source.point) (words_more (labels d) (labels c) fewer q.sites r.source.point) in
        subst (λ (p : Point). holds_of closes l ≤ most_held p.kind (site_words (labels d) q.sites p)) r.point (le_three few most grown);
  }

-- ---- All rounds

rounds_slim : (n : ℕ) (q : Tree) → IsWhole q.code → IsSlim q → IsSlim (with_code q (definition.rounds q.texts n q.code))
rounds_slim zero q w s = s
rounds_slim (suc n) q w s =
    by (nat_lt (nodes next) (nodes q.code)) (rounds_slim n (with_code q next) (round_whole q.texts q.code w) (round_slim q w s))
  where
    next : Code
    next = definition.round q.texts q.code

    by : (a : Bool) → IsSlim (with_code q (definition.rounds q.texts n next)) → IsSlim (with_code q (cond a (definition.rounds q.texts n next) next))
    by true r = r
    by false r = round_slim q w s

pub contracted_slim : ContractedIsSlim
contracted_slim q w s = rounds_slim (nodes q.code) q w s
