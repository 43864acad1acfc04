-- Each function of the answer of a round comes of one of the argument: what is free in it came of what was free in that, and closed functions stay closed.
use Rattle.std.proofs.Common.{◌≡◌, ◌≢◌, ℕ, List, [], ◌∷◌, ◌++◌, Bool, true, false, cond, Option, Some, None, inl, inr, refl, sym, ap, ◌∙◌, subst, ⊎_elim, eqb-true, eq-eqb, nat_eq}
use Rattle.std.specs.List.{AllByRecursion}
use Rattle.smlc_base.specs.declared.point.Point.{Point}
use Rattle.smlc_base.specs.Points.{is_label}
use Rattle.simulation.specs.Blocks.{IsAmong}
use Rattle.simulation.proofs.Lists.{among_left, among_right, among_append, some_eq}
use Rattle.sml_tree.specs.Sets.{without}
use Rattle.cps_ir.specs.declared.atom.Atom.{Atom}
use Rattle.cps_ir.specs.declared.atom.Atom.TheVariants as atom
use Rattle.cps_ir.specs.Code.{Code, Functions, NoFunction, Function, Rules, Otherwise, names_of}
use Rattle.cps_ir.specs.Free.{free_code}
use Rattle.cps_ir.specs.Slim.{Layout, layouts, layouts_functions, layouts_rules}
use Rattle.cps_ir.specs.State.{bind}
use Rattle.contract_laws.specs.Contract.{Made, Body, Scope, Fresh, AllFresh, kept, lost, params_kept, inner, given_atoms, called, Contracts, make, pick, does, equal, call, match, handler, set_handler, throw, halt, no_make, no_pick, no_prim, inline, known_pick, chosen, Aliases, no_alias, next_alias, alias, Bodies, no_body, next_body, put_body, group, group_gone, SomeContract, some_none, some_both, some_skip, RulesContract, otherwise, rule, last, drop}
use Rattle.contract_laws.proofs.Free.{In, without_in, in_without, in_left, one_in, in_among, Or, closed_inner, out_of, free_of, bind_cases}
use Rattle.contract_slim.proofs.Fair.{layout_of, Fair, FairAll, FairRules}

module _ (T : List (List ℕ)) (L : List Point) (K N : ℕ → Type 0) (C : List Layout) where
  -- a closed function stands for a closed function, which the answer has
  abbrev pub Keep : (ℕ → Option Atom) → Type 0
  Keep σ = (x y : ℕ) → K x → σ x ≡ Some (atom.Var y) → K y × N y

  abbrev pub Unclosed : List ℕ → Type 0
  Unclosed xs = AllByRecursion (λ x. K x → ⊥) xs

  pub record BodyGood (b : Body) : Type 0 where
    pub fair : Fair K C b.code
    pub params : Unclosed b.params
    pub keep : Keep b.σ

  pub record Good (S : Scope) : Type 0 where
    pub names : Keep S.σ
    pub bodies : (f : ℕ) (b : Body) → S.ι f ≡ Some b → BodyGood b

  pub record Comes (l : Layout) : Type 0 where
    pub source : Layout
    pub among : IsAmong source C
    pub name : source.name ≡ l.name
    pub point : source.point ≡ l.point
    pub σ : ℕ → Option Atom
    pub keep : Keep σ
    pub self : (y : ℕ) → σ l.name ≡ Some (atom.Var y) → y ≡ l.name
    pub from : (y : ℕ) → In y l.free → (t : ℕ) × In t source.free × (σ t ≡ Some (atom.Var y))

  abbrev pub AllCome : List Layout → Type 0
  AllCome ls = (l : Layout) → IsAmong l ls → Comes l

  abbrev pub AllStand : List Layout → Type 0
  AllStand ls = (l : Layout) → IsAmong l ls → N l.name × (is_label L l.point ≡ true)

  both_come : (ls ms : List Layout) → AllCome ls → AllCome ms → AllCome (ls ++ ms)
  both_come ls ms h g l i =
      ⊎_elim (λ (j : IsAmong l ls). h l j) (λ (j : IsAmong l ms). g l j) (among_append l ls ms i)

  one_come : (l : Layout) (ls : List Layout) → Comes l → AllCome ls → AllCome (l ∷ ls)
  one_come l ls h g m i = ⊎_elim (λ (e : m ≡ l). subst Comes (sym e) h) (λ (j : IsAmong m ls). g m j) i

  -- ---- Scopes

  keep_bound : (σ : ℕ → Option Atom) (x : ℕ) (o : Option Atom) → Keep σ → (K x → (y : ℕ) → o ≡ Some (atom.Var y) → K y × N y) → Keep (bind σ x o)
  keep_bound σ x o h g z y k e = ⊎_elim
      (λ (u : (z ≡ x) × (o ≡ Some (atom.Var y))). g (subst K u.0 k) y u.1)
      (λ (u : (z ≢ x) × (σ z ≡ Some (atom.Var y))). h z y k u.1)
      (bind_cases σ x o z (atom.Var y) e)

  var_same : (x y : ℕ) → Some (atom.Var x) ≡ Some (atom.Var y) → x ≡ y
  var_same x y e = cc

  keep_self : (σ : ℕ → Option Atom) (x : ℕ) → Keep σ → (K x → N x) → Keep (bind σ x (Some (atom.Var x)))
  keep_self σ x h n = keep_bound σ x (Some (atom.Var x)) h (λ k y e. subst (λ z. K z × N z) (var_same x y e) (k, n k))

  good_kept : (S : Scope) (x : ℕ) (t : Option Made) → Good S → (K x → N x) → Good (kept S x t)
  good_kept S x t g n = record {
    names = keep_self S.σ x g.names n;
    bodies = λ f b e. ⊎_elim
        (λ (u : (f ≡ x) × (None ≡ Some b)). absurd (let k = u.1 in cc))
        (λ (u : (f ≢ x) × (S.ι f ≡ Some b)). g.bodies f b u.1)
        (bind_cases S.ι x None f b e);
  }

  good_lost : (S : Scope) (x : ℕ) (o : Option Atom) (i : Option Body) → Good S → (K x → (y : ℕ) → o ≡ Some (atom.Var y) → K y × N y) → ((b : Body) → i ≡ Some b → BodyGood b) → Good (lost S x o i)
  good_lost S x o i g n m = record {
    names = keep_bound S.σ x o g.names n;
    bodies = λ f b e. ⊎_elim
        (λ (u : (f ≡ x) × (i ≡ Some b)). m b u.1)
        (λ (u : (f ≢ x) × (S.ι f ≡ Some b)). g.bodies f b u.1)
        (bind_cases S.ι x i f b e);
  }

  good_gone : (S : Scope) (x : ℕ) → Good S → Good (lost S x None None)
  good_gone S x g = good_lost S x None None g (λ k y e. absurd (cc)) (λ b e. absurd (cc))

  keep_params : (xs : List ℕ) (σ : ℕ → Option Atom) → Unclosed xs → Keep σ → Keep (params_kept σ xs)
  keep_params [] σ u h = h
  keep_params (x ∷ xs) σ u h = keep_params xs (bind σ x (Some (atom.Var x))) u.1 (keep_self σ x h (λ k. absurd (u.0 k)))

  keep_given : (xs : List ℕ) (bs : List Atom) (σ : ℕ → Option Atom) → Unclosed xs → Keep σ → Keep (given_atoms σ xs bs)
  keep_given [] bs σ u h = h
  keep_given (x ∷ xs) [] σ u h = h
  keep_given (x ∷ xs) (b ∷ bs) σ u h =
      keep_given xs bs (bind σ x (Some b)) u.1 (keep_bound σ x (Some b) h (λ k. absurd (u.0 k)))

  good_inner : (S : Scope) (xs : List ℕ) → Good S → Unclosed xs → Good (inner S xs)
  good_inner S xs g u = record { names = keep_params xs S.σ u g.names; bodies = λ f b e. absurd (cc) }

  good_called : (S : Scope) (b : Body) (bs : List Atom) → BodyGood b → Good (called S b bs)
  good_called S b bs g = record { names = keep_given b.params bs b.σ g.params g.keep; bodies = λ f v e. absurd (cc) }

  -- ---- Groups

  good_some : (Z S U : Scope) (fs gs : Functions) → SomeContract T L Z S fs gs U → ((f : ℕ) → IsAmong f (names_of gs) → N f) → Good S → Good U
  good_some Z S U fs gs (some_none Z' S') n g = g
  good_some Z S U fs gs (some_both w Z' S' U' f p xs b d hs ks fr frs k e) n g =
      good_some Z (kept S f None) U hs ks e (λ x i. n x (inr i)) (good_kept S f None g (λ c. n f (inl refl)))
  good_some Z S U fs gs (some_skip Z' S' U' f p xs b hs ks e) n g =
      good_some Z (lost S f None None) U hs gs e n (good_gone S f g)

  good_aliases : (U Y : Scope) (fs : Functions) → Aliases L fs U Y → FairAll K C fs → Good U → Good Y
  good_aliases U Y fs (no_alias S) a g = g
  good_aliases U Y fs (next_alias S Z f p xs b hs r) a g = good_aliases U Y hs r a.4 g
  good_aliases U Y fs (alias S Z f p xs x us hs b hid same out dis at r) a g =
      good_aliases (lost U f (Some b) None) Y hs r a.4
      (good_lost U f (Some b) None g
      (λ k y e. let to : U.σ x ≡ Some (atom.Var y) = at ∙ e in
      let free = in_without x _ xs (λ j. out (in_among x xs j)) (in_left x (x ∷ []) _ (one_in x x refl)) in
      ⊎_elim (λ (s : x ≡ f). g.names x y (subst K (sym s) k) to) (λ (s : K x). g.names x y s to) (a.1 k x free))
      (λ v e. absurd (cc)))

  good_bodies : (σ : ℕ → Option Atom) (Y Z : Scope) (fs : Functions) → Bodies L σ fs Y Z → FairAll K C fs → Keep σ → Good Y → Good Z
  good_bodies σ Y Z fs (no_body S) a h g = g
  good_bodies σ Y Z fs (next_body S Z' f p xs b hs r) a h g = good_bodies σ Y Z hs r a.4 h g
  good_bodies σ Y Z fs (put_body S Z' f p xs b hs hid r) a h g =
      let body : Body = record { params = xs; code = b; σ = σ } in
      good_bodies σ (lost Y f (Y.σ f) (Some body)) Z hs r a.4 h
      (good_lost Y f (Y.σ f) (Some body) g (λ k y e. g.names f y k e)
      (λ v e. some_eq BodyGood body v e (record { fair = a.3; params = a.0; keep = h })))

  -- ---- A function that is kept stands for itself

  -- a function of that name has a label of the answer
  abbrev Labelled : ℕ → Functions → Type 0
  Labelled x NoFunction = Unit {0}
  Labelled x (Function f p params b fs) = (f ≡ x → is_label L p ≡ true) × Labelled x fs

  fresh_from : (xs ns : List ℕ) (x : ℕ) → AllFresh xs ns → IsAmong x xs → Fresh x ns
  fresh_from [] ns x a i = absurd i
  fresh_from (z ∷ xs) ns x a (inl e) = λ j. a.0 (subst (λ t. IsAmong t ns) e j)
  fresh_from (z ∷ xs) ns x a (inr i) = λ j. fresh_from xs (z ∷ ns) x a.1 i (inr j)

  unlisted : (fs : Functions) (ns : List ℕ) (x : ℕ) → AllFresh (names_of fs) ns → IsAmong x ns → Labelled x fs
  unlisted NoFunction ns x a i = tt
  unlisted (Function f p params b fs) ns x a i =
      ((λ e. absurd (a.0 (subst (λ t. IsAmong t ns) (sym e) i))), unlisted fs (f ∷ ns) x a.1 (inr i))

  bound_other : (σ : ℕ → Option Atom) (f x : ℕ) (o : Option Atom) → (f ≡ x → ⊥) → bind σ f o x ≡ σ x
  bound_other σ f x o n = by (nat_eq x f) refl
    where
      by : (a : Bool) → nat_eq x f ≡ a → cond a o (σ x) ≡ σ x
      by true e = absurd (n (sym (eqb-true x f e)))
      by false e = refl

  bound_here : (σ : ℕ → Option Atom) (f x : ℕ) (o : Option Atom) → x ≡ f → bind σ f o x ≡ o
  bound_here σ f x o e = ap (λ b. cond b o (σ x)) (eq-eqb x f e)

  bound_as_is : (σ : ℕ → Option Atom) (f x : ℕ) → bind σ f (σ f) x ≡ σ x
  bound_as_is σ f x = by (nat_eq x f) refl
    where
      by : (a : Bool) → nat_eq x f ≡ a → cond a (σ f) (σ x) ≡ σ x
      by true e = ap σ (sym (eqb-true x f e))
      by false e = refl

  clash : (b : Bool) → b ≡ true → b ≡ false → ⊥
  clash true e g = cc
  clash false e g = cc

  aliases_same : (U Y : Scope) (fs : Functions) → Aliases L fs U Y → (x : ℕ) → Labelled x fs → Y.σ x ≡ U.σ x
  aliases_same U Y fs (no_alias S) x l = refl
  aliases_same U Y fs (next_alias S Z f p xs b hs r) x l = aliases_same U Y hs r x l.1
  aliases_same U Y fs (alias S Z f p xs z us hs b hid same out dis at r) x l =
      aliases_same (lost U f (Some b) None) Y hs r x l.1 ∙ bound_other U.σ f x (Some b) (λ e. clash (is_label L p) (l.0 e) hid)

  bodies_same : (σ : ℕ → Option Atom) (Y Z : Scope) (fs : Functions) → Bodies L σ fs Y Z → (x : ℕ) → Z.σ x ≡ Y.σ x
  bodies_same σ Y Z fs (no_body S) x = refl
  bodies_same σ Y Z fs (next_body S Z' f p xs b hs r) x = bodies_same σ Y Z hs r x
  bodies_same σ Y Z fs (put_body S Z' f p xs b hs hid r) x =
      bodies_same σ (lost Y f (Y.σ f) (Some (record { params = xs; code = b; σ = σ }))) Z hs r x ∙ bound_as_is Y.σ f x

  some_same : (Z S U : Scope) (fs gs : Functions) (ns : List ℕ) → SomeContract T L Z S fs gs U → AllFresh (names_of fs) ns → (x : ℕ) → IsAmong x ns → U.σ x ≡ S.σ x
  some_same Z S U fs gs ns (some_none Z' S') a x i = refl
  some_same Z S U fs gs ns (some_both w Z' S' U' f p xs b d hs ks fr frs k e) a x i =
      some_same Z (kept S f None) U hs ks (f ∷ ns) e a.1 x (inr i) ∙ bound_other S.σ f x (Some (atom.Var f)) (λ g. a.0 (subst (λ t. IsAmong t ns) (sym g) i))
  some_same Z S U fs gs ns (some_skip Z' S' U' f p xs b hs ks e) a x i =
      some_same Z (lost S f None None) U hs gs (f ∷ ns) e a.1 x (inr i) ∙ bound_other S.σ f x None (λ g. a.0 (subst (λ t. IsAmong t ns) (sym g) i))

  name_was : (Z S U : Scope) (fs gs : Functions) → SomeContract T L Z S fs gs U → (x : ℕ) → IsAmong x (names_of gs) → IsAmong x (names_of fs)
  name_was Z S U fs gs (some_none Z' S') x i = absurd i
  name_was Z S U fs gs (some_both w Z' S' U' f p xs b d hs ks fr frs k e) x (inl g) = inl g
  name_was Z S U fs gs (some_both w Z' S' U' f p xs b d hs ks fr frs k e) x (inr i) = inr (name_was Z (kept S f None) U hs ks e x i)
  name_was Z S U fs gs (some_skip Z' S' U' f p xs b hs ks e) x i = inr (name_was Z (lost S f None None) U hs gs e x i)

  later_name : (f x : ℕ) (xs ns : List ℕ) → AllFresh xs (f ∷ ns) → IsAmong x xs → f ≡ x → ⊥
  later_name f x xs ns a i e = fresh_from xs (f ∷ ns) x a i (inl (sym e))

  abbrev AllLabels : Functions → Type 0
  AllLabels gs = (l : Layout) → IsAmong l (layouts_functions gs) → is_label L l.point ≡ true

  stays : (Z S U : Scope) (fs gs : Functions) (ns : List ℕ) → SomeContract T L Z S fs gs U → AllFresh (names_of fs) ns → AllLabels gs → (x : ℕ) → IsAmong x (names_of gs) → Labelled x fs × (U.σ x ≡ Some (atom.Var x))
  stays Z S U fs gs ns (some_none Z' S') a h x i = absurd i
  stays Z S U fs gs ns (some_both w Z' S' U' f p xs b d hs ks fr frs k e) a h x (inl g) =
      (((λ q. h (layout_of f p xs d) (inl refl)), unlisted hs (f ∷ ns) x a.1 (inl g)), some_same Z (kept S f None) U hs ks (f ∷ ns) e a.1 x (inl g) ∙ bound_here S.σ f x (Some (atom.Var f)) g ∙ ap (λ t. Some (atom.Var t)) (sym g))
  stays Z S U fs gs ns (some_both w Z' S' U' f p xs b d hs ks fr frs k e) a h x (inr i) =
      let r = stays Z (kept S f None) U hs ks (f ∷ ns) e a.1 (λ l j. h l (inr (among_right l (layouts d) (layouts_functions ks) j))) x i in
      (((λ q. absurd (later_name f x (names_of hs) ns a.1 (name_was Z (kept S f None) U hs ks e x i) q)), r.0), r.1)
  stays Z S U fs gs ns (some_skip Z' S' U' f p xs b hs ks e) a h x i =
      let r = stays Z (lost S f None None) U hs gs (f ∷ ns) e a.1 h x i in
      (((λ q. absurd (later_name f x (names_of hs) ns a.1 (name_was Z (lost S f None None) U hs gs e x i) q)), r.0), r.1)

  layout_named : (gs : Functions) (x : ℕ) → IsAmong x (names_of gs) → (l : Layout) × IsAmong l (layouts_functions gs) × (l.name ≡ x)
  layout_named NoFunction x i = absurd i
  layout_named (Function f p params b gs) x (inl e) = (layout_of f p params b, inl refl, sym e)
  layout_named (Function f p params b gs) x (inr i) =
      let r = layout_named gs x i in (r.0, inr (among_right r.0 (layouts b) (layouts_functions gs) r.1), r.2)

  abbrev StandsFor : Scope → Functions → Type 0
  StandsFor Z gs = (x : ℕ) → IsAmong x (names_of gs) → Z.σ x ≡ Some (atom.Var x)

  record Grouped (Z : Scope) (gs : Functions) : Type 0 where
    good : Good Z
    own : StandsFor Z gs

  grouped : (S U Y Z : Scope) (fs gs : Functions) → AllFresh (names_of fs) [] → SomeContract T L Z S fs gs U → Aliases L fs U Y → Bodies L Y.σ fs Y Z → Good S → FairAll K C fs → AllStand (layouts_functions gs) → Grouped Z gs
  grouped S U Y Z fs gs a e al bo g f st =
      let gu = good_some Z S U fs gs e (λ x i. let r = layout_named gs x i in subst N r.2 (st r.0 r.1).0) g in
      let gy = good_aliases U Y fs al f gu in record {
        good = good_bodies Y.σ Y Z fs bo f gy.names gy;
        own = λ x i. let r = stays Z S U fs gs [] e a (λ l j. (st l j).1) x i in
            bodies_same Y.σ Y Z fs bo x ∙ aliases_same U Y fs al x r.0 ∙ r.1;
      }

  -- ---- The whole

  kept_function : (w : ℕ) (Z : Scope) (f : ℕ) (p : Point) (xs : List ℕ) (b d : Code) → Contracts T L w (inner Z xs) b d → Good Z → IsAmong (layout_of f p xs b) C → Z.σ f ≡ Some (atom.Var f) → Comes (layout_of f p xs d)
  kept_function w Z f p xs b d k g m own = record {
    source = layout_of f p xs b;
    among = m;
    name = refl;
    point = refl;
    σ = Z.σ;
    keep = g.names;
    self = λ y e. sym (var_same f y (sym own ∙ e));
    from = λ y i.
        let o = without_in y (free_code d) xs i in
        let Q = λ (z : ℕ). (t : ℕ) × In t (without (free_code b) xs) × (Z.σ t ≡ Some (atom.Var z)) in
        out_of Q xs y o.0 (free_of T L w (inner Z xs) b d k (Or Q xs) (closed_inner Q Z xs (free_code b) (λ t z j e. (t, j, e))) y o.1);
  }

  mutual
    pub come : (w : ℕ) (S : Scope) (c d : Code) → Contracts T L w S c d → Good S → Fair K C c → AllStand (layouts d) → AllCome (layouts d)
    come w₀ S₀ c₀ d₀ (make w S x shape us bs c d p fr k) g f st = come w (kept S x _) c d k (good_kept S x _ g (λ q. absurd (f.0 q))) f.1 st
    come w₀ S₀ c₀ d₀ (pick w S x n a b c d p fr k) g f st = come w (kept S x None) c d k (good_kept S x None g (λ q. absurd (f.0 q))) f.1 st
    come w₀ S₀ c₀ d₀ (does w S x h us bs c d p fr k) g f st = come w (kept S x None) c d k (good_kept S x None g (λ q. absurd (f.0 q))) f.1 st
    come w₀ S₀ c₀ d₀ (equal w S a a' b b' k k' t p o l) g f st = λ m i. absurd i
    come w₀ S₀ c₀ d₀ (call w S a b us bs p o) g f st = λ m i. absurd i
    come w₀ S₀ c₀ d₀ (match w S a b rs ss p k) g f st = come_rules w S b rs ss k g f st
    come w₀ S₀ c₀ d₀ (handler w S x c d fr k) g f st = come w (kept S x None) c d k (good_kept S x None g (λ q. absurd (f.0 q))) f.1 st
    come w₀ S₀ c₀ d₀ (set_handler w S a b c d p k) g f st = come w S c d k g f st
    come w₀ S₀ c₀ d₀ (throw w S a b p) g f st = λ m i. absurd i
    come w₀ S₀ c₀ d₀ (halt w S) g f st = λ m i. absurd i
    come w₀ S₀ c₀ d₀ (no_make w S x shape us c d k) g f st = come w (lost S x None None) c d k (good_gone S x g) f.1 st
    come w₀ S₀ c₀ d₀ (no_pick w S x n a c d k) g f st = come w (lost S x None None) c d k (good_gone S x g) f.1 st
    come w₀ S₀ c₀ d₀ (no_prim w S x h us c d pure k) g f st = come w (lost S x None None) c d k (good_gone S x g) f.1 st
    come w₀ S₀ c₀ d₀ (inline w S h b us bs d is o many k) g f st = come w (called S b bs) b.code d k (good_called S b bs (g.bodies h b is)) (g.bodies h b is).fair st
    come w₀ S₀ c₀ d₀ (known_pick w S x n z a b m c d p known get k) g f st =
        come w (lost S x (Some b) None) c d k (good_lost S x (Some b) None g (λ q. absurd (f.0 q)) (λ v e. absurd (cc))) f.1 st
    come w₀ S₀ c₀ d₀ (chosen w S a b rs d p k) g f st = come_rules w S b rs (Otherwise d) k g f st
    come w₀ S₀ c₀ d₀ (group w S U Y Z fs gs c d dis e al bo k) g f st =
        let sg = λ (l : Layout) (i : IsAmong l (layouts_functions gs)). st l (among_left l (layouts_functions gs) (layouts d) i) in
        let r = grouped S U Y Z fs gs dis e al bo g f.0 sg in
        both_come (layouts_functions gs) (layouts d) (come_some Z S U fs gs e r.good f.0 sg r.own) (come w Z c d k r.good f.1 (λ l i. st l (among_right l (layouts_functions gs) (layouts d) i)))
    come w₀ S₀ c₀ d₀ (group_gone w S U Y Z fs c d dis e al bo k) g f st =
        let r = grouped S U Y Z fs NoFunction dis e al bo g f.0 (λ l i. absurd i) in come w Z c d k r.good f.1 st

    come_some : (Z S U : Scope) (fs gs : Functions) → SomeContract T L Z S fs gs U → Good Z → FairAll K C fs → AllStand (layouts_functions gs) → StandsFor Z gs → AllCome (layouts_functions gs)
    come_some Z₀ S₀ U₀ fs₀ gs₀ (some_none Z S) g f st own = λ m i. absurd i
    come_some Z₀ S₀ U₀ fs₀ gs₀ (some_both w Z S U h p xs b d fs gs fr frs k e) g f st own =
        let inside = come w (inner Z xs) b d k (good_inner Z xs g f.0) f.3 (λ l i. st l (inr (among_left l (layouts d) (layouts_functions gs) i))) in
        let later = come_some Z (kept S h None) U fs gs e g f.4 (λ l i. st l (inr (among_right l (layouts d) (layouts_functions gs) i))) (λ x i. own x (inr i)) in
        one_come (layout_of h p xs d) (layouts d ++ layouts_functions gs) (kept_function w Z h p xs b d k g f.2 (own h (inl refl))) (both_come (layouts d) (layouts_functions gs) inside later)
    come_some Z₀ S₀ U₀ fs₀ gs₀ (some_skip Z S U h p xs b fs gs e) g f st own = come_some Z (lost S h None None) U fs gs e g f.4 st own

    come_rules : (w : ℕ) (S : Scope) (a : Atom) (rs ss : Rules) → RulesContract T L w S a rs ss → Good S → FairRules K C rs → AllStand (layouts_rules ss) → AllCome (layouts_rules ss)
    come_rules w₀ S₀ a₀ rs₀ ss₀ (otherwise w S a c d k) g f st = come w S c d k g f st
    come_rules w₀ S₀ a₀ rs₀ ss₀ (rule w S a ts us c d rs ss l k r) g f st =
        both_come (layouts d) (layouts_rules ss) (come w S c d k g f.0 (λ l i. st l (among_left l (layouts d) (layouts_rules ss) i))) (come_rules w S a rs ss r g f.1 (λ l i. st l (among_right l (layouts d) (layouts_rules ss) i)))
    come_rules w₀ S₀ a₀ rs₀ ss₀ (last w S a ts c d rs l k) g f st = come w S c d k g f.0 st
    come_rules w₀ S₀ a₀ rs₀ ss₀ (drop w S a ts c rs ss l k) g f st = come_rules w S a rs ss k g f.1 st
