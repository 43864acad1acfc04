-- Many steps.
use Rattle.std.proofs.Common.{subst, ℕ, ◌≤◌, List, [], ◌∷◌, ◌++◌, Option, Some, refl, sym, ap, ◌∙◌, arith}
use Rattle.std.specs.Prelude.{Ok, Err}
use Rattle.sml_types.specs.declared.types.Ty.{Ty}
use Rattle.sml_types.specs.declared.types.TyForm.{TyForm}
use Rattle.sml_types.specs.declared.tables.TypeName.{TypeName}
use Rattle.sml_types.specs.Tree.{inst}
use Rattle.sml_unify.specs.declared.pair.Pair.{Pair}
use Rattle.sml_unify.specs.declared.error.UnifyError.{UnifyError}
use Rattle.sml_unify.specs.declared.error.UnifyError.TheVariants.{Clash, Cycle, NoEquality, NoMemory}
use Rattle.sml_unify.specs.Solved.{Substitution, Solves, Respects, IsSolved, IsEqualPair, AreEqual, ArePairs, IsPair, Agrees, next_number}
use Rattle.sml_unify.specs.Simplified.{IsSimplified}
use Rattle.sml_unify.specs.Steps.{IsLonger, IsExtensionFrom, IsRefuted}
use Rattle.sml_unify.specs.Outcomes.{IsStep, IsUnifiedFrom}
use Rattle.sml_unify.specs.Named as named
use Rattle.sml_unify.specs.Named.{Fails, turned}
use Rattle.sml_unify.proofs.FailsFacts.{turned_last}
use Rattle.sml_unify.proofs.Counters.{extension_below}
use Rattle.sml_unify.proofs.Walks.{all_append, all_left, all_right}
use Rattle.sml_unify.proofs.Numbers.{under_agrees}

-- the state forms2, bound2 and rest of a run that began with forms, bound and pairs
pub record IsReached (names : List TypeName) (next : ℕ) (forms : List TyForm) (bound : List (Option Ty)) (pairs : List Pair) (forms2 : List TyForm) (bound2 : List (Option Ty)) (rest : List Pair) : Type 0 where
  pub extends : IsExtensionFrom names next forms bound pairs forms2 bound2
  pub within : ArePairs forms2 rest
  pub equal : (f : Substitution) → Solves forms2 bound2 f → AreEqual forms2 f rest → AreEqual forms f pairs
  pub left : (f : Substitution) → Solves forms2 bound2 f → AreEqual forms f pairs → AreEqual forms2 f rest
  pub fails : (e : UnifyError) → Fails names forms2 bound2 (turned rest) e → Fails names forms bound (turned pairs) e

pub reached_first : (names : List TypeName) (next : ℕ) (forms : List TyForm) (bound : List (Option Ty)) (pairs : List Pair) → IsSolved forms bound → ArePairs forms pairs → IsReached names next forms bound pairs forms bound pairs
reached_first names next forms bound pairs s w =
    record {
      extends =
          record {
            solved = s;
            longer = record { count = omega arith; keeps = λ i f q. q; trees = λ i l. refl };
            number = omega arith;
            marks = λ k. k;
            sound = λ f h. h;
            general = λ f r h e. (f, (λ v n. refl), r, h);
          };
      within = w;
      equal = λ f h e. e;
      left = λ f h e. e;
      fails = λ e h. h;
    }

equal_longer : (forms after : List TyForm) (f : Substitution) (ps : List Pair) → IsLonger forms after → ArePairs forms ps → AreEqual forms f ps → AreEqual after f ps
equal_longer forms after f [] l w e = tt
equal_longer forms after f (p ∷ ps) l w e =
    (ap (inst f) (l.trees p.left.0 w.0.0) ∙ e.0 ∙ sym (ap (inst f) (l.trees p.right.0 w.0.1)), equal_longer forms after f ps l w.1 e.1)

equal_shorter : (forms after : List TyForm) (f : Substitution) (ps : List Pair) → IsLonger forms after → ArePairs forms ps → AreEqual after f ps → AreEqual forms f ps
equal_shorter forms after f [] l w e = tt
equal_shorter forms after f (p ∷ ps) l w e =
    (sym (ap (inst f) (l.trees p.left.0 w.0.0)) ∙ e.0 ∙ ap (inst f) (l.trees p.right.0 w.0.1), equal_shorter forms after f ps l w.1 e.1)

pairs_longer : (forms after : List TyForm) (ps : List Pair) → IsLonger forms after → ArePairs forms ps → ArePairs after ps
pairs_longer forms after [] l w = tt
pairs_longer forms after (p ∷ ps) l w = let c = l.count in ((omega (arith, w.0.0), omega (arith, w.0.1)), pairs_longer forms after ps l w.1)

equal_agrees : (next : ℕ) (forms : List TyForm) (bound : List (Option Ty)) (f g : Substitution) (ps : List Pair) → next_number forms bound ≤ next → IsSolved forms bound → ArePairs forms ps → Agrees next f g → AreEqual forms f ps → AreEqual forms g ps
equal_agrees next forms bound f g [] le s w a e = tt
equal_agrees next forms bound f g (p ∷ ps) le s w a e =
    let l = under_agrees forms next f g p.left.0 s.numbered w.0.0 (omega arith) a in
    let r = under_agrees forms next f g p.right.0 s.numbered w.0.1 (omega arith) a in
    (l ∙ e.0 ∙ sym r, equal_agrees next forms bound f g ps le s w.1 a e.1)

module _ (names : List TypeName) (next : ℕ) (forms : List TyForm) (bound : List (Option Ty)) (pairs : List Pair) (le : next_number forms bound ≤ next) (s : IsSolved forms bound) (w : ArePairs forms pairs) (forms2 : List TyForm) (bound2 : List (Option Ty)) (rest : List Pair) (r : IsReached names next forms bound pairs forms2 bound2 rest) where
  -- a solution of the first goes over into one that makes what is left equal
  carried : (f : Substitution) → Respects names forms f → Solves forms bound f → AreEqual forms f pairs → (g : Substitution) × Agrees next f g × Respects names forms2 g × Solves forms2 bound2 g × AreEqual forms2 g rest
  carried f k h e =
      let g = r.extends.general f k h e in
      (g.0, g.1, g.2, g.3, r.left g.0 g.3 (equal_agrees next forms bound f g.0 pairs le s w g.1 e))

  pub finish : ((f : Substitution) → Solves forms2 bound2 f → AreEqual forms2 f rest) → IsUnifiedFrom names next forms bound pairs forms2 bound2 (Ok tt)
  finish d = (r.extends, λ f h. r.equal f h (d f h))

  pub work_error : (after : List Pair) (e : UnifyError) → IsSimplified forms2 bound2 rest after (Err e) → IsUnifiedFrom names next forms bound pairs forms2 bound2 (Err e)
  work_error after Clash d = ((λ f k h e. let g = carried f k h e in d.0 g.0 g.3 g.4), r.fails Clash (d.1 names))
  work_error after Cycle d = absurd d
  work_error after NoEquality d = absurd d
  work_error after NoMemory d = tt

  module _ (after : List Pair) (p : Pair) (d : IsSimplified forms2 bound2 rest after (Ok (Some p))) where
    refuted : IsRefuted names forms2 bound2 (p ∷ []) → IsRefuted names forms bound pairs
    refuted x f k h e =
        let g = carried f k h e in
        x g.0 g.2 g.3 (all_right (IsEqualPair forms2 g.0) after (p ∷ []) (d.2.forth g.0 g.3 g.4))

    named_by : (e : UnifyError) → Fails names forms2 bound2 (p ∷ turned after) e → Fails names forms bound (turned pairs) e
    named_by e x = r.fails e (d.2.fails names e (subst (λ (ps : List Pair). Fails names forms2 bound2 ps e) (sym (turned_last after p)) x))

    pub pair_error : (next2 : ℕ) (forms3 : List TyForm) (bound3 : List (Option Ty)) (e : UnifyError) → IsStep names next2 forms2 bound2 p forms3 bound3 (Err e) → IsUnifiedFrom names next forms bound pairs forms3 bound3 (Err e)
    pair_error next2 forms3 bound3 Clash x = absurd x
    pair_error next2 forms3 bound3 Cycle x = (refuted x.0, named_by Cycle (x.1 (turned after)))
    pair_error next2 forms3 bound3 NoEquality x = (refuted x.0, named_by NoEquality (x.1 (turned after)))
    pair_error next2 forms3 bound3 NoMemory x = tt

    module _ (next2 : ℕ) (up : next ≤ next2) (le2 : next_number forms2 bound2 ≤ next2) (forms3 : List TyForm) (bound3 : List (Option Ty)) (x : IsExtensionFrom names next2 forms2 bound2 (p ∷ []) forms3 bound3) where
      longer : IsLonger forms forms3
      longer =
          record {
            count = let a = r.extends.longer.count in let b = x.longer.count in omega arith;
            keeps = λ i f q. x.longer.keeps i f (r.extends.longer.keeps i f q);
            trees = λ i l. x.longer.trees i (let a = r.extends.longer.count in omega arith) ∙ r.extends.longer.trees i l;
          }

      general : (f : Substitution) → Respects names forms f → Solves forms bound f → AreEqual forms f pairs → (g : Substitution) × Agrees next f g × Respects names forms3 g × Solves forms3 bound3 g
      general f k h e =
          let g = carried f k h e in
          let u = x.general g.0 g.2 g.3 (all_right (IsEqualPair forms2 g.0) after (p ∷ []) (d.2.forth g.0 g.3 g.4)) in
          (u.0, (λ v l. u.1 v (omega arith) ∙ g.1 v l), u.2, u.3)

      extended : IsExtensionFrom names next forms bound pairs forms3 bound3
      extended =
          record {
            solved = x.solved;
            longer = longer;
            number = let a = r.extends.number in let b = x.number in omega arith;
            marks = λ k. x.marks (r.extends.marks k);
            sound = λ f h. r.extends.sound f (x.sound f h);
            general = general;
          }

      -- the pair is equal from now on
      pub after_true : ((f : Substitution) → Solves forms3 bound3 f → IsEqualPair forms2 f p) → IsReached names next forms bound pairs forms3 bound3 after
      after_true y =
          record {
            extends = extended;
            within = pairs_longer forms2 forms3 after x.longer d.1;
            equal = λ f h e. r.equal f (x.sound f h) (d.2.back f (x.sound f h) (all_append (IsEqualPair forms2 f) after (p ∷ []) (equal_shorter forms2 forms3 f after x.longer d.1 e) (y f h, tt)));
            left = λ f h e. equal_longer forms2 forms3 f after x.longer d.1 (all_left (IsEqualPair forms2 f) after (p ∷ []) (d.2.forth f (x.sound f h) (r.left f (x.sound f h) e)));
            fails = λ e h. named_by e (named.on (extension_below names next2 (next_number forms2 bound2) forms2 bound2 (p ∷ []) forms3 bound3 le2 x) y h);
          }

      -- the pair is put back
      pub after_false : ((rest : List Pair) (e : UnifyError) → Fails names forms3 bound3 (p ∷ rest) e → Fails names forms2 bound2 (p ∷ rest) e) → IsReached names next forms bound pairs forms3 bound3 (after ++ p ∷ [])
      after_false y =
          let there : ArePairs forms2 (after ++ p ∷ []) = all_append (IsPair forms2) after (p ∷ []) d.1 (d.0.within, tt) in
          record {
            extends = extended;
            within = pairs_longer forms2 forms3 (after ++ p ∷ []) x.longer there;
            equal = λ f h e. r.equal f (x.sound f h) (d.2.back f (x.sound f h) (equal_shorter forms2 forms3 f (after ++ p ∷ []) x.longer there e));
            left = λ f h e. equal_longer forms2 forms3 f (after ++ p ∷ []) x.longer there (d.2.forth f (x.sound f h) (r.left f (x.sound f h) e));
            fails = λ e h. named_by e (y (turned after) e (subst (λ (ps : List Pair). Fails names forms3 bound3 ps e) (turned_last after p) h));
          }
