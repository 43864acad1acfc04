-- The functions of a group, begun one after another.
use Rattle.std.proofs.Common.{◌≡◌, ℕ, suc, ◌+◌, ◌<◌, Bool, List, [], ◌∷◌, ◌++◌, Option, Some, None, length, map, drop, get_or, drop-cons, refl, sym, ap, ◌∙◌, subst, arith, append_assoc}
use Rattle.std.proofs.lemmas.List.{map-append}
use Rattle.std.proofs.lemmas.Option.{slice_get-get_or}
use Rattle.std.specs.Prelude.{option_map}
use Rattle.smlc_base.specs.declared.exception.LibraryExn.TheVariants as exn
use Rattle.smlc_base.specs.declared.point.PointKind.TheVariants as kind
use Rattle.sml_tree.specs.Points.{point}
use Rattle.sml_tree.specs.declared.bare.RecBinding.{RecBinding}
use Rattle.lambda_ir.specs.declared.term.Case.{Case}
use Rattle.lambda_ir.specs.declared.term.Term.{Term}
use Rattle.lambda_ir.specs.Free.{function_at}
use Rattle.cps_ir.specs.declared.body.Function.{Function as Entry}
use Rattle.cps_ir.specs.Code.{Code, Functions, Function}
use Rattle.convert_laws.specs.Convert.{Scope, Known, variable, raise_exn, match_on, function_of, group_of, group_function, size_at}
use Rattle.convert_laws.specs.Facts.{AreNumbered}
use Rattle.convert_pieces.proofs.Emits.{nil_right}
use Rattle.convert_steps.specs.declared.task.Task.{Task}
use Rattle.convert_steps.specs.declared.world.World.{World}
use Rattle.convert_steps.specs.Codes.{called, conv, cases_at}
use Rattle.convert_steps.specs.Functions.{function_task, function_entry}
use Rattle.convert_steps.specs.Writes.{AreFrom}
use Rattle.convert_steps.proofs.Grow.{grows_none, grows_then, grows_begun, begun_at, begun_more}
use Rattle.convert_steps.proofs.Write.{one_from, same_from, codes_before}
use Rattle.convert_groups.specs.Groups.{function_number, on_top, IsBegun, Begun}
use Rattle.convert_groups.proofs.Numbers.{with_cases, no_some}

on_top_last : (body : ℕ → Code) (fs : List Entry) (e : Entry) (others : Functions) → on_top body (fs ++ e ∷ []) others ≡ on_top body fs (Function e.name e.point e.params (body e.body) others)
on_top_last body [] e others = refl
on_top_last body (f ∷ fs) e others = ap (Function f.name f.point f.params (body f.body)) (on_top_last body fs e others)

number_none : (terms : List Term) (j : ℕ) → function_number terms j ≡ None → function_at terms j ≡ None
number_none terms j e = go (function_at terms j) refl
  where
    go : (o : Option (ℕ × List Case)) → function_at terms j ≡ o → function_at terms j ≡ None
    go None h = h
    go (Some p) h = absurd (no_some (function_number terms j) p.0 e (ap (option_map (λ f. f.0)) h))

any_default : (bs : List RecBinding) (i : ℕ) (d e : RecBinding) → i < length bs → get_or bs i d ≡ get_or bs i e
any_default bs i d e h = let q : Some (get_or bs i d) ≡ Some (get_or bs i e) = sym (slice_get-get_or bs i d h) ∙ slice_get-get_or bs i e h in cc

module _ (own : ℕ → Bool) (terms : List Term) where
  abbrev rest : List RecBinding → ℕ → ℕ → ℕ → Scope → Functions
  rest bs i name later σ = group_of own terms (conv own terms) (drop i bs) name σ later

  pub begun_none : (w : World) (scope : ℕ) (fs : List Entry) (f : Scope → Functions) → fs ≡ [] → Begun own terms w w scope fs f f
  begun_none w scope fs f e = subst (λ es. Begun own terms w w scope es f f) (sym e) (record {
    grows = grows_none own terms w;
    scopes = refl;
    bodies = λ from ns a. same_from from (length w.tasks) ns (ns ++ []) (sym (nil_right ns)) a;
    code = λ body codes σ s. refl;
  })

  -- the functions that are left begin with this one
  left : (bs : List RecBinding) (i j name name' later later' : ℕ) (b : RecBinding) (σ : Scope) → i < length bs → b ≡ get_or bs i b → j ≡ i + 1 → name' ≡ name + 1 → later' ≡ later + size_at terms b.right → rest bs i name later σ ≡ group_function own terms (conv own terms) (function_at terms b.right) name σ later (rest bs j name' later' σ)
  left bs i j name name' later later' b σ h here ej en el =
      let one : suc i ≡ j = omega (arith, ej) in
      let two : suc name ≡ name' = omega (arith, en) in
      ap (λ cs. group_of own terms (conv own terms) cs name σ later) (drop-cons bs i b h ∙ ap (λ d. d ∷ drop (suc i) bs) (sym here))
      ∙ ap (group_function own terms (conv own terms) (function_at terms b.right) name σ later)
      (ap (λ k. group_of own terms (conv own terms) (drop k bs) (suc name) σ (later + size_at terms b.right)) one
      ∙ ap (λ k. group_of own terms (conv own terms) (drop j bs) k σ (later + size_at terms b.right)) two
      ∙ ap (λ k. group_of own terms (conv own terms) (drop j bs) name' σ k) (sym el))

  -- a binding that is no function
  pub begun_skip : (w v : World) (scope : ℕ) (fs : List Entry) (f : Scope → Functions) (bs : List RecBinding) (i j name name' later later' : ℕ) (b : RecBinding) → Begun own terms w v scope fs f (rest bs i name later) → i < length bs → b ≡ get_or bs i b → j ≡ i + 1 → name' ≡ name + 1 → later' ≡ later + size_at terms b.right → function_number terms b.right ≡ None → Begun own terms w v scope fs f (rest bs j name' later')
  begun_skip w v scope fs f bs i j name name' later later' b begun h here ej en el none = record {
    grows = begun.grows;
    scopes = begun.scopes;
    bodies = begun.bodies;
    code =
        λ body codes σ s.
        begun.code body codes σ s
        ∙ ap (on_top body fs) (left bs i j name name' later later' b σ h here ej en el ∙ ap (λ o. group_function own terms (conv own terms) o name σ later (rest bs j name' later' σ)) (number_none terms b.right none));
  }

  -- the code of the function that was begun
  function_is : (f t n b : ℕ) (σ : Scope) (fs : Functions) (body : ℕ → Code) → body b ≡ match_on own terms (conv own terms) (cases_at terms t) σ (Known (variable (n + 1))) (raise_exn exn.MatchExn) (variable n) (n + 2) → function_of own terms (conv own terms) f t (cases_at terms t) σ n fs ≡ Function f (point t kind.Fn) (n ∷ (n + 1) ∷ []) (body b) fs
  function_is f t n b σ fs body e =
      ap (λ p. Function f (point t kind.Fn) (n ∷ p ∷ []) (match_on own terms (conv own terms) (cases_at terms t) σ (Known (variable p)) (raise_exn exn.MatchExn) (variable n) (2 + n)) fs) (omega arith)
      ∙ ap (λ q. Function f (point t kind.Fn) (n ∷ (n + 1) ∷ []) (match_on own terms (conv own terms) (cases_at terms t) σ (Known (variable (n + 1))) (raise_exn exn.MatchExn) (variable n) q) fs) (omega arith)
      ∙ ap (λ c. Function f (point t kind.Fn) (n ∷ (n + 1) ∷ []) c fs) (sym e)

  pub begun_function : (numbered : AreNumbered terms) (w v u : World) (scope : ℕ) (fs more : List Entry) (f : Scope → Functions) (bs : List RecBinding) (i j name name' later later' t : ℕ) (b : RecBinding) (e : Entry) → Begun own terms w v scope fs f (rest bs i name later) → i < length bs → b ≡ get_or bs i b → j ≡ i + 1 → name' ≡ name + 1 → later' ≡ later + size_at terms b.right → function_number terms b.right ≡ Some t → u ≡ record v { tasks = v.tasks ++ function_task t scope later ∷ [] } → e ≡ function_entry name t later (length v.tasks) → more ≡ fs ++ e ∷ [] → Begun own terms w u scope more f (rest bs j name' later')
  begun_function numbered w v u scope fs more f bs i j name name' later later' t b e begun h here ej en el some eu ee em =
      let task : Task = function_task t scope later in
      let at : ℕ = length v.tasks in
      let on = grows_begun own terms v u task eu in
      let grows = grows_then own terms w v u begun.grows on in
      let made = function_entry name t later at in
      let all : more ≡ fs ++ made ∷ [] = em ∙ ap (λ x. fs ++ x ∷ []) ee in
      record {
        grows = grows;
        scopes = ap (λ (z : World). z.scopes) eu ∙ begun.scopes;
        bodies =
            λ from ns q.
            same_from from (length u.tasks) ((ns ++ map (λ x. x.body) fs) ++ at ∷ []) (ns ++ map (λ x. x.body) more)
            (append_assoc ns (map (λ x. x.body) fs) (at ∷ []) ∙ ap (λ xs. ns ++ xs) (sym (map-append (λ (x : Entry). x.body) fs (made ∷ [])) ∙ ap (map (λ (x : Entry). x.body)) (sym all)))
            (subst (λ m. AreFrom from m ((ns ++ map (λ x. x.body) fs) ++ at ∷ [])) (sym (begun_more own terms v u task eu)) (one_from from at (ns ++ map (λ x. x.body) fs) (begun.bodies from ns q)));
        code =
            λ body codes σ s.
            let is : body at ≡ match_on own terms (conv own terms) (cases_at terms t) σ (Known (variable (later + 1))) (raise_exn exn.MatchExn) (variable later) (later + 2) = codes at task begun.grows.more (begun_at own terms v u task eu) σ (Known (variable (later + 1))) (record { in_scope = grows.scopes scope σ s; before = called (variable (later + 1)) }) in
            begun.code body (codes_before own terms v u (length w.tasks) body on codes) σ s
            ∙ ap (on_top body fs)
            (left bs i j name name' later later' b σ h here ej en el
            ∙ ap (λ o. group_function own terms (conv own terms) o name σ later (rest bs j name' later' σ)) (with_cases terms numbered b.right t some)
            ∙ function_is name t later at σ (rest bs j name' later' σ) body is)
            ∙ sym (on_top_last body fs made (rest bs j name' later' σ))
            ∙ ap (λ xs. on_top body xs (rest bs j name' later' σ)) (sym all);
      }

  -- one binding more
  pub begun_turn : (numbered : AreNumbered terms) (w v u : World) (scope : ℕ) (fs more : List Entry) (f : Scope → Functions) (bs : List RecBinding) (i j name name' later later' : ℕ) (b : RecBinding) (o : Option ℕ) → Begun own terms w v scope fs f (rest bs i name later) → i < length bs → b ≡ get_or bs i b → j ≡ i + 1 → name' ≡ name + 1 → later' ≡ later + size_at terms b.right → o ≡ function_number terms b.right → IsBegun v u fs more name scope later o → Begun own terms w u scope more f (rest bs j name' later')
  begun_turn numbered w v u scope fs more f bs i j name name' later later' b None begun h here ej en el eo is =
      subst (λ (z : World). Begun own terms w z scope more f (rest bs j name' later')) (sym is.0)
      (subst (λ (es : List Entry). Begun own terms w v scope es f (rest bs j name' later')) (sym is.1) (begun_skip w v scope fs f bs i j name name' later later' b begun h here ej en el (sym eo)))
  begun_turn numbered w v u scope fs more f bs i j name name' later later' b (Some t) begun h here ej en el eo is =
      begun_function numbered w v u scope fs more f bs i j name name' later later' t b (function_entry name t later (length v.tasks)) begun h here ej en el (sym eo) is.0 refl is.1

  -- the binding of this number
  pub begun_item : (numbered : AreNumbered terms) (w v u : World) (scope : ℕ) (fs more : List Entry) (f : Scope → Functions) (bs : List RecBinding) (i j name name' later later' : ℕ) (d : RecBinding) (o : Option ℕ) → Begun own terms w v scope fs f (rest bs i name later) → i < length bs → j ≡ i + 1 → name' ≡ name + 1 → later' ≡ later + size_at terms (get_or bs i d).right → o ≡ function_number terms (get_or bs i d).right → IsBegun v u fs more name scope later o → Begun own terms w u scope more f (rest bs j name' later')
  begun_item numbered w v u scope fs more f bs i j name name' later later' d o begun h ej en el eo is =
      begun_turn numbered w v u scope fs more f bs i j name name' later later' (get_or bs i d) o begun h (any_default bs i d (get_or bs i d) h) ej en el eo is
