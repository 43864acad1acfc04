-- What tests answer for each value of the patterns' type.
use Rattle.std.proofs.Common.{◌≡◌, ℕ, suc, true, List, [], ◌∷◌, refl, sym, ap, ◌∙◌, subst, map}
use Rattle.std.specs.List.{AllByRecursion}
use Rattle.sml_tree.specs.declared.bare.Bare.{Bare}
use Rattle.sml_tree.specs.Sets.{union_over}
use Rattle.sml_tree.specs.Free.{free}
use Rattle.sml_tree.specs.IsBare.{IsBare}
use Rattle.sml_tree.proofs.Members.{IsWithin, within_head, within_tail}
use Rattle.sml_types.specs.declared.tables.TypeName.{TypeName}
use Rattle.sml_types.specs.declared.types.TyVar.{TyVar}
use Rattle.sml_types.specs.Tree.{Tree, inst}
use Rattle.sml_types.specs.Typing.{Typing, IsTyping}
use Rattle.sml_def.specs.Builtin.{see}
use Rattle.sml_def.specs.State.{Value, Env, Block}
use Rattle.sml_sound.specs.TypedStates.{Entry, HasTy, EnvTy, StoreTy}
use Rattle.lambda_ir.specs.Tests.{first_case, match_met}
use Rattle.match_laws.specs.Compile.{rule_of, cases_of}
use Rattle.match_laws.specs.Shape.{shaped}
use Rattle.match_laws.specs.Suit.{is_exn_name, suited}
use Rattle.match_laws.specs.Law.{rules_from, cases_from, ArePatterns, HasNames, TestsChooseByType, TestsAreMetByType}
use Rattle.match_laws.proofs.Fits.{tests_choose}
use Rattle.match_laws.proofs.Meeting.{tests_are_met}
use Rattle.match_laws.proofs.Shaped.{is_shaped}
use Rattle.match_laws.proofs.Suited.{is_suited}

-- the cases of numbered rules are their tests, numbered
cases_same : (ts : List TypeName) (p : Bare) (k : ℕ) (pats : List ℕ) → cases_of ts p.nodes (rules_from k pats) ≡ cases_from k (map (rule_of ts p.nodes) pats)
cases_same ts p k [] = refl
cases_same ts p k (pat ∷ pats) = ap (λ cs. record { tests = (rule_of ts p.nodes pat).tests; names = (rule_of ts p.nodes pat).names; body = k } ∷ cs) (cases_same ts p (suc k) pats)

-- what holds of each pattern holds of each rule
of_rules : (P : ℕ → Type 0) (k : ℕ) (pats : List ℕ) → AllByRecursion P pats → AllByRecursion (λ r. P r.pat) (rules_from k pats)
of_rules P k [] h = tt
of_rules P k (pat ∷ pats) h = (h.0, of_rules P (suc k) pats h.1)

module _ (p : Bare) (bare : IsBare p) (t : Typing) (typing : IsTyping p t) (a : Tree) (sig : List Entry) (store : List Block) (typed : StoreTy p t sig sig store) (g : TyVar → Tree) (env : Env) (xs : List ℕ) (known : EnvTy p t sig g xs env) (v : Value) (hv : HasTy p t sig v (inst g a)) where
  shapes : (pats : List ℕ) → ArePatterns p t a pats → IsWithin (union_over (free p.nodes) pats) xs → AllByRecursion (λ q. shaped p env store q v ≡ true) pats
  shapes [] h w = tt
  shapes (q ∷ pats) h w = (
    is_shaped p t typing bare.numbered bare.sorts sig store typed g xs env known q v h.0.0 (λ z m. w z (within_head (free p.nodes) q pats z m)) (subst (λ u. HasTy p t sig v (inst g u)) (sym h.0.1) hv),
    shapes pats h.1 (λ z m. w z (within_tail (free p.nodes) q pats z m)),
  )

  suits : HasNames store env xs → (pats : List ℕ) → ArePatterns p t a pats → IsWithin (union_over (free p.nodes) pats) xs → AllByRecursion (λ q. suited p env store q v ≡ true) pats
  suits n [] h w = tt
  suits n (q ∷ pats) h w = (
    is_suited p t typing bare.numbered bare.sorts bare.stands sig store typed g xs env known n q v h.0.0 (λ z m. w z (within_head (free p.nodes) q pats z m)) (subst (λ u. HasTy p t sig v (inst g u)) (sym h.0.1) hv),
    suits n pats h.1 (λ z m. w z (within_tail (free p.nodes) q pats z m)),
  )

pub tests_choose_by_type : TestsChooseByType
tests_choose_by_type p bare ts pats t typing a h sig store typed g env known v hv =
    tests_choose ts p env store (rules_from 0 pats) v (of_rules (λ q. shaped p env store q v ≡ true) 0 pats (shapes p bare t typing a sig store typed g env (union_over (free p.nodes) pats) known v hv pats h (λ z m. m)))
    ∙ ap (λ cs. first_case p.texts env (see p.texts store) cs v) (cases_same ts p 0 pats)

pub tests_are_met_by_type : TestsAreMetByType
tests_are_met_by_type p bare ts pats t typing a h sig store typed g env known n v hv =
    sym (ap (λ cs. match_met p.texts env (see p.texts store) (is_exn_name store) cs v) (cases_same ts p 0 pats))
    ∙ tests_are_met ts p env store (rules_from 0 pats) v (of_rules (λ q. suited p env store q v ≡ true) 0 pats (suits p bare t typing a sig store typed g env (union_over (free p.nodes) pats) known v hv n pats h (λ z m. m)))
