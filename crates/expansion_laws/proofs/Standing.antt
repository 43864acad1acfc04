-- What stands where in a parse tree, as evidence.
use Rattle.std.proofs.Common.{◌≡◌, ℕ, zero, suc, ◌<◌, ◌≤◌, ◌+◌, ◌^◌, true, false, cond, ℤ, pos, negsuc, List, [], ◌∷◌, length, refl, sym, ap, ◌∙◌, arith, ltb-true, eq-eqb}
use Rattle.std.specs.Prelude.{Bool, ◌&&◌, nat_eq, int_le, neg_ℤ, ◌-◌}
use Rattle.std.specs.List.{AllByRecursion, list_all}
use Rattle.smlc_base.specs.declared.place.Place.{Place}
use Rattle.sml_tree.specs.declared.tree.Tree.{Tree}
use Rattle.sml_tree.specs.declared.tree_node.TreeNode.{TreeNode}
use Rattle.sml_tree.specs.declared.tree_node.TreeNode.TheVariants as node
use Rattle.sml_tree.specs.IsBare.{IsInt}
use Rattle.sml_tree.specs.Kinds as q
use Rattle.sml_tree.specs.Kinds.{PartKind, has, fit, may_stand, wanted, stands_as, kinds_of_parts, shaped}
use Rattle.sml_tree.specs.Parts.{parts_of}
use Rattle.sml_tree.specs.Tree.{is_cited, all_cited, leaves}
use Rattle.sml_expansion.specs.Terms.{Term, leaf, one, two, three, four, joined, reads, trees}
use Rattle.sml_expansion.specs.Kinds.{is_a}
use Rattle.sml_expansion.proofs.KindLemmas.{shaped_trees, one_part, two_parts, three_parts, four_parts}
use Rattle.expansion_laws.proofs.Kinded as k
use Rattle.expansion_laws.proofs.Kinded.{Kinded, leaves_in}
use Rattle.expansion_laws.proofs.DeclarationsDone.{all_reverse}
use Rattle.expansion_laws.specs.Laws.{CharFits}

-- ---- Leaves

abbrev pub LeafFact : ℕ → TreeNode → Type 0
LeafFact texts (node.Int i) = IsInt i
LeafFact texts (node.Char c) = c < 256
LeafFact texts (node.Text t) = t < texts
LeafFact texts _ = Unit {0}

abbrev Leaves : ℕ → Term → Type 0
Leaves texts (leaf n p) = LeafFact texts n
Leaves texts (one n p a) = Leaves texts a
Leaves texts (two n p a b) = Leaves texts a × Leaves texts b
Leaves texts (three n p a b c) = Leaves texts a × Leaves texts b × Leaves texts c
Leaves texts (four n p a b c d) = Leaves texts a × Leaves texts b × Leaves texts c × Leaves texts d

abbrev Facts : ℕ → Term → Type 0
Facts texts (leaf n p) = LeafFact texts n
Facts texts (one n p a) = Facts texts a
Facts texts (two n p a b) = Facts texts a × Facts texts b
Facts texts (three n p a b c) = Facts texts a × Facts texts b × Facts texts c × (leaves_in c ≤ 1048576)
Facts texts (four n p a b c d) = Facts texts a × Facts texts b × Facts texts c × Facts texts d

facts_of : (texts : ℕ) (t : Term) → Leaves texts t → leaves_in t ≤ 1048576 → Facts texts t
facts_of texts (leaf n p) h le = h
facts_of texts (one n p a) h le = facts_of texts a h le
facts_of texts (two n p a b) h le = (facts_of texts a h.0 (omega (arith, le)), facts_of texts b h.1 (omega (arith, le)))
facts_of texts (three n p a b c) h le = (facts_of texts a h.0 (omega (arith, le)), facts_of texts b h.1 (omega (arith, le)), facts_of texts c h.2 (omega (arith, le)), (omega (arith, le)))
facts_of texts (four n p a b c d) h le = (facts_of texts a h.0 (omega (arith, le)), facts_of texts b h.1 (omega (arith, le)), facts_of texts c h.2 (omega (arith, le)), facts_of texts d h.3 (omega (arith, le)))

joined_leaves : (texts i : ℕ) (n : TreeNode) (p : Place) (s : List Term) → LeafFact texts n → AllByRecursion (Leaves texts) s → AllByRecursion (Leaves texts) (joined i n p s)
joined_leaves texts zero n p s h a = (h, a)
joined_leaves texts (suc zero) n p [] h a = a
joined_leaves texts (suc zero) n p (x ∷ s) h a = a
joined_leaves texts (suc (suc zero)) n p [] h a = a
joined_leaves texts (suc (suc zero)) n p (x ∷ []) h a = a
joined_leaves texts (suc (suc zero)) n p (x ∷ y ∷ s) h a = ((a.1.0, a.0), a.1.1)
joined_leaves texts (suc (suc (suc zero))) n p [] h a = a
joined_leaves texts (suc (suc (suc zero))) n p (x ∷ []) h a = a
joined_leaves texts (suc (suc (suc zero))) n p (x ∷ y ∷ []) h a = a
joined_leaves texts (suc (suc (suc zero))) n p (x ∷ y ∷ w ∷ s) h a = ((a.1.1.0, a.1.0, a.0), a.1.1.1)
joined_leaves texts (suc (suc (suc (suc zero)))) n p [] h a = a
joined_leaves texts (suc (suc (suc (suc zero)))) n p (x ∷ []) h a = a
joined_leaves texts (suc (suc (suc (suc zero)))) n p (x ∷ y ∷ []) h a = a
joined_leaves texts (suc (suc (suc (suc zero)))) n p (x ∷ y ∷ w ∷ []) h a = a
joined_leaves texts (suc (suc (suc (suc zero)))) n p (x ∷ y ∷ w ∷ v ∷ s) h a = ((a.1.1.1.0, a.1.1.0, a.1.0, a.0), a.1.1.1.1)
joined_leaves texts (suc (suc (suc (suc (suc i))))) n p s h a = a

read_leaves : (texts : ℕ) (nodes : List TreeNode) (places : List Place) (s : List Term) → AllByRecursion (LeafFact texts) nodes → AllByRecursion (Leaves texts) s → AllByRecursion (Leaves texts) (reads s nodes places)
read_leaves texts [] places s h a = all_reverse (Leaves texts) s a
read_leaves texts (n ∷ nodes) [] s h a = all_reverse (Leaves texts) s a
read_leaves texts (n ∷ nodes) (p ∷ places) s h a = read_leaves texts nodes places (joined (parts_of n) n p s) h.1 (joined_leaves texts (parts_of n) n p s h.0 a)

total : List Term → ℕ
total [] = 0
total (t ∷ s) = leaves_in t + total s

joined_total : (i : ℕ) (n : TreeNode) (p : Place) (s : List Term) → total (joined i n p s) ≤ cond (nat_eq i 0) 1 0 + total s
unfolding total
joined_total zero n p s = omega arith
joined_total (suc zero) n p [] = omega arith
joined_total (suc zero) n p (x ∷ s) = omega arith
joined_total (suc (suc zero)) n p [] = omega arith
joined_total (suc (suc zero)) n p (x ∷ []) = omega arith
joined_total (suc (suc zero)) n p (x ∷ y ∷ s) = omega arith
joined_total (suc (suc (suc zero))) n p [] = omega arith
joined_total (suc (suc (suc zero))) n p (x ∷ []) = omega arith
joined_total (suc (suc (suc zero))) n p (x ∷ y ∷ []) = omega arith
joined_total (suc (suc (suc zero))) n p (x ∷ y ∷ w ∷ s) = omega arith
joined_total (suc (suc (suc (suc zero)))) n p [] = omega arith
joined_total (suc (suc (suc (suc zero)))) n p (x ∷ []) = omega arith
joined_total (suc (suc (suc (suc zero)))) n p (x ∷ y ∷ []) = omega arith
joined_total (suc (suc (suc (suc zero)))) n p (x ∷ y ∷ w ∷ []) = omega arith
joined_total (suc (suc (suc (suc zero)))) n p (x ∷ y ∷ w ∷ v ∷ s) = omega arith
joined_total (suc (suc (suc (suc (suc i))))) n p s = omega arith

each_few : (limit : ℕ) (s : List Term) → total s ≤ limit → AllByRecursion (λ t. leaves_in t ≤ limit) s
unfolding total
each_few limit [] le = tt
each_few limit (t ∷ s) le = ((omega (arith, le)), each_few limit s (omega (arith, le)))

read_few : (limit : ℕ) (nodes : List TreeNode) (places : List Place) (s : List Term) → total s + leaves nodes ≤ limit → AllByRecursion (λ t. leaves_in t ≤ limit) (reads s nodes places)
read_few limit [] places s le = all_reverse (λ t. leaves_in t ≤ limit) s (each_few limit s (omega (arith, le)))
read_few limit (n ∷ nodes) [] s le = all_reverse (λ t. leaves_in t ≤ limit) s (each_few limit s (omega (arith, le)))
read_few limit (n ∷ nodes) (p ∷ places) s le =
    let j = joined_total (parts_of n) n p s in
    read_few limit nodes places (joined (parts_of n) n p s) (omega (arith, j, le))

both_true : (a b : Bool) → (a && b) ≡ true → (a ≡ true) × (b ≡ true)
both_true true b h = (refl, h)
both_true false b h = cc

int_is : (i : ℤ) → int_le (neg_ℤ (pos (2 ^ 62))) i ≡ true → int_le i (pos (2 ^ 62 - 1)) ≡ true → IsInt i
int_is (pos n) a b = grind (arith, b)
int_is (negsuc n) a b = grind (arith, a)

cited_leaf : (names texts : ℕ) (n : TreeNode) → is_cited names texts n ≡ true → CharFits n → LeafFact texts n
cited_leaf names texts (node.Int i) h c = let d = both_true _ _ h in int_is i d.0 d.1
cited_leaf names texts (node.Text i) h c = ltb-true i texts h
cited_leaf names texts (node.Char i) h c = c
cited_leaf names texts _ h c = tt

cited_leaves : (names texts : ℕ) (nodes : List TreeNode) → all_cited names texts nodes ≡ true → AllByRecursion CharFits nodes → AllByRecursion (LeafFact texts) nodes
cited_leaves names texts [] h c = tt
cited_leaves names texts (n ∷ nodes) h c = let d = both_true (is_cited names texts n) (list_all (is_cited names texts) nodes) h in (cited_leaf names texts n d.0 c.0, cited_leaves names texts nodes d.1 c.1)

-- ---- Kinds

abbrev pub KindedAs : ℕ → PartKind → Term → Type 0
KindedAs x q.Dec t = Kinded x k.Dec t
KindedAs x q.Decs t = Kinded x k.Decs t
KindedAs x q.ValBinds t = Kinded x k.ValBinds t
KindedAs x q.OneValBind t = Kinded x k.ValBind t
KindedAs x q.FunBinds t = Kinded x k.FunBinds t
KindedAs x q.Clauses t = Kinded x k.Clauses t
KindedAs x q.OneClause t = Kinded x k.Clause t
KindedAs x q.TypBinds t = Kinded x k.TypBinds t
KindedAs x q.OneTypBind t = Kinded x k.TypBinds t
KindedAs x q.DatBinds t = Kinded x k.DatBinds t
KindedAs x q.OneDatBind t = Kinded x k.DatBind t
KindedAs x q.ConBinds t = Kinded x k.ConBinds t
KindedAs x q.OneConBind t = Kinded x k.ConBinds t
KindedAs x q.ExBinds t = Kinded x k.ExBinds t
KindedAs x q.OneExBind t = Kinded x k.ExBinds t
KindedAs x q.ClauseHead t = Kinded x k.Head t
KindedAs x q.AtPats t = Kinded x k.Pats t
KindedAs x q.Pats t = Kinded x k.Pats t
KindedAs x q.Pat t = Kinded x k.Pat t
KindedAs x q.PatRows t = Kinded x k.PatRows t
KindedAs x q.OnePatRow t = Kinded x k.PatRows t
KindedAs x q.AnyLabel t = Kinded x k.Label t
KindedAs x q.VidLabel t = Kinded x k.Label t
KindedAs x q.Exp t = Kinded x k.Exp t
KindedAs x q.Items t = Kinded x k.Exps t
KindedAs x q.Seq t = Kinded x k.Exps t
KindedAs x q.Rows t = Kinded x k.Rows t
KindedAs x q.OneRow t = Kinded x k.Rows t
KindedAs x q.Rules t = Kinded x k.Rules t
KindedAs x q.OneRule t = Kinded x k.Rules t
KindedAs x q.Ty t = Kinded x k.Ty t
KindedAs x q.Factors t = Kinded x k.Tys t
KindedAs x q.Tys t = Kinded x k.Tys t
KindedAs x q.TyRows t = Kinded x k.TyRows t
KindedAs x q.OneTyRow t = Kinded x k.TyRows t
KindedAs x _ t = Unit {0}

no_clash : {A : Type 0} → false ≡ true → A
no_clash e = absurd cc

fit_length : (kinds : List PartKind) (parts : List (PartKind → Bool)) → fit kinds parts ≡ true → length kinds ≡ length parts
fit_length [] [] h = refl
fit_length [] (p ∷ parts) h = no_clash h
fit_length (x ∷ kinds) [] h = no_clash h
fit_length (x ∷ kinds) (p ∷ parts) h = ap suc (fit_length kinds parts (both_true (p x) (fit kinds parts) h).1)

many_kinds : (n : TreeNode) → length (kinds_of_parts n) ≡ parts_of n
many_kinds node.Val = refl
many_kinds _ = refl

many_wanted : (x : PartKind) (n : TreeNode) → length (wanted x n) ≡ parts_of n
many_wanted q.OpVid node.Op = refl
many_wanted q.OpVid node.Val = refl
many_wanted q.OpVid _ = refl
many_wanted q.Dec n = many_kinds n
many_wanted _ n = many_kinds n

arity : (n : TreeNode) (parts : List (PartKind → Bool)) (x : PartKind) (j : ℕ) → length parts ≡ j → may_stand n parts x ≡ true → nat_eq (parts_of n) j ≡ true
arity n parts x j e h = eq-eqb (parts_of n) j (sym (many_wanted x n) ∙ fit_length (wanted x n) parts (both_true (has (stands_as n) x) (fit (wanted x n) parts) h).1 ∙ e)

is_op : TreeNode → Bool
is_op node.Op = true
is_op _ = false

wanted_other : (x : PartKind) (n : TreeNode) → is_op n ≡ false → wanted x n ≡ kinds_of_parts n
unfolding is_op
wanted_other q.OpVid node.Op e = absurd cc
wanted_other q.OpVid node.Val e = refl
wanted_other q.OpVid _ e = refl
wanted_other q.Dec n e = refl
wanted_other _ n e = refl

stood : (n : TreeNode) (parts : List (PartKind → Bool)) (x : PartKind) → may_stand n parts x ≡ true → has (stands_as n) x ≡ true
stood n parts x h = (both_true (has (stands_as n) x) (fit (wanted x n) parts) h).0

as_exp : (x : ℕ) (t : Term) (c : PartKind) → has q.expression c ≡ true → Kinded x k.Exp t → KindedAs x c t
as_exp x t q.Exp h e = e
as_exp x t q.Items h e = k.one_exp e
as_exp x t q.Seq h e = k.one_exp e
as_exp x t _ h e = no_clash h

as_pat : (x : ℕ) (t : Term) (c : PartKind) → has q.pattern c ≡ true → Kinded x k.Pat t → KindedAs x c t
as_pat x t q.Pat h e = e
as_pat x t q.AtPats h e = k.one_pat e
as_pat x t q.Pats h e = k.one_pat e
as_pat x t _ h e = no_clash h

as_ty : (x : ℕ) (t : Term) (c : PartKind) → has q.type_expression c ≡ true → Kinded x k.Ty t → KindedAs x c t
as_ty x t q.Ty h e = e
as_ty x t q.Factors h e = k.one_ty e
as_ty x t q.Tys h e = k.one_ty e
as_ty x t _ h e = no_clash h

as_const : (x : ℕ) (t : Term) (c : PartKind) → has q.constant c ≡ true → Kinded x k.Exp t → Kinded x k.Pat t → KindedAs x c t
as_const x t q.Exp h e d = e
as_const x t q.Items h e d = k.one_exp e
as_const x t q.Seq h e d = k.one_exp e
as_const x t q.Pat h e d = d
as_const x t q.AtPats h e d = k.one_pat d
as_const x t q.Pats h e d = k.one_pat d
as_const x t _ h e d = no_clash h

as_vid : (x : ℕ) (t : Term) (c : PartKind) → has (q.DirectiveVids ∷ q.PlainVid ∷ q.OperatorVid ∷ q.AnyVid ∷ q.OpVid ∷ q.identifier) c ≡ true → Kinded x k.Exp t → Kinded x k.Pat t → KindedAs x c t
as_vid x t q.DirectiveVids h e d = tt
as_vid x t q.PlainVid h e d = tt
as_vid x t q.OperatorVid h e d = tt
as_vid x t q.AnyVid h e d = tt
as_vid x t q.OpVid h e d = tt
as_vid x t q.LongVid h e d = tt
as_vid x t q.Exp h e d = e
as_vid x t q.Items h e d = k.one_exp e
as_vid x t q.Seq h e d = k.one_exp e
as_vid x t q.Pat h e d = d
as_vid x t q.AtPats h e d = k.one_pat d
as_vid x t q.Pats h e d = k.one_pat d
as_vid x t _ h e d = no_clash h

as_longvid : (x : ℕ) (t : Term) (c : PartKind) → has (q.AnyVid ∷ q.identifier) c ≡ true → Kinded x k.Exp t → Kinded x k.Pat t → KindedAs x c t
as_longvid x t q.AnyVid h e d = tt
as_longvid x t q.LongVid h e d = tt
as_longvid x t q.Exp h e d = e
as_longvid x t q.Items h e d = k.one_exp e
as_longvid x t q.Seq h e d = k.one_exp e
as_longvid x t q.Pat h e d = d
as_longvid x t q.AtPats h e d = k.one_pat d
as_longvid x t q.Pats h e d = k.one_pat d
as_longvid x t _ h e d = no_clash h

as_op : (x : ℕ) (t : Term) (c : PartKind) → has (q.OpVid ∷ q.identifier) c ≡ true → Kinded x k.Exp t → Kinded x k.Pat t → KindedAs x c t
as_op x t q.OpVid h e d = tt
as_op x t q.LongVid h e d = tt
as_op x t q.Exp h e d = e
as_op x t q.Items h e d = k.one_exp e
as_op x t q.Seq h e d = k.one_exp e
as_op x t q.Pat h e d = d
as_op x t q.AtPats h e d = k.one_pat d
as_op x t q.Pats h e d = k.one_pat d
as_op x t _ h e d = no_clash h

as_tycon : (x : ℕ) (t : Term) (c : PartKind) → has (q.ShortTyCon ∷ q.LongTyCon ∷ q.type_expression) c ≡ true → Kinded x k.Ty t → KindedAs x c t
as_tycon x t q.ShortTyCon h e = tt
as_tycon x t q.LongTyCon h e = tt
as_tycon x t q.Ty h e = e
as_tycon x t q.Factors h e = k.one_ty e
as_tycon x t q.Tys h e = k.one_ty e
as_tycon x t _ h e = no_clash h

as_longtycon : (x : ℕ) (t : Term) (c : PartKind) → has (q.LongTyCon ∷ q.type_expression) c ≡ true → Kinded x k.Ty t → KindedAs x c t
as_longtycon x t q.LongTyCon h e = tt
as_longtycon x t q.Ty h e = e
as_longtycon x t q.Factors h e = k.one_ty e
as_longtycon x t q.Tys h e = k.one_ty e
as_longtycon x t _ h e = no_clash h

as_tyvar : (x : ℕ) (t : Term) (c : PartKind) → has (q.BoundTyVars ∷ q.OneTyVar ∷ q.TyVarList ∷ q.type_expression) c ≡ true → Kinded x k.Ty t → KindedAs x c t
as_tyvar x t q.BoundTyVars h e = tt
as_tyvar x t q.OneTyVar h e = tt
as_tyvar x t q.TyVarList h e = tt
as_tyvar x t q.Ty h e = e
as_tyvar x t q.Factors h e = k.one_ty e
as_tyvar x t q.Tys h e = k.one_ty e
as_tyvar x t _ h e = no_clash h

as_dec : (x : ℕ) (t : Term) (c : PartKind) → has (q.Dec ∷ []) c ≡ true → Kinded x k.Dec t → KindedAs x c t
as_dec x t q.Dec h e = e
as_dec x t _ h e = no_clash h

as_decs : (x : ℕ) (t : Term) (c : PartKind) → has (q.Decs ∷ []) c ≡ true → Kinded x k.Decs t → KindedAs x c t
as_decs x t q.Decs h e = e
as_decs x t _ h e = no_clash h

as_valbinds : (x : ℕ) (t : Term) (c : PartKind) → has (q.ValBinds ∷ []) c ≡ true → Kinded x k.ValBinds t → KindedAs x c t
as_valbinds x t q.ValBinds h e = e
as_valbinds x t _ h e = no_clash h

as_funbinds : (x : ℕ) (t : Term) (c : PartKind) → has (q.FunBinds ∷ []) c ≡ true → Kinded x k.FunBinds t → KindedAs x c t
as_funbinds x t q.FunBinds h e = e
as_funbinds x t _ h e = no_clash h

as_headk : (x : ℕ) (t : Term) (c : PartKind) → has (q.ClauseHead ∷ []) c ≡ true → Kinded x k.Head t → KindedAs x c t
as_headk x t q.ClauseHead h e = e
as_headk x t _ h e = no_clash h

as_atpats : (x : ℕ) (t : Term) (c : PartKind) → has (q.AtPats ∷ []) c ≡ true → Kinded x k.Pats t → KindedAs x c t
as_atpats x t q.AtPats h e = e
as_atpats x t _ h e = no_clash h

as_pats : (x : ℕ) (t : Term) (c : PartKind) → has (q.Pats ∷ []) c ≡ true → Kinded x k.Pats t → KindedAs x c t
as_pats x t q.Pats h e = e
as_pats x t _ h e = no_clash h

as_typbind : (x : ℕ) (t : Term) (c : PartKind) → has (q.OneTypBind ∷ q.TypBinds ∷ []) c ≡ true → Kinded x k.TypBinds t → KindedAs x c t
as_typbind x t q.OneTypBind h e = e
as_typbind x t q.TypBinds h e = e
as_typbind x t _ h e = no_clash h

as_typbinds : (x : ℕ) (t : Term) (c : PartKind) → has (q.TypBinds ∷ []) c ≡ true → Kinded x k.TypBinds t → KindedAs x c t
as_typbinds x t q.TypBinds h e = e
as_typbinds x t _ h e = no_clash h

as_datbinds : (x : ℕ) (t : Term) (c : PartKind) → has (q.DatBinds ∷ []) c ≡ true → Kinded x k.DatBinds t → KindedAs x c t
as_datbinds x t q.DatBinds h e = e
as_datbinds x t _ h e = no_clash h

as_conbind : (x : ℕ) (t : Term) (c : PartKind) → has (q.OneConBind ∷ q.ConBinds ∷ []) c ≡ true → Kinded x k.ConBinds t → KindedAs x c t
as_conbind x t q.OneConBind h e = e
as_conbind x t q.ConBinds h e = e
as_conbind x t _ h e = no_clash h

as_conbinds : (x : ℕ) (t : Term) (c : PartKind) → has (q.ConBinds ∷ []) c ≡ true → Kinded x k.ConBinds t → KindedAs x c t
as_conbinds x t q.ConBinds h e = e
as_conbinds x t _ h e = no_clash h

as_exbind : (x : ℕ) (t : Term) (c : PartKind) → has (q.OneExBind ∷ q.ExBinds ∷ []) c ≡ true → Kinded x k.ExBinds t → KindedAs x c t
as_exbind x t q.OneExBind h e = e
as_exbind x t q.ExBinds h e = e
as_exbind x t _ h e = no_clash h

as_exbinds : (x : ℕ) (t : Term) (c : PartKind) → has (q.ExBinds ∷ []) c ≡ true → Kinded x k.ExBinds t → KindedAs x c t
as_exbinds x t q.ExBinds h e = e
as_exbinds x t _ h e = no_clash h

as_label : (x : ℕ) (t : Term) (c : PartKind) → has (q.AnyLabel ∷ q.VidLabel ∷ []) c ≡ true → Kinded x k.Label t → KindedAs x c t
as_label x t q.AnyLabel h e = e
as_label x t q.VidLabel h e = e
as_label x t _ h e = no_clash h

as_anylabel : (x : ℕ) (t : Term) (c : PartKind) → has (q.AnyLabel ∷ []) c ≡ true → Kinded x k.Label t → KindedAs x c t
as_anylabel x t q.AnyLabel h e = e
as_anylabel x t _ h e = no_clash h

as_row : (x : ℕ) (t : Term) (c : PartKind) → has (q.OneRow ∷ q.Rows ∷ []) c ≡ true → Kinded x k.Rows t → KindedAs x c t
as_row x t q.OneRow h e = e
as_row x t q.Rows h e = e
as_row x t _ h e = no_clash h

as_rows : (x : ℕ) (t : Term) (c : PartKind) → has (q.Rows ∷ []) c ≡ true → Kinded x k.Rows t → KindedAs x c t
as_rows x t q.Rows h e = e
as_rows x t _ h e = no_clash h

as_items : (x : ℕ) (t : Term) (c : PartKind) → has (q.Items ∷ []) c ≡ true → Kinded x k.Exps t → KindedAs x c t
as_items x t q.Items h e = e
as_items x t _ h e = no_clash h

as_seq : (x : ℕ) (t : Term) (c : PartKind) → has (q.Seq ∷ []) c ≡ true → Kinded x k.Exps t → KindedAs x c t
as_seq x t q.Seq h e = e
as_seq x t _ h e = no_clash h

as_rule : (x : ℕ) (t : Term) (c : PartKind) → has (q.OneRule ∷ q.Rules ∷ []) c ≡ true → Kinded x k.Rules t → KindedAs x c t
as_rule x t q.OneRule h e = e
as_rule x t q.Rules h e = e
as_rule x t _ h e = no_clash h

as_rules : (x : ℕ) (t : Term) (c : PartKind) → has (q.Rules ∷ []) c ≡ true → Kinded x k.Rules t → KindedAs x c t
as_rules x t q.Rules h e = e
as_rules x t _ h e = no_clash h

as_patrow : (x : ℕ) (t : Term) (c : PartKind) → has (q.OnePatRow ∷ q.PatRows ∷ []) c ≡ true → Kinded x k.PatRows t → KindedAs x c t
as_patrow x t q.OnePatRow h e = e
as_patrow x t q.PatRows h e = e
as_patrow x t _ h e = no_clash h

as_patrows : (x : ℕ) (t : Term) (c : PartKind) → has (q.PatRows ∷ []) c ≡ true → Kinded x k.PatRows t → KindedAs x c t
as_patrows x t q.PatRows h e = e
as_patrows x t _ h e = no_clash h

as_factors : (x : ℕ) (t : Term) (c : PartKind) → has (q.Factors ∷ []) c ≡ true → Kinded x k.Tys t → KindedAs x c t
as_factors x t q.Factors h e = e
as_factors x t _ h e = no_clash h

as_tys : (x : ℕ) (t : Term) (c : PartKind) → has (q.Tys ∷ []) c ≡ true → Kinded x k.Tys t → KindedAs x c t
as_tys x t q.Tys h e = e
as_tys x t _ h e = no_clash h

as_tyrow : (x : ℕ) (t : Term) (c : PartKind) → has (q.OneTyRow ∷ q.TyRows ∷ []) c ≡ true → Kinded x k.TyRows t → KindedAs x c t
as_tyrow x t q.OneTyRow h e = e
as_tyrow x t q.TyRows h e = e
as_tyrow x t _ h e = no_clash h

as_tyrows : (x : ℕ) (t : Term) (c : PartKind) → has (q.TyRows ∷ []) c ≡ true → Kinded x k.TyRows t → KindedAs x c t
as_tyrows x t q.TyRows h e = e
as_tyrows x t _ h e = no_clash h

as_valbind : (x : ℕ) (t : Term) (c : PartKind) → has (q.OneValBind ∷ q.ValBinds ∷ []) c ≡ true → Kinded x k.ValBind t → KindedAs x c t
as_valbind x t q.OneValBind h e = e
as_valbind x t q.ValBinds h e = k.one_val_bind e
as_valbind x t _ h e = no_clash h

as_datbind : (x : ℕ) (t : Term) (c : PartKind) → has (q.OneDatBind ∷ q.DatBinds ∷ []) c ≡ true → Kinded x k.DatBind t → KindedAs x c t
as_datbind x t q.OneDatBind h e = e
as_datbind x t q.DatBinds h e = k.one_dat_bind e
as_datbind x t _ h e = no_clash h

as_clause : (x : ℕ) (t : Term) (c : PartKind) → has (q.OneClause ∷ q.Clauses ∷ q.FunBinds ∷ []) c ≡ true → Kinded x k.Clause t → KindedAs x c t
as_clause x t q.OneClause h e = e
as_clause x t q.Clauses h e = k.one_clause e
as_clause x t q.FunBinds h e = k.one_fun (k.one_clause e)
as_clause x t _ h e = no_clash h

as_clauses : (x : ℕ) (t : Term) (c : PartKind) → has (q.Clauses ∷ q.FunBinds ∷ []) c ≡ true → Kinded x k.Clauses t → KindedAs x c t
as_clauses x t q.Clauses h e = e
as_clauses x t q.FunBinds h e = k.one_fun e
as_clauses x t _ h e = no_clash h

as_n_vids : (x : ℕ) (t : Term) (c : PartKind) → has (q.DirectiveVids ∷ []) c ≡ true → KindedAs x c t
as_n_vids x t q.DirectiveVids h = tt
as_n_vids x t _ h = no_clash h

as_n_bound : (x : ℕ) (t : Term) (c : PartKind) → has (q.BoundTyVars ∷ []) c ≡ true → KindedAs x c t
as_n_bound x t q.BoundTyVars h = tt
as_n_bound x t _ h = no_clash h

as_n_list : (x : ℕ) (t : Term) (c : PartKind) → has (q.TyVarList ∷ []) c ≡ true → KindedAs x c t
as_n_list x t q.TyVarList h = tt
as_n_list x t _ h = no_clash h

as_n_eq : (x : ℕ) (t : Term) (c : PartKind) → has (q.OperatorVid ∷ q.AnyVid ∷ []) c ≡ true → KindedAs x c t
as_n_eq x t q.OperatorVid h = tt
as_n_eq x t q.AnyVid h = tt
as_n_eq x t _ h = no_clash h

pub kinded : (x : ℕ) (t : Term) → Facts x t → (c : PartKind) → is_a t c ≡ true → KindedAs x c t
unfolding is_op
kinded x (leaf node.NoDecs p) f o h = as_decs x (leaf node.NoDecs p) o (stood node.NoDecs [] o h) (k.no_decs p)
kinded x (leaf node.NoTyVars p) f o h = as_n_bound x (leaf node.NoTyVars p) o (stood node.NoTyVars [] o h)
kinded x (leaf (node.Vid y) p) f o h = as_vid x (leaf (node.Vid y) p) o (stood (node.Vid y) [] o h) (k.vid y p) (k.pat_vid y p)
kinded x (leaf node.VidEquals p) f o h = as_n_eq x (leaf node.VidEquals p) o (stood node.VidEquals [] o h)
kinded x (leaf (node.LongVid y) p) f o h = as_longvid x (leaf (node.LongVid y) p) o (stood (node.LongVid y) [] o h) (k.long_vid y p) (k.pat_long_vid y p)
kinded x (leaf (node.TyCon y) p) f o h = as_tycon x (leaf (node.TyCon y) p) o (stood (node.TyCon y) [] o h) (k.ty_con y p)
kinded x (leaf (node.LongTyCon y) p) f o h = as_longtycon x (leaf (node.LongTyCon y) p) o (stood (node.LongTyCon y) [] o h) (k.long_ty_con y p)
kinded x (leaf (node.TyVar y) p) f o h = as_tyvar x (leaf (node.TyVar y) p) o (stood (node.TyVar y) [] o h) (k.ty_var y p)
kinded x (leaf (node.Label y) p) f o h = as_label x (leaf (node.Label y) p) o (stood (node.Label y) [] o h) (k.label y p)
kinded x (leaf (node.LabelNumber y) p) f o h = as_anylabel x (leaf (node.LabelNumber y) p) o (stood (node.LabelNumber y) [] o h) (k.label_number y p)
kinded x (leaf (node.Int y) p) f o h = as_const x (leaf (node.Int y) p) o (stood (node.Int y) [] o h) (k.int y p f) (k.pat_int y p f)
kinded x (leaf (node.Char y) p) f o h = as_const x (leaf (node.Char y) p) o (stood (node.Char y) [] o h) (k.char y p f) (k.pat_char y p f)
kinded x (leaf (node.Text y) p) f o h = as_const x (leaf (node.Text y) p) o (stood (node.Text y) [] o h) (k.text y p f) (k.pat_text y p f)
kinded x (leaf node.EmptyRecord p) f o h = as_exp x (leaf node.EmptyRecord p) o (stood node.EmptyRecord [] o h) (k.empty_record p)
kinded x (leaf node.Unit p) f o h = as_exp x (leaf node.Unit p) o (stood node.Unit [] o h) (k.unit p)
kinded x (leaf node.EmptyList p) f o h = as_exp x (leaf node.EmptyList p) o (stood node.EmptyList [] o h) (k.empty_list p)
kinded x (leaf node.Wild p) f o h = as_pat x (leaf node.Wild p) o (stood node.Wild [] o h) (k.wild p)
kinded x (leaf node.PatEmptyRecord p) f o h = as_pat x (leaf node.PatEmptyRecord p) o (stood node.PatEmptyRecord [] o h) (k.pat_empty_record p)
kinded x (leaf node.PatUnit p) f o h = as_pat x (leaf node.PatUnit p) o (stood node.PatUnit [] o h) (k.pat_unit p)
kinded x (leaf node.PatEmptyList p) f o h = as_pat x (leaf node.PatEmptyList p) o (stood node.PatEmptyList [] o h) (k.pat_empty_list p)
kinded x (leaf node.EmptyRecordTy p) f o h = as_ty x (leaf node.EmptyRecordTy p) o (stood node.EmptyRecordTy [] o h) (k.empty_record_ty p)
kinded x (leaf n p) f o h = no_clash (arity n [] o 0 refl h)
kinded x (one node.Type p a) f o h = let w = one_part node.Type p a o q.TypBinds (wanted_other o node.Type refl) h in as_dec x (one node.Type p a) o (stood node.Type (is_a a ∷ []) o h) (k.type_dec p (kinded x a f q.TypBinds w))
kinded x (one node.Datatype p a) f o h = let w = one_part node.Datatype p a o q.DatBinds (wanted_other o node.Datatype refl) h in as_dec x (one node.Datatype p a) o (stood node.Datatype (is_a a ∷ []) o h) (k.datatype p (kinded x a f q.DatBinds w))
kinded x (one node.Exception p a) f o h = let w = one_part node.Exception p a o q.ExBinds (wanted_other o node.Exception refl) h in as_dec x (one node.Exception p a) o (stood node.Exception (is_a a ∷ []) o h) (k.exception_dec p (kinded x a f q.ExBinds w))
kinded x (one (node.Directive y) p a) f o h = as_dec x (one (node.Directive y) p a) o (stood (node.Directive y) (is_a a ∷ []) o h) (k.directive y p a)
kinded x (one node.TyVarSeq p a) f o h = as_n_bound x (one node.TyVarSeq p a) o (stood node.TyVarSeq (is_a a ∷ []) o h)
kinded x (one node.Rec p a) f o h = let w = one_part node.Rec p a o q.ValBinds (wanted_other o node.Rec refl) h in as_valbinds x (one node.Rec p a) o (stood node.Rec (is_a a ∷ []) o h) (k.rec_binds p (kinded x a f q.ValBinds w))
kinded x (one node.ConBind p a) f o h = as_conbind x (one node.ConBind p a) o (stood node.ConBind (is_a a ∷ []) o h) (k.con_bind p a)
kinded x (one node.ExBind p a) f o h = as_exbind x (one node.ExBind p a) o (stood node.ExBind (is_a a ∷ []) o h) (k.ex_bind p a)
kinded x (one node.Op p a) f o h = as_op x (one node.Op p a) o (stood node.Op (is_a a ∷ []) o h) (k.op p a) (k.pat_op p a)
kinded x (one node.Raise p a) f o h = let w = one_part node.Raise p a o q.Exp (wanted_other o node.Raise refl) h in as_exp x (one node.Raise p a) o (stood node.Raise (is_a a ∷ []) o h) (k.raise p (kinded x a f q.Exp w))
kinded x (one node.Fn p a) f o h = let w = one_part node.Fn p a o q.Rules (wanted_other o node.Fn refl) h in as_exp x (one node.Fn p a) o (stood node.Fn (is_a a ∷ []) o h) (k.fn p (kinded x a f q.Rules w))
kinded x (one node.Record p a) f o h = let w = one_part node.Record p a o q.Rows (wanted_other o node.Record refl) h in as_exp x (one node.Record p a) o (stood node.Record (is_a a ∷ []) o h) (k.record_exp p (kinded x a f q.Rows w))
kinded x (one node.List p a) f o h = let w = one_part node.List p a o q.Items (wanted_other o node.List refl) h in as_exp x (one node.List p a) o (stood node.List (is_a a ∷ []) o h) (k.list p (kinded x a f q.Items w))
kinded x (one node.Paren p a) f o h = let w = one_part node.Paren p a o q.Exp (wanted_other o node.Paren refl) h in as_exp x (one node.Paren p a) o (stood node.Paren (is_a a ∷ []) o h) (k.paren p (kinded x a f q.Exp w))
kinded x (one node.PatRecord p a) f o h = let w = one_part node.PatRecord p a o q.PatRows (wanted_other o node.PatRecord refl) h in as_pat x (one node.PatRecord p a) o (stood node.PatRecord (is_a a ∷ []) o h) (k.pat_record p (kinded x a f q.PatRows w))
kinded x (one node.PatList p a) f o h = let w = one_part node.PatList p a o q.Pats (wanted_other o node.PatList refl) h in as_pat x (one node.PatList p a) o (stood node.PatList (is_a a ∷ []) o h) (k.pat_list p (kinded x a f q.Pats w))
kinded x (one node.PatParen p a) f o h = let w = one_part node.PatParen p a o q.Pat (wanted_other o node.PatParen refl) h in as_pat x (one node.PatParen p a) o (stood node.PatParen (is_a a ∷ []) o h) (k.pat_paren p (kinded x a f q.Pat w))
kinded x (one node.PunRow p a) f o h = let w = one_part node.PunRow p a o q.VidLabel (wanted_other o node.PunRow refl) h in as_patrow x (one node.PunRow p a) o (stood node.PunRow (is_a a ∷ []) o h) (k.pun_row p (kinded x a f q.VidLabel w))
kinded x (one node.RecordTy p a) f o h = let w = one_part node.RecordTy p a o q.TyRows (wanted_other o node.RecordTy refl) h in as_ty x (one node.RecordTy p a) o (stood node.RecordTy (is_a a ∷ []) o h) (k.record_ty p (kinded x a f q.TyRows w))
kinded x (one node.ParenTy p a) f o h = let w = one_part node.ParenTy p a o q.Ty (wanted_other o node.ParenTy refl) h in as_ty x (one node.ParenTy p a) o (stood node.ParenTy (is_a a ∷ []) o h) (k.paren_ty p (kinded x a f q.Ty w))
kinded x (one n p a) f o h = no_clash (arity n (is_a a ∷ []) o 1 refl h)
kinded x (two node.Val p a b) f o h = let w = two_parts node.Val p a b o q.BoundTyVars q.ValBinds (wanted_other o node.Val refl) h in as_dec x (two node.Val p a b) o (stood node.Val (is_a a ∷ is_a b ∷ []) o h) (k.val p a (kinded x b (f.1) q.ValBinds (w.1)))
kinded x (two node.Fun p a b) f o h = let w = two_parts node.Fun p a b o q.BoundTyVars q.FunBinds (wanted_other o node.Fun refl) h in as_dec x (two node.Fun p a b) o (stood node.Fun (is_a a ∷ is_a b ∷ []) o h) (k.fun p a (kinded x b (f.1) q.FunBinds (w.1)))
kinded x (two node.Local p a b) f o h = let w = two_parts node.Local p a b o q.Decs q.Decs (wanted_other o node.Local refl) h in as_dec x (two node.Local p a b) o (stood node.Local (is_a a ∷ is_a b ∷ []) o h) (k.local p (kinded x a (f.0) q.Decs (w.0)) (kinded x b (f.1) q.Decs (w.1)))
kinded x (two node.MoreDecs p a b) f o h = let w = two_parts node.MoreDecs p a b o q.Dec q.Decs (wanted_other o node.MoreDecs refl) h in as_decs x (two node.MoreDecs p a b) o (stood node.MoreDecs (is_a a ∷ is_a b ∷ []) o h) (k.more_decs p (kinded x a (f.0) q.Dec (w.0)) (kinded x b (f.1) q.Decs (w.1)))
kinded x (two node.MoreVids p a b) f o h = as_n_vids x (two node.MoreVids p a b) o (stood node.MoreVids (is_a a ∷ is_a b ∷ []) o h)
kinded x (two node.MoreTyVars p a b) f o h = as_n_list x (two node.MoreTyVars p a b) o (stood node.MoreTyVars (is_a a ∷ is_a b ∷ []) o h)
kinded x (two node.ValBind p a b) f o h = let w = two_parts node.ValBind p a b o q.Pat q.Exp (wanted_other o node.ValBind refl) h in as_valbind x (two node.ValBind p a b) o (stood node.ValBind (is_a a ∷ is_a b ∷ []) o h) (k.val_bind p (kinded x a (f.0) q.Pat (w.0)) (kinded x b (f.1) q.Exp (w.1)))
kinded x (two node.MoreValBinds p a b) f o h = let w = two_parts node.MoreValBinds p a b o q.OneValBind q.ValBinds (wanted_other o node.MoreValBinds refl) h in as_valbinds x (two node.MoreValBinds p a b) o (stood node.MoreValBinds (is_a a ∷ is_a b ∷ []) o h) (k.more_val_binds p (kinded x a (f.0) q.OneValBind (w.0)) (kinded x b (f.1) q.ValBinds (w.1)))
kinded x (two node.MoreFunBinds p a b) f o h = let w = two_parts node.MoreFunBinds p a b o q.Clauses q.FunBinds (wanted_other o node.MoreFunBinds refl) h in as_funbinds x (two node.MoreFunBinds p a b) o (stood node.MoreFunBinds (is_a a ∷ is_a b ∷ []) o h) (k.more_funs p (kinded x a (f.0) q.Clauses (w.0)) (kinded x b (f.1) q.FunBinds (w.1)))
kinded x (two node.MoreClauses p a b) f o h = let w = two_parts node.MoreClauses p a b o q.OneClause q.Clauses (wanted_other o node.MoreClauses refl) h in as_clauses x (two node.MoreClauses p a b) o (stood node.MoreClauses (is_a a ∷ is_a b ∷ []) o h) (k.more_clauses p (kinded x a (f.0) q.OneClause (w.0)) (kinded x b (f.1) q.Clauses (w.1)))
kinded x (two node.Clause p a b) f o h = let w = two_parts node.Clause p a b o q.ClauseHead q.Exp (wanted_other o node.Clause refl) h in as_clause x (two node.Clause p a b) o (stood node.Clause (is_a a ∷ is_a b ∷ []) o h) (k.clause p (kinded x a (f.0) q.ClauseHead (w.0)) (kinded x b (f.1) q.Exp (w.1)))
kinded x (two node.Head p a b) f o h = let w = two_parts node.Head p a b o q.LongVid q.AtPats (wanted_other o node.Head refl) h in as_headk x (two node.Head p a b) o (stood node.Head (is_a a ∷ is_a b ∷ []) o h) (k.head p a (kinded x b (f.1) q.AtPats (w.1)))
kinded x (two node.MoreAtpats p a b) f o h = let w = two_parts node.MoreAtpats p a b o q.Pat q.AtPats (wanted_other o node.MoreAtpats refl) h in as_atpats x (two node.MoreAtpats p a b) o (stood node.MoreAtpats (is_a a ∷ is_a b ∷ []) o h) (k.more_atpats p (kinded x a (f.0) q.Pat (w.0)) (kinded x b (f.1) q.AtPats (w.1)))
kinded x (two node.MoreTypBinds p a b) f o h = let w = two_parts node.MoreTypBinds p a b o q.OneTypBind q.TypBinds (wanted_other o node.MoreTypBinds refl) h in as_typbinds x (two node.MoreTypBinds p a b) o (stood node.MoreTypBinds (is_a a ∷ is_a b ∷ []) o h) (k.more_typ_binds p (kinded x a (f.0) q.OneTypBind (w.0)) (kinded x b (f.1) q.TypBinds (w.1)))
kinded x (two node.MoreDatBinds p a b) f o h = let w = two_parts node.MoreDatBinds p a b o q.OneDatBind q.DatBinds (wanted_other o node.MoreDatBinds refl) h in as_datbinds x (two node.MoreDatBinds p a b) o (stood node.MoreDatBinds (is_a a ∷ is_a b ∷ []) o h) (k.more_dat_binds p (kinded x a (f.0) q.OneDatBind (w.0)) (kinded x b (f.1) q.DatBinds (w.1)))
kinded x (two node.ConBindOf p a b) f o h = let w = two_parts node.ConBindOf p a b o q.OpVid q.Ty (wanted_other o node.ConBindOf refl) h in as_conbind x (two node.ConBindOf p a b) o (stood node.ConBindOf (is_a a ∷ is_a b ∷ []) o h) (k.con_bind_of p a (kinded x b (f.1) q.Ty (w.1)))
kinded x (two node.MoreConBinds p a b) f o h = let w = two_parts node.MoreConBinds p a b o q.OneConBind q.ConBinds (wanted_other o node.MoreConBinds refl) h in as_conbinds x (two node.MoreConBinds p a b) o (stood node.MoreConBinds (is_a a ∷ is_a b ∷ []) o h) (k.more_con_binds p (kinded x a (f.0) q.OneConBind (w.0)) (kinded x b (f.1) q.ConBinds (w.1)))
kinded x (two node.ExBindOf p a b) f o h = let w = two_parts node.ExBindOf p a b o q.OpVid q.Ty (wanted_other o node.ExBindOf refl) h in as_exbind x (two node.ExBindOf p a b) o (stood node.ExBindOf (is_a a ∷ is_a b ∷ []) o h) (k.ex_bind_of p a (kinded x b (f.1) q.Ty (w.1)))
kinded x (two node.ExBindIs p a b) f o h = as_exbind x (two node.ExBindIs p a b) o (stood node.ExBindIs (is_a a ∷ is_a b ∷ []) o h) (k.ex_bind_is p a b)
kinded x (two node.MoreExBinds p a b) f o h = let w = two_parts node.MoreExBinds p a b o q.OneExBind q.ExBinds (wanted_other o node.MoreExBinds refl) h in as_exbinds x (two node.MoreExBinds p a b) o (stood node.MoreExBinds (is_a a ∷ is_a b ∷ []) o h) (k.more_ex_binds p (kinded x a (f.0) q.OneExBind (w.0)) (kinded x b (f.1) q.ExBinds (w.1)))
kinded x (two node.Handle p a b) f o h = let w = two_parts node.Handle p a b o q.Exp q.Rules (wanted_other o node.Handle refl) h in as_exp x (two node.Handle p a b) o (stood node.Handle (is_a a ∷ is_a b ∷ []) o h) (k.handle p (kinded x a (f.0) q.Exp (w.0)) (kinded x b (f.1) q.Rules (w.1)))
kinded x (two node.Orelse p a b) f o h = let w = two_parts node.Orelse p a b o q.Exp q.Exp (wanted_other o node.Orelse refl) h in as_exp x (two node.Orelse p a b) o (stood node.Orelse (is_a a ∷ is_a b ∷ []) o h) (k.orelse p (kinded x a (f.0) q.Exp (w.0)) (kinded x b (f.1) q.Exp (w.1)))
kinded x (two node.Andalso p a b) f o h = let w = two_parts node.Andalso p a b o q.Exp q.Exp (wanted_other o node.Andalso refl) h in as_exp x (two node.Andalso p a b) o (stood node.Andalso (is_a a ∷ is_a b ∷ []) o h) (k.andalso p (kinded x a (f.0) q.Exp (w.0)) (kinded x b (f.1) q.Exp (w.1)))
kinded x (two node.Typed p a b) f o h = let w = two_parts node.Typed p a b o q.Exp q.Ty (wanted_other o node.Typed refl) h in as_exp x (two node.Typed p a b) o (stood node.Typed (is_a a ∷ is_a b ∷ []) o h) (k.typed p (kinded x a (f.0) q.Exp (w.0)) (kinded x b (f.1) q.Ty (w.1)))
kinded x (two node.While p a b) f o h = let w = two_parts node.While p a b o q.Exp q.Exp (wanted_other o node.While refl) h in as_exp x (two node.While p a b) o (stood node.While (is_a a ∷ is_a b ∷ []) o h) (k.while p (kinded x a (f.0) q.Exp (w.0)) (kinded x b (f.1) q.Exp (w.1)))
kinded x (two node.Case p a b) f o h = let w = two_parts node.Case p a b o q.Exp q.Rules (wanted_other o node.Case refl) h in as_exp x (two node.Case p a b) o (stood node.Case (is_a a ∷ is_a b ∷ []) o h) (k.case p (kinded x a (f.0) q.Exp (w.0)) (kinded x b (f.1) q.Rules (w.1)))
kinded x (two node.Apply p a b) f o h = let w = two_parts node.Apply p a b o q.Exp q.Exp (wanted_other o node.Apply refl) h in as_exp x (two node.Apply p a b) o (stood node.Apply (is_a a ∷ is_a b ∷ []) o h) (k.apply p (kinded x a (f.0) q.Exp (w.0)) (kinded x b (f.1) q.Exp (w.1)))
kinded x (two node.Row p a b) f o h = let w = two_parts node.Row p a b o q.AnyLabel q.Exp (wanted_other o node.Row refl) h in as_row x (two node.Row p a b) o (stood node.Row (is_a a ∷ is_a b ∷ []) o h) (k.row p (kinded x a (f.0) q.AnyLabel (w.0)) (kinded x b (f.1) q.Exp (w.1)))
kinded x (two node.MoreRows p a b) f o h = let w = two_parts node.MoreRows p a b o q.OneRow q.Rows (wanted_other o node.MoreRows refl) h in as_rows x (two node.MoreRows p a b) o (stood node.MoreRows (is_a a ∷ is_a b ∷ []) o h) (k.more_rows p (kinded x a (f.0) q.OneRow (w.0)) (kinded x b (f.1) q.Rows (w.1)))
kinded x (two node.Tuple p a b) f o h = let w = two_parts node.Tuple p a b o q.Exp q.Items (wanted_other o node.Tuple refl) h in as_exp x (two node.Tuple p a b) o (stood node.Tuple (is_a a ∷ is_a b ∷ []) o h) (k.tuple p (kinded x a (f.0) q.Exp (w.0)) (kinded x b (f.1) q.Items (w.1)))
kinded x (two node.Sequence p a b) f o h = let w = two_parts node.Sequence p a b o q.Exp q.Seq (wanted_other o node.Sequence refl) h in as_exp x (two node.Sequence p a b) o (stood node.Sequence (is_a a ∷ is_a b ∷ []) o h) (k.sequence p (kinded x a (f.0) q.Exp (w.0)) (kinded x b (f.1) q.Seq (w.1)))
kinded x (two node.MoreItems p a b) f o h = let w = two_parts node.MoreItems p a b o q.Exp q.Items (wanted_other o node.MoreItems refl) h in as_items x (two node.MoreItems p a b) o (stood node.MoreItems (is_a a ∷ is_a b ∷ []) o h) (k.more_items p (kinded x a (f.0) q.Exp (w.0)) (kinded x b (f.1) q.Items (w.1)))
kinded x (two node.Let p a b) f o h = let w = two_parts node.Let p a b o q.Decs q.Seq (wanted_other o node.Let refl) h in as_exp x (two node.Let p a b) o (stood node.Let (is_a a ∷ is_a b ∷ []) o h) (k.let_exp p (kinded x a (f.0) q.Decs (w.0)) (kinded x b (f.1) q.Seq (w.1)))
kinded x (two node.MoreSeq p a b) f o h = let w = two_parts node.MoreSeq p a b o q.Exp q.Seq (wanted_other o node.MoreSeq refl) h in as_seq x (two node.MoreSeq p a b) o (stood node.MoreSeq (is_a a ∷ is_a b ∷ []) o h) (k.more_seq p (kinded x a (f.0) q.Exp (w.0)) (kinded x b (f.1) q.Seq (w.1)))
kinded x (two node.Rule p a b) f o h = let w = two_parts node.Rule p a b o q.Pat q.Exp (wanted_other o node.Rule refl) h in as_rule x (two node.Rule p a b) o (stood node.Rule (is_a a ∷ is_a b ∷ []) o h) (k.rule p (kinded x a (f.0) q.Pat (w.0)) (kinded x b (f.1) q.Exp (w.1)))
kinded x (two node.MoreRules p a b) f o h = let w = two_parts node.MoreRules p a b o q.OneRule q.Rules (wanted_other o node.MoreRules refl) h in as_rules x (two node.MoreRules p a b) o (stood node.MoreRules (is_a a ∷ is_a b ∷ []) o h) (k.more_rules p (kinded x a (f.0) q.OneRule (w.0)) (kinded x b (f.1) q.Rules (w.1)))
kinded x (two node.Layered p a b) f o h = let w = two_parts node.Layered p a b o q.OpVid q.Pat (wanted_other o node.Layered refl) h in as_pat x (two node.Layered p a b) o (stood node.Layered (is_a a ∷ is_a b ∷ []) o h) (k.layered p a (kinded x b (f.1) q.Pat (w.1)))
kinded x (two node.TypedPat p a b) f o h = let w = two_parts node.TypedPat p a b o q.Pat q.Ty (wanted_other o node.TypedPat refl) h in as_pat x (two node.TypedPat p a b) o (stood node.TypedPat (is_a a ∷ is_a b ∷ []) o h) (k.typed_pat p (kinded x a (f.0) q.Pat (w.0)) (kinded x b (f.1) q.Ty (w.1)))
kinded x (two node.ConPat p a b) f o h = let w = two_parts node.ConPat p a b o q.LongVid q.Pat (wanted_other o node.ConPat refl) h in as_pat x (two node.ConPat p a b) o (stood node.ConPat (is_a a ∷ is_a b ∷ []) o h) (k.con_pat p a (kinded x b (f.1) q.Pat (w.1)))
kinded x (two node.PatTuple p a b) f o h = let w = two_parts node.PatTuple p a b o q.Pat q.Pats (wanted_other o node.PatTuple refl) h in as_pat x (two node.PatTuple p a b) o (stood node.PatTuple (is_a a ∷ is_a b ∷ []) o h) (k.pat_tuple p (kinded x a (f.0) q.Pat (w.0)) (kinded x b (f.1) q.Pats (w.1)))
kinded x (two node.MorePats p a b) f o h = let w = two_parts node.MorePats p a b o q.Pat q.Pats (wanted_other o node.MorePats refl) h in as_pats x (two node.MorePats p a b) o (stood node.MorePats (is_a a ∷ is_a b ∷ []) o h) (k.more_pats p (kinded x a (f.0) q.Pat (w.0)) (kinded x b (f.1) q.Pats (w.1)))
kinded x (two node.PatRow p a b) f o h = let w = two_parts node.PatRow p a b o q.AnyLabel q.Pat (wanted_other o node.PatRow refl) h in as_patrow x (two node.PatRow p a b) o (stood node.PatRow (is_a a ∷ is_a b ∷ []) o h) (k.pat_row p (kinded x a (f.0) q.AnyLabel (w.0)) (kinded x b (f.1) q.Pat (w.1)))
kinded x (two node.TypedPunRow p a b) f o h = let w = two_parts node.TypedPunRow p a b o q.VidLabel q.Ty (wanted_other o node.TypedPunRow refl) h in as_patrow x (two node.TypedPunRow p a b) o (stood node.TypedPunRow (is_a a ∷ is_a b ∷ []) o h) (k.typed_pun_row p (kinded x a (f.0) q.VidLabel (w.0)) (kinded x b (f.1) q.Ty (w.1)))
kinded x (two node.PunRowAs p a b) f o h = let w = two_parts node.PunRowAs p a b o q.VidLabel q.Pat (wanted_other o node.PunRowAs refl) h in as_patrow x (two node.PunRowAs p a b) o (stood node.PunRowAs (is_a a ∷ is_a b ∷ []) o h) (k.pun_row_as p (kinded x a (f.0) q.VidLabel (w.0)) (kinded x b (f.1) q.Pat (w.1)))
kinded x (two node.MorePatRows p a b) f o h = let w = two_parts node.MorePatRows p a b o q.OnePatRow q.PatRows (wanted_other o node.MorePatRows refl) h in as_patrows x (two node.MorePatRows p a b) o (stood node.MorePatRows (is_a a ∷ is_a b ∷ []) o h) (k.more_pat_rows p (kinded x a (f.0) q.OnePatRow (w.0)) (kinded x b (f.1) q.PatRows (w.1)))
kinded x (two node.ArrowTy p a b) f o h = let w = two_parts node.ArrowTy p a b o q.Ty q.Ty (wanted_other o node.ArrowTy refl) h in as_ty x (two node.ArrowTy p a b) o (stood node.ArrowTy (is_a a ∷ is_a b ∷ []) o h) (k.arrow p (kinded x a (f.0) q.Ty (w.0)) (kinded x b (f.1) q.Ty (w.1)))
kinded x (two node.ProductTy p a b) f o h = let w = two_parts node.ProductTy p a b o q.Ty q.Factors (wanted_other o node.ProductTy refl) h in as_ty x (two node.ProductTy p a b) o (stood node.ProductTy (is_a a ∷ is_a b ∷ []) o h) (k.product p (kinded x a (f.0) q.Ty (w.0)) (kinded x b (f.1) q.Factors (w.1)))
kinded x (two node.MoreFactors p a b) f o h = let w = two_parts node.MoreFactors p a b o q.Ty q.Factors (wanted_other o node.MoreFactors refl) h in as_factors x (two node.MoreFactors p a b) o (stood node.MoreFactors (is_a a ∷ is_a b ∷ []) o h) (k.more_factors p (kinded x a (f.0) q.Ty (w.0)) (kinded x b (f.1) q.Factors (w.1)))
kinded x (two node.TyRow p a b) f o h = let w = two_parts node.TyRow p a b o q.AnyLabel q.Ty (wanted_other o node.TyRow refl) h in as_tyrow x (two node.TyRow p a b) o (stood node.TyRow (is_a a ∷ is_a b ∷ []) o h) (k.ty_row p a (kinded x b (f.1) q.Ty (w.1)))
kinded x (two node.MoreTyRows p a b) f o h = let w = two_parts node.MoreTyRows p a b o q.OneTyRow q.TyRows (wanted_other o node.MoreTyRows refl) h in as_tyrows x (two node.MoreTyRows p a b) o (stood node.MoreTyRows (is_a a ∷ is_a b ∷ []) o h) (k.more_ty_rows p (kinded x a (f.0) q.OneTyRow (w.0)) (kinded x b (f.1) q.TyRows (w.1)))
kinded x (two node.ConTy p a b) f o h = let w = two_parts node.ConTy p a b o q.Ty q.LongTyCon (wanted_other o node.ConTy refl) h in as_ty x (two node.ConTy p a b) o (stood node.ConTy (is_a a ∷ is_a b ∷ []) o h) (k.con_ty p b (kinded x a (f.0) q.Ty (w.0)))
kinded x (two node.MoreTys p a b) f o h = let w = two_parts node.MoreTys p a b o q.Ty q.Tys (wanted_other o node.MoreTys refl) h in as_tys x (two node.MoreTys p a b) o (stood node.MoreTys (is_a a ∷ is_a b ∷ []) o h) (k.more_tys p (kinded x a (f.0) q.Ty (w.0)) (kinded x b (f.1) q.Tys (w.1)))
kinded x (two n p a b) f o h = no_clash (arity n (is_a a ∷ is_a b ∷ []) o 2 refl h)
kinded x (three node.TypedClause p a b c) f o h = let w = three_parts node.TypedClause p a b c o q.ClauseHead q.Ty q.Exp (wanted_other o node.TypedClause refl) h in as_clause x (three node.TypedClause p a b c) o (stood node.TypedClause (is_a a ∷ is_a b ∷ is_a c ∷ []) o h) (k.typed_clause p (kinded x a (f.0) q.ClauseHead (w.0)) (kinded x b (f.1) q.Ty (w.1)) (kinded x c (f.2) q.Exp (w.2)))
kinded x (three node.InfixHead p a b c) f o h = let w = three_parts node.InfixHead p a b c o q.Pat q.PlainVid q.Pat (wanted_other o node.InfixHead refl) h in as_headk x (three node.InfixHead p a b c) o (stood node.InfixHead (is_a a ∷ is_a b ∷ is_a c ∷ []) o h) (k.infix_head p b (kinded x a (f.0) q.Pat (w.0)) (kinded x c (f.2) q.Pat (w.2)))
kinded x (three node.ParenHead p a b c) f o h = let w = three_parts node.ParenHead p a b c o q.Pat q.PlainVid q.Pat (wanted_other o node.ParenHead refl) h in as_headk x (three node.ParenHead p a b c) o (stood node.ParenHead (is_a a ∷ is_a b ∷ is_a c ∷ []) o h) (k.paren_head p b (kinded x a (f.0) q.Pat (w.0)) (kinded x c (f.2) q.Pat (w.2)))
kinded x (three node.TypBind p a b c) f o h = let w = three_parts node.TypBind p a b c o q.BoundTyVars q.ShortTyCon q.Ty (wanted_other o node.TypBind refl) h in as_typbind x (three node.TypBind p a b c) o (stood node.TypBind (is_a a ∷ is_a b ∷ is_a c ∷ []) o h) (k.typ_bind p a b (kinded x c (f.2) q.Ty (w.2)))
kinded x (three node.DatBind p a b c) f o h = let w = three_parts node.DatBind p a b c o q.BoundTyVars q.ShortTyCon q.ConBinds (wanted_other o node.DatBind refl) h in as_datbind x (three node.DatBind p a b c) o (stood node.DatBind (is_a a ∷ is_a b ∷ is_a c ∷ []) o h) (k.dat_bind p a b (kinded x c (f.2) q.ConBinds (w.2)) (f.3))
kinded x (three node.If p a b c) f o h = let w = three_parts node.If p a b c o q.Exp q.Exp q.Exp (wanted_other o node.If refl) h in as_exp x (three node.If p a b c) o (stood node.If (is_a a ∷ is_a b ∷ is_a c ∷ []) o h) (k.if_exp p (kinded x a (f.0) q.Exp (w.0)) (kinded x b (f.1) q.Exp (w.1)) (kinded x c (f.2) q.Exp (w.2)))
kinded x (three node.InfixExp p a b c) f o h = let w = three_parts node.InfixExp p a b c o q.Exp q.OperatorVid q.Exp (wanted_other o node.InfixExp refl) h in as_exp x (three node.InfixExp p a b c) o (stood node.InfixExp (is_a a ∷ is_a b ∷ is_a c ∷ []) o h) (k.infix_exp p b (kinded x a (f.0) q.Exp (w.0)) (kinded x c (f.2) q.Exp (w.2)))
kinded x (three node.TypedLayered p a b c) f o h = let w = three_parts node.TypedLayered p a b c o q.OpVid q.Ty q.Pat (wanted_other o node.TypedLayered refl) h in as_pat x (three node.TypedLayered p a b c) o (stood node.TypedLayered (is_a a ∷ is_a b ∷ is_a c ∷ []) o h) (k.typed_layered p a (kinded x b (f.1) q.Ty (w.1)) (kinded x c (f.2) q.Pat (w.2)))
kinded x (three node.InfixPat p a b c) f o h = let w = three_parts node.InfixPat p a b c o q.Pat q.PlainVid q.Pat (wanted_other o node.InfixPat refl) h in as_pat x (three node.InfixPat p a b c) o (stood node.InfixPat (is_a a ∷ is_a b ∷ is_a c ∷ []) o h) (k.infix_pat p b (kinded x a (f.0) q.Pat (w.0)) (kinded x c (f.2) q.Pat (w.2)))
kinded x (three node.TypedPunRowAs p a b c) f o h = let w = three_parts node.TypedPunRowAs p a b c o q.VidLabel q.Ty q.Pat (wanted_other o node.TypedPunRowAs refl) h in as_patrow x (three node.TypedPunRowAs p a b c) o (stood node.TypedPunRowAs (is_a a ∷ is_a b ∷ is_a c ∷ []) o h) (k.typed_pun_row_as p (kinded x a (f.0) q.VidLabel (w.0)) (kinded x b (f.1) q.Ty (w.1)) (kinded x c (f.2) q.Pat (w.2)))
kinded x (three node.SeqConTy p a b c) f o h = let w = three_parts node.SeqConTy p a b c o q.Ty q.Tys q.LongTyCon (wanted_other o node.SeqConTy refl) h in as_ty x (three node.SeqConTy p a b c) o (stood node.SeqConTy (is_a a ∷ is_a b ∷ is_a c ∷ []) o h) (k.seq_con_ty p c (kinded x a (f.0) q.Ty (w.0)) (kinded x b (f.1) q.Tys (w.1)))
kinded x (three n p a b c) f o h = no_clash (arity n (is_a a ∷ is_a b ∷ is_a c ∷ []) o 3 refl h)
kinded x (four node.ParenHeadArgs p a b c d) f o h = let w = four_parts node.ParenHeadArgs p a b c d o q.Pat q.PlainVid q.Pat q.AtPats (wanted_other o node.ParenHeadArgs refl) h in as_headk x (four node.ParenHeadArgs p a b c d) o (stood node.ParenHeadArgs (is_a a ∷ is_a b ∷ is_a c ∷ is_a d ∷ []) o h) (k.paren_head_args p b (kinded x a (f.0) q.Pat (w.0)) (kinded x c (f.2) q.Pat (w.2)) (kinded x d (f.3) q.AtPats (w.3)))
kinded x (four n p a b c d) f o h = no_clash (arity n (is_a a ∷ is_a b ∷ is_a c ∷ is_a d ∷ []) o 4 refl h)

-- ---- The trees of a parse tree

all_kinded : (x : ℕ) (ts : List Term) → AllByRecursion (Leaves x) ts → AllByRecursion (λ t. leaves_in t ≤ 1048576) ts → list_all (λ t. is_a t q.Dec) ts ≡ true → AllByRecursion (Kinded x k.Dec) ts
all_kinded x [] a b h = tt
all_kinded x (t ∷ ts) a b h = let d = both_true (is_a t q.Dec) (list_all (λ t. is_a t q.Dec) ts) h in (kinded x t (facts_of x t a.0 b.0) q.Dec d.0, all_kinded x ts a.1 b.1 d.1)

-- with more texts
leaf_more : (x y : ℕ) (n : TreeNode) → x ≤ y → LeafFact x n → LeafFact y n
leaf_more x y (node.Int i) le h = h
leaf_more x y (node.Char c) le h = h
leaf_more x y (node.Text t) le h = omega (arith, le, h)
leaf_more x y _ le h = tt

leaves_more : (x y : ℕ) (nodes : List TreeNode) → x ≤ y → AllByRecursion (LeafFact x) nodes → AllByRecursion (LeafFact y) nodes
leaves_more x y [] le h = tt
leaves_more x y (n ∷ nodes) le h = (leaf_more x y n le h.0, leaves_more x y nodes le h.1)

pub tree_shaped : (t : Tree) (texts : ℕ) → length t.texts ≤ texts → AllByRecursion CharFits t.nodes → AllByRecursion (Kinded texts k.Dec) (trees t.nodes t.places)
unfolding total
tree_shaped t texts le c =
    let few = t.few in
    all_kinded texts (trees t.nodes t.places)
    (read_leaves texts t.nodes t.places [] (leaves_more (length t.texts) texts t.nodes le (cited_leaves (length t.names) (length t.texts) t.nodes t.cited c)) tt)
    (read_few 1048576 t.nodes t.places [] (omega (arith, few)))
    (sym (shaped_trees t.nodes t.places t.decs t.placed t.forest) ∙ t.shaped)
