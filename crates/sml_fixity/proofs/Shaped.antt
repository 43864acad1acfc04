-- What each phrase makes may stand as a phrase of its kind.
use Rattle.std.proofs.Common.{arith, ◌≡◌, ℕ, suc, ◌++◌, append_assoc, ◌&&◌, ◌||◌, Bool, true, false, nat_eq, take, drop, get_or, reverse, Option, Some, None, List, [], ◌∷◌, length, refl, sym, ◌∙◌, ap, subst}
use Rattle.std.specs.List.{list_all}
use Rattle.std.proofs.Math.Seq.{drop-append_seam, take-append_seam}
use Rattle.std.proofs.lemmas.Bool.Decides.{nat_tests}
use Rattle.std.proofs.lemmas.List.{append-nil, reverse-append}
use Rattle.std.proofs.lemmas.List.Folds.{list_all-append}
use Rattle.smlc_base.specs.declared.names.Name.{Name}
use Rattle.sml_tree.specs.declared.status.Status.{Status}
use Rattle.sml_tree.specs.declared.status.Status.TheVariants as status
use Rattle.sml_tree.specs.declared.tree_node.TreeNode.{TreeNode}
use Rattle.sml_tree.specs.declared.tree_node.TreeNode.TheVariants as node
use Rattle.sml_tree.specs.Kinds.{PartKind, Dec, Decs, DirectiveVids, BoundTyVars, TyVarList, OneTyVar, ValBinds, OneValBind, FunBinds, Clauses, OneClause, TypBinds, OneTypBind, DatBinds, OneDatBind, ConBinds, OneConBind, ExBinds, OneExBind, ClauseHead, AtPats, PlainVid, OperatorVid, AnyVid, OpVid, LongVid, ShortTyCon, LongTyCon, AnyLabel, VidLabel, Exp, Items, Seq, Rows, OneRow, Rules, OneRule, Pat, Pats, PatRows, OnePatRow, Ty, Factors, Tys, TyRows, OneTyRow, number_of, has, expression, pattern, type_expression, constant, identifier, stands_as, wanted, fit, may_stand, shaped}
use Rattle.sml_tree.specs.Parts.{parts_of}
use Rattle.sml_syntax.specs.declared.forms.InfixVid.{InfixVid}
use Rattle.sml_syntax.specs.declared.forms.Look.TheVariants as look
use Rattle.sml_syntax.specs.declared.forms.Made.{Made}
use Rattle.sml_syntax.specs.declared.forms.Made.TheVariants as made
use Rattle.sml_syntax.specs.declared.forms.Terminal.{Terminal}
use Rattle.sml_syntax.specs.declared.forms.Terminal.TheVariants as tok
use Rattle.sml_syntax.specs.Fixity.{Fix, directive_for, looks, name_look, operates}
use Rattle.sml_syntax.specs.Grammar.{Kind, Phrase, IsProgram, IsDecs, IsDec, IsDigit, IsVids, IsClause, IsExp, IsConjEnd, IsPrefix, IsRule, IsInfix, IsInfixPat, IsTyVars, IsTyVarList, IsValBind, IsFunBinds, IsClauses, IsHead, IsAtpats, IsTypBinds, IsTypBind, IsDatBinds, IsDatBind, IsConBinds, IsConBind, IsExBinds, IsExBind, IsVid, IsOpVid, IsLongVid, IsTyCon, IsLongTyCon, IsLabel, IsScon, IsDisj, IsConj, IsTyped, IsApp, IsAtexp, IsItems, IsSeq, IsRows, IsMatch, IsPat, IsTypedPat, IsOperand, IsAtpat, IsPats, IsPatRows, IsPatRow, IsPun, IsTy, IsProduct, IsFactors, IsTyAtom, IsTys, IsTyRows, IsTyRow, Parses}
use Rattle.sml_syntax.specs.Grammar as phrase
use Rattle.sml_fixity.specs.Nodes.{bare, node_of}

and_parts : (b c : Bool) → b && c ≡ true → (b ≡ true) × (c ≡ true)
and_parts true c e = (refl, e)
and_parts false c e = cc

and_both : (b c : Bool) → b ≡ true → c ≡ true → b && c ≡ true
and_both true c e h = h
and_both false c e h = cc

-- ---- Kinds

abbrev all_kinds : List PartKind
all_kinds = Dec ∷ Decs ∷ DirectiveVids ∷ BoundTyVars ∷ TyVarList ∷ OneTyVar ∷ ValBinds ∷ OneValBind ∷ FunBinds ∷ Clauses ∷ OneClause ∷ TypBinds ∷ OneTypBind ∷ DatBinds ∷ OneDatBind ∷ ConBinds ∷ OneConBind ∷ ExBinds ∷ OneExBind ∷ ClauseHead ∷ AtPats ∷ PlainVid ∷ OperatorVid ∷ AnyVid ∷ OpVid ∷ LongVid ∷ ShortTyCon ∷ LongTyCon ∷ AnyLabel ∷ VidLabel ∷ Exp ∷ Items ∷ Seq ∷ Rows ∷ OneRow ∷ Rules ∷ OneRule ∷ Pat ∷ Pats ∷ PatRows ∷ OnePatRow ∷ Ty ∷ Factors ∷ Tys ∷ TyRows ∷ OneTyRow ∷ []

numbered_back : (k : PartKind) → get_or all_kinds (number_of k) Dec ≡ k
numbered_back Dec = refl
numbered_back _ = refl

same_kind : (k l : PartKind) → nat_eq (number_of k) (number_of l) ≡ true → k ≡ l
same_kind k l h =
    let e : number_of k ≡ number_of l = grind (arith, nat_tests) in
    sym (numbered_back k) ∙ ap (λ (n : ℕ). get_or all_kinds n Dec) e ∙ numbered_back l

here : (p : PartKind → Bool) (k l : PartKind) (kinds : List PartKind) (b : Bool) → nat_eq (number_of k) (number_of l) ≡ b → b || has kinds k ≡ true → p l ≡ true → (has kinds k ≡ true → p k ≡ true) → p k ≡ true
here p k l kinds true e h a f = subst (λ (k : PartKind). p k ≡ true) (sym (same_kind k l e)) a
here p k l kinds false e h a f = f h

member : (p : PartKind → Bool) (kinds : List PartKind) (k : PartKind) → has kinds k ≡ true → list_all p kinds ≡ true → p k ≡ true
member p [] k h a = cc
member p (l ∷ kinds) k h a = let (x, y) = and_parts _ _ a in here p k l kinds (nat_eq (number_of k) (number_of l)) refl h x (λ w. member p kinds k w y)

within : (p : PartKind → Bool) (kinds some : List PartKind) → list_all (has kinds) some ≡ true → list_all p kinds ≡ true → list_all p some ≡ true
within p kinds [] h a = refl
within p kinds (k ∷ some) h a = let (x, y) = and_parts _ _ h in and_both _ _ (member p kinds k x a) (within p kinds some y a)

-- ---- Phrases, each with kinds as which it may stand

data AllStand : List (List PartKind) → List (PartKind → Bool) → Type 0 where
  none_stand : AllStand [] []
  more_stand : {kinds : List PartKind} {kss : List (List PartKind)} {p : PartKind → Bool} {ps : List (PartKind → Bool)} → list_all p kinds ≡ true → AllStand kss ps → AllStand (kinds ∷ kss) (p ∷ ps)

beside : {kss lss : List (List PartKind)} {ps qs : List (PartKind → Bool)} → AllStand kss ps → AllStand lss qs → AllStand (kss ++ lss) (ps ++ qs)
beside none_stand b = b
beside (more_stand h a) b = more_stand h (beside a b)

turned : {kss : List (List PartKind)} {ps : List (PartKind → Bool)} → AllStand kss ps → AllStand (reverse kss) (reverse ps)
turned none_stand = none_stand
turned (more_stand {kinds = kinds} {kss = kss} {p = p} {ps = ps} h a) =
    let b : AllStand (reverse kss ++ kinds ∷ []) (reverse ps ++ p ∷ []) = beside (turned a) (more_stand h none_stand) in
    let K : List (List PartKind) → Type 0 = λ kss. AllStand kss (reverse ps ++ p ∷ []) in
    let P : List (PartKind → Bool) → Type 0 = λ ps. AllStand (reverse (kinds ∷ kss)) ps in
    subst P (sym (reverse-append (p ∷ []) ps)) (subst K (sym (reverse-append (kinds ∷ []) kss)) b)

count : {kss : List (List PartKind)} {ps : List (PartKind → Bool)} → AllStand kss ps → length ps ≡ length kss
count none_stand = refl
count (more_stand h a) = ap suc (count a)

abbrev covers : List (List PartKind) → List PartKind → Bool
covers [] [] = true
covers (kinds ∷ kss) (k ∷ ks) = has kinds k && covers kss ks
covers _ _ = false

fitting : {kss : List (List PartKind)} {ps : List (PartKind → Bool)} (ks : List PartKind) → AllStand kss ps → covers kss ks ≡ true → fit ks ps ≡ true
fitting [] none_stand h = refl
fitting (k ∷ ks) none_stand h = cc
fitting [] (more_stand a b) h = cc
fitting (k ∷ ks) (more_stand {kinds = kinds} {p = p} a b) h = let (x, y) = and_parts _ _ h in and_both _ _ (member p kinds k x a) (fitting ks b y)

-- a node of a form, whose parts may stand as these kinds, may stand as each of the first
abbrev Makes : List PartKind → TreeNode → List (List PartKind) → Type 0
Makes kinds m kss = list_all (λ k. has (stands_as m) k && covers kss (wanted k m)) kinds ≡ true

standing : (kinds : List PartKind) (m : TreeNode) {kss : List (List PartKind)} {ps : List (PartKind → Bool)} → AllStand kss ps → Makes kinds m kss → list_all (may_stand m ps) kinds ≡ true
standing [] m a h = refl
standing (k ∷ kinds) m a h =
    let (x, y) = and_parts _ _ h in
    let (u, w) = and_parts _ _ x in
    and_both _ _ (and_both _ _ u (fitting (wanted k m) a w)) (standing kinds m a y)

-- The nodes from o to p are phrases that may stand as these kinds, the last first.
record Shapes (kss : List (List PartKind)) (o p : List Made) : Type 0 where
  pub phrases : List (PartKind → Bool)
  pub stand : AllStand kss phrases
  pub same : (s : List (PartKind → Bool)) → shaped s (bare o) ≡ shaped (phrases ++ s) (bare p)

empty : {o : List Made} → Shapes [] o o
empty = record { phrases = []; stand = none_stand; same = λ s. refl }

both : {kss lss : List (List PartKind)} {o p q : List Made} → Shapes kss o p → Shapes lss p q → Shapes (lss ++ kss) o q
both {q = q} x y = record {
  phrases = y.phrases ++ x.phrases;
  stand = beside y.stand x.stand;
  same = λ s. x.same s ∙ y.same (x.phrases ++ s) ∙ ap (λ (z : List (PartKind → Bool)). shaped z (bare q)) (sym (append_assoc y.phrases x.phrases s));
}

-- a node takes its parts
takes : (ps s : List (PartKind → Bool)) (m : TreeNode) (o : List TreeNode) → length ps ≡ parts_of m → shaped (ps ++ s) (m ∷ o) ≡ shaped (may_stand m (reverse ps) ∷ s) o
takes ps s m o e =
    let front : take (parts_of m) (ps ++ s) ≡ ps = ap (λ (n : ℕ). take n (ps ++ s)) (sym e) ∙ take-append_seam ps s in
    let rest : drop (parts_of m) (ps ++ s) ≡ s = ap (λ (n : ℕ). drop n (ps ++ s)) (sym e) ∙ drop-append_seam ps s in
    ap (λ (z : List (PartKind → Bool)). shaped (may_stand m (reverse z) ∷ drop (parts_of m) (ps ++ s)) o) front
    ∙ ap (λ (z : List (PartKind → Bool)). shaped (may_stand m (reverse ps) ∷ z) o) rest

parent : {kss : List (List PartKind)} {kinds : List PartKind} {o q : List Made} {m : Made} → Shapes kss o (m ∷ q) → length kss ≡ parts_of (node_of m) → Makes kinds (node_of m) (reverse kss) → Shapes (kinds ∷ []) o q
parent {kinds = kinds} {q = q} {m = m} x e h = record {
  phrases = may_stand (node_of m) (reverse x.phrases) ∷ [];
  stand = more_stand (standing kinds (node_of m) (turned x.stand) h) none_stand;
  same = λ s. x.same s ∙ takes x.phrases s (node_of m) (bare q) (count x.stand ∙ e);
}

leaf : {kinds : List PartKind} {o : List Made} {m : Made} → 0 ≡ parts_of (node_of m) → Makes kinds (node_of m) [] → Shapes (kinds ∷ []) (m ∷ o) o
leaf e h = parent empty e h

narrowed : {kinds some : List PartKind} {ps : List (PartKind → Bool)} → AllStand (kinds ∷ []) ps → list_all (has kinds) some ≡ true → AllStand (some ∷ []) ps
narrowed {kinds = kinds} {some = some} (more_stand {p = p} a none_stand) h = more_stand (within p kinds some h a) none_stand

narrow : {kinds some : List PartKind} {o p : List Made} → Shapes (kinds ∷ []) o p → list_all (has kinds) some ≡ true → Shapes (some ∷ []) o p
narrow x h = record { phrases = x.phrases; stand = narrowed x.stand h; same = x.same }

-- an operator of a pattern or a head is an identifier
name_leaf : (f : Fix) (t : Terminal) {o : List Made} {x : Name} {s r : Bool} {l n : ℕ} → looks f t ≡ look.Operator x s l r → Shapes ((PlainVid ∷ []) ∷ []) (made.Lead (node.Vid x) n ∷ o) o
name_leaf f t e = leaf refl refl

-- an operator of an expression is one, or `=`
abbrev Operates : InfixVid → Type 0
Operates w = (0 ≡ parts_of w.vid) × Makes (OperatorVid ∷ []) w.vid []

operator_name : (o : Option Status) (y : Name) (s : Bool) (w : InfixVid) → operates (name_look y s o) ≡ Some w → Operates w
operator_name (Some (status.Infix m q)) y s w e = let same : record { vid = node.Vid y; level = m; right = q } ≡ w = cc in subst (λ (w : InfixVid). Operates w) same (refl, refl)
operator_name (Some status.Nonfix) y s w e = cc
operator_name None y s w e = cc

operator_shape : (f : Fix) (t : Terminal) (w : InfixVid) → operates (looks f t) ≡ Some w → Operates w
operator_shape f (tok.Id y s) w e = operator_name (directive_for f y) y s w e
operator_shape f tok.Equals w e = let same : record { vid = node.VidEquals; level = 4; right = false } ≡ w = cc in subst (λ (w : InfixVid). Operates w) same (refl, refl)
operator_shape f _ w e = cc

operator_leaf : (f : Fix) (t : Terminal) {o : List Made} {x : TreeNode} {l n : ℕ} {r : Bool} → operates (looks f t) ≡ Some (record { vid = x; level = l; right = r }) → Shapes ((OperatorVid ∷ []) ∷ []) (made.Lead x n ∷ o) o
operator_leaf f t {x = x} {l = l} {r = r} e = let (p, c) = operator_shape f t (record { vid = x; level = l; right = r }) e in leaf p c

-- ---- The grammar

-- as what a phrase of the grammar may stand
abbrev made_as : Kind → List PartKind
made_as (IsProgram g) = []
made_as (IsDecs g) = Decs ∷ []
made_as (IsDec g) = Dec ∷ []
made_as (IsDigit d) = []
made_as (IsVids u g) = DirectiveVids ∷ []
made_as (IsClause m) = OneClause ∷ Clauses ∷ FunBinds ∷ []
made_as (IsExp m) = expression
made_as (IsConjEnd m) = expression
made_as (IsPrefix m) = expression
made_as (IsRule m) = OneRule ∷ Rules ∷ []
made_as (IsInfix e w) = expression
made_as (IsInfixPat e w) = pattern
made_as IsTyVars = BoundTyVars ∷ []
made_as IsTyVarList = TyVarList ∷ []
made_as IsValBind = ValBinds ∷ []
made_as IsFunBinds = FunBinds ∷ []
made_as IsClauses = Clauses ∷ FunBinds ∷ []
made_as IsHead = ClauseHead ∷ []
made_as IsAtpats = AtPats ∷ []
made_as IsTypBinds = TypBinds ∷ []
made_as IsTypBind = OneTypBind ∷ TypBinds ∷ []
made_as IsDatBinds = DatBinds ∷ []
made_as IsDatBind = OneDatBind ∷ DatBinds ∷ []
made_as IsConBinds = ConBinds ∷ []
made_as IsConBind = OneConBind ∷ ConBinds ∷ []
made_as IsExBinds = ExBinds ∷ []
made_as IsExBind = OneExBind ∷ ExBinds ∷ []
made_as IsVid = OperatorVid ∷ AnyVid ∷ []
made_as IsOpVid = OpVid ∷ identifier
made_as IsLongVid = identifier
made_as IsTyCon = ShortTyCon ∷ LongTyCon ∷ type_expression
made_as IsLongTyCon = LongTyCon ∷ type_expression
made_as IsLabel = AnyLabel ∷ []
made_as IsScon = constant
made_as IsDisj = expression
made_as IsConj = expression
made_as IsTyped = expression
made_as IsApp = expression
made_as IsAtexp = expression
made_as IsItems = Items ∷ []
made_as IsSeq = Seq ∷ []
made_as IsRows = Rows ∷ []
made_as IsMatch = Rules ∷ []
made_as IsPat = pattern
made_as IsTypedPat = pattern
made_as IsOperand = pattern
made_as IsAtpat = pattern
made_as IsPats = Pats ∷ []
made_as IsPatRows = PatRows ∷ []
made_as IsPatRow = OnePatRow ∷ PatRows ∷ []
made_as IsPun = VidLabel ∷ []
made_as IsTy = type_expression
made_as IsProduct = type_expression
made_as IsFactors = Factors ∷ []
made_as IsTyAtom = type_expression
made_as IsTys = Tys ∷ []
made_as IsTyRows = TyRows ∷ []
made_as IsTyRow = OneTyRow ∷ TyRows ∷ []

-- a program makes declarations
abbrev Shaped : Kind → List Made → List Made → Type 0
Shaped (IsProgram g) o p = (kss : List (List PartKind)) × (list_all (λ (kinds : List PartKind). has kinds Dec) kss ≡ true) × Shapes kss o p
Shaped (IsDigit d) o p = Shapes [] o p
Shaped n o p = Shapes (made_as n ∷ []) o p

one_more : (kss : List (List PartKind)) → list_all (λ (kinds : List PartKind). has kinds Dec) kss ≡ true → list_all (λ (kinds : List PartKind). has kinds Dec) (kss ++ (Dec ∷ []) ∷ []) ≡ true
one_more kss h = list_all-append (λ (kinds : List PartKind). has kinds Dec) kss ((Dec ∷ []) ∷ []) ∙ and_both _ _ h refl

shapes : {v : Bool} {n : Kind} {f : Fix} {a b : List Terminal} {o p : List Made} → Phrase v n f a b o p → Shaped n o p
shapes phrase.no_program = ([], refl, empty)
shapes (phrase.program_semicolon h) = shapes h
shapes (phrase.program_dec h k) = let (kss, e, w) = shapes k in (kss ++ (Dec ∷ []) ∷ [], one_more kss e, both (shapes h) w)
shapes phrase.no_decs = leaf refl refl
shapes (phrase.decs_semicolon h) = shapes h
shapes (phrase.more_decs h k) = parent (both (shapes h) (shapes k)) refl refl
shapes (phrase.val_dec h k) = parent (both (shapes h) (shapes k)) refl refl
shapes (phrase.fun_dec h k) = parent (both (shapes h) (shapes k)) refl refl
shapes (phrase.type_dec h) = parent (shapes h) refl refl
shapes (phrase.datatype_dec h) = parent (shapes h) refl refl
shapes (phrase.exception_dec h) = parent (shapes h) refl refl
shapes (phrase.local_dec e h k) = parent (both (shapes h) (shapes k)) refl refl
shapes (phrase.infix_dec h k) = parent (both (shapes h) (shapes k)) refl refl
shapes (phrase.infixr_dec h k) = parent (both (shapes h) (shapes k)) refl refl
shapes (phrase.nonfix_dec h) = parent (shapes h) refl refl
shapes phrase.no_digit = empty
shapes phrase.digit = empty
shapes phrase.last_vid = leaf refl refl
shapes (phrase.more_vids h) = parent (both (leaf {kinds = PlainVid ∷ []} refl refl) (shapes h)) refl refl
shapes phrase.no_tyvars = leaf refl refl
shapes phrase.one_tyvar = leaf refl refl
shapes (phrase.tyvar_seq h) = parent (shapes h) refl refl
shapes phrase.last_tyvar = leaf refl refl
shapes (phrase.more_tyvars h) = parent (both (leaf {kinds = OneTyVar ∷ []} refl refl) (shapes h)) refl refl
shapes (phrase.last_valbind h k) = parent (both (shapes h) (shapes k)) refl refl
shapes (phrase.more_valbinds h k i) = parent (both (parent {kinds = OneValBind ∷ []} (both (shapes h) (shapes k)) refl refl) (shapes i)) refl refl
shapes (phrase.rec_valbind h) = parent (shapes h) refl refl
shapes (phrase.last_funbind h) = narrow (shapes h) refl
shapes (phrase.more_funbinds h k) = parent (both (shapes h) (shapes k)) refl refl
shapes (phrase.last_clause h) = narrow (shapes h) refl
shapes (phrase.more_clauses h k) = parent (both (shapes h) (shapes k)) refl refl
shapes (phrase.clause h k) = parent (both (shapes h) (shapes k)) refl refl
shapes (phrase.typed_clause h k i) = parent (both (both (shapes h) (shapes k)) (shapes i)) refl refl
shapes (phrase.prefix_head h k) = parent (both (shapes h) (shapes k)) refl refl
shapes {f = f} (phrase.infix_head {t = t} e h k) = parent (both (both (shapes h) (name_leaf f t e)) (shapes k)) refl refl
shapes {f = f} (phrase.paren_head {t = t} e h k) = parent (both (both (shapes h) (name_leaf f t e)) (shapes k)) refl refl
shapes {f = f} (phrase.paren_head_args {t = t} e h k i) = parent (both (both (both (shapes h) (name_leaf f t e)) (shapes k)) (shapes i)) refl refl
shapes (phrase.last_atpat h) = narrow (shapes h) refl
shapes (phrase.more_atpats h k) = parent (both (shapes h) (shapes k)) refl refl
shapes (phrase.last_typbind h) = narrow (shapes h) refl
shapes (phrase.more_typbinds h k) = parent (both (shapes h) (shapes k)) refl refl
shapes (phrase.typbind h k i) = parent (both (both (shapes h) (shapes k)) (shapes i)) refl refl
shapes (phrase.last_datbind h) = narrow (shapes h) refl
shapes (phrase.more_datbinds h k) = parent (both (shapes h) (shapes k)) refl refl
shapes (phrase.datbind h k i) = parent (both (both (shapes h) (shapes k)) (shapes i)) refl refl
shapes (phrase.last_conbind h) = narrow (shapes h) refl
shapes (phrase.more_conbinds h k) = parent (both (shapes h) (shapes k)) refl refl
shapes (phrase.conbind h) = parent (shapes h) refl refl
shapes (phrase.conbind_of h k) = parent (both (shapes h) (shapes k)) refl refl
shapes (phrase.last_exbind h) = narrow (shapes h) refl
shapes (phrase.more_exbinds h k) = parent (both (shapes h) (shapes k)) refl refl
shapes (phrase.exbind h) = parent (shapes h) refl refl
shapes (phrase.exbind_of h k) = parent (both (shapes h) (shapes k)) refl refl
shapes (phrase.exbind_is h k) = parent (both (shapes h) (shapes k)) refl refl
shapes phrase.vid = leaf refl refl
shapes phrase.vid_equals = leaf refl refl
shapes (phrase.plain_vid e) = leaf refl refl
shapes (phrase.op_vid h) = parent (shapes h) refl refl
shapes (phrase.short_vid h) = narrow (shapes h) refl
shapes phrase.long_vid = leaf refl refl
shapes phrase.op_long_vid = parent (leaf {kinds = AnyVid ∷ []} refl refl) refl refl
shapes phrase.tycon = leaf refl refl
shapes (phrase.short_tycon h) = narrow (shapes h) refl
shapes phrase.long_tycon = leaf refl refl
shapes phrase.label = leaf refl refl
shapes (phrase.label_number e) = leaf refl refl
shapes phrase.int = leaf refl refl
shapes phrase.char = leaf refl refl
shapes phrase.text = leaf refl refl
shapes (phrase.disj_exp h) = shapes h
shapes (phrase.handle h k) = parent (both (shapes h) (shapes k)) refl refl
shapes (phrase.conj_end_exp h) = shapes h
shapes (phrase.orelse_end h k) = parent (both (shapes h) (shapes k)) refl refl
shapes (phrase.prefix_end h) = shapes h
shapes (phrase.andalso_end h k) = parent (both (shapes h) (shapes k)) refl refl
shapes (phrase.raise h) = parent (shapes h) refl refl
shapes (phrase.if_exp h k i) = parent (both (both (shapes h) (shapes k)) (shapes i)) refl refl
shapes (phrase.while_exp h k) = parent (both (shapes h) (shapes k)) refl refl
shapes (phrase.case_exp h k) = parent (both (shapes h) (shapes k)) refl refl
shapes (phrase.fn_exp h) = parent (shapes h) refl refl
shapes (phrase.conj_disj h) = shapes h
shapes (phrase.orelse h k) = parent (both (shapes h) (shapes k)) refl refl
shapes (phrase.typed_conj h) = shapes h
shapes (phrase.andalso h k) = parent (both (shapes h) (shapes k)) refl refl
shapes (phrase.infix_typed h) = shapes h
shapes (phrase.typed h k) = parent (both (shapes h) (shapes k)) refl refl
shapes (phrase.app_infix h) = shapes h
shapes {f = f} (phrase.operate {t = t} e _ _ h k) = parent (both (both (shapes h) (operator_leaf f t e)) (shapes k)) refl refl
shapes (phrase.atexp_app h) = shapes h
shapes (phrase.apply h k) = parent (both (shapes h) (shapes k)) refl refl
shapes (phrase.vid_exp h) = narrow (shapes h) refl
shapes (phrase.scon_exp h) = narrow (shapes h) refl
shapes phrase.empty_record = leaf refl refl
shapes (phrase.record_exp h) = parent (shapes h) refl refl
shapes phrase.unit = leaf refl refl
shapes (phrase.tuple h k) = parent (both (shapes h) (shapes k)) refl refl
shapes (phrase.sequence h k) = parent (both (shapes h) (shapes k)) refl refl
shapes phrase.empty_list = leaf refl refl
shapes (phrase.list h) = parent (shapes h) refl refl
shapes (phrase.let_exp h k) = parent (both (shapes h) (shapes k)) refl refl
shapes (phrase.paren h) = parent (shapes h) refl refl
shapes (phrase.last_item h) = narrow (shapes h) refl
shapes (phrase.more_items h k) = parent (both (shapes h) (shapes k)) refl refl
shapes (phrase.last_seq h) = narrow (shapes h) refl
shapes (phrase.more_seq h k) = parent (both (shapes h) (shapes k)) refl refl
shapes (phrase.last_row h k) = parent (both (shapes h) (shapes k)) refl refl
shapes (phrase.more_rows h k i) = parent (both (parent {kinds = OneRow ∷ []} (both (shapes h) (shapes k)) refl refl) (shapes i)) refl refl
shapes (phrase.last_rule h) = narrow (shapes h) refl
shapes (phrase.more_rules h k) = parent (both (shapes h) (shapes k)) refl refl
shapes (phrase.rule h k) = parent (both (shapes h) (shapes k)) refl refl
shapes (phrase.typed_pat_pat h) = shapes h
shapes (phrase.layered h k) = parent (both (shapes h) (shapes k)) refl refl
shapes (phrase.typed_layered h k i) = parent (both (both (shapes h) (shapes k)) (shapes i)) refl refl
shapes (phrase.infix_pat_typed h) = shapes h
shapes (phrase.typed_pat h k) = parent (both (shapes h) (shapes k)) refl refl
shapes (phrase.operand_pat h) = shapes h
shapes {f = f} (phrase.infix_pat {t = t} e _ _ h k) = parent (both (both (shapes h) (name_leaf f t e)) (shapes k)) refl refl
shapes (phrase.atpat_operand h) = shapes h
shapes (phrase.con_pat h k) = parent (both (shapes h) (shapes k)) refl refl
shapes phrase.wild = leaf refl refl
shapes (phrase.vid_pat h) = narrow (shapes h) refl
shapes (phrase.scon_pat h) = narrow (shapes h) refl
shapes phrase.empty_record_pat = leaf refl refl
shapes (phrase.record_pat h) = parent (shapes h) refl refl
shapes phrase.unit_pat = leaf refl refl
shapes (phrase.tuple_pat h k) = parent (both (shapes h) (shapes k)) refl refl
shapes phrase.empty_list_pat = leaf refl refl
shapes (phrase.list_pat h) = parent (shapes h) refl refl
shapes (phrase.paren_pat h) = parent (shapes h) refl refl
shapes (phrase.last_pat h) = narrow (shapes h) refl
shapes (phrase.more_pats h k) = parent (both (shapes h) (shapes k)) refl refl
shapes (phrase.last_pat_row h) = narrow (shapes h) refl
shapes (phrase.more_pat_rows h k) = parent (both (shapes h) (shapes k)) refl refl
shapes (phrase.pat_row h k) = parent (both (shapes h) (shapes k)) refl refl
shapes (phrase.pun_row h) = parent (shapes h) refl refl
shapes (phrase.typed_pun_row h k) = parent (both (shapes h) (shapes k)) refl refl
shapes (phrase.pun_row_as h k) = parent (both (shapes h) (shapes k)) refl refl
shapes (phrase.typed_pun_row_as h k i) = parent (both (both (shapes h) (shapes k)) (shapes i)) refl refl
shapes (phrase.pun e) = leaf refl refl
shapes (phrase.product_ty h) = shapes h
shapes (phrase.arrow_ty h k) = parent (both (shapes h) (shapes k)) refl refl
shapes (phrase.single_product h) = shapes h
shapes (phrase.product h k) = parent (both (shapes h) (shapes k)) refl refl
shapes (phrase.last_factor h) = narrow (shapes h) refl
shapes (phrase.more_factors h k) = parent (both (shapes h) (shapes k)) refl refl
shapes phrase.var_ty = leaf refl refl
shapes phrase.empty_record_ty = leaf refl refl
shapes (phrase.record_ty h) = parent (shapes h) refl refl
shapes (phrase.con_ty h) = narrow (shapes h) refl
shapes (phrase.applied_ty h k) = parent (both (shapes h) (shapes k)) refl refl
shapes (phrase.seq_applied_ty h k i) = parent (both (both (shapes h) (shapes k)) (shapes i)) refl refl
shapes (phrase.paren_ty h) = parent (shapes h) refl refl
shapes (phrase.last_ty h) = narrow (shapes h) refl
shapes (phrase.more_tys h k) = parent (both (shapes h) (shapes k)) refl refl
shapes (phrase.last_ty_row h) = narrow (shapes h) refl
shapes (phrase.more_ty_rows h k) = parent (both (shapes h) (shapes k)) refl refl
shapes (phrase.ty_row h k) = parent (both (shapes h) (shapes k)) refl refl

decs_stand : {kss : List (List PartKind)} {ps : List (PartKind → Bool)} → AllStand kss ps → list_all (λ (kinds : List PartKind). has kinds Dec) kss ≡ true → list_all (λ p. p Dec) ps ≡ true
decs_stand none_stand h = refl
decs_stand (more_stand {kinds = kinds} {p = p} a b) h = let (x, y) = and_parts _ _ h in and_both _ _ (member p kinds Dec x a) (decs_stand b y)

-- the nodes of a program
pub program_shaped : (v : Bool) (f : Fix) (a : List Terminal) (o : List Made) → Parses v f a o → shaped [] (bare o) ≡ true
program_shaped v f a o (g, p) =
    let (kss, e, w) = shapes p in
    w.same [] ∙ ap (λ (z : List (PartKind → Bool)). list_all (λ p. p Dec) z) (append-nil w.phrases) ∙ decs_stand w.stand e
