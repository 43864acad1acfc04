-- What a stack stands for, in the grammar's words, and what a move owes to it.
use Rattle.std.proofs.Common.{◌≡◌, ℕ, ◌++◌, Bool, true, false, not, take, drop, ◌⊎◌, Option, Some, None, List, [], ◌∷◌, length, refl, sym, ap, ◌∙◌, subst}
use Rattle.smlc_base.specs.declared.names.Name.{Name}
use Rattle.sml_tree.specs.declared.status.Status.{Status}
use Rattle.sml_tree.specs.declared.status.Status.TheVariants as status
use Rattle.sml_tree.specs.declared.tree_node.TreeNode.{TreeNode}
use Rattle.sml_tree.specs.declared.tree_node.TreeNode.TheVariants as node
use Rattle.sml_syntax.specs.declared.forms.Terminal.{Terminal}
use Rattle.sml_syntax.specs.declared.forms.Terminal.TheVariants as tok
use Rattle.sml_syntax.specs.declared.forms.Made.{Made}
use Rattle.sml_syntax.specs.declared.forms.Made.TheVariants as made
use Rattle.sml_syntax.specs.declared.forms.Root.{Root}
use Rattle.sml_syntax.specs.declared.forms.Root.TheVariants as root
use Rattle.sml_syntax.specs.declared.forms.Look.{Look}
use Rattle.sml_syntax.specs.declared.forms.Look.TheVariants as look
use Rattle.sml_syntax.specs.declared.forms.InfixVid.{InfixVid}
use Rattle.sml_syntax.specs.declared.symbol.Symbol.{Symbol}
use Rattle.sml_syntax.specs.declared.symbol.Symbol.TheVariants as sy
use Rattle.sml_syntax.specs.declared.symbol.Move.{Move}
use Rattle.sml_syntax.specs.declared.symbol.Move.TheVariants.{Skip, Eat}
use Rattle.sml_syntax.specs.Fixity.{Fix, directive_for, name_look, looks, lefts, operates}
use Rattle.sml_syntax.specs.Grammar.{Kind, Phrase, IsProgram, IsDecs, IsDec, IsDigit, IsVids, IsClause, IsExp, IsConjEnd, IsPrefix, IsRule, IsInfix, IsInfixPat, IsTyVars, IsTyVarList, IsValBind, IsFunBinds, IsClauses, IsHead, IsAtpats, IsTypBinds, IsTypBind, IsDatBinds, IsDatBind, IsConBinds, IsConBind, IsExBinds, IsExBind, IsVid, IsOpVid, IsLongVid, IsTyCon, IsLabel, IsDisj, IsConj, IsTyped, IsApp, IsAtexp, IsItems, IsSeq, IsRows, IsMatch, IsPat, IsTypedPat, IsOperand, IsAtpat, IsPats, IsPatRows, IsPatRow, IsPun, IsTy, IsProduct, IsFactors, IsTyAtom, IsTys, IsTyRows, IsTyRow}
use Rattle.sml_syntax.specs.Moves.{ends_at}
use Rattle.sml_syntax.specs.Machine.{pushed, after, move_of, has_infix}
use Rattle.syntax_laws.proofs.PatternSteps.{closes}
use Rattle.syntax_laws.proofs.ExpressionSteps.{root_closes, exp_closes}

-- a terminal, as the machine sees it
pub data Seen (f : Fix) : Terminal → Look → Type 0 where
  plain : {x : Name} {s : Bool} → looks f (tok.Id x s) ≡ look.Plain x s → Seen f (tok.Id x s) (look.Plain x s)
  operator : {x : Name} {s : Bool} {l : ℕ} {r : Bool} → looks f (tok.Id x s) ≡ look.Operator x s l r → Seen f (tok.Id x s) (look.Operator x s l r)
  other : (t : Terminal) → looks f t ≡ look.Other t → Seen f t (look.Other t)

pub seen : (f : Fix) (t : Terminal) → Seen f t (looks f t)
seen f (tok.Id x s) = go (directive_for f x) refl
  where
    go : (u : Option Status) → directive_for f x ≡ u → Seen f (tok.Id x s) (name_look x s u)
    go None e = plain (ap (name_look x s) e)
    go (Some status.Nonfix) e = plain (ap (name_look x s) e)
    go (Some (status.Infix l r)) e = operator (ap (name_look x s) e)
seen f _ = other _ refl

pub is_seen : {f : Fix} {t : Terminal} {l : Look} → Seen f t l → l ≡ looks f t
is_seen (plain e) = sym e
is_seen (operator e) = sym e
is_seen (other t e) = sym e

-- what stands next, if anything does, passes a test
abbrev pub At : (Look → Bool) → Fix → List Terminal → Type 0
At q f [] = Unit {0}
At q f (t ∷ a) = q (looks f t) ≡ true

pub at_look : (q : Look → Bool) (f : Fix) (a : List Terminal) {t : Terminal} {l : Look} → Seen f t l → q l ≡ true → At q f (t ∷ a)
at_look q f a s e = ap q (sym (is_seen s)) ∙ e

pub weaker : {q r : Look → Bool} → ((l : Look) → q l ≡ true → r l ≡ true) → (f : Fix) (a : List Terminal) → At q f a → At r f a
weaker w f [] h = tt
weaker w f (t ∷ a) h = w (looks f t) h

abbrev pub no_and : Look → Bool
no_and (look.Other tok.Andalso) = false
no_and _ = true

abbrev pub no_or : Look → Bool
no_or (look.Other tok.Orelse) = false
no_or _ = true

abbrev pub no_handle : Look → Bool
no_handle (look.Other tok.Handle) = false
no_handle _ = true

abbrev pub no_bar : Look → Bool
no_bar (look.Other tok.Bar) = false
no_bar _ = true

-- what stands behind an expression; m is whether it ends in an open match
abbrev pub past : Bool → Look → Bool
past m (look.Other tok.Andalso) = false
past m (look.Other tok.Orelse) = false
past m (look.Other tok.Handle) = false
past m (look.Other tok.Bar) = not m
past m _ = true

-- an operand of andalso, a conjunction, and a disjunction, or what ends in an expression in its place
pub data Operand (f : Fix) (b : List Terminal) : Kind → Type 0 where
  is_typed : Operand f b IsTyped
  is_prefix_end : {m : Bool} → At (past m) f b → Operand f b (IsPrefix m)

pub data Conjunction (f : Fix) (b : List Terminal) : Kind → Type 0 where
  is_conj : At no_and f b → Conjunction f b IsConj
  is_conj_end : {m : Bool} → At (past m) f b → Conjunction f b (IsConjEnd m)

pub data Disjunction (f : Fix) (b : List Terminal) : Kind → Type 0 where
  is_disj : At no_and f b → At no_or f b → Disjunction f b IsDisj
  is_exp : {m : Bool} → At (past m) f b → Disjunction f b (IsExp m)

-- what the first identifier of a pattern in a head's parentheses is
abbrev pub named_by : Bool → Kind
named_by true = IsOpVid
named_by false = IsLongVid

-- what terminals and nodes stand for that the rest of a stack reads
abbrev pub Rest : Type 1
Rest = Fix → List Terminal → List Made → Type 0

module _ (v : Bool) where
  -- something holds of what stands up to a place, and then the rest
  abbrev pub Until : (List Terminal → List Made → Type 0) → Rest → Fix → Type 0
  Until q w f = (b : List Terminal) × (p : List Made) × q b p × w f b p

  -- a phrase stands next
  abbrev pub Reads : Kind → Rest → Fix → List Terminal → List Made → Type 0
  Reads n w f a o = Until (λ b p. Phrase v n f a b o p) w f

  -- and an expression, or what ends in one
  abbrev pub ReadsOpen : (Bool → Kind) → Rest → Fix → List Terminal → List Made → Type 0
  ReadsOpen n w f a o = (m : Bool) × (b : List Terminal) × (p : List Made) × Phrase v (n m) f a b o p × At (past m) f b × w f b p

  -- and one with directives
  abbrev pub Directs : (Fix → Kind) → Rest → Fix → List Terminal → List Made → Type 0
  Directs n w f a o = (g : Fix) × (b : List Terminal) × (p : List Made) × Phrase v (n g) f a b o p × w g b p

  -- a terminal stands next
  abbrev pub Wants : Terminal → Rest → Fix → List Terminal → List Made → Type 0
  Wants t w f a o = (b : List Terminal) × (a ≡ t ∷ b) × w f b o

  -- a phrase of the first kind that ends here begins one of the second
  abbrev pub Longer : Kind → Kind → Rest → Fix → List Terminal → List Made → Type 0
  Longer m n w f a o = Until (λ b p. (c : List Terminal) (q : List Made) → Phrase v m f c a q o → Phrase v n f c b q p) w f

  -- and so does an expression
  abbrev pub LongerExp : Kind → Rest → Fix → List Terminal → List Made → Type 0
  LongerExp n w f a o = Until (λ b p. (m : Bool) (c : List Terminal) (q : List Made) → Phrase v (IsExp m) f c a q o → Phrase v n f c b q p) w f

  -- and so do two with a terminal between them
  abbrev pub LongerPair : Kind → Terminal → Kind → Kind → Rest → Fix → List Terminal → List Made → Type 0
  LongerPair m t l n w f a o = Until (λ b p. (c d : List Terminal) (q s : List Made) → Phrase v m f c (t ∷ d) q s → Phrase v l f d a s o → Phrase v n f c b q p) w f

  -- behind a bracket with a number
  abbrev pub Behind : Terminal → Kind → ℕ → Rest → Fix → List Terminal → List Made → Type 0
  Behind t n i w f a o = Until (λ b p. i ≡ length (t ∷ a) → Phrase v n f (t ∷ a) b o p) w f

  -- behind an opening parenthesis with a number and a phrase
  abbrev pub Inside : Kind → Kind → ℕ → Rest → Fix → List Terminal → List Made → Type 0
  Inside m n i w f a o = Until (λ b p. (c : List Terminal) (q : List Made) → i ≡ length (tok.Open ∷ c) → Phrase v m f c a q o → Phrase v n f (tok.Open ∷ c) b q p) w f

  -- what stands behind the opening parenthesis of a head: an atomic pattern, and an operator that ends before d
  pub record First (f : Fix) (e : Root) (i : ℕ) (c : List Terminal) (q : List Made) (d : List Terminal) (u : List Made) : Type 0 where
    pub name : Name
    pub star : Bool
    pub level : ℕ
    pub right : Bool
    pub is_root : e ≡ root.Operator level right
    pub is_at : i ≡ length (tok.Open ∷ c)
    pub looks_so : looks f (tok.Id name star) ≡ look.Operator name star level right
    pub pattern : Phrase v IsAtpat f c (tok.Id name star ∷ d) q (made.Lead (node.Vid name) (length (tok.Id name star ∷ d)) ∷ u)

  -- what a symbol stands for, with what the rest of the stack does
  abbrev pub Meaning : Symbol → Rest → Fix → List Terminal → List Made → Type 0
  -- programs and declarations
  Meaning sy.Program w f a o = Directs IsProgram w f a o
  Meaning sy.Decs w f a o = Directs IsDecs w f a o
  Meaning sy.Dec w f a o = Directs IsDec w f a o
  Meaning (sy.LocalIn j) w f a o = (h : Fix) × (b c : List Terminal) × (p : List Made) × (a ≡ tok.In ∷ b) × Phrase v (IsDecs h) f b (tok.End ∷ c) o p × w (take j h ++ drop (length f) h) c p
  Meaning (sy.LocalEnd j m) w f a o = (b : List Terminal) × (a ≡ tok.End ∷ b) × w (take j f ++ drop m f) b o
  Meaning (sy.Digit r i) w f a o = (d : ℕ) × (g : Fix) × (b c : List Terminal) × (p q : List Made) × Phrase v (IsDigit d) f a b o p × Phrase v (IsVids (status.Infix d r) g) f b c p (made.Lead (node.Directive (status.Infix d r)) i ∷ q) × w g c q
  Meaning (sy.Vids u) w f a o = Directs (IsVids u) w f a o
  Meaning (sy.VidsRest u) w f a o = ((g : Fix) × (b : List Terminal) × (p : List Made) × Phrase v (IsVids u g) f a b o (made.Inner node.MoreVids ∷ p) × w g b p) ⊎ w f a o
  Meaning sy.ValTyVars w f a o = Reads IsTyVars (Reads IsValBind w) f a o
  Meaning (sy.ValParen i) w f a o = (c : List Terminal) × (q : List Made) × (i ≡ length (tok.Open ∷ a) → (b : List Terminal) × (p : List Made) × Phrase v IsTyVars f (tok.Open ∷ a) b o p × Phrase v IsValBind f b c p q) × w f c q
  Meaning sy.TyVarList w f a o = Reads IsTyVarList w f a o
  Meaning sy.TyVarsRest w f a o = Until (λ b p. (x : Name) → Phrase v IsTyVarList f (tok.TyVar x ∷ a) b (made.Lead (node.TyVar x) (length (tok.TyVar x ∷ a)) ∷ o) p) w f
  Meaning sy.ValBind w f a o = Reads IsValBind w f a o
  Meaning sy.ValEquals w f a o = Longer IsPat IsValBind w f a o
  Meaning sy.ValAnd w f a o = Until (λ b p. (m : Bool) (c d : List Terminal) (q s : List Made) → Phrase v IsPat f c (tok.Equals ∷ d) q s → Phrase v (IsExp m) f d a s (made.Inner node.ValBind ∷ o) → Phrase v IsValBind f c b q p) w f
  Meaning sy.FunTyVars w f a o = Reads IsTyVars (Reads IsFunBinds w) f a o
  Meaning (sy.FunParen i) w f a o = (c : List Terminal) × (q : List Made) × (i ≡ length (tok.Open ∷ a) → (b : List Terminal) × (p : List Made) × Phrase v IsTyVars f (tok.Open ∷ a) b o p × Phrase v IsFunBinds f b c p q) × w f c q
  Meaning sy.FunBinds w f a o = Reads IsFunBinds w f a o
  Meaning sy.FunAnd w f a o = Longer IsClauses IsFunBinds w f a o
  Meaning sy.Clauses w f a o = Reads IsClauses w f a o
  Meaning sy.ClauseRest w f a o = Longer IsHead IsClauses w f a o
  Meaning sy.ClauseBar w f a o = Until (λ b p. (m : Bool) (c : List Terminal) (q : List Made) → At (past m) f a → Phrase v (IsClause m) f c a q o → Phrase v IsClauses f c b q p) w f
  -- heads of clauses
  Meaning sy.Head w f a o = Reads IsHead w f a o
  Meaning sy.HeadName w f a o = Longer IsLongVid IsHead w f a o
  Meaning sy.HeadOp w f a o = Longer IsAtpat IsHead w f a o
  Meaning sy.Atpats w f a o = Reads IsAtpats w f a o
  Meaning sy.AtpatsRest w f a o = Longer IsAtpat IsAtpats w f a o
  Meaning (sy.HeadParen i) w f a o = Behind tok.Open IsHead i w f a o
  Meaning (sy.HeadFirstOp j i) w f a o = Until (λ b p. j ≡ length (tok.Op ∷ a) → i ≡ length (tok.Open ∷ tok.Op ∷ a) → Phrase v IsHead f (tok.Open ∷ tok.Op ∷ a) b o p) w f
  Meaning (sy.HeadFirstName s i) w f a o = Inside (named_by s) IsHead i w f a o
  Meaning (sy.HeadFirst i) w f a o = Inside IsAtpat IsHead i w f a o
  Meaning (sy.HeadSecond e i) w f a o = Until (λ b p. (c : List Terminal) (q : List Made) → First f e i c q a o → Phrase v IsHead f (tok.Open ∷ c) b q p) w f
  Meaning (sy.HeadSecondName e i) w f a o = Until (λ b p. (c d : List Terminal) (q u : List Made) → First f e i c q d u → Phrase v IsLongVid f d a u o → Phrase v IsHead f (tok.Open ∷ c) b q p) w f
  Meaning (sy.HeadSecondEnd e i) w f a o = Until (λ b p. (c d : List Terminal) (q u : List Made) → First f e i c q d u → Phrase v IsAtpat f d a u o → Phrase v IsHead f (tok.Open ∷ c) b q p) w f
  Meaning (sy.HeadEnd i) w f a o = Inside IsPat IsHead i w f a o
  Meaning (sy.HeadClosed i) w f a o = Until (λ b p. (e : Root) (c d : List Terminal) (q u : List Made) → First f e i c q d u → Phrase v IsAtpat f d (tok.Close ∷ a) u o → Phrase v IsHead f (tok.Open ∷ c) b q p) w f
  -- type, datatype and exception bindings
  Meaning sy.TypBinds w f a o = Reads IsTypBinds w f a o
  Meaning sy.TypAnd w f a o = Longer IsTypBind IsTypBinds w f a o
  Meaning sy.TyVars w f a o = Reads IsTyVars w f a o
  Meaning sy.TyCon w f a o = Reads IsTyCon w f a o
  Meaning sy.DatBinds w f a o = Reads IsDatBinds w f a o
  Meaning sy.DatAnd w f a o = Longer IsDatBind IsDatBinds w f a o
  Meaning sy.ConBinds w f a o = Reads IsConBinds w f a o
  Meaning sy.ConOf w f a o = Longer IsOpVid IsConBinds w f a o
  Meaning sy.ConBar w f a o = Longer IsConBind IsConBinds w f a o
  Meaning sy.ExBinds w f a o = Reads IsExBinds w f a o
  Meaning sy.ExRest w f a o = Longer IsOpVid IsExBinds w f a o
  Meaning sy.ExAnd w f a o = Longer IsExBind IsExBinds w f a o
  -- identifiers
  Meaning sy.OpVid w f a o = Reads IsOpVid w f a o
  Meaning sy.AnyVid w f a o = Reads IsVid w f a o
  Meaning sy.LongVid w f a o = Reads IsLongVid w f a o
  Meaning sy.AnyLong w f a o = Until (λ b p. (q : List Made) → p ≡ made.Lead node.Op (length (tok.Op ∷ a)) ∷ q → Phrase v IsLongVid f (tok.Op ∷ a) b o q) w f
  Meaning sy.Label w f a o = Reads IsLabel w f a o
  -- expressions
  Meaning sy.Exp w f a o = ReadsOpen IsExp w f a o
  Meaning sy.Prefix w f a o = ReadsOpen IsPrefix w f a o
  Meaning sy.TyRest w f a o = Longer IsTyped IsTyped w f a o
  -- behind what ends in an expression, the rest of a conjunction, a disjunction and an expression is nothing
  Meaning sy.AndRest w f a o = (n : Kind) × (b : List Terminal) × (p : List Made) × Conjunction f b n × ((c : List Terminal) (q : List Made) → Phrase v IsConj f c a q o → Phrase v n f c b q p) × (At no_and f a → w f a o) × w f b p
  Meaning sy.AndRight w f a o = (n : Kind) × (b : List Terminal) × (p : List Made) × Operand f b n × Phrase v n f a b o p × w f b p
  Meaning sy.OrRest w f a o = (n : Kind) × (b : List Terminal) × (p : List Made) × (At no_and f a → Disjunction f b n) × ((c : List Terminal) (q : List Made) → Phrase v IsDisj f c a q o → Phrase v n f c b q p) × (At no_or f a → w f a o) × w f b p
  Meaning sy.OrRight w f a o = (n : Kind) × (b : List Terminal) × (p : List Made) × Conjunction f b n × Phrase v n f a b o p × w f b p
  Meaning sy.HandleRest w f a o = (m : Bool) × (b : List Terminal) × (p : List Made) × (At no_and f a → At no_or f a → At (past m) f b) × ((c : List Terminal) (q : List Made) → Phrase v IsDisj f c a q o → Phrase v (IsExp m) f c b q p) × (At no_handle f a → w f a o) × w f b p
  Meaning sy.Args w f a o = Longer IsApp IsApp w f a o
  Meaning (sy.Ops e) w f a o = (b : List Terminal) × (p : List Made) × ((c : List Terminal) (q : List Made) (m : Root) → Phrase v (IsInfix e m) f c a q o → At (exp_closes v m) f a → (n : Root) × Phrase v (IsInfix e n) f c b q p) × At (exp_closes v e) f b × w f b p
  Meaning sy.Match w f a o = (b : List Terminal) × (p : List Made) × Phrase v IsMatch f a b o p × At (past true) f b × w f b p
  Meaning sy.MatchBar w f a o = Until (λ b p. (m : Bool) (c : List Terminal) (q : List Made) → At (past m) f a → Phrase v (IsRule m) f c a q o → Phrase v IsMatch f c b q p × At (past true) f b) w f
  Meaning sy.Atexp w f a o = Reads IsAtexp w f a o
  Meaning (sy.LetEnd j) w f a o = (b : List Terminal) × (a ≡ tok.End ∷ b) × w (take j f) b o
  Meaning sy.Seq w f a o = Reads IsSeq w f a o
  Meaning sy.SeqRest w f a o = LongerExp IsSeq w f a o
  Meaning (sy.ParenExp i) w f a o = Behind tok.Open IsAtexp i w f a o
  Meaning (sy.ParenRest i) w f a o = Until (λ b p. (m : Bool) (c : List Terminal) (q : List Made) → i ≡ length (tok.Open ∷ c) → Phrase v (IsExp m) f c a q o → Phrase v IsAtexp f (tok.Open ∷ c) b q p) w f
  Meaning sy.Items w f a o = Reads IsItems w f a o
  Meaning sy.ItemsRest w f a o = LongerExp IsItems w f a o
  Meaning (sy.ListExp i) w f a o = Behind tok.OpenBracket IsAtexp i w f a o
  Meaning (sy.RecordExp i) w f a o = Behind tok.OpenBrace IsAtexp i w f a o
  Meaning sy.Rows w f a o = Reads IsRows w f a o
  Meaning sy.RowsRest w f a o = Until (λ b p. (m : Bool) (c d : List Terminal) (q s : List Made) → Phrase v IsLabel f c (tok.Equals ∷ d) q s → Phrase v (IsExp m) f d a s (made.Inner node.Row ∷ o) → Phrase v IsRows f c b q p) w f
  -- patterns
  Meaning sy.Pat w f a o = Reads IsPat w f a o
  Meaning (sy.PatOp j) w f a o = Behind tok.Op IsPat j w f a o
  Meaning sy.PatName w f a o = Longer IsOpVid IsPat w f a o
  Meaning sy.PatNameTy w f a o = LongerPair IsOpVid tok.Colon IsTy IsPat w f a o
  Meaning sy.PatLong w f a o = Longer IsLongVid IsPat w f a o
  Meaning sy.PatTyRest w f a o = Longer IsTypedPat IsPat w f a o
  Meaning (sy.PatOps e) w f a o = (b : List Terminal) × (p : List Made) × ((c : List Terminal) (q : List Made) (m : Root) → Phrase v (IsInfixPat e m) f c a q o → At (closes v m) f a → (n : Root) × Phrase v (IsInfixPat e n) f c b q p) × At (closes v e) f b × w f b p
  Meaning sy.PatOperand w f a o = Reads IsOperand w f a o
  Meaning sy.PatArg w f a o = Longer IsLongVid IsOperand w f a o
  Meaning sy.Atpat w f a o = Reads IsAtpat w f a o
  Meaning (sy.PatParen i) w f a o = Behind tok.Open IsAtpat i w f a o
  Meaning (sy.PatParenRest i) w f a o = Inside IsPat IsAtpat i w f a o
  Meaning sy.Pats w f a o = Reads IsPats w f a o
  Meaning sy.PatsRest w f a o = Longer IsPat IsPats w f a o
  Meaning (sy.PatList i) w f a o = Behind tok.OpenBracket IsAtpat i w f a o
  Meaning (sy.PatRecord i) w f a o = Behind tok.OpenBrace IsAtpat i w f a o
  Meaning sy.PatRows w f a o = Reads IsPatRows w f a o
  Meaning sy.PatRowsRest w f a o = Longer IsPatRow IsPatRows w f a o
  Meaning sy.PatRow w f a o = Reads IsPatRow w f a o
  Meaning sy.PunRow w f a o = Until (λ b p. (c : List Terminal) (q : List Made) → Phrase v IsLabel f c a q o → Phrase v IsPun f c a q o → Phrase v IsPatRow f c b q p) w f
  Meaning sy.PunRowTy w f a o = LongerPair IsPun tok.Colon IsTy IsPatRow w f a o
  -- types
  Meaning sy.Ty w f a o = Reads IsTy w f a o
  Meaning sy.TyAtom w f a o = Reads IsTyAtom w f a o
  Meaning (sy.TyParen i) w f a o = Inside IsTy IsTyAtom i w f a o
  Meaning (sy.TySeqCon i) w f a o = Until (λ b p. (c d : List Terminal) (q s : List Made) → i ≡ length (tok.Open ∷ c) → Phrase v IsTy f c (tok.Comma ∷ d) q s → Phrase v IsTys f d (tok.Close ∷ a) s o → Phrase v IsTyAtom f (tok.Open ∷ c) b q p) w f
  Meaning sy.TyPost w f a o = Longer IsTyAtom IsTyAtom w f a o
  Meaning sy.TyFactors w f a o = Longer IsTyAtom IsProduct w f a o
  Meaning sy.Factors w f a o = Reads IsFactors w f a o
  Meaning sy.FactorsRest w f a o = Longer IsTyAtom IsFactors w f a o
  Meaning sy.TyArrow w f a o = Longer IsProduct IsTy w f a o
  Meaning sy.Tys w f a o = Reads IsTys w f a o
  Meaning sy.TysRest w f a o = Longer IsTy IsTys w f a o
  Meaning (sy.RecordTy i) w f a o = Behind tok.OpenBrace IsTyAtom i w f a o
  Meaning sy.TyRows w f a o = Reads IsTyRows w f a o
  Meaning sy.TyRowsRest w f a o = Longer IsTyRow IsTyRows w f a o
  -- terminals, and nodes
  Meaning sy.WantClose w f a o = Wants tok.Close w f a o
  Meaning sy.WantCloseBracket w f a o = Wants tok.CloseBracket w f a o
  Meaning sy.WantCloseBrace w f a o = Wants tok.CloseBrace w f a o
  Meaning sy.WantEquals w f a o = Wants tok.Equals w f a o
  Meaning sy.WantColon w f a o = Wants tok.Colon w f a o
  Meaning sy.WantThen w f a o = Wants tok.Then w f a o
  Meaning sy.WantElse w f a o = Wants tok.Else w f a o
  Meaning sy.WantDo w f a o = Wants tok.Do w f a o
  Meaning sy.WantOf w f a o = Wants tok.Of w f a o
  Meaning sy.WantIn w f a o = Wants tok.In w f a o
  Meaning sy.WantArrow w f a o = Wants tok.Arrow w f a o
  Meaning sy.Eof w f a o = Wants tok.Finish w f a o
  Meaning (sy.Emit m) w f a o = (p : List Made) × (o ≡ m ∷ p) × w f a p

  -- what a stack stands for: what its symbols do, one behind the other
  abbrev pub Means : List Symbol → Fix → List Terminal → List Made → Type 0
  Means [] f a o = (a ≡ []) × (o ≡ [])
  Means (s ∷ k) f a o = Meaning s (Means k) f a o

  -- a move keeps what the stack stands for
  abbrev pub Kept : Move → Symbol → List Symbol → Fix → Terminal → List Terminal → List Made → Type 0
  Kept (Skip p) s k f t a o = Means (pushed p k) f (t ∷ a) o → Means (s ∷ k) f (t ∷ a) o
  Kept (Eat p) s k f t a o = Means (pushed p k) (after s t f) a o → Means (s ∷ k) f (t ∷ a) o
  Kept _ s k f t a o = Unit {0}

  -- and so does what the symbol does at a terminal
  abbrev pub Keeps : Symbol → List Symbol → Fix → Terminal → Look → List Terminal → List Made → Type 0
  Keeps s k f t l a o = Kept (move_of v s (has_infix f) (length f) (length (t ∷ a)) l) s k f t a o

-- a phrase without an operator at its root is a left part of each
pub bare_exp : (v : Bool) (f : Fix) (a : List Terminal) → At (exp_closes v root.Bare) f a
bare_exp v f [] = tt
bare_exp v f (t ∷ a) = go (operates (looks f t))
  where
    go : (w : Option InfixVid) → root_closes v root.Bare w ≡ true
    go (Some w) = refl
    go None = refl

pub bare_pat : (v : Bool) (f : Fix) (a : List Terminal) → At (closes v root.Bare) f a
bare_pat v f [] = tt
bare_pat v f (t ∷ a) = go (looks f t)
  where
    go : (l : Look) → closes v root.Bare l ≡ true
    go (look.Operator x s l r) = refl
    go _ = refl

pub ends_lefts : (v : Bool) (e : Root) (l : ℕ) (r : Bool) → ends_at v e l r ≡ true → lefts v e l r ≡ true
ends_lefts v root.Bare l r y = refl
ends_lefts v (root.Operator m s) l r y = y

-- phrases with equal ends, and equal numbers of their first nodes
pub to_token : {v : Bool} {n : Kind} {f : Fix} {a b c : List Terminal} {o p : List Made} → b ≡ c → Phrase v n f a b o p → Phrase v n f a c o p
to_token {v = v} {n = n} {f = f} {a = a} {o = o} {p = p} e h = let P : List Terminal → Type 0 = λ b. Phrase v n f a b o p in subst P e h

pub to_node : {v : Bool} {n : Kind} {f : Fix} {a b : List Terminal} {o p q : List Made} → p ≡ q → Phrase v n f a b o p → Phrase v n f a b o q
to_node {v = v} {n = n} {f = f} {a = a} {b = b} {o = o} e h = let P : List Made → Type 0 = λ p. Phrase v n f a b o p in subst P e h

pub at_nodes : {v : Bool} {n : Kind} {f : Fix} {a b : List Terminal} {o p q : List Made} → q ≡ o → Phrase v n f a b o p → Phrase v n f a b q p
at_nodes {v = v} {n = n} {f = f} {a = a} {b = b} {p = p} e h = let P : List Made → Type 0 = λ o. Phrase v n f a b o p in subst P (sym e) h

pub led : (x : TreeNode) {i j : ℕ} {p q : List Made} → p ≡ made.Lead x i ∷ q → i ≡ j → p ≡ made.Lead x j ∷ q
led x {q = q} e i = e ∙ ap (λ j. made.Lead x j ∷ q) i

pub made_on : {m : Made} {o p q : List Made} → o ≡ m ∷ p → p ≡ q → o ≡ m ∷ q
made_on {m = m} e i = e ∙ ap (λ q. m ∷ q) i
