-- What stands where in a parse tree, in the grammar's terms. Which operators bind tighter isn't told apart: an expression is one at any precedence.
use Rattle.std.specs.Prelude.{ℕ, Bool, true, false, ◌&&◌, nat_eq, List, [], ◌∷◌, ◌++◌, take, drop, reverse}
use Rattle.std.specs.List.{list_all, list_any}
use Rattle.sml_tree.specs.declared.tree_node.TreeNode.{TreeNode}
use Rattle.sml_tree.specs.declared.tree_node.TreeNode.TheVariants as node
use Rattle.sml_tree.specs.Parts.{parts_of}

pub data PartKind : Type 0 where
  -- declarations: one, and a sequence with its end
  Dec Decs : PartKind
  -- the identifiers of a directive
  DirectiveVids : PartKind
  -- type variables: those that a declaration binds, a list of them between parentheses, and one
  BoundTyVars TyVarList OneTyVar : PartKind
  -- bindings, and one alone
  ValBinds OneValBind FunBinds Clauses OneClause TypBinds OneTypBind DatBinds OneDatBind ConBinds OneConBind ExBinds OneExBind : PartKind
  -- the head of a clause, and its arguments
  ClauseHead AtPats : PartKind
  -- identifiers: without `op`, the same or `=`, the same or a long one, with or without `op`, and the same or a long one
  PlainVid OperatorVid AnyVid OpVid LongVid : PartKind
  -- type constructors, and labels: any, and those that are identifiers
  ShortTyCon LongTyCon AnyLabel VidLabel : PartKind
  -- expressions: one, those between commas, those between semicolons, and rows and rules
  Exp Items Seq Rows OneRow Rules OneRule : PartKind
  -- patterns
  Pat Pats PatRows OnePatRow : PartKind
  -- types: one, the factors of a product, and those between commas
  Ty Factors Tys TyRows OneTyRow : PartKind

abbrev pub number_of : PartKind → ℕ
number_of Dec = 0
number_of Decs = 1
number_of DirectiveVids = 2
number_of BoundTyVars = 3
number_of TyVarList = 4
number_of OneTyVar = 5
number_of ValBinds = 6
number_of OneValBind = 7
number_of FunBinds = 8
number_of Clauses = 9
number_of OneClause = 10
number_of TypBinds = 11
number_of OneTypBind = 12
number_of DatBinds = 13
number_of OneDatBind = 14
number_of ConBinds = 15
number_of OneConBind = 16
number_of ExBinds = 17
number_of OneExBind = 18
number_of ClauseHead = 19
number_of AtPats = 20
number_of PlainVid = 21
number_of OperatorVid = 22
number_of AnyVid = 23
number_of OpVid = 24
number_of LongVid = 25
number_of ShortTyCon = 26
number_of LongTyCon = 27
number_of AnyLabel = 28
number_of VidLabel = 29
number_of Exp = 30
number_of Items = 31
number_of Seq = 32
number_of Rows = 33
number_of OneRow = 34
number_of Rules = 35
number_of OneRule = 36
number_of Pat = 37
number_of Pats = 38
number_of PatRows = 39
number_of OnePatRow = 40
number_of Ty = 41
number_of Factors = 42
number_of Tys = 43
number_of TyRows = 44
number_of OneTyRow = 45

abbrev pub has : List PartKind → PartKind → Bool
has kinds k = list_any (λ l. nat_eq (number_of k) (number_of l)) kinds

-- an expression, a pattern and a type may stand alone or end a list of them
abbrev pub expression : List PartKind
expression = Exp ∷ Items ∷ Seq ∷ []

abbrev pub pattern : List PartKind
pattern = Pat ∷ AtPats ∷ Pats ∷ []

abbrev pub type_expression : List PartKind
type_expression = Ty ∷ Factors ∷ Tys ∷ []

abbrev pub constant : List PartKind
constant = expression ++ pattern

abbrev pub identifier : List PartKind
identifier = LongVid ∷ constant

-- as what a node of each form may stand
abbrev pub stands_as : TreeNode → List PartKind
stands_as node.Val = Dec ∷ []
stands_as node.Fun = Dec ∷ []
stands_as node.Type = Dec ∷ []
stands_as node.Datatype = Dec ∷ []
stands_as node.Exception = Dec ∷ []
stands_as node.Local = Dec ∷ []
stands_as (node.Directive x) = Dec ∷ []
stands_as node.NoDecs = Decs ∷ []
stands_as node.MoreDecs = Decs ∷ []
stands_as node.MoreVids = DirectiveVids ∷ []
stands_as node.NoTyVars = BoundTyVars ∷ []
stands_as node.TyVarSeq = BoundTyVars ∷ []
stands_as node.MoreTyVars = TyVarList ∷ []
stands_as node.ValBind = OneValBind ∷ ValBinds ∷ []
stands_as node.MoreValBinds = ValBinds ∷ []
stands_as node.Rec = ValBinds ∷ []
stands_as node.MoreFunBinds = FunBinds ∷ []
stands_as node.MoreClauses = Clauses ∷ FunBinds ∷ []
stands_as node.Clause = OneClause ∷ Clauses ∷ FunBinds ∷ []
stands_as node.TypedClause = OneClause ∷ Clauses ∷ FunBinds ∷ []
stands_as node.Head = ClauseHead ∷ []
stands_as node.InfixHead = ClauseHead ∷ []
stands_as node.ParenHead = ClauseHead ∷ []
stands_as node.ParenHeadArgs = ClauseHead ∷ []
stands_as node.MoreAtpats = AtPats ∷ []
stands_as node.TypBind = OneTypBind ∷ TypBinds ∷ []
stands_as node.MoreTypBinds = TypBinds ∷ []
stands_as node.DatBind = OneDatBind ∷ DatBinds ∷ []
stands_as node.MoreDatBinds = DatBinds ∷ []
stands_as node.ConBind = OneConBind ∷ ConBinds ∷ []
stands_as node.ConBindOf = OneConBind ∷ ConBinds ∷ []
stands_as node.MoreConBinds = ConBinds ∷ []
stands_as node.ExBind = OneExBind ∷ ExBinds ∷ []
stands_as node.ExBindOf = OneExBind ∷ ExBinds ∷ []
stands_as node.ExBindIs = OneExBind ∷ ExBinds ∷ []
stands_as node.MoreExBinds = ExBinds ∷ []
stands_as (node.Vid x) = DirectiveVids ∷ PlainVid ∷ OperatorVid ∷ AnyVid ∷ OpVid ∷ identifier
stands_as node.VidEquals = OperatorVid ∷ AnyVid ∷ []
stands_as (node.LongVid x) = AnyVid ∷ identifier
stands_as node.Op = OpVid ∷ identifier
stands_as (node.TyCon x) = ShortTyCon ∷ LongTyCon ∷ type_expression
stands_as (node.LongTyCon x) = LongTyCon ∷ type_expression
stands_as (node.TyVar x) = BoundTyVars ∷ OneTyVar ∷ TyVarList ∷ type_expression
stands_as (node.Label x) = AnyLabel ∷ VidLabel ∷ []
stands_as (node.LabelNumber x) = AnyLabel ∷ []
stands_as (node.Int x) = constant
stands_as (node.Char x) = constant
stands_as (node.Text x) = constant
stands_as node.Handle = expression
stands_as node.Orelse = expression
stands_as node.Andalso = expression
stands_as node.Typed = expression
stands_as node.Raise = expression
stands_as node.If = expression
stands_as node.While = expression
stands_as node.Case = expression
stands_as node.Fn = expression
stands_as node.InfixExp = expression
stands_as node.Apply = expression
stands_as node.EmptyRecord = expression
stands_as node.Record = expression
stands_as node.Row = OneRow ∷ Rows ∷ []
stands_as node.MoreRows = Rows ∷ []
stands_as node.Unit = expression
stands_as node.Tuple = expression
stands_as node.Sequence = expression
stands_as node.EmptyList = expression
stands_as node.List = expression
stands_as node.MoreItems = Items ∷ []
stands_as node.Let = expression
stands_as node.MoreSeq = Seq ∷ []
stands_as node.Paren = expression
stands_as node.Rule = OneRule ∷ Rules ∷ []
stands_as node.MoreRules = Rules ∷ []
stands_as node.Layered = pattern
stands_as node.TypedLayered = pattern
stands_as node.TypedPat = pattern
stands_as node.InfixPat = pattern
stands_as node.ConPat = pattern
stands_as node.Wild = pattern
stands_as node.PatEmptyRecord = pattern
stands_as node.PatRecord = pattern
stands_as node.PatUnit = pattern
stands_as node.PatTuple = pattern
stands_as node.PatEmptyList = pattern
stands_as node.PatList = pattern
stands_as node.PatParen = pattern
stands_as node.MorePats = Pats ∷ []
stands_as node.PatRow = OnePatRow ∷ PatRows ∷ []
stands_as node.PunRow = OnePatRow ∷ PatRows ∷ []
stands_as node.TypedPunRow = OnePatRow ∷ PatRows ∷ []
stands_as node.PunRowAs = OnePatRow ∷ PatRows ∷ []
stands_as node.TypedPunRowAs = OnePatRow ∷ PatRows ∷ []
stands_as node.MorePatRows = PatRows ∷ []
stands_as node.ArrowTy = type_expression
stands_as node.ProductTy = type_expression
stands_as node.MoreFactors = Factors ∷ []
stands_as node.EmptyRecordTy = type_expression
stands_as node.RecordTy = type_expression
stands_as node.TyRow = OneTyRow ∷ TyRows ∷ []
stands_as node.MoreTyRows = TyRows ∷ []
stands_as node.ConTy = type_expression
stands_as node.SeqConTy = type_expression
stands_as node.ParenTy = type_expression
stands_as node.MoreTys = Tys ∷ []

-- as what the parts of a node of each form stand, from left to right
abbrev pub kinds_of_parts : TreeNode → List PartKind
kinds_of_parts node.Val = BoundTyVars ∷ ValBinds ∷ []
kinds_of_parts node.Fun = BoundTyVars ∷ FunBinds ∷ []
kinds_of_parts node.Type = TypBinds ∷ []
kinds_of_parts node.Datatype = DatBinds ∷ []
kinds_of_parts node.Exception = ExBinds ∷ []
kinds_of_parts node.Local = Decs ∷ Decs ∷ []
kinds_of_parts (node.Directive x) = DirectiveVids ∷ []
kinds_of_parts node.NoDecs = []
kinds_of_parts node.MoreDecs = Dec ∷ Decs ∷ []
kinds_of_parts node.MoreVids = PlainVid ∷ DirectiveVids ∷ []
kinds_of_parts node.NoTyVars = []
kinds_of_parts node.TyVarSeq = TyVarList ∷ []
kinds_of_parts node.MoreTyVars = OneTyVar ∷ TyVarList ∷ []
kinds_of_parts node.ValBind = Pat ∷ Exp ∷ []
kinds_of_parts node.MoreValBinds = OneValBind ∷ ValBinds ∷ []
kinds_of_parts node.Rec = ValBinds ∷ []
kinds_of_parts node.MoreFunBinds = Clauses ∷ FunBinds ∷ []
kinds_of_parts node.MoreClauses = OneClause ∷ Clauses ∷ []
kinds_of_parts node.Clause = ClauseHead ∷ Exp ∷ []
kinds_of_parts node.TypedClause = ClauseHead ∷ Ty ∷ Exp ∷ []
kinds_of_parts node.Head = LongVid ∷ AtPats ∷ []
kinds_of_parts node.InfixHead = Pat ∷ PlainVid ∷ Pat ∷ []
kinds_of_parts node.ParenHead = Pat ∷ PlainVid ∷ Pat ∷ []
kinds_of_parts node.ParenHeadArgs = Pat ∷ PlainVid ∷ Pat ∷ AtPats ∷ []
kinds_of_parts node.MoreAtpats = Pat ∷ AtPats ∷ []
kinds_of_parts node.TypBind = BoundTyVars ∷ ShortTyCon ∷ Ty ∷ []
kinds_of_parts node.MoreTypBinds = OneTypBind ∷ TypBinds ∷ []
kinds_of_parts node.DatBind = BoundTyVars ∷ ShortTyCon ∷ ConBinds ∷ []
kinds_of_parts node.MoreDatBinds = OneDatBind ∷ DatBinds ∷ []
kinds_of_parts node.ConBind = OpVid ∷ []
kinds_of_parts node.ConBindOf = OpVid ∷ Ty ∷ []
kinds_of_parts node.MoreConBinds = OneConBind ∷ ConBinds ∷ []
kinds_of_parts node.ExBind = OpVid ∷ []
kinds_of_parts node.ExBindOf = OpVid ∷ Ty ∷ []
kinds_of_parts node.ExBindIs = OpVid ∷ LongVid ∷ []
kinds_of_parts node.MoreExBinds = OneExBind ∷ ExBinds ∷ []
kinds_of_parts (node.Vid x) = []
kinds_of_parts node.VidEquals = []
kinds_of_parts (node.LongVid x) = []
kinds_of_parts node.Op = AnyVid ∷ []
kinds_of_parts (node.TyCon x) = []
kinds_of_parts (node.LongTyCon x) = []
kinds_of_parts (node.TyVar x) = []
kinds_of_parts (node.Label x) = []
kinds_of_parts (node.LabelNumber x) = []
kinds_of_parts (node.Int x) = []
kinds_of_parts (node.Char x) = []
kinds_of_parts (node.Text x) = []
kinds_of_parts node.Handle = Exp ∷ Rules ∷ []
kinds_of_parts node.Orelse = Exp ∷ Exp ∷ []
kinds_of_parts node.Andalso = Exp ∷ Exp ∷ []
kinds_of_parts node.Typed = Exp ∷ Ty ∷ []
kinds_of_parts node.Raise = Exp ∷ []
kinds_of_parts node.If = Exp ∷ Exp ∷ Exp ∷ []
kinds_of_parts node.While = Exp ∷ Exp ∷ []
kinds_of_parts node.Case = Exp ∷ Rules ∷ []
kinds_of_parts node.Fn = Rules ∷ []
kinds_of_parts node.InfixExp = Exp ∷ OperatorVid ∷ Exp ∷ []
kinds_of_parts node.Apply = Exp ∷ Exp ∷ []
kinds_of_parts node.EmptyRecord = []
kinds_of_parts node.Record = Rows ∷ []
kinds_of_parts node.Row = AnyLabel ∷ Exp ∷ []
kinds_of_parts node.MoreRows = OneRow ∷ Rows ∷ []
kinds_of_parts node.Unit = []
kinds_of_parts node.Tuple = Exp ∷ Items ∷ []
kinds_of_parts node.Sequence = Exp ∷ Seq ∷ []
kinds_of_parts node.EmptyList = []
kinds_of_parts node.List = Items ∷ []
kinds_of_parts node.MoreItems = Exp ∷ Items ∷ []
kinds_of_parts node.Let = Decs ∷ Seq ∷ []
kinds_of_parts node.MoreSeq = Exp ∷ Seq ∷ []
kinds_of_parts node.Paren = Exp ∷ []
kinds_of_parts node.Rule = Pat ∷ Exp ∷ []
kinds_of_parts node.MoreRules = OneRule ∷ Rules ∷ []
kinds_of_parts node.Layered = OpVid ∷ Pat ∷ []
kinds_of_parts node.TypedLayered = OpVid ∷ Ty ∷ Pat ∷ []
kinds_of_parts node.TypedPat = Pat ∷ Ty ∷ []
kinds_of_parts node.InfixPat = Pat ∷ PlainVid ∷ Pat ∷ []
kinds_of_parts node.ConPat = LongVid ∷ Pat ∷ []
kinds_of_parts node.Wild = []
kinds_of_parts node.PatEmptyRecord = []
kinds_of_parts node.PatRecord = PatRows ∷ []
kinds_of_parts node.PatUnit = []
kinds_of_parts node.PatTuple = Pat ∷ Pats ∷ []
kinds_of_parts node.PatEmptyList = []
kinds_of_parts node.PatList = Pats ∷ []
kinds_of_parts node.PatParen = Pat ∷ []
kinds_of_parts node.MorePats = Pat ∷ Pats ∷ []
kinds_of_parts node.PatRow = AnyLabel ∷ Pat ∷ []
kinds_of_parts node.PunRow = VidLabel ∷ []
kinds_of_parts node.TypedPunRow = VidLabel ∷ Ty ∷ []
kinds_of_parts node.PunRowAs = VidLabel ∷ Pat ∷ []
kinds_of_parts node.TypedPunRowAs = VidLabel ∷ Ty ∷ Pat ∷ []
kinds_of_parts node.MorePatRows = OnePatRow ∷ PatRows ∷ []
kinds_of_parts node.ArrowTy = Ty ∷ Ty ∷ []
kinds_of_parts node.ProductTy = Ty ∷ Factors ∷ []
kinds_of_parts node.MoreFactors = Ty ∷ Factors ∷ []
kinds_of_parts node.EmptyRecordTy = []
kinds_of_parts node.RecordTy = TyRows ∷ []
kinds_of_parts node.TyRow = AnyLabel ∷ Ty ∷ []
kinds_of_parts node.MoreTyRows = OneTyRow ∷ TyRows ∷ []
kinds_of_parts node.ConTy = Ty ∷ LongTyCon ∷ []
kinds_of_parts node.SeqConTy = Ty ∷ Tys ∷ LongTyCon ∷ []
kinds_of_parts node.ParenTy = Ty ∷ []
kinds_of_parts node.MoreTys = Ty ∷ Tys ∷ []

-- and where the node itself stands as a kind: only what may be long takes `op` before a long identifier
abbrev pub wanted : PartKind → TreeNode → List PartKind
wanted OpVid node.Op = OperatorVid ∷ []
wanted k m = kinds_of_parts m

-- the parts stand as these kinds, where each part is given by the kinds as which it may stand
abbrev pub fit : List PartKind → List (PartKind → Bool) → Bool
fit [] [] = true
fit (k ∷ kinds) (p ∷ parts) = p k && fit kinds parts
fit _ _ = false

-- a node with such parts may stand as a kind
abbrev pub may_stand : TreeNode → List (PartKind → Bool) → PartKind → Bool
may_stand m parts k = has (stands_as m) k && fit (wanted k m) parts

-- Each tree of a list of nodes, read from left to right, stands as a declaration: s says of each finished phrase as
-- what it may stand, the last first.
abbrev pub shaped : List (PartKind → Bool) → List TreeNode → Bool
shaped s [] = list_all (λ p. p Dec) s
shaped s (m ∷ o) = shaped (may_stand m (reverse (take (parts_of m) s)) ∷ drop (parts_of m) s) o
