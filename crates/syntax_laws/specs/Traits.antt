-- What each symbol of the machine asks of the stack below it, and how it can be completed.
use Rattle.std.specs.Prelude.{ℕ, pos, ◌+◌, Bool, true, false, ◌&&◌, ◌||◌, not, List, [], ◌∷◌}
use Rattle.smlc_base.specs.declared.names.Name.{Name}
use Rattle.sml_syntax.specs.declared.forms.Terminal.{Terminal}
use Rattle.sml_syntax.specs.declared.forms.Terminal.TheVariants as tok
use Rattle.sml_syntax.specs.declared.forms.Shape.TheVariants as shape
use Rattle.sml_syntax.specs.declared.forms.Root.{Root}
use Rattle.sml_syntax.specs.declared.forms.Root.TheVariants as root
use Rattle.sml_syntax.specs.declared.symbol.Symbol.{Symbol}
use Rattle.sml_syntax.specs.declared.symbol.Symbol.TheVariants as sy

-- how a completion begins: in any way, or with a terminal that ends a pattern, or an expression too, or a declaration too
pub data Opening : Type 0 where
  anyhow at_equals at_of closing : Opening

-- the second is as good as the first
abbrev pub reaches : Opening → Opening → Bool
reaches anyhow d = true
reaches at_equals anyhow = false
reaches at_equals d = true
reaches at_of at_of = true
reaches at_of closing = true
reaches at_of d = false
reaches closing closing = true
reaches closing d = false

abbrev pub opening : Terminal → Opening
opening tok.Equals = at_equals
opening tok.Of = at_of
opening tok.In = closing
opening tok.End = closing
opening tok.Then = closing
opening tok.Else = closing
opening tok.Do = closing
opening tok.Arrow = closing
opening tok.Close = closing
opening tok.CloseBracket = closing
opening tok.CloseBrace = closing
opening tok.Finish = closing
opening t = anyhow

-- what stands next on a stack
pub data Standing : Type 0 where
  nothing operators pattern_operators : Standing
  next : Opening → Standing

abbrev pub met : Standing → Opening
met nothing = anyhow
met operators = at_of
met pattern_operators = at_equals
met (next o) = o

-- what wants the first has it in the second
abbrev pub suits : Standing → Standing → Bool
suits nothing nothing = true
suits operators operators = true
suits pattern_operators pattern_operators = true
suits (next o) operators = reaches o at_of
suits (next o) pattern_operators = reaches o at_equals
suits (next o) (next p) = reaches o p
suits d e = false

-- The shortest completion of a symbol: a node; none, where the symbol vanishes, or opens operators and vanishes; or one that begins with a terminal, with any identifier, or with one that has infix status.
pub data Choice : Type 0 where
  makes_node vanishes takes_name takes_operator : Choice
  opens : Standing → Choice
  takes : Terminal → Choice

-- how far a symbol leads without a terminal, and whether what is below it may come up by then
pub data Reach : Type 0 where
  passing holding : ℕ → Reach

-- whether a symbol stands in the head of a clause, and there can be completed only by an identifier with infix status
pub data Place : Type 0 where
  outside inside needy : Place

pub record Traits : Type 0 where
  -- what has to stand next
  pub wants : Standing
  pub choice : Choice
  -- more than what the shortest completion puts in its place
  pub cost : ℕ
  pub reach : Reach
  pub place : Place

abbrev pub marked : Standing → Choice → ℕ → Reach → Place → Traits
marked d c n r p = record { wants = d; choice = c; cost = n; reach = r; place = p }

abbrev pub mark : Opening → Choice → ℕ → Reach → Place → Traits
mark o = marked (next o)

-- behind the right operand of an operator the operators go on
abbrev pub behind : Root → Standing → Standing
behind root.Bare d = next (met d)
behind (root.Operator l r) d = d

abbrev pub nobody : Name
nobody = record { 0 = 0 }

abbrev pub one : Terminal
one = tok.Int (pos 1) (shape.Digit 1)

abbrev pub long : Terminal
long = tok.Long nobody true

abbrev pub type_variable : Terminal
type_variable = tok.TyVar nobody

-- The end is the last symbol, and no other is. What stands in the place of a symbol before a terminal is taken leads less far than the symbol.
abbrev pub traits : Symbol → Traits
traits (sy.Emit m) = mark anyhow makes_node 1 (passing 1) inside
traits sy.Program = mark closing vanishes 1 (passing 2) outside
traits sy.Decs = mark closing vanishes 2 (passing 2) outside
traits sy.Dec = mark closing (takes tok.Exception) 10 (holding 1) outside
traits (sy.LocalIn p) = mark anyhow (takes tok.In) 4 (holding 1) outside
traits (sy.LocalEnd c p) = mark anyhow (takes tok.End) 1 (holding 1) outside
traits (sy.Digit c p) = mark closing (takes one) 5 (holding 2) outside
traits (sy.Vids u) = mark closing takes_name 3 (holding 1) outside
traits (sy.VidsRest u) = mark closing vanishes 1 (passing 2) outside
traits sy.ValTyVars = mark at_of (takes type_variable) 20 (holding 6) outside
traits (sy.ValParen p) = mark at_of (takes type_variable) 24 (holding 6) outside
traits sy.TyVarList = mark at_equals (takes type_variable) 3 (holding 1) outside
traits sy.TyVarsRest = mark at_equals vanishes 1 (passing 1) outside
traits sy.ValBind = mark at_of (takes tok.Underscore) 18 (holding 4) outside
traits sy.ValEquals = mark at_of (takes tok.Equals) 12 (holding 1) outside
traits sy.ValAnd = mark at_of vanishes 1 (passing 1) outside
traits sy.FunTyVars = mark at_of (takes type_variable) 26 (holding 7) outside
traits (sy.FunParen p) = mark at_of (takes type_variable) 30 (holding 5) outside
traits sy.FunBinds = mark at_of (takes long) 24 (holding 5) outside
traits sy.FunAnd = mark at_of vanishes 1 (passing 1) outside
traits sy.Clauses = mark at_of (takes long) 22 (holding 4) outside
traits sy.ClauseRest = mark at_of (takes tok.Equals) 12 (holding 1) outside
traits sy.ClauseBar = mark at_of vanishes 1 (passing 1) outside
traits sy.Head = mark at_equals (takes long) 9 (holding 3) outside
traits sy.HeadName = mark at_equals (takes tok.Underscore) 6 (holding 4) outside
traits sy.HeadOp = mark anyhow takes_operator 5 (holding 1) needy
traits sy.Atpats = mark at_equals (takes tok.Underscore) 4 (holding 3) inside
traits sy.AtpatsRest = mark at_equals vanishes 1 (passing 4) inside
traits (sy.HeadParen p) = mark at_equals (takes tok.Close) 7 (holding 3) needy
traits (sy.HeadFirstOp c p) = mark at_equals (takes long) 16 (holding 1) needy
traits (sy.HeadFirstName c p) = mark at_equals (takes tok.Underscore) 13 (holding 6) needy
traits (sy.HeadFirst p) = mark at_equals takes_operator 8 (holding 3) needy
traits (sy.HeadSecond c p) = mark at_equals (takes tok.Underscore) 6 (holding 3) needy
traits (sy.HeadSecondName c p) = mark at_equals (takes tok.Underscore) 15 (holding 7) needy
traits (sy.HeadSecondEnd c p) = mark at_equals (takes tok.Close) 3 (holding 6) needy
traits (sy.HeadEnd p) = mark anyhow (takes tok.Close) 7 (holding 1) needy
traits (sy.HeadClosed p) = mark at_equals vanishes 2 (passing 4) inside
traits sy.TypBinds = mark closing (takes type_variable) 14 (holding 4) outside
traits sy.TypAnd = mark closing vanishes 1 (passing 1) outside
traits sy.TyVars = mark anyhow (takes type_variable) 2 (passing 2) outside
traits sy.TyCon = mark anyhow takes_name 2 (holding 1) outside
traits sy.DatBinds = mark closing (takes type_variable) 16 (holding 4) outside
traits sy.DatAnd = mark closing vanishes 1 (passing 1) outside
traits sy.ConBinds = mark closing (takes tok.Op) 8 (holding 2) outside
traits sy.ConOf = mark closing vanishes 3 (passing 3) outside
traits sy.ConBar = mark closing vanishes 1 (passing 1) outside
traits sy.ExBinds = mark closing (takes tok.Op) 8 (holding 2) outside
traits sy.ExRest = mark closing vanishes 3 (passing 3) outside
traits sy.ExAnd = mark closing vanishes 1 (passing 1) outside
traits sy.OpVid = mark anyhow (takes tok.Op) 4 (holding 1) outside
traits sy.AnyVid = mark anyhow (takes tok.Equals) 2 (holding 1) outside
traits sy.LongVid = mark anyhow (takes long) 2 (holding 1) inside
traits sy.AnyLong = mark anyhow (takes long) 2 (holding 1) inside
traits sy.Exp = mark at_of (takes one) 9 (holding 3) outside
traits sy.Prefix = mark at_of (takes tok.Raise) 11 (holding 1) outside
traits sy.TyRest = mark at_of vanishes 1 (passing 1) outside
traits sy.AndRest = mark at_of vanishes 1 (passing 1) outside
traits sy.AndRight = mark at_of (takes one) 6 (holding 3) outside
traits sy.OrRest = mark at_of vanishes 1 (passing 1) outside
traits sy.OrRight = mark at_of (takes one) 7 (holding 3) outside
traits sy.HandleRest = mark at_of vanishes 1 (passing 1) outside
traits sy.Args = mark at_equals vanishes 1 (passing 3) outside
traits (sy.Ops c) = marked (behind c operators) (opens operators) 1 (passing 1) outside
traits sy.Match = mark at_of (takes tok.Underscore) 18 (holding 4) outside
traits sy.MatchBar = mark at_of vanishes 1 (passing 1) outside
traits sy.Atexp = mark anyhow (takes one) 2 (holding 2) outside
traits (sy.LetEnd p) = mark anyhow (takes tok.End) 1 (holding 1) outside
traits sy.Seq = mark at_of (takes one) 11 (holding 4) outside
traits sy.SeqRest = mark at_of vanishes 1 (passing 1) outside
traits (sy.ParenExp p) = mark anyhow (takes tok.Close) 2 (holding 4) outside
traits (sy.ParenRest p) = mark anyhow (takes tok.Close) 2 (holding 1) outside
traits sy.Items = mark at_of (takes one) 11 (holding 4) outside
traits sy.ItemsRest = mark at_of vanishes 1 (passing 1) outside
traits (sy.ListExp p) = mark anyhow (takes tok.CloseBracket) 2 (holding 5) outside
traits (sy.RecordExp p) = mark anyhow (takes tok.CloseBrace) 2 (holding 3) outside
traits sy.Rows = mark at_of (takes one) 15 (holding 2) outside
traits sy.RowsRest = mark at_of vanishes 1 (passing 1) outside
traits sy.Label = mark anyhow (takes one) 2 (holding 1) inside
traits sy.Pat = mark at_equals (takes tok.Underscore) 5 (holding 3) inside
traits (sy.PatOp p) = mark at_equals (takes long) 6 (holding 1) inside
traits sy.PatName = mark at_equals vanishes 4 (passing 4) inside
traits sy.PatNameTy = mark at_equals vanishes 3 (passing 3) inside
traits sy.PatLong = mark at_equals vanishes 3 (passing 3) inside
traits sy.PatTyRest = mark at_equals vanishes 1 (passing 1) inside
traits (sy.PatOps c) = marked (behind c pattern_operators) (opens pattern_operators) 1 (passing 1) inside
traits sy.PatOperand = mark at_equals (takes tok.Underscore) 3 (holding 3) inside
traits sy.PatArg = mark at_equals vanishes 1 (passing 3) inside
traits sy.Atpat = mark anyhow (takes tok.Underscore) 2 (holding 2) inside
traits (sy.PatParen p) = mark anyhow (takes tok.Close) 2 (holding 4) inside
traits (sy.PatParenRest p) = mark anyhow (takes tok.Close) 2 (holding 1) inside
traits sy.Pats = mark at_equals (takes tok.Underscore) 7 (holding 4) inside
traits sy.PatsRest = mark at_equals vanishes 1 (passing 1) inside
traits (sy.PatList p) = mark anyhow (takes tok.CloseBracket) 2 (holding 5) inside
traits (sy.PatRecord p) = mark anyhow (takes tok.CloseBrace) 2 (holding 3) inside
traits sy.PatRows = mark at_of (takes one) 11 (holding 2) inside
traits sy.PatRowsRest = mark at_of vanishes 1 (passing 1) inside
traits sy.PatRow = mark at_of (takes one) 9 (holding 1) inside
traits sy.PunRow = mark at_of vanishes 2 (passing 2) inside
traits sy.PunRowTy = mark at_of vanishes 2 (passing 2) inside
traits sy.Ty = mark at_equals (takes type_variable) 6 (holding 2) inside
traits sy.TyAtom = mark at_equals (takes type_variable) 3 (holding 1) inside
traits (sy.TyParen p) = mark at_equals (takes tok.Close) 3 (holding 1) inside
traits (sy.TySeqCon p) = mark at_equals (takes long) 4 (holding 1) inside
traits sy.TyPost = mark at_equals vanishes 1 (passing 1) inside
traits sy.TyFactors = mark at_equals vanishes 1 (passing 1) inside
traits sy.Factors = mark at_equals (takes type_variable) 5 (holding 2) inside
traits sy.FactorsRest = mark at_equals vanishes 1 (passing 1) inside
traits sy.TyArrow = mark at_equals vanishes 1 (passing 1) inside
traits sy.Tys = mark at_equals (takes type_variable) 8 (holding 3) inside
traits sy.TysRest = mark at_equals vanishes 1 (passing 1) inside
traits (sy.RecordTy p) = mark anyhow (takes tok.CloseBrace) 2 (holding 3) inside
traits sy.TyRows = mark at_equals (takes one) 12 (holding 2) inside
traits sy.TyRowsRest = mark at_equals vanishes 1 (passing 1) inside
traits sy.WantClose = mark anyhow (takes tok.Close) 1 (holding 1) inside
traits sy.WantCloseBracket = mark anyhow (takes tok.CloseBracket) 1 (holding 1) inside
traits sy.WantCloseBrace = mark anyhow (takes tok.CloseBrace) 1 (holding 1) inside
traits sy.WantEquals = mark anyhow (takes tok.Equals) 1 (holding 1) inside
traits sy.WantColon = mark anyhow (takes tok.Colon) 1 (holding 1) inside
traits sy.WantThen = mark anyhow (takes tok.Then) 1 (holding 1) outside
traits sy.WantElse = mark anyhow (takes tok.Else) 1 (holding 1) outside
traits sy.WantDo = mark anyhow (takes tok.Do) 1 (holding 1) outside
traits sy.WantOf = mark anyhow (takes tok.Of) 1 (holding 1) outside
traits sy.WantIn = mark anyhow (takes tok.In) 1 (holding 1) outside
traits sy.WantArrow = mark anyhow (takes tok.Arrow) 1 (holding 1) outside
traits sy.Eof = marked nothing (takes tok.Finish) 1 (holding 1) outside

-- what stands next with the symbol on top, and without it
abbrev pub given : Choice → Standing → Standing → Standing
given makes_node w d = d
given vanishes w d = w
given (opens o) w d = o
given (takes t) w d = next (opening t)
given c w d = next anyhow

abbrev pub gives : Symbol → Standing → Standing
gives s d = given (traits s).choice (traits s).wants d

abbrev pub allows : Symbol → Standing → Bool
allows s d = suits (traits s).wants d

abbrev pub needs_name : Place → Bool
needs_name needy = true
needs_name p = false

abbrev pub is_needy : Symbol → Bool
is_needy s = needs_name (traits s).place

abbrev pub in_head : Place → Bool
in_head outside = false
in_head p = true

abbrev pub is_inside : Symbol → Bool
is_inside s = in_head (traits s).place

-- how far a stack leads with the symbol on top, and without it
abbrev pub reached : Reach → ℕ → ℕ
reached (passing n) m = n + m
reached (holding n) m = n

-- what stands next, where these symbols stand on a stack
abbrev pub standing : List Symbol → Standing → Standing
standing [] d = d
standing (s ∷ k) d = gives s (standing k d)

-- one of the symbols can be completed only by an identifier with infix status
abbrev pub needs : List Symbol → Bool
needs [] = false
needs (s ∷ k) = is_needy s || needs k

-- Each of these symbols has below it what it asks for, where they stand on a stack on which d stands next, and m is whether that one needs an identifier with infix status.
-- What needs one has only symbols of a head above it, so that no directive changes in between.
abbrev pub stands : List Symbol → Standing → Bool → Bool
stands [] d m = true
stands (s ∷ k) d m = allows s (standing k d) && ((is_inside s || not (needs k || m)) && stands k d m)
