-- The sites of a tree allow each function what it holds.
use Rattle.std.proofs.Common.{◌≡◌, ℕ, zero, suc, ◌+◌, ◌≤◌, Bool, true, false, List, [], ◌∷◌, map, length, Option, Some, None, refl, sym, ap, ◌∙◌, subst, arith}
use Rattle.std.proofs.lemmas.Option.{slice_get-map}
use Rattle.std.specs.Prelude.{slice_get, ◌||◌}
use Rattle.std.specs.List.{AllByRecursion}
use Rattle.std.specs.Option.{option_map}
use Rattle.smlc_base.specs.declared.point.Point.{Point}
use Rattle.smlc_base.specs.declared.point.Site.{Site}
use Rattle.smlc_base.specs.declared.point.PointKind.TheVariants as kind
use Rattle.smlc_base.specs.Points.{is_label}
use Rattle.smlc_base.specs.SiteWords.{is_left, outward, around, site_words}
use Rattle.sml_tree.specs.declared.bare.Bare.{Bare}
use Rattle.sml_tree.specs.declared.bare.Node.{Node}
use Rattle.sml_tree.specs.declared.bare.Node.TheVariants as node
use Rattle.sml_tree.specs.declared.bare.Field.{Field}
use Rattle.sml_tree.specs.declared.bare.Rule.{Rule}
use Rattle.sml_tree.specs.declared.bare.Binding.{Binding}
use Rattle.sml_tree.specs.declared.bare.RecBinding.{RecBinding}
use Rattle.sml_tree.specs.declared.points.Spot.{Spot}
use Rattle.sml_tree.specs.declared.points.Context.{Context}
use Rattle.sml_tree.specs.declared.points.Context.TheVariants.{Awaited as AwaitedBy, Plain, Before}
use Rattle.sml_tree.specs.Free.{binds, free as free_in}
use Rattle.sml_tree.specs.IsBare.{IsBare, HasSorts, HasRules}
use Rattle.sml_tree.specs.Points.{point, inside, spots, field_parts, right_parts, rule_parts, function_parts}
use Rattle.sml_types.specs.declared.tables.TypeName.{TypeName}
use Rattle.simulation.specs.Blocks.{IsAmong}
use Rattle.simulation.proofs.Lists.{some_eq, among_left, map_among}
use Rattle.sml_def.specs.Sites.{own_words, site_of, eq_site, sites}
use Rattle.sml_def.proofs.Effects.{all_get}
use Rattle.sml_def.proofs.Options.{if_some}
use Rattle.sml_def.proofs.OneSite.{IsSite, is_site}
use Rattle.sml_def.proofs.Nests.{SiteOf}
use Rattle.sml_def.specs.Laws.{HasSiteOf}
use Rattle.sml_def.proofs.Walked.{IsWalked, whole, each_walked, ret_among, fn_among, caught_among}
use Rattle.lambda_ir.specs.declared.term.Term.{Term}
use Rattle.lambda_ir.specs.Free.{at_term, within_terms, free_cases, free_parts, free_behind, free_at, function_of_term}
use Rattle.match_laws.specs.Compile.{cases_of, bind_of}
use Rattle.lambda_laws.specs.Make.{part_of, term_of, terms_of, lambda_of}
use Rattle.lambda_laws.specs.Ready.{IsExpression, AreFields, AreBindings}
use Rattle.lambda_laws.proofs.Steps.{HasSameFree}
use Rattle.lambda_laws.proofs.FreeSame.{same_free}
use Rattle.lambda_laws.proofs.Programs.{is_program}
use Rattle.cps_ir.specs.Free.{labels}
use Rattle.cps_ir.specs.Slim.{most_held}
use Rattle.convert_laws.specs.Decide.{own_by_16}
use Rattle.convert_laws.specs.Program.{cps_of}
use Rattle.convert_held.proofs.Allows.{Awaited, Awaits, PartsAllow, CasesAllow, FunctionAllows, BindsAllow, OneAllows, GroupAllows, DeclaredAllows, Allows}
use Rattle.convert_held.proofs.Owned.{labels_are_owned}
use Rattle.convert_points.proofs.Points.{sites_of_a_tree_fit}
use Rattle.convert_slim.proofs.Around.{open_words}

module _ (ts : List TypeName) (p : Bare) (bare : IsBare p) where
  abbrev pub terms : List Term
  terms = terms_of ts p

  abbrev pub own : ℕ → Bool
  own = own_by_16 (terms_of ts p) (sites p)

  abbrev pub free : ℕ → List ℕ
  free = free_at (terms_of ts p)

  abbrev pub left : List Point
  left = labels (cps_of (lambda_of ts p)).code

  -- the words of the frames around that no label pays for
  abbrev pub outside : Option Point → ℕ
  outside o = around (length (sites p)) left (sites p) o

  -- a function of the point may hold so many values
  abbrev pub May : Point → ℕ → Type 0
  May q n = n ≤ most_held q.kind (site_words left (sites p) q)

  -- what is done with the value of a node may read so many variables, since the frames around it hold as many
  abbrev pub Allowed : ℕ → ℕ → Type 0
  Allowed i n = (c : Context) × IsWalked p.nodes i c × (n ≤ 1 + outside (inside i c))

  same : HasSameFree ts p
  same = same_free ts p bare

  -- ---- Points

  spot_words : (s : Spot) → IsAmong s (spots p.nodes) → site_words left (sites p) s.point ≡ s.held + own_words s.point.kind + outside s.outer
  spot_words s m =
      let site : Site = site_of p.places s in
      let among : IsAmong site (sites p) = among_left site _ (eq_site ∷ []) (map_among (site_of p.places) s (spots p.nodes) m) in
      let words : HasSiteOf p s.point (s.held + own_words s.point.kind) = (site, among, refl, refl) in
      let outer : SiteOf p s.point s.outer = (site, among, refl, refl) in
      let one : IsSite p s.point (s.held + own_words s.point.kind) s.outer = is_site p bare s.point (s.held + own_words s.point.kind) s.outer words outer in
      ap (outward outside) one.found ∙ ap (λ k. k + outside one.site.outer) one.words_are ∙ ap (λ o. s.held + own_words s.point.kind + outside o) one.around_is

  ret_words : (j held : ℕ) (o : Option Point) → IsWalked p.nodes j (AwaitedBy held o) → site_words left (sites p) (point j kind.Ret) ≡ held + 2 + outside o
  ret_words j held o w = spot_words _ (ret_among p.nodes bare.numbered j held (o, w))

  not_left : (j : ℕ) → own j ≡ false → is_left left (point j kind.Ret) ≡ false
  not_left j e = neither (is_label left (point j kind.Ret)) (labels_are_owned (lambda_of ts p) (is_program ts p bare) own j e)
    where
      neither : (b : Bool) → b ≡ false → (b || false) ≡ false
      neither true f = f
      neither false f = f

  one_allowed : (i : ℕ) (c : Context) → IsWalked p.nodes i c → Allowed i 1
  one_allowed i c w = (c, w, omega arith)

  awaits : (j held : ℕ) (o : Option Point) (h r : ℕ) → IsWalked p.nodes j (AwaitedBy held o) → h ≡ held → r ≤ 1 + outside o → Awaits May Allowed own terms free j (h + r)
  awaits j held o h r w e le = go (own j) refl
    where
      words : site_words left (sites p) (point j kind.Ret) ≡ held + 2 + outside o
      words = ret_words j held o w

      go : (b : Bool) → own j ≡ b → Awaited May Allowed own terms free b j (h + r)
      go true f = (omega (arith, words, e, le), one_allowed j (AwaitedBy held o) w)
      go false f =
          let grown = open_words left (sites p) (sites_of_a_tree_fit p bare) (point j kind.Ret) (not_left j f) in
          (AwaitedBy held o, w, omega (arith, words, e, le, grown))

  -- ---- Parts

  parts_allow : (k : ℕ) (fields : List Field) (o : Option Point) (r : ℕ) → AreFields p fields → AllByRecursion (λ q. IsWalked p.nodes q.node q.context) (field_parts (free_in p.nodes) k fields o) → r ≤ 1 + outside o → PartsAllow May Allowed own terms free k (map part_of fields) r
  parts_allow k [] o r s w le = tt
  parts_allow k (x ∷ fields) o r s w le =
      let later = ap length (same.fields fields s.1) in
      (awaits x.node _ o (k + length (free_parts free (map part_of fields))) r w.0 (ap (λ m. k + m) later) le, parts_allow (suc k) fields o r s.1 w.1 le)

  cases_allow : (rules : List Rule) (o : Option Point) (r : ℕ) → AllByRecursion (λ q. IsWalked p.nodes q.node q.context) (rule_parts rules o) → r ≤ 1 + outside o → CasesAllow May Allowed own terms free (cases_of ts p.nodes rules) r
  cases_allow [] o r w le = tt
  cases_allow (x ∷ rules) o r w le = ((Plain o, w.0, le), cases_allow rules o r w.1 le)

  function_allows : (i : ℕ) (rules : List Rule) (c : Context) → IsWalked p.nodes i c → slice_get p.nodes i ≡ Some (node.Fn rules) → HasRules p.nodes rules → FunctionAllows May Allowed own terms free i (cases_of ts p.nodes rules)
  function_allows i rules c w is s =
      let words = spot_words _ (fn_among p.nodes bare.numbered i rules c w is) in
      let names = ap length (same.rules rules s) in
      (omega (arith, words, names), cases_allow rules None 1 (each_walked p.nodes i (node.Fn rules) c w is) (omega arith))

  binds_allow : (bindings : List Binding) (body : ℕ) (o : Option Point) (r : ℕ) → AreBindings p bindings → IsExpression p body → IsWalked p.nodes body (Plain o) → AllByRecursion (λ q. IsWalked p.nodes q.node q.context) (right_parts (binds p.nodes) (free_in p.nodes) bindings body o) → r ≤ 1 + outside o → BindsAllow May Allowed own terms free (map (bind_of ts p.nodes) bindings) body r
  binds_allow [] body o r s e after w le = (Plain o, after, le)
  binds_allow (b ∷ later) body o r s e after w le =
      let behind = ap length (same.rest b later body s e) in
      (awaits b.right _ o (length (free_behind free (bind_of ts p.nodes b) (map (bind_of ts p.nodes) later) body)) r w.0 behind le, binds_allow later body o r s.1 e after w.1 le)

  -- ---- Nodes

  sorts_at : (i : ℕ) (n : Node) → slice_get p.nodes i ≡ Some n → HasSorts p.nodes n
  sorts_at i n e = if_some (HasSorts p.nodes) (slice_get p.nodes i) n e (all_get (HasSorts p.nodes) p.nodes i bare.sorts)

  term_at : (i : ℕ) → slice_get terms i ≡ option_map (term_of ts p.nodes) (slice_get p.nodes i)
  term_at i = slice_get-map (term_of ts p.nodes) p.nodes i

  -- the function behind a term
  functions_allow : (k i : ℕ) (c : Context) → IsWalked p.nodes i c → OneAllows May Allowed own terms free (within_terms None function_of_term k terms i)
  functions_allow zero i c w = tt
  functions_allow (suc k) i c w =
      subst (λ o. OneAllows May Allowed own terms free (at_term None function_of_term (within_terms None function_of_term k terms) i o)) (sym (term_at i)) (go (slice_get p.nodes i) refl (λ j d v. functions_allow k j d v))
    where
      go : (o : Option Node) → slice_get p.nodes i ≡ o → ((j : ℕ) (d : Context) → IsWalked p.nodes j d → OneAllows May Allowed own terms free (within_terms None function_of_term k terms j)) → OneAllows May Allowed own terms free (at_term None function_of_term (within_terms None function_of_term k terms) i (option_map (term_of ts p.nodes) o))
      go None is again = tt
      go (Some (node.Fn rules)) is again = function_allows i rules c w is (sorts_at i (node.Fn rules) is)
      go (Some (node.Typed e ty)) is again = again e (Plain (inside i c)) (each_walked p.nodes i (node.Typed e ty) c w is).0
      go (Some _) is again = tt

  group_allows : (bindings : List RecBinding) → AllByRecursion (λ q. IsWalked p.nodes q.node q.context) (function_parts bindings) → GroupAllows May Allowed own terms free bindings
  group_allows [] w = tt
  group_allows (b ∷ bindings) w = (functions_allow (length terms) b.right (Plain None) w.0, group_allows bindings w.1)

  declared_allows : (d body : ℕ) (o : Option Point) (r : ℕ) → IsExpression p body → IsWalked p.nodes d (Before body o) → IsWalked p.nodes body (Plain o) → r ≤ 1 + outside o → DeclaredAllows May Allowed own terms free (slice_get terms d) body r
  declared_allows d body o r e w after le =
      subst (λ t. DeclaredAllows May Allowed own terms free t body r) (sym (term_at d)) (go (slice_get p.nodes d) refl)
    where
      go : (n : Option Node) → slice_get p.nodes d ≡ n → DeclaredAllows May Allowed own terms free (option_map (term_of ts p.nodes) n) body r
      go (Some (node.Val tyvars bindings)) is =
          binds_allow bindings body o r (sorts_at d (node.Val tyvars bindings) is) e after (each_walked p.nodes d (node.Val tyvars bindings) (Before body o) w is) le
      go (Some (node.ValRec tyvars bindings)) is =
          (group_allows bindings (each_walked p.nodes d (node.ValRec tyvars bindings) (Before body o) w is), (Plain o, after, le))
      go None is = (Plain o, after, le)
      go (Some _) is = (Plain o, after, le)

  node_allows : (i : ℕ) (n : Node) (c : Context) (r : ℕ) → IsWalked p.nodes i c → slice_get p.nodes i ≡ Some n → r ≤ 1 + outside (inside i c) → Allows May Allowed own terms free i (term_of ts p.nodes n) r
  node_allows i n c r w is le = go n is (sorts_at i n is)
    where
      go : (n : Node) → slice_get p.nodes i ≡ Some n → HasSorts p.nodes n → Allows May Allowed own terms free i (term_of ts p.nodes n) r
      go (node.Record fields) is s = parts_allow 0 fields (inside i c) r s (each_walked p.nodes i (node.Record fields) c w is) le
      go (node.App f a) is s =
          let parts = each_walked p.nodes i (node.App f a) c w is in
          (awaits f _ (inside i c) (length (free a)) r parts.0 (ap length (same.node a s.1)) le, awaits a 1 (inside i c) 1 r parts.1.0 refl le)
      go (node.Case e rules) is s =
          let parts = each_walked p.nodes i (node.Case e rules) c w is in
          (awaits e _ (inside i c) (length (free_cases free (cases_of ts p.nodes rules))) r parts.0 (ap length (same.rules rules s.1)) le, cases_allow rules (inside i c) r parts.1 le)
      go (node.Fn rules) is s = function_allows i rules c w is s
      go (node.Raise e) is s =
          awaits e 0 (inside i c) 0 0 (each_walked p.nodes i (node.Raise e) c w is).0 refl (omega arith)
      go (node.Handle e rules) is s =
          let parts = each_walked p.nodes i (node.Handle e rules) c w is in
          let words = spot_words _ (caught_among p.nodes bare.numbered i e rules c w is) in
          let names = ap length (same.rules rules s.1) in (
            omega (arith, words, names, le),
            omega arith,
            one_allowed e (Plain (Some (point i kind.Caught))) parts.0,
            cases_allow rules (inside i c) r parts.1 le,
          )
      go (node.Typed e ty) is s = (Plain (inside i c), (each_walked p.nodes i (node.Typed e ty) c w is).0, le)
      go (node.Let d e) is s =
          let parts = each_walked p.nodes i (node.Let d e) c w is in
          declared_allows d e (inside i c) r s.1 parts.0 parts.1.0 le
      go _ is s = tt

  pub allows : (i : ℕ) (t : Term) (r : ℕ) → slice_get terms i ≡ Some t → Allowed i r → Allows May Allowed own terms free i t r
  allows i t r e a = go (slice_get p.nodes i) refl (sym (term_at i) ∙ e)
    where
      go : (o : Option Node) → slice_get p.nodes i ≡ o → option_map (term_of ts p.nodes) o ≡ Some t → Allows May Allowed own terms free i t r
      go None is f = absurd cc
      go (Some n) is f =
          some_eq (λ u. Allows May Allowed own terms free i u r) (term_of ts p.nodes n) t f (node_allows i n a.0 r a.1 is a.2)

  pub begun : Allowed 0 0
  begun = (Plain None, whole, omega arith)
