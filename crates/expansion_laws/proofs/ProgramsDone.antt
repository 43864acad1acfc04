-- Programs expand to programs.
use Rattle.std.proofs.Common.{◌≡◌, ℕ, List, [], ◌∷◌, length, refl, ap, Option, Some, None, arith}
use Rattle.std.specs.List.{AllByRecursion}
use Rattle.smlc_base.specs.declared.place.Place.{Place}
use Rattle.sml_tree.specs.declared.bare.Node.{Node}
use Rattle.sml_tree.specs.declared.bare.Node.TheVariants as node
use Rattle.sml_expansion.specs.declared.made.Made.{Made}
use Rattle.sml_expansion.specs.declared.meaning.Meaning.{Meaning}
use Rattle.sml_expansion.specs.Forests.{Forest, none, tree, grown, ◌&◌}
use Rattle.sml_expansion.specs.Terms.{Term, place_at}
use Rattle.sml_expansion.specs.Scopes.{Scope, nothing, within, number_of, latest_at, also, renamed, with_long_identifiers}
use Rattle.sml_expansion.specs.Makings.{nothing_made}
use Rattle.sml_expansion.specs.Bare.{nest}
use Rattle.sml_expansion.specs.Expressions.{decs}
use Rattle.sml_expansion.specs.Programs.{tops, all_tops, program}
use Rattle.sml_prelude.specs.Long.{long_identifiers}
use Rattle.expansion_laws.proofs.Contexts.{Context, MeaningIn, EnvIn, ScopeIn, base_cons}
use Rattle.expansion_laws.proofs.Forms as f
use Rattle.expansion_laws.proofs.Forms.{Sizes, Quiet, Is, before, after}
use Rattle.expansion_laws.proofs.Growing.{grows_both, TyvarsIn, tyvars_on, ends_back, Done, done_same, TypesStand}
use Rattle.expansion_laws.proofs.Kinded.{Kinded, Dec}
use Rattle.expansion_laws.proofs.DeclarationsDone.{scope_within}
use Rattle.expansion_laws.proofs.Meanings.{latest_in}
use Rattle.expansion_laws.proofs.ExpressionsDone.{phrases_made}

-- the rest of a program
pub record ProgramIs (z : Sizes) (g : Context) (m n : Made) (t : Forest) : Type 0 where
  pub node : Node
  pub place : Place
  pub parts : Forest
  pub same : t ≡ grown node place parts
  pub is : Is z g m n (f.program node) parts

program_before : {z : Sizes} {g : Context} {m k n : Made} {t : Forest} → Quiet m k → ProgramIs z g k n t → ProgramIs z g m n t
program_before q d = record { node = d.node; place = d.place; parts = d.parts; same = d.same; is = before q d.is }

nest_program : {z : Sizes} {g h : Context} {m k n : Made} {d e : Forest} (p : Place) → Is z g m k (f.declarations h) d → ProgramIs z h k n e → ProgramIs z g m n (nest p d e)
nest_program p (before q d) e = program_before q (nest_program p d e)
nest_program p (after d q) e = nest_program p d (program_before q e)
nest_program p f.no_declaration e = e
nest_program {z} {g} {h} {m} {k} {n} {e = e} p (f.more_declarations {a = a} {p = q} {parts = parts} {rest = rest} d r) x =
    let o = nest_program p r x in
    record { node = node.Let 0 0; place = p; parts = tree a q parts (grown o.node o.place o.parts); same = ap (λ y. grown (node.Let 0 0) p (grown a q parts & y)) o.same; is = f.program_let d o.is }

tops_done : (z : Sizes) (terms : List Term) → AllByRecursion (Kinded z.texts Dec) terms → (s : Scope) (m : Made) → TyvarsIn s m → let r = tops s terms m in Done z s m r.1 (λ g. (p : Place) → ProgramIs z g m r.1 (program p r.0))
tops_done z [] h s m v = done_same (λ g i p. record { node = node.Finish; place = p; parts = none; same = refl; is = f.program_end })
tops_done z (t ∷ terms) h s m v =
    let x = decs s t m in
    let d = phrases_made z Dec t h.0 s m v in
    let e = tops_done z terms h.1 (within s x.0.env) x.1 (tyvars_on s.tyvars d.grows v) in
    record {
      grows = grows_both d.grows e.grows;
      says = λ y g i p.
          let o = d.says (ends_back e.grows y) g i in
          nest_program (place_at t) o.is (e.says y o.after (scope_within x.0.env o.wider o.env i) p);
    }

-- what a long identifier stands for is in scope as well
also_in : (g : Context) (x : Option ℕ) (m : Option Meaning) (values : List (ℕ × Meaning)) → EnvIn g values → ((y : Meaning) → m ≡ Some y → MeaningIn g y) → EnvIn g (also x m values)
also_in g (Some x) (Some m) values h k = (k m refl, h)
also_in g (Some x) None values h k = h
also_in g None m values h k = h

latest_at_in : (g : Context) (values : List (ℕ × Meaning)) (o : Option ℕ) → EnvIn g values → (m : Meaning) → latest_at values o ≡ Some m → MeaningIn g m
latest_at_in g values (Some k) h m e = latest_in g values k m h e
latest_at_in g values None h m e = cc

renamed_in : (g : Context) (names : List (List ℕ)) (rows : List (List ℕ × List ℕ)) (values : List (ℕ × Meaning)) → EnvIn g values → EnvIn g (renamed names rows values)
renamed_in g names [] values h = h
renamed_in g names (r ∷ rows) values h =
    let m = latest_at values (number_of names r.1) in
    renamed_in g names rows (also (number_of names r.0) m values) (also_in g (number_of names r.0) m values h (latest_at_in g values (number_of names r.1) h))

long_in : {g : Context} {s : Scope} → ScopeIn g s → ScopeIn g (with_long_identifiers s)
long_in {g} {s} i = record { values = renamed_in g s.names long_identifiers s.env.values i.values; base = i.base }

all_tops_done : (z : Sizes) (library terms : List Term) → AllByRecursion (Kinded z.texts Dec) library → AllByRecursion (Kinded z.texts Dec) terms → (s : Scope) (m : Made) → TyvarsIn s m → let r = all_tops s library terms m in Done z s m r.1 (λ g. (p : Place) → ProgramIs z g m r.1 (program p r.0))
all_tops_done z [] terms k h s m v = let d = tops_done z terms h (with_long_identifiers s) m v in record { grows = d.grows; says = λ y g i. d.says y g (long_in i) }
all_tops_done z (t ∷ library) terms k h s m v =
    let x = decs s t m in
    let d = phrases_made z Dec t k.0 s m v in
    let e = all_tops_done z library terms k.1 h (within s x.0.env) x.1 (tyvars_on s.tyvars d.grows v) in
    record {
      grows = grows_both d.grows e.grows;
      says = λ y g i p.
          let o = d.says (ends_back e.grows y) g i in
          nest_program (place_at t) o.is (e.says y o.after (scope_within x.0.env o.wider o.env i) p);
    }

-- what is in scope before the library
abbrev pub start : Context
start = record { vars = []; plain = []; exceptions = []; cons = base_cons }

abbrev pub start_scope : List (List ℕ) → Scope
start_scope names = record { names = names; env = nothing; tyvars = [] }

abbrev pub sizes_of : ℕ → Made → Sizes
sizes_of texts n = record { types = length n.types; tyvars = length n.tyvars; texts = texts }

pub program_done : (names : List (List ℕ)) (texts : ℕ) (library terms : List Term) → AllByRecursion (Kinded texts Dec) library → AllByRecursion (Kinded texts Dec) terms → let r = all_tops (start_scope names) library terms nothing_made in
    r.1.refusal ≡ None → (p : Place) → ProgramIs (sizes_of texts r.1) start nothing_made r.1 (program p r.0)
program_done names texts library terms k h e p =
    let r = all_tops (start_scope names) library terms nothing_made in
    let d = all_tops_done (sizes_of texts r.1) library terms k h (start_scope names) nothing_made tt in
    d.says (record { kept = e; types = omega arith; tyvars = omega arith }) start (record { values = tt; base = λ c b. b }) p

pub types_done : (names : List (List ℕ)) (texts : ℕ) (library terms : List Term) → AllByRecursion (Kinded texts Dec) library → AllByRecursion (Kinded texts Dec) terms → let r = all_tops (start_scope names) library terms nothing_made in TypesStand r.1
types_done names texts library terms k h =
    let r = all_tops (start_scope names) library terms nothing_made in
    (all_tops_done (sizes_of texts r.1) library terms k h (start_scope names) nothing_made tt).grows.stand tt
