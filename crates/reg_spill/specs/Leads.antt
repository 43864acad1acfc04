-- What the steps of a body lead to.
use Rattle.std.specs.Prelude.{◌≡◌, ℕ, List, Some, length, map, slice_get}
use Rattle.std.specs.List.{AllByRecursion}
use Rattle.sml_tree.specs.Sets.{row_at}
use Rattle.closure_ir.specs.declared.body.Body.{Body}
use Rattle.closure_ir.specs.Program as closing
use Rattle.closure_ir.specs.Program.{Closed}
use Rattle.closure_ir.specs.Kept as kept
use Rattle.placed_ir.specs.declared.body.Step.{Step}
use Rattle.placed_ir.specs.declared.body.Body.{Body as BodyThere}
use Rattle.placed_ir.specs.Program.{Placed, code_of_steps}
use Rattle.placed_ir.specs.Kept as there
use Rattle.place_laws.specs.Place.{Places, place_code}
use Rattle.closed_live.specs.Rows.{AreLive}
use Rattle.closed_live.proofs.Unfold.{AreNumbered}
use Rattle.place_bodies.specs.Steps.{at_of}

-- In each program in which this body stands at a place where these variables live, the steps lead from these places to those of the table.
abbrev pub Leads : List (List ℕ) → Body → List ℕ → List ℕ → List Step → List ℕ → Type 0
Leads lives b live entry steps table =
    (bodies : List Body) (i : ℕ) → AreNumbered bodies → slice_get bodies i ≡ Some b → AreLive bodies 0 lives → live ≡ row_at lives i → (at : Places) → entry ≡ map at live →
    place_code at (closing.code_of_binds b.binds (closing.code_of_end (closing.code_at bodies) b.end)) ≡ code_of_steps steps (place_code (at_of table) (closing.code_of_end (closing.code_at bodies) b.end))

-- In each placed program with as many functions, texts and names as the closed one, what these bodies cite stands there and in its range.
abbrev pub AreKept : Closed → List BodyThere → Type 0
AreKept p theres =
    (q : Placed) → length p.functions ≡ length q.functions → length p.texts ≡ length q.texts → length p.exns ≡ length q.exns → AllByRecursion (there.BodyKept q) theres

-- and what a body cites, if it does of the body that was placed
abbrev pub Keeps : Body → BodyThere → Type 0
Keeps b t =
    (p : Closed) (q : Placed) → length p.functions ≡ length q.functions → length p.texts ≡ length q.texts → length p.exns ≡ length q.exns → kept.BodyKept p b → there.BodyKept q t
