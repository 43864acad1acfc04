-- Primitives by what they come to, and constructors by the blocks that they make.
use Rattle.std.specs.Prelude.{ℕ, suc, true, false, List, [], ◌∷◌, Option, Some, None}
use Rattle.smlc_base.specs.declared.primitive.Primitive.{Primitive}
use Rattle.smlc_base.specs.declared.primitive.Primitive.TheVariants as prim
use Rattle.sml_tree.specs.declared.bare.Con.{Con}
use Rattle.sml_tree.specs.declared.bare.Con.TheVariants as con
use Rattle.cps_ir.specs.declared.atom.Atom.{Atom}
use Rattle.cps_ir.specs.declared.atom.Constant.TheVariants as constant
use Rattle.cps_ir.specs.declared.atom.Shape.{Shape}
use Rattle.cps_ir.specs.declared.atom.Shape.TheVariants as shape
use Rattle.cps_ir.specs.Code.{Code, Prim}
use Rattle.convert_laws.specs.Convert.{Scope, Kon, variable, known, apply}
use Rattle.convert_steps.specs.declared.ends.Compared.{Compared}
use Rattle.convert_steps.specs.declared.task.Continuation.{Continuation}
use Rattle.convert_steps.specs.declared.task.Continuation.TheVariants as continuation

abbrev pub atom_by : Continuation → Atom
atom_by (continuation.Known a) = a
atom_by (continuation.Text r) = known constant.Nothing

abbrev pub plain_code : Primitive → Kon → List Atom → ℕ → Code
plain_code f κ atoms n = Prim n f atoms (apply κ (variable n) (suc n))

-- two atoms that are compared
abbrev pub comparison : Primitive → List Atom → Option Compared
comparison prim.Equal (a ∷ b ∷ []) = Some (record { left = a; right = b; truth = true })
comparison prim.Unequal (a ∷ b ∷ []) = Some (record { left = a; right = b; truth = false })
comparison f atoms = None

abbrev pub listed : Option Atom → Atom → List Atom
listed None a = a ∷ []
listed (Some f) a = f ∷ a ∷ []

-- ---- Constructors

abbrev pub constructor_shape : Con → Shape
constructor_shape (con.Data t number takes) = shape.Applied number
constructor_shape con.Ref = shape.Cell
constructor_shape (con.Exn x takes) = shape.Packet
constructor_shape (con.Library e) = shape.Packet

abbrev pub constructor_atoms : Scope → Con → Atom → List Atom
constructor_atoms σ (con.Data t number takes) a = a ∷ []
constructor_atoms σ con.Ref a = a ∷ []
constructor_atoms σ (con.Exn x takes) a = σ x.0 ∷ a ∷ []
constructor_atoms σ (con.Library e) a = known (constant.Library e) ∷ a ∷ []
