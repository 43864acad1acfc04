use Rattle.std.proofs.Common.{◌≡◌, rules}
use Rattle.rv_asm.specs.Layout.{code_from, bytes_of, addresses}
use Rattle.rv_asm.proofs.Standing.{finished}
use Rattle.rv_asm.proofs.asm.Asm.finish.Goals as goal

pub returns-clause-stands : goal.returns-clause-stands
returns-clause-stands c =
    let s = c.self.inside in
    let bytes : c.from_vec.result ≡ bytes_of (code_from s.places.items 0 s.items.items) = search rules in
    let at : c.from_vec-2.result ≡ addresses c.args.base s.places.items = search rules in
    finished c.args.base c.args.self s.items.items s.places.items s.words c.from_vec.result c.from_vec-2.result c.self.view_is c.self.invariant bytes at c.requires
