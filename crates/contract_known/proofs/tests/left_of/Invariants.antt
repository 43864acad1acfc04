use Rattle.std.specs.Prelude.{◌≡◌, drop}
use Rattle.contract_known.specs.Known.{place_of, made_at, tests_known}
use Rattle.contract_known.proofs.Law.{put_first}
use Rattle.contract_known.proofs.tests.left_of.Given as goal

abbrev pub invariant-loop-test : goal.invariant-loop-test
invariant-loop-test l = put_first l.left.items (tests_known l.texts (place_of l.places) (made_at l.blocks l.root) l.atom (drop l.test-index l.tests)) ≡ tests_known l.texts (place_of l.places) (made_at l.blocks l.root) l.atom l.tests
