use Rattle.rv_pieces.proofs.Jumping.{jump_arrives, address_arrives}
use Rattle.rv_pieces.proofs.items_arrive.Goals as goal

pub returns-clause-jump : goal.returns-clause-jump
returns-clause-jump c I places label a near far z q0 q1 st = jump_arrives I places label a near far z q0 q1 st

pub returns-clause-address : goal.returns-clause-address
returns-clause-address c I places rd label a d8 d near far z q0 q1 st = address_arrives I places rd label a d8 d near far z q0 q1 st
