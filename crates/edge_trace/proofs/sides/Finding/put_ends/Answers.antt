use Rattle.std.proofs.Common.{◌+◌, ◌-◌, ◌*◌, arith}
use Rattle.edge_trace.proofs.CellLemmas.{ends_pushed, number_room}
use Rattle.edge_trace.proofs.GrowLemmas.{narrow_of}
use Rattle.edge_trace.proofs.sides.Finding.put_ends.Goals as goal

pub overflow_add-row : goal.overflow_add-row
overflow_add-row c =
    let room = number_room c.args.regions.now c.args.stride c.args.k c.args.run c.args.from c.requires.shape c.requires.stride c.requires.run c.requires.first (omega (arith, c.requires.some, c.requires.last)) in
    omega (arith, room.low, room.row, room.col, room.narrow)

pub overflow_mul-row : goal.overflow_mul-row
overflow_mul-row c =
    let room = number_room c.args.regions.now c.args.stride c.args.k c.args.run c.args.from c.requires.shape c.requires.stride c.requires.run c.requires.first (omega (arith, c.requires.some, c.requires.last)) in
    omega (arith, room.low, room.row, room.col, room.narrow)

pub overflow_add-row-2 : goal.overflow_add-row-2
overflow_add-row-2 c =
    let room = number_room c.args.regions.now c.args.stride c.args.k c.args.run c.args.from c.requires.shape c.requires.stride c.requires.run c.requires.first (omega (arith, c.requires.some, c.requires.last)) in
    omega (arith, room.low, room.row, room.col, room.narrow)

pub overflow_mul-row-2 : goal.overflow_mul-row-2
overflow_mul-row-2 c =
    let room = number_room c.args.regions.now c.args.stride c.args.k c.args.run c.args.from c.requires.shape c.requires.stride c.requires.run c.requires.first (omega (arith, c.requires.some, c.requires.last)) in
    omega (arith, room.low, room.row, room.col, room.narrow)

pub overflow_add-row-3 : goal.overflow_add-row-3
overflow_add-row-3 c =
    let room = number_room c.args.regions.now c.args.stride c.args.k c.args.run (c.args.to - 1) c.requires.shape c.requires.stride c.requires.run (omega (arith, c.requires.first, c.requires.some)) (omega (arith, c.requires.some, c.requires.last)) in
    omega (arith, room.low, room.row, room.col, room.narrow, c.requires.some)

pub overflow_mul-row-3 : goal.overflow_mul-row-3
overflow_mul-row-3 c =
    let room = number_room c.args.regions.now c.args.stride c.args.k c.args.run (c.args.to - 1) c.requires.shape c.requires.stride c.requires.run (omega (arith, c.requires.first, c.requires.some)) (omega (arith, c.requires.some, c.requires.last)) in
    omega (arith, room.low, room.row, room.col, room.narrow, c.requires.some)

pub overflow_add-row-4 : goal.overflow_add-row-4
overflow_add-row-4 c =
    let room = number_room c.args.regions.now c.args.stride c.args.k c.args.run (c.args.to - 1) c.requires.shape c.requires.stride c.requires.run (omega (arith, c.requires.first, c.requires.some)) (omega (arith, c.requires.some, c.requires.last)) in
    omega (arith, room.low, room.row, room.col, room.narrow, c.requires.some)

pub returns-clause-after : goal.returns-clause-after
returns-clause-after c = ends_pushed c.args.regions.now c.args.stride c.args.k c.args.run c.args.from c.args.to (((c.args.run.row + 1) * c.args.stride + (c.args.from + 1)) * 4) (((c.args.run.row + 1) * c.args.stride + c.args.to) * 4 + 2) _ _ _ (narrow_of c.args.regions.now c.args.stride c.requires.shape c.requires.stride) c.requires.run c.requires.first c.requires.some c.requires.last c.requires.above c.requires.below (omega arith) (omega (arith, c.requires.some)) c.requires.before c.put.ensures.adds c.put-2.ensures.adds
