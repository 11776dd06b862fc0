use Rattle.std.proofs.Common.{◌+◌, ◌*◌, ◌<◌, ℕ, sym, ◌∙◌, subst}
use Rattle.edge_trace.specs.Inner.Links.{AreInRows}
use Rattle.edge_trace.specs.Inner.Table.{IsPower}
use Rattle.edge_trace.proofs.BuildLemmas.{all_sides, few_numbers, in_rows, roomy, rows_room, stride_is, stride_power, table_kept}
use Rattle.edge_trace.proofs.WholeLemmas.{edge_table, in_order}
use Rattle.edge_trace.proofs.table.EdgeTable.build.Goals as goal

pub find-requires-clause-stride : goal.find-requires-clause-stride
find-requires-clause-stride c =
    let power : IsPower c.args.regions.now.numbers.ncols c.stride_for-shift.result = subst (λ (n : ℕ). IsPower n c.stride_for-shift.result) c.ncols.ensures.value c.stride_for-shift.ensures in
    stride_is c.args.regions.now c.stride_for-shift.result c.ncols.ensures.shape power

pub links-requires-clause-roomy : goal.links-requires-clause-roomy
links-requires-clause-roomy c =
    let regions = c.args.regions.now in
    let shape = c.ncols.ensures.shape in
    let stride = c.stride_for-shift.result in
    let power : IsPower regions.numbers.ncols stride = subst (λ (n : ℕ). IsPower n stride) c.ncols.ensures.value c.stride_for-shift.ensures in
    let is = stride_is regions stride shape power in
    let whole = all_sides regions stride.stride c.in_ok-sides.sides shape is c.in_ok-sides.ensures in
    roomy regions stride.stride c.in_ok-sides.sides.numbers.items c.in_ok-sides.sides.owners.items shape is whole

pub links-requires-clause-few : goal.links-requires-clause-few
links-requires-clause-few c =
    let regions = c.args.regions.now in
    let shape = c.ncols.ensures.shape in
    let stride = c.stride_for-shift.result in
    let power : IsPower regions.numbers.ncols stride = subst (λ (n : ℕ). IsPower n stride) c.ncols.ensures.value c.stride_for-shift.ensures in
    let is = stride_is regions stride shape power in
    let whole = all_sides regions stride.stride c.in_ok-sides.sides shape is c.in_ok-sides.ensures in
    few_numbers regions stride.stride c.in_ok-sides.sides.numbers.items c.in_ok-sides.sides.owners.items shape is whole

pub invariant_of-result : goal.invariant_of-result
invariant_of-result c =
    let regions = c.args.regions.now in
    let shape = c.ncols.ensures.shape in
    let stride = c.stride_for-shift.result in
    let power : IsPower regions.numbers.ncols stride = subst (λ (n : ℕ). IsPower n stride) c.ncols.ensures.value c.stride_for-shift.ensures in
    let is = stride_is regions stride shape power in
    let whole = all_sides regions stride.stride c.in_ok-sides.sides shape is c.in_ok-sides.ensures in
    table_kept regions stride c.in_ok-sides.sides.numbers.items c.in_ok-sides.sides.owners.items c.in_ok-ways.ways.items shape power whole c.in_ok-ways.ensures.follows c.in_ok-ways.ensures.linked

pub returns-clause-table : goal.returns-clause-table
returns-clause-table c =
    let regions = c.args.regions.now in
    let shape = c.ncols.ensures.shape in
    let stride = c.stride_for-shift.result in
    let power : IsPower regions.numbers.ncols stride = subst (λ (n : ℕ). IsPower n stride) c.ncols.ensures.value c.stride_for-shift.ensures in
    let is = stride_is regions stride shape power in
    let whole = all_sides regions stride.stride c.in_ok-sides.sides shape is c.in_ok-sides.ensures in
    edge_table regions stride.stride c.in_ok-sides.sides.numbers.items c.in_ok-sides.sides.owners.items c.in_ok-ways.ways.items whole c.in_ok-ways.ensures.follows c.in_ok-ways.ensures.linked

pub returns-clause-order : goal.returns-clause-order
returns-clause-order c =
    let regions = c.args.regions.now in
    let shape = c.ncols.ensures.shape in
    let stride = c.stride_for-shift.result in
    let power : IsPower regions.numbers.ncols stride = subst (λ (n : ℕ). IsPower n stride) c.ncols.ensures.value c.stride_for-shift.ensures in
    let is = stride_is regions stride shape power in
    let whole = all_sides regions stride.stride c.in_ok-sides.sides shape is c.in_ok-sides.ensures in
    in_order regions stride.stride c.in_ok-sides.sides.numbers.items c.in_ok-sides.sides.owners.items c.in_ok-ways.ways.items whole

pub links-requires-clause-power : goal.links-requires-clause-power
links-requires-clause-power c =
    let regions = c.args.regions.now in
    let shape = c.ncols.ensures.shape in
    let stride = c.stride_for-shift.result in
    let power : IsPower regions.numbers.ncols stride = subst (λ (n : ℕ). IsPower n stride) c.ncols.ensures.value c.stride_for-shift.ensures in
    let is = stride_is regions stride shape power in
    stride_power regions.numbers.ncols stride power is.narrow

pub links-requires-clause-room : goal.links-requires-clause-room
links-requires-clause-room c =
    let regions = c.args.regions.now in
    let shape = c.ncols.ensures.shape in
    let stride = c.stride_for-shift.result in
    let power : IsPower regions.numbers.ncols stride = subst (λ (n : ℕ). IsPower n stride) c.ncols.ensures.value c.stride_for-shift.ensures in
    let is = stride_is regions stride shape power in
    subst (λ (n : ℕ). (n + 3) * (4 * stride.stride) + 4 < 4294967296) (sym (c.nrows.ensures ∙ c.table-table.ensures.runs.nrows)) (rows_room regions.numbers.nrows regions.numbers.ncols stride.stride is)

pub links-requires-clause-rows : goal.links-requires-clause-rows
links-requires-clause-rows c =
    let regions = c.args.regions.now in
    let shape = c.ncols.ensures.shape in
    let stride = c.stride_for-shift.result in
    let power : IsPower regions.numbers.ncols stride = subst (λ (n : ℕ). IsPower n stride) c.ncols.ensures.value c.stride_for-shift.ensures in
    let is = stride_is regions stride shape power in
    let whole = all_sides regions stride.stride c.in_ok-sides.sides shape is c.in_ok-sides.ensures in
    subst (λ (n : ℕ). AreInRows stride.stride n c.in_ok-sides.sides.numbers.items) (sym (c.nrows.ensures ∙ c.table-table.ensures.runs.nrows)) (in_rows regions stride.stride c.in_ok-sides.sides.numbers.items c.in_ok-sides.sides.owners.items shape is whole)
