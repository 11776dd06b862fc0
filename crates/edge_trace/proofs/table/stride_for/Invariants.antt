use Rattle.std.proofs.Common.{◌-◌, ◌≡◌, ◌^◌, ◌<◌, ◌≤◌, ◌+◌, ◌*◌}
use Rattle.edge_trace.proofs.table.stride_for.Given as goal

abbrev pub invariant-loop-stride : goal.invariant-loop-stride
invariant-loop-stride l = record {
  power : l.stride ≡ 2 ^ l.shift;
  some : 0 < l.stride;
  short : l.shift < l.stride;
  narrow : l.stride ≤ 2 * (l.ncols + 1);
}

abbrev pub decreases-loop-stride : goal.decreases-loop-stride
decreases-loop-stride l = l.ncols + 2 - l.stride
