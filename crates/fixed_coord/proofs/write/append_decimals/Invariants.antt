use Rattle.std.proofs.Common.{◌≡◌, ◌^◌, ◌<◌, ◌≤◌, ◌++◌, take, length}
use Rattle.fixed_coord.specs.Shortest.{decimals}
use Rattle.fixed_coord.proofs.write.append_decimals.Given as goal

abbrev pub invariant-digits : goal.invariant-digits
invariant-digits l =
    record {
      scale : l.scale ≡ 10 ^ l.left;
      few : l.left ≤ 10;
      rest : l.rest < 10 ^ l.left;
      items : l.out.items ++ decimals l.left l.rest ≡ l.fn.out.items ++ decimals l.fn.places l.fn.rest;
      front : take (length l.fn.out.items) l.out.items ≡ l.fn.out.items;
    }

abbrev pub decreases-digits : goal.decreases-digits
decreases-digits l = l.left
