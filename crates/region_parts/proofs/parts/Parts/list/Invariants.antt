use Rattle.std.proofs.Common.{◌≡◌, ◌++◌, ◌-◌, List, ℕ, length}
use Rattle.std.specs.Prelude.{slice_index}
use Rattle.region_parts.specs.Inner.Lists.{IsChain, chain_from}
use Rattle.region_parts.proofs.parts.Parts.list.Given as goal

-- what is listed and what is still linked make the whole list
abbrev pub invariant-parts : goal.invariant-parts
invariant-parts l = record {
  rest : List ℕ;
  chain : IsChain l.self-inside.lists.links.items l.at rest;
  whole : l.out.items ++ rest ≡ chain_from l.self-inside.lists.links.items (length l.self-inside.lists.links.items) (slice_index l.self-inside.lists.firsts.items l.k);
}

abbrev pub decreases-parts : goal.decreases-parts
decreases-parts l = length l.self-inside.lists.links.items - l.at
