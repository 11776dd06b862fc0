use Rattle.std.proofs.Common.{◌≡◌, ◌+◌, ◌-◌, drop}
use Rattle.std.specs.List.{prefix_len}
use Rattle.tool_words.specs.Value.{is_number}
use Rattle.tool_words.proofs.reading.count_numbers.Given as goal

-- all words so far are number texts
abbrev pub invariant-numbers : goal.invariant-numbers
invariant-numbers l = record {
  counted : prefix_len is_number (drop l.from l.words) ≡ (l.at - l.from) + prefix_len is_number (drop l.at l.words);
}
