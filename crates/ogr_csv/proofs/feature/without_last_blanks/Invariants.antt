use Rattle.std.proofs.Common.{◌≡◌, ◌<◌, ◌≤◌, ℕ, true, get_or, length}
use Rattle.wkt_text.specs.Tokens.{is_blank}
use Rattle.ogr_csv.proofs.feature.without_last_blanks.Given as goal

-- what stands behind are blanks
abbrev pub invariant-blanks : goal.invariant-blanks
invariant-blanks l = record {
  within : l.len ≤ length l.text;
  blanks : (k : ℕ) → l.len ≤ k → k < length l.text → is_blank (get_or l.text k 0) ≡ true;
}

abbrev pub decreases-blanks : goal.decreases-blanks
decreases-blanks l = l.len
