-- Blanks at the end of a text.
use Rattle.std.proofs.Common.{◌≡◌, ℕ, ◌-◌, ◌<◌, ◌≤◌, true, false, List, length, take, get_or, arith, ap, ◌∙◌, sym}
use Rattle.std.specs.List.{suffix_len}
use Rattle.std.proofs.lemmas.List.Sums.{suffix_len_is}
use Rattle.wkt_text.specs.Tokens.{is_blank}
use Rattle.ogr_csv.specs.Attribute.{without_last_blanks}

pub cut_behind : (text : List ℕ) (n : ℕ) → n ≤ length text → ((k : ℕ) → n ≤ k → k < length text → is_blank (get_or text k 0) ≡ true)
    → (0 < n → is_blank (get_or text (n - 1) 0) ≡ false) → take n text ≡ without_last_blanks text
cut_behind text n within blanks stops =
    let count : suffix_len is_blank text ≡ length text - n = suffix_len_is is_blank text n 0 within blanks stops in
    let same : n ≡ length text - suffix_len is_blank text = omega (arith, count, within) in
    ap (λ k. take k text) same
