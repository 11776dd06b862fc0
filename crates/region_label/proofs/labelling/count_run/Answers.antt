use Rattle.std.proofs.Common.{◌≡◌, ◌+◌, ◌<◌, ℕ, List, Some, None, length, get_or, refl, sym, ap, ◌∙◌, arith}
use Rattle.std.specs.Prelude.{slice_get}
use Rattle.std.proofs.lemmas.Option.{slice_get-get_or}
use Rattle.cell_base.specs.Raster.{most_cells}
use Rattle.region_label.proofs.CountedLemmas.{counted_more, counted_skip, next_small, size_within}
use Rattle.region_label.proofs.labelling.count_run.Goals as goal

-- what stands in a list, read from one that is the same
read_from : {A : Type 0} (xs ys : List A) (i : ℕ) (d x : A) → ys ≡ xs → i < length xs → get_or ys i d ≡ x → slice_get xs i ≡ Some x
read_from xs ys i d x same within is = slice_get-get_or xs i d within ∙ ap (λ y. Some y) (ap (λ zs. get_or zs i d) (sym same) ∙ is)

pub returns-in_default : goal.returns-in_default
returns-in_default c =
    let table = c.args.table.now in
    counted_skip table c.args.i c.args.sizes.now (read_from table.components c.components.result.now c.args.i None None c.components.ensures (omega (arith, c.requires.filled.numbered)) c.in_default.is) c.requires.counted

pub overflow_sub-sizes : goal.overflow_sub-sizes
overflow_sub-sizes c =
    let table = c.args.table.now in
    let at = read_from table.runs c.runs.result.now c.args.i (record { row = 0; from = 0; to = 0 }) _ c.runs.ensures.value c.requires.run refl in
    omega (arith, (c.runs.ensures.inside.inside c.args.i _ at).1)

pub bounds-sizes-k : goal.bounds-sizes-k
bounds-sizes-k c =
    let table = c.args.table.now in
    let number = read_from table.components c.components.result.now c.args.i None (Some c.in-Some.k) c.components.ensures (omega (arith, c.requires.filled.numbered)) c.in-Some.is in
    size_within table c.args.i c.in-Some.k c.args.sizes.now c.requires.filled number c.requires.counted

pub overflow_add-sizes : goal.overflow_add-sizes
overflow_add-sizes c =
    let table = c.args.table.now in
    let sizes = c.args.sizes.now in
    let number = read_from table.components c.components.result.now c.args.i None (Some c.in-Some.k) c.components.ensures (omega (arith, c.requires.filled.numbered)) c.in-Some.is in
    let at = read_from table.runs c.runs.result.now c.args.i (record { row = 0; from = 0; to = 0 }) _ c.runs.ensures.value c.requires.run refl in
    let within = size_within table c.args.i c.in-Some.k sizes c.requires.filled number c.requires.counted in
    omega (arith, next_small table c.args.i c.in-Some.k (get_or sizes c.in-Some.k 0) (most_cells + 1) _ sizes c.requires.filled c.requires.small number at (slice_get-get_or sizes c.in-Some.k 0 within) c.requires.counted)

pub returns : goal.returns
returns c =
    let table = c.args.table.now in
    let sizes = c.args.sizes.now in
    let number = read_from table.components c.components.result.now c.args.i None (Some c.in-Some.k) c.components.ensures (omega (arith, c.requires.filled.numbered)) c.in-Some.is in
    let at = read_from table.runs c.runs.result.now c.args.i (record { row = 0; from = 0; to = 0 }) _ c.runs.ensures.value c.requires.run refl in
    let within = size_within table c.args.i c.in-Some.k sizes c.requires.filled number c.requires.counted in
    counted_more table c.args.i c.in-Some.k (get_or sizes c.in-Some.k 0) _ sizes number at (slice_get-get_or sizes c.in-Some.k 0 within) c.requires.counted
