use Rattle.std.proofs.Common.{◌≡◌, ap, ◌∙◌, arith, unsigned_abs, Ok, to_z, of_z, w64}
use Rattle.std.proofs.lemmas.Int.{ints}
use Rattle.std.proofs.lemmas.Result.{err_from_is_err_and}
use Rattle.fixed_coord.specs.Whole.{whole_of}
use Rattle.cell_base.specs.WholeCells.{between, least_byte, most_byte, least_int64, most_int64}
use Rattle.cell_base.proofs.NarrowLemmas.{narrow_ok, narrow_err}
use Rattle.cell_base.proofs.whole.U8Cell.read.Goals as goal

pub returns-in_err-read_whole : goal.returns-in_err-read_whole
returns-in_err-read_whole c =
    let p = err_from_is_err_and c.from_residual.result c.from_residual.ensures.1 in
    rw (p.1, p.2) (narrow_err unsigned_abs least_byte most_byte least_int64 most_int64 (whole_of c.args.text.now) _ (omega (arith, ints)) (omega (arith, ints)) c.in_err-read_whole.ensures)

pub returns : goal.returns
returns c =
    let same : to_z w64 (of_z w64 c.in_ok-read_whole.field-0) ≡ c.in_ok-read_whole.field-0 = omega (arith, ints) in
    c.narrow_u8.ensures ∙ ap (λ n. between unsigned_abs least_byte most_byte (Ok n)) same
    ∙ narrow_ok unsigned_abs least_byte most_byte least_int64 most_int64 (whole_of c.args.text.now) c.in_ok-read_whole.field-0 c.in_ok-read_whole.ensures
