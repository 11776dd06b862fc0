use Rattle.std.proofs.Common.{Some, ap, ◌∙◌}
use Rattle.burn_scanline.specs.Runs.{is_in_runs}
use Rattle.burn_scanline.proofs.CoverLemmas.{marked_set}
use Rattle.all_touched.proofs.touched.cover_touched.Goals as goal

pub returns-clause-covered : goal.returns-clause-covered
returns-clause-covered c = λ p in_rows in_cols.
    let frame = c.args.frame.now in
    let made = rw (c.requires.cols, c.requires.rows) at c.fill.ensures in
    marked_set frame.ncols frame.nrows (is_in_runs c.touched_runs.new.runs) c.fill.new.self c.mark_runs.new.cover made c.requires.frame.some_cols c.requires.frame.some_rows c.requires.frame.few_cells c.mark_runs.ensures p in_rows in_cols ∙ ap (λ b. Some b) (c.in_ok-touched_runs.ensures.cells p in_rows in_cols)
