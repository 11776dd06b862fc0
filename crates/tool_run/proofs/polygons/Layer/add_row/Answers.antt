use Rattle.std.proofs.Common.{◌≡◌, ◌∙◌, ◌+◌, ◌++◌, ◌∷◌, [], ap, sym}
use Rattle.ogr_csv.specs.Rows.{line_of}
use Rattle.tool_outcome.specs.Polygonize.{row_of}
use Rattle.tool_run.specs.Inner.Layer.{components_in, rows_left}
use Rattle.tool_run.proofs.LayerLemmas.{row_and_rest}
use Rattle.tool_run.proofs.polygons.Layer.add_row.Goals as goal

pub returns-clause-rows : goal.returns-clause-rows
returns-clause-rows c =
    let layer = c.args.self.now in
    let row = c.in_ok-put_row.ensures.row in
    let fields =
    ap (λ wkt. wkt ∷ c.as_slice-2.result.now ∷ []) c.as_slice.ensures.value
    ∙ ap (λ value. c.put_row.new.row.wkt.items ∷ value ∷ []) c.as_slice-2.ensures.value
    ∙ row.row in
    let added : c.add.new.self ≡ c.args.rows.now ++ line_of (row_of layer.frame row.component) = c.in_ok-add.ensures.ok ∙ ap (λ fields. c.args.rows.now ++ line_of fields) fields in
    row_and_rest (row_of layer.frame) (components_in layer) c.args.k row.component c.args.rows.now row.at ∙ ap (λ text. text ++ rows_left layer (c.args.k + 1)) (sym added)
