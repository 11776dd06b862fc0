use Rattle.ogr_csv.proofs.LayerLemmas.{layer_of-text_of_rows}
use Rattle.ogr_csv.proofs.laws.reads_what_is_written.Goals as goal

pub returns : goal.returns
returns c = layer_of-text_of_rows
