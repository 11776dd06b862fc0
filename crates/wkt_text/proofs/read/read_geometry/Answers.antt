use Rattle.wkt_text.proofs.WritableLemmas.{whole_writable}
use Rattle.wkt_text.proofs.read.read_geometry.Goals as goal

pub returns-in-Ok-clause-writable : goal.returns-in-Ok-clause-writable
returns-in-Ok-clause-writable c = whole_writable c.of-cursor.result.tokens c.in-Ok.geometry c.whole.new.cursor.tokens c.in-Ok.ensures.read
