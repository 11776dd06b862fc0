use Rattle.std.proofs.Common.{◌≡◌, length, refl}
use Rattle.region_label.proofs.BlockLemmas.{put_first}
use Rattle.region_label.proofs.rows.RowRuns.begin.Goals as goal

pub returns : goal.returns
returns c =
    let blocks = c.args.blocks.now in
    let count : c.len.result ≡ length blocks.ends.items = cc (blocks.ends.ok.0, c.len.ensures) in
    put_first c.args.self.now blocks _ _ c.args.run _ _ c.requires.placed c.requires.run count c.in_ok-push.ensures.items c.in_ok-push-2.ensures.items refl refl
