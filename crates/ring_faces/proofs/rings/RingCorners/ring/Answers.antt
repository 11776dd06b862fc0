use Rattle.std.proofs.Common.{◌≡◌, ◌∙◌, ◌+◌, ℕ, ap, sym, arith}
use Rattle.std.specs.Prelude.{slice_index}
use Rattle.std.proofs.lemmas.List.{get_or_default}
use Rattle.ring_faces.specs.Inner.Chains.{between}
use Rattle.ring_faces.specs.Inner.Lattice.{corners_of}
use Rattle.ring_faces.proofs.CornerLemmas.{lent_corners}
use Rattle.ring_faces.proofs.rings.RingCorners.ring.Goals as goal

pub returns : goal.returns
returns c =
    let rings = c.args.self.now in
    let from : c.index.result.now ≡ slice_index rings.starts.items c.args.at = c.index.ensures
    ∙ sym (get_or_default rings.starts.items c.args.at 0 c.index.result.now (omega (arith, c.requires.at))) in
    let to : c.index-2.result.now ≡ slice_index rings.starts.items (c.args.at + 1) = c.index-2.ensures
    ∙ sym (get_or_default rings.starts.items (c.args.at + 1) 0 c.index-2.result.now (omega (arith, c.requires.at))) in
    c.of.ensures ∙ rw c.deref.ensures.value (lent_corners rings.lattice.width rings.corners.items c.index.result.now c.index-2.result.now)
    ∙ ap (λ (n : ℕ). between (corners_of rings.lattice.width rings.corners.items) n c.index-2.result.now) from
    ∙ ap (between (corners_of rings.lattice.width rings.corners.items) (slice_index rings.starts.items c.args.at)) to
