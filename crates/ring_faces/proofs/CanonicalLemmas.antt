-- Canonical polygons of one set under two descriptions.
use Rattle.std.proofs.Common.{◌↔◌}
use Rattle.cell_base.specs.Raster.{Place}
use Rattle.ring_faces.specs.LatticePolygon.{Polygon}
use Rattle.ring_faces.specs.CanonicalPolygon.{IsCanonicalPolygon, IsOnly}

pub canonical_same : (P Q : Place → Type 0) → ((p : Place) → P p ↔ Q p) → (polygon : Polygon) → IsCanonicalPolygon P polygon → IsCanonicalPolygon Q polygon
canonical_same P Q same polygon canonical = record {
  valid = canonical.valid;
  covers = λ cell. (λ covered. (same cell).0 ((canonical.covers cell).0 covered), λ is. (canonical.covers cell).1 ((same cell).1 is));
  left = λ e member.
      let found = canonical.left e member in
      (found.0, found.1, (same found.0).0 found.2);
  turns = canonical.turns;
  starts = canonical.starts;
  order = canonical.order;
}

pub only_same : (P Q : Place → Type 0) → ((p : Place) → P p ↔ Q p) → (polygon : Polygon) → IsOnly (IsCanonicalPolygon P) polygon → IsOnly (IsCanonicalPolygon Q) polygon
only_same P Q same polygon only = (canonical_same P Q same polygon only.0, λ other canonical. only.1 other (canonical_same Q P (λ p. ((same p).1, (same p).0)) other canonical))
