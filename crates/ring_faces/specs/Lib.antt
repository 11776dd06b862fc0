pub mod Ring
pub mod LatticePolygon
pub mod EdgePolygon
pub mod CanonicalPolygon
pub mod Faces
pub mod Inner
