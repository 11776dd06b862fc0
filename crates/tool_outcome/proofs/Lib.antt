pub mod MaskLemmas
pub mod SieveLemmas
pub mod PolygonizeLemmas
pub mod LayerExistsLemmas
pub mod ContourLemmas
pub mod OneOutcomeLemmas
pub mod WrittenLemmas
mod RasterizeExamples
pub mod CheckLemmas
pub mod CheckExamples
