pub mod Count
pub mod Component
pub mod Labelling
pub mod Run
pub mod RunTable
pub mod Inner
