pub mod ScalarsRows
pub mod ShapesRows
pub mod ProceduresRows
pub mod ModulesRows
pub mod CornersRows
