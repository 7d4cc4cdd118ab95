pub mod ArgumentsRows
pub mod ProceduresRows
