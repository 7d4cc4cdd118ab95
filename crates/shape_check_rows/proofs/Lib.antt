pub mod OperandsRows
pub mod IntrinsicsRows
pub mod DesignatorsRows
pub mod BlocksRows
pub mod ValuesRows
pub mod UnitsRows
