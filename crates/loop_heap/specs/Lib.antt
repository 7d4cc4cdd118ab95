pub mod Halts
pub mod Heap
pub mod Contents
pub mod Slots
