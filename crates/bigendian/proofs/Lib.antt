pub mod BigEndian
pub mod Words
pub mod Reading
pub mod RowLaws
pub mod Settled
