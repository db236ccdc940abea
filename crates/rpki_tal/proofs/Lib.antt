pub mod LineFacts
pub mod UriFacts
pub mod Unique
pub mod Order
pub mod KeyReading
pub mod Refusing
pub mod OneFault
