pub mod Counting
pub mod Forms
pub mod Graphs
pub mod Made
pub mod Members
pub mod OnceEach
pub mod Ordered
pub mod Sets
