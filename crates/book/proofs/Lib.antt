pub mod Peace
pub mod Taking
