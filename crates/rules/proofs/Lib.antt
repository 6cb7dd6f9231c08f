pub mod Laws
pub mod Results
pub mod Views
pub mod Sound
