pub mod Each
pub mod Lists
pub mod Words
pub mod Laws
