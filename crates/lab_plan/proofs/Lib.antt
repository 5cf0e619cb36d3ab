pub mod Items
pub mod OneJob
pub mod OnePlan
pub mod Places
pub mod ProgramOrder
pub mod Refused
pub mod Laws
