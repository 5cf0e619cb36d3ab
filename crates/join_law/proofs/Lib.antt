pub mod JoinLemmas
pub mod MergedTree
pub mod JoinOfOneMore
pub mod EightKinParts
pub mod EightPlaces
pub mod Listed
pub mod Laws
